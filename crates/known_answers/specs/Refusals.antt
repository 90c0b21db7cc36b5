-- Why a line is not read.
use Rattle.hex.specs.declared.error.FromHexError.{FromHexError}
use Rattle.hex.specs.declared.error.FromHexError.TheVariants.{OutOfMemory}
use Rattle.known_answers.specs.declared.question_lines.Unreadable.{Unreadable}
use Rattle.known_answers.specs.declared.question_lines.Unreadable.TheVariants.{Form, Memory}

-- by what decoding hex refuses
abbrev pub unreadable_by : FromHexError → Unreadable
unreadable_by OutOfMemory = Memory
unreadable_by error = Form
