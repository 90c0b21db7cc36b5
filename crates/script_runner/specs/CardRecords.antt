-- What came of the lines of a script of the card, and the text of its run.
use Rattle.std.specs.Prelude.{ℕ, ◌+◌, List, [], ◌∷◌, ◌++◌, Option, Some, None, codes, decimal}
use Rattle.tee_types.specs.declared.reply.Cause.{Cause}
use Rattle.tee_types.specs.declared.reply.Cause.TheVariants.{Fault, Frame, CardResult}
use Rattle.card_script.specs.declared.card_line.CardLine.{CardLine}
use Rattle.card_script.specs.declared.card_line.CardReply.{CardReply}
use Rattle.card_script.specs.declared.card_line.CardReply.TheVariants.{Done, Content, NotFound, TooLarge, Full, Spent, Device}
use Rattle.card_script.specs.CardText.{answer_line, listed_line}
use Rattle.card_maps.specs.declared.name.CardName.{CardName}
use Rattle.card_maps.specs.Course as course
use Rattle.rpmb_files.specs.declared.fault.CardFault.{CardFault}
use Rattle.rpmb_files.specs.declared.fault.CardFault.TheVariants.{Bad, Device as DeviceFault, Full as FullFault, NoMemory, NotFound as NotFoundFault, Spent as SpentFault, TooLarge as TooLargeFault}
use Rattle.run_acts.specs.declared.MountFault.{MountFault}
use Rattle.run_acts.specs.declared.MountFault.TheVariants.{CardResult as CardResultRefused, Failed, Frame as FrameRefused}
use Rattle.run_acts.specs.Lines.{refusal_line}

-- What came of a line that was done: a reply, or the names that `list` shows.
pub data CardRecord : Type 0 where
  Told : CardReply → CardRecord
  Named : List CardName → CardRecord

-- a printed reply as one of a finite map
abbrev pub map_reply : CardReply → course.CardReply
map_reply Done = course.Done
map_reply (Content bytes) = course.Found bytes
map_reply NotFound = course.NotFound
map_reply (TooLarge size) = course.TooLarge size
map_reply (Full need free) = course.Full need free
map_reply Spent = course.Spent
map_reply Device = course.Failed

abbrev pub names_text : List CardName → List ℕ
names_text [] = []
names_text (name ∷ names) = listed_line name.app name.id name.size ++ names_text names

-- the text of the line at that place
abbrev pub record_text : ℕ → CardLine → CardRecord → List ℕ
record_text place line (Told reply) = answer_line place line reply
record_text place line (Named names) = answer_line place line Done ++ names_text names

-- the text of these lines, the first of them at that place; what has no record was not done
unfoldable pub lines_text : ℕ → List CardLine → List CardRecord → List ℕ
lines_text place [] records = []
lines_text place (line ∷ lines) [] = []
lines_text place (line ∷ lines) (done ∷ records) = record_text place line done ++ lines_text (place + 1) lines records

-- what the answer of a device is told as where the card is mounted
abbrev pub told_mount : Cause → MountFault
told_mount (Fault device count) = Failed (Fault device count)
told_mount (Frame fault) = FrameRefused fault
told_mount (CardResult value) = CardResultRefused value

-- the line of a card whose blocks have not the form of objects: the first block that has not, and its first byte
unfoldable pub card_map_line : (block offset : ℕ) → List ℕ
card_map_line block offset = codes "# refused card-map " ++ decimal block ++ codes " " ++ decimal offset ++ codes "\n"

-- the line of a mount that was refused, or nothing
abbrev pub mount_line : CardFault → List ℕ
mount_line (Bad block offset) = card_map_line block offset
mount_line (DeviceFault cause) = refusal_line (told_mount cause)
mount_line NoMemory = []
mount_line (TooLargeFault size) = []
mount_line NotFoundFault = []
mount_line (FullFault need free) = []
mount_line SpentFault = []

abbrev pub refused_text : Option CardFault → List ℕ
refused_text None = []
refused_text (Some fault) = mount_line fault

-- the text of a run of these lines: of those with a record, and of the mount that was refused behind them, if so
abbrev pub card_output : List CardLine → List CardRecord → (refused : Option CardFault) → List ℕ
card_output lines records refused = lines_text 0 lines records ++ refused_text refused
