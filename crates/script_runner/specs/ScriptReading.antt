-- Why reading a script ends without one.
use Rattle.std.specs.Prelude.{ℕ, ◌≡◌, ◌≤◌, Result, Err}
use Rattle.script_text.specs.declared.reading.ScriptFault.{ScriptFault}
use Rattle.script_text.specs.declared.reading.ScriptFault.TheVariants.{BadLine as BadLineFault, TooManyApps, NoMemory as NoMemoryFault}
use Rattle.script_text.specs.Script.{ScriptValue}
use Rattle.script_runner.specs.declared.status.Status.{Status}
use Rattle.script_runner.specs.declared.status.Status.TheVariants.{BadLine, ReadFault, TooLong, NoMemory}
use Rattle.script_runner.specs.declared.status.Excess.TheVariants.{Bytes, Apps}

-- the source failed, or there is no memory
abbrev pub IsPieceError : Type 0 → Status → Type 0
IsPieceError failed ReadFault = failed
IsPieceError failed NoMemory = Unit {0}
IsPieceError failed _ = ⊥

-- the source failed within the limit, or so many bytes are too many, or there is no memory
abbrev pub IsReadError : Type 0 → ℕ → Status → Type 0
IsReadError failed count ReadFault = failed × (count ≤ 16777216)
IsReadError failed count (TooLong Bytes) = count ≡ 16777217
IsReadError failed count NoMemory = Unit {0}
IsReadError failed count _ = ⊥

-- the status of a text that is no script
abbrev pub status_of : ScriptFault → Status
status_of (BadLineFault line) = BadLine line
status_of (TooManyApps n) = TooLong (Apps n)
status_of NoMemoryFault = NoMemory

-- the first line outside the grammar, or too many applications, or there is no memory
abbrev pub IsScriptError : Result ScriptValue ScriptFault → Status → Type 0
IsScriptError meant (BadLine line) = meant ≡ Err (BadLineFault line)
IsScriptError meant (TooLong (Apps n)) = meant ≡ Err (TooManyApps n)
IsScriptError meant NoMemory = Unit {0}
IsScriptError meant _ = ⊥
