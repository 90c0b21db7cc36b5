-- What reading a text answers.
use Rattle.std.specs.Prelude.{◌≡◌, ◌≤◌, ◌+◌, length, Bool, true, false, Option, Some, None, Result, Ok, Err}
use Rattle.script_text.specs.declared.reading.ScriptFault.{ScriptFault}
use Rattle.script_text.specs.declared.reading.ScriptFault.TheVariants.{BadLine, TooManyApps, NoMemory}
use Rattle.script_text.specs.Script.{ScriptValue}

-- the script that the text is, or why it is none; or there is no memory
abbrev pub IsParsed : Result ScriptValue ScriptFault → Result ScriptValue ScriptFault → Type 0
IsParsed (Ok script) meant = meant ≡ Ok script
IsParsed (Err (BadLine line)) meant = meant ≡ Err (BadLine line)
IsParsed (Err (TooManyApps applications)) meant = meant ≡ Err (TooManyApps applications)
IsParsed (Err NoMemory) meant = Unit {0}

-- The line is in the grammar and the new script has its meaning too; or it is not, and nothing changed.
abbrev pub IsRead : Bool → ScriptValue → ScriptValue → Option ScriptValue → Type 0
IsRead true old new meant = meant ≡ Some new
IsRead false old new meant = (meant ≡ None) × (new ≡ old)

-- At most one application and one step more than before.
pub record HasGrown (old new : ScriptValue) : Type 0 where
  pub applications : length new.applications ≤ length old.applications + 1
  pub steps : length new.steps ≤ length old.steps + 1
