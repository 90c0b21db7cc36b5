-- The grammar of scripts: what each line means under the lines above it.
use Rattle.std.specs.Prelude.{ℕ, ◌+◌, Bool, true, not, ◌&&◌, nat_lt, nat_eq, List, [], ◌∷◌, ◌++◌, length, if◌then◌else◌, codes, Option, Some, None, is_none, position, Result, Ok, Err}
use Rattle.std.specs.List.{starts_with}
use Rattle.script_text.specs.declared.script.Control.{Control}
use Rattle.script_text.specs.declared.script.Control.TheVariants.{Restore}
use Rattle.script_text.specs.declared.script.Step.{Step}
use Rattle.script_text.specs.declared.script.Step.TheVariants.{Call as CallStep, Control as ControlStep}
use Rattle.script_text.specs.declared.reading.ScriptFault.{ScriptFault}
use Rattle.script_text.specs.declared.reading.ScriptFault.TheVariants.{BadLine, TooManyApps}
use Rattle.script_text.specs.Lines.{lines_of, words_of, is_ascii}
use Rattle.script_text.specs.Words.{same_word, is_name, uuid_of}
use Rattle.script_text.specs.Script.{Declaration, ScriptValue, no_script, has_call, is_saved}
use Rattle.script_text.specs.Calls.{◌>>=◌, call_words}
use Rattle.script_text.specs.Controls.{control_of}

-- the place of the application of that name
abbrev pub place_of : List ℕ → List Declaration → Option ℕ
place_of name applications = position (λ d. same_word name d.name) applications

abbrev pub with_step : ScriptValue → Step → ScriptValue
with_step script step = record script { steps = script.steps ++ step ∷ [] }

-- `NAME CALL`, where NAME is declared above
unfoldable pub call_line : ScriptValue → List ℕ → List (List ℕ) → Option ScriptValue
call_line above name words = do
  place ← place_of name above.applications
  call ← call_words words
  Some (with_step above (CallStep place call))

-- an application may be declared under that name: it has the form of one and is new, and no call stands above
abbrev pub may_declare : ScriptValue → List ℕ → Bool
may_declare above name = is_name name && not (has_call above.steps) && is_none (place_of name above.applications)

-- `app NAME UUID`
unfoldable pub app_line : ScriptValue → List (List ℕ) → Option ScriptValue
app_line above (name ∷ uuid ∷ []) =
    if may_declare above name
    then (do
      app ← uuid_of uuid
      Some (record above { applications = above.applications ++ record { name = name; app = app } ∷ [] }))
    else None
app_line above _ = None

-- what a control puts back was saved above
abbrev pub may_stand : List Step → Control → Bool
may_stand above (Restore file mark) = is_saved mark above
may_stand above control = true

unfoldable pub control_line : ScriptValue → Control → Option ScriptValue
control_line above control = if may_stand above.steps control then Some (with_step above (ControlStep control)) else None

-- a control, or a call
unfoldable pub step_line : ScriptValue → List ℕ → List (List ℕ) → Option ScriptValue
step_line above word words = elim (control_of word words) [
  | Some control ↦ control_line above control
  | None ↦ call_line above word words
]

-- the script with one more line, of these words; a line without words and a comment add nothing
unfoldable pub words_line : ScriptValue → List (List ℕ) → Option ScriptValue
words_line above [] = Some above
words_line above (word ∷ words) =
    if starts_with nat_eq word (codes "#") then Some above
    else if same_word word (codes "app") then app_line above words
    else step_line above word words

-- the script with one more line
unfoldable pub line_of : ScriptValue → List ℕ → Option ScriptValue
line_of above line = if is_ascii line then words_line above (words_of line) else None

-- the script with these lines, numbered from n on; or the number of the first that is outside the grammar
unfoldable pub script_from : ScriptValue → ℕ → List (List ℕ) → Result ScriptValue ScriptFault
script_from above n [] = Ok above
script_from above n (line ∷ lines) = elim (line_of above line) [
  | Some script ↦ script_from script (n + 1) lines
  | None ↦ Err (BadLine n)
]

-- a script has at most 16 applications
abbrev pub few_applications : Result ScriptValue ScriptFault → Result ScriptValue ScriptFault
few_applications (Err fault) = Err fault
few_applications (Ok script) = if nat_lt 16 (length script.applications) then Err (TooManyApps (length script.applications)) else Ok script

-- the script that a text is; or its first line outside the grammar; or, where none is, that it declares too many applications
abbrev pub script_of : List ℕ → Result ScriptValue ScriptFault
script_of text = few_applications (script_from no_script 1 (lines_of text))
