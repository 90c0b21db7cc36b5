-- A text read one line on.
use Rattle.std.proofs.Common.{◌≡◌, ◌+◌, ℕ, List, [], ◌∷◌, Option, Some, None, Result, Ok, Err, Bool, true, false, sym, ap, ◌∙◌}
use Rattle.std.proofs.lemmas.Bool.{false≢true}
use Rattle.script_text.specs.declared.reading.ScriptFault.{ScriptFault}
use Rattle.script_text.specs.declared.reading.ScriptFault.TheVariants.{BadLine}
use Rattle.script_text.specs.Parsed.{IsRead}
use Rattle.script_text.specs.Lines.{lines_of}
use Rattle.script_text.specs.Script.{ScriptValue}
use Rattle.script_text.specs.Grammar.{line_of, script_from}

-- what the lines behind a line are read as, where the line means this
after : ℕ → List (List ℕ) → Option ScriptValue → Result ScriptValue ScriptFault
after n lines meant = elim meant [ Some script ↦ script_from script (n + 1) lines | None ↦ Err (BadLine n) ]

pub script_from-good : (s t : ScriptValue) (n : ℕ) (text line rest : List ℕ) → lines_of text ≡ line ∷ lines_of rest → line_of s line ≡ Some t → script_from s n (lines_of text) ≡ script_from t (n + 1) (lines_of rest)
unfolding script_from after
script_from-good s t n text line rest cut good = ap (script_from s n) cut ∙ ap (after n (lines_of rest)) good

pub script_from-bad : (s : ScriptValue) (n : ℕ) (text line rest : List ℕ) → lines_of text ≡ line ∷ lines_of rest → line_of s line ≡ None → script_from s n (lines_of text) ≡ Err (BadLine n)
unfolding script_from after
script_from-bad s n text line rest cut bad = ap (script_from s n) cut ∙ ap (after n (lines_of rest)) bad

pub script_from-end : (s : ScriptValue) (n : ℕ) (text : List ℕ) → text ≡ [] → script_from s n (lines_of text) ≡ Ok s
unfolding script_from
script_from-end s n text e = ap (λ t. script_from s n (lines_of t)) e

pub IsRead-good : (good : Bool) (old new : ScriptValue) (meant : Option ScriptValue) → good ≡ true → IsRead good old new meant → meant ≡ Some new
IsRead-good true old new meant e h = h
IsRead-good false old new meant e h = absurd (false≢true e)

pub IsRead-bad : (good : Bool) (old new : ScriptValue) (meant : Option ScriptValue) → good ≡ false → IsRead good old new meant → meant ≡ None
IsRead-bad true old new meant e h = absurd (false≢true (sym e))
IsRead-bad false old new meant e h = h.0
