-- A text read one line on.
use Rattle.std.proofs.Common.{◌≡◌, ◌+◌, ℕ, List, [], ◌∷◌, Option, Some, None, Result, Ok, Err, Bool, true, false, sym, ap, ◌∙◌}
use Rattle.std.proofs.lemmas.Bool.{false≢true}
use Rattle.script_text.specs.Lines.{lines_of}
use Rattle.card_script.specs.declared.card_line.CardLine.{CardLine}
use Rattle.card_script.specs.declared.reading.CardScriptFault.{CardScriptFault}
use Rattle.card_script.specs.declared.reading.CardScriptFault.TheVariants.{BadLine}
use Rattle.card_script.specs.CardScripts.{IsRead, line_of, script_from}

-- what the lines behind a line are read as, where the line means this
after : ℕ → List (List ℕ) → Option (List CardLine) → Result (List CardLine) CardScriptFault
after n lines meant = elim meant [ Some script ↦ script_from script (n + 1) lines | None ↦ Err (BadLine n) ]

pub script_from-good : (s t : List CardLine) (n : ℕ) (text line rest : List ℕ) → lines_of text ≡ line ∷ lines_of rest → line_of s line ≡ Some t → script_from s n (lines_of text) ≡ script_from t (n + 1) (lines_of rest)
unfolding script_from after
script_from-good s t n text line rest cut good = ap (script_from s n) cut ∙ ap (after n (lines_of rest)) good

pub script_from-bad : (s : List CardLine) (n : ℕ) (text line rest : List ℕ) → lines_of text ≡ line ∷ lines_of rest → line_of s line ≡ None → script_from s n (lines_of text) ≡ Err (BadLine n)
unfolding script_from after
script_from-bad s n text line rest cut bad = ap (script_from s n) cut ∙ ap (after n (lines_of rest)) bad

pub script_from-end : (s : List CardLine) (n : ℕ) (text : List ℕ) → text ≡ [] → script_from s n (lines_of text) ≡ Ok s
unfolding script_from
script_from-end s n text e = ap (λ t. script_from s n (lines_of t)) e

pub IsRead-good : (good : Bool) (old new : List CardLine) (meant : Option (List CardLine)) → good ≡ true → IsRead good old new meant → meant ≡ Some new
IsRead-good true old new meant e h = h
IsRead-good false old new meant e h = absurd (false≢true e)

pub IsRead-bad : (good : Bool) (old new : List CardLine) (meant : Option (List CardLine)) → good ≡ false → IsRead good old new meant → meant ≡ None
IsRead-bad true old new meant e h = absurd (false≢true (sym e))
IsRead-bad false old new meant e h = h.0
