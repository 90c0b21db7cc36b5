-- The steps of a script are well formed.
use Rattle.std.proofs.Common.{◌≡◌, ◌+◌, nat_lt, ℕ, zero, suc, ◌⊎◌, inl, inr, Bool, true, false, cond, List, [], ◌∷◌, ◌++◌, take, length, ap, refl, sym, subst, ◌∙◌, Option, Some, None, Result, Ok, Err}
use Rattle.std.specs.Prelude.{codes, nat_eq, slice_get}
use Rattle.std.specs.List.{All, starts_with}
use Rattle.std.proofs.lemmas.List.Elements.{All-nil, All-cons, All-append}
use Rattle.script_text.specs.declared.reading.ScriptFault.{ScriptFault}
use Rattle.script_text.specs.declared.reading.ScriptFault.TheVariants.{BadLine, TooManyApps}
use Rattle.tee_types.specs.declared.reply.Device.{Device}
use Rattle.script_text.specs.declared.script.Control.{Control}
use Rattle.script_text.specs.declared.script.Control.TheVariants.{Restore}
use Rattle.script_text.specs.declared.script.Step.{Step}
use Rattle.script_text.specs.declared.script.Step.TheVariants.{Call as CallStep, Control as ControlStep}
use Rattle.script_text.specs.Lines.{lines_of, words_of, is_ascii}
use Rattle.script_text.specs.Words.{same_word, uuid_of}
use Rattle.script_text.specs.Script.{ScriptValue, no_script, is_saved}
use Rattle.script_text.specs.Calls.{call_words}
use Rattle.script_text.specs.Controls.{control_of}
use Rattle.script_text.specs.Grammar.{place_of, with_step, call_line, may_declare, app_line, may_stand, control_line, step_line, words_line, line_of, script_from, few_applications, script_of}
use Rattle.script_text.specs.Laws.{AreSaved, IsControl, IsFormed, MarksAreSaved, ScriptsCallWell}
use Rattle.script_text.proofs.FormedCalls.{call-formed, from_bind, cond-some}
use Rattle.script_text.proofs.FormedControls.{control-formed}

-- The steps are well formed, and what they put back was saved in front.
record AreFormed (script : ScriptValue) : Type 0 where
  formed : All IsFormed script.steps
  saved : AreSaved script.steps

-- an element of a list with one more at its end is one of the list, or the last
last-or-before : (steps : List Step) (last step : Step) (i : ℕ) → slice_get (steps ++ last ∷ []) i ≡ Some step
    → ((slice_get steps i ≡ Some step) × (take i (steps ++ last ∷ []) ≡ take i steps)) ⊎ ((last ≡ step) × (take i (steps ++ last ∷ []) ≡ steps))
last-or-before [] last step zero is = let same : last ≡ step = cc (is) in inr (same, refl)
last-or-before [] last step (suc i) is = absurd (cc (is))
last-or-before (s ∷ steps) last step zero is = inl (is, refl)
last-or-before (s ∷ steps) last step (suc i) is = elim (last-or-before steps last step i is) [
  | inl h ↦ inl (h.0, ap (λ (t : List Step). s ∷ t) h.1)
  | inr h ↦ inr (h.0, ap (λ (t : List Step). s ∷ t) h.1)
]

-- if the step puts something back, that was saved
abbrev StandsBehind : List Step → Step → Type 0
StandsBehind above step = (file : Device) (mark : List ℕ) → step ≡ ControlStep (Restore file mark) → is_saved mark above ≡ true

saved-more : (steps : List Step) (step : Step) → AreSaved steps → StandsBehind steps step → AreSaved (steps ++ step ∷ [])
saved-more steps step saved stands i file mark is = elim (last-or-before steps step (ControlStep (Restore file mark)) i is) [
  | inl h ↦ ap (is_saved mark) h.1 ∙ saved i file mark h.0
  | inr h ↦ ap (is_saved mark) h.1 ∙ stands file mark h.0
]

step-more : (above : ScriptValue) (step : Step) (script : ScriptValue) → IsFormed step → StandsBehind above.steps step → AreFormed above → with_step above step ≡ script → AreFormed script
step-more above step script fine stands formed is = subst AreFormed is (record {
  formed = All-append IsFormed above.steps (step ∷ []) formed.formed (All-cons IsFormed step [] fine (All-nil IsFormed));
  saved = saved-more above.steps step formed.saved stands;
})

-- a control that may stand behind the steps stands behind them
control-stands : (above : List Step) (control : Control) → may_stand above control ≡ true → StandsBehind above (ControlStep control)
control-stands above control may file mark is =
    let same : control ≡ Restore file mark = cc (is) in
    ap (λ (c : Control). may_stand above c) (sym same) ∙ may

control_line-formed : (above : ScriptValue) (control : Control) (script : ScriptValue) → IsControl control → AreFormed above → control_line above control ≡ Some script → AreFormed script
unfolding control_line
control_line-formed above control script fine formed is =
    let parts = cond-some (may_stand above.steps control) (Some (with_step above (ControlStep control))) script is in
    let same : with_step above (ControlStep control) ≡ script = cc (parts.1) in
    step-more above (ControlStep control) script fine (control-stands above.steps control parts.0) formed same

call_line-formed : (above : ScriptValue) (name : List ℕ) (words : List (List ℕ)) (script : ScriptValue) → AreFormed above → call_line above name words ≡ Some script → AreFormed script
unfolding call_line
call_line-formed above name words script formed is =
    let place = from_bind (place_of name above.applications) _ script is in
    let call = from_bind (call_words words) _ script place.2 in
    let same : with_step above (CallStep place.0 call.0) ≡ script = cc (call.2) in
    step-more above (CallStep place.0 call.0) script (call-formed words call.0 call.1) (λ file mark is. absurd (cc (is))) formed same

app_line-formed : (above : ScriptValue) (words : List (List ℕ)) (script : ScriptValue) → AreFormed above → app_line above words ≡ Some script → AreFormed script
unfolding app_line
app_line-formed above (name ∷ uuid ∷ []) script formed is =
    let parts = cond-some (may_declare above name) _ script is in
    let app = from_bind (uuid_of uuid) _ script parts.1 in
    let same : record above { applications = above.applications ++ record { name = name; app = app.0 } ∷ [] } ≡ script = cc (app.2) in
    subst AreFormed same (record { formed = formed.formed; saved = formed.saved })
app_line-formed above [] script formed is = absurd (cc (is))
app_line-formed above (name ∷ []) script formed is = absurd (cc (is))
app_line-formed above (name ∷ uuid ∷ more ∷ words) script formed is = absurd (cc (is))

step_line-formed : (above : ScriptValue) (word : List ℕ) (words : List (List ℕ)) (script : ScriptValue) → AreFormed above → step_line above word words ≡ Some script → AreFormed script
unfolding step_line
step_line-formed above word words script formed is = one (control_of word words) (λ control found. control-formed word words control found) is
  where
    one : (o : Option Control) → ((control : Control) → o ≡ Some control → IsControl control) → elim o as (λ _. Option ScriptValue) [ Some control ↦ control_line above control | None ↦ call_line above word words ] ≡ Some script → AreFormed script
    one (Some control) fine is = control_line-formed above control script (fine control refl) formed is
    one None fine is = call_line-formed above word words script formed is

words_line-formed : (above : ScriptValue) (words : List (List ℕ)) (script : ScriptValue) → AreFormed above → words_line above words ≡ Some script → AreFormed script
unfolding words_line
words_line-formed above [] script formed is = let same : above ≡ script = cc (is) in subst AreFormed same formed
words_line-formed above (word ∷ words) script formed is = one (starts_with nat_eq word (codes "#")) (same_word word (codes "app")) is
  where
    one : (a b : Bool) → cond a (Some above) (cond b (app_line above words) (step_line above word words)) ≡ Some script → AreFormed script
    one true b is = let same : above ≡ script = cc (is) in subst AreFormed same formed
    one false true is = app_line-formed above words script formed is
    one false false is = step_line-formed above word words script formed is

line-formed : (above : ScriptValue) (line : List ℕ) (script : ScriptValue) → AreFormed above → line_of above line ≡ Some script → AreFormed script
unfolding line_of
line-formed above line script formed is = words_line-formed above (words_of line) script formed (cond-some (is_ascii line) (words_line above (words_of line)) script is).1

lines-formed : (lines : List (List ℕ)) (above : ScriptValue) (n : ℕ) (script : ScriptValue) → AreFormed above → script_from above n lines ≡ Ok script → AreFormed script
unfolding script_from
lines-formed [] above n script formed is = let same : above ≡ script = cc (is) in subst AreFormed same formed
lines-formed (line ∷ lines) above n script formed is = (elim (line_of above line) as (λ o. line_of above line ≡ o → elim o as (λ _. Result ScriptValue ScriptFault) [ Some next ↦ script_from next (n + 1) lines | None ↦ Err (BadLine n) ] ≡ Ok script → AreFormed script) [
  | Some next ↦ λ found is. lines-formed lines next (n + 1) script (line-formed above line next formed found) is
  | None ↦ λ found is. absurd (cc (is))
]) refl is

abbrev parsed : ScriptValue → Result ScriptValue ScriptFault
parsed script = Ok script

few-formed : (r : Result ScriptValue ScriptFault) (script : ScriptValue) → few_applications r ≡ Ok script → r ≡ Ok script
few-formed (Err fault) script is = absurd (cc (is))
few-formed (Ok found) script is = one (nat_lt 16 (length found.applications)) is
  where
    one : (many : Bool) → cond many (Err (TooManyApps (length found.applications))) (parsed found) ≡ parsed script → parsed found ≡ parsed script
    one true is = absurd (cc (is))
    one false is = is

script-formed : (text : List ℕ) (script : ScriptValue) → script_of text ≡ Ok script → AreFormed script
script-formed text script is =
    lines-formed (lines_of text) no_script 1 script (record { formed = All-nil IsFormed; saved = λ i file mark is. absurd (cc (is)) })
    (few-formed (script_from no_script 1 (lines_of text)) script is)

pub scripts_call_well : ScriptsCallWell
scripts_call_well text script is = (script-formed text script is).formed

pub marks_are_saved : MarksAreSaved
marks_are_saved text script is = (script-formed text script is).saved
