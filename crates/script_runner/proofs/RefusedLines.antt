-- The lines of refused calls, sent one after another.
use Rattle.std.proofs.Common.{◌≡◌, ◌≤◌, ◌<◌, ◌+◌, ◌-◌, ◌∙◌, ℕ, List, [], ◌∷◌, ◌++◌, length, take, drop, get_or, slice_get, Option, Some, append_assoc, append-nil, length-append, ap, arith, refl, subst, sym}
use Rattle.std.proofs.lemmas.List.{drop-take, take-append-drop, take-take, take_all, take_more}
use Rattle.tee_types.specs.declared.call.Call.{Call}
use Rattle.run_acts.specs.ServedSteps.{calls_in}
use Rattle.run_acts.specs.declared.refused_call.RefusedCall.{RefusedCall}
use Rattle.run_acts.proofs.Calls.{calls_in-append}
use Rattle.script_text.specs.declared.script.Step.{Step}
use Rattle.script_text.specs.declared.script.Step.TheVariants.{Call as CallStep}
use Rattle.script_text.specs.Script.{ScriptValue}
use Rattle.script_text.specs.Text.{refused_call_line}
use Rattle.script_runner.specs.RefusedLines.{IsCounted, refused_lines, step_line}
use Rattle.script_runner.specs.Sending.{Sends, Stops}
use Rattle.script_runner.specs.declared.refused_lines.CallCount.{CallCount}
use Rattle.script_runner.proofs.Sent.{Stops-append, Stops-longer}

-- THE COUNT
take_parts : (steps : List Step) (at n : ℕ) → take (at + n) steps ≡ take at steps ++ take n (drop at steps)
take_parts steps at n =
    sym (take-append-drop at (take (at + n) steps))
    ∙ ap (λ (l : List Step). l ++ drop at (take (at + n) steps)) (take-take at (at + n) steps (omega arith))
    ∙ ap (λ (l : List Step). take at steps ++ l) (drop-take at n steps)

-- on from an earlier step, for the same application
pub counted-more : (steps : List Step) (count : CallCount) (app step : ℕ) → IsCounted steps count → count.app ≡ app → count.step ≤ step
    → length (calls_in app (take step steps)) ≡ count.calls + length (calls_in app (take (step - count.step) (drop count.step steps)))
counted-more steps count app step counted same earlier =
    let at = count.step in
    let later = take (step - at) (drop at steps) in
    let whole : at + (step - at) ≡ step = omega (arith, earlier) in
    let parts : take step steps ≡ take at steps ++ later = ap (λ k. take k steps) (sym whole) ∙ take_parts steps at (step - at) in
    let front : length (calls_in app (take at steps)) ≡ count.calls = ap (λ a. length (calls_in a (take at steps))) (sym same) ∙ sym counted.calls in
    ap (λ l. length (calls_in app l)) parts ∙ ap length (calls_in-append app (take at steps) later) ∙ length-append (calls_in app (take at steps)) (calls_in app later)
    ∙ ap (λ k. k + length (calls_in app later)) front

-- THE LINES
-- the line of a call that was counted
pub refused_line_is : (script : ScriptValue) (place : ℕ) (steps : List Step) (step app : ℕ) (call : Call) (count : CallCount) → slice_get steps step ≡ Some (CallStep app call)
    → IsCounted steps count → count.app ≡ app → count.step ≡ step → refused_call_line script place app count.calls call ≡ step_line script place (take step steps) (slice_get steps step)
refused_line_is script place steps step app call count is counted same_app same_step =
    let calls : count.calls ≡ length (calls_in app (take step steps)) = counted.calls ∙ (λ i. length (calls_in (same_app i) (take (same_step i) steps))) in
    ap (λ n. refused_call_line script place app n call) calls ∙ ap (step_line script place (take step steps)) (sym is)

-- the line of one refused call
abbrev pub line_of : ScriptValue → List Step → RefusedCall → List ℕ
line_of script steps r = step_line script r.place (take r.step steps) (slice_get steps r.step)

refused_lines-append : (script : ScriptValue) (steps : List Step) (front back : List RefusedCall) → refused_lines script steps (front ++ back) ≡ refused_lines script steps front ++ refused_lines script steps back
refused_lines-append script steps [] back = refl
refused_lines-append script steps (r ∷ front) back =
    ap (λ t. line_of script steps r ++ t) (refused_lines-append script steps front back) ∙ sym (append_assoc (line_of script steps r) (refused_lines script steps front) (refused_lines script steps back))

pub refused_lines-more : (script : ScriptValue) (steps : List Step) (refused : List RefusedCall) (i : ℕ) (r : RefusedCall) → i < length refused → r ≡ get_or refused i r
    → refused_lines script steps (take (i + 1) refused) ≡ refused_lines script steps (take i refused) ++ line_of script steps r
refused_lines-more script steps refused i r lt at =
    let front = take i refused in
    let grown : take (i + 1) refused ≡ front ++ r ∷ [] = take_more refused i r lt ∙ ap (λ x. front ++ x ∷ []) (sym at) in
    ap (refused_lines script steps) grown ∙ refused_lines-append script steps front (r ∷ []) ∙ ap (λ t. refused_lines script steps front ++ t) (append-nil (line_of script steps r))

pub refused_lines-all : (script : ScriptValue) (steps : List Step) (refused : List RefusedCall) (i : ℕ) → length refused ≤ i → refused_lines script steps (take i refused) ≡ refused_lines script steps refused
refused_lines-all script steps refused i le = ap (refused_lines script steps) (take_all i refused le)

-- stopped at one of them
pub Stops-at_refused : (held between new : Option (List ℕ)) (kept_old kept : List ℕ) (script : ScriptValue) (steps : List Step) (refused : List RefusedCall) (i : ℕ) (r : RefusedCall) → i < length refused → r ≡ get_or refused i r
    → Sends held between kept_old kept (refused_lines script steps (take i refused)) → Stops between new kept (line_of script steps r) → Stops held new kept_old (refused_lines script steps refused)
Stops-at_refused held between new kept_old kept script steps refused i r lt at sent stops =
    let here : Stops held new kept_old (refused_lines script steps (take (i + 1) refused)) =
    subst (Stops held new kept_old) (sym (refused_lines-more script steps refused i r lt at)) (Stops-append held between new kept_old kept _ _ sent stops) in
    let all : refused_lines script steps (take (i + 1) refused) ++ refused_lines script steps (drop (i + 1) refused) ≡ refused_lines script steps refused =
    sym (refused_lines-append script steps (take (i + 1) refused) (drop (i + 1) refused)) ∙ ap (refused_lines script steps) (take-append-drop (i + 1) refused) in
    subst (Stops held new kept_old) all (Stops-longer held new kept_old _ _ here)
