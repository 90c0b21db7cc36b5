-- The acts of a script's steps.
use Rattle.std.proofs.Common.{◌≡◌, ◌≤◌, ◌<◌, ◌+◌, ℕ, true, List, [], ◌∷◌, ◌++◌, length, take, drop, get_or, All, refl, sym, ap, ◌∙◌, subst, arith, suc, zero, append_assoc, true≢false}
use Rattle.std.specs.List.{prefix_len}
use Rattle.std.proofs.lemmas.List.{append-nil, get_or-take, length-take-le}
use Rattle.script_text.specs.declared.script.Mode.{Mode}
use Rattle.script_text.specs.declared.script.Step.{Step}
use Rattle.script_text.specs.declared.script.Step.TheVariants.{Call as CallStep, Control as ControlStep}
use Rattle.script_text.specs.Script.{IsPlaced, is_call}
use Rattle.run_acts.specs.ServedSteps.{AreCalls}
use Rattle.script_runner.specs.Text.{Serve, Do, acts_from, acts_of, mode_behind}
use Rattle.script_runner.specs.RunReady.{IsCallFirst}

acts_from-calls : (mode : Mode) (call : Step) (calls steps : List Step)
    → acts_from mode (call ∷ calls) steps ≡ Serve mode ((call ∷ calls) ++ take (prefix_len is_call steps) steps) ∷ acts_of mode (drop (prefix_len is_call steps) steps)
acts_from-calls mode call calls [] = ap (λ l. Serve mode l ∷ []) (sym (append-nil (call ∷ calls)))
acts_from-calls mode call calls (CallStep app c ∷ steps) =
    let n = prefix_len is_call steps in
    let more : suc n ≡ 1 + n = omega arith in
    acts_from-calls mode call (calls ++ CallStep app c ∷ []) steps
    ∙ ap (λ l. Serve mode l ∷ acts_of mode (drop n steps)) (append_assoc (call ∷ calls) (CallStep app c ∷ []) (take n steps))
    ∙ ap (λ m. Serve mode ((call ∷ calls) ++ take m (CallStep app c ∷ steps)) ∷ acts_of mode (drop m (CallStep app c ∷ steps))) more
acts_from-calls mode call calls (ControlStep control ∷ steps) = ap (λ l. Serve mode l ∷ Do control ∷ acts_of (mode_behind mode control) steps) (sym (append-nil (call ∷ calls)))

-- the first act of steps that begin with a call: the calls in front of the first control
pub acts_of-calls : (mode : Mode) (steps : List Step) → IsCallFirst steps → acts_of mode steps ≡ Serve mode (take (prefix_len is_call steps) steps) ∷ acts_of mode (drop (prefix_len is_call steps) steps)
acts_of-calls mode [] h = absurd h
acts_of-calls mode (CallStep app call ∷ steps) h =
    let n = prefix_len is_call steps in
    let more : suc n ≡ 1 + n = omega arith in
    acts_from-calls mode (CallStep app call) [] steps
    ∙ ap (λ m. Serve mode (take m (CallStep app call ∷ steps)) ∷ acts_of mode (drop m (CallStep app call ∷ steps))) more
acts_of-calls mode (ControlStep control ∷ steps) h = absurd (true≢false (sym h))

pub prefix_len-some : (steps : List Step) → IsCallFirst steps → 1 ≤ prefix_len is_call steps
prefix_len-some [] h = absurd h
prefix_len-some (CallStep app call ∷ steps) h = omega arith
prefix_len-some (ControlStep control ∷ steps) h = absurd (true≢false (sym h))

call_in_front : (steps : List Step) (k : ℕ) (d : Step) → k < prefix_len is_call steps → is_call (get_or steps k d) ≡ true
call_in_front [] k d h = absurd (omega arith)
call_in_front (CallStep app call ∷ steps) zero d h = refl
call_in_front (CallStep app call ∷ steps) (suc k) d h = call_in_front steps k d (omega arith)
call_in_front (ControlStep control ∷ steps) k d h = absurd (omega arith)

-- the calls in front of the first control
pub AreCalls-front : (n : ℕ) (steps : List Step) → prefix_len is_call steps ≤ length steps → All (IsPlaced n) steps → AreCalls n (take (prefix_len is_call steps) steps)
AreCalls-front n steps within placed k d lt =
    let front = prefix_len is_call steps in
    let short : length (take front steps) ≡ front = length-take-le front steps within in
    let same : get_or (take front steps) k d ≡ get_or steps k d = get_or-take front steps k d (omega arith) in
    (subst (IsPlaced n) (sym same) (placed k d (omega arith)), ap is_call same ∙ call_in_front steps k d (omega arith))

-- the steps from one place on begin with that step
pub drop-next : (steps : List Step) (at : ℕ) (step : Step) → at < length steps → step ≡ get_or steps at step → drop at steps ≡ step ∷ drop (at + 1) steps
drop-next [] at step lt is = absurd (omega arith)
drop-next (x ∷ steps) zero step lt is = ap (λ s. s ∷ steps) (sym is)
drop-next (x ∷ steps) (suc at) step lt is =
    let more : suc at + 1 ≡ suc (at + 1) = omega arith in
    drop-next steps at step (omega arith) is ∙ ap (λ n. step ∷ drop n (x ∷ steps)) (sym more)

-- where a step is the next one, its place is one of the steps
pub place-lt : (steps rest : List Step) (at : ℕ) (step : Step) → drop at steps ≡ step ∷ rest → at < length steps
place-lt [] rest zero step e = absurd cc
place-lt [] rest (suc at) step e = absurd cc
place-lt (x ∷ steps) rest zero step e = omega arith
place-lt (x ∷ steps) rest (suc at) step e = omega (arith, place-lt steps rest at step e)
