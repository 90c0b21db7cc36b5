use Rattle.std.proofs.Common.{◌≡◌, ◌≤◌, ◌-◌, All, ap, arith, drop, length, subst, sym, take, ◌∙◌}
use Rattle.std.specs.List.{prefix_len}
use Rattle.std.proofs.lemmas.Grind.{common_steps}
use Rattle.std.proofs.lemmas.List.{length-take-le}
use Rattle.std.proofs.lemmas.List.Elements.{All-drop}
use Rattle.script_text.specs.Script.{IsPlaced, is_call}
use Rattle.run_acts.specs.ServedSteps.{AreCalls}
use Rattle.script_runner.proofs.Steps.{AreCalls-front}
use Rattle.script_runner.proofs.phase_act.calls_from.Goals as goal

pub returns-clause-calls : goal.returns-clause-calls
returns-clause-calls c =
    let at = c.args.at in
    let got = c.all_steps.result.now in
    let steps = c.args.script.now.steps in
    let whole : take (length got - at) (drop at got) ≡ drop at got = grind (arith, common_steps) in
    let same : take (length got - at) (drop at got) ≡ drop at steps = whole ∙ ap (drop at) c.all_steps.ensures.steps in
    let count : c.calls_length.result ≡ prefix_len is_call (drop at steps) = c.calls_length.ensures.length ∙ ap (prefix_len is_call) same in
    let within : prefix_len is_call (drop at steps) ≤ length (drop at steps) = omega (arith, count, c.calls_length.ensures.within, ap length same) in
    let all : take c.calls_length.result (take (length got - at) (drop at got)) ≡ take (prefix_len is_call (drop at steps)) (drop at steps) = ap (λ n. take n (take (length got - at) (drop at got))) count ∙ ap (take (prefix_len is_call (drop at steps))) same in
    all

pub returns-clause-are_calls : goal.returns-clause-are_calls
returns-clause-are_calls c =
    let at = c.args.at in
    let got = c.all_steps.result.now in
    let steps = c.args.script.now.steps in
    let whole : take (length got - at) (drop at got) ≡ drop at got = grind (arith, common_steps) in
    let same : take (length got - at) (drop at got) ≡ drop at steps = whole ∙ ap (drop at) c.all_steps.ensures.steps in
    let count : c.calls_length.result ≡ prefix_len is_call (drop at steps) = c.calls_length.ensures.length ∙ ap (prefix_len is_call) same in
    let within : prefix_len is_call (drop at steps) ≤ length (drop at steps) = omega (arith, count, c.calls_length.ensures.within, ap length same) in
    let all : take c.calls_length.result (take (length got - at) (drop at got)) ≡ take (prefix_len is_call (drop at steps)) (drop at steps) = ap (λ n. take n (take (length got - at) (drop at got))) count ∙ ap (take (prefix_len is_call (drop at steps))) same in
    let n = length c.args.script.now.applications in
    let placed : All (IsPlaced n) (drop at steps) = subst (λ s. All (IsPlaced n) (drop at s)) c.all_steps.ensures.steps (All-drop (IsPlaced n) at got c.all_steps.ensures.placed) in
    subst (AreCalls n) (sym all) (AreCalls-front n (drop at steps) within placed)

pub returns-clause-count : goal.returns-clause-count
returns-clause-count c =
    let at = c.args.at in
    let got = c.all_steps.result.now in
    let steps = c.args.script.now.steps in
    let whole : take (length got - at) (drop at got) ≡ drop at got = grind (arith, common_steps) in
    let same : take (length got - at) (drop at got) ≡ drop at steps = whole ∙ ap (drop at) c.all_steps.ensures.steps in
    let count : c.calls_length.result ≡ prefix_len is_call (drop at steps) = c.calls_length.ensures.length ∙ ap (prefix_len is_call) same in
    let within : prefix_len is_call (drop at steps) ≤ length (drop at steps) = omega (arith, count, c.calls_length.ensures.within, ap length same) in
    let all : take c.calls_length.result (take (length got - at) (drop at got)) ≡ take (prefix_len is_call (drop at steps)) (drop at steps) = ap (λ n. take n (take (length got - at) (drop at got))) count ∙ ap (take (prefix_len is_call (drop at steps))) same in
    ap length all ∙ length-take-le (prefix_len is_call (drop at steps)) (drop at steps) within

pub returns-clause-within : goal.returns-clause-within
returns-clause-within c =
    let at = c.args.at in
    let got = c.all_steps.result.now in
    let steps = c.args.script.now.steps in
    let whole : take (length got - at) (drop at got) ≡ drop at got = grind (arith, common_steps) in
    let same : take (length got - at) (drop at got) ≡ drop at steps = whole ∙ ap (drop at) c.all_steps.ensures.steps in
    let count : c.calls_length.result ≡ prefix_len is_call (drop at steps) = c.calls_length.ensures.length ∙ ap (prefix_len is_call) same in
    let within : prefix_len is_call (drop at steps) ≤ length (drop at steps) = omega (arith, count, c.calls_length.ensures.within, ap length same) in
    let all : take c.calls_length.result (take (length got - at) (drop at got)) ≡ take (prefix_len is_call (drop at steps)) (drop at steps) = ap (λ n. take n (take (length got - at) (drop at got))) count ∙ ap (take (prefix_len is_call (drop at steps))) same in
    let count_is = ap length all ∙ length-take-le (prefix_len is_call (drop at steps)) (drop at steps) within in
    omega (arith, within, count_is)
