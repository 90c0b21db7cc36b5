-- The session's hold is on the new file, whatever it was on before.
use Rattle.std.proofs.Common.{List, None, Option, Some, ap, ℕ, ◌∙◌}
use Rattle.std.proofs.lemmas.List.{set-set}
use Rattle.std.specs.Prelude.{slice_set}
use Rattle.serial_calls.proofs.create_file.reserve.Goals as goal
use Rattle.call_steps.specs.GuardedGates.{GuardedGateValue}

pub returns-clause-same : goal.returns-clause-same
returns-clause-same g c =
    let gate = c.args.gate.now in
    let held = Some c.reserve_file.result in
    c.reserve_file.ensures.same
    ∙ ap (λ (x : GuardedGateValue g.row.F.Denot g.row.R.Denot). record x { gate = record x.gate { holds = slice_set x.gate.holds c.number-2.result held } }) c.release.ensures
    ∙ ap (λ (p : ℕ × ℕ). record gate { gate = record gate.gate { holds = slice_set (slice_set gate.gate.holds p.0 None) p.1 held } }) (λ i. (c.number.ensures i, c.number-2.ensures i))
    ∙ ap (λ (l : List (Option ℕ)). record gate { gate = record gate.gate { holds = l } }) (set-set gate.gate.holds c.args.session.now.number None held)
