use Rattle.std.proofs.Common.{◌≡◌, ◌∙◌, ℕ, List, ap, refl, subst}
use Rattle.app_totals.specs.EntryTotals.{entry_totals}
use Rattle.app_totals.specs.Meant.{grown}
use Rattle.app_totals.specs.OwnHandles.{HasOwnHandles}
use Rattle.store_model.specs.Machine.{MachineState, Session}
use Rattle.call_rules.specs.Matches.{Matches}
use Rattle.commit_gate.proofs.Forecasts.{gate_forecast}
use Rattle.commit_gate.proofs.guarded_gate.GuardedGate.forecast.Goals as goal

pub returns-clause-told : goal.returns-clause-told
returns-clause-told g c =
    gate_forecast c.args.self.now.gate.dir.dir.entries c.args.self.now.gate.open_handles c.reveal_invariant.ensures.entries.distinct g.L.StoreName.store c.args.self.now.journal.knows c.args.session.now
    c.args.call.now _ c.totals-held.result c.reveal_invariant.ensures.machine c.requires.caller c.requires.sees
    (c.totals-held.ensures.told ∙ ap (λ (a : List _). entry_totals a c.args.self.now.gate.dir.dir.entries) c.app.ensures) refl refl
    (subst (λ (x : Session).
    (t : MachineState) (i : ℕ) → Matches c.args.self.now.gate.dir.dir.entries c.args.self.now.gate.open_handles x t i → HasOwnHandles x → c.grown.result ≡ grown t i c.args.call.now)
    c.state.ensures c.grown.ensures)
