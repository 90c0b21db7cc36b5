-- The event leaves the entries, the counter, the doubt and the handles.
use Rattle.std.proofs.Common.{sym, subst}
use Rattle.store_model.specs.declared.event.Event.TheVariants.{Call as CallEvent}
use Rattle.store_model.specs.declared.event.Mark.TheVariants.{Unchanged}
use Rattle.history_seats.specs.Views.{GateView}
use Rattle.core_laws.specs.TamperScenarios.{TamperScenario}
use Rattle.core_laws.specs.Stores.{replay_at}
use Rattle.core_laws.specs.Answered.{AreAnswered}
use Rattle.commit_gate.specs.JournalCalls.{IsToldAlone}
use Rattle.commit_gate.specs.Journals.{IsJournal}
use Rattle.core_laws.specs.TieLaws.{KeepsDoubt}
use Rattle.commit_gate.specs.GuardedGates.{GateInvariant, GuardedGateValue}
use Rattle.commit_gate.proofs.AloneCalls.{alone-guarded, quiet-notes, quiet-opened}
use Rattle.commit_gate.proofs.guarded_gate.GuardedGate.answer.Goals as goal

pub answer-requires-clause-told : goal.answer-requires-clause-told
answer-requires-clause-told g c =
    let store = g.L.StoreName.store in
    subst (λ (v : GuardedGateValue g.row.F.Denot g.row.R.Denot). (scenario : TamperScenario) → AreAnswered store scenario v.journal.knows.all
    → IsToldAlone (replay_at store scenario v.journal.knows.all) c.args.session.now.number c.args.call c.args.reply) (sym c.self.view_is) c.requires.told

pub invariant_of-self : goal.invariant_of-self
invariant_of-self g c =
    let store = g.L.StoreName.store in
    let inside = c.self.inside in
    let s = c.args.session.now in
    let call = c.args.call in
    let reply = c.args.reply in
    let keeps =
    subst (λ (v : GuardedGateValue g.row.F.Denot g.row.R.Denot). KeepsDoubt v.gate.doubt (CallEvent s.number s.made call reply Unchanged)) (sym c.self.view_is) c.requires.doubt in
    subst (λ (k : GateView). GateInvariant store inside.gate k inside.closing) (sym c.answer.ensures.knows)
    (alone-guarded store inside.journal.knows s.number s.made call reply inside.gate inside.gate.open_handles inside.closing c.requires.moved.was.known keeps
    (quiet-notes call reply inside.gate.open_handles 0 s.number c.requires.handles) (λ m. quiet-opened call reply inside.gate.dir.dir.entries m s.number 0 c.requires.handles)
    (subst (IsJournal store) c.answer.ensures.knows c.answer.ensures.kept) c.self.invariant)
