-- The event leaves the entries, the counter and the doubt, and takes one handle away.
use Rattle.std.proofs.Common.{◌≡◌, ℕ, None, Option, sym, subst}
use Rattle.tee_types.specs.declared.call.Call.TheVariants.{Close as CloseCall}
use Rattle.tee_types.specs.declared.reply.Reply.TheVariants.{Done as DoneReply}
use Rattle.store_model.specs.declared.event.Event.TheVariants.{Call as CallEvent}
use Rattle.store_model.specs.declared.event.Mark.TheVariants.{Unchanged}
use Rattle.history_seats.specs.Views.{GateView}
use Rattle.history_seats.specs.Changes.{with_record, call_record}
use Rattle.core_laws.specs.TamperScenarios.{TamperScenario}
use Rattle.core_laws.specs.Stores.{replay_at}
use Rattle.core_laws.specs.Answered.{AreAnswered}
use Rattle.commit_gate.specs.JournalCalls.{IsToldAlone}
use Rattle.commit_gate.specs.Journals.{IsJournal}
use Rattle.core_laws.specs.TieLaws.{KeepsDoubt}
use Rattle.crash_core.specs.declared.change.DoubtedChange.{DoubtedChange}
use Rattle.store_commit.specs.Gates.{GateValue}
use Rattle.open_table.specs.HandleChanges.{DropsHandle}
use Rattle.commit_gate.specs.GuardedGates.{GateInvariant, GuardedGateValue}
use Rattle.commit_gate.proofs.AloneCalls.{alone-guarded}
use Rattle.commit_gate.proofs.guarded_gate.GuardedGate.close_handle.Goals as goal

pub answer-requires-clause-told : goal.answer-requires-clause-told
answer-requires-clause-told g c =
    let store = g.L.StoreName.store in
    subst (λ (v : GuardedGateValue g.row.F.Denot g.row.R.Denot). (scenario : TamperScenario) → AreAnswered store scenario v.journal.knows.all
    → IsToldAlone (replay_at store scenario v.journal.knows.all) c.args.session.now.number (CloseCall c.args.handle) DoneReply) (sym c.self.view_is) c.requires.told

pub invariant_of-self : goal.invariant_of-self
invariant_of-self g c =
    let store = g.L.StoreName.store in
    let inside = c.self.inside in
    let s = c.args.session.now in
    let calm : inside.gate.doubt ≡ None =
    subst (λ (v : GuardedGateValue g.row.F.Denot g.row.R.Denot). v.gate.doubt ≡ None) (sym c.self.view_is) c.requires.doubt in
    let keeps = subst (λ (o : Option DoubtedChange). KeepsDoubt o (CallEvent s.number s.made (CloseCall c.args.handle) DoneReply Unchanged)) (sym calm) tt in
    let drops = subst (λ (n : ℕ). DropsHandle inside.gate.open_handles c.drop_handle.new.self.open_handles n c.args.handle) c.number.ensures c.drop_handle.ensures.drops in
    let after : GateView = with_record (call_record s.number s.made (CloseCall c.args.handle) DoneReply Unchanged None) inside.journal.knows in
    subst (λ (k : GateView). GateInvariant store c.drop_handle.new.self k inside.closing) (sym c.answer.ensures.knows)
    (subst (λ (v : GateValue g.row.F.Denot g.row.R.Denot). GateInvariant store v after inside.closing) (sym c.drop_handle.ensures.same)
    (alone-guarded store inside.journal.knows s.number s.made (CloseCall c.args.handle) DoneReply inside.gate c.drop_handle.new.self.open_handles inside.closing c.requires.moved.was.known keeps
    drops (λ m. tt) (subst (IsJournal store) c.answer.ensures.knows c.answer.ensures.kept) c.self.invariant))
