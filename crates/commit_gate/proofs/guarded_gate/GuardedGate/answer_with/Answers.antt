-- The event leaves the entries, the counter and the doubt; the table gets the handle that the reply gives, if it gives one.
use Rattle.std.proofs.Common.{ℕ, sym, subst}
use Rattle.history_seats.specs.Views.{GateView}
use Rattle.history_seats.specs.Changes.{with_record}
use Rattle.core_laws.specs.Answered.{IsFairAt}
use Rattle.commit_gate.specs.Journals.{IsJournal}
use Rattle.store_commit.specs.Gates.{GateValue}
use Rattle.open_table.specs.HandleChanges.{NotesReply}
use Rattle.commit_gate.specs.GuardedGates.{GateInvariant, GuardedGateValue}
use Rattle.commit_gate.specs.SlotAnswers.{MayBeTold, slot_record}
use Rattle.commit_gate.proofs.SlotAnswers.{slot-guarded}
use Rattle.commit_gate.proofs.guarded_gate.GuardedGate.answer_with.Goals as goal

pub append_call-place-requires-clause-fair : goal.append_call-place-requires-clause-fair
append_call-place-requires-clause-fair g c = λ scenario.
    let store = g.L.StoreName.store in
    let s = c.args.session.now in
    subst (λ (v : GuardedGateValue g.row.F.Denot g.row.R.Denot). IsFairAt store scenario v.journal.knows.all (slot_record store v.journal.knows c.args.slot.knows s.number s.made c.args.call c.args.reply))
    (sym c.self.view_is) (c.requires.told.fair scenario)

pub invariant_of-self : goal.invariant_of-self
invariant_of-self g c =
    let store = g.L.StoreName.store in
    let inside = c.self.inside in
    let s = c.args.session.now in
    let slot = c.args.slot.knows in
    let told : MayBeTold store inside.gate.doubt inside.gate.dir.dir.entries inside.journal.knows slot s.number s.made c.args.call c.args.reply =
    subst (λ (v : GuardedGateValue g.row.F.Denot g.row.R.Denot). MayBeTold store v.gate.doubt v.gate.dir.dir.entries v.journal.knows slot s.number s.made c.args.call c.args.reply) (sym c.self.view_is) c.requires.told in
    let notes : NotesReply inside.gate.open_handles c.note.new.self.open_handles slot.file s.number c.args.call c.args.reply =
    subst (λ (p : ℕ × ℕ). NotesReply inside.gate.open_handles c.note.new.self.open_handles p.0 p.1 c.args.call c.args.reply) (λ i. (c.file.ensures i, c.number.ensures i)) c.note.ensures.notes in
    let after : GateView = with_record (slot_record store inside.journal.knows slot s.number s.made c.args.call c.args.reply) inside.journal.knows in
    subst (λ (k : GateView). GateInvariant store c.note.new.self k inside.closing) (sym c.append_call-place.ensures.knows)
    (subst (λ (v : GateValue g.row.F.Denot g.row.R.Denot). GateInvariant store v after inside.closing) (sym c.note.ensures.same)
    (slot-guarded store inside.journal.knows slot s.number s.made c.args.call c.args.reply inside.gate c.note.new.self.open_handles inside.closing c.requires.moved.was.known told
    notes (subst (IsJournal store) c.append_call-place.ensures.knows c.append_call-place.ensures.kept) c.self.invariant))
