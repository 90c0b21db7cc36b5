-- The reply that the file gave may be told, the session is as the machine's, and the slot may stand behind its lock again.
use Rattle.std.proofs.Common.{◌≡◌, ◌<◌, ◌^◌, Some, sym, ap, ◌∙◌, subst}
use Rattle.history_seats.specs.Changes.{slot_renewed}
use Rattle.history_seats.specs.Views.{GateView, Sight, SlotView}
use Rattle.commit_gate.specs.JournalCalls.{IsMovedBy}
use Rattle.object_slots.specs.SlotValues.{SlotValue}
use Rattle.object_slots.specs.GuardedSlots.{SlotInvariant}
use Rattle.object_slots.proofs.Contents.{seat_same}
use Rattle.object_slots.proofs.SlotViews.{shown_whole}
use Rattle.commit_gate.specs.SlotAnswers.{MayBeTold, slot_record}
use Rattle.call_steps.proofs.AnswerMoves.{answer-moves}
use Rattle.call_steps.proofs.EntryAnswers.{answer-told}
use Rattle.call_steps.proofs.Meetings.{own-seat}
use Rattle.call_steps.proofs.OwnAnswers.{answer-keeps, answered-seat}
use Rattle.call_steps.proofs.ServedCalls.{answer-served}
use Rattle.call_steps.proofs.answer_appending.tell.Goals as goal

pub answer_with-place-requires-clause-told : goal.answer_with-place-requires-clause-told
answer_with-place-requires-clause-told g c =
    let store = g.L.StoreName.store in
    let gate = c.args.gate.now in
    let knows = gate.journal.knows in
    let slot = c.args.slot.now in
    let s = c.args.session.now in
    let may = c.requires.may in
    let own : SlotInvariant store slot = c.requires.guarded in
    let low : gate.gate.counter < 2 ^ 32 = c.reveal_invariant.ensures.counter in
    let lent : c.lend_seat-seat.result ≡ may.at.sees.seat =
    seat_same c.lend_seat-seat.result may.at.sees.seat (sym c.lend_seat-seat.ensures.seat ∙ may.at.sees.is) in
    subst (λ (x : Sight SlotView). MayBeTold store gate.gate.doubt gate.gate.dir.dir.entries knows x.knows s.number s.made c.args.call c.args.reply) (sym lent)
    (answer-told store gate.gate knows gate.closing c.reveal_invariant.ensures.guarded c.reveal_invariant.ensures.entries c.reveal_invariant.ensures.machine low slot own c.args.call c.args.reply s may)

pub answer_with-place-requires-clause-moved : goal.answer_with-place-requires-clause-moved
answer_with-place-requires-clause-moved g c =
    let store = g.L.StoreName.store in
    let gate = c.args.gate.now in
    let knows = gate.journal.knows in
    let s = c.args.session.now in
    let may = c.requires.may in
    let lent : c.lend_seat-seat.result ≡ may.at.sees.seat =
    seat_same c.lend_seat-seat.result may.at.sees.seat (sym c.lend_seat-seat.ensures.seat ∙ may.at.sees.is) in
    subst (λ (x : Sight SlotView). IsMovedBy store knows (slot_record store knows x.knows s.number s.made c.args.call c.args.reply) s) (sym lent)
    (answer-moves store knows gate.gate.dir.dir.entries gate.gate.open_handles c.reveal_invariant.ensures.machine may.at.sees.seat.knows c.args.call c.args.reply s may.at.sound.decided_within may.before may.moves)

pub returns-clause-guarded : goal.returns-clause-guarded
returns-clause-guarded g c =
    let store = g.L.StoreName.store in
    let gate = c.args.gate.now in
    let knows = gate.journal.knows in
    let slot = c.args.slot.now in
    let s = c.args.session.now in
    let may = c.requires.may in
    let own : SlotInvariant store slot = c.requires.guarded in
    let low : gate.gate.counter < 2 ^ 32 = c.reveal_invariant.ensures.counter in
    let lent = c.lend_seat-seat.result in
    let seat : lent ≡ may.at.sees.seat = seat_same lent may.at.sees.seat (sym c.lend_seat-seat.ensures.seat ∙ may.at.sees.is) in
    let back : c.answer_with-place.result.1 ≡ answered-seat store knows may.at.sees.seat s.number s.made c.args.call c.args.reply =
    c.answer_with-place.ensures.slot
    ∙ ap (λ (k : GateView). record lent { knows = slot_renewed k lent.knows }) c.answer_with-place.ensures.knows
    ∙ ap (λ (x : Sight SlotView). answered-seat store knows x s.number s.made c.args.call c.args.reply) seat in
    let is : c.give_seat.new.self ≡ record slot { seat = Some (answered-seat store knows may.at.sees.seat s.number s.made c.args.call c.args.reply) } =
    c.give_seat.ensures
    ∙ ap (λ (x : SlotValue). record x { seat = Some c.answer_with-place.result.1 }) c.lend_seat-seat.ensures.slot
    ∙ ap (λ (x : Sight SlotView). record slot { seat = Some x }) back in
    subst (SlotInvariant store) (sym is)
    (answer-keeps store gate.gate knows gate.closing c.reveal_invariant.ensures.guarded c.reveal_invariant.ensures.entries c.reveal_invariant.ensures.machine low slot own c.args.call c.args.reply s may)

pub returns-clause-whole : goal.returns-clause-whole
returns-clause-whole g c =
    shown_whole c.answer_with-place.new.self.journal.knows c.give_seat.new.self c.lend_seat-seat.result c.answer_with-place.result.1 (ap (λ (s : SlotValue). s.seat) c.give_seat.ensures)
    c.answer_with-place.ensures.slot

pub returns-clause-served : goal.returns-clause-served
returns-clause-served g c =
    let store = g.L.StoreName.store in
    let slot = c.args.slot.now in
    let lent = c.lend_seat-seat.result in
    let own : SlotInvariant store slot = c.requires.guarded in
    let seat : slot.seat ≡ Some lent = c.lend_seat-seat.ensures.seat in
    let told = c.answer_with-place.ensures in
    answer-served store c.args.gate.now c.answer_with-place.new.self c.args.session.now c.answer_with-place.new.session lent.knows slot.number c.answer_with-place.result.0 c.args.call c.args.reply c.args.told
    (own-seat store slot lent seat own).own c.requires.copied told.place told.extends told.whole told.session told.knows told.spare told.gate told.notes told.closing
