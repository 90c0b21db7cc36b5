-- The slot lends its seat to the commit, and ends its stage as the gate ended that.
use Rattle.std.proofs.Common.{Some, ap, refl, subst, sym, ◌∙◌, ◌≡◌}
use Rattle.tee_types.specs.declared.reply.Reply.{Reply}
use Rattle.store_model.specs.declared.event.Event.TheVariants.{Call as CallEvent}
use Rattle.core_laws.specs.Sessions.{Extends}
use Rattle.commit_gate.specs.CallerSessions.{session_value}
use Rattle.commit_gate.specs.Causes.{counts}
use Rattle.commit_gate.specs.GateEnds.{HandlesBehind, end_record, mark_told, reply_told}
use Rattle.object_slots.proofs.SlotViews.{shown_whole}
use Rattle.call_steps.proofs.CountGrowth.{end_grows, end_still}
use Rattle.call_steps.proofs.ObjectCommitSteps.{lent_ended, lent_number, lent_ready, lent_table}
use Rattle.object_slots.specs.SlotValues.{SlotValue}
use Rattle.call_steps.proofs.object_commit.commit_versions.Goals as goal

pub commit-committed-requires-clause-table : goal.commit-committed-requires-clause-table
commit-committed-requires-clause-table g c =
    lent_table g.L.StoreName.store c.args.gate.now.gate c.args.gate.now.journal.knows c.args.slot.now c.args.session.now c.args.call c.args.own c.args.change g.versions c.requires.1.1.1.1.0
    c.lend_seat-seat.result c.lend_seat-seat.ensures.seat

pub commit-committed-requires-clause-ready : goal.commit-committed-requires-clause-ready
commit-committed-requires-clause-ready g c =
    lent_ready g.L.StoreName.store c.args.gate.now.gate c.args.gate.now.journal.knows c.args.slot.now c.args.session.now c.args.call c.args.own c.args.change g.versions c.requires.1.1.1.1.0
    c.lend_seat-seat.result c.lend_seat-seat.ensures.seat

pub settle_slot-requires-clause-ended : goal.settle_slot-requires-clause-ended
settle_slot-requires-clause-ended g c =
    let e = c.commit-committed.ensures in
    lent_ended g.L.StoreName.store c.args.gate.now.gate c.args.gate.now.journal.knows c.args.slot.now c.args.session.now c.args.call c.args.own c.args.change g.versions c.requires.1.1.1.1.0
    c.lend_seat-seat.result c.lend_seat-seat.ensures.seat c.args.gate.now.closing c.lend_seat-seat.new.self c.commit-committed.result.slot c.commit-committed.result.end c.commit-committed.result.place c.commit-committed.new.self.journal.knows
    c.reveal_invariant.ensures.guarded c.requires.1.1.1.1.1.0 c.requires.1.1.1.1.1.1.1.1.1.0 e.end c.lend_seat-seat.ensures.slot e.knows e.slot e.place

pub returns-clause-committed : goal.returns-clause-committed
returns-clause-committed g c =
    let e = c.commit-committed.ensures in
    let end = c.commit-committed.result.end in
    let old = c.args.gate.now in
    let new = c.commit-committed.new.self in
    let was = c.args.session.now in
    let seat = c.lend_seat-seat.result in
    let number : seat.knows.file ≡ c.args.slot.now.number =
    lent_number g.L.StoreName.store old.gate old.journal.knows c.args.slot.now was c.args.call c.args.own c.args.change g.versions c.requires.1.1.1.1.0 seat c.lend_seat-seat.ensures.seat in
    let told = c.reply-reply.ensures ∙ ap (reply_told end) c.requires.1.1.1.1.1.1.1.1.1.1.1.0 in
    record {
      end = end;
      reply = told;
      place = e.place;
      appends = record {
        extends = subst (λ (r : Reply). Extends g.L.StoreName.store (session_value was) (session_value c.commit-committed.new.session) (CallEvent was.number was.made c.args.call r (mark_told end))
            c.commit-committed.result.place) (sym told) e.extends;
        caller = e.whole;
        made = ap (λ s. s.made) e.session;
      };
      last = end_record end was.number was.made c.args.call c.args.own seat.knows g.versions;
      event = refl;
      tagged = ap (λ n. Some n) number;
      knows = e.knows;
      spare = e.spare;
      gate = record {
        leaves = e.leaves;
        doubt = e.doubt;
        closing = e.closing;
        holds = e.holds;
        open_handles = subst (λ n. HandlesBehind end old.gate.open_handles new.gate.open_handles n was.number c.args.call c.args.own) number e.open_handles;
        room = e.room;
        throughout = e.throughout;
        steps = e.steps;
        is_end = e.end;
        spent = e.spent;
        drawn = e.drawn;
        untouched = e.untouched;
        calm = e.calm;
        heard = e.heard;
        counts_are = e.counts;
        cause = e.cause;
        doubtful = e.doubtful;
        arms = e.arms;
      };
    }

pub returns-clause-draws : goal.returns-clause-draws
returns-clause-draws g c =
    let e = c.commit-committed.ensures in
    let end = c.commit-committed.result.end in
    let old = c.args.gate.now.gate in
    let new = c.commit-committed.new.self.gate in
    let faults = g.E.Entropy.faults in
    let before = counts (g.F.StoreFile.state old.dir.file) (g.R.RpmbPort.state old.host.port) (faults c.args.session.now.entropy) in
    let behind = counts (g.F.StoreFile.state new.dir.file) (g.R.RpmbPort.state new.host.port) (faults c.commit-committed.new.session.entropy) in
    record { counted = (end_grows before behind end e.counts).draws; reliable = e.reliable; still = λ is. end_still before behind end (e.drawn is) e.counts }

pub returns-clause-whole : goal.returns-clause-whole
returns-clause-whole g c =
    shown_whole c.commit-committed.new.self.journal.knows c.settle_slot.new.slot c.lend_seat-seat.result c.commit-committed.result.slot (ap (λ (s : SlotValue). s.seat) c.settle_slot.ensures.slot)
    c.commit-committed.ensures.slot
