-- How a create is answered, from what its steps ensure.
use Rattle.std.proofs.Common.{Err, Ok, Result, ap, arith, subst, sym, ℕ, ◌<◌, ◌≡◌}
use Rattle.call_steps.specs.CallerSessions.{CallerSession}
use Rattle.call_rules.specs.declared.decision.NewPlace.{NewPlace}
use Rattle.serial_calls.specs.Created.{Committable, IsAnswered, IsAnsweredOrNot, TriedCause, CreateFailure as ToldWhy}
use Rattle.serial_calls.specs.CreateEnds.{IsCommittableNew, IsFinished, IsToldWhy}
use Rattle.serial_calls.specs.CreateEnds.IsCommittableOrSpent.{Committable as CameCommittable, Uncommittable}
use Rattle.serial_calls.specs.Rules.{NewObject, create_call}
use Rattle.serial_calls.specs.CreateFailure.{IsToldUnmade, UnmadeCause, reply_unmade}
use Rattle.serial_calls.specs.declared.create_failure.CreateFailure.{CreateFailure}
use Rattle.disk_model.specs.State.{FileState}
use Rattle.call_steps.specs.GuardedGates.{GuardedGateValue}
use Rattle.call_steps.specs.declared.PlacedReply.{PlacedReply}
use Rattle.node_image.specs.declared.node.RootRef.{RootRef}
use Rattle.call_steps.specs.GateEnds.{mark_told}
use Rattle.call_steps.specs.ObjectCommits.{IsCommitted}
use Rattle.rpmb_card.specs.Port.{PortState}
use Rattle.rpmb_card.specs.Protocol.{last_counter}
use Rattle.call_steps.specs.declared.EntryChange.{EntryChange}
use Rattle.core_laws.specs.Stores.{Store}
use Rattle.tee_types.specs.declared.call.Call.{Call}
use Rattle.tee_types.specs.declared.reply.Reply.{Reply}
use Rattle.call_steps.proofs.GoingOn.{appends-drawn}
use Rattle.serial_calls.proofs.Results.{served_drawn}

-- A session is the same, whatever its generator is.
module _ {F R E : Type 0} (store : Store) (old new : GuardedGateValue F R) (file : ℕ) (was mid now : CallerSession E) (drawn : mid ≡ record was { entropy = mid.entropy }) where
  abbrev seen : CallerSession E
  seen = record was { entropy = mid.entropy }

  module _ (call : Call) (answer : PlacedReply) where
    told_seen : IsToldUnmade store old new file seen now call answer → IsToldUnmade store old new file was now call answer
    told_seen t = record { served = served_drawn store old new file was now mid.entropy call answer t.served; state = t.state }

    told_was : IsToldUnmade store old new file mid now call answer → IsToldUnmade store old new file was now call answer
    told_was t = told_seen (subst (λ (s : CallerSession E). IsToldUnmade store old new file s now call answer) drawn t)

  module _ (of_file : F → FileState) (of_port : R → PortState) (Was Mid : Type 0) (lasts : Was → Mid) (drew middle draws : ℕ) (none : middle ≡ drew) (answer : PlacedReply) where
    committed_seen : (call : Call) (own : Reply) (change : EntryChange) → IsCommitted of_file of_port store old new file seen now call own change Mid drew draws answer
        → IsCommitted of_file of_port store old new file was now call own change Was drew draws answer
    committed_seen call own change c = record {
      end = c.end;
      reply = c.reply;
      place = c.place;
      appends = appends-drawn store was now mid.entropy call answer (mark_told c.end) c.appends;
      last = c.last;
      event = c.event;
      tagged = c.tagged;
      knows = c.knows;
      spare = c.spare;
      gate = record {
        leaves = c.gate.leaves;
        doubt = c.gate.doubt;
        closing = c.gate.closing;
        holds = c.gate.holds;
        open_handles = c.gate.open_handles;
        room = c.gate.room;
        throughout = c.gate.throughout;
        steps = c.gate.steps;
        is_end = c.gate.is_end;
        spent = c.gate.spent;
        drawn = λ reliable. c.gate.drawn (lasts reliable);
        untouched = c.gate.untouched;
        calm = c.gate.calm;
        heard = c.gate.heard;
        counts_are = c.gate.counts_are;
        cause = c.gate.cause;
        doubtful = c.gate.doubtful;
        arms = c.gate.arms;
      };
    }

    committable_seen : (object : NewObject) (place : NewPlace) → IsCommittableNew of_file of_port store old new file seen now object place Mid drew draws answer
        → IsCommittableNew of_file of_port store old new file was now object place Was drew draws answer
    committable_seen object place b = record {
      view = b.view;
      file_is = b.file_is;
      generation = b.generation;
      next = b.next;
      of = b.of;
      real = b.real;
      committed = committed_seen (create_call object) _ _ b.committed;
    }

    committable_was : (object : NewObject) (place : NewPlace) → IsCommittableNew of_file of_port store old new file mid now object place Mid middle draws answer
        → IsCommittableNew of_file of_port store old new file was now object place Was drew draws answer
    committable_was object place b =
        committable_seen object place
        (subst (λ (p : CallerSession E × ℕ). IsCommittableNew of_file of_port store old new file p.0 now object place Mid p.1 draws answer) (λ i. (drawn i, none i)) b)

-- The gate ended a create so, of which making the object ended as it did.
module _ {F R E : Type 0} (of_file : F → FileState) (of_port : R → PortState) (faults : E → ℕ) (store : Store) (old new : GuardedGateValue F R) (file : ℕ) (before after : FileState) (was mid now : CallerSession E)
    (drawn : mid ≡ record was { entropy = mid.entropy }) (object : NewObject) (place : NewPlace) (Was Mid : Type 0) (lasts : Was → Mid) (answer : PlacedReply) where
  told_answered : (why : CreateFailure) → IsToldWhy store old new file mid now object why answer
      → UnmadeCause old.gate.counter file before after Was (faults was.entropy) (faults mid.entropy) (reply_unmade why)
      → IsAnswered of_file of_port store old new file before after was now object place Was (faults was.entropy) (faults now.entropy) answer
  told_answered why t cause =
      ToldWhy (told_was store old new file was mid now drawn (create_call object) answer t.told)
      (subst (λ (p : ℕ × Reply). UnmadeCause old.gate.counter file before after Was (faults was.entropy) p.0 p.1) (λ i. (ap faults (sym t.undrawn) i, sym t.reply i)) cause)

  pub finished_answered : (made : Result RootRef CreateFailure) → IsFinished of_file of_port store old new file mid now object place Mid (faults mid.entropy) (faults now.entropy) made answer
      → TriedCause old.gate.counter file before after Was (faults was.entropy) (faults mid.entropy) made
      → IsAnswered of_file of_port store old new file before after was now object place Was (faults was.entropy) (faults now.entropy) answer
  finished_answered (Ok root) (CameCommittable committable low) cause =
      Committable
      (committable_was store old new file was mid now drawn of_file of_port Was Mid lasts (faults was.entropy) (faults mid.entropy) (faults now.entropy) cause.1 answer object place committable.0)
      cause.0
  finished_answered (Ok root) (Uncommittable t spent) cause = absurd (never old.gate.counter spent cause.2)
    where
      never : (n : ℕ) → n ≡ last_counter → n < last_counter → ⊥
      never n is lt = omega (arith, is, lt)
  finished_answered (Err why) t cause = told_answered why t cause

-- the number of the session stays
pub answered_number : {F R E A : Type 0} (of_file : F → FileState) (of_port : R → PortState) (store : Store) (old new : GuardedGateValue F R) (file : ℕ) (before after : FileState) (was now : CallerSession E)
    (object : NewObject) (place : NewPlace) (Reliable : Type 0) (drew draws : ℕ) (result : Result PlacedReply A)
    → IsAnsweredOrNot of_file of_port store old new file before after was now object place Reliable drew draws result → now.number ≡ was.number
answered_number of_file of_port store old new file before after was now object place Reliable drew draws (Ok answer) (Committable new_ passed) = new_.committed.appends.extends.number
answered_number of_file of_port store old new file before after was now object place Reliable drew draws (Ok answer) (ToldWhy told cause) = told.served.appends.extends.number
answered_number {E = E} of_file of_port store old new file before after was now object place Reliable drew draws (Err none) untold = ap (λ (s : CallerSession E). s.number) untold.session
