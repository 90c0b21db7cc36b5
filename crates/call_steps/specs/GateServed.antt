-- What a call leaves that the gate answers alone.
use Rattle.std.specs.Prelude.{◌≡◌, ◌≤◌, ◌+◌, ◌⊎◌, ℕ, true, length, IsSome, Option, Some, None, Result, Ok, Err}
use Rattle.disk_model.specs.State.{FileState}
use Rattle.rpmb_card.specs.Port.{PortState}
use Rattle.tee_types.specs.declared.call.Call.{Call}
use Rattle.tee_types.specs.declared.reply.Cause.{Cause}
use Rattle.tee_types.specs.declared.reply.Reply.{Reply}
use Rattle.tee_types.specs.declared.reply.Reply.TheVariants.{NotAvailable}
use Rattle.store_model.specs.declared.event.Mark.TheVariants.{Unchanged}
use Rattle.store_model.specs.Calls.{reply_of}
use Rattle.store_model.specs.Files.{is_misuse}
use Rattle.store_model.specs.Machine.{MachineState, Session}
use Rattle.history_seats.specs.Changes.{with_record, call_record}
use Rattle.core_laws.specs.Stores.{Store}
use Rattle.commit_gate.specs.CallerSessions.{CallerSession}
use Rattle.open_table.specs.HandleChanges.{NotesReply}
use Rattle.call_rules.specs.Matches.{Matches}
use Rattle.call_rules.specs.Plain.{IsPlain}
use Rattle.commit_gate.specs.Commits.{IsCalm}
use Rattle.commit_gate.specs.GuardedGates.{GuardedGateValue}
use Rattle.commit_gate.specs.declared.placed_reply.PlacedReply.{PlacedReply}
use Rattle.call_steps.specs.Resolved.{IsSettled, StaysInDoubt, WasResolved}
use Rattle.call_steps.specs.SessionEvents.{Appends, IsWaiting}

-- The call was appended with its reply, as the last event, and the session is the store's behind it. Of the gate at most the table of open
-- handles changed, as call and reply say.
pub record IsServed {E F R : Type 0} (store : Store) (call : Call) (answer : PlacedReply) (old new : GuardedGateValue F R) (before after : CallerSession E) : Type 0 where
  pub appends : Appends store before after call answer Unchanged
  pub place : answer.place ≡ length old.journal.knows.all
  pub knows : new.journal.knows ≡ with_record (call_record before.number before.made call answer.reply Unchanged None) old.journal.knows
  pub spare : old.journal.spare ≤ new.journal.spare + 1
  pub gate : new.gate ≡ record old.gate { open_handles = new.gate.open_handles }
  pub notes : NotesReply old.gate.open_handles new.gate.open_handles 0 before.number call answer.reply
  pub closing : new.closing ≡ old.closing

module _ {F R : Type 0} (of_file : F → FileState) (of_port : R → PortState) where
  -- The call needs an object's file. No commit is in doubt any more, and the session was shown so.
  pub record IsLeft {E : Type 0} (store : Store) (old new : GuardedGateValue F R) (before after : CallerSession E) : Type 0 where
    pub settled : IsSettled of_file of_port old new
    pub idle : new.gate.doubt ≡ None
    pub calm : IsCalm store new.journal.knows after
    pub waits : IsWaiting store before after

module _ {F R : Type 0} (of_file : F → FileState) (of_port : R → PortState) (reliable : Type 0) (drew draws : ℕ) where
  -- what happened to a commit in doubt before the call was answered so
  pub data Precedes (old new : GuardedGateValue F R) (reply : Reply) : Type 0 where
    -- a misuse waits for nothing
    Misused : new ≡ old → is_misuse reply ≡ true → Precedes old new reply
    -- none was in doubt any more, and the rules answered
    Ruled : IsSettled of_file of_port old new → IsPlain reply → Precedes old new reply
    -- one is in doubt still, and the reply says why
    HeldUp : (cause : Cause) → StaysInDoubt of_file of_port reliable drew draws old new cause → reply ≡ NotAvailable cause → Precedes old new reply

  -- The gate answered the call, behind what became of a commit in doubt.
  pub record IsServedAlone {E : Type 0} (store : Store) (call : Call) (answer : PlacedReply) (old new : GuardedGateValue F R) (before after : CallerSession E) : Type 0 where
    pub between : GuardedGateValue F R
    pub precedes : Precedes old between answer.reply
    pub served : IsServed store call answer between new before after

  -- Memory ran out. The session may have been shown the history, and a commit in doubt may have been resolved. No draw failed.
  pub record IsUnserved {E : Type 0} (store : Store) (old new : GuardedGateValue F R) (before after : CallerSession E) : Type 0 where
    pub gate : (new ≡ old) ⊎ WasResolved of_file of_port old new
    pub undrawn : draws ≡ drew
    pub waits : IsWaiting store before after

  -- so by the result
  abbrev pub ServesAlone : {E X : Type 0} → Store → Call → (old new : GuardedGateValue F R) → (before after : CallerSession E) → Result (Option PlacedReply) X → Type 0
  ServesAlone store call old new before after (Ok (Some answer)) = IsServedAlone store call answer old new before after
  ServesAlone store call old new before after (Ok None) = IsLeft of_file of_port store old new before after
  ServesAlone store call old new before after (Err none) = IsUnserved store old new before after

-- The rules answer the call, while no commit is in doubt; or they leave gate and session.
abbrev pub ServesByRules : {E F R X : Type 0} → Store → Call → (old new : GuardedGateValue F R) → (before after : CallerSession E) → Result (Option PlacedReply) X → Type 0
ServesByRules store call old new before after (Ok (Some answer)) = IsServed store call answer old new before after × IsPlain answer.reply
ServesByRules store call old new before after (Ok None) = (new ≡ old) × (after ≡ before)
ServesByRules store call old new before after (Err none) = (new ≡ old) × (after ≡ before)

-- While a commit is in doubt, a machine that the gate and a session with that state stand for answers the call with a
-- misuse.
pub record IsMisused {F R : Type 0} (gate : GuardedGateValue F R) (state : Session) (call : Call) : Type 0 where
  pub doubted : IsSome gate.gate.doubt
  pub machine : MachineState
  pub number : ℕ
  pub matches : Matches gate.gate.dir.dir.entries gate.gate.open_handles state machine number
  pub misuse : is_misuse (reply_of machine number call) ≡ true

-- The gate answered it with a misuse, before which nothing was done. The session's generator was let be.
pub record IsServedAtOnce {E F R : Type 0} (store : Store) (call : Call) (answer : PlacedReply) (old new : GuardedGateValue F R) (before after : CallerSession E) : Type 0 where
  pub served : IsServed store call answer old new before after
  pub misuse : is_misuse answer.reply ≡ true
  pub entropy : after.entropy ≡ before.entropy

-- so by the result; where memory ran out nothing was done at all
abbrev pub ServesAtOnce : {E F R X : Type 0} → Store → Call → (old new : GuardedGateValue F R) → (before after : CallerSession E) → Result (Option PlacedReply) X → Type 0
ServesAtOnce store call old new before after (Ok (Some answer)) = IsServedAtOnce store call answer old new before after
ServesAtOnce store call old new before after (Ok None) = ⊥
ServesAtOnce store call old new before after (Err none) = (new ≡ old) × (after.entropy ≡ before.entropy)
