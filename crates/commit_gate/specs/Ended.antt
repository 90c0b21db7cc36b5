-- What the end of a commit asks before its event is appended, and what it leaves.
use Rattle.std.specs.Prelude.{◌≡◌, ◌+◌, length, Some}
use Rattle.tee_types.specs.declared.call.Call.{Call}
use Rattle.tee_types.specs.declared.reply.Reply.{Reply}
use Rattle.store_model.specs.declared.event.Event.TheVariants.{Call as CallEvent}
use Rattle.store_model.specs.declared.event.Mark.{Mark}
use Rattle.history_seats.specs.Changes.{IsFitting, TagVersions, seat_renewed, together, with_record}
use Rattle.history_seats.specs.Rule.{Agrees}
use Rattle.history_seats.specs.Views.{GateView, Sight, SlotView}
use Rattle.core_laws.specs.TamperScenarios.{TamperScenario}
use Rattle.core_laws.specs.Stores.{Store}
use Rattle.core_laws.specs.Answered.{IsFairAt}
use Rattle.core_laws.specs.Sessions.{Extends}
use Rattle.commit_gate.specs.declared.journal_calls.AppendedCall.{AppendedCall}
use Rattle.commit_gate.specs.JournalCalls.{IsMovedBy, pass_view}
use Rattle.commit_gate.specs.Journals.{IsJournal}
use Rattle.commit_gate.specs.CallerSessions.{CallerSession, IsCallerOf, session_value}
use Rattle.commit_gate.specs.SessionViews.{pass_shown}
use Rattle.store_commit.specs.declared.change.CommitEnd.{CommitEnd}
use Rattle.commit_gate.specs.declared.session_moves.SessionMove.{SessionMove}
use Rattle.commit_gate.specs.Commits.{file_record}
use Rattle.commit_gate.specs.GateEnds.{mark_told, reply_told, session_moved, versions_told}

-- The record of a call on a slot's object is fair and rightly tagged, and the session, once it moved so, is the machine's behind it.
pub record MayAppend {E : Type 0} (store : Store) (view : GateView) (call : Call) (told : Reply) (mark : Mark) (slot : SlotView) (versions : TagVersions) (s moved : CallerSession E) : Type 0 where
  pub fitting : IsFitting view (file_record s.number s.made call told mark slot versions)
  pub fair : (scenario : TamperScenario) → IsFairAt store scenario view.all (file_record s.number s.made call told mark slot versions)
  pub moves : IsMovedBy store view (file_record s.number s.made call told mark slot versions) moved

-- It is appended, and the session, which moved so, and the slot's seat see it.
pub record IsAppended {E : Type 0} (store : Store) (before after : GateView) (call : Call) (told : Reply) (mark : Mark) (slot : Sight SlotView) (versions : TagVersions) (s moved new : CallerSession E)
    (appended : AppendedCall) : Type 0 where
  pub place : appended.place ≡ length before.all
  pub knows : after ≡ with_record (file_record s.number s.made call told mark slot.knows versions) before
  pub kept : IsJournal store after
  pub seat : appended.slot ≡ seat_renewed after (Some slot)
  pub session : new ≡ record moved { pass = pass_shown after s.pass; made = s.made + 1 }
  -- What the seats knew agreed with the journal.
  pub agreed : Agrees (together before (Some slot.knows) (pass_view s.pass))
  pub whole : IsCallerOf store new
  pub extends : Extends store (session_value s) (session_value new) (CallEvent s.number s.made call told mark) appended.place

-- so of the end of a commit
abbrev pub MayEnd : {E : Type 0} → Store → GateView → CommitEnd → Call → Reply → SessionMove → SlotView → TagVersions → CallerSession E → Type 0
MayEnd store view end call reply step slot versions s =
    MayAppend store view call (reply_told end reply) (mark_told end) slot (versions_told end versions) s (session_moved end step call (length view.all) s)

abbrev pub IsEnded : {E : Type 0} → Store → (before after : GateView) → CommitEnd → Call → Reply → SessionMove → Sight SlotView → TagVersions → (old new : CallerSession E) → AppendedCall → Type 0
IsEnded store before after end call reply step slot versions old new appended =
    IsAppended store before after call (reply_told end reply) (mark_told end) slot (versions_told end versions) old (session_moved end step call (length before.all) old) new appended
