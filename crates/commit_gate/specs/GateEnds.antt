-- How a commit's end is told, and what becomes of its session.
use Rattle.std.specs.Prelude.{◌≡◌, ℕ, ◌+◌, ◌<◌, ◌^◌, List, None, Option, Some}
use Rattle.tee_types.specs.declared.call.Call.{Call}
use Rattle.tee_types.specs.declared.call.Call.TheVariants.{Create}
use Rattle.tee_types.specs.declared.reply.Reply.{Reply}
use Rattle.tee_types.specs.declared.reply.Reply.TheVariants.{CounterSpent, NotAvailable}
use Rattle.rpmb_card.specs.Protocol.{last_counter}
use Rattle.store_model.specs.declared.event.Event.{Event}
use Rattle.store_model.specs.declared.event.Event.TheVariants.{Call as CallEvent}
use Rattle.store_model.specs.declared.event.Mark.{Mark}
use Rattle.store_model.specs.declared.event.Mark.TheVariants.{Unchanged, Made as MarkedMade, Doubtful as MarkedDoubtful}
use Rattle.store_model.specs.Machine.{Session}
use Rattle.store_model.specs.Record.{file_at_fault}
use Rattle.open_table.specs.Table.{TableState}
use Rattle.history_seats.specs.Records.{HistoryRecord}
use Rattle.history_seats.specs.Changes.{TagVersions}
use Rattle.history_seats.specs.Views.{SlotView}
use Rattle.crash_core.specs.declared.change.EntryChange.{EntryChange}
use Rattle.crash_core.specs.declared.change.EntryChange.TheVariants.{Put}
use Rattle.commit_gate.specs.declared.own_doubt.OwnDoubt.{OwnDoubt}
use Rattle.commit_gate.specs.CallerSessions.{CallerSession, landing_of_call}
use Rattle.store_commit.specs.declared.change.CommitEnd.{CommitEnd}
use Rattle.store_commit.specs.declared.change.CommitEnd.TheVariants.{Made, Dropped, Doubtful, Spent}
use Rattle.store_commit.specs.Holds.{file_held}
use Rattle.open_table.specs.HandleChanges.{NotesReply}
use Rattle.commit_gate.specs.declared.guarded_gate.Closing.{Closing}
use Rattle.commit_gate.specs.declared.session_moves.SessionMove.{SessionMove}
use Rattle.commit_gate.specs.Commits.{file_record, made_versions, unmade_versions}
use Rattle.commit_gate.specs.GuardedGates.{closing_of}
use Rattle.commit_gate.specs.SessionMoves.{moved_by}

-- Such an end comes of a commit at that counter: its number is the next one, and no object's file is accused.
abbrev pub IsCommitEnd : (counter : ℕ) → CommitEnd → Type 0
IsCommitEnd counter (Made n) = (n ≡ counter + 1) × (n < 2 ^ 32)
IsCommitEnd counter (Dropped cause) = file_at_fault cause ≡ None
IsCommitEnd counter (Doubtful n cause) = (n ≡ counter + 1) × (n < 2 ^ 32) × (file_at_fault cause ≡ None)
IsCommitEnd counter Spent = counter ≡ last_counter

-- the reply: the machine's own where the commit was made, else why it was not, or why that is not known
abbrev pub reply_told : CommitEnd → Reply → Reply
reply_told (Made n) reply = reply
reply_told (Dropped cause) reply = NotAvailable cause
reply_told (Doubtful n cause) reply = NotAvailable cause
reply_told Spent reply = CounterSpent last_counter

abbrev pub mark_told : CommitEnd → Mark
mark_told (Made n) = MarkedMade n
mark_told (Dropped cause) = Unchanged
mark_told (Doubtful n cause) = MarkedDoubtful n
mark_told Spent = Unchanged

-- the versions that the tag names, where the commit was brought with those
abbrev pub versions_told : CommitEnd → TagVersions → TagVersions
versions_told (Made n) versions = made_versions versions
versions_told (Dropped cause) versions = unmade_versions versions
versions_told (Doubtful n cause) versions = versions
versions_told Spent versions = unmade_versions versions

-- the event of the commit's call, and its record
abbrev pub end_event : CommitEnd → (session number : ℕ) → Call → Reply → Event
end_event end session number call reply = CallEvent session number call (reply_told end reply) (mark_told end)

abbrev pub end_record : CommitEnd → (session number : ℕ) → Call → Reply → SlotView → TagVersions → HistoryRecord
end_record end session number call reply slot versions = file_record session number call (reply_told end reply) (mark_told end) slot (versions_told end versions)

-- the state of the session: one that is made moves it
abbrev pub state_behind : CommitEnd → SessionMove → Session → Session
state_behind (Made n) step s = moved_by s step
state_behind (Dropped cause) step s = s
state_behind (Doubtful n cause) step s = s
state_behind Spent step s = s

-- its own commit in doubt: one that is in doubt has its event at that place
abbrev pub doubt_behind : CommitEnd → Call → (place : ℕ) → Option OwnDoubt → Option OwnDoubt
doubt_behind (Made n) call place doubt = doubt
doubt_behind (Dropped cause) call place doubt = doubt
doubt_behind (Doubtful n cause) call place doubt = Some (record { place = place; landing = landing_of_call call })
doubt_behind Spent call place doubt = doubt

-- the session, before the event is appended
abbrev pub session_moved : {E : Type 0} → CommitEnd → SessionMove → Call → (place : ℕ) → CallerSession E → CallerSession E
session_moved end step call place s = record s { state = state_behind end step s.state; doubt = doubt_behind end call place s.doubt }

-- the handle that the landing of the commit in doubt closes
abbrev pub closing_behind : CommitEnd → (session : ℕ) → Call → Option Closing → Option Closing
closing_behind (Made n) session call closing = closing
closing_behind (Dropped cause) session call closing = closing
closing_behind (Doubtful n cause) session call closing = closing_of session call
closing_behind Spent session call closing = closing

-- The open handles: one that is made brings or takes the handle that its call and reply name.
abbrev pub HandlesBehind : CommitEnd → (old new : TableState) → (file session : ℕ) → Call → Reply → Type 0
HandlesBehind (Made n) old new file session call reply = NotesReply old new file session call reply
HandlesBehind (Dropped cause) old new file session call reply = new ≡ old
HandlesBehind (Doubtful n cause) old new file session call reply = new ≡ old
HandlesBehind Spent old new file session call reply = new ≡ old

-- A session holds the file of the object that the call creates.
abbrev pub HoldsNewFile : (holds : List (Option ℕ)) → Call → EntryChange → Type 0
HoldsNewFile holds (Create id flags attributes bytes) (Put index e) = (session : ℕ) × (file_held holds session ≡ Some e.file)
HoldsNewFile holds call change = Unit {0}
