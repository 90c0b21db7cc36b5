-- Which histories are legal: each event is one that the store may give where the replay of the earlier ones stands.
use Rattle.std.specs.Prelude.{◌≡◌, ◌<◌, ◌+◌, ◌^◌, ℕ, Bool, true, false, not, ◌&&◌, ◌||◌, List, [], ◌∷◌, length, Option, Some, None, Contains}
use Rattle.tee_types.specs.declared.call.Call.{Call}
use Rattle.tee_types.specs.declared.call.Call.TheVariants.{Open, Read, Write, Truncate, Info}
use Rattle.tee_types.specs.declared.reply.Reply.{Reply}
use Rattle.tee_types.specs.declared.reply.Reply.TheVariants.{Handle, Content, Info as InfoReply, Corrupt, NotAvailable, CounterSpent}
use Rattle.tee_types.specs.declared.reply.Cause.{Cause}
use Rattle.tee_types.specs.declared.reply.Cause.TheVariants.{Fault}
use Rattle.tee_types.specs.declared.reply.Device.TheVariants.{File}
use Rattle.store_model.specs.declared.event.Event.{Event}
use Rattle.store_model.specs.declared.event.Event.TheVariants.{Call as CallEvent, Landed}
use Rattle.store_model.specs.declared.event.Mark.{Mark}
use Rattle.store_model.specs.declared.event.Mark.TheVariants.{Unchanged, Made, Doubtful}
use Rattle.store_model.specs.Record.{Record, file_of, fault_in_reply}
use Rattle.store_model.specs.Calls.{reply_of, is_commit}
use Rattle.store_model.specs.Files.{IsFree, file_named, makes_object, reads_file, is_misuse, is_corrupt}
use Rattle.store_model.specs.Doubt.{Doubt}
use Rattle.store_model.specs.ReplayState.{ReplayState, is_of_card, replay_after}

-- the mark of a call that is answered as the machine does
abbrev pub mark_of : ℕ → Bool → Mark
mark_of counter true = Made (counter + 1)
mark_of counter false = Unchanged

-- the counter after such a call
abbrev pub counter_after : ℕ → Bool → ℕ
counter_after counter true = counter + 1
counter_after counter false = counter

-- what the machine answers to the call where the replay stands, and whether that is a commit
abbrev pub meant_by : ReplayState → ℕ → Call → Reply
meant_by s session call = reply_of s.state session call

abbrev pub is_commit_due : ReplayState → ℕ → Call → Bool
is_commit_due s session call = is_commit s.state session call (meant_by s session call)

-- the call reads an object's file, or changes it
abbrev pub touches_file : Call → Bool
touches_file (Open id flags) = true
touches_file (Read handle size) = true
touches_file (Write handle bytes) = true
touches_file (Truncate handle size) = true
touches_file (Info handle) = true
touches_file _ = false

-- the reply tells of an object
abbrev pub tells_object : Reply → Bool
tells_object (Handle number) = true
tells_object (Content bytes) = true
tells_object (InfoReply size position flags attributes) = true
tells_object _ = false

-- The event has the machine's reply; a commit raises the counter, which ends at 4,294,967,295.
pub record IsAnswered (s : ReplayState) (session : ℕ) (call : Call) (reply : Reply) (mark : Mark) : Type 0 where
  pub replied : reply ≡ meant_by s session call
  pub marked : mark ≡ mark_of s.counter (is_commit_due s session call)
  pub counted : counter_after s.counter (is_commit_due s session call) < 2 ^ 32

-- The open doubt could not be resolved. A misuse is found before.
pub record IsUnresolved (s : ReplayState) (session : ℕ) (call : Call) (cause : Cause) : Type 0 where
  pub doubt : Doubt
  pub is_open : s.doubt ≡ Some doubt
  pub no_misuse : is_misuse (meant_by s session call) ≡ false
  pub of_card : is_of_card cause ≡ true

-- The object's file failed as it was read.
pub record IsUnread (s : ReplayState) (session : ℕ) (call : Call) (cause : Cause) (file : Option ℕ) : Type 0 where
  pub touches : touches_file call ≡ true
  pub tells : (tells_object (meant_by s session call) || is_corrupt (meant_by s session call)) ≡ true
  pub number : ℕ
  pub count : ℕ
  pub named : file ≡ Some number
  pub failed : cause ≡ Fault (File number) count

-- why a device keeps a call from being done
pub data IsHindered (s : ReplayState) (session : ℕ) (call : Call) (cause : Cause) (file : Option ℕ) : Type 0 where
  -- a commit was due, and was not made
  NotMade : is_commit_due s session call ≡ true → IsHindered s session call cause file
  Unread : IsUnread s session call cause file → IsHindered s session call cause file
  Unresolved : IsUnresolved s session call cause → IsHindered s session call cause file

-- TEE_ERROR_STORAGE_NOT_AVAILABLE: a device failed, and nothing was done.
pub record IsUnavailable (s : ReplayState) (session : ℕ) (call : Call) (reply : Reply) (mark : Mark) (file : Option ℕ) : Type 0 where
  pub cause : Cause
  pub replied : reply ≡ NotAvailable cause
  pub marked : mark ≡ Unchanged
  pub due : IsHindered s session call cause file

-- A commit was not confirmed: it is in doubt from here on.
pub record IsDoubted (s : ReplayState) (session : ℕ) (call : Call) (reply : Reply) (mark : Mark) : Type 0 where
  pub cause : Cause
  pub replied : reply ≡ NotAvailable cause
  pub marked : mark ≡ Doubtful (s.counter + 1)
  pub due : is_commit_due s session call ≡ true
  pub counted : s.counter + 1 < 2 ^ 32

-- TEE_ERROR_CORRUPT_OBJECT: the object's file is not honest, and what it gave was refused. A commit was due, or an answer that tells
-- of the object.
pub record IsFoundCorrupt (tampered : List ℕ) (s : ReplayState) (session : ℕ) (call : Call) (reply : Reply) (mark : Mark) (file : Option ℕ) : Type 0 where
  pub replied : reply ≡ Corrupt
  pub marked : mark ≡ Unchanged
  pub touches : touches_file call ≡ true
  pub due : (is_commit_due s session call || tells_object (meant_by s session call)) ≡ true
  pub number : ℕ
  pub named : file ≡ Some number
  pub not_honest : Contains tampered number

-- A commit was due, and the card's counter is at its last value.
pub record IsSpent (s : ReplayState) (session : ℕ) (call : Call) (reply : Reply) (mark : Mark) : Type 0 where
  pub replied : reply ≡ CounterSpent 4294967295
  pub marked : mark ≡ Unchanged
  pub due : is_commit_due s session call ≡ true
  pub spent : s.counter ≡ 4294967295

-- the ways in which a call may be answered where the replay stands
pub data IsLegalAnswer (tampered : List ℕ) (s : ReplayState) (session : ℕ) (call : Call) (reply : Reply) (mark : Mark) (file : Option ℕ) : Type 0 where
  Answered : IsAnswered s session call reply mark → IsLegalAnswer tampered s session call reply mark file
  Unavailable : IsUnavailable s session call reply mark file → IsLegalAnswer tampered s session call reply mark file
  Doubted : IsDoubted s session call reply mark → IsLegalAnswer tampered s session call reply mark file
  FoundCorrupt : IsFoundCorrupt tampered s session call reply mark file → IsLegalAnswer tampered s session call reply mark file
  Spent : IsSpent s session call reply mark → IsLegalAnswer tampered s session call reply mark file

abbrev pub is_unchanged : Mark → Bool
is_unchanged Unchanged = true
is_unchanged (Made commit) = false
is_unchanged (Doubtful commit) = false

-- the reply stands for the open doubt, whatever the call: its object's file was not looked at
abbrev pub stands_for_doubt : Option Doubt → Reply → Mark → Bool
stands_for_doubt (Some doubt) (NotAvailable cause) Unchanged = is_of_card cause
stands_for_doubt _ _ _ = false

-- the event was given by the object's file, or changed its object
abbrev pub needs_file : ReplayState → ℕ → Call → Reply → Mark → Bool
needs_file s session call reply Unchanged = not (stands_for_doubt s.doubt reply Unchanged) && reads_file call (meant_by s session call)
needs_file s session call reply (Made commit) = true
needs_file s session call reply (Doubtful commit) = true

-- the file of the object that the call makes is no other object's, and every other call has the file of the object that it names
abbrev pub IsFileOf : ReplayState → ℕ → Call → ℕ → Type 0
IsFileOf s session call file = elim (makes_object call (meant_by s session call)) [
  | true ↦ IsFree s.files file
  | false ↦ file_named s.files s.state session call ≡ Some file
]

-- Which file the tag of a call's event names.
pub record IsTagged (s : ReplayState) (session : ℕ) (call : Call) (reply : Reply) (mark : Mark) (file : Option ℕ) : Type 0 where
  -- its object's
  pub own : (number : ℕ) → file ≡ Some number → IsFileOf s session call number
  -- what needs the file has a tag, where the object has a file
  pub needed : needs_file s session call reply mark ≡ true → file ≡ None → file_named s.files s.state session call ≡ None
  -- a reply that carries a fault of an object's file comes with that file
  pub fault : (number : ℕ) → fault_in_reply reply ≡ Some number → file ≡ Some number

-- A call of a declared application, with its tag, may be answered so.
pub record IsLegalCall (tampered : List ℕ) (s : ReplayState) (session : ℕ) (call : Call) (reply : Reply) (mark : Mark) (file : Option ℕ) : Type 0 where
  pub declared : session < length s.state.sessions
  pub tagged : IsTagged s session call reply mark file
  pub answer : IsLegalAnswer tampered s session call reply mark file

-- A commit lands only while it is in doubt, and its event has no tag.
pub record IsLegalLanding (s : ReplayState) (commit : ℕ) (file : Option ℕ) : Type 0 where
  pub doubt : Doubt
  pub is_open : s.doubt ≡ Some doubt
  pub number : commit ≡ doubt.commit
  pub untagged : file ≡ None

-- the ways in which an event may stand where the replay does
abbrev pub IsLegalEvent : List ℕ → ReplayState → Event → Option ℕ → Type 0
IsLegalEvent tampered s (CallEvent session number call reply mark) file = IsLegalCall tampered s session call reply mark file
IsLegalEvent tampered s (Landed commit) file = IsLegalLanding s commit file

-- each event is legal where the replay of those before it stands
abbrev pub IsLegalFrom : {Root : Type 0} → List ℕ → ReplayState → List (Record Root) → Type 0
IsLegalFrom tampered s [] = Unit {0}
IsLegalFrom tampered s (r ∷ records) =
    IsLegalEvent tampered s r.event (file_of r) × IsLegalFrom tampered (replay_after s r.event (file_of r)) records
