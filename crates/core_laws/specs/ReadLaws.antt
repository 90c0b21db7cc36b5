-- Freshness in a history: a reply that tells what an object's file gave is answered, or the promises end there.
use Rattle.std.specs.Prelude.{◌≡◌, ◌⊎◌, ◌<◌, ◌^◌, ℕ, true, false, not, ◌||◌, List, length, Some}
use Rattle.tee_types.specs.declared.call.Call.{Call}
use Rattle.tee_types.specs.declared.call.Call.TheVariants.{Info, Open, Read}
use Rattle.tee_types.specs.declared.reply.Reply.{Reply}
use Rattle.tee_types.specs.declared.reply.Reply.TheVariants.{Handle as HandleReply, Info as InfoReply}
use Rattle.tee_types.specs.declared.flags.Flags.{Flags}
use Rattle.tee_types.specs.Rights.{has, is_known, overwrite_bit, read_bit}
use Rattle.std.specs.List.{list_all}
use Rattle.store_model.specs.declared.name.ObjectName.{ObjectName}
use Rattle.store_model.specs.Handles.{allows_open}
use Rattle.store_model.specs.declared.session.Handle.{Handle}
use Rattle.store_model.specs.Machine.{MachineState, handle_at, has_all_handles, name_in, session_at}
use Rattle.history_seats.specs.Records.{HistoryRecord}
use Rattle.core_laws.specs.Decodings.{IsReal}
use Rattle.core_laws.specs.TamperScenarios.{TamperScenario}
use Rattle.core_laws.specs.Stores.{Store, replay_at}
use Rattle.core_laws.specs.Mapped.{IsMapped}
use Rattle.core_laws.specs.Shown.{IsEndAt, IsToldAt}
use Rattle.core_laws.specs.Answered.{IsAnsweredAt}

-- the session's live handle of that number
pub record IsLive (s : MachineState) (i number : ℕ) : Type 0 where
  pub handle : Handle
  pub live : handle_at (session_at s i) number ≡ Some handle

-- the reply to an Info says the object's size, and the position and the flags of the handle
abbrev pub SaysHandle : (size : ℕ) → Handle → Reply → Type 0
SaysHandle size handle (InfoReply long at flags told) = (long ≡ size) × (at ≡ handle.position) × (flags ≡ handle.flags)
SaysHandle size handle _ = ⊥

-- an open of that object is allowed, and gives the session's next handle
pub record IsOpening (s : MachineState) (i : ℕ) (name : ObjectName) (flags : Flags) (number : ℕ) : Type 0 where
  pub known : (not (is_known flags) || has flags overwrite_bit) ≡ false
  pub few : has_all_handles (session_at s i) ≡ false
  pub allowed : list_all (allows_open name flags) s.sessions ≡ true
  pub is_next : number ≡ (session_at s i).next_handle

abbrev pub OpensNext : MachineState → (i : ℕ) → ObjectName → Flags → Reply → Type 0
OpensNext s i name flags (HandleReply number) = IsOpening s i name flags number
OpensNext s i name flags _ = ⊥

-- The machine does such a call, if it does not find damage: a Read by a live handle with the right to read, an Info by a live handle, and an
-- Open that is allowed.
abbrev pub IsAdmitted : MachineState → (i size : ℕ) → Call → Reply → Type 0
IsAdmitted s i size (Open id flags) reply = OpensNext s i (name_in s i id) flags reply
IsAdmitted s i size (Read number count) reply = (h : IsLive s i number) × (has h.handle.flags read_bit ≡ true)
IsAdmitted s i size (Info number) reply = (h : IsLive s i number) × SaysHandle size h.handle reply
IsAdmitted s i size _ reply = ⊥

-- An Open, a Read or an Info that tells what its object's file gave, whatever the file is: it is legal, or shows a clash, or the promises end.
abbrev pub ToldRepliesAreAnswered : Type 0
ToldRepliesAreAnswered =
    (store : Store) (scenario : TamperScenario) (before : List HistoryRecord) (r : HistoryRecord) (x : IsToldAt store scenario before r) → IsReal store.keys x.given.version
    → IsMapped store scenario before → x.given.session < length store.mounted.applications → (replay_at store scenario before).counter < 2 ^ 32
    → IsAdmitted (replay_at store scenario before).state x.given.session x.given.version.size x.given.call x.given.reply
    → IsAnsweredAt store scenario before r ⊎ IsEndAt store scenario before r
