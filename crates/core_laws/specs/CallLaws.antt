-- A call in a session: its tag, and what the session is behind it.
use Rattle.std.specs.Prelude.{◌≡◌, ◌≢◌, ◌+◌, ℕ, true, false, List, [], ◌∷◌, ◌++◌, length, Some, slice_index_or}
use Rattle.tee_types.specs.declared.call.Call.{Call}
use Rattle.tee_types.specs.declared.reply.Reply.{Reply}
use Rattle.store_model.specs.declared.name.ObjectName.{ObjectName}
use Rattle.store_model.specs.declared.event.Event.TheVariants.{Call as CallEvent}
use Rattle.store_model.specs.declared.event.Mark.{Mark}
use Rattle.store_model.specs.Files.{makes_object, object_named}
use Rattle.store_model.specs.Legal.{IsTagged, meant_by}
use Rattle.store_model.specs.Machine.{Session}
use Rattle.store_model.specs.Record.{fault_in_reply}
use Rattle.history_seats.specs.Records.{HistoryRecord}
use Rattle.history_seats.specs.Mounts.{Entry}
use Rattle.history_seats.specs.Settling.{Pending, calm, open_from, settled, settling}
use Rattle.history_seats.specs.Known.{session_from}
use Rattle.history_seats.specs.Views.{GateView, PassView, Sight}
use Rattle.history_seats.specs.Changes.{pass_renewed}
use Rattle.history_seats.specs.Rule.{PassFits}
use Rattle.core_laws.specs.TamperScenarios.{TamperScenario}
use Rattle.core_laws.specs.Stores.{Store, entries_at, entry_named, replay_at, start_under}
use Rattle.core_laws.specs.Mapped.{IsMapped}
use Rattle.core_laws.specs.Answered.{AreAnswered, IsFairHistory}
use Rattle.core_laws.specs.Sessions.{Extends, IsSessionOf, SessionValue}

-- A tag with the file of its object's entry is right, on a call that makes no object and accuses no other file.
abbrev pub EntriesTagCalls : Type 0
EntriesTagCalls =
    (store : Store) (scenario : TamperScenario) (before : List HistoryRecord) (session : ℕ) (call : Call) (reply : Reply) (mark : Mark) (name : ObjectName) (entry : Entry)
    → IsMapped store scenario before → object_named (replay_at store scenario before).state session call ≡ Some name → entry_named name (entries_at store before).now ≡ Some entry
    → makes_object call (meant_by (replay_at store scenario before) session call) ≡ false → ((number : ℕ) → fault_in_reply reply ≡ Some number → number ≡ entry.file)
    → IsTagged (replay_at store scenario before) session call reply mark (Some entry.file)

-- So is one with a file that no entry has, on a call that makes an object.
abbrev pub FreeFilesTagCreates : Type 0
FreeFilesTagCreates =
    (store : Store) (scenario : TamperScenario) (before : List HistoryRecord) (session : ℕ) (call : Call) (reply : Reply) (mark : Mark) (file : ℕ)
    → IsMapped store scenario before → ((name : ObjectName) (e : Entry) → entry_named name (entries_at store before).now ≡ Some e → e.file ≢ file)
    → makes_object call (meant_by (replay_at store scenario before) session call) ≡ true → ((number : ℕ) → fault_in_reply reply ≡ Some number → number ≡ file)
    → IsTagged (replay_at store scenario before) session call reply mark (Some file)

-- the session with its seat as it sees the whole history of a gate, and that state
abbrev pub session_renewed : GateView → Sight PassView → (made : ℕ) → Pending Session → SessionValue
session_renewed gate pass made state = record {
  pass = Some (record { table = pass.table; knows = pass_renewed gate pass.knows });
  number = (pass.knows).session;
  made = made;
  state = state;
}

-- A session sees the whole history: where what is past its view settles its doubt, or it has none, it stands so.
abbrev pub SessionsRenew : Type 0
SessionsRenew =
    (store : Store) (s : SessionValue) (x : IsSessionOf store s) (gate : GateView) (fits : PassFits gate x.pass.knows) (session : Session)
    → open_from gate.decided gate.all (settled (settling fits.sees.begins.rest) s.state) ≡ calm session
    → session.application ≡ slice_index_or store.mounted.applications s.number []
    → IsSessionOf store (session_renewed gate x.pass s.made (calm session))

-- Behind a call of its own the session is the store's again, and its view extends the one before.
pub record SessionGoesOn (store : Store) (before after : SessionValue) (r : HistoryRecord) (place : ℕ) : Type 0 where
  pub is : IsSessionOf store after
  pub extends : Extends store before after r.event place

abbrev pub CallsExtendSessions : Type 0
CallsExtendSessions =
    (store : Store) (s : SessionValue) (x : IsSessionOf store s) (gate : GateView) → PassFits gate x.pass.knows → (r : HistoryRecord) (call : Call) (reply : Reply) (mark : Mark)
    → r.event ≡ CallEvent s.number s.made call reply mark → IsFairHistory store (gate.all ++ r ∷ []) → (state : Pending Session)
    → (state.now).application ≡ slice_index_or store.mounted.applications s.number []
    → ((scenario : TamperScenario) → AreAnswered store scenario (gate.all ++ r ∷ []) → session_from gate.decided s.number (start_under store scenario) (gate.all ++ r ∷ []) ≡ state)
    → SessionGoesOn store s (session_renewed (record gate { all = gate.all ++ r ∷ [] }) x.pass (s.made + 1) state) r (length gate.all)
