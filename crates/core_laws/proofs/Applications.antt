-- A session stays of its application.
use Rattle.std.proofs.Common.{◌≡◌, ℕ, zero, suc, Bool, true, false, List, [], ◌∷◌, map, slice_set, slice_index_or, Option, Some, None, refl, ap, ◌∙◌}
use Rattle.tee_types.specs.declared.call.Call.{Call}
use Rattle.tee_types.specs.declared.call.Call.TheVariants.{Delete, Rename}
use Rattle.store_model.specs.declared.event.Event.{Event}
use Rattle.store_model.specs.declared.event.Event.TheVariants.{Call as CallEvent, Landed}
use Rattle.store_model.specs.declared.event.Mark.TheVariants.{Unchanged, Made, Doubtful}
use Rattle.store_model.specs.declared.session.Handle.{Handle}
use Rattle.store_model.specs.Machine.{MachineState, Session, applications, handle_at, new_session, session_at}
use Rattle.store_model.specs.Calls.{state_after}
use Rattle.store_model.specs.Doubt.{Doubt, follows, session_landed}
use Rattle.store_model.specs.Record.{file_of}
use Rattle.store_model.specs.ReplayState.{ReplayState, is_undone, replay, replay_after, replay_landed}
use Rattle.store_model.proofs.Sessions.{applications-sessions}
use Rattle.history_seats.specs.Records.{HistoryRecord}
use Rattle.core_laws.specs.Stores.{start_under}
use Rattle.core_laws.specs.MachineChanges.{ApplicationsStay}

set-session : (sessions : List Session) (i : ℕ) (session : Session) → session.application ≡ (slice_index_or sessions i (new_session [])).application → applications (slice_set sessions i session) ≡ applications sessions
set-session [] i session h = refl
set-session (x ∷ sessions) zero session h = ap (λ a. a ∷ applications sessions) h
set-session (x ∷ sessions) (suc i) session h = ap (λ l. x.application ∷ l) (set-session sessions i session h)

-- also once its doubted call landed
session-landed : (s : MachineState) (i : ℕ) (call : Call) → (session_landed s i call).application ≡ (session_at s i).application
session-landed s i (Delete handle) = refl
session-landed s i (Rename handle id) = by_handle (handle_at (session_at s i) handle)
  where
    by_handle : (o : Option Handle) → (follows s i handle id o).application ≡ (session_at s i).application
    by_handle None = refl
    by_handle (Some h) = refl
session-landed s i call = refl

state-landed : (s : ReplayState) (o : Option Doubt) → applications (replay_landed s o).state.sessions ≡ applications s.state.sessions
state-landed s None = refl
state-landed s (Some doubt) = set-session s.state.sessions doubt.session (session_landed s.state doubt.session doubt.call) (session-landed s.state doubt.session doubt.call)

after-event : (s : ReplayState) (event : Event) (file : Option ℕ) → applications (replay_after s event file).state.sessions ≡ applications s.state.sessions
after-event s (CallEvent session number call reply Unchanged) file = by_test (is_undone reply)
  where
    by_test : (b : Bool) → applications (elim b as (λ _. MachineState) [ true ↦ s.state | false ↦ state_after s.state session call ]).sessions ≡ applications s.state.sessions
    by_test true = refl
    by_test false = applications-sessions s.state session call
after-event s (CallEvent session number call reply (Made commit)) file = applications-sessions s.state session call
after-event s (CallEvent session number call reply (Doubtful commit)) file = refl
after-event s (Landed commit) file = state-landed s s.doubt

after-replay : (s : ReplayState) (records : List HistoryRecord) → applications (replay s records).state.sessions ≡ applications s.state.sessions
after-replay s [] = refl
after-replay s (r ∷ records) = after-replay (replay_after s r.event (file_of r)) records ∙ after-event s r.event (file_of r)

new-applications : (apps : List (List ℕ)) → applications (map new_session apps) ≡ apps
new-applications [] = refl
new-applications (a ∷ apps) = ap (λ l. a ∷ l) (new-applications apps)

at-place : (sessions : List Session) (i : ℕ) → (slice_index_or sessions i (new_session [])).application ≡ slice_index_or (applications sessions) i []
at-place [] i = refl
at-place (x ∷ sessions) zero = refl
at-place (x ∷ sessions) (suc i) = at-place sessions i

pub applications_stay : ApplicationsStay
applications_stay store scenario records session =
    at-place (replay (start_under store scenario) records).state.sessions session
    ∙ ap (λ (l : List (List ℕ)). slice_index_or l session []) (after-replay (start_under store scenario) records ∙ new-applications store.mounted.applications)
