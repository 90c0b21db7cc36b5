-- The sessions of a store as it is shared under quotas.
use Rattle.std.proofs.Common.{◌≡◌, ◌∙◌, ◌≤◌, ℕ, All, List, length, map, refl, sym, ap, subst, arith}
use Rattle.std.proofs.lemmas.List.{get_or-map, length-map}
use Rattle.std.proofs.lemmas.List.Elements.{All-map}
use Rattle.app_quota.specs.Quotas.{limit_of}
use Rattle.app_quota.specs.declared.quotas.Quota.{Quota}
use Rattle.core_laws.specs.Stores.{Store}
use Rattle.history_seats.specs.Views.{GateView}
use Rattle.object_calls.specs.OpeningSessions.{AreCallers as AreSessions, AreSeated}
use Rattle.quota_store.specs.Callers.{QuotaCaller}
use Rattle.quota_store.specs.Sharing.{AreCallers, AreSeated as AreSharable, callers_of, limited_by}
use Rattle.quota_store.specs.CallerSessions.{CallerSession, IsCallerOf}
use Rattle.quota_store.specs.Kept.{AreOfSessions}
use Rattle.store_model.specs.History.{count_of}
use Rattle.store_model.specs.Record.{events_of}
use Rattle.run_acts.specs.QuotaWork.{IsLimited}
use Rattle.run_acts.proofs.Calls.{calls_of-past, length-calls_of}

pub length-callers : {E : Type 0} (sessions : List (QuotaCaller E)) → length (callers_of sessions) ≡ length sessions
length-callers {E} sessions = length-map sessions (λ (s : QuotaCaller E). s.caller)

-- seated sessions may be shared
pub seated-shared : {E : Type 0} (store : Store) (sessions : List (CallerSession E)) → AreSeated store sessions → AreSharable store sessions
seated-shared store sessions s = record { many = s.many; each = s.each; numbered = s.numbered }

-- each is under the limit of its application
pub limited-all : {E : Type 0} (quotas : List Quota) (sessions : List (CallerSession E)) → All (IsLimited (limit_of quotas)) (map (limited_by quotas) sessions)
limited-all quotas sessions = All-map (IsLimited (limit_of quotas)) (limited_by quotas) sessions (λ i d below. refl)

module _ {E : Type 0} (quotas : List Quota) (sessions : List (CallerSession E)) (shared : List (QuotaCaller E)) (same : shared ≡ map (limited_by quotas) sessions) where
  pub many-shared : length shared ≡ length sessions
  many-shared = ap (λ (l : List (QuotaCaller E)). length l) same ∙ length-map sessions (limited_by quotas)

pub shared-callers : {E : Type 0} (store : Store) (quotas : List Quota) (sessions : List (CallerSession E)) (shared : List (QuotaCaller E)) → shared ≡ map (limited_by quotas) sessions → AreSessions store sessions
    → AreCallers store shared
shared-callers {E} store quotas sessions shared same callers =
    subst (λ (l : List (QuotaCaller E)). AreCallers store l) (sym same) (All-map (λ (q : QuotaCaller E). IsCallerOf store q.caller) (limited_by quotas) sessions callers)

-- the sessions behind their calls are the store's
pub callers-all : {E : Type 0} (store : Store) (sessions : List (QuotaCaller E)) → AreSessions store (callers_of sessions) → AreCallers store sessions
callers-all {E} store sessions callers i d below =
    subst (IsCallerOf store) (get_or-map (λ (s : QuotaCaller E). s.caller) sessions i d d.caller below) (callers i d.caller (omega (arith, below, length-callers sessions)))

-- past the last session there is no event
pub past-none : {E : Type 0} (store : Store) (view : GateView) (sessions : List (CallerSession E)) → AreSeated store sessions → AreOfSessions (length store.mounted.applications) (events_of view.all)
    → (session : ℕ) → length sessions ≤ session → count_of session (events_of view.all) ≡ 0
past-none store view sessions seated known session past =
    sym (length-calls_of session (events_of view.all)) ∙ ap length (calls_of-past (length store.mounted.applications) session (events_of view.all) (omega (arith, past, seated.many)) known)
