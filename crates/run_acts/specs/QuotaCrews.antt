-- The workers of a phase under quotas, and what they leave.
use Rattle.std.specs.Prelude.{◌≡◌, All, List, [], map}
use Rattle.std.proofs.Common.{Vec, Global}
use Rattle.quota_store.specs.Callers.{QuotaCaller}
use Rattle.run_acts.specs.declared.quota_worker.QuotaWorker.{QuotaWorker}
use Rattle.run_acts.specs.declared.refused_call.RefusedCall.{RefusedCall}

-- the sessions of these workers, and the refused calls of each
abbrev pub sessions_of : {E : Type 0} → List (QuotaWorker E) → List (QuotaCaller E)
sessions_of workers = map (λ w. w.session) workers

abbrev pub lists_of : {E : Type 0} → List (QuotaWorker E) → List (Vec RefusedCall Global)
lists_of workers = map (λ w. w.refused) workers

-- the workers have these sessions, in order, and no refused call
pub record AreHired {E : Type 0} (sessions : List (QuotaCaller E)) (workers : List (QuotaWorker E)) : Type 0 where
  pub sessions_are : sessions_of workers ≡ sessions
  pub unrefused : All (λ w. (w.refused).items ≡ []) workers
