-- What quotas promise of a phase: its applications cannot tell each other.
use Rattle.std.specs.Prelude.{◌≡◌, ℕ, All, List, []}
use Rattle.app_quota.specs.Isolation.{IsIsolated, StayWithinEach}
use Rattle.app_quota.specs.declared.quotas.Quota.{Quota}
use Rattle.app_totals.specs.Totals.{objects_of}
use Rattle.history_seats.specs.Records.{HistoryRecord}
use Rattle.run_acts.specs.QuotaLaws.{IsOverQuota}
use Rattle.script_text.specs.declared.script.Step.{Step}
use Rattle.store_model.specs.Legal.{IsLegalFrom}
use Rattle.store_model.specs.LegalHistory.{opening_with}
use Rattle.store_model.specs.Record.{events_of}
use Rattle.store_model.specs.ReplayState.{PhaseOpening, opening}
use Rattle.trusted_storage.specs.Runs.{PhaseRecord}
pub use Rattle.app_quota.specs.Limits.{Limits}
pub use Rattle.app_quota.specs.Quotas.{limit_of}

-- What a phase under quotas keeps. One legal history has its events: it opens with the phase's objects, a session for each of these applications, and
-- no commit in doubt. Of it all three promises hold.
pub record KeepsQuotas (applications : List (List ℕ)) (quotas : List Quota) (calls : List Step) (phase : PhaseRecord) : Type 0 where
  pub opens : PhaseOpening
  pub objects_are : opens.objects ≡ phase.opening
  pub applications_are : opens.applications ≡ applications
  -- the events, each with the file of its object
  pub records : List HistoryRecord
  pub events_are : phase.events ≡ events_of records
  -- a legal one: each reply is one that the specification allows
  pub legal : IsLegalFrom [] (opening opens) records
  -- Each event that raises the number of an application's objects, or of their bytes, leaves it within its quota.
  pub within : StayWithinEach (limit_of quotas) (opening_with opens phase.opening) records
  -- Each call that was refused would have left its application beyond its quota, where it was refused.
  pub refused : All (IsOverQuota (limit_of quotas) [] opens phase.opening records calls) phase.refused
  -- Each application is answered by its own calls alone, from its own objects; or a device has the blame. That a store has 256 objects is in no reply.
  pub isolated : (app : List ℕ) → IsIsolated (limit_of quotas) [] app (opening_with opens phase.opening) (opening_with opens (objects_of app phase.opening)) records
