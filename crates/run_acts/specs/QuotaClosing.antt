-- A store that was served under quotas, and closed.
use Rattle.std.specs.Prelude.{ℕ, List}
use Rattle.disk_model.specs.State.{FileState}
use Rattle.rpmb_card.specs.Port.{PortState}
use Rattle.app_quota.specs.declared.quotas.Quota.{Quota}
use Rattle.store_model.specs.declared.event.Event.{Event}
use Rattle.core_laws.specs.Stores.{Store}
use Rattle.script_text.specs.declared.script.Mode.{Mode}
use Rattle.script_text.specs.declared.script.Step.{Step}
use Rattle.quota_store.specs.Devices.{Devices}
use Rattle.run_acts.specs.Benches.{BenchState}
use Rattle.run_acts.specs.Closing.{ClosesStore}
use Rattle.run_acts.specs.SharedClosing.{ClosesShared}
use Rattle.run_acts.specs.QuotaRefusals.{KeepsPhaseQuotas, admitted}
use Rattle.run_acts.specs.declared.refused_call.RefusedCall.{RefusedCall}

-- The calls that were admitted were made, and the store was closed; its history keeps the quotas.
pub record ClosesWithin (Reliable : Type 0) (store : Store) (quotas : List Quota) (before : BenchState) (mode : Mode) (calls : List Step) (closed : BenchState) (events : List Event)
    (refused : List RefusedCall) : Type 0 where
  pub closes : ClosesStore Reliable store before mode (admitted refused calls) closed events
  pub quotas_kept : KeepsPhaseQuotas quotas store (closes.view).all calls refused

-- So of a store that was shared.
pub record ClosesSharedWithin (Reliable : Type 0) (store : Store) (quotas : List Quota) (before : Devices) (calls : List Step) (files : ℕ → FileState) (card : PortState) (events : List Event)
    (refused : List RefusedCall) : Type 0 where
  pub closes : ClosesShared Reliable store before (admitted refused calls) files card events
  pub quotas_kept : KeepsPhaseQuotas quotas store (closes.view).all calls refused
