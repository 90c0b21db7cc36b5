-- What making the calls of a phase under quotas leaves.
use Rattle.std.specs.Prelude.{ℕ, ◌<◌, List, [], ◌∷◌, length, take, Option, Some, None}
use Rattle.disk_model.specs.State.{FileState}
use Rattle.rpmb_card.specs.Port.{PortState}
use Rattle.app_quota.specs.Limits.{Limits}
use Rattle.core_laws.specs.Stores.{Store}
use Rattle.quota_store.specs.CallerSessions.{CallerSession}
use Rattle.script_text.specs.declared.script.Step.{Step}
use Rattle.object_calls.specs.Services.{ServiceValue}
use Rattle.run_acts.specs.MadeCalls.{MakesCalls}
use Rattle.run_acts.specs.OwnQuotas.{KeepLimitsOver, all_in}
use Rattle.run_acts.specs.QuotaRefusals.{admitted}
use Rattle.run_acts.specs.declared.refused_call.RefusedCall.{RefusedCall}

-- the step, unless its call was refused
abbrev pub unless_refused : (refused : Option ℕ) → Step → List Step
unless_refused None step = step ∷ []
unless_refused (Some place) step = []

module _ {F R E : Type 0} (of_file : F → FileState) (of_port : R → PortState) (draws : E → ℕ) (store : Store) where
  -- The calls of these steps that were admitted were made, one after another, and each session kept its limits. By its number each session has
  -- the calls of its own that were refused.
  pub record MakesCallsWithin (limits : Limits) (old new : ServiceValue F R) (was now : List (CallerSession E)) (steps : List Step) (refused : List (List RefusedCall)) : Type 0 where
    pub makes : MakesCalls of_file of_port draws store old new was now (admitted (all_in refused) steps)
    pub keep : KeepLimitsOver store limits steps was now refused

  -- Memory ran out in a call: the calls of the steps before it that were admitted were made.
  abbrev pub MakesFrontWithin : (old new : ServiceValue F R) → (was now : List (CallerSession E)) → List Step → List (List RefusedCall) → Type 0
  MakesFrontWithin old new was now steps refused = (made : ℕ) × (made < length steps) × MakesCalls of_file of_port draws store old new was now (admitted (all_in refused) (take made steps))
