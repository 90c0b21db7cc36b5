-- A bench that holds objects is listed, and a phase of it is run, unless a device fails or memory runs out.
use Rattle.std.proofs.Common.{◌≡◌, ℕ, List, inl, inr, sym, subst}
use Rattle.disk_model.specs.State.{FileState}
use Rattle.hmac_keys.specs.declared.Keys.{Keys}
use Rattle.hmac_keys.specs.KeyTable.{rpmb_key}
use Rattle.rpmb_card.specs.Card.{CardState}
use Rattle.rpmb_card.specs.Port.{PortState}
use Rattle.rpmb_host.specs.Honest.{HasCard}
use Rattle.store_model.specs.ReplayState.{ReplayState}
use Rattle.script_text.specs.declared.script.Arm.{Arm}
use Rattle.script_text.specs.declared.script.Mode.{Mode}
use Rattle.script_text.specs.declared.script.Step.{Step}
use Rattle.store_commit.specs.declared.fault.MountFault.{MountFault}
use Rattle.store_commit.specs.declared.fault.MountFault.TheVariants.{CardBlock, CardResult, Directory, Failed, Frame, NoMemory, NoStore, OldFormat, Spent}
use Rattle.run_acts.specs.Benches.{BenchState}
use Rattle.run_acts.specs.Left.{HoldsLeft}
use Rattle.run_acts.specs.ListedBenches.{IsListRefused, ListRefusal, ShowCounts, StopsListing, starved, stopped, unasked, unmounted, unshown}
use Rattle.run_acts.specs.MountedDevices.{IsMountRefused}
use Rattle.run_acts.specs.MountingLaws.{IsOfDevice}
use Rattle.run_acts.specs.PhaseRefusals.{IsGivenUp}
use Rattle.run_acts.specs.Untainted.{AreUntainted}
use Rattle.run_acts.proofs.NotRefused.{held_refusal}
use Rattle.run_acts.proofs.Untainted.{refusals_stay_honest}

-- want of memory
pub memory_of_device : (fault : MountFault) → fault ≡ NoMemory → IsOfDevice fault
memory_of_device fault is = subst IsOfDevice (sym is) tt

-- what ends a listing
counted_of_device : (old new : ℕ → FileState) (fault : MountFault) → ShowCounts old new fault → IsOfDevice fault
counted_of_device old new NoStore counts = absurd counts
counted_of_device old new (CardBlock byte) counts = absurd counts
counted_of_device old new (Directory fault) counts = absurd counts
counted_of_device old new (Frame fault) counts = absurd counts
counted_of_device old new (CardResult number) counts = absurd counts
counted_of_device old new (Failed cause) counts = tt
counted_of_device old new Spent counts = absurd counts
counted_of_device old new (OldFormat file) counts = absurd counts
counted_of_device old new NoMemory counts = tt

module _ {F R : Type 0} (of_file : F → FileState) (of_port : R → PortState) (keys : Keys) (s : ReplayState) (old new : BenchState) (drew draws : ℕ) (card : CardState)
    (holds : HoldsLeft keys old s) (has : HasCard old.card (rpmb_key keys.huk) card) (files : AreUntainted old.files) where
  held_mount : (fault : MountFault) → IsMountRefused keys old new drew draws fault → IsOfDevice fault
  held_mount fault refused = held_refusal keys s old new drew draws fault card holds refused has (refusals_stay_honest keys old new drew draws fault files refused)

  stop_of_device : (fault : MountFault) → StopsListing of_file of_port keys old new drew draws fault → IsOfDevice fault
  stop_of_device fault (unmounted refused) = held_mount fault refused
  stop_of_device fault (unshown cut) = counted_of_device old.files new.files fault cut.counted

  why_of_device : (fault : MountFault) → ListRefusal of_file of_port keys old new drew draws fault → IsOfDevice fault
  why_of_device fault (stopped stops with_memory) = stop_of_device fault stops
  why_of_device fault (unasked is same) = memory_of_device fault is
  why_of_device fault (starved other is stops gone) = memory_of_device fault is

  pub list_refusal : (fault : MountFault) → IsListRefused of_file of_port keys old new drew draws fault → IsOfDevice fault
  list_refusal fault refused = why_of_device fault refused.why

  pub phase_refusal : (applications : List (List ℕ)) (arms : List Arm) (mode : Mode) (calls : List Step) (fault : MountFault) → IsGivenUp of_file of_port keys applications arms mode calls old new drew draws fault → IsOfDevice fault
  phase_refusal applications arms mode calls fault (inl (refused, with_memory)) = held_mount fault refused
  phase_refusal applications arms mode calls fault (inr ends) = memory_of_device fault ends.fault_is
