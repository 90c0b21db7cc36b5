-- A store that threads served beside each other, and that was closed.
use Rattle.std.proofs.Common.{◌≡◌, ◌<◌, ℕ, List, inl, inr, sym, subst}
use Rattle.std.proofs.lemmas.Bool.{cases_eq}
use Rattle.disk_model.specs.Calls.{GoesOn}
use Rattle.disk_model.specs.State.{FileState}
use Rattle.tee_types.specs.Limits.{directory_file, file_count, old_directory_file}
use Rattle.tee_types.proofs.FileNumbers.{other_on_bench}
use Rattle.rpmb_card.specs.Port.{PortState}
use Rattle.tee_types.specs.declared.reply.Device.{Device}
use Rattle.tee_types.specs.declared.reply.Device.TheVariants.{Card, Dir, Entropy, File}
use Rattle.app_quota.specs.declared.quotas.Quota.{Quota}
use Rattle.store_model.specs.declared.event.Event.{Event}
use Rattle.core_laws.specs.Stores.{Store}
use Rattle.script_text.specs.declared.script.Mode.TheVariants.{Serial, Threads}
use Rattle.script_text.specs.declared.script.Step.{Step}
use Rattle.quota_store.specs.DeviceCounts.{Rise, counts_of}
use Rattle.object_calls.specs.OpeningArms.{IsOnBench}
use Rattle.object_calls.specs.Opening.{OpeningValue}
use Rattle.object_calls.proofs.Files.{directory_here}
use Rattle.quota_store.proofs.CountGrowth.{same_file_goes_on}
use Rattle.run_acts.specs.Benches.{BenchState, opening_state}
use Rattle.run_acts.specs.Closing.{ClosesStore, faults_on}
use Rattle.run_acts.specs.QuotaClosing.{ClosesSharedWithin, ClosesWithin}
use Rattle.run_acts.specs.QuotaRefusals.{admitted}
use Rattle.run_acts.specs.SharedClosing.{ClosesShared}
use Rattle.run_acts.specs.Sharing.{opening_devices}
use Rattle.run_acts.specs.declared.refused_call.RefusedCall.{RefusedCall}

threads_not_serial : Threads ≡ Serial → ⊥
threads_not_serial is = cc

module _ {F R : Type 0} (of_file : F → FileState) (of_port : R → PortState) (Reliable : Type 0) (store : Store) (o : OpeningValue F R) (calls : List Step) (closed : BenchState) (events : List Event)
    (c : ClosesShared Reliable store (opening_devices of_file of_port o) calls closed.files closed.card events) where
  abbrev before : BenchState
  before = opening_state of_file of_port o

  counted : (device : Device) → IsOnBench device → Rise (faults_on before device) (faults_on closed device) (counts_of device events)
  counted Dir on = subst (λ (s : FileState). Rise s.faults (faults_on closed Dir) (counts_of Dir events)) (sym (directory_here of_file o.spare o.gate.dir.file o.files)) c.dir_counted
  counted (File n) on = c.each_counted n on
  counted Card on = c.port_counted
  counted Entropy on = absurd on

  goes_on : (file : ℕ) → file < file_count → GoesOn (before.files file) (closed.files file)
  goes_on file within = elim (cases_eq file directory_file) [
    | inl is ↦ subst (λ (n : ℕ). GoesOn (before.files n) (closed.files n)) (sym is) (subst (λ (s : FileState). GoesOn s (closed.files directory_file)) (sym (directory_here of_file o.spare o.gate.dir.file o.files)) c.dir)
    | inr other ↦ elim (other_on_bench file within other) [
      | inl old_dir ↦ subst (λ (n : ℕ). GoesOn (before.files n) (closed.files n)) (sym old_dir) (same_file_goes_on (before.files old_directory_file) (closed.files old_directory_file) c.spare)
      | inr object ↦ c.each file object
    ]
  ]

  pub shared_closes : ClosesStore Reliable store before Threads calls closed events
  shared_closes = record {
    view = c.view;
    events_are = c.events_are;
    serves = record { of_each_application = c.serves; in_script_order = λ is. absurd (threads_not_serial is) };
    doubt = c.doubt;
    leaves = c.leaves;
    counted = counted;
    devices = record { files = goes_on; card = c.port };
    card = c.told;
    drawn = c.drawn;
    undrawn = c.undrawn;
  }

-- so under quotas
pub shared_within : {F R : Type 0} (of_file : F → FileState) (of_port : R → PortState) (Reliable : Type 0) (store : Store) (o : OpeningValue F R) (quotas : List Quota) (calls : List Step) (closed : BenchState)
    (events : List Event) (refused : List RefusedCall) → ClosesSharedWithin Reliable store quotas (opening_devices of_file of_port o) calls closed.files closed.card events refused
    → ClosesWithin Reliable store quotas (opening_state of_file of_port o) Threads calls closed events refused
unfolding shared_closes
shared_within of_file of_port Reliable store o quotas calls closed events refused c = record {
  closes = shared_closes of_file of_port Reliable store o (admitted refused calls) closed events c.closes;
  quotas_kept = c.quotas_kept;
}
