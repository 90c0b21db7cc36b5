-- A mount or a list of a quiet bench meets no failure of a device.
use Rattle.std.proofs.Common.{◌≡◌, ◌∙◌, ℕ, List, inl, inr, refl, sym, subst, arith}
use Rattle.std.proofs.lemmas.Bool.{cases_lt}
use Rattle.disk_model.specs.Faults.{Rose}
use Rattle.disk_model.specs.State.{FileState}
use Rattle.htree_file.specs.Answers.{FileFailed}
use Rattle.hmac_keys.specs.declared.Keys.{Keys}
use Rattle.tee_types.specs.Limits.{directory_file, file_count}
use Rattle.tee_types.proofs.FileNumbers.{directory_on_bench}
use Rattle.rpmb_card.specs.Port.{PortState}
use Rattle.script_text.specs.declared.script.Arm.{Arm}
use Rattle.script_text.specs.declared.script.Mode.{Mode}
use Rattle.script_text.specs.declared.script.Step.{Step}
use Rattle.tee_types.specs.declared.reply.Cause.{Cause}
use Rattle.tee_types.specs.declared.reply.Cause.TheVariants.{Fault, Frame as FrameCause, CardResult as ResultCause}
use Rattle.tee_types.specs.declared.reply.Device.TheVariants.{Dir, File, Card, Entropy}
use Rattle.store_commit.specs.declared.fault.MountFault.{MountFault}
use Rattle.store_commit.specs.declared.fault.MountFault.TheVariants.{Failed, NoMemory}
use Rattle.run_acts.specs.Benches.{BenchState, HadMemory}
use Rattle.run_acts.specs.ListedBenches.{IsListRefused, ListRefusal, ShowCounts, StopsListing, starved, stopped, unasked, unmounted, unshown}
use Rattle.run_acts.specs.MountedDevices.{IsMountRefused}
use Rattle.run_acts.specs.PhaseRefusals.{IsGivenUp}
use Rattle.run_acts.specs.Quiet.{IsQuiet, IsQuietFile}
use Rattle.run_acts.specs.Untainted.{AreUntainted}
use Rattle.run_acts.proofs.QuietPhases.{not_risen}

failed_memory : (cause : Cause) (fault : MountFault) → fault ≡ NoMemory → fault ≡ Failed cause → ⊥
failed_memory cause fault is other = let e : ◌≡◌ {A = MountFault} NoMemory (Failed cause) = sym is ∙ other in cc

-- a quiet file does not fail where memory does not run out
quiet_file : (old new : FileState) (count : ℕ) → IsQuietFile old → new.starved ≡ old.starved → FileFailed old new count → ⊥
quiet_file old new count quiet same failed = not_risen old.starved new.starved same quiet.starved (failed.calm quiet.calm)

module _ (keys : Keys) (old new : BenchState) (drew draws : ℕ) (quiet : IsQuiet keys old) (undrawn : Rose drew draws → ⊥) where
  -- a mount
  pub quiet_mount : (cause : Cause) → IsMountRefused keys old new drew draws (Failed cause) → HadMemory old new → ⊥
  quiet_mount (Fault Dir count) m memory = quiet_file (old.files directory_file) (new.files directory_file) count (quiet.files directory_file directory_on_bench) (memory directory_file) (m.counted).0
  quiet_mount (Fault (File n) count) m memory =
      let failed = (m.refused).failed in
      quiet_file (old.files n) (new.files n) count (quiet.files n (omega (arith, failed.1))) (memory n) failed.2
  quiet_mount (Fault Card count) m memory = (m.calm quiet.calm).1
  quiet_mount (Fault Entropy count) m memory = undrawn (m.counted).0
  quiet_mount (FrameCause fault) m memory = (m.refused).refused
  quiet_mount (ResultCause result) m memory = (m.refused).refused

  -- an object that is shown
  module _ (untainted : AreUntainted old.files) where
    some_quiet : (n : ℕ) → IsQuietFile (old.files n)
    some_quiet n = elim (cases_lt n file_count) [
      | inl within ↦ quiet.files n within
      | inr beyond ↦ subst IsQuietFile (sym (untainted.past n beyond)) (record { calm = refl; faults = omega arith; starved = omega arith })
    ]

    quiet_shown : (cause : Cause) → ShowCounts old.files new.files (Failed cause) → HadMemory old new → ⊥
    quiet_shown (Fault (File n) count) counts memory = quiet_file (old.files n) (new.files n) count (some_quiet n) (memory n) counts.0
    quiet_shown (Fault Dir count) counts memory = counts
    quiet_shown (Fault Card count) counts memory = counts
    quiet_shown (Fault Entropy count) counts memory = counts
    quiet_shown (FrameCause fault) counts memory = counts
    quiet_shown (ResultCause result) counts memory = counts

    module _ {F R : Type 0} (of_file : F → FileState) (of_port : R → PortState) where
      quiet_stop : (cause : Cause) → StopsListing of_file of_port keys old new drew draws (Failed cause) → HadMemory old new → ⊥
      quiet_stop cause (unmounted refused) memory = quiet_mount cause refused memory
      quiet_stop cause (unshown cut) memory = quiet_shown cause cut.counted memory

      quiet_why : (cause : Cause) (fault : MountFault) → fault ≡ Failed cause → ListRefusal of_file of_port keys old new drew draws fault → ⊥
      quiet_why cause fault is (stopped stops memory) = quiet_stop cause (subst (StopsListing of_file of_port keys old new drew draws) is stops) memory
      quiet_why cause fault is (unasked none same) = failed_memory cause fault none is
      quiet_why cause fault is (starved other none stops gone) = failed_memory cause fault none is

      -- a list
      pub quiet_list_refusal : (cause : Cause) → IsListRefused of_file of_port keys old new drew draws (Failed cause) → ⊥
      quiet_list_refusal cause refused = quiet_why cause (Failed cause) refl refused.why

      -- a phase
      pub quiet_phase_refusal : (applications : List (List ℕ)) (arms : List Arm) (mode : Mode) (calls : List Step) (cause : Cause) → IsGivenUp of_file of_port keys applications arms mode calls old new drew draws (Failed cause) → ⊥
      quiet_phase_refusal applications arms mode calls cause (inl (refused, memory)) = quiet_mount cause refused memory
      quiet_phase_refusal applications arms mode calls cause (inr ends) = failed_memory cause (Failed cause) ends.fault_is refl
