-- A phase on devices that do not fail.
use Rattle.std.proofs.Common.{◌≡◌, ◌∙◌, ◌<◌, ◌-◌, ◌^◌, ◌||◌, ℕ, List, [], Bool, true, false, length, refl, sym, ap, subst, inl, inr, arith}
use Rattle.std.specs.Prelude.{IsTrue}
use Rattle.std.proofs.lemmas.Bool.{cases_eq}
use Rattle.std.proofs.lemmas.List.{length-map}
use Rattle.disk_model.specs.Bytes.{after_mask}
use Rattle.disk_model.specs.Controls.{renamed_as, settled_as}
use Rattle.disk_model.specs.Faults.{Rose}
use Rattle.disk_model.specs.State.{FileState}
use Rattle.hmac_keys.specs.declared.Keys.{Keys}
use Rattle.hmac_keys.specs.KeyTable.{rpmb_key}
use Rattle.tee_types.specs.Limits.{directory_file, file_count}
use Rattle.tee_types.proofs.FileNumbers.{directory_on_bench}
use Rattle.rpmb_card.specs.Port.{PortState}
use Rattle.rpmb_host.specs.Honest.{HadCard}
use Rattle.tee_types.specs.declared.reply.Device.{Device}
use Rattle.tee_types.specs.declared.reply.Device.TheVariants.{Card, Dir, Entropy, File}
use Rattle.app_quota.specs.declared.quotas.Quota.{Quota}
use Rattle.store_model.specs.declared.event.Event.{Event}
use Rattle.store_model.specs.Machine.{new_session}
use Rattle.store_model.specs.Object.{ObjectMap}
use Rattle.store_model.specs.ReplayState.{opening}
use Rattle.core_laws.specs.Stores.{Store, phase_of}
use Rattle.script_text.specs.declared.script.Mode.{Mode}
use Rattle.script_text.specs.declared.script.Step.{Step}
use Rattle.quota_store.specs.DeviceCounts.{Rise, counts_of}
use Rattle.quota_store.proofs.Rises.{Rise-still}
use Rattle.object_calls.specs.OpeningArms.{IsOnBench}
use Rattle.object_calls.specs.FinishedPhase.{AreAllHonest}
use Rattle.run_acts.specs.Alterations.{AltersFile, FlipsFile, RestoresFile}
use Rattle.run_acts.specs.Benches.{BenchState, opening_state}
use Rattle.run_acts.specs.Closing.{faults_on}
use Rattle.run_acts.specs.Crashes.{Crashes}
use Rattle.run_acts.specs.ListedBenches.{ListsBench}
use Rattle.run_acts.specs.Opens.{FormsBench, ReadsBlock, found, made}
use Rattle.run_acts.specs.Phases.{RunsPhase}
use Rattle.run_acts.specs.declared.refused_call.RefusedCall.{RefusedCall}
use Rattle.run_acts.specs.Quiet.{AreOfMachine, IsQuiet, IsQuietFile, OpeningsStayQuiet, QuietPhasesAreOfMachine, QuietPhasesStayQuiet}
use Rattle.run_acts.proofs.Mounted.{mount_goes_on}
use Rattle.run_acts.proofs.MountedBenches.{each_file}
use Rattle.run_acts.proofs.PhaseChains.{phase_card}
use Rattle.run_acts.proofs.Untold.{Untold, of_machine_all}

pub not_risen : (n m : ℕ) → m ≡ n → n < 2 ^ 64 - 1 → Rose n m → ⊥
not_risen n m same below rose = omega (arith, same, below, rose)

module _ {F R : Type 0} (of_file : F → FileState) (of_port : R → PortState) (Reliable : Type 0) (keys : Keys) (applications : List (List ℕ)) (quotas : List Quota) (mode : Mode) (calls : List Step) (old new : BenchState)
    (objects : ObjectMap) (events : List Event) (refused : List RefusedCall) (r : RunsPhase of_file of_port Reliable keys applications quotas [] mode calls old new objects events refused)
    (was_quiet : IsQuiet keys old) where
  open r use {closed}

  abbrev armed : BenchState
  armed = opening_state of_file of_port (r.serves).armed

  abbrev s : Store
  s = (r.serves).store

  abbrev opened : BenchState
  opened = opening_state of_file of_port r.opened

  opened_file : (file : ℕ) → file < file_count → IsQuietFile (opened.files file)
  opened_file file within =
      let was = was_quiet.files file within in record {
        calm = (mount_goes_on of_file of_port keys old r.opened r.mounts file).calm was.calm;
        faults = subst (λ (n : ℕ). n < 2 ^ 64 - 1) (sym ((r.passed).files file).faults) was.faults;
        starved = subst (λ (n : ℕ). n < 2 ^ 64 - 1) (sym ((r.passed).files file).starved) was.starved;
      }

  opened_calm : IsTrue (opened.card).calm
  opened_calm = (r.mounts).calm was_quiet.calm

  opened_card : HadCard opened.card (rpmb_key keys.huk)
  opened_card = let had = was_quiet.card in (had.0, record { told = (r.keeps).card ∙ (had.1).told; keyed = (had.1).keyed })

  -- a mount leaves a quiet bench quiet, and nothing is armed
  quiet : IsQuiet keys armed
  quiet =
      let same = (((r.serves).ready).arms_are).1 in record {
        files = λ file within. subst IsQuietFile (sym ((((r.serves).ready).arms_are).0 file)) (opened_file file within);
        calm = subst (λ (p : PortState). IsTrue p.calm) (sym same) opened_calm;
        faults = subst (λ (p : PortState). p.faults < 2 ^ 64 - 1) (sym same) (subst (λ (n : ℕ). n < 2 ^ 64 - 1) (sym (r.passed).card) was_quiet.faults);
        card = subst (λ (p : PortState). HadCard p (rpmb_key keys.huk)) (sym same) opened_card;
      }

  -- in no call of a file did memory run out
  starved_same : (file : ℕ) → (closed.files file).starved ≡ (armed.files file).starved
  starved_same file =
      sym (ap (λ (f : FileState). f.starved) ((r.disarms).files file)) ∙ r.with_memory file ∙ sym ((r.passed).files file).starved
      ∙ sym (ap (λ (f : FileState). f.starved) ((((r.serves).ready).arms_are).0 file))

  -- so none counted a fault
  file_same : (file : ℕ) → file < file_count → (closed.files file).faults ≡ (armed.files file).faults
  file_same file within = elim (((((r.serves).closes).devices).files file within).quiet (quiet.files file within).calm) [
    | inl same ↦ same
    | inr rose ↦ absurd (not_risen (armed.files file).starved (closed.files file).starved (starved_same file) (quiet.files file within).starved rose)
  ]

  still : (device : Device) → IsOnBench device → (faults_on closed device ≡ faults_on armed device) × (faults_on armed device < 2 ^ 64 - 1)
  still Dir on = (file_same directory_file directory_on_bench, (quiet.files directory_file directory_on_bench).faults)
  still (File n) on = (file_same n (omega (arith, on.1)), (quiet.files n (omega (arith, on.1))).faults)
  still Card on = (((((r.serves).closes).devices).card.calm quiet.calm).faults, quiet.faults)
  still Entropy on = absurd on

  module _ (reliable : Reliable) (honest : AreAllHonest new.files) where
    untold : Untold (length (s.mounted).applications) events
    untold = record {
      counts = λ device on.
          let same = still device on in
          Rise-still (faults_on armed device) (counts_of device events) same.1
          (subst (λ (n : ℕ). Rise (faults_on armed device) n (counts_of device events)) same.0 (((r.serves).closes).counted device on));
      frames = (((r.serves).closes).card).frames (subst (λ (k : Keys). HadCard armed.card (rpmb_key k.huk)) (sym (r.serves).keys_are) quiet.card);
      draws = ((r.serves).closes).undrawn reliable;
    }

    closed_honest : AreAllHonest closed.files
    closed_honest file = subst (λ (f : FileState). IsTrue f.honest) ((r.disarms).files file) (honest file)

    pub quiet_of_machine : AreOfMachine (opening (phase_of s)) (((r.serves).closes).view).all
    quiet_of_machine =
        of_machine_all (length (s.mounted).applications) (opening (phase_of s)) (((r.serves).closes).view).all refl (length-map (s.mounted).applications new_session)
        (((((r.serves).closes).leaves).honest closed_honest).events_legal) (subst (Untold (length (s.mounted).applications)) ((r.serves).closes).events_are untold)
        (((r.serves).closes).leaves).tagged

-- A phase of a quiet bench leaves it quiet.
or_true : (first second : Bool) → IsTrue second → IsTrue (first || second)
or_true true second is = refl
or_true false second is = is

module _ {F R : Type 0} (of_file : F → FileState) (of_port : R → PortState) (Reliable : Type 0) (keys : Keys) (applications : List (List ℕ)) (quotas : List Quota) (mode : Mode) (calls : List Step) (old new : BenchState)
    (objects : ObjectMap) (events : List Event) (refused : List RefusedCall)
    (r : RunsPhase of_file of_port Reliable keys applications quotas [] mode calls old new objects events refused) (was_quiet : IsQuiet keys old) where
  open r use {closed, disarms}

  abbrev before : BenchState
  before = opening_state of_file of_port (r.serves).armed

  before_quiet : IsQuiet keys before
  before_quiet = quiet of_file of_port Reliable keys applications quotas mode calls old new objects events refused r was_quiet

  left_file : (file : ℕ) → file < file_count → IsQuietFile (new.files file)
  left_file file within =
      let began = before_quiet.files file within in
      let same = file_same of_file of_port Reliable keys applications quotas mode calls old new objects events refused r was_quiet file within in
      let starved = starved_same of_file of_port Reliable keys applications quotas mode calls old new objects events refused r was_quiet file in
      subst IsQuietFile (sym (disarms.files file)) (record {
        calm = or_true (closed.files file).tells_arms (closed.files file).calm (((((r.serves).closes).devices).files file within).calm began.calm);
        faults = subst (λ (n : ℕ). n < 2 ^ 64 - 1) (sym same) began.faults;
        starved = subst (λ (n : ℕ). n < 2 ^ 64 - 1) (sym starved) began.starved;
      })

  left_calm : IsTrue new.card.calm
  left_calm = (disarms.card).calm refl (or_true (closed.card).tells_arms (closed.card).calm ((((r.serves).closes).devices).card.calm before_quiet.calm).calm)

  left_faults : new.card.faults < 2 ^ 64 - 1
  left_faults =
      subst (λ (n : ℕ). n < 2 ^ 64 - 1) (sym (ap (λ (p : PortState). p.faults) (disarms.card).others ∙ ((((r.serves).closes).devices).card.calm before_quiet.calm).faults)) before_quiet.faults

  pub left_quiet : IsQuiet keys new
  left_quiet = record {
    files = left_file;
    calm = left_calm;
    faults = left_faults;
    card = phase_card of_file of_port Reliable keys applications quotas [] mode calls old new objects events refused r (was_quiet.card).0 (was_quiet.card).1;
  }

pub quiet_phases_are_of_machine : {F R : Type 0} (of_file : F → FileState) (of_port : R → PortState) (Reliable : Type 0) → QuietPhasesAreOfMachine of_file of_port Reliable
quiet_phases_are_of_machine of_file of_port Reliable keys applications quotas mode calls old new objects events refused r quiet reliable honest =
    quiet_of_machine of_file of_port Reliable keys applications quotas mode calls old new objects events refused r quiet reliable honest

pub quiet_phases_stay_quiet : {F R : Type 0} (of_file : F → FileState) (of_port : R → PortState) (Reliable : Type 0) → QuietPhasesStayQuiet of_file of_port Reliable
quiet_phases_stay_quiet of_file of_port Reliable keys applications quotas mode calls old new objects events refused r quiet =
    left_quiet of_file of_port Reliable keys applications quotas mode calls old new objects events refused r quiet

-- SO DOES A LIST, AND A CRASH
pub quiet_list : {F R : Type 0} (of_file : F → FileState) (of_port : R → PortState) (keys : Keys) (old new : BenchState) (objects : ObjectMap) (lines : List ℕ)
    → ListsBench of_file of_port keys old new objects lines → IsQuiet keys old → IsQuiet keys new
quiet_list of_file of_port keys old new objects lines l quiet = record {
  files = λ file within.
      let was = quiet.files file within in record {
        calm = ((((l.keeps).files file).keeps).goes_on).calm was.calm;
        faults = subst (λ (n : ℕ). n < 2 ^ 64 - 1) (sym ((l.passed).files file).faults) was.faults;
        starved = subst (λ (n : ℕ). n < 2 ^ 64 - 1) (sym ((l.passed).files file).starved) was.starved;
      };
  calm = subst (λ (p : PortState). IsTrue p.calm) (sym l.card) ((l.mounts).calm quiet.calm);
  faults = subst (λ (n : ℕ). n < 2 ^ 64 - 1) (sym (l.passed).card) quiet.faults;
  card = let had = quiet.card in (had.0, record { told = (l.keeps).card ∙ (had.1).told; keyed = (had.1).keyed });
}

pub quiet_crash : (image : FileState → ℕ → ℕ → List ℕ) (seed : ℕ) (keys : Keys) (old new : BenchState) → Crashes image seed old new → IsQuiet keys old → IsQuiet keys new
quiet_crash image seed keys old new crashes quiet = record {
  files = λ file within.
      let was = quiet.files file within in
      subst IsQuietFile (sym ((crashes.files).each file within)) (record { calm = was.calm; faults = was.faults; starved = was.starved });
  calm = subst (λ (p : PortState). IsTrue p.calm) (sym crashes.card) quiet.calm;
  faults = subst (λ (p : PortState). p.faults < 2 ^ 64 - 1) (sym crashes.card) quiet.faults;
  card = subst (λ (p : PortState). HadCard p (rpmb_key keys.huk)) (sym crashes.card) quiet.card;
}

-- A FILE THAT WAS ALTERED
quiet_altered : (keys : Keys) (n : ℕ) (altered : FileState) (old new : BenchState) → AltersFile n altered old new → (IsQuietFile (old.files n) → IsQuietFile altered) → IsQuiet keys old → IsQuiet keys new
quiet_altered keys n altered old new a stays quiet = record {
  files = λ file within. elim (cases_eq file n) [
    | inl same ↦ subst (λ (k : ℕ). IsQuietFile (new.files k)) (sym same) (subst IsQuietFile (sym a.here) (stays (quiet.files n a.within)))
    | inr other ↦ subst IsQuietFile (sym (a.others file other)) (quiet.files file within)
  ];
  calm = subst (λ (p : PortState). IsTrue p.calm) (sym a.card) quiet.calm;
  faults = subst (λ (p : PortState). p.faults < 2 ^ 64 - 1) (sym a.card) quiet.faults;
  card = subst (λ (p : PortState). HadCard p (rpmb_key keys.huk)) (sym a.card) quiet.card;
}

pub quiet_restored : (keys : Keys) (file : ℕ) (bytes : List ℕ) (old new : BenchState) → RestoresFile file bytes old new → IsQuiet keys old → IsQuiet keys new
quiet_restored keys file bytes old new a =
    quiet_altered keys file (renamed_as (old.files file) bytes) old new a (λ (f : IsQuietFile (old.files file)). record { calm = f.calm; faults = f.faults; starved = f.starved })

pub quiet_flipped : (keys : Keys) (file at : ℕ) (mask : List ℕ) (old new : BenchState) → FlipsFile file at mask old new → IsQuiet keys old → IsQuiet keys new
quiet_flipped keys file at mask old new a =
    quiet_altered keys file (settled_as (old.files file) (after_mask (old.files file).reads at mask)) old new a
    (λ (f : IsQuietFile (old.files file)). record { calm = f.calm; faults = f.faults; starved = f.starved })

-- A BENCH THAT IS OPENED
quiet_read : (keys : Keys) (old new : BenchState) (block : List ℕ) → ReadsBlock keys old new block → IsQuiet keys old → IsQuiet keys new
quiet_read keys old new block reads quiet = record {
  files = λ file within. subst IsQuietFile (sym (reads.files file)) (quiet.files file within);
  calm = (reads.port).calm quiet.calm;
  faults = subst (λ (n : ℕ). n < 2 ^ 64 - 1) (sym reads.passed) quiet.faults;
  card = let had = quiet.card in (had.0, record { told = reads.card ∙ (had.1).told; keyed = (had.1).keyed });
}

quiet_format : (keys : Keys) (old new : BenchState) → FormsBench keys old new → IsQuiet keys old → IsQuiet keys new
quiet_format keys old new forms quiet = record {
  files = λ file within.
      each_file (λ k. IsQuietFile (old.files k) → IsQuietFile (new.files k))
      (λ was. record {
        calm = ((forms.goes_on).file).calm was.calm;
        faults = subst (λ (n : ℕ). n < 2 ^ 64 - 1) (sym (forms.dir_passed).faults) was.faults;
        starved = subst (λ (n : ℕ). n < 2 ^ 64 - 1) (sym (forms.dir_passed).starved) was.starved;
      })
      (λ k from was. subst IsQuietFile (sym (forms.others k from)) was) file (quiet.files file within);
  calm = ((forms.goes_on).port).calm quiet.calm;
  faults = subst (λ (n : ℕ). n < 2 ^ 64 - 1) (sym forms.card_passed) quiet.faults;
  card = let had = quiet.card in let formed = (forms.formed had.0 had.1).1 in (formed.next, formed.has);
}

pub openings_stay_quiet : OpeningsStayQuiet
openings_stay_quiet keys old new (found block some reads) quiet = quiet_read keys old new block reads quiet
openings_stay_quiet keys old new (made block between blank reads forms) quiet = quiet_format keys between new forms (quiet_read keys old between block reads quiet)
