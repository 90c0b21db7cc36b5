-- A directory that was synced and then loaded.
use Rattle.std.proofs.Common.{◌≡◌, ◌⊎◌, ◌∙◌, ℕ, List, Option, Result, Ok, Err, inl, inr}
use Rattle.std.specs.Prelude.{IsTrue, IfOk, IfErr}
use Rattle.disk_model.specs.State.{FileState, Sound}
use Rattle.disk_model.specs.Calls.{Known, Rests, Syncs}
use Rattle.disk_model.specs.Keeps.{Anywhere, Keeps}
use Rattle.disk_model.proofs.Goings.{first_known, then_known}
use Rattle.disk_model.proofs.Laws.{keeps_then, rest_keeps, sync_keeps}
use Rattle.tee_ports.specs.Files.{Passes}
use Rattle.node_image.specs.declared.node.RootRef.{RootRef}
use Rattle.htree_file.specs.Answers.{FilePassed}
use Rattle.htree_file.specs.Making.{IsSynced}
use Rattle.htree_file.specs.Opening.{Loaded, load_of}
use Rattle.htree_file.specs.Standing.{Told}
use Rattle.dir_records.specs.declared.entry.DirEntry.{DirEntry}
use Rattle.crash_core.specs.declared.fault.DirFault.{DirFault}
use Rattle.crash_core.specs.declared.fault.DirFault.TheVariants.{Tree, WrongLength, Record, Double}
use Rattle.crash_core.specs.Directory.{directory_of}
use Rattle.htree_file.proofs.Causes.{fault_then, passed_then}
use Rattle.dir_file.specs.Held.{IsDurable}
use Rattle.store_commit.proofs.Mounting.{mounted_held, synced_rests}
use Rattle.dir_file.specs.Loading.{DirCause, IsOutsideDir}

module _ (a b d : FileState) (syncs : Syncs a b) (rests : Rests b d) where
  pub told_after : Told a d → Told b d
  told_after told = (told.0, then_known a b d syncs.goes_on told.1)

  pub reads_after : Known a d → d.reads ≡ a.reads
  reads_after known = rests.reads (then_known a b d syncs.goes_on known) ∙ syncs.reads (first_known a b d rests.goes_on known)

  pub keeps_after : Sound a → Sound b → Keeps Anywhere a d
  keeps_after sound still = keeps_then Anywhere a b d (sync_keeps a b sound syncs) (rest_keeps b d still rests)

  pub fault_after : (fault : DirFault) (X : Type 0) → IsOutsideDir fault ⊎ (Told b d → X) → IsOutsideDir fault ⊎ (Told a d → X)
  fault_after fault X (inl outside) = inl outside
  fault_after fault X (inr told) = inr (λ t. told (told_after t))

  pub passed_after : Passes a b → FilePassed b d → FilePassed a d
  passed_after first second = passed_then a b d (record { faults = first.faults; starved = first.starved }) second

  pub cause_after : (fault : DirFault) → Passes a b → DirCause b d fault → DirCause a d fault
  cause_after (Tree fault) first cause = fault_then a b d fault syncs.goes_on (record { faults = first.faults; starved = first.starved }) cause
  cause_after (WrongLength bytes) first cause = passed_then a b d (record { faults = first.faults; starved = first.starved }) cause
  cause_after (Record index offset) first cause = passed_then a b d (record { faults = first.faults; starved = first.starved }) cause
  cause_after (Double index offset) first cause = passed_then a b d (record { faults = first.faults; starved = first.starved }) cause

  pub synced_after : IsSynced d
  synced_after = synced_rests a b d syncs rests

  pub held_after : Sound d → (tsk : List ℕ) (root : RootRef) (tree : Loaded) (entries : List (Option DirEntry)) → (Told b d → load_of d.reads root ≡ Ok tree) → (Told b d → directory_of tsk d.reads root ≡ Ok entries)
      → IsTrue d.honest → IsDurable d tsk root tree entries
  held_after sound tsk root tree entries loads is honest =
      let told : Told b d = (sound.told honest, inl honest) in
      mounted_held d tsk root tree entries synced_after honest (loads told) (is told)

-- a fact of each answer
pub ok_map : {A B : Type 0} (r : Result A B) (P Q : A → Type 0) → ((x : A) → P x → Q x) → IfOk r P → IfOk r Q
ok_map (Ok x) P Q step holds = step x holds
ok_map (Err e) P Q step holds = tt

pub err_map : {A B : Type 0} (r : Result A B) (P Q : B → Type 0) → ((x : B) → P x → Q x) → IfErr r P → IfErr r Q
err_map (Ok x) P Q step holds = tt
err_map (Err e) P Q step holds = step e holds
