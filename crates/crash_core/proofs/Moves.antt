-- A directory that stands stays so after a call of one file that misses what it and its entries select.
use Rattle.std.proofs.Common.{◌≡◌, ◌⊎◌, ℕ, List, IsTrue, Option, Some, None, inl, inr, refl, sym, subst}
use Rattle.std.proofs.lemmas.Bool.{cases_eq}
use Rattle.disk_model.specs.State.{FileState, Sound}
use Rattle.disk_model.specs.Keeps.{FileCall}
use Rattle.node_image.specs.declared.node.RootRef.{RootRef}
use Rattle.tee_types.specs.Limits.{directory_file}
use Rattle.tee_types.proofs.FileNumbers.{object_not_directory}
use Rattle.rpmb_card.specs.Card.{CardState}
use Rattle.store_model.specs.Object.{ObjectMap}
use Rattle.store_model.specs.ReplayState.{ReplayState}
use Rattle.dir_records.specs.declared.entry.DirEntry.{DirEntry}
use Rattle.crash_core.specs.MountedObject.{root_of}
use Rattle.crash_core.specs.DeviceKeys.{directory_key}
use Rattle.crash_core.specs.EntryLists.{IsNamed}
use Rattle.crash_core.specs.declared.change.EntryChange.{EntryChange}
use Rattle.crash_core.specs.EntryChanges.{changed}
use Rattle.crash_core.specs.Sights.{Shows, Stands}
use Rattle.crash_core.specs.CoreState.{IsTrusted, PendingCommit, Phase, put}
use Rattle.crash_core.specs.FileSteps.{IsFileStep}
use Rattle.crash_core.specs.Holding.{DirectoryStands, PendingStands, SealedStands}
use Rattle.crash_core.proofs.Doubles.{directory_forms}
use Rattle.crash_core.proofs.Lists.{entry_held, put_else, put_here}
use Rattle.crash_core.proofs.Sightings.{CallMisses, call_shows, call_stands}

-- the references of a file under a directory: the directory's own, and those of its entries
abbrev pub IsRoot : (dir : RootRef) → (entries : List (Option DirEntry)) → (file : ℕ) → RootRef → Type 0
IsRoot dir entries file root = ((file ≡ directory_file) × (root ≡ dir)) ⊎ IsNamed entries file root

-- what a call of a file writes misses what a directory and its entries select there
abbrev pub MissesUnder : Phase → FileCall → List ℕ → (dir : RootRef) → (entries : List (Option DirEntry)) → (file : ℕ) → Type 0
MissesUnder phase call reads dir entries file = IsTrusted phase file → (root : RootRef) → IsRoot dir entries file root → CallMisses call reads root

abbrev pub MissesOnceSealed : Phase → FileCall → List ℕ → (entries : List (Option DirEntry)) → EntryChange → (sealed : Option RootRef) → (file : ℕ) → Type 0
MissesOnceSealed phase call reads entries change None file = Unit {0}
MissesOnceSealed phase call reads entries change (Some dir) file = MissesUnder phase call reads dir (changed entries change) file

-- and what that of a sealed commit does
abbrev pub MissesNext : Phase → FileCall → List ℕ → (entries : List (Option DirEntry)) → Option PendingCommit → (file : ℕ) → Type 0
MissesNext phase call reads entries None file = Unit {0}
MissesNext phase call reads entries (Some p) file = MissesOnceSealed phase call reads entries p.change p.sealed file

-- no entry of a directory that is read names the directory's file
pub names_files : (phase : Phase) (files : ℕ → FileState) (dir : RootRef) (entries : List (Option DirEntry)) (objects : ObjectMap) → DirectoryStands phase files dir entries objects
    → (root : RootRef) → IsNamed entries directory_file root → ⊥
names_files phase files dir entries objects d root named =
    let form = directory_forms entries d.sight.opened d.reads named.index named.entry named.at in
    object_not_directory named.entry.file form.file.0 form.file.1 (sym named.is_file)

module _ (phase : Phase) (files : ℕ → FileState) (file : ℕ) (call : FileCall) (new : FileState) (sound : Sound (files file)) (step : IsFileStep phase file call (files file) new) where
  file_stands : (k : ℕ) (P : FileState → Type 0) → IsTrusted phase k → (k ≡ file → IsTrue new.honest → P (files file) → P new) → P (files k) → P (put files file new k)
  file_stands k P trusted moved was = elim (cases_eq k file) [
    | inl is ↦
        subst P (sym (put_here files file new k is))
        (moved is (step.honest (subst (IsTrusted phase) is trusted)) (subst (λ (n : ℕ). P (files n)) is was))
    | inr other ↦ subst P (sym (put_else files file new k other)) was
  ]

  -- The directory stands after the call.
  pub directory_moved : (dir : RootRef) (entries : List (Option DirEntry)) (objects : ObjectMap) → IsTrusted phase directory_file
      → MissesUnder phase call (files file).reads dir entries file → DirectoryStands phase files dir entries objects → DirectoryStands phase (put files file new) dir entries objects
  directory_moved dir entries objects trusted misses d = record {
    sight = d.sight;
    own = file_stands directory_file (λ (s : FileState). Stands s (directory_key phase.keys) dir d.sight) trusted
        (λ is honest. call_stands call (files file) new (directory_key phase.keys) dir d.sight sound step.sound honest step.called (misses (subst (IsTrusted phase) is trusted) dir (inl (sym is, refl))))
        d.own;
    reads = d.reads;
    held = d.held;
    holds = d.holds;
    each = λ index h at trusted_file. file_stands h.entry.file (λ (s : FileState). Shows phase.keys s h.entry h.object) trusted_file
        (λ is honest. call_shows call (files file) new phase.keys h.entry h.object sound step.sound honest step.called
        (misses (subst (IsTrusted phase) is trusted_file) (root_of h.entry)
        (inr (record { index = index; entry = h.entry; at = entry_held d.held entries index h d.holds at; is_file = sym is; is_root = refl }))))
        (d.each index h at trusted_file);
    map_is = d.map_is;
  }

  sealed_moved : (card : CardState) (dir : RootRef) (entries : List (Option DirEntry)) (s : ReplayState) (p : PendingCommit) (sealed : Option RootRef) → MissesOnceSealed phase call (files file).reads entries p.change sealed file
      → SealedStands phase files card dir entries s p sealed → SealedStands phase (put files file new) card dir entries s p sealed
  sealed_moved card dir entries s p None misses stands = stands
  sealed_moved card dir entries s p (Some next) misses stands =
      (stands.0, λ trusted. directory_moved next (changed entries p.change) _ trusted misses (stands.1 trusted))

  -- So does that of a commit that is pending.
  pub pending_moved : (card : CardState) (dir : RootRef) (entries : List (Option DirEntry)) (s : ReplayState) (pending : Option PendingCommit) → MissesNext phase call (files file).reads entries pending file
      → PendingStands phase files card dir entries s pending → PendingStands phase (put files file new) card dir entries s pending
  pending_moved card dir entries s None misses stands = stands
  pending_moved card dir entries s (Some p) misses stands = sealed_moved card dir entries s p p.sealed misses stands
