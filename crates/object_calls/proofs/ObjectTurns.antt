-- The turn of an object in a migration: its file is copied into another of the bench, and the commit names that one.
use Rattle.std.proofs.Common.{◌≡◌, ◌≢◌, ℕ, zero, suc, [], ◌∷◌, List, Some, IsTrue, inl, inr, refl, sym, ◌∙◌, ap, subst}
use Rattle.std.proofs.lemmas.Bool.{cases_eq}
use Rattle.disk_model.specs.State.{FileState, Sound, pending}
use Rattle.disk_model.specs.Calls.{Rests}
use Rattle.disk_model.specs.Keeps.{Keeps}
use Rattle.node_image.specs.References.{current_format}
use Rattle.hmac_keys.specs.declared.Keys.{Keys}
use Rattle.htree_file.specs.Copies.{CopyOpens}
use Rattle.htree_file.specs.Making.{Nowhere}
use Rattle.tee_types.specs.Limits.{IsObjectFile, directory_file}
use Rattle.tee_types.proofs.FileNumbers.{object_not_directory}
use Rattle.dir_records.specs.declared.entry.DirEntry.{DirEntry}
use Rattle.rpmb_card.specs.Card.{CardState}
use Rattle.rpmb_card.specs.Port.{PortState}
use Rattle.rpmb_host.specs.Honest.{HasCard}
use Rattle.crash_core.specs.MountedObject.{root_of}
use Rattle.crash_core.specs.CardBlock.{directory_at}
use Rattle.crash_core.specs.DeviceKeys.{directory_key}
use Rattle.crash_core.specs.EntryLists.{IsUnnamed, entry_at}
use Rattle.crash_core.specs.Migration.{DeviceStates, Migrates}
use Rattle.crash_core.specs.MigrationLaws.{moved_entry}
use Rattle.crash_core.proofs.Lists.{put_else, put_here}
use Rattle.crash_core.proofs.Migrations.{migrations_follow}
use Rattle.store_commit.specs.declared.change.CommitEnd.{CommitEnd}
use Rattle.crash_core.specs.declared.change.EntryChange.TheVariants.{Put as PutChange}
use Rattle.store_commit.specs.Ends.{Throughout}
use Rattle.store_commit.specs.Gates.{GateValue, gate_sides}
use Rattle.store_commit.specs.Sides.{IsSettled}
use Rattle.store_commit.specs.Steps.{Steps}
use Rattle.object_calls.specs.OpeningFiles.{files_of, numbered_files, object_files}
use Rattle.object_calls.specs.ObjectMoves.{CopiesBetweenFiles, KeepsGateMaps, devices_at}
use Rattle.object_calls.proofs.Files.{directory_here, numbered_sound, object_numbered, others_same}
use Rattle.object_calls.proofs.MigrationTurns.{HasCopy, IsCopied, IsGateOver, commit_migrates, copy_migrates, unread_over}

module _ {F : Type 0} (state : F → FileState) where
  -- where the files of objects differ in one place, so do all
  numbered_same : (spare dir : F) (old new : List F) (n : ℕ) → object_files state new n ≡ object_files state old n → numbered_files state spare dir new n ≡ numbered_files state spare dir old n
  numbered_same spare dir old new n same = elim (cases_eq n directory_file) [
    | inl is ↦ put_here (files_of state (spare ∷ new)) directory_file (state dir) n is ∙ sym (put_here (files_of state (spare ∷ old)) directory_file (state dir) n is)
    | inr other ↦ put_else (files_of state (spare ∷ new)) directory_file (state dir) n other ∙ by_number n same
        ∙ sym (put_else (files_of state (spare ∷ old)) directory_file (state dir) n other)
  ]
    where
      by_number : (k : ℕ) → object_files state new k ≡ object_files state old k → files_of state (spare ∷ new) k ≡ files_of state (spare ∷ old) k
      by_number zero is = refl
      by_number (suc k) is = is

  -- A COPY
  copied_in : (spare dir : F) (old new : List F) (from to : ℕ) (card : CardState) → IsObjectFile from → IsObjectFile to → to ≢ from
      → CopiesBetweenFiles (object_files state old) (object_files state new) from to
      → IsCopied (record { files = numbered_files state spare dir old; card = card }) (record { files = numbered_files state spare dir new; card = card }) from to
  copied_in spare dir old new from to card is_from is_to apart copies = record {
    apart = apart;
    reads = subst (λ (s : FileState). Rests s (numbered_files state spare dir new from)) (sym (object_numbered state spare dir old from is_from))
        (subst (Rests (object_files state old from)) (sym (object_numbered state spare dir new from is_from)) copies.reads);
    writes = subst (λ (s : FileState). Keeps Nowhere s (numbered_files state spare dir new to)) (sym (object_numbered state spare dir old to is_to))
        (subst (Keeps Nowhere (object_files state old to)) (sym (object_numbered state spare dir new to is_to)) copies.writes);
    others = λ n else other. numbered_same spare dir old new n (copies.others n else other);
    card = refl;
  }

  module _ {R : Type 0} (port : R → PortState) (sound : (f : F) → Sound (state f)) (spare : F) (keys : Keys) (card : CardState) (g0 : GateValue F R) (old new : List F) (e : DirEntry) (to : ℕ)
      (settled : IsSettled (gate_sides state port g0)) (format : g0.dir.dir.root.format ≡ current_format) (tsk : directory_key keys ≡ g0.dir.dir.tsk)
      (has : HasCard (port g0.host.port) g0.host.key card) (is_from : IsObjectFile e.file) (is_to : IsObjectFile to) (apart : to ≢ e.file)
      (unnamed : IsUnnamed g0.dir.dir.entries to) (copies : CopiesBetweenFiles (object_files state old) (object_files state new) e.file to) where
    here : directory_at g0.dir.dir.root.format ≡ directory_file
    here = ap directory_at format

    away : (n : ℕ) → IsObjectFile n → n ≢ directory_at g0.dir.dir.root.format
    away n object is = object_not_directory n object.0 object.1 (is ∙ here)

    over : (d : DeviceStates) → d.card ≡ card → d.files directory_file ≡ state g0.dir.file → IsGateOver keys d (gate_sides state port g0)
    over d same is = record {
      settled = settled;
      tsk = tsk;
      has = subst (HasCard (port g0.host.port) g0.host.key) (sym same) has;
      file = ap d.files here ∙ is;
    }

    pub copy_keeps : Migrates keys (devices_at state spare g0 old card) (devices_at state spare g0 new card)
    copy_keeps =
        copy_migrates keys e.file to (devices_at state spare g0 old card) (devices_at state spare g0 new card) (numbered_sound state sound spare g0.dir.file old) (numbered_sound state sound spare g0.dir.file new)
        (copied_in spare g0.dir.file old new e.file to card is_from is_to apart copies)
        (λ d same files honest.
        let dir_is : d.files directory_file ≡ state g0.dir.file =
        files directory_file (λ is. object_not_directory e.file is_from.0 is_from.1 (sym is)) ∙ directory_here state spare g0.dir.file old in
        unread_over keys d (gate_sides state port g0) to (over d same dir_is) (away to is_to) unnamed honest)

    -- given up with the copy
    pub copy_ends : KeepsGateMaps state port spare g0 g0 old new keys card
    copy_ends = record { after = card; has = has; migrates = copy_keeps }

    -- the copy is settled, and the commit was tried
    pub object_migrates : (g1 : GateValue F R) (index : ℕ) (end : CommitEnd) → entry_at g0.dir.dir.entries index ≡ Some e → pending (object_files state new to) ≡ []
        → (IsTrue (object_files state new e.file).honest → IsTrue (object_files state new to).honest
        → CopyOpens (object_files state new e.file).reads (object_files state new to).reads (root_of e) current_format)
        → Throughout (gate_sides state port g0) (gate_sides state port g1)
        → Steps (gate_sides state port g0) (gate_sides state port g1) (PutChange index (moved_entry e to current_format)) end → KeepsGateMaps state port spare g0 g1 old new keys card
    object_migrates g1 index end at pending_none opens throughout steps =
        let mid = devices_at state spare g0 new card in
        let files : ℕ → FileState = numbered_files state spare g1.dir.file new in
        let copy : HasCopy mid (gate_sides state port g0) index to e = record {
          at = at;
          apart = away to is_to;
          from_apart = away e.file is_from;
          settled = ap pending (object_numbered state spare g0.dir.file new to is_to) ∙ pending_none;
          opens = subst (λ (s : FileState). IsTrue s.honest → IsTrue (mid.files to).honest → CopyOpens s.reads (mid.files to).reads (root_of e) current_format)
              (sym (object_numbered state spare g0.dir.file new e.file is_from))
              (subst (λ (s : FileState). IsTrue (object_files state new e.file).honest → IsTrue s.honest → CopyOpens (object_files state new e.file).reads s.reads (root_of e) current_format)
              (sym (object_numbered state spare g0.dir.file new to is_to)) opens);
        } in
        let ends = commit_migrates keys mid files (gate_sides state port g0) (gate_sides state port g1) index to e (numbered_sound state sound spare g0.dir.file new) (numbered_sound state sound spare g1.dir.file new)
        (over mid refl (directory_here state spare g0.dir.file new)) (ap files here ∙ directory_here state spare g1.dir.file new)
        (λ n other. others_same state spare g0.dir.file g1.dir.file new n (λ is. other (is ∙ sym here))) throughout copy end steps in
        record {
          after = ends.after;
          has = ends.has;
          migrates = migrations_follow keys (devices_at state spare g0 old card) mid (devices_at state spare g1 new ends.after) copy_keeps ends.migrates;
        }

-- one turn behind another
pub turns_follow : {F R : Type 0} (state : F → FileState) (port : R → PortState) (spare : F) (g0 g1 g2 : GateValue F R) (a b c : List F) (keys : Keys) (card : CardState)
    (first : KeepsGateMaps state port spare g0 g1 a b keys card) → KeepsGateMaps state port spare g1 g2 b c keys first.after → KeepsGateMaps state port spare g0 g2 a c keys card
turns_follow state port spare g0 g1 g2 a b c keys card first second = record {
  after = second.after;
  has = second.has;
  migrates = migrations_follow keys (devices_at state spare g0 a card) (devices_at state spare g1 b first.after) (devices_at state spare g2 c second.after) first.migrates second.migrates;
}
