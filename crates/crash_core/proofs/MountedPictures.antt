-- Every picture of a core state that holds mounts, to a map of the same names, and the same objects in files that are honest to the end.
use Rattle.std.proofs.Common.{◌≡◌, ℕ, suc, true, List, [], ◌∷◌, Option, Some, None, Ok, refl, sym, ◌∙◌, ap, subst, is_eq}
use Rattle.std.specs.declared.cmp.Ordering.TheVariants.{Less, Equal, Greater}
use Rattle.std.specs.BTreeMap.{insert_entry}
use Rattle.std.proofs.lemmas.Bool.{false≢true}
use Rattle.disk_model.specs.State.{FileState, LeftNow}
use Rattle.node_image.specs.declared.node.RootRef.{RootRef}
use Rattle.tee_types.specs.Limits.{directory_file}
use Rattle.rpmb_card.specs.Card.{CardState}
use Rattle.store_model.specs.declared.name.ObjectName.{ObjectName}
use Rattle.store_model.specs.Name.{name_cmp}
use Rattle.store_model.specs.Object.{Object, ObjectMap}
use Rattle.store_model.specs.ReplayState.{ReplayState}
use Rattle.store_model.specs.Laws.{UnchangedMapsStay}
use Rattle.store_model.specs.Makes.{CommitsMakeChanges}
use Rattle.dir_records.specs.declared.entry.DirEntry.{DirEntry}
use Rattle.crash_core.specs.MountedObject.{mounted_object, object_or_damaged}
use Rattle.crash_core.specs.Entries.{name_of}
use Rattle.crash_core.specs.EntryChanges.{changed}
use Rattle.crash_core.specs.Directory.{directory_from, directory_of}
use Rattle.crash_core.specs.CardBlock.{directory_at, root_in}
use Rattle.crash_core.specs.DeviceKeys.{directory_key, object_key}
use Rattle.crash_core.specs.Pictures.{IsPictureOf, Picture, block_zero}
use Rattle.crash_core.specs.Mounting.{Held, all_held_in, directory_by, map_of, mounted, mounted_directory, mounted_entries, unless_fault}
use Rattle.crash_core.specs.Sights.{Sight}
use Rattle.crash_core.specs.CoreState.{Core, IsTrusted, PendingCommit, Phase, replay_state}
use Rattle.crash_core.specs.Holding.{CardNames, DirectoryStands, Holds, PendingStands, SealedStands, entries_held, held_at}
use Rattle.crash_core.specs.Theorem.{EveryPictureMounts, HonestPicturesMount, IsTrustedName, MountsTo, SameBut, map_on_card, map_sealed}
use Rattle.crash_core.proofs.EntryMaps.{ins, is_at, self, tied}
use Rattle.crash_core.proofs.Lists.{entry_held}
use Rattle.crash_core.proofs.SameDirectory.{seen_directory}
use Rattle.crash_core.proofs.Runs.{run_holds, start_holds}

-- THE SAME MAPS
same_inserted : (IsSame : ObjectName → Type 0) (m n : ObjectMap) (k : ObjectName) (v w : Object) → ((name : ObjectName) → is_at k name ≡ true → IsSame name → w ≡ v) → SameBut IsSame m n
    → SameBut IsSame (insert_entry name_cmp m k v) (insert_entry name_cmp n k w)
same_inserted IsSame [] [] k v w is same = (refl, is k (ap is_eq (self k)), tt)
same_inserted IsSame [] (f ∷ n) k v w is same = absurd same
same_inserted IsSame (e ∷ m) [] k v w is same = absurd same
same_inserted IsSame (e ∷ m) (f ∷ n) k v w is same = (elim (name_cmp k e.0) as (λ o. name_cmp k e.0 ≡ o → SameBut IsSame (insert_entry name_cmp (e ∷ m) k v) (insert_entry name_cmp (f ∷ n) k w)) [
  | Less ↦ λ h.
      let g : name_cmp k f.0 ≡ Less = ap (name_cmp k) same.0 ∙ h in
      subst (λ l. SameBut IsSame l (insert_entry name_cmp (f ∷ n) k w)) (sym (ins k v e m Less h)) (subst (λ l. SameBut IsSame ((k, v) ∷ e ∷ m) l) (sym (ins k w f n Less g))
      (refl, is k (ap is_eq (self k)), same))
  | Equal ↦ λ h.
      let g : name_cmp k f.0 ≡ Equal = ap (name_cmp k) same.0 ∙ h in
      subst (λ l. SameBut IsSame l (insert_entry name_cmp (f ∷ n) k w)) (sym (ins k v e m Equal h)) (subst (λ l. SameBut IsSame ((e.0, v) ∷ m) l) (sym (ins k w f n Equal g))
      (same.0, is e.0 (ap is_eq h), same.2))
  | Greater ↦ λ h.
      let g : name_cmp k f.0 ≡ Greater = ap (name_cmp k) same.0 ∙ h in
      subst (λ l. SameBut IsSame l (insert_entry name_cmp (f ∷ n) k w)) (sym (ins k v e m Greater h)) (subst (λ l. SameBut IsSame (e ∷ insert_entry name_cmp m k v) l) (sym (ins k w f n Greater g))
      (same.0, same.1, same_inserted IsSame m n k v w is same.2))
]) refl

tied_back : (a b : ObjectName) → is_at a b ≡ true → is_at b a ≡ true
tied_back a b alike = (elim (name_cmp a b) as (λ o. name_cmp a b ≡ o → is_at b a ≡ true) [
  | Less ↦ λ h. absurd (false≢true (sym (ap is_eq h) ∙ alike))
  | Equal ↦ λ h. ap is_eq (tied a b h)
  | Greater ↦ λ h. absurd (false≢true (sym (ap is_eq h) ∙ alike))
]) refl

-- WHAT A PICTURE SHOWS
module _ (phase : Phase) (images : ℕ → List ℕ) where
  -- the entry's file is honest to the end, so the image shows its object
  abbrev IsShown : Held → Type 0
  IsShown h = IsTrusted phase h.entry.file → mounted_object (object_key phase.keys h.entry.app) (images h.entry.file) h.entry ≡ h.object

  shown_maps : (IsSame : ObjectName → Type 0) (held : List (Option Held)) → ((index : ℕ) (h : Held) → held_at held index ≡ Some h → IsShown h)
      → ((index : ℕ) (h : Held) → held_at held index ≡ Some h → (name : ObjectName) → is_at name (name_of h.entry) ≡ true → IsSame name → IsTrusted phase h.entry.file)
      → SameBut IsSame (map_of held) (map_of (all_held_in phase.keys images (entries_held held)))
  shown_maps IsSame [] each own = tt
  shown_maps IsSame (None ∷ held) each own = shown_maps IsSame held (λ index h at. each (suc index) h at) (λ index h at. own (suc index) h at)
  shown_maps IsSame (Some h ∷ held) each own =
      same_inserted IsSame (map_of held) (map_of (all_held_in phase.keys images (entries_held held))) (name_of h.entry) h.object
      (mounted_object (object_key phase.keys h.entry.app) (images h.entry.file) h.entry)
      (λ name alike same. each 0 h refl (own 0 h refl name (tied_back (name_of h.entry) name alike) same))
      (shown_maps IsSame held (λ index x at. each (suc index) x at) (λ index x at. own (suc index) x at))

-- what the card names is what mounts
module _ (phase : Phase) (files : ℕ → FileState) (card : CardState) (picture : Picture) (is : IsPictureOf files card picture) where
  pub directory_mounts : (dir : RootRef) (entries : List (Option DirEntry)) (objects : ObjectMap) (counter : ℕ) → CardNames card dir counter → DirectoryStands phase files dir entries objects
      → MountsTo phase picture objects
  directory_mounts dir entries objects counter names d =
      let home : directory_at dir.format ≡ directory_file = ap directory_at d.own.current.1 in
      let image : List ℕ = picture.images (directory_at dir.format) in
      let left : LeftNow (files directory_file) image = subst (λ (n : ℕ). LeftNow (files n) image) home (is.left (directory_at dir.format)) in
      let block : root_in (block_zero picture.card) ≡ Ok dir = ap (λ (b : List (List ℕ)). root_in (block_zero (record card { blocks = b }))) is.same.blocks ∙ names.names in
      let opened = ap (λ (s : Sight). directory_from s.opened) (d.own.alike image left) ∙ d.reads in
      let read : directory_of (directory_key phase.keys) image dir ≡ Ok entries = seen_directory (directory_key phase.keys) image dir entries opened in
      let directory : mounted_directory phase.keys picture ≡ Ok entries = ap (directory_by phase.keys picture.images) block ∙ ap unless_fault read in
      let Same : ObjectName → Type 0 = IsTrustedName phase entries in
      let same : SameBut Same (map_of d.held) (map_of (all_held_in phase.keys picture.images (entries_held d.held))) =
      shown_maps phase picture.images Same d.held
      (λ index h at trusted.
      let shows = d.each index h at trusted in
      ap (λ (s : Sight). object_or_damaged h.entry.size h.entry.attributes s.opened) (shows.stands.alike (picture.images h.entry.file) (is.left h.entry.file)) ∙ shows.is)
      (λ index h at name alike own. own index h.entry (entry_held d.held entries index h d.holds at) alike) in
      record {
        entries = entries;
        directory = directory;
        there = map_of (all_held_in phase.keys picture.images entries);
        mounts = ap (mounted_entries phase.keys picture.images) directory;
        same = subst (λ (m : ObjectMap). SameBut Same m (map_of (all_held_in phase.keys picture.images entries))) d.map_is
            (subst (λ (l : List (Option DirEntry)). SameBut Same (map_of d.held) (map_of (all_held_in phase.keys picture.images l))) d.holds same);
      }

  module _ (trusted : IsTrusted phase directory_file) (root : RootRef) (entries : List (Option DirEntry)) (s : ReplayState) (committed : DirectoryStands phase files root entries (s.state).objects) where
    sealed_mounts : (p : PendingCommit) (sealed : Option RootRef) → SealedStands phase files card root entries s p sealed → MountsTo phase picture (map_sealed s.state p sealed)
    sealed_mounts p None stands = directory_mounts root entries (s.state).objects s.counter stands committed
    sealed_mounts p (Some dir) stands = directory_mounts dir (changed entries p.change) _ _ stands.0 (stands.1 trusted)

    pending_mounts : (pending : Option PendingCommit) → PendingStands phase files card root entries s pending → MountsTo phase picture (map_on_card s.state pending)
    pending_mounts None stands = directory_mounts root entries (s.state).objects s.counter stands committed
    pending_mounts (Some p) stands = sealed_mounts p p.sealed stands

-- Every picture of a state that holds mounts.
pub holds_mounts : {Root : Type 0} (phase : Phase) (c : Core Root) (picture : Picture) → Holds phase c → IsPictureOf c.files c.card picture → IsTrusted phase directory_file
    → MountsTo phase picture (map_on_card (replay_state phase c).state c.pending)
holds_mounts phase c picture h is trusted =
    pending_mounts phase c.files c.card picture is trusted c.root c.entries (replay_state phase c) (h.committed trusted) c.pending h.pending

pub every-picture-mounts : {Root : Type 0} → UnchangedMapsStay → CommitsMakeChanges → EveryPictureMounts Root
every-picture-mounts quiet commits phase start now steps picture good run is trusted =
    holds_mounts phase now picture (run_holds quiet commits phase start steps now (start_holds phase start good) run) is trusted

-- WHERE EVERY FILE IS HONEST
same_all : (IsSame : ObjectName → Type 0) (m n : ObjectMap) → ((name : ObjectName) → IsSame name) → SameBut IsSame m n → n ≡ m
same_all IsSame [] [] each same = refl
same_all IsSame [] (f ∷ n) each same = absurd same
same_all IsSame (e ∷ m) [] each same = absurd same
same_all IsSame (e ∷ m) (f ∷ n) each same =
    let entry : f ≡ e = (λ j. (same.0 j, same.1 (each e.0) j)) in
    let rest : n ≡ m = same_all IsSame m n each same.2 in
    (λ j. entry j ∷ rest j)

-- The picture mounts to the map itself.
pub mounts_whole : (phase : Phase) (picture : Picture) (objects : ObjectMap) → ((file : ℕ) → IsTrusted phase file) → MountsTo phase picture objects → mounted phase.keys picture ≡ Ok objects
mounts_whole phase picture objects trusted m =
    m.mounts ∙ ap (λ (x : ObjectMap). Ok x) (same_all (IsTrustedName phase m.entries) objects m.there (λ name index e at alike. trusted e.file) m.same)

pub honest-pictures-mount : {Root : Type 0} → UnchangedMapsStay → CommitsMakeChanges → HonestPicturesMount Root
honest-pictures-mount quiet commits phase start now steps picture good run is trusted =
    mounts_whole phase picture _ trusted (every-picture-mounts quiet commits phase start now steps picture good run is (trusted directory_file))
