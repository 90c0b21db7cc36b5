-- The seals of a migration: of the directory in another file, and of an entry whose object stands in another file.
use Rattle.std.proofs.Common.{◌≡◌, ◌≢◌, ◌⊎◌, ℕ, List, [], get_or, IsTrue, Option, Some, Result, Ok, Err, inl, inr, refl, sym, ◌∙◌, ap, subst}
use Rattle.disk_model.specs.State.{FileState, LeftNow, pending}
use Rattle.disk_model.proofs.ImageLaws.{reads_left}
use Rattle.node_image.specs.declared.node.RootRef.{RootRef}
use Rattle.hmac_keys.specs.declared.Keys.{Keys}
use Rattle.htree_file.specs.declared.fault.TreeFault.{TreeFault}
use Rattle.htree_file.specs.Pages.{Opened, opened_of}
use Rattle.store_model.specs.Object.{ObjectMap}
use Rattle.dir_records.specs.declared.entry.DirEntry.{DirEntry}
use Rattle.crash_core.specs.MountedObject.{mounted_object, object_or_damaged, root_of}
use Rattle.crash_core.specs.Directory.{directory_from, directory_of}
use Rattle.crash_core.specs.DirectoryLaws.{AreEntries}
use Rattle.crash_core.specs.EntryLists.{entry_at}
use Rattle.crash_core.specs.declared.change.EntryChange.TheVariants.{Put}
use Rattle.crash_core.specs.EntryChanges.{changed}
use Rattle.crash_core.specs.Refusal.{Refusal}
use Rattle.crash_core.specs.CardBlock.{directory_at, root_block, root_in}
use Rattle.crash_core.specs.DeviceKeys.{directory_key, object_key}
use Rattle.crash_core.specs.Pictures.{AreAllHonest, AreSound, Picture, SameCard}
use Rattle.crash_core.specs.Mounting.{all_held_in, held_in, map_of, mounted}
use Rattle.crash_core.specs.CoreState.{put}
use Rattle.crash_core.specs.Seals.{sealed_card}
use Rattle.crash_core.specs.Migration.{DeviceStates, KeepsFiles, KeepsMaps, MayBeSealed, of_card}
use Rattle.crash_core.specs.MigrationLaws.{DirectoriesMigrate, EntriesMigrate, IsDirectoryCopied, IsEntryCopied, IsSealable, OpensAlike, moved_entry}
use Rattle.crash_core.proofs.CardBlocks.{root_in-block}
use Rattle.crash_core.proofs.KeptByCommits.{first_set}
use Rattle.crash_core.proofs.Lists.{put_each, put_else, put_here}
use Rattle.crash_core.proofs.MountedImages.{entry_not_directory, map_is, read_entries, same_held, same_moved}
use Rattle.crash_core.proofs.Migrations.{calls_migrate, same_card, same_card_then, same_pictures}
use Rattle.crash_core.proofs.SameDirectory.{directory_seen, seen_directory}
use Rattle.crash_core.proofs.Sightings.{one_image}

-- WHAT OPENS ALIKE
same_directory : (key before after : List ℕ) (root next : RootRef) (entries : List (Option DirEntry)) → directory_of key before root ≡ Ok entries
    → OpensAlike (opened_of key before root) (opened_of key after next) → directory_of key after next ≡ Ok entries
same_directory key before after root next entries is alike =
    seen_directory key after next entries (by_opened (opened_of key before root) (opened_of key after next) (directory_seen key before root entries is) alike)
  where
    by_opened : (a b : Result Opened TreeFault) → directory_from a ≡ Ok entries → OpensAlike a b → directory_from b ≡ Ok entries
    by_opened (Err fault) b read same = absurd (cc (read))
    by_opened (Ok opened) (Err fault) read none = absurd none
    by_opened (Ok opened) (Ok other) read same = ap (λ (o : Opened). let r : Result Opened TreeFault = Ok o in directory_from r) (sym same) ∙ read

same_object : (size attributes : ℕ) (a b : Result Opened TreeFault) → OpensAlike a b → object_or_damaged size attributes b ≡ object_or_damaged size attributes a
same_object size attributes (Ok opened) (Ok other) same = ap (λ (o : Opened). let r : Result Opened TreeFault = Ok o in object_or_damaged size attributes r) (sym same)
same_object size attributes (Ok opened) (Err fault) none = absurd none
same_object size attributes (Err fault) (Ok opened) none = absurd none
same_object size attributes (Err fault) (Err other) same = refl

-- IMAGES
-- these images, of which one is what its file reads as
abbrev pub with_reads : DeviceStates → ℕ → (ℕ → List ℕ) → ℕ → List ℕ
with_reads d file images = put images file (d.files file).reads

-- a crash may leave these images of the files
abbrev pub AreImages : DeviceStates → (ℕ → List ℕ) → Type 0
AreImages d images = (n : ℕ) → LeftNow (d.files n) (images n)

reads_are_left : (d : DeviceStates) (file : ℕ) (images : ℕ → List ℕ) → AreSound d.files → AreImages d images → AreImages d (with_reads d file images)
reads_are_left d file images sound left n =
    put_each (λ (k : ℕ) (b : List ℕ). LeftNow (d.files k) b) images file (d.files file).reads n (reads_left (d.files file) (sound file)) (left n)

reads_here : (d : DeviceStates) (file : ℕ) (images : ℕ → List ℕ) → with_reads d file images file ≡ (d.files file).reads
reads_here d file images = put_here images file (d.files file).reads file refl

-- WHAT THE CARD NAMES BEHIND A SEAL
module _ (keys : Keys) (d : DeviceStates) (sound : AreSound d.files) (honest : AreAllHonest d.files) (root next : RootRef) (entries after : List (Option DirEntry)) (ready : IsSealable keys d root next entries)
    (holds : directory_of (directory_key keys) (d.files (directory_at next.format)).reads next ≡ Ok after) where
  -- a settled file has the one image
  settled_image : (file : ℕ) (images : ℕ → List ℕ) → pending (d.files file) ≡ [] → AreImages d images → images file ≡ (d.files file).reads
  settled_image file images none left = one_image (d.files file) (sound file) (honest file) none (images file) (left file)

  -- so each picture mounts the new entries
  sealed_map : (picture : Picture) → AreImages d picture.images → SameCard picture.card (sealed_card d.card next) → mounted keys picture ≡ Ok (map_of (all_held_in keys picture.images after))
  sealed_map picture left same =
      map_is keys picture next after
      (ap (λ (blocks : List (List ℕ)). root_in (get_or blocks 0 [])) same.blocks ∙ ap root_in (first_set d.card.blocks (root_block next) root ready.names) ∙ root_in-block next ready.form)
      (ap (λ (b : List ℕ). directory_of (directory_key keys) b next) (settled_image (directory_at next.format) picture.images ready.settled left) ∙ holds)

  -- and mounted the old ones, where the directory's file was left as it reads
  named_map : (images : ℕ → List ℕ) → images (directory_at root.format) ≡ (d.files (directory_at root.format)).reads
      → mounted keys (record { images = images; card = d.card }) ≡ Ok (map_of (all_held_in keys images entries))
  named_map images is =
      map_is keys (record { images = images; card = d.card }) root entries ready.names (ap (λ (b : List ℕ). directory_of (directory_key keys) b root) is ∙ ready.reads)

  -- Images which a crash might have left before, with the same map.
  pub record HadMap (images : ℕ → List ℕ) : Type 0 where
    pub was : ℕ → List ℕ
    pub left : AreImages d was
    pub named : was (directory_at root.format) ≡ (d.files (directory_at root.format)).reads
    pub same : map_of (all_held_in keys was entries) ≡ map_of (all_held_in keys images after)

  seal_keeps : ((images : ℕ → List ℕ) → AreImages d images → HadMap images) → (new : DeviceStates) → KeepsFiles d new → MayBeSealed d.card new.card next → KeepsMaps keys d new
  seal_keeps had new files (inl same) picture is = same_pictures keys d new files same picture is
  seal_keeps had new files (inr sealed) picture is =
      let left : AreImages d picture.images = λ n. subst (λ (s : FileState). LeftNow s (picture.images n)) (files n) (is.left n) in
      let h : HadMap picture.images = had picture.images left in (
        record { images = h.was; card = d.card },
        record { left = h.left; same = same_card d.card },
        named_map h.was h.named
            ∙ ap (λ (m : ObjectMap). let r : Result ObjectMap Refusal = Ok m in r) h.same
            ∙ sym (sealed_map picture left (same_card_then picture.card new.card (sealed_card d.card next) is.same sealed)),
      )

-- THE DIRECTORY
module _ (keys : Keys) (d : DeviceStates) (sound : AreSound d.files) (honest : AreAllHonest d.files) (root next : RootRef) (copied : IsDirectoryCopied keys d root next) where
  copy_holds : directory_of (directory_key keys) (d.files (directory_at next.format)).reads next ≡ Ok copied.entries
  copy_holds = same_directory (directory_key keys) (d.files (directory_at root.format)).reads (d.files (directory_at next.format)).reads root next copied.entries copied.ready.reads copied.alike

  directory_had : (images : ℕ → List ℕ) → AreImages d images → HadMap keys d sound honest root next copied.entries copied.entries copied.ready copy_holds images
  directory_had images left =
      let home : ℕ = directory_at root.format in
      let are : AreEntries copied.entries = read_entries (directory_key keys) (d.files home).reads root copied.entries copied.ready.reads in
      record {
        was = with_reads d home images;
        left = reads_are_left d home images sound left;
        named = reads_here d home images;
        same = ap map_of (same_held keys images (with_reads d home images) copied.entries
            (λ index e at. put_else images home (d.files home).reads e.file (entry_not_directory root.format copied.entries are index e at)));
      }

  directory_keeps : (new : DeviceStates) → KeepsFiles d new → MayBeSealed d.card new.card next → KeepsMaps keys d new
  directory_keeps = seal_keeps keys d sound honest root next copied.entries copied.entries copied.ready copy_holds directory_had

-- AN ENTRY
module _ (keys : Keys) (d : DeviceStates) (sound : AreSound d.files) (honest : AreAllHonest d.files) (root next : RootRef) (index file format : ℕ) (copied : IsEntryCopied keys d root next index file format) where
  abbrev e : DirEntry
  e = copied.entry

  abbrev moved : DirEntry
  moved = moved_entry e file format

  abbrev moved_entries : List (Option DirEntry)
  moved_entries = changed copied.entries (Put index moved)

  abbrev home : ℕ
  home = directory_at root.format

  are : AreEntries copied.entries
  are = read_entries (directory_key keys) (d.files home).reads root copied.entries copied.ready.reads

  apart : (n : ℕ) (f : DirEntry) → entry_at copied.entries n ≡ Some f → f.file ≢ home
  apart n f at = entry_not_directory root.format copied.entries are n f at

  module _ (images : ℕ → List ℕ) (left : AreImages d images) where
    -- the directory's file as it reads, and with it the object's old file
    abbrev at_home : ℕ → List ℕ
    at_home = with_reads d home images

    abbrev at_both : ℕ → List ℕ
    at_both = with_reads d e.file at_home

    object_same : (held_in keys images moved).object ≡ (held_in keys at_both e).object
    object_same =
        ap (λ (b : List ℕ). mounted_object (object_key keys e.app) b moved)
        (settled_image keys d sound honest root next copied.entries moved_entries copied.ready copied.holds file images copied.settled left)
        ∙ same_object e.size e.attributes (opened_of (object_key keys e.app) (d.files e.file).reads (root_of e)) (opened_of (object_key keys e.app) (d.files file).reads (root_of moved)) copied.alike
        ∙ ap (λ (b : List ℕ). mounted_object (object_key keys e.app) b e) (sym (reads_here d e.file at_home))

    others_same : (n : ℕ) (f : DirEntry) → n ≢ index → entry_at copied.entries n ≡ Some f → at_both f.file ≡ images f.file
    others_same n f other at =
        put_else at_home e.file (d.files e.file).reads f.file (λ same. other (are.single n index f e at copied.at same))
        ∙ put_else images home (d.files home).reads f.file (apart n f at)

    entry_had : HadMap keys d sound honest root next copied.entries moved_entries copied.ready copied.holds images
    entry_had = record {
      was = at_both;
      left = reads_are_left d e.file at_home sound (reads_are_left d home images sound left);
      named = put_else at_home e.file (d.files e.file).reads home (λ same. apart index e copied.at (sym same)) ∙ reads_here d home images;
      same = same_moved keys images at_both copied.entries index e moved copied.at refl object_same others_same;
    }

  entry_keeps : (new : DeviceStates) → KeepsFiles d new → MayBeSealed d.card new.card next → KeepsMaps keys d new
  entry_keeps = seal_keeps keys d sound honest root next copied.entries moved_entries copied.ready copied.holds entry_had

-- THE LAWS
-- where no file was called, all are as honest as they were
kept_honest : (old new : DeviceStates) → KeepsFiles old new → AreAllHonest new.files → AreAllHonest old.files
kept_honest old new files honest n = subst (λ (s : FileState). IsTrue s.honest) (files n) (honest n)

seal_of : (old new : DeviceStates) (next : RootRef) → MayBeSealed old.card new.card next → SameCard new.card old.card ⊎ ((dir : RootRef) × SameCard new.card (sealed_card old.card dir))
seal_of old new next (inl same) = inl same
seal_of old new next (inr sealed) = inr (next, sealed)

pub directories_migrate : DirectoriesMigrate
directories_migrate keys root next old new sound files card copied =
    calls_migrate keys of_card old new (record { files = files; card = seal_of old new next card })
    (λ honest. let was = kept_honest old new files honest in directory_keeps keys old sound was root next (copied was) new files card)

pub entries_migrate : EntriesMigrate
entries_migrate keys root next index file format old new sound files card copied =
    calls_migrate keys of_card old new (record { files = files; card = seal_of old new next card })
    (λ honest. let was = kept_honest old new files honest in entry_keeps keys old sound was root next index file format (copied was) new files card)
