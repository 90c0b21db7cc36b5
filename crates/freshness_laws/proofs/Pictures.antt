-- What a picture mounts to is a store that its images hold; and two pictures whose cards have one block 0.
use Rattle.std.proofs.Common.{◌≡◌, ◌⊎◌, inl, inr, ℕ, List, [], ◌∷◌, map, Option, Some, None, Result, Ok, Err, refl, sym, ap, subst, ◌∙◌}
use Rattle.std.specs.Option.{option_map}
use Rattle.disk_model.specs.Bytes.{AreBytes}
use Rattle.node_image.specs.declared.node.RootRef.{RootRef}
use Rattle.htree_file.specs.declared.fault.TreeFault.{TreeFault}
use Rattle.htree_file.specs.Opening.{Loaded, load_of}
use Rattle.htree_file.specs.Pages.{block_in, opened_in}
use Rattle.htree_file.proofs.Loadings.{verified_from}
use Rattle.hmac_keys.specs.declared.Keys.{Keys}
use Rattle.store_model.specs.Object.{ObjectMap}
use Rattle.dir_records.specs.declared.entry.DirEntry.{DirEntry}
use Rattle.crash_core.specs.declared.fault.DirFault.{DirFault}
use Rattle.crash_core.specs.CardBlock.{directory_at, root_in}
use Rattle.crash_core.specs.DeviceKeys.{directory_key, object_key}
use Rattle.crash_core.specs.Directory.{directory_from, directory_of}
use Rattle.crash_core.specs.MountedObject.{object_or_damaged, root_of}
use Rattle.crash_core.specs.Mounting.{Held, all_held_in, directory_by, map_of, mounted, mounted_directory, mounted_entries, unless_fault}
use Rattle.crash_core.specs.Pictures.{Picture, block_zero}
use Rattle.crash_core.specs.Refusal.{Refusal}
use Rattle.crash_core.proofs.SameDirectory.{directory_seen}
use Rattle.core_laws.specs.Decodings.{object_decoded}
use Rattle.freshness_laws.specs.Readings.{ReadTree, decoding_read}
use Rattle.freshness_laws.specs.Agreement.{MapsAgree}
use Rattle.freshness_laws.specs.SeenStores.{map_seen, object_read, objects_read}
use Rattle.freshness_laws.specs.Pictures.{AreByteImages, HoldsStore, IsReadOrNone, PictureClash, PicturesAgree, PicturesHoldStores}
use Rattle.freshness_laws.proofs.Stores.{stores_or}

module _ (image : List ℕ) (bytes : AreBytes image) (root : RootRef) where
  -- what an image holds under a reference
  abbrev pub read_tree : (tree : Loaded) → load_of image root ≡ Ok tree → ReadTree root
  read_tree tree is = record { tree = tree; verified = verified_from image root tree bytes is; block = block_in image tree }

  abbrev pub read_by : (r : Result Loaded TreeFault) → load_of image root ≡ r → Option (ReadTree root)
  read_by (Ok tree) is = Some (read_tree tree is)
  read_by (Err fault) is = None

  abbrev pub read_in : Option (ReadTree root)
  read_in = read_by (load_of image root) refl

  read_is : (r : Result Loaded TreeFault) (is : load_of image root ≡ r) → IsReadOrNone image root (read_by r is)
  read_is (Ok tree) is = record { loads = is; blocks = λ k lt. refl }
  read_is (Err fault) is = (fault, is)

  object_is : (wrap : List ℕ) (size attributes : ℕ) (r : Result Loaded TreeFault) (is : load_of image root ≡ r)
      → object_or_damaged size attributes (opened_in image wrap r) ≡ object_decoded size attributes (option_map (decoding_read wrap) (read_by r is))
  object_is wrap size attributes (Ok tree) is = refl
  object_is wrap size attributes (Err fault) is = refl

module _ (keys : Keys) (images : ℕ → List ℕ) (bytes : AreByteImages images) where
  abbrev pub trees_in : (e : DirEntry) → Option (ReadTree (root_of e))
  trees_in e = read_in (images e.file) (bytes e.file) (root_of e)

  held_same : (entries : List (Option DirEntry)) → all_held_in keys images entries ≡ map (option_map (λ (e : DirEntry). let h : Held = record { entry = e; object = object_read keys e (trees_in e) } in h)) entries
  held_same [] = refl
  held_same (None ∷ entries) = λ i. None ∷ held_same entries i
  held_same (Some e ∷ entries) =
      let same = object_is (images e.file) (bytes e.file) (root_of e) (object_key keys e.app) e.size e.attributes (load_of (images e.file) (root_of e)) refl in
      λ i. Some (record { entry = e; object = same i }) ∷ held_same entries i

  pub map_same : (entries : List (Option DirEntry)) → map_of (all_held_in keys images entries) ≡ objects_read keys trees_in entries
  map_same entries = ap map_of (held_same entries)

  pub trees_are : (e : DirEntry) → IsReadOrNone (images e.file) (root_of e) (trees_in e)
  trees_are e = read_is (images e.file) (bytes e.file) (root_of e) (load_of (images e.file) (root_of e)) refl

  module _ (block : List ℕ) (entries : List (Option DirEntry)) where
    by_tree : (root : RootRef) → root_in block ≡ Ok root → (r : Result Loaded TreeFault) → load_of (images (directory_at root.format)) root ≡ r
        → directory_from (opened_in (images (directory_at root.format)) (directory_key keys) r) ≡ Ok entries → HoldsStore keys block images entries
    by_tree root named (Err fault) loads reads = absurd (cc (reads))
    by_tree root named (Ok tree) loads reads = record {
      seen = record { root = root; named = named; dir = read_tree (images (directory_at root.format)) (bytes (directory_at root.format)) root tree loads; entries = entries; reads = reads; trees = trees_in };
      held = record { dir = record { loads = loads; blocks = λ k lt. refl }; trees = trees_are };
      entries_are = refl;
      objects_are = map_same entries;
    }

    by_directory : (root : RootRef) → root_in block ≡ Ok root → (d : Result (List (Option DirEntry)) DirFault) → directory_of (directory_key keys) (images (directory_at root.format)) root ≡ d
        → unless_fault d ≡ Ok entries → HoldsStore keys block images entries
    by_directory root named (Err fault) reads is = absurd (cc (is))
    by_directory root named (Ok found) reads is =
        let same : found ≡ entries = cc (is) in
        by_tree root named (load_of (images (directory_at root.format)) root) refl
        (directory_seen (directory_key keys) (images (directory_at root.format)) root entries (reads ∙ ap (λ (l : List (Option DirEntry)). let r : Result (List (Option DirEntry)) DirFault = Ok l in r) same))

    pub by_root : (r : Result RootRef Refusal) → root_in block ≡ r → directory_by keys images r ≡ Ok entries → HoldsStore keys block images entries
    by_root (Err refusal) named is = absurd (cc (is))
    by_root (Ok root) named is = by_directory root named (directory_of (directory_key keys) (images (directory_at root.format)) root) refl is

pub pictures_hold : PicturesHoldStores
pictures_hold keys picture entries bytes is = by_root keys picture.images bytes (block_zero picture.card) entries (root_in (block_zero picture.card)) refl is

-- what a picture mounts to is of the entries of its directory
pub record MountsBy (keys : Keys) (picture : Picture) (objects : ObjectMap) : Type 0 where
  pub entries : List (Option DirEntry)
  pub directory : mounted_directory keys picture ≡ Ok entries
  pub objects_are : map_of (all_held_in keys picture.images entries) ≡ objects

pub mounts_by : (keys : Keys) (picture : Picture) (objects : ObjectMap) → mounted keys picture ≡ Ok objects → MountsBy keys picture objects
mounts_by keys picture objects is = by_directory (mounted_directory keys picture) refl is
  where
    by_directory : (r : Result (List (Option DirEntry)) Refusal) → mounted_directory keys picture ≡ r → mounted_entries keys picture.images r ≡ Ok objects → MountsBy keys picture objects
    by_directory (Err refusal) found is = absurd (cc (is))
    by_directory (Ok entries) found is = let same : map_of (all_held_in keys picture.images entries) ≡ objects = cc (is) in record { entries = entries; directory = found; objects_are = same }

module _ (keys : Keys) (block : List ℕ) (one other : ℕ → List ℕ) (m n : ObjectMap) (es fs : List (Option DirEntry)) (x : HoldsStore keys block one es) (y : HoldsStore keys block other fs)
    (is : map_of (all_held_in keys one es) ≡ m) (is_too : map_of (all_held_in keys other fs) ≡ n) where
  pub held_or : MapsAgree m n ⊎ PictureClash keys block one other
  held_or = elim (stores_or keys block x.seen y.seen) [
    | inr clash ↦ inr (record { seen = x.seen; held = x.held; seen_other = y.seen; held_other = y.held; clash = clash })
    | inl agree ↦ inl (subst (λ (o : ObjectMap). MapsAgree o n) (sym x.objects_are ∙ is) (subst (MapsAgree (map_seen x.seen)) (sym y.objects_are ∙ is_too) agree))
  ]

pub pictures_agree : PicturesAgree
pictures_agree keys one other m n bytes bytes_other same is is_too =
    let a = mounts_by keys one m is in
    let b = mounts_by keys other n is_too in
    held_or keys (block_zero one.card) one.images other.images m n a.entries b.entries (pictures_hold keys one a.entries bytes a.directory)
    (subst (λ (k : List ℕ). HoldsStore keys k other.images b.entries) same (pictures_hold keys other b.entries bytes_other b.directory)) a.objects_are b.objects_are
