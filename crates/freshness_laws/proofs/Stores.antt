-- Two stores that were read under one block of the card.
use Rattle.std.proofs.Common.{◌≡◌, ◌⊎◌, inl, inr, ℕ, List, length, Option, Some, None, Result, Ok, refl, sym, ap, subst, ◌∙◌}
use Rattle.std.specs.Option.{option_map}
use Rattle.node_image.specs.declared.node.RootRef.{RootRef}
use Rattle.node_image.specs.Layout.{greatest_of}
use Rattle.node_image.proofs.Matching.{length-row}
use Rattle.htree_file.proofs.Sizes.{sized_greatest}
use Rattle.hmac_keys.specs.declared.Keys.{Keys}
use Rattle.dir_records.specs.declared.entry.DirEntry.{DirEntry}
use Rattle.crash_core.specs.DeviceKeys.{directory_key, object_key}
use Rattle.crash_core.specs.Directory.{directory_from}
use Rattle.crash_core.specs.EntryLists.{entry_at}
use Rattle.crash_core.specs.MountedObject.{root_of}
use Rattle.crash_core.specs.Refusal.{Refusal}
use Rattle.core_laws.specs.Decodings.{opened_decoded, page_decoded}
use Rattle.core_laws.specs.Clashes.{Clash}
use Rattle.core_laws.proofs.Mending.{size-object_decoded}
use Rattle.freshness_laws.specs.Readings.{ReadTree, every_block, decoding_read}
use Rattle.freshness_laws.specs.Agreement.{MapsAgree, ObjectsAgree}
use Rattle.freshness_laws.specs.SeenStores.{DirectoryClash, SeenDirectoriesAgree, SeenStore, SeenStoresAgree, StoreClash, map_seen, object_read, objects_read}
use Rattle.freshness_laws.proofs.Pages.{read_or}
use Rattle.freshness_laws.proofs.Objects.{damaged_before, damaged_behind, entries_same, objects_agree, whole_of}
use Rattle.freshness_laws.proofs.Maps.{maps_or}

-- the object that an entry names in two readings
record TreesClash (wrap : List ℕ) (root : RootRef) (x y : Option (ReadTree root)) : Type 0 where
  first : ReadTree root
  is_first : x ≡ Some first
  second : ReadTree root
  is_second : y ≡ Some second
  clash : Clash every_block (decoding_read wrap first) (decoding_read wrap second)

object_or : (keys : Keys) (e : DirEntry) (x y : Option (ReadTree (root_of e))) → ObjectsAgree (object_read keys e x) (object_read keys e y) ⊎ TreesClash (object_key keys e.app) (root_of e) x y
object_or keys e None y = inl (damaged_before e.size (object_read keys e y) (size-object_decoded e.size e.attributes (option_map (decoding_read (object_key keys e.app)) y)))
object_or keys e (Some r) None = inl (damaged_behind e.size (object_read keys e (Some r)) (size-object_decoded e.size e.attributes (Some (decoding_read (object_key keys e.app) r))))
object_or keys e (Some r) (Some s) = elim (read_or (object_key keys e.app) (root_of e) r s) [
  | inl agree ↦ inl (objects_agree (opened_decoded (decoding_read (object_key keys e.app) r)) (opened_decoded (decoding_read (object_key keys e.app) s)) agree e.size e.attributes)
  | inr clash ↦ inr (record { first = r; is_first = refl; second = s; is_second = refl; clash = clash })
]

-- a directory that is read has eight pages
eight_pages : (wrap : List ℕ) (root : RootRef) (r : ReadTree root) (entries : List (Option DirEntry)) → directory_from (Ok (opened_decoded (decoding_read wrap r))) ≡ Ok entries
    → length (opened_decoded (decoding_read wrap r)).pages ≡ 8
eight_pages wrap root r entries is =
    length-row (page_decoded (decoding_read wrap r)) (length (r.tree).nodes) ∙ (r.verified).hashed.all ∙ sized_greatest (r.tree).head (r.verified).hashed.sized
    ∙ ap greatest_of (whole_of (opened_decoded (decoding_read wrap r)) entries is).long

-- two directories under one reference
entries_or : (wrap : List ℕ) (root : RootRef) (r s : ReadTree root) (one other : List (Option DirEntry)) → directory_from (Ok (opened_decoded (decoding_read wrap r))) ≡ Ok one
    → directory_from (Ok (opened_decoded (decoding_read wrap s))) ≡ Ok other → (other ≡ one) ⊎ Clash every_block (decoding_read wrap r) (decoding_read wrap s)
entries_or wrap root r s one other is is_too = elim (read_or wrap root r s) [
  | inr clash ↦ inr clash
  | inl agree ↦ inl (entries_same (opened_decoded (decoding_read wrap r)) (opened_decoded (decoding_read wrap s)) one other agree (eight_pages wrap root r one is) is is_too)
]

root_same : (r s : RootRef) → (let x : Result RootRef Refusal = Ok r in x) ≡ Ok s → r ≡ s
root_same r s is = cc (is)

module _ (keys : Keys) (block : List ℕ) where
  -- under one block the references are one
  same_root : (one other : SeenStore keys block) → other.root ≡ one.root
  same_root one other = root_same other.root one.root (sym other.named ∙ one.named)

  abbrev Says : (root : RootRef) → ReadTree root → (one more : List (Option DirEntry)) → RootRef → Type 0
  Says root r one more x = (t : ReadTree x) → directory_from (Ok (opened_decoded (decoding_read (directory_key keys) t))) ≡ Ok more
      → (more ≡ one) ⊎ Clash every_block (decoding_read (directory_key keys) r) (decoding_read (directory_key keys) t)

  by_root : (root other : RootRef) → other ≡ root → (r : ReadTree root) (s : ReadTree other) (one more : List (Option DirEntry))
      → directory_from (Ok (opened_decoded (decoding_read (directory_key keys) r))) ≡ Ok one → directory_from (Ok (opened_decoded (decoding_read (directory_key keys) s))) ≡ Ok more
      → (more ≡ one) ⊎ Clash every_block (decoding_read (directory_key keys) r) (decoding_read (directory_key keys) s)
  by_root root other same r s one more is is_too =
      subst (λ (x : RootRef). Says root r one more x) (sym same) (λ t there. entries_or (directory_key keys) root r t one more is there) s is_too

  pub directories_or : (one other : SeenStore keys block) → (other.entries ≡ one.entries) ⊎ DirectoryClash one other
  directories_or one other = by_root one.root other.root (same_root one other) one.dir other.dir one.entries other.entries one.reads other.reads

  pub stores_or : (one other : SeenStore keys block) → MapsAgree (map_seen one) (map_seen other) ⊎ StoreClash one other
  stores_or one other = elim (directories_or one other) [
    | inr clash ↦ inr (inl clash)
    | inl same ↦ elim (by_entries same) [
      | inr clash ↦ inr clash
      | inl agree ↦ inl (subst (λ (l : List (Option DirEntry)). MapsAgree (map_seen one) (objects_read keys other.trees l)) (sym same) agree)
    ]
  ]
    where
      by_entries : other.entries ≡ one.entries → MapsAgree (objects_read keys one.trees one.entries) (objects_read keys other.trees one.entries) ⊎ StoreClash one other
      by_entries same = maps_or (StoreClash one other) (λ e. object_read keys e (one.trees e)) (λ e. object_read keys e (other.trees e)) one.entries (λ index e at. elim (object_or keys e (one.trees e) (other.trees e)) [
        | inl agree ↦ inl agree
        | inr c ↦ inr (inr (record {
          index = index;
          entry = e;
          at = at;
          at_other = ap (λ (l : List (Option DirEntry)). entry_at l index) same ∙ at;
          first = c.first;
          is_first = c.is_first;
          second = c.second;
          is_second = c.is_second;
          clash = c.clash;
        }))
      ])

pub directories_agree : SeenDirectoriesAgree
directories_agree keys block one other = directories_or keys block one other

pub stores_agree : SeenStoresAgree
stores_agree keys block one other = stores_or keys block one other
