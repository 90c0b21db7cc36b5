-- What a certificate says holds in every store that was read under its block, and in every picture.
use Rattle.std.proofs.Common.{◌≡◌, ◌≢◌, ◌⊎◌, inl, inr, ℕ, zero, suc, ◌+◌, ◌*◌, ◌/◌, ◌%◌, ◌<◌, List, [], ◌∷◌, ◌++◌, length, map, get_or, false, Option, Some, None, Result, Ok, Err, refl, sym, ap, subst, ◌∙◌, length-append, arith}
use Rattle.std.specs.Prelude.{slice_set, unwrap_or}
use Rattle.std.specs.Option.{option_map}
use Rattle.std.proofs.lemmas.Bool.{cases_lt, cond-true}
use Rattle.std.proofs.lemmas.List.{get_or_append_left, get_or_push}
use Rattle.byte_fields.specs.Field.{field}
use Rattle.node_image.specs.declared.node.RootRef.{RootRef}
use Rattle.node_image.specs.Layout.{greatest_of, node_of}
use Rattle.node_image.proofs.Matching.{length-row, row_at}
use Rattle.hmac_keys.specs.declared.Keys.{Keys}
use Rattle.htree_file.proofs.Sizes.{sized_greatest}
use Rattle.page_bytes.specs.Pages.{page_at}
use Rattle.std.specs.Ordering.{is_eq}
use Rattle.store_model.specs.Name.{name_cmp}
use Rattle.store_model.specs.Object.{Object, ObjectMap, object_at}
use Rattle.store_model.proofs.MapLaws.{object_at-with}
use Rattle.store_model.proofs.Maps.{at}
use Rattle.dir_records.specs.declared.entry.DirEntry.{DirEntry}
use Rattle.dir_records.specs.declared.entry.BadRecord.{BadRecord}
use Rattle.dir_records.specs.Form.{record_of}
use Rattle.crash_core.specs.declared.fault.DirFault.{DirFault}
use Rattle.crash_core.specs.DeviceKeys.{directory_key, object_key}
use Rattle.crash_core.specs.Directory.{bad_block, directory_pages}
use Rattle.crash_core.specs.Entries.{entries_of, name_of, record_at, with_record}
use Rattle.crash_core.specs.EntryLists.{AreDistinct, entry_at}
use Rattle.crash_core.specs.Holding.{held_at}
use Rattle.crash_core.specs.MountedObject.{root_of}
use Rattle.crash_core.specs.Mounting.{Held, map_of, mounted}
use Rattle.crash_core.specs.Pictures.{Picture, block_zero}
use Rattle.crash_core.specs.Refusal.{Refusal}
use Rattle.crash_core.proofs.Doubles.{directory_distinct, directory_reads}
use Rattle.crash_core.proofs.EntryMaps.{pulled, self}
use Rattle.crash_core.proofs.Lists.{map_at}
use Rattle.core_laws.specs.Decodings.{object_decoded, opened_decoded, page_decoded}
use Rattle.core_laws.specs.Clashes.{Clash}
use Rattle.core_laws.proofs.Mending.{size-object_decoded}
use Rattle.freshness_laws.specs.Readings.{ReadTree, only_block, decoding_read}
use Rattle.freshness_laws.specs.Agreement.{ObjectsAgree}
use Rattle.freshness_laws.specs.SeenStores.{SeenStore, map_seen, object_read}
use Rattle.freshness_laws.specs.Pictures.{AreByteImages, HoldsStore}
use Rattle.freshness_laws.proofs.Objects.{IsWhole, damaged_behind, objects_agree, whole_of}
use Rattle.freshness_laws.proofs.Pages.{page_or, read_or}
use Rattle.freshness_laws.proofs.Pictures.{mounts_by, pictures_hold}
use Rattle.image_audit.specs.Certificate.{CertificateClash, CertificatesHold, CertificatesHoldInStores, ClashesWithPicture, HasListed, IsCertificate, directory_held, directory_tree, index_in, name_listed, object_held, object_listed}
use Rattle.image_audit.specs.declared.fault.Listed.{Listed}

-- A DIRECTORY'S ENTRIES, RECORD BY RECORD
-- of a directory that reads, what stands at a place is what its record holds
module _ (pages : List (Option (List ℕ))) where
  pub record AreRecords (count : ℕ) (entries : List (Option DirEntry)) : Type 0 where
    pub long : length entries ≡ count
    pub each : (i : ℕ) → i < count → record_at pages i ≡ Ok (get_or entries i None)

  pub records_of : (count : ℕ) (entries : List (Option DirEntry)) → entries_of pages count ≡ Ok entries → AreRecords count entries
  unfolding entries_of
  records_of zero entries is = let none : [] ≡ entries = cc (is) in record { long = ap length (sym none); each = λ i lt. absurd (omega (arith, lt)) }
  records_of (suc n) entries is = by_rest (entries_of pages n) refl (λ earlier there. records_of n earlier there) (record_at pages n) refl is
    where
      pushed : (earlier : List (Option DirEntry)) (x : Option DirEntry) → AreRecords n earlier → record_at pages n ≡ Ok x → AreRecords (suc n) (earlier ++ x ∷ [])
      pushed earlier x rest here = record {
        long = length-append earlier (x ∷ []) ∙ omega (arith, rest.long);
        each = λ i lt. elim (cases_lt i n) [
          | inl low ↦ rest.each i low ∙ ap (λ (y : Option DirEntry). Ok y) (sym (get_or_append_left earlier (x ∷ []) None i (omega (arith, low, rest.long))))
          | inr high ↦
              let last : i ≡ n = omega (arith, lt, high) in
              ap (record_at pages) last ∙ here ∙ ap (λ (y : Option DirEntry). Ok y) (sym (get_or_push earlier x None i (rest.long ∙ sym last)))
        ];
      }

      by_rest : (r : Result (List (Option DirEntry)) DirFault) → entries_of pages n ≡ r → ((earlier : List (Option DirEntry)) → entries_of pages n ≡ Ok earlier → AreRecords n earlier)
          → (x : Result (Option DirEntry) BadRecord) → record_at pages n ≡ x → with_record n x r ≡ Ok entries → AreRecords (suc n) entries
      by_rest (Err fault) e again (Ok x) here is = absurd (cc (is))
      by_rest (Err fault) e again (Err bad) here is = absurd (cc (is))
      by_rest (Ok earlier) e again (Err bad) here is = absurd (cc (is))
      by_rest (Ok earlier) e again (Ok x) here is =
          let same : earlier ++ x ∷ [] ≡ entries = cc (is) in
          subst (AreRecords (suc n)) same (pushed earlier x (again earlier e) here)

some_page : (x : Option (List ℕ)) → (x ≡ None → ⊥) → (p : List ℕ) × (x ≡ Some p)
some_page (Some p) some = (p, refl)
some_page None some = absurd (some refl)

root_same : (r s : RootRef) → (let x : Result RootRef Refusal = Ok r in x) ≡ Ok s → r ≡ s
root_same r s is = cc (is)

-- a list of held entries, whose names are distinct, has the object of each under its name
module _ (object : DirEntry → Object) (entries : List (Option DirEntry)) (distinct : AreDistinct entries) where
  abbrev held_with : DirEntry → Held
  held_with x = record { entry = x; object = object x }

  abbrev all_held : List (Option Held)
  all_held = map (option_map (λ x. record { entry = x; object = object x })) entries

  some_held : (o : Option DirEntry) (y : Held) → option_map (λ x. record { entry = x; object = object x }) o ≡ Some y → (f : DirEntry) × (o ≡ Some f) × (y.entry ≡ f)
  some_held None y is = absurd (cc (is))
  some_held (Some f) y is = let same : held_with f ≡ y = cc (is) in (f, refl, ap (λ (h : Held). h.entry) (sym same))

  held_map : (index : ℕ) (e : DirEntry) → entry_at entries index ≡ Some e → object_at (map_of all_held) (name_of e) ≡ Some (object e)
  held_map index e there =
      let here : held_at all_held index ≡ Some (held_with e) = map_at (option_map (λ x. record { entry = x; object = object x })) entries index refl ∙ ap (option_map (λ x. record { entry = x; object = object x })) there in
      ap (λ (m : ObjectMap). object_at m (name_of e)) (pulled all_held index (held_with e) here apart)
      ∙ object_at-with (map_of (slice_set all_held index None)) (name_of e) (name_of e) (object e)
      ∙ cond-true (at (name_of e) (name_of e)) (Some (object e)) (object_at (map_of (slice_set all_held index None)) (name_of e)) (ap is_eq (self (name_of e)))
    where
      apart : (other : ℕ) (y : Held) → other ≢ index → held_at all_held other ≡ Some y → is_eq (name_cmp (name_of e) (name_of y.entry)) ≡ false
      apart other y ne is =
          let f = some_held (get_or entries other None) y (sym (map_at (option_map (λ x. record { entry = x; object = object x })) entries other refl) ∙ is) in
          ap (λ (x : DirEntry). is_eq (name_cmp (name_of e) (name_of x))) f.2 ∙ distinct index e there other f.0 ne f.1

-- THE CERTIFICATE BESIDE A STORE
module _ (keys : Keys) (block bytes : List ℕ) (l : Listed) (c : IsCertificate keys block bytes l) (s : SeenStore keys block) where
  abbrev k : ℕ
  k = index_in bytes / 32

  abbrev wrap : List ℕ
  wrap = directory_key keys

  same_root : s.root ≡ c.root
  same_root = root_same s.root c.root (sym s.named ∙ c.named)

  low : k < 8
  low = omega (arith, c.low)

  whole : IsWhole (opened_decoded (decoding_read wrap s.dir))
  whole = whole_of (opened_decoded (decoding_read wrap s.dir)) s.entries s.reads

  eight : length (s.dir).tree.nodes ≡ 8
  eight = ((s.dir).verified).hashed.all ∙ sized_greatest ((s.dir).tree).head ((s.dir).verified).hashed.sized ∙ ap greatest_of whole.long

  eight_too : length (directory_tree bytes).nodes ≡ 8
  eight_too = length-row (λ n. node_of (field (42 + 66 * n) 66 bytes)) 8

  -- the page of the store's directory
  page : (p : List ℕ) × (page_at (opened_decoded (decoding_read wrap s.dir)).pages k ≡ Some p)
  page = some_page (page_at (opened_decoded (decoding_read wrap s.dir)).pages k) (whole.good k low)

  page_is : page_decoded (decoding_read wrap s.dir) k ≡ Some page.0
  page_is = sym (row_at (page_decoded (decoding_read wrap s.dir)) (length (s.dir).tree.nodes) k None (omega (arith, low, eight))) ∙ page.1

  abbrev Agrees : RootRef → Type 0
  Agrees root = (t : ReadTree root) (another : List ℕ) → page_decoded (decoding_read wrap t) k ≡ Some another
      → (another ≡ c.page) ⊎ Clash (only_block k) (decoding_read wrap (directory_held bytes c.directory)) (decoding_read wrap t)

  by_root : Agrees c.root
  by_root t another there = page_or wrap c.root (directory_held bytes c.directory) t k c.page another (omega (arith, low, eight_too)) c.page_is there

  same_page : (page.0 ≡ c.page) ⊎ Clash (only_block k) (decoding_read wrap (directory_held bytes c.directory)) (decoding_read wrap s.dir)
  same_page = subst Agrees (sym same_root) by_root s.dir page.0 page_is

  records : AreRecords (opened_decoded (decoding_read wrap s.dir)).pages 256 s.entries
  records = records_of (opened_decoded (decoding_read wrap s.dir)).pages 256 s.entries (by_bad (bad_block (opened_decoded (decoding_read wrap s.dir)).bytes (opened_decoded (decoding_read wrap s.dir)).pages) s.reads)
    where
      by_bad : (o : Option ℕ) → directory_pages (opened_decoded (decoding_read wrap s.dir)) o ≡ Ok s.entries → entries_of (opened_decoded (decoding_read wrap s.dir)).pages 256 ≡ Ok s.entries
      by_bad None is = (directory_reads (opened_decoded (decoding_read wrap s.dir)).bytes (opened_decoded (decoding_read wrap s.dir)).pages s.entries is).0
      by_bad (Some bad) is = absurd (cc (is))

  -- the entry stands in the store's directory
  entry_stands : page.0 ≡ c.page → entry_at s.entries (index_in bytes) ≡ Some c.entry
  entry_stands same =
      let held : record_at (opened_decoded (decoding_read wrap s.dir)).pages (index_in bytes) ≡ Ok (entry_at s.entries (index_in bytes)) = records.each (index_in bytes) c.low in
      let read : record_at (opened_decoded (decoding_read wrap s.dir)).pages (index_in bytes) ≡ Ok (Some c.entry) =
      ap (λ (x : Option (List ℕ)). record_of (field (128 * (index_in bytes % 32)) 128 (unwrap_or x []))) (page.1 ∙ ap (λ (p : List ℕ). Some p) same) ∙ c.entry_is in
      let both : ◌≡◌ {A = Result (Option DirEntry) BadRecord} (Ok (entry_at s.entries (index_in bytes))) (Ok (Some c.entry)) = sym held ∙ read in
      cc (both)

  object_or : entry_at s.entries (index_in bytes) ≡ Some c.entry → HasListed l (map_seen s) ⊎ CertificateClash c s
  object_or there = by_tree (s.trees c.entry) refl
    where
      stands : object_at (map_seen s) (name_listed l) ≡ Some (object_read keys c.entry (s.trees c.entry))
      stands = ap (object_at (map_seen s)) c.name
          ∙ held_map (λ e. object_read keys e (s.trees e)) s.entries (directory_distinct s.entries (Ok (opened_decoded (decoding_read wrap s.dir))) s.reads) (index_in bytes) c.entry there

      listed : (o : Object) → ObjectsAgree (object_decoded (c.entry).size (c.entry).attributes (Some (decoding_read (object_key keys (c.entry).app) (object_held bytes c.object)))) o → ObjectsAgree (object_listed l) o
      listed o agree = subst (λ (x : Object). ObjectsAgree x o) c.holds agree

      found : (x : Option (ReadTree (root_of c.entry))) → s.trees c.entry ≡ x → ObjectsAgree (object_listed l) (object_read keys c.entry x) → HasListed l (map_seen s) ⊎ CertificateClash c s
      found x is agree = inl (record { object = object_read keys c.entry x; at = stands ∙ ap (λ (y : Option (ReadTree (root_of c.entry))). Some (object_read keys c.entry y)) is; agrees = agree })

      by_tree : (x : Option (ReadTree (root_of c.entry))) → s.trees c.entry ≡ x → HasListed l (map_seen s) ⊎ CertificateClash c s
      by_tree None is =
          found None is (listed (object_read keys c.entry None) (damaged_behind (c.entry).size (object_decoded (c.entry).size (c.entry).attributes (Some (decoding_read (object_key keys (c.entry).app) (object_held bytes c.object))))
          (size-object_decoded (c.entry).size (c.entry).attributes (Some (decoding_read (object_key keys (c.entry).app) (object_held bytes c.object))))))
      by_tree (Some r) is = elim (read_or (object_key keys (c.entry).app) (root_of c.entry) (object_held bytes c.object) r) [
        | inr clash ↦ inr (inr (record { at = there; read = r; is = is; clash = clash }))
        | inl agree ↦ found (Some r) is (listed (object_read keys c.entry (Some r))
            (objects_agree (opened_decoded (decoding_read (object_key keys (c.entry).app) (object_held bytes c.object))) (opened_decoded (decoding_read (object_key keys (c.entry).app) r)) agree (c.entry).size (c.entry).attributes))
      ]

  pub holds_or : HasListed l (map_seen s) ⊎ CertificateClash c s
  holds_or = elim same_page [
    | inr clash ↦ inr (inl clash)
    | inl same ↦ object_or (entry_stands same)
  ]

pub holds_in_stores : CertificatesHoldInStores
holds_in_stores keys block bytes l c s = holds_or keys block bytes l c s

module _ (keys : Keys) (bytes : List ℕ) (l : Listed) (picture : Picture) (m : ObjectMap) (images : AreByteImages picture.images) (mounts : mounted keys picture ≡ Ok m) where
  own : (c : IsCertificate keys (block_zero picture.card) bytes l) → HasListed l m ⊎ ClashesWithPicture c picture.images
  own c =
      let by = mounts_by keys picture m mounts in
      let h : HoldsStore keys (block_zero picture.card) picture.images by.entries = pictures_hold keys picture by.entries images by.directory in
      elim (holds_or keys (block_zero picture.card) bytes l c h.seen) [
        | inr clash ↦ inr (record { seen = h.seen; held = h.held; clash = clash })
        | inl listed ↦ inl (subst (HasListed l) (sym h.objects_are ∙ by.objects_are) listed)
      ]

  by_block : (block : List ℕ) → block_zero picture.card ≡ block → (c : IsCertificate keys block bytes l) → HasListed l m ⊎ ClashesWithPicture c picture.images
  by_block block same = subst (λ (x : List ℕ). (c : IsCertificate keys x bytes l) → HasListed l m ⊎ ClashesWithPicture c picture.images) same own

pub holds_in_pictures : CertificatesHold
holds_in_pictures keys block bytes l c picture m images same mounts = by_block keys bytes l picture m images mounts block same c
