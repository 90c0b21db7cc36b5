-- The objects that entries name are a map of objects.
use Rattle.std.proofs.Common.{◌≡◌, ◌+◌, ◌-◌, ◌/◌, ◌%◌, ◌<◌, ◌≤◌, ◌==◌, ℕ, zero, suc, Bool, true, false, cond, List, [], ◌∷◌, length, take, filter, slice_index, Option, Some, None, is_none, is_some, Result, Ok, Err, inl, inr, refl, sym, ap, ◌∙◌, subst, arith}
use Rattle.std.specs.Prelude.{count_by}
use Rattle.std.specs.List.{All, AllByRecursion, range_with_len}
use Rattle.std.specs.List.Sorted.{IsStrictlySortedBy}
use Rattle.std.specs.Ordering.{match_ordering, nat_cmp}
use Rattle.std.specs.declared.cmp.Ordering.TheVariants.{Less, Equal, Greater}
use Rattle.std.specs.BTreeMap.{insert_entry}
use Rattle.std.proofs.lemmas.Bool.{and_parts, cases_Bool, cases_lt, cond-false, cond-true, eqb-true, lt-ltb}
use Rattle.std.proofs.lemmas.List.{get_or_default, get_or_past, length-take}
use Rattle.std.proofs.lemmas.List.Elements.{All-cons, All-head, All-nil, All-tail}
use Rattle.std.proofs.lemmas.List.FromFn.{get_or-map-range_with_len, length-map-range_with_len}
use Rattle.std.proofs.lemmas.List.Sums.{count_by-le-length}
use Rattle.std.proofs.lemmas.List.Kept.{IsStrictlySortedBy-filter}
use Rattle.tee_types.specs.Identifier.{IsIdentifier}
use Rattle.tee_types.specs.Limits.{most_attribute_bytes, most_data_bytes}
use Rattle.disk_model.specs.State.{FileState, Sound}
use Rattle.aes_block.specs.State.{IsBytes}
use Rattle.aes_block.specs.WrappedKey.{unwrapped_of}
use Rattle.node_image.specs.declared.node.RootRef.{RootRef}
use Rattle.node_image.specs.Layout.{greatest_of}
use Rattle.node_image.specs.Selection.{bytes_at, row}
use Rattle.node_image.proofs.Matching.{length-row, row_at}
use Rattle.node_image.specs.Tables.{at_node}
use Rattle.page_bytes.specs.Pages.{byte_at, byte_in, bytes_from, page_at}
use Rattle.htree_file.specs.declared.fault.TreeFault.{TreeFault}
use Rattle.htree_file.specs.Opening.{IsVerified, Loaded, load_of}
use Rattle.htree_file.specs.Pages.{block_in, opened_in, page_in}
use Rattle.hmac_keys.specs.declared.Keys.{Keys}
use Rattle.store_model.specs.declared.name.ObjectName.{ObjectName}
use Rattle.store_model.specs.Name.{name_cmp}
use Rattle.store_model.specs.Object.{Damaged, Object, ObjectMap, block_end, block_start}
use Rattle.store_model.specs.Sound.{AreContents, IsBadBlock, IsObject, IsObjectMap}
use Rattle.dir_records.specs.declared.entry.DirEntry.{DirEntry}
use Rattle.dir_records.specs.Form.{HasForm}
use Rattle.crash_core.specs.DeviceKeys.{object_key}
use Rattle.crash_core.specs.EntryLists.{entry_at}
use Rattle.crash_core.specs.Entries.{name_of}
use Rattle.crash_core.specs.MountedObject.{contents_of, mounted_object, object_in, object_of, object_or_damaged, object_with, root_of}
use Rattle.crash_core.specs.Opening.{opening_map, reads_of}
use Rattle.store_commit.specs.EntryForms.{AreEntriesOf}
use Rattle.core_laws.proofs.Images.{image_real}
use Rattle.object_calls.proofs.OpeningMaps.{opening-rises}
use Rattle.object_calls.specs.Opening.{AreIdentified}
use Rattle.object_calls.proofs.EntryCounting.{length-map_of}
use Rattle.object_calls.proofs.EntriesOf.{distinct_names, form_at}
use Rattle.object_calls.proofs.CipherBytes.{bytes-mapped, bytes-take, hmac_bytes, page_bytes, unwrapped_bytes}

-- bytes, as an object's
all_bytes : (xs : List ℕ) → IsBytes xs → All (λ byte. byte < 256) xs
all_bytes xs each k d within = subst (λ (x : ℕ). x < 256) (get_or_default xs k 0 d within) (each k)

-- the bytes of a part of an image
part_bytes : (image : List ℕ) (at width : ℕ) → IsBytes image → IsBytes (bytes_at image at width)
unfolding bytes_at
part_bytes image at zero each k = omega arith
part_bytes image at (suc n) each zero = each at
part_bytes image at (suc n) each (suc k) = part_bytes image (suc at) n each k

-- THE BAD BLOCKS
above : (low a n : ℕ) → low < a → AllByRecursion (λ (k : ℕ). nat_cmp low k ≡ Less) (range_with_len a n)
above low a zero less = tt
above low a (suc n) less = (cond-true _ Less _ (lt-ltb low a less), above low (a + 1) n (omega (arith, less)))

range-rises : (a n : ℕ) → IsStrictlySortedBy nat_cmp (range_with_len a n)
unfolding IsStrictlySortedBy
range-rises a zero = tt
range-rises a (suc n) = (above a (a + 1) n (omega arith), range-rises (a + 1) n)

all-filtered : (P : ℕ → Type 0) (p : ℕ → Bool) (a n : ℕ) → ((k : ℕ) → a ≤ k → k < a + n → p k ≡ true → P k) → All P (filter p (range_with_len a n))
all-filtered P p a zero each = All-nil P
all-filtered P p a (suc n) each =
    let rest : All P (filter p (range_with_len (a + 1) n)) = all-filtered P p (a + 1) n (λ k from below. each k (omega (arith, from)) (omega (arith, below))) in
    elim (cases_Bool (p a)) [
      | inl stays ↦ subst (All P) (sym (cond-true (p a) (a ∷ filter p (range_with_len (a + 1) n)) (filter p (range_with_len (a + 1) n)) stays))
          (All-cons P a (filter p (range_with_len (a + 1) n)) (each a (omega arith) (omega arith) stays) rest)
      | inr goes ↦ subst (All P) (sym (cond-false (p a) (a ∷ filter p (range_with_len (a + 1) n)) (filter p (range_with_len (a + 1) n)) goes)) rest
    ]

none_of : {X : Type 0} (o : Option X) → is_none o ≡ true → o ≡ None
none_of None is = refl
none_of (Some x) is = absurd (cc (is))

-- PAGES WITH THE BYTES OF AN OBJECT
module _ (pages : List (Option (List ℕ))) (each : (k : ℕ) (page : List ℕ) → page_at pages k ≡ Some page → IsBytes page) (size attributes : ℕ)
    (small : size ≤ most_data_bytes) (few : attributes ≤ most_attribute_bytes) (long : length pages ≡ greatest_of (4096 + size)) where
  byte_lt : (p : ℕ) → byte_at (page_at pages) p < 256
  byte_lt p = by_page (page_at pages (p / 4096)) refl
    where
      by_page : (o : Option (List ℕ)) → page_at pages (p / 4096) ≡ o → byte_in o (p % 4096) < 256
      by_page None is = omega arith
      by_page (Some page) is = each (p / 4096) page is (p % 4096)

  abbrev bytes : List ℕ
  bytes = bytes_from (page_at pages) 4096 size

  length-bytes : length bytes ≡ size
  length-bytes = length-map-range_with_len (byte_at (page_at pages)) 4096 size

  bad_zero : (k place : ℕ) → page_at pages k ≡ None → 1 ≤ k → block_start k ≤ place → place < block_end k → slice_index bytes place ≡ 0
  bad_zero k place bad least from below = elim (cases_lt place size) [
    | inl within ↦
        let block : (4096 + place) / 4096 ≡ k = omega (arith, least, from, below) in
        get_or-map-range_with_len (byte_at (page_at pages)) 4096 size place (4096 + place) 0 within refl
        ∙ ap (λ (n : ℕ). byte_in (page_at pages n) ((4096 + place) % 4096)) block
        ∙ ap (λ (o : Option (List ℕ)). byte_in o ((4096 + place) % 4096)) bad
    | inr past ↦ get_or_past bytes place 0 (omega (arith, length-bytes, past))
  ]

  is_bad : (k : ℕ) → 1 ≤ k → k < 1 + (length pages - 1) → is_none (page_at pages k) ≡ true → IsBadBlock bytes k
  is_bad k least below none = record {
    numbered = least;
    within = omega (arith, length-bytes, long, least, below);
    zero = λ place from before. bad_zero k place (none_of (page_at pages k) none) least from before;
  }

  contents_sound : (page : List ℕ) → page_at pages 0 ≡ Some page → AreContents (contents_of size attributes pages page)
  contents_sound page first = record {
    attributes = all_bytes (take attributes page) (bytes-take attributes page (each 0 page first));
    attributes_fit = omega (arith, length-take attributes page, few);
    bytes = all_bytes bytes (bytes-mapped (byte_at (page_at pages)) 4096 size byte_lt);
    bytes_fit = omega (arith, length-bytes, small);
    bad_rising = IsStrictlySortedBy-filter nat_cmp (λ k. is_none (page_at pages k)) (range_with_len 1 (length pages - 1)) (range-rises 1 (length pages - 1));
    bad = all-filtered (IsBadBlock bytes) (λ k. is_none (page_at pages k)) 1 (length pages - 1) is_bad;
  }

  with_sound : IsObject (object_with size attributes pages (page_at pages 0))
  with_sound = by_first (page_at pages 0) refl
    where
      by_first : (o : Option (List ℕ)) → page_at pages 0 ≡ o → IsObject (object_with size attributes pages o)
      by_first None is = small
      by_first (Some page) is = contents_sound page is

-- THE OBJECT OF AN ENTRY
module _ (keys : Keys) (app image : List ℕ) (read : IsBytes image) (root : RootRef) (size attributes : ℕ) (small : size ≤ most_data_bytes) (few : attributes ≤ most_attribute_bytes) where
  abbrev tsk : List ℕ
  tsk = object_key keys app

  module _ (tree : Loaded) (loads : load_of image root ≡ Ok tree) where
    abbrev key : List ℕ
    key = unwrapped_of tsk tree.head.wrapped

    abbrev count : ℕ
    count = length tree.nodes

    abbrev pages : List (Option (List ℕ))
    pages = row (page_in image key tree) count

    verified : IsVerified root tree
    verified = (image_real keys image root app size attributes read).verified tree loads

    each_page : (k : ℕ) (page : List ℕ) → page_at pages k ≡ Some page → IsBytes page
    each_page k page is = elim (cases_lt k count) [
      | inl within ↦
          page_bytes key tree.head (at_node tree.nodes (k + 1)) k (block_in image tree k) page (unwrapped_bytes tsk tree.head.wrapped (hmac_bytes _ app))
          (part_bytes image _ _ read) (sym (row_at (page_in image key tree) count k None within) ∙ is)
      | inr past ↦ absurd (cc (sym (get_or_past pages k None (omega (arith, length-row (page_in image key tree) count, past))) ∙ is))
    ]

    long : tree.head.length ≡ 4096 + size → length pages ≡ greatest_of (4096 + size)
    long is =
        let sized = and_parts _ (tree.head.greatest == greatest_of tree.head.length) verified.hashed.sized in
        length-row (page_in image key tree) count ∙ verified.hashed.all ∙ eqb-true tree.head.greatest (greatest_of tree.head.length) sized.1 ∙ ap greatest_of is

    opened_sound : IsObject (object_of size attributes (record { bytes = tree.head.length; pages = pages }))
    opened_sound = by_length (tree.head.length == 4096 + size) refl
      where
        by_length : (b : Bool) → (tree.head.length == 4096 + size) ≡ b → IsObject (cond b (object_with size attributes pages (page_at pages 0)) (Damaged size))
        by_length true is = with_sound pages each_page size attributes small few (long (eqb-true tree.head.length (4096 + size) is))
        by_length false is = small

  object_sound : IsObject (object_in tsk image root size attributes)
  object_sound = by_load (load_of image root) refl
    where
      by_load : (r : Result Loaded TreeFault) → load_of image root ≡ r → IsObject (object_or_damaged size attributes (opened_in image tsk r))
      by_load (Err fault) is = small
      by_load (Ok tree) is = opened_sound tree is

-- THE MAP
all-with : (P : ObjectName × Object → Type 0) (name : ObjectName) (x : Object) (m : ObjectMap) → P (name, x) → ((e : ObjectName × Object) → name_cmp name e.0 ≡ Equal → P e → P (e.0, x)) → All P m
    → All P (insert_entry name_cmp m name x)
all-with P name x [] here kept all = All-cons P (name, x) [] here (All-nil P)
all-with P name x (e ∷ m) here kept all = (elim (name_cmp name e.0) as (λ o. name_cmp name e.0 ≡ o → All P (match_ordering o ((name, x) ∷ e ∷ m) ((e.0, x) ∷ m) (e ∷ insert_entry name_cmp m name x))) [
  | Less ↦ λ h. All-cons P (name, x) (e ∷ m) here all
  | Equal ↦ λ h. All-cons P (e.0, x) m (kept e h (All-head P e m all)) (All-tail P e m all)
  | Greater ↦ λ h. All-cons P e (insert_entry name_cmp m name x) (All-head P e m all) (all-with P name x m here kept (All-tail P e m all))
]) refl

module _ (keys : Keys) (files : ℕ → FileState) (sound : (file : ℕ) → Sound (files file)) where
  abbrev HaveForms : List (Option DirEntry) → Type 0
  HaveForms entries = (index : ℕ) (e : DirEntry) → entry_at entries index ≡ Some e → HasForm e

  abbrev object_for : DirEntry → Object
  object_for e = mounted_object (object_key keys e.app) (files e.file).reads e

  entry_sound : (e : DirEntry) → HasForm e → IsObject (object_for e)
  entry_sound e form = object_sound keys e.app (files e.file).reads (sound e.file).reads (root_of e) e.size e.attributes form.size form.attributes

  all_named : (entries : List (Option DirEntry)) → AreIdentified entries → All (λ (e : ObjectName × Object). IsIdentifier (e.0).id) (opening_map keys files entries)
  all_named [] named = All-nil (λ (e : ObjectName × Object). IsIdentifier (e.0).id)
  all_named (None ∷ entries) named = all_named entries (λ index e at. named (suc index) e at)
  all_named (Some x ∷ entries) named =
      all-with (λ (e : ObjectName × Object). IsIdentifier (e.0).id) (name_of x) (object_for x) (opening_map keys files entries) (named 0 x refl) (λ e same h. h)
      (all_named entries (λ index e at. named (suc index) e at))

  all_sound : (entries : List (Option DirEntry)) → HaveForms entries → All (λ (e : ObjectName × Object). IsObject e.1) (opening_map keys files entries)
  all_sound [] forms = All-nil (λ (e : ObjectName × Object). IsObject e.1)
  all_sound (None ∷ entries) forms = all_sound entries (λ index e at. forms (suc index) e at)
  all_sound (Some x ∷ entries) forms =
      all-with (λ (e : ObjectName × Object). IsObject e.1) (name_of x) (object_for x) (opening_map keys files entries) (entry_sound x (forms 0 x refl)) (λ e same h. entry_sound x (forms 0 x refl))
      (all_sound entries (λ index e at. forms (suc index) e at))

  map_sound : (entries : List (Option DirEntry)) → length (opening_map keys files entries) ≤ 256 → HaveForms entries → AreIdentified entries
      → IsObjectMap (opening_map keys files entries)
  map_sound entries few forms named = record {
    few = few;
    rising = opening-rises keys files entries;
    named = all_named entries named;
    sound = all_sound entries forms;
  }

-- it has an object for each entry
opening_few : (keys : Keys) (files : ℕ → FileState) (entries : List (Option DirEntry)) → AreEntriesOf entries → length (opening_map keys files entries) ≤ 256
opening_few keys files entries is =
    let count : length (opening_map keys files entries) ≡ count_by is_some entries = length-map_of keys (reads_of files) entries (distinct_names entries is) in
    omega (arith, count, count_by-le-length is_some entries, is.whole)

-- So the objects of a directory's entries are a map, in files that are sound.
pub opening_sound : (keys : Keys) (files : ℕ → FileState) → ((file : ℕ) → Sound (files file)) → (entries : List (Option DirEntry)) → AreEntriesOf entries → AreIdentified entries
    → IsObjectMap (opening_map keys files entries)
opening_sound keys files sound entries are identified = map_sound keys files sound entries (opening_few keys files entries are) (form_at entries are) identified
