-- An object that a list shows, beside what a tree under its entry's reference decodes out.
use Rattle.std.proofs.Common.{◌≡◌, ◌⊎◌, inl, inr, ℕ, zero, suc, ◌+◌, ◌-◌, ◌*◌, ◌/◌, ◌%◌, ◌<◌, ◌≤◌, ◌==◌, ◌||◌, min, not, List, [], ◌∷◌, ◌++◌, length, get_or, take, Bool, true, false, true≢false, cond, Option, Some, None, refl, sym, ap, subst, ◌∙◌, arith, length-take}
use Rattle.std.specs.List.{list_any}
use Rattle.std.proofs.lemmas.Bool.{cases_Bool, cases_lt}
use Rattle.std.proofs.lemmas.List.{ext_get_or, get_or-take}
use Rattle.disk_model.specs.State.{FileState}
use Rattle.node_image.specs.Layout.{greatest_of}
use Rattle.node_image.proofs.Matching.{length-row, row_at}
use Rattle.node_image.specs.Tables.{at_node}
use Rattle.htree_file.specs.Pages.{Opened, page_of}
use Rattle.htree_file.proofs.Sizes.{sized_greatest}
use Rattle.page_bytes.specs.Pages.{byte_in, bytes_from, page_at}
use Rattle.page_bytes.specs.Ranges.{meets}
use Rattle.page_bytes.proofs.Content.{get_or-bytes_from, length-bytes_from}
use Rattle.tree_paths.specs.declared.node_set.NodeSet.{NodeSet}
use Rattle.tree_paths.specs.Paths.{holds}
use Rattle.hmac_keys.specs.declared.Keys.{Keys}
use Rattle.store_model.specs.Object.{Contents, Damaged as DamagedObject, Sound as SoundObject}
use Rattle.dir_records.specs.declared.entry.DirEntry.{DirEntry}
use Rattle.dir_records.specs.Form.{HasForm}
use Rattle.crash_core.specs.DeviceKeys.{object_key}
use Rattle.crash_core.specs.MountedObject.{bad_blocks, object_of, object_with, root_of}
use Rattle.core_laws.specs.Decodings.{opened_decoded, page_decoded}
use Rattle.core_laws.specs.Clashes.{Clash}
use Rattle.object_calls.specs.ShownObjects.{IsReadFrom, ShowsBlock, data_blocks}
use Rattle.script_text.specs.BadBlocks.{members_of, passing}
use Rattle.freshness_laws.specs.Readings.{OpenedAgree, ReadTree, every_block, decoding_read}
use Rattle.freshness_laws.specs.Agreement.{ObjectsAgree}
use Rattle.freshness_laws.specs.SeenStores.{object_read}
use Rattle.freshness_laws.proofs.Objects.{damaged_before, not_bad}
use Rattle.freshness_laws.proofs.Pages.{read_or}
use Rattle.run_freshness.specs.Shown.{data_text, front_text, text_at, tree_shown}

-- a number that passes is among those that do
passing-has : (test : ℕ → Bool) (last k : ℕ) → 1 ≤ k → k ≤ last → test k ≡ true → list_any (λ j. j == k) (passing test last) ≡ true
unfolding passing
passing-has test zero k one le is = absurd (omega (arith, one, le))
passing-has test (suc n) k one le is = elim (cases_lt k (suc n)) [
  | inl low ↦ any-left (passing test n) (cond (test (suc n)) (suc n ∷ []) []) (passing-has test n k one (omega (arith, low)) is)
  | inr high ↦
      let e : suc n ≡ k = omega (arith, le, high) in
      any-right (passing test n) (cond (test (suc n)) (suc n ∷ []) []) (subst (λ (b : Bool). list_any (λ j. j == k) (cond b (suc n ∷ []) []) ≡ true) (sym (ap test e ∙ is)) (here e))
]
  where
    any-left : (xs ys : List ℕ) → list_any (λ j. j == k) xs ≡ true → list_any (λ j. j == k) (xs ++ ys) ≡ true
    any-left [] ys found = absurd (true≢false (sym found))
    any-left (x ∷ xs) ys found = elim (cases_Bool (x == k)) [
      | inl hit ↦ ap (λ (b : Bool). b || list_any (λ j. j == k) (xs ++ ys)) hit
      | inr miss ↦
          ap (λ (b : Bool). b || list_any (λ j. j == k) (xs ++ ys)) miss
          ∙ any-left xs ys (sym (ap (λ (b : Bool). b || list_any (λ j. j == k) xs) miss) ∙ found)
    ]

    any-right : (xs ys : List ℕ) → list_any (λ j. j == k) ys ≡ true → list_any (λ j. j == k) (xs ++ ys) ≡ true
    any-right [] ys found = found
    any-right (x ∷ xs) ys found = elim (cases_Bool (x == k)) [
      | inl hit ↦ ap (λ (b : Bool). b || list_any (λ j. j == k) (xs ++ ys)) hit
      | inr miss ↦ ap (λ (b : Bool). b || list_any (λ j. j == k) (xs ++ ys)) miss ∙ any-right xs ys found
    ]

    here : suc n ≡ k → list_any (λ j. j == k) (suc n ∷ []) ≡ true
    here e = grind (arith, e)

-- a front that is not empty meets block 0
front_meets : (n : ℕ) → 0 < n → meets 0 (0 + n) 0 ≡ true
front_meets n some = grind (arith, some)

module _ (keys : Keys) (e : DirEntry) (form : HasForm e) (old new : FileState) (attributes bytes : List ℕ) (bad : NodeSet) (x : IsReadFrom (object_key keys e.app) old new e attributes bytes bad) where
  abbrev wrap : List ℕ
  wrap = object_key keys e.app

  abbrev read : ReadTree (root_of e)
  read = tree_shown x

  abbrev shown : Contents
  shown = record { attributes = attributes; bytes = bytes; bad = members_of bad }

  -- block 0, where it was asked
  front_by : (asked : Bool) (is : meets 0 (0 + e.attributes) 0 ≡ asked) → 0 < e.attributes
      → page_decoded (record { key = (decoding_read wrap read).key; tree = x.tree; block = λ k. front_text x.front asked is }) 0 ≡ Some ((x.front).pages 0)
  front_by true is some = ((x.front).read 0 is).opens
  front_by false is some = absurd (true≢false (sym met ∙ is))
    where
      met : meets 0 (0 + e.attributes) 0 ≡ true
      met = front_meets e.attributes some

  front_good : 0 < e.attributes → page_decoded (decoding_read wrap read) 0 ≡ Some ((x.front).pages 0)
  front_good some = front_by (meets 0 (0 + e.attributes) 0) refl some

  front_long : 0 < e.attributes → length ((x.front).pages 0) ≡ 4096
  front_long some = ((x.front).read 0 met).long
    where
      met : meets 0 (0 + e.attributes) 0 ≡ true
      met = front_meets e.attributes some

  -- a data block that is good
  pub record IsDataPage (k : ℕ) : Type 0 where
    pub page : List ℕ
    pub good : page_decoded (decoding_read wrap read) (suc k) ≡ Some page
    pub are : (i : ℕ) → 4096 * k ≤ i → i < 4096 * (k + 1) → i < e.size → get_or bytes i 0 ≡ get_or page (i - 4096 * k) 0

  abbrev IsPageBy : (k : ℕ) → (text page : List ℕ) → Type 0
  IsPageBy k text page = page_of (decoding_read wrap read).key x.tree.head (at_node x.tree.nodes (k + 1 + 1)) (k + 1) text ≡ Some page

  -- what was read of it
  data_by : (k : ℕ) (good : Bool) (s : ShowsBlock (decoding_read wrap read).key x.tree old new e.size k bytes good) → good ≡ true
      → (page : List ℕ) × IsPageBy k (data_text (decoding_read wrap read).key x.tree old new e.size k bytes good s) page × ((i : ℕ) → 4096 * k ≤ i → i < 4096 * (k + 1) → i < e.size → get_or bytes i 0 ≡ get_or page (i - 4096 * k) 0)
  data_by k true s is = (s.0, (s.1).opens, s.2)
  data_by k false s is = absurd (true≢false (sym is))

  data_at : (k : ℕ) (c : (k < data_blocks e.size) ⊎ (data_blocks e.size ≤ k)) → k < data_blocks e.size → holds bad (k + 1) ≡ false
      → (page : List ℕ) × IsPageBy k (text_at x.data_are k c) page × ((i : ℕ) → 4096 * k ≤ i → i < 4096 * (k + 1) → i < e.size → get_or bytes i 0 ≡ get_or page (i - 4096 * k) 0)
  data_at k (inl lt) low off = data_by k (not (holds bad (k + 1))) ((x.data_are).each k lt) (ap not off)
  data_at k (inr past) low off = absurd (omega (arith, past, low))

  data_good : (k : ℕ) → k < data_blocks e.size → holds bad (k + 1) ≡ false → IsDataPage k
  data_good k low off =
      let d = data_at k (cases_lt k (data_blocks e.size)) low off in
      let n : suc k ≡ k + 1 = omega arith in
      let same : page_decoded (decoding_read wrap read) (suc k) ≡ page_of (decoding_read wrap read).key x.tree.head (at_node x.tree.nodes (k + 1 + 1)) (k + 1) (text_at x.data_are k (cases_lt k (data_blocks e.size))) =
      λ j. page_of (decoding_read wrap read).key x.tree.head (at_node x.tree.nodes (n j + 1)) (n j) (text_at x.data_are k (cases_lt k (data_blocks e.size))) in
      record { page = d.0; good = same ∙ d.1; are = d.2 }

  -- the block of byte p is good where it is not named among the bad
  unnamed : (p : ℕ) → p < e.size → list_any (λ j. j == 1 + p / 4096) (members_of bad) ≡ false → holds bad (p / 4096 + 1) ≡ false
  unnamed p lt off = elim (cases_Bool (holds bad (p / 4096 + 1))) [
    | inr is ↦ is
    | inl is ↦
        let n : p / 4096 + 1 ≡ 1 + p / 4096 = omega arith in
        absurd (true≢false (sym (passing-has (holds bad) 256 (1 + p / 4096) (omega arith) (omega (arith, lt, form.size)) (ap (holds bad) (sym n) ∙ is)) ∙ off))
  ]

  within : (k : ℕ) → 4096 * k < 4096 + e.size → k < length x.tree.nodes
  within k low =
      let many : x.tree.head.greatest ≡ greatest_of x.tree.head.length = sized_greatest x.tree.head x.verified.hashed.sized in
      omega (arith, x.verified.hashed.all, many, x.sized, low)

  at_read : (k : ℕ) (page : List ℕ) → k < length x.tree.nodes → page_decoded (decoding_read wrap read) k ≡ Some page → page_at (opened_decoded (decoding_read wrap read)).pages k ≡ Some page
  at_read k page lt good = row_at (page_decoded (decoding_read wrap read)) (length x.tree.nodes) k None lt ∙ good

  module _ (one : Opened) (agree : OpenedAgree one (opened_decoded (decoding_read wrap read))) where
    same_attributes : (page : List ℕ) → page_at one.pages 0 ≡ Some page → attributes ≡ take e.attributes page
    same_attributes page is = elim (cases_lt 0 e.attributes) [
      | inl some ↦
          let same : (x.front).pages 0 ≡ page = agree.pages 0 page ((x.front).pages 0) is (at_read 0 ((x.front).pages 0) (within 0 (omega arith)) (front_good some)) in
          let long : length page ≡ 4096 = ap length (sym same) ∙ front_long some in
          let few : e.attributes ≤ 2048 = form.attributes in
          ext_get_or 0 attributes (take e.attributes page) (x.all_attributes ∙ (let enough : e.attributes ≡ min e.attributes (length page) = omega (arith, long, few) in enough) ∙ sym (length-take e.attributes page)) (λ i lt.
          let below : i < e.attributes = omega (arith, lt, x.all_attributes) in
          let block : (0 + i) / 4096 ≡ 0 = omega (arith, below, few) in
          let place : (0 + i) % 4096 ≡ i = omega (arith, below, few) in
          (x.front).are i below ∙ (λ j. get_or ((x.front).pages (block j)) (place j) 0)
          ∙ ap (λ (q : List ℕ). get_or q i 0) same ∙ sym (get_or-take e.attributes page i 0 below))
      | inr none ↦
          let zero_count : e.attributes ≡ 0 = omega (arith, none) in
          nothing attributes (x.all_attributes ∙ zero_count) ∙ sym (ap (λ (n : ℕ). take n page) zero_count)
    ]
      where
        nothing : (l : List ℕ) → length l ≡ 0 → l ≡ []
        nothing [] is = refl
        nothing (y ∷ ys) is = absurd (omega (arith, is))

    same_byte : (p : ℕ) → p < e.size → list_any (λ j. j == 1 + p / 4096) (bad_blocks one.pages) ≡ false → list_any (λ j. j == 1 + p / 4096) (members_of bad) ≡ false
        → get_or bytes p 0 ≡ get_or (bytes_from (page_at one.pages) 4096 e.size) p 0
    same_byte p lt good good_too =
        let k : ℕ = p / 4096 in
        let d : IsDataPage k = data_good k (omega (arith, lt)) (unnamed p lt good_too) in
        let here : suc k < length x.tree.nodes = within (suc k) (omega (arith, lt)) in
        let there : page_at (opened_decoded (decoding_read wrap read)).pages (suc k) ≡ Some d.page = at_read (suc k) d.page here d.good in
        let many : length (opened_decoded (decoding_read wrap read)).pages ≡ length x.tree.nodes = length-row (page_decoded (decoding_read wrap read)) (length x.tree.nodes) in
        let known : page_at one.pages (suc k) ≡ Some d.page = by_page (suc k) d.page there (omega (arith, here, many, agree.count)) (omega arith) (let n : suc k ≡ 1 + p / 4096 = omega arith in subst (λ (m : ℕ). list_any (λ j. j == m) (bad_blocks one.pages) ≡ false) (sym n) good) in
        let place : (4096 + p) / 4096 ≡ suc k = omega arith in
        let offset : (4096 + p) % 4096 ≡ p - 4096 * k = omega arith in
        d.are p (omega arith) (omega arith) lt
        ∙ ap (λ (o : Option (List ℕ)). byte_in o (p - 4096 * k)) (sym known)
        ∙ (λ j. byte_in (page_at one.pages (sym place j)) (sym offset j))
        ∙ sym (get_or-bytes_from (page_at one.pages) 4096 e.size p lt)
      where
        by_page : (k : ℕ) (page : List ℕ) → page_at (opened_decoded (decoding_read wrap read)).pages k ≡ Some page → k < length one.pages → 1 ≤ k
            → list_any (λ j. j == k) (bad_blocks one.pages) ≡ false → page_at one.pages k ≡ Some page
        by_page k page there lt least good = by_option (page_at one.pages k) refl
          where
            by_option : (o : Option (List ℕ)) → page_at one.pages k ≡ o → page_at one.pages k ≡ Some page
            by_option None is = absurd (not_bad one k least lt good is)
            by_option (Some q) is = is ∙ ap (λ (l : List ℕ). Some l) (sym (agree.pages k q page is there))

    by_first : (o : Option (List ℕ)) → page_at one.pages 0 ≡ o → ObjectsAgree (object_with e.size e.attributes one.pages o) (SoundObject shown)
    by_first None is = damaged_before e.size (SoundObject shown) (x.data_are).long
    by_first (Some page) is = record {
      size = (x.data_are).long ∙ sym (length-bytes_from (page_at one.pages) 4096 e.size);
      parts = record {
        attributes = same_attributes page is;
        bytes = λ p lt good good_too. same_byte p (omega (arith, lt, length-bytes_from (page_at one.pages) 4096 e.size)) good good_too;
      };
    }

    by_length : (t : Bool) → ObjectsAgree (cond t (object_with e.size e.attributes one.pages (page_at one.pages 0)) (DamagedObject e.size)) (SoundObject shown)
    by_length true = by_first (page_at one.pages 0) refl
    by_length false = damaged_before e.size (SoundObject shown) (x.data_are).long

    pub shown_agrees : ObjectsAgree (object_of e.size e.attributes one) (SoundObject shown)
    shown_agrees = by_length (one.bytes == 4096 + e.size)

  -- what another tree under the entry's reference decodes out agrees with what is shown, or they clash
  pub record ClashesShown (o : Option (ReadTree (root_of e))) : Type 0 where
    pub first : ReadTree (root_of e)
    pub is_first : o ≡ Some first
    pub clash : Clash every_block (decoding_read wrap first) (decoding_read wrap read)

  pub shown_or : (o : Option (ReadTree (root_of e))) → ObjectsAgree (object_read keys e o) (SoundObject shown) ⊎ ClashesShown o
  shown_or None = inl (damaged_before e.size (SoundObject shown) (x.data_are).long)
  shown_or (Some first) = elim (read_or wrap (root_of e) first read) [
    | inl agree ↦ inl (shown_agrees (opened_decoded (decoding_read wrap first)) agree)
    | inr clash ↦ inr (record { first = first; is_first = refl; clash = clash })
  ]
