-- What a directory holds, entry by entry.
use Rattle.std.proofs.Common.{◌≡◌, ◌∙◌, ◌+◌, ◌<◌, ◌≤◌, ◌==◌, ℕ, zero, suc, List, [], ◌∷◌, ◌++◌, length, get_or, Option, Some, None, Result, Ok, Err, cond, is_none, Bool, true, false, refl, sym, ap, subst, inl, inr, arith, length-append}
use Rattle.std.proofs.lemmas.Bool.{cases_eq, cases_lt, cond-true, cond-false, eq-eqb, ne_eqb}
use Rattle.aes_block.specs.WrappedKey.{unwrapped_of}
use Rattle.node_image.specs.declared.node.RootRef.{RootRef}
use Rattle.node_image.specs.Layout.{greatest_of}
use Rattle.node_image.specs.Selection.{row}
use Rattle.std.proofs.lemmas.List.{get_or_append_left, get_or_push, get_or-map, length-map}
use Rattle.node_image.proofs.Matching.{length-row, row_is}
use Rattle.htree_file.specs.Opening.{Loaded, load_of}
use Rattle.htree_file.specs.Pages.{Opened, opened_in, opened_of, page_in}
use Rattle.htree_file.proofs.Loadings.{loaded_from}
use Rattle.htree_file.proofs.Sizes.{sized_greatest}
use Rattle.crash_core.proofs.Doubles.{like_none as like_found, double_none as double_found}
use Rattle.dir_records.specs.declared.entry.DirEntry.{DirEntry}
use Rattle.dir_records.specs.declared.entry.BadRecord.{BadRecord}
use Rattle.crash_core.specs.declared.fault.DirFault.{DirFault}
use Rattle.crash_core.specs.declared.fault.DirFault.TheVariants.{WrongLength}
use Rattle.dir_file.specs.Pages.{some_pages}
use Rattle.crash_core.specs.Entries.{distinct, double_or, entries_of, first_double, first_like, is_double, or_double, record_at, with_record}
use Rattle.crash_core.specs.Directory.{bad_block, blocks_of, directory_from, directory_in, directory_of, directory_or, directory_pages, first_bad, or_bad, pages_of}

-- the entries that the records are
entries_row : (pages : List (Option (List ℕ))) (entries : List (Option DirEntry)) (n : ℕ) → ((i : ℕ) → i < n → record_at pages i ≡ Ok (get_or entries i None))
    → entries_of pages n ≡ Ok (row (λ i. get_or entries i None) n)
unfolding entries_of
entries_row pages entries zero each = refl
entries_row pages entries (suc n) each =
    ap (λ (p : Result (List (Option DirEntry)) DirFault). with_record n (record_at pages n) p) (entries_row pages entries n (λ i lt. each i (omega arith)))
    ∙ ap (λ (r : Result (Option DirEntry) BadRecord). with_record n r (Ok (row (λ i. get_or entries i None) n))) (each n (omega arith))

pub entries_from : (pages : List (Option (List ℕ))) (entries : List (Option DirEntry)) (n : ℕ) → length entries ≡ n → ((i : ℕ) → i < n → record_at pages i ≡ Ok (get_or entries i None))
    → entries_of pages n ≡ Ok entries
entries_from pages entries n long each = entries_row pages entries n each
    ∙ ap (λ (l : List (Option DirEntry)). let r : Result (List (Option DirEntry)) DirFault = Ok l in r) (row_is (λ i. get_or entries i None) entries n None long (λ i lt. refl))

pub record AreEntries (pages : List (Option (List ℕ))) (entries : List (Option DirEntry)) (n : ℕ) : Type 0 where
  pub long : length entries ≡ n
  pub records : (i : ℕ) → i < n → record_at pages i ≡ Ok (get_or entries i None)

record Parts (r : Result (Option DirEntry) BadRecord) (p : Result (List (Option DirEntry)) DirFault) (entries : List (Option DirEntry)) : Type 0 where
  entry : Option DirEntry
  earlier : List (Option DirEntry)
  read : r ≡ Ok entry
  were : p ≡ Ok earlier
  are : entries ≡ earlier ++ entry ∷ []

parts_of : (i : ℕ) (r : Result (Option DirEntry) BadRecord) (p : Result (List (Option DirEntry)) DirFault) (entries : List (Option DirEntry)) → with_record i r p ≡ Ok entries → Parts r p entries
parts_of i r (Err fault) entries is = absurd (cc (is))
parts_of i (Err bad) (Ok earlier) entries is = absurd (cc (is))
parts_of i (Ok entry) (Ok earlier) entries is =
    let e : earlier ++ entry ∷ [] ≡ entries = cc (is) in record { entry = entry; earlier = earlier; read = refl; were = refl; are = sym e }

pub entries_back : (pages : List (Option (List ℕ))) (n : ℕ) (entries : List (Option DirEntry)) → entries_of pages n ≡ Ok entries → AreEntries pages entries n
unfolding entries_of
entries_back pages zero entries is = let e : [] ≡ entries = cc (is) in record { long = ap length (sym e); records = λ i lt. absurd (omega arith) }
entries_back pages (suc n) entries is =
    let p = parts_of n (record_at pages n) (entries_of pages n) entries is in
    let before = entries_back pages n p.earlier p.were in
    let long : length entries ≡ suc n = ap length p.are ∙ omega (arith, length-append p.earlier (p.entry ∷ []), before.long) in
    record {
      long = long;
      records = λ i lt. elim (cases_lt i n) [
        | inl low ↦ before.records i low
            ∙ ap (λ (e : Option DirEntry). let r : Result (Option DirEntry) BadRecord = Ok e in r) (sym (get_or_append_left p.earlier (p.entry ∷ []) None i (omega (arith, before.long))) ∙ ap (λ (l : List (Option DirEntry)). get_or l i None) (sym p.are))
        | inr high ↦
            let e : i ≡ n = omega arith in
            ap (record_at pages) e ∙ p.read
            ∙ ap (λ (e : Option DirEntry). let r : Result (Option DirEntry) BadRecord = Ok e in r) (sym (get_or_push p.earlier p.entry None i (before.long ∙ sym e)) ∙ ap (λ (l : List (Option DirEntry)). get_or l i None) (sym p.are))
      ];
    }

-- no two are doubles
abbrev pub Distinct : List (Option DirEntry) → (n : ℕ) → Type 0
Distinct entries n = (i : ℕ) → i < n → (j : ℕ) → j < i → is_double (get_or entries j None) (get_or entries i None) ≡ false

like_none : (entries : List (Option DirEntry)) (entry : Option DirEntry) (j count : ℕ) → ((k : ℕ) → j ≤ k → k < j + count → is_double (get_or entries k None) entry ≡ false) → first_like entries entry j count ≡ None
unfolding first_like
like_none entries entry j zero each = refl
like_none entries entry j (suc count) each =
    cond-false (is_double (get_or entries j None) entry) (Some j) (first_like entries entry (j + 1) count) (each j (omega arith) (omega arith))
    ∙ like_none entries entry (j + 1) count (λ k from upto. each k (omega arith) (omega arith))

cond_none : (b : Bool) (j : ℕ) (rest : Option ℕ) → cond b (Some j) rest ≡ None → (b ≡ false) × (rest ≡ None)
cond_none true j rest is = absurd (cc (is))
cond_none false j rest is = (refl, is)

pub double_none : (entries : List (Option DirEntry)) (i count : ℕ) → ((k : ℕ) → i ≤ k → k < i + count → (j : ℕ) → j < k → is_double (get_or entries j None) (get_or entries k None) ≡ false)
    → first_double entries i count ≡ None
unfolding first_double
double_none entries i zero each = refl
double_none entries i (suc count) each =
    ap (λ (o : Option ℕ). double_or i o (first_double entries (i + 1) count)) (like_none entries (get_or entries i None) 0 i (λ k from upto. each i (omega arith) (omega arith) k (omega arith)))
    ∙ double_none entries (i + 1) count (λ k from upto. each k (omega arith) (omega arith))

pub double_back : (entries : List (Option DirEntry)) (count : ℕ) → first_double entries 0 count ≡ None
    → (k : ℕ) → k < count → (j : ℕ) → j < k → is_double (get_or entries j None) (get_or entries k None) ≡ false
double_back entries count is k upto j lt =
    like_found entries (get_or entries k None) 0 k (double_found entries 0 count is k (omega arith) (omega arith)) j (omega arith) (omega arith)

pub bad_none : (pages : List (Option (List ℕ))) (k count : ℕ) → ((j : ℕ) → k ≤ j → j < k + count → is_none (get_or pages j None) ≡ false) → first_bad pages k count ≡ None
unfolding first_bad
bad_none pages k zero each = refl
bad_none pages k (suc count) each =
    cond-false (is_none (get_or pages k None)) (Some k) (first_bad pages (k + 1) count) (each k (omega arith) (omega arith))
    ∙ bad_none pages (k + 1) count (λ j from upto. each j (omega arith) (omega arith))

bad_back : (pages : List (Option (List ℕ))) (k count : ℕ) → first_bad pages k count ≡ None → (j : ℕ) → k ≤ j → j < k + count → is_none (get_or pages j None) ≡ false
unfolding first_bad
bad_back pages k zero is j from upto = absurd (omega arith)
bad_back pages k (suc count) is j from upto =
    let both = cond_none (is_none (get_or pages k None)) k (first_bad pages (k + 1) count) is in
    elim (cases_eq j k) [
      | inl same ↦ subst (λ (m : ℕ). is_none (get_or pages m None) ≡ false) (sym same) both.0
      | inr other ↦ bad_back pages (k + 1) count both.1 j (omega arith) (omega arith)
    ]

-- what a tree opens to that holds these entries
pub record HoldsEntries (opened : Opened) (entries : List (Option DirEntry)) : Type 0 where
  pub bytes : opened.bytes ≡ 32768
  pub blocks : length opened.pages ≡ 8
  pub good : (k : ℕ) → k < 8 → is_none (get_or opened.pages k None) ≡ false
  pub entries_are : AreEntries opened.pages entries 256
  pub distinct_are : Distinct entries 256

distinct_ok : (r : Result (List (Option DirEntry)) DirFault) (entries : List (Option DirEntry)) → distinct r ≡ Ok entries → (r ≡ Ok entries) × (first_double entries 0 (length entries) ≡ None)
distinct_ok (Err fault) entries is = absurd (cc (is))
distinct_ok (Ok found) entries is = by_double (first_double found 0 (length found)) refl is
  where
    by_double : (o : Option (ℕ × ℕ)) → first_double found 0 (length found) ≡ o → or_double found o ≡ Ok entries
        → (let r : Result (List (Option DirEntry)) DirFault = Ok found in r ≡ Ok entries) × (first_double entries 0 (length entries) ≡ None)
    by_double None none ok = let e : found ≡ entries = cc (ok) in (ok, subst (λ (l : List (Option DirEntry)). first_double l 0 (length l) ≡ None) e none)
    by_double (Some (i, first)) some ok = absurd (cc (ok))

-- a directory in the pages of an opened tree
in_ok : (bytes : ℕ) (pages : List (Option (List ℕ))) (entries : List (Option DirEntry)) → directory_in bytes pages ≡ Ok entries
    → (bytes ≡ 32768) × AreEntries pages entries 256 × Distinct entries 256
in_ok bytes pages entries is = elim (cases_eq bytes 32768) [
  | inl same ↦
      let d = distinct_ok (entries_of pages 256) entries (sym (cond-true (bytes == 32768) (distinct (entries_of pages 256)) (Err (WrongLength bytes)) (eq-eqb bytes 32768 same)) ∙ is) in
      let are = entries_back pages 256 entries d.0 in
      (same, are, λ i lt j le. double_back entries (length entries) d.1 i (omega (arith, are.long)) j le)
  | inr other ↦ absurd (cc (sym (cond-false (bytes == 32768) (distinct (entries_of pages 256)) (Err (WrongLength bytes)) (ne_eqb bytes 32768 other)) ∙ is))
]

abbrev opening : (tsk image : List ℕ) → Loaded → Opened
opening tsk image tree = record { bytes = tree.head.length; pages = pages_of image (unwrapped_of tsk tree.head.wrapped) tree }

-- A directory that is read is that of the tree that its reference opens to.
pub directory_opens : (tsk image : List ℕ) (root : RootRef) (tree : Loaded) (entries : List (Option DirEntry)) → load_of image root ≡ Ok tree → directory_of tsk image root ≡ Ok entries
    → (opened : Opened) × (opened_of tsk image root ≡ Ok opened) × HoldsEntries opened entries
unfolding directory_of
directory_opens tsk image root tree entries loads is =
    let key : List ℕ = unwrapped_of tsk tree.head.wrapped in
    let pages : List (Option (List ℕ)) = pages_of image key tree in
    let l = loaded_from image root tree loads in
    let found : or_bad image key tree pages (bad_block tree.head.length pages) ≡ Ok entries = sym (ap (directory_or tsk image) loads) ∙ is in
    let good = by_bad image key tree pages entries (bad_block tree.head.length pages) refl found in
    let ok = in_ok tree.head.length pages entries good.1 in
    let many : length tree.nodes ≡ 8 = l.hashed.all ∙ sized_greatest tree.head l.hashed.sized ∙ ap greatest_of ok.0 in (
      opening tsk image tree,
      ap (opened_in image tsk) loads,
      record {
        bytes = ok.0;
        blocks = length-row (page_in image key tree) (length tree.nodes) ∙ many;
        good = λ k lt. bad_back pages 0 (blocks_of tree.head.length) good.0 k (omega arith) (omega (arith, ok.0));
        entries_are = ok.1;
        distinct_are = ok.2;
      },
    )
  where
    by_bad : (image key : List ℕ) (tree : Loaded) (pages : List (Option (List ℕ))) (entries : List (Option DirEntry)) (o : Option ℕ) → bad_block tree.head.length pages ≡ o → or_bad image key tree pages o ≡ Ok entries
        → (bad_block tree.head.length pages ≡ None) × (directory_in tree.head.length pages ≡ Ok entries)
    by_bad image key tree pages entries None none ok = (none, ok)
    by_bad image key tree pages entries (Some k) some ok = absurd (cc (ok))

-- and back
pub directory_opened : (tsk image : List ℕ) (root : RootRef) (tree : Loaded) (opened : Opened) (entries : List (Option DirEntry)) → load_of image root ≡ Ok tree → opened_of tsk image root ≡ Ok opened
    → HoldsEntries opened entries → directory_of tsk image root ≡ Ok entries
unfolding directory_of
directory_opened tsk image root tree opened entries loads opens holds =
    let key : List ℕ = unwrapped_of tsk tree.head.wrapped in
    let was : opened_in image tsk (Ok tree) ≡ Ok opened = ap (opened_in image tsk) (sym loads) ∙ opens in
    let same : opening tsk image tree ≡ opened = cc (was) in
    let pages : List (Option (List ℕ)) = pages_of image key tree in
    let here : HoldsEntries (opening tsk image tree) entries = subst (λ (o : Opened). HoldsEntries o entries) (sym same) holds in
    ap (directory_or tsk image) loads
    ∙ ap (or_bad image key tree pages) (bad_none pages 0 (blocks_of tree.head.length) (λ j from upto. here.good j (omega (arith, here.bytes))))
    ∙ cond-true (tree.head.length == 32768) (distinct (entries_of pages 256)) (Err (WrongLength tree.head.length)) (eq-eqb tree.head.length 32768 here.bytes)
    ∙ ap distinct (entries_from pages entries 256 here.entries_are.long here.entries_are.records)
    ∙ ap (or_double entries) (double_none entries 0 (length entries) (λ k from upto j lt. here.distinct_are k (omega (arith, here.entries_are.long)) j lt))

-- pages that hold these entries are a directory of them
pub directory_held : (opened : Opened) (entries : List (Option DirEntry)) → HoldsEntries opened entries → directory_from (Ok opened) ≡ Ok entries
directory_held opened entries holds =
    ap (directory_pages opened) (bad_none opened.pages 0 (blocks_of opened.bytes) (λ j from upto. holds.good j (omega (arith, holds.bytes))))
    ∙ cond-true (opened.bytes == 32768) (distinct (entries_of opened.pages 256)) (Err (WrongLength opened.bytes)) (eq-eqb opened.bytes 32768 holds.bytes)
    ∙ ap distinct (entries_from opened.pages entries 256 holds.entries_are.long holds.entries_are.records)
    ∙ ap (or_double entries) (double_none entries 0 (length entries) (λ k from upto j lt. holds.distinct_are k (omega (arith, holds.entries_are.long)) j lt))

-- and back, of eight pages
pub directory_holds : (bytes : ℕ) (items : List (List ℕ)) (entries : List (Option DirEntry)) → length items ≡ 8
    → directory_from (Ok (record { bytes = bytes; pages = some_pages items })) ≡ Ok entries → HoldsEntries (record { bytes = bytes; pages = some_pages items }) entries
directory_holds bytes items entries long is =
    let ok = in_ok bytes (some_pages items) entries (none_bad (bad_block bytes (some_pages items)) is) in
    record {
      bytes = ok.0;
      blocks = length-map items (λ p. Some p) ∙ long;
      good = λ k lt. ap is_none (get_or-map (λ p. Some p) items k [] None (omega (arith, long)));
      entries_are = ok.1;
      distinct_are = ok.2;
    }
  where
    none_bad : (o : Option ℕ) → directory_pages (record { bytes = bytes; pages = some_pages items }) o ≡ Ok entries → directory_in bytes (some_pages items) ≡ Ok entries
    none_bad None ok = ok
    none_bad (Some k) ok = absurd (cc (ok))

-- eight good pages, as a directory of the right length
pub pages_read : (bytes : ℕ) (items : List (List ℕ)) → bytes ≡ 32768 → length items ≡ 8
    → directory_from (Ok (record { bytes = bytes; pages = some_pages items })) ≡ distinct (entries_of (some_pages items) 256)
pages_read bytes items is long =
    let pages : List (Option (List ℕ)) = some_pages items in
    ap (directory_pages (record { bytes = bytes; pages = pages }))
    (bad_none pages 0 (blocks_of bytes) (λ j from upto. ap is_none (get_or-map (λ p. Some p) items j [] None (omega (arith, is, long)))))
    ∙ cond-true (bytes == 32768) (distinct (entries_of pages 256)) (Err (WrongLength bytes)) (eq-eqb bytes 32768 is)

-- a list without doubles, in its forms
pub entries_single : (entries : List (Option DirEntry)) → Distinct entries 256 → first_double entries 0 256 ≡ None
entries_single entries distinct_are = double_none entries 0 256 (λ k from upto j lt. distinct_are k (omega arith) j lt)
