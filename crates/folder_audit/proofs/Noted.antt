-- Bad blocks that are noted one by one are those of the object.
use Rattle.std.proofs.Common.{◌≡◌, ◌≢◌, ◌∙◌, ◌+◌, ◌-◌, ◌<◌, ◌≤◌, ◌==◌, ◌||◌, ℕ, zero, suc, Bool, true, false, cond, List, [], ◌∷◌, ◌++◌, length, Option, is_none, filter, if◌then◌else◌, refl, sym, ap, inl, inr, arith, append-nil, true≢false}
use Rattle.std.specs.List.{range_with_len}
use Rattle.std.proofs.lemmas.Bool.{cases_Bool, cases_eq, eq-eqb, ne_eqb}
use Rattle.disk_model.specs.State.{FileState}
use Rattle.disk_model.specs.Calls.{Rests}
use Rattle.node_image.specs.Selection.{row}
use Rattle.node_image.specs.Tables.{at_node}
use Rattle.node_image.proofs.Matching.{length-row}
use Rattle.tree_paths.specs.declared.node_set.NodeSet.{NodeSet}
use Rattle.tree_paths.specs.Paths.{holds}
use Rattle.tree_paths.specs.Staged.{count_to}
use Rattle.htree_file.specs.Opening.{Loaded}
use Rattle.htree_file.specs.Pages.{page_in, page_of}
use Rattle.htree_file.specs.Standing.{Told}
use Rattle.htree_file.proofs.Causes.{told_then}
use Rattle.htree_file.proofs.CopyRuns.{told_first}
use Rattle.block_file.specs.Reads.{IsBad, IsPage}
use Rattle.block_file.proofs.Reading.{page_stands}
use Rattle.page_bytes.specs.Pages.{page_at}
use Rattle.object_file.specs.Value.{ObjectValue}
use Rattle.object_file.proofs.ObjectReads.{page_at-pages}
use Rattle.crash_core.specs.MountedObject.{bad_blocks}
use Rattle.script_text.specs.BadBlocks.{is_some_of, members_of, passing}
use Rattle.folder_audit.specs.Objects.{FindsBad, NotesBlock}

module _ (key : List ℕ) (tree : Loaded) where
  -- a block that was read is not noted
  pub good_noted : (a b : FileState) (k : ℕ) (bad : NodeSet) (page : List ℕ) → Rests a b → holds bad k ≡ false → IsPage key tree a b k page → NotesBlock key tree a b k bad bad
  good_noted a b k bad page rests fresh read = record {
    told = λ told.
        fresh ∙ sym (ap is_none (ap (λ (i : List ℕ). page_in i key tree k) (rests.reads told.1) ∙ page_stands key tree a b k page told read));
    others = λ n ne. refl;
  }

  -- one that is bad is
  pub bad_noted : (a b : FileState) (k : ℕ) (was now : NodeSet) (want found : List ℕ) → ((m : ℕ) → holds now m ≡ ((m == k) || holds was m)) → IsBad key tree b k want found → NotesBlock key tree a b k was now
  bad_noted a b k was now want found added bad = record {
    told = λ told.
        added k ∙ ap (λ (t : Bool). t || holds was k) (eq-eqb k k refl)
        ∙ sym (ap is_none (ap (page_of key tree.head (at_node tree.nodes (k + 1)) k) (sym (bad.stands told.0)) ∙ bad.fails));
    others = λ n ne. added n ∙ ap (λ (t : Bool). t || holds was n) (ne_eqb n k ne);
  }

  pub none_noted : (s : FileState) (bad : NodeSet) → ((n : ℕ) → holds bad n ≡ false) → FindsBad key tree s s 1 bad
  none_noted s bad none = record {
    told = λ told k one low. absurd (omega (arith, one, low));
    others = λ n is. absurd (true≢false (sym is ∙ none n));
  }

  -- what is noted so far is not the next
  pub not_yet : (a b : FileState) (count : ℕ) (bad : NodeSet) → FindsBad key tree a b count bad → holds bad count ≡ false
  not_yet a b count bad finds = elim (cases_Bool (holds bad count)) [
    | inl is ↦ absurd (omega (arith, (finds.others count is).1))
    | inr is ↦ is
  ]

  pub more_noted : (a b c : FileState) (k : ℕ) (was now : NodeSet) → 1 ≤ k → Rests a b → Rests b c → FindsBad key tree a b k was → NotesBlock key tree b c k was now → FindsBad key tree a c (k + 1) now
  more_noted a b c k was now from first second finds notes = record {
    told = λ told j one low. elim (cases_eq j k) [
      | inl same ↦ ap (holds now) same ∙ notes.told (told_then a b c first.goes_on told) ∙ ap (λ (i : ℕ). is_none (page_in c.reads key tree i)) (sym same)
      | inr other ↦
          notes.others j other ∙ finds.told (told_first a b c second told) j one (omega arith)
          ∙ ap (λ (i : List ℕ). is_none (page_in i key tree j)) (sym (second.reads (told_then a b c first.goes_on told).1))
    ];
    others = λ n is. elim (cases_eq n k) [
      | inl same ↦ (omega (arith, same, from), omega (arith, same))
      | inr other ↦ let held = finds.others n (sym (notes.others n other) ∙ is) in (held.0, omega (arith, held.1))
    ];
  }

-- an object of which only the file is another, twice
pub same_on : {F : Type 0} (o m n : ObjectValue F) → m ≡ record o { tree = record o.tree { file = m.tree.file } } → n ≡ record m { tree = record m.tree { file = n.tree.file } }
    → n ≡ record o { tree = record o.tree { file = n.tree.file } }
same_on o m n first second = second ∙ (λ i. record (first i) { tree = record (first i).tree { file = n.tree.file } })

-- THE MEMBERS OF A SET
passing-suc : (test : ℕ → Bool) (n : ℕ) → passing test (suc n) ≡ passing test n ++ (if test (suc n) then suc n ∷ [] else [])
unfolding passing
passing-suc test n = refl

passing-zero : (test : ℕ → Bool) → passing test 0 ≡ []
unfolding passing
passing-zero test = refl

count-suc : (test : ℕ → Bool) (n : ℕ) → count_to test (suc n) ≡ count_to test n + cond (test (suc n)) 1 0
unfolding count_to
count-suc test n = refl

count-zero : (test : ℕ → Bool) → count_to test 0 ≡ 0
unfolding count_to
count-zero test = refl

some-after : (xs : List ℕ) (n : ℕ) → is_some_of (xs ++ n ∷ []) ≡ true
some-after [] n = refl
some-after (x ∷ xs) n = refl

-- a set of none has no members
pub none_passing : (test : ℕ → Bool) (n : ℕ) → count_to test n ≡ 0 → passing test n ≡ []
none_passing test zero none = passing-zero test
none_passing test (suc n) none = elim (cases_Bool (test (suc n))) [
  | inl is ↦ absurd (omega (arith, count-suc test n, ap {B = ℕ} (λ (b : Bool). cond b 1 0) is, none))
  | inr is ↦
      passing-suc test n ∙ ap (λ (b : Bool). passing test n ++ (if b then suc n ∷ [] else [])) is ∙ append-nil (passing test n)
      ∙ none_passing test n (omega (arith, count-suc test n, ap {B = ℕ} (λ (b : Bool). cond b 1 0) is, none))
]

-- and none of its numbers passes
none_at : (test : ℕ → Bool) (n k : ℕ) → count_to test n ≡ 0 → 1 ≤ k → k ≤ n → test k ≡ false
none_at test zero k none one low = absurd (omega (arith, one, low))
none_at test (suc n) k none one low = elim (cases_Bool (test (suc n))) [
  | inl is ↦ absurd (omega (arith, count-suc test n, ap {B = ℕ} (λ (b : Bool). cond b 1 0) is, none))
  | inr is ↦ elim (cases_eq k (suc n)) [
    | inl same ↦ ap test same ∙ is
    | inr other ↦ none_at test n k (omega (arith, count-suc test n, none)) one (omega (arith, low, other))
  ]
]

-- and another has some
pub some_passing : (test : ℕ → Bool) (n : ℕ) → count_to test n ≢ 0 → is_some_of (passing test n) ≡ true
some_passing test zero some = absurd (some (count-zero test))
some_passing test (suc n) some = elim (cases_Bool (test (suc n))) [
  | inl is ↦ ap is_some_of (passing-suc test n ∙ ap (λ (b : Bool). passing test n ++ (if b then suc n ∷ [] else [])) is) ∙ some-after (passing test n) (suc n)
  | inr is ↦
      ap is_some_of (passing-suc test n ∙ ap (λ (b : Bool). passing test n ++ (if b then suc n ∷ [] else [])) is ∙ append-nil (passing test n))
      ∙ some_passing test n (λ none. some (omega (arith, count-suc test n, ap {B = ℕ} (λ (b : Bool). cond b 1 0) is, none)))
]

-- a number that passes is one of them
pub passing-some : (test : ℕ → Bool) (n k : ℕ) → test k ≡ true → 1 ≤ k → k ≤ n → is_some_of (passing test n) ≡ true
passing-some test n k is one low = some_passing test n (λ none. true≢false (sym is ∙ none_at test n k none one low))

range-more : (a n : ℕ) → range_with_len a (suc n) ≡ range_with_len a n ++ (a + n) ∷ []
range-more a zero = let e : a ≡ a + 0 = omega arith in ap (λ (k : ℕ). k ∷ []) e
range-more a (suc n) = ap (λ (l : List ℕ). a ∷ l) (range-more (a + 1) n) ∙ (let e : a + 1 + n ≡ a + suc n = omega arith in ap (λ (k : ℕ). a ∷ (range_with_len (a + 1) n ++ k ∷ [])) e)

filter-more : (p : ℕ → Bool) (xs : List ℕ) (x : ℕ) → filter p (xs ++ x ∷ []) ≡ filter p xs ++ (if p x then x ∷ [] else [])
filter-more p [] x = refl
filter-more p (y ∷ xs) x = elim (cases_Bool (p y)) [
  | inl is ↦ grind (arith, is, filter-more p xs x)
  | inr is ↦ grind (arith, is, filter-more p xs x)
]

-- the numbers that pass one test are kept by another that agrees with it
passing-filter : (test p : ℕ → Bool) (n : ℕ) → ((k : ℕ) → 1 ≤ k → k ≤ n → test k ≡ p k) → passing test n ≡ filter p (range_with_len 1 n)
passing-filter test p zero agree = passing-zero test
passing-filter test p (suc n) agree =
    let number : 1 + n ≡ suc n = omega arith in
    passing-suc test n
    ∙ ap (λ (l : List ℕ). l ++ (if test (suc n) then suc n ∷ [] else [])) (passing-filter test p n (λ k one low. agree k one (omega arith)))
    ∙ ap (λ (b : Bool). filter p (range_with_len 1 n) ++ (if b then suc n ∷ [] else [])) (agree (suc n) (omega arith) (omega arith))
    ∙ sym (ap (filter p) (range-more 1 n ∙ ap (λ (k : ℕ). range_with_len 1 n ++ k ∷ []) number) ∙ filter-more p (range_with_len 1 n) (suc n))

-- none passes from a number on
passing-past : (test : ℕ → Bool) (n d : ℕ) → ((k : ℕ) → n < k → test k ≡ false) → passing test (n + d) ≡ passing test n
passing-past test n zero none = let e : n + 0 ≡ n = omega arith in ap (passing test) e
passing-past test n (suc d) none =
    (let e : n + suc d ≡ suc (n + d) = omega arith in ap (passing test) e)
    ∙ passing-suc test (n + d) ∙ ap (λ (b : Bool). passing test (n + d) ++ (if b then suc (n + d) ∷ [] else [])) (none (suc (n + d)) (omega arith))
    ∙ append-nil (passing test (n + d)) ∙ passing-past test n d none

-- The numbers that were noted are those of the bad blocks, where the file is followed.
pub noted_are : (key : List ℕ) (tree : Loaded) (a b : FileState) (bad : NodeSet) → 1 ≤ length tree.nodes → length tree.nodes ≤ 256 → Told a b → FindsBad key tree a b (length tree.nodes) bad
    → members_of bad ≡ bad_blocks (row (page_in b.reads key tree) (length tree.nodes))
noted_are key tree a b bad some few told finds =
    let pages : List (Option (List ℕ)) = row (page_in b.reads key tree) (length tree.nodes) in
    let many : length pages ≡ length tree.nodes = length-row (page_in b.reads key tree) (length tree.nodes) in
    let last : ℕ = length tree.nodes - 1 in
    let whole : 256 ≡ last + (256 - last) = omega (arith, few) in
    let past : (k : ℕ) → last < k → holds bad k ≡ false = λ k high. elim (cases_Bool (holds bad k)) [
      | inl is ↦ absurd (omega (arith, (finds.others k is).1, high))
      | inr is ↦ is
    ] in
    ap (passing (holds bad)) whole ∙ passing-past (holds bad) last (256 - last) past
    ∙ passing-filter (holds bad) (λ k. is_none (page_at pages k)) last
    (λ k one low. finds.told told k one (omega (arith, low, some)) ∙ ap is_none (sym (page_at-pages b.reads key tree k (omega (arith, low, some)))))
    ∙ ap (λ (n : ℕ). filter (λ k. is_none (page_at pages k)) (range_with_len 1 (n - 1))) (sym many)
