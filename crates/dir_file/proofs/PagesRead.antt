-- Reading the blocks of a directory's tree.
use Rattle.std.proofs.Common.{◌≡◌, ◌⊎◌, ◌∙◌, ◌+◌, ◌<◌, ◌≤◌, ℕ, zero, suc, List, [], ◌∷◌, ◌++◌, length, min, get_or, Option, Some, None, Result, Ok, Err, is_none, nat_lt, true, false, refl, sym, ap, subst, inl, inr, arith, length-append, add-one}
use Rattle.std.specs.Prelude.{IsTrue}
use Rattle.std.proofs.lemmas.Bool.{cases_eq, cases_lt, cond-true, cond-false, lt-ltb, le-ltb}
use Rattle.std.proofs.lemmas.List.{get_or_append_left, get_or_push}
use Rattle.disk_model.specs.State.{FileState, Sound}
use Rattle.disk_model.specs.Calls.{Rests}
use Rattle.disk_model.proofs.Goings.{first_known}
use Rattle.disk_model.proofs.Seen.{seen_now}
use Rattle.node_image.specs.Tables.{at_node}
use Rattle.node_image.proofs.Matching.{row_at}
use Rattle.htree_file.specs.declared.fault.TreeFault.{TreeFault}
use Rattle.htree_file.specs.declared.fault.TreeFault.TheVariants.{BadHead, BadTag, Damaged, Failed, NoEntropy, NoMemory, Short}
use Rattle.htree_file.specs.Answers.{BlockAnswer, IsOutside}
use Rattle.htree_file.specs.Opening.{Loaded}
use Rattle.htree_file.specs.Pages.{block_in, page_in, page_of, tag_of}
use Rattle.htree_file.specs.Standing.{Told}
use Rattle.htree_file.proofs.Causes.{rests_then}
use Rattle.dir_records.specs.declared.entry.DirEntry.{DirEntry}
use Rattle.crash_core.specs.declared.fault.DirFault.{DirFault}
use Rattle.crash_core.specs.declared.fault.DirFault.TheVariants.{Tree}
use Rattle.crash_core.specs.Directory.{blocks_of, first_bad, or_bad, pages_of, tree_directory}
use Rattle.dir_file.specs.Pages.{ArePages, kept}
use Rattle.dir_file.specs.Refusals.{EntriesDiffer}
use Rattle.dir_file.specs.Pages.{AreSeen, SeesPage}
use Rattle.dir_file.proofs.Seen.{seen_all}
use Rattle.dir_file.specs.Calls.{ReadsBlocks, calls_counted}
use Rattle.disk_model.specs.Arms.{count_call}

kept_length : (items : List (List ℕ)) (k : ℕ) (page : List ℕ) → length items ≡ min 8 k → length (kept items k page) ≡ min 8 (k + 1)
kept_length items k page long = elim (cases_lt k 8) [
  | inl low ↦
      let is : kept items k page ≡ items ++ page ∷ [] = cond-true (nat_lt k 8) (items ++ page ∷ []) items (lt-ltb k 8 low) in
      ap length is ∙ omega (arith, length-append items (page ∷ []), long, low)
  | inr high ↦
      let is : kept items k page ≡ items = cond-false (nat_lt k 8) (items ++ page ∷ []) items (le-ltb k 8 high) in
      ap length is ∙ omega (arith, long, high)
]

kept_before : (items : List (List ℕ)) (k j : ℕ) (page : List ℕ) → length items ≡ min 8 k → j < k → j < 8 → get_or (kept items k page) j [] ≡ get_or items j []
kept_before items k j page long lt few = elim (cases_lt k 8) [
  | inl low ↦
      ap (λ (l : List (List ℕ)). get_or l j []) (cond-true (nat_lt k 8) (items ++ page ∷ []) items (lt-ltb k 8 low))
      ∙ get_or_append_left items (page ∷ []) [] j (omega (arith, long))
  | inr high ↦ ap (λ (l : List (List ℕ)). get_or l j []) (cond-false (nat_lt k 8) (items ++ page ∷ []) items (le-ltb k 8 high))
]

kept_here : (items : List (List ℕ)) (k : ℕ) (page : List ℕ) → length items ≡ min 8 k → k < 8 → get_or (kept items k page) k [] ≡ page
kept_here items k page long low =
    ap (λ (l : List (List ℕ)). get_or l k []) (cond-true (nat_lt k 8) (items ++ page ∷ []) items (lt-ltb k 8 low))
    ∙ get_or_push items page [] k (omega (arith, long))

-- one more block was read
pub pages_step : (image key : List ℕ) (tree : Loaded) (items : List (List ℕ)) (k : ℕ) (page : List ℕ) → length items ≡ min 8 k → ArePages image key tree items k
    → page_in image key tree k ≡ Some page → ArePages image key tree (kept items k page) (k + 1)
pages_step image key tree items k page long are is = record {
  good = λ j lt. elim (cases_lt j k) [
    | inl low ↦ are.good j low
    | inr high ↦ let e : j ≡ k = omega arith in ap (λ (n : ℕ). is_none (page_in image key tree n)) e ∙ ap is_none is
  ];
  pages = λ j lt few. elim (cases_lt j k) [
    | inl low ↦ are.pages j low few ∙ ap (λ (p : List ℕ). let o : Option (List ℕ) = Some p in o) (sym (kept_before items k j page long low few))
    | inr high ↦
        let e : j ≡ k = omega arith in
        ap (page_in image key tree) e ∙ is
        ∙ ap (λ (p : List ℕ). let o : Option (List ℕ) = Some p in o) (sym (ap (λ (n : ℕ). get_or (kept items k page) n []) e ∙ kept_here items k page long (omega arith)))
  ];
}

pub pages_begin : (image key : List ℕ) (tree : Loaded) (items : List (List ℕ)) → ArePages image key tree items 0
pages_begin image key tree items = record { good = λ j lt. absurd (omega arith); pages = λ j lt few. absurd (omega arith) }

-- the page that was read is the one that stands there
read_page : (a b d : FileState) (key : List ℕ) (tree : Loaded) (k : ℕ) (page : List ℕ) → Rests a b → Rests b d → Told a d
    → BlockAnswer key tree.head (at_node tree.nodes (k + 1)) k (λ c. IsTrue d.tells → c ≡ block_in d.reads tree k) (let r : Result (Unit {0}) TreeFault = Ok tt in r) page
    → page_in a.reads key tree k ≡ Some page
read_page a b d key tree k page first second told answer =
    let all = rests_then a b d first second in
    let same : answer.0 ≡ block_in a.reads tree k = answer.1 told.0 ∙ ap (λ (image : List ℕ). block_in image tree k) (all.reads told.1) in
    ap (page_of key tree.head (at_node tree.nodes (k + 1)) k) (sym same) ∙ answer.2

pub read_step : (a b d : FileState) (key : List ℕ) (tree : Loaded) (items : List (List ℕ)) (k : ℕ) (page : List ℕ) → Rests a b → Rests b d
    → length items ≡ min 8 k → (Told a b → ArePages a.reads key tree items k)
    → BlockAnswer key tree.head (at_node tree.nodes (k + 1)) k (λ c. IsTrue d.tells → c ≡ block_in d.reads tree k) (let r : Result (Unit {0}) TreeFault = Ok tt in r) page
    → Told a d → ArePages a.reads key tree (kept items k page) (k + 1)
read_step a b d key tree items k page first second long are answer told =
    let before : Told a b = (subst IsTrue second.goes_on.tells told.0, first_known a b d second.goes_on told.1) in
    pages_step a.reads key tree items k page long (are before) (read_page a b d key tree k page first second told answer)

pub read_long : (items : List (List ℕ)) (k : ℕ) (page : List ℕ) (after : List (List ℕ)) → length items ≡ min 8 k → after ≡ kept items k page → length after ≡ min 8 (k + 1)
read_long items k page after long is = ap length is ∙ kept_length items k page long

-- the first bad page
bad_some : (pages : List (Option (List ℕ))) (k count j : ℕ) → k ≤ j → j < k + count → ((i : ℕ) → k ≤ i → i < j → is_none (get_or pages i None) ≡ false) → is_none (get_or pages j None) ≡ true
    → first_bad pages k count ≡ Some j
unfolding first_bad
bad_some pages k zero j from upto each bad = absurd (omega arith)
bad_some pages k (suc count) j from upto each bad = elim (cases_eq k j) [
  | inl same ↦
      cond-true (is_none (get_or pages k None)) (Some k) (first_bad pages (k + 1) count) (subst (λ (n : ℕ). is_none (get_or pages n None) ≡ true) (sym same) bad)
      ∙ ap (λ (n : ℕ). let o : Option ℕ = Some n in o) same
  | inr other ↦
      cond-false (is_none (get_or pages k None)) (Some k) (first_bad pages (k + 1) count) (each k (omega arith) (omega arith))
      ∙ bad_some pages (k + 1) count j (omega arith) (omega arith) (λ i low high. each i (omega arith) high) bad
]

-- a bad block is what the directory is refused for
directory_bad : (image key : List ℕ) (tree : Loaded) (items : List (List ℕ)) (k : ℕ) (page : List ℕ) → blocks_of tree.head.length ≤ length tree.nodes → k < blocks_of tree.head.length → ArePages image key tree items k
    → page ≡ block_in image tree k → page_of key tree.head (at_node tree.nodes (k + 1)) k page ≡ None
    → tree_directory image key tree ≡ Err (Tree (BadTag k (at_node tree.nodes (k + 1)).tag (tag_of key tree.head (at_node tree.nodes (k + 1)) k page)))
directory_bad image key tree items k page few lt are is bad =
    let pages : List (Option (List ℕ)) = pages_of image key tree in
    let at : (j : ℕ) → j < length tree.nodes → get_or pages j None ≡ page_in image key tree j = λ j low. row_at (page_in image key tree) (length tree.nodes) j None low in
    let none : page_in image key tree k ≡ None = ap (page_of key tree.head (at_node tree.nodes (k + 1)) k) (sym is) ∙ bad in
    ap (or_bad image key tree pages) (bad_some pages 0 (blocks_of tree.head.length) k (omega arith) (omega arith) (λ j from low. ap is_none (at j (omega arith)) ∙ are.good j low) (ap is_none (at k (omega arith) ∙ none)))
    ∙ ap (λ (c : List ℕ). let r : Result (List (Option DirEntry)) DirFault = Err (Tree (BadTag k (at_node tree.nodes (k + 1)).tag (tag_of key tree.head (at_node tree.nodes (k + 1)) k c))) in r) (sym is)

-- what a block that was not read refuses
pub refused_block : (a b d : FileState) (key : List ℕ) (tree : Loaded) (items : List (List ℕ)) (k : ℕ) (page : List ℕ) (fault : TreeFault) → Rests a b → Rests b d
    → blocks_of tree.head.length ≤ length tree.nodes → k < blocks_of tree.head.length → (Told a b → ArePages a.reads key tree items k)
    → BlockAnswer key tree.head (at_node tree.nodes (k + 1)) k (λ c. IsTrue d.tells → c ≡ block_in d.reads tree k) (let r : Result (Unit {0}) TreeFault = Err fault in r) page
    → IsOutside fault ⊎ (Told a d → tree_directory a.reads key tree ≡ Err (Tree fault))
refused_block a b d key tree items k page (Failed count) first second few lt are answer = inl tt
refused_block a b d key tree items k page (BadHead long greatest) first second few lt are answer = absurd answer
refused_block a b d key tree items k page (Short end need) first second few lt are answer = absurd answer
refused_block a b d key tree items k page (Damaged n want found) first second few lt are answer = absurd answer
refused_block a b d key tree items k page (NoEntropy count) first second few lt are answer = absurd answer
refused_block a b d key tree items k page NoMemory first second few lt are answer = absurd answer
refused_block a b d key tree items k page (BadTag bad want found) first second few lt are answer = inr (λ told.
    let all = rests_then a b d first second in
    let before : Told a b = (subst IsTrue second.goes_on.tells told.0, first_known a b d second.goes_on told.1) in
    let is : page ≡ block_in a.reads tree k = answer.0 told.0 ∙ ap (λ (image : List ℕ). block_in image tree k) (all.reads told.1) in
    directory_bad a.reads key tree items k page few lt (are before) is answer.1
    ∙ (λ i. let r : Result (List (Option DirEntry)) DirFault = Err (Tree (BadTag (sym answer.2 i) (sym answer.3 i) (sym answer.4 i))) in r))

-- the pages that are kept were seen
pub seen_begin : (a b : FileState) (key : List ℕ) (tree : Loaded) (items : List (List ℕ)) → items ≡ [] → AreSeen a b key tree items
seen_begin a b key tree items none j lt = absurd (omega (arith, ap length none))

seen_kept : (a d : FileState) (key : List ℕ) (tree : Loaded) (items : List (List ℕ)) (k : ℕ) (page : List ℕ) → length items ≡ min 8 k → AreSeen a d key tree items
    → SeesPage a d key tree k page → AreSeen a d key tree (kept items k page)
seen_kept a d key tree items k page long are seen j lt = elim (cases_lt j (length items)) [
  | inl low ↦ subst (SeesPage a d key tree j) (sym (kept_before items k j page long (omega (arith, long, low)) (omega (arith, long, low)))) (are j low)
  | inr high ↦
      let n : length (kept items k page) ≡ min 8 (k + 1) = kept_length items k page long in
      let e : j ≡ k = omega (arith, n, long, lt, high) in
      let few : k < 8 = omega (arith, n, long, lt, high) in
      subst (λ (m : ℕ). SeesPage a d key tree m (get_or (kept items k page) m [])) (sym e) (subst (SeesPage a d key tree k) (sym (kept_here items k page long few)) seen)
]

pub seen_step : (a b d : FileState) (key : List ℕ) (tree : Loaded) (items : List (List ℕ)) (k : ℕ) (page : List ℕ) → Sound b → Rests a b → Rests b d → length items ≡ min 8 k
    → AreSeen a b key tree items
    → BlockAnswer key tree.head (at_node tree.nodes (k + 1)) k (λ c. IsTrue d.tells → c ≡ block_in d.reads tree k) (let r : Result (Unit {0}) TreeFault = Ok tt in r) page
    → AreSeen a d key tree (kept items k page)
seen_step a b d key tree items k page sound first second long are answer =
    seen_kept a d key tree items k page long (seen_all a b d key tree items sound second are)
    ((answer.0, answer.2), seen_now _ a d (λ image. answer.0 ≡ block_in image tree k) (rests_then a b d first second) answer.1)

-- what a block that was refused says of any file
pub refused_differs : (d : FileState) (key : List ℕ) (tree : Loaded) (k : ℕ) (page : List ℕ) (fault : TreeFault)
    → BlockAnswer key tree.head (at_node tree.nodes (k + 1)) k (λ c. IsTrue d.tells → c ≡ block_in d.reads tree k) (let r : Result (Unit {0}) TreeFault = Err fault in r) page
    → EntriesDiffer key tree d (Tree fault)
refused_differs d key tree k page (Failed count) answer = tt
refused_differs d key tree k page (BadHead long greatest) answer = absurd answer
refused_differs d key tree k page (Short end need) answer = absurd answer
refused_differs d key tree k page (Damaged n want found) answer = absurd answer
refused_differs d key tree k page (NoEntropy count) answer = absurd answer
refused_differs d key tree k page NoMemory answer = absurd answer
refused_differs d key tree k page (BadTag bad want found) answer = record {
  ciphertext = page;
  answer = subst (λ (m : ℕ). BlockAnswer key tree.head (at_node tree.nodes (m + 1)) m (λ c. IsTrue d.tells → c ≡ block_in d.reads tree m) (let r : Result (Unit {0}) TreeFault = Err (BadTag bad want found) in r) page)
      (sym answer.2) answer;
}

-- one call more
pub once_step : (a b d : FileState) (k : ℕ) → Rests a b → ReadsBlocks a b k → (IsTrue b.tells_arms → d.arms ≡ count_call b.arms) → ReadsBlocks a d (k + 1)
unfolding calls_counted
once_step a b d k rests before call told =
    call (subst IsTrue (sym rests.goes_on.tells_arms) told) ∙ ap count_call (before told) ∙ sym (ap (λ (n : ℕ). calls_counted n a.arms) (add-one k))

pub once_none : (a : FileState) → ReadsBlocks a a 0
unfolding calls_counted
once_none a told = refl

-- the tree's two calls come before
pub once_loaded : (a b d : FileState) → Rests a b → (IsTrue a.tells_arms → b.arms ≡ count_call (count_call a.arms)) → ReadsBlocks b d 8 → ReadsBlocks a d 10
unfolding calls_counted
once_loaded a b d rests two eight told = eight (subst IsTrue (sym rests.goes_on.tells_arms) told) ∙ ap (calls_counted 8) (two told)
