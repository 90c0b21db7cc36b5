-- Data blocks that are read one by one.
use Rattle.std.proofs.Common.{◌≡◌, ◌∙◌, ◌+◌, ◌-◌, ◌*◌, ◌/◌, ◌%◌, ◌<◌, ◌≤◌, ◌==◌, ◌||◌, min, not, ℕ, Bool, true, false, List, length, get_or, replicate, Some, None, Err, refl, sym, ap, subst, inl, inr, arith, true≢false}
use Rattle.std.proofs.lemmas.Bool.{cases_Bool, cases_eq, cases_lt, eq-eqb, ne_eqb, or_left}
use Rattle.std.proofs.lemmas.List.{get_or-replicate}
use Rattle.disk_model.specs.State.{FileState, Sound}
use Rattle.disk_model.specs.Keeps.{Keeps}
use Rattle.disk_model.specs.Calls.{GoesOn, Rests}
use Rattle.disk_model.proofs.Goings.{first_known}
use Rattle.htree_file.specs.declared.fault.TreeFault.{TreeFault}
use Rattle.htree_file.specs.declared.fault.TreeFault.TheVariants.{BadHead, BadTag, Damaged, Failed, NoEntropy, NoMemory, Short}
use Rattle.htree_file.specs.Opening.{Loaded}
use Rattle.htree_file.specs.Pages.{page_in}
use Rattle.htree_file.specs.Selected.{Lies}
use Rattle.htree_file.specs.Answers.{FaultCause, FileFailed, FilePassed}
use Rattle.tee_ports.specs.declared.failed.Failed.{Failed as Failure}
use Rattle.htree_file.proofs.Causes.{fault_then, passed_none, passed_then, rests_none, rests_then, told_then}
use Rattle.object_file.specs.Value.{ObjectValue, size_in}
use Rattle.page_bytes.specs.Ranges.{meets}
use Rattle.page_bytes.proofs.Laying.{byte-put}
use Rattle.block_file.specs.Reads.{AreReadBytes, BlocksAnswer, IsReadFault}
use Rattle.block_file.proofs.Reading.{bad_stands, page_first, page_then, rests_keep, told_first}
use Rattle.tree_paths.specs.declared.node_set.NodeSet.{NodeSet}
use Rattle.tree_paths.specs.Paths.{holds}
use Rattle.object_calls.specs.ObjectReads.{ShowsNext, ShowsPart, failure_in}
use Rattle.object_calls.specs.ShownObjects.{ShowsBlock, ShowsData}
use borrow.Rule.Slice.PartMut.{put_mid}

-- a failure of the file is told by its count
pub failed_of : (a b : FileState) (fault : TreeFault) (failed : Failure) → failure_in fault ≡ Some failed → FaultCause a b fault → FileFailed a b failed.count
failed_of a b (Failed count) failed is cause = let same : record { count = count } ≡ failed = cc (is) in subst (λ (f : Failure). FileFailed a b f.count) same cause
failed_of a b (BadTag k want found) failed is cause = absurd (cc (is))
failed_of a b (BadHead long greatest) failed is cause = absurd (cc (is))
failed_of a b (Short end need) failed is cause = absurd (cc (is))
failed_of a b (Damaged node want found) failed is cause = absurd (cc (is))
failed_of a b (NoEntropy count) failed is cause = absurd (cc (is))
failed_of a b NoMemory failed is cause = absurd (cc (is))

-- and another fault counted none
pub passed_of : (a b : FileState) (fault : TreeFault) → failure_in fault ≡ None → FaultCause a b fault → FilePassed a b
passed_of a b (Failed count) is cause = absurd (cc (is))
passed_of a b (BadTag k want found) is cause = cause
passed_of a b (BadHead long greatest) is cause = cause
passed_of a b (Short end need) is cause = cause
passed_of a b (Damaged node want found) is cause = cause
passed_of a b (NoEntropy count) is cause = cause
passed_of a b NoMemory is cause = cause

-- block k + 1 of the tree is met by the bytes of data block k
meets_own : (k at n : ℕ) → at ≡ 4096 * k → 0 < n → n ≤ 4096 → meets (4096 + at) (4096 + at + n) (k + 1) ≡ true
meets_own k at n is some few = grind (arith, is, some, few)

-- and no other is
meets_alone : (k at n j : ℕ) → at ≡ 4096 * k → n ≤ 4096 → meets (4096 + at) (4096 + at + n) j ≡ true → j ≡ k + 1
meets_alone k at n j is few met =
    let low : 4096 * j < 4096 + at + n = grind (arith, met) in
    let high : 4096 + at < 4096 * (j + 1) = grind (arith, met) in
    omega (arith, low, high, is, few)

module _ (key : List ℕ) (tree : Loaded) where
  -- a good part
  pub part_good : (a b : FileState) (k at n : ℕ) (into : List ℕ) → at ≡ 4096 * k → 0 < n → n ≤ 4096 → n ≡ length into → AreReadBytes key tree a b (4096 + at) into n → ShowsPart key tree a b k into true
  part_good a b k at n into is some few long bytes = (
    bytes.pages (k + 1),
    bytes.read (k + 1) (meets_own k at n is some few),
    λ i lt.
        let block : (4096 + at + i) / 4096 ≡ k + 1 = omega (arith, is, lt, long, few) in
        let place : (4096 + at + i) % 4096 ≡ i = omega (arith, is, lt, long, few) in
        bytes.are i (omega (arith, lt, long)) ∙ (λ j. get_or (bytes.pages (block j)) (place j) 0),
  )

  -- a bad one, whose bytes were made zero
  pub part_bad : (a b : FileState) (k at n : ℕ) (A : Type 0) (fault : TreeFault) (into : List ℕ) → at ≡ 4096 * k → n ≤ 4096 → Rests a b → failure_in fault ≡ None → IsReadFault fault
      → BlocksAnswer key tree a b (meets (4096 + at) (4096 + at + n)) {A = A} (Err fault) → into ≡ replicate (length into) 0 → ShowsPart key tree a b k into false
  part_bad a b k at n A (BadTag bad want found) into is few rests none kind first zero =
      let same : bad ≡ k + 1 = meets_alone k at n bad is few first.is_asked in (
        λ told. subst (λ (j : ℕ). page_in a.reads key tree j ≡ None) same (bad_stands key tree a b bad want found rests told first.bad),
        λ i lt. ap (λ (l : List ℕ). get_or l i 0) zero ∙ get_or-replicate (length into) i 0 0 lt,
      )
  part_bad a b k at n A (Failed count) into is few rests none kind first zero = absurd (cc (none))
  part_bad a b k at n A (BadHead long greatest) into is few rests none kind first zero = absurd kind
  part_bad a b k at n A (Short end need) into is few rests none kind first zero = absurd kind
  part_bad a b k at n A (Damaged node want found) into is few rests none kind first zero = absurd kind
  part_bad a b k at n A (NoEntropy count) into is few rests none kind first zero = absurd kind
  part_bad a b k at n A NoMemory into is few rests none kind first zero = absurd kind

  -- the part where it belongs
  module _ (a b : FileState) (size k begin count : ℕ) (bytes part : List ℕ) (long : length bytes ≡ size) (own : length part ≡ count) (begins : begin ≡ 4096 * k)
      (counts : count ≡ min (begin + 4096) size - begin) (within : begin < size) where
    byte_in_part : (i : ℕ) → 4096 * k ≤ i → i < 4096 * (k + 1) → i < size → get_or (put_mid begin count bytes part) i 0 ≡ get_or part (i - 4096 * k) 0
    byte_in_part i from upto lt =
        let put = byte-put bytes part begin count i (omega (arith, long, within)) own in
        let ge : begin ≤ i = omega (arith, begins, from) in
        let below : i < begin + count = omega (arith, begins, counts, upto, lt, within) in
        let place : i - begin ≡ i - 4096 * k = ap (λ (n : ℕ). i - n) begins in
        grind (arith, put, ge, below) ∙ ap (λ (n : ℕ). get_or part n 0) place

    pub byte_kept : (i : ℕ) → i < 4096 * k → get_or (put_mid begin count bytes part) i 0 ≡ get_or bytes i 0
    byte_kept i low =
        let put = byte-put bytes part begin count i (omega (arith, long, within)) own in
        let lt : i < begin = omega (arith, begins, low) in
        grind (arith, put, lt)

    pub part_shown : (good : Bool) → ShowsPart key tree a b k part good → ShowsBlock key tree a b size k (put_mid begin count bytes part) good
    part_shown true shows = (shows.0, shows.1, λ i from upto lt. byte_in_part i from upto lt ∙ shows.2 (i - 4096 * k) (omega (arith, from, upto, lt, begins, counts, own, within)))
    part_shown false shows = (shows.0, λ i from upto lt. byte_in_part i from upto lt ∙ shows.1 (i - 4096 * k) (omega (arith, from, upto, lt, begins, counts, own, within)))

  -- IN THE COURSE OF FURTHER CALLS
  block_first : {root : ℕ} (a b c : FileState) (size k : ℕ) (before after : List ℕ) (good : Bool) → Keeps (Lies tree.layout tree.nodes root) b c → ((i : ℕ) → i < 4096 * (k + 1) → get_or after i 0 ≡ get_or before i 0)
      → ShowsBlock key tree a b size k before good → ShowsBlock key tree a c size k after good
  block_first a b c size k before after true keeps kept shows =
      (shows.0, page_first key tree a b c (k + 1) shows.0 keeps shows.1, λ i from upto lt. kept i upto ∙ shows.2 i from upto lt)
  block_first a b c size k before after false keeps kept shows =
      (λ told. shows.0 (told_first a b c keeps.goes_on told), λ i from upto lt. kept i upto ∙ shows.1 i from upto lt)

  block_then : (a b c : FileState) (size k : ℕ) (bytes : List ℕ) (good : Bool) → Rests a b → GoesOn b c → ShowsBlock key tree b c size k bytes good → ShowsBlock key tree a c size k bytes good
  block_then a b c size k bytes true rests goes shows = (shows.0, page_then key tree a b c (k + 1) shows.0 rests goes shows.1, shows.2)
  block_then a b c size k bytes false rests goes shows =
      (λ told. ap (λ (image : List ℕ). page_in image key tree (k + 1)) (sym (rests.reads (first_known a b c goes told.1))) ∙ shows.0 (told_then a b c rests.goes_on told), shows.1)

  pub data_none : (a : FileState) (size : ℕ) (bytes : List ℕ) (bad : NodeSet) → length bytes ≡ size → ((n : ℕ) → holds bad n ≡ false) → ShowsData key tree a a size 0 bytes bad
  data_none a size bytes bad long none = record {
    long = long;
    each = λ k lt. absurd (omega (arith, lt));
    others = λ n is. absurd (true≢false (sym is ∙ none n));
  }

  -- one block more
  pub data_step : {root : ℕ} (a b c : FileState) (size k : ℕ) (before after : List ℕ) (was now : NodeSet) → Rests a b → Keeps (Lies tree.layout tree.nodes root) b c → length after ≡ size
      → ShowsData key tree a b size k before was → ShowsNext key tree b c size k before after was now → ShowsData key tree a c size (k + 1) after now
  data_step a b c size k before after was now rests keeps long given next = record {
    long = long;
    each = λ j lt. elim (cases_lt j k) [
      | inl low ↦
          let same : holds now (j + 1) ≡ holds was (j + 1) = next.others (j + 1) (λ e. omega (arith, e, low)) in
          subst (λ (g : Bool). ShowsBlock key tree a c size j after (not g)) (sym same)
          (block_first a b c size j before after (not (holds was (j + 1))) keeps (λ i upto. next.kept i (omega (arith, upto, low))) (given.each j low))
      | inr high ↦
          let same : j ≡ k = omega (arith, lt, high) in
          subst (λ (n : ℕ). ShowsBlock key tree a c size n after (not (holds now (n + 1)))) (sym same)
          (block_then a b c size k after (not (holds now (k + 1))) rests keeps.goes_on next.block)
    ];
    others = λ n is. elim (cases_eq n (k + 1)) [
      | inl same ↦ (omega (arith, same), omega (arith, same))
      | inr other ↦
          let old = given.others n (sym (next.others n other) ∙ is) in
          (old.0, omega (arith, old.1))
    ];
  }

  -- a number that is behind those of the blocks so far
  pub data_fresh : (a b : FileState) (size k : ℕ) (bytes : List ℕ) (bad : NodeSet) → ShowsData key tree a b size k bytes bad → holds bad (k + 1) ≡ false
  data_fresh a b size k bytes bad given = elim (cases_Bool (holds bad (k + 1))) [
    | inl is ↦ absurd (let among = given.others (k + 1) is in omega (arith, among.1))
    | inr none ↦ none
  ]

-- a block is noted where it is bad
pub next_good : (key : List ℕ) (tree : Loaded) (a b : FileState) (size k : ℕ) (before after : List ℕ) (bad : NodeSet) → holds bad (k + 1) ≡ false → ((i : ℕ) → i < 4096 * k → get_or after i 0 ≡ get_or before i 0)
    → ShowsBlock key tree a b size k after true → ShowsNext key tree a b size k before after bad bad
next_good key tree a b size k before after bad fresh kept shows = record {
  block = subst (λ (g : Bool). ShowsBlock key tree a b size k after (not g)) (sym fresh) shows;
  kept = kept;
  others = λ n other. refl;
}

pub next_bad : (key : List ℕ) (tree : Loaded) (a b : FileState) (size k : ℕ) (before after : List ℕ) (was now : NodeSet) → ((i : ℕ) → i < 4096 * k → get_or after i 0 ≡ get_or before i 0)
    → ((m : ℕ) → holds now m ≡ ((m == k + 1) || holds was m)) → ShowsBlock key tree a b size k after false → ShowsNext key tree a b size k before after was now
next_bad key tree a b size k before after was now kept added shows = record {
  block = subst (λ (g : Bool). ShowsBlock key tree a b size k after (not g)) (sym (added (k + 1) ∙ or_left (k + 1 == k + 1) (holds was (k + 1)) (eq-eqb (k + 1) (k + 1) refl))) shows;
  kept = kept;
  others = λ n other. added n ∙ ap (λ (g : Bool). g || holds was n) (ne_eqb n (k + 1) other);
}

-- THE LOOP
-- the first so many data blocks were read
pub record ReadsBlocks {F : Type 0} (state : F → FileState) (old new : ObjectValue F) (count : ℕ) (bytes : List ℕ) (bad : NodeSet) : Type 0 where
  pub same : new ≡ record old { tree = record old.tree { file = new.tree.file } }
  pub rests : Rests (state old.tree.file) (state new.tree.file)
  pub passed : FilePassed (state old.tree.file) (state new.tree.file)
  pub data_are : ShowsData old.tree.key old.tree.tree (state old.tree.file) (state new.tree.file) (size_in old) count bytes bad

pub reads_none : {F : Type 0} (state : F → FileState) (o : ObjectValue F) (bytes : List ℕ) (bad : NodeSet) → length bytes ≡ size_in o → ((n : ℕ) → holds bad n ≡ false) → ReadsBlocks state o o 0 bytes bad
reads_none state o bytes bad long none = record {
  same = refl;
  rests = rests_none (state o.tree.file);
  passed = passed_none (state o.tree.file);
  data_are = data_none o.tree.key o.tree.tree (state o.tree.file) (size_in o) bytes bad long none;
}

module _ {F : Type 0} (state : F → FileState) (o m n : ObjectValue F) (k : ℕ) (before after : List ℕ) (was now : NodeSet) (reads : ReadsBlocks state o m k before was)
    (same : n ≡ record m { tree = record m.tree { file = n.tree.file } }) (rests : Rests (state m.tree.file) (state n.tree.file)) where
  pub reads_same : n ≡ record o { tree = record o.tree { file = n.tree.file } }
  reads_same = same ∙ ap (λ (v : ObjectValue F). record v { tree = record v.tree { file = n.tree.file } }) reads.same

  pub reads_rests : Rests (state o.tree.file) (state n.tree.file)
  reads_rests = rests_then (state o.tree.file) (state m.tree.file) (state n.tree.file) reads.rests rests

  pub reads_failed : (count : ℕ) → FileFailed (state m.tree.file) (state n.tree.file) count → FileFailed (state o.tree.file) (state n.tree.file) count
  reads_failed count failed = fault_then (state o.tree.file) (state m.tree.file) (state n.tree.file) (Failed count) reads.rests.goes_on reads.passed failed

  pub reads_more : Sound (state m.tree.file) → length after ≡ size_in o → FilePassed (state m.tree.file) (state n.tree.file)
      → ShowsNext m.tree.key m.tree.tree (state m.tree.file) (state n.tree.file) (size_in m) k before after was now → ReadsBlocks state o n (k + 1) after now
  reads_more sound long passed next = record {
    same = reads_same;
    rests = reads_rests;
    passed = passed_then (state o.tree.file) (state m.tree.file) (state n.tree.file) reads.passed passed;
    data_are = data_step o.tree.key o.tree.tree (state o.tree.file) (state m.tree.file) (state n.tree.file) (size_in o) k before after was now reads.rests (rests_keep o.tree.tree.layout o.tree.tree.nodes (state m.tree.file) (state n.tree.file) sound rests) long reads.data_are
        (subst (λ (v : ObjectValue F). ShowsNext v.tree.key v.tree.tree (state m.tree.file) (state n.tree.file) (size_in v) k before after was now) reads.same next);
  }
