-- Blocks that a change needs, read one after the other.
use Rattle.std.proofs.Common.{◌≡◌, ◌∙◌, ℕ, ◌+◌, ◌<◌, ◌≤◌, List, true, Err, inl, inr, sym, subst, arith}
use Rattle.std.proofs.lemmas.Bool.{cases_lt, false≢true}
use Rattle.disk_model.specs.State.{FileState}
use Rattle.disk_model.specs.Calls.{Rests}
use Rattle.disk_model.specs.Keeps.{Keeps}
use Rattle.htree_file.specs.declared.fault.TreeFault.{TreeFault}
use Rattle.htree_file.specs.declared.fault.TreeFault.TheVariants.{BadHead, BadTag, Damaged, Failed, NoEntropy, NoMemory, Short}
use Rattle.htree_file.specs.Opening.{Loaded}
use Rattle.htree_file.specs.Selected.{Lies}
use Rattle.page_bytes.specs.declared.range.ByteRange.{ByteRange}
use Rattle.page_bytes.specs.Ranges.{end_block, first_block, needs}
use Rattle.page_bytes.proofs.Content.{not-meets-before, not-meets-behind}
use Rattle.block_file.specs.NewPages.{NeededAnswer}
use Rattle.block_file.specs.Reads.{BlocksAnswer, IsPage, IsReadFault, WasRead}
use Rattle.block_file.proofs.Reading.{page_then, was_first}
use Rattle.block_file.proofs.StageRewrites.{needed_met}

module _ (key : List ℕ) (tree : Loaded) (r : ByteRange) (a b c : FileState) (keeps : Keeps (Lies tree.layout tree.nodes 0) b c) (k : ℕ) (before : (j : ℕ) → j < k → needs r j ≡ true → WasRead key tree a b j) where
  -- one block more was read, if it is needed
  pub check_step : (page : List ℕ) → Rests a b → (needs r k ≡ true → IsPage key tree b c k page) → (j : ℕ) → j < k + 1 → needs r j ≡ true → WasRead key tree a c j
  check_step page rests read j lt needed = elim (cases_lt j k) [
    | inl low ↦ was_first key tree a b c j keeps (before j low needed)
    | inr high ↦ let same : k ≡ j = omega arith in
        subst (WasRead key tree a c) same (page, page_then key tree a b c k page rests keeps.goes_on (read (subst (λ (n : ℕ). needs r n ≡ true) (sym same) needed)))
  ]

  -- the block is bad, or the file failed
  pub check_stop : (page : List ℕ) (A B : Type 0) (e : TreeFault) → NeededAnswer key tree b c r k {A = A} (Err e) page → BlocksAnswer key tree a c (needs r) {A = B} (Err e)
  check_stop page A B (BadTag bad want found) answer = rw (answer.1) (record {
    is_asked = answer.0;
    earlier = λ j lt needed. was_first key tree a b c j keeps (before j lt needed);
    bad = answer.2;
  })
  check_stop page A B (Failed count) answer = tt
  check_stop page A B (BadHead long greatest) answer = absurd answer
  check_stop page A B (Short end need) answer = absurd answer
  check_stop page A B (Damaged n want found) answer = absurd answer
  check_stop page A B (NoEntropy count) answer = absurd answer
  check_stop page A B NoMemory answer = absurd answer

-- nothing else ends such a read
pub needed_fault : (key : List ℕ) (tree : Loaded) (r : ByteRange) (b c : FileState) (k : ℕ) (page : List ℕ) (A : Type 0) (e : TreeFault) → NeededAnswer key tree b c r k {A = A} (Err e) page → IsReadFault e
needed_fault key tree r b c k page A (BadTag bad want found) answer = tt
needed_fault key tree r b c k page A (Failed count) answer = tt
needed_fault key tree r b c k page A (BadHead long greatest) answer = absurd answer
needed_fault key tree r b c k page A (Short end need) answer = absurd answer
needed_fault key tree r b c k page A (Damaged n want found) answer = absurd answer
needed_fault key tree r b c k page A (NoEntropy count) answer = absurd answer
needed_fault key tree r b c k page A NoMemory answer = absurd answer

-- once all blocks that the range meets were looked at, each that it needs was read
pub all_checked : (key : List ℕ) (tree : Loaded) (r : ByteRange) (a b : FileState) (k : ℕ) → end_block r ≤ k → ((j : ℕ) → j < k → needs r j ≡ true → WasRead key tree a b j) → (j : ℕ) → needs r j ≡ true → WasRead key tree a b j
all_checked key tree r a b k past read j needed = elim (cases_lt j k) [
  | inl low ↦ read j low needed
  | inr high ↦ absurd (false≢true (sym (not-meets-behind r j (omega arith)) ∙ needed_met r j needed))
]

-- none stands before the first
pub none_checked : (key : List ℕ) (tree : Loaded) (r : ByteRange) (a b : FileState) (k : ℕ) → k ≡ first_block r → (j : ℕ) → j < k → needs r j ≡ true → WasRead key tree a b j
none_checked key tree r a b k is j lt needed = absurd (false≢true (sym (not-meets-before r j (omega (arith, lt, is))) ∙ needed_met r j needed))
