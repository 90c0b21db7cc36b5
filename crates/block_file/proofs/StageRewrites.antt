-- What the stage of a change opens to, by the pages that were made for it.
use Rattle.std.proofs.Common.{◌≡◌, ◌∙◌, inl, inr, ℕ, ◌+◌, ◌-◌, ◌*◌, ◌<◌, ◌≤◌, ◌⊎◌, min, List, length, get_or, Option, None, Some, Result, Ok, Err, true, IfErr, IfSome, IsSome, OnOk, ap, sym, subst, refl, arith}
use Rattle.std.specs.List.{range_with_len}
use Rattle.tree_paths.specs.Staged.{IsWithinBudget}
use Rattle.std.proofs.lemmas.Bool.{cases_lt, false≢true}
use Rattle.aes_block.specs.WrappedKey.{unwrapped_of}
use Rattle.disk_model.specs.State.{FileState}
use Rattle.disk_model.specs.Calls.{GoesOn, Known, Rests}
use Rattle.disk_model.specs.Keeps.{Keeps}
use Rattle.disk_model.proofs.Goings.{first_known, then_known}
use Rattle.htree_file.specs.Value.{Staged}
use Rattle.node_image.specs.declared.node.RootRef.{RootRef}
use Rattle.node_image.specs.Layout.{greatest_of}
use Rattle.node_image.specs.Selection.{row}
use Rattle.node_image.proofs.Matching.{length-row, row_at}
use Rattle.htree_file.specs.declared.fault.TreeFault.{TreeFault}
use Rattle.htree_file.specs.declared.fault.TreeFault.TheVariants.{BadHead, BadTag, Damaged, Failed, NoEntropy, NoMemory, Short}
use Rattle.htree_file.specs.declared.change.BlockChange.{BlockChange}
use Rattle.htree_file.specs.Changes.{AreChanges, OpensAfter, SealsAt, SealsChanges, changed_blocks, opened_after, page_after, page_for}
use Rattle.htree_file.specs.Making.{IsDeviceFault}
use Rattle.htree_file.specs.Opening.{IsVerified, Loaded, load_of}
use Rattle.htree_file.specs.Pages.{Opened, opened_in, page_in}
use Rattle.htree_file.specs.Selected.{Lies}
use Rattle.htree_file.specs.Standing.{Told}
use Rattle.page_bytes.specs.declared.range.ByteRange.{ByteRange}
use Rattle.page_bytes.specs.Pages.{page_at}
use Rattle.page_bytes.specs.Ranges.{end_block, first_block, meets, needs}
use Rattle.page_bytes.proofs.Content.{meets-blocks, not-meets-before, not-meets-behind}
use Rattle.block_file.specs.NewPages.{AreNewPages, IsRewriting, Reaches}
use Rattle.block_file.specs.Reads.{BlocksAnswer, WasRead}
use Rattle.block_file.specs.Stages.{LeavesRewritten, SealsRange, WritesRange, changed_of}
use Rattle.block_file.proofs.ChangeLists.{AreChanges-run, page_for-missed}
use Rattle.block_file.proofs.NewPages.{new_page_first}
use Rattle.block_file.proofs.Reading.{page_first, page_stands, told_first}

-- what follows for a stage holds of the one that is there
pub some_then : (stage : Option Staged) (P Q : Staged → Type 0) → ((s : Staged) → P s → Q s) → IfSome stage P → IfSome stage Q
some_then None P Q then was = tt
some_then (Some s) P Q then was = then s was

-- a block that the range meets stands among its blocks
met_first : (r : ByteRange) (k : ℕ) → meets r.first r.last k ≡ true → first_block r ≤ k
met_first r k met = elim (cases_lt k (first_block r)) [
  | inl below ↦ absurd (false≢true (sym (not-meets-before r k below) ∙ met))
  | inr from ↦ from
]

met_end : (r : ByteRange) (k : ℕ) → meets r.first r.last k ≡ true → k < end_block r
met_end r k met = elim (cases_lt k (end_block r)) [
  | inl below ↦ below
  | inr from ↦ absurd (false≢true (sym (not-meets-behind r k from) ∙ met))
]

-- one that the change needs has old bytes, and stays
pub needed_met : (r : ByteRange) (k : ℕ) → needs r k ≡ true → meets r.first r.last k ≡ true
needed_met r k needed = grind (arith, needed)

needed_old : (r : ByteRange) (k : ℕ) → needs r k ≡ true → 4096 * k < r.size
needed_old r k needed = grind (arith, needed)

pub needed_stays : (r : ByteRange) (size k : ℕ) → Reaches r size → needs r k ≡ true → (first_block r ≤ k) × (k < min (end_block r) (greatest_of size))
needed_stays r size k reaches needed =
    let met = needed_met r k needed in
    let low = met_first r k met in
    let high = met_end r k met in
    let before : 4096 * k < size = elim reaches.ends [
      | inl within ↦ grind (arith, needed, within, reaches.begins)
      | inr past ↦ grind (arith, needed, past, reaches.begins)
    ] in
    (low, omega (arith, high, before))

pub blocks_forward : (r : ByteRange) (size : ℕ) → Reaches r size → first_block r ≤ min (end_block r) (greatest_of size)
blocks_forward r size reaches = elim (cases_lt r.first r.last) [
  | inl some ↦ let begins = reaches.begins in grind (arith, some, begins)
  | inr none ↦ let begins = reaches.begins in grind (arith, none, begins)
]

-- a new block is met
fresh_met : (r : ByteRange) (size k : ℕ) → Reaches r size → r.first ≤ r.size → greatest_of r.size ≤ k → k < greatest_of size → meets r.first r.last k ≡ true
fresh_met r size k reaches within old new =
    let behind : r.size ≤ 4096 * k = omega (arith, old) in
    let some : 1 ≤ k = omega (arith, old) in
    let below : 4096 * k < size = omega (arith, new, some) in
    let covers = reaches.covers in
    grind (arith, behind, below, covers, within)

module _ (key : List ℕ) (tree : Loaded) (r : ByteRange) (at : ℕ) (bytes : List ℕ) (size first upto : ℕ) (a b : FileState) (changes : List BlockChange)
    (reaches : Reaches r size) (within : r.first ≤ r.size) (begins : first ≡ first_block r) (ends : upto ≡ min (end_block r) (greatest_of size))
    (made : AreNewPages key tree a b r at bytes changes first upto) where
  -- the pages that were made are the changes of a stage
  pub AreChanges-made : (before : ℕ) → before ≡ greatest_of r.size → first ≤ upto → AreChanges before (greatest_of size) changes
  AreChanges-made before is forward =
      AreChanges-run before (greatest_of size) changes first (upto - first) made.blocks (inr (omega (arith, forward, ends)))
      (λ k old new.
      let met = fresh_met r size k reaches within (subst (λ (n : ℕ). n ≤ k) is old) new in
      let low = met_first r k met in
      let high = met_end r k met in
      (omega (arith, low, begins), omega (arith, high, new, ends, forward)))
      (λ k low high. let page = made.pages k low (omega arith) in subst (λ (o : Option (List ℕ)). IsSome o) (sym page.1) refl)

  -- a block that the change needs was read before its page was made
  needed_read : {root : ℕ} (c : FileState) → Keeps (Lies tree.layout tree.nodes root) b c → (k : ℕ) → needs r k ≡ true → WasRead key tree a c k
  needed_read c keeps k needed =
      let stays = needed_stays r size k reaches needed in
      let page = made.pages k (omega (arith, stays.0, begins)) (omega (arith, stays.1, ends)) in
      (page.2.over, page_first key tree a b c k page.2.over keeps (page.2.read needed))

  -- those that the change needs were read, also where a draw failed
  pub blocks_read : {root : ℕ} (c : FileState) (A : Type 0) (result : Result A TreeFault) → Keeps (Lies tree.layout tree.nodes root) b c → IfErr result IsDeviceFault → BlocksAnswer key tree a c (needs r) result
  blocks_read c A (Ok done) keeps fault = needed_read c keeps
  blocks_read c A (Err (BadTag bad want found)) keeps fault = absurd fault
  blocks_read c A (Err (Failed count)) keeps fault = tt
  blocks_read c A (Err (BadHead long greatest)) keeps fault = tt
  blocks_read c A (Err (Short end need)) keeps fault = tt
  blocks_read c A (Err (Damaged n want found)) keeps fault = tt
  blocks_read c A (Err (NoEntropy count)) keeps fault = needed_read c keeps
  blocks_read c A (Err NoMemory) keeps fault = tt

  module _ (told : Told a b) (root next : RootRef) (after : List ℕ) (verified : IsVerified root tree) (old_size : r.size ≡ tree.head.length) (many : length tree.nodes ≡ greatest_of r.size)
      (loads : load_of a.reads root ≡ Ok tree) where
    rewriting : (was : Opened) → was.pages ≡ row (page_in a.reads key tree) (length tree.nodes) → IsRewriting r at bytes size was (opened_after was size changes)
    rewriting was pages =
        let f : ℕ → Option (List ℕ) = λ k. page_after (page_for changes k) (get_or was.pages k None) in
        let now_at : (k : ℕ) → k < greatest_of size → page_at (row f (greatest_of size)) k ≡ f k = λ k lt. row_at f (greatest_of size) k None lt in
        record {
          size = refl;
          blocks = length-row f (greatest_of size);
          met = λ k lt met.
              let low = met_first r k met in
              let high = met_end r k met in
              let page = made.pages k (omega (arith, low, begins)) (omega (arith, high, lt, ends)) in
              record {
                over = page.2.over;
                page = page.0;
                needed = λ needed.
                    let old = needed_old r k needed in
                    ap (λ (l : List (Option (List ℕ))). page_at l k) pages
                    ∙ row_at (page_in a.reads key tree) (length tree.nodes) k None (omega (arith, old, many))
                    ∙ page_stands key tree a b k page.2.over told (page.2.read needed);
                rewritten = page.2.rewritten;
                is = now_at k lt ∙ ap (λ (o : Option (List ℕ)). page_after o (get_or was.pages k None)) page.1;
              };
          missed = λ k lt missed.
              let outside : (k < first) ⊎ (first + (upto - first) ≤ k) = elim (cases_lt k first) [
                | inl below ↦ inl below
                | inr from ↦ elim (cases_lt k upto) [
                  | inl high ↦ absurd (false≢true (sym missed ∙ meets-blocks r k (omega (arith, from, begins)) (omega (arith, high, ends))))
                  | inr past ↦ inr (omega (arith, from, past))
                ]
              ] in
              now_at k lt ∙ ap (λ (o : Option (List ℕ)). page_after o (get_or was.pages k None)) (page_for-missed changes first (upto - first) k made.blocks outside);
        }

    pub leaves_rewritten : OpensAfter key tree.head.wrapped a.reads root after next size changes → LeavesRewritten key tree.head.wrapped a.reads root after next r at bytes size
    leaves_rewritten opens wrap was is opened =
        let was_opened : opened_in a.reads wrap (Ok tree) ≡ Ok was = ap (opened_in a.reads wrap) (sym loads) ∙ opened in
        let same : ◌≡◌ {A = Opened} (record { bytes = tree.head.length; pages = row (page_in a.reads (unwrapped_of wrap tree.head.wrapped) tree) (length tree.nodes) }) was = cc (was_opened) in
        let pages : was.pages ≡ row (page_in a.reads key tree) (length tree.nodes) = sym (ap (λ (o : Opened). o.pages) same) ∙ ap (λ (x : List ℕ). row (page_in a.reads x tree) (length tree.nodes)) (sym is) in
        (opened_after was size changes, opens wrap was is opened, rewriting was pages)

-- so it is of an answer that succeeds, after calls that change nothing and are followed
pub rewritten_then : (old : FileState) (mid new : FileState) (A : Type 0) (result : Result A TreeFault) (stage : Option Staged) (tree : Loaded) (root : RootRef)
    (P Q : Staged → Type 0) → Rests old mid → GoesOn mid new
    → OnOk result (Known mid new → load_of mid.reads root ≡ Ok tree → IfSome stage P)
    → (Told old mid → load_of old.reads root ≡ Ok tree → (s : Staged) → P s → Q s)
    → OnOk result (Told old new → load_of old.reads root ≡ Ok tree → IfSome stage Q)
rewritten_then old mid new A (Ok done) stage tree root P Q rests goes was then = λ told loads.
    let known = first_known old mid new goes told.1 in
    let same : mid.reads ≡ old.reads = rests.reads known in
    some_then stage P Q (then (told_first old mid new goes told) loads) (was (then_known old mid new rests.goes_on told.1) (ap (λ (l : List ℕ). load_of l root) same ∙ loads))
rewritten_then old mid new A (Err fault) stage tree root P Q rests goes was then = tt

-- what the nodes of a stage seal, by the pages that were made for it
pub seals_range : {root : ℕ} (key : List ℕ) (tree : Loaded) (r : ByteRange) (at : ℕ) (bytes : List ℕ) (size first upto : ℕ) (a b c : FileState) (changes : List BlockChange)
    → first ≡ first_block r → upto ≡ min (end_block r) (greatest_of size) → first ≤ upto → AreNewPages key tree a b r at bytes changes first upto → Keeps (Lies tree.layout tree.nodes root) b c
    → (A : Type 0) (result : Result A TreeFault) (stage : Option Staged)
    → OnOk result (IfSome stage (λ s. SealsChanges key tree s.tree changes)) → OnOk result (IfSome stage (λ s. SealsRange key tree s.tree a c r at bytes size))
seals_range key tree r at bytes size first upto a b c changes begins ends forward made keeps A (Ok done) stage seals =
    some_then stage (λ s. SealsChanges key tree s.tree changes) (λ s. SealsRange key tree s.tree a c r at bytes size) (λ s each. record {
      met = λ k lt from below.
          let page = made.pages k (omega (arith, from, begins)) (omega (arith, below, ends)) in
          (page.0, subst (λ (o : Option (List ℕ)). SealsAt key tree s.tree k o) page.1 (each k lt), new_page_first key tree r at bytes a b c keeps k page.0 page.2);
      missed = λ k lt out.
          let outside : (k < first) ⊎ (first + (upto - first) ≤ k) = elim out [ inl low ↦ inl (omega (arith, low, begins)) | inr high ↦ inr (omega (arith, high, ends, forward)) ] in
          subst (λ (o : Option (List ℕ)). SealsAt key tree s.tree k o) (page_for-missed changes first (upto - first) k made.blocks outside) (each k lt);
    }) seals
seals_range key tree r at bytes size first upto a b c changes begins ends forward made keeps A (Err fault) stage seals = tt

-- and what it wrote
pub writes_range : (r : ByteRange) (size before first upto : ℕ) (changes : List BlockChange) (old mid new : FileState) → first ≡ first_block r → upto ≡ min (end_block r) (greatest_of size)
    → changed_blocks changes ≡ range_with_len first (upto - first) → mid.written ≡ old.written
    → IsWithinBudget (changed_blocks changes) before (greatest_of size) mid.written new.written → WritesRange r size before old new
writes_range r size before first upto changes old mid new begins ends are same within =
    let blocks : changed_blocks changes ≡ changed_of r size = are ∙ (λ i. range_with_len (begins i) (ends i - begins i)) in
    inr (subst (λ (w : ℕ). IsWithinBudget (changed_of r size) before (greatest_of size) w new.written) same
    (subst (λ (l : List ℕ). IsWithinBudget l before (greatest_of size) mid.written new.written) blocks within))
