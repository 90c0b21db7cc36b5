-- What a change of a tree's bytes leaves.
use Rattle.std.specs.Prelude.{◌≡◌, ◌⊎◌, ℕ, ◌-◌, ◌+◌, ◌*◌, ◌<◌, ◌≤◌, List, length, min, true, false, None, Result, Ok, IfSome, IsSome, OnErr, OnOk}
use Rattle.std.specs.List.{range_with_len}
use Rattle.disk_model.specs.State.{FileState}
use Rattle.disk_model.specs.Calls.{Known}
use Rattle.disk_model.specs.Keeps.{Keeps}
use Rattle.aes_block.specs.WrappedKey.{unwrapped_of}
use Rattle.node_image.specs.declared.node.RootRef.{RootRef}
use Rattle.node_image.specs.Layout.{greatest_of}
use Rattle.htree_file.specs.declared.fault.TreeFault.{TreeFault}
use Rattle.htree_file.specs.Changes.{Seals, SealsAt, SparesZero}
use Rattle.htree_file.specs.Opening.{IsVerified, Loaded, load_of}
use Rattle.htree_file.specs.Pages.{Opened, opened_of}
use Rattle.htree_file.specs.Selected.{KeepsFirm, Lies}
use Rattle.htree_file.specs.Value.{TreeValue}
use Rattle.tree_paths.specs.Staged.{IsWithinBudget}
use Rattle.page_bytes.specs.declared.range.ByteRange.{ByteRange}
use Rattle.page_bytes.specs.Changed.{IsChanged}
use Rattle.page_bytes.specs.Pages.{byte_in, bytes_from, page_at}
use Rattle.page_bytes.specs.Ranges.{end_block, first_block, meets}
use Rattle.block_file.specs.NewPages.{IsNewPage, IsRewriting}

-- the bytes that an opened tree holds; those of bad blocks stand as zero
abbrev pub bytes_in : Opened → List ℕ
bytes_in opened = bytes_from (page_at opened.pages) 0 opened.bytes

-- The tree holds these bytes after a change of that range, and no other block than those that the range meets has another page.
pub record IsAfter (r : ByteRange) (left : List ℕ) (was now : Opened) : Type 0 where
  pub size : now.bytes ≡ length left
  pub blocks : length now.pages ≡ greatest_of now.bytes
  pub changed : IsChanged r (length now.pages) (page_at was.pages) (page_at now.pages)
  pub bytes : bytes_in now ≡ left
  -- and what lies behind the last one in a block that the range meets is zero
  pub behind : (k i : ℕ) → k < length now.pages → meets r.first r.last k ≡ true → i < 4096 → length left ≤ 4096 * k + i → byte_in (page_at now.pages k) i ≡ 0

-- Under each key that wraps the file's: what the first reference opens to in the file before is changed so to what the second
-- opens to in the file after.
abbrev pub OpensChanged : (key wrapped : List ℕ) → (before : List ℕ) → RootRef → (after : List ℕ) → RootRef → (Changed : Opened → Opened → Type 0) → Type 0
OpensChanged key wrapped before root after next Changed = (wrap : List ℕ) (was : Opened) → key ≡ unwrapped_of wrap wrapped
    → opened_of wrap before root ≡ Ok was → (now : Opened) × (opened_of wrap after next ≡ Ok now) × Changed was now

-- it opens to the bytes after a change of that range
abbrev pub LeavesBytes : (key wrapped : List ℕ) → (before : List ℕ) → RootRef → (after : List ℕ) → RootRef → ByteRange → (change : List ℕ → List ℕ) → Type 0
LeavesBytes key wrapped before root after next r change = OpensChanged key wrapped before root after next (λ was now. IsAfter r (change (bytes_in was)) was now)

-- it opens to pages that the change of that range rewrote
abbrev pub LeavesRewritten : (key wrapped : List ℕ) → (before : List ℕ) → RootRef → (after : List ℕ) → RootRef → ByteRange → (at : ℕ) → (bytes : List ℕ) → (count : ℕ) → Type 0
LeavesRewritten key wrapped before root after next r at bytes count = OpensChanged key wrapped before root after next (IsRewriting r at bytes count)

-- the blocks that a change of this range to so many bytes makes new: those that it meets and that hold bytes afterwards
abbrev pub changed_of : ByteRange → (size : ℕ) → List ℕ
changed_of r size = range_with_len (first_block r) (min (end_block r) (greatest_of size) - first_block r)

-- The bytes that the file counted as written are within the budget for these blocks, or none were.
abbrev pub WritesRange : ByteRange → (size before : ℕ) → (old new : FileState) → Type 0
WritesRange r size before old new = (new.written ≡ old.written) ⊎ IsWithinBudget (changed_of r size) before (greatest_of size) old.written new.written

-- Of any file, what block k's node in the new tree seals: where the change makes the block new, the page that it makes; else
-- it has vector and tag of the old tree's node.
pub record SealsRange (key : List ℕ) (tree next : Loaded) (old new : FileState) (r : ByteRange) (at : ℕ) (bytes : List ℕ) (size : ℕ) : Type 0 where
  pub met : (k : ℕ) → k < length next.nodes → first_block r ≤ k → k < min (end_block r) (greatest_of size)
      → (page : List ℕ) × Seals key next k page × IsNewPage key tree old new r at bytes k page
  pub missed : (k : ℕ) → k < length next.nodes → (k < first_block r) ⊎ (min (end_block r) (greatest_of size) ≤ k) → SealsAt key tree next k None

-- What a stage of so many bytes answers: it is open, or the committed tree stands alone; the committed tree stays in every
-- image, and nothing is settled.
pub record StageAnswer {F : Type 0} (state : F → FileState) (old new : TreeValue F) (bytes : ℕ) {A : Type 0} (result : Result A TreeFault) : Type 0 where
  pub opens : OnOk result (IsSome new.stage)
  pub none : OnErr result (new.stage ≡ None)
  pub next : OnOk result (IfSome new.stage (λ s. (s.root.version ≡ 1 - old.root.version) × (s.settled ≡ false)
      × (s.tree.head ≡ record old.tree.head { length = bytes; greatest = greatest_of bytes })))
  pub format : OnOk result (IfSome new.stage (λ s. s.root.format ≡ old.root.format))
  pub same : new ≡ record old { file = new.file; stage = new.stage }
  pub firm : KeepsFirm (state old.file) (state new.file) old.root old.tree
  pub keeps : Keeps (Lies old.tree.layout old.tree.nodes old.root.version) (state old.file) (state new.file)
  pub unsettled : (state new.file).pending_from ≡ (state old.file).pending_from
  pub loaded : OnOk result (Known (state old.file) (state new.file) → load_of (state old.file).reads old.root ≡ Ok old.tree →
      IfSome new.stage (λ s. load_of (state new.file).reads s.root ≡ Ok s.tree))
  pub verified : OnOk result (IfSome new.stage (λ s. IsVerified s.root s.tree))
  -- each node that was written has no spare bits in its flags
  pub spares : OnOk result (IfSome new.stage (λ s. SparesZero old.tree s.tree))
