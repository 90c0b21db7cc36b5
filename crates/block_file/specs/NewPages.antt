-- The pages that a change makes, before they are staged.
use Rattle.std.specs.Prelude.{◌≡◌, ◌⊎◌, ℕ, ◌-◌, ◌<◌, ◌≤◌, List, length, map, max, Some, true, false, Result, Ok, Err}
use Rattle.std.specs.List.{range_with_len}
use Rattle.disk_model.specs.State.{FileState}
use Rattle.node_image.specs.Layout.{greatest_of}
use Rattle.htree_file.specs.declared.fault.TreeFault.{TreeFault}
use Rattle.htree_file.specs.declared.fault.TreeFault.TheVariants.{BadTag, Failed, NoMemory}
use Rattle.htree_file.specs.declared.change.BlockChange.{BlockChange}
use Rattle.htree_file.specs.Changes.{page_for}
use Rattle.htree_file.specs.Opening.{Loaded}
use Rattle.htree_file.specs.Pages.{Opened}
use Rattle.page_bytes.specs.declared.range.ByteRange.{ByteRange}
use Rattle.page_bytes.specs.Changed.{HasRewritten}
use Rattle.page_bytes.specs.Pages.{page_at}
use Rattle.page_bytes.specs.Ranges.{meets, needs}
use Rattle.page_bytes.specs.Rewriting.{IsRewritten}
use Rattle.block_file.specs.Reads.{IsBad, IsFirstBad, IsPage}

-- What reading a block that a change needs answers; one that it doesn't need is not read.
abbrev pub NeededAnswer : (key : List ℕ) → Loaded → (old new : FileState) → ByteRange → (k : ℕ) → {A : Type 0} → Result A TreeFault → (page : List ℕ) → Type 0
NeededAnswer key tree old new r k (Ok answer) page = needs r k ≡ true → IsPage key tree old new k page
NeededAnswer key tree old new r k (Err (BadTag bad want found)) page = (needs r k ≡ true) × (bad ≡ k) × IsBad key tree new k want found
NeededAnswer key tree old new r k (Err (Failed count)) page = Unit {0}
NeededAnswer key tree old new r k (Err fault) page = ⊥

-- the page that a change makes of block k, over what was read of it
pub record IsNewPage (key : List ℕ) (tree : Loaded) (old new : FileState) (r : ByteRange) (at : ℕ) (bytes : List ℕ) (k : ℕ) (page : List ℕ) : Type 0 where
  pub over : List ℕ
  pub read : needs r k ≡ true → IsPage key tree old new k over
  pub rewritten : IsRewritten r at bytes k over page

abbrev pub NewPageAnswer : (key : List ℕ) → Loaded → (old new : FileState) → ByteRange → (at : ℕ) → (bytes : List ℕ) → (k : ℕ) → {A : Type 0} → Result A TreeFault → (page : List ℕ) → Type 0
NewPageAnswer key tree old new r at bytes k (Ok answer) page = IsNewPage key tree old new r at bytes k page
NewPageAnswer key tree old new r at bytes k (Err (BadTag bad want found)) page = (needs r k ≡ true) × (bad ≡ k) × IsBad key tree new k want found
NewPageAnswer key tree old new r at bytes k (Err (Failed count)) page = Unit {0}
NewPageAnswer key tree old new r at bytes k (Err fault) page = ⊥

-- these are the changes of the blocks from one on and before another, each with the page that the change makes
pub record AreNewPages (key : List ℕ) (tree : Loaded) (old new : FileState) (r : ByteRange) (at : ℕ) (bytes : List ℕ) (changes : List BlockChange) (first upto : ℕ) : Type 0 where
  pub blocks : map (λ c. c.block) changes ≡ range_with_len first (upto - first)
  pub pages : (k : ℕ) → first ≤ k → k < upto → (page : List ℕ) × (page_for changes k ≡ Some page) × IsNewPage key tree old new r at bytes k page

-- what making them answers
abbrev pub NewPagesAnswer : (key : List ℕ) → Loaded → (old new : FileState) → ByteRange → (at : ℕ) → (bytes : List ℕ) → (first upto : ℕ) → {A : Type 0} → (items : A → List BlockChange) → Result A TreeFault → Type 0
NewPagesAnswer key tree old new r at bytes first upto items (Ok changes) = AreNewPages key tree old new r at bytes (items changes) first upto
NewPagesAnswer key tree old new r at bytes first upto items (Err (BadTag k want found)) = IsFirstBad key tree old new (needs r) k want found
NewPagesAnswer key tree old new r at bytes first upto items (Err (Failed count)) = Unit {0}
NewPagesAnswer key tree old new r at bytes first upto items (Err NoMemory) = Unit {0}
NewPagesAnswer key tree old new r at bytes first upto items (Err fault) = ⊥

-- The change of this range leaves so many bytes: it begins within them, ends within them or at the old end, and has all that
-- is new.
pub record Reaches (r : ByteRange) (bytes : ℕ) : Type 0 where
  pub begins : r.first ≤ bytes
  pub ends : (r.last ≤ bytes) ⊎ (r.size ≤ r.last)
  pub covers : bytes ≤ max r.last r.size

-- what the change leaves of a tree, block by block
pub record IsRewriting (r : ByteRange) (at : ℕ) (bytes : List ℕ) (count : ℕ) (was now : Opened) : Type 0 where
  pub size : now.bytes ≡ count
  pub blocks : length now.pages ≡ greatest_of count
  pub met : (k : ℕ) → k < greatest_of count → meets r.first r.last k ≡ true → HasRewritten r at bytes k (page_at was.pages k) (page_at now.pages k)
  pub missed : (k : ℕ) → k < greatest_of count → meets r.first r.last k ≡ false → page_at now.pages k ≡ page_at was.pages k
