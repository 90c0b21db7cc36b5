-- What reading one block answers.
use Rattle.std.specs.Prelude.{◌≡◌, ℕ, ◌+◌, ◌-◌, ◌*◌, ◌/◌, ◌%◌, ◌<◌, ◌≤◌, List, get_or, true, Result, Ok, Err}
use Rattle.disk_model.specs.State.{FileState}
use Rattle.htree_file.specs.declared.fault.TreeFault.{TreeFault}
use Rattle.htree_file.specs.declared.fault.TreeFault.TheVariants.{BadTag, Failed}
use Rattle.htree_file.specs.Opening.{Loaded}
use Rattle.page_bytes.specs.declared.range.ByteRange.{ByteRange}
use Rattle.page_bytes.specs.Ranges.{meets}
use Rattle.page_bytes.specs.Rewriting.{given_byte}
use Rattle.block_file.specs.Reads.{IsBad, IsPage}

-- its page, or both tags
abbrev pub PageAnswer : (key : List ℕ) → Loaded → (old new : FileState) → (k : ℕ) → {A : Type 0} → Result A TreeFault → (page : List ℕ) → Type 0
PageAnswer key tree old new k (Ok answer) page = IsPage key tree old new k page
PageAnswer key tree old new k (Err (BadTag bad want found)) page = (bad ≡ k) × IsBad key tree new k want found
PageAnswer key tree old new k (Err (Failed count)) page = Unit {0}
PageAnswer key tree old new k (Err fault) page = ⊥

-- the bytes of a range that the block has, where they belong
pub record IsGiven (key : List ℕ) (tree : Loaded) (old new : FileState) (r : ByteRange) (k : ℕ) (before after : List ℕ) : Type 0 where
  pub page : List ℕ
  pub read : IsPage key tree old new k page
  pub given : (i : ℕ) → get_or after i 0 ≡ given_byte r k page i (get_or before i 0)

-- what lies behind the bytes of a range stays
abbrev pub KeepsBehind : ByteRange → (before after : List ℕ) → Type 0
KeepsBehind r before after = (i : ℕ) → r.last - r.first ≤ i → get_or after i 0 ≡ get_or before i 0

abbrev pub PartAnswer : (key : List ℕ) → Loaded → (old new : FileState) → ByteRange → (k : ℕ) → (before after : List ℕ) → {A : Type 0} → Result A TreeFault → Type 0
PartAnswer key tree old new r k before after (Ok answer) = IsGiven key tree old new r k before after
PartAnswer key tree old new r k before after (Err (BadTag bad want found)) = (bad ≡ k) × IsBad key tree new k want found × KeepsBehind r before after
PartAnswer key tree old new r k before after (Err (Failed count)) = KeepsBehind r before after
PartAnswer key tree old new r k before after (Err fault) = ⊥

-- The bytes of a range that the blocks before one have were read: each of these blocks as one page.
pub record AreRead (key : List ℕ) (tree : Loaded) (old new : FileState) (r : ByteRange) (upto : ℕ) (into : List ℕ) : Type 0 where
  pub pages : ℕ → List ℕ
  pub read : (k : ℕ) → k < upto → meets r.first r.last k ≡ true → IsPage key tree old new k (pages k)
  pub are : (i : ℕ) → i < r.last - r.first → r.first + i < 4096 * upto
      → get_or into i 0 ≡ get_or (pages ((r.first + i) / 4096)) ((r.first + i) % 4096) 0
