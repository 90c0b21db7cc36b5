-- What reading blocks of a tree says, whatever the file is.
use Rattle.std.specs.Prelude.{◌≡◌, ℕ, zero, suc, ◌+◌, ◌-◌, ◌/◌, ◌%◌, ◌<◌, List, length, get_or, Some, None, Bool, true, Result, Ok, Err, IsTrue}
use Rattle.disk_model.specs.Arms.{Arms, count_call}
use Rattle.disk_model.specs.State.{FileState}
use Rattle.disk_model.specs.Seen.{WasSeen}
use Rattle.node_image.specs.Parts.{In}
use Rattle.node_image.specs.Parts.Part.{block}
use Rattle.node_image.specs.Tables.{at_node, block_version}
use Rattle.htree_file.specs.declared.fault.TreeFault.{TreeFault}
use Rattle.htree_file.specs.declared.fault.TreeFault.TheVariants.{BadTag, Failed, NoEntropy, NoMemory}
use Rattle.htree_file.specs.Opening.{Loaded}
use Rattle.htree_file.specs.Pages.{block_in, is_block, page_of, tag_of}
use Rattle.htree_file.specs.Standing.{Told}
use Rattle.page_bytes.specs.declared.range.ByteRange.{ByteRange}
use Rattle.page_bytes.specs.Ranges.{end_block, first_block, meets}

-- Block k of the tree was read as that page of 4,096 bytes: a ciphertext with the tag of its node deciphers to it. It stood in the block
-- at a moment since which no call wrote there. Where the file is followed, it is the one that stands there; where it tells its arms, it
-- is the one that stood there before, with armed masks over it.
pub record IsPage (key : List ℕ) (tree : Loaded) (old new : FileState) (k : ℕ) (page : List ℕ) : Type 0 where
  pub among : k < length tree.nodes
  pub ciphertext : List ℕ
  pub seen : WasSeen (In tree.layout (block k (block_version tree.nodes k))) old new (λ image. ciphertext ≡ block_in image tree k)
  pub stands : Told old new → ciphertext ≡ block_in old.reads tree k
  pub opens : page_of key tree.head (at_node tree.nodes (k + 1)) k ciphertext ≡ Some page
  pub long : length page ≡ 4096

abbrev pub WasRead : (key : List ℕ) → Loaded → (old new : FileState) → (k : ℕ) → Type 0
WasRead key tree old new k = (page : List ℕ) × IsPage key tree old new k page

-- Block k was found bad: the block that stands there, as the file reads now, has another tag than its node, and these are the two.
pub record IsBad (key : List ℕ) (tree : Loaded) (new : FileState) (k : ℕ) (want found : List ℕ) : Type 0 where
  pub ciphertext : List ℕ
  pub stands : IsTrue new.tells → ciphertext ≡ block_in new.reads tree k
  pub block : is_block ciphertext ≡ true
  pub fails : page_of key tree.head (at_node tree.nodes (k + 1)) k ciphertext ≡ None
  pub wants : want ≡ (at_node tree.nodes (k + 1)).tag
  pub finds : found ≡ tag_of key tree.head (at_node tree.nodes (k + 1)) k ciphertext

-- of the blocks that are asked, block k is the first bad one
pub record IsFirstBad (key : List ℕ) (tree : Loaded) (old new : FileState) (asked : ℕ → Bool) (k : ℕ) (want found : List ℕ) : Type 0 where
  pub is_asked : asked k ≡ true
  pub earlier : (j : ℕ) → j < k → asked j ≡ true → WasRead key tree old new j
  pub bad : IsBad key tree new k want found

-- A call that reads the blocks that are asked, in their order, succeeds where each was read, and names the first that is bad. It draws
-- once each was read: so each was, too, where a draw failed.
abbrev pub BlocksAnswer : (key : List ℕ) → Loaded → (old new : FileState) → (asked : ℕ → Bool) → {A : Type 0} → Result A TreeFault → Type 0
BlocksAnswer key tree old new asked (Ok answer) = (k : ℕ) → asked k ≡ true → WasRead key tree old new k
BlocksAnswer key tree old new asked (Err (BadTag k want found)) = IsFirstBad key tree old new asked k want found
BlocksAnswer key tree old new asked (Err (NoEntropy count)) = (k : ℕ) → asked k ≡ true → WasRead key tree old new k
BlocksAnswer key tree old new asked (Err fault) = Unit {0}

-- These bytes, from a place on, were read: each block that has one of them was read as one page, and they are the bytes of these
-- pages.
pub record AreReadBytes (key : List ℕ) (tree : Loaded) (old new : FileState) (at : ℕ) (bytes : List ℕ) (count : ℕ) : Type 0 where
  pub pages : ℕ → List ℕ
  pub read : (k : ℕ) → meets at (at + count) k ≡ true → IsPage key tree old new k (pages k)
  pub are : (i : ℕ) → i < count → get_or bytes i 0 ≡ get_or (pages ((at + i) / 4096)) ((at + i) % 4096) 0

-- so many calls more
abbrev pub after_calls : ℕ → Arms → Arms
after_calls zero arms = arms
after_calls (suc n) arms = count_call (after_calls n arms)

-- how many blocks have a byte of the range
abbrev pub blocks_of : ByteRange → ℕ
blocks_of r = end_block r - first_block r

-- what reading can answer: that a block is bad, or that a call of the file failed
abbrev pub IsReadFault : TreeFault → Type 0
IsReadFault (BadTag k want found) = Unit {0}
IsReadFault (Failed count) = Unit {0}
IsReadFault fault = ⊥

-- what a change can answer besides
abbrev pub IsChangeFault : TreeFault → Type 0
IsChangeFault (NoEntropy count) = Unit {0}
IsChangeFault NoMemory = Unit {0}
IsChangeFault fault = IsReadFault fault

-- a fault that is found before anything is drawn or written: a bad block, or want of memory
abbrev pub IsEarlyFault : TreeFault → Type 0
IsEarlyFault NoMemory = Unit {0}
IsEarlyFault (BadTag k want found) = Unit {0}
IsEarlyFault fault = ⊥

-- a block is bad
abbrev pub IsBadTag : TreeFault → Type 0
IsBadTag (BadTag k want found) = Unit {0}
IsBadTag fault = ⊥
