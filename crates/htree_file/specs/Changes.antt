-- Changes of the blocks of a tree.
use Rattle.std.specs.Prelude.{◌≡◌, ◌⊎◌, ℕ, ◌+◌, ◌<◌, ◌≤◌, List, [], ◌∷◌, length, get_or, map, find, All, Option, Some, None, Ok, option_map, IsSome, ◌==◌}
use Rattle.std.specs.List.Sorted.{IsStrictlyIncreasing}
use Rattle.aes_block.specs.WrappedKey.{unwrapped_of}
use Rattle.node_image.specs.declared.node.RootRef.{RootRef}
use Rattle.node_image.specs.Layout.{HasNoSpareBits, greatest_of}
use Rattle.node_image.specs.Selection.{row}
use Rattle.node_image.specs.Tables.{at_node}
use Rattle.htree_file.specs.declared.change.BlockChange.{BlockChange}
use Rattle.htree_file.specs.declared.change.NewPages.{NewPages}
use Rattle.htree_file.specs.declared.change.NewPages.TheVariants.{All as AllPages, Changed}
use Rattle.htree_file.specs.Opening.{Loaded}
use Rattle.htree_file.specs.Pages.{Opened, opened_of, page_of}

-- what stands for a change that a list lacks
abbrev pub no_change : BlockChange
no_change = record { block = 0; page = [] }

-- the block and the page of the change at a place
abbrev pub block_at : List BlockChange → (place : ℕ) → ℕ
block_at changes place = (get_or changes place no_change).block

abbrev pub page_at : List BlockChange → (place : ℕ) → List ℕ
page_at changes place = (get_or changes place no_change).page

-- the numbers of the blocks that change
abbrev pub changed_blocks : List BlockChange → List ℕ
changed_blocks changes = map (λ c. c.block) changes

-- block k is one of them
pub record IsChanged (changes : List BlockChange) (k : ℕ) : Type 0 where
  pub place : ℕ
  pub below : place < length changes
  pub is : block_at changes place ≡ k

-- the page that the changes have for block k
abbrev pub page_for : List BlockChange → (k : ℕ) → Option (List ℕ)
page_for changes k = option_map (λ c. c.page) (find (λ c. c.block == k) changes)

-- The changes of a stage from so many blocks to so many: in the order of their blocks, each of a block that there is then,
-- and one for each new block.
pub record AreChanges (before after : ℕ) (changes : List BlockChange) : Type 0 where
  pub rising : IsStrictlyIncreasing (changed_blocks changes)
  pub within : All (λ c. c.block < after) changes
  pub fresh : (k : ℕ) → before ≤ k → k < after → IsSome (page_for changes k)

-- these are of different blocks, all below a number
pub record AreApart (after : ℕ) (changes : List BlockChange) : Type 0 where
  pub within : (j : ℕ) → j < length changes → block_at changes j < after
  pub apart : (i j : ℕ) → i < j → j < length changes → block_at changes i < block_at changes j

-- the pages of a whole tree as changes of its blocks, from block k on
abbrev pub numbered : (pages : List (List ℕ)) → (k : ℕ) → List BlockChange
numbered [] k = []
numbered (page ∷ pages) k = record { block = k; page = page } ∷ numbered pages (k + 1)

abbrev pub changes_of : NewPages → List BlockChange
changes_of (AllPages pages) = numbered pages.now 0
changes_of (Changed changes) = changes.now

-- the page of a change, or else the old one
abbrev pub page_after : Option (List ℕ) → Option (List ℕ) → Option (List ℕ)
page_after (Some page) old = Some page
page_after None old = old

-- what a tree opens to after changes: the pages of the changes, and the old ones, good or bad
abbrev pub opened_after : Opened → (bytes : ℕ) → List BlockChange → Opened
opened_after was bytes changes = record {
  bytes = bytes;
  pages = row (λ k. page_after (page_for changes k) (get_or was.pages k None)) (greatest_of bytes);
}

-- Under each key that wraps the file's, what the first reference opens to in the file before, the second opens to after, with
-- the changes.
abbrev pub OpensAfter : (key wrapped : List ℕ) → (before : List ℕ) → RootRef → (after : List ℕ) → RootRef → (bytes : ℕ) → List BlockChange → Type 0
OpensAfter key wrapped before root after next bytes changes = (wrap : List ℕ) (was : Opened) → key ≡ unwrapped_of wrap wrapped
    → opened_of wrap before root ≡ Ok was → opened_of wrap after next ≡ Ok (opened_after was bytes changes)

-- a ciphertext of block k opens to the page under its node
abbrev pub Seals : (key : List ℕ) → Loaded → (k : ℕ) → (page : List ℕ) → Type 0
Seals key tree k page = (ciphertext : List ℕ) × (page_of key tree.head (at_node tree.nodes (k + 1)) k ciphertext ≡ Some page)

-- block k's node in the new tree seals the page of its change; where the block does not change, it has vector and tag of the
-- old tree's node
abbrev pub SealsAt : (key : List ℕ) → (old new : Loaded) → (k : ℕ) → Option (List ℕ) → Type 0
SealsAt key old new k (Some page) = Seals key new k page
SealsAt key old new k None =
    ((at_node new.nodes (k + 1)).iv ≡ (at_node old.nodes (k + 1)).iv) × ((at_node new.nodes (k + 1)).tag ≡ (at_node old.nodes (k + 1)).tag)

abbrev pub SealsChanges : (key : List ℕ) → (old new : Loaded) → List BlockChange → Type 0
SealsChanges key old new changes = (k : ℕ) → k < length new.nodes → SealsAt key old new k (page_for changes k)

-- each node of the new tree is the old tree's of that number, or the spare bits of its flags are zero
abbrev pub SparesZero : (old new : Loaded) → Type 0
SparesZero old new = (n : ℕ) → 1 ≤ n → n ≤ length new.nodes → (at_node new.nodes n ≡ at_node old.nodes n) ⊎ HasNoSpareBits (at_node new.nodes n)
