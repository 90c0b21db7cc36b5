-- What was read of a tree, whatever its file is.
use Rattle.std.specs.Prelude.{◌≡◌, ◌⊎◌, ◌<◌, ◌==◌, ℕ, List, length, Bool, true, Some}
use Rattle.node_image.specs.declared.node.RootRef.{RootRef}
use Rattle.htree_file.specs.Opening.{IsVerified, Loaded}
use Rattle.htree_file.specs.Pages.{Opened}
use Rattle.page_bytes.specs.Pages.{page_at}
use Rattle.core_laws.specs.Decodings.{Decoding, opened_decoded, page_decoded, tree_decoding}
use Rattle.core_laws.specs.Clashes.{Clash}

-- A tree that is verified under the reference, with a ciphertext for each of its blocks.
pub record ReadTree (root : RootRef) : Type 0 where
  pub tree : Loaded
  pub verified : IsVerified root tree
  pub block : (k : ℕ) → List ℕ

-- what it decodes out, where `wrap` is the key that wraps the file's
abbrev pub decoding_read : {root : RootRef} → (wrap : List ℕ) → ReadTree root → Decoding
decoding_read wrap read = tree_decoding wrap read.block read.tree

-- Opened trees of one length, in which each page that is good in both is equal.
pub record OpenedAgree (one other : Opened) : Type 0 where
  pub bytes : other.bytes ≡ one.bytes
  pub count : length other.pages ≡ length one.pages
  pub pages : (k : ℕ) (page another : List ℕ) → page_at one.pages k ≡ Some page → page_at other.pages k ≡ Some another → another ≡ page

abbrev pub every_block : (k : ℕ) → Bool
every_block k = true

abbrev pub only_block : (k j : ℕ) → Bool
only_block k j = j == k

-- Two trees that were read under one reference open alike, or they clash.
abbrev pub ReadTreesAgree : Type 0
ReadTreesAgree =
    (wrap : List ℕ) (root : RootRef) (one other : ReadTree root)
    → OpenedAgree (opened_decoded (decoding_read wrap one)) (opened_decoded (decoding_read wrap other)) ⊎ Clash every_block (decoding_read wrap one) (decoding_read wrap other)

-- So for one block, of which alone a ciphertext may be known.
abbrev pub ReadPagesAgree : Type 0
ReadPagesAgree =
    (wrap : List ℕ) (root : RootRef) (one other : ReadTree root) (k : ℕ) (page another : List ℕ) → k < length (one.tree).nodes
    → page_decoded (decoding_read wrap one) k ≡ Some page → page_decoded (decoding_read wrap other) k ≡ Some another
    → (another ≡ page) ⊎ Clash (only_block k) (decoding_read wrap one) (decoding_read wrap other)
