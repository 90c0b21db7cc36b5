-- The pages of an object that are kept in memory.
use Rattle.std.specs.Prelude.{◌≡◌, ℕ, List, [], length, get_or, map, Contains, Option, None, Some}
use Rattle.disk_model.specs.State.{FileState}
use Rattle.htree_file.specs.Value.{TreeValue}
use Rattle.page_bytes.specs.declared.range.ByteRange.{ByteRange}
use Rattle.page_bytes.specs.Rewriting.{given_byte}
use Rattle.block_file.specs.Reads.{IsPage}
use Rattle.lru.specs.LruCache.{LruCache}

-- the numbers of the blocks whose pages are kept, each with its page
abbrev pub pages_of : {V : Type 0} → List (ℕ × V) → (bytes : V → List ℕ) → List (ℕ × List ℕ)
pages_of entries bytes = map (λ e. (e.0, bytes e.1)) entries

abbrev pub kept_in : {V : Type 0} → Option (LruCache ℕ V) → (bytes : V → List ℕ) → List (ℕ × List ℕ)
kept_in None bytes = []
kept_in (Some cache) bytes = pages_of cache.entries bytes

-- Each page that is kept is that of its block of the committed tree, whose ciphertext the file read as at a moment since which no call
-- wrote there. Of a file that can be followed it is the one that stands there now.
abbrev pub AreKept : {F : Type 0} → (state : F → FileState) → TreeValue F → List (ℕ × List ℕ) → Type 0
AreKept state t pages = (k : ℕ) (page : List ℕ) → Contains pages (k, page) → IsPage t.key t.tree (state t.file) (state t.file) k page

-- the bytes of a range that a page that is kept has, where they belong
pub record CopiesKept (pages : List (ℕ × List ℕ)) (r : ByteRange) (k : ℕ) (before after : List ℕ) : Type 0 where
  pub page : List ℕ
  pub kept : Contains pages (k, page)
  pub given : length page ≡ 4096 → (i : ℕ) → get_or after i 0 ≡ given_byte r k page i (get_or before i 0)
