-- The pages that an object is made of.
use Rattle.std.specs.Prelude.{◌≡◌, ℕ, ◌+◌, ◌-◌, ◌*◌, ◌<◌, ◌==◌, List, [], length, get_or, if◌then◌else◌}

-- byte i of block k: of the attributes in block 0, of the data from block 1 on, and zero behind these
abbrev pub object_byte : (attributes bytes : List ℕ) → (k i : ℕ) → ℕ
object_byte attributes bytes k i = if k == 0 then get_or attributes i 0 else get_or bytes (4096 * (k - 1) + i) 0

-- the page of block k
pub record IsObjectPage (attributes bytes : List ℕ) (k : ℕ) (page : List ℕ) : Type 0 where
  pub long : length page ≡ 4096
  pub bytes_are : (i : ℕ) → i < 4096 → get_or page i 0 ≡ object_byte attributes bytes k i

-- the pages of the first blocks
abbrev pub AreObjectPages : (attributes bytes : List ℕ) → (pages : List (List ℕ)) → (count : ℕ) → Type 0
AreObjectPages attributes bytes pages count = (k : ℕ) → k < count → IsObjectPage attributes bytes k (get_or pages k [])
