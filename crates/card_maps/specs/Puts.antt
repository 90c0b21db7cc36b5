-- What a put writes, and that the map of the card flips with the write of its map block alone.
use Rattle.std.specs.Prelude.{◌≡◌, ◌≢◌, ℕ, ◌+◌, ◌-◌, ◌*◌, ◌<◌, ◌≤◌, ◌==◌, ◌&&◌, ◌||◌, not, cond, Bool, true, false, List, ◌∷◌, ◌++◌, length, map, replicate, Some, None, Ok}
use Rattle.std.specs.Int.{w16, to_be_bytes}
use Rattle.std.specs.List.{range_with_len}
use Rattle.store_model.specs.declared.name.ObjectName.{ObjectName}
use Rattle.store_model.specs.Name.{name_eq}
use Rattle.card_maps.specs.Form.{data_blocks, front_fault, is_live, name_in, number_at, rest_fault, size_in}
use Rattle.card_maps.specs.CardMaps.{Blocks, CardMap, Live, bytes_at, has_number, map_of_blocks, object_in}

-- the bits of eight blocks, the least first, as a byte
abbrev pub bit : Bool → ℕ
bit b = cond b 1 0

abbrev pub live_byte : Live → (j : ℕ) → ℕ
live_byte live j =
    bit (live (8 * j)) + (2 * bit (live (8 * j + 1)) + (4 * bit (live (8 * j + 2)) + (8 * bit (live (8 * j + 3))
    + (16 * bit (live (8 * j + 4)) + (32 * bit (live (8 * j + 5)) + (64 * bit (live (8 * j + 6)) + 128 * bit (live (8 * j + 7))))))))

-- the map block of these entries
abbrev pub map_block : Live → List ℕ
map_block live = map (live_byte live) (range_with_len 0 32) ++ replicate 224 0

-- an entry's block
abbrev pub entry_block : ObjectName → (size : ℕ) → (numbers : List ℕ) → List ℕ
entry_block name size numbers =
    name.app ++ (name.id ++ (replicate (64 - length name.id) 0 ++ (length name.id ∷ 0 ∷ to_be_bytes w16 size ++ (numbers ++ replicate (172 - length numbers) 0))))

-- one block is written
abbrev pub with_block : Blocks → (b : ℕ) → List ℕ → Blocks
with_block blocks b bytes c = cond (c == b) bytes (blocks c)

-- no live entry is the block, or names it
pub record IsFree (blocks : Blocks) (live : Live) (b : ℕ) : Type 0 where
  pub low : 2 ≤ b
  pub high : b < 256
  pub dead : live b ≡ false
  pub unnamed : (c : ℕ) → 2 ≤ c → c < 256 → live c ≡ true → has_number (blocks c) b ≡ false

-- the entries after a put of entry b, where `old` was of its name
abbrev pub live_after : Live → (b : ℕ) → (is_old : ℕ → Bool) → Live
live_after live b is_old c = (c == b) || (live c && not (is_old c))

-- A write of a free block leaves the map.
abbrev pub FreeWritesKeepMaps : Type 0
FreeWritesKeepMaps =
    (blocks : Blocks) (m : CardMap) → map_of_blocks blocks ≡ Ok m → (b : ℕ) (bytes : List ℕ) → IsFree blocks (is_live (blocks 1)) b
    → map_of_blocks (with_block blocks b bytes) ≡ Ok m

-- entry b is ready: it has its form, its numbers are free and distinct, and no live entry but the old one has its name
pub record IsReady (blocks : Blocks) (live : Live) (b : ℕ) (is_old : ℕ → Bool) : Type 0 where
  pub free : IsFree blocks live b
  pub front : front_fault (blocks b) ≡ None
  pub rest : rest_fault (blocks b) ≡ None
  pub numbers : (i : ℕ) → i < data_blocks (size_in (blocks b)) → IsFree blocks live (number_at (blocks b) i) × (number_at (blocks b) i ≢ b)
  pub distinct : (i j : ℕ) → i < data_blocks (size_in (blocks b)) → j < i → (number_at (blocks b) j == number_at (blocks b) i) ≡ false
  pub alone : (c : ℕ) → 2 ≤ c → c < 256 → live c ≡ true → is_old c ≡ false → name_eq (name_in (blocks c)) (name_in (blocks b)) ≡ false
  pub old : (c : ℕ) → 2 ≤ c → c < 256 → live c ≡ true → is_old c ≡ true → name_eq (name_in (blocks c)) (name_in (blocks b)) ≡ true

-- The write of the map block flips the map: the entry's object stands under its name, and under each other name what stood there.
abbrev pub MapWritesFlip : Type 0
MapWritesFlip =
    (blocks : Blocks) (m : CardMap) → map_of_blocks blocks ≡ Ok m → (b : ℕ) (is_old : ℕ → Bool) → IsReady blocks (is_live (blocks 1)) b is_old
    → (n : CardMap) × (map_of_blocks (with_block blocks 1 (map_block (live_after (is_live (blocks 1)) b is_old))) ≡ Ok n)
    × ((name : ObjectName) → bytes_at n name ≡ cond (name_eq (name_in (blocks b)) name) (Some (object_in blocks b).bytes) (bytes_at m name))

-- the entries without those of a name
abbrev pub live_without : Live → (is_old : ℕ → Bool) → Live
live_without live is_old c = live c && not (is_old c)

-- A write of the map block without an entry takes its object away.
abbrev pub MapWritesClear : Type 0
MapWritesClear =
    (blocks : Blocks) (m : CardMap) → map_of_blocks blocks ≡ Ok m → (name : ObjectName) (is_old : ℕ → Bool)
    → ((c : ℕ) → 2 ≤ c → c < 256 → is_live (blocks 1) c ≡ true → is_old c ≡ name_eq (name_in (blocks c)) name)
    → (n : CardMap) × (map_of_blocks (with_block blocks 1 (map_block (live_without (is_live (blocks 1)) is_old))) ≡ Ok n)
    × ((other : ObjectName) → bytes_at n other ≡ cond (name_eq name other) None (bytes_at m other))
