-- The map of objects that the blocks of a card hold, or the first byte outside the form.
use Rattle.std.specs.Prelude.{ℕ, zero, suc, ◌+◌, ◌-◌, ◌==◌, ◌&&◌, not, nat_le, cond, Bool, List, [], ◌∷◌, ◌++◌, length, map, take, slice_index_or, Option, Some, None, Result, Ok, Err}
use Rattle.std.specs.List.{list_any, range_with_len}
use Rattle.store_model.specs.declared.name.ObjectName.{ObjectName}
use Rattle.store_model.specs.Name.{name_eq}
use Rattle.rpmb_card.specs.Card.{CardState}
use Rattle.card_maps.specs.Form.{data_blocks, first_wrong, front_fault, is_live, map_fault, name_in, number_at, numbers_in, or_next, rest_fault, size_in}

-- where the first byte outside the form stands
pub record BadCard : Type 0 where
  pub block : ℕ
  pub offset : ℕ

-- the blocks of a card by their numbers
abbrev pub Blocks : Type 0
Blocks = ℕ → List ℕ

abbrev pub blocks_of : CardState → Blocks
blocks_of card b = slice_index_or card.blocks b []

abbrev pub Live : Type 0
Live = ℕ → Bool

-- which of the entries with lesser numbers than b a test meets
abbrev pub any_before : Live → (b : ℕ) → (ℕ → Bool) → Bool
any_before live b test = list_any (λ c. live c && test c) (range_with_len 2 (b - 2))

abbrev pub has_number : List ℕ → (d : ℕ) → Bool
has_number block d = list_any (λ e. e == d) (numbers_in block)

-- number i of entry b: from 2 on, no entry, and named neither before it in the entry nor by a lesser entry
abbrev pub is_good_number : Blocks → Live → (b i : ℕ) → Bool
is_good_number blocks live b i =
    let d = number_at (blocks b) i in
    nat_le 2 d && (not (live d) && (not (list_any (λ j. number_at (blocks b) j == d) (range_with_len 0 i)) && not (any_before live b (λ c. has_number (blocks c) d))))

-- a lesser entry has the name of entry b
abbrev pub is_repeated : Blocks → Live → (b : ℕ) → Bool
is_repeated blocks live b = any_before live b (λ c. name_eq (name_in (blocks c)) (name_in (blocks b)))

abbrev pub numbers_fault : Blocks → Live → (b : ℕ) → Option ℕ
numbers_fault blocks live b = first_wrong (λ at. is_good_number blocks live b (at - 84)) 84 (data_blocks (size_in (blocks b)))

-- the first byte of entry b that is outside the form
abbrev pub entry_fault : Blocks → Live → (b : ℕ) → Option ℕ
entry_fault blocks live b =
    or_next (cond (is_repeated blocks live b) (Some 0) None)
    (or_next (front_fault (blocks b)) (or_next (numbers_fault blocks live b) (rest_fault (blocks b))))

abbrev pub bad_at : (b : ℕ) → Option ℕ → Option BadCard → Option BadCard
bad_at b (Some offset) next = Some (record { block = b; offset = offset })
bad_at b None next = next

-- the first of so many blocks from b on that is a live entry outside the form
unfoldable pub first_bad : Blocks → Live → (b count : ℕ) → Option BadCard
first_bad blocks live b zero = None
first_bad blocks live b (suc count) = bad_at b (cond (live b) (entry_fault blocks live b) None) (first_bad blocks live (b + 1) count)

-- an object
pub record CardObject : Type 0 where
  pub name : ObjectName
  pub bytes : List ℕ

-- these lists one behind another
abbrev pub joined : List (List ℕ) → List ℕ
joined [] = []
joined (x ∷ xs) = x ++ joined xs

abbrev pub object_in : Blocks → (b : ℕ) → CardObject
object_in blocks b = record { name = name_in (blocks b); bytes = take (size_in (blocks b)) (joined (map blocks (numbers_in (blocks b)))) }

-- the objects of the live entries, in the order of their blocks
unfoldable pub objects_from : Blocks → Live → (b count : ℕ) → List CardObject
objects_from blocks live b zero = []
objects_from blocks live b (suc count) = cond (live b) (object_in blocks b ∷ objects_from blocks live (b + 1) count) (objects_from blocks live (b + 1) count)

abbrev pub CardMap : Type 0
CardMap = List CardObject

abbrev pub objects_of : Blocks → Live → CardMap
objects_of blocks live = objects_from blocks live 2 254

-- the bytes that a map has under a name
abbrev pub bytes_at : CardMap → ObjectName → Option (List ℕ)
bytes_at [] name = None
bytes_at (object ∷ m) name = cond (name_eq object.name name) (Some object.bytes) (bytes_at m name)

abbrev pub map_or : CardMap → Option BadCard → Result CardMap BadCard
map_or m None = Ok m
map_or m (Some bad) = Err bad

-- what blocks hold
abbrev pub map_of_blocks : Blocks → Result CardMap BadCard
map_of_blocks blocks = map_or (objects_of blocks (is_live (blocks 1))) (bad_at 1 (map_fault (blocks 1)) (first_bad blocks (is_live (blocks 1)) 2 254))

-- The map of a card, or the first byte outside the form: of the least block, block 1 first.
abbrev pub card_map : CardState → Result CardMap BadCard
card_map card = map_of_blocks (blocks_of card)

-- how many blocks an object takes, and how many of the blocks 2 to 255 a map leaves free
abbrev pub blocks_needed : (size : ℕ) → ℕ
blocks_needed size = 1 + data_blocks size

abbrev pub blocks_taken : CardMap → ℕ
blocks_taken [] = 0
blocks_taken (object ∷ m) = blocks_needed (length object.bytes) + blocks_taken m

abbrev pub blocks_free : CardMap → ℕ
blocks_free m = 254 - blocks_taken m
