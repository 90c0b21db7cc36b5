-- A table of the live entries of a card: for each block that is one its bytes, and which blocks are used.
use Rattle.std.specs.Prelude.{◌≡◌, ℕ, ◌-◌, ◌<◌, ◌==◌, ◌&&◌, ◌||◌, not, nat_le, nat_lt, cond, Bool, true, false, List, [], ◌∷◌, length, filter, slice_index_or, slice_set, Option, Some, None, is_some, Ok}
use Rattle.std.specs.List.{list_any, range_with_len}
use Rattle.store_model.specs.declared.name.ObjectName.{ObjectName}
use Rattle.store_model.specs.Name.{name_eq}
use Rattle.rpmb_card.specs.Card.{CardState}
use Rattle.card_maps.specs.declared.name.CardName.{CardName}
use Rattle.card_maps.specs.declared.change.TableChange.{TableChange}
use Rattle.card_maps.specs.declared.change.TableChange.TheVariants.{Put, Remove}
use Rattle.card_maps.specs.TableStates.{TableState}
use Rattle.card_maps.specs.Form.{data_blocks, first_wrong, front_fault, name_in, number_at, or_next, rest_fault, size_in}
use Rattle.card_maps.specs.CardMaps.{Blocks, CardMap, Live, blocks_of, card_map, has_number}
use Rattle.card_maps.specs.Puts.{live_after, live_without}
use Rattle.card_maps.specs.CardWrites.{live_in}

abbrev pub entry_at : TableState → (b : ℕ) → Option (List ℕ)
entry_at t b = slice_index_or t.entries b None

abbrev pub live_of : TableState → Live
live_of t b = is_some (entry_at t b)

abbrev pub is_used_at : TableState → (d : ℕ) → Bool
is_used_at t d = slice_index_or t.used d true

-- the name in an entry's block, with its size
abbrev pub entry_name : List ℕ → CardName
entry_name block = record { app = (name_in block).app; id = (name_in block).id; size = size_in block }

-- the names of the entries, in the order of the blocks
abbrev pub names_in : List (Option (List ℕ)) → List CardName
names_in [] = []
names_in (None ∷ entries) = names_in entries
names_in (Some block ∷ entries) = entry_name block ∷ names_in entries

-- an entry of that name
abbrev pub has_name : ObjectName → Option (List ℕ) → Bool
has_name name None = false
has_name name (Some block) = name_eq (name_in block) name

-- the name of an application's object
abbrev pub named : (app id : List ℕ) → ObjectName
named app id = record { app = app; id = id }

-- number i of a block is from 2 on, is not used, and does not stand before it in the block
abbrev pub is_fresh : (used : ℕ → Bool) → List ℕ → (i : ℕ) → Bool
is_fresh used block i =
    let d = number_at block i in nat_le 2 d && not (used d) && not (list_any (λ j. number_at block j == d) (range_with_len 0 i))

-- the first number that is not so
abbrev pub fresh_fault : (used : ℕ → Bool) → List ℕ → Option ℕ
fresh_fault used block = first_wrong (λ at. is_fresh used block (at - 84)) 84 (data_blocks (size_in block))

-- the first byte of one more entry that is outside the form, beside these entries and blocks that are used
abbrev pub entry_fault_in : List (Option (List ℕ)) → (used : ℕ → Bool) → List ℕ → Option ℕ
entry_fault_in entries used block =
    or_next (cond (list_any (has_name (name_in block)) entries) (Some 0) None)
    (or_next (front_fault block) (or_next (fresh_fault used block) (rest_fault block)))

-- the numbers of the blocks below n that are not used, the least first
unfoldable pub unused_below : List Bool → (n : ℕ) → List ℕ
unused_below used n = filter (λ d. not (slice_index_or used d true)) (range_with_len 0 n)

abbrev pub unused : List Bool → List ℕ
unused used = unused_below used 256

-- A block is used that is below 2, is a live entry, or is named by one.
abbrev pub is_used : Blocks → Live → (d : ℕ) → Bool
is_used blocks live d = nat_lt d 2 || (live d || list_any (λ c. live c && has_number (blocks c) d) (range_with_len 2 254))

-- a block is the entry of that number, or one that it names
abbrev pub uses : (block : List ℕ) → (b d : ℕ) → Bool
uses block b d = (d == b) || has_number block d

abbrev pub uses_at : Option (List ℕ) → (b d : ℕ) → Bool
uses_at None b d = false
uses_at (Some block) b d = uses block b d

-- the number of an entry, if there is one
abbrev pub is_at : Option ℕ → ℕ → Bool
is_at None c = false
is_at (Some b) c = c == b

-- the entry that a change takes out
abbrev pub old_of : TableChange → Option ℕ
old_of (Put at entry old) = old
old_of (Remove at) = Some at

-- the live entries after a change
abbrev pub live_changed : Live → TableChange → Live
live_changed live (Put at entry old) = live_after live at (is_at old)
live_changed live (Remove at) = live_without live (is_at (Some at))

-- the table's entries after it
abbrev pub without : List (Option (List ℕ)) → Option ℕ → List (Option (List ℕ))
without entries None = entries
without entries (Some b) = slice_set entries b None

abbrev pub entries_changed : List (Option (List ℕ)) → TableChange → List (Option (List ℕ))
entries_changed entries (Put at entry old) = slice_set (without entries old) at (Some entry)
entries_changed entries (Remove at) = without entries (Some at)

-- which blocks are used after it
abbrev pub used_without : TableState → Option ℕ → (d : ℕ) → Bool
used_without t None d = is_used_at t d
used_without t (Some b) d = is_used_at t d && not (uses_at (entry_at t b) b d)

abbrev pub used_changed : TableState → TableChange → (d : ℕ) → Bool
used_changed t (Put at entry old) d = used_without t old d || uses entry at d
used_changed t (Remove at) d = used_without t (Some at) d

-- the table after a change
pub record IsChangedTable (t : TableState) (change : TableChange) (u : TableState) : Type 0 where
  pub entries : u.entries ≡ entries_changed t.entries change
  pub used : (d : ℕ) → d < 256 → is_used_at u d ≡ used_changed t change d

-- The table is that of the card, whose map is this one.
pub record IsTableOf (t : TableState) (card : CardState) (m : CardMap) : Type 0 where
  pub map : card_map card ≡ Ok m
  pub long : length t.entries ≡ 256
  pub entries : (b : ℕ) → b < 256 → entry_at t b ≡ cond (live_in card b) (Some (blocks_of card b)) None
  pub used : (d : ℕ) → d < 256 → is_used_at t d ≡ is_used (blocks_of card) (live_in card) d
  -- the numbers of its entries are bytes
  pub bytes : (b i : ℕ) → live_in card b ≡ true → i < data_blocks (size_in (blocks_of card b)) → number_at (blocks_of card b) i < 256
