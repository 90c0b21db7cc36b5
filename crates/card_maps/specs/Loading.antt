-- The table of a card, read entry by entry.
use Rattle.std.specs.Prelude.{◌≡◌, ℕ, ◌-◌, ◌<◌, ◌≤◌, ◌&&◌, ◌||◌, nat_lt, cond, true, List, length, slice_index_or, slice_set, Some, None}
use Rattle.std.specs.List.{list_any, range_with_len}
use Rattle.card_maps.specs.Form.{data_blocks, number_at, size_in}
use Rattle.card_maps.specs.CardMaps.{Blocks, Live, entry_fault, has_number}
use Rattle.card_maps.specs.TableStates.{TableState}
use Rattle.card_maps.specs.Tables.{entry_at, entry_fault_in, is_used_at}

-- a table of no entries, in which each live entry is used
pub record HasNone (live : Live) (t : TableState) : Type 0 where
  pub long : length t.entries ≡ 256
  pub entries : (c : ℕ) → entry_at t c ≡ None
  pub used : (d : ℕ) → d < 256 → is_used_at t d ≡ (nat_lt d 2 || live d)

-- a block was put in as an entry, whose form it has
pub record IsAdded (block : List ℕ) (b : ℕ) (t u : TableState) : Type 0 where
  pub bytes : (k : ℕ) → slice_index_or block k 0 < 256
  pub fits : entry_fault_in t.entries (is_used_at t) block ≡ None
  pub entries : u.entries ≡ slice_set t.entries b (Some block)
  pub used : (d : ℕ) → d < 256 → is_used_at u d ≡ (is_used_at t d || has_number block d)

-- its first byte outside the form
pub record IsRefused (block : List ℕ) (t : TableState) (offset : ℕ) : Type 0 where
  pub bytes : (k : ℕ) → slice_index_or block k 0 < 256
  pub fault : entry_fault_in t.entries (is_used_at t) block ≡ Some offset

-- The table has the entries below b, which have their form.
pub record HasEntries (blocks : Blocks) (live : Live) (b : ℕ) (t : TableState) : Type 0 where
  pub long : length t.entries ≡ 256
  pub entries : (c : ℕ) → c < 256 → entry_at t c ≡ cond (live c && nat_lt c b) (Some (blocks c)) None
  pub used : (d : ℕ) → d < 256 → is_used_at t d ≡ (nat_lt d 2 || (live d || list_any (λ c. live c && has_number (blocks c) d) (range_with_len 2 (b - 2))))
  pub fits : (c : ℕ) → 2 ≤ c → c < b → live c ≡ true → entry_fault blocks live c ≡ None
  pub bytes : (c i : ℕ) → c < b → live c ≡ true → i < data_blocks (size_in (blocks c)) → number_at (blocks c) i < 256
