-- The writes of a call of a card store, in their order.
use Rattle.std.specs.Prelude.{◌≡◌, ℕ, zero, suc, ◌+◌, ◌-◌, ◌*◌, ◌≤◌, ◌==◌, nat_lt, cond, List, ◌++◌, length, take, drop, position, replicate, slice_index_or}
use Rattle.store_model.specs.declared.name.ObjectName.{ObjectName}
use Rattle.rpmb_card.specs.Card.{CardState}
use Rattle.rpmb_host.specs.Honest.{written_card}
use Rattle.card_maps.specs.declared.change.TableChange.{TableChange}
use Rattle.card_maps.specs.declared.change.TableChange.TheVariants.{Put, Remove}
use Rattle.card_maps.specs.Form.{data_blocks, most_card_bytes, number_at, size_in}
use Rattle.card_maps.specs.Puts.{entry_block}
use Rattle.card_maps.specs.TableStates.{TableState}
use Rattle.card_maps.specs.Tables.{has_name, unused}

-- a write: a block's number, and what it is to hold
pub record CardWrite : Type 0 where
  pub address : ℕ
  pub block : List ℕ

-- a block of data: so many bytes, and zero behind them
abbrev pub filled : List ℕ → List ℕ
filled bytes = take 256 bytes ++ replicate (256 - length (take 256 bytes)) 0

-- the write of a number: the blocks of the object's data, its entry, the map block
abbrev pub write_of : TableChange → (map bytes : List ℕ) → (i : ℕ) → CardWrite
write_of (Put at entry old) map bytes i =
    cond (nat_lt i (data_blocks (size_in entry))) (record { address = number_at entry i; block = filled (drop (256 * i) bytes) })
    (cond (i == data_blocks (size_in entry)) (record { address = at; block = entry }) (record { address = 1; block = map }))
write_of (Remove at) map bytes i = record { address = 1; block = map }

abbrev pub write_count : TableChange → ℕ
write_count (Put at entry old) = data_blocks (size_in entry) + 2
write_count (Remove at) = 1

-- a card after the first so many of these writes, each with the card's counter
abbrev pub written_upto : CardState → (ℕ → CardWrite) → ℕ → CardState
written_upto card write zero = card
written_upto card write (suc n) =
    written_card (written_upto card write n) (write n).address (written_upto card write n).counter (write n).block

-- a name has the lengths of one
pub record IsFit (name : ObjectName) : Type 0 where
  pub app : length name.app ≡ 16
  pub some : 1 ≤ length name.id
  pub short : length name.id ≤ 64

-- The change that puts an object of so many bytes, by a table: the least unused blocks are those of its data, and the next one is its
-- entry's; the old entry is that of its name.
pub record IsPutOf (t : TableState) (name : ObjectName) (size : ℕ) (change : TableChange) : Type 0 where
  pub fit : IsFit name
  pub small : size ≤ most_card_bytes
  pub room : data_blocks size + 1 ≤ length (unused t.used)
  pub is :
      change ≡ Put (slice_index_or (unused t.used) (data_blocks size) 0)
      (entry_block name size (take (data_blocks size) (unused t.used))) (position (has_name name) t.entries)
