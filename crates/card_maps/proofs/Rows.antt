-- Rows, computed.
use Rattle.std.specs.Prelude.{◌≡◌, ℕ, ◌==◌, ◌||◌, cond, List, [], ◌∷◌, replicate, None, Ok, Err, refl}
use Rattle.std.specs.List.{range_with_len}
use Rattle.store_model.specs.declared.name.ObjectName.{ObjectName}
use Rattle.card_maps.specs.Form.{first_wrong, is_live}
use Rattle.card_maps.specs.CardMaps.{Blocks, blocks_free, blocks_needed, first_bad, map_of_blocks, objects_from}
use Rattle.card_maps.specs.Puts.{entry_block, map_block, with_block}

named : ℕ → ObjectName
named n = record { app = replicate 16 1; id = n ∷ [] }

abbrev zeros : List ℕ
zeros = replicate 256 0

abbrev blank : Blocks
blank b = replicate 256 0

-- a blank card is an empty store
blank_row : map_of_blocks blank ≡ Ok []
unfolding first_wrong first_bad objects_from
blank_row = refl

-- one byte under 6b: data block 2, entry 3
abbrev first_blocks : Blocks
first_blocks b =
    cond (b == 1) (map_block (λ c. c == 3))
    (cond (b == 2) (1 ∷ replicate 255 0)
    (cond (b == 3) (entry_block (record { app = replicate 16 1; id = 0x6b ∷ [] }) 1 (2 ∷ [])) (replicate 256 0)))

first_row : map_of_blocks first_blocks ≡ Ok (record { name = record { app = replicate 16 1; id = 0x6b ∷ [] }; bytes = 1 ∷ [] } ∷ [])
unfolding first_wrong first_bad objects_from
first_row = refl

-- before its map block is written the store is empty still
unwritten_row : map_of_blocks (with_block first_blocks 1 (replicate 256 0)) ≡ Ok []
unfolding first_wrong first_bad objects_from
unwritten_row = refl

-- an entry that names itself, at its number's offset; a bit below 2; a byte past 32
own_row : map_of_blocks (with_block first_blocks 3 (entry_block (record { app = replicate 16 1; id = 0x6b ∷ [] }) 1 (3 ∷ []))) ≡ Err (record { block = 3; offset = 84 })
unfolding first_wrong first_bad objects_from
own_row = refl

bit_row : map_of_blocks (with_block blank 1 (2 ∷ replicate 255 0)) ≡ Err (record { block = 1; offset = 0 })
unfolding first_wrong first_bad objects_from
bit_row = refl

-- three objects of 16,384 bytes leave 59 blocks, and a fourth needs 65
abbrev full_blocks : Blocks
full_blocks b =
    cond (b == 1) (map_block (λ c. c == 66 || (c == 131 || c == 196)))
    (cond (b == 66) (entry_block (record { app = replicate 16 1; id = 1 ∷ [] }) 16384 (range_with_len 2 64))
    (cond (b == 131) (entry_block (record { app = replicate 16 1; id = 2 ∷ [] }) 16384 (range_with_len 67 64))
    (cond (b == 196) (entry_block (record { app = replicate 16 1; id = 3 ∷ [] }) 16384 (range_with_len 132 64)) (replicate 256 0))))

full_form : first_bad full_blocks (is_live (full_blocks 1)) 2 254 ≡ None
unfolding first_wrong first_bad objects_from
full_form = refl

full_row : blocks_free (objects_from full_blocks (is_live (full_blocks 1)) 2 254) ≡ 59
unfolding first_wrong first_bad objects_from
full_row = refl

need_row : blocks_needed 16384 ≡ 65
need_row = refl
