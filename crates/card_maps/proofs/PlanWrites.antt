-- The writes of a call by their numbers.
use Rattle.std.proofs.Common.{◌≡◌, ℕ, ◌*◌, ◌<◌, ◌==◌, cond, List, drop, get_or, Option, ap, arith}
use Rattle.std.specs.Prelude.{nat_lt}
use Rattle.std.proofs.lemmas.Bool.{cond-true, lt-ltb}
use Rattle.std.proofs.lemmas.List.FromFn.{get_or-map-range_with_len}
use Rattle.card_maps.specs.declared.change.TableChange.TheVariants.{Put}
use Rattle.card_maps.specs.Form.{data_blocks, number_at, numbers_in, size_in}
use Rattle.card_maps.specs.Plans.{CardWrite, filled, write_of}

pub data_address : (at : ℕ) (entry : List ℕ) (old : Option ℕ) (map bytes : List ℕ) (i : ℕ) → i < data_blocks (size_in entry) → (write_of (Put at entry old) map bytes i).address ≡ number_at entry i
data_address at entry old map bytes i lt =
    ap (λ (w : CardWrite). w.address) (cond-true (nat_lt i (data_blocks (size_in entry))) (record { address = number_at entry i; block = filled (drop (256 * i) bytes) })
    (cond (i == data_blocks (size_in entry)) (record { address = at; block = entry }) (record { address = 1; block = map })) (lt-ltb i (data_blocks (size_in entry)) lt))

pub number_get : (entry : List ℕ) (i : ℕ) → i < data_blocks (size_in entry) → get_or (numbers_in entry) i 0 ≡ number_at entry i
number_get entry i lt = get_or-map-range_with_len (number_at entry) 0 (data_blocks (size_in entry)) i i 0 lt (omega arith)
