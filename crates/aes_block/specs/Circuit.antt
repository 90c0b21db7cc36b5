-- A boolean circuit as a list of gates, run over values of any kind: bits, or vectors of bits.
use Rattle.std.specs.Prelude.{ℕ, ◌+◌, ◌%◌, min, List, [], ◌∷◌, map, get_or, replicate, bit_xor, bit_and, slice_index_or}
use Rattle.std.specs.List.{range_with_len}
use Rattle.std.specs.Simd.Lanes.{zip2}

-- a gate on two wires, which are counted back from the newest
pub data Gate : Type 0 where
  Sum : (i j : ℕ) → Gate
  Product : (i j : ℕ) → Gate

-- the wires after the gates, the newest first; d is read where there is no wire
unfoldable pub run : {A : Type 0} → (A → A → A) → (A → A → A) → A → List Gate → List A → List A
run sum product d [] ws = ws
run sum product d (Sum i j ∷ gs) ws = run sum product d gs (sum (get_or ws i d) (get_or ws j d) ∷ ws)
run sum product d (Product i j ∷ gs) ws = run sum product d gs (product (get_or ws i d) (get_or ws j d) ∷ ws)

-- the wires of the gates that come out
unfoldable pub layer : {A : Type 0} → (A → A → A) → (A → A → A) → A → List Gate → List ℕ → List A → List A
layer sum product d gs outs ws = map (λ i. get_or (run sum product d gs ws) i d) outs

-- on vectors of 16 lanes
abbrev pub lanes_layer : List Gate → List ℕ → List (List ℕ) → List (List ℕ)
lanes_layer gs outs ws = layer (zip2 bit_xor) (zip2 bit_and) (replicate 16 0) gs outs ws

-- on bits
abbrev pub bits_layer : List Gate → List ℕ → List ℕ → List ℕ
bits_layer gs outs ws = layer (λ a b. (a + b) % 2) min 0 gs outs ws

-- the first n vectors of an array, as wires
abbrev pub wires : ℕ → List (List ℕ) → List (List ℕ)
wires n xs = map (λ i. slice_index_or xs i []) (range_with_len 0 n)
