-- A circuit on vectors of 16 lanes is the circuit on bits, at each bit of each lane.
use Rattle.std.proofs.Common.{◌≡◌, ℕ, zero, suc, ◌+◌, ◌%◌, ◌<◌, min, List, [], ◌∷◌, ◌++◌, length, map, get_or, replicate, slice_index, refl, sym, ap, subst, ◌∙◌, arith, bit_xor, bit_and, inl, inr}
use Rattle.std.specs.Prelude.{slice_index_or}
use Rattle.std.specs.Int.{bit_at}
use lib.Lanes.{zip2}
use Rattle.std.proofs.lemmas.Bool.{cases_lt}
use Rattle.std.proofs.lemmas.Nat.Bits.{bit_at_xor, bit_at_and, bit_at_ones, bit_at-zero, bit_at-lt}
use Rattle.std.proofs.lemmas.Simd.{get_or-zip2, length-zip2, get_or-replicate, pick_l_whole, map-map}
use Rattle.std.proofs.Math.ListN.{get_or-map}
use Rattle.std.proofs.lemmas.List.{length-map, get_or_past}
use Rattle.aes_block.specs.BitMatrix.{bits}
use Rattle.aes_block.specs.Circuit.{Gate, bits_layer, lanes_layer, layer, run, wires}
use Rattle.aes_block.specs.Circuit.Gate.{Product, Sum}
use Rattle.aes_block.specs.Planes.{ArePlanes, byte_at, lane}
use Rattle.aes_block.specs.SBox.{from_bits_of}
use Rattle.aes_block.proofs.AllBytes.{same_at_byte, values}
use Rattle.aes_block.proofs.ByteBits.{bits_of-number, from_bits_lt, number}
use Rattle.aes_block.proofs.Lanes.{eight_cases}

abbrev pub zeros : List ℕ
zeros = replicate 16 0

-- each vector has 16 lanes
abbrev pub Wide : List (List ℕ) → Type 0
Wide ws = (i : ℕ) → length (get_or ws i zeros) ≡ 16

pub cons_wide : (v : List ℕ) (ws : List (List ℕ)) → length v ≡ 16 → Wide ws → Wide (v ∷ ws)
cons_wide v ws h w zero = h
cons_wide v ws h w (suc i) = w i

pub append_wide : (us vs : List (List ℕ)) → Wide us → Wide vs → Wide (us ++ vs)
append_wide [] vs w x i = x i
append_wide (u ∷ us) vs w x zero = w 0
append_wide (u ∷ us) vs w x (suc i) = append_wide us vs (λ k. w (suc k)) x i

abbrev lanes_run : List Gate → List (List ℕ) → List (List ℕ)
lanes_run gs ws = run (zip2 bit_xor) (zip2 bit_and) zeros gs ws

abbrev bits_run : List Gate → List ℕ → List ℕ
bits_run gs ws = run (λ a b. (a + b) % 2) min 0 gs ws

wide_run : (gs : List Gate) (ws : List (List ℕ)) → Wide ws → Wide (lanes_run gs ws)
unfolding run
wide_run [] ws w = w
wide_run (Sum i j ∷ gs) ws w =
    let a = get_or ws i zeros in
    let b = get_or ws j zeros in
    wide_run gs (zip2 bit_xor a b ∷ ws) (cons_wide (zip2 bit_xor a b) ws (length-zip2 bit_xor a b (w i ∙ sym (w j)) ∙ w i) w)
wide_run (Product i j ∷ gs) ws w =
    let a = get_or ws i zeros in
    let b = get_or ws j zeros in
    wide_run gs (zip2 bit_and a b ∷ ws) (cons_wide (zip2 bit_and a b) ws (length-zip2 bit_and a b (w i ∙ sym (w j)) ∙ w i) w)

wide_outs : (ws : List (List ℕ)) → Wide ws → (outs : List ℕ) → Wide (map (λ i. get_or ws i zeros) outs)
wide_outs ws w [] i = refl
wide_outs ws w (o ∷ outs) zero = w o
wide_outs ws w (o ∷ outs) (suc i) = wide_outs ws w outs i

pub wide_layer : (gs : List Gate) (outs : List ℕ) (ws : List (List ℕ)) → Wide ws → Wide (lanes_layer gs outs ws)
unfolding layer
wide_layer gs outs ws w = wide_outs (lanes_run gs ws) (wide_run gs ws w) outs

pub length-layer : (gs : List Gate) (outs : List ℕ) (ws : List (List ℕ)) → length (lanes_layer gs outs ws) ≡ length outs
unfolding layer
length-layer gs outs ws = length-map outs (λ i. get_or (lanes_run gs ws) i zeros)

-- a layer's result, as the wires of the next
wires_out : (gs : List Gate) (outs : List ℕ) (ws r : List (List ℕ)) → r ≡ lanes_layer gs outs ws → wires (length outs) r ≡ lanes_layer gs outs ws
wires_out gs outs ws r e = pick_l_whole [] r (length outs) (ap length e ∙ length-layer gs outs ws) ∙ e

pub wide_out : (gs : List Gate) (outs : List ℕ) (ws r : List (List ℕ)) → r ≡ lanes_layer gs outs ws → Wide ws → Wide (wires (length outs) r)
wide_out gs outs ws r e w = subst Wide (sym (wires_out gs outs ws r e)) (wide_layer gs outs ws w)

module _ (j t : ℕ) (lt : j < 16) where
  -- bit t of lane j
  abbrev pub bit_of : List ℕ → ℕ
  bit_of v = bit_at (get_or v j 0) t

  abbrev pub bits_of_all : List (List ℕ) → List ℕ
  bits_of_all = map bit_of

  bit_zeros : bit_of zeros ≡ 0
  bit_zeros = ap (λ (n : ℕ). bit_at n t) (get_or-replicate 16 j 0 0 lt) ∙ bit_at-zero t

  pub bit_ones : t < 8 → bit_of (replicate 16 255) ≡ 1
  bit_ones low = ap (λ (n : ℕ). bit_at n t) (get_or-replicate 16 j 255 0 lt) ∙ bit_at_ones 8 t low

  pub bit_sum : (a b : List ℕ) → length a ≡ 16 → length b ≡ 16 → bit_of (zip2 bit_xor a b) ≡ (bit_of a + bit_of b) % 2
  bit_sum a b la lb =
      ap (λ (n : ℕ). bit_at n t) (get_or-zip2 bit_xor a b j 0 0 0 (omega arith) (omega arith)) ∙ bit_at_xor (get_or a j 0) (get_or b j 0) t

  bit_product : (a b : List ℕ) → length a ≡ 16 → length b ≡ 16 → bit_of (zip2 bit_and a b) ≡ min (bit_of a) (bit_of b)
  bit_product a b la lb =
      ap (λ (n : ℕ). bit_at n t) (get_or-zip2 bit_and a b j 0 0 0 (omega arith) (omega arith)) ∙ bit_at_and (get_or a j 0) (get_or b j 0) t

  bit_get : (ws : List (List ℕ)) (i : ℕ) → bit_of (get_or ws i zeros) ≡ get_or (bits_of_all ws) i 0
  bit_get ws i = sym (get_or-map bit_of ws i zeros) ∙ ap (λ (d : ℕ). get_or (bits_of_all ws) i d) bit_zeros

  run_bits : (gs : List Gate) (ws : List (List ℕ)) → Wide ws → bits_of_all (lanes_run gs ws) ≡ bits_run gs (bits_of_all ws)
  unfolding run
  run_bits [] ws w = refl
  run_bits (Sum i k ∷ gs) ws w =
      let a = get_or ws i zeros in
      let b = get_or ws k zeros in
      let e = bit_sum a b (w i) (w k) ∙ (λ m. (bit_get ws i m + bit_get ws k m) % 2) in
      run_bits gs (zip2 bit_xor a b ∷ ws) (cons_wide (zip2 bit_xor a b) ws (length-zip2 bit_xor a b (w i ∙ sym (w k)) ∙ w i) w)
      ∙ (λ m. bits_run gs (e m ∷ bits_of_all ws))
  run_bits (Product i k ∷ gs) ws w =
      let a = get_or ws i zeros in
      let b = get_or ws k zeros in
      let e = bit_product a b (w i) (w k) ∙ (λ m. min (bit_get ws i m) (bit_get ws k m)) in
      run_bits gs (zip2 bit_and a b ∷ ws) (cons_wide (zip2 bit_and a b) ws (length-zip2 bit_and a b (w i ∙ sym (w k)) ∙ w i) w)
      ∙ (λ m. bits_run gs (e m ∷ bits_of_all ws))

  layer_bits : (gs : List Gate) (outs : List ℕ) (ws : List (List ℕ)) → Wide ws → bits_of_all (lanes_layer gs outs ws) ≡ bits_layer gs outs (bits_of_all ws)
  unfolding layer
  layer_bits gs outs ws w =
      map-map bit_of (λ i. get_or (lanes_run gs ws) i zeros) outs
      ∙ (λ m. map (λ i. (bit_get (lanes_run gs ws) i ∙ ap (λ (l : List ℕ). get_or l i 0) (run_bits gs ws w)) m) outs)

  pub bits_out : (gs : List Gate) (outs : List ℕ) (ws r : List (List ℕ)) → r ≡ lanes_layer gs outs ws → Wide ws
      → bits_of_all (wires (length outs) r) ≡ bits_layer gs outs (bits_of_all ws)
  bits_out gs outs ws r e w = ap bits_of_all (wires_out gs outs ws r e) ∙ layer_bits gs outs ws w

pub wide_planes : (x : List (List ℕ)) → ArePlanes x → Wide (wires 8 x)
wide_planes x h i = elim (cases_lt i 8) [
  | inl a ↦ eight_cases (λ i. length (get_or (wires 8 x) i zeros) ≡ 16)
      (h 0 (omega arith)) (h 1 (omega arith)) (h 2 (omega arith)) (h 3 (omega arith))
      (h 4 (omega arith)) (h 5 (omega arith)) (h 6 (omega arith)) (h 7 (omega arith)) i a
  | inr b ↦ ap length (get_or_past (wires 8 x) i zeros b)
]

pub planes_wide : (x : List (List ℕ)) → Wide (wires 8 x) → ArePlanes x
planes_wide x w =
    eight_cases (λ i. length (slice_index_or x i []) ≡ 16) (w 0) (w 1) (w 2) (w 3) (w 4) (w 5) (w 6) (w 7)

-- planes whose bits a circuit computes: its value on the bits of each byte is g's
pub byte_of-circuit : (circuit : List ℕ → List ℕ) (g : ℕ → ℕ) → values (λ b. number (circuit (bits b))) ≡ values g
    → (x r : List (List ℕ)) (t j : ℕ)
    → map (λ v. bit_at (slice_index v j) t) (wires 8 r) ≡ circuit (map (λ v. bit_at (slice_index v j) t) (wires 8 x))
    → byte_at r t j ≡ g (byte_at x t j)
unfolding from_bits_of
byte_of-circuit circuit g test x r t j e =
    let f : ℕ → ℕ = λ i. bit_at (lane x i j) t in
    let h : (i : ℕ) → f i < 2 = λ i. bit_at-lt (lane x i j) t in
    ap (λ (l : List ℕ). number l) e
    ∙ ap (λ (l : List ℕ). number (circuit l)) (bits_of-number f h)
    ∙ same_at_byte (λ b. number (circuit (bits b))) g test (from_bits_of f 8) (from_bits_lt f 8 h)
