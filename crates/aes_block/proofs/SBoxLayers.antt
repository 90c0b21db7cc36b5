-- The five layers of the S-box's circuit, one after another on planes, are the S-box on each byte.
use Rattle.std.proofs.Common.{◌≡◌, ℕ, ◌<◌, List, [], ◌∷◌, ◌++◌, map, replicate, slice_index, refl, ap, ◌∙◌, arith}
use Rattle.std.specs.Prelude.{slice_index_or}
use Rattle.std.specs.Int.{bit_at}
use Rattle.aes_block.specs.BitMatrix.{bits}
use Rattle.aes_block.specs.Circuit.{bits_layer, lanes_layer, layer, run, wires}
use Rattle.aes_block.specs.Field.{field_times, inverse, inverse_below, polynomial_times, remainder}
use Rattle.aes_block.specs.Planes.{ArePlanes, byte_at}
use Rattle.aes_block.specs.SBox.{from_bits_of, s_box}
use Rattle.aes_block.specs.SBoxCircuit.{bot_gates, bot_outs, from_inv, from_top, inv_gates, inv_outs, lin_gates, lin_outs, mid_gates, mid_outs, s_box_circuit, top_gates, top_outs}
use Rattle.aes_block.proofs.AllBytes.{values}
use Rattle.aes_block.proofs.ByteBits.{number}
use Rattle.aes_block.proofs.Circuit.{Wide, append_wide, bit_ones, bits_out, byte_of-circuit, cons_wide, planes_wide, wide_out, wide_planes}

-- the circuit on the bits of each byte
s_box_circuit-all : values (λ b. number (s_box_circuit (bits b))) ≡ values s_box
unfolding polynomial_times remainder field_times inverse_below inverse from_bits_of s_box layer run
s_box_circuit-all = refl

-- the five layers, one after another
pub record Layers (x y m t z r : List (List ℕ)) : Type 0 where
  pub top : y ≡ lanes_layer top_gates top_outs (wires 8 x)
  pub mid : m ≡ lanes_layer mid_gates mid_outs (slice_index_or x 0 [] ∷ wires 21 y)
  pub inv : t ≡ lanes_layer inv_gates inv_outs (wires 4 m)
  pub bot : z ≡ lanes_layer bot_gates bot_outs (wires 9 t ++ slice_index_or x 0 [] ∷ wires 21 y)
  pub lin : r ≡ lanes_layer lin_gates lin_outs (replicate 16 255 ∷ wires 18 z)

module _ (x y m t z r : List (List ℕ)) (ls : Layers x y m t z r) (planes : ArePlanes x) where
  abbrev x7 : List ℕ
  x7 = slice_index_or x 0 []

  abbrev ones : List ℕ
  ones = replicate 16 255

  wide_x : Wide (wires 8 x)
  wide_x = wide_planes x planes

  wide_y : Wide (x7 ∷ wires 21 y)
  wide_y = cons_wide x7 (wires 21 y) (planes 0 (omega arith)) (wide_out top_gates top_outs (wires 8 x) y ls.top wide_x)

  wide_m : Wide (wires 4 m)
  wide_m = wide_out mid_gates mid_outs (x7 ∷ wires 21 y) m ls.mid wide_y

  wide_t : Wide (wires 9 t ++ x7 ∷ wires 21 y)
  wide_t = append_wide (wires 9 t) (x7 ∷ wires 21 y) (wide_out inv_gates inv_outs (wires 4 m) t ls.inv wide_m) wide_y

  wide_z : Wide (ones ∷ wires 18 z)
  wide_z = cons_wide ones (wires 18 z) refl (wide_out bot_gates bot_outs (wires 9 t ++ x7 ∷ wires 21 y) z ls.bot wide_t)

  pub planes_subbed : ArePlanes r
  planes_subbed = planes_wide r (wide_out lin_gates lin_outs (ones ∷ wires 18 z) r ls.lin wide_z)

  -- bit k of lane j of the planes that come out
  circuit_bits : (j k : ℕ) → j < 16 → k < 8
      → map (λ v. bit_at (slice_index v j) k) (wires 8 r) ≡ s_box_circuit (map (λ v. bit_at (slice_index v j) k) (wires 8 x))
  circuit_bits j k lt low =
      let b : List ℕ → ℕ = λ v. bit_at (slice_index v j) k in
      let of_y = map b (wires 21 y) in
      let one : b ones ≡ 1 = bit_ones j k lt low in
      bits_out j k lt lin_gates lin_outs (ones ∷ wires 18 z) r ls.lin wide_z
      ∙ (λ i. bits_layer lin_gates lin_outs (one i ∷ bits_out j k lt bot_gates bot_outs (wires 9 t ++ x7 ∷ wires 21 y) z ls.bot wide_t i))
      ∙ ap (from_inv (b x7) of_y) (bits_out j k lt inv_gates inv_outs (wires 4 m) t ls.inv wide_m)
      ∙ ap (λ (u : List ℕ). from_inv (b x7) of_y (bits_layer inv_gates inv_outs u)) (bits_out j k lt mid_gates mid_outs (x7 ∷ wires 21 y) m ls.mid wide_y)
      ∙ ap (from_top (b x7)) (bits_out j k lt top_gates top_outs (wires 8 x) y ls.top wide_x)

  pub bytes_subbed : (k j : ℕ) → k < 8 → j < 16 → byte_at r k j ≡ s_box (byte_at x k j)
  bytes_subbed k j low lt = byte_of-circuit s_box_circuit s_box s_box_circuit-all x r k j (circuit_bits j k lt low)
