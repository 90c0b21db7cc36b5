use Rattle.std.proofs.Common.{ℕ, ◌∷◌, List, ap, ◌∙◌, refl, replicate, map, slice_index}
use Rattle.std.specs.Int.{bit_at}
use Rattle.aes_block.specs.Circuit.{bits_layer, wires}
use Rattle.aes_block.specs.Planes.{byte_at}
use Rattle.aes_block.specs.SBox.{inv_affine}
use Rattle.aes_block.specs.SBoxCircuit.{inv_affine_gates, inv_affine_outs}
use Rattle.aes_block.proofs.Circuit.{Wide, bit_ones, bits_out, byte_of-circuit, cons_wide, planes_wide, wide_out, wide_planes}
use Rattle.aes_block.proofs.InverseOnPlanes.{inv_affine-all}
use Rattle.aes_block.proofs.PackedBlocks.{same_block}
use Rattle.aes_block.proofs.inverse_planes.inv_affine_planes.Goals as goal

abbrev ones : List ℕ
ones = replicate 16 255

wide : (c : goal.After-inv_affine_layer) → Wide (ones ∷ wires 8 c.args.x)
wide c = cons_wide ones (wires 8 c.args.x) refl (wide_planes c.args.x c.requires)

pub returns-clause-planes : goal.returns-clause-planes
returns-clause-planes c =
    planes_wide c.inv_affine_layer.result
    (wide_out inv_affine_gates inv_affine_outs (ones ∷ wires 8 c.args.x) c.inv_affine_layer.result c.inv_affine_layer.ensures (wide c))

pub returns-clause-value : goal.returns-clause-value
returns-clause-value c = λ t low.
    let x = c.args.x in
    let r = c.inv_affine_layer.result in
    same_block (byte_at r t) (λ j. inv_affine (byte_at x t j)) (λ j lt.
    let bits = map (λ v. bit_at (slice_index v j) t) (wires 8 x) in
    byte_of-circuit (λ l. bits_layer inv_affine_gates inv_affine_outs (1 ∷ l)) inv_affine inv_affine-all x r t j
    (bits_out j t lt inv_affine_gates inv_affine_outs (ones ∷ wires 8 x) r c.inv_affine_layer.ensures (wide c)
    ∙ ap (λ (n : ℕ). bits_layer inv_affine_gates inv_affine_outs (n ∷ bits)) (bit_ones j t lt low)))
