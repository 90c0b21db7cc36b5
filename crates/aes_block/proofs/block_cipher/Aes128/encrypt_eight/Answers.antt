use Rattle.std.proofs.Common.{ℕ, ◌+◌, List, [], ap, ◌∙◌, arith}
use Rattle.std.specs.Prelude.{slice_index_or}
use Rattle.aes_block.specs.Cipher.{add_round_key, cipher, rounds}
use Rattle.aes_block.proofs.RoundSteps.{last_step, round_step}
use Rattle.aes_block.proofs.block_cipher.Aes128.encrypt_eight.Goals as goal

pub eight_rounds-init : goal.eight_rounds-init
unfolding rounds
eight_rounds-init c = record {
  planes = c.add_key-x.ensures.planes;
  held = λ t low.
      let k = c.self.invariant.each 0 (omega arith) in
      c.add_key-x.ensures.value t low ∙ (λ i. add_round_key (c.pack.ensures.value t low i) (k.packed t low i));
}

pub add_key-next-requires-clause-key_planes : goal.add_key-next-requires-clause-key_planes
add_key-next-requires-clause-key_planes c = (c.self.invariant.each (c.eight_rounds.n + 1) (omega arith)).wide

pub eight_rounds-preserved : goal.eight_rounds-preserved
eight_rounds-preserved c = record {
  planes = c.add_key-next.ensures.planes;
  held = λ t low.
      let k = c.self.invariant.each (c.eight_rounds.n + 1) (omega arith) in
      round_step _ _ _ _ _ _ _ _ c.eight_rounds.n (c.eight_rounds.invariant.held t low)
      (c.sub_planes.ensures.value t low) (c.shift_planes.ensures.value t low) (c.mix_planes.ensures.value t low)
      (c.add_key-next.ensures.value t low) (k.packed t low);
}

pub returns : goal.returns
returns c = λ t low.
    let k = c.self.invariant.each 10 (omega arith) in
    c.unpack.ensures t low
    ∙ last_step _ _ _ _ _ _ _ c.eight_rounds.n (c.eight_rounds.invariant.held t low) (omega arith)
    (c.sub_planes-2.ensures.value t low) (c.shift_planes-2.ensures.value t low)
    (c.add_key.ensures.value t low) (k.packed t low)
    ∙ ap (λ (key : List ℕ). cipher key (slice_index_or c.args.blocks.now t [])) c.self.view_is
