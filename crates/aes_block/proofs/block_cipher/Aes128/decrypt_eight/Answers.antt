use Rattle.std.proofs.Common.{ℕ, ◌-◌, List, [], ap, subst, ◌∙◌, arith}
use Rattle.std.specs.Prelude.{slice_index_or}
use Rattle.aes_block.specs.State.{IsBytes}
use Rattle.aes_block.specs.Cipher.{add_round_key}
use Rattle.aes_block.specs.InverseCipher.{inv_cipher, inv_rounds}
use Rattle.aes_block.proofs.Deciphering.{deciphered}
use Rattle.aes_block.specs.RoundKeys.{key_at}
use Rattle.aes_block.proofs.PlaneSteps.{block_bytes}
use Rattle.aes_block.proofs.RoundSteps.{inv_last_step, inv_round_step}
use Rattle.aes_block.proofs.block_cipher.Aes128.decrypt_eight.Goals as goal

pub inv_rounds-init : goal.inv_rounds-init
unfolding inv_rounds
inv_rounds-init c = record {
  planes = c.add_key-x.ensures.planes;
  held = λ t low.
      let k = c.self.invariant.each 10 (omega arith) in
      c.add_key-x.ensures.value t low ∙ (λ i. add_round_key (c.pack.ensures.value t low i) (k.packed t low i));
}

pub add_key-requires-clause-key_planes : goal.add_key-requires-clause-key_planes
add_key-requires-clause-key_planes c = (c.self.invariant.each (9 - c.inv_rounds.n) (omega arith)).wide

pub inv_rounds-preserved : goal.inv_rounds-preserved
inv_rounds-preserved c = record {
  planes = c.inv_mix_planes-next.ensures.planes;
  held = λ t low.
      let k = c.self.invariant.each (9 - c.inv_rounds.n) (omega arith) in
      inv_round_step _ _ _ _ _ _ _ _ c.inv_rounds.n (c.inv_rounds.invariant.held t low)
      (c.inv_shift_planes.ensures.value t low) (c.inv_sub_planes.ensures.value t low) (c.add_key.ensures.value t low)
      (c.inv_mix_planes-next.ensures.value t low) (k.packed t low);
}

pub returns-clause-value : goal.returns-clause-value
returns-clause-value c = λ t low.
    let k = c.self.invariant.each 0 (omega arith) in
    c.unpack.ensures t low
    ∙ inv_last_step _ _ _ _ _ _ _ c.inv_rounds.n (c.inv_rounds.invariant.held t low) (omega arith)
    (c.inv_shift_planes-2.ensures.value t low) (c.inv_sub_planes-2.ensures.value t low)
    (c.add_key-2.ensures.value t low) (k.packed t low)
    ∙ ap (λ (key : List ℕ). inv_cipher key (slice_index_or c.args.blocks.now t [])) c.self.view_is

pub returns-clause-undoes : goal.returns-clause-undoes
returns-clause-undoes c = λ t b low bytes long e.
    let key = c.args.self.now in
    returns-clause-value c t low ∙ ap (inv_cipher key) e ∙ deciphered key b (subst IsBytes c.self.view_is (block_bytes ((key_at c.self.inside.keys 0).planes) 0)) bytes long
