use Rattle.std.proofs.Common.{◌≡◌, ℕ, ◌+◌, ◌<◌, List, slice_index, sym, ap, subst, refl, ◌∙◌, arith, inl, inr, rules}
use Rattle.std.proofs.lemmas.Bool.{cases_lt}
use Rattle.std.proofs.lemmas.List.{get_or-set_same, get_or-set_other, length-set}
use Rattle.aes_block.specs.KeySchedule.{round_constants}
use Rattle.aes_block.specs.CodeSteps.{next_round_key}
use Rattle.aes_block.specs.RoundKeys.{IsRoundKey, first_key, key_at}
use Rattle.aes_block.proofs.Lanes.{same_blocks, same_planes}
use Rattle.aes_block.proofs.Schedule.{round_key_first, round_key_next}
use Rattle.aes_block.proofs.block_cipher.Aes128.new.Goals as goal

pub expand-init : goal.expand-init
expand-init c =
    let key = c.args.key.now in
    let k = c.key_planes-first.result in
    let first : IsRoundKey key 0 (record { planes = k }) = record {
      wide = c.key_planes-first.ensures.planes;
      packed = λ t low. c.key_planes-first.ensures.value t low ∙ sym (round_key_first key (search rules));
    } in
    record {
      long = refl;
      made = λ n lt.
          let e : n ≡ 0 = omega arith in
          rw e first;
      last = record {
        wide = same_planes k c.planes_of-x.result c.planes_of-x.ensures first.wide;
        packed = λ t low. same_blocks k c.planes_of-x.result c.planes_of-x.ensures t ∙ first.packed t low;
      };
    }

pub expand-preserved : goal.expand-preserved
expand-preserved c =
    let key = c.args.key.now in
    let n = c.expand.n in
    let lt : n < 10 = omega arith in
    let next = c.next_round_key-next.result in
    let kept = c.bytes_of.result in
    let last : IsRoundKey key (n + 1) (record { planes = next }) = record {
      wide = c.next_round_key-next.ensures.planes;
      packed = λ t low.
          c.next_round_key-next.ensures.value t low
          ∙ ap (λ (x : List ℕ). next_round_key x (slice_index round_constants n)) (c.expand.invariant.last.packed t low)
          ∙ sym (round_key_next key n lt);
    } in
    let here : IsRoundKey key (n + 1) (record { planes = kept }) = record {
      wide = same_planes next kept c.bytes_of.ensures last.wide;
      packed = λ t low. same_blocks next kept c.bytes_of.ensures t ∙ last.packed t low;
    } in
    record {
      long = length-set c.expand.keys (n + 1) (record { planes = kept }) ∙ c.expand.invariant.long;
      made = λ k h. elim (cases_lt k (n + 1)) [
        | inl a ↦ subst (IsRoundKey key k) (sym (get_or-set_other c.expand.keys (n + 1) k (record { planes = kept }) _ (omega arith))) (c.expand.invariant.made k a)
        | inr b ↦
            let e : k ≡ n + 1 = omega arith in
            rw e (subst (IsRoundKey key (n + 1)) (sym (get_or-set_same c.expand.keys (n + 1) (record { planes = kept }) _ (omega (arith, c.expand.invariant.long)))) here)
      ];
      last = last;
    }

first_is : (c : goal.After-expand) → first_key c.expand.keys ≡ c.args.key.now
first_is c = (c.expand.invariant.made 0 (omega arith)).packed 0 (omega arith) ∙ round_key_first c.args.key.now (search rules)

pub invariant_of-result : goal.invariant_of-result
invariant_of-result c = record {
  each = λ n h. subst (λ (key : List ℕ). IsRoundKey key n (key_at c.expand.keys n)) (sym (first_is c)) (c.expand.invariant.made n (omega arith));
}

pub returns : goal.returns
returns c = first_is c
