use Rattle.std.proofs.Common.{◌≡◌, ◌≢◌, ℕ, get_or, false, ap, sym, ◌∙◌, inl, inr, arith}
use Rattle.std.specs.Prelude.{slice_set}
use Rattle.std.proofs.lemmas.Bool.{cases_lt}
use Rattle.std.proofs.lemmas.List.{get_or-set_other, get_or-set_same, length-replicate, length-set}
use Rattle.card_maps.specs.Puts.{live_byte}
use Rattle.card_maps.proofs.Bits.{map_block_is, zeros}
use Rattle.card_maps.proofs.form.map_block.Goals as goal

pub loop-j-init : goal.loop-j-init
loop-j-init c = ((λ k lt. absurd (omega (arith, lt))), (λ k ge. zeros 256 k), length-replicate {A = ℕ} 256 0)

pub loop-j-preserved : goal.loop-j-preserved
loop-j-preserved c =
    let long = c.loop-j.invariant.2 in (
      (λ k lt. elim (cases_lt k c.loop-j.j) [
        | inl below ↦
            let other : k ≢ c.loop-j.j = (λ e. absurd (omega (arith, e, below))) in
            get_or-set_other c.loop-j.block c.loop-j.j k c.live_byte.result 0 other ∙ c.loop-j.invariant.0 k below
        | inr ge ↦
            let same : k ≡ c.loop-j.j = omega (arith, ge, lt) in
            ap (λ (n : ℕ). get_or (slice_set c.loop-j.block c.loop-j.j c.live_byte.result) n 0) same
            ∙ get_or-set_same c.loop-j.block c.loop-j.j c.live_byte.result 0 (omega (arith, long))
            ∙ c.live_byte.ensures ∙ ap (λ (n : ℕ). live_byte (λ d. get_or c.args.live.now d false) n) (sym same)
      ]),
      (λ k ge.
          let other : k ≢ c.loop-j.j = (λ e. absurd (omega (arith, e, ge))) in
          get_or-set_other c.loop-j.block c.loop-j.j k c.live_byte.result 0 other ∙ c.loop-j.invariant.1 k (omega (arith, ge))),
      length-set c.loop-j.block c.loop-j.j c.live_byte.result ∙ long,
    )

pub returns : goal.returns
returns c =
    map_block_is (λ d. get_or c.args.live.now d false) c.loop-j.block c.loop-j.invariant.2 (λ k lt. c.loop-j.invariant.0 k (omega (arith, lt)))
    (λ k ge. c.loop-j.invariant.1 k (omega (arith, ge)))
