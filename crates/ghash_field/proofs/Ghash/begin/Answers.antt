use Rattle.std.proofs.Common.{◌≡◌, ◌<◌, ◌^◌, ℕ, suc, refl, sym, ap, subst, ◌∙◌, arith}
use Rattle.ghash_field.specs.Field.{block_product, block_power}
use Rattle.ghash_field.specs.Ghash.{ghash}
use Rattle.ghash_field.specs.Hasher.{Holds}
use Rattle.ghash_field.specs.Words.{AreLaneParts}
use Rattle.ghash_field.proofs.FourBlocks.{power-one, power-more}
use Rattle.ghash_field.proofs.Ghash.begin.Goals as goal

pub returns : goal.returns
unfolding Holds ghash
returns c =
    let h : ℕ = c.args.h in
    let lt : h < 2 ^ 128 = c.ranges.h.fits in
    let more : (k y : ℕ) → y ≡ block_power h k → block_product y h ≡ block_power h (suc k) = λ k y e. ap (λ p. block_product p h) e ∙ sym (power-more h k) in
    let one : h ≡ block_power h 1 = sym (power-one h lt) in
    let first = c.lane_parts_of-first.ensures in
    let two : c.times-square.result ≡ block_power h 2 = c.times-square.ensures 0 h (omega arith) lt first ∙ more 1 h one in
    let three : c.times-cube.result ≡ block_power h 3 = c.times-cube.ensures 0 h (omega arith) lt first ∙ more 2 c.times-square.result two in
    let four : c.times-fourth.result ≡ block_power h 4 = c.times-fourth.ensures 0 h (omega arith) lt first ∙ more 3 c.times-cube.result three in (
      lt,
      (
        subst (λ p. AreLaneParts p (block_power h 3) c.lane_parts_of.result) four (subst (λ q. AreLaneParts c.times-fourth.result q c.lane_parts_of.result) three c.lane_parts_of.ensures),
        subst (λ p. AreLaneParts p (block_power h 1) c.lane_parts_of-2.result) two (subst (λ q. AreLaneParts c.times-square.result q c.lane_parts_of-2.result) one c.lane_parts_of-2.ensures),
      ),
      refl,
    )
