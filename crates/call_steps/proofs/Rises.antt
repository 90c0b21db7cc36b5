-- Counts that rise, one list of them behind another.
use Rattle.std.proofs.Common.{ℕ, List, [], ◌∷◌, ◌++◌, ◌≡◌, ◌<◌, ◌-◌, ◌^◌, refl, subst, sym, inl, inr, arith}
use Rattle.disk_model.specs.Faults.{Rose}
use Rattle.call_steps.specs.DeviceCounts.{Rise}
use Rattle.call_steps.specs.Devices.{Grows}
use Rattle.call_steps.proofs.CountGrowth.{grows_grows, grows_rose}

pub Rise-after : (a b c : ℕ) (counts : List ℕ) → Grows a b → Rise b c counts → Rise a c counts
Rise-after a b c [] h g = grows_grows a b c h g
Rise-after a b c (count ∷ counts) h g = (grows_rose a b count h g.0, g.1)

pub Rise-append : (a b c : ℕ) (first then : List ℕ) → Rise a b first → Rise b c then → Rise a c (first ++ then)
Rise-append a b c [] then h g = Rise-after a b c then h g
Rise-append a b c (count ∷ first) then h g = (h.0, Rise-append count b c first then h.1 g)

pub Rise-one : (a b count : ℕ) → Rose a b → count ≡ b → Rise a b (count ∷ [])
Rise-one a b count rose is = (subst (λ n. Rose a n) (sym is) rose, inl (sym is))

pub Rise-above : (from to : ℕ) (counts : List ℕ) → to < from → to < 2 ^ 64 - 1 → Rise from to counts → ⊥
Rise-above from to [] above below rise = elim rise [
  | inl same ↦ omega (arith, above, same)
  | inr rose ↦ omega (arith, above, below, rose)
]
Rise-above from to (count ∷ counts) above below rise = Rise-above count to counts (omega (arith, above, below, rise.0)) below rise.1

-- a count that stands still below the last value is carried by none
pub Rise-still : (n : ℕ) (counts : List ℕ) → n < 2 ^ 64 - 1 → Rise n n counts → counts ≡ []
Rise-still n [] below rise = refl
Rise-still n (count ∷ counts) below rise = absurd (Rise-above count n counts (omega (arith, below, rise.0)) below rise.1)
