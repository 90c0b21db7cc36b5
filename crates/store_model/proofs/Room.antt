-- The store stays within its number of objects.
use Rattle.std.proofs.Common.{◌≡◌, ◌+◌, ◌≤◌, ℕ, Bool, true, false, not, ◌&&◌, cond, nat_le, arith}
use Rattle.std.proofs.lemmas.Bool.Decides.{nat_tests}

pub still_small : (b : Bool) (n : ℕ) → (not b && nat_le 256 n) ≡ false → n ≤ 256 → n + cond b 0 1 ≤ 256
still_small true n h le = omega arith
still_small false n h le = grind (arith, nat_tests)
