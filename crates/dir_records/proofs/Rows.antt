-- Rows of tests: the first that is not passed.
use Rattle.std.proofs.Common.{◌≡◌, ℕ, ◌≤◌, List, [], ◌∷◌, Bool, true, false, not, ◌==◌, nat_lt, Option, None, find, refl, arith}
use Rattle.std.specs.Option.{option_map}
use Rattle.dir_records.specs.Form.{is_upto}

-- what the first row tells whose test is not passed
abbrev pub fault_of : List (Bool × ℕ) → Option ℕ
fault_of rows = option_map (λ t. t.1) (find (λ t. t.0) rows)

-- each test is passed
abbrev pub EachPasses : List (Bool × ℕ) → Type 0
EachPasses [] = Unit {0}
EachPasses (t ∷ rows) = (t.0 ≡ false) × EachPasses rows

pub fault_of-passed : (rows : List (Bool × ℕ)) → EachPasses rows → fault_of rows ≡ None
fault_of-passed [] all = refl
fault_of-passed ((true, n) ∷ rows) all = absurd (cc all.0)
fault_of-passed ((false, n) ∷ rows) all = fault_of-passed rows all.1

pub each_passes : (rows : List (Bool × ℕ)) → fault_of rows ≡ None → EachPasses rows
each_passes [] none = tt
each_passes ((true, n) ∷ rows) none = absurd (cc none)
each_passes ((false, n) ∷ rows) none = (refl, each_passes rows none)

-- what a test says
pub within : (most n : ℕ) → 1 ≤ n → n ≤ most → not (is_upto most n) ≡ false
within most n low high = grind arith

pub upto : (most n : ℕ) → not (is_upto most n) ≡ false → (1 ≤ n) × (n ≤ most)
upto most n passed = grind arith

pub below : (most n : ℕ) → n ≤ most → nat_lt most n ≡ false
below most n low = grind arith

pub at_most : (most n : ℕ) → nat_lt most n ≡ false → n ≤ most
at_most most n passed = grind arith

pub equal : (n m : ℕ) → n ≡ m → not (n == m) ≡ false
equal n m same = grind arith

pub is_equal : (n m : ℕ) → not (n == m) ≡ false → n ≡ m
is_equal n m passed = grind arith

pub is_true : (t : Bool) → not t ≡ false → t ≡ true
is_true true passed = refl
is_true false passed = absurd (cc passed)
