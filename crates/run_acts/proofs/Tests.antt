-- Tests that are joined.
use Rattle.std.proofs.Common.{◌≡◌, ◌||◌, Bool, true, false, refl}

pub or-assoc : (a b c : Bool) → ((a || b) || c) ≡ (a || (b || c))
or-assoc true b c = refl
or-assoc false b c = refl

-- one that is not so changes nothing
pub or-none : (a b : Bool) → b ≡ false → (a || b) ≡ a
or-none true b none = refl
or-none false b none = none

pub or-moved : (a b c : Bool) → ((a || c) || b) ≡ ((a || b) || c)
or-moved true b c = refl
or-moved false true true = refl
or-moved false true false = refl
or-moved false false true = refl
or-moved false false false = refl
