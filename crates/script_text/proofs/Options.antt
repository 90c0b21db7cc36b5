-- Options that hold nothing.
use Rattle.std.proofs.Common.{◌≡◌, Option, Some, None, refl}

pub none_unless : {X : Type 0} (o : Option X) → ¬ ((x : X) × (o ≡ Some x)) → o ≡ None
none_unless None h = refl
none_unless (Some x) h = absurd (h (x, refl))
