-- Answers that are made of answers.
use Rattle.std.proofs.Common.{◌≡◌, Bool, true, false, cond, Option, Some, None, Result, Ok, Err, refl, ap, ◌∙◌}
use Rattle.image_audit.specs.Checking.{and_then, fault_as, some_or}

-- where the whole is Ok, so is the first
pub then_ok : {A B E : Type 0} (r : Result A E) (f : A → Result B E) (b : B) → and_then r f ≡ Ok b → (a : A) × (r ≡ Ok a) × (f a ≡ Ok b)
then_ok (Ok a) f b is = (a, refl, is)
then_ok (Err fault) f b is = absurd (cc (is))

pub as_ok : {A E F : Type 0} (f : E → F) (r : Result A E) (a : A) → fault_as f r ≡ Ok a → r ≡ Ok a
as_ok f (Ok x) a is = let e : x ≡ a = cc (is) in ap (λ y. Ok y) e
as_ok f (Err fault) a is = absurd (cc (is))

pub some_ok : {A E : Type 0} (o : Option A) (fault : E) (a : A) → some_or o fault ≡ Ok a → o ≡ Some a
some_ok (Some x) fault a is = let e : x ≡ a = cc (is) in ap (λ y. Some y) e
some_ok None fault a is = absurd (cc (is))

pub test_ok : {A E : Type 0} (b : Bool) (x a : A) (fault : E) → cond b (Ok x) (Err fault) ≡ Ok a → (b ≡ true) × (x ≡ a)
test_ok true x a fault is = (refl, cc (is))
test_ok false x a fault is = absurd (cc (is))

pub test_not : {A E : Type 0} (b : Bool) (r : Result A E) (a : A) (fault : E) → cond b (Err fault) r ≡ Ok a → (b ≡ false) × (r ≡ Ok a)
test_not true r a fault is = absurd (cc (is))
test_not false r a fault is = (refl, is)

-- the whole is what follows of the first
pub then_is : {A B E : Type 0} (r : Result A E) (f : A → Result B E) (a : A) (b : Result B E) → r ≡ Ok a → f a ≡ b → and_then r f ≡ b
then_is r f a b is next = ap (λ x. and_then x f) is ∙ next

pub then_err : {A B E : Type 0} (r : Result A E) (f : A → Result B E) (fault : E) → r ≡ Err fault → and_then r f ≡ Err fault
then_err r f fault is = ap (λ x. and_then x f) is
