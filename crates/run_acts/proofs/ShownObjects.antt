-- The object that is shown is the one that is meant: its bad blocks are listed in rising order.
use Rattle.std.proofs.Common.{◌≡◌, ◌∙◌, ◌<◌, ◌≤◌, ◌==◌, ◌||◌, ℕ, zero, suc, Bool, true, false, cond, nat_le, nat_lt, slice_index_or, if◌then◌else◌, List, [], ◌∷◌, ◌++◌, length, refl, sym, ap, inl, inr, arith, append-nil}
use Rattle.std.proofs.lemmas.Bool.{cases_lt}
use Rattle.std.proofs.lemmas.Bool.Decides.{nat_tests}
use Rattle.std.specs.List.{AllByRecursion}
use Rattle.std.specs.List.Sorted.{IsStrictlySortedBy}
use Rattle.std.specs.Ordering.{nat_cmp}
use Rattle.std.specs.declared.cmp.Ordering.TheVariants.{Less, Equal, Greater}
use Rattle.tree_paths.specs.Paths.{holds}
use Rattle.store_model.specs.Object.{Object, Damaged as DamagedObject, Sound as SoundObject}
use Rattle.store_model.specs.Sound.{IsBadBlock, IsObject}
use Rattle.object_calls.specs.declared.shown_object.ShownObject.{ShownObject}
use Rattle.object_calls.specs.declared.shown_object.ShownObject.TheVariants.{Damaged, Sound}
use Rattle.object_calls.specs.ShownObjects.{ShowsObject, is_among}
use Rattle.run_acts.specs.LineObjects.{object_shown}
use Rattle.script_text.specs.BadBlocks.{passing}

-- the first numbers of a list, up to one
abbrev upto : (last : ℕ) → List ℕ → List ℕ
upto n [] = []
upto n (x ∷ xs) = cond (nat_le x n) (x ∷ upto n xs) []

-- each number is above
abbrev pub AreAbove : ℕ → List ℕ → Type 0
AreAbove n [] = Unit {0}
AreAbove n (x ∷ xs) = (n < x) × AreAbove n xs

abbrev pub AreRising : List ℕ → Type 0
AreRising [] = Unit {0}
AreRising (x ∷ xs) = AreAbove x xs × AreRising xs

-- each number is from 1 to 256
abbrev pub AreNodes : List ℕ → Type 0
AreNodes [] = Unit {0}
AreNodes (x ∷ xs) = (1 ≤ x) × (x ≤ 256) × AreNodes xs

upto-above : (n : ℕ) (xs : List ℕ) → AreAbove n xs → upto n xs ≡ []
upto-above n [] above = refl
upto-above n (x ∷ xs) above = let off : nat_le x n ≡ false = grind (arith, nat_tests, above.0) in ap (λ (b : Bool). cond b (x ∷ upto n xs) []) off

among-above : (n : ℕ) (xs : List ℕ) → AreAbove n xs → is_among xs n ≡ false
among-above n [] above = refl
among-above n (x ∷ xs) above = let off : (x == n) ≡ false = grind (arith, nat_tests, above.0) in ap (λ (b : Bool). b || is_among xs n) off ∙ among-above n xs above.1

above-then : (m n : ℕ) (xs : List ℕ) → m ≤ n → AreAbove n xs → AreAbove m xs
above-then m n [] le above = tt
above-then m n (x ∷ xs) le above = (omega (arith, le, above.0), above-then m n xs le above.1)

added : ℕ → Bool → List ℕ
added n b = cond b (n ∷ []) []

upto-more : (n : ℕ) (xs : List ℕ) → AreRising xs → upto (suc n) xs ≡ upto n xs ++ cond (is_among xs (suc n)) (suc n ∷ []) []
upto-more n [] rising = refl
upto-more n (x ∷ xs) rising = elim (cases_lt n x) [
  | inr low ↦
      let here : nat_le x n ≡ true = grind (arith, nat_tests, low) in
      let there : nat_le x (suc n) ≡ true = grind (arith, nat_tests, low) in
      let off : (x == suc n) ≡ false = grind (arith, nat_tests, low) in
      ap (λ (b : Bool). cond b (x ∷ upto (suc n) xs) []) there ∙ ap (λ (l : List ℕ). x ∷ l) (upto-more n xs rising.1)
      ∙ ap (λ (b : Bool). cond b (x ∷ upto n xs) [] ++ cond (is_among xs (suc n)) (suc n ∷ []) []) (sym here)
      ∙ ap (λ (b : Bool). upto n (x ∷ xs) ++ cond (b || is_among xs (suc n)) (suc n ∷ []) []) (sym off)
  | inl high ↦ elim (cases_lt (suc n) x) [
    | inl higher ↦
        let here : nat_le x n ≡ false = grind (arith, nat_tests, high) in
        let none : is_among (x ∷ xs) (suc n) ≡ false = among-above (suc n) (x ∷ xs) (higher, above-then (suc n) x xs (omega (arith, higher)) rising.0) in
        upto-above (suc n) (x ∷ xs) (higher, above-then (suc n) x xs (omega (arith, higher)) rising.0)
        ∙ ap (λ (b : Bool). cond b (x ∷ upto n xs) []) (sym here)
        ∙ sym (append-nil (upto n (x ∷ xs)))
        ∙ ap (λ (b : Bool). upto n (x ∷ xs) ++ cond b (suc n ∷ []) []) (sym none)
    | inr same ↦
        let is : x ≡ suc n = omega (arith, high, same) in
        let here : nat_le x n ≡ false = grind (arith, nat_tests, high) in
        let there : nat_le x (suc n) ≡ true = grind (arith, nat_tests, same) in
        let found : (x == suc n) ≡ true = grind (arith, nat_tests, is) in
        let rest : upto (suc n) xs ≡ [] = upto-above (suc n) xs (above-then (suc n) x xs (omega (arith, is)) rising.0) in
        ap (λ (b : Bool). cond b (x ∷ upto (suc n) xs) []) there ∙ ap (λ (l : List ℕ). x ∷ l) rest ∙ ap (λ (k : ℕ). k ∷ []) is
        ∙ ap (λ (b : Bool). cond b (x ∷ upto n xs) [] ++ suc n ∷ []) (sym here)
        ∙ ap (λ (b : Bool). upto n (x ∷ xs) ++ cond (b || is_among xs (suc n)) (suc n ∷ []) []) (sym found)
  ]
]

upto-none : (xs : List ℕ) → AreNodes xs → upto 0 xs ≡ []
upto-none [] nodes = refl
upto-none (x ∷ xs) nodes = let off : nat_le x 0 ≡ false = grind (arith, nat_tests, nodes.0) in ap (λ (b : Bool). cond b (x ∷ upto 0 xs) []) off

upto-whole : (xs : List ℕ) → AreNodes xs → upto 256 xs ≡ xs
upto-whole [] nodes = refl
upto-whole (x ∷ xs) nodes = let on : nat_le x 256 ≡ true = grind (arith, nat_tests, nodes.1) in ap (λ (b : Bool). cond b (x ∷ upto 256 xs) []) on ∙ ap (λ (l : List ℕ). x ∷ l) (upto-whole xs nodes.2)

passing-upto : (test : ℕ → Bool) (xs : List ℕ) → AreRising xs → AreNodes xs → ((k : ℕ) → test k ≡ is_among xs k) → (n : ℕ) → passing test n ≡ upto n xs
unfolding passing
passing-upto test xs rising nodes same zero = sym (upto-none xs nodes)
passing-upto test xs rising nodes same (suc n) =
    ap (λ (l : List ℕ). l ++ (if test (suc n) then suc n ∷ [] else [])) (passing-upto test xs rising nodes same n)
    ∙ ap (λ (b : Bool). upto n xs ++ (if b then suc n ∷ [] else [])) (same (suc n))
    ∙ sym (upto-more n xs rising)

pub passing-all : (test : ℕ → Bool) (xs : List ℕ) → AreRising xs → AreNodes xs → ((k : ℕ) → test k ≡ is_among xs k) → passing test 256 ≡ xs
passing-all test xs rising nodes same = passing-upto test xs rising nodes same 256 ∙ upto-whole xs nodes

-- the bad blocks of an object rise, and are nodes
abbrev pub HasBlocks : Object → Type 0
HasBlocks (SoundObject c) = AreRising c.bad × AreNodes c.bad
HasBlocks (DamagedObject size) = Unit {0}

pub object_shown-is : (shown : ShownObject) (size : ℕ) (object : Object) → ShowsObject shown size object → HasBlocks object → object_shown shown size ≡ object
object_shown-is Damaged size (DamagedObject known) shows blocks = ap DamagedObject shows
object_shown-is Damaged size (SoundObject c) shows blocks = absurd shows
object_shown-is (Sound attributes bytes bad) size (DamagedObject known) shows blocks = absurd shows
object_shown-is (Sound attributes bytes bad) size (SoundObject c) shows blocks =
    let is : passing (holds bad) 256 ≡ c.bad = passing-all (holds bad) c.bad blocks.0 blocks.1 shows.1.bad_are in
    λ i. SoundObject (record { attributes = shows.1.attributes_are i; bytes = shows.1.bytes_are i; bad = is i })

-- what an object has, as these words say it
less_is : (x y : ℕ) → nat_cmp x y ≡ Less → x < y
less_is x y is = elim (cases_lt x y) [
  | inl lt ↦ lt
  | inr le ↦
      let off : nat_lt x y ≡ false = grind (arith, nat_tests, le) in
      absurd (not_less (x == y) (sym (ap (λ (b : Bool). cond b Less (cond (x == y) Equal Greater)) off) ∙ is))
]
  where
    not_less : (b : Bool) → cond b Equal Greater ≡ Less → ⊥
    not_less true same = cc
    not_less false same = cc

above-sorted : (x : ℕ) (xs : List ℕ) → AllByRecursion (λ y. nat_cmp x y ≡ Less) xs → AreAbove x xs
above-sorted x [] all = tt
above-sorted x (y ∷ xs) all = (less_is x y all.0, above-sorted x xs all.1)

pub rising-sorted : (xs : List ℕ) → IsStrictlySortedBy nat_cmp xs → AreRising xs
unfolding IsStrictlySortedBy
rising-sorted [] sorted = tt
rising-sorted (x ∷ xs) sorted = (above-sorted x xs sorted.0, rising-sorted xs sorted.1)

nodes-bad : (bytes xs : List ℕ) → length bytes ≤ 1044480 → ((k d : ℕ) → k < length xs → IsBadBlock bytes (slice_index_or xs k d)) → AreNodes xs
nodes-bad bytes [] fit bad = tt
nodes-bad bytes (x ∷ xs) fit bad =
    let here = bad 0 0 (omega arith) in
    let low = here.numbered in
    let high = here.within in
    (low, omega (arith, high, fit), nodes-bad bytes xs fit (λ k d lt. bad (suc k) d (omega (arith, lt))))

pub has_blocks : (object : Object) → IsObject object → HasBlocks object
has_blocks (SoundObject c) is = (rising-sorted c.bad is.bad_rising, nodes-bad c.bytes c.bad is.bytes_fit is.bad)
has_blocks (DamagedObject size) is = tt
