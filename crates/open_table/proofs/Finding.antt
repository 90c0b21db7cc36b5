-- A record that is found is held, and has the least key of those that pass.
use Rattle.std.proofs.Common.{◌≡◌, ◌==◌, ℕ, Bool, true, false, cond, List, [], ◌∷◌, Option, None, Some, IsSome, find, refl, eq-eqb, zero, suc, ◌+◌, ◌≤◌, get_or, arith}
use Rattle.slab.specs.Slab.{entries_from}
use Rattle.std.specs.Map.{lookup}
use Rattle.std.specs.Option.{option_map}

module _ {X : Type 0} (test : ℕ × X → Bool) (key : ℕ) where
  abbrev found_key : Option (ℕ × X) → Option ℕ
  found_key e = option_map (λ e. e.0) e

  abbrev held : List (ℕ × X) → Option X
  held entries = lookup (λ k. k == key) entries

  IsSome-either : (here : Bool) (x : X) (later : Option X) → IsSome later → IsSome (cond here (Some x) later)
  IsSome-either true x later h = refl
  IsSome-either false x later h = h

  held_here : (e : ℕ × X) (later : Option X) → Some e.0 ≡ Some key → IsSome (cond (e.0 == key) (Some e.1) later)
  held_here e later found = let same : e.0 ≡ key = cc in rw (eq-eqb e.0 key same) refl

  pub IsSome-held : (entries : List (ℕ × X)) → found_key (find test entries) ≡ Some key → IsSome (held entries)
  IsSome-held [] found = absurd (cc)
  IsSome-held (e ∷ entries) found = by_test (test e) (λ h. IsSome-held entries h) found
    where
      by_test : (b : Bool) → (found_key (find test entries) ≡ Some key → IsSome (held entries)) → found_key (cond b (Some e) (find test entries)) ≡ Some key → IsSome (cond (e.0 == key) (Some e.1) (held entries))
      by_test true rest found = held_here e (held entries) found
      by_test false rest found = IsSome-either (e.0 == key) e.1 (held entries) (rest found)

module _ {T : Type 0} (test : T → Bool) (key : ℕ) where
  abbrev of_value : ℕ × T → Bool
  of_value e = test e.1

  -- the record of the first slot passes, or the key is that of a later one
  least_here : (b : Bool) (first i : ℕ) (value : T) (rest : List (Option T)) (other : T) → test value ≡ b → option_map (λ e. e.0) (cond b (Some (first, value)) (find of_value (entries_from (first + 1) rest))) ≡ Some key → get_or (Some value ∷ rest) i None ≡ Some other → test other ≡ true → (option_map (λ e. e.0) (find of_value (entries_from (first + 1) rest)) ≡ Some key → (j : ℕ) → get_or rest j None ≡ Some other → key ≤ first + 1 + j) → key ≤ first + i
  least_here true first i value rest other is found at passes later = let e : first ≡ key = cc in omega arith
  least_here false first zero value rest other is found at passes later =
      let h : Some value ≡ Some other = at in
      let e : value ≡ other = cc in
      absurd (cc)
  least_here false first (suc i) value rest other is found at passes later = omega (arith, later found i at)

  -- the first record that passes has the least key of those that do
  pub found-least : (first : ℕ) (slots : List (Option T)) → option_map (λ e. e.0) (find of_value (entries_from first slots)) ≡ Some key → (i : ℕ) (other : T) → get_or slots i None ≡ Some other → test other ≡ true → key ≤ first + i
  found-least first [] found i other at passes = absurd (cc)
  found-least first (None ∷ rest) found zero other at passes = let h : None ≡ Some other = at in absurd (cc)
  found-least first (None ∷ rest) found (suc i) other at passes = omega (arith, found-least (first + 1) rest found i other at passes)
  found-least first (Some value ∷ rest) found i other at passes =
      least_here (test value) first i value rest other refl found at passes (λ later j h. found-least (first + 1) rest later j other h passes)
