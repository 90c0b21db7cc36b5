-- Lists of numbers that grow by one, and tests over them.
use Rattle.std.proofs.Common.{◌≡◌, ℕ, zero, suc, ◌+◌, ◌<◌, ◌||◌, not, Bool, true, false, cond, List, [], ◌∷◌, ◌++◌, length, take, get_or, Option, Some, None, refl, ap, ◌∙◌, append-nil, arith}
use Rattle.std.specs.Prelude.{filter}
use Rattle.std.specs.List.{list_any, range_with_len}
use Rattle.std.proofs.lemmas.Bool.{cond-true, cond-false}
use Rattle.std.proofs.lemmas.List.Elements.{filter-append}
use Rattle.std.proofs.lemmas.List.Folds.{list_any-append}
use Rattle.std.proofs.Math.Seq.{take-suc}
use Rattle.card_maps.specs.Tables.{entry_name, names_in, unused_below}
use Rattle.card_maps.specs.declared.name.CardName.{CardName}

range_suc : (a n : ℕ) → range_with_len a (suc n) ≡ range_with_len a n ++ (a + n) ∷ []
range_suc a zero = ap (λ (k : ℕ). k ∷ []) (let e : a ≡ a + 0 = omega arith in e)
range_suc a (suc n) = ap (λ (l : List ℕ). a ∷ l) (range_suc (a + 1) n ∙ ap (λ (k : ℕ). range_with_len (a + 1) n ++ k ∷ []) (let e : a + 1 + n ≡ a + suc n = omega arith in e))

pub range_more : (a n : ℕ) → range_with_len a (n + 1) ≡ range_with_len a n ++ (a + n) ∷ []
range_more a n = ap (range_with_len a) (let e : n + 1 ≡ suc n = omega arith in e) ∙ range_suc a n

or_none : (x : Bool) → (x || false) ≡ x
or_none true = refl
or_none false = refl

-- a test of one more
pub any_more : (p : ℕ → Bool) (a n b : ℕ) → a + n ≡ b → list_any p (range_with_len a (n + 1)) ≡ (list_any p (range_with_len a n) || p b)
any_more p a n b is =
    ap (list_any p) (range_more a n) ∙ list_any-append p (range_with_len a n) ((a + n) ∷ [])
    ∙ ap (λ (x : Bool). list_any p (range_with_len a n) || x) (or_none (p (a + n)))
    ∙ ap (λ (k : ℕ). list_any p (range_with_len a n) || p k) is

pub filter_more_in : (p : ℕ → Bool) (n : ℕ) → p n ≡ true → filter p (range_with_len 0 (n + 1)) ≡ filter p (range_with_len 0 n) ++ n ∷ []
filter_more_in p n is =
    ap (filter p) (range_more 0 n) ∙ filter-append p (range_with_len 0 n) ((0 + n) ∷ [])
    ∙ ap (λ (k : ℕ). filter p (range_with_len 0 n) ++ filter p (k ∷ [])) (let e : 0 + n ≡ n = omega arith in e)
    ∙ ap (λ (l : List ℕ). filter p (range_with_len 0 n) ++ l) (cond-true (p n) (n ∷ []) [] is)

pub filter_more_out : (p : ℕ → Bool) (n : ℕ) → p n ≡ false → filter p (range_with_len 0 (n + 1)) ≡ filter p (range_with_len 0 n)
filter_more_out p n is =
    ap (filter p) (range_more 0 n) ∙ filter-append p (range_with_len 0 n) ((0 + n) ∷ [])
    ∙ ap (λ (k : ℕ). filter p (range_with_len 0 n) ++ filter p (k ∷ [])) (let e : 0 + n ≡ n = omega arith in e)
    ∙ ap (λ (l : List ℕ). filter p (range_with_len 0 n) ++ l) (cond-false (p n) (n ∷ []) [] is)
    ∙ append-nil (filter p (range_with_len 0 n))

-- the numbers of blocks that are not used, with one block more
pub unused_in : (used : List Bool) (n : ℕ) → get_or used n true ≡ false → unused_below used (n + 1) ≡ unused_below used n ++ n ∷ []
unfolding unused_below
unused_in used n is = filter_more_in (λ d. not (get_or used d true)) n (ap not is)

pub unused_out : (used : List Bool) (n : ℕ) → get_or used n true ≡ true → unused_below used (n + 1) ≡ unused_below used n
unfolding unused_below
unused_out used n is = filter_more_out (λ d. not (get_or used d true)) n (ap not is)

-- the names of one entry more
names_in-append : (xs ys : List (Option (List ℕ))) → names_in (xs ++ ys) ≡ names_in xs ++ names_in ys
names_in-append [] ys = refl
names_in-append (None ∷ xs) ys = names_in-append xs ys
names_in-append (Some block ∷ xs) ys = ap (λ (l : List CardName). entry_name block ∷ l) (names_in-append xs ys)

pub names_next : (xs : List (Option (List ℕ))) (i : ℕ) (e : Option (List ℕ)) → i < length xs → get_or xs i None ≡ e
    → names_in (take (i + 1) xs) ≡ names_in (take i xs) ++ names_in (e ∷ [])
names_next xs i e lt is =
    ap (λ (k : ℕ). names_in (take k xs)) (let one : i + 1 ≡ suc i = omega arith in one)
    ∙ ap names_in (take-suc xs i None lt) ∙ names_in-append (take i xs) (get_or xs i None ∷ [])
    ∙ ap (λ (o : Option (List ℕ)). names_in (take i xs) ++ names_in (o ∷ [])) is

pub names_some : (xs : List (Option (List ℕ))) (i : ℕ) (block : List ℕ) → i < length xs → get_or xs i None ≡ Some block
    → names_in (take (i + 1) xs) ≡ names_in (take i xs) ++ entry_name block ∷ []
names_some xs i block lt is = names_next xs i (Some block) lt is

pub names_none : (xs : List (Option (List ℕ))) (i : ℕ) → i < length xs → get_or xs i None ≡ None → names_in (take (i + 1) xs) ≡ names_in (take i xs)
names_none xs i lt is = names_next xs i None lt is ∙ append-nil (names_in (take i xs))

pub unused_next : (used : List Bool) (n : ℕ) → unused_below used (n + 1) ≡ cond (get_or used n true) (unused_below used n) (unused_below used n ++ n ∷ [])
unused_next used n = by_use (get_or used n true) refl
  where
    by_use : (x : Bool) → get_or used n true ≡ x → unused_below used (n + 1) ≡ cond x (unused_below used n) (unused_below used n ++ n ∷ [])
    by_use true is = unused_out used n is
    by_use false is = unused_in used n is

pub unused_none : (used : List Bool) → unused_below used 0 ≡ []
unfolding unused_below
unused_none used = refl
