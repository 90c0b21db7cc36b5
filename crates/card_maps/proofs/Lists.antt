-- Entries and objects under another map block, or beside another block.
use Rattle.std.proofs.Common.{◌≡◌, ◌≢◌, ℕ, zero, suc, ◌+◌, ◌-◌, ◌<◌, ◌≤◌, ◌==◌, ◌||◌, Bool, true, false, cond, List, [], ◌∷◌, map, take, refl, sym, ap, ◌∙◌, subst, arith}
use Rattle.std.specs.Prelude.{nat_le}
use Rattle.std.specs.List.{list_any, range_with_len}
use Rattle.std.proofs.lemmas.Bool.{cond-true, cond-false, eq-eqb, or_left, or_right}
use Rattle.store_model.specs.Name.{name_eq}
use Rattle.card_maps.specs.Form.{data_blocks, front_fault, name_in, number_at, numbers_in, rest_fault, size_in}
use Rattle.card_maps.specs.CardMaps.{Blocks, Live, has_number, joined, object_in, objects_from}
use Rattle.card_maps.specs.Puts.{with_block}
use Rattle.card_maps.proofs.Ranges.{any_none, differ, none_any}
use Rattle.card_maps.proofs.Entries.{IsEntry, IsGood}

pub written_off : (blocks : Blocks) (b c : ℕ) (bytes : List ℕ) → c ≢ b → with_block blocks b bytes c ≡ blocks c
written_off blocks b c bytes ne = cond-false (c == b) bytes (blocks c) (differ c b ne)

pub written_at : (blocks : Blocks) (b : ℕ) (bytes : List ℕ) → with_block blocks b bytes b ≡ bytes
written_at blocks b bytes = cond-true (b == b) bytes (blocks b) (eq-eqb b b refl)

pub map_alike : (f g : ℕ → List ℕ) (xs : List ℕ) → ((d : ℕ) → list_any (λ e. e == d) xs ≡ true → f d ≡ g d) → map f xs ≡ map g xs
map_alike f g [] each = refl
map_alike f g (x ∷ xs) each =
    let here : f x ≡ g x = each x (or_left (x == x) (list_any (λ e. e == x) xs) (eq-eqb x x refl)) in
    let rest : map f xs ≡ map g xs = map_alike f g xs (λ d is. each d (or_right (x == d) (list_any (λ e. e == d) xs) is)) in
    λ i. here i ∷ rest i

pub any_map : (p : ℕ → Bool) (f : ℕ → ℕ) (xs : List ℕ) → list_any p (map f xs) ≡ list_any (λ x. p (f x)) xs
any_map p f [] = refl
any_map p f (x ∷ xs) = ap (λ (r : Bool). p (f x) || r) (any_map p f xs)

-- a number that none of the entry's is
pub no_number : (block : List ℕ) (d : ℕ) → ((i : ℕ) → i < data_blocks (size_in block) → (number_at block i == d) ≡ false) → has_number block d ≡ false
no_number block d each =
    any_map (λ e. e == d) (number_at block) (range_with_len 0 (data_blocks (size_in block)))
    ∙ any_none (λ i. number_at block i == d) 0 (data_blocks (size_in block)) (λ i ge lt. each i (omega (arith, lt)))

pub number_none : (block : List ℕ) (d : ℕ) → has_number block d ≡ false → (i : ℕ) → i < data_blocks (size_in block) → (number_at block i == d) ≡ false
number_none block d none i lt =
    none_any (λ j. number_at block j == d) 0 (data_blocks (size_in block)) (sym (any_map (λ e. e == d) (number_at block) (range_with_len 0 (data_blocks (size_in block)))) ∙ none) i (omega arith) (omega (arith, lt))

-- an entry stays one
pub moved_entry : (blocks other : Blocks) (live next : Live) (b : ℕ) → IsEntry blocks live b → other b ≡ blocks b
    → ((c : ℕ) → 2 ≤ c → c < b → next c ≡ true → name_eq (name_in (other c)) (name_in (blocks b)) ≡ false)
    → ((i : ℕ) → i < data_blocks (size_in (blocks b)) → next (number_at (blocks b) i) ≡ false)
    → ((c : ℕ) → 2 ≤ c → c < b → next c ≡ true → (i : ℕ) → i < data_blocks (size_in (blocks b)) → has_number (other c) (number_at (blocks b) i) ≡ false)
    → IsEntry other next b
moved_entry blocks other live next b e same names dead apart = record {
  single = λ c ge lt aye. ap (λ (x : List ℕ). name_eq (name_in (other c)) (name_in x)) same ∙ names c ge lt aye;
  front = ap front_fault same ∙ e.front;
  numbers = λ i lt. one i (subst (λ (x : List ℕ). i < data_blocks (size_in x)) same lt);
  rest = ap rest_fault same ∙ e.rest;
}
  where
    one : (i : ℕ) → i < data_blocks (size_in (blocks b)) → IsGood other next b i
    one i lt = record {
      low = ap (λ (x : List ℕ). nat_le 2 (number_at x i)) same ∙ (e.numbers i lt).low;
      dead = ap (λ (x : List ℕ). next (number_at x i)) same ∙ dead i lt;
      distinct = λ j before. ap (λ (x : List ℕ). number_at x j == number_at x i) same ∙ (e.numbers i lt).distinct j before;
      apart = λ c ge below aye. ap (λ (x : List ℕ). has_number (other c) (number_at x i)) same ∙ apart c ge below aye i lt;
    }

-- an object of an entry whose blocks are the same
pub same_object : (blocks other : Blocks) (c : ℕ) → other c ≡ blocks c → ((d : ℕ) → has_number (blocks c) d ≡ true → other d ≡ blocks d) → object_in other c ≡ object_in blocks c
same_object blocks other c same each =
    let texts : map other (numbers_in (other c)) ≡ map blocks (numbers_in (blocks c)) =
    ap (λ (x : List ℕ). map other (numbers_in x)) same ∙ map_alike other blocks (numbers_in (blocks c)) each in
    λ i. record { name = name_in (same i); bytes = take (size_in (same i)) (joined (texts i)) }

pub objects_alike : (blocks other : Blocks) (live next : Live) (a n : ℕ) → ((c : ℕ) → a ≤ c → c < a + n → next c ≡ live c)
    → ((c : ℕ) → a ≤ c → c < a + n → live c ≡ true → object_in other c ≡ object_in blocks c) → objects_from other next a n ≡ objects_from blocks live a n
unfolding objects_from
objects_alike blocks other live next a zero same each = refl
objects_alike blocks other live next a (suc n) same each =
    let rest : objects_from other next (a + 1) n ≡ objects_from blocks live (a + 1) n =
    objects_alike blocks other live next (a + 1) n (λ c ge lt. same c (omega (arith, ge)) (omega (arith, lt))) (λ c ge lt. each c (omega (arith, ge)) (omega (arith, lt))) in
    ap (λ (x : Bool). cond x (object_in other a ∷ objects_from other next (a + 1) n) (objects_from other next (a + 1) n)) (same a (omega arith) (omega arith))
    ∙ by_live (live a) refl rest
  where
    by_live : (x : Bool) → live a ≡ x → objects_from other next (a + 1) n ≡ objects_from blocks live (a + 1) n
        → cond x (object_in other a ∷ objects_from other next (a + 1) n) (objects_from other next (a + 1) n) ≡ cond x (object_in blocks a ∷ objects_from blocks live (a + 1) n) (objects_from blocks live (a + 1) n)
    by_live true aye rest = let here : object_in other a ≡ object_in blocks a = each a (omega arith) (omega arith) aye in λ i. here i ∷ rest i
    by_live false nay rest = rest
