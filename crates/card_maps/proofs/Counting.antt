-- The blocks that are not used are those that the map leaves free.
use Rattle.std.proofs.Common.{◌≡◌, ◌≢◌, inl, inr, ℕ, zero, suc, ◌+◌, ◌-◌, ◌*◌, ◌<◌, ◌≤◌, ◌==◌, ◌&&◌, ◌||◌, Bool, true, false, cond, List, [], ◌∷◌, ◌++◌, length, map, get_or, refl, sym, ap, ◌∙◌, true≢false, length-append, arith}
use Rattle.std.specs.Prelude.{nat_lt}
use Rattle.std.specs.List.{list_any, range_with_len}
use Rattle.std.proofs.lemmas.Bool.{and_from, and_parts, cases_Bool, cases_lt, eq-eqb, eqb-true, ltb-true, or_left, or_right}
use Rattle.card_maps.specs.Form.{data_blocks, number_at, size_in}
use Rattle.card_maps.specs.CardMaps.{Blocks, Live, has_number, joined}
use Rattle.card_maps.specs.Puts.{bit}
use Rattle.card_maps.specs.Tables.{is_used, unused_below, uses}
use Rattle.card_maps.proofs.Ranges.{differ}
use Rattle.card_maps.proofs.Entries.{AreEntries}
use Rattle.card_maps.proofs.Lists.{any_map}
use Rattle.card_maps.proofs.Steps.{any_more, unused_next}
use Rattle.card_maps.proofs.Users.{IsUser, any_some, bool_ext, number_of, one_user, some_any, used_user, user_up, user_used}

-- how many numbers below n pass a test
abbrev pub count : (ℕ → Bool) → ℕ → ℕ
count p zero = 0
count p (suc n) = bit (p n) + count p n

pub count_alike : (p q : ℕ → Bool) (n : ℕ) → ((d : ℕ) → d < n → p d ≡ q d) → count p n ≡ count q n
count_alike p q zero same = refl
count_alike p q (suc n) same =
    let here : p n ≡ q n = same n (omega arith) in
    let rest : count p n ≡ count q n = count_alike p q n (λ d lt. same d (omega (arith, lt))) in
    λ i. bit (here i) + rest i

count_none : (p : ℕ → Bool) (n : ℕ) → ((d : ℕ) → d < n → p d ≡ false) → count p n ≡ 0
count_none p zero none = refl
count_none p (suc n) none = (λ i. bit (none n (omega arith) i) + count p n) ∙ omega (arith, count_none p n (λ d lt. none d (omega (arith, lt))))

count_or : (p q : ℕ → Bool) (n : ℕ) → ((d : ℕ) → d < n → p d ≡ true → q d ≡ true → ⊥) → count (λ d. p d || q d) n ≡ count p n + count q n
count_or p q zero apart = refl
count_or p q (suc n) apart =
    let rest = count_or p q n (λ d lt. apart d (omega (arith, lt))) in
    omega (arith, one (p n) (q n) (apart n (omega arith)), rest)
  where
    one : (a b : Bool) → (a ≡ true → b ≡ true → ⊥) → bit (a || b) ≡ bit a + bit b
    one true true not = absurd (not refl refl)
    one true false not = refl
    one false b not = (let e : bit b ≡ 0 + bit b = omega arith in e)

count_one : (p : ℕ → Bool) (c n : ℕ) → c < n → p c ≡ true → ((d : ℕ) → d ≢ c → p d ≡ false) → count p n ≡ 1
count_one p c zero lt here others = absurd (omega (arith, lt))
count_one p c (suc n) lt here others = elim (cases_lt c n) [
  | inl below ↦
      let none : bit (p n) ≡ 0 = ap bit (others n (λ e. absurd (omega (arith, e, below)))) in
      omega (arith, none, count_one p c n below here others)
  | inr ge ↦
      let same : n ≡ c = omega (arith, ge, lt) in
      let one : bit (p n) ≡ 1 = ap bit (ap p same ∙ here) in
      omega (arith, one, count_none p n (λ d less. others d (λ e. absurd (omega (arith, e, less, same)))))
]

-- so many blocks are not used
pub unused_count : (used : List Bool) (n : ℕ) → length (unused_below used n) + count (λ d. get_or used d true) n ≡ n
unfolding unused_below
unused_count used zero = refl
unused_count used (suc n) =
    let next : unused_below used (suc n) ≡ cond (get_or used n true) (unused_below used n) (unused_below used n ++ n ∷ []) =
    ap (unused_below used) (let e : suc n ≡ n + 1 = omega arith in e) ∙ unused_next used n in
    by_use (get_or used n true) next (unused_count used n)
  where
    by_use : (x : Bool) → unused_below used (suc n) ≡ cond x (unused_below used n) (unused_below used n ++ n ∷ []) → length (unused_below used n) + count (λ d. get_or used d true) n ≡ n
        → length (unused_below used (suc n)) + (bit x + count (λ d. get_or used d true) n) ≡ suc n
    by_use true is before = omega (arith, ap length is, before)
    by_use false is before = omega (arith, ap length is, length-append (unused_below used n) (n ∷ []), before)

-- ENTRY BY ENTRY
module _ (blocks : Blocks) (live : Live) (entries : AreEntries blocks live) (bytes : (c i : ℕ) → 2 ≤ c → c < 256 → live c ≡ true → i < data_blocks (size_in (blocks c)) → number_at (blocks c) i < 256) where
  abbrev has_upto : (c i : ℕ) → ℕ → Bool
  has_upto c i d = list_any (λ j. number_at (blocks c) j == d) (range_with_len 0 i)

  numbers_count : (c : ℕ) → 2 ≤ c → c < 256 → live c ≡ true → (i : ℕ) → i ≤ data_blocks (size_in (blocks c)) → count (has_upto c i) 256 ≡ i
  numbers_count c ge lt on zero le = count_none (has_upto c 0) 256 (λ d less. refl)
  numbers_count c ge lt on (suc i) le =
      split
      ∙ count_or (has_upto c i) (λ d. number_at (blocks c) i == d) 256 apart
      ∙ (λ k. numbers_count c ge lt on i (omega (arith, le)) k + one k)
      ∙ (let e : i + 1 ≡ suc i = omega arith in e)
    where
      split : count (has_upto c (suc i)) 256 ≡ count (λ d. has_upto c i d || (number_at (blocks c) i == d)) 256
      split = count_alike (has_upto c (suc i)) (λ d. has_upto c i d || (number_at (blocks c) i == d)) 256
          (λ d less. ap (λ (k : ℕ). has_upto c k d) (let e : suc i ≡ i + 1 = omega arith in e) ∙ any_more (λ j. number_at (blocks c) j == d) 0 i i (omega arith))

      apart : (d : ℕ) → d < 256 → has_upto c i d ≡ true → (number_at (blocks c) i == d) ≡ true → ⊥
      apart d less seen here =
          let j = any_some (λ k. number_at (blocks c) k == d) 0 i seen in
          let was = (entries c ge lt on).numbers i (omega (arith, le)) in
          let same : number_at (blocks c) j.0 ≡ number_at (blocks c) i = eqb-true (number_at (blocks c) j.0) d j.3 ∙ sym (eqb-true (number_at (blocks c) i) d here) in
          true≢false (sym (eq-eqb (number_at (blocks c) j.0) (number_at (blocks c) i) same) ∙ was.distinct j.0 (omega (arith, j.2)))

      one : count (λ d. number_at (blocks c) i == d) 256 ≡ 1
      one = count_one (λ d. number_at (blocks c) i == d) (number_at (blocks c) i) 256 (bytes c i ge lt on (omega (arith, le))) (eq-eqb (number_at (blocks c) i) (number_at (blocks c) i) refl)
          (λ d other. differ (number_at (blocks c) i) d (λ e. other (sym e)))

  entry_count : (c : ℕ) → 2 ≤ c → c < 256 → live c ≡ true → count (uses (blocks c) c) 256 ≡ 1 + data_blocks (size_in (blocks c))
  entry_count c ge lt on =
      count_or (λ d. d == c) (has_number (blocks c)) 256 (λ d less own has.
      let i = number_of (blocks c) d has in
      true≢false (sym on ∙ ap live (sym (i.2 ∙ eqb-true d c own)) ∙ ((entries c ge lt on).numbers i.0 i.1).dead))
      ∙ (λ i. count_one (λ d. d == c) c 256 lt (eq-eqb c c refl) (λ d other. differ d c other) i
      + (count_alike (has_number (blocks c)) (has_upto c (data_blocks (size_in (blocks c)))) 256 (λ d less. any_map (λ e. e == d) (number_at (blocks c)) (range_with_len 0 (data_blocks (size_in (blocks c)))))
      ∙ numbers_count c ge lt on (data_blocks (size_in (blocks c))) (omega arith)) i)

  -- how many blocks the entries of a range use
  abbrev pub weight : (a n : ℕ) → ℕ
  weight a zero = 0
  weight a (suc n) = cond (live a) (1 + data_blocks (size_in (blocks a))) 0 + weight (a + 1) n

  abbrev used_in : (a n : ℕ) → ℕ → Bool
  used_in a n d = list_any (λ c. live c && uses (blocks c) c d) (range_with_len a n)

  user_in : (a n d : ℕ) → 2 ≤ a → a + n ≤ 256 → used_in a n d ≡ true → (c : ℕ) × (a ≤ c) × IsUser blocks live d c
  user_in a n d low high is =
      let some = any_some (λ c. live c && uses (blocks c) c d) a n is in
      let both = and_parts (live some.0) (uses (blocks some.0) some.0 d) some.3 in
      (some.0, some.1, record { low = omega (arith, some.1, low); high = omega (arith, some.2, high); on = both.0; with = both.1 })

  weigh : (a n : ℕ) → 2 ≤ a → a + n ≤ 256 → count (used_in a n) 256 ≡ weight a n
  weigh a zero low high = count_none (used_in a 0) 256 (λ d less. refl)
  weigh a (suc n) low high =
      count_or (λ d. live a && uses (blocks a) a d) (used_in (a + 1) n) 256 (λ d less here later.
      let both = and_parts (live a) (uses (blocks a) a d) here in
      let c = user_in (a + 1) n d (omega (arith, low)) (omega (arith, high)) later in
      absurd (omega (arith, one_user blocks live entries d a c.0 (record { low = low; high = omega (arith, high); on = both.0; with = both.1 }) c.2, c.1)))
      ∙ (λ i. own (live a) refl i + weigh (a + 1) n (omega (arith, low)) (omega (arith, high)) i)
    where
      own : (x : Bool) → live a ≡ x → count (λ d. live a && uses (blocks a) a d) 256 ≡ cond x (1 + data_blocks (size_in (blocks a))) 0
      own true on = count_alike (λ d. live a && uses (blocks a) a d) (uses (blocks a) a) 256 (λ d less. ap (λ (x : Bool). x && uses (blocks a) a d) on) ∙ entry_count a low (omega (arith, high)) on
      own false off = count_none (λ d. live a && uses (blocks a) a d) 256 (λ d less. ap (λ (x : Bool). x && uses (blocks a) a d) off)

  -- all blocks that are used
  pub used_weight : count (is_used blocks live) 256 ≡ 2 + weight 2 254
  used_weight =
      count_alike (is_used blocks live) (λ d. nat_lt d 2 || used_in 2 254 d) 256 same
      ∙ count_or (λ d. nat_lt d 2) (used_in 2 254) 256 (λ d less low here.
      let c = user_in 2 254 d (omega arith) (omega arith) here in
      absurd (omega (arith, ltb-true d 2 low, user_up blocks live entries d c.0 c.2)))
      ∙ ap (λ (k : ℕ). 2 + k) (weigh 2 254 (omega arith) (omega arith))
    where
      same : (d : ℕ) → d < 256 → is_used blocks live d ≡ (nat_lt d 2 || used_in 2 254 d)
      same d lt = elim (cases_Bool (nat_lt d 2)) [
        | inl small ↦ or_left (nat_lt d 2) (live d || list_any (λ c. live c && has_number (blocks c) d) (range_with_len 2 254)) small ∙ sym (or_left (nat_lt d 2) (used_in 2 254 d) small)
        | inr up ↦ bool_ext (is_used blocks live d) (nat_lt d 2 || used_in 2 254 d)
            (λ is.
            let c = used_user blocks live d (elim (cases_lt d 2) [ inl low ↦ absurd (true≢false (sym (lt_true d low) ∙ up)) | inr ge ↦ ge ]) lt is in
            or_right (nat_lt d 2) (used_in 2 254 d) (some_any (λ k. live k && uses (blocks k) k d) 2 254 c.0 c.1.low (omega (arith, c.1.high)) (and_from (live c.0) (uses (blocks c.0) c.0 d) c.1.on c.1.with)))
            (λ is.
            let c = user_in 2 254 d (omega arith) (omega arith) (sym (ap (λ (x : Bool). x || used_in 2 254 d) up) ∙ is) in
            user_used blocks live d c.0 c.2)
      ]
        where
          lt_true : (d : ℕ) → d < 2 → nat_lt d 2 ≡ true
          lt_true zero lt = refl
          lt_true (suc zero) lt = refl
          lt_true (suc (suc d)) lt = absurd (omega (arith, lt))

  -- THE OBJECTS
  module _ (whole : (d : ℕ) → d < 256 → length (blocks d) ≡ 256) where
    pub joined_long : (numbers : List ℕ) → ((i : ℕ) → i < length numbers → get_or numbers i 0 < 256) → length (joined (map blocks numbers)) ≡ 256 * length numbers
    joined_long [] low = refl
    joined_long (x ∷ numbers) low =
        length-append (blocks x) (joined (map blocks numbers))
        ∙ omega (arith, whole x (low 0 (omega arith)), joined_long numbers (λ i lt. low (suc i) (omega (arith, lt))))
