-- Which entries use a block.
use Rattle.std.proofs.Common.{◌≡◌, ◌≢◌, ◌⊎◌, inl, inr, ℕ, zero, suc, ◌+◌, ◌-◌, ◌<◌, ◌≤◌, ◌==◌, ◌&&◌, ◌||◌, not, Bool, true, false, List, refl, sym, ap, ◌∙◌, true≢false, arith}
use Rattle.std.specs.Prelude.{nat_lt}
use Rattle.std.specs.List.{list_any, range_with_len}
use Rattle.std.proofs.lemmas.Bool.{false≢true, and_from, and_parts, cases_Bool, cases_lt, eq-eqb, eqb-true, leb-true, lt-ltb, ltb-true, or_left, or_parts, or_right}
use Rattle.card_maps.specs.Form.{data_blocks, number_at, size_in}
use Rattle.card_maps.specs.CardMaps.{Blocks, Live, has_number}
use Rattle.card_maps.specs.Puts.{IsFree}
use Rattle.card_maps.specs.Tables.{is_used, uses}
use Rattle.card_maps.proofs.Ranges.{false_or, later, none_any, not_false, true_or, turned}
use Rattle.card_maps.proofs.Entries.{AreEntries}
use Rattle.card_maps.proofs.Lists.{any_map}

pub bool_ext : (a b : Bool) → (a ≡ true → b ≡ true) → (b ≡ true → a ≡ true) → a ≡ b
bool_ext true b forth back = sym (forth refl)
bool_ext false true forth back = back refl
bool_ext false false forth back = refl

module _ (p : ℕ → Bool) where
  pub any_some : (a n : ℕ) → list_any p (range_with_len a n) ≡ true → (c : ℕ) × (a ≤ c) × (c < a + n) × (p c ≡ true)
  any_some a zero is = absurd (false≢true is)
  any_some a (suc n) is = elim (cases_Bool (p a)) [
    | inl here ↦ (a, omega arith, omega arith, here)
    | inr nay ↦
        let more = any_some (a + 1) n (sym (ap (λ (x : Bool). x || list_any p (range_with_len (a + 1) n)) nay) ∙ is) in
        (more.0, omega (arith, more.1), omega (arith, more.2), more.3)
  ]

  pub some_any : (a n c : ℕ) → a ≤ c → c < a + n → p c ≡ true → list_any p (range_with_len a n) ≡ true
  some_any a n c ge lt is = true_or (list_any p (range_with_len a n)) (λ nay. true≢false (sym is ∙ none_any p a n nay c ge lt))

-- a number of an entry
pub number_of : (block : List ℕ) (d : ℕ) → has_number block d ≡ true → (i : ℕ) × (i < data_blocks (size_in block)) × (number_at block i ≡ d)
number_of block d is =
    let some = any_some (λ i. number_at block i == d) 0 (data_blocks (size_in block)) (sym (any_map (λ e. e == d) (number_at block) (range_with_len 0 (data_blocks (size_in block)))) ∙ is) in
    (some.0, omega (arith, some.2), eqb-true (number_at block some.0) d some.3)

pub of_number : (block : List ℕ) (d i : ℕ) → i < data_blocks (size_in block) → number_at block i ≡ d → has_number block d ≡ true
of_number block d i lt is =
    any_map (λ e. e == d) (number_at block) (range_with_len 0 (data_blocks (size_in block)))
    ∙ some_any (λ j. number_at block j == d) 0 (data_blocks (size_in block)) i (omega arith) (omega (arith, lt)) (eq-eqb (number_at block i) d is)

-- a live entry uses the block
pub record IsUser (blocks : Blocks) (live : Live) (d c : ℕ) : Type 0 where
  pub low : 2 ≤ c
  pub high : c < 256
  pub on : live c ≡ true
  pub with : uses (blocks c) c d ≡ true

two_up : (d : ℕ) → 2 ≤ d → nat_lt d 2 ≡ false
two_up d ge = false_or (nat_lt d 2) (λ aye. absurd (omega (arith, ge, ltb-true d 2 aye)))

module _ (blocks : Blocks) (live : Live) where
  pub low_used : (d : ℕ) → d < 2 → is_used blocks live d ≡ true
  low_used d lt = or_left (nat_lt d 2) (live d || list_any (λ c. live c && has_number (blocks c) d) (range_with_len 2 254)) (lt-ltb d 2 lt)

  pub used_user : (d : ℕ) → 2 ≤ d → d < 256 → is_used blocks live d ≡ true → (c : ℕ) × IsUser blocks live d c
  used_user d ge lt is = elim (cases_Bool (live d)) [
    | inl on ↦ (d, record { low = ge; high = lt; on = on; with = or_left (d == d) (has_number (blocks d) d) (eq-eqb d d refl) })
    | inr off ↦
        let any : list_any (λ c. live c && has_number (blocks c) d) (range_with_len 2 254) ≡ true =
        sym (ap (λ (x : Bool). x || (live d || list_any (λ c. live c && has_number (blocks c) d) (range_with_len 2 254))) (two_up d ge)
        ∙ ap (λ (x : Bool). x || list_any (λ c. live c && has_number (blocks c) d) (range_with_len 2 254)) off) ∙ is in
        let some = any_some (λ c. live c && has_number (blocks c) d) 2 254 any in
        let both = and_parts (live some.0) (has_number (blocks some.0) d) some.3 in
        (some.0, record { low = some.1; high = omega (arith, some.2); on = both.0; with = or_right (d == some.0) (has_number (blocks some.0) d) both.1 })
  ]

  pub user_used : (d c : ℕ) → IsUser blocks live d c → is_used blocks live d ≡ true
  user_used d c u = elim (cases_Bool (d == c)) [
    | inl same ↦ or_right (nat_lt d 2) (live d || list_any (λ k. live k && has_number (blocks k) d) (range_with_len 2 254))
        (or_left (live d) (list_any (λ k. live k && has_number (blocks k) d) (range_with_len 2 254)) (ap live (eqb-true d c same) ∙ u.on))
    | inr other ↦
        let has : has_number (blocks c) d ≡ true = sym (ap (λ (x : Bool). x || has_number (blocks c) d) other) ∙ u.with in
        or_right (nat_lt d 2) (live d || list_any (λ k. live k && has_number (blocks k) d) (range_with_len 2 254))
        (or_right (live d) (list_any (λ k. live k && has_number (blocks k) d) (range_with_len 2 254))
        (some_any (λ k. live k && has_number (blocks k) d) 2 254 c u.low (omega (arith, u.high)) (and_from (live c) (has_number (blocks c) d) u.on has)))
  ]

  -- a block that is not used is free
  pub unused_free : (d : ℕ) → d < 256 → is_used blocks live d ≡ false → IsFree blocks live d
  unused_free d lt is =
      let one = or_parts (nat_lt d 2) (live d || list_any (λ k. live k && has_number (blocks k) d) (range_with_len 2 254)) is in
      let two = or_parts (live d) (list_any (λ k. live k && has_number (blocks k) d) (range_with_len 2 254)) one.1 in
      record {
        low = elim (cases_lt d 2) [ inl small ↦ absurd (true≢false (sym (lt-ltb d 2 small) ∙ one.0)) | inr ge ↦ ge ];
        high = lt;
        dead = two.0;
        unnamed = λ c ge below on.
            sym (ap (λ (x : Bool). x && has_number (blocks c) d) on) ∙ none_any (λ k. live k && has_number (blocks k) d) 2 254 two.1 c ge (omega (arith, below));
      }

-- AMONG ENTRIES OF THE FORM
module _ (blocks : Blocks) (live : Live) (entries : AreEntries blocks live) where
  pub number_up : (c d : ℕ) → 2 ≤ c → c < 256 → live c ≡ true → has_number (blocks c) d ≡ true → 2 ≤ d
  number_up c d ge lt on has =
      let i = number_of (blocks c) d has in
      omega (arith, leb-true 2 (number_at (blocks c) i.0) ((entries c ge lt on).numbers i.0 i.1).low, i.2)

  pub user_up : (d c : ℕ) → IsUser blocks live d c → 2 ≤ d
  user_up d c u = elim (cases_Bool (d == c)) [
    | inl same ↦ omega (arith, eqb-true d c same, u.low)
    | inr other ↦ number_up c d u.low u.high u.on (sym (ap (λ (x : Bool). x || has_number (blocks c) d) other) ∙ u.with)
  ]

  -- the block of an entry is no entry's number
  not_number : (d c o : ℕ) → d ≡ c → live c ≡ true → 2 ≤ o → o < 256 → live o ≡ true → has_number (blocks o) d ≡ true → ⊥
  not_number d c o is on ge lt there has =
      let i = number_of (blocks o) d has in
      true≢false (sym on ∙ ap live (sym is) ∙ ap live (sym i.2) ∙ ((entries o ge lt there).numbers i.0 i.1).dead)

  in_order : (d c o : ℕ) → c < o → IsUser blocks live d c → IsUser blocks live d o → ⊥
  in_order d c o lt u v = elim (cases_Bool (d == c)) [
    | inl same ↦ elim (cases_Bool (d == o)) [
      | inl also ↦ absurd (omega (arith, eqb-true d c same, eqb-true d o also, lt))
      | inr other ↦ not_number d c o (eqb-true d c same) u.on v.low v.high v.on (sym (ap (λ (x : Bool). x || has_number (blocks o) d) other) ∙ v.with)
    ]
    | inr apart ↦ elim (cases_Bool (d == o)) [
      | inl also ↦ not_number d o c (eqb-true d o also) v.on u.low u.high u.on (sym (ap (λ (x : Bool). x || has_number (blocks c) d) apart) ∙ u.with)
      | inr other ↦
          let mine : has_number (blocks c) d ≡ true = sym (ap (λ (x : Bool). x || has_number (blocks c) d) apart) ∙ u.with in
          let i = number_of (blocks o) d (sym (ap (λ (x : Bool). x || has_number (blocks o) d) other) ∙ v.with) in
          true≢false (sym mine ∙ ap (has_number (blocks c)) (sym i.2) ∙ ((entries o v.low v.high v.on).numbers i.0 i.1).apart c u.low lt u.on)
    ]
  ]

  -- no two entries use one block
  pub one_user : (d c o : ℕ) → IsUser blocks live d c → IsUser blocks live d o → c ≡ o
  one_user d c o u v = elim (cases_lt c o) [
    | inl lt ↦ absurd (in_order d c o lt u v)
    | inr ge ↦ elim (later o c ge) [
      | inl same ↦ sym same
      | inr more ↦ absurd (in_order d o c (omega (arith, more)) v u)
    ]
  ]

  -- which blocks are used after a change, by what is taken out and what is put in
  module _ (other : Blocks) (next : Live) (is_old gone fresh : ℕ → Bool) (d : ℕ) (lt : d < 256)
      (gone_old : gone d ≡ true → (o : ℕ) × IsUser blocks live d o × (is_old o ≡ true))
      (old_gone : (o : ℕ) → IsUser blocks live d o → is_old o ≡ true → gone d ≡ true)
      (fresh_user : fresh d ≡ true → (c : ℕ) × IsUser other next d c)
      (stays : (c : ℕ) → IsUser blocks live d c → is_old c ≡ false → IsUser other next d c)
      (covers : (c : ℕ) → IsUser other next d c → (fresh d ≡ true) ⊎ (IsUser blocks live d c × (is_old c ≡ false))) where
    forth : ((is_used blocks live d && not (gone d)) || fresh d) ≡ true → is_used other next d ≡ true
    forth is = elim (cases_Bool (fresh d)) [
      | inl new ↦ (let c = fresh_user new in user_used other next d c.0 c.1)
      | inr none ↦
          let both = and_parts (is_used blocks live d) (not (gone d)) (or_off (is_used blocks live d && not (gone d)) (fresh d) is none) in
          elim (cases_lt d 2) [
            | inl small ↦ low_used other next d small
            | inr ge ↦
                let c = used_user blocks live d ge lt both.0 in
                user_used other next d c.0 (stays c.0 c.1 (false_or (is_old c.0) (λ old. true≢false (sym (old_gone c.0 c.1 old) ∙ not_false (gone d) both.1))))
          ]
    ]
      where
        or_off : (x y : Bool) → (x || y) ≡ true → y ≡ false → x ≡ true
        or_off true y is none = refl
        or_off false y is none = absurd (true≢false (sym is ∙ none))

    never_gone : ((o : ℕ) → IsUser blocks live d o → is_old o ≡ true → ⊥) → not (gone d) ≡ true
    never_gone none = turned (gone d) (false_or (gone d) (λ aye. let o = gone_old aye in none o.0 o.1 o.2))

    back : is_used other next d ≡ true → ((is_used blocks live d && not (gone d)) || fresh d) ≡ true
    back is = elim (cases_lt d 2) [
      | inl small ↦ or_left (is_used blocks live d && not (gone d)) (fresh d)
          (and_from (is_used blocks live d) (not (gone d)) (low_used blocks live d small) (never_gone (λ o u old. absurd (omega (arith, user_up d o u, small)))))
      | inr ge ↦
          let c = used_user other next d ge lt is in
          elim (covers c.0 c.1) [
            | inl new ↦ or_right (is_used blocks live d && not (gone d)) (fresh d) new
            | inr old ↦ or_left (is_used blocks live d && not (gone d)) (fresh d)
                (and_from (is_used blocks live d) (not (gone d)) (user_used blocks live d c.0 old.0)
                (never_gone (λ o u aye. true≢false (sym aye ∙ ap is_old (one_user d o c.0 u old.0) ∙ old.1))))
          ]
    ]

    pub used_after : ((is_used blocks live d && not (gone d)) || fresh d) ≡ is_used other next d
    used_after = bool_ext ((is_used blocks live d && not (gone d)) || fresh d) (is_used other next d) forth back
