-- The map block of some entries says which they are, and has its form.
use Rattle.std.proofs.Common.{◌≡◌, ℕ, zero, suc, ◌+◌, ◌-◌, ◌*◌, ◌/◌, ◌%◌, ◌^◌, ◌<◌, ◌≤◌, ◌==◌, ◌&&◌, ◌||◌, Bool, true, false, cond, ltb, List, length, map, get_or, None, refl, sym, ap, ◌∙◌, inl, inr, arith}
use Rattle.std.specs.Prelude.{nat_lt, replicate}
use Rattle.std.specs.List.{range_with_len}
use Rattle.std.proofs.lemmas.Bool.{and_parts, cases_Bool, cases_lt, cond-true, cond-false, eq-eqb, eqb-true, lt-ltb, ltb-true, or_left, or_right}
use Rattle.std.proofs.Math.Seq.{get_or-append_right}
use Rattle.std.proofs.lemmas.List.{ext_get_or, get_or_append_left, get_or-replicate, length-append, length-replicate}
use Rattle.std.proofs.lemmas.List.FromFn.{get_or-map-range_with_len, length-map-range_with_len}
use Rattle.card_maps.specs.Form.{byte_at, is_live, map_fault}
use Rattle.card_maps.specs.CardMaps.{Live}
use Rattle.card_maps.specs.Puts.{bit, live_byte, map_block}
use Rattle.card_maps.proofs.Ranges.{differ, none_wrong, wrong_none}

one_bit : (x : Bool) → (bit x == 1) ≡ x
one_bit true = refl
one_bit false = refl

at_most : (x : Bool) → bit x ≤ 1
at_most true = omega arith
at_most false = omega arith

-- a number below eight is one of these
by_eight : (P : ℕ → Type 0) → P 0 → P 1 → P 2 → P 3 → P 4 → P 5 → P 6 → P 7 → (k : ℕ) → k < 8 → P k
by_eight P a b c d e f g h zero lt = a
by_eight P a b c d e f g h (suc zero) lt = b
by_eight P a b c d e f g h (suc (suc zero)) lt = c
by_eight P a b c d e f g h (suc (suc (suc zero))) lt = d
by_eight P a b c d e f g h (suc (suc (suc (suc zero)))) lt = e
by_eight P a b c d e f g h (suc (suc (suc (suc (suc zero))))) lt = f
by_eight P a b c d e f g h (suc (suc (suc (suc (suc (suc zero)))))) lt = g
by_eight P a b c d e f g h (suc (suc (suc (suc (suc (suc (suc zero))))))) lt = h
by_eight P a b c d e f g h (suc (suc (suc (suc (suc (suc (suc (suc k)))))))) lt = absurd (omega (arith, lt))

-- bit k of a byte of eight
module _ (a b c d e f g h : Bool) where
  abbrev byte : ℕ
  byte = bit a + (2 * bit b + (4 * bit c + (8 * bit d + (16 * bit e + (32 * bit f + (64 * bit g + 128 * bit h))))))

  bit_0 : (byte / 1) % 2 ≡ bit a
  bit_0 = omega (arith, at_most a, at_most b, at_most c, at_most d, at_most e, at_most f, at_most g, at_most h)

  bit_1 : (byte / 2) % 2 ≡ bit b
  bit_1 = omega (arith, at_most a, at_most b, at_most c, at_most d, at_most e, at_most f, at_most g, at_most h)

  bit_2 : (byte / 4) % 2 ≡ bit c
  bit_2 = omega (arith, at_most a, at_most b, at_most c, at_most d, at_most e, at_most f, at_most g, at_most h)

  bit_3 : (byte / 8) % 2 ≡ bit d
  bit_3 = omega (arith, at_most a, at_most b, at_most c, at_most d, at_most e, at_most f, at_most g, at_most h)

  bit_4 : (byte / 16) % 2 ≡ bit e
  bit_4 = omega (arith, at_most a, at_most b, at_most c, at_most d, at_most e, at_most f, at_most g, at_most h)

  bit_5 : (byte / 32) % 2 ≡ bit f
  bit_5 = omega (arith, at_most a, at_most b, at_most c, at_most d, at_most e, at_most f, at_most g, at_most h)

  bit_6 : (byte / 64) % 2 ≡ bit g
  bit_6 = omega (arith, at_most a, at_most b, at_most c, at_most d, at_most e, at_most f, at_most g, at_most h)

  bit_7 : (byte / 128) % 2 ≡ bit h
  bit_7 = omega (arith, at_most a, at_most b, at_most c, at_most d, at_most e, at_most f, at_most g, at_most h)

  low_bits : bit a ≡ 0 → bit b ≡ 0 → byte % 4 ≡ 0
  low_bits first second = omega (arith, first, second)

module _ (live : Live) where
  abbrev eight : (j : ℕ) → (k : ℕ) → Type 0
  eight j k = (live_byte live j / 2 ^ k) % 2 ≡ bit (live (8 * j + k))

  bit_at : (j k : ℕ) → k < 8 → (live_byte live j / 2 ^ k) % 2 ≡ bit (live (8 * j + k))
  bit_at j k lt =
      let a = live (8 * j) in
      let b = live (8 * j + 1) in
      let c = live (8 * j + 2) in
      let d = live (8 * j + 3) in
      let e = live (8 * j + 4) in
      let f = live (8 * j + 5) in
      let g = live (8 * j + 6) in
      let h = live (8 * j + 7) in
      let here : 8 * j ≡ 8 * j + 0 = omega arith in
      by_eight (λ n. (live_byte live j / 2 ^ n) % 2 ≡ bit (live (8 * j + n)))
      (bit_0 a b c d e f g h ∙ ap (λ (n : ℕ). bit (live n)) here) (bit_1 a b c d e f g h) (bit_2 a b c d e f g h) (bit_3 a b c d e f g h)
      (bit_4 a b c d e f g h) (bit_5 a b c d e f g h) (bit_6 a b c d e f g h) (bit_7 a b c d e f g h) k lt

  pub byte_is : (j : ℕ) → j < 32 → byte_at (map_block live) j ≡ live_byte live j
  byte_is j lt =
      get_or_append_left (map (live_byte live) (range_with_len 0 32)) (replicate 224 0) 0 j (omega (arith, lt, length-map-range_with_len (live_byte live) 0 32))
      ∙ get_or-map-range_with_len (live_byte live) 0 32 j j 0 lt (omega arith)

  pub map_says : (c : ℕ) → c < 256 → is_live (map_block live) c ≡ live c
  map_says c lt =
      let place : 8 * (c / 8) + c % 8 ≡ c = omega arith in
      let low : c / 8 < 32 = omega (arith, lt) in
      let within : c % 8 < 8 = omega arith in
      ap (λ (x : Bool). x && ((byte_at (map_block live) (c / 8) / 2 ^ (c % 8)) % 2 == 1)) (lt-ltb c 256 lt)
      ∙ ap (λ (n : ℕ). (n / 2 ^ (c % 8)) % 2 == 1) (byte_is (c / 8) low)
      ∙ ap (λ (n : ℕ). n == 1) (bit_at (c / 8) (c % 8) within)
      ∙ one_bit (live (8 * (c / 8) + c % 8))
      ∙ ap live place

  no_bit : (x : Bool) → x ≡ false → bit x ≡ 0
  no_bit x is = ap bit is

  -- it has its form where blocks 0 and 1 are none of them
  pub map_formed : live 0 ≡ false → live 1 ≡ false → map_fault (map_block live) ≡ None
  map_formed zeroth first = wrong_none (λ at. cond (at == 0) (byte_at (map_block live) 0 % 4 == 0) (nat_lt at 32 || (byte_at (map_block live) at == 0))) 0 256 (λ at ge lt. by_at at (omega (arith, lt)))
    where
      bottom : byte_at (map_block live) 0 % 4 ≡ 0
      bottom = ap (λ (n : ℕ). n % 4) (byte_is 0 (omega arith))
          ∙ low_bits (live (8 * 0)) (live (8 * 0 + 1)) (live (8 * 0 + 2)) (live (8 * 0 + 3)) (live (8 * 0 + 4)) (live (8 * 0 + 5)) (live (8 * 0 + 6)) (live (8 * 0 + 7))
          (no_bit (live 0) zeroth) (no_bit (live 1) first)

      behind : (at : ℕ) → 32 ≤ at → at < 256 → byte_at (map_block live) at ≡ 0
      behind at ge lt =
          get_or-append_right (map (live_byte live) (range_with_len 0 32)) (replicate 224 0) at 0 (omega (arith, ge, length-map-range_with_len (live_byte live) 0 32))
          ∙ get_or-replicate 224 (at - length (map (live_byte live) (range_with_len 0 32))) 0 0 (omega (arith, ge, lt, length-map-range_with_len (live_byte live) 0 32))

      by_at : (at : ℕ) → at < 256 → cond (at == 0) (byte_at (map_block live) 0 % 4 == 0) (nat_lt at 32 || (byte_at (map_block live) at == 0)) ≡ true
      by_at at lt = elim (cases_Bool (at == 0)) [
        | inl here ↦ cond-true (at == 0) (byte_at (map_block live) 0 % 4 == 0) (nat_lt at 32 || (byte_at (map_block live) at == 0)) here ∙ ap (λ (n : ℕ). n == 0) bottom
        | inr other ↦ cond-false (at == 0) (byte_at (map_block live) 0 % 4 == 0) (nat_lt at 32 || (byte_at (map_block live) at == 0)) other ∙ elim (cases_lt at 32) [
          | inl low ↦ or_left (nat_lt at 32) (byte_at (map_block live) at == 0) (lt-ltb at 32 low)
          | inr high ↦ or_right (nat_lt at 32) (byte_at (map_block live) at == 0) (eq-eqb (byte_at (map_block live) at) 0 (behind at high lt))
        ]
      ]

-- a live entry is one of the 256 blocks, and of a map block with its form none of the first two
pub live_low : (block : List ℕ) (c : ℕ) → is_live block c ≡ true → c < 256
live_low block c is = ltb-true c 256 (and_parts (nat_lt c 256) ((byte_at block (c / 8) / 2 ^ (c % 8)) % 2 == 1) is).0

module _ (block : List ℕ) (formed : map_fault block ≡ None) where
  bottom_zero : byte_at block 0 % 4 ≡ 0
  bottom_zero = eqb-true (byte_at block 0 % 4) 0 (none_wrong (λ at. cond (at == 0) (byte_at block 0 % 4 == 0) (nat_lt at 32 || (byte_at block at == 0))) 0 256 formed 0 (omega arith) (omega arith))

  pub first_dead : is_live block 0 ≡ false
  first_dead = differ ((byte_at block 0 / 1) % 2) 1 (λ is. absurd (omega (arith, is, bottom_zero)))

  pub second_dead : is_live block 1 ≡ false
  second_dead = differ ((byte_at block 0 / 2) % 2) 1 (λ is. absurd (omega (arith, is, bottom_zero)))

-- BYTE BY BYTE
pub zeros : (n k : ℕ) → get_or (replicate {A = ℕ} n 0) k 0 ≡ 0
zeros zero k = refl
zeros (suc n) zero = refl
zeros (suc n) (suc k) = zeros n k

map_long : (live : Live) → length (map_block live) ≡ 256
map_long live = length-append (map (live_byte live) (range_with_len 0 32)) (replicate 224 0) ∙ omega (arith, length-map-range_with_len (live_byte live) 0 32, length-replicate {A = ℕ} 224 0)

-- a block with these bytes is the map block
pub map_block_is : (live : Live) (block : List ℕ) → length block ≡ 256 → ((k : ℕ) → k < 32 → get_or block k 0 ≡ live_byte live k) → ((k : ℕ) → 32 ≤ k → get_or block k 0 ≡ 0)
    → block ≡ map_block live
map_block_is live block long low high = ext_get_or 0 block (map_block live) (long ∙ sym (map_long live)) (λ k lt. elim (cases_lt k 32) [
  | inl below ↦ low k below ∙ sym (byte_is live k below)
  | inr ge ↦ high k ge ∙ sym (
      get_or-append_right (map (live_byte live) (range_with_len 0 32)) (replicate 224 0) k 0 (omega (arith, ge, length-map-range_with_len (live_byte live) 0 32))
      ∙ zeros 224 (k - length (map (live_byte live) (range_with_len 0 32))))
])

-- it depends on the 256 blocks alone
pub map_block_alike : (live other : Live) → ((c : ℕ) → c < 256 → live c ≡ other c) → map_block live ≡ map_block other
map_block_alike live other same = map_block_is other (map_block live) (map_long live)
    (λ k lt. byte_is live k lt ∙ (λ i.
    bit (same (8 * k) (omega (arith, lt)) i) + (2 * bit (same (8 * k + 1) (omega (arith, lt)) i) + (4 * bit (same (8 * k + 2) (omega (arith, lt)) i) + (8 * bit (same (8 * k + 3) (omega (arith, lt)) i)
    + (16 * bit (same (8 * k + 4) (omega (arith, lt)) i) + (32 * bit (same (8 * k + 5) (omega (arith, lt)) i) + (64 * bit (same (8 * k + 6) (omega (arith, lt)) i) + 128 * bit (same (8 * k + 7) (omega (arith, lt)) i)))))))))
    (λ k ge. get_or-append_right (map (live_byte live) (range_with_len 0 32)) (replicate 224 0) k 0 (omega (arith, ge, length-map-range_with_len (live_byte live) 0 32))
    ∙ zeros 224 (k - length (map (live_byte live) (range_with_len 0 32))))
