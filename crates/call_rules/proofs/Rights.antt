-- Known rights without OVERWRITE are the same without it.
use Rattle.std.proofs.Common.{◌≡◌, ◌==◌, ◌<◌, ◌+◌, ◌*◌, ◌^◌, ◌/◌, ◌%◌, inl, inr, ℕ, Bool, true, false, true≢false, not, ◌||◌, bit_and, refl, sym, ap, ◌∙◌, arith, eqb-true, eq-eqb, lit<}
use Rattle.std.proofs.lemmas.Bool.{cases_eq, or_parts}
use Rattle.std.proofs.lemmas.Nat.{and-not, and_assoc, and_comm, and_le_r}
use Rattle.std.proofs.lemmas.Nat.Bits.{and_pow}
use Rattle.tee_types.specs.declared.flags.Flags.{Flags}
use Rattle.tee_types.specs.Rights.{has, is_known, overwrite_bit, without_overwrite}

not-off : (b : Bool) → not b ≡ false → b ≡ true
not-off true off = refl
not-off false off = absurd (true≢false off)

known-same : (n : ℕ) → bit_and n 0x437 ≡ n → bit_and n 0x400 ≡ 0 → bit_and n 0x37 ≡ n
known-same n known off =
    let small : n < 2 ^ 11 = omega (arith, and_le_r n 0x437, known) in
    let parts : bit_and 0x3FF n + bit_and 0x400 n ≡ n = and-not 11 0x400 n (lit< tt) small in
    let none : bit_and 0x400 n ≡ 0 = and_comm 0x400 n ∙ off in
    let low : bit_and 0x3FF n ≡ n = omega (arith, parts, none) in
    sym (and_assoc 0x3FF n 0x437) ∙ ap (λ (m : ℕ). bit_and m 0x3FF) known ∙ and_comm n 0x3FF ∙ low

off-zero : (n : ℕ) → (bit_and n 0x400 == 0x400) ≡ false → bit_and n 0x400 ≡ 0
off-zero n off =
    let bit : bit_and n 0x400 ≡ n / 1024 % 2 * 1024 = and_pow n 10 in
    elim (cases_eq (n / 1024 % 2) 0) [
      | inl zero_ ↦ bit ∙ ap (λ (b : ℕ). b * 1024) zero_
      | inr some_ ↦
          let one : n / 1024 % 2 ≡ 1 = omega (arith, some_) in
          absurd (true≢false (sym (eq-eqb (bit_and n 0x400) 0x400 (bit ∙ ap (λ (b : ℕ). b * 1024) one)) ∙ off))
    ]

pub without_overwrite-same : (flags : Flags) → (not (is_known flags) || has flags overwrite_bit) ≡ false → without_overwrite flags ≡ flags
without_overwrite-same flags fine =
    let both = or_parts (not (is_known flags)) (has flags overwrite_bit) fine in
    let known : bit_and flags.bits 0x437 ≡ flags.bits = eqb-true (bit_and flags.bits 0x437) flags.bits (not-off (is_known flags) both.0) in
    λ k. record { bits = known-same flags.bits known (off-zero flags.bits both.1) k }
