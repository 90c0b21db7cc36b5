-- The block that names a directory is read back.
use Rattle.std.proofs.Common.{◌≡◌, ◌⊎◌, ◌∙◌, ◌+◌, ◌-◌, ◌<◌, ◌≤◌, ◌==◌, ◌||◌, ◌&&◌, if◌then◌else◌, leb, ℕ, zero, suc, List, ◌∷◌, ◌++◌, get_or, take, drop, replicate, Some, None, Result, Ok, Err, Bool, true, false, nat_lt, refl, ap, subst, inl, inr, arith}
use Rattle.std.specs.List.{list_all}
use Rattle.std.proofs.lemmas.Bool.{and_from, cond-true, eq-eqb, ne_eqb, le-leb, lt-ltb, le-ltb, cases_lt}
use Rattle.std.proofs.lemmas.List.{get_or-append_right, get_or-replicate}
use Rattle.std.proofs.Math.Seq.{take-append_seam}
use Rattle.node_image.specs.declared.node.RootRef.{RootRef}
use Rattle.dir_records.specs.Form.{last_format}
use Rattle.crash_core.specs.CardBlock.{IsReference, directory_bytes, first_outside, has_form_at, root_block, root_in, root_or}
use Rattle.crash_core.specs.Refusal.{NoStore, Refusal}

-- the byte of a block at an offset has its form
abbrev IsFormed : List ℕ → ℕ → Type 0
IsFormed block k = has_form_at (get_or block 0 0) k (get_or block k 0) ≡ true

none_outside : (block : List ℕ) (offset count : ℕ) → ((k : ℕ) → offset ≤ k → k < offset + count → IsFormed block k) → first_outside block offset count ≡ None
unfolding first_outside
none_outside block offset zero each = refl
none_outside block offset (suc count) each =
    cond-true (has_form_at (get_or block 0 0) offset (get_or block offset 0)) (first_outside block (offset + 1) count) (Some offset) (each offset (omega arith) (omega arith))
    ∙ none_outside block (offset + 1) count (λ k from upto. each k (omega arith) (omega arith))

-- from the fourth byte on
form_at : (format k byte : ℕ) → 4 ≤ k → (nat_lt k 36 || byte == 0) ≡ true → has_form_at format k byte ≡ true
form_at format k byte from h =
    let a : k == 0 ≡ false = ne_eqb k 0 (λ e. absurd (omega arith)) in
    let b : k == 1 ≡ false = ne_eqb k 1 (λ e. absurd (omega arith)) in
    let c : nat_lt k 4 ≡ false = le-ltb k 4 from in
    rw (a, b, c) h

either : (a b : Bool) → (a ≡ true) ⊎ (b ≡ true) → (a || b) ≡ true
either true b h = refl
either false true h = refl
either false false (inl h) = h
either false false (inr h) = h

module _ (root : RootRef) (is : IsReference root) where
  late : (k : ℕ) → 4 ≤ k → k < 256 → IsFormed (root_block root) k
  unfolding root_block
  late k from upto = form_at (get_or (root_block root) 0 0) k (get_or (root_block root) k 0) from (either (nat_lt k 36) (get_or (root_block root) k 0 == 0) (elim (cases_lt k 36) [
    | inl low ↦ inl (lt-ltb k 36 low)
    | inr high ↦ inr (eq-eqb (get_or (root_block root) k 0) 0
        (get_or-append_right (root.format ∷ root.version ∷ directory_bytes root.format) (root.hash ++ replicate 220 0) 4 k 0 refl from
        ∙ get_or-append_right root.hash (replicate 220 0) 32 (k - 4) 0 is.long (omega arith)
        ∙ get_or-replicate 220 (k - 4 - 32) 0 0 (omega arith)))
  ]))

  each : (k : ℕ) → 0 ≤ k → k < 0 + 256 → IsFormed (root_block root) k
  unfolding root_block
  each zero from upto = and_from (leb 1 root.format) (leb root.format last_format) (le-leb 1 root.format is.format.0) (le-leb root.format last_format is.format.1)
  each (suc zero) from upto = lt-ltb root.version 2 is.version
  each (suc (suc zero)) from upto = eq-eqb (get_or (directory_bytes root.format) 0 0) (get_or (directory_bytes root.format) 0 0) refl
  each (suc (suc (suc zero))) from upto = eq-eqb (get_or (directory_bytes root.format) 1 0) (get_or (directory_bytes root.format) 1 0) refl
  each (suc (suc (suc (suc k)))) from upto = late (suc (suc (suc (suc k)))) (omega arith) (omega arith)

  -- what the block that names a directory names
  pub root_in-block : root_in (root_block root) ≡ Ok root
  unfolding root_in root_block
  root_in-block =
      (λ i. if some i && list_all (λ x. x == 0) (drop 1 (root_block root)) then Err NoStore else root_or (root_block root) (first_outside (root_block root) 0 256))
      ∙ ap (root_or (root_block root)) (none_outside (root_block root) 0 256 each)
      ∙ (λ i. let r : Result RootRef Refusal = Ok (record { hash = hash_is i; version = root.version; format = root.format }) in r)
    where
      some : (root.format == 0) ≡ false
      some = ne_eqb root.format 0 (λ e. omega (arith, e, is.format.0))

      hash_is : take 32 (root.hash ++ replicate 220 0) ≡ root.hash
      hash_is = subst (λ (n : ℕ). take n (root.hash ++ replicate 220 0) ≡ root.hash) is.long (take-append_seam root.hash (replicate 220 0))
