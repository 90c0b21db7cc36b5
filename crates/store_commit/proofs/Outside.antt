-- The first byte of a block outside its form.
use Rattle.std.proofs.Common.{◌≡◌, ◌+◌, ◌-◌, ◌<◌, ◌≤◌, ℕ, zero, suc, List, get_or, Option, Some, None, cond, Bool, true, false, refl, sym, ap, subst, inl, inr, arith, not}
use Rattle.std.proofs.lemmas.Bool.{cases_eq, ltb-true}
use Rattle.std.specs.Prelude.{Result, Err, ◌==◌, if◌then◌else◌}
use Rattle.std.specs.List.{list_all}
use Rattle.node_image.specs.declared.node.RootRef.{RootRef}
use Rattle.dir_records.specs.Form.{IsFormat, last_format}
use Rattle.dir_records.proofs.Rows.{upto}
use Rattle.crash_core.specs.Refusal.{Refusal, NoStore}
use Rattle.crash_core.specs.CardBlock.{first_outside, has_form_at, root_in, root_or}

pub outside_step : (block : List ℕ) (i count : ℕ) → i < count
    → first_outside block i (count - i) ≡ cond (has_form_at (get_or block 0 0) i (get_or block i 0)) (first_outside block (i + 1) (count - (i + 1))) (Some i)
unfolding first_outside
outside_step block i count lt = let e : count - i ≡ suc (count - (i + 1)) = omega arith in ap (first_outside block i) e

pub outside_end : (block : List ℕ) (i count : ℕ) → count ≤ i → first_outside block i (count - i) ≡ None
unfolding first_outside
outside_end block i count le = let e : count - i ≡ 0 = omega arith in ap (first_outside block i) e

cond_none : (b : Bool) (rest : Option ℕ) (o : ℕ) → cond b rest (Some o) ≡ None → (b ≡ true) × (rest ≡ None)
cond_none true rest o is = (refl, is)
cond_none false rest o is = absurd (cc (is))

pub inside : (block : List ℕ) (o count : ℕ) → first_outside block o count ≡ None → (k : ℕ) → o ≤ k → k < o + count → has_form_at (get_or block 0 0) k (get_or block k 0) ≡ true
unfolding first_outside
inside block o zero is k from upto = absurd (omega arith)
inside block o (suc count) is k from upto =
    let both = cond_none (has_form_at (get_or block 0 0) o (get_or block o 0)) (first_outside block (o + 1) count) o is in
    elim (cases_eq k o) [
      | inl same ↦ subst (λ (n : ℕ). has_form_at (get_or block 0 0) n (get_or block n 0) ≡ true) (sym same) both.0
      | inr other ↦ inside block (o + 1) count both.1 k (omega arith) (omega arith)
    ]

pub version_bit : (block : List ℕ) → first_outside block 0 256 ≡ None → get_or block 1 0 < 2
version_bit block is = ltb-true (get_or block 1 0) 2 (inside block 0 256 is 1 (omega arith) (omega arith))

pub format_bounds : (block : List ℕ) → first_outside block 0 256 ≡ None → IsFormat (get_or block 0 0)
format_bounds block is = upto last_format (get_or block 0 0) (ap not (inside block 0 256 is 0 (omega arith) (omega arith)))

pub root_zero : (block : List ℕ) → list_all (λ x. x == 0) block ≡ true → root_in block ≡ Err NoStore
unfolding root_in
root_zero block is = ap (λ (b : Bool). let r : Result RootRef Refusal = if b then Err NoStore else root_or block (first_outside block 0 256) in r) is

pub root_other : (block : List ℕ) → list_all (λ x. x == 0) block ≡ false → root_in block ≡ root_or block (first_outside block 0 256)
unfolding root_in
root_other block is = ap (λ (b : Bool). let r : Result RootRef Refusal = if b then Err NoStore else root_or block (first_outside block 0 256) in r) is
