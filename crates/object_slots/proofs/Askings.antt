-- How many calls were made of a file.
use Rattle.std.proofs.Common.{◌≡◌, ◌∙◌, ℕ, zero, suc, ◌+◌, ◌-◌, ◌≤◌, inl, inr, Bool, IsTrue, refl, sym, ap, subst, arith}
use Rattle.std.proofs.lemmas.Bool.{cases_lt}
use Rattle.disk_model.specs.Arms.{Arms, count_call}
use Rattle.disk_model.specs.State.{FileState}
use Rattle.page_bytes.specs.declared.range.ByteRange.{ByteRange}
use Rattle.page_bytes.specs.Ranges.{end_block, first_block}
use Rattle.block_file.specs.Reads.{after_calls, blocks_of}
use Rattle.object_slots.specs.SlotReads.{AsksAtMost}

after_calls-add : (m n : ℕ) (arms : Arms) → after_calls n (after_calls m arms) ≡ after_calls (m + n) arms
after_calls-add m zero arms = let same : m ≡ m + zero = omega arith in ap (λ (x : ℕ). after_calls x arms) same
after_calls-add m (suc n) arms = let more : suc (m + n) ≡ m + suc n = omega arith in ap count_call (after_calls-add m n arms) ∙ ap (λ (x : ℕ). after_calls x arms) more

pub asks_none : (most : ℕ) (s : FileState) → AsksAtMost most s s
asks_none most s tells = (0, omega arith, refl)

pub asks_one : (a b : FileState) → (IsTrue a.tells_arms → b.arms ≡ count_call a.arms) → AsksAtMost 1 a b
asks_one a b once tells = (1, omega arith, once tells)

pub asks_then : (m n most : ℕ) (a b c : FileState) → m + n ≤ most → b.tells_arms ≡ a.tells_arms → AsksAtMost m a b → AsksAtMost n b c → AsksAtMost most a c
asks_then m n most a b c few same first second tells =
    let one = first tells in
    let two = second (subst (λ (t : Bool). IsTrue t) (sym same) tells) in
    (one.0 + two.0, omega (arith, one.1, two.1, few), two.2 ∙ ap (after_calls two.0) one.2 ∙ after_calls-add one.0 two.0 a.arms)

pub asks_within : (few most : ℕ) (a b : FileState) → few ≤ most → AsksAtMost few a b → AsksAtMost most a b
asks_within few most a b within asks tells = let one = asks tells in (one.0, omega (arith, one.1, within), one.2)

blocks_in_order : (r : ByteRange) → first_block r ≤ end_block r
blocks_in_order r = elim (cases_lt r.first r.last) [ inl some ↦ grind (arith, some) | inr none ↦ grind (arith, none) ]

-- the blocks of a range before one of its ends are no more than it has
pub blocks_few : (r s : ByteRange) (k : ℕ) → r ≡ s → (first_block r ≤ end_block r → k ≤ end_block r) → k - first_block r ≤ blocks_of s
blocks_few r s k is within =
    let few : k - first_block r ≤ blocks_of r = omega (arith, within (blocks_in_order r)) in
    subst (λ (x : ByteRange). k - first_block r ≤ blocks_of x) is few
