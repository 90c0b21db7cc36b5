-- How the pages of a version in an honest file become those of the next.
use Rattle.std.proofs.Common.{◌≡◌, ◌∙◌, ◌⊎◌, ◌+◌, ◌*◌, ◌/◌, ◌%◌, ◌<◌, ◌≤◌, ℕ, true, List, [], length, get_or, Option, Some, inl, inr, sym, ap, arith}
use Rattle.std.proofs.lemmas.Bool.{cases_lt}
use Rattle.std.proofs.lemmas.List.{get_or_past}
use Rattle.disk_model.specs.Bytes.{after_resize, after_write}
use Rattle.page_bytes.specs.declared.range.ByteRange.{ByteRange}
use Rattle.page_bytes.specs.Pages.{byte_at, byte_in, bytes_from}
use Rattle.page_bytes.specs.Ranges.{meets, needs, resize_range, write_range}
use Rattle.page_bytes.specs.Rewriting.{IsRewritten, changed_byte}
use Rattle.page_bytes.proofs.Content.{get_or-after_resize, get_or-after_write, get_or-bytes_from-zero, length-bytes_from}

-- a block that the range meets is needed where it holds an old byte outside of it
needs_outside : (r : ByteRange) (k i : ℕ) → i < 4096 → meets r.first r.last k ≡ true → (4096 * k + i < r.first) ⊎ (r.last ≤ 4096 * k + i) → 4096 * k + i < r.size → needs r k ≡ true
needs_outside r k i small meet (inl before) old = grind (arith, small, meet, before, old)
needs_outside r k i small meet (inr behind) old = grind (arith, small, meet, behind, old)

-- the old byte counts only outside the range
changed_same : (r : ByteRange) (at : ℕ) (bytes : List ℕ) (p a b : ℕ) → ((p < r.first) ⊎ (r.last ≤ p) → p < r.size → a ≡ b) → changed_byte r at bytes p a ≡ changed_byte r at bytes p b
changed_same r at bytes p a b same = elim (cases_lt p r.first) [
  | inl before ↦ elim (cases_lt p r.size) [
    | inl within ↦ ap (changed_byte r at bytes p) (same (inl before) within)
    | inr past ↦ grind (arith, before, past)
  ]
  | inr from ↦ elim (cases_lt p r.last) [
    | inl inner ↦ grind (arith, from, inner)
    | inr behind ↦ elim (cases_lt p r.size) [
      | inl within ↦ ap (changed_byte r at bytes p) (same (inr behind) within)
      | inr past ↦ grind (arith, behind, past)
    ]
  ]
]

-- The bytes that a change leaves, by those that were there.
abbrev pub Lays : ByteRange → (at : ℕ) → (bytes : List ℕ) → (left : List ℕ → List ℕ) → Type 0
Lays r at bytes left = (old : List ℕ) → length old ≡ r.size → (p : ℕ) → get_or (left old) p 0 ≡ changed_byte r at bytes p (get_or old p 0)

pub write_lays : (size at : ℕ) (bytes : List ℕ) → Lays (write_range size at (length bytes)) at bytes (λ old. after_write old at bytes)
write_lays size at bytes old long p =
    get_or-after_write old at bytes p ∙ ap (λ (n : ℕ). changed_byte (write_range n at (length bytes)) at bytes p (get_or old p 0)) long

pub resize_lays : (size to : ℕ) → Lays (resize_range size to) to [] (λ old. after_resize old to)
resize_lays size to old long p = get_or-after_resize old to p ∙ ap (λ (n : ℕ). changed_byte (resize_range n to) to [] p (get_or old p 0)) long

-- A page of the changed tree is the one that the change makes of the old.
module _ (r : ByteRange) (at : ℕ) (bytes : List ℕ) (left : List ℕ → List ℕ) (lays : Lays r at bytes left) (was now : ℕ → Option (List ℕ)) (old : List ℕ) (old_is : old ≡ bytes_from was 0 r.size)
    (content : bytes_from now 0 (length (left old)) ≡ left old) (k : ℕ) (page over : List ℕ) (is : now k ≡ Some page) (met : meets r.first r.last k ≡ true) (needed : needs r k ≡ true → was k ≡ Some over)
    (zero : (i : ℕ) → i < 4096 → length (left old) ≤ 4096 * k + i → byte_in (now k) i ≡ 0) where
  quotient : (i : ℕ) → i < 4096 → (4096 * k + i) / 4096 ≡ k
  quotient i small = omega (arith, small)

  remainder : (i : ℕ) → i < 4096 → (4096 * k + i) % 4096 ≡ i
  remainder i small = omega (arith, small)

  at_place : (pages : ℕ → Option (List ℕ)) (i : ℕ) → i < 4096 → byte_at pages (4096 * k + i) ≡ byte_in (pages k) i
  at_place pages i small = λ j. byte_in (pages (quotient i small j)) (remainder i small j)

  byte_left : (i : ℕ) → i < 4096 → get_or page i 0 ≡ get_or (left old) (4096 * k + i) 0
  byte_left i small = elim (cases_lt (4096 * k + i) (length (left old))) [
    | inl below ↦
        sym (ap (λ (o : Option (List ℕ)). byte_in o i) is)
        ∙ sym (at_place now i small)
        ∙ sym (get_or-bytes_from-zero now (length (left old)) (4096 * k + i) below)
        ∙ ap (λ (l : List ℕ). get_or l (4096 * k + i) 0) content
    | inr past ↦
        sym (ap (λ (o : Option (List ℕ)). byte_in o i) is)
        ∙ zero i small past
        ∙ sym (get_or_past (left old) (4096 * k + i) 0 past)
  ]

  pub page_rewritten : IsRewritten r at bytes k over page
  page_rewritten i small =
      byte_left i small
      ∙ lays old (ap length old_is ∙ length-bytes_from was 0 r.size) (4096 * k + i)
      ∙ changed_same r at bytes (4096 * k + i) (get_or old (4096 * k + i) 0) (get_or over i 0)
      (λ outside within.
      ap (λ (l : List ℕ). get_or l (4096 * k + i) 0) old_is
      ∙ get_or-bytes_from-zero was r.size (4096 * k + i) within
      ∙ at_place was i small
      ∙ ap (λ (o : Option (List ℕ)). byte_in o i) (needed (needs_outside r k i small met outside within)))
