-- Which blocks a range of bytes meets, and what bytes lie in the blocks after a change.
use Rattle.std.proofs.Common.{◌≡◌, ◌+◌, ◌-◌, ◌*◌, ◌/◌, ◌%◌, ◌<◌, ◌≤◌, ◌⊎◌, ◌↔◌, inl, inr, ℕ, List, [], ◌++◌, length, get_or, take, drop, replicate, min, max, true, false, Option, arith, refl, sym, ap, ◌∙◌, length-drop}
use Rattle.std.proofs.lemmas.Bool.{cases_lt, cases_Bool, false≢true}
use Rattle.std.proofs.lemmas.Grind.{same_number_lists}
use Rattle.std.proofs.lemmas.List.{get_or-append_right, get_or_append_left, get_or-replicate, length-replicate, take_all, get_or_past, get_or-drop}
use Rattle.std.proofs.lemmas.List.FromFn.{get_or-map-range_with_len, length-map-range_with_len, take-map-range_with_len}
use Rattle.page_bytes.specs.declared.range.ByteRange.{ByteRange}
use Rattle.page_bytes.specs.Changed.{HasRewritten}
use Rattle.page_bytes.specs.Pages.{byte_in, byte_at, bytes_from}
use Rattle.page_bytes.specs.Ranges.{meets, needs, first_block, end_block, write_range, resize_range}
use Rattle.page_bytes.specs.Rewriting.{changed_byte}
use Rattle.disk_model.specs.Bytes.{after_write, after_resize}
use Rattle.disk_model.proofs.Writes.{length-after_write as write_length, length-after_resize, written_before, written_within, written_behind, resized_at}

-- the blocks that the range counts are those that it meets
pub meets-blocks : (r : ByteRange) (k : ℕ) → first_block r ≤ k → k < end_block r → meets r.first r.last k ≡ true
meets-blocks r k from upto = elim (cases_lt r.first r.last) [
  | inl some ↦ grind (arith, some)
  | inr none ↦ grind (arith, none)
]

-- a block before the first of them is missed
pub not-meets-before : (r : ByteRange) (k : ℕ) → k < first_block r → meets r.first r.last k ≡ false
not-meets-before r k below = grind arith

-- and so is one from the end of them on
pub not-meets-behind : (r : ByteRange) (k : ℕ) → end_block r ≤ k → meets r.first r.last k ≡ false
not-meets-behind r k from = elim (cases_lt r.first r.last) [
  | inl some ↦ grind (arith, some)
  | inr none ↦ grind (arith, none)
]

-- so they are exactly those
pub blocks-met : (r : ByteRange) (k : ℕ) → ((first_block r ≤ k) × (k < end_block r)) ↔ (meets r.first r.last k ≡ true)
blocks-met r k = (λ among. meets-blocks r k among.0 among.1, λ met. (from met, upto met))
  where
    from : meets r.first r.last k ≡ true → first_block r ≤ k
    from met = elim (cases_lt k (first_block r)) [
      | inl below ↦ absurd (false≢true (sym (not-meets-before r k below) ∙ met))
      | inr high ↦ high
    ]

    upto : meets r.first r.last k ≡ true → k < end_block r
    upto met = elim (cases_lt k (end_block r)) [
      | inl below ↦ below
      | inr behind ↦ absurd (false≢true (sym (not-meets-behind r k behind) ∙ met))
    ]

-- the zeros between the old end and the place of a write
written_gap : (old : List ℕ) (at : ℕ) (bytes : List ℕ) (p : ℕ) → length old ≤ p → p < at → get_or (after_write old at bytes) p 0 ≡ 0
written_gap old at bytes p past before =
    get_or-append_right (take at old) (replicate (at - length old) 0 ++ (bytes ++ drop (at + length bytes) old)) (length old) p 0 (ap length (take_all at old (omega arith))) past
    ∙ get_or_append_left (replicate (at - length old) 0) (bytes ++ drop (at + length bytes) old) 0 (p - length old) (omega (arith, length-replicate {A = ℕ} (at - length old) 0))
    ∙ get_or-replicate {A = ℕ} (at - length old) (p - length old) 0 0 (omega arith)

-- a byte that was written
written_at : (old : List ℕ) (at : ℕ) (bytes : List ℕ) (p : ℕ) → at ≤ p → p < at + length bytes → get_or (after_write old at bytes) p 0 ≡ get_or bytes (p - at) 0
written_at old at bytes p from below =
    ap (λ i. get_or (after_write old at bytes) i 0) (let e : p ≡ at + (p - at) = omega arith in e) ∙ written_within old at bytes (p - at) (omega arith)

-- the zeros between the old end and a later one
resized_gap : (old : List ℕ) (n p : ℕ) → length old ≤ p → p < n → get_or (after_resize old n) p 0 ≡ 0
resized_gap old n p past before =
    get_or-append_right (take n old) (replicate (n - length old) 0) (length old) p 0 (ap length (take_all n old (omega arith))) past
    ∙ get_or-replicate {A = ℕ} (n - length old) (p - length old) 0 0 (omega arith)

-- how many bytes there are after a write
pub length-after_write : (old : List ℕ) (at : ℕ) (bytes : List ℕ) → length (after_write old at bytes) ≡ max (length old) (at + length bytes)
length-after_write old at bytes = write_length old at bytes ∙ omega arith

-- each byte after a write
pub get_or-after_write : (old : List ℕ) (at : ℕ) (bytes : List ℕ) (p : ℕ)
    → get_or (after_write old at bytes) p 0 ≡ changed_byte (write_range (length old) at (length bytes)) at bytes p (get_or old p 0)
get_or-after_write old at bytes p = elim (cases_lt p at) [
  | inl before ↦ elim (cases_lt p (length old)) [
    | inl within ↦ grind (arith, written_before old at bytes p before within)
    | inr past ↦ grind (arith, written_gap old at bytes p past before)
  ]
  | inr from ↦ elim (cases_lt p (at + length bytes)) [
    | inl in_range ↦ grind (arith, written_at old at bytes p from in_range)
    | inr behind ↦ elim (cases_lt p (length old)) [
      | inl within ↦ grind (arith, written_behind old at bytes p behind)
      | inr past ↦ grind (arith, written_behind old at bytes p behind, get_or_past old p 0 past)
    ]
  ]
]

-- each byte after another length was set
pub get_or-after_resize : (old : List ℕ) (n p : ℕ) → get_or (after_resize old n) p 0 ≡ changed_byte (resize_range (length old) n) n [] p (get_or old p 0)
get_or-after_resize old n p = elim (cases_lt p (length old)) [
  | inl within ↦ elim (cases_lt p n) [
    | inl before ↦ grind (arith, resized_at old n p before within)
    | inr behind ↦ grind (arith, get_or_past (after_resize old n) p 0 (omega (arith, length-after_resize old n)))
  ]
  | inr past ↦ elim (cases_lt p n) [
    | inl before ↦ grind (arith, resized_gap old n p past before)
    | inr behind ↦ grind (arith, get_or_past (after_resize old n) p 0 (omega (arith, length-after_resize old n)))
  ]
]

-- a byte of those from a place on
pub get_or-bytes_from : (pages : ℕ → Option (List ℕ)) (at count i : ℕ) → i < count → get_or (bytes_from pages at count) i 0 ≡ byte_at pages (at + i)
get_or-bytes_from pages at count i below = get_or-map-range_with_len (byte_at pages) at count i (at + i) 0 below refl

-- and of those from the first one on
pub get_or-bytes_from-zero : (pages : ℕ → Option (List ℕ)) (count i : ℕ) → i < count → get_or (bytes_from pages 0 count) i 0 ≡ byte_at pages i
get_or-bytes_from-zero pages count i below = get_or-map-range_with_len (byte_at pages) 0 count i i 0 below (omega arith)

-- how many they are
pub length-bytes_from : (pages : ℕ → Option (List ℕ)) (at count : ℕ) → length (bytes_from pages at count) ≡ count
length-bytes_from pages at count = length-map-range_with_len (byte_at pages) at count

-- as many bytes, each the one at its place, are they
pub bytes_from-is : (pages : ℕ → Option (List ℕ)) (at count : ℕ) (bytes : List ℕ) → length bytes ≡ count
    → ((i : ℕ) → i < count → get_or bytes i 0 ≡ byte_at pages (at + i)) → bytes_from pages at count ≡ bytes
bytes_from-is pages at count bytes long each =
    same_number_lists (bytes_from pages at count) bytes (length-bytes_from pages at count ∙ sym long)
    (λ i within.
    let below : i < count = omega (arith, length-bytes_from pages at count) in
    get_or-bytes_from pages at count i below ∙ sym (each i below))

-- they rest on no other blocks than those they lie in
pub bytes_from-same : (one other : ℕ → Option (List ℕ)) (at count : ℕ)
    → ((k : ℕ) → at / 4096 ≤ k → 4096 * k < at + count → one k ≡ other k) → bytes_from one at count ≡ bytes_from other at count
bytes_from-same one other at count same =
    bytes_from-is one at count (bytes_from other at count) (length-bytes_from other at count)
    (λ i below. get_or-bytes_from other at count i below
    ∙ ap (λ page. byte_in page ((at + i) % 4096)) (sym (same ((at + i) / 4096) (omega arith) (omega arith))))

-- the last of them
pub drop-bytes_from : (pages : ℕ → Option (List ℕ)) (at m count : ℕ) → drop m (bytes_from pages at (m + count)) ≡ bytes_from pages (at + m) count
drop-bytes_from pages at m count =
    sym (bytes_from-is pages (at + m) count (drop m (bytes_from pages at (m + count)))
    (omega (arith, length-drop m (bytes_from pages at (m + count)), length-bytes_from pages at (m + count)))
    (λ i below. get_or-drop m (bytes_from pages at (m + count)) i 0
    ∙ get_or-bytes_from pages at (m + count) (m + i) (omega arith)
    ∙ ap (byte_at pages) (omega arith)))

-- the first of them
pub take-bytes_from : (pages : ℕ → Option (List ℕ)) (at m count : ℕ) → m ≤ count → take m (bytes_from pages at count) ≡ bytes_from pages at m
take-bytes_from pages at m count within = take-map-range_with_len (byte_at pages) at count m within

-- a block that the range meets is needed where it holds an old byte outside of it
needs-outside : (r : ByteRange) (p : ℕ) → meets r.first r.last (p / 4096) ≡ true → (p < r.first) ⊎ (r.last ≤ p) → p < r.size → needs r (p / 4096) ≡ true
needs-outside r p meet (inl before) old = grind (arith, meet, before, old)
needs-outside r p meet (inr behind) old = grind (arith, meet, behind, old)

-- the places of a block that the range misses lie outside of it
outside-missed : (first last p : ℕ) → first ≤ last → meets first last (p / 4096) ≡ false → (p < first) ⊎ (last ≤ p)
outside-missed first last p forward miss = elim (cases_lt p first) [
  | inl before ↦ inl before
  | inr from ↦ elim (cases_lt p last) [
    | inl within ↦ grind (arith, miss)
    | inr behind ↦ inr behind
  ]
]

-- a place outside the range keeps its old byte
changed_byte-outside : (r : ByteRange) (at : ℕ) (bytes : List ℕ) (p old : ℕ) → (p < r.first) ⊎ (r.last ≤ p) → p < r.size → changed_byte r at bytes p old ≡ old
changed_byte-outside r at bytes p old (inl before) within = grind (arith, before, within)
changed_byte-outside r at bytes p old (inr behind) within = grind (arith, behind, within)

-- the old byte counts only outside the range
changed_byte-same : (r : ByteRange) (at : ℕ) (bytes : List ℕ) (p a b : ℕ) → ((p < r.first) ⊎ (r.last ≤ p) → p < r.size → a ≡ b) → changed_byte r at bytes p a ≡ changed_byte r at bytes p b
changed_byte-same r at bytes p a b same = elim (cases_lt p r.first) [
  | inl before ↦ elim (cases_lt p r.size) [
    | inl within ↦ ap (changed_byte r at bytes p) (same (inl before) within)
    | inr past ↦ grind (arith, before, past)
  ]
  | inr from ↦ elim (cases_lt p r.last) [
    | inl inner ↦ grind (arith, from, inner)
    | inr behind ↦ elim (cases_lt p r.size) [
      | inl within ↦ ap (changed_byte r at bytes p) (same (inr behind) within)
      | inr past ↦ grind (arith, behind, past)
    ]
  ]
]

-- a byte of a block that was made anew
byte_at-rewritten : (r : ByteRange) (at : ℕ) (bytes : List ℕ) (was now : ℕ → Option (List ℕ)) (p : ℕ) → meets r.first r.last (p / 4096) ≡ true
    → HasRewritten r at bytes (p / 4096) (was (p / 4096)) (now (p / 4096))
    → byte_at now p ≡ changed_byte r at bytes p (byte_at was p)
byte_at-rewritten r at bytes was now p meet made =
    ap (λ page. byte_in page (p % 4096)) made.is
    ∙ made.rewritten (p % 4096) (omega arith)
    ∙ ap (λ q. changed_byte r at bytes q (get_or made.over (p % 4096) 0)) (omega arith)
    ∙ changed_byte-same r at bytes p (get_or made.over (p % 4096) 0) (byte_at was p)
    (λ outside within. sym (ap (λ page. byte_in page (p % 4096)) (made.needed (needs-outside r p meet outside within))))

-- a byte of a block that was kept
byte_at-kept : (r : ByteRange) (at : ℕ) (bytes : List ℕ) (was now : ℕ → Option (List ℕ)) (p : ℕ) → r.first ≤ r.last → r.first ≤ r.size → p < max r.last r.size
    → meets r.first r.last (p / 4096) ≡ false → now (p / 4096) ≡ was (p / 4096)
    → byte_at now p ≡ changed_byte r at bytes p (byte_at was p)
byte_at-kept r at bytes was now p forward within below miss same =
    let outside : (p < r.first) ⊎ (r.last ≤ p) = outside-missed r.first r.last p forward miss in
    ap (λ page. byte_in page (p % 4096)) same ∙ sym (changed_byte-outside r at bytes p (byte_at was p) outside (below_size outside))
  where
    below_size : (p < r.first) ⊎ (r.last ≤ p) → p < r.size
    below_size (inl before) = omega arith
    below_size (inr behind) = omega arith

-- Where each block that the range meets was made anew, and each other kept, the bytes after the change are those that differ
-- from the old ones as it says.
pub bytes-after_change : (r : ByteRange) (at blocks : ℕ) (bytes : List ℕ) (was now : ℕ → Option (List ℕ)) (new : List ℕ)
    → r.first ≤ r.last → r.first ≤ r.size → length new ≤ 4096 * blocks → length new ≤ max r.last r.size
    → ((k : ℕ) → k < blocks → meets r.first r.last k ≡ true → HasRewritten r at bytes k (was k) (now k))
    → ((k : ℕ) → k < blocks → meets r.first r.last k ≡ false → now k ≡ was k)
    → ((p : ℕ) → p < length new → get_or new p 0 ≡ changed_byte r at bytes p (get_or (bytes_from was 0 r.size) p 0))
    → bytes_from now 0 (length new) ≡ new
bytes-after_change r at blocks bytes was now new forward within fits upto made same is =
    bytes_from-is now 0 (length new) new refl (λ p below.
    is p below
    ∙ changed_byte-same r at bytes p (get_or (bytes_from was 0 r.size) p 0) (byte_at was p) (λ outside old. get_or-bytes_from-zero was r.size p old)
    ∙ sym (elim (cases_Bool (meets r.first r.last (p / 4096))) [
      | inl meet ↦ byte_at-rewritten r at bytes was now p meet (made (p / 4096) (omega arith) meet)
      | inr miss ↦ byte_at-kept r at bytes was now p forward within (omega arith) miss (same (p / 4096) (omega arith) miss)
    ])
    ∙ ap (byte_at now) (let e : p ≡ 0 + p = omega arith in e))

-- after a write they are the bytes that were there, written into
pub bytes-written : (size at blocks : ℕ) (bytes : List ℕ) (was now : ℕ → Option (List ℕ)) → max size (at + length bytes) ≤ 4096 * blocks
    → ((k : ℕ) → k < blocks → meets (min at size) (at + length bytes) k ≡ true → HasRewritten (write_range size at (length bytes)) at bytes k (was k) (now k))
    → ((k : ℕ) → k < blocks → meets (min at size) (at + length bytes) k ≡ false → now k ≡ was k)
    → bytes_from now 0 (max size (at + length bytes)) ≡ after_write (bytes_from was 0 size) at bytes
bytes-written size at blocks bytes was now fits made same =
    ap (bytes_from now 0) (sym long)
    ∙ bytes-after_change (write_range size at (length bytes)) at blocks bytes was now (after_write (bytes_from was 0 size) at bytes) (omega arith) (omega arith) (omega (arith, long)) (omega (arith, long)) made same
    (λ p below. get_or-after_write (bytes_from was 0 size) at bytes p
    ∙ ap (λ n. changed_byte (write_range n at (length bytes)) at bytes p (get_or (bytes_from was 0 size) p 0)) (length-bytes_from was 0 size))
  where
    long : length (after_write (bytes_from was 0 size) at bytes) ≡ max size (at + length bytes)
    long = length-after_write (bytes_from was 0 size) at bytes ∙ ap (λ n. max n (at + length bytes)) (length-bytes_from was 0 size)

-- after another length was set they are the bytes that were there, cut or with zeros behind
pub bytes-resized : (size n blocks : ℕ) (was now : ℕ → Option (List ℕ)) → n ≤ 4096 * blocks
    → ((k : ℕ) → k < blocks → meets (min n size) (max n size) k ≡ true → HasRewritten (resize_range size n) n [] k (was k) (now k))
    → ((k : ℕ) → k < blocks → meets (min n size) (max n size) k ≡ false → now k ≡ was k)
    → bytes_from now 0 n ≡ after_resize (bytes_from was 0 size) n
bytes-resized size n blocks was now fits made same =
    ap (bytes_from now 0) (sym long)
    ∙ bytes-after_change (resize_range size n) n blocks [] was now (after_resize (bytes_from was 0 size) n) (omega arith) (omega arith) (omega (arith, long)) (omega (arith, long)) made same
    (λ p below. get_or-after_resize (bytes_from was 0 size) n p
    ∙ ap (λ s. changed_byte (resize_range s n) n [] p (get_or (bytes_from was 0 size) p 0)) (length-bytes_from was 0 size))
  where
    long : length (after_resize (bytes_from was 0 size) n) ≡ n
    long = length-after_resize (bytes_from was 0 size) n
