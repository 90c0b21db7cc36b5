-- A page with some of its bytes put in anew.
use Rattle.std.proofs.Common.{◌≡◌, ◌+◌, ◌-◌, ◌*◌, ◌<◌, ◌≤◌, ◌&&◌, ℕ, List, ◌++◌, length, get_or, take, drop, replicate, min, nat_le, nat_lt, if◌then◌else◌, arith, length-drop, inl, inr, ap, ◌∙◌}
use Rattle.std.proofs.lemmas.Bool.{cases_lt}
use Rattle.std.proofs.lemmas.List.{get_or_append_left, get_or-append_right, get_or-drop, get_or-replicate, get_or-take, length-take-le}
use Rattle.page_bytes.specs.declared.range.ByteRange.{ByteRange}
use Rattle.page_bytes.specs.Rewriting.{given_byte, laid_byte}
use borrow.Rule.Slice.PartMut.{put_mid, mid_of}

-- a byte before what was put
byte-put-before : (page part rest : List ℕ) (from i : ℕ) → from ≤ length page → i < from → get_or (take from page ++ (part ++ rest)) i 0 ≡ get_or page i 0
byte-put-before page part rest from i fits lt =
    get_or_append_left (take from page) (part ++ rest) 0 i (omega (arith, length-take-le from page fits))
    ∙ get_or-take from page i 0 lt

-- a byte of what was put
byte-put-in : (page part rest : List ℕ) (from i : ℕ) → from ≤ length page → from ≤ i → i < from + length part → get_or (take from page ++ (part ++ rest)) i 0 ≡ get_or part (i - from) 0
byte-put-in page part rest from i fits ge lt =
    get_or-append_right (take from page) (part ++ rest) from i 0 (length-take-le from page fits) ge
    ∙ get_or_append_left part rest 0 (i - from) (omega arith)

-- a byte behind what was put
byte-put-behind : (page part : List ℕ) (from k i : ℕ) → from ≤ length page → length part ≡ k → from + k ≤ i → get_or (take from page ++ (part ++ drop k (drop from page))) i 0 ≡ get_or page i 0
byte-put-behind page part from k i fits len ge =
    get_or-append_right (take from page) (part ++ drop k (drop from page)) from i 0 (length-take-le from page fits) (omega arith)
    ∙ get_or-append_right part (drop k (drop from page)) k (i - from) 0 len (omega arith)
    ∙ get_or-drop k (drop from page) (i - from - k) 0
    ∙ get_or-drop from page (k + (i - from - k)) 0
    ∙ ap (λ j. get_or page j 0) (omega arith)

-- each byte of a page with a part put in
pub byte-put : (page part : List ℕ) (from k i : ℕ) → from ≤ length page → length part ≡ k
    → get_or (put_mid from k page part) i 0 ≡ if nat_le from i && nat_lt i (from + k) then get_or part (i - from) 0 else get_or page i 0
byte-put page part from k i fits len = elim (cases_lt i from) [
  | inl lt ↦ grind (arith, byte-put-before page part (drop k (drop from page)) from i fits lt)
  | inr ge ↦ elim (cases_lt i (from + k)) [
    | inl below ↦ grind (arith, byte-put-in page part (drop k (drop from page)) from i fits ge (omega arith))
    | inr behind ↦ grind (arith, byte-put-behind page part from k i fits len behind)
  ]
]

-- each byte of a page with a part made zero
pub byte-cleared : (page part : List ℕ) (from upto i : ℕ) → from ≤ upto → upto ≤ length page → part ≡ replicate (upto - from) 0 → length part ≡ upto - from
    → get_or (put_mid from (upto - from) page part) i 0 ≡ if nat_le from i && nat_lt i upto then 0 else get_or page i 0
byte-cleared page part from upto i forward fits zero len = elim (cases_lt i from) [
  | inl lt ↦ grind (arith, byte-put page part from (upto - from) i (omega arith) len)
  | inr ge ↦ elim (cases_lt i upto) [
    | inl below ↦ grind (arith, byte-put page part from (upto - from) i (omega arith) len, ap (λ z. get_or z (i - from) 0) zero, get_or-replicate {A = ℕ} (upto - from) (i - from) 0 0 (omega arith))
    | inr behind ↦ grind (arith, byte-put page part from (upto - from) i (omega arith) len)
  ]
]

-- how many bytes a part of a list has
pub length-part : (page : List ℕ) (from k n : ℕ) → length page ≡ n → from + k ≤ n → length (mid_of from k page) ≡ k
length-part page from k n len fits = length-take-le k (drop from page) (omega (arith, length-drop from page))

-- each byte of block k after bytes were put into it that lie from a place on
pub byte-laid : (k at begin from upto i : ℕ) (bytes part page : List ℕ) → length page ≡ 4096
    → from ≡ min (at - 4096 * k) 4096 → upto ≡ min (at + length bytes - 4096 * k) 4096 → from < upto → begin ≡ 4096 * k + from - at
    → part ≡ take (upto - from) (drop begin bytes) → i < 4096
    → get_or (put_mid from (upto - from) page part) i 0 ≡
    if nat_le at (4096 * k + i) && nat_lt (4096 * k + i) (at + length bytes) then laid_byte at bytes (4096 * k + i) else get_or page i 0
byte-laid k at begin from upto i bytes part page len low high some starts is within =
    let long : length part ≡ upto - from = ap length is ∙ length-take-le (upto - from) (drop begin bytes) (omega (arith, length-drop begin bytes)) in
    let put : get_or (put_mid from (upto - from) page part) i 0 ≡ if nat_le from i && nat_lt i (from + (upto - from)) then get_or part (i - from) 0 else get_or page i 0 =
    byte-put page part from (upto - from) i (omega arith) long in
    elim (cases_lt i from) [
      | inl lt ↦ grind (arith, put)
      | inr ge ↦ elim (cases_lt i upto) [
        | inl below ↦
            let moved : get_or part (i - from) 0 ≡ get_or bytes (4096 * k + i - at) 0 =
            ap (λ z. get_or z (i - from) 0) is ∙ get_or-take (upto - from) (drop begin bytes) (i - from) 0 (omega arith)
            ∙ get_or-drop begin bytes (i - from) 0 ∙ ap (λ j. get_or bytes j 0) (omega arith) in
            grind (arith, put, moved)
        | inr behind ↦ grind (arith, put)
      ]
    ]

-- bytes that miss a block
pub no-byte-laid : (k at from upto i : ℕ) (bytes page : List ℕ)
    → from ≡ min (at - 4096 * k) 4096 → upto ≡ min (at + length bytes - 4096 * k) 4096 → upto ≤ from → i < 4096
    → get_or page i 0 ≡ if nat_le at (4096 * k + i) && nat_lt (4096 * k + i) (at + length bytes) then laid_byte at bytes (4096 * k + i) else get_or page i 0
no-byte-laid k at from upto i bytes page low high none within = grind arith

-- each byte of what a range is read into, after the part that block k has was put in
pub byte-given : (r : ByteRange) (k begin from upto count i : ℕ) (page part into : List ℕ) → length page ≡ 4096
    → from ≡ min (r.first - 4096 * k) 4096 → upto ≡ min (r.last - 4096 * k) 4096 → from < upto → begin ≡ 4096 * k + from - r.first → count ≡ upto - from
    → r.last ≤ r.first + length into → part ≡ take count (drop from page)
    → get_or (put_mid begin count into part) i 0 ≡ given_byte r k page i (get_or into i 0)
byte-given r k begin from upto count i page part into len low high some starts counted room is =
    let long : length part ≡ count = ap length is ∙ length-take-le count (drop from page) (omega (arith, length-drop from page)) in
    let put : get_or (put_mid begin count into part) i 0 ≡ if nat_le begin i && nat_lt i (begin + count) then get_or part (i - begin) 0 else get_or into i 0 =
    byte-put into part begin count i (omega arith) long in
    elim (cases_lt i begin) [
      | inl lt ↦ grind (arith, put)
      | inr ge ↦ elim (cases_lt i (begin + count)) [
        | inl below ↦
            let moved : get_or part (i - begin) 0 ≡ get_or page (r.first + i - 4096 * k) 0 =
            ap (λ z. get_or z (i - begin) 0) is ∙ get_or-take count (drop from page) (i - begin) 0 (omega arith)
            ∙ get_or-drop from page (i - begin) 0 ∙ ap (λ j. get_or page j 0) (omega arith) in
            grind (arith, put, moved)
        | inr behind ↦ grind (arith, put)
      ]
    ]
