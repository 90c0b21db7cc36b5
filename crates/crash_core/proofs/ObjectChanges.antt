-- Changes of a tree's bytes as changes of the object that it holds: data byte p stands in tree byte 4096 + p.
use Rattle.std.proofs.Common.{◌≡◌, ◌+◌, ◌-◌, ◌*◌, ◌<◌, ◌≤◌, ◌&&◌, ◌||◌, ℕ, List, length, take, min, max, nat_lt, true, false, arith, refl, inl, inr, ap, sym, ◌∙◌, Option, Some, None, ◌==◌, filter, not, IsSome}
use Rattle.std.specs.List.{list_any}
use Rattle.std.proofs.lemmas.Bool.{cases_lt, cases_eq, lt-ltb, le-ltb, eq-eqb, ne_eqb, cond-true, cond-false}
use Rattle.std.proofs.lemmas.Bool.Decides.{nat_tests}
use Rattle.page_bytes.specs.declared.range.ByteRange.{ByteRange}
use Rattle.page_bytes.specs.Pages.{page_at, bytes_from}
use Rattle.page_bytes.specs.Ranges.{meets, needs, has_outside, write_range, resize_range}
use Rattle.page_bytes.specs.Changed.{IsChanged}
use Rattle.page_bytes.proofs.Content.{length-bytes_from}
use Rattle.disk_model.specs.Bytes.{after_write, after_resize}
use Rattle.node_image.specs.Layout.{greatest_of}
use Rattle.htree_file.specs.Pages.{Opened}
use Rattle.store_model.specs.Object.{Contents, Damaged, Sound}
use Rattle.store_model.specs.Data.{meets_block, needs_block, written_contents, resized_contents, written, resized}
use Rattle.crash_core.specs.MountedObject.{contents_of, object_with, object_of, bad_blocks}
use Rattle.crash_core.proofs.BadBlocks.{list_any-bad-false, list_any-bad-true, bad_blocks-changed}
use Rattle.crash_core.proofs.ObjectBytes.{bytes-written, bytes-resized}

-- two orders that hold together have one test
test-same : (a b c d : ℕ) → (a < b → c < d) → (c < d → a < b) → nat_lt a b ≡ nat_lt c d
test-same a b c d there back = elim (cases_lt a b) [
  | inl lt ↦ lt-ltb a b lt ∙ sym (lt-ltb c d (there lt))
  | inr ge ↦ elim (cases_lt c d) [
    | inl lt ↦ lt-ltb a b (back lt) ∙ sym (lt-ltb c d lt)
    | inr more ↦ le-ltb a b ge ∙ sym (le-ltb c d more)
  ]
]

-- block k of the tree meets a change of data bytes where data block k does
pub meets-shifted : (first last k : ℕ) → 1 ≤ k → meets (4096 + first) (4096 + last) k ≡ meets_block first last k
meets-shifted first last k one =
    let a : nat_lt (4096 + first) (4096 + last) ≡ nat_lt first last = test-same (4096 + first) (4096 + last) first last (λ h. omega arith) (λ h. omega arith) in
    let b : nat_lt (4096 * k) (4096 + last) ≡ nat_lt (4096 * (k - 1)) last = test-same (4096 * k) (4096 + last) (4096 * (k - 1)) last (λ h. omega arith) (λ h. omega arith) in
    let c : nat_lt (4096 + first) (4096 * (k + 1)) ≡ nat_lt first (4096 * k) = test-same (4096 + first) (4096 * (k + 1)) first (4096 * k) (λ h. omega arith) (λ h. omega arith) in
    ap (λ x. x && nat_lt (4096 * k) (4096 + last) && nat_lt (4096 + first) (4096 * (k + 1))) a
    ∙ ap (λ x. nat_lt first last && x && nat_lt (4096 + first) (4096 * (k + 1))) b
    ∙ ap (λ x. nat_lt first last && nat_lt (4096 * (k - 1)) last && x) c

-- a change of data bytes misses the block of the attributes
pub meets-attributes : (first last : ℕ) → meets (4096 + first) (4096 + last) 0 ≡ false
meets-attributes first last = grind (arith, nat_tests)

-- and it needs a block of the tree where it needs that data block
pub needs-shifted : (size first last k : ℕ) → 1 ≤ k → needs (record { size = 4096 + size; first = 4096 + first; last = 4096 + last }) k ≡ needs_block size first last k
needs-shifted size first last k one =
    let a : nat_lt (4096 * k) (min (4096 + first) (4096 + size)) ≡ nat_lt (4096 * (k - 1)) (min first size) =
    test-same (4096 * k) (min (4096 + first) (4096 + size)) (4096 * (k - 1)) (min first size) (λ h. omega arith) (λ h. omega arith) in
    let b : nat_lt (4096 + last) (min (4096 * (k + 1)) (4096 + size)) ≡ nat_lt last (min (4096 * k) size) =
    test-same (4096 + last) (min (4096 * (k + 1)) (4096 + size)) last (min (4096 * k) size) (λ h. omega arith) (λ h. omega arith) in
    ap (λ x. x && has_outside (4096 + size) (4096 + first) (4096 + last) k) (meets-shifted first last k one)
    ∙ ap (λ x. meets_block first last k && (x || nat_lt (4096 + last) (min (4096 * (k + 1)) (4096 + size)))) a
    ∙ ap (λ x. meets_block first last k && (nat_lt (4096 * (k - 1)) (min first size) || x)) b

-- a write of data bytes is that write, moved behind the attributes
pub write_range-shifted : (size at count : ℕ) → write_range (4096 + size) (4096 + at) count ≡ record { size = 4096 + size; first = 4096 + min at size; last = 4096 + (at + count) }
write_range-shifted size at count =
    let a : min (4096 + at) (4096 + size) ≡ 4096 + min at size = omega arith in
    let b : 4096 + at + count ≡ 4096 + (at + count) = omega arith in
    cc

-- and so is another length
pub resize_range-shifted : (size n : ℕ) → resize_range (4096 + size) (4096 + n) ≡ record { size = 4096 + size; first = 4096 + min n size; last = 4096 + max n size }
resize_range-shifted size n =
    let a : min (4096 + n) (4096 + size) ≡ 4096 + min n size = omega arith in
    let b : max (4096 + n) (4096 + size) ≡ 4096 + max n size = omega arith in
    cc

-- which blocks a write needs
pub needs-write : (size at count k : ℕ) → 1 ≤ k → needs (write_range (4096 + size) (4096 + at) count) k ≡ needs_block size (min at size) (at + count) k
needs-write size at count k one = ap (λ r. needs r k) (write_range-shifted size at count) ∙ needs-shifted size (min at size) (at + count) k one

-- and which another length does
pub needs-resize : (size n k : ℕ) → 1 ≤ k → needs (resize_range (4096 + size) (4096 + n)) k ≡ needs_block size (min n size) (max n size) k
needs-resize size n k one = ap (λ r. needs r k) (resize_range-shifted size n) ∙ needs-shifted size (min n size) (max n size) k one

-- what a sound object tells of the tree that holds it
pub record SoundParts (size attributes : ℕ) (was : Opened) (c : Contents) : Type 0 where
  pub long : was.bytes ≡ 4096 + size
  pub page : List ℕ
  pub first : page_at was.pages 0 ≡ Some page
  pub is : c ≡ contents_of size attributes was.pages page

-- the parts of an object that is sound by its first page
with-parts : (size attributes : ℕ) (was : Opened) (c : Contents) (first : Option (List ℕ)) → was.bytes ≡ 4096 + size → page_at was.pages 0 ≡ first
    → object_with size attributes was.pages first ≡ Sound c → SoundParts size attributes was c
with-parts size attributes was c (Some page) long found is = record { long = long; page = page; first = found; is = cc }
with-parts size attributes was c None long found is = absurd cc

-- a sound object has the length of its tree, and its first page
pub Sound-parts : (size attributes : ℕ) (was : Opened) (c : Contents) → object_of size attributes was ≡ Sound c → SoundParts size attributes was c
Sound-parts size attributes was c is = elim (cases_eq was.bytes (4096 + size)) [
  | inl long ↦ with-parts size attributes was c (page_at was.pages 0) long refl
      (sym (cond-true (was.bytes == 4096 + size) (object_with size attributes was.pages (page_at was.pages 0)) (Damaged size) (eq-eqb was.bytes (4096 + size) long)) ∙ is)
  | inr other ↦
      let damaged : Damaged size ≡ Sound c =
      sym (cond-false (was.bytes == 4096 + size) (object_with size attributes was.pages (page_at was.pages 0)) (Damaged size) (ne_eqb was.bytes (4096 + size) other)) ∙ is in
      absurd cc
]

-- an object whose tree has that length and first page
pub object_of-sound : (size attributes : ℕ) (now : Opened) (page : List ℕ) → now.bytes ≡ 4096 + size → page_at now.pages 0 ≡ Some page
    → object_of size attributes now ≡ Sound (contents_of size attributes now.pages page)
object_of-sound size attributes now page long found =
    cond-true (now.bytes == 4096 + size) (object_with size attributes now.pages (page_at now.pages 0)) (Damaged size) (eq-eqb now.bytes (4096 + size) long)
    ∙ ap (object_with size attributes now.pages) found

-- a change meets no bad block of the object where each block of the tree that it meets is good
pub bad-met : (pages : List (Option (List ℕ))) (first last : ℕ)
    → ((k : ℕ) → 1 ≤ k → k < length pages → meets (4096 + first) (4096 + last) k ≡ true → IsSome (page_at pages k))
    → list_any (meets_block first last) (bad_blocks pages) ≡ false
bad-met pages first last good =
    list_any-bad-false (meets_block first last) pages (λ k one below met. good k one below (meets-shifted first last k one ∙ met))

-- a bad block of the tree that a change meets is one of the object's
pub bad-found : (pages : List (Option (List ℕ))) (first last k : ℕ) → 1 ≤ k → k < length pages → meets (4096 + first) (4096 + last) k ≡ true → page_at pages k ≡ None
    → list_any (meets_block first last) (bad_blocks pages) ≡ true
bad-found pages first last k one below met bad =
    list_any-bad-true (meets_block first last) pages k one below bad (sym (meets-shifted first last k one) ∙ met)

-- a change needs no bad block of the object where each block of the tree that it needs is good
pub bad-needed : (pages : List (Option (List ℕ))) (size first last : ℕ)
    → ((k : ℕ) → 1 ≤ k → k < length pages → needs (record { size = 4096 + size; first = 4096 + first; last = 4096 + last }) k ≡ true → IsSome (page_at pages k))
    → list_any (needs_block size first last) (bad_blocks pages) ≡ false
bad-needed pages size first last good =
    list_any-bad-false (needs_block size first last) pages (λ k one below needed. good k one below (needs-shifted size first last k one ∙ needed))

-- a bad block of the tree that a change needs is one of the object's
pub bad-need-found : (pages : List (Option (List ℕ))) (size first last k : ℕ) → 1 ≤ k → k < length pages
    → needs (record { size = 4096 + size; first = 4096 + first; last = 4096 + last }) k ≡ true → page_at pages k ≡ None
    → list_any (needs_block size first last) (bad_blocks pages) ≡ true
bad-need-found pages size first last k one below needed bad =
    list_any-bad-true (needs_block size first last) pages k one below bad (sym (needs-shifted size first last k one) ∙ needed)

-- a block that begins among the places of a change is met
met-between : (first last k : ℕ) → 1 ≤ k → first ≤ 4096 * (k - 1) → 4096 * (k - 1) < last → meets_block first last k ≡ true
met-between first last k one from upto = grind (arith, nat_tests)

-- a block that a tree of so many bytes has not lies behind them
behind-end : (n k blocks bytes : ℕ) → 1 ≤ k → bytes ≡ 4096 + n → blocks ≡ greatest_of bytes → blocks ≤ k → n ≤ 4096 * (k - 1)
behind-end n k blocks bytes one long all past = omega arith

-- and one that it has begins before their end
before-end : (n k blocks bytes : ℕ) → 1 ≤ k → bytes ≡ 4096 + n → blocks ≡ greatest_of bytes → k < blocks → 4096 * (k - 1) < n
before-end n k blocks bytes one long all below = omega arith

-- The bad blocks after a change between two places that has each place from the one end to the other.
bad_blocks-between : (size n first last : ℕ) (r : ByteRange) (was now : Opened)
    → r ≡ record { size = 4096 + size; first = 4096 + first; last = 4096 + last } → was.bytes ≡ 4096 + size → now.bytes ≡ 4096 + n
    → length was.pages ≡ greatest_of was.bytes → length now.pages ≡ greatest_of now.bytes
    → first ≤ size → (n < size → first ≤ n) → (size < n → n ≤ last) → (n < size → size ≤ last)
    → IsChanged r (length now.pages) (page_at was.pages) (page_at now.pages)
    → bad_blocks now.pages ≡ filter (λ k. not (meets_block first last k)) (bad_blocks was.pages)
bad_blocks-between size n first last r was now range long longer blocks more low cut high kept changed =
    let met : (k : ℕ) → 1 ≤ k → meets r.first r.last k ≡ meets_block first last k =
    λ k one. ap (λ (q : ByteRange). meets q.first q.last k) range ∙ meets-shifted first last k one in
    bad_blocks-changed (meets_block first last) was.pages now.pages
    (λ k one below miss. changed.same k below (met k one ∙ miss))
    (λ k one below hit. changed.good k below (met k one ∙ hit))
    (λ k one from below.
    let behind : size ≤ 4096 * (k - 1) = behind-end size k (length was.pages) was.bytes one long blocks from in
    let before : 4096 * (k - 1) < n = before-end n k (length now.pages) now.bytes one longer more below in
    met-between first last k one (omega arith) (omega arith))
    (λ k one from below.
    let behind : n ≤ 4096 * (k - 1) = behind-end n k (length now.pages) now.bytes one longer more from in
    let before : 4096 * (k - 1) < size = before-end size k (length was.pages) was.bytes one long blocks below in
    met-between first last k one (omega arith) (omega arith))

-- a change of data bytes keeps the page of the attributes
first-kept : (size first last : ℕ) (r : ByteRange) (was now : Opened) → r ≡ record { size = 4096 + size; first = 4096 + first; last = 4096 + last }
    → length now.pages ≡ greatest_of now.bytes → IsChanged r (length now.pages) (page_at was.pages) (page_at now.pages)
    → page_at now.pages 0 ≡ page_at was.pages 0
first-kept size first last r was now range more changed =
    changed.same 0 (omega arith) (ap (λ (q : ByteRange). meets q.first q.last 0) range ∙ meets-attributes first last)

-- contents from their parts
abbrev contents : (attributes bytes bad : List ℕ) → Contents
contents attributes bytes bad = record { attributes = attributes; bytes = bytes; bad = bad }

-- The object after a write, where its tree has the bytes of that write behind the attributes.
pub object_of-written : (size attributes at : ℕ) (bytes : List ℕ) (was now : Opened) (c : Contents) → object_of size attributes was ≡ Sound c
    → length was.pages ≡ greatest_of was.bytes → length now.pages ≡ greatest_of now.bytes
    → now.bytes ≡ max (4096 + size) (4096 + at + length bytes)
    → IsChanged (write_range (4096 + size) (4096 + at) (length bytes)) (length now.pages) (page_at was.pages) (page_at now.pages)
    → bytes_from (page_at now.pages) 0 now.bytes ≡ after_write (bytes_from (page_at was.pages) 0 was.bytes) (4096 + at) bytes
    → object_of (max size (at + length bytes)) attributes now ≡ Sound (written_contents c at bytes)
object_of-written size attributes at bytes was now c sound blocks more long changed is =
    let n : ℕ = max size (at + length bytes) in
    let r : ByteRange = write_range (4096 + size) (4096 + at) (length bytes) in
    let parts : SoundParts size attributes was c = Sound-parts size attributes was c sound in
    let old : List ℕ = bytes_from (page_at was.pages) 4096 size in
    let longer : now.bytes ≡ 4096 + n = omega arith in
    let first : page_at now.pages 0 ≡ Some parts.page =
    first-kept size (min at size) (at + length bytes) r was now (write_range-shifted size at (length bytes)) more changed ∙ parts.first in
    let stream : bytes_from (page_at now.pages) 4096 n ≡ written old at bytes =
    bytes-written (page_at was.pages) (page_at now.pages) 4096 size at was.bytes now.bytes n bytes parts.long longer is in
    let bad : bad_blocks now.pages ≡ filter (λ k. not (meets_block (min at size) (at + length bytes) k)) (bad_blocks was.pages) =
    bad_blocks-between size n (min at size) (at + length bytes) r was now (write_range-shifted size at (length bytes)) parts.long longer blocks more
    (omega arith) (λ h. omega arith) (λ h. omega arith) (λ h. omega arith) changed in
    object_of-sound n attributes now parts.page longer first
    ∙ ap (λ d. Sound (contents (take attributes parts.page) d (bad_blocks now.pages))) stream
    ∙ ap (λ b. Sound (contents (take attributes parts.page) (written old at bytes) b)) bad
    ∙ ap (λ s. Sound (contents (take attributes parts.page) (written old at bytes) (filter (λ k. not (meets_block (min at s) (at + length bytes) k)) (bad_blocks was.pages))))
    (sym (length-bytes_from (page_at was.pages) 4096 size))
    ∙ ap (λ d. Sound (written_contents d at bytes)) (sym parts.is)

-- The object after another length, where its tree has that length behind the attributes.
pub object_of-resized : (size attributes n : ℕ) (was now : Opened) (c : Contents) → object_of size attributes was ≡ Sound c
    → length was.pages ≡ greatest_of was.bytes → length now.pages ≡ greatest_of now.bytes
    → now.bytes ≡ 4096 + n
    → IsChanged (resize_range (4096 + size) (4096 + n)) (length now.pages) (page_at was.pages) (page_at now.pages)
    → bytes_from (page_at now.pages) 0 now.bytes ≡ after_resize (bytes_from (page_at was.pages) 0 was.bytes) (4096 + n)
    → object_of n attributes now ≡ Sound (resized_contents c n)
object_of-resized size attributes n was now c sound blocks more long changed is =
    let r : ByteRange = resize_range (4096 + size) (4096 + n) in
    let parts : SoundParts size attributes was c = Sound-parts size attributes was c sound in
    let old : List ℕ = bytes_from (page_at was.pages) 4096 size in
    let first : page_at now.pages 0 ≡ Some parts.page =
    first-kept size (min n size) (max n size) r was now (resize_range-shifted size n) more changed ∙ parts.first in
    let stream : bytes_from (page_at now.pages) 4096 n ≡ resized old n =
    bytes-resized (page_at was.pages) (page_at now.pages) 4096 size n was.bytes now.bytes parts.long long is in
    let bad : bad_blocks now.pages ≡ filter (λ k. not (meets_block (min n size) (max n size) k)) (bad_blocks was.pages) =
    bad_blocks-between size n (min n size) (max n size) r was now (resize_range-shifted size n) parts.long long blocks more
    (omega arith) (λ h. omega arith) (λ h. omega arith) (λ h. omega arith) changed in
    object_of-sound n attributes now parts.page long first
    ∙ ap (λ d. Sound (contents (take attributes parts.page) d (bad_blocks now.pages))) stream
    ∙ ap (λ b. Sound (contents (take attributes parts.page) (resized old n) b)) bad
    ∙ ap (λ s. Sound (contents (take attributes parts.page) (resized old n) (filter (λ k. not (meets_block (min n s) (max n s) k)) (bad_blocks was.pages))))
    (sym (length-bytes_from (page_at was.pages) 4096 size))
    ∙ ap (λ d. Sound (resized_contents d n)) (sym parts.is)
