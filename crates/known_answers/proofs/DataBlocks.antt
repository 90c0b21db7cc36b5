-- The data blocks of an object: what one of them has, and what the first of them have.
use Rattle.std.proofs.Common.{◌≡◌, ◌+◌, ◌-◌, ◌*◌, ◌/◌, ◌%◌, ◌<◌, ◌≤◌, ◌++◌, ℕ, zero, suc, List, [], ◌∷◌, length, take, drop, filter, replicate, min, Option, Some, None, Bool, true, false, cond, inr, refl, sym, ap, ◌∙◌, arith, length-drop}
use Rattle.std.specs.List.{list_any, range_with_len}
use Rattle.std.specs.Option.{is_none}
use Rattle.std.proofs.lemmas.List.{drop-take, get_or-replicate, length-replicate, length-take, take-append-drop, take-replicate, take-take, take_all, take_at}
use Rattle.disk_model.specs.State.{FileState}
use Rattle.disk_model.specs.Calls.{Rests}
use Rattle.node_image.specs.Layout.{greatest_of}
use Rattle.node_image.proofs.Matching.{length-row}
use Rattle.htree_file.specs.Opening.{IsVerified}
use Rattle.htree_file.specs.Pages.{page_in}
use Rattle.htree_file.specs.Standing.{Told}
use Rattle.page_bytes.specs.Pages.{byte_in, bytes_from, page_at}
use Rattle.page_bytes.proofs.Content.{bytes_from-is}
use Rattle.store_model.specs.Data.{bytes_at, meets_block}
use Rattle.crash_core.specs.MountedObject.{bad_blocks}
use Rattle.crash_core.proofs.BadBlocks.{list_any-bad-false, list_any-bad-true}
use Rattle.crash_core.proofs.ObjectBytes.{bytes_at-object}
use Rattle.object_file.specs.Held.{held_in, pages_in}
use Rattle.object_file.specs.Value.{ObjectValue, size_in}
use Rattle.object_file.proofs.ObjectReads.{within_tree}
use Rattle.known_answers.specs.Files.{IsKept}

-- what a kept file is read as is told
pub kept_told : (old new : FileState) (bytes : List ℕ) → IsKept old bytes → Rests old new → Told old new
kept_told old new bytes kept rests = ((rests.goes_on).tells ∙ kept.tells, inr kept.steady)

-- the bytes of a bad block are zero
bytes_from-bad : (pages : ℕ → Option (List ℕ)) (k at n : ℕ) → pages k ≡ None → at ≡ 4096 * k → n ≤ 4096 → bytes_from pages at n ≡ replicate n 0
bytes_from-bad pages k at n bad is few =
    bytes_from-is pages at n (replicate n 0) (length-replicate n 0) (λ i below.
    let block : (at + i) / 4096 ≡ k = omega arith in
    get_or-replicate n i 0 0 below ∙ sym (ap (λ page. byte_in page ((at + i) % 4096)) (ap pages block ∙ bad)))

-- and so are those of a bad data block
bytes_at-bad : (pages : ℕ → Option (List ℕ)) (size k : ℕ) → 1 ≤ k → pages k ≡ None
    → bytes_at (bytes_from pages 4096 size) (4096 * (k - 1)) 4096 ≡ replicate (min 4096 (size - 4096 * (k - 1))) 0
bytes_at-bad pages size k one bad =
    let n : ℕ = min 4096 (size - 4096 * (k - 1)) in
    sym (bytes_at-object pages size (4096 * (k - 1)) 4096)
    ∙ bytes_from-bad pages k (4096 + 4096 * (k - 1)) n bad (omega arith) (omega arith)

-- the bytes of a bad data block, taken from a page of zero bytes
pub take-zeros : (pages : ℕ → Option (List ℕ)) (size k : ℕ) (page : List ℕ) (long : ℕ) → 1 ≤ k → pages k ≡ None → page ≡ replicate long 0 → long ≡ 4096
    → take (min 4096 (size - 4096 * (k - 1))) page ≡ bytes_at (bytes_from pages 4096 size) (4096 * (k - 1)) 4096
take-zeros pages size k page long one bad is whole =
    let n : ℕ = min 4096 (size - 4096 * (k - 1)) in
    ap (take n) is ∙ take-replicate n long 0 (omega arith) ∙ sym (bytes_at-bad pages size k one bad)

-- and those of a good one, taken from the page that they were read into
pub take-read : (bytes rest page : List ℕ) (size at long : ℕ) → length bytes ≡ size → long ≡ 4096 → page ≡ bytes_at bytes at long ++ rest
    → take (min 4096 (size - at)) page ≡ bytes_at bytes at 4096
take-read bytes rest page size at long all whole is =
    let n : ℕ = min 4096 (size - at) in
    let count : length (bytes_at bytes at long) ≡ n = omega (arith, length-take long (drop at bytes), length-drop at bytes) in
    ap (take n) is ∙ take_at (bytes_at bytes at long) rest n count ∙ ap (bytes_at bytes at) whole

-- places of one data block meet no other
met-one : (k j at last : ℕ) → at ≡ 4096 * (k - 1) → at < last → last ≤ at + 4096 → 1 ≤ k → meets_block at last j ≡ true → j ≡ k
met-one k j at last is some few one met = grind (arith, met)

meets-one : (k at last : ℕ) → at ≡ 4096 * (k - 1) → at < last → last ≤ at + 4096 → 1 ≤ k → meets_block at last k ≡ true
meets-one k at last is some few one = grind arith

-- a read of places of one data block finds a bad one where that is bad
found-bad : (pages : List (Option (List ℕ))) (k at last : ℕ) → 1 ≤ k → k < length pages → at ≡ 4096 * (k - 1) → at < last → last ≤ at + 4096
    → list_any (meets_block at last) (bad_blocks pages) ≡ is_none (page_at pages k)
found-bad pages k at last one below is some few = go (page_at pages k) refl
  where
    go : (page : Option (List ℕ)) → page_at pages k ≡ page → list_any (meets_block at last) (bad_blocks pages) ≡ is_none (page_at pages k)
    go None bad = list_any-bad-true (meets_block at last) pages k one below bad (meets-one k at last is some few one) ∙ sym (ap is_none bad)
    go (Some page) good =
        list_any-bad-false (meets_block at last) pages (λ j from upto met.
        let same : j ≡ k = met-one k j at last is some few one met in
        rw (same, good) refl)
        ∙ sym (ap is_none good)

-- so does a read of a data block of an object, into a buffer of a block's length
pub found-data : {F : Type 0} (o : ObjectValue F) (image : List ℕ) (k long : ℕ) → IsVerified o.tree.root o.tree.tree → 1 ≤ k → 4096 * k < o.tree.tree.head.length → long ≡ 4096
    → list_any (meets_block (4096 * (k - 1)) (4096 * (k - 1) + min long (size_in o - 4096 * (k - 1)))) (held_in o image).bad ≡ is_none (page_at (pages_in o.tree image) k)
found-data o image k long verified one below whole =
    let at : ℕ = 4096 * (k - 1) in
    let within = within_tree o.tree.root o.tree.tree k verified below in
    found-bad (pages_in o.tree image) k at (at + min long (size_in o - at)) one
    (omega (arith, within, length-row (page_in image o.tree.key o.tree.tree) (length o.tree.tree.nodes))) refl (omega arith) (omega arith)

-- a bad block has no page
pub bad_page : (pages : List (Option (List ℕ))) (k : ℕ) → is_none (page_at pages k) ≡ true → page_at pages k ≡ None
bad_page pages k bad = go (page_at pages k) bad
  where
    go : (page : Option (List ℕ)) → is_none page ≡ true → page ≡ None
    go None bad = refl
    go (Some page) bad = absurd (cc (bad))

-- the next bytes behind the first ones
take-block : (bytes : List ℕ) (at n : ℕ) → take at bytes ++ bytes_at bytes at n ≡ take (at + n) bytes
take-block bytes at n =
    (λ i. sym (take-take at (at + n) bytes (omega arith)) i ++ sym (drop-take at n bytes) i)
    ∙ take-append-drop at (take (at + n) bytes)

-- the bytes of the blocks so far, with one more block
pub bytes-more : (all bytes next : List ℕ) (k : ℕ) → 1 ≤ k → bytes ≡ take (4096 * (k - 1)) all → next ≡ bytes ++ bytes_at all (4096 * (k - 1)) 4096
    → next ≡ take (4096 * (k + 1 - 1)) all
bytes-more all bytes next k one so_far is =
    is
    ∙ ap (λ b. b ++ bytes_at all (4096 * (k - 1)) 4096) so_far
    ∙ take-block all (4096 * (k - 1)) 4096
    ∙ ap (λ n. take n all) (let e : 4096 * (k - 1) + 4096 ≡ 4096 * (k + 1 - 1) = omega arith in e)

-- those of all blocks
pub bytes-all : (all bytes : List ℕ) (size length_of count : ℕ) → length all ≡ size → size ≡ length_of - 4096 → greatest_of length_of ≤ count
    → bytes ≡ take (4096 * (count - 1)) all → bytes ≡ all
bytes-all all bytes size length_of count long behind is so_far =
    so_far ∙ take_all (4096 * (count - 1)) all (omega (arith, is))

-- the bad ones among one more number
cond-behind : (b : Bool) (k : ℕ) (xs ys : List ℕ) → cond b (k ∷ (xs ++ ys)) (xs ++ ys) ≡ cond b (k ∷ xs) xs ++ ys
cond-behind true k xs ys = refl
cond-behind false k xs ys = refl

filter-range : (p : ℕ → Bool) (a n k : ℕ) → a + n ≡ k → filter p (range_with_len a (suc n)) ≡ filter p (range_with_len a n) ++ cond (p k) (k ∷ []) []
filter-range p a zero k is = ap (λ j. cond (p j) (j ∷ []) []) (let e : a ≡ k = omega arith in e)
filter-range p a (suc n) k is =
    ap (λ l. cond (p a) (a ∷ l) l) (filter-range p (a + 1) n k (omega arith))
    ∙ cond-behind (p a) a (filter p (range_with_len (a + 1) n)) (cond (p k) (k ∷ []) [])

-- the numbers of the bad ones among one more block
pub bad-more : (p : ℕ → Bool) (bad next : List ℕ) (k : ℕ) → 1 ≤ k → bad ≡ filter p (range_with_len 1 (k - 1)) → next ≡ bad ++ cond (p k) (k ∷ []) []
    → next ≡ filter p (range_with_len 1 (k + 1 - 1))
bad-more p bad next k one so_far is =
    is
    ∙ ap (λ b. b ++ cond (p k) (k ∷ []) []) so_far
    ∙ sym (filter-range p 1 (k - 1) k (omega arith))
    ∙ ap (λ n. filter p (range_with_len 1 n)) (let e : suc (k - 1) ≡ k + 1 - 1 = omega arith in e)
