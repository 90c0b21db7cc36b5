-- A list of numbers, part of which is written.
use Rattle.std.proofs.Common.{◌≡◌, ℕ, ◌+◌, ◌-◌, ◌<◌, ◌≤◌, List, length, take, drop, get_or, bit_xor, ap, ◌∙◌, ⊎_elim, arith, length-append, length-drop}
use Rattle.std.proofs.lemmas.Bool.{cases_lt}
use Rattle.std.proofs.lemmas.List.{get_or-take, get_or-drop, get_or_append_left, get_or-append_right, length-take-le}
use borrow.Rule.Slice.PartMut.{put_mid}

-- a write from place a on leaves the places below a
put_below : (a k : ℕ) (xs ys : List ℕ) (j : ℕ) → a ≤ length xs → j < a → get_or (put_mid a k xs ys) j 0 ≡ get_or xs j 0
put_below a k xs ys j le lt =
    get_or_append_left (take a xs) _ 0 j (omega (arith, length-take-le a xs le)) ∙ get_or-take a xs j 0 lt

-- it puts the part in its place
put_inside : (a k : ℕ) (xs ys : List ℕ) (j : ℕ) → a ≤ length xs → a ≤ j → j < a + length ys → get_or (put_mid a k xs ys) j 0 ≡ get_or ys (j - a) 0
put_inside a k xs ys j le low lt =
    get_or-append_right (take a xs) _ a j 0 (length-take-le a xs le) low ∙ get_or_append_left ys _ 0 (j - a) (omega arith)

-- and leaves the places after the part
put_above : (a k : ℕ) (xs ys : List ℕ) (j : ℕ) → a ≤ length xs → length ys ≡ k → a + k ≤ j → get_or (put_mid a k xs ys) j 0 ≡ get_or xs j 0
put_above a k xs ys j le len high =
    let e : a + (k + (j - a - k)) ≡ j = omega arith in
    get_or-append_right (take a xs) _ a j 0 (length-take-le a xs le) (omega arith)
    ∙ get_or-append_right ys _ k (j - a) 0 len (omega arith)
    ∙ get_or-drop k (drop a xs) (j - a - k) 0 ∙ get_or-drop a xs (k + (j - a - k)) 0 ∙ ap (λ n. get_or xs n 0) e

-- the list keeps its length
pub put-length : (a n : ℕ) (xs ys : List ℕ) → a + n ≤ length xs → length ys ≡ n → length (put_mid a n xs ys) ≡ length xs
put-length a n xs ys fits len =
    length-append (take a xs) _ ∙ ap (λ m. length (take a xs) + m) (length-append ys _)
    ∙ omega (arith, length-take-le a xs (omega arith), length-drop n (drop a xs), length-drop a xs)

-- the places of the text below n have f added
abbrev pub IsAdded : (ℕ → ℕ) → List ℕ → List ℕ → ℕ → Type 0
IsAdded f orig text n = (k : ℕ) → k < n → get_or text k 0 ≡ bit_xor (get_or orig k 0) (f k)

-- the places of the text from n on are as they were
abbrev pub IsLeft : List ℕ → List ℕ → ℕ → Type 0
IsLeft orig text n = (k : ℕ) → n ≤ k → get_or text k 0 ≡ get_or orig k 0

-- the part of the text from place a on, n bytes of it, has f added
pub added-more : (f : ℕ → ℕ) (orig text part : List ℕ) (a n m : ℕ) → a + n ≤ length text → length part ≡ n
    → IsAdded f orig text a → IsLeft orig text a
    → ((k : ℕ) → k < n → get_or part k 0 ≡ bit_xor (get_or text (a + k) 0) (f (a + k)))
    → m ≡ a + n → IsAdded f orig (put_mid a n text part) m
added-more f orig text part a n m fits len done left added end k lt =
    ⊎_elim
    (λ (below : k < a). put_below a n text part k (omega arith) below ∙ done k below)
    (λ (above : a ≤ k).
    let j : ℕ = k - a in
    let at : a + j ≡ k = omega arith in
    put_inside a n text part k (omega arith) above (omega arith)
    ∙ added j (omega arith)
    ∙ (λ t. bit_xor ((ap (λ n. get_or text n 0) at ∙ left k above) t) (f (at t))))
    (cases_lt k a)

-- the places after the part are as they were
pub left-more : (orig text part : List ℕ) (a n m : ℕ) → a + n ≤ length text → length part ≡ n → IsLeft orig text a → a + n ≤ m → IsLeft orig (put_mid a n text part) m
left-more orig text part a n m fits len left end k le =
    put_above a n text part k (omega arith) len (omega arith) ∙ left k (omega arith)
