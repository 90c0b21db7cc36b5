-- The data bytes of an object, which lie behind those of its attributes.
use Rattle.std.proofs.Common.{◌≡◌, ◌+◌, ◌-◌, ◌≤◌, ℕ, List, Option, ◌++◌, length, take, drop, replicate, min, arith, ap, sym, ◌∙◌, append_assoc, length-drop}
use Rattle.std.proofs.lemmas.List.{drop-append-le, drop-take, drop-drop, length-take, get_or-take, get_or-drop}
use Rattle.disk_model.specs.Bytes.{after_write, after_resize}
use Rattle.page_bytes.specs.Pages.{bytes_from, byte_at}
use Rattle.page_bytes.proofs.Content.{drop-bytes_from, length-bytes_from, get_or-bytes_from, bytes_from-is}
use Rattle.store_model.specs.Data.{written, resized, bytes_at}

-- the bytes behind the first m, where what lies before some others has m bytes and more
drop-joined : (m n : ℕ) (old rest : List ℕ) → m ≤ length old → drop m (take (m + n) old ++ rest) ≡ take n (drop m old) ++ rest
drop-joined m n old rest fits =
    drop-append-le m (take (m + n) old) rest (omega (arith, length-take (m + n) old))
    ∙ ap (λ l. l ++ rest) (drop-take m n old)

-- a write behind the first m bytes writes the bytes behind these
pub drop-after_write : (m at : ℕ) (old bytes : List ℕ) → m ≤ length old → drop m (after_write old (m + at) bytes) ≡ written (drop m old) at bytes
drop-after_write m at old bytes fits =
    let gap : List ℕ = replicate (at - length (drop m old)) 0 in
    let wide : m + at - length old ≡ at - length (drop m old) = omega (arith, length-drop m old) in
    let far : m + at + length bytes ≡ m + (at + length bytes) = omega arith in
    let rest : drop (m + at + length bytes) old ≡ drop (at + length bytes) (drop m old) =
    ap (λ i. drop i old) far ∙ sym (drop-drop (at + length bytes) m old) in
    drop-joined m at old (replicate (m + at - length old) 0 ++ (bytes ++ drop (m + at + length bytes) old)) fits
    ∙ ap (λ i. take at (drop m old) ++ (replicate i 0 ++ (bytes ++ drop (m + at + length bytes) old))) wide
    ∙ ap (λ l. take at (drop m old) ++ (gap ++ (bytes ++ l))) rest
    ∙ sym (append_assoc (take at (drop m old)) gap (bytes ++ drop (at + length bytes) (drop m old)))
    ∙ sym (append_assoc (take at (drop m old) ++ gap) bytes (drop (at + length bytes) (drop m old)))

-- and a length of m and more is another length of these
pub drop-after_resize : (m n : ℕ) (old : List ℕ) → m ≤ length old → drop m (after_resize old (m + n)) ≡ resized (drop m old) n
drop-after_resize m n old fits =
    let wide : m + n - length old ≡ n - length (drop m old) = omega (arith, length-drop m old) in
    drop-joined m n old (replicate (m + n - length old) 0) fits
    ∙ ap (λ i. take n (drop m old) ++ replicate i 0) wide

-- the bytes behind the first m
pub bytes-behind : (pages : ℕ → Option (List ℕ)) (m size all : ℕ) → all ≡ m + size → bytes_from pages m size ≡ drop m (bytes_from pages 0 all)
bytes-behind pages m size all long =
    let front : m ≡ 0 + m = omega arith in
    ap (λ i. bytes_from pages i size) front ∙ sym (drop-bytes_from pages 0 m size) ∙ ap (λ n. drop m (bytes_from pages 0 n)) (sym long)

-- the bytes behind the first m after a write behind these
pub bytes-written : (was now : ℕ → Option (List ℕ)) (m size at before after more : ℕ) (bytes : List ℕ) → before ≡ m + size → after ≡ m + more
    → bytes_from now 0 after ≡ after_write (bytes_from was 0 before) (m + at) bytes
    → bytes_from now m more ≡ written (bytes_from was m size) at bytes
bytes-written was now m size at before after more bytes long longer is =
    bytes-behind now m more after longer
    ∙ ap (drop m) is
    ∙ drop-after_write m at (bytes_from was 0 before) bytes (omega (arith, length-bytes_from was 0 before))
    ∙ ap (λ old. written old at bytes) (sym (bytes-behind was m size before long))

-- and after another length of m and more
pub bytes-resized : (was now : ℕ → Option (List ℕ)) (m size n before after : ℕ) → before ≡ m + size → after ≡ m + n
    → bytes_from now 0 after ≡ after_resize (bytes_from was 0 before) (m + n)
    → bytes_from now m n ≡ resized (bytes_from was m size) n
bytes-resized was now m size n before after long longer is =
    bytes-behind now m n after longer
    ∙ ap (drop m) is
    ∙ drop-after_resize m n (bytes_from was 0 before) (omega (arith, length-bytes_from was 0 before))
    ∙ ap (λ old. resized old n) (sym (bytes-behind was m size before long))

-- a read of the bytes behind the first m
pub bytes_at-behind : (pages : ℕ → Option (List ℕ)) (m size at n : ℕ) → bytes_from pages (m + at) (min n (size - at)) ≡ bytes_at (bytes_from pages m size) at n
bytes_at-behind pages m size at n =
    let all : List ℕ = bytes_from pages m size in
    let long : length all ≡ size = length-bytes_from pages m size in
    bytes_from-is pages (m + at) (min n (size - at)) (take n (drop at all))
    (length-take n (drop at all) ∙ ap (min n) (length-drop at all ∙ ap (λ l. l - at) long))
    (λ i below.
    get_or-take n (drop at all) i 0 (omega arith)
    ∙ get_or-drop at all i 0
    ∙ get_or-bytes_from pages m size (at + i) (omega arith)
    ∙ ap (byte_at pages) (omega arith))

-- a read of an object's data is a read of its tree
pub bytes_at-object : (pages : ℕ → Option (List ℕ)) (size at n : ℕ) → bytes_from pages (4096 + at) (min n (size - at)) ≡ bytes_at (bytes_from pages 4096 size) at n
bytes_at-object pages size at n = bytes_at-behind pages 4096 size at n
