-- Lists of bytes: joined, and in parts.
use Rattle.std.proofs.Common.{ℕ, zero, suc, ◌<◌, List, [], ◌∷◌, ◌++◌, take, drop, arith}
use Rattle.std.specs.Int.{byte_at, bytes_high_first}
use Rattle.disk_model.specs.Bytes.{AreBytes}
use Rattle.node_image.specs.Selection.{bytes_at}

pub bytes-append : (xs ys : List ℕ) → AreBytes xs → AreBytes ys → AreBytes (xs ++ ys)
bytes-append [] ys left right k = right k
bytes-append (x ∷ xs) ys left right zero = left 0
bytes-append (x ∷ xs) ys left right (suc k) = bytes-append xs ys (λ j. left (suc j)) right k

pub bytes-take : (n : ℕ) (xs : List ℕ) → AreBytes xs → AreBytes (take n xs)
bytes-take zero xs each k = omega arith
bytes-take (suc n) [] each k = omega arith
bytes-take (suc n) (x ∷ xs) each zero = each 0
bytes-take (suc n) (x ∷ xs) each (suc k) = bytes-take n xs (λ j. each (suc j)) k

pub bytes-drop : (n : ℕ) (xs : List ℕ) → AreBytes xs → AreBytes (drop n xs)
bytes-drop zero xs each k = each k
bytes-drop (suc n) [] each k = omega arith
bytes-drop (suc n) (x ∷ xs) each k = bytes-drop n xs (λ j. each (suc j)) k

pub part-bytes : (image : List ℕ) (at width : ℕ) → AreBytes image → AreBytes (bytes_at image at width)
unfolding bytes_at
part-bytes image at zero each k = omega arith
part-bytes image at (suc n) each zero = each at
part-bytes image at (suc n) each (suc k) = part-bytes image (suc at) n each k

-- the bytes of a number
byte_small : (i n : ℕ) → byte_at i n < 256
byte_small zero n = omega arith
byte_small (suc i) n = omega arith

pub number-bytes : (k n : ℕ) → AreBytes (bytes_high_first k n)
number-bytes zero n j = omega arith
number-bytes (suc k) n zero = byte_small k n
number-bytes (suc k) n (suc j) = number-bytes k n j
