-- Vectors of two lanes, lane by lane.
use Rattle.std.proofs.Common.{◌≡◌, ℕ, zero, suc, ◌*◌, ◌%◌, ◌^◌, ◌<◌, List, [], ◌∷◌, length, replicate, slice_index, bit_and, bit_xor, refl, sym, ap, subst, ◌∙◌, arith}
use Rattle.std.specs.Prelude.{slice_index_or}
use lib.Lanes.{zip2}
use Rattle.std.proofs.Math.Nat.{mod-eq_of_lt}
use Rattle.std.proofs.lemmas.Simd.{get_or-zip2, length-zip2, get_or-replicate}
use Rattle.std.proofs.lemmas.Nat.{mul-lt}
use Rattle.ghash_field.specs.Holes.{part, sum_of_four, lane, settled_lane, AreAdded, AreTwoWords, AreVectors, AreWords, AreParts, sum_of_products}
use Rattle.ghash_field.specs.Polynomial.{product}
use Rattle.ghash_field.proofs.WordParts.{and_xor, part-lt, product-diagonals, sums_two}

pub length-op : (f : ℕ → ℕ → ℕ) (a b : List ℕ) → length a ≡ 2 → length b ≡ 2 → length (zip2 f a b) ≡ 2
length-op f a b la lb = length-zip2 f a b (la ∙ sym lb) ∙ la

pub lane-op : (f : ℕ → ℕ → ℕ) (a b : List ℕ) (k : ℕ) → k < 2 → length a ≡ 2 → length b ≡ 2
    → slice_index (zip2 f a b) k ≡ f (slice_index a k) (slice_index b k)
lane-op f a b k low la lb = get_or-zip2 f a b k 0 0 0 (omega arith) (omega arith)

-- four vectors in one
pub four_lanes : (f : ℕ → ℕ → ℕ) (a b c d : List ℕ) (k : ℕ) → k < 2 → length a ≡ 2 → length b ≡ 2 → length c ≡ 2 → length d ≡ 2
    → slice_index (zip2 f (zip2 f (zip2 f a b) c) d) k ≡ f (f (f (slice_index a k) (slice_index b k)) (slice_index c k)) (slice_index d k)
four_lanes f a b c d k low la lb lc ld =
    let ab : length (zip2 f a b) ≡ 2 = length-op f a b la lb in
    lane-op f (zip2 f (zip2 f a b) c) d k low (length-op f (zip2 f a b) c ab lc) ld
    ∙ ap (λ s. f s (slice_index d k)) (lane-op f (zip2 f a b) c k low ab lc ∙ ap (λ s. f s (slice_index c k)) (lane-op f a b k low la lb))

pub length-four : (f : ℕ → ℕ → ℕ) (a b c d : List ℕ) → length a ≡ 2 → length b ≡ 2 → length c ≡ 2 → length d ≡ 2
    → length (zip2 f (zip2 f (zip2 f a b) c) d) ≡ 2
length-four f a b c d la lb lc ld = length-op f (zip2 f (zip2 f a b) c) d (length-op f (zip2 f a b) c (length-op f a b la lb) lc) ld

masked-long : (a : List ℕ) (m : ℕ) → length a ≡ 2 → length (zip2 bit_and a (replicate 2 m)) ≡ 2
masked-long a m long = length-op bit_and a (replicate 2 m) long refl

masked-lane : (a : List ℕ) (m k : ℕ) → k < 2 → length a ≡ 2 → slice_index (zip2 bit_and a (replicate 2 m)) k ≡ bit_and (slice_index a k) m
masked-lane a m k low long = lane-op bit_and a (replicate 2 m) k low long refl ∙ ap (bit_and (slice_index a k)) (get_or-replicate 2 k m 0 low)

-- a fact of each number below 4
pub four_cases : (P : ℕ → Type 0) → P 0 → P 1 → P 2 → P 3 → (j : ℕ) → j < 4 → P j
four_cases P p0 p1 p2 p3 zero lt = p0
four_cases P p0 p1 p2 p3 (suc zero) lt = p1
four_cases P p0 p1 p2 p3 (suc (suc zero)) lt = p2
four_cases P p0 p1 p2 p3 (suc (suc (suc zero))) lt = p3
four_cases P p0 p1 p2 p3 (suc (suc (suc (suc j)))) lt = absurd (omega arith)

pub parts_made : (x : List ℕ) → length x ≡ 2
    → let masked = λ (m : ℕ). zip2 bit_and x (replicate 2 m) in
    AreParts x (masked 0x1111_1111 ∷ masked 0x2222_2222 ∷ masked 0x4444_4444 ∷ masked 0x8888_8888 ∷ [])
parts_made x long =
    let masked = λ (m : ℕ). zip2 bit_and x (replicate 2 m) in
    let parts : List (List ℕ) = masked 0x1111_1111 ∷ masked 0x2222_2222 ∷ masked 0x4444_4444 ∷ masked 0x8888_8888 ∷ [] in
    four_cases (λ j. (length (slice_index_or parts j []) ≡ 2) × ((k : ℕ) → k < 2 → lane parts j k ≡ part (slice_index x k) j))
    (masked-long x 0x1111_1111 long, λ k low. masked-lane x 0x1111_1111 k low long)
    (masked-long x 0x2222_2222 long, λ k low. masked-lane x 0x2222_2222 k low long)
    (masked-long x 0x4444_4444 long, λ k low. masked-lane x 0x4444_4444 k low long)
    (masked-long x 0x8888_8888 long, λ k low. masked-lane x 0x8888_8888 k low long)

-- the product of two words fits
wrapped : ℕ → ℕ → ℕ
wrapped a b = a * b % 2 ^ 64

wrapped_same : (a b : ℕ) → a < 2 ^ 32 → b < 2 ^ 32 → wrapped a b ≡ a * b
unfolding wrapped
wrapped_same a b ha hb = mod-eq_of_lt (mul-lt a b (2 ^ 32) (2 ^ 32) ha hb)

module _ (x y : List (List ℕ)) (wx : AreWords x) (wy : AreWords y) where
  unfoldable pub times : ℕ → List ℕ
  times j = zip2 (λ a b. a * b % 2 ^ 64) (slice_index_or x j []) (slice_index_or y j [])

  times-long : (j : ℕ) → j < 4 → length (times j) ≡ 2
  unfolding times
  times-long j low = length-op (λ a b. a * b % 2 ^ 64) (slice_index_or x j []) (slice_index_or y j []) (wx j low).0 (wy j low).0

  times-lane : (j k : ℕ) → j < 4 → k < 2 → slice_index (times j) k ≡ lane x j k * lane y j k
  unfolding times wrapped
  times-lane j k low small =
      lane-op (λ a b. a * b % 2 ^ 64) (slice_index_or x j []) (slice_index_or y j []) k small (wx j low).0 (wy j low).0
      ∙ wrapped_same (lane x j k) (lane y j k) ((wx j low).1 k small) ((wy j low).1 k small)

  unfoldable pub sum : List ℕ
  sum = zip2 bit_xor (zip2 bit_xor (zip2 bit_xor (times 0) (times 1)) (times 2)) (times 3)

  pub sum-long : length sum ≡ 2
  unfolding sum
  sum-long = length-four bit_xor (times 0) (times 1) (times 2) (times 3)
      (times-long 0 (omega arith)) (times-long 1 (omega arith)) (times-long 2 (omega arith)) (times-long 3 (omega arith))

  pub sum-lane : (k : ℕ) → k < 2 → slice_index sum k ≡ sum_of_products x y k
  unfolding sum
  sum-lane k low =
      four_lanes bit_xor (times 0) (times 1) (times 2) (times 3) k low
      (times-long 0 (omega arith)) (times-long 1 (omega arith)) (times-long 2 (omega arith)) (times-long 3 (omega arith))
      ∙ (λ i. sum_of_four (times-lane 0 k (omega arith) low i) (times-lane 1 k (omega arith) low i) (times-lane 2 k (omega arith) low i) (times-lane 3 k (omega arith) low i))

-- the product in a lane, from four sums of products of parts
joined : (x y : List ℕ) (p q : List (List ℕ)) (k : ℕ) → k < 2 → AreParts x p → AreParts y q → slice_index x k < 2 ^ 32 → slice_index y k < 2 ^ 32
    → let l = λ (i j : ℕ). lane p i k * lane q j k in
    sum_of_four (bit_and (sum_of_four (l 0 0) (l 1 3) (l 2 2) (l 3 1)) 0x1111_1111_1111_1111)
    (bit_and (sum_of_four (l 0 1) (l 1 0) (l 2 3) (l 3 2)) 0x2222_2222_2222_2222)
    (bit_and (sum_of_four (l 0 2) (l 1 1) (l 2 0) (l 3 3)) 0x4444_4444_4444_4444)
    (bit_and (sum_of_four (l 0 3) (l 1 2) (l 2 1) (l 3 0)) 0x8888_8888_8888_8888) ≡ product (slice_index x k) (slice_index y k)
joined x y p q k low px py hx hy =
    let each : (i j : ℕ) → i < 4 → j < 4 → lane p i k * lane q j k ≡ part (slice_index x k) i * part (slice_index y k) j =
    λ i j li lj n. (px i li).1 k low n * (py j lj).1 k low n in
    (λ n. sum_of_four
    (bit_and (sum_of_four (each 0 0 (omega arith) (omega arith) n) (each 1 3 (omega arith) (omega arith) n) (each 2 2 (omega arith) (omega arith) n) (each 3 1 (omega arith) (omega arith) n)) 0x1111_1111_1111_1111)
    (bit_and (sum_of_four (each 0 1 (omega arith) (omega arith) n) (each 1 0 (omega arith) (omega arith) n) (each 2 3 (omega arith) (omega arith) n) (each 3 2 (omega arith) (omega arith) n)) 0x2222_2222_2222_2222)
    (bit_and (sum_of_four (each 0 2 (omega arith) (omega arith) n) (each 1 1 (omega arith) (omega arith) n) (each 2 0 (omega arith) (omega arith) n) (each 3 3 (omega arith) (omega arith) n)) 0x4444_4444_4444_4444)
    (bit_and (sum_of_four (each 0 3 (omega arith) (omega arith) n) (each 1 2 (omega arith) (omega arith) n) (each 2 1 (omega arith) (omega arith) n) (each 3 0 (omega arith) (omega arith) n)) 0x8888_8888_8888_8888))
    ∙ product-diagonals (slice_index x k) (slice_index y k) hx hy

-- the parts of words are words
pub parts-words : (x : List ℕ) (p : List (List ℕ)) → AreTwoWords x → AreParts x p → AreWords p
parts-words x p words parts = λ j low. (
  (parts j low).0,
  λ k small. subst (λ n. n < 2 ^ 32) (sym ((parts j low).1 k small)) (part-lt (slice_index x k) j (words.1 k small)),
)

-- four vectors of words in another order
abbrev pub ordered : List (List ℕ) → ℕ → ℕ → ℕ → ℕ → List (List ℕ)
ordered p a b c d = slice_index_or p a [] ∷ slice_index_or p b [] ∷ slice_index_or p c [] ∷ slice_index_or p d [] ∷ []

pub ordered-words : (p : List (List ℕ)) (a b c d : ℕ) → a < 4 → b < 4 → c < 4 → d < 4 → AreWords p → AreWords (ordered p a b c d)
ordered-words p a b c d la lb lc ld words =
    four_cases (λ j. AreTwoWords (slice_index_or (ordered p a b c d) j [])) (words a la) (words b lb) (words c lc) (words d ld)

-- a vector of two lanes that has the sums of the products of p by q
abbrev pub AreSums : List (List ℕ) → List (List ℕ) → List ℕ → Type 0
AreSums p q t = (length t ≡ 2) × ((k : ℕ) → k < 2 → slice_index t k ≡ sum_of_products p q k)

-- a sum is cut to its places before or after another is added
cut_sum : (s t : List ℕ) (k n m : ℕ) → k < 2 → length s ≡ 2 → length t ≡ 2 → slice_index t k ≡ n
    → bit_and (slice_index (zip2 bit_xor s t) k) m ≡ bit_xor (bit_and (slice_index s k) m) (bit_and n m)
cut_sum s t k n m low ls lt e =
    ap (λ v. bit_and v m) (lane-op bit_xor s t k low ls lt ∙ ap (bit_xor (slice_index s k)) e) ∙ and_xor (slice_index s k) n m

-- the products of x by y are added to four sums
pub sums_added : (s p q : List (List ℕ)) (x y t0 t1 t2 t3 : List ℕ)
    → AreVectors s → AreTwoWords x → AreTwoWords y → AreParts x p → AreParts y q
    → AreSums p (ordered q 0 3 2 1) t0 → AreSums p (ordered q 1 0 3 2) t1 → AreSums p (ordered q 2 1 0 3) t2 → AreSums p (ordered q 3 2 1 0) t3
    → let v = λ (j : ℕ). slice_index_or s j [] in
    AreAdded s (zip2 bit_xor (v 0) t0 ∷ zip2 bit_xor (v 1) t1 ∷ zip2 bit_xor (v 2) t2 ∷ zip2 bit_xor (v 3) t3 ∷ []) x y
sums_added s p q x y t0 t1 t2 t3 vectors wx wy px py e0 e1 e2 e3 =
    let v : ℕ → List ℕ = λ j. slice_index_or s j [] in
    let after : List (List ℕ) = zip2 bit_xor (v 0) t0 ∷ zip2 bit_xor (v 1) t1 ∷ zip2 bit_xor (v 2) t2 ∷ zip2 bit_xor (v 3) t3 ∷ [] in (
      four_cases (λ j. length (slice_index_or after j []) ≡ 2)
          (length-op bit_xor (v 0) t0 (vectors 0 (omega arith)) e0.0) (length-op bit_xor (v 1) t1 (vectors 1 (omega arith)) e1.0)
          (length-op bit_xor (v 2) t2 (vectors 2 (omega arith)) e2.0) (length-op bit_xor (v 3) t3 (vectors 3 (omega arith)) e3.0),
      λ k low.
          let old : ℕ → ℕ → ℕ = λ j m. bit_and (lane s j k) m in
          let more : ℕ → ℕ → ℕ → ℕ → ℕ → ℕ = λ a b c d m. bit_and (sum_of_products p (ordered q a b c d) k) m in
          (λ i. sum_of_four
          (cut_sum (v 0) t0 k _ 0x1111_1111_1111_1111 low (vectors 0 (omega arith)) e0.0 (e0.1 k low) i)
          (cut_sum (v 1) t1 k _ 0x2222_2222_2222_2222 low (vectors 1 (omega arith)) e1.0 (e1.1 k low) i)
          (cut_sum (v 2) t2 k _ 0x4444_4444_4444_4444 low (vectors 2 (omega arith)) e2.0 (e2.1 k low) i)
          (cut_sum (v 3) t3 k _ 0x8888_8888_8888_8888 low (vectors 3 (omega arith)) e3.0 (e3.1 k low) i))
          ∙ sym (sums_two (old 0 0x1111_1111_1111_1111) (old 1 0x2222_2222_2222_2222) (old 2 0x4444_4444_4444_4444) (old 3 0x8888_8888_8888_8888)
          (more 0 3 2 1 0x1111_1111_1111_1111) (more 1 0 3 2 0x2222_2222_2222_2222) (more 2 1 0 3 0x4444_4444_4444_4444) (more 3 2 1 0 0x8888_8888_8888_8888))
          ∙ ap (bit_xor (settled_lane s k)) (joined x y p q k low px py (wx.1 k low) (wy.1 k low)),
    )
