-- No two parts overlap, and in format 2 no two meet one sector.
use Rattle.std.proofs.Common.{◌≡◌, inl, inr, ℕ, ◌+◌, ◌/◌, ◌∙◌, refl, sym, ap, arith}
use Rattle.std.proofs.lemmas.Bool.{cases_lt}
use Rattle.node_image.specs.Parts.{Layout, Part, start, size, IsPart, In, Off}
use Rattle.node_image.specs.Parts.Layout.{aligned, tight}
use Rattle.node_image.specs.Parts.Part.{block, head, node}

-- a place of a tight file lies in one part
one_tight : (q r : Part) (p : ℕ) → IsPart q → IsPart r → In tight q p → In tight r p → q ≡ r
one_tight (head v) (head w) p a b i j = let e : v ≡ w = omega (arith, i.from, i.upto, j.from, j.upto) in ap head e
one_tight (head v) (node m w) p a b i j = absurd (omega (arith, a, i.from, i.upto, j.from, j.upto))
one_tight (head v) (block l w) p a b i j = absurd (omega (arith, a, i.from, i.upto, j.from, j.upto))
one_tight (node n v) (head w) p a b i j = absurd (omega (arith, b, i.from, i.upto, j.from, j.upto))
one_tight (node n v) (node m w) p a b i j =
    let e : n ≡ m = omega (arith, i.from, i.upto, j.from, j.upto, a.0, a.1, a.2, b.0, b.1, b.2) in
    let f : v ≡ w = omega (arith, i.from, i.upto, j.from, j.upto, a.0, a.1, a.2, b.0, b.1, b.2) in
    ap (λ (k : ℕ). node k v) e ∙ ap (node m) f
one_tight (node n v) (block l w) p a b i j = absurd (omega (arith, i.from, i.upto, j.from, j.upto, a.0, a.1, a.2))
one_tight (block k v) (head w) p a b i j = absurd (omega (arith, b, i.from, i.upto, j.from, j.upto))
one_tight (block k v) (node m w) p a b i j = absurd (omega (arith, i.from, i.upto, j.from, j.upto, b.0, b.1, b.2))
one_tight (block k v) (block l w) p a b i j =
    let e : k ≡ l = omega (arith, i.from, i.upto, j.from, j.upto, a.0, a.1, b.0, b.1) in
    let f : v ≡ w = omega (arith, i.from, i.upto, j.from, j.upto, a.0, a.1, b.0, b.1) in
    ap (λ (n : ℕ). block n v) e ∙ ap (block l) f

-- two places of one sector of an aligned file lie in one part
pub one_sector : (q r : Part) (p o : ℕ) → IsPart q → IsPart r → p / 512 ≡ o / 512 → In aligned q p → In aligned r o → q ≡ r
one_sector (head v) (head w) p o a b s i j = let e : v ≡ w = omega (arith, s, i.from, i.upto, j.from, j.upto) in ap head e
one_sector (head v) (node m w) p o a b s i j = absurd (omega (arith, a, s, i.from, i.upto, j.from, j.upto))
one_sector (head v) (block l w) p o a b s i j = absurd (omega (arith, a, s, i.from, i.upto, j.from, j.upto))
one_sector (node n v) (head w) p o a b s i j = absurd (omega (arith, b, s, i.from, i.upto, j.from, j.upto))
one_sector (node n v) (node m w) p o a b s i j =
    let e : n ≡ m = omega (arith, s, i.from, i.upto, j.from, j.upto, a.0, a.1, a.2, b.0, b.1, b.2) in
    let f : v ≡ w = omega (arith, s, i.from, i.upto, j.from, j.upto, a.0, a.1, a.2, b.0, b.1, b.2) in
    ap (λ (k : ℕ). node k v) e ∙ ap (node m) f
one_sector (node n v) (block l w) p o a b s i j = absurd (omega (arith, s, i.from, i.upto, j.from, j.upto, a.0, a.1, a.2))
one_sector (block k v) (head w) p o a b s i j = absurd (omega (arith, b, s, i.from, i.upto, j.from, j.upto))
one_sector (block k v) (node m w) p o a b s i j = absurd (omega (arith, s, i.from, i.upto, j.from, j.upto, b.0, b.1, b.2))
one_sector (block k v) (block l w) p o a b s i j =
    let e : k ≡ l = omega (arith, s, i.from, i.upto, j.from, j.upto, a.0, a.1, b.0, b.1) in
    let f : v ≡ w = omega (arith, s, i.from, i.upto, j.from, j.upto, a.0, a.1, b.0, b.1) in
    ap (λ (n : ℕ). block n v) e ∙ ap (block l) f

-- a place lies in one part
pub one_part : (layout : Layout) (q r : Part) (p : ℕ) → IsPart q → IsPart r → In layout q p → In layout r p → q ≡ r
one_part tight q r p a b i j = one_tight q r p a b i j
one_part aligned q r p a b i j = one_sector q r p p a b refl i j

off_unless : (layout : Layout) (r : Part) (p : ℕ) → (In layout r p → ⊥) → Off layout r p
off_unless layout r p never = elim (cases_lt p (start layout r)) [
  | inl low ↦ inl low
  | inr from ↦ elim (cases_lt p (start layout r + size r)) [
    | inl upto ↦ absurd (never (record { from = from; upto = upto }))
    | inr high ↦ inr high
  ]
]

-- a place of one part lies off another
pub off_other : (layout : Layout) (q r : Part) (p : ℕ) → IsPart q → IsPart r → (q ≡ r → ⊥) → In layout q p → Off layout r p
off_other layout q r p a b other i = off_unless layout r p (λ j. other (one_part layout q r p a b i j))

-- in an aligned file so does each place of a sector that meets the one
pub off_sector : (q r : Part) (p o : ℕ) → IsPart q → IsPart r → (q ≡ r → ⊥) → p / 512 ≡ o / 512 → In aligned q o → Off aligned r p
off_sector q r p o a b other same i = off_unless aligned r p (λ j. other (one_sector q r o p a b (sym same) i j))
