use Rattle.std.proofs.Common.{◌≡◌, ℕ, ◌<◌, List, [], ◌∷◌, sym, subst, arith}
use Rattle.ghash_field.specs.Holes.{AreParts, AreWords, vectors_of}
use Rattle.ghash_field.proofs.TwoLanes.{ordered, ordered-words, parts-words, sums_added}
use Rattle.ghash_field.proofs.carryless.add_products.Goals as goal

pub returns : goal.returns
returns c = λ w vectors wx ww given.
    let p : List (List ℕ) = vectors_of c.parts_of-own.result in
    let q : List (List ℕ) = c.known_words-y0.result ∷ c.known_words-y1.result ∷ c.known_words-y2.result ∷ c.known_words-y3.result ∷ [] in
    let words : AreWords (vectors_of c.args.y.now) = parts-words w (vectors_of c.args.y.now) ww given in
    let same : q ≡ vectors_of c.args.y.now = λ i.
    c.known_words-y0.ensures (words 0 (omega arith)) i ∷ c.known_words-y1.ensures (words 1 (omega arith)) i
    ∷ c.known_words-y2.ensures (words 2 (omega arith)) i ∷ c.known_words-y3.ensures (words 3 (omega arith)) i ∷ [] in
    let parts : AreParts w q = subst (AreParts w) (sym same) given in
    let own : AreParts c.args.x p = c.parts_of-own.ensures wx.0 in
    let wp : AreWords p = parts-words c.args.x p wx own in
    let wq : (i j k l : ℕ) → i < 4 → j < 4 → k < 4 → l < 4 → AreWords (ordered q i j k l) = λ i j k l li lj lk ll.
    ordered-words q i j k l li lj lk ll (parts-words w q ww parts) in
    let w0 = wq 0 3 2 1 (omega arith) (omega arith) (omega arith) (omega arith) in
    let w1 = wq 1 0 3 2 (omega arith) (omega arith) (omega arith) (omega arith) in
    let w2 = wq 2 1 0 3 (omega arith) (omega arith) (omega arith) (omega arith) in
    let w3 = wq 3 2 1 0 (omega arith) (omega arith) (omega arith) (omega arith) in
    sums_added c.args.sums p q c.args.x w c.sum_of_products.result c.sum_of_products-2.result c.sum_of_products-3.result c.sum_of_products-4.result
    vectors wx ww own parts
    (c.sum_of_products.ensures.long wp w0, c.sum_of_products.ensures.value wp w0)
    (c.sum_of_products-2.ensures.long wp w1, c.sum_of_products-2.ensures.value wp w1)
    (c.sum_of_products-3.ensures.long wp w2, c.sum_of_products-3.ensures.value wp w2)
    (c.sum_of_products-4.ensures.long wp w3, c.sum_of_products-4.ensures.value wp w3)
