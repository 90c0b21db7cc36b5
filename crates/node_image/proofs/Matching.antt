-- A table that stands in an image is what the image's reference selects.
use Rattle.std.proofs.Common.{◌≡◌, inl, inr, ℕ, zero, suc, ◌+◌, ◌-◌, ◌*◌, ◌/◌, ◌<◌, ◌≤◌, List, [], ◌∷◌, ◌++◌, length, get_or, true, false, cond, leb, length-append, refl, sym, ◌∙◌, ap, arith}
use Rattle.std.proofs.lemmas.Bool.{cases_lt, le-leb, lt-leb, cond-true, cond-false}
use Rattle.std.proofs.lemmas.List.{get_or_append_left, get_or_push, ext_get_or}
use Rattle.node_image.specs.Parts.{layout_of}
use Rattle.node_image.specs.declared.node.NodeImage.{NodeImage}
use Rattle.node_image.specs.declared.node.RootRef.{RootRef}
use Rattle.node_image.specs.Tables.{at_node, child_bit, no_node, node_version}
use Rattle.node_image.specs.Selection.{Matches, node_in, row, selected_node, version_by, version_in}

-- the version of a node by the steps is the one by the table
version_matches : (image : List ℕ) (root : RootRef) (nodes : List NodeImage) (g : ℕ) → Matches image root nodes g
    → (steps n : ℕ) → 1 ≤ n → n ≤ g → n ≤ steps → version_by image root steps n ≡ node_version nodes root.version n
version_matches image root nodes g matches zero n least most le = absurd (omega arith)
version_matches image root nodes g matches (suc steps) n least most le = elim (cases_lt 1 n) [
  | inl above ↦
      let m = n / 2 in
      let up : version_by image root steps m ≡ node_version nodes root.version m = version_matches image root nodes g matches steps m (omega arith) (omega arith) (omega arith) in
      let same : node_in (layout_of root.format) image m (version_by image root steps m) ≡ at_node nodes m = ap (node_in (layout_of root.format) image m) up ∙ matches m (omega arith) (omega arith) in
      let past : leb n 1 ≡ false = lt-leb n 1 above in
      cond-false (leb n 1) root.version (child_bit (node_in (layout_of root.format) image m (version_by image root steps m)).flags n) past ∙ ap (λ (x : NodeImage). child_bit x.flags n) same ∙ sym (cond-false (leb n 1) root.version (child_bit (at_node nodes m).flags n) past)
  | inr first ↦
      let here : leb n 1 ≡ true = le-leb n 1 first in
      cond-true (leb n 1) root.version _ here ∙ sym (cond-true (leb n 1) root.version (child_bit (at_node nodes (n / 2)).flags n) here)
]

-- the versions of the two agree
pub version_is : (image : List ℕ) (root : RootRef) (nodes : List NodeImage) (g : ℕ) → Matches image root nodes g
    → (n : ℕ) → 1 ≤ n → n ≤ g → version_in image root n ≡ node_version nodes root.version n
version_is image root nodes g matches n least most = version_matches image root nodes g matches n n least most (omega arith)

pub node_is : (image : List ℕ) (root : RootRef) (nodes : List NodeImage) (g : ℕ) → Matches image root nodes g
    → (n : ℕ) → 1 ≤ n → n ≤ g → selected_node image root n ≡ at_node nodes n
node_is image root nodes g matches n least most = ap (node_in (layout_of root.format) image n) (version_is image root nodes g matches n least most) ∙ matches n least most

-- more steps change nothing
steps_enough : (image : List ℕ) (root : RootRef) (s t n : ℕ) → n ≤ s → n ≤ t → version_by image root s n ≡ version_by image root t n
steps_enough image root zero zero n a b = refl
steps_enough image root zero (suc t) n a b = sym (cond-true (leb n 1) root.version _ (le-leb n 1 (omega arith)))
steps_enough image root (suc s) zero n a b = cond-true (leb n 1) root.version _ (le-leb n 1 (omega arith))
steps_enough image root (suc s) (suc t) n a b = elim (cases_lt 1 n) [
  | inl above ↦ ap (λ (v : ℕ). cond (leb n 1) root.version (child_bit (node_in (layout_of root.format) image (n / 2) v).flags n)) (steps_enough image root s t (n / 2) (omega arith) (omega arith))
  | inr low ↦ cond-true (leb n 1) root.version _ (le-leb n 1 low) ∙ sym (cond-true (leb n 1) root.version _ (le-leb n 1 low))
]

-- the version of a node is a bit of the one above it
pub version_above : (image : List ℕ) (root : RootRef) (n : ℕ) → 1 < n → version_in image root n ≡ child_bit (selected_node image root (n / 2)).flags n
version_above image root zero above = absurd (omega arith)
version_above image root (suc m) above =
    cond-false (leb (suc m) 1) root.version _ (lt-leb (suc m) 1 above)
    ∙ ap (λ (v : ℕ). child_bit (node_in (layout_of root.format) image (suc m / 2) v).flags (suc m)) (steps_enough image root m (suc m / 2) (suc m / 2) (omega arith) (omega arith))

pub version_first : (image : List ℕ) (root : RootRef) (n : ℕ) → 1 ≤ n → n ≤ 1 → version_in image root n ≡ root.version
version_first image root zero a b = absurd (omega arith)
version_first image root (suc m) a b = cond-true (leb (suc m) 1) root.version _ (le-leb (suc m) 1 b)

-- the members of a row
pub length-row : {A : Type 0} (f : ℕ → A) (n : ℕ) → length (row f n) ≡ n
length-row f zero = refl
length-row f (suc n) = omega (arith, length-append (row f n) (f n ∷ []), length-row f n)

pub row_at : {A : Type 0} (f : ℕ → A) (n k : ℕ) (d : A) → k < n → get_or (row f n) k d ≡ f k
row_at f zero k d lt = absurd (omega arith)
row_at f (suc n) k d lt = elim (cases_lt k n) [
  | inl low ↦ get_or_append_left (row f n) (f n ∷ []) d k (omega (arith, length-row f n)) ∙ row_at f n k d low
  | inr high ↦ let e : k ≡ n = omega arith in get_or_push (row f n) (f n) d k (length-row f n ∙ sym e) ∙ ap f (sym e)
]

pub row_same : {A : Type 0} (f h : ℕ → A) (n : ℕ) → ((k : ℕ) → k < n → f k ≡ h k) → row f n ≡ row h n
row_same f h zero each = refl
row_same f h (suc n) each = ap (λ l. l ++ f n ∷ []) (row_same f h n (λ k lt. each k (omega arith))) ∙ ap (λ x. row h n ++ x ∷ []) (each n (omega arith))

-- a row whose members are those of a list of that length is the list
pub row_is : {A : Type 0} (f : ℕ → A) (xs : List A) (n : ℕ) (d : A) → length xs ≡ n → ((k : ℕ) → k < n → f k ≡ get_or xs k d) → row f n ≡ xs
row_is f xs n d long each = ext_get_or d (row f n) xs (length-row f n ∙ sym long) (λ k lt. row_at f n k d (omega (arith, length-row f n)) ∙ each k (omega (arith, length-row f n)))

-- a list that is a row of nodes stands in the image
module _ (image : List ℕ) (root : RootRef) (nodes : List NodeImage) (g : ℕ) (table : nodes ≡ row (λ k. selected_node image root (k + 1)) g) where
  pub table_at : (n : ℕ) → 1 ≤ n → n ≤ g → selected_node image root n ≡ at_node nodes n
  table_at n least most =
      let e : (n - 1) + 1 ≡ n = omega arith in
      sym (ap (λ (l : List NodeImage). at_node l n) table ∙ row_at (λ k. selected_node image root (k + 1)) g (n - 1) no_node (omega arith) ∙ ap (selected_node image root) e)

  -- the version of the next node, by the nodes so far
  pub table_version : (n : ℕ) → 1 ≤ n → n ≤ 2 * g + 1 → version_in image root n ≡ node_version nodes root.version n
  table_version n least most = elim (cases_lt 1 n) [
    | inl above ↦ version_above image root n above ∙ ap (λ (x : NodeImage). child_bit x.flags n) (table_at (n / 2) (omega arith) (omega arith)) ∙ sym (cond-false (leb n 1) root.version _ (lt-leb n 1 above))
    | inr low ↦ version_first image root n least low ∙ sym (cond-true (leb n 1) root.version _ (le-leb n 1 low))
  ]

  pub table_matches : Matches image root nodes g
  table_matches n least most = ap (node_in (layout_of root.format) image n) (sym (table_version n least (omega arith))) ∙ table_at n least most
