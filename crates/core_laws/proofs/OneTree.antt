-- An image that has the parts of a version's tree, where those of its own lie, shows no other tree under its reference.
use Rattle.std.proofs.Common.{◌≡◌, inl, inr, ℕ, zero, suc, ◌+◌, ◌-◌, ◌/◌, ◌<◌, ◌≤◌, List, length, get_or, leb, Ok, refl, sym, ◌∙◌, ap, subst, arith}
use Rattle.std.proofs.lemmas.Bool.{cases_lt, cond-true, cond-false, le-leb, lt-leb}
use Rattle.std.proofs.lemmas.List.{ext_get_or}
use Rattle.disk_model.specs.Images.{Has}
use Rattle.node_image.specs.declared.node.NodeImage.{NodeImage}
use Rattle.node_image.specs.declared.node.RootRef.{RootRef}
use Rattle.node_image.specs.declared.head.Head.{Head}
use Rattle.node_image.specs.Layout.{head_of, node_of}
use Rattle.node_image.specs.Parts.{In, Layout, Part, layout_of, nodes_end, size, start}
use Rattle.node_image.specs.Parts.Part.{head, node}
use Rattle.node_image.specs.Tables.{at_node, child_bit, no_node, node_version}
use Rattle.node_image.specs.Selection.{Matches, head_in, node_in, nodes_in, part_in}
use Rattle.node_image.proofs.ImageBytes.{bytes_same}
use Rattle.node_image.proofs.Matching.{table_matches}
use Rattle.htree_file.specs.Opening.{Loaded, load_of, table_of}
use Rattle.htree_file.specs.Selected.{IsLoaded, IsSelected, Lies}
use Rattle.htree_file.proofs.Firmness.{nodes_ended}
use Rattle.htree_file.proofs.Loadings.{loaded_from}
use Rattle.htree_file.proofs.SameTable.{head_low, node_low, node_version_bit}
use Rattle.htree_file.proofs.Sizes.{sized_few}
use Rattle.htree_file.proofs.Verified.{table_hashed}

module _ (committed image : List ℕ) (root : RootRef) (bit : root.version < 2) (own other : Loaded) (loads : load_of committed root ≡ Ok own)
    (table : table_of image root ≡ Ok other)
    (are : (place byte : ℕ) → Lies own.layout own.nodes root.version place → Lies other.layout other.nodes root.version place → place < nodes_end (layout_of root.format) → Has committed place byte → Has image place byte) where
  l : IsLoaded committed root own
  l = loaded_from committed root own loads

  few : (1 ≤ own.head.greatest) × (own.head.greatest ≤ 256)
  few = sized_few own.head l.hashed.sized

  abbrev layout : Layout
  layout = layout_of root.format

  reaches : nodes_end layout ≤ length committed
  reaches = nodes_ended committed root own l

  found_stands : other.layout ≡ layout
  found_stands = (table_hashed image root other table).0.stands

  -- a part of both is the same in both
  part_same : (q : Part) → IsSelected own.nodes root.version q → IsSelected other.nodes root.version q → start layout q + size q ≤ nodes_end layout → part_in layout image q ≡ part_in layout committed q
  part_same q one two low =
      bytes_same image committed (start layout q) (size q) (λ j lt.
      let within : In layout q (start layout q + j) = record { from = omega arith; upto = omega (arith, lt) } in
      (are (start layout q + j) (get_or committed (start layout q + j) 0)
      (record { part = q; selected = one; at = start layout q + j; near = refl; within = subst (λ (y : Layout). In y q (start layout q + j)) (sym l.hashed.stands) within })
      (record { part = q; selected = two; at = start layout q + j; near = refl; within = subst (λ (y : Layout). In y q (start layout q + j)) (sym found_stands) within })
      (omega (arith, low, lt))
      (record { below = omega (arith, reaches, low, lt); is = refl })).is)

  heads : head_in image root ≡ own.head
  heads = ap head_of (part_same (head root.version) refl refl (head_low layout root.version bit)) ∙ l.top

  found : ◌≡◌ {A = Loaded} (record { head = head_in image root; nodes = nodes_in image root; layout = layout }) other
  found = (table_hashed image root other table).1

  abbrev g : ℕ
  g = own.head.greatest

  head_is : other.head ≡ own.head
  head_is = sym (ap (λ (t : Loaded). t.head) found) ∙ heads

  greatest_is : (head_in image root).greatest ≡ g
  greatest_is = ap (λ (h : Head). h.greatest) heads

  long_own : length own.nodes ≡ g
  long_own = l.hashed.all

  long_other : length other.nodes ≡ g
  long_other = (table_hashed image root other table).0.all ∙ ap (λ (h : Head). h.greatest) head_is

  matches : Matches image root other.nodes g
  matches =
      subst (λ (n : ℕ). Matches image root other.nodes n) greatest_is
      (table_matches image root other.nodes (head_in image root).greatest (sym (ap (λ (t : Loaded). t.nodes) found)))

  node_same : (steps n : ℕ) → n ≤ steps → 1 ≤ n → n ≤ g → at_node other.nodes n ≡ at_node own.nodes n
  node_same zero n le least most = absurd (omega (arith, le, least))
  node_same (suc steps) n le least most =
      let v : ℕ = node_version own.nodes root.version n in
      let low : v < 2 = node_version_bit own.nodes root.version n bit in
      let same : node_version other.nodes root.version n ≡ v = version_same (λ above. node_same steps (n / 2) (omega (arith, le, above)) (omega (arith, above)) (omega (arith, most))) in
      let parts : part_in layout image (node n v) ≡ part_in layout committed (node n v) =
      part_same (node n v) (least, omega (arith, most, long_own), refl) (least, omega (arith, most, long_other), sym same) (node_low layout n v least (omega (arith, most, few.1)) low) in
      sym (matches n least most) ∙ ap (node_in layout image n) same ∙ ap node_of parts ∙ l.matches n least (omega (arith, most, long_own))
    where
      version_same : (1 < n → at_node other.nodes (n / 2) ≡ at_node own.nodes (n / 2)) → node_version other.nodes root.version n ≡ node_version own.nodes root.version n
      version_same up = elim (cases_lt 1 n) [
        | inl above ↦
            cond-false (leb n 1) root.version (child_bit (at_node other.nodes (n / 2)).flags n) (lt-leb n 1 above)
            ∙ ap (λ (x : NodeImage). child_bit x.flags n) (up above)
            ∙ sym (cond-false (leb n 1) root.version (child_bit (at_node own.nodes (n / 2)).flags n) (lt-leb n 1 above))
        | inr first ↦
            cond-true (leb n 1) root.version (child_bit (at_node other.nodes (n / 2)).flags n) (le-leb n 1 first)
            ∙ sym (cond-true (leb n 1) root.version (child_bit (at_node own.nodes (n / 2)).flags n) (le-leb n 1 first))
      ]

  nodes_are : other.nodes ≡ own.nodes
  nodes_are =
      ext_get_or no_node other.nodes own.nodes (long_other ∙ sym long_own) (λ k lt.
      let e : (k + 1) - 1 ≡ k = omega arith in
      ap (λ (j : ℕ). get_or other.nodes j no_node) (sym e) ∙ node_same (k + 1) (k + 1) (omega arith) (omega arith) (omega (arith, lt, long_other))
      ∙ ap (λ (j : ℕ). get_or own.nodes j no_node) e)

  pub one_tree : other ≡ own
  one_tree = λ i. record { head = head_is i; nodes = nodes_are i; layout = (found_stands ∙ sym l.hashed.stands) i }
