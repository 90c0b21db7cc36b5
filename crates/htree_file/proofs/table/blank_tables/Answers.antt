use Rattle.std.proofs.Common.{◌≡◌, inl, inr, List, replicate, ap, subst, sym, arith}
use Rattle.std.proofs.lemmas.Bool.{cases_lt}
use Rattle.std.proofs.lemmas.List.{get_or-replicate, get_or_past, length-replicate}
use Rattle.node_image.specs.declared.node.NodeImage.{NodeImage}
use Rattle.node_image.specs.Tables.{no_node}
use Rattle.htree_file.specs.Staging.{IsBlank}
use Rattle.htree_file.specs.declared.table.TheConstants.{BLANK}
use Rattle.htree_file.proofs.table.blank_tables.Goals as goal

blank : (items : List NodeImage) → items ≡ replicate 256 BLANK → IsBlank items
blank items is = subst IsBlank (sym is) (record {
  room = length-replicate 256 BLANK;
  zero = λ k. elim (cases_lt k 256) [
    | inl low ↦ ap (λ (x : NodeImage). x.flags) (get_or-replicate 256 k BLANK no_node low)
    | inr past ↦ ap (λ (x : NodeImage). x.flags) (get_or_past (replicate 256 BLANK) k no_node (omega (arith, length-replicate 256 BLANK, past)))
  ];
})

pub returns-clause-first : goal.returns-clause-first
returns-clause-first c = blank c.in_ok-nodes.nodes.items (c.in_ok-nodes.ensures.items_if_clones_equal (λ y is. is))

pub returns-clause-second : goal.returns-clause-second
returns-clause-second c = blank c.in_ok-next.next.items (c.in_ok-next.ensures.items_if_clones_equal (λ y is. is))
