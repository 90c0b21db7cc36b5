-- The front of an object.
use Rattle.std.proofs.Common.{◌≡◌, ◌∙◌, ◌<◌, ◌≤◌, ℕ, List, length, get_or, inl, sym, ap, subst, arith}
use Rattle.node_image.specs.declared.node.NodeImage.{NodeImage}
use Rattle.node_image.specs.declared.head.Head.{Head}
use Rattle.node_image.specs.Tables.{at_node}
use Rattle.htree_file.specs.Changes.{Seals}
use Rattle.htree_file.specs.Opening.{IsVerified, Loaded}
use Rattle.htree_file.specs.Pages.{page_of}
use Rattle.htree_file.proofs.Sizes.{sized_few}
use Rattle.object_file.specs.Making.{IsObjectPage}
use Rattle.object_slots.specs.Fronts.{LoadedHaveFronts, MadeHaveFronts, StagesKeepFronts}

-- a tree has a node 1
has_nodes : (tree : Loaded) → (1 ≤ length tree.nodes) → 0 < length tree.nodes
has_nodes tree few = omega (arith, few)

pub loaded_have_fronts : LoadedHaveFronts
loaded_have_fronts old new tsk e o loaded =
    let first = loaded.first in
    record {
      page = first.page;
      long = first.read.long;
      seals = (first.read.ciphertext, first.read.opens);
      front = λ i lt. first.are i (omega (arith, lt, loaded.attributes));
    }

pub made_have_fronts : MadeHaveFronts
made_have_fronts old new tsk attributes bytes root o few made =
    let verified : IsVerified root o.tree.tree = made.verified in
    let within : 0 < length o.tree.tree.nodes = omega (arith, verified.hashed.all, sized_few o.tree.tree.head verified.hashed.sized) in
    let block = made.seals 0 within in
    let is : IsObjectPage attributes bytes 0 block.0 = block.1 in
    record {
      page = block.0;
      long = is.long;
      seals = block.2;
      front = λ i lt.
          let below : i < length attributes = subst (λ (l : List ℕ). i < length l) made.attributes_are lt in
          ap (λ (l : List ℕ). get_or l i 0) made.attributes_are ∙ sym (is.bytes_are i (omega (arith, below, few)));
    }

-- a page depends on what wraps the key, and on the node's vector and tag
same_page : (key : List ℕ) (a b : Head) (n m : NodeImage) (k : ℕ) (c : List ℕ) → a.wrapped ≡ b.wrapped → n.iv ≡ m.iv → n.tag ≡ m.tag → page_of key a n k c ≡ page_of key b m k c
same_page key a b n m k c wrapped iv tag = λ i. page_of key (record b { wrapped = wrapped i }) (record m { iv = iv i; tag = tag i }) k c

pub stages_keep_fronts : StagesKeepFronts
stages_keep_fronts old new o c root s behind stage front =
    let verified : IsVerified s.root s.tree = stage.verified in
    let within : 0 < length s.tree.nodes = omega (arith, verified.hashed.all, sized_few s.tree.head verified.hashed.sized) in
    let kept = stage.seals.missed 0 within (inl (omega (arith, behind))) in
    let was : Seals o.tree.key o.tree.tree 0 front.page = front.seals in
    let same : page_of o.tree.key s.tree.head (at_node s.tree.nodes 1) 0 was.0 ≡ page_of o.tree.key o.tree.tree.head (at_node o.tree.tree.nodes 1) 0 was.0 =
    same_page o.tree.key s.tree.head o.tree.tree.head (at_node s.tree.nodes 1) (at_node o.tree.tree.nodes 1) 0 was.0 (ap (λ (h : Head). h.wrapped) stage.head) kept.0 kept.1 in
    record { page = front.page; long = front.long; seals = (was.0, same ∙ was.1); front = front.front }
