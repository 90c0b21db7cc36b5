-- What a table that was read tells, and what a load of it comes to.
use Rattle.std.proofs.Common.{◌≡◌, ℕ, ◌+◌, ◌<◌, ◌≤◌, List, length, Bool, true, false, cond, leb, Option, None, Some, Result, Ok, Err, refl, ◌∙◌, ap, subst, arith}
use Rattle.std.proofs.lemmas.Bool.{cond-true, cond-false, le-leb, lt-leb}
use Rattle.std.specs.Str.{bytes_eq}
use Rattle.node_image.specs.declared.node.NodeImage.{NodeImage}
use Rattle.node_image.specs.declared.node.RootRef.{RootRef}
use Rattle.node_image.specs.declared.head.Head.{Head}
use Rattle.node_image.specs.Layout.{has_form}
use Rattle.node_image.specs.Parts.{Layout, layout_of}
use Rattle.node_image.specs.Parts.Part.{head}
use Rattle.node_image.specs.Tables.{at_node, hash_in}
use Rattle.node_image.specs.Selection.{head_in, nodes_in, part_in, selected_node}
use Rattle.node_image.proofs.Matching.{length-row}
use Rattle.htree_file.specs.declared.fault.TreeFault.{TreeFault}
use Rattle.htree_file.specs.declared.fault.TreeFault.TheVariants.{BadHead, BadTag, Damaged, Failed, NoEntropy, NoMemory, Short}
use Rattle.htree_file.specs.Opening.{HasWidth, HaveFields, IsHashed, IsVerified, Loaded, checked, first_damaged, load_of, long_enough, need_of, or_damaged, table_of}
use Rattle.htree_file.specs.Answers.{Differs, IsLoadFault}
use Rattle.disk_model.specs.Bytes.{AreBytes}
use Rattle.htree_file.proofs.Damage.{none_damaged}
use Rattle.htree_file.proofs.SameBytes.{same_is}
use Rattle.htree_file.proofs.Sizes.{form_sized, head_in_width, nodes_in_width}

-- a test whose failure is a fault held where the answer is no fault
pub cond_ok : (b : Bool) (r : Result Loaded TreeFault) (e : TreeFault) (tree : Loaded) → cond b r (Err e) ≡ Ok tree → (b ≡ true) × (r ≡ Ok tree)
cond_ok true r e tree is = (refl, is)
cond_ok false r e tree is = absurd (cc (is))

pub undamaged_ok : (layout : Layout) (h : Head) (nodes : List NodeImage) (o : Option ℕ) (tree : Loaded) → or_damaged layout h nodes o ≡ Ok tree → (o ≡ None) × (◌≡◌ {A = Loaded} (record { head = h; nodes = nodes; layout = layout }) tree)
undamaged_ok layout h nodes None tree is = (refl, cc (is))
undamaged_ok layout h nodes (Some n) tree is = absurd (cc (is))

-- head and nodes that passed the tests
pub table_hashed : (image : List ℕ) (root : RootRef) (tree : Loaded) → table_of image root ≡ Ok tree
    → IsHashed root tree × (◌≡◌ {A = Loaded} (record { head = head_in image root; nodes = nodes_in image root; layout = layout_of root.format }) tree)
table_hashed image root tree is =
    let h : Head = head_in image root in
    let nodes : List NodeImage = nodes_in image root in
    let layout : Layout = layout_of root.format in
    let one = cond_ok (has_form (part_in layout image (head root.version))) (checked h nodes root) (BadHead h.length h.greatest) tree is in
    let two = cond_ok (bytes_eq (at_node nodes 1).hash root.hash) (or_damaged layout h nodes (first_damaged h nodes 1 (length nodes))) (Damaged 1 root.hash (at_node nodes 1).hash) tree one.1 in
    let three = undamaged_ok layout h nodes (first_damaged h nodes 1 (length nodes)) tree two.1 in
    let mine : IsHashed root (record { head = h; nodes = nodes; layout = layout }) = record {
      sized = form_sized (part_in layout image (head root.version)) one.0;
      all = length-row (λ k. selected_node image root (k + 1)) h.greatest;
      stands = refl;
      root_hash = same_is (at_node nodes 1).hash root.hash two.0;
      hashes = λ n least most. none_damaged h nodes 1 (length nodes) three.0 n least (omega (arith, most));
    } in
    (subst (λ (t : Loaded). IsHashed root t) three.1 mine, three.1)

pub table_verified : (image : List ℕ) (root : RootRef) (tree : Loaded) → AreBytes image → table_of image root ≡ Ok tree → IsVerified root tree
table_verified image root tree bytes is =
    let h : Head = head_in image root in
    let nodes : List NodeImage = nodes_in image root in
    let hashed = table_hashed image root tree is in
    record {
      hashed = hashed.0;
      wrapped = subst (λ (t : Loaded). HasWidth 16 t.head.wrapped) hashed.1 (head_in_width image root bytes);
      fields = subst (λ (t : Loaded). HaveFields t.nodes) hashed.1
          (λ n least most. nodes_in_width image root bytes n least (omega (arith, most, length-row (λ k. selected_node image root (k + 1)) h.greatest)));
    }

-- where the end suffices, and where it does not
pub long_is : (end : ℕ) (r : Result Loaded TreeFault) (tree : Loaded) → r ≡ Ok tree → need_of tree.layout tree.nodes (length tree.nodes) ≤ end → long_enough end r ≡ Ok tree
long_is end r tree is le = ap (long_enough end) is ∙ cond-true (leb (need_of tree.layout tree.nodes (length tree.nodes)) end) (Ok tree) (Err (Short end (need_of tree.layout tree.nodes (length tree.nodes)))) (le-leb (need_of tree.layout tree.nodes (length tree.nodes)) end le)

pub short_is : (end : ℕ) (r : Result Loaded TreeFault) (tree : Loaded) → r ≡ Ok tree → end < need_of tree.layout tree.nodes (length tree.nodes) → long_enough end r ≡ Err (Short end (need_of tree.layout tree.nodes (length tree.nodes)))
short_is end r tree is lt = ap (long_enough end) is ∙ cond-false (leb (need_of tree.layout tree.nodes (length tree.nodes)) end) (Ok tree) (Err (Short end (need_of tree.layout tree.nodes (length tree.nodes)))) (lt-leb (need_of tree.layout tree.nodes (length tree.nodes)) end lt)

-- a fault of head and nodes comes first
pub table_fault : (reads : List ℕ) (root : RootRef) (fault : TreeFault) → table_of reads root ≡ Err fault → load_of reads root ≡ Err fault
table_fault reads root fault is = ap (long_enough (length reads)) is

-- the tests of head and nodes answer one of two faults
pub table_differs : (reads : List ℕ) (root : RootRef) (fault : TreeFault) → table_of reads root ≡ Err fault → Differs reads root fault
table_differs reads root fault is = by_kind fault (one_of fault is) is
  where
    IsHashFault : TreeFault → Type 0
    IsHashFault e = ((long greatest : ℕ) → e ≡ BadHead long greatest → ⊥) → ((n : ℕ) (want found : List ℕ) → e ≡ Damaged n want found → ⊥) → ⊥

    damaged_by : (h : Head) (nodes : List NodeImage) (o : Option ℕ) (e : TreeFault) → or_damaged (layout_of root.format) h nodes o ≡ Err e → IsHashFault e
    damaged_by h nodes None e f = absurd (cc (f))
    damaged_by h nodes (Some n) e f = λ no_head no_node. no_node n (at_node nodes n).hash (hash_in nodes h n) (cc (f))

    checked_by_test : (b : Bool) (h : Head) (nodes : List NodeImage) (e : TreeFault) → cond b (or_damaged (layout_of root.format) h nodes (first_damaged h nodes 1 (length nodes))) (Err (Damaged 1 root.hash (at_node nodes 1).hash)) ≡ Err e → IsHashFault e
    checked_by_test true h nodes e f = damaged_by h nodes (first_damaged h nodes 1 (length nodes)) e f
    checked_by_test false h nodes e f = λ no_head no_node. no_node 1 root.hash (at_node nodes 1).hash (cc (f))

    formed_by_test : (b : Bool) (h : Head) (nodes : List NodeImage) (e : TreeFault) → cond b (checked h nodes root) (Err (BadHead h.length h.greatest)) ≡ Err e → IsHashFault e
    formed_by_test true h nodes e f = checked_by_test (bytes_eq (at_node nodes 1).hash root.hash) h nodes e f
    formed_by_test false h nodes e f = λ no_head no_node. no_head h.length h.greatest (cc (f))

    one_of : (e : TreeFault) → table_of reads root ≡ Err e → IsHashFault e
    one_of e f = formed_by_test (has_form (part_in (layout_of root.format) reads (head root.version))) (head_in reads root) (nodes_in reads root) e f

    by_kind : (e : TreeFault) → IsHashFault e → table_of reads root ≡ Err e → Differs reads root e
    by_kind (BadHead long greatest) of_two f = f
    by_kind (Damaged n want found) of_two f = f
    by_kind (Short end need) of_two f = absurd (of_two (λ a b e. cc (e)) (λ a b d e. cc (e)))
    by_kind (BadTag k want found) of_two f = absurd (of_two (λ a b e. cc (e)) (λ a b d e. cc (e)))
    by_kind (Failed count) of_two f = tt
    by_kind (NoEntropy count) of_two f = absurd (of_two (λ a b e. cc (e)) (λ a b d e. cc (e)))
    by_kind NoMemory of_two f = tt

-- and nothing else is answered
pub differs_kind : (reads : List ℕ) (root : RootRef) (fault : TreeFault) → Differs reads root fault → IsLoadFault fault
differs_kind reads root (BadHead long greatest) d = tt
differs_kind reads root (Short end need) d = tt
differs_kind reads root (Damaged n want found) d = tt
differs_kind reads root (BadTag k want found) d = absurd d
differs_kind reads root (Failed count) d = tt
differs_kind reads root (NoEntropy count) d = absurd d
differs_kind reads root NoMemory d = tt
