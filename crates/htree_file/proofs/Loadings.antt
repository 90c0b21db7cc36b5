-- What loads, part by part, and back.
use Rattle.std.proofs.Common.{◌≡◌, ℕ, zero, suc, ◌+◌, ◌-◌, ◌≤◌, List, [], ◌∷◌, ◌++◌, length, map, get_or, leb, None, Result, Ok, Err, refl, sym, ◌∙◌, ap, subst, arith}
use Rattle.std.proofs.lemmas.Bool.{leb-true}
use Rattle.std.proofs.lemmas.List.{map-append}
use Rattle.std.specs.Str.{bytes_eq}
use Rattle.disk_model.specs.Bytes.{AreBytes}
use Rattle.node_image.specs.declared.node.NodeImage.{NodeImage}
use Rattle.node_image.specs.declared.node.RootRef.{RootRef}
use Rattle.node_image.specs.declared.head.Head.{Head}
use Rattle.node_image.specs.Layout.{has_form, node_of}
use Rattle.node_image.specs.Parts.{Layout, layout_of}
use Rattle.node_image.specs.Parts.Part.{head, node}
use Rattle.node_image.specs.Tables.{at_node, no_node}
use Rattle.node_image.specs.Selection.{Matches, head_in, nodes_in, part_in, row, selected_node, selected_tree, version_in}
use Rattle.node_image.proofs.Matching.{length-row, node_is, row_is, table_matches}
use Rattle.htree_file.specs.declared.fault.TreeFault.{TreeFault}
use Rattle.htree_file.specs.declared.fault.TreeFault.TheVariants.{BadHead, Damaged, Short}
use Rattle.htree_file.specs.Opening.{IsVerified, Loaded, checked, first_damaged, load_of, long_enough, need_of, or_damaged, table_of}
use Rattle.htree_file.specs.Selected.{IsLoaded, loaded_in}
use Rattle.htree_file.proofs.Damage.{each_ends, need_within, undamaged}
use Rattle.htree_file.proofs.Verdicts.{checked_by, table_checked}
use Rattle.htree_file.proofs.Verified.{cond_ok, long_is, table_hashed, table_verified, undamaged_ok}

-- the nodes of a tree that loads are those that the reference selects
nodes_selected : (image : List ℕ) (root : RootRef) (tree : Loaded) → IsLoaded image root tree → row (λ k. selected_node image root (k + 1)) tree.head.greatest ≡ tree.nodes
nodes_selected image root tree l =
    row_is (λ k. selected_node image root (k + 1)) tree.nodes tree.head.greatest no_node l.hashed.all
    (λ k lt. node_is image root tree.nodes (length tree.nodes) l.matches (k + 1) (omega arith) (omega (arith, lt, l.hashed.all)) ∙ ap (λ (j : ℕ). get_or tree.nodes j no_node) (let e : (k + 1) - 1 ≡ k = omega arith in e))

pub loaded_is : (image : List ℕ) (root : RootRef) (tree : Loaded) → IsLoaded image root tree → load_of image root ≡ Ok tree
loaded_is image root tree l =
    let h : Head = tree.head in
    let nodes : List NodeImage = tree.nodes in
    let nodes_are : nodes ≡ row (λ k. selected_node image root (k + 1)) h.greatest = sym (nodes_selected image root tree l) in
    let table : table_of image root ≡ Ok tree =
    table_checked image root h (sym l.top) nodes l.form nodes_are
    ∙ checked_by h nodes root None l.hashed.root_hash (sym (undamaged h nodes 1 (length nodes) (λ n le lt. l.hashed.hashes n le (omega arith))))
    ∙ ap (λ (y : Layout). Ok (record { head = h; nodes = nodes; layout = y })) (sym l.hashed.stands) in
    long_is (length image) (table_of image root) tree table (subst (λ (y : Layout). need_of y nodes (length nodes) ≤ length image) (sym l.hashed.stands) (need_within (layout_of root.format) nodes (length nodes) (length image) l.ends))

ends_ok : (end : ℕ) (r : Result Loaded TreeFault) (tree : Loaded) → long_enough end r ≡ Ok tree → (r ≡ Ok tree) × (need_of tree.layout tree.nodes (length tree.nodes) ≤ end)
ends_ok end (Err fault) tree is = absurd (cc (is))
ends_ok end (Ok t) tree is =
    let tested = cond_ok (leb (need_of t.layout t.nodes (length t.nodes)) end) (Ok t) (Short end (need_of t.layout t.nodes (length t.nodes))) tree is in
    let same : t ≡ tree = cc (tested.1) in
    (tested.1, subst (λ (x : Loaded). need_of x.layout x.nodes (length x.nodes) ≤ end) same (leb-true (need_of t.layout t.nodes (length t.nodes)) end tested.0))

pub loaded_from : (image : List ℕ) (root : RootRef) (tree : Loaded) → load_of image root ≡ Ok tree → IsLoaded image root tree
loaded_from image root tree is =
    let h : Head = head_in image root in
    let nodes : List NodeImage = nodes_in image root in
    let ended = ends_ok (length image) (table_of image root) tree is in
    let formed = cond_ok (has_form (part_in (layout_of root.format) image (head root.version))) (checked h nodes root) (BadHead h.length h.greatest) tree ended.0 in
    let rooted = cond_ok (bytes_eq (at_node nodes 1).hash root.hash) (or_damaged (layout_of root.format) h nodes (first_damaged h nodes 1 (length nodes))) (Damaged 1 root.hash (at_node nodes 1).hash) tree formed.1 in
    let sound = undamaged_ok (layout_of root.format) h nodes (first_damaged h nodes 1 (length nodes)) tree rooted.1 in
    let long : h.greatest ≡ length nodes = sym (length-row (λ k. selected_node image root (k + 1)) h.greatest) in
    let matches : Matches image root nodes (length nodes) = subst (λ (g : ℕ). Matches image root nodes g) long (table_matches image root nodes h.greatest refl) in
    record {
      form = formed.0;
      top = ap (λ (t : Loaded). t.head) sound.1;
      matches = subst (λ (t : Loaded). Matches image root t.nodes (length t.nodes)) sound.1 matches;
      hashed = (table_hashed image root tree ended.0).0;
      ends = each_ends (layout_of root.format) tree.nodes (length tree.nodes) (length image) (subst (λ (y : Layout). need_of y tree.nodes (length tree.nodes) ≤ length image) (table_hashed image root tree ended.0).0.stands ended.1);
    }

-- in an image of bytes the tree that loads is verified
pub verified_from : (image : List ℕ) (root : RootRef) (tree : Loaded) → AreBytes image → load_of image root ≡ Ok tree → IsVerified root tree
verified_from image root tree bytes is = table_verified image root tree bytes (ends_ok (length image) (table_of image root) tree is).0

-- what the selected bytes hold
map_row : {A B : Type 0} (h : A → B) (f : ℕ → A) (n : ℕ) → map h (row f n) ≡ row (λ k. h (f k)) n
map_row h f zero = refl
map_row h f (suc n) = map-append h (row f n) (f n ∷ []) ∙ ap (λ l. l ++ h (f n) ∷ []) (map_row h f n)

pub selection_is : (image : List ℕ) (root : RootRef) (tree : Loaded) → load_of image root ≡ Ok tree → loaded_in (layout_of root.format) (selected_tree image root) ≡ tree
selection_is image root tree is =
    let l = loaded_from image root tree is in
    let nodes : map node_of (selected_tree image root).nodes ≡ tree.nodes =
    map_row node_of (λ k. part_in (layout_of root.format) image (node (k + 1) (version_in image root (k + 1)))) (head_in image root).greatest
    ∙ ap (λ (h : Head). row (λ k. selected_node image root (k + 1)) h.greatest) l.top ∙ nodes_selected image root tree l in
    λ i. record { head = l.top i; nodes = nodes i; layout = sym l.hashed.stands i }
