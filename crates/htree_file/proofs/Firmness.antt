-- A run that keeps the selected places keeps a firm tree.
use Rattle.std.proofs.Common.{◌≡◌, inl, ℕ, ◌+◌, ◌-◌, ◌<◌, ◌≤◌, List, [], length, get_or, IsTrue, IfSome, Option, None, Some, Ok, refl, sym, ◌∙◌, ap, subst, arith}
use Rattle.disk_model.specs.Images.{Has, Every, sector}
use Rattle.disk_model.specs.State.{FileState, LeftNow, LeftSince, Sound, moment}
use Rattle.disk_model.specs.Calls.{Syncs}
use Rattle.disk_model.specs.Keeps.{Anywhere, Keeps}
use Rattle.disk_model.proofs.ImageLaws.{left_since_now, now_since, reads_left}
use Rattle.disk_model.proofs.Laws.{keeps_fewer, synced}
use Rattle.aes_block.specs.WrappedKey.{unwrapped_of}
use Rattle.node_image.specs.declared.node.NodeImage.{NodeImage}
use Rattle.node_image.specs.declared.node.RootRef.{RootRef}
use Rattle.node_image.specs.Layout.{has_form, head_of, node_of}
use Rattle.node_image.specs.Parts.{In, Layout, Part, nodes_end, size, start, layout_of}
use Rattle.node_image.specs.Parts.Layout.{aligned, tight}
use Rattle.node_image.specs.Parts.Part.{block, head, node}
use Rattle.node_image.specs.Tables.{at_node, block_bit, block_version, node_version}
use Rattle.node_image.specs.Selection.{SelectedTree, head_in, part_in, row, selected_node, selected_tree, version_in}
use Rattle.node_image.proofs.ImageBytes.{bytes_give, bytes_same}
use Rattle.node_image.proofs.Matching.{node_is, row_at, row_same, version_is}
use Rattle.htree_file.specs.Making.{IsSynced}
use Rattle.htree_file.specs.Opening.{Loaded, load_of}
use Rattle.htree_file.specs.Pages.{opened_in, opened_of, page_in, page_of}
use Rattle.htree_file.specs.Selected.{IsLoaded, IsSelected, KeepsFirm, Lies}
use Rattle.htree_file.specs.Standing.{IsFirm, OpensTo}
use Rattle.htree_file.specs.Value.{Staged}
use Rattle.htree_file.proofs.Loadings.{loaded_from, loaded_is}
use Rattle.htree_file.proofs.SameTable.{head_low, node_low, node_version_bit}
use Rattle.htree_file.proofs.Sizes.{sized_few}

-- a tree has 1 to 256 nodes
pub loaded_few : (image : List ℕ) (root : RootRef) (tree : Loaded) → IsLoaded image root tree → (1 ≤ length tree.nodes) × (length tree.nodes ≤ 256)
loaded_few image root tree l = let few = sized_few tree.head l.hashed.sized in (omega (arith, few.0, l.hashed.all), omega (arith, few.1, l.hashed.all))

-- where a block ends within an image, the nodes and heads do
nodes_within : (layout : Layout) (k v end : ℕ) → start layout (block k v) + 4096 ≤ end → nodes_end layout ≤ end
nodes_within tight k v end le = omega (arith, le)
nodes_within aligned k v end le = omega (arith, le)

pub nodes_ended : (image : List ℕ) (root : RootRef) (tree : Loaded) → IsLoaded image root tree → nodes_end (layout_of root.format) ≤ length image
nodes_ended image root tree l = nodes_within (layout_of root.format) 0 (block_version tree.nodes 0) (length image) (l.ends 0 (omega (arith, (loaded_few image root tree l).0)))

-- a selected part ends within an image in which the tree loads
pub part_ends : (image : List ℕ) (root : RootRef) (tree : Loaded) → root.version < 2 → IsLoaded image root tree → (q : Part) → IsSelected tree.nodes root.version q → start (layout_of root.format) q + size q ≤ length image
part_ends image root tree bit l (head v) at = omega (arith, nodes_ended image root tree l, head_low (layout_of root.format) v (omega (arith, at, bit)))
part_ends image root tree bit l (node n v) at =
    omega (arith, nodes_ended image root tree l, node_low (layout_of root.format) n v at.0 (omega (arith, at.1, (loaded_few image root tree l).1)) (omega (arith, at.2, node_version_bit tree.nodes root.version n bit)))
part_ends image root tree bit l (block k v) at = subst (λ (w : ℕ). start (layout_of root.format) (block k w) + 4096 ≤ length image) (sym at.1) (l.ends k at.0)

-- and so does each sector that it meets
low_sector : (layout : Layout) (p o : ℕ) → p < nodes_end layout → sector o ≡ sector p → o < nodes_end layout
low_sector tight p o lt same = omega (arith, lt, same)
low_sector aligned p o lt same = omega (arith, lt, same)

block_sector : (layout : Layout) (k v p o : ℕ) → p < start layout (block k v) + 4096 → sector o ≡ sector p → o < start layout (block k v) + 4096
block_sector tight k v p o lt same = omega (arith, lt, same)
block_sector aligned k v p o lt same = omega (arith, lt, same)

sector_ends : (image : List ℕ) (root : RootRef) (tree : Loaded) → root.version < 2 → IsLoaded image root tree → (q : Part) → IsSelected tree.nodes root.version q
    → (p o : ℕ) → In (layout_of root.format) q p → sector o ≡ sector p → o < length image
sector_ends image root tree bit l (head v) at p o i same =
    let low : p < nodes_end (layout_of root.format) = omega (arith, i.upto, head_low (layout_of root.format) v (omega (arith, at, bit))) in
    omega (arith, low_sector (layout_of root.format) p o low same, nodes_ended image root tree l)
sector_ends image root tree bit l (node n v) at p o i same =
    let low : p < nodes_end (layout_of root.format) =
    omega (arith, i.upto, node_low (layout_of root.format) n v at.0 (omega (arith, at.1, (loaded_few image root tree l).1)) (omega (arith, at.2, node_version_bit tree.nodes root.version n bit))) in
    omega (arith, low_sector (layout_of root.format) p o low same, nodes_ended image root tree l)
sector_ends image root tree bit l (block k v) at p o i same =
    omega (arith, block_sector (layout_of root.format) k v p o i.upto same, part_ends image root tree bit l (block k v) at)

-- the selected parts of two images in which one tree loads, and that are selected alike, are the same
same_selected : (i r : List ℕ) (root : RootRef) (tree : Loaded) → IsLoaded i root tree → IsLoaded r root tree → selected_tree i root ≡ selected_tree r root
    → (q : Part) → IsSelected tree.nodes root.version q → part_in (layout_of root.format) i q ≡ part_in (layout_of root.format) r q
same_selected i r root tree a b same (head v) at = subst (λ (w : ℕ). part_in (layout_of root.format) i (head w) ≡ part_in (layout_of root.format) r (head w)) (sym at) (ap (λ (s : SelectedTree). s.head_bytes) same)
same_selected i r root tree a b same (node n v) at =
    let nodes = tree.nodes in
    let w = node_version nodes root.version n in
    let e : (n - 1) + 1 ≡ n = omega (arith, at.0) in
    let nodes_of : (image : List ℕ) → IsLoaded image root tree → get_or (selected_tree image root).nodes (n - 1) [] ≡ part_in (layout_of root.format) image (node n w) = λ image l.
    row_at (λ k. part_in (layout_of root.format) image (node (k + 1) (version_in image root (k + 1)))) (head_in image root).greatest (n - 1) [] (omega (arith, ap (λ h. h.greatest) l.top, l.hashed.all, at.0, at.1))
    ∙ ap (λ (k : ℕ). part_in (layout_of root.format) image (node k (version_in image root k))) e
    ∙ ap (λ (u : ℕ). part_in (layout_of root.format) image (node n u)) (version_is image root nodes (length nodes) l.matches n at.0 at.1) in
    subst (λ (u : ℕ). part_in (layout_of root.format) i (node n u) ≡ part_in (layout_of root.format) r (node n u)) (sym at.2) (sym (nodes_of i a) ∙ ap (λ (s : SelectedTree). get_or s.nodes (n - 1) []) same ∙ nodes_of r b)
same_selected i r root tree a b same (block k v) at =
    let nodes = tree.nodes in
    let w = block_version nodes k in
    let blocks_of : (image : List ℕ) → IsLoaded image root tree → get_or (selected_tree image root).blocks k [] ≡ part_in (layout_of root.format) image (block k w) = λ image l.
    row_at (λ m. part_in (layout_of root.format) image (block m (block_bit (selected_node image root (m + 1)).flags))) (head_in image root).greatest k [] (omega (arith, ap (λ h. h.greatest) l.top, l.hashed.all, at.0))
    ∙ ap (λ (x : NodeImage). part_in (layout_of root.format) image (block k (block_bit x.flags))) (node_is image root nodes (length nodes) l.matches (k + 1) (omega arith) (omega (arith, at.0))) in
    subst (λ (u : ℕ). part_in (layout_of root.format) i (block k u) ≡ part_in (layout_of root.format) r (block k u)) (sym at.1) (sym (blocks_of i a) ∙ ap (λ (s : SelectedTree). get_or s.blocks k []) same ∙ blocks_of r b)

-- an image that has all selected bytes of another opens as that one does
module _ (i r : List ℕ) (root : RootRef) (tree : Loaded) (l : IsLoaded r root tree)
    (each : (q : Part) → IsSelected tree.nodes root.version q → (j : ℕ) → j < size q → Has i (start (layout_of root.format) q + j) (get_or r (start (layout_of root.format) q + j) 0)) where
  part_same : (q : Part) → IsSelected tree.nodes root.version q → part_in (layout_of root.format) i q ≡ part_in (layout_of root.format) r q
  part_same q at = bytes_same i r (start (layout_of root.format) q) (size q) (λ j lt. (each q at j lt).is)

  same_loads : IsLoaded i root tree
  same_loads = record {
    form = ap has_form (part_same (head root.version) refl) ∙ l.form;
    top = ap head_of (part_same (head root.version) refl) ∙ l.top;
    matches = λ n least most. ap node_of (part_same (node n (node_version tree.nodes root.version n)) (let at : IsSelected tree.nodes root.version (node n (node_version tree.nodes root.version n)) = (least, most, refl) in at)) ∙ l.matches n least most;
    hashed = l.hashed;
    ends = λ k lt. omega (arith, (each (block k (block_version tree.nodes k)) (let at : IsSelected tree.nodes root.version (block k (block_version tree.nodes k)) = (lt, refl) in at) 4095 (omega arith)).below);
  }

  node_bytes_same : (k : ℕ) → k < length tree.nodes → part_in (layout_of root.format) i (node (k + 1) (version_in i root (k + 1))) ≡ part_in (layout_of root.format) r (node (k + 1) (version_in r root (k + 1)))
  node_bytes_same k lt =
      let v = root in
      let n : ℕ = k + 1 in
      let w = node_version tree.nodes root.version n in
      ap (λ (u : ℕ). part_in (layout_of root.format) i (node n u)) (version_is i v tree.nodes (length tree.nodes) same_loads.matches n (omega arith) (omega arith))
      ∙ part_same (node n w) (let at : IsSelected tree.nodes root.version (node n w) = (omega arith, omega arith, refl) in at)
      ∙ ap (λ (u : ℕ). part_in (layout_of root.format) r (node n u)) (sym (version_is r v tree.nodes (length tree.nodes) l.matches n (omega arith) (omega arith)))

  block_bytes_same : (k : ℕ) → k < length tree.nodes → part_in (layout_of root.format) i (block k (block_bit (selected_node i root (k + 1)).flags)) ≡ part_in (layout_of root.format) r (block k (block_bit (selected_node r root (k + 1)).flags))
  block_bytes_same k lt =
      let v = root in
      let n : ℕ = k + 1 in
      ap (λ (x : NodeImage). part_in (layout_of root.format) i (block k (block_bit x.flags))) (node_is i v tree.nodes (length tree.nodes) same_loads.matches n (omega arith) (omega arith))
      ∙ part_same (block k (block_version tree.nodes k)) (let at : IsSelected tree.nodes root.version (block k (block_version tree.nodes k)) = (lt, refl) in at)
      ∙ ap (λ (x : NodeImage). part_in (layout_of root.format) r (block k (block_bit x.flags))) (sym (node_is r v tree.nodes (length tree.nodes) l.matches n (omega arith) (omega arith)))

  count_of : (image : List ℕ) → IsLoaded image root tree → (head_in image root).greatest ≡ length tree.nodes
  count_of image loads = ap (λ h. h.greatest) loads.top ∙ sym loads.hashed.all

  row_of : (image : List ℕ) → IsLoaded image root tree → (f : ℕ → List ℕ) → row f (head_in image root).greatest ≡ row f (length tree.nodes)
  row_of image loads f = ap (row f) (count_of image loads)

  nodes_alike : (selected_tree i root).nodes ≡ (selected_tree r root).nodes
  nodes_alike =
      row_of i same_loads (λ k. part_in (layout_of root.format) i (node (k + 1) (version_in i root (k + 1))))
      ∙ row_same (λ k. part_in (layout_of root.format) i (node (k + 1) (version_in i root (k + 1)))) (λ k. part_in (layout_of root.format) r (node (k + 1) (version_in r root (k + 1)))) (length tree.nodes) node_bytes_same
      ∙ sym (row_of r l (λ k. part_in (layout_of root.format) r (node (k + 1) (version_in r root (k + 1)))))

  blocks_alike : (selected_tree i root).blocks ≡ (selected_tree r root).blocks
  blocks_alike =
      row_of i same_loads (λ k. part_in (layout_of root.format) i (block k (block_bit (selected_node i root (k + 1)).flags)))
      ∙ row_same (λ k. part_in (layout_of root.format) i (block k (block_bit (selected_node i root (k + 1)).flags))) (λ k. part_in (layout_of root.format) r (block k (block_bit (selected_node r root (k + 1)).flags))) (length tree.nodes) block_bytes_same
      ∙ sym (row_of r l (λ k. part_in (layout_of root.format) r (block k (block_bit (selected_node r root (k + 1)).flags))))

  opens_same : OpensTo root tree (selected_tree r root) i
  opens_same = record {
    opens = loaded_is i root tree same_loads;
    selects = λ j. record { head_bytes = part_same (head root.version) refl j; nodes = nodes_alike j; blocks = blocks_alike j };
  }

module _ (old new : FileState) (root : RootRef) (tree : Loaded) (sound : Sound old) (bit : root.version < 2) (firm : IsFirm old root tree) (keeps : Keeps (Lies tree.layout tree.nodes root.version) old new) where
  loads_here : IsLoaded old.reads root tree
  loads_here = loaded_from old.reads root tree (firm old.reads (reads_left old sound)).opens

  every_now : (q : Part) → IsSelected tree.nodes root.version q → (j : ℕ) → j < size q → Every (LeftNow old) (start (layout_of root.format) q + j) (get_or old.reads (start (layout_of root.format) q + j) 0)
  every_now q at j lt i left =
      let opens = firm i left in
      let loads = loaded_from i root tree opens.opens in
      record {
        below = omega (arith, lt, part_ends i root tree bit loads q at);
        is = bytes_give i old.reads (start (layout_of root.format) q) (size q) (same_selected i old.reads root tree loads loads_here opens.selects q at) j lt;
      }

  every_since : IsTrue new.honest → (q : Part) → IsSelected tree.nodes root.version q → (j : ℕ) → j < size q → Every (LeftSince new (moment old)) (start (layout_of root.format) q + j) (get_or old.reads (start (layout_of root.format) q + j) 0)
  every_since honest q at j lt =
      let p : ℕ = start (layout_of root.format) q + j in
      let here : In (layout_of root.format) q p = record { from = omega arith; upto = omega (arith, lt) } in
      keeps.places honest (moment old) p _ (omega arith)
      (λ o same. (
        record { part = q; selected = at; at = p; near = same; within = subst (λ (y : Layout). In y q p) (sym loads_here.hashed.stands) here },
        sector_ends old.reads root tree bit loads_here q at p o here same,
      ))
      (λ i left. every_now q at j lt i (left_since_now old i left))

  always : IsTrue new.honest → (i : List ℕ) → LeftSince new (moment old) i → OpensTo root tree (selected_tree old.reads root) i
  always honest i left = opens_same i old.reads root tree loads_here (λ q at j lt. every_since honest q at j lt i left)

  still_firm : Sound new → IsTrue new.honest → IsFirm new root tree
  still_firm still honest i left =
      let now = always honest i (now_since new (moment old) i still left) in
      let same : selected_tree new.reads root ≡ selected_tree old.reads root = (always honest new.reads (now_since new (moment old) new.reads still (reads_left new still))).selects in
      record { opens = now.opens; selects = now.selects ∙ sym same }

-- in every image at every moment of the run the reference names the tree
pub stays_firm : (old new : FileState) (root : RootRef) (tree : Loaded) → Sound old → Sound new → root.version < 2 → Keeps (Lies tree.layout tree.nodes root.version) old new → KeepsFirm old new root tree
stays_firm old new root tree sound still bit keeps firm honest = record {
  always = always old new root tree sound bit firm keeps honest;
  firm = still_firm old new root tree sound bit firm keeps still honest;
}

-- what loads from the only image is firm
pub synced_firm : (s : FileState) (root : RootRef) (loaded : Loaded) → IsSynced s → IsTrue s.honest → load_of s.reads root ≡ Ok loaded → IsFirm s root loaded
synced_firm s root loaded synced honest loads image left =
    let same : image ≡ s.reads = synced honest image left in
    record { opens = ap (λ (i : List ℕ). load_of i root) same ∙ loads; selects = ap (λ (i : List ℕ). selected_tree i root) same }

-- what keeps all places keeps the selected ones
pub keeps_selected : (layout : Layout) (nodes : List NodeImage) (root : ℕ) (old new : FileState) → Keeps Anywhere old new → Keeps (Lies layout nodes root) old new
keeps_selected layout nodes root old new keeps = keeps_fewer Anywhere (Lies layout nodes root) old new (λ p at. tt) keeps

-- once settled, a stage is firm
pub settled_firm : (stage : Option Staged) (old new : FileState) → Syncs old new → IfSome stage (λ s. IsTrue new.honest → load_of old.reads s.root ≡ Ok s.tree → IsFirm new s.root s.tree)
settled_firm None old new syncs = tt
settled_firm (Some s) old new syncs = λ honest loads.
    synced_firm new s.root s.tree (λ h image left. synced old new syncs h image left) honest (ap (λ (l : List ℕ). load_of l s.root) (syncs.reads (inl honest)) ∙ loads)

-- images in which a reference selects and loads alike open alike
opened_by : (wrap i r : List ℕ) (root : RootRef) (tree : Loaded) → IsLoaded i root tree → IsLoaded r root tree → selected_tree i root ≡ selected_tree r root
    → opened_in i wrap (Ok tree) ≡ opened_in r wrap (Ok tree)
opened_by wrap i r root tree a b same =
    let key : List ℕ = unwrapped_of wrap tree.head.wrapped in
    ap (λ (pages : List (Option (List ℕ))). Ok (record { bytes = tree.head.length; pages = pages }))
    (row_same (page_in i key tree) (page_in r key tree) (length tree.nodes)
    (λ k lt. ap (page_of key tree.head (at_node tree.nodes (k + 1)) k)
    (subst (λ (y : Layout). part_in y i (block k (block_version tree.nodes k)) ≡ part_in y r (block k (block_version tree.nodes k))) (sym a.hashed.stands)
    (same_selected i r root tree a b same (block k (block_version tree.nodes k)) (lt, refl)))))

pub opens_alike : (s : FileState) (root : RootRef) (tree : Loaded) → Sound s → IsFirm s root tree → (wrap image : List ℕ) → LeftNow s image → opened_of wrap image root ≡ opened_of wrap s.reads root
opens_alike s root tree sound firm wrap image left =
    let there = firm image left in
    let here = firm s.reads (reads_left s sound) in
    ap (opened_in image wrap) there.opens
    ∙ opened_by wrap image s.reads root tree (loaded_from image root tree there.opens) (loaded_from s.reads root tree here.opens) there.selects
    ∙ sym (ap (opened_in s.reads wrap) here.opens)
