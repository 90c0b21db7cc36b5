-- The runs that write a version, one after the other: its blocks, its nodes, its head.
use Rattle.std.proofs.Common.{◌≡◌, ℕ, ◌+◌, ◌-◌, ◌*◌, ◌/◌, ◌<◌, ◌≤◌, List, length, get_or, cond, leb, Bool, sym, ◌∙◌, ap, subst, arith}
use Rattle.disk_model.specs.State.{FileState}
use Rattle.disk_model.specs.Calls.{Known}
use Rattle.disk_model.proofs.Goings.{first_known, goes_on_then, then_known}
use Rattle.node_image.specs.declared.node.NodeImage.{NodeImage}
use Rattle.node_image.specs.declared.head.Head.{Head}
use Rattle.node_image.specs.Layout.{head_bytes}
use Rattle.node_image.specs.Parts.{IsPart, Layout, Off}
use Rattle.node_image.specs.Parts.Part.{block, head, node}
use Rattle.node_image.specs.Tables.{block_bit, child_bit, no_node, node_version}
use Rattle.node_image.proofs.PartPlaces.{off_other}
use Rattle.tree_paths.specs.Staged.{count_to, write_budget}
use Rattle.htree_file.specs.declared.change.BlockChange.{BlockChange}
use Rattle.htree_file.specs.Changes.{AreApart, block_at, page_at}
use Rattle.htree_file.specs.Staging.{AreSealed, HashedAmong, HeadReturns, IsSealed, IsWritten, NodesStand, OffBlocks, OffNodes, OffWritten, SameSeal, SealsAnew, WritesAtMost, named_node}
use Rattle.htree_file.specs.Standing.{Stands}
use Rattle.htree_file.proofs.PartWrites.{stands_kept}
use Rattle.htree_file.proofs.SealSteps.{named_is_part, sealed_by, sealed_kept}
use Rattle.htree_file.proofs.Writings.{writes_then, writes_within}

-- tables whose flags are the same name the same versions
pub version_same : (old new : List NodeImage) → ((k : ℕ) → (get_or new k no_node).flags ≡ (get_or old k no_node).flags) → (root n : ℕ) → node_version new root n ≡ node_version old root n
version_same old new same root n = ap (λ (f : ℕ). cond (leb n 1) root (child_bit f n)) (same ((n / 2) - 1))

-- the table as it was, with tags, and with hashes
module _ (layout : Layout) (changes : List BlockChange) (set : ℕ → Bool) (old mid next : List NodeImage) (root : ℕ) (anew : SealsAnew changes old mid)
    (seals : (k : ℕ) → SameSeal (get_or mid k no_node) (get_or next k no_node)) (long : length next ≡ length old) where
  pub flags_same : (k : ℕ) → (get_or next k no_node).flags ≡ (get_or old k no_node).flags
  flags_same k = (seals k).flags ∙ anew.flags k

  off_nodes : (p : ℕ) → OffWritten layout old root changes set p → OffNodes layout next root set p
  off_nodes p off n least most hit =
      subst (λ (v : ℕ). Off layout (node n v) p) (sym (version_same old next flags_same root n)) (off.nodes n least (omega (arith, most, long)) hit)

  module _ (a b c d : FileState) (blocks : WritesAtMost (OffBlocks layout old changes) (4096 * length changes) a b) where
    pub writes_nodes : (most : ℕ) → 4096 * length changes + 66 * count_to set 256 ≤ most → WritesAtMost (OffNodes layout next root set) (66 * count_to set 256) b c → WritesAtMost (OffWritten layout old root changes set) most a c
    writes_nodes most le nodes =
        writes_then (OffWritten layout old root changes set) a b c (4096 * length changes) (66 * count_to set 256) most le
        (writes_within (OffBlocks layout old changes) (OffWritten layout old root changes set) (4096 * length changes) (4096 * length changes) a b (omega arith) (λ p off. off.blocks) blocks)
        (writes_within (OffNodes layout next root set) (OffWritten layout old root changes set) (66 * count_to set 256) (66 * count_to set 256) b c (omega arith) off_nodes nodes)

    pub writes_head : WritesAtMost (OffNodes layout next root set) (66 * count_to set 256) b c → WritesAtMost (Off layout (head root)) 32 c d
        → WritesAtMost (OffWritten layout old root changes set) (write_budget (length changes) (count_to set 256)) a d
    writes_head nodes top =
        writes_then (OffWritten layout old root changes set) a c d (4096 * length changes + 66 * count_to set 256) 32 (write_budget (length changes) (count_to set 256)) (omega arith)
        (writes_nodes (4096 * length changes + 66 * count_to set 256) (omega arith) nodes)
        (writes_within (Off layout (head root)) (OffWritten layout old root changes set) 32 32 c d (omega arith) (λ p off. off.top) top)

    -- what is written stands behind the later runs
    module _ (key : List ℕ) (h : Head) (few : length next ≤ 256) (bit : root < 2) (apart : AreApart (length next) changes)
        (nodes : WritesAtMost (OffNodes layout next root set) (66 * count_to set 256) b c) (top : WritesAtMost (Off layout (head root)) 32 c d) where
      head_part : IsPart (head root)
      head_part = bit

      sealed_on : AreSealed layout (Known a b) b.reads key h mid changes (length changes) → AreSealed layout (Known a d) d.reads key h next changes (length changes)
      sealed_on sealed j lt =
          let k = block_at changes j in
          let n : NodeImage = get_or next k no_node in
          let low : k < 256 = omega (arith, few, apart.within j lt) in
          let part : IsPart (block k (block_bit n.flags)) = (low, omega arith) in
          let at_b : IsSealed layout (Known a b) b.reads key h n k (page_at changes j) =
          sealed_by layout (Known a b) b.reads key h (get_or mid k no_node) n k (page_at changes j) (seals k).iv (seals k).tag (seals k).flags (sealed j lt) in
          let at_c : IsSealed layout (Known a c) c.reads key h n k (page_at changes j) =
          sealed_kept layout (OffNodes layout next root set) a b c key h n k (page_at changes j) blocks.keeps.goes_on nodes.keeps
          (λ p at m least most hit. off_other layout (block k (block_bit n.flags)) (named_node next root m) p part (named_is_part layout next root few bit m least most) (λ e. cc (e)) at) at_b in
          sealed_kept layout (Off layout (head root)) a c d key h n k (page_at changes j) (goes_on_then a b c blocks.keeps.goes_on nodes.keeps.goes_on) top.keeps
          (λ p at. off_other layout (block k (block_bit n.flags)) (head root) p part head_part (λ e. cc (e)) at) at_c

      nodes_on : NodesStand layout (Known b c) c.reads root next set (length next) → NodesStand layout (Known a d) d.reads root next set (length next)
      nodes_on stand n least most hit =
          let was = stand n least most hit in
          let q = named_node next root n in
          record {
            stands = λ known.
                let known_c : Known a c = first_known a c d top.keeps.goes_on known in
                stands_kept layout (Off layout (head root)) c d q _ (omega arith) top.keeps (then_known a c d (goes_on_then a b c blocks.keeps.goes_on nodes.keeps.goes_on) known)
                (λ p at. off_other layout q (head root) p (named_is_part layout next root few bit n least most) head_part (λ e. cc (e)) at) (was.stands (then_known a b c blocks.keeps.goes_on known_c));
            returns = was.returns;
            bytes = was.bytes;
          }

      pub is_written : AreSealed layout (Known a b) b.reads key h mid changes (length changes) → HashedAmong set next h 0 → NodesStand layout (Known b c) c.reads root next set (length next)
          → (Known c d → Stands layout d.reads (head root) (head_bytes h)) → HeadReturns h → IsWritten layout (Known a d) d.reads key h root changes set next
      is_written sealed hashed stand top_stands returns = record {
        sealed = sealed_on sealed;
        hashed = hashed;
        nodes = nodes_on stand;
        top_stands = λ known. top_stands (then_known a c d (goes_on_then a b c blocks.keeps.goes_on nodes.keeps.goes_on) known);
        top_returns = returns;
      }
