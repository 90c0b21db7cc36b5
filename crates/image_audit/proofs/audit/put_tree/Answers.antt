use Rattle.std.proofs.Common.{◌∙◌, ◌+◌, ◌++◌, ap}
use Rattle.node_image.specs.Layout.{head_bytes, node_bytes}
use Rattle.node_image.specs.Tables.{at_node}
use Rattle.image_audit.proofs.Puts.{put_more, some_in}
use Rattle.image_audit.proofs.audit.put_tree.Goals as goal

pub loop-k-preserved : goal.loop-k-preserved
loop-k-preserved g c =
    let tree = c.args.tree.now.tree in
    c.in_ok-extend_from_slice-2.ensures.items
    ∙ put_more (c.args.out.now.items ++ head_bytes tree.head) c.loop-k.out.items c.to_bytes-in-loop-k.result (λ k. node_bytes (at_node tree.nodes (k + 1))) c.loop-k.k c.loop-k.invariant
    (c.to_bytes-in-loop-k.ensures.bytes ∙ ap node_bytes (some_in _ c.in-Some.node (at_node tree.nodes (c.loop-k.k + 1)) c.in-Some.ensures))
