use Rattle.std.proofs.Common.{◌++◌, option_copied, ap, append_assoc, ◌∙◌}
use Rattle.sha2.specs.Sha256.{sha256}
use Rattle.node_image.specs.Hashes.{child_input, hash_input, head_input}
use Rattle.node_image.proofs.hashing.node_hash.Goals as goal

pub returns : goal.returns
unfolding hash_input
returns c =
    let n = c.args.node.now in
    let f = c.to_be_bytes.result in
    let h = head_input (option_copied c.args.head) in
    let l = child_input (option_copied c.args.left) in
    let r = child_input (option_copied c.args.right) in
    c.finalize.ensures _ (c.add_child-2.ensures _ (c.add_child.ensures _ (c.add_head.ensures _ (c.update-3.ensures _ (c.update-2.ensures _ (c.update.ensures _ c.new-hasher.ensures))))))
    ∙ ap sha256 (append_assoc (((n.iv ++ n.tag) ++ f) ++ h) l r
    ∙ append_assoc ((n.iv ++ n.tag) ++ f) h (l ++ r)
    ∙ append_assoc (n.iv ++ n.tag) f (h ++ (l ++ r))
    ∙ append_assoc n.iv n.tag (f ++ (h ++ (l ++ r)))
    ∙ (λ i. n.iv ++ (n.tag ++ (c.to_be_bytes.ensures i ++ (h ++ (l ++ r))))))
