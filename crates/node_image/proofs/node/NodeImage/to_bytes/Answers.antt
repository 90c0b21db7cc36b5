use Rattle.std.proofs.Common.{◌≡◌, [], ◌++◌, length, take, sym, ap, ◌∙◌, arith}
use Rattle.std.proofs.lemmas.List.{append-nil, take_all}
use Rattle.node_image.specs.declared.node.NodeImage.{NodeImage}
use Rattle.node_image.specs.Layout.{HasWidths, node_bytes, node_of}
use Rattle.byte_fields.proofs.Fields.{take-first, take-put}
use Rattle.node_image.proofs.RoundTrips.{node_of-node_bytes}
use Rattle.node_image.proofs.node.NodeImage.to_bytes.Goals as goal

pub returns-clause-bytes : goal.returns-clause-bytes
unfolding node_bytes
returns-clause-bytes c =
    let n : NodeImage = c.args.self.now in
    let whole : take 66 c.put-4.new.bytes ≡ c.put-4.new.bytes = take_all 66 c.put-4.new.bytes (omega arith) in
    let flags_long : length c.to_be_bytes.result ≡ 2 = ap length c.to_be_bytes.ensures in
    sym (append-nil c.put-4.new.bytes)
    ∙ ap (λ z. z ++ []) (sym whole)
    ∙ take-put c.put-3.new.bytes c.put-4.new.bytes c.to_be_bytes.result _ 64 66 c.put-4.ensures (omega arith) (omega arith)
    ∙ take-put c.put-2.new.bytes c.put-3.new.bytes n.tag _ 48 64 c.put-3.ensures (omega arith) (omega arith)
    ∙ take-put c.put.new.bytes c.put-2.new.bytes n.iv _ 32 48 c.put-2.ensures (omega arith) (omega arith)
    ∙ take-first c.put.new.bytes n.hash _ _ 32 c.put.ensures (omega arith)
    ∙ (λ i. n.hash ++ (n.iv ++ (n.tag ++ (append-nil c.to_be_bytes.result ∙ c.to_be_bytes.ensures) i)))

pub returns-clause-read : goal.returns-clause-read
returns-clause-read c =
    let widths : HasWidths c.args.self.now = (omega arith, omega arith, omega arith, omega arith) in
    ap node_of (returns-clause-bytes c) ∙ node_of-node_bytes c.args.self.now widths
