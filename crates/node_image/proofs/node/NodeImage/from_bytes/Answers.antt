use Rattle.std.proofs.Common.{ap, ◌∙◌}
use Rattle.std.specs.Int.{w16, from_be_bytes}
use Rattle.node_image.specs.Layout.{node_bytes, node_of}
use Rattle.node_image.proofs.RoundTrips.{node_bytes-node_of}
use Rattle.node_image.proofs.node.NodeImage.from_bytes.Goals as goal

pub returns-clause-node : goal.returns-clause-node
unfolding node_of
returns-clause-node c = λ i. record {
  hash = c.field.ensures i;
  iv = c.field-2.ensures i;
  tag = c.field-3.ensures i;
  flags = (c.from_be_bytes.ensures ∙ ap (from_be_bytes w16) c.field-4.ensures) i;
}

pub returns-clause-written : goal.returns-clause-written
returns-clause-written c =
    ap node_bytes (returns-clause-node c) ∙ node_bytes-node_of c.args.bytes.now c.told-bytes c.fits-bytes
