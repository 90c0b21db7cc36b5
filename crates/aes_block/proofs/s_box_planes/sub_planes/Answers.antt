use Rattle.aes_block.proofs.PackedBlocks.{subbed_block}
use Rattle.aes_block.proofs.SBoxLayers.{Layers, bytes_subbed, planes_subbed}
use Rattle.aes_block.proofs.s_box_planes.sub_planes.Goals as goal

layers : (c : goal.After-lin_layer) → Layers c.args.x c.top_layer-y.result c.mid_layer.result c.inv_layer-t.result c.bot_layer.result c.lin_layer.result
layers c = record {
  top = c.top_layer-y.ensures;
  mid = c.mid_layer.ensures;
  inv = c.inv_layer-t.ensures;
  bot = c.bot_layer.ensures;
  lin = c.lin_layer.ensures;
}

pub returns-clause-planes : goal.returns-clause-planes
returns-clause-planes c = planes_subbed _ _ _ _ _ _ (layers c) c.requires

pub returns-clause-value : goal.returns-clause-value
returns-clause-value c = λ t low.
    subbed_block c.args.x c.lin_layer.result t (λ j lt. bytes_subbed _ _ _ _ _ _ (layers c) c.requires t j low lt)
