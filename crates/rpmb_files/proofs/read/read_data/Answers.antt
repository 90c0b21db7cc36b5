use Rattle.std.proofs.Common.{◌++◌, ℕ, take, ap, ◌∙◌, arith}
use Rattle.card_maps.specs.CardMaps.{blocks_of}
use Rattle.rpmb_files.proofs.Getting.{block_more}
use Rattle.rpmb_files.proofs.read.read_data.Goals as goal

pub returns-in-Ok-extend_from_slice-clause-bytes : goal.returns-in-Ok-extend_from_slice-clause-bytes
returns-in-Ok-extend_from_slice-clause-bytes g c card has =
    c.in-Ok-extend_from_slice.ensures.items
    ∙ ap (λ (k : ℕ). c.args.bytes.now.items ++ take k c.in-Ok.block) c.min-left.ensures
    ∙ block_more c.args.bytes.now.items c.args.size c.saturating_sub.result (blocks_of card c.args.number) c.in-Ok.block (omega arith) (c.in-Ok.ensures.told card has) (omega arith)
