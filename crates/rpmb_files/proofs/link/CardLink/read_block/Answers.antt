use Rattle.std.proofs.Common.{◌∙◌, Ok, Err, arith}
use Rattle.rpmb_host.specs.Calls.{block_wanted}
use Rattle.card_maps.specs.CardMaps.{blocks_of}
use Rattle.rpmb_files.specs.Causes.{NoCard, OfBlock}
use Rattle.rpmb_files.specs.Devices.{devices}
use Rattle.rpmb_files.proofs.Exchanges.{err_ok, read_block_is, read_cause}
use Rattle.rpmb_files.proofs.Hearing.{last_is, refused, some_read}
use Rattle.rpmb_files.proofs.link.CardLink.read_block.Goals as goal

pub returns-in-Err-read_block-clause-cause : goal.returns-in-Err-read_block-clause-cause
returns-in-Err-read_block-clause-cause g c =
    let key = c.args.self.now.host.key in
    let old = devices (g.R.RpmbPort.state c.args.self.now.host.port) (g.E.Entropy.faults c.args.self.now.entropy) in
    let new = devices (g.R.RpmbPort.state c.read_block.new.self.port) (g.E.Entropy.faults c.draw_nonce.new.entropy) in
    read_cause (NoCard key old) key old new c.in-Err-read_block.fault c.cause_of.result c.cause_of.ensures c.in-Err-read_block.ensures.counts
    (refused (λ f. f.block) key (block_wanted c.from.result c.in-Ok.nonce) new.port new.port c.in-Err-read_block.fault c.cause_of.result (OfBlock c.from.result c.in-Ok.nonce) c.cause_of.ensures c.in-Err-read_block.ensures.answer
    (λ is. last_is new.port (some_read old.port new.port _ _ c.in-Err-read_block.ensures.exchanged is)))
    (λ other card has. err_ok c.in-Err-read_block.fault (blocks_of card c.from.result) (c.in-Err-read_block.ensures.honest card has other ∙ read_block_is card c.from.result (omega (arith, c.from.ensures))))
