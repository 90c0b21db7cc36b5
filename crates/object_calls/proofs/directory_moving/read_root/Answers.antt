use Rattle.object_calls.proofs.DirectoryNamings.{block_refused, card_names}
use Rattle.object_calls.proofs.directory_moving.read_root.Goals as goal

pub returns-in-Ok-root_in-clause-told : goal.returns-in-Ok-root_in-clause-told
returns-in-Ok-root_in-clause-told g c = λ card has.
    card_names card c.in-Ok-root_in.root c.in-Ok.read.counter c.in-Ok.read.block (c.in-Ok.ensures.told card has) c.in-Ok-root_in.ensures.answer

pub returns-in-Err-root_in-clause-refused : goal.returns-in-Err-root_in-clause-refused
returns-in-Err-root_in-clause-refused g c =
    block_refused c.args.host.now.key (g.R.RpmbPort.state c.args.host.now.port) (g.R.RpmbPort.state c.read_card.new.host.port) (g.E.Entropy.faults c.args.entropy.now) (g.E.Entropy.faults c.read_card.new.entropy)
    c.in-Ok.read.block c.in-Ok.read.counter c.in-Ok.ensures.told c.in-Err-root_in.fault c.in-Err-root_in.ensures.answer
