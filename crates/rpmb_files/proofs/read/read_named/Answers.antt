use Rattle.std.proofs.Common.{◌∙◌, ℕ, List, Option, Some, ap, sym}
use Rattle.card_maps.specs.Tables.{named}
use Rattle.rpmb_files.specs.Devices.{devices}
use Rattle.rpmb_files.proofs.Ends.{sound_card}
use Rattle.rpmb_files.proofs.Exchanges.{goes_same}
use Rattle.rpmb_files.proofs.Getting.{named_absent, named_bytes, named_fault}
use Rattle.rpmb_files.proofs.read.read_named.Goals as goal

pub returns-in_default-clause-goes_on : goal.returns-in_default-clause-goes_on
returns-in_default-clause-goes_on g c =
    goes_same c.args.link.now.host.key (devices (g.R.RpmbPort.state c.args.link.now.host.port) (g.E.Entropy.faults c.args.link.now.entropy))

pub returns-in_default-clause-answers : goal.returns-in_default-clause-answers
returns-in_default-clause-answers g c card m has table =
    named_absent c.args.table.now card m table (sound_card (g.R.RpmbPort.state c.args.link.now.host.port) c.args.link.now.host.key card (g.met.R.RpmbPort.sound c.args.link.now.host.port) has)
    (named c.args.app c.args.id) c.in_default.ensures

pub returns-in-Ok-clause-answers : goal.returns-in-Ok-clause-answers
returns-in-Ok-clause-answers g c card m has table =
    named_bytes c.args.table.now card m table (sound_card (g.R.RpmbPort.state c.args.link.now.host.port) c.args.link.now.host.key card (g.met.R.RpmbPort.sound c.args.link.now.host.port) has)
    (named c.args.app c.args.id) c.in-Some.entry c.in-Some.ensures
    ∙ ap (λ (l : List ℕ). let o : Option (List ℕ) = Some l in o) (sym (c.from_vec.ensures ∙ c.in-Ok.ensures.bytes card has))

pub returns-in-Err-clause-answers : goal.returns-in-Err-clause-answers
returns-in-Err-clause-answers g c card m has table =
    named_fault c.args.table.now card m table (sound_card (g.R.RpmbPort.state c.args.link.now.host.port) c.args.link.now.host.key card (g.met.R.RpmbPort.sound c.args.link.now.host.port) has)
    (named c.args.app c.args.id) c.in-Some.entry c.in-Some.ensures c.in-Err.fault c.in-Err.ensures.reading
