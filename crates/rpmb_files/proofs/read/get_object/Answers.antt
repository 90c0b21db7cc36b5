use Rattle.std.proofs.Common.{◌∙◌, ℕ, List, None, sym, subst}
use Rattle.card_maps.specs.Tables.{named}
use Rattle.rpmb_files.specs.Devices.{Devices, GoesOn, devices}
use Rattle.rpmb_files.specs.Knows.{Knows}
use Rattle.rpmb_files.proofs.Ends.{moved_card}
use Rattle.rpmb_files.proofs.Exchanges.{goes_then}
use Rattle.rpmb_files.proofs.Getting.{get_read, get_store, get_unread, stays_store}
use Rattle.rpmb_files.proofs.Mounting.{answer_then}
use Rattle.rpmb_files.proofs.read.get_object.Goals as goal

pub returns-in-Err-clause-leaves : goal.returns-in-Err-clause-leaves
returns-in-Err-clause-leaves g c store =
    get_unread (g.R.RpmbPort.state c.args.link.now.host.port) (g.R.RpmbPort.state c.settle.new.link.host.port) c.args.link.now.host.key c.settle.new.link.host.key
    (g.E.Entropy.faults c.args.link.now.entropy) (g.E.Entropy.faults c.settle.new.link.entropy) c.args.link.now.counter c.settle.new.link.counter c.args.table.now c.settle.new.table
    c.args.doubt.now c.settle.new.doubt c.in-Err.ensures.key c.in-Err.ensures.card (named c.args.app c.args.id) c.in-Err.ensures.kept.1 c.in-Err.ensures.kept.2 c.in-Err.ensures.kept.3

pub returns-in-Err-clause-store : goal.returns-in-Err-clause-store
returns-in-Err-clause-store g c store =
    stays_store (g.R.RpmbPort.state c.args.link.now.host.port) (g.R.RpmbPort.state c.settle.new.link.host.port) c.args.link.now.host.key c.settle.new.link.host.key
    (g.E.Entropy.faults c.args.link.now.entropy) (g.E.Entropy.faults c.settle.new.link.entropy) c.args.link.now.counter c.settle.new.link.counter c.args.table.now c.settle.new.table
    c.args.doubt.now c.settle.new.doubt c.in-Err.ensures.key c.in-Err.ensures.card store c.in-Err.ensures.kept.0 c.in-Err.ensures.kept.1 c.in-Err.ensures.kept.2

pub returns-in-Ok-clause-goes_on : goal.returns-in-Ok-clause-goes_on
returns-in-Ok-clause-goes_on g c =
    let key : List ℕ = c.args.link.now.host.key in
    let old : Devices = devices (g.R.RpmbPort.state c.args.link.now.host.port) (g.E.Entropy.faults c.args.link.now.entropy) in
    let mid : Devices = devices (g.R.RpmbPort.state c.settle.new.link.host.port) (g.E.Entropy.faults c.settle.new.link.entropy) in
    let new : Devices = devices (g.R.RpmbPort.state c.read_named.new.link.host.port) (g.E.Entropy.faults c.read_named.new.link.entropy) in
    goes_then key old mid new c.in-Ok.ensures.goes_on (subst (λ (k : List ℕ). GoesOn k mid new) c.in-Ok.ensures.key c.read_named.ensures.goes_on)

pub returns-in-Ok-clause-leaves : goal.returns-in-Ok-clause-leaves
returns-in-Ok-clause-leaves g c store =
    get_read (g.R.RpmbPort.state c.args.link.now.host.port) (g.R.RpmbPort.state c.read_named.new.link.host.port) c.args.link.now.host.key c.read_named.new.link.host.key
    (g.E.Entropy.faults c.args.link.now.entropy) (g.E.Entropy.faults c.read_named.new.link.entropy) c.args.link.now.counter c.read_named.new.link.counter c.args.table.now c.settle.new.table
    c.args.doubt.now c.settle.new.doubt (c.read_named.ensures.key ∙ c.in-Ok.ensures.key) (c.read_named.ensures.card ∙ c.in-Ok.ensures.card) store c.in-Ok.ensures.settled
    (λ card has known. subst (λ (n : ℕ). Knows n c.settle.new.table None card) (sym c.read_named.ensures.counter) (c.in-Ok.ensures.knows card has known))
    (named c.args.app c.args.id) c.read_named.result (g.met.R.RpmbPort.sound c.args.link.now.host.port)
    (λ card m has table. c.read_named.ensures.answers card m (moved_card (g.R.RpmbPort.state c.args.link.now.host.port) (g.R.RpmbPort.state c.settle.new.link.host.port) c.args.link.now.host.key
    c.settle.new.link.host.key card c.in-Ok.ensures.card c.in-Ok.ensures.key has) table)

pub returns-in-Ok-clause-store : goal.returns-in-Ok-clause-store
returns-in-Ok-clause-store g c store =
    get_store (g.R.RpmbPort.state c.args.link.now.host.port) (g.R.RpmbPort.state c.read_named.new.link.host.port) c.args.link.now.host.key c.read_named.new.link.host.key
    (g.E.Entropy.faults c.args.link.now.entropy) (g.E.Entropy.faults c.read_named.new.link.entropy) c.args.link.now.counter c.read_named.new.link.counter c.args.table.now c.settle.new.table
    c.args.doubt.now c.settle.new.doubt (c.read_named.ensures.key ∙ c.in-Ok.ensures.key) (c.read_named.ensures.card ∙ c.in-Ok.ensures.card) store c.in-Ok.ensures.settled
    (λ card has known. subst (λ (n : ℕ). Knows n c.settle.new.table None card) (sym c.read_named.ensures.counter) (c.in-Ok.ensures.knows card has known))

pub returns-in-Ok-clause-cause : goal.returns-in-Ok-clause-cause
returns-in-Ok-clause-cause g c store =
    let key : List ℕ = c.args.link.now.host.key in
    let own : List ℕ = c.settle.new.link.host.key in
    let old : Devices = devices (g.R.RpmbPort.state c.args.link.now.host.port) (g.E.Entropy.faults c.args.link.now.entropy) in
    let mid : Devices = devices (g.R.RpmbPort.state c.settle.new.link.host.port) (g.E.Entropy.faults c.settle.new.link.entropy) in
    let new : Devices = devices (g.R.RpmbPort.state c.read_named.new.link.host.port) (g.E.Entropy.faults c.read_named.new.link.entropy) in
    answer_then key own old mid new c.read_named.result c.in-Ok.ensures.key c.in-Ok.ensures.goes_on c.in-Ok.ensures.card c.read_named.ensures.cause
