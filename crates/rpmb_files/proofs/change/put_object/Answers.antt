use Rattle.std.proofs.Common.{◌≡◌, ℕ, List, length, IfErr, refl, sym, subst, arith}
use Rattle.card_maps.specs.Course.{writes_of}
use Rattle.card_maps.specs.Plans.{write_count}
use Rattle.card_maps.specs.Tables.{named}
use Rattle.rpmb_files.specs.Causes.{NoCard, NoCardAt}
use Rattle.rpmb_files.specs.Devices.{Devices, GoesOn, devices}
use Rattle.rpmb_files.specs.Replies.{FaultCause}
use Rattle.rpmb_files.proofs.Changing.{change_cause, known, planned_count, put_leaves, put_refused_leaves, put_store}
use Rattle.rpmb_files.proofs.Ends.{moved_card}
use Rattle.rpmb_files.proofs.Exchanged.{written_settled}
use Rattle.rpmb_files.proofs.Exchanges.{goes_then}
use Rattle.rpmb_files.proofs.change.put_object.Goals as goal

pub make-requires : goal.make-requires
make-requires g c =
    omega (arith, planned_count c.settle.new.table (named c.args.app c.args.id) (length c.args.bytes.now) c.in-Ok.change c.in-Ok.ensures.0, c.in-Ok.ensures.1)

pub returns-in-Ok-clause-leaves : goal.returns-in-Ok-clause-leaves
returns-in-Ok-clause-leaves g c store =
    put_leaves (g.R.RpmbPort.state c.args.link.now.host.port) c.args.link.now.host.key (g.E.Entropy.faults c.args.link.now.entropy) c.args.link.now.counter
    c.args.table.now c.args.doubt.now (g.R.RpmbPort.state c.settle.new.link.host.port) c.settle.new.link.host.key (g.E.Entropy.faults c.settle.new.link.entropy)
    c.settle.new.link.counter
    c.settle.new.table c.in_default.ensures.card c.in_default.ensures.key store c.in_default.ensures.knows (g.met.R.RpmbPort.sound c.args.link.now.host.port)
    (g.R.RpmbPort.state c.make.new.link.host.port) c.make.new.link.host.key (g.E.Entropy.faults c.make.new.link.entropy) c.make.new.link.counter c.make.new.table
    c.settle.new.doubt c.make.new.doubt c.make.result (g.met.R.RpmbPort.sound c.make.new.link.host.port)
    c.in_default.ensures.settled c.make.ensures.key c.in-Ok.change c.args.bytes.now (named c.args.app c.args.id) c.make.ensures.makes c.in-Ok.ensures

pub returns-in-Ok-clause-store : goal.returns-in-Ok-clause-store
returns-in-Ok-clause-store g c store =
    put_store (g.R.RpmbPort.state c.args.link.now.host.port) c.args.link.now.host.key (g.E.Entropy.faults c.args.link.now.entropy) c.args.link.now.counter
    c.args.table.now c.args.doubt.now (g.R.RpmbPort.state c.settle.new.link.host.port) c.settle.new.link.host.key (g.E.Entropy.faults c.settle.new.link.entropy)
    c.settle.new.link.counter
    c.settle.new.table c.in_default.ensures.card c.in_default.ensures.key store c.in_default.ensures.knows (g.met.R.RpmbPort.sound c.args.link.now.host.port)
    (g.R.RpmbPort.state c.make.new.link.host.port) c.make.new.link.host.key (g.E.Entropy.faults c.make.new.link.entropy) c.make.new.link.counter c.make.new.table
    c.settle.new.doubt c.make.new.doubt c.make.result (g.met.R.RpmbPort.sound c.make.new.link.host.port)
    c.in_default.ensures.settled c.make.ensures.key c.in-Ok.change c.args.bytes.now (named c.args.app c.args.id) c.make.ensures.makes c.in-Ok.ensures
    (λ card has. c.make.ensures.goes_on.was card (moved_card (g.R.RpmbPort.state c.make.new.link.host.port) (g.R.RpmbPort.state c.make.new.link.host.port) c.make.new.link.host.key c.settle.new.link.host.key card refl (sym c.make.ensures.key) has))

pub returns-in-Ok-clause-cause : goal.returns-in-Ok-clause-cause
returns-in-Ok-clause-cause g c store =
    let old : Devices = devices (g.R.RpmbPort.state c.args.link.now.host.port) (g.E.Entropy.faults c.args.link.now.entropy) in
    let mid : Devices = devices (g.R.RpmbPort.state c.settle.new.link.host.port) (g.E.Entropy.faults c.settle.new.link.entropy) in
    let new : Devices = devices (g.R.RpmbPort.state c.make.new.link.host.port) (g.E.Entropy.faults c.make.new.link.entropy) in
    change_cause (NoCard c.args.link.now.host.key old) (NoCardAt c.args.link.now.host.key c.settle.new.link.counter mid) c.args.link.now.host.key old mid new c.make.result
    c.in_default.ensures.goes_on
    (λ none card has.
    none card
    (moved_card (g.R.RpmbPort.state c.args.link.now.host.port) (g.R.RpmbPort.state c.settle.new.link.host.port) c.args.link.now.host.key c.args.link.now.host.key card c.in_default.ensures.card refl has)
    (known (g.R.RpmbPort.state c.args.link.now.host.port) c.args.link.now.host.key (g.E.Entropy.faults c.args.link.now.entropy) c.args.link.now.counter c.args.table.now c.args.doubt.now (g.R.RpmbPort.state c.settle.new.link.host.port) c.settle.new.link.host.key (g.E.Entropy.faults c.settle.new.link.entropy) c.settle.new.link.counter
    c.settle.new.table c.in_default.ensures.card c.in_default.ensures.key store c.in_default.ensures.knows (g.met.R.RpmbPort.sound c.args.link.now.host.port) card has).1)
    (subst (λ (k : List ℕ). IfErr c.make.result (FaultCause (NoCardAt k c.settle.new.link.counter mid) k mid new)) c.in_default.ensures.key c.make.ensures.cause)

pub returns-in-Ok-clause-goes_on : goal.returns-in-Ok-clause-goes_on
returns-in-Ok-clause-goes_on g c =
    let old : Devices = devices (g.R.RpmbPort.state c.args.link.now.host.port) (g.E.Entropy.faults c.args.link.now.entropy) in
    let mid : Devices = devices (g.R.RpmbPort.state c.settle.new.link.host.port) (g.E.Entropy.faults c.settle.new.link.entropy) in
    let new : Devices = devices (g.R.RpmbPort.state c.make.new.link.host.port) (g.E.Entropy.faults c.make.new.link.entropy) in
    goes_then c.args.link.now.host.key old mid new c.in_default.ensures.goes_on (subst (λ (k : List ℕ). GoesOn k mid new) c.in_default.ensures.key c.make.ensures.goes_on)

pub returns-in-Ok-clause-exchanges : goal.returns-in-Ok-clause-exchanges
returns-in-Ok-clause-exchanges g c store none =
    let same = (c.in_default.ensures.idle none).0 in
    written_settled (g.R.RpmbPort.state c.args.link.now.host.port) (g.R.RpmbPort.state c.settle.new.link.host.port) (g.R.RpmbPort.state c.make.new.link.host.port)
    c.args.link.now.host.key c.settle.new.link.host.key c.args.link.now.counter c.settle.new.link.counter
    (write_count c.in-Ok.change) (writes_of (length c.args.bytes.now)) c.args.table.now c.args.doubt.now c.make.result
    (λ i. g.R.RpmbPort.state (same i).host.port) c.in_default.ensures.key (λ i. (same i).counter) (let e : write_count c.in-Ok.change ≡ writes_of (length c.args.bytes.now) =
    omega (arith, planned_count c.settle.new.table (named c.args.app c.args.id) (length c.args.bytes.now) c.in-Ok.change c.in-Ok.ensures.0) in
    e) store none c.make.ensures.exchanges

pub returns-in-Err-plan_put-clause-leaves : goal.returns-in-Err-plan_put-clause-leaves
returns-in-Err-plan_put-clause-leaves g c store =
    put_refused_leaves (g.R.RpmbPort.state c.args.link.now.host.port) c.args.link.now.host.key (g.E.Entropy.faults c.args.link.now.entropy) c.args.link.now.counter
    c.args.table.now c.args.doubt.now (g.R.RpmbPort.state c.settle.new.link.host.port) c.settle.new.link.host.key (g.E.Entropy.faults c.settle.new.link.entropy)
    c.settle.new.link.counter
    c.settle.new.table c.in_default.ensures.card c.in_default.ensures.key store c.in_default.ensures.knows (g.met.R.RpmbPort.sound c.args.link.now.host.port)
    c.settle.new.doubt (named c.args.app c.args.id) c.args.bytes.now c.in-Err-plan_put.fault c.in_default.ensures.settled c.if-bytes-gt-MAX_CARD_BYTES.false
    c.in-Err-plan_put.ensures
