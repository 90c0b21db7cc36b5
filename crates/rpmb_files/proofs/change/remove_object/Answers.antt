use Rattle.std.proofs.Common.{ℕ, List, [], IfErr, refl, sym, subst, arith}
use Rattle.card_maps.specs.declared.change.TableChange.TheVariants.{Remove}
use Rattle.card_maps.specs.Tables.{named}
use Rattle.rpmb_files.specs.Causes.{NoCard, NoCardAt}
use Rattle.rpmb_files.specs.Devices.{Devices, GoesOn, devices}
use Rattle.rpmb_files.specs.Replies.{FaultCause}
use Rattle.rpmb_files.proofs.Changing.{absent_leaves, change_cause, known, remove_leaves, remove_store, spent_leaves}
use Rattle.rpmb_files.proofs.Ends.{moved_card}
use Rattle.rpmb_files.proofs.Exchanged.{written_settled}
use Rattle.rpmb_files.proofs.Exchanges.{goes_then}
use Rattle.rpmb_files.proofs.change.remove_object.Goals as goal

pub returns-in_default-find-clause-leaves : goal.returns-in_default-find-clause-leaves
returns-in_default-find-clause-leaves g c store =
    absent_leaves (g.R.RpmbPort.state c.args.link.now.host.port) c.args.link.now.host.key (g.E.Entropy.faults c.args.link.now.entropy) c.args.link.now.counter
    c.args.table.now c.args.doubt.now (g.R.RpmbPort.state c.settle.new.link.host.port) c.settle.new.link.host.key (g.E.Entropy.faults c.settle.new.link.entropy)
    c.settle.new.link.counter
    c.settle.new.table c.in_default.ensures.card c.in_default.ensures.key store c.in_default.ensures.knows (g.met.R.RpmbPort.sound c.args.link.now.host.port)
    c.settle.new.doubt (named c.args.app c.args.id) c.in_default.ensures.settled (sym c.in_default-find.ensures)

pub returns-then-link-clause-leaves : goal.returns-then-link-clause-leaves
returns-then-link-clause-leaves g c store =
    spent_leaves (g.R.RpmbPort.state c.args.link.now.host.port) c.args.link.now.host.key (g.E.Entropy.faults c.args.link.now.entropy) c.args.link.now.counter
    c.args.table.now c.args.doubt.now (g.R.RpmbPort.state c.settle.new.link.host.port) c.settle.new.link.host.key (g.E.Entropy.faults c.settle.new.link.entropy)
    c.settle.new.link.counter
    c.settle.new.table c.in_default.ensures.card c.in_default.ensures.key store c.in_default.ensures.knows (g.met.R.RpmbPort.sound c.args.link.now.host.port)
    c.settle.new.doubt (named c.args.app c.args.id) c.in-Some.at c.in_default.ensures.settled (sym c.in-Some.ensures) c.if-link.true

pub returns-clause-leaves : goal.returns-clause-leaves
returns-clause-leaves g c store =
    remove_leaves (g.R.RpmbPort.state c.args.link.now.host.port) c.args.link.now.host.key (g.E.Entropy.faults c.args.link.now.entropy) c.args.link.now.counter
    c.args.table.now c.args.doubt.now (g.R.RpmbPort.state c.settle.new.link.host.port) c.settle.new.link.host.key (g.E.Entropy.faults c.settle.new.link.entropy)
    c.settle.new.link.counter
    c.settle.new.table c.in_default.ensures.card c.in_default.ensures.key store c.in_default.ensures.knows (g.met.R.RpmbPort.sound c.args.link.now.host.port)
    (g.R.RpmbPort.state c.make.new.link.host.port) c.make.new.link.host.key (g.E.Entropy.faults c.make.new.link.entropy) c.make.new.link.counter c.make.new.table
    c.settle.new.doubt c.make.new.doubt c.make.result (g.met.R.RpmbPort.sound c.make.new.link.host.port)
    c.in_default.ensures.settled c.make.ensures.key (Remove c.in-Some.at) [] (named c.args.app c.args.id) c.make.ensures.makes c.in-Some.at refl (sym c.in-Some.ensures)
    (omega arith)

pub returns-clause-store : goal.returns-clause-store
returns-clause-store g c store =
    remove_store (g.R.RpmbPort.state c.args.link.now.host.port) c.args.link.now.host.key (g.E.Entropy.faults c.args.link.now.entropy) c.args.link.now.counter
    c.args.table.now c.args.doubt.now (g.R.RpmbPort.state c.settle.new.link.host.port) c.settle.new.link.host.key (g.E.Entropy.faults c.settle.new.link.entropy)
    c.settle.new.link.counter
    c.settle.new.table c.in_default.ensures.card c.in_default.ensures.key store c.in_default.ensures.knows (g.met.R.RpmbPort.sound c.args.link.now.host.port)
    (g.R.RpmbPort.state c.make.new.link.host.port) c.make.new.link.host.key (g.E.Entropy.faults c.make.new.link.entropy) c.make.new.link.counter c.make.new.table
    c.settle.new.doubt c.make.new.doubt c.make.result (g.met.R.RpmbPort.sound c.make.new.link.host.port)
    c.in_default.ensures.settled c.make.ensures.key (Remove c.in-Some.at) [] (named c.args.app c.args.id) c.make.ensures.makes c.in-Some.at refl (sym c.in-Some.ensures)
    (omega arith)
    (λ card has. c.make.ensures.goes_on.was card (moved_card (g.R.RpmbPort.state c.make.new.link.host.port) (g.R.RpmbPort.state c.make.new.link.host.port) c.make.new.link.host.key c.settle.new.link.host.key card refl (sym c.make.ensures.key) has))

pub returns-clause-cause : goal.returns-clause-cause
returns-clause-cause g c store =
    let old : Devices = devices (g.R.RpmbPort.state c.args.link.now.host.port) (g.E.Entropy.faults c.args.link.now.entropy) in
    let mid : Devices = devices (g.R.RpmbPort.state c.settle.new.link.host.port) (g.E.Entropy.faults c.settle.new.link.entropy) in
    let new : Devices = devices (g.R.RpmbPort.state c.make.new.link.host.port) (g.E.Entropy.faults c.make.new.link.entropy) in
    change_cause (NoCard c.args.link.now.host.key old) (NoCardAt c.args.link.now.host.key c.settle.new.link.counter mid) c.args.link.now.host.key old mid new c.make.result
    c.in_default.ensures.goes_on
    (λ none card has.
    none card
    (moved_card (g.R.RpmbPort.state c.args.link.now.host.port) (g.R.RpmbPort.state c.settle.new.link.host.port) c.args.link.now.host.key c.args.link.now.host.key card c.in_default.ensures.card refl has)
    (known (g.R.RpmbPort.state c.args.link.now.host.port) c.args.link.now.host.key (g.E.Entropy.faults c.args.link.now.entropy) c.args.link.now.counter c.args.table.now c.args.doubt.now (g.R.RpmbPort.state c.settle.new.link.host.port) c.settle.new.link.host.key (g.E.Entropy.faults c.settle.new.link.entropy) c.settle.new.link.counter
    c.settle.new.table c.in_default.ensures.card c.in_default.ensures.key store c.in_default.ensures.knows (g.met.R.RpmbPort.sound c.args.link.now.host.port) card has).1)
    (subst (λ (k : List ℕ). IfErr c.make.result (FaultCause (NoCardAt k c.settle.new.link.counter mid) k mid new)) c.in_default.ensures.key c.make.ensures.cause)

pub returns-clause-goes_on : goal.returns-clause-goes_on
returns-clause-goes_on g c =
    let old : Devices = devices (g.R.RpmbPort.state c.args.link.now.host.port) (g.E.Entropy.faults c.args.link.now.entropy) in
    let mid : Devices = devices (g.R.RpmbPort.state c.settle.new.link.host.port) (g.E.Entropy.faults c.settle.new.link.entropy) in
    let new : Devices = devices (g.R.RpmbPort.state c.make.new.link.host.port) (g.E.Entropy.faults c.make.new.link.entropy) in
    goes_then c.args.link.now.host.key old mid new c.in_default.ensures.goes_on (subst (λ (k : List ℕ). GoesOn k mid new) c.in_default.ensures.key c.make.ensures.goes_on)

pub returns-clause-exchanges : goal.returns-clause-exchanges
returns-clause-exchanges g c store none =
    let same = (c.in_default.ensures.idle none).0 in
    written_settled (g.R.RpmbPort.state c.args.link.now.host.port) (g.R.RpmbPort.state c.settle.new.link.host.port) (g.R.RpmbPort.state c.make.new.link.host.port)
    c.args.link.now.host.key c.settle.new.link.host.key c.args.link.now.counter c.settle.new.link.counter
    1 1 c.args.table.now c.args.doubt.now c.make.result
    (λ i. g.R.RpmbPort.state (same i).host.port) c.in_default.ensures.key (λ i. (same i).counter) refl store none c.make.ensures.exchanges
