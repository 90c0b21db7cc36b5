-- What the call leaves keeps the service whole, and is its answer.
use Rattle.std.proofs.Common.{OnErr, refl, subst}
use Rattle.serial_calls.specs.QuotaCallers.{answer_in}
use Rattle.serial_calls.specs.Rising.{devices_in}
use Rattle.serial_calls.specs.Unfailed.{NoneFailed}
use Rattle.object_calls.specs.Calling.{AnswersWithin, serving}
use Rattle.object_calls.specs.Services.{ServiceValue}
use Rattle.object_calls.proofs.service.Service.call_within.Goals as goal

pub invariant_of-self : goal.invariant_of-self
invariant_of-self g c =
    let was = c.self.invariant.0 in
    let done = c.serve_within.ensures.serves in
    (record { slots_are = done.slots; tagged = done.tagged was.tagged; keyed = was.keyed; few = was.few; opens = was.opens }, c.self.invariant.1, c.self.invariant.2, c.self.invariant.3)

pub returns-clause-answers : goal.returns-clause-answers
returns-clause-answers g c =
    let i = c.self.inside in
    let done = c.serve_within.ensures.serves in
    let now : ServiceValue g.row.F.Denot g.row.R.Denot = record { gate = c.serve_within.new.gate; slots = c.serve_within.new.slots.items; storage_key = i.storage_key; spare = i.spare } in
    subst
    (λ (s : ServiceValue g.row.F.Denot g.row.R.Denot). AnswersWithin g.F.StoreFile.state g.R.RpmbPort.state g.E.Entropy.faults {X = Unit {0}} g.L.StoreName.store s now c.args.session.now c.serve_within.new.session c.args.call.now
    (answer_in c.serve_within.result))
    c.self.view_is (record { at = done.answers; devices = done.devices; held = done.held; storage_key = refl; spare = refl })

pub returns-clause-passed : goal.returns-clause-passed
returns-clause-passed g c =
    let i = c.self.inside in
    let of_file = g.F.StoreFile.state in
    let of_port = g.R.RpmbPort.state in
    let faults = g.E.Entropy.faults in
    let now : ServiceValue g.row.F.Denot g.row.R.Denot = record { gate = c.serve_within.new.gate; slots = c.serve_within.new.slots.items; storage_key = i.storage_key; spare = i.spare } in
    subst
    (λ (s : ServiceValue g.row.F.Denot g.row.R.Denot). OnErr (answer_in c.serve_within.result)
    (NoneFailed (devices_in of_file of_port faults (serving s c.args.session.now)) (devices_in of_file of_port faults (serving now c.serve_within.new.session))))
    c.self.view_is c.serve_within.ensures.passed
