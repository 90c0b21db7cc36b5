-- What the call leaves keeps the service whole, and is its answer.
use Rattle.std.proofs.Common.{◌≡◌, ℕ, None, Option, refl, sym, subst, true≢false}
use Rattle.std.specs.Prelude.{IsNone}
use Rattle.core_laws.specs.Shown.{IsPartial}
use Rattle.rpmb_card.specs.Protocol.{last_counter}
use Rattle.serial_calls.specs.ChangeChecks.{AreOnlyRead}
use Rattle.serial_calls.specs.Rising.{devices_in}
use Rattle.serial_calls.specs.Unfailed.{NoneFailed}
use Rattle.tee_types.specs.declared.reply.Reply.{Reply}
use Rattle.serial_calls.specs.GateServed.{IsMisused}
use Rattle.serial_calls.specs.SessionViews.{shown}
use Rattle.object_calls.specs.Calling.{AnswersAtOnceAt, AnswersCall, serving}
use Rattle.object_calls.specs.Services.{ServiceValue}
use Rattle.object_calls.proofs.service.Service.call.Goals as goal
use Rattle.object_calls.proofs.service.Service.call.Goals.{in-Err, in-Ok}

pub invariant_of-self : goal.invariant_of-self
invariant_of-self g c =
    let was = c.self.invariant.0 in
    let done = c.serve.ensures.serves in
    (record { slots_are = done.slots; tagged = done.tagged was.tagged; keyed = was.keyed; few = was.few; opens = was.opens }, c.self.invariant.1, c.self.invariant.2, c.self.invariant.3)

pub returns-clause-answers : goal.returns-clause-answers
returns-clause-answers g c =
    let i = c.self.inside in
    let store = g.L.StoreName.store in
    let of_file = g.F.StoreFile.state in
    let of_port = g.R.RpmbPort.state in
    let faults = g.E.Entropy.faults in
    let was : ServiceValue g.row.F.Denot g.row.R.Denot = record { gate = i.gate; slots = i.slots.items; storage_key = i.storage_key; spare = i.spare } in
    let now : ServiceValue g.row.F.Denot g.row.R.Denot = record { gate = c.serve.new.gate; slots = c.serve.new.slots.items; storage_key = i.storage_key; spare = i.spare } in
    subst
    (λ (s : ServiceValue g.row.F.Denot g.row.R.Denot). AnswersCall of_file of_port faults store s now c.args.session.now c.serve.new.session c.args.call.now c.match-serve.result.place c.match-serve.result.reply)
    c.self.view_is (elim c.match-serve.branch [
      | in-Ok w ↦
          let done = w.in-Ok.ensures.serves in
          subst (λ (p : Option ℕ × Reply). AnswersCall of_file of_port faults store was now c.args.session.now c.serve.new.session c.args.call.now p.0 p.1)
          (λ j. ((sym w.result-is j).place, (sym w.result-is j).reply)) (record { at = done.answers; devices = done.devices; held = done.held; storage_key = refl; spare = refl })
      | in-Err w ↦
          let done = w.in-Err.ensures.serves in
          subst (λ (p : Option ℕ × Reply). AnswersCall of_file of_port faults store was now c.args.session.now c.serve.new.session c.args.call.now p.0 p.1)
          (λ j. ((sym w.result-is j).place, (sym w.result-is j).reply)) (record { at = (refl, done.answers); devices = done.devices; held = done.held; storage_key = refl; spare = refl })
    ])

pub returns-clause-at_once : goal.returns-clause-at_once
returns-clause-at_once g c =
    let i = c.self.inside in
    let was : ServiceValue g.row.F.Denot g.row.R.Denot = record { gate = i.gate; slots = i.slots.items; storage_key = i.storage_key; spare = i.spare } in
    let now : ServiceValue g.row.F.Denot g.row.R.Denot = record { gate = c.serve.new.gate; slots = c.serve.new.slots.items; storage_key = i.storage_key; spare = i.spare } in
    subst
    (λ (s : ServiceValue g.row.F.Denot g.row.R.Denot). IsMisused s.gate (shown s.gate.journal.knows c.args.session.now).state c.args.call.now
    → AnswersAtOnceAt (serving s c.args.session.now) (serving now c.serve.new.session) c.args.call.now c.match-serve.result.place c.match-serve.result.reply)
    c.self.view_is (λ misused. elim c.match-serve.branch [
      | in-Ok w ↦
          subst (λ (p : Option ℕ × Reply). AnswersAtOnceAt (serving was c.args.session.now) (serving now c.serve.new.session) c.args.call.now p.0 p.1)
          (λ j. ((sym w.result-is j).place, (sym w.result-is j).reply)) (w.in-Ok.ensures.at_once misused)
      | in-Err w ↦
          subst (λ (p : Option ℕ × Reply). AnswersAtOnceAt (serving was c.args.session.now) (serving now c.serve.new.session) c.args.call.now p.0 p.1)
          (λ j. ((sym w.result-is j).place, (sym w.result-is j).reply)) (w.in-Err.ensures.at_once misused)
    ])

pub returns-clause-passed : goal.returns-clause-passed
returns-clause-passed g c =
    let i = c.self.inside in
    let of_file = g.F.StoreFile.state in
    let of_port = g.R.RpmbPort.state in
    let faults = g.E.Entropy.faults in
    let was : ServiceValue g.row.F.Denot g.row.R.Denot = record { gate = i.gate; slots = i.slots.items; storage_key = i.storage_key; spare = i.spare } in
    let now : ServiceValue g.row.F.Denot g.row.R.Denot = record { gate = c.serve.new.gate; slots = c.serve.new.slots.items; storage_key = i.storage_key; spare = i.spare } in
    subst
    (λ (s : ServiceValue g.row.F.Denot g.row.R.Denot). IsNone c.match-serve.result.place
    → NoneFailed (devices_in of_file of_port faults (serving s c.args.session.now)) (devices_in of_file of_port faults (serving now c.serve.new.session)))
    c.self.view_is (λ none. elim c.match-serve.branch [
      | in-Ok w ↦ absurd (true≢false (subst (λ (o : Option ℕ). IsNone o) (λ j. (w.result-is j).place) none))
      | in-Err w ↦ w.in-Err.ensures.passed
    ])

pub returns-clause-spent : goal.returns-clause-spent
returns-clause-spent g c =
    let i = c.self.inside in
    let now : ServiceValue g.row.F.Denot g.row.R.Denot = record { gate = c.serve.new.gate; slots = c.serve.new.slots.items; storage_key = i.storage_key; spare = i.spare } in
    subst
    (λ (s : ServiceValue g.row.F.Denot g.row.R.Denot). IsPartial c.args.call.now → s.gate.gate.doubt ≡ None → s.gate.gate.counter ≡ last_counter
    → AreOnlyRead (serving s c.args.session.now) (serving now c.serve.new.session))
    c.self.view_is c.serve.ensures.spent
