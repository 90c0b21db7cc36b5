-- The create was answered, and the file was given back.
use Rattle.std.proofs.Common.{ap, subst, ℕ, ◌∙◌}
use Rattle.serial_calls.proofs.CreateAnswers.{answered_number}
use Rattle.serial_calls.proofs.create_call.create.Goals as goal
use Rattle.serial_calls.specs.Created.{IsAnsweredOrNot}
use Rattle.serial_calls.specs.FileReserving.{given_back}
use Rattle.serial_calls.specs.Rules.{NewObject, new_object}
use Rattle.call_steps.specs.SlotValues.{SlotValue}

pub returns-clause-creates : goal.returns-clause-creates
returns-clause-creates g c =
    let store = g.L.StoreName.store in
    let of_file = g.F.StoreFile.state in
    let of_port = g.R.RpmbPort.state in
    let gate = c.args.gate.now in
    let slot = c.args.slot.now in
    let was = c.args.session.now in
    let now = c.answer-answer.new.session in
    let behind = c.answer-answer.new.gate in
    let after = c.answer-answer.new.slot.file in
    let object : NewObject = new_object c.args.call in
    let Reliable = g.E.Entropy.is_reliable was.entropy in
    let drew = g.E.Entropy.faults was.entropy in
    let draws = g.E.Entropy.faults now.entropy in
    let answered =
    subst (λ (s : SlotValue). IsAnsweredOrNot of_file of_port store gate behind s.number s.file after was now object c.args.place.now Reliable drew draws c.answer-answer.result) c.slot.view_is
    c.answer-answer.ensures.answered in
    record {
      behind = behind;
      answered = answered;
      given_back =
          c.give_back.ensures
          ∙ ap (λ (n : ℕ). given_back n behind)
          (c.number.ensures ∙ answered_number of_file of_port store gate behind slot.number slot.file after was now object c.args.place.now Reliable drew draws c.answer-answer.result answered);
    }
