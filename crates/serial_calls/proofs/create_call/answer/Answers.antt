-- The gate ended the create, of which making the object ended as it did.
use Rattle.std.proofs.Common.{ap, length, subst, sym, ℕ, ◌∙◌, ◌≡◌, ◌≤◌}
use Rattle.call_steps.specs.CallerSessions.{CallerSession}
use Rattle.serial_calls.proofs.CreateAnswers.{finished_answered}
use Rattle.serial_calls.proofs.ClearSlots.{shown_calm}
use Rattle.serial_calls.proofs.create_call.answer.Goals as goal
use Rattle.serial_calls.specs.Created.{IsAnswered, TriedCause}
use Rattle.serial_calls.specs.CreateEnds.{IsFinished}
use Rattle.serial_calls.specs.Rules.{NewObject, new_object}
use Rattle.serial_calls.specs.Seating.{reseated}
use Rattle.disk_model.specs.State.{FileState}
use Rattle.call_steps.specs.GuardedGates.{GuardedGateValue}
use Rattle.call_steps.specs.SlotValues.{SlotValue}

pub returns-clause-answered : goal.returns-clause-answered
returns-clause-answered g c =
    let store = g.L.StoreName.store in
    let of_file = g.F.StoreFile.state in
    let of_port = g.R.RpmbPort.state in
    let faults = g.E.Entropy.faults in
    let gate = c.args.gate.now in
    let slot = c.args.slot.now in
    let was = c.args.session.now in
    let mid = c.make_unless_spent.new.session in
    let now = c.finish.new.session in
    let made = c.make_unless_spent.new.slot in
    let object : NewObject = new_object c.args.call in
    let place = c.args.place.now in
    let Was = g.E.Entropy.is_reliable was.entropy in
    let Mid = g.E.Entropy.is_reliable mid.entropy in
    let shown : c.clear.new.session ≡ was = c.clear.ensures.session ∙ shown_calm store gate.journal.knows was c.requires.calm in
    let drawn : mid ≡ record was { entropy = mid.entropy } = c.make_unless_spent.ensures.session ∙ ap (λ (s : CallerSession g.row.E.Denot). record s { entropy = mid.entropy }) shown in
    let cleared : c.clear.new.slot.number ≡ slot.number = ap (λ (s : SlotValue). s.number) c.clear.ensures.slot in
    let number : made.number ≡ slot.number = ap (λ (s : SlotValue). s.number) c.make_unless_spent.ensures.same ∙ cleared in
    let counter : c.counter-counter.result ≡ gate.gate.counter = c.counter-counter.ensures ∙ ap (λ (x : GuardedGateValue g.row.F.Denot g.row.R.Denot). x.gate.counter) c.clear.ensures.same in
    let cause : TriedCause gate.gate.counter slot.number slot.file made.file Was (faults was.entropy) (faults mid.entropy) c.in_ok-made.made =
    subst
    (λ (p : ℕ × ℕ × FileState × CallerSession g.row.E.Denot). TriedCause p.0 p.1 p.2 made.file (g.E.Entropy.is_reliable p.3.entropy) (faults p.3.entropy) (faults mid.entropy) c.in_ok-made.made)
    (λ i. (counter i, cleared i, ap (λ (s : SlotValue). s.file) c.clear.ensures.slot i, shown i)) c.in_ok-made.ensures.cause in
    let finished : IsFinished of_file of_port store (reseated store slot.number gate) c.finish.new.gate slot.number mid now object place Mid (faults mid.entropy) (faults now.entropy) c.in_ok-made.made c.finish.result =
    subst
    (λ (p : ℕ × GuardedGateValue g.row.F.Denot g.row.R.Denot). IsFinished of_file of_port store (reseated store p.0 p.1) c.finish.new.gate p.0 mid now object place Mid (faults mid.entropy) (faults now.entropy) c.in_ok-made.made c.finish.result)
    (λ i. (number i, c.clear.ensures.same i)) c.finish.ensures.finished in
    let lasts : Was → Mid = subst (λ (s : CallerSession g.row.E.Denot). g.E.Entropy.is_reliable s.entropy → Mid) shown c.make_unless_spent.ensures.draws.reliable in
    subst (λ (f : FileState). IsAnswered of_file of_port store (reseated store slot.number gate) c.finish.new.gate slot.number slot.file f was now object place Was (faults was.entropy) (faults now.entropy) c.finish.result)
    (sym c.finish.ensures.file)
    (finished_answered of_file of_port faults store (reseated store slot.number gate) c.finish.new.gate slot.number slot.file made.file was mid now drawn object place Was Mid lasts c.finish.result
    c.in_ok-made.made finished cause)

pub make_unless_spent-requires-clause-short : goal.make_unless_spent-requires-clause-short
make_unless_spent-requires-clause-short g c = subst (λ (n : NewObject). length n.attributes ≤ 2048) (sym c.of_call-object.ensures) c.requires.may.short

pub make_unless_spent-requires-clause-few : goal.make_unless_spent-requires-clause-few
make_unless_spent-requires-clause-few g c = subst (λ (n : NewObject). length n.bytes ≤ 1044480) (sym c.of_call-object.ensures) c.requires.may.few
