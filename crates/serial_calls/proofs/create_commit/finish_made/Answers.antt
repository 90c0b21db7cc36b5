-- What was made was brought to the gate, or let go.
use Rattle.std.proofs.Common.{ap, subst, sym, ℕ, ◌∙◌}
use Rattle.serial_calls.proofs.create_commit.finish_made.Goals as goal
use Rattle.serial_calls.specs.CreateEnds.{IsCommittableAs}
use Rattle.serial_calls.specs.CreateEnds.IsCommittableOrSpent.{Committable}
use Rattle.serial_calls.specs.Rules.{NewObject, new_object}
use Rattle.crash_core.specs.EntryLists.{IsUnnamed}
use Rattle.call_steps.specs.GuardedGates.{GuardedGateValue}
use Rattle.call_steps.specs.Fits.{FitsGate}
use Rattle.call_steps.specs.SlotValues.{SlotValue}
use Rattle.rpmb_card.specs.Protocol.{last_counter}
use Rattle.std.specs.Prelude.{◌<◌}

pub returns-then-counter-lt4294967295-clause-finished : goal.returns-then-counter-lt4294967295-clause-finished
returns-then-counter-lt4294967295-clause-finished g c =
    let object : NewObject = new_object c.args.call in
    let was = c.args.session.now in
    let now = c.commit_created.new.session in
    Committable
    (subst
    (λ (p : GuardedGateValue g.row.F.Denot g.row.R.Denot × ℕ). IsCommittableAs g.F.StoreFile.state g.R.RpmbPort.state g.L.StoreName.store p.0 c.commit_created.new.gate p.1 was now object c.args.place.now
    (g.E.Entropy.is_reliable was.entropy) (g.E.Entropy.faults was.entropy) (g.E.Entropy.faults now.entropy) c.args.root c.commit_created.result)
    (λ i. (c.reseat.ensures.gate i, ap (λ (s : SlotValue). s.number) c.reseat.ensures.same i)) c.commit_created.ensures.committable)
    (subst (λ (n : ℕ). n < last_counter) c.counter.ensures c.if-counter-lt4294967295.true)

pub tell-requires-clause-unnamed : goal.tell-requires-clause-unnamed
tell-requires-clause-unnamed g c =
    subst (IsUnnamed c.args.gate.now.gate.dir.dir.entries) (sym (ap (λ (s : SlotValue). s.number) c.give_up.ensures.slot)) c.requires.reserved.unnamed

pub returns-clause-agreed : goal.returns-clause-agreed
returns-clause-agreed g c =
    let told : FitsGate c.args.gate.now.journal.knows c.give_up.new.slot = c.tell.ensures.agreed in
    record { seat = told.seat; is = sym (ap (λ (s : SlotValue). s.seat) c.give_up.ensures.slot) ∙ told.is; fits = told.fits; sound = told.sound }
