-- The attempt follows the validation at the gate. The session that noted the file is as it was.
use Rattle.std.proofs.Common.{ℕ, subst, sym, Ok}
use Rattle.shared_calls.specs.CallerSessions.{CallerSession, IsCallerOf}
use Rattle.shared_calls.specs.Devices.{DrawsOn, Grows}
use Rattle.shared_calls.specs.declared.validation.Validation.{Validation}
use Rattle.shared_calls.specs.SessionEvents.{IsWaiting}
use Rattle.shared_calls.specs.Validations.{EndsLook}
use Rattle.shared_calls.proofs.CarriedAttempts.{attempt-grown}
use Rattle.shared_calls.proofs.CountGrowth.{draws_then}
use Rattle.shared_calls.proofs.Waiting.{ends-then}
use Rattle.shared_store.proofs.store.SharedStore.try_once.Goals as goal

pub attempt-requires-clause-caller : goal.attempt-requires-clause-caller
attempt-requires-clause-caller g c =
    let store = g.L.StoreName.store in
    let was = c.args.session.now in
    let between = c.file_of.new.session in
    let waits : IsWaiting store was between =
    subst (λ (x : Validation ℕ). EndsLook {X = Unit {0}} store was between c.args.call.now (Ok x)) c.in-Found.is c.in_ok-answer.ensures.ends in
    subst (IsCallerOf store) (sym c.note_file.ensures) waits.caller

pub returns-in_default-clause-ends : goal.returns-in_default-clause-ends
returns-in_default-clause-ends g c =
    let store = g.L.StoreName.store in
    let was = c.args.session.now in
    let between = c.file_of.new.session in
    subst (λ (s : CallerSession g.row.E.Denot). IsWaiting store was s) (sym c.note_file.ensures)
    (subst (λ (x : Validation ℕ). EndsLook {X = Unit {0}} store was between c.args.call.now (Ok x)) c.in-Found.is c.in_ok-answer.ensures.ends)

pub returns-clause-ends : goal.returns-clause-ends
returns-clause-ends g c =
    let store = g.L.StoreName.store in
    let call = c.args.call.now in
    let was = c.args.session.now in
    let between = c.file_of.new.session in
    ends-then store was c.note_file.new.session c.attempt.new.session
    (subst (λ (s : CallerSession g.row.E.Denot). IsWaiting store was s) (sym c.note_file.ensures)
    (subst (λ (x : Validation ℕ). EndsLook {X = Unit {0}} store was between call (Ok x)) c.in-Found.is c.in_ok-answer.ensures.ends))
    call c.attempt.result c.attempt.ensures.ends

pub returns-clause-draws : goal.returns-clause-draws
returns-clause-draws g c =
    let reliable = g.E.Entropy.is_reliable in
    let faults = g.E.Entropy.faults in
    let was = c.args.session.now.entropy in
    draws_then reliable faults was c.note_file.new.session.entropy c.attempt.new.session.entropy
    (subst (λ (s : CallerSession g.row.E.Denot). DrawsOn reliable faults was s.entropy) (sym c.note_file.ensures) c.file_of.ensures.draws) c.attempt.ensures.draws

pub returns-clause-drawn : goal.returns-clause-drawn
returns-clause-drawn g c =
    let was = g.E.Entropy.faults c.args.session.now.entropy in
    let between = g.E.Entropy.faults c.note_file.new.session.entropy in
    attempt-grown was between (g.E.Entropy.faults c.attempt.new.session.entropy) c.attempt.result
    (subst (λ (s : CallerSession g.row.E.Denot). Grows was (g.E.Entropy.faults s.entropy)) (sym c.note_file.ensures) c.file_of.ensures.draws.counted) c.attempt.ensures.drawn
