-- The slot that was shown the history stands at the entry.
use Rattle.std.proofs.Common.{ap, ◌∙◌}
use Rattle.history_seats.specs.Records.{Version}
use Rattle.object_slots.specs.SlotValues.{SlotValue}
use Rattle.call_steps.proofs.CalmSessions.{shown-same}
use Rattle.call_steps.proofs.Meetings.{at-entry, gives-entry, met-still}
use Rattle.call_steps.specs.SlotCatchUp.{IsAtEntry}
use Rattle.call_steps.proofs.slot_catch_up.catch_up_entry.Goals as goal

pub returns-clause-number : goal.returns-clause-number
returns-clause-number g c = ap (λ (s : SlotValue). s.number) c.catch_up_slot.ensures.slot ∙ (met-still c.args.gate.now.journal.knows c.args.slot.now).number

pub returns-clause-file : goal.returns-clause-file
returns-clause-file g c = ap (λ (s : SlotValue). s.file) c.catch_up_slot.ensures.slot ∙ (met-still c.args.gate.now.journal.knows c.args.slot.now).file

pub returns-clause-at : goal.returns-clause-at
returns-clause-at g c =
    let gate = c.args.gate.now in
    let number = ap (λ (s : SlotValue). s.number) c.catch_up_slot.ensures.slot ∙ (met-still gate.journal.knows c.args.slot.now).number in
    at-entry g.L.StoreName.store gate.gate gate.journal.knows gate.closing c.reveal_invariant.ensures.guarded c.requires.idle c.requires.entry.0 c.args.entry.now c.requires.entry.1 c.catch_up_slot.new.slot
    c.catch_up_slot.ensures.guarded c.catch_up_slot.ensures.whole_slot (number ∙ c.requires.file) c.catch_up_slot.ensures.sound

pub returns-clause-given : goal.returns-clause-given
returns-clause-given g c =
    let gate = c.args.gate.now in
    let store = g.L.StoreName.store in
    let slot = c.catch_up_slot.new.slot in
    let e = c.args.entry.now in
    let number = ap (λ (s : SlotValue). s.number) c.catch_up_slot.ensures.slot ∙ (met-still gate.journal.knows c.args.slot.now).number in
    let at : (v : Version) × IsAtEntry gate.journal.knows slot e v =
    at-entry store gate.gate gate.journal.knows gate.closing c.reveal_invariant.ensures.guarded c.requires.idle c.requires.entry.0 e c.requires.entry.1 slot
    c.catch_up_slot.ensures.guarded c.catch_up_slot.ensures.whole_slot (number ∙ c.requires.file) c.catch_up_slot.ensures.sound in
    gives-entry gate.journal.knows slot e at.0 store c.catch_up_slot.ensures.guarded at.1

pub returns-clause-form : goal.returns-clause-form
returns-clause-form g c = c.reveal_invariant.ensures.entries.forms c.requires.entry.0 c.args.entry.now c.requires.entry.1

pub returns-clause-current : goal.returns-clause-current
returns-clause-current g c = c.reveal_invariant.ensures.guarded.current.entries c.requires.entry.0 c.args.entry.now c.requires.entry.1

pub returns-clause-calm : goal.returns-clause-calm
returns-clause-calm g c = λ calmly. c.catch_up_slot.ensures.session ∙ shown-same g.L.StoreName.store c.args.gate.now.journal.knows c.args.session.now calmly
