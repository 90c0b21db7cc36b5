use Rattle.std.proofs.Common.{◌≡◌, ◌∙◌, ◌≤◌, ℕ, List, [], length, None, refl, sym, ap, subst}
use Rattle.tee_types.specs.Limits.{file_count, last_file}
use Rattle.store_model.specs.declared.event.Event.{Event}
use Rattle.history_seats.specs.Views.{GateView}
use Rattle.core_laws.specs.Stores.{Store}
use Rattle.serial_calls.specs.Journals.{IsJournalOf, JournalValue}
use Rattle.serial_calls.specs.GuardedGates.{GateInvariant, GuardedGateValue}
use Rattle.object_calls.specs.MountLaws.{IsFirstView}
use Rattle.object_calls.specs.OpenedStores.{IsStoreOf}
use Rattle.object_calls.specs.Opening.{OpeningValue}
use Rattle.object_calls.specs.Seats.{IsSplitting}
use Rattle.object_calls.specs.ServedPhases.{ServesOpening}
use Rattle.object_calls.specs.Services.{ServiceValue}
use Rattle.object_calls.proofs.FirstParts.{first_gate, first_journal, first_numbered, first_opens, may_be_first, new-splitting, none_tagged, told_first}
use Rattle.object_calls.proofs.opening.Opening.serve.Goals as goal

pub split_slots-slots-requires-clause-splitting : goal.split_slots-slots-requires-clause-splitting
split_slots-slots-requires-clause-splitting g c =
    subst (λ (v : GateView). IsSplitting g.L.StoreName.store v 1) (sym c.self.invariant.2.knows) (new-splitting g.L.StoreName.store)

pub split_slots-slots-requires-clause-guarded : goal.split_slots-slots-requires-clause-guarded
split_slots-slots-requires-clause-guarded g c =
    let i = c.self.inside in
    let o : OpeningValue g.row.F.Denot g.row.R.Denot =
    record { gate = i.gate; files = i.files.items; spare = i.spare; storage_key = i.storage_key; table = i.table; applications = i.applications.items } in
    let of = subst (IsStoreOf g.F.StoreFile.state g.L.StoreName.store) (sym c.self.view_is) c.requires.store in
    may_be_first g.F.StoreFile.state g.met.F.StoreFile.sound g.L.StoreName.store o c.self.invariant.0 of

pub new-journal-requires : goal.new-journal-requires
new-journal-requires g c =
    let i = c.self.inside in
    let store = g.L.StoreName.store in
    let o : OpeningValue g.row.F.Denot g.row.R.Denot =
    record { gate = i.gate; files = i.files.items; spare = i.spare; storage_key = i.storage_key; table = i.table; applications = i.applications.items } in
    let of = subst (IsStoreOf g.F.StoreFile.state store) (sym c.self.view_is) c.requires.store in
    let seat = c.split_passes.new.seat in
    let told = c.split_passes.ensures.told in
    subst (λ (l : List Event). IsJournalOf store i.table seat l 0) (sym c.new.ensures)
    (first_journal g.F.StoreFile.state g.met.F.StoreFile.sound store o c.self.invariant.0 of i.table seat (sym (ap (λ (s : Store). s.table) of.is)) c.split_passes.ensures.table
    told.undecided (told_first store seat.knows (length store.mounted.applications) told))

pub new-requires-2 : goal.new-requires-2
new-requires-2 g c =
    let i = c.self.inside in
    let store = g.L.StoreName.store in
    let o : OpeningValue g.row.F.Denot g.row.R.Denot =
    record { gate = i.gate; files = i.files.items; spare = i.spare; storage_key = i.storage_key; table = i.table; applications = i.applications.items } in
    let of = subst (IsStoreOf g.F.StoreFile.state store) (sym c.self.view_is) c.requires.store in
    let seat = c.split_passes.new.seat in
    let first = told_first store seat.knows (length store.mounted.applications) c.split_passes.ensures.told in
    subst (λ (v : GateView). GateInvariant store i.gate v None) (sym (ap (λ (j : JournalValue). j.knows) c.new-journal.ensures))
    (first_gate g.F.StoreFile.state g.met.F.StoreFile.sound store o c.self.invariant.0 of seat.knows first)

pub invariant_of-result : goal.invariant_of-result
invariant_of-result g c =
    let i = c.self.inside in
    let store = g.L.StoreName.store in
    let o : OpeningValue g.row.F.Denot g.row.R.Denot =
    record { gate = i.gate; files = i.files.items; spare = i.spare; storage_key = i.storage_key; table = i.table; applications = i.applications.items } in
    let of = subst (IsStoreOf g.F.StoreFile.state store) (sym c.self.view_is) c.requires.store in
    let slots = c.split_slots-slots.result.slots in
    let many : length slots.items ≡ last_file = sym slots.ok.0 ∙ c.split_slots-slots.ensures.many in
    let gate : GuardedGateValue g.row.F.Denot g.row.R.Denot = c.new-2.result in
    let empty : gate.journal.knows.all ≡ [] =
    ap (λ (x : GuardedGateValue g.row.F.Denot g.row.R.Denot). x.journal.knows.all) c.new-2.ensures ∙ ap (λ (j : JournalValue). j.knows.all) c.new-journal.ensures ∙ c.split_passes.ensures.told.empty in (
      record {
        slots_are = record {
          many = many;
          numbered = first_numbered store i.gate.dir.dir.entries g.F.StoreFile.state i.files.items slots.items c.split_slots-slots.ensures.slots many;
        };
        tagged = none_tagged gate.journal.knows empty;
        keyed = of.keyed.storage;
        few = subst (λ (n : ℕ). n ≤ 16) (i.applications.ok.0 ∙ sym (ap (λ (s : Store). length s.mounted.applications) of.is)) c.self.invariant.3;
        opens = first_opens g.F.StoreFile.state g.met.F.StoreFile.sound store o c.self.invariant.0 of;
      },
      c.split_slots-slots.ensures.vacant,
      subst (λ (n : ℕ). file_count ≤ n) (sym c.split_slots-slots.ensures.room) c.self.invariant.1,
      c.in-Ok-free_places.ensures,
    )

pub returns-clause-served : goal.returns-clause-served
returns-clause-served g c =
    let i = c.self.inside in
    let state = g.F.StoreFile.state in
    let store = g.L.StoreName.store in
    let gate : GuardedGateValue g.row.F.Denot g.row.R.Denot = c.new-2.result in
    let seat = c.split_passes.new.seat in
    let told = c.split_passes.ensures.told in
    let knows : gate.journal.knows ≡ seat.knows =
    ap (λ (x : GuardedGateValue g.row.F.Denot g.row.R.Denot). x.journal.knows) c.new-2.ensures ∙ ap (λ (j : JournalValue). j.knows) c.new-journal.ensures in
    let served : ServiceValue g.row.F.Denot g.row.R.Denot = record { gate = gate; slots = c.split_slots-slots.result.slots.items; storage_key = i.storage_key; spare = i.spare } in
    subst (λ (v : OpeningValue g.row.F.Denot g.row.R.Denot). ServesOpening state store v served) c.self.view_is
    (record {
      gate = ap (λ (x : GuardedGateValue g.row.F.Denot g.row.R.Denot). x.gate) c.new-2.ensures;
      view = subst (IsFirstView store) (sym knows) (told_first store seat.knows (length store.mounted.applications) told);
      undecided = ap (λ (v : GateView). v.decided) knows ∙ told.undecided;
      unclosed = ap (λ (x : GuardedGateValue g.row.F.Denot g.row.R.Denot). x.closing) c.new-2.ensures;
      slots = c.split_slots-slots.ensures.slots;
      storage_key = refl;
      spare = refl;
    })
