-- A store as it is shared, and its slots once they are out of their locks.
use Rattle.std.proofs.Common.{append-nil, false, ◌≡◌, ◌∙◌, ◌+◌, ◌-◌, ◌<◌, ℕ, List, [], ◌∷◌, ◌++◌, length, take, get_or, slice_index_or, length-append, sym, ap, subst, inl, arith}
use Rattle.std.proofs.lemmas.List.{get_or-take}
use Rattle.std.proofs.lemmas.List.Elements.{All-push}
use Rattle.std.specs.List.{list_any}
use Rattle.disk_model.specs.Calls.{GoesOn}
use Rattle.disk_model.specs.State.{FileState}
use Rattle.hmac_keys.specs.KeyTable.{rpmb_key}
use Rattle.tee_types.specs.Limits.{IsObjectFile, last_file}
use Rattle.rpmb_card.specs.Port.{PortState}
use Rattle.tee_types.specs.declared.reply.Device.TheVariants.{Card, Dir, File}
use Rattle.store_model.specs.Record.{concerns_file, events_of}
use Rattle.history_seats.specs.Records.{HistoryRecord}
use Rattle.history_seats.specs.Views.{GateView, Sight, SlotView}
use Rattle.core_laws.specs.Stores.{Store}
use Rattle.core_laws.proofs.Mending.{some_same}
use Rattle.quota_store.specs.SlotValues.{SlotValue}
use Rattle.store_commit.specs.Gates.{GateValue}
use Rattle.quota_store.specs.Devices.{Devices}
use Rattle.quota_store.proofs.CountGrowth.{same_file_goes_on, same_port_goes_on}
use Rattle.object_calls.specs.OpeningFiles.{files_of}
use Rattle.object_calls.specs.Opening.{OpeningValue, bench_files, entries_in}
use Rattle.object_calls.specs.Retiring.{IsPlaced}
use Rattle.object_calls.specs.Services.{ServiceValue, slot_for}
use Rattle.object_calls.specs.ServedPhases.{ServesOpening}
use Rattle.run_acts.proofs.Closings.{file_opened}
use Rattle.object_calls.proofs.FirstParts.{none_tagged}
use Rattle.quota_store.specs.Cards.{TellsCard}
use Rattle.quota_store.specs.DeviceCounts.{Rise, counts_of}
use Rattle.quota_store.proofs.Cards.{TellsCard-none}
use Rattle.history_seats.specs.Tags.{AreTagged}
use Rattle.quota_store.specs.Kept.{AreOfSessions, KeepsGate, KeepsSlot}
use Rattle.quota_store.proofs.KeptSlots.{counts-seen}
use Rattle.run_acts.specs.Sharing.{AreKept, opening_devices}

-- ONE SLOT AFTER ANOTHER
module _ (before : Devices) (count : ℕ) (slots : List SlotValue) (kept : AreKept before count slots) where
  pub last_kept : (slot : SlotValue) → 0 < count → slot ≡ slice_index_or slots (count - 1) slot → KeepsSlot before slot []
  last_kept slot some is = subst (λ (s : SlotValue). KeepsSlot before s []) (sym is) (kept (count - 1) slot (omega (arith, some)))

  pub rest_kept : (fewer : ℕ) (rest : List SlotValue) → fewer + 1 ≡ count → rest ≡ take (count - 1) slots → AreKept before fewer rest
  rest_kept fewer rest one is i d within =
      subst (λ (s : SlotValue). KeepsSlot before s [])
      (sym (ap (λ (l : List SlotValue). get_or l i d) is ∙ get_or-take (count - 1) slots i d (omega (arith, within, one))))
      (kept i d (omega (arith, within, one)))

  pub more_kept : (more : ℕ) (slot : SlotValue) (after : List SlotValue) → count ≡ length slots → more ≡ count + 1 → KeepsSlot before slot [] → after ≡ slots ++ slot ∷ [] → AreKept before more after
  more_kept more slot after long one own is i d within =
      let Keeps = λ (s : SlotValue). KeepsSlot before s [] in
      let all = All-push Keeps slots slot (λ k e below. kept k e (omega (arith, long, below))) own in
      subst (λ (l : List SlotValue). Keeps (slice_index_or l i d)) (sym is) (all i d (omega (arith, within, one, long, length-append slots (slot ∷ []))))

-- AS THE STORE IS SHARED
module _ {F R : Type 0} (of_file : F → FileState) (of_port : R → PortState) (store : Store) (o : OpeningValue F R) where
  -- A slot that is free still.
  first_slot_kept : (i : ℕ) → i < last_file → KeepsSlot (opening_devices of_file of_port o) (slot_for store (entries_in o) of_file o.files i) []
  first_slot_kept i within =
      let same : bench_files of_file o (i + 1) ≡ files_of of_file o.files i = file_opened of_file o i within in
      record {
        object = (omega arith, omega (arith, within));
        goes_on = same_file_goes_on (bench_files of_file o (i + 1)) (files_of of_file o.files i) (sym same);
        counted = λ seat is. subst (λ (v : SlotView). Rise (bench_files of_file o (i + 1)).faults (files_of of_file o.files i).faults (counts_of (File (i + 1)) (events_of v.seen) ++ []))
            (ap (λ (x : Sight SlotView). x.knows) (some_same _ seat is)) (inl (ap (λ (file : FileState). file.faults) (sym same)));
      }

  module _ (s : ServiceValue F R) (served : ServesOpening of_file store o s) where
    pub first_gate_kept : KeepsGate of_file of_port store (opening_devices of_file of_port o) s.gate
    first_gate_kept = record {
      sessions = subst (λ (l : List HistoryRecord). AreOfSessions (length store.mounted.applications) (events_of l)) (sym served.view.empty) tt;
      tagged = none_tagged s.gate.journal.knows served.view.empty;
      dir = same_file_goes_on (of_file o.gate.dir.file) (of_file s.gate.gate.dir.file) (ap (λ (g : GateValue F R). of_file g.dir.file) served.gate);
      card = same_port_goes_on (rpmb_key store.keys.huk) (of_port o.gate.host.port) (of_port s.gate.gate.host.port) (ap (λ (g : GateValue F R). of_port g.host.port) served.gate);
      dir_counted = subst (λ (l : List HistoryRecord). Rise (of_file o.gate.dir.file).faults (of_file s.gate.gate.dir.file).faults (counts_of Dir (events_of l))) (sym served.view.empty)
          (inl (ap (λ (g : GateValue F R). (of_file g.dir.file).faults) served.gate));
      card_counted = subst (λ (l : List HistoryRecord). Rise (of_port o.gate.host.port).faults (of_port s.gate.gate.host.port).faults (counts_of Card (events_of l))) (sym served.view.empty)
          (inl (ap (λ (g : GateValue F R). (of_port g.host.port).faults) served.gate));
      card_told = subst (λ (l : List HistoryRecord). TellsCard (rpmb_key store.keys.huk) (of_port o.gate.host.port) (events_of l)) (sym served.view.empty)
          (TellsCard-none (rpmb_key store.keys.huk) (of_port o.gate.host.port));
    }

    pub first_slots_kept : AreKept (opening_devices of_file of_port o) last_file s.slots
    first_slots_kept i d within =
        subst (λ (slot : SlotValue). KeepsSlot (opening_devices of_file of_port o) slot []) (sym (served.slots i d within)) (first_slot_kept i within)

-- AS IT IS CLOSED, its slots in whatever order
module _ (store : Store) (before : Devices) (slots : List SlotValue) (kept : AreKept before (length slots) slots) (view : GateView) (tagged : AreTagged view.all) where
  module _ (file : ℕ) (left : FileState) (placed : IsPlaced store view slots file left) where
    own_kept : KeepsSlot before placed.slot []
    own_kept =
        let among = placed.among in
        subst (λ (slot : SlotValue). KeepsSlot before slot []) among.2 (kept among.0 placed.slot among.1)

    placed_goes_on : GoesOn (before.file file) left
    placed_goes_on =
        subst (λ (f : FileState). GoesOn (before.file file) f) (sym placed.file)
        (subst (λ (number : ℕ). GoesOn (before.file number) placed.slot.file) placed.number own_kept.goes_on)

    -- past what its slot saw no event carries a count of it
    placed_counted : Rise (before.file file).faults left.faults (counts_of (File file) (events_of view.all))
    placed_counted =
        let begins = placed.fits.sees.begins in
        let own : placed.seat.knows.file ≡ file = placed.own.own in
        let lacks : list_any (concerns_file file) begins.rest ≡ false = subst (λ (n : ℕ). list_any (concerns_file n) begins.rest ≡ false) own begins.lacks in
        let seen : List ℕ = counts_of (File file) (events_of placed.seat.knows.seen) in
        let was : Rise (before.file file).faults placed.slot.file.faults (seen ++ []) =
        subst (λ (n : ℕ). Rise (before.file n).faults placed.slot.file.faults (counts_of (File n) (events_of placed.seat.knows.seen) ++ [])) placed.number (own_kept.counted placed.seat placed.is) in
        subst (λ (counts : List ℕ). Rise (before.file file).faults left.faults counts)
        (append-nil seen ∙ sym (counts-seen file placed.seat.knows.seen begins.rest view.all begins.is tagged lacks))
        (subst (λ (f : FileState). Rise (before.file file).faults f.faults (seen ++ [])) (sym placed.file) was)

  module _ (files : ℕ → FileState) (placed : (i : ℕ) → i < last_file → IsPlaced store view slots (i + 1) (files (i + 1))) where
    placed_at : (file : ℕ) → IsObjectFile file → IsPlaced store view slots file (files file)
    placed_at file is =
        let i = file - 1 in
        let same : i + 1 ≡ file = omega (arith, is.0) in
        subst (λ (n : ℕ). IsPlaced store view slots n (files n)) same (placed i (omega (arith, is.0, is.1)))

    pub each_goes_on : (file : ℕ) → IsObjectFile file → GoesOn (before.file file) (files file)
    each_goes_on file is = placed_goes_on file (files file) (placed_at file is)

    pub each_counted : (file : ℕ) → IsObjectFile file → Rise (before.file file).faults (files file).faults (counts_of (File file) (events_of view.all))
    each_counted file is = placed_counted file (files file) (placed_at file is)
