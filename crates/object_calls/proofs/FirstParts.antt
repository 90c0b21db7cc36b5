-- What lies behind each lock as a mounted store is served.
use Rattle.std.proofs.Common.{◌≡◌, ◌+◌, ◌||◌, ℕ, suc, Bool, List, [], length, Option, Some, None, unwrap_or, refl, sym, ap, ◌∙◌, subst, arith, ne_eqb, IfSome}
use Rattle.std.specs.Prelude.{Contains}
use Rattle.disk_model.specs.State.{FileState, Sound, pending}
use Rattle.atomic_table.specs.Seated.{TableId}
use Rattle.hmac_keys.specs.KeyTable.{dir_tsk}
use Rattle.tee_types.specs.Limits.{last_file}
use Rattle.dir_records.specs.declared.entry.DirEntry.{DirEntry}
use Rattle.store_model.specs.Record.{events_of}
use Rattle.history_seats.specs.Changes.{new_pass, new_slot, with_pass_out, with_slot_out}
use Rattle.history_seats.specs.Mounts.{Mounted}
use Rattle.history_seats.specs.Numbers.{is_in}
use Rattle.history_seats.specs.Records.{HistoryRecord}
use Rattle.history_seats.specs.Views.{GateView, Sight, SlotView, new_gate}
use Rattle.core_laws.specs.Opened.{first_view}
use Rattle.core_laws.proofs.Contained.{contains_none}
use Rattle.core_laws.specs.Stores.{Store}
use Rattle.crash_core.specs.declared.change.DoubtedChange.{DoubtedChange}
use Rattle.serial_calls.specs.Journals.{IsJournalOf}
use Rattle.core_laws.specs.Ties.{IsTied}
use Rattle.serial_calls.specs.CurrentFiles.{PutsCurrent}
use Rattle.serial_calls.specs.GuardedGates.{IsClosingTied, GateInvariant}
use Rattle.serial_calls.proofs.Knowing.{directory-entries}
use Rattle.serial_calls.specs.GuardedSlots.{SlotInvariant}
use Rattle.serial_calls.specs.FirstSlots.{first_slot}
use Rattle.serial_calls.specs.SlotValues.{SlotValue, free}
use Rattle.object_calls.specs.Generations.{generation_in}
use Rattle.object_calls.specs.MountLaws.{IsFirstView}
use Rattle.object_calls.specs.MountedStores.{IsMountedStore}
use Rattle.object_calls.proofs.MountedParts.{mounted_slots_are_guarded, mounts_begin_gates}
use Rattle.object_calls.specs.OpeningFiles.{files_of}
use Rattle.object_calls.specs.OpenedStores.{IsStoreOf}
use Rattle.object_calls.specs.Opening.{IsOpening, OpeningValue, bench_files, entries_in}
use Rattle.object_calls.specs.Seats.{HasTold, IsSplitting}
use Rattle.object_calls.specs.Services.{AreFirstSlots, HasSoundOpening, MayBeFirst}
use Rattle.serial_calls.specs.Slots.{AreNumberedSlots, AreOfObjectFiles}
use Rattle.object_calls.proofs.EntriesOf.{form_at}
use Rattle.object_calls.proofs.Files.{numbered_sound, object_numbered}
use Rattle.object_calls.proofs.HonestOpenings.{opens_unchanged}
use Rattle.object_calls.proofs.ObjectMaps.{opening_sound}
use Rattle.store_model.specs.Sound.{IsObjectMap}

-- THE OPENING
module _ {F R : Type 0} (state : F → FileState) (sound : (f : F) → Sound (state f)) (store : Store) (o : OpeningValue F R)
    (opening : IsOpening state o.gate o.files o.storage_key) (of : IsStoreOf state store o) where
  pub mounted_store : IsMountedStore store (bench_files state o) (entries_in o)
  mounted_store = record {
    forms = directory-entries (entries_in o) opening.entries;
    current = opening.entries_current;
    sound = numbered_sound state sound o.spare o.gate.dir.file o.files;
    synced = λ index e at.
        ap pending (object_numbered state o.spare o.gate.dir.file o.files e.file (form_at (entries_in o) opening.entries index e at).file) ∙ opening.synced index e at;
    told = ap (λ (s : Store). s.mounted.entries) of.is;
    objects = ap (λ (s : Store). s.objects) of.is;
    taints = λ file. ap (λ (s : Store). s.taints file) of.is;
  }

  pub first_opens : HasSoundOpening store
  first_opens = record {
    map = subst IsObjectMap (sym mounted_store.objects) (opening_sound store.keys (bench_files state o) mounted_store.sound (entries_in o) opening.entries opening.identified);
    unchanged = opens_unchanged store (bench_files state o) (entries_in o) mounted_store;
  }

  pub may_be_first : MayBeFirst store (entries_in o) state o.files
  may_be_first i within =
      let next : i + 1 ≡ suc i = omega arith in
      let behind : bench_files state o (i + 1) ≡ files_of state o.files i =
      ap (bench_files state o) next ∙ object_numbered state o.spare o.gate.dir.file o.files (suc i) (omega arith, omega (arith, within, opening.whole)) in
      subst (λ (f : FileState). SlotInvariant store (first_slot store (i + 1) (generation_in (entries_in o) (i + 1)) f)) behind
      (mounted_slots_are_guarded store (bench_files state o) (entries_in o) (i + 1) mounted_store)

  pub first_gate : (view : GateView) → IsFirstView store view → GateInvariant store o.gate view None
  first_gate view first =
      let b = mounts_begin_gates store (bench_files state o) (entries_in o) o.gate.open_handles view mounted_store opening.unopened first in
      record {
        journal = b.journal;
        tied = subst (λ (n : ℕ). IsTied store view (entries_in o) n o.gate.doubt) (ap (λ (s : Store). s.counter) of.is)
            (subst (λ (d : Option DoubtedChange). IsTied store view (entries_in o) store.counter d) (sym opening.idle) b.tied);
        handles = λ scenario answered. b.handles scenario;
        closes = subst (λ (d : Option DoubtedChange). IsClosingTied store view d None) (sym opening.idle) refl;
        directory_key = opening.keyed ∙ ap dir_tsk of.keyed.storage;
        card_key = of.keyed.card;
        current = record {
          root = opening.current;
          entries = opening.entries_current;
          put = subst (λ (d : Option DoubtedChange). IfSome d (λ x. PutsCurrent x.change)) (sym opening.idle) tt;
        };
      }

  pub first_journal : (table : TableId) (seat : Sight GateView) → table ≡ store.table → seat.table ≡ store.table → seat.knows.decided ≡ 0 → IsFirstView store seat.knows
      → IsJournalOf store table seat [] 0
  first_journal table seat table_is seat_is undecided first = record {
    table_is = table_is;
    seat_is = seat_is;
    events_are = ap (λ (l : List HistoryRecord). events_of l) (sym first.empty);
    decided_is = sym undecided;
    kept = (first_gate seat.knows first).journal;
  }

-- a history without events has no tag
pub none_tagged : (view : GateView) → view.all ≡ [] → AreOfObjectFiles view.all
none_tagged view empty r file there tag = absurd (contains_none r (subst (λ (l : List HistoryRecord). Contains l r) empty there))

-- THE SEATS
pub new-splitting : (store : Store) → IsSplitting store new_gate 1
new-splitting store = record { mounted = refl; empty = refl; undecided = refl; free = λ n least. refl; alone = refl }

module _ (store : Store) (view : GateView) (number generation : ℕ) (s : IsSplitting store view number) where
  -- a slot that is split knows what the mount tells
  pub split_view : new_slot store.mounted number generation view ≡ first_view store.mounted number generation
  split_view = λ i. record {
    mounted = s.mounted i;
    seen = s.empty i;
    decided = s.undecided i;
    file = number;
    generation = generation;
  }

  abbrev slot_with : (file : FileState) → Sight SlotView → SlotValue
  slot_with file seat = record { number = number; seat = Some seat; file = file; holds = free; doubt = None }

  pub split_slot : (table : TableId) (seat : Sight SlotView) (file : FileState) → table ≡ store.table
      → seat ≡ record { table = table; knows = new_slot store.mounted number generation view } → slot_with file seat ≡ first_slot store number generation file
  split_slot table seat file own is =
      let both : Sight SlotView = record { table = table; knows = new_slot store.mounted number generation view } in
      let first : both ≡ record { table = store.table; knows = first_view store.mounted number generation } = λ i. record { table = own i; knows = split_view i } in
      ap (slot_with file) (is ∙ first)

  pub split_told : HasTold store (with_slot_out store.mounted number view) 0
  split_told = record {
    mounted = ap (λ (m : Mounted). Some m) s.mounted;
    empty = s.empty;
    undecided = s.undecided;
    free = λ n least. ap (is_in n) s.alone;
  }

  pub split_next : IsSplitting store (with_slot_out store.mounted number view) (number + 1)
  split_next = record {
    mounted = s.mounted;
    empty = s.empty;
    undecided = s.undecided;
    free = λ n past. ap (λ (b : Bool). b || is_in n view.files) (ne_eqb number n (λ same. omega (arith, past, same))) ∙ s.free n (omega (arith, past));
    alone = s.alone;
  }

module _ (store : Store) (view : GateView) (number : ℕ) (t : HasTold store view number) where
  pub pass_view : new_pass store.mounted number view ≡ record { mounted = store.mounted; seen = []; decided = 0; session = number }
  pass_view = λ i. record {
    mounted = unwrap_or (t.mounted i) store.mounted;
    seen = t.empty i;
    decided = t.undecided i;
    session = number;
  }

  pub pass_told : HasTold store (with_pass_out store.mounted number view) (number + 1)
  pass_told = record {
    mounted = ap (λ (m : Option Mounted). Some (unwrap_or m store.mounted)) t.mounted;
    empty = t.empty;
    undecided = t.undecided;
    free = λ n past. ap (λ (b : Bool). b || is_in n view.sessions) (ne_eqb number n (λ same. omega (arith, past, same))) ∙ t.free n (omega (arith, past));
  }

pub told_first : (store : Store) (view : GateView) (next : ℕ) → HasTold store view next → IsFirstView store view
told_first store view next t = record { mounted = t.mounted; empty = t.empty }

-- the slots that were split are in order
pub first_numbered : {F : Type 0} (store : Store) (entries : List (Option DirEntry)) (state : F → FileState) (files : List F) (slots : List SlotValue)
    → AreFirstSlots store entries state files last_file slots → length slots ≡ last_file → AreNumberedSlots slots
first_numbered store entries state files slots first many i d within = ap (λ (s : SlotValue). s.number) (first i d (omega (arith, within, many)))
