-- A slot that is shown the whole history.
use Rattle.std.proofs.Common.{◌≡◌, ◌+◌, ◌<◌, ◌∷◌, ℕ, List, length, Bool, true, false, cond, drop, nat_lt, Option, Some, None, inl, refl, sym, ap, ◌∙◌, subst, arith, length-append}
use Rattle.store_model.specs.declared.event.Event.{Event}
use Rattle.dir_records.specs.declared.entry.DirEntry.{DirEntry}
use Rattle.history_seats.specs.Changes.{seat_renewed, slot_renewed}
use Rattle.history_seats.specs.Directory.{given_version}
use Rattle.history_seats.specs.Mounts.{Mounted}
use Rattle.history_seats.specs.Records.{HistoryRecord, Version}
use Rattle.history_seats.specs.Rule.{IsSound, SlotFits}
use Rattle.history_seats.specs.Settling.{IsOpenDoubt, calm, is_landing, settling}
use Rattle.history_seats.specs.Views.{GateView, Sight, SlotView}
use Rattle.history_seats.proofs.KnownEntries.{calm-stays}
use Rattle.core_laws.specs.GateParts.{IsVersionOf}
use Rattle.crash_core.specs.EntryLists.{entry_at}
use Rattle.commit_gate.specs.declared.DoubtedChange.{DoubtedChange}
use Rattle.commit_gate.specs.Gates.{GateValue}
use Rattle.core_laws.specs.Stores.{Store}
use Rattle.core_laws.specs.Ties.{IsDoubtTied}
use Rattle.object_slots.specs.SlotValues.{SlotValue}
use Rattle.object_slots.specs.KnownFor.{own_version}
use Rattle.object_slots.specs.Fills.{GivesEntry}
use Rattle.object_slots.specs.Fits.{SeesWhole}
use Rattle.object_slots.specs.Learning.{decided_slot, dropped_slot, landed_slot, learned, shown}
use Rattle.object_slots.specs.GuardedSlots.{IsContentOf, IsInDoubt, SlotInvariant, IsSettled, IsSlotOf}
use Rattle.object_slots.specs.GuardedReads.{GivesVersion}
use Rattle.object_slots.proofs.Contents.{calm_same, gives_seat, seat_same, settled_now, some_same}
use Rattle.object_slots.proofs.KnownOnes.{known_one}
use Rattle.object_slots.proofs.Learned.{slots_learn}
use Rattle.commit_gate.specs.declared.guarded_gate.Closing.{Closing}
use Rattle.commit_gate.specs.GuardedGates.{GateInvariant}
use Rattle.call_steps.specs.SlotCatchUp.{IsAtEntry, StillGives, met}

-- its seat, and what the slot shows by it
pub own-seat : (store : Store) (slot : SlotValue) (seat : Sight SlotView) → slot.seat ≡ Some seat → SlotInvariant store slot → IsSlotOf store slot.number slot.file seat
own-seat store slot seat is guarded = subst (IsSlotOf store slot.number slot.file) (seat_same guarded.seat seat (sym guarded.is ∙ is)) guarded.own

content-seat : (store : Store) (slot : SlotValue) (seat : Sight SlotView) → slot.seat ≡ Some seat → (guarded : SlotInvariant store slot) → IsContentOf store.keys slot.file seat.knows slot.holds slot.doubt
content-seat store slot seat is guarded =
    subst (λ (s : Sight SlotView). IsContentOf store.keys slot.file s.knows slot.holds slot.doubt) (seat_same guarded.seat seat (sym guarded.is ∙ is)) guarded.content

-- the event of its doubt stands in the history
module _ (store : Store) (gate : GateView) (slot : SlotValue) (seat : Sight SlotView) (is : slot.seat ≡ Some seat) (fits : SlotFits gate seat.knows) (guarded : SlotInvariant store slot) where
  pub doubt-below : (place : ℕ) → slot.doubt ≡ Some place → place < length gate.all
  doubt-below place has =
      let doubted : IsInDoubt store.keys slot.file seat.knows slot.holds place =
      subst (IsContentOf store.keys slot.file seat.knows slot.holds) has (content-seat store slot seat is guarded) in
      omega (
        arith,
        doubted.at,
        sym (length-append doubted.doubt.front (doubted.doubt.doubted ∷ doubted.doubt.back)) ∙ ap length doubted.doubt.is,
        sym (length-append seat.knows.seen fits.sees.begins.rest) ∙ ap length fits.sees.begins.is,
      )

  pub met-guarded : SlotInvariant store (met gate slot)
  met-guarded = slots_learn store gate slot seat is fits guarded

-- number, seat and file stay with the slot, whatever becomes of its doubt
pub record IsStill (old new : SlotValue) : Type 0 where
  pub number : new.number ≡ old.number
  pub seat : new.seat ≡ old.seat
  pub file : new.file ≡ old.file

by_landing : (slot : SlotValue) (landed : Bool) → IsStill slot (cond landed (landed_slot slot) (dropped_slot slot))
by_landing slot true = record { number = refl; seat = refl; file = refl }
by_landing slot false = record { number = refl; seat = refl; file = refl }

by_event : (slot : SlotValue) (event : Option Event) (below : Bool) → IsStill slot (decided_slot event below slot)
by_event slot None true = record { number = refl; seat = refl; file = refl }
by_event slot None false = record { number = refl; seat = refl; file = refl }
by_event slot (Some event) below = by_landing slot (is_landing event)

by_doubt : (gate : GateView) (slot : SlotValue) (doubt : Option ℕ) → IsStill slot (learned gate doubt slot)
by_doubt gate slot None = record { number = refl; seat = refl; file = refl }
by_doubt gate slot (Some place) = by_event slot (settling (drop (place + 1) gate.all)) (nat_lt place gate.decided)

pub met-still : (gate : GateView) (slot : SlotValue) → IsStill (shown gate slot) (met gate slot)
met-still gate slot = by_doubt gate (shown gate slot) slot.doubt

-- so it sees the whole history
pub met-sees : (gate : GateView) (slot : SlotValue) (seat : Sight SlotView) → slot.seat ≡ Some seat → SeesWhole gate (met gate slot)
met-sees gate slot seat is = record {
  seat = record seat { knows = slot_renewed gate seat.knows };
  is = (met-still gate slot).seat ∙ ap (seat_renewed gate) is;
  whole = refl;
}

-- A slot that gives a version is in no doubt: so it is shown the history alone, and gives the version still.
module _ (store : Store) (gate : GateView) (slot : SlotValue) (seat : Sight SlotView) (is : slot.seat ≡ Some seat) (fits : SlotFits gate seat.knows) (guarded : SlotInvariant store slot) (v : Version)
    (gives : GivesVersion slot v) where
  not-doubted : slot.doubt ≡ None
  not-doubted = (settled_now store.keys slot.file guarded.seat.knows v (gives_seat store slot v guarded gives) slot.holds slot.doubt guarded.content).0

  stays : own_version (slot_renewed gate seat.knows) ≡ calm (Some v)
  stays = calm-stays gate seat.knows fits (Some v) (ap (λ (s : Sight SlotView). own_version s.knows) (seat_same seat gives.seat (sym is ∙ gives.is)) ∙ gives.gives)

  pub met-gives : StillGives slot (met gate slot) v
  met-gives = record {
    gives = record { seat = record seat { knows = slot_renewed gate seat.knows }; is = (met-still gate slot).seat ∙ ap (seat_renewed gate) is; gives = stays };
    same =
        ap (λ (d : Option ℕ). learned gate d (shown gate slot)) not-doubted
        ∙ ap (λ (s : Option (Sight SlotView)). record slot { seat = s }) (sym (met-still gate slot).seat);
  }

-- A slot gives one version.
pub gives-one : (slot : SlotValue) (v w : Version) → GivesVersion slot v → GivesVersion slot w → v ≡ w
gives-one slot v w first second =
    let one : first.seat ≡ second.seat = seat_same first.seat second.seat (sym first.is ∙ second.is) in
    some_same v w (calm_same (Some v) (Some w) (sym first.gives ∙ ap (λ (s : Sight SlotView). own_version s.knows) one ∙ second.gives))

-- Where the gate has no doubt, a slot that sees the whole history has none.
module _ (store : Store) (gate : GateView) (slot : SlotValue) (guarded : SlotInvariant store slot) (sees : SeesWhole gate slot) (closed : (number : ℕ) → IsOpenDoubt number gate.decided gate.all → ⊥) where
  none_open : (doubt : Option ℕ) → IsContentOf store.keys slot.file sees.seat.knows slot.holds doubt → doubt ≡ None
  none_open None content = refl
  none_open (Some place) content =
      let z : sees.seat.knows.decided ≡ gate.decided = ap (λ (v : SlotView). v.decided) (sym sees.whole) in
      let all : sees.seat.knows.seen ≡ gate.all = ap (λ (v : SlotView). v.seen) (sym sees.whole) in
      absurd (closed content.commit (subst (λ (p : ℕ × List HistoryRecord). IsOpenDoubt content.commit p.0 p.1) (λ i. (z i, all i)) content.doubt))

  pub seen-settled : slot.doubt ≡ None
  seen-settled = none_open slot.doubt (content-seat store slot sees.seat sees.is guarded)

-- a doubt of the gate's, if there is none
pub none-open : (store : Store) (knows : GateView) (entries : List (Option DirEntry)) (doubt : Option DoubtedChange) → doubt ≡ None → IsDoubtTied store knows entries doubt
    → (number : ℕ) → IsOpenDoubt number knows.decided knows.all → ⊥
none-open store knows entries doubt none tied = subst (λ (o : Option DoubtedChange). IsDoubtTied store knows entries o) none tied

-- A slot of an entry's file that sees the whole history, by which no doubt is open: its view gives the entry's version.
module _ (store : Store) (gate : GateView) (slot : SlotValue) (guarded : SlotInvariant store slot) (sees : SeesWhole gate slot) (settled : slot.doubt ≡ None) (e : DirEntry) (v : Version)
    (file : slot.number ≡ e.file) (given : given_version store.mounted gate.all e.file e.generation ≡ Some v) (is : IsVersionOf e v) where
  abbrev view : SlotView
  view = sees.seat.knows

  own : IsSlotOf store slot.number slot.file sees.seat
  own = own-seat store slot sees.seat sees.is guarded

  seen_all : view.seen ≡ gate.all
  seen_all = ap (λ (w : SlotView). w.seen) (sym sees.whole)

  of_file : view.file ≡ e.file
  of_file = own.own ∙ file

  told : given_version view.mounted view.seen view.file e.generation ≡ Some v
  told = (λ i. given_version (own.mounted i) (seen_all i) (of_file i) e.generation) ∙ given

  generation-is : e.generation ≡ view.generation
  generation-is = own.single e.generation v (inl told)

  there : given_version view.mounted view.seen view.file view.generation ≡ Some v
  there = ap (given_version view.mounted view.seen view.file) (sym generation-is) ∙ told

  content : IsSettled store.keys slot.file view slot.holds
  content = subst (IsContentOf store.keys slot.file view slot.holds) settled (content-seat store slot sees.seat sees.is guarded)

  gives : own_version view ≡ calm (Some v)
  gives = content.gives ∙ ap (λ (o : Option Version). calm o) (known_one view content.version content.gives own.single v (inl (view.generation, there)))

  pub stands-at : IsSound gate → IsAtEntry gate slot e v
  stands-at sound = record {
    sound = sound;
    file = file;
    settled = settled;
    sees = sees;
    generation = sym generation-is;
    gives = record { seat = sees.seat; is = sees.is; gives = gives };
    given = ap (λ (m : Mounted). given_version m gate.all e.file e.generation) own.mounted ∙ given;
    own = is;
  }

-- So the slot stands at the entry, by its version.
pub at-entry : {F R : Type 0} (store : Store) (gate : GateValue F R) (knows : GateView) (closing : Option Closing) → GateInvariant store gate knows closing → gate.doubt ≡ None
    → (index : ℕ) (e : DirEntry) → entry_at gate.dir.dir.entries index ≡ Some e → (slot : SlotValue) → SlotInvariant store slot → SeesWhole knows slot → slot.number ≡ e.file → IsSound knows
    → (v : Version) × IsAtEntry knows slot e v
at-entry store gate knows closing guarded idle index e at slot own sees file sound =
    let settled = seen-settled store knows slot own sees (none-open store knows gate.dir.dir.entries gate.doubt idle guarded.tied.doubt) in
    let listed = guarded.tied.versions index e at in
    (listed.0, stands-at store knows slot own sees settled e listed.0 file listed.1 listed.2 sound)

-- and so it does whatever becomes of its file and of what it holds
pub at-stays : (knows : GateView) (old new : SlotValue) (e : DirEntry) (v : Version) → new ≡ record old { file = new.file; holds = new.holds } → IsAtEntry knows old e v → IsAtEntry knows new e v
at-stays knows old new e v same at =
    subst (λ (s : SlotValue). IsAtEntry knows s e v) (sym same) (record {
      sound = at.sound;
      file = at.file;
      settled = at.settled;
      sees = record { seat = at.sees.seat; is = at.sees.is; whole = at.sees.whole };
      generation = at.generation;
      gives = record { seat = at.gives.seat; is = at.gives.is; gives = at.gives.gives };
      given = at.given;
      own = at.own;
    })

-- Where it holds nothing yet, the entry's object may be loaded.
pub gives-entry : (knows : GateView) (slot : SlotValue) (e : DirEntry) (v : Version) → (store : Store) → SlotInvariant store slot → IsAtEntry knows slot e v → GivesEntry slot e
gives-entry knows slot e v store guarded at =
    let seat = at.sees.seat in
    let own = own-seat store slot seat at.sees.is guarded in
    let all : seat.knows.seen ≡ knows.all = ap (λ (w : SlotView). w.seen) (sym at.sees.whole) in
    let there : given_version seat.knows.mounted seat.knows.seen seat.knows.file seat.knows.generation ≡ Some v =
    (λ i. given_version seat.knows.mounted (all i) ((own.own ∙ at.file) i) (at.generation i)) ∙ at.given in
    let one : at.gives.seat ≡ seat = seat_same at.gives.seat seat (sym at.gives.is ∙ at.sees.is) in
    record {
      version = v;
      gives = at.gives;
      there = subst (λ (s : Sight SlotView). given_version s.knows.mounted s.knows.seen s.knows.file s.knows.generation ≡ Some v) (sym one) there;
      is = at.own;
    }

-- a slot of which the file alone moved, and one of which the file and what it holds moved twice
pub file-moved : (old new : SlotValue) → new ≡ record old { file = new.file } → new ≡ record old { file = new.file; holds = new.holds }
file-moved old new same = same ∙ ap (λ (s : SlotValue). record old { file = new.file; holds = s.holds }) (sym same)

pub moved-then : (a b c : SlotValue) → b ≡ record a { file = b.file; holds = b.holds } → c ≡ record b { file = c.file; holds = c.holds } → c ≡ record a { file = c.file; holds = c.holds }
moved-then a b c first second = second ∙ ap (λ (s : SlotValue). record s { file = c.file; holds = c.holds }) first
