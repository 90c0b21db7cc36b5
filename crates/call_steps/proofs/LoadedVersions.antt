-- A slot that gives a version, once the version's object is loaded.
use Rattle.std.proofs.Common.{◌≡◌, ℕ, List, Some, Result, Ok, Err, IsOk, true≢false, refl, sym, subst}
use Rattle.disk_model.specs.Calls.{Rests}
use Rattle.disk_model.specs.State.{FileState}
use Rattle.disk_model.proofs.Goings.{rests_none}
use Rattle.dir_records.specs.declared.entry.DirEntry.{DirEntry}
use Rattle.history_seats.specs.Records.{Version}
use Rattle.core_laws.specs.Stores.{Store}
use Rattle.object_slots.specs.declared.fault.SlotFault.{SlotFault}
use Rattle.object_slots.specs.declared.fault.SlotFault.TheVariants.{Corrupt, Failed, NoEntropy, NoMemory}
use Rattle.object_slots.specs.SlotFaults.{HasCause}
use Rattle.object_slots.specs.Loads.{IsLoadedBy, LoadsObject}
use Rattle.object_slots.specs.SlotValues.{HeldObject, Holding, IsFree, IsLive, SlotValue, free, live, made, staged}
use Rattle.object_slots.specs.Fills.{IsDamagedAnswer}
use Rattle.object_slots.specs.GuardedSlots.{SlotInvariant}
use Rattle.object_slots.specs.SlotObjects.{IsOfVersion}
use Rattle.object_slots.specs.GuardedReads.{GivesVersion}
use Rattle.object_slots.proofs.Filled.{with_fault}
use Rattle.object_slots.proofs.Contents.{gives_seat, settled_now}
use Rattle.call_steps.specs.ObjectLoading.{FillsOrStays, HoldsVersion, LoadsVersion}

-- A slot that holds something, and is in no doubt, holds the object of the version that it gives.
module _ (store : Store) (slot : SlotValue) (v : Version) (guarded : SlotInvariant store slot) (gives : GivesVersion slot v) where
  of-version : IsOfVersion store.keys slot.file slot.holds (Some v)
  of-version = (settled_now store.keys slot.file guarded.seat.knows v (gives_seat store slot v guarded gives) slot.holds slot.doubt guarded.content).1

  is-live : (holds : Holding) → IsOfVersion store.keys slot.file holds (Some v) → (IsFree holds → ⊥) → IsLive holds
  is-live free own held = absurd (held tt)
  is-live (live o) own held = tt
  is-live (made o) own held = absurd own
  is-live (staged o s) own held = absurd own

  pub holds-version : (IsFree slot.holds → ⊥) → HoldsVersion store.keys slot v
  holds-version held = record { live = is-live slot.holds of-version held; own = of-version }

  live-held : (o : HeldObject) → slot.holds ≡ live o → IsFree slot.holds → ⊥
  live-held o is free_ = subst IsFree is free_

-- The object was loaded, or was refused.
module _ (store : Store) (old new : SlotValue) (e : DirEntry) (tsk : List ℕ) (v : Version) (guarded : SlotInvariant store new) (gives : GivesVersion new v) where
  by_fault : (fault : SlotFault) → LoadsObject old.file new.file tsk e new.holds (with_fault fault) → IsDamagedAnswer new.file v (with_fault fault) → LoadsVersion store.keys new v (with_fault fault)
  by_fault Corrupt loads damaged = damaged
  by_fault (Failed count) loads damaged = tt
  by_fault (NoEntropy count) loads damaged = loads.refused
  by_fault NoMemory loads damaged = tt

  pub filled-version : (result : Result (Unit {0}) SlotFault) → LoadsObject old.file new.file tsk e new.holds result → IsDamagedAnswer new.file v result → LoadsVersion store.keys new v result
  filled-version (Ok done) loads damaged =
      let left : (o : HeldObject) × (new.holds ≡ live o) × IsLoadedBy old.file new.file tsk e o = loads.leaves in
      holds-version store new v guarded gives (live-held store new v guarded gives left.0 left.1)
  filled-version (Err fault) loads damaged = by_fault fault loads damaged

-- a free slot is filled, any other stays
pub fills-free : (holds : Holding) (old new : SlotValue) (tsk : List ℕ) (e : DirEntry) (result : Result (Unit {0}) SlotFault) → IsFree holds → LoadsObject old.file new.file tsk e new.holds result
    → FillsOrStays holds old new tsk e result
fills-free free old new tsk e result is loads = loads
fills-free (made o) old new tsk e result is loads = absurd is
fills-free (live o) old new tsk e result is loads = absurd is
fills-free (staged o s) old new tsk e result is loads = absurd is

pub stays-held : (holds : Holding) (old new : SlotValue) (tsk : List ℕ) (e : DirEntry) (result : Result (Unit {0}) SlotFault) → (IsFree holds → ⊥) → new ≡ old → IsOk result → FillsOrStays holds old new tsk e result
stays-held free old new tsk e result held same ok = absurd (held tt)
stays-held (made o) old new tsk e result held same ok = (same, ok)
stays-held (live o) old new tsk e result held same ok = (same, ok)
stays-held (staged o s) old new tsk e result held same ok = (same, ok)

-- a version is given by the seat alone
pub gives-still : (old new : SlotValue) (v : Version) → new ≡ record old { file = new.file; holds = new.holds } → GivesVersion old v → GivesVersion new v
gives-still old new v same gives = subst (λ (s : SlotValue). GivesVersion s v) (sym same) (record { seat = gives.seat; is = gives.is; gives = gives.gives })

-- A file that is let be.
passed-none : (s : FileState) (result : Result (Unit {0}) SlotFault) → IsOk result → HasCause s s result
passed-none s (Ok done) ok = record { faults = refl; starved = refl }
passed-none s (Err fault) ok = absurd (true≢false (sym ok))

-- the file was read at most
pub record ReadsAtMost (old new : FileState) (result : Result (Unit {0}) SlotFault) : Type 0 where
  pub rests : Rests old new
  pub cause : HasCause old new result

let_be : (old new : SlotValue) (result : Result (Unit {0}) SlotFault) → (new ≡ old) × IsOk result → ReadsAtMost old.file new.file result
let_be old new result stays =
    subst (λ (s : SlotValue). ReadsAtMost old.file s.file result) (sym stays.0) (record { rests = rests_none old.file; cause = passed-none old.file result stays.1 })

pub reads-at_most : (holds : Holding) (old new : SlotValue) (tsk : List ℕ) (e : DirEntry) (result : Result (Unit {0}) SlotFault) → FillsOrStays holds old new tsk e result → ReadsAtMost old.file new.file result
reads-at_most free old new tsk e result filled = record { rests = filled.rests; cause = filled.cause }
reads-at_most (made o) old new tsk e result stays = let_be old new result stays
reads-at_most (live o) old new tsk e result stays = let_be old new result stays
reads-at_most (staged o s) old new tsk e result stays = let_be old new result stays
