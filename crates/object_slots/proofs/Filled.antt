-- What loading the object of a locked slot leaves.
use Rattle.std.proofs.Common.{◌≡◌, ◌∙◌, ◌+◌, ℕ, List, Option, Some, None, Result, Ok, Err, IsTrue, inl, refl, sym, ap, subst, arith}
use Rattle.disk_model.specs.State.{FileState, Sound as SoundFile}
use Rattle.disk_model.specs.Calls.{GoesOn}
use Rattle.aes_block.specs.WrappedKey.{unwrapped_of}
use Rattle.dir_records.specs.declared.entry.DirEntry.{DirEntry}
use Rattle.store_model.specs.Object.{Damaged}
use Rattle.object_file.specs.DeviceKeys.{object_key}
use Rattle.history_seats.specs.Records.{Version}
use Rattle.core_laws.specs.GateParts.{IsVersionOf}
use Rattle.core_laws.specs.Masked.{StandsMasked}
use Rattle.object_slots.proofs.MaskedObjects.{loaded_masked}
use Rattle.core_laws.specs.SlotParts.{Knows, VersionStands}
use Rattle.history_seats.specs.Directory.{given_version}
use Rattle.history_seats.specs.Settling.{calm}
use Rattle.history_seats.specs.Views.{Sight, SlotView}
use Rattle.object_slots.specs.KnownFor.{own_version}
use Rattle.core_laws.specs.Decodings.{IsReal}
use Rattle.core_laws.specs.Stores.{Store}
use Rattle.object_file.specs.Held.{held_in}
use Rattle.object_file.specs.Value.{size_in}
use Rattle.object_slots.specs.declared.fault.SlotFault.{SlotFault}
use Rattle.object_slots.specs.declared.fault.SlotFault.TheVariants.{Corrupt, Failed, NoEntropy, NoMemory}
use Rattle.object_slots.specs.Loads.{IsLoadedBy, IsRefusedBy, LoadsObject}
use Rattle.object_slots.specs.SlotValues.{HeldObject, Holding, SlotValue, free, live}
use Rattle.object_slots.specs.SlotVersions.{HasVersion}
use Rattle.object_slots.proofs.VersionLaws.{loaded_are_versions, refused_are_damaged}
use Rattle.object_slots.specs.SlotObjects.{IsObjectOf, IsOfVersion}
use Rattle.object_slots.specs.GuardedSlots.{IsContentOf, SlotInvariant, IsSlotOf}
use Rattle.object_slots.specs.Fills.{GivesEntry, IsDamagedAnswer}
use Rattle.object_slots.specs.GuardedReads.{GivesVersion}
use Rattle.object_slots.proofs.Contents.{calm_same, gives_seat, own_rests, seat_same, settled_now, some_same}

abbrev pub with_fault : SlotFault → Result (Unit {0}) SlotFault
with_fault f = Err f

-- A slot that is free, whose view gives the version of the entry. The version is real and stands, be it known or not.
module _ (store : Store) (old : SlotValue) (new : FileState) (e : DirEntry) (tsk : List ℕ) (key : tsk ≡ object_key store.keys e.app) (v : Version) (is : IsVersionOf e v) where
  -- what is loaded is of the version
  object_filled : (o : HeldObject) → SoundFile new → IsReal store.keys v → (IsTrue new.honest → VersionStands store.keys new v) → StandsMasked store.keys old.file v → StandsMasked store.keys new v → GoesOn old.file new → IsLoadedBy old.file new tsk e o → IsObjectOf store.keys new o v
  object_filled o sound real stands before bytes goes loaded =
      let by_key : IsLoadedBy old.file new (object_key store.keys e.app) e o = subst (λ (k : List ℕ). IsLoadedBy old.file new k e o) key loaded in
      let size : size_in o ≡ e.size = omega (arith, loaded.size) in
      let version : IsTrue new.honest → HasVersion store.keys o v (held_in o new.reads) = λ honest. loaded_are_versions store.keys old.file new e v o sound honest (stands honest) is by_key in
      record {
        real = real;
        root = is.root ∙ sym loaded.root_is;
        key = by_key.key ∙ ap (λ (app : List ℕ). unwrapped_of (object_key store.keys app) o.tree.tree.head.wrapped) (sym is.app);
        size = is.size ∙ sym size;
        long = loaded.size ∙ ap (λ (n : ℕ). 4096 + n) (sym size);
        attributes = is.attributes ∙ sym loaded.attributes;
        verified = loaded.verified;
        front = record {
          page = loaded.first.page;
          long = loaded.first.read.long;
          seals = (loaded.first.read.ciphertext, loaded.first.read.opens);
          front = λ i lt. loaded.first.are i (omega (arith, lt, loaded.attributes));
        };
        masked = loaded_masked store.keys old.file new goes o v loaded.first.read.ciphertext (is.root ∙ sym loaded.root_is) before loaded.seen loaded.first.read.seen;
        bytes = bytes;
        stands = stands;
        loads = λ honest. (version honest).loads;
        object = λ honest. (version honest).object;
      }

-- the slot that was filled, or is free still
module _ (store : Store) (old new : SlotValue) (e : DirEntry) (tsk : List ℕ) (key : tsk ≡ object_key store.keys e.app) (is : SlotInvariant store old) (given : GivesEntry old e)
    (same : new ≡ record old { file = new.file; holds = new.holds }) where
  abbrev v : Version
  v = given.version

  known : Knows is.seat.knows v
  known =
      let one : is.seat ≡ given.gives.seat = seat_same is.seat given.gives.seat (sym is.is ∙ given.gives.is) in
      inl (is.seat.knows.generation, ap (λ (s : Sight SlotView). given_version s.knows.mounted s.knows.seen s.knows.file s.knows.generation) one ∙ given.there)

  abbrev gives : own_version is.seat.knows ≡ calm (Some v)
  gives = gives_seat store old v is given.gives

  module _ (result : Result (Unit {0}) SlotFault) (loads : LoadsObject old.file new.file tsk e new.holds result) where
    own : IsSlotOf store old.number new.file is.seat
    own = own_rests store old.number old.file new.file is.seat loads.rests loads.steps is.own

    abbrev stood : IsTrue new.file.honest → VersionStands store.keys new.file v
    stood honest = (own.holds None).stands honest v known

    -- what is held afterwards is of the version
    lock : (holds : Holding) → new.holds ≡ holds → IsOfVersion store.keys new.file holds (Some v) → SlotInvariant store new
    lock holds held of_version =
        let content : (doubt : Option ℕ) → IsContentOf store.keys old.file is.seat.knows old.holds doubt → IsContentOf store.keys new.file is.seat.knows holds doubt =
        λ doubt was.
        subst (IsContentOf store.keys new.file is.seat.knows holds) (sym (settled_now store.keys old.file is.seat.knows v gives old.holds doubt was).0)
        (record { version = Some v; gives = gives; holding = of_version }) in
        subst (SlotInvariant store) (sym same)
        (record {
          seat = is.seat;
          is = is.is;
          own = own;
          content = subst (λ (h : Holding). IsContentOf store.keys new.file is.seat.knows h old.doubt) (sym held) (content old.doubt is.content);
        })

  pub fill_guarded : (result : Result (Unit {0}) SlotFault) → LoadsObject old.file new.file tsk e new.holds result
      → SlotInvariant store new × ((w : Version) → GivesVersion old w → IsDamagedAnswer new.file w result)
  fill_guarded (Ok done) loads =
      let left : (o : HeldObject) × (new.holds ≡ live o) × IsLoadedBy old.file new.file tsk e o = loads.leaves in
      let object = object_filled store old new.file e tsk key v given.is left.0 ((own (Ok done) loads).holds None).sound (is.own.real v known) (stood (Ok done) loads) (is.own.masked v known) ((own (Ok done) loads).masked v known) loads.rests.goes_on left.2 in
      (lock (Ok done) loads (live left.0) left.1 (v, refl, object), λ w other. tt)
  fill_guarded (Err fault) loads =
      (lock (Err fault) loads free loads.leaves tt, λ w other. damaged fault loads w (calm_version w other))
    where
      calm_version : (w : Version) → GivesVersion old w → v ≡ w
      calm_version w other = some_same v w (calm_same (Some v) (Some w) (sym gives ∙ gives_seat store old w is other))

      damaged : (f : SlotFault) → LoadsObject old.file new.file tsk e new.holds (with_fault f) → (w : Version) → v ≡ w → IsDamagedAnswer new.file w (with_fault f)
      damaged Corrupt loads w one = λ honest.
          let refused = subst (λ (k : List ℕ). IsRefusedBy old.file new.file k e) key loads.refused in
          subst (λ (x : Version). x.object ≡ Damaged x.size) one
          (refused_are_damaged store.keys old.file new.file e v ((own (Err Corrupt) loads).holds None).sound honest (stood (Err Corrupt) loads honest) given.is refused)
      damaged (Failed count) loads w one = tt
      damaged (NoEntropy count) loads w one = tt
      damaged NoMemory loads w one = tt
