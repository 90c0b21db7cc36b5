-- A slot with a stage, as it is brought to the gate.
use Rattle.std.proofs.Common.{None, Option, Some, ap, refl, subst, sym, ℕ, ◌∙◌, ◌≡◌}
use Rattle.core_laws.specs.Masked.{StandsMasked}
use Rattle.core_laws.specs.SlotParts.{VersionStands}
use Rattle.disk_model.specs.State.{FileState}
use Rattle.history_seats.proofs.Keeping.{seen-whole}
use Rattle.history_seats.specs.Records.{Version}
use Rattle.history_seats.specs.Rule.{SlotFits}
use Rattle.history_seats.specs.Settling.{Pending, calm}
use Rattle.history_seats.specs.Views.{Sight, SlotView}
use Rattle.hmac_keys.specs.declared.Keys.{Keys}
use Rattle.object_slots.specs.KnownFor.{own_version}
use Rattle.object_slots.specs.GuardedSlots.{IsContentOf, SlotInvariant}
use Rattle.object_slots.specs.SlotObjects.{IsObjectOf, IsOfVersion}
use Rattle.node_image.specs.References.{IsCurrent}
use Rattle.call_steps.specs.CommittableSlots.{ShownSeatsSeeWhole, StagedSlotsAreCommittable, StagesAreVersions}
use Rattle.object_slots.specs.Changes.{adopted}
use Rattle.object_slots.specs.SlotValues.{HasStage, HeldObject, Holding, IsHolding, SlotValue, free, live, made, staged, with_stage, without_stage}
use Rattle.store_model.specs.Record.{concerns_file}
use Rattle.core_laws.proofs.Mending.{none_some, some_same}
use Rattle.core_laws.specs.Decodings.{IsReal}
use Rattle.core_laws.specs.Stores.{Store}

-- the object of the next version
pub record IsNextObject (keys : Keys) (file : FileState) (holds : Holding) (next : Version) : Type 0 where
  pub object : HeldObject
  pub is : with_stage holds ≡ live object
  pub of_next : IsObjectOf keys file object next
  pub current : IsHolding holds → IsCurrent next.root

object_after : (keys : Keys) (file : FileState) (o : HeldObject) (next : Version) → IsOfVersion keys file (live o) (Some next) → IsObjectOf keys file o next
object_after keys file o next after = subst (IsObjectOf keys file o) (sym (some_same next after.0 after.1)) after.2

pub next_object : (keys : Keys) (file : FileState) (holds : Holding) (next : Version) → HasStage holds → IsOfVersion keys file (with_stage holds) (Some next) → IsNextObject keys file holds next
next_object keys file free next has after = absurd has
next_object keys file (live o) next has after = absurd has
next_object keys file (made o) next has after =
    let object = object_after keys file o next after in
    record { object = o; is = refl; of_next = object; current = λ holding. subst IsCurrent (sym object.root) holding }
next_object keys file (staged o s) next has after =
    let object = object_after keys file (adopted o s) next after in
    record { object = adopted o s; is = refl; of_next = object; current = λ holding. subst IsCurrent (sym object.root) holding.2 }

pub stages_versions : StagesAreVersions
stages_versions store slot v change root stages holding =
    let left = stages.leaves in
    let object = next_object store.keys slot.file slot.holds left.0 left.1.has left.1.after in
    (left.0, left.1, record { follows = left.2; real = object.of_next.real; current = object.current holding; spared = stages.corrupt })

-- a slot behind its lock, whose view gives a version that no doubt touches, holds what is of that
pub holding_given : (store : Store) (slot : SlotValue) (holds : Holding) (seat : Sight SlotView) (version : Option Version) → SlotInvariant store (record slot { seat = Some seat; holds = holds })
    → slot.doubt ≡ None → own_version seat.knows ≡ calm version → IsOfVersion store.keys slot.file holds version
holding_given store slot holds seat version guarded settled gives = by_doubt slot.doubt settled guarded.content
  where
    by_doubt : (doubt : Option ℕ) → doubt ≡ None → IsContentOf store.keys slot.file guarded.seat.knows holds doubt → IsOfVersion store.keys slot.file holds version
    by_doubt (Some at_) none content = absurd (none_some at_ (sym none))
    by_doubt None none content =
        subst (IsOfVersion store.keys slot.file holds)
        (ap (λ (p : Pending (Option Version)). p.now)
        (sym content.gives ∙ ap (λ (s : Sight SlotView). own_version s.knows) (sym (some_same seat guarded.seat guarded.is)) ∙ gives)) content.holding

pub staged_committable : StagedSlotsAreCommittable
staged_committable store slot seat v next is gives =
    let object = next_object store.keys slot.file slot.holds next is.has is.after in
    record {
      settled = is.calm;
      before = is.before;
      held = holding_given store slot (without_stage slot.holds) seat (Some v) is.before is.calm gives;
      after = is.after;
      real = λ w same. subst (IsReal store.keys) (some_same next w same) object.of_next.real;
      stands = λ honest w same. subst (VersionStands store.keys slot.file) (some_same next w same) (object.of_next.stands honest);
      masked = λ w same. subst (StandsMasked store.keys slot.file) (some_same next w same) object.of_next.bytes;
    }

pub shown_see : ShownSeatsSeeWhole
shown_see knows seat pass agrees =
    let fits : SlotFits knows seat.knows = (agrees.slot seat.knows refl).0 in
    record {
      sound = agrees.gate;
      fits = record {
        sees = seen-whole (concerns_file seat.knows.file) knows agrees.gate.decided_within agrees.gate.decided_below;
        mounted = fits.mounted;
      };
      whole = refl;
    }
