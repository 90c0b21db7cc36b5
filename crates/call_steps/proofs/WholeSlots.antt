-- A slot without a stage, as it is brought to the gate.
use Rattle.std.proofs.Common.{None, Option, Some, ap, inl, refl, subst, sym, ◌∙◌, ◌≡◌}
use Rattle.core_laws.specs.SlotParts.{Knows}
use Rattle.disk_model.specs.State.{FileState}
use Rattle.history_seats.specs.Directory.{given_version}
use Rattle.history_seats.specs.Records.{Version}
use Rattle.history_seats.specs.Settling.{calm}
use Rattle.history_seats.specs.Views.{GateView, Sight, SlotView}
use Rattle.hmac_keys.specs.declared.Keys.{Keys}
use Rattle.object_slots.specs.KnownFor.{own_version}
use Rattle.object_slots.specs.GuardedSlots.{SlotInvariant, IsSlotOf}
use Rattle.object_slots.specs.SlotObjects.{IsOfVersion}
use Rattle.call_steps.proofs.CommittableSlots.{holding_given}
use Rattle.call_steps.specs.CommittableSlots.{IsCommittableSlot, SeesWhole}
use Rattle.call_steps.specs.NameLaws.{WholeSlotsAreCommittable, cleared_versions, kept_versions}
use Rattle.object_slots.specs.SlotValues.{Holding, IsFree, SlotValue, free, live, made, staged, with_stage, without_stage}
use Rattle.core_laws.proofs.Mending.{none_some, some_same}
use Rattle.core_laws.specs.Stores.{Store}

-- a slot that is settled holds no stage
unstaged_is : (keys : Keys) (file : FileState) (holds : Holding) (version : Option Version) → IsOfVersion keys file holds version → without_stage holds ≡ holds
unstaged_is keys file free version of = refl
unstaged_is keys file (live o) version of = refl
unstaged_is keys file (made o) version of = absurd of
unstaged_is keys file (staged o s) version of = absurd of

with_is : (keys : Keys) (file : FileState) (holds : Holding) (version : Option Version) → IsOfVersion keys file holds version → with_stage holds ≡ holds
with_is keys file free version of = refl
with_is keys file (live o) version of = refl
with_is keys file (made o) version of = absurd of
with_is keys file (staged o s) version of = absurd of

free_without : (holds : Holding) → IsFree holds → holds ≡ without_stage holds
free_without free is = refl
free_without (live o) is = refl
free_without (made o) is = absurd is
free_without (staged o s) is = absurd is

free_with : (holds : Holding) → IsFree holds → holds ≡ with_stage holds
free_with free is = refl
free_with (live o) is = refl
free_with (made o) is = absurd is
free_with (staged o s) is = absurd is

module _ (store : Store) (slot : SlotValue) (seat : Sight SlotView) (v : Version) (guarded : SlotInvariant store (record slot { seat = Some seat })) (settled : slot.doubt ≡ None) where
  own : IsSlotOf store slot.number slot.file seat
  own = subst (IsSlotOf store slot.number slot.file) (sym (some_same seat guarded.seat guarded.is)) guarded.own

  module _ (gives : own_version seat.knows ≡ calm (Some v)) where
    holding : IsOfVersion store.keys slot.file slot.holds (Some v)
    holding = holding_given store slot slot.holds seat (Some v) guarded settled gives

    without_is : without_stage slot.holds ≡ slot.holds
    without_is = unstaged_is store.keys slot.file slot.holds (Some v) holding

    pub kept_committable : (knows : GateView) → SeesWhole knows seat → given_version store.mounted knows.all seat.knows.file seat.knows.generation ≡ Some v → IsCommittableSlot store slot seat (kept_versions v)
    kept_committable knows sees given = record {
      settled = settled;
      before = subst (λ (h : Holding). SlotInvariant store (record slot { seat = Some seat; holds = h })) (sym without_is) guarded;
      held = subst (λ (h : Holding). IsOfVersion store.keys slot.file h (Some v)) (sym without_is) holding;
      after = subst (λ (h : Holding). IsOfVersion store.keys slot.file h (Some v)) (sym (with_is store.keys slot.file slot.holds (Some v) holding)) holding;
      real = λ w is. own.real w (known w is);
      stands = λ honest w is. (own.holds None).stands honest w (known w is);
      masked = λ w is. own.masked w (known w is);
    }
      where
        known : (w : Version) → Some v ≡ Some w → Knows seat.knows w
        known w is = inl (
          seat.knows.generation,
          (λ i. given_version (own.mounted i) (sym (ap (λ (x : SlotView). x.seen) sees.whole) i) seat.knows.file seat.knows.generation) ∙ given ∙ is,
        )

  pub freed_committable : IsFree slot.holds → IsCommittableSlot store slot seat (cleared_versions v)
  freed_committable is_free = record {
    settled = settled;
    before = subst (λ (h : Holding). SlotInvariant store (record slot { seat = Some seat; holds = h })) (free_without slot.holds is_free) guarded;
    held = of_free (without_stage slot.holds) (Some v) (subst IsFree (free_without slot.holds is_free) is_free);
    after = of_free (with_stage slot.holds) None (subst IsFree (free_with slot.holds is_free) is_free);
    real = λ w is. absurd (none_some w is);
    stands = λ honest w is. absurd (none_some w is);
    masked = λ w is. absurd (none_some w is);
  }
    where
      of_free : (holds : Holding) (version : Option Version) → IsFree holds → IsOfVersion store.keys slot.file holds version
      of_free free version is = tt
      of_free (live o) version is = absurd is
      of_free (made o) version is = absurd is
      of_free (staged o s) version is = absurd is

pub whole_committable : WholeSlotsAreCommittable
whole_committable = record {
  kept = λ store knows slot seat v guarded settled sees gives given. kept_committable store slot seat v guarded settled gives knows sees given;
  freed = λ store slot seat v guarded settled is_free. freed_committable store slot seat v guarded settled is_free;
}
