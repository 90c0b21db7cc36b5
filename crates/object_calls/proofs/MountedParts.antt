-- What lies behind each lock as a phase begins.
use Rattle.node_image.specs.References.{IsCurrent}
use Rattle.std.proofs.Common.{◌≡◌, ℕ, List, [], Option, Some, refl, sym, ap, ◌∙◌, subst}
use Rattle.std.specs.Prelude.{IsTrue}
use Rattle.disk_model.specs.State.{FileState, pending}
use Rattle.dir_records.specs.declared.entry.DirEntry.{DirEntry}
use Rattle.history_seats.specs.Records.{HistoryRecord, Version}
use Rattle.history_seats.specs.Versions.{version_among}
use Rattle.crash_core.specs.MountedObject.{root_of}
use Rattle.crash_core.proofs.Sightings.{one_image}
use Rattle.core_laws.specs.SlotParts.{IsShownIn, VersionStands}
use Rattle.core_laws.specs.Decodings.{IsReal}
use Rattle.core_laws.proofs.MaskedBytes.{stands_own}
use Rattle.core_laws.specs.Stores.{Store, replay_at}
use Rattle.core_laws.proofs.Images.{image_real}
use Rattle.serial_calls.proofs.Journals.{openings}
use Rattle.core_laws.proofs.Opening.{openings_tied}
use Rattle.serial_calls.specs.GuardedSlots.{SlotInvariant}
use Rattle.serial_calls.specs.FirstSlots.{IsMountedFile, first_slot}
use Rattle.serial_calls.proofs.SlotOpenings.{first_slots_are_guarded}
use Rattle.serial_calls.specs.OpenHandles.{AreOpen}
use Rattle.object_calls.specs.Generations.{generation_in}
use Rattle.object_calls.specs.MountedEntries.{version_in}
use Rattle.object_calls.specs.MountedStores.{IsMountedStore}
use Rattle.object_calls.specs.MountLaws.{MountedSlotsAreGuarded, MountsBeginGates}
use Rattle.object_calls.proofs.ListedEntries.{IsAmong, generation-entry, version_told}
use Rattle.object_calls.proofs.MountedViews.{tells}
use Rattle.object_calls.proofs.FirstHandles.{first_open}

-- THE GATE
pub mounts_begin_gates : MountsBeginGates
mounts_begin_gates store files entries table view o none first =
    let t = tells store files entries o in
    record {
      journal = openings store view first.mounted first.empty t.objects t.apart;
      tied = openings_tied store view files entries first.empty t.mount t.apart t.real t.rising;
      handles = λ scenario.
          subst (λ (l : List HistoryRecord). AreOpen entries table (replay_at store scenario l).state.sessions) (sym first.empty)
          (first_open entries table store.mounted.applications none);
    }

-- THE SLOTS
module _ (store : Store) (files : ℕ → FileState) (entries : List (Option DirEntry)) (number : ℕ) (o : IsMountedStore store files entries) where
  among : (generation : ℕ) (v : Version) → version_among number generation store.mounted.entries ≡ Some v → IsAmong store.keys files entries number generation v
  among generation v is = version_told store.keys files entries number generation v (ap (version_among number generation) (sym o.told) ∙ is)

  of_generation : (generation : ℕ) (v : Version) → version_among number generation store.mounted.entries ≡ Some v → generation ≡ generation_in entries number
  of_generation generation v is =
      let a = among generation v is in
      sym (ap (generation_in entries) (sym a.file_is) ∙ generation-entry entries a.index a.entry o.forms.single a.at ∙ a.generation_is)

  real_in : (v : Version) → version_among number (generation_in entries number) store.mounted.entries ≡ Some v → IsReal store.keys v
  real_in v is =
      let a = among (generation_in entries number) v is in
      let e : DirEntry = a.entry in
      subst (IsReal store.keys) a.version_is (image_real store.keys (files e.file).reads (root_of e) e.app e.size e.attributes (o.sound e.file).reads)

  shown_in : (v : Version) → version_among number (generation_in entries number) store.mounted.entries ≡ Some v → IsShownIn store.keys (files number).reads v
  shown_in v is =
      let a = among (generation_in entries number) v is in
      let e : DirEntry = a.entry in
      let own : IsShownIn store.keys (files e.file).reads (version_in store.keys files e) = record { selects = refl; loads = refl; object = refl } in
      subst (λ (n : ℕ). IsShownIn store.keys (files n).reads v) a.file_is (subst (IsShownIn store.keys (files e.file).reads) a.version_is own)

  stands_in : IsTrue (files number).honest → (v : Version) → version_among number (generation_in entries number) store.mounted.entries ≡ Some v → VersionStands store.keys (files number) v
  stands_in honest v is =
      let a = among (generation_in entries number) v is in
      let e : DirEntry = a.entry in
      let settled : pending (files number) ≡ [] = subst (λ (n : ℕ). pending (files n) ≡ []) a.file_is (o.synced a.index e a.at) in
      record {
        current = subst (λ (w : Version). IsCurrent w.root) a.version_is ((o.forms.forms a.index e a.at).version, o.current a.index e a.at);
        shown = λ image left. subst (λ (i : List ℕ). IsShownIn store.keys i v) (sym (one_image (files number) (o.sound number) honest settled image left)) (shown_in v is);
      }

  mounted_file : IsMountedFile store number (generation_in entries number) (files number)
  mounted_file = record { sound = o.sound number; single = of_generation; real = real_in; stands = stands_in; told = sym (o.taints number); masked = λ v is. stands_own store.keys (files number) v (shown_in v is) }

  pub slot_guarded : SlotInvariant store (first_slot store number (generation_in entries number) (files number))
  slot_guarded = first_slots_are_guarded store number (generation_in entries number) (files number) mounted_file

pub mounted_slots_are_guarded : MountedSlotsAreGuarded
mounted_slots_are_guarded store files entries number o = slot_guarded store files entries number o
