-- Versions that stand in a file show the objects of their entries, and a slot knows those of the entries of its file.
use Rattle.std.proofs.Common.{◌≡◌, ℕ, List, Option, Some, inl, inr, sym, ◌∙◌, ap, subst}
use Rattle.std.specs.Prelude.{unwrap_or}
use Rattle.disk_model.specs.State.{FileState, LeftNow, Sound}
use Rattle.disk_model.proofs.ImageLaws.{reads_left}
use Rattle.hmac_keys.specs.declared.Keys.{Keys}
use Rattle.node_image.specs.Selection.{selected_tree}
use Rattle.htree_file.specs.Opening.{load_of}
use Rattle.htree_file.specs.Pages.{opened_of}
use Rattle.dir_records.specs.declared.entry.DirEntry.{DirEntry}
use Rattle.history_seats.specs.Records.{Version}
use Rattle.history_seats.specs.Mounts.{Mounted}
use Rattle.history_seats.specs.Directory.{given_version}
use Rattle.history_seats.specs.Known.{version_from}
use Rattle.history_seats.specs.Rule.{SlotFits}
use Rattle.history_seats.specs.Views.{GateView, SlotView, no_mount}
use Rattle.history_seats.proofs.KnownEntries.{entry_known}
use Rattle.crash_core.specs.MountedObject.{root_of}
use Rattle.crash_core.specs.DeviceKeys.{object_key}
use Rattle.crash_core.specs.Mounting.{Held}
use Rattle.crash_core.specs.Sights.{Shows, Stands, sight_of}
use Rattle.crash_core.proofs.SameDirectory.{opened_same}
use Rattle.core_laws.specs.SlotParts.{Knows, VersionStands}
use Rattle.core_laws.specs.GateParts.{IsVersionOf, KnowsEntry, mount_of}

-- in every image the version's reference shows what it does in the bytes that the file reads as
pub version_seen : (keys : Keys) (s : FileState) (v : Version) → Sound s → VersionStands keys s v → Stands s (object_key keys v.app) v.root (sight_of (object_key keys v.app) s.reads v.root)
version_seen keys s v sound stands =
    let wrap : List ℕ = object_key keys v.app in
    let here : LeftNow s s.reads = reads_left s sound in
    record {
      current = stands.current;
      alike = λ image left.
          let selects : selected_tree image v.root ≡ selected_tree s.reads v.root = (stands.shown image left).selects ∙ sym (stands.shown s.reads here).selects in
          let loads : load_of image v.root ≡ load_of s.reads v.root = (stands.shown image left).loads ∙ sym (stands.shown s.reads here).loads in
          let opened : opened_of wrap image v.root ≡ opened_of wrap s.reads v.root = opened_same wrap image s.reads v.root selects loads in
          (λ j. record { tree = selects j; loads = loads j; opened = opened j });
    }

-- A version that stands shows the object of its entry.
pub version_shows : (keys : Keys) (s : FileState) (h : Held) (v : Version) → Sound s → VersionStands keys s v → IsVersionOf h.entry v → v.object ≡ h.object → Shows keys s h.entry h.object
version_shows keys s h v sound stands own object =
    let w : Version = record { root = root_of h.entry; tree = v.tree; loads = v.loads; app = h.entry.app; size = h.entry.size; attributes = h.entry.attributes; object = h.object } in
    let same : v ≡ w = (λ j. record { root = own.root j; tree = v.tree; loads = v.loads; app = own.app j; size = own.size j; attributes = own.attributes j; object = object j }) in
    let here : VersionStands keys s w = subst (VersionStands keys s) same stands in
    record {
      sight = sight_of (object_key keys h.entry.app) s.reads (root_of h.entry);
      stands = version_seen keys s w sound here;
      is = (here.shown s.reads (reads_left s sound)).object;
    }

-- What the history knows of an entry, the slot of its file does.
pub entry_is_known : (gate : GateView) (slot : SlotView) (e : DirEntry) (v : Version) → SlotFits gate slot → slot.file ≡ e.file → KnowsEntry gate e v → Knows slot v
entry_is_known gate slot e v fits own known =
    let mount : mount_of gate ≡ slot.mounted = ap (λ (o : Option Mounted). unwrap_or o no_mount) fits.mounted in
    entry_known gate slot fits v (elim known [
      | inl given ↦
          let there : given_version slot.mounted gate.all e.file e.generation ≡ Some v =
          subst (λ (m : Mounted). given_version m gate.all e.file e.generation ≡ Some v) mount given in
          inl (e.generation, subst (λ (n : ℕ). given_version slot.mounted gate.all n e.generation ≡ Some v) (sym own) there)
      | inr left ↦
          let there : (version_from gate.decided e.file e.generation slot.mounted gate.all).if_landed ≡ Some (Some v) =
          subst (λ (m : Mounted). (version_from gate.decided e.file e.generation m gate.all).if_landed ≡ Some (Some v)) mount left in
          inr (e.generation, subst (λ (n : ℕ). (version_from gate.decided n e.generation slot.mounted gate.all).if_landed ≡ Some (Some v)) (sym own) there)
    ])
