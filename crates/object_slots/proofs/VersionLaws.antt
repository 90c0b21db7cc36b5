-- The object of a slot as a committed version of its file, from what the slot's calls say.
use Rattle.std.proofs.Common.{◌≡◌, ◌∙◌, ◌+◌, ℕ, List, length, Result, Ok, IsTrue, inl, refl, sym, ap, subst, arith}
use Rattle.disk_model.specs.State.{FileState, Sound as SoundFile}
use Rattle.disk_model.proofs.ImageLaws.{reads_left}
use Rattle.aes_block.specs.WrappedKey.{unwrapped_of}
use Rattle.hmac_keys.specs.declared.Keys.{Keys}
use Rattle.node_image.specs.References.{IsCurrent}
use Rattle.node_image.specs.declared.head.Head.{Head}
use Rattle.node_image.specs.declared.node.RootRef.{RootRef}
use Rattle.node_image.specs.Selection.{selected_tree}
use Rattle.htree_file.specs.declared.fault.TreeFault.{TreeFault}
use Rattle.htree_file.specs.Opening.{Loaded, load_of}
use Rattle.htree_file.specs.Pages.{Opened}
use Rattle.htree_file.specs.Standing.{IsFirm, OpensTo, Told}
use Rattle.store_model.specs.Object.{Contents, Damaged, Object, Sound}
use Rattle.object_file.specs.DeviceKeys.{object_key}
use Rattle.object_file.specs.MountedObject.{object_in, object_or_damaged, root_of}
use Rattle.object_file.proofs.SameDirectory.{opened_same}
use Rattle.dir_records.specs.declared.entry.DirEntry.{DirEntry}
use Rattle.history_seats.specs.Records.{Version}
use Rattle.core_laws.specs.SlotParts.{IsShownIn, VersionStands}
use Rattle.core_laws.specs.GateParts.{IsVersionOf}
use Rattle.object_file.specs.Changes.{adopted}
use Rattle.object_file.specs.Value.{size_in}
use Rattle.object_file.proofs.HeldObjects.{held-is}
use Rattle.object_slots.specs.Makes.{new_contents}
use Rattle.object_slots.specs.SlotStages.{HoldsStage}
use Rattle.object_slots.specs.SlotValues.{HeldObject}
use Rattle.object_slots.specs.SlotVersions.{HasVersion, LoadedAreVersions, MadeAreVersions, RefusedAreDamaged, StagesAreVersions, VersionsAreHeld}

-- what the file reads as shows a version that stands
shown_now : (keys : Keys) (s : FileState) (v : Version) → SoundFile s → VersionStands keys s v → IsShownIn keys s.reads v
shown_now keys s v sound stands = stands.shown s.reads (reads_left s sound)

-- an honest file is told
told_now : (old new : FileState) → SoundFile new → IsTrue new.honest → Told old new
told_now old new sound honest = (sound.told honest, inl honest)

-- the entry's object in an image that shows its version
entry_object : (keys : Keys) (image : List ℕ) (e : DirEntry) (v : Version) → IsVersionOf e v → IsShownIn keys image v
    → v.object ≡ object_in (object_key keys e.app) image (root_of e) e.size e.attributes
entry_object keys image e v own shown =
    sym shown.object ∙ (λ i. object_in (object_key keys (own.app i)) image (own.root i) (own.size i) (own.attributes i))

pub loaded_are_versions : LoadedAreVersions
loaded_are_versions keys old new e v o sound honest stands own loaded =
    let told : Told old new = told_now old new sound honest in
    let shown : IsShownIn keys new.reads v = shown_now keys new v sound stands in
    let root : v.root ≡ o.tree.root = own.root ∙ sym loaded.root_is in
    let size : size_in o ≡ e.size = omega (arith, loaded.size) in
    record {
      root = root;
      loads = sym shown.loads ∙ ap (load_of new.reads) root ∙ loaded.loads told;
      key = loaded.key ∙ ap (λ (app : List ℕ). unwrapped_of (object_key keys app) o.tree.tree.head.wrapped) (sym own.app);
      size = own.size ∙ sym size;
      attributes = own.attributes ∙ sym loaded.attributes;
      object = entry_object keys new.reads e v own shown ∙ loaded.object told;
      own = refl;
    }

pub refused_are_damaged : RefusedAreDamaged
refused_are_damaged keys old new e v sound honest stands own refused =
    entry_object keys new.reads e v own (shown_now keys new v sound stands) ∙ refused.damaged (told_now old new sound honest) ∙ ap (λ (n : ℕ). Damaged n) (sym own.size)

-- the object that a version's image opens to, by the parts of the object that is of it
held_object : (keys : Keys) (image : List ℕ) (o : HeldObject) (v : Version) (c : Contents) → HasVersion keys o v c → IsShownIn keys image v
    → object_in (object_key keys v.app) image o.tree.root (size_in o) (length o.attributes) ≡ Sound c
held_object keys image o v c has shown =
    (λ i. object_in (object_key keys v.app) image (sym has.root i) (sym has.size i) (sym has.attributes i)) ∙ shown.object ∙ has.object

held_loads : (keys : Keys) (image : List ℕ) (o : HeldObject) (v : Version) (c : Contents) → HasVersion keys o v c → IsShownIn keys image v → load_of image o.tree.root ≡ Ok o.tree.tree
held_loads keys image o v c has shown = ap (load_of image) (sym has.root) ∙ shown.loads ∙ has.loads

pub versions_are_held : VersionsAreHeld
versions_are_held keys s o v c sound stands has =
    let shown : IsShownIn keys s.reads v = shown_now keys s v sound stands in
    held-is {F = Unit {0}} o s.reads (object_key keys v.app) (length o.attributes) c (held_loads keys s.reads o v c has shown) has.key has.own (held_object keys s.reads o v c has shown)

-- a reference that is firm, and opens to an object in what the file reads as, makes a version that stands
firm_stands : (keys : Keys) (s : FileState) (root : RootRef) (tree : Loaded) (app : List ℕ) (size attributes : ℕ) (object : Object) → IsCurrent root → SoundFile s → IsFirm s root tree
    → object_in (object_key keys app) s.reads root size attributes ≡ object
    → VersionStands keys s (record { root = root; tree = selected_tree s.reads root; loads = Ok tree; app = app; size = size; attributes = attributes; object = object })
firm_stands keys s root tree app size attributes object current sound firm is =
    let here : OpensTo root tree (selected_tree s.reads root) s.reads = firm s.reads (reads_left s sound) in
    record {
      current = current;
      shown = λ image left.
          let there : OpensTo root tree (selected_tree s.reads root) image = firm image left in
          record {
            selects = there.selects;
            loads = there.opens;
            object = ap (λ (r : Result Opened TreeFault). object_or_damaged size attributes r) (opened_same (object_key keys app) image s.reads root there.selects (there.opens ∙ sym here.opens)) ∙ is;
          };
    }

pub stages_are_versions : StagesAreVersions
stages_are_versions keys old new o v was c root s keeps sound still honest stands has stage =
    let wrap : List ℕ = object_key keys v.app in
    let shown : IsShownIn keys old.reads v = shown_now keys old v sound stands in
    let loads : load_of old.reads o.tree.root ≡ Ok o.tree.tree = held_loads keys old.reads o v was has shown in
    let holds : HoldsStage old new o c s = stage.stands (told_now old new still honest) loads in
    let current : IsCurrent s.root = (omega (arith, stage.version), stage.format ∙ ap (λ (r : RootRef). r.format) (sym has.root) ∙ stands.current.1) in
    let object : object_in wrap new.reads s.root c.size (length o.attributes) ≡ Sound (c.contents was) = holds.object wrap was has.key (held_object keys old.reads o v was has shown) in
    let long : s.tree.head.length ≡ 4096 + c.size = ap (λ (h : Head). h.length) stage.head in
    let size : size_in (adopted o s) ≡ c.size = omega (arith, long) in (
      firm_stands keys new s.root s.tree v.app c.size v.attributes (Sound (c.contents was)) current still (stage.firm honest loads)
          (ap (λ (n : ℕ). object_in wrap new.reads s.root c.size n) has.attributes ∙ object),
      record {
        root = refl;
        loads = refl;
        key = has.key ∙ ap (λ (h : Head). unwrapped_of wrap h.wrapped) (sym stage.head);
        size = sym size;
        attributes = has.attributes;
        object = refl;
        own = keeps was ∙ has.own;
      },
    )

pub made_are_versions : MadeAreVersions
made_are_versions keys old new app attributes bytes root o sound honest made =
    let wrap : List ℕ = object_key keys app in
    let current : IsCurrent o.tree.root = subst IsCurrent made.root_is (omega (arith, made.version), made.format) in
    let object : object_in wrap new.reads o.tree.root (length bytes) (length attributes) ≡ Sound (new_contents attributes bytes) =
    ap (λ (r : RootRef). object_in wrap new.reads r (length bytes) (length attributes)) (sym made.root_is) ∙ made.object (inl honest) in
    let firm : IsFirm new o.tree.root o.tree.tree = subst (λ (r : RootRef). IsFirm new r o.tree.tree) made.root_is (made.firm honest) in
    let size : size_in o ≡ length bytes = omega (arith, made.size) in (
      firm_stands keys new o.tree.root o.tree.tree app (length bytes) (length attributes) (Sound (new_contents attributes bytes)) current sound firm object,
      record {
        root = refl;
        loads = refl;
        key = made.key;
        size = sym size;
        attributes = ap length (sym made.attributes_are);
        object = refl;
        own = sym made.attributes_are;
      },
    )
