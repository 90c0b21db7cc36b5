-- The version that a stage leaves: in an honest file the one that its reference names; in any other the one that its tree spells with chosen
-- ciphertexts.
use Rattle.std.proofs.Common.{◌≡◌, ◌∙◌, ◌+◌, ◌<◌, ◌≤◌, ℕ, List, [], length, get_or, Some, Result, Ok, IsTrue, refl, sym, ap, subst, arith}
use Rattle.disk_model.specs.State.{FileState, Sound as SoundFile}
use Rattle.disk_model.proofs.ImageLaws.{reads_left}
use Rattle.aes_block.specs.WrappedKey.{unwrapped_of}
use Rattle.hmac_keys.specs.declared.Keys.{Keys}
use Rattle.node_image.specs.declared.node.RootRef.{RootRef}
use Rattle.node_image.specs.declared.head.Head.{Head}
use Rattle.node_image.specs.Selection.{SelectedTree, part_in, row, selected_tree}
use Rattle.node_image.specs.Parts.{start, layout_of}
use Rattle.node_image.specs.Parts.Part.{head}
use Rattle.node_image.proofs.ImageBytes.{length-bytes_at}
use Rattle.disk_model.specs.Arms.{Taint}
use Rattle.node_image.proofs.Matching.{row_at}
use Rattle.htree_file.specs.declared.fault.TreeFault.{TreeFault}
use Rattle.htree_file.specs.Opening.{IsVerified, Loaded}
use Rattle.htree_file.specs.Value.{Staged}
use Rattle.store_model.specs.Object.{Contents, Object, Sound}
use Rattle.object_file.specs.DeviceKeys.{object_key}
use Rattle.history_seats.specs.Records.{Version}
use Rattle.core_laws.specs.Masked.{HasOneTree, told_taints}
use Rattle.core_laws.specs.SlotParts.{IsShownIn, VersionStands}
use Rattle.object_slots.proofs.MaskedObjects.{front_masked, version_front}
use Rattle.core_laws.proofs.MaskedBytes.{stands_own}
use Rattle.core_laws.specs.Decodings.{IsReal, block_of, object_decoded, tree_decoding}
use Rattle.core_laws.proofs.Images.{image_real}
use Rattle.object_file.specs.Changes.{adopted}
use Rattle.object_file.specs.Held.{held_in}
use Rattle.object_file.specs.Value.{size_in}
use Rattle.object_slots.specs.SlotStages.{DataChange, IsStageOf}
use Rattle.object_slots.specs.SlotValues.{HeldObject}
use Rattle.object_slots.specs.SlotVersions.{changed_version}
use Rattle.object_slots.proofs.FrontLaws.{stages_keep_fronts}
use Rattle.object_slots.proofs.VersionLaws.{stages_are_versions, versions_are_held}
use Rattle.object_slots.specs.SlotObjects.{IsObjectOf}
use Rattle.object_slots.proofs.Stays.{has_version}

-- A version that a tree spells with these ciphertexts.
abbrev pub version_decoded : Keys → RootRef → Loaded → (app : List ℕ) → (size attributes : ℕ) → (block : ℕ → List ℕ) → Version
version_decoded keys root tree app size attributes block = record {
  root = root;
  tree = record { head_bytes = []; nodes = []; blocks = row block (length tree.nodes) };
  loads = Ok tree;
  app = app;
  size = size;
  attributes = attributes;
  object = object_decoded size attributes (Some (tree_decoding (object_key keys app) (λ k. get_or (row block (length tree.nodes)) k []) tree));
}

ok_same : (r : Result Loaded TreeFault) (a b : Loaded) → r ≡ Ok a → r ≡ Ok b → a ≡ b
ok_same r a b e f = cc

pub decoded_real : (keys : Keys) (root : RootRef) (tree : Loaded) (app : List ℕ) (size attributes : ℕ) (block : ℕ → List ℕ) → IsVerified root tree
    → IsReal keys (version_decoded keys root tree app size attributes block)
decoded_real keys root tree app size attributes block verified = record {
  decodes = refl;
  verified = λ other is. subst (IsVerified root) (ok_same (Ok tree) tree other refl is) verified;
}

-- its ciphertexts are those
pub decoded_block : (keys : Keys) (root : RootRef) (tree : Loaded) (app : List ℕ) (size attributes : ℕ) (block : ℕ → List ℕ) (k : ℕ) → k < length tree.nodes
    → block_of (version_decoded keys root tree app size attributes block) k ≡ block k
decoded_block keys root tree app size attributes block k lt = row_at block (length tree.nodes) k [] lt

-- No image shows it.
pub decoded_unshown : (keys : Keys) (root : RootRef) (tree : Loaded) (app : List ℕ) (size attributes : ℕ) (block : ℕ → List ℕ) (taints : List Taint) (own : Loaded)
    → HasOneTree keys taints (version_decoded keys root tree app size attributes block) own → ⊥
decoded_unshown keys root tree app size attributes block taints own one =
    let none : length (part_in (layout_of root.format) one.image (head root.version)) ≡ 0 = ap (λ (t : SelectedTree). length t.head_bytes) one.shows.selects in
    omega (arith, none, length-bytes_at one.image (start (layout_of root.format) (head root.version)) 32)

-- A version that stands in a file, with its tree selected there, is real.
pub replay_real : (keys : Keys) (s : FileState) (root : RootRef) (tree : Loaded) (app : List ℕ) (size attributes : ℕ) (object : Object) → SoundFile s
    → VersionStands keys s (record { root = root; tree = selected_tree s.reads root; loads = Ok tree; app = app; size = size; attributes = attributes; object = object })
    → IsReal keys (record { root = root; tree = selected_tree s.reads root; loads = Ok tree; app = app; size = size; attributes = attributes; object = object })
replay_real keys s root tree app size attributes object sound stands =
    let shown = stands.shown s.reads (reads_left s sound) in
    subst (IsReal keys)
    (λ i. record { root = root; tree = selected_tree s.reads root; loads = shown.loads i; app = app; size = size; attributes = attributes; object = shown.object i })
    (image_real keys s.reads root app size attributes sound.reads)

-- What a stage leaves of an object of a version, with these ciphertexts where the file is not honest.
module _ (keys : Keys) (old new : FileState) (o : HeldObject) (v : Version) (c : DataChange) (root : RootRef) (s : Staged) (block : ℕ → List ℕ) (stage : IsStageOf old new o c root s)
    (sound : SoundFile old) (still : SoundFile new) (is : IsObjectOf keys old o v) (honest_still : IsTrue new.honest → IsTrue old.honest) (behind : 4096 ≤ c.range.first)
    (own : (x : Contents) → (c.contents x).attributes ≡ x.attributes) where
  abbrev was : Contents
  was = held_in o old.reads

  abbrev pub changed : Version
  changed = changed_version new v was c s

  abbrev pub decoded : Version
  decoded = version_decoded keys s.root s.tree v.app c.size v.attributes block

  long : s.tree.head.length ≡ 4096 + c.size
  long = ap (λ (h : Head). h.length) stage.head

  size : size_in (adopted o s) ≡ c.size
  size = omega (arith, long)

  key : o.tree.key ≡ unwrapped_of (object_key keys v.app) s.tree.head.wrapped
  key = is.key ∙ ap (λ (h : Head). unwrapped_of (object_key keys v.app) h.wrapped) (sym stage.head)

  -- in an honest file the version stands, and is the changed one
  pub of_changed : IsTrue new.honest → IsObjectOf keys new (adopted o s) changed
  of_changed honest =
      let both = stages_are_versions keys old new o v was c root s own sound still honest (is.stands (honest_still honest)) (has_version keys old o v is (honest_still honest)) stage in
      let shows : IsShownIn keys new.reads changed = both.0.shown new.reads (reads_left new still) in
      let real : IsReal keys changed = replay_real keys new s.root s.tree v.app c.size v.attributes (Sound (c.contents was)) still both.0 in
      let attributes : (c.contents was).attributes ≡ o.attributes = own was in
      record {
        real = real;
        root = refl;
        key = key;
        size = sym size;
        long = long ∙ ap (λ (n : ℕ). 4096 + n) (sym size);
        attributes = is.attributes;
        verified = stage.verified;
        front = version_front keys (adopted o s) changed (c.contents was) new.reads shows real refl refl attributes is.attributes key stage.verified;
        masked = front_masked keys (adopted o s) changed (c.contents was) new.reads shows real refl refl attributes is.attributes key stage.verified (told_taints new);
        bytes = stands_own keys new changed shows;
        stands = λ here. both.0;
        loads = λ here. refl;
        object = λ here. ap (λ (x : Contents). Sound x) (sym (versions_are_held keys new (adopted o s) changed (c.contents was) still both.0 both.1));
      }

  -- in any other its tree spells it
  pub of_decoded : (IsTrue new.honest → ⊥) → IsObjectOf keys new (adopted o s) decoded
  of_decoded off = record {
    real = decoded_real keys s.root s.tree v.app c.size v.attributes block stage.verified;
    root = refl;
    key = key;
    size = sym size;
    long = long ∙ ap (λ (n : ℕ). 4096 + n) (sym size);
    attributes = is.attributes;
    verified = stage.verified;
    front = stages_keep_fronts old new o c root s behind stage is.front;
    masked = λ taints tree told one. absurd (decoded_unshown keys s.root s.tree v.app c.size v.attributes block taints tree one);
    bytes = λ taints tree told one. absurd (decoded_unshown keys s.root s.tree v.app c.size v.attributes block taints tree one);
    stands = λ here. absurd (off here);
    loads = λ here. absurd (off here);
    object = λ here. absurd (off here);
  }
