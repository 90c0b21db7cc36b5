-- What a change of an object's data leaves.
use Rattle.std.specs.Prelude.{◌≡◌, ℕ, List, length, None}
use Rattle.aes_block.specs.WrappedKey.{unwrapped_of}
use Rattle.node_image.specs.declared.node.RootRef.{RootRef}
use Rattle.store_model.specs.Object.{Contents, Sound}
use Rattle.htree_file.specs.Value.{Staged}
use Rattle.crash_core.specs.MountedObject.{object_in}
use Rattle.object_file.specs.Held.{held_in}
use Rattle.object_file.specs.Value.{ObjectValue, size_in}

-- Under each key that wraps the file's: where the first reference names a sound object of one size in the file before, the
-- second names the changed object, of another, in the file after.
abbrev pub LeavesObject : (key wrapped : List ℕ) → (before : List ℕ) → RootRef → (after : List ℕ) → RootRef → (attributes size now : ℕ) → (change : Contents → Contents) → Type 0
LeavesObject key wrapped before root after next attributes size now change = (tsk : List ℕ) (c : Contents) → key ≡ unwrapped_of tsk wrapped
    → object_in tsk before root size attributes ≡ Sound c → object_in tsk after next now attributes ≡ Sound (change c)

-- the object once its stage is the committed tree
abbrev pub adopted : {F : Type 0} → ObjectValue F → Staged → ObjectValue F
adopted o s = record o { tree = record o.tree { root = s.root; tree = s.tree; stage = None } }

-- Once the stage is adopted, the object holds what it held before, changed; where the committed reference named what it held,
-- under a key that wraps the file's.
abbrev pub HoldsAfter : {F : Type 0} → (old new : ObjectValue F) → (before after : List ℕ) → (change : Contents → Contents) → Staged → Type 0
HoldsAfter old new before after change s = (tsk : List ℕ) → old.tree.key ≡ unwrapped_of tsk old.tree.tree.head.wrapped
    → object_in tsk before old.tree.root (size_in old) (length old.attributes) ≡ Sound (held_in old before)
    → held_in (adopted new s) after ≡ change (held_in old before)
