-- What making a new object answers.
use Rattle.std.specs.Prelude.{◌≡◌, ℕ, ◌+◌, ◌<◌, List, [], length, Result, Ok, Err, IfErr, OnOk, IsTrue}
use Rattle.disk_model.specs.Bytes.{after_resize}
use Rattle.disk_model.specs.State.{FileState}
use Rattle.disk_model.specs.Calls.{Changes, Known}
use Rattle.disk_model.specs.Keeps.{Keeps}
use Rattle.aes_block.specs.WrappedKey.{unwrapped_of}
use Rattle.node_image.specs.declared.node.RootRef.{RootRef}
use Rattle.htree_file.specs.Changes.{Seals}
use Rattle.htree_file.specs.Making.{NamesVersionZero, Nowhere}
use Rattle.htree_file.specs.Opening.{IsVerified, load_of}
use Rattle.htree_file.specs.Standing.{IsFirm}
use Rattle.store_model.specs.Object.{Contents, Sound}
use Rattle.object_file.specs.MountedObject.{object_in}
use Rattle.object_file.specs.Held.{held_in}
use Rattle.object_file.specs.Making.{IsObjectPage}
use Rattle.object_slots.specs.declared.fault.SlotFault.{SlotFault}
use Rattle.object_slots.specs.SlotFaults.{IsSound}
use Rattle.object_slots.specs.SlotCalls.{TakerSteps}
use Rattle.object_slots.specs.SlotValues.{HeldObject, Holding, free, made}

-- a new object
abbrev pub new_contents : (attributes bytes : List ℕ) → Contents
new_contents attributes bytes = record { attributes = attributes; bytes = bytes; bad = [] }

-- The object was made under the application's key, and its reference names it.
pub record IsMade (old new : FileState) (tsk attributes bytes : List ℕ) (root : RootRef) (o : HeldObject) : Type 0 where
  pub root_is : root ≡ o.tree.root
  pub version : root.version ≡ 0
  pub format : root.format ≡ 2
  pub attributes_are : o.attributes ≡ attributes
  pub size : o.tree.tree.head.length ≡ 4096 + length bytes
  pub key : o.tree.key ≡ unwrapped_of tsk o.tree.tree.head.wrapped
  -- of any file
  pub verified : IsVerified root o.tree.tree
  pub flags : NamesVersionZero o.tree.tree
  pub seals : (k : ℕ) → k < length o.tree.tree.nodes → (page : List ℕ) × IsObjectPage attributes bytes k page × Seals o.tree.key o.tree.tree k page
  -- of one that can be followed
  pub loads : Known old new → load_of new.reads root ≡ Ok o.tree.tree
  pub object : Known old new → object_in tsk new.reads root (length bytes) (length attributes) ≡ Sound (new_contents attributes bytes)
  pub holds : Known old new → held_in o new.reads ≡ new_contents attributes bytes
  -- in every image that an honest file may leave
  pub firm : IsTrue new.honest → IsFirm new root o.tree.tree

abbrev pub MakeLeaves : (old new : FileState) → (tsk attributes bytes : List ℕ) → Holding → Result RootRef SlotFault → Type 0
MakeLeaves old new tsk attributes bytes now (Ok root) = (o : HeldObject) × (now ≡ made o) × IsMade old new tsk attributes bytes root o
MakeLeaves old new tsk attributes bytes now (Err fault) = now ≡ free

-- the first call cut the file to no bytes
pub record IsCut (old new : FileState) : Type 0 where
  pub changes : Changes 0 (length old.reads) old new
  pub resized : Known old new → new.reads ≡ after_resize old.reads 0

pub record CutsFirst (old new : FileState) : Type 0 where
  pub cut : FileState
  pub is_cut : IsCut old cut
  pub keeps : Keeps Nowhere cut new

-- What making answers, and what is then held.
pub record MakesObject (old new : FileState) (tsk attributes bytes : List ℕ) (now : Holding) (result : Result RootRef SlotFault) : Type 0 where
  pub leaves : MakeLeaves old new tsk attributes bytes now result
  pub cuts : OnOk result (CutsFirst old new)
  pub keeps : Keeps Nowhere old new
  pub sound : IfErr result IsSound
  pub steps : TakerSteps old new
