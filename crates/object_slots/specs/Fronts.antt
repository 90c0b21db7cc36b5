-- The front of an object, block 0, whatever its file is.
use Rattle.std.specs.Prelude.{◌≡◌, ℕ, ◌<◌, ◌≤◌, List, length, get_or}
use Rattle.disk_model.specs.State.{FileState}
use Rattle.node_image.specs.declared.node.RootRef.{RootRef}
use Rattle.htree_file.specs.Changes.{Seals}
use Rattle.htree_file.specs.Value.{Staged}
use Rattle.dir_records.specs.declared.entry.DirEntry.{DirEntry}
use Rattle.object_file.specs.Changes.{adopted}
use Rattle.object_slots.specs.Loads.{IsLoadedBy}
use Rattle.object_slots.specs.Makes.{IsMade}
use Rattle.object_slots.specs.SlotStages.{DataChange, IsStageOf}
use Rattle.object_slots.specs.SlotValues.{HeldObject}

-- The node of block 0 seals a page of 4,096 bytes that begins with the attributes.
pub record HasFront (o : HeldObject) : Type 0 where
  pub page : List ℕ
  pub long : length page ≡ 4096
  pub seals : Seals o.tree.key o.tree.tree 0 page
  pub front : (i : ℕ) → i < length o.attributes → get_or o.attributes i 0 ≡ get_or page i 0

-- so it is of what is loaded
abbrev pub LoadedHaveFronts : Type 0
LoadedHaveFronts = (old new : FileState) (tsk : List ℕ) (e : DirEntry) (o : HeldObject) → IsLoadedBy old new tsk e o → HasFront o

-- of what is made
abbrev pub MadeHaveFronts : Type 0
MadeHaveFronts =
    (old new : FileState) (tsk attributes bytes : List ℕ) (root : RootRef) (o : HeldObject) → length attributes ≤ 2048 → IsMade old new tsk attributes bytes root o → HasFront o

-- and once a change of the data is adopted, which does not reach block 0
abbrev pub StagesKeepFronts : Type 0
StagesKeepFronts =
    (old new : FileState) (o : HeldObject) (c : DataChange) (root : RootRef) (s : Staged) → 4096 ≤ c.range.first → IsStageOf old new o c root s → HasFront o → HasFront (adopted o s)
