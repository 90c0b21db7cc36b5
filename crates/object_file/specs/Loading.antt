-- Why an entry of the directory has no object in its file.
use Rattle.std.specs.Prelude.{◌≡◌, ◌≢◌, ℕ, ◌+◌, ◌<◌, ◌==◌, List, get_or, take, Option, Some, None, Result, Ok, Err, IsTrue, if◌then◌else◌}
use Rattle.disk_model.specs.State.{FileState}
use Rattle.aes_block.specs.WrappedKey.{unwrapped_of}
use Rattle.node_image.specs.declared.node.RootRef.{RootRef}
use Rattle.node_image.specs.Tables.{at_node}
use Rattle.htree_file.specs.declared.fault.TreeFault.{TreeFault}
use Rattle.htree_file.specs.declared.fault.TreeFault.TheVariants.{BadTag}
use Rattle.htree_file.specs.Answers.{Differs, FaultCause, FilePassed, HasFaultWidths, IsFailed, IsLoadFault, IsOutside}
use Rattle.htree_file.specs.Opening.{IsVerified, Loaded, load_of}
use Rattle.htree_file.specs.Pages.{block_in, page_in, tag_of}
use Rattle.block_file.specs.Reads.{IsBad, IsPage}
use Rattle.crash_core.specs.MountedObject.{root_of}
use Rattle.dir_records.specs.declared.entry.DirEntry.{DirEntry}
use Rattle.object_file.specs.declared.fault.ObjectFault.{ObjectFault}
use Rattle.object_file.specs.declared.fault.ObjectFault.TheVariants.{Tree, WrongSize}

-- block 0, whose page this is, is bad: both tags
abbrev pub first_fault : (image key : List ℕ) → Loaded → Option (List ℕ) → Option ObjectFault
first_fault image key tree (Some page) = None
first_fault image key tree None =
    Some (Tree (BadTag 0 (at_node tree.nodes 1).tag (tag_of key tree.head (at_node tree.nodes 1) 0 (block_in image tree 0))))

-- the tree has not the length that the entry's size wants: both; or else its first block is bad
abbrev pub tree_fault : (image key : List ℕ) → Loaded → (size : ℕ) → Option ObjectFault
tree_fault image key tree size =
    if tree.head.length == 4096 + size then first_fault image key tree (page_in image key tree 0) else Some (WrongSize size tree.head.length)

-- or it does not load
abbrev pub fault_or : (tsk image : List ℕ) → (size : ℕ) → Result Loaded TreeFault → Option ObjectFault
fault_or tsk image size (Ok tree) = tree_fault image (unwrapped_of tsk tree.head.wrapped) tree size
fault_or tsk image size (Err fault) = Some (Tree fault)

-- The first of these that stands against an entry in an image, under the application's key.
abbrev pub fault_of : (tsk : List ℕ) → (image : List ℕ) → DirEntry → Option ObjectFault
fault_of tsk image e = fault_or tsk image e.size (load_of image (root_of e))

-- a fault that comes from outside: of the file, or of memory
abbrev pub IsOutsideObject : ObjectFault → Type 0
IsOutsideObject (Tree fault) = IsOutside fault
IsOutsideObject (WrongSize entry head) = ⊥

-- what loading can answer
abbrev pub IsObjectFault : ObjectFault → Type 0
IsObjectFault (Tree (BadTag k want found)) = k ≡ 0
IsObjectFault (Tree fault) = IsLoadFault fault
IsObjectFault (WrongSize entry head) = Unit {0}

-- the values that a tree's fault carries have the lengths of a hash and of a tag
abbrev pub HasObjectWidths : ObjectFault → Type 0
HasObjectWidths (Tree fault) = HasFaultWidths fault
HasObjectWidths (WrongSize entry head) = Unit {0}

-- a fault of the file has its cause in the file's counts, and no other fault has
abbrev pub ObjectCause : FileState → FileState → ObjectFault → Type 0
ObjectCause old new (Tree fault) = FaultCause old new fault
ObjectCause old new (WrongSize entry head) = FilePassed old new

abbrev pub HasObjectCause : {A : Type 0} → FileState → FileState → Result A ObjectFault → Type 0
HasObjectCause old new (Ok answer) = FilePassed old new
HasObjectCause old new (Err fault) = ObjectCause old new fault

-- What stands against a size and the attributes in a tree that loaded, whatever the file is.
abbrev pub PartFault : (key : List ℕ) → Loaded → (new : FileState) → (size : ℕ) → ObjectFault → Type 0
PartFault key tree new size (Tree (BadTag k want found)) = (k ≡ 0) × (tree.head.length ≡ 4096 + size) × IsBad key tree new 0 want found
PartFault key tree new size (Tree fault) = IsOutside fault
PartFault key tree new size (WrongSize entry head) = (entry ≡ size) × (tree.head.length ≡ head) × (head ≢ 4096 + size)

-- what reading block 0 answers: that it is bad, or that a call of the file failed
abbrev pub FirstFault : (key : List ℕ) → Loaded → (new : FileState) → TreeFault → Type 0
FirstFault key tree new (BadTag k want found) = (k ≡ 0) × IsBad key tree new 0 want found
FirstFault key tree new fault = IsFailed fault

-- block 0 was read, also where there are no attributes, and these are the first bytes of its page
pub record IsFirstRead (key : List ℕ) (tree : Loaded) (old new : FileState) (attributes : List ℕ) (count : ℕ) : Type 0 where
  pub page : List ℕ
  pub read : IsPage key tree old new 0 page
  pub are : (i : ℕ) → i < count → get_or attributes i 0 ≡ get_or page i 0

-- the page of block 0 begins with so many bytes
pub record IsFront (image key : List ℕ) (tree : Loaded) (attributes : List ℕ) (count : ℕ) : Type 0 where
  pub page : List ℕ
  pub stands : page_in image key tree 0 ≡ Some page
  pub front : attributes ≡ take count page

-- a tree that is verified under the reference has that length, and not the one that the size wants
pub record IsWrongSize (root : RootRef) (size head : ℕ) : Type 0 where
  pub tree : Loaded
  pub verified : IsVerified root tree
  pub long : tree.head.length ≡ head
  pub differs : head ≢ 4096 + size

-- the first block of a tree that is verified under the reference is bad, as the file reads now
pub record IsBadFirst (tsk : List ℕ) (root : RootRef) (new : FileState) (want found : List ℕ) : Type 0 where
  pub tree : Loaded
  pub verified : IsVerified root tree
  pub bad : IsBad (unwrapped_of tsk tree.head.wrapped) tree new 0 want found

-- What a refusal says of any file: the value that it carries is what differs, as the file reads.
abbrev pub ObjectDiffers : (tsk : List ℕ) → (new : FileState) → DirEntry → ObjectFault → Type 0
ObjectDiffers tsk new e (Tree (BadTag k want found)) = (k ≡ 0) × IsBadFirst tsk (root_of e) new want found
ObjectDiffers tsk new e (Tree fault) = IsTrue new.tells → Differs new.reads (root_of e) fault
ObjectDiffers tsk new e (WrongSize entry head) = (entry ≡ e.size) × IsWrongSize (root_of e) entry head
