-- What the answers of a tree's calls say.
use Rattle.std.specs.Prelude.{◌≡◌, ℕ, ◌<◌, List, length, true, Some, None, Result, Ok, Err, IsTrue}
use Rattle.disk_model.specs.Faults.{Rose}
use Rattle.disk_model.specs.State.{FileState}
use Rattle.node_image.specs.declared.node.NodeImage.{NodeImage}
use Rattle.node_image.specs.declared.node.RootRef.{RootRef}
use Rattle.node_image.specs.declared.head.Head.{Head}
use Rattle.htree_file.specs.declared.fault.TreeFault.{TreeFault}
use Rattle.htree_file.specs.declared.fault.TreeFault.TheVariants.{BadHead, BadTag, Damaged, Failed, NoEntropy, NoMemory, Short}
use Rattle.htree_file.specs.Opening.{IsVerified, Loaded, need_of, table_of}
use Rattle.htree_file.specs.Pages.{is_block, page_of, tag_of}

-- A call of the file failed: the file counted a fault, which the answer carries, and a calm file counted it for want of
-- memory.
pub record FileFailed (old new : FileState) (count : ℕ) : Type 0 where
  pub rose : Rose old.faults new.faults
  pub carried : count ≡ new.faults
  pub calm : IsTrue old.calm → Rose old.starved new.starved

-- no call of the file failed
pub record FilePassed (old new : FileState) : Type 0 where
  pub faults : new.faults ≡ old.faults
  pub starved : new.starved ≡ old.starved

-- a fault of the file has its cause in the file's counts, and no other answer has
abbrev pub FaultCause : FileState → FileState → TreeFault → Type 0
FaultCause old new (Failed count) = FileFailed old new count
FaultCause old new fault = FilePassed old new

-- each answer has its cause
abbrev pub HasCause : {A : Type 0} → FileState → FileState → Result A TreeFault → Type 0
HasCause old new (Ok answer) = FilePassed old new
HasCause old new (Err fault) = FaultCause old new fault

-- a fault of the file
abbrev pub IsFailed : TreeFault → Type 0
IsFailed (Failed count) = Unit {0}
IsFailed fault = ⊥

-- a fault that comes from outside: of the file, or of memory
abbrev pub IsOutside : TreeFault → Type 0
IsOutside (Failed count) = Unit {0}
IsOutside NoMemory = Unit {0}
IsOutside fault = ⊥

-- what loading a tree can answer
abbrev pub IsLoadFault : TreeFault → Type 0
IsLoadFault (BadTag k want found) = ⊥
IsLoadFault (NoEntropy count) = ⊥
IsLoadFault fault = Unit {0}

-- the blocks of a tree that is verified under the reference end there
pub record IsNeed (root : RootRef) (need : ℕ) : Type 0 where
  pub tree : Loaded
  pub verified : IsVerified root tree
  pub is : need ≡ need_of tree.layout tree.nodes (length tree.nodes)

-- What a refusal to load says of any file: the value that it carries is what differs, as the file reads.
abbrev pub Differs : List ℕ → RootRef → TreeFault → Type 0
Differs reads root (BadHead long greatest) = table_of reads root ≡ Err (BadHead long greatest)
Differs reads root (Damaged n want found) = table_of reads root ≡ Err (Damaged n want found)
Differs reads root (Short end need) = (end ≡ length reads) × (end < need) × IsNeed root need
Differs reads root fault = IsOutside fault

-- What reading block k answers, where these are the ciphertexts that may have been read: the page of one that has the
-- node's tag, or both tags of one that has not, and that block.
abbrev pub BlockAnswer : (key : List ℕ) → Head → NodeImage → (k : ℕ) → (MayBe : List ℕ → Type 0) → {A : Type 0} → Result A TreeFault → (page : List ℕ) → Type 0
BlockAnswer key head node k MayBe (Ok done) page = (ciphertext : List ℕ) × MayBe ciphertext × (page_of key head node k ciphertext ≡ Some page)
BlockAnswer key head node k MayBe (Err (BadTag bad want found)) page =
    MayBe page × (page_of key head node k page ≡ None) × (bad ≡ k) × (want ≡ node.tag) × (found ≡ tag_of key head node k page)
    × (is_block page ≡ true)
BlockAnswer key head node k MayBe (Err (Failed count)) page = Unit {0}
BlockAnswer key head node k MayBe (Err fault) page = ⊥

-- the values that a fault carries have the lengths of a hash and of a tag
abbrev pub HasFaultWidths : TreeFault → Type 0
HasFaultWidths (Damaged n want found) = (length want ≡ 32) × (length found ≡ 32)
HasFaultWidths (BadTag k want found) = (length want ≡ 16) × (length found ≡ 16)
HasFaultWidths fault = Unit {0}
