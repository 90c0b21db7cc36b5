-- What loading a directory answers, of any file.
use Rattle.std.specs.Prelude.{◌≡◌, ℕ, ◌<◌, List, length, Option, Result, Ok, Err}
use Rattle.disk_model.specs.State.{FileState}
use Rattle.aes_block.specs.WrappedKey.{unwrapped_of}
use Rattle.node_image.specs.declared.node.RootRef.{RootRef}
use Rattle.htree_file.specs.declared.fault.TreeFault.TheVariants.{NoEntropy}
use Rattle.htree_file.specs.Answers.{FaultCause, FilePassed, HasFaultWidths, IsOutside}
use Rattle.htree_file.specs.Opening.{Loaded}
use Rattle.dir_records.specs.declared.entry.DirEntry.{DirEntry}
use Rattle.crash_core.specs.declared.fault.DirFault.{DirFault}
use Rattle.crash_core.specs.declared.fault.DirFault.TheVariants.{Tree}
use Rattle.crash_core.specs.Directory.{directory_from}
use Rattle.dir_file.specs.Pages.{AreSealed, some_pages}
use Rattle.dir_file.specs.Seen.{SeesBlock, SeesTree}

-- a fault that comes from outside: of the file, or of memory
abbrev pub IsOutsideDir : DirFault → Type 0
IsOutsideDir (Tree fault) = IsOutside fault
IsOutsideDir fault = ⊥

-- what loading can answer: no vector is drawn
abbrev pub IsDirFault : DirFault → Type 0
IsDirFault (Tree (NoEntropy count)) = ⊥
IsDirFault fault = Unit {0}

-- a fault of the file has its cause in the file's counts, and no other fault has
abbrev pub DirCause : FileState → FileState → DirFault → Type 0
DirCause old new (Tree fault) = FaultCause old new fault
DirCause old new fault = FilePassed old new

abbrev pub HasDirCause : {A : Type 0} → FileState → FileState → Result A DirFault → Type 0
HasDirCause old new (Ok answer) = FilePassed old new
HasDirCause old new (Err fault) = DirCause old new fault

-- the values that a tree's fault carries have the lengths of a hash and of a tag
abbrev pub HasDirWidths : DirFault → Type 0
HasDirWidths (Tree fault) = HasFaultWidths fault
HasDirWidths fault = Unit {0}

-- Eight pages that ciphertexts with the tags of the tree's nodes decipher to, and what they hold as a directory of the tree's length.
pub record HasPages (key : List ℕ) (tree : Loaded) (answer : Result (List (Option DirEntry)) DirFault) : Type 0 where
  pub items : List (List ℕ)
  pub long : length items ≡ 8
  pub sealed : AreSealed key tree items
  pub reads : directory_from (Ok (record { bytes = tree.head.length; pages = some_pages items })) ≡ answer

-- the same under the directory's key
abbrev pub IsReadDirectory : (tsk : List ℕ) → Loaded → (answer : Result (List (Option DirEntry)) DirFault) → Type 0
IsReadDirectory tsk tree answer = HasPages (unwrapped_of tsk tree.head.wrapped) tree answer

-- Such pages, where the ciphertext of each was seen in its block.
pub record SeesPages (old new : FileState) (key : List ℕ) (tree : Loaded) (answer : Result (List (Option DirEntry)) DirFault) : Type 0 where
  pub pages : HasPages key tree answer
  pub blocks : (k : ℕ) (among : k < length pages.items) → SeesBlock old new tree k (pages.sealed k among).0

-- A directory as its file was seen to read, under the directory's key: the tree that the reference names, and each of its blocks.
pub record SeesDirectory (old new : FileState) (tsk : List ℕ) (root : RootRef) (tree : Loaded) (answer : Result (List (Option DirEntry)) DirFault) : Type 0 where
  pub table : SeesTree old new root tree
  pub entries : SeesPages old new (unwrapped_of tsk tree.head.wrapped) tree answer
