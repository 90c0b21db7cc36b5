-- What is said of draws, and of a tree that is made.
use Rattle.std.specs.Prelude.{◌≡◌, ℕ, ◌≤◌, List, length, Result, Ok, Err, IfErr, IsTrue}
use Rattle.disk_model.specs.Faults.{Rose}
use Rattle.disk_model.specs.State.{FileState, LeftNow}
use Rattle.node_image.specs.Tables.{at_node}
use Rattle.htree_file.specs.declared.fault.TreeFault.{TreeFault}
use Rattle.htree_file.specs.declared.fault.TreeFault.TheVariants.{Failed, NoEntropy, NoMemory}
use Rattle.htree_file.specs.Answers.{HasCause}
use Rattle.htree_file.specs.Opening.{Loaded}

-- no place
abbrev pub Nowhere : ℕ → Type 0
Nowhere place = ⊥

-- a draw that failed counted a fault of the entropy, which the fault carries; no other fault counted one
abbrev pub DrawFault : (old new : ℕ) → TreeFault → Type 0
DrawFault old new (NoEntropy count) = Rose old new × (count ≡ new)
DrawFault old new fault = new ≡ old

abbrev pub DrawCause : (old new : ℕ) → {A : Type 0} → Result A TreeFault → Type 0
DrawCause old new (Ok answer) = new ≡ old
DrawCause old new (Err fault) = DrawFault old new fault

-- no draw failed
abbrev pub NotEntropy : TreeFault → Type 0
NotEntropy (NoEntropy count) = ⊥
NotEntropy fault = Unit {0}

-- a fault of the file or of the entropy
abbrev pub IsDeviceFault : TreeFault → Type 0
IsDeviceFault (Failed count) = Unit {0}
IsDeviceFault (NoEntropy count) = Unit {0}
IsDeviceFault fault = ⊥

-- what making a tree can answer: no tree was read, so none is faulty
abbrev pub IsMakeFault : TreeFault → Type 0
IsMakeFault NoMemory = Unit {0}
IsMakeFault fault = IsDeviceFault fault

-- a fault of the entropy
abbrev pub IsDrawFault : TreeFault → Type 0
IsDrawFault (NoEntropy count) = Unit {0}
IsDrawFault fault = ⊥

-- Why a call that writes a file and draws answers as it does. The file counted faults from `old` to `new`, and the entropy
-- from `drew` to `draws`; it is reliable after the call where it was before. Each fault is of the kind.
pub record HasCauses (Kind : TreeFault → Type 0) (old new : FileState) (drew draws : ℕ) (Was Is : Type 0) {A : Type 0} (result : Result A TreeFault) : Type 0 where
  pub file : HasCause old new result
  pub drawn : DrawCause drew draws result
  pub lasts : Was → Is
  pub reliable : Was → IfErr result NotEntropy
  pub kind : IfErr result Kind

-- what a crash leaves is what the file reads as
abbrev pub IsSynced : FileState → Type 0
IsSynced s = IsTrue s.honest → (image : List ℕ) → LeftNow s image → image ≡ s.reads

-- each node names version 0 alone
abbrev pub NamesVersionZero : Loaded → Type 0
NamesVersionZero tree = (n : ℕ) → 1 ≤ n → n ≤ length tree.nodes → (at_node tree.nodes n).flags ≡ 0
