-- What a copy of a tree in a file of another format holds, and what it opens to.
use Rattle.std.specs.Prelude.{◌≡◌, ◌⊎◌, ℕ, ◌+◌, ◌-◌, ◌/◌, ◌<◌, ◌≤◌, List, length, get_or, nat_le, cond, Result, Ok, Err}
use Rattle.disk_model.specs.State.{FileState}
use Rattle.disk_model.specs.Calls.{Rests}
use Rattle.disk_model.specs.Keeps.{Keeps}
use Rattle.node_image.specs.declared.node.RootRef.{RootRef}
use Rattle.node_image.specs.Layout.{has_form}
use Rattle.node_image.specs.Parts.{Layout, Off, Part, layout_of, size, start}
use Rattle.node_image.specs.Parts.Part.{block, head, node}
use Rattle.node_image.specs.Tables.{block_bit, child_bit}
use Rattle.node_image.specs.Selection.{head_in, part_in, selected_node, version_in}
use Rattle.htree_file.specs.declared.fault.TreeFault.{TreeFault}
use Rattle.htree_file.specs.declared.fault.TreeFault.TheVariants.{Short}
use Rattle.htree_file.specs.Answers.{FaultCause, FilePassed}
use Rattle.htree_file.specs.Making.{Nowhere}
use Rattle.htree_file.specs.Pages.{Opened, opened_of}
use Rattle.htree_file.specs.Standing.{Stands}

-- the reference to the same tree in a file of another format
abbrev pub moved_root : RootRef → (format : ℕ) → RootRef
moved_root root format = record root { format = format }

-- Of the parts that a reference selects in an image: the head, the first nodes, and of the first blocks those that the image
-- wholly holds.
abbrev pub IsCopied : List ℕ → RootRef → (nodes blocks : ℕ) → Part → Type 0
IsCopied image root nodes blocks (head v) = v ≡ root.version
IsCopied image root nodes blocks (node n v) = (1 ≤ n) × (n ≤ nodes) × (v ≡ version_in image root n)
IsCopied image root nodes blocks (block k v) =
    (k < blocks) × (v ≡ block_bit (selected_node image root (k + 1)).flags) × (start (layout_of root.format) (block k v) + 4096 ≤ length image)

-- These parts of one image stand in the other, which has zero elsewhere, and reaches no further than they do.
pub record HoldsParts (here there : Layout) (before after : List ℕ) (Parts : Part → Type 0) : Type 0 where
  pub stands : (q : Part) → Parts q → Stands there after q (part_in here before q)
  pub elsewhere : (place : ℕ) → ((q : Part) → Parts q → Off there q place) → get_or after place 0 ≡ 0
  pub ends : (end : ℕ) → ((q : Part) → Parts q → start there q + size q ≤ end) → length after ≤ end

-- a copy of so many nodes, and of the blocks on them that are wholly held
abbrev pub IsCopyOf : (before after : List ℕ) → RootRef → (format nodes blocks : ℕ) → Type 0
IsCopyOf before after root format nodes blocks =
    HoldsParts (layout_of root.format) (layout_of format) before after (IsCopied before root nodes blocks)

-- how many nodes are copied: those of the head, or none where it has not its form
abbrev pub copied_nodes : List ℕ → RootRef → ℕ
copied_nodes image root = cond (has_form (part_in (layout_of root.format) image (head root.version))) (head_in image root).greatest 0

-- the copy has each part that the reference selects and the old file wholly holds, and nothing else
abbrev pub IsCopy : (before after : List ℕ) → RootRef → (format : ℕ) → Type 0
IsCopy before after root format = IsCopyOf before after root format (copied_nodes before root) (copied_nodes before root)

-- the file is too short
abbrev pub IsShort : TreeFault → Type 0
IsShort (Short end need) = Unit {0}
IsShort fault = ⊥

-- Both open to the same pages, or to the same fault, but for the two numbers of a file that is too short.
abbrev pub OpenAlike : Result Opened TreeFault → Result Opened TreeFault → Type 0
OpenAlike (Ok a) (Ok b) = a ≡ b
OpenAlike (Err a) (Err b) = (a ≡ b) ⊎ (IsShort a × IsShort b)
OpenAlike (Ok a) (Err b) = ⊥
OpenAlike (Err a) (Ok b) = ⊥

-- under every key the copy opens as the old file does
abbrev pub CopyOpens : (before after : List ℕ) → RootRef → (format : ℕ) → Type 0
CopyOpens before after root format = (wrap : List ℕ) → OpenAlike (opened_of wrap before root) (opened_of wrap after (moved_root root format))

-- the fault is of one of the two files, and no call of the other failed
abbrev pub OneFailed : (from_old from_new to_old to_new : FileState) → TreeFault → Type 0
OneFailed from_old from_new to_old to_new fault =
    (FaultCause from_old from_new fault × FilePassed to_old to_new) ⊎ (FilePassed from_old from_new × FaultCause to_old to_new fault)

-- Calls that read one file and write the other.
pub record CopyRun (from_old from_new to_old to_new : FileState) : Type 0 where
  pub rests : Rests from_old from_new
  pub keeps : Keeps Nowhere to_old to_new

-- no call of either failed
pub record BothPassed (from_old from_new to_old to_new : FileState) : Type 0 where
  pub from : FilePassed from_old from_new
  pub to : FilePassed to_old to_new

-- each answer has its cause
abbrev pub CopyCause : (from_old from_new to_old to_new : FileState) → {A : Type 0} → Result A TreeFault → Type 0
CopyCause from_old from_new to_old to_new (Ok answer) = BothPassed from_old from_new to_old to_new
CopyCause from_old from_new to_old to_new (Err fault) = OneFailed from_old from_new to_old to_new fault

-- the flags of the first nodes that a reference selects
abbrev pub AreFlags : List ℕ → RootRef → (flags : List ℕ) → (count : ℕ) → Type 0
AreFlags image root flags count = (k : ℕ) → k < count → get_or flags k 0 ≡ (selected_node image root (k + 1)).flags

-- the version of node n, by the flags of the nodes before it
abbrev pub version_by_flags : (flags : List ℕ) → (root n : ℕ) → ℕ
version_by_flags flags root n = cond (nat_le n 1) root (child_bit (get_or flags (n / 2 - 1) 0) n)
