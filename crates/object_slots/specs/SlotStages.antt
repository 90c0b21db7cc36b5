-- What a change of an object's data answers, whose stage is settled in the same call.
use Rattle.std.specs.Prelude.{◌≡◌, ℕ, ◌+◌, ◌-◌, List, [], length, max, min, Bool, true, false, Option, None, Result, Ok, Err, IfErr, IfSome, IsSome, IsTrue, OnErr, OnOk}
use Rattle.disk_model.specs.Bytes.{after_resize, after_write}
use Rattle.disk_model.specs.State.{FileState}
use Rattle.disk_model.specs.Calls.{Known, Rests, Syncs}
use Rattle.disk_model.specs.Keeps.{Anywhere, Keeps}
use Rattle.node_image.specs.declared.node.RootRef.{RootRef}
use Rattle.node_image.specs.Layout.{greatest_of}
use Rattle.htree_file.specs.declared.fault.TreeFault.{TreeFault}
use Rattle.htree_file.specs.Changes.{SparesZero}
use Rattle.htree_file.specs.Making.{IsDrawFault}
use Rattle.htree_file.specs.Opening.{IsVerified, load_of}
use Rattle.htree_file.specs.Selected.{KeepsFirm, Lies}
use Rattle.htree_file.specs.Standing.{IsFirm, Told}
use Rattle.htree_file.specs.Value.{Staged}
use Rattle.page_bytes.specs.declared.range.ByteRange.{ByteRange}
use Rattle.page_bytes.specs.Ranges.{needs, resize_range, write_range}
use Rattle.block_file.specs.Reads.{BlocksAnswer, IsEarlyFault, WasRead}
use Rattle.block_file.specs.Stages.{LeavesBytes, SealsRange}
use Rattle.store_model.specs.Object.{Contents}
use Rattle.store_model.specs.Data.{needs_block, resized_contents, written_contents}
use Rattle.object_file.specs.Changes.{HoldsAfter, LeavesObject}
use Rattle.object_file.specs.Corrupt.{CorruptAnswer as TreeCorrupt}
use Rattle.object_file.specs.Held.{held_in}
use Rattle.object_file.specs.Value.{size_in}
use Rattle.object_slots.specs.declared.fault.SlotFault.{SlotFault}
use Rattle.object_slots.specs.declared.fault.SlotFault.TheVariants.{Corrupt, Failed, NoEntropy, NoMemory}
use Rattle.object_slots.specs.SlotFaults.{HasCause, IsFileFault}
use Rattle.object_slots.specs.SlotReads.{CorruptAnswer, HasBadBlock}
use Rattle.object_slots.specs.SlotCalls.{StageSteps}
use Rattle.object_slots.specs.SlotValues.{HeldObject, Holding, live, staged}

-- A change of an object's data: the range of the tree's bytes that it changes; the place of the bytes that are put, and these; the
-- data's size afterwards; what it makes of the object, and of the tree's bytes; and which data blocks it needs.
pub record DataChange : Type 0 where
  pub range : ByteRange
  pub at : ℕ
  pub bytes : List ℕ
  pub size : ℕ
  pub contents : Contents → Contents
  pub left : List ℕ → List ℕ
  pub asked : ℕ → Bool

-- of a write of these bytes at a place of the data
abbrev pub write_change : HeldObject → (at : ℕ) → (bytes : List ℕ) → DataChange
write_change o at bytes = record {
  range = write_range o.tree.tree.head.length (4096 + at) (length bytes);
  at = 4096 + at;
  bytes = bytes;
  size = max (size_in o) (at + length bytes);
  contents = λ c. written_contents c at bytes;
  left = λ old. after_write old (4096 + at) bytes;
  asked = needs_block (size_in o) (min at (size_in o)) (at + length bytes);
}

-- of another size of the data
abbrev pub resize_change : HeldObject → (size : ℕ) → DataChange
resize_change o size = record {
  range = resize_range o.tree.tree.head.length (4096 + size);
  at = 4096 + size;
  bytes = [];
  size = size;
  contents = λ c. resized_contents c size;
  left = λ old. after_resize old (4096 + size);
  asked = needs_block (size_in o) (min size (size_in o)) (max size (size_in o));
}

-- What the stage's reference names, as the file reads: the object that the change makes.
pub record HoldsStage (old new : FileState) (o : HeldObject) (c : DataChange) (s : Staged) : Type 0 where
  pub loads : load_of new.reads s.root ≡ Ok s.tree
  pub object : LeavesObject o.tree.key o.tree.tree.head.wrapped old.reads o.tree.root new.reads s.root (length o.attributes) (size_in o) c.size c.contents
  -- also once it is adopted
  pub holds : HoldsAfter o o old.reads new.reads c.contents s
  -- what lies behind the last byte is zero, and a block that the change misses stays, good or bad
  pub bytes : LeavesBytes o.tree.key o.tree.tree.head.wrapped old.reads o.tree.root new.reads s.root c.range c.left

-- it was written off the committed parts, and then synced
abbrev pub IsSyncedBehind : (old new : FileState) → HeldObject → Type 0
IsSyncedBehind old new o = (mid : FileState) × Keeps (Lies o.tree.tree.layout o.tree.tree.nodes o.tree.root.version) old mid × Syncs mid new

-- The stage is of the change, in the version that the committed tree does not select, and settled.
pub record IsStageOf (old new : FileState) (o : HeldObject) (c : DataChange) (root : RootRef) (s : Staged) : Type 0 where
  pub root_is : s.root ≡ root
  pub settled : IsTrue s.settled
  pub version : s.root.version ≡ 1 - o.tree.root.version
  pub format : s.root.format ≡ o.tree.root.format
  pub head : s.tree.head ≡ record o.tree.tree.head { length = 4096 + c.size; greatest = greatest_of (4096 + c.size) }
  pub synced : IsSyncedBehind old new o
  -- of any file
  pub verified : IsVerified s.root s.tree
  pub spares : SparesZero o.tree.tree s.tree
  pub seals : SealsRange o.tree.key o.tree.tree s.tree old new c.range c.at c.bytes (4096 + c.size)
  pub read : (k : ℕ) → needs c.range k ≡ true → WasRead o.tree.key o.tree.tree old new k
  -- of one that can be followed, where the committed reference names its tree
  pub stands : Told old new → load_of old.reads o.tree.root ≡ Ok o.tree.tree → HoldsStage old new o c s
  -- in every image that an honest file may leave
  pub firm : IsTrue new.honest → load_of old.reads o.tree.root ≡ Ok o.tree.tree → IsFirm new s.root s.tree

-- Why a change is refused: nothing was written or drawn where a block is bad or memory ran out. Where a draw failed nothing was written,
-- and each block that the change needs was read.
abbrev pub StageFault : (old new : FileState) → HeldObject → (asked : ℕ → Bool) → (Undrawn : Type 0) → SlotFault → Type 0
StageFault old new o asked Undrawn Corrupt = HasBadBlock old new o asked × Rests old new × Undrawn
StageFault old new o asked Undrawn NoMemory = Rests old new × Undrawn
StageFault old new o asked Undrawn (NoEntropy count) = Rests old new × ((k : ℕ) → asked k ≡ true → WasRead o.tree.key o.tree.tree old new k)
StageFault old new o asked Undrawn (Failed count) = Unit {0}

abbrev pub StageLeaves : (old new : FileState) → HeldObject → DataChange → Holding → Result RootRef SlotFault → Type 0
StageLeaves old new o c now (Ok root) = (s : Staged) × (now ≡ staged o s) × IsStageOf old new o c root s
StageLeaves old new o c now (Err fault) = now ≡ live o

-- What a change answers, and what is then held. `Undrawn` says that the entropy is as it was.
pub record StagesObject (old new : FileState) (o : HeldObject) (c : DataChange) (now : Holding) (Undrawn : Type 0) (result : Result RootRef SlotFault) : Type 0 where
  pub leaves : StageLeaves old new o c now result
  pub refused : IfErr result (StageFault old new o (needs c.range) Undrawn)
  pub corrupt : Told old new → CorruptAnswer (held_in o old.reads) c.asked result
  -- the committed tree stays
  pub keeps : Keeps (Lies o.tree.tree.layout o.tree.tree.nodes o.tree.root.version) old new
  pub firm : KeepsFirm old new o.tree.root o.tree.tree
  pub verified : IsVerified o.tree.root o.tree.tree
  pub steps : StageSteps old new o

-- What a stage answers before it is settled.
pub record OpensStage (old new : FileState) (o : HeldObject) (c : DataChange) (stage : Option Staged) (Undrawn : Type 0) {A : Type 0} (result : Result A TreeFault) : Type 0 where
  pub opens : OnOk result (IsSome stage)
  pub none : OnErr result (stage ≡ None)
  pub next : OnOk result (IfSome stage (λ s. (s.root.version ≡ 1 - o.tree.root.version) × (s.settled ≡ false)
      × (s.tree.head ≡ record o.tree.tree.head { length = 4096 + c.size; greatest = greatest_of (4096 + c.size) })))
  pub format : OnOk result (IfSome stage (λ s. s.root.format ≡ o.tree.root.format))
  pub verifies : OnOk result (IfSome stage (λ s. IsVerified s.root s.tree))
  pub spares : OnOk result (IfSome stage (λ s. SparesZero o.tree.tree s.tree))
  pub seals : OnOk result (IfSome stage (λ s. SealsRange o.tree.key o.tree.tree s.tree old new c.range c.at c.bytes (4096 + c.size)))
  pub loads : OnOk result (Known old new → load_of old.reads o.tree.root ≡ Ok o.tree.tree → IfSome stage (λ s. load_of new.reads s.root ≡ Ok s.tree))
  pub object : OnOk result (Told old new → load_of old.reads o.tree.root ≡ Ok o.tree.tree →
      IfSome stage (λ s. LeavesObject o.tree.key o.tree.tree.head.wrapped old.reads o.tree.root new.reads s.root (length o.attributes) (size_in o) c.size c.contents))
  pub holds : OnOk result (Told old new → load_of old.reads o.tree.root ≡ Ok o.tree.tree → IfSome stage (HoldsAfter o o old.reads new.reads c.contents))
  pub bytes : OnOk result (Told old new → load_of old.reads o.tree.root ≡ Ok o.tree.tree →
      IfSome stage (λ s. LeavesBytes o.tree.key o.tree.tree.head.wrapped old.reads o.tree.root new.reads s.root c.range c.left))
  pub blocks : BlocksAnswer o.tree.key o.tree.tree old new (needs c.range) result
  pub corrupt : Told old new → TreeCorrupt (held_in o old.reads) c.asked result
  pub early : IfErr result (λ e. IsEarlyFault e → Rests old new × Undrawn)
  pub undrawn : IfErr result (λ e. IsDrawFault e → Rests old new)
  pub keeps : Keeps (Lies o.tree.tree.layout o.tree.tree.nodes o.tree.root.version) old new
  pub verified : IsVerified o.tree.root o.tree.tree

-- what settling leaves
abbrev pub SettleLeaves : HeldObject → Option Staged → Holding → Result RootRef SlotFault → Type 0
SettleLeaves o stage now (Ok root) = IfSome stage (λ s. (root ≡ s.root) × (now ≡ staged o (record s { settled = true })))
SettleLeaves o stage now (Err fault) = now ≡ live o

-- What settling a stage answers; where it fails the stage is given up.
pub record SettlesObject (old new : FileState) (o : HeldObject) (stage : Option Staged) (now : Holding) (result : Result RootRef SlotFault) : Type 0 where
  pub leaves : SettleLeaves o stage now result
  pub synced : OnOk result (Syncs old new)
  pub next_firm : OnOk result (IfSome stage (λ s. IsTrue new.honest → load_of old.reads s.root ≡ Ok s.tree → IsFirm new s.root s.tree))
  pub reads : Known old new → new.reads ≡ old.reads
  pub keeps : Keeps Anywhere old new
  pub cause : HasCause old new result
  pub kind : IfErr result IsFileFault
