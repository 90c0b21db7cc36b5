-- What a contract sees of a slot.
use Rattle.node_image.specs.References.{IsCurrent}
use Rattle.std.specs.Prelude.{ℕ, Option, None, Some, IsTrue}
use Rattle.disk_model.specs.State.{FileState}
use Rattle.htree_file.specs.Value.{Staged}
use Rattle.object_file.specs.Changes.{adopted}
use Rattle.object_file.specs.Value.{ObjectValue}
use Rattle.history_seats.specs.Views.{Sight, SlotView}

-- an object apart from its file and its stage
abbrev pub HeldObject : Type 0
HeldObject = ObjectValue (Unit {0})

abbrev pub apart : {F : Type 0} → ObjectValue F → HeldObject
apart o = record {
  tree = record { file = tt; key = o.tree.key; root = o.tree.root; tree = o.tree.tree; stage = None };
  attributes = o.attributes;
}

-- What a slot holds beside its file: nothing; an object that was made and is not committed; a committed object without a stage; or
-- one with its settled stage.
pub data Holding : Type 0 where
  free : Holding
  made : HeldObject → Holding
  live : HeldObject → Holding
  staged : HeldObject → Staged → Holding

-- its number; its seat, unless that is lent; its file, and what it holds beside it; and the place of the event that left its commit in
-- doubt
pub record SlotValue : Type 0 where
  pub number : ℕ
  pub seat : Option (Sight SlotView)
  pub file : FileState
  pub holds : Holding
  pub doubt : Option ℕ

-- no tree is loaded
abbrev pub IsFree : Holding → Type 0
IsFree free = Unit {0}
IsFree (made o) = ⊥
IsFree (live o) = ⊥
IsFree (staged o s) = ⊥

-- there is a committed object without a stage
abbrev pub IsLive : Holding → Type 0
IsLive free = ⊥
IsLive (made o) = ⊥
IsLive (live o) = Unit {0}
IsLive (staged o s) = ⊥

-- and it is such
abbrev pub IfLive : Holding → (HeldObject → Type 0) → Type 0
IfLive free P = Unit {0}
IfLive (made o) P = Unit {0}
IfLive (live o) P = P o
IfLive (staged o s) P = Unit {0}

-- there is a settled stage: a new object, or one of the committed object
abbrev pub HasStage : Holding → Type 0
HasStage free = ⊥
HasStage (made o) = Unit {0}
HasStage (live o) = ⊥
HasStage (staged o s) = Unit {0}

-- there is none
abbrev pub HasNoStage : Holding → Type 0
HasNoStage free = Unit {0}
HasNoStage (made o) = ⊥
HasNoStage (live o) = Unit {0}
HasNoStage (staged o s) = ⊥

-- the committed object
abbrev pub committed : Holding → Option HeldObject
committed free = None
committed (made o) = None
committed (live o) = Some o
committed (staged o s) = Some o

-- what is held once the stage is committed, and once it is given up
abbrev pub with_stage : Holding → Holding
with_stage free = free
with_stage (made o) = live o
with_stage (live o) = live o
with_stage (staged o s) = live (adopted o s)

abbrev pub without_stage : Holding → Holding
without_stage free = free
without_stage (made o) = free
without_stage (live o) = live o
without_stage (staged o s) = live o

-- what always holds of it: each reference is current, and each stage is settled
abbrev pub IsHolding : Holding → Type 0
IsHolding free = Unit {0}
IsHolding (made o) = IsCurrent o.tree.root
IsHolding (live o) = IsCurrent o.tree.root
IsHolding (staged o s) = IsCurrent o.tree.root × IsTrue s.settled × IsCurrent s.root
