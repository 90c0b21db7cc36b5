-- The file of a slot, and what it holds, by the parts that the slot has.
use Rattle.std.specs.Prelude.{◌≡◌, Option, None, Some}
use Rattle.disk_model.specs.State.{FileState, no_file}
use Rattle.htree_file.specs.Value.{Staged}
use Rattle.object_slots.specs.SlotValues.{HeldObject, Holding, IsHolding, apart, free, live, made, staged}
use Rattle.object_slots.specs.declared.content.Content.{Content}
use Rattle.object_slots.specs.declared.content.Content.TheVariants.{Free, Made, Live, Staged as Kept}

-- the object with its stage, if it has one
abbrev pub with_own_stage : HeldObject → Option Staged → Holding
with_own_stage o None = live o
with_own_stage o (Some s) = staged o s

abbrev pub holding_in : {F : Type 0} → Content F → Holding
holding_in (Free file) = free
holding_in (Made o) = made (apart o)
holding_in (Live o) = live (apart o)
holding_in (Kept o) = with_own_stage (apart o) o.tree.stage

abbrev pub file_in : {F : Type 0} → (state : F → FileState) → Content F → FileState
file_in state (Free file) = state file
file_in state (Made o) = state o.tree.file
file_in state (Live o) = state o.tree.file
file_in state (Kept o) = state o.tree.file

-- an object has a stage exactly where it is kept with one
abbrev pub IsStageKept : Option Staged → Type 0
IsStageKept None = ⊥
IsStageKept (Some s) = Unit {0}

abbrev pub IsContent : {F : Type 0} → Content F → Type 0
IsContent (Free file) = Unit {0}
IsContent (Made o) = (o.tree.stage ≡ None) × IsHolding (made (apart o))
IsContent (Live o) = (o.tree.stage ≡ None) × IsHolding (live (apart o))
IsContent (Kept o) = IsStageKept o.tree.stage × IsHolding (with_own_stage (apart o) o.tree.stage)

abbrev pub holding_of : {F : Type 0} → Option (Content F) → Holding
holding_of None = free
holding_of (Some content) = holding_in content

abbrev pub file_of : {F : Type 0} → (state : F → FileState) → Option (Content F) → FileState
file_of state None = no_file
file_of state (Some content) = file_in state content

-- something is there
abbrev pub IsFilled : {F : Type 0} → Option (Content F) → Type 0
IsFilled None = ⊥
IsFilled (Some content) = IsContent content
