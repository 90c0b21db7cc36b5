-- A slot that may have the stage of a change, and what it is without that.
use Rattle.std.proofs.Common.{None, Option, Result, Some, sym, ℕ, ◌≡◌}
use Rattle.disk_model.specs.Calls.{GoesOn}
use Rattle.disk_model.specs.State.{FileState}
use Rattle.history_seats.specs.Records.{Version}
use Rattle.history_seats.specs.Views.{SlotView}
use Rattle.hmac_keys.specs.declared.Keys.{Keys}
use Rattle.call_steps.specs.GuardedSlots.{IsContentOf, SlotInvariant}
use Rattle.call_steps.specs.SlotObjects.{IsOfVersion}
use Rattle.node_image.specs.declared.node.RootRef.{RootRef}
use Rattle.call_steps.specs.SlotStages.{DataChange, StagesObject}
use Rattle.call_steps.specs.SlotValues.{HeldObject, Holding, IfLive, IsFree, IsLive, SlotValue, free, live, made, staged, without_stage}
use Rattle.call_steps.specs.declared.SlotFault.{SlotFault}
use Rattle.core_laws.proofs.Mending.{none_some}
use Rattle.core_laws.specs.Stores.{Store}

-- what is of a version has no stage
without_same : (keys : Keys) (file : FileState) (holds : Holding) (version : Option Version) → IsOfVersion keys file holds version → IsOfVersion keys file (without_stage holds) version
without_same keys file free version own = own
without_same keys file (live o) version own = own
without_same keys file (made o) version own = absurd own
without_same keys file (staged o s) version own = absurd own

content_without : (keys : Keys) (file : FileState) (view : SlotView) (holds : Holding) (doubt : Option ℕ) → doubt ≡ None → IsContentOf keys file view holds doubt
    → IsContentOf keys file view (without_stage holds) doubt
content_without keys file view holds None none content =
    record { version = content.version; gives = content.gives; holding = without_same keys file holds content.version content.holding }
content_without keys file view holds (Some place) none content = absurd (none_some place (sym none))

-- so a slot behind its lock that is in no doubt has none
pub guarded_base : (store : Store) (slot : SlotValue) → SlotInvariant store slot → slot.doubt ≡ None → SlotInvariant store (record slot { holds = without_stage slot.holds })
guarded_base store slot guarded settled = record {
  seat = guarded.seat;
  is = guarded.is;
  own = guarded.own;
  content = content_without store.keys slot.file guarded.seat.knows slot.holds slot.doubt settled guarded.content;
}

-- an object that is loaded is something
pub live_held : (holds : Holding) → IsLive holds → IsFree holds → ⊥
live_held free on off = on
live_held (made o) on off = off
live_held (live o) on off = off
live_held (staged o s) on off = off

-- A stage of a change of the object that is loaded.
module _ (old new : FileState) (change : HeldObject → DataChange) (now : Holding) (Undrawn : Type 0) where
  -- the meanings of the file go on
  pub stage_goes : (holds : Holding) (result : Result RootRef SlotFault) → IsLive holds → IfLive holds (λ o. StagesObject old new o (change o) now Undrawn result) → GoesOn old new
  stage_goes free result on stages = absurd on
  stage_goes (made o) result on stages = absurd on
  stage_goes (staged o s) result on stages = absurd on
  stage_goes (live o) result on stages = stages.keeps.goes_on
