-- The resolving of a commit in doubt, as steps of the core machine.
use Rattle.std.specs.Prelude.{◌≡◌, Option, Some, Result}
use Rattle.disk_model.specs.State.{FileState}
use Rattle.rpmb_card.specs.Card.{CardState}
use Rattle.rpmb_card.specs.Port.{PortState}
use Rattle.tee_types.specs.declared.reply.Cause.{Cause}
use Rattle.core_laws.specs.GateSteps.{Handed}
use Rattle.core_laws.specs.Answered.{AreAnswered}
use Rattle.core_laws.specs.TamperScenarios.{TamperScenario}
use Rattle.core_laws.specs.Stores.{Store}
use Rattle.commit_gate.specs.declared.DoubtedChange.{DoubtedChange}
use Rattle.commit_gate.specs.declared.Resolved.{Resolved}
use Rattle.commit_gate.specs.Gates.{gate_sides}
use Rattle.commit_gate.specs.Resolving.{LeavesDoubt, Resolves, ResolvesHolds, TellsCounter}
use Rattle.commit_gate.specs.GuardedGates.{GateInvariant, GuardedGateValue}
use Rattle.commit_gate.specs.Settled.{view_settled}
use Rattle.call_steps.specs.ServiceCores.{IsPart, StepsOn}

module _ {F R : Type 0} (of_file : F → FileState) (of_port : R → PortState) where
  -- What `resolve` of a gate behind its lock leaves.
  pub record ResolvesGuarded (store : Store) (old new : GuardedGateValue F R) (d : DoubtedChange) (result : Result Resolved Cause) : Type 0 where
    pub in_doubt : old.gate.doubt ≡ Some d
    pub resolves : Resolves (gate_sides of_file of_port old.gate) (gate_sides of_file of_port new.gate) d result
    pub doubt : LeavesDoubt old.gate.doubt new.gate.doubt result
    pub holds : ResolvesHolds d result old.gate.holds new.gate.holds
    pub knows : new.journal.knows ≡ view_settled result old.journal.knows
    pub file : of_file new.gate.dir.file ≡ of_file old.gate.dir.file
    pub card : (of_port new.gate.host.port).card ≡ (of_port old.gate.host.port).card
    pub counter : TellsCounter old.gate.host.key old.gate.counter (of_port old.gate.host.port) result
    -- what always holds behind the lock
    pub guarded : GateInvariant store new.gate new.journal.knows new.closing

abbrev pub ResolvedDoubtsAreSteps : (F R : Type 0) → Type 0
ResolvedDoubtsAreSteps F R =
    (of_file : F → FileState) (of_port : R → PortState) (store : Store) (scenario : TamperScenario) (handed : Option Handed) (old new : GuardedGateValue F R) (card : CardState) (d : DoubtedChange)
    (result : Result Resolved Cause) → IsPart of_file of_port store old card → AreAnswered store scenario old.journal.knows.all → ResolvesGuarded of_file of_port store old new d result
    → StepsOn of_file of_port store scenario handed old card new
