-- A gate behind its lock as a part of the core machine, and what its calls are there.
use Rattle.std.specs.Prelude.{Option, IsTrue}
use Rattle.disk_model.specs.State.{FileState}
use Rattle.tee_types.specs.Limits.{directory_file}
use Rattle.rpmb_card.specs.Card.{CardState}
use Rattle.rpmb_card.specs.Port.{PortState}
use Rattle.crash_core.specs.CoreState.{IsTrusted}
use Rattle.core_laws.specs.GateParts.{GatePart}
use Rattle.core_laws.specs.GateSteps.{Handed}
use Rattle.core_laws.specs.Answered.{AreAnswered}
use Rattle.core_laws.specs.TamperScenarios.{TamperScenario}
use Rattle.core_laws.specs.Stores.{Store}
use Rattle.commit_gate.specs.Gates.{gate_sides}
use Rattle.commit_gate.specs.FinishedPhases.{phase_under}
use Rattle.commit_gate.specs.Resting.{IsGateOf, IsResting, StepsTo, resting_part}
use Rattle.commit_gate.specs.GuardedGates.{GateInvariant, GuardedGateValue}

module _ {F R : Type 0} (of_file : F → FileState) (of_port : R → PortState) where
  -- What is known of it between two calls: what always holds behind its lock, how directory and card stand to each other, and which card
  -- its port tells.
  pub record IsPart (store : Store) (g : GuardedGateValue F R) (card : CardState) : Type 0 where
    pub guarded : GateInvariant store g.gate g.journal.knows g.closing
    pub gate : IsGateOf store (gate_sides of_file of_port g.gate) g.gate.doubt g.gate.holds card

  -- the part that it is under a tamper scenario
  abbrev pub part_under : Store → TamperScenario → GuardedGateValue F R → CardState → GatePart
  part_under store scenario g card = resting_part store scenario (gate_sides of_file of_port g.gate) g.gate.doubt g.gate.holds card g.journal.knows

  -- Steps of the core machine lead from the one to the other.
  abbrev pub StepsOn : Store → TamperScenario → Option Handed → (old : GuardedGateValue F R) → CardState → (new : GuardedGateValue F R) → Type 0
  StepsOn store scenario handed old card new =
      StepsTo store scenario handed (part_under store scenario old card) (gate_sides of_file of_port new.gate) new.gate.doubt new.gate.holds new.journal.knows

  -- Where the directory's file is honest to the end, it is honest now.
  abbrev pub IsDirectoryHonest : Store → TamperScenario → GuardedGateValue F R → Type 0
  IsDirectoryHonest store scenario g = IsTrusted (phase_under store scenario) directory_file → IsTrue (of_file g.gate.dir.file).honest

-- Between two calls it has the gate's fact, and no call is under way, under each tamper scenario under which the history is answered.
abbrev pub GuardedGatesRest : (F R : Type 0) → Type 0
GuardedGatesRest F R =
    (of_file : F → FileState) (of_port : R → PortState) (store : Store) (scenario : TamperScenario) (g : GuardedGateValue F R) (card : CardState) → IsPart of_file of_port store g card
    → AreAnswered store scenario g.journal.knows.all → IsDirectoryHonest of_file of_port store scenario g → IsResting (phase_under store scenario) (part_under of_file of_port store scenario g card)
