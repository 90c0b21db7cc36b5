-- A gate behind its lock is the gate's part, at rest.
use Rattle.disk_model.specs.State.{FileState}
use Rattle.rpmb_card.specs.Card.{CardState}
use Rattle.rpmb_card.specs.Port.{PortState}
use Rattle.core_laws.specs.Answered.{AreAnswered}
use Rattle.core_laws.specs.TamperScenarios.{TamperScenario}
use Rattle.core_laws.specs.Stores.{Store}
use Rattle.commit_gate.specs.Gates.{gate_sides}
use Rattle.commit_gate.specs.Readings.{IsTiedUnder}
use Rattle.commit_gate.proofs.RestingGates.{resting_gates_hold}
use Rattle.commit_gate.proofs.Ties.{ties_tell}
use Rattle.commit_gate.specs.GuardedGates.{GuardedGateValue}
use Rattle.call_steps.specs.ServiceCores.{IsPart, GuardedGatesRest}

module _ {F R : Type 0} (of_file : F → FileState) (of_port : R → PortState) (store : Store) (scenario : TamperScenario) (g : GuardedGateValue F R) (card : CardState)
    (p : IsPart of_file of_port store g card) (answered : AreAnswered store scenario g.journal.knows.all) where
  pub tied_under : IsTiedUnder store scenario g.journal.knows g.gate.dir.dir.entries g.gate.counter g.gate.doubt
  tied_under =
      ties_tell store scenario g.journal.knows g.gate.dir.dir.entries g.gate.counter g.gate.doubt p.guarded.journal.mounted p.guarded.tied answered
      (p.guarded.journal.in_step scenario answered)

pub guarded_gates_rest : (F R : Type 0) → GuardedGatesRest F R
guarded_gates_rest F R of_file of_port store scenario g card p answered honest =
    resting_gates_hold store scenario (gate_sides of_file of_port g.gate) g.gate.doubt g.gate.holds card g.journal.knows p.gate
    (tied_under of_file of_port store scenario g card p answered) honest
