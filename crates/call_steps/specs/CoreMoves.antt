-- Steps of a gate behind its lock, as a move of the gate among the parts.
use Rattle.std.specs.Prelude.{ℕ, Some}
use Rattle.disk_model.specs.State.{FileState}
use Rattle.rpmb_card.specs.Card.{CardState}
use Rattle.rpmb_card.specs.Port.{PortState}
use Rattle.crash_core.specs.CoreState.{put}
use Rattle.core_laws.specs.Joined.{Parts, PartsHold}
use Rattle.core_laws.specs.Moves.{GateMoves}
use Rattle.core_laws.specs.SlotParts.{SlotPart}
use Rattle.core_laws.specs.Answered.{AreAnswered}
use Rattle.core_laws.specs.TamperScenarios.{TamperScenario}
use Rattle.core_laws.specs.Stores.{Store}
use Rattle.commit_gate.specs.GateMoves.{HandsBack}
use Rattle.commit_gate.specs.FinishedPhases.{phase_under}
use Rattle.commit_gate.specs.GuardedGates.{GuardedGateValue}
use Rattle.call_steps.specs.ServiceCores.{IsDirectoryHonest, IsPart, StepsOn, part_under}

-- the gate as it stands, with these slots
abbrev pub parts_under : {F R : Type 0} → (F → FileState) → (R → PortState) → Store → TamperScenario → GuardedGateValue F R → CardState → (slots : ℕ → SlotPart) → Parts
parts_under of_file of_port store scenario g card slots = record { gate = part_under of_file of_port store scenario g card; slots = slots }

-- Where all parts have their facts, steps that lead to a gate between two calls, and the slot that was handed over comes back, are a move.
-- So moves in any order, of the gate and of slots, are one run of the core machine.
abbrev pub GuardedStepsAreMoves : (F R : Type 0) → Type 0
GuardedStepsAreMoves F R =
    (of_file : F → FileState) (of_port : R → PortState) (store : Store) (scenario : TamperScenario) (old new : GuardedGateValue F R) (card : CardState) (slots : ℕ → SlotPart) (file : ℕ) (slot : SlotPart)
    → let from = parts_under of_file of_port store scenario old card slots in
    PartsHold (phase_under store scenario) from → (to : StepsOn of_file of_port store scenario (Some (record { file = file; state = (slots file).file })) old card new)
    → IsPart of_file of_port store new to.card → AreAnswered store scenario new.journal.knows.all → IsDirectoryHonest of_file of_port store scenario new
    → HandsBack store from file slot new.journal.knows
    → GateMoves (phase_under store scenario) from (parts_under of_file of_port store scenario new to.card (put slots file slot))
