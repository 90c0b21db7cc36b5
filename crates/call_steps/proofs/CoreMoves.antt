-- The gate that the steps lead to is tied to its history, so they are a move.
use Rattle.commit_gate.specs.Gates.{gate_sides}
use Rattle.commit_gate.proofs.RestingMoves.{resting_gates_move}
use Rattle.call_steps.specs.CoreMoves.{GuardedStepsAreMoves, parts_under}
use Rattle.call_steps.proofs.Resting.{tied_under}

pub guarded_steps_are_moves : (F R : Type 0) → GuardedStepsAreMoves F R
guarded_steps_are_moves F R of_file of_port store scenario old new card slots file slot hold to next answered honest back =
    resting_gates_move store scenario (parts_under of_file of_port store scenario old card slots) file slot (gate_sides of_file of_port new.gate) new.gate.doubt new.gate.holds new.journal.knows hold to next.gate
    (tied_under of_file of_port store scenario new to.card next answered) honest back
