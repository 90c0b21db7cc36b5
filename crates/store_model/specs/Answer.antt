-- How a call of the program may answer: as the machine does, or for want of memory without any change.
use Rattle.std.specs.Prelude.{◌≡◌, ◌⊎◌}
use Rattle.tee_types.specs.declared.reply.Reply.{Reply}
use Rattle.tee_types.specs.declared.reply.Reply.TheVariants.{NoMemory}
use Rattle.store_model.specs.Machine.{MachineState, Outcome}

-- the reply and the state of that outcome
pub record IsOutcome (outcome : Outcome) (reply : Reply) (new : MachineState) : Type 0 where
  pub replied : reply ≡ outcome.reply
  pub changed : new ≡ outcome.next

-- that outcome; or want of memory is answered, and nothing changed
abbrev pub IsAnswer : Outcome → MachineState → Reply → MachineState → Type 0
IsAnswer outcome old reply new = IsOutcome outcome reply new ⊎ ((reply ≡ NoMemory) × (new ≡ old))
