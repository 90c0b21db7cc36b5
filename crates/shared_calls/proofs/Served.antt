-- What the rules, or an object's slot, served, as a call that was answered.
use Rattle.std.proofs.Common.{ℕ}
use Rattle.serial_calls.specs.CallerSessions.{CallerSession}
use Rattle.serial_calls.specs.GateServed.{IsServed as IsServedByRules}
use Rattle.serial_calls.specs.declared.PlacedReply.{PlacedReply}
use Rattle.serial_calls.specs.GuardedGates.{GuardedGateValue}
use Rattle.serial_calls.specs.AnswerServed.{IsServed}
use Rattle.store_model.specs.declared.event.Mark.TheVariants.{Unchanged}
use Rattle.serial_calls.specs.Stores.{Store}
use Rattle.tee_types.specs.declared.call.Call.{Call}
use Rattle.shared_calls.specs.Attempts.{IsAnswered}

module _ {E F R : Type 0} (store : Store) (call : Call) (was now : CallerSession E) (answer : PlacedReply) (old new : GuardedGateValue F R) where
  pub slot-answers : (file : ℕ) → IsServed store old new was now file call answer → IsAnswered store was now call answer
  slot-answers file s = record { mark = Unchanged; appends = s.appends }

  pub ruled-answers : IsServedByRules store call answer old new was now → IsAnswered store was now call answer
  ruled-answers s = record { mark = Unchanged; appends = s.appends }
