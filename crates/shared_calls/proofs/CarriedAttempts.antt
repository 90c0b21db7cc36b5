-- The counts that a round's reply carries for the session's entropy, since before it.
use Rattle.std.proofs.Common.{ℕ, Err, IfOk, IfSome, None, Ok, Option, Result, Some}
use Rattle.serial_calls.specs.declared.PlacedReply.{PlacedReply}
use Rattle.tee_types.specs.declared.reply.Cause.TheVariants.{CardResult, Fault, Frame}
use Rattle.tee_types.specs.declared.reply.Device.TheVariants.{Card, Dir, Entropy, File}
use Rattle.tee_types.specs.declared.reply.Reply.{Reply}
use Rattle.tee_types.specs.declared.reply.Reply.TheVariants.{NotAvailable}
use Rattle.serial_calls.specs.Devices.{Grows}
use Rattle.serial_calls.proofs.CountGrowth.{grows_rose}
use Rattle.shared_calls.specs.SharedCounts.{CarriesDraws}

module _ (first mid last : ℕ) where
  pub carries-grown : (reply : Reply) → Grows first mid → CarriesDraws mid last reply → CarriesDraws first last reply
  carries-grown (NotAvailable (Fault Entropy count)) grows carries = (grows_rose first mid last grows carries.0, carries.1)
  carries-grown (NotAvailable (Fault Dir count)) grows carries = tt
  carries-grown (NotAvailable (Fault Card count)) grows carries = tt
  carries-grown (NotAvailable (Fault (File n) count)) grows carries = tt
  carries-grown (NotAvailable (Frame fault)) grows carries = tt
  carries-grown (NotAvailable (CardResult result)) grows carries = tt
  carries-grown reply grows carries = tt

  pub attempt-grown : {X : Type 0} (result : Result (Option PlacedReply) X) → Grows first mid → IfOk result (λ found. IfSome found (λ answer. CarriesDraws mid last answer.reply))
      → IfOk result (λ found. IfSome found (λ answer. CarriesDraws first last answer.reply))
  attempt-grown (Ok (Some answer)) grows carries = carries-grown answer.reply grows carries
  attempt-grown (Ok None) grows carries = tt
  attempt-grown (Err none) grows carries = tt

  pub call-grown : {X : Type 0} (result : Result PlacedReply X) → Grows first mid → IfOk result (λ answer. CarriesDraws mid last answer.reply) → IfOk result (λ answer. CarriesDraws first last answer.reply)
  call-grown (Ok answer) grows carries = carries-grown answer.reply grows carries
  call-grown (Err none) grows carries = tt
