-- A call on an object that the rules refused.
use Rattle.call_rules.specs.Plain.{IsPlain, IsRefused}
use Rattle.tee_types.specs.declared.reply.Reply.{Reply}
use Rattle.tee_types.specs.declared.reply.Reply.TheVariants.{Misuse, Refused}

-- a refusal has no bytes, and no device has a part in it
pub refused-plain : (reply : Reply) → IsRefused reply → IsPlain reply
refused-plain (Refused code) refused = tt
refused-plain (Misuse reason) refused = tt
refused-plain reply refused = absurd refused
