-- What is said of a decision follows case by case.
use Rattle.tee_types.specs.declared.reply.Reply.{Reply}
use Rattle.call_rules.specs.declared.decision.Decision.{Decision}
use Rattle.call_rules.specs.declared.decision.Decision.TheVariants.{Answered, Needs}
use Rattle.call_rules.specs.Decided.{IfAnswered, IfNeeds}

pub if_answered : {T : Type 0} (d : Decision T) (A B C : Reply → Type 0) → ((reply : Reply) → A reply → B reply → C reply) → IfAnswered d A → IfAnswered d B → IfAnswered d C
if_answered (Answered reply) A B C to a b = to reply a b
if_answered (Needs more) A B C to a b = tt

pub if_needs : {T : Type 0} (d : Decision T) (A B : T → Type 0) → ((more : T) → A more → B more) → IfNeeds d A → IfNeeds d B
if_needs (Answered reply) A B to a = tt
if_needs (Needs more) A B to a = to more a
