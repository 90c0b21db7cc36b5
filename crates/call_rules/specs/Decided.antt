-- What is said of a decision's two cases.
use Rattle.std.specs.Prelude.{Option, Some, None}
use Rattle.tee_types.specs.declared.reply.Reply.{Reply}
use Rattle.call_rules.specs.declared.decision.Decision.{Decision}
use Rattle.call_rules.specs.declared.decision.Decision.TheVariants.{Answered, Needs}

-- the call is answered with a reply of which this holds; or nothing is said
abbrev pub IfAnswered : {T : Type 0} → Decision T → (Reply → Type 0) → Type 0
IfAnswered (Answered reply) says = says reply
IfAnswered (Needs more) says = Unit {0}

-- it needs something of which this holds; or nothing is said
abbrev pub IfNeeds : {T : Type 0} → Decision T → (T → Type 0) → Type 0
IfNeeds (Answered reply) says = Unit {0}
IfNeeds (Needs more) says = says more

-- the reply, where the call is answered
abbrev pub answer_in : {T : Type 0} → Decision T → Option Reply
answer_in (Answered reply) = Some reply
answer_in (Needs more) = None
