-- Replies to calls on an object.
use Rattle.tee_types.specs.declared.reply.Reply.{Reply}
use Rattle.tee_types.specs.declared.reply.Reply.TheVariants.{Content, Info, NotAvailable}

-- the reply has no memory of its own
abbrev pub HasNoBytes : Reply → Type 0
HasNoBytes (Content bytes) = ⊥
HasNoBytes (Info size position flags attributes) = ⊥
HasNoBytes _ = Unit {0}

-- the reply accuses no device
abbrev pub AccusesNone : Reply → Type 0
AccusesNone (NotAvailable cause) = ⊥
AccusesNone _ = Unit {0}
