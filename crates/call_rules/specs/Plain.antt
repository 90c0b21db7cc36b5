-- The replies that the rules give.
use Rattle.tee_types.specs.declared.reply.Reply.{Reply}
use Rattle.tee_types.specs.declared.reply.Reply.TheVariants.{Done, Handle, Found, Refused, Misuse}

-- a refusal by a return code, or a misuse
abbrev pub IsRefused : Reply → Type 0
IsRefused (Refused code) = Unit {0}
IsRefused (Misuse reason) = Unit {0}
IsRefused _ = ⊥

-- such a refusal, or a reply that the session and the directory give: it has no bytes, and no device has a part in it
abbrev pub IsPlain : Reply → Type 0
IsPlain Done = Unit {0}
IsPlain (Handle number) = Unit {0}
IsPlain (Found id size) = Unit {0}
IsPlain (Refused code) = Unit {0}
IsPlain (Misuse reason) = Unit {0}
IsPlain _ = ⊥
