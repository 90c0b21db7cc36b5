-- What the rules make of a call on an object.
use Rattle.std.proofs.Common.{◌≡◌, ℕ, false, true≢false, Option, IfSome, IsNone, sym, subst}
use Rattle.tee_types.specs.declared.call.Call.{Call}
use Rattle.tee_types.specs.declared.reply.Reply.{Reply}
use Rattle.store_model.specs.Calls.{reply_of}
use Rattle.store_model.specs.Files.{is_misuse}
use Rattle.store_model.specs.Machine.{MachineState, Session}
use Rattle.call_rules.specs.declared.decision.Decision.{Decision}
use Rattle.call_rules.specs.declared.decision.Decision.TheVariants.{Answered, Needs}
use Rattle.call_rules.specs.Decided.{IfAnswered, IfNeeds, answer_in}
use Rattle.call_rules.specs.Told.{IsTold}

-- what is said of an answer is said of the reply
pub decided-told : {T : Type 0} (d : Decision T) (P : Reply → Type 0) → IfAnswered d P → IfSome (answer_in d) P
decided-told (Answered reply) P told = told
decided-told (Needs more) P told = tt

-- and what is said of what the call needs, where there is no reply
pub decided-needs : {T : Type 0} (d : Decision T) (P : T → Type 0) (Q : Type 0) → ((more : T) → P more → Q) → IfNeeds d P → IsNone (answer_in d) → Q
decided-needs (Answered reply) P Q gives h none = absurd (true≢false none)
decided-needs (Needs more) P Q gives h none = gives more h

-- in other words
pub ruled-as : (s : MachineState) (i : ℕ) (caller : Session) (call other : Call) (found reply : Option Reply) → call ≡ other → found ≡ reply
    → IfSome reply (λ reply. IsTold s i other reply caller) → IfSome found (λ reply. IsTold s i call reply caller)
ruled-as s i caller call other found reply is same told =
    subst (λ (p : Call × Option Reply). IfSome p.1 (λ reply. IsTold s i p.0 reply caller)) (λ j. (sym is j, sym same j)) told

pub proper-as : (s : MachineState) (i : ℕ) (call other : Call) → call ≡ other → is_misuse (reply_of s i other) ≡ false → is_misuse (reply_of s i call) ≡ false
proper-as s i call other is proper = subst (λ (x : Call). is_misuse (reply_of s i x) ≡ false) (sym is) proper
