-- Calls that changed nothing, and the doubts that they leave.
use Rattle.std.proofs.Common.{◌≡◌, ℕ, Bool, true, false, refl, sym, ap, Option, Some, None, true≢false}
use Rattle.tee_types.specs.declared.call.Call.{Call}
use Rattle.tee_types.specs.declared.reply.Reply.{Reply}
use Rattle.tee_types.specs.declared.reply.Reply.TheVariants.{Done, Handle as HandleReply, Content, Info, Found, Refused, Misuse, Corrupt, NotAvailable, CounterSpent, NoMemory}
use Rattle.store_model.specs.Machine.{MachineState}
use Rattle.store_model.specs.Calls.{state_after}
use Rattle.store_model.specs.Doubt.{Doubt}
use Rattle.store_model.specs.ReplayState.{is_undone, keeps_doubt, doubt_after, state_unless_undone}

-- a reply that leaves a doubt leaves the state
pub undone_if_kept : (reply : Reply) → keeps_doubt reply ≡ true → is_undone reply ≡ true
undone_if_kept (Misuse reason) h = refl
undone_if_kept (NotAvailable cause) h = refl
undone_if_kept Done h = absurd (true≢false (sym h))
undone_if_kept (HandleReply number) h = absurd (true≢false (sym h))
undone_if_kept (Content bytes) h = absurd (true≢false (sym h))
undone_if_kept (Info size position flags attributes) h = absurd (true≢false (sym h))
undone_if_kept (Found id size) h = absurd (true≢false (sym h))
undone_if_kept (Refused code) h = absurd (true≢false (sym h))
undone_if_kept Corrupt h = refl
undone_if_kept (CounterSpent counter) h = refl
undone_if_kept NoMemory h = absurd (true≢false (sym h))

-- a doubt that is left was there
pub kept_doubt : (reply : Reply) (o : Option Doubt) (d : Doubt) → doubt_after reply o ≡ Some d → (keeps_doubt reply ≡ true) × (o ≡ Some d)
kept_doubt reply o d e = (elim (keeps_doubt reply) as (λ b. keeps_doubt reply ≡ b → elim b [ true ↦ o | false ↦ None ] ≡ Some d → (keeps_doubt reply ≡ true) × (o ≡ Some d)) [
  | true ↦ λ h e. (h, e)
  | false ↦ λ h e. absurd (cc (e))
]) refl e

-- an undone call
pub undone_state : (s : MachineState) (session : ℕ) (call : Call) (reply : Reply) (b : Bool) → is_undone reply ≡ b → state_unless_undone s session call reply ≡ elim b [ true ↦ s | false ↦ state_after s session call ]
undone_state s session call reply b h = ap (λ c. elim c [ true ↦ s | false ↦ state_after s session call ]) h
