-- The sessions of a store behind a call.
use Rattle.std.proofs.Common.{◌<◌, ℕ, List, length, Option, Some, None, get_or, sym, subst, inl, inr}
use Rattle.std.specs.Prelude.{slice_set}
use Rattle.std.proofs.lemmas.Bool.{cases_eq}
use Rattle.std.proofs.lemmas.List.{get_or-set_other, get_or-set_same, length-set}
use Rattle.disk_model.specs.State.{FileState}
use Rattle.rpmb_card.specs.Port.{PortState}
use Rattle.tee_types.specs.declared.call.Call.{Call}
use Rattle.tee_types.specs.declared.reply.Reply.{Reply}
use Rattle.core_laws.specs.Stores.{Store}
use Rattle.commit_gate.specs.CallerSessions.{CallerSession, IsCallerOf}
use Rattle.object_calls.specs.Calling.{AnswersCall}
use Rattle.object_calls.specs.OpeningSessions.{AreCallers}
use Rattle.object_calls.specs.Services.{ServiceValue}

-- a session that made a call is the store's still
pub caller_behind : {F R E : Type 0} {of_file : F → FileState} {of_port : R → PortState} {draws : E → ℕ} {store : Store} {old new : ServiceValue F R} {was now : CallerSession E} {call : Call} {reply : Reply}
    → (place : Option ℕ) → AnswersCall of_file of_port draws store old new was now call place reply → IsCallerOf store now
caller_behind (Some place) answered = answered.at.goes_on.appends.caller
caller_behind None answered = answered.at.1.waits.caller

-- so each is, where one made it
pub callers_with : {E : Type 0} (store : Store) (was : List (CallerSession E)) (at : ℕ) (after : CallerSession E) → at < length was → AreCallers store was → IsCallerOf store after
    → AreCallers store (slice_set was at after)
callers_with store was at after within callers caller i d below = elim (cases_eq i at) [
  | inl same ↦ subst (λ k. IsCallerOf store (get_or (slice_set was at after) k d)) (sym same) (subst (IsCallerOf store) (sym (get_or-set_same was at after d within)) caller)
  | inr other ↦ subst (IsCallerOf store) (sym (get_or-set_other was at i after d other)) (callers i d (subst (λ n. i < n) (length-set was at after) below))
]
