-- What is done before a call is answered goes on in its answer.
use Rattle.std.proofs.Common.{◌≡◌, ◌⊎◌, ℕ, Option, Some, None, Result, Ok, Err, IsErr, refl, sym, ◌∙◌, subst, inl, inr}
use Rattle.disk_model.specs.State.{FileState}
use Rattle.rpmb_card.specs.Port.{PortState}
use Rattle.tee_types.specs.declared.call.Call.{Call}
use Rattle.store_model.specs.declared.event.Mark.TheVariants.{Unchanged}
use Rattle.history_seats.specs.Changes.{with_record, call_record}
use Rattle.core_laws.specs.Stores.{Store}
use Rattle.commit_gate.specs.CallerSessions.{CallerSession, IsCallerOf}
use Rattle.commit_gate.specs.SessionViews.{BeginsAll, SeesAll, shown}
use Rattle.open_table.specs.HandleChanges.{NotesReply}
use Rattle.commit_gate.specs.GuardedGates.{GuardedGateValue}
use Rattle.commit_gate.specs.declared.placed_reply.PlacedReply.{PlacedReply}
use Rattle.call_steps.specs.Resolved.{IsSettled, WasResolved}
use Rattle.call_steps.specs.SessionEvents.{IsWaiting}
use Rattle.call_steps.proofs.GoingOn.{appends-then, waits-then}
use Rattle.call_steps.proofs.Resolves.{shown-waits}
use Rattle.call_steps.specs.GateServed.{IsLeft, IsMisused, IsServed, IsUnserved, Ruled, ServesAlone, ServesAtOnce, ServesByRules}

module _ {E F R : Type 0} (store : Store) (before between : CallerSession E) (first : IsWaiting store before between) where
  pub served-from : (call : Call) (answer : PlacedReply) (old new : GuardedGateValue F R) (after : CallerSession E) → IsServed store call answer old new between after
      → IsServed store call answer old new before after
  served-from call answer old new after x = record {
    appends = appends-then store before between after first call answer Unchanged x.appends;
    place = x.place;
    knows =
        subst (λ (p : ℕ × ℕ). new.journal.knows ≡ with_record (call_record p.0 p.1 call answer.reply Unchanged None) old.journal.knows) (λ i. (first.number i, first.made i)) x.knows;
    spare = x.spare;
    gate = x.gate;
    notes = subst (λ (n : ℕ). NotesReply old.gate.open_handles new.gate.open_handles 0 n call answer.reply) first.number x.notes;
    closing = x.closing;
  }

module _ {F R : Type 0} (of_file : F → FileState) (of_port : R → PortState) (reliable : Type 0) (drew draws : ℕ) where
  settled-touched : (old new : GuardedGateValue F R) → IsSettled of_file of_port old new → (new ≡ old) ⊎ WasResolved of_file of_port old new
  settled-touched old new (inl (idle, same)) = inl same
  settled-touched old new (inr resolved) = inr resolved

  -- the rules' answer behind what was settled
  pub serves-behind : {E X : Type 0} (store : Store) (call : Call) (old between new : GuardedGateValue F R) (before shown after : CallerSession E) (result : Result (Option PlacedReply) X)
      → IsLeft of_file of_port store old between before shown → draws ≡ drew → ServesByRules store call between new shown after result
      → ServesAlone of_file of_port reliable drew draws store call old new before after result
  serves-behind store call old between new before shown after (Ok (Some answer)) left undrawn served = record {
    between = between;
    precedes = Ruled left.settled served.1;
    served = served-from store before shown left.waits call answer between new after served.0;
  }
  serves-behind store call old between new before shown after (Ok None) left undrawn same =
      subst (λ (g : GuardedGateValue F R). IsLeft of_file of_port store old g before after) (sym same.0)
      (subst (λ (s : CallerSession _). IsLeft of_file of_port store old between before s) (sym same.1) left)
  serves-behind store call old between new before shown after (Err none) left undrawn same =
      subst (λ (g : GuardedGateValue F R). IsUnserved of_file of_port reliable drew draws store old g before after) (sym same.0)
      (subst (λ (s : CallerSession _). IsUnserved of_file of_port reliable drew draws store old between before s) (sym same.1) (record {
        gate = settled-touched old between left.settled;
        undrawn = undrawn;
        waits = left.waits;
      }))

  -- an error leaves the call unserved
  pub unserved-as : {E X : Type 0} (store : Store) (call : Call) (old new : GuardedGateValue F R) (before after : CallerSession E) (result : Result (Option PlacedReply) X) → IsErr result
      → IsUnserved of_file of_port reliable drew draws store old new before after → ServesAlone of_file of_port reliable drew draws store call old new before after result
  unserved-as store call old new before after (Ok answer) is unserved = absurd (cc (is))
  unserved-as store call old new before after (Err none) is unserved = unserved

  -- and behind a session that was shown the history
  pub serves-shown : {E X : Type 0} (store : Store) (call : Call) (old new : GuardedGateValue F R) (before shown after : CallerSession E) (result : Result (Option PlacedReply) X)
      → IsWaiting store before shown → ServesAlone of_file of_port reliable drew draws store call old new shown after result → ServesAlone of_file of_port reliable drew draws store call old new before after result
  serves-shown store call old new before shown after (Ok (Some answer)) first x = record {
    between = x.between;
    precedes = x.precedes;
    served = served-from store before shown first call answer x.between new after x.served;
  }
  serves-shown store call old new before shown after (Ok None) first x = record {
    settled = x.settled;
    idle = x.idle;
    calm = x.calm;
    waits = waits-then store before shown after first x.waits;
  }
  serves-shown store call old new before shown after (Err none) first x = record {
    gate = x.gate;
    undrawn = x.undrawn;
    waits = waits-then store before shown after first x.waits;
  }

-- the session that `catch_up` gives has no event more
caught_up-waits : {E F R : Type 0} (store : Store) (old middle : GuardedGateValue F R) (before seen : CallerSession E) → IsCallerOf store before → IsCallerOf store seen → BeginsAll old.journal.knows before.pass
    → SeesAll middle.journal.knows seen.pass → middle ≡ old → seen ≡ shown old.journal.knows before → IsWaiting store before (shown old.journal.knows before)
caught_up-waits {E} {F} {R} store old middle before seen caller whole begins sees same is =
    shown-waits store old.journal.knows before (shown old.journal.knows before) caller (subst (IsCallerOf store) is whole) begins
    (subst (λ (p : GuardedGateValue F R × CallerSession E). SeesAll p.0.journal.knows p.1.pass) (λ i. (same i, is i)) sees) refl refl

-- so a call is served behind that
pub serves-after-catch_up : {E F R X : Type 0} (of_file : F → FileState) (of_port : R → PortState) (reliable : E → Type 0) (faults : E → ℕ) (draws : ℕ) (store : Store) (call : Call)
    (old middle new : GuardedGateValue F R) (before seen after : CallerSession E) (result : Result (Option PlacedReply) X) → IsCallerOf store before → IsCallerOf store seen → BeginsAll old.journal.knows before.pass
    → SeesAll middle.journal.knows seen.pass → middle ≡ old → seen ≡ shown old.journal.knows before
    → ServesAlone of_file of_port (reliable seen.entropy) (faults seen.entropy) draws store call middle new seen after result
    → ServesAlone of_file of_port (reliable before.entropy) (faults before.entropy) draws store call old new before after result
serves-after-catch_up {E} {F} {R} of_file of_port reliable faults draws store call old middle new before seen after result caller whole begins sees same is x =
    serves-shown of_file of_port (reliable before.entropy) (faults before.entropy) draws store call old new before (shown old.journal.knows before) after result
    (caught_up-waits store old middle before seen caller whole begins sees same is)
    (subst (λ (p : GuardedGateValue F R × CallerSession E). ServesAlone of_file of_port (reliable p.1.entropy) (faults p.1.entropy) draws store call p.0 new p.1 after result) (λ i. (same i, is i)) x)

-- A misuse is answered at once behind a session that was shown the history.
module _ {E F R X : Type 0} (store : Store) (call : Call) where
  at_once_shown : (old new : GuardedGateValue F R) (before here after : CallerSession E) (result : Result (Option PlacedReply) X) → IsWaiting store before here
      → here.entropy ≡ before.entropy → ServesAtOnce store call old new here after result → ServesAtOnce store call old new before after result
  at_once_shown old new before here after (Ok (Some answer)) first entropy x = record {
    served = served-from store before here first call answer old new after x.served;
    misuse = x.misuse;
    entropy = x.entropy ∙ entropy;
  }
  at_once_shown old new before here after (Ok None) first entropy x = x
  at_once_shown old new before here after (Err none) first entropy x = (x.0, x.1 ∙ entropy)

  pub at_once_caught_up : (old middle new : GuardedGateValue F R) (before seen after : CallerSession E) (result : Result (Option PlacedReply) X) → IsCallerOf store before
      → IsCallerOf store seen → BeginsAll old.journal.knows before.pass → SeesAll middle.journal.knows seen.pass → middle ≡ old → seen ≡ shown old.journal.knows before
      → (IsMisused middle seen.state call → ServesAtOnce store call middle new seen after result) → IsMisused old (shown old.journal.knows before).state call
      → ServesAtOnce store call old new before after result
  at_once_caught_up old middle new before seen after result caller whole begins sees same is at_once misused =
      at_once_shown old new before (shown old.journal.knows before) after result (caught_up-waits store old middle before seen caller whole begins sees same is) refl
      (subst (λ (p : GuardedGateValue F R × CallerSession E). IsMisused p.0 p.1.state call → ServesAtOnce store call p.0 new p.1 after result) (λ i. (same i, is i)) at_once misused)

-- An error of it stays one.
pub at_once_err : {E F R X : Type 0} (store : Store) (call : Call) (old new : GuardedGateValue F R) (before after : CallerSession E) (result : Result (Option PlacedReply) X) → IsErr result
    → (new ≡ old) × (after.entropy ≡ before.entropy) → ServesAtOnce store call old new before after result
at_once_err store call old new before after (Ok answer) is x = absurd (cc (is))
at_once_err store call old new before after (Err e) is x = x
