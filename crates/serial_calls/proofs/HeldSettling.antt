-- The files that are held once a commit in doubt was settled, or was not.
use Rattle.std.proofs.Common.{◌≡◌, ◌==◌, ℕ, Bool, true, false, List, None, Ok, Option, Some, refl, sym, ap, ◌∙◌, inl, inr, if◌then◌else◌}
use Rattle.std.proofs.lemmas.Bool.{eq-eqb}
use Rattle.crash_core.specs.EntryChanges.{file_put}
use Rattle.disk_model.specs.State.{FileState}
use Rattle.call_steps.specs.CallerSessions.{CallerSession}
use Rattle.call_steps.specs.Resolved.{HasResolved, IsSettled, StaysInDoubt, WasResolved}
use Rattle.call_steps.specs.GateServed.{IsUnserved, Precedes}
use Rattle.call_steps.specs.GateServed.Precedes.{HeldUp, Misused, Ruled}
use Rattle.call_steps.specs.GuardedGates.{GuardedGateValue}
use Rattle.rpmb_card.specs.Port.{PortState}
use Rattle.call_steps.specs.Gates.{GateValue, file_in_doubt}
use Rattle.call_steps.specs.Holds.{EndsHold, file_held, unless_file}
use Rattle.call_steps.specs.Resolving.{ResolvesHolds}
use Rattle.call_steps.specs.declared.DoubtedChange.{DoubtedChange}
use Rattle.call_steps.specs.declared.Resolved.{Resolved}
use Rattle.call_steps.specs.declared.Resolved.TheVariants.{Dropped, Landed}
use Rattle.core_laws.specs.Stores.{Store}
use Rattle.tee_types.specs.declared.reply.Cause.{Cause}
use Rattle.tee_types.specs.declared.reply.Reply.{Reply}
use Rattle.serial_calls.specs.HeldFiles.{KeepsHolds}
use Rattle.serial_calls.proofs.CommittedCalls.{none_some}

-- the hold that a doubted commit keeps ends, and it was the only one
module _ (put f : ℕ) where
  freed_if : (b : Bool) (held : ℕ) → b ≡ true → (if b then None else Some held) ≡ Some f → ⊥
  freed_if true held is e = none_some f e
  freed_if false held is e = cc

  freed_one : (held : Option ℕ) → ((g : ℕ) → held ≡ Some g → Some put ≡ Some g) → unless_file put held ≡ Some f → ⊥
  freed_one None only is = none_some f is
  freed_one (Some g) only is = freed_if (g == put) g (eq-eqb g put (same_some g (only g refl))) is
    where
      same_some : (g : ℕ) → Some put ≡ Some g → g ≡ put
      same_some g e = cc

freed : (put : Option ℕ) (old new : List (Option ℕ)) → EndsHold put old new → ((s f : ℕ) → file_held old s ≡ Some f → put ≡ Some f) → (s f : ℕ) → file_held new s ≡ Some f → ⊥
freed None old new ends only s f is = none_some f (only s f (ap (λ (l : List (Option ℕ)). file_held l s) (sym ends) ∙ is))
freed (Some put) old new ends only s f is = freed_one put f (file_held old s) (only s) (sym (ends s) ∙ is)

-- the same files are held, for the same doubt
pub alike_holds : {F R : Type 0} (old new : GateValue F R) → new.holds ≡ old.holds → new.doubt ≡ old.doubt → KeepsHolds old new
alike_holds old new holds doubt held s f is = ap file_in_doubt doubt ∙ held s f (ap (λ (l : List (Option ℕ)). file_held l s) (sym holds) ∙ is)

module _ {F R : Type 0} (of_file : F → FileState) (of_port : R → PortState) where
  same_holds : (old mid : GuardedGateValue F R) → mid ≡ old → KeepsHolds old.gate mid.gate
  same_holds old mid same = alike_holds old.gate mid.gate (ap (λ (g : GuardedGateValue F R). g.gate.holds) same) (ap (λ (g : GuardedGateValue F R). g.gate.doubt) same)

  resolved_holds : (nonce : List ℕ) (d : DoubtedChange) (old mid : GuardedGateValue F R) (how : Resolved) → old.gate.doubt ≡ Some d → HasResolved of_file of_port nonce d old mid (Ok how)
      → KeepsHolds old.gate mid.gate
  resolved_holds nonce d old mid how was r held s f is =
      absurd (freed (file_put d.change) old.gate.holds mid.gate.holds (ends how r.holds) (λ s f is. ap file_in_doubt (sym was) ∙ held s f is) s f is)
    where
      ends : (h : Resolved) → ResolvesHolds d (Ok h) old.gate.holds mid.gate.holds → EndsHold (file_put d.change) old.gate.holds mid.gate.holds
      ends (Landed n) e = e
      ends (Dropped n) e = e

  was_holds : (old mid : GuardedGateValue F R) → WasResolved of_file of_port old mid → KeepsHolds old.gate mid.gate
  was_holds old mid w = resolved_holds w.nonce w.doubted old mid w.how w.was w.resolved

  pub settled_holds : (old mid : GuardedGateValue F R) → IsSettled of_file of_port old mid → KeepsHolds old.gate mid.gate
  settled_holds old mid (inl same) = same_holds old mid same.1
  settled_holds old mid (inr w) = was_holds old mid w

  stays_holds : (Reliable : Type 0) (drew draws : ℕ) (old mid : GuardedGateValue F R) (cause : Cause) → StaysInDoubt of_file of_port Reliable drew draws old mid cause → KeepsHolds old.gate mid.gate
  stays_holds Reliable drew draws old mid cause stays = elim stays.why [
    | inl same ↦ same_holds old mid same.0
    | inr read ↦ alike_holds old.gate mid.gate read.1.holds read.1.doubt
  ]

  -- before a call was answered at the gate
  pub precedes_holds : (Reliable : Type 0) (drew draws : ℕ) (old mid : GuardedGateValue F R) (reply : Reply) → Precedes of_file of_port Reliable drew draws old mid reply → KeepsHolds old.gate mid.gate
  precedes_holds Reliable drew draws old mid reply (Misused same is) = same_holds old mid same
  precedes_holds Reliable drew draws old mid reply (Ruled settled plain) = settled_holds old mid settled
  precedes_holds Reliable drew draws old mid reply (HeldUp cause stays is) = stays_holds Reliable drew draws old mid cause stays

  -- as memory ran out at the gate
  pub unserved_holds : {E : Type 0} (Reliable : Type 0) (drew draws : ℕ) (store : Store) (old mid : GuardedGateValue F R) (was now : CallerSession E) → IsUnserved of_file of_port Reliable drew draws store old mid was now
      → KeepsHolds old.gate mid.gate
  unserved_holds Reliable drew draws store old mid was now u = elim u.gate [
    | inl same ↦ same_holds old mid same
    | inr w ↦ was_holds old mid w
  ]

-- room was made
pub room_holds : {F R : Type 0} (old ready : GateValue F R) → ready ≡ record old { open_handles = ready.open_handles; room = ready.room } → KeepsHolds old ready
room_holds old ready gate = alike_holds old ready (ap (λ (g : GateValue _ _). g.holds) gate) (ap (λ (g : GateValue _ _). g.doubt) gate)
