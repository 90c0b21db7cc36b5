-- What the stage of a change of the object that is loaded gave.
use Rattle.std.proofs.Common.{Err, IsTrue, None, Ok, Option, Result, Some, refl, subst, sym, ℕ, ◌≡◌}
use Rattle.std.specs.Option.{option_map}
use Rattle.serial_calls.proofs.Slots.{live_held, guarded_base}
use Rattle.serial_calls.proofs.Unstaged.{IsChangeBy, unstaged_answers, unstaged_failure}
use Rattle.serial_calls.specs.ChangeReplies.{reply_of_stage}
use Rattle.serial_calls.specs.ChangeStaging.{DataCall, StagesChange, staged_of}
use Rattle.serial_calls.specs.declared.stage_result.Staged.{Staged}
use Rattle.serial_calls.specs.declared.stage_result.Staged.TheVariants.{Root, Unstaged}
use Rattle.history_seats.specs.Records.{Version}
use Rattle.call_steps.specs.GuardedSlots.{SlotInvariant}
use Rattle.call_steps.specs.GuardedReads.{GivesVersion}
use Rattle.call_steps.specs.GuardedStages.{StagesVersion}
use Rattle.node_image.specs.declared.node.RootRef.{RootRef}
use Rattle.call_steps.proofs.LoadedVersions.{holds-version}
use Rattle.call_steps.specs.ObjectLoading.{HoldsVersion}
use Rattle.call_steps.proofs.CommittableSlots.{stages_versions}
use Rattle.call_steps.specs.SlotValues.{IsHolding, IsLive, SlotValue, without_stage}
use Rattle.call_steps.specs.declared.SlotFault.{SlotFault}
use Rattle.core_laws.proofs.Mending.{none_some, some_same}
use Rattle.core_laws.specs.Stores.{Store}
use Rattle.tee_types.specs.declared.reply.Reply.{Reply}

-- a reply that says why nothing was staged
record IsReplyOf (replied : Option Reply) (staged : Staged) : Type 0 where
  pub reply : Reply
  pub told : Some reply ≡ replied
  pub is : staged ≡ Unstaged reply

reply_in : (replied : Option Reply) (staged : Staged) → Some staged ≡ option_map (λ reply. Unstaged reply) replied → IsReplyOf replied staged
reply_in (Some reply) staged is = record { reply = reply; told = refl; is = some_same staged (Unstaged reply) is }
reply_in None staged is = absurd (none_some staged (sym is))

-- The object that the slot held was of the version that it gave.
module _ (store : Store) (old new : SlotValue) (asked : DataCall) (v : Version) (guarded : SlotInvariant store old) (on : IsLive old.holds) (gives : GivesVersion old v)
    (honest : IsTrue new.file.honest → IsTrue old.file.honest) where
  pub held : HoldsVersion store.keys old v
  held = holds-version store old v guarded gives (live_held old.holds on)

  -- the version's change is staged, or the reply is the version's
  pub staged_changes : ((handle : ℕ) → IsChangeBy store old new v held honest (asked.change v.size) asked.position (asked.call handle)) → IsHolding new.holds
      → (given : Result RootRef SlotFault) → StagesVersion store new v (asked.change v.size) given → (staged : Staged) → Some staged ≡ staged_of new.number given → StagesChange store new v asked staged
  staged_changes by holding (Ok root) stages staged is =
      let left = stages_versions store new v (asked.change v.size) root stages holding in
      subst (StagesChange store new v asked) (sym (some_same staged (Root root) is)) (record { next = left.0; staged = left.1; version = left.2 })
  staged_changes by holding (Err fault) stages staged is =
      let told = reply_in (reply_of_stage new.number fault) staged is in
      subst (StagesChange store new v asked) (sym told.is) (record {
        guarded = stages.leaves;
        failure = unstaged_failure new.number fault told.reply told.told;
        answers = λ handle.
            unstaged_answers store old new v held honest (asked.change v.size) asked.position (asked.call handle) (by handle) fault told.reply told.told stages;
      })

-- Without its stage the slot may stand behind its lock.
pub staged_base : (store : Store) (new : SlotValue) (asked : DataCall) (v : Version) → new.doubt ≡ None → (given : Result RootRef SlotFault) → StagesVersion store new v (asked.change v.size) given
    → SlotInvariant store (record new { holds = without_stage new.holds })
staged_base store new asked v settled (Ok root) stages = stages.leaves.1.before
staged_base store new asked v settled (Err fault) stages = guarded_base store new stages.leaves settled
