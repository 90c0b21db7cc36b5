-- A slot in whose file a change was staged, or that tells why it was not.
use Rattle.std.proofs.Common.{◌≡◌, ◌∙◌, [], ℕ, Err, IfOk, List, MatchResult, None, Ok, Option, Result, ap, inl, subst, sym}
use Rattle.serial_calls.specs.ChangeCauses.{HasStageCause}
use Rattle.serial_calls.specs.declared.stage_result.Staged.{Staged}
use Rattle.serial_calls.specs.declared.stage_result.Staged.TheVariants.{Root, Unstaged}
use Rattle.serial_calls.specs.ChangeStaging.{DataCall, StagesChange}
use Rattle.dir_records.specs.declared.entry.DirEntry.{DirEntry}
use Rattle.disk_model.specs.Calls.{GoesOn}
use Rattle.history_seats.specs.Records.{Version}
use Rattle.serial_calls.proofs.Contents.{gives_seat, settled_now}
use Rattle.serial_calls.specs.Fills.{GivesEntry}
use Rattle.serial_calls.specs.GuardedSlots.{SlotInvariant}
use Rattle.serial_calls.specs.GuardedReads.{GivesVersion}
use Rattle.node_image.specs.declared.node.RootRef.{RootRef}
use Rattle.serial_calls.specs.SlotValues.{HasStage, SlotValue, without_stage}
use Rattle.serial_calls.specs.Stores.{Store}
use Rattle.tee_types.specs.declared.reply.Device.TheVariants.{File}
use Rattle.tee_types.specs.declared.reply.Reply.{Reply}
use Rattle.serial_calls.specs.DeviceCounts.{Rise, told_of}
use Rattle.serial_calls.specs.Devices.{Devices}
use Rattle.serial_calls.proofs.CountGrowth.{grows_le}
use Rattle.serial_calls.proofs.Tellings.{Rise-told_of}
use Rattle.shared_calls.specs.SharedChange.{HasStaged, told_staged}
use Rattle.shared_calls.specs.Kept.{KeepsSlot}
use Rattle.shared_calls.proofs.SharedVersions.{gives-moved}
use Rattle.shared_calls.proofs.KeptSlots.{keeps-called, keeps-moved, keeps-untold}
use Rattle.shared_calls.proofs.StageCounts.{change-accuses, of_stage}

module _ {X : Type 0} (store : Store) (old new : SlotValue) (e : DirEntry) (asked : DataCall) (guarded : SlotInvariant store old) (given : GivesEntry old e)
    (same : new ≡ record old { file = new.file; holds = new.holds }) (base : SlotInvariant store (record new { holds = without_stage new.holds })) where
  pub has-staged : (result : Result Staged X) → ((v : Version) → GivesVersion old v → IfOk result (StagesChange store new v asked)) → IfOk result (HasStaged store new asked)
  has-staged (Ok staged) stages = record {
    version = given.version;
    gives = gives-moved old new given.version same given.gives;
    settled = ap (λ (s : SlotValue). s.doubt) same ∙ (settled_now store.keys old.file guarded.seat.knows given.version (gives_seat store old given.version guarded given.gives) old.holds old.doubt guarded.content).0;
    base = base;
    stages = stages given.version given.gives;
  }
  has-staged (Err none) stages = tt

-- The reply carries what the file counted, where nothing was staged.
module _ (before : Devices) (old new : SlotValue) (same : new ≡ record old { file = new.file; holds = new.holds }) (goes_on : GoesOn old.file new.file) (k : KeepsSlot before old []) where
  number : new.number ≡ old.number
  number = ap (λ (s : SlotValue). s.number) same

  called : (told : List ℕ) → Rise old.file.faults new.file.faults told → KeepsSlot before new told
  called told rise = keeps-called before old new number told (ap (λ (s : SlotValue). s.seat) same) goes_on rise k

  pub stage-keeps : {X : Type 0} (Reliable : Type 0) (drew draws : ℕ) (result : Result Staged X) → IfOk result (HasStageCause old.file new.file old.number Reliable drew draws)
      → MatchResult result (λ staged. KeepsSlot before new (told_staged new.number staged)) (λ none. KeepsSlot before new [])
  stage-keeps Reliable drew draws (Ok (Root root)) cause = called [] (inl (cause.0).faults)
  stage-keeps Reliable drew draws (Ok (Unstaged reply)) cause =
      subst (λ (n : ℕ). KeepsSlot before new (told_of (File n) reply)) (sym number)
      (called (told_of (File old.number) reply)
      (Rise-told_of [] (of_stage old.file drew) (of_stage new.file draws) (File old.number) reply (change-accuses old.file new.file old.number Reliable drew draws reply cause)
      (grows_le old.file.faults new.file.faults goes_on.faults)))
  stage-keeps Reliable drew draws (Err none) cause = called [] (grows_le old.file.faults new.file.faults goes_on.faults)

-- What was staged may be given up.
module _ (store : Store) (old : SlotValue) (asked : DataCall) (staged : Staged) (has : HasStaged store old asked staged) where
  -- there is a stage
  pub root-staged : (root : RootRef) → staged ≡ Root root → HasStage old.holds
  root-staged root is = (subst (StagesChange store old has.version asked) is has.stages).staged.has

  -- without which the slot may stand behind its lock
  pub given-up : (new : SlotValue) → new ≡ record old { holds = without_stage old.holds; doubt = None } → SlotInvariant store new
  given-up new is =
      subst (SlotInvariant store) (sym (is ∙ ap (λ (doubt : Option ℕ). record old { holds = without_stage old.holds; doubt = doubt }) (sym has.settled))) has.base

  -- or it may so as it is
  pub unstaged-guarded : (reply : Reply) → staged ≡ Unstaged reply → SlotInvariant store old
  unstaged-guarded reply is = (subst (StagesChange store old has.version asked) is has.stages).guarded

-- A slot whose stage is given up keeps what always holds, whatever reply is not appended.
pub given-up-keeps : (before : Devices) (old new : SlotValue) (then : List ℕ) → new ≡ record old { holds = without_stage old.holds; doubt = None } → KeepsSlot before old then → KeepsSlot before new []
given-up-keeps before old new then is k =
    keeps-moved before old new (ap (λ (s : SlotValue). s.number) is) [] (ap (λ (s : SlotValue). s.file) is) (ap (λ (s : SlotValue). s.seat) is) (keeps-untold before old then k)
