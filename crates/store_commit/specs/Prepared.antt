-- What the directory's part of a commit leaves.
use Rattle.std.specs.Prelude.{◌≡◌, ◌-◌, ℕ, Bool, true, false, Result, Ok, Err, List, IfSome, IsSome, IsTrue, OnErr, OnOk, Some, None}
use Rattle.disk_model.specs.Faults.{Rose}
use Rattle.disk_model.specs.State.{FileState}
use Rattle.disk_model.specs.Calls.{Syncs}
use Rattle.disk_model.specs.Keeps.{Keeps}
use Rattle.htree_file.specs.declared.fault.TreeFault.{TreeFault}
use Rattle.htree_file.specs.declared.fault.TreeFault.TheVariants.{Failed, NoEntropy}
use Rattle.htree_file.specs.Answers.{FileFailed, FilePassed}
use Rattle.htree_file.specs.Selected.{Lies}
use Rattle.tee_types.specs.declared.reply.Cause.{Cause}
use Rattle.tee_types.specs.declared.reply.Cause.TheVariants.{Fault, Frame, CardResult}
use Rattle.tee_types.specs.declared.reply.Device.TheVariants.{Dir, File, Card, Entropy}
use Rattle.dir_file.specs.View.{DirView, StagedDirectory}
use Rattle.dir_file.specs.EntryForms.{AreEntriesOf}
use Rattle.dir_file.specs.Held.{IsDurable, IsStaged}
use Rattle.dir_file.specs.Stages.{StagesEntry}
use Rattle.crash_core.specs.declared.change.EntryChange.{EntryChange}
use Rattle.crash_core.specs.declared.change.EntryChange.TheVariants.{Put, Clear}
use Rattle.crash_core.specs.EntryChanges.{changed}

-- the cause that a fault of a tree is
abbrev pub TreeCause : TreeFault → Cause → Type 0
TreeCause (Failed count) cause = cause ≡ Fault Dir count
TreeCause (NoEntropy count) cause = cause ≡ Fault Entropy count
TreeCause fault cause = Unit {0}

-- what staging a change answers
abbrev pub StagesChange : (old new : FileState) → (was now : DirView) → EntryChange → {A : Type 0} → Result A TreeFault → Type 0
StagesChange old new was now (Put index entry) result = StagesEntry old new was now index (Some entry) result
StagesChange old new was now (Clear index) result = StagesEntry old new was now index None result

-- the stage is of the change, in the version that the committed directory does not use
pub record IsStageOf (settled : Bool) (was : DirView) (change : EntryChange) (s : StagedDirectory) : Type 0 where
  pub version : s.root.version ≡ 1 - was.root.version
  pub format : s.root.format ≡ was.root.format
  pub entries_are : s.entries ≡ changed was.entries change
  pub is_settled : s.settled ≡ settled
  -- each name and each file stands once still
  pub are : AreEntriesOf was.entries → AreEntriesOf s.entries

-- a stage stands: as the file reads, or once settled in every image
abbrev pub StageStands : Bool → FileState → (tsk : List ℕ) → StagedDirectory → Type 0
StageStands false new tsk s = IsStaged new tsk s
StageStands true new tsk s = IsDurable new tsk s.root s.tree s.entries

-- a stage that is settled was written off the committed parts, and then synced
abbrev pub IsSyncedBehind : Bool → (old new : FileState) → DirView → Type 0
IsSyncedBehind false old new was = Unit {0}
IsSyncedBehind true old new was = (mid : FileState) × Keeps (Lies was.tree.layout was.tree.nodes was.root.version) old mid × Syncs mid new

-- The stage that is open is of the change; a file that fails leaves none. The committed reference's places are kept.
pub record Prepares (settled : Bool) (old new : FileState) (was now : DirView) (change : EntryChange) {A : Type 0} (result : Result A Cause) : Type 0 where
  pub same : now ≡ record was { stage = now.stage }
  pub none : OnErr result (now.stage ≡ None)
  pub opens : OnOk result (IsSome now.stage)
  pub next : OnOk result (IfSome now.stage (IsStageOf settled was change))
  pub keeps : Keeps (Lies was.tree.layout was.tree.nodes was.root.version) old new
  pub synced : OnOk result (IsSyncedBehind settled old new was)
  pub stands : OnOk result (IsTrue new.honest → IsDurable old was.tsk was.root was.tree was.entries → IfSome now.stage (StageStands settled new was.tsk))

-- a count rose, and no other
abbrev pub SideCause : (old new : FileState) → (drew draws : ℕ) → Cause → Type 0
SideCause old new drew draws (Fault Dir count) = FileFailed old new count × (draws ≡ drew)
SideCause old new drew draws (Fault Entropy count) = Rose drew draws × (count ≡ draws) × FilePassed old new
SideCause old new drew draws (Fault Card count) = ⊥
SideCause old new drew draws (Fault (File n) count) = ⊥
SideCause old new drew draws (Frame fault) = ⊥
SideCause old new drew draws (CardResult result) = ⊥

abbrev pub PrepareCause : (old new : FileState) → (drew draws : ℕ) → {A : Type 0} → Result A Cause → Type 0
PrepareCause old new drew draws (Ok done) = FilePassed old new × (draws ≡ drew)
PrepareCause old new drew draws (Err cause) = SideCause old new drew draws cause

-- a draw: its count rose where it failed
abbrev pub DrawnCause : (drew draws : ℕ) → {A : Type 0} → Result A Cause → Type 0
DrawnCause drew draws (Ok nonce) = draws ≡ drew
DrawnCause drew draws (Err cause) = Rose drew draws × (cause ≡ Fault Entropy draws)
