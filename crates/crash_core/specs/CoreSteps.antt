-- The steps of the core machine. Those that are judged by who makes them name the actor.
use Rattle.std.specs.Prelude.{◌≡◌, ◌≢◌, ◌⊎◌, ℕ, List, [], ◌∷◌, Option, Some, None}
use Rattle.disk_model.specs.State.{FileState}
use Rattle.disk_model.specs.Keeps.{write, sync, rest}
use Rattle.node_image.specs.declared.node.RootRef.{RootRef}
use Rattle.tee_types.specs.Limits.{directory_file}
use Rattle.store_model.specs.Record.{Record}
use Rattle.crash_core.specs.EntryLists.{IsUnnamed}
use Rattle.crash_core.specs.EntryChanges.{file_put}
use Rattle.crash_core.specs.Sights.{Misses}
use Rattle.crash_core.specs.CoreState.{Core, IsTrusted, PendingCommit, Phase, put}
use Rattle.crash_core.specs.FileSteps.{IsFileStep, MayWrite, MissesNamed, MissesPending}
use Rattle.crash_core.specs.Seals.{IsSeal, sealed_card}
use Rattle.crash_core.specs.Appends.{IsAppend}

pub data CoreStep (Root : Type 0) : Type 0 where
  -- take a free file
  TakeFile : (actor file : ℕ) → CoreStep Root
  -- write or cut the file of an object: the places from one up to another
  WriteFile : (actor file from upto : ℕ) → CoreStep Root
  SyncFile : (file : ℕ) → CoreStep Root
  -- write or cut the directory's file for a commit
  WriteDirectory : PendingCommit → (from upto : ℕ) → CoreStep Root
  SyncDirectory : CoreStep Root
  -- write the card
  Seal : RootRef → CoreStep Root
  -- append an event to the history
  Append : Record Root → CoreStep Root
  -- drop a stage, the taking of a file, or the pending commit
  DropStage : (file : ℕ) → CoreStep Root
  DropTaking : (file : ℕ) → CoreStep Root
  DropCommit : CoreStep Root
  -- a call that changes nothing that a file holds, as a read, or a sync that fails: only counts of faults rise
  RestFile : (file : ℕ) → CoreStep Root

-- no pending commit puts the file
abbrev pub IsPutByNone : {Root : Type 0} → Core Root → (file : ℕ) → Type 0
IsPutByNone c file = (p : PendingCommit) → c.pending ≡ Some p → file_put p.change ≢ Some file

-- that commit is pending, or none is and it becomes so; it is not sealed
abbrev pub IsOpenCommit : {Root : Type 0} → Core Root → PendingCommit → Type 0
IsOpenCommit c p = ((c.pending ≡ None) ⊎ (c.pending ≡ Some p)) × (p.sealed ≡ None)

-- the step leads from one state to the other
abbrev pub IsStep : {Root : Type 0} → Phase → Core Root → CoreStep Root → Core Root → Type 0
IsStep phase c (TakeFile actor file) d =
    (file ≢ directory_file) × IsUnnamed c.entries file × IsPutByNone c file × (c.takes file ≡ None) × (d ≡ record c { takes = put c.takes file (Some actor) })
IsStep phase c (WriteFile actor file from upto) d =
    (file ≢ directory_file) × (stages : ℕ → Option ℕ) × MayWrite phase c actor file stages
    × (IsTrusted phase file → MissesNamed from upto (c.files file).reads c.entries file)
    × (IsTrusted phase file → MissesPending from upto (c.files file).reads c.pending file)
    × (new : FileState) × IsFileStep phase file (write from upto) (c.files file) new
    × (d ≡ record c { files = put c.files file new; stages = stages })
IsStep phase c (SyncFile file) d =
    (file ≢ directory_file) × (new : FileState) × IsFileStep phase file sync (c.files file) new × (d ≡ record c { files = put c.files file new })
IsStep phase c (WriteDirectory p from upto) d =
    IsOpenCommit c p × (IsTrusted phase directory_file → Misses from upto (c.files directory_file).reads c.root)
    × (new : FileState) × IsFileStep phase directory_file (write from upto) (c.files directory_file) new
    × (d ≡ record c { files = put c.files directory_file new; pending = Some p })
IsStep phase c SyncDirectory d =
    (new : FileState) × IsFileStep phase directory_file sync (c.files directory_file) new × (d ≡ record c { files = put c.files directory_file new })
IsStep phase c (Seal dir) d =
    (p : PendingCommit) × (c.pending ≡ Some p) × (p.sealed ≡ None) × IsSeal phase c p dir
    × (d ≡ record c { card = sealed_card c.card dir; pending = Some (record p { sealed = Some dir }) })
IsStep phase c (Append r) d = IsAppend phase c r d
IsStep phase c (DropStage file) d = d ≡ record c { stages = put c.stages file None }
IsStep phase c (DropTaking file) d = IsPutByNone c file × (d ≡ record c { takes = put c.takes file None })
IsStep phase c DropCommit d = (p : PendingCommit) × (c.pending ≡ Some p) × (p.sealed ≡ None) × (d ≡ record c { pending = None })
IsStep phase c (RestFile file) d =
    (new : FileState) × IsFileStep phase file rest (c.files file) new × (d ≡ record c { files = put c.files file new })

-- a list of steps
abbrev pub IsRun : {Root : Type 0} → Phase → Core Root → List (CoreStep Root) → Core Root → Type 0
IsRun phase c [] d = d ≡ c
IsRun {Root} phase c (step ∷ steps) d = (m : Core Root) × IsStep phase c step m × IsRun phase m steps d
