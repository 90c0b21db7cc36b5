-- Which steps of the gate its calls are: of the directory's file, and the write of the card.
use Rattle.std.specs.Prelude.{◌≡◌, ◌≢◌, ◌⊎◌, true, [], Option, Some, None, Ok, IsTrue}
use Rattle.disk_model.specs.State.{FileState, Sound, pending}
use Rattle.disk_model.specs.Keeps.{Runs}
use Rattle.node_image.specs.References.{IsCurrent, current_format}
use Rattle.node_image.specs.declared.node.RootRef.{RootRef}
use Rattle.htree_file.specs.Opening.{Loaded}
use Rattle.htree_file.specs.Selected.{Lies}
use Rattle.htree_file.specs.Standing.{IsFirm}
use Rattle.tee_types.specs.Limits.{directory_file}
use Rattle.store_model.specs.Object.{Object}
use Rattle.store_model.specs.Makes.{MakesChange, MapChange}
use Rattle.store_model.specs.Legal.{is_commit_due}
use Rattle.crash_core.specs.Directory.{directory_of}
use Rattle.crash_core.specs.CardBlock.{IsReference}
use Rattle.crash_core.specs.DeviceKeys.{directory_key}
use Rattle.crash_core.specs.declared.change.EntryChange.{EntryChange}
use Rattle.crash_core.specs.declared.change.EntryChange.TheVariants.{Clear, Put}
use Rattle.crash_core.specs.EntryChanges.{IsChange, changed}
use Rattle.crash_core.specs.Mounting.{Held}
use Rattle.crash_core.specs.Sights.{Shows}
use Rattle.crash_core.specs.CoreState.{IsTrusted, PendingCommit, Phase}
use Rattle.crash_core.specs.Seals.{sealed_card}
use Rattle.crash_core.specs.CoreSteps.{Seal}
use Rattle.core_laws.specs.GateParts.{GatePart, replay_of}
use Rattle.core_laws.specs.GateSteps.{GateSteps, Handed, IsGateStep}

-- no commit is pending, or that one is, and is not sealed
abbrev pub IsOpenFor : Option PendingCommit → PendingCommit → Type 0
IsOpenFor pending_ p = ((pending_ ≡ None) ⊎ (pending_ ≡ Some p)) × (p.sealed ≡ None)

-- Calls of the directory's file that write beside the committed tree, for a commit that is not sealed, are steps of the gate: they leave
-- the commit pending, or as it was where they wrote nothing.
abbrev pub DirectoryRunsAreSteps : Type 0
DirectoryRunsAreSteps =
    (phase : Phase) (handed : Option Handed) (g : GatePart) (p : PendingCommit) (tree : Loaded) (new : FileState) → IsOpenFor g.pending p → IsCurrent g.root
    → (IsTrusted phase directory_file → IsFirm g.directory g.root tree) → Runs (Lies tree.layout tree.nodes g.root.version) g.directory new → Sound new → (IsTrusted phase directory_file → IsTrue new.honest)
    → (after : Option PendingCommit) × ((after ≡ g.pending) ⊎ (after ≡ Some p)) × GateSteps phase handed g (record g { directory = new; pending = after })

-- the slot that is handed over shows in its file what a change puts
abbrev pub HandedShows : Phase → Option Handed → EntryChange → Object → Type 0
HandedShows phase (Some handed) (Put index e) object = (handed.file ≡ e.file) × (e.file ≢ directory_file) × (IsTrusted phase e.file → Shows phase.keys handed.state e object)
HandedShows phase (Some handed) (Clear index) object = Unit {0}
HandedShows phase None (Put index e) object = ⊥
HandedShows phase None (Clear index) object = Unit {0}

-- What is asked of a seal, as the gate and the slot that it is handed can tell.
pub record MaySeal (phase : Phase) (handed : Option Handed) (g : GatePart) (p : PendingCommit) (dir : RootRef) : Type 0 where
  pub form : IsReference dir
  pub current : dir.format ≡ current_format
  pub settled : IsTrusted phase directory_file → pending g.directory ≡ []
  pub holds : IsTrusted phase directory_file → directory_of (directory_key phase.keys) g.directory.reads dir ≡ Ok (changed g.entries p.change)
  pub due : is_commit_due (replay_of phase g.view) p.session p.call ≡ true
  pub made : MapChange
  pub makes : MakesChange (replay_of phase g.view).state p.session p.call made
  pub object : Object
  pub change : IsChange ((replay_of phase g.view).state).objects g.entries g.card.counter made p.change object
  pub shows : HandedShows phase handed p.change object

-- The write of the card is a step of the gate.
abbrev pub SealsAreSteps : Type 0
SealsAreSteps =
    (phase : Phase) (handed : Option Handed) (g : GatePart) (p : PendingCommit) (dir : RootRef) (putting : Option Held) → g.pending ≡ Some p → p.sealed ≡ None → MaySeal phase handed g p dir
    → IsGateStep phase handed g (Seal dir) (record g { card = sealed_card g.card dir; pending = Some (record p { sealed = Some dir }); putting = putting })
