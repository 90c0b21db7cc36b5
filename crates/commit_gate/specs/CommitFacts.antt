-- The gate's fact amid a commit, so that other parts may move between its steps.
use Rattle.std.specs.Prelude.{◌≡◌, Option, Some, None, IsTrue}
use Rattle.disk_model.specs.State.{FileState, Sound}
use Rattle.disk_model.specs.Keeps.{Runs}
use Rattle.node_image.specs.declared.node.RootRef.{RootRef}
use Rattle.htree_file.specs.Opening.{Loaded}
use Rattle.htree_file.specs.Selected.{Lies}
use Rattle.htree_file.specs.Standing.{IsFirm}
use Rattle.tee_types.specs.Limits.{directory_file}
use Rattle.store_model.specs.Object.{Object}
use Rattle.crash_core.specs.declared.change.EntryChange.{EntryChange}
use Rattle.crash_core.specs.declared.change.EntryChange.TheVariants.{Clear, Put}
use Rattle.crash_core.specs.Mounting.{Held}
use Rattle.crash_core.specs.CoreState.{IsTrusted, PendingCommit, Phase}
use Rattle.crash_core.specs.Seals.{sealed_card}
use Rattle.core_laws.specs.GateLaws.{MaySeal}
use Rattle.core_laws.specs.GateParts.{GateHolds, GatePart}
use Rattle.core_laws.specs.GateSteps.{Handed}

-- no commit is pending, or one that is not sealed
abbrev pub IsUnsealed : Option PendingCommit → Type 0
IsUnsealed None = Unit {0}
IsUnsealed (Some p) = p.sealed ≡ None

-- Calls of the directory's file that write beside the committed tree keep the gate's fact, up to the seal.
abbrev pub DirectoryRunsKeep : Type 0
DirectoryRunsKeep =
    (phase : Phase) (g : GatePart) (tree : Loaded) (new : FileState) (after : Option PendingCommit) → GateHolds phase g → IsUnsealed g.pending → IsUnsealed after
    → (IsTrusted phase directory_file → IsFirm g.directory g.root tree) → Runs (Lies tree.layout tree.nodes g.root.version) g.directory new → Sound new → (IsTrusted phase directory_file → IsTrue new.honest)
    → GateHolds phase (record g { directory = new; pending = after })

-- the entry that a change puts, with its object
abbrev pub held_put : EntryChange → Object → Option Held
held_put (Put index e) object = Some (record { entry = e; object = object })
held_put (Clear index) object = None

-- The seal keeps it: until the event is appended, the commit under way tells what it puts.
abbrev pub SealsKeep : Type 0
SealsKeep =
    (phase : Phase) (handed : Option Handed) (g : GatePart) (p : PendingCommit) (dir : RootRef) (may : MaySeal phase handed g p dir) → GateHolds phase g → g.pending ≡ Some p → p.sealed ≡ None
    → g.putting ≡ None → (IsTrusted phase directory_file → IsTrue g.directory.honest)
    → GateHolds phase (record g { card = sealed_card g.card dir; pending = Some (record p { sealed = Some dir }); putting = held_put p.change may.object })
