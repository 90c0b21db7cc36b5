-- Calls of the directory's file that write beside the committed tree are steps of the gate.
use Rattle.std.proofs.Common.{◌≡◌, ◌⊎◌, ℕ, List, [], ◌∷◌, IsTrue, Option, Some, Ok, inl, inr, refl, sym, ◌∙◌, ap, subst, arith}
use Rattle.disk_model.specs.State.{FileState, Sound}
use Rattle.disk_model.specs.Keeps.{CallOff, FileCall, IsFileRun, write, sync, rest}
use Rattle.disk_model.proofs.ImageLaws.{reads_left}
use Rattle.node_image.specs.References.{IsCurrent}
use Rattle.node_image.specs.declared.node.RootRef.{RootRef}
use Rattle.node_image.specs.Selection.{selected_tree}
use Rattle.htree_file.specs.Opening.{Loaded, load_of}
use Rattle.htree_file.specs.Pages.{opened_of}
use Rattle.htree_file.specs.Selected.{Lies}
use Rattle.htree_file.specs.Standing.{IsFirm}
use Rattle.tee_types.specs.Limits.{directory_file}
use Rattle.crash_core.specs.DeviceKeys.{directory_key}
use Rattle.crash_core.specs.Sights.{Sight, Stands, sight_of}
use Rattle.crash_core.specs.CoreState.{IsTrusted, PendingCommit, Phase}
use Rattle.crash_core.specs.FileSteps.{IsFileStep}
use Rattle.crash_core.specs.CoreSteps.{RestFile, SyncDirectory, WriteDirectory}
use Rattle.crash_core.proofs.SameDirectory.{opened_same}
use Rattle.crash_core.proofs.Sightings.{CallMisses, call_stands}
use Rattle.core_laws.specs.GateParts.{GatePart}
use Rattle.core_laws.specs.GateSteps.{GateSteps, Handed}
use Rattle.core_laws.specs.GateLaws.{DirectoryRunsAreSteps, IsOpenFor}
use Rattle.core_laws.specs.Joined.{core_of}
use Rattle.core_laws.proofs.GateStepLaws.{one_step, rest_directory_is_step, steps_then, sync_directory_is_step, write_directory_is_step}
use Rattle.core_laws.proofs.SlotRuns.{call_honest}

-- the reference stands in the file, and loads that tree
pub record StandsLoaded (key : List ℕ) (s : FileState) (root : RootRef) (tree : Loaded) : Type 0 where
  pub sight : Sight
  pub stands : Stands s key root sight
  pub loads : sight.loads ≡ Ok tree

-- a firm tree does
firm_stands : (key : List ℕ) (s : FileState) (root : RootRef) (tree : Loaded) → Sound s → IsCurrent root → IsFirm s root tree → StandsLoaded key s root tree
firm_stands key s root tree sound current firm =
    let here = firm s.reads (reads_left s sound) in
    record {
      sight = sight_of key s.reads root;
      stands = record {
        current = current;
        alike = λ image left.
            let selects : selected_tree image root ≡ selected_tree s.reads root = (firm image left).selects in
            let loads : load_of image root ≡ load_of s.reads root = (firm image left).opens ∙ sym here.opens in
            let opened : opened_of key image root ≡ opened_of key s.reads root = opened_same key image s.reads root selects loads in
            (λ j. record { tree = selects j; loads = loads j; opened = opened j });
      };
      loads = here.opens;
    }

-- what writes at no place of its parts misses it
off_missed : (key : List ℕ) (s : FileState) (root : RootRef) (tree : Loaded) (call : FileCall) → Sound s → StandsLoaded key s root tree → CallOff (Lies tree.layout tree.nodes root.version) call → CallMisses call s.reads root
off_missed key s root tree (write from upto) sound stands off = record {
  tree = tree;
  loads = ap (λ (x : Sight). x.loads) (stands.stands.alike s.reads (reads_left s sound)) ∙ stands.loads;
  off = λ place ge lt at. elim (off place at) [
    | inl before ↦ omega (arith, before, ge)
    | inr past ↦ omega (arith, past, lt)
  ];
}
off_missed key s root tree sync sound stands off = tt
off_missed key s root tree rest sound stands off = tt

-- a file that is honest at the end of a run was so at its beginning
pub file_run_honest : (Kept : ℕ → Type 0) (old : FileState) (calls : List FileCall) (new : FileState) → IsFileRun Kept old calls new → IsTrue new.honest → IsTrue old.honest
file_run_honest Kept old [] new run honest = subst (λ (s : FileState). IsTrue s.honest) run honest
file_run_honest Kept old (call ∷ calls) new run honest = call_honest call old run.0 run.2 (file_run_honest Kept run.0 calls new run.4 honest)

-- where it ends sound, it began so
pub file_run_sound : (Kept : ℕ → Type 0) (old : FileState) (calls : List FileCall) (new : FileState) → IsFileRun Kept old calls new → Sound new → Sound old
file_run_sound Kept old [] new run sound = subst Sound run sound
file_run_sound Kept old (call ∷ calls) new run sound = run.1

module _ (phase : Phase) (handed : Option Handed) (p : PendingCommit) (tree : Loaded) where
  abbrev pub Kept : RootRef → ℕ → Type 0
  Kept root = Lies tree.layout tree.nodes root.version

  -- the commit that is pending after a call, and after a run
  abbrev called_pending : FileCall → Option PendingCommit → Option PendingCommit
  called_pending (write from upto) was = Some p
  called_pending sync was = was
  called_pending rest was = was

  abbrev run_pending : List FileCall → Option PendingCommit → Option PendingCommit
  run_pending [] was = was
  run_pending (call ∷ calls) was = run_pending calls (called_pending call was)

  -- it stays open, and is the old one or this
  still_open : (call : FileCall) (was : Option PendingCommit) → IsOpenFor was p → IsOpenFor (called_pending call was) p
  still_open (write from upto) was open_ = (inr refl, open_.1)
  still_open sync was open_ = open_
  still_open rest was open_ = open_

  still_one : (calls : List FileCall) (was : Option PendingCommit) → (run_pending calls was ≡ was) ⊎ (run_pending calls was ≡ Some p)
  still_one [] was = inl refl
  still_one (write from upto ∷ calls) was = elim (still_one calls (Some p)) [ inl is ↦ inr is | inr is ↦ inr is ]
  still_one (sync ∷ calls) was = still_one calls was
  still_one (rest ∷ calls) was = still_one calls was

  call_step : (g : GatePart) (call : FileCall) (new : FileState) → IsOpenFor g.pending p → (IsTrusted phase directory_file → CallMisses call g.directory.reads g.root) → IsFileStep phase directory_file call g.directory new
      → GateSteps phase handed g (record g { directory = new; pending = called_pending call g.pending })
  call_step g (write from upto) new open_ misses step =
      one_step phase handed g (WriteDirectory p from upto) (record g { directory = new; pending = Some p }) (write_directory_is_step phase handed g p from upto new open_.0 open_.1 misses step)
  call_step g sync new open_ misses step = one_step phase handed g SyncDirectory (record g { directory = new }) (sync_directory_is_step phase handed g new step)
  call_step g rest new open_ misses step = one_step phase handed g (RestFile directory_file) (record g { directory = new }) (rest_directory_is_step phase handed g new step)

  run_steps : (calls : List FileCall) (g : GatePart) (new : FileState) → IsOpenFor g.pending p → (IsTrusted phase directory_file → StandsLoaded (directory_key phase.keys) g.directory g.root tree)
      → IsFileRun (Kept g.root) g.directory calls new → Sound new → (IsTrusted phase directory_file → IsTrue new.honest)
      → GateSteps phase handed g (record g { directory = new; pending = run_pending calls g.pending })
  run_steps [] g new open_ stands run sound honest = record { steps = []; run = λ slots. (λ j. core_of (record g { directory = run j }) slots) }
  run_steps (call ∷ calls) g new open_ stands run sound honest =
      let key : List ℕ = directory_key phase.keys in
      let mid : FileState = run.0 in
      let old : FileState = g.directory in
      let then : GatePart = record g { directory = mid; pending = called_pending call g.pending } in
      let fine : IsTrusted phase directory_file → IsTrue mid.honest = λ trusted. file_run_honest (Kept g.root) mid calls new run.4 (honest trusted) in
      let whole : Sound mid = file_run_sound (Kept g.root) mid calls new run.4 sound in
      let misses : IsTrusted phase directory_file → CallMisses call old.reads g.root = λ trusted. off_missed key old g.root tree call run.1 (stands trusted) run.3 in
      let after : IsTrusted phase directory_file → StandsLoaded key mid g.root tree = λ trusted.
      let was = stands trusted in
      record { sight = was.sight; stands = call_stands call old mid key g.root was.sight run.1 whole (fine trusted) run.2 (misses trusted) was.stands; loads = was.loads } in
      let first : GateSteps phase handed g then = call_step g call mid open_ misses (record { called = run.2; sound = whole; honest = fine }) in
      steps_then phase handed g then (record g { directory = new; pending = run_pending calls (called_pending call g.pending) }) first
      (run_steps calls then new (still_open call g.pending open_) after run.4 sound honest)

pub directory_runs_are_steps : DirectoryRunsAreSteps
directory_runs_are_steps phase handed g p tree new open_ current firm runs sound honest =
    let begins : Sound g.directory = file_run_sound (Lies tree.layout tree.nodes g.root.version) g.directory runs.calls new runs.run sound in (
      run_pending phase handed p tree runs.calls g.pending,
      still_one phase handed p tree runs.calls g.pending,
      run_steps phase handed p tree runs.calls g new open_ (λ trusted. firm_stands (directory_key phase.keys) g.directory g.root tree begins current (firm trusted)) runs.run sound honest,
    )
