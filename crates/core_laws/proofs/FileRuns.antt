-- A run of calls of a slot's file that keeps what its view knows is a list of steps of the slot.
use Rattle.std.proofs.Common.{◌≡◌, ℕ, List, [], ◌∷◌, map, IsTrue, Option, Some, Ok, inl, inr, refl, subst, arith}
use Rattle.disk_model.specs.State.{FileState, Sound}
use Rattle.disk_model.specs.Keeps.{CallOff, FileCall, IsFileRun, Runs, write, sync, rest}
use Rattle.node_image.specs.declared.node.RootRef.{RootRef}
use Rattle.htree_file.specs.Opening.{Loaded}
use Rattle.htree_file.specs.Selected.{Lies}
use Rattle.history_seats.specs.Records.{Version}
use Rattle.history_seats.specs.Views.{SlotView}
use Rattle.core_laws.specs.SlotParts.{Knows, SlotPart}
use Rattle.core_laws.specs.SlotSteps.{CallFile, FileRunsAreSteps, FileUser, IsSlotCall, IsSlotRun, IsStageAfter, IsStageWritten, KnowsOne, MayStage, Reader, SlotSteps, SparesKnown, Stager, Taker}
use Rattle.core_laws.proofs.SlotRuns.{call_honest}

-- the stage that is open after a write, and after any call
abbrev written_stage : FileUser → Option ℕ → Option ℕ
written_stage Reader stage = stage
written_stage (Taker actor) stage = stage
written_stage (Stager actor) stage = Some actor

abbrev called_stage : FileUser → FileCall → Option ℕ → Option ℕ
called_stage user (write from upto) stage = written_stage user stage
called_stage user sync stage = stage
called_stage user rest stage = stage

abbrev run_stage : FileUser → List FileCall → Option ℕ → Option ℕ
run_stage user [] stage = stage
run_stage user (call ∷ calls) stage = run_stage user calls (called_stage user call stage)

is_written : (user : FileUser) (stage : Option ℕ) → MayStage user stage → IsStageWritten user stage (written_stage user stage)
is_written Reader stage may = may
is_written (Taker actor) stage may = refl
is_written (Stager actor) stage may = (may, refl)

is_called : (user : FileUser) (call : FileCall) (stage : Option ℕ) → MayStage user stage → IsStageAfter user call stage (called_stage user call stage)
is_called user (write from upto) stage may = is_written user stage may
is_called user sync stage may = refl
is_called user rest stage may = refl

may_written : (user : FileUser) (stage : Option ℕ) → MayStage user stage → MayStage user (written_stage user stage)
may_written Reader stage may = may
may_written (Taker actor) stage may = may
may_written (Stager actor) stage may = inr refl

may_called : (user : FileUser) (call : FileCall) (stage : Option ℕ) → MayStage user stage → MayStage user (called_stage user call stage)
may_called user (write from upto) stage may = may_written user stage may
may_called user sync stage may = may
may_called user rest stage may = may

-- each version that the view knows loads, and the parts that it selects are kept
abbrev pub AreKept : (Kept : ℕ → Type 0) → SlotView → Type 0
AreKept Kept view = (v : Version) → Knows view v → (tree : Loaded) × (v.loads ≡ Ok tree) × ((place : ℕ) → Lies tree.layout tree.nodes v.root.version place → Kept place)

module _ (Kept : ℕ → Type 0) (user : FileUser) where
  -- what writes at no kept place spares the versions
  off_spares : (view : SlotView) (call : FileCall) → CallOff Kept call → AreKept Kept view → SparesKnown view call
  off_spares view (write from upto) off kept = λ v known.
      let own = kept v known in
      record {
        tree = own.0;
        loads = own.1;
        off = λ place ge lt at. elim (off place (own.2 place at)) [
          | inl before ↦ omega (arith, before, ge)
          | inr past ↦ omega (arith, past, lt)
        ];
      }
  off_spares view sync off kept = tt
  off_spares view rest off kept = tt

  -- the first state of a run is sound, or it is the last one
  run_sound : (old : FileState) (calls : List FileCall) (new : FileState) → IsFileRun Kept old calls new → Sound new → Sound old
  run_sound old [] new run sound = subst Sound run sound
  run_sound old (call ∷ calls) new run sound = run.1

  run_steps : (calls : List FileCall) (old : SlotPart) (new : FileState) → MayStage user old.stage → (IsTrue old.file.honest → AreKept Kept old.view) → IsFileRun Kept old.file calls new → Sound new
      → IsSlotRun user old (map CallFile calls) (record old { file = new; stage = run_stage user calls old.stage })
  run_steps [] old new may kept run sound = (λ j. record { file = run j; view = old.view; stage = old.stage })
  run_steps (call ∷ calls) old new may kept run sound =
      let after : Option ℕ = called_stage user call old.stage in
      let mid : SlotPart = record { file = run.0; view = old.view; stage = after } in
      let was : IsTrue run.0.honest → IsTrue old.file.honest = call_honest call old.file run.0 run.2 in
      let step : IsSlotCall user call old mid = record {
        called = run.2;
        sound = run_sound run.0 calls new run.4 sound;
        spares = λ honest. off_spares old.view call run.3 (kept (was honest));
        stage = is_called user call old.stage may;
        view = refl;
      } in
      (mid, step, run_steps calls mid new (may_called user call old.stage may) (λ honest. kept (was honest)) run.4 sound)

-- A run of calls that keeps these is a list of steps.
pub kept_steps : (Kept : ℕ → Type 0) (user : FileUser) (old : SlotPart) (new : FileState) → MayStage user old.stage → (IsTrue old.file.honest → AreKept Kept old.view) → Runs Kept old.file new → Sound new
    → (stage : Option ℕ) × SlotSteps user old (record old { file = new; stage = stage })
kept_steps Kept user old new may kept runs sound =
    (run_stage user runs.calls old.stage, record { steps = map CallFile runs.calls; run = run_steps Kept user runs.calls old new may kept runs.run sound })

-- a view that knows one tree knows nothing that this does not keep
one_kept : (root : RootRef) (tree : Loaded) (view : SlotView) → KnowsOne root tree view → AreKept (Lies tree.layout tree.nodes root.version) view
one_kept root tree view one v known =
    let own = one v known in (tree, own.1, λ place at. subst (λ (r : RootRef). Lies tree.layout tree.nodes r.version place) own.0 at)

pub file_runs_are_steps : FileRunsAreSteps
file_runs_are_steps user old root tree new may one runs sound =
    kept_steps (Lies tree.layout tree.nodes root.version) user old new may (λ honest. one_kept root tree old.view (one honest)) runs sound
