-- Every step of the core machine keeps what holds of it, and so does every run from a start.
use Rattle.std.proofs.Common.{◌≡◌, List, [], ◌∷◌, sym, ap, subst}
use Rattle.tee_types.specs.Limits.{directory_file}
use Rattle.store_model.specs.ReplayState.{ReplayState, opening, replay}
use Rattle.store_model.specs.Record.{Record}
use Rattle.store_model.specs.Legal.{IsLegalFrom}
use Rattle.store_model.specs.Laws.{UnchangedMapsStay}
use Rattle.store_model.specs.Makes.{CommitsMakeChanges}
use Rattle.crash_core.specs.CoreState.{Core, Phase, replay_state}
use Rattle.crash_core.specs.CoreSteps.{Append, CoreStep, DropCommit, DropStage, DropTaking, IsRun, IsStep, RestFile, Seal, SyncDirectory, SyncFile, TakeFile, WriteDirectory, WriteFile}
use Rattle.crash_core.specs.Holding.{CardNames, DirectoryStands, Holds, PendingStands}
use Rattle.crash_core.specs.Theorem.{IsStart}
use Rattle.crash_core.proofs.KeptByCommits.{append_holds, drop_commit_holds, drop_stage_holds, drop_taking_holds, seal_holds, take_holds}
use Rattle.crash_core.proofs.KeptByFiles.{directory_holds, rest_holds, sync_holds, write_holds}

module _ {Root : Type 0} (quiet : UnchangedMapsStay) (commits : CommitsMakeChanges) (phase : Phase) where
  -- Each step keeps what every step keeps.
  pub step_holds : (c : Core Root) → Holds phase c → (step : CoreStep Root) (d : Core Root) → IsStep phase c step d → Holds phase d
  step_holds c h (TakeFile actor file) d s = subst (Holds phase) (sym s.4) (take_holds phase c h file actor s.1)
  step_holds c h (WriteFile actor file from upto) d s = subst (Holds phase) (sym s.7) (write_holds phase c h file from upto s.5 s.1 s.0 s.3 s.4 s.6)
  step_holds c h (SyncFile file) d s = subst (Holds phase) (sym s.3) (sync_holds phase c h file s.1 s.2)
  step_holds c h (WriteDirectory p from upto) d s = subst (Holds phase) (sym s.4) (directory_holds phase c h p from upto s.2 s.0 s.1 s.3)
  step_holds c h SyncDirectory d s = subst (Holds phase) (sym s.2) (sync_holds phase c h directory_file s.0 s.1)
  step_holds c h (Seal dir) d s = subst (Holds phase) (sym s.4) (seal_holds phase c h commits s.0 dir s.1 s.2 s.3)
  step_holds c h (Append r) d s = append_holds quiet phase c h r d s
  step_holds c h (DropStage file) d s = subst (Holds phase) (sym s) (drop_stage_holds phase c h file)
  step_holds c h (DropTaking file) d s = subst (Holds phase) (sym s.1) (drop_taking_holds phase c h file)
  step_holds c h DropCommit d s = subst (Holds phase) (sym s.3) (drop_commit_holds phase c h s.0 s.1 s.2)
  step_holds c h (RestFile file) d s = subst (Holds phase) (sym s.2) (rest_holds phase c h file s.0 s.1)

  pub run_holds : (c : Core Root) (steps : List (CoreStep Root)) (d : Core Root) → Holds phase c → IsRun phase c steps d → Holds phase d
  run_holds c [] d h run = subst (Holds phase) (sym run) h
  run_holds c (step ∷ steps) d h run = run_holds run.0 steps d (step_holds c h step run.0 run.1) run.2

-- it holds of a start
pub start_holds : {Root : Type 0} (phase : Phase) (c : Core Root) → IsStart phase c → Holds phase c
start_holds {Root = Root} phase c s =
    let first : ReplayState = opening phase.begins in
    let empty : replay_state phase c ≡ first = ap (λ (l : List (Record Root)). replay (opening phase.begins) l) s.no_history in
    record {
      sound = s.sound;
      honest = s.honest;
      legal = subst (IsLegalFrom phase.tampered first) (sym s.no_history) tt;
      committed = λ trusted. subst (DirectoryStands phase c.files c.root c.entries) (sym (ap (λ (x : ReplayState). (x.state).objects) empty)) (s.directory trusted);
      pending = subst (PendingStands phase c.files c.card c.root c.entries (replay_state phase c)) (sym s.no_pending)
          (subst (CardNames c.card c.root) (sym (ap (λ (x : ReplayState). x.counter) empty)) s.card);
      taken = λ file actor taken. absurd (cc (taken, s.no_takes file));
    }
