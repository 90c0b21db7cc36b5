-- The end of an export, from its parts.
use Rattle.std.proofs.Common.{◌≡◌, ◌≤◌, ◌⊎◌, inl, inr, ℕ, List, [], length, refl, subst, Option, Some, Ok, ⊎_elim}
use Rattle.disk_model.specs.State.{FileState}
use Rattle.hmac_keys.specs.declared.Keys.{Keys}
use Rattle.rpmb_card.specs.Port.{PortState}
use Rattle.tee_ports.specs.Streams.{Appends}
use Rattle.script_text.specs.Grammar.{script_of}
use Rattle.script_text.specs.Script.{ScriptValue}
use Rattle.run_acts.specs.Benches.{BenchState}
use Rattle.run_acts.specs.declared.MountFault.{MountFault}
use Rattle.run_acts.specs.Opens.{IsBlockUnread}
use Rattle.script_runner.specs.declared.status.Status.{Status}
use Rattle.script_runner.specs.declared.status.Status.TheVariants.{DeviceFault, Done, FileFault, MountRefused, NoMemory, OverCommitted, WriteFault}
use Rattle.script_runner.specs.Exports.{EndsCopies, ExportsBench, ExportsItsScript, RunsExport, copied, exported, undone, unread}
use Rattle.script_runner.specs.Prints.{PrintsRefusal}
use Rattle.script_runner.specs.RunCauses.{RunsItsScript, World}
use Rattle.script_runner.specs.Runs.{RunsSource}
use Rattle.script_runner.specs.Sending.{Stops}
use Rattle.script_runner.proofs.Wholes.{completed}

-- a reason for the sink's failure that is wider
PrintsRefusal-failed : (failed more : Type 0) (held_old held_new : Option (List ℕ)) (kept : List ℕ) (fault : MountFault) (status : Status) → (failed → more)
    → PrintsRefusal failed held_old held_new kept fault status → PrintsRefusal more held_old held_new kept fault status
PrintsRefusal-failed failed more held_old held_new kept fault WriteFault f t = (t.0, f t.1, t.2)
PrintsRefusal-failed failed more held_old held_new kept fault (MountRefused printed) f t = t
PrintsRefusal-failed failed more held_old held_new kept fault (DeviceFault printed) f t = (t.0, t.1, one t.2)
  where
    one : Appends held_old held_new kept ⊎ (failed × Stops held_old held_new kept []) → Appends held_old held_new kept ⊎ (more × Stops held_old held_new kept [])
    one (inl put) = inl put
    one (inr x) = inr (f x.0, x.1)
PrintsRefusal-failed failed more held_old held_new kept fault NoMemory f t = t
PrintsRefusal-failed failed more held_old held_new kept fault status f t = absurd t

pub ExportsBench-failed : (keys : Keys) (drew draws : ℕ) (handed given : BenchState) (folder_old folder_new : ℕ → FileState) (failed more : Type 0) (held_old held_new : Option (List ℕ)) (status : Status)
    → (failed → more) → ExportsBench keys drew draws handed given folder_old folder_new failed held_old held_new status → ExportsBench keys drew draws handed given folder_old folder_new more held_old held_new status
ExportsBench-failed keys drew draws handed given folder_old folder_new failed more held_old held_new status f (unread fault block same prints) =
    unread fault block same (PrintsRefusal-failed failed more held_old held_new [] fault status f prints)
ExportsBench-failed keys drew draws handed given folder_old folder_new failed more held_old held_new status f (copied copies held) = copied copies held

-- the block could not be read, and that was told
pub ExportsBench-unread : (keys : Keys) (drew draws : ℕ) (handed given : BenchState) (folder : ℕ → FileState) (failed : Type 0) (held_old held_new : Option (List ℕ)) (kept : List ℕ) (fault : MountFault) (status : Status)
    → kept ≡ [] → IsBlockUnread keys handed given drew draws fault → PrintsRefusal failed held_old held_new kept fault status
    → ExportsBench keys drew draws handed given folder folder failed held_old held_new status
ExportsBench-unread keys drew draws handed given folder failed held_old held_new kept fault status none block prints =
    unread fault block refl (subst (λ (text : List ℕ). PrintsRefusal failed held_old held_new text fault status) none prints)

-- a script that was run may have been exported
its_script : (status : Status) → RunsItsScript status → ExportsItsScript status
its_script Done runs = tt
its_script NoMemory runs = tt
its_script (MountRefused fault) runs = tt
its_script (DeviceFault fault) runs = tt
its_script (FileFault broken) runs = tt
its_script (OverCommitted sum) runs = tt
its_script status runs = absurd runs

refused_script : (failed : Type 0) (held_old held_new : Option (List ℕ)) (kept : List ℕ) (fault : MountFault) (status : Status) → (failed → ⊥)
    → PrintsRefusal failed held_old held_new kept fault status → ExportsItsScript status
refused_script failed held_old held_new kept fault Done not t = tt
refused_script failed held_old held_new kept fault NoMemory not t = tt
refused_script failed held_old held_new kept fault (MountRefused printed) not t = tt
refused_script failed held_old held_new kept fault (DeviceFault printed) not t = tt
refused_script failed held_old held_new kept fault (FileFault broken) not t = tt
refused_script failed held_old held_new kept fault WriteFault not t = absurd (not t.1)
refused_script failed held_old held_new kept fault status not t = absurd t

copied_script : (files_old files_new folder_old folder_new : ℕ → FileState) (block : List ℕ) (status : Status) → EndsCopies files_old files_new folder_old folder_new block status → ExportsItsScript status
copied_script files_old files_new folder_old folder_new block Done ends = tt
copied_script files_old files_new folder_old folder_new block NoMemory ends = tt
copied_script files_old files_new folder_old folder_new block (FileFault broken) ends = tt
copied_script files_old files_new folder_old folder_new block status ends = absurd ends

bench_script : (keys : Keys) (drew draws : ℕ) (handed given : BenchState) (folder_old folder_new : ℕ → FileState) (failed : Type 0) (held_old held_new : Option (List ℕ)) (status : Status) → (failed → ⊥)
    → ExportsBench keys drew draws handed given folder_old folder_new failed held_old held_new status → ExportsItsScript status
bench_script keys drew draws handed given folder_old folder_new failed held_old held_new status not (unread fault block same prints) = refused_script failed held_old held_new [] fault status not prints
bench_script keys drew draws handed given folder_old folder_new failed held_old held_new status not (copied c held) =
    copied_script (c.between).files given.files folder_old folder_new c.block status (c.copies).ends

module _ {F R : Type 0} (of_file : F → FileState) (of_port : R → PortState) (image : FileState → ℕ → ℕ → List ℕ) (Reliable : Type 0) where
  -- of a run that was done the sink's failures tell nothing
  done_elsewhere : (left_old left_new held_old held_new : Option (List ℕ)) (w : World) (sink_failed sink_full : Type 0) (drew draws : ℕ) (keys : Keys) (handed given : BenchState)
      → RunsSource of_file of_port image Reliable left_old left_new held_old held_new w drew draws keys handed given Done
      → RunsSource of_file of_port image Reliable left_old left_new held_old held_new (record w { sink_failed = sink_failed; sink_full = sink_full }) drew draws keys handed given Done
  done_elsewhere left_old left_new held_old held_new w sink_failed sink_full drew draws keys handed given (t, run, ends) = (
    t,
    record { trace = run.trace; cause = run.cause; exact = record { bad_line = (run.exact).bad_line; too_many = (run.exact).too_many; too_long = (run.exact).too_long } },
    ends,
  )

  -- a run that was done, and then the export
  pub RunsExport-done : (left_old left_new held_old held held_new : Option (List ℕ)) (w : World) (sink_failed sink_full failed : Type 0) (drew drawn draws : ℕ) (keys : Keys) (handed between given : BenchState)
      (folder_old folder_new : ℕ → FileState) (ran status : Status) → ran ≡ Done → RunsSource of_file of_port image Reliable left_old left_new held_old held w drew drawn keys handed between ran
      → (failed → sink_failed ⊎ sink_full) → ExportsBench keys drawn draws between given folder_old folder_new failed held held_new status
      → RunsExport of_file of_port image Reliable left_old left_new held_old held_new (record w { sink_failed = sink_failed; sink_full = sink_full }) drew draws keys handed given folder_old folder_new status
  RunsExport-done left_old left_new held_old held held_new w sink_failed sink_full failed drew drawn draws keys handed between given folder_old folder_new ran status done runs f exports =
      exported between held drawn
      (done_elsewhere left_old left_new held_old held w sink_failed sink_full drew drawn keys handed between
      (subst (λ (s : Status). RunsSource of_file of_port image Reliable left_old left_new held_old held w drew drawn keys handed between s) done runs))
      (ExportsBench-failed keys drawn draws between given folder_old folder_new failed (sink_failed ⊎ sink_full) held held_new status f exports)

  -- what a run needs to be done, and to be exported
  pub export_completed : (left_old left_new held_old held_new : Option (List ℕ)) (w : World) (drew draws : ℕ) (keys : Keys) (handed given : BenchState) (folder_old folder_new : ℕ → FileState) (status : Status)
      (bytes : List ℕ) (script : ScriptValue)
      → RunsExport of_file of_port image Reliable left_old left_new held_old held_new w drew draws keys handed given folder_old folder_new status
      → (w.source_ended → (rest : List ℕ) → left_new ≡ Some rest → rest ≡ []) → left_old ≡ Some bytes → length bytes ≤ 16777216 → script_of bytes ≡ Ok script → ¬ w.source_failed → ¬ w.sink_failed → ¬ w.sink_full
      → ExportsItsScript status
  export_completed left_old left_new held_old held_new w drew draws keys handed given folder_old folder_new status bytes script (undone (t, run, ends) failed same) ended told short is source sink room =
      its_script status (completed left_old left_new held_old held_new w handed given status t bytes script run ended told short is source sink room)
  export_completed left_old left_new held_old held_new w drew draws keys handed given folder_old folder_new status bytes script (exported between held drawn runs exports) ended told short is source sink room =
      bench_script keys drawn draws between given folder_old folder_new (w.sink_failed ⊎ w.sink_full) held held_new status (⊎_elim sink room) exports
