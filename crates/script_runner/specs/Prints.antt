-- How much of its text a run put, and why it ended.
use Rattle.std.specs.Prelude.{ℕ, ◌≡◌, ◌⊎◌, List, [], ◌++◌, None, Option, Some}
use Rattle.run_acts.specs.declared.MountFault.{MountFault}
use Rattle.tee_ports.specs.Streams.{Appends}
use Rattle.run_acts.specs.Lines.{refusal_line}
use Rattle.script_runner.specs.declared.status.Status.{Status}
use Rattle.script_runner.specs.declared.status.Status.TheVariants.{DeviceFault, Done, MountRefused, NoMemory, OverCommitted, WriteFault}
use Rattle.script_runner.specs.Sending.{IsWriteError, Sends, Stops}
use Rattle.script_runner.specs.declared.run_state.Run.{Run}
use Rattle.script_runner.specs.declared.run_state.RunEnd.{RunEnd}
use Rattle.script_runner.specs.RunRefusals.{IsDeviceFault, IsRefusal, MayWantMemory}
use Rattle.script_runner.specs.Text.{ActOutcome, CutShort, Exceeded, Refused}

-- behind such a stop the sink may fail, or be full
abbrev pub MayStopWriting : (stop : Option ActOutcome) → Type 0
MayStopWriting None = Unit {0}
MayStopWriting (Some (Refused fault)) = IsRefusal fault
MayStopWriting (Some (Exceeded sum)) = Unit {0}
MayStopWriting _ = ⊥

-- it is for want of memory, or behind it memory may run out
abbrev pub MayWant : (stop : Option ActOutcome) → Type 0
MayWant None = Unit {0}
MayWant (Some (Refused fault)) = MayWantMemory fault
MayWant (Some CutShort) = Unit {0}
MayWant _ = ⊥

-- Why a run ended among its acts: how much of its text was put, where the acts stopped, if they did, and whether all of them were begun (`Through`).
abbrev pub HasActCause : (failed : Type 0) → (put text : List ℕ) → (stop : Option ActOutcome) → (Through : Type 0) → Status → Type 0
HasActCause failed put text stop Through Done = (put ≡ text) × (stop ≡ None) × Through
HasActCause failed put text stop Through WriteFault = failed × MayStopWriting stop
HasActCause failed put text stop Through (MountRefused fault) = (put ≡ text) × (stop ≡ Some (Refused fault)) × IsRefusal fault
HasActCause failed put text stop Through (DeviceFault fault) = ((put ≡ text) ⊎ failed) × (stop ≡ Some (Refused fault)) × IsDeviceFault fault
HasActCause failed put text stop Through (OverCommitted sum) = (put ≡ text) × (stop ≡ Some (Exceeded sum))
HasActCause failed put text stop Through NoMemory = MayWant stop
HasActCause failed put text stop Through _ = ⊥

-- What the text of a refusal leaves: it was put, or is a front of what was.
abbrev pub PrintsRefusal : (failed : Type 0) → (held_old held_new : Option (List ℕ)) → (kept : List ℕ) → MountFault → Status → Type 0
PrintsRefusal failed held_old held_new kept fault WriteFault = IsRefusal fault × failed × Stops held_old held_new kept (refusal_line fault)
PrintsRefusal failed held_old held_new kept fault (MountRefused printed) = (printed ≡ fault) × IsRefusal fault × Appends held_old held_new (kept ++ refusal_line fault)
PrintsRefusal failed held_old held_new kept fault (DeviceFault printed) =
    (printed ≡ fault) × IsDeviceFault fault × (Appends held_old held_new kept ⊎ (failed × Stops held_old held_new kept []))
PrintsRefusal failed held_old held_new kept fault NoMemory = MayWantMemory fault × Stops held_old held_new kept (refusal_line fault)
PrintsRefusal failed held_old held_new kept fault _ = ⊥

-- The last text of a run was put, or the sink would not take it.
abbrev pub PrintsLines : (failed : Type 0) → (held_old held_new : Option (List ℕ)) → (lines : List ℕ) → Status → Type 0
PrintsLines failed held_old held_new lines Done = Appends held_old held_new lines
PrintsLines failed held_old held_new lines WriteFault = failed × Stops held_old held_new lines []
PrintsLines failed held_old held_new lines _ = ⊥

-- The text so far was put, or the sink would not take it: the quotas of the next phase commit so many objects.
abbrev pub PrintsExcess : (failed : Type 0) → (held_old held_new : Option (List ℕ)) → (kept : List ℕ) → (sum : ℕ) → Status → Type 0
PrintsExcess failed held_old held_new kept sum (OverCommitted told) = (told ≡ sum) × Appends held_old held_new kept
PrintsExcess failed held_old held_new kept sum WriteFault = failed × Stops held_old held_new kept []
PrintsExcess failed held_old held_new kept sum _ = ⊥

-- The text of an act went behind what was kept, and nothing else changed.
pub record IsSent {F R : Type 0} (held_old held_new : Option (List ℕ)) (text : List ℕ) (run next : Run F R) : Type 0 where
  pub sends : Sends held_old held_new run.kept.items next.kept.items text
  pub bench : next.bench ≡ run.bench
  pub saved : next.saved ≡ run.saved
  pub quotas : next.quotas ≡ run.quotas
  pub arms : next.arms ≡ run.arms
  pub number : next.number ≡ run.number
  pub mode : next.mode ≡ run.mode
  pub at : next.at ≡ run.at

-- It could not be put, and the run ended.
pub record IsCutOff {F R : Type 0} (failed : Type 0) (held_old held_new : Option (List ℕ)) (text : List ℕ) (run : Run F R) (end : RunEnd F R) : Type 0 where
  pub stops : Stops held_old held_new run.kept.items text
  pub bench : end.bench ≡ run.bench
  pub error : IsWriteError failed end.status
