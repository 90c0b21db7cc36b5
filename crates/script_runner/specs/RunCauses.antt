-- The statuses of a run, and why each comes.
use Rattle.std.specs.Prelude.{ℕ, ◌≡◌, ◌≤◌, ◌⊎◌, List, length, Option, Err}
use Rattle.script_text.specs.declared.reading.ScriptFault.TheVariants.{BadLine as BadLineFault, TooManyApps}
use Rattle.script_text.specs.Script.{ScriptValue}
use Rattle.script_text.specs.Grammar.{script_of}
use Rattle.script_runner.specs.declared.status.Status.{Status}
use Rattle.script_runner.specs.declared.status.Status.TheVariants.{BadLine, CardMapRefused, DeviceFault, Done, FileFault, MountRefused, NoMemory, OverCommitted, ReadFault, TooLong, Usage}
use Rattle.script_runner.specs.declared.status.Excess.TheVariants.{Bytes, Apps}
use Rattle.run_acts.specs.Benches.{BenchState}
use Rattle.script_runner.specs.Prints.{HasActCause}
use Rattle.script_runner.specs.Records.{acts_in, outcomes_in}
use Rattle.script_runner.specs.Text.{run_stop}
use Rattle.script_runner.specs.Trace.{IsTraceOf, IsUntouched, OfScript, Trace, script_acts, text_of}

-- What the world did in a run: facts on the source and the sink.
pub record World : Type 1 where
  -- the source's count of faults rose
  pub source_failed : Type 0
  -- the source has ended
  pub source_ended : Type 0
  -- the sink's count of faults rose
  pub sink_failed : Type 0
  -- the sink is full
  pub sink_full : Type 0

-- the source was read to its end, within the limit of a script
abbrev pub WasRead : World → Trace → Type 0
WasRead w t = w.source_ended × (length t.taken ≤ 16777216)

-- The acts of the script ended so, and so much of their text was put.
abbrev pub EndsActs : World → Trace → ScriptValue → Status → Type 0
EndsActs w t script = HasActCause (w.sink_failed ⊎ w.sink_full) t.put (text_of t script) (run_stop t.start (outcomes_in t.records)) (acts_in t.records ≡ script_acts script)

-- What each status means: what was read, what was put, and how far the run came. Nothing is put or done but of a script.
abbrev pub HasCause : World → Trace → (handed given : BenchState) → Status → Type 0
HasCause w t handed given (BadLine line) = WasRead w t × (script_of t.taken ≡ Err (BadLineFault line)) × IsUntouched t handed given
HasCause w t handed given (TooLong (Apps n)) = WasRead w t × (script_of t.taken ≡ Err (TooManyApps n)) × IsUntouched t handed given
HasCause w t handed given (TooLong Bytes) = (length t.taken ≡ 16777217) × IsUntouched t handed given
HasCause w t handed given ReadFault = w.source_failed × (length t.taken ≤ 16777216) × IsUntouched t handed given
HasCause w t handed given NoMemory = IsUntouched t handed given ⊎ OfScript t.taken (λ script. EndsActs w t script NoMemory)
HasCause w t handed given Usage = ⊥
HasCause w t handed given (FileFault fault) = ⊥
HasCause w t handed given (CardMapRefused block offset) = ⊥
HasCause w t handed given status = WasRead w t × OfScript t.taken (λ script. EndsActs w t script status)

-- Where the length or the text decides the status, it comes, or want of memory stands in its place. A fault of the source
-- may come before what its bytes would decide; faults of reading and writing, and mounts that are refused or fail, have no line here,
-- since `HasCause` shuts other statuses out.
pub record IsExact (w : World) (t : Trace) (status : Status) : Type 0 where
  pub bad_line : (line : ℕ) → WasRead w t → script_of t.taken ≡ Err (BadLineFault line) → (status ≡ BadLine line) ⊎ (status ≡ NoMemory) ⊎ w.source_failed
  pub too_many : (n : ℕ) → WasRead w t → script_of t.taken ≡ Err (TooManyApps n) → (status ≡ TooLong (Apps n)) ⊎ (status ≡ NoMemory) ⊎ w.source_failed
  pub too_long : length t.taken ≡ 16777217 → (status ≡ TooLong Bytes) ⊎ (status ≡ NoMemory)

-- What holds of the run of a source that ended with that status.
pub record IsRun (left_old left_new held_old held_new : Option (List ℕ)) (w : World) (handed given : BenchState) (status : Status) (t : Trace) : Type 0 where
  pub trace : IsTraceOf left_old left_new held_old held_new t
  pub cause : HasCause w t handed given status
  pub exact : IsExact w t status

-- The script was run: to its end, or until a mount was refused or failed, quotas were over-committed, or memory ran out.
abbrev pub RunsItsScript : Status → Type 0
RunsItsScript Done = Unit {0}
RunsItsScript NoMemory = Unit {0}
RunsItsScript (MountRefused fault) = Unit {0}
RunsItsScript (DeviceFault fault) = Unit {0}
RunsItsScript (OverCommitted sum) = Unit {0}
RunsItsScript _ = ⊥
