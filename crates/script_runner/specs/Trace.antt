-- What one run took, put and recorded, and what holds of it.
use Rattle.std.specs.Prelude.{ℕ, ◌≡◌, ◌≤◌, ◌⊎◌, List, [], length, map, Option, None, Ok}
use Rattle.tee_ports.specs.Streams.{TakesFirst, Appends}
use Rattle.run_acts.specs.Benches.{BenchState}
use Rattle.run_acts.specs.declared.MountFault.{MountFault}
use Rattle.script_text.specs.Script.{ScriptValue}
use Rattle.script_text.specs.Grammar.{script_of}
use Rattle.script_runner.specs.Sending.{Begins}
use Rattle.script_text.specs.declared.script.Mode.TheVariants.{Serial}
use Rattle.script_runner.specs.Records.{RunRecord, outcomes_in}
use Rattle.script_runner.specs.Text.{Act, acts_of, run_output}

pub record Trace : Type 0 where
  -- the bytes taken from the source
  pub taken : List ℕ
  -- the bytes put into the sink
  pub put : List ℕ
  -- why the bench was refused before the first act, if so
  pub start : Option MountFault
  -- what was recorded of the acts, in order
  pub records : List RunRecord

-- the UUIDs of the applications that a script declares
abbrev pub applications_of : ScriptValue → List (List ℕ)
applications_of script = map (λ d. d.app) script.applications

-- the acts of a script: its phases, of which the first are serial, and the controls between them
abbrev pub script_acts : ScriptValue → List Act
script_acts script = acts_of Serial script.steps

-- The run took a script, of which this holds.
abbrev pub OfScript : List ℕ → (ScriptValue → Type 0) → Type 0
OfScript taken P = (script : ScriptValue) × (script_of taken ≡ Ok script) × P script

-- the text of a run of the script with these records
abbrev pub text_of : Trace → ScriptValue → List ℕ
text_of t script = run_output script t.start (outcomes_in t.records)

-- what was put begins it
abbrev pub IsTextOf : Trace → ScriptValue → Type 0
IsTextOf t script = Begins t.put (text_of t script)

-- Nothing was put, nor recorded.
pub record IsSilent (t : Trace) : Type 0 where
  pub put : t.put ≡ []
  pub start : t.start ≡ None
  pub records : t.records ≡ []

-- Nothing was put, recorded or done.
abbrev pub IsUntouched : Trace → (handed given : BenchState) → Type 0
IsUntouched t handed given = IsSilent t × (given ≡ handed)

-- What the run took is what the source gave, and what it put is what the sink got.
pub record IsTraceOf (left_old left_new held_old held_new : Option (List ℕ)) (t : Trace) : Type 0 where
  pub taken : TakesFirst left_old left_new t.taken
  -- bounded reading: one byte more than a script may have
  pub bounded : length t.taken ≤ 16777217
  pub put : Appends held_old held_new t.put
  -- Nothing is put but where what was taken is a script; then it begins the text of that script.
  pub text : IsSilent t ⊎ OfScript t.taken (IsTextOf t)
