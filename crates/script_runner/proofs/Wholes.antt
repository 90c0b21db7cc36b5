-- From the parts of a run to the whole.
use Rattle.std.proofs.Common.{◌≡◌, ◌≤◌, inl, inr, ℕ, List, [], ◌++◌, length, refl, sym, ap, ◌∙◌, arith, Option, Some, None, Result, Ok, Err, append-nil, length-append, ⊎_elim}
use Rattle.script_text.specs.declared.reading.ScriptFault.{ScriptFault}
use Rattle.script_text.specs.declared.reading.ScriptFault.TheVariants.{BadLine as BadLineFault, TooManyApps, NoMemory as NoMemoryFault}
use Rattle.script_text.specs.Parsed.{IsParsed}
use Rattle.script_text.specs.Script.{ScriptValue}
use Rattle.script_text.specs.Grammar.{script_of}
use Rattle.script_runner.specs.declared.status.Status.{Status}
use Rattle.script_runner.specs.declared.status.Status.TheVariants.{BadLine, DeviceFault, Done, MountRefused, NoMemory, OverCommitted, ReadFault, TooLong, WriteFault}
use Rattle.script_runner.specs.declared.status.Excess.TheVariants.{Bytes, Apps}
use Rattle.script_runner.specs.Trace.{IsSilent, IsTraceOf, IsUntouched, Trace}
use Rattle.script_runner.specs.ScriptReading.{IsReadError, IsScriptError, status_of}
use Rattle.script_runner.specs.RunCauses.{EndsActs, HasCause, IsExact, IsRun, RunsItsScript, WasRead, World}
use Rattle.run_acts.specs.Benches.{BenchState}
use Rattle.tee_ports.specs.Streams.{TakesFirst}
use Rattle.tee_ports.proofs.Streams.{Appends-none}

pub silent_is : (taken : List ℕ) → IsSilent (record { taken = taken; put = []; start = None; records = [] })
silent_is taken = record { put = refl; start = refl; records = refl }

-- a run that read no script put nothing
abbrev pub silent : List ℕ → Trace
silent taken = record { taken = taken; put = []; start = None; records = [] }

pub untouched : (taken : List ℕ) (bench : BenchState) → IsUntouched (silent taken) bench bench
untouched taken bench = (silent_is taken, refl)

pub HasCause-read : (w : World) (taken : List ℕ) (bench : BenchState) (status : Status) → IsReadError w.source_failed (length taken) status → HasCause w (silent taken) bench bench status
HasCause-read w taken bench ReadFault h = (h.0, h.1, untouched taken bench)
HasCause-read w taken bench (TooLong Bytes) h = (h, untouched taken bench)
HasCause-read w taken bench NoMemory h = inl (untouched taken bench)
HasCause-read w taken bench status h = absurd h

-- the script that was taken was run
pub HasCause-act : (w : World) (t : Trace) (handed given : BenchState) (script : ScriptValue) (status : Status) → EndsActs w t script status → WasRead w t → script_of t.taken ≡ Ok script → HasCause w t handed given status
HasCause-act w t handed given script Done h read is = (read, (script, is, h))
HasCause-act w t handed given script (OverCommitted sum) h read is = (read, (script, is, h))
HasCause-act w t handed given script WriteFault h read is = (read, (script, is, h))
HasCause-act w t handed given script (MountRefused fault) h read is = (read, (script, is, h))
HasCause-act w t handed given script (DeviceFault fault) h read is = (read, (script, is, h))
HasCause-act w t handed given script NoMemory h read is = inr (script, is, h)
HasCause-act w t handed given script status h read is = absurd h

done_script : (t : Trace) (script : ScriptValue) (fault : ScriptFault) → script_of t.taken ≡ Ok script → script_of t.taken ≡ Err fault → ⊥
done_script t script fault ok err = let e : ◌≡◌ {A = Result ScriptValue ScriptFault} (Ok script) (Err fault) = sym ok ∙ err in cc

-- a text is no script for one reason alone
one_fault : (t : Trace) (one other : ScriptFault) → script_of t.taken ≡ Err one → script_of t.taken ≡ Err other → one ≡ other
one_fault t one other a b = let e : ◌≡◌ {A = Result ScriptValue ScriptFault} (Err one) (Err other) = sym a ∙ b in cc

two_faults : (line n : ℕ) → BadLineFault line ≡ TooManyApps n → ⊥
two_faults line n e = cc

-- where a script was read, no other status is due
exact_script : (w : World) (t : Trace) (status : Status) (script : ScriptValue) → length t.taken ≤ 16777216 → script_of t.taken ≡ Ok script → IsExact w t status
exact_script w t status script short is = record {
  bad_line = λ line read err. absurd (done_script t script (BadLineFault line) is err);
  too_many = λ n read err. absurd (done_script t script (TooManyApps n) is err);
  too_long = λ long. absurd (omega (arith, short));
}

pub IsExact-cause : (w : World) (t : Trace) (handed given : BenchState) (status : Status) → HasCause w t handed given status → IsExact w t status
IsExact-cause w t handed given Done h = exact_script w t Done h.1.0 h.0.1 h.1.1
IsExact-cause w t handed given (OverCommitted sum) h = exact_script w t (OverCommitted sum) h.1.0 h.0.1 h.1.1
IsExact-cause w t handed given WriteFault h = exact_script w t WriteFault h.1.0 h.0.1 h.1.1
IsExact-cause w t handed given (MountRefused fault) h = exact_script w t (MountRefused fault) h.1.0 h.0.1 h.1.1
IsExact-cause w t handed given (DeviceFault fault) h = exact_script w t (DeviceFault fault) h.1.0 h.0.1 h.1.1
IsExact-cause w t handed given (BadLine l) h = record {
  bad_line = λ line read err. let e = one_fault t (BadLineFault l) (BadLineFault line) h.1 err in let same : l ≡ line = cc in inl (ap BadLine same);
  too_many = λ n read err. absurd (two_faults l n (one_fault t (BadLineFault l) (TooManyApps n) h.1 err));
  too_long = λ long. absurd (omega (arith, h.0.1));
}
IsExact-cause w t handed given ReadFault h = record {
  bad_line = λ line read err. inr (inr h.0);
  too_many = λ n read err. inr (inr h.0);
  too_long = λ long. absurd (omega (arith, h.1));
}
IsExact-cause w t handed given (TooLong Bytes) h = record {
  bad_line = λ line read err. absurd (omega (arith, h.0, read.1));
  too_many = λ n read err. absurd (omega (arith, h.0, read.1));
  too_long = λ long. inl refl;
}
IsExact-cause w t handed given (TooLong (Apps m)) h = record {
  bad_line = λ line read err. absurd (two_faults line m (one_fault t (BadLineFault line) (TooManyApps m) err h.1));
  too_many = λ n read err. let e = one_fault t (TooManyApps m) (TooManyApps n) h.1 err in let same : m ≡ n = cc in inl (ap (λ k. TooLong (Apps k)) same);
  too_long = λ long. absurd (omega (arith, h.0.1));
}
IsExact-cause w t handed given NoMemory h = record {
  bad_line = λ line read err. inr (inl refl);
  too_many = λ n read err. inr (inl refl);
  too_long = λ long. inr refl;
}
IsExact-cause w t handed given status h = absurd h

-- a source that tells its bytes and has ended gave them all
pub all_taken : (left_old left_new : Option (List ℕ)) (taken bytes : List ℕ) → TakesFirst left_old left_new taken → ((rest : List ℕ) → left_new ≡ Some rest → rest ≡ []) → left_old ≡ Some bytes → taken ≡ bytes
all_taken left_old None taken bytes takes ends told = let e : ◌≡◌ {A = Option (List ℕ)} (Some bytes) None = sym told ∙ takes in absurd cc
all_taken left_old (Some rest) taken bytes takes ends told =
    let whole : ◌≡◌ {A = Option (List ℕ)} (Some bytes) (Some (taken ++ rest)) = sym told ∙ takes in
    let same : bytes ≡ taken ++ rest = cc in
    sym (same ∙ ap (λ t. taken ++ t) (ends rest refl) ∙ append-nil taken)

-- a source that tells its bytes gave no more than it has
pub taken-le : (left_old left_new : Option (List ℕ)) (taken bytes : List ℕ) → TakesFirst left_old left_new taken → left_old ≡ Some bytes → length taken ≤ length bytes
taken-le left_old None taken bytes takes told = let e : ◌≡◌ {A = Option (List ℕ)} (Some bytes) None = sym told ∙ takes in absurd cc
taken-le left_old (Some rest) taken bytes takes told =
    let whole : ◌≡◌ {A = Option (List ℕ)} (Some bytes) (Some (taken ++ rest)) = sym told ∙ takes in
    let same : bytes ≡ taken ++ rest = cc in
    omega (arith, ap length same, length-append taken rest)

-- what a run needs to end well
pub completed : (left_old left_new held_old held_new : Option (List ℕ)) (w : World) (handed given : BenchState) (status : Status) (t : Trace) (bytes : List ℕ) (script : ScriptValue) → IsRun left_old left_new held_old held_new w handed given status t → (w.source_ended → (rest : List ℕ) → left_new ≡ Some rest → rest ≡ []) → left_old ≡ Some bytes → length bytes ≤ 16777216 → script_of bytes ≡ Ok script → ¬ w.source_failed → ¬ w.sink_failed → ¬ w.sink_full → RunsItsScript status
completed left_old left_new held_old held_new w handed given Done t bytes script run ends told short is source sink room = tt
completed left_old left_new held_old held_new w handed given (OverCommitted sum) t bytes script run ends told short is source sink room = tt
completed left_old left_new held_old held_new w handed given (BadLine line) t bytes script run ends told short is source sink room =
    let same = all_taken left_old left_new t.taken bytes run.trace.taken (ends run.cause.0.0) told in
    absurd (done_script t script (BadLineFault line) (ap script_of same ∙ is) run.cause.1)
completed left_old left_new held_old held_new w handed given ReadFault t bytes script run ends told short is source sink room = absurd (source run.cause.0)
completed left_old left_new held_old held_new w handed given WriteFault t bytes script run ends told short is source sink room = absurd (⊎_elim sink room ((run.cause).1.2).0)
completed left_old left_new held_old held_new w handed given (TooLong Bytes) t bytes script run ends told short is source sink room =
    absurd (omega (arith, run.cause.0, taken-le left_old left_new t.taken bytes run.trace.taken told))
completed left_old left_new held_old held_new w handed given (TooLong (Apps n)) t bytes script run ends told short is source sink room =
    let same = all_taken left_old left_new t.taken bytes run.trace.taken (ends run.cause.0.0) told in
    absurd (done_script t script (TooManyApps n) (ap script_of same ∙ is) run.cause.1)
completed left_old left_new held_old held_new w handed given (MountRefused fault) t bytes script run ends told short is source sink room = tt
completed left_old left_new held_old held_new w handed given (DeviceFault fault) t bytes script run ends told short is source sink room = tt
completed left_old left_new held_old held_new w handed given NoMemory t bytes script run ends told short is source sink room = tt
completed left_old left_new held_old held_new w handed given status t bytes script run ends told short is source sink room = absurd run.cause

pub IsTraceOf-silent : (left_old left_new held : Option (List ℕ)) (taken : List ℕ) → TakesFirst left_old left_new taken → length taken ≤ 16777217 → IsTraceOf left_old left_new held held (silent taken)
IsTraceOf-silent left_old left_new held taken takes short = record { taken = takes; bounded = short; put = Appends-none held; text = inl (silent_is taken) }

pub IsRun-cause : (left_old left_new held_old held_new : Option (List ℕ)) (w : World) (handed given : BenchState) (status : Status) (t : Trace) → IsTraceOf left_old left_new held_old held_new t → HasCause w t handed given status
    → IsRun left_old left_new held_old held_new w handed given status t
IsRun-cause left_old left_new held_old held_new w handed given status t trace cause = record { trace = trace; cause = cause; exact = IsExact-cause w t handed given status cause }

pub HasCause-script : (w : World) (taken : List ℕ) (bench : BenchState) (status : Status) → IsScriptError (script_of taken) status → WasRead w (silent taken) → HasCause w (silent taken) bench bench status
HasCause-script w taken bench (BadLine line) h read = (read, h, untouched taken bench)
HasCause-script w taken bench (TooLong (Apps n)) h read = (read, h, untouched taken bench)
HasCause-script w taken bench NoMemory h read = inl (untouched taken bench)
HasCause-script w taken bench status h read = absurd h

pub IsScriptError-fault : (fault : ScriptFault) (meant : Result ScriptValue ScriptFault) → IsParsed (Err fault) meant → IsScriptError meant (status_of fault)
IsScriptError-fault (BadLineFault line) meant h = h
IsScriptError-fault (TooManyApps n) meant h = h
IsScriptError-fault NoMemoryFault meant h = tt
