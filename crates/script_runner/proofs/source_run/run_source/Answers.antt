use Rattle.std.proofs.Common.{◌≡◌, Ok, ap, inl, inr, refl, subst, sym, ◌∙◌}
use Rattle.script_text.specs.Grammar.{script_of}
use Rattle.script_runner.specs.ScriptReading.{IsScriptError}
use Rattle.script_runner.specs.Trace.{Trace}
use Rattle.script_runner.proofs.Wholes.{HasCause-act, HasCause-read, HasCause-script, IsRun-cause, IsTraceOf-silent, silent, silent_is}
use Rattle.script_runner.proofs.source_run.run_source.Goals as goal

pub returns-in-Err-clause-run : goal.returns-in-Err-clause-run
returns-in-Err-clause-run g c =
    let r = c.in-Err.ensures.read in (
      silent r.0,
      IsRun-cause _ _ _ _ _ _ _ c.in-Err.status (silent r.0) (IsTraceOf-silent _ _ _ r.0 r.1 r.2) (HasCause-read _ r.0 _ c.in-Err.status r.3),
      inl (silent_is r.0, refl),
    )

pub returns-in-Err-read_script-clause-run : goal.returns-in-Err-read_script-clause-run
returns-in-Err-read_script-clause-run g c =
    let r = c.in-Ok.ensures.read in
    let same : c.as_slice.result.now ≡ r.0 = c.as_slice.ensures.value ∙ r.3.0 in
    let error = subst (λ bytes. IsScriptError (script_of bytes) c.in-Err-read_script.status) same c.in-Err-read_script.ensures in (
      silent r.0,
      IsRun-cause _ _ _ _ _ _ _ c.in-Err-read_script.status (silent r.0) (IsTraceOf-silent _ _ _ r.0 r.1 r.2) (HasCause-script _ r.0 _ c.in-Err-read_script.status error (r.3.1, r.3.2)),
      inl (silent_is r.0, refl),
    )

pub returns-clause-run : goal.returns-clause-run
returns-clause-run g c =
    let r = c.in-Ok.ensures.read in
    let x = c.run_script.ensures.ran in
    let script = c.in-Ok-read_script.script in
    let status = c.run_script.result.status in
    let same : c.as_slice.result.now ≡ r.0 = c.as_slice.ensures.value ∙ r.3.0 in
    let is : script_of r.0 ≡ Ok script = ap script_of (sym same) ∙ c.in-Ok-read_script.ensures.0 in
    let t : Trace = record { taken = r.0; put = x.put; start = x.start; records = x.records } in (
      t,
      IsRun-cause _ _ _ _ _ _ _ status t (record { taken = r.1; bounded = r.2; put = x.appended; text = inr (script, is, x.begins) }) (HasCause-act _ t _ _ script status x.cause (r.3.1, r.3.2) is),
      inr (script, is, x.bench),
    )
