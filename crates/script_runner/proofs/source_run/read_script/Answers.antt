use Rattle.std.proofs.Common.{arith}
use Rattle.script_text.specs.Grammar.{script_from}
use Rattle.script_text.specs.Lines.{lines_of}
use Rattle.script_text.specs.Script.{no_script}
use Rattle.script_text.proofs.FormedSteps.{scripts_call_well}
use Rattle.script_runner.proofs.Sounds.{few_applications-le}
use Rattle.script_runner.proofs.source_run.read_script.Goals as goal

pub returns-in-Ok : goal.returns-in-Ok
returns-in-Ok c = (
  c.in-Ok.ensures.meaning,
  record {
    few = omega (arith, c.in-Ok.ensures.short, c.requires);
    few_applications = few_applications-le (script_from no_script 1 (lines_of c.args.text.now)) c.in-Ok.script c.in-Ok.ensures.meaning;
    formed = scripts_call_well c.args.text.now c.in-Ok.script c.in-Ok.ensures.meaning;
  },
)
