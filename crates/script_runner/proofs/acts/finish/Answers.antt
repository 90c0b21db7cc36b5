use Rattle.script_runner.proofs.Flushed.{EndsFrom-printed}
use Rattle.script_runner.proofs.acts.finish.Goals as goal

pub returns-clause-ends : goal.returns-clause-ends
returns-clause-ends g c = λ drew draws first. record {
  ends = EndsFrom-printed g.F.StoreFile.state g.R.RpmbPort.state g.F.FileRig.crash_image _ drew draws c.args.keys.now c.args.script.now _ _ _ c.args.run c.requires.all c.print_last_lines-status.result c.print_last_lines-status.ensures.prints;
  whole = c.requires.ready.whole;
}
