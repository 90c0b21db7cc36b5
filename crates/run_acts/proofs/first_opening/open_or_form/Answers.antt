use Rattle.std.proofs.Common.{◌≡◌, ◌∙◌, true, false, sym}
use Rattle.run_acts.specs.Benches.{bench_state}
use Rattle.run_acts.specs.Opens.{found, is_blank}
use Rattle.run_acts.proofs.OpenedBenches.{formed_answer}
use Rattle.run_acts.proofs.first_opening.open_or_form.Goals as goal

pub returns-then-not-is_blank-clause-answer : goal.returns-then-not-is_blank-clause-answer
returns-then-not-is_blank-clause-answer g c =
    let some : is_blank c.in-Ok.read.block ≡ false = sym c.is_blank.ensures ∙ c.if-not-is_blank.true in
    found c.in-Ok.read.block some c.in-Ok.ensures.answer

pub returns-else-not-is_blank-clause-answer : goal.returns-else-not-is_blank-clause-answer
returns-else-not-is_blank-clause-answer g c =
    let blank : is_blank c.in-Ok.read.block ≡ true = sym c.is_blank.ensures ∙ c.if-not-is_blank.false in
    formed_answer (bench_state g.F.StoreFile.state g.R.RpmbPort.state) c.args.keys.now (bench_state g.F.StoreFile.state g.R.RpmbPort.state c.args.bench)
    (bench_state g.F.StoreFile.state g.R.RpmbPort.state c.in-Ok.read.bench) c.in-Ok.read.block (g.E.Entropy.faults c.args.entropy.now) (g.E.Entropy.faults c.ask_block.new.entropy) _
    c.form_bench.result blank c.in-Ok.ensures.answer c.in-Ok.ensures.undrawn c.form_bench.ensures.answer
