use Rattle.std.proofs.Common.{◌∙◌, sym, ap, arith}
use Rattle.mem_files.specs.Crash.{noise_over}
use Rattle.mem_files.proofs.Spoilings.{ranged, ranged_none, noise_nowhere, noise_next}
use Rattle.mem_files.proofs.crash.fill_noise.Goals as goal

pub loop-i-init : goal.loop-i-init
loop-i-init c = sym (noise_nowhere (ranged c.args.from c.args.from) c.args.key 0 c.args.image.now (ranged_none c.args.from))

pub loop-i-preserved : goal.loop-i-preserved
loop-i-preserved c =
    let l = c.loop-i in
    noise_next c.args.key c.args.from l.i l.image c.args.image.now c.noise.result l.auto.i l.invariant c.noise.ensures

pub returns : goal.returns
returns c = c.loop-i.invariant ∙ ap (λ n. noise_over (ranged c.args.from n) c.args.key 0 c.args.image.now) (omega arith)
