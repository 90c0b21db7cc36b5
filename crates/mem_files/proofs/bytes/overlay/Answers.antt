use Rattle.std.proofs.Common.{sym, ◌∙◌, arith}
use Rattle.mem_files.proofs.Overlays.{overlaid-nil, overlaid_push, overlaid_all}
use Rattle.mem_files.proofs.bytes.overlay.Goals as goal

pub loop-i-init : goal.loop-i-init
loop-i-init c = sym (overlaid-nil c.args.bytes.now)

pub loop-i-preserved : goal.loop-i-preserved
loop-i-preserved c = overlaid_push c.loop-i.bytes c.args.bytes.now c.args.mask.now c.loop-i.i c.loop-i.invariant (omega arith) (omega arith)

pub returns : goal.returns
returns c = c.loop-i.invariant ∙ overlaid_all c.args.bytes.now c.args.mask.now c.loop-i.i (omega arith)
