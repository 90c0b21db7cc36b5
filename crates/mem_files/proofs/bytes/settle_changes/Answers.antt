use Rattle.std.proofs.Common.{subst}
use Rattle.disk_model.specs.State.{spans_of}
use Rattle.mem_files.specs.Held.{DifferIn, settled_bytes}
use Rattle.mem_files.proofs.bytes.settle_changes.Goals as goal

pub bring_up-requires : goal.bring_up-requires
bring_up-requires c = subst (λ settled. DifferIn (spans_of c.args.changes.now) (settled_bytes settled c.args.bytes.now) c.args.bytes.now) c.in-Some.is c.requires
