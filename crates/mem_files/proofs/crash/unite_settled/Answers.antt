use Rattle.std.proofs.Common.{◌∙◌, ap, subst, sym}
use Rattle.disk_model.specs.State.{spans_of}
use Rattle.mem_files.specs.Choices.{united}
use Rattle.mem_files.specs.Held.{DifferIn, settled_bytes}
use Rattle.mem_files.proofs.Mixtures.{united_alike}
use Rattle.mem_files.proofs.crash.unite_settled.Goals as goal

pub unite-requires : goal.unite-requires
unite-requires c =
    let bytes = c.args.bytes.now.items in
    subst (λ settled. DifferIn (spans_of c.args.changes.now) (settled_bytes settled bytes) bytes) c.in-Some.is c.requires

pub returns-in-None-clause-ok : goal.returns-in-None-clause-ok
returns-in-None-clause-ok c =
    let bytes = c.args.bytes.now.items in
    united_alike bytes c.args.key c.args.seed ∙ ap (λ settled. united (settled_bytes settled bytes) bytes c.args.key c.args.seed) (sym c.in-None.is)
