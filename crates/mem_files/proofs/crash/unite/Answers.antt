use Rattle.std.proofs.Common.{ℕ, List, subst, sym}
use Rattle.disk_model.specs.State.{spans_of}
use Rattle.mem_files.specs.Held.{DifferIn}
use Rattle.mem_files.proofs.Mixtures.{differ_turned}
use Rattle.mem_files.proofs.crash.unite.Goals as goal

pub bring_up-requires : goal.bring_up-requires
bring_up-requires c =
    let spans = spans_of c.args.changes.now in
    subst (λ (l : List ℕ). DifferIn spans c.args.bytes.now.items l) (sym c.deref.ensures.value)
    (differ_turned spans c.args.settled.now.items c.args.bytes.now.items c.requires)

pub bring_up-requires-in-1 : goal.bring_up-requires-in-1
bring_up-requires-in-1 c =
    subst (λ (l : List ℕ). DifferIn (spans_of c.args.changes.now) c.args.settled.now.items l) (sym c.deref-in-1.ensures.value) c.requires
