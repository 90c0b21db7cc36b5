use Rattle.std.proofs.Common.{◌≡◌, ◌+◌, ◌-◌, take, drop, ap, arith, sym, ◌∙◌}
use Rattle.node_image.proofs.ImageBytes.{bytes_within}
use Rattle.htree_file.proofs.opening.bytes_at.Goals as goal

pub returns : goal.returns
returns g c =
    let width : (c.args.at + g.row.N) - c.args.at ≡ g.row.N = omega arith in
    c.copy_from_slice.ensures.after ∙ ap (λ n. take n (drop c.args.at c.args.image.now)) width ∙ sym (bytes_within c.args.image.now c.args.at g.row.N c.requires)
