use Rattle.std.proofs.Common.{ℕ, ◌<◌, List, length, ap, arith}
use Rattle.htree_file.specs.declared.change.NewPages.{NewPages}
use Rattle.htree_file.specs.Changes.{block_at, changes_of}
use Rattle.htree_file.proofs.ChangeLists.{length-numbered, numbered_block}
use Rattle.htree_file.proofs.change.NewPages.block.Goals as goal

pub returns-in-All : goal.returns-in-All
returns-in-All c =
    let pages : List (List ℕ) = c.in-All.field-0.now in
    let long = ap (λ (p : NewPages). length (changes_of p)) c.in-All.is in
    let low : c.args.place < length pages = omega (arith, long, length-numbered pages 0) in
    let at = ap (λ (p : NewPages). block_at (changes_of p) c.args.place) c.in-All.is in
    omega (arith, at, numbered_block pages 0 c.args.place low)
