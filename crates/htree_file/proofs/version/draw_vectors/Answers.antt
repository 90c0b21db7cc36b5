use Rattle.std.proofs.Common.{◌≡◌, ◌<◌, length, sym, ◌∙◌, refl, arith}
use Rattle.htree_file.specs.Changes.{block_at, changes_of}
use Rattle.htree_file.proofs.SealSteps.{anew_step}
use Rattle.htree_file.proofs.version.draw_vectors.Goals as goal

pub loop-j-preserved : goal.loop-j-preserved
loop-j-preserved g c =
    let changes = changes_of c.args.pages.now in
    let lt : c.loop-j.j < length changes = omega arith in
    let at : block_at changes c.loop-j.j ≡ c.block.result = sym c.block.ensures in
    let before = c.loop-j.invariant in
    record {
      anew = anew_step changes c.args.table.now c.loop-j.table c.loop-j.j c.block.result _ at lt (omega (arith, at, c.requires.apart.within c.loop-j.j lt)) refl before.anew;
      draws = c.in_ok-iv.ensures.cause ∙ before.draws;
      lasts = λ h. (c.draw.ensures.reliable (before.lasts h)).0;
    }
