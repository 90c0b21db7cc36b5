use Rattle.std.proofs.Common.{◌≢◌, ◌∙◌, arith, below_more, get_or-set_other, get_or-set_same}
use Rattle.std.proofs.lemmas.List.{length-set}
use Rattle.htree_file.proofs.write_set.numbers_of.Goals as goal

pub loop-j-preserved : goal.loop-j-preserved
loop-j-preserved c = record {
  wide = length-set c.loop-j.numbers c.loop-j.j c.block.result ∙ c.loop-j.invariant.wide;
  each = below_more _ _
      (λ i h. let ne : i ≢ c.loop-j.j = omega arith in get_or-set_other c.loop-j.numbers c.loop-j.j i c.block.result 0 ne ∙ c.loop-j.invariant.each i h)
      (get_or-set_same c.loop-j.numbers c.loop-j.j c.block.result 0 (omega arith) ∙ c.block.ensures);
}
