use Rattle.std.proofs.Common.{ℕ, List, [], arith, refl, ap, ◌∙◌, below_more, get_or-set_other, get_or-set_same}
use Rattle.std.proofs.lemmas.List.{length-set}
use Rattle.gcm_mode.specs.CounterMode.{inc32}
use Rattle.gcm_mode.proofs.Stream.{counter-more, counter-none}
use Rattle.gcm_mode.proofs.counter_mode.next_eight.Goals as goal

pub loop-j-init : goal.loop-j-init
loop-j-init c = record { size = refl; done = λ k none. absurd (omega arith); count = counter-none c.args.counter.now }

pub loop-j-preserved : goal.loop-j-preserved
loop-j-preserved c =
    let j : ℕ = c.loop-j.j in
    let bs : List (List ℕ) = c.loop-j.made in
    record {
      size = length-set bs j c.loop-j.counter ∙ c.loop-j.invariant.size;
      done = below_more _ _
          (λ k h. get_or-set_other bs j k c.loop-j.counter [] (λ e. absurd (omega (arith, e))) ∙ c.loop-j.invariant.done k h)
          (get_or-set_same bs j c.loop-j.counter [] (omega (arith, c.loop-j.invariant.size)) ∙ c.loop-j.invariant.count);
      count = c.inc32.ensures ∙ ap inc32 c.loop-j.invariant.count ∙ counter-more c.args.counter.now j;
    }
