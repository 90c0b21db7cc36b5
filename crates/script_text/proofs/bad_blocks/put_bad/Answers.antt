use Rattle.std.proofs.Common.{◌≡◌, ◌∙◌, ◌+◌, true, false, refl, sym, arith}
use Rattle.std.proofs.lemmas.Grind.{common_steps}
use Rattle.tree_paths.specs.Paths.{holds}
use Rattle.script_text.specs.BadBlocks.{passing}
use Rattle.script_text.proofs.BadTexts.{bad-next, bad-none, bad-same, some-next, some-same}
use Rattle.script_text.proofs.bad_blocks.put_bad.Goals as goal
use Rattle.script_text.proofs.bad_blocks.put_bad.Goals.{then-has+in_ok-put_member, else-has}

pub loop-k-init : goal.loop-k-init
unfolding passing
loop-k-init c = record {
  same = bad-none (holds c.args.bad.now) c.args.out.now.items;
  found = refl;
  kept = grind (arith, common_steps);
}

pub loop-k-preserved : goal.loop-k-preserved
loop-k-preserved c =
    let test = holds c.args.bad.now in
    let before = c.loop-k.invariant in
    elim c.if-has.branch [
      | then-has+in_ok-put_member w ↦
          let is : test (c.loop-k.k + 1) ≡ true = sym c.has.ensures ∙ w.if-has.true in
          rw (w.out-is, w.some-is) (record {
            same = bad-next test c.loop-k.k c.args.out.now.items c.loop-k.out.items c.loop-k.some before.same before.found _ is w.in_ok-put_member.ensures.ok;
            found = some-next test c.loop-k.k c.args.out.now.items c.loop-k.out.items c.loop-k.some before.same before.found is;
            kept = grind (arith, common_steps);
          })
      | else-has w ↦
          let is : test (c.loop-k.k + 1) ≡ false = sym c.has.ensures ∙ w.if-has.false in
          rw (w.out-is, w.some-is) (record {
            same = bad-same test c.loop-k.k c.args.out.now.items c.loop-k.out.items c.loop-k.some before.same before.found is;
            found = some-same test c.loop-k.k c.args.out.now.items c.loop-k.out.items c.loop-k.some before.same before.found is;
            kept = before.kept;
          })
    ]
