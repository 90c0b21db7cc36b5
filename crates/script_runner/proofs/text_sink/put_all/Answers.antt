use Rattle.std.proofs.Common.{◌≡◌, ◌-◌, length, arith, take, drop, take-add}
use Rattle.std.proofs.lemmas.Grind.{common_steps}
use Rattle.tee_ports.proofs.Streams.{Appends-append}
use Rattle.script_runner.proofs.text_sink.put_all.Goals as goal

pub loop-at-preserved : goal.loop-at-preserved
loop-at-preserved g c =
    let at = c.loop-at.at in
    let bytes = c.args.bytes.now in
    let rest : take (length bytes - at) (drop at bytes) ≡ drop at bytes = grind (arith, common_steps) in
    let put = rw rest at c.in-Ok.ensures.bytes in record {
      put = rw take-add (Appends-append _ _ _ (take at bytes) _ c.loop-at.invariant.put put);
      within = omega (arith, c.in-Ok.ensures.within);
      counted = grind arith;
    }
