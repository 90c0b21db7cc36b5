-- A misuse is answered behind nothing.
use Rattle.std.proofs.Common.{refl, ap, subst}
use Rattle.tee_types.specs.declared.call.Call.{Call}
use Rattle.store_model.specs.Files.{is_misuse}
use Rattle.call_steps.specs.GateServed.{IsServed, Misused}
use Rattle.call_steps.proofs.gate_answers.answer_first.Goals as goal

pub returns-in-Some-clause-serves : goal.returns-in-Some-clause-serves
returns-in-Some-clause-serves g c = record {
  between = c.args.gate.now;
  precedes = Misused refl (ap is_misuse c.answer_misuse.ensures.reply);
  served =
      subst (λ (x : Call). IsServed g.L.StoreName.store x c.answer_misuse.result c.args.gate.now c.answer_misuse.new.gate c.args.session.now c.answer_misuse.new.session)
      c.in_ok-kept.ensures c.answer_misuse.ensures.served;
}
