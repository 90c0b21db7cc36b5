use Rattle.std.proofs.Common.{sym, subst, arith}
use Rattle.script_runner.specs.Sending.{Sends}
use Rattle.script_runner.proofs.Sent.{Sends-append, Stops-longer, OnErr-always}
use Rattle.script_runner.proofs.CardTexts.{Stops-at_name, listed_upto-all, listed_upto-more, listed_upto-none}
use Rattle.script_runner.proofs.card_answers.send_names.Goals as goal

pub returns-in_err-send_answer-clause-err : goal.returns-in_err-send_answer-clause-err
returns-in_err-send_answer-clause-err g c = OnErr-always _ (Stops-longer _ _ c.args.kept.now.items _ _ c.in_err-send_answer.ensures.err)

pub loop-name-init : goal.loop-name-init
loop-name-init g c = record {
  sent = subst (Sends _ _ c.args.kept.now.items c.send_answer.new.kept.items) (sym (listed_upto-none c.args.place c.args.line.now c.args.names.now)) c.in_ok-send_answer.ensures.ok;
  counted = c.in_ok-send_answer.ensures.counted;
  small = c.in_ok-send_answer.ensures.small;
}

pub returns-in_err-send_name-clause-err : goal.returns-in_err-send_name-clause-err
returns-in_err-send_name-clause-err g c =
    OnErr-always _
    (Stops-at_name _ _ _ c.args.kept.now.items c.loop-name.kept.items c.args.place c.args.line.now c.args.names.now c.loop-name.name-index c.name-item.result
    c.loop-name-test.true c.name-item.is c.loop-name.invariant.sent c.in_err-send_name.ensures.err)

pub loop-name-preserved : goal.loop-name-preserved
loop-name-preserved g c =
    let more = listed_upto-more c.args.place c.args.line.now c.args.names.now c.loop-name.name-index c.name-item.result c.loop-name-test.true c.name-item.is in record {
      sent = subst (Sends _ _ c.args.kept.now.items c.send_name.new.kept.items) (sym more) (Sends-append _ _ _ c.args.kept.now.items c.loop-name.kept.items _ _ _ c.loop-name.invariant.sent c.in_ok-send_name.ensures.ok);
      counted = omega (arith, c.in_ok-send_name.ensures.counted);
      small = c.in_ok-send_name.ensures.small;
    }

pub returns-clause-ok : goal.returns-clause-ok
returns-clause-ok g c =
    let all = listed_upto-all c.args.place c.args.line.now c.args.names.now c.loop-name.name-index c.loop-name-test.false in
    subst (Sends _ _ c.args.kept.now.items c.loop-name.kept.items) all c.loop-name.invariant.sent
