use Rattle.std.proofs.Common.{sym, subst, arith}
use Rattle.script_runner.specs.Sending.{Sends}
use Rattle.script_runner.proofs.Sent.{Sends-append, Stops-at_event, Stops-longer, OnErr-always, text_upto-none, text_upto-more, text_upto-all}
use Rattle.script_runner.proofs.phase_text.send_history.Goals as goal

pub returns-in_err-send_header-clause-err : goal.returns-in_err-send_header-clause-err
returns-in_err-send_header-clause-err g c = OnErr-always _ (Stops-longer _ _ c.args.kept.now.items _ _ c.in_err-send_header.ensures.err)

pub loop-place-init : goal.loop-place-init
loop-place-init g c = record {
  sent = subst (Sends _ _ c.args.kept.now.items c.send_header.new.kept.items) (sym (text_upto-none c.args.script.now c.args.phase.now.number c.args.phase.now.mode c.args.phase.now.objects c.args.phase.now.history.now.events)) c.in_ok-send_header.ensures.ok;
  counted = c.in_ok-send_header.ensures.counted;
  small = c.in_ok-send_header.ensures.small;
}

pub returns-in_err-send_event-clause-err : goal.returns-in_err-send_event-clause-err
returns-in_err-send_event-clause-err g c =
    OnErr-always _
    (Stops-at_event _ _ _ c.args.kept.now.items c.loop-place.kept.items c.args.script.now c.args.phase.now.number c.args.phase.now.mode c.args.phase.now.objects c.args.phase.now.history.now.events c.loop-place.place c.event_at-event.result.now
    (omega (arith, c.len-place-end.ensures)) c.event_at-event.ensures c.loop-place.invariant.sent c.in_err-send_event.ensures.err)

pub loop-place-preserved : goal.loop-place-preserved
loop-place-preserved g c =
    let script = c.args.script.now in
    let events = c.args.phase.now.history.now.events in
    let more = text_upto-more script c.args.phase.now.number c.args.phase.now.mode c.args.phase.now.objects events c.loop-place.place c.event_at-event.result.now (omega (arith, c.len-place-end.ensures)) c.event_at-event.ensures in record {
      sent = subst (Sends _ _ c.args.kept.now.items c.send_event.new.kept.items) (sym more) (Sends-append _ _ _ c.args.kept.now.items c.loop-place.kept.items _ _ _ c.loop-place.invariant.sent c.in_ok-send_event.ensures.ok);
      counted = omega (arith, c.in_ok-send_event.ensures.counted);
      small = c.in_ok-send_event.ensures.small;
    }

pub returns-clause-ok : goal.returns-clause-ok
returns-clause-ok g c =
    let all = text_upto-all c.args.script.now c.args.phase.now.number c.args.phase.now.mode c.args.phase.now.objects c.args.phase.now.history.now.events c.loop-place.place (omega (arith, c.len-place-end.ensures)) in
    subst (Sends _ _ c.args.kept.now.items c.loop-place.kept.items) all c.loop-place.invariant.sent
