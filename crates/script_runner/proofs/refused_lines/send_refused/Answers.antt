use Rattle.std.proofs.Common.{◌≡◌, ◌<◌, ℕ, List, arith, get_or, length, refl, subst, sym, take}
use Rattle.std.proofs.lemmas.List.{get_or_default}
use Rattle.run_acts.specs.declared.refused_call.RefusedCall.{RefusedCall}
use Rattle.script_runner.specs.RefusedLines.{refused_lines}
use Rattle.script_runner.specs.Sending.{Sends}
use Rattle.script_runner.proofs.RefusedLines.{Stops-at_refused, line_of, refused_lines-all, refused_lines-more}
use Rattle.script_runner.proofs.Sent.{OnErr-always, Sends-append, Sends-none}
use Rattle.script_runner.proofs.refused_lines.send_refused.Goals as goal

pub loop-call-init : goal.loop-call-init
loop-call-init g c = record {
  sent = Sends-none (g.K.Sink.held c.args.sink.now) c.args.kept.now.items;
  count = record { within = omega arith; calls = refl };
  counted = omega arith;
  small = c.requires;
}

pub send_refused_call-requires-clause-counted : goal.send_refused_call-requires-clause-counted
send_refused_call-requires-clause-counted g c = c.loop-call.invariant.count

-- the call of that place
abbrev at_place : (refused : List RefusedCall) (i : ℕ) → i < length refused → (r : RefusedCall) × (r ≡ get_or refused i r)
at_place refused i lt = let none : RefusedCall = record { step = 0; place = 0 } in (get_or refused i none, get_or_default refused i none (get_or refused i none) lt)

pub returns-in_err-send_refused_call-clause-err : goal.returns-in_err-send_refused_call-clause-err
returns-in_err-send_refused_call-clause-err g c =
    let here = at_place c.args.refused.now c.loop-call.call-index c.loop-call-test.true in
    OnErr-always _
    (Stops-at_refused (g.K.Sink.held c.args.sink.now) (g.K.Sink.held c.loop-call.sink) (g.K.Sink.held c.send_refused_call.new.sink) c.args.kept.now.items c.loop-call.kept.items c.args.script.now c.args.steps.now
    c.args.refused.now c.loop-call.call-index here.0 c.loop-call-test.true here.1 c.loop-call.invariant.sent c.in_err-send_refused_call.ensures.err)

pub loop-call-preserved : goal.loop-call-preserved
loop-call-preserved g c =
    let here = at_place c.args.refused.now c.loop-call.call-index c.loop-call-test.true in
    let more = refused_lines-more c.args.script.now c.args.steps.now c.args.refused.now c.loop-call.call-index here.0 c.loop-call-test.true here.1 in
    let line = line_of c.args.script.now c.args.steps.now here.0 in
    record {
      sent = subst (Sends (g.K.Sink.held c.args.sink.now) (g.K.Sink.held c.send_refused_call.new.sink) c.args.kept.now.items c.send_refused_call.new.kept.items) (sym more)
          (Sends-append (g.K.Sink.held c.args.sink.now) (g.K.Sink.held c.loop-call.sink) (g.K.Sink.held c.send_refused_call.new.sink) c.args.kept.now.items c.loop-call.kept.items
          c.send_refused_call.new.kept.items (refused_lines c.args.script.now c.args.steps.now (take c.loop-call.call-index c.args.refused.now)) line c.loop-call.invariant.sent
          c.in_ok-send_refused_call.ensures.ok);
      count = c.send_refused_call.ensures.counted;
      counted = omega (arith, c.loop-call.invariant.counted, c.send_refused_call.ensures.faults);
      small = c.in_ok-send_refused_call.ensures.small;
    }

pub returns-clause-ok : goal.returns-clause-ok
returns-clause-ok g c =
    let all = refused_lines-all c.args.script.now c.args.steps.now c.args.refused.now c.loop-call.call-index c.loop-call-test.false in
    subst (Sends (g.K.Sink.held c.args.sink.now) (g.K.Sink.held c.loop-call.sink) c.args.kept.now.items c.loop-call.kept.items) all c.loop-call.invariant.sent
