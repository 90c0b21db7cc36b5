-- The answer says what kept the doubt from being settled.
use Rattle.std.proofs.Common.{sym, subst}
use Rattle.call_steps.specs.Resolved.{StaysInDoubt}
use Rattle.call_steps.specs.GateServed.{HeldUp}
use Rattle.call_steps.proofs.Serving.{served-from}
use Rattle.call_steps.proofs.gate_answers.settle_for.Goals as goal

pub returns-in-Err-clause-served : goal.returns-in-Err-clause-served
returns-in-Err-clause-served g c =
    let e = c.settle.ensures in
    let first = c.args.session.now in
    let s = c.settle.new.session in
    record {
      between = c.settle.new.gate;
      precedes =
          HeldUp c.in-Err.cause
          (subst (λ (x : g.row.E.Denot). StaysInDoubt g.F.StoreFile.state g.R.RpmbPort.state (g.E.Entropy.is_reliable first.entropy) (g.E.Entropy.faults first.entropy) (g.E.Entropy.faults x)
          c.args.gate.now c.settle.new.gate c.in-Err.cause) (sym c.held_up.ensures.entropy) c.in-Err.ensures.held)
          c.held_up.ensures.reply;
      served =
          served-from g.L.StoreName.store first s e.waits c.args.call c.held_up.result c.settle.new.gate c.held_up.new.gate c.held_up.new.session
          c.held_up.ensures.served;
    }
