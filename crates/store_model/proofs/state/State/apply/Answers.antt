use Rattle.std.proofs.Common.{length, ap, ◌∙◌}
use Rattle.store_model.specs.Machine.{applications}
use Rattle.store_model.proofs.Refusals.{kept-IsOutcome, alone-IsOutcome}
use Rattle.store_model.proofs.Sessions.{applications-sessions, length-sessions}
use Rattle.store_model.proofs.state.State.apply.Goals as goal

pub returns-in-Ok-clause-refused : goal.returns-in-Ok-clause-refused
returns-in-Ok-clause-refused c = kept-IsOutcome c.args.self.now c.args.session c.args.call.now c.in-Ok.reply c.serve.new.self c.in-Ok.ensures.ok

pub returns-in-Ok-clause-unfaulted : goal.returns-in-Ok-clause-unfaulted
returns-in-Ok-clause-unfaulted c = alone-IsOutcome c.args.self.now c.args.session c.args.call.now c.in-Ok.reply c.serve.new.self c.in-Ok.ensures.ok

pub returns-in-Ok-clause-applications : goal.returns-in-Ok-clause-applications
returns-in-Ok-clause-applications c =
    ap (λ s. applications s.sessions) c.in-Ok.ensures.ok.changed ∙ applications-sessions c.args.self.now c.args.session c.args.call.now

pub returns-in-Ok-clause-sessions : goal.returns-in-Ok-clause-sessions
returns-in-Ok-clause-sessions c =
    ap (λ s. length s.sessions) c.in-Ok.ensures.ok.changed ∙ length-sessions c.args.self.now c.args.session c.args.call.now
