use Rattle.std.proofs.Common.{Err, ap}
use Rattle.rpmb_card.proofs.Comparison.{bytes_eq-other}
use Rattle.tee_types.specs.declared.reply.FrameFault.{FrameFault}
use Rattle.rpmb_host.specs.declared.fault.HostFault.TheVariants.{BadFrame}
use Rattle.rpmb_host.proofs.verdict.judge.Goals as goal

pub returns-in-Err-clause-verdict : goal.returns-in-Err-clause-verdict
returns-in-Err-clause-verdict c =
    rw (bytes_eq-other _ _ c.in-Err.ensures.0) (ap (λ (fault : FrameFault). Err (BadFrame fault)) c.in-Err.ensures.1)
