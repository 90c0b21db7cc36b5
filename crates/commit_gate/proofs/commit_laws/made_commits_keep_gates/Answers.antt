use Rattle.commit_gate.proofs.CommitGates.{made_guarded}
use Rattle.commit_gate.proofs.commit_laws.made_commits_keep_gates.Goals as goal

pub returns : goal.returns
returns g c = λ store old new view closing session number call reply change slot versions n before known ready left journal.
    made_guarded store old new view closing before.guarded before.idle before.within session number known call reply change slot versions ready
    n left.entries left.counted left.settled left.notes left.tsk left.format left.key journal
