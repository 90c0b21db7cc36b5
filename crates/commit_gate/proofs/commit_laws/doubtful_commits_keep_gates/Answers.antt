use Rattle.commit_gate.proofs.CommitGates.{doubtful_guarded}
use Rattle.commit_gate.proofs.commit_laws.doubtful_commits_keep_gates.Goals as goal

pub returns : goal.returns
returns g c = λ store old new view closing session number call reply change slot versions cause n before known ready left journal.
    doubtful_guarded store old new view closing before.guarded before.idle before.within session number known call reply change slot versions ready
    cause n left.entries left.counted left.doubted left.open_handles left.tsk left.format left.key journal
