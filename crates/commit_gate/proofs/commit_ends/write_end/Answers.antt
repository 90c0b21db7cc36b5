-- Each end is written as what it is told with says.
use Rattle.std.proofs.Common.{subst}
use Rattle.store_commit.specs.declared.change.CommitEnd.{CommitEnd}
use Rattle.commit_gate.specs.Ended.{MayEnd}
use Rattle.commit_gate.proofs.commit_ends.write_end.Goals as goal

pub end_made-requires-clause-append : goal.end_made-requires-clause-append
end_made-requires-clause-append g c =
    subst (λ (end : CommitEnd). MayEnd g.L.StoreName.store c.args.journal.now.knows end c.args.call c.args.reply c.args.step c.args.slot.knows g.N.VersionsName.versions c.args.session.now)
    c.in-Made.is c.requires.ends

pub end_doubtful-requires-clause-append : goal.end_doubtful-requires-clause-append
end_doubtful-requires-clause-append g c =
    subst (λ (end : CommitEnd). MayEnd g.L.StoreName.store c.args.journal.now.knows end c.args.call c.args.reply c.args.step c.args.slot.knows g.N.VersionsName.versions c.args.session.now)
    c.in-Doubtful.is c.requires.ends

pub end_unmade-requires-clause-append : goal.end_unmade-requires-clause-append
end_unmade-requires-clause-append g c =
    subst (λ (end : CommitEnd). MayEnd g.L.StoreName.store c.args.journal.now.knows end c.args.call c.args.reply c.args.step c.args.slot.knows g.N.VersionsName.versions c.args.session.now)
    c.in-Dropped.is c.requires.ends

pub end_unmade-requires-in-Spent-clause-append : goal.end_unmade-requires-in-Spent-clause-append
end_unmade-requires-in-Spent-clause-append g c =
    subst (λ (end : CommitEnd). MayEnd g.L.StoreName.store c.args.journal.now.knows end c.args.call c.args.reply c.args.step c.args.slot.knows g.N.VersionsName.versions c.args.session.now)
    c.in-Spent.is c.requires.ends
