-- Once no commit is in doubt the session is calm.
use Rattle.std.proofs.Common.{◌≡◌, ◌≤◌, None, length, sym, ap, ◌∙◌, subst}
use Rattle.commit_gate.specs.CallerSessions.{CallerSession}
use Rattle.commit_gate.specs.SessionViews.{SeesAll}
use Rattle.commit_gate.specs.GuardedGates.{GuardedGateValue}
use Rattle.call_steps.proofs.OwnDoubts.{seen-calm}
use Rattle.call_steps.proofs.Resolves.{at-some, none-there, shown-waits, some-there}
use Rattle.call_steps.proofs.doubt_settling.settle.Goals as goal

pub returns-then-is_none-clause-calm : goal.returns-then-is_none-clause-calm
returns-then-is_none-clause-calm g c =
    let v = c.args.gate.now in
    seen-calm g.L.StoreName.store v.gate v.journal.knows v.closing c.reveal_invariant.ensures.guarded
    (none-there v.gate.doubt c.doubt.result c.is_none.result c.doubt.ensures c.is_none.ensures c.if-is_none.true) c.args.session.now c.requires.seen

pub returns-clause-calm : goal.returns-clause-calm
returns-clause-calm g c =
    let before = c.args.gate.now in
    let between = c.resolve_once.new.gate in
    let v = c.catch_up.new.self in
    let d = some-there before.gate.doubt c.doubt.result c.is_none.result c.doubt.ensures c.is_none.ensures c.if-is_none.false in
    let resolved = at-some before.gate.doubt _ d.0 d.1 c.in_ok-resolve_once.ensures in
    let idle : v.gate.doubt ≡ None =
    ap (λ (x : GuardedGateValue g.row.F.Denot g.row.R.Denot). x.gate.doubt) c.catch_up.ensures.same ∙ resolved.doubt in
    seen-calm g.L.StoreName.store v.gate v.journal.knows v.closing c.reveal_invariant-2.ensures.guarded idle c.catch_up.new.session (record {
      caller = c.catch_up.ensures.whole;
      sees = c.catch_up.ensures.sees;
      within =
          subst (λ (x : GuardedGateValue g.row.F.Denot g.row.R.Denot). x.journal.knows.decided ≤ length x.journal.knows.all) (sym c.catch_up.ensures.same)
          c.catch_up.ensures.agreed.gate.decided_within;
    })

pub returns-clause-waits : goal.returns-clause-waits
returns-clause-waits g c =
    let between = c.resolve_once.new.gate in
    shown-waits g.L.StoreName.store between.journal.knows c.args.session.now c.catch_up.new.session c.requires.seen.caller c.catch_up.ensures.whole c.catch_up.ensures.begins
    (subst (λ (x : GuardedGateValue g.row.F.Denot g.row.R.Denot). SeesAll x.journal.knows c.catch_up.new.session.pass) c.catch_up.ensures.same c.catch_up.ensures.sees)
    (ap (λ (s : CallerSession g.row.E.Denot). s.number) c.catch_up.ensures.session) (ap (λ (s : CallerSession g.row.E.Denot). s.made) c.catch_up.ensures.session)
