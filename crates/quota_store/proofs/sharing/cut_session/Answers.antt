use Rattle.std.proofs.Common.{◌∙◌, ap}
use Rattle.app_quota.specs.Quotas.{limit_of}
use Rattle.shared_store.specs.CallerSessions.{CallerSession}
use Rattle.quota_store.proofs.CutSessions.{lent_back}
use Rattle.quota_store.proofs.sharing.cut_session.Goals as goal

pub returns-clause-session : goal.returns-clause-session
returns-clause-session g c =
    let s = c.args.session in
    let half = c.cut-half in
    λ i. record {
      caller = lent_back s half.result half.new.session half.ensures.half half.ensures.session i;
      limit = (c.limit_of-limit.ensures ∙ ap (limit_of c.args.quotas.now) (c.app.ensures ∙ ap (λ (x : CallerSession g.row.E.Denot). x.state.application) half.ensures.session)) i;
    }

pub returns-clause-kept : goal.returns-clause-kept
returns-clause-kept g c =
    let put = c.cut-half.ensures.kept in
    (put.half, put.of, put.put)
