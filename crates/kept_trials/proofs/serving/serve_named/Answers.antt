use Rattle.std.proofs.Common.{◌≡◌, ◌∙◌, length, sym, subst}
use Rattle.object_calls.specs.OpeningSessions.{AreCallers}
use Rattle.object_calls.proofs.Files.{refilled}
use Rattle.kept_trials.proofs.serving.serve_named.Goals as goal

pub make_and_close-requires-clause-callers : goal.make_and_close-requires-clause-callers
make_and_close-requires-clause-callers g c =
    let sessions = c.args.sessions in
    let long : length sessions.items ≡ sessions.len = sym sessions.ok.0 in
    let many : length c.serve.new.sessions ≡ sessions.len = c.serve.auto.sessions ∙ c.deref_mut.ensures.len in
    subst (AreCallers g.L.StoreName.store) (sym (refilled sessions.len sessions.items c.serve.new.sessions long many)) c.in-Ok.ensures.seated.each
