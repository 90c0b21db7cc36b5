use Rattle.std.proofs.Common.{◌≡◌, ◌∙◌, length, sym, subst}
use Rattle.object_calls.specs.OpeningSessions.{AreCallers}
use Rattle.object_calls.proofs.Files.{refilled}
use Rattle.kept_trials.proofs.serving.make_and_close.Goals as goal

pub make_calls-requires-clause-callers : goal.make_calls-requires-clause-callers
make_calls-requires-clause-callers g c = subst (AreCallers g.L.StoreName.store) (sym c.deref_mut.ensures.value) c.requires.callers

pub finish-requires : goal.finish-requires
finish-requires g c =
    let sessions = c.args.sessions in
    let made = c.make_calls in
    let long : length sessions.items ≡ sessions.len = sym sessions.ok.0 in
    let many : length made.new.sessions ≡ sessions.len = made.auto.sessions ∙ c.deref_mut.ensures.len in
    subst (AreCallers g.L.StoreName.store) (sym (refilled sessions.len sessions.items made.new.sessions long many)) made.ensures.callers
