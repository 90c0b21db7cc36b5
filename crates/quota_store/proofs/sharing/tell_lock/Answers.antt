use Rattle.std.proofs.Common.{◌∙◌, ap}
use Rattle.std.specs.Prelude.{slice_set}
use Rattle.std.proofs.lemmas.List.{set-get_or}
use Rattle.quota_store.proofs.sharing.tell_lock.Goals as goal

pub loop-session-preserved : goal.loop-session-preserved
loop-session-preserved g c =
    let l = c.loop-session in
    ap (slice_set l.sessions l.session-index) c.tell_lock.ensures ∙ set-get_or l.sessions l.session-index c.session-item.result ∙ l.invariant
