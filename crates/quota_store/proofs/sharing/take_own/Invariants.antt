use Rattle.std.proofs.Common.{◌≡◌, vec_len}
use Rattle.quota_store.specs.Sharing.{is_app_at}
use Rattle.quota_store.proofs.AppSessions.{AreMovedBelow}
use Rattle.quota_store.proofs.sharing.take_own.Given as goal

abbrev pub invariant-loop-number : goal.invariant-loop-number
invariant-loop-number g l = record {
  many : vec_len l.own ≡ 16;
  moved : AreMovedBelow (is_app_at l.app l.sessions) l.number l.initial.kept l.kept l.own.items;
}
