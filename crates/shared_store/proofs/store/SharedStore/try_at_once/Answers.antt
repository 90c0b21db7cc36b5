-- The attempt is made with the lock, or not at all.
use Rattle.shared_calls.proofs.GoingOn.{waits-same}
use Rattle.shared_store.proofs.store.SharedStore.try_at_once.Goals as goal

pub returns-in_default-clause-ends : goal.returns-in_default-clause-ends
returns-in_default-clause-ends g c = waits-same g.L.StoreName.store c.args.session.now c.requires.caller

pub returns-in_default-try_lock-clause-ends : goal.returns-in_default-try_lock-clause-ends
returns-in_default-try_lock-clause-ends g c = waits-same g.L.StoreName.store c.args.session.now c.requires.caller
