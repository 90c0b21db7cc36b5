use Rattle.std.proofs.Common.{◌≤◌, ◌∙◌, ℕ, sym, subst, arith}
use Rattle.run_acts.specs.MountedDevices.{objects_in}
use Rattle.run_acts.proofs.Admissions.{no-quota, some-quota}
use Rattle.run_acts.proofs.Committed.{room-for, room-none}
use Rattle.run_acts.proofs.phase.find_excess.Goals as goal

pub returns-then-is_empty-clause-room : goal.returns-then-is_empty-clause-room
returns-then-is_empty-clause-room g c = λ keys.
    room-none c.args.quotas.now c.args.applications.now (objects_in g.F.StoreFile.state g.R.RpmbPort.state keys c.args.opening.now) (no-quota c.args.quotas.now (sym c.is_empty.ensures ∙ c.if-is_empty.true))

pub returns-then-sum-gt-MAX_OBJECTS-clause-some : goal.returns-then-sum-gt-MAX_OBJECTS-clause-some
returns-then-sum-gt-MAX_OBJECTS-clause-some g c = some-quota c.args.quotas.now (sym c.is_empty.ensures ∙ c.if-is_empty.false)

pub returns-else-sum-gt-MAX_OBJECTS-clause-room : goal.returns-else-sum-gt-MAX_OBJECTS-clause-room
returns-else-sum-gt-MAX_OBJECTS-clause-room g c = λ keys.
    room-for c.args.quotas.now c.args.applications.now (objects_in g.F.StoreFile.state g.R.RpmbPort.state keys c.args.opening.now)
    (subst (λ (n : ℕ). n ≤ 256) (c.committed_objects-sum.ensures keys) (omega (arith, c.if-sum-gt-MAX_OBJECTS.false)))
