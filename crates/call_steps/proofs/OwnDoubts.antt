-- While the gate has no doubt, no session that sees the whole history has one of its own.
use Rattle.std.proofs.Common.{◌≡◌, ◌≤◌, ℕ, List, Option, Some, None, refl, sym, subst}
use Rattle.history_seats.specs.Records.{HistoryRecord}
use Rattle.history_seats.specs.Settling.{IsOpenDoubt}
use Rattle.history_seats.specs.Views.{GateView}
use Rattle.core_laws.specs.Stores.{Store}
use Rattle.commit_gate.specs.declared.own_doubt.OwnDoubt.{OwnDoubt}
use Rattle.commit_gate.specs.CallerSessions.{CallerSession, IsCallerOf, IsOwnDoubt}
use Rattle.commit_gate.specs.SessionViews.{SeesAll}
use Rattle.commit_gate.proofs.SessionDoubts.{doubt-number}
use Rattle.core_laws.specs.Ties.{IsTied}
use Rattle.commit_gate.specs.declared.DoubtedChange.{DoubtedChange}
use Rattle.commit_gate.specs.Gates.{GateValue}
use Rattle.commit_gate.specs.declared.guarded_gate.Closing.{Closing}
use Rattle.commit_gate.specs.Commits.{IsCalm}
use Rattle.commit_gate.specs.GuardedGates.{GateInvariant}
use Rattle.call_steps.specs.Seen.{HasSeen}

none-unless : (o : Option OwnDoubt) → ((d : OwnDoubt) → o ≡ Some d → ⊥) → o ≡ None
none-unless None never = refl
none-unless (Some d) never = absurd (never d refl)

-- a session's own doubt is open in what it sees
own-open : (i : ℕ) (seen : List HistoryRecord) (decided place : ℕ) → IsOwnDoubt i seen decided place → (commit : ℕ) × IsOpenDoubt commit decided seen
own-open i seen decided place own =
    let number = doubt-number own.doubted.event own.doubtful in (
      number.0,
      record {
        front = own.front;
        doubted = own.doubted;
        back = own.back;
        is = own.is;
        marked = number.1;
        last = own.last;
        late = subst (λ (n : ℕ). decided ≤ n) (sym own.at) own.late;
      },
    )

module _ {F R : Type 0} (store : Store) (gate : GateValue F R) (knows : GateView) (closing : Option Closing) (guarded : GateInvariant store gate knows closing) (idle : gate.doubt ≡ None) where
  none-open : (commit : ℕ) → IsOpenDoubt commit knows.decided knows.all → ⊥
  none-open =
      let tied : IsTied store knows gate.dir.dir.entries gate.counter None =
      subst (λ (o : Option DoubtedChange). IsTied store knows gate.dir.dir.entries gate.counter o) idle guarded.tied in
      tied.doubt

  pub own-none : {E : Type 0} (s : CallerSession E) → IsCallerOf store s → SeesAll knows s.pass → s.doubt ≡ None
  own-none s caller sees = none-unless s.doubt (λ d is.
      let own = own-open s.number sees.seat.knows.seen sees.seat.knows.decided d.place (caller.doubt sees.seat sees.is d is) in
      none-open own.0
      (subst (λ (n : ℕ). IsOpenDoubt own.0 n knows.all) sees.place
      (subst (λ (l : List HistoryRecord). IsOpenDoubt own.0 sees.seat.knows.decided l) sees.whole own.1)))

  -- so a session that was shown the history is calm
  pub seen-calm : {E : Type 0} (s : CallerSession E) → HasSeen store knows s → IsCalm store knows s
  seen-calm s seen = record { caller = seen.caller; sees = seen.sees; settled = own-none s seen.caller seen.sees; within = seen.within }
