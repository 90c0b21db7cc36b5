-- A session that saw the whole history stays as it is when it is shown the history.
use Rattle.std.proofs.Common.{◌≡◌, ◌∙◌, Some, sym, ap}
use Rattle.history_seats.specs.Views.{GateView, PassView, Sight}
use Rattle.core_laws.specs.Stores.{Store}
use Rattle.commit_gate.specs.CallerSessions.{CallerSession}
use Rattle.commit_gate.specs.SessionViews.{doubt_learnt, pass_shown, shown, state_learnt}
use Rattle.commit_gate.specs.Commits.{IsCalm}

module _ {E : Type 0} (store : Store) (knows : GateView) (s : CallerSession E) (calmly : IsCalm store knows s) where
  abbrev seat : Sight PassView
  seat = calmly.sees.seat

  same-pass : pass_shown knows s.pass ≡ s.pass
  same-pass =
      ap (pass_shown knows) calmly.sees.is
      ∙ (λ i. Some (record seat { knows = record seat.knows { seen = sym calmly.sees.whole i; decided = sym calmly.sees.place i } }))
      ∙ sym calmly.sees.is

  same-state : state_learnt knows s.state s.doubt ≡ s.state
  same-state = ap (state_learnt knows s.state) calmly.settled

  same-doubt : doubt_learnt knows s.doubt ≡ s.doubt
  same-doubt = ap (doubt_learnt knows) calmly.settled ∙ sym calmly.settled

  pub shown-same : shown knows s ≡ s
  shown-same = λ i. record s { pass = same-pass i; state = same-state i; doubt = same-doubt i }
