-- From a fair history to one whose events are answered, and to a legal one.
use Rattle.std.proofs.Common.{◌≡◌, ◌⊎◌, ℕ, List, [], ◌∷◌, ◌++◌, Option, Some, None, Contains, refl, sym, ◌∙◌, subst, inl, inr, append_assoc, append-nil}
use Rattle.store_model.specs.Record.{file_of}
use Rattle.store_model.specs.Legal.{IsLegalFrom}
use Rattle.store_model.specs.ReplayState.{ReplayState}
use Rattle.history_seats.specs.Records.{HistoryRecord}
use Rattle.core_laws.specs.TamperScenarios.{TamperScenario}
use Rattle.core_laws.specs.Stores.{Store, replay_at, start_under}
use Rattle.core_laws.specs.Answered.{AreAnswered, AreFair, AreLegalEach, AreOwnLegal, HasNoClash, IsAnsweredAt, IsEnded, IsOwed}
use Rattle.core_laws.specs.Shown.{IsEndAt}
use Rattle.core_laws.proofs.Mending.{none_some, some_same}
use Rattle.core_laws.proofs.Answers.{answered-snoc, nothing-answered, replay_state-snoc}

module _ (store : Store) (scenario : TamperScenario) where
  abbrev EndsOwed : List HistoryRecord → HistoryRecord → Type 0
  EndsOwed front r = IsOwed scenario r × IsEndAt store scenario front r

  -- Where each file is among those that are not honest, or its events are legal by themselves, each event is answered, or the promises end.
  pub narrowed : (all : List HistoryRecord) → AreFair store scenario all → ((file : ℕ) → Contains scenario.tampered file ⊎ AreOwnLegal store scenario file all)
      → (front : List HistoryRecord) (r : HistoryRecord) (back : List HistoryRecord) → front ++ r ∷ back ≡ all → AreAnswered store scenario front
      → IsAnsweredAt store scenario front r ⊎ EndsOwed front r
  narrowed all fair each front r back e answered = by_file (file_of r) refl
    where
      owing : (front : List HistoryRecord) → IsOwed scenario r → IsAnsweredAt store scenario front r ⊎ IsEndAt store scenario front r → IsAnsweredAt store scenario front r ⊎ EndsOwed front r
      owing before owed (inl one) = inl one
      owing before owed (inr ends) = inr (owed, ends)

      by_file : (o : Option ℕ) → file_of r ≡ o → IsAnsweredAt store scenario front r ⊎ EndsOwed front r
      by_file None is =
          let owed : IsOwed scenario r = λ file names. absurd (none_some file (sym is ∙ names)) in
          owing front owed (fair front r back e answered owed)
      by_file (Some file) is = elim (each file) [
        | inl there ↦
            let owed : IsOwed scenario r = λ other names. subst (Contains scenario.tampered) (some_same file other (sym is ∙ names)) there in
            owing front owed (fair front r back e answered owed)
        | inr own ↦ inl (inl (own front r back e is answered))
      ]

  answered-from : (all front rest : List HistoryRecord) → front ++ rest ≡ all
      → ((fs : List HistoryRecord) (r : HistoryRecord) (back : List HistoryRecord) → fs ++ r ∷ back ≡ all → AreAnswered store scenario fs → IsAnsweredAt store scenario fs r ⊎ EndsOwed fs r)
      → AreAnswered store scenario front → AreAnswered store scenario all ⊎ IsEnded store scenario all
  answered-from all front [] e each answered = inl (subst (AreAnswered store scenario) (sym (append-nil front) ∙ e) answered)
  answered-from all front (r ∷ rest) e each answered = elim (each front r rest e answered) [
    | inl one ↦ answered-from all (front ++ r ∷ []) rest (append_assoc front (r ∷ []) rest ∙ e) each (answered-snoc store scenario front r answered one)
    | inr ends ↦ inr (record { front = front; event = r; back = rest; is = e; answered = answered; owed = ends.0; ends = ends.1 })
  ]

  -- Each event is answered, or the promises end at a first one.
  pub all_answered : (all : List HistoryRecord) → AreFair store scenario all → ((file : ℕ) → Contains scenario.tampered file ⊎ AreOwnLegal store scenario file all)
      → AreAnswered store scenario all ⊎ IsEnded store scenario all
  all_answered all fair each = answered-from all [] all refl (narrowed all fair each) (nothing-answered store scenario)

  -- records that are legal are answered
  pub answered_each : (records : List HistoryRecord) → AreLegalEach store scenario records → AreAnswered store scenario records
  answered_each records legal front r back e = inl (legal front r back e)

  legal-from : (front rest : List HistoryRecord) → AreLegalEach store scenario (front ++ rest) → IsLegalFrom scenario.tampered (replay_at store scenario front) rest
  legal-from front [] legal = tt
  legal-from front (r ∷ rest) legal = (
    (legal front r rest refl).legal,
    subst (λ (s : ReplayState). IsLegalFrom scenario.tampered s rest) (replay_state-snoc store scenario front r)
        (legal-from (front ++ r ∷ []) rest (subst (AreLegalEach store scenario) (sym (append_assoc front (r ∷ []) rest)) legal)),
  )

  -- where each event is legal, so is the history
  pub legal_each : (all : List HistoryRecord) → AreLegalEach store scenario all → IsLegalFrom scenario.tampered (start_under store scenario) all
  legal_each all legal = legal-from [] all legal

  -- where no event shows a clash, it is
  pub legal_without : (all : List HistoryRecord) → AreAnswered store scenario all → HasNoClash store scenario all → IsLegalFrom scenario.tampered (start_under store scenario) all
  legal_without all answered none = legal_each all (λ front r back e. elim (answered front r back e) [ inl legal ↦ legal | inr clash ↦ absurd (none front r back e clash) ])
