-- Histories whose events are answered, and what is owed of them, with one record more.
use Rattle.std.proofs.Common.{◌≡◌, ℕ, true, true≢false, List, [], ◌∷◌, ◌++◌, Some, refl, sym, ap, ◌∙◌, append_assoc, eq-eqb}
use Rattle.store_model.specs.Record.{concerns_file, file_of, is_file}
use Rattle.store_model.specs.ReplayState.{replay_after}
use Rattle.store_model.proofs.Sessions.{replay-append}
use Rattle.history_seats.specs.Records.{HistoryRecord, IsUpToDate}
use Rattle.core_laws.specs.TamperScenarios.{TamperScenario}
use Rattle.core_laws.specs.Stores.{Store, replay_at, start_under}
use Rattle.core_laws.specs.Answered.{AreAnswered, AreOwnLegal, IsAnsweredAt, IsFairAt, IsFairHistory, IsLegalAt}
use Rattle.core_laws.specs.EndLaws.{AnswersAreByEvent, FairnessIsByEvent, OwnEventsAreByEvent}
use Rattle.core_laws.proofs.Places.{Earlier, Later, each_snoc, lacks_one, not_empty, place_of}

-- the replay of one record more
pub replay_state-snoc : (store : Store) (scenario : TamperScenario) (all : List HistoryRecord) (r : HistoryRecord)
    → replay_at store scenario (all ++ r ∷ []) ≡ replay_after (replay_at store scenario all) r.event (file_of r)
replay_state-snoc store scenario all r = replay-append (start_under store scenario) all (r ∷ [])

module _ (store : Store) (scenario : TamperScenario) where
  pub nothing-answered : AreAnswered store scenario []
  nothing-answered [] r back e = absurd (not_empty r back e)
  nothing-answered (f ∷ front) r back e = absurd (not_empty f (front ++ r ∷ back) e)

  pub answered-front : (xs ys : List HistoryRecord) → AreAnswered store scenario (xs ++ ys) → AreAnswered store scenario xs
  answered-front xs ys answered front r back e =
      answered front r (back ++ ys) (sym (append_assoc front (r ∷ back) ys) ∙ ap (λ (l : List HistoryRecord). l ++ ys) e)

  pub answered-last : (all : List HistoryRecord) (r : HistoryRecord) → AreAnswered store scenario (all ++ r ∷ []) → IsAnsweredAt store scenario all r
  answered-last all r answered = answered all r [] refl

  pub answered-snoc : (all : List HistoryRecord) (r : HistoryRecord) → AreAnswered store scenario all → IsAnsweredAt store scenario all r → AreAnswered store scenario (all ++ r ∷ [])
  answered-snoc all r answered one = each_snoc (IsAnsweredAt store scenario) all r answered one

  pub own-snoc : (file : ℕ) (all : List HistoryRecord) (r : HistoryRecord) → AreOwnLegal store scenario file all
      → (file_of r ≡ Some file → AreAnswered store scenario all → IsLegalAt store scenario all r) → AreOwnLegal store scenario file (all ++ r ∷ [])
  own-snoc file all r own one = each_snoc (λ front x. file_of x ≡ Some file → AreAnswered store scenario front → IsLegalAt store scenario front x) all r own one

  -- what the slot of a file knows of its own events holds of the whole history
  pub own-whole : (file : ℕ) (seen whole : List HistoryRecord) → IsUpToDate (concerns_file file) seen whole → AreOwnLegal store scenario file seen → AreOwnLegal store scenario file whole
  own-whole file seen whole begins own front r back e names answered =
      elim (place_of front back r seen begins.rest (e ∙ sym begins.is)) [
        | Earlier more is ↦ own front r more is names answered
        | Later before is rest ↦
            let concerned : concerns_file file r ≡ true = ap (is_file file) names ∙ eq-eqb file file refl in
            absurd (true≢false (sym concerned ∙ lacks_one (concerns_file file) before back r begins.rest rest begins.lacks))
      ]

pub fair-snoc : (store : Store) (all : List HistoryRecord) (r : HistoryRecord) → IsFairHistory store all → ((scenario : TamperScenario) → IsFairAt store scenario all r) → IsFairHistory store (all ++ r ∷ [])
fair-snoc store all r fair one scenario = each_snoc (IsFairAt store scenario) all r (fair scenario) (one scenario)

pub nothing-fair : (store : Store) → IsFairHistory store []
nothing-fair store scenario [] r back e = absurd (not_empty r back e)
nothing-fair store scenario (f ∷ front) r back e = absurd (not_empty f (front ++ r ∷ back) e)

pub nothing-own : (store : Store) (scenario : TamperScenario) (file : ℕ) → AreOwnLegal store scenario file []
nothing-own store scenario file [] r back e = absurd (not_empty r back e)
nothing-own store scenario file (f ∷ front) r back e = absurd (not_empty f (front ++ r ∷ back) e)

pub answers_grow : AnswersAreByEvent
answers_grow store scenario = record { nothing = nothing-answered store scenario; front = answered-front store scenario; more = answered-snoc store scenario }

pub fair_grows : FairnessIsByEvent
fair_grows store = record { nothing = nothing-fair store; more = fair-snoc store }

pub own_grows : OwnEventsAreByEvent
own_grows store scenario file = record { nothing = nothing-own store scenario file; more = own-snoc store scenario file; whole = own-whole store scenario file }
