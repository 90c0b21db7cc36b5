-- From what is owed of each event to a history that is answered, and to a legal one.
use Rattle.std.specs.Prelude.{◌≡◌, ◌⊎◌, ℕ, List, [], ◌∷◌, ◌++◌, Some, Contains}
use mathlib.Core.Logic.{inl, inr}
use Rattle.store_model.specs.Legal.{IsLegalFrom}
use Rattle.store_model.specs.Record.{concerns_file, file_of}
use Rattle.history_seats.specs.Records.{HistoryRecord, IsUpToDate}
use Rattle.history_seats.specs.SessionLaws.{AreLandingsDue}
use Rattle.core_laws.specs.Decodings.{Decoding}
use Rattle.core_laws.specs.TamperScenarios.{TamperScenario, object_under}
use Rattle.core_laws.specs.Clashes.{Clash}
use Rattle.core_laws.specs.Stores.{Store, mounted_files, objects_under, start_under}
use Rattle.core_laws.specs.Given.{decoding_given}
use Rattle.core_laws.specs.Shown.{IsClashedAt, IsEndAt, IsGivenAt, asked_of, stands_for}
use Rattle.core_laws.specs.Answered.{AreAnswered, AreFair, AreLegalEach, AreOwnLegal, HasNoClash, IsAnsweredAt, IsEnded, IsFairAt, IsFairHistory, IsLegalAt}
use Rattle.core_laws.specs.TieLaws.{AreRising}
use Rattle.core_laws.specs.Undamaged.{AreUndamagedIn, IsUndamaged}

-- Where each file is among those that are not honest, or its events are legal by themselves, each event is answered, or the promises end at
-- a first one.
abbrev pub FairHistoriesAreAnswered : Type 0
FairHistoriesAreAnswered =
    (store : Store) (scenario : TamperScenario) (records : List HistoryRecord) → AreFair store scenario records
    → ((file : ℕ) → Contains scenario.tampered file ⊎ AreOwnLegal store scenario file records) → AreAnswered store scenario records ⊎ IsEnded store scenario records

-- Where no event shows a clash, an answered history is legal.
abbrev pub AnsweredHistoriesAreLegal : Type 0
AnsweredHistoriesAreLegal =
    (store : Store) (scenario : TamperScenario) (records : List HistoryRecord) → AreAnswered store scenario records → HasNoClash store scenario records
    → IsLegalFrom scenario.tampered (start_under store scenario) records

-- In an answered history each landing stands where a doubt is open.
abbrev pub AnsweredLandingsAreDue : Type 0
AnsweredLandingsAreDue = (store : Store) (scenario : TamperScenario) (records : List HistoryRecord) → AreAnswered store scenario records → AreLandingsDue (start_under store scenario) records

-- what the event shows of its object's file, at which the promises end
abbrev pub given_at : {store : Store} {scenario : TamperScenario} {before : List HistoryRecord} {r : HistoryRecord} → IsEndAt store scenario before r → IsGivenAt store scenario before r
given_at (inl lacking) = lacking.told.given
given_at (inr strays) = strays.given

-- What the file gave, where the promises end, clashes with what stands for the version.
pub record IsEndByClash (store : Store) (scenario : TamperScenario) (before : List HistoryRecord) (r : HistoryRecord) : Type 0 where
  pub ends : IsEndAt store scenario before r
  pub sp : Decoding
  pub stands : stands_for (given_at ends) ≡ Some sp
  pub clash : Clash (asked_of (given_at ends)) sp (decoding_given (given_at ends).gave)

-- Where nothing of what stands for the version is damaged, the promises end only at a clash.
abbrev pub UndamagedEndsClash : Type 0
UndamagedEndsClash =
    (store : Store) (scenario : TamperScenario) (before : List HistoryRecord) (r : HistoryRecord) (x : IsEndAt store scenario before r)
    → IsUndamaged (object_under store.keys scenario (given_at x).tag.file (given_at x).tag.generation (given_at x).version) → IsEndByClash store scenario before r

-- At a first event, by a call on an object whose file is not honest, what the file gave clashes with what was committed. The events before it
-- are legal.
pub record HasClashed (store : Store) (scenario : TamperScenario) (records : List HistoryRecord) : Type 0 where
  pub front : List HistoryRecord
  pub event : HistoryRecord
  pub back : List HistoryRecord
  pub is : front ++ event ∷ back ≡ records
  pub legal : AreLegalEach store scenario front
  pub file : ℕ
  pub of_file : file_of event ≡ Some file
  pub not_honest : Contains scenario.tampered file
  pub shows : IsClashedAt store scenario front event ⊎ IsEndByClash store scenario front event

-- Where no object in a file that is not honest is damaged as the phase opens, each event is legal, or there is a first clash.
abbrev pub FairHistoriesAreLegal : Type 0
FairHistoriesAreLegal =
    (store : Store) (scenario : TamperScenario) (records : List HistoryRecord) → AreRising store.objects
    → AreUndamagedIn scenario.tampered (mounted_files store.mounted) (objects_under store scenario) → AreFair store scenario records
    → ((file : ℕ) → Contains scenario.tampered file ⊎ AreOwnLegal store scenario file records) → AreLegalEach store scenario records ⊎ HasClashed store scenario records

-- Where each event is legal, so is the history.
abbrev pub LegalEventsAreLegal : Type 0
LegalEventsAreLegal =
    (store : Store) (scenario : TamperScenario) (records : List HistoryRecord) → AreLegalEach store scenario records
    → AreAnswered store scenario records × IsLegalFrom scenario.tampered (start_under store scenario) records

-- What begins an answered history is answered, and one more answered event leaves it so.
pub record AnswersGrow (store : Store) (scenario : TamperScenario) : Type 0 where
  pub nothing : AreAnswered store scenario []
  pub front : (front back : List HistoryRecord) → AreAnswered store scenario (front ++ back) → AreAnswered store scenario front
  pub more : (records : List HistoryRecord) (r : HistoryRecord) → AreAnswered store scenario records → IsAnsweredAt store scenario records r
      → AreAnswered store scenario (records ++ r ∷ [])

abbrev pub AnswersAreByEvent : Type 0
AnswersAreByEvent = (store : Store) (scenario : TamperScenario) → AnswersGrow store scenario

-- So of what is owed of each.
pub record FairGrows (store : Store) : Type 0 where
  pub nothing : IsFairHistory store []
  pub more : (records : List HistoryRecord) (r : HistoryRecord) → IsFairHistory store records → ((scenario : TamperScenario) → IsFairAt store scenario records r)
      → IsFairHistory store (records ++ r ∷ [])

abbrev pub FairnessIsByEvent : Type 0
FairnessIsByEvent = (store : Store) → FairGrows store

-- So of a file's own events, of which a view of the file lacks none.
pub record OwnGrows (store : Store) (scenario : TamperScenario) (file : ℕ) : Type 0 where
  pub nothing : AreOwnLegal store scenario file []
  pub more : (records : List HistoryRecord) (r : HistoryRecord) → AreOwnLegal store scenario file records
      → (file_of r ≡ Some file → AreAnswered store scenario records → IsLegalAt store scenario records r) → AreOwnLegal store scenario file (records ++ r ∷ [])
  pub whole : (seen whole : List HistoryRecord) → IsUpToDate (concerns_file file) seen whole → AreOwnLegal store scenario file seen → AreOwnLegal store scenario file whole

abbrev pub OwnEventsAreByEvent : Type 0
OwnEventsAreByEvent = (store : Store) (scenario : TamperScenario) (file : ℕ) → OwnGrows store scenario file
