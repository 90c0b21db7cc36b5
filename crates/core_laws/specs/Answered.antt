-- Histories under tamper scenarios: which events are legal or show a clash, and what is owed of each.
use Rattle.std.specs.Prelude.{◌≡◌, ◌⊎◌, ℕ, true, List, [], ◌∷◌, ◌++◌, Some, Contains}
use Rattle.store_model.specs.Record.{file_of}
use Rattle.store_model.specs.Legal.{IsLegalEvent}
use Rattle.history_seats.specs.Records.{HistoryRecord}
use Rattle.history_seats.specs.Settling.{commits}
use Rattle.core_laws.specs.TamperScenarios.{TamperScenario}
use Rattle.core_laws.specs.Stores.{Store, replay_at}
use Rattle.core_laws.specs.Mapped.{IsMapped, IsMappedBoth}
use Rattle.core_laws.specs.Shown.{IsClashedAt, IsEndAt}

-- A commit, made or in doubt, leaves the map in step with the directory and with what stands for the versions.
abbrev pub IsKeptAt : Store → TamperScenario → List HistoryRecord → HistoryRecord → Type 0
IsKeptAt store scenario before r = commits r.event ≡ true → IsMapped store scenario before → IsMappedBoth store scenario 0 (before ++ r ∷ [])

-- The event is legal where the replay stands, and a commit leaves what the machine's does.
pub record IsLegalAt (store : Store) (scenario : TamperScenario) (before : List HistoryRecord) (r : HistoryRecord) : Type 0 where
  pub legal : IsLegalEvent scenario.tampered (replay_at store scenario before) r.event (file_of r)
  pub kept : IsKeptAt store scenario before r

-- so does each of these records
abbrev pub AreLegalEach : Store → TamperScenario → List HistoryRecord → Type 0
AreLegalEach store scenario records =
    (front : List HistoryRecord) (r : HistoryRecord) (back : List HistoryRecord) → front ++ r ∷ back ≡ records → IsLegalAt store scenario front r

-- The event is legal, or shows a clash.
abbrev pub IsAnsweredAt : Store → TamperScenario → List HistoryRecord → HistoryRecord → Type 0
IsAnsweredAt store scenario before r = IsLegalAt store scenario before r ⊎ IsClashedAt store scenario before r

-- so is each of these records
abbrev pub AreAnswered : Store → TamperScenario → List HistoryRecord → Type 0
AreAnswered store scenario records =
    (front : List HistoryRecord) (r : HistoryRecord) (back : List HistoryRecord) → front ++ r ∷ back ≡ records → IsAnsweredAt store scenario front r

-- the file that the record's tag names, if any, is among those that are not honest
abbrev pub IsOwed : TamperScenario → HistoryRecord → Type 0
IsOwed scenario r = (file : ℕ) → file_of r ≡ Some file → Contains scenario.tampered file

-- What is owed of such an event, where those before it are answered: it is answered, or the promises end there.
abbrev pub IsFairAt : Store → TamperScenario → List HistoryRecord → HistoryRecord → Type 0
IsFairAt store scenario before r = AreAnswered store scenario before → IsOwed scenario r → IsAnsweredAt store scenario before r ⊎ IsEndAt store scenario before r

abbrev pub AreFair : Store → TamperScenario → List HistoryRecord → Type 0
AreFair store scenario records =
    (front : List HistoryRecord) (r : HistoryRecord) (back : List HistoryRecord) → front ++ r ∷ back ≡ records → IsFairAt store scenario front r

-- Each event whose tag names the file is legal, where those before it are answered.
abbrev pub AreOwnLegal : Store → TamperScenario → (file : ℕ) → List HistoryRecord → Type 0
AreOwnLegal store scenario file records =
    (front : List HistoryRecord) (r : HistoryRecord) (back : List HistoryRecord) → front ++ r ∷ back ≡ records → file_of r ≡ Some file
    → AreAnswered store scenario front → IsLegalAt store scenario front r

-- The history is fair: under each tamper scenario each event of a file that is not honest, and each event of no file, is answered, or the
-- promises end there.
abbrev pub IsFairHistory : Store → List HistoryRecord → Type 0
IsFairHistory store records = (scenario : TamperScenario) → AreFair store scenario records

-- The first event at which the promises end. The file that its tag names is not honest.
pub record IsEnded (store : Store) (scenario : TamperScenario) (records : List HistoryRecord) : Type 0 where
  pub front : List HistoryRecord
  pub event : HistoryRecord
  pub back : List HistoryRecord
  pub is : front ++ event ∷ back ≡ records
  pub answered : AreAnswered store scenario front
  pub owed : IsOwed scenario event
  pub ends : IsEndAt store scenario front event

-- no event shows a clash
abbrev pub HasNoClash : Store → TamperScenario → List HistoryRecord → Type 0
HasNoClash store scenario records =
    (front : List HistoryRecord) (r : HistoryRecord) (back : List HistoryRecord) → front ++ r ∷ back ≡ records → IsClashedAt store scenario front r → ⊥
