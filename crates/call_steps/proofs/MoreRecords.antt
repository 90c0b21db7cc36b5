-- A history with one record more.
use Rattle.std.proofs.Common.{◌≡◌, ◌++◌, ◌∷◌, [], ℕ, List, Some, ap, ◌∙◌, inl, inr}
use Rattle.std.proofs.lemmas.List.{map-append}
use Rattle.std.proofs.lemmas.List.Elements.{Contains-push_cases}
use Rattle.tee_types.specs.Limits.{IsObjectFile}
use Rattle.history_seats.specs.Records.{HistoryRecord}
use Rattle.store_model.specs.Record.{events_of, file_of}
use Rattle.call_steps.specs.Slots.{AreOfObjectFiles}

-- records and one more, whose tag, if it has one, names an object's file
pub tagged_more : (records : List HistoryRecord) (last : HistoryRecord) → ((file : ℕ) → file_of last ≡ Some file → IsObjectFile file) → AreOfObjectFiles records → AreOfObjectFiles (records ++ last ∷ [])
tagged_more records last own files r file has is = elim (Contains-push_cases records last r has) [
  | inl among ↦ files r file among is
  | inr here ↦ own file (ap file_of here ∙ is)
]

pub events_more : (records : List HistoryRecord) (last : HistoryRecord) → events_of (records ++ last ∷ []) ≡ events_of records ++ last.event ∷ []
events_more records last = map-append (λ (r : HistoryRecord). r.event) records (last ∷ [])
