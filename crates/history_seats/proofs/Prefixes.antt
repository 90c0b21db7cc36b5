-- Beginnings of a history past which a seat has no record.
use Rattle.std.proofs.Common.{◌≡◌, List, [], ◌∷◌, ◌++◌, Bool, false, refl, sym, ap, ◌∙◌, append_assoc}
use Rattle.std.proofs.lemmas.List.{append-nil}
use Rattle.std.proofs.lemmas.List.Folds.{list_any-append}
use Rattle.std.specs.List.{list_any}
use Rattle.history_seats.specs.Records.{HistoryRecord, IsUpToDate}
use Rattle.history_seats.proofs.Lists.{or_false}

-- a record that is none of those may come behind
pub begins-more : (those : HistoryRecord → Bool) (seen whole : List HistoryRecord) (r : HistoryRecord) → IsUpToDate those seen whole → those r ≡ false → IsUpToDate those seen (whole ++ r ∷ [])
begins-more those seen whole r b e = record {
  rest = b.rest ++ r ∷ [];
  is = sym (append_assoc seen b.rest (r ∷ [])) ∙ ap (λ l. l ++ r ∷ []) b.is;
  lacks = list_any-append those b.rest (r ∷ []) ∙ or_false (list_any those b.rest) (list_any those (r ∷ [])) b.lacks (or_false (those r) false e refl);
}

pub begins-whole : (those : HistoryRecord → Bool) (whole : List HistoryRecord) → IsUpToDate those whole whole
begins-whole those whole = record { rest = []; is = append-nil whole; lacks = refl }
