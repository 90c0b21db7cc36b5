-- What a session has seen.
use Rattle.std.specs.Prelude.{List, [], None, Option, Some}
use Rattle.history_seats.specs.Records.{HistoryRecord}
use Rattle.history_seats.specs.Views.{PassView, Sight}

-- the records that a seat has seen
abbrev pub seen_by : Option (Sight PassView) → List HistoryRecord
seen_by None = []
seen_by (Some pass) = pass.knows.seen
