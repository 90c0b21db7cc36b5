-- A journal without events.
use Rattle.std.specs.Prelude.{◌≡◌, [], Some}
use Rattle.history_seats.specs.Views.{GateView}
use Rattle.core_laws.specs.Stores.{OpensMounted, Store}
use Rattle.core_laws.specs.MapLaws.{AreMountedApart}
use Rattle.commit_gate.specs.Journals.{IsJournal}

-- A phase opens with a journal: where the mount is told, and its objects are those of the mount's versions, whose files and generations
-- are apart.
abbrev pub OpeningsAreJournals : Type 0
OpeningsAreJournals =
    (store : Store) (gate : GateView) → gate.mounted ≡ Some store.mounted → gate.all ≡ [] → OpensMounted store
    → AreMountedApart store.mounted.entries → IsJournal store gate
