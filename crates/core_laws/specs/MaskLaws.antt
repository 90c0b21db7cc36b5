-- Where no mask is armed on a file that tells its bytes and its arms, what it gave is what was committed.
use Rattle.std.specs.Prelude.{◌≡◌, ℕ, ◌≤◌, List, [], Contains, Some, Ok}
use Rattle.node_image.specs.Parts.{layout_of, nodes_end}
use Rattle.node_image.specs.References.{IsCurrent}
use Rattle.htree_file.specs.Opening.{Loaded}
use Rattle.disk_model.specs.Arms.{Taint}
use Rattle.hmac_keys.specs.declared.Keys.{Keys}
use Rattle.history_seats.specs.Records.{HistoryRecord, Version}
use Rattle.core_laws.specs.Masked.{ShowsOther}
use Rattle.core_laws.specs.SlotParts.{IsShownIn}
use Rattle.core_laws.specs.TamperScenarios.{TamperScenario}
use Rattle.core_laws.specs.Stores.{Store}
use Rattle.core_laws.specs.Shown.{IsClashedAt, IsEndAt, IsGivenAt}
use Rattle.core_laws.specs.EndLaws.{given_at}

-- Masks behind the heads and the nodes show no other tree.
abbrev pub MasksOnBlocksShowNoOther : Type 0
MasksOnBlocksShowNoOther =
    (keys : Keys) (taints : List Taint) (v : Version) (tree : Loaded) → ((taint : Taint) → Contains taints taint → nodes_end (layout_of v.root.format) ≤ taint.at) → IsCurrent v.root → v.loads ≡ Ok tree
    → ShowsOther keys taints v tree → ⊥

-- No mask is armed on the file of the event's object. Its version is shown by an image, and loads.
pub record IsUnmasked (store : Store) (scenario : TamperScenario) (before : List HistoryRecord) (r : HistoryRecord) (x : IsGivenAt store scenario before r) : Type 0 where
  pub none : store.taints x.tag.file ≡ Some []
  pub current : IsCurrent x.version.root
  pub image : List ℕ
  pub shows : IsShownIn store.keys image x.version
  pub tree : Loaded
  pub loads : x.version.loads ≡ Ok tree

-- So its events show no clash, and no promise ends there.
abbrev pub UnmaskedFilesShowNoClash : Type 0
UnmaskedFilesShowNoClash =
    (store : Store) (scenario : TamperScenario) (before : List HistoryRecord) (r : HistoryRecord) (x : IsClashedAt store scenario before r)
    → IsUnmasked store scenario before r x.told.given → ⊥

abbrev pub UnmaskedFilesEndNothing : Type 0
UnmaskedFilesEndNothing =
    (store : Store) (scenario : TamperScenario) (before : List HistoryRecord) (r : HistoryRecord) (x : IsEndAt store scenario before r)
    → IsUnmasked store scenario before r (given_at x) → ⊥
