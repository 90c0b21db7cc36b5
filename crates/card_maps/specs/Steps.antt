-- What a call of a card store does to the card: writes, one by one, and which map each of them leaves.
use Rattle.std.specs.Prelude.{◌≡◌, ◌≢◌, ◌⊎◌, ℕ, cond, List, [], ◌∷◌, Some, None, Ok, slice_index_or}
use Rattle.store_model.specs.declared.name.ObjectName.{ObjectName}
use Rattle.store_model.specs.Name.{name_eq}
use Rattle.rpmb_card.specs.Card.{CardState}
use Rattle.rpmb_host.specs.Honest.{written_card}
use Rattle.card_maps.specs.CardMaps.{CardMap, bytes_at, card_map}

-- one authenticated write that the card took, of a block that is not block 0
pub record IsCardWrite (old new : CardState) : Type 0 where
  pub address : ℕ
  pub counter : ℕ
  pub block : List ℕ
  pub apart : address ≢ 0
  pub is : new ≡ written_card old address counter block

-- Writes from one card to another: of each card between, the first and the last among them, something holds.
abbrev pub IsCardRun : (Holds : CardState → Type 0) → CardState → List CardState → CardState → Type 0
IsCardRun Holds old [] new = Holds old × (new ≡ old)
IsCardRun Holds old (next ∷ more) new = Holds old × IsCardWrite old next × IsCardRun Holds next more new

pub record CardRuns (Holds : CardState → Type 0) (old new : CardState) : Type 0 where
  pub between : List CardState
  pub run : IsCardRun Holds old between new

-- the card's map is this one
abbrev pub HasMap : CardMap → CardState → Type 0
HasMap m card = card_map card ≡ Ok m

-- or has, over this one, these bytes under a name; or nothing under it
pub record HasPut (m : CardMap) (name : ObjectName) (bytes : List ℕ) (card : CardState) : Type 0 where
  pub objects : CardMap
  pub is : card_map card ≡ Ok objects
  pub each : (other : ObjectName) → bytes_at objects other ≡ cond (name_eq name other) (Some bytes) (bytes_at m other)

pub record HasRemoved (m : CardMap) (name : ObjectName) (card : CardState) : Type 0 where
  pub objects : CardMap
  pub is : card_map card ≡ Ok objects
  pub each : (other : ObjectName) → bytes_at objects other ≡ cond (name_eq name other) None (bytes_at m other)

-- A put, at every exchange: the map before or the map after. So of a removal.
abbrev pub PutRuns : CardMap → ObjectName → List ℕ → CardState → CardState → Type 0
PutRuns m name bytes old new = CardRuns (λ card. HasMap m card ⊎ HasPut m name bytes card) old new

abbrev pub RemoveRuns : CardMap → ObjectName → CardState → CardState → Type 0
RemoveRuns m name old new = CardRuns (λ card. HasMap m card ⊎ HasRemoved m name card) old new

-- Writes of other blocks leave block 0.
abbrev pub RunsKeepBlockZero : Type 0
RunsKeepBlockZero =
    (m : CardMap) (name : ObjectName) (bytes : List ℕ) (old new : CardState)
    → (PutRuns m name bytes old new → slice_index_or new.blocks 0 [] ≡ slice_index_or old.blocks 0 [])
    × (RemoveRuns m name old new → slice_index_or new.blocks 0 [] ≡ slice_index_or old.blocks 0 [])
