-- Freshness from a bench that was closed to the next mount of it, whatever was done to its files between.
use Rattle.std.specs.Prelude.{◌≡◌, ℕ, List}
use Rattle.disk_model.specs.State.{FileState}
use Rattle.hmac_keys.specs.declared.Keys.{Keys}
use Rattle.hmac_keys.specs.KeyTable.{rpmb_key}
use Rattle.tee_types.specs.Limits.{directory_file}
use Rattle.rpmb_card.specs.Card.{CardState}
use Rattle.rpmb_card.specs.Port.{PortState}
use Rattle.rpmb_host.specs.Honest.{HasCard}
use Rattle.object_calls.specs.Opening.{OpeningValue}
use Rattle.run_acts.specs.Benches.{BenchState}
use Rattle.run_acts.specs.Between.{AreSound}
use Rattle.run_acts.specs.MountedDevices.{IsMounted}
use Rattle.store_model.specs.Object.{ObjectMap}
use Rattle.run_acts.specs.ListedBenches.{ListsBench}
use Rattle.run_freshness.specs.Seen.{HasSameEntries, IsFreshMount}
use Rattle.run_freshness.specs.Shown.{IsFreshList}

-- the card is the one of the other bench
abbrev pub KeepsCard : (old new : BenchState) → Type 0
KeepsCard old new = new.card.card ≡ old.card.card

module _ {F R : Type 0} (of_file : F → FileState) (of_port : R → PortState) where
  abbrev pub MountsAreFresh : Type 0
  MountsAreFresh =
      (keys : Keys) (closed old : BenchState) (card : CardState) (o : OpeningValue F R) → AreSound closed.files → HasCard closed.card (rpmb_key keys.huk) card → KeepsCard closed old
      → IsMounted of_file of_port keys old o → IsFreshMount of_file of_port keys closed card (old.files directory_file) o

  abbrev pub MountsHaveSameEntries : Type 0
  MountsHaveSameEntries =
      (keys : Keys) (closed old : BenchState) (card : CardState) (o : OpeningValue F R) → AreSound closed.files → HasCard closed.card (rpmb_key keys.huk) card → KeepsCard closed old
      → IsMounted of_file of_port keys old o → HasSameEntries of_file of_port keys closed card (old.files directory_file) o

  -- So a list shows them, of any file.
  abbrev pub ListsAreFresh : Type 0
  ListsAreFresh =
      (keys : Keys) (closed old new : BenchState) (card : CardState) (objects : ObjectMap) (lines : List ℕ) → AreSound closed.files → HasCard closed.card (rpmb_key keys.huk) card → KeepsCard closed old
      → (l : ListsBench of_file of_port keys old new objects lines) → IsFreshList of_file of_port keys closed card (old.files directory_file) l.opened ((l.shows).listed).steps
