-- What a bench holds: what each picture of it mounts to that a power cut may leave.
use Rattle.std.specs.Prelude.{◌≡◌, ◌⊎◌, ℕ, List, Ok, true}
use Rattle.crash_core.specs.Mounting.{mounted}
use Rattle.crash_core.specs.Pictures.{block_zero}
use Rattle.hmac_keys.specs.declared.Keys.{Keys}
use Rattle.hmac_keys.specs.KeyTable.{rpmb_key}
use Rattle.object_calls.specs.OldStores.{HasNoOldFile}
use Rattle.rpmb_card.specs.Card.{CardState}
use Rattle.rpmb_host.specs.Honest.{HasCard}
use Rattle.run_acts.specs.Opens.{is_blank}
use Rattle.trusted_storage.specs.Commits.{AreLeft, ReplayState, nothing_left}
use Rattle.trusted_storage.specs.Devices.{BenchState, IsTrusted}
use Rattle.trusted_storage.specs.Objects.{ObjectMap}
use Rattle.trusted_storage.specs.PowerCuts.{IsPictureOf, Picture}

-- the picture mounts to objects that are left
abbrev pub MountsToLeft : Keys → Picture → ReplayState → Type 0
MountsToLeft keys picture s = (objects : ObjectMap) × AreLeft s objects × (mounted keys picture ≡ Ok objects)

-- A bench that is trusted holds what is left: whatever a power cut leaves of it now, mounts to that.
pub record Holds (keys : Keys) (bench : BenchState) (s : ReplayState) : Type 0 where
  pub trusted : IsTrusted keys bench
  pub mounts : (card : CardState) (picture : Picture) → HasCard bench.card (rpmb_key keys.huk) card → IsPictureOf bench.files card picture → MountsToLeft keys picture s
  -- none of its files is of the old format
  pub current : HasNoOldFile keys bench.files bench.card

-- It is trusted, and block 0 of its card is blank: a run formats it.
pub record IsBlank (keys : Keys) (bench : BenchState) : Type 0 where
  pub trusted : IsTrusted keys bench
  pub blank : (card : CardState) → HasCard bench.card (rpmb_key keys.huk) card → is_blank (block_zero card) ≡ true

-- A bench that a run may begin with: it holds what is left, or it is blank and nothing is.
abbrev pub BeginsWith : Keys → (applications : List (List ℕ)) → BenchState → ReplayState → Type 0
BeginsWith keys applications bench s = Holds keys bench s ⊎ (IsBlank keys bench × (s ≡ nothing_left applications))
