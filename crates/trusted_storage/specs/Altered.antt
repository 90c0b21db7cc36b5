-- Altered and older files: what they give agrees with what was committed, or a collision of SHA-256 or a forgery of AES-GCM is shown.
use Rattle.crash_core.specs.Opening.{reads_of}
use Rattle.crash_core.specs.Pictures.{block_zero}
use Rattle.hmac_keys.specs.declared.Keys.{Keys}
use Rattle.rpmb_card.specs.Card.{CardState}
use Rattle.trusted_storage.specs.Commits.{AreLeft, ReplayState}
use Rattle.trusted_storage.specs.Devices.{BenchState}
use Rattle.trusted_storage.specs.Objects.{ObjectMap}
use Rattle.trusted_storage.specs.PowerCuts.{Picture}
pub use Rattle.freshness_laws.specs.Agreement.{MapsAgree}
pub use Rattle.freshness_laws.specs.Pictures.{AreByteImages, PictureClash}

-- They have the names and the sizes of objects that are left, and each part that is good in both is equal.
abbrev pub AgreeWithLeft : ReplayState → ObjectMap → Type 0
AgreeWithLeft s objects = (left : ObjectMap) × AreLeft s left × MapsAgree left objects

-- The files of the picture clash with those of the bench, as these read.
abbrev pub ClashesWith : Keys → BenchState → CardState → Picture → Type 0
ClashesWith keys bench card picture = PictureClash keys (block_zero card) (reads_of bench.files) picture.images
