-- One reference names one tree; and what a version is under a tamper scenario.
use Rattle.std.specs.Prelude.{◌≡◌, ◌⊎◌, ℕ, false, List, Some, None}
use Rattle.aes_block.specs.WrappedKey.{unwrapped_of}
use Rattle.disk_model.specs.Bytes.{AreBytes}
use Rattle.node_image.specs.declared.node.RootRef.{RootRef}
use Rattle.htree_file.specs.Changes.{SealsAt}
use Rattle.htree_file.specs.Opening.{IsVerified, Loaded}
use Rattle.hmac_keys.specs.declared.Keys.{Keys}
use Rattle.store_model.specs.Object.{size_of}
use Rattle.store_model.specs.Damage.{HasLessDamage}
use Rattle.history_seats.specs.Numbers.{is_in}
use Rattle.history_seats.specs.Records.{Version}
use Rattle.core_laws.specs.Decodings.{IsReal, Decoding, page_decoded, decoding_of, with_committed, wrap_of}
use Rattle.core_laws.specs.TamperScenarios.{TamperScenario, nothing_back, object_under, under}
use Rattle.core_laws.specs.Clashes.{HaveFlags, IsAlike, NodeClash}
use Rattle.core_laws.specs.Images.{version_of_image}

-- Two trees that are verified under one reference are alike, or two of their nodes clash.
abbrev pub OneReferenceNamesOneTree : Type 0
OneReferenceNamesOneTree = (root : RootRef) (one other : Loaded) → IsVerified root one → IsVerified root other → IsAlike one other ⊎ NodeClash one other

-- Alike trees whose flags are 16 bits are the same.
abbrev pub AlikeTreesAreSame : Type 0
AlikeTreesAreSame = (one other : Loaded) → HaveFlags one → HaveFlags other → IsAlike one other → one ≡ other

-- What an image of bytes holds is real.
abbrev pub ImagesHoldRealVersions : Type 0
ImagesHoldRealVersions =
    (keys : Keys) (image : List ℕ) (root : RootRef) (app : List ℕ) (size attributes : ℕ) → AreBytes image → IsReal keys (version_of_image keys image root app size attributes)

-- A tamper scenario leaves a version's object with less damage, or the same.
abbrev pub ScenariosMend : Type 0
ScenariosMend =
    (keys : Keys) (scenario : TamperScenario) (file generation : ℕ) (v : Version) → IsReal keys v → HasLessDamage v.object (object_under keys scenario file generation v)

-- and with its size
abbrev pub ScenariosKeepSizes : Type 0
ScenariosKeepSizes = (keys : Keys) (scenario : TamperScenario) (file generation : ℕ) (v : Version) → size_of (object_under keys scenario file generation v) ≡ v.size

-- In a file that is honest stands what was committed.
abbrev pub HonestFilesStand : Type 0
HonestFilesStand =
    (keys : Keys) (scenario : TamperScenario) (file generation : ℕ) (v : Version) → IsReal keys v → is_in file scenario.tampered ≡ false
    → object_under keys scenario file generation v ≡ v.object

-- For every set of files there is the tamper scenario that nothing comes back: what was committed stands.
abbrev pub NothingComesBack : Type 0
NothingComesBack =
    (keys : Keys) (tampered : List ℕ) (file generation : ℕ) (v : Version) → IsReal keys v
    → object_under keys (nothing_back tampered) file generation v ≡ v.object

-- What stands for a version is verified under its reference, with the key that it wraps.
pub record IsSpelled (keys : Keys) (v : Version) (sp : Decoding) : Type 0 where
  pub verified : IsVerified v.root sp.tree
  pub key : sp.key ≡ unwrapped_of (wrap_of keys v) sp.tree.head.wrapped

abbrev pub ScenariosAreVerified : Type 0
ScenariosAreVerified =
    (keys : Keys) (scenario : TamperScenario) (file generation : ℕ) (v : Version) (sp : Decoding) → IsReal keys v → under keys scenario file generation v ≡ Some sp → IsSpelled keys v sp

-- What stands for a version whose tree loads has that tree, and its good pages.
pub record KeepsGood (keys : Keys) (scenario : TamperScenario) (file generation : ℕ) (v : Version) (own : Decoding) : Type 0 where
  pub sp : Decoding
  pub stands : under keys scenario file generation v ≡ Some sp
  pub tree : sp.tree ≡ own.tree
  pub good : (k : ℕ) (page : List ℕ) → page_decoded own k ≡ Some page → page_decoded sp k ≡ Some page

abbrev pub ScenariosKeepGood : Type 0
ScenariosKeepGood =
    (keys : Keys) (scenario : TamperScenario) (file generation : ℕ) (v : Version) (own : Decoding) → decoding_of keys v ≡ Some own → KeepsGood keys scenario file generation v own

-- A block that a change does not meet, so that its node is sealed as before, and whose committed ciphertext gives the page that it gave, or is
-- bad as it was, has the page in the next version that it had.
abbrev pub UnmetPagesStay : Type 0
UnmetPagesStay =
    (keys : Keys) (scenario : TamperScenario) (file generation : ℕ) (v next : Version) (k : ℕ) → next.app ≡ v.app → (old new : Decoding)
    → under keys scenario file generation v ≡ Some old → under keys scenario file generation next ≡ Some new → new.tree.head.wrapped ≡ old.tree.head.wrapped
    → SealsAt old.key old.tree new.tree k None → page_decoded (with_committed next new) k ≡ page_decoded (with_committed v old) k
    → page_decoded new k ≡ page_decoded old k
