-- What a mounted store is to the core machine, and to a crash.
use Rattle.std.specs.Prelude.{◌≡◌, ℕ, Ok, IsTrue}
use Rattle.disk_model.specs.State.{FileState}
use Rattle.htree_file.specs.Standing.{Told}
use Rattle.hmac_keys.specs.declared.Keys.{Keys}
use Rattle.hmac_keys.specs.KeyTable.{rpmb_key}
use Rattle.tee_types.specs.Limits.{directory_file}
use Rattle.rpmb_card.specs.Card.{CardState}
use Rattle.rpmb_card.specs.Port.{PortState}
use Rattle.rpmb_host.specs.Honest.{HasCard}
use Rattle.crash_core.specs.CoreState.{IsTrusted, Phase}
use Rattle.crash_core.specs.Mounting.{mounted}
use Rattle.crash_core.specs.Opening.{IsOpened, opening_map, reads_of}
use Rattle.crash_core.specs.Pictures.{IsPictureOf, Picture}
use Rattle.crash_core.specs.Theorem.{MountsTo}
use Rattle.object_calls.specs.Opening.{IsKeyed, OpeningValue, bench_files, entries_in}

-- A phase begins with what is open: with its keys, the card's counter, and the objects that the entries name as the files read. A file
-- that is honest when the phase ends is honest now.
pub record BeginsThere {F R : Type 0} (phase : Phase) (state : F → FileState) (o : OpeningValue F R) : Type 0 where
  pub keyed : IsKeyed phase.keys o
  pub counter : phase.begins.counter ≡ o.gate.counter
  pub objects : IsTrusted phase directory_file → phase.begins.objects ≡ opening_map phase.keys (bench_files state o) (entries_in o)
  pub honest : (file : ℕ) → IsTrusted phase file → IsTrue (bench_files state o file).honest

-- the port tells that card, which has the key
abbrev pub HasItsCard : {F R : Type 0} → (R → PortState) → OpeningValue F R → CardState → Type 0
HasItsCard port o card = HasCard (port o.gate.host.port) o.gate.host.key card

-- The core machine may begin there.
abbrev pub BeginsCore : {F R : Type 0} → (F → FileState) → (R → PortState) → OpeningValue F R → Type 0
BeginsCore state port o =
    (phase : Phase) (card : CardState) → BeginsThere phase state o → HasItsCard port o card
    → IsOpened phase (bench_files state o) card o.gate.dir.dir.root (entries_in o)

-- Every picture of the files and the card mounts to the objects that the entries name as the files read, but for those in files that are
-- not honest; where the directory's file is.
abbrev pub PicturesMount : {F R : Type 0} → (F → FileState) → (R → PortState) → OpeningValue F R → Type 0
PicturesMount state port o =
    (phase : Phase) (card : CardState) (picture : Picture) → BeginsThere phase state o → HasItsCard port o card
    → IsPictureOf (bench_files state o) card picture → IsTrusted phase directory_file
    → MountsTo phase picture (opening_map phase.keys (bench_files state o) (entries_in o))

-- Where every file is honest, to that map itself.
abbrev pub HonestPicturesMount : {F R : Type 0} → (F → FileState) → (R → PortState) → OpeningValue F R → Type 0
HonestPicturesMount state port o =
    (keys : Keys) (card : CardState) (picture : Picture) → IsKeyed keys o → HasItsCard port o card
    → IsPictureOf (bench_files state o) card picture → ((file : ℕ) → IsTrue (bench_files state o file).honest)
    → mounted keys picture ≡ Ok (opening_map keys (bench_files state o) (entries_in o))

-- all three
pub record IsWholeOpening {F R : Type 0} (state : F → FileState) (port : R → PortState) (o : OpeningValue F R) : Type 0 where
  pub begins : BeginsCore state port o
  pub mounts : PicturesMount state port o
  pub honest : HonestPicturesMount state port o

-- Where the directory's file can be followed, the map is the one that the bench mounts to as its files read, whatever the other files are.
abbrev pub MountsAsRead : {F R : Type 0} → (F → FileState) → (dir : FileState) → PortState → Keys → OpeningValue F R → Type 0
MountsAsRead state dir port keys o =
    Told dir (bench_files state o directory_file) → (card : CardState) → HasCard port (rpmb_key keys.huk) card
    → mounted keys (record { images = reads_of (bench_files state o); card = card }) ≡ Ok (opening_map keys (bench_files state o) (entries_in o))
