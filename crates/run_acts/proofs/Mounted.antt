-- A mount of a bench that holds what is left.
use Rattle.std.proofs.Common.{◌≡◌, ◌∙◌, ℕ, [], Bool, Some, Result, Ok, Err, IsTrue, inl, inr, refl, sym, ap, subst}
use Rattle.std.proofs.lemmas.Bool.{cases_eq}
use Rattle.disk_model.specs.State.{FileState, LeftNow}
use Rattle.disk_model.specs.Calls.{GoesOn, Known}
use Rattle.disk_model.proofs.ImageLaws.{reads_left}
use Rattle.hmac_keys.specs.declared.Keys.{Keys}
use Rattle.hmac_keys.specs.KeyTable.{rpmb_key}
use Rattle.tee_types.specs.Limits.{directory_file}
use Rattle.rpmb_card.specs.Card.{CardState}
use Rattle.rpmb_card.specs.Port.{PortState}
use Rattle.rpmb_host.specs.Honest.{HasCard}
use Rattle.store_model.specs.Object.{ObjectMap}
use Rattle.store_model.specs.ReplayState.{ReplayState}
use Rattle.crash_core.specs.Mounting.{mounted}
use Rattle.crash_core.specs.Opening.{reads_of}
use Rattle.crash_core.specs.Pictures.{IsPictureOf, Picture}
use Rattle.crash_core.specs.Refusal.{Refusal}
use Rattle.object_calls.specs.FinishedPhase.{IsMapLeft}
use Rattle.object_calls.specs.Opening.{OpeningValue, bench_files}
use Rattle.object_calls.proofs.Files.{directory_here}
use Rattle.run_acts.specs.Benches.{BenchState}
use Rattle.run_acts.specs.MountedDevices.{IsMounted, objects_in}
use Rattle.run_acts.specs.Between.{AreReadable, AreSound}
use Rattle.run_acts.specs.DeviceLaws.{MountsOpenWithLeft}
use Rattle.run_acts.specs.Left.{AreLeft, HoldsLeft}

-- the map of an answer
map_in : Result ObjectMap Refusal → ObjectMap
map_in (Ok objects) = objects
map_in (Err refusal) = []

same_map : (a b : ObjectMap) (r : Result ObjectMap Refusal) → r ≡ Ok a → r ≡ Ok b → a ≡ b
unfolding map_in
same_map a b r first second = ap map_in (sym first ∙ second)

-- what a picture mounts to is left
pub map_left : (keys : Keys) (picture : Picture) (s : ReplayState) (objects : ObjectMap) → mounted keys picture ≡ Ok objects → IsMapLeft keys picture s → AreLeft s objects
map_left keys picture s objects is (inl left) = inl (same_map objects (s.state).objects (mounted keys picture) is left)
map_left keys picture s objects is (inr doubted) = inr (doubted.1 ∙ ap Some (same_map doubted.0 objects (mounted keys picture) doubted.2 is))

module _ {F R : Type 0} (of_file : F → FileState) (of_port : R → PortState) (keys : Keys) (old : BenchState) (o : OpeningValue F R) (m : IsMounted of_file of_port keys old o) where
  abbrev opened : ℕ → FileState
  opened = bench_files of_file o

  -- a mount only reads and syncs
  pub mount_goes_on : (file : ℕ) → GoesOn (old.files file) (opened file)
  mount_goes_on file = elim (cases_eq file directory_file) [
    | inl is ↦ subst (λ (n : ℕ). GoesOn (old.files n) (opened n)) (sym is) (subst (GoesOn (old.files directory_file)) (sym (directory_here of_file o.spare o.gate.dir.file o.files)) (((m.gate).devices).keeps).goes_on)
    | inr other ↦ (((m.files).each file other).keeps).goes_on
  ]

  pub mount_reads : (file : ℕ) → Known (old.files file) (opened file) → (opened file).reads ≡ (old.files file).reads
  mount_reads file = elim (cases_eq file directory_file) [
    | inl is ↦ subst (λ (n : ℕ). Known (old.files n) (opened n) → (opened n).reads ≡ (old.files n).reads) (sym is)
        (subst (λ (s : FileState). Known (old.files directory_file) s → s.reads ≡ (old.files directory_file).reads) (sym (directory_here of_file o.spare o.gate.dir.file o.files)) ((m.gate).devices).reads)
    | inr other ↦ ((m.files).each file other).reads
  ]

  -- it tells its bytes as before
  pub mount_tells : (file : ℕ) → IsTrue (old.files file).tells → IsTrue (opened file).tells
  mount_tells file tells = subst (λ (t : Bool). IsTrue t) (sym (mount_goes_on file).tells) tells

  module _ (s : ReplayState) (card : CardState) (holds : HoldsLeft keys old s) (sound : AreSound old.files) (readable : AreReadable old.files opened) (has : HasCard old.card (rpmb_key keys.huk) card) where
    abbrev as_read : Picture
    as_read = record { images = reads_of opened; card = card }

    read_picture : IsPictureOf old.files card as_read
    read_picture = record {
      left = λ file. subst (LeftNow (old.files file)) (sym (mount_reads file (readable file))) (reads_left (old.files file) (sound file));
      same = record { key = refl; counter = refl; blocks = refl };
    }

    pub opens_with_left : AreLeft s (objects_in of_file of_port keys o)
    opens_with_left = map_left keys as_read s (objects_in of_file of_port keys o)
        (m.mounted (mount_tells directory_file ((sound directory_file).told (holds.honest directory_file)), readable directory_file) card has) (holds.mounts card as_read has read_picture)

pub mounts_open_with_left : {F R : Type 0} (of_file : F → FileState) (of_port : R → PortState) → MountsOpenWithLeft of_file of_port
mounts_open_with_left of_file of_port keys s old o card holds sound m readable has = opens_with_left of_file of_port keys old o m s card holds sound readable has
