-- A crash, or the end of the arms, leaves no image that was not left before.
use Rattle.std.proofs.Common.{◌≡◌, ◌⊎◌, ◌∙◌, ◌||◌, ℕ, List, Bool, true, IsTrue, inl, inr, refl, sym, ap, subst}
use Rattle.std.proofs.lemmas.Bool.{cases_lt}
use Rattle.disk_model.specs.Controls.{disarmed, renamed_as}
use Rattle.disk_model.specs.State.{FileState, LeftNow}
use Rattle.hmac_keys.specs.KeyTable.{rpmb_key}
use Rattle.tee_types.specs.Limits.{file_count}
use Rattle.rpmb_card.specs.Card.{CardState}
use Rattle.rpmb_card.specs.Port.{PortState}
use Rattle.rpmb_host.specs.Honest.{HasCard}
use Rattle.run_acts.specs.Benches.{BenchState}
use Rattle.run_acts.specs.Between.{MayCrash, TakesImage}
use Rattle.run_acts.specs.Crashes.{CrashesInPart}
use Rattle.run_acts.specs.DeviceLaws.{CrashesKeep, CrashesKeepSteady, CrashesMayBe, DisarmedFilesAreSteady, KeptDevicesHold, NothingMayBe}

-- the same card, whatever else of the port
pub card_of : (p q : PortState) (key : List ℕ) (card : CardState) → q.card ≡ p.card → HasCard q key card → HasCard p key card
card_of p q key card same has = record { told = sym same ∙ has.told; keyed = has.keyed }

-- of a file that took an image, that image is the only one
image_left : (old new : FileState) (image : List ℕ) → TakesImage old new → LeftNow new image → LeftNow old image
image_left old new image takes left =
    let there : LeftNow (renamed_as old takes.0) image = subst (λ (s : FileState). LeftNow s image) takes.2 left in
    subst (LeftNow old) (sym ((there refl).exact (λ p. refl))) takes.1

pub crashed_left : (old new : FileState) (image : List ℕ) → (new ≡ old) ⊎ TakesImage old new → LeftNow new image → LeftNow old image
crashed_left old new image (inl same) left = subst (λ (s : FileState). LeftNow s image) same left
crashed_left old new image (inr takes) left = image_left old new image takes left

crashed_honest : (old new : FileState) → (new ≡ old) ⊎ TakesImage old new → IsTrue old.honest → IsTrue new.honest
crashed_honest old new (inl same) honest = subst (λ (s : FileState). IsTrue s.honest) (sym same) honest
crashed_honest old new (inr takes) honest = subst (λ (s : FileState). IsTrue s.honest) (sym takes.2) refl

pub crashes_keep : CrashesKeep
crashes_keep keys s old new holds may = record {
  honest = λ file. crashed_honest (old.files file) (new.files file) (may.files file) (holds.honest file);
  mounts = λ card picture has is.
      holds.mounts card picture (card_of old.card new.card (rpmb_key keys.huk) card (ap (λ (p : PortState). p.card) may.card) has)
      (record { left = λ file. crashed_left (old.files file) (new.files file) (picture.images file) (may.files file) (is.left file); same = is.same });
  current = λ card picture has is.
      holds.current card picture (card_of old.card new.card (rpmb_key keys.huk) card (ap (λ (p : PortState). p.card) may.card) has)
      (record { left = λ file. crashed_left (old.files file) (new.files file) (picture.images file) (may.files file) (is.left file); same = is.same });
}

-- so do reads and syncs
pub kept_devices_hold : KeptDevicesHold
kept_devices_hold keys s old new holds keeps honest = record {
  honest = honest;
  mounts = λ card picture has is.
      holds.mounts card picture (card_of old.card new.card (rpmb_key keys.huk) card keeps.card has)
      (record { left = λ file. (keeps.files file).left (honest file) (picture.images file) (is.left file); same = is.same });
  current = λ card picture has is.
      holds.current card picture (card_of old.card new.card (rpmb_key keys.huk) card keeps.card has)
      (record { left = λ file. (keeps.files file).left (honest file) (picture.images file) (is.left file); same = is.same });
}

crashed_steady : (old new : FileState) → (new ≡ old) ⊎ TakesImage old new → IsTrue old.steady → IsTrue new.steady
crashed_steady old new (inl same) steady = subst (λ (s : FileState). IsTrue s.steady) (sym same) steady
crashed_steady old new (inr takes) steady = subst (λ (s : FileState). IsTrue s.steady) (sym takes.2) steady

pub crashes_keep_steady : CrashesKeepSteady
crashes_keep_steady old new steady may file = crashed_steady (old.files file) (new.files file) (may.files file) (steady file)

pub nothing_may_be : NothingMayBe
nothing_may_be bench = record { files = λ file. inl refl; card = refl }

pub crashes_may_be : CrashesMayBe
crashes_may_be image seed old new crashes = record {
  files = λ file. elim (cases_lt file file_count) [
    | inl below ↦ inr (image (old.files file) seed file, (crashes.files).left file below, (crashes.files).each file below)
    | inr past ↦ inl ((crashes.files).others file past)
  ];
  card = crashes.card;
}

-- so may a crash in which memory ran out
pub part_may_be : (image : FileState → ℕ → ℕ → List ℕ) (seed : ℕ) (old new : BenchState) → CrashesInPart image seed old new → MayCrash old new
part_may_be image seed old new crashes = record {
  files = λ file. elim (cases_lt file crashes.count) [
    | inl below ↦ inr (image (old.files file) seed file, (crashes.files).left file below, (crashes.files).each file below)
    | inr past ↦ inl ((crashes.files).others file past)
  ];
  card = crashes.card;
}

disarmed_steady : (old new : FileState) → new ≡ disarmed old → IsTrue new.tells_arms ⊎ IsTrue new.steady → IsTrue new.steady
disarmed_steady old new is (inl tells) =
    let told : old.tells_arms ≡ true = subst (λ (s : FileState). IsTrue s.tells_arms) is tells in
    subst (λ (s : FileState). IsTrue s.steady) (sym is) (ap (λ (b : Bool). b || old.steady) told)
disarmed_steady old new is (inr steady) = steady

pub disarmed_files_are_steady : DisarmedFilesAreSteady
disarmed_files_are_steady old new disarms any file = disarmed_steady (old.files file) (new.files file) (disarms.files file) (any file)
