-- What a bench holds as it is opened.
use Rattle.std.proofs.Common.{◌≡◌, ℕ, IsTrue, inl, sym, subst}
use Rattle.disk_model.specs.State.{FileState, LeftNow}
use Rattle.hmac_keys.specs.declared.Keys.{Keys}
use Rattle.hmac_keys.specs.KeyTable.{rpmb_key}
use Rattle.tee_types.specs.Limits.{directory_file}
use Rattle.store_model.specs.ReplayState.{ReplayState}
use Rattle.run_acts.specs.Benches.{BenchState}
use Rattle.run_acts.specs.Left.{HoldsLeft}
use Rattle.run_acts.specs.DeviceLaws.{BlockReadsKeep, FormedBenchesHoldNone}
use Rattle.run_acts.proofs.CrashedLaws.{card_of}
use Rattle.run_acts.proofs.FormedFiles.{formed_not_old}

-- the same files and the same card hold the same
pub same_held : (keys : Keys) (s : ReplayState) (old new : BenchState) → ((file : ℕ) → new.files file ≡ old.files file) → new.card.card ≡ old.card.card → HoldsLeft keys old s → HoldsLeft keys new s
same_held keys s old new files same holds = record {
  honest = λ file. subst (λ (x : FileState). IsTrue x.honest) (sym (files file)) (holds.honest file);
  mounts = λ card picture has is.
      holds.mounts card picture (card_of old.card new.card (rpmb_key keys.huk) card same has)
      (record { left = λ file. subst (λ (x : FileState). LeftNow x (picture.images file)) (files file) (is.left file); same = is.same });
  current = λ card picture has is.
      holds.current card picture (card_of old.card new.card (rpmb_key keys.huk) card same has)
      (record { left = λ file. subst (λ (x : FileState). LeftNow x (picture.images file)) (files file) (is.left file); same = is.same });
}

pub block_reads_keep : BlockReadsKeep
block_reads_keep keys s old new block holds reads = same_held keys s old new reads.files reads.card holds

pub formed_benches_hold_none : FormedBenchesHoldNone
formed_benches_hold_none keys applications old new before forms had honest = record {
  honest = honest;
  mounts = λ card picture has is. inl (forms.empty before card picture had has is (honest directory_file));
  current = formed_not_old keys new.files old.card new.card before forms.formed had (honest directory_file);
}
