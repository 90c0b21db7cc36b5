-- What a migration keeps.
use Rattle.std.proofs.Common.{◌≡◌, ◌∙◌, ℕ, List, [], ◌∷◌, refl, sym, subst}
use Rattle.crash_core.specs.Migration.{DeviceCall, DeviceStates, IsMigration, KeepsMaps}
use Rattle.crash_core.specs.Pictures.{AreAllHonest}
use Rattle.disk_model.specs.State.{FileState}
use Rattle.hmac_keys.specs.declared.Keys.{Keys}
use Rattle.hmac_keys.specs.KeyTable.{rpmb_key}
use Rattle.object_calls.specs.Migrated.{MigratesBench, devices_of}
use Rattle.rpmb_card.specs.Card.{CardState}
use Rattle.rpmb_card.specs.Port.{PortState}
use Rattle.rpmb_host.specs.Honest.{HasCard}
use Rattle.run_acts.specs.Benches.{BenchState, KeepsDevices}
use Rattle.run_acts.specs.declared.MountFault.{MountFault}
use Rattle.run_acts.specs.MigratedBenches.{IsBenchNotMoved, starved, stopped, unasked}
use Rattle.script_runner.specs.Migrations.{GivenUp, MigratesThen, MigrationRecord, Shown, Starved, Unlisted}
use Rattle.trusted_storage.specs.Laws.{KeepsObjects, MigrationsKeepObjects}

-- behind all calls
kept_last : (keys : Keys) (first now last : DeviceStates) (calls : List DeviceCall) → IsMigration keys first now calls last → KeepsMaps keys first last
kept_last keys first now last [] (is, keeps) = subst (KeepsMaps keys first) (sym is) keeps
kept_last keys first now last (call ∷ calls) (keeps, mid, does, rest) = kept_last keys first mid last calls rest

module _ (keys : Keys) (card : CardState) where
  migrated : (old new : BenchState) → MigratesBench old.files new.files old.card new.card keys → HasCard old.card (rpmb_key keys.huk) card → AreAllHonest new.files → KeepsObjects keys old new card
  migrated old new migrates has honest =
      let kept = migrates card has in
      record {
        after = kept.after;
        has = kept.has;
        keeps = kept_last keys (devices_of old.files card) (devices_of old.files card) (devices_of new.files kept.after) (kept.migrates).calls ((kept.migrates).run honest);
      }

  untouched : (old new : BenchState) → new ≡ old → HasCard old.card (rpmb_key keys.huk) card → KeepsObjects keys old new card
  untouched old new same has =
      subst (λ (b : BenchState). KeepsObjects keys old b card) (sym same) (record { after = card; has = has; keeps = λ picture is. (picture, is, refl) })

  not_moved : (old new : BenchState) (drew draws : ℕ) (fault : MountFault) → IsBenchNotMoved keys old new drew draws fault → HasCard old.card (rpmb_key keys.huk) card → AreAllHonest new.files → KeepsObjects keys old new card
  not_moved old new drew draws fault (stopped stops memory) has honest = migrated old new stops.migrates has honest
  not_moved old new drew draws fault (unasked is same) has honest = untouched old new same has
  not_moved old new drew draws fault (starved other is stops gone) has honest = migrated old new stops.migrates has honest

  -- what was only read and synced behind it
  was_honest : (old new : BenchState) → KeepsDevices old new → AreAllHonest new.files → AreAllHonest old.files
  was_honest old new keeps honest file = ((((keeps.files file).keeps).goes_on).honest) (honest file)

  only_read : (old between new : BenchState) → KeepsObjects keys old between card → KeepsDevices between new → AreAllHonest new.files → KeepsObjects keys old new card
  only_read old between new kept keeps honest = record {
    after = kept.after;
    has = record { told = keeps.card ∙ (kept.has).told; keyed = (kept.has).keyed };
    keeps = λ picture is. kept.keeps picture (record { left = λ file. (keeps.files file).left (honest file) (picture.images file) (is.left file); same = is.same });
  }

  module _ {F R : Type 0} (of_file : F → FileState) (of_port : R → PortState) (drew draws : ℕ) (handed given : BenchState) (has : HasCard handed.card (rpmb_key keys.huk) card) (honest : AreAllHonest given.files) where
    kept_by : (what : MigrationRecord) → MigratesThen of_file of_port keys drew draws what handed given → KeepsObjects keys handed given card
    kept_by (GivenUp fault) done = not_moved handed given drew draws fault done has honest
    kept_by (Shown directory moved objects) (between, moves, lists) =
        only_read handed between given (migrated handed between moves.migrates has (was_honest between given lists.keeps honest)) lists.keeps honest
    kept_by (Unlisted directory moved fault) (between, moves, refused) =
        only_read handed between given (migrated handed between moves.migrates has (was_honest between given refused.keeps honest)) refused.keeps honest
    kept_by (Starved directory moved) moves = migrated handed given moves.migrates has honest

pub migrations_keep : {F R : Type 0} (of_file : F → FileState) (of_port : R → PortState) (failed : Type 0) → MigrationsKeepObjects of_file of_port failed
migrations_keep of_file of_port failed keys drew draws held_old held_new handed given status card r has honest =
    kept_by keys card of_file of_port drew draws handed given has honest r.what r.done
