-- A list of a bench that holds what is left.
use Rattle.std.proofs.Common.{ℕ, List, Bool, None, IsTrue, inl, inr, sym, subst}
use Rattle.disk_model.specs.State.{FileState}
use Rattle.disk_model.specs.Calls.{Known, Rests}
use Rattle.hmac_keys.specs.declared.Keys.{Keys}
use Rattle.hmac_keys.specs.KeyTable.{rpmb_key}
use Rattle.rpmb_card.specs.Card.{CardState}
use Rattle.rpmb_card.specs.Port.{PortState}
use Rattle.rpmb_host.specs.Honest.{HasCard}
use Rattle.store_model.specs.Object.{ObjectMap}
use Rattle.store_model.specs.ReplayState.{ReplayState}
use Rattle.object_calls.specs.Opening.{bench_files, entries_in}
use Rattle.run_acts.specs.Benches.{BenchState}
use Rattle.run_acts.specs.ListedBenches.{ListsBench}
use Rattle.run_acts.specs.MountedDevices.{objects_in}
use Rattle.run_acts.proofs.ShownFiles.{shown_rests}
use Rattle.run_acts.specs.Between.{AreReadable}
use Rattle.run_acts.specs.DeviceLaws.{ListsKeep, ListsShowLeft, RefusedListsKeep}
use Rattle.run_acts.specs.Left.{AreLeft, HoldsLeft}
use Rattle.run_acts.proofs.CrashedLaws.{kept_devices_hold}
use Rattle.run_acts.proofs.Mounted.{mount_goes_on, mount_tells, opens_with_left}

module _ {F R : Type 0} (of_file : F → FileState) (of_port : R → PortState) (keys : Keys) (old new : BenchState) (objects : ObjectMap) (lines : List ℕ)
    (l : ListsBench of_file of_port keys old new objects lines) where
  abbrev opened : ℕ → FileState
  opened = bench_files of_file l.opened

  read_rests : (file : ℕ) → Rests (opened file) (new.files file)
  read_rests = shown_rests (entries_in l.opened) (l.opened).storage_key None opened ((l.shows).listed).steps (l.shows).last new.files ((l.shows).listed).shows

  -- a file that is followed through all is followed through the mount, and through the reads
  mount_known : (file : ℕ) → Known (old.files file) (new.files file) → Known (old.files file) (opened file)
  mount_known file (inl honest) = inl (((read_rests file).goes_on).honest honest)
  mount_known file (inr steady) = inr steady

  read_known : (file : ℕ) → Known (old.files file) (new.files file) → Known (opened file) (new.files file)
  read_known file (inl honest) = inl honest
  read_known file (inr steady) = inr (subst (λ (t : Bool). IsTrue t) (sym (mount_goes_on of_file of_port keys old l.opened l.mounts file).steady) steady)

  module _ (s : ReplayState) (card : CardState) (holds : HoldsLeft keys old s) (has : HasCard old.card (rpmb_key keys.huk) card) where
    opened_left : AreReadable old.files new.files → AreLeft s (objects_in of_file of_port keys l.opened)
    opened_left readable = opens_with_left of_file of_port keys old l.opened l.mounts s card holds l.sound (λ file. mount_known file (readable file)) has

    all_tells : (file : ℕ) → IsTrue (new.files file).tells
    all_tells file =
        subst (λ (t : Bool). IsTrue t) (sym ((read_rests file).goes_on).tells)
        (mount_tells of_file of_port keys old l.opened l.mounts file ((l.sound file).told (holds.honest file)))

    pub shows_left : AreReadable old.files new.files → AreLeft s objects
    shows_left readable = subst (AreLeft s) (sym (l.told (λ file. (all_tells file, read_known file (readable file))))) (opened_left readable)

pub lists_show_left : {F R : Type 0} (of_file : F → FileState) (of_port : R → PortState) → ListsShowLeft of_file of_port
lists_show_left of_file of_port keys s old new objects lines card holds l readable has = shows_left of_file of_port keys old new objects lines l s card holds has readable

pub lists_keep : {F R : Type 0} (of_file : F → FileState) (of_port : R → PortState) → ListsKeep of_file of_port
lists_keep of_file of_port keys s old new objects lines card holds l honest has = kept_devices_hold keys s old new holds l.keeps honest

pub refused_lists_keep : {F R : Type 0} (of_file : F → FileState) (of_port : R → PortState) → RefusedListsKeep of_file of_port
refused_lists_keep of_file of_port keys s old new drew draws fault holds refused honest = kept_devices_hold keys s old new holds refused.keeps honest
