-- A bench that a run may begin with, once it is opened, or where it is not.
use Rattle.std.proofs.Common.{ℕ, ◌≡◌, ◌⊎◌, ◌∙◌, List, [], true, false, inl, inr, refl, sym, ap, subst}
use Rattle.disk_model.specs.State.{FileState}
use Rattle.hmac_keys.specs.declared.Keys.{Keys}
use Rattle.hmac_keys.specs.KeyTable.{rpmb_key}
use Rattle.tee_types.specs.Limits.{directory_file}
use Rattle.rpmb_card.specs.Card.{CardState}
use Rattle.rpmb_card.specs.Port.{PortState}
use Rattle.rpmb_host.specs.Honest.{HasCard}
use Rattle.store_model.specs.ReplayState.{ReplayState}
use Rattle.store_commit.specs.Formats.{FormatRefused}
use Rattle.store_commit.specs.Mounts.{CardRefused}
use Rattle.run_acts.specs.Benches.{BenchState}
use Rattle.run_acts.specs.declared.MountFault.{MountFault}
use Rattle.run_acts.specs.declared.MountFault.TheVariants.{CardBlock, CardResult, Directory, Failed, Frame, NoMemory as NoMemoryFault, NoStore, OldFormat, Spent}
use Rattle.run_acts.specs.Left.{replay_left}
use Rattle.run_acts.specs.MountingLaws.{IsOfDevice}
use Rattle.run_acts.specs.Opens.{IsOpenRefused, OpensBench, StopsOpening, found, is_blank, made, starved, stopped, unasked, unformed, unread}
use Rattle.run_acts.specs.Untainted.{AreUntainted}
use Rattle.run_acts.proofs.CrashedLaws.{card_of}
use Rattle.run_acts.proofs.HeldOpenings.{IsSame, opens_same, refused_same}
use Rattle.run_acts.proofs.Opened.{formed_benches_hold_none, same_held}
use Rattle.run_acts.proofs.Untainted.{openings_stay_untainted, untainted_files_are_honest}
use Rattle.script_runner.specs.HeldRuns.{BeginsWith, IsBlankBench}
use Rattle.script_runner.specs.RecordLaws.{HoldsUntainted}
use Rattle.script_runner.specs.RunRefusals.{IsDeviceFault}

module _ (keys : Keys) where
  -- A BENCH THAT IS OPENED
  blank_opened : (apps : List (List ℕ)) (handed new : BenchState) → IsBlankBench keys handed → OpensBench keys handed new → HoldsUntainted keys new (replay_left [] apps [])
  blank_opened apps handed new b (found block some reads) =
      let no : true ≡ false = sym b.blank ∙ ap is_blank (reads.told b.card b.has) ∙ some in absurd cc
  blank_opened apps handed new b (made block between blank reads forms) =
      let has : HasCard between.card (rpmb_key keys.huk) b.card = record { told = reads.card ∙ b.has.told; keyed = b.has.keyed } in
      let files : AreUntainted new.files = openings_stay_untainted keys handed new (made block between blank reads forms) b.files in
      let formed = (forms.formed b.card has).1 in
      record {
        files = files;
        holds = formed_benches_hold_none keys apps between new b.card forms has (untainted_files_are_honest new.files files);
        card = (formed.next, formed.has);
      }

  -- the same files and the same card
  pub same_untainted : (s : ReplayState) (old new : BenchState) → IsSame old new → HoldsUntainted keys old s → HoldsUntainted keys new s
  same_untainted s old new same held =
      let card = held.card in
      record {
        files = record {
          each = λ file within. rw (same.files file) ((held.files).each file within);
          past = λ file beyond. same.files file ∙ (held.files).past file beyond;
        };
        holds = same_held keys s old new same.files same.card held.holds;
        card = (card.0, card_of new.card old.card (rpmb_key keys.huk) card.0 (sym same.card) card.1);
      }

  abbrev OfDevices : MountFault → Type 0
  OfDevices fault = IsDeviceFault fault ⊎ (fault ≡ NoMemoryFault)

  unread_devices : (p q : PortState) (drew draws : ℕ) (card : CardState) → HasCard p (rpmb_key keys.huk) card → (fault : MountFault) → CardRefused p q (rpmb_key keys.huk) drew draws fault → OfDevices fault
  unread_devices p q drew draws card has (Failed cause) refused = inl tt
  unread_devices p q drew draws card has NoMemoryFault refused = inr refl
  unread_devices p q drew draws card has (Frame fault) refused = absurd (refused card has)
  unread_devices p q drew draws card has (CardResult result) refused = absurd (refused card has)
  unread_devices p q drew draws card has NoStore refused = absurd refused
  unread_devices p q drew draws card has (CardBlock offset) refused = absurd refused
  unread_devices p q drew draws card has (Directory fault) refused = absurd refused
  unread_devices p q drew draws card has Spent refused = absurd refused
  unread_devices p q drew draws card has (OldFormat file) refused = absurd refused

  unformed_devices : (old new : FileState) (p q : PortState) (drew draws : ℕ) (card : CardState) → HasCard p (rpmb_key keys.huk) card → (fault : MountFault) → FormatRefused old new p q keys drew draws fault → OfDevices fault
  unformed_devices old new p q drew draws card has (Failed cause) refused = inl tt
  unformed_devices old new p q drew draws card has Spent refused = inl tt
  unformed_devices old new p q drew draws card has NoMemoryFault refused = inr refl
  unformed_devices old new p q drew draws card has (Frame fault) refused = absurd (refused card has)
  unformed_devices old new p q drew draws card has (CardResult result) refused = absurd (refused card has)
  unformed_devices old new p q drew draws card has NoStore refused = absurd refused
  unformed_devices old new p q drew draws card has (CardBlock offset) refused = absurd refused
  unformed_devices old new p q drew draws card has (Directory fault) refused = absurd refused
  unformed_devices old new p q drew draws card has (OldFormat file) refused = absurd refused

  stops_devices : (old new : BenchState) (drew draws : ℕ) (card : CardState) → HasCard old.card (rpmb_key keys.huk) card → (fault : MountFault) → StopsOpening keys old new drew draws fault → OfDevices fault
  stops_devices old new drew draws card has fault (unread u) = unread_devices old.card new.card drew draws card has fault u.refused
  stops_devices old new drew draws card has fault (unformed block between blank reads not) =
      unformed_devices (between.files directory_file) (new.files directory_file) between.card new.card drew draws card (record { told = reads.card ∙ has.told; keyed = has.keyed }) fault not.refused

  blank_devices : (old new : BenchState) (drew draws : ℕ) (card : CardState) → HasCard old.card (rpmb_key keys.huk) card → (fault : MountFault) → IsOpenRefused keys old new drew draws fault → OfDevices fault
  blank_devices old new drew draws card has fault (stopped stops memory) = stops_devices old new drew draws card has fault stops
  blank_devices old new drew draws card has fault (unasked is same) = inr is
  blank_devices old new drew draws card has fault (starved other is stops gone) = inr is

  -- a device fault or want of memory
  by_device : (fault : MountFault) → IsOfDevice fault → OfDevices fault
  by_device (Failed cause) is = inl tt
  by_device NoMemoryFault is = inr refl
  by_device fault is = absurd is

  module _ (apps : List (List ℕ)) (s : ReplayState) (handed : BenchState) where
    pub begun_opened : (new : BenchState) → BeginsWith keys apps handed s → OpensBench keys handed new → HoldsUntainted keys new s
    begun_opened new (inl held) opens =
        let card = held.card in same_untainted s handed new (opens_same keys s handed card.0 held.holds card.1 new opens) held
    begun_opened new (inr (b, is)) opens = subst (HoldsUntainted keys new) (sym is) (blank_opened apps handed new b opens)

    pub open_devices : (given : BenchState) (drew draws : ℕ) → BeginsWith keys apps handed s → (fault : MountFault) → IsOpenRefused keys handed given drew draws fault → OfDevices fault
    open_devices given drew draws (inl held) fault refused =
        let card = held.card in by_device fault (refused_same keys s handed card.0 held.holds card.1 given drew draws fault refused).1
    open_devices given drew draws (inr (b, is)) fault refused = blank_devices handed given drew draws b.card b.has fault refused
