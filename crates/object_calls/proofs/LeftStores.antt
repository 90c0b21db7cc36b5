-- A store that is no longer served: its gate and its slots are at rest.
use Rattle.std.proofs.Common.{◌≡◌, ◌==◌, ◌+◌, ◌<◌, ◌⊎◌, ◌||◌, ℕ, zero, suc, Bool, true, false, true≢false, List, [], ◌∷◌, ◌++◌, length, Option, Some, None, option_map, slice_index_or, IsTrue, inl, inr, refl, sym, ap, ◌∙◌, subst, arith, eq-eqb}
use Rattle.std.specs.Prelude.{Contains}
use Rattle.std.proofs.lemmas.Bool.{cases_Bool, cases_eq, eqb-true}
use Rattle.std.proofs.lemmas.List.{get_or_default}
use Rattle.disk_model.specs.State.{FileState, LeftNow, Sound}
use Rattle.tee_types.specs.Limits.{IsObjectFile, directory_file, last_file, old_directory_file}
use Rattle.hmac_keys.specs.KeyTable.{rpmb_key}
use Rattle.tee_types.proofs.FileNumbers.{object_or_not}
use Rattle.rpmb_card.specs.Card.{CardState}
use Rattle.rpmb_card.specs.Port.{PortState}
use Rattle.rpmb_host.specs.Honest.{HasCard}
use Rattle.store_model.specs.Legal.{IsLegalFrom}
use Rattle.store_model.specs.LegalHistory.{IsLegal, doubt_of, opening_with}
use Rattle.store_model.specs.Object.{ObjectMap}
use Rattle.store_model.specs.Record.{concerns_file, events_of}
use Rattle.store_model.specs.ReplayState.{ReplayState, opening, replay}
use Rattle.store_model.specs.History.{AreNumbered}
use Rattle.store_model.specs.Doubt.{Doubt}
use Rattle.history_seats.specs.Numbers.{is_in}
use Rattle.history_seats.specs.Records.{HistoryRecord, IsUpToDate}
use Rattle.history_seats.specs.Rule.{SlotFits}
use Rattle.history_seats.specs.Views.{GateView}
use Rattle.crash_core.specs.CardBlock.{directory_at}
use Rattle.crash_core.specs.CoreState.{Phase}
use Rattle.crash_core.specs.Pictures.{IsPictureOf, Picture}
use Rattle.core_laws.specs.SlotParts.{SlotHolds, SlotPart}
use Rattle.core_laws.proofs.Contained.{contains_first, contains_later, contains_cases, contains_none}
use Rattle.core_laws.specs.TamperScenarios.{TamperScenario, nothing_back}
use Rattle.core_laws.specs.Stores.{Store, mounted_files, phase_of, replay_at}
use Rattle.core_laws.specs.Answered.{AreAnswered, AreLegalEach, AreOwnLegal}
use Rattle.core_laws.proofs.Answers.{own-whole}
use Rattle.core_laws.specs.Undamaged.{AreUndamagedIn}
use Rattle.core_laws.proofs.FirstClashes.{legal_or_clashed}
use Rattle.core_laws.proofs.Narrowing.{all_answered, answered_each, legal_each}
use Rattle.crash_core.specs.declared.change.DoubtedChange.{DoubtedChange}
use Rattle.store_commit.specs.Gates.{DoubtStands, GateValue, gate_sides}
use Rattle.store_commit.specs.Holds.{AreHolds}
use Rattle.store_commit.specs.Sides.{Sides}
use Rattle.core_laws.specs.Ties.{IsReplayDoubt, IsTied}
use Rattle.serial_calls.specs.FinishedPhases.{phase_under}
use Rattle.serial_calls.specs.ClosedStores.{AreSlotsOf, IsClosedStore, IsMapBy, IsTiedStore, MountsBy, MountsGivenBy, SupposesTampered, tampered_in, no_slot, slots_of, store_files}
use Rattle.serial_calls.proofs.ClosedStores.{closed_stores_mount, honest_stores_mount, slot_is, slot_none, store_directory, store_slot, tampered_files_are_supposed}
use Rattle.serial_calls.proofs.GivenPictures.{tied_stores_mount}
use Rattle.serial_calls.proofs.Ties.{ties_tell}
use Rattle.serial_calls.specs.SlotCalls.{part}
use Rattle.serial_calls.specs.SlotValues.{SlotValue}
use Rattle.serial_calls.specs.declared.Closing.{Closing}
use Rattle.serial_calls.specs.GuardedGates.{GateInvariant, GuardedGateValue}
use Rattle.object_calls.specs.OldStores.{HasNoOldFile}
use Rattle.object_calls.specs.OpeningFiles.{files_of, numbered_files}
use Rattle.object_calls.specs.FinishedPhase.{AreAllHonest, GivesBack, IsAnsweredOrEnds, IsCounterLeft, IsDoubtLeft, IsLegalOrClashed, IsMapWith, LeavesHonest, LeavesStore, PicturesMountAfter, PicturesMountGiven, end_replay}
use Rattle.object_calls.specs.Retiring.{ArePlaced, AreRecorded, IsPlaced}
use Rattle.object_calls.specs.Services.{HasSoundOpening, ServiceValue}
use Rattle.serial_calls.specs.Slots.{AreOfObjectFiles, AreSlots}
use Rattle.object_calls.proofs.CurrentPictures.{gate_not_old}
use Rattle.object_calls.proofs.Files.{directory_here, numbered_past, numbered_sound, object_numbered}
use Rattle.object_calls.proofs.HonestOpenings.{altered-same}
use Rattle.object_calls.proofs.Retirings.{IsSameHistory, placed_back, recorded_back}

-- a number that is in a list is contained in it, and the other way round
in-contains : (n : ℕ) (numbers : List ℕ) → is_in n numbers ≡ true → Contains numbers n
in-contains n [] there = absurd (true≢false (sym there))
in-contains n (m ∷ numbers) there = by_test (λ found. in-contains n numbers found) (m == n) refl there
  where
    by_test : (is_in n numbers ≡ true → Contains numbers n) → (b : Bool) → (m == n) ≡ b → (b || is_in n numbers) ≡ true → Contains (m ∷ numbers) n
    by_test later true same found = contains_first m n numbers (eqb-true m n same)
    by_test later false other found = contains_later m n numbers (later found)

contains-in : (n : ℕ) (numbers : List ℕ) → Contains numbers n → is_in n numbers ≡ true
contains-in n [] there = absurd (contains_none n there)
contains-in n (m ∷ numbers) there = elim (contains_cases m n numbers there) [
  | inl same ↦ ap (λ (b : Bool). b || is_in n numbers) (eq-eqb m n same)
  | inr later ↦ by_test (m == n) (contains-in n numbers later)
]
  where
    by_test : (b : Bool) → is_in n numbers ≡ true → (b || is_in n numbers) ≡ true
    by_test true found = refl
    by_test false found = found

-- a record between two parts of a list is in it
contains_between : (front : List HistoryRecord) (r : HistoryRecord) (back : List HistoryRecord) → Contains (front ++ r ∷ back) r
contains_between [] r back = contains_first r r back refl
contains_between (f ∷ front) r back = contains_later f r (front ++ r ∷ back) (contains_between front r back)

-- the commit in doubt by its number
mounts_numbered : (phase : Phase) (picture : Picture) (s : ReplayState) (doubt : Option DoubtedChange) → MountsBy doubt phase picture s → MountsBy (option_map (λ (d : DoubtedChange). d.number) doubt) phase picture s
mounts_numbered phase picture s None mounts = mounts
mounts_numbered phase picture s (Some d) mounts = mounts

map_numbered : (phase : Phase) (picture : Picture) (s : ReplayState) (doubt : Option DoubtedChange) → IsMapBy doubt phase picture s → IsMapWith phase.keys picture s (option_map (λ (d : DoubtedChange). d.number) doubt)
map_numbered phase picture s None is = is
map_numbered phase picture s (Some d) is = is

module _ {F R : Type 0} (state : F → FileState) (port : R → PortState) (sound : (f : F) → Sound (state f)) (store : Store) (gate : GateValue F R) (view : GateView)
    (closing : Option Closing) (taken : List SlotValue) (spare : F) (others : List F) (guarded : GateInvariant store gate view closing) (stands : DoubtStands (gate_sides state port gate) gate.doubt)
    (held : AreHolds gate.dir.dir.entries gate.holds) (tagged : AreOfObjectFiles view.all) (many : length others ≡ last_file) (placed : ArePlaced store view taken state last_file others) (opens : HasSoundOpening store) where
  abbrev g : Sides
  g = gate_sides state port gate

  abbrev files : ℕ → FileState
  files = numbered_files state spare gate.dir.file others

  -- THE SLOTS
  placed_at : (file : ℕ) → IsObjectFile file → IsPlaced store view taken file (files file)
  placed_at zero own = absurd (omega (arith, own.0))
  placed_at (suc i) own =
      let next : i + 1 ≡ suc i = omega arith in
      subst (IsPlaced store view taken (suc i)) (sym (object_numbered state spare gate.dir.file others (suc i) own))
      (subst (λ (n : ℕ). IsPlaced store view taken n (files_of state others i)) next (placed i (omega (arith, own.1))))

  abbrev slot_by : (file : ℕ) → IsObjectFile file ⊎ (IsObjectFile file → ⊥) → SlotPart
  slot_by file (inl own) = part (files file) (placed_at file own).seat.knows None
  slot_by file (inr off) = no_slot (files file) file

  abbrev slots : ℕ → SlotPart
  slots file = slot_by file (object_or_not file)

  each_by : (P : ℕ → SlotPart → Type 0) → ((file : ℕ) (own : IsObjectFile file) → P file (part (files file) (placed_at file own).seat.knows None)) → (file : ℕ)
      → IsObjectFile file → (which : IsObjectFile file ⊎ (IsObjectFile file → ⊥)) → P file (slot_by file which)
  each_by P all file own (inl is) = all file is
  each_by P all file own (inr off) = absurd (off own)

  file_by : (file : ℕ) (which : IsObjectFile file ⊎ (IsObjectFile file → ⊥)) → (slot_by file which).file ≡ files file
  file_by file (inl own) = refl
  file_by file (inr off) = refl

  slots_hold : AreSlotsOf store view slots
  slots_hold = record {
    numbered = λ file own. each_by (λ n s. s.view.file ≡ n) (λ n is. (placed_at n is).own.own) file own (object_or_not file);
    fits = λ file own. each_by (λ n s. SlotFits view s.view) (λ n is. (placed_at n is).fits) file own (object_or_not file);
    holds = λ file own. each_by (λ n s. SlotHolds store.keys s) (λ n is. (placed_at n is).own.holds None) file own (object_or_not file);
    sound = λ file. subst (λ (s : FileState). Sound s) (sym (file_by file (object_or_not file))) (numbered_sound state sound spare gate.dir.file others file);
    past = λ file behind. subst (λ (s : FileState). IsTrue s.honest) (sym (file_by file (object_or_not file) ∙ numbered_past state spare gate.dir.file others file many behind)) refl;
  }

  -- THE FILES
  slot_file : (file : ℕ) → (slots_of slots file).file ≡ files file
  slot_file file = elim (object_or_not file) [
    | inl object ↦ ap (λ (s : SlotPart). s.file) (slot_is slots file object) ∙ file_by file (object_or_not file)
    | inr off ↦ ap (λ (s : SlotPart). s.file) (slot_none slots file off) ∙ file_by file (object_or_not file)
  ]

  same_file : (file : ℕ) → store_files g slots file ≡ files file
  same_file file = elim (cases_eq file directory_file) [
    | inl is ↦ subst (λ (n : ℕ). store_files g slots n ≡ files n) (sym is) (store_directory g slots ∙ sym (directory_here state spare gate.dir.file others))
    | inr other ↦ store_slot g slots file other ∙ slot_file file
  ]

  same_files : store_files g slots ≡ files
  same_files = λ j file. same_file file j

  -- the tamper scenario that nothing comes back in those that are not honest
  abbrev as_left : TamperScenario
  as_left = nothing_back (tampered_in files)

  -- THE HISTORY
  supposed : (scenario : TamperScenario) → scenario.tampered ≡ tampered_in files → SupposesTampered scenario (store_files g slots)
  supposed scenario is = tampered_files_are_supposed scenario (store_files g slots) (is ∙ ap tampered_in (sym same_files))

  own_of : (scenario : TamperScenario) (file : ℕ) (own : IsObjectFile file) → IsTrue (files file).honest → is_in file scenario.tampered ≡ false → AreOwnLegal store scenario file view.all
  own_of scenario file own honest off =
      let p = placed_at file own in
      let begins : IsUpToDate (concerns_file file) p.seat.knows.seen view.all =
      subst (λ (n : ℕ). IsUpToDate (concerns_file n) p.seat.knows.seen view.all) p.own.own p.fits.sees.begins in
      own-whole store scenario file p.seat.knows.seen view.all begins (p.own.legal honest scenario off)

  off_of : (scenario : TamperScenario) (file : ℕ) → (IsObjectFile file → ⊥) → AreOwnLegal store scenario file view.all
  off_of scenario file off front r back split names answered = absurd (off (tagged r file (subst (λ (l : List HistoryRecord). Contains l r) split (contains_between front r back)) names))

  own_legal : (scenario : TamperScenario) → scenario.tampered ≡ tampered_in files → (file : ℕ) → Contains scenario.tampered file ⊎ AreOwnLegal store scenario file view.all
  own_legal scenario is file = elim (object_or_not file) [
    | inr off ↦ inr (off_of scenario file off)
    | inl own ↦ elim (cases_Bool (is_in file scenario.tampered)) [
      | inl among ↦ inl (in-contains file scenario.tampered among)
      | inr off ↦
          let honest : IsTrue (files file).honest =
          subst (λ (s : FileState). IsTrue s.honest) (same_file file) (supposed scenario is file (omega (arith, own.1)) (λ there. true≢false (sym (contains-in file scenario.tampered there) ∙ off))) in
          inr (own_of scenario file own honest off)
    ]
  ]

  answered_or : IsAnsweredOrEnds store view files
  answered_or scenario is = all_answered store scenario view.all (guarded.journal.fair scenario) (own_legal scenario is)

  tied_store : (scenario : TamperScenario) (card : CardState) → SupposesTampered scenario (store_files g slots) → HasCard (port gate.host.port) (rpmb_key store.keys.huk) card
      → IsTiedStore store scenario g gate.doubt gate.holds card view slots
  tied_store scenario card tampered has = record {
    gate = record {
      tsk = guarded.directory_key;
      sound = sound gate.dir.file;
      current = guarded.current.root;
      stands = stands;
      held = held;
      told = record { own = card; has = subst (λ (k : List ℕ). HasCard (port gate.host.port) k card) (sym guarded.card_key) has; same = record { key = refl; counter = refl; blocks = refl } };
    };
    tied = guarded.tied;
    mounted = guarded.journal.mounted;
    slots_hold = slots_hold;
    tampered = tampered;
  }

  closed : (scenario : TamperScenario) (card : CardState) → SupposesTampered scenario (store_files g slots) → AreAnswered store scenario view.all
      → HasCard (port gate.host.port) (rpmb_key store.keys.huk) card → IsClosedStore store scenario g gate.doubt gate.holds card view slots
  closed scenario card tampered answered has = record {
    gate = (tied_store scenario card tampered has).gate;
    tied = ties_tell store scenario view gate.dir.dir.entries gate.counter gate.doubt guarded.journal.mounted guarded.tied answered (guarded.journal.in_step scenario answered);
    slots_hold = slots_hold;
    tampered = tampered;
  }

  mounts_after : (doubt : Option ℕ) → doubt ≡ option_map (λ d. d.number) gate.doubt → PicturesMountAfter store view files (port gate.host.port) doubt
  mounts_after doubt number scenario card picture is answered has left trusted =
      subst (λ (d : Option ℕ). MountsBy d (phase_under store scenario) picture (replay_at store scenario view.all)) (sym number)
      (mounts_numbered (phase_under store scenario) picture (replay_at store scenario view.all) gate.doubt
      (closed_stores_mount store scenario g gate.doubt gate.holds card view slots picture (closed scenario card (supposed scenario is) answered has)
      (subst (λ (f : ℕ → FileState). IsPictureOf f card picture) (sym same_files) left) trusted))

  -- whatever became of the history
  mounts_given : (doubt : Option ℕ) → doubt ≡ option_map (λ d. d.number) gate.doubt → PicturesMountGiven store view files (port gate.host.port) doubt
  mounts_given doubt number card picture has left trusted =
      subst (λ (d : Option ℕ). MountsGivenBy d store (phase_under store as_left) picture view.all) (sym number)
      (given_numbered (phase_under store as_left) picture gate.doubt
      (tied_stores_mount store as_left g gate.doubt gate.holds card view slots picture
      (tied_store as_left card (supposed as_left refl) has)
      (subst (λ (f : ℕ → FileState). IsPictureOf f card picture) (sym same_files) left) trusted))
    where
      given_numbered : (phase : Phase) (picture : Picture) (doubt : Option DoubtedChange) → MountsGivenBy doubt store phase picture view.all
          → MountsGivenBy (option_map (λ (d : DoubtedChange). d.number) doubt) store phase picture view.all
      given_numbered phase picture None mounts = mounts
      given_numbered phase picture (Some d) mounts = mounts

  doubt_by : (doubt : Option DoubtedChange) → IsTied store view gate.dir.dir.entries gate.counter doubt → IsDoubtLeft store view (option_map (λ d. d.number) doubt)
  doubt_by None tied scenario answered = inr refl
  doubt_by (Some d) tied scenario answered =
      let s : IsReplayDoubt (replay_at store scenario view.all) gate.dir.dir.entries _ = tied.doubt.stands scenario answered in
      inl (ap (λ (n : ℕ). Some n) (sym s.number) ∙ ap (option_map (λ (x : Doubt). x.commit)) (sym s.is_open))

  doubted_is : (doubt : Option ℕ) → doubt ≡ option_map (λ d. d.number) gate.doubt → IsDoubtLeft store view doubt
  doubted_is doubt is = subst (IsDoubtLeft store view) (sym is) (doubt_by gate.doubt guarded.tied)

  -- THE COUNTER
  counts_by : (doubt : Option DoubtedChange) → DoubtStands g doubt → (card : CardState) → HasCard (port gate.host.port) gate.host.key card
      → (card.counter ≡ gate.counter) ⊎ (option_map (λ d. d.number) doubt ≡ Some card.counter)
  counts_by None stand card has = inl (stand.named card has).counted
  counts_by (Some d) stand card has = elim (stand.stands.named card has) [
    | inl old ↦ inl old.counted
    | inr next ↦ inr (ap (λ (n : ℕ). Some n) (stand.number ∙ sym next.counted))
  ]

  counted_is : (doubt : Option ℕ) → doubt ≡ option_map (λ d. d.number) gate.doubt → IsCounterLeft store view (port gate.host.port) doubt
  counted_is doubt is scenario card answered has =
      elim (counts_by gate.doubt stands card (subst (λ (k : List ℕ). HasCard (port gate.host.port) k card) (sym guarded.card_key) has)) [
        | inl settled ↦ inl (settled ∙ sym (guarded.tied.counter scenario answered))
        | inr doubted ↦ inr (is ∙ doubted)
      ]

  -- THE FORMATS
  not_old : IsTrue (files directory_file).honest → HasNoOldFile store.keys files (port gate.host.port)
  not_old honest card picture has is =
      let own : files directory_file ≡ state gate.dir.file = directory_here state spare gate.dir.file others in
      let left : LeftNow (state gate.dir.file) (picture.images directory_file) = subst (λ (s : FileState). LeftNow s (picture.images directory_file)) own (is.left directory_file) in
      gate_not_old g store.keys picture (sym guarded.directory_key) (subst (λ (s : FileState). IsTrue s.honest) own honest)
      (record {
        left = subst (λ (file : ℕ). LeftNow (state gate.dir.file) (picture.images file)) (sym (ap directory_at guarded.current.root)) left;
        card = card;
        has = subst (λ (k : List ℕ). HasCard (port gate.host.port) k card) (sym guarded.card_key) has;
        same = is.same;
      })
      gate.doubt guarded.current stands

  -- WHERE NOTHING COMES BACK
  replay_same : (files : List ℕ) → replay_at store (nothing_back files) view.all ≡ end_replay store view
  replay_same files = ap (λ (m : ObjectMap). replay (opening_with (phase_of store) m) view.all) (opens.unchanged files)

  -- events that are legal are a legal history
  legal_left : (doubt : Option ℕ) → AreNumbered (events_of view.all) → (files : List ℕ) → IsLegalFrom files (opening (phase_of store)) view.all
      → (doubt ≡ doubt_of (end_replay store view)) ⊎ (doubt ≡ None) → IsLegal (phase_of store) files view.all doubt
  legal_left doubt numbered files legal left = record {
    opens = opens.map;
    begins = store.objects;
    begins_sound = opens.map;
    altered = altered-same (phase_of store).files files view.all store.objects;
    events_legal = legal;
    doubt_left = left;
    numbered = numbered;
  }

  legal_or : (doubt : Option ℕ) → doubt ≡ option_map (λ d. d.number) gate.doubt → AreNumbered (events_of view.all) → IsLegalOrClashed store view files doubt
  legal_or doubt number numbered fine =
      elim (legal_or_clashed store as_left view.all opens.map.rising
      (subst (AreUndamagedIn (tampered_in files) (mounted_files store.mounted)) (sym (opens.unchanged (tampered_in files))) fine) (guarded.journal.fair as_left) (own_legal as_left refl)) [
        | inr clash ↦ inr clash
        | inl legal ↦ inl (legal_left doubt numbered (tampered_in files)
            (subst (λ (m : ObjectMap). IsLegalFrom (tampered_in files) (opening_with (phase_of store) m) view.all) (opens.unchanged (tampered_in files)) (legal_each store as_left view.all legal))
            (subst (λ (s : ReplayState). (doubt ≡ doubt_of s) ⊎ (doubt ≡ None)) (replay_same (tampered_in files))
            (doubted_is doubt number as_left (answered_each store as_left view.all legal))))
      ]

  -- WHERE EVERY FILE IS HONEST
  abbrev plain : TamperScenario
  plain = nothing_back []

  replay_is : replay_at store plain view.all ≡ end_replay store view
  replay_is = replay_same []

  module _ (honest : AreAllHonest files) where
    own_each : (file : ℕ) → AreOwnLegal store plain file view.all
    own_each file = elim (object_or_not file) [
      | inr off ↦ off_of plain file off
      | inl own ↦ own_of plain file own (honest file) refl
    ]

    legal_plain : AreLegalEach store plain view.all
    legal_plain =
        elim (legal_or_clashed store plain view.all opens.map.rising (λ name object file there named among. absurd (contains_none file among)) (guarded.journal.fair plain) (λ file. inr (own_each file))) [
          | inl legal ↦ legal
          | inr clash ↦ absurd (contains_none clash.file clash.not_honest)
        ]

    answered_plain : AreAnswered store plain view.all
    answered_plain = answered_each store plain view.all legal_plain

    supposed_plain : SupposesTampered plain (store_files g slots)
    supposed_plain file within off = subst (λ (s : FileState). IsTrue s.honest) (sym (same_file file)) (honest file)

    map_left : (card : CardState) (picture : Picture) → HasCard (port gate.host.port) (rpmb_key store.keys.huk) card → IsPictureOf files card picture
        → IsMapWith store.keys picture (end_replay store view) (option_map (λ d. d.number) gate.doubt)
    map_left card picture has left =
        subst (λ (s : ReplayState). IsMapWith store.keys picture s (option_map (λ d. d.number) gate.doubt)) replay_is
        (map_numbered (phase_under store plain) picture (replay_at store plain view.all) gate.doubt
        (honest_stores_mount store plain g gate.doubt gate.holds card view slots picture (closed plain card supposed_plain answered_plain has)
        (subst (λ (f : ℕ → FileState). IsPictureOf f card picture) (sym same_files) left) (λ file. contains_none file)))

    leaves_honest : (doubt : Option ℕ) → doubt ≡ option_map (λ d. d.number) gate.doubt → AreNumbered (events_of view.all) → LeavesHonest store view files (port gate.host.port) doubt
    leaves_honest doubt number numbered =
        let events_legal = subst (λ (m : ObjectMap). IsLegalFrom [] (opening_with (phase_of store) m) view.all) (opens.unchanged []) (legal_each store plain view.all legal_plain) in
        let doubt_left = subst (λ (s : ReplayState). (doubt ≡ doubt_of s) ⊎ (doubt ≡ None)) replay_is (doubted_is doubt number plain answered_plain) in record {
          legal = legal_left doubt numbered [] events_legal doubt_left;
          events_legal = events_legal;
          doubt_left = doubt_left;
          mounts = λ card picture has left. subst (IsMapWith store.keys picture (end_replay store view)) (sym number) (map_left card picture has left);
          counted = λ card has. subst (λ (s : ReplayState). (card.counter ≡ s.counter) ⊎ (doubt ≡ Some card.counter)) replay_is (counted_is doubt number plain card answered_plain has);
        }

  pub leaves : (doubt : Option ℕ) → doubt ≡ option_map (λ d. d.number) gate.doubt → AreNumbered (events_of view.all) → LeavesStore store view files (port gate.host.port) doubt
  leaves doubt is numbered = record {
    numbered = numbered;
    tagged = tagged;
    current = not_old;
    honest = λ honest. leaves_honest honest doubt is numbered;
    altered = record {
      answered = answered_or;
      mounts = mounts_after doubt is;
      given = mounts_given doubt is;
      legal_or_clashed = legal_or doubt is numbered;
      doubted = doubted_is doubt is;
      counted = counted_is doubt is;
    };
  }

-- The parts of a store that is closed: its gate, its history once the sessions' seats were taken in, and its files.
module _ {F R : Type 0} (state : F → FileState) (port : R → PortState) (sound : (f : F) → Sound (state f)) (store : Store) (s : GuardedGateValue F R) (later : GateView)
    (guarded : GateInvariant store s.gate s.journal.knows s.closing) (tagged : AreOfObjectFiles s.journal.knows.all) (same : IsSameHistory s.journal.knows later)
    (taken : List SlotValue) (spare : F) (others : List F) (many : length others ≡ last_file) (placed : ArePlaced store later taken state last_file others) (recorded : AreRecorded later) (opens : HasSoundOpening store) where
  pub leaves_parts : DoubtStands (gate_sides state port s.gate) s.gate.doubt → AreHolds s.gate.dir.dir.entries s.gate.holds → (doubt : Option ℕ)
      → doubt ≡ option_map (λ d. d.number) s.gate.doubt → (dir : F) (card : R) (files : List F) → dir ≡ s.gate.dir.file → card ≡ s.gate.host.port → files_of state files ≡ numbered_files state spare dir others
      → LeavesStore store s.journal.knows (files_of state files) (port card) doubt
  leaves_parts stands held doubt doubt_is dir card files dir_is card_is files_are =
      let all = leaves state port sound store s.gate s.journal.knows s.closing taken spare others guarded stands held tagged many
      (λ i within. placed_back s.journal.knows later same store taken (i + 1) (files_of state others i) (placed i within)) opens doubt doubt_is (recorded_back s.journal.knows later same recorded).numbered in
      subst (λ (f : ℕ → FileState). LeavesStore store s.journal.knows f (port card) doubt)
      (sym (files_are ∙ ap (λ (d : F). numbered_files state spare d others) dir_is))
      (subst (λ (r : R). LeavesStore store s.journal.knows (numbered_files state spare s.gate.dir.file others) (port r) doubt) (sym card_is) all)

-- THE DEVICES

-- the slot of a file stands in its place
slot_in_place : (slots : List SlotValue) (i : ℕ) (d slot : SlotValue) → AreSlots slots → Contains slots slot → slot.number ≡ i + 1 → slot ≡ slice_index_or slots i d
slot_in_place slots i d slot are among number =
    let place : among.0 ≡ i = omega (arith, are.numbered among.0 slot among.1, ap (λ (s : SlotValue). s.number) among.2, number) in
    sym among.2 ∙ ap (λ (k : ℕ). slice_index_or slots k slot) place ∙ get_or_default slots i slot d (subst (λ (k : ℕ). k < length slots) place among.1)

-- so each slot's file is given back in its place
pub gives_back : {F R : Type 0} (state : F → FileState) (store : Store) (view : GateView) (s : ServiceValue F R) (files : List F) (card : R) → AreSlots s.slots
    → files_of state files directory_file ≡ state s.gate.gate.dir.file → files_of state files old_directory_file ≡ state s.spare → card ≡ s.gate.gate.host.port → ((i : ℕ) → i < last_file → IsPlaced store view s.slots (i + 1) (files_of state files (i + 1)))
    → GivesBack state s files card
gives_back state store view s files card are dir spare port placed = record {
  dir = dir;
  spare = spare;
  each = λ i d within.
      let p = placed i within in
      p.file ∙ ap (λ (x : SlotValue). x.file) (slot_in_place s.slots i d p.slot are p.among p.number);
  port = port;
}
