-- The directory's move on a bench: what it leaves of the files and of the card.
use Rattle.std.proofs.Common.{◌≡◌, ◌≢◌, ◌≤◌, ◌∙◌, ℕ, Bool, true, false, List, [], get_or, Option, Some, Result, Ok, Err, refl, sym, ap, subst, inl, inr, arith}
use Rattle.std.proofs.lemmas.Bool.{cases_eq}
use Rattle.disk_model.specs.Faults.{Rose}
use Rattle.disk_model.specs.State.{FileState}
use Rattle.disk_model.specs.Calls.{GoesOn}
use Rattle.disk_model.specs.Keeps.{Keeps}
use Rattle.disk_model.proofs.Goings.{goes_on_none}
use Rattle.disk_model.proofs.Laws.{keeps_none}
use Rattle.node_image.specs.declared.node.RootRef.{RootRef}
use Rattle.node_image.specs.References.{current_format}
use Rattle.hmac_keys.specs.declared.Keys.{Keys}
use Rattle.hmac_keys.specs.KeyTable.{rpmb_key}
use Rattle.htree_file.specs.declared.fault.TreeFault.{TreeFault}
use Rattle.htree_file.specs.Answers.{FilePassed}
use Rattle.htree_file.specs.Copies.{OpenAlike, moved_root}
use Rattle.htree_file.specs.Making.{Nowhere}
use Rattle.htree_file.specs.Pages.{Opened, opened_of}
use Rattle.htree_file.specs.Standing.{Told}
use Rattle.htree_file.proofs.Causes.{passed_none}
use Rattle.tee_types.specs.Limits.{directory_file, old_directory_file}
use Rattle.tee_types.specs.declared.reply.Cause.TheVariants.{Fault, Frame as FrameCause, CardResult as ResultCause}
use Rattle.tee_types.specs.declared.reply.Device.TheVariants.{Dir, File, Card, Entropy}
use Rattle.tee_types.proofs.FileNumbers.{old_not_directory}
use Rattle.dir_records.specs.declared.entry.DirEntry.{DirEntry}
use Rattle.rpmb_card.specs.Card.{CardState}
use Rattle.rpmb_card.specs.Port.{PortState}
use Rattle.rpmb_host.specs.Honest.{HasCard}
use Rattle.crash_core.specs.CardBlock.{IsReference, directory_at, old_format, root_block, root_in}
use Rattle.crash_core.specs.DeviceKeys.{directory_key}
use Rattle.crash_core.specs.Directory.{directory_from, directory_of}
use Rattle.crash_core.specs.Mounting.{directory_by, unless_fault}
use Rattle.crash_core.specs.Opening.{reads_of}
use Rattle.crash_core.specs.Pictures.{AreSound, block_zero}
use Rattle.crash_core.proofs.CardBlocks.{root_in-block}
use Rattle.crash_core.proofs.KeptByCommits.{first_set}
use Rattle.crash_core.proofs.Migrations.{exchanges_migrate, same_card}
use Rattle.crash_core.proofs.MountedImages.{directory_is}
use Rattle.crash_core.proofs.OldFormats.{old_directory}
use Rattle.crash_core.proofs.SameDirectory.{directory_seen, seen_directory}
use Rattle.store_commit.specs.declared.fault.MountFault.{MountFault}
use Rattle.store_commit.specs.declared.fault.MountFault.TheVariants.{NoStore, CardBlock, Directory, Frame, CardResult, Failed, Spent, NoMemory, OldFormat}
use Rattle.store_commit.specs.Causes.{NoCard}
use Rattle.store_commit.specs.CardEnds.{IsSealedCard}
use Rattle.store_commit.specs.DirectoryLooks.{Looks}
use Rattle.store_commit.specs.Mounts.{NoCardOf}
use Rattle.store_commit.specs.Sides.{Names}
use Rattle.store_commit.proofs.Cards.{has_still}
use Rattle.object_calls.specs.Migrated.{KeepsBenchMaps, MigratesBench, WritesOnceEach, devices_of, store_of}
use Rattle.object_calls.specs.MigrationRefusals.{MigrationRefused}
use Rattle.object_calls.specs.DirectoryMoves.{CopiesBetween, CopiesDirectory, FilesNotMoved, MovesDirectory, NamesCurrent, RootRefused, SettlesFormat, StopsFormat, unmoved, unread}
use Rattle.object_calls.proofs.DirectoryCopies.{looks_goes_on, looks_none, looks_reads}
use Rattle.object_calls.proofs.DirectorySteps.{moved_old, stayed_current}
use Rattle.object_calls.proofs.MigrationTurns.{IsCopying, copying_migrates, naming_migrates}

-- COPIES
-- what opens as a directory's tree does is that directory
copied_directory : (key before after : List ℕ) (root next : RootRef) (entries : List (Option DirEntry)) → directory_of key before root ≡ Ok entries
    → OpenAlike (opened_of key before root) (opened_of key after next) → directory_of key after next ≡ Ok entries
copied_directory key before after root next entries is alike =
    seen_directory key after next entries (by_opened (opened_of key before root) (opened_of key after next) (directory_seen key before root entries is) alike)
  where
    by_opened : (a b : Result Opened TreeFault) → directory_from a ≡ Ok entries → OpenAlike a b → directory_from b ≡ Ok entries
    by_opened (Err fault) b read same = absurd (cc (read))
    by_opened (Ok opened) (Err fault) read none = absurd none
    by_opened (Ok opened) (Ok other) read same = ap (λ (o : Opened). let r : Result Opened TreeFault = Ok o in directory_from r) (sym same) ∙ read

-- CARDS
same_told : (port : PortState) (key : List ℕ) (a b : CardState) → HasCard port key a → HasCard port key b → a ≡ b
same_told port key a b one other = let both : Some a ≡ Some b = sym one.told ∙ other.told in cc (both)

-- behind the write the card names the copy
sealed_names : (port : PortState) (key : List ℕ) (before after : CardState) (root next : RootRef) → root_in (block_zero before) ≡ Ok root → IsReference next → IsSealedCard port key before next
    → HasCard port key after → root_in (block_zero after) ≡ Ok next
sealed_names port key before after root next named form seal has =
    ap (λ (card : CardState). root_in (block_zero card)) (same_told port key after seal.next has seal.has)
    ∙ ap (λ (blocks : List (List ℕ)). root_in (get_or blocks 0 [])) seal.same.blocks
    ∙ ap root_in (first_set before.blocks (root_block next) root named)
    ∙ root_in-block next form

moved_form : (root : RootRef) → IsReference root → IsReference (moved_root root current_format)
moved_form root form = record { version = form.version; format = (omega arith, omega arith); long = form.long }

module _ (keys : Keys) (f0 f1 : ℕ → FileState) (p0 p1 : PortState) (sound : AreSound f0) (still : AreSound f1)
    (others : (n : ℕ) → n ≢ old_directory_file → n ≢ directory_file → f1 n ≡ f0 n) where
  abbrev key : List ℕ
  key = rpmb_key keys.huk

  abbrev Between : Type 0
  Between = CopiesBetween (f0 old_directory_file) (f1 old_directory_file) (f0 directory_file) (f1 directory_file)

  abbrev Copies : RootRef → Type 0
  Copies = CopiesDirectory keys (f0 old_directory_file) (f1 old_directory_file) (f0 directory_file) (f1 directory_file)

  abbrev Settles : Bool → Type 0
  Settles = SettlesFormat keys (f0 old_directory_file) (f1 old_directory_file) (f0 directory_file) (f1 directory_file) key p0 p1

  abbrev Stops : (drew draws : ℕ) → MountFault → Type 0
  Stops = StopsFormat keys (f0 old_directory_file) (f1 old_directory_file) (f0 directory_file) (f1 directory_file) key p0 p1

  -- THE FILES
  each_file : (P : FileState → FileState → Type 0) → P (f0 old_directory_file) (f1 old_directory_file) → P (f0 directory_file) (f1 directory_file) → ((s : FileState) → P s s) → (n : ℕ)
      → P (f0 n) (f1 n)
  each_file P old new none n = elim (cases_eq n old_directory_file) [
    | inl is ↦ subst (λ (k : ℕ). P (f0 k) (f1 k)) (sym is) old
    | inr other ↦ elim (cases_eq n directory_file) [
      | inl is ↦ subst (λ (k : ℕ). P (f0 k) (f1 k)) (sym is) new
      | inr else ↦ subst (P (f0 n)) (sym (others n other else)) (none (f0 n))
    ]
  ]

  same_files : f1 old_directory_file ≡ f0 old_directory_file → f1 directory_file ≡ f0 directory_file → (n : ℕ) → f1 n ≡ f0 n
  same_files old new = each_file (λ a b. b ≡ a) old new (λ s. refl)

  none_between : f1 old_directory_file ≡ f0 old_directory_file → f1 directory_file ≡ f0 directory_file → Between
  none_between old new = record {
    old_looks = subst (Looks (f0 old_directory_file)) (sym old) (looks_none (f0 old_directory_file) (sound old_directory_file));
    new_run = subst (Keeps Nowhere (f0 directory_file)) (sym new) (keeps_none Nowhere (f0 directory_file));
  }

  pub settles_between : (moved : Bool) → Settles moved → Between
  settles_between false s = let same = s.stays refl in none_between same.0 same.1
  settles_between true s = (s.moves refl).copies.between

  pub stops_between : (drew draws : ℕ) (fault : MountFault) → Stops drew draws fault → Between
  stops_between drew draws fault (unread old new card why) = none_between old new
  stops_between drew draws fault (unmoved root counter mid form old card faults named stops) = stops.between

  pub bench_goes_on : Between → (n : ℕ) → GoesOn (f0 n) (f1 n)
  bench_goes_on between =
      each_file GoesOn (looks_goes_on (f0 old_directory_file) (f1 old_directory_file) between.old_looks) between.new_run.goes_on goes_on_none

  pub bench_passed : (moved : Bool) → Settles moved → (n : ℕ) → FilePassed (f0 n) (f1 n)
  bench_passed false s =
      let same = s.stays refl in
      let each = same_files same.0 same.1 in
      λ n. subst (FilePassed (f0 n)) (sym (each n)) (passed_none (f0 n))
  bench_passed true s = let copies = (s.moves refl).copies in each_file FilePassed copies.old_passed copies.new_passed passed_none

  -- EACH MOMENT
  rests_bench : ((n : ℕ) → f1 n ≡ f0 n) → p1.card ≡ p0.card → MigratesBench f0 f1 p0 p1 keys
  rests_bench files same card has = record {
    after = card;
    has = has_still p0 p1 key key card same refl has;
    migrates = exchanges_migrate keys (devices_of f0 card) (devices_of f1 card) files (same_card card);
  }

  module _ (root : RootRef) (old : root.format ≡ old_format) (card : CardState) (named : root_in (block_zero card) ≡ Ok root) where
    at_old : directory_at root.format ≡ old_directory_file
    at_old = ap directory_at old

    copying_of : Between → IsCopying (devices_of f0 card) f1 root
    copying_of between = record {
      named = named;
      apart = λ is. old_not_directory (sym at_old ∙ sym is);
      between = subst (λ (n : ℕ). CopiesBetween (f0 n) (f1 n) (f0 directory_file) (f1 directory_file)) (sym at_old) between;
      others = λ n other else. others n (λ is. other (is ∙ sym at_old)) else;
    }

    unsealed : Between → HasCard p1 key card → KeepsBenchMaps f0 f1 p1 keys card
    unsealed between has = record { after = card; has = has; migrates = copying_migrates keys (devices_of f0 card) f1 root sound still (copying_of between) }

    sealed_bench : IsReference root → Copies root → IsSealedCard p1 key card (moved_root root current_format) → KeepsBenchMaps f0 f1 p1 keys card
    sealed_bench form copies seal = record {
      after = seal.next;
      has = seal.has;
      migrates = naming_migrates keys (devices_of f0 card) f1 root sound still (copying_of copies.between) form
          (subst (λ (n : ℕ). CopiesDirectory keys (f0 n) (f1 n) (f0 directory_file) (f1 directory_file) root) (sym at_old) copies) seal.next (inr seal.same);
    }

  -- the card that was handed in, when its block 0 was read
  between_has : (mid : PortState) (card : CardState) → mid.card ≡ p0.card → HasCard p0 key card → HasCard mid key card
  between_has mid card same has = has_still p0 mid key key card same refl has

  before_has : (mid : PortState) (card : CardState) → mid.card ≡ p0.card → HasCard mid key card → HasCard p0 key card
  before_has mid card same has = has_still mid p0 key key card (sym same) refl has

  pub settles_migrates : (moved : Bool) → Settles moved → MigratesBench f0 f1 p0 p1 keys
  settles_migrates false s card has = let same = s.stays refl in rests_bench (same_files same.0 same.1) (ap (λ (p : PortState). p.card) same.2 ∙ s.reads) card has
  settles_migrates true s card has =
      let m = s.moves refl in
      let names = s.named card has in
      sealed_bench s.root (moved_old s.root s.moved_is) card names.block s.form m.copies (m.sealed card (between_has s.between card s.reads has) names.counted)

  pub stops_migrates : (drew draws : ℕ) (fault : MountFault) → Stops drew draws fault → MigratesBench f0 f1 p0 p1 keys
  stops_migrates drew draws fault (unread old new same why) card has = rests_bench (same_files old new) same card has
  stops_migrates drew draws fault (unmoved root counter mid form old reads faults named stops) card has =
      let names = named card has in
      elim (stops.left card (between_has mid card reads has) names.counted) [
        | inl kept ↦ unsealed root old card names.block stops.between kept
        | inr moved ↦ sealed_bench root old card names.block form moved.0 moved.1
      ]

  -- WHAT THE CARD NAMES THEN
  pub settles_moves : (moved : Bool) → Settles moved → MovesDirectory f0 f1 p0 p1 keys moved
  settles_moves false s before after has is =
      let same = s.stays refl in
      let names = (s.named before has).block in
      let held : after ≡ before = same_told p1 key after before is (has_still p0 p1 key key before (ap (λ (p : PortState). p.card) same.2 ∙ s.reads) refl has) in
      let names_after : root_in (block_zero after) ≡ Ok s.root = ap (λ (card : CardState). root_in (block_zero card)) held ∙ names in
      let dir : ℕ = directory_at s.root.format in
      record {
        root = s.root;
        next = s.root;
        named = names;
        names = names_after;
        moved_is = s.moved_is;
        current = stayed_current s.root s.form s.moved_is;
        same = λ told dir_told.
            ap (directory_by keys (reads_of f1)) names_after
            ∙ ap (λ (x : FileState). unless_fault (directory_of (directory_key keys) x.reads s.root)) (same_files same.0 same.1 dir)
            ∙ sym (ap (directory_by keys (reads_of f0)) names);
      }
  settles_moves true s before after has is =
      let m = s.moves refl in
      let names = s.named before has in
      let seal = m.sealed before (between_has s.between before s.reads has) names.counted in
      let next : RootRef = moved_root s.root current_format in
      let names_after = sealed_names p1 key before after s.root next names.block (moved_form s.root s.form) seal is in
      let here : directory_at s.root.format ≡ old_directory_file = ap directory_at (moved_old s.root s.moved_is) in
      record {
        root = s.root;
        next = next;
        named = names.block;
        names = names_after;
        moved_is = s.moved_is;
        current = refl;
        same = λ told dir_told.
            let old_told : Told (f0 old_directory_file) (f1 old_directory_file) = subst (λ (n : ℕ). Told (f0 n) (f1 n)) here told in
            let found = m.copies.has old_told in
            let read : directory_of (directory_key keys) (f0 old_directory_file).reads s.root ≡ Ok found.0 =
            ap (λ (l : List ℕ). directory_of (directory_key keys) l s.root) (sym (looks_reads (f0 old_directory_file) (f1 old_directory_file) m.copies.between.old_looks old_told.1)) ∙ found.1 in
            let copied = copied_directory (directory_key keys) (f1 old_directory_file).reads (f1 directory_file).reads s.root next found.0 found.1 (m.copies.opens old_told dir_told.1 (directory_key keys)) in
            directory_is keys (store_of f1 after) next found.0 names_after copied
            ∙ sym (directory_is keys (store_of f0 before) s.root found.0 names.block (ap (λ (n : ℕ). directory_of (directory_key keys) (f0 n).reads s.root) here ∙ read));
      }

  pub settles_current : (moved : Bool) → Settles moved → NamesCurrent p1 keys
  settles_current false s card has =
      let same = s.stays refl in
      let was = has_still p1 p0 key key card (sym s.reads ∙ sym (ap (λ (p : PortState). p.card) same.2)) refl has in
      (s.root, (s.named card was).block, stayed_current s.root s.form s.moved_is)
  settles_current true s card has =
      let m = s.moves refl in
      let was = m.was card has in
      let names = s.named was.0 (before_has s.between was.0 s.reads was.1) in
      let next : RootRef = moved_root s.root current_format in
      (next, sealed_names p1 key was.0 card s.root next names.block (moved_form s.root s.form) (m.sealed was.0 was.1 names.counted) has, refl)

  pub settles_writes : (moved : Bool) → Settles moved → WritesOnceEach p0 p1 keys moved 0
  settles_writes false s before after has is =
      let same = s.stays refl in
      let held : after ≡ before = same_told p1 key after before is (has_still p0 p1 key key before (ap (λ (p : PortState). p.card) same.2 ∙ s.reads) refl has) in
      let counted : after.counter ≡ before.counter = ap (λ (card : CardState). card.counter) held in
      omega (arith, counted)
  settles_writes true s before after has is =
      let m = s.moves refl in
      let names = s.named before has in
      let seal = m.sealed before (between_has s.between before s.reads has) names.counted in
      let counted : after.counter ≡ seal.next.counter = ap (λ (card : CardState). card.counter) (same_told p1 key after seal.next is seal.has) in
      let one = seal.same.counter in
      omega (arith, counted, one)

  pub settles_counted : (moved : Bool) → Settles moved → p0.faults ≤ p1.faults
  settles_counted false s =
      let same = s.stays refl in
      let now : p1.faults ≡ s.between.faults = ap (λ (p : PortState). p.faults) same.2 in
      let was = s.passed in
      omega (arith, now, was)
  settles_counted true s =
      let counted = (s.moves refl).counted in
      let was = s.passed in
      omega (arith, counted, was)

  -- WHY IT IS GIVEN UP
  unread_refused : (drew draws : ℕ) (fault : MountFault) → RootRefused key p0 p1 drew draws fault → MigrationRefused f0 f1 p0 p1 keys drew draws fault
  unread_refused drew draws NoStore why = why
  unread_refused drew draws (CardBlock offset) why = why
  unread_refused drew draws (Directory fault) none = absurd none
  unread_refused drew draws (Frame fault) why = why
  unread_refused drew draws (CardResult result) why = why
  unread_refused drew draws (Failed (Fault Dir count)) none = absurd none
  unread_refused drew draws (Failed (Fault (File file) count)) none = absurd none
  unread_refused drew draws (Failed (Fault Card count)) rose = rose
  unread_refused drew draws (Failed (Fault Entropy count)) rose = rose
  unread_refused drew draws (Failed (FrameCause fault)) none = none
  unread_refused drew draws (Failed (ResultCause result)) none = none
  unread_refused drew draws Spent none = absurd none
  unread_refused drew draws NoMemory none = absurd none
  unread_refused drew draws (OldFormat file) none = none

  module _ (root : RootRef) (counter : ℕ) (mid : PortState) (old : root.format ≡ old_format) (reads : mid.card ≡ p0.card) (faults : mid.faults ≡ p0.faults)
      (named : (card : CardState) → HasCard p0 key card → Names card root counter) where
    no_card : NoCard mid key counter → NoCardOf p0 key
    no_card none card has = none card (between_has mid card reads has) (named card has).counted

    -- the card was not called since its block 0 was read
    names_still : p1 ≡ mid → (card : CardState) → HasCard p1 key card → Names card root counter
    names_still same card has = named card (before_has mid card reads (subst (λ (p : PortState). HasCard p key card) same has))

    unmoved_refused : (drew draws : ℕ) (fault : MountFault)
        → FilesNotMoved keys (f0 old_directory_file) (f1 old_directory_file) (f0 directory_file) (f1 directory_file) key mid p1 drew draws counter root fault
        → MigrationRefused f0 f1 p0 p1 keys drew draws fault
    unmoved_refused drew draws NoStore none = absurd none.1
    unmoved_refused drew draws (CardBlock offset) none = absurd none.1
    unmoved_refused drew draws (Directory fault) why = λ card has.
        let here : directory_at root.format ≡ old_directory_file = ap directory_at old in
        let names = (names_still why.0 card has).block in
        record {
          root = root;
          named = names;
          refused = λ told.
              ap (directory_by keys (reads_of f1)) names ∙ ap (λ (n : ℕ). unless_fault (directory_of (directory_key keys) (f1 n).reads root)) here
              ∙ ap unless_fault (why.1 (subst (λ (n : ℕ). Told (f0 n) (f1 n)) here told));
        }
    unmoved_refused drew draws (Frame fault) none = no_card none
    unmoved_refused drew draws (CardResult result) none = no_card none
    unmoved_refused drew draws (Failed (Fault Dir count)) why = why.1
    unmoved_refused drew draws (Failed (Fault (File file) count)) none = absurd none.1
    unmoved_refused drew draws (Failed (Fault Card count)) rose = (subst (λ (n : ℕ). Rose n p1.faults) faults rose.0, rose.1)
    unmoved_refused drew draws (Failed (Fault Entropy count)) rose = rose
    unmoved_refused drew draws (Failed (FrameCause fault)) none = none.1
    unmoved_refused drew draws (Failed (ResultCause result)) none = none.1
    unmoved_refused drew draws Spent why = λ card has.
        let names = names_still why.0 card has in
        record {
          spent = names.counted ∙ why.1;
          left = λ honest. (old_directory_file, old_directory keys (store_of f1 card) root names.block old);
        }
    unmoved_refused drew draws NoMemory any = tt
    unmoved_refused drew draws (OldFormat file) none = none.1

  pub stops_refused : (drew draws : ℕ) (fault : MountFault) → Stops drew draws fault → MigrationRefused f0 f1 p0 p1 keys drew draws fault
  stops_refused drew draws fault (unread old new card why) = unread_refused drew draws fault why
  stops_refused drew draws fault (unmoved root counter mid form old reads faults named stops) = unmoved_refused root counter mid old reads faults named drew draws fault stops.refused
