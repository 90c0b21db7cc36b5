-- The seal, the events and the drops keep what every step keeps.
use Rattle.std.proofs.Common.{◌≡◌, ◌≢◌, ◌⊎◌, ℕ, ◌+◌, List, [], ◌∷◌, ◌++◌, get_or, Option, Some, None, Ok, inl, inr, refl, sym, ◌∙◌, ap, subst}
use Rattle.std.specs.Prelude.{slice_set}
use Rattle.std.proofs.lemmas.Bool.{cases_eq}
use Rattle.disk_model.specs.State.{FileState}
use Rattle.node_image.specs.declared.node.RootRef.{RootRef}
use Rattle.tee_types.specs.Limits.{directory_file}
use Rattle.rpmb_card.specs.Card.{CardState}
use Rattle.tee_types.specs.declared.call.Call.{Call}
use Rattle.store_model.specs.declared.event.Event.{Event}
use Rattle.store_model.specs.declared.event.Event.TheVariants.{Call as CallEvent, Landed}
use Rattle.store_model.specs.declared.event.Mark.TheVariants.{Unchanged, Made, Doubtful}
use Rattle.store_model.specs.Record.{Record, Tag, file_of}
use Rattle.store_model.specs.Object.{Object, ObjectMap}
use Rattle.store_model.specs.Machine.{MachineState}
use Rattle.store_model.specs.Calls.{state_after}
use Rattle.store_model.specs.Doubt.{Doubt}
use Rattle.store_model.specs.ReplayState.{ReplayState, opening, replay, replay_after, replay_landed}
use Rattle.store_model.specs.Legal.{IsLegalEvent, IsLegalFrom}
use Rattle.store_model.specs.Laws.{UnchangedMapsStay}
use Rattle.store_model.specs.Makes.{CommitsMakeChanges}
use Rattle.dir_records.specs.declared.entry.DirEntry.{DirEntry}
use Rattle.crash_core.specs.CardBlock.{root_block, root_in}
use Rattle.crash_core.specs.DeviceKeys.{directory_key}
use Rattle.crash_core.specs.EntryLists.{AreDistinct, IsUnnamed}
use Rattle.crash_core.specs.declared.change.EntryChange.{EntryChange}
use Rattle.crash_core.specs.declared.change.EntryChange.TheVariants.{Clear, Put}
use Rattle.crash_core.specs.EntryChanges.{changed, file_put}
use Rattle.crash_core.specs.Mounting.{Held}
use Rattle.crash_core.specs.Sights.{Shows, Sight, sight_of}
use Rattle.crash_core.specs.CoreState.{Core, IsTrusted, PendingCommit, Phase, put, replay_state}
use Rattle.crash_core.specs.Seals.{IsSeal, PutShows, sealed_card}
use Rattle.crash_core.specs.Appends.{IsAppend, IsCommitted, IsDone, LeavesState, committed, freed, with_record}
use Rattle.crash_core.specs.Holding.{CardNames, DirectoryStands, Holds, PendingStands, SealedStands, held_at}
use Rattle.crash_core.proofs.CardBlocks.{root_in-block}
use Rattle.crash_core.proofs.ChangedMaps.{change_enters, made_leaves}
use Rattle.crash_core.proofs.Doubles.{directory_distinct}
use Rattle.crash_core.proofs.KeptByFiles.{unsealed}
use Rattle.crash_core.proofs.Legality.{doubt_next, legal_push, made_next, none_next, replay_push}
use Rattle.crash_core.proofs.Lists.{changed_held, entries_changed, put_each, put_else, put_here, set_at}
use Rattle.crash_core.proofs.SameDirectory.{directory_seen}
use Rattle.crash_core.proofs.Sightings.{settled_stands}

-- the map of a directory that stands may be named otherwise
named_so : (phase : Phase) (files : ℕ → FileState) (dir : RootRef) (entries : List (Option DirEntry)) (a b : ObjectMap) → a ≡ b → DirectoryStands phase files dir entries a
    → DirectoryStands phase files dir entries b
named_so phase files dir entries a b same d = subst (DirectoryStands phase files dir entries) same d

-- the names of entries that stand are distinct
pub stand_distinct : (phase : Phase) (files : ℕ → FileState) (dir : RootRef) (entries : List (Option DirEntry)) (objects : ObjectMap) → DirectoryStands phase files dir entries objects → AreDistinct entries
stand_distinct phase files dir entries objects d = directory_distinct entries d.sight.opened d.reads

-- the first block of a card that names a directory is set
pub first_set : (blocks : List (List ℕ)) (block : List ℕ) (root : RootRef) → root_in (get_or blocks 0 []) ≡ Ok root → get_or (slice_set blocks 0 block) 0 [] ≡ block
unfolding root_in
first_set [] block root names = absurd (cc (names))
first_set (b ∷ blocks) block root names = refl

module _ {Root : Type 0} (phase : Phase) (c : Core Root) (h : Holds phase c) where
  pub take_holds : (file actor : ℕ) → IsUnnamed c.entries file → Holds phase (record c { takes = put c.takes file (Some actor) })
  take_holds file actor unnamed = record {
    sound = h.sound;
    honest = h.honest;
    legal = h.legal;
    committed = h.committed;
    pending = h.pending;
    taken = λ k a. put_each (λ (n : ℕ) (o : Option ℕ). o ≡ Some a → IsUnnamed c.entries n) c.takes file (Some actor) k (λ _. unnamed) (h.taken k a);
  }

  pub drop_stage_holds : (file : ℕ) → Holds phase (record c { stages = put c.stages file None })
  drop_stage_holds file = record { sound = h.sound; honest = h.honest; legal = h.legal; committed = h.committed; taken = h.taken; pending = h.pending }

  pub drop_taking_holds : (file : ℕ) → Holds phase (record c { takes = put c.takes file None })
  drop_taking_holds file = record {
    sound = h.sound;
    honest = h.honest;
    legal = h.legal;
    committed = h.committed;
    pending = h.pending;
    taken = λ k a. put_each (λ (n : ℕ) (o : Option ℕ). o ≡ Some a → IsUnnamed c.entries n) c.takes file None k (λ none. absurd (cc (none))) (h.taken k a);
  }

  -- the commit that is pending is not sealed: the card names the committed directory
  still_names : (p : PendingCommit) → c.pending ≡ Some p → p.sealed ≡ None → CardNames c.card c.root (replay_state phase c).counter
  still_names p is none = unsealed phase c.files c.card c.root c.entries (replay_state phase c) c.pending
      (λ q other. let both : Some p ≡ Some q = sym is ∙ other in let same : p ≡ q = cc (both) in subst (λ (x : PendingCommit). x.sealed ≡ None) same none) h.pending

  pub drop_commit_holds : (p : PendingCommit) → c.pending ≡ Some p → p.sealed ≡ None → Holds phase (record c { pending = None })
  drop_commit_holds p is none = record {
    sound = h.sound;
    honest = h.honest;
    legal = h.legal;
    committed = h.committed;
    taken = h.taken;
    pending = still_names p is none;
  }

  -- THE SEAL
  -- what the changed entries hold stands in the files
  each_changed : (held : List (Option Held)) (change : EntryChange) (object : Object) → PutShows phase c.files change object
      → ((index : ℕ) (x : Held) → held_at held index ≡ Some x → IsTrusted phase x.entry.file → Shows phase.keys (c.files x.entry.file) x.entry x.object)
      → (index : ℕ) (x : Held) → held_at (changed_held held change object) index ≡ Some x → IsTrusted phase x.entry.file → Shows phase.keys (c.files x.entry.file) x.entry x.object
  each_changed held (Put k e) object shows each index x at trusted = elim (set_at held k index (Some (record { entry = e; object = object })) x at) [
    | inl new ↦
        let is : ◌≡◌ {A = Held} (record { entry = e; object = object }) x = cc (new) in
        subst (λ (y : Held). IsTrusted phase y.entry.file → Shows phase.keys (c.files y.entry.file) y.entry y.object) is shows trusted
    | inr old ↦ each index x old trusted
  ]
  each_changed held (Clear k) object shows each index x at trusted = elim (set_at held k index None x at) [
    | inl new ↦ absurd (cc (new))
    | inr old ↦ each index x old trusted
  ]

  -- the directory that is sealed stands, with the map that the machine leaves
  sealed_directory : CommitsMakeChanges → (p : PendingCommit) (dir : RootRef) → IsSeal phase c p dir → IsTrusted phase directory_file
      → DirectoryStands phase c.files dir (changed c.entries p.change) (state_after (replay_state phase c).state p.session p.call).objects
  sealed_directory commits p dir s trusted =
      let d : DirectoryStands phase c.files c.root c.entries ((replay_state phase c).state).objects = h.committed trusted in
      let key : List ℕ = directory_key phase.keys in
      let what : Sight = sight_of key (c.files directory_file).reads dir in
      let reads = directory_seen key (c.files directory_file).reads dir (changed c.entries p.change) (s.holds trusted) in
      let after : AreDistinct (changed c.entries p.change) = directory_distinct (changed c.entries p.change) what.opened reads in
      record {
        sight = what;
        own = settled_stands (c.files directory_file) key dir (h.sound directory_file) (h.honest directory_file trusted) (s.settled trusted) (s.form.version, s.current);
        reads = reads;
        held = changed_held d.held p.change s.object;
        holds = entries_changed d.held c.entries p.change s.object d.holds;
        each = each_changed d.held p.change s.object s.shows d.each;
        map_is =
            change_enters ((replay_state phase c).state).objects c.entries d.held d.holds d.map_is (stand_distinct phase c.files c.root c.entries _ d) c.card.counter s.made p.change s.object s.change after
            ∙ sym (made_leaves (replay_state phase c).state p.session commits p.call s.made s.due s.makes);
      }

  sealed_names : (p : PendingCommit) (dir : RootRef) → c.pending ≡ Some p → p.sealed ≡ None → IsSeal phase c p dir → CardNames (sealed_card c.card dir) dir ((replay_state phase c).counter + 1)
  sealed_names p dir is none s =
      let old = still_names p is none in
      record {
        names = ap root_in (first_set c.card.blocks (root_block dir) c.root old.names) ∙ root_in-block dir s.form;
        counted = ap (λ (n : ℕ). n + 1) old.counted;
      }

  pub seal_holds : CommitsMakeChanges → (p : PendingCommit) (dir : RootRef) → c.pending ≡ Some p → p.sealed ≡ None → IsSeal phase c p dir
      → Holds phase (record c { card = sealed_card c.card dir; pending = Some (record p { sealed = Some dir }) })
  seal_holds commits p dir is none s = record {
    sound = h.sound;
    honest = h.honest;
    legal = h.legal;
    committed = h.committed;
    taken = h.taken;
    pending = (sealed_names p dir is none s, sealed_directory commits p dir s);
  }

-- THE EVENTS
-- what a changed directory names, it named before, or the change puts it
unnamed_changed : (entries : List (Option DirEntry)) (change : EntryChange) (file : ℕ) → IsUnnamed entries file → (file_put change ≢ Some file) → IsUnnamed (changed entries change) file
unnamed_changed entries (Put k e) file was other index f at = elim (set_at entries k index (Some e) f at) [
  | inl new ↦ let is : e ≡ f = cc (new) in λ same. other (ap (λ (x : DirEntry). Some x.file) is ∙ ap (λ (n : ℕ). Some n) (sym same))
  | inr old ↦ was index f old
]
unnamed_changed entries (Clear k) file was other index f at = elim (set_at entries k index None f at) [
  | inl new ↦ absurd (cc (new))
  | inr old ↦ was index f old
]

-- what is taken after a commit, its change does not put
freed_other : (change : EntryChange) (takes : ℕ → Option ℕ) (file actor : ℕ) → freed change takes file ≡ Some actor → (file_put change ≢ Some file) × (takes file ≡ Some actor)
freed_other (Put k e) takes file actor taken = elim (cases_eq file e.file) [
  | inl is ↦ absurd (cc (taken, put_here takes e.file None file is))
  | inr other ↦ (λ same. let back : e.file ≡ file = cc (same) in other (sym back), sym (put_else takes e.file None file other) ∙ taken)
]
freed_other (Clear k) takes file actor taken = (λ same. cc (same), taken)

-- what stands of a pending commit where the history stands otherwise: the counter is the same, and the state where there is one
module _ (phase : Phase) (files : ℕ → FileState) (card : CardState) (root : RootRef) (entries : List (Option DirEntry)) (s t : ReplayState) (counter : t.counter ≡ s.counter) where
  names_so : (dir : RootRef) (more : ℕ) → CardNames card dir (s.counter + more) → CardNames card dir (t.counter + more)
  names_so dir more names = subst (λ (n : ℕ). CardNames card dir (n + more)) (sym counter) names

  names_same : (dir : RootRef) → CardNames card dir s.counter → CardNames card dir t.counter
  names_same dir names = subst (CardNames card dir) (sym counter) names

  sealed_so : (p : PendingCommit) (sealed : Option RootRef) → t.state ≡ s.state → SealedStands phase files card root entries s p sealed → SealedStands phase files card root entries t p sealed
  sealed_so p None state stands = names_same root stands
  sealed_so p (Some dir) state stands = (
    names_so dir 1 stands.0,
    λ trusted. named_so phase files dir (changed entries p.change) _ _ (ap (λ (m : MachineState). (state_after m p.session p.call).objects) (sym state)) (stands.1 trusted),
  )

  pending_so : (pending : Option PendingCommit) → ((pending ≡ None) ⊎ (t.state ≡ s.state)) → PendingStands phase files card root entries s pending → PendingStands phase files card root entries t pending
  pending_so None still stands = names_same root stands
  pending_so (Some p) (inl none) stands = absurd (cc (none))
  pending_so (Some p) (inr state) stands = sealed_so p p.sealed state stands

module _ {Root : Type 0} (quiet : UnchangedMapsStay) (phase : Phase) (c : Core Root) (h : Holds phase c) where
  module _ (r : Record Root) (legal : IsLegalEvent phase.tampered (replay_state phase c) r.event (file_of r)) where
    -- where the history stands after the record
    next : (d : Core Root) → d.history ≡ c.history → replay_state phase (with_record r d) ≡ replay_after (replay_state phase c) r.event (file_of r)
    next d same =
        ap (λ (l : List (Record Root)). replay (opening phase.begins) (l ++ r ∷ [])) same
        ∙ replay_push (opening phase.begins) c.history r

    legal_next : IsLegalFrom phase.tampered (opening phase.begins) (c.history ++ r ∷ [])
    legal_next = legal_push phase.tampered (opening phase.begins) c.history r h.legal legal

    -- the event leaves the directory, the map of objects and the counter
    same_holds : ((replay_after (replay_state phase c) r.event (file_of r)).state).objects ≡ ((replay_state phase c).state).objects
        → (replay_after (replay_state phase c) r.event (file_of r)).counter ≡ (replay_state phase c).counter → LeavesState phase c r → Holds phase (with_record r c)
    same_holds objects counter still =
        let here : replay_state phase (with_record r c) ≡ replay_after (replay_state phase c) r.event (file_of r) = next c refl in
        record {
          sound = h.sound;
          honest = h.honest;
          legal = legal_next;
          taken = h.taken;
          committed = λ trusted. named_so phase c.files c.root c.entries _ _ (sym (ap (λ (s : ReplayState). (s.state).objects) here ∙ objects)) (h.committed trusted);
          pending = subst (λ (s : ReplayState). PendingStands phase c.files c.card c.root c.entries s c.pending) (sym here)
              (pending_so phase c.files c.card c.root c.entries (replay_state phase c) (replay_after (replay_state phase c) r.event (file_of r)) counter c.pending still h.pending);
        }

    -- the sealed commit is committed
    committed_holds : (p : PendingCommit) (dir : RootRef) → c.pending ≡ Some p → p.sealed ≡ Some dir
        → ((replay_after (replay_state phase c) r.event (file_of r)).state).objects ≡ (state_after (replay_state phase c).state p.session p.call).objects
        → (replay_after (replay_state phase c) r.event (file_of r)).counter ≡ (replay_state phase c).counter + 1 → Holds phase (with_record r (committed c p dir))
    committed_holds p dir is sealed objects counter =
        let here : replay_state phase (with_record r (committed c p dir)) ≡ replay_after (replay_state phase c) r.event (file_of r) = next (committed c p dir) refl in
        let stands : SealedStands phase c.files c.card c.root c.entries (replay_state phase c) p (Some dir) =
        subst (SealedStands phase c.files c.card c.root c.entries (replay_state phase c) p) sealed
        (subst (PendingStands phase c.files c.card c.root c.entries (replay_state phase c)) is h.pending) in
        record {
          sound = h.sound;
          honest = h.honest;
          legal = legal_next;
          committed = λ trusted. named_so phase c.files dir (changed c.entries p.change) _ _ (sym (ap (λ (s : ReplayState). (s.state).objects) here ∙ objects)) (stands.1 trusted);
          pending = subst (CardNames c.card dir) (sym (ap (λ (s : ReplayState). s.counter) here ∙ counter)) stands.0;
          taken = λ file actor taken.
              let other = freed_other p.change c.takes file actor taken in
              unnamed_changed c.entries p.change file (h.taken file actor other.1) other.0;
        }

    -- the commit of that session and call is committed
    is_committed_holds : (session : ℕ) (call : Call) (done : Core Root) → IsCommitted c session call done
        → ((replay_after (replay_state phase c) r.event (file_of r)).state).objects ≡ (state_after (replay_state phase c).state session call).objects
        → (replay_after (replay_state phase c) r.event (file_of r)).counter ≡ (replay_state phase c).counter + 1 → Holds phase (with_record r done)
    is_committed_holds session call done made objects counter =
        let p = made.commit in
        let same : (state_after (replay_state phase c).state session call).objects ≡ (state_after (replay_state phase c).state p.session p.call).objects =
        ap (λ (s : ℕ). (state_after (replay_state phase c).state s call).objects) (sym made.of.session_is)
        ∙ ap (λ (x : Call). (state_after (replay_state phase c).state p.session x).objects) (sym made.of.call_is) in
        subst (λ (d : Core Root). Holds phase (with_record r d)) (sym made.next) (committed_holds p made.dir made.of.is made.sealed (objects ∙ same) counter)

  -- an open doubt is of the next number
  doubted : (d : Doubt) → (replay_state phase c).doubt ≡ Some d → d.commit ≡ (replay_state phase c).counter + 1
  doubted = doubt_next phase.tampered (opening phase.begins) c.history h.legal (none_next phase.begins.counter None refl)

  event_holds : (event : Event) (tag : Option (Tag Root)) (done : Core Root) → IsLegalEvent phase.tampered (replay_state phase c) event (file_of {Root = Root} (record { event = event; tag = tag }))
      → IsDone phase c (record { event = event; tag = tag }) event done → Holds phase (with_record (record { event = event; tag = tag }) done)
  event_holds (CallEvent session number call reply Unchanged) tag done legal is =
      let r : Record Root = record { event = CallEvent session number call reply Unchanged; tag = tag } in
      subst (λ (d : Core Root). Holds phase (with_record r d)) (sym is.0)
      (same_holds r legal (quiet phase.tampered (replay_state phase c) session call reply (file_of r) legal) refl is.1)
  event_holds (CallEvent session number call reply (Made commit)) tag done legal is =
      let r : Record Root = record { event = CallEvent session number call reply (Made commit); tag = tag } in
      is_committed_holds r legal session call done is refl (made_next phase.tampered (replay_state phase c) session call reply commit (file_of r) legal)
  event_holds (CallEvent session number call reply (Doubtful commit)) tag done legal is =
      let r : Record Root = record { event = CallEvent session number call reply (Doubtful commit); tag = tag } in
      subst (λ (d : Core Root). Holds phase (with_record r d)) (sym is.0) (same_holds r legal refl refl (inr refl))
  event_holds (Landed commit) tag done legal is =
      let doubt : Doubt = is.0 in
      let s : ReplayState = replay_state phase c in
      is_committed_holds (record { event = Landed commit; tag = tag }) legal doubt.session doubt.call done is.2
      (ap (λ (d : Option Doubt). ((replay_landed s d).state).objects) is.1)
      (ap (λ (d : Option Doubt). (replay_landed s d).counter) is.1 ∙ doubted doubt is.1)

  pub append_holds : (r : Record Root) (new : Core Root) → IsAppend phase c r new → Holds phase new
  append_holds r new step = subst (Holds phase) (sym step.is) (event_holds r.event r.tag step.done step.legal step.does)
