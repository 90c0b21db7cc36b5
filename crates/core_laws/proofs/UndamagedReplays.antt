-- A legal history damages no object of the files in question.
use Rattle.std.proofs.Common.{◌≡◌, ◌⊎◌, Contains, ℕ, Bool, true, false, true≢false, cond, not, List, [], ◌∷◌, filter, length, Option, Some, None, IsSome, is_some, inl, inr, refl, sym, ap, ◌∙◌, subst}
use Rattle.std.proofs.lemmas.Bool.{cond-false, cond-true}
use Rattle.std.specs.Option.{option_map}
use Rattle.tee_types.specs.declared.call.Call.{Call}
use Rattle.tee_types.specs.declared.call.Call.TheVariants.{Create, Delete, Rename, Truncate, Write}
use Rattle.store_model.specs.declared.event.Event.{Event}
use Rattle.store_model.specs.declared.event.Event.TheVariants.{Call as CallEvent, Landed}
use Rattle.store_model.specs.declared.event.Mark.TheVariants.{Doubtful, Made, Unchanged}
use Rattle.store_model.specs.declared.name.ObjectName.{ObjectName}
use Rattle.store_model.specs.declared.session.Handle.{Handle}
use Rattle.store_model.specs.Calls.{is_commit, reply_of, state_after}
use Rattle.store_model.specs.Data.{Range, bad_left, meets, range_resized, range_written}
use Rattle.store_model.specs.Doubt.{Doubt}
use Rattle.store_model.specs.Files.{FileMap, files_after, moved_by, moved_file, name_by, with_file, without_file}
use Rattle.store_model.specs.Legal.{IsLegalEvent, IsLegalFrom}
use Rattle.store_model.specs.Machine.{MachineState}
use Rattle.store_model.specs.Makes.{Change, MakesChange, MapChange, Move, Put, Remove, changed_map}
use Rattle.store_model.specs.Object.{Contents, Object, ObjectMap, Sound, holds, moved_object, object_at, with_object, without_object}
use Rattle.store_model.specs.Record.{file_of}
use Rattle.store_model.specs.ReplayState.{ReplayState, is_undone, keeps_doubt, replay, replay_after, replay_landed}
use Rattle.store_model.proofs.MadeChanges.{commits_make_changes}
use Rattle.store_model.proofs.MapLaws.{object_at-changed, object_at-with, object_at-without}
use Rattle.store_model.proofs.Maps.{at, moved_object-held}
use Rattle.store_model.proofs.QuietCalls.{unchanged_maps_stay}
use Rattle.history_seats.specs.Records.{HistoryRecord}
use Rattle.crash_core.proofs.Names.{alike_is}
use Rattle.core_laws.specs.TieLaws.{AreRising}
use Rattle.core_laws.specs.Undamaged.{AreUndamagedIn, IsUndamaged, LegalHistoriesDamageNone}
use Rattle.core_laws.proofs.DueEvents.{doubtful_due, made_due, undone-kept}
use Rattle.core_laws.proofs.Mending.{none_some, some_same}
use Rattle.core_laws.proofs.Rising.{risen}

-- which of two is taken
taken : {X : Type 0} (b : Bool) (o p : Option X) (x : X) → cond b o p ≡ Some x → ((b ≡ true) × (o ≡ Some x)) ⊎ ((b ≡ false) × (p ≡ Some x))
taken true o p x is = inl (refl, is)
taken false o p x is = inr (refl, is)

-- of no bad block none is left
none_left : (c : Contents) (range : Range) → c.bad ≡ [] → bad_left c range ≡ []
none_left c range none = ap (filter (λ k. not (meets range k))) none

module _ (numbers : List ℕ) where
  -- A commit.
  module _ (s : MachineState) (files : FileMap) (i : ℕ) (rising : AreRising s.objects) (fine : AreUndamagedIn numbers files s.objects) (file : Option ℕ) where
    put_fine : (name : ObjectName) (object : Object) → IsUndamaged object → AreUndamagedIn numbers (with_file files name file) (with_object s.objects name object)
    put_fine name object good q x f there named among = elim (taken (at name q) (Some object) (object_at s.objects q) x (sym (object_at-with s.objects name q object) ∙ there)) [
      | inl here ↦ subst IsUndamaged (some_same object x here.1) good
      | inr other ↦ fine q x f other.1 (sym (cond-false (at name q) file (files q) other.0) ∙ named) among
    ]

    change_fine : (name : ObjectName) (old new : Contents) → object_at s.objects name ≡ Some (Sound old) → (old.bad ≡ [] → new.bad ≡ []) → AreUndamagedIn numbers files (changed_map (Change name (Sound new)) s.objects)
    change_fine name old new was kept q x f there named among =
        elim (taken (at name q) (Some (Sound new)) (object_at s.objects q) x (sym (object_at-changed s.objects name q (Sound new) (subst (λ (o : Option Object). IsSome o) (sym was) refl)) ∙ there)) [
          | inl here ↦ subst IsUndamaged (some_same (Sound new) x here.1) (kept (fine name (Sound old) f was (ap files (alike_is name q here.0) ∙ named) among))
          | inr other ↦ fine q x f other.1 named among
        ]

    remove_fine : (name : ObjectName) → AreUndamagedIn numbers (with_file files name None) (without_object s.objects name)
    remove_fine name q x f there named among = elim (taken (at name q) None (object_at s.objects q) x (sym (object_at-without s.objects name q rising) ∙ there)) [
      | inl here ↦ absurd (none_some x here.1)
      | inr other ↦ fine q x f other.1 (sym (cond-false (at name q) None (files q) other.0) ∙ named) among
    ]

    move_fine : (old new : ObjectName) → holds s.objects new ≡ false → AreUndamagedIn numbers (moved_file files old new) (moved_object s.objects old new)
    move_fine old new free = by_object (object_at s.objects old) refl
      where
        -- the name is neither
        others : (q : ObjectName) (x : Object) (f : ℕ) → object_at s.objects q ≡ Some x → cond (at old q) None (files q) ≡ Some f → (at old q ≡ true → ⊥) → Contains numbers f → IsUndamaged x
        others q x f there named off among = elim (taken (at old q) None (files q) f named) [
          | inl gone ↦ absurd (off gone.0)
          | inr kept ↦ fine q x f there kept.1 among
        ]

        by_object : (o : Option Object) → object_at s.objects old ≡ o → AreUndamagedIn numbers (moved_file files old new) (moved_object s.objects old new)
        by_object None none q x f there named among = elim (taken (at new q) (files old) (cond (at old q) None (files q)) f named) [
          | inl here ↦ absurd (true≢false (sym (ap (λ (o : Option Object). is_some o) (ap (object_at s.objects) (alike_is new q here.0) ∙ there_now)) ∙ free))
          | inr other ↦ others q x f there_now other.1 (λ tied. none_some x (sym none ∙ ap (object_at s.objects) (alike_is old q tied) ∙ there_now)) among
        ]
          where
            there_now : object_at s.objects q ≡ Some x
            there_now = sym (ap (λ (m : ObjectMap). object_at m q) (ap (λ (o : Option Object). elim o as (λ _. ObjectMap) [ Some object ↦ with_object (without_object s.objects old) new object | None ↦ s.objects ]) none)) ∙ there
        by_object (Some y) is q x f there named among =
            let all : cond (at new q) (Some y) (object_at (without_object s.objects old) q) ≡ Some x =
            sym (object_at-with (without_object s.objects old) new q y) ∙ sym (ap (λ (m : ObjectMap). object_at m q) (moved_object-held s.objects old new y is)) ∙ there in
            elim (taken (at new q) (Some y) (object_at (without_object s.objects old) q) x all) [
              | inl here ↦ subst IsUndamaged (some_same y x here.1) (fine old y f is (sym (cond-true (at new q) (files old) (cond (at old q) None (files q)) here.0) ∙ named) among)
              | inr other ↦ elim (taken (at old q) None (object_at s.objects q) x (sym (object_at-without s.objects old q rising) ∙ other.1)) [
                | inl gone ↦ absurd (none_some x gone.1)
                | inr kept ↦ others q x f kept.1 (sym (cond-false (at new q) (files old) (cond (at old q) None (files q)) other.0) ∙ named) (λ tied. true≢false (sym tied ∙ kept.0)) among
              ]
            ]

    by_change : (call : Call) (change : MapChange) → MakesChange s i call change → AreUndamagedIn numbers (files_after files s i call file) (changed_map change s.objects)
    by_change (Create id flags attributes bytes) (Put name object) makes =
        subst (λ (n : ObjectName). AreUndamagedIn numbers (with_file files n file) (with_object s.objects name object)) makes.0
        (put_fine name object (subst IsUndamaged (sym makes.1) refl))
    by_change (Write number bytes) (Change name object) makes =
        subst (λ (o : Object). AreUndamagedIn numbers files (changed_map (Change name o) s.objects)) (sym makes.is)
        (change_fine name makes.old _ makes.was (none_left makes.old (range_written makes.old makes.handle.position (length bytes))))
    by_change (Truncate number size) (Change name object) makes =
        subst (λ (o : Object). AreUndamagedIn numbers files (changed_map (Change name o) s.objects)) (sym makes.is)
        (change_fine name makes.old _ makes.was (none_left makes.old (range_resized makes.old size)))
    by_change (Rename number id) (Move old new) makes =
        let named : name_by s i number ≡ Some old = ap (option_map (λ (h : Handle). h.name)) makes.0.live ∙ ap (λ (n : ObjectName). Some n) makes.0.named in
        subst (λ (p : Option ObjectName × ObjectName). AreUndamagedIn numbers (moved_by files p.0 p.1) (moved_object s.objects old new)) (λ j. (sym named j, makes.1 j))
        (move_fine old new makes.2)
    by_change (Delete number) (Remove name) makes =
        let named : name_by s i number ≡ Some name = ap (option_map (λ (h : Handle). h.name)) makes.live ∙ ap (λ (n : ObjectName). Some n) makes.named in
        subst (λ (o : Option ObjectName). AreUndamagedIn numbers (without_file files o) (without_object s.objects name)) (sym named) (remove_fine name)
    by_change call change makes = absurd makes

    committed_fine : (call : Call) → is_commit s i call (reply_of s i call) ≡ true → AreUndamagedIn numbers (files_after files s i call file) (state_after s i call).objects
    committed_fine call due =
        let made = commits_make_changes s i call due in
        subst (AreUndamagedIn numbers (files_after files s i call file)) (sym made.1.leaves) (by_change call made.0 made.1.makes)

  -- where the replay stands: so it is, and the commit in doubt is due
  record IsFine (s : ReplayState) : Type 0 where
    fine : AreUndamagedIn numbers s.files s.state.objects
    rising : AreRising s.state.objects
    due : (d : Doubt) → s.doubt ≡ Some d → is_commit s.state d.session d.call (reply_of s.state d.session d.call) ≡ true

  module _ (tampered : List ℕ) (s : ReplayState) (x : IsFine s) where
    landed_fine : (o : Option Doubt) → s.doubt ≡ o → AreUndamagedIn numbers (replay_landed s o).files (replay_landed s o).state.objects
    landed_fine None is = x.fine
    landed_fine (Some d) is = committed_fine s.state s.files d.session x.rising x.fine d.file d.call (x.due d is)

    fine_after : (event : Event) (file : Option ℕ) → IsLegalEvent tampered s event file → AreUndamagedIn numbers (replay_after s event file).files (replay_after s event file).state.objects
    fine_after (CallEvent session number call reply Unchanged) file legal =
        subst (AreUndamagedIn numbers s.files) (sym (unchanged_maps_stay tampered s session call reply file legal)) x.fine
    fine_after (CallEvent session number call reply (Made commit)) file legal =
        committed_fine s.state s.files session x.rising x.fine file call (made_due tampered s session call reply commit file legal.answer)
    fine_after (CallEvent session number call reply (Doubtful commit)) file legal = x.fine
    fine_after (Landed commit) file legal = landed_fine s.doubt refl

    abbrev IsDueIn : MachineState → Option Doubt → Type 0
    IsDueIn m o = (d : Doubt) → o ≡ Some d → is_commit m d.session d.call (reply_of m d.session d.call) ≡ true

    unchanged_due : (session : ℕ) (call : Call) (keeps undone : Bool) → (keeps ≡ true → undone ≡ true)
        → IsDueIn (elim undone as (λ _. MachineState) [ true ↦ s.state | false ↦ state_after s.state session call ]) (elim keeps as (λ _. Option Doubt) [ true ↦ s.doubt | false ↦ None ])
    unchanged_due session call true true h = x.due
    unchanged_due session call true false h = absurd (true≢false (sym (h refl)))
    unchanged_due session call false undone h = λ d is. absurd (none_some d is)

    landed_due : (o : Option Doubt) → s.doubt ≡ o → IsDueIn (replay_landed s o).state (replay_landed s o).doubt
    landed_due None is = x.due
    landed_due (Some doubt) is = λ d none. absurd (none_some d none)

    due_after : (event : Event) (file : Option ℕ) → IsLegalEvent tampered s event file → IsDueIn (replay_after s event file).state (replay_after s event file).doubt
    due_after (CallEvent session number call reply Unchanged) file legal = unchanged_due session call (keeps_doubt reply) (is_undone reply) (undone-kept reply)
    due_after (CallEvent session number call reply (Made commit)) file legal = λ d is. absurd (none_some d is)
    due_after (CallEvent session number call reply (Doubtful commit)) file legal = λ d is.
        let same : record { commit = commit; session = session; call = call; file = file } ≡ d = some_same _ d is in
        subst (λ (d : Doubt). is_commit s.state d.session d.call (reply_of s.state d.session d.call) ≡ true) same (doubtful_due tampered s session call reply commit file legal.answer)
    due_after (Landed commit) file legal = landed_due s.doubt refl

  replays_fine : (tampered : List ℕ) (s : ReplayState) (records : List HistoryRecord) → IsFine s → IsLegalFrom tampered s records
      → AreUndamagedIn numbers (replay s records).files (replay s records).state.objects
  replays_fine tampered s [] x legal = x.fine
  replays_fine tampered s (r ∷ records) x legal =
      replays_fine tampered (replay_after s r.event (file_of r)) records (record {
        fine = fine_after tampered s x r.event (file_of r) legal.0;
        rising = risen s r.event (file_of r) x.rising;
        due = due_after tampered s x r.event (file_of r) legal.0;
      }) legal.1

pub legal_histories_damage_none : LegalHistoriesDamageNone
legal_histories_damage_none tampered numbers s records calm rising legal fine =
    replays_fine numbers tampered s records (record { fine = fine; rising = rising; due = λ d is. absurd (none_some d (sym calm ∙ is)) }) legal
