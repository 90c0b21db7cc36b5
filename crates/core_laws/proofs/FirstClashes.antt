-- Where no object in a file that is not honest is damaged as the phase opens, each event of a fair history is legal, or there is a first clash.
use Rattle.std.proofs.Common.{◌≡◌, ◌⊎◌, ℕ, List, [], ◌∷◌, ◌++◌, Option, Some, None, Contains, option_map, refl, sym, ap, ◌∙◌, subst, inl, inr, append_assoc, append-nil}
use Rattle.store_model.specs.Object.{object_at}
use Rattle.store_model.specs.Record.{Tag, file_of}
use Rattle.history_seats.specs.Directory.{given_version}
use Rattle.history_seats.specs.Mounts.{Entry}
use Rattle.history_seats.specs.Records.{HistoryRecord, Version}
use Rattle.core_laws.specs.TamperScenarios.{TamperScenario, object_under}
use Rattle.core_laws.specs.Stores.{Store, mounted_files, objects_under, replay_at, start_under}
use Rattle.core_laws.specs.Answered.{AreFair, AreLegalEach, AreOwnLegal, IsAnsweredAt, IsLegalAt, IsOwed}
use Rattle.core_laws.specs.Shown.{IsClashedAt, IsEndAt, IsGivenAt}
use Rattle.core_laws.specs.EndLaws.{FairHistoriesAreLegal, HasClashed, IsEndByClash, given_at}
use Rattle.core_laws.specs.TieLaws.{AreRising}
use Rattle.core_laws.specs.Undamaged.{AreUndamagedIn}
use Rattle.core_laws.proofs.InStep.{entry_object}
use Rattle.core_laws.proofs.Mending.{none_some, some_same}
use Rattle.core_laws.proofs.Narrowing.{answered_each, legal_each}
use Rattle.core_laws.proofs.Places.{each_snoc, not_empty}
use Rattle.core_laws.proofs.Undamaged.{undamaged_ends}
use Rattle.core_laws.proofs.Rising.{replay_state-rises}
use Rattle.core_laws.proofs.UndamagedReplays.{legal_histories_damage_none}

module _ (store : Store) (scenario : TamperScenario) where
  nothing_legal : AreLegalEach store scenario []
  nothing_legal [] r back e = absurd (not_empty r back e)
  nothing_legal (f ∷ front) r back e = absurd (not_empty f (front ++ r ∷ back) e)

  -- an event of a file that is not honest shows a clash
  record Clashes (front : List HistoryRecord) (r : HistoryRecord) : Type 0 where
    file : ℕ
    of_file : file_of r ≡ Some file
    not_honest : Contains scenario.tampered file
    shows : IsClashedAt store scenario front r ⊎ IsEndByClash store scenario front r

  -- what was given is of an object of the machine's, in the tag's file
  module _ (front : List HistoryRecord) (r : HistoryRecord) (g : IsGivenAt store scenario front r) where
    file_is : file_of r ≡ Some g.tag.file
    file_is = ap (option_map (λ (tag : Tag Version). tag.file)) g.tagged

    object_there : object_at (replay_at store scenario front).state.objects g.name ≡ Some (object_under store.keys scenario g.tag.file g.tag.generation g.version)
    object_there =
        entry_object store scenario front g.name g.entry g.version g.mapped g.named ((λ i. given_version store.mounted front (g.file i) (g.generation i)) ∙ g.gives)
        ∙ (λ i. Some (object_under store.keys scenario (g.file i) (g.generation i) g.version))

    file_there : (replay_at store scenario front).files g.name ≡ Some g.tag.file
    file_there = g.mapped.files g.name ∙ ap (option_map (λ (e : Entry). e.file)) g.named ∙ ap (λ (n : ℕ). Some n) g.file

  module _ (all : List HistoryRecord) (rising : AreRising store.objects) (fine : AreUndamagedIn scenario.tampered (mounted_files store.mounted) (objects_under store scenario)) (fair : AreFair store scenario all)
      (each : (file : ℕ) → Contains scenario.tampered file ⊎ AreOwnLegal store scenario file all) where
    undamaged_at : (front : List HistoryRecord) → AreLegalEach store scenario front
        → AreUndamagedIn scenario.tampered (replay_at store scenario front).files (replay_at store scenario front).state.objects
    undamaged_at front legal =
        legal_histories_damage_none scenario.tampered scenario.tampered (start_under store scenario) front refl (replay_state-rises store scenario [] rising) (legal_each store scenario front legal) fine

    ends_clash : (front : List HistoryRecord) (r : HistoryRecord) → AreLegalEach store scenario front → IsOwed scenario r → IsEndAt store scenario front r → IsEndByClash store scenario front r
    ends_clash front r legal owed x =
        let g : IsGivenAt store scenario front r = given_at x in
        undamaged_ends store scenario front r x
        (undamaged_at front legal g.name (object_under store.keys scenario g.tag.file g.tag.generation g.version) g.tag.file (object_there front r g) (file_there front r g) (owed g.tag.file (file_is front r g)))

    clashes : (front : List HistoryRecord) (r : HistoryRecord) → IsOwed scenario r → IsGivenAt store scenario front r → IsClashedAt store scenario front r ⊎ IsEndByClash store scenario front r → Clashes front r
    clashes front r owed g shows = record { file = g.tag.file; of_file = file_is front r g; not_honest = owed g.tag.file (file_is front r g); shows = shows }

    legal_or : (front : List HistoryRecord) (r : HistoryRecord) → AreLegalEach store scenario front → IsOwed scenario r → IsAnsweredAt store scenario front r ⊎ IsEndAt store scenario front r
        → IsLegalAt store scenario front r ⊎ Clashes front r
    legal_or front r before owed (inl (inl legal)) = inl legal
    legal_or front r before owed (inl (inr clash)) = inr (clashes front r owed clash.told.given (inl clash))
    legal_or front r before owed (inr ends) = inr (clashes front r owed (given_at ends) (inr (ends_clash front r before owed ends)))

    legal_next : (front : List HistoryRecord) (r : HistoryRecord) (back : List HistoryRecord) → front ++ r ∷ back ≡ all → AreLegalEach store scenario front
        → IsLegalAt store scenario front r ⊎ Clashes front r
    legal_next front r back e legal = by_file (file_of r) refl
      where
        by_owed : IsOwed scenario r → IsLegalAt store scenario front r ⊎ Clashes front r
        by_owed owed = legal_or front r legal owed (fair front r back e (answered_each store scenario front legal) owed)

        by_file : (o : Option ℕ) → file_of r ≡ o → IsLegalAt store scenario front r ⊎ Clashes front r
        by_file None is = by_owed (λ file names. absurd (none_some file (sym is ∙ names)))
        by_file (Some file) is = elim (each file) [
          | inl there ↦ by_owed (λ other names. subst (Contains scenario.tampered) (some_same file other (sym is ∙ names)) there)
          | inr own ↦ inl (own front r back e is (answered_each store scenario front legal))
        ]

    legal_rest : (front rest : List HistoryRecord) → front ++ rest ≡ all → AreLegalEach store scenario front → AreLegalEach store scenario all ⊎ HasClashed store scenario all
    legal_rest front [] e legal = inl (subst (AreLegalEach store scenario) (sym (append-nil front) ∙ e) legal)
    legal_rest front (r ∷ rest) e legal = elim (legal_next front r rest e legal) [
      | inl one ↦ legal_rest (front ++ r ∷ []) rest (append_assoc front (r ∷ []) rest ∙ e) (each_snoc (IsLegalAt store scenario) front r legal one)
      | inr clash ↦ inr (record {
        front = front;
        event = r;
        back = rest;
        is = e;
        legal = legal;
        file = clash.file;
        of_file = clash.of_file;
        not_honest = clash.not_honest;
        shows = clash.shows;
      })
    ]

pub legal_or_clashed : FairHistoriesAreLegal
legal_or_clashed store scenario all rising fine fair each = legal_rest store scenario all rising fine fair each [] all refl (nothing_legal store scenario)
