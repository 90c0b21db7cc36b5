-- Files of a folder that are taken out of their places and put back.
use Rattle.std.proofs.Common.{◌≡◌, ◌≢◌, ◌∙◌, ◌+◌, ◌<◌, ◌≤◌, ℕ, zero, suc, List, [], ◌∷◌, length, get_or, refl, sym, ap, subst, inl, inr, arith}
use Rattle.std.specs.Prelude.{insert, remove, set}
use Rattle.std.proofs.lemmas.Bool.{cases_eq, cases_lt}
use Rattle.disk_model.specs.State.{FileState}
use Rattle.disk_model.specs.Calls.{Rests}
use Rattle.htree_file.specs.Answers.{FileFailed, FilePassed}
use Rattle.htree_file.proofs.Causes.{passed_none, rests_none}
use Rattle.tee_types.specs.Limits.{directory_file, file_count}
use Rattle.tee_types.proofs.FileNumbers.{directory_behind, directory_on_bench}
use Rattle.folder_export.specs.declared.fault.FilePlace.TheVariants.{Folder}
use Rattle.folder_export.specs.Folders.{states_of}
use Rattle.folder_audit.specs.Audit.{FailsAt, FolderStates, HavePassed, OnlyReads, folder_states, with_directory}

module _ {F : Type 0} (none : FileState) (state : F → FileState) where
  insert_before : (files : List F) (n k : ℕ) (f : F) → k < n → n ≤ length files → states_of none state (insert files n f) k ≡ states_of none state files k
  insert_before files zero k f low within = absurd (omega (arith, low))
  insert_before [] (suc n) k f low within = absurd (omega (arith, within))
  insert_before (x ∷ files) (suc n) zero f low within = refl
  insert_before (x ∷ files) (suc n) (suc k) f low within = insert_before files n k f (omega (arith, low)) (omega (arith, within))

  insert_here : (files : List F) (n : ℕ) (f : F) → n ≤ length files → states_of none state (insert files n f) n ≡ state f
  insert_here files zero f within = refl
  insert_here [] (suc n) f within = absurd (omega (arith, within))
  insert_here (x ∷ files) (suc n) f within = insert_here files n f (omega (arith, within))

  insert_behind : (files : List F) (n k : ℕ) (f : F) → n ≤ k → n ≤ length files → states_of none state (insert files n f) (suc k) ≡ states_of none state files k
  insert_behind files zero k f high within = refl
  insert_behind [] (suc n) k f high within = absurd (omega (arith, within))
  insert_behind (x ∷ files) (suc n) zero f high within = absurd (omega (arith, high))
  insert_behind (x ∷ files) (suc n) (suc k) f high within = insert_behind files n k f (omega (arith, high)) (omega (arith, within))

  remove_before : (files : List F) (n k : ℕ) → k < n → states_of none state (remove files n) k ≡ states_of none state files k
  remove_before files zero k low = absurd (omega (arith, low))
  remove_before [] (suc n) k low = refl
  remove_before (x ∷ files) (suc n) zero low = refl
  remove_before (x ∷ files) (suc n) (suc k) low = remove_before files n k (omega (arith, low))

  remove_behind : (files : List F) (n k : ℕ) → n ≤ k → states_of none state (remove files n) k ≡ states_of none state files (suc k)
  remove_behind [] zero k high = refl
  remove_behind [] (suc n) k high = refl
  remove_behind (x ∷ files) zero k high = refl
  remove_behind (x ∷ files) (suc n) zero high = absurd (omega (arith, high))
  remove_behind (x ∷ files) (suc n) (suc k) high = remove_behind files n k (omega (arith, high))

  state_at : (files : List F) (n : ℕ) (f : F) → n < length files → f ≡ get_or files n f → states_of none state files n ≡ state f
  state_at [] n f within is = absurd (omega (arith, within))
  state_at (x ∷ files) zero f within is = ap state (sym is)
  state_at (x ∷ files) (suc n) f within is = state_at files n f (omega (arith, within)) is

  set_here : (files : List F) (n : ℕ) (f : F) → n < length files → states_of none state (set files n f) n ≡ state f
  set_here [] n f within = absurd (omega (arith, within))
  set_here (x ∷ files) zero f within = refl
  set_here (x ∷ files) (suc n) f within = set_here files n f (omega (arith, within))

  set_other : (files : List F) (n k : ℕ) (f : F) → k ≢ n → states_of none state (set files n f) k ≡ states_of none state files k
  set_other [] n k f other = refl
  set_other (x ∷ files) zero zero f other = absurd (other refl)
  set_other (x ∷ files) zero (suc k) f other = refl
  set_other (x ∷ files) (suc n) zero f other = refl
  set_other (x ∷ files) (suc n) (suc k) f other = set_other files n k f (λ same. other (ap suc same))

  -- one that was put back at its place
  back_here : (files : List F) (n : ℕ) (f : F) → n ≤ length (remove files n) → states_of none state (insert (remove files n) n f) n ≡ state f
  back_here files n f within = insert_here (remove files n) n f within

  back_other : (files : List F) (n k : ℕ) (f : F) → n ≤ length (remove files n) → k ≢ n → states_of none state (insert (remove files n) n f) k ≡ states_of none state files k
  back_other files n k f within other = elim (cases_lt k n) [
    | inl low ↦ insert_before (remove files n) n k f low within ∙ remove_before files n k low
    | inr high ↦ behind k high other
  ]
    where
      behind : (k : ℕ) → n ≤ k → k ≢ n → states_of none state (insert (remove files n) n f) k ≡ states_of none state files k
      behind zero high other = absurd (omega (arith, high, other))
      behind (suc j) high other = insert_behind (remove files n) n j f (omega (arith, high, other)) within ∙ remove_behind files n j (omega (arith, high, other))

-- one that is put back as it was
pub back_same : {F : Type 0} (files : List F) (n : ℕ) (f : F) → n < length files → f ≡ get_or files n f → insert (remove files n) n f ≡ files
back_same [] n f within is = absurd (omega (arith, within))
back_same (x ∷ files) zero f within is = ap (λ y. y ∷ files) is
back_same (x ∷ files) (suc n) f within is = ap (λ l. x ∷ l) (back_same files n f (omega (arith, within)) is)

-- ONE FILE
-- Of all files at most that of a number is another: from a to b that one.
pub record TouchesOne (old new : FolderStates) (n : ℕ) (a b : FileState) : Type 0 where
  pub old_is : (none : FileState) → old none n ≡ a
  pub new_is : (none : FileState) → new none n ≡ b
  pub others : (none : FileState) (k : ℕ) → k ≢ n → new none k ≡ old none k

module _ (old new : FolderStates) (n : ℕ) (a b : FileState) (one : TouchesOne old new n a b) where
  pub but_one : (R : FileState → FileState → Type 0) → ((s : FileState) → R s s) → (none : FileState) (k : ℕ) → k ≢ n → R (old none k) (new none k)
  but_one R same none k other = subst (R (old none k)) (sym (one.others none k other)) (same (old none k))

  all_of : (R : FileState → FileState → Type 0) → ((s : FileState) → R s s) → R a b → (none : FileState) (k : ℕ) → R (old none k) (new none k)
  all_of R same own none k = elim (cases_eq k n) [
    | inl is ↦ subst (λ (j : ℕ). R (old none j) (new none j)) (sym is) (subst (λ (s : FileState). R s (new none n)) (sym (one.old_is none)) (subst (R a) (sym (one.new_is none)) own))
    | inr other ↦ but_one R same none k other
  ]

  pub one_rest : Rests a b → OnlyReads old new
  one_rest own none k = all_of Rests rests_none own none k

  pub one_passed : FilePassed a b → HavePassed old new
  one_passed own none k = all_of FilePassed passed_none own none k

  -- a call of it failed
  pub one_failed : (count : ℕ) → FileFailed a b count → FailsAt old new (record { place = Folder n; count = count })
  one_failed count failed = record {
    number = n;
    place = refl;
    failed = λ none. subst (λ (s : FileState). FileFailed s (new none n) count) (sym (one.old_is none)) (subst (λ (s : FileState). FileFailed a s count) (sym (one.new_is none)) failed);
    others = λ none k other. but_one FilePassed passed_none none k other;
  }

-- the directory's alone
pub touches_directory : {F : Type 0} (state : F → FileState) (files : List F) (dir next : F) → length files ≡ file_count
    → TouchesOne (folder_states state (with_directory files dir)) (folder_states state (with_directory files next)) directory_file (state dir) (state next)
touches_directory state files dir next many = record {
  old_is = λ none. insert_here none state files directory_file dir room;
  new_is = λ none. insert_here none state files directory_file next room;
  others = λ none k other. elim (cases_lt k directory_file) [
    | inl low ↦ insert_before none state files directory_file k next low room ∙ sym (insert_before none state files directory_file k dir low room)
    | inr high ↦ behind none k high other
  ];
}
  where
    room : directory_file ≤ length files
    room = omega (arith, directory_behind, many)

    behind : (none : FileState) (k : ℕ) → directory_file ≤ k → k ≢ directory_file → states_of none state (with_directory files next) k ≡ states_of none state (with_directory files dir) k
    behind none zero high other = absurd (omega (arith, high, directory_behind))
    behind none (suc j) high other =
        insert_behind none state files directory_file j next (omega (arith, high, other)) room ∙ sym (insert_behind none state files directory_file j dir (omega (arith, high, other)) room)

pub directory_last : (old new : FolderStates) (a b : FileState) → TouchesOne old new directory_file a b → (none : FileState) → new none file_count ≡ old none file_count
directory_last old new a b one none = one.others none file_count (λ is. absurd (omega (arith, is, directory_on_bench)))

-- one that is set at its place
pub touches_set : {F : Type 0} (state : F → FileState) (files : List F) (n : ℕ) (file next : F) → n < length files → file ≡ get_or files n file
    → TouchesOne (folder_states state files) (folder_states state (set files n next)) n (state file) (state next)
touches_set state files n file next within is = record {
  old_is = λ none. state_at none state files n file within is;
  new_is = λ none. set_here none state files n next within;
  others = λ none k other. set_other none state files n k next other;
}

-- the directory's file, which was taken out of its place, and is put back
pub directory_number : directory_file ≡ 273
unfolding directory_file
directory_number = refl

pub taken_directory : {F : Type 0} (files rest : List F) (dir : F) → 273 < length files → dir ≡ get_or files 273 dir → rest ≡ remove files 273 → with_directory rest dir ≡ files
taken_directory {F} files rest dir within is removed =
    ap (λ (l : List F). insert l directory_file dir) removed ∙ ap (λ (k : ℕ). insert (remove files 273) k dir) directory_number ∙ back_same files 273 dir within is

pub put_directory : {F : Type 0} (files after : List F) (dir : F) → after ≡ insert files 273 dir → with_directory files dir ≡ after
put_directory files after dir is = ap (λ (k : ℕ). insert files k dir) directory_number ∙ sym is

-- TWO FILES
-- Of all files at most that of a number and the directory's are others: from a to b the directory's, from x to y that one.
pub record TouchesTwo (old new : FolderStates) (n : ℕ) (a b x y : FileState) : Type 0 where
  pub dir_old : (none : FileState) → old none directory_file ≡ a
  pub dir_new : (none : FileState) → new none directory_file ≡ b
  pub old_is : (none : FileState) → old none n ≡ x
  pub new_is : (none : FileState) → new none n ≡ y
  pub others : (none : FileState) (k : ℕ) → k ≢ n → k ≢ directory_file → new none k ≡ old none k

module _ {F : Type 0} (state : F → FileState) (files rest after : List F) (dir next file back : F) (n : ℕ) (low : n < directory_file) (many : length files ≡ file_count)
    (many_after : length after ≡ file_count) (fewer : length rest + 1 ≡ length files) (rest_is : rest ≡ remove files n) (taken : file ≡ get_or files n file) (after_is : after ≡ insert rest n back) where
  room : directory_file ≤ length files
  room = omega (arith, directory_behind, many)

  within : n ≤ length (remove files n)
  within = omega (arith, low, directory_behind, fewer, many, ap length rest_is)

  put : after ≡ insert (remove files n) n back
  put = after_is ∙ ap (λ (l : List F). insert l n back) rest_is

  room_after : directory_file ≤ length after
  room_after = omega (arith, directory_behind, many_after)

  abbrev pub old_states : FolderStates
  old_states = folder_states state (with_directory files dir)

  abbrev pub new_states : FolderStates
  new_states = folder_states state (with_directory after next)

  other : (none : FileState) (k : ℕ) → k ≢ n → k ≢ directory_file → new_states none k ≡ old_states none k
  other none k not_n not_dir = elim (cases_lt k directory_file) [
    | inl below ↦
        insert_before none state after directory_file k next below room_after
        ∙ ap (λ (l : List F). states_of none state l k) put ∙ back_other none state files n k back within not_n
        ∙ sym (insert_before none state files directory_file k dir below room)
    | inr above ↦ behind k above not_n not_dir
  ]
    where
      behind : (k : ℕ) → directory_file ≤ k → k ≢ n → k ≢ directory_file → new_states none k ≡ old_states none k
      behind zero above not_n not_dir = absurd (omega (arith, above, low))
      behind (suc j) above not_n not_dir =
          insert_behind none state after directory_file j next (omega (arith, above, not_dir)) room_after
          ∙ ap (λ (l : List F). states_of none state l j) put ∙ back_other none state files n j back within (λ same. absurd (omega (arith, above, not_dir, same, low)))
          ∙ sym (insert_behind none state files directory_file j dir (omega (arith, above, not_dir)) room)

  pub touches : TouchesTwo old_states new_states n (state dir) (state next) (state file) (state back)
  touches = record {
    dir_old = λ none. insert_here none state files directory_file dir room;
    dir_new = λ none. insert_here none state after directory_file next room_after;
    old_is = λ none. insert_before none state files directory_file n dir low room ∙ state_at none state files n file (omega (arith, low, room)) taken;
    new_is = λ none. insert_before none state after directory_file n next low room_after ∙ ap (λ (l : List F). states_of none state l n) put ∙ back_here none state files n back within;
    others = other;
  }

module _ (old new : FolderStates) (n : ℕ) (a b x y : FileState) (two : TouchesTwo old new n a b x y) where
  -- what holds of both files holds of all
  both : (R : FileState → FileState → Type 0) → ((s : FileState) → R s s) → R a b → R x y → (none : FileState) (k : ℕ) → R (old none k) (new none k)
  both R same dir file none k = elim (cases_eq k directory_file) [
    | inl is ↦ subst (λ (j : ℕ). R (old none j) (new none j)) (sym is) (subst (λ (s : FileState). R s (new none directory_file)) (sym (two.dir_old none)) (subst (R a) (sym (two.dir_new none)) dir))
    | inr not_dir ↦ elim (cases_eq k n) [
      | inl is ↦ subst (λ (j : ℕ). R (old none j) (new none j)) (sym is) (subst (λ (s : FileState). R s (new none n)) (sym (two.old_is none)) (subst (R x) (sym (two.new_is none)) file))
      | inr not_n ↦ subst (R (old none k)) (sym (two.others none k not_n not_dir)) (same (old none k))
    ]
  ]

  pub two_rest : Rests a b → Rests x y → OnlyReads old new
  two_rest dir file none k = both Rests rests_none dir file none k

  pub two_passed : FilePassed a b → FilePassed x y → HavePassed old new
  two_passed dir file none k = both FilePassed passed_none dir file none k

  -- what holds of one, where the other passed
  pub but_directory : FilePassed x y → (none : FileState) (k : ℕ) → k ≢ directory_file → FilePassed (old none k) (new none k)
  but_directory file none k not_dir = elim (cases_eq k n) [
    | inl is ↦ subst (λ (j : ℕ). FilePassed (old none j) (new none j)) (sym is) (subst (λ (s : FileState). FilePassed s (new none n)) (sym (two.old_is none)) (subst (FilePassed x) (sym (two.new_is none)) file))
    | inr not_n ↦ subst (FilePassed (old none k)) (sym (two.others none k not_n not_dir)) (passed_none (old none k))
  ]

  pub but_file : FilePassed a b → (none : FileState) (k : ℕ) → k ≢ n → FilePassed (old none k) (new none k)
  but_file dir none k not_n = elim (cases_eq k directory_file) [
    | inl is ↦ subst (λ (j : ℕ). FilePassed (old none j) (new none j)) (sym is) (subst (λ (s : FileState). FilePassed s (new none directory_file)) (sym (two.dir_old none)) (subst (FilePassed a) (sym (two.dir_new none)) dir))
    | inr not_dir ↦ subst (FilePassed (old none k)) (sym (two.others none k not_n not_dir)) (passed_none (old none k))
  ]

  -- the last file stays
  pub two_last : n < directory_file → (none : FileState) → new none file_count ≡ old none file_count
  two_last low none = two.others none file_count (λ is. absurd (omega (arith, is, low, directory_on_bench))) (λ is. absurd (omega (arith, is, directory_on_bench)))
