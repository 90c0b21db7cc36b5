-- Files that come to their places, whichever of their slots is taken in first.
use Rattle.std.proofs.Common.{◌≡◌, ◌+◌, ◌-◌, ◌<◌, ◌≤◌, ◌*◌, ℕ, zero, suc, Bool, true, false, cond, List, [], ◌∷◌, ◌++◌, length, map, take, get_or, reverse, Option, Some, None, refl, sym, ap, ◌∙◌, subst, inl, inr, arith}
use Rattle.std.specs.Prelude.{All, Contains, IsSome, count_by, is_some, slice_set}
use Rattle.std.proofs.lemmas.Bool.{cases_Bool, cases_eq, cases_lt, false≢true}
use Rattle.std.proofs.lemmas.List.{get_or-set_other, get_or_past, length-set, length_push, map_push, nil_from_length, take_all, take_more}
use Rattle.std.proofs.lemmas.List.Sums.{count_by-le-length, sum_by-cons, sum_by-le, sum_by-set}
use Rattle.disk_model.specs.State.{FileState}
use Rattle.tee_types.specs.Limits.{IsObjectFile, last_file}
use Rattle.history_seats.specs.Numbers.{is_in, without}
use Rattle.history_seats.specs.Views.{GateView}
use Rattle.history_seats.proofs.Numbers.{stays_in}
use Rattle.core_laws.specs.Stores.{Store}
use Rattle.serial_calls.specs.GuardedSlots.{IsSlotOf}
use Rattle.serial_calls.specs.SlotValues.{SlotValue}
use Rattle.object_calls.specs.OpeningFiles.{files_of}
use Rattle.object_calls.specs.SlotPlaces.{AreFree, place_state}
use Rattle.object_calls.specs.Retiring.{AreObjectSlots, ArePlaced, AreRecorded, IsPlaced, IsRetired}
use Rattle.object_calls.proofs.Files.{files_else, files_here}
use Rattle.object_calls.proofs.Retirings.{IsSameHistory, recorded_back, retired_back, same_itself, same_then}
use Rattle.object_calls.proofs.Stacks.{all_left, last_left, last_of_all, left_of, rest_left, rest_of_all}

-- COUNTS
module _ {X : Type 0} (p : X → Bool) where
  abbrev once : X → ℕ
  once x = cond (p x) 1 0

  first_counts : (first : Bool) (count many : ℕ) → cond first 1 0 + count ≡ suc many → count ≤ many → (first ≡ true) × (count ≡ many)
  first_counts true count many e few = (refl, omega (arith, e))
  first_counts false count many e few = absurd (omega (arith, e, few))

  -- a test that as many elements pass as there are is passed by each
  pub all_pass : (xs : List X) → count_by p xs ≡ length xs → All (λ x. p x ≡ true) xs
  all_pass [] e k d within = absurd (omega (arith, within))
  all_pass (x ∷ xs) e zero d within =
      (first_counts (p x) (count_by p xs) (length xs) (sym (sum_by-cons once x xs) ∙ e) (count_by-le-length p xs)).0
  all_pass (x ∷ xs) e (suc k) d within =
      all_pass xs (first_counts (p x) (count_by p xs) (length xs) (sym (sum_by-cons once x xs) ∙ e) (count_by-le-length p xs)).1 k d (omega (arith, within))

-- THE PLACES
module _ {F : Type 0} (places : List (Option F)) where
  -- no place has a file
  module _ (free : All (λ place. place ≡ None) places) where
    free_at : (i : ℕ) → get_or places i None ≡ None
    free_at i = elim (cases_lt i (length places)) [
      | inl within ↦ free i None within
      | inr past ↦ get_or_past places i None past
    ]

    none_full : count_by is_some places ≡ 0
    none_full =
        let least : length places * 0 ≡ 0 = omega arith in
        omega (arith, least, sum_by-le (once is_some) 0 places (λ i d within. subst (λ (o : Option F). once is_some o ≤ 0) (sym (free i d within)) (omega arith)))

  -- a file comes to a place that has none
  one_full : (i : ℕ) (file : F) → i < length places → is_some (get_or places i None) ≡ false → count_by is_some (slice_set places i (Some file)) ≡ count_by is_some places + 1
  one_full i file within none =
      let least : once is_some (get_or places i None) ≡ 0 = ap {B = ℕ} (λ b. cond b 1 0) none in
      omega (arith, least, sum_by-set (once is_some) places i (Some file) None within)

-- THE SLOTS
stays_out : (n k : ℕ) (files : List ℕ) → is_in n files ≡ false → is_in n (without k files) ≡ false
stays_out n k files out = elim (cases_Bool (is_in n (without k files))) [
  | inl there ↦ absurd (false≢true (sym out ∙ stays_in n k files there))
  | inr gone ↦ gone
]

placed_of : (store : Store) (view : GateView) (slots : List SlotValue) (slot : SlotValue) → IsRetired store view slot → Contains slots slot → (n : ℕ) (left : FileState) → slot.number ≡ n
    → left ≡ slot.file → IsPlaced store view slots n left
placed_of store view slots slot r among n left number file = record {
  slot = slot;
  among = among;
  number = number;
  file = file;
  seat = r.seat;
  is = r.is;
  own = subst (λ (k : ℕ). IsSlotOf store k left r.seat) number (subst (λ (f : FileState). IsSlotOf store slot.number f r.seat) (sym file) r.own);
  fits = r.fits;
}

-- The last slots were taken in. Each of their files is at its place, and has no seat out.
pub record AreLastPlaced {F : Type 0} (store : Store) (state : F → FileState) (slots : List SlotValue) (view now : GateView) (left : List SlotValue) (places : List (Option F)) : Type 0 where
  pub same : IsSameHistory view now
  pub few : length left ≤ length slots
  pub left_are : left ≡ take (length left) slots
  pub many : length places ≡ last_file
  pub counted : count_by is_some places + length left ≡ length slots
  pub placed : (i : ℕ) → IsSome (get_or places i None)
      → IsPlaced store view slots (i + 1) (files_of (place_state state) places i) × (is_in (i + 1) now.files ≡ false)
  pub recorded : length left < length slots → AreRecorded view

module _ {F : Type 0} (store : Store) (state : F → FileState) (slots : List SlotValue) (view : GateView) where
  pub none_placed : (places : List (Option F)) → AreFree places → AreLastPlaced store state slots view view slots places
  none_placed places free = record {
    same = same_itself view;
    few = omega arith;
    left_are = sym (take_all (length slots) slots (omega arith));
    many = free.many;
    counted = omega (arith, none_full places free.none);
    placed = λ i some. absurd (false≢true (ap is_some (sym (free_at places free.none i)) ∙ some));
    recorded = λ fewer. absurd (omega (arith, fewer));
  }

  module _ (now : GateView) (left : List SlotValue) (places : List (Option F)) (s : AreLastPlaced store state slots view now left places) where
    -- the slot that comes is of a file of an object
    pub object_last : AreObjectSlots slots → 0 < length left → (slot : SlotValue) → slot ≡ get_or left (length left - 1) slot → IsObjectFile slot.number
    object_last objects some slot is =
        let within : length left - 1 < length slots = omega (arith, some, s.few) in
        subst (λ (x : SlotValue). IsObjectFile x.number) (sym (last_of_all slots left s.left_are slot some is)) (objects (length left - 1) slot within)

    pub one_placed : AreObjectSlots slots → 0 < length left → (after : GateView) (slot : SlotValue) (file : F) (left_after : List SlotValue) (places_after : List (Option F))
        → slot ≡ get_or left (length left - 1) slot → left_after ≡ take (length left - 1) left → places_after ≡ slice_set places (slot.number - 1) (Some file)
        → IsRetired store now slot → state file ≡ slot.file → is_in slot.number now.files ≡ true → after.files ≡ without slot.number now.files → is_in slot.number after.files ≡ false
        → AreRecorded now → IsSameHistory now after → AreLastPlaced store state slots view after left_after places_after
    one_placed objects some after slot file left_after places_after is left_is places_are r same_file was_out files gone recorded next =
        let last : slot ≡ get_or slots (length left - 1) slot = last_of_all slots left s.left_are slot some is in
        let within : length left - 1 < length slots = omega (arith, some, s.few) in
        let object : IsObjectFile slot.number = object_last objects some slot is in
        let place : slot.number ≡ (slot.number - 1) + 1 = omega (arith, object.0) in
        let there : slot.number - 1 < length places = omega (arith, object.0, object.1, s.many) in
        let left_now = rest_of_all slots left s.left_are left_after left_is in
        let count = one_full places (slot.number - 1) file there (vacant place was_out) in
        record {
          same = same_then view now after s.same next;
          few = omega (arith, left_now.0, s.few);
          left_are = left_now.1;
          many = ap length places_are ∙ length-set places (slot.number - 1) (Some file) ∙ s.many;
          counted = omega (arith, ap (count_by is_some) places_are, count, left_now.0, some, s.counted);
          placed = λ i full. subst
              (λ (l : List (Option F)). IsSome (get_or l i None) → IsPlaced store view slots (i + 1) (files_of (place_state state) l i) × (is_in (i + 1) after.files ≡ false)) (sym places_are)
              (at_place place there (placed_of store view slots slot (retired_back view now s.same store slot r) (length left - 1, within, sym last)) i) full;
          recorded = λ fewer. recorded_back view now s.same recorded;
        }
      where
        vacant : slot.number ≡ (slot.number - 1) + 1 → is_in slot.number now.files ≡ true → is_some (get_or places (slot.number - 1) None) ≡ false
        vacant place was_out = elim (cases_Bool (is_some (get_or places (slot.number - 1) None))) [
          | inl full ↦ absurd (false≢true (sym (s.placed (slot.number - 1) full).1 ∙ subst (λ (n : ℕ). is_in n now.files ≡ true) place was_out))
          | inr none ↦ none
        ]

        at_place : slot.number ≡ (slot.number - 1) + 1 → slot.number - 1 < length places → ((n : ℕ) (state_left : FileState) → slot.number ≡ n → state_left ≡ slot.file → IsPlaced store view slots n state_left)
            → (i : ℕ) → IsSome (get_or (slice_set places (slot.number - 1) (Some file)) i None)
            → IsPlaced store view slots (i + 1) (files_of (place_state state) (slice_set places (slot.number - 1) (Some file)) i) × (is_in (i + 1) after.files ≡ false)
        at_place place there own i full = elim (cases_eq i (slot.number - 1)) [
          | inl here ↦
              let number : slot.number ≡ i + 1 = omega (arith, place, here) in (
                own (i + 1) (files_of (place_state state) (slice_set places (slot.number - 1) (Some file)) i) number
                    (ap (files_of (place_state state) (slice_set places (slot.number - 1) (Some file))) here ∙ files_here (place_state state) places (slot.number - 1) (Some file) there ∙ same_file),
                subst (λ (n : ℕ). is_in n after.files ≡ false) number gone,
              )
          | inr other ↦
              let was = s.placed i (ap is_some (sym (get_or-set_other places (slot.number - 1) i (Some file) None other)) ∙ full) in (
                subst (IsPlaced store view slots (i + 1)) (sym (files_else (place_state state) places (slot.number - 1) i (Some file) other)) was.0,
                subst (λ (l : List ℕ). is_in (i + 1) l ≡ false) (sym files) (stays_out (i + 1) slot.number now.files was.1),
              )
        ]

  -- all slots were taken in
  pub all_placed : (now : GateView) (left : List SlotValue) (places : List (Option F)) → AreLastPlaced store state slots view now left places → length left ≡ 0 → length slots ≡ last_file
      → All (λ place. IsSome place) places × ArePlaced store view slots (place_state state) last_file places × AreRecorded view
  all_placed now left places s none many =
      let full : All (λ place. IsSome place) places = all_pass is_some places (omega (arith, s.counted, s.many, none, many)) in
      (full, λ i within. (s.placed i (full i None (omega (arith, within, s.many)))).0, s.recorded (omega (arith, none, many)))

-- THE FILES
-- The first files were taken out of their places.
pub record AreFirstTaken {F : Type 0} (places left : List (Option F)) (files : List F) : Type 0 where
  pub left_are : left ≡ left_of places (length files)
  pub taken : map (λ f. Some f) files ≡ take (length files) places

module _ {F : Type 0} (places : List (Option F)) where
  pub none_taken : (left : List (Option F)) (files : List F) → length files ≡ 0 → left ≡ reverse places → AreFirstTaken places left files
  none_taken left files none is = record {
    left_are = is ∙ all_left places ∙ ap (left_of places) (sym none);
    taken = ap (map (λ f. Some f)) (nil_from_length files none) ∙ ap (λ (n : ℕ). take n places) (sym none);
  }

  module _ (left : List (Option F)) (files : List F) (s : AreFirstTaken places left files) (more : length files < length places) (place : Option F) (last : place ≡ get_or left (length left - 1) place) where
    -- the place that comes
    next_place : place ≡ get_or places (length files) place
    next_place = last_left places left (length files) s.left_are place more last

    pub one_taken : (file : F) (left_after : List (Option F)) (files_after : List F) → place ≡ Some file → left_after ≡ take (length left - 1) left → files_after ≡ files ++ file ∷ []
        → AreFirstTaken places left_after files_after
    one_taken file left_after files_after is left_is files_are =
        let count : length files_after ≡ length files + 1 = ap length files_are ∙ length_push files file in
        record {
          left_are = left_is ∙ rest_left places left (length files) s.left_are more ∙ ap (left_of places) (sym count);
          taken = ap (map (λ f. Some f)) files_are ∙ map_push (λ f. Some f) files file
              ∙ (λ i. s.taken i ++ (sym is ∙ next_place) i ∷ [])
              ∙ sym (take_more places (length files) place more) ∙ ap (λ (n : ℕ). take n places) (sym count);
        }

-- what is known of files that were taken out of their places
files-taken : {F : Type 0} (state : F → FileState) (files : List F) (i : ℕ) → files_of (place_state state) (map (λ f. Some f) files) i ≡ files_of state files i
files-taken state [] i = refl
files-taken state (f ∷ files) zero = refl
files-taken state (f ∷ files) (suc i) = files-taken state files i

pub placed_taken : {F : Type 0} (store : Store) (view : GateView) (slots : List SlotValue) (state : F → FileState) (count : ℕ) (places : List (Option F)) (files : List F)
    → map (λ f. Some f) files ≡ places → ArePlaced store view slots (place_state state) count places → ArePlaced store view slots state count files
placed_taken store view slots state count places files are placed i within =
    subst (IsPlaced store view slots (i + 1)) (ap (λ (l : List _). files_of (place_state state) l i) (sym are) ∙ files-taken state files i) (placed i within)
