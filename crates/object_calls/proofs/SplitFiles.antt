-- Slots are made of the files, one after the other.
use Rattle.std.proofs.Common.{◌≡◌, ◌+◌, ◌-◌, ◌<◌, ℕ, List, [], ◌∷◌, ◌++◌, length, take, get_or, reverse, Option, slice_index_or, sym, ap, ◌∙◌, subst, inl, inr, arith}
use Rattle.std.proofs.lemmas.Bool.{cases_lt}
use Rattle.std.proofs.lemmas.List.{get_or_append_left, get_or_push, length-append}
use Rattle.disk_model.specs.State.{FileState}
use Rattle.dir_records.specs.declared.entry.DirEntry.{DirEntry}
use Rattle.history_seats.specs.Views.{GateView}
use Rattle.core_laws.specs.Stores.{Store}
use Rattle.serial_calls.specs.SlotValues.{SlotValue}
use Rattle.serial_calls.specs.GuardedSlots.{SlotInvariant}
use Rattle.serial_calls.specs.FirstSlots.{first_slot}
use Rattle.object_calls.specs.Generations.{generation_in}
use Rattle.object_calls.specs.OpeningFiles.{files_of}
use Rattle.object_calls.specs.Seats.{HasTold}
use Rattle.object_calls.specs.Services.{AreFirstSlots, MayBeFirst, slot_for}
use Rattle.object_calls.proofs.Files.{files_get}
use Rattle.object_calls.proofs.Stacks.{all_left, last_left, left_of, rest_left}

-- the slots of the first files are made, and the other files are left
pub record IsSplitTo {F : Type 0} (store : Store) (entries : List (Option DirEntry)) (state : F → FileState) (files : List F) (view : GateView) (slots : List SlotValue) (left : List F) : Type 0 where
  pub slots_are : AreFirstSlots store entries state files (length slots) slots
  pub left_are : left ≡ left_of files (length slots)
  pub told : 0 < length slots → HasTold store view 0

module _ {F : Type 0} (store : Store) (entries : List (Option DirEntry)) (state : F → FileState) (files : List F) where
  pub none_split : (view : GateView) (slots : List SlotValue) (left : List F) → length slots ≡ 0 → left ≡ reverse files → IsSplitTo store entries state files view slots left
  none_split view slots left none is = record {
    slots_are = λ i d within. absurd (omega (arith, within, none));
    left_are = is ∙ all_left files ∙ ap (left_of files) (sym none);
    told = λ some. absurd (omega (arith, some, none));
  }

  module _ (view : GateView) (slots : List SlotValue) (left : List F) (s : IsSplitTo store entries state files view slots left) (more : length slots < length files) where
    -- the file that comes
    pub file_next : (file : F) → file ≡ get_or left (length left - 1) file → files_of state files (length slots) ≡ state file
    file_next file is = files_get state files (length slots) file more (last_left files left (length slots) s.left_are file more is)

    pub may_be_next : MayBeFirst store entries state files → (file : F) (number : ℕ) → number ≡ length slots + 1 → file ≡ get_or left (length left - 1) file
        → SlotInvariant store (first_slot store number (generation_in entries number) (state file))
    may_be_next may file number is last =
        subst (λ (n : ℕ). SlotInvariant store (first_slot store n (generation_in entries n) (state file))) (sym is)
        (subst (λ (f : FileState). SlotInvariant store (first_slot store (length slots + 1) (generation_in entries (length slots + 1)) f)) (file_next file last) (may (length slots) more))

    pub one_split : (after : GateView) (file : F) (number : ℕ) (slot : SlotValue) (slots_after : List SlotValue) (left_after : List F) → number ≡ length slots + 1
        → file ≡ get_or left (length left - 1) file → slot ≡ first_slot store number (generation_in entries number) (state file) → slots_after ≡ slots ++ slot ∷ []
        → left_after ≡ take (length left - 1) left → HasTold store after 0 → IsSplitTo store entries state files after slots_after left_after
    one_split after file number slot slots_after left_after is last slot_is slots_are left_are told =
        let count : length slots_after ≡ length slots + 1 = ap length slots_are ∙ length-append slots (slot ∷ []) in
        let here : slot ≡ slot_for store entries state files (length slots) =
        slot_is ∙ ap (λ (n : ℕ). first_slot store n (generation_in entries n) (state file)) is
        ∙ ap (λ (f : FileState). first_slot store (length slots + 1) (generation_in entries (length slots + 1)) f) (sym (file_next file last)) in
        record {
          slots_are = λ i d within. ap (λ (l : List SlotValue). slice_index_or l i d) slots_are ∙ at_place i d slot here (omega (arith, within, count));
          left_are = left_are ∙ rest_left files left (length slots) s.left_are more ∙ ap (left_of files) (sym count);
          told = λ some. told;
        }
      where
        at_place : (i : ℕ) (d slot : SlotValue) → slot ≡ slot_for store entries state files (length slots) → i < length slots + 1
            → slice_index_or (slots ++ slot ∷ []) i d ≡ slot_for store entries state files i
        at_place i d slot here within = elim (cases_lt i (length slots)) [
          | inl before ↦ get_or_append_left slots (slot ∷ []) d i before ∙ s.slots_are i d before
          | inr last ↦
              let same : length slots ≡ i = omega (arith, within, last) in
              get_or_push slots slot d i same ∙ here ∙ ap (slot_for store entries state files) same
        ]
