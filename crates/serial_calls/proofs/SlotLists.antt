-- The slots of the objects' files, once one of them changed.
use Rattle.std.proofs.Common.{◌≡◌, ◌≢◌, ◌+◌, ◌-◌, ◌<◌, ℕ, List, length, slice_index_or, sym, ap, ◌∙◌, subst, inl, inr}
use Rattle.std.specs.Prelude.{slice_set}
use Rattle.std.proofs.lemmas.Bool.{cases_eq}
use Rattle.std.proofs.lemmas.List.{get_or-set_other, get_or-set_same, length-set}
use Rattle.disk_model.specs.Calls.{GoesOn}
use Rattle.disk_model.specs.State.{FileState}
use Rattle.call_steps.specs.SlotValues.{SlotValue}
use Rattle.call_steps.specs.Devices.{file_in, no_slot}
use Rattle.call_steps.specs.Slots.{AreSlots}
use Rattle.call_steps.proofs.CountGrowth.{same_file_goes_on}

module _ (slots : List SlotValue) (place : ℕ) (new : SlotValue) (are : AreSlots slots) (within : place < length slots) where
  pub slots_after : new.number ≡ place + 1 → AreSlots (slice_set slots place new)
  slots_after number = record {
    many = length-set slots place new ∙ are.many;
    numbered = λ i d lt. elim (cases_eq i place) [
      | inl here ↦
          ap (λ (k : ℕ). (slice_index_or (slice_set slots place new) k d).number) here
          ∙ ap (λ (x : SlotValue). x.number) (get_or-set_same slots place new d within) ∙ number ∙ ap (λ (k : ℕ). k + 1) (sym here)
      | inr other ↦
          ap (λ (x : SlotValue). x.number) (get_or-set_other slots place i new d other)
          ∙ are.numbered i d (subst (λ (n : ℕ). i < n) (length-set slots place new) lt)
    ];
  }

  -- the file of that number is the new slot's, and every other one stays
  pub file_changed : (n : ℕ) → n - 1 ≡ place → file_in (slice_set slots place new) n ≡ new.file
  file_changed n here =
      ap (λ (k : ℕ). (slice_index_or (slice_set slots place new) k no_slot).file) here ∙ ap (λ (x : SlotValue). x.file) (get_or-set_same slots place new no_slot within)

  pub file_kept : (n : ℕ) → n - 1 ≢ place → file_in (slice_set slots place new) n ≡ file_in slots n
  file_kept n other = ap (λ (x : SlotValue). x.file) (get_or-set_other slots place (n - 1) new no_slot other)

  -- each file goes on, where the changed slot's does
  pub files_go_on : (old : SlotValue) → slice_index_or slots place no_slot ≡ old → GoesOn old.file new.file → (n : ℕ) → GoesOn (file_in slots n) (file_in (slice_set slots place new) n)
  files_go_on old is goes_on n = elim (cases_eq (n - 1) place) [
    | inl here ↦
        let was : file_in slots n ≡ old.file = ap (λ (k : ℕ). (slice_index_or slots k no_slot).file) here ∙ ap (λ (x : SlotValue). x.file) is in
        subst (λ (p : FileState × FileState). GoesOn p.0 p.1) (λ i. (sym was i, sym (file_changed n here) i)) goes_on
    | inr other ↦ same_file_goes_on (file_in slots n) (file_in (slice_set slots place new) n) (file_kept n other)
  ]
