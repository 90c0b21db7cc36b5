-- The files that are held while one session creates an object, and behind it.
use Rattle.std.proofs.Common.{◌≡◌, ◌<◌, ◌≤◌, ◌==◌, ℕ, Bool, true, false, List, None, Option, Some, length, refl, sym, ap, ◌∙◌, subst, inl, inr, if◌then◌else◌}
use Rattle.std.specs.Prelude.{slice_set}
use Rattle.std.proofs.lemmas.Bool.{cases_eq, cases_lt}
use Rattle.std.proofs.lemmas.List.{get_or-set_other, get_or-set_same, get_or_past, length-set}
use Rattle.crash_core.specs.EntryChanges.{file_put}
use Rattle.serial_calls.specs.FileReserving.{given_back, holds_left}
use Rattle.call_steps.specs.GuardedGates.{GuardedGateValue}
use Rattle.call_steps.specs.Gates.{LeavesHolds, doubt_left, file_in_doubt}
use Rattle.call_steps.specs.Holds.{EndsHold, file_held, unless_file}
use Rattle.call_steps.specs.declared.CommitEnd.{CommitEnd}
use Rattle.call_steps.specs.declared.CommitEnd.TheVariants.{Doubtful, Dropped, Made, Spent}
use Rattle.call_steps.specs.declared.EntryChange.{EntryChange}
use Rattle.call_steps.specs.declared.DoubtedChange.{DoubtedChange}
use Rattle.serial_calls.specs.HeldFiles.{HoldsForDoubt}
use Rattle.serial_calls.proofs.CommittedCalls.{none_some, not_some}

-- that session holds that file, and no other session holds one
pub record IsHeldAlone (session file : ℕ) (holds : List (Option ℕ)) : Type 0 where
  pub within : session < length holds
  pub only : (s f : ℕ) → file_held holds s ≡ Some f → (s ≡ session) × (f ≡ file)

some_none : (d : DoubtedChange) → None ≡ Some d → ⊥
some_none d e = cc

same_some : (a b : ℕ) → Some a ≡ Some b → b ≡ a
same_some a b e = cc

-- what is read behind the end is nothing
within_of : (holds : List (Option ℕ)) (session file : ℕ) → file_held holds session ≡ Some file → session < length holds
within_of holds session file is = elim (cases_lt session (length holds)) [
  | inl lt ↦ lt
  | inr ge ↦ absurd (none_some file (sym (get_or_past holds session None ge) ∙ is))
]

pub reserved_alone : (holds : List (Option ℕ)) (session file : ℕ) → ((s : ℕ) → file_held holds s ≡ None) → file_held (slice_set holds session (Some file)) session ≡ Some file
    → IsHeldAlone session file (slice_set holds session (Some file))
reserved_alone holds session file none held = record {
  within = within_of (slice_set holds session (Some file)) session file held;
  only = λ s f is. elim (cases_eq s session) [
    | inl here ↦ (here, same_some file f (sym held ∙ ap (file_held (slice_set holds session (Some file))) (sym here) ∙ is))
    | inr other ↦ absurd (none_some f (sym (get_or-set_other holds session s (Some file) None other ∙ none s) ∙ is))
  ];
}

of_if : (b : Bool) (held f : ℕ) → (if b then None else Some held) ≡ Some f → Some held ≡ Some f
of_if true held f is = absurd (none_some f is)
of_if false held f is = is

of_unless : (file : ℕ) (held : Option ℕ) (f : ℕ) → unless_file file held ≡ Some f → held ≡ Some f
of_unless file None f is = absurd (none_some f is)
of_unless file (Some held) f is = of_if (held == file) held f is

module _ (session file : ℕ) where
  -- no hold is new
  abbrev AreOld : (old new : List (Option ℕ)) → Type 0
  AreOld old new = (s f : ℕ) → file_held new s ≡ Some f → file_held old s ≡ Some f

  old_without : (put : Option ℕ) (old new : List (Option ℕ)) → EndsHold put old new → AreOld old new
  old_without None old new ends s f is = ap (λ (l : List (Option ℕ)). file_held l s) (sym ends) ∙ is
  old_without (Some put) old new ends s f is = of_unless put (file_held old s) f (sym (ends s) ∙ is)

  same_old : (old new : List (Option ℕ)) → new ≡ old → AreOld old new
  same_old old new same s f is = ap (λ (l : List (Option ℕ)). file_held l s) (sym same) ∙ is

  left_old : (change : EntryChange) (end : CommitEnd) (old new : List (Option ℕ)) → LeavesHolds change end old new → AreOld old new
  left_old change (Made n) old new leaves = old_without (file_put change) old new leaves
  left_old change (Dropped cause) old new leaves = same_old old new leaves
  left_old change (Doubtful n cause) old new leaves = same_old old new leaves
  left_old change Spent old new leaves = same_old old new leaves

  -- once the session's own hold ended, too
  none_given : (old holds : List (Option ℕ)) → IsHeldAlone session file old → AreOld old holds → (s : ℕ) → file_held (slice_set holds session None) s ≡ None
  none_given old holds alone are s = elim (cases_eq s session) [
    | inl here ↦ elim (cases_lt session (length holds)) [
      | inl lt ↦ ap (file_held (slice_set holds session None)) here ∙ get_or-set_same holds session None None lt
      | inr ge ↦
          ap (file_held (slice_set holds session None)) here
          ∙ get_or_past (slice_set holds session None) session None (subst (λ (n : ℕ). n ≤ session) (sym (length-set holds session None)) ge)
    ]
    | inr other ↦
        not_some (file_held (slice_set holds session None) s)
        (λ f is. other (alone.only s f (are s f (sym (get_or-set_other holds session s None None other) ∙ is))).0)
  ]

  given_doubt : (doubt : Option DoubtedChange) (old holds : List (Option ℕ)) → IsHeldAlone session file old → AreOld old holds
      → ((d : DoubtedChange) → doubt ≡ Some d → file_in_doubt (Some d) ≡ Some file) → (s f : ℕ) → file_held (holds_left session doubt holds) s ≡ Some f → file_in_doubt doubt ≡ Some f
  given_doubt None old holds alone are puts s f is = absurd (none_some f (sym (none_given old holds alone are s) ∙ is))
  given_doubt (Some d) old holds alone are puts s f is = puts d refl ∙ ap (λ (n : ℕ). Some n) (sym (alone.only s f (are s f is)).1)

  -- a commit that puts the file ended so
  left_puts : (change : EntryChange) (end : CommitEnd) (doubt : Option DoubtedChange) → doubt ≡ doubt_left change end → file_put change ≡ Some file → (d : DoubtedChange) → doubt ≡ Some d
      → file_in_doubt (Some d) ≡ Some file
  left_puts change (Doubtful n cause) doubt is put d some = ap file_in_doubt (sym some ∙ is) ∙ put
  left_puts change (Made n) doubt is put d some = absurd (some_none d (sym is ∙ some))
  left_puts change (Dropped cause) doubt is put d some = absurd (some_none d (sym is ∙ some))
  left_puts change Spent doubt is put d some = absurd (some_none d (sym is ∙ some))

  pub committed_holds : {F R : Type 0} (behind : GuardedGateValue F R) (change : EntryChange) (end : CommitEnd) (old : List (Option ℕ)) → IsHeldAlone session file old
      → LeavesHolds change end old behind.gate.holds → behind.gate.doubt ≡ doubt_left change end → file_put change ≡ Some file → HoldsForDoubt (given_back session behind).gate
  committed_holds behind change end old alone leaves doubt put =
      given_doubt behind.gate.doubt old behind.gate.holds alone (left_old change end old behind.gate.holds leaves) (left_puts change end behind.gate.doubt doubt put)

  -- no commit ended
  pub quiet_given : {F R : Type 0} (behind : GuardedGateValue F R) (old : List (Option ℕ)) → IsHeldAlone session file old → behind.gate.holds ≡ old → behind.gate.doubt ≡ None
      → HoldsForDoubt (given_back session behind).gate
  quiet_given behind old alone same idle =
      given_doubt behind.gate.doubt old behind.gate.holds alone (same_old old behind.gate.holds same) (λ d some. absurd (some_none d (sym idle ∙ some)))
