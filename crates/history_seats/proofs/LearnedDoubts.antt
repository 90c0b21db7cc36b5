-- What a view learns of a doubt.
use Rattle.std.proofs.Common.{◌≡◌, ◌≤◌, ℕ, List, ◌∷◌, ◌++◌, length, drop, true, false, true≢false, Option, Some, None, inl, inr, refl, sym, ap, ◌∙◌, arith}
use Rattle.std.proofs.lemmas.Bool.{cases_Bool, cases_lt, cond-true, cond-false, lt-ltb}
use Rattle.std.specs.Prelude.{nat_lt}
use Rattle.std.specs.List.{list_any}
use Rattle.store_model.specs.declared.event.Event.{Event}
use Rattle.store_model.specs.declared.event.Event.TheVariants.{Call as CallEvent, Landed}
use Rattle.store_model.specs.declared.event.Mark.{Mark}
use Rattle.store_model.specs.declared.event.Mark.TheVariants.{Unchanged, Made, Doubtful}
use Rattle.store_model.specs.Record.{Tag}
use Rattle.history_seats.specs.Records.{HistoryRecord, Version, concerns_object}
use Rattle.history_seats.specs.Settling.{HasMark, Pending, calm, dropped, open_from, settled, settles, settling}
use Rattle.history_seats.specs.Mounts.{Mounted}
use Rattle.history_seats.specs.Versions.{committed_in, doubted_in, version_after, version_of}
use Rattle.history_seats.specs.Known.{version_from}
use Rattle.history_seats.specs.DoubtLaws.{learned}
use Rattle.history_seats.proofs.Doubts.{marked-settles}
use Rattle.history_seats.proofs.Givens.{version-last}
use Rattle.history_seats.proofs.Places.{any-at, any-past, any_settles, open-calm, settling-none, settling-settles}

doubtful-after : (commit : ℕ) (event : Event) (tag : Option (Tag Version)) (q : Pending (Option Version)) → HasMark (Doubtful commit) event
    → version_after event tag q ≡ record { now = committed_in tag; if_landed = Some (doubted_in tag) }
doubtful-after commit (CallEvent session number call reply mark) tag q is = ap (λ (m : Mark). version_after (CallEvent session number call reply m) tag q) is
doubtful-after commit (Landed n) tag q is = absurd is

module _ {X : Type 0} (z : ℕ) (front back : List HistoryRecord) (r : HistoryRecord) (own : settles r.event ≡ true) (c d : X) where
  abbrev both : Pending X
  both = record { now = c; if_landed = Some d }

  abbrev whole : List HistoryRecord
  whole = front ++ r ∷ back

  unsettled : any_settles back ≡ false → open_from z whole both ≡ learned None (nat_lt (length front) z) c d
  unsettled none = elim (cases_lt (length front) z) [
    | inl below ↦
        let off : any_settles (drop z whole) ≡ false = elim (cases_Bool (any_settles (drop z whole))) [
          | inr off ↦ off
          | inl on ↦ absurd (true≢false (sym (any-past z front r back below on) ∙ none))
        ] in
        cond-false (any_settles (drop z whole)) both (dropped both) off ∙ sym (cond-true (nat_lt (length front) z) (calm c) both (lt-ltb (length front) z below))
    | inr late ↦
        let late_ : z ≤ length front = omega (arith, late) in
        cond-true (any_settles (drop z whole)) both (dropped both) (any-at z front r back late_ own)
        ∙ sym (cond-false (nat_lt (length front) z) (calm c) both (not-below (length front) z late_))
  ]
    where
      not-below : (n m : ℕ) → m ≤ n → nat_lt n m ≡ false
      not-below n m le = grind (arith, le)

  settled-by : (event : Event) → settles event ≡ true → open_from z whole (settled (Some event) both) ≡ learned (Some event) (nat_lt (length front) z) c d
  settled-by (CallEvent session number call reply Unchanged) is = absurd (true≢false (sym is))
  settled-by (CallEvent session number call reply (Made commit)) is = open-calm z whole c
  settled-by (CallEvent session number call reply (Doubtful commit)) is = open-calm z whole c
  settled-by (Landed commit) is = open-calm z whole d

  learns : (event : Option Event) → settling back ≡ event → open_from z whole (settled (settling back) both) ≡ learned (settling back) (nat_lt (length front) z) c d
  learns None is =
      ap (λ (o : Option Event). open_from z whole (settled o both)) is ∙ unsettled (settling-none back is)
      ∙ ap (λ (o : Option Event). learned o (nat_lt (length front) z) c d) (sym is)
  learns (Some event) is =
      ap (λ (o : Option Event). open_from z whole (settled o both)) is ∙ settled-by event (settling-settles back event is)
      ∙ ap (λ (o : Option Event). learned o (nat_lt (length front) z) c d) (sym is)

pub doubt-learned : (z file generation commit : ℕ) (mounted : Mounted) (front back : List HistoryRecord) (r : HistoryRecord)
    → HasMark (Doubtful commit) r.event → concerns_object file generation r ≡ true → list_any (concerns_object file generation) back ≡ false
    → version_from z file generation mounted (front ++ r ∷ back) ≡ learned (settling back) (nat_lt (length front) z) (committed_in r.tag) (doubted_in r.tag)
doubt-learned z file generation commit mounted front back r marked own lacks =
    ap (open_from z (front ++ r ∷ back))
    (version-last file generation mounted front back r own lacks
    ∙ ap (settled (settling back)) (doubtful-after commit r.event r.tag (version_of file generation mounted front) marked))
    ∙ learns z front back r (marked-settles commit r.event marked) (committed_in r.tag) (doubted_in r.tag) (settling back) refl
