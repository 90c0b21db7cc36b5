-- What a place decides: a doubt that stands below it leaves nothing.
use Rattle.std.proofs.Common.{◌≡◌, ◌⊎◌, ℕ, zero, suc, ◌<◌, ◌≤◌, List, [], ◌∷◌, ◌++◌, length, drop, Bool, true, false, true≢false, cond, ◌||◌, Option, Some, None, refl, sym, ap, ◌∙◌, subst, inl, inr, arith}
use Rattle.std.proofs.lemmas.Bool.{cases_Bool, cond-true, cond-false, cases_lt}
use Rattle.std.specs.Prelude.{unwrap_or}
use Rattle.std.specs.List.{list_any, fold}
use Rattle.store_model.specs.declared.event.Event.{Event}
use Rattle.store_model.specs.declared.event.Event.TheVariants.{Call as CallEvent, Landed}
use Rattle.store_model.specs.declared.event.Mark.TheVariants.{Unchanged, Made, Doubtful}
use Rattle.store_model.specs.Record.{events_of}
use Rattle.history_seats.specs.Records.{HistoryRecord}
use Rattle.history_seats.specs.Settling.{Pending, HasMark, IsOpenDoubt, as_landed, calm, dropped, is_doubtful, open_from, settled, settles, settling}
use Rattle.history_seats.specs.Views.{GateView}
use Rattle.history_seats.specs.Rule.{HasSeen}
use Rattle.history_seats.proofs.Lists.{or_left, or_right, or_second}
use Rattle.history_seats.proofs.Doubts.{marked-settles}
use Rattle.history_seats.proofs.Givens.{doubt-stays}

-- some event of these records settles
abbrev pub any_settles : List HistoryRecord → Bool
any_settles records = list_any settles (events_of records)

any-tail : (z : ℕ) (records : List HistoryRecord) → any_settles (drop z records) ≡ true → any_settles records ≡ true
any-tail zero records h = h
any-tail (suc z) [] h = h
any-tail (suc z) (r ∷ records) h = or_right (settles r.event) (any_settles records) (any-tail z records h)

any-front : (seen rest : List HistoryRecord) → any_settles (seen ++ rest) ≡ true → (any_settles seen ≡ true) ⊎ (any_settles rest ≡ true)
any-front [] rest h = inr h
any-front (r ∷ seen) rest h = elim (cases_Bool (settles r.event)) [
  | inl own ↦ inl (or_left (settles r.event) (any_settles seen) own)
  | inr off ↦ elim (any-front seen rest (or_second (settles r.event) (any_settles (seen ++ rest)) h off)) [
    | inl front ↦ inl (or_right (settles r.event) (any_settles seen) front)
    | inr back ↦ inr back
  ]
]

-- what settles from a place on is past the view, or in it from its own place on
any-beyond : (z y : ℕ) (seen rest : List HistoryRecord) → z ≤ y → any_settles (drop y (seen ++ rest)) ≡ true → (any_settles (drop z seen) ≡ true) ⊎ (any_settles rest ≡ true)
any-beyond zero y seen rest le h = any-front seen rest (any-tail y (seen ++ rest) h)
any-beyond (suc z) zero seen rest le h = absurd (omega (arith, le))
any-beyond (suc z) (suc y) [] rest le h = inr (any-tail (suc y) rest h)
any-beyond (suc z) (suc y) (r ∷ seen) rest le h = any-beyond z y seen rest (omega (arith, le)) h

pub any-at : (z : ℕ) (front : List HistoryRecord) (d : HistoryRecord) (back : List HistoryRecord) → z ≤ length front → settles d.event ≡ true → any_settles (drop z (front ++ d ∷ back)) ≡ true
any-at zero [] d back le own = or_left (settles d.event) (any_settles back) own
any-at (suc z) [] d back le own = absurd (omega (arith, le))
any-at zero (x ∷ front) d back le own = or_right (settles x.event) (any_settles (front ++ d ∷ back)) (any-at zero front d back (omega arith) own)
any-at (suc z) (x ∷ front) d back le own = any-at z front d back (omega (arith, le)) own

-- what settles from a place behind an event on stands behind it
pub any-past : (z : ℕ) (front : List HistoryRecord) (d : HistoryRecord) (back : List HistoryRecord) → length front < z → any_settles (drop z (front ++ d ∷ back)) ≡ true → any_settles back ≡ true
any-past zero front d back lt h = absurd (omega (arith, lt))
any-past (suc z) [] d back lt h = any-tail z back h
any-past (suc z) (x ∷ front) d back lt h = any-past z front d back (omega (arith, lt)) h

pub settling-none : (records : List HistoryRecord) → settling records ≡ None → any_settles records ≡ false
settling-none [] none = refl
settling-none (r ∷ records) none = elim (cases_Bool (settles r.event)) [
  | inl own ↦ absurd (some-none r.event (sym (cond-true (settles r.event) (Some r.event) (settling records) own) ∙ none))
  | inr off ↦
      let later : any_settles records ≡ false = settling-none records (sym (cond-false (settles r.event) (Some r.event) (settling records) off) ∙ none) in
      rw (off, later) refl
]
  where
    some-none : (event : Event) → Some event ≡ None → ⊥
    some-none event e = cc

pub settling-settles : (records : List HistoryRecord) (event : Event) → settling records ≡ Some event → settles event ≡ true
settling-settles [] event e = cc
settling-settles (r ∷ records) event e = elim (cases_Bool (settles r.event)) [
  | inl own ↦
      let same : Some r.event ≡ Some event = sym (cond-true (settles r.event) (Some r.event) (settling records) own) ∙ e in
      let is : r.event ≡ event = cc (same) in
      sym (ap settles is) ∙ own
  | inr off ↦ settling-settles records event (sym (cond-false (settles r.event) (Some r.event) (settling records) off) ∙ e)
]

module _ {X : Type 0} where
  -- what stands is no matter of a place
  pub open-now : (z : ℕ) (records : List HistoryRecord) (p : Pending X) → (open_from z records p).now ≡ p.now
  open-now z records p = elim (cases_Bool (any_settles (drop z records))) [
    | inl open_ ↦ ap (λ (q : Pending X). q.now) (cond-true (any_settles (drop z records)) p (dropped p) open_)
    | inr none ↦ ap (λ (q : Pending X). q.now) (cond-false (any_settles (drop z records)) p (dropped p) none)
  ]

  pub open-calm : (z : ℕ) (records : List HistoryRecord) (x : X) → open_from z records (calm x) ≡ calm x
  open-calm z records x = elim (cases_Bool (any_settles (drop z records))) [
    | inl open_ ↦ cond-true (any_settles (drop z records)) (calm x) (dropped (calm x)) open_
    | inr none ↦ cond-false (any_settles (drop z records)) (calm x) (dropped (calm x)) none
  ]

  -- it leaves only what is left without it
  pub open-less : (z : ℕ) (records : List HistoryRecord) (p : Pending X) (x : X) → (open_from z records p).if_landed ≡ Some x → p.if_landed ≡ Some x
  open-less z records p x is = elim (cases_Bool (any_settles (drop z records))) [
    | inl open_ ↦ sym (ap (λ (q : Pending X). q.if_landed) (cond-true (any_settles (drop z records)) p (dropped p) open_)) ∙ is
    | inr none ↦ absurd (nothing (sym (ap (λ (q : Pending X). q.if_landed) (cond-false (any_settles (drop z records)) p (dropped p) none)) ∙ is))
  ]
    where
      nothing : None ≡ Some x → ⊥
      nothing e = cc

-- a place that rises leaves less
any-later : (z y : ℕ) (records : List HistoryRecord) → z ≤ y → any_settles (drop y records) ≡ true → any_settles (drop z records) ≡ true
any-later zero y records le h = any-tail y records h
any-later (suc z) zero records le h = absurd (omega (arith, le))
any-later (suc z) (suc y) [] le h = h
any-later (suc z) (suc y) (r ∷ records) le h = any-later z y records (omega (arith, le)) h

pub open-lower : {X : Type 0} (z y : ℕ) (records : List HistoryRecord) (p : Pending X) (x : X) → z ≤ y → (open_from y records p).if_landed ≡ Some x → (open_from z records p).if_landed ≡ Some x
open-lower {X = X} z y records p x le is = elim (cases_Bool (any_settles (drop y records))) [
  | inl open_ ↦
      ap (λ (q : Pending X). q.if_landed) (cond-true (any_settles (drop z records)) p (dropped p) (any-later z y records le open_))
      ∙ open-less y records p x is
  | inr none ↦ absurd (nothing (sym (ap (λ (q : Pending X). q.if_landed) (cond-false (any_settles (drop y records)) p (dropped p) none)) ∙ is))
]
  where
    nothing : None ≡ Some x → ⊥
    nothing e = cc

pub open-dropped : {X : Type 0} (z : ℕ) (records : List HistoryRecord) (p : Pending X) → open_from z records (dropped p) ≡ dropped (open_from z records p)
open-dropped z records p = one (any_settles (drop z records))
  where
    one : (b : Bool) → cond b (dropped p) (dropped (dropped p)) ≡ dropped (cond b p (dropped p))
    one true = refl
    one false = refl

-- from the end on nothing is open
none-behind : (z : ℕ) (records : List HistoryRecord) → length records ≤ z → any_settles (drop z records) ≡ false
none-behind zero [] le = refl
none-behind zero (x ∷ records) le = absurd (omega (arith, le))
none-behind (suc z) [] le = refl
none-behind (suc z) (x ∷ records) le = none-behind z records (omega (arith, le))

pub open-end : {X : Type 0} (z : ℕ) (records : List HistoryRecord) (p : Pending X) → length records ≤ z → open_from z records p ≡ calm p.now
open-end z records p le = cond-false (any_settles (drop z records)) p (dropped p) (none-behind z records le)

-- an event that does not settle, behind the others, leaves what is open from a place of theirs
any-snoc : (z : ℕ) (records : List HistoryRecord) (r : HistoryRecord) → settles r.event ≡ false → z ≤ length records → any_settles (drop z (records ++ r ∷ [])) ≡ any_settles (drop z records)
any-snoc zero [] r off le = rw off refl
any-snoc zero (x ∷ records) r off le = ap (λ (b : Bool). settles x.event || b) (any-snoc zero records r off (omega arith))
any-snoc (suc z) [] r off le = absurd (omega (arith, le))
any-snoc (suc z) (x ∷ records) r off le = any-snoc z records r off (omega (arith, le))

pub open-snoc : {X : Type 0} (z : ℕ) (records : List HistoryRecord) (r : HistoryRecord) (p : Pending X) → settles r.event ≡ false → z ≤ length records
    → open_from z (records ++ r ∷ []) p ≡ open_from z records p
open-snoc z records r p off le = ap (λ (b : Bool). cond b p (dropped p)) (any-snoc z records r off le)

-- the records have a doubt open
abbrev pub HasDoubt : List HistoryRecord → Type 0
HasDoubt records = (commit : ℕ) × IsOpenDoubt commit 0 records

-- each doubt of the value is one of the records
abbrev pub IsDoubtOf : {X : Type 0} → List HistoryRecord → Pending X → Type 0
IsDoubtOf {X} records p = (x : X) → p.if_landed ≡ Some x → HasDoubt records

module _ {X : Type 0} (those : HistoryRecord → Bool) (z : ℕ) (seen : List HistoryRecord) (gate : GateView) (sees : HasSeen those z seen gate)
    (p : Pending X) (doubts : IsDoubtOf seen p) where
  none-left : (landed : Option X) → p.if_landed ≡ landed → any_settles (drop z seen) ≡ false → (commit : ℕ) → settling sees.begins.rest ≡ Some (Landed commit) → as_landed p ≡ dropped p
  none-left None is none commit lands = ap (λ (o : Option X). record { now = unwrap_or o p.now; if_landed = None }) is
  none-left (Some x) is none commit lands =
      let d = doubts x is in
      let doubt = d.1 in
      elim (cases_lt (length doubt.front) z) [
        | inl below ↦ absurd (true≢false (doubt-stays z d.0 those seen gate.all sees.begins doubt sees.decided_below sees.decided_within below (Landed commit) lands))
        | inr late ↦
            let here : any_settles (drop z seen) ≡ true =
            subst (λ (l : List HistoryRecord). any_settles (drop z l) ≡ true) doubt.is (any-at z doubt.front doubt.doubted doubt.back (omega (arith, late)) (marked-settles d.0 doubt.doubted.event doubt.marked)) in
            absurd (true≢false (sym here ∙ none))
      ]

  quiet : any_settles (drop z seen) ≡ false → settling sees.begins.rest ≡ None → any_settles (drop gate.decided gate.all) ≡ false
  quiet none rest = elim (cases_Bool (any_settles (drop gate.decided gate.all))) [
    | inr off ↦ off
    | inl some ↦
        let inside : any_settles (drop gate.decided (seen ++ sees.begins.rest)) ≡ true =
        subst (λ (l : List HistoryRecord). any_settles (drop gate.decided l) ≡ true) (sym sees.begins.is) some in
        elim (any-beyond z gate.decided seen sees.begins.rest sees.decided_before inside) [
          | inl early ↦ absurd (true≢false (sym early ∙ none))
          | inr late ↦ absurd (true≢false (sym late ∙ settling-none sees.begins.rest rest))
        ]
  ]

  abbrev At : Pending X → Pending X
  At q = open_from gate.decided gate.all q

  decided : any_settles (drop z seen) ≡ false → (event : Option Event) → settling sees.begins.rest ≡ event → At (settled event p) ≡ At (settled event (dropped p))
  decided none None is =
      let off = quiet none is in
      cond-false (any_settles (drop gate.decided gate.all)) p (dropped p) off
      ∙ sym (cond-false (any_settles (drop gate.decided gate.all)) (dropped p) (dropped p) off)
  decided none (Some (CallEvent session number call reply Unchanged)) is =
      absurd (true≢false (sym (settling-settles sees.begins.rest (CallEvent session number call reply Unchanged) is)))
  decided none (Some (CallEvent session number call reply (Made commit))) is = refl
  decided none (Some (CallEvent session number call reply (Doubtful commit))) is = refl
  decided none (Some (Landed commit)) is = ap At (none-left p.if_landed refl none commit is)

  -- past the view's place nothing but its open doubt counts
  pub view-place : At (settled (settling sees.begins.rest) p) ≡ At (settled (settling sees.begins.rest) (open_from z seen p))
  view-place = elim (cases_Bool (any_settles (drop z seen))) [
    | inl open_ ↦ ap (λ (q : Pending X). At (settled (settling sees.begins.rest) q)) (sym (cond-true (any_settles (drop z seen)) p (dropped p) open_))
    | inr none ↦
        decided none (settling sees.begins.rest) refl
        ∙ ap (λ (q : Pending X). At (settled (settling sees.begins.rest) q)) (sym (cond-false (any_settles (drop z seen)) p (dropped p) none))
  ]

  -- so what stands is told
  pub view-now : (settled (settling sees.begins.rest) p).now ≡ (settled (settling sees.begins.rest) (open_from z seen p)).now
  view-now =
      sym (open-now gate.decided gate.all (settled (settling sees.begins.rest) p))
      ∙ ap (λ (q : Pending X). q.now) view-place
      ∙ open-now gate.decided gate.all (settled (settling sees.begins.rest) (open_from z seen p))

-- A value that only a doubtful event leaves in doubt is in doubt only while that event's doubt is open.
module _ {S X : Type 0} (next : S → HistoryRecord → S) (part : S → Pending X)
    (one : (s : S) (r : HistoryRecord) (x : X) → (part (next s r)).if_landed ≡ Some x → (is_doubtful r.event ≡ true) ⊎ ((settles r.event ≡ false) × (y : X) × ((part s).if_landed ≡ Some y))) where
  doubtful-mark : (event : Event) → is_doubtful event ≡ true → (commit : ℕ) × HasMark (Doubtful commit) event
  doubtful-mark (CallEvent session number call reply Unchanged) is = absurd (true≢false (sym is))
  doubtful-mark (CallEvent session number call reply (Made commit)) is = absurd (true≢false (sym is))
  doubtful-mark (CallEvent session number call reply (Doubtful commit)) is = (commit, refl)
  doubtful-mark (Landed commit) is = absurd (true≢false (sym is))

  pub doubt-within : (s : S) (records : List HistoryRecord) (x : X) → (part (fold next s records)).if_landed ≡ Some x
      → HasDoubt records ⊎ ((any_settles records ≡ false) × (y : X) × ((part s).if_landed ≡ Some y))
  doubt-within s [] x is = inr (refl, x, is)
  doubt-within s (r ∷ records) x is = elim (doubt-within (next s r) records x is) [
    | inl d ↦ inl (d.0, record { front = r ∷ d.1.front; doubted = d.1.doubted; back = d.1.back; is = ap (λ (l : List HistoryRecord). r ∷ l) d.1.is; marked = d.1.marked; last = d.1.last; late = omega arith })
    | inr q ↦ elim (one s r q.1 q.2) [
      | inl own ↦
          let m = doubtful-mark r.event own in
          inl (m.0, record { front = []; doubted = r; back = records; is = refl; marked = m.1; last = q.0; late = omega arith })
      | inr before ↦ inr (none r.event (any_settles records) before.0 q.0, before.1, before.2)
    ]
  ]
    where
      none : (event : Event) (rest : Bool) → settles event ≡ false → rest ≡ false → (settles event || rest) ≡ false
      none event rest a b = rw (a, b) refl
