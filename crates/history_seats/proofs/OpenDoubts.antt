-- When a doubt is open.
use Rattle.std.proofs.Common.{◌≡◌, ◌⊎◌, ◌≤◌, ℕ, List, [], ◌∷◌, ◌++◌, ◌||◌, length, Bool, true, false, true≢false, Option, Some, None, inl, inr, refl, sym, ap, ◌∙◌, subst, arith, append_assoc}
use Rattle.store_model.specs.declared.event.Event.{Event}
use Rattle.store_model.specs.declared.event.Event.TheVariants.{Call as CallEvent, Landed}
use Rattle.store_model.specs.declared.event.Mark.TheVariants.{Unchanged, Made, Doubtful}
use Rattle.store_model.specs.Doubt.{Doubt}
use Rattle.store_model.specs.Record.{file_of}
use Rattle.store_model.specs.ReplayState.{ReplayState, keeps_doubt, replay, replay_after, replay_landed}
use Rattle.history_seats.specs.Records.{HistoryRecord}
use Rattle.history_seats.specs.Settling.{HasMark, IsOpenDoubt, is_settling_mark, settles}
use Rattle.history_seats.proofs.Lists.{neither, no_some, or_false}
use Rattle.history_seats.proofs.Places.{any_settles}

pub doubt-opens : (commit z : ℕ) (records : List HistoryRecord) (r : HistoryRecord) → HasMark (Doubtful commit) r.event → z ≤ length records → IsOpenDoubt commit z (records ++ r ∷ [])
doubt-opens commit z records r marked late = record { front = records; doubted = r; back = []; is = refl; marked = marked; last = refl; late = late }

pub unchanged-settles : (event : Event) → HasMark Unchanged event → settles event ≡ false
unchanged-settles (CallEvent session number call reply mark) is = ap is_settling_mark is
unchanged-settles (Landed commit) is = absurd is

settles-snoc : (records : List HistoryRecord) (r : HistoryRecord) → any_settles records ≡ false → settles r.event ≡ false → any_settles (records ++ r ∷ []) ≡ false
settles-snoc [] r none off = or_false (settles r.event) false off refl
settles-snoc (x ∷ records) r none off = one (settles x.event) none (settles-snoc records r)
  where
    one : (b : Bool) → (b || any_settles records) ≡ false → (any_settles records ≡ false → settles r.event ≡ false → any_settles (records ++ r ∷ []) ≡ false) → (b || any_settles (records ++ r ∷ [])) ≡ false
    one true e rest = absurd (true≢false e)
    one false e rest = rest e off

pub doubt-stays-open : (commit z : ℕ) (records : List HistoryRecord) (r : HistoryRecord) → HasMark Unchanged r.event → IsOpenDoubt commit z records → IsOpenDoubt commit z (records ++ r ∷ [])
doubt-stays-open commit z records r unchanged doubt = record {
  front = doubt.front;
  doubted = doubt.doubted;
  back = doubt.back ++ r ∷ [];
  is = sym (append_assoc doubt.front (doubt.doubted ∷ doubt.back) (r ∷ [])) ∙ ap (λ (l : List HistoryRecord). l ++ r ∷ []) doubt.is;
  marked = doubt.marked;
  last = settles-snoc doubt.back r doubt.last (unchanged-settles r.event unchanged);
  late = doubt.late;
}

none-more : {A : Type 0} (xs : List A) (a : A) → [] ≡ xs ++ a ∷ [] → ⊥
none-more [] a e = cc
none-more (x ∷ xs) a e = cc

head_is : {A : Type 0} (a b : A) (xs ys : List A) → a ∷ xs ≡ b ∷ ys → a ≡ b
head_is a b xs ys e = cc

tail_is : {A : Type 0} (a b : A) (xs ys : List A) → a ∷ xs ≡ b ∷ ys → xs ≡ ys
tail_is a b xs ys e = cc

snoc-same : {A : Type 0} (xs ys : List A) (a b : A) → xs ++ a ∷ [] ≡ ys ++ b ∷ [] → (xs ≡ ys) × (a ≡ b)
snoc-same [] [] a b e = (refl, cc (e))
snoc-same [] (y ∷ ys) a b e = absurd (none-more ys b (tail_is a y [] (ys ++ b ∷ []) e))
snoc-same (x ∷ xs) [] a b e = absurd (none-more xs a (tail_is b x [] (xs ++ a ∷ []) (sym e)))
snoc-same (x ∷ xs) (y ∷ ys) a b e =
    let both = snoc-same xs ys a b (tail_is x y (xs ++ a ∷ []) (ys ++ b ∷ []) e) in
    let head : x ≡ y = head_is x y (xs ++ a ∷ []) (ys ++ b ∷ []) e in
    ((λ i. head i ∷ both.0 i), both.1)

last_of : {A : Type 0} (xs : List A) → (xs ≡ []) ⊎ ((front : List A) × (a : A) × (xs ≡ front ++ a ∷ []))
last_of [] = inl refl
last_of (x ∷ xs) = elim (last_of xs) [
  | inl none ↦ inr ([], x, ap (λ l. x ∷ l) none)
  | inr some_ ↦ inr (x ∷ some_.0, some_.1, ap (λ l. x ∷ l) some_.2)
]

none-front : (xs ys : List HistoryRecord) → any_settles (xs ++ ys) ≡ false → any_settles xs ≡ false
none-front [] ys none = refl
none-front (x ∷ xs) ys none =
    let both = neither (settles x.event) (any_settles (xs ++ ys)) none in
    or_false (settles x.event) (any_settles xs) both.0 (none-front xs ys both.1)

no-doubtful : (commit : ℕ) (event : Event) → HasMark Unchanged event → HasMark (Doubtful commit) event → ⊥
no-doubtful commit (CallEvent session number call reply mark) unchanged doubtful = apart (sym unchanged ∙ doubtful)
  where
    apart : Unchanged ≡ Doubtful commit → ⊥
    apart e = cc
no-doubtful commit (Landed n) unchanged doubtful = absurd unchanged

pub doubt-was-open : (commit z : ℕ) (records : List HistoryRecord) (r : HistoryRecord) → HasMark Unchanged r.event → IsOpenDoubt commit z (records ++ r ∷ []) → IsOpenDoubt commit z records
doubt-was-open commit z records r unchanged doubt = elim (last_of doubt.back) [
  | inl none ↦
      let same = snoc-same doubt.front records doubt.doubted r (ap (λ (l : List HistoryRecord). doubt.front ++ doubt.doubted ∷ l) (sym none) ∙ doubt.is) in
      absurd (no-doubtful commit r.event unchanged (subst (λ (x : HistoryRecord). HasMark (Doubtful commit) x.event) same.1 doubt.marked))
  | inr more ↦
      let parts : (doubt.front ++ doubt.doubted ∷ more.0) ++ more.1 ∷ [] ≡ records ++ r ∷ [] =
      append_assoc doubt.front (doubt.doubted ∷ more.0) (more.1 ∷ [])
      ∙ ap (λ (l : List HistoryRecord). doubt.front ++ doubt.doubted ∷ l) (sym more.2) ∙ doubt.is in
      record {
        front = doubt.front;
        doubted = doubt.doubted;
        back = more.0;
        is = (snoc-same (doubt.front ++ doubt.doubted ∷ more.0) records more.1 r parts).0;
        marked = doubt.marked;
        last = none-front more.0 (more.1 ∷ []) (ap any_settles (sym more.2) ∙ doubt.last);
        late = doubt.late;
      }
]

kept : (keeps : Bool) (before : Option Doubt) (doubt : Doubt) → elim keeps as (λ _. Option Doubt) [ true ↦ before | false ↦ None ] ≡ Some doubt → before ≡ Some doubt
kept true before doubt is = is
kept false before doubt is = absurd (no_some doubt is)

landed-gone : (s : ReplayState) (o : Option Doubt) (doubt : Doubt) → s.doubt ≡ o → (replay_landed s o).doubt ≡ Some doubt → ⊥
landed-gone s None doubt none is = no_some doubt (sym none ∙ is)
landed-gone s (Some other) doubt some_ is = no_some doubt is

-- the doubt is that of a record, or was there before them all
open-within : (s : ReplayState) (records : List HistoryRecord) (doubt : Doubt) → (replay s records).doubt ≡ Some doubt
    → IsOpenDoubt doubt.commit 0 records ⊎ ((any_settles records ≡ false) × (s.doubt ≡ Some doubt))
open-within s [] doubt is = inr (refl, is)
open-within s (r ∷ records) doubt is = elim (open-within (replay_after s r.event (file_of r)) records doubt is) [
  | inl d ↦ inl (record { front = r ∷ d.front; doubted = d.doubted; back = d.back; is = ap (λ (l : List HistoryRecord). r ∷ l) d.is; marked = d.marked; last = d.last; late = omega arith })
  | inr q ↦ one r.event refl q.0 q.1
]
  where
    one : (event : Event) → r.event ≡ event → any_settles records ≡ false → (replay_after s event (file_of r)).doubt ≡ Some doubt
        → IsOpenDoubt doubt.commit 0 (r ∷ records) ⊎ ((any_settles (r ∷ records) ≡ false) × (s.doubt ≡ Some doubt))
    one (CallEvent session number call reply Unchanged) same none e =
        inr (or_false (settles r.event) (any_settles records) (ap settles same) none, kept (keeps_doubt reply) s.doubt doubt e)
    one (CallEvent session number call reply (Made commit)) same none e = absurd (no_some doubt e)
    one (CallEvent session number call reply (Doubtful commit)) same none e =
        let mine : commit ≡ doubt.commit = own commit e in
        inl (record {
          front = [];
          doubted = r;
          back = records;
          is = refl;
          marked = subst (HasMark (Doubtful doubt.commit)) (sym same) (ap (λ (n : ℕ). Doubtful n) mine);
          last = none;
          late = omega arith;
        })
      where
        own : (n : ℕ) → Some (record { commit = n; session = session; call = call; file = file_of r }) ≡ Some doubt → n ≡ doubt.commit
        own n e = cc
    one (Landed commit) same none e = absurd (landed-gone s s.doubt doubt refl e)

pub replayed-open : (start : ReplayState) (records : List HistoryRecord) (doubt : Doubt) → start.doubt ≡ None → (replay start records).doubt ≡ Some doubt → IsOpenDoubt doubt.commit 0 records
replayed-open start records doubt none is = elim (open-within start records doubt is) [
  | inl d ↦ d
  | inr q ↦ absurd (no_some doubt (sym none ∙ q.1))
]
