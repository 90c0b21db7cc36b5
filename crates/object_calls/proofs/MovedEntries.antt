-- How the moves of entries go along the list, and how they are counted.
use Rattle.std.proofs.Common.{◌≡◌, ◌≢◌, ◌<◌, ◌≤◌, ◌+◌, ℕ, zero, suc, Bool, true, false, cond, eqb, List, [], ◌∷◌, ◌++◌, length, take, drop, Option, Some, None, inl, inr, refl, sym, ◌∙◌, ap, subst, eq-eqb, ne_eqb, arith}
use Rattle.std.specs.List.{count_by}
use Rattle.std.proofs.lemmas.Bool.{cases_eq, cases_lt, cond-true, cond-false, eqb-true}
use Rattle.std.proofs.lemmas.List.{drop-drop, drop-set-lt, get_or-drop, get_or_past, length-set, take-append-drop, take-set, take-set-le}
use Rattle.std.proofs.lemmas.List.Sums.{sum_by-cons}
use Rattle.node_image.specs.References.{current_format}
use Rattle.dir_records.specs.declared.entry.DirEntry.{DirEntry}
use Rattle.dir_records.specs.Form.{IsFormat}
use Rattle.crash_core.specs.CardBlock.{old_format}
use Rattle.crash_core.specs.declared.change.EntryChange.TheVariants.{Put}
use Rattle.crash_core.specs.EntryChanges.{changed}
use Rattle.crash_core.specs.EntryLists.{AreCurrent, entry_at}
use Rattle.crash_core.specs.MigrationLaws.{moved_entry}
use Rattle.crash_core.proofs.Lists.{set_else, set_here}
use Rattle.store_commit.specs.Holds.{IsLeastFreeFile}
use Rattle.object_calls.specs.MovedEntries.{AreMoved, MovesEntries, MovesEntry, is_old, unless_current}

-- an entry is of the current format, or its file is to be moved
kept_current : (o : Option DirEntry) (e : DirEntry) → o ≡ Some e → unless_current o ≡ None → e.format ≡ current_format
kept_current None e is none = absurd (cc (is))
kept_current (Some x) e is none = elim (cases_eq x.format current_format) [
  | inl current ↦ let same : x ≡ e = cc (is) in subst (λ (y : DirEntry). y.format ≡ current_format) same current
  | inr other ↦ let found : Some x ≡ None = sym (cond-false (eqb x.format current_format) None (Some x) (ne_eqb x.format current_format other)) ∙ none in absurd (cc (found))
]

pub left_old : (o : Option DirEntry) (e : DirEntry) → unless_current o ≡ Some e → (o ≡ Some e) × (e.format ≢ current_format)
left_old None e is = absurd (cc (is))
left_old (Some x) e is = elim (cases_eq x.format current_format) [
  | inl current ↦ let found : ◌≡◌ {A = Option DirEntry} None (Some e) = sym (cond-true (eqb x.format current_format) None (Some x) (eq-eqb x.format current_format current)) ∙ is in absurd (cc (found))
  | inr other ↦
      let found : Some x ≡ Some e = sym (cond-false (eqb x.format current_format) None (Some x) (ne_eqb x.format current_format other)) ∙ is in
      let same : x ≡ e = cc (found) in
      (found, subst (λ (y : DirEntry). y.format ≢ current_format) same other)
]

-- and then it is of the old one
pub other_old : (e : DirEntry) → IsFormat e.format → e.format ≢ current_format → is_old (Some e) ≡ true
other_old e form other = elim (cases_eq e.format old_format) [
  | inl old ↦ eq-eqb e.format old_format old
  | inr neither ↦ elim (cases_lt e.format current_format) [
    | inl below ↦ absurd (neither (omega (arith, form.0, below)))
    | inr above ↦ absurd (other (omega (arith, form.1, above)))
  ]
]

pub current_counts : (e : DirEntry) → e.format ≡ current_format → is_old (Some e) ≡ false
current_counts e current = ap (λ (n : ℕ). eqb n old_format) current

-- HOW MANY ARE OLD
abbrev one_or_none : Option DirEntry → ℕ
one_or_none o = cond (is_old o) 1 0

counted_first : (x : Option DirEntry) (entries : List (Option DirEntry)) → count_by is_old (x ∷ entries) ≡ one_or_none x + count_by is_old entries
counted_first x entries = sum_by-cons (λ o. cond (is_old o) 1 0) x entries

-- an old entry in whose place one of the current format is put
pub count_moved : (entries : List (Option DirEntry)) (index : ℕ) (e next : DirEntry) → entry_at entries index ≡ Some e → is_old (Some e) ≡ true → is_old (Some next) ≡ false
    → count_by is_old entries ≡ 1 + count_by is_old (changed entries (Put index next))
count_moved [] index e next at old current = absurd (cc (at))
count_moved (x ∷ entries) zero e next at old current =
    let here = counted_first x entries in
    let there = counted_first (Some next) entries in
    let one : one_or_none x ≡ 1 = ap one_or_none at ∙ ap (λ (b : Bool). cond b 1 0) old in
    let none : one_or_none (Some next) ≡ 0 = ap (λ (b : Bool). cond b 1 0) current in
    omega (arith, here, there, one, none)
count_moved (x ∷ entries) (suc index) e next at old current =
    let rest = count_moved entries index e next at old current in
    let here = counted_first x entries in
    let there = counted_first x (changed entries (Put index next)) in
    omega (arith, rest, here, there)

pub none_counted : (entries : List (Option DirEntry)) → AreCurrent entries → count_by is_old entries ≡ 0
none_counted [] current = refl
none_counted (None ∷ entries) current =
    let rest = none_counted entries (λ index e at. current (suc index) e at) in
    let here = counted_first None entries in
    omega (arith, rest, here)
none_counted (Some x ∷ entries) current =
    let rest = none_counted entries (λ index e at. current (suc index) e at) in
    let here = counted_first (Some x) entries in
    let none : one_or_none (Some x) ≡ 0 = ap (λ (b : Bool). cond b 1 0) (current_counts x (current zero x refl)) in
    omega (arith, rest, here, none)

few_counted : (x : Option DirEntry) → one_or_none x ≤ 1
few_counted x = elim (is_old x) as (λ b. cond b 1 0 ≤ 1) [
  | true ↦ omega arith
  | false ↦ omega arith
]

pub at_most_all : (entries : List (Option DirEntry)) → count_by is_old entries ≤ length entries
at_most_all [] = omega arith
at_most_all (x ∷ entries) =
    let rest = at_most_all entries in
    let here = counted_first x entries in
    let few = few_counted x in
    omega (arith, rest, here, few)

-- ALONG THE LIST
-- an entry that is none of the old format stays
stays_moved : (entries : List (Option DirEntry)) (o : Option DirEntry) → unless_current o ≡ None → MovesEntry entries o o
stays_moved entries None none = refl
stays_moved entries (Some e) none = inl (kept_current (Some e) e refl none, refl)

-- the first of those that are as they were
first_behind : (old new : List (Option DirEntry)) (i : ℕ) → drop i new ≡ drop i old → entry_at new i ≡ entry_at old i
first_behind old new i same =
    let at : i + 0 ≡ i = omega arith in
    ap (entry_at new) (sym at) ∙ sym (get_or-drop i new 0 None) ∙ ap (λ (l : List (Option DirEntry)). entry_at l 0) same ∙ get_or-drop i old 0 None ∙ ap (entry_at old) at

next_behind : (old new : List (Option DirEntry)) (i : ℕ) → drop i new ≡ drop i old → drop (i + 1) new ≡ drop (i + 1) old
next_behind old new i same = sym (drop-drop 1 i new) ∙ ap (drop 1) same ∙ drop-drop 1 i old

pub moves_none : (entries : List (Option DirEntry)) → MovesEntries entries entries 0 0
moves_none entries = record { long = refl; first = λ index lt. absurd (omega (arith, lt)); behind = refl; counted = omega arith }

pub moves_skip : (old new : List (Option DirEntry)) (i moved : ℕ) → MovesEntries old new i moved → unless_current (entry_at new i) ≡ None → MovesEntries old new (i + 1) moved
moves_skip old new i moved before none = record {
  long = before.long;
  first = λ index lt. elim (cases_eq index i) [
    | inl here ↦
        let same : entry_at new i ≡ entry_at old i = first_behind old new i before.behind in
        let stays : MovesEntry (take i new ++ drop i old) (entry_at new i) (entry_at new i) = stays_moved (take i new ++ drop i old) (entry_at new i) none in
        let at : MovesEntry (take i new ++ drop i old) (entry_at old i) (entry_at new i) =
        subst (λ (o : Option DirEntry). MovesEntry (take i new ++ drop i old) o (entry_at new i)) same stays in
        subst (λ (k : ℕ). MovesEntry (take k new ++ drop k old) (entry_at old k) (entry_at new k)) (sym here) at
    | inr other ↦ before.first index (omega (arith, lt, other))
  ];
  behind = next_behind old new i before.behind;
  counted = before.counted;
}

pub moves_one : (old new : List (Option DirEntry)) (i moved : ℕ) (e : DirEntry) (file : ℕ) → MovesEntries old new i moved → i < length new → unless_current (entry_at new i) ≡ Some e → IsFormat e.format
    → IsLeastFreeFile new [] file → MovesEntries old (changed new (Put i (moved_entry e file current_format))) (i + 1) (moved + 1)
moves_one old new i moved e file before lt left form free =
    let next : DirEntry = moved_entry e file current_format in
    let after : List (Option DirEntry) = changed new (Put i next) in
    let was = left_old (entry_at new i) e left in
    let old_is : is_old (Some e) ≡ true = other_old e form was.1 in
    let one = count_moved new i e next was.0 old_is (current_counts next refl) in
    let counted = before.counted in
    record {
      long = length-set new i (Some next) ∙ before.long;
      first = λ index below. elim (cases_eq index i) [
        | inl here ↦
            let first : entry_at old i ≡ Some e = sym (first_behind old new i before.behind) ∙ was.0 in
            let put : entry_at after i ≡ Some next = set_here new i (Some next) lt in
            let list : take i after ++ drop i old ≡ new =
            ap (λ (l : List (Option DirEntry)). l ++ drop i old) (take-set new i (Some next)) ∙ ap (λ (l : List (Option DirEntry)). take i new ++ l) (sym before.behind) ∙ take-append-drop i new in
            let free_then : IsLeastFreeFile (take i after ++ drop i old) [] file = subst (λ (l : List (Option DirEntry)). IsLeastFreeFile l [] file) (sym list) free in
            let moves : MovesEntry (take i after ++ drop i old) (Some e) (Some next) = inr (eqb-true e.format old_format old_is, (file, free_then, refl)) in
            let from : MovesEntry (take i after ++ drop i old) (entry_at old i) (Some next) =
            subst (λ (o : Option DirEntry). MovesEntry (take i after ++ drop i old) o (Some next)) (sym first) moves in
            let at : MovesEntry (take i after ++ drop i old) (entry_at old i) (entry_at after i) =
            subst (λ (o : Option DirEntry). MovesEntry (take i after ++ drop i old) (entry_at old i) o) (sym put) from in
            subst (λ (k : ℕ). MovesEntry (take k after ++ drop k old) (entry_at old k) (entry_at after k)) (sym here) at
        | inr other ↦
            let low : index ≤ i = omega (arith, below) in
            let list : take index after ≡ take index new = take-set-le index new i (Some next) low in
            let same : entry_at after index ≡ entry_at new index = set_else new i (Some next) index other in
            let at : MovesEntry (take index new ++ drop index old) (entry_at old index) (entry_at new index) = before.first index (omega (arith, below, other)) in
            let there : MovesEntry (take index after ++ drop index old) (entry_at old index) (entry_at new index) =
            subst (λ (l : List (Option DirEntry)). MovesEntry (l ++ drop index old) (entry_at old index) (entry_at new index)) (sym list) at in
            subst (λ (o : Option DirEntry). MovesEntry (take index after ++ drop index old) (entry_at old index) o) (sym same) there
      ];
      behind = drop-set-lt (i + 1) new i (Some next) (omega arith) ∙ next_behind old new i before.behind;
      counted = omega (arith, one, counted);
    }

-- AT THE END
is_same : (o : Option DirEntry) (e f : DirEntry) → o ≡ Some e → o ≡ Some f → e ≡ f
is_same o e f at is = let both : ◌≡◌ {A = Option DirEntry} (Some e) (Some f) = sym at ∙ is in cc (both)

-- what an entry became is of the current format
became_current : (entries : List (Option DirEntry)) (old new : Option DirEntry) (e : DirEntry) → MovesEntry entries old new → new ≡ Some e → e.format ≡ current_format
became_current entries None new e none is = let both : ◌≡◌ {A = Option DirEntry} None (Some e) = sym none ∙ is in absurd (cc (both))
became_current entries (Some x) new e (inl stays) is = subst (λ (y : DirEntry). y.format ≡ current_format) (is_same new x e stays.1 is) stays.0
became_current entries (Some x) new e (inr moved) is =
    let next : DirEntry = moved_entry x moved.1.0 current_format in
    subst (λ (y : DirEntry). y.format ≡ current_format) (is_same new next e moved.1.2 is) refl

pub moved_current : (old new : List (Option DirEntry)) → AreMoved old new → AreCurrent new
moved_current old new are index e at = became_current (take index new ++ drop index old) (entry_at old index) (entry_at new index) e (are.each index) at

-- behind the last one
pub moves_all : (old new : List (Option DirEntry)) (moved : ℕ) → MovesEntries old new 256 moved → length old ≡ 256 → AreMoved old new × (moved ≡ count_by is_old old) × (moved ≤ 256)
moves_all old new moved moves long =
    let len = moves.long in
    let are : AreMoved old new = record {
      long = moves.long;
      each = λ index. elim (cases_lt index 256) [
        | inl below ↦ moves.first index below
        | inr past ↦
            let none : entry_at old index ≡ None = get_or_past old index None (omega (arith, long, past)) in
            let none_now : entry_at new index ≡ None = get_or_past new index None (omega (arith, len, long, past)) in
            subst (λ (o : Option DirEntry). MovesEntry (take index new ++ drop index old) o (entry_at new index)) (sym none) none_now
      ];
    } in
    let zero_left = none_counted new (moved_current old new are) in
    let counted = moves.counted in
    let few = at_most_all old in
    (are, omega (arith, zero_left, counted), omega (arith, zero_left, counted, few, long))
