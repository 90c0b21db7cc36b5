-- Entries read one after the other, and the first double of one.
use Rattle.std.proofs.Common.{◌≡◌, ◌∙◌, ◌+◌, ◌-◌, ◌<◌, ◌≤◌, ℕ, zero, suc, List, [], ◌∷◌, ◌++◌, length, get_or, Option, Some, None, Result, Ok, Err, Bool, true, false, cond, refl, sym, ap, inl, inr, arith, add-one}
use Rattle.std.proofs.lemmas.Bool.{cases_eq}
use Rattle.dir_records.specs.declared.entry.DirEntry.{DirEntry}
use Rattle.dir_records.specs.declared.entry.BadRecord.{BadRecord}
use Rattle.crash_core.specs.declared.fault.DirFault.{DirFault}
use Rattle.crash_core.specs.declared.fault.DirFault.TheVariants.{Record}
use Rattle.std.specs.Prelude.{◌||◌, ◌==◌}
use Rattle.store_model.specs.Name.{name_eq}
use Rattle.crash_core.proofs.Names.{name_test}
use Rattle.crash_core.specs.Entries.{double_or, entries_of, first_double, first_like, is_double, name_of, record_at, with_record}

pub entries_none : (pages : List (Option (List ℕ))) (items : List (Option DirEntry)) → items ≡ [] → entries_of pages 0 ≡ Ok items
unfolding entries_of
entries_none pages items is = ap (λ (l : List (Option DirEntry)). let r : Result (List (Option DirEntry)) DirFault = Ok l in r) (sym is)

pub entries_next : (pages : List (Option (List ℕ))) (i : ℕ) (items then : List (Option DirEntry)) (entry : Option DirEntry) → entries_of pages i ≡ Ok items → record_at pages i ≡ Ok entry
    → then ≡ items ++ entry ∷ [] → entries_of pages (i + 1) ≡ Ok then
unfolding entries_of
entries_next pages i items then entry were read is =
    ap (entries_of pages) (add-one i)
    ∙ ap (λ (p : Result (List (Option DirEntry)) DirFault). with_record i (record_at pages i) p) were
    ∙ ap (λ (r : Result (Option DirEntry) BadRecord). with_record i r (Ok items)) read
    ∙ ap (λ (l : List (Option DirEntry)). let r : Result (List (Option DirEntry)) DirFault = Ok l in r) (sym is)

-- a record that is refused is the first fault
stays_refused : (pages : List (Option (List ℕ))) (fault : DirFault) (n m : ℕ) → entries_of pages n ≡ Err fault → n ≤ m → entries_of pages m ≡ Err fault
unfolding entries_of
stays_refused pages fault n zero is le = let e : n ≡ 0 = omega arith in ap (entries_of pages) (sym e) ∙ is
stays_refused pages fault n (suc m) is le = elim (cases_eq n (suc m)) [
  | inl same ↦ ap (entries_of pages) (sym same) ∙ is
  | inr other ↦ ap (λ (p : Result (List (Option DirEntry)) DirFault). with_record m (record_at pages m) p) (stays_refused pages fault n m is (omega arith))
]

pub entries_refused : (pages : List (Option (List ℕ))) (i : ℕ) (items : List (Option DirEntry)) (bad : BadRecord) → entries_of pages i ≡ Ok items → record_at pages i ≡ Err bad
    → i < 256 → entries_of pages 256 ≡ Err (Record i bad.offset)
unfolding entries_of
entries_refused pages i items bad were read lt = stays_refused pages (Record i bad.offset) (suc i) 256
    (ap (λ (p : Result (List (Option DirEntry)) DirFault). with_record i (record_at pages i) p) were
    ∙ ap (λ (r : Result (Option DirEntry) BadRecord). with_record i r (Ok items)) read) (omega arith)

-- one step of a search for a double
pub like_step : (entries : List (Option DirEntry)) (entry : Option DirEntry) (j count : ℕ) → j < count
    → first_like entries entry j (count - j) ≡ cond (is_double (get_or entries j None) entry) (Some j) (first_like entries entry (j + 1) (count - (j + 1)))
unfolding first_like
like_step entries entry j count lt = let e : count - j ≡ suc (count - (j + 1)) = omega arith in ap (first_like entries entry j) e

pub like_end : (entries : List (Option DirEntry)) (entry : Option DirEntry) (j count : ℕ) → count ≤ j → first_like entries entry j (count - j) ≡ None
unfolding first_like
like_end entries entry j count le = let e : count - j ≡ 0 = omega arith in ap (first_like entries entry j) e

-- within a list no default is read
same_default : {A : Type 0} (l : List A) (j : ℕ) (d e : A) → j < length l → get_or l j d ≡ get_or l j e
same_default [] j d e lt = absurd (omega arith)
same_default (x ∷ l) zero d e lt = refl
same_default (x ∷ l) (suc j) d e lt = same_default l j d e (omega arith)

pub read_at : {A : Type 0} (l : List A) (j : ℕ) (x d : A) → j < length l → x ≡ get_or l j x → x ≡ get_or l j d
read_at l j x d lt is = is ∙ same_default l j x d lt

pub double_step : (entries : List (Option DirEntry)) (i count : ℕ) → i < count
    → first_double entries i (count - i) ≡ double_or i (first_like entries (get_or entries i None) 0 i) (first_double entries (i + 1) (count - (i + 1)))
unfolding first_double
double_step entries i count lt = let e : count - i ≡ suc (count - (i + 1)) = omega arith in ap (first_double entries i) e

pub double_end : (entries : List (Option DirEntry)) (i count : ℕ) → count ≤ i → first_double entries i (count - i) ≡ None
unfolding first_double
double_end entries i count le = let e : count - i ≡ 0 = omega arith in ap (first_double entries i) e

-- the test of two entries
module _ (x y : Option DirEntry) (a b : DirEntry) (r : Bool) (at : x ≡ Some a) (bt : y ≡ Some b) (is : r ≡ name_eq (name_of a) (name_of b)) where
  double_is : is_double x y ≡ r || a.file == b.file
  double_is = (λ i. is_double (at i) (bt i)) ∙ ap (λ (t : Bool). t || a.file == b.file) (name_test (name_of a) (name_of b) ∙ sym is)

  pub double_then : r ≡ true → r ≡ is_double x y
  double_then holds = holds ∙ sym (double_is ∙ ap (λ (t : Bool). t || a.file == b.file) holds)

  pub double_else : r ≡ false → a.file == b.file ≡ is_double x y
  double_else fails = sym (double_is ∙ ap (λ (t : Bool). t || a.file == b.file) fails)
