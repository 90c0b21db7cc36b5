-- Holds of sessions, as entries change.
use Rattle.std.proofs.Common.{◌≡◌, ◌≢◌, ◌⊎◌, ◌∙◌, ◌==◌, ◌<◌, ◌≤◌, ◌+◌, ℕ, zero, suc, replicate, Bool, true, false, List, length, Option, Some, None, if◌then◌else◌, refl, sym, ap, subst, inl, inr, arith}
use Rattle.std.specs.Prelude.{slice_set}
use Rattle.std.proofs.lemmas.Bool.{cases_eq, cases_lt, eq-eqb}
use Rattle.std.proofs.Math.ListN.{length-set}
use Rattle.std.proofs.lemmas.List.{get_or-set_other, get_or-set_same, get_or_past}
use Rattle.tee_types.specs.Limits.{last_file}
use Rattle.dir_records.specs.declared.entry.DirEntry.{DirEntry}
use Rattle.crash_core.specs.EntryLists.{IsUnnamed, entry_at}
use Rattle.crash_core.proofs.Lists.{set_at}
use Rattle.crash_core.specs.declared.change.EntryChange.{EntryChange}
use Rattle.crash_core.specs.declared.change.EntryChange.TheVariants.{Put, Clear}
use Rattle.crash_core.specs.EntryChanges.{changed}
use Rattle.store_commit.specs.Holds.{AreApart, AreHolds, EndsHoldOf, HoldsWithout, IsFreeFile, IsTaken, file_held, unless_file}

-- what is held still was held, and is another file
pub unless_was : (file other : ℕ) (o : Option ℕ) → unless_file file o ≡ Some other → (o ≡ Some other) × (other ≢ file)
unless_was file other None is = absurd (cc (is))
unless_was file other (Some held) is = by_test (held == file) refl
  where
    by_test : (b : Bool) → held == file ≡ b → (let o : Option ℕ = Some held in o ≡ Some other) × (other ≢ file)
    by_test true alike = absurd (cc (sym (ap (λ (b : Bool). let o : Option ℕ = if b then None else Some held in o) alike) ∙ is))
    by_test false alike =
        let same : (let o : Option ℕ = Some held in o ≡ Some other) = sym (ap (λ (b : Bool). let o : Option ℕ = if b then None else Some held in o) alike) ∙ is in
        let number : held ≡ other = cc (same) in
        (same, λ equal. absurd (cc (sym alike ∙ eq-eqb held file (number ∙ equal))))

abbrev pub AreDropped : (file : ℕ) → (old now : List (Option ℕ)) → (upto : ℕ) → Type 0
AreDropped file old now upto =
    ((session : ℕ) → session < upto → file_held now session ≡ unless_file file (file_held old session))
    × ((session : ℕ) → upto ≤ session → file_held now session ≡ file_held old session)

pub dropped_next : (file : ℕ) (old now : List (Option ℕ)) (i : ℕ) → i < length now → AreDropped file old now i
    → AreDropped file old (slice_set now i (unless_file file (file_held now i))) (i + 1)
dropped_next file old now i low are = (
  (λ session below. elim (cases_eq session i) [
    | inl same ↦
        ap (file_held (slice_set now i (unless_file file (file_held now i)))) same ∙ get_or-set_same now i (unless_file file (file_held now i)) None low
        ∙ ap (unless_file file) (are.1 i (omega arith)) ∙ ap (λ (k : ℕ). unless_file file (file_held old k)) (sym same)
    | inr other ↦ get_or-set_other now i session (unless_file file (file_held now i)) None other ∙ are.0 session (omega arith)
  ]),
  λ session above. get_or-set_other now i session (unless_file file (file_held now i)) None (λ same. absurd (omega arith)) ∙ are.1 session (omega arith),
)

pub all_dropped : (file : ℕ) (old now : List (Option ℕ)) (i : ℕ) → length old ≤ i → AreDropped file old now i → HoldsWithout file old now
all_dropped file old now i past are session = elim (cases_lt session i) [
  | inl low ↦ are.0 session low
  | inr high ↦ are.1 session high ∙ get_or_past old session None (omega arith)
      ∙ ap (unless_file file) (sym (get_or_past old session None (omega arith)))
]

-- an entry that a change puts names its file, and no other
unnamed_put : (entries : List (Option DirEntry)) (index : ℕ) (e : DirEntry) (file : ℕ) → IsUnnamed entries file → file ≢ e.file → IsUnnamed (slice_set entries index (Some e)) file
unnamed_put entries index e file unnamed other i f at = by_way (set_at entries index i (Some e) f at)
  where
    by_way : (let o : Option DirEntry = Some e in o ≡ Some f) ⊎ (entry_at entries i ≡ Some f) → file ≢ f.file
    by_way (inl is) = let same : e ≡ f = cc (is) in λ named. other (named ∙ ap (λ (x : DirEntry). x.file) (sym same))
    by_way (inr was) = unnamed i f was

unnamed_clear : (entries : List (Option DirEntry)) (index : ℕ) (file : ℕ) → IsUnnamed entries file → IsUnnamed (slice_set entries index None) file
unnamed_clear entries index file unnamed i f at = by_way (set_at entries index i None f at)
  where
    by_way : (let o : Option DirEntry = None in o ≡ Some f) ⊎ (entry_at entries i ≡ Some f) → file ≢ f.file
    by_way (inl is) = absurd (cc (is))
    by_way (inr was) = unnamed i f was

-- the holds after a change
pub holds_after : (entries : List (Option DirEntry)) (old new : List (Option ℕ)) (change : EntryChange) → AreHolds entries old → EndsHoldOf change old new
    → AreHolds (changed entries change) new
holds_after entries old new (Put index e) holds without = record {
  within = λ session file held. holds.within session file (unless_was e.file file (file_held old session) (sym (without session) ∙ held)).0;
  unnamed = λ session file held.
      let was = unless_was e.file file (file_held old session) (sym (without session) ∙ held) in
      unnamed_put entries index e file (holds.unnamed session file was.0) was.1;
  single = λ a b file x y.
      holds.single a b file (unless_was e.file file (file_held old a) (sym (without a) ∙ x)).0 (unless_was e.file file (file_held old b) (sym (without b) ∙ y)).0;
}
holds_after entries old new (Clear index) holds same = subst (AreHolds (changed entries (Clear index))) (sym same) (record {
  within = holds.within;
  unnamed = λ session file held. unnamed_clear entries index file (holds.unnamed session file held);
  single = holds.single;
})

-- nothing is held
pub none_held : (n session file : ℕ) → (let none : Option ℕ = None in file_held (replicate n none) session ≡ Some file) → ⊥
none_held zero session file is = absurd (cc (is))
none_held (suc n) zero file is = absurd (cc (is))
none_held (suc n) (suc session) file is = none_held n session file is

pub no_holds : (entries : List (Option DirEntry)) (n : ℕ) → (let none : Option ℕ = None in AreHolds entries (replicate n none))
no_holds entries n = record {
  within = λ session file held. absurd (none_held n session file held);
  unnamed = λ session file held. absurd (none_held n session file held);
  single = λ a b file x y. absurd (none_held n a file x);
}

-- who holds a file after a session's hold was set
set_hold : (holds : List (Option ℕ)) (session s : ℕ) (more : Option ℕ) (file : ℕ) → file_held (slice_set holds session more) s ≡ Some file
    → ((s ≡ session) × (more ≡ Some file)) ⊎ (file_held holds s ≡ Some file)
set_hold holds session s more file is = elim (cases_eq s session) [
  | inl same ↦ inl (same, at_session (cases_lt session (length holds)) (ap (file_held (slice_set holds session more)) (sym same) ∙ is))
  | inr other ↦ inr (sym (get_or-set_other holds session s more None other) ∙ is)
]
  where
    at_session : (session < length holds) ⊎ (length holds ≤ session) → file_held (slice_set holds session more) session ≡ Some file → more ≡ Some file
    at_session (inl low) at = sym (get_or-set_same holds session more None low) ∙ at
    at_session (inr high) at =
        absurd (cc (sym (get_or_past (slice_set holds session more) session None (omega (arith, high, length-set holds session more))) ∙ at))

-- a session holds no file any more
pub released : (entries : List (Option DirEntry)) (holds : List (Option ℕ)) (session : ℕ) → AreHolds entries holds → AreHolds entries (slice_set holds session None)
released entries holds session are = record {
  within = λ s file held. are.within s file (was s file held);
  unnamed = λ s file held. are.unnamed s file (was s file held);
  single = λ a b file x y. are.single a b file (was a file x) (was b file y);
}
  where
    was : (s file : ℕ) → file_held (slice_set holds session None) s ≡ Some file → file_held holds s ≡ Some file
    was s file held = by_way (set_hold holds session s None file held)
      where
        by_way : ((s ≡ session) × (let none : Option ℕ = None in none ≡ Some file)) ⊎ (file_held holds s ≡ Some file) → file_held holds s ≡ Some file
        by_way (inl own) = absurd (cc (own.1))
        by_way (inr old) = old

-- a session holds a free file besides
pub reserved : (entries : List (Option DirEntry)) (holds : List (Option ℕ)) (session file : ℕ) → IsFreeFile entries holds file → AreHolds entries holds
    → AreHolds entries (slice_set holds session (Some file))
reserved entries holds session file free are = record {
  within = λ s f held. within s f (set_hold holds session s (Some file) f held);
  unnamed = λ s f held. unnamed s f (set_hold holds session s (Some file) f held);
  single = λ a b f x y. single a b f (set_hold holds session a (Some file) f x) (set_hold holds session b (Some file) f y);
}
  where
    within : (s f : ℕ) → ((s ≡ session) × (let some : Option ℕ = Some file in some ≡ Some f)) ⊎ (file_held holds s ≡ Some f) → f ≤ last_file
    within s f (inl own) = let same : file ≡ f = cc (own.1) in subst (λ (n : ℕ). n ≤ last_file) same free.upto
    within s f (inr old) = are.within s f old

    unnamed : (s f : ℕ) → ((s ≡ session) × (let some : Option ℕ = Some file in some ≡ Some f)) ⊎ (file_held holds s ≡ Some f) → IsUnnamed entries f
    unnamed s f (inl own) = let same : file ≡ f = cc (own.1) in subst (IsUnnamed entries) same free.unnamed
    unnamed s f (inr old) = are.unnamed s f old

    single : (a b f : ℕ) → ((a ≡ session) × (let some : Option ℕ = Some file in some ≡ Some f)) ⊎ (file_held holds a ≡ Some f) → ((b ≡ session) × (let some : Option ℕ = Some file in some ≡ Some f)) ⊎ (file_held holds b ≡ Some f) → a ≡ b
    single a b f (inl x) (inl y) = x.0 ∙ sym y.0
    single a b f (inl x) (inr y) = let same : file ≡ f = cc (x.1) in absurd (free.unheld b (y ∙ ap (λ (n : ℕ). let o : Option ℕ = Some n in o) (sym same)))
    single a b f (inr x) (inl y) = let same : file ≡ f = cc (y.1) in absurd (free.unheld a (x ∙ ap (λ (n : ℕ). let o : Option ℕ = Some n in o) (sym same)))
    single a b f (inr x) (inr y) = are.single a b f x y

-- what is taken stays so as a session holds a file more
pub taken_more : (entries : List (Option DirEntry)) (holds : List (Option ℕ)) (session : ℕ) (more o : Option ℕ) → file_held holds session ≡ None
    → IsTaken entries holds o → IsTaken entries (slice_set holds session more) o
taken_more entries holds session more None free is = tt
taken_more entries holds session more (Some file) free (inl named) = inl named
taken_more entries holds session more (Some file) free (inr (other, held)) = inr (other, get_or-set_other holds session other more None apart ∙ held)
  where
    apart : other ≢ session
    apart same = absurd (cc (sym held ∙ ap (file_held holds) same ∙ free))

-- and as it holds no more a file that is another
pub taken_fewer : (entries : List (Option DirEntry)) (holds : List (Option ℕ)) (session : ℕ) (o : Option ℕ) → AreApart (file_held holds session) o
    → IsTaken entries holds o → IsTaken entries (slice_set holds session None) o
taken_fewer entries holds session None apart is = tt
taken_fewer entries holds session (Some file) apart (inl named) = inl named
taken_fewer entries holds session (Some file) apart (inr (other, held)) = inr (other, get_or-set_other holds session other None None differ ∙ held)
  where
    differ : other ≢ session
    differ same = let h : file_held holds session ≡ Some file = ap (file_held holds) (sym same) ∙ held in subst (λ (o : Option ℕ). AreApart o (Some file)) h apart refl

-- a free file is not one that is taken
pub free_apart : (entries : List (Option DirEntry)) (holds : List (Option ℕ)) (file : ℕ) (o : Option ℕ) → IsFreeFile entries holds file → IsTaken entries holds o → AreApart (Some file) o
free_apart entries holds file None free taken is = absurd (cc (is))
free_apart entries holds file (Some other) free (inl (index, e, at, same)) is =
    let equal : other ≡ file = cc (is) in free.unnamed index e at (sym equal ∙ sym same)
free_apart entries holds file (Some other) free (inr (session, held)) is = free.unheld session (held ∙ is)
