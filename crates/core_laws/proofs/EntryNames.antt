-- Which entry a name has after one came, went, or got another name.
use Rattle.std.proofs.Common.{◌≡◌, ◌==◌, ℕ, Bool, true, false, true≢false, cond, not, List, [], ◌∷◌, ◌++◌, map, filter, Option, Some, None, refl, sym, ap, ◌∙◌, subst, is_eq, append_assoc}
use Rattle.std.proofs.lemmas.Bool.{cond-false, cond-true, eq-eqb}
use Rattle.store_model.specs.declared.name.ObjectName.{ObjectName}
use Rattle.store_model.specs.Name.{name_eq}
use Rattle.store_model.specs.Record.{Tag}
use Rattle.store_model.proofs.Maps.{at, name_cmp_total}
use Rattle.store_model.proofs.MapLaws.{alike}
use Rattle.std.proofs.lemmas.Cmp.{tied_itself}
use Rattle.crash_core.proofs.Names.{name_test}
use Rattle.history_seats.specs.Records.{Version}
use Rattle.history_seats.specs.Mounts.{Entry}
use Rattle.history_seats.specs.Versions.{is_entry_of}
use Rattle.history_seats.specs.Directory.{renamed}
use Rattle.history_seats.proofs.Lists.{and_parts, both_true}
use Rattle.std.proofs.lemmas.Bool.{eqb-true}
use Rattle.core_laws.specs.Stores.{entry_named}
use Rattle.core_laws.specs.Mapped.{AreApart}
use Rattle.core_laws.specs.EntryLaws.{AreUnique}
use Rattle.core_laws.proofs.Mending.{none_some, some_same}
use Rattle.core_laws.proofs.InStep.{same_entry}

pub at_itself : (a : ObjectName) → at a a ≡ true
at_itself a = ap is_eq (tied_itself name_cmp_total a)

-- a name that is tied to one of two is tied to the other where these are
pub at_other : (a b q : ObjectName) → at a b ≡ true → at a q ≡ false → at q b ≡ false
at_other a b q tied off = alike.symm q b ∙ sym (alike.congr a b q tied) ∙ off

-- The entries without those that the test finds, where it finds exactly those of that name.
abbrev pub FindsName : (Entry → Bool) → ObjectName → List Entry → Type 0
FindsName test name [] = Unit {0}
FindsName test name (e ∷ entries) = (test e ≡ at name e.name) × FindsName test name entries

module _ (test : Entry → Bool) (name : ObjectName) where
  pub named_without : (q : ObjectName) (entries : List Entry) → FindsName test name entries
      → entry_named q (filter (λ e. not (test e)) entries) ≡ cond (at name q) None (entry_named q entries)
  named_without q [] finds = by_test (at name q)
    where
      by_test : (b : Bool) → ◌≡◌ {A = Option Entry} None (cond b None None)
      by_test true = refl
      by_test false = refl
  named_without q (e ∷ entries) finds = by_test (named_without q entries finds.1) (test e) refl (at name q) refl
    where
      by_test : entry_named q (filter (λ x. not (test x)) entries) ≡ cond (at name q) None (entry_named q entries) → (b : Bool) → test e ≡ b → (c : Bool) → at name q ≡ c
          → entry_named q (cond (not (test e)) (e ∷ filter (λ x. not (test x)) entries) (filter (λ x. not (test x)) entries)) ≡ cond (at name q) None (cond (at q e.name) (Some e) (entry_named q entries))
      by_test later true is c tied =
          ap (λ (b : Bool). entry_named q (cond (not b) (e ∷ filter (λ x. not (test x)) entries) (filter (λ x. not (test x)) entries))) is ∙ later
          ∙ by_name c tied
        where
          by_name : (c : Bool) → at name q ≡ c → cond (at name q) None (entry_named q entries) ≡ cond (at name q) None (cond (at q e.name) (Some e) (entry_named q entries))
          by_name true y = ap (λ (b : Bool). cond b None (entry_named q entries)) y ∙ sym (ap (λ (b : Bool). cond b None (cond (at q e.name) (Some e) (entry_named q entries))) y)
          by_name false y =
              let off : at q e.name ≡ false = at_other name e.name q (sym finds.0 ∙ is) y in
              ap (λ (b : Bool). cond (at name q) None (cond b (Some e) (entry_named q entries))) (sym off)
      by_test later false is true tied =
          let off : at q e.name ≡ false = sym (alike.congr name q e.name tied) ∙ sym finds.0 ∙ is in
          ap (λ (b : Bool). entry_named q (cond (not b) (e ∷ filter (λ x. not (test x)) entries) (filter (λ x. not (test x)) entries))) is
          ∙ ap (λ (b : Bool). cond b (Some e) (entry_named q (filter (λ x. not (test x)) entries))) off
          ∙ later ∙ ap (λ (b : Bool). cond b None (entry_named q entries)) tied
          ∙ sym (ap (λ (b : Bool). cond b None (cond (at q e.name) (Some e) (entry_named q entries))) tied)
      by_test later false is false tied =
          ap (λ (b : Bool). entry_named q (cond (not b) (e ∷ filter (λ x. not (test x)) entries) (filter (λ x. not (test x)) entries))) is
          ∙ ap (λ (o : Option Entry). cond (at q e.name) (Some e) o) (later ∙ ap (λ (b : Bool). cond b None (entry_named q entries)) tied)
          ∙ sym (ap (λ (b : Bool). cond b None (cond (at q e.name) (Some e) (entry_named q entries))) tied)

-- the test of names finds a name
pub finds_by_name : (name : ObjectName) (entries : List Entry) → FindsName (λ e. name_eq name e.name) name entries
finds_by_name name [] = tt
finds_by_name name (e ∷ entries) = (sym (name_test name e.name), finds_by_name name entries)

-- a name that no entry has
pub none_at : (name : ObjectName) (front back : List Entry) (e : Entry) → entry_named name (front ++ e ∷ back) ≡ None → at name e.name ≡ false
none_at name [] back e none = by_test (at name e.name) refl none
  where
    by_test : (b : Bool) → at name e.name ≡ b → cond b (Some e) (entry_named name back) ≡ None → at name e.name ≡ false
    by_test true is found = absurd (none_some e (sym found))
    by_test false is found = is
none_at name (x ∷ front) back e none = by_test (none_at name front back e) (at name x.name) none
  where
    by_test : (entry_named name (front ++ e ∷ back) ≡ None → at name e.name ≡ false) → (b : Bool) → cond b (Some x) (entry_named name (front ++ e ∷ back)) ≡ None → at name e.name ≡ false
    by_test later true found = absurd (none_some x (sym found))
    by_test later false found = later found

-- each entry of unique ones is the one of its name
pub unique_found : (front back : List Entry) (e : Entry) → AreUnique (front ++ e ∷ back) → entry_named e.name (front ++ e ∷ back) ≡ Some e
unique_found [] back e unique = ap (λ (b : Bool). cond b (Some e) (entry_named e.name back)) (at_itself e.name)
unique_found (x ∷ front) back e unique =
    ap (λ (b : Bool). cond b (Some x) (entry_named e.name (front ++ e ∷ back))) (alike.symm e.name x.name ∙ none_at x.name front back e unique.0)
    ∙ unique_found front back e unique.1

-- Where entries are unique and apart, the test of a file and generation finds exactly the name of its entry.
module _ (file generation : ℕ) (name : ObjectName) (entry : Entry) (all : List Entry) (unique : AreUnique all) (apart : AreApart all) (named : entry_named name all ≡ Some entry)
    (is_file : entry.file ≡ file) (is_generation : entry.generation ≡ generation) where
  test-is : (e : Entry) → entry_named e.name all ≡ Some e → is_entry_of file generation e ≡ at name e.name
  test-is e found = by_test (is_entry_of file generation e) refl
    where
      by_name : (b : Bool) → at name e.name ≡ b → is_entry_of file generation e ≡ false → false ≡ at name e.name
      by_name false is off = sym is
      by_name true is off =
          let same : entry ≡ e = some_same entry e (sym named ∙ same_entry name e.name all is ∙ found) in
          absurd (true≢false (sym (both_true (e.file == file) (e.generation == generation) (eq-eqb e.file file (sym (ap (λ (x : Entry). x.file) same) ∙ is_file)) (eq-eqb e.generation generation (sym (ap (λ (x : Entry). x.generation) same) ∙ is_generation))) ∙ off))

      by_test : (b : Bool) → is_entry_of file generation e ≡ b → is_entry_of file generation e ≡ at name e.name
      by_test true is =
          let both = and_parts (e.file == file) (e.generation == generation) is in
          is ∙ sym (apart name e.name entry e named found (is_file ∙ sym (eqb-true e.file file both.0)))
      by_test false is = is ∙ by_name (at name e.name) refl is

  finds-from : (front rest : List Entry) → front ++ rest ≡ all → FindsName (is_entry_of file generation) name rest
  finds-from front [] is = tt
  finds-from front (e ∷ rest) is = (
    test-is e (subst (λ (l : List Entry). entry_named e.name l ≡ Some e) is (unique_found front rest e (subst AreUnique (sym is) unique))),
    finds-from (front ++ e ∷ []) rest (append_assoc front (e ∷ []) rest ∙ is),
  )

  pub finds_own : FindsName (is_entry_of file generation) name all
  finds_own = finds-from [] all refl

-- The entries in which those that the test finds got another name, which no entry has.
module _ (tag : Tag Version) (old new : ObjectName) where
  abbrev renamed_all : List Entry → List Entry
  renamed_all entries = map (renamed tag new) entries

  abbrev moved : Entry → Entry
  moved e = record e { name = new }

  -- of the old name there is none, and other names are as they were
  pub named_otherwise : (q : ObjectName) (entries : List Entry) → FindsName (is_entry_of tag.file tag.generation) old entries → at new q ≡ false
      → entry_named q (renamed_all entries) ≡ cond (at old q) None (entry_named q entries)
  named_otherwise q [] finds off = by_test (at old q)
    where
      by_test : (b : Bool) → ◌≡◌ {A = Option Entry} None (cond b None None)
      by_test true = refl
      by_test false = refl
  named_otherwise q (e ∷ entries) finds off = by_test (named_otherwise q entries finds.1 off) (is_entry_of tag.file tag.generation e) refl (at old q) refl
    where
      by_test : entry_named q (map (renamed tag new) entries) ≡ cond (at old q) None (entry_named q entries)
          → (b : Bool) → is_entry_of tag.file tag.generation e ≡ b → (c : Bool) → at old q ≡ c
          → cond (at q (renamed tag new e).name) (Some (renamed tag new e)) (entry_named q (map (renamed tag new) entries)) ≡ cond (at old q) None (cond (at q e.name) (Some e) (entry_named q entries))
      by_test later true is c tied =
          let name_is : renamed tag new e ≡ moved e = cond-true (is_entry_of tag.file tag.generation e) (moved e) e is in
          ap (λ (x : Entry). cond (at q x.name) (Some x) (entry_named q (map (renamed tag new) entries))) name_is
          ∙ ap (λ (b : Bool). cond b (Some (moved e)) (entry_named q (map (renamed tag new) entries))) (alike.symm q new ∙ off)
          ∙ later ∙ by_name c tied
        where
          by_name : (c : Bool) → at old q ≡ c → cond (at old q) None (entry_named q entries) ≡ cond (at old q) None (cond (at q e.name) (Some e) (entry_named q entries))
          by_name true y = ap (λ (b : Bool). cond b None (entry_named q entries)) y ∙ sym (ap (λ (b : Bool). cond b None (cond (at q e.name) (Some e) (entry_named q entries))) y)
          by_name false y = ap (λ (b : Bool). cond (at old q) None (cond b (Some e) (entry_named q entries))) (sym (at_other old e.name q (sym finds.0 ∙ is) y))
      by_test later false is true tied =
          let same : renamed tag new e ≡ e = cond-false (is_entry_of tag.file tag.generation e) (moved e) e is in
          ap (λ (x : Entry). cond (at q x.name) (Some x) (entry_named q (map (renamed tag new) entries))) same
          ∙ ap (λ (b : Bool). cond b (Some e) (entry_named q (map (renamed tag new) entries))) (sym (alike.congr old q e.name tied) ∙ sym finds.0 ∙ is)
          ∙ later ∙ ap (λ (b : Bool). cond b None (entry_named q entries)) tied
          ∙ sym (ap (λ (b : Bool). cond b None (cond (at q e.name) (Some e) (entry_named q entries))) tied)
      by_test later false is false tied =
          let same : renamed tag new e ≡ e = cond-false (is_entry_of tag.file tag.generation e) (moved e) e is in
          ap (λ (x : Entry). cond (at q x.name) (Some x) (entry_named q (map (renamed tag new) entries))) same
          ∙ ap (λ (o : Option Entry). cond (at q e.name) (Some e) o) (later ∙ ap (λ (b : Bool). cond b None (entry_named q entries)) tied)
          ∙ sym (ap (λ (b : Bool). cond b None (cond (at q e.name) (Some e) (entry_named q entries))) tied)

  -- the new name has the entry of the old one
  pub named_anew : (q : ObjectName) (entry : Entry) (entries : List Entry) → FindsName (is_entry_of tag.file tag.generation) old entries → at new q ≡ true
      → entry_named new entries ≡ None → entry_named old entries ≡ Some entry → entry_named q (renamed_all entries) ≡ Some (moved entry)
  named_anew q entry [] finds tied none found = absurd (none_some entry found)
  named_anew q entry (e ∷ entries) finds tied none found =
      by_test (named_anew q entry entries finds.1 tied) (is_entry_of tag.file tag.generation e) refl (at new e.name) refl none found
    where
      by_test : (entry_named new entries ≡ None → entry_named old entries ≡ Some entry → entry_named q (map (renamed tag new) entries) ≡ Some (moved entry))
          → (b : Bool) → is_entry_of tag.file tag.generation e ≡ b → (c : Bool) → at new e.name ≡ c
          → cond c (Some e) (entry_named new entries) ≡ None → cond (at old e.name) (Some e) (entry_named old entries) ≡ Some entry
          → cond (at q (renamed tag new e).name) (Some (renamed tag new e)) (entry_named q (map (renamed tag new) entries)) ≡ Some (moved entry)
      by_test later b is true here nothing found = absurd (none_some e (sym nothing))
      by_test later true is false here nothing found =
          let name_is : renamed tag new e ≡ moved e = cond-true (is_entry_of tag.file tag.generation e) (moved e) e is in
          let same : e ≡ entry = some_same e entry (sym (ap (λ (b : Bool). cond b (Some e) (entry_named old entries)) (sym finds.0 ∙ is)) ∙ found) in
          ap (λ (x : Entry). cond (at q x.name) (Some x) (entry_named q (map (renamed tag new) entries))) name_is
          ∙ ap (λ (b : Bool). cond b (Some (moved e)) (entry_named q (map (renamed tag new) entries))) (alike.symm q new ∙ tied)
          ∙ ap (λ (x : Entry). Some (moved x)) same
      by_test later false is false here nothing found =
          let same : renamed tag new e ≡ e = cond-false (is_entry_of tag.file tag.generation e) (moved e) e is in
          ap (λ (x : Entry). cond (at q x.name) (Some x) (entry_named q (map (renamed tag new) entries))) same
          ∙ ap (λ (b : Bool). cond b (Some e) (entry_named q (map (renamed tag new) entries))) (sym (alike.congr new q e.name tied) ∙ here)
          ∙ later nothing (sym (ap (λ (b : Bool). cond b (Some e) (entry_named old entries)) (sym finds.0 ∙ is)) ∙ found)
