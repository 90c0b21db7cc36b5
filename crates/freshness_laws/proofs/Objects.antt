-- What opens alike is a directory of the same entries, and an object whose good parts are equal.
use Rattle.std.proofs.Common.{◌≡◌, inl, inr, ℕ, zero, suc, ◌+◌, ◌/◌, ◌%◌, ◌<◌, ◌≤◌, ◌==◌, List, length, get_or, take, Bool, true, false, true≢false, cond, Option, Some, None, is_none, Result, Ok, Err, refl, sym, ◌∙◌, ap, subst, arith}
use Rattle.std.specs.List.{list_any}
use Rattle.std.proofs.lemmas.Bool.{cases_lt, cases_eq, cond-false, ne_eqb}
use Rattle.std.proofs.lemmas.List.{ext_get_or, get_or_past}
use Rattle.htree_file.specs.Pages.{Opened}
use Rattle.page_bytes.specs.Pages.{byte_in, bytes_from, page_at}
use Rattle.page_bytes.proofs.Content.{get_or-bytes_from, length-bytes_from}
use Rattle.store_model.specs.Object.{Damaged, Object, Sound, size_of}
use Rattle.dir_records.specs.declared.entry.DirEntry.{DirEntry}
use Rattle.crash_core.specs.declared.fault.DirFault.{DirFault}
use Rattle.crash_core.specs.declared.fault.DirFault.TheVariants.{WrongLength}
use Rattle.crash_core.specs.Directory.{bad_block, directory_from, directory_in, directory_pages, first_bad}
use Rattle.crash_core.specs.Entries.{distinct, entries_of}
use Rattle.crash_core.specs.MountedObject.{bad_blocks, object_of, object_with}
use Rattle.crash_core.proofs.BadBlocks.{list_any-bad-true}
use Rattle.freshness_laws.specs.Readings.{OpenedAgree}
use Rattle.freshness_laws.specs.Agreement.{ObjectsAgree}

eqb-self : (k : ℕ) → (k == k) ≡ true
eqb-self k = grind arith

pub not_bad : (o : Opened) (k : ℕ) → 1 ≤ k → k < length o.pages → list_any (λ j. j == k) (bad_blocks o.pages) ≡ false → page_at o.pages k ≡ None → ⊥
not_bad o k least lt good none = true≢false (sym (list_any-bad-true (λ j. j == k) o.pages k least lt none (eqb-self k)) ∙ good)

module _ (a b : Opened) (agree : OpenedAgree a b) where
  by_option : (k : ℕ) (x y : Option (List ℕ)) → page_at a.pages k ≡ x → page_at b.pages k ≡ y → (x ≡ None → ⊥) → (y ≡ None → ⊥) → page_at b.pages k ≡ page_at a.pages k
  by_option k None y one other some some_too = absurd (some refl)
  by_option k (Some p) None one other some some_too = absurd (some_too refl)
  by_option k (Some p) (Some q) one other some some_too = other ∙ ap (λ (l : List ℕ). Some l) (agree.pages k p q one other) ∙ sym one

  same_page : (k : ℕ) → 1 ≤ k → list_any (λ j. j == k) (bad_blocks a.pages) ≡ false → list_any (λ j. j == k) (bad_blocks b.pages) ≡ false → page_at b.pages k ≡ page_at a.pages k
  same_page k least good good_too = elim (cases_lt k (length a.pages)) [
    | inl lt ↦ by_option k (page_at a.pages k) (page_at b.pages k) refl refl (not_bad a k least lt good) (not_bad b k least (omega (arith, lt, agree.count)) good_too)
    | inr past ↦ get_or_past b.pages k None (omega (arith, past, agree.count)) ∙ sym (get_or_past a.pages k None past)
  ]

  module _ (size attributes : ℕ) where
    same_byte : (p : ℕ) → p < size → list_any (λ j. j == 1 + p / 4096) (bad_blocks a.pages) ≡ false → list_any (λ j. j == 1 + p / 4096) (bad_blocks b.pages) ≡ false
        → get_or (bytes_from (page_at b.pages) 4096 size) p 0 ≡ get_or (bytes_from (page_at a.pages) 4096 size) p 0
    same_byte p lt good good_too =
        let e : (4096 + p) / 4096 ≡ 1 + p / 4096 = omega arith in
        let page : page_at b.pages ((4096 + p) / 4096) ≡ page_at a.pages ((4096 + p) / 4096) =
        ap (page_at b.pages) e ∙ same_page (1 + p / 4096) (omega arith) good good_too ∙ ap (page_at a.pages) (sym e) in
        get_or-bytes_from (page_at b.pages) 4096 size p lt ∙ ap (λ (x : Option (List ℕ)). byte_in x ((4096 + p) % 4096)) page ∙ sym (get_or-bytes_from (page_at a.pages) 4096 size p lt)

    by_first : (x y : Option (List ℕ)) → page_at a.pages 0 ≡ x → page_at b.pages 0 ≡ y → ObjectsAgree (object_with size attributes a.pages x) (object_with size attributes b.pages y)
    by_first None None one other = record { size = refl; parts = tt }
    by_first None (Some q) one other = record { size = length-bytes_from (page_at b.pages) 4096 size; parts = tt }
    by_first (Some p) None one other = record { size = sym (length-bytes_from (page_at a.pages) 4096 size); parts = tt }
    by_first (Some p) (Some q) one other = record {
      size = length-bytes_from (page_at b.pages) 4096 size ∙ sym (length-bytes_from (page_at a.pages) 4096 size);
      parts = record {
        attributes = ap (take attributes) (agree.pages 0 p q one other);
        bytes = λ i lt good good_too. same_byte i (omega (arith, lt, length-bytes_from (page_at a.pages) 4096 size)) good good_too;
      };
    }

    by_length : (t : Bool) → ObjectsAgree (cond t (object_with size attributes a.pages (page_at a.pages 0)) (Damaged size)) (cond t (object_with size attributes b.pages (page_at b.pages 0)) (Damaged size))
    by_length true = by_first (page_at a.pages 0) (page_at b.pages 0) refl refl
    by_length false = record { size = refl; parts = tt }

    pub objects_agree : ObjectsAgree (object_of size attributes a) (object_of size attributes b)
    objects_agree =
        subst (λ (n : ℕ). ObjectsAgree (object_of size attributes a) (cond (n == 4096 + size) (object_with size attributes b.pages (page_at b.pages 0)) (Damaged size)))
        (sym agree.bytes) (by_length (a.bytes == 4096 + size))

pub damaged_before : (size : ℕ) (o : Object) → size_of o ≡ size → ObjectsAgree (Damaged size) o
damaged_before size o is = record { size = is; parts = tt }

pub damaged_behind : (size : ℕ) (o : Object) → size_of o ≡ size → ObjectsAgree o (Damaged size)
damaged_behind size (Sound c) is = record { size = sym is; parts = tt }
damaged_behind size (Damaged n) is = record { size = sym is; parts = tt }

cond_none : (b : Bool) (j : ℕ) (rest : Option ℕ) → cond b (Some j) rest ≡ None → (b ≡ false) × (rest ≡ None)
cond_none true j rest is = absurd (cc (is))
cond_none false j rest is = (refl, is)

bad_back : (pages : List (Option (List ℕ))) (k count : ℕ) → first_bad pages k count ≡ None → (j : ℕ) → k ≤ j → j < k + count → is_none (get_or pages j None) ≡ false
unfolding first_bad
bad_back pages k zero is j from upto = absurd (omega arith)
bad_back pages k (suc count) is j from upto =
    let both = cond_none (is_none (get_or pages k None)) k (first_bad pages (k + 1) count) is in
    elim (cases_eq j k) [
      | inl same ↦ subst (λ (m : ℕ). is_none (get_or pages m None) ≡ false) (sym same) both.0
      | inr other ↦ bad_back pages (k + 1) count both.1 j (omega arith) (omega arith)
    ]

-- what a directory that is read was read from: eight good pages
pub record IsWhole (o : Opened) : Type 0 where
  pub long : o.bytes ≡ 32768
  pub good : (k : ℕ) → k < 8 → page_at o.pages k ≡ None → ⊥

pub whole_of : (o : Opened) (entries : List (Option DirEntry)) → directory_from (Ok o) ≡ Ok entries → IsWhole o
whole_of o entries is = by_bad (bad_block o.bytes o.pages) refl is
  where
    by_length : (bytes : ℕ) → directory_in bytes o.pages ≡ Ok entries → bytes ≡ 32768
    by_length bytes is = elim (cases_eq bytes 32768) [
      | inl same ↦ same
      | inr other ↦ absurd (cc (sym (cond-false (bytes == 32768) (distinct (entries_of o.pages 256)) (Err (WrongLength bytes)) (ne_eqb bytes 32768 other)) ∙ is))
    ]

    not_none : (x : Option (List ℕ)) → is_none x ≡ false → x ≡ None → ⊥
    not_none x good none = true≢false (sym (ap is_none none) ∙ good)

    by_bad : (x : Option ℕ) → bad_block o.bytes o.pages ≡ x → directory_pages o x ≡ Ok entries → IsWhole o
    by_bad (Some k) bad is = absurd (cc (is))
    by_bad None bad is =
        let long : o.bytes ≡ 32768 = by_length o.bytes is in
        record {
          long = long;
          good = λ k lt none. not_none (page_at o.pages k) (bad_back o.pages 0 ((o.bytes + 4095) / 4096) bad k (omega arith) (omega (arith, long, lt))) none;
        }

-- directories that open alike, on eight pages, have the same entries
pub entries_same : (a b : Opened) (one other : List (Option DirEntry)) → OpenedAgree a b → length a.pages ≡ 8 → directory_from (Ok a) ≡ Ok one → directory_from (Ok b) ≡ Ok other → other ≡ one
entries_same a b one other agree eight is is_too =
    let whole = whole_of a one is in
    let whole_too = whole_of b other is_too in
    let pages : b.pages ≡ a.pages = ext_get_or None b.pages a.pages agree.count (λ k lt.
    let low : k < 8 = omega (arith, lt, agree.count, eight) in
    by_option a b agree k (page_at a.pages k) (page_at b.pages k) refl refl (whole.good k low) (whole_too.good k low)) in
    let same : b ≡ a = λ i. record { bytes = agree.bytes i; pages = pages i } in
    let both : ◌≡◌ {A = Result (List (Option DirEntry)) DirFault} (Ok other) (Ok one) = sym is_too ∙ ap (λ (o : Opened). directory_from (Ok o)) same ∙ is in
    cc (both)
