-- A directory without objects.
use Rattle.std.proofs.Common.{◌≡◌, ◌∙◌, ◌*◌, ◌/◌, ◌%◌, ◌<◌, ◌==◌, ℕ, zero, suc, List, [], ◌∷◌, length, map, get_or, Option, Some, None, Result, Ok, is_none, if◌then◌else◌, Bool, true, false, refl, sym, ap, subst, arith, unwrap_or}
use Rattle.std.specs.Prelude.{IfSome, replicate, take, drop, ◌&&◌}
use Rattle.std.proofs.lemmas.List.{get_or-map, length-map, get_or-replicate, length-replicate}
use Rattle.byte_fields.specs.Field.{field}
use Rattle.disk_model.specs.State.{FileState, Sound}
use Rattle.disk_model.proofs.ImageLaws.{reads_left}
use Rattle.aes_block.specs.WrappedKey.{unwrapped_of}
use Rattle.node_image.specs.declared.node.RootRef.{RootRef}
use Rattle.node_image.specs.Layout.{greatest_of}
use Rattle.htree_file.specs.Opening.{IsVerified, Loaded, load_of}
use Rattle.htree_file.specs.Standing.{IsFirm}
use Rattle.htree_file.specs.Pages.{Opened, opened_of}
use Rattle.node_image.specs.Selection.{selected_tree}
use Rattle.crash_core.proofs.SameDirectory.{directory_same}
use Rattle.dir_file.specs.Held.{IsDurable}
use Rattle.dir_file.specs.Inside.{DirInside, NextFits}
use Rattle.htree_file.specs.Value.{Staged}
use Rattle.htree_file.specs.Value.{TreeValue}
use Rattle.htree_file.proofs.Sizes.{sized_greatest}
use Rattle.dir_records.specs.declared.entry.DirEntry.{DirEntry}
use Rattle.dir_records.specs.declared.entry.BadRecord.{BadRecord}
use Rattle.dir_records.specs.Form.{HasForm, entry_or, first_fault, is_free, record_of}
use Rattle.dir_records.specs.Layout.{entry_of}
use Rattle.dir_records.proofs.Bytes.{is_free-replicate}
use Rattle.crash_core.specs.Entries.{is_double}
use Rattle.dir_file.specs.EntryForms.{no_entries}
use Rattle.dir_file.specs.Making.{AreBlank}
use Rattle.dir_file.proofs.Entries.{HoldsEntries, directory_opened}

and_both : (a b : Bool) → (a && b) ≡ true → (a ≡ true) × (b ≡ true)
and_both true b h = (refl, h)
and_both false b h = absurd (cc (h))

free_take : (k : ℕ) (xs : List ℕ) → is_free xs ≡ true → is_free (take k xs) ≡ true
free_take zero xs h = refl
free_take (suc k) [] h = refl
free_take (suc k) (x ∷ xs) h = let both = and_both (x == 0) (is_free xs) h in ap (λ (b : Bool). b && is_free (take k xs)) both.0 ∙ free_take k xs both.1

free_drop : (k : ℕ) (xs : List ℕ) → is_free xs ≡ true → is_free (drop k xs) ≡ true
free_drop zero xs h = h
free_drop (suc k) [] h = refl
free_drop (suc k) (x ∷ xs) h = free_drop k xs (and_both (x == 0) (is_free xs) h).1

blank_record : (n a : ℕ) → record_of (field a 128 (replicate n 0)) ≡ Ok None
blank_record n a =
    ap (λ (b : Bool). if b then (let r : Result (Option DirEntry) BadRecord = Ok None in r) else entry_or (first_fault (field a 128 (replicate n 0))) (entry_of (field a 128 (replicate n 0))))
    (free_take 128 (drop a (replicate n 0)) (free_drop a (replicate n 0) (is_free-replicate n)))

free_count : length no_entries ≡ 256
free_count = let none : Option DirEntry = None in length-replicate 256 none

none_at : (i : ℕ) → i < 256 → get_or no_entries i None ≡ None
none_at i lt = get_or-replicate 256 i None None lt

abbrev pub blank : List (List ℕ) → Opened
blank pages = record { bytes = 32768; pages = map (λ page. Some page) pages }

blank_at : (pages : List (List ℕ)) → AreBlank pages → (k : ℕ) → k < 8 → get_or (blank pages).pages k None ≡ Some (replicate 4096 0)
blank_at pages b k lt = get_or-map (λ p. Some p) pages k [] None (omega (arith, b.long)) ∙ ap (λ (p : List ℕ). let o : Option (List ℕ) = Some p in o) (b.zero k lt)

pub blank_holds : (pages : List (List ℕ)) → AreBlank pages → HoldsEntries (blank pages) no_entries
blank_holds pages b = record {
  bytes = refl;
  blocks = length-map pages (λ p. Some p) ∙ b.long;
  good = λ k lt. ap is_none (blank_at pages b k lt);
  entries_are = record {
    long = free_count;
    records = λ i lt.
        ap (λ (o : Option (List ℕ)). record_of (field (128 * (i % 32)) 128 (unwrap_or o []))) (blank_at pages b (i / 32) (omega arith))
        ∙ blank_record 4096 (128 * (i % 32))
        ∙ ap (λ (e : Option DirEntry). let r : Result (Option DirEntry) BadRecord = Ok e in r) (sym (none_at i lt));
  };
  distinct_are = λ i lt j le. ap (λ (e : Option DirEntry). is_double e (get_or no_entries i None)) (none_at j (omega arith));
}

-- a directory that is made is held
pub made_held : (s : FileState) (tsk : List ℕ) (root : RootRef) (tree : Loaded) (pages : List (List ℕ)) → Sound s → IsFirm s root tree → AreBlank pages
    → load_of s.reads root ≡ Ok tree → opened_of tsk s.reads root ≡ Ok (blank pages) → IsDurable s tsk root tree no_entries
made_held s tsk root tree pages sound firm b loads opens = record {
  firm = firm;
  entries_are = λ image left.
      directory_same image s.reads root tree (selected_tree s.reads root) (firm image left) (firm s.reads (reads_left s sound)) tsk
      ∙ directory_opened tsk s.reads root tree (blank pages) no_entries loads opens (blank_holds pages b);
}

-- and its parts fit
pub made_inside : {F : Type 0} (t : TreeValue F) (tsk : List ℕ) (root : RootRef) (entries : List (Option DirEntry)) → entries ≡ no_entries → t.key ≡ unwrapped_of tsk t.tree.head.wrapped
    → root ≡ t.root → IsVerified root t.tree → t.tree.head.length ≡ 32768 → t.stage ≡ None → DirInside t tsk entries None
made_inside t tsk root entries is keyed is_root verified bytes idle = record {
  whole = ap length is ∙ free_count;
  forms = λ i lt. subst (λ (e : Option DirEntry). IfSome e HasForm) (sym (ap (λ (l : List (Option DirEntry)). get_or l i None) is ∙ none_at i (omega (arith, ap length is, free_count, lt)))) tt;
  key = keyed;
  tree = record { bytes = bytes; blocks = sized_greatest t.tree.head verified.hashed.sized ∙ ap greatest_of bytes; verified = subst (λ (r : RootRef). IsVerified r t.tree) is_root verified };
  staged = subst (λ (o : Option Staged). NextFits t.tree.head.wrapped o None) (sym idle) refl;
}

eight : (x : List ℕ) (k : ℕ) → k < 8 → get_or (x ∷ x ∷ x ∷ x ∷ x ∷ x ∷ x ∷ x ∷ []) k [] ≡ x
eight x zero lt = refl
eight x (suc zero) lt = refl
eight x (suc (suc zero)) lt = refl
eight x (suc (suc (suc zero))) lt = refl
eight x (suc (suc (suc (suc zero)))) lt = refl
eight x (suc (suc (suc (suc (suc zero))))) lt = refl
eight x (suc (suc (suc (suc (suc (suc zero)))))) lt = refl
eight x (suc (suc (suc (suc (suc (suc (suc zero))))))) lt = refl
eight x (suc (suc (suc (suc (suc (suc (suc (suc k)))))))) lt = absurd (omega arith)

pub eight_blank : (x : List ℕ) → x ≡ replicate 4096 0 → AreBlank (x ∷ x ∷ x ∷ x ∷ x ∷ x ∷ x ∷ x ∷ [])
eight_blank x is = record { long = refl; zero = λ k lt. eight x k lt ∙ is }
