-- A map of images by their marks, as what is kept.
use Rattle.std.proofs.Common.{◌≡◌, ℕ, Bool, true, false, cond, nat_eq, nat_lt, List, [], ◌∷◌, Option, Some, None, refl, sym, ap, ◌∙◌, inl, inr, Vec, Global, arith}
use Rattle.std.specs.Prelude.{slice_get, option_and_then}
use Rattle.std.specs.Map.{lookup}
use Rattle.std.specs.Cmp.Lexicographic.{pointwise, same_text}
use Rattle.std.proofs.lemmas.Bool.{cases_lt, false≢true}
use Rattle.std.proofs.lemmas.Bool.Decides.{nat_tests}
use Rattle.std.proofs.lemmas.Option.{slice_get_past}
use Rattle.indexmap.specs.IndexMap.{insert_entry}
use Rattle.tee_types.specs.Limits.{file_count}
use Rattle.script_text.specs.Words.{same_word}
use Rattle.run_acts.specs.Alterations.{SavesFiles}
use Rattle.run_acts.specs.Benches.{BenchState}
use Rattle.script_runner.specs.SavedFiles.{reads_saved, saved_in, with_saved}

-- the entries of a map from marks
abbrev Entries : Type 0
Entries = List (Vec ℕ Global × Vec (List ℕ) Global)

abbrev same_key : Vec ℕ Global → Vec ℕ Global → Bool
same_key x y = pointwise nat_eq x.items y.items

-- what is kept under a mark
abbrev found : List ℕ → Entries → Option (Vec (List ℕ) Global)
found mark entries = lookup (λ (key : Vec ℕ Global). same_word mark key.items) entries

-- the key in front is the one that was set, or it is another
front-set : (mark : List ℕ) (key : Vec ℕ Global) (images : Vec (List ℕ) Global) (e : Vec ℕ Global × Vec (List ℕ) Global) (entries : Entries)
    → found mark (insert_entry same_key entries key images) ≡ cond (same_word mark key.items) (Some images) (found mark entries)
    → (one two three : Bool) → same_key key e.0 ≡ one → same_word mark (e.0).items ≡ two → same_word mark key.items ≡ three
    → found mark (cond one ((e.0, images) ∷ entries) (e ∷ insert_entry same_key entries key images)) ≡ cond three (Some images) (cond two (Some e.1) (found mark entries))
front-set mark key images e entries rest true two three is here set =
    let same : key.items ≡ (e.0).items = same_text key.items (e.0).items (sym is) in
    let both : two ≡ three = sym here ∙ ap (λ (t : List ℕ). same_word mark t) (sym same) ∙ set in
    ap (λ b. cond b (Some images) (found mark entries)) here ∙ alike two three both
  where
    alike : (a b : Bool) → a ≡ b → cond a (Some images) (found mark entries) ≡ cond b (Some images) (cond a (Some e.1) (found mark entries))
    alike true true same = refl
    alike false false same = refl
    alike true false same = absurd (false≢true (sym same))
    alike false true same = absurd (false≢true same)
front-set mark key images e entries rest false true true is here set =
    let one : mark ≡ (e.0).items = same_text mark (e.0).items (sym here) in
    let other : mark ≡ key.items = same_text mark key.items (sym set) in
    absurd (false≢true (sym is ∙ ap (λ (t : List ℕ). pointwise nat_eq t (e.0).items) (sym other) ∙ here))
front-set mark key images e entries rest false true false is here set = ap (λ b. cond b (Some e.1) (found mark (insert_entry same_key entries key images))) here
front-set mark key images e entries rest false false three is here set =
    ap (λ b. cond b (Some e.1) (found mark (insert_entry same_key entries key images))) here ∙ rest ∙ ap (λ b. cond b (Some images) (found mark entries)) set

found-insert : (mark : List ℕ) (entries : Entries) (key : Vec ℕ Global) (images : Vec (List ℕ) Global)
    → found mark (insert_entry same_key entries key images) ≡ cond (same_word mark key.items) (Some images) (found mark entries)
found-insert mark [] key images = refl
found-insert mark (e ∷ entries) key images =
    front-set mark key images e entries (found-insert mark entries key images) (same_key key e.0) (same_word mark (e.0).items) (same_word mark key.items) refl refl refl

chosen : (b : Bool) (images : Vec (List ℕ) Global) (o : Option (Vec (List ℕ) Global)) (file : ℕ)
    → option_and_then (λ (i : Vec (List ℕ) Global). slice_get i.items file) (cond b (Some images) o) ≡ cond b (slice_get images.items file) (option_and_then (λ (i : Vec (List ℕ) Global). slice_get i.items file) o)
chosen true images o file = refl
chosen false images o file = refl

-- images that are put into the map are kept
pub saved-insert : (entries : Entries) (key : Vec ℕ Global) (images : Vec (List ℕ) Global) → saved_in (insert_entry same_key entries key images) ≡ with_saved (saved_in entries) key.items (slice_get images.items)
saved-insert entries key images = λ i mark file. each mark file i
  where
    each : (mark : List ℕ) (file : ℕ) → saved_in (insert_entry same_key entries key images) mark file ≡ with_saved (saved_in entries) key.items (slice_get images.items) mark file
    each mark file =
        ap (option_and_then (λ (i : Vec (List ℕ) Global). slice_get i.items file)) (found-insert mark entries key images)
        ∙ chosen (same_word mark key.items) images (found mark entries) file

-- the images that were taken are what the files read as
pub images-kept : (bench : BenchState) (images : List (List ℕ)) → SavesFiles bench images → slice_get images ≡ reads_saved bench.files
images-kept bench images saves = λ i file. each file i
  where
    each : (file : ℕ) → slice_get images file ≡ reads_saved bench.files file
    each file = elim (cases_lt file file_count) [
      | inl within ↦ let below : nat_lt file file_count ≡ true = grind (arith, nat_tests, within) in saves.each file within ∙ sym (ap (λ b. cond b (Some (bench.files file).reads) None) below)
      | inr past ↦ let not_below : nat_lt file file_count ≡ false = grind (arith, nat_tests, past) in slice_get_past images file (omega (arith, saves.count, past)) ∙ sym (ap (λ b. cond b (Some (bench.files file).reads) None) not_below)
    ]
