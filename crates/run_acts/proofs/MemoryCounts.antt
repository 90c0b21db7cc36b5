-- Files whose counts are the same, list by list and file by file.
use Rattle.std.proofs.Common.{◌≡◌, ℕ, zero, suc, List, [], ◌∷◌, length, map, refl}
use Rattle.disk_model.specs.State.{FileState}
use Rattle.object_calls.specs.OpeningFiles.{files_of}

pub fed_each : {F : Type 0} (state : F → FileState) (old new : List F) → map (λ f. (state f).starved) new ≡ map (λ f. (state f).starved) old
    → (file : ℕ) → (files_of state new file).starved ≡ (files_of state old file).starved
fed_each state [] [] is file = refl
fed_each state [] (f ∷ new) is file = cc
fed_each state (f ∷ old) [] is file = cc
fed_each state (f ∷ old) (g ∷ new) is zero = cc
fed_each state (f ∷ old) (g ∷ new) is (suc file) = fed_each state old new (cc) file

-- where no file counts otherwise the lists of counts are the same
pub fed_counts : {F : Type 0} (state : F → FileState) (old new : List F) → length old ≡ length new → ((file : ℕ) → (files_of state new file).starved ≡ (files_of state old file).starved)
    → map (λ f. (state f).starved) new ≡ map (λ f. (state f).starved) old
fed_counts state [] [] same with_memory = refl
fed_counts state [] (f ∷ new) same with_memory = cc
fed_counts state (f ∷ old) [] same with_memory = cc
fed_counts state (f ∷ old) (g ∷ new) same with_memory =
    let first : (state g).starved ≡ (state f).starved = with_memory 0 in
    let others : map (λ f. (state f).starved) new ≡ map (λ f. (state f).starved) old = fed_counts state old new (cc) (λ file. with_memory (suc file)) in
    cc
