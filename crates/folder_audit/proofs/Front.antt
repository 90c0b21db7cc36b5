-- The block that a file begins with.
use Rattle.std.proofs.Common.{◌≡◌, ◌∙◌, ◌-◌, ◌==◌, ℕ, Bool, true, false, List, ◌++◌, length, min, take, drop, replicate, Option, Some, None, Err, refl, sym, ap, subst, arith, length-append, length-drop}
use Rattle.std.specs.List.{list_all}
use Rattle.std.proofs.lemmas.List.{drop-replicate, length-replicate, length-take, take_at}
use Rattle.node_image.specs.Selection.{bytes_at}
use Rattle.htree_file.proofs.Transfers.{padded_read}
use Rattle.disk_model.specs.State.{FileState}
use Rattle.hmac_keys.specs.declared.Keys.{Keys}
use Rattle.crash_core.specs.CardBlock.{first_outside, root_in, root_or}
use Rattle.store_commit.specs.Blocks.{block_answer}
use Rattle.store_commit.specs.declared.fault.MountFault.{MountFault}
use Rattle.store_commit.specs.declared.fault.MountFault.TheVariants.{CardBlock, NoStore}
use Rattle.store_commit.proofs.Outside.{root_other, root_zero}
use Rattle.folder_audit.specs.Reading.{IsStoreRefused}

-- what was read into zero bytes is the file's front, with zero behind its end
pub front_read : (file zeros read : List ℕ) (count size : ℕ) → zeros ≡ replicate size 0 → count ≡ min (length zeros) (length file - 0) → read ≡ take count (drop 0 file) ++ drop count zeros
    → read ≡ bytes_at file 0 size
front_read file zeros read count size blank counted got =
    let front : List ℕ = take count (drop 0 file) in
    let wide : length zeros ≡ size = ap length blank ∙ length-replicate size 0 in
    let long : length front ≡ count = omega (arith, length-take count (drop 0 file), length-drop 0 file, counted) in
    let behind : drop count zeros ≡ replicate (size - count) 0 = ap (drop count) blank ∙ drop-replicate count size 0 in
    let kept : take count read ≡ front = ap (take count) got ∙ take_at front (drop count zeros) count long in
    let all : length read ≡ size = omega (arith, ap length got, length-append front (drop count zeros), length-drop count zeros, long, wide, counted) in
    let cleared : read ≡ take count read ++ replicate (length read - count) 0 =
    got ∙ (λ i. sym kept i ++ behind i) ∙ ap (λ (n : ℕ). take count read ++ replicate (n - count) 0) (sym all) in
    padded_read file zeros read read 0 count size (sym wide) counted got cleared

-- one that names no directory is blank, or a byte of it is outside its form
pub root_refused : (keys : Keys) (block : List ℕ) (old new : FileState) (fault : MountFault) → Err fault ≡ block_answer (root_in block) → IsStoreRefused keys block old new fault
root_refused keys block old new fault is = by_test (list_all (λ x. x == 0) block) refl
  where
    or_faults : (o : Option ℕ) → root_in block ≡ root_or block o → IsStoreRefused keys block old new fault
    or_faults None named = absurd (cc (is, named))
    or_faults (Some offset) refused = let e : fault ≡ CardBlock offset = cc (is, refused) in subst (IsStoreRefused keys block old new) (sym e) refused

    by_test : (b : Bool) → list_all (λ x. x == 0) block ≡ b → IsStoreRefused keys block old new fault
    by_test true blank = let e : fault ≡ NoStore = cc (is, root_zero block blank) in subst (IsStoreRefused keys block old new) (sym e) (root_zero block blank)
    by_test false other = or_faults (first_outside block 0 256) (root_other block other)
