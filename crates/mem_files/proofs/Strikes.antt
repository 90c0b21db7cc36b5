-- Masks that strike one after the other.
use Rattle.std.proofs.Common.{◌≡◌, ℕ, ◌+◌, ◌<◌, List, [], ◌∷◌, ◌++◌, length, get_or, take, Bool, true, false, cond, fold, filter, map, if◌then◌else◌, refl, sym, ◌∙◌, ap}
use Rattle.std.proofs.lemmas.List.{take_more}
use Rattle.std.specs.Prelude.{◌==◌}
use Rattle.disk_model.specs.Arms.{Taint}
use Rattle.disk_model.specs.Controls.{Stored, strike}
use Rattle.mem_files.specs.declared.taint.Taint.{Taint as StoredTaint}
use Rattle.mem_files.specs.Taints.{taint_of, struck_by}

-- one mask more
pub struck_push : (s : Stored) (taints : List StoredTaint) (x : StoredTaint) (call : ℕ)
    → struck_by s (taints ++ x ∷ []) call ≡ (if x.call == call then strike (struck_by s taints call) (taint_of x) else struck_by s taints call)
struck_push s [] x call = elim (x.call == call) as (λ (b : Bool). fold strike s (cond b (taint_of x ∷ []) []) ≡ (if b then strike s (taint_of x) else s)) [ true ↦ refl | false ↦ refl ]
struck_push s (y ∷ taints) x call =
    let more = filter (λ (taint : Taint). taint.call == call) (map taint_of (taints ++ x ∷ [])) in
    let same = filter (λ (taint : Taint). taint.call == call) (map taint_of taints) in
    elim (y.call == call) as (λ (b : Bool). fold strike s (cond b (taint_of y ∷ more) more)
    ≡ (if x.call == call then strike (fold strike s (cond b (taint_of y ∷ same) same)) (taint_of x) else fold strike s (cond b (taint_of y ∷ same) same))) [
      | true ↦ struck_push (strike s (taint_of y)) taints x call
      | false ↦ struck_push s taints x call
    ]

-- the same, where the next mask of a list strikes
pub struck_next : (s now next : Stored) (taints : List StoredTaint) (i : ℕ) (x : StoredTaint) (call : ℕ)
    → now ≡ struck_by s (take i taints) call → i < length taints → x ≡ get_or taints i x
    → next ≡ (if x.call == call then strike now (taint_of x) else now)
    → next ≡ struck_by s (take (i + 1) taints) call
struck_next s now next taints i x call so_far lt is step =
    step ∙ ap (λ (t : Stored). (if x.call == call then strike t (taint_of x) else t)) so_far ∙ sym (struck_push s (take i taints) x call)
    ∙ ap (λ (l : List StoredTaint). struck_by s l call) (ap (λ (y : StoredTaint). take i taints ++ y ∷ []) is ∙ sym (take_more taints i x lt))
