-- The bytes of a file in memory go on agreeing with its settled bytes where no change is pending.
use Rattle.std.proofs.Common.{◌≡◌, ◌⊎◌, ◌↔◌, inl, inr, ⊎_elim, ℕ, ◌+◌, ◌<◌, ◌≤◌, List, [], ◌∷◌, ◌++◌, length, min, max, Bool, true, false, Option, Some, None, IsSome, Vec, refl, sym, subst, arith}
use Rattle.std.proofs.lemmas.Bool.{false≢true}
use Rattle.std.specs.declared.alloc.Global.{Global}
use Rattle.disk_model.specs.declared.span.Change.{Change}
use Rattle.disk_model.specs.Images.{Has, in_span}
use Rattle.disk_model.specs.Bytes.{after_write, after_resize}
use Rattle.disk_model.specs.State.{BytesAgree, base_at}
use Rattle.disk_model.proofs.Spans.{out_of_span}
use Rattle.disk_model.proofs.Writes.{written_keeps, written_from, length-after_resize, resized_keeps, resized_from}
use Rattle.disk_model.proofs.Soundness.{agree_changed, agree_synced}
use Rattle.mem_files.specs.Held.{settled_bytes, change_of}

-- settled bytes that are kept apart stay
apart : (settled : Option (Vec ℕ Global)) (old new : List ℕ) → IsSome settled → settled_bytes settled old ≡ settled_bytes settled new
apart None old new some = absurd (false≢true some)
apart (Some bytes) old new some = refl

-- outside a change from one place up to another
outside : (base from upto p : ℕ) → from ≤ upto → in_span (change_of base from upto).span p ≡ false → (p < from) ⊎ (upto ≤ p)
outside base from upto p le e = ⊎_elim (λ low. inl low) (λ high. inr (omega arith)) (out_of_span (change_of base from upto).span p e)

module _ (settled : Option (Vec ℕ Global)) (old new : List ℕ) (trail grown : List Change) (base from upto : ℕ) (honest : Bool)
    (some : IsSome settled) (agree : BytesAgree (settled_bytes settled old) old trail base honest) (le : from ≤ upto) (push : grown ≡ trail ++ change_of base from upto ∷ []) where
  changed : ((p x : ℕ) → (p < from) ⊎ (upto ≤ p) → (Has old p x ↔ Has new p x)) → BytesAgree (settled_bytes settled new) new grown base honest
  changed same =
      subst (λ (b : List ℕ). BytesAgree b new grown base honest) (apart settled old new some)
      (subst (λ (l : List Change). BytesAgree (settled_bytes settled old) new l base honest) (sym push)
      (agree_changed (settled_bytes settled old) old new trail (change_of base from upto) base honest agree refl (λ p x e. same p x (outside base from upto p le e))))

pub agree_written : (settled : Option (Vec ℕ Global)) (old new : List ℕ) (trail grown : List Change) (base : ℕ) (honest : Bool) (at : ℕ) (bytes : List ℕ)
    → IsSome settled → BytesAgree (settled_bytes settled old) old trail base honest → new ≡ after_write old at bytes
    → grown ≡ trail ++ change_of base (min at (length old)) (at + length bytes) ∷ [] → BytesAgree (settled_bytes settled new) new grown base honest
agree_written settled old new trail grown base honest at bytes some agree is push =
    changed settled old new trail grown base (min at (length old)) (at + length bytes) honest some agree (omega arith) push
    (λ p x out. (
      λ here. subst (λ (l : List ℕ). Has l p x) (sym is) (written_keeps old at bytes p x (⊎_elim (λ low. inl (omega arith)) (λ high. inr high) out) here),
      λ here. written_from old at bytes p x (⊎_elim (λ low. inl (omega arith)) (λ high. inr high) out) (subst (λ (l : List ℕ). Has l p x) is here),
    ))

pub agree_resized : (settled : Option (Vec ℕ Global)) (old new : List ℕ) (trail grown : List Change) (base : ℕ) (honest : Bool) (size : ℕ)
    → IsSome settled → BytesAgree (settled_bytes settled old) old trail base honest → new ≡ after_resize old size
    → grown ≡ trail ++ change_of base (min size (length old)) (max size (length old)) ∷ [] → BytesAgree (settled_bytes settled new) new grown base honest
agree_resized settled old new trail grown base honest size some agree is push =
    changed settled old new trail grown base (min size (length old)) (max size (length old)) honest some agree (omega arith) push
    (λ p x out. (
      λ here. subst (λ (l : List ℕ). Has l p x) (sym is) (resized_keeps old size p x (⊎_elim (λ low. omega arith) (λ high. omega (arith, here.below)) out) here),
      λ here.
          let h = subst (λ (l : List ℕ). Has l p x) is here in
          resized_from old size p x (⊎_elim (λ low. omega arith) (λ high. omega (arith, h.below, length-after_resize old size)) out) h,
    ))

pub agree_settled_now : (settled reads : List ℕ) (trail grown : List Change) (base now : ℕ) (honest : Bool)
    → BytesAgree settled reads trail base honest → grown ≡ trail ++ change_of base 0 0 ∷ [] → now ≡ length grown
    → BytesAgree reads reads grown now honest
agree_settled_now settled reads trail grown base now honest agree push is =
    subst (λ (l : List Change). BytesAgree reads reads l now honest) (sym push)
    (agree_synced settled reads trail (change_of base 0 0) base now honest agree refl (subst (λ (l : List Change). now ≡ length l) push is))

-- a file whose settled bytes are those that a read gives, of which no change is pending
pub agree_anew : (settled reads : List ℕ) (trail : List Change) → settled ≡ reads → trail ≡ [] → BytesAgree settled reads trail 0 true
agree_anew settled reads trail same none = record {
  agrees = λ honest p x free. (λ has. subst (λ (l : List ℕ). Has l p x) same has, λ has. subst (λ (l : List ℕ). Has l p x) (sym same) has);
  within = omega arith;
  bases = λ moment. subst (λ (l : List Change). base_at l 0 moment ≤ 0) (sym none) (omega arith);
}
