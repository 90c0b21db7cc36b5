-- Bringing settled bytes up to date, where they may differ in some spans alone.
use Rattle.std.proofs.Common.{◌≡◌, inl, inr, ℕ, ◌<◌, List, length, ◌++◌, slice_index, get_or, take, drop, ◌-◌, Option, Vec, true, false, length-drop, refl, sym, ◌∙◌, ap, subst, arith}
use Rattle.std.proofs.lemmas.Bool.{cases_Bool}
use Rattle.std.proofs.lemmas.List.{ext_get_or, take-append-le, take_all}
use Rattle.disk_model.specs.declared.span.Span.{Span}
use Rattle.disk_model.specs.Images.{Has, in_spans}
use Rattle.disk_model.specs.Bytes.{after_resize}
use Rattle.disk_model.proofs.Writes.{length-after_resize, resized_at}
use Rattle.std.specs.declared.alloc.Global.{Global}
use Rattle.disk_model.specs.declared.span.Change.{Change}
use Rattle.disk_model.specs.State.{BytesAgree, spans_of}
use Rattle.mem_files.specs.Held.{DifferIn, settled_bytes}

pub settled_now : (spans : List Span) (settled bytes long now : List ℕ) → DifferIn spans settled bytes → long ≡ after_resize settled (length bytes) → length now ≡ length long
    → ((p : ℕ) → p < length bytes → in_spans spans p ≡ true → slice_index now p ≡ slice_index bytes p)
    → ((p : ℕ) → in_spans spans p ≡ false → slice_index now p ≡ slice_index long p) → now ≡ bytes
settled_now spans settled bytes long now differ is same inside outside =
    let size : length long ≡ length bytes = rw is (length-after_resize settled (length bytes)) in
    ext_get_or 0 now bytes (omega (arith, size, same)) (λ p lt. let below : p < length bytes = omega (arith, size, same, lt) in
    elim (cases_Bool (in_spans spans p)) [
      | inl hit ↦ inside p below hit
      | inr free ↦
          let here : Has settled p (get_or bytes p 0) = (differ p (get_or bytes p 0) free).1 (record { below = below; is = refl }) in
          outside p free ∙ (rw is (resized_at settled (length bytes) p below here.below)) ∙ here.is
    ])

-- the front of a list that was joined
pub take_front : (n : ℕ) (xs ys : List ℕ) → n ≡ length xs → take n (xs ++ ys) ≡ xs
take_front n xs ys is = take-append-le n xs ys (omega (arith, is)) ∙ take_all n xs (omega (arith, is))

-- settled bytes may differ in what is pending alone
pub differ_pending : (settled : Option (Vec ℕ Global)) (bytes mine : List ℕ) (trail all : List Change) (from : ℕ) → mine ≡ bytes → all ≡ trail
    → BytesAgree (settled_bytes settled bytes) bytes trail from true → DifferIn (spans_of (take (length all - from) (drop from all))) (settled_bytes settled mine) mine
differ_pending settled bytes mine trail all from same whole agree =
    let rest : take (length all - from) (drop from all) ≡ drop from trail =
    take_all (length all - from) (drop from all) (omega (arith, length-drop from all)) ∙ ap (λ (l : List Change). drop from l) whole in
    subst (λ (l : List Change). DifferIn (spans_of l) (settled_bytes settled mine) mine) (sym rest)
    (subst (λ (b : List ℕ). DifferIn (spans_of (drop from trail)) (settled_bytes settled b) b) (sym same) (λ p x free. agree.agrees refl p x free))
