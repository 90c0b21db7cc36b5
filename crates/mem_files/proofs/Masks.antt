-- A mask laid over bytes, place by place.
use Rattle.std.proofs.Common.{◌≡◌, ◌↔◌, ℕ, List, [], ◌∷◌, get_or, Option, Vec, true, refl, sym, ◌∙◌, ap, subst, arith}
use Rattle.std.specs.declared.alloc.Global.{Global}
use Rattle.disk_model.specs.declared.span.Change.{Change}
use Rattle.disk_model.specs.Images.{Has}
use Rattle.disk_model.specs.Bytes.{after_mask}
use Rattle.disk_model.specs.State.{BytesAgree}
use Rattle.disk_model.proofs.Masks.{length-masked, has_with_masks}
use Rattle.mem_files.specs.Held.{settled_bytes}

has_masked : (a b : List ℕ) (at : ℕ) (mask : List ℕ) (p : ℕ) → ((x : ℕ) → (Has a p x ↔ Has b p x)) → (x : ℕ) → Has (after_mask a at mask) p x → Has (after_mask b at mask) p x
has_masked a b at mask p same x h =
    let here : Has a p (get_or a p 0) = record { below = omega (arith, h.below, length-masked a at mask); is = refl } in
    has_with_masks (record { call = 0; at = at; mask = mask } ∷ []) a b p (get_or a p 0) x here ((same (get_or a p 0)).0 here) h

pub agree_masked : (a b : List ℕ) (at : ℕ) (mask : List ℕ) (p : ℕ) → ((x : ℕ) → (Has a p x ↔ Has b p x)) → (x : ℕ) → (Has (after_mask a at mask) p x ↔ Has (after_mask b at mask) p x)
agree_masked a b at mask p same x = (has_masked a b at mask p same x, has_masked b a at mask p (λ y. ((same y).1, (same y).0)) x)

-- settled bytes and those that a read gives go on agreeing where both are masked
pub masked_agree : (old new : Option (Vec ℕ Global)) (bytes now : List ℕ) (trail : List Change) (from at : ℕ) (mask same : List ℕ)
    → ((b : List ℕ) → settled_bytes new (after_mask b at mask) ≡ after_mask (settled_bytes old b) at mask) → mask ≡ same → now ≡ after_mask bytes at same
    → BytesAgree (settled_bytes old bytes) bytes trail from true → BytesAgree (settled_bytes new now) now trail from true
masked_agree old new bytes now trail from at mask same settled one is agree =
    let now_is : now ≡ after_mask bytes at mask = is ∙ ap (after_mask bytes at) (sym one) in
    let both : BytesAgree (after_mask (settled_bytes old bytes) at mask) (after_mask bytes at mask) trail from true = record {
      agrees = λ h p x free. agree_masked (settled_bytes old bytes) bytes at mask p (λ y. agree.agrees h p y free) x;
      within = agree.within;
      bases = agree.bases;
    } in
    subst (λ (b : List ℕ). BytesAgree (settled_bytes new b) b trail from true) (sym now_is)
    (subst (λ (b : List ℕ). BytesAgree b (after_mask bytes at mask) trail from true) (sym (settled bytes)) both)
