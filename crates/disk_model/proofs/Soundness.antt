-- How the bytes, the settled bytes and the trail of a file go on agreeing.
use Rattle.std.proofs.Common.{◌≡◌, ◌↔◌, inl, inr, ℕ, ◌≤◌, List, [], ◌∷◌, ◌++◌, length, Bool, false, drop, length-append, subst, arith}
use Rattle.std.proofs.lemmas.Bool.{cases_lt, false≢true}
use Rattle.disk_model.specs.declared.span.Span.{Span}
use Rattle.disk_model.specs.declared.span.Change.{Change}
use Rattle.disk_model.specs.Images.{Has, in_span, in_spans}
use Rattle.disk_model.specs.State.{spans_of, base_at, BytesAgree}
use Rattle.disk_model.proofs.Spans.{in_spans_front, in_spans_back, alone, drop_push, base_push, base_past}

-- the bases of a trail with one entry more
bases_push : (trail : List Change) (c : Change) (now later : ℕ) → c.base ≡ now → now ≤ later → ((t : ℕ) → base_at trail now t ≤ now) → (t : ℕ) → base_at (trail ++ c ∷ []) later t ≤ later
bases_push trail c now later base le bases t = elim (cases_lt (length trail) t) [
  | inl past ↦ omega (arith, base_past (trail ++ c ∷ []) later t (omega (arith, past, length-append trail (c ∷ []))))
  | inr within ↦ omega (arith, base_push trail c now later t base within, bases t, le)
]

-- after a change the bytes may differ in its span
pub agree_changed : (settled old new : List ℕ) (trail : List Change) (c : Change) (from : ℕ) (honest : Bool)
    → BytesAgree settled old trail from honest → c.base ≡ from
    → ((p x : ℕ) → in_span c.span p ≡ false → (Has old p x ↔ Has new p x))
    → BytesAgree settled new (trail ++ c ∷ []) from honest
agree_changed settled old new trail c from honest agree base same = record {
  agrees = λ h p x free.
      let was = subst (λ (l : List Span). in_spans l p ≡ false) (drop_push from trail c agree.within) free in
      let a = agree.agrees h p x (in_spans_front (spans_of (drop from trail)) (c.span ∷ []) p was) in
      let b = same p x (alone c.span p (in_spans_back (spans_of (drop from trail)) (c.span ∷ []) p was)) in
      (λ here. b.0 (a.0 here), λ here. a.1 (b.1 here));
  within = omega (arith, agree.within, length-append trail (c ∷ []));
  bases = bases_push trail c from from base (omega arith) agree.bases;
}

-- after a sync the bytes are settled
pub agree_synced : (settled reads : List ℕ) (trail : List Change) (c : Change) (from now : ℕ) (honest : Bool)
    → BytesAgree settled reads trail from honest → c.base ≡ from → now ≡ length (trail ++ c ∷ [])
    → BytesAgree reads reads (trail ++ c ∷ []) now honest
agree_synced settled reads trail c from now honest agree base is = record {
  agrees = λ h p x free. (λ here. here, λ here. here);
  within = omega (arith, is);
  bases = bases_push trail c from now base (omega (arith, agree.within, is, length-append trail (c ∷ []))) agree.bases;
}

-- settled bytes alone
pub agree_settled : (bytes : List ℕ) (honest : Bool) → BytesAgree bytes bytes [] 0 honest
agree_settled bytes honest = record { agrees = λ h p x free. (λ here. here, λ here. here); within = omega arith; bases = λ t. omega arith }

-- of a file that is not honest no byte is known
pub agree_struck : (settled reads settled' reads' : List ℕ) (trail : List Change) (from : ℕ) (honest : Bool)
    → BytesAgree settled reads trail from honest → BytesAgree settled' reads' trail from false
agree_struck settled reads settled' reads' trail from honest agree = record { agrees = λ h. absurd (false≢true h); within = agree.within; bases = agree.bases }
