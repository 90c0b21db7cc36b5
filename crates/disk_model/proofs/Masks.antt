-- Masks laid over bytes, place by place.
use Rattle.std.proofs.Common.{◌≡◌, ⊎_elim, ℕ, zero, suc, ◌<◌, List, [], ◌∷◌, ◌++◌, length, get_or, bit_xor, fold, ◌==◌, All, Contains, Bool, true, false, if◌then◌else◌, length-append, length-take, length-drop, refl, sym, ◌∙◌, ap, subst, arith}
use Rattle.std.proofs.lemmas.List.Elements.{All-nil, All-cons, All-head, All-tail, All-filter, All-contains, All-contains_itself, Contains-append_cases}
use Rattle.std.proofs.lemmas.List.{ext_get_or}
use Rattle.std.proofs.lemmas.List.Sums.{fold-append}
use Rattle.std.specs.Int.Bits.{xor_assoc, xor_self, xor_zero_r}
use Rattle.disk_model.specs.Images.{Has}
use Rattle.disk_model.specs.Bytes.{overlaid, after_mask}
use Rattle.disk_model.specs.Arms.{Arms, Taint, next_taints}
use Rattle.disk_model.specs.Faults.{next_count}
use Rattle.disk_model.specs.State.{FileState}
use Rattle.disk_model.specs.Controls.{Stored, stored, is_struck, strike, struck}
use Rattle.disk_model.specs.Masks.{with_masks, AreMasked, ReadsMasked}
use Rattle.disk_model.specs.Seen.{MasksUndo}

-- the bits that a mask from a place on lays over another place
abbrev pub bits_at : (at : ℕ) (mask : List ℕ) (place : ℕ) → ℕ
bits_at zero mask place = get_or mask place 0
bits_at (suc at) mask zero = 0
bits_at (suc at) mask (suc place) = bits_at at mask place

-- and those of all masks together
abbrev pub all_bits_at : List Taint → ℕ → ℕ
all_bits_at [] place = 0
all_bits_at (taint ∷ masks) place = bit_xor (bits_at taint.at taint.mask place) (all_bits_at masks place)

pub length-overlaid : (bytes mask : List ℕ) → length (overlaid bytes mask) ≡ length bytes
length-overlaid [] mask = refl
length-overlaid (b ∷ bytes) [] = refl
length-overlaid (b ∷ bytes) (m ∷ mask) = ap suc (length-overlaid bytes mask)

pub length-masked : (bytes : List ℕ) (at : ℕ) (mask : List ℕ) → length (after_mask bytes at mask) ≡ length bytes
length-masked bytes at mask = simp (length-append, length-take, length-overlaid, length-drop) (omega arith)

pub length-with_masks : (masks : List Taint) (bytes : List ℕ) → length (with_masks masks bytes) ≡ length bytes
length-with_masks [] bytes = refl
length-with_masks (taint ∷ masks) bytes = length-with_masks masks (after_mask bytes taint.at taint.mask) ∙ length-masked bytes taint.at taint.mask

overlaid_at : (bytes mask : List ℕ) (p : ℕ) → p < length bytes → get_or (overlaid bytes mask) p 0 ≡ bit_xor (get_or bytes p 0) (get_or mask p 0)
overlaid_at [] mask p lt = absurd (omega arith)
overlaid_at (b ∷ bytes) [] p lt = sym (xor_zero_r (get_or (b ∷ bytes) p 0))
overlaid_at (b ∷ bytes) (m ∷ mask) zero lt = refl
overlaid_at (b ∷ bytes) (m ∷ mask) (suc p) lt = overlaid_at bytes mask p (omega arith)

pub masked_at : (bytes : List ℕ) (at : ℕ) (mask : List ℕ) (p : ℕ) → p < length bytes → get_or (after_mask bytes at mask) p 0 ≡ bit_xor (get_or bytes p 0) (bits_at at mask p)
masked_at [] at mask p lt = absurd (omega arith)
masked_at (b ∷ bytes) zero mask p lt = overlaid_at (b ∷ bytes) mask p lt
masked_at (b ∷ bytes) (suc at) mask zero lt = sym (xor_zero_r b)
masked_at (b ∷ bytes) (suc at) mask (suc p) lt = masked_at bytes at mask p (omega arith)

with_masks_at : (masks : List Taint) (bytes : List ℕ) (p : ℕ) → p < length bytes → get_or (with_masks masks bytes) p 0 ≡ bit_xor (get_or bytes p 0) (all_bits_at masks p)
with_masks_at [] bytes p lt = sym (xor_zero_r (get_or bytes p 0))
with_masks_at (taint ∷ masks) bytes p lt =
    with_masks_at masks (after_mask bytes taint.at taint.mask) p (omega (arith, length-masked bytes taint.at taint.mask))
    ∙ ap (λ (byte : ℕ). bit_xor byte (all_bits_at masks p)) (masked_at bytes taint.at taint.mask p lt)
    ∙ xor_assoc (get_or bytes p 0) (bits_at taint.at taint.mask p) (all_bits_at masks p)

-- Two lists that have the same byte at a place have the same one there with the masks over them.
pub has_with_masks : (masks : List Taint) (a b : List ℕ) (p x y : ℕ) → Has a p x → Has b p x → Has (with_masks masks a) p y → Has (with_masks masks b) p y
has_with_masks masks a b p x y here there masked = record {
  below = omega (arith, there.below, length-with_masks masks b);
  is = with_masks_at masks b p there.below ∙ ap (λ (byte : ℕ). bit_xor byte (all_bits_at masks p)) (there.is ∙ sym here.is) ∙ sym (with_masks_at masks a p here.below) ∙ masked.is;
}

-- the masks laid over once more give the byte back
pub masks_undone : (masks : List Taint) (a b : List ℕ) (p x y : ℕ) → Has a p x → Has (with_masks masks a) p y → Has b p y → Has (with_masks masks b) p x
masks_undone masks a b p x y here masked there =
    let bits = all_bits_at masks p in
    record {
      below = omega (arith, there.below, length-with_masks masks b);
      is = with_masks_at masks b p there.below
          ∙ ap (λ (byte : ℕ). bit_xor byte bits) (there.is ∙ sym masked.is ∙ with_masks_at masks a p here.below ∙ ap (λ (byte : ℕ). bit_xor byte bits) here.is)
          ∙ xor_assoc x bits bits ∙ ap (bit_xor x) (xor_self bits) ∙ xor_zero_r x;
    }

pub masks_undo : MasksUndo
masks_undo masks bytes reads place byte here same =
    let masked : Has (with_masks masks bytes) place (get_or (with_masks masks bytes) place 0) = record { below = omega (arith, here.below, length-with_masks masks bytes); is = refl } in
    masks_undone masks bytes reads place byte (get_or (with_masks masks bytes) place 0) here masked ((same (get_or (with_masks masks bytes) place 0)).0 masked)

-- some masks and then some others
with_both : (first second : List Taint) (bytes : List ℕ) → with_masks (first ++ second) bytes ≡ with_masks second (with_masks first bytes)
with_both first second bytes = fold-append (λ (b : List ℕ) (taint : Taint). after_mask b taint.at taint.mask) bytes first second

armed_both : (taints first second : List Taint) → ((taint : Taint) → Contains first taint → Contains taints taint) → ((taint : Taint) → Contains second taint → Contains taints taint)
    → (taint : Taint) → Contains (first ++ second) taint → Contains taints taint
armed_both taints first second one other taint within = ⊎_elim (one taint) (other taint) (Contains-append_cases first second taint within)

none_armed : (taints : List Taint) (taint : Taint) → Contains [] taint → Contains taints taint
none_armed taints taint within = absurd (omega (arith, within.1))

-- Bytes that masks made of bytes.
pub masked_none : (arms : Arms) (bytes : List ℕ) → AreMasked arms bytes bytes
masked_none arms bytes = record { masks = []; armed = none_armed arms.taints; are = refl }

pub masked_then : (arms : Arms) (a b c : List ℕ) → AreMasked arms a b → AreMasked arms b c → AreMasked arms a c
masked_then arms a b c first second = record {
  masks = first.masks ++ second.masks;
  armed = armed_both arms.taints first.masks second.masks first.armed second.armed;
  are = second.are ∙ ap (with_masks second.masks) first.are ∙ sym (with_both first.masks second.masks a);
}

-- and back, by the same masks
with_masks_twice : (masks : List Taint) (bytes : List ℕ) → with_masks masks (with_masks masks bytes) ≡ bytes
with_masks_twice masks bytes =
    let once = with_masks masks bytes in
    let long : length (with_masks masks once) ≡ length bytes = length-with_masks masks once ∙ length-with_masks masks bytes in
    ext_get_or 0 (with_masks masks once) bytes long (λ i lt.
    let here : Has bytes i (get_or bytes i 0) = record { below = omega (arith, lt, long); is = refl } in
    let masked : Has once i (get_or once i 0) = record { below = omega (arith, lt, long, length-with_masks masks bytes); is = refl } in
    (masks_undone masks bytes once i (get_or bytes i 0) (get_or once i 0) here masked masked).is)

pub masked_back : (arms : Arms) (a b : List ℕ) → AreMasked arms a b → AreMasked arms b a
masked_back arms a b masked = record {
  masks = masked.masks;
  armed = masked.armed;
  are = sym (ap (with_masks masked.masks) masked.are ∙ with_masks_twice masked.masks a);
}

-- the same, by arms with the same masks
pub masked_armed : (arms other : Arms) (bytes reads : List ℕ) → arms.taints ≡ other.taints → AreMasked arms bytes reads → AreMasked other bytes reads
masked_armed arms other bytes reads same masked = record {
  masks = masked.masks;
  armed = λ taint within. subst (λ (l : List Taint). Contains l taint) same (masked.armed taint within);
  are = masked.are;
}

-- the masks for a call are some of those that are armed
strikes_masked : (P : Taint → Type 0) (s : Stored) (taints : List Taint) → All P taints → (masks : List Taint) × All P masks × ((fold strike s taints).reads ≡ with_masks masks s.reads)
strikes_masked P s [] all = ([], All-nil P, refl)
strikes_masked P s (taint ∷ taints) all = elim (is_struck s taint) as (λ (b : Bool). (masks : List Taint) × All P masks × ((fold strike (if b then record {
  settled = after_mask s.settled taint.at taint.mask;
  reads = after_mask s.reads taint.at taint.mask;
  honest = false;
} else s) taints).reads ≡ with_masks masks s.reads)) [
  | true ↦
      let rest = strikes_masked P (record { settled = after_mask s.settled taint.at taint.mask; reads = after_mask s.reads taint.at taint.mask; honest = false }) taints (All-tail P taint taints all) in
      (taint ∷ rest.0, All-cons P taint rest.0 (All-head P taint taints all) rest.1, rest.2)
  | false ↦ strikes_masked P s taints (All-tail P taint taints all)
]

pub struck_masked : (s : FileState) → AreMasked s.arms s.reads (struck s).reads
struck_masked s =
    let armed = Contains s.arms.taints in
    let struck_by = strikes_masked armed (stored s) (next_taints s.arms) (All-filter (λ (taint : Taint). taint.call == next_count s.arms.calls) armed s.arms.taints (All-contains_itself s.arms.taints)) in
    record { masks = struck_by.0; armed = λ taint within. All-contains armed struck_by.0 taint struck_by.1 within; are = struck_by.2 }

-- And at some places alone.
pub masked_places : (K : ℕ → Type 0) (arms : Arms) (bytes struck reads : List ℕ) → AreMasked arms bytes struck → ((p x : ℕ) → K p → Has struck p x → Has reads p x) → ReadsMasked K arms bytes reads
masked_places K arms bytes struck reads masked same = record {
  masks = masked.masks;
  armed = masked.armed;
  are = λ p x at has. same p x at (subst (λ (l : List ℕ). Has l p x) (sym masked.are) has);
}

pub reads_masked_none : (K : ℕ → Type 0) (arms : Arms) (bytes : List ℕ) → ReadsMasked K arms bytes bytes
reads_masked_none K arms bytes = masked_places K arms bytes bytes bytes (masked_none arms bytes) (λ p x at has. has)

pub reads_masked_then : (K : ℕ → Type 0) (arms : Arms) (a b c : List ℕ) → ReadsMasked K arms a b → ReadsMasked K arms b c → ReadsMasked K arms a c
reads_masked_then K arms a b c first second = record {
  masks = first.masks ++ second.masks;
  armed = armed_both arms.taints first.masks second.masks first.armed second.armed;
  are = λ p x at has.
      let middle = with_masks first.masks a in
      let behind : Has (with_masks second.masks middle) p x = subst (λ (l : List ℕ). Has l p x) (with_both first.masks second.masks a) has in
      let before : Has middle p (get_or middle p 0) = record { below = omega (arith, behind.below, length-with_masks second.masks middle); is = refl } in
      second.are p x at (has_with_masks second.masks middle b p (get_or middle p 0) x before (first.are p (get_or middle p 0) at before) behind);
}

pub reads_armed : (K : ℕ → Type 0) (arms other : Arms) (bytes reads : List ℕ) → arms.taints ≡ other.taints → ReadsMasked K arms bytes reads → ReadsMasked K other bytes reads
reads_armed K arms other bytes reads same masked = record {
  masks = masked.masks;
  armed = λ taint within. subst (λ (l : List Taint). Contains l taint) same (masked.armed taint within);
  are = masked.are;
}
