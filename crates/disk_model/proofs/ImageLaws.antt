-- What follows for images.
use Rattle.std.proofs.Common.{length-append, replicate, ◌-◌, ◌≡◌, ◌≢◌, inl, inr, ⊎_elim, ℕ, ◌+◌, List, [], ◌∷◌, ◌++◌, length, get_or, false, IsTrue, drop, set, refl, sym, ◌∙◌, ap, subst, arith}
use Rattle.std.proofs.lemmas.List.{get_or_append_left, length-replicate, get_or-set_same, get_or-set_other, length-set, ext_get_or}
use Rattle.std.proofs.lemmas.Bool.{cases_lt, cases_Bool, false≢true}
use Rattle.disk_model.specs.declared.span.Span.{Span}
use Rattle.disk_model.specs.Images.{Has, in_spans, IsSpared, IsSpoiled, MayLeave, MoreSpansLeaveMore, IsTouched, SameAt, DiffersAt, Every}
use Rattle.disk_model.specs.State.{FileState, spans_of, pending, moment, base_at, spans_since, LeftSince, LeftNow, Sound}
use Rattle.disk_model.proofs.Spans.{in_spans_front, in_spans_drop, base_now}
use Rattle.disk_model.proofs.Sectors.{empty_or_place}

-- without a span there is one image
pub exact_none : (b : List ℕ) (spans : List Span) (i : List ℕ) → spans ≡ [] → MayLeave b spans i → i ≡ b
exact_none b spans i none left = left.exact (λ p. ap (λ (l : List Span). in_spans l p) none)

-- the settled bytes are an image
pub leaves_settled : (b : List ℕ) (spans : List Span) → MayLeave b spans b
leaves_settled b spans = record { stays = λ p x e h. h; exact = λ e. refl }

-- a place that is spared lies in no span
pub spared_free : (spans : List Span) (p : ℕ) → IsSpared spans p → in_spans spans p ≡ false
spared_free spans p spared = spared p refl

-- a place is spared or spoiled, not both
pub spared_not : (spans : List Span) (p : ℕ) → IsSpared spans p → IsSpoiled spans p → ⊥
spared_not spans p spared hit = false≢true (sym (spared hit.0 hit.1) ∙ hit.2)

pub not_spoiled : (spans : List Span) (p : ℕ) → (IsSpoiled spans p → ⊥) → IsSpared spans p
not_spoiled spans p never q same = ⊎_elim (λ hit. absurd (never (q, same, hit))) (λ miss. miss) (cases_Bool (in_spans spans q))

-- so are they with one byte changed in a sector that meets a span
pub leaves_set : (b : List ℕ) (spans : List Span) (p y : ℕ) → IsSpoiled spans p → MayLeave b spans (set b p y)
leaves_set b spans p y hit = record {
  stays = λ q x e h.
      let other : q ≢ p = λ is. spared_not spans p (subst (IsSpared spans) is e) hit in
      record { below = omega (arith, length-set b p y, h.below); is = get_or-set_other b p q y 0 other ∙ h.is };
  exact = λ e. absurd (false≢true (sym (e hit.0) ∙ hit.2));
}

-- where each image has one byte, it is settled there, and its sector meets no span
pub every_settled : (b : List ℕ) (spans : List Span) (p x : ℕ) → Every (MayLeave b spans) p x → IsSpared spans p × Has b p x
every_settled b spans p x every =
    let here = every b (leaves_settled b spans) in
    (not_spoiled spans p (λ hit. let changed = every (set b p (x + 1)) (leaves_set b spans p (x + 1) hit) in omega (arith, changed.is, get_or-set_same b p (x + 1) 0 here.below)), here)

-- two lists that have the same bytes at the same places are one
pub same_bytes : (a b : List ℕ) → ((p x : ℕ) → Has a p x → Has b p x) → ((p x : ℕ) → Has b p x → Has a p x) → a ≡ b
same_bytes a b to from = ext_get_or 0 a b same_length (λ i lt. sym (to i (get_or a i 0) (record { below = lt; is = refl })).is)
  where
    same_length : length a ≡ length b
    same_length = elim (cases_lt (length a) (length b)) [
      | inl lt ↦ let h = from (length a) (get_or b (length a) 0) (record { below = lt; is = refl }) in absurd (omega (arith, h.below))
      | inr ge ↦ elim (cases_lt (length b) (length a)) [
        | inl lt ↦ let h = to (length b) (get_or a (length b) 0) (record { below = lt; is = refl }) in absurd (omega (arith, h.below))
        | inr le ↦ omega arith
      ]
    ]

-- what the file reads as is one of its images
pub reads_left : (s : FileState) → Sound s → LeftNow s s.reads
reads_left s sound honest = record {
  stays = λ p x e h. (sound.bytes.agrees honest p x (spared_free (pending s) p e)).0 h;
  exact = λ free.
      same_bytes s.reads s.settled (λ p x h. (sound.bytes.agrees honest p x (free p)).1 h) (λ p x h. (sound.bytes.agrees honest p x (free p)).0 h);
}

-- added spans leave no fewer images
pub more_spans : (b i : List ℕ) (spans more : List Span) → ((p : ℕ) → in_spans more p ≡ false → in_spans spans p ≡ false) → MayLeave b spans i → MayLeave b more i
more_spans b i spans more fewer left = record { stays = λ p x e h. left.stays p x (λ q same. fewer q (e q same)) h; exact = λ e. left.exact (λ p. fewer p (e p)) }

pub more_spans_leave_more : MoreSpansLeaveMore
more_spans_leave_more b i spans more left = more_spans b i spans (spans ++ more) (λ p e. in_spans_front spans more p e) left

pub push_span : (b i : List ℕ) (spans : List Span) (s : Span) → MayLeave b spans i → MayLeave b (spans ++ s ∷ []) i
push_span b i spans s left = more_spans_leave_more b i spans (s ∷ []) left

-- a place that is not touched looks in each image as in the settled bytes
pub untouched_same : (b i : List ℕ) (spans : List Span) (p : ℕ) → (IsTouched spans (length b) p → ⊥) → MayLeave b spans i → SameAt p i b
untouched_same b i spans p not left x = elim (empty_or_place spans) [
  | inl none ↦ (λ h. subst (λ (l : List ℕ). Has l p x) (left.exact none) h, λ h. subst (λ (l : List ℕ). Has l p x) (sym (left.exact none)) h)
  | inr some ↦
      let free : IsSpared spans p = not_spoiled spans p (λ hit. not (some, inr hit)) in
      elim (cases_lt p (length b)) [
        | inl lt ↦
            let there = left.stays p (get_or b p 0) free (record { below = lt; is = refl }) in
            (λ h. record { below = lt; is = sym there.is ∙ h.is }, λ h. left.stays p x free h)
        | inr ge ↦ absurd (not (some, inl ge))
      ]
]

-- a touched place looks otherwise in some image
pub touched_differs : (b : List ℕ) (spans : List Span) (p : ℕ) → IsTouched spans (length b) p → (i : List ℕ) × MayLeave b spans i × DiffersAt p i b
touched_differs b spans p touched = elim (cases_lt p (length b)) [
  | inr past ↦
      let longer = b ++ replicate (p + 1 - length b) 0 in (
        longer,
        record { stays = λ q x e h. record { below = omega (arith, h.below, length-append b (replicate (p + 1 - length b) 0)); is = get_or_append_left b (replicate (p + 1 - length b) 0) 0 q h.below ∙ h.is }; exact = λ e. absurd (false≢true (sym (e touched.0.0) ∙ touched.0.1)) },
        (get_or longer p 0, record { below = omega (arith, length-append b (replicate (p + 1 - length b) 0), length-replicate {A = ℕ} (p + 1 - length b) 0); is = refl }, λ h. omega (arith, h.below)),
      )
  | inl lt ↦
      let hit : IsSpoiled spans p = ⊎_elim (λ past. absurd (omega arith)) (λ is. is) touched.1 in
      let x = get_or b p 0 in (
        set b p (x + 1),
        leaves_set b spans p (x + 1) hit,
        (x + 1, record { below = omega (arith, length-set b p (x + 1)); is = get_or-set_same b p (x + 1) 0 lt }, λ h. omega (arith, h.is)),
      )
]

-- the spans since this moment are those that are pending
pub since_now : (s : FileState) → spans_since s (moment s) ≡ pending s
since_now s = ap (λ (n : ℕ). spans_of (drop n s.trail)) (base_now s.trail s.pending_from)

-- the images since this moment are those of now
pub left_since_now : (s : FileState) (i : List ℕ) → LeftSince s (moment s) i → LeftNow s i
left_since_now s i left honest = subst (λ (l : List Span). MayLeave s.settled l i) (since_now s) (left honest)

-- the images of now are among those since any moment
pub now_since : (s : FileState) (t : ℕ) (i : List ℕ) → Sound s → LeftNow s i → LeftSince s t i
now_since s t i sound left honest =
    let k = base_at s.trail s.pending_from t in
    more_spans s.settled i (pending s) (spans_since s t) (λ p e. in_spans_drop k s.pending_from s.trail p (sound.bytes.bases t) e) (left honest)

-- where all images since a moment have one byte, it is what a read gives
pub every_reads : (s : FileState) (t p x : ℕ) → Sound s → Every (LeftSince s t) p x → Has s.reads p x
every_reads s t p x sound every = every s.reads (now_since s t s.reads sound (reads_left s sound))

-- and it is settled, and its sector meets no span since
pub every_free : (s : FileState) (t p x : ℕ) → IsTrue s.honest → Every (LeftSince s t) p x → IsSpared (spans_since s t) p × Has s.settled p x
every_free s t p x honest every = every_settled s.settled (spans_since s t) p x (λ i left. every i (λ h. left))
