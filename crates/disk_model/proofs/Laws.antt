-- Each call keeps the places that it does not change, and so does a run of calls.
use Rattle.std.proofs.Common.{◌≡◌, ◌⊎◌, inl, inr, ℕ, ◌<◌, ◌≤◌, List, [], ◌∷◌, ◌++◌, length, get_or, false, IsTrue, drop, length-append, refl, sym, ◌∙◌, ap, subst, arith}
use Rattle.std.proofs.lemmas.List.{drop_all, append-nil, append_assoc}
use Rattle.disk_model.specs.declared.span.Span.{Span}
use Rattle.disk_model.specs.declared.span.Change.{Change}
use Rattle.disk_model.specs.Images.{Has, in_span, in_spans, sector, IsSpared, MayLeave, Every}
use Rattle.disk_model.specs.State.{FileState, spans_of, pending, moment, base_at, spans_since, LeftSince, LeftNow, Sound}
use Rattle.disk_model.specs.Calls.{AddsChange, Changes, Rests, Syncs}
use Rattle.disk_model.specs.Keeps.{Anywhere, write, sync, rest, IsKeptWhole, Outside, Writes, Grows, Keeps}
use Rattle.disk_model.proofs.Spans.{in_spans-append, in_spans_front, in_spans_drop, one_span, no_place, spans_of-append, drop_push, base_push}
use Rattle.disk_model.proofs.ImageLaws.{push_span, every_reads, every_free, exact_none, same_bytes, spared_free}
use Rattle.disk_model.proofs.Seen.{runs_none, runs_one, runs_fewer, runs_then}
use Rattle.disk_model.proofs.Goings.{goes_on_none, goes_on_then, first_known, then_known}

-- one change or one sync more in the trail
module _ (Within : ℕ → Type 0) (old new : FileState) (sound : Sound old) (adds : AddsChange Within old new) where
  spans_push : (t : ℕ) → t ≤ moment old → spans_since new t ≡ spans_since old t ++ adds.change.span ∷ []
  spans_push t le =
      let k = base_at old.trail old.pending_from t in
      let b : base_at new.trail new.pending_from t ≡ k = ap (λ (l : List Change). base_at l new.pending_from t) adds.trail ∙ base_push old.trail adds.change old.pending_from new.pending_from t adds.base le in
      let in_trail : k ≤ length old.trail = omega (arith, sound.bytes.bases t, sound.bytes.within) in
      ap (λ (n : ℕ). spans_of (drop n new.trail)) b ∙ ap (λ (l : List Change). spans_of (drop k l)) adds.trail ∙ drop_push k old.trail adds.change in_trail

  later_push : moment old ≤ moment new
  later_push = omega (arith, ap length adds.trail, length-append old.trail (adds.change ∷ []))

  spared_push : (t p : ℕ) → t ≤ moment old → IsSpared (spans_since old t) p → ((q : ℕ) → sector q ≡ sector p → in_span adds.change.span q ≡ false) → IsSpared (spans_since new t) p
  spared_push t p le free out q same =
      subst (λ (l : List Span). in_spans l q ≡ false) (sym (spans_push t le)) (in_spans-append (spans_since old t) (adds.change.span ∷ []) q (free q same) (one_span adds.change.span q (out q same)))

  past_push : (t : ℕ) (i : List ℕ) → t ≤ moment old → MayLeave old.settled (spans_since old t) i → MayLeave old.settled (spans_since new t) i
  past_push t i le left = subst (λ (l : List Span). MayLeave old.settled l i) (sym (spans_push t le)) (push_span old.settled i (spans_since old t) adds.change.span left)

-- A call that changes some places keeps the others.
module _ (from upto : ℕ) (old new : FileState) (sound : Sound old) (changes : Changes from upto old new) where
  same_spans : new.trail ≡ old.trail → (t : ℕ) → spans_since new t ≡ spans_since old t
  same_spans same t = ap (λ (n : ℕ). spans_of (drop (base_at new.trail n t) new.trail)) changes.pending_from ∙ ap (λ (l : List Change). spans_of (drop (base_at l old.pending_from t) l)) same

  past_change : (t : ℕ) (i : List ℕ) → t ≤ moment old → LeftSince old t i → LeftSince new t i
  past_change t i le left honest =
      let was = left (changes.goes_on.honest honest) in
      subst (λ (b : List ℕ). MayLeave b (spans_since new t) i) (sym (changes.settled honest))
      (elim changes.trail [
        | inl same ↦ subst (λ (l : List Span). MayLeave old.settled l i) (sym (same_spans same t)) was
        | inr adds ↦ past_push _ old new sound adds t i le was
      ])

  -- a change misses the kept places that have a byte
  misses : (adds : AddsChange (λ p. ((from ≤ p) × (p < upto)) ⊎ (length old.reads ≤ p)) old new) (p x : ℕ) → Outside from upto p → Has old.reads p x → in_span adds.change.span p ≡ false
  misses adds p x out h = no_place adds.change.span p (λ hit. outside (adds.within p hit) out)
    where
      outside : ((from ≤ p) × (p < upto)) ⊎ (length old.reads ≤ p) → Outside from upto p → ⊥
      outside (inl both) (inl low) = omega (arith, both.0)
      outside (inl both) (inr high) = omega (arith, both.1)
      outside (inr past) any = omega (arith, h.below)

  spared_change : IsTrue new.honest → (t p x : ℕ) → t ≤ moment old → IsKeptWhole (Outside from upto) old.reads p → Every (LeftSince old t) p x → IsSpared (spans_since new t) p
  spared_change honest t p x le whole every =
      let was = every_free old t p x (changes.goes_on.honest honest) every in
      elim changes.trail [
        | inl same ↦ subst (λ (l : List Span). IsSpared l p) (sym (same_spans same t)) was.0
        | inr adds ↦ spared_push _ old new sound adds t p le was.0 (λ q same. let kept = whole q same in misses adds q (get_or old.reads q 0) kept.0 (record { below = kept.1; is = refl }))
      ]

  places_change : IsTrue new.honest → (t p x : ℕ) → t ≤ moment old → IsKeptWhole (Outside from upto) old.reads p → Every (LeftSince old t) p x → Every (LeftSince new t) p x
  places_change honest t p x le whole every i left =
      let was = every_free old t p x (changes.goes_on.honest honest) every in
      (left honest).stays p x (spared_change honest t p x le whole every) (subst (λ (b : List ℕ). Has b p x) (sym (changes.settled honest)) was.1)

  grows_change : Grows (Outside from upto) old new
  grows_change = elim changes.trail [
    | inl same ↦ record { more = []; trail = same ∙ sym (append-nil old.trail); misses = λ honest p x out h. refl }
    | inr adds ↦ record { more = adds.change ∷ []; trail = adds.trail; misses = λ honest p x out h. one_span adds.change.span p (misses adds p x out h) }
  ]

-- A write or a change of the length keeps what lies outside it.
pub change_keeps : (from upto : ℕ) (old new : FileState) → Sound old → Writes from upto old new → Keeps (Outside from upto) old new
change_keeps from upto old new sound writes = record {
  goes_on = writes.changes.goes_on;
  later = elim writes.changes.trail [ inl same ↦ omega (arith, ap length same) | inr adds ↦ later_push _ old new sound adds ];
  past = past_change from upto old new sound writes.changes;
  places = places_change from upto old new sound writes.changes;
  reads = writes.others;
  grows = grows_change from upto old new sound writes.changes;
  run = runs_one (Outside from upto) (write from upto) old new sound writes (λ p at. at);
}

pub keeps_fewer : (K L : ℕ → Type 0) (old new : FileState) → ((p : ℕ) → L p → K p) → Keeps K old new → Keeps L old new
keeps_fewer K L old new fewer keeps = record {
  goes_on = keeps.goes_on;
  later = keeps.later;
  past = keeps.past;
  places = λ honest t p x le whole every. keeps.places honest t p x le (λ q same. let kept = whole q same in (fewer q kept.0, kept.1)) every;
  reads = λ known p x at h. keeps.reads known p x (fewer p at) h;
  grows = record { more = keeps.grows.more; trail = keeps.grows.trail; misses = λ honest p x at h. keeps.grows.misses honest p x (fewer p at) h };
  run = runs_fewer K L old new fewer keeps.run;
}

pub keeps_then : (K : ℕ → Type 0) (a b c : FileState) → Keeps K a b → Keeps K b c → Keeps K a c
keeps_then K a b c first second = record {
  goes_on = goes_on_then a b c first.goes_on second.goes_on;
  later = omega (arith, first.later, second.later);
  past = λ t i le left. second.past t i (omega (arith, le, first.later)) (first.past t i le left);
  places = λ honest t p x le whole every.
      let before = second.goes_on.honest honest in
      second.places honest t p x (omega (arith, le, first.later))
      (λ q same. let kept = whole q same in (kept.0, (first.reads (inl before) q (get_or a.reads q 0) kept.0 (record { below = kept.1; is = refl })).below))
      (first.places before t p x le whole every);
  reads = λ known p x at h. second.reads (then_known a b c first.goes_on known) p x at (first.reads (first_known a b c second.goes_on known) p x at h);
  grows = record {
    more = first.grows.more ++ second.grows.more;
    trail = second.grows.trail ∙ ap (λ (l : List Change). l ++ second.grows.more) first.grows.trail ∙ append_assoc a.trail first.grows.more second.grows.more;
    misses = λ honest p x at h.
        let before = second.goes_on.honest honest in
        subst (λ (l : List Span). in_spans l p ≡ false) (sym (spans_of-append first.grows.more second.grows.more))
        (in_spans-append (spans_of first.grows.more) (spans_of second.grows.more) p (first.grows.misses before p x at h) (second.grows.misses honest p x at (first.reads (inl before) p x at h)));
  };
  run = runs_then K a b c first.run second.run;
}

pub keeps_none : (K : ℕ → Type 0) (s : FileState) → Keeps K s s
keeps_none K s = record {
  goes_on = goes_on_none s;
  later = omega arith;
  past = λ t i le left. left;
  places = λ honest t p x le whole every. every;
  reads = λ known p x at h. h;
  grows = record { more = []; trail = sym (append-nil s.trail); misses = λ honest p x at h. refl };
  run = runs_none K s;
}

-- a call that changes nothing is a change of no place
pub rest_changes : (old new : FileState) → Rests old new → Changes 0 0 old new
rest_changes old new rests = record { trail = inl rests.trail; settled = rests.settled; pending_from = rests.pending_from; goes_on = rests.goes_on }

-- a call that changes nothing keeps all
pub rest_keeps : (old new : FileState) → Sound old → Rests old new → Keeps Anywhere old new
rest_keeps old new sound rests =
    let changes = rest_changes old new rests in
    record {
      goes_on = rests.goes_on;
      later = omega (arith, ap length rests.trail);
      past = past_change 0 0 old new sound changes;
      places = λ honest t p x le whole every. places_change 0 0 old new sound changes honest t p x le (λ q same. (inr (omega arith), (whole q same).1)) every;
      reads = λ known p x at h. subst (λ (b : List ℕ). Has b p x) (sym (rests.reads known)) h;
      grows = record { more = []; trail = rests.trail ∙ sym (append-nil old.trail); misses = λ honest p x at h. refl };
      run = runs_one Anywhere rest old new sound rests tt;
    }

-- so does a sync
pub sync_keeps : (old new : FileState) → Sound old → Syncs old new → Keeps Anywhere old new
sync_keeps old new sound syncs = record {
  goes_on = syncs.goes_on;
  later = later_push _ old new sound syncs.trail;
  past = past;
  places = places;
  reads = λ known p x at h. subst (λ (b : List ℕ). Has b p x) (sym (syncs.reads known)) h;
  grows = record { more = syncs.trail.change ∷ []; trail = syncs.trail.trail; misses = λ honest p x at h. one_span syncs.trail.change.span p (out p) };
  run = runs_one Anywhere sync old new sound syncs tt;
}
  where
    out : (p : ℕ) → in_span syncs.trail.change.span p ≡ false
    out p = no_place syncs.trail.change.span p (λ hit. syncs.trail.within p hit)

    is : IsTrue new.honest → new.settled ≡ old.reads
    is honest = syncs.settled honest ∙ syncs.reads (inl honest)

    past : (t : ℕ) (i : List ℕ) → t ≤ moment old → LeftSince old t i → LeftSince new t i
    past t i le left honest =
        let was = past_push _ old new sound syncs.trail t i le (left (syncs.goes_on.honest honest)) in
        let k = base_at old.trail old.pending_from t in
        record {
          stays = λ p x e h.
              let free = in_spans_front (spans_since old t) (syncs.trail.change.span ∷ []) p (subst (λ (l : List Span). in_spans l p ≡ false) (spans_push _ old new sound syncs.trail t le) (spared_free (spans_since new t) p e)) in
              was.stays p x e ((sound.bytes.agrees (syncs.goes_on.honest honest) p x (in_spans_drop k old.pending_from old.trail p (sound.bytes.bases t) free)).1 (subst (λ (b : List ℕ). Has b p x) (is honest) h));
          exact = λ none.
              let before : (p : ℕ) → in_spans (spans_since old t) p ≡ false = λ p. in_spans_front (spans_since old t) (syncs.trail.change.span ∷ []) p (subst (λ (l : List Span). in_spans l p ≡ false) (spans_push _ old new sound syncs.trail t le) (none p)) in
              let agree = λ (p x : ℕ). sound.bytes.agrees (syncs.goes_on.honest honest) p x (in_spans_drop k old.pending_from old.trail p (sound.bytes.bases t) (before p)) in
              (left (syncs.goes_on.honest honest)).exact before
              ∙ same_bytes old.settled old.reads (λ p x h. (agree p x).0 h) (λ p x h. (agree p x).1 h) ∙ sym (is honest);
        }

    places : IsTrue new.honest → (t p x : ℕ) → t ≤ moment old → IsKeptWhole Anywhere old.reads p → Every (LeftSince old t) p x → Every (LeftSince new t) p x
    places honest t p x le whole every i left =
        let was = every_free old t p x (syncs.goes_on.honest honest) every in
        let here = every_reads old t p x sound every in
        (left honest).stays p x (spared_push _ old new sound syncs.trail t p le was.0 (λ q same. out q)) (subst (λ (b : List ℕ). Has b p x) (sym (is honest)) here)

-- after a sync that succeeds nothing is pending
pub synced_pending : (old new : FileState) → Syncs old new → pending new ≡ []
synced_pending old new syncs = ap (λ (n : ℕ). spans_of (drop n new.trail)) syncs.pending_from ∙ ap spans_of (drop_all (length new.trail) new.trail (omega arith))

-- and what a read gives is the only image
pub synced : (old new : FileState) → Syncs old new → IsTrue new.honest → (i : List ℕ) → LeftNow new i → i ≡ new.reads
synced old new syncs honest i left = exact_none new.settled (pending new) i (synced_pending old new syncs) (left honest) ∙ syncs.settled honest
