-- Splits and joins of seats keep the rule.
use Rattle.std.proofs.Common.{◌≡◌, ◌≢◌, ℕ, ◌==◌, List, [], ◌∷◌, ◌++◌, length, set, true, false, true≢false, Option, Some, None, refl, sym, ap, ◌∙◌, subst, ⊎_elim, length-set}
use Rattle.std.proofs.lemmas.Bool.Decides.{eqb_tells}
use Rattle.std.specs.Prelude.{unwrap_or}
use mathlib.Core.Option.{some, some-injective}
use lib.ListN.{get_elem?}
use Rattle.atomic_table.proofs.Lists.{set_else}
use Rattle.store_model.specs.Record.{concerns_file}
use Rattle.history_seats.specs.Records.{HistoryRecord, is_of_session}
use Rattle.history_seats.specs.Mounts.{Mounted}
use Rattle.history_seats.specs.Tags.{AreTagsRight}
use Rattle.history_seats.specs.Views.{SlotView, PassView, Joined, SeatView}
use Rattle.history_seats.specs.Views.SeatView.{Gate, Slot, Pass, Half, Kept, Spent}
use Rattle.history_seats.specs.Numbers.{is_in}
use Rattle.history_seats.specs.Rule.{SlotFits, PassFits, IsCut, Fits, slot_file, pass_session, file_taken, session_taken, AreHeld, AreKept, SeatRule}
use Rattle.history_seats.specs.Changes.{with_slot_out, new_slot, with_pass_out, new_pass}
use Rattle.history_seats.proofs.Lists.{at_front, at_set_here, no_some, none_or_some, or_right, put, put_here, put_else}
use Rattle.history_seats.proofs.Numbers.{distinct-more}
use Rattle.history_seats.proofs.Outs.{none-out, other_than, not_the_same, out-more, out-again, out-less}
use Rattle.history_seats.proofs.Held.{held-set, held-snoc, held-more, held-leave, held-enter, held-same, kept-set, kept-snoc, kept-more, kept-less}
use Rattle.history_seats.proofs.Keeping.{at_gate, others, halves_move, set_each, snoc_each, and_new, keep_slot, keep_pass, seen-whole, still_told}

-- the tags are right from the mount that is told, which is the first
told_tags : (o : Option Mounted) (d : Mounted) (all : List HistoryRecord) → (o ≡ None → all ≡ []) → ((m : Mounted) → o ≡ Some m → AreTagsRight m [] all)
    → (m : Mounted) → Some (unwrap_or o d) ≡ Some m → AreTagsRight m [] all
told_tags None d all first right m e = subst (λ (l : List HistoryRecord). AreTagsRight m [] l) (sym (first refl)) tt
told_tags (Some x) d all first right m e = right m e

never_none : {A : Type 0} {X : Type 0} (x : A) → Some x ≡ None → X
never_none x e = absurd (no_some x (sym e))

-- a new slot's seat
pub slot_split : (mounted : Mounted) (file generation id : ℕ) (j : Joined) → is_in file j.gate.files ≡ false → (words : List ℕ) (views : List SeatView) → SeatRule words views → get_elem? views id ≡ some (Gate j)
    → SeatRule words (set views id (Gate (record j { gate = with_slot_out mounted file j.gate })) ++ Slot (new_slot mounted file generation j.gate) ∷ [])
slot_split mounted file generation id j new words views kept at =
    let o = at_gate words views id j kept at in
    let sa = o.0 in
    let pa = o.1 in
    let ka = o.2 in
    let h = o.3 in
    let g = j.gate in
    let k : Joined = record j { gate = with_slot_out mounted file g } in
    let sb = put sa file (Some (length views)) in
    let s = h.agrees.gate in
    let slot_stays : (t : SlotView) → SlotFits g t → SlotFits k.gate t = λ t f. keep_slot g k.gate t refl (still_told g.mounted mounted t.mounted) refl f in
    let pass_stays : (p : PassView) → PassFits g p → PassFits k.gate p = λ p f. keep_pass g k.gate p refl (still_told g.mounted mounted p.mounted) refl f in (
      k,
      id,
      sb,
      pa,
      ka,
      record {
        word = h.word;
        gate_stands = at_front (set views id (Gate k)) (Slot (new_slot mounted file generation g)) (Gate k) id (at_set_here views id (Gate j) (Gate k) at);
        fit = and_new j k id (Slot (new_slot mounted file generation g)) sa sb pa pa ka words views h
            (λ t seat out f. (put_else sa file (Some (length views)) t.file (other_than sa g.files file t.file seat h.files_out new out) ∙ out, slot_stays t f))
            (λ p seat out f. (out, pass_stays p f))
            (λ p f. pass_stays p f) (
              put_here sa file (Some (length views)) file refl,
              record { sees = seen-whole (concerns_file file) k.gate s.decided_within s.decided_below; mounted = refl },
            );
        files_held = subst (λ (n : ℕ). AreHeld slot_file (file_taken j.slot) (put sa file (Some n)) (file ∷ g.files) ((set views id (Gate k)) ++ Slot (new_slot mounted file generation g) ∷ [])) (length-set views id (Gate k)) (held-more slot_file (file_taken j.slot) sa g.files (set views id (Gate k)) (Slot (new_slot mounted file generation g)) file refl (held-set slot_file (file_taken j.slot) sa j.gate.files views id (Gate j) (Gate k) at refl h.files_held));
        sessions_held = held-snoc pass_session (session_taken j.pass) pa g.sessions (set views id (Gate k)) (Slot (new_slot mounted file generation g)) (held-set pass_session (session_taken j.pass) pa j.gate.sessions views id (Gate j) (Gate k) at refl h.sessions_held);
        files_out = out-more sa g.files file (length views) h.files_out;
        sessions_out = h.sessions_out;
        slot_in = λ t e. put_else sa file (Some (length views)) t.file (λ q. true≢false (sym (h.agrees.slot t e).1 ∙ ap (λ (m : ℕ). is_in m g.files) q ∙ new)) ∙ h.slot_in t e;
        pass_in = h.pass_in;
        halves_held = kept-snoc (session_taken j.kept) ka (set views id (Gate k)) (Slot (new_slot mounted file generation g)) (kept-set (session_taken j.kept) ka views id (Gate j) (Gate k) at refl h.halves_held);
        halves_out = h.halves_out;
        whole_in = h.whole_in;
        kept_in = h.kept_in;
        agrees = record {
          gate = record {
            decided_within = s.decided_within;
            decided_below = s.decided_below;
            tags_right = told_tags g.mounted mounted g.all h.unmounted s.tags_right;
            tagged = s.tagged;
            numbered = s.numbered;
            files_distinct = distinct-more file g.files new s.files_distinct;
            sessions_distinct = s.sessions_distinct;
          };
          slot = λ t e. let w = h.agrees.slot t e in (slot_stays t w.0, or_right (file == t.file) (is_in t.file g.files) w.1);
          pass = λ p e. let w = h.agrees.pass p e in (pass_stays p w.0, w.1);
          kept = λ p e. let w = h.agrees.kept p e in (pass_stays p w.0, w.1);
        };
        unmounted = λ e. never_none (unwrap_or g.mounted mounted) e;
      },
    )

-- a new pass
pub pass_split : (mounted : Mounted) (session id : ℕ) (j : Joined) → is_in session j.gate.sessions ≡ false → (words : List ℕ) (views : List SeatView) → SeatRule words views → get_elem? views id ≡ some (Gate j)
    → SeatRule words (set views id (Gate (record j { gate = with_pass_out mounted session j.gate })) ++ Pass (new_pass mounted session j.gate) ∷ [])
pass_split mounted session id j new words views kept at =
    let o = at_gate words views id j kept at in
    let sa = o.0 in
    let pa = o.1 in
    let ka = o.2 in
    let h = o.3 in
    let g = j.gate in
    let k : Joined = record j { gate = with_pass_out mounted session g } in
    let pb = put pa session (Some (length views)) in
    let s = h.agrees.gate in
    let slot_stays : (t : SlotView) → SlotFits g t → SlotFits k.gate t = λ t f. keep_slot g k.gate t refl (still_told g.mounted mounted t.mounted) refl f in
    let pass_stays : (p : PassView) → PassFits g p → PassFits k.gate p = λ p f. keep_pass g k.gate p refl (still_told g.mounted mounted p.mounted) refl f in (
      k,
      id,
      sa,
      pb,
      ka,
      record {
        word = h.word;
        gate_stands = at_front (set views id (Gate k)) (Pass (new_pass mounted session g)) (Gate k) id (at_set_here views id (Gate j) (Gate k) at);
        fit = and_new j k id (Pass (new_pass mounted session g)) sa sa pa pb ka words views h
            (λ t seat out f. (out, slot_stays t f))
            (λ p seat out f. (put_else pa session (Some (length views)) p.session (other_than pa g.sessions session p.session seat h.sessions_out new out) ∙ out, pass_stays p f))
            (λ p f. pass_stays p f)
            (put_here pa session (Some (length views)) session refl, none-out ka g.sessions session h.halves_out new, record { sees = seen-whole (is_of_session session) k.gate s.decided_within s.decided_below; mounted = refl });
        files_held = held-snoc slot_file (file_taken j.slot) sa g.files (set views id (Gate k)) (Pass (new_pass mounted session g)) (held-set slot_file (file_taken j.slot) sa j.gate.files views id (Gate j) (Gate k) at refl h.files_held);
        sessions_held = subst (λ (n : ℕ). AreHeld pass_session (session_taken j.pass) (put pa session (Some n)) (session ∷ g.sessions) ((set views id (Gate k)) ++ Pass (new_pass mounted session g) ∷ [])) (length-set views id (Gate k)) (held-more pass_session (session_taken j.pass) pa g.sessions (set views id (Gate k)) (Pass (new_pass mounted session g)) session refl (held-set pass_session (session_taken j.pass) pa j.gate.sessions views id (Gate j) (Gate k) at refl h.sessions_held));
        files_out = h.files_out;
        sessions_out = out-more pa g.sessions session (length views) h.sessions_out;
        slot_in = h.slot_in;
        pass_in = λ p e. put_else pa session (Some (length views)) p.session (λ q. true≢false (sym (h.agrees.pass p e).1 ∙ ap (λ (m : ℕ). is_in m g.sessions) q ∙ new)) ∙ h.pass_in p e;
        halves_held = kept-snoc (session_taken j.kept) ka (set views id (Gate k)) (Pass (new_pass mounted session g)) (kept-set (session_taken j.kept) ka views id (Gate j) (Gate k) at refl h.halves_held);
        halves_out = λ n seat e. or_right (session == n) (is_in n g.sessions) (h.halves_out n seat e);
        whole_in = h.whole_in;
        kept_in = h.kept_in;
        agrees = record {
          gate = record {
            decided_within = s.decided_within;
            decided_below = s.decided_below;
            tags_right = told_tags g.mounted mounted g.all h.unmounted s.tags_right;
            tagged = s.tagged;
            numbered = s.numbered;
            files_distinct = s.files_distinct;
            sessions_distinct = distinct-more session g.sessions new s.sessions_distinct;
          };
          slot = λ t e. let w = h.agrees.slot t e in (slot_stays t w.0, w.1);
          pass = λ p e. let w = h.agrees.pass p e in (pass_stays p w.0, or_right (session == p.session) (is_in p.session g.sessions) w.1);
          kept = λ p e. let w = h.agrees.kept p e in (pass_stays p w.0, or_right (session == p.session) (is_in p.session g.sessions) w.1);
        };
        unmounted = λ e. never_none (unwrap_or g.mounted mounted) e;
      },
    )

-- the slot's seat that was taken in leaves again
pub slot_leave : (id : ℕ) (j : Joined) (s : SlotView) → j.slot ≡ Some s → (words : List ℕ) (views : List SeatView) → SeatRule words views → get_elem? views id ≡ some (Gate j)
    → SeatRule words (set views id (Gate (record j { slot = None })) ++ Slot s ∷ [])
slot_leave id j s is words views kept at =
    let o = at_gate words views id j kept at in
    let sa = o.0 in
    let pa = o.1 in
    let ka = o.2 in
    let h = o.3 in
    let k : Joined = record j { slot = None } in
    let was = h.agrees.slot s is in
    let sb = put sa s.file (Some (length views)) in (
      k,
      id,
      sb,
      pa,
      ka,
      record {
        word = h.word;
        gate_stands = at_front (set views id (Gate k)) (Slot s) (Gate k) id (at_set_here views id (Gate j) (Gate k) at);
        fit = and_new j k id (Slot s) sa sb pa pa ka words views h
            (λ t seat out f. (put_else sa s.file (Some (length views)) t.file (not_the_same sa s.file t.file seat (h.slot_in s is) out) ∙ out, f))
            (λ p seat out f. (out, f))
            (λ p f. f)
            (put_here sa s.file (Some (length views)) s.file refl, was.0);
        files_held = subst (λ (n : ℕ). AreHeld slot_file None (put sa s.file (Some n)) j.gate.files ((set views id (Gate k)) ++ Slot s ∷ [])) (length-set views id (Gate k)) (held-leave slot_file sa j.gate.files (set views id (Gate k)) (Slot s) s.file refl (h.slot_in s is) (subst (λ (o : Option SlotView). AreHeld slot_file (file_taken o) sa j.gate.files (set views id (Gate k))) is (held-set slot_file (file_taken j.slot) sa j.gate.files views id (Gate j) (Gate k) at refl h.files_held)));
        sessions_held = held-snoc pass_session (session_taken j.pass) pa j.gate.sessions (set views id (Gate k)) (Slot s) (held-set pass_session (session_taken j.pass) pa j.gate.sessions views id (Gate j) (Gate k) at refl h.sessions_held);
        files_out = out-again sa j.gate.files s.file (length views) was.1 h.files_out;
        sessions_out = h.sessions_out;
        slot_in = λ t e. absurd (no_some t e);
        pass_in = h.pass_in;
        halves_held = kept-snoc (session_taken j.kept) ka (set views id (Gate k)) (Slot s) (kept-set (session_taken j.kept) ka views id (Gate j) (Gate k) at refl h.halves_held);
        halves_out = h.halves_out;
        whole_in = h.whole_in;
        kept_in = h.kept_in;
        agrees = record { gate = h.agrees.gate; slot = λ t e. absurd (no_some t e); pass = h.agrees.pass; kept = h.agrees.kept };
        unmounted = h.unmounted;
      },
    )

-- the pass that was taken in leaves again
pub pass_leave : (id : ℕ) (j : Joined) (p : PassView) → j.pass ≡ Some p → (words : List ℕ) (views : List SeatView) → SeatRule words views → get_elem? views id ≡ some (Gate j)
    → SeatRule words (set views id (Gate (record j { pass = None })) ++ Pass p ∷ [])
pass_leave id j p is words views kept at =
    let o = at_gate words views id j kept at in
    let sa = o.0 in
    let pa = o.1 in
    let ka = o.2 in
    let h = o.3 in
    let k : Joined = record j { pass = None } in
    let was = h.agrees.pass p is in
    let pb = put pa p.session (Some (length views)) in (
      k,
      id,
      sa,
      pb,
      ka,
      record {
        word = h.word;
        gate_stands = at_front (set views id (Gate k)) (Pass p) (Gate k) id (at_set_here views id (Gate j) (Gate k) at);
        fit = and_new j k id (Pass p) sa sa pa pb ka words views h
            (λ t seat out f. (out, f))
            (λ q seat out f. (put_else pa p.session (Some (length views)) q.session (not_the_same pa p.session q.session seat (h.pass_in p is) out) ∙ out, f))
            (λ q f. f)
            (put_here pa p.session (Some (length views)) p.session refl, h.whole_in p is, was.0);
        files_held = held-snoc slot_file (file_taken j.slot) sa j.gate.files (set views id (Gate k)) (Pass p) (held-set slot_file (file_taken j.slot) sa j.gate.files views id (Gate j) (Gate k) at refl h.files_held);
        sessions_held = subst (λ (n : ℕ). AreHeld pass_session None (put pa p.session (Some n)) j.gate.sessions ((set views id (Gate k)) ++ Pass p ∷ [])) (length-set views id (Gate k)) (held-leave pass_session pa j.gate.sessions (set views id (Gate k)) (Pass p) p.session refl (h.pass_in p is) (subst (λ (o : Option PassView). AreHeld pass_session (session_taken o) pa j.gate.sessions (set views id (Gate k))) is (held-set pass_session (session_taken j.pass) pa j.gate.sessions views id (Gate j) (Gate k) at refl h.sessions_held)));
        files_out = h.files_out;
        sessions_out = out-again pa j.gate.sessions p.session (length views) was.1 h.sessions_out;
        slot_in = h.slot_in;
        pass_in = λ t e. absurd (no_some t e);
        halves_held = kept-snoc (session_taken j.kept) ka (set views id (Gate k)) (Pass p) (kept-set (session_taken j.kept) ka views id (Gate j) (Gate k) at refl h.halves_held);
        halves_out = h.halves_out;
        whole_in = λ t e. absurd (no_some t e);
        kept_in = h.kept_in;
        agrees = record { gate = h.agrees.gate; slot = h.agrees.slot; pass = λ t e. absurd (no_some t e); kept = h.agrees.kept };
        unmounted = h.unmounted;
      },
    )

-- a kept half that is at another seat is a half still, and a pass that is whole stays so where a half goes
still_cut : (ka : ℕ → Option ℕ) (k seat n : ℕ) → IsCut ka n → IsCut (put ka k (Some seat)) n
still_cut ka k seat n cut = ⊎_elim
    (λ (y : ((n == k) ≡ true) × (n ≡ k)). (seat, put_here ka k (Some seat) n y.1))
    (λ (y : ((n == k) ≡ false) × (n ≢ k)). (cut.0, put_else ka k (Some seat) n y.1 ∙ cut.1))
    (eqb_tells n k)

no_more : (ka : ℕ → Option ℕ) (k n : ℕ) → ka n ≡ None → put ka k None n ≡ None
no_more ka k n none = ⊎_elim
    (λ (y : ((n == k) ≡ true) × (n ≡ k)). put_here ka k None n y.1)
    (λ (y : ((n == k) ≡ false) × (n ≢ k)). put_else ka k None n y.1 ∙ none)
    (eqb_tells n k)

-- a number without a seat is another than one that has one
not_the_same' : (at : ℕ → Option ℕ) (k n seat : ℕ) → at n ≡ None → at k ≡ Some seat → n ≢ k
not_the_same' at k n seat free e = λ q. none_or_some seat (at n) free (ap at q ∙ e)

-- what fits where kept halves moved, and the gate's view is the same
moved_fit : (j : Joined) (id : ℕ) (sa pa ka kb : ℕ → Option ℕ) (seat : ℕ) (v : SeatView)
    → ((p : PassView) → pa p.session ≡ Some seat → ka p.session ≡ None → kb p.session ≡ None)
    → ((p : PassView) → pa p.session ≡ Some seat → IsCut ka p.session → IsCut kb p.session)
    → ((p : PassView) → ka p.session ≡ Some seat → kb p.session ≡ Some seat)
    → Fits j id sa pa ka seat v → Fits j id sa pa kb seat v
moved_fit j id sa pa ka kb seat (Gate x) whole cut kept f = f
moved_fit j id sa pa ka kb seat (Slot s) whole cut kept f = f
moved_fit j id sa pa ka kb seat (Pass p) whole cut kept f = (f.0, whole p f.0 f.1, f.2)
moved_fit j id sa pa ka kb seat (Half p) whole cut kept f = (f.0, cut p f.0 f.1, f.2)
moved_fit j id sa pa ka kb seat (Kept p) whole cut kept f = (kept p f.0, f.1)
moved_fit j id sa pa ka kb seat Spent whole cut kept f = tt

-- what stands at another place after a view was set
elsewhere : (views : List SeatView) (id other : ℕ) (x w : SeatView) → (other ≡ id → ⊥) → get_elem? (set views id x) other ≡ some w → get_elem? views other ≡ some w
elsewhere views id other x w apart e = sym (set_else views id other x apart) ∙ e

same_seat : {A : Type 0} (a b : A) (o : Option A) → o ≡ Some a → o ≡ Some b → a ≡ b
same_seat a b o e d = let both : Some a ≡ Some b = sym e ∙ d in cc

-- a slot's seat is taken in, where none was
pub slot_enter : (id : ℕ) (j : Joined) (other : ℕ) (s : SlotView) → j.slot ≡ None → (words : List ℕ) (views : List SeatView) → SeatRule words views → get_elem? views id ≡ some (Gate j)
    → (other ≡ id → ⊥) → get_elem? (set views id (Gate (record j { slot = Some s }))) other ≡ some (Slot s)
    → SeatRule words (set (set views id (Gate (record j { slot = Some s }))) other Spent)
slot_enter id j other s free words views kept at apart there =
    let o = at_gate words views id j kept at in
    let sa = o.0 in
    let pa = o.1 in
    let ka = o.2 in
    let h = o.3 in
    let k : Joined = record j { slot = Some s } in
    let sb = put sa s.file None in
    let was = h.fit other (Slot s) (elsewhere views id other (Gate k) (Slot s) apart there) in (
      k,
      id,
      sb,
      pa,
      ka,
      record {
        word = h.word;
        gate_stands = set_else (set views id (Gate k)) other id Spent (λ q. apart (sym q)) ∙ at_set_here views id (Gate j) (Gate k) at;
        fit = set_each (set views id (Gate k)) other Spent (Fits k id sb pa ka)
            (λ seat v far e. set_each views id (Gate k) (λ i u. (i ≢ other) → Fits k id sb pa ka i u)
            (λ i u near q. λ away. others j k id sa sb pa pa ka i u near
            (λ t out f. (put_else sa s.file None t.file (λ y. away (same_seat i other (sa t.file) out (ap sa y ∙ was.0))) ∙ out, f))
            (λ p out f. (out, f))
            (λ p out f. f)
            (h.fit i u q))
            (λ _. (refl, refl))
            seat v e far)
            tt;
        files_held = held-enter slot_file sa j.gate.files (set views id (Gate k)) other (Slot s) s.file there refl (subst (λ (o : Option SlotView). AreHeld slot_file (file_taken o) sa j.gate.files (set views id (Gate k))) free (held-set slot_file (file_taken j.slot) sa j.gate.files views id (Gate j) (Gate k) at refl h.files_held));
        sessions_held = held-set pass_session (session_taken j.pass) pa j.gate.sessions (set views id (Gate k)) other (Slot s) Spent there refl (held-set pass_session (session_taken j.pass) pa j.gate.sessions views id (Gate j) (Gate k) at refl h.sessions_held);
        files_out = out-less sa j.gate.files s.file h.files_out;
        sessions_out = h.sessions_out;
        slot_in = λ t e. let same : s ≡ t = cc (e) in put_here sa s.file None t.file (ap (λ (x : SlotView). x.file) (sym same));
        pass_in = h.pass_in;
        halves_held = kept-set (session_taken j.kept) ka (set views id (Gate k)) other (Slot s) Spent there refl (kept-set (session_taken j.kept) ka views id (Gate j) (Gate k) at refl h.halves_held);
        halves_out = h.halves_out;
        whole_in = h.whole_in;
        kept_in = h.kept_in;
        agrees = record {
          gate = h.agrees.gate;
          slot = λ t e. let same : s ≡ t = cc (e) in subst (λ (x : SlotView). SlotFits j.gate x × (is_in x.file j.gate.files ≡ true)) same (was.1, h.files_out s.file other was.0);
          pass = h.agrees.pass;
          kept = h.agrees.kept;
        };
        unmounted = h.unmounted;
      },
    )

-- a pass is taken in, where none was
pub pass_enter : (id : ℕ) (j : Joined) (other : ℕ) (p : PassView) → j.pass ≡ None → (words : List ℕ) (views : List SeatView) → SeatRule words views → get_elem? views id ≡ some (Gate j)
    → (other ≡ id → ⊥) → get_elem? (set views id (Gate (record j { pass = Some p }))) other ≡ some (Pass p)
    → SeatRule words (set (set views id (Gate (record j { pass = Some p }))) other Spent)
pass_enter id j other p free words views kept at apart there =
    let o = at_gate words views id j kept at in
    let sa = o.0 in
    let pa = o.1 in
    let ka = o.2 in
    let h = o.3 in
    let k : Joined = record j { pass = Some p } in
    let pb = put pa p.session None in
    let was = h.fit other (Pass p) (elsewhere views id other (Gate k) (Pass p) apart there) in (
      k,
      id,
      sa,
      pb,
      ka,
      record {
        word = h.word;
        gate_stands = set_else (set views id (Gate k)) other id Spent (λ q. apart (sym q)) ∙ at_set_here views id (Gate j) (Gate k) at;
        fit = set_each (set views id (Gate k)) other Spent (Fits k id sa pb ka)
            (λ seat v far e. set_each views id (Gate k) (λ i u. (i ≢ other) → Fits k id sa pb ka i u)
            (λ i u near q. λ away. others j k id sa sa pa pb ka i u near
            (λ t out f. (out, f))
            (λ t out f. (put_else pa p.session None t.session (λ y. away (same_seat i other (pa t.session) out (ap pa y ∙ was.0))) ∙ out, f))
            (λ t out f. f)
            (h.fit i u q))
            (λ _. (refl, refl))
            seat v e far)
            tt;
        files_held = held-set slot_file (file_taken j.slot) sa j.gate.files (set views id (Gate k)) other (Pass p) Spent there refl (held-set slot_file (file_taken j.slot) sa j.gate.files views id (Gate j) (Gate k) at refl h.files_held);
        sessions_held = held-enter pass_session pa j.gate.sessions (set views id (Gate k)) other (Pass p) p.session there refl (subst (λ (o : Option PassView). AreHeld pass_session (session_taken o) pa j.gate.sessions (set views id (Gate k))) free (held-set pass_session (session_taken j.pass) pa j.gate.sessions views id (Gate j) (Gate k) at refl h.sessions_held));
        files_out = h.files_out;
        sessions_out = out-less pa j.gate.sessions p.session h.sessions_out;
        slot_in = h.slot_in;
        pass_in = λ t e. let same : p ≡ t = cc (e) in put_here pa p.session None t.session (ap (λ (x : PassView). x.session) (sym same));
        halves_held = kept-set (session_taken j.kept) ka (set views id (Gate k)) other (Pass p) Spent there refl (kept-set (session_taken j.kept) ka views id (Gate j) (Gate k) at refl h.halves_held);
        halves_out = h.halves_out;
        whole_in = λ t e. let same : p ≡ t = cc (e) in subst (λ (x : PassView). ka x.session ≡ None) same was.1;
        kept_in = h.kept_in;
        agrees = record {
          gate = h.agrees.gate;
          slot = h.agrees.slot;
          pass = λ t e. let same : p ≡ t = cc (e) in subst (λ (x : PassView). PassFits j.gate x × (is_in x.session j.gate.sessions ≡ true)) same (was.2, h.sessions_out p.session other was.0);
          kept = h.agrees.kept;
        };
        unmounted = h.unmounted;
      },
    )

-- a view that is not the gate's stands at another seat
apart_from_gate : (views : List SeatView) (id other : ℕ) (j : Joined) (w : SeatView) → get_elem? views id ≡ some (Gate j) → get_elem? views other ≡ some w → (Gate j ≡ w → ⊥) → other ≡ id → ⊥
apart_from_gate views id other j w at there differ q =
    let both : some (Gate j) ≡ some w = sym at ∙ ap (get_elem? views) (sym q) ∙ there in
    differ (some-injective (Gate j) w both)

-- a pass is cut in two halves, with the pass's own seat
pub pass_cut : (id : ℕ) (p : PassView) (words : List ℕ) (views : List SeatView) → SeatRule words views → get_elem? views id ≡ some (Pass p)
    → SeatRule words (set views id (Half p) ++ Kept p ∷ [])
pass_cut id p words views kept at =
    let j = kept.0 in
    let gate = kept.1 in
    let sa = kept.2 in
    let pa = kept.3 in
    let ka = kept.4 in
    let h = kept.5 in
    let was = h.fit id (Pass p) at in
    let kb = put ka p.session (Some (length views)) in
    let far : id ≡ gate → ⊥ = apart_from_gate views gate id j (Pass p) h.gate_stands at (λ e. cc (e)) in
    let free : (n seat : ℕ) → ka n ≡ Some seat → n ≢ p.session = λ n seat e. not_the_same ka p.session n seat was.1 e in (
      j,
      gate,
      sa,
      pa,
      kb,
      record {
        word = h.word;
        gate_stands = at_front (set views id (Half p)) (Kept p) (Gate j) gate (set_else views id gate (Half p) (λ q. far (sym q)) ∙ h.gate_stands);
        fit = snoc_each (set views id (Half p)) (Kept p) (Fits j gate sa pa kb)
            (set_each views id (Half p) (Fits j gate sa pa kb)
            (λ seat v apart e. moved_fit j gate sa pa ka kb seat v
            (λ q out none. put_else ka p.session (Some (length views)) q.session (λ y. apart (same_seat seat id (pa q.session) out (ap pa y ∙ was.0))) ∙ none)
            (λ q out cut. (cut.0, put_else ka p.session (Some (length views)) q.session (free q.session cut.0 cut.1) ∙ cut.1))
            (λ q out. put_else ka p.session (Some (length views)) q.session (free q.session seat out) ∙ out)
            (h.fit seat v e))
            (was.0, (length views, put_here ka p.session (Some (length views)) p.session refl), was.2))
            (put_here ka p.session (Some (length views)) p.session refl ∙ ap (λ (n : ℕ). Some n) (sym (length-set views id (Half p))), was.2);
        files_held = held-snoc slot_file (file_taken j.slot) sa j.gate.files (set views id (Half p)) (Kept p) (held-set slot_file (file_taken j.slot) sa j.gate.files views id (Pass p) (Half p) at refl h.files_held);
        sessions_held = held-snoc pass_session (session_taken j.pass) pa j.gate.sessions (set views id (Half p)) (Kept p) (held-same pass_session (session_taken j.pass) pa j.gate.sessions views id (Pass p) (Half p) at refl h.sessions_held);
        files_out = h.files_out;
        sessions_out = h.sessions_out;
        slot_in = h.slot_in;
        pass_in = h.pass_in;
        halves_held = subst (λ (n : ℕ). AreKept (session_taken j.kept) (put ka p.session (Some n)) (set views id (Half p) ++ Kept p ∷ [])) (length-set views id (Half p))
            (kept-more (session_taken j.kept) (session_taken j.kept) ka (set views id (Half p)) (Kept p) p.session refl (λ n q e. e) (kept-set (session_taken j.kept) ka views id (Pass p) (Half p) at refl h.halves_held));
        halves_out = out-again ka j.gate.sessions p.session (length views) (h.sessions_out p.session id was.0) h.halves_out;
        whole_in = λ q e. put_else ka p.session (Some (length views)) q.session (not_the_same' pa p.session q.session id (h.pass_in q e) was.0) ∙ h.whole_in q e;
        kept_in = λ q e. put_else ka p.session (Some (length views)) q.session (free q.session gate (h.kept_in q e)) ∙ h.kept_in q e;
        agrees = h.agrees;
        unmounted = h.unmounted;
      },
    )

-- the two halves of a pass are one again, with the caller's half's seat
pub pass_whole : (id : ℕ) (p : PassView) (other : ℕ) (q : PassView) → q.session ≡ p.session → (words : List ℕ) (views : List SeatView) → SeatRule words views → get_elem? views id ≡ some (Half p)
    → (other ≡ id → ⊥) → get_elem? (set views id (Pass p)) other ≡ some (Kept q)
    → SeatRule words (set (set views id (Pass p)) other Spent)
pass_whole id p other q same words views kept at apart there =
    let j = kept.0 in
    let gate = kept.1 in
    let sa = kept.2 in
    let pa = kept.3 in
    let ka = kept.4 in
    let h = kept.5 in
    let stands = elsewhere views id other (Pass p) (Kept q) apart there in
    let was = h.fit id (Half p) at in
    let that = h.fit other (Kept q) stands in
    let its : ka p.session ≡ Some other = ap ka (sym same) ∙ that.0 in
    let kb = put ka p.session None in
    let far : id ≡ gate → ⊥ = apart_from_gate views gate id j (Half p) h.gate_stands at (λ e. cc (e)) in
    let away : other ≡ gate → ⊥ = apart_from_gate views gate other j (Kept q) h.gate_stands stands (λ e. cc (e)) in (
      j,
      gate,
      sa,
      pa,
      kb,
      record {
        word = h.word;
        gate_stands = set_else (set views id (Pass p)) other gate Spent (λ y. away (sym y)) ∙ set_else views id gate (Pass p) (λ y. far (sym y)) ∙ h.gate_stands;
        fit = set_each (set views id (Pass p)) other Spent (Fits j gate sa pa kb)
            (λ seat v off e. set_each views id (Pass p) (λ i u. (i ≢ other) → Fits j gate sa pa kb i u)
            (λ i u near y. λ gone. moved_fit j gate sa pa ka kb i u
            (λ r out none. no_more ka p.session r.session none)
            (λ r out cut. (cut.0, put_else ka p.session None r.session (λ z. near (same_seat i id (pa r.session) out (ap pa z ∙ was.0))) ∙ cut.1))
            (λ r out. put_else ka p.session None r.session (λ z. gone (same_seat i other (ka r.session) out (ap ka z ∙ its))) ∙ out)
            (h.fit i u y))
            (λ _. (was.0, put_here ka p.session None p.session refl, was.2))
            seat v e off)
            tt;
        files_held = held-set slot_file (file_taken j.slot) sa j.gate.files (set views id (Pass p)) other (Kept q) Spent there refl (held-set slot_file (file_taken j.slot) sa j.gate.files views id (Half p) (Pass p) at refl h.files_held);
        sessions_held = held-set pass_session (session_taken j.pass) pa j.gate.sessions (set views id (Pass p)) other (Kept q) Spent there refl (held-same pass_session (session_taken j.pass) pa j.gate.sessions views id (Half p) (Pass p) at refl h.sessions_held);
        files_out = h.files_out;
        sessions_out = h.sessions_out;
        slot_in = h.slot_in;
        pass_in = h.pass_in;
        halves_held = kept-less (session_taken j.kept) ka (set views id (Pass p)) other (Kept q) p.session None (session_taken j.kept) there (ap (λ (n : ℕ). Some n) same)
            (λ n seat e d. absurd (no_some seat d)) (λ n e. e) (kept-set (session_taken j.kept) ka views id (Half p) (Pass p) at refl h.halves_held);
        halves_out = out-less ka j.gate.sessions p.session h.halves_out;
        whole_in = λ r e. no_more ka p.session r.session (h.whole_in r e);
        kept_in = λ r e. put_else ka p.session None r.session (λ z. away (same_seat other gate (ka r.session) (ap ka z ∙ its) (h.kept_in r e))) ∙ h.kept_in r e;
        agrees = h.agrees;
        unmounted = h.unmounted;
      },
    )

-- a kept half is taken in by the gate, where none was
pub kept_enter : (id : ℕ) (j : Joined) (other : ℕ) (q : PassView) → j.kept ≡ None → (words : List ℕ) (views : List SeatView) → SeatRule words views → get_elem? views id ≡ some (Gate j)
    → (other ≡ id → ⊥) → get_elem? (set views id (Gate (record j { kept = Some q }))) other ≡ some (Kept q)
    → SeatRule words (set (set views id (Gate (record j { kept = Some q }))) other Spent)
kept_enter id j other q free words views kept at apart there =
    let o = at_gate words views id j kept at in
    let sa = o.0 in
    let pa = o.1 in
    let ka = o.2 in
    let h = o.3 in
    let k : Joined = record j { kept = Some q } in
    let kb = put ka q.session (Some id) in
    let was = h.fit other (Kept q) (elsewhere views id other (Gate k) (Kept q) apart there) in
    let whole : (n : ℕ) → ka n ≡ None → kb n ≡ None = λ n none. put_else ka q.session (Some id) n (λ z. none_or_some other (ka q.session) (ap ka (sym z) ∙ none) was.0) ∙ none in (
      k,
      id,
      sa,
      pa,
      kb,
      record {
        word = h.word;
        gate_stands = set_else (set views id (Gate k)) other id Spent (λ y. apart (sym y)) ∙ at_set_here views id (Gate j) (Gate k) at;
        fit = set_each (set views id (Gate k)) other Spent (Fits k id sa pa kb)
            (λ seat v off e. set_each views id (Gate k) (λ i u. (i ≢ other) → Fits k id sa pa kb i u)
            (λ i u near y. λ gone. halves_move j k id sa pa ka kb i u refl near
            (λ r out none. whole r.session none)
            (λ r out cut. still_cut ka q.session id r.session cut)
            (λ r out. put_else ka q.session (Some id) r.session (λ z. gone (same_seat i other (ka r.session) out (ap ka z ∙ was.0))) ∙ out)
            (h.fit i u y))
            (λ _. (refl, refl))
            seat v e off)
            tt;
        files_held = held-set slot_file (file_taken j.slot) sa j.gate.files (set views id (Gate k)) other (Kept q) Spent there refl (held-set slot_file (file_taken j.slot) sa j.gate.files views id (Gate j) (Gate k) at refl h.files_held);
        sessions_held = held-set pass_session (session_taken j.pass) pa j.gate.sessions (set views id (Gate k)) other (Kept q) Spent there refl (held-set pass_session (session_taken j.pass) pa j.gate.sessions views id (Gate j) (Gate k) at refl h.sessions_held);
        files_out = h.files_out;
        sessions_out = h.sessions_out;
        slot_in = h.slot_in;
        pass_in = h.pass_in;
        halves_held = kept-less None ka (set views id (Gate k)) other (Kept q) q.session (Some id) (Some q.session) there refl
            (λ n seat e d. ap (λ (m : ℕ). Some m) (sym e)) (λ n e. absurd (no_some n e))
            (subst (λ (x : Option PassView). AreKept (session_taken x) ka (set views id (Gate k))) free (kept-set (session_taken j.kept) ka views id (Gate j) (Gate k) at refl h.halves_held));
        halves_out = out-again ka j.gate.sessions q.session id (h.halves_out q.session other was.0) h.halves_out;
        whole_in = λ r e. whole r.session (h.whole_in r e);
        kept_in = λ r e. let same : q ≡ r = cc (e) in put_here ka q.session (Some id) r.session (ap (λ (x : PassView). x.session) (sym same));
        agrees = record {
          gate = h.agrees.gate;
          slot = h.agrees.slot;
          pass = h.agrees.pass;
          kept = λ r e. let same : q ≡ r = cc (e) in subst (λ (x : PassView). PassFits j.gate x × (is_in x.session j.gate.sessions ≡ true)) same (was.1, h.halves_out q.session other was.0);
        };
        unmounted = h.unmounted;
      },
    )

-- the kept half that was taken in leaves again
pub kept_leave : (id : ℕ) (j : Joined) (q : PassView) → j.kept ≡ Some q → (words : List ℕ) (views : List SeatView) → SeatRule words views → get_elem? views id ≡ some (Gate j)
    → SeatRule words (set views id (Gate (record j { kept = None })) ++ Kept q ∷ [])
kept_leave id j q is words views kept at =
    let o = at_gate words views id j kept at in
    let sa = o.0 in
    let pa = o.1 in
    let ka = o.2 in
    let h = o.3 in
    let k : Joined = record j { kept = None } in
    let its = h.kept_in q is in
    let kb = put ka q.session (Some (length views)) in
    let was = h.agrees.kept q is in
    let whole : (n : ℕ) → ka n ≡ None → kb n ≡ None = λ n none. put_else ka q.session (Some (length views)) n (λ z. none_or_some id (ka q.session) (ap ka (sym z) ∙ none) its) ∙ none in (
      k,
      id,
      sa,
      pa,
      kb,
      record {
        word = h.word;
        gate_stands = at_front (set views id (Gate k)) (Kept q) (Gate k) id (at_set_here views id (Gate j) (Gate k) at);
        fit = snoc_each (set views id (Gate k)) (Kept q) (Fits k id sa pa kb)
            (set_each views id (Gate k) (Fits k id sa pa kb)
            (λ seat v apart e. halves_move j k id sa pa ka kb seat v refl apart
            (λ r out none. whole r.session none)
            (λ r out cut. still_cut ka q.session (length views) r.session cut)
            (λ r out. put_else ka q.session (Some (length views)) r.session (λ z. apart (same_seat seat id (ka r.session) out (ap ka z ∙ its))) ∙ out)
            (h.fit seat v e))
            (refl, refl))
            (put_here ka q.session (Some (length views)) q.session refl ∙ ap (λ (n : ℕ). Some n) (sym (length-set views id (Gate k))), was.0);
        files_held = held-snoc slot_file (file_taken j.slot) sa j.gate.files (set views id (Gate k)) (Kept q) (held-set slot_file (file_taken j.slot) sa j.gate.files views id (Gate j) (Gate k) at refl h.files_held);
        sessions_held = held-snoc pass_session (session_taken j.pass) pa j.gate.sessions (set views id (Gate k)) (Kept q) (held-set pass_session (session_taken j.pass) pa j.gate.sessions views id (Gate j) (Gate k) at refl h.sessions_held);
        files_out = h.files_out;
        sessions_out = h.sessions_out;
        slot_in = h.slot_in;
        pass_in = h.pass_in;
        halves_held = subst (λ (n : ℕ). AreKept None (put ka q.session (Some n)) (set views id (Gate k) ++ Kept q ∷ [])) (length-set views id (Gate k))
            (kept-more (Some q.session) None ka (set views id (Gate k)) (Kept q) q.session refl (λ n far e. let same : q.session ≡ n = cc (e) in absurd (far (sym same)))
            (subst (λ (x : Option PassView). AreKept (session_taken x) ka (set views id (Gate k))) is (kept-set (session_taken j.kept) ka views id (Gate j) (Gate k) at refl h.halves_held)));
        halves_out = out-again ka j.gate.sessions q.session (length views) was.1 h.halves_out;
        whole_in = λ r e. whole r.session (h.whole_in r e);
        kept_in = λ r e. absurd (no_some r e);
        agrees = record { gate = h.agrees.gate; slot = h.agrees.slot; pass = h.agrees.pass; kept = λ r e. absurd (no_some r e) };
        unmounted = h.unmounted;
      },
    )
