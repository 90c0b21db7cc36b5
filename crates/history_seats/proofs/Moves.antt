-- The steps as the table asks for them, at a view that is known.
use Rattle.std.proofs.Common.{◌≡◌, ℕ, List, [], ◌∷◌, length, Some, None, false, refl, sym, ap, ◌∙◌, subst}
use Rattle.std.specs.Prelude.{slice_index}
use mathlib.Core.Option.{some, some-injective}
use lib.ListN.{get_elem?}
use Rattle.atomic_table.specs.Table.{State, Splits, Joins, Allows, keeps, Final, Seen}
use Rattle.history_seats.specs.Mounts.{Mounted}
use Rattle.history_seats.specs.Views.{SlotView, PassView, Joined, SeatView}
use Rattle.history_seats.specs.Views.SeatView.{Gate, Slot, Pass, Half, Kept, Spent}
use Rattle.history_seats.specs.Numbers.{is_in}
use Rattle.history_seats.specs.Rule.{SeatRule}
use Rattle.history_seats.specs.Changes.{with_slot_out, new_slot, with_pass_out, new_pass}
use Rattle.history_seats.specs.Steps.{on_gate, slot_from, pass_from, slot_taken_in, pass_taken_in, kept_taken_in, half_cut, half_kept, made_whole, slot_let_out, slot_inside, pass_let_out, pass_inside, kept_let_out, kept_inside, Moved}
use Rattle.history_seats.proofs.Keeping.{at_gate}
use Rattle.history_seats.proofs.WordSteps.{Keeps}
use Rattle.history_seats.proofs.SeatSteps.{slot_split, pass_split, slot_leave, pass_leave, slot_enter, pass_enter, pass_cut, pass_whole, kept_enter, kept_leave}

abbrev pub InRule : State (Unit {0}) SeatView → Type 0
InRule s = SeatRule s.words s.views

pub splits_slot : (mounted : Mounted) (file generation id : ℕ) (v : SeatView) (j : Joined) → v ≡ Gate j → is_in file j.gate.files ≡ false → Splits InRule id v (on_gate (with_slot_out mounted file) v) (slot_from (new_slot mounted file generation) v)
splits_slot mounted file generation id v j is new =
    subst (λ (x : SeatView). Splits InRule id x (on_gate (with_slot_out mounted file) x) (slot_from (new_slot mounted file generation) x)) (sym is)
    (λ s h at. slot_split mounted file generation id j new s.words s.views h at)

pub splits_pass : (mounted : Mounted) (session id : ℕ) (v : SeatView) (j : Joined) → v ≡ Gate j → is_in session j.gate.sessions ≡ false → Splits InRule id v (on_gate (with_pass_out mounted session) v) (pass_from (new_pass mounted session) v)
splits_pass mounted session id v j is new =
    subst (λ (x : SeatView). Splits InRule id x (on_gate (with_pass_out mounted session) x) (pass_from (new_pass mounted session) x)) (sym is)
    (λ s h at. pass_split mounted session id j new s.words s.views h at)

pub takes_slot : (id other : ℕ) (v w : SeatView) (j : Joined) (s : SlotView) → v ≡ Gate j → w ≡ Slot s → j.slot ≡ None → Joins InRule id v other w (slot_taken_in v w) Spent
takes_slot id other v w j s is slot free =
    subst (λ (x : SeatView × SeatView). Joins InRule id x.0 other x.1 (slot_taken_in x.0 x.1) Spent) (λ i. (sym is i, sym slot i))
    (λ t h at apart there. slot_enter id j other s free t.words t.views h at apart there)

pub takes_pass : (id other : ℕ) (v w : SeatView) (j : Joined) (p : PassView) → v ≡ Gate j → w ≡ Pass p → j.pass ≡ None → Joins InRule id v other w (pass_taken_in v w) Spent
takes_pass id other v w j p is pass free =
    subst (λ (x : SeatView × SeatView). Joins InRule id x.0 other x.1 (pass_taken_in x.0 x.1) Spent) (λ i. (sym is i, sym pass i))
    (λ t h at apart there. pass_enter id j other p free t.words t.views h at apart there)

pub lets_slot_out : (id : ℕ) (v : SeatView) (j : Joined) (s : SlotView) → v ≡ Gate j → j.slot ≡ Some s → Splits InRule id v (slot_let_out v) (slot_inside v)
lets_slot_out id v j s is slot =
    let one : slot_inside (Gate j) ≡ Slot s = rw slot refl in
    subst (λ (x : SeatView). Splits InRule id x (slot_let_out x) (slot_inside x)) (sym is)
    (subst (λ (w : SeatView). Splits InRule id (Gate j) (slot_let_out (Gate j)) w) (sym one) (λ t h at. slot_leave id j s slot t.words t.views h at))

pub lets_pass_out : (id : ℕ) (v : SeatView) (j : Joined) (p : PassView) → v ≡ Gate j → j.pass ≡ Some p → Splits InRule id v (pass_let_out v) (pass_inside v)
lets_pass_out id v j p is pass =
    let one : pass_inside (Gate j) ≡ Pass p = rw pass refl in
    subst (λ (x : SeatView). Splits InRule id x (pass_let_out x) (pass_inside x)) (sym is)
    (subst (λ (w : SeatView). Splits InRule id (Gate j) (pass_let_out (Gate j)) w) (sym one) (λ t h at. pass_leave id j p pass t.words t.views h at))

pub cuts_pass : (id : ℕ) (v : SeatView) (p : PassView) → v ≡ Pass p → Splits InRule id v (half_cut v) (half_kept v)
cuts_pass id v p is =
    subst (λ (x : SeatView). Splits InRule id x (half_cut x) (half_kept x)) (sym is)
    (λ s h at. pass_cut id p s.words s.views h at)

pub makes_whole : (id other : ℕ) (v w : SeatView) (p q : PassView) → v ≡ Half p → w ≡ Kept q → q.session ≡ p.session → Joins InRule id v other w (made_whole v w) Spent
makes_whole id other v w p q one two same =
    subst (λ (x : SeatView × SeatView). Joins InRule id x.0 other x.1 (made_whole x.0 x.1) Spent) (λ i. (sym one i, sym two i))
    (λ t h at apart there. pass_whole id p other q same t.words t.views h at apart there)

pub takes_kept : (id other : ℕ) (v w : SeatView) (j : Joined) (q : PassView) → v ≡ Gate j → w ≡ Kept q → j.kept ≡ None → Joins InRule id v other w (kept_taken_in v w) Spent
takes_kept id other v w j q is kept free =
    subst (λ (x : SeatView × SeatView). Joins InRule id x.0 other x.1 (kept_taken_in x.0 x.1) Spent) (λ i. (sym is i, sym kept i))
    (λ t h at apart there. kept_enter id j other q free t.words t.views h at apart there)

pub lets_kept_out : (id : ℕ) (v : SeatView) (j : Joined) (q : PassView) → v ≡ Gate j → j.kept ≡ Some q → Splits InRule id v (kept_let_out v) (kept_inside v)
lets_kept_out id v j q is kept =
    let one : kept_inside (Gate j) ≡ Kept q = rw kept refl in
    subst (λ (x : SeatView). Splits InRule id x (kept_let_out x) (kept_inside x)) (sym is)
    (subst (λ (w : SeatView). Splits InRule id (Gate j) (kept_let_out (Gate j)) w) (sym one) (λ t h at. kept_leave id j q kept t.words t.views h at))

-- a step of the gate's seat on the word, once it is shown to keep the rule
pub moves : (change : Joined → Joined) (n : ℕ → ℕ) (slots id : ℕ) (me : SeatView × List (ℕ × Unit {0})) (j : Joined) → me.0 ≡ Gate j → Keeps change n id j
    → Allows InRule slots id me 0 n (λ k w. Moved change me.0 k w.0 × (w.1 ≡ me.1))
moves change n slots id me j is step s kept homes at word =
    let did = step s.words s.views kept (at ∙ ap some is) in (
      Gate (change j),
      keeps,
      tt,
      did.0,
      (subst (λ (x : SeatView). Moved change x (slice_index s.words 0) (Gate (change j))) (sym is) (did.1, refl, did.2), refl),
    )

-- the word at the end is the length of the history
pub closes : (id : ℕ) (v : SeatView) (j : Joined) (words : List ℕ) (slots : List (Unit {0})) (n : ℕ) → v ≡ Gate j → Final (Seen InRule id v) words slots → get_elem? words 0 ≡ some n → n ≡ length j.gate.all
closes id v j words slots n is final found =
    let s = final.0 in
    let o = at_gate s.words s.views id j final.1.0 (final.1.1 ∙ ap some is) in
    let same : length j.gate.all ∷ [] ≡ words = sym o.3.word ∙ final.2 in
    some-injective n (length j.gate.all) (sym found ∙ ap (λ (ws : List ℕ). get_elem? ws 0) (sym same))
