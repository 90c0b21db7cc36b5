-- The seats of the numbers that are out.
use Rattle.std.proofs.Common.{◌≡◌, ◌≢◌, ◌⊎◌, ℕ, ◌==◌, List, [], ◌∷◌, ◌++◌, length, set, true, false, true≢false, Option, Some, None, sym, ap, ◌∙◌, inl, inr, ⊎_elim}
use Rattle.std.proofs.lemmas.Bool.Decides.{eqb_tells}
use mathlib.Core.Option.{some, some-injective}
use lib.ListN.{get_elem?}
use Rattle.atomic_table.proofs.Lists.{set_else}
use Rattle.history_seats.specs.Views.{SeatView}
use Rattle.history_seats.specs.Views.SeatView.{Spent}
use Rattle.history_seats.specs.Numbers.{is_in, are_distinct, without}
use Rattle.history_seats.specs.Rule.{HasSeat, AreHeld, AreKept, kept_session}
use Rattle.history_seats.proofs.Lists.{at_front, at_last, at_set_here, no_some, none_or_some, or_second, put, put_here, put_else}
use Rattle.history_seats.proofs.Numbers.{stays_in, gone}
use Rattle.history_seats.proofs.Outs.{not_the_same}

module _ (number_of : SeatView → Option ℕ) where
  -- a view that is of no number is set
  pub held-set : (taken : Option ℕ) (at : ℕ → Option ℕ) (numbers : List ℕ) (views : List SeatView) (id : ℕ) (v w : SeatView) → get_elem? views id ≡ some v → number_of v ≡ None
      → AreHeld number_of taken at numbers views → AreHeld number_of taken at numbers (set views id w)
  held-set taken at numbers views id v w stands none held = λ n out. ⊎_elim (λ y. inl y) (λ (y : HasSeat number_of at views n). inr (one n y)) (held n out)
    where
      one : (n : ℕ) → HasSeat number_of at views n → HasSeat number_of at (set views id w) n
      one n y =
          let apart : y.seat ≡ id → ⊥ = λ q.
          let same : v ≡ y.view = some-injective v y.view (sym stands ∙ ap (get_elem? views) (sym q) ∙ y.stands) in
          none_or_some n (number_of v) none (ap number_of same ∙ y.own) in
          record { seat = y.seat; view = y.view; at = y.at; stands = set_else views id y.seat w apart ∙ y.stands; own = y.own }

  has_behind : (at : ℕ → Option ℕ) (views : List SeatView) (w : SeatView) (k n : ℕ) → n ≢ k → HasSeat number_of at views n → HasSeat number_of (put at k (Some (length views))) (views ++ w ∷ []) n
  has_behind at views w k n apart y = record {
    seat = y.seat;
    view = y.view;
    at = put_else at k (Some (length views)) n apart ∙ y.at;
    stands = at_front views w y.view y.seat y.stands;
    own = y.own;
  }

  has_last : (at : ℕ → Option ℕ) (views : List SeatView) (w : SeatView) (k n : ℕ) → n ≡ k → number_of w ≡ Some k → HasSeat number_of (put at k (Some (length views))) (views ++ w ∷ []) n
  has_last at views w k n same own = record {
    seat = length views;
    view = w;
    at = put_here at k (Some (length views)) n same;
    stands = at_last views w;
    own = own ∙ ap (λ (m : ℕ). Some m) (sym same);
  }

  -- a seat of another kind comes
  pub held-snoc : (taken : Option ℕ) (at : ℕ → Option ℕ) (numbers : List ℕ) (views : List SeatView) (w : SeatView) → AreHeld number_of taken at numbers views → AreHeld number_of taken at numbers (views ++ w ∷ [])
  held-snoc taken at numbers views w held = λ n out. ⊎_elim (λ y. inl y)
      (λ (y : HasSeat number_of at views n). inr (record { seat = y.seat; view = y.view; at = y.at; stands = at_front views w y.view y.seat y.stands; own = y.own }))
      (held n out)

  -- the seat of one more number comes
  pub held-more : (taken : Option ℕ) (at : ℕ → Option ℕ) (numbers : List ℕ) (views : List SeatView) (w : SeatView) (k : ℕ) → number_of w ≡ Some k → AreHeld number_of taken at numbers views
      → AreHeld number_of taken (put at k (Some (length views))) (k ∷ numbers) (views ++ w ∷ [])
  held-more taken at numbers views w k own held = λ n out.
      ⊎_elim
      (λ (y : ((k == n) ≡ true) × (k ≡ n)). inr (has_last at views w k n (sym y.1) own))
      (λ (y : ((k == n) ≡ false) × (k ≢ n)).
      ⊎_elim (λ t. inl t) (λ (z : HasSeat number_of at views n). inr (has_behind at views w k n (λ q. y.1 (sym q)) z)) (held n (or_second (k == n) (is_in n numbers) out y.0)))
      (eqb_tells k n)

  -- the seat that was taken in leaves
  pub held-leave : (at : ℕ → Option ℕ) (numbers : List ℕ) (views : List SeatView) (w : SeatView) (k : ℕ) → number_of w ≡ Some k → at k ≡ None → AreHeld number_of (Some k) at numbers views
      → AreHeld number_of None (put at k (Some (length views))) numbers (views ++ w ∷ [])
  held-leave at numbers views w k own free held = λ n out.
      ⊎_elim
      (λ (y : Some k ≡ Some n). let same : k ≡ n = cc in inr (has_last at views w k n (sym same) own))
      (λ (z : HasSeat number_of at views n). inr (has_behind at views w k n (not_the_same at k n z.seat free z.at) z))
      (held n out)

  -- a seat is taken in, where none was
  pub held-enter : (at : ℕ → Option ℕ) (numbers : List ℕ) (views : List SeatView) (other : ℕ) (w : SeatView) (k : ℕ) → get_elem? views other ≡ some w → number_of w ≡ Some k → AreHeld number_of None at numbers views
      → AreHeld number_of (Some k) (put at k None) numbers (set views other Spent)
  held-enter at numbers views other w k stands own held = λ n out.
      ⊎_elim
      (λ (y : None ≡ Some n). absurd (no_some n y))
      (λ (z : HasSeat number_of at views n). one n z (eqb_tells n k))
      (held n out)
    where
      one : (n : ℕ) → HasSeat number_of at views n → (((n == k) ≡ true) × (n ≡ k)) ⊎ (((n == k) ≡ false) × (n ≢ k)) → (Some k ≡ Some n) ⊎ HasSeat number_of (put at k None) (set views other Spent) n
      one n z (inl y) = inl (ap (λ (m : ℕ). Some m) (sym y.1))
      one n z (inr y) =
          let apart : z.seat ≡ other → ⊥ = λ q.
          let same : w ≡ z.view = some-injective w z.view (sym stands ∙ ap (get_elem? views) (sym q) ∙ z.stands) in
          let both : Some k ≡ Some n = sym own ∙ ap number_of same ∙ z.own in
          let equal : k ≡ n = cc in
          y.1 (sym equal) in
          inr (record { seat = z.seat; view = z.view; at = put_else at k None n y.1 ∙ z.at; stands = set_else views other z.seat Spent apart ∙ z.stands; own = z.own })

  -- the number that was taken in is out no more
  pub held-without : (at : ℕ → Option ℕ) (numbers : List ℕ) (views : List SeatView) (k : ℕ) → are_distinct numbers ≡ true → AreHeld number_of (Some k) at numbers views → AreHeld number_of None at (without k numbers) views
  held-without at numbers views k distinct held = λ n out.
      ⊎_elim
      (λ (y : Some k ≡ Some n).
      let same : k ≡ n = cc in
      absurd (true≢false (sym (ap (λ (m : ℕ). is_in m (without k numbers)) same ∙ out) ∙ gone k numbers distinct)))
      (λ z. inr z)
      (held n (stays_in n k numbers out))

  -- a view gives way to another of its number
  pub held-same : (taken : Option ℕ) (at : ℕ → Option ℕ) (numbers : List ℕ) (views : List SeatView) (id : ℕ) (v w : SeatView) → get_elem? views id ≡ some v → number_of w ≡ number_of v
      → AreHeld number_of taken at numbers views → AreHeld number_of taken at numbers (set views id w)
  held-same taken at numbers views id v w stands same held = λ n out. ⊎_elim (λ y. inl y) (λ (y : HasSeat number_of at views n). inr (one n y (eqb_tells y.seat id))) (held n out)
    where
      one : (n : ℕ) (y : HasSeat number_of at views n) → (((y.seat == id) ≡ true) × (y.seat ≡ id)) ⊎ (((y.seat == id) ≡ false) × (y.seat ≢ id)) → HasSeat number_of at (set views id w) n
      one n y (inl q) =
          let old : v ≡ y.view = some-injective v y.view (sym stands ∙ ap (get_elem? views) (sym q.1) ∙ y.stands) in
          record { seat = id; view = w; at = y.at ∙ ap (λ (m : ℕ). Some m) q.1; stands = at_set_here views id v w stands; own = same ∙ ap number_of old ∙ y.own }
      one n y (inr q) = record { seat = y.seat; view = y.view; at = y.at; stands = set_else views id y.seat w q.1 ∙ y.stands; own = y.own }

-- the seat of a kept half stays where another view is set, and where a seat comes
has-set : (at : ℕ → Option ℕ) (views : List SeatView) (id : ℕ) (v w : SeatView) (n : ℕ) → get_elem? views id ≡ some v → kept_session v ≡ None → HasSeat kept_session at views n → HasSeat kept_session at (set views id w) n
has-set at views id v w n stands none y =
    let apart : y.seat ≡ id → ⊥ = λ q.
    let same : v ≡ y.view = some-injective v y.view (sym stands ∙ ap (get_elem? views) (sym q) ∙ y.stands) in
    none_or_some n (kept_session v) none (ap kept_session same ∙ y.own) in
    record { seat = y.seat; view = y.view; at = y.at; stands = set_else views id y.seat w apart ∙ y.stands; own = y.own }

has-front : (at : ℕ → Option ℕ) (views : List SeatView) (w : SeatView) (n : ℕ) → HasSeat kept_session at views n → HasSeat kept_session at (views ++ w ∷ []) n
has-front at views w n y = record { seat = y.seat; view = y.view; at = y.at; stands = at_front views w y.view y.seat y.stands; own = y.own }

has-put : (at : ℕ → Option ℕ) (views : List SeatView) (k : ℕ) (x : Option ℕ) (n : ℕ) → n ≢ k → HasSeat kept_session at views n → HasSeat kept_session (put at k x) views n
has-put at views k x n apart y = record { seat = y.seat; view = y.view; at = put_else at k x n apart ∙ y.at; stands = y.stands; own = y.own }

pub kept-set : (taken : Option ℕ) (at : ℕ → Option ℕ) (views : List SeatView) (id : ℕ) (v w : SeatView) → get_elem? views id ≡ some v → kept_session v ≡ None → AreKept taken at views → AreKept taken at (set views id w)
kept-set taken at views id v w stands none held = λ n seat e. ⊎_elim (λ y. inl y) (λ (y : HasSeat kept_session at views n). inr (has-set at views id v w n stands none y)) (held n seat e)

pub kept-snoc : (taken : Option ℕ) (at : ℕ → Option ℕ) (views : List SeatView) (w : SeatView) → AreKept taken at views → AreKept taken at (views ++ w ∷ [])
kept-snoc taken at views w held = λ n seat e. ⊎_elim (λ y. inl y) (λ (y : HasSeat kept_session at views n). inr (has-front at views w n y)) (held n seat e)

-- the kept half of a session comes, or leaves the gate
pub kept-more : (taken left : Option ℕ) (at : ℕ → Option ℕ) (views : List SeatView) (w : SeatView) (k : ℕ) → kept_session w ≡ Some k → ((n : ℕ) → n ≢ k → taken ≡ Some n → left ≡ Some n) → AreKept taken at views
    → AreKept left (put at k (Some (length views))) (views ++ w ∷ [])
kept-more taken left at views w k own stays held = λ n seat e. one n seat e (eqb_tells n k)
  where
    one : (n seat : ℕ) → put at k (Some (length views)) n ≡ Some seat → (((n == k) ≡ true) × (n ≡ k)) ⊎ (((n == k) ≡ false) × (n ≢ k))
        → (left ≡ Some n) ⊎ HasSeat kept_session (put at k (Some (length views))) (views ++ w ∷ []) n
    one n seat e (inl q) = inr (record {
      seat = length views;
      view = w;
      at = put_here at k (Some (length views)) n q.1;
      stands = at_last views w;
      own = own ∙ ap (λ (m : ℕ). Some m) (sym q.1);
    })
    one n seat e (inr q) =
        ⊎_elim
        (λ (y : taken ≡ Some n). inl (stays n q.1 y))
        (λ (y : HasSeat kept_session at views n). inr (has-put at (views ++ w ∷ []) k (Some (length views)) n q.1 (has-front at views w n y)))
        (held n seat (sym (put_else at k (Some (length views)) n q.1) ∙ e))

-- the kept half of a session is taken in by the gate, or made whole with the other
pub kept-less : (taken : Option ℕ) (at : ℕ → Option ℕ) (views : List SeatView) (other : ℕ) (w : SeatView) (k : ℕ) (x left : Option ℕ) → get_elem? views other ≡ some w → kept_session w ≡ Some k
    → ((n seat : ℕ) → n ≡ k → x ≡ Some seat → left ≡ Some n) → ((n : ℕ) → taken ≡ Some n → left ≡ Some n) → AreKept taken at views → AreKept left (put at k x) (set views other Spent)
kept-less taken at views other w k x left stands own mine stays held = λ n seat e. one n seat e (eqb_tells n k)
  where
    one : (n seat : ℕ) → put at k x n ≡ Some seat → (((n == k) ≡ true) × (n ≡ k)) ⊎ (((n == k) ≡ false) × (n ≢ k)) → (left ≡ Some n) ⊎ HasSeat kept_session (put at k x) (set views other Spent) n
    one n seat e (inl q) = inl (mine n seat q.1 (sym (put_here at k x n q.1) ∙ e))
    one n seat e (inr q) = ⊎_elim (λ (y : taken ≡ Some n). inl (stays n y)) (λ (z : HasSeat kept_session at views n). inr (still n q.1 z)) (held n seat (sym (put_else at k x n q.1) ∙ e))
      where
        still : (n : ℕ) → n ≢ k → HasSeat kept_session at views n → HasSeat kept_session (put at k x) (set views other Spent) n
        still n far z =
            let apart : z.seat ≡ other → ⊥ = λ q.
            let same : w ≡ z.view = some-injective w z.view (sym stands ∙ ap (get_elem? views) (sym q) ∙ z.stands) in
            let both : Some k ≡ Some n = sym own ∙ ap kept_session same ∙ z.own in
            let equal : k ≡ n = cc in
            far (sym equal) in
            record { seat = z.seat; view = z.view; at = put_else at k x n far ∙ z.at; stands = set_else views other z.seat Spent apart ∙ z.stands; own = z.own }
