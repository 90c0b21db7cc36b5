-- Lists of the numbers that are out.
use Rattle.std.proofs.Common.{◌≡◌, ◌≢◌, ℕ, ◌==◌, List, [], ◌∷◌, Bool, true, false, true≢false, cond, not, refl, sym, ap, ◌∙◌, subst, ⊎_elim, ne_eqb}
use Rattle.std.proofs.lemmas.Bool.Decides.{eqb_tells}
use Rattle.history_seats.specs.Numbers.{is_in, are_distinct, without}
use Rattle.history_seats.proofs.Lists.{either_bool, and_parts, both_true, or_right, or_second, or_kept, was_false}

-- another number stays
pub is_in-without : (n k : ℕ) (ms : List ℕ) → is_in n ms ≡ true → n ≢ k → is_in n (without k ms) ≡ true
is_in-without n k [] h d = h
is_in-without n k (m ∷ ms) h d =
    ⊎_elim
    (λ (y : ((m == k) ≡ true) × (m ≡ k)). rw y.0 (or_second (m == n) (is_in n ms) h (ne_eqb m n (λ q. d (sym q ∙ y.1)))))
    (λ (y : ((m == k) ≡ false) × (m ≢ k)). rw y.0 (or_kept (m == n) (is_in n ms) (is_in n (without k ms)) h (λ q. is_in-without n k ms q d)))
    (eqb_tells m k)

-- none comes
pub stays_in : (n k : ℕ) (ms : List ℕ) → is_in n (without k ms) ≡ true → is_in n ms ≡ true
stays_in n k [] h = h
stays_in n k (m ∷ ms) h =
    ⊎_elim
    (λ (y : ((m == k) ≡ true) × (m ≡ k)). or_right (m == n) (is_in n ms) (subst (λ (b : Bool). is_in n (cond b ms (m ∷ without k ms)) ≡ true) y.0 h))
    (λ (y : ((m == k) ≡ false) × (m ≢ k)). or_kept (m == n) (is_in n (without k ms)) (is_in n ms) (subst (λ (b : Bool). is_in n (cond b ms (m ∷ without k ms)) ≡ true) y.0 h) (λ q. stays_in n k ms q))
    (eqb_tells m k)

stays_out : (n k : ℕ) (ms : List ℕ) → is_in n ms ≡ false → is_in n (without k ms) ≡ false
stays_out n k ms h = ⊎_elim (λ y. absurd (true≢false (sym (stays_in n k ms y) ∙ h))) (λ y. y) (either_bool (is_in n (without k ms)))

pub distinct-without : (k : ℕ) (ms : List ℕ) → are_distinct ms ≡ true → are_distinct (without k ms) ≡ true
distinct-without k [] h = h
distinct-without k (m ∷ ms) h =
    let p = and_parts (not (is_in m ms)) (are_distinct ms) h in
    ⊎_elim
    (λ (y : ((m == k) ≡ true) × (m ≡ k)). rw y.0 p.1)
    (λ (y : ((m == k) ≡ false) × (m ≢ k)). rw y.0 (both_true (not (is_in m (without k ms))) (are_distinct (without k ms)) (ap not (stays_out m k ms (was_false (is_in m ms) p.0))) (distinct-without k ms p.1)))
    (eqb_tells m k)

-- a number that was taken out is gone
pub gone : (k : ℕ) (ms : List ℕ) → are_distinct ms ≡ true → is_in k (without k ms) ≡ false
gone k [] h = refl
gone k (m ∷ ms) h =
    let p = and_parts (not (is_in m ms)) (are_distinct ms) h in
    ⊎_elim
    (λ (y : ((m == k) ≡ true) × (m ≡ k)). rw y.0 (subst (λ (n : ℕ). is_in n ms ≡ false) y.1 (was_false (is_in m ms) p.0)))
    (λ (y : ((m == k) ≡ false) × (m ≢ k)). rw y.0 (rw y.0 (gone k ms p.1)))
    (eqb_tells m k)

pub distinct-more : (k : ℕ) (ms : List ℕ) → is_in k ms ≡ false → are_distinct ms ≡ true → are_distinct (k ∷ ms) ≡ true
distinct-more k ms new h = both_true (not (is_in k ms)) (are_distinct ms) (ap not new) h
