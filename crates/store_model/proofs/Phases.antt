-- Sessions begun anew, one after another.
use Rattle.std.proofs.Common.{◌≡◌, ◌<◌, ◌+◌, ℕ, List, [], ◌∷◌, ◌++◌, map, length, take, drop, slice_index_or, slice_set, ap, ◌∙◌, refl, arith, suc, zero}
use Rattle.store_model.specs.Machine.{Session, new_session}

abbrev pub anew : Session → Session
anew session = new_session session.application

-- the first i sessions were begun anew
abbrev pub anew_below : ℕ → List Session → List Session
anew_below i sessions = map anew (take i sessions) ++ drop i sessions

set-anew_below : (i : ℕ) (sessions : List Session) (d : Session) → i < length sessions → slice_set (anew_below i sessions) i (anew (slice_index_or (anew_below i sessions) i d)) ≡ anew_below (suc i) sessions
set-anew_below i [] d h = absurd (omega arith)
set-anew_below zero (x ∷ sessions) d h = refl
set-anew_below (suc i) (x ∷ sessions) d h = ap (λ l. anew x ∷ l) (set-anew_below i sessions d (omega arith))

pub slice_set-anew_below : (i : ℕ) (sessions : List Session) (d : Session) → i < length sessions → slice_set (anew_below i sessions) i (anew (slice_index_or (anew_below i sessions) i d)) ≡ anew_below (i + 1) sessions
slice_set-anew_below i sessions d h =
    let more : suc i ≡ i + 1 = omega arith in
    set-anew_below i sessions d h ∙ ap (λ n. anew_below n sessions) more

pub anew_below-all : (sessions : List Session) → anew_below (length sessions) sessions ≡ map anew sessions
anew_below-all [] = refl
anew_below-all (x ∷ sessions) = ap (λ l. anew x ∷ l) (anew_below-all sessions)

pub map-anew : (sessions : List Session) → map anew sessions ≡ map new_session (map (λ session. session.application) sessions)
map-anew [] = refl
map-anew (x ∷ sessions) = ap (λ l. anew x ∷ l) (map-anew sessions)
