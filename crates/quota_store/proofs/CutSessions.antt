-- The sessions of a store, as the last is taken and then the others.
use Rattle.std.proofs.Common.{◌≡◌, ◌<◌, ◌∙◌, ℕ, List, [], ◌∷◌, ◌++◌, length, map, get_or, Option, Some, None, refl, sym, ap, subst, arith}
use Rattle.std.specs.Prelude.{All, slice_index_or}
use Rattle.std.proofs.lemmas.List.{get_or-map, get_or_append_left, get_or_push, length-map, length_push}
use Rattle.history_seats.specs.Views.{PassView, Sight}
use Rattle.shared_store.specs.CallerSessions.{CallerSession, IsCallerOf}
use Rattle.shared_store.specs.Stores.{Store}
use Rattle.quota_store.specs.Callers.{QuotaCaller}
use Rattle.quota_store.specs.Sharing.{AreCallers, AreOfApps, AreSeated, callers_of, limited_by}
use Rattle.quota_store.specs.Halves.{app_at}
use Rattle.app_quota.specs.declared.quotas.Quota.{Quota}

-- THE SESSIONS
-- each is the store's, and has the number of its place
pub record HaveSeats {E : Type 0} (store : Store) (sessions : List (CallerSession E)) : Type 0 where
  pub each : All (λ (s : CallerSession E). IsCallerOf store s) sessions
  pub numbered : (i : ℕ) (d : CallerSession E) → i < length sessions → (slice_index_or sessions i d).number ≡ i

-- so do the others, and the last has the number of theirs
pub record AreSeatsOf {E : Type 0} (store : Store) (rest : List (CallerSession E)) (last : CallerSession E) : Type 0 where
  pub seats : HaveSeats store rest
  pub caller : IsCallerOf store last
  pub number : last.number ≡ length rest

module _ {E : Type 0} (store : Store) where
  pub seats_last : (all rest : List (CallerSession E)) (last : CallerSession E) → HaveSeats store all → all ≡ rest ++ last ∷ [] → AreSeatsOf store rest last
  seats_last all rest last h is =
      let seats : HaveSeats store (rest ++ last ∷ []) = subst (HaveSeats store) is h in
      let here : get_or (rest ++ last ∷ []) (length rest) last ≡ last = get_or_push rest last last (length rest) refl in
      let within : length rest < length (rest ++ last ∷ []) = omega (arith, length_push rest last) in
      record {
        seats = record {
          each = λ i d lt. subst (IsCallerOf store) (get_or_append_left rest (last ∷ []) d i lt) (seats.each i d (omega (arith, length_push rest last, lt)));
          numbered = λ i d lt.
              ap (λ (s : CallerSession E). s.number) (sym (get_or_append_left rest (last ∷ []) d i lt)) ∙ seats.numbered i d (omega (arith, length_push rest last, lt));
        };
        caller = subst (IsCallerOf store) here (seats.each (length rest) last within);
        number = ap (λ (s : CallerSession E). s.number) (sym here) ∙ seats.numbered (length rest) last within;
      }

  -- the last of sessions under quotas, and the others
  pub callers_last : (all rest : List (QuotaCaller E)) (last : QuotaCaller E) → AreCallers store all → all ≡ rest ++ last ∷ [] → AreCallers store rest × IsCallerOf store last.caller
  callers_last all rest last h is =
      let callers : AreCallers store (rest ++ last ∷ []) = subst (AreCallers store) is h in (
        λ i d lt. subst (λ (q : QuotaCaller E). IsCallerOf store q.caller) (get_or_append_left rest (last ∷ []) d i lt) (callers i d (omega (arith, length_push rest last, lt))),
        subst (λ (q : QuotaCaller E). IsCallerOf store q.caller) (get_or_push rest last last (length rest) refl) (callers (length rest) last (omega (arith, length_push rest last))),
      )

-- A SESSION'S HALF
module _ {E : Type 0} (s : CallerSession E) (half : Sight PassView) where
  -- once its seat is given back it is as it was
  pub given_back : s.pass ≡ Some half → record s { pass = Some half } ≡ s
  given_back is = ap (λ (o : Option (Sight PassView)). record s { pass = o }) (sym is)

  -- so it is where the seat was lent
  pub lent_back : (lent : CallerSession E) → s.pass ≡ Some half → lent ≡ record s { pass = None } → record lent { pass = Some half } ≡ s
  lent_back lent is without = ap (λ (x : CallerSession E). record x { pass = Some half }) without ∙ given_back is

-- UNDER QUOTAS
module _ {E : Type 0} (quotas : List Quota) where
  pub callers_limited : (sessions : List (CallerSession E)) → callers_of (map (limited_by quotas) sessions) ≡ sessions
  callers_limited [] = refl
  callers_limited (s ∷ sessions) = ap (λ (l : List (CallerSession E)). s ∷ l) (callers_limited sessions)

  -- each is of the application of its place
  pub limited_apps : (store : Store) (sessions : List (CallerSession E)) → AreSeated store sessions → AreOfApps store (map (limited_by quotas) sessions)
  limited_apps store sessions seated i d lt =
      let within : i < length sessions = omega (arith, length-map sessions (limited_by quotas), lt) in
      ap (λ (q : QuotaCaller E). q.caller.state.application) (get_or-map (limited_by quotas) sessions i d.caller d within)
      ∙ (seated.each i d.caller within).session.application
      ∙ ap (app_at store) (seated.numbered i d.caller within)
