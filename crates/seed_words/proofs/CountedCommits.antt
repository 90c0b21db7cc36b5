-- The commits of some events, and of one more.
use Rattle.std.proofs.Common.{◌≡◌, ◌+◌, ◌<◌, ◌≤◌, ◌^◌, ℕ, Bool, true, false, ◌&&◌, List, [], ◌∷◌, ◌++◌, length, take, Option, Some, None, refl, sym, ap, ◌∙◌, arith}
use Rattle.std.specs.Prelude.{slice_get}
use Rattle.std.specs.Option.{is_some}
use Rattle.std.proofs.lemmas.List.{length-append, length-take-le, take_all, take_more}
use Rattle.std.proofs.lemmas.Option.{get_or_from_slice_get}
use Rattle.store_model.specs.declared.event.Event.{Event}
use Rattle.store_model.specs.declared.event.Event.TheVariants.{Call as CallEvent, Landed}
use Rattle.store_model.specs.declared.event.Mark.TheVariants.{Unchanged, Made, Doubtful}
use Rattle.store_model.specs.Commits.{commits_from, commits_of, doubted_after}
use Rattle.store_model.specs.ReplayState.{keeps_doubt}
use Rattle.seed_words.specs.declared.soak_commits.Commits.{Commits}
use Rattle.seed_words.specs.CountedCommits.{count_of, doubted_behind, with_event}

commits_from-append : (doubted : Option Event) (a b : List Event) → commits_from doubted (a ++ b) ≡ commits_from doubted a ++ commits_from (doubted_behind doubted a) b
commits_from-append doubted [] b = refl
commits_from-append doubted (CallEvent s n c r (Made k) ∷ a) b = ap (λ l. CallEvent s n c r (Made k) ∷ l) (commits_from-append None a b)
commits_from-append doubted (CallEvent s n c r (Doubtful k) ∷ a) b = commits_from-append (Some (CallEvent s n c r (Doubtful k))) a b
commits_from-append doubted (CallEvent s n c r Unchanged ∷ a) b = commits_from-append (doubted_after r doubted) a b
commits_from-append None (Landed k ∷ a) b = commits_from-append None a b
commits_from-append (Some e) (Landed k ∷ a) b = ap (λ l. e ∷ l) (commits_from-append None a b)

doubted_behind-append : (doubted : Option Event) (a b : List Event) → doubted_behind doubted (a ++ b) ≡ doubted_behind (doubted_behind doubted a) b
doubted_behind-append doubted [] b = refl
doubted_behind-append doubted (CallEvent s n c r (Made k) ∷ a) b = doubted_behind-append None a b
doubted_behind-append doubted (CallEvent s n c r (Doubtful k) ∷ a) b = doubted_behind-append (Some (CallEvent s n c r (Doubtful k))) a b
doubted_behind-append doubted (CallEvent s n c r Unchanged ∷ a) b = doubted_behind-append (doubted_after r doubted) a b
doubted_behind-append doubted (Landed k ∷ a) b = doubted_behind-append None a b

-- no event makes more than one
commits_from-le : (doubted : Option Event) (events : List Event) → length (commits_from doubted events) ≤ length events
commits_from-le doubted [] = omega arith
commits_from-le doubted (CallEvent s n c r (Made k) ∷ events) = omega (arith, commits_from-le None events)
commits_from-le doubted (CallEvent s n c r (Doubtful k) ∷ events) = omega (arith, commits_from-le (Some (CallEvent s n c r (Doubtful k))) events)
commits_from-le doubted (CallEvent s n c r Unchanged ∷ events) = omega (arith, commits_from-le (doubted_after r doubted) events)
commits_from-le None (Landed k ∷ events) = omega (arith, commits_from-le None events)
commits_from-le (Some e) (Landed k ∷ events) = omega (arith, commits_from-le None events)

same : (a b : ℕ) (p q : Bool) → a ≡ b → p ≡ q → (let c : Commits = record { count = a; doubted = p } in c) ≡ record { count = b; doubted = q }
same a b p q e f = rw (e, f)

kept : (doubted : Option Event) (keeps : Bool) → (is_some doubted && keeps) ≡ is_some (elim keeps [ true ↦ doubted | false ↦ None ])
kept None true = refl
kept None false = refl
kept (Some e) true = refl
kept (Some e) false = refl

with_one : (n : ℕ) (doubted : Option Event) (event : Event) → with_event (record { count = n; doubted = is_some doubted }) event
    ≡ record { count = n + length (commits_from doubted (event ∷ [])); doubted = is_some (doubted_behind doubted (event ∷ [])) }
with_one n doubted (CallEvent s k c r (Made m)) = same _ _ _ _ (omega arith) refl
with_one n doubted (CallEvent s k c r (Doubtful m)) = same _ _ _ _ (omega arith) refl
with_one n doubted (CallEvent s k c r Unchanged) = same _ _ _ _ (omega arith) (kept doubted (keeps_doubt r))
with_one n None (Landed m) = same _ _ _ _ (omega arith) refl
with_one n (Some e) (Landed m) = same _ _ _ _ (omega arith) refl

pub count_of-more : (events : List Event) (i : ℕ) (event : Event) → i < length events → slice_get events i ≡ Some event → with_event (count_of (take i events)) event ≡ count_of (take (i + 1) events)
count_of-more events i event lt is =
    let front = take i events in
    let next : take (i + 1) events ≡ front ++ event ∷ [] = take_more events i event lt ∙ ap (λ e. front ++ e ∷ []) (get_or_from_slice_get events i event event is) in
    with_one (length (commits_of front)) (doubted_behind None front) event
    ∙ same _ _ _ _ (sym (ap length (commits_from-append None front (event ∷ [])) ∙ length-append (commits_of front) (commits_from (doubted_behind None front) (event ∷ []))))
    (ap is_some (sym (doubted_behind-append None front (event ∷ []))))
    ∙ ap count_of (sym next)

pub count_of-room : (events : List Event) (i : ℕ) → i < length events → length events < 2 ^ 64 → length (commits_of (take i events)) + 1 < 2 ^ 64
count_of-room events i lt small = omega (arith, commits_from-le None (take i events), length-take-le i events (omega arith))

pub count_of-all : (events : List Event) (i : ℕ) → length events ≤ i → count_of (take i events) ≡ count_of events
count_of-all events i le = ap count_of (take_all i events le)
