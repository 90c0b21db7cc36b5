-- Workers of a phase under quotas, from their sessions and back.
use Rattle.std.proofs.Common.{◌≡◌, ◌∙◌, ◌<◌, ◌⊎◌, ℕ, Bool, true, false, All, List, length, get_or, Vec, Global, inl, inr, sym, ap, subst, arith}
use Rattle.std.specs.List.{list_all}
use Rattle.std.proofs.lemmas.List.{get_or-map, length-map}
use Rattle.std.proofs.lemmas.List.Sums.{AllPass-from_list_all}
use Rattle.app_quota.specs.Limits.{Limits}
use Rattle.core_laws.specs.Stores.{Store}
use Rattle.quota_store.specs.Callers.{QuotaCaller}
use Rattle.quota_store.specs.Sharing.{callers_of}
use Rattle.script_text.specs.declared.script.Step.{Step}
use Rattle.quota_store.specs.CallerSessions.{CallerSession, IsCallerOf}
use Rattle.run_acts.specs.OwnQuotas.{lists_in}
use Rattle.run_acts.specs.QuotaCrews.{AreHired, lists_of, sessions_of}
use Rattle.run_acts.specs.QuotaWork.{AreLimited, AreUnworked, HasMadeWithin, HasStoppedWithin, HasWorkedTo, HaveWorkedTo, HaveWorkedWithin, IsLimited, LeaveWork}
use Rattle.run_acts.specs.declared.quota_worker.QuotaWorker.{QuotaWorker}
use Rattle.run_acts.specs.declared.refused_call.RefusedCall.{RefusedCall}
use Rattle.run_acts.proofs.Lists.{at_each}

module _ {E : Type 0} where
  many-callers : (workers : List (QuotaWorker E)) → length (callers_of (sessions_of workers)) ≡ length workers
  many-callers workers = length-map (sessions_of workers) (λ (s : QuotaCaller E). s.caller) ∙ length-map workers (λ (w : QuotaWorker E). w.session)

  many-lists : (workers : List (QuotaWorker E)) → length (lists_in (lists_of workers)) ≡ length workers
  many-lists workers = length-map (lists_of workers) (λ (l : Vec RefusedCall Global). l.items) ∙ length-map workers (λ (w : QuotaWorker E). w.refused)

  caller-at : (workers : List (QuotaWorker E)) (i : ℕ) (d : CallerSession E) (w : QuotaWorker E) → i < length workers → get_or (callers_of (sessions_of workers)) i d ≡ (get_or workers i w).session.caller
  caller-at workers i d w below =
      get_or-map (λ (s : QuotaCaller E). s.caller) (sessions_of workers) i w.session d (omega (arith, below, length-map workers (λ (x : QuotaWorker E). x.session)))
      ∙ ap (λ (s : QuotaCaller E). s.caller) (get_or-map (λ (x : QuotaWorker E). x.session) workers i w w.session below)

  list-at : (workers : List (QuotaWorker E)) (i : ℕ) (none : List RefusedCall) (w : QuotaWorker E) → i < length workers → get_or (lists_in (lists_of workers)) i none ≡ (get_or workers i w).refused.items
  list-at workers i none w below =
      get_or-map (λ (l : Vec RefusedCall Global). l.items) (lists_of workers) i w.refused none (omega (arith, below, length-map workers (λ (x : QuotaWorker E). x.refused)))
      ∙ ap (λ (l : Vec RefusedCall Global). l.items) (get_or-map (λ (x : QuotaWorker E). x.refused) workers i w w.refused below)

-- THOSE THAT WERE HIRED
module _ {E : Type 0} (sessions : List (QuotaCaller E)) (workers : List (QuotaWorker E)) (hired : AreHired sessions workers) where
  pub many-hired : length workers ≡ length sessions
  many-hired = sym (length-map workers (λ (w : QuotaWorker E). w.session)) ∙ ap (λ (l : List (QuotaCaller E)). length l) hired.sessions_are

  session-at : (i : ℕ) (d : QuotaWorker E) → i < length workers → get_or sessions i d.session ≡ (get_or workers i d).session
  session-at i d below = ap (λ (l : List (QuotaCaller E)). get_or l i d.session) (sym hired.sessions_are) ∙ get_or-map (λ (w : QuotaWorker E). w.session) workers i d d.session below

  pub hired-unworked : (store : Store) → All (λ (s : QuotaCaller E). IsCallerOf store s.caller) sessions → AreUnworked store workers
  hired-unworked store callers i d below = record {
    caller = subst (λ (s : QuotaCaller E). IsCallerOf store s.caller) (session-at i d below) (callers i d.session (omega (arith, below, many-hired)));
    unrefused = hired.unrefused i d below;
  }

  pub hired-limited : (limits : Limits) → All (IsLimited limits) sessions → AreLimited limits workers
  hired-limited limits limited i d below = subst (IsLimited limits) (session-at i d below) (limited i d.session (omega (arith, below, many-hired)))

-- WHAT THEY LEAVE
module _ {E : Type 0} (is_reliable : E → Type 0) (draws : E → ℕ) (store : Store) (limits : Limits) (steps : List Step) where
  either-way : (done : Bool) (was now : CallerSession E) (refused : List RefusedCall) → HasWorkedTo is_reliable draws store limits steps done was now refused
      → HasMadeWithin is_reliable draws store limits steps was now refused ⊎ HasStoppedWithin is_reliable draws store limits steps was now refused
  either-way true was now refused worked = inl worked
  either-way false was now refused worked = inr worked

  module _ (was now : List (QuotaWorker E)) (many : length now ≡ length was) (worked : HaveWorkedWithin is_reliable draws store limits steps was now) where
    abbrev Made : List (CallerSession E) → List (CallerSession E) → List (List RefusedCall) → ℕ → Type 0
    Made first last lists i = (d : CallerSession E) (none : List RefusedCall) → HasMadeWithin is_reliable draws store limits steps (get_or first i d) (get_or last i d) (get_or lists i none)

    abbrev Worked : List (CallerSession E) → List (CallerSession E) → List (List RefusedCall) → ℕ → Type 0
    Worked first last lists i =
        (d : CallerSession E) (none : List RefusedCall) → HasMadeWithin is_reliable draws store limits steps (get_or first i d) (get_or last i d) (get_or lists i none)
        ⊎ HasStoppedWithin is_reliable draws store limits steps (get_or first i d) (get_or last i d) (get_or lists i none)

    abbrev first : List (CallerSession E)
    first = callers_of (sessions_of was)

    abbrev last : List (CallerSession E)
    last = callers_of (sessions_of now)

    abbrev lists : List (List RefusedCall)
    lists = lists_in (lists_of now)

    -- what is said of a worker and of its calls is said of its session
    of-worker : (Says : (before behind : CallerSession E) → List RefusedCall → Type 0) (i : ℕ) (w : QuotaWorker E) → i < length was
        → Says (get_or was i w).session.caller (get_or now i w).session.caller (get_or now i w).refused.items
        → (d : CallerSession E) (none : List RefusedCall) → Says (get_or first i d) (get_or last i d) (get_or lists i none)
    of-worker Says i w below said d none =
        let still : i < length now = omega (arith, below, many) in
        subst (λ (s : CallerSession E). Says s (get_or last i d) (get_or lists i none)) (sym (caller-at was i d w below))
        (subst (λ (s : CallerSession E). Says (get_or was i w).session.caller s (get_or lists i none)) (sym (caller-at now i d w still))
        (subst (Says (get_or was i w).session.caller (get_or now i w).session.caller) (sym (list-at now i none w still)) said))

    within : (i : ℕ) → i < length first → i < length was
    within i below = omega (arith, below, many-callers was)

    leave-all : (done : Bool) → done ≡ list_all (λ (w : QuotaWorker E). w.done) now → HaveWorkedTo is_reliable draws store limits steps done first last lists
    leave-all true is = λ i d none below.
        at_each was (Made first last lists)
        (λ n w there. of-worker (HasMadeWithin is_reliable draws store limits steps) n w there
        (subst (λ (b : Bool). HasWorkedTo is_reliable draws store limits steps b (get_or was n w).session.caller (get_or now n w).session.caller (get_or now n w).refused.items)
        (AllPass-from_list_all (λ (x : QuotaWorker E). x.done) now (sym is) n w (omega (arith, there, many))) (worked n w there))) i (within i below) d none
    leave-all false is = λ i d none below.
        at_each was (Worked first last lists)
        (λ n w there. of-worker (λ before behind refused. HasMadeWithin is_reliable draws store limits steps before behind refused ⊎ HasStoppedWithin is_reliable draws store limits steps before behind refused) n w there
        (either-way (get_or now n w).done (get_or was n w).session.caller (get_or now n w).session.caller (get_or now n w).refused.items (worked n w there))) i (within i below) d none

    pub leave-work : (done : Bool) → done ≡ list_all (λ (w : QuotaWorker E). w.done) now → LeaveWork is_reliable draws store limits steps done first last lists
    leave-work done is = record {
      many = many-callers now ∙ many ∙ sym (many-callers was);
      listed = many-lists now ∙ many ∙ sym (many-callers was);
      worked = leave-all done is;
    }
