-- Along a history under quotas no application has more objects than the greater of its quota and what it had.
use Rattle.std.proofs.Common.{◌≡◌, ◌⊎◌, ℕ, ◌<◌, ◌≤◌, max, true, false, true≢false, not, ◌&&◌, ◌||◌, List, [], ◌∷◌, length, map, refl, sym, ap, ◌∙◌, subst, inl, inr, Option, Some, None, slice_index_or, arith}
use Rattle.std.specs.Prelude.{nat_lt}
use Rattle.std.proofs.lemmas.Bool.Decides.{nat_tests}
use Rattle.std.specs.List.{AllByRecursion}
use Rattle.std.specs.Ordering.{is_eq}
use Rattle.tee_types.specs.Identifier.{bytes_cmp}
use Rattle.tee_types.specs.declared.call.Call.{Call}
use Rattle.tee_types.specs.declared.reply.Reply.{Reply}
use Rattle.store_model.specs.declared.event.Event.{Event}
use Rattle.store_model.specs.declared.event.Event.TheVariants.{Call as CallEvent, Landed}
use Rattle.store_model.specs.declared.event.Mark.{Mark}
use Rattle.store_model.specs.declared.event.Mark.TheVariants.{Unchanged, Made, Doubtful}
use Rattle.store_model.specs.Object.{ObjectMap}
use Rattle.store_model.specs.Machine.{MachineState, new_session, session_at, applications}
use Rattle.store_model.specs.Calls.{state_after}
use Rattle.store_model.specs.Record.{Record, file_of}
use Rattle.store_model.specs.Doubt.{Doubt}
use Rattle.store_model.specs.ReplayState.{ReplayState, is_undone, replay_after, replay_after_call, replay_landed, opening}
use Rattle.store_model.specs.Legal.{IsLegalEvent, IsLegalFrom}
use Rattle.app_totals.specs.Totals.{objects_of}
use Rattle.app_totals.specs.OwnHandles.{HasOwnHandles, HaveOwnHandles, KeepsOwnHandles}
use Rattle.app_totals.specs.Meant.{meant_objects, held_by, left_by}
use Rattle.app_quota.specs.Limits.{Limits, is_beyond}
use Rattle.app_quota.specs.Commitments.{AreDistinctApps, is_among, others_of, committed_objects}
use Rattle.app_quota.specs.Isolation.{IsLetThrough, AreLetThrough, IsWithin, AreWithin}
use Rattle.app_quota.specs.Laws.{QuotasIsolate}
use Rattle.app_totals.proofs.Names.{same_bytes}
use Rattle.app_totals.proofs.OwnHandles.{calls_keep_own_handles, landings_keep_own_handles}
use Rattle.store_model.proofs.Closeness.{IsRising}
use Rattle.store_model.proofs.CloseCommits.{rising-after}
use Rattle.app_quota.proofs.IsolatedEvents.{application_at, applications_are_isolated}
use Rattle.app_quota.proofs.UndoneCalls.{kept_doubt, undone_if_kept, undone_state}
use Rattle.app_quota.proofs.QuietRecords.{count_apps, same_count}
use Rattle.app_quota.proofs.CallCounts.{leaves_some}
use Rattle.app_quota.proofs.Rooms.{stays_within, let_through_meets_no_others, quotas_leave_room}

-- what is not beyond is at most the limit, or what was there
most_of : (limit before after bytes_before bytes_after bytes_limit : ℕ)
    → ((nat_lt before after && nat_lt limit after) || (nat_lt bytes_before bytes_after && nat_lt bytes_limit bytes_after)) ≡ false → after ≤ max limit before
most_of limit before after bytes_before bytes_after bytes_limit within = (elim (nat_lt before after) as (λ b. nat_lt before after ≡ b → after ≤ max limit before) [
  | true ↦ λ h.
      let rises : before < after = grind (arith, nat_tests, h) in
      let less = stays_within limit before after bytes_before bytes_after bytes_limit rises within in
      omega (arith, less)
  | false ↦ λ h.
      let less : after ≤ before = grind (arith, nat_tests, h) in
      omega (arith, less)
]) refl

module _ (limits : Limits) (tampered : List ℕ) (apps : List (List ℕ)) (begun : ObjectMap) (distinct : AreDistinctApps apps) (fits : committed_objects limits apps begun ≤ 256) where
  record IsBounded (objects : ObjectMap) : Type 0 where
    pub others : length (others_of apps objects) ≤ length (others_of apps begun)
    pub each : (a : List ℕ) → length (objects_of a objects) ≤ max (limits a).objects (length (objects_of a begun))

  -- each session is of one of the applications
  abbrev AreDeclared : MachineState → Type 0
  AreDeclared s = (k : ℕ) → k < length s.sessions → is_among (session_at s k).application apps ≡ true

  record IsFit (s : ReplayState) : Type 0 where
    pub handles : HaveOwnHandles s.state
    pub rising : IsRising s.state.objects
    pub declared : AreDeclared s.state
    pub bounded : IsBounded s.state.objects
    pub doubt : (d : Doubt) → s.doubt ≡ Some d → (d.session < length s.state.sessions) × (is_beyond limits s.state d.session d.call ≡ false)

  declared_still : (s t : MachineState) → KeepsOwnHandles s t → AreDeclared s → AreDeclared t
  declared_still s t fine declared k lt =
      ap (λ (a : List ℕ). is_among a apps) (application_at t.sessions k ∙ ap (λ (l : List (List ℕ)). slice_index_or l k []) fine.same ∙ sym (application_at s.sessions k))
      ∙ declared k (subst (λ n. k < n) (same_count s t fine) lt)

  bounded_after : (s : MachineState) (i : ℕ) (call : Call) → HaveOwnHandles s → is_among (session_at s i).application apps ≡ true → is_beyond limits s i call ≡ false → IsBounded s.objects → IsBounded (state_after s i call).objects
  bounded_after s i call handles among within bounded = record { others = others (leaves_some (λ a. not (is_among a apps)) s i call handles); each = λ a. one a (leaves_some (λ x. is_eq (bytes_cmp a x)) s i call handles) }
    where
      others : (length (others_of apps (state_after s i call).objects) ≤ length (others_of apps s.objects)) ⊎ ((not (is_among (session_at s i).application apps) ≡ true) × ((state_after s i call).objects ≡ meant_objects s i call))
          → length (others_of apps (state_after s i call).objects) ≤ length (others_of apps begun)
      others (inl less) = let was = bounded.others in omega (arith, less, was)
      others (inr more) = absurd (true≢false (sym more.0 ∙ ap not among))

      one : (a : List ℕ) → (length (objects_of a (state_after s i call).objects) ≤ length (objects_of a s.objects)) ⊎ ((is_eq (bytes_cmp a (session_at s i).application) ≡ true) × ((state_after s i call).objects ≡ meant_objects s i call))
          → length (objects_of a (state_after s i call).objects) ≤ max (limits a).objects (length (objects_of a begun))
      one a (inl less) = let was = bounded.each a in omega (arith, less, was)
      one a (inr more) =
          let is : (session_at s i).application ≡ a = sym (same_bytes a (session_at s i).application more.0) in
          subst (λ (x : List ℕ). length (objects_of x (state_after s i call).objects) ≤ max (limits x).objects (length (objects_of x begun))) is (mine more.1)
        where
          mine : (state_after s i call).objects ≡ meant_objects s i call
              → length (objects_of (session_at s i).application (state_after s i call).objects) ≤ max (limits (session_at s i).application).objects (length (objects_of (session_at s i).application begun))
          mine same =
              let left = most_of (limits (session_at s i).application).objects (held_by s i).objects (left_by s i call).objects (held_by s i).bytes (left_by s i call).bytes (limits (session_at s i).application).bytes within in
              let was = bounded.each (session_at s i).application in
              let now : length (objects_of (session_at s i).application (state_after s i call).objects) ≡ (left_by s i call).objects = ap (λ (m : ObjectMap). length (objects_of (session_at s i).application m)) same in
              omega (arith, left, was, now)

  -- a call that is within its limit was let through
  let_through : (s : ReplayState) (session number : ℕ) (call : Call) (reply : Reply) (mark : Mark) (file : Option ℕ) → session < length s.state.sessions → IsFit s
      → IsWithin limits s (CallEvent session number call reply mark) file → IsLetThrough limits tampered s (CallEvent session number call reply mark) file
  let_through s session number call reply mark file lt fit (inr blamed) = inr blamed
  let_through s session number call reply mark file lt fit (inl within) = inl (
    within,
    let_through_meets_no_others limits s.state session call lt fit.rising within
        (quotas_leave_room limits apps begun s.state.objects (session_at s.state session).application distinct (fit.declared session lt) fits fit.bounded.others fit.bounded.each),
  )

  declared_at : (s : MachineState) (k : ℕ) → AreDeclared s → k < length s.sessions → is_among (session_at s k).application apps ≡ true
  declared_at s k declared lt = declared k lt

  fit_made : (s : ReplayState) (session : ℕ) (call : Call) (commit : ℕ) (file : Option ℕ) → session < length s.state.sessions → IsFit s → is_beyond limits s.state session call ≡ false → (t : ReplayState) → t.state ≡ state_after s.state session call
      → ((d : Doubt) → t.doubt ≡ Some d → ⊥) → IsFit t
  fit_made s session call commit file lt fit within t is none = record {
    handles = subst HaveOwnHandles (sym is) (calls_keep_own_handles s.state session call fit.handles).handles;
    rising = subst (λ (x : MachineState). IsRising x.objects) (sym is) (rising-after s.state session call fit.rising);
    declared = subst AreDeclared (sym is) (declared_still s.state (state_after s.state session call) (calls_keep_own_handles s.state session call fit.handles) fit.declared);
    bounded = subst (λ (x : MachineState). IsBounded x.objects) (sym is) (bounded_after s.state session call fit.handles (declared_at s.state session fit.declared lt) within fit.bounded);
    doubt = λ d e. absurd (none d e);
  }

  -- a call that leaves the state
  fit_kept : (s t : ReplayState) → IsFit s → t.state ≡ s.state → ((d : Doubt) → t.doubt ≡ Some d → (d.session < length s.state.sessions) × (is_beyond limits s.state d.session d.call ≡ false)) → IsFit t
  fit_kept s t fit is doubt = record {
    handles = subst HaveOwnHandles (sym is) fit.handles;
    rising = subst (λ (x : MachineState). IsRising x.objects) (sym is) fit.rising;
    declared = subst AreDeclared (sym is) fit.declared;
    bounded = subst (λ (x : MachineState). IsBounded x.objects) (sym is) fit.bounded;
    doubt = λ d e. subst (λ (x : MachineState). (d.session < length x.sessions) × (is_beyond limits x d.session d.call ≡ false)) (sym is) (doubt d e);
  }

  fit_call : (s : ReplayState) (session number : ℕ) (call : Call) (reply : Reply) (mark : Mark) (file : Option ℕ) → session < length s.state.sessions → IsFit s → IsWithin limits s (CallEvent session number call reply mark) file
      → IsFit (replay_after_call s session call reply mark file)
  fit_call s session number call reply Unchanged file lt fit within = (elim (is_undone reply) as (λ b. is_undone reply ≡ b → IsFit (replay_after_call s session call reply Unchanged file)) [
    | true ↦ λ h. fit_kept s (replay_after_call s session call reply Unchanged file) fit (undone_state s.state session call reply true h) (λ d e. fit.doubt d (kept_doubt reply s.doubt d e).1)
    | false ↦ λ h.
        fit_made s session call 0 file lt fit (inside h within) (replay_after_call s session call reply Unchanged file) (undone_state s.state session call reply false h)
        (λ d e. true≢false (sym (undone_if_kept reply (kept_doubt reply s.doubt d e).0) ∙ h))
  ]) refl
    where
      inside : is_undone reply ≡ false → IsWithin limits s (CallEvent session number call reply Unchanged) file → is_beyond limits s.state session call ≡ false
      inside h (inl y) = y
      inside h (inr y) = absurd (true≢false (sym (ap is_undone y.replied) ∙ h))
  fit_call s session number call reply (Made commit) file lt fit (inl within) = fit_made s session call commit file lt fit within (replay_after_call s session call reply (Made commit) file) refl (λ d e. cc (e))
  fit_call s session number call reply (Made commit) file lt fit (inr blamed) = absurd (cc (blamed.marked))
  fit_call s session number call reply (Doubtful commit) file lt fit (inl within) = fit_kept s (replay_after_call s session call reply (Doubtful commit) file) fit refl
      (λ d e.
      let same : record { commit = commit; session = session; call = call; file = file } ≡ d = cc (e) in
      subst (λ (x : Doubt). (x.session < length s.state.sessions) × (is_beyond limits s.state x.session x.call ≡ false)) same (lt, within))
  fit_call s session number call reply (Doubtful commit) file lt fit (inr blamed) = absurd (cc (blamed.marked))

  fit_landed : (s : ReplayState) (o : Option Doubt) → s.doubt ≡ o → IsFit s → IsFit (replay_landed s o)
  fit_landed s None e fit = fit
  fit_landed s (Some d) e fit =
      let due = fit.doubt d e in
      record {
        handles = (landings_keep_own_handles s.state d fit.handles).handles;
        rising = rising-after s.state d.session d.call fit.rising;
        declared = declared_still s.state (replay_landed s (Some d)).state (landings_keep_own_handles s.state d fit.handles) fit.declared;
        bounded = bounded_after s.state d.session d.call fit.handles (declared_at s.state d.session fit.declared due.0) due.1 fit.bounded;
        doubt = λ x e. absurd (cc (e));
      }

  event_through : (e : Event) (file : Option ℕ) (s : ReplayState) → IsFit s → IsLegalEvent tampered s e file → IsWithin limits s e file → IsLetThrough limits tampered s e file × IsFit (replay_after s e file)
  event_through (CallEvent session number call reply mark) file s fit legal within = (
    let_through s session number call reply mark file legal.declared fit within,
    fit_call s session number call reply mark file legal.declared fit within,
  )
  event_through (Landed commit) file s fit legal within = (tt, fit_landed s s.doubt refl fit)

  through : {Root : Type 0} (records : List (Record Root)) (s : ReplayState) → IsFit s → IsLegalFrom tampered s records → AreWithin limits s records → AreLetThrough limits tampered s records
  through [] s fit legal within = tt
  through (r ∷ records) s fit legal within =
      let one = event_through r.event (file_of r) s fit legal.0 within.0 in
      (one.0, through records (replay_after s r.event (file_of r)) one.1 legal.1 within.1)

  pub through_opening : {Root : Type 0} (records : List (Record Root)) (s : ReplayState) → s.state.objects ≡ begun → HaveOwnHandles s.state → IsRising s.state.objects → ((k : ℕ) → k < length s.state.sessions → is_among (session_at s.state k).application apps ≡ true)
      → s.doubt ≡ None → IsLegalFrom tampered s records → AreWithin limits s records → AreLetThrough limits tampered s records
  through_opening records s is handles rising declared none legal within =
      through records s
      (record {
        handles = handles;
        rising = rising;
        declared = declared;
        bounded = subst IsBounded (sym is) (record { others = omega arith; each = λ a. omega arith });
        doubt = λ d e. absurd (cc (none, e));
      })
      legal within

pub quotas_isolate : {Root : Type 0} → QuotasIsolate Root
quotas_isolate limits tampered app apps phase records distinct declared fits rising legal within =
    applications_are_isolated limits tampered app phase records rising legal
    (through_opening limits tampered apps phase.objects distinct fits records (opening phase) refl (all_new phase.applications) rising one refl legal within)
  where
    all_new : (l : List (List ℕ)) → AllByRecursion HasOwnHandles (map new_session l)
    all_new [] = tt
    all_new (a ∷ l) = (tt, all_new l)

    same_apps : (l : List (List ℕ)) → applications (map new_session l) ≡ l
    same_apps [] = refl
    same_apps (a ∷ l) = ap (λ (x : List (List ℕ)). a ∷ x) (same_apps l)

    one : (k : ℕ) → k < length (map new_session phase.applications) → is_among (slice_index_or (map new_session phase.applications) k (new_session [])).application apps ≡ true
    one k lt =
        ap (λ (a : List ℕ). is_among a apps) (application_at (map new_session phase.applications) k ∙ ap (λ (l : List (List ℕ)). slice_index_or l k []) (same_apps phase.applications))
        ∙ declared k (subst (λ n. k < n) (sym (count_apps (map new_session phase.applications)) ∙ ap length (same_apps phase.applications)) lt)
