-- An application's calls are answered by its own calls alone.
use Rattle.std.proofs.Common.{◌≡◌, ◌<◌, ℕ, zero, suc, slice_index_or, Bool, true, false, cond, List, [], ◌∷◌, length, map, refl, sym, ap, ◌∙◌, subst, inl, inr, Option, Some, None, true≢false}
use Rattle.std.specs.Ordering.{is_eq}
use Rattle.tee_types.specs.Identifier.{bytes_cmp}
use Rattle.tee_types.specs.declared.call.Call.{Call}
use Rattle.tee_types.specs.declared.reply.Reply.{Reply}
use Rattle.tee_types.specs.declared.reply.Reply.TheVariants.{Refused}
use Rattle.store_model.specs.declared.event.Event.{Event}
use Rattle.store_model.specs.declared.event.Event.TheVariants.{Call as CallEvent, Landed}
use Rattle.store_model.specs.declared.event.Mark.{Mark}
use Rattle.store_model.specs.declared.event.Mark.TheVariants.{Unchanged, Made, Doubtful}
use Rattle.store_model.specs.Machine.{MachineState, Session, new_session, session_at, applications}
use Rattle.store_model.specs.Calls.{state_after, reply_of}
use Rattle.store_model.specs.Record.{Record, file_of}
use Rattle.store_model.specs.Doubt.{Doubt, state_landed}
use Rattle.store_model.specs.ReplayState.{ReplayState, is_undone, state_unless_undone, replay_after, replay_after_call, replay_landed}
use Rattle.store_model.specs.Legal.{IsLegalAnswer, IsLegalCall, IsLegalEvent, IsLegalFrom}
use Rattle.store_model.specs.Legal.IsLegalAnswer.{Answered, Unavailable, Doubted, FoundCorrupt, Spent}
use Rattle.app_totals.specs.OwnHandles.{HasOwnHandles, HaveOwnHandles, KeepsOwnHandles}
use Rattle.app_quota.specs.Parts.{is_session_of, session_part, part_of, MeetsNoOthers}
use Rattle.app_totals.specs.Totals.{objects_of}
use Rattle.app_quota.specs.Laws.{ApplicationsAreIsolated}
use Rattle.std.specs.List.{AllByRecursion}
use Rattle.store_model.specs.Calls.{outcome_of}
use Rattle.store_model.specs.ReplayState.{opening}
use Rattle.tee_types.specs.declared.reply.Code.TheVariants.{NoSpace}
use Rattle.app_quota.specs.Limits.{Limits, is_beyond}
use Rattle.app_quota.specs.Isolation.{is_doubt_of, is_event_of, IsAnsweredAlone, IsIsolated, IsLetThrough, AreLetThrough}
use Rattle.app_totals.proofs.Names.{same_bytes}
use Rattle.app_quota.proofs.PartNames.{own_calls_stand_alone}
use Rattle.app_quota.proofs.OtherCalls.{keeps_apart}
use Rattle.app_totals.proofs.OwnHandles.{calls_keep_own_handles, landings_keep_own_handles}
use Rattle.store_model.proofs.Closeness.{IsRising}
use Rattle.store_model.proofs.CloseCommits.{rising-after}
use Rattle.app_quota.proofs.MeantParts.{same_beyond, landed_own, landed_apart}
use Rattle.app_quota.proofs.UndoneCalls.{undone_if_kept, kept_doubt, undone_state}

-- What holds wherever the replay stands.
pub record IsGood (s : ReplayState) : Type 0 where
  pub handles : HaveOwnHandles s.state
  pub rising : IsRising s.state.objects
  pub doubt : (d : Doubt) → s.doubt ≡ Some d → (d.session < length s.state.sessions) × MeetsNoOthers s.state d.session d.call

-- The one replay stands at the application's part of where the other does.
pub record IsBeside (app : List ℕ) (s u : ReplayState) : Type 0 where
  pub state : u.state ≡ part_of app s.state
  pub doubt : (d : Doubt) → s.doubt ≡ Some d → is_session_of app (session_at s.state d.session) ≡ true → u.doubt ≡ Some d

app_of : (app : List ℕ) (session : Session) → is_session_of app session ≡ true → app ≡ session.application
app_of app session its = same_bytes app session.application its

pub application_at : (sessions : List Session) (k : ℕ) → (slice_index_or sessions k (new_session [])).application ≡ slice_index_or (applications sessions) k []
application_at [] k = refl
application_at (x ∷ xs) zero = refl
application_at (x ∷ xs) (suc k) = application_at xs k

-- sessions that keep their applications are of the same ones
pub same_its : (app : List ℕ) (s t : MachineState) (k : ℕ) → KeepsOwnHandles s t → is_session_of app (session_at t k) ≡ is_session_of app (session_at s k)
same_its app s t k fine =
    ap (λ a. is_eq (bytes_cmp app a))
    (application_at t.sessions k ∙ ap (λ (l : List (List ℕ)). slice_index_or l k []) fine.same ∙ sym (application_at s.sessions k))

-- what stands after an unchanged call is good
good_unchanged : (s : ReplayState) (session : ℕ) (call : Call) (reply : Reply) (file : Option ℕ) → IsGood s → IsGood (replay_after_call s session call reply Unchanged file)
good_unchanged s session call reply file good = (elim (is_undone reply) as (λ b. is_undone reply ≡ b → IsGood (replay_after_call s session call reply Unchanged file)) [
  | true ↦ λ h.
      let same : state_unless_undone s.state session call reply ≡ s.state = undone_state s.state session call reply true h in
      record {
        handles = subst HaveOwnHandles (sym same) good.handles;
        rising = subst (λ (x : MachineState). IsRising x.objects) (sym same) good.rising;
        doubt = λ d e. subst (λ (x : MachineState). (d.session < length x.sessions) × MeetsNoOthers x d.session d.call) (sym same) (good.doubt d (kept_doubt reply s.doubt d e).1);
      }
  | false ↦ λ h.
      let same : state_unless_undone s.state session call reply ≡ state_after s.state session call = undone_state s.state session call reply false h in
      record {
        handles = subst HaveOwnHandles (sym same) (calls_keep_own_handles s.state session call good.handles).handles;
        rising = subst (λ (x : MachineState). IsRising x.objects) (sym same) (rising-after s.state session call good.rising);
        doubt = λ d e. absurd (true≢false (sym (undone_if_kept reply (kept_doubt reply s.doubt d e).0) ∙ h));
      }
]) refl

kept_unchanged : (s : ReplayState) (session : ℕ) (call : Call) (reply : Reply) → IsGood s → KeepsOwnHandles s.state (state_unless_undone s.state session call reply)
kept_unchanged s session call reply good = elim (is_undone reply) as (λ b. KeepsOwnHandles s.state (elim b [ true ↦ s.state | false ↦ state_after s.state session call ])) [
  | true ↦ record { handles = good.handles; same = refl }
  | false ↦ calls_keep_own_handles s.state session call good.handles
]

module _ (limits : Limits) (tampered app : List ℕ) where
  -- what an own call leaves, where it was let through
  own_after : (s u : ReplayState) (session : ℕ) (call : Call) → is_session_of app (session_at s.state session) ≡ true → session < length s.state.sessions → IsGood s → IsBeside app s u → MeetsNoOthers s.state session call
      → (reply_of u.state session call ≡ reply_of s.state session call) × (state_after u.state session call ≡ part_of app (state_after s.state session call))
  own_after s u session call its lt good beside meets =
      subst (λ (x : MachineState × List ℕ). (reply_of x.0 session call ≡ reply_of s.state session call) × (state_after x.0 session call ≡ part_of x.1 (state_after s.state session call)))
      (λ k. ((ap (λ a. part_of a s.state) (sym is) ∙ sym beside.state) k, sym is k))
      (own_calls_stand_alone s.state session call lt good.handles good.rising meets)
    where
      is : app ≡ (session_at s.state session).application
      is = app_of app (session_at s.state session) its

  same_limit : (s u : ReplayState) (session : ℕ) (call : Call) → is_session_of app (session_at s.state session) ≡ true → session < length s.state.sessions → IsGood s → IsBeside app s u → is_beyond limits u.state session call ≡ is_beyond limits s.state session call
  same_limit s u session call its lt good beside =
      ap (λ (x : MachineState). is_beyond limits x session call) (beside.state ∙ ap (λ a. part_of a s.state) (app_of app (session_at s.state session) its))
      ∙ same_beyond s.state session lt good.handles good.rising limits call

  not_changed : {X : Type 0} (commit : ℕ) → Made commit ≡ Unchanged → X
  not_changed commit e = absurd (cc (e))

  not_doubted : {X : Type 0} (commit : ℕ) → Doubtful commit ≡ Unchanged → X
  not_doubted commit e = absurd (cc (e))

  -- an own call is told alone
  told : (s u : ReplayState) (session number : ℕ) (call : Call) (reply : Reply) (mark : Mark) (file : Option ℕ) → is_session_of app (session_at s.state session) ≡ true → IsGood s → IsBeside app s u
      → IsLegalCall tampered s session call reply mark file → IsLetThrough limits tampered s (CallEvent session number call reply mark) file
      → IsAnsweredAlone limits tampered s u (CallEvent session number call reply mark) file
  told s u session number call reply mark file its good beside legal (inr blamed) = inr (inl blamed)
  told s u session number call reply mark file its good beside legal (inl through) = one legal.answer
    where
      within : is_beyond limits u.state session call ≡ false
      within = same_limit s u session call its legal.declared good beside ∙ through.0

      one : IsLegalAnswer tampered s session call reply mark file → IsAnsweredAlone limits tampered s u (CallEvent session number call reply mark) file
      one (Answered h) = inl (
          h.replied
          ∙ sym (own_after s u session call its legal.declared good beside through.1).0
          ∙ ap (λ b. (cond b (record { reply = Refused NoSpace; next = u.state }) (outcome_of u.state session call)).reply) (sym within))
      one (Unavailable h) = inr (inl h)
      one (Doubted h) = inr (inr (inl h))
      one (FoundCorrupt h) = inr (inr (inr (inl h)))
      one (Spent h) = inr (inr (inr (inr h)))

  -- where an own call leaves both
  beside_own : (s u : ReplayState) (session number : ℕ) (call : Call) (reply : Reply) (mark : Mark) (file : Option ℕ) → is_session_of app (session_at s.state session) ≡ true → session < length s.state.sessions → IsGood s → IsBeside app s u
      → IsLetThrough limits tampered s (CallEvent session number call reply mark) file
      → IsBeside app (replay_after_call s session call reply mark file) (replay_after_call u session call reply mark file)
  beside_own s u session number call reply Unchanged file its lt good beside through = record {
    state = (elim (is_undone reply) as (λ b. is_undone reply ≡ b → state_unless_undone u.state session call reply ≡ part_of app (state_unless_undone s.state session call reply)) [
      | true ↦ λ h. undone_state u.state session call reply true h ∙ beside.state ∙ ap (part_of app) (sym (undone_state s.state session call reply true h))
      | false ↦ λ h.
          undone_state u.state session call reply false h
          ∙ (own_after s u session call its lt good beside (meets h through)).1
          ∙ ap (part_of app) (sym (undone_state s.state session call reply false h))
    ]) refl;
    doubt = λ d e mine.
        let kept = kept_doubt reply s.doubt d e in
        ap (λ b. elim b [ true ↦ u.doubt | false ↦ None ]) kept.0
        ∙ beside.doubt d kept.1 (sym (same_its app s.state (state_unless_undone s.state session call reply) d.session (kept_unchanged s session call reply good)) ∙ mine);
  }
    where
      meets : is_undone reply ≡ false → IsLetThrough limits tampered s (CallEvent session number call reply Unchanged) file → MeetsNoOthers s.state session call
      meets h (inl y) = y.1
      meets h (inr y) = absurd (true≢false (sym (ap is_undone y.replied) ∙ h))
  beside_own s u session number call reply (Made commit) file its lt good beside (inl through) = record {
    state = (own_after s u session call its lt good beside through.1).1;
    doubt = λ d e mine. absurd (cc (e));
  }
  beside_own s u session number call reply (Made commit) file its lt good beside (inr blamed) = not_changed commit blamed.marked
  beside_own s u session number call reply (Doubtful commit) file its lt good beside through = record { state = beside.state; doubt = λ d e mine. e }

  -- where another application's call leaves both
  beside_other : (s u : ReplayState) (session : ℕ) (call : Call) (reply : Reply) (mark : Mark) (file : Option ℕ) → is_session_of app (session_at s.state session) ≡ false → session < length s.state.sessions → IsGood s → IsBeside app s u
      → IsBeside app (replay_after_call s session call reply mark file) u
  beside_other s u session call reply Unchanged file other lt good beside = record {
    state = beside.state ∙ (elim (is_undone reply) as (λ b. part_of app s.state ≡ part_of app (elim b [ true ↦ s.state | false ↦ state_after s.state session call ])) [
      | true ↦ refl
      | false ↦ sym (keeps_apart app s.state session lt good.handles other call)
    ]);
    doubt = λ d e mine.
        beside.doubt d (kept_doubt reply s.doubt d e).1 (sym (same_its app s.state (state_unless_undone s.state session call reply) d.session (kept_unchanged s session call reply good)) ∙ mine);
  }
  beside_other s u session call reply (Made commit) file other lt good beside = record {
    state = beside.state ∙ sym (keeps_apart app s.state session lt good.handles other call);
    doubt = λ d e mine. absurd (cc (e));
  }
  beside_other s u session call reply (Doubtful commit) file other lt good beside = record {
    state = beside.state;
    doubt = λ d e mine.
        let same : record { commit = commit; session = session; call = call; file = file } ≡ d = cc (e) in
        absurd (true≢false (sym mine ∙ ap (λ (x : Doubt). is_session_of app (session_at s.state x.session)) (sym same) ∙ other));
  }

  -- what a call leaves is good
  good_call : (s : ReplayState) (session number : ℕ) (call : Call) (reply : Reply) (mark : Mark) (file : Option ℕ) → session < length s.state.sessions → IsGood s → IsLetThrough limits tampered s (CallEvent session number call reply mark) file
      → IsGood (replay_after_call s session call reply mark file)
  good_call s session number call reply Unchanged file lt good through = good_unchanged s session call reply file good
  good_call s session number call reply (Made commit) file lt good through = record {
    handles = (calls_keep_own_handles s.state session call good.handles).handles;
    rising = rising-after s.state session call good.rising;
    doubt = λ d e. absurd (cc (e));
  }
  good_call s session number call reply (Doubtful commit) file lt good (inl through) = record {
    handles = good.handles;
    rising = good.rising;
    doubt = λ d e.
        let same : record { commit = commit; session = session; call = call; file = file } ≡ d = cc (e) in
        subst (λ (x : Doubt). (x.session < length s.state.sessions) × MeetsNoOthers s.state x.session x.call) same (lt, through.1);
  }
  good_call s session number call reply (Doubtful commit) file lt good (inr blamed) = not_doubted commit blamed.marked

  -- a landing
  good_landed : (s : ReplayState) (o : Option Doubt) → s.doubt ≡ o → IsGood s → IsGood (replay_landed s o)
  good_landed s None e good = good
  good_landed s (Some d) e good = record {
    handles = (landings_keep_own_handles s.state d good.handles).handles;
    rising = rising-after s.state d.session d.call good.rising;
    doubt = λ x e. absurd (cc (e));
  }

  beside_landed_own : (s u : ReplayState) (d : Doubt) → s.doubt ≡ Some d → is_session_of app (session_at s.state d.session) ≡ true → IsGood s → IsBeside app s u → IsBeside app (replay_landed s s.doubt) (replay_landed u u.doubt)
  beside_landed_own s u d e its good beside =
      subst (λ (x : Option Doubt × Option Doubt). IsBeside app (replay_landed s x.0) (replay_landed u x.1)) (λ k. (sym e k, sym (beside.doubt d e its) k))
      (record {
        state = ap (λ (x : MachineState). state_landed x d) (beside.state ∙ ap (λ a. part_of a s.state) is)
            ∙ landed_own s.state d.session due.0 good.handles good.rising d refl due.1
            ∙ ap (λ a. part_of a (state_landed s.state d)) (sym is);
        doubt = λ x e mine. absurd (cc (e));
      })
    where
      due : (d.session < length s.state.sessions) × MeetsNoOthers s.state d.session d.call
      due = good.doubt d e

      is : app ≡ (session_at s.state d.session).application
      is = app_of app (session_at s.state d.session) its

  beside_landed_other : (s u : ReplayState) (o : Option Doubt) → s.doubt ≡ o → is_doubt_of app s.state o ≡ false → IsGood s → IsBeside app s u → IsBeside app (replay_landed s o) u
  beside_landed_other s u None e other good beside = beside
  beside_landed_other s u (Some d) e other good beside = record {
    state = beside.state ∙ sym (landed_apart app s.state d (good.doubt d e).0 good.handles other);
    doubt = λ x e mine. absurd (cc (e));
  }

  -- each event
  step : (e : Event) (file : Option ℕ) (s u : ReplayState) → IsGood s → IsBeside app s u → IsLegalEvent tampered s e file → IsLetThrough limits tampered s e file
      → (Rest : ReplayState → Type 0) → ((y : ReplayState) → IsGood (replay_after s e file) → IsBeside app (replay_after s e file) y → Rest y)
      → elim (is_event_of app s e) as (λ _. Type 0) [ true ↦ IsAnsweredAlone limits tampered s u e file × Rest (replay_after u e file) | false ↦ Rest u ]
  step (CallEvent session number call reply mark) file s u good beside legal through Rest more =
      (elim (is_session_of app (session_at s.state session)) as (λ b. is_session_of app (session_at s.state session) ≡ b
      → elim b as (λ _. Type 0) [ true ↦ IsAnsweredAlone limits tampered s u (CallEvent session number call reply mark) file × Rest (replay_after_call u session call reply mark file) | false ↦ Rest u ]) [
        | true ↦ λ its. (
          told s u session number call reply mark file its good beside legal through,
          more (replay_after_call u session call reply mark file) (good_call s session number call reply mark file legal.declared good through)
              (beside_own s u session number call reply mark file its legal.declared good beside through),
        )
        | false ↦ λ other. more u (good_call s session number call reply mark file legal.declared good through) (beside_other s u session call reply mark file other legal.declared good beside)
      ]) refl
  step (Landed commit) file s u good beside legal through Rest more =
      (elim (is_doubt_of app s.state s.doubt) as (λ b. is_doubt_of app s.state s.doubt ≡ b → elim b as (λ _. Type 0) [ true ↦ Unit {0} × Rest (replay_landed u u.doubt) | false ↦ Rest u ]) [
        | true ↦ λ its. (
          tt,
          more (replay_landed u u.doubt) (good_landed s s.doubt refl good) (beside_landed_own s u legal.doubt legal.is_open (sym (ap (is_doubt_of app s.state) legal.is_open) ∙ its) good beside),
        )
        | false ↦ λ other. more u (good_landed s s.doubt refl good) (beside_landed_other s u s.doubt refl other good beside)
      ]) refl

  pub isolated : {Root : Type 0} (records : List (Record Root)) (s u : ReplayState) → IsGood s → IsBeside app s u → IsLegalFrom tampered s records → AreLetThrough limits tampered s records → IsIsolated limits tampered app s u records
  isolated [] s u good beside legal through = tt
  isolated (r ∷ records) s u good beside legal through =
      step r.event (file_of r) s u good beside legal.0 through.0 (λ y. IsIsolated limits tampered app (replay_after s r.event (file_of r)) y records)
      (λ y good' beside'. isolated records (replay_after s r.event (file_of r)) y good' beside' legal.1 through.1)

-- from the opening on
pub applications_are_isolated : {Root : Type 0} → ApplicationsAreIsolated Root
applications_are_isolated limits tampered app phase records rising legal through =
    isolated limits tampered app records (opening phase) (opening (record phase { objects = objects_of app phase.objects }))
    (record { handles = all_new phase.applications; rising = rising; doubt = λ d e. absurd (cc (e)) })
    (record { state = λ k. record { objects = objects_of app phase.objects; sessions = all_blank phase.applications k }; doubt = λ d e mine. absurd (cc (e)) })
    legal through
  where
    all_new : (apps : List (List ℕ)) → AllByRecursion HasOwnHandles (map new_session apps)
    all_new [] = tt
    all_new (a ∷ apps) = (tt, all_new apps)

    all_blank : (apps : List (List ℕ)) → map new_session apps ≡ map (session_part app) (map new_session apps)
    all_blank [] = refl
    all_blank (a ∷ apps) = (λ k. blank a (is_session_of app (new_session a)) k ∷ all_blank apps k)
      where
        blank : (a : List ℕ) (b : Bool) → new_session a ≡ elim b [ true ↦ new_session a | false ↦ new_session a ]
        blank a true = refl
        blank a false = refl
