-- No event raises a number of an application above its limit, where each call was within.
use Rattle.std.proofs.Common.{◌≡◌, ◌<◌, ℕ, Bool, true, false, cond, ◌&&◌, ◌||◌, List, [], ◌∷◌, length, refl, sym, ap, ◌∙◌, subst, inl, inr, Option, Some, None, true≢false, arith}
use Rattle.std.specs.Prelude.{nat_lt}
use Rattle.std.proofs.lemmas.Bool.Decides.{nat_tests}
use Rattle.tee_types.specs.declared.call.Call.{Call}
use Rattle.tee_types.specs.declared.reply.Reply.{Reply}
use Rattle.store_model.specs.declared.event.Event.{Event}
use Rattle.store_model.specs.declared.event.Event.TheVariants.{Call as CallEvent, Landed}
use Rattle.store_model.specs.declared.event.Mark.{Mark}
use Rattle.store_model.specs.declared.event.Mark.TheVariants.{Unchanged, Made, Doubtful}
use Rattle.store_model.specs.Object.{ObjectMap}
use Rattle.store_model.specs.Machine.{MachineState, session_at}
use Rattle.store_model.specs.Calls.{reply_of, state_after, is_commit}
use Rattle.store_model.specs.Record.{Record, file_of}
use Rattle.store_model.specs.Doubt.{Doubt}
use Rattle.store_model.specs.ReplayState.{ReplayState, is_undone, state_unless_undone, replay_after, replay_after_call, replay_landed}
use Rattle.store_model.specs.Legal.{IsLegalAnswer, IsLegalCall, IsLegalEvent, IsLegalFrom, is_commit_due, mark_of}
use Rattle.store_model.specs.Legal.IsLegalAnswer.{Answered, Unavailable, Doubted, FoundCorrupt, Spent}
use Rattle.store_model.proofs.QuietCalls.{unchanged_maps_stay}
use Rattle.app_totals.specs.declared.numbers.Totals.{Totals}
use Rattle.app_totals.specs.Totals.{data_bytes, totals_of}
use Rattle.app_totals.specs.Meant.{held_by, left_by, raises}
use Rattle.app_totals.specs.OwnHandles.{HaveOwnHandles}
use Rattle.app_totals.proofs.Names.{same_bytes}
use Rattle.app_totals.proofs.OwnHandles.{calls_keep_own_handles, landings_keep_own_handles}
use Rattle.app_totals.proofs.ReplayedHandles.{new_own}
use Rattle.app_totals.proofs.MeantTotals.{commits_leave_what_is_meant}
use Rattle.app_quota.specs.Parts.{is_session_of}
use Rattle.app_quota.specs.Limits.{Limits, exceeds, is_beyond}
use Rattle.app_quota.specs.Isolation.{IsWithin, AreWithin, StayWithin, StayWithinEach}
use Rattle.app_quota.specs.Laws.{EventsStayWithin, ForecastsTellBeyond}
use Rattle.app_quota.proofs.OtherCalls.{keeps_apart}
use Rattle.app_quota.proofs.UndoneCalls.{kept_doubt, undone_if_kept, undone_state}

-- what stays rises nowhere
exceeds-self : (limit t : Totals) → exceeds limit t t ≡ false
exceeds-self limit t k = (self t.objects k && nat_lt limit.objects t.objects) || (self t.bytes k && nat_lt limit.bytes t.bytes)
  where
    self : (n : ℕ) → nat_lt n n ≡ false
    self n = grind (arith, nat_tests)

-- what raises no number exceeds no limit
pub exceeds-none : (limit before after : Totals) → raises before after ≡ false → exceeds limit before after ≡ false
exceeds-none limit before after = one (nat_lt before.objects after.objects) (nat_lt before.bytes after.bytes)
  where
    one : (a b : Bool) → (a || b) ≡ false → ((a && nat_lt limit.objects after.objects) || (b && nat_lt limit.bytes after.bytes)) ≡ false
    one false false h = refl
    one true b h = absurd (true≢false h)
    one false true h = absurd (true≢false h)

pub forecasts_tell_beyond : ForecastsTellBeyond
forecasts_tell_beyond limits s i call forecast is =
    (λ k. told (record { objects = is.objects k; bytes = is.bytes k }) (is.grown k))
    ∙ one (raises (held_by s i) (left_by s i call)) refl
  where
    limit : Totals
    limit = limits (session_at s i).application

    told : Totals → Option Totals → Bool
    told held o = elim o [ Some left ↦ exceeds limit held left | None ↦ false ]

    one : (b : Bool) → raises (held_by s i) (left_by s i call) ≡ b → told (held_by s i) (cond b (Some (left_by s i call)) None) ≡ is_beyond limits s i call
    one true rises = refl
    one false none = sym (exceeds-none limit (held_by s i) (left_by s i call) none)

made-due : (counter commit : ℕ) (due : Bool) → Made commit ≡ mark_of counter due → due ≡ true
made-due counter commit true is = refl
made-due counter commit false is = absurd (cc (is))

module _ (limits : Limits) (tampered : List ℕ) where
  within-same : (before after : ObjectMap) → after ≡ before → StayWithin limits before after
  within-same before after same app = ap (λ (m : ObjectMap). exceeds (limits app) (totals_of app before) (totals_of app m)) same ∙ exceeds-self (limits app) (totals_of app before)

  -- a commit that is within its limit
  within-commit : (s : MachineState) (i : ℕ) (call : Call) → i < length s.sessions → HaveOwnHandles s → is_commit s i call (reply_of s i call) ≡ true → is_beyond limits s i call ≡ false
      → StayWithin limits s.objects (state_after s i call).objects
  within-commit s i call lt handles due within app = one (is_session_of app (session_at s i)) refl
    where
      mine : List ℕ
      mine = (session_at s i).application

      totals_in : ObjectMap → Totals
      totals_in m = record { objects = length m; bytes = data_bytes m }

      one : (b : Bool) → is_session_of app (session_at s i) ≡ b → exceeds (limits app) (totals_of app s.objects) (totals_of app (state_after s i call).objects) ≡ false
      one true its =
          ap (λ (a : List ℕ). exceeds (limits a) (totals_of a s.objects) (totals_of a (state_after s i call).objects)) (same_bytes app mine its)
          ∙ ap (exceeds (limits mine) (held_by s i)) (commits_leave_what_is_meant s i call due)
          ∙ within
      one false other =
          ap (λ (x : MachineState). exceeds (limits app) (totals_of app s.objects) (totals_in x.objects)) (keeps_apart app s i lt handles other call)
          ∙ exceeds-self (limits app) (totals_of app s.objects)

  -- a doubt is of a commit that is within its limit
  pub record IsDueWithin (s : MachineState) (d : Doubt) : Type 0 where
    pub declared : d.session < length s.sessions
    pub within : is_beyond limits s d.session d.call ≡ false
    pub due : is_commit s d.session d.call (reply_of s d.session d.call) ≡ true

  pub record IsReady (s : ReplayState) : Type 0 where
    pub handles : HaveOwnHandles s.state
    pub doubt : (d : Doubt) → s.doubt ≡ Some d → IsDueWithin s.state d

  ready-unchanged : (s : ReplayState) (session : ℕ) (call : Call) (reply : Reply) (file : Option ℕ) → IsReady s → IsReady (replay_after_call s session call reply Unchanged file)
  ready-unchanged s session call reply file ready = (elim (is_undone reply) as (λ b. is_undone reply ≡ b → IsReady (replay_after_call s session call reply Unchanged file)) [
    | true ↦ λ h.
        let same : state_unless_undone s.state session call reply ≡ s.state = undone_state s.state session call reply true h in
        record {
          handles = subst HaveOwnHandles (sym same) ready.handles;
          doubt = λ d e. subst (λ (x : MachineState). IsDueWithin x d) (sym same) (ready.doubt d (kept_doubt reply s.doubt d e).1);
        }
    | false ↦ λ h.
        let same : state_unless_undone s.state session call reply ≡ state_after s.state session call = undone_state s.state session call reply false h in
        record {
          handles = subst HaveOwnHandles (sym same) (calls_keep_own_handles s.state session call ready.handles).handles;
          doubt = λ d e. absurd (true≢false (sym (undone_if_kept reply (kept_doubt reply s.doubt d e).0) ∙ h));
        }
  ]) refl

  -- a call, and what holds after it
  call_within : (s : ReplayState) (session number : ℕ) (call : Call) (reply : Reply) (mark : Mark) (file : Option ℕ) → IsReady s → IsLegalCall tampered s session call reply mark file
      → IsWithin limits s (CallEvent session number call reply mark) file
      → StayWithin limits s.state.objects (replay_after_call s session call reply mark file).state.objects × IsReady (replay_after_call s session call reply mark file)
  call_within s session number call reply Unchanged file ready legal within = (
    within-same s.state.objects (state_unless_undone s.state session call reply).objects (unchanged_maps_stay tampered s session call reply file legal),
    ready-unchanged s session call reply file ready,
  )
  call_within s session number call reply (Made commit) file ready legal (inr blamed) = absurd (cc (blamed.marked))
  call_within s session number call reply (Made commit) file ready legal (inl within) = (
    within-commit s.state session call legal.declared ready.handles (due legal.answer) within,
    record { handles = (calls_keep_own_handles s.state session call ready.handles).handles; doubt = λ d e. absurd (cc (e)) },
  )
    where
      due : IsLegalAnswer tampered s session call reply (Made commit) file → is_commit_due s session call ≡ true
      due (Answered h) = made-due s.counter commit (is_commit_due s session call) h.marked
      due (Unavailable h) = absurd (cc (h.marked))
      due (Doubted h) = absurd (cc (h.marked))
      due (FoundCorrupt h) = absurd (cc (h.marked))
      due (Spent h) = absurd (cc (h.marked))
  call_within s session number call reply (Doubtful commit) file ready legal (inr blamed) = absurd (cc (blamed.marked))
  call_within s session number call reply (Doubtful commit) file ready legal (inl within) = (
    within-same s.state.objects s.state.objects refl,
    record {
      handles = ready.handles;
      doubt = λ d e.
          let same : record { commit = commit; session = session; call = call; file = file } ≡ d = cc (e) in
          subst (λ (x : Doubt). IsDueWithin s.state x) same (record { declared = legal.declared; within = within; due = due legal.answer });
    },
  )
    where
      marked : (counter : ℕ) (b : Bool) → Doubtful commit ≡ mark_of counter b → ⊥
      marked counter true is = absurd (cc (is))
      marked counter false is = absurd (cc (is))

      due : IsLegalAnswer tampered s session call reply (Doubtful commit) file → is_commit_due s session call ≡ true
      due (Answered h) = absurd (marked s.counter (is_commit_due s session call) h.marked)
      due (Unavailable h) = absurd (cc (h.marked))
      due (Doubted h) = h.due
      due (FoundCorrupt h) = absurd (cc (h.marked))
      due (Spent h) = absurd (cc (h.marked))

  landed_within : (s : ReplayState) (o : Option Doubt) → s.doubt ≡ o → IsReady s → StayWithin limits s.state.objects (replay_landed s o).state.objects × IsReady (replay_landed s o)
  landed_within s None is ready = (within-same s.state.objects s.state.objects refl, ready)
  landed_within s (Some d) is ready =
      let due = ready.doubt d is in (
        within-commit s.state d.session d.call due.declared ready.handles due.due due.within,
        record { handles = (landings_keep_own_handles s.state d ready.handles).handles; doubt = λ x e. absurd (cc (e)) },
      )

  event_within : (e : Event) (file : Option ℕ) (s : ReplayState) → IsReady s → IsLegalEvent tampered s e file → IsWithin limits s e file
      → StayWithin limits s.state.objects (replay_after s e file).state.objects × IsReady (replay_after s e file)
  event_within (CallEvent session number call reply mark) file s ready legal within = call_within s session number call reply mark file ready legal within
  event_within (Landed commit) file s ready legal within = landed_within s s.doubt refl ready

  pub each_within : {Root : Type 0} (records : List (Record Root)) (s : ReplayState) → IsReady s → IsLegalFrom tampered s records → AreWithin limits s records → StayWithinEach limits s records
  each_within [] s ready legal within = tt
  each_within (r ∷ records) s ready legal within =
      let one = event_within r.event (file_of r) s ready legal.0 within.0 in
      (one.0, each_within records (replay_after s r.event (file_of r)) one.1 legal.1 within.1)

pub events_stay_within : {Root : Type 0} → EventsStayWithin Root
events_stay_within limits tampered phase records legal within =
    each_within limits tampered records _ (record { handles = new_own phase.applications; doubt = λ d e. absurd (cc (e)) }) legal within
