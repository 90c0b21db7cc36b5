-- Records without an event of an application leave its part of the state.
use Rattle.std.proofs.Common.{◌≡◌, ◌<◌, ℕ, suc, true, false, List, [], ◌∷◌, length, refl, sym, ap, ◌∙◌, subst, Option, Some, None}
use Rattle.tee_types.specs.declared.call.Call.{Call}
use Rattle.tee_types.specs.declared.reply.Reply.{Reply}
use Rattle.store_model.specs.declared.event.Event.{Event}
use Rattle.store_model.specs.declared.event.Event.TheVariants.{Call as CallEvent, Landed}
use Rattle.store_model.specs.declared.event.Mark.{Mark}
use Rattle.store_model.specs.declared.event.Mark.TheVariants.{Unchanged, Made, Doubtful}
use Rattle.store_model.specs.Machine.{MachineState, Session, session_at, applications}
use Rattle.store_model.specs.Calls.{state_after}
use Rattle.store_model.specs.Record.{Record, file_of}
use Rattle.store_model.specs.Doubt.{Doubt}
use Rattle.store_model.specs.ReplayState.{ReplayState, is_undone, state_unless_undone, replay_after, replay_after_call, replay_landed, replay}
use Rattle.app_totals.specs.OwnHandles.{HaveOwnHandles, KeepsOwnHandles}
use Rattle.app_quota.specs.Parts.{is_session_of, part_of}
use Rattle.app_quota.specs.Isolation.{IsProper, IsOfOthers, is_doubt_of, AreOfOthers}
use Rattle.app_quota.specs.Laws.{QuietRecordsStayApart}
use Rattle.app_quota.proofs.OtherCalls.{keeps_apart}
use Rattle.app_totals.proofs.OwnHandles.{calls_keep_own_handles, landings_keep_own_handles}
use Rattle.app_totals.proofs.ReplayedHandles.{kept_undone}
use Rattle.app_quota.proofs.MeantParts.{landed_apart}
use Rattle.app_quota.proofs.UndoneCalls.{kept_doubt}

pub count_apps : (sessions : List Session) → length (applications sessions) ≡ length sessions
count_apps [] = refl
count_apps (x ∷ xs) = ap suc (count_apps xs)

pub same_count : (s t : MachineState) → KeepsOwnHandles s t → length t.sessions ≡ length s.sessions
same_count s t fine = sym (count_apps t.sessions) ∙ ap length fine.same ∙ count_apps s.sessions

-- handles stay on objects of their own, and a doubt is of a session that is there
pub proper_call : (s : ReplayState) (session : ℕ) (call : Call) (reply : Reply) (mark : Mark) (file : Option ℕ) → session < length s.state.sessions → IsProper s
    → IsProper (replay_after_call s session call reply mark file)
proper_call s session call reply Unchanged file lt proper =
    let fine = kept_undone s.state session call reply proper.handles in
    record {
      handles = fine.handles;
      doubt = λ d e. subst (λ n. d.session < n) (sym (same_count s.state (state_unless_undone s.state session call reply) fine)) (proper.doubt d (kept_doubt reply s.doubt d e).1);
    }
proper_call s session call reply (Made commit) file lt proper = record { handles = (calls_keep_own_handles s.state session call proper.handles).handles; doubt = λ d e. absurd (cc (e)) }
proper_call s session call reply (Doubtful commit) file lt proper = record {
  handles = proper.handles;
  doubt = λ d e.
      let same : record { commit = commit; session = session; call = call; file = file } ≡ d = cc (e) in
      subst (λ (x : Doubt). x.session < length s.state.sessions) same lt;
}

pub proper_landed : (s : ReplayState) (o : Option Doubt) → IsProper s → IsProper (replay_landed s o)
proper_landed s None proper = proper
proper_landed s (Some d) proper = record { handles = (landings_keep_own_handles s.state d proper.handles).handles; doubt = λ x e. absurd (cc (e)) }

module _ (app : List ℕ) where
  apart_call : (s : ReplayState) (session : ℕ) (call : Call) (reply : Reply) (mark : Mark) (file : Option ℕ) → session < length s.state.sessions → is_session_of app (session_at s.state session) ≡ false → HaveOwnHandles s.state
      → part_of app (replay_after_call s session call reply mark file).state ≡ part_of app s.state
  apart_call s session call reply Unchanged file lt other handles = elim (is_undone reply) as (λ b. part_of app (elim b [ true ↦ s.state | false ↦ state_after s.state session call ]) ≡ part_of app s.state) [
    | true ↦ refl
    | false ↦ keeps_apart app s.state session lt handles other call
  ]
  apart_call s session call reply (Made commit) file lt other handles = keeps_apart app s.state session lt handles other call
  apart_call s session call reply (Doubtful commit) file lt other handles = refl

  apart_landed : (s : ReplayState) (o : Option Doubt) → s.doubt ≡ o → is_doubt_of app s.state o ≡ false → IsProper s → part_of app (replay_landed s o).state ≡ part_of app s.state
  apart_landed s None e other calm = refl
  apart_landed s (Some d) e other calm = landed_apart app s.state d (calm.doubt d e) calm.handles other

  calm_event : (e : Event) (file : Option ℕ) (s : ReplayState) → IsOfOthers app s e → IsProper s → IsProper (replay_after s e file)
  calm_event (CallEvent session number call reply mark) file s others calm = proper_call s session call reply mark file others.0 calm
  calm_event (Landed commit) file s others calm = proper_landed s s.doubt calm

  apart_event : (e : Event) (file : Option ℕ) (s : ReplayState) → IsOfOthers app s e → IsProper s → part_of app (replay_after s e file).state ≡ part_of app s.state
  apart_event (CallEvent session number call reply mark) file s others calm = apart_call s session call reply mark file others.0 others.1 calm.handles
  apart_event (Landed commit) file s others calm = apart_landed s s.doubt refl others calm

  pub quiet : {Root : Type 0} (records : List (Record Root)) (s : ReplayState) → IsProper s → AreOfOthers app s records → part_of app (replay s records).state ≡ part_of app s.state
  quiet [] s calm others = refl
  quiet (r ∷ records) s calm others =
      quiet records (replay_after s r.event (file_of r)) (calm_event r.event (file_of r) s others.0 calm) others.1
      ∙ apart_event r.event (file_of r) s others.0 calm

pub quiet_records_stay_apart : {Root : Type 0} → QuietRecordsStayApart Root
quiet_records_stay_apart app s records calm others = quiet app records s calm others
