-- The calls of one session within their limits.
use Rattle.std.proofs.Common.{◌≡◌, ◌==◌, ℕ, Bool, true, false, cond, List, [], ◌∷◌, length, refl, sym, ap, ◌∙◌, inl, inr, Option, Some, None, true≢false, arith}
use Rattle.std.proofs.lemmas.Bool.Decides.{nat_tests}
use Rattle.tee_types.specs.declared.call.Call.{Call}
use Rattle.tee_types.specs.declared.reply.Reply.{Reply}
use Rattle.tee_types.specs.declared.reply.Reply.TheVariants.{Misuse, NotAvailable}
use Rattle.store_model.specs.declared.event.Event.{Event}
use Rattle.store_model.specs.declared.event.Event.TheVariants.{Call as CallEvent, Landed}
use Rattle.store_model.specs.declared.event.Mark.TheVariants.{Unchanged}
use Rattle.store_model.specs.Machine.{MachineState, session_at}
use Rattle.store_model.specs.Calls.{reply_of}
use Rattle.store_model.specs.Files.{is_misuse}
use Rattle.store_model.specs.Refusal.{is_of_device, is_refusal}
use Rattle.store_model.specs.History.{count_of, numbers_of}
use Rattle.store_model.specs.Record.{Record, events_of, file_of}
use Rattle.store_model.specs.ReplayState.{ReplayState, replay_after}
use Rattle.store_model.specs.Legal.{IsLegalAnswer}
use Rattle.store_model.specs.Legal.IsLegalAnswer.{Answered, Unavailable, Doubted, FoundCorrupt, Spent}
use Rattle.store_model.proofs.Refusals.{replies_name_no_device}
use Rattle.app_totals.specs.Meant.{grown, held_by, left_by, meant_reply, raises}
use Rattle.app_totals.specs.OwnHandles.{HasOwnHandles}
use Rattle.app_totals.proofs.OwnHandles.{any_session_has}
use Rattle.app_totals.proofs.LeftTotals.{quiet-none}
use Rattle.app_totals.proofs.MeantTotals.{misuses_are_meant, refusals_raise_nothing}
use Rattle.app_quota.specs.Parts.{part_of}
use Rattle.app_quota.specs.Limits.{Limits, is_beyond, is_early}
use Rattle.app_quota.specs.Isolation.{AreOwnWithin, IsOwnWithin, IsWithin}
use Rattle.app_quota.specs.Laws.{OtherCallsAreWithin, OwnCallsJoin, PartsTellBeyond, QuietSessionsAreWithin, SessionsWithinAreWithin, UndoneCallsAreWithin}
use Rattle.app_quota.proofs.MeantParts.{same_beyond}
use Rattle.app_quota.proofs.Raises.{exceeds-none}

module _ (limits : Limits) where
  each-within : (e : Event) (file : Option ℕ) (s : ReplayState) → ((session : ℕ) → IsOwnWithin session limits s e file) → IsWithin limits s e file
  each-within (CallEvent caller number call reply mark) file s each = each caller refl
  each-within (Landed commit) file s each = tt

pub sessions_within_are_within : {Root : Type 0} → SessionsWithinAreWithin Root
sessions_within_are_within limits s [] each = tt
sessions_within_are_within limits s (r ∷ records) each = (
  each-within limits r.event (file_of r) s (λ session. (each session).0),
  sessions_within_are_within limits (replay_after s r.event (file_of r)) records (λ session. (each session).1),
)

module _ (session : ℕ) (limits : Limits) where
  quiet-event : (e : Event) (events : List Event) (s : ReplayState) (file : Option ℕ) → count_of session (e ∷ events) ≡ 0 → IsOwnWithin session limits s e file × (count_of session events ≡ 0)
  quiet-event (Landed commit) events s file none = (tt, none)
  quiet-event (CallEvent caller number call reply mark) events s file none = (elim (caller == session) as (λ b. (caller == session) ≡ b → length (cond b (number ∷ numbers_of session events) (numbers_of session events)) ≡ 0
      → (caller ≡ session → IsWithin limits s (CallEvent caller number call reply mark) file) × (count_of session events ≡ 0)) [
        | true ↦ λ same z. absurd (cc (z))
        | false ↦ λ other z. (λ is. absurd (true≢false (sym (same-number caller session is) ∙ other)), z)
      ]) refl none
    where
      same-number : (a b : ℕ) → a ≡ b → (a == b) ≡ true
      same-number a b is = grind (arith, nat_tests)

  pub quiet-within : {Root : Type 0} (s : ReplayState) (records : List (Record Root)) → count_of session (events_of records) ≡ 0 → AreOwnWithin session limits s records
  quiet-within s [] none = tt
  quiet-within s (r ∷ records) none =
      let head = quiet-event r.event (events_of records) s (file_of r) none in
      (head.0, quiet-within (replay_after s r.event (file_of r)) records head.1)

pub quiet_sessions_are_within : {Root : Type 0} → QuietSessionsAreWithin Root
quiet_sessions_are_within session limits s records none = quiet-within session limits s records none

pub own_calls_join : {Root : Type 0} → OwnCallsJoin Root
own_calls_join session limits s [] back before behind = behind
own_calls_join session limits s (r ∷ front) back before behind = (before.0, own_calls_join session limits (replay_after s r.event (file_of r)) front back before.1 behind)

-- a call that raises no number is beyond no limit
unraised-within : (limits : Limits) (s : MachineState) (i : ℕ) (call : Call) → grown s i call ≡ None → is_beyond limits s i call ≡ false
unraised-within limits s i call none = exceeds-none (limits (session_at s i).application) (held_by s i) (left_by s i call) (one (raises (held_by s i) (left_by s i call)) none)
  where
    one : (b : Bool) → cond b (Some (left_by s i call)) None ≡ None → b ≡ false
    one true some = absurd (cc (some))
    one false none = refl

pub other_calls_are_within : OtherCallsAreWithin
other_calls_are_within limits s i call handles other =
    unraised-within limits s i call (quiet-none s i (any_session_has HasOwnHandles s.sessions i tt handles) call other)

misuse-refused : (reply : Reply) → is_misuse reply ≡ true → is_refusal reply ≡ true
misuse-refused (Misuse reason) is = refl
misuse-refused reply is = absurd (cc (is))

misuse-within : (limits : Limits) (s : MachineState) (i : ℕ) (call : Call) → is_misuse (reply_of s i call) ≡ true → is_beyond limits s i call ≡ false
misuse-within limits s i call misuse =
    unraised-within limits s i call (refusals_raise_nothing s i call (misuse-refused (meant_reply s i call) (misuses_are_meant s i call ∙ misuse)))

pub undone_calls_are_within : UndoneCallsAreWithin
undone_calls_are_within limits tampered s session number call reply file early legal = by reply early legal.answer
  where
    by : (reply : Reply) → is_early reply ≡ true → IsLegalAnswer tampered s session call reply Unchanged file → IsWithin limits s (CallEvent session number call reply Unchanged) file
    by (Misuse reason) early (Answered h) = inl (misuse-within limits s.state session call (ap is_misuse (sym h.replied)))
    by (Misuse reason) early (Unavailable h) = absurd (cc (h.replied))
    by (Misuse reason) early (Doubted h) = absurd (cc (h.replied))
    by (Misuse reason) early (FoundCorrupt h) = absurd (cc (h.replied))
    by (Misuse reason) early (Spent h) = absurd (cc (h.replied))
    by (NotAvailable cause) early (Answered h) = absurd (true≢false (ap is_of_device h.replied ∙ replies_name_no_device s.state session call))
    by (NotAvailable cause) early (Unavailable h) = inr h
    by (NotAvailable cause) early (Doubted h) = absurd (cc (h.marked))
    by (NotAvailable cause) early (FoundCorrupt h) = absurd (cc (h.replied))
    by (NotAvailable cause) early (Spent h) = absurd (cc (h.replied))
    by other early answer = absurd (cc (early))

pub parts_tell_beyond : PartsTellBeyond
parts_tell_beyond limits s t i call here there own_s own_t sorted_s sorted_t application same =
    sym (same_beyond s i here own_s sorted_s limits call)
    ∙ ap (λ (x : MachineState). is_beyond limits x i call) (same ∙ ap (λ (app : List ℕ). part_of app t) application)
    ∙ same_beyond t i there own_t sorted_t limits call
