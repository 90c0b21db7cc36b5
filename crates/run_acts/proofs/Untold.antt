-- Events whose replies carry no fault, as the machine answers them.
use Rattle.std.proofs.Common.{◌≡◌, ◌∙◌, ◌==◌, ◌<◌, ◌++◌, ◌∷◌, ◌⊎◌, [], ℕ, suc, Bool, true, false, cond, List, None, Option, Some, length, refl, sym, subst, inl, inr, arith}
use Rattle.std.specs.Prelude.{Contains}
use Rattle.std.proofs.lemmas.Bool.{eq-eqb}
use Rattle.tee_types.specs.Limits.{IsObjectFile}
use Rattle.tee_types.specs.declared.call.Call.{Call}
use Rattle.tee_types.specs.declared.reply.Cause.{Cause}
use Rattle.tee_types.specs.declared.reply.Cause.TheVariants.{CardResult, Fault, Frame}
use Rattle.tee_types.specs.declared.reply.Device.{Device}
use Rattle.tee_types.specs.declared.reply.Device.TheVariants.{Card, Dir, Entropy, File}
use Rattle.tee_types.specs.declared.reply.Reply.{Reply}
use Rattle.tee_types.specs.declared.reply.Reply.TheVariants.{NotAvailable}
use Rattle.store_model.specs.declared.event.Event.{Event}
use Rattle.store_model.specs.declared.event.Event.TheVariants.{Call as CallEvent, Landed}
use Rattle.store_model.specs.declared.event.Mark.{Mark}
use Rattle.store_model.specs.declared.event.Mark.TheVariants.{Doubtful, Made, Unchanged}
use Rattle.store_model.specs.Doubt.{Doubt}
use Rattle.store_model.specs.Legal.{IsAnswered, IsLegalAnswer, IsLegalEvent, IsLegalFrom, IsSpent, mark_of}
use Rattle.store_model.specs.Legal.IsLegalAnswer.{Answered, Doubted, FoundCorrupt, Spent, Unavailable}
use Rattle.store_model.specs.Record.{Record, events_of, fault_in_reply, file_of}
use Rattle.store_model.specs.ReplayState.{ReplayState, keeps_doubt, replay_after, replay_after_call}
use Rattle.store_model.proofs.Sessions.{length-after}
use Rattle.quota_store.specs.Cards.{TellNoFrame}
use Rattle.quota_store.specs.DeviceCounts.{counts_of, draws_of, told_of}
use Rattle.object_calls.specs.OpeningArms.{IsOnBench}
use Rattle.run_acts.specs.Quiet.{AreOfMachine, IsOfMachine}

-- No reply of these events carries a count of a device of the bench, a frame, a result of the card, or a count of a session's generator.
pub record Untold (sessions : ℕ) (events : List Event) : Type 0 where
  pub counts : (device : Device) → IsOnBench device → counts_of device events ≡ []
  pub frames : TellNoFrame events
  pub draws : (session : ℕ) → session < sessions → draws_of session events ≡ []

none-append : {A : Type 0} (first then : List A) → first ++ then ≡ [] → then ≡ []
none-append [] then e = e
none-append (x ∷ first) then e = cc

none-cond : (own : Bool) (told then : List ℕ) → cond own (told ++ then) then ≡ [] → then ≡ []
none-cond true told then e = none-append told then e
none-cond false told then e = e

some-none : (count : ℕ) (counts : List ℕ) → count ∷ counts ≡ [] → ⊥
some-none count counts e = cc

module _ (sessions : ℕ) (session number : ℕ) (call : Call) (mark : Mark) (events : List Event) where
  -- no cause is carried
  no_cause : (reply : Reply) → Untold sessions (CallEvent session number call reply mark ∷ events) → session < sessions → ((n : ℕ) → fault_in_reply reply ≡ Some n → IsOnBench (File n))
      → (cause : Cause) → reply ≡ NotAvailable cause → ⊥
  no_cause (NotAvailable (Fault Dir count)) u below own cause is = some-none count (counts_of Dir events) (u.counts Dir tt)
  no_cause (NotAvailable (Fault Card count)) u below own cause is = some-none count (counts_of Card events) (u.counts Card tt)
  no_cause (NotAvailable (Fault (File n) count)) u below own cause is =
      some-none count (counts_of (File n) events)
      (subst (λ (b : Bool). cond b (count ∷ []) [] ++ counts_of (File n) events ≡ []) (eq-eqb n n refl) (u.counts (File n) (own n refl)))
  no_cause (NotAvailable (Fault Entropy count)) u below own cause is =
      some-none count (draws_of session events)
      (subst (λ (b : Bool). cond b (count ∷ draws_of session events) (draws_of session events) ≡ []) (eq-eqb session session refl) (u.draws session below))
  no_cause (NotAvailable (Frame fault)) u below own cause is = absurd (u.frames.0)
  no_cause (NotAvailable (CardResult result)) u below own cause is = absurd (u.frames.0)
  no_cause reply u below own cause is = cc

  behind_call : (reply : Reply) → Untold sessions (CallEvent session number call reply mark ∷ events) → Untold sessions events
  behind_call reply u = record {
    counts = λ device on. none-append (told_of device reply) (counts_of device events) (u.counts device on);
    frames = u.frames.1;
    draws = λ other below. none-cond (session == other) (told_of Entropy reply) (draws_of other events) (u.draws other below);
  }

not_doubtful : (due : Bool) (counter commit : ℕ) → Doubtful commit ≡ mark_of counter due → ⊥
not_doubtful true counter commit e = cc
not_doubtful false counter commit e = cc

kept_none : (keeps : Bool) (doubt : Option Doubt) → doubt ≡ None → ◌≡◌ {A = Option Doubt} (elim keeps [ true ↦ doubt | false ↦ None ]) None
kept_none true doubt none = none
kept_none false doubt none = refl

-- no doubt is left behind such an event
after_none : (s : ReplayState) (session : ℕ) (call : Call) (reply : Reply) (mark : Mark) (file : Option ℕ) → s.doubt ≡ None → IsAnswered s session call reply mark ⊎ IsSpent s session call reply mark
    → (replay_after_call s session call reply mark file).doubt ≡ None
after_none s session call reply Unchanged file none is = kept_none (keeps_doubt reply) s.doubt none
after_none s session call reply (Made commit) file none is = refl
after_none s session call reply (Doubtful commit) file none (inl answered) = absurd (not_doubtful _ s.counter commit answered.marked)
after_none s session call reply (Doubtful commit) file none (inr spent) = absurd (not_doubtful false 0 commit spent.marked)

none_among : (n : ℕ) → Contains [] n → ⊥
none_among n has = omega (arith, has.1)

-- a legal answer without a cause is the machine's
of_machine : (s : ReplayState) (session : ℕ) (call : Call) (reply : Reply) (mark : Mark) (file : Option ℕ) → ((cause : Cause) → reply ≡ NotAvailable cause → ⊥)
    → IsLegalAnswer [] s session call reply mark file → IsAnswered s session call reply mark ⊎ IsSpent s session call reply mark
of_machine s session call reply mark file none (Answered a) = inl a
of_machine s session call reply mark file none (Unavailable u) = absurd (none u.cause u.replied)
of_machine s session call reply mark file none (Doubted d) = absurd (none d.cause d.replied)
of_machine s session call reply mark file none (FoundCorrupt f) = absurd (none_among f.number f.not_honest)
of_machine s session call reply mark file none (Spent spent) = inr spent

some_doubt : (doubt : Doubt) → None ≡ Some doubt → ⊥
some_doubt doubt e = cc

step : (sessions : ℕ) (s : ReplayState) (event : Event) (file : Option ℕ) (events : List Event) → s.doubt ≡ None → length (s.state).sessions ≡ sessions → IsLegalEvent [] s event file
    → Untold sessions (event ∷ events) → ((n : ℕ) → file ≡ Some n → IsObjectFile n) → IsOfMachine s event × ((replay_after s event file).doubt ≡ None) × Untold sessions events
step sessions s (CallEvent session number call reply mark) file events idle many legal u own =
    let on : (n : ℕ) → fault_in_reply reply ≡ Some n → IsOnBench (File n) = λ n is. own n (legal.tagged.fault n is) in
    let none = no_cause sessions session number call mark events reply u (subst (λ (n : ℕ). session < n) many legal.declared) on in
    let is = of_machine s session call reply mark file none legal.answer in
    (is, after_none s session call reply mark file idle is, behind_call sessions session number call mark events reply u)
step sessions s (Landed commit) file events idle many legal u own = absurd (some_doubt legal.doubt (sym idle ∙ legal.is_open))

pub of_machine_all : {Root : Type 0} (sessions : ℕ) (s : ReplayState) (records : List (Record Root)) → s.doubt ≡ None → length (s.state).sessions ≡ sessions → IsLegalFrom [] s records
    → Untold sessions (events_of records) → ((r : Record Root) (n : ℕ) → Contains records r → file_of r ≡ Some n → IsObjectFile n) → AreOfMachine s records
of_machine_all sessions s [] idle many legal u own = tt
of_machine_all {Root} sessions s (r ∷ records) idle many legal u own =
    let first = step sessions s r.event (file_of r) (events_of records) idle many legal.0 u (λ n is. own r n (0, omega arith, refl) is) in (
      first.0,
      of_machine_all sessions (replay_after s r.event (file_of r)) records first.1 (length-after s r.event (file_of r) ∙ many) legal.1 first.2
          (λ x n has is. own x n (suc has.0, omega (arith, has.1), has.2) is),
    )
