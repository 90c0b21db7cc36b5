-- What always holds of a journal's history, over each of its calls.
use Rattle.std.proofs.Common.{◌≡◌, ℕ, true, false, true≢false, List, [], ◌∷◌, ◌++◌, length, Option, Some, None, unwrap_or, refl, sym, ap, ◌∙◌, subst, inl, inr, arith, length-append}
use Rattle.std.proofs.lemmas.Bool.{cases_Bool}
use Rattle.std.proofs.lemmas.List.{map-append}
use Rattle.atomic_table.specs.Seated.{TableId}
use Rattle.store_model.specs.declared.event.Event.{Event}
use Rattle.store_model.specs.declared.event.Event.TheVariants.{Call as CallEvent, Landed}
use Rattle.store_model.specs.declared.event.Mark.TheVariants.{Unchanged, Made, Doubtful}
use Rattle.store_model.specs.Record.{events_of}
use Rattle.history_seats.specs.Records.{HistoryRecord}
use Rattle.history_seats.specs.Settling.{HasMark, IsOpenDoubt, commits, is_landing}
use Rattle.history_seats.specs.Changes.{IsFitting, IsNextOf, doubt_dropped, landing_of, with_record, with_slot_out, without_pass, without_slot}
use Rattle.history_seats.specs.Views.{GateView, PassView, Sight, SlotView}
use Rattle.core_laws.specs.TamperScenarios.{TamperScenario}
use Rattle.core_laws.specs.Stores.{Store}
use Rattle.core_laws.specs.Answered.{AreAnswered, IsAnsweredAt, IsFairAt, IsFairHistory}
use Rattle.core_laws.specs.Mapped.{IsMappedBoth}
use Rattle.core_laws.proofs.Answers.{answered-front, answered-last, fair-snoc, nothing-fair}
use Rattle.core_laws.proofs.MapSteps.{dropped-both, landing-both}
use Rattle.core_laws.proofs.Openings.{opening_both}
use Rattle.core_laws.proofs.QuietEvents.{unchanged_keeps}
use Rattle.commit_gate.specs.Journals.{IsDoubtOf, IsJournal, IsJournalOf}
use Rattle.commit_gate.specs.Openings.{OpeningsAreJournals}

some_is : {A : Type 0} (o : Option A) (a b : A) → o ≡ Some a → unwrap_or o b ≡ a
some_is None a b e = absurd (cc (e))
some_is (Some x) a b e = cc

-- a call's event with mark Unchanged commits nothing, and any other commits
unchanged_or : (event : Event) → is_landing event ≡ false → commits event ≡ false → HasMark Unchanged event
unchanged_or (Landed commit) call quiet = absurd (true≢false call)
unchanged_or (CallEvent session number call reply Unchanged) is quiet = refl
unchanged_or (CallEvent session number call reply (Made commit)) is quiet = absurd (true≢false quiet)
unchanged_or (CallEvent session number call reply (Doubtful commit)) is quiet = absurd (true≢false quiet)

pub calls_next : (pass : PassView) (event : Event) → IsNextOf pass event → is_landing event ≡ false
calls_next pass (CallEvent session number call reply mark) next = refl
calls_next pass (Landed commit) next = absurd next

module _ (store : Store) (gate : GateView) (journal : IsJournal store gate) where
  pub slot_out-journal : (file : ℕ) → IsJournal store (with_slot_out store.mounted file gate)
  slot_out-journal file = record {
    mounted = ap Some (some_is gate.mounted store.mounted store.mounted journal.mounted);
    fair = journal.fair;
    in_step = journal.in_step;
  }

  pub without_slot-journal : (slot : SlotView) → IsJournal store (without_slot slot gate)
  without_slot-journal slot = record { mounted = journal.mounted; fair = journal.fair; in_step = journal.in_step }

  pub without_pass-journal : (pass : PassView) → IsJournal store (without_pass pass gate)
  without_pass-journal pass = record { mounted = journal.mounted; fair = journal.fair; in_step = journal.in_step }

  -- no doubt stands behind the last event
  pub dropped-journal : IsJournal store (doubt_dropped gate)
  dropped-journal = record {
    mounted = journal.mounted;
    fair = journal.fair;
    in_step = λ scenario answered.
        let both : IsMappedBoth store scenario gate.decided gate.all = journal.in_step scenario answered in
        record {
          now = both.now;
          landed = λ doubt is open_. absurd (past open_);
        };
  }
    where
      past : {commit : ℕ} → IsOpenDoubt commit (length gate.all) gate.all → ⊥
      past {commit = commit} open_ =
          let long : length (open_.front ++ open_.doubted ∷ open_.back) ≡ length gate.all = ap length open_.is in
          omega (arith, long, open_.late, length-append open_.front (open_.doubted ∷ open_.back))

  module _ (r : HistoryRecord) where
    -- an answered event of a call keeps the map in step
    kept-step : (scenario : TamperScenario) → is_landing r.event ≡ false → IsFitting gate r → IsAnsweredAt store scenario gate.all r → IsMappedBoth store scenario gate.decided gate.all
        → IsMappedBoth store scenario gate.decided (gate.all ++ r ∷ [])
    kept-step scenario call fitting answered both = elim (cases_Bool (commits r.event)) [ inl commits_ ↦ by_answer commits_ answered | inr quiet ↦ left (unchanged_or r.event call quiet) ]
      where
        left : HasMark Unchanged r.event → IsMappedBoth store scenario gate.decided (gate.all ++ r ∷ [])
        left unchanged = unchanged_keeps store scenario gate.decided gate.all r unchanged (fitting.right store.mounted journal.mounted) answered both

        by_answer : commits r.event ≡ true → IsAnsweredAt store scenario gate.all r → IsMappedBoth store scenario gate.decided (gate.all ++ r ∷ [])
        by_answer commits_ (inl legal) = dropped-both store scenario (gate.all ++ r ∷ []) 0 gate.decided (omega arith) (legal.kept commits_ both.now)
        by_answer commits_ (inr clash) = left (subst (HasMark Unchanged) (sym clash.told.given.is) clash.told.unchanged)

    pub next-journal : is_landing r.event ≡ false → IsFitting gate r → ((scenario : TamperScenario) → IsFairAt store scenario gate.all r) → IsJournal store (with_record r gate)
    next-journal call fitting fair = record {
      mounted = journal.mounted;
      fair = fair-snoc store gate.all r journal.fair fair;
      in_step = λ scenario answered.
          let before : AreAnswered store scenario gate.all = answered-front store scenario gate.all (r ∷ []) answered in
          kept-step scenario call fitting (answered-last store scenario gate.all r answered) (journal.in_step scenario before);
    }

  module _ (commit : ℕ) (open_ : IsOpenDoubt commit gate.decided gate.all) (held : IsDoubtOf store gate commit) where
    fair-landing : (scenario : TamperScenario) → IsFairAt store scenario gate.all (landing_of commit)
    fair-landing scenario answered owed =
        let doubt = held scenario answered in
        inl (inl (record {
          legal = record { doubt = doubt.0; is_open = doubt.1; number = sym doubt.2; untagged = refl };
          kept = λ commits_. absurd (true≢false (sym commits_));
        }))

    pub landed-journal : IsJournal store (with_record (landing_of commit) gate)
    landed-journal = record {
      mounted = journal.mounted;
      fair = fair-snoc store gate.all (landing_of commit) journal.fair fair-landing;
      in_step = λ scenario answered.
          let before : AreAnswered store scenario gate.all = answered-front store scenario gate.all (landing_of commit ∷ []) answered in
          let doubt = held scenario before in
          subst (λ (n : ℕ). IsMappedBoth store scenario gate.decided (gate.all ++ landing_of n ∷ [])) doubt.2
          (landing-both store scenario gate.all gate.decided gate.decided doubt.0 (journal.in_step scenario before) doubt.1
          (subst (λ (n : ℕ). IsOpenDoubt n gate.decided gate.all) (sym doubt.2) open_));
    }

-- the parts of a journal, with another view in its seat
pub renewed-parts : (store : Store) (table : TableId) (seat : Sight GateView) (events : List Event) (decided : ℕ) → IsJournalOf store table seat events decided
    → (knows : GateView) (events_after : List Event) (decided_after : ℕ) (seat_after : Sight GateView) → events_after ≡ events_of knows.all → decided_after ≡ knows.decided
    → IsJournal store knows → seat_after ≡ record seat { knows = knows } → IsJournalOf store table seat_after events_after decided_after
renewed-parts store table seat events decided was knows events_after decided_after seat_after events_are decided_is kept is =
    subst (λ (x : Sight GateView). IsJournalOf store table x events_after decided_after) (sym is)
    (record { table_is = was.table_is; seat_is = was.seat_is; events_are = events_are; decided_is = decided_is; kept = kept })

-- the events of a journal with one record more
pub more-events : (records : List HistoryRecord) (r : HistoryRecord) (event : Event) (events events_after : List Event) → events ≡ events_of records → r.event ≡ event
    → events_after ≡ events ++ event ∷ [] → events_after ≡ events_of (records ++ r ∷ [])
more-events records r event events events_after were is after =
    after ∙ ap (λ (l : List Event). l ++ event ∷ []) were ∙ ap (λ (e : Event). events_of records ++ e ∷ []) (sym is)
    ∙ sym (map-append (λ (x : HistoryRecord). x.event) records (r ∷ []))

-- without events
pub openings : OpeningsAreJournals
openings store gate mounted none opens apart = record {
  mounted = mounted;
  fair = subst (IsFairHistory store) (sym none) (nothing-fair store);
  in_step = λ scenario answered. subst (IsMappedBoth store scenario gate.decided) (sym none) (opening_both store scenario opens apart gate.decided);
}
