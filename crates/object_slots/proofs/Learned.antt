-- What a slot learns of its doubt, and of all else, once its seat sees the whole history.
use Rattle.std.proofs.Common.{◌≡◌, ◌+◌, ◌<◌, ◌≤◌, ℕ, List, ◌∷◌, ◌++◌, length, drop, nat_lt, Bool, true, false, true≢false, Option, Some, None, inl, inr, refl, sym, ap, ◌∙◌, subst, append_assoc, arith}
use Rattle.std.proofs.lemmas.Bool.{cases_Bool, cases_lt, cond-true, cond-false, le-ltb, lt-ltb}
use Rattle.disk_model.specs.State.{FileState}
use Rattle.hmac_keys.specs.declared.Keys.{Keys}
use Rattle.store_model.specs.declared.event.Event.{Event}
use Rattle.store_model.specs.declared.event.Event.TheVariants.{Call as CallEvent, Landed}
use Rattle.store_model.specs.declared.event.Mark.TheVariants.{Unchanged, Made, Doubtful}
use Rattle.history_seats.specs.Records.{HistoryRecord, IsUpToDate, Version}
use Rattle.store_model.specs.Record.{concerns_file}
use Rattle.history_seats.specs.Settling.{Pending, calm, dropped, open_from, settled, settling}
use Rattle.history_seats.specs.Changes.{seat_renewed, slot_renewed}
use Rattle.history_seats.specs.Rule.{SlotFits}
use Rattle.history_seats.specs.Views.{GateView, Sight, SlotView}
use Rattle.history_seats.proofs.KnownEntries.{calm-stays, entry_known, version-told}
use Rattle.history_seats.proofs.Doubts.{marked-settles}
use Rattle.history_seats.proofs.Places.{any-at, any-past, any_settles, open-calm, settling-none, settling-settles}
use Rattle.core_laws.proofs.SlotRuns.{renewed_holds}
use Rattle.core_laws.specs.Stores.{Store}
use Rattle.core_laws.proofs.Answers.{own_grows}
use Rattle.object_slots.specs.SlotCalls.{part}
use Rattle.object_slots.specs.SlotValues.{Holding, SlotValue, with_stage, without_stage}
use Rattle.object_slots.specs.KnownFor.{own_version}
use Rattle.object_slots.specs.GuardedSlots.{IsContentOf, IsInDoubt, SlotInvariant, IsSettled, IsSlotOf}
use Rattle.object_slots.specs.Learning.{SlotsLearn, decided_slot, learned}
use Rattle.object_slots.proofs.KnownVersions.{renewed_known}
use Rattle.object_slots.proofs.SlotDoubts.{drop_behind, none_past, settling_past}

abbrev pub renewed_seat : GateView → Sight SlotView → Sight SlotView
renewed_seat gate seat = record seat { knows = slot_renewed gate seat.knows }

-- the file's seat, once it sees the whole history
pub own_renewed : (store : Store) (gate : GateView) (number : ℕ) (file : FileState) (seat : Sight SlotView) → SlotFits gate seat.knows → IsSlotOf store number file seat
    → IsSlotOf store number file (renewed_seat gate seat)
own_renewed store gate number file seat fits own = record {
  table = own.table;
  mounted = own.mounted;
  own = own.own;
  holds = λ stage. renewed_holds store.keys gate (part file seat.knows stage) fits (own.holds stage);
  real = λ v known. own.real v (entry_known gate seat.knows fits v known);
  single = λ generation v known. own.single generation v (renewed_known gate seat.knows fits generation v known);
  told = own.told;
  masked = λ v known. own.masked v (entry_known gate seat.knows fits v known);
  legal = λ honest scenario off.
      (own_grows store scenario number).whole seat.knows.seen gate.all
      (subst (λ (n : ℕ). IsUpToDate (concerns_file n) seat.knows.seen gate.all) own.own fits.sees.begins) (own.legal honest scenario off);
}

settled_content : (keys : Keys) (gate : GateView) (file : FileState) (view : SlotView) (holds : Holding) → SlotFits gate view → IsSettled keys file view holds
    → IsSettled keys file (slot_renewed gate view) holds
settled_content keys gate file view holds fits is = record { version = is.version; gives = calm-stays gate view fits is.version is.gives; holding = is.holding }

-- a slot that is in doubt, by what settled the doubt
module _ (keys : Keys) (gate : GateView) (number : ℕ) (file : FileState) (view : SlotView) (holds : Holding) (place : ℕ) (fits : SlotFits gate view) (is : IsInDoubt keys file view holds place) where
  abbrev rest : List HistoryRecord
  rest = fits.sees.begins.rest

  abbrev now : SlotView
  now = slot_renewed gate view

  abbrev mine : Pending (Option Version)
  mine = record { now = is.committed; if_landed = Some is.doubted }

  -- the history, from the doubtful event on
  whole : is.doubt.front ++ is.doubt.doubted ∷ (is.doubt.back ++ rest) ≡ gate.all
  whole =
      sym (append_assoc is.doubt.front (is.doubt.doubted ∷ is.doubt.back) rest)
      ∙ ap (λ (l : List HistoryRecord). l ++ rest) is.doubt.is
      ∙ fits.sees.begins.is

  -- what settles behind it settles past the view
  pub behind : settling (drop (place + 1) gate.all) ≡ settling rest
  behind =
      (λ i. settling (drop (sym is.at i + 1) (sym whole i)))
      ∙ ap settling (drop_behind is.doubt.front is.doubt.doubted (is.doubt.back ++ rest))
      ∙ settling_past is.doubt.back rest is.doubt.last

  told : own_version now ≡ open_from gate.decided gate.all (settled (settling rest) mine)
  told = version-told gate view fits ∙ ap (λ (p : Pending (Option Version)). open_from gate.decided gate.all (settled (settling rest) p)) is.gives

  by_event : (event : Option Event) → settling rest ≡ event → own_version now ≡ open_from gate.decided gate.all (settled event mine)
  by_event event same = told ∙ ap (λ (e : Option Event). open_from gate.decided gate.all (settled e mine)) same

  was_dropped : own_version now ≡ calm is.committed → IsSettled keys file now (without_stage holds)
  was_dropped gives = record { version = is.committed; gives = gives; holding = is.before }

  has_landed : own_version now ≡ calm is.doubted → IsSettled keys file now (with_stage holds)
  has_landed gives = record { version = is.doubted; gives = gives; holding = is.after }

  off_behind : settling rest ≡ None → any_settles (is.doubt.back ++ rest) ≡ false
  off_behind none = none_past is.doubt.back rest is.doubt.last (settling-none rest none)

  -- nothing settled it, and it stands below the gate's place
  below : settling rest ≡ None → place < gate.decided → own_version now ≡ calm is.committed
  below none low =
      let quiet : any_settles (drop gate.decided gate.all) ≡ false = elim (cases_Bool (any_settles (drop gate.decided gate.all))) [
        | inr off ↦ off
        | inl some_ ↦
            let there : any_settles (drop gate.decided (is.doubt.front ++ is.doubt.doubted ∷ (is.doubt.back ++ rest))) ≡ true =
            subst (λ (l : List HistoryRecord). any_settles (drop gate.decided l) ≡ true) (sym whole) some_ in
            absurd (true≢false (sym (any-past gate.decided is.doubt.front is.doubt.doubted (is.doubt.back ++ rest) (omega (arith, low, is.at)) there) ∙ off_behind none))
      ] in
      by_event None none ∙ cond-false (any_settles (drop gate.decided gate.all)) mine (dropped mine) quiet

  -- or it is open still
  still_open : settling rest ≡ None → gate.decided ≤ place → IsInDoubt keys file now holds place
  still_open none late =
      let low : gate.decided ≤ length is.doubt.front = omega (arith, late, is.at) in
      let there : any_settles (drop gate.decided gate.all) ≡ true =
      subst (λ (l : List HistoryRecord). any_settles (drop gate.decided l) ≡ true) whole
      (any-at gate.decided is.doubt.front is.doubt.doubted (is.doubt.back ++ rest) low (marked-settles is.commit is.doubt.doubted.event is.doubt.marked)) in
      record {
        committed = is.committed;
        doubted = is.doubted;
        gives = by_event None none ∙ cond-true (any_settles (drop gate.decided gate.all)) mine (dropped mine) there;
        commit = is.commit;
        doubt = record {
          front = is.doubt.front;
          doubted = is.doubt.doubted;
          back = is.doubt.back ++ rest;
          is = whole;
          marked = is.doubt.marked;
          last = off_behind none;
          late = low;
        };
        at = is.at;
        named = is.named;
        before = is.before;
        after = is.after;
      }

module _ (store : Store) (gate : GateView) (slot : SlotValue) (seat : Sight SlotView) (fits : SlotFits gate seat.knows) (own : IsSlotOf store slot.number slot.file seat) where
  abbrev Guarded : SlotValue → Type 0
  Guarded s = SlotInvariant store s

  abbrev seen : SlotValue
  seen = record slot { seat = Some (renewed_seat gate seat) }

  abbrev whole_view : SlotView
  whole_view = slot_renewed gate seat.knows

  lock : (holds : Holding) (doubt : Option ℕ) → IsContentOf store.keys slot.file whole_view holds doubt → Guarded (record seen { holds = holds; doubt = doubt })
  lock holds doubt content = record { seat = renewed_seat gate seat; is = refl; own = own_renewed store gate slot.number slot.file seat fits own; content = content }

  decided : (place : ℕ) (is : IsInDoubt store.keys slot.file seat.knows slot.holds place) (event : Option Event) → settling fits.sees.begins.rest ≡ event → slot.doubt ≡ Some place
      → Guarded (decided_slot event (nat_lt place gate.decided) seen)
  decided place is None none doubt = elim (cases_lt place gate.decided) [
    | inl low ↦
        subst (λ (b : Bool). Guarded (decided_slot None b seen)) (sym (lt-ltb place gate.decided low))
        (lock (without_stage slot.holds) None
        (was_dropped store.keys gate slot.number slot.file seat.knows slot.holds place fits is (below store.keys gate slot.number slot.file seat.knows slot.holds place fits is none low)))
    | inr late ↦
        subst (λ (b : Bool). Guarded (decided_slot None b seen)) (sym (le-ltb place gate.decided late))
        (subst (λ (d : Option ℕ). Guarded (record seen { doubt = d })) (sym doubt)
        (lock slot.holds (Some place) (still_open store.keys gate slot.number slot.file seat.knows slot.holds place fits is none late)))
  ]
  decided place is (Some (CallEvent session number call reply Unchanged)) at doubt = absurd (true≢false (sym (settling-settles fits.sees.begins.rest (CallEvent session number call reply Unchanged) at)))
  decided place is (Some (CallEvent session number call reply (Made commit))) at doubt =
      lock (without_stage slot.holds) None
      (was_dropped store.keys gate slot.number slot.file seat.knows slot.holds place fits is
      (by_event store.keys gate slot.number slot.file seat.knows slot.holds place fits is (Some (CallEvent session number call reply (Made commit))) at ∙ open-calm gate.decided gate.all is.committed))
  decided place is (Some (CallEvent session number call reply (Doubtful commit))) at doubt =
      lock (without_stage slot.holds) None
      (was_dropped store.keys gate slot.number slot.file seat.knows slot.holds place fits is
      (by_event store.keys gate slot.number slot.file seat.knows slot.holds place fits is (Some (CallEvent session number call reply (Doubtful commit))) at ∙ open-calm gate.decided gate.all is.committed))
  decided place is (Some (Landed commit)) at doubt =
      lock (with_stage slot.holds) None
      (has_landed store.keys gate slot.number slot.file seat.knows slot.holds place fits is
      (by_event store.keys gate slot.number slot.file seat.knows slot.holds place fits is (Some (Landed commit)) at ∙ open-calm gate.decided gate.all is.doubted))

  by_doubt : (doubt : Option ℕ) → slot.doubt ≡ doubt → IsContentOf store.keys slot.file seat.knows slot.holds doubt → Guarded (learned gate doubt seen)
  by_doubt None none content = subst (λ (d : Option ℕ). Guarded (record seen { doubt = d })) (sym none) (lock slot.holds None (settled_content store.keys gate slot.file seat.knows slot.holds fits content))
  by_doubt (Some place) doubt content =
      subst (λ (e : Option Event). Guarded (decided_slot e (nat_lt place gate.decided) seen)) (sym (behind store.keys gate slot.number slot.file seat.knows slot.holds place fits content))
      (decided place content (settling fits.sees.begins.rest) refl doubt)

pub slots_learn : SlotsLearn
slots_learn store gate slot seat is fits guarded =
    let same : Some guarded.seat ≡ Some seat = sym guarded.is ∙ is in
    let one : guarded.seat ≡ seat = cc (same) in
    let own : IsSlotOf store slot.number slot.file seat = subst (IsSlotOf store slot.number slot.file) one guarded.own in
    let content : IsContentOf store.keys slot.file seat.knows slot.holds slot.doubt = subst (λ (s : Sight SlotView). IsContentOf store.keys slot.file s.knows slot.holds slot.doubt) one guarded.content in
    subst (λ (s : Option (Sight SlotView)). SlotInvariant store (learned gate slot.doubt (record slot { seat = seat_renewed gate s }))) (sym is)
    (by_doubt store gate slot seat fits own slot.doubt refl content)
