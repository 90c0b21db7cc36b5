-- What the events that a slot saw carry for its file, as the slot sees more of them and as its file is called.
use Rattle.std.proofs.Common.{◌≡◌, ◌==◌, ◌||◌, ◌++◌, ◌∷◌, [], ℕ, List, Some, Bool, true, false, true≢false, cond, refl, ap, ◌∙◌, append-nil, inl, inr, subst, sym}
use Rattle.std.specs.List.{list_any}
use Rattle.std.proofs.lemmas.Bool.{eqb-true}
use Rattle.std.proofs.lemmas.List.{map-append}
use Rattle.std.proofs.lemmas.List.Elements.{All-head, All-tail}
use Rattle.disk_model.specs.Calls.{GoesOn}
use Rattle.disk_model.specs.Faults.{Rose}
use Rattle.disk_model.specs.State.{FileState}
use Rattle.disk_model.proofs.Goings.{goes_on_then}
use Rattle.tee_types.specs.Limits.{IsObjectFile}
use Rattle.history_seats.specs.Records.{HistoryRecord}
use Rattle.history_seats.specs.Tags.{AreTagged, HasDueTag, faulty_file}
use Rattle.history_seats.specs.Views.{GateView, Sight, SlotView}
use Rattle.serial_calls.specs.Fits.{FitsGate, SeesWhole}
use Rattle.serial_calls.specs.GuardedSlots.{SlotInvariant}
use Rattle.serial_calls.specs.SlotValues.{SlotValue}
use Rattle.store_model.specs.Record.{concerns_file, events_of, fault_in_reply}
use Rattle.store_model.specs.declared.event.Event.{Event}
use Rattle.store_model.specs.declared.event.Event.TheVariants.{Call as CallEvent, Landed}
use Rattle.store_model.specs.declared.event.Mark.{Mark}
use Rattle.serial_calls.specs.Stores.{Store}
use Rattle.tee_types.specs.declared.call.Call.{Call}
use Rattle.tee_types.specs.declared.reply.Cause.TheVariants.{CardResult, Fault, Frame}
use Rattle.tee_types.specs.declared.reply.Device.TheVariants.{Card, Dir, Entropy, File}
use Rattle.tee_types.specs.declared.reply.Reply.{Reply}
use Rattle.tee_types.specs.declared.reply.Reply.TheVariants.{NotAvailable}
use Rattle.serial_calls.specs.DeviceCounts.{Rise, counts_of, told_of}
use Rattle.serial_calls.specs.Devices.{Devices, Grows}
use Rattle.serial_calls.proofs.CarriedCounts.{counts_of-append}
use Rattle.serial_calls.proofs.CountGrowth.{grows_rose}
use Rattle.serial_calls.proofs.Rises.{Rise-append}
use Rattle.serial_calls.proofs.MoreRecords.{events_more}
use Rattle.shared_calls.specs.Kept.{KeepsSlot}

-- EVENTS OF OTHER FILES
or-none : (a b : Bool) → (a || b) ≡ false → (a ≡ false) × (b ≡ false)
or-none true b none = absurd (true≢false none)
or-none false b none = (refl, none)

told-other : (file : ℕ) (reply : Reply) → (fault_in_reply reply ≡ Some file → ⊥) → told_of (File file) reply ≡ []
told-other file (NotAvailable (Fault (File m) count)) other = by_test (file == m) refl
  where
    by_test : (b : Bool) → (file == m) ≡ b → cond b (count ∷ []) [] ≡ []
    by_test true same = absurd (other (ap Some (sym (eqb-true file m same))))
    by_test false other_file = refl
told-other file (NotAvailable (Fault Dir count)) other = refl
told-other file (NotAvailable (Fault Card count)) other = refl
told-other file (NotAvailable (Fault Entropy count)) other = refl
told-other file (NotAvailable (Frame fault)) other = refl
told-other file (NotAvailable (CardResult result)) other = refl
told-other file reply other = refl

counts-other : (file : ℕ) (event : Event) (events : List Event) → (faulty_file event ≡ Some file → ⊥) → counts_of (File file) events ≡ [] → counts_of (File file) (event ∷ events) ≡ []
counts-other file (CallEvent session number call reply mark) events other none = λ i. told-other file reply other i ++ none i
counts-other file (Landed commit) events other none = none

counts-lacking : (file : ℕ) (records : List HistoryRecord) → AreTagged records → list_any (concerns_file file) records ≡ false → counts_of (File file) (events_of records) ≡ []
counts-lacking file [] tagged lacks = refl
counts-lacking file (r ∷ records) tagged lacks =
    let none = or-none (concerns_file file r) (list_any (concerns_file file) records) lacks in
    counts-other file r.event (events_of records) (λ is. true≢false (sym ((All-head HasDueTag r records tagged).fault file is) ∙ none.0))
    (counts-lacking file records (All-tail HasDueTag r records tagged) none.1)

tagged-behind : (seen rest : List HistoryRecord) → AreTagged (seen ++ rest) → AreTagged rest
tagged-behind [] rest tagged = tagged
tagged-behind (r ∷ seen) rest tagged = tagged-behind seen rest (All-tail HasDueTag r (seen ++ rest) tagged)

-- what a file's slot saw carries all counts of the file
pub counts-seen : (file : ℕ) (seen rest all : List HistoryRecord) → seen ++ rest ≡ all → AreTagged all → list_any (concerns_file file) rest ≡ false
    → counts_of (File file) (events_of all) ≡ counts_of (File file) (events_of seen)
counts-seen file seen rest all is tagged lacks =
    ap (λ (l : List HistoryRecord). counts_of (File file) (events_of l)) (sym is)
    ∙ ap (counts_of (File file)) (map-append (λ (r : HistoryRecord). r.event) seen rest)
    ∙ counts_of-append (File file) (events_of seen) (events_of rest)
    ∙ ap (λ counts. counts_of (File file) (events_of seen) ++ counts) (counts-lacking file rest (tagged-behind seen rest (subst AreTagged (sym is) tagged)) lacks)
    ∙ append-nil (counts_of (File file) (events_of seen))

-- FEWER COUNTS
Rose-grows : (a b c : ℕ) → Rose a b → Grows b c → Rose a c
Rose-grows a b c rose (inl same) = subst (λ n. Rose a n) (sym same) rose
Rose-grows a b c rose (inr more) = grows_rose a b c (inr rose) more

pub Rise-grows : (a b : ℕ) (counts : List ℕ) → Rise a b counts → Grows a b
Rise-grows a b [] rise = rise
Rise-grows a b (count ∷ counts) rise = inr (Rose-grows a count b rise.0 (Rise-grows count b counts rise.1))

Rise-front : (a b : ℕ) (first then : List ℕ) → Rise a b (first ++ then) → Rise a b first
Rise-front a b [] then rise = Rise-grows a b then rise
Rise-front a b (count ∷ first) then rise = (rise.0, Rise-front count b first then rise.1)

-- SLOTS
some-same : {A : Type 0} (x y : A) → Some x ≡ Some y → x ≡ y
some-same x y is = cc

whole-seen : (gate : GateView) (slot : SlotValue) → SeesWhole gate slot → (seat : Sight SlotView) → slot.seat ≡ Some seat → seat.knows.seen ≡ gate.all
whole-seen gate slot sees seat is =
    let same : sees.seat ≡ seat = some-same sees.seat seat (sym sees.is ∙ is) in
    ap (λ (s : Sight SlotView). s.knows.seen) (sym same) ∙ ap (λ (v : SlotView). v.seen) (sym sees.whole)

-- the seat of a slot that may stand behind its lock is of its file
pub own-file : (store : Store) (slot : SlotValue) → SlotInvariant store slot → (seat : Sight SlotView) → slot.seat ≡ Some seat → seat.knows.file ≡ slot.number
own-file store slot guarded seat is = ap (λ (s : Sight SlotView). s.knows.file) (some-same seat guarded.seat (sym is ∙ guarded.is)) ∙ guarded.own.own

module _ (before : Devices) where
  abbrev Keeps : SlotValue → List ℕ → Type 0
  Keeps slot then = KeepsSlot before slot then

  -- the counts that are seen and then these, of another slot whose file has the same number
  abbrev RiseIn : (number to : ℕ) → (seen : List HistoryRecord) → (then : List ℕ) → Type 0
  RiseIn number to seen then = Rise (before.file number).faults to (counts_of (File number) (events_of seen) ++ then)

  -- a reply that is not appended
  pub keeps-untold : (slot : SlotValue) (then : List ℕ) → Keeps slot then → Keeps slot []
  keeps-untold slot then k = record {
    object = k.object;
    goes_on = k.goes_on;
    counted = λ seat is.
        let seen : List ℕ = counts_of (File slot.number) (events_of seat.knows.seen) in
        subst (Rise (before.file slot.number).faults slot.file.faults) (sym (append-nil seen)) (Rise-front (before.file slot.number).faults slot.file.faults seen then (k.counted seat is));
  }

  module _ (old new : SlotValue) (number : new.number ≡ old.number) where
    -- the slot of the same file, which saw the same
    pub keeps-moved : (then : List ℕ) → new.file ≡ old.file → new.seat ≡ old.seat → Keeps old then → Keeps new then
    keeps-moved then file seat k = record {
      object = subst IsObjectFile (sym number) k.object;
      goes_on = subst (λ (p : ℕ × FileState). GoesOn (before.file p.0) p.1) (λ i. (sym number i, sym file i)) k.goes_on;
      counted = λ s is.
          subst (λ (p : ℕ × FileState). RiseIn p.0 (p.1).faults s.knows.seen then) (λ i. (sym number i, sym file i)) (k.counted s (sym seat ∙ is));
    }

    -- its file was called, and counted these
    pub keeps-called : (told : List ℕ) → new.seat ≡ old.seat → GoesOn old.file new.file → Rise old.file.faults new.file.faults told → Keeps old [] → Keeps new told
    keeps-called told seat goes rise k = record {
      object = subst IsObjectFile (sym number) k.object;
      goes_on = subst (λ (n : ℕ). GoesOn (before.file n) new.file) (sym number) (goes_on_then (before.file old.number) old.file new.file k.goes_on goes);
      counted = λ s is.
          let seen : List ℕ = counts_of (File old.number) (events_of s.knows.seen) in
          let was : Rise (before.file old.number).faults old.file.faults seen =
          subst (Rise (before.file old.number).faults old.file.faults) (append-nil seen) (k.counted s (sym seat ∙ is)) in
          subst (λ (n : ℕ). RiseIn n new.file.faults s.knows.seen told) (sym number) (Rise-append (before.file old.number).faults old.file.faults new.file.faults seen told was rise);
    }

    module _ (file : new.file ≡ old.file) where
      goes_on_still : (then : List ℕ) → Keeps old then → GoesOn (before.file new.number) new.file
      goes_on_still then k = subst (λ (p : ℕ × FileState). GoesOn (before.file p.0) p.1) (λ i. (sym number i, sym file i)) k.goes_on

      -- it was shown the whole history
      pub keeps-shown : (gate : GateView) (then : List ℕ) → FitsGate gate old → ((seat : Sight SlotView) → old.seat ≡ Some seat → seat.knows.file ≡ old.number) → SeesWhole gate new
          → Keeps old then → Keeps new then
      keeps-shown gate then agreed own sees k = record {
        object = subst IsObjectFile (sym number) k.object;
        goes_on = goes_on_still then k;
        counted = λ seat is.
            let begins = agreed.fits.sees.begins in
            let lacks : list_any (concerns_file old.number) begins.rest ≡ false =
            subst (λ (n : ℕ). list_any (concerns_file n) begins.rest ≡ false) (own agreed.seat agreed.is) begins.lacks in
            let same : counts_of (File old.number) (events_of gate.all) ≡ counts_of (File old.number) (events_of agreed.seat.knows.seen) =
            counts-seen old.number agreed.seat.knows.seen begins.rest gate.all begins.is agreed.sound.tagged lacks in
            let all : RiseIn old.number old.file.faults gate.all then =
            subst (λ (c : List ℕ). Rise (before.file old.number).faults old.file.faults (c ++ then)) (sym same) (k.counted agreed.seat agreed.is) in
            subst (λ (p : ℕ × FileState). RiseIn p.0 (p.1).faults seat.knows.seen then) (λ i. (sym number i, sym file i))
            (subst (λ (l : List HistoryRecord). RiseIn old.number old.file.faults l then) (sym (whole-seen gate new sees seat is)) all);
      }

      -- both saw the whole history
      pub keeps-seen : (gate : GateView) (then : List ℕ) → SeesWhole gate old → SeesWhole gate new → Keeps old then → Keeps new then
      keeps-seen gate then saw sees k = record {
        object = subst IsObjectFile (sym number) k.object;
        goes_on = goes_on_still then k;
        counted = λ seat is.
            let rise : RiseIn old.number old.file.faults gate.all then =
            subst (λ (l : List HistoryRecord). RiseIn old.number old.file.faults l then) (whole-seen gate old saw saw.seat saw.is) (k.counted saw.seat saw.is) in
            subst (λ (p : ℕ × FileState). RiseIn p.0 (p.1).faults seat.knows.seen then) (λ i. (sym number i, sym file i))
            (subst (λ (l : List HistoryRecord). RiseIn old.number old.file.faults l then) (sym (whole-seen gate new sees seat is)) rise);
      }

      -- the reply was appended
      pub keeps-answered : (was now : GateView) (last : HistoryRecord) (session event : ℕ) (call : Call) (reply : Reply) (mark : Mark) → SeesWhole was old → SeesWhole now new
          → now.all ≡ was.all ++ last ∷ [] → last.event ≡ CallEvent session event call reply mark → Keeps old (told_of (File old.number) reply) → Keeps new []
      keeps-answered was now last session event call reply mark saw sees all is_event k = record {
        object = subst IsObjectFile (sym number) k.object;
        goes_on = goes_on_still (told_of (File old.number) reply) k;
        counted = λ seat is.
            let seen : List ℕ = counts_of (File old.number) (events_of was.all) in
            let told : List ℕ = told_of (File old.number) reply in
            let carried : counts_of (File old.number) (events_of now.all) ++ [] ≡ seen ++ told =
            append-nil (counts_of (File old.number) (events_of now.all))
            ∙ ap (λ (l : List HistoryRecord). counts_of (File old.number) (events_of l)) all
            ∙ ap (counts_of (File old.number)) (events_more was.all last)
            ∙ counts_of-append (File old.number) (events_of was.all) (last.event ∷ [])
            ∙ ap (λ (e : Event). seen ++ counts_of (File old.number) (e ∷ [])) is_event
            ∙ ap (λ (l : List ℕ). seen ++ l) (append-nil told) in
            let rise : RiseIn old.number old.file.faults was.all told =
            subst (λ (l : List HistoryRecord). RiseIn old.number old.file.faults l told) (whole-seen was old saw saw.seat saw.is) (k.counted saw.seat saw.is) in
            subst (λ (p : ℕ × FileState). RiseIn p.0 (p.1).faults seat.knows.seen []) (λ i. (sym number i, sym file i))
            (subst (λ (l : List HistoryRecord). RiseIn old.number old.file.faults l []) (sym (whole-seen now new sees seat is))
            (subst (Rise (before.file old.number).faults old.file.faults) (sym carried) rise));
      }
