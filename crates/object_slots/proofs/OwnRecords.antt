-- What an event of a slot's own object leaves of the slot.
use Rattle.std.proofs.Common.{◌≡◌, ◌≤◌, ℕ, List, [], ◌∷◌, ◌++◌, length, drop, true, false, ◌==◌, Option, Some, None, inl, inr, refl, sym, ap, ◌∙◌, subst, append_assoc, arith}
use Rattle.std.proofs.lemmas.Bool.{cond-true, eq-eqb}
use Rattle.disk_model.specs.State.{FileState}
use Rattle.hmac_keys.specs.declared.Keys.{Keys}
use Rattle.store_model.specs.declared.event.Event.{Event}
use Rattle.store_model.specs.declared.event.Event.TheVariants.{Call as CallEvent, Landed}
use Rattle.store_model.specs.declared.event.Mark.{Mark}
use Rattle.store_model.specs.declared.event.Mark.TheVariants.{Unchanged, Made, Doubtful}
use Rattle.store_model.specs.Record.{Tag, concerns_file}
use Rattle.history_seats.specs.Records.{HistoryRecord, IsUpToDate, Version, concerns_object}
use Rattle.history_seats.specs.Settling.{HasMark, Pending, calm, dropped, open_from, settled_by, settles}
use Rattle.history_seats.specs.Versions.{version_after, version_of}
use Rattle.history_seats.specs.Changes.{TagVersions, slot_renewed}
use Rattle.history_seats.specs.Views.{GateView, Sight, SlotView}
use Rattle.history_seats.proofs.Givens.{version-snoc}
use Rattle.history_seats.proofs.KnownEntries.{entry_known}
use Rattle.history_seats.proofs.Doubts.{marked-settles}
use Rattle.history_seats.proofs.Lists.{both_true, or_false}
use Rattle.history_seats.proofs.OpenDoubts.{unchanged-settles}
use Rattle.history_seats.proofs.Places.{any-at, any_settles, open-calm, open-now, open-snoc}
use Rattle.core_laws.proofs.OwnEvents.{known_after, own_events_keep}
use Rattle.core_laws.specs.Stores.{Store}
use Rattle.core_laws.proofs.Answers.{own_grows}
use Rattle.object_slots.specs.SlotCalls.{part}
use Rattle.object_slots.specs.SlotValues.{Holding}
use Rattle.object_slots.specs.KnownFor.{own_version}
use Rattle.object_slots.specs.GuardedSlots.{IsContentOf, IsSlotOf}
use Rattle.object_slots.specs.OwnEvents.{DoubtfulEventsKeepSlots, IsOwnEvent, MadeEventsKeepSlots, UnchangedEventsKeepSlots, own_record, seat_after}
use Rattle.object_slots.proofs.KnownVersions.{known_before, renewed_known}
use Rattle.object_slots.proofs.SlotDoubts.{none_past}

-- The event, as its record is appended.
module _ (store : Store) (gate : GateView) (number : ℕ) (file : FileState) (seat : Sight SlotView) (event : Event) (versions : TagVersions) (own : IsOwnEvent store gate number file seat event versions) where
  abbrev view : SlotView
  view = seat.knows

  abbrev own_tag : Tag Version
  own_tag = record { file = view.file; generation = view.generation; committed = versions.committed; doubted = versions.doubted }

  abbrev r : HistoryRecord
  r = own_record seat event versions

  abbrev after : List HistoryRecord
  after = gate.all ++ r ∷ []

  abbrev later : Sight SlotView
  later = seat_after gate seat event versions

  within : gate.decided ≤ length gate.all
  within = own.sound.decided_within

  named : concerns_object view.file view.generation r ≡ true
  named = both_true (view.file == view.file) (view.generation == view.generation) (eq-eqb view.file view.file refl) (eq-eqb view.generation view.generation refl)

  abbrev before : Pending (Option Version)
  before = version_of view.file view.generation view.mounted gate.all

  -- the event's tag says what stands
  version_now : version_of view.file view.generation view.mounted after ≡ version_after event (Some own_tag) before
  version_now =
      version-snoc view.file view.generation view.mounted gate.all r
      ∙ cond-true (concerns_object view.file view.generation r) (version_after event (Some own_tag) before) (settled_by event before) named

  pub own_after : IsSlotOf store number file seat → IsSlotOf store number file later
  own_after was = record {
    table = was.table;
    mounted = was.mounted;
    own = was.own;
    holds = λ stage. own_events_keep store.keys gate (part file view stage) event versions own.sound own.fits own.on_a_call own.right own.stands (was.holds stage);
    real = λ v known. elim (known_after view.mounted gate.all gate.decided within view.file view.generation versions event own.on_a_call own.right v known) [
      | inl old ↦ was.real v (entry_known gate view own.fits v old)
      | inr new ↦ own.real v new
    ];
    single = λ generation v known. elim (known_before view.mounted gate.all gate.decided within view.file view.generation versions generation v event own.on_a_call own.right known) [
      | inl same ↦ sym same
      | inr old ↦ was.single generation v (renewed_known gate view own.fits generation v old)
    ];
    told = was.told;
    masked = λ v known. elim (known_after view.mounted gate.all gate.decided within view.file view.generation versions event own.on_a_call own.right v known) [
      | inl old ↦ was.masked v (entry_known gate view own.fits v old)
      | inr new ↦ own.masked v new
    ];
    legal = λ honest scenario off.
        let grows = own_grows store scenario number in
        grows.more gate.all r
        (grows.whole view.seen gate.all (subst (λ (n : ℕ). IsUpToDate (concerns_file n) view.seen gate.all) was.own own.fits.sees.begins) (was.legal honest scenario off))
        (λ tagged answered. own.legal honest scenario off answered);
  }

  -- what the view leaves of the slot's own version, by the mark
  abbrev left : Pending (Option Version)
  left = own_version later.knows

  made_gives : (commit : ℕ) → HasMark (Made commit) event → left ≡ calm versions.committed
  made_gives commit marked =
      ap (open_from gate.decided after) (version_now ∙ by_mark event marked) ∙ open-calm gate.decided after versions.committed
    where
      by_mark : (e : Event) → HasMark (Made commit) e → version_after e (Some own_tag) before ≡ calm versions.committed
      by_mark (CallEvent session number call reply mark) is = ap (λ (m : Mark). version_after (CallEvent session number call reply m) (Some own_tag) before) is
      by_mark (Landed n) is = absurd is

  doubtful_gives : (commit : ℕ) → HasMark (Doubtful commit) event → left ≡ record { now = versions.committed; if_landed = Some versions.doubted }
  doubtful_gives commit marked =
      let p : Pending (Option Version) = record { now = versions.committed; if_landed = Some versions.doubted } in
      ap (open_from gate.decided after) (version_now ∙ by_mark event marked)
      ∙ cond-true (any_settles (drop gate.decided after)) p (dropped p) (any-at gate.decided gate.all r [] within (marked-settles commit event marked))
    where
      by_mark : (e : Event) → HasMark (Doubtful commit) e → version_after e (Some own_tag) before ≡ record { now = versions.committed; if_landed = Some versions.doubted }
      by_mark (CallEvent session number call reply mark) is = ap (λ (m : Mark). version_after (CallEvent session number call reply m) (Some own_tag) before) is
      by_mark (Landed n) is = absurd is

  unchanged_gives : HasMark Unchanged event → versions.committed ≡ before.now → left ≡ open_from gate.decided gate.all before
  unchanged_gives marked same =
      ap (open_from gate.decided after) (version_now ∙ by_mark event marked)
      ∙ open-snoc gate.decided gate.all r before (unchanged-settles event marked) within
    where
      by_mark : (e : Event) → HasMark Unchanged e → version_after e (Some own_tag) before ≡ before
      by_mark (CallEvent session number call reply mark) is =
          ap (λ (m : Mark). version_after (CallEvent session number call reply m) (Some own_tag) before) is
          ∙ ap (λ (v : Option Version). record { now = v; if_landed = before.if_landed }) same
      by_mark (Landed n) is = absurd is

-- The three kinds of events.
pub made_keep : MadeEventsKeepSlots
made_keep store gate slot seat event versions commit holds was own marked held = record {
  seat = seat_after gate seat event versions;
  is = refl;
  own = own_after store gate slot.number slot.file seat event versions own was;
  content = record { version = versions.committed; gives = made_gives store gate slot.number slot.file seat event versions own commit marked; holding = held };
}

pub doubtful_keep : DoubtfulEventsKeepSlots
doubtful_keep store gate slot seat event versions commit was own marked old new = record {
  seat = seat_after gate seat event versions;
  is = refl;
  own = own_after store gate slot.number slot.file seat event versions own was;
  content = record {
    committed = versions.committed;
    doubted = versions.doubted;
    gives = doubtful_gives store gate slot.number slot.file seat event versions own commit marked;
    commit = commit;
    doubt = record { front = gate.all; doubted = own_record seat event versions; back = []; is = refl; marked = marked; last = refl; late = within store gate slot.number slot.file seat event versions own };
    at = refl;
    named = named store gate slot.number slot.file seat event versions own;
    before = old;
    after = new;
  };
}

-- what is held behind an event that changes nothing
module _ (keys : Keys) (store : Store) (gate : GateView) (number : ℕ) (file : FileState) (seat : Sight SlotView) (event : Event) (versions : TagVersions) (own : IsOwnEvent store gate number file seat event versions)
    (all : slot_renewed gate seat.knows ≡ seat.knows) (marked : HasMark Unchanged event) (same : versions.committed ≡ (own_version seat.knows).now) (holds : Holding) where
  gives_still : own_version (seat_after gate seat event versions).knows ≡ own_version seat.knows
  gives_still =
      let stood : Pending (Option Version) = version_of seat.knows.file seat.knows.generation seat.knows.mounted gate.all in
      unchanged_gives store gate number file seat event versions own marked
      (same ∙ ap (λ (w : SlotView). (own_version w).now) (sym all) ∙ open-now gate.decided gate.all stood)
      ∙ ap own_version all

  content_still : (doubt : Option ℕ) → IsContentOf keys file seat.knows holds doubt → IsContentOf keys file (seat_after gate seat event versions).knows holds doubt
  content_still None is = record { version = is.version; gives = gives_still ∙ is.gives; holding = is.holding }
  content_still (Some place) is =
      let z : seat.knows.decided ≡ gate.decided = ap (λ (w : SlotView). w.decided) (sym all) in
      let seen : seat.knows.seen ≡ gate.all = ap (λ (w : SlotView). w.seen) (sym all) in
      record {
        committed = is.committed;
        doubted = is.doubted;
        gives = gives_still ∙ is.gives;
        commit = is.commit;
        doubt = record {
          front = is.doubt.front;
          doubted = is.doubt.doubted;
          back = is.doubt.back ++ own_record seat event versions ∷ [];
          is =
              sym (append_assoc is.doubt.front (is.doubt.doubted ∷ is.doubt.back) (own_record seat event versions ∷ []))
              ∙ ap (λ (l : List HistoryRecord). l ++ own_record seat event versions ∷ []) (is.doubt.is ∙ seen);
          marked = is.doubt.marked;
          last = none_past is.doubt.back (own_record seat event versions ∷ []) is.doubt.last (or_false (settles event) false (unchanged-settles event marked) refl);
          late = omega (arith, is.doubt.late, z);
        };
        at = is.at;
        named = is.named;
        before = is.before;
        after = is.after;
      }

pub unchanged_keep : UnchangedEventsKeepSlots
unchanged_keep store gate slot seat event versions is all own marked same guarded =
    let equal : Some guarded.seat ≡ Some seat = sym guarded.is ∙ is in
    let one : guarded.seat ≡ seat = cc (equal) in
    let was : IsSlotOf store slot.number slot.file seat = subst (IsSlotOf store slot.number slot.file) one guarded.own in
    let content : IsContentOf store.keys slot.file seat.knows slot.holds slot.doubt = subst (λ (s : Sight SlotView). IsContentOf store.keys slot.file s.knows slot.holds slot.doubt) one guarded.content in
    record {
      seat = seat_after gate seat event versions;
      is = refl;
      own = own_after store gate slot.number slot.file seat event versions own was;
      content = content_still store.keys store gate slot.number slot.file seat event versions own all marked same slot.holds slot.doubt content;
    }
