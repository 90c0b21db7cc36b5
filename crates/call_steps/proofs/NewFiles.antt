-- A file that no entry names: no version of it is given, or left by a doubt.
use Rattle.std.proofs.Common.{Bool, Contains, List, None, Option, Some, [], ap, drop, false, inl, inr, length, refl, subst, sym, true, true≢false, unwrap_or, ℕ, ◌&&◌, ◌==◌, ◌||◌, ◌∙◌, ◌∷◌, ◌≡◌, ◌≢◌}
use Rattle.std.proofs.lemmas.Bool.{cases_Bool, cases_lt, cond-false, ne_eqb}
use Rattle.commit_gate.specs.Journals.{IsJournal}
use Rattle.core_laws.proofs.Contained.{contains_first, contains_later}
use Rattle.core_laws.specs.Masked.{StandsMasked}
use Rattle.core_laws.specs.SlotParts.{Knows, VersionStands}
use Rattle.crash_core.specs.EntryLists.{IsUnnamed}
use Rattle.dir_records.specs.declared.entry.DirEntry.{DirEntry}
use Rattle.disk_model.specs.State.{FileState}
use Rattle.core_laws.specs.Ties.{IsTied}
use Rattle.history_seats.proofs.KnownEntries.{version-doubt}
use Rattle.history_seats.proofs.Places.{any-past, any_settles, open-less}
use Rattle.history_seats.specs.Changes.{without_slot}
use Rattle.history_seats.specs.Directory.{directory_of, given_version, has_entry}
use Rattle.history_seats.specs.Known.{IsKnown, version_from}
use Rattle.history_seats.specs.Mounts.{Entry, Mounted}
use Rattle.history_seats.specs.Records.{HistoryRecord, IsUpToDate, Version}
use Rattle.history_seats.specs.Rule.{SlotFits}
use Rattle.history_seats.specs.Settling.{IsOpenDoubt, Pending, calm, dropped}
use Rattle.history_seats.specs.Versions.{version_of}
use Rattle.history_seats.specs.Views.{GateView, Sight, SlotView}
use Rattle.hmac_keys.specs.declared.Keys.{Keys}
use Rattle.object_slots.specs.KnownFor.{KnowsFor}
use Rattle.object_slots.specs.GuardedSlots.{IsContentOf, IsSlotOf}
use Rattle.object_slots.specs.SlotObjects.{IsOfVersion}
use Rattle.call_steps.proofs.CommittableSlots.{next_object}
use Rattle.call_steps.specs.CreateLaws.{IsReseated, NewSeatsAreGuarded, NewSlotsAreCommittable, new_seat}
use Rattle.object_slots.specs.SlotValues.{Holding, IsFree, SlotValue, free, live, made, staged, without_stage}
use Rattle.commit_gate.specs.declared.DoubtedChange.{DoubtedChange}
use Rattle.store_model.specs.Record.{concerns_file}
use Rattle.core_laws.proofs.Answers.{own_grows}
use Rattle.core_laws.proofs.Mending.{none_some, some_same}
use Rattle.core_laws.specs.Decodings.{IsReal}
use Rattle.core_laws.specs.Stores.{Store, entries_at}

-- no entry of the history has the file
lacks_file : (listed : List Entry) (file generation : ℕ) → ((x : Entry) → Contains listed x → x.file ≢ file) → has_entry file generation listed ≡ false
lacks_file [] file generation none = refl
lacks_file (x ∷ listed) file generation none =
    let off : (x.file == file) ≡ false = ne_eqb x.file file (none x (contains_first x x listed refl)) in
    ap (λ (b : Bool). (b && (x.generation == generation)) || has_entry file generation listed) off
    ∙ lacks_file listed file generation (λ y there. none y (contains_later x y listed there))

-- what a doubt leaves of a version is left by a doubt that is open
left_open : (z file generation : ℕ) (mounted : Mounted) (records : List HistoryRecord) (x : Option Version) → (version_from z file generation mounted records).if_landed ≡ Some x
    → (commit : ℕ) × IsOpenDoubt commit z records
left_open z file generation mounted records x left =
    let stands : Pending (Option Version) = version_of file generation mounted records in
    let found = version-doubt file generation mounted records x (open-less z records stands x left) in
    let doubt = found.1 in
    elim (cases_lt (length doubt.front) z) [
      | inr late ↦ (found.0, record { front = doubt.front; doubted = doubt.doubted; back = doubt.back; is = doubt.is; marked = doubt.marked; last = doubt.last; late = late })
      | inl below ↦ elim (cases_Bool (any_settles (drop z records))) [
        | inl there ↦ absurd (true≢false (sym (any-past z doubt.front doubt.doubted doubt.back below (subst (λ (l : List HistoryRecord). any_settles (drop z l) ≡ true) (sym doubt.is) there)) ∙ doubt.last))
        | inr none ↦ absurd (none_some x (sym (ap (λ (p : Pending (Option Version)). p.if_landed) (cond-false (any_settles (drop z records)) stands (dropped stands) none)) ∙ left))
      ]
    ]

-- A gate without a doubt.
module _ (store : Store) (knows : GateView) (entries : List (Option DirEntry)) (counter : ℕ) (tied : IsTied store knows entries counter None) (file : ℕ) (unnamed : IsUnnamed entries file) where
  none_there : (generation : ℕ) → has_entry file generation (entries_at store knows.all).now ≡ false
  none_there generation =
      lacks_file (entries_at store knows.all).now file generation
      (λ x there same.
      let i = tied.listed.back x there in
      unnamed i.index i.entry i.at (sym same ∙ sym (ap (λ (y : Entry). y.file) i.is)))

  pub none_given : (generation : ℕ) → given_version store.mounted knows.all file generation ≡ None
  none_given generation =
      cond-false (has_entry file generation (directory_of store.mounted knows.all).now) (version_of file generation store.mounted knows.all).now None (none_there generation)

  pub none_known : (v : Version) → IsKnown knows.decided store.mounted knows.all file v → ⊥
  none_known v (inl given) = none_some v (sym (none_given given.0) ∙ given.1)
  none_known v (inr left) =
      let open_ = left_open knows.decided file left.0 store.mounted knows.all (Some v) left.1 in
      tied.doubt open_.0 open_.1

-- what a gate without a doubt leaves of a version is calm
no_doubt : (store : Store) (knows : GateView) (entries : List (Option DirEntry)) (counter : ℕ) → IsTied store knows entries counter None → (file generation : ℕ)
    → version_from knows.decided file generation store.mounted knows.all ≡ calm (version_from knows.decided file generation store.mounted knows.all).now
no_doubt store knows entries counter tied file generation = by_left (version_from knows.decided file generation store.mounted knows.all).if_landed refl
  where
    by_left : (left : Option (Option Version)) → (version_from knows.decided file generation store.mounted knows.all).if_landed ≡ left
        → version_from knows.decided file generation store.mounted knows.all ≡ calm (version_from knows.decided file generation store.mounted knows.all).now
    by_left None is = λ i. record { now = (version_from knows.decided file generation store.mounted knows.all).now; if_landed = is i }
    by_left (Some x) is =
        let open_ = left_open knows.decided file generation store.mounted knows.all x is in
        absurd (tied.doubt open_.0 open_.1)

told_mounted : (o : Option Mounted) (m : Mounted) → o ≡ Some m → unwrap_or o m ≡ m
told_mounted o m is = ap (λ (x : Option Mounted). unwrap_or x m) is

-- a free slot holds what is of any version
free_holds : (keys : Keys) (file : FileState) (holds : Holding) (version : Option Version) → IsFree holds → IsOfVersion keys file holds version
free_holds keys file free version is = tt
free_holds keys file (live o) version is = absurd is
free_holds keys file (made o) version is = absurd is
free_holds keys file (staged o s) version is = absurd is

-- A free slot of such a file, with a new seat.
module _ (store : Store) (knows : GateView) (entries : List (Option DirEntry)) (counter : ℕ) (kept : IsJournal store knows) (tied : IsTied store knows entries counter None) (slot : SlotValue)
    (old : Sight SlotView) (generation : ℕ) (unnamed : IsUnnamed entries slot.number) (own : IsSlotOf store slot.number slot.file old) (fits : SlotFits knows old.knows) where
  abbrev seat : Sight SlotView
  seat = new_seat store (without_slot old.knows knows) slot.number generation

  mounted : seat.knows.mounted ≡ store.mounted
  mounted = told_mounted knows.mounted store.mounted kept.mounted

  nothing : (v : Version) → Knows seat.knows v → ⊥
  nothing v known =
      none_known store knows entries counter tied slot.number unnamed v (subst (λ (m : Mounted). IsKnown knows.decided m knows.all slot.number v) mounted known)

  nothing_for : (other : ℕ) (v : Version) → KnowsFor seat.knows other v → other ≡ generation
  nothing_for other v (inl given) = absurd (nothing v (inl (other, given)))
  nothing_for other v (inr left) = absurd (nothing v (inr (other, left)))

  own_new : IsSlotOf store slot.number slot.file seat
  own_new = record {
    table = refl;
    mounted = mounted;
    own = refl;
    holds = λ stage. record { sound = (own.holds None).sound; stands = λ honest v known. absurd (nothing v known) };
    real = λ v known. absurd (nothing v known);
    single = nothing_for;
    told = own.told;
    masked = λ v known. absurd (nothing v known);
    legal = λ honest scenario off.
        (own_grows store scenario slot.number).whole old.knows.seen knows.all
        (subst (λ (n : ℕ). IsUpToDate (concerns_file n) old.knows.seen knows.all) own.own fits.sees.begins) (own.legal honest scenario off);
  }

  content_new : IsFree slot.holds → slot.doubt ≡ None → IsContentOf store.keys slot.file seat.knows slot.holds slot.doubt
  content_new is_free settled = subst (IsContentOf store.keys slot.file seat.knows slot.holds) (sym settled) (record {
    version = (version_from knows.decided slot.number generation store.mounted knows.all).now;
    gives = ap (λ (m : Mounted). version_from knows.decided slot.number generation m knows.all) mounted ∙ no_doubt store knows entries counter tied slot.number generation;
    holding = free_holds store.keys slot.file slot.holds (version_from knows.decided slot.number generation store.mounted knows.all).now is_free;
  })

  pub reseated : IsFree slot.holds → slot.doubt ≡ None → IsReseated store slot seat
  reseated is_free settled = record {
    guarded = record { seat = seat; is = refl; own = own_new; content = content_new is_free settled };
    nothing = λ other is v known. nothing v (subst (λ (s : Sight SlotView). Knows s.knows v) (some_same other seat (sym is)) known);
  }

pub new_seats : (F R : Type 0) → NewSeatsAreGuarded F R
new_seats F R store gate knows closing slot old generation guarded idle unnamed was is_free settled fits =
    reseated store knows gate.dir.dir.entries gate.counter guarded.journal
    (subst (λ (d : Option DoubtedChange). IsTied store knows gate.dir.dir.entries gate.counter d) idle guarded.tied) slot old generation unnamed
    (subst (IsSlotOf store slot.number slot.file) (sym (some_same old was.seat was.is)) was.own) fits is_free settled

pub new_committable : NewSlotsAreCommittable
new_committable store slot lent next is is_free =
    let object = next_object store.keys slot.file slot.holds next is.has is.after in
    record {
      settled = is.calm;
      before = is.before;
      held = free_holds store.keys slot.file (without_stage slot.holds) None is_free;
      after = is.after;
      real = λ w same. subst (IsReal store.keys) (some_same next w same) object.of_next.real;
      stands = λ honest w same. subst (VersionStands store.keys slot.file) (some_same next w same) (object.of_next.stands honest);
      masked = λ w same. subst (StandsMasked store.keys slot.file) (some_same next w same) object.of_next.bytes;
    }
