-- A locked slot after calls of its file.
use Rattle.std.proofs.Common.{◌≡◌, ◌∙◌, ℕ, Option, Some, None, refl, sym, ap, subst}
use Rattle.disk_model.specs.State.{FileState}
use Rattle.disk_model.specs.Calls.{GoesOn, Rests}
use Rattle.disk_model.specs.Keeps.{rest}
use Rattle.disk_model.proofs.Seen.{runs_one}
use Rattle.htree_file.specs.Selected.{Lies}
use Rattle.hmac_keys.specs.declared.Keys.{Keys}
use Rattle.history_seats.specs.Records.{Version}
use Rattle.history_seats.specs.Settling.{Pending, calm}
use Rattle.history_seats.specs.Views.{Sight, SlotView}
use Rattle.core_laws.specs.Masked.{StandsMasked}
use Rattle.core_laws.specs.SlotParts.{Knows, SlotHolds}
use Rattle.core_laws.proofs.MaskedBytes.{stands_later, told_stays}
use Rattle.core_laws.specs.SlotSteps.{Reader}
use Rattle.core_laws.proofs.SlotRuns.{run_holds}
use Rattle.core_laws.specs.Stores.{Store}
use Rattle.object_slots.specs.SlotCalls.{ReadSteps, part}
use Rattle.object_slots.specs.SlotValues.{HeldObject, Holding, SlotValue, free, live, made, staged, with_stage, without_stage}
use Rattle.object_slots.specs.SlotObjects.{IsObjectOf, IsOfVersion}
use Rattle.object_slots.specs.KnownFor.{own_version}
use Rattle.object_slots.specs.GuardedSlots.{IsContentOf, SlotInvariant, IsSlotOf}
use Rattle.object_slots.specs.GuardedReads.{GivesVersion}
use Rattle.object_slots.proofs.Stays.{object_rests}

-- the store's file after calls that keep the core's fact
pub file_moves : (store : Store) (number : ℕ) (old new : FileState) (seat : Sight SlotView) → GoesOn old new → ((stage : Option ℕ) → SlotHolds store.keys (part new seat.knows stage))
    → ((v : Version) → Knows seat.knows v → StandsMasked store.keys new v) → IsSlotOf store number old seat → IsSlotOf store number new seat
file_moves store number old new seat goes holds masked own = record {
  table = own.table;
  mounted = own.mounted;
  own = own.own;
  holds = holds;
  real = own.real;
  single = own.single;
  told = told_stays old new goes ∙ own.told;
  masked = masked;
  legal = λ honest scenario off. own.legal (goes.honest honest) scenario off;
}

-- a call that only reads is such
pub read_holds : (store : Store) (old new : FileState) (view : SlotView) → ((stage : Option ℕ) → SlotHolds store.keys (part old view stage)) → ReadSteps old new
    → (stage : Option ℕ) → SlotHolds store.keys (part new view stage)
read_holds store old new view holds steps stage =
    let s = steps view stage in
    run_holds Reader store.keys (part old view stage) s.steps (part new view stage) (holds stage) s.run

pub own_rests : (store : Store) (number : ℕ) (old new : FileState) (seat : Sight SlotView) → Rests old new → ReadSteps old new → IsSlotOf store number old seat → IsSlotOf store number new seat
own_rests store number old new seat rests steps own =
    file_moves store number old new seat rests.goes_on (read_holds store old new seat.knows own.holds steps)
    (λ v known.
    stands_later store.keys old new v rests.goes_on (λ taints tree told one. runs_one (Lies tree.layout tree.nodes v.root.version) rest old new (own.holds None).sound rests tt) (own.masked v known))
    own

module _ (keys : Keys) (old new : FileState) (stays : (o : HeldObject) (v : Version) → IsObjectOf keys old o v → IsObjectOf keys new o v) where
  pub of_version_stays : (holds : Holding) (version : Option Version) → IsOfVersion keys old holds version → IsOfVersion keys new holds version
  of_version_stays free version is = tt
  of_version_stays (live o) version is = (is.0, is.1, stays o is.0 is.2)
  of_version_stays (made o) version is = absurd is
  of_version_stays (staged o s) version is = absurd is

  pub content_stays : (view : SlotView) (holds : Holding) (doubt : Option ℕ) → IsContentOf keys old view holds doubt → IsContentOf keys new view holds doubt
  content_stays view holds None is = record { version = is.version; gives = is.gives; holding = of_version_stays holds is.version is.holding }
  content_stays view holds (Some place) is = record {
    committed = is.committed;
    doubted = is.doubted;
    gives = is.gives;
    commit = is.commit;
    doubt = is.doubt;
    at = is.at;
    named = is.named;
    before = of_version_stays (without_stage holds) is.committed is.before;
    after = of_version_stays (with_stage holds) is.doubted is.after;
  }

-- A locked slot stays so by a call that only reads its file.
pub slot_rests : (store : Store) (old : SlotValue) (new : FileState) → Rests old.file new → ReadSteps old.file new → SlotInvariant store old → SlotInvariant store (record old { file = new })
slot_rests store old new rests steps is =
    let own : IsSlotOf store old.number new is.seat = own_rests store old.number old.file new is.seat rests steps is.own in
    record {
      seat = is.seat;
      is = is.is;
      own = own;
      content = content_stays store.keys old.file new (λ o v. object_rests store.keys old.file new o v (is.own.holds None).sound (own.holds None).sound rests) is.seat.knows old.holds old.doubt is.content;
    }

pub calm_same : (a b : Option Version) → calm a ≡ calm b → a ≡ b
calm_same a b e = ap (λ (p : Pending (Option Version)). p.now) e

not_calm : (a b : Option Version) (c : Option Version) → calm c ≡ record { now = a; if_landed = Some b } → ⊥
not_calm a b c e =
    let bad : None ≡ Some b = ap (λ (p : Pending (Option Version)). p.if_landed) e in
    cc (bad)

pub some_same : (a b : Version) → Some a ≡ Some b → a ≡ b
some_same a b e = cc

pub seat_same : (a b : Sight SlotView) → Some a ≡ Some b → a ≡ b
seat_same a b e = cc

-- what is held is of the version that a calm view gives
module _ (keys : Keys) (file : FileState) (view : SlotView) (v : Version) (gives : own_version view ≡ calm (Some v)) where
  pub settled_now : (holds : Holding) (doubt : Option ℕ) → IsContentOf keys file view holds doubt → (doubt ≡ None) × IsOfVersion keys file holds (Some v)
  settled_now holds None is = (refl, subst (IsOfVersion keys file holds) (calm_same is.version (Some v) (sym is.gives ∙ gives)) is.holding)
  settled_now holds (Some place) is = absurd (not_calm is.committed is.doubted (Some v) (sym gives ∙ is.gives))

  pub object_now : (o : HeldObject) (doubt : Option ℕ) → IsContentOf keys file view (live o) doubt → IsObjectOf keys file o v
  object_now o doubt is =
      let held = (settled_now (live o) doubt is).1 in
      subst (IsObjectOf keys file o) (some_same held.0 v (sym held.1)) held.2

-- a slot's view, by its seat
pub gives_seat : (store : Store) (slot : SlotValue) (v : Version) (is : SlotInvariant store slot) → GivesVersion slot v → own_version is.seat.knows ≡ calm (Some v)
gives_seat store slot v is given =
    ap (λ (s : Sight SlotView). own_version s.knows) (seat_same is.seat given.seat (sym is.is ∙ given.is)) ∙ given.gives

pub slot_object : (store : Store) (slot : SlotValue) (v : Version) (o : HeldObject) → SlotInvariant store slot → GivesVersion slot v → slot.holds ≡ live o → IsObjectOf store.keys slot.file o v
slot_object store slot v o is given holds =
    object_now store.keys slot.file is.seat.knows v (gives_seat store slot v is given) o slot.doubt
    (subst (λ (h : Holding). IsContentOf store.keys slot.file is.seat.knows h slot.doubt) holds is.content)
