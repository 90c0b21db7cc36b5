-- A locked slot after a new object was made in its file, or was not.
use Rattle.std.proofs.Common.{◌≡◌, ◌∙◌, ◌+◌, ◌≤◌, ℕ, true≢false, List, length, Option, Some, None, Result, Ok, Err, IsTrue, inl, inr, refl, sym, ap, subst, arith}
use Rattle.std.proofs.lemmas.Bool.{cases_Bool}
use Rattle.disk_model.specs.State.{FileState, Sound as SoundFile}
use Rattle.node_image.specs.declared.node.RootRef.{RootRef}
use Rattle.node_image.specs.Layout.{greatest_of}
use Rattle.htree_file.specs.Opening.{IsVerified}
use Rattle.htree_file.proofs.Sizes.{sized_greatest}
use Rattle.store_model.specs.Object.{Contents, Sound}
use Rattle.object_file.specs.DeviceKeys.{object_key}
use Rattle.history_seats.specs.Records.{Version}
use Rattle.core_laws.specs.Decodings.{IsReal}
use Rattle.core_laws.specs.Masked.{told_taints}
use Rattle.core_laws.specs.SlotParts.{IsShownIn, SlotHolds}
use Rattle.disk_model.proofs.ImageLaws.{reads_left}
use Rattle.object_slots.proofs.MaskedObjects.{front_masked, version_front}
use Rattle.core_laws.proofs.MaskedBytes.{stands_own}
use Rattle.core_laws.specs.SlotSteps.{Taker}
use Rattle.core_laws.proofs.SlotRuns.{run_holds}
use Rattle.core_laws.specs.Stores.{Store}
use Rattle.object_file.specs.Value.{size_in}
use Rattle.object_slots.specs.declared.fault.SlotFault.{SlotFault}
use Rattle.object_slots.specs.Makes.{IsMade, MakesObject, new_contents}
use Rattle.object_slots.specs.SlotCalls.{part}
use Rattle.object_slots.specs.SlotValues.{HasStage, HeldObject, Holding, IsFree, SlotValue, free, made, with_stage, without_stage}
use Rattle.object_slots.specs.SlotVersions.{new_version}
use Rattle.object_slots.proofs.FrontLaws.{made_have_fronts}
use Rattle.object_slots.proofs.VersionLaws.{made_are_versions, versions_are_held}
use Rattle.object_slots.specs.SlotObjects.{IsObjectOf, IsOfVersion}
use Rattle.object_slots.specs.GuardedSlots.{IsContentOf, SlotInvariant, IsSlotOf}
use Rattle.object_slots.specs.NewObjects.{IsNewVersion, KnowsNothing, NewLeaves}
use Rattle.object_slots.specs.GuardedStages.{IsStagedSlot}
use Rattle.object_slots.proofs.Contents.{file_moves}
use Rattle.object_slots.proofs.NewObjects.{decodes_new, text}
use Rattle.object_slots.proofs.NextVersions.{decoded_real, decoded_unshown, replay_real, version_decoded}

-- The object that was made, of an application.
module _ (store : Store) (old new : FileState) (app attributes bytes : List ℕ) (root : RootRef) (o : HeldObject) (few : length attributes ≤ 2048) (still : SoundFile new)
    (is : IsMade old new (object_key store.keys app) attributes bytes root o) where
  size : size_in o ≡ length bytes
  size = omega (arith, is.size)

  long : o.tree.tree.head.length ≡ 4096 + size_in o
  long = is.size ∙ ap (λ (n : ℕ). 4096 + n) (sym size)

  verified : IsVerified o.tree.root o.tree.tree
  verified = subst (λ (r : RootRef). IsVerified r o.tree.tree) is.root_is is.verified

  of_honest : IsTrue new.honest → IsObjectOf store.keys new o (new_version new app attributes bytes o)
  of_honest honest =
      let both = made_are_versions store.keys old new app attributes bytes root o still honest is in
      let v : Version = new_version new app attributes bytes o in
      let c : Contents = new_contents attributes bytes in
      let shows : IsShownIn store.keys new.reads v = both.0.shown new.reads (reads_left new still) in
      let real : IsReal store.keys v = replay_real store.keys new o.tree.root o.tree.tree app (length bytes) (length attributes) (Sound c) still both.0 in
      record {
        real = real;
        root = refl;
        key = is.key;
        size = sym size;
        long = long;
        attributes = ap length (sym is.attributes_are);
        verified = verified;
        front = version_front store.keys o v c new.reads shows real refl refl (sym is.attributes_are) (ap length (sym is.attributes_are)) is.key verified;
        masked = front_masked store.keys o v c new.reads shows real refl refl (sym is.attributes_are) (ap length (sym is.attributes_are)) is.key verified (told_taints new);
        bytes = stands_own store.keys new v shows;
        stands = λ here. both.0;
        loads = λ here. refl;
        object = λ here. ap (λ (x : Contents). Sound x) (sym (versions_are_held store.keys new o (new_version new app attributes bytes o) (new_contents attributes bytes) still both.0 both.1));
      }

  whole : length o.tree.tree.nodes ≡ greatest_of o.tree.tree.head.length
  whole = verified.hashed.all ∙ sized_greatest o.tree.tree.head verified.hashed.sized

  short : length attributes ≤ 4096
  short = omega (arith, few)

  abbrev block : ℕ → List ℕ
  block = text (object_key store.keys app) attributes bytes o.tree.key o.tree.tree short is.key is.size whole is.seals

  abbrev decoded : Version
  decoded = version_decoded store.keys o.tree.root o.tree.tree app (length bytes) (length attributes) block

  of_other : (IsTrue new.honest → ⊥) → IsObjectOf store.keys new o decoded
  of_other off = record {
    real = decoded_real store.keys o.tree.root o.tree.tree app (length bytes) (length attributes) block verified;
    root = refl;
    key = is.key;
    size = sym size;
    long = long;
    attributes = ap length (sym is.attributes_are);
    verified = verified;
    front = made_have_fronts old new (object_key store.keys app) attributes bytes root o few is;
    masked = λ taints own told one. absurd (decoded_unshown store.keys o.tree.root o.tree.tree app (length bytes) (length attributes) block taints own one);
    bytes = λ taints own told one. absurd (decoded_unshown store.keys o.tree.root o.tree.tree app (length bytes) (length attributes) block taints own one);
    stands = λ here. absurd (off here);
    loads = λ here. absurd (off here);
    object = λ here. absurd (off here);
  }

  -- a version of it
  pub made_version : (next : Version) × IsObjectOf store.keys new o next × IsNewVersion next app attributes bytes root
  made_version = elim (cases_Bool new.honest) [
    | inl honest ↦ (new_version new app attributes bytes o, of_honest honest, record { root_is = sym is.root_is; app_is = refl; size = refl; long = refl; object = refl })
    | inr off ↦ (
      decoded,
      of_other (λ honest. true≢false (sym honest ∙ off)),
      record {
        root_is = sym is.root_is;
        app_is = refl;
        size = refl;
        long = refl;
        object = decodes_new (object_key store.keys app) attributes bytes o.tree.key o.tree.tree short is.key is.size whole is.seals;
      },
    )
  ]

module _ (store : Store) (old new : SlotValue) (tsk attributes bytes : List ℕ) (few : length attributes ≤ 2048) (is : SlotInvariant store old) (vacant : IsFree old.holds) (calmly : old.doubt ≡ None)
    (nothing : KnowsNothing old) (same : new ≡ record old { file = new.file; holds = new.holds }) (result : Result RootRef SlotFault)
    (makes : MakesObject old.file new.file tsk attributes bytes new.holds result) where
  make_holds : (stage : Option ℕ) → SlotHolds store.keys (part new.file is.seat.knows stage)
  make_holds stage =
      let s = makes.steps 0 is.seat.knows None (λ honest v known. nothing is.seat is.is v known) in
      let h = run_holds (Taker 0) store.keys (part old.file is.seat.knows None) s.1.steps (part new.file is.seat.knows s.0) (is.own.holds None) s.1.run in
      record { sound = h.sound; stands = h.stands }

  own : IsSlotOf store old.number new.file is.seat
  own = file_moves store old.number old.file new.file is.seat makes.keeps.goes_on make_holds (λ v known. absurd (nothing is.seat is.is v known)) is.own

  -- with nothing loaded it may stand behind its lock
  vacated : SlotInvariant store (record old { file = new.file; holds = free; doubt = None })
  vacated =
      let content : IsContentOf store.keys old.file is.seat.knows old.holds None = subst (IsContentOf store.keys old.file is.seat.knows old.holds) calmly is.content in
      record { seat = is.seat; is = is.is; own = own; content = record { version = content.version; gives = content.gives; holding = tt } }

  vacated_is : record old { file = new.file; holds = free; doubt = None } ≡ record new { holds = free }
  vacated_is = (λ i. record old { file = new.file; holds = free; doubt = sym calmly i }) ∙ ap (λ (x : SlotValue). record x { holds = free }) (sym same)

  lock : (o : HeldObject) → new.holds ≡ made o → (next : Version) → IsObjectOf store.keys new.file o next → IsStagedSlot store new next
  lock o held next of_next = record {
    has = subst HasStage (sym held) tt;
    calm = ap (λ (x : SlotValue). x.doubt) same ∙ calmly;
    before = subst (λ (h : Holding). SlotInvariant store (record new { holds = without_stage h })) (sym held) (subst (SlotInvariant store) vacated_is vacated);
    after = subst (λ (h : Holding). IsOfVersion store.keys new.file (with_stage h) (Some next)) (sym held) (next, refl, of_next);
  }

pub new_leaves : (store : Store) (old new : SlotValue) (tsk attributes bytes : List ℕ) → length attributes ≤ 2048 → SlotInvariant store old → IsFree old.holds → old.doubt ≡ None → KnowsNothing old
    → new ≡ record old { file = new.file; holds = new.holds } → (result : Result RootRef SlotFault) → MakesObject old.file new.file tsk attributes bytes new.holds result
    → NewLeaves store new tsk attributes bytes result
new_leaves store old new tsk attributes bytes few is vacant calmly nothing same (Ok root) makes = λ app key.
    let o : HeldObject = makes.leaves.0 in
    let made_so : IsMade old.file new.file (object_key store.keys app) attributes bytes root o = subst (λ (k : List ℕ). IsMade old.file new.file k attributes bytes root o) key makes.leaves.2 in
    let one = made_version store old.file new.file app attributes bytes root o few (make_holds store old new tsk attributes bytes few is vacant calmly nothing same (Ok root) makes None).sound made_so in
    (one.0, lock store old new tsk attributes bytes few is vacant calmly nothing same (Ok root) makes o makes.leaves.1 one.0 one.1, one.2)
new_leaves store old new tsk attributes bytes few is vacant calmly nothing same (Err fault) makes =
    subst (SlotInvariant store)
    ((λ i. record old { file = new.file; holds = sym makes.leaves i; doubt = sym calmly i }) ∙ sym same)
    (vacated store old new tsk attributes bytes few is vacant calmly nothing same (Err fault) makes)
