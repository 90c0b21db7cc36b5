-- What staging a change leaves of a locked slot.
use Rattle.disk_model.specs.State.{Sound as SoundFile}
use Rattle.std.proofs.Common.{◌≡◌, ◌∙◌, ◌+◌, ◌<◌, ◌≤◌, ◌==◌, ◌||◌, ℕ, Bool, true, true≢false, List, Some, None, Result, Ok, Err, IsTrue, inl, inr, refl, sym, ap, subst}
use Rattle.std.proofs.lemmas.Bool.{cases_Bool}
use Rattle.htree_file.specs.Value.{Staged}
use Rattle.node_image.specs.declared.node.RootRef.{RootRef}
use Rattle.store_model.specs.Object.{Contents, Sound}
use Rattle.history_seats.specs.Records.{Version}
use Rattle.history_seats.specs.Settling.{calm}
use Rattle.core_laws.specs.Given.{Gave, decoding_given}
use Rattle.core_laws.specs.Masked.{GaveVersion, IsMaskedOf, told_taints}
use Rattle.object_slots.proofs.MaskedObjects.{given_masked}
use Rattle.core_laws.specs.Decodings.{block_of, tree_decoding_if, wrap_of}
use Rattle.core_laws.specs.Stores.{Store}
use Rattle.core_laws.specs.WriteLaws.{IsMadeOver}
use Rattle.node_image.specs.Layout.{greatest_of}
use Rattle.page_bytes.specs.declared.range.ByteRange.{ByteRange}
use Rattle.page_bytes.specs.Ranges.{meets, needs}
use Rattle.object_file.specs.Changes.{adopted}
use Rattle.object_file.specs.Held.{held_in}
use Rattle.object_file.specs.Value.{size_in}
use Rattle.object_slots.specs.declared.fault.SlotFault.{SlotFault}
use Rattle.object_slots.specs.declared.fault.SlotFault.TheVariants.{Corrupt, Failed, NoEntropy, NoMemory}
use Rattle.object_slots.specs.SlotReads.{CorruptAnswer}
use Rattle.object_slots.specs.SlotStages.{DataChange, IsStageOf, StageFault, StagesObject}
use Rattle.object_slots.proofs.GiveLaws.{changes_give}
use Rattle.object_slots.specs.SlotValues.{HasStage, HeldObject, Holding, SlotValue, live, staged, with_stage, without_stage}
use Rattle.object_slots.specs.SlotObjects.{IsObjectOf, IsOfVersion}
use Rattle.object_slots.specs.KnownFor.{own_version}
use Rattle.object_slots.specs.GuardedSlots.{SlotInvariant, IsSlotOf}
use Rattle.object_slots.specs.GuardedReads.{GivesVersion}
use Rattle.object_slots.specs.GuardedStages.{IfUndrawn, IsMadeOverGiven, IsStagedSlot, StageLeaves, StagesVersion, VersionChange}
use Rattle.object_slots.proofs.Contents.{gives_seat, slot_object}
use Rattle.object_slots.proofs.NextVersions.{changed, of_changed, of_decoded, decoded, version_decoded}
use Rattle.object_slots.proofs.HonestChanges.{next_decoding, page_met, page_missed, page_decoding, seal_missed}
use Rattle.object_slots.proofs.HonestPages.{Lays}
use Rattle.node_image.specs.declared.head.Head.{Head}
use Rattle.object_slots.specs.SlotVersions.{changed_version}
use Rattle.object_slots.specs.GuardedStages.{ChangesPages}
use Rattle.object_slots.proofs.MadeOver.{chosen, gave, gave_by, made_over}
use Rattle.object_slots.proofs.MadeOverOwn.{gave_own, gave_own_masked, made_over_own}
use Rattle.object_slots.proofs.Staged.{object_keeps, own_stays}

sound_same : (a b : Contents) → Sound a ≡ Sound b → a ≡ b
sound_same a b e = cc

-- the change is that one
pub record IsChangeOf (o : HeldObject) (c : DataChange) (change : VersionChange) : Type 0 where
  pub size : c.size ≡ change.size
  pub contents : c.contents ≡ change.contents
  pub asked : c.asked ≡ change.asked
  pub range : c.range ≡ change.range
  pub place : c.at ≡ change.place
  pub bytes : c.bytes ≡ change.bytes
  pub behind : 4096 ≤ c.range.first
  pub own : (x : Contents) → (c.contents x).attributes ≡ x.attributes
  -- a block that it needs is there afterwards
  pub inside : (k : ℕ) → needs c.range k ≡ true → k < greatest_of (4096 + c.size)
  -- it begins with the object's bytes, meets each block that is new, and lays its own
  pub from : o.tree.tree.head.length ≡ c.range.size
  pub grown : (k : ℕ) → k < greatest_of (4096 + c.size) → greatest_of o.tree.tree.head.length ≤ k → meets c.range.first c.range.last k ≡ true
  pub lays : Lays c.range c.at c.bytes c.left

module _ (store : Store) (old new : SlotValue) (o : HeldObject) (c : DataChange) (change : VersionChange) (v : Version) (Undrawn : Type 0) (is : SlotInvariant store old) (holds : old.holds ≡ live o)
    (calmly : old.doubt ≡ None) (given : GivesVersion old v) (same : new ≡ record old { file = new.file; holds = new.holds }) (of : IsChangeOf o c change) where
  abbrev gives : own_version is.seat.knows ≡ calm (Some v)
  gives = gives_seat store old v is given

  object : IsObjectOf store.keys old.file o v
  object = slot_object store old v o is given holds

  module _ (result : Result RootRef SlotFault) (stages : StagesObject old.file new.file o c new.holds Undrawn result) where
    own : IsSlotOf store old.number new.file is.seat
    own = own_stays store old.number old.file new.file is.seat o v is.own gives object stages.steps stages.keeps

    kept : IsObjectOf store.keys new.file o v
    kept = object_keeps store old.number old.file new.file is.seat o v is.own gives object stages.steps stages.keeps

    -- without a stage the slot may stand behind its lock
    unstaged : SlotInvariant store (record old { file = new.file; holds = live o; doubt = None })
    unstaged = record { seat = is.seat; is = is.is; own = own; content = record { version = Some v; gives = gives; holding = (v, refl, kept) } }

    slot_is : (h : Holding) → new.holds ≡ h → record old { file = new.file; holds = h; doubt = None } ≡ record new { holds = h }
    slot_is h held = (λ i. record old { file = new.file; holds = h; doubt = sym calmly i }) ∙ ap (λ (x : SlotValue). record x { holds = h }) (sym same)

    was : IsTrue new.file.honest → IsTrue old.file.honest
    was honest = stages.keeps.goes_on.honest honest

    held : (x : Contents) → v.object ≡ Sound x → IsTrue new.file.honest → held_in o old.file.reads ≡ x
    held x sound honest = sound_same (held_in o old.file.reads) x (sym (object.object (was honest)) ∙ sound)

    corrupt : IsTrue new.file.honest → (x : Contents) → v.object ≡ Sound x → CorruptAnswer x change.asked result
    corrupt honest x sound =
        subst (λ (y : Contents × (ℕ → Bool)). CorruptAnswer y.0 y.1 result) (λ i. (held x sound honest i, of.asked i))
        (stages.corrupt ((own.holds None).sound.told honest, inl honest))

    -- where a draw failed, what the change needs was read
    given_undrawn : (fault : SlotFault) → StageFault old.file new.file o (needs c.range) Undrawn fault
        → IfUndrawn {A = RootRef} (Err fault) (GaveVersion store.keys (told_taints new.file) v (λ k. (k == 0) || needs change.range k))
    given_undrawn (NoEntropy count) refused =
        let own = changes_give (wrap_of store.keys v) old.file new.file o c object.key object.long object.verified of.behind object.front refused.1 in
        let told = subst
        (λ (x : RootRef × ℕ × ByteRange). (g : Gave (wrap_of store.keys v) x.0 x.1 (λ k. (k == 0) || needs x.2 k))
        × IsMaskedOf store.keys (told_taints new.file) v (λ k. (k == 0) || needs x.2 k) g.tree g.block)
        (λ i. (sym object.root i, sym object.size i, of.range i))
        (own.0, given_masked store.keys old.file new.file stages.keeps.goes_on o v object (wrap_of store.keys v) (size_in o) (λ k. (k == 0) || needs c.range k) own.0 own.1) in
        record { gave = told.0; masked = told.1 }
    given_undrawn Corrupt refused = tt
    given_undrawn NoMemory refused = tt
    given_undrawn (Failed count) refused = tt

    -- the stage, with the next version
    module _ (root : RootRef) (s : Staged) (stage : IsStageOf old.file new.file o c root s) (is_held : new.holds ≡ staged o s) where
      lock : (next : Version) → IsObjectOf store.keys new.file (adopted o s) next → IsStagedSlot store new next
      lock next of_next = record {
        has = subst HasStage (sym is_held) tt;
        calm = ap (λ (x : SlotValue). x.doubt) same ∙ calmly;
        before = subst (λ (h : Holding). SlotInvariant store (record new { holds = without_stage h })) (sym is_held) (subst (SlotInvariant store) before_is unstaged);
        after = subst (λ (h : Holding). IsOfVersion store.keys new.file (with_stage h) (Some next)) (sym is_held) (next, refl, of_next);
      }
        where
          before_is : record old { file = new.file; holds = live o; doubt = None } ≡ record new { holds = live o }
          before_is = (λ i. record old { file = new.file; holds = live o; doubt = sym calmly i }) ∙ ap (λ (x : SlotValue). record x { holds = live o }) (sym same)

      -- the ciphertexts of the next version in a file that is not honest
      abbrev block : ℕ → List ℕ
      block = chosen store.keys old.file new.file o v c root s stage object of.behind of.inside

      over : (next : Version) (told : Gave (wrap_of store.keys v) o.tree.root (size_in o) (λ k. (k == 0) || needs c.range k))
          → IsMaskedOf store.keys (told_taints new.file) v (λ k. (k == 0) || needs c.range k) told.tree told.block
          → IsMadeOver store.keys v next (decoding_given told) c.range c.at c.bytes → IsMadeOverGiven store.keys (told_taints new.file) v next change
      over next told masked made =
          let all = subst
          (λ (x : RootRef × ℕ × ByteRange × ℕ × List ℕ). (g : Gave (wrap_of store.keys v) x.0 x.1 (λ k. (k == 0) || needs x.2 k))
          × IsMaskedOf store.keys (told_taints new.file) v (λ k. (k == 0) || needs x.2 k) g.tree g.block
          × IsMadeOver store.keys v next (decoding_given g) x.2 x.3 x.4)
          (λ i. (sym object.root i, sym object.size i, of.range i, of.place i, of.bytes i))
          (told, masked, made) in
          (record { gave = all.0; masked = all.1 }, all.2)

      -- over what was read, in any file
      over_given : IsMadeOverGiven store.keys (told_taints new.file) v (version_decoded store.keys s.root s.tree v.app c.size v.attributes block) change
      over_given =
          over (version_decoded store.keys s.root s.tree v.app c.size v.attributes block)
          (gave store.keys old.file new.file o v c root s stage object of.behind of.inside)
          (given_masked store.keys old.file new.file stages.keeps.goes_on o v object (wrap_of store.keys v) (size_in o) (λ k. (k == 0) || needs c.range k)
          (gave store.keys old.file new.file o v c root s stage object of.behind of.inside) (gave_by store.keys old.file new.file o v c root s stage object of.behind of.inside))
          (made_over store.keys old.file new.file o v c root s stage object of.behind of.inside)

      -- and over what the version spells, in an honest one
      over_own : IsTrue new.file.honest → IsMadeOverGiven store.keys (told_taints new.file) v (changed_version new.file v (held_in o old.file.reads) c s) change
      over_own honest =
          let kept : SoundFile old.file = (is.own.holds None).sound in
          let still : SoundFile new.file = (own.holds None).sound in
          over (changed_version new.file v (held_in o old.file.reads) c s)
          (gave_own store.keys old.file new.file o v c root s stage object kept still honest (was honest) of.from of.lays of.grown)
          (gave_own_masked store.keys old.file new.file o v c root s stage object kept still honest (was honest) of.from of.lays of.grown (told_taints new.file))
          (made_over_own store.keys old.file new.file o v c root s stage object kept still honest (was honest) of.from of.lays of.grown)

      -- in an honest file the pages are those that the change makes
      pages : IsTrue new.file.honest → ChangesPages store.keys v (changed_version new.file v (held_in o old.file.reads) c s) change.range change.place change.bytes
      pages honest =
          let kept : SoundFile old.file = (is.own.holds None).sound in
          let still : SoundFile new.file = (own.holds None).sound in
          subst (λ (x : ByteRange × ℕ × List ℕ). ChangesPages store.keys v (changed_version new.file v (held_in o old.file.reads) c s) x.0 x.1 x.2) (λ i. (of.range i, of.place i, of.bytes i))
          (record {
            was = page_decoding store.keys v o;
            now = next_decoding store.keys new.file v s;
            decoded = ap (tree_decoding_if (wrap_of store.keys v) (block_of v)) (object.loads (was honest));
            decoded_next = refl;
            wrapped = ap (λ (h : Head). h.wrapped) stage.head;
            long = ap (λ (h : Head). h.length) stage.head;
            met = page_met store.keys old.file new.file o v c root s stage object kept still honest (was honest) of.from of.lays of.grown;
            missed = page_missed store.keys old.file new.file o v c root s stage object kept still honest (was honest) of.from of.lays of.grown;
            seal = seal_missed store.keys old.file new.file o v c root s stage object kept still honest (was honest) of.from of.lays of.grown;
          })

      next_changed : (honest : IsTrue new.file.honest) → StageLeaves store new v change (Ok root)
      next_changed honest =
          let of_next = of_changed store.keys old.file new.file o v c root s block stage (is.own.holds None).sound (own.holds None).sound object was of.behind of.own honest in
          let next : Version = changed store.keys old.file new.file o v c root s block stage (is.own.holds None).sound (own.holds None).sound object was of.behind of.own in (
            next,
            lock next of_next,
            record {
              root_is = stage.root_is;
              app = refl;
              size = of.size;
              attributes = refl;
              object = λ here x sound. (λ i. Sound (of.contents i (held x sound here i)));
              pages = λ here. pages honest;
              over = over_own honest;
            },
          )

      next_decoded : (IsTrue new.file.honest → ⊥) → StageLeaves store new v change (Ok root)
      next_decoded off =
          let of_next = of_decoded store.keys old.file new.file o v c root s block stage (is.own.holds None).sound (own.holds None).sound object was of.behind of.own off in
          let next : Version = decoded store.keys old.file new.file o v c root s block stage (is.own.holds None).sound (own.holds None).sound object was of.behind of.own in (
            next,
            lock next of_next,
            record { root_is = stage.root_is; app = refl; size = of.size; attributes = refl; object = λ here x sound. absurd (off here); pages = λ here. absurd (off here); over = over_given },
          )

      next_leaves : StageLeaves store new v change (Ok root)
      next_leaves = elim (cases_Bool new.file.honest) [
        | inl honest ↦ next_changed honest
        | inr off ↦ next_decoded (λ honest. true≢false (sym honest ∙ off))
      ]

  pub stages_version : (result : Result RootRef SlotFault) → StagesObject old.file new.file o c new.holds Undrawn result → StagesVersion store new v change result
  stages_version (Ok root) stages = record {
    leaves = next_leaves (Ok root) stages root stages.leaves.0 stages.leaves.2 stages.leaves.1;
    corrupt = corrupt (Ok root) stages;
    undrawn = tt;
  }
  stages_version (Err fault) stages = record {
    leaves =
        subst (SlotInvariant store)
        ((λ i. record old { file = new.file; holds = sym stages.leaves i; doubt = sym calmly i }) ∙ sym same) (unstaged (Err fault) stages);
    corrupt = corrupt (Err fault) stages;
    undrawn = given_undrawn (Err fault) stages fault stages.refused;
  }
