-- What a stage was made over in an honest file: what its version spells.
use Rattle.std.proofs.Common.{◌≡◌, ◌∙◌, ◌+◌, ◌<◌, ◌≤◌, ◌==◌, ◌||◌, ℕ, true, List, length, None, Option, Some, Result, IsTrue, inl, inr, refl, sym, ap, subst, arith}
use Rattle.std.specs.Option.{IsSome}
use Rattle.std.proofs.lemmas.Bool.{cases_Bool, eqb-true}
use Rattle.disk_model.specs.State.{FileState, Sound as SoundFile}
use Rattle.hmac_keys.specs.declared.Keys.{Keys}
use Rattle.node_image.specs.declared.node.RootRef.{RootRef}
use Rattle.node_image.specs.declared.head.Head.{Head}
use Rattle.node_image.specs.Layout.{greatest_of}
use Rattle.node_image.proofs.Matching.{row_at}
use Rattle.htree_file.specs.declared.fault.TreeFault.{TreeFault}
use Rattle.htree_file.specs.Opening.{Loaded}
use Rattle.htree_file.specs.Value.{Staged}
use Rattle.htree_file.proofs.Sizes.{sized_few, sized_greatest}
use Rattle.page_bytes.specs.Ranges.{meets, needs}
use Rattle.store_model.specs.Object.{Sound}
use Rattle.object_file.specs.MountedObject.{object_of}
use Rattle.history_seats.specs.Records.{Version}
use Rattle.history_seats.proofs.Lists.{or_second}
use Rattle.core_laws.specs.Masked.{IsMaskedOf}
use Rattle.object_slots.proofs.MaskedObjects.{own_masked}
use Rattle.disk_model.specs.Arms.{Taint}
use Rattle.core_laws.specs.Given.{Gave, decoding_given}
use Rattle.core_laws.specs.Decodings.{Decoding, block_of, object_decoded, opened_decoded, page_decoded, tree_decoding_if, wrap_of}
use Rattle.core_laws.specs.WriteLaws.{IsMadeOver}
use Rattle.core_laws.proofs.Undamaged.{sound_of}
use Rattle.object_file.specs.Held.{held_in}
use Rattle.object_file.specs.Value.{size_in}
use Rattle.object_slots.specs.SlotStages.{DataChange, IsStageOf}
use Rattle.object_slots.specs.SlotValues.{HeldObject}
use Rattle.object_slots.specs.SlotVersions.{changed_version}
use Rattle.object_slots.specs.SlotObjects.{IsObjectOf}
use Rattle.object_slots.proofs.HonestChanges.{needed_old, page_met, page_missed, page_needed, page_decoding, seal_missed}
use Rattle.object_slots.proofs.HonestPages.{Lays}

is_some_of : (o : Option (List ℕ)) (page : List ℕ) → o ≡ Some page → IsSome o
is_some_of o page e = rw e refl

module _ (keys : Keys) (old new : FileState) (o : HeldObject) (v : Version) (c : DataChange) (root : RootRef) (s : Staged) (stage : IsStageOf old new o c root s) (is : IsObjectOf keys old o v)
    (sound : SoundFile old) (still : SoundFile new) (honest : IsTrue new.honest) (was_honest : IsTrue old.honest)
    (size : o.tree.tree.head.length ≡ c.range.size) (lays : Lays c.range c.at c.bytes c.left)
    (grown : (k : ℕ) → k < greatest_of (4096 + c.size) → greatest_of o.tree.tree.head.length ≤ k → meets c.range.first c.range.last k ≡ true) where
  abbrev own : Decoding
  own = page_decoding keys v o

  -- block 0 is good, since the version's object is sound
  page_first : (page : List ℕ) × (page_decoded own 0 ≡ Some page)
  page_first =
      let here : object_of v.size v.attributes (opened_decoded own) ≡ Sound (held_in o old.reads) =
      ap (λ (r : Result Loaded TreeFault). object_decoded v.size v.attributes (tree_decoding_if (wrap_of keys v) (block_of v) r)) (sym (is.loads was_honest))
      ∙ is.real.decodes
      ∙ is.object was_honest in
      let first = sound_of v.size v.attributes (opened_decoded own) (held_in o old.reads) here in
      let within : 0 < length o.tree.tree.nodes = omega (arith, is.verified.hashed.all, sized_few o.tree.tree.head is.verified.hashed.sized) in
      (first.page, sym (row_at (page_decoded own) (length o.tree.tree.nodes) 0 None within) ∙ first.first)

  good : (k : ℕ) → ((k == 0) || needs c.range k) ≡ true → IsSome (page_decoded own k)
  good k any = elim (cases_Bool (k == 0)) [
    | inl zero ↦ subst (λ (j : ℕ). IsSome (page_decoded own j)) (sym (eqb-true k 0 zero)) (is_some_of (page_decoded own 0) page_first.0 page_first.1)
    | inr other ↦
        let need = page_needed keys old new o v c root s stage is sound still honest was_honest size lays grown k (or_second (k == 0) (needs c.range k) any other) in
        is_some_of (page_decoded own k) need.0 need.1
  ]

  pub gave_own : Gave (wrap_of keys v) o.tree.root (size_in o) (λ k. (k == 0) || needs c.range k)
  gave_own = record { tree = o.tree.tree; verified = is.verified; long = is.long; block = block_of v; good = good }

  within : (k : ℕ) → ((k == 0) || needs c.range k) ≡ true → k < length o.tree.tree.nodes
  within k any =
      let few : (1 ≤ o.tree.tree.head.greatest) × (o.tree.tree.head.greatest ≤ 256) = sized_few o.tree.tree.head is.verified.hashed.sized in
      elim (cases_Bool (k == 0)) [
        | inl zero ↦ omega (arith, eqb-true k 0 zero, is.verified.hashed.all, few.0)
        | inr other ↦
            omega (arith, is.verified.hashed.all, sized_greatest o.tree.tree.head is.verified.hashed.sized, size, needed_old c.range k (or_second (k == 0) (needs c.range k) any other))
      ]

  pub gave_own_masked : (told : Option (List Taint)) → IsMaskedOf keys told v (λ k. (k == 0) || needs c.range k) gave_own.tree gave_own.block
  unfolding gave_own
  gave_own_masked told = own_masked keys told v o.tree.tree (λ k. (k == 0) || needs c.range k) (is.loads was_honest) within

  abbrev next : Version
  next = changed_version new v (held_in o old.reads) c s

  long : s.tree.head.length ≡ 4096 + c.size
  long = ap (λ (h : Head). h.length) stage.head

  pub made_over_own : IsMadeOver keys v next (decoding_given gave_own) c.range c.at c.bytes
  unfolding gave_own
  made_over_own = record {
    app = refl;
    attributes = refl;
    tree = s.tree;
    loads = refl;
    long = long;
    whole = stage.verified.hashed.all ∙ sized_greatest s.tree.head stage.verified.hashed.sized;
    wrapped = ap (λ (h : Head). h.wrapped) stage.head;
    met = page_met keys old new o v c root s stage is sound still honest was_honest size lays grown;
    seal = seal_missed keys old new o v c root s stage is sound still honest was_honest size lays grown;
    page = page_missed keys old new o v c root s stage is sound still honest was_honest size lays grown;
  }
