-- What a slot holds of a version, in a file that tells its masks.
use Rattle.std.proofs.Common.{◌≡◌, ◌<◌, ◌==◌, ℕ, Bool, true, List, length, get_or, None, Option, Some, Result, Ok, inl, inr, refl, sym, ap, ◌∙◌, subst, arith}
use Rattle.std.proofs.lemmas.Bool.{cases_lt, eqb-true}
use Rattle.std.proofs.lemmas.List.{get_or-take}
use Rattle.disk_model.specs.Arms.{Taint}
use Rattle.disk_model.specs.Calls.{GoesOn}
use Rattle.disk_model.specs.Keeps.{Runs}
use Rattle.disk_model.specs.Seen.{WasSeen}
use Rattle.disk_model.specs.State.{FileState}
use Rattle.aes_block.specs.WrappedKey.{unwrapped_of}
use Rattle.hmac_keys.specs.declared.Keys.{Keys}
use Rattle.node_image.specs.declared.node.RootRef.{RootRef}
use Rattle.node_image.specs.Parts.{In, start}
use Rattle.node_image.specs.Parts.Part.{block}
use Rattle.node_image.specs.Tables.{at_node, block_version}
use Rattle.node_image.proofs.ImageBytes.{length-bytes_at}
use Rattle.node_image.proofs.Matching.{row_at}
use Rattle.htree_file.specs.declared.fault.TreeFault.{TreeFault}
use Rattle.htree_file.specs.Opening.{IsVerified, Loaded, table_of}
use Rattle.htree_file.specs.Pages.{block_in, page_of}
use Rattle.htree_file.specs.Selected.{Lies}
use Rattle.htree_file.proofs.Sizes.{sized_few}
use Rattle.object_file.proofs.FirstBlock.{page_length}
use Rattle.object_file.specs.DeviceKeys.{object_key}
use Rattle.store_model.specs.Object.{Contents, Sound}
use Rattle.history_seats.specs.Records.{Version}
use Rattle.core_laws.specs.SlotParts.{IsShownIn}
use Rattle.core_laws.specs.Decodings.{Decoding, IsReal, block_of, object_decoded, opened_decoded, page_decoded, tree_decoding, tree_decoding_if, wrap_of}
use Rattle.core_laws.specs.Given.{Gave}
use Rattle.core_laws.specs.Masked.{HasOneTree, HasTable, IsMaskedOf, MaskedAt, ShowsMasked, StandsMasked, told_taints}
use Rattle.core_laws.proofs.MaskedBytes.{block_is, own_shown, runs_within, seen_masked, told_stays}
use Rattle.core_laws.proofs.Undamaged.{sound_of}
use Rattle.object_slots.specs.Fronts.{HasFront}
use Rattle.object_slots.specs.Gives.{IsGivenBy}
use Rattle.object_slots.specs.SlotValues.{HeldObject}
use Rattle.object_slots.specs.SlotObjects.{IsObjectOf}

ok_same : (v : Version) (a b : Loaded) → v.loads ≡ Ok a → v.loads ≡ Ok b → a ≡ b
ok_same v a b e f = cc

-- what holds of more blocks holds of some of them
pub masked_fewer : (keys : Keys) (told : Option (List Taint)) (v : Version) (more asked : ℕ → Bool) (given : Loaded) (ciphertext : ℕ → List ℕ) → ((k : ℕ) → asked k ≡ true → more k ≡ true)
    → IsMaskedOf keys told v more given ciphertext → IsMaskedOf keys told v asked given ciphertext
masked_fewer keys told v more asked given ciphertext fewer masked taints own is one =
    let m = masked taints own is one in
    record { same = m.same; blocks = λ k any. m.blocks k (fewer k any) }

-- What was committed is so.
pub own_masked : (keys : Keys) (told : Option (List Taint)) (v : Version) (tree : Loaded) (asked : ℕ → Bool) → v.loads ≡ Ok tree → ((k : ℕ) → asked k ≡ true → k < length tree.nodes)
    → IsMaskedOf keys told v asked tree (block_of v)
own_masked keys told v tree asked loads within taints own is one = record {
  same = λ differs. differs (ok_same v tree own loads one.loads);
  blocks = λ k any.
      own_shown keys v tree one.image one.shows loads taints (λ place. In tree.layout (block k (block_version tree.nodes k)) place × Lies own.layout own.nodes v.root.version place) k (within k any);
}

-- What was given of the blocks of a version's object.
module _ (keys : Keys) (old new : FileState) (goes : GoesOn old new) (o : HeldObject) (v : Version) (is : IsObjectOf keys old o v) where
  abbrev Shows : List Taint → Loaded → ℕ → Loaded → List ℕ → Type 0
  Shows taints own k t c =
      ShowsMasked keys taints v (λ place. In t.layout (block k (block_version t.nodes k)) place × Lies own.layout own.nodes v.root.version place) (λ image. c ≡ block_in image t k)

  pub given_masked : (wrap : List ℕ) (size : ℕ) (asked : ℕ → Bool) (gave : Gave wrap o.tree.root size asked) → IsGivenBy old new o is.front gave
      → IsMaskedOf keys (told_taints new) v asked gave.tree gave.block
  given_masked wrap size asked gave by taints own still one =
      let told : told_taints old ≡ Some taints = sym (told_stays old new goes) ∙ still in
      let front = is.masked taints own told one in
      record {
        same = λ differs. front.same (λ e. differs (by.tree ∙ e));
        blocks = λ k any.
            subst (λ (t : Loaded). Shows taints own k t (gave.block k)) (sym by.tree) (elim (cases_lt 0 k) [
              | inl behind ↦ seen_masked keys taints v own (In o.tree.tree.layout (block k (block_version o.tree.tree.nodes k))) old new (λ image. gave.block k ≡ block_in image o.tree.tree k) told goes (is.bytes taints own told one) (by.seen k any behind)
              | inr low ↦
                  let e : 0 ≡ k = omega (arith, low) in
                  subst (λ (j : ℕ). Shows taints own j o.tree.tree (gave.block j)) e (subst (λ (c : List ℕ). Shows taints own 0 o.tree.tree c) (sym by.first) (front.blocks 0 refl))
            ]);
      }

  -- a run off the object's tree is off the version's
  pub object_runs : Runs (Lies o.tree.tree.layout o.tree.tree.nodes o.tree.root.version) old new → (taints : List Taint) (tree : Loaded) → told_taints new ≡ Some taints
      → HasOneTree keys taints v tree → Runs (Lies tree.layout tree.nodes v.root.version) old new
  object_runs runs taints tree still one =
      runs_within (Lies o.tree.tree.layout o.tree.tree.nodes o.tree.root.version) (Lies tree.layout tree.nodes v.root.version)
      (λ p lies off. (is.masked taints tree (sym (told_stays old new goes) ∙ still) one).same (λ e. off (subst (λ (x : Loaded × RootRef). Lies x.0.layout x.0.nodes x.1.version p) (λ i. (sym e i, is.root i)) lies)))
      old new runs

-- What is loaded of a version, from a file where that stands.
pub loaded_masked : (keys : Keys) (old new : FileState) → GoesOn old new → (o : HeldObject) (v : Version) (ciphertext : List ℕ) → v.root ≡ o.tree.root → StandsMasked keys old v
    → WasSeen (Lies o.tree.tree.layout o.tree.tree.nodes o.tree.root.version) old new (λ image. table_of image o.tree.root ≡ Ok o.tree.tree)
    → WasSeen (In o.tree.tree.layout (block 0 (block_version o.tree.tree.nodes 0))) old new (λ image. ciphertext ≡ block_in image o.tree.tree 0)
    → IsMaskedOf keys (told_taints new) v (λ k. k == 0) o.tree.tree (λ k. ciphertext)
loaded_masked keys old new goes o v ciphertext root stands tree front taints own still one =
    let told : told_taints old ≡ Some taints = sym (told_stays old new goes) ∙ still in
    let at : MaskedAt keys old v own = stands taints own told one in
    record {
      same = λ differs.
          one.single (record {
            other = o.tree.tree;
            differs = differs;
            shown =
                seen_masked keys taints v own (Lies o.tree.tree.layout o.tree.tree.nodes v.root.version) old new (HasTable v o.tree.tree) told goes at
                (subst (λ (r : RootRef). WasSeen (Lies o.tree.tree.layout o.tree.tree.nodes r.version) old new (λ image. table_of image r ≡ Ok o.tree.tree)) (sym root) tree);
          });
      blocks = λ k zero.
          subst (λ (j : ℕ). ShowsMasked keys taints v (λ place. In o.tree.tree.layout (block j (block_version o.tree.tree.nodes j)) place × Lies own.layout own.nodes v.root.version place)
          (λ image. ciphertext ≡ block_in image o.tree.tree j))
          (sym (eqb-true k 0 zero)) (seen_masked keys taints v own (In o.tree.tree.layout (block 0 (block_version o.tree.tree.nodes 0))) old new (λ image. ciphertext ≡ block_in image o.tree.tree 0) told goes at front);
    }

-- The front of an object of a version that is shown and sound: the block that is committed in it.
module _ (keys : Keys) (o : HeldObject) (v : Version) (c : Contents) (image : List ℕ) (shows : IsShownIn keys image v) (real : IsReal keys v) (loads : v.loads ≡ Ok o.tree.tree) (object : v.object ≡ Sound c)
    (attributes : c.attributes ≡ o.attributes) (long_attributes : v.attributes ≡ length o.attributes) (key : o.tree.key ≡ unwrapped_of (object_key keys v.app) o.tree.tree.head.wrapped)
    (verified : IsVerified o.tree.root o.tree.tree) where
  pub some_node : 0 < length o.tree.tree.nodes
  some_node = omega (arith, verified.hashed.all, sized_few o.tree.tree.head verified.hashed.sized)

  pub version_front : HasFront o
  version_front =
      let own : Decoding = tree_decoding (wrap_of keys v) (block_of v) o.tree.tree in
      let first = sound_of v.size v.attributes (opened_decoded own) c
      (ap (λ (r : Result Loaded TreeFault). object_decoded v.size v.attributes (tree_decoding_if (wrap_of keys v) (block_of v) r)) (sym loads) ∙ real.decodes ∙ object) in
      let opens : page_of o.tree.key o.tree.tree.head (at_node o.tree.tree.nodes 1) 0 (block_of v 0) ≡ Some first.page =
      (λ i. page_of (key i) o.tree.tree.head (at_node o.tree.tree.nodes 1) 0 (block_of v 0))
      ∙ sym (row_at (page_decoded own) (length o.tree.tree.nodes) 0 None some_node) ∙ first.first in
      record {
        page = first.page;
        long =
            page_length o.tree.key o.tree.tree.head (at_node o.tree.tree.nodes 1) 0 (block_of v 0) first.page opens
            ∙ ap length (sym (block_is keys v o.tree.tree image shows loads 0 some_node))
            ∙ length-bytes_at image (start o.tree.tree.layout (block 0 (block_version o.tree.tree.nodes 0))) 4096;
        seals = (block_of v 0, opens);
        front = λ i lt.
            ap (λ (l : List ℕ). get_or l i 0) (sym attributes ∙ first.attributes_are) ∙ get_or-take v.attributes first.page i 0 (omega (arith, lt, long_attributes));
      }

  pub front_masked : (told : Option (List Taint)) → IsMaskedOf keys told v (λ k. k == 0) o.tree.tree (λ k. version_front.seals.0)
  unfolding version_front
  front_masked told taints own is one =
      let m = own_masked keys told v o.tree.tree (λ k. k == 0) loads (λ k zero. omega (arith, eqb-true k 0 zero, some_node)) taints own is one in
      record {
        same = m.same;
        blocks = λ k zero.
            subst (λ (j : ℕ). ShowsMasked keys taints v (λ place. In o.tree.tree.layout (block k (block_version o.tree.tree.nodes k)) place × Lies own.layout own.nodes v.root.version place)
            (λ other. block_of v j ≡ block_in other o.tree.tree k))
            (eqb-true k 0 zero) (m.blocks k zero);
      }
