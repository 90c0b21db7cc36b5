-- What a slot's file gave for a read.
use Rattle.std.proofs.Common.{◌≡◌, ◌⊎◌, inl, inr, ◌∙◌, ◌+◌, ◌-◌, ◌/◌, ◌%◌, ◌==◌, ◌<◌, ◌≤◌, ◌||◌, ℕ, Bool, true, false, cond, List, [], length, take, min, Option, Some, Ok, refl, sym, ap, subst, arith}
use Rattle.std.specs.Option.{IsSome}
use Rattle.std.proofs.lemmas.Bool.{cond-false, eqb-true, ne_eqb}
use Rattle.std.proofs.lemmas.List.{get_or-take, length-take-le}
use Rattle.disk_model.specs.State.{FileState}
use Rattle.aes_block.specs.WrappedKey.{unwrapped_of}
use Rattle.node_image.specs.declared.node.NodeImage.{NodeImage}
use Rattle.disk_model.specs.Seen.{WasSeen}
use Rattle.node_image.specs.Parts.{In}
use Rattle.node_image.specs.Parts.Part.{block as block_part}
use Rattle.node_image.specs.Tables.{at_node, block_version}
use Rattle.htree_file.specs.Pages.{block_in}
use Rattle.htree_file.specs.Pages.{page_of}
use Rattle.page_bytes.specs.Pages.{byte_in, bytes_from}
use Rattle.page_bytes.specs.declared.range.ByteRange.{ByteRange}
use Rattle.page_bytes.specs.Ranges.{meets, needs}
use Rattle.page_bytes.proofs.Content.{bytes_from-is}
use Rattle.block_file.specs.Reads.{AreReadBytes, WasRead}
use Rattle.tee_types.specs.declared.call.Call.TheVariants.{Read}
use Rattle.core_laws.specs.Given.{Gave, is_asked}
use Rattle.core_laws.specs.Decodings.{Decoding, page_decoded, tree_decoding}
use Rattle.object_file.specs.Value.{size_in}
use Rattle.object_slots.specs.Fronts.{HasFront}
use Rattle.object_slots.specs.Gives.{ChangesGive, IsGivenBy, ReadsTell}
use Rattle.object_slots.specs.SlotReads.{ReadsObject, read_count}
use Rattle.object_slots.specs.SlotValues.{HeldObject}

-- what is there where a test holds
abbrev pub when : (b : Bool) → (b ≡ true → List ℕ) → List ℕ
when true f = f refl
when false f = []

when-true : (b : Bool) (f : b ≡ true → List ℕ) (P : List ℕ → Type 0) → ((is : b ≡ true) → P (f is)) → b ≡ true → P (when b f)
when-true true f P each is = each refl
when-true false f P each is = absurd (cc (is))

or_true : (b c : Bool) → (b || c) ≡ true → (b ≡ true) ⊎ (c ≡ true)
or_true true c e = inl refl
or_true false c e = inr e

meets_place : (at count i : ℕ) → i < count → meets at (at + count) ((at + i) / 4096) ≡ true
meets_place at count i lt = grind (arith, lt)

met_data : (at count k : ℕ) → meets (4096 + at) (4096 + at + count) k ≡ true → 1 ≤ k
met_data at count k met = grind (arith, met)

-- Of an object with its front, of which these blocks were read.
module _ (wrap : List ℕ) (old new : FileState) (o : HeldObject) (key : o.tree.key ≡ unwrapped_of wrap o.tree.tree.head.wrapped) (front : HasFront o) (asked : ℕ → Bool)
    (read : (k : ℕ) → asked k ≡ true → WasRead o.tree.key o.tree.tree old new k) where
  -- the ciphertexts: of block 0 the front's, of each other block the one that was read
  abbrev pub block : ℕ → List ℕ
  block k = cond (k == 0) front.seals.0 (when (asked k) (λ is. (read k is).1.ciphertext))

  abbrev pub sp : Decoding
  sp = tree_decoding wrap block o.tree.tree

  page_front : page_decoded sp 0 ≡ Some front.page
  page_front = (λ i. page_of (sym key i) o.tree.tree.head (at_node o.tree.tree.nodes 1) 0 front.seals.0) ∙ front.seals.1

  -- the page of a block that was read
  pub page_read : (k : ℕ) (page : List ℕ) → 1 ≤ k → ((is : asked k ≡ true) → (read k is).0 ≡ page) → asked k ≡ true → page_decoded sp k ≡ Some page
  page_read k page behind one is =
      let node : NodeImage = at_node o.tree.tree.nodes (k + 1) in
      let f : asked k ≡ true → List ℕ = λ e. (read k e).1.ciphertext in
      let own : block k ≡ when (asked k) f = cond-false (k == 0) front.seals.0 (when (asked k) f) (ne_eqb k 0 (λ same. omega (arith, behind, same))) in
      (λ i. page_of (sym key i) o.tree.tree.head node k (own i))
      ∙ when-true (asked k) f (λ c. page_of o.tree.key o.tree.tree.head node k c ≡ Some page) (λ e. (read k e).1.opens ∙ ap (λ (q : List ℕ). Some q) (one e)) is

  page_good : (k : ℕ) → 1 ≤ k → asked k ≡ true → IsSome (page_decoded sp k)
  page_good k behind is =
      let node : NodeImage = at_node o.tree.tree.nodes (k + 1) in
      let f : asked k ≡ true → List ℕ = λ e. (read k e).1.ciphertext in
      let own : block k ≡ when (asked k) f = cond-false (k == 0) front.seals.0 (when (asked k) f) (ne_eqb k 0 (λ same. omega (arith, behind, same))) in
      let same : page_decoded sp k ≡ page_of o.tree.key o.tree.tree.head node k (when (asked k) f) = λ i. page_of (sym key i) o.tree.tree.head node k (own i) in
      subst IsSome (sym same)
      (when-true (asked k) f (λ c. IsSome (page_of o.tree.key o.tree.tree.head node k c)) (λ e. subst IsSome (sym (read k e).1.opens) refl) is)

  -- what holds of the front's and of each that was read holds of these
  pub block_first : block 0 ≡ front.seals.0
  block_first = refl

  pub block_each : (P : List ℕ → Type 0) (k : ℕ) → 1 ≤ k → ((is : asked k ≡ true) → P (read k is).1.ciphertext) → asked k ≡ true → P (block k)
  block_each P k behind each is =
      let f : asked k ≡ true → List ℕ = λ e. (read k e).1.ciphertext in
      let own : block k ≡ when (asked k) f = cond-false (k == 0) front.seals.0 (when (asked k) f) (ne_eqb k 0 (λ same. omega (arith, behind, same))) in
      subst P (sym own) (when-true (asked k) f P each is)

  -- each other block that was asked was seen
  pub block_seen : (k : ℕ) → ((k == 0) || asked k) ≡ true → 1 ≤ k
      → WasSeen (In o.tree.tree.layout (block_part k (block_version o.tree.tree.nodes k))) old new (λ image. block k ≡ block_in image o.tree.tree k)
  block_seen k any behind = elim (or_true (k == 0) (asked k) any) [
    | inl zero ↦ absurd (omega (arith, behind, eqb-true k 0 zero))
    | inr one ↦
        block_each (λ c. WasSeen (In o.tree.tree.layout (block_part k (block_version o.tree.tree.nodes k))) old new (λ image. c ≡ block_in image o.tree.tree k)) k behind
        (λ e. (read k e).1.seen) one
  ]

  -- block 0 and the others were given
  pub good_blocks : ((k : ℕ) → asked k ≡ true → 1 ≤ k) → (k : ℕ) → ((k == 0) || asked k) ≡ true → IsSome (page_decoded sp k)
  good_blocks behind k any = elim (or_true (k == 0) (asked k) any) [
    | inl zero ↦ subst (λ (j : ℕ). IsSome (page_decoded sp j)) (sym (eqb-true k 0 zero)) (subst IsSome (sym page_front) refl)
    | inr one ↦ page_good k (behind k one) one
  ]

module _ (wrap : List ℕ) (old new : FileState) (o : HeldObject) (at : ℕ) (before after : List ℕ) (n handle : ℕ) (key : o.tree.key ≡ unwrapped_of wrap o.tree.tree.head.wrapped)
    (front : HasFront o) (reads : ReadsObject old new o at before after (Ok n)) where
  abbrev count : ℕ
  count = read_count o at (length before)

  abbrev met : ℕ → Bool
  met k = meets (4096 + at) (4096 + at + count) k

  bytes : AreReadBytes o.tree.key o.tree.tree old new (4096 + at) after count
  bytes = subst (λ (m : ℕ). AreReadBytes o.tree.key o.tree.tree old new (4096 + at) after m) reads.count reads.bytes

  abbrev was : (k : ℕ) → met k ≡ true → WasRead o.tree.key o.tree.tree old new k
  was k is = (bytes.pages k, bytes.read k is)

  good : (k : ℕ) → is_asked (size_in o) at (Read handle (length before)) k ≡ true → IsSome (page_decoded (sp wrap old new o key front met was) k)
  good k any = good_blocks wrap old new o key front met was (λ j is. met_data at count j is) k any

  abbrev given : o.tree.tree.head.length ≡ 4096 + size_in o → Gave wrap o.tree.root (size_in o) (is_asked (size_in o) at (Read handle (length before)))
  given long = record { tree = o.tree.tree; verified = reads.verified; long = long; block = block wrap old new o key front met was; good = good }

  seen_given : (long : o.tree.tree.head.length ≡ 4096 + size_in o) → IsGivenBy old new o front (given long)
  seen_given long = record { tree = refl; first = refl; seen = λ k any behind. block_seen wrap old new o key front met was k any behind }

  told : length after ≡ length before → take n after ≡ bytes_from (page_decoded (sp wrap old new o key front met was)) (4096 + at) (min (length before) (size_in o - at))
  told whole =
      let within : n ≤ length after = omega (arith, reads.count, whole) in
      let long : length (take n after) ≡ count = length-take-le n after within ∙ reads.count in
      sym (bytes_from-is (page_decoded (sp wrap old new o key front met was)) (4096 + at) count (take n after) long (λ i lt.
      let k : ℕ = (4096 + at + i) / 4096 in
      let is : met k ≡ true = meets_place (4096 + at) count i lt in
      get_or-take n after i 0 (omega (arith, lt, reads.count)) ∙ bytes.are i lt
      ∙ sym (ap (λ (page : Option (List ℕ)). byte_in page ((4096 + at + i) % 4096)) (page_read wrap old new o key front met was k (bytes.pages k) (met_data at count k is) (λ e. refl) is))))

pub reads_tell : ReadsTell
reads_tell wrap old new o at before after n handle key long whole front reads = (
  given wrap old new o at before after n handle key front reads long,
  seen_given wrap old new o at before after n handle key front reads long,
  told wrap old new o at before after n handle key front reads whole,
)

needed_data : (r : ByteRange) (k : ℕ) → 4096 ≤ r.first → needs r k ≡ true → 1 ≤ k
needed_data r k behind is = grind (arith, behind, is)

pub changes_give : ChangesGive
changes_give wrap old new o c key long verified behind front read = (
  record {
    tree = o.tree.tree;
    verified = verified;
    long = long;
    block = block wrap old new o key front (needs c.range) read;
    good = good_blocks wrap old new o key front (needs c.range) read (λ k is. needed_data c.range k behind is);
  },
  record { tree = refl; first = refl; seen = λ k any one. block_seen wrap old new o key front (needs c.range) read k any one },
)
