-- What a locked slot has in memory of its object is of its version.
use Rattle.std.proofs.Common.{◌≡◌, ◌∙◌, ◌+◌, ◌≤◌, ◌==◌, ◌||◌, ℕ, Bool, true, false, true≢false, List, length, take, Some, refl, sym, subst, arith}
use Rattle.std.specs.Option.{IsSome}
use Rattle.std.specs.Prelude.{IfSome}
use Rattle.std.proofs.lemmas.Bool.{eq-eqb, eqb-true}
use Rattle.std.proofs.lemmas.Grind.{same_number_lists}
use Rattle.std.proofs.lemmas.List.{get_or-take, length-take-le}
use Rattle.disk_model.specs.State.{FileState}
use Rattle.hmac_keys.specs.declared.Keys.{Keys}
use Rattle.node_image.specs.declared.node.RootRef.{RootRef}
use Rattle.node_image.specs.Tables.{at_node}
use Rattle.htree_file.specs.Pages.{page_of}
use Rattle.tee_types.specs.declared.call.Call.TheVariants.{Info, Open}
use Rattle.tee_types.specs.declared.reply.Reply.TheVariants.{Handle as HandleReply, Info as InfoReply}
use Rattle.history_seats.specs.Records.{Version}
use Rattle.core_laws.specs.Given.{Gave, Tells, is_asked, decoding_given}
use Rattle.core_laws.specs.Decodings.{Decoding, page_decoded, tree_decoding, wrap_of}
use Rattle.core_laws.specs.Masked.{IsMaskedOf, told_taints}
use Rattle.core_laws.specs.Stores.{Store}
use Rattle.object_slots.proofs.MaskedObjects.{masked_fewer}
use Rattle.object_file.specs.Held.{held_in}
use Rattle.object_file.specs.Value.{size_in}
use Rattle.object_slots.specs.SlotValues.{HeldObject, Holding, IfLive, IsLive, SlotValue, committed, free, live, made, staged}
use Rattle.object_slots.specs.GuardedFronts.{ShowsAttributes, TellsInfo, TellsOpen}
use Rattle.object_slots.specs.SlotObjects.{IsObjectOf}
use Rattle.object_slots.specs.GuardedSlots.{SlotInvariant}
use Rattle.object_slots.specs.GuardedReads.{GivesVersion}
use Rattle.object_slots.proofs.Contents.{slot_object}

-- A live object is the committed one.
pub live_committed : (holds : Holding) → IsLive holds → IsSome (committed holds)
live_committed free on = absurd on
live_committed (made o) on = absurd on
live_committed (staged o s) on = absurd on
live_committed (live o) on = refl

-- What is said of the committed object is said of a live one.
pub if_live : (holds : Holding) (P : HeldObject → Type 0) → IfSome (committed holds) P → IfLive holds P
if_live free P said = tt
if_live (made o) P said = tt
if_live (live o) P said = said
if_live (staged o s) P said = tt

pub size_live : (size : ℕ) (holds : Holding) → IfSome (committed holds) (λ o. (size ≡ size_in o) × (o.tree.tree.head.length ≡ 4096 + size)) → IfLive holds (λ o. size ≡ size_in o)
size_live size free said = tt
size_live size (made o) said = tt
size_live size (live o) said = said.0
size_live size (staged o s) said = tt

only_first : (k : ℕ) → ((k == 0) || false) ≡ true → k ≡ 0
only_first k any = by_test (k == 0) refl any
  where
    by_test : (b : Bool) → (k == 0) ≡ b → (b || false) ≡ true → k ≡ 0
    by_test true e is = eqb-true k 0 e
    by_test false e is = absurd (true≢false (sym is))

module _ (keys : Keys) (file : FileState) (o : HeldObject) (v : Version) (is : IsObjectOf keys file o v) where
  abbrev sp : Decoding
  sp = tree_decoding (wrap_of keys v) (λ k. is.front.seals.0) o.tree.tree

  first : page_decoded sp 0 ≡ Some is.front.page
  first = (λ i. page_of (sym is.key i) o.tree.tree.head (at_node o.tree.tree.nodes 1) 0 is.front.seals.0) ∙ is.front.seals.1

  -- where block 0 alone is asked, it was given
  gave_first : (asked : ℕ → Bool) → ((k : ℕ) → asked k ≡ true → k ≡ 0) → Gave (wrap_of keys v) o.tree.root (size_in o) asked
  gave_first asked only = record {
    tree = o.tree.tree;
    verified = is.verified;
    long = is.long;
    block = λ k. is.front.seals.0;
    good = λ k any. subst (λ (j : ℕ). IsSome (page_decoded sp j)) (sym (only k any)) (subst IsSome (sym first) refl);
  }

  first_masked : (asked : ℕ → Bool) (only : (k : ℕ) → asked k ≡ true → k ≡ 0)
      → IsMaskedOf keys (told_taints file) v asked (gave_first asked only).tree (gave_first asked only).block
  unfolding gave_first
  first_masked asked only =
      masked_fewer keys (told_taints file) v (λ k. k == 0) asked o.tree.tree (λ k. is.front.seals.0) (λ k any. eq-eqb k 0 (only k any)) is.masked

  -- the attributes are the first bytes of its page
  own : length o.attributes ≤ 2048 → o.attributes ≡ take (length o.attributes) is.front.page
  own few =
      let page : List ℕ = is.front.page in
      let within : length o.attributes ≤ length page = omega (arith, few, is.front.long) in
      same_number_lists o.attributes (take (length o.attributes) page) (sym (length-take-le (length o.attributes) page within))
      (λ i lt. is.front.front i lt ∙ sym (get_or-take (length o.attributes) page i 0 lt))

  tells_info : length o.attributes ≤ 2048 → TellsInfo keys (told_taints file) v o.attributes
  unfolding gave_first
  tells_info few position handle at flags =
      let told = subst
      (λ (x : RootRef × ℕ × ℕ). (gave : Gave (wrap_of keys v) x.0 x.1 (is_asked x.1 position (Info handle)))
      × IsMaskedOf keys (told_taints file) v (is_asked x.1 position (Info handle)) gave.tree gave.block
      × Tells (decoding_given gave) x.1 x.2 position (Info handle) (InfoReply x.1 at flags o.attributes))
      (λ i. (sym is.root i, sym is.size i, sym is.attributes i))
      (gave_first (is_asked (size_in o) position (Info handle)) only_first, first_masked (is_asked (size_in o) position (Info handle)) only_first, (is.front.page, first, own few)) in
      (record { gave = told.0; masked = told.1 }, told.2)

  tells_open : TellsOpen keys (told_taints file) v
  tells_open position number id flags =
      let told = subst
      (λ (x : RootRef × ℕ). (gave : Gave (wrap_of keys v) x.0 x.1 (is_asked x.1 position (Open id flags)))
      × IsMaskedOf keys (told_taints file) v (is_asked x.1 position (Open id flags)) gave.tree gave.block
      × Tells (decoding_given gave) x.1 v.attributes position (Open id flags) (HandleReply number))
      (λ i. (sym is.root i, sym is.size i))
      (gave_first (is_asked (size_in o) position (Open id flags)) only_first, first_masked (is_asked (size_in o) position (Open id flags)) only_first, tt) in
      (record { gave = told.0; masked = told.1 }, told.2)

  pub shows : length o.attributes ≤ 2048 → ShowsAttributes keys file v o.attributes
  shows few = record { info = tells_info few; opening = tells_open; sound = λ honest. (held_in o file.reads, is.object honest, refl) }

-- What a slot says of its committed object it says of a version that its view gives.
module _ (store : Store) (slot : SlotValue) (is : SlotInvariant store slot) (v : Version) (given : GivesVersion slot v) where
  pub attributes_shown : (attributes : List ℕ) → length attributes ≤ 2048 → (holds : Holding) → slot.holds ≡ holds → IsLive holds → IfSome (committed holds) (λ o. attributes ≡ o.attributes)
      → ShowsAttributes store.keys slot.file v attributes
  attributes_shown attributes few free holds on said = absurd on
  attributes_shown attributes few (made o) holds on said = absurd on
  attributes_shown attributes few (staged o s) holds on said = absurd on
  attributes_shown attributes few (live o) holds on said =
      subst (ShowsAttributes store.keys slot.file v) (sym said)
      (shows store.keys slot.file o v (slot_object store slot v o is given holds) (subst (λ (l : List ℕ). length l ≤ 2048) said few))

  pub size_shown : (size : ℕ) → (holds : Holding) → slot.holds ≡ holds → IsLive holds → IfSome (committed holds) (λ o. (size ≡ size_in o) × (o.tree.tree.head.length ≡ 4096 + size)) → size ≡ v.size
  size_shown size free holds on said = absurd on
  size_shown size (made o) holds on said = absurd on
  size_shown size (staged o s) holds on said = absurd on
  size_shown size (live o) holds on said = said.0 ∙ sym (slot_object store slot v o is given holds).size
