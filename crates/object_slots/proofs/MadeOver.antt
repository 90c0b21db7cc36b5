-- What a stage was made over, whatever its file is: the ciphertexts that its nodes seal, over what was read.
use Rattle.std.proofs.Common.{◌≡◌, ◌∙◌, ◌⊎◌, ◌+◌, ◌<◌, ◌≤◌, ◌==◌, ◌||◌, ◌&&◌, nat_lt, min, ℕ, Bool, true, false, true≢false, cond, List, [], length, Some, inl, inr, refl, sym, ap, subst, arith}
use Rattle.std.proofs.lemmas.Bool.{and_parts, cases_lt, cond-false, cond-true, lt-ltb, ltb-true}
use Rattle.disk_model.specs.State.{FileState}
use Rattle.aes_block.specs.WrappedKey.{unwrapped_of}
use Rattle.hmac_keys.specs.declared.Keys.{Keys}
use Rattle.node_image.specs.declared.node.RootRef.{RootRef}
use Rattle.node_image.specs.declared.head.Head.{Head}
use Rattle.node_image.specs.Layout.{greatest_of}
use Rattle.node_image.specs.Tables.{at_node}
use Rattle.htree_file.specs.Pages.{page_of}
use Rattle.htree_file.specs.Value.{Staged}
use Rattle.htree_file.proofs.Sizes.{sized_greatest}
use Rattle.page_bytes.specs.declared.range.ByteRange.{ByteRange}
use Rattle.page_bytes.specs.Ranges.{end_block, first_block, meets, needs}
use Rattle.page_bytes.specs.Rewriting.{IsRewritten}
use Rattle.page_bytes.proofs.Content.{blocks-met}
use Rattle.block_file.specs.Reads.{IsPage, WasRead}
use Rattle.object_file.specs.DeviceKeys.{object_key}
use Rattle.history_seats.specs.Records.{Version}
use Rattle.history_seats.proofs.Lists.{both_true}
use Rattle.core_laws.specs.Given.{Gave, decoding_given}
use Rattle.core_laws.specs.Decodings.{block_of, wrap_of}
use Rattle.core_laws.specs.WriteLaws.{IsMadeOver}
use Rattle.core_laws.proofs.ReplayState.{page_same}
use Rattle.object_file.specs.Value.{size_in}
use Rattle.object_slots.specs.Gives.{IsGivenBy}
use Rattle.object_slots.specs.SlotStages.{DataChange, IsStageOf}
use Rattle.object_slots.specs.SlotValues.{HeldObject}
use Rattle.object_slots.proofs.GiveLaws.{block as given_block, block_seen, good_blocks, page_read}
use Rattle.object_slots.specs.SlotObjects.{IsObjectOf}
use Rattle.object_slots.proofs.NewObjects.{pick, pick-is}
use Rattle.object_slots.proofs.NextVersions.{decoded_block, version_decoded}

needed_data : (r : ByteRange) (k : ℕ) → 4096 ≤ r.first → needs r k ≡ true → 1 ≤ k
needed_data r k behind is = grind (arith, behind, is)

needs_met : (r : ByteRange) (k : ℕ) → needs r k ≡ true → meets r.first r.last k ≡ true
needs_met r k is = (and_parts (meets r.first r.last k) _ is).0

-- a block that the change remade: its page, a ciphertext of that, and the page that it was made over
pub record RemadeBlock : Type 0 where
  pub page : List ℕ
  pub text : List ℕ
  pub over : List ℕ

module _ (keys : Keys) (old new : FileState) (o : HeldObject) (v : Version) (c : DataChange) (root : RootRef) (s : Staged) (stage : IsStageOf old new o c root s) (is : IsObjectOf keys old o v)
    (behind : 4096 ≤ c.range.first) (inside : (k : ℕ) → needs c.range k ≡ true → k < greatest_of (4096 + c.size)) where
  abbrev r : ByteRange
  r = c.range

  abbrev n : ℕ
  n = length s.tree.nodes

  long : s.tree.head.length ≡ 4096 + c.size
  long = ap (λ (h : Head). h.length) stage.head

  whole : n ≡ greatest_of s.tree.head.length
  whole = stage.verified.hashed.all ∙ sized_greatest s.tree.head stage.verified.hashed.sized

  count : n ≡ greatest_of (4096 + c.size)
  count = whole ∙ ap greatest_of long

  -- the block is there, and the change meets it
  abbrev is_met : ℕ → Bool
  is_met k = nat_lt k n && meets r.first r.last k

  pub upto : (k : ℕ) → is_met k ≡ true → k < min (end_block r) (greatest_of (4096 + c.size))
  upto k b =
      let both = and_parts (nat_lt k n) (meets r.first r.last k) b in
      let low : k < n = ltb-true k n both.0 in
      let met = (blocks-met r k).1 both.1 in
      omega (arith, low, count, met.1)

  abbrev remade_by : (k : ℕ) → is_met k ≡ true → RemadeBlock
  remade_by k b =
      let both = and_parts (nat_lt k n) (meets r.first r.last k) b in
      let m = stage.seals.met k (ltb-true k n both.0) ((blocks-met r k).1 both.1).0 (upto k b) in
      record { page = m.0; text = m.1.0; over = m.2.over }

  abbrev blank : RemadeBlock
  blank = record { page = []; text = []; over = [] }

  abbrev remade : ℕ → RemadeBlock
  remade k = pick (is_met k) blank (remade_by k)

  met_so : (k : ℕ) → k < n → meets r.first r.last k ≡ true → is_met k ≡ true
  met_so k lt met = both_true (nat_lt k n) (meets r.first r.last k) (lt-ltb k n lt) met

  opens : (k : ℕ) → is_met k ≡ true → page_of o.tree.key s.tree.head (at_node s.tree.nodes (k + 1)) k (remade k).text ≡ Some (remade k).page
  opens k b =
      pick-is (is_met k) blank (remade_by k) (λ x. page_of o.tree.key s.tree.head (at_node s.tree.nodes (k + 1)) k x.text ≡ Some x.page)
      (λ e. let both = and_parts (nat_lt k n) (meets r.first r.last k) e in (stage.seals.met k (ltb-true k n both.0) ((blocks-met r k).1 both.1).0 (upto k e)).1.1) b

  was_read : (k : ℕ) → is_met k ≡ true → needs r k ≡ true → IsPage o.tree.key o.tree.tree old new k (remade k).over
  was_read k b =
      pick-is (is_met k) blank (remade_by k) (λ x. needs r k ≡ true → IsPage o.tree.key o.tree.tree old new k x.over)
      (λ e. let both = and_parts (nat_lt k n) (meets r.first r.last k) e in (stage.seals.met k (ltb-true k n both.0) ((blocks-met r k).1 both.1).0 (upto k e)).2.read) b

  rewritten : (k : ℕ) → is_met k ≡ true → IsRewritten r c.at c.bytes k (remade k).over (remade k).page
  rewritten k b =
      pick-is (is_met k) blank (remade_by k) (λ x. IsRewritten r c.at c.bytes k x.over x.page)
      (λ e. let both = and_parts (nat_lt k n) (meets r.first r.last k) e in (stage.seals.met k (ltb-true k n both.0) ((blocks-met r k).1 both.1).0 (upto k e)).2.rewritten) b

  -- what was read of the blocks that the change needs
  abbrev read : (k : ℕ) → needs r k ≡ true → WasRead o.tree.key o.tree.tree old new k
  read k need = ((remade k).over, was_read k (met_so k (subst (λ (m : ℕ). k < m) (sym count) (inside k need)) (needs_met r k need)) need)

  pub gave : Gave (wrap_of keys v) o.tree.root (size_in o) (λ k. (k == 0) || needs r k)
  gave = record {
    tree = o.tree.tree;
    verified = is.verified;
    long = is.long;
    block = given_block (wrap_of keys v) old new o is.key is.front (needs r) read;
    good = good_blocks (wrap_of keys v) old new o is.key is.front (needs r) read (λ k need. needed_data r k behind need);
  }

  pub gave_by : IsGivenBy old new o is.front gave
  unfolding gave
  gave_by = record { tree = refl; first = refl; seen = λ k any one. block_seen (wrap_of keys v) old new o is.key is.front (needs r) read k any one }

  -- the ciphertexts of the next version: what the nodes seal, or what the version has
  abbrev pub chosen : ℕ → List ℕ
  chosen k = cond (meets r.first r.last k) (remade k).text (block_of v k)

  abbrev next : Version
  next = version_decoded keys s.root s.tree v.app c.size v.attributes chosen

  key : o.tree.key ≡ unwrapped_of (object_key keys v.app) s.tree.head.wrapped
  key = is.key ∙ ap (λ (h : Head). unwrapped_of (object_key keys v.app) h.wrapped) (sym stage.head)

  text_at : (k : ℕ) → k < n → block_of next k ≡ chosen k
  text_at k lt = decoded_block keys s.root s.tree v.app c.size v.attributes chosen k lt

  missed : (k : ℕ) → meets r.first r.last k ≡ false → (k < first_block r) ⊎ (min (end_block r) (greatest_of (4096 + c.size)) ≤ k)
  missed k off = elim (cases_lt k (first_block r)) [
    | inl low ↦ inl low
    | inr from ↦ elim (cases_lt k (end_block r)) [
      | inl before ↦ absurd (true≢false (sym ((blocks-met r k).0 (from, before)) ∙ off))
      | inr past ↦ inr (omega (arith, past))
    ]
  ]

  pub made_over : IsMadeOver keys v next (decoding_given gave) r c.at c.bytes
  unfolding gave
  made_over = record {
    app = refl;
    attributes = refl;
    tree = s.tree;
    loads = refl;
    long = long;
    whole = whole;
    wrapped = ap (λ (h : Head). h.wrapped) stage.head;
    met = λ k lt m.
        let b : is_met k ≡ true = met_so k lt m in
        record {
          over = (remade k).over;
          page = (remade k).page;
          needed = λ need. page_read (wrap_of keys v) old new o is.key is.front (needs r) read k (remade k).over (needed_data r k behind need) (λ e. refl) need;
          rewritten = rewritten k b;
          is =
              (λ i. page_of (sym key i) s.tree.head (at_node s.tree.nodes (k + 1)) k ((text_at k lt ∙ cond-true (meets r.first r.last k) (remade k).text (block_of v k) m) i))
              ∙ opens k b;
        };
    seal = λ k lt off. stage.seals.missed k lt (missed k off);
    page = λ k lt off.
        let seal = stage.seals.missed k lt (missed k off) in
        let wrapped : s.tree.head.wrapped ≡ o.tree.tree.head.wrapped = ap (λ (h : Head). h.wrapped) stage.head in
        page_same (unwrapped_of (wrap_of keys v) s.tree.head.wrapped) (unwrapped_of (wrap_of keys v) o.tree.tree.head.wrapped) s.tree.head o.tree.tree.head (at_node s.tree.nodes (k + 1))
        (at_node o.tree.tree.nodes (k + 1)) k (block_of next k) (block_of v k) (ap (unwrapped_of (wrap_of keys v)) wrapped) wrapped seal.0 seal.1
        (text_at k lt ∙ cond-false (meets r.first r.last k) (remade k).text (block_of v k) off);
  }
