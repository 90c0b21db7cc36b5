-- In an honest file a settled stage leaves the pages that the change makes.
use Rattle.std.proofs.Common.{◌≡◌, ◌∙◌, ◌⊎◌, ◌+◌, ◌*◌, ◌<◌, ◌≤◌, min, ℕ, true, false, true≢false, List, [], length, get_or, Option, Some, None, Result, Ok, IsTrue, inl, inr, refl, sym, ap, subst, arith}
use Rattle.std.proofs.lemmas.Bool.{cases_Bool, cases_lt}
use Rattle.std.specs.Option.{IsSome}
use Rattle.block_file.specs.Reads.{IsPage}
use Rattle.disk_model.specs.State.{FileState, Sound as SoundFile}
use Rattle.disk_model.proofs.ImageLaws.{reads_left}
use Rattle.aes_block.specs.WrappedKey.{unwrapped_of}
use Rattle.hmac_keys.specs.declared.Keys.{Keys}
use Rattle.node_image.specs.declared.node.RootRef.{RootRef}
use Rattle.node_image.specs.declared.head.Head.{Head}
use Rattle.node_image.specs.Layout.{greatest_of}
use Rattle.node_image.specs.Selection.{SelectedTree, row, selected_tree}
use Rattle.node_image.specs.Tables.{at_node}
use Rattle.node_image.proofs.Matching.{row_at}
use Rattle.htree_file.specs.declared.fault.TreeFault.{TreeFault}
use Rattle.htree_file.specs.Changes.{SealsAt}
use Rattle.htree_file.specs.Opening.{load_of}
use Rattle.htree_file.specs.Pages.{Opened, opened_in, opened_of, page_in, page_of}
use Rattle.htree_file.specs.Standing.{Told}
use Rattle.htree_file.specs.Value.{Staged}
use Rattle.htree_file.proofs.SelectedBlocks.{selected_block}
use Rattle.htree_file.proofs.Sizes.{sized_greatest}
use Rattle.page_bytes.specs.declared.range.ByteRange.{ByteRange}
use Rattle.page_bytes.specs.Changed.{HasRewritten}
use Rattle.page_bytes.specs.Pages.{bytes_from, page_at}
use Rattle.page_bytes.specs.Ranges.{end_block, first_block, meets, needs}
use Rattle.page_bytes.proofs.Content.{blocks-met}
use Rattle.block_file.specs.Stages.{IsAfter, bytes_in}
use Rattle.object_file.specs.DeviceKeys.{object_key}
use Rattle.history_seats.specs.Records.{Version}
use Rattle.core_laws.specs.SlotParts.{IsShownIn}
use Rattle.core_laws.specs.Decodings.{Decoding, block_of, page_decoded, tree_decoding}
use Rattle.object_slots.specs.SlotStages.{DataChange, HoldsStage, IsStageOf}
use Rattle.object_slots.specs.SlotValues.{HeldObject}
use Rattle.object_slots.specs.SlotObjects.{IsObjectOf}
use Rattle.object_slots.proofs.HonestPages.{Lays, page_rewritten}

-- what a version spells by the tree of its object, and the next one by the stage's
abbrev pub page_decoding : Keys → Version → HeldObject → Decoding
page_decoding keys v o = tree_decoding (object_key keys v.app) (block_of v) o.tree.tree

abbrev pub next_decoding : Keys → (new : FileState) → Version → Staged → Decoding
next_decoding keys new v s = tree_decoding (object_key keys v.app) (λ k. get_or (selected_tree new.reads s.root).blocks k []) s.tree

pub needed_old : (r : ByteRange) (k : ℕ) → needs r k ≡ true → 4096 * k < r.size
needed_old r k is = grind (arith, is)

some_is : {A : Type 0} (o : Option A) → IsSome o → (a : A) × (o ≡ Some a)
some_is None is = absurd (true≢false (sym is))
some_is (Some a) is = (a, refl)

module _ (keys : Keys) (old new : FileState) (o : HeldObject) (v : Version) (c : DataChange) (root : RootRef) (s : Staged) (stage : IsStageOf old new o c root s) (is : IsObjectOf keys old o v)
    (sound : SoundFile old) (still : SoundFile new) (honest : IsTrue new.honest) (was_honest : IsTrue old.honest)
    (size : o.tree.tree.head.length ≡ c.range.size) (lays : Lays c.range c.at c.bytes c.left)
    (grown : (k : ℕ) → k < greatest_of (4096 + c.size) → greatest_of o.tree.tree.head.length ≤ k → meets c.range.first c.range.last k ≡ true) where
  abbrev wrap : List ℕ
  wrap = object_key keys v.app

  abbrev was : Decoding
  was = page_decoding keys v o

  abbrev now : Decoding
  now = next_decoding keys new v s

  told : Told old new
  told = (still.told honest, inl honest)

  shown : IsShownIn keys old.reads v
  shown = (is.stands was_honest).shown old.reads (reads_left old sound)

  loads : load_of old.reads o.tree.root ≡ Ok o.tree.tree
  loads = ap (load_of old.reads) (sym is.root) ∙ shown.loads ∙ is.loads was_honest

  holds : HoldsStage old new o c s
  holds = stage.stands told loads

  abbrev opened_was : Opened
  opened_was = record { bytes = o.tree.tree.head.length; pages = row (page_in old.reads (unwrapped_of wrap o.tree.tree.head.wrapped) o.tree.tree) (length o.tree.tree.nodes) }

  abbrev opened_now : Opened
  opened_now = record { bytes = s.tree.head.length; pages = row (page_in new.reads (unwrapped_of wrap s.tree.head.wrapped) s.tree) (length s.tree.nodes) }

  ok_opened : (a b : Opened) (q : Result Opened TreeFault) → q ≡ Ok a → q ≡ Ok b → a ≡ b
  ok_opened a b q e f = cc

  after : IsAfter c.range (c.left (bytes_in opened_was)) opened_was opened_now
  after =
      let left = holds.bytes wrap opened_was is.key (ap (opened_in old.reads wrap) loads) in
      subst (IsAfter c.range (c.left (bytes_in opened_was)) opened_was)
      (ok_opened left.0 opened_now (opened_of wrap new.reads s.root) left.1 (ap (opened_in new.reads wrap) holds.loads)) left.2

  -- the pages of the old tree, and of the new one
  page_was : (k : ℕ) → k < length o.tree.tree.nodes → page_decoded was k ≡ page_at opened_was.pages k
  page_was k lt =
      let text : block_of v k ≡ get_or (selected_tree old.reads o.tree.root).blocks k [] =
      ap (λ (t : SelectedTree). get_or t.blocks k []) (sym shown.selects) ∙ ap (λ (x : RootRef). get_or (selected_tree old.reads x).blocks k []) is.root in
      ap (page_of (unwrapped_of wrap o.tree.tree.head.wrapped) o.tree.tree.head (at_node o.tree.tree.nodes (k + 1)) k) (text ∙ selected_block old.reads o.tree.root o.tree.tree loads k lt)
      ∙ sym (row_at (page_in old.reads (unwrapped_of wrap o.tree.tree.head.wrapped) o.tree.tree) (length o.tree.tree.nodes) k None lt)

  page_now : (k : ℕ) → k < length s.tree.nodes → page_decoded now k ≡ page_at opened_now.pages k
  page_now k lt =
      ap (page_of (unwrapped_of wrap s.tree.head.wrapped) s.tree.head (at_node s.tree.nodes (k + 1)) k) (selected_block new.reads s.root s.tree holds.loads k lt)
      ∙ sym (row_at (page_in new.reads (unwrapped_of wrap s.tree.head.wrapped) s.tree) (length s.tree.nodes) k None lt)

  count : length s.tree.nodes ≡ greatest_of (4096 + c.size)
  count = stage.verified.hashed.all ∙ sized_greatest s.tree.head stage.verified.hashed.sized ∙ ap (λ (h : Head). greatest_of h.length) stage.head

  old_count : length o.tree.tree.nodes ≡ greatest_of o.tree.tree.head.length
  old_count = is.verified.hashed.all ∙ sized_greatest o.tree.tree.head is.verified.hashed.sized

  -- a block that the change misses keeps its page, good or bad
  pub page_missed : (k : ℕ) → k < length s.tree.nodes → meets c.range.first c.range.last k ≡ false → page_decoded now k ≡ page_decoded was k
  page_missed k lt off =
      let there : k < length o.tree.tree.nodes = elim (cases_lt k (length o.tree.tree.nodes)) [
        | inl low ↦ low
        | inr past ↦ absurd (true≢false (sym (grown k (omega (arith, lt, count)) (omega (arith, past, old_count))) ∙ off))
      ] in
      let listed : k < length opened_now.pages = omega (arith, lt, after.blocks, count, ap (λ (h : Head). h.length) stage.head) in
      page_now k lt ∙ after.changed.same k listed off ∙ sym (page_was k there)

  -- a block that it needs is good
  pub page_needed : (k : ℕ) → needs c.range k ≡ true → (over : List ℕ) × (page_decoded was k ≡ Some over)
  page_needed k need =
      let there : k < length o.tree.tree.nodes = omega (arith, old_count, size, needed_old c.range k need) in
      let read = stage.read k need in
      let page : IsPage o.tree.key o.tree.tree old new k read.0 = read.1 in (
        read.0,
        page_was k there
            ∙ row_at (page_in old.reads (unwrapped_of wrap o.tree.tree.head.wrapped) o.tree.tree) (length o.tree.tree.nodes) k None there
            ∙ (λ i. page_of (sym is.key i) o.tree.tree.head (at_node o.tree.tree.nodes (k + 1)) k (sym (page.stands told) i))
            ∙ page.opens,
      )

  over_for : (k : ℕ) → (over : List ℕ) × (needs c.range k ≡ true → page_decoded was k ≡ Some over)
  over_for k = elim (cases_Bool (needs c.range k)) [
    | inl need ↦ let one = page_needed k need in (one.0, λ e. one.1)
    | inr off ↦ ([], λ need. absurd (true≢false (sym need ∙ off)))
  ]

  -- and one that it meets has the page that the change makes
  pub page_met : (k : ℕ) → k < length s.tree.nodes → meets c.range.first c.range.last k ≡ true → HasRewritten c.range c.at c.bytes k (page_decoded was k) (page_decoded now k)
  page_met k lt met =
      let listed : k < length opened_now.pages = omega (arith, lt, after.blocks, count, ap (λ (h : Head). h.length) stage.head) in
      let good = some_is (page_at opened_now.pages k) (after.changed.good k listed met) in
      let over = over_for k in
      let old_bytes : List ℕ = bytes_in opened_was in
      let there : needs c.range k ≡ true → k < length o.tree.tree.nodes = λ need. omega (arith, old_count, size, needed_old c.range k need) in
      record {
        over = over.0;
        page = good.0;
        needed = over.1;
        rewritten =
            page_rewritten c.range c.at c.bytes c.left lays (page_at opened_was.pages) (page_at opened_now.pages) old_bytes (ap (bytes_from (page_at opened_was.pages) 0) size)
            (ap (bytes_from (page_at opened_now.pages) 0) (sym after.size) ∙ after.bytes) k good.0 over.0 good.1 met
            (λ need. sym (page_was k (there need)) ∙ over.1 need)
            (λ i small past. after.behind k i listed met small past);
        is = page_now k lt ∙ good.1;
      }

  pub seal_missed : (k : ℕ) → k < length s.tree.nodes → meets c.range.first c.range.last k ≡ false → SealsAt o.tree.key o.tree.tree s.tree k None
  seal_missed k lt off = stage.seals.missed k lt (missed k off)
    where
      missed : (k : ℕ) → meets c.range.first c.range.last k ≡ false → (k < first_block c.range) ⊎ (min (end_block c.range) (greatest_of (4096 + c.size)) ≤ k)
      missed k off = elim (cases_lt k (first_block c.range)) [
        | inl low ↦ inl low
        | inr from ↦ elim (cases_lt k (end_block c.range)) [
          | inl before ↦ absurd (true≢false (sym ((blocks-met c.range k).0 (from, before)) ∙ off))
          | inr past ↦ inr (omega (arith, past))
        ]
      ]
