-- A change over what was given leaves what the machine's does, or what was given strays.
use Rattle.std.proofs.Common.{◌≡◌, ◌⊎◌, ◌+◌, ◌*◌, ◌==◌, ◌<◌, ◌≤◌, ℕ, Bool, true, false, true≢false, List, [], length, max, min, Option, Some, None, IsSome, refl, sym, ap, ◌∙◌, subst, inl, inr, arith}
use Rattle.std.proofs.lemmas.Bool.{cases_lt}
use Rattle.tee_types.specs.declared.call.Call.TheVariants.{Truncate, Write}
use Rattle.node_image.specs.Layout.{greatest_of}
use Rattle.node_image.specs.Tables.{at_node}
use Rattle.node_image.specs.declared.head.Head.{Head}
use Rattle.node_image.proofs.Matching.{length-row, row_at}
use Rattle.hmac_keys.specs.declared.Keys.{Keys}
use Rattle.aes_block.specs.WrappedKey.{unwrapped_of}
use Rattle.htree_file.specs.Changes.{SealsAt}
use Rattle.htree_file.specs.Opening.{IsVerified, Loaded}
use Rattle.htree_file.proofs.Sizes.{sized_greatest}
use Rattle.page_bytes.specs.declared.range.ByteRange.{ByteRange}
use Rattle.page_bytes.specs.Changed.{HasRewritten, IsChanged}
use Rattle.disk_model.specs.Bytes.{after_resize, after_write}
use Rattle.page_bytes.specs.Pages.{bytes_from, page_at}
use Rattle.page_bytes.specs.Ranges.{meets, needs, resize_range, write_range}
use Rattle.page_bytes.proofs.Content.{bytes-resized, bytes-written}
use Rattle.store_model.specs.Object.{Contents, Sound}
use Rattle.store_model.specs.Data.{resized_contents, written_contents}
use Rattle.crash_core.specs.MountedObject.{object_of}
use Rattle.crash_core.proofs.ObjectChanges.{object_of-resized, object_of-written}
use Rattle.history_seats.specs.Records.{Version}
use Rattle.history_seats.proofs.Lists.{or_right}
use Rattle.core_laws.specs.Decodings.{IsReal, Decoding, block_of, object_decoded, opened_decoded, page_decoded, pages_decoded, tree_decoding_if, with_committed, wrap_of}
use Rattle.core_laws.specs.TamperScenarios.{TamperScenario, object_under, under}
use Rattle.core_laws.specs.Clashes.{IsAlike}
use Rattle.core_laws.specs.Given.{Gave, is_asked, decoding_given}
use Rattle.core_laws.specs.Shown.{Strays}
use Rattle.core_laws.specs.TreeLaws.{KeepsGood}
use Rattle.core_laws.specs.WriteLaws.{IsMadeOver, TruncationsStandOrStray, WritesStandOrStray, tree_decoding_next}
use Rattle.core_laws.proofs.ReplayState.{keeps_own, key_under, page_same, unmet_page, verified_under}
use Rattle.core_laws.proofs.SameTrees.{alike_trees}
use Rattle.core_laws.proofs.Comparing.{compare, is_some_of, meets_from, search_all}
use Rattle.core_laws.proofs.Undamaged.{asked_within, damaged_sound, sound_of}

-- Each asked block is good, or one is bad.
pub all_good : (asked : ℕ → Bool) (sp : Decoding) → ((k : ℕ) → k < length sp.tree.nodes → asked k ≡ true → IsSome (page_decoded sp k)) ⊎ ((k : ℕ) × (asked k ≡ true) × (page_decoded sp k ≡ None))
all_good asked sp = search_all (length sp.tree.nodes) (λ k. asked k ≡ true → IsSome (page_decoded sp k)) ((k : ℕ) × (asked k ≡ true) × (page_decoded sp k ≡ None)) (λ k lt. by_page k (page_decoded sp k) refl (asked k) refl)
  where
    by_page : (k : ℕ) (o : Option (List ℕ)) → page_decoded sp k ≡ o → (b : Bool) → asked k ≡ b → (asked k ≡ true → IsSome (page_decoded sp k)) ⊎ ((k : ℕ) × (asked k ≡ true) × (page_decoded sp k ≡ None))
    by_page k (Some page) e b is = inl (λ _. is_some_of (page_decoded sp k) page e)
    by_page k None e true is = inr (k, is, e)
    by_page k None e false is = inl (λ yes. absurd (true≢false (sym yes ∙ is)))

module _ (keys : Keys) (scenario : TamperScenario) (file generation : ℕ) (v next : Version) (asked : ℕ → Bool) (real : IsReal keys v) (gave : Gave (wrap_of keys v) v.root v.size asked)
    (r : ByteRange) (at : ℕ) (bytes : List ℕ) (made : IsMadeOver keys v next (decoding_given gave) r at bytes)
    (needed : (k : ℕ) → needs r k ≡ true → (asked k ≡ true) × (4096 * k < 4096 + v.size))
    (low : (k : ℕ) → asked k ≡ true → 4096 * k < 4096 + v.size)
    (grown : (k : ℕ) → k < length made.tree.nodes → greatest_of (4096 + v.size) ≤ k → meets r.first r.last k ≡ true) where
  abbrev given : Decoding
  given = decoding_given gave

  abbrev own : Decoding
  own = tree_decoding_next keys next made.tree

  pub kept : KeepsGood keys scenario file generation next own
  kept = keeps_own keys scenario file generation next own (ap (tree_decoding_if (wrap_of keys next) (block_of next)) made.loads)

  abbrev new : Decoding
  new = kept.sp

  -- what the change leaves of the blocks, where what was given is what stands
  pub record IsLaid (old : Decoding) : Type 0 where
    pub count : length old.tree.nodes ≡ greatest_of (4096 + v.size)
    pub long : old.tree.head.length ≡ 4096 + v.size
    pub met : (k : ℕ) → k < length made.tree.nodes → meets r.first r.last k ≡ true → HasRewritten r at bytes k (page_at (pages_decoded old) k) (page_at (pages_decoded new) k)
    pub missed : (k : ℕ) → k < length made.tree.nodes → meets r.first r.last k ≡ false → page_at (pages_decoded new) k ≡ page_at (pages_decoded old) k

  abbrev Strayed : Decoding → Type 0
  Strayed old = Strays (Some old) asked given

  laid : (old : Decoding) → under keys scenario file generation v ≡ Some old → old.tree.head.length ≡ 4096 + v.size → IsLaid old ⊎ Strayed old
  laid old stands long = elim (alike_trees v.root old.tree gave.tree verified gave.verified) [
    | inr clash ↦ inr (inr (inl clash))
    | inl alike ↦ elim (all_good asked old) [
      | inr bad ↦ inr (inl (inr bad))
      | inl good ↦ elim (compare asked old given (key_is alike) alike (λ k is. (within k (low k is), good k (within k (low k is)) is)) gave.good) [
        | inr clash ↦ inr (inr (inr clash))
        | inl same ↦ inl (record { count = count; long = long; met = λ k lt is. met alike same k lt is; missed = λ k lt is. missed alike k lt is })
      ]
    ]
  ]
    where
      verified : IsVerified v.root old.tree
      verified = verified_under keys scenario file generation v old stands real

      count : length old.tree.nodes ≡ greatest_of (4096 + v.size)
      count = verified.hashed.all ∙ sized_greatest old.tree.head verified.hashed.sized ∙ ap greatest_of long

      within : (k : ℕ) → 4096 * k < 4096 + v.size → k < length old.tree.nodes
      within k lt = omega (arith, count, lt)

      key_is : IsAlike old.tree gave.tree → old.key ≡ given.key
      key_is alike = key_under keys scenario file generation v old stands ∙ ap (λ (h : Head). unwrapped_of (wrap_of keys v) h.wrapped) alike.head

      old-at : (k : ℕ) → k < length old.tree.nodes → page_at (pages_decoded old) k ≡ page_decoded old k
      old-at k lt = row_at (page_decoded old) (length old.tree.nodes) k None lt

      new-at : (k : ℕ) → k < length made.tree.nodes → page_at (pages_decoded new) k ≡ page_decoded new k
      new-at k lt = row_at (page_decoded new) (length new.tree.nodes) k None (omega (arith, lt, ap (λ (t : Loaded). length t.nodes) kept.tree))

      met : IsAlike old.tree gave.tree → ((k : ℕ) → k < length old.tree.nodes → asked k ≡ true → page_decoded old k ≡ page_decoded given k) → (k : ℕ) → k < length made.tree.nodes
          → meets r.first r.last k ≡ true → HasRewritten r at bytes k (page_at (pages_decoded old) k) (page_at (pages_decoded new) k)
      met alike same k lt is =
          let x = made.met k lt is in
          record {
            over = x.over;
            page = x.page;
            needed = λ needs_it.
                let n = needed k needs_it in
                let inside = within k n.1 in
                old-at k inside ∙ same k inside n.0 ∙ x.needed needs_it;
            rewritten = x.rewritten;
            is = new-at k lt ∙ kept.good k x.page x.is;
          }

      missed : IsAlike old.tree gave.tree → (k : ℕ) → k < length made.tree.nodes → meets r.first r.last k ≡ false → page_at (pages_decoded new) k ≡ page_at (pages_decoded old) k
      missed alike k lt off =
          let inside : k < length old.tree.nodes = elim (cases_lt k (length old.tree.nodes)) [ inl there ↦ there | inr past ↦ absurd (true≢false (sym (grown k lt (omega (arith, past, count))) ∙ off)) ] in
          let n = alike.nodes (k + 1) (omega arith) (omega (arith, inside)) in
          let s = made.seal k lt off in
          let seals : SealsAt old.key old.tree new.tree k None = (
            ap (λ (t : Loaded). (at_node t.nodes (k + 1)).iv) kept.tree ∙ s.0 ∙ sym n.iv,
            ap (λ (t : Loaded). (at_node t.nodes (k + 1)).tag) kept.tree ∙ s.1 ∙ sym n.tag,
          ) in
          let wrapped : new.tree.head.wrapped ≡ old.tree.head.wrapped =
          ap (λ (t : Loaded). t.head.wrapped) kept.tree ∙ made.wrapped ∙ ap (λ (h : Head). h.wrapped) (sym alike.head) in
          -- what is committed in both versions gives one page, by the new tree and by the old one
          let own_key : new.key ≡ own.key =
          key_under keys scenario file generation next new kept.stands ∙ ap (λ (t : Loaded). unwrapped_of (wrap_of keys next) t.head.wrapped) kept.tree in
          let page : page_decoded (with_committed next new) k ≡ page_decoded (with_committed v old) k =
          (λ i. page_decoded (record { key = own_key i; tree = kept.tree i; block = block_of next }) k)
          ∙ made.page k lt off
          ∙ page_same given.key old.key given.tree.head old.tree.head (at_node given.tree.nodes (k + 1)) (at_node old.tree.nodes (k + 1)) k (block_of v k) (block_of v k)
          (sym (key_is alike)) (ap (λ (h : Head). h.wrapped) (sym alike.head)) (sym n.iv) (sym n.tag) refl in
          new-at k lt
          ∙ unmet_page keys scenario file generation v next k made.app old new stands kept.stands wrapped seals page
          ∙ sym (old-at k inside)

  new-count : length (pages_decoded new) ≡ length made.tree.nodes
  new-count = length-row (page_decoded new) (length new.tree.nodes) ∙ ap (λ (t : Loaded). length t.nodes) kept.tree

  new-long : new.tree.head.length ≡ made.tree.head.length
  new-long = ap (λ (t : Loaded). t.head.length) kept.tree

  new-whole : length (pages_decoded new) ≡ greatest_of new.tree.head.length
  new-whole = new-count ∙ made.whole ∙ ap greatest_of (sym new-long)

  old-whole : (old : Decoding) → IsLaid old → length (pages_decoded old) ≡ greatest_of old.tree.head.length
  old-whole old l = length-row (page_decoded old) (length old.tree.nodes) ∙ l.count ∙ ap greatest_of (sym l.long)

  changed : (old : Decoding) → IsLaid old → IsChanged r (length (pages_decoded new)) (page_at (pages_decoded old)) (page_at (pages_decoded new))
  changed old l = record {
    same = λ k lt off. l.missed k (omega (arith, lt, new-count)) off;
    good = λ k lt is. let x = l.met k (omega (arith, lt, new-count)) is in is_some_of (page_at (pages_decoded new) k) x.page x.is;
  }

  -- the next version's object is what its new tree holds
  next-object : object_under keys scenario file generation next ≡ object_of next.size v.attributes (opened_decoded new)
  next-object = ap (object_decoded next.size next.attributes) kept.stands ∙ ap (λ (n : ℕ). object_of next.size n (opened_decoded new)) made.attributes

  -- Where something sound stands, the change leaves this of it, or what was given strays.
  pub by_change : (c after : Contents) → object_under keys scenario file generation v ≡ Sound c
      → ((old : Decoding) → IsLaid old → object_of v.size v.attributes (opened_decoded old) ≡ Sound c → object_of next.size v.attributes (opened_decoded new) ≡ Sound after)
      → (object_under keys scenario file generation next ≡ Sound after) ⊎ Strays (under keys scenario file generation v) asked given
  by_change c after sound leaves = by_stands (under keys scenario file generation v) refl
    where
      by_stands : (o : Option Decoding) → under keys scenario file generation v ≡ o → (object_under keys scenario file generation next ≡ Sound after) ⊎ Strays (under keys scenario file generation v) asked given
      by_stands None stands = absurd (damaged_sound v.size c (sym (ap (object_decoded v.size v.attributes) stands) ∙ sound))
      by_stands (Some old) stands =
          let here : object_of v.size v.attributes (opened_decoded old) ≡ Sound c = sym (ap (object_decoded v.size v.attributes) stands) ∙ sound in
          elim (laid old stands (sound_of v.size v.attributes (opened_decoded old) c here).long) [
            | inl l ↦ inl (next-object ∙ leaves old l here)
            | inr strays ↦ inr (subst (λ (o : Option Decoding). Strays o asked given) (sym stands) strays)
          ]

-- A write needs what it asks, and meets each new block.
write-needed : (size at n k : ℕ) → needs (write_range (4096 + size) (4096 + at) n) k ≡ true → 4096 * k < 4096 + size
write-needed size at n k is = grind (arith, is)

write-grown : (size at n k : ℕ) → 4096 * k < max (4096 + size) (4096 + at + n) → 4096 + size ≤ 4096 * k → meets (min (4096 + at) (4096 + size)) (4096 + at + n) k ≡ true
write-grown size at n k below past = meets_from (min (4096 + at) (4096 + size)) (4096 + at + n) k (omega (arith, below, past)) (omega (arith, below, past)) (omega (arith, past))

resize-needed : (size n k : ℕ) → needs (resize_range (4096 + size) (4096 + n)) k ≡ true → 4096 * k < 4096 + size
resize-needed size n k is = grind (arith, is)

resize-grown : (size n k : ℕ) → 4096 * k < 4096 + n → 4096 + size ≤ 4096 * k → meets (min (4096 + n) (4096 + size)) (max (4096 + n) (4096 + size)) k ≡ true
resize-grown size n k below past = meets_from (min (4096 + n) (4096 + size)) (max (4096 + n) (4096 + size)) k (omega (arith, below, past)) (omega (arith, below, past)) (omega (arith, past))

module _ (keys : Keys) (scenario : TamperScenario) (file generation : ℕ) (v next : Version) (handle at : ℕ) (bytes : List ℕ) (real : IsReal keys v) (size : next.size ≡ max v.size (at + length bytes))
    (gave : Gave (wrap_of keys v) v.root v.size (is_asked v.size at (Write handle bytes)))
    (made : IsMadeOver keys v next (decoding_given gave) (write_range (4096 + v.size) (4096 + at) (length bytes)) (4096 + at) bytes) where
  abbrev asked_to_write : ℕ → Bool
  asked_to_write = is_asked v.size at (Write handle bytes)

  abbrev range : ByteRange
  range = write_range (4096 + v.size) (4096 + at) (length bytes)

  write-asked : (k : ℕ) → needs range k ≡ true → (asked_to_write k ≡ true) × (4096 * k < 4096 + v.size)
  write-asked k is = (or_right (k == 0) (needs range k) is, write-needed v.size at (length bytes) k is)

  write-more : (k : ℕ) → k < length made.tree.nodes → greatest_of (4096 + v.size) ≤ k → meets range.first range.last k ≡ true
  write-more k lt past = write-grown v.size at (length bytes) k (omega (arith, lt, made.whole, made.long, size)) (omega (arith, past))

  abbrev written_new : Decoding
  written_new = (kept keys scenario file generation v next asked_to_write real gave range (4096 + at) bytes made write-asked (asked_within v.size at (Write handle bytes)) write-more).sp

  abbrev IsWritten : Decoding → Type 0
  IsWritten old = IsLaid keys scenario file generation v next asked_to_write real gave range (4096 + at) bytes made write-asked (asked_within v.size at (Write handle bytes)) write-more old

  written-long : written_new.tree.head.length ≡ max (4096 + v.size) (4096 + at + length bytes)
  written-long =
      new-long keys scenario file generation v next asked_to_write real gave range (4096 + at) bytes made write-asked (asked_within v.size at (Write handle bytes)) write-more
      ∙ made.long ∙ omega (arith, size)

  written-leaves : (c : Contents) (old : Decoding) → IsWritten old → object_of v.size v.attributes (opened_decoded old) ≡ Sound c
      → object_of next.size v.attributes (opened_decoded written_new) ≡ Sound (written_contents c at bytes)
  written-leaves c old l here =
      ap (λ (n : ℕ). object_of n v.attributes (opened_decoded written_new)) size
      ∙ object_of-written v.size v.attributes at bytes (opened_decoded old) (opened_decoded written_new) c here
      (old-whole keys scenario file generation v next asked_to_write real gave range (4096 + at) bytes made write-asked (asked_within v.size at (Write handle bytes)) write-more old l)
      (new-whole keys scenario file generation v next asked_to_write real gave range (4096 + at) bytes made write-asked (asked_within v.size at (Write handle bytes)) write-more)
      written-long
      (changed keys scenario file generation v next asked_to_write real gave range (4096 + at) bytes made write-asked (asked_within v.size at (Write handle bytes)) write-more old l)
      (ap (bytes_from (page_at (pages_decoded written_new)) 0) written-long
      ∙ bytes-written (4096 + v.size) (4096 + at) (length made.tree.nodes) bytes (page_at (pages_decoded old)) (page_at (pages_decoded written_new))
      (omega (arith, made.whole, made.long, size)) l.met l.missed
      ∙ ap (λ (n : ℕ). after_write (bytes_from (page_at (pages_decoded old)) 0 n) (4096 + at) bytes) (sym l.long))

pub writes_stand : WritesStandOrStray
writes_stand keys scenario file generation v next handle at bytes real size gave made c sound =
    by_change keys scenario file generation v next (is_asked v.size at (Write handle bytes)) real gave
    (write_range (4096 + v.size) (4096 + at) (length bytes)) (4096 + at) bytes made
    (write-asked keys scenario file generation v next handle at bytes real size gave made)
    (asked_within v.size at (Write handle bytes))
    (write-more keys scenario file generation v next handle at bytes real size gave made)
    c (written_contents c at bytes) sound
    (written-leaves keys scenario file generation v next handle at bytes real size gave made c)

module _ (keys : Keys) (scenario : TamperScenario) (file generation : ℕ) (v next : Version) (handle at : ℕ) (real : IsReal keys v)
    (gave : Gave (wrap_of keys v) v.root v.size (is_asked v.size at (Truncate handle next.size)))
    (made : IsMadeOver keys v next (decoding_given gave) (resize_range (4096 + v.size) (4096 + next.size)) (4096 + next.size) []) where
  abbrev asked_to_cut : ℕ → Bool
  asked_to_cut = is_asked v.size at (Truncate handle next.size)

  abbrev cut : ByteRange
  cut = resize_range (4096 + v.size) (4096 + next.size)

  cut-asked : (k : ℕ) → needs cut k ≡ true → (asked_to_cut k ≡ true) × (4096 * k < 4096 + v.size)
  cut-asked k is = (or_right (k == 0) (needs cut k) is, resize-needed v.size next.size k is)

  cut-more : (k : ℕ) → k < length made.tree.nodes → greatest_of (4096 + v.size) ≤ k → meets cut.first cut.last k ≡ true
  cut-more k lt past = resize-grown v.size next.size k (omega (arith, lt, made.whole, made.long)) (omega (arith, past))

  abbrev cut_new : Decoding
  cut_new = (kept keys scenario file generation v next asked_to_cut real gave cut (4096 + next.size) [] made cut-asked (asked_within v.size at (Truncate handle next.size)) cut-more).sp

  abbrev IsCut : Decoding → Type 0
  IsCut old = IsLaid keys scenario file generation v next asked_to_cut real gave cut (4096 + next.size) [] made cut-asked (asked_within v.size at (Truncate handle next.size)) cut-more old

  cut-long : cut_new.tree.head.length ≡ 4096 + next.size
  cut-long =
      new-long keys scenario file generation v next asked_to_cut real gave cut (4096 + next.size) [] made cut-asked (asked_within v.size at (Truncate handle next.size)) cut-more
      ∙ made.long

  cut-leaves : (c : Contents) (old : Decoding) → IsCut old → object_of v.size v.attributes (opened_decoded old) ≡ Sound c
      → object_of next.size v.attributes (opened_decoded cut_new) ≡ Sound (resized_contents c next.size)
  cut-leaves c old l here =
      object_of-resized v.size v.attributes next.size (opened_decoded old) (opened_decoded cut_new) c here
      (old-whole keys scenario file generation v next asked_to_cut real gave cut (4096 + next.size) [] made cut-asked (asked_within v.size at (Truncate handle next.size)) cut-more old l)
      (new-whole keys scenario file generation v next asked_to_cut real gave cut (4096 + next.size) [] made cut-asked (asked_within v.size at (Truncate handle next.size)) cut-more)
      cut-long
      (changed keys scenario file generation v next asked_to_cut real gave cut (4096 + next.size) [] made cut-asked (asked_within v.size at (Truncate handle next.size)) cut-more old l)
      (ap (bytes_from (page_at (pages_decoded cut_new)) 0) cut-long
      ∙ bytes-resized (4096 + v.size) (4096 + next.size) (length made.tree.nodes) (page_at (pages_decoded old)) (page_at (pages_decoded cut_new))
      (omega (arith, made.whole, made.long)) l.met l.missed
      ∙ ap (λ (n : ℕ). after_resize (bytes_from (page_at (pages_decoded old)) 0 n) (4096 + next.size)) (sym l.long))

pub truncations_stand : TruncationsStandOrStray
truncations_stand keys scenario file generation v next handle at real gave made c sound =
    by_change keys scenario file generation v next (is_asked v.size at (Truncate handle next.size)) real gave
    (resize_range (4096 + v.size) (4096 + next.size)) (4096 + next.size) [] made
    (cut-asked keys scenario file generation v next handle at real gave made)
    (asked_within v.size at (Truncate handle next.size))
    (cut-more keys scenario file generation v next handle at real gave made)
    c (resized_contents c next.size) sound
    (cut-leaves keys scenario file generation v next handle at real gave made c)
