-- A copy while its parts are written.
use Rattle.std.proofs.Common.{◌≡◌, ◌≢◌, ◌⊎◌, inl, inr, ⊎_elim, ℕ, ◌+◌, ◌-◌, ◌/◌, ◌%◌, ◌<◌, ◌≤◌, List, [], ◌++◌, length, get_or, take, drop, replicate, true, false, leb, eqb, cond, length-take, set, refl, sym, ◌∙◌, ap, subst, arith}
use Rattle.std.proofs.lemmas.Bool.{cases_lt, cond-false, cond-true, cond_both, le-leb, lt-leb}
use Rattle.std.proofs.lemmas.List.{get_or-append_right, get_or-replicate, get_or-set_other, get_or-set_same, get_or_append_left, get_or_past, length-replicate, nil_from_length}
use Rattle.disk_model.specs.Bytes.{after_resize, after_write}
use Rattle.disk_model.proofs.Writes.{length-after_resize, length-after_write, written_before, written_behind}
use Rattle.node_image.specs.declared.node.RootRef.{RootRef}
use Rattle.node_image.specs.Layout.{has_form, head_of}
use Rattle.node_image.specs.Parts.{IsPart, Layout, Off, Part, layout_of, size, start}
use Rattle.node_image.specs.Parts.Part.{block, head, node}
use Rattle.node_image.specs.Tables.{block_bit, child_bit}
use Rattle.node_image.specs.Selection.{bytes_at, head_in, part_in, selected_node, version_in}
use Rattle.node_image.proofs.ImageBytes.{bytes_same, length-bytes_at}
use Rattle.node_image.proofs.Matching.{version_above, version_first}
use Rattle.node_image.proofs.PartPlaces.{off_other}
use Rattle.htree_file.specs.Copies.{AreFlags, HoldsParts, IsCopied, IsCopyOf, copied_nodes, version_by_flags}
use Rattle.htree_file.specs.Standing.{Stands}
use Rattle.htree_file.proofs.PartWrites.{put_stands}
use Rattle.htree_file.proofs.SealSteps.{number}
use Rattle.htree_file.proofs.Transfers.{written_fits, written_stands}

-- a file that was cut to no bytes has none
pub resized_empty : (old : List ℕ) → after_resize old 0 ≡ []
resized_empty old = nil_from_length (after_resize old 0) (length-after_resize old 0)

-- off what was written each place gives what it gave, past the end too
gap_place : (old : List ℕ) (at : ℕ) (bytes : List ℕ) (p : ℕ) → p < at → length old ≤ p → get_or (after_write old at bytes) p 0 ≡ get_or old p 0
gap_place old at bytes p low past =
    let gap : ℕ = at - length old in
    let rest : List ℕ = bytes ++ drop (at + length bytes) old in
    let front : length (take at old) ≡ length old = omega (arith, length-take at old, low, past) in
    get_or-append_right (take at old) (replicate gap 0 ++ rest) (length old) p 0 front past
    ∙ get_or_append_left (replicate gap 0) rest 0 (p - length old) (omega (arith, length-replicate {A = ℕ} gap 0, low, past))
    ∙ get_or-replicate {A = ℕ} gap (p - length old) 0 0 (omega (arith, low, past)) ∙ sym (get_or_past old p 0 past)

other_place : (old : List ℕ) (at : ℕ) (bytes : List ℕ) (p : ℕ) → (p < at) ⊎ (at + length bytes ≤ p) → get_or (after_write old at bytes) p 0 ≡ get_or old p 0
other_place old at bytes p (inr high) = written_behind old at bytes p high
other_place old at bytes p (inl low) = elim (cases_lt p (length old)) [
  | inl within ↦ written_before old at bytes p low within
  | inr past ↦ gap_place old at bytes p low past
]

pub holds_none : (here there : Layout) (a : List ℕ) → HoldsParts here there a [] (λ q. ⊥)
holds_none here there a = record { stands = λ q none. absurd none; elsewhere = λ p off. get_or_past [] p 0 (omega arith); ends = λ end each. omega arith }

pub holds_same : (here there : Layout) (a b : List ℕ) (Parts Same : Part → Type 0) → ((q : Part) → Parts q → Same q) → ((q : Part) → Same q → Parts q)
    → HoldsParts here there a b Parts → HoldsParts here there a b Same
holds_same here there a b Parts Same to back before = record {
  stands = λ q at. before.stands q (back q at);
  elsewhere = λ p off. before.elsewhere p (λ q at. off q (to q at));
  ends = λ end each. before.ends end (λ q at. each q (to q at));
}

-- one part more is copied
module _ (here there : Layout) (a b : List ℕ) (Parts More : Part → Type 0) (q : Part) (at : ℕ) (bytes : List ℕ)
    (place : at ≡ start there q) (is : bytes ≡ part_in here a q) (part : IsPart q) (each : (r : Part) → Parts r → IsPart r)
    (more : (r : Part) → Parts r → More r) (this : More q) (one : (r : Part) → More r → (Parts r × (r ≢ q)) ⊎ (r ≡ q))
    (before : HoldsParts here there a b Parts) where
  abbrev now : List ℕ
  now = after_write b at bytes

  wide : length bytes ≡ size q
  wide = ap length is ∙ length-bytes_at a (start here q) (size q)

  outside : (p : ℕ) → Off there q p → get_or now p 0 ≡ get_or b p 0
  outside p off = other_place b at bytes p (⊎_elim (λ low. inl (omega (arith, low, place))) (λ high. inr (omega (arith, high, place, wide))) off)

  stands_here : Stands there now q (part_in here a q)
  stands_here = put_stands there q at (length bytes) (part_in here a q) now place wide (written_fits b bytes at) (written_stands b bytes at ∙ is)

  stands_still : (r : Part) → Parts r → r ≢ q → Stands there now r (part_in here a r)
  stands_still r held other =
      let was = before.stands r held in
      record {
        fits = omega (arith, was.fits, length-after_write b at bytes);
        is = bytes_same now b (start there r) (size r)
            (λ j lt. outside (start there r + j) (off_other there r q (start there r + j) (each r held) part other (record { from = omega arith; upto = omega (arith, lt) }))) ∙ was.is;
      }

  pub holds_more : HoldsParts here there a now More
  holds_more = record {
    stands = λ r held. elim (one r held) [
      | inl old ↦ stands_still r old.0 old.1
      | inr same ↦ subst (λ (s : Part). Stands there now s (part_in here a s)) (sym same) stands_here
    ];
    elsewhere = λ p off. outside p (off q this) ∙ before.elsewhere p (λ r held. off r (more r held));
    ends = λ end low. omega (arith, length-after_write b at bytes, before.ends end (λ r held. low r (more r held)), low q this, place, wide);
  }

-- versions are below 2
version_in_bit : (image : List ℕ) (root : RootRef) (n : ℕ) → root.version < 2 → 1 ≤ n → version_in image root n < 2
version_in_bit image root n bit least = elim (cases_lt 1 n) [
  | inl above ↦
      let flags : ℕ = (selected_node image root (n / 2)).flags in
      subst (λ (v : ℕ). v < 2) (sym (version_above image root n above)) (cond_both (eqb (n % 2) 0) ((flags / 2) % 2) ((flags / 4) % 2) (λ v. v < 2) (λ e. omega arith) (λ e. omega arith))
  | inr first ↦ subst (λ (v : ℕ). v < 2) (sym (version_first image root n least first)) bit
]

-- what is copied is a part
pub copied_part : (image : List ℕ) (root : RootRef) (nodes blocks : ℕ) → root.version < 2 → nodes ≤ 256 → blocks ≤ 256 → (q : Part) → IsCopied image root nodes blocks q → IsPart q
copied_part image root nodes blocks bit few low (head v) at = omega (arith, at, bit)
copied_part image root nodes blocks bit few low (node n v) at = (at.0, omega (arith, at.1, few), omega (arith, at.2, version_in_bit image root n bit at.0))
copied_part image root nodes blocks bit few low (block k v) at = (omega (arith, at.0, low), omega (arith, at.1))

copied_more : (image : List ℕ) (root : RootRef) (nodes blocks n k : ℕ) → nodes ≤ n → blocks ≤ k → (q : Part) → IsCopied image root nodes blocks q → IsCopied image root n k q
copied_more image root nodes blocks n k few low (head v) at = at
copied_more image root nodes blocks n k few low (node m v) at = (at.0, omega (arith, at.1, few), at.2)
copied_more image root nodes blocks n k few low (block j v) at = (omega (arith, at.0, low), at.1, at.2)

-- the head is copied into an empty file
pub head_step : (a b : List ℕ) (root : RootRef) (format at to : ℕ) → root.version < 2 → b ≡ [] → at ≡ start (layout_of root.format) (head root.version)
    → to ≡ start (layout_of format) (head root.version) → IsCopyOf a (after_write b to (bytes_at a at 32)) root format 0 0
head_step a b root format at to bit empty place there =
    subst (λ (l : List ℕ). IsCopyOf a (after_write l to (bytes_at a at 32)) root format 0 0) (sym empty)
    (holds_more (layout_of root.format) (layout_of format) a [] (λ q. ⊥) (IsCopied a root 0 0) (head root.version) to (bytes_at a at 32) there (ap (λ (p : ℕ). bytes_at a p 32) place)
    bit (λ r none. absurd none) (λ r none. absurd none) refl alone (holds_none (layout_of root.format) (layout_of format) a))
  where
    alone : (r : Part) → IsCopied a root 0 0 r → (⊥ × (r ≢ head root.version)) ⊎ (r ≡ head root.version)
    alone (head v) same = inr (ap head same)
    alone (node n v) held = absurd (omega (arith, held.0, held.1))
    alone (block k v) held = absurd (omega (arith, held.0))

module _ (a b : List ℕ) (root : RootRef) (format : ℕ) (bit : root.version < 2) (k v at to : ℕ) where
  -- one node more is copied
  pub node_step : k < 256 → v ≡ version_in a root (k + 1) → at ≡ start (layout_of root.format) (node (k + 1) v) → to ≡ start (layout_of format) (node (k + 1) v)
      → IsCopyOf a b root format k 0 → IsCopyOf a (after_write b to (bytes_at a at 66)) root format (k + 1) 0
  node_step few version place there before =
      let this : IsCopied a root (k + 1) 0 (node (k + 1) v) = (omega arith, omega arith, version) in
      holds_more (layout_of root.format) (layout_of format) a b (IsCopied a root k 0) (IsCopied a root (k + 1) 0) (node (k + 1) v) to (bytes_at a at 66) there (ap (λ (p : ℕ). bytes_at a p 66) place)
      (copied_part a root (k + 1) 0 bit (omega (arith, few)) (omega arith) (node (k + 1) v) this) (copied_part a root k 0 bit (omega (arith, few)) (omega arith))
      (copied_more a root k 0 (k + 1) 0 (omega arith) (omega arith)) this next before
    where
      next : (r : Part) → IsCopied a root (k + 1) 0 r → (IsCopied a root k 0 r × (r ≢ node (k + 1) v)) ⊎ (r ≡ node (k + 1) v)
      next (head w) held = inl (held, λ e. cc (e))
      next (node n w) held = elim (cases_lt k n) [
        | inr low ↦ inl ((held.0, low, held.2), λ e. let same : n ≡ k + 1 = ap number e in omega (arith, same, low))
        | inl last ↦
            let same : n ≡ k + 1 = omega (arith, last, held.1) in
            let versions : w ≡ v = held.2 ∙ ap (version_in a root) same ∙ sym version in
            inr (λ i. node (same i) (versions i))
      ]
      next (block j w) held = absurd (omega (arith, held.0))

  abbrev end_here : ℕ
  end_here = start (layout_of root.format) (block k v) + 4096

  -- one block more is copied
  block_held : (g : ℕ) → g ≤ 256 → k < g → v ≡ block_bit (selected_node a root (k + 1)).flags → at ≡ start (layout_of root.format) (block k v) → to ≡ start (layout_of format) (block k v)
      → end_here ≤ length a → IsCopyOf a b root format g k → IsCopyOf a (after_write b to (bytes_at a at 4096)) root format g (k + 1)
  block_held g few lt version place there held before =
      let this : IsCopied a root g (k + 1) (block k v) = (omega arith, version, held) in
      holds_more (layout_of root.format) (layout_of format) a b (IsCopied a root g k) (IsCopied a root g (k + 1)) (block k v) to (bytes_at a at 4096) there (ap (λ (p : ℕ). bytes_at a p 4096) place)
      (copied_part a root g (k + 1) bit few (omega (arith, few, lt)) (block k v) this) (copied_part a root g k bit few (omega (arith, few, lt)))
      (copied_more a root g k g (k + 1) (omega arith) (omega arith)) this next before
    where
      next : (r : Part) → IsCopied a root g (k + 1) r → (IsCopied a root g k r × (r ≢ block k v)) ⊎ (r ≡ block k v)
      next (head w) at_head = inl (at_head, λ e. cc (e))
      next (node n w) at_node = inl (at_node, λ e. cc (e))
      next (block j w) at_block = elim (cases_lt j k) [
        | inl low ↦ inl ((low, at_block.1, at_block.2), λ e. let same : j ≡ k = ap number e in omega (arith, same, low))
        | inr last ↦
            let same : j ≡ k = omega (arith, last, at_block.0) in
            let versions : w ≡ v = at_block.1 ∙ ap (λ (n : ℕ). block_bit (selected_node a root (n + 1)).flags) same ∙ sym version in
            inr (λ i. block (same i) (versions i))
      ]

  -- one that the old file does not wholly hold is passed over
  block_missing : (g : ℕ) → v ≡ block_bit (selected_node a root (k + 1)).flags → length a < end_here → IsCopyOf a b root format g k → IsCopyOf a b root format g (k + 1)
  block_missing g version past before =
      holds_same (layout_of root.format) (layout_of format) a b (IsCopied a root g k) (IsCopied a root g (k + 1)) (copied_more a root g k g (k + 1) (omega arith) (omega arith)) back before
    where
      back : (r : Part) → IsCopied a root g (k + 1) r → IsCopied a root g k r
      back (head w) held = held
      back (node n w) held = held
      back (block j w) held = elim (cases_lt j k) [
        | inl low ↦ (low, held.1, held.2)
        | inr last ↦
            let same : j ≡ k = omega (arith, last, held.0) in
            let versions : w ≡ v = held.1 ∙ ap (λ (n : ℕ). block_bit (selected_node a root (n + 1)).flags) same ∙ sym version in
            let ends : start (layout_of root.format) (block j w) ≡ start (layout_of root.format) (block k v) = λ i. start (layout_of root.format) (block (same i) (versions i)) in
            absurd (omega (arith, ends, held.2, past))
      ]

  pub block_step : (g end : ℕ) → g ≤ 256 → k < g → v ≡ block_bit (selected_node a root (k + 1)).flags → at ≡ start (layout_of root.format) (block k v) → to ≡ start (layout_of format) (block k v)
      → end ≡ length a → IsCopyOf a b root format g k → IsCopyOf a (cond (leb (at + 4096) end) (after_write b to (bytes_at a at 4096)) b) root format g (k + 1)
  block_step g end few lt version place there long before = elim (cases_lt end (at + 4096)) [
    | inl past ↦
        subst (λ (l : List ℕ). IsCopyOf a l root format g (k + 1)) (sym (cond-false (leb (at + 4096) end) (after_write b to (bytes_at a at 4096)) b (lt-leb (at + 4096) end past)))
        (block_missing g version (omega (arith, past, long, place)) before)
    | inr held ↦
        subst (λ (l : List ℕ). IsCopyOf a l root format g (k + 1)) (sym (cond-true (leb (at + 4096) end) (after_write b to (bytes_at a at 4096)) b (le-leb (at + 4096) end held)))
        (block_held g few lt version place there (omega (arith, held, long, place)) before)
  ]

-- how many nodes are copied
pub count_formed : (a : List ℕ) (root : RootRef) (bytes : List ℕ) → bytes ≡ part_in (layout_of root.format) a (head root.version) → has_form bytes ≡ true → (head_of bytes).greatest ≡ copied_nodes a root
count_formed a root bytes is form =
    ap (λ (l : List ℕ). (head_of l).greatest) is
    ∙ sym (cond-true (has_form (part_in (layout_of root.format) a (head root.version))) (head_in a root).greatest 0 (ap has_form (sym is) ∙ form))

pub count_unformed : (a : List ℕ) (root : RootRef) (bytes : List ℕ) → bytes ≡ part_in (layout_of root.format) a (head root.version) → has_form bytes ≡ false → 0 ≡ copied_nodes a root
count_unformed a root bytes is none =
    sym (cond-false (has_form (part_in (layout_of root.format) a (head root.version))) (head_in a root).greatest 0 (ap has_form (sym is) ∙ none))

-- the version that the flags so far name
pub version_by : (image : List ℕ) (root : RootRef) (flags : List ℕ) (k n : ℕ) → AreFlags image root flags k → n ≡ k + 1 → version_by_flags flags root.version n ≡ version_in image root n
version_by image root flags k n are next = elim (cases_lt 1 n) [
  | inl above ↦
      let on : (n / 2 - 1) + 1 ≡ n / 2 = omega (arith, above) in
      cond-false (leb n 1) root.version _ (lt-leb n 1 above)
      ∙ ap (λ (f : ℕ). child_bit f n) (are (n / 2 - 1) (omega (arith, above, next)) ∙ ap (λ (m : ℕ). (selected_node image root m).flags) on)
      ∙ sym (version_above image root n above)
  | inr first ↦ cond-true (leb n 1) root.version _ (le-leb n 1 first) ∙ sym (version_first image root n (omega (arith, next)) first)
]

-- one node's flags more
pub flags_step : (image : List ℕ) (root : RootRef) (flags : List ℕ) (k f : ℕ) → k < length flags → f ≡ (selected_node image root (k + 1)).flags
    → AreFlags image root flags k → AreFlags image root (set flags k f) (k + 1)
flags_step image root flags k f lt is before j under = elim (cases_lt j k) [
  | inl low ↦ get_or-set_other flags k j f 0 (λ e. omega (arith, e, low)) ∙ before j low
  | inr last ↦
      let same : j ≡ k = omega (arith, last, under) in
      ap (λ (m : ℕ). get_or (set flags k f) m 0) same ∙ get_or-set_same flags k f 0 lt ∙ is ∙ ap (λ (m : ℕ). (selected_node image root (m + 1)).flags) (sym same)
]
