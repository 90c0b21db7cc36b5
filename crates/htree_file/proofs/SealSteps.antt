-- One turn of the loops that draw vectors, seal pages and write nodes.
use Rattle.std.proofs.Common.{◌≡◌, ◌≢◌, inl, inr, ℕ, ◌+◌, ◌-◌, ◌*◌, ◌<◌, ◌≤◌, List, length, get_or, set, Bool, true, cond, sym, ◌∙◌, ap, subst, arith}
use Rattle.std.proofs.lemmas.Bool.{cases_lt, cases_eq}
use Rattle.std.proofs.lemmas.List.{get_or-set_other, get_or-set_same}
use Rattle.disk_model.specs.State.{FileState}
use Rattle.disk_model.specs.Calls.{GoesOn, Known}
use Rattle.disk_model.specs.Keeps.{Keeps}
use Rattle.disk_model.proofs.Goings.{first_known, then_known}
use Rattle.node_image.specs.declared.node.NodeImage.{NodeImage}
use Rattle.node_image.specs.declared.head.Head.{Head}
use Rattle.node_image.specs.Parts.{In, IsPart, Layout, Off, Part}
use Rattle.node_image.specs.Parts.Part.{block, head, node}
use Rattle.node_image.specs.Tables.{at_node, block_bit, block_version, no_node, node_version}
use Rattle.node_image.proofs.PartPlaces.{off_other}
use Rattle.htree_file.specs.declared.change.BlockChange.{BlockChange}
use Rattle.htree_file.specs.Changes.{AreApart, block_at, page_at}
use Rattle.htree_file.specs.Staging.{AreSealed, IsSealed, NodeStands, NodesStand, OffBlocks, OffNodes, SealsAnew, WritesAtMost, named_block, named_node}
use Rattle.htree_file.specs.WriteSets.{AreTurned, IsTurned}
use Rattle.htree_file.proofs.PartWrites.{stands_kept}
use Rattle.htree_file.proofs.SameTable.{node_version_bit}
use Rattle.htree_file.proofs.Writings.{writes_then, writes_within}

abbrev pub number : Part → ℕ
number (head v) = 0
number (node n v) = n
number (block k v) = k

abbrev pub version : Part → ℕ
version (head v) = v
version (node n v) = v
version (block k v) = v

-- one node more comes from the committed one
pub turned_step : (nodes table : List NodeImage) (dirty moved : ℕ → Bool) (k : ℕ) (made : NodeImage) → k < length table → IsTurned nodes dirty moved (k + 1) made
    → AreTurned nodes dirty moved table k → AreTurned nodes dirty moved (set table k made) (k + 1)
turned_step nodes table dirty moved k made lt one before j under = elim (cases_lt j k) [
  | inl low ↦ subst (λ (x : NodeImage). IsTurned nodes dirty moved (j + 1) x) (sym (get_or-set_other table k j made no_node (λ e. omega (arith, e, low)))) (before j low)
  | inr high ↦
      let e : k ≡ j = omega arith in
      subst (λ (m : ℕ). IsTurned nodes dirty moved (m + 1) (get_or (set table k made) m no_node)) e
      (subst (λ (x : NodeImage). IsTurned nodes dirty moved (k + 1) x) (sym (get_or-set_same table k made no_node lt)) one)
]

-- one node more gets a vector or a tag
pub anew_step : (changes : List BlockChange) (old now : List NodeImage) (j k : ℕ) (made : NodeImage) → block_at changes j ≡ k → j < length changes → k < length now
    → made.flags ≡ (get_or now k no_node).flags → SealsAnew changes old now → SealsAnew changes old (set now k made)
anew_step changes old now j k made at lt low same before = record {
  flags = λ m. elim (cases_eq m k) [
    | inl here ↦ subst (λ (x : ℕ). (get_or (set now k made) x no_node).flags ≡ (get_or old x no_node).flags) (sym here)
        (ap (λ (x : NodeImage). x.flags) (get_or-set_same now k made no_node low) ∙ same ∙ before.flags k)
    | inr other ↦ ap (λ (x : NodeImage). x.flags) (get_or-set_other now k m made no_node other) ∙ before.flags m
  ];
  others = λ m out. get_or-set_other now k m made no_node (λ here. out (record { place = j; below = lt; is = at ∙ sym here })) ∙ before.others m out;
}

-- a sealed page stays where other places are written
pub sealed_kept : (layout : Layout) (K : ℕ → Type 0) (a b c : FileState) (key : List ℕ) (h : Head) (n : NodeImage) (k : ℕ) (page : List ℕ) → GoesOn a b → Keeps K b c
    → ((p : ℕ) → In layout (block k (block_bit n.flags)) p → K p) → IsSealed layout (Known a b) b.reads key h n k page → IsSealed layout (Known a c) c.reads key h n k page
sealed_kept layout K a b c key h n k page first keeps at sealed = record {
  ciphertext = sealed.ciphertext;
  opens = sealed.opens;
  stands = λ known. stands_kept layout K b c (block k (block_bit n.flags)) sealed.ciphertext (omega arith) keeps (then_known a b c first known) at (sealed.stands (first_known a b c keeps.goes_on known));
}

-- and by a node with the same seal
pub sealed_by : (layout : Layout) (known : Type 0) (file key : List ℕ) (h : Head) (a b : NodeImage) (k : ℕ) (page : List ℕ) → b.iv ≡ a.iv → b.tag ≡ a.tag → b.flags ≡ a.flags
    → IsSealed layout known file key h a k page → IsSealed layout known file key h b k page
sealed_by layout known file key h a b k page iv tag flags sealed =
    let same : NodeImage = record { hash = b.hash; iv = a.iv; tag = a.tag; flags = a.flags } in
    let e : ◌≡◌ {A = NodeImage} same b = λ i. record { hash = b.hash; iv = sym iv i; tag = sym tag i; flags = sym flags i } in
    subst (λ (n : NodeImage). IsSealed layout known file key h n k page) e (record { ciphertext = sealed.ciphertext; opens = sealed.opens; stands = sealed.stands })

module _ (layout : Layout) (changes : List BlockChange) (after : ℕ) (few : after ≤ 256) (apart : AreApart after changes) where
  -- a block that is written lies off another one
  block_off : (i j v w p : ℕ) → i < j → j < length changes → v < 2 → w < 2 → In layout (block (block_at changes i) v) p → Off layout (block (block_at changes j) w) p
  block_off i j v w p lt most low less at =
      off_other layout (block (block_at changes i) v) (block (block_at changes j) w) p (omega (arith, apart.within i (omega arith)), low) (omega (arith, apart.within j most), less)
      (λ same. let e : block_at changes i ≡ block_at changes j = ap number same in omega (arith, e, apart.apart i j lt most)) at

  -- one page more is sealed
  pub sealed_step : (entry now new : FileState) (key : List ℕ) (h : Head) (table : List NodeImage) (j b : ℕ) (made : NodeImage) → block_at changes j ≡ b → length table ≡ after → j < length changes
      → GoesOn entry now → Keeps (Off layout (block b (block_bit (get_or table b no_node).flags))) now new
      → AreSealed layout (Known entry now) now.reads key h table changes j → IsSealed layout (Known now new) new.reads key h made b (page_at changes j)
      → AreSealed layout (Known entry new) new.reads key h (set table b made) changes (j + 1)
  sealed_step entry now new key h table j b made here long lt first keeps before one i under =
      let low : b < length table = omega (arith, here, long, apart.within j lt) in
      let bit : block_bit (get_or table b no_node).flags < 2 = omega arith in
      elim (cases_lt i j) [
        | inl less ↦
            let k = block_at changes i in
            let off : k ≢ b = λ e. omega (arith, e, here, apart.apart i j less lt) in
            subst (λ (n : NodeImage). IsSealed layout (Known entry new) new.reads key h n k (page_at changes i)) (sym (get_or-set_other table b k made no_node off))
            (sealed_kept layout (Off layout (block b (block_bit (get_or table b no_node).flags))) entry now new key h (get_or table k no_node) k (page_at changes i) first keeps
            (λ p at. subst (λ (m : ℕ). Off layout (block m (block_bit (get_or table b no_node).flags)) p) here
            (block_off i j (block_bit (get_or table k no_node).flags) (block_bit (get_or table b no_node).flags) p less lt (omega arith) bit at)) (before i less))
        | inr more ↦
            let e : j ≡ i = omega arith in
            let mine : IsSealed layout (Known entry new) new.reads key h made b (page_at changes j) =
            record { ciphertext = one.ciphertext; opens = one.opens; stands = λ known. one.stands (then_known entry now new first known) } in
            subst (λ (m : ℕ). IsSealed layout (Known entry new) new.reads key h (get_or (set table b made) (block_at changes m) no_node) (block_at changes m) (page_at changes m)) e
            (subst (λ (m : ℕ). IsSealed layout (Known entry new) new.reads key h (get_or (set table b made) m no_node) m (page_at changes j)) (sym here)
            (subst (λ (n : NodeImage). IsSealed layout (Known entry new) new.reads key h n b (page_at changes j)) (sym (get_or-set_same table b made no_node low)) mine))
      ]

-- one block more is written
pub blocks_write : (layout : Layout) (changes : List BlockChange) (first table : List NodeImage) (j k : ℕ) (a b c : FileState) → block_at changes j ≡ k → j < length changes → SealsAnew changes first table
    → WritesAtMost (OffBlocks layout first changes) (4096 * j) a b → WritesAtMost (Off layout (block k (block_bit (get_or table k no_node).flags))) 4096 b c
    → (most : ℕ) → 4096 * j + 4096 ≤ most → WritesAtMost (OffBlocks layout first changes) most a c
blocks_write layout changes first table j k a b c at lt anew before step most le =
    let e : (k + 1) - 1 ≡ k = omega arith in
    let same : block_version first k ≡ block_bit (get_or table k no_node).flags = ap (λ (m : ℕ). block_bit (get_or first m no_node).flags) e ∙ ap block_bit (sym (anew.flags k)) in
    writes_then (OffBlocks layout first changes) a b c (4096 * j) 4096 most le before
    (writes_within (Off layout (block k (block_bit (get_or table k no_node).flags))) (OffBlocks layout first changes) 4096 4096 b c (omega arith)
    (λ p off. subst (λ (v : ℕ). Off layout (block k v) p) same (subst (λ (m : ℕ). Off layout (named_block first m) p) at (off j lt))) step)

module _ (layout : Layout) (table : List NodeImage) (root : ℕ) (few : length table ≤ 256) (bit : root < 2) where
  pub named_is_part : (n : ℕ) → 1 ≤ n → n ≤ length table → IsPart (named_node table root n)
  named_is_part n least most = (least, omega (arith, most, few), node_version_bit table root n bit)

  -- a node that is written keeps what is off all that are
  pub chosen_write : (chosen : ℕ → Bool) (a b : FileState) (n v : ℕ) → 1 ≤ n → n ≤ length table → chosen n ≡ true → v ≡ node_version table root n
      → WritesAtMost (Off layout (node n v)) 66 a b → WritesAtMost (OffNodes layout table root chosen) (66 * cond (chosen n) 1 0) a b
  chosen_write chosen a b n v least most hit is writes =
      let bound : 66 ≤ 66 * cond (chosen n) 1 0 = subst (λ (t : Bool). 66 ≤ 66 * cond t 1 0) (sym hit) (omega arith) in
      writes_within (Off layout (node n v)) (OffNodes layout table root chosen) 66 (66 * cond (chosen n) 1 0) a b bound
      (λ p off. subst (λ (u : ℕ). Off layout (node n u) p) (sym is) (off n least most hit)) writes

  -- one node more stands
  pub nodes_step : (chosen : ℕ → Bool) (entry now new : FileState) (k : ℕ) → k < length table → GoesOn entry now → Keeps (Off layout (named_node table root (k + 1))) now new
      → NodesStand layout (Known entry now) now.reads root table chosen k → (chosen (k + 1) ≡ true → NodeStands layout (Known now new) new.reads (named_node table root (k + 1)) (at_node table (k + 1)))
      → NodesStand layout (Known entry new) new.reads root table chosen (k + 1)
  nodes_step chosen entry now new k lt first keeps before one n least most hit = elim (cases_lt k n) [
    | inl last ↦
        let e : k + 1 ≡ n = omega arith in
        let mine = one (subst (λ (m : ℕ). chosen m ≡ true) (sym e) hit) in
        subst (λ (m : ℕ). NodeStands layout (Known entry new) new.reads (named_node table root m) (at_node table m)) e
        (record { stands = λ known. mine.stands (then_known entry now new first known); returns = mine.returns; bytes = mine.bytes })
    | inr low ↦
        let was = before n least low hit in
        record {
          stands = λ known. stands_kept layout (Off layout (named_node table root (k + 1))) now new (named_node table root n) _ (omega arith) keeps (then_known entry now new first known)
              (λ p at. off_other layout (named_node table root n) (named_node table root (k + 1)) p (named_is_part n least (omega arith)) (named_is_part (k + 1) (omega arith) (omega arith)) (λ same. let e : n ≡ k + 1 = ap number same in omega (arith, e, low)) at)
              (was.stands (first_known entry now new keeps.goes_on known));
          returns = was.returns;
          bytes = was.bytes;
        }
  ]
