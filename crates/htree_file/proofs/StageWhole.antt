-- A whole stage: what the next reference opens to.
use Rattle.std.proofs.Common.{◌≡◌, inl, inr, ⊎_elim, ℕ, ◌+◌, ◌-◌, ◌<◌, ◌≤◌, List, [], length, Bool, true, false, Option, None, Some, refl, sym, ◌∙◌, ap, subst, arith}
use Rattle.std.proofs.lemmas.Bool.{cases_Bool, cases_lt, cond-true, cond-false, false≢true, false_from_ne_true}
use Rattle.disk_model.specs.State.{FileState}
use Rattle.disk_model.specs.Calls.{Known}
use Rattle.disk_model.specs.Keeps.{Keeps}
use Rattle.node_image.specs.declared.node.NodeImage.{NodeImage}
use Rattle.node_image.specs.declared.node.RootRef.{RootRef}
use Rattle.node_image.specs.declared.head.Head.{Head}
use Rattle.node_image.specs.Layout.{is_sized, node_of}
use Rattle.node_image.specs.Parts.{In, IsPart, Layout, Off, Part, size, start, layout_of}
use Rattle.node_image.specs.Parts.Layout.{aligned}
use Rattle.node_image.specs.Parts.Part.{block, head, node}
use Rattle.node_image.specs.Tables.{at_node, hash_in, block_version, node_version}
use Rattle.node_image.specs.Selection.{node_in, part_in}
use Rattle.node_image.proofs.PartPlaces.{off_sector}
use Rattle.htree_file.specs.declared.change.BlockChange.{BlockChange}
use Rattle.htree_file.specs.Changes.{AreApart, AreChanges, IsChanged, SealsAt, block_at, page_after, page_for}
use Rattle.htree_file.specs.Opening.{HasFields, IsHashed, IsVerified}
use Rattle.htree_file.specs.Pages.{page_in, page_of}
use Rattle.htree_file.specs.Selected.{IsLoaded, IsSelected, Lies}
use Rattle.htree_file.specs.Staging.{IsWritten, MadeFrom, OffWritten, SealsAnew, named_node, wanted_page}
use Rattle.htree_file.specs.Stages.{IsStage}
use Rattle.htree_file.specs.Standing.{Stands}
use Rattle.htree_file.specs.WriteSets.{AreTurned, IsTurned, IsWriteSet}
use Rattle.htree_file.proofs.ChangeLists.{found, has_page, page_cases}
use Rattle.htree_file.proofs.Firmness.{part_ends}
use Rattle.htree_file.proofs.Loadings.{loaded_from, loaded_is}
use Rattle.htree_file.proofs.NextTable.{AreFlags, block_version_turns, hashes_next, old_block, turned_few, version_turns}
use Rattle.htree_file.proofs.PartWrites.{stands_kept}
use Rattle.htree_file.proofs.SameTable.{node_version_bit}
use Rattle.htree_file.proofs.SealSteps.{number, version}
use Rattle.htree_file.proofs.Sizes.{sized_greatest}
use Rattle.htree_file.proofs.StageOpens.{opens_after}
use Rattle.htree_file.proofs.Written.{sealed_at, written_hashed, written_loads, written_page, written_verified}

size_some : (q : Part) → 1 ≤ size q
size_some (head v) = omega arith
size_some (node n v) = omega arith
size_some (block k v) = omega arith

-- a selected part is a part
selected_part : (nodes : List NodeImage) (root : ℕ) → length nodes ≤ 256 → root < 2 → (q : Part) → IsSelected nodes root q → IsPart q
selected_part nodes root few bit (head v) at = omega (arith, at, bit)
selected_part nodes root few bit (node n v) at = (at.0, omega (arith, at.1), omega (arith, at.2, node_version_bit nodes root n bit))
selected_part nodes root few bit (block k v) at = (omega (arith, at.0), omega (arith, at.1))

-- each node of the table that was filled comes from the committed one
turned_at : (nodes table : List NodeImage) (dirty moved : ℕ → Bool) (count n : ℕ) → AreTurned nodes dirty moved table count → 1 ≤ n → n ≤ count → IsTurned nodes dirty moved n (at_node table n)
turned_at nodes table dirty moved count n turns least most = let e : (n - 1) + 1 ≡ n = omega arith in subst (λ (m : ℕ). IsTurned nodes dirty moved m (at_node table n)) e (turns (n - 1) (omega arith))

module _ (nodes filled drawn : List NodeImage) (changes : List BlockChange) (dirty moved : ℕ → Bool) (closed : IsWriteSet (length nodes) (length drawn) changes dirty moved)
    (turns : AreTurned nodes dirty moved filled (length drawn)) (anew : SealsAnew changes filled drawn) where
  -- a node that is not in the set is an old one, and no block changes that hangs on it
  old_idle : (n : ℕ) → n ≤ length drawn → dirty n ≡ false → n ≤ length nodes
  old_idle n most idle = elim (cases_lt (length nodes) n) [
    | inl past ↦ absurd (false≢true (sym idle ∙ (closed.fresh n past most).0))
    | inr within ↦ within
  ]

  idle_block : (n : ℕ) → 1 ≤ n → n ≤ length drawn → dirty n ≡ false → IsChanged changes (n - 1) → ⊥
  idle_block n least most idle changed =
      let e : (n - 1) + 1 ≡ n = omega arith in
      false≢true (sym idle ∙ closed.own n least most (subst (λ (m : ℕ). moved m ≡ true) e (closed.changed (n - 1) changed)))

  pub drawn_flags : AreFlags nodes drawn dirty moved
  drawn_flags = record {
    flags = λ n least most hit. anew.flags (n - 1) ∙ (turned_at nodes filled dirty moved (length drawn) n turns least most).flags hit;
    kept = λ n least most idle. anew.flags (n - 1) ∙ ap (λ (x : NodeImage). x.flags) ((turned_at nodes filled dirty moved (length drawn) n turns least most).same idle (old_idle n most idle));
  }

  -- once it is written
  module _ (next : List NodeImage) (long : length next ≡ length drawn) (from : MadeFrom changes dirty drawn next) where
    pub next_flags : AreFlags nodes next dirty moved
    next_flags = record {
      flags = λ n least most hit. from.flags (n - 1) ∙ drawn_flags.flags n least (omega (arith, most, long)) hit;
      kept = λ n least most idle. from.flags (n - 1) ∙ drawn_flags.kept n least (omega (arith, most, long)) idle;
    }

    pub next_same : (n : ℕ) → 1 ≤ n → n ≤ length next → dirty n ≡ false → (n ≤ length nodes) × (at_node next n ≡ at_node nodes n)
    next_same n least most idle =
        let within : n ≤ length drawn = omega (arith, most, long) in
        let old = old_idle n within idle in
        let out = idle_block n least within idle in
        (old, from.same n least idle out ∙ anew.others (n - 1) out ∙ (turned_at nodes filled dirty moved (length drawn) n turns least within).same idle old)

    -- a block that does not change keeps vector and tag
    pub next_seal : (k : ℕ) → k < length nodes → k < length next → (IsChanged changes k → ⊥) → ((at_node next (k + 1)).iv ≡ (at_node nodes (k + 1)).iv) × ((at_node next (k + 1)).tag ≡ (at_node nodes (k + 1)).tag)
    next_seal k old lt out =
        let e : (k + 1) - 1 ≡ k = omega arith in
        let out_at : IsChanged changes ((k + 1) - 1) → ⊥ = subst (λ (m : ℕ). IsChanged changes m → ⊥) (sym e) out in
        let seal = from.seals ((k + 1) - 1) out_at in
        let drew = anew.others ((k + 1) - 1) out_at in
        let was = (turned_at nodes filled dirty moved (length drawn) (k + 1) turns (omega arith) (omega (arith, lt, long))).seal (omega arith) in
        (seal.iv ∙ ap (λ (x : NodeImage). x.iv) drew ∙ was.0, seal.tag ∙ ap (λ (x : NodeImage). x.tag) drew ∙ was.1)

-- No write of a stage meets a part that the committed reference selects.
module _ (layout : Layout) (two : layout ≡ aligned) (nodes table : List NodeImage) (changes : List BlockChange) (dirty moved : ℕ → Bool) (root : ℕ) (few : length nodes ≤ 256) (most_next : length table ≤ 256) (bit : root < 2)
    (closed : IsWriteSet (length nodes) (length table) changes dirty moved) (flags : AreFlags nodes table dirty moved) (apart : AreApart (length table) changes) where
  lies_off : (r : Part) → IsPart r → ((q : Part) → IsSelected nodes root q → q ≡ r → ⊥) → (p : ℕ) → Lies layout nodes root p → Off layout r p
  lies_off r part other p lies =
      subst (λ (y : Layout). Off y r p) (sym two)
      (off_sector lies.part r p lies.at (selected_part nodes root few bit lies.part lies.selected) part (other lies.part lies.selected) lies.near (subst (λ (y : Layout). In y lies.part lies.at) two lies.within))

  not_block : (k : ℕ) → k < length table → IsChanged changes k → (q : Part) → IsSelected nodes root q → q ≡ block k (block_version table k) → ⊥
  not_block k lt changed (head v) at same = cc (same)
  not_block k lt changed (node n v) at same = cc (same)
  not_block k lt changed (block m v) at same =
      let turn : block_version table k ≡ 1 - block_version nodes k =
      block_version_turns nodes table changes dirty moved root closed flags k lt ∙ cond-true (moved (k + 1)) _ _ (closed.changed k changed) in
      let a : m ≡ k = ap number same in
      let b : v ≡ block_version table k = ap version same in
      let c : block_version nodes m ≡ block_version nodes k = ap (block_version nodes) a in
      omega (arith, at.1, b, c, turn)

  not_node : (n : ℕ) → 1 ≤ n → n ≤ length table → dirty n ≡ true → (q : Part) → IsSelected nodes root q → q ≡ named_node table (1 - root) n → ⊥
  not_node n least most hit (head v) at same = cc (same)
  not_node n least most hit (block m v) at same = cc (same)
  not_node n least most hit (node m v) at same =
      let turn : node_version table (1 - root) n ≡ 1 - node_version nodes root n = version_turns nodes table changes dirty moved root closed flags n least most ∙ cond-true (dirty n) _ _ hit in
      let a : m ≡ n = ap number same in
      let b : v ≡ node_version table (1 - root) n = ap version same in
      let c : node_version nodes root m ≡ node_version nodes root n = ap (node_version nodes root) a in
      omega (arith, at.2, b, c, turn, node_version_bit nodes root n bit)

  not_head : (q : Part) → IsSelected nodes root q → q ≡ head (1 - root) → ⊥
  not_head (node n v) at same = cc (same)
  not_head (block m v) at same = cc (same)
  not_head (head v) at same = let b : v ≡ 1 - root = ap version same in omega (arith, at, b, bit)

  pub lies_written : (p : ℕ) → Lies layout nodes root p → OffWritten layout table (1 - root) changes dirty p
  lies_written p lies = record {
    blocks = λ j lt.
        let k = block_at changes j in
        let low : k < length table = apart.within j lt in
        lies_off (block k (block_version table k)) (let part : IsPart (block k (block_version table k)) = (omega (arith, low, most_next), omega arith) in part) (not_block k low (record { place = j; below = lt; is = refl })) p lies;
    nodes = λ n least most hit.
        lies_off (named_node table (1 - root) n) (let part : IsPart (named_node table (1 - root) n) = (least, omega (arith, most, most_next), node_version_bit table (1 - root) n (omega arith)) in part)
        (not_node n least most hit) p lies;
    top = lies_off (head (1 - root)) (let part : IsPart (head (1 - root)) = omega arith in part) not_head p lies;
  }

-- the stage, once it is written
module _ (a d : FileState) (key : List ℕ) (root : RootRef) (was top : Head) (nodes filled drawn next : List NodeImage) (changes : List BlockChange) (dirty moved : ℕ → Bool)
    (few : length nodes ≤ 256) (most_next : length next ≤ 256) (bit : root.version < 2) (all : length next ≡ top.greatest) (sized : is_sized top ≡ true) (long : length next ≡ length drawn)
    (closed_drawn : IsWriteSet (length nodes) (length drawn) changes dirty moved) (are : AreChanges (length nodes) (length next) changes) (turns : AreTurned nodes dirty moved filled (length drawn)) (anew : SealsAnew changes filled drawn)
    (from : MadeFrom changes dirty drawn next) (w : IsWritten (layout_of root.format) (Known a d) d.reads key top (1 - root.version) changes dirty next) (keeps : Keeps (Lies (layout_of root.format) nodes root.version) a d) where
  closed : IsWriteSet (length nodes) (length next) changes dirty moved
  closed = subst (λ (n : ℕ). IsWriteSet (length nodes) n changes dirty moved) (sym long) closed_drawn

  flags : AreFlags nodes next dirty moved
  flags = next_flags nodes filled drawn changes dirty moved closed_drawn turns anew next long from

  same : (n : ℕ) → 1 ≤ n → n ≤ length next → dirty n ≡ false → (n ≤ length nodes) × (at_node next n ≡ at_node nodes n)
  same = next_same nodes filled drawn changes dirty moved closed_drawn turns anew next long from

  hash_next : IsHashed root (record { head = was; nodes = nodes; layout = layout_of root.format }) → (n : ℕ) → 1 ≤ n → n ≤ length next → dirty n ≡ false → (at_node next n).hash ≡ hash_in next top n
  hash_next hashed n least most idle = hashes_next nodes next changes top dirty moved closed w.hashed same was (sym hashed.all) (sym all) hashed.hashes n least most

  hashed_next : IsHashed root (record { head = was; nodes = nodes; layout = layout_of root.format }) → IsHashed (record { hash = (at_node next 1).hash; version = 1 - root.version; format = root.format }) (record { head = top; nodes = next; layout = layout_of root.format })
  hashed_next hashed = written_hashed root.format (Known a d) d.reads key top (1 - root.version) changes dirty next w all sized (hash_next hashed)

  verified_next : IsVerified root (record { head = was; nodes = nodes; layout = layout_of root.format }) → IsVerified (record { hash = (at_node next 1).hash; version = 1 - root.version; format = root.format }) (record { head = top; nodes = next; layout = layout_of root.format })
  verified_next verified =
      written_verified root.format (Known a d) d.reads key top (1 - root.version) changes dirty next w all sized
      (λ n least most idle. let old = same n least most idle in (hash_next verified.hashed n least most idle, subst HasFields (sym old.1) (verified.fields n least old.0)))

  module _ (loads : IsLoaded a.reads root (record { head = was; nodes = nodes; layout = layout_of root.format })) (known : Known a d) where
    -- a selected part stands as it stood
    kept : (q : Part) → IsSelected nodes root.version q → Stands (layout_of root.format) d.reads q (part_in (layout_of root.format) a.reads q)
    kept q at = stands_kept (layout_of root.format) (Lies (layout_of root.format) nodes root.version) a d q (part_in (layout_of root.format) a.reads q) (size_some q) keeps known (λ p within. record { part = q; selected = at; at = p; near = refl; within = within })
        (record { fits = part_ends a.reads root (record { head = was; nodes = nodes; layout = layout_of root.format }) bit loads q at; is = refl })

    -- a block that does not change stands where it stood
    old_stands : (k : ℕ) → k < length next → (IsChanged changes k → ⊥) → (k < length nodes) × Stands (layout_of root.format) d.reads (block k (block_version next k)) (part_in (layout_of root.format) a.reads (block k (block_version nodes k)))
    old_stands k lt out =
        let idle : moved (k + 1) ≡ false = false_from_ne_true (moved (k + 1)) (λ hit. out (closed.only k hit)) in
        let old : k < length nodes = old_block nodes next changes dirty moved root.version closed flags k lt idle in
        let w : block_version nodes k ≡ block_version next k = sym (block_version_turns nodes next changes dirty moved root.version closed flags k lt ∙ cond-false (moved (k + 1)) _ _ idle) in
        let at : IsSelected nodes root.version (block k (block_version nodes k)) = (old, refl) in
        (old, subst (λ (v : ℕ). Stands (layout_of root.format) d.reads (block k v) (part_in (layout_of root.format) a.reads (block k (block_version nodes k)))) w (kept (block k (block_version nodes k)) at))

    pub next_page : (k : ℕ) → k < length next → page_in d.reads key (record { head = top; nodes = next; layout = layout_of root.format }) k ≡ wanted_page (layout_of root.format) a.reads key top nodes changes k
    next_page k lt = page_cases changes k (λ o. page_in d.reads key (record { head = top; nodes = next; layout = layout_of root.format }) k ≡ page_after o (page_in a.reads key (record { head = top; nodes = nodes; layout = layout_of root.format }) k))
        (λ none.
        let out : IsChanged changes k → ⊥ = λ c. has_page changes k c none in
        let stands = old_stands k lt out in
        let seal = next_seal nodes filled drawn changes dirty moved closed_drawn turns anew next long from k stands.0 lt out in
        ap (page_of key top (at_node next (k + 1)) k) stands.1.is
        ∙ (λ i. page_of key top (record { hash = []; iv = seal.0 i; tag = seal.1 i; flags = 0 }) k (part_in (layout_of root.format) a.reads (block k (block_version nodes k)))))
        (λ page is. let c = found changes k page is in written_page root.format (Known a d) d.reads key top (1 - root.version) changes dirty next w known k c.0 ∙ ap (λ (p : List ℕ). Some p) c.1)

    ends : (k : ℕ) → k < length next → start (layout_of root.format) (block k (block_version next k)) + 4096 ≤ length d.reads
    ends k lt = ends_by (page_for changes k) refl
      where
        ends_by : (o : Option (List ℕ)) → page_for changes k ≡ o → start (layout_of root.format) (block k (block_version next k)) + 4096 ≤ length d.reads
        ends_by None none = (old_stands k lt (λ c. has_page changes k c none)).1.fits
        ends_by (Some page) is = ((sealed_at root.format (Known a d) d.reads key top (1 - root.version) changes dirty next w k (found changes k page is).0).stands known).fits

    -- a node that is not written stands where the next table has it
    old_node_stands : (n : ℕ) → 1 ≤ n → n ≤ length next → dirty n ≡ false → node_in (layout_of root.format) d.reads n (node_version next (1 - root.version) n) ≡ at_node next n
    old_node_stands n least most idle =
        let w = node_version nodes root.version n in
        let old = same n least most idle in
        let u : node_version next (1 - root.version) n ≡ w = version_turns nodes next changes dirty moved root.version closed flags n least most ∙ cond-false (dirty n) _ _ idle in
        let at : IsSelected nodes root.version (node n w) = (least, old.0, refl) in
        ap (node_in (layout_of root.format) d.reads n) u ∙ ap node_of (kept (node n w) at).is ∙ loads.matches n least old.0 ∙ sym old.1

    pub next_loads : IsLoaded d.reads (record { hash = (at_node next 1).hash; version = 1 - root.version; format = root.format }) (record { head = top; nodes = next; layout = layout_of root.format })
    next_loads = written_loads root.format (Known a d) d.reads key top (1 - root.version) changes dirty next w known sized (hashed_next loads.hashed) old_node_stands ends

  pub is_stage : IsStage (Known a d) a.reads d.reads key root (record { head = was; nodes = nodes; layout = layout_of root.format }) (record { hash = (at_node next 1).hash; version = 1 - root.version; format = root.format }) (record { head = top; nodes = next; layout = layout_of root.format }) changes
  is_stage = record {
    next_is = refl;
    verified = verified_next;
    loaded = λ known loads. loaded_is d.reads _ (record { head = top; nodes = next; layout = layout_of root.format }) (next_loads (loaded_from a.reads root _ loads) known);
    opened = λ wrapped known loads.
        let l = loaded_from a.reads root (record { head = was; nodes = nodes; layout = layout_of root.format }) loads in
        opens_after (layout_of root.format) a.reads d.reads root (record { hash = (at_node next 1).hash; version = 1 - root.version; format = root.format }) key was top nodes next changes loads
        (loaded_is d.reads _ (record { head = top; nodes = next; layout = layout_of root.format }) (next_loads l known)) wrapped (all ∙ sized_greatest top sized) are (next_page l known);
    seals = λ k lt. page_cases changes k (SealsAt key (record { head = was; nodes = nodes; layout = layout_of root.format }) (record { head = top; nodes = next; layout = layout_of root.format }) k)
        (λ none. let out : IsChanged changes k → ⊥ = λ c. has_page changes k c none in
        next_seal nodes filled drawn changes dirty moved closed_drawn turns anew next long from k
        (old_block nodes next changes dirty moved root.version closed flags k lt (false_from_ne_true (moved (k + 1)) (λ hit. out (closed.only k hit)))) lt out)
        (λ page is. let c = found changes k page is in let sealed = sealed_at root.format (Known a d) d.reads key top (1 - root.version) changes dirty next w k c.0 in
        (sealed.ciphertext, sealed.opens ∙ ap (λ (p : List ℕ). Some p) c.1));
    spares = λ n least most. ⊎_elim
        (λ hit. inr (subst (λ (f : ℕ). f < 8) (sym (flags.flags n least most hit)) (turned_few dirty moved n (at_node nodes n).flags)))
        (λ idle. inl (same n least most idle).1)
        (cases_Bool (dirty n));
  }
