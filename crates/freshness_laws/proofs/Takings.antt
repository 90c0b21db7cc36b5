-- A tamper scenario that takes for a version what was read of another tree under its reference.
use Rattle.std.proofs.Common.{◌≡◌, ◌⊎◌, inl, inr, ℕ, zero, suc, ◌+◌, ◌<◌, ◌==◌, ◌&&◌, Bool, true, false, true≢false, cond, List, [], ◌∷◌, length, Option, Some, None, option_map, Result, Ok, Err, refl, sym, ap, subst, ◌∙◌, arith}
use Rattle.std.specs.Str.{bytes_eq}
use Rattle.std.proofs.lemmas.Bool.{and_from, and_parts, cases_eq, cases_lt, cond-false, cond-true, eq-eqb, eqb-true, ne_eqb}
use Rattle.std.proofs.lemmas.List.{get_or_past}
use Rattle.node_image.specs.declared.head.Head.{Head}
use Rattle.node_image.specs.Tables.{at_node}
use Rattle.node_image.proofs.Matching.{length-row, row_at}
use Rattle.htree_file.specs.declared.fault.TreeFault.{TreeFault}
use Rattle.htree_file.specs.Opening.{IsVerified, Loaded}
use Rattle.htree_file.specs.Pages.{page_of}
use Rattle.htree_file.proofs.SameBytes.{same_from, same_is}
use Rattle.page_bytes.specs.Pages.{page_at}
use Rattle.hmac_keys.specs.declared.Keys.{Keys}
use Rattle.store_model.specs.Damage.{HasLessDamage}
use Rattle.store_model.specs.Object.{Damaged, Object, Sound, size_of}
use Rattle.node_image.specs.declared.node.RootRef.{RootRef}
use Rattle.dir_records.specs.declared.entry.DirEntry.{DirEntry}
use Rattle.crash_core.specs.EntryLists.{AreSingle, entry_at}
use Rattle.crash_core.specs.MountedObject.{root_of}
use Rattle.core_laws.specs.Images.{version_of_image}
use Rattle.freshness_laws.specs.SeenStores.{object_read}
use Rattle.history_seats.specs.Numbers.{is_in}
use Rattle.history_seats.specs.Records.{Version}
use Rattle.core_laws.specs.Decodings.{IsReal, Decoding, block_of, object_decoded, opened_decoded, page_decoded, pages_decoded, tree_decoding, decoding_of, wrap_of}
use Rattle.core_laws.specs.TamperScenarios.{TamperScenario, VerifiedTree, block_or, mended, object_under, supposed_under, tree_or, under}
use Rattle.core_laws.specs.Clashes.{IsAlike}
use Rattle.core_laws.proofs.Mending.{less_of, none_some, size_under}
use Rattle.core_laws.proofs.SameTrees.{alike_trees}
use Rattle.freshness_laws.specs.Readings.{OpenedAgree, ReadTree, decoding_read}
use Rattle.freshness_laws.specs.Takings.{ClashesOwn, StoresAreTaken, TakenStoresMend, Takes, TakingsMend, block_by, is_entry, is_root}
use Rattle.freshness_laws.proofs.Pages.{opened_or, page_alike, same_key}

module _ (sp read : Decoding) (key : sp.key ≡ read.key) (alike : IsAlike sp.tree read.tree) (agree : OpenedAgree (opened_decoded sp) (opened_decoded read))
    (supposed : ℕ → Option (List ℕ)) (takes : (k : ℕ) → supposed k ≡ Some (read.block k)) where
  abbrev text_at : (k : ℕ) → List ℕ → Option (List ℕ)
  text_at k text = page_of sp.key sp.tree.head (at_node sp.tree.nodes (k + 1)) k text

  page_or : (k : ℕ) → k < length sp.tree.nodes → (page : List ℕ) → page_decoded read k ≡ Some page → (x : Option (List ℕ)) → page_decoded sp k ≡ x → page_decoded (mended supposed sp) k ≡ Some page
  page_or k lt page good (Some p) own =
      let here : page_at (pages_decoded sp) k ≡ Some p = row_at (page_decoded sp) (length sp.tree.nodes) k None lt ∙ own in
      let there : page_at (pages_decoded read) k ≡ Some page = row_at (page_decoded read) (length read.tree.nodes) k None (omega (arith, lt, alike.count)) ∙ good in
      ap (λ (o : Option (List ℕ)). text_at k (block_or o (sp.block k) (supposed k))) own ∙ own ∙ ap (λ (q : List ℕ). Some q) (sym (agree.pages k p page here there))
  page_or k lt page good None own =
      ap (λ (o : Option (List ℕ)). text_at k (block_or o (sp.block k) (supposed k))) own
      ∙ ap (λ (o : Option (List ℕ)). text_at k (block_or None (sp.block k) o)) (takes k)
      ∙ page_alike sp read key alike k (read.block k) lt ∙ good

  stays : (k : ℕ) (page : List ℕ) → page_at (pages_decoded read) k ≡ Some page → page_at (pages_decoded (mended supposed sp)) k ≡ Some page
  stays k page is = elim (cases_lt k (length sp.tree.nodes)) [
    | inl lt ↦
        let good : page_decoded read k ≡ Some page = sym (row_at (page_decoded read) (length read.tree.nodes) k None (omega (arith, lt, alike.count))) ∙ is in
        row_at (page_decoded (mended supposed sp)) (length sp.tree.nodes) k None lt ∙ page_or k lt page good (page_decoded sp k) refl
    | inr past ↦ absurd (none_some page (sym (get_or_past (pages_decoded read) k None (omega (arith, past, alike.count, length-row (page_decoded read) (length read.tree.nodes)))) ∙ is))
  ]

  pub taken_mends : (size attributes : ℕ) → HasLessDamage (object_decoded size attributes (Some read)) (object_decoded size attributes (Some (mended supposed sp)))
  taken_mends size attributes =
      less_of size attributes (opened_decoded read) (opened_decoded (mended supposed sp)) (ap (λ (h : Head). h.length) alike.head)
      (length-row (page_decoded (mended supposed sp)) (length sp.tree.nodes) ∙ alike.count ∙ sym (length-row (page_decoded read) (length read.tree.nodes))) stays

module _ (keys : Keys) (scenario : TamperScenario) (file generation : ℕ) (v : Version) (read : ReadTree v.root) (real : IsReal keys v) (takes : Takes scenario file generation v read) where
  abbrev Mends : Option Decoding → Type 0
  Mends x = HasLessDamage (object_decoded v.size v.attributes (Some (decoding_read (wrap_of keys v) read))) (object_decoded v.size v.attributes x) ⊎ ClashesOwn keys v read

  by_own : (own : ReadTree v.root) → own.block ≡ block_of v → Mends (Some (mended (scenario.blocks file generation) (decoding_read (wrap_of keys v) own)))
  by_own own committed = elim (alike_trees v.root own.tree read.tree own.verified read.verified) [
    | inr clash ↦ inr (record { own = own; committed = committed; clash = inl clash })
    | inl alike ↦ elim (opened_or (decoding_read (wrap_of keys v) own) (decoding_read (wrap_of keys v) read) (same_key (wrap_of keys v) v.root own read alike) alike) [
      | inr clash ↦ inr (record { own = own; committed = committed; clash = inr clash })
      | inl agree ↦ inl (taken_mends (decoding_read (wrap_of keys v) own) (decoding_read (wrap_of keys v) read) (same_key (wrap_of keys v) v.root own read alike) alike agree
          (scenario.blocks file generation) takes.blocks v.size v.attributes)
    ]
  ]

  by_load : (r : Result Loaded TreeFault) → v.loads ≡ r
      → Mends (option_map (λ tree. mended (scenario.blocks file generation) (tree_decoding (wrap_of keys v) (block_of v) tree)) (tree_or r (scenario.trees file generation v.root)))
  by_load (Ok tree) is = by_own (record { tree = tree; verified = real.verified tree is; block = block_of v }) refl
  by_load (Err fault) is =
      subst (λ (t : Option (VerifiedTree v.root)). Mends (option_map (λ tree. mended (scenario.blocks file generation) (tree_decoding (wrap_of keys v) (block_of v) tree)) (tree_or (Err fault) t)))
      (sym takes.is_tree) (by_own (record { tree = (takes.tree).tree; verified = (takes.tree).verified; block = block_of v }) refl)

  pub taking_mends : Mends (under keys scenario file generation v)
  taking_mends =
      subst Mends (sym (cond-true (is_in file scenario.tampered) (supposed_under keys scenario file generation v) (decoding_of keys v) takes.tampered)) (by_load v.loads refl)

pub takings_mend : TakingsMend
takings_mend keys scenario file generation v read real takes = taking_mends keys scenario file generation v read real takes

-- A SUPPOSITION THAT TAKES WHAT A STORE HELD
from_damaged : (size : ℕ) (o : Object) → size_of o ≡ size → HasLessDamage (Damaged size) o
from_damaged size (Sound c) is = is
from_damaged size (Damaged other) is = is

pub taken_mend : TakenStoresMend
taken_mend keys block tampered s scenario takes image index e at among real = by_tree (s.trees e) refl
  where
    v : Version
    v = version_of_image keys image (root_of e) e.app e.size e.attributes

    by_tree : (o : Option (ReadTree (root_of e))) → s.trees e ≡ o
        → HasLessDamage (object_read keys e o) (object_under keys scenario e.file e.generation (version_of_image keys image (root_of e) e.app e.size e.attributes))
        ⊎ ((read : ReadTree (root_of e)) × (s.trees e ≡ Some read) × ClashesOwn keys (version_of_image keys image (root_of e) e.app e.size e.attributes) read)
    by_tree None is =
        inl (from_damaged e.size (object_under keys scenario e.file e.generation (version_of_image keys image (root_of e) e.app e.size e.attributes))
        (size_under keys scenario e.file e.generation (version_of_image keys image (root_of e) e.app e.size e.attributes)))
    by_tree (Some read) is =
        let t = takes.trees index e read at is in
        elim (taking_mends keys scenario e.file e.generation (version_of_image keys image (root_of e) e.app e.size e.attributes) read real (record {
          tampered = ap (is_in e.file) takes.dishonest_are ∙ among;
          tree = t.0;
          is_tree = t.1;
          blocks = λ k. takes.blocks index e k at ∙ ap (λ (o : Option (ReadTree (root_of e))). block_by o k) is;
        })) [
          | inl less ↦ inl less
          | inr clash ↦ inr (read, is, clash)
        ]

pub same_root : (e : DirEntry) (root : RootRef) → is_root e root ≡ true → root_of e ≡ root
same_root e root is =
    let own = root_of e in
    let parts = and_parts (bytes_eq own.hash root.hash) ((own.version == root.version) && (own.format == root.format)) is in
    let numbers = and_parts (own.version == root.version) (own.format == root.format) parts.1 in
    let hash : own.hash ≡ root.hash = same_is own.hash root.hash parts.0 in
    let version : own.version ≡ root.version = eqb-true own.version root.version numbers.0 in
    let format : own.format ≡ root.format = eqb-true own.format root.format numbers.1 in
    λ i. record { hash = hash i; version = version i; format = format i }

own_root : (e : DirEntry) → is_root e (root_of e) ≡ true
own_root e =
    let own = root_of e in
    and_from (bytes_eq own.hash own.hash) ((own.version == own.version) && (own.format == own.format)) (same_from own.hash own.hash refl)
    (and_from (own.version == own.version) (own.format == own.format) (eq-eqb own.version own.version refl) (eq-eqb own.format own.format refl))

own_entry : (e : DirEntry) → is_entry e.file e.generation e ≡ true
own_entry e = and_from (e.file == e.file) (e.generation == e.generation) (eq-eqb e.file e.file refl) (eq-eqb e.generation e.generation refl)

abbrev pub tree_by : {one root : RootRef} → Option (ReadTree one) → one ≡ root → Option (VerifiedTree root)
tree_by None same = None
tree_by (Some read) same = Some (record { tree = read.tree; verified = subst (λ (r : RootRef). IsVerified r read.tree) same read.verified })

tree_found : {one root : RootRef} (o : Option (ReadTree one)) (same : one ≡ root) (read : ReadTree one) → o ≡ Some read → (t : VerifiedTree root) × (tree_by o same ≡ Some t)
tree_found None same read is = absurd (cc (is))
tree_found (Some other) same read is = (record { tree = other.tree; verified = subst (λ (r : RootRef). IsVerified r other.tree) same other.verified }, refl)

module _ (trees : (e : DirEntry) → Option (ReadTree (root_of e))) where
  -- the tree of an entry, under a reference that it has
  abbrev pub tree_at : (e : DirEntry) (root : RootRef) (b : Bool) → is_root e root ≡ b → Option (VerifiedTree root)
  tree_at e root true is = tree_by (trees e) (same_root e root is)
  tree_at e root false is = None

  at_found : (e : DirEntry) (root : RootRef) (b : Bool) (is : is_root e root ≡ b) → b ≡ true → (read : ReadTree (root_of e)) → trees e ≡ Some read → (t : VerifiedTree root) × (tree_at e root b is ≡ Some t)
  at_found e root true is due read held = tree_found (trees e) (same_root e root is) read held
  at_found e root false is due read held = absurd (true≢false (sym due))

  abbrev pub tree_of : (entries : List (Option DirEntry)) (file generation : ℕ) (root : RootRef) → Option (VerifiedTree root)
  tree_of [] file generation root = None
  tree_of (None ∷ entries) file generation root = tree_of entries file generation root
  tree_of (Some e ∷ entries) file generation root = cond (is_entry file generation e) (tree_at e root (is_root e root) refl) (tree_of entries file generation root)

  abbrev pub text_of : (entries : List (Option DirEntry)) (file generation k : ℕ) → Option (List ℕ)
  text_of [] file generation k = None
  text_of (None ∷ entries) file generation k = text_of entries file generation k
  text_of (Some e ∷ entries) file generation k = cond (is_entry file generation e) (block_by (trees e) k) (text_of entries file generation k)

  single_rest : (x : Option DirEntry) (entries : List (Option DirEntry)) → AreSingle (x ∷ entries) → AreSingle entries
  single_rest x entries single a b e f at there same = let next : suc a ≡ suc b = single (suc a) (suc b) e f at there same in omega (arith, next)

  -- an entry of another place has another file
  off_first : (d : DirEntry) (entries : List (Option DirEntry)) → AreSingle (Some d ∷ entries) → (index : ℕ) (e : DirEntry) → entry_at entries index ≡ Some e → is_entry e.file e.generation d ≡ false
  off_first d entries single index e at = elim (cases_eq d.file e.file) [
    | inl same ↦ let none : 0 ≡ suc index = single 0 (suc index) d e refl at same in absurd (omega (arith, none))
    | inr other ↦ ap (λ (b : Bool). b && (d.generation == e.generation)) (ne_eqb d.file e.file other)
  ]

  tree_there : (entries : List (Option DirEntry)) → AreSingle entries → (index : ℕ) (e : DirEntry) (read : ReadTree (root_of e)) → entry_at entries index ≡ Some e → trees e ≡ Some read
      → (t : VerifiedTree (root_of e)) × (tree_of entries e.file e.generation (root_of e) ≡ Some t)
  tree_there [] single index e read at held = absurd (cc (at))
  tree_there (None ∷ entries) single zero e read at held = absurd (cc (at))
  tree_there (None ∷ entries) single (suc index) e read at held = tree_there entries (single_rest None entries single) index e read at held
  tree_there (Some d ∷ entries) single zero e read at held =
      let same : d ≡ e = cc (at) in
      subst (λ (x : DirEntry). (t : VerifiedTree (root_of e)) × (cond (is_entry e.file e.generation x) (tree_at x (root_of e) (is_root x (root_of e)) refl) (tree_of entries e.file e.generation (root_of e)) ≡ Some t))
      (sym same) (let f = at_found e (root_of e) (is_root e (root_of e)) refl (own_root e) read held in
      (f.0, cond-true (is_entry e.file e.generation e) (tree_at e (root_of e) (is_root e (root_of e)) refl) (tree_of entries e.file e.generation (root_of e)) (own_entry e) ∙ f.1))
  tree_there (Some d ∷ entries) single (suc index) e read at held =
      let f = tree_there entries (single_rest (Some d) entries single) index e read at held in
      (f.0, cond-false (is_entry e.file e.generation d) (tree_at d (root_of e) (is_root d (root_of e)) refl) (tree_of entries e.file e.generation (root_of e)) (off_first d entries single index e at) ∙ f.1)

  text_there : (entries : List (Option DirEntry)) → AreSingle entries → (index : ℕ) (e : DirEntry) (k : ℕ) → entry_at entries index ≡ Some e → text_of entries e.file e.generation k ≡ block_by (trees e) k
  text_there [] single index e k at = absurd (cc (at))
  text_there (None ∷ entries) single zero e k at = absurd (cc (at))
  text_there (None ∷ entries) single (suc index) e k at = text_there entries (single_rest None entries single) index e k at
  text_there (Some d ∷ entries) single zero e k at =
      let same : d ≡ e = cc (at) in
      subst (λ (x : DirEntry). cond (is_entry e.file e.generation x) (block_by (trees x) k) (text_of entries e.file e.generation k) ≡ block_by (trees e) k)
      (sym same) (cond-true (is_entry e.file e.generation e) (block_by (trees e) k) (text_of entries e.file e.generation k) (own_entry e))
  text_there (Some d ∷ entries) single (suc index) e k at =
      cond-false (is_entry e.file e.generation d) (block_by (trees d) k) (text_of entries e.file e.generation k) (off_first d entries single index e at)
      ∙ text_there entries (single_rest (Some d) entries single) index e k at

pub stores_taken : StoresAreTaken
stores_taken keys block tampered s single = (
  record {
    tampered = tampered;
    trees = λ file generation root. tree_of s.trees s.entries file generation root;
    blocks = λ file generation k. text_of s.trees s.entries file generation k;
  },
  record {
    dishonest_are = refl;
    trees = λ index e read at held. tree_there s.trees s.entries single index e read at held;
    blocks = λ index e k at. text_there s.trees s.entries single index e k at;
  },
)
