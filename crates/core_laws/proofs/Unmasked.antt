-- Where no mask is armed on a file that tells its bytes and its arms, what it gave is what was committed.
use Rattle.std.proofs.Common.{◌≡◌, inl, inr, ℕ, ◌+◌, ◌*◌, ◌<◌, ◌≤◌, Bool, true, false, List, [], ◌∷◌, length, length-take, get_or, take, drop, Option, Some, None, Ok, refl, sym, ◌∙◌, ap, subst, arith}
use Rattle.std.specs.Prelude.{Contains}
use Rattle.std.specs.Option.{IsSome}
use Rattle.disk_model.specs.Arms.{Taint}
use Rattle.disk_model.specs.Images.{Has}
use Rattle.node_image.specs.Layout.{greatest_of}
use Rattle.node_image.specs.Parts.{In, Layout, Part, start}
use Rattle.node_image.specs.Parts.Part.{block}
use Rattle.node_image.specs.Tables.{block_version}
use Rattle.node_image.proofs.ImageBytes.{bytes_same}
use Rattle.htree_file.specs.Opening.{IsHashed, Loaded, load_of}
use Rattle.htree_file.specs.Selected.{IsLoaded, Lies}
use Rattle.htree_file.specs.Pages.{block_in}
use Rattle.htree_file.proofs.Loadings.{loaded_from}
use Rattle.htree_file.proofs.Sizes.{sized_greatest}
use Rattle.hmac_keys.specs.declared.Keys.{Keys}
use Rattle.history_seats.specs.Numbers.{is_in}
use Rattle.history_seats.specs.Records.{HistoryRecord, Version}
use Rattle.disk_model.specs.Bytes.{after_mask, overlaid}
use Rattle.disk_model.specs.Masks.{with_masks}
use Rattle.disk_model.proofs.Masks.{length-masked}
use Rattle.std.proofs.lemmas.List.{get_or-take, get_or_append_left}
use Rattle.core_laws.specs.SlotParts.{IsShownIn}
use Rattle.core_laws.specs.Decodings.{Decoding, block_of, page_decoded, tree_decoding, wrap_of}
use Rattle.core_laws.specs.TamperScenarios.{TamperScenario, block_or, mended}
use Rattle.core_laws.specs.Clashes.{Clash, input_at}
use Rattle.core_laws.specs.Stores.{Store}
use Rattle.core_laws.specs.Given.{decoding_given}
use Rattle.core_laws.specs.Masked.{AreMasked, ShowsMasked}
use Rattle.core_laws.specs.Shown.{IsGivenAt, Lacks, Strays, asked_of, stands_for}
use Rattle.core_laws.specs.MaskLaws.{IsUnmasked, MasksOnBlocksShowNoOther, UnmaskedFilesEndNothing, UnmaskedFilesShowNoClash}
use Rattle.core_laws.proofs.Comparing.{is_some_of, some_of}
use Rattle.core_laws.proofs.Contained.{contains_first, contains_later, contains_none}
use Rattle.core_laws.proofs.Mending.{good_stays, none_some, some_same}
use Rattle.core_laws.proofs.MaskedBytes.{block_is}
use Rattle.core_laws.proofs.OneTree.{one_tree}
use Rattle.core_laws.proofs.ReplayState.{decoded_with, own_under}
use Rattle.core_laws.proofs.Undamaged.{asked_within}

-- masks that are none change nothing
no_masks : (masks : List Taint) (bytes : List ℕ) → ((taint : Taint) → Contains masks taint → Contains [] taint) → with_masks masks bytes ≡ bytes
no_masks [] bytes armed = refl
no_masks (taint ∷ masks) bytes armed = absurd (contains_none taint (armed taint (contains_first taint taint masks refl)))

module _ (keys : Keys) (v : Version) (own : Loaded) (loads : v.loads ≡ Ok own) where
  -- what is shown of an image with no masks is of bytes that show the version
  are_same : (Kept : ℕ → Type 0) (Shown : List ℕ → Type 0) (s : ShowsMasked keys [] v Kept Shown) (place byte : ℕ) → Kept place → Has s.committed place byte → Has s.image place byte
  are_same Kept Shown s place byte kept there = s.are place byte kept (subst (λ (l : List ℕ). Has l place byte) (sym (no_masks s.masks s.committed s.armed)) there)

  loads_in : (image : List ℕ) → IsShownIn keys image v → load_of image v.root ≡ Ok own
  loads_in image shows = shows.loads ∙ loads

  block_same : (k : ℕ) (ciphertext : List ℕ) → k < length own.nodes
      → ShowsMasked keys [] v (λ place. In own.layout (block k (block_version own.nodes k)) place × Lies own.layout own.nodes v.root.version place) (λ image. ciphertext ≡ block_in image own k)
      → ciphertext ≡ block_of v k
  block_same k ciphertext lt s =
      let q : Part = block k (block_version own.nodes k) in
      let l : IsLoaded s.committed v.root own = loaded_from s.committed v.root own (loads_in s.committed s.shows) in
      let ends : start own.layout q + 4096 ≤ length s.committed = subst (λ (layout : Layout). start layout q + 4096 ≤ length s.committed) (sym l.hashed.stands) (l.ends k lt) in
      s.shown
      ∙ bytes_same s.image s.committed (start own.layout q) 4096 (λ j low.
      (are_same (λ place. In own.layout q place × Lies own.layout own.nodes v.root.version place) (λ image. ciphertext ≡ block_in image own k) s (start own.layout q + j) (get_or s.committed (start own.layout q + j) 0)
      (record { from = omega arith; upto = omega (arith, low) }, record { part = q; selected = (lt, refl); at = start own.layout q + j; near = refl; within = record { from = omega arith; upto = omega (arith, low) } })
      (record { below = omega (arith, ends, low); is = refl })).is)
      ∙ block_is keys v own s.committed s.shows loads k lt

is_none : (o : Option (List ℕ)) → IsSome o → o ≡ None → ⊥
is_none o some none = none_some (some_of o some).0 (sym none ∙ (some_of o some).1)

-- masks behind a place change nothing before it
module _ (place byte : ℕ) where
  before_mask : (bytes : List ℕ) (at : ℕ) (mask : List ℕ) → place < at → Has bytes place byte → Has (after_mask bytes at mask) place byte
  before_mask bytes at mask below there = record {
    below = omega (arith, there.below, length-masked bytes at mask);
    is = get_or_append_left (take at bytes) (overlaid (drop at bytes) mask) 0 place (omega (arith, below, there.below, length-take at bytes)) ∙ get_or-take at bytes place 0 below ∙ there.is;
  }

  before_masks : (masks : List Taint) (bytes : List ℕ) → ((taint : Taint) → Contains masks taint → place < taint.at) → Has bytes place byte → Has (with_masks masks bytes) place byte
  before_masks [] bytes behind there = there
  before_masks (taint ∷ masks) bytes behind there =
      before_masks masks (after_mask bytes taint.at taint.mask) (λ other among. behind other (contains_later taint other masks among))
      (before_mask bytes taint.at taint.mask (behind taint (contains_first taint taint masks refl)) there)

-- so masks on blocks show no other tree
pub no_other : MasksOnBlocksShowNoOther
no_other keys taints v own behind current loads x =
    let s = x.shown in
    x.differs (one_tree s.committed s.image v.root current.0 own x.other (s.shows.loads ∙ loads) s.shown (λ place byte one two low there.
    s.are place byte (two, one)
    (before_masks place byte s.masks s.committed (λ taint among. let at = behind taint (s.armed taint among) in omega (arith, low, at)) there)))

-- the event's file gave what was committed
module _ (store : Store) (scenario : TamperScenario) (before : List HistoryRecord) (r : HistoryRecord) (x : IsGivenAt store scenario before r) (un : IsUnmasked store scenario before r x) where
  abbrev v : Version
  v = x.version

  abbrev given : Decoding
  given = decoding_given x.gave

  masked : AreMasked store.keys [] v un.tree (asked_of x) x.gave.tree x.gave.block
  masked = x.masked [] un.tree un.none (record { image = un.image; shows = un.shows; loads = un.loads; single = no_other store.keys [] v un.tree (λ taint among. absurd (contains_none taint among)) un.current un.loads })

  -- what stands for the version: its own tree, with its own ciphertexts where these are good
  abbrev sp : Decoding
  sp = decoded_with store.keys scenario x.tag.file x.tag.generation v (is_in x.tag.file scenario.tampered) un.tree

  stands : stands_for x ≡ Some sp
  stands = own_under store.keys scenario x.tag.file x.tag.generation v un.tree un.loads

  tree_is : sp.tree ≡ un.tree
  tree_is = by_test (is_in x.tag.file scenario.tampered)
    where
      by_test : (b : Bool) → (decoded_with store.keys scenario x.tag.file x.tag.generation v b un.tree).tree ≡ un.tree
      by_test true = refl
      by_test false = refl

  own_block : (b : Bool) (k : ℕ) → IsSome (page_decoded (tree_decoding (wrap_of store.keys v) (block_of v) un.tree) k)
      → ((decoded_with store.keys scenario x.tag.file x.tag.generation v b un.tree).block k ≡ block_of v k) × IsSome (page_decoded (decoded_with store.keys scenario x.tag.file x.tag.generation v b un.tree) k)
  own_block true k good =
      let own : Decoding = tree_decoding (wrap_of store.keys v) (block_of v) un.tree in
      let page = some_of (page_decoded own k) good in (
        ap (λ (o : Option (List ℕ)). block_or o (block_of v k) (scenario.blocks x.tag.file x.tag.generation k)) page.1,
        is_some_of (page_decoded (mended (scenario.blocks x.tag.file x.tag.generation) own) k) page.0 (good_stays (scenario.blocks x.tag.file x.tag.generation) own k page.0 page.1),
      )
  own_block false k good = (refl, good)

  module _ (same : x.gave.tree ≡ un.tree) where
    low : (k : ℕ) → asked_of x k ≡ true → k < length un.tree.nodes
    low k asked =
        let within : 4096 * k < 4096 + v.size = asked_within v.size x.position x.call k asked in
        let long : un.tree.head.length ≡ 4096 + v.size = ap (λ (t : Loaded). t.head.length) (sym same) ∙ x.gave.long in
        let hashed : IsHashed v.root un.tree = subst (IsHashed v.root) same x.gave.verified.hashed in
        let many : un.tree.head.greatest ≡ greatest_of un.tree.head.length = sized_greatest un.tree.head hashed.sized in
        omega (arith, hashed.all, many, long, within)

    block_given : (k : ℕ) → asked_of x k ≡ true → x.gave.block k ≡ block_of v k
    block_given k asked =
        block_same store.keys v un.tree un.loads k (x.gave.block k) (low k asked)
        (subst (λ (t : Loaded). ShowsMasked store.keys [] v (λ place. In t.layout (block k (block_version t.nodes k)) place × Lies un.tree.layout un.tree.nodes v.root.version place)
        (λ image. x.gave.block k ≡ block_in image t k)) same (masked.blocks k asked))

    good : (k : ℕ) → asked_of x k ≡ true → IsSome (page_decoded (tree_decoding (wrap_of store.keys v) (block_of v) un.tree) k)
    good k asked =
        subst (λ (y : Loaded × List ℕ). IsSome (page_decoded (tree_decoding (wrap_of store.keys v) (λ j. y.1) y.0) k)) (λ i. (same i, block_given k asked i)) (x.gave.good k asked)

    stands_block : (k : ℕ) → asked_of x k ≡ true → (sp.block k ≡ x.gave.block k) × IsSome (page_decoded sp k)
    stands_block k asked =
        let own = own_block (is_in x.tag.file scenario.tampered) k (good k asked) in
        (own.0 ∙ sym (block_given k asked), own.1)

    no_clash : Clash (asked_of x) sp given → ⊥
    no_clash (inl node) = node.differ (ap (λ (t : Loaded). input_at t node.node) (tree_is ∙ sym same))
    no_clash (inr blocks) = blocks.clash.differ (stands_block blocks.k blocks.is_asked).0

    no_lack : Lacks (Some sp) (asked_of x) x.gave.tree → ⊥
    no_lack (inl node) = no_clash (inl node)
    no_lack (inr bad) = is_none (page_decoded sp bad.0) (stands_block bad.0 bad.1).1 bad.2

    no_stray : Strays (Some sp) (asked_of x) given → ⊥
    no_stray (inl lacks) = no_lack lacks
    no_stray (inr clash) = no_clash clash

  pub clashes_none : (other : Decoding) → stands_for x ≡ Some other → Clash (asked_of x) other given → ⊥
  clashes_none other is clash =
      masked.same (λ same. no_clash same (subst (λ (d : Decoding). Clash (asked_of x) d given) (some_same other sp (sym is ∙ stands)) clash))

  pub lacks_none : Lacks (stands_for x) (asked_of x) x.gave.tree → ⊥
  lacks_none lacks = masked.same (λ same. no_lack same (subst (λ (o : Option Decoding). Lacks o (asked_of x) x.gave.tree) stands lacks))

  pub strays_none : Strays (stands_for x) (asked_of x) given → ⊥
  strays_none strays = masked.same (λ same. no_stray same (subst (λ (o : Option Decoding). Strays o (asked_of x) given) stands strays))

pub shows_no_clash : UnmaskedFilesShowNoClash
shows_no_clash store scenario before r x un = clashes_none store scenario before r x.told.given un x.sp x.stands x.clash

pub ends_nothing : UnmaskedFilesEndNothing
ends_nothing store scenario before r (inl lacking) un = lacks_none store scenario before r lacking.told.given un lacking.lacks
ends_nothing store scenario before r (inr strays) un = strays_none store scenario before r strays.given un strays.strays
