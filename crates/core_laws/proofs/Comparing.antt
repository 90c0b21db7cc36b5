-- What a file gave of some blocks, beside what stands for them.
use Rattle.std.proofs.Common.{◌≡◌, ◌⊎◌, ◌+◌, ◌-◌, ◌*◌, ◌<◌, ◌≤◌, ℕ, zero, suc, Bool, true, false, true≢false, List, length, min, Option, Some, None, IsSome, refl, sym, ap, ◌∙◌, subst, inl, inr, arith}
use Rattle.std.proofs.lemmas.Bool.{cases_lt}
use Rattle.std.specs.List.{list_any}
use Rattle.std.specs.Str.{bytes_eq}
use Rattle.node_image.specs.declared.node.RootRef.{RootRef}
use Rattle.node_image.specs.declared.head.Head.{Head}
use Rattle.node_image.specs.Layout.{greatest_of}
use Rattle.node_image.specs.Tables.{at_node}
use Rattle.node_image.proofs.Matching.{length-row, row_at}
use Rattle.htree_file.specs.Opening.{IsVerified}
use Rattle.htree_file.specs.Pages.{page_of}
use Rattle.htree_file.proofs.SameBytes.{not_same, same_is}
use Rattle.htree_file.proofs.Sizes.{sized_greatest}
use Rattle.page_bytes.specs.Pages.{bytes_from, page_at}
use Rattle.page_bytes.specs.Ranges.{meets}
use Rattle.page_bytes.proofs.Content.{bytes_from-same, length-bytes_from}
use Rattle.store_model.specs.Data.{bytes_at, meets_block}
use Rattle.crash_core.specs.MountedObject.{bad_blocks}
use Rattle.crash_core.proofs.ObjectBytes.{bytes_at-object}
use Rattle.crash_core.proofs.ObjectChanges.{bad-found, bad-met}
use Rattle.core_laws.specs.Decodings.{Decoding, page_decoded, pages_decoded}
use Rattle.core_laws.specs.Clashes.{BlocksClash, IsAlike}
use Rattle.core_laws.proofs.ReplayState.{page_same}

pub meets_from : (first last k : ℕ) → first < last → 4096 * k < last → first < 4096 * (k + 1) → meets first last k ≡ true
meets_from first last k some begins ends = grind (arith, some, begins, ends)

pub search_all : (n : ℕ) (A : ℕ → Type 0) (B : Type 0) → ((i : ℕ) → i < n → A i ⊎ B) → ((i : ℕ) → i < n → A i) ⊎ B
search_all zero A B f = inl (λ i lt. absurd (omega (arith, lt)))
search_all (suc n) A B f =
    elim (search_all n A B (λ i lt. f i (omega (arith, lt)))) [
      | inr b ↦ inr b
      | inl all ↦ elim (f n (omega arith)) [
        | inr b ↦ inr b
        | inl a ↦ inl (λ i lt. elim (cases_lt i n) [
          | inl low ↦ all i low
          | inr high ↦ subst A (let e : n ≡ i = omega (arith, lt, high) in e) a
        ])
      ]
    ]

pub some_of : (o : Option (List ℕ)) → IsSome o → (page : List ℕ) × (o ≡ Some page)
some_of None some = absurd (true≢false (sym some))
some_of (Some page) some = (page, refl)

pub is_some_of : (o : Option (List ℕ)) (page : List ℕ) → o ≡ Some page → IsSome o
is_some_of o page e = rw e refl

module _ (asked : ℕ → Bool) (sp given : Decoding) (key : sp.key ≡ given.key) (alike : IsAlike sp.tree given.tree) where
  -- one ciphertext under alike nodes has one page
  page-alike : (k : ℕ) (text : List ℕ) → k < length sp.tree.nodes
      → page_of sp.key sp.tree.head (at_node sp.tree.nodes (k + 1)) k text ≡ page_of given.key given.tree.head (at_node given.tree.nodes (k + 1)) k text
  page-alike k text lt =
      let n = alike.nodes (k + 1) (omega arith) (omega (arith, lt)) in
      page_same sp.key given.key sp.tree.head given.tree.head (at_node sp.tree.nodes (k + 1)) (at_node given.tree.nodes (k + 1)) k text text key
      (ap (λ (h : Head). h.wrapped) alike.head) n.iv n.tag refl

  -- Of blocks that are good in both, each has one page, or two ciphertexts clash.
  pub compare : ((k : ℕ) → asked k ≡ true → (k < length sp.tree.nodes) × IsSome (page_decoded sp k)) → ((k : ℕ) → asked k ≡ true → IsSome (page_decoded given k))
      → ((k : ℕ) → k < length sp.tree.nodes → asked k ≡ true → page_decoded sp k ≡ page_decoded given k) ⊎ BlocksClash asked sp given
  compare stands gave = search_all (length sp.tree.nodes) (λ k. asked k ≡ true → page_decoded sp k ≡ page_decoded given k) (BlocksClash asked sp given) each
    where
      by_text : (k : ℕ) → k < length sp.tree.nodes → asked k ≡ true → (b : Bool) → bytes_eq (sp.block k) (given.block k) ≡ b
          → (asked k ≡ true → page_decoded sp k ≡ page_decoded given k) ⊎ BlocksClash asked sp given
      by_text k lt is true e =
          inl (λ _. page-alike k (sp.block k) lt ∙ ap (page_of given.key given.tree.head (at_node given.tree.nodes (k + 1)) k) (same_is (sp.block k) (given.block k) e))
      by_text k lt is false e =
          let own = some_of (page_decoded sp k) (stands k is).1 in
          let other = some_of (page_decoded given k) (gave k is) in
          inr (record {
            key = key;
            tree = alike;
            k = k;
            is_asked = is;
            clash = record {
              differ = not_same (sp.block k) (given.block k) e;
              page = own.0;
              opens = sym (page-alike k (sp.block k) lt) ∙ own.1;
              page_other = other.0;
              opens_other = other.1;
            };
          })

      by_asked : (k : ℕ) → k < length sp.tree.nodes → (b : Bool) → asked k ≡ b → (asked k ≡ true → page_decoded sp k ≡ page_decoded given k) ⊎ BlocksClash asked sp given
      by_asked k lt true is = by_text k lt is (bytes_eq (sp.block k) (given.block k)) refl
      by_asked k lt false is = inl (λ yes. absurd (true≢false (sym yes ∙ is)))

      each : (k : ℕ) → k < length sp.tree.nodes → (asked k ≡ true → page_decoded sp k ≡ page_decoded given k) ⊎ BlocksClash asked sp given
      each k lt = by_asked k lt (asked k) refl

-- A read of an object that is spelled out.
module _ (size position count : ℕ) (sp : Decoding) (root : RootRef) (verified : IsVerified root sp.tree) (long : sp.tree.head.length ≡ 4096 + size) where
  abbrev pub met : ℕ → Bool
  met k = meets (4096 + position) (4096 + position + min count (size - position)) k

  abbrev held : List ℕ
  held = bytes_from (page_at (pages_decoded sp)) 4096 size

  abbrev end : ℕ
  end = position + length (bytes_at held position count)

  pub within : (k : ℕ) → 4096 * k < 4096 + size → k < length sp.tree.nodes
  within k low =
      let many : sp.tree.head.greatest ≡ greatest_of sp.tree.head.length = sized_greatest sp.tree.head verified.hashed.sized in
      omega (arith, verified.hashed.all, many, long, low)

  pub met-low : (k : ℕ) → met k ≡ true → (1 ≤ k) × (4096 * k < 4096 + size)
  met-low k is =
      let a : 4096 + position < 4096 + position + min count (size - position) = grind (arith, is) in
      let b : 4096 * k < 4096 + position + min count (size - position) = grind (arith, is) in
      let c : 4096 + position < 4096 * (k + 1) = grind (arith, is) in
      (omega (arith, c), omega (arith, a, b))

  pub count-is : length (bytes_at held position count) ≡ min count (size - position)
  count-is = ap length (sym (bytes_at-object (page_at (pages_decoded sp)) size position count)) ∙ length-bytes_from (page_at (pages_decoded sp)) (4096 + position) (min count (size - position))

  met-same : (k : ℕ) → meets (4096 + position) (4096 + end) k ≡ met k
  met-same k = ap (λ (e : ℕ). meets (4096 + position) e k) (omega (arith, count-is))

  pub at-pages : (k : ℕ) → k < length sp.tree.nodes → page_at (pages_decoded sp) k ≡ page_decoded sp k
  at-pages k lt = row_at (page_decoded sp) (length sp.tree.nodes) k None lt

  -- where the machine meets no bad block, each is good
  pub good-met : list_any (meets_block position end) (bad_blocks (pages_decoded sp)) ≡ false → (k : ℕ) → met k ≡ true → IsSome (page_decoded sp k)
  good-met fine k is = by_page (page_decoded sp k) refl
    where
      by_page : (o : Option (List ℕ)) → page_decoded sp k ≡ o → IsSome (page_decoded sp k)
      by_page (Some page) e = is_some_of (page_decoded sp k) page e
      by_page None e =
          let low = met-low k is in
          let lt = within k low.1 in
          absurd (true≢false (sym (bad-found (pages_decoded sp) position end k low.0 (omega (arith, lt, length-row (page_decoded sp) (length sp.tree.nodes))) (met-same k ∙ is) (at-pages k lt ∙ e)) ∙ fine))

  abbrev Found : Type 0
  Found = (k : ℕ) × (met k ≡ true) × (page_decoded sp k ≡ None)

  -- where it meets one, there is one
  pub bad-at : list_any (meets_block position end) (bad_blocks (pages_decoded sp)) ≡ true → (k : ℕ) × (met k ≡ true) × (page_decoded sp k ≡ None)
  bad-at bad =
      elim (search_all (length (pages_decoded sp)) (λ k. meets (4096 + position) (4096 + end) k ≡ true → IsSome (page_at (pages_decoded sp) k)) Found each) [
        | inr found ↦ found
        | inl all ↦ absurd (true≢false (sym bad ∙ bad-met (pages_decoded sp) position end (λ k one below is. all k below is)))
      ]
    where
      by_page : (k : ℕ) → k < length sp.tree.nodes → (o : Option (List ℕ)) → page_decoded sp k ≡ o → (b : Bool) → met k ≡ b
          → (meets (4096 + position) (4096 + end) k ≡ true → IsSome (page_at (pages_decoded sp) k)) ⊎ Found
      by_page k lt (Some page) e b is = inl (λ _. is_some_of (page_at (pages_decoded sp) k) page (at-pages k lt ∙ e))
      by_page k lt None e true is = inr (k, is, e)
      by_page k lt None e false is = inl (λ yes. absurd (true≢false (sym yes ∙ met-same k ∙ is)))

      each : (k : ℕ) → k < length (pages_decoded sp) → (meets (4096 + position) (4096 + end) k ≡ true → IsSome (page_at (pages_decoded sp) k)) ⊎ Found
      each k lt = by_page k (omega (arith, lt, length-row (page_decoded sp) (length sp.tree.nodes))) (page_decoded sp k) refl (met k) refl

  -- bytes of pages that are the same at each block that is met are the machine's
  pub same-bytes : (pages : ℕ → Option (List ℕ)) → ((k : ℕ) → k < length sp.tree.nodes → met k ≡ true → page_decoded sp k ≡ pages k)
      → bytes_from pages (4096 + position) (min count (size - position)) ≡ bytes_at held position count
  same-bytes pages same = elim (cases_lt position size) [
    | inl some ↦ by_count (cases_lt 0 count) some
    | inr past ↦
        let none : min count (size - position) ≡ 0 = omega (arith, past) in
        ap (bytes_from pages (4096 + position)) none ∙ sym (ap (bytes_from (page_at (pages_decoded sp)) (4096 + position)) none) ∙ bytes_at-object (page_at (pages_decoded sp)) size position count
  ]
    where
      by_count : (0 < count) ⊎ (count ≤ 0) → position < size → bytes_from pages (4096 + position) (min count (size - position)) ≡ bytes_at held position count
      by_count (inr zero-count) some =
          let none : min count (size - position) ≡ 0 = omega (arith, zero-count) in
          ap (bytes_from pages (4096 + position)) none ∙ sym (ap (bytes_from (page_at (pages_decoded sp)) (4096 + position)) none) ∙ bytes_at-object (page_at (pages_decoded sp)) size position count
      by_count (inl more) some =
          bytes_from-same pages (page_at (pages_decoded sp)) (4096 + position) (min count (size - position))
          (λ k from below.
          let lt : k < length sp.tree.nodes = within k (omega (arith, below, some)) in
          let a : 4096 + position < 4096 + position + min count (size - position) = omega (arith, some, more) in
          let c : 4096 + position < 4096 * (k + 1) = omega (arith, from) in
          let is : met k ≡ true = meets_from (4096 + position) (4096 + position + min count (size - position)) k a below c in
          sym (same k lt is) ∙ sym (at-pages k lt))
          ∙ bytes_at-object (page_at (pages_decoded sp)) size position count
