-- Two trees that are verified under one reference are alike, or two of their nodes clash.
use Rattle.std.proofs.Common.{◌≡◌, ◌⊎◌, ◌+◌, ◌-◌, ◌*◌, ◌/◌, ◌<◌, ◌≤◌, ◌==◌, ℕ, zero, suc, Bool, true, false, cond, List, ◌++◌, length, get_or, Option, Some, None, refl, sym, ap, ◌∙◌, inl, inr, arith, leb, subst, ext_get_or}
use Rattle.std.proofs.lemmas.Bool.{cases_lt, cond-true, le-leb, leb-true, and_parts}
use Rattle.std.specs.Int.{w16, from_be_bytes}
use Rattle.std.proofs.lemmas.Nat.{from_be_bytes-to_be_bytes_2}
use Rattle.std.specs.Str.{bytes_eq}
use Rattle.sha2.proofs.Facts256.{length-sha256}
use Rattle.disk_model.specs.Bytes.{AreBytes}
use Rattle.node_image.specs.declared.node.RootRef.{RootRef}
use Rattle.node_image.specs.declared.head.Head.{Head}
use Rattle.node_image.specs.Layout.{greatest_of, is_sized}
use Rattle.node_image.specs.Tables.{at_node, no_node, stored_hash}
use Rattle.node_image.specs.Hashes.{child_input, head_input}
use Rattle.htree_file.specs.Opening.{IsVerified, Loaded}
use Rattle.htree_file.proofs.SameBytes.{not_same, same_is}
use Rattle.htree_file.proofs.Sizes.{sized_few}
use Rattle.core_laws.specs.Clashes.{HaveFlags, IsAlike, IsAlikeNode, NodeClash, input_at}
use Rattle.core_laws.proofs.HashInputs.{SameFields, input_bytes, same_fields, same_heads, split}

sized_long : (h : Head) → is_sized h ≡ true → h.length ≤ 1048576
sized_long h sized = leb-true h.length 1048576 (and_parts (leb h.length 1048576) (h.greatest == greatest_of h.length) sized).0

module _ (root : RootRef) (a b : Loaded) (va : IsVerified root a) (vb : IsVerified root b) where
  some-a : 1 ≤ length a.nodes
  some-a = omega (arith, va.hashed.all, (sized_few a.head va.hashed.sized).0)

  some-b : 1 ≤ length b.nodes
  some-b = omega (arith, vb.hashed.all, (sized_few b.head vb.hashed.sized).0)

  hash-a : (n : ℕ) → 1 ≤ n → n ≤ length a.nodes → length (at_node a.nodes n).hash ≡ 32
  hash-a n one le = ap length (va.hashed.hashes n one le) ∙ length-sha256 (input_at a n)

  hash-b : (n : ℕ) → 1 ≤ n → n ≤ length b.nodes → length (at_node b.nodes n).hash ≡ 32
  hash-b n one le = ap length (vb.hashed.hashes n one le) ∙ length-sha256 (input_at b n)

  -- what is hashed is bytes
  bytes-a : (n : ℕ) → 1 ≤ n → n ≤ length a.nodes → AreBytes (input_at a n)
  bytes-a n one le = input_bytes a n va.wrapped.bytes va.fields one le va.hashed.all

  bytes-b : (n : ℕ) → 1 ≤ n → n ≤ length b.nodes → AreBytes (input_at b n)
  bytes-b n one le = input_bytes b n vb.wrapped.bytes vb.fields one le vb.hashed.all

  -- nodes with one stored hash have one input, or clash
  inputs : (n : ℕ) → 1 ≤ n → n ≤ length a.nodes → n ≤ length b.nodes → (at_node a.nodes n).hash ≡ (at_node b.nodes n).hash → (input_at a n ≡ input_at b n) ⊎ NodeClash a b
  inputs n one na nb same = by_test (bytes_eq (input_at a n) (input_at b n)) refl
    where
      by_test : (q : Bool) → bytes_eq (input_at a n) (input_at b n) ≡ q → (input_at a n ≡ input_at b n) ⊎ NodeClash a b
      by_test true e = inl (same_is (input_at a n) (input_at b n) e)
      by_test false e = inr (record {
        node = n;
        first = one;
        within = (na, nb);
        bytes = bytes-a n one na;
        bytes_other = bytes-b n one nb;
        differ = not_same (input_at a n) (input_at b n) e;
        same = sym (va.hashed.hashes n one na) ∙ same ∙ vb.hashed.hashes n one nb;
      })

  heads : (a.head ≡ b.head) ⊎ NodeClash a b
  heads = elim (inputs 1 (omega arith) some-a some-b (va.hashed.root_hash ∙ sym vb.hashed.root_hash)) [
    | inr clash ↦ inr clash
    | inl same ↦
        let f = same_fields (at_node a.nodes 1) (at_node b.nodes 1) (Some a.head) (Some b.head) (stored_hash a.nodes a.head.greatest 2) (stored_hash a.nodes a.head.greatest 3)
        (stored_hash b.nodes b.head.greatest 2) (stored_hash b.nodes b.head.greatest 3) (va.fields 1 (omega arith) some-a) (vb.fields 1 (omega arith) some-b) same in
        let la = sized_long a.head va.hashed.sized in
        let lb = sized_long b.head vb.hashed.sized in
        let fa = sized_few a.head va.hashed.sized in
        let fb = sized_few b.head vb.hashed.sized in
        inl (same_heads a.head b.head _ _ va.wrapped.long vb.wrapped.long (omega (arith, la)) (omega (arith, lb)) (omega (arith, fa.1)) (omega (arith, fb.1)) f.rest)
  ]

  module _ (h : a.head ≡ b.head) where
    counts : length a.nodes ≡ length b.nodes
    counts = va.hashed.all ∙ ap (λ (x : Head). x.greatest) h ∙ sym vb.hashed.all

    stored-a : (m : ℕ) → m ≤ length a.nodes → stored_hash a.nodes a.head.greatest m ≡ Some (at_node a.nodes m).hash
    stored-a m le = cond-true (leb m a.head.greatest) (Some (at_node a.nodes m).hash) None (le-leb m a.head.greatest (omega (arith, va.hashed.all, le)))

    stored-b : (m : ℕ) → m ≤ length b.nodes → stored_hash b.nodes b.head.greatest m ≡ Some (at_node b.nodes m).hash
    stored-b m le = cond-true (leb m b.head.greatest) (Some (at_node b.nodes m).hash) None (le-leb m b.head.greatest (omega (arith, vb.hashed.all, le)))

    abbrev SameOwn : ℕ → Type 0
    SameOwn p = SameFields (at_node a.nodes p) (at_node b.nodes p) (cond (p == 1) (Some a.head) None) (cond (p == 1) (Some b.head) None)
        (stored_hash a.nodes a.head.greatest (2 * p)) (stored_hash a.nodes a.head.greatest (2 * p + 1))
        (stored_hash b.nodes b.head.greatest (2 * p)) (stored_hash b.nodes b.head.greatest (2 * p + 1))

    own : (p : ℕ) → 1 ≤ p → p ≤ length a.nodes → input_at a p ≡ input_at b p → SameOwn p
    own p one le e =
        same_fields (at_node a.nodes p) (at_node b.nodes p) (cond (p == 1) (Some a.head) None) (cond (p == 1) (Some b.head) None)
        (stored_hash a.nodes a.head.greatest (2 * p)) (stored_hash a.nodes a.head.greatest (2 * p + 1))
        (stored_hash b.nodes b.head.greatest (2 * p)) (stored_hash b.nodes b.head.greatest (2 * p + 1))
        (va.fields p one le) (vb.fields p one (omega (arith, counts, le))) e

    children : (p : ℕ) → 1 ≤ p → p ≤ length a.nodes → input_at a p ≡ input_at b p
        → child_input (stored_hash a.nodes a.head.greatest (2 * p)) ++ child_input (stored_hash a.nodes a.head.greatest (2 * p + 1))
        ≡ child_input (stored_hash b.nodes b.head.greatest (2 * p)) ++ child_input (stored_hash b.nodes b.head.greatest (2 * p + 1))
    children p one le e =
        let f = own p one le e in
        let same_head : head_input (cond (p == 1) (Some a.head) None) ≡ head_input (cond (p == 1) (Some b.head) None) = ap (λ (x : Head). head_input (cond (p == 1) (Some x) None)) h in
        (split (head_input (cond (p == 1) (Some a.head) None)) (head_input (cond (p == 1) (Some b.head) None)) _ _ (ap length same_head) f.rest).1

    left : (p : ℕ) → 1 ≤ p → 2 * p ≤ length a.nodes → input_at a p ≡ input_at b p
        → ((at_node a.nodes (2 * p)).hash ≡ (at_node b.nodes (2 * p)).hash) × (child_input (stored_hash a.nodes a.head.greatest (2 * p + 1)) ≡ child_input (stored_hash b.nodes b.head.greatest (2 * p + 1)))
    left p one le e =
        let both = children p one (omega (arith, one, le)) e in
        let sa = stored-a (2 * p) le in
        let sb = stored-b (2 * p) (omega (arith, counts, le)) in
        split (at_node a.nodes (2 * p)).hash (at_node b.nodes (2 * p)).hash _ _
        (hash-a (2 * p) (omega (arith, one)) le ∙ sym (hash-b (2 * p) (omega (arith, one)) (omega (arith, counts, le))))
        (ap (λ (x : Option (List ℕ)). child_input x ++ child_input (stored_hash a.nodes a.head.greatest (2 * p + 1))) (sym sa) ∙ both
        ∙ ap (λ (x : Option (List ℕ)). child_input x ++ child_input (stored_hash b.nodes b.head.greatest (2 * p + 1))) sb)

    right : (p : ℕ) → 1 ≤ p → 2 * p + 1 ≤ length a.nodes → input_at a p ≡ input_at b p → (at_node a.nodes (2 * p + 1)).hash ≡ (at_node b.nodes (2 * p + 1)).hash
    right p one le e =
        ap child_input (sym (stored-a (2 * p + 1) le)) ∙ (left p one (omega (arith, le)) e).1 ∙ ap child_input (stored-b (2 * p + 1) (omega (arith, counts, le)))

    child : (m : ℕ) → 2 ≤ m → m ≤ length a.nodes → input_at a (m / 2) ≡ input_at b (m / 2) → (at_node a.nodes m).hash ≡ (at_node b.nodes m).hash
    child m two le e = elim (cases_lt (2 * (m / 2)) m) [
      | inl odd ↦
          let is : 2 * (m / 2) + 1 ≡ m = omega (arith, odd) in
          (λ i. (at_node a.nodes (sym is i)).hash) ∙ right (m / 2) (omega (arith, two)) (omega (arith, le, is)) e ∙ (λ i. (at_node b.nodes (is i)).hash)
      | inr even ↦
          let is : 2 * (m / 2) ≡ m = omega (arith, even) in
          (λ i. (at_node a.nodes (sym is i)).hash) ∙ (left (m / 2) (omega (arith, two)) (omega (arith, le, is)) e).0 ∙ (λ i. (at_node b.nodes (is i)).hash)
    ]

    abbrev AllSame : ℕ → Type 0
    AllSame n = (m : ℕ) → 1 ≤ m → m ≤ n → m ≤ length a.nodes → (at_node a.nodes m).hash ≡ (at_node b.nodes m).hash

    hashes : (n : ℕ) → AllSame n ⊎ NodeClash a b
    hashes zero = inl (λ m one le within. absurd (omega (arith, one, le)))
    hashes (suc n) = elim (hashes n) [
      | inr clash ↦ inr clash
      | inl all ↦ elim (next n all) [
        | inr clash ↦ inr clash
        | inl last ↦ inl (λ m one le within. elim (cases_lt m (suc n)) [
          | inl low ↦ all m one (omega (arith, low)) within
          | inr high ↦ let is : suc n ≡ m = omega (arith, le, high) in
              (λ i. (at_node a.nodes (sym is i)).hash) ∙ last (omega (arith, within, is)) ∙ (λ i. (at_node b.nodes (is i)).hash)
        ])
      ]
    ]
      where
        next : (k : ℕ) → AllSame k → (suc k ≤ length a.nodes → (at_node a.nodes (suc k)).hash ≡ (at_node b.nodes (suc k)).hash) ⊎ NodeClash a b
        next zero all = inl (λ within. va.hashed.root_hash ∙ sym vb.hashed.root_hash)
        next (suc k) all = elim (cases_lt (suc k) (length a.nodes)) [
          | inr past ↦ inl (λ within. absurd (omega (arith, past, within)))
          | inl within ↦
              let p = suc (suc k) / 2 in
              elim (inputs p (omega arith) (omega (arith, within)) (omega (arith, within, counts)) (all p (omega arith) (omega arith) (omega (arith, within)))) [
                | inr clash ↦ inr clash
                | inl same ↦ inl (λ here. child (suc (suc k)) (omega arith) here same)
              ]
        ]

    abbrev AllAlike : ℕ → Type 0
    AllAlike n = (m : ℕ) → 1 ≤ m → m ≤ n → IsAlikeNode (at_node a.nodes m) (at_node b.nodes m)

    nodes-alike : (n : ℕ) → n ≤ length a.nodes → AllSame (length a.nodes) → AllAlike n ⊎ NodeClash a b
    nodes-alike zero le all = inl (λ m one low. absurd (omega (arith, one, low)))
    nodes-alike (suc n) le all = elim (nodes-alike n (omega (arith, le)) all) [
      | inr clash ↦ inr clash
      | inl low ↦ elim (inputs (suc n) (omega arith) le (omega (arith, counts, le)) (all (suc n) (omega arith) le le)) [
        | inr clash ↦ inr clash
        | inl same ↦
            let o = own (suc n) (omega arith) le same in
            let here : IsAlikeNode (at_node a.nodes (suc n)) (at_node b.nodes (suc n)) = record { hash = all (suc n) (omega arith) le le; iv = o.iv; tag = o.tag; flags = o.flags } in
            inl (λ m one below. elim (cases_lt m (suc n)) [
              | inl lower ↦ low m one (omega (arith, lower))
              | inr high ↦ subst (λ (i : ℕ). IsAlikeNode (at_node a.nodes i) (at_node b.nodes i)) (let is : suc n ≡ m = omega (arith, below, high) in is) here
            ])
      ]
    ]

  -- One reference, one tree: what the hashes tell of the two is the same, or there is a clash.
  pub alike_trees : IsAlike a b ⊎ NodeClash a b
  alike_trees = elim heads [
    | inr clash ↦ inr clash
    | inl h ↦ elim (hashes h (length a.nodes)) [
      | inr clash ↦ inr clash
      | inl all ↦ elim (nodes-alike h (length a.nodes) (omega arith) all) [
        | inr clash ↦ inr clash
        | inl each ↦ inl (record { layout = va.hashed.stands ∙ sym vb.hashed.stands; head = h; count = counts h; nodes = λ n one le. each n one le })
      ]
    ]
  ]

-- alike trees whose flags are 16 bits are the same
pub same_alike : (a b : Loaded) → HaveFlags a → HaveFlags b → IsAlike a b → a ≡ b
same_alike a b fa fb alike =
    let nodes : a.nodes ≡ b.nodes = ext_get_or no_node a.nodes b.nodes alike.count each in
    λ i. record { head = alike.head i; nodes = nodes i; layout = alike.layout i }
  where
    each : (k : ℕ) → k < length a.nodes → get_or a.nodes k no_node ≡ get_or b.nodes k no_node
    each k lt =
        let is : (k + 1) - 1 ≡ k = omega arith in
        let n = alike.nodes (k + 1) (omega arith) (omega (arith, lt)) in
        let flags : (at_node a.nodes (k + 1)).flags ≡ (at_node b.nodes (k + 1)).flags =
        sym (from_be_bytes-to_be_bytes_2 (at_node a.nodes (k + 1)).flags (fa (k + 1) (omega arith) (omega (arith, lt)))) ∙ ap (from_be_bytes w16) n.flags
        ∙ from_be_bytes-to_be_bytes_2 (at_node b.nodes (k + 1)).flags (fb (k + 1) (omega arith) (omega (arith, lt, alike.count))) in
        let same : at_node a.nodes (k + 1) ≡ at_node b.nodes (k + 1) = λ j. record { hash = n.hash j; iv = n.iv j; tag = n.tag j; flags = flags j } in
        (λ j. get_or a.nodes (sym is j) no_node) ∙ same ∙ (λ j. get_or b.nodes (is j) no_node)
