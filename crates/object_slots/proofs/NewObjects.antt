-- The object that a new tree spells, with the ciphertexts that its nodes seal.
use Rattle.std.proofs.Common.{◌≡◌, ◌∙◌, ℕ, ◌+◌, ◌-◌, ◌*◌, ◌/◌, ◌%◌, ◌<◌, ◌≤◌, nat_lt, Bool, true, false, List, [], length, get_or, map, take, Option, Some, None, ap, sym, subst, refl, arith}
use Rattle.std.proofs.lemmas.Bool.{lt-ltb, ltb-true}
use Rattle.std.specs.Option.{is_none}
use Rattle.std.proofs.lemmas.Grind.{same_number_lists}
use Rattle.std.proofs.lemmas.List.{get_or-map, get_or-take, length-map, length-take-le}
use Rattle.node_image.specs.Layout.{greatest_of}
use Rattle.htree_file.specs.Pages.{Opened, page_of}
use Rattle.page_bytes.specs.Pages.{byte_in, bytes_from, page_at}
use Rattle.page_bytes.proofs.Content.{bytes_from-is}
use Rattle.store_model.specs.Object.{Sound}
use Rattle.object_file.specs.MountedObject.{bad_blocks, object_of}
use Rattle.object_file.proofs.BadBlocks.{filter-none}
use Rattle.object_file.proofs.ObjectChanges.{object_of-sound}
use Rattle.aes_block.specs.WrappedKey.{unwrapped_of}
use Rattle.node_image.specs.Selection.{row}
use Rattle.node_image.specs.Tables.{at_node}
use Rattle.node_image.proofs.Matching.{length-row, row_at, row_is}
use Rattle.htree_file.specs.Changes.{Seals}
use Rattle.htree_file.specs.Opening.{Loaded}
use Rattle.core_laws.specs.Decodings.{object_decoded, page_decoded, pages_decoded, tree_decoding}
use Rattle.object_file.specs.Making.{AreObjectPages, IsObjectPage, object_byte}

module _ (attributes bytes : List ℕ) (pages : List (List ℕ)) (short : length attributes ≤ 4096) (count : length pages ≡ greatest_of (4096 + length bytes))
    (are : AreObjectPages attributes bytes pages (length pages)) where
  abbrev good : List (Option (List ℕ))
  good = map (λ page. Some page) pages

  good_at : (k : ℕ) → k < length pages → page_at good k ≡ Some (get_or pages k [])
  good_at k lt = get_or-map (λ (page : List ℕ). Some page) pages k [] None lt

  some : 0 < length pages
  some = omega (arith, count)

  attributes_are : take (length attributes) (get_or pages 0 []) ≡ attributes
  attributes_are =
      let page = are 0 some in
      let long : length (take (length attributes) (get_or pages 0 [])) ≡ length attributes = length-take-le (length attributes) (get_or pages 0 []) (omega (arith, page.long, short)) in
      same_number_lists (take (length attributes) (get_or pages 0 [])) attributes long
      (λ i lt. let low : i < length attributes = subst (λ (n : ℕ). i < n) long lt in
      get_or-take (length attributes) (get_or pages 0 []) i 0 low ∙ page.bytes_are i (omega (arith, low, short)))

  bytes_are : bytes_from (page_at good) 4096 (length bytes) ≡ bytes
  bytes_are = bytes_from-is (page_at good) 4096 (length bytes) bytes refl (λ i lt.
      let k : ℕ = (4096 + i) / 4096 in
      let j : ℕ = (4096 + i) % 4096 in
      let within : k < length pages = omega (arith, count, lt) in
      let place : 4096 * (k - 1) + j ≡ i = omega arith in
      let page = are k within in
      let here : get_or (get_or pages k []) j 0 ≡ get_or bytes (4096 * (k - 1) + j) 0 = page.bytes_are j (omega arith) ∙ data_byte k j (omega arith) in
      sym (ap (λ (o : Option (List ℕ)). byte_in o j) (good_at k within) ∙ here ∙ ap (λ (n : ℕ). get_or bytes n 0) place))
    where
      data_byte : (k j : ℕ) → 1 ≤ k → object_byte attributes bytes k j ≡ get_or bytes (4096 * (k - 1) + j) 0
      data_byte k j later = grind (arith, later)

  none_bad : bad_blocks good ≡ []
  none_bad = filter-none (λ k. is_none (page_at good k)) 1 (length good - 1) (λ k one lt.
      ap is_none (good_at k (omega (arith, lt, length-map pages (λ (page : List ℕ). Some page)))))

  -- opened, they are the object, sound
  pub pages_object : object_of (length bytes) (length attributes) (record { bytes = 4096 + length bytes; pages = good }) ≡ Sound (record { attributes = attributes; bytes = bytes; bad = [] })
  pages_object =
      let now : Opened = record { bytes = 4096 + length bytes; pages = good } in
      object_of-sound (length bytes) (length attributes) now (get_or pages 0 []) refl (good_at 0 some)
      ∙ (λ i. Sound (record { attributes = attributes_are i; bytes = bytes_are i; bad = none_bad i }))

-- what a proof of a test chooses, or else what is there
abbrev pub pick : {A : Type 0} → (b : Bool) → A → (b ≡ true → A) → A
pick true other f = f refl
pick false other f = other

pub pick-is : {A : Type 0} (b : Bool) (other : A) (f : b ≡ true → A) (P : A → Type 0) → ((is : b ≡ true) → P (f is)) → b ≡ true → P (pick b other f)
pick-is true other f P each is = each refl
pick-is false other f P each is = absurd (cc (is))

-- A page, and a ciphertext that opens to it.
pub record SealedPage : Type 0 where
  pub page : List ℕ
  pub text : List ℕ

module _ (wrap attributes bytes : List ℕ) (key : List ℕ) (tree : Loaded) (short : length attributes ≤ 4096) (unwraps : key ≡ unwrapped_of wrap tree.head.wrapped)
    (long : tree.head.length ≡ 4096 + length bytes) (whole : length tree.nodes ≡ greatest_of tree.head.length)
    (seals : (k : ℕ) → k < length tree.nodes → (page : List ℕ) × IsObjectPage attributes bytes k page × Seals key tree k page) where
  abbrev blank : SealedPage
  blank = record { page = []; text = [] }

  abbrev pub sealed : (k : ℕ) → SealedPage
  sealed k = pick (nat_lt k (length tree.nodes)) blank (λ is. let q = seals k (ltb-true k (length tree.nodes) is) in record { page = q.0; text = q.2.0 })

  abbrev pub text : ℕ → List ℕ
  text k = (sealed k).text

  page_is : (k : ℕ) → k < length tree.nodes → IsObjectPage attributes bytes k (sealed k).page
  page_is k lt =
      pick-is (nat_lt k (length tree.nodes)) blank (λ is. let q = seals k (ltb-true k (length tree.nodes) is) in record { page = q.0; text = q.2.0 })
      (λ s. IsObjectPage attributes bytes k s.page) (λ is. (seals k (ltb-true k (length tree.nodes) is)).1) (lt-ltb k (length tree.nodes) lt)

  opens : (k : ℕ) → k < length tree.nodes → page_of key tree.head (at_node tree.nodes (k + 1)) k (sealed k).text ≡ Some (sealed k).page
  opens k lt =
      pick-is (nat_lt k (length tree.nodes)) blank (λ is. let q = seals k (ltb-true k (length tree.nodes) is) in record { page = q.0; text = q.2.0 })
      (λ s. page_of key tree.head (at_node tree.nodes (k + 1)) k s.text ≡ Some s.page) (λ is. (seals k (ltb-true k (length tree.nodes) is)).2.1) (lt-ltb k (length tree.nodes) lt)

  abbrev pages : List (List ℕ)
  pages = row (λ k. (sealed k).page) (length tree.nodes)

  count : length pages ≡ length tree.nodes
  count = length-row (λ k. (sealed k).page) (length tree.nodes)

  -- with these ciphertexts it spells the new object
  pub decodes_new : object_decoded (length bytes) (length attributes) (Some (tree_decoding wrap (λ k. get_or (row text (length tree.nodes)) k []) tree)) ≡ Sound (record { attributes = attributes; bytes = bytes; bad = [] })
  decodes_new =
      let n : ℕ = length tree.nodes in
      let good_pages : List (Option (List ℕ)) = map (λ (page : List ℕ). Some page) pages in
      let counted : length good_pages ≡ n = length-map pages (λ (page : List ℕ). Some page) ∙ count in
      let each : (k : ℕ) → k < n → page_decoded (tree_decoding wrap (λ j. get_or (row text n) j []) tree) k ≡ get_or good_pages k None =
      λ k lt.
      (λ i. page_of (sym unwraps i) tree.head (at_node tree.nodes (k + 1)) k (row_at text n k [] lt i))
      ∙ opens k lt
      ∙ ap (λ (page : List ℕ). Some page) (sym (row_at (λ j. (sealed j).page) n k [] lt))
      ∙ sym (get_or-map (λ (page : List ℕ). Some page) pages k [] None (subst (λ (m : ℕ). k < m) (sym count) lt)) in
      let same : pages_decoded (tree_decoding wrap (λ j. get_or (row text n) j []) tree) ≡ good_pages =
      row_is (page_decoded (tree_decoding wrap (λ j. get_or (row text n) j []) tree)) good_pages n None counted each in
      let are : AreObjectPages attributes bytes pages (length pages) =
      λ k lt.
      let low : k < n = subst (λ (m : ℕ). k < m) count lt in
      subst (IsObjectPage attributes bytes k) (sym (row_at (λ j. (sealed j).page) n k [] low)) (page_is k low) in
      (λ i. object_of (length bytes) (length attributes) (record { bytes = long i; pages = same i }))
      ∙ pages_object attributes bytes pages short (count ∙ whole ∙ ap greatest_of long) are
