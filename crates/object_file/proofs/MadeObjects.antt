-- The object in the pages that it was made of.
use Rattle.std.proofs.Common.{◌≡◌, ◌∙◌, ℕ, ◌+◌, ◌-◌, ◌*◌, ◌/◌, ◌%◌, ◌<◌, ◌≤◌, List, [], length, get_or, map, take, Option, Some, None, Ok, ap, sym, subst, refl, arith}
use Rattle.std.specs.Option.{is_none}
use Rattle.std.proofs.lemmas.Grind.{same_number_lists}
use Rattle.std.proofs.lemmas.List.{get_or-map, get_or-take, length-map, length-take-le}
use Rattle.node_image.specs.Layout.{greatest_of}
use Rattle.node_image.specs.declared.node.RootRef.{RootRef}
use Rattle.htree_file.specs.Pages.{Opened, opened_of}
use Rattle.page_bytes.specs.Pages.{byte_in, bytes_from, page_at}
use Rattle.page_bytes.proofs.Content.{bytes_from-is}
use Rattle.store_model.specs.Object.{Sound}
use Rattle.crash_core.specs.MountedObject.{bad_blocks, object_in, object_or_damaged}
use Rattle.crash_core.proofs.BadBlocks.{filter-none}
use Rattle.crash_core.proofs.ObjectChanges.{object_of-sound}
use Rattle.object_file.specs.Making.{AreObjectPages, object_byte}

module _ (attributes bytes : List ℕ) (pages : List (List ℕ)) (short : length attributes ≤ 4096) (count : length pages ≡ greatest_of (4096 + length bytes))
    (are : AreObjectPages attributes bytes pages (length pages)) where
  abbrev good : List (Option (List ℕ))
  good = map (λ page. Some page) pages

  good_at : (k : ℕ) → k < length pages → page_at good k ≡ Some (get_or pages k [])
  good_at k lt = get_or-map (λ (page : List ℕ). Some page) pages k [] None lt

  some : 0 < length pages
  some = omega (arith, count)

  attributes_are : take (length attributes) (get_or pages 0 []) ≡ attributes
  attributes_are =
      let page = are 0 some in
      let long : length (take (length attributes) (get_or pages 0 [])) ≡ length attributes = length-take-le (length attributes) (get_or pages 0 []) (omega (arith, page.long, short)) in
      same_number_lists (take (length attributes) (get_or pages 0 [])) attributes long
      (λ i lt. let low : i < length attributes = subst (λ (n : ℕ). i < n) long lt in
      get_or-take (length attributes) (get_or pages 0 []) i 0 low ∙ page.bytes_are i (omega (arith, low, short)))

  bytes_are : bytes_from (page_at good) 4096 (length bytes) ≡ bytes
  bytes_are = bytes_from-is (page_at good) 4096 (length bytes) bytes refl (λ i lt.
      let k : ℕ = (4096 + i) / 4096 in
      let j : ℕ = (4096 + i) % 4096 in
      let within : k < length pages = omega (arith, count, lt) in
      let place : 4096 * (k - 1) + j ≡ i = omega arith in
      let page = are k within in
      let here : get_or (get_or pages k []) j 0 ≡ get_or bytes (4096 * (k - 1) + j) 0 = page.bytes_are j (omega arith) ∙ data_byte k j (omega arith) in
      sym (ap (λ (o : Option (List ℕ)). byte_in o j) (good_at k within) ∙ here ∙ ap (λ (n : ℕ). get_or bytes n 0) place))
    where
      data_byte : (k j : ℕ) → 1 ≤ k → object_byte attributes bytes k j ≡ get_or bytes (4096 * (k - 1) + j) 0
      data_byte k j later = grind (arith, later)

  none_bad : bad_blocks good ≡ []
  none_bad = filter-none (λ k. is_none (page_at good k)) 1 (length good - 1) (λ k one lt.
      ap is_none (good_at k (omega (arith, lt, length-map pages (λ (page : List ℕ). Some page)))))

  -- opened, they are the object, sound
  pub made_object : (tsk image : List ℕ) (root : RootRef) → opened_of tsk image root ≡ Ok (record { bytes = 4096 + length bytes; pages = good })
      → object_in tsk image root (length bytes) (length attributes) ≡ Sound (record { attributes = attributes; bytes = bytes; bad = [] })
  made_object tsk image root opened =
      let now : Opened = record { bytes = 4096 + length bytes; pages = good } in
      ap (object_or_damaged (length bytes) (length attributes)) opened
      ∙ object_of-sound (length bytes) (length attributes) now (get_or pages 0 []) refl (good_at 0 some)
      ∙ (λ i. Sound (record { attributes = attributes_are i; bytes = bytes_are i; bad = none_bad i }))
