-- A directory that was read of a tree, page by page, as a tree that was read.
use Rattle.std.proofs.Common.{◌≡◌, ◌⊎◌, inl, inr, ℕ, zero, suc, ◌+◌, ◌<◌, ◌≤◌, List, [], ◌∷◌, length, get_or, Option, Some, None, Result, Ok, refl, sym, ap, ◌∙◌, arith}
use Rattle.std.proofs.lemmas.Bool.{cases_lt}
use Rattle.std.proofs.lemmas.List.{ext_get_or}
use Rattle.disk_model.specs.State.{FileState}
use Rattle.aes_block.specs.WrappedKey.{unwrapped_of}
use Rattle.node_image.specs.declared.node.RootRef.{RootRef}
use Rattle.node_image.specs.Layout.{greatest_of}
use Rattle.node_image.specs.Tables.{at_node}
use Rattle.node_image.proofs.Matching.{length-row, row_at}
use Rattle.htree_file.specs.Opening.{IsVerified, Loaded}
use Rattle.htree_file.specs.Pages.{page_of}
use Rattle.htree_file.proofs.Sizes.{sized_greatest}
use Rattle.dir_records.specs.declared.entry.DirEntry.{DirEntry}
use Rattle.crash_core.specs.declared.fault.DirFault.{DirFault}
use Rattle.crash_core.specs.Directory.{directory_from}
use Rattle.dir_file.specs.Loading.{IsReadDirectory, SeesDirectory}
use Rattle.dir_file.specs.Pages.{some_pages}
use Rattle.dir_file.specs.Seen.{SeesBlock}
use Rattle.core_laws.specs.Decodings.{opened_decoded, page_decoded, pages_decoded}
use Rattle.freshness_laws.specs.Readings.{ReadTree, decoding_read}
use Rattle.freshness_laws.proofs.Objects.{whole_of}
use Rattle.run_freshness.specs.Seen.{SeesRead}

pub some_at : (items : List (List ℕ)) (k : ℕ) → k < length items → get_or (some_pages items) k None ≡ Some (get_or items k [])
some_at [] k lt = absurd (omega (arith, lt))
some_at (page ∷ items) zero lt = refl
some_at (page ∷ items) (suc k) lt = some_at items k (omega (arith, lt))

pub some_length : (items : List (List ℕ)) → length (some_pages items) ≡ length items
some_length [] = refl
some_length (page ∷ items) = ap suc (some_length items)

module _ (wrap : List ℕ) (root : RootRef) (tree : Loaded) (verified : IsVerified root tree) (answer : Result (List (Option DirEntry)) DirFault) (read : IsReadDirectory wrap tree answer) where
  abbrev text_by : (k : ℕ) → (k < length read.items) ⊎ (length read.items ≤ k) → List ℕ
  text_by k (inl lt) = (read.sealed k lt).0
  text_by k (inr past) = []

  -- the tree, with the ciphertexts of the pages
  abbrev pub sealed_tree : ReadTree root
  sealed_tree = record { tree = tree; verified = verified; block = λ k. text_by k (cases_lt k (length read.items)) }

  good_by : (k : ℕ) (c : (k < length read.items) ⊎ (length read.items ≤ k)) → k < length read.items
      → page_of (unwrapped_of wrap tree.head.wrapped) tree.head (at_node tree.nodes (k + 1)) k (text_by k c) ≡ Some (get_or read.items k [])
  good_by k (inl lt) low = (read.sealed k lt).1
  good_by k (inr past) low = absurd (omega (arith, past, low))

  good : (k : ℕ) → k < length read.items → page_decoded (decoding_read wrap sealed_tree) k ≡ Some (get_or read.items k [])
  good k lt = good_by k (cases_lt k (length read.items)) lt

  pub pages_are : length tree.nodes ≡ 8 → pages_decoded (decoding_read wrap sealed_tree) ≡ some_pages read.items
  pages_are many =
      let long : length (pages_decoded (decoding_read wrap sealed_tree)) ≡ 8 = length-row (page_decoded (decoding_read wrap sealed_tree)) (length tree.nodes) ∙ many in
      ext_get_or None (pages_decoded (decoding_read wrap sealed_tree)) (some_pages read.items) (long ∙ sym (some_length read.items ∙ read.long)) (λ k lt.
      let low : k < length read.items = omega (arith, lt, long, read.long) in
      row_at (page_decoded (decoding_read wrap sealed_tree)) (length tree.nodes) k None (omega (arith, lt, long, many)) ∙ good k low ∙ sym (some_at read.items k low))

  pub sealed_answer : length tree.nodes ≡ 8 → directory_from (Ok (opened_decoded (decoding_read wrap sealed_tree))) ≡ answer
  sealed_answer many =
      ap (λ (l : List (Option (List ℕ))). let r : Result (List (Option DirEntry)) DirFault = directory_from (Ok (record { bytes = tree.head.length; pages = l })) in r) (pages_are many) ∙ read.reads

-- a directory that is read has eight blocks
eight_nodes : (wrap : List ℕ) (root : RootRef) (tree : Loaded) → IsVerified root tree → (entries : List (Option DirEntry)) → IsReadDirectory wrap tree (Ok entries) → length tree.nodes ≡ 8
eight_nodes wrap root tree verified entries read =
    verified.hashed.all ∙ sized_greatest tree.head verified.hashed.sized ∙ ap greatest_of (whole_of (record { bytes = tree.head.length; pages = some_pages read.items }) entries read.reads).long

pub sealed_reads : (wrap : List ℕ) (root : RootRef) (tree : Loaded) (verified : IsVerified root tree) (entries : List (Option DirEntry)) (read : IsReadDirectory wrap tree (Ok entries))
    → directory_from (Ok (opened_decoded (decoding_read wrap (sealed_tree wrap root tree verified (Ok entries) read)))) ≡ Ok entries
sealed_reads wrap root tree verified entries read = sealed_answer wrap root tree verified (Ok entries) read (eight_nodes wrap root tree verified entries read)

-- it is what was seen of it
pub sealed_seen : (wrap : List ℕ) (root : RootRef) (tree : Loaded) (verified : IsVerified root tree) (entries : List (Option DirEntry)) (old new : FileState)
    (seen : SeesDirectory old new wrap root tree (Ok entries)) → SeesRead old new (sealed_tree wrap root tree verified (Ok entries) (seen.entries).pages)
sealed_seen wrap root tree verified entries old new seen = record {
  table = seen.table;
  blocks = λ k lt.
      let read : IsReadDirectory wrap tree (Ok entries) = (seen.entries).pages in
      seen_by k (cases_lt k (length ((seen.entries).pages).items)) (omega (arith, lt, read.long, eight_nodes wrap root tree verified entries read));
}
  where
    seen_by : (k : ℕ) (c : (k < length ((seen.entries).pages).items) ⊎ (length ((seen.entries).pages).items ≤ k)) → k < length ((seen.entries).pages).items
        → SeesBlock old new tree k (text_by wrap root tree verified (Ok entries) (seen.entries).pages k c)
    seen_by k (inl lt) low = (seen.entries).blocks k lt
    seen_by k (inr past) low = absurd (omega (arith, past, low))
