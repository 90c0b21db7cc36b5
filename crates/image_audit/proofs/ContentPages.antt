-- The pages of a tree, one after the other.
use Rattle.std.proofs.Common.{◌≡◌, inl, inr, ℕ, suc, ◌+◌, ◌-◌, ◌*◌, ◌/◌, ◌%◌, ◌<◌, ◌≤◌, List, [], ◌++◌, length, take, drop, get_or, Option, Some, Ok, sym, ap, ◌∙◌, length-append, arith}
use Rattle.std.proofs.lemmas.Bool.{cases_lt}
use Rattle.std.proofs.lemmas.List.{append-nil, drop-append-le, drop_at, ext_get_or, get_or-drop, get_or-take, length-drop, take-append-le, take-take}
use Rattle.byte_fields.specs.Field.{field}
use Rattle.byte_fields.proofs.Fields.{field_here, length-field}
use Rattle.node_image.proofs.Matching.{row_at}
use Rattle.page_bytes.specs.Pages.{byte_at, byte_in, bytes_from, page_at}
use Rattle.page_bytes.proofs.Content.{get_or-bytes_from, length-bytes_from}
use Rattle.dir_records.specs.declared.entry.DirEntry.{DirEntry}
use Rattle.core_laws.specs.Decodings.{Decoding, opened_decoded, page_decoded}
use Rattle.image_audit.specs.Checking.{and_then, front_page, listing, page_test, pages_test}
use Rattle.image_audit.specs.Contents.{HoldsPages, listed_in}

pub pages_step : (sp : Decoding) (k count : ℕ) → k < count → pages_test sp k (count - k) ≡ and_then (page_test sp k) (λ page. pages_test sp (k + 1) (count - (k + 1)))
unfolding pages_test
pages_step sp k count lt = let e : count - k ≡ suc (count - (k + 1)) = omega arith in ap (pages_test sp k) e

pub pages_end : (sp : Decoding) (k count : ℕ) → count ≤ k → pages_test sp k (count - k) ≡ Ok k
unfolding pages_test
pages_end sp k count le = let e : count - k ≡ 0 = omega arith in ap (pages_test sp k) e

-- one page more
pub holds_more : (sp : Decoding) (content page : List ℕ) (k : ℕ) → HoldsPages sp content k → length page ≡ 4096 → page_decoded sp k ≡ Some page → HoldsPages sp (content ++ page) (k + 1)
holds_more sp content page k held wide good = record {
  long = length-append content page ∙ omega (arith, held.long, wide);
  each = λ j lt. elim (cases_lt j k) [
    | inl low ↦
        let within : 4096 * j + 4096 ≤ length content = omega (arith, low, held.long) in
        held.each j low ∙ ap (λ (l : List ℕ). Some l)
        (sym (ap (take 4096) (drop-append-le (4096 * j) content page (omega arith)) ∙ take-append-le 4096 (drop (4096 * j) content) page (omega (arith, within, length-drop (4096 * j) content))))
    | inr high ↦
        let last : j ≡ k = omega (arith, lt, high) in
        let place : length content ≡ 4096 * j = omega (arith, held.long, last) in
        ap (page_decoded sp) last ∙ good ∙ ap (λ (l : List ℕ). Some l)
        (sym (field_here (content ++ page) page [] (4096 * j) 4096 (drop_at content page (4096 * j) place ∙ sym (append-nil page)) wide))
  ];
}

module _ (e : DirEntry) (sp : Decoding) (content : List ℕ) (g : ℕ) (held : HoldsPages sp content g) (count : length sp.tree.nodes ≡ g) (some : 1 ≤ g) (size : 4096 + e.size ≤ 4096 * g)
    (attributes : e.attributes ≤ 2048) where
  abbrev pages : List (Option (List ℕ))
  pages = (opened_decoded sp).pages

  there : (k : ℕ) → k < g → page_at pages k ≡ Some (field (4096 * k) 4096 content)
  there k lt = row_at (page_decoded sp) (length sp.tree.nodes) k _ (omega (arith, lt, count)) ∙ held.each k lt

  front : take e.attributes (front_page (page_at pages 0)) ≡ take e.attributes content
  front = ap (λ (x : Option (List ℕ)). take e.attributes (front_page x)) (there 0 (omega arith)) ∙ take-take e.attributes 4096 content (omega arith)

  byte : (i : ℕ) → i < e.size → byte_at (page_at pages) (4096 + i) ≡ get_or content (4096 + i) 0
  byte i lt =
      let k : ℕ = (4096 + i) / 4096 in
      let r : ℕ = (4096 + i) % 4096 in
      let low : (4096 + i) / 4096 < g = omega (arith, lt, size) in
      let small : (4096 + i) % 4096 < 4096 = omega arith in
      let place : 4096 * ((4096 + i) / 4096) + (4096 + i) % 4096 ≡ 4096 + i = omega arith in
      ap (λ (x : Option (List ℕ)). byte_in x ((4096 + i) % 4096)) (there ((4096 + i) / 4096) low)
      ∙ get_or-take 4096 (drop (4096 * ((4096 + i) / 4096)) content) ((4096 + i) % 4096) 0 small
      ∙ get_or-drop (4096 * ((4096 + i) / 4096)) content ((4096 + i) % 4096) 0
      ∙ ap (λ (p : ℕ). get_or content p 0) place

  data_long : length (field 4096 e.size content) ≡ e.size
  data_long = length-field content 4096 e.size (omega (arith, size, held.long))

  bytes : bytes_from (page_at pages) 4096 e.size ≡ field 4096 e.size content
  bytes = ext_get_or 0 (bytes_from (page_at pages) 4096 e.size) (field 4096 e.size content) (length-bytes_from (page_at pages) 4096 e.size ∙ sym data_long)
      (λ i lt. let low : i < e.size = omega (arith, lt, length-bytes_from (page_at pages) 4096 e.size) in
      get_or-bytes_from (page_at pages) 4096 e.size i low ∙ byte i low ∙ sym (get_or-take e.size (drop 4096 content) i 0 low ∙ get_or-drop 4096 content i 0))

  pub listing_is : listing e sp ≡ listed_in e content
  listing_is = λ i. record { app = e.app; id = e.id; attributes = front i; bytes = bytes i }
