-- What a tamper scenario leaves of a version: it has less damage, or the same.
use Rattle.std.proofs.Common.{◌≡◌, ◌⊎◌, ◌+◌, ◌-◌, ◌*◌, ◌/◌, ◌%◌, ◌==◌, ◌<◌, ◌≤◌, ℕ, Bool, true, false, true≢false, cond, List, length, get_or, take, Option, Some, None, option_map, IsSome, Result, Ok, Err, Contains, refl, sym, ap, ◌∙◌, subst, inl, inr, arith}
use Rattle.std.specs.List.{list_any}
use Rattle.std.specs.Prelude.{nat_eq}
use Rattle.std.proofs.lemmas.Bool.{cases_lt, eq-eqb, eqb-true}
use Rattle.std.proofs.lemmas.Cmp.{nat_eq_equiv}
use Rattle.std.proofs.lemmas.List.{get_or_past}
use Rattle.std.proofs.lemmas.Map.Views.{Contains-from_any, list_any-from_Contains}
use Rattle.node_image.specs.Tables.{at_node}
use Rattle.node_image.proofs.Matching.{length-row, row_at}
use Rattle.htree_file.specs.declared.fault.TreeFault.{TreeFault}
use Rattle.htree_file.specs.Opening.{Loaded}
use Rattle.htree_file.specs.Pages.{Opened, page_of}
use Rattle.page_bytes.specs.Pages.{bytes_from, byte_at, byte_in, page_at}
use Rattle.page_bytes.proofs.Content.{get_or-bytes_from, length-bytes_from}
use Rattle.store_model.specs.Object.{Damaged, Object, Sound, size_of}
use Rattle.store_model.specs.Damage.{HasFewerBad, HasLessDamage}
use Rattle.store_model.specs.Data.{meets_block}
use Rattle.hmac_keys.specs.declared.Keys.{Keys}
use Rattle.crash_core.specs.MountedObject.{bad_blocks, contents_of, object_of, object_with}
use Rattle.crash_core.proofs.BadBlocks.{list_any-bad-false, list_any-bad-true}
use Rattle.history_seats.specs.Numbers.{is_in}
use Rattle.history_seats.specs.Records.{Version}
use Rattle.core_laws.specs.Decodings.{IsReal, Decoding, block_of, object_decoded, opened_decoded, page_decoded, pages_decoded, tree_decoding, tree_decoding_if, decoding_of, wrap_of}
use Rattle.core_laws.specs.TamperScenarios.{TamperScenario, VerifiedTree, block_or, mended, nothing_back, object_under, supposed_under, tree_or, tree_supposed, under}

pub none_some : {X : Type 0} (x : X) → None ≡ Some x → ⊥
none_some x e = cc

pub some_same : {X : Type 0} (x y : X) → Some x ≡ Some y → x ≡ y
some_same x y e = cc

-- a good page stays
pub good_stays : (supposed : ℕ → Option (List ℕ)) (sp : Decoding) (k : ℕ) (page : List ℕ) → page_decoded sp k ≡ Some page → page_decoded (mended supposed sp) k ≡ Some page
good_stays supposed sp k page good =
    ap (λ (o : Option (List ℕ)). page_of sp.key sp.tree.head (at_node sp.tree.nodes (k + 1)) k (block_or o (sp.block k) (supposed k))) good ∙ good

-- the same among all of its pages
pub pages_stay : (supposed : ℕ → Option (List ℕ)) (sp : Decoding) (k : ℕ) (page : List ℕ) → page_at (pages_decoded sp) k ≡ Some page → page_at (pages_decoded (mended supposed sp)) k ≡ Some page
pages_stay supposed sp k page good = elim (cases_lt k (length sp.tree.nodes)) [
  | inl low ↦
      row_at (page_decoded (mended supposed sp)) (length sp.tree.nodes) k None low
      ∙ good_stays supposed sp k page (sym (row_at (page_decoded sp) (length sp.tree.nodes) k None low) ∙ good)
  | inr past ↦ absurd (none_some page (sym (get_or_past (pages_decoded sp) k None (omega (arith, past, length-row (page_decoded sp) (length sp.tree.nodes)))) ∙ good))
]

-- an object has the size that its entry wants, good or bad
pub size-object_of : (size attributes : ℕ) (opened : Opened) → size_of (object_of size attributes opened) ≡ size
size-object_of size attributes opened = by_length (opened.bytes == 4096 + size)
  where
    by_page : (page : Option (List ℕ)) → size_of (object_with size attributes opened.pages page) ≡ size
    by_page None = refl
    by_page (Some page) = length-bytes_from (page_at opened.pages) 4096 size

    by_length : (b : Bool) → size_of (cond b (object_with size attributes opened.pages (page_at opened.pages 0)) (Damaged size)) ≡ size
    by_length true = by_page (page_at opened.pages 0)
    by_length false = refl

pub size-object_decoded : (size attributes : ℕ) (sp : Option Decoding) → size_of (object_decoded size attributes sp) ≡ size
size-object_decoded size attributes None = refl
size-object_decoded size attributes (Some sp) = size-object_of size attributes (opened_decoded sp)

no_less : (o : Object) → HasLessDamage o o
no_less (Sound c) = record { attributes = refl; size = refl; bad = λ k h. h; good = λ p h. refl }
no_less (Damaged size) = refl

from_damaged : (size : ℕ) (o : Object) → size_of o ≡ size → HasLessDamage (Damaged size) o
from_damaged size (Sound c) is = is
from_damaged size (Damaged other) is = is

-- Of two trees of one length and as many pages, where the pages that are good in the first are the same in the second.
module _ (size attributes : ℕ) (was now : Opened) (bytes : now.bytes ≡ was.bytes) (count : length now.pages ≡ length was.pages)
    (stays : (k : ℕ) (page : List ℕ) → page_at was.pages k ≡ Some page → page_at now.pages k ≡ Some page) where
  is_some-of : (o : Option (List ℕ)) (page : List ℕ) → o ≡ Some page → IsSome o
  is_some-of o page e = rw e refl

  -- a bad block is one of the pages
  bad_in : (pages : List (Option (List ℕ))) (k : ℕ) → list_any (nat_eq k) (bad_blocks pages) ≡ true → (1 ≤ k) × (k < length pages) × (page_at pages k ≡ None)
  bad_in pages k found = by_low (cases_lt k 1)
    where
      none : ((j : ℕ) → 1 ≤ j → j < length pages → nat_eq k j ≡ true → IsSome (page_at pages j)) → ⊥
      none good = true≢false (sym found ∙ list_any-bad-false (nat_eq k) pages good)

      by_page : (o : Option (List ℕ)) → page_at pages k ≡ o → page_at pages k ≡ None
      by_page None e = e
      by_page (Some page) e =
          absurd (none (λ j one below same. subst (λ (i : ℕ). IsSome (page_at pages i)) (eqb-true k j same) (is_some-of (page_at pages k) page e)))

      by_high : 1 ≤ k → (1 ≤ k) × (k < length pages) × (page_at pages k ≡ None)
      by_high one = elim (cases_lt k (length pages)) [
        | inl low ↦ (one, low, by_page (page_at pages k) refl)
        | inr past ↦ absurd (none (λ j from below same. absurd (omega (arith, past, below, eqb-true k j same))))
      ]

      by_low : (k < 1) ⊎ (1 ≤ k) → (1 ≤ k) × (k < length pages) × (page_at pages k ≡ None)
      by_low (inl low) = absurd (none (λ j from below same. absurd (omega (arith, low, from, eqb-true k j same))))
      by_low (inr one) = by_high one

  stays_bad : (k : ℕ) → page_at now.pages k ≡ None → page_at was.pages k ≡ None
  stays_bad k bad = by_page (page_at was.pages k) refl
    where
      by_page : (o : Option (List ℕ)) → page_at was.pages k ≡ o → page_at was.pages k ≡ None
      by_page None e = e
      by_page (Some page) e = absurd (none_some page (sym bad ∙ stays k page e))

  fewer : (k : ℕ) → Contains (bad_blocks now.pages) k → Contains (bad_blocks was.pages) k
  fewer k has =
      let b = bad_in now.pages k (list_any-from_Contains nat_eq_equiv k (bad_blocks now.pages) has) in
      Contains-from_any (λ x y same. eqb-true x y same) k (bad_blocks was.pages)
      (list_any-bad-true (nat_eq k) was.pages k b.0 (omega (arith, b.1, count)) (stays_bad k b.2) (eq-eqb k k refl))

  met : (p : ℕ) → meets_block p (p + 1) ((4096 + p) / 4096) ≡ true
  met p =
      let a : p < p + 1 = omega arith in
      let b : 4096 * ((4096 + p) / 4096 - 1) < p + 1 = omega arith in
      let c : p < 4096 * ((4096 + p) / 4096) = omega arith in
      grind (arith, a, b, c)

  -- a byte of a good block is the same
  same_byte : (p : ℕ) → list_any (meets_block p (p + 1)) (bad_blocks was.pages) ≡ false → byte_at (page_at now.pages) (4096 + p) ≡ byte_at (page_at was.pages) (4096 + p)
  same_byte p good = by_pages (page_at was.pages k) refl (page_at now.pages k) refl
    where
      k : ℕ
      k = (4096 + p) / 4096

      i : ℕ
      i = (4096 + p) % 4096

      by_pages : (o : Option (List ℕ)) → page_at was.pages k ≡ o → (n : Option (List ℕ)) → page_at now.pages k ≡ n → byte_at (page_at now.pages) (4096 + p) ≡ byte_at (page_at was.pages) (4096 + p)
      by_pages (Some page) e n f = ap (λ (o : Option (List ℕ)). byte_in o i) (stays k page e ∙ sym e)
      by_pages None e None f = ap (λ (o : Option (List ℕ)). byte_in o i) (f ∙ sym e)
      by_pages None e (Some page) f = elim (cases_lt k (length was.pages)) [
        | inl low ↦ absurd (true≢false (sym (list_any-bad-true (meets_block p (p + 1)) was.pages k (omega arith) low e (met p)) ∙ good))
        | inr past ↦ absurd (none_some page (sym (get_or_past now.pages k None (omega (arith, past, count))) ∙ f))
      ]

  good_byte : (p : ℕ) → list_any (meets_block p (p + 1)) (bad_blocks was.pages) ≡ false
      → get_or (bytes_from (page_at now.pages) 4096 size) p 0 ≡ get_or (bytes_from (page_at was.pages) 4096 size) p 0
  good_byte p good = elim (cases_lt p size) [
    | inl low ↦ get_or-bytes_from (page_at now.pages) 4096 size p low ∙ same_byte p good ∙ sym (get_or-bytes_from (page_at was.pages) 4096 size p low)
    | inr past ↦
        get_or_past (bytes_from (page_at now.pages) 4096 size) p 0 (omega (arith, past, length-bytes_from (page_at now.pages) 4096 size))
        ∙ sym (get_or_past (bytes_from (page_at was.pages) 4096 size) p 0 (omega (arith, past, length-bytes_from (page_at was.pages) 4096 size)))
  ]

  fewer_bad : (page other : List ℕ) → page_at was.pages 0 ≡ Some page → page_at now.pages 0 ≡ Some other
      → HasFewerBad (contents_of size attributes was.pages page) (contents_of size attributes now.pages other)
  fewer_bad page other e f = record {
    attributes = ap (take attributes) (some_same other page (sym f ∙ stays 0 page e));
    size = length-bytes_from (page_at now.pages) 4096 size ∙ sym (length-bytes_from (page_at was.pages) 4096 size);
    bad = fewer;
    good = good_byte;
  }

  less_with : (o : Option (List ℕ)) → page_at was.pages 0 ≡ o → (n : Option (List ℕ)) → page_at now.pages 0 ≡ n
      → HasLessDamage (object_with size attributes was.pages o) (object_with size attributes now.pages n)
  less_with None e None f = refl
  less_with None e (Some other) f = length-bytes_from (page_at now.pages) 4096 size
  less_with (Some page) e None f = absurd (none_some page (sym f ∙ stays 0 page e))
  less_with (Some page) e (Some other) f = fewer_bad page other e f

  pub less_of : HasLessDamage (object_of size attributes was) (object_of size attributes now)
  less_of =
      subst (λ (n : ℕ). HasLessDamage (object_of size attributes was) (cond (n == 4096 + size) (object_with size attributes now.pages (page_at now.pages 0)) (Damaged size)))
      (sym bytes) (by_length (was.bytes == 4096 + size))
    where
      by_length : (b : Bool) → HasLessDamage (cond b (object_with size attributes was.pages (page_at was.pages 0)) (Damaged size)) (cond b (object_with size attributes now.pages (page_at now.pages 0)) (Damaged size))
      by_length true = less_with (page_at was.pages 0) refl (page_at now.pages 0) refl
      by_length false = refl

module _ (keys : Keys) (scenario : TamperScenario) (file generation : ℕ) (v : Version) where
  less_loaded : (r : Result Loaded TreeFault) (t : Option (VerifiedTree v.root))
      → HasLessDamage (object_decoded v.size v.attributes (tree_decoding_if (wrap_of keys v) (block_of v) r))
      (object_decoded v.size v.attributes (option_map (λ tree. mended (scenario.blocks file generation) (tree_decoding (wrap_of keys v) (block_of v) tree)) (tree_or r t)))
  less_loaded (Ok tree) t =
      let sp : Decoding = tree_decoding (wrap_of keys v) (block_of v) tree in
      less_of v.size v.attributes (opened_decoded sp) (opened_decoded (mended (scenario.blocks file generation) sp)) refl
      (length-row (page_decoded (mended (scenario.blocks file generation) sp)) (length tree.nodes) ∙ sym (length-row (page_decoded sp) (length tree.nodes)))
      (pages_stay (scenario.blocks file generation) sp)
  less_loaded (Err fault) t =
      from_damaged v.size (object_decoded v.size v.attributes (option_map (λ tree. mended (scenario.blocks file generation) (tree_decoding (wrap_of keys v) (block_of v) tree)) (tree_supposed t)))
      (size-object_decoded v.size v.attributes (option_map (λ tree. mended (scenario.blocks file generation) (tree_decoding (wrap_of keys v) (block_of v) tree)) (tree_supposed t)))

  -- under a tamper scenario a real version has less damage
  pub less_under : IsReal keys v → HasLessDamage v.object (object_under keys scenario file generation v)
  less_under real = subst (λ (o : Object). HasLessDamage o (object_under keys scenario file generation v)) real.decodes (by_test (is_in file scenario.tampered))
    where
      by_test : (b : Bool) → HasLessDamage (object_decoded v.size v.attributes (decoding_of keys v))
          (object_decoded v.size v.attributes (cond b (supposed_under keys scenario file generation v) (decoding_of keys v)))
      by_test true = less_loaded v.loads (scenario.trees file generation v.root)
      by_test false = no_less (object_decoded v.size v.attributes (decoding_of keys v))

  pub size_under : size_of (object_under keys scenario file generation v) ≡ v.size
  size_under = size-object_decoded v.size v.attributes (under keys scenario file generation v)

  -- in a file that is honest stands what was committed
  pub under-honest : is_in file scenario.tampered ≡ false → under keys scenario file generation v ≡ decoding_of keys v
  under-honest off = ap (λ (b : Bool). cond b (supposed_under keys scenario file generation v) (decoding_of keys v)) off

  pub object_honest : IsReal keys v → is_in file scenario.tampered ≡ false → object_under keys scenario file generation v ≡ v.object
  object_honest real off = ap (object_decoded v.size v.attributes) (under-honest off) ∙ real.decodes

block_or-none : (o : Option (List ℕ)) (own : List ℕ) → block_or o own None ≡ own
block_or-none None own = refl
block_or-none (Some page) own = refl

mended-none : (sp : Decoding) → mended (λ k. None) sp ≡ sp
mended-none sp = λ i. record sp { block = λ k. block_or-none (page_decoded sp k) (sp.block k) i }

-- where nothing comes back, what stands is what a version spells out
pub under-nothing : (keys : Keys) (tampered : List ℕ) (file generation : ℕ) (v : Version) → under keys (nothing_back tampered) file generation v ≡ decoding_of keys v
under-nothing keys tampered file generation v = by_test (is_in file tampered)
  where
    by_load : (r : Result Loaded TreeFault) → option_map (λ tree. mended (λ k. None) (tree_decoding (wrap_of keys v) (block_of v) tree)) (tree_or {root = v.root} r None) ≡ tree_decoding_if (wrap_of keys v) (block_of v) r
    by_load (Ok tree) = ap Some (mended-none (tree_decoding (wrap_of keys v) (block_of v) tree))
    by_load (Err fault) = refl

    by_test : (b : Bool) → cond b (supposed_under keys (nothing_back tampered) file generation v) (decoding_of keys v) ≡ decoding_of keys v
    by_test true = by_load v.loads
    by_test false = refl

pub object_nothing : (keys : Keys) (tampered : List ℕ) (file generation : ℕ) (v : Version) → IsReal keys v → object_under keys (nothing_back tampered) file generation v ≡ v.object
object_nothing keys tampered file generation v real = ap (object_decoded v.size v.attributes) (under-nothing keys tampered file generation v) ∙ real.decodes
