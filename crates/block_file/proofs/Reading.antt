-- Pages that were read, in the course of further calls.
use Rattle.std.proofs.Common.{◌≡◌, ◌∙◌, ℕ, ◌+◌, ◌-◌, ◌*◌, ◌/◌, ◌%◌, ◌<◌, ◌≤◌, ◌==◌, suc, cond, List, [], ◌++◌, length, get_or, drop, min, refl, ◌&&◌, nat_le, nat_lt, if◌then◌else◌, Option, None, Some, Bool, true, inl, inr, Result, Ok, Err, IsTrue, ap, sym, subst, arith, length-append, length-drop}
use Rattle.std.proofs.lemmas.Bool.{cases_lt, cond-false, cond-true, eq-eqb, false≢true, ne_eqb}
use Rattle.std.proofs.lemmas.Grind.{same_number_lists}
use Rattle.std.proofs.lemmas.List.{get_or_append_left, get_or-append_right, get_or-drop}
use Rattle.disk_model.specs.Arms.{Arms, count_call}
use Rattle.disk_model.specs.State.{FileState}
use Rattle.disk_model.specs.Calls.{GoesOn, Rests}
use Rattle.disk_model.specs.State.{Sound}
use Rattle.disk_model.specs.Keeps.{Keeps}
use Rattle.disk_model.proofs.Goings.{first_known}
use Rattle.disk_model.proofs.Laws.{rest_keeps}
use Rattle.disk_model.proofs.Seen.{runs_fewer, seen_later, seen_now, seen_then}
use Rattle.htree_file.specs.Opening.{Loaded}
use Rattle.htree_file.specs.Pages.{block_in, page_in, page_of}
use Rattle.node_image.specs.declared.node.NodeImage.{NodeImage}
use Rattle.node_image.specs.Parts.{In, Layout}
use Rattle.node_image.specs.Parts.Part.{block}
use Rattle.node_image.specs.Tables.{at_node, block_version}
use Rattle.htree_file.specs.Answers.{BlockAnswer}
use Rattle.htree_file.specs.Selected.{Lies}
use Rattle.htree_file.specs.Standing.{Told}
use Rattle.htree_file.proofs.Firmness.{keeps_selected}
use Rattle.htree_file.proofs.Causes.{told_then}
use Rattle.page_bytes.specs.declared.range.ByteRange.{ByteRange}
use Rattle.page_bytes.specs.Pages.{byte_at, byte_in, bytes_from}
use Rattle.page_bytes.specs.Ranges.{end_block, first_block, meets, read_range}
use Rattle.page_bytes.specs.Rewriting.{given_byte}
use borrow.Rule.Slice.PartMut.{put_mid}
use Rattle.page_bytes.proofs.Laying.{byte-put}
use Rattle.page_bytes.proofs.Content.{get_or-bytes_from, length-bytes_from, not-meets-before, not-meets-behind}
use Rattle.htree_file.specs.declared.fault.TreeFault.{TreeFault}
use Rattle.htree_file.specs.declared.fault.TreeFault.TheVariants.{BadHead, BadTag, Damaged, Failed, NoEntropy, NoMemory, Short}
use Rattle.block_file.specs.Reads.{AreReadBytes, BlocksAnswer, IsBad, IsPage, WasRead, after_calls, blocks_of}
use Rattle.block_file.specs.Parts.{AreRead, IsGiven, KeepsBehind, PageAnswer, PartAnswer}

-- what is told and followed to the end is so up to a point between
pub told_first : (a b c : FileState) → GoesOn b c → Told a c → Told a b
told_first a b c goes told = (subst (λ (t : Bool). IsTrue t) goes.tells told.0, first_known a b c goes told.1)

-- calls that change nothing keep the tree's places
pub rests_keep : (layout : Layout) (nodes : List NodeImage) (a b : FileState) → Sound a → Rests a b → Keeps (Lies layout nodes 0) a b
rests_keep layout nodes a b sound rests = keeps_selected layout nodes 0 a b (rest_keeps a b sound rests)

-- a page put among others
abbrev put_page : (pages : ℕ → List ℕ) (k : ℕ) (page : List ℕ) → ℕ → List ℕ
put_page pages k page j = cond (j == k) page (pages j)

put_old : (pages : ℕ → List ℕ) (k j : ℕ) (page : List ℕ) → j < k → put_page pages k page j ≡ pages j
put_old pages k j page low = cond-false (j == k) page (pages j) (ne_eqb j k (λ same. omega arith))

put_new : (pages : ℕ → List ℕ) (k j : ℕ) (page : List ℕ) → j ≡ k → put_page pages k page j ≡ page
put_new pages k j page same = cond-true (j == k) page (pages j) (eq-eqb j k same)

module _ (key : List ℕ) (tree : Loaded) where
  -- a page that was read stays one as calls go on that do not write at the tree's places
  pub page_first : {root : ℕ} (a b c : FileState) (k : ℕ) (page : List ℕ) → Keeps (Lies tree.layout tree.nodes root) b c → IsPage key tree a b k page → IsPage key tree a c k page
  page_first {root} a b c k page keeps read = record {
    among = read.among;
    ciphertext = read.ciphertext;
    seen = seen_later (In tree.layout (block k (block_version tree.nodes k))) a b c (λ image. read.ciphertext ≡ block_in image tree k)
        (runs_fewer (Lies tree.layout tree.nodes root) (In tree.layout (block k (block_version tree.nodes k))) b c (λ place within. record { part = block k (block_version tree.nodes k); selected = (read.among, refl); at = place; near = refl; within = within }) keeps.run)
        read.seen;
    stands = λ told. read.stands (told_first a b c keeps.goes_on told);
    opens = read.opens;
    long = read.long;
  }

  -- a page that is read after calls that change nothing
  pub page_then : (a b c : FileState) (k : ℕ) (page : List ℕ) → Rests a b → GoesOn b c → IsPage key tree b c k page → IsPage key tree a c k page
  page_then a b c k page rests goes read = record {
    among = read.among;
    ciphertext = read.ciphertext;
    seen = seen_then (In tree.layout (block k (block_version tree.nodes k))) a b c (λ image. read.ciphertext ≡ block_in image tree k) rests read.seen;
    stands = λ told. read.stands (told_then a b c rests.goes_on told) ∙ ap (λ (bytes : List ℕ). block_in bytes tree k) (rests.reads (first_known a b c goes told.1));
    opens = read.opens;
    long = read.long;
  }

  pub was_first : {root : ℕ} (a b c : FileState) (k : ℕ) → Keeps (Lies tree.layout tree.nodes root) b c → WasRead key tree a b k → WasRead key tree a c k
  was_first a b c k keeps read = (read.0, page_first a b c k read.0 keeps read.1)

  -- no block was read yet
  pub read_none : (a : FileState) (r : ByteRange) (k : ℕ) (into : List ℕ) → k ≡ first_block r → AreRead key tree a a r k into
  read_none a r k into is = record {
    pages = λ j. [];
    read = λ j lt met. absurd (false≢true (sym (not-meets-before r j (omega (arith, lt, is))) ∙ met));
    are = λ i among lt. absurd (omega (arith, lt, is));
  }

  -- one block more was read, and its bytes stand where they belong
  pub read_step : {root : ℕ} (a b c : FileState) (r : ByteRange) (k : ℕ) (before after : List ℕ) → Rests a b → Keeps (Lies tree.layout tree.nodes root) b c
      → AreRead key tree a b r k before → IsGiven key tree b c r k before after → AreRead key tree a c r (k + 1) after
  read_step a b c r k before after rests keeps old given = record {
    pages = put_page old.pages k given.page;
    read = λ j lt met. elim (cases_lt j k) [
      | inl low ↦ subst (λ (page : List ℕ). IsPage key tree a c j page) (sym (put_old old.pages k j given.page low)) (page_first a b c j (old.pages j) keeps (old.read j low met))
      | inr high ↦ let same : j ≡ k = omega arith in
          subst (λ (page : List ℕ). IsPage key tree a c j page) (sym (put_new old.pages k j given.page same))
          (subst (λ (n : ℕ). IsPage key tree a c n given.page) (sym same) (page_then a b c k given.page rests keeps.goes_on given.read))
    ];
    are = λ i among lt. elim (cases_lt (r.first + i) (4096 * k)) [
      | inl low ↦
          let same : get_or after i 0 ≡ get_or before i 0 = grind (arith, given.given i) in
          same ∙ old.are i among low
          ∙ ap (λ (page : List ℕ). get_or page ((r.first + i) % 4096) 0) (sym (put_old old.pages k ((r.first + i) / 4096) given.page (omega arith)))
      | inr high ↦
          let block : (r.first + i) / 4096 ≡ k = omega arith in
          let place : r.first + i - 4096 * k ≡ (r.first + i) % 4096 = omega arith in
          let got : get_or after i 0 ≡ get_or given.page (r.first + i - 4096 * k) 0 = grind (arith, given.given i) in
          got ∙ ap (λ (n : ℕ). get_or given.page n 0) place
          ∙ ap (λ (page : List ℕ). get_or page ((r.first + i) % 4096) 0) (sym (put_new old.pages k ((r.first + i) / 4096) given.page block))
    ];
  }

-- a block that was not read, behind those that were
pub part_blocks : {root : ℕ} (key : List ℕ) (tree : Loaded) (a b c : FileState) (asked : ℕ → Bool) (r : ByteRange) (k : ℕ) (before after : List ℕ) (A B : Type 0) (e : TreeFault)
    → Keeps (Lies tree.layout tree.nodes root) b c → asked k ≡ true → ((j : ℕ) → j < k → asked j ≡ true → WasRead key tree a b j)
    → PartAnswer key tree b c r k before after {A = A} (Err e) → BlocksAnswer key tree a c asked {A = B} (Err e)
part_blocks key tree a b c asked r k before after A B (BadTag bad want found) keeps is earlier answer = rw (answer.0) (record {
  is_asked = is;
  earlier = λ j lt met. was_first key tree a b c j keeps (earlier j lt met);
  bad = answer.1;
})
part_blocks key tree a b c asked r k before after A B (Failed count) keeps is earlier answer = tt
part_blocks key tree a b c asked r k before after A B (BadHead long greatest) keeps is earlier answer = tt
part_blocks key tree a b c asked r k before after A B (Short end need) keeps is earlier answer = tt
part_blocks key tree a b c asked r k before after A B (Damaged n want found) keeps is earlier answer = tt
part_blocks key tree a b c asked r k before after A B (NoEntropy count) keeps is earlier answer = absurd answer
part_blocks key tree a b c asked r k before after A B NoMemory keeps is earlier answer = tt

-- and what lies behind the range stays
pub part_kept : (key : List ℕ) (tree : Loaded) (b c : FileState) (r : ByteRange) (k : ℕ) (before after : List ℕ) (A : Type 0) (e : TreeFault)
    → PartAnswer key tree b c r k before after {A = A} (Err e) → KeepsBehind r before after
part_kept key tree b c r k before after A (BadTag bad want found) answer = answer.2
part_kept key tree b c r k before after A (Failed count) answer = answer
part_kept key tree b c r k before after A (BadHead long greatest) answer = absurd answer
part_kept key tree b c r k before after A (Short end need) answer = absurd answer
part_kept key tree b c r k before after A (Damaged n want found) answer = absurd answer
part_kept key tree b c r k before after A (NoEntropy count) answer = absurd answer
part_kept key tree b c r k before after A NoMemory answer = absurd answer

-- what lies behind the range stays
pub rest_step : (r : ByteRange) (k : ℕ) (page : List ℕ) (old i : ℕ) → r.last - r.first ≤ i → given_byte r k page i old ≡ old
rest_step r k page old i behind = grind arith

-- a read's range has as many bytes as are there
pub range_count : (r : ByteRange) (size at count : ℕ) → r ≡ read_range size at count → r.last - r.first ≡ min count (size - at)
range_count r size at count is = rw (is) (omega arith)

-- it begins at the place, where it has any
pub range_place : (r : ByteRange) (size at count i : ℕ) → r ≡ read_range size at count → i < r.last - r.first → r.first ≡ at
range_place r size at count i is some =
    let first : r.first ≡ min at size = ap (λ (x : ByteRange). x.first) is in
    let last : r.last ≡ min (at + count) size = ap (λ (x : ByteRange). x.last) is in
    omega arith

-- and meets these blocks
pub range_meets : (r : ByteRange) (size at count k : ℕ) → r ≡ read_range size at count → meets at (at + min count (size - at)) k ≡ meets r.first r.last k
range_meets r size at count k is =
    let first : r.first ≡ min at size = ap (λ (x : ByteRange). x.first) is in
    let last : r.last ≡ min (at + count) size = ap (λ (x : ByteRange). x.last) is in
    elim (cases_lt at size) [
      | inl low ↦
          let from : r.first ≡ at = omega arith in
          let upto : r.last ≡ at + min count (size - at) = omega arith in
          sym (λ i. meets (from i) (upto i) k)
      | inr high ↦ grind (arith, first, last)
    ]

-- its bytes lie before the block behind it
pub range_ends : (r : ByteRange) (k i : ℕ) → end_block r ≤ k → i < r.last - r.first → r.first + i < 4096 * k
range_ends r k i behind among = grind arith

-- what was read is what stands in the blocks, and the rest is as it was
pub read_content : (pages : ℕ → Option (List ℕ)) (at n : ℕ) (into old : List ℕ) → length into ≡ length old → n ≤ length old
    → ((i : ℕ) → i < n → get_or into i 0 ≡ byte_at pages (at + i)) → ((i : ℕ) → n ≤ i → get_or into i 0 ≡ get_or old i 0) → into ≡ bytes_from pages at n ++ drop n old
read_content pages at n into old long few read rest =
    let front : length (bytes_from pages at n) ≡ n = length-bytes_from pages at n in
    same_number_lists into (bytes_from pages at n ++ drop n old) (omega (arith, long, length-append (bytes_from pages at n) (drop n old), front, length-drop n old)) (λ i lt. elim (cases_lt i n) [
      | inl low ↦ read i low ∙ sym (get_or-bytes_from pages at n i low) ∙ sym (get_or_append_left (bytes_from pages at n) (drop n old) 0 i (omega (arith, front, low)))
      | inr high ↦ rest i high ∙ sym (get_or-append_right (bytes_from pages at n) (drop n old) n i 0 front high ∙ get_or-drop n old (i - n) 0 ∙ ap (λ j. get_or old j 0) (omega arith))
    ])

pub read_rest : (n : ℕ) (into old : List ℕ) → length into ≡ length old → ((i : ℕ) → n ≤ i → get_or into i 0 ≡ get_or old i 0) → drop n into ≡ drop n old
read_rest n into old long rest =
    same_number_lists (drop n into) (drop n old) (omega (arith, long, length-drop n into, length-drop n old))
    (λ i lt. get_or-drop n into i 0 ∙ rest (n + i) (omega arith) ∙ sym (get_or-drop n old i 0))

-- a page that was read stands in a file that is followed
pub page_stands : (key : List ℕ) (tree : Loaded) (old new : FileState) (k : ℕ) (page : List ℕ) → Told old new → IsPage key tree old new k page → page_in old.reads key tree k ≡ Some page
page_stands key tree old new k page told read = ap (page_of key tree.head (at_node tree.nodes (k + 1)) k) (sym (read.stands told)) ∙ read.opens

-- and so does a block that was found bad
pub bad_stands : (key : List ℕ) (tree : Loaded) (old new : FileState) (k : ℕ) (want found : List ℕ) → Rests old new → Told old new → IsBad key tree new k want found
    → page_in old.reads key tree k ≡ None
bad_stands key tree old new k want found rests told bad =
    let now : page_in new.reads key tree k ≡ None = ap (page_of key tree.head (at_node tree.nodes (k + 1)) k) (sym (bad.stands told.0)) ∙ bad.fails in
    ap (λ (image : List ℕ). page_in image key tree k) (sym (rests.reads told.1)) ∙ now

meets_place : (at count i : ℕ) → i < count → meets at (at + count) ((at + i) / 4096) ≡ true
meets_place at count i lt = grind (arith, lt)

-- a byte of a file that is followed
pub byte_stands : (key : List ℕ) (tree : Loaded) (old new : FileState) (at : ℕ) (bytes : List ℕ) (count : ℕ) → Told old new → AreReadBytes key tree old new at bytes count
    → (i : ℕ) → i < count → get_or bytes i 0 ≡ byte_at (page_in old.reads key tree) (at + i)
byte_stands key tree old new at bytes count told read i lt =
    let k : ℕ = (at + i) / 4096 in
    let good = page_stands key tree old new k (read.pages k) told (read.read k (meets_place at count i lt)) in
    read.are i lt ∙ sym (ap (λ (page : Option (List ℕ)). byte_in page ((at + i) % 4096)) good)

-- a block that the range meets lies before the end of its blocks
before_end : (r : ByteRange) (k : ℕ) → meets r.first r.last k ≡ true → k < end_block r
before_end r k met = elim (cases_lt k (end_block r)) [
  | inl below ↦ below
  | inr from ↦ absurd (false≢true (sym (not-meets-behind r k from) ∙ met))
]

-- once all blocks of a read's range were read, so were its bytes
pub all_read : (key : List ℕ) (tree : Loaded) (a b : FileState) (r : ByteRange) (size at count k : ℕ) (into : List ℕ) → r ≡ read_range size at count → end_block r ≤ k
    → AreRead key tree a b r k into → AreReadBytes key tree a b at into (r.last - r.first)
all_read key tree a b r size at count k into is ends read = record {
  pages = read.pages;
  read = λ j met. let there = in_range j met in read.read j (omega (arith, before_end r j there, ends)) there;
  are = λ i among. subst (λ (n : ℕ). get_or into i 0 ≡ get_or (read.pages ((n + i) / 4096)) ((n + i) % 4096) 0) (range_place r size at count i is among)
      (read.are i among (range_ends r k i ends among));
}
  where
    in_range : (j : ℕ) → meets at (at + (r.last - r.first)) j ≡ true → meets r.first r.last j ≡ true
    in_range j met = sym (range_meets r size at count j is) ∙ sym (ap (λ (n : ℕ). meets at (at + n) j) (range_count r size at count is)) ∙ met

-- calls that were counted
pub no_calls : (arms : Arms) (k first : ℕ) → k ≡ first → arms ≡ after_calls (k - first) arms
no_calls arms k first is = let none : k - first ≡ 0 = omega arith in sym (ap (λ (n : ℕ). after_calls n arms) none)

pub one_call : (old mid new : Arms) (k first : ℕ) → first ≤ k → mid ≡ after_calls (k - first) old → new ≡ count_call mid → new ≡ after_calls (k + 1 - first) old
one_call old mid new k first le before step =
    let more : suc (k - first) ≡ k + 1 - first = omega arith in
    step ∙ ap count_call before ∙ ap (λ (n : ℕ). after_calls n old) more

blocks_in_order : (r : ByteRange) → first_block r ≤ end_block r
blocks_in_order r = elim (cases_lt r.first r.last) [ inl some ↦ grind (arith, some) | inr none ↦ grind (arith, none) ]

pub all_calls : (old new : Arms) (r s : ByteRange) (k : ℕ) → r ≡ s → end_block r ≤ k → (first_block r ≤ end_block r → k ≤ end_block r) → new ≡ after_calls (k - first_block r) old → new ≡ after_calls (blocks_of s) old
all_calls old new r s k is past within calls =
    let all : k - first_block r ≡ blocks_of r = omega (arith, past, within (blocks_in_order r)) in
    calls ∙ ap (λ (n : ℕ). after_calls n old) all ∙ ap (λ (x : ByteRange). after_calls (blocks_of x) old) is

-- a page in the midst of other bytes
module _ (r : ByteRange) (k : ℕ) (before page : List ℕ) (low : r.first ≤ 4096 * k) (high : 4096 * (k + 1) ≤ r.last) (room : r.last ≤ r.first + length before) (long : length page ≡ 4096) where
  abbrev begin : ℕ
  begin = 4096 * k - r.first

  put : (i : ℕ) → get_or (put_mid begin 4096 before page) i 0 ≡ if nat_le begin i && nat_lt i (begin + 4096) then get_or page (i - begin) 0 else get_or before i 0
  put i = byte-put before page begin 4096 i (omega (arith, low, high, room)) long

  page_given : (i : ℕ) → get_or (put_mid begin 4096 before page) i 0 ≡ given_byte r k page i (get_or before i 0)
  page_given i = elim (cases_lt i begin) [
    | inl early ↦ grind (arith, put i, early, low, high)
    | inr from ↦ elim (cases_lt i (begin + 4096)) [
      | inl within ↦
          let place : i - begin ≡ r.first + i - 4096 * k = omega (arith, low, from) in
          let here : get_or page (i - begin) 0 ≡ get_or page (r.first + i - 4096 * k) 0 = ap (λ (n : ℕ). get_or page n 0) place in
          grind (arith, put i, from, within, low, high, here)
      | inr late ↦ grind (arith, put i, late, low, high)
    ]
  ]

  page_behind : KeepsBehind r before (put_mid begin 4096 before page)
  page_behind i behind = grind (arith, put i, behind, low, high)

  -- a block that was read where its bytes belong
  pub part_inside : (key : List ℕ) (tree : Loaded) (b c : FileState) (A : Type 0) (result : Result A TreeFault) → PageAnswer key tree b c k result page
      → PartAnswer key tree b c r k before (put_mid begin 4096 before page) result
  part_inside key tree b c A (Ok done) answer = record { page = page; read = answer; given = page_given }
  part_inside key tree b c A (Err (BadTag bad want found)) answer = (answer.0, answer.1, page_behind)
  part_inside key tree b c A (Err (Failed count)) answer = page_behind
  part_inside key tree b c A (Err (BadHead h g)) answer = absurd answer
  part_inside key tree b c A (Err (Short end need)) answer = absurd answer
  part_inside key tree b c A (Err (Damaged n want found)) answer = absurd answer
  part_inside key tree b c A (Err (NoEntropy count)) answer = absurd answer
  part_inside key tree b c A (Err NoMemory) answer = absurd answer

-- what reading a block answers
pub page_answer : (key : List ℕ) (tree : Loaded) (a b : FileState) (k : ℕ) (A : Type 0) (result : Result A TreeFault) (page : List ℕ) → k < length tree.nodes → length page ≡ 4096 → Rests a b
    → BlockAnswer key tree.head (at_node tree.nodes (k + 1)) k (λ ciphertext. IsTrue b.tells → ciphertext ≡ block_in b.reads tree k) result page → PageAnswer key tree a b k result page
page_answer key tree a b k A (Ok done) page lt long rests answer = record {
  among = lt;
  ciphertext = answer.0;
  seen = seen_now (In tree.layout (block k (block_version tree.nodes k))) a b (λ image. answer.0 ≡ block_in image tree k) rests answer.1;
  stands = λ told. answer.1 told.0 ∙ ap (λ (bytes : List ℕ). block_in bytes tree k) (rests.reads told.1);
  opens = answer.2;
  long = long;
}
page_answer key tree a b k A (Err (BadTag bad want found)) page lt long rests answer =
    (answer.2, record { ciphertext = page; stands = answer.0; block = answer.5; fails = answer.1; wants = answer.3; finds = answer.4 })
page_answer key tree a b k A (Err (Failed count)) page lt long rests answer = tt
page_answer key tree a b k A (Err (BadHead h g)) page lt long rests answer = absurd answer
page_answer key tree a b k A (Err (Short end need)) page lt long rests answer = absurd answer
page_answer key tree a b k A (Err (Damaged n want found)) page lt long rests answer = absurd answer
page_answer key tree a b k A (Err (NoEntropy count)) page lt long rests answer = absurd answer
page_answer key tree a b k A (Err NoMemory) page lt long rests answer = absurd answer
