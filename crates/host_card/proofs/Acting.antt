-- What makes and changes a card's file: a new card, a write that the card takes, and blocks that are put back.
use Rattle.std.proofs.Common.{◌≡◌, ◌∙◌, inl, inr, refl, sym, ap, subst, ℕ, ◌+◌, ◌-◌, ◌<◌, ◌≤◌, List, [], ◌++◌, length, get_or, set, take, Bool, true, false, not, ◌==◌, ◌&&◌, nat_lt, is_none, if◌then◌else◌, IsTrue, Option, Some, None, replicate, arith, length-append, length-take, length-set}
use Rattle.std.proofs.lemmas.Bool.{and_from, and_parts, cases_eq, eqb-true, false≢true, lt-ltb, ltb-false, eqb-false, eq-eqb}
use Rattle.std.proofs.lemmas.List.{ext_get_or, get_or-append_right, get_or_append_left, get_or-append-add, get_or-replicate, get_or-set_other, get_or-set_same, get_or-take, length-replicate, length-take-le}
use Rattle.sha2.proofs.Facts256.{length-sha256}
use Rattle.disk_model.specs.Bytes.{after_resize, after_write}
use Rattle.disk_model.proofs.Writes.{length-after_resize, length-after_write, written_behind, written_within}
use Rattle.hmac_keys.specs.Hmac.{hmac}
use Rattle.rpmb_frame.specs.declared.frame.Frame.{Frame}
use Rattle.rpmb_frame.specs.Layout.{frame_of}
use Rattle.rpmb_card.specs.Protocol.{done_result, last_counter, program_key_kind, write_block_kind}
use Rattle.rpmb_card.specs.Card.{CardState, IsCard, card_after, does_write, is_authentic, keyed, programmed, write_result, written, zero_blocks}
use Rattle.host_card.specs.declared.card_file.Place.{Place}
use Rattle.host_card.specs.CardFile.{block_behind, counter_behind, file_length, header, is_write_of, last_request, magic, request_at, request_in, version_at, IsCardFile, IsClear, IsDamaged}
use Rattle.host_card.specs.Places.{HasCopies, IsSpare, Stands, begin, without, zeros}
use Rattle.host_card.specs.Laws.{HasSameContent}
use Rattle.host_card.specs.Versions.{IsRestored, with_block}
use Rattle.host_card.proofs.Blocks.{clear_none, last_newest, last_other, moved, request_is, same_damaged, same_last, same_request}
use Rattle.host_card.proofs.Standing.{AreSame, file_same, long_zeros, none_torn, same_back, same_off, same_then, written_in, written_same}

-- what holds of a write that a card takes
pub record IsDone (card : CardState) (request : List ℕ) : Type 0 where
  pub kind : ((frame_of request).kind == write_block_kind) ≡ true
  pub count : ((frame_of request).count == 1) ≡ true
  pub address : (frame_of request).address < 256
  pub counter : (frame_of request).counter ≡ card.counter
  pub unexpired : card.counter ≡ last_counter → ⊥
  pub authentic : is_authentic card.key request ≡ true
  pub result : write_result card request ≡ done_result

-- the tests of a write, one after another
passed : (none expired counted beyond authentic next : Bool)
    → ((if none then 7 else if expired then 5 else if not counted then 1 else if beyond then 4 else if not authentic then 2 else if not next then 3 else 0) == 0) ≡ true
    → (expired ≡ false) × (counted ≡ true) × (beyond ≡ false) × (authentic ≡ true) × (next ≡ true)
passed true expired counted beyond authentic next is = absurd (false≢true is)
passed false true counted beyond authentic next is = absurd (false≢true is)
passed false false false beyond authentic next is = absurd (false≢true is)
passed false false true true authentic next is = absurd (false≢true is)
passed false false true false false next is = absurd (false≢true is)
passed false false true false true false is = absurd (false≢true is)
passed false false true false true true is = (refl, refl, refl, refl, refl)

pub is_done : (card : CardState) (request : List ℕ) → IsTrue (does_write card request) → IsDone card request
is_done card request does =
    let f = frame_of request in
    let both = and_parts (f.kind == write_block_kind) (write_result card request == done_result) does in
    let tests = passed (is_none card.key) (card.counter == last_counter) (f.count == 1) (nat_lt 255 f.address) (is_authentic card.key request) (f.counter == card.counter) both.1 in
    record {
      kind = both.0;
      count = tests.1;
      address = omega (arith, ltb-false 255 f.address tests.2);
      counter = eqb-true f.counter card.counter tests.4;
      unexpired = eqb-false card.counter last_counter tests.0;
      authentic = tests.3;
      result = eqb-true (write_result card request) done_result both.1;
    }

-- the card after it
pub after_done : (card : CardState) (request : List ℕ) → IsDone card request → card_after card request ≡ written card (frame_of request) done_result
after_done card request done =
    let f = frame_of request in
    let kind : f.kind ≡ write_block_kind = eqb-true f.kind write_block_kind done.kind in
    let other : (f.kind == program_key_kind) ≡ false = ap (λ (k : ℕ). k == program_key_kind) kind in
    ap (λ (b : Bool). if b then programmed card f.key_or_mac else (if f.kind == write_block_kind then written card f (write_result card request) else card)) other
    ∙ ap (λ (b : Bool). if b then written card f (write_result card request) else card) done.kind
    ∙ ap (written card f) done.result

-- it is a write of its block
pub done_is_write : (key : List ℕ) (card : CardState) (request : List ℕ) → card.key ≡ Some key → IsCard card → IsDone card request → is_write_of key (frame_of request).address request ≡ true
done_is_write key card request has_key sound done =
    let f = frame_of request in
    let low : nat_lt f.counter last_counter ≡ true = lt-ltb f.counter last_counter (omega (arith, sound.counter, done.counter, done.unexpired)) in
    let signed : is_authentic (Some key) request ≡ true = ap (λ (k : Option (List ℕ)). is_authentic k request) (sym has_key) ∙ done.authentic in
    and_from (f.kind == write_block_kind && f.count == 1 && f.address == f.address && nat_lt f.counter last_counter) (is_authentic (Some key) request)
    (and_from (f.kind == write_block_kind && f.count == 1 && f.address == f.address) (nat_lt f.counter last_counter)
    (and_from (f.kind == write_block_kind && f.count == 1) (f.address == f.address) (and_from (f.kind == write_block_kind) (f.count == 1) done.kind done.count) (eq-eqb f.address f.address refl)) low) signed

-- Two copies of it were put over a version that may be torn: the file keeps the card that took it.
pub stands_written : (key a : List ℕ) (place : Place) (card : CardState) (request : List ℕ) → length request ≡ 512 → IsCard card → IsTrue (does_write card request)
    → place.address ≡ (frame_of request).address → Stands key a (Some place) card
    → Stands key (after_write a (begin place) (request ++ request)) None (card_after card request)
stands_written key a place card request long sound does at stands =
    subst (λ (next : CardState). Stands key n None next) (sym (after_done card request done)) (record {
      file = file_same key a n (Some place) onto stands.file;
      whole = λ address damaged. elim (cases_eq address place.address) [
        | inl same ↦
            let none : request_in key n place.address place.version ≡ None = ap (λ (x : ℕ). request_in key n x place.version) (sym same) ∙ damaged.none place.version spare.version in
            let differ : Some request ≡ None = sym here ∙ none in absurd (cc (differ))
        | inr not ↦ stands.whole address (same_damaged key a n address (λ version lt. same_off place a n address version onto spare.address spare.version damaged.within lt (λ s is. not s)) damaged)
      ];
      spare = none_torn key n;
      keeps = record {
        has_key = stands.keeps.has_key;
        blocks = length-set card.blocks f.address f.block ∙ stands.keeps.blocks;
        block = λ address lt. elim (cases_eq address place.address) [
          | inl same ↦
              let is : address ≡ f.address = same ∙ at in
              ap (λ (x : ℕ). get_or (set card.blocks f.address f.block) x []) is ∙ get_or-set_same card.blocks f.address f.block [] (omega (arith, stands.keeps.blocks, done.address))
              ∙ ap block_behind (sym last) ∙ ap (λ (x : ℕ). block_behind (last_request key n x)) (sym same)
          | inr not ↦
              get_or-set_other card.blocks f.address address f.block [] (λ is. not (is ∙ sym at)) ∙ stands.keeps.block address lt ∙ ap block_behind (others address lt not)
        ];
        latest = λ address lt. elim (cases_eq address place.address) [
          | inl same ↦ omega (arith, ap (λ (x : ℕ). counter_behind (last_request key n x)) same, ap counter_behind last, done.counter)
          | inr not ↦ omega (arith, stands.keeps.latest address lt, ap counter_behind (others address lt not))
        ];
        least = λ counter most. omega (arith, most place.address spare.address, ap counter_behind last, done.counter);
      };
    })
  where
    f : Frame
    f = frame_of request

    done : IsDone card request
    done = is_done card request does

    spare : IsSpare key (without a (Some place)) place
    spare = stands.spare place refl

    n : List ℕ
    n = after_write a (begin place) (request ++ request)

    c : List ℕ
    c = without a (Some place)

    double : length (request ++ request) ≡ 1024
    double = omega (arith, length-append request request, long)

    onto : AreSame (Some place) a n
    onto = written_same a (request ++ request) place stands.file.whole double

    both : AreSame (Some place) c n
    both = same_then (Some place) c a n (same_back (Some place) a c (written_same a zeros place stands.file.whole long_zeros)) onto

    first : request_at n (begin place) ≡ request
    first = request_is n request (begin place) long (λ i lt. sym (written_in a (request ++ request) place double i (omega (arith, lt)) ∙ get_or_append_left request request 0 i (omega (arith, lt, long))))

    write : is_write_of key place.address request ≡ true
    write = ap (λ (x : ℕ). is_write_of key x request) at ∙ done_is_write key card request stands.keeps.has_key sound done

    here : request_in key n place.address place.version ≡ Some request
    here =
        let second : Option (List ℕ) = if is_write_of key place.address (request_at n (begin place + 512)) then Some (request_at n (begin place + 512)) else None in
        ap (λ (l : List ℕ). if is_write_of key place.address l then Some l else second) first ∙ ap (λ (b : Bool). if b then Some request else second) write

    w_lt : 1 - place.version < 2
    w_lt = omega (arith, spare.version)

    other : request_in key n place.address (1 - place.version) ≡ last_request key c place.address
    other = sym (same_request key c n place.address (1 - place.version) (same_off place c n place.address (1 - place.version) both spare.address spare.version spare.address w_lt (λ s is. omega (arith, is, spare.version)))) ∙ sym spare.last

    last : last_request key n place.address ≡ Some request
    last =
        let newer : counter_behind (request_in key n place.address (1 - place.version)) < counter_behind (request_in key n place.address place.version) =
        omega (arith, ap counter_behind other, ap counter_behind here, stands.keeps.latest place.address spare.address, done.counter) in
        last_newest key n place.address place.version spare.version newer ∙ here

    others : (address : ℕ) → address < 256 → (address ≡ place.address → ⊥) → last_request key c address ≡ last_request key n address
    others address lt not = same_last key c n address (λ version v_lt. same_off place c n address version both spare.address spare.version lt v_lt (λ s is. not s))

pub long_header : (key : List ℕ) → length (header key) ≡ 48
unfolding hmac
long_header key = let mac : length (hmac key magic) ≡ 32 = length-sha256 _ in omega (arith, length-append magic (hmac key magic), mac)

-- a file of zero bytes behind its header keeps a card that was never written
pub stands_new : (key old : List ℕ) → length old ≡ 0 → Stands key (after_write (after_resize old file_length) 0 (header key)) None (keyed key)
unfolding zero_blocks
stands_new key old empty = record {
  file = record {
    whole = room;
    header = ext_get_or 0 (take 48 n) (header key) (front ∙ sym (long_header key)) (λ i lt.
        let low : i < 48 = omega (arith, lt, front) in
        get_or-take 48 n i 0 low ∙ moved n i (0 + i) (omega arith) ∙ written_within base 0 (header key) i (omega (arith, low, long_header key)));
  };
  whole = λ address damaged. damaged.used 0 (omega arith) (clear address 0 damaged.within (omega arith));
  spare = none_torn key n;
  keeps = record {
    has_key = refl;
    blocks = length-replicate 256 block;
    block = λ address lt. get_or-replicate 256 address block [] lt ∙ ap block_behind (sym (never address lt));
    latest = λ address lt. let is : counter_behind (last_request key n address) ≡ 0 = ap counter_behind (never address lt) in omega (arith, is);
    least = λ counter most. omega arith;
  };
}
  where
    block : List ℕ
    block = replicate 256 0

    base : List ℕ
    base = after_resize old file_length

    n : List ℕ
    n = after_write base 0 (header key)

    long : length base ≡ file_length
    long = length-after_resize old file_length

    room : file_length ≤ length n
    room = omega (arith, long, length-after_write base 0 (header key))

    front : length (take 48 n) ≡ 48
    front = length-take-le 48 n (omega (arith, room))

    zero_at : (p : ℕ) → 48 ≤ p → p < file_length → get_or n p 0 ≡ 0
    zero_at p from below =
        written_behind base 0 (header key) p (omega (arith, from, long_header key))
        ∙ get_or-append_right (take file_length old) (replicate (file_length - length old) 0) 0 p 0 (omega (arith, length-take file_length old, empty)) (omega arith)
        ∙ get_or-replicate (file_length - length old) (p - 0) 0 0 (omega (arith, below, empty))

    clear : (address version : ℕ) → address < 256 → version < 2 → IsClear n address version
    clear address version a_lt v_lt = λ i lt. zero_at (version_at address version + i) (omega arith) (omega (arith, a_lt, v_lt, lt))

    never : (address : ℕ) → address < 256 → last_request key n address ≡ None
    never address lt = last_other key n address 0 (omega arith) (clear_none key n address 0 (clear address 0 lt (omega arith))) ∙ clear_none key n address 1 (clear address 1 lt (omega arith))

-- no block was put back yet
pub restored_none : (key bytes : List ℕ) → IsRestored key bytes 0 (keyed key)
unfolding zero_blocks
restored_none key bytes =
    let block : List ℕ = replicate 256 0 in record {
      has_key = refl;
      blocks = length-replicate 256 block;
      block = λ address lt. absurd (omega (arith, lt));
      rest = λ address from lt. get_or-replicate 256 address block [] lt;
      latest = λ address lt. absurd (omega (arith, lt));
      least = λ counter most. omega arith;
      whole = λ address lt. absurd (omega (arith, lt));
    }

-- one block more
restored_with : (key bytes : List ℕ) (count : ℕ) (card : CardState) (request : Option (List ℕ)) → count < 256 → last_request key bytes count ≡ request → ¬ IsDamaged key bytes count
    → IsRestored key bytes count card → IsRestored key bytes (count + 1) (with_block card count request)
restored_with key bytes count card None lt is whole r = record {
  has_key = r.has_key;
  blocks = r.blocks;
  block = λ address low. elim (cases_eq address count) [
    | inl same ↦ ap (λ (x : ℕ). get_or card.blocks x []) same ∙ r.rest count (omega arith) lt ∙ ap block_behind (sym is) ∙ ap (λ (x : ℕ). block_behind (last_request key bytes x)) (sym same)
    | inr not ↦ r.block address (omega (arith, low, not))
  ];
  rest = λ address from low. r.rest address (omega (arith, from)) low;
  latest = λ address low. elim (cases_eq address count) [
    | inl same ↦ omega (arith, ap (λ (x : ℕ). counter_behind (last_request key bytes x)) same, ap counter_behind is)
    | inr not ↦ r.latest address (omega (arith, low, not))
  ];
  least = λ counter most. r.least counter (λ address low. most address (omega (arith, low)));
  whole = λ address low. elim (cases_eq address count) [
    | inl same ↦ λ damaged. whole (subst (λ (x : ℕ). IsDamaged key bytes x) same damaged)
    | inr not ↦ r.whole address (omega (arith, low, not))
  ];
}
restored_with key bytes count card (Some request) lt is whole r =
    let block = block_behind (Some request) in
    let behind : ℕ = counter_behind (Some request) in
    record {
      has_key = r.has_key;
      blocks = length-set card.blocks count block ∙ r.blocks;
      block = λ address low. elim (cases_eq address count) [
        | inl same ↦ ap (λ (x : ℕ). get_or (set card.blocks count block) x []) same ∙ get_or-set_same card.blocks count block [] (omega (arith, r.blocks, lt))
            ∙ ap block_behind (sym is) ∙ ap (λ (x : ℕ). block_behind (last_request key bytes x)) (sym same)
        | inr not ↦ get_or-set_other card.blocks count address block [] not ∙ r.block address (omega (arith, low, not))
      ];
      rest = λ address from low. get_or-set_other card.blocks count address block [] (λ same. omega (arith, same, from)) ∙ r.rest address (omega (arith, from)) low;
      latest = λ address low. elim (cases_eq address count) [
        | inl same ↦ omega (arith, ap (λ (x : ℕ). counter_behind (last_request key bytes x)) same, ap counter_behind is)
        | inr not ↦ omega (arith, r.latest address (omega (arith, low, not)))
      ];
      least = λ counter most.
          let before : card.counter ≤ counter = r.least counter (λ address low. most address (omega (arith, low))) in
          omega (arith, before, most count (omega arith), ap counter_behind is);
      whole = λ address low. elim (cases_eq address count) [
        | inl same ↦ λ damaged. whole (subst (λ (x : ℕ). IsDamaged key bytes x) same damaged)
        | inr not ↦ r.whole address (omega (arith, low, not))
      ];
    }

pub restored_more : (key bytes : List ℕ) (count : ℕ) (card next : CardState) → count < 256 → next ≡ with_block card count (last_request key bytes count) → ¬ IsDamaged key bytes count
    → IsRestored key bytes count card → IsRestored key bytes (count + 1) next
restored_more key bytes count card next lt is whole r = subst (IsRestored key bytes (count + 1)) (sym is) (restored_with key bytes count card (last_request key bytes count) lt refl whole r)

-- the card of which all blocks were put back
pub stands_read : (key bytes : List ℕ) (card : CardState) → IsCardFile key bytes → IsRestored key bytes 256 card → Stands key bytes None card
stands_read key bytes card file r = record {
  file = file;
  whole = λ address damaged. r.whole address damaged.within damaged;
  spare = none_torn key bytes;
  keeps = record { has_key = r.has_key; blocks = r.blocks; block = r.block; latest = r.latest; least = r.least };
}

-- the tests of a card, of a frame that is no write that is done
marked : (key : List ℕ) (card : CardState) (f : Frame) (sent : List ℕ) (result : ℕ) (programs writes : Bool) → card.key ≡ Some key → (writes && result == done_result) ≡ false
    → HasSameContent card (if programs then programmed card sent else (if writes then written card f result else card))
marked key card f sent result true writes has_key not =
    let has : is_none card.key ≡ false = ap (λ (k : Option (List ℕ)). is_none k) has_key in
    record { key = ap (λ (b : Bool). if b then Some sent else card.key) has; counter = refl; blocks = refl }
marked key card f sent result false true has_key not = record {
  key = refl;
  counter = ap (λ (b : Bool). if b then card.counter + 1 else card.counter) not;
  blocks = ap (λ (b : Bool). if b then set card.blocks f.address f.block else card.blocks) not;
}
marked key card f sent result false false has_key not = record { key = refl; counter = refl; blocks = refl }

-- a request that is no write that is done changes nothing that is kept
pub stands_marked : (key bytes : List ℕ) (torn : Option Place) (card : CardState) (request : List ℕ) → does_write card request ≡ false → Stands key bytes torn card → Stands key bytes torn (card_after card request)
stands_marked key bytes torn card request not stands =
    let f = frame_of request in
    let keeps = stands.keeps in
    let same : HasSameContent card (card_after card request) = marked key card f f.key_or_mac (write_result card request) (f.kind == program_key_kind) (f.kind == write_block_kind) keeps.has_key not in
    record {
      file = stands.file;
      whole = stands.whole;
      spare = stands.spare;
      keeps = record {
        has_key = same.key ∙ keeps.has_key;
        blocks = ap length same.blocks ∙ keeps.blocks;
        block = λ address lt. ap (λ (l : List (List ℕ)). get_or l address []) same.blocks ∙ keeps.block address lt;
        latest = λ address lt. omega (arith, keeps.latest address lt, same.counter);
        least = λ counter most. omega (arith, keeps.least counter most, same.counter);
      };
    }

-- a request that was put twice stands twice
pub has_copies : (a : List ℕ) (place : Place) (request : List ℕ) → length request ≡ 512 → place.version < 2 → place.address ≡ (frame_of request).address → HasCopies (after_write a (begin place) (request ++ request)) request
has_copies a place request long lt at =
    subst (λ (address : ℕ). (version : ℕ) × (version < 2) × (request_at n (version_at address version) ≡ request) × (request_at n (version_at address version + 512) ≡ request)) at
    (place.version, lt, first, second)
  where
    n : List ℕ
    n = after_write a (begin place) (request ++ request)

    double : length (request ++ request) ≡ 1024
    double = omega (arith, length-append request request, long)

    first : request_at n (begin place) ≡ request
    first = request_is n request (begin place) long (λ i low. sym (written_in a (request ++ request) place double i (omega (arith, low)) ∙ get_or_append_left request request 0 i (omega (arith, low, long))))

    second : request_at n (begin place + 512) ≡ request
    second = request_is n request (begin place + 512) long (λ i low.
        let at_once : 512 + i ≡ length request + i = omega (arith, long) in
        sym (moved n ((begin place + 512) + i) (begin place + (512 + i)) (omega arith) ∙ written_in a (request ++ request) place double (512 + i) (omega (arith, low))
        ∙ moved (request ++ request) (512 + i) (length request + i) at_once ∙ get_or-append-add request request i 0))
