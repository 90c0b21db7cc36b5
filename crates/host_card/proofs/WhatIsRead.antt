-- What is read of a card's file.
use Rattle.std.proofs.Common.{◌≡◌, ◌∙◌, inl, inr, sym, ap, subst, ℕ, ◌+◌, ◌-◌, ◌<◌, ◌≤◌, List, ◌++◌, length, get_or, take, drop, true, false, nat_lt, if◌then◌else◌, Bool, IsTrue, Option, Some, None, Result, Ok, Err, OnOk, IfErr, MatchResult, arith, length-append, length-take, length-drop}
use Rattle.std.proofs.lemmas.Bool.{cases_lt, lt-ltb, le-ltb}
use Rattle.std.proofs.lemmas.List.{get_or-append_right, get_or-drop, get_or-take, get_or_append_left, get_or_past, length-take-le, take-take}
use Rattle.std.proofs.lemmas.Option.{none-some}
use Rattle.tee_ports.specs.Files.{ReadsAt}
use Rattle.disk_model.specs.State.{FileState}
use Rattle.disk_model.specs.Calls.{GoesOn, Known, Rests}
use Rattle.disk_model.proofs.Goings.{first_known, rests_then, then_known}
use Rattle.rpmb_frame.specs.Layout.{frame_of}
use Rattle.host_card.specs.declared.versions.Version.{Version}
use Rattle.host_card.specs.declared.versions.Version.TheVariants.{Request, Clear, Bad}
use Rattle.disk_model.specs.Faults.{Rose}
use Rattle.rpmb_card.specs.Card.{CardState, keyed}
use Rattle.host_card.specs.declared.card_fault.CardFault.{CardFault}
use Rattle.host_card.specs.declared.card_fault.CardFault.TheVariants.{Failed, NoCard, NotEmpty, Foreign, OtherKey, Damaged, NoMemory}
use Rattle.host_card.specs.CardFile.{counter_behind, file_length, header, IsCardFile, last_request, request_at, request_in, version_at, IsClear, IsDamaged, IsWhole}
use Rattle.host_card.specs.Faults.{HasFault, IsRefused}
use Rattle.host_card.specs.Opening.{IsLaid, IsMade, IsRefusal}
use Rattle.host_card.specs.Places.{IsSpare, Stands}
use Rattle.host_card.specs.Versions.{HasWrite, IsBlock, IsRestored, IsVersion, IsVersionOf, newest, spare_number, with_block}
use Rattle.host_card.proofs.Acting.{restored_more, stands_new, stands_read}
use Rattle.host_card.proofs.Blocks.{last_is, last_newest, last_other, long_request, moved, newer_false, one_of_two, request_byte, request_is}

-- a sector that was read into zero bytes
pub sector_read : (bytes old new : List ℕ) (at count : ℕ) → length old ≡ 512 → ((i : ℕ) → i < 512 → get_or old i 0 ≡ 0) → ReadsAt bytes at old count new → new ≡ request_at bytes at
sector_read bytes old new at count long zero reads = sym (request_is bytes new at new_long (λ i lt. ap (λ (l : List ℕ). get_or l i 0) reads.1 ∙ byte i lt))
  where
    part : List ℕ
    part = take count (drop at bytes)

    fits : count ≤ length (drop at bytes)
    fits = omega (arith, reads.0, length-drop at bytes)

    part_long : length part ≡ count
    part_long = omega (arith, fits, length-take count (drop at bytes))

    new_long : length new ≡ 512
    new_long = omega (arith, ap length reads.1, length-append part (drop count old), length-drop count old, long, part_long, reads.0)

    byte : (i : ℕ) → i < 512 → get_or (part ++ drop count old) i 0 ≡ get_or bytes (at + i) 0
    byte i lt = elim (cases_lt i count) [
      | inl low ↦
          get_or_append_left part (drop count old) 0 i (omega (arith, low, part_long)) ∙ get_or-take count (drop at bytes) i 0 low ∙ get_or-drop at bytes i 0
      | inr high ↦
          let past : length bytes ≤ at + i = omega (arith, high, lt, reads.0, long) in
          let here : count + (i - count) ≡ i = omega (arith, high) in
          get_or-append_right part (drop count old) count i 0 part_long high ∙ get_or-drop count old (i - count) 0
          ∙ ap (λ (n : ℕ). get_or old n 0) here ∙ zero i lt ∙ sym (get_or_past bytes (at + i) 0 past)
    ]

pub tells_after : (a b : FileState) → GoesOn a b → IsTrue a.tells → IsTrue b.tells
tells_after a b goes tells = subst (λ (t : Bool). IsTrue t) (sym goes.tells) tells

-- what is known of the bytes behind calls that change nothing is known of those before them
pub told_before : (P : List ℕ → Type 0) (old mid new : FileState) → Rests old mid → GoesOn mid new → (IsTrue mid.tells → Known mid new → P mid.reads)
    → IsTrue old.tells → Known old new → P old.reads
told_before P old mid new rests goes told = λ tells known.
    subst P (rests.reads (first_known old mid new goes known)) (told (tells_after old mid rests.goes_on tells) (then_known old mid new rests.goes_on known))

-- and what is known where calls are followed to a point is known where they are followed on
pub told_longer : (P : List ℕ → Type 0) (old mid new : FileState) → GoesOn mid new → (IsTrue old.tells → Known old mid → P old.reads) → IsTrue old.tells → Known old new → P old.reads
told_longer P old mid new goes told = λ tells known. told tells (first_known old mid new goes known)

-- the bytes that a call told at its end are those at its start
pub told_at_end : (P : List ℕ → Type 0) (old new : FileState) → Rests old new → (IsTrue new.tells → P new.reads) → IsTrue old.tells → Known old new → P old.reads
told_at_end P old new rests told = λ tells known. subst P (rests.reads known) (told (tells_after old new rests.goes_on tells))

-- a version is what its copies are
pub version_is : (key bytes : List ℕ) (address version : ℕ) (v : Version) → IsVersionOf key address (request_at bytes (version_at address version)) (request_at bytes (version_at address version + 512)) v
    → IsVersion key bytes address version v
version_is key bytes address version (Request request) is = is
version_is key bytes address version Clear is = (is.0, clear)
  where
    at : ℕ
    at = version_at address version

    clear : IsClear bytes address version
    clear i lt = elim (cases_lt i 512) [
      | inl low ↦ sym (request_byte bytes at i low) ∙ is.1 i (omega (arith, low, long_request bytes at))
      | inr high ↦
          let low : i - 512 < 512 = omega (arith, high, lt) in
          moved bytes (at + i) ((at + 512) + (i - 512)) (omega (arith, high)) ∙ sym (request_byte bytes (at + 512) (i - 512) low) ∙ is.2 (i - 512) (omega (arith, low, long_request bytes (at + 512)))
    ]
version_is key bytes address version Bad is = (
  is.0,
  λ clear.
      let at : ℕ = version_at address version in
      is.1 (
        λ i lt. let low : i < 512 = omega (arith, lt, long_request bytes at) in request_byte bytes at i low ∙ clear i (omega (arith, low)),
        λ i lt.
            let low : i < 512 = omega (arith, lt, long_request bytes (at + 512)) in
            request_byte bytes (at + 512) i low ∙ moved bytes ((at + 512) + i) (at + (512 + i)) (omega arith) ∙ clear (512 + i) (omega (arith, low)),
      ),
)

module _ (key bytes : List ℕ) (address : ℕ) (lt : address < 256) where
  spare_first : last_request key bytes address ≡ request_in key bytes address 1 → (last_request key bytes address ≡ None → IsClear bytes address 1) → IsSpare key bytes (record { address = address; version = 0 })
  spare_first last clear = record { address = lt; version = omega arith; last = last; clear = clear }

  spare_second : last_request key bytes address ≡ request_in key bytes address 0 → (last_request key bytes address ≡ None → IsClear bytes address 0) → IsSpare key bytes (record { address = address; version = 1 })
  spare_second last clear = record { address = lt; version = omega arith; last = last; clear = clear }

  last_second : counter_behind (request_in key bytes address 0) < counter_behind (request_in key bytes address 1) → last_request key bytes address ≡ request_in key bytes address 1
  last_second newer = last_newest key bytes address 1 (omega arith) newer

  last_first : counter_behind (request_in key bytes address 1) ≤ counter_behind (request_in key bytes address 0) → last_request key bytes address ≡ request_in key bytes address 0
  last_first le = last_is key bytes address ∙ newer_false (request_in key bytes address 0) (request_in key bytes address 1) le

  not_none : (request : List ℕ) (there : Option (List ℕ)) (C : Type 0) → there ≡ Some request → there ≡ None → C
  not_none request there C is none = absurd (none-some request (sym none ∙ is))

  damaged : request_in key bytes address 0 ≡ None → request_in key bytes address 1 ≡ None → ¬ IsClear bytes address 0 → ¬ IsClear bytes address 1 → IsDamaged key bytes address
  damaged first second used_first used_second = record {
    within = lt;
    none = λ version low. elim (one_of_two version low) [
      | inl zero ↦ ap (request_in key bytes address) zero ∙ first
      | inr one ↦ ap (request_in key bytes address) one ∙ second
    ];
    used = λ version low clear. elim (one_of_two version low) [
      | inl zero ↦ used_first (subst (IsClear bytes address) zero clear)
      | inr one ↦ used_second (subst (IsClear bytes address) one clear)
    ];
  }

  -- the spare version is spare
  pub spare_is : (first second : Version) → IsWhole key bytes → IsVersion key bytes address 0 first → IsVersion key bytes address 1 second
      → IsSpare key bytes (record { address = address; version = spare_number first second })
  spare_is (Request first) (Request second) whole a b =
      let counter_a : counter_behind (request_in key bytes address 0) ≡ (frame_of first).counter + 1 = ap counter_behind a in
      let counter_b : counter_behind (request_in key bytes address 1) ≡ (frame_of second).counter + 1 = ap counter_behind b in
      elim (cases_lt (frame_of first).counter (frame_of second).counter) [
        | inl low ↦
            let last = last_second (omega (arith, low, counter_a, counter_b)) in
            subst (λ (v : ℕ). IsSpare key bytes (record { address = address; version = v })) (sym (ap (λ (t : Bool). if t then 0 else 1) (lt-ltb (frame_of first).counter (frame_of second).counter low)))
            (spare_first last (λ none. not_none second (last_request key bytes address) (IsClear bytes address 1) (last ∙ b) none))
        | inr high ↦
            let last = last_first (omega (arith, high, counter_a, counter_b)) in
            subst (λ (v : ℕ). IsSpare key bytes (record { address = address; version = v })) (sym (ap (λ (t : Bool). if t then 0 else 1) (le-ltb (frame_of first).counter (frame_of second).counter high)))
            (spare_second last (λ none. not_none first (last_request key bytes address) (IsClear bytes address 0) (last ∙ a) none))
      ]
  spare_is (Request first) Clear whole a b =
      let last : last_request key bytes address ≡ request_in key bytes address 0 = last_other key bytes address 1 (omega arith) b.0 in
      spare_second last (λ none. not_none first (last_request key bytes address) (IsClear bytes address 0) (last ∙ a) none)
  spare_is (Request first) Bad whole a b =
      let last : last_request key bytes address ≡ request_in key bytes address 0 = last_other key bytes address 1 (omega arith) b.0 in
      spare_second last (λ none. not_none first (last_request key bytes address) (IsClear bytes address 0) (last ∙ a) none)
  spare_is Clear (Request second) whole a b =
      let last : last_request key bytes address ≡ request_in key bytes address 1 = last_other key bytes address 0 (omega arith) a.0 in
      spare_first last (λ none. not_none second (last_request key bytes address) (IsClear bytes address 1) (last ∙ b) none)
  spare_is Bad (Request second) whole a b =
      let last : last_request key bytes address ≡ request_in key bytes address 1 = last_other key bytes address 0 (omega arith) a.0 in
      spare_first last (λ none. not_none second (last_request key bytes address) (IsClear bytes address 1) (last ∙ b) none)
  spare_is Clear Clear whole a b = spare_first (last_other key bytes address 0 (omega arith) a.0) (λ none. b.1)
  spare_is Bad Clear whole a b = spare_first (last_other key bytes address 0 (omega arith) a.0) (λ none. b.1)
  spare_is Clear Bad whole a b = spare_second (last_other key bytes address 1 (omega arith) b.0) (λ none. a.1)
  spare_is Bad Bad whole a b = absurd (whole address (damaged a.0 b.0 a.1 b.1))

  undamaged_first : (request : List ℕ) → request_in key bytes address 0 ≡ Some request → ¬ IsDamaged key bytes address
  undamaged_first request is = λ found. not_none request (request_in key bytes address 0) ⊥ is (found.none 0 (omega arith))

  undamaged_second : (request : List ℕ) → request_in key bytes address 1 ≡ Some request → ¬ IsDamaged key bytes address
  undamaged_second request is = λ found. not_none request (request_in key bytes address 1) ⊥ is (found.none 1 (omega arith))

  -- and the newer one is what the block is
  pub block_is : (first second : Version) → IsVersion key bytes address 0 first → IsVersion key bytes address 1 second → IsBlock key bytes address (newest first second)
  block_is (Request first) (Request second) a b =
      let counter_a : counter_behind (request_in key bytes address 0) ≡ (frame_of first).counter + 1 = ap counter_behind a in
      let counter_b : counter_behind (request_in key bytes address 1) ≡ (frame_of second).counter + 1 = ap counter_behind b in
      elim (cases_lt (frame_of first).counter (frame_of second).counter) [
        | inl low ↦
            subst (IsBlock key bytes address) (sym (ap (λ (t : Bool). if t then Request second else Request first) (lt-ltb (frame_of first).counter (frame_of second).counter low)))
            (last_second (omega (arith, low, counter_a, counter_b)) ∙ b, undamaged_second second b)
        | inr high ↦
            subst (IsBlock key bytes address) (sym (ap (λ (t : Bool). if t then Request second else Request first) (le-ltb (frame_of first).counter (frame_of second).counter high)))
            (last_first (omega (arith, high, counter_a, counter_b)) ∙ a, undamaged_first first a)
      ]
  block_is (Request first) Clear a b = (last_other key bytes address 1 (omega arith) b.0 ∙ a, undamaged_first first a)
  block_is (Request first) Bad a b = (last_other key bytes address 1 (omega arith) b.0 ∙ a, undamaged_first first a)
  block_is Clear (Request second) a b = (last_other key bytes address 0 (omega arith) a.0 ∙ b, undamaged_second second b)
  block_is Bad (Request second) a b = (last_other key bytes address 0 (omega arith) a.0 ∙ b, undamaged_second second b)
  block_is Clear Clear a b = (last_other key bytes address 0 (omega arith) a.0 ∙ b.0, λ found. found.used 0 (omega arith) a.1)
  block_is Bad Clear a b = (last_other key bytes address 0 (omega arith) a.0 ∙ b.0, λ found. found.used 1 (omega arith) b.1)
  block_is Clear Bad a b = (last_other key bytes address 0 (omega arith) a.0 ∙ b.0, λ found. found.used 0 (omega arith) a.1)
  block_is Bad Bad a b = damaged a.0 b.0 a.1 b.1

-- it is a write where both are
pub newest_writes : (key : List ℕ) (address : ℕ) (first second : Version) → HasWrite key address first → HasWrite key address second → HasWrite key address (newest first second)
newest_writes key address (Request first) (Request second) a b = either (nat_lt (frame_of first).counter (frame_of second).counter)
  where
    either : (t : Bool) → HasWrite key address (if t then Request second else Request first)
    either true = b
    either false = a
newest_writes key address (Request first) Clear a b = a
newest_writes key address (Request first) Bad a b = a
newest_writes key address Clear (Request second) a b = b
newest_writes key address Bad (Request second) a b = b
newest_writes key address Clear Clear a b = tt
newest_writes key address Bad Clear a b = tt
newest_writes key address Clear Bad a b = tt
newest_writes key address Bad Bad a b = tt

-- the copies of a version were read
pub version_read : (key : List ℕ) (one two three : FileState) (address version at : ℕ) (first second : List ℕ) (v : Version) → at ≡ version_at address version → Rests one two → Rests two three
    → (IsTrue two.tells → first ≡ request_at two.reads at) → (IsTrue three.tells → second ≡ request_at three.reads (at + 512)) → IsVersionOf key address first second v
    → IsTrue one.tells → Known one three → IsVersion key one.reads address version v
version_read key one two three address version at first second v begins before now is_first is_second is = λ tells known.
    let first_is : first ≡ request_at one.reads at =
    told_longer (λ (l : List ℕ). first ≡ request_at l at) one two three now.goes_on (told_at_end (λ (l : List ℕ). first ≡ request_at l at) one two before is_first) tells known in
    let second_is : second ≡ request_at one.reads (at + 512) =
    told_before (λ (l : List ℕ). second ≡ request_at l (at + 512)) one two three before now.goes_on (told_at_end (λ (l : List ℕ). second ≡ request_at l (at + 512)) two three now is_second) tells known in
    version_is key one.reads address version v (subst (λ (a : ℕ). IsVersionOf key address (request_at one.reads a) (request_at one.reads (a + 512)) v) begins
    (subst (λ (f : List ℕ). IsVersionOf key address f (request_at one.reads (at + 512)) v) first_is (subst (λ (s : List ℕ). IsVersionOf key address first s v) second_is is)))

-- both versions of a block were read
module _ (key : List ℕ) (one two three : FileState) (address : ℕ) (first second : Version) (lt : address < 256) (before : Rests one two) (now : Rests two three)
    (is_first : IsTrue one.tells → Known one two → IsVersion key one.reads address 0 first) (is_second : IsTrue two.tells → Known two three → IsVersion key two.reads address 1 second)
    (tells : IsTrue one.tells) (known : Known one three) where
  first_version : IsVersion key one.reads address 0 first
  first_version = told_longer (λ (l : List ℕ). IsVersion key l address 0 first) one two three now.goes_on is_first tells known

  second_version : IsVersion key one.reads address 1 second
  second_version = told_before (λ (l : List ℕ). IsVersion key l address 1 second) one two three before now.goes_on is_second tells known

  pub spare_found : (number : ℕ) → number ≡ spare_number first second → IsWhole key one.reads → IsSpare key one.reads (record { address = address; version = number })
  spare_found number is whole = subst (λ (v : ℕ). IsSpare key one.reads (record { address = address; version = v })) (sym is) (spare_is key one.reads address lt first second whole first_version second_version)

  pub block_found : (block : Version) → block ≡ newest first second → IsBlock key one.reads address block
  block_found block is = subst (IsBlock key one.reads address) (sym is) (block_is key one.reads address lt first second first_version second_version)

-- the first sector was read of a file that is long enough
pub first_read : (one two three : FileState) (length_read : ℕ) (first : List ℕ) → Rests one two → Rests two three → (IsTrue two.tells → length_read ≡ length two.reads) → (IsTrue three.tells → first ≡ request_at three.reads 0)
    → file_length ≤ length_read → IsTrue one.tells → Known one three → (file_length ≤ length one.reads) × (first ≡ take 512 one.reads)
first_read one two three length_read first before now measured read room = λ tells known.
    let long : length_read ≡ length one.reads = told_longer (λ (l : List ℕ). length_read ≡ length l) one two three now.goes_on (told_at_end (λ (l : List ℕ). length_read ≡ length l) one two before measured) tells known in
    let is : first ≡ request_at one.reads 0 = told_before (λ (l : List ℕ). first ≡ request_at l 0) one two three before now.goes_on (told_at_end (λ (l : List ℕ). first ≡ request_at l 0) two three now read) tells known in
    let enough : file_length ≤ length one.reads = omega (arith, room, long) in
    let whole : length (take 512 one.reads) ≡ 512 = length-take-le 512 one.reads (omega (arith, enough)) in
    (enough, is ∙ request_is one.reads (take 512 one.reads) 0 whole (λ i lt. get_or-take 512 one.reads i 0 lt ∙ moved one.reads i (0 + i) (omega arith)))

header_refused : (key : List ℕ) (one three : FileState) (first : List ℕ) (fault : CardFault) → three.faults ≡ one.faults
    → (IsTrue one.tells → Known one three → (file_length ≤ length one.reads) × (first ≡ take 512 one.reads)) → IsRefusal key first fault → HasFault key one three fault
header_refused key one three first (Failed count) same read refusal = absurd refusal
header_refused key one three first NoCard same read refusal = absurd refusal
header_refused key one three first (NotEmpty end) same read refusal = absurd refusal
header_refused key one three first Foreign same read refusal = (
  same,
  λ tells known.
      let is = read tells known in
      (omega (arith, is.0), inr (λ magic_is. refusal (ap (take 16) is.1 ∙ take-take 16 512 one.reads (omega arith) ∙ magic_is))),
)
header_refused key one three first OtherKey same read refusal = (
  same,
  λ tells known.
      let is = read tells known in record {
        whole = is.0;
        magic = sym (ap (take 16) is.1 ∙ take-take 16 512 one.reads (omega arith)) ∙ refusal.0;
        header = λ header_is. refusal.1 (ap (take 48) is.1 ∙ take-take 48 512 one.reads (omega arith) ∙ header_is);
      },
)
header_refused key one three first (Damaged address) same read refusal = absurd refusal
header_refused key one three first NoMemory same read refusal = absurd refusal

-- what the first sector says of the file
pub header_fault : (key : List ℕ) (one three : FileState) (first : List ℕ) (outcome : Result (Unit {0}) CardFault) → three.faults ≡ one.faults
    → (IsTrue one.tells → Known one three → (file_length ≤ length one.reads) × (first ≡ take 512 one.reads))
    → MatchResult outcome (λ _. take 48 first ≡ header key) (λ fault. IsRefusal key first fault) → IfErr outcome (λ fault. HasFault key one three fault)
header_fault key one three first (Ok u) same read said = tt
header_fault key one three first (Err fault) same read said = header_refused key one three first fault same read said

pub header_told : (key : List ℕ) (one three : FileState) (first : List ℕ) (outcome : Result (Unit {0}) CardFault)
    → (IsTrue one.tells → Known one three → (file_length ≤ length one.reads) × (first ≡ take 512 one.reads))
    → MatchResult outcome (λ _. take 48 first ≡ header key) (λ fault. IsRefusal key first fault) → OnOk outcome (IsTrue one.tells → Known one three → IsCardFile key one.reads)
header_told key one three first (Ok u) read said = λ tells known.
    let is = read tells known in record { whole = is.0; header = sym (ap (take 48) is.1 ∙ take-take 48 512 one.reads (omega arith)) ∙ said }
header_told key one three first (Err fault) read said = tt

-- a file without bytes was made a card's file
pub made : (key : List ℕ) (one two three : FileState) (length_read : ℕ) → Rests one two → (IsTrue two.tells → length_read ≡ length two.reads) → length_read ≤ 0 → GoesOn two three → IsLaid key two three → IsMade key one three
made key one two three length_read rests measured none goes laid =
    let empty : IsTrue one.tells → Known one three → length one.reads ≡ 0 = λ tells known.
    let long : length_read ≡ length one.reads = told_longer (λ (l : List ℕ). length_read ≡ length l) one two three goes (told_at_end (λ (l : List ℕ). length_read ≡ length l) one two rests measured) tells known in
    omega (arith, long, none) in
    record {
      empty = empty;
      stands = λ tells known.
          let before : two.reads ≡ one.reads = rests.reads (first_known one two three goes known) in
          subst (λ (l : List ℕ). Stands key l None (keyed key)) (sym (laid.reads (then_known one two three rests.goes_on known)))
          (stands_new key two.reads (ap length before ∙ empty tells known));
      settled = laid.settled;
    }

-- what was refused behind calls that change nothing is refused before them
pub fault_before : (key : List ℕ) (one two three : FileState) (fault : CardFault) → Rests one two → two.faults ≡ one.faults → Rests two three → HasFault key two three fault → HasFault key one three fault
fault_before key one two three (Failed count) before same now fault = (subst (λ (n : ℕ). Rose n three.faults) same fault.0, fault.1)
fault_before key one two three NoMemory before same now fault = (rests_then one two three before now, fault.1 ∙ same)
fault_before key one two three NoCard before same now fault = (fault.0 ∙ same, told_before (λ (l : List ℕ). IsRefused key l NoCard) one two three before now.goes_on fault.1)
fault_before key one two three (NotEmpty end) before same now fault = (fault.0 ∙ same, told_before (λ (l : List ℕ). IsRefused key l (NotEmpty end)) one two three before now.goes_on fault.1)
fault_before key one two three Foreign before same now fault = (fault.0 ∙ same, told_before (λ (l : List ℕ). IsRefused key l Foreign) one two three before now.goes_on fault.1)
fault_before key one two three OtherKey before same now fault = (fault.0 ∙ same, told_before (λ (l : List ℕ). IsRefused key l OtherKey) one two three before now.goes_on fault.1)
fault_before key one two three (Damaged address) before same now fault = (fault.0 ∙ same, told_before (λ (l : List ℕ). IsRefused key l (Damaged address)) one two three before now.goes_on fault.1)

-- one block more was put back
pub one_restored : (key : List ℕ) (one two three : FileState) (count next_count : ℕ) (card next : CardState) → next_count ≡ count + 1 → count < 256 → Rests one two → Rests two three
    → (IsTrue one.tells → Known one two → IsRestored key one.reads count card)
    → (IsTrue two.tells → Known two three → (next ≡ with_block card count (last_request key two.reads count)) × ¬ IsDamaged key two.reads count)
    → IsTrue one.tells → Known one three → IsRestored key one.reads next_count next
one_restored key one two three count next_count card next one_more lt before now first second = λ tells known.
    let was : IsRestored key one.reads count card = told_longer (λ (l : List ℕ). IsRestored key l count card) one two three now.goes_on first tells known in
    let is = told_before (λ (l : List ℕ). (next ≡ with_block card count (last_request key l count)) × ¬ IsDamaged key l count) one two three before now.goes_on second tells known in
    subst (λ (n : ℕ). IsRestored key one.reads n next) (sym one_more) (restored_more key one.reads count card next lt is.0 is.1 was)

-- the header was checked, and all blocks were put back
pub card_read : (key first_key second_key : List ℕ) (one two three : FileState) (card : CardState) → first_key ≡ key → second_key ≡ key → Rests one two → Rests two three
    → (IsTrue one.tells → Known one two → IsCardFile first_key one.reads) → (IsTrue two.tells → Known two three → IsRestored second_key two.reads 256 card)
    → IsTrue one.tells → Known one three → Stands key one.reads None card
card_read key first_key second_key one two three card first_is second_is before now first second = λ tells known.
    let file : IsCardFile first_key one.reads = told_longer (λ (l : List ℕ). IsCardFile first_key l) one two three now.goes_on first tells known in
    let restored : IsRestored second_key one.reads 256 card = told_before (λ (l : List ℕ). IsRestored second_key l 256 card) one two three before now.goes_on second tells known in
    stands_read key one.reads card (subst (λ (k : List ℕ). IsCardFile k one.reads) first_is file) (subst (λ (k : List ℕ). IsRestored k one.reads 256 card) second_is restored)
