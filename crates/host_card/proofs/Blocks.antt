-- What a block of a card's file is, by the bytes of its versions.
use Rattle.std.proofs.Common.{◌≡◌, ◌∙◌, ◌⊎◌, inl, inr, refl, sym, ap, ℕ, ◌+◌, ◌-◌, ◌<◌, ◌≤◌, List, length, get_or, Bool, true, false, ◌==◌, ◌&&◌, nat_lt, if◌then◌else◌, Option, Some, None, replicate, arith}
use Rattle.std.proofs.lemmas.Bool.{cases_lt, lt-ltb, le-ltb}
use Rattle.std.proofs.lemmas.List.{ext_get_or, get_or-replicate, length-replicate}
use Rattle.std.proofs.lemmas.List.FromFn.{length-map-range_with_len, get_or-map-range_with_len}
use Rattle.rpmb_frame.specs.Layout.{frame_of}
use Rattle.rpmb_card.specs.Protocol.{write_block_kind, last_counter}
use Rattle.rpmb_card.specs.Card.{is_authentic}
use Rattle.host_card.specs.CardFile.{version_at, request_at, is_write_of, request_in, counter_behind, last_request, IsClear, IsDamaged}
use Rattle.host_card.specs.Versions.{first_write}

pub long_request : (bytes : List ℕ) (place : ℕ) → length (request_at bytes place) ≡ 512
long_request bytes place = length-map-range_with_len (λ p. get_or bytes p 0) place 512

pub request_byte : (bytes : List ℕ) (place i : ℕ) → i < 512 → get_or (request_at bytes place) i 0 ≡ get_or bytes (place + i) 0
request_byte bytes place i lt = get_or-map-range_with_len (λ p. get_or bytes p 0) place 512 i (place + i) 0 lt refl

-- a request is that of 512 bytes at its place
pub request_is : (bytes request : List ℕ) (place : ℕ) → length request ≡ 512 → ((i : ℕ) → i < 512 → get_or request i 0 ≡ get_or bytes (place + i) 0) → request_at bytes place ≡ request
request_is bytes request place long same =
    let whole : length (request_at bytes place) ≡ 512 = long_request bytes place in
    ext_get_or 0 (request_at bytes place) request (whole ∙ sym long) (λ i lt.
    let here : i < 512 = omega (arith, lt, whole) in
    request_byte bytes place i here ∙ sym (same i here))

-- the same byte at the same place, written otherwise
pub moved : (bytes : List ℕ) (p q : ℕ) → p ≡ q → get_or bytes p 0 ≡ get_or bytes q 0
moved bytes p q same = ap (λ (n : ℕ). get_or bytes n 0) same

-- a version has the same bytes in both
abbrev pub SameVersion : (a b : List ℕ) (address version : ℕ) → Type 0
SameVersion a b address version = (i : ℕ) → i < 1024 → get_or a (version_at address version + i) 0 ≡ get_or b (version_at address version + i) 0

same_sector : (a b : List ℕ) (place : ℕ) → ((i : ℕ) → i < 512 → get_or a (place + i) 0 ≡ get_or b (place + i) 0) → request_at a place ≡ request_at b place
same_sector a b place same = request_is a (request_at b place) place (long_request b place) (λ i lt. request_byte b place i lt ∙ sym (same i lt))

behind : (bytes : List ℕ) (place i : ℕ) → get_or bytes ((place + 512) + i) 0 ≡ get_or bytes (place + (512 + i)) 0
behind bytes place i = moved bytes ((place + 512) + i) (place + (512 + i)) (omega arith)

-- so it has the same request
pub same_request : (key a b : List ℕ) (address version : ℕ) → SameVersion a b address version → request_in key a address version ≡ request_in key b address version
same_request key a b address version same =
    let at : ℕ = version_at address version in
    let first : request_at a at ≡ request_at b at = same_sector a b at (λ i lt. same i (omega (arith, lt))) in
    let second : request_at a (at + 512) ≡ request_at b (at + 512) = same_sector a b (at + 512) (λ i lt. behind a at i ∙ same (512 + i) (omega (arith, lt)) ∙ sym (behind b at i)) in
    ap (λ (l : List ℕ). first_write key address l (request_at a (at + 512))) first
    ∙ ap (λ (l : List ℕ). first_write key address (request_at b at) l) second

pub same_clear : (a b : List ℕ) (address version : ℕ) → SameVersion a b address version → IsClear a address version → IsClear b address version
same_clear a b address version same clear = λ i lt. sym (same i lt) ∙ clear i lt

-- of two versions the newer one
abbrev pub newer_of : Option (List ℕ) → Option (List ℕ) → Option (List ℕ)
newer_of first second = if nat_lt (counter_behind first) (counter_behind second) then second else first

newer_by : (b : Bool) (key bytes : List ℕ) (address : ℕ)
    → request_in key bytes address (if b then 1 else 0) ≡ (if b then request_in key bytes address 1 else request_in key bytes address 0)
newer_by true key bytes address = refl
newer_by false key bytes address = refl

pub last_is : (key bytes : List ℕ) (address : ℕ) → last_request key bytes address ≡ newer_of (request_in key bytes address 0) (request_in key bytes address 1)
last_is key bytes address = newer_by (nat_lt (counter_behind (request_in key bytes address 0)) (counter_behind (request_in key bytes address 1))) key bytes address

pub same_last : (key a b : List ℕ) (address : ℕ) → ((version : ℕ) → version < 2 → SameVersion a b address version) → last_request key a address ≡ last_request key b address
same_last key a b address same =
    last_is key a address
    ∙ ap (λ (r : Option (List ℕ)). newer_of r (request_in key a address 1)) (same_request key a b address 0 (same 0 (omega arith)))
    ∙ ap (λ (r : Option (List ℕ)). newer_of (request_in key b address 0) r) (same_request key a b address 1 (same 1 (omega arith)))
    ∙ sym (last_is key b address)

pub same_damaged : (key a b : List ℕ) (address : ℕ) → ((version : ℕ) → version < 2 → SameVersion a b address version) → IsDamaged key b address → IsDamaged key a address
same_damaged key a b address same damaged = record {
  within = damaged.within;
  none = λ version lt. same_request key a b address version (same version lt) ∙ damaged.none version lt;
  used = λ version lt clear. damaged.used version lt (same_clear a b address version (same version lt) clear);
}

pub newer_true : (first second : Option (List ℕ)) → counter_behind first < counter_behind second → newer_of first second ≡ second
newer_true first second lt = ap (λ (b : Bool). if b then second else first) (lt-ltb (counter_behind first) (counter_behind second) lt)

pub newer_false : (first second : Option (List ℕ)) → counter_behind second ≤ counter_behind first → newer_of first second ≡ first
newer_false first second le = ap (λ (b : Bool). if b then second else first) (le-ltb (counter_behind first) (counter_behind second) le)

newer_none_first : (request : Option (List ℕ)) → newer_of None request ≡ request
newer_none_first None = refl
newer_none_first (Some request) = newer_true None (Some request) (omega arith)

newer_none_second : (request : Option (List ℕ)) → newer_of request None ≡ request
newer_none_second request = newer_false request None (omega arith)

newer_le : (first second : Option (List ℕ)) → (counter_behind first ≤ counter_behind (newer_of first second)) × (counter_behind second ≤ counter_behind (newer_of first second))
newer_le first second = elim (cases_lt (counter_behind first) (counter_behind second)) [
  | inl lt ↦ let is : counter_behind (newer_of first second) ≡ counter_behind second = ap counter_behind (newer_true first second lt) in (omega (arith, is, lt), omega (arith, is))
  | inr le ↦ let is : counter_behind (newer_of first second) ≡ counter_behind first = ap counter_behind (newer_false first second le) in (omega (arith, is), omega (arith, is, le))
]

-- a version is one of two
pub one_of_two : (version : ℕ) → version < 2 → (version ≡ 0) ⊎ (version ≡ 1)
one_of_two version lt = elim (cases_lt version 1) [ inl low ↦ inl (omega arith) | inr high ↦ inr (omega arith) ]

-- no version has a greater counter than the last request
pub version_le : (key bytes : List ℕ) (address version : ℕ) → version < 2 → counter_behind (request_in key bytes address version) ≤ counter_behind (last_request key bytes address)
version_le key bytes address version lt =
    let both = newer_le (request_in key bytes address 0) (request_in key bytes address 1) in
    let last : counter_behind (last_request key bytes address) ≡ counter_behind (newer_of (request_in key bytes address 0) (request_in key bytes address 1)) = ap counter_behind (last_is key bytes address) in
    elim (one_of_two version lt) [
      | inl zero ↦ let is : counter_behind (request_in key bytes address version) ≡ counter_behind (request_in key bytes address 0) = ap (λ (v : ℕ). counter_behind (request_in key bytes address v)) zero in omega (arith, is, last, both.0)
      | inr one ↦ let is : counter_behind (request_in key bytes address version) ≡ counter_behind (request_in key bytes address 1) = ap (λ (v : ℕ). counter_behind (request_in key bytes address v)) one in omega (arith, is, last, both.1)
    ]

-- where one version has no request the last request is that of the other
pub last_other : (key bytes : List ℕ) (address version : ℕ) → version < 2 → request_in key bytes address version ≡ None → last_request key bytes address ≡ request_in key bytes address (1 - version)
last_other key bytes address version lt none = elim (one_of_two version lt) [
  | inl zero ↦
      let here : request_in key bytes address 0 ≡ None = ap (request_in key bytes address) (sym zero) ∙ none in
      last_is key bytes address ∙ ap (λ (r : Option (List ℕ)). newer_of r (request_in key bytes address 1)) here
      ∙ newer_none_first (request_in key bytes address 1) ∙ ap (λ (v : ℕ). request_in key bytes address v) (let e : 1 ≡ 1 - version = omega arith in e)
  | inr one ↦
      let here : request_in key bytes address 1 ≡ None = ap (request_in key bytes address) (sym one) ∙ none in
      last_is key bytes address ∙ ap (λ (r : Option (List ℕ)). newer_of (request_in key bytes address 0) r) here
      ∙ newer_none_second (request_in key bytes address 0) ∙ ap (λ (v : ℕ). request_in key bytes address v) (let e : 0 ≡ 1 - version = omega arith in e)
]

-- and where its counter is greater than that of the other, it is the last request
pub last_newest : (key bytes : List ℕ) (address version : ℕ) → version < 2 → counter_behind (request_in key bytes address (1 - version)) < counter_behind (request_in key bytes address version)
    → last_request key bytes address ≡ request_in key bytes address version
last_newest key bytes address version lt newer = elim (one_of_two version lt) [
  | inl zero ↦
      let other : counter_behind (request_in key bytes address (1 - version)) ≡ counter_behind (request_in key bytes address 1) = ap (λ (v : ℕ). counter_behind (request_in key bytes address v)) (let e : 1 - version ≡ 1 = omega arith in e) in
      let this : counter_behind (request_in key bytes address version) ≡ counter_behind (request_in key bytes address 0) = ap (λ (v : ℕ). counter_behind (request_in key bytes address v)) zero in
      last_is key bytes address ∙ newer_false (request_in key bytes address 0) (request_in key bytes address 1) (omega (arith, other, this, newer))
      ∙ ap (request_in key bytes address) (sym zero)
  | inr one ↦
      let other : counter_behind (request_in key bytes address (1 - version)) ≡ counter_behind (request_in key bytes address 0) = ap (λ (v : ℕ). counter_behind (request_in key bytes address v)) (let e : 1 - version ≡ 0 = omega arith in e) in
      let this : counter_behind (request_in key bytes address version) ≡ counter_behind (request_in key bytes address 1) = ap (λ (v : ℕ). counter_behind (request_in key bytes address v)) one in
      last_is key bytes address ∙ newer_true (request_in key bytes address 0) (request_in key bytes address 1) (omega (arith, other, this, newer))
      ∙ ap (request_in key bytes address) (sym one)
]

-- zero bytes are no write
zero_kind : (frame_of (replicate 512 0)).kind ≡ 0
unfolding frame_of
zero_kind = refl

other_kind : (key : List ℕ) (address : ℕ) (request : List ℕ) (kind : ℕ) → (frame_of request).kind ≡ kind → (kind == write_block_kind) ≡ false → is_write_of key address request ≡ false
other_kind key address request kind is other =
    let f = frame_of request in
    let first : (f.kind == write_block_kind) ≡ false = ap (λ (k : ℕ). k == write_block_kind) is ∙ other in
    ap (λ (b : Bool). b && f.count == 1 && f.address == address && nat_lt f.counter last_counter && is_authentic (Some key) request) first

pub zeros_no_write : (key bytes : List ℕ) (address place : ℕ) → ((i : ℕ) → i < 512 → get_or bytes (place + i) 0 ≡ 0) → is_write_of key address (request_at bytes place) ≡ false
zeros_no_write key bytes address place zero =
    let is : request_at bytes place ≡ replicate 512 0 = request_is bytes (replicate 512 0) place (length-replicate {A = ℕ} 512 0) (λ i lt. get_or-replicate 512 i 0 0 lt ∙ sym (zero i lt)) in
    other_kind key address (request_at bytes place) 0 (ap (λ (l : List ℕ). (frame_of l).kind) is ∙ zero_kind) refl

-- so a version that is clear has no request
pub clear_none : (key bytes : List ℕ) (address version : ℕ) → IsClear bytes address version → request_in key bytes address version ≡ None
clear_none key bytes address version clear =
    let at : ℕ = version_at address version in
    let first = request_at bytes at in
    let second = request_at bytes (at + 512) in
    let first_not : is_write_of key address first ≡ false = zeros_no_write key bytes address at (λ i lt. clear i (omega (arith, lt))) in
    let second_not : is_write_of key address second ≡ false = zeros_no_write key bytes address (at + 512) (λ i lt. behind bytes at i ∙ clear (512 + i) (omega (arith, lt))) in
    ap (λ (b : Bool). if b then Some first else (if is_write_of key address second then Some second else None)) first_not
    ∙ ap (λ (b : Bool). if b then Some second else None) second_not
