-- A card's file in which one version may be torn.
use Rattle.std.proofs.Common.{◌≡◌, ◌∙◌, inl, inr, refl, sym, ap, subst, ℕ, ◌+◌, ◌-◌, ◌<◌, ◌≤◌, List, length, get_or, take, Option, Some, None, arith}
use Rattle.std.proofs.lemmas.Bool.{cases_lt, cases_eq}
use Rattle.std.proofs.lemmas.Option.{none-some, same_Some}
use Rattle.std.proofs.lemmas.List.{ext_get_or, get_or-replicate, get_or-take, length-replicate, length-take-le}
use Rattle.disk_model.specs.Bytes.{after_write}
use Rattle.disk_model.specs.Keeps.{Outside}
use Rattle.disk_model.proofs.Writes.{length-after_write, written_before, written_behind, written_within}
use Rattle.rpmb_card.specs.Card.{CardState}
use Rattle.host_card.specs.declared.card_file.Place.{Place}
use Rattle.host_card.specs.CardFile.{file_length, version_at, request_in, last_request, block_behind, counter_behind, IsCardFile, IsClear, IsDamaged, IsWhole, KeepsCard}
use Rattle.host_card.specs.Places.{IsSpare, IsSpareOrNone, Off, Stands, begin, without, zeros}
use Rattle.host_card.proofs.Blocks.{SameVersion, clear_none, last_other, moved, same_clear, same_damaged, same_last, same_request}

pub long_zeros : length zeros ≡ 1024
unfolding zeros
long_zeros = length-replicate {A = ℕ} 1024 0

pub zero_byte : (i : ℕ) → i < 1024 → get_or zeros i 0 ≡ 0
unfolding zeros
zero_byte i lt = get_or-replicate 1024 i 0 0 lt

-- two files are the same but for a version that may be torn
pub record AreSame (torn : Option Place) (a b : List ℕ) : Type 0 where
  pub room : file_length ≤ length a
  pub there : file_length ≤ length b
  pub same : (p : ℕ) → Off torn p → get_or a p 0 ≡ get_or b p 0

-- a version of another place lies off it
pub off_version : (place : Place) (address version i : ℕ) → place.address < 256 → place.version < 2 → address < 256 → version < 2 → i < 1024
    → (address ≡ place.address → version ≡ place.version → ⊥) → Off (Some place) (version_at address version + i)
off_version place address version i in_address in_version a_lt v_lt lt other = (
  omega (arith, a_lt, v_lt, lt),
  elim (cases_lt address place.address) [
    | inl low ↦ inl (omega (arith, low, v_lt, lt))
    | inr high ↦ elim (cases_eq address place.address) [
      | inl same ↦ elim (cases_lt version place.version) [
        | inl below ↦ inl (omega (arith, same, below, lt))
        | inr above ↦ elim (cases_eq version place.version) [ inl is ↦ absurd (other same is) | inr not ↦ let more : place.version < version = omega (arith, above, not) in inr (omega (arith, same, more)) ]
      ]
      | inr not ↦ let more : place.address < address = omega (arith, high, not) in inr (omega (arith, more, in_version))
    ]
  ],
)

-- so it is the same in both
pub same_off : (place : Place) (a b : List ℕ) (address version : ℕ) → AreSame (Some place) a b → place.address < 256 → place.version < 2 → address < 256 → version < 2
    → (address ≡ place.address → version ≡ place.version → ⊥) → SameVersion a b address version
same_off place a b address version agree in_address in_version a_lt v_lt other = λ i lt.
    agree.same (version_at address version + i) (off_version place address version i in_address in_version a_lt v_lt lt other)

pub same_all : (a b : List ℕ) (address version : ℕ) → AreSame None a b → address < 256 → version < 2 → SameVersion a b address version
same_all a b address version agree a_lt v_lt = λ i lt. agree.same (version_at address version + i) (omega (arith, a_lt, v_lt, lt))

pub keeps_same : (key a b : List ℕ) (card : CardState) → ((address : ℕ) → address < 256 → last_request key a address ≡ last_request key b address) → KeepsCard key a card → KeepsCard key b card
keeps_same key a b card same keeps = record {
  has_key = keeps.has_key;
  blocks = keeps.blocks;
  block = λ address lt. keeps.block address lt ∙ ap block_behind (same address lt);
  latest = λ address lt. subst (λ (r : Option (List ℕ)). counter_behind r ≤ card.counter) (same address lt) (keeps.latest address lt);
  least = λ counter most. keeps.least counter (λ address lt. subst (λ (r : Option (List ℕ)). counter_behind r ≤ counter) (sym (same address lt)) (most address lt));
}

pub file_same : (key a b : List ℕ) (torn : Option Place) → AreSame torn a b → IsCardFile key a → IsCardFile key b
file_same key a b torn agree file = record {
  whole = agree.there;
  header = sym (ext_get_or 0 (take 48 a) (take 48 b) (front_long a agree.room ∙ sym (front_long b agree.there)) (λ i lt.
      let low : i < 48 = omega (arith, lt, front_long a agree.room) in
      get_or-take 48 a i 0 low ∙ agree.same i (front_off torn i low) ∙ sym (get_or-take 48 b i 0 low))) ∙ file.header;
}
  where
    front_long : (bytes : List ℕ) → file_length ≤ length bytes → length (take 48 bytes) ≡ 48
    front_long bytes room = length-take-le 48 bytes (omega (arith, room))

    front_off : (torn : Option Place) (p : ℕ) → p < 48 → Off torn p
    front_off None p lt = omega (arith, lt)
    front_off (Some place) p lt = (omega (arith, lt), inl (omega (arith, lt)))

-- where bytes are written over a version, all else is the same
pub written_same : (a bytes : List ℕ) (place : Place) → file_length ≤ length a → length bytes ≡ 1024 → AreSame (Some place) a (after_write a (begin place) bytes)
written_same a bytes place room long = record {
  room = room;
  there = omega (arith, room, length-after_write a (begin place) bytes);
  same = λ p off. sym (kept p off.0 off.1);
}
  where
    kept : (p : ℕ) → p < file_length → Outside (begin place) (begin place + 1024) p → get_or (after_write a (begin place) bytes) p 0 ≡ get_or a p 0
    kept p low (inl before) = written_before a (begin place) bytes p before (omega (arith, room, low))
    kept p low (inr behind) = written_behind a (begin place) bytes p (omega (arith, behind, long))

-- and in the version these bytes are
pub written_in : (a bytes : List ℕ) (place : Place) → length bytes ≡ 1024 → (i : ℕ) → i < 1024 → get_or (after_write a (begin place) bytes) (begin place + i) 0 ≡ get_or bytes i 0
written_in a bytes place long i lt = written_within a (begin place) bytes i (omega (arith, long, lt))

pub same_then : (torn : Option Place) (a b c : List ℕ) → AreSame torn a b → AreSame torn b c → AreSame torn a c
same_then torn a b c first second = record { room = first.room; there = second.there; same = λ p off. first.same p off ∙ second.same p off }

pub same_back : (torn : Option Place) (a b : List ℕ) → AreSame torn a b → AreSame torn b a
same_back torn a b same = record { room = same.there; there = same.room; same = λ p off. sym (same.same p off) }

pub same_none : (torn : Option Place) (a : List ℕ) → file_length ≤ length a → AreSame torn a a
same_none torn a room = record { room = room; there = room; same = λ p off. refl }

-- with the version made zero in both, they are the same
pub same_without : (torn : Option Place) (a b : List ℕ) → AreSame torn a b → AreSame None (without a torn) (without b torn)
same_without None a b agree = agree
same_without (Some place) a b agree =
    let first = written_same a zeros place agree.room long_zeros in
    let second = written_same b zeros place agree.there long_zeros in
    record {
      room = first.there;
      there = second.there;
      same = λ p lt. elim (cases_lt p (begin place)) [
        | inl before ↦ sym (first.same p (lt, inl before)) ∙ agree.same p (lt, inl before) ∙ second.same p (lt, inl before)
        | inr from ↦ elim (cases_lt p (begin place + 1024)) [
          | inr behind ↦ sym (first.same p (lt, inr behind)) ∙ agree.same p (lt, inr behind) ∙ second.same p (lt, inr behind)
          | inl within ↦
              let at : p ≡ begin place + (p - begin place) = omega (arith, from) in
              let low : p - begin place < 1024 = omega (arith, within, from) in
              moved (without a (Some place)) p (begin place + (p - begin place)) at ∙ written_in a zeros place long_zeros (p - begin place) low
              ∙ sym (written_in b zeros place long_zeros (p - begin place) low) ∙ sym (moved (without b (Some place)) p (begin place + (p - begin place)) at)
        ]
      ];
    }

-- the version that was made zero is clear
pub cleared : (a : List ℕ) (place : Place) → IsClear (without a (Some place)) place.address place.version
cleared a place = λ i lt. written_in a zeros place long_zeros i lt ∙ zero_byte i lt

-- the other version of a place
other_version : (version : ℕ) → version < 2 → (1 - version < 2) × (1 - version ≡ version → ⊥)
other_version version lt = (omega (arith, lt), λ same. omega (arith, lt, same))

-- no version is torn
pub none_torn : (key bytes : List ℕ) → IsSpareOrNone key bytes None
none_torn key bytes = λ place is. absurd (none-some place is)

-- or this one
pub one_torn : (key bytes : List ℕ) (place : Place) → IsSpare key bytes place → IsSpareOrNone key bytes (Some place)
one_torn key bytes place spare = λ other is. subst (IsSpare key bytes) (same_Some place other is) spare

spare_here : (key a b : List ℕ) (place : Place) → AreSame None a b → IsSpare key a place → IsSpare key b place
spare_here key a b place agree spare =
    let w_lt = (other_version place.version spare.version).0 in
    let last : last_request key a place.address ≡ last_request key b place.address = same_last key a b place.address (λ version lt. same_all a b place.address version agree spare.address lt) in
    let other = same_all a b place.address (1 - place.version) agree spare.address w_lt in
    record {
      address = spare.address;
      version = spare.version;
      last = sym last ∙ spare.last ∙ same_request key a b place.address (1 - place.version) other;
      clear = λ none. same_clear a b place.address (1 - place.version) other (spare.clear (last ∙ none));
    }

pub spare_same : (key a b : List ℕ) (torn : Option Place) → AreSame None a b → IsSpareOrNone key a torn → IsSpareOrNone key b torn
spare_same key a b torn agree spare = λ place is. spare_here key a b place agree (spare place is)

-- a block with a spare version is not damaged, whatever stands in that version
whole_spare : (key bytes c : List ℕ) (place : Place) → IsSpare key c place → SameVersion bytes c place.address (1 - place.version) → request_in key c place.address place.version ≡ None → ¬ IsDamaged key bytes place.address
whole_spare key bytes c place spare same none = λ damaged.
    let w : ℕ = 1 - place.version in
    let w_lt : w < 2 = (other_version place.version spare.version).0 in
    let last : last_request key c place.address ≡ None = spare.last ∙ sym (same_request key bytes c place.address w same) ∙ damaged.none w w_lt in
    damaged.used w w_lt (same_clear c bytes place.address w (λ i lt. sym (same i lt)) (spare.clear last))

-- the same file, but for the torn version, keeps the card too
pub stands_same : (key a b : List ℕ) (torn : Option Place) (card : CardState) → AreSame torn a b → Stands key a torn card → Stands key b torn card
stands_same key a b torn card agree stands =
    let bare = same_without torn a b agree in
    record {
      file = file_same key a b torn agree stands.file;
      whole = still_whole torn agree stands.whole stands.spare;
      spare = spare_same key (without a torn) (without b torn) torn bare stands.spare;
      keeps = keeps_same key (without a torn) (without b torn) card (λ address lt. same_last key (without a torn) (without b torn) address (λ version v_lt. same_all (without a torn) (without b torn) address version bare lt v_lt)) stands.keeps;
    }
  where
    still_whole : (torn : Option Place) → AreSame torn a b → IsWhole key a → IsSpareOrNone key (without a torn) torn → IsWhole key b
    still_whole None agree whole spare = λ address damaged. whole address (same_damaged key a b address (λ version lt. same_all a b address version agree damaged.within lt) damaged)
    still_whole (Some place) agree whole all = λ address damaged. elim (cases_eq address place.address) [
      | inr not ↦
          let spare = all place refl in
          whole address (same_damaged key a b address (λ version lt. same_off place a b address version agree spare.address spare.version damaged.within lt (λ same is. not same)) damaged)
      | inl same ↦
          let spare = all place refl in
          let c = without a (Some place) in
          let w = other_version place.version spare.version in
          let both = same_then (Some place) b a c (same_back (Some place) a b agree) (written_same a zeros place agree.room long_zeros) in
          whole_spare key b c place spare (same_off place b c place.address (1 - place.version) both spare.address spare.version spare.address w.0 (λ s is. w.1 is))
          (clear_none key c place.address place.version (cleared a place)) (subst (λ (n : ℕ). IsDamaged key b n) same damaged)
    ]

-- a spare version may be torn
pub stands_torn : (key a : List ℕ) (place : Place) (card : CardState) → IsSpare key a place → Stands key a None card → Stands key a (Some place) card
stands_torn key a place card spare stands =
    let c = without a (Some place) in
    let agree = written_same a zeros place stands.file.whole long_zeros in
    let w = other_version place.version spare.version in
    let other = same_off place a c place.address (1 - place.version) agree spare.address spare.version spare.address w.0 (λ s is. w.1 is) in
    let here : last_request key c place.address ≡ request_in key c place.address (1 - place.version) =
    last_other key c place.address place.version spare.version (clear_none key c place.address place.version (cleared a place)) in
    let last : last_request key a place.address ≡ last_request key c place.address =
    spare.last ∙ same_request key a c place.address (1 - place.version) other ∙ sym here in
    record {
      file = stands.file;
      whole = stands.whole;
      spare = one_torn key c place (record { address = spare.address; version = spare.version; last = here; clear = λ none. same_clear a c place.address (1 - place.version) other (spare.clear (last ∙ none)) });
      keeps = keeps_same key a c card (λ address lt. elim (cases_eq address place.address) [
        | inl same ↦ ap (last_request key a) same ∙ last ∙ ap (last_request key c) (sym same)
        | inr not ↦ same_last key a c address (λ version v_lt. same_off place a c address version agree spare.address spare.version lt v_lt (λ s is. not s))
      ]) stands.keeps;
    }

-- where the torn version is made zero, none is torn
pub stands_cleared : (key a : List ℕ) (place : Place) (card : CardState) → Stands key a (Some place) card → Stands key (after_write a (begin place) zeros) None card
stands_cleared key a place card stands =
    let c = without a (Some place) in
    let spare = stands.spare place refl in
    let agree = written_same a zeros place stands.file.whole long_zeros in
    record {
      file = file_same key a c (Some place) agree stands.file;
      whole = λ address damaged. elim (cases_eq address place.address) [
        | inl same ↦ damaged.used place.version spare.version (subst (λ (n : ℕ). IsClear c n place.version) (sym same) (cleared a place))
        | inr not ↦ stands.whole address (same_damaged key a c address (λ version lt. same_off place a c address version agree spare.address spare.version damaged.within lt (λ s is. not s)) damaged)
      ];
      spare = none_torn key c;
      keeps = stands.keeps;
    }
