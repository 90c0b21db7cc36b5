-- What a file keeps as it reads, where a version may be torn.
use Rattle.std.proofs.Common.{◌≡◌, ◌∙◌, ◌⊎◌, inl, inr, refl, sym, ap, subst, ℕ, ◌+◌, ◌-◌, ◌<◌, ◌≤◌, List, [], get_or, set, max, Bool, true, false, if◌then◌else◌, Option, Some, None, arith, length-set}
use Rattle.std.proofs.lemmas.Bool.{cases_eq, cases_lt}
use Rattle.std.proofs.lemmas.List.{ext_get_or, get_or-set_other, get_or-set_same}
use Rattle.std.proofs.lemmas.Option.{none-some, same_Some}
use Rattle.rpmb_frame.specs.Layout.{frame_of}
use Rattle.rpmb_card.specs.Card.{CardState}
use Rattle.host_card.specs.declared.card_file.Place.{Place}
use Rattle.host_card.specs.CardFile.{block_behind, counter_behind, is_write_of, last_request, request_at, request_in, version_at, KeepsCard}
use Rattle.host_card.specs.Places.{IsSpare, Stands, without, zeros}
use Rattle.host_card.specs.Laws.{HasOneMore, HasSameContent, TornFilesKeepNoMoreThanOneWrite}
use Rattle.host_card.proofs.Blocks.{last_is, newer_false, newer_true, one_of_two, same_last, same_request, version_le}
use Rattle.host_card.proofs.Standing.{AreSame, long_zeros, same_off, written_same}

-- where the last requests are the same, so are the cards
same_content : (key a b : List ℕ) (card other : CardState) → ((address : ℕ) → address < 256 → last_request key a address ≡ last_request key b address) → KeepsCard key a card → KeepsCard key b other
    → HasSameContent card other
same_content key a b card other same keeps kept =
    let low : other.counter ≤ card.counter = kept.least card.counter (λ address lt. subst (λ (r : Option (List ℕ)). counter_behind r ≤ card.counter) (same address lt) (keeps.latest address lt)) in
    let high : card.counter ≤ other.counter = keeps.least other.counter (λ address lt. subst (λ (r : Option (List ℕ)). counter_behind r ≤ other.counter) (sym (same address lt)) (kept.latest address lt)) in
    record {
      key = kept.has_key ∙ sym keeps.has_key;
      counter = omega (arith, low, high);
      blocks = ext_get_or [] other.blocks card.blocks (kept.blocks ∙ sym keeps.blocks) (λ i lt.
          let within : i < 256 = omega (arith, lt, kept.blocks) in
          kept.block i within ∙ ap block_behind (sym (same i within)) ∙ sym (keeps.block i within));
    }

-- the last request is that of one of both versions
last_either : (key bytes : List ℕ) (address version : ℕ) → version < 2
    → (last_request key bytes address ≡ request_in key bytes address version) ⊎ (last_request key bytes address ≡ request_in key bytes address (1 - version))
last_either key bytes address version lt =
    let first = request_in key bytes address 0 in
    let second = request_in key bytes address 1 in
    elim (cases_lt (counter_behind first) (counter_behind second)) [
      | inl newer ↦
          let is : last_request key bytes address ≡ request_in key bytes address 1 = last_is key bytes address ∙ newer_true first second newer in
          elim (one_of_two version lt) [
            | inl zero ↦ inr (is ∙ ap (request_in key bytes address) (let e : 1 ≡ 1 - version = omega arith in e))
            | inr one ↦ inl (is ∙ ap (request_in key bytes address) (sym one))
          ]
      | inr older ↦
          let is : last_request key bytes address ≡ request_in key bytes address 0 = last_is key bytes address ∙ newer_false first second older in
          elim (one_of_two version lt) [
            | inl zero ↦ inl (is ∙ ap (request_in key bytes address) (sym zero))
            | inr one ↦ inr (is ∙ ap (request_in key bytes address) (let e : 0 ≡ 1 - version = omega arith in e))
          ]
    ]

-- a request that stands in a version is a write of its block
write_of : (key : List ℕ) (address : ℕ) (first second request : List ℕ) → (a b : Bool) → is_write_of key address first ≡ a → is_write_of key address second ≡ b
    → (if a then Some first else (if b then Some second else None)) ≡ Some request → is_write_of key address request ≡ true
write_of key address first second request true b is_first is_second is = ap (is_write_of key address) (sym (same_Some first request is)) ∙ is_first
write_of key address first second request false true is_first is_second is = ap (is_write_of key address) (sym (same_Some second request is)) ∙ is_second
write_of key address first second request false false is_first is_second is = absurd (none-some request is)

in_is_write : (key bytes : List ℕ) (address version : ℕ) (request : List ℕ) → request_in key bytes address version ≡ Some request → is_write_of key address request ≡ true
in_is_write key bytes address version request is =
    let first = request_at bytes (version_at address version) in
    let second = request_at bytes (version_at address version + 512) in
    write_of key address first second request (is_write_of key address first) (is_write_of key address second) refl refl is

-- without a request there is no counter
no_counter : (request : Option (List ℕ)) → counter_behind request ≤ 0 → request ≡ None
no_counter None le = refl
no_counter (Some request) le = absurd (omega (arith, le))

module _ (key bytes : List ℕ) (place : Place) (card other : CardState) (stands : Stands key bytes (Some place) card) (kept : KeepsCard key bytes other) where
  abbrev bare : List ℕ
  bare = without bytes (Some place)

  spare : IsSpare key bare place
  spare = stands.spare place refl

  agree : AreSame (Some place) bytes bare
  agree = written_same bytes zeros place stands.file.whole long_zeros

  w_lt : 1 - place.version < 2
  w_lt = omega (arith, spare.version)

  stood : request_in key bytes place.address (1 - place.version) ≡ last_request key bare place.address
  stood =
      same_request key bytes bare place.address (1 - place.version) (same_off place bytes bare place.address (1 - place.version) agree spare.address spare.version spare.address w_lt (λ s is. omega (arith, is, spare.version)))
      ∙ sym spare.last

  others : (address : ℕ) → address < 256 → (address ≡ place.address → ⊥) → last_request key bare address ≡ last_request key bytes address
  others address lt not = sym (same_last key bytes bare address (λ version v_lt. same_off place bytes bare address version agree spare.address spare.version lt v_lt (λ s is. not s)))

  unchanged : last_request key bytes place.address ≡ last_request key bare place.address → HasSameContent card other
  unchanged same = same_content key bare bytes card other (λ address lt. elim (cases_eq address place.address) [
    | inl is ↦ ap (last_request key bare) is ∙ sym same ∙ ap (last_request key bytes) (sym is)
    | inr not ↦ others address lt not
  ]) stands.keeps kept

  changed : (request : List ℕ) → last_request key bytes place.address ≡ Some request → is_write_of key place.address request ≡ true → HasOneMore key bytes (Some place) card other
  changed request is write =
      let f = frame_of request in
      let behind : counter_behind (last_request key bytes place.address) ≡ f.counter + 1 = ap counter_behind is in
      let newer : counter_behind (last_request key bare place.address) ≤ f.counter + 1 =
      omega (arith, ap counter_behind stood, behind, version_le key bytes place.address (1 - place.version) w_lt) in
      let most : other.counter ≤ max card.counter (f.counter + 1) = kept.least (max card.counter (f.counter + 1)) (λ address lt. elim (cases_eq address place.address) [
        | inl same ↦ omega (arith, ap (λ (n : ℕ). counter_behind (last_request key bytes n)) same, behind)
        | inr not ↦ omega (arith, ap counter_behind (others address lt not), stands.keeps.latest address lt)
      ]) in
      let this : f.counter + 1 ≤ other.counter = omega (arith, behind, kept.latest place.address spare.address) in
      let all : card.counter ≤ other.counter = stands.keeps.least other.counter (λ address lt. elim (cases_eq address place.address) [
        | inl same ↦ omega (arith, ap (λ (n : ℕ). counter_behind (last_request key bare n)) same, newer, this)
        | inr not ↦ omega (arith, ap counter_behind (others address lt not), kept.latest address lt)
      ]) in
      record {
        address = place.address;
        request = request;
        within = spare.address;
        write = write;
        newer = newer;
        same_key = kept.has_key ∙ sym stands.keeps.has_key;
        blocks = ext_get_or [] other.blocks (set card.blocks place.address f.block) (kept.blocks ∙ sym (length-set card.blocks place.address f.block ∙ stands.keeps.blocks)) (λ i lt.
            let within : i < 256 = omega (arith, lt, kept.blocks) in
            elim (cases_eq i place.address) [
              | inl same ↦
                  kept.block i within ∙ ap (λ (n : ℕ). block_behind (last_request key bytes n)) same ∙ ap block_behind is
                  ∙ sym (get_or-set_same card.blocks place.address f.block [] (omega (arith, stands.keeps.blocks, spare.address))) ∙ ap (λ (n : ℕ). get_or (set card.blocks place.address f.block) n []) (sym same)
              | inr not ↦
                  kept.block i within ∙ ap block_behind (sym (others i within not)) ∙ sym (stands.keeps.block i within) ∙ sym (get_or-set_other card.blocks place.address i f.block [] not)
            ]);
        counter = omega (arith, most, this, all);
      }

  by_version : (there : Option (List ℕ)) → request_in key bytes place.address place.version ≡ there → last_request key bytes place.address ≡ there → HasSameContent card other ⊎ HasOneMore key bytes (Some place) card other
  by_version None here last =
      let le = version_le key bytes place.address (1 - place.version) w_lt in
      let none : request_in key bytes place.address (1 - place.version) ≡ None = no_counter (request_in key bytes place.address (1 - place.version)) (omega (arith, le, ap counter_behind last)) in
      inl (unchanged (last ∙ sym none ∙ stood))
  by_version (Some request) here last = inr (changed request last (in_is_write key bytes place.address place.version request here))

  pub torn_keeps : HasSameContent card other ⊎ HasOneMore key bytes (Some place) card other
  torn_keeps = elim (last_either key bytes place.address place.version spare.version) [
    | inl this ↦ by_version (request_in key bytes place.address place.version) refl this
    | inr that ↦ inl (unchanged (that ∙ stood))
  ]

pub no_more_than_one : TornFilesKeepNoMoreThanOneWrite
no_more_than_one key bytes None card other stands kept = inl (same_content key bytes bytes card other (λ address lt. refl) stands.keeps kept)
no_more_than_one key bytes (Some place) card other stands kept = torn_keeps key bytes place card other stands kept
