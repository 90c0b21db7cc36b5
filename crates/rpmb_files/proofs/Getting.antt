-- The bytes of an object, block by block, and what a get leaves.
use Rattle.std.proofs.Common.{◌≡◌, ◌∙◌, ℕ, zero, suc, ◌+◌, ◌-◌, ◌<◌, false, List, [], ◌∷◌, ◌++◌, length, map, take, get_or, Option, Some, None, Result, Err, refl, sym, ap, subst, append-nil, append_assoc, true≢false, arith, inl, inr}
use Rattle.std.proofs.Math.Seq.{take-suc}
use Rattle.std.proofs.lemmas.List.{length-take, map-append, take_min}
use Rattle.std.specs.Prelude.{IsSome, is_none, min, position}
use Rattle.store_model.specs.declared.name.ObjectName.{ObjectName}
use Rattle.rpmb_card.specs.Card.{CardState, IsCard}
use Rattle.rpmb_card.specs.Port.{PortState, Sound}
use Rattle.rpmb_host.specs.Honest.{HasCard}
use Rattle.card_maps.specs.CardMaps.{Blocks, CardMap, blocks_of, bytes_at, joined}
use Rattle.card_maps.specs.Course.{Done, Failed, Get, side}
use Rattle.card_maps.specs.Form.{numbers_in, size_in}
use Rattle.card_maps.specs.TableStates.{TableState}
use Rattle.card_maps.specs.Tables.{IsTableOf, entry_at, has_name, names_in}
use Rattle.card_maps.proofs.Finds.{entry_live, found_live}
use Rattle.card_maps.proofs.Shown.{bytes_absent, bytes_found}
use Rattle.rpmb_files.specs.declared.fault.CardFault.{CardFault}
use Rattle.rpmb_files.specs.declared.fault.CardFault.TheVariants.{TooLarge, NotFound, Full, Spent, Device, Bad, NoMemory}
use Rattle.rpmb_files.specs.declared.store.Doubt.{Doubt}
use Rattle.rpmb_files.specs.Calls.{CallLeaves, Leaves}
use Rattle.rpmb_files.specs.Knows.{IsStore, Knows}
use Rattle.rpmb_files.specs.Parts.{NamesEntry, ReadAnswers, parts}
use Rattle.rpmb_files.specs.Replies.{IsOfReading, found_reply}
use Rattle.rpmb_files.proofs.Ends.{moved_card, one_map, sound_card}
use Rattle.rpmb_files.proofs.Outcomes.{call_stays, found_not_done, get_answers, read_side, unread_side}

joined-append : (xs ys : List (List ℕ)) → joined (xs ++ ys) ≡ joined xs ++ joined ys
joined-append [] ys = refl
joined-append (x ∷ xs) ys = ap (λ (l : List ℕ). x ++ l) (joined-append xs ys) ∙ sym (append_assoc x (joined xs) (joined ys))

pub take_none : (n : ℕ) → take {A = ℕ} n [] ≡ []
take_none zero = refl
take_none (suc n) = refl

take_over : (n : ℕ) (a b : List ℕ) → take n (a ++ b) ≡ take n a ++ take (n - length a) b
take_over n [] b = ap (λ (k : ℕ). take k b) (let e : n ≡ n - 0 = omega arith in e) ∙ ap (λ (l : List ℕ). l ++ take (n - 0) b) (sym (take_none n))
take_over zero (x ∷ a) b = ap (λ (k : ℕ). take k b) (let e : 0 ≡ 0 - length (x ∷ a) = omega arith in e)
take_over (suc n) (x ∷ a) b =
    ap (λ (l : List ℕ). x ∷ l) (take_over n a b ∙ ap (λ (k : ℕ). take n a ++ take k b) (let e : n - length a ≡ suc n - length (x ∷ a) = omega arith in e))

-- one block more
pub bytes_more : (blocks : Blocks) (numbers : List ℕ) (size i : ℕ) (bytes more : List ℕ) → i < length numbers → bytes ≡ take size (joined (map blocks (take i numbers)))
    → more ≡ bytes ++ take (size - length bytes) (blocks (get_or numbers i 0)) → more ≡ take size (joined (map blocks (take (i + 1) numbers)))
bytes_more blocks numbers size i bytes more lt is added =
    let next : joined (map blocks (take (i + 1) numbers)) ≡ joined (map blocks (take i numbers)) ++ blocks (get_or numbers i 0) =
    ap (λ (k : ℕ). joined (map blocks (take k numbers))) (let e : i + 1 ≡ suc i = omega arith in e)
    ∙ ap (λ (l : List ℕ). joined (map blocks l)) (take-suc numbers i 0 lt)
    ∙ ap joined (map-append blocks (take i numbers) (get_or numbers i 0 ∷ []))
    ∙ joined-append (map blocks (take i numbers)) (blocks (get_or numbers i 0) ∷ [])
    ∙ ap (λ (l : List ℕ). joined (map blocks (take i numbers)) ++ l) (append-nil (blocks (get_or numbers i 0))) in
    let left : size - length bytes ≡ size - length (joined (map blocks (take i numbers))) =
    ap (λ (l : List ℕ). size - length l) is ∙ ap (λ (k : ℕ). size - k) (length-take size (joined (map blocks (take i numbers)))) ∙ less size (length (joined (map blocks (take i numbers)))) in
    added ∙ ap (λ (l : List ℕ). l ++ take (size - length bytes) (blocks (get_or numbers i 0))) is
    ∙ ap (λ (k : ℕ). take size (joined (map blocks (take i numbers))) ++ take k (blocks (get_or numbers i 0))) left
    ∙ sym (take_over size (joined (map blocks (take i numbers))) (blocks (get_or numbers i 0)))
    ∙ ap (take size) (sym next)
  where
    less : (a b : ℕ) → a - min a b ≡ a - b
    less a b = omega arith

-- the bytes of one more block
pub block_more : (bytes : List ℕ) (size n : ℕ) (told block : List ℕ) → length block ≡ 256 → told ≡ block → n ≡ size - length bytes → bytes ++ take (min n 256) block ≡ bytes ++ take (size - length bytes) told
block_more bytes size n told block long is left =
    ap (λ (k : ℕ). bytes ++ take (min n k) block) (sym long) ∙ ap (λ (l : List ℕ). bytes ++ l) (take_min n block)
    ∙ ap (λ (k : ℕ). bytes ++ take k block) left ∙ ap (λ (l : List ℕ). bytes ++ take (size - length bytes) l) (sym is)

-- WHAT A NAME TELLS
same_block : (a b : List ℕ) → (let o : Option (List ℕ) = Some a in o ≡ Some b) → a ≡ b
same_block a b is = cc (is)

none_some : (o : Option (List ℕ)) (x : List ℕ) → o ≡ None → o ≡ Some x → ⊥
none_some o x none some = let e : (let n : Option (List ℕ) = None in n ≡ Some x) = sym none ∙ some in absurd (cc (e))

is_some_from : (o : Option (List ℕ)) (x : List ℕ) → o ≡ Some x → IsSome o
is_some_from o x is = subst (λ (p : Option (List ℕ)). IsSome p) (sym is) refl

pub names_entry : (t : TableState) (name : ObjectName) (b : ℕ) (o : Option (List ℕ)) → position (has_name name) t.entries ≡ Some b → o ≡ entry_at t b → NamesEntry t name o
names_entry t name b None found is = inr (b, found, sym is)
names_entry t name b (Some block) found is = (b, found, sym is)

module _ (t : TableState) (card : CardState) (m : CardMap) (table : IsTableOf t card m) (sound : IsCard card) (name : ObjectName) where
  pub named_absent : NamesEntry t name None → bytes_at m name ≡ None
  named_absent (inl none) = bytes_absent t card m table sound name none
  named_absent (inr (b, found, none)) =
      let live = found_live t card m table name b found in
      absurd (none_some (entry_at t b) (blocks_of card b) none (entry_live t card m table b live.1 live.2))

  pub named_bytes : (block : List ℕ) → NamesEntry t name (Some block) → bytes_at m name ≡ Some (take (size_in block) (joined (map (blocks_of card) (numbers_in block))))
  named_bytes block (b, found, there) =
      let live = found_live t card m table name b found in
      let is : blocks_of card b ≡ block = same_block (blocks_of card b) block (sym (entry_live t card m table b live.1 live.2) ∙ there) in
      bytes_found t card m table sound name b found
      ∙ ap (λ (x : List ℕ). let o : Option (List ℕ) = Some (take (size_in x) (joined (map (blocks_of card) (numbers_in x)))) in o) is

  pub named_fault : (block : List ℕ) → NamesEntry t name (Some block) → (fault : CardFault) → IsOfReading fault → ReadAnswers m name (Err fault)
  named_fault block names (Device cause) reading = is_some_from (bytes_at m name) _ (named_bytes block names)
  named_fault block names NoMemory reading = is_some_from (bytes_at m name) _ (named_bytes block names)
  named_fault block names (TooLarge size) reading = absurd reading
  named_fault block names NotFound reading = absurd reading
  named_fault block names (Full need free) reading = absurd reading
  named_fault block names Spent reading = absurd reading
  named_fault block names (Bad at offset) reading = absurd reading

-- WHAT A GET LEAVES
failed_not_done : Failed ≡ Done → ⊥
failed_not_done is = absurd (cc (is))

some_not_none : (d : Option Doubt) → IsSome d → is_none d ≡ false
some_not_none None some = absurd (true≢false (sym some))
some_not_none (Some x) some = refl

module _ (old new : PortState) (key own : List ℕ) (draws after counter kept : ℕ) (t u : TableState) (was left : Option Doubt) (same : own ≡ key) (stays : new.card ≡ old.card) where
  -- What was not confirmed could not be found out.
  pub get_unread : (name : ObjectName) → u ≡ t → left ≡ was → IsSome was → Leaves (parts old key draws t was) (parts new own after u left) (Get name) Failed
  get_unread name table doubt some card has m is =
      call_stays (parts old key draws t was) (parts new own after u left) (Get name) Failed card m (moved_card old new key own card stays same has) is refl
      (inr (unread_side (names_in t.entries) (names_in u.entries) (is_none was) (is_none left) m (ap (λ (s : TableState). names_in s.entries) table) (ap (λ (d : Option Doubt). is_none d) doubt)
      (some_not_none was some)))
      (λ done. absurd (failed_not_done done))

  pub stays_store : IsStore old key counter t was → kept ≡ counter → u ≡ t → left ≡ was → IsStore new own kept u left
  stays_store store count table doubt card has =
      subst (λ (n : ℕ). Knows n u left card) (sym count)
      (subst (λ (s : TableState). Knows counter s left card) (sym table)
      (subst (λ (d : Option Doubt). Knows counter t d card) (sym doubt) (store card (moved_card new old own key card (sym stays) (sym same) has))))

  module _ (store : IsStore old key counter t was) (none : left ≡ None) (knows : (card : CardState) → HasCard old key card → Knows counter t was card → Knows kept u None card) where
    pub get_store : IsStore new own kept u left
    get_store card has =
        let before : HasCard old key card = moved_card new old own key card (sym stays) (sym same) has in
        subst (λ (d : Option Doubt). Knows kept u d card) (sym none) (knows card before (store card before))

    pub get_read : (name : ObjectName) (result : Result (List ℕ) CardFault) → Sound old → ((card : CardState) (m : CardMap) → HasCard old key card → IsTableOf u card m → ReadAnswers m name result)
        → Leaves (parts old key draws t was) (parts new own after u left) (Get name) (found_reply result)
    get_read name result sound answers card has m is =
        let known = knows card has (store card has) in
        let one : known.0.0 ≡ m = one_map card known.0.0 m known.0.1.map is in
        let table : IsTableOf u card m = subst (λ (n : CardMap). IsTableOf u card n) one known.0.1 in
        subst (λ (d : Option Doubt). CallLeaves (parts old key draws t was) (parts new own after u d) (Get name) (found_reply result) card m) (sym none)
        (call_stays (parts old key draws t was) (parts new own after u None) (Get name) (found_reply result) card m (moved_card old new key own card stays same has) is refl
        (get_answers (side m (names_in t.entries) (is_none was)) (side m (names_in u.entries) (is_none {T = Doubt} None)) card.counter name result (answers card m has table)
        (read_side (names_in t.entries) (is_none was) m u card table (sound_card old key card sound has)))
        (found_not_done result))
