-- A table stays that of a card while its entries and their blocks do.
use Rattle.std.proofs.Common.{◌≡◌, ℕ, ◌&&◌, ◌||◌, Bool, true, false, cond, List, [], ◌∷◌, Some, None, Ok, refl, sym, ap, ◌∙◌, inl, inr, arith}
use Rattle.std.specs.Prelude.{nat_lt}
use Rattle.std.specs.List.{list_any, range_with_len}
use Rattle.std.proofs.lemmas.Bool.{cases_Bool, cond-false}
use Rattle.rpmb_card.specs.Card.{CardState}
use Rattle.card_maps.specs.Form.{data_blocks, number_at, size_in}
use Rattle.card_maps.specs.CardMaps.{CardMap, blocks_of, card_map, has_number}
use Rattle.card_maps.specs.CardWrites.{live_in}
use Rattle.card_maps.specs.TableStates.{TableState}
use Rattle.card_maps.specs.Tables.{IsTableOf}

any_alike : (p q : ℕ → Bool) (xs : List ℕ) → ((c : ℕ) → p c ≡ q c) → list_any p xs ≡ list_any q xs
any_alike p q [] same = refl
any_alike p q (x ∷ xs) same = λ i. same x i || any_alike p q xs same i

module _ (t : TableState) (card now : CardState) (m : CardMap) (table : IsTableOf t card m) (map : card_map now ≡ Ok m) (same : (c : ℕ) → live_in now c ≡ live_in card c)
    (stays : (c : ℕ) → live_in card c ≡ true → blocks_of now c ≡ blocks_of card c) where
  both_alike : (d c : ℕ) → (live_in card c && has_number (blocks_of card c) d) ≡ (live_in now c && has_number (blocks_of now c) d)
  both_alike d c = elim (cases_Bool (live_in card c)) [
    | inl on ↦
        ap (λ (x : Bool). x && has_number (blocks_of card c) d) (sym (same c))
        ∙ ap (λ (x : List ℕ). live_in now c && has_number x d) (sym (stays c on))
    | inr off ↦ ap (λ (x : Bool). x && has_number (blocks_of card c) d) off ∙ sym (ap (λ (x : Bool). x && has_number (blocks_of now c) d) (same c ∙ off))
  ]

  pub kept_table : IsTableOf t now m
  kept_table = record {
    map = map;
    long = table.long;
    entries = λ b lt. table.entries b lt ∙ ap (λ (x : Bool). cond x (Some (blocks_of card b)) None) (sym (same b)) ∙ same_block b;
    used = λ d lt.
        table.used d lt ∙ ap (λ (x : Bool). nat_lt d 2 || (x || list_any (λ c. live_in card c && has_number (blocks_of card c) d) (range_with_len 2 254))) (sym (same d))
        ∙ ap (λ (x : Bool). nat_lt d 2 || (live_in now d || x)) (any_alike (λ c. live_in card c && has_number (blocks_of card c) d) (λ c. live_in now c && has_number (blocks_of now c) d) (range_with_len 2 254) (both_alike d));
    bytes = λ b i on lt.
        let there : live_in card b ≡ true = sym (same b) ∙ on in
        let is : blocks_of now b ≡ blocks_of card b = stays b there in
        omega (arith, ap (λ (x : List ℕ). number_at x i) is, table.bytes b i there (omega (arith, lt, ap (λ (x : List ℕ). data_blocks (size_in x)) is)));
  }
    where
      same_block : (b : ℕ) → cond (live_in now b) (Some (blocks_of card b)) None ≡ cond (live_in now b) (Some (blocks_of now b)) None
      same_block b = elim (cases_Bool (live_in now b)) [
        | inl on ↦ ap (λ (x : List ℕ). cond (live_in now b) (Some x) None) (sym (stays b (sym (same b) ∙ on)))
        | inr off ↦ cond-false (live_in now b) (Some (blocks_of card b)) None off ∙ sym (cond-false (live_in now b) (Some (blocks_of now b)) None off)
      ]
