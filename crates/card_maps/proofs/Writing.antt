-- The block of an entry, written field by field.
use Rattle.std.proofs.Common.{◌≡◌, ℕ, zero, ◌+◌, ◌-◌, ◌≤◌, List, [], ◌∷◌, ◌++◌, length, drop, replicate, refl, sym, ap, ◌∙◌, append_assoc, length-append, arith}
use Rattle.std.specs.Int.{w16, to_be_bytes}
use Rattle.std.proofs.lemmas.List.{drop_at, length-replicate, replicate-append-replicate, take_at}
use Rattle.byte_fields.specs.Field.{with_field}
use Rattle.store_model.specs.declared.name.ObjectName.{ObjectName}
use Rattle.card_maps.specs.Puts.{entry_block}

-- a field that is put over as many bytes
field_over : (front hole rest f : List ℕ) (n : ℕ) → length front ≡ n → length hole ≡ length f → with_field n f (front ++ (hole ++ rest)) ≡ front ++ (f ++ rest)
field_over front hole rest f n at long =
    let behind : drop (n + length f) (front ++ (hole ++ rest)) ≡ rest =
    ap (drop (n + length f)) (sym (append_assoc front hole rest))
    ∙ drop_at (front ++ hole) rest (n + length f) (length-append front hole ∙ omega (arith, at, long)) in
    ap (λ (l : List ℕ). l ++ (f ++ drop (n + length f) (front ++ (hole ++ rest)))) (take_at front (hole ++ rest) n at)
    ∙ ap (λ (l : List ℕ). front ++ (f ++ l)) behind

-- so many zero bytes are two rows of them
cut : (k m n : ℕ) → k + m ≡ n → replicate {A = ℕ} n 0 ≡ replicate k 0 ++ replicate m 0
cut k m n all = sym (replicate-append-replicate k m 0 ∙ ap (λ (j : ℕ). replicate j 0) all)

module _ (name : ObjectName) (size : ℕ) (numbers : List ℕ) (app : length name.app ≡ 16) (short : length name.id ≤ 64) (few : length numbers ≤ 172)
    (two : length (to_be_bytes w16 size) ≡ 2) where
  abbrev len : ℕ
  len = length name.id

  abbrev pads : List ℕ
  pads = replicate (64 - length name.id) 0

  abbrev head : List ℕ
  head = length name.id ∷ 0 ∷ []

  abbrev sized : List ℕ
  sized = to_be_bytes w16 size

  first : with_field 0 name.app (replicate 256 0) ≡ name.app ++ replicate 240 0
  first = ap (with_field 0 name.app) (cut 16 240 256 refl) ∙ field_over [] (replicate 16 0) (replicate 240 0) name.app 0 refl (length-replicate {A = ℕ} 16 0 ∙ sym app)

  second : with_field 16 name.id (name.app ++ replicate 240 0) ≡ name.app ++ (name.id ++ (pads ++ replicate 176 0))
  second =
      ap (λ (l : List ℕ). with_field 16 name.id (name.app ++ l)) (cut (length name.id) (240 - length name.id) 240 (omega (arith, short)))
      ∙ field_over name.app (replicate (length name.id) 0) (replicate (240 - length name.id) 0) name.id 16 app (length-replicate {A = ℕ} (length name.id) 0)
      ∙ ap (λ (l : List ℕ). name.app ++ (name.id ++ l)) (cut (64 - length name.id) 176 (240 - length name.id) (omega (arith, short)))

  -- up to the length
  abbrev front : List ℕ
  front = name.app ++ (name.id ++ pads)

  front_long : length front ≡ 80
  front_long = omega (arith, length-append name.app (name.id ++ pads), length-append name.id pads, length-replicate {A = ℕ} (64 - length name.id) 0, app, short)

  joined_up : (rest : List ℕ) → name.app ++ (name.id ++ (pads ++ rest)) ≡ front ++ rest
  joined_up rest = sym (append_assoc name.app (name.id ++ pads) rest ∙ ap (λ (l : List ℕ). name.app ++ l) (append_assoc name.id pads rest))

  third : with_field 80 head (name.app ++ (name.id ++ (pads ++ replicate 176 0))) ≡ front ++ (head ++ replicate 174 0)
  third =
      ap (with_field 80 head) (joined_up (replicate 176 0) ∙ ap (λ (l : List ℕ). front ++ l) (cut 2 174 176 refl))
      ∙ field_over front (replicate 2 0) (replicate 174 0) head 80 front_long refl

  fourth : with_field 82 sized (front ++ (head ++ replicate 174 0)) ≡ front ++ (head ++ (sized ++ replicate 172 0))
  fourth =
      ap (with_field 82 sized) (sym (append_assoc front head (replicate 174 0)) ∙ ap (λ (l : List ℕ). (front ++ head) ++ l) (cut 2 172 174 refl))
      ∙ field_over (front ++ head) (replicate 2 0) (replicate 172 0) sized 82 (length-append front head ∙ omega (arith, front_long)) (sym two)
      ∙ append_assoc front head (sized ++ replicate 172 0)

  fifth : with_field 84 numbers (front ++ (head ++ (sized ++ replicate 172 0))) ≡ front ++ (head ++ (sized ++ (numbers ++ replicate (172 - length numbers) 0)))
  fifth =
      let regroup : (l : List ℕ) → front ++ (head ++ (sized ++ l)) ≡ (front ++ (head ++ sized)) ++ l =
      (λ l. ap (λ (r : List ℕ). front ++ r) (sym (append_assoc head sized l)) ∙ sym (append_assoc front (head ++ sized) l)) in
      let long : length (front ++ (head ++ sized)) ≡ 84 = length-append front (head ++ sized) ∙ omega (arith, front_long, length-append head sized, two) in
      ap (with_field 84 numbers) (regroup (replicate 172 0) ∙ ap (λ (l : List ℕ). (front ++ (head ++ sized)) ++ l) (cut (length numbers) (172 - length numbers) 172 (omega (arith, few))))
      ∙ field_over (front ++ (head ++ sized)) (replicate (length numbers) 0) (replicate (172 - length numbers) 0) numbers 84 long (length-replicate {A = ℕ} (length numbers) 0)
      ∙ sym (regroup (numbers ++ replicate (172 - length numbers) 0))

  pub entry_written :
      with_field 84 numbers (with_field 82 sized (with_field 80 head (with_field 16 name.id (with_field 0 name.app (replicate 256 0))))) ≡ entry_block name size numbers
  entry_written =
      ap (λ (l : List ℕ). with_field 84 numbers (with_field 82 sized (with_field 80 head (with_field 16 name.id l)))) first
      ∙ ap (λ (l : List ℕ). with_field 84 numbers (with_field 82 sized (with_field 80 head l))) second
      ∙ ap (λ (l : List ℕ). with_field 84 numbers (with_field 82 sized l)) third
      ∙ ap (λ (l : List ℕ). with_field 84 numbers l) fourth
      ∙ fifth
      ∙ sym (joined_up (head ++ (sized ++ (numbers ++ replicate (172 - length numbers) 0))))
