-- Elements that are taken from a list's end, and come to another list as a function makes them: the last first.
use Rattle.std.proofs.Common.{◌≡◌, ◌∙◌, List, [], ◌∷◌, ◌++◌, length, map, reverse, sym, ap, append-nil, append_assoc}
use Rattle.std.proofs.lemmas.List.{map_push, nil_from_length, reverse-append}

module _ {X Y : Type 0} (f : X → Y) (all : List X) where
  -- what is left to take, and what came of the others
  pub record IsTurned (left : List X) (came : List Y) : Type 0 where
    pub is : map f left ++ reverse came ≡ map f all

  pub none_turned : (came : List Y) → length came ≡ 0 → IsTurned all came
  none_turned came none = record { is = ap (λ (l : List Y). map f all ++ reverse l) (nil_from_length came none) ∙ append-nil (map f all) }

  pub one_turned : (left rest : List X) (came more : List Y) (x : X) (y : Y) → IsTurned left came → left ≡ rest ++ x ∷ [] → y ≡ f x → more ≡ came ++ y ∷ [] → IsTurned rest more
  one_turned left rest came more x y t left_is made more_is = record {
    is =
        ap (λ (l : List Y). map f rest ++ reverse l) more_is
        ∙ ap (λ (l : List Y). map f rest ++ l) (reverse-append came (y ∷ []) ∙ ap (λ (z : Y). z ∷ reverse came) made)
        ∙ sym (append_assoc (map f rest) (f x ∷ []) (reverse came))
        ∙ ap (λ (l : List Y). l ++ reverse came) (sym (map_push f rest x) ∙ ap (map f) (sym left_is))
        ∙ t.is;
  }

  pub all_turned : (left : List X) (came : List Y) → IsTurned left came → length left ≡ 0 → reverse came ≡ map f all
  all_turned left came t none = sym (ap (λ (l : List X). map f l ++ reverse came) (nil_from_length left none)) ∙ t.is
