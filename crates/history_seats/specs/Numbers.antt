-- Lists of numbers, in which none stands twice.
use Rattle.std.specs.Prelude.{◌==◌, ℕ, Bool, true, not, ◌&&◌, if◌then◌else◌, List, [], ◌∷◌}
use Rattle.std.specs.List.{list_any}

-- the number is in the list
abbrev pub is_in : ℕ → List ℕ → Bool
is_in n numbers = list_any (λ m. m == n) numbers

-- no number is in the list twice
abbrev pub are_distinct : List ℕ → Bool
are_distinct [] = true
are_distinct (n ∷ numbers) = not (is_in n numbers) && are_distinct numbers

-- the list without the first such number
abbrev pub without : ℕ → List ℕ → List ℕ
without n [] = []
without n (m ∷ numbers) = if m == n then numbers else m ∷ without n numbers
