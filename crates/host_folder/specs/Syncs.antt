-- The trail of a file of which only its syncs are known.
use Rattle.std.proofs.Common.{◌≡◌, ℕ, zero, suc, ◌+◌, ◌≤◌, List, [], ◌∷◌, ◌++◌, length, refl, sym, ap, length-append, arith}
use Rattle.disk_model.specs.declared.span.Change.{Change}
use Rattle.disk_model.specs.State.{base_at}

-- an entry for a sync
abbrev pub sync_at : ℕ → Change
sync_at n = record { span = record { at = 0; length = 0 }; base = n }

-- of so many syncs
abbrev pub syncs_of : ℕ → List Change
syncs_of zero = []
syncs_of (suc n) = syncs_of n ++ sync_at n ∷ []

pub length-syncs : (n : ℕ) → length (syncs_of n) ≡ n
length-syncs zero = refl
length-syncs (suc n) =
    let one = length-append (syncs_of n) (sync_at n ∷ []) in
    let rest = length-syncs n in
    omega (arith, one, rest)

-- each base of a list is below
abbrev HaveBases : ℕ → List Change → Type 0
HaveBases now [] = Unit {0}
HaveBases now (change ∷ trail) = (change.base ≤ now) × HaveBases now trail

base_below : (now : ℕ) (trail : List Change) → HaveBases now trail → (moment : ℕ) → base_at trail now moment ≤ now
base_below now [] bases moment = omega arith
base_below now (change ∷ trail) bases zero = bases.0
base_below now (change ∷ trail) bases (suc moment) = base_below now trail bases.1 moment

snoc_bases : (now : ℕ) (trail : List Change) (change : Change) → HaveBases now trail → change.base ≤ now → HaveBases now (trail ++ change ∷ [])
snoc_bases now [] change bases below = (below, tt)
snoc_bases now (first ∷ trail) change bases below = (bases.0, snoc_bases now trail change bases.1 below)

syncs_bases : (now n : ℕ) → n ≤ now → HaveBases now (syncs_of n)
syncs_bases now zero le = tt
syncs_bases now (suc n) le = snoc_bases now (syncs_of n) (sync_at n) (syncs_bases now n (omega (arith, le))) (omega (arith, le))

pub bases_below : (n moment : ℕ) → base_at (syncs_of n) n moment ≤ n
bases_below n moment = base_below n (syncs_of n) (syncs_bases n n (omega arith)) moment

pub one_more : (n m : ℕ) → m ≡ n + 1 → syncs_of m ≡ syncs_of n ++ sync_at n ∷ []
one_more n m is = let e : m ≡ suc n = omega (arith, is) in ap syncs_of e

pub length_more : (n m : ℕ) → m ≡ n + 1 → m ≡ length (syncs_of m)
length_more n m is = sym (length-syncs m)
