-- What a call does to the bytes that a source or a sink tells: `Some` of the bytes that are still to come, or that
-- were put so far, and `None` where it tells nothing.
use Rattle.std.specs.Prelude.{◌≡◌, ℕ, List, Option, drop, OnSome}
use Rattle.std.specs.Io.KnownBytes.{prepend_known, append_known}

-- these bytes came first of those still to come, and the others are left
abbrev pub TakesFirst : Option (List ℕ) → Option (List ℕ) → List ℕ → Type 0
TakesFirst old new bytes = old ≡ prepend_known bytes new

-- these bytes stand behind those that were held before
abbrev pub Appends : Option (List ℕ) → Option (List ℕ) → List ℕ → Type 0
Appends old new bytes = new ≡ append_known old bytes

-- behind its first n places the buffer stays as it was, if the source tells its bytes
abbrev pub KeepsBehind : Option (List ℕ) → ℕ → List ℕ → List ℕ → Type 0
KeepsBehind told n old new = OnSome told (drop n new ≡ drop n old)
