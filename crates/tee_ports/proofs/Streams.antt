-- What follows of one call on bytes that are told, and of several in turn.
use Rattle.std.proofs.Common.{◌≡◌, ◌↔◌, ℕ, List, [], ◌++◌, Option, Some, None, IfSome, refl, ap, sym, ◌∙◌, append_assoc, append-nil}
use Rattle.std.specs.Io.KnownBytes.{IsAtEnd}
use Rattle.tee_ports.specs.Streams.{TakesFirst, Appends}

-- no bytes were taken
pub TakesFirst-none : (left : Option (List ℕ)) → TakesFirst left left []
TakesFirst-none None = refl
TakesFirst-none (Some bytes) = refl

-- some bytes were taken, and then others
pub TakesFirst-append : (old between new : Option (List ℕ)) (first second : List ℕ)
    → TakesFirst old between first → TakesFirst between new second → TakesFirst old new (first ++ second)
TakesFirst-append old between None first second h k = cc
TakesFirst-append old between (Some bytes) first second h k =
    let joined = append_assoc first second bytes in rw k at h ∙ ap Some (sym joined)

-- no bytes were put
pub Appends-none : (held : Option (List ℕ)) → Appends held held []
Appends-none None = refl
Appends-none (Some bytes) = ap Some (sym (append-nil bytes))

-- some bytes were put, and then others
pub Appends-append : (old between new : Option (List ℕ)) (first second : List ℕ)
    → Appends old between first → Appends between new second → Appends old new (first ++ second)
Appends-append None between new first second h k = cc
Appends-append (Some bytes) between new first second h k =
    rw h at k ∙ ap Some (append_assoc bytes first second)

-- a source that tells its bytes and has ended has none left
pub IsAtEnd-ended : (left : Option (List ℕ)) (Ended : Type 0)
    → ((bytes : List ℕ) → left ≡ Some bytes → (Ended ↔ (bytes ≡ []))) → Ended → IsAtEnd left
IsAtEnd-ended None Ended law ended = tt
IsAtEnd-ended (Some bytes) Ended law ended = (law bytes refl).0 ended

-- the bytes that were taken up to the end are all that there were
pub TakesFirst-whole : (old new : Option (List ℕ)) (bytes : List ℕ)
    → TakesFirst old new bytes → IsAtEnd new → IfSome old (λ all. all ≡ bytes)
TakesFirst-whole None new bytes taken at_end = tt
TakesFirst-whole (Some all) None bytes taken at_end = cc
TakesFirst-whole (Some all) (Some rest) bytes taken at_end =
    let joined : all ≡ bytes ++ rest = cc in joined ∙ rw (at_end, append-nil)
