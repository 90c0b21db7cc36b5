-- Text on its way to a sink: some of it was put, and some is kept until there is more.
use Rattle.std.specs.Prelude.{ℕ, ◌≡◌, List, ◌++◌, Option}
use Rattle.tee_ports.specs.Streams.{Appends}
use Rattle.script_runner.specs.declared.status.Status.{Status}
use Rattle.script_runner.specs.declared.status.Status.TheVariants.{WriteFault, NoMemory}

-- the first list begins the second
abbrev pub Begins : List ℕ → List ℕ → Type 0
Begins front whole = (rest : List ℕ) × (whole ≡ front ++ rest)

-- The text went behind what was kept; what was put is a front of both, and the rest is kept.
abbrev pub Sends : Option (List ℕ) → Option (List ℕ) → List ℕ → List ℕ → List ℕ → Type 0
Sends held_old held_new kept_old kept_new text = (put : List ℕ) × Appends held_old held_new put × (kept_old ++ text ≡ put ++ kept_new)

-- what was put is a front of what was kept and the text
abbrev pub Stops : Option (List ℕ) → Option (List ℕ) → List ℕ → List ℕ → Type 0
Stops held_old held_new kept_old text = (put : List ℕ) × Appends held_old held_new put × Begins put (kept_old ++ text)

-- the sink failed or is full, or there is no memory
abbrev pub IsWriteError : Type 0 → Status → Type 0
IsWriteError fault WriteFault = fault
IsWriteError fault NoMemory = Unit {0}
IsWriteError fault _ = ⊥
