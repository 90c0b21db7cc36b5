-- A part that is written stands, and what stands elsewhere stays.
use Rattle.std.proofs.Common.{◌≡◌, inl, inr, ⊎_elim, ℕ, ◌+◌, ◌-◌, ◌<◌, ◌≤◌, List, length, get_or, refl, sym, ◌∙◌, arith}
use Rattle.disk_model.specs.Images.{Has}
use Rattle.disk_model.specs.State.{FileState}
use Rattle.disk_model.specs.Calls.{Known}
use Rattle.disk_model.specs.Keeps.{Keeps, Outside}
use Rattle.node_image.specs.Parts.{In, Layout, Off, Part, size, start}
use Rattle.node_image.specs.Selection.{bytes_at}
use Rattle.node_image.proofs.ImageBytes.{bytes_same}
use Rattle.htree_file.specs.Staging.{WritesAtMost}
use Rattle.htree_file.specs.Standing.{Stands}
use Rattle.htree_file.proofs.Writings.{writes_within}

pub put_writes : (layout : Layout) (q : Part) (at wide : ℕ) (old new : FileState) → at ≡ start layout q → wide ≡ size q → WritesAtMost (Outside at (at + wide)) wide old new → WritesAtMost (Off layout q) (size q) old new
put_writes layout q at wide old new begin long writes =
    writes_within (Outside at (at + wide)) (Off layout q) wide (size q) old new (omega (arith, long)) (λ p off. ⊎_elim (λ low. inl (omega (arith, low, begin))) (λ high. inr (omega (arith, high, begin, long))) off) writes

pub put_stands : (layout : Layout) (q : Part) (at wide : ℕ) (bytes file : List ℕ) → at ≡ start layout q → wide ≡ size q → at + wide ≤ length file → bytes_at file at wide ≡ bytes → Stands layout file q bytes
put_stands layout q at wide bytes file begin long fits is = record {
  fits = omega (arith, fits, begin, long);
  is = (λ i. bytes_at file (sym begin i) (sym long i)) ∙ is;
}

-- what stands off all that changed stays
pub stands_kept : (layout : Layout) (K : ℕ → Type 0) (a b : FileState) (q : Part) (bytes : List ℕ) → 1 ≤ size q → Keeps K a b → Known a b → ((p : ℕ) → In layout q p → K p) → Stands layout a.reads q bytes → Stands layout b.reads q bytes
stands_kept layout K a b q bytes some keeps known at stands =
    let each : (j : ℕ) → j < size q → Has b.reads (start layout q + j) (get_or a.reads (start layout q + j) 0) =
    λ j lt. keeps.reads known (start layout q + j) (get_or a.reads (start layout q + j) 0) (at (start layout q + j) (record { from = omega arith; upto = omega (arith, lt) })) (record { below = omega (arith, lt, stands.fits); is = refl }) in
    record {
      fits = omega (arith, some, (each (size q - 1) (omega (arith, some))).below);
      is = bytes_same b.reads a.reads (start layout q) (size q) (λ j lt. (each j lt).is) ∙ stands.is;
    }
