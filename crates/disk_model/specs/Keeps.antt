-- What a run of calls keeps, place by place.
use Rattle.std.specs.Prelude.{◌≡◌, ◌⊎◌, ℕ, ◌<◌, ◌≤◌, List, [], ◌∷◌, ◌++◌, length, false, IsTrue}
use Rattle.disk_model.specs.declared.span.Change.{Change}
use Rattle.disk_model.specs.Images.{Has, in_spans, sector, Every}
use Rattle.disk_model.specs.State.{FileState, Sound, spans_of, moment, LeftSince}
use Rattle.disk_model.specs.Calls.{Changes, Known, GoesOn, Rests, Syncs}
use Rattle.disk_model.specs.Masks.{ReadsMasked}

-- every place
abbrev pub Anywhere : ℕ → Type 0
Anywhere place = Unit {0}

-- the places below one and from another on
abbrev pub Outside : ℕ → ℕ → ℕ → Type 0
Outside from upto place = (place < from) ⊎ (upto ≤ place)

-- each place of the place's sector is kept, and has a byte
abbrev pub IsKeptWhole : (Kept : ℕ → Type 0) → List ℕ → ℕ → Type 0
IsKeptWhole Kept bytes place = (other : ℕ) → sector other ≡ sector place → Kept other × (other < length bytes)

-- the changes of a run, none of which meets a kept place that has a byte
pub record Grows (Kept : ℕ → Type 0) (old new : FileState) : Type 0 where
  pub more : List Change
  pub trail : new.trail ≡ old.trail ++ more
  pub misses : IsTrue new.honest → (place byte : ℕ) → Kept place → Has old.reads place byte → in_spans (spans_of more) place ≡ false

-- A write or a change of the length of the places from one up to another, whether it succeeds or fails: what lies outside is read as
-- before, and of a file that tells its arms, with armed masks over it. A write of nothing is one too.
pub record Writes (from upto : ℕ) (old new : FileState) : Type 0 where
  pub changes : Changes from upto old new
  pub others : Known old new → (place byte : ℕ) → Outside from upto place → Has old.reads place byte → Has new.reads place byte
  pub masked : IsTrue old.tells_arms → ReadsMasked (Outside from upto) old.arms old.reads new.reads

-- a call of a file: a write or a change of the length, a sync that succeeds, or a call that changes nothing
pub data FileCall : Type 0 where
  write : ℕ → ℕ → FileCall
  sync : FileCall
  rest : FileCall

abbrev pub IsCall : FileCall → FileState → FileState → Type 0
IsCall (write from upto) old new = Writes from upto old new
IsCall sync old new = Syncs old new
IsCall rest old new = Rests old new

-- the call writes at no kept place
abbrev pub CallOff : (Kept : ℕ → Type 0) → FileCall → Type 0
CallOff Kept (write from upto) = (place : ℕ) → Kept place → Outside from upto place
CallOff Kept sync = Unit {0}
CallOff Kept rest = Unit {0}

-- a list of calls, none of which writes at a kept place
abbrev pub IsFileRun : (Kept : ℕ → Type 0) → FileState → List FileCall → FileState → Type 0
IsFileRun Kept old [] new = new ≡ old
IsFileRun Kept old (call ∷ calls) new = (mid : FileState) × Sound old × IsCall call old mid × CallOff Kept call × IsFileRun Kept mid calls new

pub record Runs (Kept : ℕ → Type 0) (old new : FileState) : Type 0 where
  pub calls : List FileCall
  pub run : IsFileRun Kept old calls new

-- A run of calls keeps these places: no image of an earlier moment is forgotten, and in a sector that is kept whole the byte
-- that every image had at a place, every image has there still.
pub record Keeps (Kept : ℕ → Type 0) (old new : FileState) : Type 0 where
  pub goes_on : GoesOn old new
  pub later : moment old ≤ moment new
  pub past : (t : ℕ) (image : List ℕ) → t ≤ moment old → LeftSince old t image → LeftSince new t image
  pub places : IsTrue new.honest → (t place byte : ℕ) → t ≤ moment old → IsKeptWhole Kept old.reads place
      → Every (LeftSince old t) place byte → Every (LeftSince new t) place byte
  pub reads : Known old new → (place byte : ℕ) → Kept place → Has old.reads place byte → Has new.reads place byte
  pub grows : Grows Kept old new
  -- it is a list of calls
  pub run : Runs Kept old new
