-- The parts of a tree's file: head, nodes and blocks, each in two versions.
use Rattle.std.specs.Prelude.{◌⊎◌, ℕ, ◌+◌, ◌-◌, ◌*◌, ◌<◌, ◌≤◌, ◌==◌, cond}

-- each with its number, where it has one, and its version
pub data Part : Type 0 where
  head : ℕ → Part
  node : ℕ → ℕ → Part
  block : ℕ → ℕ → Part

-- How the parts stand in a file: one close behind another, in format 1, or each in sectors of its own, in format 2.
pub data Layout : Type 0 where
  tight : Layout
  aligned : Layout

abbrev pub layout_of : (format : ℕ) → Layout
layout_of format = cond (format == 1) tight aligned

-- where the part begins
abbrev pub start : Layout → Part → ℕ
start tight (head v) = 64 * v
start tight (node n v) = 4096 + 66 * (2 * (n - 1) + v)
start tight (block k v) = 40960 + 4096 * (2 * k + v)
start aligned (head v) = 512 * v
start aligned (node n v) = 1024 + 512 * (2 * (n - 1) + v)
start aligned (block k v) = 266240 + 4096 * (2 * k + v)

-- how many bytes it has
abbrev pub size : Part → ℕ
size (head v) = 32
size (node n v) = 66
size (block k v) = 4096

-- the part is one of a tree: nodes are numbered from 1 to 256, blocks from 0 to 255, versions are 0 and 1
abbrev pub IsPart : Part → Type 0
IsPart (head v) = v < 2
IsPart (node n v) = (1 ≤ n) × (n ≤ 256) × (v < 2)
IsPart (block k v) = (k < 256) × (v < 2)

-- the place lies in the part
pub record In (layout : Layout) (q : Part) (p : ℕ) : Type 0 where
  pub from : start layout q ≤ p
  pub upto : p < start layout q + size q

-- the place lies outside the part
abbrev pub Off : Layout → Part → ℕ → Type 0
Off layout q p = (p < start layout q) ⊎ (start layout q + size q ≤ p)

-- where the last node ends, of 256 in two versions
abbrev pub nodes_end : Layout → ℕ
nodes_end tight = 37888
nodes_end aligned = 263168
