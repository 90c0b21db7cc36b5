-- The S-box as a circuit of 32 products and 83 sums, four of them negated: J. Boyar and R. Peralta, "A new
-- combinational logic minimization technique with applications to cryptology" (2010), with the wires' names
-- as there. A sum is negated by a further one with a wire of ones. The first wire in and out is bit 0.
use Rattle.std.specs.Prelude.{ℕ, List, [], ◌∷◌, ◌++◌, slice_index}
use Rattle.aes_block.specs.Circuit.{Gate, bits_layer}
use Rattle.aes_block.specs.Circuit.Gate.{Product, Sum}

-- the top linear part: x7 to x0 in (x7 is bit 0), y1 to y21 out
abbrev pub top_gates : List Gate
top_gates =
    Sum 4 2 ∷ Sum 8 2 ∷ Sum 9 6 ∷ Sum 10 5 ∷ Sum 10 9 ∷ Sum 0 5 ∷ Sum 0 10 ∷ Sum 5 6
    ∷ Sum 2 15 ∷ Sum 3 10 ∷ Sum 0 6 ∷ Sum 14 3 ∷ Sum 0 14 ∷ Sum 1 19 ∷ Sum 1 14 ∷ Sum 2 10
    ∷ Sum 2 13 ∷ Sum 17 0 ∷ Sum 2 1 ∷ Sum 3 15 ∷ Sum 15 3 ∷ Sum 19 0 ∷ Sum 29 1 ∷ []

abbrev pub top_outs : List ℕ
top_outs = 17 ∷ 14 ∷ 12 ∷ 16 ∷ 13 ∷ 8 ∷ 5 ∷ 19 ∷ 20 ∷ 7 ∷ 6 ∷ 15 ∷ 21 ∷ 22 ∷ 10 ∷ 2 ∷ 4 ∷ 0 ∷ 3 ∷ 9 ∷ 1 ∷ []

-- the middle part down to the field of 16: x7 and y1 to y21 in, t21 to t24 out
abbrev pub mid_gates : List Gate
mid_gates =
    Product 12 15 ∷ Product 4 7 ∷ Sum 0 1 ∷ Product 7 3 ∷ Sum 0 3 ∷ Product 18 21 ∷ Product 11 7 ∷ Sum 0 1
    ∷ Product 10 15 ∷ Sum 0 3 ∷ Product 19 21 ∷ Product 25 28 ∷ Sum 0 1 ∷ Product 21 23 ∷ Sum 0 3 ∷ Sum 12 2
    ∷ Sum 11 1 ∷ Sum 9 4 ∷ Sum 8 3 ∷ Sum 3 39 ∷ Sum 3 39 ∷ Sum 3 42 ∷ Sum 3 40 ∷ []

abbrev pub mid_outs : List ℕ
mid_outs = 3 ∷ 2 ∷ 1 ∷ 0 ∷ []

-- the inverse in the field of 16: t21 to t24 in, t29, t33, t37 and t40 to t45 out
abbrev pub inv_gates : List Gate
inv_gates =
    Sum 0 1 ∷ Product 1 3 ∷ Sum 5 0 ∷ Product 2 0 ∷ Sum 0 5 ∷ Sum 7 8 ∷ Sum 7 4 ∷ Product 0 1
    ∷ Sum 0 11 ∷ Sum 11 0 ∷ Sum 7 1 ∷ Product 14 0 ∷ Sum 0 2 ∷ Sum 10 1 ∷ Product 9 0 ∷ Sum 14 0
    ∷ Sum 0 3 ∷ Sum 12 8 ∷ Sum 13 2 ∷ Sum 10 6 ∷ Sum 2 3 ∷ []

abbrev pub inv_outs : List ℕ
inv_outs = 16 ∷ 12 ∷ 8 ∷ 5 ∷ 4 ∷ 3 ∷ 2 ∷ 1 ∷ 0 ∷ []

-- the last products: those nine, x7 and y1 to y21 in, z0 to z17 out
abbrev pub bot_gates : List Gate
bot_gates =
    Product 7 24 ∷ Product 3 16 ∷ Product 3 11 ∷ Product 9 28 ∷ Product 7 14 ∷ Product 5 21 ∷ Product 11 26 ∷ Product 15 33
    ∷ Product 12 27 ∷ Product 16 30 ∷ Product 12 22 ∷ Product 12 24 ∷ Product 18 34 ∷ Product 16 27 ∷ Product 14 25 ∷ Product 20 33
    ∷ Product 24 39 ∷ Product 21 34 ∷ []

abbrev pub bot_outs : List ℕ
bot_outs = 17 ∷ 16 ∷ 15 ∷ 14 ∷ 13 ∷ 12 ∷ 11 ∷ 10 ∷ 9 ∷ 8 ∷ 7 ∷ 6 ∷ 5 ∷ 4 ∷ 3 ∷ 2 ∷ 1 ∷ 0 ∷ []

-- the bottom linear part: a one and z0 to z17 in, s7 to s0 out (s7 is bit 0)
abbrev pub lin_gates : List Gate
lin_gates =
    Sum 16 17 ∷ Sum 12 13 ∷ Sum 8 16 ∷ Sum 13 14 ∷ Sum 7 17 ∷ Sum 8 11 ∷ Sum 14 15 ∷ Sum 8 11
    ∷ Sum 15 16 ∷ Sum 26 27 ∷ Sum 23 7 ∷ Sum 6 3 ∷ Sum 17 11 ∷ Sum 17 4 ∷ Sum 13 2 ∷ Sum 30 3
    ∷ Sum 9 3 ∷ Sum 13 4 ∷ Sum 23 4 ∷ Sum 3 2 ∷ Sum 22 2 ∷ Sum 7 3 ∷ Sum 11 5 ∷ Sum 0 23
    ∷ Sum 21 9 ∷ Sum 0 25 ∷ Sum 7 6 ∷ Sum 19 6 ∷ Sum 22 7 ∷ Sum 27 9 ∷ Sum 11 2 ∷ Sum 0 31
    ∷ Sum 22 5 ∷ Sum 0 33 ∷ []

abbrev pub lin_outs : List ℕ
lin_outs = 8 ∷ 10 ∷ 4 ∷ 5 ∷ 6 ∷ 0 ∷ 2 ∷ 12 ∷ []

-- the circuit on bits, from its third part on: t is what comes out of the second and third
abbrev pub from_inv : ℕ → List ℕ → List ℕ → List ℕ
from_inv x7 y t = bits_layer lin_gates lin_outs (1 ∷ bits_layer bot_gates bot_outs (t ++ x7 ∷ y))

-- from its second part on
abbrev pub from_top : ℕ → List ℕ → List ℕ
from_top x7 y = from_inv x7 y (bits_layer inv_gates inv_outs (bits_layer mid_gates mid_outs (x7 ∷ y)))

-- the whole circuit on eight bits
abbrev pub s_box_circuit : List ℕ → List ℕ
s_box_circuit x = from_top (slice_index x 0) (bits_layer top_gates top_outs x)

-- the inverse affine map: a one and bits 0 to 7 in, bits 0 to 7 out, of which 0 and 2 are negated
abbrev pub inv_affine_gates : List Gate
inv_affine_gates =
    Sum 1 4 ∷ Sum 4 7 ∷ Sum 7 10 ∷ Sum 10 5 ∷ Sum 2 12 ∷ Sum 0 5 ∷ Sum 5 13 ∷ Sum 4 9
    ∷ Sum 0 8 ∷ Sum 7 10 ∷ Sum 6 14 ∷ Sum 8 14 ∷ Sum 11 18 ∷ Sum 9 18 ∷ []

abbrev pub inv_affine_outs : List ℕ
inv_affine_outs = 8 ∷ 7 ∷ 5 ∷ 4 ∷ 3 ∷ 2 ∷ 1 ∷ 0 ∷ []
