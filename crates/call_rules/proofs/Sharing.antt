-- Compatible rights: in either order, and never with a handle that may rename.
use Rattle.std.proofs.Common.{◌≡◌, Bool, true, false, not, ◌&&◌, ◌||◌, refl, ap}
use Rattle.tee_types.specs.declared.flags.Flags.{Flags}
use Rattle.tee_types.specs.Rights.{has, are_compatible, read_bit, write_bit, write_meta_bit, share_read_bit, share_write_bit}

or-turned : (a b : Bool) → (a || b) ≡ (b || a)
or-turned true true = refl
or-turned true false = refl
or-turned false true = refl
or-turned false false = refl

and-turned : (a b : Bool) → (a && b) ≡ (b && a)
and-turned true true = refl
and-turned true false = refl
and-turned false true = refl
and-turned false false = refl

pub are_compatible-turned : (a b : Flags) → are_compatible a b ≡ are_compatible b a
are_compatible-turned a b = λ i.
    not (or-turned (has a write_meta_bit) (has b write_meta_bit) i)
    && (not (or-turned (has a read_bit) (has b read_bit) i) || and-turned (has a share_read_bit) (has b share_read_bit) i)
    && (not (or-turned (has a write_bit) (has b write_bit) i) || and-turned (has a share_write_bit) (has b share_write_bit) i)

pub are_compatible-alone : (a b : Flags) → has a write_meta_bit ≡ true → are_compatible a b ≡ false
are_compatible-alone a b alone = ap
    (λ (m : Bool). not (m || has b write_meta_bit) && (not (has a read_bit || has b read_bit) || (has a share_read_bit && has b share_read_bit))
    && (not (has a write_bit || has b write_bit) || (has a share_write_bit && has b share_write_bit))) alone
