-- The entries of a slab: looked up by key, with one taken away, and with one put in.
use Rattle.std.proofs.Common.{◌≡◌, ◌≢◌, ◌==◌, ℕ, zero, suc, ◌+◌, ◌<◌, cond, List, [], ◌∷◌, get_or, set, Option, Some, None, refl, sym, ap, ◌∙◌, eq-eqb, arith, zero-add}
use Rattle.std.proofs.lemmas.Bool.{ne_eqb}
use Rattle.std.specs.Map.{lookup, remove_entry}
use Rattle.std.specs.BTreeMap.{insert_entry}
use Rattle.std.specs.Ordering.{nat_cmp}
use Rattle.std.specs.Cmp.{nat_cmp_is}
use Rattle.std.specs.declared.cmp.Ordering.TheVariants.{Less, Greater}
use Rattle.slab.specs.Slab.{Slab, get, entries, Updates, entries_from}

module _ {T : Type 0} where
  -- a key below the first slot's is no key of an entry
  lookup-entries_below : (first n : ℕ) (slots : List (Option T)) → n < first → lookup (λ m. m == n) (entries_from first slots) ≡ None
  lookup-entries_below first n [] below = refl
  lookup-entries_below first n (None ∷ rest) below = lookup-entries_below (first + 1) n rest (omega arith)
  lookup-entries_below first n (Some value ∷ rest) below =
      ap (λ b. cond b (Some value) (lookup (λ m. m == n) (entries_from (first + 1) rest))) (ne_eqb first n (omega arith))
      ∙ lookup-entries_below (first + 1) n rest (omega arith)

  remove_entry-entries_below : (first n : ℕ) (slots : List (Option T)) → n < first → remove_entry (λ m. m == n) (entries_from first slots) ≡ entries_from first slots
  remove_entry-entries_below first n [] below = refl
  remove_entry-entries_below first n (None ∷ rest) below = remove_entry-entries_below (first + 1) n rest (omega arith)
  remove_entry-entries_below first n (Some value ∷ rest) below =
      ap (λ b. cond b (entries_from (first + 1) rest) ((first, value) ∷ remove_entry (λ m. m == n) (entries_from (first + 1) rest))) (ne_eqb first n (omega arith))
      ∙ ap (λ es. (first, value) ∷ es) (remove_entry-entries_below (first + 1) n rest (omega arith))

  insert_entry-entries_below : (first n : ℕ) (slots : List (Option T)) (v : T) → n < first → insert_entry nat_cmp (entries_from first slots) n v ≡ (n, v) ∷ entries_from first slots
  insert_entry-entries_below first n [] v below = refl
  insert_entry-entries_below first n (None ∷ rest) v below = insert_entry-entries_below (first + 1) n rest v (omega arith)
  insert_entry-entries_below first n (Some value ∷ rest) v below = rw (sym (nat_cmp_is n first Less below)) refl

  -- the entry of a key is what its slot has
  lookup-entries_from : (first i : ℕ) (slots : List (Option T)) → lookup (λ m. m == first + i) (entries_from first slots) ≡ get_or slots i None
  lookup-entries_from first i [] = refl
  lookup-entries_from first zero (None ∷ rest) = lookup-entries_below (first + 1) (first + zero) rest (omega arith)
  lookup-entries_from first (suc i) (None ∷ rest) =
      let shift : first + suc i ≡ first + 1 + i = omega arith in
      rw shift (lookup-entries_from (first + 1) i rest)
  lookup-entries_from first zero (Some value ∷ rest) =
      ap (λ b. cond b (Some value) (lookup (λ m. m == first + zero) (entries_from (first + 1) rest))) (eq-eqb first (first + zero) (omega arith))
  lookup-entries_from first (suc i) (Some value ∷ rest) =
      let shift : first + suc i ≡ first + 1 + i = omega arith in
      ap (λ b. cond b (Some value) (lookup (λ m. m == first + suc i) (entries_from (first + 1) rest))) (ne_eqb first (first + suc i) (omega arith))
      ∙ ap (λ n. lookup (λ m. m == n) (entries_from (first + 1) rest)) shift
      ∙ lookup-entries_from (first + 1) i rest

  -- a slot that is emptied takes its entry away, and no other
  remove_entry-entries_from : (first i : ℕ) (slots : List (Option T)) → entries_from first (set slots i None) ≡ remove_entry (λ m. m == first + i) (entries_from first slots)
  remove_entry-entries_from first i [] = refl
  remove_entry-entries_from first zero (None ∷ rest) = sym (remove_entry-entries_below (first + 1) (first + zero) rest (omega arith))
  remove_entry-entries_from first (suc i) (None ∷ rest) =
      let shift : first + 1 + i ≡ first + suc i = omega arith in
      remove_entry-entries_from (first + 1) i rest ∙ ap (λ n. remove_entry (λ m. m == n) (entries_from (first + 1) rest)) shift
  remove_entry-entries_from first zero (Some value ∷ rest) =
      sym (ap (λ b. cond b (entries_from (first + 1) rest) ((first, value) ∷ remove_entry (λ m. m == first + zero) (entries_from (first + 1) rest))) (eq-eqb first (first + zero) (omega arith)))
  remove_entry-entries_from first (suc i) (Some value ∷ rest) =
      let shift : first + 1 + i ≡ first + suc i = omega arith in
      ap (λ es. (first, value) ∷ es) (remove_entry-entries_from (first + 1) i rest)
      ∙ ap (λ n. (first, value) ∷ remove_entry (λ m. m == n) (entries_from (first + 1) rest)) shift
      ∙ sym (ap (λ b. cond b (entries_from (first + 1) rest) ((first, value) ∷ remove_entry (λ m. m == first + suc i) (entries_from (first + 1) rest))) (ne_eqb first (first + suc i) (omega arith)))

  -- slots without a value have no entries
  entries-empty : (first : ℕ) (slots : List (Option T)) → ((j : ℕ) → get_or slots j None ≡ None) → entries_from first slots ≡ []
  entries-empty first [] none = refl
  entries-empty first (None ∷ rest) none = entries-empty (first + 1) rest (λ j. none (suc j))
  entries-empty first (Some value ∷ rest) none = let h : Some value ≡ None = none zero in absurd (cc)

  entries-same : (first : ℕ) (old new : List (Option T)) → ((j : ℕ) → get_or new j None ≡ get_or old j None) → entries_from first new ≡ entries_from first old
  entries-same first [] new same = entries-empty first new same
  entries-same first (x ∷ old) [] same = sym (entries-empty first (x ∷ old) (λ j. sym (same j)))
  entries-same first (None ∷ old) (None ∷ new) same = entries-same (first + 1) old new (λ j. same (suc j))
  entries-same first (None ∷ old) (Some w ∷ new) same = let h : Some w ≡ None = same zero in absurd (cc)
  entries-same first (Some v ∷ old) (None ∷ new) same = let h : None ≡ Some v = same zero in absurd (cc)
  entries-same first (Some v ∷ old) (Some w ∷ new) same =
      let h : Some w ≡ Some v = same zero in
      let e : w ≡ v = cc in
      ap (λ x. (first, x) ∷ entries_from (first + 1) new) e ∙ ap (λ es. (first, v) ∷ es) (entries-same (first + 1) old new (λ j. same (suc j)))

  -- a slot that was empty is filled, and every other slot has what it had
  record Fills (old new : List (Option T)) (i : ℕ) (v : T) : Type 0 where
    was : get_or old i None ≡ None
    filled : get_or new i None ≡ Some v
    others : (j : ℕ) → j ≢ i → get_or new j None ≡ get_or old j None

  Fills-rest : (x y : Option T) (old new : List (Option T)) (i : ℕ) (v : T) → Fills (x ∷ old) (y ∷ new) (suc i) v → Fills old new i v
  Fills-rest x y old new i v fills = record {
    was = fills.was;
    filled = fills.filled;
    others = λ j differs. fills.others (suc j) (omega arith);
  }

  Fills-rest_empty : (y : Option T) (new : List (Option T)) (i : ℕ) (v : T) → Fills [] (y ∷ new) (suc i) v → Fills [] new i v
  Fills-rest_empty y new i v fills = record {
    was = refl;
    filled = fills.filled;
    others = λ j differs. fills.others (suc j) (omega arith);
  }

  -- and then the value has its place among the entries
  insert_entry-entries_from : (first i : ℕ) (old new : List (Option T)) (v : T) → Fills old new i v → entries_from first new ≡ insert_entry nat_cmp (entries_from first old) (first + i) v
  insert_entry-entries_from first i old [] v fills = let h : None ≡ Some v = fills.filled in absurd (cc)
  insert_entry-entries_from first zero [] (None ∷ new) v fills = let h : None ≡ Some v = fills.filled in absurd (cc)
  insert_entry-entries_from first zero [] (Some w ∷ new) v fills =
      let h : Some w ≡ Some v = fills.filled in
      let e : w ≡ v = cc in
      let at : first ≡ first + zero = omega arith in
      ap (λ es. (first, w) ∷ es) (entries-empty (first + 1) new (λ j. fills.others (suc j) (omega arith)))
      ∙ ap (λ x. (first, x) ∷ []) e
      ∙ ap (λ n. (n, v) ∷ []) at
  insert_entry-entries_from first (suc i) [] (None ∷ new) v fills =
      let shift : first + 1 + i ≡ first + suc i = omega arith in
      insert_entry-entries_from (first + 1) i [] new v (Fills-rest_empty None new i v fills) ∙ ap (λ n. (n, v) ∷ []) shift
  insert_entry-entries_from first (suc i) [] (Some w ∷ new) v fills =
      let h : Some w ≡ None = fills.others zero (omega arith) in absurd (cc)
  insert_entry-entries_from first zero (Some x ∷ old) (y ∷ new) v fills = let h : Some x ≡ None = fills.was in absurd (cc)
  insert_entry-entries_from first zero (None ∷ old) (None ∷ new) v fills = let h : None ≡ Some v = fills.filled in absurd (cc)
  insert_entry-entries_from first zero (None ∷ old) (Some w ∷ new) v fills =
      let h : Some w ≡ Some v = fills.filled in
      let e : w ≡ v = cc in
      let at : first ≡ first + zero = omega arith in
      ap (λ es. (first, w) ∷ es) (entries-same (first + 1) old new (λ j. fills.others (suc j) (omega arith)))
      ∙ ap (λ x. (first, x) ∷ entries_from (first + 1) old) e
      ∙ ap (λ n. (n, v) ∷ entries_from (first + 1) old) at
      ∙ sym (insert_entry-entries_below (first + 1) (first + zero) old v (omega arith))
  insert_entry-entries_from first (suc i) (None ∷ old) (None ∷ new) v fills =
      let shift : first + 1 + i ≡ first + suc i = omega arith in
      insert_entry-entries_from (first + 1) i old new v (Fills-rest None None old new i v fills)
      ∙ ap (λ n. insert_entry nat_cmp (entries_from (first + 1) old) n v) shift
  insert_entry-entries_from first (suc i) (None ∷ old) (Some w ∷ new) v fills =
      let h : Some w ≡ None = fills.others zero (omega arith) in absurd (cc)
  insert_entry-entries_from first (suc i) (Some x ∷ old) (None ∷ new) v fills =
      let h : None ≡ Some x = fills.others zero (omega arith) in absurd (cc)
  insert_entry-entries_from first (suc i) (Some x ∷ old) (Some w ∷ new) v fills =
      let h : Some w ≡ Some x = fills.others zero (omega arith) in
      let e : w ≡ x = cc in
      let shift : first + 1 + i ≡ first + suc i = omega arith in
      ap (λ u. (first, u) ∷ entries_from (first + 1) new) e
      ∙ ap (λ es. (first, x) ∷ es) (insert_entry-entries_from (first + 1) i old new v (Fills-rest (Some x) (Some w) old new i v fills))
      ∙ ap (λ n. (first, x) ∷ insert_entry nat_cmp (entries_from (first + 1) old) n v) shift
      ∙ rw (sym (nat_cmp_is (first + suc i) first Greater (omega arith))) refl

  -- the same of a whole slab
  pub lookup-entries : (s : Slab T) (key : ℕ) → lookup (λ m. m == key) (entries s) ≡ get s key
  lookup-entries s key =
      ap (λ n. lookup (λ m. m == n) (entries s)) (sym (zero-add key)) ∙ lookup-entries_from 0 key s.slots

  pub remove_entry-entries : (old new : Slab T) (key : ℕ) → new.slots ≡ set old.slots key None → entries new ≡ remove_entry (λ m. m == key) (entries old)
  remove_entry-entries old new key emptied =
      ap (λ slots. entries_from 0 slots) emptied
      ∙ remove_entry-entries_from 0 key old.slots
      ∙ ap (λ n. remove_entry (λ m. m == n) (entries old)) (zero-add key)

  pub insert_entry-entries : (old new : Slab T) (key : ℕ) (v : T) → get old key ≡ None → Updates old new key (Some v) → entries new ≡ insert_entry nat_cmp (entries old) key v
  insert_entry-entries old new key v was updates =
      insert_entry-entries_from 0 key old.slots new.slots v (record { was = was; filled = updates.changed; others = updates.others })
      ∙ ap (λ n. insert_entry nat_cmp (entries old) n v) (zero-add key)
