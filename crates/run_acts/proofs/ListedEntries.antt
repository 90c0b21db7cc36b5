-- Entries past a name are fewer once one of them was taken.
use Rattle.std.proofs.Common.{◌≡◌, ◌∙◌, ◌+◌, ◌<◌, ◌≤◌, ℕ, zero, suc, Bool, true, false, cond, List, [], ◌∷◌, Option, Some, None, refl, sym, ap, arith, true≢false}
use Rattle.std.specs.Ordering.{is_lt}
use Rattle.std.specs.declared.cmp.Ordering.TheVariants.{Less, Equal, Greater}
use Rattle.store_model.specs.declared.name.ObjectName.{ObjectName}
use Rattle.store_model.specs.Name.{name_cmp}
use Rattle.store_model.proofs.Maps.{name_cmp_total}
use Rattle.dir_records.specs.declared.entry.DirEntry.{DirEntry}
use Rattle.crash_core.specs.Entries.{name_of}
use Rattle.crash_core.specs.EntryLists.{entry_at}
use Rattle.crash_core.proofs.EntryMaps.{self}
use Rattle.object_calls.specs.OpeningEntries.{is_past}

-- an entry whose name is above
abbrev pub is_entry_past : Option ObjectName → Option DirEntry → Bool
is_entry_past after None = false
is_entry_past after (Some e) = is_past after (name_of e)

-- how many of the entries have a name above
abbrev pub how_many_past : Option ObjectName → List (Option DirEntry) → ℕ
how_many_past after [] = 0
how_many_past after (entry ∷ entries) = cond (is_entry_past after entry) 1 0 + how_many_past after entries

pub is_less : (a b : ObjectName) → is_lt (name_cmp a b) ≡ true → name_cmp a b ≡ Less
is_less a b is = (elim (name_cmp a b) as (λ o. is_lt o ≡ true → o ≡ Less) [
  | Less ↦ λ h. refl
  | Equal ↦ λ h. absurd (true≢false (sym h))
  | Greater ↦ λ h. absurd (true≢false (sym h))
]) is

-- what is above a name that is past is past
pub past_then : (after : Option ObjectName) (a b : ObjectName) → is_past after a ≡ true → is_past (Some a) b ≡ true → is_past after b ≡ true
past_then None a b past above = refl
past_then (Some n) a b past above = ap is_lt (name_cmp_total.trans n a b (is_less n a past) (is_less a b above))

module _ (after : Option ObjectName) (e : DirEntry) (past : is_past after (name_of e) ≡ true) where
  abbrev later : Option ObjectName
  later = Some (name_of e)

  entry_then : (x : Option DirEntry) → is_entry_past later x ≡ true → is_entry_past after x ≡ true
  entry_then None is = is
  entry_then (Some f) is = past_then after (name_of e) (name_of f) past is

  counts_then : (a b : Bool) → (a ≡ true → b ≡ true) → cond a 1 0 ≤ cond b 1 0
  counts_then true true goes = omega arith
  counts_then true false goes = absurd (true≢false (sym (goes refl)))
  counts_then false true goes = omega arith
  counts_then false false goes = omega arith

  no_more : (entries : List (Option DirEntry)) → how_many_past later entries ≤ how_many_past after entries
  no_more [] = omega arith
  no_more (x ∷ entries) =
      let here = counts_then (is_entry_past later x) (is_entry_past after x) (entry_then x) in
      let rest = no_more entries in
      omega (arith, here, rest)

  -- the entry itself is not above its own name
  not_itself : is_entry_past later (Some e) ≡ false
  not_itself = ap is_lt (self (name_of e))

  pub fewer_past : (entries : List (Option DirEntry)) (index : ℕ) → entry_at entries index ≡ Some e → how_many_past later entries < how_many_past after entries
  fewer_past [] index at = absurd (cc (at))
  fewer_past (x ∷ entries) zero at =
      let there : ℕ = cond (is_entry_past after x) 1 0 in
      let is_there : there ≡ 1 = ap (λ (o : Option DirEntry). let n : ℕ = cond (is_entry_past after o) 1 0 in n) at ∙ ap (λ (b : Bool). let n : ℕ = cond b 1 0 in n) past in
      let gone : ℕ = cond (is_entry_past later x) 1 0 in
      let is_gone : gone ≡ 0 = ap (λ (o : Option DirEntry). let n : ℕ = cond (is_entry_past later o) 1 0 in n) at ∙ ap (λ (b : Bool). let n : ℕ = cond b 1 0 in n) not_itself in
      let rest = no_more entries in
      omega (arith, is_there, is_gone, rest)
  fewer_past (x ∷ entries) (suc index) at =
      let here = counts_then (is_entry_past later x) (is_entry_past after x) (entry_then x) in
      let rest = fewer_past entries index at in
      omega (arith, here, rest)
