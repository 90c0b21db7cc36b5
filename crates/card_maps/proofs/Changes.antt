-- A table's entries and used blocks after a change.
use Rattle.std.proofs.Common.{◌≡◌, ◌≢◌, inl, inr, ℕ, ◌<◌, ◌≤◌, ◌==◌, ◌&&◌, not, Bool, true, false, cond, List, length, get_or, Option, Some, None, refl, sym, ap, ◌∙◌, true≢false}
use Rattle.std.specs.Prelude.{slice_set}
use Rattle.std.proofs.lemmas.Bool.{cases_Bool, cond-true, cond-false, eq-eqb, eqb-true}
use Rattle.std.proofs.lemmas.List.{get_or-set_other, get_or-set_same, length-set}
use Rattle.rpmb_card.specs.Card.{CardState}
use Rattle.card_maps.specs.CardMaps.{CardMap, blocks_of}
use Rattle.card_maps.specs.CardWrites.{live_in}
use Rattle.card_maps.specs.TableStates.{TableState}
use Rattle.card_maps.specs.Tables.{IsTableOf, entry_at, is_at, is_used_at, used_without, uses, uses_at, without}
use Rattle.card_maps.proofs.Finds.{entry_live}
use Rattle.card_maps.proofs.Ranges.{not_same}
use Rattle.card_maps.proofs.Users.{IsUser}

-- a block that only the entry uses which is taken out
abbrev pub gone_of : TableState → Option ℕ → ℕ → Bool
gone_of t None d = false
gone_of t (Some o) d = uses_at (entry_at t o) o d

and_on : (x : Bool) → x ≡ (x && not false)
and_on true = refl
and_on false = refl

pub without_used : (t : TableState) (old : Option ℕ) (d : ℕ) → used_without t old d ≡ (is_used_at t d && not (gone_of t old d))
without_used t None d = and_on (is_used_at t d)
without_used t (Some o) d = refl

pub without_long : (entries : List (Option (List ℕ))) (old : Option ℕ) → length (without entries old) ≡ length entries
without_long entries None = refl
without_long entries (Some o) = length-set entries o None

pub without_at : (entries : List (Option (List ℕ))) (old : Option ℕ) (b : ℕ) → b < length entries → get_or (without entries old) b None ≡ cond (is_at old b) None (get_or entries b None)
without_at entries None b lt = refl
without_at entries (Some o) b lt = elim (cases_Bool (b == o)) [
  | inl same ↦
      ap (λ (k : ℕ). get_or (slice_set entries k None) b None) (sym (eqb-true b o same)) ∙ get_or-set_same entries b None None lt
      ∙ sym (cond-true (b == o) None (get_or entries b None) same)
  | inr other ↦ get_or-set_other entries o b None None (not_same b o other) ∙ sym (cond-false (b == o) None (get_or entries b None) other)
]

-- an entry that is not taken out
pub left_of : (old live : Bool) (block : List ℕ) → cond old None (cond live (Some block) None) ≡ cond (live && not old) (Some block) None
left_of true true block = refl
left_of true false block = refl
left_of false true block = refl
left_of false false block = refl

module _ (t : TableState) (card : CardState) (m : CardMap) (table : IsTableOf t card m) (d : ℕ) where
  pub gone_old : (old : Option ℕ) → ((o : ℕ) → old ≡ Some o → (2 ≤ o) × (o < 256) × (live_in card o ≡ true)) → gone_of t old d ≡ true
      → (o : ℕ) × IsUser (blocks_of card) (live_in card) d o × (is_at old o ≡ true)
  gone_old None there is = absurd (true≢false (sym is))
  gone_old (Some o) there is =
      let place = there o refl in (
        o,
        record {
          low = place.0;
          high = place.1;
          on = place.2;
          with = sym (ap (λ (e : Option (List ℕ)). uses_at e o d) (entry_live t card m table o place.1 place.2)) ∙ is;
        },
        eq-eqb o o refl,
      )

  pub old_gone : (old : Option ℕ) (o : ℕ) → IsUser (blocks_of card) (live_in card) d o → is_at old o ≡ true → gone_of t old d ≡ true
  old_gone None o u is = absurd (true≢false (sym is))
  old_gone (Some p) o u is =
      ap (λ (k : ℕ). uses_at (entry_at t k) k d) (sym (eqb-true o p is))
      ∙ ap (λ (e : Option (List ℕ)). uses_at e o d) (entry_live t card m table o u.high u.on) ∙ u.with
