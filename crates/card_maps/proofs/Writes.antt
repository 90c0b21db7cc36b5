-- A write of a free block leaves the map.
use Rattle.std.proofs.Common.{◌≡◌, ◌≢◌, ℕ, ◌+◌, ◌<◌, ◌≤◌, true, false, List, Ok, sym, ap, ◌∙◌, true≢false, arith}
use Rattle.store_model.specs.Name.{name_eq}
use Rattle.card_maps.specs.Form.{is_live, map_fault, name_in, number_at}
use Rattle.card_maps.specs.CardMaps.{Blocks, CardMap, Live, has_number, map_of_blocks, object_in}
use Rattle.card_maps.specs.Puts.{FreeWritesKeepMaps, IsFree, with_block}
use Rattle.card_maps.proofs.Entries.{HoldMap, IsEntry, holds_map, map_holds}
use Rattle.card_maps.proofs.Lists.{moved_entry, objects_alike, same_object, written_off}

module _ (blocks : Blocks) (m : CardMap) (is : map_of_blocks blocks ≡ Ok m) (b : ℕ) (bytes : List ℕ) (free : IsFree blocks (is_live (blocks 1)) b) where
  abbrev other : Blocks
  other = with_block blocks b bytes

  abbrev live : Live
  live = is_live (blocks 1)

  held : HoldMap blocks m
  held = map_holds blocks m is

  one : other 1 ≡ blocks 1
  one = written_off blocks b 1 bytes (λ same. absurd (omega (arith, same, free.low)))

  alike : (c : ℕ) → is_live (other 1) c ≡ live c
  alike c = ap (λ (x : List ℕ). is_live x c) one

  stays : (c : ℕ) → live c ≡ true → other c ≡ blocks c
  stays c aye = written_off blocks b c bytes (λ same. true≢false (sym aye ∙ ap live same ∙ free.dead))

  entry : (c : ℕ) → 2 ≤ c → c < 256 → is_live (other 1) c ≡ true → IsEntry other (is_live (other 1)) c
  entry c ge lt aye =
      let e = held.entries c ge lt (sym (alike c) ∙ aye) in
      moved_entry blocks other live (is_live (other 1)) c e (stays c (sym (alike c) ∙ aye))
      (λ k low below there. ap (λ (x : List ℕ). name_eq (name_in x) (name_in (blocks c))) (stays k (sym (alike k) ∙ there)) ∙ e.single k low below (sym (alike k) ∙ there))
      (λ i within. alike (number_at (blocks c) i) ∙ (e.numbers i within).dead)
      (λ k low below there i within.
      ap (λ (x : List ℕ). has_number x (number_at (blocks c) i)) (stays k (sym (alike k) ∙ there)) ∙ (e.numbers i within).apart k low below (sym (alike k) ∙ there))

  object : (c : ℕ) → 2 ≤ c → c < 2 + 254 → live c ≡ true → object_in other c ≡ object_in blocks c
  object c ge lt aye = same_object blocks other c (stays c aye) (λ d has. written_off blocks b d bytes (λ same. true≢false (sym has ∙ ap (has_number (blocks c)) same ∙ free.unnamed c ge lt aye)))

  pub free_write : map_of_blocks (with_block blocks b bytes) ≡ Ok m
  free_write = holds_map other m (record {
    map = ap map_fault one ∙ held.map;
    entries = entry;
    is = objects_alike blocks other live (is_live (other 1)) 2 254 (λ c ge lt. alike c) object ∙ held.is;
  })

  -- another free block is free still
  pub free_stays : (d : ℕ) → IsFree blocks (is_live (blocks 1)) d → IsFree (with_block blocks b bytes) (is_live (with_block blocks b bytes 1)) d
  free_stays d other_free = record {
    low = other_free.low;
    high = other_free.high;
    dead = alike d ∙ other_free.dead;
    unnamed = λ c ge lt there.
        ap (λ (x : List ℕ). has_number x d) (stays c (sym (alike c) ∙ there)) ∙ other_free.unnamed c ge lt (sym (alike c) ∙ there);
  }

pub free_keeps : FreeWritesKeepMaps
free_keeps blocks m is b bytes free = free_write blocks m is b bytes free
