-- Handles of other applications' sessions decide nothing of an application's names.
use Rattle.std.proofs.Common.{◌≡◌, ℕ, true, false, not, ◌&&◌, ◌||◌, List, [], ◌∷◌, map, refl, sym, ap, ◌∙◌}
use Rattle.std.specs.List.{list_any, list_all, AllByRecursion}
use Rattle.std.specs.Ordering.{is_eq}
use Rattle.std.specs.Cmp.Lexicographic.{pointwise}
use Rattle.std.specs.Prelude.{nat_eq}
use Rattle.std.proofs.lemmas.Map.Text.{is_eq-slice_cmp}
use Rattle.tee_types.specs.Identifier.{bytes_cmp}
use Rattle.tee_types.specs.Rights.{are_compatible}
use Rattle.tee_types.specs.declared.flags.Flags.{Flags}
use Rattle.store_model.specs.declared.session.Handle.{Handle}
use Rattle.store_model.specs.declared.name.ObjectName.{ObjectName}
use Rattle.store_model.specs.Name.{name_eq}
use Rattle.store_model.specs.Machine.{Session, new_session}
use Rattle.store_model.specs.Handles.{has_open, allows_open}
use Rattle.app_totals.specs.OwnHandles.{HasOwnHandles}
use Rattle.app_quota.specs.Parts.{is_session_of, session_part}

-- names of different applications are not equal
pub names_apart : (a b : ObjectName) → is_eq (bytes_cmp a.app b.app) ≡ false → name_eq a b ≡ false
names_apart a b h = ap (λ c. c && pointwise nat_eq a.id b.id) (sym (is_eq-slice_cmp a.app b.app) ∙ h)

-- no handle of another application's session is on an object of this one's
none_open : (name : ObjectName) (app : List ℕ) (handles : List (ℕ × Handle)) → is_eq (bytes_cmp name.app app) ≡ false → AllByRecursion (λ h. (h.1).name.app ≡ app) handles → list_any (λ h. name_eq name (h.1).name) handles ≡ false
none_open name app [] apart all = refl
none_open name app (h ∷ hs) apart all =
    ap (λ b. b || list_any (λ h. name_eq name (h.1).name) hs) (names_apart name (h.1).name (ap (λ a. is_eq (bytes_cmp name.app a)) all.0 ∙ apart))
    ∙ none_open name app hs apart all.1

all_allow : (name : ObjectName) (flags : Flags) (app : List ℕ) (handles : List (ℕ × Handle)) → is_eq (bytes_cmp name.app app) ≡ false → AllByRecursion (λ h. (h.1).name.app ≡ app) handles
    → list_all (λ h. not (name_eq name (h.1).name) || are_compatible flags (h.1).flags) handles ≡ true
all_allow name flags app [] apart all = refl
all_allow name flags app (h ∷ hs) apart all =
    ap (λ b. (not b || are_compatible flags (h.1).flags) && list_all (λ h. not (name_eq name (h.1).name) || are_compatible flags (h.1).flags) hs) (names_apart name (h.1).name (ap (λ a. is_eq (bytes_cmp name.app a)) all.0 ∙ apart))
    ∙ all_allow name flags app hs apart all.1

-- handles of other sessions than the application's decide nothing
pub any_open : (name : ObjectName) (sessions : List Session) → AllByRecursion HasOwnHandles sessions → list_any (has_open name) (map (session_part name.app) sessions) ≡ list_any (has_open name) sessions
any_open name [] all = refl
any_open name (x ∷ xs) all = (elim (is_session_of name.app x) as (λ b. is_session_of name.app x ≡ b → (has_open name (elim b [ true ↦ x | false ↦ new_session x.application ]) || list_any (has_open name) (map (session_part name.app) xs)) ≡ (has_open name x || list_any (has_open name) xs)) [
  | true ↦ λ h. ap (λ b. has_open name x || b) (any_open name xs all.1)
  | false ↦ λ h. any_open name xs all.1 ∙ sym (ap (λ b. b || list_any (has_open name) xs) (none_open name x.application x.handles h all.0))
]) refl

pub all_allows : (name : ObjectName) (flags : Flags) (sessions : List Session) → AllByRecursion HasOwnHandles sessions → list_all (allows_open name flags) (map (session_part name.app) sessions) ≡ list_all (allows_open name flags) sessions
all_allows name flags [] all = refl
all_allows name flags (x ∷ xs) all = (elim (is_session_of name.app x) as (λ b. is_session_of name.app x ≡ b → (allows_open name flags (elim b [ true ↦ x | false ↦ new_session x.application ]) && list_all (allows_open name flags) (map (session_part name.app) xs)) ≡ (allows_open name flags x && list_all (allows_open name flags) xs)) [
  | true ↦ λ h. ap (λ b. allows_open name flags x && b) (all_allows name flags xs all.1)
  | false ↦ λ h. all_allows name flags xs all.1 ∙ sym (ap (λ b. b && list_all (allows_open name flags) xs) (all_allow name flags x.application x.handles h all.0))
]) refl
