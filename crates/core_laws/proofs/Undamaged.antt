-- Where nothing of a version is damaged, the promises end only at a clash.
use Rattle.std.proofs.Common.{◌≡◌, ◌+◌, ◌*◌, ◌==◌, ◌||◌, ◌<◌, ℕ, zero, suc, Bool, true, false, true≢false, cond, List, [], length, take, Option, Some, None, refl, sym, ap, ◌∙◌, subst, inl, inr, arith}
use Rattle.std.specs.List.{list_any}
use Rattle.std.specs.Prelude.{nat_eq}
use Rattle.std.proofs.lemmas.Bool.{cases_Bool, eq-eqb, eqb-true}
use Rattle.tee_types.specs.declared.call.Call.{Call}
use Rattle.tee_types.specs.declared.call.Call.TheVariants.{Read, Truncate, Write}
use Rattle.node_image.proofs.Matching.{length-row, row_at}
use Rattle.htree_file.specs.Opening.{IsVerified}
use Rattle.htree_file.specs.Pages.{Opened}
use Rattle.htree_file.proofs.Sizes.{sized_greatest}
use Rattle.node_image.specs.Layout.{greatest_of}
use Rattle.page_bytes.specs.Pages.{page_at}
use Rattle.store_model.specs.Object.{Contents, Damaged, Object, Sound}
use Rattle.hmac_keys.specs.declared.Keys.{Keys}
use Rattle.crash_core.specs.MountedObject.{bad_blocks, contents_of, object_of, object_with}
use Rattle.crash_core.proofs.BadBlocks.{list_any-bad-true}
use Rattle.history_seats.specs.Records.{HistoryRecord, Version}
use Rattle.core_laws.specs.Decodings.{IsReal, Decoding, object_decoded, opened_decoded, page_decoded, pages_decoded}
use Rattle.core_laws.specs.TamperScenarios.{TamperScenario, object_under, under}
use Rattle.core_laws.specs.Clashes.{Clash}
use Rattle.core_laws.specs.Stores.{Store}
use Rattle.core_laws.specs.Given.{is_asked, is_data_asked, decoding_given}
use Rattle.core_laws.specs.Shown.{IsEndAt, IsGivenAt, Lacks, Strays, asked_of, stands_for}
use Rattle.core_laws.specs.EndLaws.{IsEndByClash, given_at}
use Rattle.core_laws.specs.Undamaged.{IsUndamaged}
use Rattle.core_laws.proofs.Mending.{none_some}
use Rattle.core_laws.proofs.ReplayState.{verified_under}

sound_same : (c d : Contents) → Sound c ≡ Sound d → c ≡ d
sound_same c d e = cc

pub damaged_sound : (size : ℕ) (c : Contents) → Damaged size ≡ Sound c → ⊥
damaged_sound size c e = cc

-- an object that is sound has the length that its size wants, and its first page
pub record IsSoundOf (size attributes : ℕ) (opened : Opened) (c : Contents) : Type 0 where
  pub long : opened.bytes ≡ 4096 + size
  pub page : List ℕ
  pub first : page_at opened.pages 0 ≡ Some page
  pub bad : c.bad ≡ bad_blocks opened.pages
  pub attributes_are : c.attributes ≡ take attributes page

pub sound_of : (size attributes : ℕ) (opened : Opened) (c : Contents) → object_of size attributes opened ≡ Sound c → IsSoundOf size attributes opened c
sound_of size attributes opened c is = by_length (opened.bytes == 4096 + size) refl is
  where
    by_page : (o : Option (List ℕ)) → page_at opened.pages 0 ≡ o → opened.bytes ≡ 4096 + size → object_with size attributes opened.pages o ≡ Sound c → IsSoundOf size attributes opened c
    by_page None e long same = absurd (damaged_sound size c same)
    by_page (Some page) e long same = record {
      long = long;
      page = page;
      first = e;
      bad = ap (λ (x : Contents). x.bad) (sym (sound_same (contents_of size attributes opened.pages page) c same));
      attributes_are = ap (λ (x : Contents). x.attributes) (sym (sound_same (contents_of size attributes opened.pages page) c same));
    }

    by_length : (b : Bool) → (opened.bytes == 4096 + size) ≡ b → cond b (object_with size attributes opened.pages (page_at opened.pages 0)) (Damaged size) ≡ Sound c → IsSoundOf size attributes opened c
    by_length true e same = by_page (page_at opened.pages 0) refl (eqb-true opened.bytes (4096 + size) e) same
    by_length false e same = absurd (damaged_sound size c same)

-- a block that a call has to know holds bytes of the object, or its attributes
pub asked_within : (size position : ℕ) (call : Call) (k : ℕ) → is_asked size position call k ≡ true → 4096 * k < 4096 + size
asked_within size position call k asked = elim (cases_Bool (k == 0)) [
  | inl first ↦ omega (arith, eqb-true k 0 first)
  | inr other ↦ by_call call (sym (ap (λ (b : Bool). b || is_data_asked size position call k) other) ∙ asked)
]
  where
    by_call : (c : Call) → is_data_asked size position c k ≡ true → 4096 * k < 4096 + size
    by_call (Read handle count) a = grind (arith, a)
    by_call (Write handle bytes) a = grind (arith, a)
    by_call (Truncate handle n) a = grind (arith, a)
    by_call _ a = absurd (true≢false (sym a))

-- an object without damage is sound
sound-part : (o : Object) → IsUndamaged o → (c : Contents) × (o ≡ Sound c) × (c.bad ≡ [])
sound-part (Sound c) none = (c, refl, none)
sound-part (Damaged size) none = absurd none

-- What stands for a real version, where that is an object without damage: each page of the object's bytes is good.
module _ (keys : Keys) (scenario : TamperScenario) (file generation : ℕ) (v : Version) (real : IsReal keys v) where
  record IsWhole : Type 0 where
    sp : Decoding
    stands : under keys scenario file generation v ≡ Some sp
    good : (k : ℕ) → 4096 * k < 4096 + v.size → page_decoded sp k ≡ None → ⊥

  module _ (sp : Decoding) (stands : under keys scenario file generation v ≡ Some sp) (c : Contents) (s : IsSoundOf v.size v.attributes (opened_decoded sp) c) (none : c.bad ≡ []) where
    within : (k : ℕ) → 4096 * k < 4096 + v.size → k < length sp.tree.nodes
    within k low =
        let verified : IsVerified v.root sp.tree = verified_under keys scenario file generation v sp stands real in
        let many : sp.tree.head.greatest ≡ greatest_of sp.tree.head.length = sized_greatest sp.tree.head verified.hashed.sized in
        omega (arith, verified.hashed.all, many, s.long, low)

    good_page : (k : ℕ) → 4096 * k < 4096 + v.size → page_decoded sp k ≡ None → ⊥
    good_page zero low bad =
        let lt : 0 < length sp.tree.nodes = within 0 low in
        none_some s.page (sym (row_at (page_decoded sp) (length sp.tree.nodes) 0 None lt ∙ bad) ∙ s.first)
    good_page (suc j) low bad =
        let lt : suc j < length sp.tree.nodes = within (suc j) low in
        let found : list_any (nat_eq (suc j)) (bad_blocks (pages_decoded sp)) ≡ true =
        list_any-bad-true (nat_eq (suc j)) (pages_decoded sp) (suc j) (omega arith) (omega (arith, lt, length-row (page_decoded sp) (length sp.tree.nodes)))
        (row_at (page_decoded sp) (length sp.tree.nodes) (suc j) None lt ∙ bad) (eq-eqb (suc j) (suc j) refl) in
        true≢false (sym found ∙ ap (list_any (nat_eq (suc j))) (sym s.bad ∙ none))

  whole : IsUndamaged (object_under keys scenario file generation v) → IsWhole
  whole fine = by_under (under keys scenario file generation v) refl fine
    where
      by_under : (o : Option Decoding) → under keys scenario file generation v ≡ o → IsUndamaged (object_decoded v.size v.attributes o) → IsWhole
      by_under None stands none = absurd none
      by_under (Some sp) stands none =
          let p = sound-part (object_of v.size v.attributes (opened_decoded sp)) none in
          let s = sound_of v.size v.attributes (opened_decoded sp) p.0 p.1 in
          record { sp = sp; stands = stands; good = good_page sp stands p.0 s p.2 }

-- So an end of the promises at it shows a clash.
module _ (store : Store) (scenario : TamperScenario) (before : List HistoryRecord) (r : HistoryRecord) where
  by_lack : (g : IsGivenAt store scenario before r) (sp : Decoding) → ((k : ℕ) → 4096 * k < 4096 + g.version.size → page_decoded sp k ≡ None → ⊥)
      → Lacks (Some sp) (asked_of g) g.gave.tree → Clash (asked_of g) sp (decoding_given g.gave)
  by_lack g sp good (inl clash) = inl clash
  by_lack g sp good (inr (k, asked, bad)) = absurd (good k (asked_within g.version.size g.position g.call k asked) bad)

  by_stray : (g : IsGivenAt store scenario before r) (sp : Decoding) → ((k : ℕ) → 4096 * k < 4096 + g.version.size → page_decoded sp k ≡ None → ⊥)
      → Strays (Some sp) (asked_of g) (decoding_given g.gave) → Clash (asked_of g) sp (decoding_given g.gave)
  by_stray g sp good (inl lacks) = by_lack g sp good lacks
  by_stray g sp good (inr clash) = clash

  by_kind : (x : IsEndAt store scenario before r) (sp : Decoding) → stands_for (given_at x) ≡ Some sp
      → ((k : ℕ) → 4096 * k < 4096 + (given_at x).version.size → page_decoded sp k ≡ None → ⊥)
      → Clash (asked_of (given_at x)) sp (decoding_given (given_at x).gave)
  by_kind (inl lacking) sp stands good =
      by_lack lacking.told.given sp good (subst (λ (o : Option Decoding). Lacks o (asked_of lacking.told.given) lacking.told.given.gave.tree) stands lacking.lacks)
  by_kind (inr strays) sp stands good =
      by_stray strays.given sp good (subst (λ (o : Option Decoding). Strays o (asked_of strays.given) (decoding_given strays.given.gave)) stands strays.strays)

  pub undamaged_ends : (x : IsEndAt store scenario before r) → IsUndamaged (object_under store.keys scenario (given_at x).tag.file (given_at x).tag.generation (given_at x).version)
      → IsEndByClash store scenario before r
  undamaged_ends x fine =
      let g : IsGivenAt store scenario before r = given_at x in
      let w : IsWhole store.keys scenario g.tag.file g.tag.generation g.version g.real = whole store.keys scenario g.tag.file g.tag.generation g.version g.real fine in
      record { ends = x; sp = w.sp; stands = w.stands; clash = by_kind x w.sp w.stands w.good }
