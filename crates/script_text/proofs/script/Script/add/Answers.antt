use Rattle.std.proofs.Common.{◌≡◌, ◌||◌, ℕ, List, [], ◌∷◌, ◌++◌, length, sym, ap, subst, ◌∙◌, Vec, Global}
use Rattle.std.specs.List.{All}
use Rattle.std.proofs.lemmas.List.{length-map}
use Rattle.std.proofs.lemmas.List.Elements.{All-append, All-cons, All-nil}
use Rattle.std.proofs.lemmas.List.Folds.{list_any-append}
use Rattle.indexmap.specs.IndexMap.{index_map_len}
use Rattle.script_text.specs.declared.script.Step.{Step}
use Rattle.script_text.specs.Script.{IsPlaced, IsSavedIn, ScriptValue, has_call, is_call, with_mark}
use Rattle.script_text.proofs.SavedMarks.{or-false, saved-step}
use Rattle.script_text.proofs.script.Script.add.Goals as goal

pub invariant_of-self-2 : goal.invariant_of-self-2
invariant_of-self-2 c =
    let steps = c.self.inside.made.items in
    let entries = c.self.inside.declared.entries in
    let Placed = IsPlaced (index_map_len c.self.inside.declared) in
    let grown : c.push.new.self.items ≡ steps ++ c.args.step ∷ [] = c.in_ok-push.ensures.items in
    let viewed : IsPlaced (length (c.self.inside.declared.entries)) c.args.step =
    subst (λ n. IsPlaced n c.args.step) (length-map entries (λ (e : Vec ℕ Global × List ℕ). record { name = (e.0).items; app = e.1 }))
    (subst (λ (s : ScriptValue). IsPlaced (length s.applications) c.args.step) (sym c.self.view_is) c.requires) in
    let all = All-append Placed steps (c.args.step ∷ []) c.self.invariant.1 (All-cons Placed c.args.step [] viewed (All-nil Placed)) in
    let calling = ap (λ b. b || c.is_call-calls.result) (c.self.invariant.2) ∙ ap (λ b. has_call steps || b) (c.is_call-calls.ensures ∙ sym (or-false (is_call c.args.step)))
    ∙ sym (list_any-append is_call steps (c.args.step ∷ [])) in
    let kept = ap (λ (k : List (Vec ℕ Global)). with_mark k c.in_ok-mark.mark) c.in_ok-reserve.ensures.keys in
    let marks = saved-step steps c.self.inside.saved.keys c.args.step c.in_ok-mark.mark (c.self.invariant.3) c.in_ok-mark.ensures in (
      c.self.invariant.0,
      subst (λ (s : List Step). All Placed s) (sym grown) all,
      calling ∙ ap has_call (sym grown),
      subst (λ (s : List Step). IsSavedIn s c.note_mark.new.saved.keys) (sym grown) (subst (IsSavedIn (steps ++ c.args.step ∷ [])) (sym (c.note_mark.ensures ∙ kept)) marks),
    )
