-- The counts that events carry: of lists behind one another, and of one call.
use Rattle.std.proofs.Common.{◌≡◌, ◌==◌, ℕ, Bool, true, false, cond, List, [], ◌∷◌, ◌++◌, Option, Some, None, refl, sym, ap, ◌∙◌, append_assoc, append-nil}
use Rattle.tee_types.specs.declared.call.Call.{Call}
use Rattle.tee_types.specs.declared.reply.Device.{Device}
use Rattle.tee_types.specs.declared.reply.Device.TheVariants.{Entropy}
use Rattle.tee_types.specs.declared.reply.Reply.{Reply}
use Rattle.store_model.specs.declared.event.Event.{Event}
use Rattle.store_model.specs.declared.event.Event.TheVariants.{Call as CallEvent, Landed}
use Rattle.store_model.specs.declared.event.Mark.{Mark}
use Rattle.call_steps.specs.EventCounts.{landing_events}
use Rattle.call_steps.specs.DeviceCounts.{counts_of, draws_of, told_of}

pub counts_of-append : (device : Device) (first then : List Event) → counts_of device (first ++ then) ≡ counts_of device first ++ counts_of device then
counts_of-append device [] then = refl
counts_of-append device (CallEvent session number call reply mark ∷ first) then =
    ap (λ counts. told_of device reply ++ counts) (counts_of-append device first then)
    ∙ sym (append_assoc (told_of device reply) (counts_of device first) (counts_of device then))
counts_of-append device (Landed commit ∷ first) then = counts_of-append device first then

cond-append : (own : Bool) (told first then : List ℕ) → cond own (told ++ (first ++ then)) (first ++ then) ≡ cond own (told ++ first) first ++ then
cond-append true told first then = sym (append_assoc told first then)
cond-append false told first then = refl

pub draws_of-append : (session : ℕ) (first then : List Event) → draws_of session (first ++ then) ≡ draws_of session first ++ draws_of session then
draws_of-append session [] then = refl
draws_of-append session (CallEvent of number call reply mark ∷ first) then =
    ap (λ counts. cond (of == session) (told_of Entropy reply ++ counts) counts) (draws_of-append session first then)
    ∙ cond-append (of == session) (told_of Entropy reply) (draws_of session first) (draws_of session then)
draws_of-append session (Landed commit ∷ first) then = draws_of-append session first then

-- of a landing
pub counts_of-landing : (device : Device) (landed : Option ℕ) → counts_of device (landing_events landed) ≡ []
counts_of-landing device None = refl
counts_of-landing device (Some commit) = refl

pub draws_of-landing : (session : ℕ) (landed : Option ℕ) → draws_of session (landing_events landed) ≡ []
draws_of-landing session None = refl
draws_of-landing session (Some commit) = refl

-- of a call behind it
module _ (app number : ℕ) (call : Call) (reply : Reply) (mark : Mark) where
  abbrev pub added_by : Option ℕ → List Event
  added_by landed = landing_events landed ++ CallEvent app number call reply mark ∷ []

  pub counts_of-call : (device : Device) (landed : Option ℕ) → counts_of device (added_by landed) ≡ told_of device reply
  counts_of-call device None = append-nil (told_of device reply)
  counts_of-call device (Some commit) = append-nil (told_of device reply)

  drawn_by : (own : Bool) → cond own (told_of Entropy reply ++ []) [] ≡ cond own (told_of Entropy reply) []
  drawn_by true = append-nil (told_of Entropy reply)
  drawn_by false = refl

  pub draws_of-call : (session : ℕ) (landed : Option ℕ) → draws_of session (added_by landed) ≡ cond (app == session) (told_of Entropy reply) []
  draws_of-call session None = drawn_by (app == session)
  draws_of-call session (Some commit) = drawn_by (app == session)
