-- The replay of events goes as that of the records that they are the events of.
use Rattle.std.proofs.Common.{◌≡◌, ◌∙◌, ℕ, List, [], ◌∷◌, Option, Some, None, Bool, true, false, Ok, inl, inr, refl, sym, ap}
use Rattle.std.specs.Option.{option_map}
use Rattle.hmac_keys.specs.declared.Keys.{Keys}
use Rattle.tee_types.specs.declared.call.Call.{Call}
use Rattle.tee_types.specs.declared.reply.Reply.{Reply}
use Rattle.store_model.specs.declared.event.Event.{Event}
use Rattle.store_model.specs.declared.event.Event.TheVariants.{Call as CallEvent, Landed}
use Rattle.store_model.specs.declared.event.Mark.{Mark}
use Rattle.store_model.specs.declared.event.Mark.TheVariants.{Unchanged, Made, Doubtful}
use Rattle.store_model.specs.Calls.{state_after}
use Rattle.store_model.specs.Commits.{with_doubt}
use Rattle.store_model.specs.Doubt.{Doubt, state_landed}
use Rattle.store_model.specs.Machine.{MachineState}
use Rattle.store_model.specs.Record.{Record, events_of, file_of, untagged}
use Rattle.store_model.specs.ReplayState.{ReplayState, keeps_doubt, replay, replay_after, replay_after_call, replay_landed, state_unless_undone}
use Rattle.crash_core.specs.Pictures.{Picture}
use Rattle.object_calls.specs.FinishedPhase.{IsMapLeft}

-- the doubts are of one call, or there is none
abbrev pub SameDoubts : Option Doubt → Option Doubt → Type 0
SameDoubts None None = Unit {0}
SameDoubts (Some a) (Some b) = (a.session ≡ b.session) × (a.call ≡ b.call)
SameDoubts _ _ = ⊥

-- Where the machine and the doubt stand alike: the files of the objects may differ, and the numbers of the commits.
pub record AreAlike (a b : ReplayState) : Type 0 where
  pub state : a.state ≡ b.state
  pub doubt : SameDoubts a.doubt b.doubt

abbrev landed_by : MachineState → ℕ → Call → MachineState
landed_by s session call = state_landed s (record { commit = 0; session = session; call = call; file = None })

landed_alike : (s t : MachineState) (a b : Doubt) → s ≡ t → a.session ≡ b.session → a.call ≡ b.call → state_landed s a ≡ state_landed t b
landed_alike s t a b state session call =
    ap (λ (m : MachineState). landed_by m a.session a.call) state ∙ ap (λ (n : ℕ). landed_by t n a.call) session ∙ ap (λ (c : Call). landed_by t b.session c) call

-- a call that may keep the doubt
kept_alike : (keeps : Bool) (x y : Option Doubt) → SameDoubts x y → SameDoubts (elim keeps [ true ↦ x | false ↦ None ]) (elim keeps [ true ↦ y | false ↦ None ])
kept_alike true x y same = same
kept_alike false x y same = tt

call_alike : (a b : ReplayState) (session : ℕ) (call : Call) (reply : Reply) (mark : Mark) (x y : Option ℕ) → AreAlike a b
    → AreAlike (replay_after_call a session call reply mark x) (replay_after_call b session call reply mark y)
call_alike a b session call reply Unchanged x y alike = record {
  state = ap (λ (s : MachineState). state_unless_undone s session call reply) alike.state;
  doubt = kept_alike (keeps_doubt reply) a.doubt b.doubt alike.doubt;
}
call_alike a b session call reply (Made commit) x y alike = record { state = ap (λ (s : MachineState). state_after s session call) alike.state; doubt = tt }
call_alike a b session call reply (Doubtful commit) x y alike = record { state = alike.state; doubt = (refl, refl) }

-- a commit that landed
settled_alike : (a b : ReplayState) (x y : Option Doubt) → AreAlike a b → SameDoubts x y → AreAlike (replay_landed a x) (replay_landed b y)
settled_alike a b None None alike same = alike
settled_alike a b (Some x) (Some y) alike same = record { state = landed_alike a.state b.state x y alike.state same.0 same.1; doubt = tt }
settled_alike a b None (Some y) alike same = absurd same
settled_alike a b (Some x) None alike same = absurd same

after_alike : (a b : ReplayState) (event : Event) (x y : Option ℕ) → AreAlike a b → AreAlike (replay_after a event x) (replay_after b event y)
after_alike a b (CallEvent session number call reply mark) x y alike = call_alike a b session call reply mark x y alike
after_alike a b (Landed commit) x y alike = settled_alike a b a.doubt b.doubt alike alike.doubt

pub replay_alike : {Root : Type 0} (a b : ReplayState) (records : List (Record Root)) → AreAlike a b → AreAlike (replay a records) (replay b (untagged (events_of records)))
replay_alike a b [] alike = alike
replay_alike a b (r ∷ records) alike = replay_alike (replay_after a r.event (file_of r)) (replay_after b r.event None) records (after_alike a b r.event (file_of r) None alike)

doubted_alike : (s t : MachineState) (x y : Option Doubt) → s ≡ t → SameDoubts x y
    → option_map (λ doubt. (state_landed s doubt).objects) x ≡ option_map (λ doubt. (state_landed t doubt).objects) y
doubted_alike s t None None state same = refl
doubted_alike s t (Some x) (Some y) state same = ap (λ (m : MachineState). Some m.objects) (landed_alike s t x y state same.0 same.1)
doubted_alike s t None (Some y) state same = absurd same
doubted_alike s t (Some x) None state same = absurd same

-- what is left of the one is left of the other
pub left_alike : (keys : Keys) (picture : Picture) (a b : ReplayState) → AreAlike a b → IsMapLeft keys picture a → IsMapLeft keys picture b
left_alike keys picture a b alike (inl mounts) = inl (mounts ∙ ap (λ (m : MachineState). Ok m.objects) alike.state)
left_alike keys picture a b alike (inr doubted) =
    let same : with_doubt a ≡ with_doubt b = doubted_alike a.state b.state a.doubt b.doubt alike.state alike.doubt in
    inr (doubted.0, sym same ∙ doubted.1, doubted.2)
