use Rattle.std.proofs.Common.{List, Some, ℕ, refl, ap, subst}
use Rattle.card_maps.specs.Plans.{write_count, write_of}
use Rattle.rpmb_files.specs.declared.plan.PlanEnd.{PlanEnd}
use Rattle.rpmb_files.specs.declared.plan.PlanEnd.TheVariants.{Landed, Lost, Unknown}
use Rattle.rpmb_files.specs.declared.store.Doubt.{Doubt}
use Rattle.rpmb_files.specs.Carried.{PlanLeaves}
use Rattle.rpmb_files.proofs.change.make.Goals as goal

pub returns-in-Landed-clause-makes : goal.returns-in-Landed-clause-makes
returns-in-Landed-clause-makes g c =
    let map_is : PlanEnd → List ℕ → Type 0 = λ end map. PlanLeaves c.args.link.now.host.key (g.R.RpmbPort.state c.args.link.now.host.port) (g.R.RpmbPort.state c.carry_out.new.link.host.port)
    c.args.link.now.counter c.carry_out.new.link.counter (write_of c.args.change map c.args.bytes.now) (write_count c.args.change) end in
    record { end = Landed; leaves = subst (map_is Landed) c.map_after-map.ensures c.in-Landed.ensures.leaves; ends = (c.change.ensures, refl, refl) }

pub returns-in-Lost-clause-makes : goal.returns-in-Lost-clause-makes
returns-in-Lost-clause-makes g c =
    let map_is : PlanEnd → List ℕ → Type 0 = λ end map. PlanLeaves c.args.link.now.host.key (g.R.RpmbPort.state c.args.link.now.host.port) (g.R.RpmbPort.state c.carry_out.new.link.host.port)
    c.args.link.now.counter c.carry_out.new.link.counter (write_of c.args.change map c.args.bytes.now) (write_count c.args.change) end in
    record { end = Lost c.in-Lost.cause; leaves = subst (map_is (Lost c.in-Lost.cause)) c.map_after-map.ensures c.in-Lost.ensures.leaves; ends = (refl, refl, refl) }

pub returns-in-Unknown-clause-makes : goal.returns-in-Unknown-clause-makes
returns-in-Unknown-clause-makes g c =
    let map_is : PlanEnd → List ℕ → Type 0 = λ end map. PlanLeaves c.args.link.now.host.key (g.R.RpmbPort.state c.args.link.now.host.port) (g.R.RpmbPort.state c.carry_out.new.link.host.port)
    c.args.link.now.counter c.carry_out.new.link.counter (write_of c.args.change map c.args.bytes.now) (write_count c.args.change) end in
    let end : PlanEnd = Unknown c.in-Unknown.is_last c.in-Unknown.cause in
    record {
      end = end;
      leaves = subst (map_is end) c.map_after-map.ensures c.in-Unknown.ensures.leaves;
      ends = (refl, ap (λ (d : Doubt). Some d) c.doubt_left.ensures, refl);
    }
