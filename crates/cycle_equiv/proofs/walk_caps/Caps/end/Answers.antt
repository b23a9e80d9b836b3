use Rattle.std.proofs.Common.{◌≡◌, ◌+◌, ◌<◌, ◌^◌, ◌∷◌, [], length, set, sym, ap, ◌∙◌, subst, arith, length-append}
use Rattle.brackets.specs.Brackets.{list_at, without}
use Rattle.cycle_equiv.specs.CapLists.{HaveCaps, ended}
use Rattle.cycle_equiv.proofs.CapSteps.{caps_fewer, caps_last, caps_step}
use Rattle.cycle_equiv.proofs.walk_caps.Caps.end.Goals as goal

pub overflow_add-edges : goal.overflow_add-edges
overflow_add-edges g c =
    let xs = list_at c.caps.lists c.args.list in
    let have = subst (HaveCaps c.args.edges xs) c.in-Some.ensures.items c.caps.invariant.have in
    let few : c.args.edges + c.in-Some.f < 2 ^ 32 = (caps_last c.args.edges c.in-Some.f c.pop.new.self.items xs have).1 in
    record { fits = few }

pub delete-requires : goal.delete-requires
delete-requires g c =
    let xs = list_at c.caps.lists c.args.list in
    let have = subst (HaveCaps c.args.edges xs) c.in-Some.ensures.items c.caps.invariant.have in
    (caps_last c.args.edges c.in-Some.f c.pop.new.self.items xs have).0

pub caps-preserved : goal.caps-preserved
caps-preserved g c =
    let xs = list_at c.caps.lists c.args.list in
    let fs = c.pop.new.self.items in
    let f = c.in-Some.f in
    let have = subst (HaveCaps c.args.edges xs) c.in-Some.ensures.items c.caps.invariant.have in
    let step = caps_step c.args.edges f fs c.caps.lists c.args.list (caps_last c.args.edges f fs xs have).0 in
    let here : list_at c.delete.new.self c.args.list ≡ without xs (c.args.edges + f) = ap (λ ls. list_at ls c.args.list) c.delete.ensures.lists ∙ step.0 in
    record {
      have = subst (λ ys. HaveCaps c.args.edges ys fs) (sym here) (caps_fewer c.args.edges f fs xs have);
      lists =
          ap (λ ys. set c.delete.new.self c.args.list (ended c.args.edges ys fs)) here
          ∙ ap (λ ls. set ls c.args.list (ended c.args.edges (without xs (c.args.edges + f)) fs)) c.delete.ensures.lists
          ∙ step.1
          ∙ ap (λ ds. set c.caps.lists c.args.list (ended c.args.edges xs ds)) (sym c.in-Some.ensures.items)
          ∙ c.caps.invariant.lists;
      steps =
          let popped = ap length c.in-Some.ensures.items in
          let longer = length-append fs (f ∷ []) in
          omega (arith, popped, longer, c.caps.invariant.steps, c.delete.ensures.step);
    }
