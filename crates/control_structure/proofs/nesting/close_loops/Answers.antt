use Rattle.std.proofs.Common.{◌≡◌, ℕ, Bool, false, if◌then◌else◌, List, [], ◌∷◌, slice_get, Some, None, refl, sym, ap, ◌∙◌}
use Rattle.layout_rules.specs.Nesting.{is_loop_to}
use Rattle.control_structure.specs.declared.open_stack.Entry.{Entry}
use Rattle.control_structure.specs.OpenStack.{ends_at, without_ended}
use Rattle.control_structure.proofs.nesting.close_loops.Goals as goal

-- where no loop on top ends at the label, none is taken away
without-none : (label : ℕ) (stack : List Entry) → None ≡ slice_get stack 0 → stack ≡ without_ended label stack
without-none label [] h = refl
without-none label (e ∷ rest) h = let e : None ≡ Some e = h in absurd cc

without-other : (label : ℕ) (stack : List Entry) (top : Entry) → Some top ≡ slice_get stack 0 → is_loop_to label top.opened ≡ false → stack ≡ without_ended label stack
without-other label [] top h none = let e : Some top ≡ None = h in absurd cc
without-other label (e ∷ rest) top h other =
    let same : top ≡ e = cc in
    sym (ap (λ (b : Bool). if b then without_ended label rest else (e ∷ rest)) (ap (ends_at label) (sym same) ∙ other))

pub returns-then-not-ends_at : goal.returns-then-not-ends_at
returns-then-not-ends_at c = without-other c.args.label c.loop-entry.stack c.in-Some.entry c.in-Some.ensures (sym c.ends_at.ensures ∙ c.if-not-ends_at.true) ∙ c.loop-entry.invariant

pub returns-in_default : goal.returns-in_default
returns-in_default c = without-none c.args.label c.loop-entry.stack c.in_default.ensures ∙ c.loop-entry.invariant
