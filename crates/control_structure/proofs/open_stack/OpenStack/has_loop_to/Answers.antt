use Rattle.std.proofs.Common.{ℕ, List, length, get_or, sym, ap, ◌∙◌, subst, arith}
use Rattle.std.proofs.lemmas.List.{get_or_past}
use Rattle.control_structure.specs.declared.open_stack.Entry.{Entry}
use Rattle.control_structure.specs.OpenStack.{AreCounted}
use Rattle.control_structure.proofs.OpenCounts.{count-any}
use Rattle.control_structure.proofs.open_stack.OpenStack.has_loop_to.Goals as goal

pub returns-in-Some : goal.returns-in-Some
returns-in-Some c =
    let loops = c.self.inside.loops.items in
    let are : AreCounted c.args.self.now loops = subst (λ (stack : List Entry). AreCounted stack loops) c.self.view_is c.self.invariant in
    let read = c.in-Some.ensures.lookup.3.1 0 ∙ ap (λ (xs : List ℕ). get_or xs c.args.label 0) c.deref.ensures.value in
    count-any c.args.self.now loops c.args.label c.in-Some.count.now read are

pub returns-in-None : goal.returns-in-None
returns-in-None c =
    let loops = c.self.inside.loops.items in
    let are : AreCounted c.args.self.now loops = subst (λ (stack : List Entry). AreCounted stack loops) c.self.view_is c.self.invariant in
    let past = c.in-None.ensures.lookup.3 in
    let count = ap (λ (xs : List ℕ). length xs) c.deref.ensures.value in
    count-any c.args.self.now loops c.args.label 0 (sym (get_or_past loops c.args.label 0 (omega (arith, past, count)))) are
