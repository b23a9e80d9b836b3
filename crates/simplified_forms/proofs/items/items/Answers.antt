use Rattle.std.proofs.Common.{◌≡◌, ◌↔◌, ℕ, Bool, List, Vec, Global, length, true, sym, subst}
use Rattle.const_prop.specs.Table.{knowns_of}
use Rattle.simplified_forms.specs.Items.{IsEnteredPiece}
use Rattle.simplified_forms.specs.Plans.{answer, keeps, AreKept}
use Rattle.simplified_forms.specs.Tables.{AreAnswers}
use Rattle.simplified_forms.proofs.FoldedLists.{if_ok-map}
use Rattle.simplified_forms.proofs.ItemLemmas.{kept-tell}
use Rattle.simplified_forms.proofs.items.items.Goals as goal

pub returns : goal.returns
returns g c =
    let p = c.args.p.now in
    let t = knowns_of c.args.t.now in
    let entered = c.deref.result.now in
    let tells = subst (λ (xs : List Bool). (node : ℕ) → (answer xs node ≡ true) ↔ IsEnteredPiece p t node) (sym c.deref.ensures.value) c.in_ok-entered.ensures in
    if_ok-map (λ (items : Vec Bool Global). AreAnswers (keeps p (answer entered)) (length p.execs) items.items) (λ (items : Vec Bool Global). AreKept p t items.items) c.kept.result (λ items are. kept-tell p t (answer entered) tells items.items are) c.kept.ensures
