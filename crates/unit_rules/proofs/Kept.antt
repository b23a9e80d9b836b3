-- Statements of which none is of a kind.
use Rattle.std.proofs.Common.{◌≡◌, ◌∙◌, Bool, false, List, [], ◌∷◌, ◌++◌, ap, sym}
use Rattle.std.specs.List.Sorted.{IsPermutation}
use Rattle.std.proofs.lemmas.List.Elements.{All-append, All-cons, All-nil}
use Rattle.std.proofs.lemmas.List.Sorted.{All-permutation}
use Rattle.fortran_tree.specs.declared.heads.Head.{Head}
use Rattle.fortran_tree.specs.declared.statements.Statement.{Statement}
use Rattle.unit_rules.specs.Kinds.{HasNo}

-- none of a kind is there in another order
pub has_no_permuted : (is_kind : Head → Bool) (xs ys : List Statement) → IsPermutation xs ys → HasNo is_kind xs → HasNo is_kind ys
has_no_permuted is_kind xs ys = All-permutation (λ statement. is_kind statement.head ≡ false) xs ys

-- nor with one more, whose kind was tested before it was rewritten
pub has_no_more : (is_kind : Head → Bool) (xs : List Statement) (more : Statement) (ys : List Statement) (head : Head) (test : Bool) → ys ≡ xs ++ more ∷ [] → more.head ≡ head → test ≡ is_kind head → test ≡ false → HasNo is_kind xs → HasNo is_kind ys
has_no_more is_kind xs more ys head test all same told failed kept =
    let none : is_kind more.head ≡ false = ap is_kind same ∙ (sym told ∙ failed) in
    rw all (All-append (λ statement. is_kind statement.head ≡ false) xs (more ∷ []) kept (All-cons (λ statement. is_kind statement.head ≡ false) more [] none (All-nil (λ statement. is_kind statement.head ≡ false))))
