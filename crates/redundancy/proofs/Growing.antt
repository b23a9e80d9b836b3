-- Candidates, collected from one list of expressions after another.
use Rattle.std.proofs.Common.{◌≡◌, ℕ, zero, suc, ◌+◌, ◌<◌, List, [], ◌∷◌, ◌++◌, length, get_or, map, take, All, Option, ℤ, refl, sym, ap, ◌∙◌, subst, arith, append_assoc}
use Rattle.std.proofs.lemmas.List.{take_more}
use Rattle.std.proofs.lemmas.List.Concat.{flat_map-append}
use Rattle.f77_tree.specs.declared.expressions.Expr.{Expr, Read, Apply}
use Rattle.f77_tree.specs.declared.expressions.Access.{Access}
use Rattle.f77_tree.specs.declared.programs.NameInfo.{NameInfo}
use Rattle.op_table.specs.declared.Op.{Op}
use Rattle.f77_tree.specs.Known.{known}
use Rattle.redundancy.specs.Candidates.{IsCandidate, subexpressions}
use Rattle.redundancy.specs.Collected.{AreCandidatesIn, none, take as take_one, skip, IsGrown, all_subexpressions}
use Rattle.std.specs.Prelude.{flat_map}
use Rattle.f77_tree.specs.declared.programs.Item.{Item}
use Rattle.f77_tree.specs.Value.{IsExpression}
use Rattle.redundancy.specs.Computed.{in_item}
use Rattle.redundancy.proofs.Executables.{all-left, all-right}
use Rattle.redundancy.proofs.Operands.{subexpressions-Apply, subexpressions-Read}

pub append_none : (xs : List Expr) → xs ++ [] ≡ xs
append_none [] = refl
append_none (x ∷ xs) = ap (λ ys. x ∷ ys) (append_none xs)

module _ (names : List NameInfo) where
  pub both : (es found more_es more : List Expr) → AreCandidatesIn names es found → AreCandidatesIn names more_es more → AreCandidatesIn names (es ++ more_es) (found ++ more)
  both es found more_es more none b = b
  both es found more_es more (take_one e xs ys is a) b = take_one e (xs ++ more_es) (ys ++ more) is (both xs ys more_es more a b)
  both es found more_es more (skip e xs ys isnt a) b = skip e (xs ++ more_es) (ys ++ more) isnt (both xs ys more_es more a b)

  pub grown-none : (old : List Expr) → IsGrown names [] old old
  grown-none old = record { more = []; are = none; after = sym (append_none old) }

  pub grown-both : (xs ys a b c : List Expr) → IsGrown names xs a b → IsGrown names ys b c → IsGrown names (xs ++ ys) a c
  grown-both xs ys a b c p q = record {
    more = p.more ++ q.more;
    are = both xs p.more ys q.more p.are q.are;
    after = q.after ∙ ap (λ z. z ++ q.more) p.after ∙ append_assoc a p.more q.more;
  }

  pub grown-take : (e : Expr) (old : List Expr) → IsCandidate names e → IsGrown names (e ∷ []) old (old ++ e ∷ [])
  grown-take e old is = record { more = e ∷ []; are = take_one e [] [] is none; after = refl }

  pub grown-skip : (e : Expr) (old : List Expr) → (IsCandidate names e → ⊥) → IsGrown names (e ∷ []) old old
  grown-skip e old isnt = record { more = []; are = skip e [] [] isnt none; after = sym (append_none old) }

  -- one expression more of a list
  pub grown-next : (es : List Expr) (i : ℕ) (e : Expr) (a b c : List Expr) → i < length es → e ≡ get_or es i e → IsGrown names (all_subexpressions (take i es)) a b → IsGrown names (subexpressions e) b c → IsGrown names (all_subexpressions (take (i + 1) es)) a c
  grown-next es i e a b c lt at p q =
      let prefix : take (i + 1) es ≡ take i es ++ e ∷ [] = take_more es i e lt ∙ ap (λ (x : Expr). take i es ++ x ∷ []) (sym at) in
      let parts : all_subexpressions (take (i + 1) es) ≡ all_subexpressions (take i es) ++ subexpressions e = ap all_subexpressions prefix ∙ flat_map-append subexpressions (take i es) (e ∷ []) ∙ ap (λ z. all_subexpressions (take i es) ++ z) (append_none (subexpressions e)) in
      subst (λ z. IsGrown names z a c) (sym parts) (grown-both (all_subexpressions (take i es)) (subexpressions e) a b c p q)

  pub grown-Apply-take : (op : Op) (args a b : List Expr) → IsCandidate names (Apply op args) → IsGrown names (all_subexpressions args) a b → IsGrown names (subexpressions (Apply op args)) a (b ++ Apply op args ∷ [])
  grown-Apply-take op args a b is p = subst (λ z. IsGrown names z a (b ++ Apply op args ∷ [])) (sym (subexpressions-Apply op args)) (grown-both (all_subexpressions args) (Apply op args ∷ []) a b (b ++ Apply op args ∷ []) p (grown-take (Apply op args) b is))

  pub grown-Apply-skip : (op : Op) (args a b : List Expr) → (IsCandidate names (Apply op args) → ⊥) → IsGrown names (all_subexpressions args) a b → IsGrown names (subexpressions (Apply op args)) a b
  grown-Apply-skip op args a b isnt p = subst (λ z. IsGrown names z a b) (sym (subexpressions-Apply op args)) (grown-both (all_subexpressions args) (Apply op args ∷ []) a b b p (grown-skip (Apply op args) b isnt))

  pub grown-Read : (access : Access) (a b : List Expr) → IsGrown names (all_subexpressions access.subs) a b → IsGrown names (subexpressions (Read access)) a b
  grown-Read access a b p = subst (λ z. IsGrown names z a b) (sym (subexpressions-Read access)) (grown-both (all_subexpressions access.subs) (Read access ∷ []) a b b p (grown-skip (Read access) b (λ is. is)))

  pub grown-leaf : (e leaf : Expr) (old : List Expr) → e ≡ leaf → subexpressions leaf ≡ leaf ∷ [] → (IsCandidate names leaf → ⊥) → IsGrown names (subexpressions e) old old
  grown-leaf e leaf old is whole isnt = subst (λ z. IsGrown names z old old) (sym (ap subexpressions is ∙ whole)) (grown-skip leaf old isnt)

  pub grown-access : (e : Expr) (access : Access) (a b : List Expr) → e ≡ Read access → IsGrown names (all_subexpressions access.subs) a b → IsGrown names (subexpressions e) a b
  grown-access e access a b is p = subst (λ z. IsGrown names (subexpressions z) a b) (sym is) (grown-Read access a b p)

map-append : (f : Expr → Option ℤ) (xs ys : List Expr) → map f (xs ++ ys) ≡ map f xs ++ map f ys
map-append f [] ys = refl
map-append f (x ∷ xs) ys = ap (λ zs. f x ∷ zs) (map-append f xs ys)

-- the known value of one expression more
pub map_more : (es : List Expr) (i : ℕ) (e : Expr) (value : Option ℤ) → i < length es → e ≡ get_or es i e → value ≡ known e → map known (take i es) ++ value ∷ [] ≡ map known (take (i + 1) es)
map_more es i e value lt at is =
    let prefix : take (i + 1) es ≡ take i es ++ e ∷ [] = take_more es i e lt ∙ ap (λ (x : Expr). take i es ++ x ∷ []) (sym at) in
    ap (λ v. map known (take i es) ++ v ∷ []) is ∙ sym (map-append known (take i es) (e ∷ [])) ∙ ap (map known) (sym prefix)

module _ (names : List NameInfo) where
  pub grown-first : (e : Expr) (es a b c : List Expr) → IsGrown names (subexpressions e) a b → IsGrown names (all_subexpressions es) b c → IsGrown names (all_subexpressions (e ∷ es)) a c
  grown-first e es a b c p q = grown-both names (subexpressions e) (all_subexpressions es) a b c p q

  pub grown-one : (e : Expr) (a b : List Expr) → IsGrown names (subexpressions e) a b → IsGrown names (all_subexpressions (e ∷ [])) a b
  grown-one e a b p = grown-first e [] a b b p (grown-none names b)

  pub grown-prefix : (xs ys a b c : List Expr) → IsGrown names (all_subexpressions xs) a b → IsGrown names (all_subexpressions ys) b c → IsGrown names (all_subexpressions (xs ++ ys)) a c
  grown-prefix xs ys a b c p q = subst (λ z. IsGrown names z a c) (sym (flat_map-append subexpressions xs ys)) (grown-both names (all_subexpressions xs) (all_subexpressions ys) a b c p q)

  -- one item of output more
  pub grown-item : (items : List Item) (i : ℕ) (item : Item) (a b c : List Expr) → i < length items → item ≡ get_or items i item → IsGrown names (all_subexpressions (flat_map in_item (take i items))) a b → IsGrown names (all_subexpressions (in_item item)) b c → IsGrown names (all_subexpressions (flat_map in_item (take (i + 1) items))) a c
  grown-item items i item a b c lt at p q =
      let prefix : take (i + 1) items ≡ take i items ++ item ∷ [] = take_more items i item lt ∙ ap (λ (x : Item). take i items ++ x ∷ []) (sym at) in
      let parts : flat_map in_item (take (i + 1) items) ≡ flat_map in_item (take i items) ++ in_item item = ap (flat_map in_item) prefix ∙ flat_map-append in_item (take i items) (item ∷ []) ∙ ap (λ z. flat_map in_item (take i items) ++ z) (append_none (in_item item)) in
      subst (λ z. IsGrown names (all_subexpressions z) a c) (sym parts) (grown-prefix (flat_map in_item (take i items)) (in_item item) a b c p q)

  pub all_items-at : (items : List Item) (i : ℕ) (item : Item) → i < length items → item ≡ get_or items i item → All (IsExpression names) (flat_map in_item items) → All (IsExpression names) (in_item item)
  all_items-at [] i item lt at all = absurd (omega (arith, lt))
  all_items-at (x ∷ items) zero item lt at all = subst (λ y. All (IsExpression names) (in_item y)) (sym at) (all-left (IsExpression names) (in_item x) (flat_map in_item items) all)
  all_items-at (x ∷ items) (suc i) item lt at all = all_items-at items i item (omega arith) at (all-right (IsExpression names) (in_item x) (flat_map in_item items) all)
