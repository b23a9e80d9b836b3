-- How many assignments are due before a statement: each candidate takes two operations at least, one for its operator and one for a
-- name among its operands.
use Rattle.std.proofs.Common.{◌≡◌, ℕ, zero, suc, ◌+◌, ◌*◌, ◌<◌, ◌≤◌, ◌⊎◌, inl, inr, ⊎_elim, ℤ, Bool, true, false, not, ◌&&◌, List, [], ◌∷◌, ◌++◌, length, filter, fold, Option, Some, None, option_to_list, refl, sym, ap, subst, ◌∙◌, arith}
use Rattle.std.specs.Prelude.{flat_map, slice_get, sum_by, if◌then◌else◌, ◌==◌}
use Rattle.std.proofs.lemmas.Bool.{and_parts, eqb-true, or_cases}
use Rattle.std.proofs.lemmas.List.{length-append}
use Rattle.std.proofs.lemmas.List.Sums.{sum_by-append, sum_by-cons}
use Rattle.std.proofs.lemmas.Option.{slice_get_within}
use Rattle.f77_tree.specs.declared.expressions.Expr.{Expr, Const, Truth, Input, Read', Apply', Row_of-Expr, end_of-Expr, more_of-Expr}
use Rattle.f77_tree.specs.declared.programs.Exec.{Exec}
use Rattle.f77_tree.specs.declared.programs.ExecKind.{ExecKind}
use Rattle.f77_tree.specs.declared.programs.ExecKind.TheVariants.{Assign, Print, Pass as Passing, Test, Sign, Pick, DoStart, DoNext, End as Ending}
use Rattle.f77_tree.specs.declared.programs.Item.{Item}
use Rattle.f77_tree.specs.declared.programs.Item.TheVariants.{Value, Chars}
use Rattle.f77_tree.specs.declared.programs.NameInfo.{NameInfo}
use Rattle.f77_tree.specs.declared.programs.Program.{Program}
use Rattle.f77_tree.specs.Operations.{exec_operations, item_operations, most_operations, operations, row_operations}
use Rattle.f77_tree.specs.Run.{source}
use Rattle.alias_classes.specs.Classes.{ClassTable}
use Rattle.cfg_build.specs.declared.pieces.Piece.{Piece}
use Rattle.cfg_build.specs.declared.pieces.PieceKind.{PieceKind}
use Rattle.cfg_build.specs.declared.pieces.PieceKind.TheVariants.{Start, Join, Act, Pass, Branch, Hold, End}
use Rattle.cfg_build.specs.Flow.{flow, piece_in}
use Rattle.cfg_build.specs.Passes.{kind_in}
use Rattle.redundancy.specs.Available.{Availability}
use Rattle.redundancy.specs.Candidates.{has_scalar, is_scalar, row_subexpressions, subexpressions, IsCandidate}
use Rattle.redundancy.specs.Computed.{computed_by, evaluated, expressions, in_item, kind_of_piece, selectors}
use Rattle.simplified_laws.specs.InStep.{operations_in, operations_of_run}
use Rattle.simplified_forms.specs.Items.{is_piece_of, own_piece}
use Rattle.shared_forms.specs.Numbered.{added, number_of, numbers_in}
use Rattle.shared_forms.specs.Shared.{computed, due, is_available, is_one_of, is_shared}
use Rattle.shared_laws.specs.SharedRuns.{shared_steps, IsSharedBy}
use Rattle.shared_laws.proofs.ListPlaces.{first-found, item_at}
use Rattle.shared_forms.proofs.NumberLemmas.{number_in-is, numbers_in-append}
use Rattle.shared_laws.proofs.ReplacedValues.{numbers-told}
use Rattle.shared_forms.proofs.SharingLemmas.{numbers-one}

-- ---- what is due is among what is computed

added-length : (b : Bool) (seen : List ℕ) (n : ℕ) → length (if b then seen else (seen ++ n ∷ [])) ≤ length seen + 1
added-length true seen n = omega arith
added-length false seen n = let size = length-append seen (n ∷ []) in omega (arith, size)

fold-length : (seen ns : List ℕ) → length (fold added seen ns) ≤ length seen + length ns
fold-length seen [] = omega arith
fold-length seen (n ∷ ns) = let rest = fold-length (added seen n) ns in let one = added-length (is_one_of seen n) seen n in omega (arith, rest, one)

cut-length : (b : Bool) (n : ℕ) (ns : List ℕ) → length (if b then (n ∷ ns) else ns) ≤ 1 + length ns
cut-length true n ns = omega arith
cut-length false n ns = omega arith

filter-length : (t : ℕ → Bool) (ns : List ℕ) → length (filter t ns) ≤ length ns
filter-length t [] = omega arith
filter-length t (n ∷ ns) = let one = cut-length (t n) n (filter t ns) in let rest = filter-length t ns in omega (arith, one, rest)

due-length : (q : Program) (a : Availability) (k : ℕ) → length (due q a (number_of a) k) ≤ length (computed q a (number_of a) k)
due-length q a k =
    let test : ℕ → Bool = λ n. is_shared q a (number_of a) n && not (is_available q a (number_of a) k n) in
    let all = fold-length [] (filter test (computed q a (number_of a) k)) in
    let some = filter-length test (computed q a (number_of a) k) in
    omega (arith, all, some)

module _ (names : List NameInfo) (a : Availability) (are : (k : ℕ) (e : Expr) → slice_get a.candidates k ≡ Some e → IsCandidate names e) where
  -- ---- candidates in an expression

  abbrev own : Expr → ℕ
  own e = length (option_to_list (number_of a e))

  abbrev pub found : List Expr → ℕ
  found es = length (numbers_in a.candidates es)

  found-append : (es ds : List Expr) → found (es ++ ds) ≡ found es + found ds
  found-append es ds = ap length (numbers_in-append a.candidates es ds) ∙ length-append (numbers_in a.candidates es) (numbers_in a.candidates ds)

  found-last : (es : List Expr) (e : Expr) → found (es ++ e ∷ []) ≡ found es + own e
  found-last es e = found-append es (e ∷ []) ∙ ap (λ (ns : List ℕ). found es + length ns) (numbers-one a.candidates e)

  none-by : (o : Option ℕ) → ((n : ℕ) → o ≡ Some n → ⊥) → length (option_to_list o) ≡ 0
  none-by None none = refl
  none-by (Some n) none = absurd (none n refl)

  -- what is no candidate has no number
  own-none : (e : Expr) → (IsCandidate names e → ⊥) → own e ≡ 0
  own-none e none = none-by (number_of a e) (λ n told. none (are n e (number_in-is a.candidates e n told)))

  one-by : (o : Option ℕ) → (length (option_to_list o) ≡ 0) ⊎ ((n : ℕ) × (o ≡ Some n) × (length (option_to_list o) ≡ 1))
  one-by None = inl refl
  one-by (Some n) = inr (n, refl, refl)

  mutual
    pub found-most : (e : Expr) → 2 * found (subexpressions e) ≤ operations e
    found-most (Const z) = let last = found-last [] (Const z) in let none = own-none (Const z) (λ is. is) in omega (arith, last, none)
    found-most (Truth b) = let last = found-last [] (Truth b) in let none = own-none (Truth b) (λ is. is) in omega (arith, last, none)
    found-most Input = let last = found-last [] Input in let none = own-none Input (λ is. is) in omega (arith, last, none)
    found-most (Read' name shape subs) = let last = found-last (row_subexpressions subs) (Read' name shape subs) in let none = own-none (Read' name shape subs) (λ is. is) in let rest = row-most _ subs in omega (arith, last, none, rest)
    found-most (Apply' op shape args) =
        let e = Apply' op shape args in
        let last = found-last (row_subexpressions args) e in
        ⊎_elim
        (λ (none : own e ≡ 0). let rest = row-most _ args in omega (arith, last, none, rest))
        (λ h.
        let is = are h.0 e (number_in-is a.candidates e h.0 h.1) in
        let rest = scalar-most _ args is.1 in
        let one : own e ≡ 1 = h.2 in
        omega (arith, last, one, rest))
        (one-by (number_of a e))

    row-most : (m : _) (row : Row_of-Expr m) → 2 * found (row_subexpressions row) ≤ row_operations row
    row-most m end_of-Expr = omega arith
    row-most m (more_of-Expr e rest) = let both = found-append (subexpressions e) (row_subexpressions rest) in let here = found-most e in let later = row-most _ rest in omega (arith, both, here, later)

    -- a name among operands takes an operation and has no candidate
    scalar-most : (m : _) (row : Row_of-Expr m) → has_scalar row ≡ true → 2 * found (row_subexpressions row) + 1 ≤ row_operations row
    scalar-most m end_of-Expr has = let e : false ≡ true = has in absurd cc
    scalar-most m (more_of-Expr e rest) has =
        let both = found-append (subexpressions e) (row_subexpressions rest) in
        ⊎_elim
        (λ (h : is_scalar e ≡ true). let here = name-most e h in let later = row-most _ rest in omega (arith, both, here, later))
        (λ (h : has_scalar rest ≡ true). let here = found-most e in let later = scalar-most _ rest h in omega (arith, both, here, later))
        (or_cases (is_scalar e) (has_scalar rest) has)

    name-most : (e : Expr) → is_scalar e ≡ true → 2 * found (subexpressions e) + 1 ≤ operations e
    name-most (Read' name shape subs) is = let last = found-last (row_subexpressions subs) (Read' name shape subs) in let none = own-none (Read' name shape subs) (λ c. c) in let rest = row-most _ subs in omega (arith, last, none, rest)
    name-most (Const z) is = let e : false ≡ true = is in absurd cc
    name-most (Truth b) is = let e : false ≡ true = is in absurd cc
    name-most Input is = let e : false ≡ true = is in absurd cc
    name-most (Apply' op shape args) is = let e : false ≡ true = is in absurd cc

  -- ---- candidates in an executable

  all-most : (es : List Expr) → 2 * found (flat_map subexpressions es) ≤ sum_by operations es
  all-most [] = omega arith
  all-most (e ∷ es) =
      let both = found-append (subexpressions e) (flat_map subexpressions es) in
      let here = found-most e in
      let rest = all-most es in
      let sum = sum_by-cons operations e es in
      omega (arith, both, here, rest, sum)

  subscripts-most : (es : List Expr) → sum_by operations es ≤ sum_by (λ e. 2 + operations e) es
  subscripts-most [] = omega arith
  subscripts-most (e ∷ es) = let a = sum_by-cons operations e es in let b = sum_by-cons (λ d. 2 + operations d) e es in let rest = subscripts-most es in omega (arith, a, b, rest)

  item-most : (item : Item) → sum_by operations (in_item item) ≤ item_operations item
  item-most (Value e) = let one = sum_by-cons operations e [] in omega (arith, one)
  item-most (Chars text) = omega arith

  items-most : (items : List Item) → sum_by operations (flat_map in_item items) ≤ sum_by item_operations items
  items-most [] = omega arith
  items-most (item ∷ items) =
      let a = sum_by-append operations (in_item item) (flat_map in_item items) in
      let b = sum_by-cons item_operations item items in
      let here = item-most item in
      let rest = items-most items in
      omega (arith, a, b, here, rest)

  one-sum : (e : Expr) → sum_by operations (e ∷ []) ≡ operations e
  one-sum e = let s = sum_by-cons operations e [] in omega (arith, s)

  expressions-most : (kind : ExecKind) → sum_by operations (expressions kind) ≤ exec_operations kind
  expressions-most (Assign target value next) =
      let a = sum_by-append operations target.subs (value ∷ []) in
      let b = one-sum value in
      let c = subscripts-most target.subs in
      omega (arith, a, b, c)
  expressions-most (Print items next) = items-most items
  expressions-most (Passing next) = omega arith
  expressions-most (Test cond if_true if_false) = let s = one-sum cond in omega (arith, s)
  expressions-most (Sign value below at above) = let s = one-sum value in omega (arith, s)
  expressions-most (Pick value targets other) = let s = one-sum value in omega (arith, s)
  expressions-most (DoStart loop_no var first last step body exit) =
      let a = sum_by-cons operations first (last ∷ step ∷ []) in
      let b = sum_by-cons operations last (step ∷ []) in
      let c = one-sum step in
      omega (arith, a, b, c)
  expressions-most (DoNext loop_no var body exit) = omega arith
  expressions-most Ending = omega arith

  whole-most : (kind : ExecKind) → 2 * found (flat_map subexpressions (expressions kind)) ≤ exec_operations kind
  whole-most kind = let a = all-most (expressions kind) in let b = expressions-most kind in omega (arith, a, b)

  selectors-most : (kind : ExecKind) → 2 * found (flat_map subexpressions (selectors kind)) ≤ exec_operations kind
  selectors-most (DoStart loop_no var first last step body exit) = omega arith
  selectors-most (Assign target value next) = whole-most (Assign target value next)
  selectors-most (Print items next) = whole-most (Print items next)
  selectors-most (Passing next) = whole-most (Passing next)
  selectors-most (Test cond if_true if_false) = whole-most (Test cond if_true if_false)
  selectors-most (Sign value below at above) = whole-most (Sign value below at above)
  selectors-most (Pick value targets other) = whole-most (Pick value targets other)
  selectors-most (DoNext loop_no var body exit) = whole-most (DoNext loop_no var body exit)
  selectors-most Ending = whole-most Ending

  evaluated-most : (piece : PieceKind) (kind : ExecKind) → 2 * found (flat_map subexpressions (evaluated piece kind)) ≤ exec_operations kind
  evaluated-most Act kind = whole-most kind
  evaluated-most Branch kind = selectors-most kind
  evaluated-most Start kind = omega arith
  evaluated-most Join kind = omega arith
  evaluated-most Pass kind = omega arith
  evaluated-most Hold kind = omega arith
  evaluated-most End kind = omega arith

-- twice as many assignments are due as the executable has operations, at most
module _ (q : Program) (a : Availability) (are : (k : ℕ) (e : Expr) → slice_get a.candidates k ≡ Some e → IsCandidate q.names e) (k : ℕ) (exec : Exec) (at : slice_get q.execs k ≡ Some exec) where
  piece-most : (o : Option Piece) → o ≡ slice_get (flow q.execs).pieces (own_piece q k) → 2 * found q.names a are (computed_by q.execs (piece_in o)) ≤ exec_operations exec.kind
  piece-most None none = omega arith
  piece-most (Some piece) there =
      let less = slice_get_within (flow q.execs).pieces (own_piece q k) piece (sym there) in
      let r = first-found (is_piece_of q k) (flow q.execs).pieces less in
      let both : Some piece ≡ Some r.item = there ∙ r.is in
      let one : piece ≡ r.item = cc in
      let same : piece.exec ≡ k = ap (λ (p : Piece). p.exec) one ∙ eqb-true r.item.exec k (and_parts (r.item.exec == k) _ r.passes).0 in
      let kind : kind_of_piece q.execs piece ≡ exec.kind = ap (λ n. kind_in (slice_get q.execs n)) same ∙ ap kind_in at in
      subst (λ (x : ExecKind). 2 * found q.names a are (flat_map subexpressions (evaluated piece.kind x)) ≤ exec_operations exec.kind) (sym kind) (evaluated-most q.names a are piece.kind exec.kind)

  pub due-most : 2 * length (due q a (number_of a) k) ≤ exec_operations exec.kind
  due-most =
      let all = piece-most (slice_get (flow q.execs).pieces (own_piece q k)) refl in
      let some = due-length q a k in
      omega (arith, all, some)

-- so many steps of the shared form are few
module _ (q : Program) (a : Availability) (input : List ℤ) (few : (n : ℕ) → 2 * length (due q a (number_of a) (source q input n).position) ≤ operations_in (slice_get q.execs (source q input n).position)) where
  pub steps-taken : (n : ℕ) → 2 * shared_steps q a (number_of a) input n ≤ operations_of_run q input n + 2 * n
  steps-taken zero = omega arith
  steps-taken (suc n) =
      let rest = steps-taken n in
      let one = few n in
      let next : shared_steps q a (number_of a) input (suc n) ≡ shared_steps q a (number_of a) input n + (length (due q a (number_of a) (source q input n).position) + 1) = refl in
      let taken : operations_of_run q input (suc n) ≡ operations_of_run q input n + operations_in (slice_get q.execs (source q input n).position) = refl in
      omega (arith, rest, one, next, taken)

pub due-few : (q r : Program) (c : ClassTable) (a : Availability) (k : ℕ) (exec : Exec) (is : IsSharedBy q c a r) → slice_get q.execs k ≡ Some exec → 2 * length (due q a is.shared.number k) ≤ exec_operations exec.kind
due-few q r c a k exec is at =
    subst (λ (g : Expr → Option ℕ). 2 * length (due q a g k) ≤ exec_operations exec.kind) (numbers-told a is.shared.number is.shared.sharing.numbers)
    (due-most q a (λ j e there. (is.available.candidates.sound j e there).0) k exec at)

pub steps-taken-by : (q r : Program) (c : ClassTable) (a : Availability) (input : List ℤ) (n : ℕ) (is : IsSharedBy q c a r) → ((m : ℕ) → (source q input m).position < length q.execs) → 2 * shared_steps q a is.shared.number input n ≤ operations_of_run q input n + 2 * n
steps-taken-by q r c a input n is inside =
    subst (λ (g : Expr → Option ℕ). 2 * shared_steps q a g input n ≤ operations_of_run q input n + 2 * n) (numbers-told a is.shared.number is.shared.sharing.numbers)
    (steps-taken q a input (λ m.
    let item = item_at q.execs (source q input m).position (inside m) in
    let own = due-most q a (λ j e there. (is.available.candidates.sound j e there).0) (source q input m).position item.0 item.1 in
    let all : operations_in (slice_get q.execs (source q input m).position) ≡ exec_operations item.0.kind = ap operations_in item.1 in
    omega (arith, own, all)) n)

few-by : (steps taken most n : ℕ) → 2 * steps ≤ taken + 2 * n → taken ≤ most * n → 2 * steps ≤ (most + 2) * n
few-by steps taken most n first second = omega (arith, first, second)

pub steps-few : (q r : Program) (c : ClassTable) (a : Availability) (input : List ℤ) (n : ℕ) (is : IsSharedBy q c a r) → ((m : ℕ) → (source q input m).position < length q.execs) → operations_of_run q input n ≤ most_operations q * n → 2 * shared_steps q a is.shared.number input n ≤ (most_operations q + 2) * n
steps-few q r c a input n is inside few = few-by (shared_steps q a is.shared.number input n) (operations_of_run q input n) (most_operations q) n (steps-taken-by q r c a input n is inside) few
