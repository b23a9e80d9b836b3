-- How many operations resolved expressions take.
use Rattle.std.proofs.Common.{◌≡◌, ℕ, ◌+◌, ◌-◌, ◌*◌, ◌<◌, max, min, ◌∷◌, Bool, true, false, List, [], length, fold, if◌then◌else◌, Option, Some, None, option_map, refl, ap, ◌∙◌, arith}
use Rattle.std.specs.Prelude.{sum_by}
use Rattle.std.specs.Option.{is_some}
use Rattle.std.proofs.lemmas.List.Sums.{sum_by-cons}
use Rattle.op_table.specs.declared.Op.{Op}
use Rattle.f77_tree.specs.declared.expressions.Access.{Access}
use Rattle.f77_tree.specs.declared.expressions.Expr.{Expr}
use Rattle.f77_tree.specs.declared.expressions.Expr.TheVariants.{Read, Apply}
use Rattle.f77_tree.specs.declared.programs.NameInfo.{NameInfo}
use Rattle.f77_tree.specs.Declarations.{index_of}
use Rattle.f77_tree.specs.Operations.{operations, access_operations}
use Rattle.f77_tree.proofs.OperationLaws.{operations-Apply, operations-Read}
use Rattle.control_structure.specs.Counted.{counted}
use Rattle.declared_names.specs.Functions.{intrinsic_named}
use Rattle.layout_rules.specs.Types.{Intrinsic, is_array_in}
use Rattle.layout_rules.specs.Resolved.{in_dialect, nested, intrinsic_call, resolved_call}

-- two operations more for each subscript
steps : (args : List Expr) → sum_by (λ e. 2 + operations e) args ≡ 2 * length args + sum_by operations args
steps [] = refl
steps (e ∷ args) =
    let more = steps args in
    let here = sum_by-cons (λ e. 2 + operations e) e args in
    let plain = sum_by-cons operations e args in
    omega (arith, more, here, plain)

pub operations-access : (access : Access) → access_operations access ≡ 1 + 2 * length access.subs + sum_by operations access.subs
operations-access access = let more = steps access.subs in omega (arith, more)

two : (op : Op) (a b : Expr) → operations (Apply op (a ∷ b ∷ [])) ≡ 1 + operations a + operations b
two op a b =
    let whole = operations-Apply op (a ∷ b ∷ []) in
    let first = sum_by-cons operations a (b ∷ []) in
    let second = sum_by-cons operations b [] in
    omega (arith, whole, first, second)

nested-from : (op : Op) (e : Expr) (rest : List Expr) → operations (fold (λ e c. Apply op (e ∷ c ∷ [])) e rest) ≡ operations e + length rest + sum_by operations rest
nested-from op e [] = omega arith
nested-from op e (c ∷ rest) =
    let more = nested-from op (Apply op (e ∷ c ∷ [])) rest in
    let here = two op e c in
    let sum = sum_by-cons operations c rest in
    omega (arith, more, here, sum)

pub operations-nested : (op : Op) (args : List Expr) → operations (nested op args) ≡ sum_by operations args + max 1 (length args - 1)
operations-nested op [] = let whole = operations-Apply op [] in omega (arith, whole)
operations-nested op (a ∷ []) = let whole = operations-Apply op (a ∷ []) in omega (arith, whole)
operations-nested op (a ∷ b ∷ rest) =
    let more = nested-from op (Apply op (a ∷ b ∷ [])) rest in
    let here = two op a b in
    let first = sum_by-cons operations a (b ∷ rest) in
    let second = sum_by-cons operations b rest in
    omega (arith, more, here, first, second)

operations-intrinsic : (checked : Bool) (f : Option Intrinsic) (args : List Expr) → is_some (option_map (λ f. f.op) f) ≡ true → operations (intrinsic_call checked f args) ≡ sum_by operations args + max 1 (length args - 1)
operations-intrinsic checked None args some = absurd cc
operations-intrinsic checked (Some f) args some = operations-nested (in_dialect checked f.op) args

-- an element of an array
pub operations-element : (names : List NameInfo) (checked : Bool) (name : List ℕ) (args : List Expr) → is_array_in names name ≡ true → operations (resolved_call names checked name args) ≡ sum_by operations args + (1 + 2 * length args)
operations-element names checked name args array =
    let access : Access = record { name = index_of names name; subs = args } in
    let is : resolved_call names checked name args ≡ Read access = ap (λ (b : Bool). if b then Read access else intrinsic_call checked (intrinsic_named name) args) array in
    let same = ap operations is in
    let whole = operations-Read access in
    let counts = operations-access access in
    omega (arith, same, whole, counts)

-- an intrinsic function at its arguments
pub operations-function : (names : List NameInfo) (checked : Bool) (name : List ℕ) (args : List Expr) → is_array_in names name ≡ false → is_some (option_map (λ f. f.op) (intrinsic_named name)) ≡ true → operations (resolved_call names checked name args) ≡ sum_by operations args + max 1 (length args - 1)
operations-function names checked name args scalar some =
    ap (λ (b : Bool). operations (if b then Read (record { name = index_of names name; subs = args }) else intrinsic_call checked (intrinsic_named name) args)) scalar ∙ operations-intrinsic checked (intrinsic_named name) args some

pub operations-scalar : (k : ℕ) → operations (Read (record { name = k; subs = [] })) ≡ 1
operations-scalar k = operations-Read (record { name = k; subs = [] })

-- ---- counts in 32 bits

pub counted-sum : (result count extra sum more whole : ℕ) → result ≡ min (count + extra) 4294967295 → count ≡ counted sum → extra ≡ counted more → whole ≡ sum + more → result ≡ counted whole
counted-sum result count extra sum more whole is first second all = omega arith

pub counted-small : (n : ℕ) → n < 4294967296 → n ≡ counted n
counted-small n few = omega arith
