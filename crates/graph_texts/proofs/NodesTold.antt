-- The lines of nodes, and of the operands of operations.
use Rattle.std.proofs.Common.{◌≡◌, ℕ, zero, suc, ◌+◌, ◌≤◌, Bool, true, false, nat_lt, List, [], ◌∷◌, ◌++◌, length, take, drop, map, Some, None, codes, refl, sym, ap, ◌∙◌, append-nil, arith}
use Rattle.std.proofs.lemmas.Bool.Decides.{nat_tests}
use Rattle.std.proofs.lemmas.List.{length-map, take-append-drop}
use Rattle.std.proofs.lemmas.List.Concat.{flat_map-append}
use Rattle.std.specs.Prelude.{filter, flat_map, slice_get}
use Rattle.std.specs.Fmt.{decimal}
use Rattle.std.specs.List.{range_with_len}
use mathlib.Core.Path.{fun_ext}
use Rattle.firing.specs.declared.system.NodeName.{NodeName}
use Rattle.firing.specs.declared.system.NodeName.TheVariants.{Act, Merge, Switch, Op}
use Rattle.op_board.specs.Operations as board
use Rattle.op_board.specs.OperationNets.{OperationNet, first_operation, needed, operation_at}
use Rattle.operation_lists.specs.declared.operations.Operand.{Operand}
use Rattle.operation_tables.specs.Telling.{IsOperation, node_operand, node_operands, number_of, operation_name, piece_of}
use Rattle.operation_tables.specs.declared.telling.OpName.{OpName}
use Rattle.graph_texts.specs.GivenText.{given_text}
use Rattle.graph_texts.specs.GraphText.{has_operands, numbers_text, operand_text, operands_line, operands_text, value_text}
use Rattle.graph_texts.specs.OperationNames.{op_name, work_name}

-- ---- operations

-- what it does
pub work_told : (x : OperationNet) (name : NodeName) (piece i : ℕ) (bytes : List ℕ) (what : OpName) → name ≡ Op piece i → bytes ≡ op_name what → what ≡ operation_name (operation_at x (piece_of name) (number_of name)).work → 32 ∷ bytes ≡ 32 ∷ work_name (operation_at x piece i).work
work_told x name piece i bytes what is text names =
    ap (λ (b : List ℕ). 32 ∷ b) (text ∙ ap op_name (names ∙ ap (λ (n : NodeName). operation_name (operation_at x (piece_of n) (number_of n)).work) is))

-- the lines that it needs
pub lines_told : (x : OperationNet) (name : NodeName) (piece i lines : ℕ) (is_member : ℕ → Bool) → name ≡ Op piece i → lines ≡ x.net.routing.lines → ((line : ℕ) → is_member line ≡ x.needs (piece_of name) (number_of name) line) → numbers_text (filter is_member (range_with_len 0 lines)) ≡ numbers_text (needed x piece i)
lines_told x name piece i lines is_member is count members =
    let same : is_member ≡ x.needs piece i = fun_ext members ∙ ap (λ (n : NodeName). x.needs (piece_of n) (number_of n)) is in
    ap (λ (test : ℕ → Bool). numbers_text (filter test (range_with_len 0 lines))) same
    ∙ ap (λ n. numbers_text (filter (x.needs piece i) (range_with_len 0 n))) count

-- ---- operands

given_as : (x : OperationNet) (piece : ℕ) (op : board.Operand) → given_text (node_operand (first_operation x piece) op) ≡ operand_text x piece op
given_as x piece (board.From number) = refl
given_as x piece (board.Known z) = refl

given_all : (x : OperationNet) (piece : ℕ) (ops : List board.Operand) → flat_map given_text (map (node_operand (first_operation x piece)) ops) ≡ flat_map (operand_text x piece) ops
given_all x piece [] = refl
given_all x piece (op ∷ ops) =
    ap (λ text. text ++ flat_map given_text (map (node_operand (first_operation x piece)) ops)) (given_as x piece op)
    ∙ ap (λ text. operand_text x piece op ++ text) (given_all x piece ops)

-- the operands of an operation, as a net tells them
abbrev pub given_of : OperationNet → NodeName → List Operand
given_of x name = node_operands x (piece_of name) (number_of name)

pub operands_given : (x : OperationNet) (name : NodeName) → IsOperation name → flat_map given_text (given_of x name) ≡ operands_text x name
operands_given x (Op piece i) is = given_all x piece (operation_at x piece i).operands
operands_given x (Switch piece line) is = absurd is
operands_given x (Merge piece line) is = absurd is
operands_given x (Act piece) is = absurd is

take_one_more : {X : Type 0} (xs : List X) (j : ℕ) (x : X) → slice_get xs j ≡ Some x → take (suc j) xs ≡ take j xs ++ x ∷ []
take_one_more [] j x at = let e : None ≡ Some x = at in absurd cc
take_one_more (y ∷ xs) zero x at = by at
  where
    by : Some y ≡ Some x → (y ∷ take 0 xs) ≡ (x ∷ [])
    by same = cc
take_one_more (y ∷ xs) (suc j) x at = ap (λ rest. y ∷ rest) (take_one_more xs j x at)

all_of_them : {X : Type 0} (xs : List X) → take (length xs) xs ≡ xs
all_of_them [] = refl
all_of_them (x ∷ xs) = ap (λ rest. x ∷ rest) (all_of_them xs)

-- the first of them
abbrev pub given_first : List Operand → (count : ℕ) → List ℕ
given_first operands count = flat_map given_text (take count operands)

pub given_next : (operands : List Operand) (i : ℕ) (operand : Operand) → Some operand ≡ slice_get operands i → given_first operands (i + 1) ≡ given_first operands i ++ given_text operand
given_next operands i operand at =
    let next : i + 1 ≡ suc i = omega arith in
    ap (given_first operands) next
    ∙ ap (flat_map given_text) (take_one_more operands i operand (sym at))
    ∙ flat_map-append given_text (take i operands) (operand ∷ [])
    ∙ ap (λ last. given_first operands i ++ last) (append-nil (given_text operand))

pub given_after : (operands : List Operand) (count : ℕ) → flat_map given_text operands ≡ given_first operands count ++ flat_map given_text (drop count operands)
given_after operands count =
    ap (flat_map given_text) (sym (take-append-drop count operands))
    ∙ flat_map-append given_text (take count operands) (drop count operands)

pub given_whole : (x : OperationNet) (name : NodeName) (i count : ℕ) → IsOperation name → count ≡ length (operation_at x (piece_of name) (number_of name)).operands → i ≤ count → count ≤ i → given_first (given_of x name) i ≡ operands_text x name
given_whole x name i count is total below above =
    let operands = (operation_at x (piece_of name) (number_of name)).operands in
    let same : i ≡ count = omega (arith, below, above) in
    let all : i ≡ length (given_of x name) = same ∙ total ∙ sym (length-map operands (node_operand (first_operation x (piece_of name)))) in
    ap (given_first (given_of x name)) all
    ∙ ap (flat_map given_text) (all_of_them (given_of x name))
    ∙ operands_given x name is

-- ---- lines of operands

not_none : (n : ℕ) → nat_lt 0 (suc n) ≡ false → ⊥
not_none n is = grind (arith, nat_tests, is)

pub is_operation : (x : OperationNet) (name : NodeName) → has_operands x name ≡ true → IsOperation name
is_operation x (Op piece i) is = tt
is_operation x (Switch piece line) is = let e : false ≡ true = is in absurd cc
is_operation x (Merge piece line) is = let e : false ≡ true = is in absurd cc
is_operation x (Act piece) is = let e : false ≡ true = is in absurd cc

line_of : (x : OperationNet) (k piece : ℕ) (ops : List board.Operand) → nat_lt 0 (length ops) ≡ true → codes "V " ++ decimal k ++ flat_map (operand_text x piece) ops ++ 10 ∷ [] ≡ operands_line x k piece ops
line_of x k piece [] is = let e : false ≡ true = is in absurd cc
line_of x k piece (op ∷ ops) is = refl

pub some_line : (x : OperationNet) (k : ℕ) (name : NodeName) → has_operands x name ≡ true → codes "V " ++ decimal k ++ operands_text x name ++ 10 ∷ [] ≡ value_text x k name
some_line x k (Op piece i) is = line_of x k piece (operation_at x piece i).operands is
some_line x k (Switch piece line) is = let e : false ≡ true = is in absurd cc
some_line x k (Merge piece line) is = let e : false ≡ true = is in absurd cc
some_line x k (Act piece) is = let e : false ≡ true = is in absurd cc

no_line_of : (x : OperationNet) (k piece : ℕ) (ops : List board.Operand) → nat_lt 0 (length ops) ≡ false → [] ≡ operands_line x k piece ops
no_line_of x k piece [] is = refl
no_line_of x k piece (op ∷ ops) is = absurd (not_none (length ops) is)

pub no_line : (x : OperationNet) (k : ℕ) (name : NodeName) → has_operands x name ≡ false → [] ≡ value_text x k name
no_line x k (Op piece i) is = no_line_of x k piece (operation_at x piece i).operands is
no_line x k (Switch piece line) is = refl
no_line x k (Merge piece line) is = refl
no_line x k (Act piece) is = refl
