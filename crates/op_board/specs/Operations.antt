-- The operations of an executable, in the order in which they are evaluated, and where each has its operands from.
use Rattle.std.specs.Prelude.{ℕ, ℤ, pos, ◌*ℤ◌, Bool, true, false, List, [], ◌∷◌, ◌++◌, length, map, Option, Some, None}
use Rattle.op_table.specs.declared.Op.{Op}
use Rattle.op_table.specs.declared.Op.TheVariants.{Bound, Place, Step}
use Rattle.op_table.specs.Known.{folded}
use Rattle.op_table.specs.Words.{truth}
use Rattle.f77_tree.specs.declared.declarations.Dim.{Dim}
use Rattle.f77_tree.specs.declared.expressions.Access.{Access}
use Rattle.f77_tree.specs.declared.expressions.Expr.{Expr, Row_of-Expr, end_of-Expr, more_of-Expr}
use Rattle.f77_tree.specs.declared.expressions.Expr.TheVariants.{Const, Truth, Input, Read, Read', Apply'}
use Rattle.f77_tree.specs.declared.programs.ExecKind.{ExecKind}
use Rattle.f77_tree.specs.declared.programs.ExecKind.TheVariants.{Assign, Print, Test, Sign, Pick, DoStart, DoNext}
use Rattle.f77_tree.specs.declared.programs.Item.{Item}
use Rattle.f77_tree.specs.declared.programs.Item.TheVariants.{Value, Chars}
use Rattle.f77_tree.specs.declared.programs.NameInfo.{NameInfo}
use Rattle.f77_tree.specs.Known.{known, row_known}
use Rattle.f77_tree.specs.Value.{dims_of, extent}
use Rattle.cfg_build.specs.declared.pieces.PieceKind.{PieceKind}
use Rattle.cfg_build.specs.declared.pieces.PieceKind.TheVariants as kind

-- what an operation works on: a value that is known before the program runs, or what the operation of its piece with this number
-- gives
pub data Operand : Type 0 where
  Known : (value : ℤ) → Operand
  From : (number : ℕ) → Operand

-- What operations do. A load and a store carry what is known of the subscripts of their access: they need fewer lines where all
-- are known.
pub data Work : Type 0 where
  -- gives the word of a name: its first one, or that at a place, which is its offset in the array
  Load : (name : ℕ) (subs : List (Option ℤ)) → Work
  Operate : (op : Op) → Work
  -- writes the word of a name, in the same way
  Store : (name : ℕ) (subs : List (Option ℤ)) → Work
  -- gives the next word of the data
  Take : Work
  -- writes a line of output
  Write : (items : List Item) → Work
  -- begins a DO, and increments it
  Begin : (loop_no var : ℕ) → Work
  Advance : (loop_no var : ℕ) → Work
  -- tells the edge by which control leaves a branch: by a truth, by a sign, by a number up to this count, by what is left of a DO's
  -- count; and a hold always takes its first edge
  DecideTruth : Work
  DecideSign : Work
  DecideNumber : (count : ℕ) → Work
  DecideTrips : (loop_no : ℕ) → Work
  DecideFirst : Work

pub record Operation : Type 0 where
  pub work : Work
  pub operands : List Operand

-- an operation whose value goes to another one
abbrev pub gives_value : Work → Bool
gives_value (Load name subs) = true
gives_value (Operate op) = true
gives_value Take = true
gives_value _ = false

abbrev pub is_decision : Work → Bool
is_decision DecideTruth = true
is_decision DecideSign = true
is_decision (DecideNumber count) = true
is_decision (DecideTrips loop_no) = true
is_decision DecideFirst = true
is_decision _ = false

-- what is known of an operand
abbrev pub known_of : Operand → Option ℤ
known_of (Known value) = Some value
known_of (From number) = None

-- ---- expressions

-- the operations of a piece up to some place, and the operand that the last thing evaluated is; or its operands
pub record Compiled : Type 0 where
  pub done : List Operation
  pub operand : Operand

pub record CompiledRow : Type 0 where
  pub done : List Operation
  pub operands : List Operand

-- one operation more, which gives the operand
abbrev pub with_operation : List Operation → Work → List Operand → Compiled
with_operation done work operands = record { done = done ++ ((record { work = work; operands = operands }) ∷ []); operand = From (length done) }

abbrev pub operated_by : List Operation → Op → List Operand → Option ℤ → Compiled
operated_by done op operands None = with_operation done (Operate op) operands
operated_by done op operands (Some value) = record { done = done; operand = Known value }

-- an operator at these operands: where its value is known it is no operation
abbrev pub operated : List Operation → Op → List Operand → Compiled
operated done op operands = operated_by done op operands (folded op (map known_of operands))

-- A place moved by a subscript: the subscript less the lower bound, if it lies within the bounds, times the words of each part.
abbrev pub place_moved : Operand → Dim → (size : ℤ) → Compiled → Compiled
place_moved place dim size sub =
    let offset = operated sub.done Bound (sub.operand ∷ Known dim.lo ∷ Known dim.hi ∷ []) in
    operated offset.done Place (place ∷ offset.operand ∷ Known size ∷ [])

-- an element has its place as an operand, and a scalar has none
abbrev pub place_operands : {A : Type 0} → List A → Operand → List Operand
place_operands [] place = []
place_operands (sub ∷ subs) place = place ∷ []

abbrev mutual
  -- the operations so far, and those of an expression after them
  pub compiled : List NameInfo → List Operation → Expr → Compiled
  compiled names done (Const z) = record { done = done; operand = Known z }
  compiled names done (Truth b) = record { done = done; operand = Known (truth b) }
  compiled names done Input = with_operation done Take []
  compiled names done (Read' name shape subs) =
      let place = place_compiled names done (dims_of names name) (pos 1) (Known (pos 0)) subs in
      with_operation place.done (Load name (row_known subs)) (place_operands (row_known subs) place.operand)
  compiled names done (Apply' op shape args) = let c = row_compiled names done args in operated c.done op c.operands

  -- of operands, from left to right
  pub row_compiled : {m : _} → List NameInfo → List Operation → Row_of-Expr m → CompiledRow
  row_compiled names done end_of-Expr = record { done = done; operands = [] }
  row_compiled names done (more_of-Expr e rest) =
      let first = compiled names done e in
      let others = row_compiled names first.done rest in
      record { done = others.done; operands = first.operand ∷ others.operands }

  -- of subscripts, which move a place one after another; the parts of the first dimension are the smallest
  pub place_compiled : {m : _} → List NameInfo → List Operation → List Dim → (size : ℤ) → Operand → Row_of-Expr m → Compiled
  place_compiled names done dims size place end_of-Expr = record { done = done; operand = place }
  place_compiled names done [] size place (more_of-Expr e rest) = record { done = done; operand = place }
  place_compiled names done (dim ∷ dims) size place (more_of-Expr e rest) =
      let next = place_moved place dim size (compiled names done e) in
      place_compiled names next.done dims (size *ℤ extent dim) next.operand rest

-- of the subscripts of an access, and its place
abbrev pub place_of_read : List NameInfo → List Operation → Expr → Compiled
place_of_read names done (Read' name shape subs) = place_compiled names done (dims_of names name) (pos 1) (Known (pos 0)) subs
place_of_read names done _ = record { done = done; operand = Known (pos 0) }

-- of the items of a PRINT, of which texts are no operands
abbrev pub items_compiled : List NameInfo → List Operation → List Item → CompiledRow
items_compiled names done [] = record { done = done; operands = [] }
items_compiled names done (Chars text ∷ items) = items_compiled names done items
items_compiled names done (Value e ∷ items) =
    let first = compiled names done e in
    let others = items_compiled names first.done items in
    record { done = others.done; operands = first.operand ∷ others.operands }

-- ---- executables

-- the last operation of a piece, which gives no value
abbrev pub ended : List Operation → Work → List Operand → List Operation
ended done work operands = done ++ ((record { work = work; operands = operands }) ∷ [])

-- the target's subscripts come first, then the value, and then the word is stored
abbrev pub assign_operations : List NameInfo → Access → Expr → List Operation
assign_operations names target e =
    let place = place_of_read names [] (Read target) in
    let value = compiled names place.done e in
    ended value.done (Store target.name (map known target.subs)) (place_operands target.subs place.operand ++ value.operand ∷ [])

abbrev pub print_operations : List NameInfo → List Item → List Operation
print_operations names items = let c = items_compiled names [] items in ended c.done (Write items) c.operands

-- a step that isn't known to be other than 0 is an operation, which traps at 0
abbrev pub begin_operations : List NameInfo → (loop_no var : ℕ) → (first last step : Expr) → List Operation
begin_operations names loop_no var first last step =
    let a = compiled names [] first in
    let b = compiled names a.done last in
    let c = compiled names b.done step in
    let d = operated c.done Step (c.operand ∷ []) in
    ended d.done (Begin loop_no var) (a.operand ∷ b.operand ∷ d.operand ∷ [])

-- the selector of a branch, and the decision by it
abbrev pub decide_operations : List NameInfo → Work → Expr → List Operation
decide_operations names work selector = let c = compiled names [] selector in ended c.done work (c.operand ∷ [])

abbrev pub act_operations : List NameInfo → ExecKind → List Operation
act_operations names (Assign target e next) = assign_operations names target e
act_operations names (Print items next) = print_operations names items
act_operations names (DoStart loop_no var first last step body exit) = begin_operations names loop_no var first last step
act_operations names (DoNext loop_no var body exit) = ended [] (Advance loop_no var) []
act_operations names _ = []

abbrev pub branch_operations : List NameInfo → ExecKind → List Operation
branch_operations names (Test cond if_true if_false) = decide_operations names DecideTruth cond
branch_operations names (Sign e neg zero' pos') = decide_operations names DecideSign e
branch_operations names (Pick e targets other) = decide_operations names (DecideNumber (length targets)) e
branch_operations names (DoStart loop_no var first last step body exit) = ended [] (DecideTrips loop_no) []
branch_operations names _ = []

-- The operations of a piece that is a part of an executable of this kind: an act's, those that decide which edge leaves a branch, and
-- that of a hold.
abbrev pub operations_of : List NameInfo → PieceKind → ExecKind → List Operation
operations_of names kind.Act exec = act_operations names exec
operations_of names kind.Branch exec = branch_operations names exec
operations_of names kind.Hold exec = ended [] DecideFirst []
operations_of names _ exec = []
