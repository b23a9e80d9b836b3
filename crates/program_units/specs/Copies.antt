-- Copies of units: what stands for each statement of a unit where it is called.
use Rattle.std.specs.Prelude.{ℕ, zero, suc, ◌+◌, Bool, not, ◌&&◌, ◌==◌, if◌then◌else◌, List, [], ◌∷◌, ◌++◌, map, fold, length, Option, Some, None, slice_get}
use Rattle.op_table.specs.declared.Op.{Op}
use Rattle.f77_tree.specs.declared.statements.Labelled.{Labelled}
use Rattle.f77_tree.specs.declared.statements.RawExpr.{RawExpr, Row_of-RawExpr, end_of-RawExpr, more_of-RawExpr}
use Rattle.f77_tree.specs.declared.statements.RawExpr.TheVariants.{Int, Truth, Named, Call as Called, Call', Apply, Apply'}
use Rattle.f77_tree.specs.declared.statements.RawItem.{RawItem}
use Rattle.f77_tree.specs.declared.statements.RawItem.TheVariants.{Value, Chars}
use Rattle.f77_tree.specs.declared.statements.Stmt.{Stmt, more_of-Stmt}
use Rattle.f77_tree.specs.declared.statements.Stmt.TheVariants.{Assign, Print, Take, Continue, GoTo, PickGoTo, SignIf, ThenIf, ThenIf', BlockIf, ElseIf, EndIf, Do, Back}
use Rattle.layout_rules.specs.Declarations.{is_array}
use Rattle.declared_names.specs.Functions.{intrinsic_named}
use Rattle.layout_rules.specs.Labels.{statement_of}
use Rattle.layout_rules.specs.Types.{Intrinsic}
use Rattle.program_units.specs.Units.{Call, unit_at, unit_of, call_in, guard_of}
use Rattle.program_units.specs.Entities.{Entity, stands_for}
use Rattle.program_units.specs.Names.{name_for}
use Rattle.program_units.specs.Widths.{is_kept, labels, body_labels, labels_before}

-- what changes in a copy: names, calls of intrinsic functions, jumps and ends of DOs
pub record Change : Type 0 where
  pub name : List ℕ → List ℕ
  pub arrays : List ℕ → Bool
  pub copied : Bool
  pub jump : ℕ → ℕ
  pub end : ℕ → ℕ
  pub back : ℕ

-- the operator at the arguments, pair by pair from the left
abbrev pub pairs : Op → List RawExpr → RawExpr
pairs op [] = Apply op []
pairs op (a ∷ []) = Apply op (a ∷ [])
pairs op (a ∷ b ∷ rest) = fold (λ e c. Apply op (e ∷ c ∷ [])) (Apply op (a ∷ b ∷ [])) rest

abbrev pub intrinsic_or : Option Intrinsic → List ℕ → List RawExpr → RawExpr
intrinsic_or None name args = Called name args
intrinsic_or (Some f) name args = pairs f.op args

abbrev pub changed_call : Change → List ℕ → List RawExpr → RawExpr
changed_call c name args = if c.copied && not (c.arrays name) then intrinsic_or (intrinsic_named name) (c.name name) args else Called (c.name name) args

abbrev mutual
  pub changed : Change → RawExpr → RawExpr
  changed c (Int z) = Int z
  changed c (Truth b) = Truth b
  changed c (Named name) = Named (c.name name)
  changed c (Call' name shape args) = changed_call c name (changed_row c args)
  changed c (Apply' op shape args) = Apply op (changed_row c args)

  pub changed_row : {m : _} → Change → Row_of-RawExpr m → List RawExpr
  changed_row c end_of-RawExpr = []
  changed_row c (more_of-RawExpr e rest) = changed c e ∷ changed_row c rest

abbrev pub changed_item : Change → RawItem → RawItem
changed_item c (Value e) = Value (changed c e)
changed_item c (Chars text) = Chars text

abbrev pub changed_step : Change → Option RawExpr → Option RawExpr
changed_step c None = None
changed_step c (Some e) = Some (changed c e)

abbrev pub changed_stmt : Change → Stmt → Stmt
changed_stmt c (Assign target value) = Assign (changed c target) (changed c value)
changed_stmt c (Print items) = Print (map (changed_item c) items)
changed_stmt c (Take targets) = Take (map (changed c) targets)
changed_stmt c (GoTo label) = GoTo (c.jump label)
changed_stmt c (PickGoTo labels e) = PickGoTo (map c.jump labels) (changed c e)
changed_stmt c (SignIf e a b d) = SignIf (changed c e) (c.jump a) (c.jump b) (c.jump d)
changed_stmt c (ThenIf' condition shape (more_of-Stmt stmt rest)) = ThenIf (changed c condition) (changed_stmt c stmt)
changed_stmt c (BlockIf e) = BlockIf (changed c e)
changed_stmt c (ElseIf e) = ElseIf (changed c e)
changed_stmt c (Do label variable first last step) = Do (c.end label) (c.name variable) (changed c first) (changed c last) (changed_step c step)
changed_stmt c Back = GoTo c.back
changed_stmt c s = s

-- ---- labels of a copy before which so many labels stand

abbrev pub number_at : List (List Labelled) → (depth k base place : ℕ) → ℕ
number_at us depth k base place = base + labels_before us depth k place + 1

abbrev pub end_by : List (List Labelled) → (depth : ℕ) → Option Call → ℕ → ℕ
end_by us depth None n = n
end_by us depth (Some call) n = n + body_labels us depth (unit_of us call.name) + 1

abbrev pub call_at : Option Labelled → Option Call
call_at None = None
call_at (Some s) = call_in s.stmt

abbrev pub change_in : List (List Labelled) → (depth k base : ℕ) → List Entity → Change
change_in us depth k base arguments = record {
  name = λ x. if k == 0 then x else name_for us (stands_for us k arguments x);
  arrays = is_array (unit_at us k);
  copied = not (k == 0);
  jump = λ l. number_at us depth k base (statement_of (unit_at us k) l);
  end = λ l. end_by us depth (call_at (slice_get (unit_at us k) (statement_of (unit_at us k) l))) (number_at us depth k base (statement_of (unit_at us k) l));
  back = number_at us depth k base (length (unit_at us k));
}

-- ---- copies

-- a statement that was put in, or a copied one
abbrev pub bare : (label line : ℕ) → Stmt → Labelled
bare label line stmt = record { label = label; line = line; stmt = stmt }

-- what stands for a CALL, alone or after a condition: the copy between two labels, a and b
abbrev pub around : Change → (a b line : ℕ) → Option RawExpr → List Labelled → List Labelled
around c a b line None body = bare a line Continue ∷ (body ++ bare b line Continue ∷ [])
around c a b line (Some condition) body = bare a line Continue ∷ bare 0 line (BlockIf (changed c condition)) ∷ (body ++ bare 0 line EndIf ∷ bare b line Continue ∷ [])

-- what makes the copy of a unit whose dummies stand for these, before which so many labels stand
abbrev pub Copying : Type 0
Copying = (k : ℕ) → (arguments : List Entity) → (base : ℕ) → List Labelled

-- a copy that is being made: of the unit k, whose dummies stand for these, before which `base` labels stand
pub record Context : Type 0 where
  pub depth : ℕ
  pub unit : ℕ
  pub arguments : List Entity
  pub base : ℕ

abbrev pub changes : List (List Labelled) → Context → Change
changes us c = change_in us c.depth c.unit c.base c.arguments

-- what stands for a statement, the first label of which would be m
abbrev pub piece_by : Copying → List (List Labelled) → Context → (m : ℕ) → Labelled → Option Call → List Labelled
piece_by body us c m s None = bare (if s.label == 0 then 0 else m) s.line (changed_stmt (changes us c) s.stmt) ∷ []
piece_by body us c m s (Some call) = around (changes us c) m (m + body_labels us c.depth (unit_of us call.name) + 1) s.line (guard_of s.stmt) (body (unit_of us call.name) (map (stands_for us c.unit c.arguments) call.arguments) m)

abbrev pub piece : Copying → List (List Labelled) → Context → (m : ℕ) → Labelled → List Labelled
piece body us c m s = if is_kept c.unit s.stmt then piece_by body us c m s (call_in s.stmt) else []

-- what stands for statements of a unit, before which so many labels of the copy stand
abbrev pub pieces : Copying → List (List Labelled) → Context → (before : ℕ) → List Labelled → List Labelled
pieces body us c before [] = []
pieces body us c before (s ∷ rest) = piece body us c (c.base + before + 1) s ++ pieces body us c (before + labels (body_labels us c.depth) us c.unit s) rest

abbrev pub copy : List (List Labelled) → (depth : ℕ) → Copying
copy us zero k arguments base = []
copy us (suc depth) k arguments base = pieces (copy us depth) us (record { depth = depth; unit = k; arguments = arguments; base = base }) 0 (unit_at us k)
