-- Program units: the main program and subroutines, each ended by END (ANSI X3.9-1978, sections 2.4, 3.5 and 15.6).
use Rattle.std.specs.Prelude.{ℕ, zero, suc, Bool, true, false, ◌&&◌, ◌||◌, ◌==◌, if◌then◌else◌, List, [], ◌∷◌, map, flat_map, length, Option, Some, None, bytes_eq, slice_get, ◌≡◌, ◌<◌}
use Rattle.std.specs.List.{list_any, position_or_len, range_with_len, list_all}
use Rattle.f77_tree.specs.declared.statements.Labelled.{Labelled}
use Rattle.f77_tree.specs.declared.statements.RawExpr.{RawExpr}
use Rattle.f77_tree.specs.declared.statements.Stmt.{Stmt, more_of-Stmt}
use Rattle.f77_tree.specs.declared.statements.Stmt.TheVariants.{Program, Continue, Stop, ThenIf, ThenIf', Sub, CallTo, Back, End}

-- ---- units

abbrev pub is_end : Stmt → Bool
is_end End = true
is_end _ = false

abbrev pub in_first : Labelled → List (List Labelled) → List (List Labelled)
in_first s [] = (s ∷ []) ∷ []
in_first s (u ∷ us) = (s ∷ u) ∷ us

-- each unit up to and with its END; what stands after the last END is a unit too
abbrev pub units : List Labelled → List (List Labelled)
units [] = []
units (s ∷ rest) = if is_end s.stmt then (s ∷ []) ∷ units rest else in_first s (units rest)

abbrev pub unit_or_none : Option (List Labelled) → List Labelled
unit_or_none None = []
unit_or_none (Some u) = u

-- a unit, counted from 0: the main program is the first
abbrev pub unit_at : List (List Labelled) → ℕ → List Labelled
unit_at us k = unit_or_none (slice_get us k)

-- ---- a unit by itself

-- SUBROUTINE as PROGRAM, CALL as CONTINUE, RETURN as STOP
abbrev pub stand_in_alone : Stmt → Stmt
stand_in_alone (Sub name dummies) = Program
stand_in_alone (CallTo name arguments) = Continue
stand_in_alone Back = Stop
stand_in_alone s = s

-- the same after the condition of a logical IF
abbrev pub stand_in : Stmt → Stmt
stand_in (ThenIf' condition shape (more_of-Stmt stmt rest)) = ThenIf condition (stand_in_alone stmt)
stand_in s = stand_in_alone s

abbrev pub standing_in : List Labelled → List Labelled
standing_in u = map (λ (s : Labelled). record s { stmt = stand_in s.stmt }) u

-- ---- statements of subroutines

-- the statement after the condition of a logical IF, or itself
abbrev pub inner : Stmt → Stmt
inner (ThenIf' condition shape (more_of-Stmt stmt rest)) = stmt
inner s = s

-- the condition of a logical IF
abbrev pub guard_of : Stmt → Option RawExpr
guard_of (ThenIf' condition shape row) = Some condition
guard_of _ = None

pub record Call : Type 0 where
  pub name : List ℕ
  pub arguments : List (List ℕ)

abbrev pub call_to : List ℕ → List (List ℕ) → Call
call_to name arguments = record { name = name; arguments = arguments }

abbrev pub call_by : Stmt → Option Call
call_by (CallTo name arguments) = Some (call_to name arguments)
call_by _ = None

-- the CALL in a statement, alone or after a condition
abbrev pub call_in : Stmt → Option Call
call_in s = call_by (inner s)

-- RETURN, and no RETURN after a condition
abbrev pub is_return : Stmt → Bool
is_return Back = true
is_return _ = false

abbrev pub sub_name : Stmt → Option (List ℕ)
sub_name (Sub name dummies) = Some name
sub_name _ = None

abbrev pub sub_dummies : Stmt → List (List ℕ)
sub_dummies (Sub name dummies) = dummies
sub_dummies _ = []

-- the dummy arguments of a unit
abbrev pub dummies_of : List Labelled → List (List ℕ)
dummies_of u = flat_map (λ s. sub_dummies s.stmt) u

-- ---- calls

abbrev pub is_named : List ℕ → Option (List ℕ) → Bool
is_named name None = false
is_named name (Some other) = bytes_eq name other

-- a SUBROUTINE of this name
abbrev pub is_sub_of : List ℕ → Labelled → Bool
is_sub_of name s = is_named name (sub_name s.stmt)

-- the index of the first unit with a SUBROUTINE of this name
abbrev pub unit_of : List (List Labelled) → List ℕ → ℕ
unit_of us name = position_or_len (λ u. list_any (is_sub_of name) u) us

abbrev pub calls_unit : List (List Labelled) → ℕ → Option Call → Bool
calls_unit us k None = false
calls_unit us k (Some call) = unit_of us call.name == k

-- the unit j has a CALL of the unit k
abbrev pub calls : List (List Labelled) → (j k : ℕ) → Bool
calls us j k = list_any (λ s. calls_unit us k (call_in s.stmt)) (unit_at us j)

-- the unit j calls the unit k through at most so many calls, and through one at least
abbrev pub reaches : List (List Labelled) → (depth j k : ℕ) → Bool
reaches us zero j k = false
reaches us (suc depth) j k = list_any (λ m. calls us j m && (m == k || reaches us depth m k)) (range_with_len 0 (length us))

-- a unit that runs: the main program, or one that it calls through any number of calls
abbrev pub runs : List (List Labelled) → ℕ → Bool
runs us k = k == 0 || reaches us (length us) 0 k

-- as many arguments as dummies
abbrev pub passes : List (List Labelled) → Option Call → Bool
passes us None = true
passes us (Some call) = length call.arguments == length (dummies_of (unit_at us (unit_of us call.name)))

-- What the refusals of units leave: the main program is no subroutine and has no dummies, and CALLs pass as many arguments as
-- there are dummies.
pub record AreFit (us : List (List Labelled)) : Type 0 where
  pub subs : (name : List ℕ) → 0 < unit_of us name
  pub dummies : dummies_of (unit_at us 0) ≡ []
  pub fit : (k : ℕ) → list_all (λ s. passes us (call_in s.stmt)) (unit_at us k) ≡ true
