-- Copies of statements, and what their bodies begin with.
use Rattle.std.specs.Prelude.{◌≡◌, ℕ, List, map, Option, Some, None, option_map, Vec}
use Rattle.std.specs.declared.alloc.Global.{Global}
use Rattle.fortran_tree.specs.declared.name_table.Name.{Name}
use Rattle.fortran_tree.specs.declared.statements.Statement.{Statement}
use Rattle.fortran_tree.specs.declared.tokens.Node.{Node}
use Rattle.fortran_tree.specs.Nodes.{Mark, marks, AreCopies, name_of, number_of}

-- the name that a node is, if there is a node
abbrev pub name_at : Option Node → Option Name
name_at None = None
name_at (Some node) = name_of node

-- the number that a node is, if there is a node
abbrev pub number_at : Option Node → Option ℕ
number_at None = None
number_at (Some node) = number_of node

-- the tokens and brackets of a condition, if there is one
abbrev pub condition_marks : Option (Vec Node Global) → Option (List (List Mark))
condition_marks guard = option_map (λ condition. map marks condition.items) guard

-- the same statement, in memory of its own
pub record IsCopy (statement copy : Statement) : Type 0 where
  pub label : copy.label ≡ statement.label
  pub place : copy.place ≡ statement.place
  pub guard : condition_marks statement.guard ≡ condition_marks copy.guard
  pub head : copy.head ≡ statement.head
  pub body : AreCopies statement.body.items copy.body.items
