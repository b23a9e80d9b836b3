-- In which order dependences are told.
use Rattle.std.specs.Prelude.{ℕ}
use Rattle.std.specs.Option.{option_cmp}
use Rattle.std.specs.Ordering.{bool_cmp, nat_cmp, ordering_then}
use Rattle.std.specs.declared.cmp.Ordering.{Ordering}
use Rattle.graph_dependences.specs.declared.dependence.Dependence.{Dependence}
use Rattle.graph_dependences.specs.declared.kinds.Kind.{Kind}
use Rattle.graph_dependences.specs.declared.kinds.Kind.TheVariants as kind

abbrev pub kind_place : Kind → ℕ
kind_place kind.Flow = 0
kind_place kind.Anti = 1
kind_place kind.Output = 2
kind_place kind.Order = 3
kind_place kind.Control = 4

-- by the statement that comes first, that which depends on it, the kind, the token line, and whether a loop carries it
abbrev pub in_order : (a b : Dependence) → Ordering
in_order a b =
    ordering_then (nat_cmp a.from b.from) (ordering_then (nat_cmp a.to b.to) (ordering_then (nat_cmp (kind_place a.kind) (kind_place b.kind))
    (ordering_then (option_cmp nat_cmp a.token_line b.token_line) (bool_cmp a.is_carried b.is_carried))))
