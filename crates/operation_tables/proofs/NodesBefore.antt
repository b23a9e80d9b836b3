-- A token line stands before one node at most.
use Rattle.std.proofs.Common.{◌≡◌, ◌<◌, ◌⊎◌, inl, inr, ℕ, ◌+◌, ◌&&◌, ◌==◌, Bool, true, false, Option, Some, None, refl, sym, ap, ◌∙◌, subst, arith}
use Rattle.std.proofs.lemmas.Bool.{and_from, and_parts, eqb-true, eq-eqb, ne_eqb}
use Rattle.closed_walks.specs.Graph.{Graph, to}
use Rattle.firing.specs.declared.system.NodeName.{NodeName}
use Rattle.firing.specs.declared.system.NodeName.TheVariants.{Act, Merge, Switch, Op}
use Rattle.list_laws.specs.Member.{Member}
use Rattle.net_board.specs.Nodes.{graph_in, is_acting, kind_in, switch_lines}
use Rattle.net_board.specs.Tokens.{leads_to}
use Rattle.net_board.proofs.NodeLaws.{piece_of}
use Rattle.operation_tables.specs.PlanFacts.{PlanFacts}
use Rattle.op_board.specs.OperationNets.{OperationNet, first_operation, needing_before, operation_count, operation_node}
use Rattle.op_board.proofs.FiringOperations.{both_ways}
use Rattle.op_board.proofs.NeededLines.{passing_some}
use Rattle.op_board.proofs.OperationNumbers.{IsOperationNamed, not_touched, operation_named, switch_line}
use Rattle.operation_tables.specs.Waits.{IsNodeBefore, goes_through, node_total, stands_at}
use Rattle.operation_tables.proofs.NodeNames.{operation_name_at, operation_within, same_nodes}

-- a test that holds of one number
pub holds_at_one : (test : Bool) (j k : ℕ) → (test ≡ true → j ≡ k) → (j ≡ k → test ≡ true) → test ≡ (j == k)
holds_at_one true j k only own = sym (eq-eqb j k (only refl))
holds_at_one false j k only own = sym (ne_eqb j k (λ e. by (own e)))
  where
    by : false ≡ true → ⊥
    by e = absurd cc

one_piece : (g : Graph) (p q : ℕ) (edge : Option ℕ) → leads_to g p edge ≡ true → leads_to g q edge ≡ true → p ≡ q
one_piece g p q None first second = absurd cc
one_piece g p q (Some edge) first second = sym (eqb-true (to g edge) p first) ∙ eqb-true (to g edge) q second

and_false : (b : Bool) → (b && false) ≡ false
and_false true = refl
and_false false = refl

module _ (x : OperationNet) where
  none_goes : (name : NodeName) (line passed : ℕ) → (goes_through x name line && stands_at x None passed name line) ≡ false
  none_goes (Op piece i) line passed = and_false (x.needs piece i line)
  none_goes (Switch piece own) line passed = and_false (own == line)
  none_goes (Merge piece own) line passed = and_false (own == line)
  none_goes (Act piece) line passed = refl

  -- a line that stands nowhere stands before none
  pub none_before : (line passed : ℕ) → IsNodeBefore x line None passed (node_total x)
  none_before line passed j low = none_goes (operation_node x j) line passed ∙ sym (ne_eqb j (node_total x) (λ e. omega (arith, low, e)))

  -- ---- a line that stands on an edge

  record IsStanding (edge : Option ℕ) (passed line : ℕ) (name : NodeName) : Type 0 where
    pub named : IsOperationNamed x name
    pub goes : goes_through x name line ≡ true
    pub stands : stands_at x edge passed name line ≡ true

  leads : (edge : Option ℕ) (passed line : ℕ) (name : NodeName) → stands_at x edge passed name line ≡ true → leads_to (graph_in x.net) (piece_of name) edge ≡ true
  leads edge passed line (Op piece i) stands = (and_parts (leads_to (graph_in x.net) piece edge) (passed == needing_before x piece i line) stands).0
  leads edge passed line (Switch piece own) stands = stands
  leads edge passed line (Merge piece own) stands = stands
  leads edge passed line (Act piece) stands = absurd cc

  passed_is : (edge : Option ℕ) (passed line piece i : ℕ) → stands_at x edge passed (Op piece i) line ≡ true → passed ≡ needing_before x piece i line
  passed_is edge passed line piece i stands = eqb-true passed (needing_before x piece i line) ((and_parts (leads_to (graph_in x.net) piece edge) (passed == needing_before x piece i line) stands).1)

  not_less : {P : Type 0} (piece i j line : ℕ) → i < j → x.needs piece i line ≡ true → needing_before x piece i line ≡ needing_before x piece j line → P
  not_less piece i j line low needs same = let up = passing_some (λ n. x.needs piece n line) i j low needs in absurd (omega (arith, up, same))

  -- two operations that need the line come at different numbers of those that need it
  same_place : (piece i j line : ℕ) → x.needs piece i line ≡ true → x.needs piece j line ≡ true → needing_before x piece i line ≡ needing_before x piece j line → i ≡ j
  same_place piece i j line needs needs_too same = by (order i j)
    where
      order : (i j : ℕ) → (i ≡ j) ⊎ ((i < j) ⊎ (j < i))
      order i j = grind arith

      by : (i ≡ j) ⊎ ((i < j) ⊎ (j < i)) → i ≡ j
      by (inl e) = e
      by (inr (inl low)) = not_less piece i j line low needs same
      by (inr (inr high)) = not_less piece j i line high needs_too (sym same)

  module _ (facts : PlanFacts x) where
    untouched : {P : Type 0} (piece i own line : ℕ) → IsOperationNamed x (Op piece i) → Member (switch_lines x.net piece (kind_in x.net piece)) own → x.needs piece i line ≡ true → (own == line) ≡ true → P
    untouched piece i own line named among needs same =
        both_ways (x.net.touches piece line) (facts.touched piece i line named.exists named.fits.2 needs)
        (subst (λ (l : ℕ). x.net.touches piece l ≡ false) (eqb-true own line same) (not_touched x.net piece own (switch_line x.net piece own (kind_in x.net piece) among)))

    same_name : (edge : Option ℕ) (passed line : ℕ) (a b : NodeName) → IsStanding edge passed line a → IsStanding edge passed line b → piece_of b ≡ piece_of a → a ≡ b
    same_name edge passed line (Op p s) (Op q t) first second at =
        let there : x.needs p t line ≡ true = subst (λ (n : ℕ). x.needs n t line ≡ true) at second.goes in
        let passed_there : passed ≡ needing_before x p t line = passed_is edge passed line q t second.stands ∙ ap (λ (n : ℕ). needing_before x n t line) at in
        let same : s ≡ t = same_place p s t line first.goes there (sym (passed_is edge passed line p s first.stands) ∙ passed_there) in
        ap (λ (n : ℕ). Op n s) (sym at) ∙ ap (λ (n : ℕ). Op q n) same
    same_name edge passed line (Op p s) (Switch q own) first second at =
        untouched p s own line first.named (subst (λ (n : ℕ). Member (switch_lines x.net n (kind_in x.net n)) own) at second.named.fits.2) first.goes second.goes
    same_name edge passed line (Op p s) (Merge q own) first second at = both_ways (is_acting (kind_in x.net p)) first.named.fits.1 (subst (λ (n : ℕ). is_acting (kind_in x.net n) ≡ false) at second.named.fits.1)
    same_name edge passed line (Op p s) (Act q) first second at = absurd second.named.fits
    same_name edge passed line (Switch p own) (Op q t) first second at =
        untouched q t own line second.named (subst (λ (n : ℕ). Member (switch_lines x.net n (kind_in x.net n)) own) (sym at) first.named.fits.2) second.goes first.goes
    same_name edge passed line (Switch p own) (Switch q other) first second at = ap (λ (n : ℕ). Switch n own) (sym at) ∙ ap (λ (l : ℕ). Switch q l) (eqb-true own line first.goes ∙ sym (eqb-true other line second.goes))
    same_name edge passed line (Switch p own) (Merge q other) first second at = both_ways (is_acting (kind_in x.net p)) first.named.fits.1 (subst (λ (n : ℕ). is_acting (kind_in x.net n) ≡ false) at second.named.fits.1)
    same_name edge passed line (Switch p own) (Act q) first second at = absurd second.named.fits
    same_name edge passed line (Merge p own) (Op q t) first second at = both_ways (is_acting (kind_in x.net p)) (subst (λ (n : ℕ). is_acting (kind_in x.net n) ≡ true) at second.named.fits.1) first.named.fits.1
    same_name edge passed line (Merge p own) (Switch q other) first second at = both_ways (is_acting (kind_in x.net p)) (subst (λ (n : ℕ). is_acting (kind_in x.net n) ≡ true) at second.named.fits.1) first.named.fits.1
    same_name edge passed line (Merge p own) (Merge q other) first second at = ap (λ (n : ℕ). Merge n own) (sym at) ∙ ap (λ (l : ℕ). Merge q l) (eqb-true own line first.goes ∙ sym (eqb-true other line second.goes))
    same_name edge passed line (Merge p own) (Act q) first second at = absurd second.named.fits
    same_name edge passed line (Act p) b first second at = absurd first.named.fits

    -- the node that a line goes through, and before which it stands, is the only one
    pub one_before : (k line : ℕ) (edge : Option ℕ) (passed : ℕ) → k < node_total x → goes_through x (operation_node x k) line ≡ true → stands_at x edge passed (operation_node x k) line ≡ true → IsNodeBefore x line edge passed k
    one_before k line edge passed below goes stands j low =
        holds_at_one (goes_through x (operation_node x j) line && stands_at x edge passed (operation_node x j) line) j k only own
      where
        only : (goes_through x (operation_node x j) line && stands_at x edge passed (operation_node x j) line) ≡ true → j ≡ k
        only both =
            let parts = and_parts (goes_through x (operation_node x j) line) (stands_at x edge passed (operation_node x j) line) both in
            let first : IsStanding edge passed line (operation_node x j) = record { named = operation_named x j low; goes = parts.0; stands = parts.1 } in
            let second : IsStanding edge passed line (operation_node x k) = record { named = operation_named x k below; goes = goes; stands = stands } in
            let at : piece_of (operation_node x k) ≡ piece_of (operation_node x j) = one_piece (graph_in x.net) (piece_of (operation_node x k)) (piece_of (operation_node x j)) edge (leads edge passed line (operation_node x k) stands) (leads edge passed line (operation_node x j) parts.1) in
            same_nodes x j k low below (same_name edge passed line (operation_node x j) (operation_node x k) first second at)

        own : j ≡ k → (goes_through x (operation_node x j) line && stands_at x edge passed (operation_node x j) line) ≡ true
        own e = subst (λ (n : ℕ). (goes_through x (operation_node x n) line && stands_at x edge passed (operation_node x n) line) ≡ true) (sym e)
            (and_from (goes_through x (operation_node x k) line) (stands_at x edge passed (operation_node x k) line) goes stands)

    -- the same, where that is known of the name of the node
    pub named_before : (k line : ℕ) (edge : Option ℕ) (passed : ℕ) (name : NodeName) → k < node_total x → operation_node x k ≡ name → goes_through x name line ≡ true → stands_at x edge passed name line ≡ true → IsNodeBefore x line edge passed k
    named_before k line edge passed name below is goes stands =
        one_before k line edge passed below
        (subst (λ (n : NodeName). goes_through x n line ≡ true) (sym is) goes)
        (subst (λ (n : NodeName). stands_at x edge passed n line ≡ true) (sym is) stands)

    -- an operation that needs a line, which has passed those before it
    pub operation_before : (piece i line : ℕ) (edge : Option ℕ) (passed : ℕ) → piece < (graph_in x.net).nodes → i < operation_count x piece → x.needs piece i line ≡ true → leads_to (graph_in x.net) piece edge ≡ true → passed ≡ needing_before x piece i line → IsNodeBefore x line edge passed (first_operation x piece + i)
    operation_before piece i line edge passed exists inside needs leads same =
        named_before (first_operation x piece + i) line edge passed (Op piece i) (operation_within x piece i exists inside) (operation_name_at x piece i exists inside) needs
        (and_from (leads_to (graph_in x.net) piece edge) (passed == needing_before x piece i line) leads (eq-eqb passed (needing_before x piece i line) same))
