-- Of the pieces that control takes in a step one has more than one operation, at most.
use Rattle.std.proofs.Common.{◌≡◌, ◌≤◌, ℕ, ◌+◌, ◌-◌, true, List, [], ◌∷◌, ◌++◌, length, sum_by, Option, Some, slice_get, refl, ap, ◌∙◌, arith}
use Rattle.std.proofs.lemmas.List.Sums.{sum_by-append, sum_by-cons}
use Rattle.closed_walks.specs.Graph.{to}
use Rattle.f77_tree.specs.declared.programs.Exec.{Exec}
use Rattle.f77_tree.specs.declared.programs.ExecKind.{ExecKind}
use Rattle.f77_tree.specs.declared.programs.ExecKind.TheVariants.{Assign, Print, Pass, Test, Sign, Pick, DoStart, DoNext, End}
use Rattle.f77_tree.specs.Operations.{most_operations}
use Rattle.cfg_build.specs.declared.pieces.PieceKind.{PieceKind}
use Rattle.cfg_build.specs.declared.pieces.PieceKind.TheVariants as kind
use Rattle.cfg_build.specs.Chains.{chain, entry, has_test}
use Rattle.cfg_build.specs.Flow.{flow, piece_at}
use Rattle.cfg_build.specs.Passes.{kind_in, out}
use Rattle.cfg_build.specs.Routes.{AreChain, IsMade, IsOnePart, IsRoute, IsTwoParts, leads_on}
use Rattle.op_board.specs.Operations.{operations_of}
use Rattle.op_board.specs.OperationNets.{OperationNet, operation_count}
use Rattle.op_board.specs.OrderFacts.{HasChain}

module _ (x : OperationNet) where
  -- how many operations a piece has besides one
  abbrev pub more_than_one : ℕ → ℕ
  more_than_one piece = operation_count x piece - 1

  leading_by : (exec : ExecKind) (k : PieceKind) → leads_on k ≡ true → length (operations_of x.net.program.names k exec) - 1 ≡ 0
  leading_by exec kind.Join leads = omega arith
  leading_by exec kind.Hold leads = omega arith
  leading_by exec kind.Start leads = absurd cc
  leading_by exec kind.Act leads = absurd cc
  leading_by exec kind.Pass leads = absurd cc
  leading_by exec kind.Branch leads = absurd cc
  leading_by exec kind.End leads = absurd cc

  leading_none : (piece : ℕ) → leads_on (piece_at (flow x.net.program.execs).pieces piece).kind ≡ true → more_than_one piece ≡ 0
  leading_none piece leads = leading_by (kind_in (slice_get x.net.program.execs (piece_at (flow x.net.program.execs).pieces piece).exec)) (piece_at (flow x.net.program.execs).pieces piece).kind leads

  route_none : (node : ℕ) (pieces : List ℕ) (last : ℕ) → IsRoute (flow x.net.program.execs) node pieces last → sum_by more_than_one pieces ≡ 0
  route_none node [] last route = refl
  route_none node (first ∷ rest) last route =
      let here = leading_none first route.1 in
      let later = route_none (to (flow x.net.program.execs).graph (out (flow x.net.program.execs).graph first 0)) rest last route.2 in
      let all = sum_by-cons more_than_one first rest in
      omega (arith, here, later, all)

  -- what a piece has that is made for an executable
  made_count : (piece k : ℕ) (kind : PieceKind) (exec : Exec) → IsMade (flow x.net.program.execs) x.net.program.execs piece kind k → slice_get x.net.program.execs k ≡ Some exec → operation_count x piece ≡ length (operations_of x.net.program.names kind exec.kind)
  made_count piece k kind exec made found =
      ap (λ (a : PieceKind). length (operations_of x.net.program.names a (kind_in (slice_get x.net.program.execs (piece_at (flow x.net.program.execs).pieces piece).exec)))) made.kind_is
      ∙ ap (λ (i : ℕ). length (operations_of x.net.program.names kind (kind_in (slice_get x.net.program.execs i)))) made.exec_is
      ∙ ap (λ (o : Option Exec). length (operations_of x.net.program.names kind (kind_in o))) found

  module _ (few : (piece : ℕ) → operation_count x piece ≤ most_operations x.net.program) (k : ℕ) (exec : Exec) (found : slice_get x.net.program.execs k ≡ Some exec) where
    one_part : (kind : ExecKind) (pieces : List ℕ) → IsOnePart (flow x.net.program.execs) (entry x.net.program.execs) x.net.program.execs k kind pieces → sum_by more_than_one pieces ≤ most_operations x.net.program
    one_part kind pieces part =
        let none = route_none (entry x.net.program.execs k) part.prefix part.last part.route in
        let all = ap (sum_by more_than_one) part.are ∙ sum_by-append more_than_one part.prefix (part.last ∷ []) in
        let last = sum_by-cons more_than_one part.last [] in
        let most = few part.last in
        sum (sum_by more_than_one pieces) (sum_by more_than_one part.prefix) (sum_by more_than_one (part.last ∷ [])) (operation_count x part.last) (most_operations x.net.program) all none last most
      where
        sum : (a b c d e : ℕ) → a ≡ b + c → b ≡ 0 → c ≡ (d - 1) + 0 → d ≤ e → a ≤ e
        sum a b c d e all none last most = omega (arith, all, none, last, most)

    two_parts : (kind : ExecKind) (pieces : List ℕ) (parts : IsTwoParts (flow x.net.program.execs) (entry x.net.program.execs) x.net.program.execs k kind pieces) → more_than_one parts.act + more_than_one parts.test ≤ most_operations x.net.program → sum_by more_than_one pieces ≤ most_operations x.net.program
    two_parts kind pieces parts both =
        let none = route_none (entry x.net.program.execs k) parts.prefix parts.act parts.route in
        let other = route_none (to (flow x.net.program.execs).graph (out (flow x.net.program.execs).graph parts.act 0)) parts.middle parts.test parts.on in
        let all = ap (sum_by more_than_one) parts.are ∙ sum_by-append more_than_one parts.prefix (parts.act ∷ (parts.middle ++ parts.test ∷ [])) in
        let act = sum_by-cons more_than_one parts.act (parts.middle ++ parts.test ∷ []) in
        let middle = sum_by-append more_than_one parts.middle (parts.test ∷ []) in
        let last = sum_by-cons more_than_one parts.test [] in
        sum (sum_by more_than_one pieces) (sum_by more_than_one parts.prefix) (sum_by more_than_one (parts.act ∷ (parts.middle ++ parts.test ∷ []))) (more_than_one parts.act) (sum_by more_than_one (parts.middle ++ parts.test ∷ [])) (sum_by more_than_one parts.middle) (sum_by more_than_one (parts.test ∷ [])) (more_than_one parts.test) (most_operations x.net.program) all none act middle other last both
      where
        sum : (a b c d e f g h most : ℕ) → a ≡ b + c → b ≡ 0 → c ≡ d + e → e ≡ f + g → f ≡ 0 → g ≡ h + 0 → d + h ≤ most → a ≤ most
        sum a b c d e f g h most all none act middle other last both = omega (arith, all, none, act, middle, other, last, both)

    small : (a b most : ℕ) → a ≤ most → b ≡ 1 → (a - 1) + (b - 1) ≤ most
    small a b most few one = omega (arith, few, one)

    small_first : (a b most : ℕ) → b ≤ most → a ≡ 1 → (a - 1) + (b - 1) ≤ most
    small_first a b most few one = omega (arith, few, one)

    by : (kind : ExecKind) → exec.kind ≡ kind → (pieces : List ℕ) → AreChain (flow x.net.program.execs) (entry x.net.program.execs) x.net.program.execs k (has_test kind) kind pieces → sum_by more_than_one pieces ≤ most_operations x.net.program
    by (Assign target value next) same pieces are = one_part (Assign target value next) pieces are
    by (Print items next) same pieces are = one_part (Print items next) pieces are
    by (Pass next) same pieces are = one_part (Pass next) pieces are
    by (Test cond on_true on_false) same pieces are = one_part (Test cond on_true on_false) pieces are
    by (Sign e neg equal pos) same pieces are = one_part (Sign e neg equal pos) pieces are
    by (Pick e targets other) same pieces are = one_part (Pick e targets other) pieces are
    by End same pieces are = one_part End pieces are
    by (DoStart loop_no var first last step body exit) same pieces are =
        let ends = are.ends in
        two_parts (DoStart loop_no var first last step body exit) pieces are
        (small (operation_count x are.act) (operation_count x are.test) (most_operations x.net.program) (few are.act)
        (made_count are.test k kind.Branch exec ends.made found ∙ ap (λ (a : ExecKind). length (operations_of x.net.program.names kind.Branch a)) same))
    by (DoNext loop_no var body exit) same pieces are =
        two_parts (DoNext loop_no var body exit) pieces are
        (small_first (operation_count x are.act) (operation_count x are.test) (most_operations x.net.program) (few are.test)
        (made_count are.act k kind.Act exec are.acts found ∙ ap (λ (a : ExecKind). length (operations_of x.net.program.names kind.Act a)) same))

  pub chain_few : (few : (piece : ℕ) → operation_count x piece ≤ most_operations x.net.program) (k : ℕ) → HasChain x k → sum_by more_than_one (chain x.net.program.execs k) ≤ most_operations x.net.program
  chain_few few k has = by few k has.exec has.found has.exec.kind refl (chain x.net.program.execs k) has.are
