-- The chains of executables of one part and of two.
use Rattle.std.proofs.Common.{◌≡◌, ℕ, suc, ◌+◌, ◌-◌, ◌≤◌, false, List, [], ◌∷◌, ◌++◌, length, map, Some, slice_get, sym, ap, ◌∙◌, arith}
use Rattle.f77_tree.specs.declared.programs.Exec.{Exec}
use Rattle.f77_tree.specs.declared.programs.ExecKind.{ExecKind}
use Rattle.f77_tree.specs.declared.programs.NameInfo.{NameInfo}
use Rattle.f77_tree.specs.Control.{successors}
use Rattle.f77_tree.specs.WellFormed.{AreExecs}
use Rattle.cfg_build.specs.declared.parts.Part.{Part}
use Rattle.cfg_build.specs.declared.parts.Target.TheVariants.{First}
use Rattle.cfg_build.specs.declared.pieces.PieceKind.{PieceKind}
use Rattle.cfg_build.specs.Parts.{parts, line_in}
use Rattle.cfg_build.specs.Flow.{flow, piece_at}
use Rattle.cfg_build.specs.Passes.{kind_in}
use Rattle.cfg_build.specs.Chains.{entry, has_test, goes_on, goes_on_from, following, chain}
use Rattle.cfg_build.specs.Routes.{is_hold, holds_in, IsRoute, IsMade, last_kind, owner, IsOnePart}
use Rattle.list_laws.proofs.Counts.{bit, bit_false, count-cons, count-append}
use Rattle.list_laws.specs.Member.{Member}
use Rattle.cfg_build.proofs.ReachedNodes.{IsTold}
use Rattle.cfg_build.proofs.Lowest.{IsMet}
use Rattle.cfg_build.proofs.PieceNumbers.{own_piece}
use Rattle.cfg_build.proofs.PartRoutes.{IsPrefix, prefix_of}
use Rattle.cfg_build.proofs.LastPieces.{IsPlaced, placed, own_made, own_last, own_prefix}
use Rattle.cfg_build.proofs.Following.{goes_no_further, along_prefix}

pub last_not_hold : (kind : ExecKind) → is_hold (last_kind kind) ≡ false
last_not_hold h = grind arith

ends_here : (kind : ExecKind) → has_test kind ≡ false → goes_on_from (last_kind kind) (has_test kind) ≡ false
ends_here h h2 = grind arith

module _ (told : IsTold) (met : IsMet) (names : List NameInfo) (execs : List Exec) (loops : ℕ) (well : AreExecs names execs loops) where
  abbrev ps : List Part
  ps = parts execs

  pub made_goes : (node : ℕ) (kind : PieceKind) (k : ℕ) → IsMade (flow execs) execs node kind k → goes_on execs (piece_at (flow execs).pieces node) ≡ goes_on_from kind (has_test (kind_in (slice_get execs k)))
  made_goes node kind k made = cc

  abbrev holds : List ℕ → ℕ
  holds xs = holds_in (flow execs) xs

  -- a piece that is no hold adds none
  pub no_more : (node : ℕ) (kind : PieceKind) (k : ℕ) (rest : List ℕ) → IsMade (flow execs) execs node kind k → is_hold kind ≡ false → holds_in (flow execs) (node ∷ rest) ≡ holds_in (flow execs) rest
  no_more node kind k rest made not =
      grind (arith, bit (is_hold (piece_at (flow execs).pieces node).kind), count-cons, bit, bit_false (is_hold (piece_at (flow execs).pieces node).kind))

  pub prefix_few : (j : ℕ) (r : IsPrefix told met names execs loops well j) → (length r.prefix ≤ 2) × (holds_in (flow execs) r.prefix ≤ 1)
  prefix_few j r = grind arith

  -- an executable of one part
  pub record IsOneChain (k : ℕ) (kind : ExecKind) : Type 0 where
    pub is : IsOnePart (flow execs) (entry execs) execs k kind (chain execs k)
    pub whole : (most : ℕ) → 5 ≤ most → following most execs (entry execs k) ≡ chain execs k
    pub one : holds_in (flow execs) (chain execs k) ≤ 1

  pub one_chain : (k : ℕ) (exec : Exec) → slice_get execs k ≡ Some exec → has_test exec.kind ≡ false → owner execs k exec.kind ≡ k → (p : Part) → Member (parts execs) p → p.own ≡ First k → p.piece.kind ≡ last_kind exec.kind → p.piece.exec ≡ k → p.piece.line ≡ line_in (slice_get execs k) → p.outs ≡ map First (successors exec.kind) → IsOneChain k exec.kind
  one_chain k exec found single owns p m own kind_is exec_is line_is outs =
      let a : IsPlaced told met names execs loops well p = placed told met names execs loops well p m in
      let r : IsPrefix told met names execs loops well a.place = prefix_of told met names execs loops well a.place a.exists in
      let node : ℕ = own_piece ps a.place in
      let route : IsRoute (flow execs) (entry execs k) r.prefix node = own_prefix told met names execs loops well p a k own r in
      let made : IsMade (flow execs) execs node (last_kind exec.kind) k = own_made told met names execs loops well p a (last_kind exec.kind) k kind_is exec_is line_is in
      let small = prefix_few a.place r in
      let stops : goes_on execs (piece_at (flow execs).pieces node) ≡ false = made_goes node (last_kind exec.kind) k made ∙ ap (λ e. goes_on_from (last_kind exec.kind) (has_test (kind_in e))) found ∙ ends_here exec.kind single in
      let follows : (most : ℕ) → 5 ≤ most → following most execs (entry execs k) ≡ r.prefix ++ node ∷ [] =
      λ (most : ℕ) (enough : 5 ≤ most).
      let more : ℕ = most - suc (length r.prefix) in
      let room : most ≡ length r.prefix + suc more = omega (arith, small.0, enough) in
      ap (λ n. following n execs (entry execs k)) room ∙ along_prefix execs r.prefix (entry execs k) node (suc more) route
      ∙ ap (λ xs. r.prefix ++ xs) (goes_no_further execs more node stops) in
      let is : chain execs k ≡ r.prefix ++ node ∷ [] = follows 5 (omega arith) in
      let held : holds (chain execs k) ≡ holds r.prefix + holds (node ∷ []) = ap (λ xs. holds xs) is ∙ count-append (λ x. is_hold (piece_at (flow execs).pieces x).kind) r.prefix (node ∷ []) in
      let none : holds (node ∷ []) ≡ 0 = no_more node (last_kind exec.kind) k [] made (last_not_hold exec.kind) in
      record {
        is = record {
          prefix = r.prefix;
          last = node;
          are = is;
          route = route;
          ends = own_last told met names execs loops well p a k exec.kind kind_is (exec_is ∙ sym owns) (line_is ∙ ap (λ n. line_in (slice_get execs n)) (sym owns)) outs;
        };
        whole = λ (most : ℕ) (enough : 5 ≤ most). follows most enough ∙ sym is;
        one = omega (arith, held, none, small.1);
      }
