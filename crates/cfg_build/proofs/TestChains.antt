-- The chain of a DO that begins or is incremented: an act, and the test.
use Rattle.std.proofs.Common.{◌≡◌, ◌≢◌, ℕ, suc, ◌+◌, ◌-◌, ◌≤◌, true, false, List, [], ◌∷◌, ◌++◌, length, get_or, map, Some, slice_get, refl, sym, ap, ◌∙◌, subst, ⊎_elim, arith}
use Rattle.closed_walks.specs.Graph.{to}
use Rattle.f77_tree.specs.declared.programs.Exec.{Exec}
use Rattle.f77_tree.specs.declared.programs.ExecKind.{ExecKind}
use Rattle.f77_tree.specs.declared.programs.NameInfo.{NameInfo}
use Rattle.f77_tree.specs.Control.{successors}
use Rattle.f77_tree.specs.WellFormed.{AreExecs}
use Rattle.cfg_build.specs.declared.parts.Part.{Part}
use Rattle.cfg_build.specs.declared.parts.Target.{Target}
use Rattle.cfg_build.specs.declared.parts.Target.TheVariants.{First}
use Rattle.cfg_build.specs.declared.pieces.PieceKind.TheVariants as piece
use Rattle.cfg_build.specs.Parts.{parts, line_in}
use Rattle.cfg_build.specs.Joined.{number}
use Rattle.cfg_build.specs.Flow.{flow, piece_at}
use Rattle.cfg_build.specs.Passes.{out, kind_in}
use Rattle.cfg_build.specs.Chains.{entry, has_test, goes_on, following, chain}
use Rattle.cfg_build.specs.Routes.{is_hold, holds_in, IsRoute, IsMade, owner, IsTwoParts}
use Rattle.list_laws.proofs.Counts.{count-append}
use Rattle.list_laws.specs.Member.{Member}
use Rattle.cfg_build.proofs.ReachedNodes.{IsTold}
use Rattle.cfg_build.proofs.Lowest.{IsMet}
use Rattle.cfg_build.proofs.PieceNumbers.{part_at, first_piece, own_piece}
use Rattle.cfg_build.proofs.OneHold.{not_both}
use Rattle.cfg_build.proofs.EnteredParts.{entering}
use Rattle.cfg_build.proofs.PartRoutes.{IsHeldOf, IsPrefix, prefix_of}
use Rattle.cfg_build.proofs.LastPieces.{IsPlaced, placed, first_is, own_made, own_leads, own_last, own_prefix}
use Rattle.cfg_build.proofs.Following.{goes_further, goes_no_further, along_prefix}
use Rattle.cfg_build.proofs.ChainSteps.{two_last}
use Rattle.cfg_build.proofs.PartChains.{made_goes, no_more, prefix_few}

-- an act and the test of its DO, as parts
pub record AreTwo (execs : List Exec) (k : ℕ) (kind : ExecKind) (act test : Part) : Type 0 where
  pub act_in : Member (parts execs) act
  pub test_in : Member (parts execs) test
  pub first : act.own ≡ First k
  pub acts : act.piece.kind ≡ piece.Act
  pub act_exec : act.piece.exec ≡ k
  pub act_line : act.piece.line ≡ line_in (slice_get execs k)
  pub leads : act.outs ≡ test.own ∷ []
  pub tests : test.piece.kind ≡ piece.Branch
  pub test_exec : test.piece.exec ≡ owner execs k kind
  pub test_line : test.piece.line ≡ line_in (slice_get execs (owner execs k kind))
  pub outs : test.outs ≡ map First (successors kind)

module _ (told : IsTold) (met : IsMet) (names : List NameInfo) (execs : List Exec) (loops : ℕ) (well : AreExecs names execs loops) where
  abbrev ps : List Part
  ps = parts execs

  abbrev holds : List ℕ → ℕ
  holds xs = holds_in (flow execs) xs

  pub record IsTwoChain (k : ℕ) (kind : ExecKind) : Type 0 where
    pub is : IsTwoParts (flow execs) (entry execs) execs k kind (chain execs k)
    pub whole : (most : ℕ) → 5 ≤ most → following most execs (entry execs k) ≡ chain execs k
    pub one : holds_in (flow execs) (chain execs k) ≤ 1

  module _ (k : ℕ) (exec : Exec) (found : slice_get execs k ≡ Some exec) (two : has_test exec.kind ≡ true) (act test : Part) (are : AreTwo execs k exec.kind act test) where
    a : IsPlaced told met names execs loops well act
    a = placed told met names execs loops well act are.act_in

    b : IsPlaced told met names execs loops well test
    b = placed told met names execs loops well test are.test_in

    differ : a.place ≢ b.place
    differ same = grind (arith, part_at ps)

    r : IsPrefix told met names execs loops well a.place
    r = prefix_of told met names execs loops well a.place a.exists

    s : IsPrefix told met names execs loops well b.place
    s = prefix_of told met names execs loops well b.place b.exists

    -- not both ways in have two pieces, nor both a hold
    small : (length r.prefix + length s.prefix ≤ 3) × (holds_in (flow execs) r.prefix + holds_in (flow execs) s.prefix ≤ 1)
    small = ⊎_elim
        (λ (h : (length r.prefix ≤ 1) × (holds r.prefix ≡ 0)). let t = prefix_few told met names execs loops well b.place s in (omega (arith, h.0, t.0), omega (arith, h.1, t.1)))
        (λ (h : (length r.prefix ≤ 2) × (holds r.prefix ≡ 1) × IsHeldOf told met names execs loops well a.place). ⊎_elim
        (λ (i : (length s.prefix ≤ 1) × (holds s.prefix ≡ 0)). (omega (arith, h.0, i.0), omega (arith, h.1, i.1)))
        (λ (i : (length s.prefix ≤ 2) × (holds s.prefix ≡ 1) × IsHeldOf told met names execs loops well b.place).
        absurd (not_both told names execs loops well a.place b.place a.exists b.exists differ test.own (ap (λ (p : Part). p.outs) a.is ∙ are.leads) (ap (λ (p : Part). p.own) b.is) h.2.one i.2.one h.2.below i.2.below h.2.is i.2.is h.2.of i.2.of))
        s.few)
        r.few

    abbrev x : ℕ
    x = own_piece (parts execs) a.place

    abbrev y : ℕ
    y = own_piece (parts execs) b.place

    x_made : IsMade (flow execs) execs x piece.Act k
    x_made = own_made told met names execs loops well act a piece.Act k are.acts are.act_exec are.act_line

    y_made : IsMade (flow execs) execs y piece.Branch (owner execs k exec.kind)
    y_made = own_made told met names execs loops well test b piece.Branch (owner execs k exec.kind) are.tests are.test_exec are.test_line

    -- the act leads to the way in of the test
    on : IsRoute (flow execs) (to (flow execs).graph (out (flow execs).graph x 0)) s.prefix y
    on =
        let count : length act.outs ≡ 1 = ap (λ (ts : List Target). length ts) are.leads in
        let is : to (flow execs).graph (out (flow execs).graph x 0) ≡ entering execs (first_piece ps b.place) =
        own_leads told met names execs loops well act a 0 (omega (arith, count))
        ∙ ap (λ (ts : List Target). entering execs (number ps (get_or ts 0 (First 0)))) are.leads
        ∙ ap (λ n. entering execs n) (first_is told met names execs loops well test b) in
        subst (λ n. IsRoute (flow execs) n s.prefix y) (sym is) s.route

    follows : (most : ℕ) → 5 ≤ most → following most execs (entry execs k) ≡ r.prefix ++ x ∷ (s.prefix ++ y ∷ [])
    follows most enough =
        let more : ℕ = most - (2 + (length r.prefix + length s.prefix)) in
        let room : most ≡ length r.prefix + suc (length s.prefix + suc more) = omega (arith, small.0, enough) in
        let goes : goes_on execs (piece_at (flow execs).pieces x) ≡ true = made_goes told met names execs loops well x piece.Act k x_made ∙ ap (λ e. has_test (kind_in e)) found ∙ two in
        let stops : goes_on execs (piece_at (flow execs).pieces y) ≡ false = made_goes told met names execs loops well y piece.Branch (owner execs k exec.kind) y_made in
        ap (λ n. following n execs (entry execs k)) room
        ∙ along_prefix execs r.prefix (entry execs k) x (suc (length s.prefix + suc more)) (own_prefix told met names execs loops well act a k are.first r)
        ∙ ap (λ xs. r.prefix ++ xs) (goes_further execs (length s.prefix + suc more) x goes
        ∙ ap (λ xs. x ∷ xs) (along_prefix execs s.prefix (to (flow execs).graph (out (flow execs).graph x 0)) y (suc more) on ∙ ap (λ xs. s.prefix ++ xs) (goes_no_further execs more y stops)))

    pub two_chain : IsTwoChain k exec.kind
    two_chain =
        let rest : List ℕ = s.prefix ++ y ∷ [] in
        let chain_is : chain execs k ≡ r.prefix ++ x ∷ (s.prefix ++ y ∷ []) = follows 5 (omega arith) in
        let held : holds (chain execs k) ≡ holds r.prefix + holds (x ∷ rest) = ap (λ xs. holds xs) chain_is ∙ count-append (λ z. is_hold (piece_at (flow execs).pieces z).kind) r.prefix (x ∷ rest) in
        let past : holds (x ∷ rest) ≡ holds rest = no_more told met names execs loops well x piece.Act k rest x_made refl in
        let more_held : holds rest ≡ holds s.prefix + holds (y ∷ []) = count-append (λ z. is_hold (piece_at (flow execs).pieces z).kind) s.prefix (y ∷ []) in
        let none : holds (y ∷ []) ≡ 0 = no_more told met names execs loops well y piece.Branch (owner execs k exec.kind) [] y_made refl in
        record {
          is = record {
            prefix = r.prefix;
            act = x;
            middle = s.prefix;
            test = y;
            are = chain_is;
            route = own_prefix told met names execs loops well act a k are.first r;
            acts = x_made;
            on = on;
            ends = own_last told met names execs loops well test b k exec.kind (are.tests ∙ sym (two_last exec.kind two)) are.test_exec are.test_line are.outs;
          };
          whole = λ (most : ℕ) (enough : 5 ≤ most). follows most enough ∙ sym chain_is;
          one = omega (arith, held, past, more_held, none, small.1);
        }
