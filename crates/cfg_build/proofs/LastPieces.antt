-- The own pieces of parts after holds: what stands there, and where their edges lead.
use Rattle.std.proofs.Common.{◌≡◌, ◌≢◌, ℕ, zero, suc, ◌+◌, ◌<◌, List, [], ◌∷◌, length, get_or, map, slice_get, slice_index, refl, sym, ap, ◌∙◌, subst, arith}
use Rattle.std.proofs.lemmas.List.{length-map}
use Rattle.closed_walks.specs.Graph.{to}
use Rattle.f77_tree.specs.declared.programs.Exec.{Exec}
use Rattle.f77_tree.specs.declared.programs.ExecKind.{ExecKind}
use Rattle.f77_tree.specs.declared.programs.NameInfo.{NameInfo}
use Rattle.f77_tree.specs.Control.{successors}
use Rattle.f77_tree.specs.WellFormed.{AreExecs}
use Rattle.cfg_build.specs.declared.parts.Part.{Part}
use Rattle.cfg_build.specs.declared.parts.Target.{Target}
use Rattle.cfg_build.specs.declared.parts.Target.TheVariants.{First}
use Rattle.cfg_build.specs.declared.pieces.PieceKind.{PieceKind}
use Rattle.cfg_build.specs.Parts.{parts, start_part, line_in}
use Rattle.cfg_build.specs.Joined.{finish, number}
use Rattle.cfg_build.specs.Flow.{flow, piece_at}
use Rattle.cfg_build.specs.Passes.{out}
use Rattle.cfg_build.specs.Chains.{entry}
use Rattle.cfg_build.specs.Routes.{IsRoute, IsMade, IsLast, last_kind, owner}
use Rattle.list_laws.specs.Member.{Member}
use Rattle.list_laws.proofs.Members.{IsAt, at_of, Member-at}
use Rattle.cfg_build.proofs.ReachedNodes.{IsTold}
use Rattle.cfg_build.proofs.JoinedGraph.{heads_at, heads_of_part, number_of}
use Rattle.cfg_build.proofs.Lowest.{IsMet}
use Rattle.cfg_build.proofs.OutDegrees.{own_is_end}
use Rattle.cfg_build.proofs.PieceKinds.{piece_of_part}
use Rattle.cfg_build.proofs.PieceNumbers.{part_at, first_piece, own_piece, own_below}
use Rattle.cfg_build.proofs.ReachedPieces.{apart}
use Rattle.cfg_build.proofs.OutEdges.{first_out}
use Rattle.cfg_build.proofs.FlowEdges.{out_old}
use Rattle.cfg_build.proofs.EnteredParts.{entering}
use Rattle.cfg_build.proofs.WaysEnter.{way_enters}
use Rattle.cfg_build.proofs.PartRoutes.{own_plain, old_kind, IsPrefix}

module _ (told : IsTold) (met : IsMet) (names : List NameInfo) (execs : List Exec) (loops : ℕ) (well : AreExecs names execs loops) where
  abbrev ps : List Part
  ps = parts execs

  -- a part has a place
  pub record IsPlaced (p : Part) : Type 0 where
    pub place : ℕ
    pub exists : place < length (parts execs)
    pub is : part_at (parts execs) place ≡ p

  pub placed : (p : Part) → Member (parts execs) p → IsPlaced p
  placed p m = let r : IsAt (parts execs) p = at_of (parts execs) p m in record { place = r.place; exists = r.exists; is = r.is start_part }

  module _ (p : Part) (a : IsPlaced p) where
    pub first_is : number (parts execs) p.own ≡ first_piece (parts execs) a.place
    first_is = number_of ps (finish execs) (apart told names execs loops well) a.place p.own a.exists (ap (λ (q : Part). q.own) a.is)

    pub own_is : piece_at (flow execs).pieces (own_piece (parts execs) a.place) ≡ p.piece
    own_is = old_kind told met names execs loops well (own_piece ps a.place) (own_below ps a.place a.exists) ∙ piece_of_part ps a.place a.exists ∙ ap (λ (q : Part). q.piece) a.is

    pub own_made : (kind : PieceKind) (k : ℕ) → p.piece.kind ≡ kind → p.piece.exec ≡ k → p.piece.line ≡ line_in (slice_get execs k) → IsMade (flow execs) execs (own_piece (parts execs) a.place) kind k
    own_made kind k kind_is exec_is line_is = grind (arith, own_is)

    -- the own piece of a part with ways isn't the end
    pub own_not_end : (t : Target) → Member p.outs t → own_piece (parts execs) a.place ≢ finish execs
    own_not_end t m is = grind (arith, own_is_end told names execs loops well a.place a.exists is)

    member_of_nth : (ts : List Target) (i : ℕ) → i < length ts → Member ts (get_or ts i (First 0))
    member_of_nth ts i some = Member-at ts i (First 0) some

    -- each of its edges enters the part to which it leads
    pub own_leads : (i : ℕ) → i < length p.outs → to (flow execs).graph (out (flow execs).graph (own_piece (parts execs) a.place) i) ≡ entering execs (number (parts execs) (get_or p.outs i (First 0)))
    own_leads i some =
        let x : ℕ = own_piece ps a.place in
        let heads : heads_at ps x ≡ map (number ps) p.outs = heads_of_part ps a.place a.exists ∙ ap (λ (q : Part). map (number ps) q.outs) a.is in
        let count : length (heads_at ps x) ≡ length p.outs = ap (λ (xs : List ℕ). length xs) heads ∙ length-map p.outs (number ps) in
        let nth : get_or (heads_at ps x) i 0 ≡ number ps (get_or p.outs i (First 0)) = ap (λ (xs : List ℕ). get_or xs i 0) heads ∙ get_or_mapped (number ps) p.outs i some in
        way_enters told names execs loops well x i (own_below ps a.place a.exists) (own_not_end (get_or p.outs i (First 0)) (member_of_nth p.outs i some)) (omega (arith, some, count)) (own_plain told met names execs loops well a.place a.exists)
        ∙ ap (λ n. entering execs n) nth
      where
        get_or_mapped : (f : Target → ℕ) (ts : List Target) (i : ℕ) → i < length ts → get_or (map f ts) i 0 ≡ f (get_or ts i (First 0))
        get_or_mapped f [] i some = absurd (omega (arith, some))
        get_or_mapped f (t ∷ ts) zero some = refl
        get_or_mapped f (t ∷ ts) (suc i) some = get_or_mapped f ts i (omega (arith, some))

    -- the numbers of its edges
    pub own_out : (i : ℕ) → i < length p.outs → out (flow execs).graph (own_piece (parts execs) a.place) i ≡ first_out (parts execs) (finish execs) (own_piece (parts execs) a.place) + i
    own_out i some =
        grind (arith, own_piece ps a.place, heads_at, heads_of_part ps a.place a.exists, heads_at ps, length-map p.outs (number ps), out_old told names execs loops well, own_below ps a.place a.exists, own_not_end (get_or p.outs i (First 0)) (member_of_nth p.outs i some), member_of_nth p.outs i some)

    nth_first : (succs : List ℕ) (i : ℕ) → i < length succs → get_or (map First succs) i (First 0) ≡ First (slice_index succs i)
    nth_first [] i some = absurd (omega (arith, some))
    nth_first (s ∷ succs) zero some = refl
    nth_first (s ∷ succs) (suc i) some = nth_first succs i (omega (arith, some))

    -- the last piece of an executable
    pub own_last : (k : ℕ) (kind : ExecKind) → p.piece.kind ≡ last_kind kind → p.piece.exec ≡ owner execs k kind → p.piece.line ≡ line_in (slice_get execs (owner execs k kind)) → p.outs ≡ map First (successors kind) → IsLast (flow execs) (entry execs) execs k kind (own_piece (parts execs) a.place)
    own_last k kind kind_is exec_is line_is outs =
        let count : length p.outs ≡ length (successors kind) = ap (λ (ts : List Target). length ts) outs ∙ length-map (successors kind) First in
        record {
          made = own_made (last_kind kind) (owner execs k kind) kind_is exec_is line_is;
          leads = λ i some. own_leads i (omega (arith, some, count)) ∙ ap (λ t. entering execs (number ps t)) (ap (λ (ts : List Target). get_or ts i (First 0)) outs ∙ nth_first (successors kind) i some);
        }

    -- the way to it
    pub own_prefix : (k : ℕ) → p.own ≡ First k → (r : IsPrefix told met names execs loops well a.place) → IsRoute (flow execs) (entry execs k) r.prefix (own_piece (parts execs) a.place)
    own_prefix k own r =
        let is : first_piece ps a.place ≡ number ps (First k) = sym first_is ∙ ap (number ps) own in
        subst (λ n. IsRoute (flow execs) (entering execs n) r.prefix (own_piece ps a.place)) is r.route
