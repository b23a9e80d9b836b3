-- The own piece of an executable: the first one of its chain that is no join and no hold.
use Rattle.std.proofs.Common.{◌≡◌, ℕ, zero, suc, ◌+◌, ◌-◌, ◌<◌, ◌≤◌, Bool, true, false, List, [], ◌∷◌, ◌++◌, length, slice_index, ap, ◌∙◌, arith}
use Rattle.std.proofs.Math.Seq.{get_or-append_seam}
use Rattle.std.proofs.lemmas.Bool.{cond-true, cond-false}
use Rattle.std.proofs.lemmas.List.{length-append, get_or-append-add}
use Rattle.std.specs.List.{prefix_len}
use Rattle.closed_walks.specs.Graph.{to}
use Rattle.f77_tree.specs.declared.programs.Exec.{Exec}
use Rattle.f77_tree.specs.declared.programs.ExecKind.{ExecKind}
use Rattle.cfg_build.specs.declared.pieces.PieceKind.TheVariants as piece
use Rattle.cfg_build.specs.Parts.{first_kind}
use Rattle.cfg_build.specs.Joined.{FlowGraph}
use Rattle.cfg_build.specs.Flow.{piece_at}
use Rattle.cfg_build.specs.Passes.{out}
use Rattle.cfg_build.specs.Chains.{has_test}
use Rattle.cfg_build.specs.Routes.{leads_on, IsRoute, IsMade, last_kind, IsOnePart, IsTwoParts, AreChain}
use Rattle.cfg_build.specs.Steps.{led_in}
use Rattle.cfg_build.proofs.ChainSteps.{own_last}

-- ---- which kinds of pieces run an executable

pub first_acts : (kind : ExecKind) → has_test kind ≡ true → first_kind kind ≡ piece.Act
first_acts h h2 = grind arith

pub first_is_last : (kind : ExecKind) → has_test kind ≡ false → first_kind kind ≡ last_kind kind
first_is_last h h2 = grind arith

-- neither the first piece nor the last one only leads on
pub first_runs : (kind : ExecKind) → leads_on (first_kind kind) ≡ false
first_runs h = grind arith

pub last_runs : (kind : ExecKind) → leads_on (last_kind kind) ≡ false
last_runs h = grind arith

-- ---- the first pieces that pass a test

prefix_goes : (test : ℕ → Bool) (x : ℕ) (xs : List ℕ) (i : ℕ) → i < prefix_len test (x ∷ xs) → (test x ≡ true) × (i < 1 + prefix_len test xs)
prefix_goes test x xs i less = grind (arith, cond-true, cond-false)

pub prefix_passes : (test : ℕ → Bool) (xs : List ℕ) (i : ℕ) → i < prefix_len test xs → test (slice_index xs i) ≡ true
prefix_passes test [] i less = absurd (omega (arith, less))
prefix_passes test (x ∷ xs) zero less = (prefix_goes test x xs 0 less).0
prefix_passes test (x ∷ xs) (suc i) less = let goes = prefix_goes test x xs (suc i) less in prefix_passes test xs i (omega (arith, goes.1))

module _ (f : FlowGraph) where
  abbrev leads : ℕ → Bool
  leads node = leads_on (piece_at f.pieces node).kind

  -- a route has as many pieces as lead on before its last one
  pub led_along : (prefix : List ℕ) (node own : ℕ) (rest : List ℕ) → IsRoute f node prefix own → leads_on (piece_at f.pieces own).kind ≡ false → led_in f (prefix ++ own ∷ rest) ≡ length prefix
  led_along [] node own rest route runs = cond-false (leads own) (1 + prefix_len leads rest) 0 runs
  led_along (first ∷ more) node own rest route runs =
      grind (arith, cond-true (leads first) (1 + prefix_len leads (more ++ own ∷ rest)) 0 route.1, led_along more (to f.graph (out f.graph first 0)) own rest route.2 runs)

  -- each piece of a route leads on
  pub route_leads : (prefix : List ℕ) (node own : ℕ) (rest : List ℕ) (i : ℕ) → IsRoute f node prefix own → i < length prefix → leads_on (piece_at f.pieces (slice_index (prefix ++ own ∷ rest) i)).kind ≡ true
  route_leads [] node own rest i route less = absurd (omega (arith, less))
  route_leads (first ∷ more) node own rest zero route less = route.1
  route_leads (first ∷ more) node own rest (suc i) route less = route_leads more (to f.graph (out f.graph first 0)) own rest i route.2 (omega (arith, less))

  -- the own piece of some pieces stands among them, and is made for the executable
  pub record IsOwn (execs : List Exec) (k : ℕ) (kind : ExecKind) (pieces : List ℕ) : Type 0 where
    pub exists : led_in f pieces < length pieces
    pub made : IsMade f execs (slice_index pieces (led_in f pieces)) (first_kind kind) k

  own_of : (execs : List Exec) (k : ℕ) (kind : ExecKind) (prefix : List ℕ) (node own : ℕ) (rest pieces : List ℕ) → pieces ≡ prefix ++ own ∷ rest → IsRoute f node prefix own → IsMade f execs own (first_kind kind) k → IsOwn execs k kind pieces
  own_of execs k kind prefix node own rest pieces are route made =
      grind (arith, led_along prefix node own rest route, first_runs kind, length-append prefix (own ∷ rest), slice_index, slice_index (prefix ++ own ∷ rest), get_or-append_seam prefix own rest 0)

  pub own_of_one : (entry : ℕ → ℕ) (execs : List Exec) (k : ℕ) (kind : ExecKind) (pieces : List ℕ) → has_test kind ≡ false → IsOnePart f entry execs k kind pieces → IsOwn execs k kind pieces
  own_of_one entry execs k kind pieces single c =
      grind (arith, own_of execs k kind c.prefix (entry k) c.last, first_is_last kind single, own_last execs k kind single)

  pub own_of_two : (entry : ℕ → ℕ) (execs : List Exec) (k : ℕ) (kind : ExecKind) (pieces : List ℕ) → has_test kind ≡ true → IsTwoParts f entry execs k kind pieces → IsOwn execs k kind pieces
  own_of_two entry execs k kind pieces two c =
      grind (arith, own_of execs k kind c.prefix (entry k) c.act (c.middle ++ c.test ∷ []) pieces c.are c.route, first_acts kind two)

  pub own_piece_of : (entry : ℕ → ℕ) (execs : List Exec) (k : ℕ) (kind : ExecKind) (pieces : List ℕ) → AreChain f entry execs k (has_test kind) kind pieces → IsOwn execs k kind pieces
  own_piece_of entry execs k kind pieces c = grind (arith, own_of_two entry execs k, own_of_one entry execs k)

  -- nothing comes after the own piece of one part
  pub none_past : (entry : ℕ → ℕ) (execs : List Exec) (k : ℕ) (kind : ExecKind) (pieces : List ℕ) → IsOnePart f entry execs k kind pieces → (i : ℕ) → led_in f pieces < i → i < length pieces → ⊥
  none_past entry execs k kind pieces c i past exists =
      grind (arith, last_runs kind, led_along c.prefix (entry k) c.last, length-append c.prefix (c.last ∷ []))

  -- a piece after the act of two parts
  pub record IsPastAct (pieces prefix middle : List ℕ) (test i : ℕ) : Type 0 where
    pub place : ℕ
    pub split : i ≡ suc (length prefix) + place
    pub below : place ≤ length middle
    pub node : slice_index pieces i ≡ slice_index (middle ++ test ∷ []) place

  pub past_act : (entry : ℕ → ℕ) (execs : List Exec) (k : ℕ) (kind : ExecKind) (pieces : List ℕ) (c : IsTwoParts f entry execs k kind pieces) (i : ℕ) → led_in f pieces < i → i < length pieces → IsPastAct pieces c.prefix c.middle c.test i
  past_act entry execs k kind pieces c i past exists =
      let rest : List ℕ = c.middle ++ c.test ∷ [] in
      let place : led_in f pieces ≡ length c.prefix = ap (λ xs. led_in f xs) c.are ∙ led_along c.prefix (entry k) c.act rest c.route (ap leads_on c.acts.kind_is) in
      let cut : length pieces ≡ length (c.prefix ++ c.act ∷ rest) = ap (λ (xs : List ℕ). length xs) c.are in
      let first : length (c.prefix ++ c.act ∷ rest) ≡ length c.prefix + length (c.act ∷ rest) = length-append c.prefix (c.act ∷ rest) in
      let second : length rest ≡ length c.middle + length (c.test ∷ []) = length-append c.middle (c.test ∷ []) in
      let next : i ≡ length c.prefix + suc (i - suc (length c.prefix)) = omega (arith, place, past) in
      record {
        place = i - suc (length c.prefix);
        split = omega (arith, next);
        below = omega (arith, cut, first, second, exists, place, past);
        node = ap (λ (xs : List ℕ). slice_index xs i) c.are ∙ ap (λ n. slice_index (c.prefix ++ c.act ∷ rest) n) next ∙ get_or-append-add c.prefix (c.act ∷ rest) (suc (i - suc (length c.prefix))) 0;
      }
