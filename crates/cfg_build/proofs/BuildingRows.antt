-- The rows of a program, part by part.
use Rattle.std.proofs.Common.{◌≡◌, ℕ, suc, ◌+◌, ◌<◌, Bool, true, false, List, [], ◌∷◌, ◌++◌, length, take, get_or, map, flat_map, sum_by, ap, ◌∙◌, refl, arith, subst}
use Rattle.std.proofs.lemmas.List.{append-nil, append_assoc, take_more, map-append, length-map}
use Rattle.std.proofs.lemmas.List.Concat.{flat_map-append}
use Rattle.cfg_build.specs.declared.numbers.ByTarget.{ByTarget}
use Rattle.cfg_build.specs.declared.parts.Part.{Part}
use Rattle.cfg_build.specs.declared.parts.Target.{Target}
use Rattle.cfg_build.specs.declared.parts.Target.TheVariants.{Start}
use Rattle.cfg_build.specs.declared.pieces.Piece.{Piece}
use Rattle.cfg_build.specs.Control.{fan}
use Rattle.cfg_build.specs.Parts.{start_part}
use Rattle.cfg_build.specs.Joined.{Row, ways_to, number, width, rows_of}
use Rattle.cfg_build.specs.Tables.{number_in, IsLedTo, AreParts, is_joined_by, rows_from}
use Rattle.cfg_build.proofs.BuildingControl.{fan-append}
use Rattle.cfg_build.proofs.PieceNumbers.{part_at, first_piece, number_is, length_rows_on}

-- ---- the edges of one part

pub joined_edges : (before middle after : List (ℕ × ℕ)) (first join node : ℕ) (joined : Bool) (part : Part) (heads : List ℕ) → joined ≡ true → join ≡ first → node ≡ first + 1
    → middle ≡ before ++ (join, join + 1) ∷ [] → after ≡ middle ++ map (λ head. (node, head)) heads
    → after ≡ before ++ fan first (map (λ (row : Row). row.heads) (rows_from first joined part heads))
joined_edges before middle after first join node joined part heads is join_is node_is middle_is after_is =
    grind (arith, append_assoc before ((join, join + 1) ∷ []), append-nil)

pub single_edges : (before middle after : List (ℕ × ℕ)) (first node : ℕ) (joined : Bool) (part : Part) (heads : List ℕ) → joined ≡ false → node ≡ first
    → middle ≡ before → after ≡ middle ++ map (λ head. (node, head)) heads
    → after ≡ before ++ fan first (map (λ (row : Row). row.heads) (rows_from first joined part heads))
single_edges before middle after first node joined part heads is node_is middle_is after_is = grind (arith, append-nil)

-- ---- all parts

map_same : {X Y : Type 0} (f g : X → Y) (d : X) (xs : List X) → ((k : ℕ) → k < length xs → f (get_or xs k d) ≡ g (get_or xs k d)) → map f xs ≡ map g xs
map_same f g d [] same = refl
map_same f g d (x ∷ xs) same =
    ap (λ y. y ∷ map f xs) (same 0 (omega arith)) ∙ ap (λ ys. g x ∷ ys) (map_same f g d xs (λ k l. same (suc k) (omega (arith, l))))

pub rows_more : (ps : List Part) (i : ℕ) → i < length ps → flat_map (rows_of ps) (take (i + 1) ps) ≡ flat_map (rows_of ps) (take i ps) ++ rows_of ps (part_at ps i)
rows_more ps i l =
    grind (arith, flat_map (rows_of ps), take_more ps i start_part l, flat_map-append (rows_of ps) (take i ps) (part_at ps i ∷ []), part_at ps i, flat_map (rows_of ps) (take i ps), append-nil (rows_of ps (part_at ps i)))

module _ (execs : ℕ) (ps : List Part) (are : AreParts execs ps) (ways numbers : ByTarget) (told : (t : Target) → number_in ways t ≡ ways_to ps t) (numbered : (j : ℕ) → j < length ps → number_in numbers (part_at ps j).own ≡ number ps (part_at ps j).own) where
  head_is : (t : Target) → IsLedTo ps t → number_in numbers t ≡ number ps t
  head_is t led = subst (λ (x : Target). number_in numbers x ≡ number ps x) led.own (numbered led.place led.exists)

  pub length_so_far : (i : ℕ) → length (flat_map (rows_of ps) (take i ps)) ≡ sum_by (width ps) (take i ps)
  length_so_far i = length_rows_on ps (take i ps)

  -- the rows that are drawn are those of the part
  pub rows_are : (i first : ℕ) (part : Part) → i < length ps → part ≡ part_at ps i → first ≡ first_piece ps i → rows_from first (is_joined_by (number_in ways part.own) part) part (map (number_in numbers) part.outs) ≡ rows_of ps (part_at ps i)
  rows_are i first part l is place = grind (arith, part_at ps i, map_same (number_in numbers) (number ps) Start, head_is, number_is ps i are.apart l)

  pub pieces_step : (i first : ℕ) (part : Part) (before after : List Piece) → i < length ps → part ≡ part_at ps i → first ≡ length before → before ≡ map (λ (row : Row). row.piece) (flat_map (rows_of ps) (take i ps))
      → after ≡ before ++ map (λ (row : Row). row.piece) (rows_from first (is_joined_by (number_in ways part.own) part) part (map (number_in numbers) part.outs))
      → after ≡ map (λ (row : Row). row.piece) (flat_map (rows_of ps) (take (i + 1) ps))
  pieces_step i first part before after l is first_is before_is after_is =
      grind (arith, flat_map (rows_of ps) (take i ps), first_piece ps i, length-map, length_so_far i, rows_are i first part l is, part_at ps i, map-append, rows_more ps i l)

  pub edges_step : (i first : ℕ) (part : Part) (pieces : List Piece) (zeroth : ℕ × ℕ) (before after : List (ℕ × ℕ)) → i < length ps → part ≡ part_at ps i → first ≡ length pieces → pieces ≡ map (λ (row : Row). row.piece) (flat_map (rows_of ps) (take i ps))
      → before ≡ zeroth ∷ fan 0 (map (λ (row : Row). row.heads) (flat_map (rows_of ps) (take i ps)))
      → after ≡ before ++ fan first (map (λ (row : Row). row.heads) (rows_from first (is_joined_by (number_in ways part.own) part) part (map (number_in numbers) part.outs)))
      → after ≡ zeroth ∷ fan 0 (map (λ (row : Row). row.heads) (flat_map (rows_of ps) (take (i + 1) ps)))
  edges_step i first part pieces zeroth before after l is first_is pieces_is before_is after_is =
      grind (arith, flat_map (rows_of ps) (take i ps), part_at ps i, length-map, first_piece ps i, length_so_far i, rows_are i first part l is, fan-append 0, map-append, rows_more ps i l)
