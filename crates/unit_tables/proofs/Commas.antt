-- One list more after commas.
use Rattle.std.proofs.Common.{◌≡◌, List, [], ◌∷◌, ◌++◌, map, Vec, Global, ap, append_assoc}
use Rattle.std.proofs.lemmas.List.{append-nil, map-append}
use Rattle.fortran_tree.specs.declared.error.Place.{Place}
use Rattle.fortran_tree.specs.declared.signs.Sign.TheVariants.{Comma}
use Rattle.fortran_tree.specs.declared.tokens.Token.TheVariants.{Sign}
use Rattle.fortran_tree.specs.declared.tokens.Node.{Node}
use Rattle.fortran_tree.specs.declared.tokens.Node.TheVariants.{Leaf}
use Rattle.unit_tables.specs.Pieces.{after_commas}

after_commas-append : (place : Place) (pieces : List (List Node)) (piece : List Node) → after_commas place (pieces ++ piece ∷ []) ≡ after_commas place pieces ++ Leaf (Sign Comma) place ∷ piece
after_commas-append place [] piece = ap (λ rest. Leaf (Sign Comma) place ∷ rest) (append-nil piece)
after_commas-append place (first ∷ pieces) piece =
    let next : first ++ after_commas place (pieces ++ piece ∷ []) ≡ (first ++ after_commas place pieces) ++ Leaf (Sign Comma) place ∷ piece = rw (after_commas-append place pieces piece) (simp append_assoc) in
    ap (λ rest. Leaf (Sign Comma) place ∷ rest) next

abbrev nodes_of : Vec Node Global → List Node
nodes_of piece = piece.items

pub comma_next : (place : Place) (start : List Node) (pieces : List (Vec Node Global)) (piece : Vec Node Global) (nodes pushed appended : List Node) (comma : Node) → nodes ≡ start ++ after_commas place (map nodes_of pieces) → comma ≡ Leaf (Sign Comma) place → pushed ≡ nodes ++ comma ∷ [] → appended ≡ pushed ++ piece.items → appended ≡ start ++ after_commas place (map nodes_of (pieces ++ piece ∷ []))
comma_next place start pieces piece nodes pushed appended comma so_far comma_is pushed_is appended_is =
    let mapped : map nodes_of (pieces ++ piece ∷ []) ≡ map nodes_of pieces ++ piece.items ∷ [] = map-append nodes_of pieces (piece ∷ []) in
    let next = after_commas-append place (map nodes_of pieces) piece.items in
    rw (appended_is, pushed_is, so_far, comma_is, mapped, next) (simp append_assoc)
