-- The graph of the executables, edge by edge.
use Rattle.std.proofs.Common.{◌≡◌, ℕ, suc, ◌+◌, ◌*◌, ◌<◌, ◌≤◌, List, [], ◌∷◌, ◌++◌, length, map, take, get_or, ap, refl, arith, length-append}
use Rattle.std.proofs.lemmas.List.{append_assoc, append-nil, map_more, length-map, length-take-le, length_push}
use Rattle.std.proofs.lemmas.List.Sums.{sum_by-cons, sum_by_more_le}
use Rattle.std.specs.List.{sum_by}
use Rattle.f77_tree.specs.declared.programs.Exec.{Exec}
use Rattle.f77_tree.specs.declared.programs.ExecKind.{ExecKind}
use Rattle.f77_tree.specs.Control.{successors, targets_of}
use Rattle.cfg_build.specs.Control.{fan}

pub fan-append : (first : ℕ) (xs ys : List (List ℕ)) → fan first (xs ++ ys) ≡ fan first xs ++ fan (first + length xs) ys
fan-append first [] ys = let e : first ≡ first + 0 = omega arith in ap (λ n. fan n ys) e
fan-append first (heads ∷ rest) ys = grind (arith, fan-append (suc first) rest ys, append_assoc)

-- one list of heads more
pub fan_push : (xs : List (List ℕ)) (k : ℕ) (heads : List ℕ) → length xs ≡ k → fan 0 (xs ++ heads ∷ []) ≡ fan 0 xs ++ map (λ head. (k, head)) heads
fan_push xs k heads same = grind (arith, fan-append 0 xs (heads ∷ []), append-nil)

-- the edges from one node more
pub fan_more : {X : Type 0} (f : X → List ℕ) (xs : List X) (k : ℕ) (d : X) → k < length xs → fan 0 (map f (take (k + 1) xs)) ≡ fan 0 (map f (take k xs)) ++ map (λ head. (k, head)) (f (get_or xs k d))
fan_more f xs k d l =
    grind (arith, length-map (take k xs) f, length-take-le k xs, map_more f xs k d l, fan_push (map f (take k xs)) k (f (get_or xs k d)))

-- there is an edge for each head
pub length-fan : {X : Type 0} (f : X → List ℕ) (first : ℕ) (xs : List X) → length (fan first (map f xs)) ≡ sum_by (λ x. length (f x)) xs
length-fan f first [] = refl
length-fan f first (x ∷ xs) = search (length-append, length-map, sum_by-cons, length-fan f (suc first) xs, arith)

-- ---- how many edges there are

few_successors : (kind : ExecKind) → length (successors kind) ≤ 3 + length (targets_of kind)
few_successors h = grind (arith, length_push)

pub few_heads : (execs : List Exec) → sum_by (λ exec. length (successors exec.kind)) execs ≤ 3 * length execs + sum_by (λ exec. length (targets_of exec.kind)) execs
few_heads [] = omega arith
few_heads (exec ∷ execs) = search (sum_by-cons, few_successors, few_heads execs, arith)

-- the edges of the executables before one, and its own, are few
pub few_so_far : (execs : List Exec) (k : ℕ) (d : Exec) → k < length execs → length execs ≤ 20000 → sum_by (λ exec. length (targets_of exec.kind)) execs ≤ 4000 → length (fan 0 (map (λ (exec : Exec). successors exec.kind) (take k execs))) + length (successors (get_or execs k d).kind) ≤ 64000
few_so_far execs k d l count targets = grind (arith, length-fan, sum_by_more_le, few_heads execs)
