-- Lines, item by item.
use Rattle.std.proofs.Common.{◌≡◌, ℕ, zero, suc, ◌≤◌, ◌+◌, ◌<◌, List, [], ◌∷◌, ◌++◌, length, get_or, map, drop, max, Some, slice_get, subst, arith, Result, Ok, Err, refl, sym, ap, ◌∙◌, add-one, drop-cons, append_assoc}
use Rattle.op_table.specs.declared.Trap.{Trap}
use Rattle.f77_tree.specs.declared.programs.Exec.{Exec}
use Rattle.f77_tree.specs.declared.programs.Item.{Item}
use Rattle.f77_tree.specs.Line.{item_before, line_of_texts, item_room, line_room}
use Rattle.f77_meaning.specs.Room.{item_pushed, line_after, kind_room, most_room}

after_item : (text : Result (List ℕ) Trap) (xs ys : List ℕ) (more : Result (List ℕ) Trap) → item_pushed xs text ≡ Ok ys → line_after xs (item_before text more) ≡ line_after ys more
after_item (Err trap) xs ys more is = absurd cc
after_item (Ok text) xs ys (Err trap) is = refl
after_item (Ok text) xs ys (Ok rest) is =
    let e : xs ++ 32 ∷ text ≡ ys = cc in
    ap Ok (sym (append_assoc xs (32 ∷ text) rest) ∙ ap (λ prefix. prefix ++ rest) e)

after_trap : (text : Result (List ℕ) Trap) (xs : List ℕ) (more : Result (List ℕ) Trap) (trap : Trap) → item_pushed xs text ≡ Err trap → line_after xs (item_before text more) ≡ Err trap
after_trap (Err other) xs more trap is = is
after_trap (Ok text) xs more trap is = absurd cc

-- one item more
pub line_next : (f : Item → Result (List ℕ) Trap) (items : List Item) (i : ℕ) (item : Item) (xs ys : List ℕ) → i < length items → item ≡ get_or items i item → item_pushed xs (f item) ≡ Ok ys → line_after xs (line_of_texts (map f (drop i items))) ≡ line_after ys (line_of_texts (map f (drop (i + 1) items)))
line_next f items i item xs ys lt is was =
    rw (add-one, drop-cons items i item, ← is) (after_item (f item) xs ys (line_of_texts (map f (drop (suc i) items))) was)

-- an item traps
pub line_trap : (f : Item → Result (List ℕ) Trap) (items : List Item) (i : ℕ) (item : Item) (xs : List ℕ) (trap : Trap) → i < length items → item ≡ get_or items i item → item_pushed xs (f item) ≡ Err trap → line_after xs (line_of_texts (map f (drop i items))) ≡ Err trap
line_trap f items i item xs trap lt is was =
    rw (drop-cons items i item, ← is) (after_trap (f item) xs (line_of_texts (map f (drop (suc i) items))) trap was)

-- what is left needs less room
pub room_next : (items : List Item) (i : ℕ) (item : Item) → i < length items → item ≡ get_or items i item → line_room (drop i items) ≡ item_room item + line_room (drop (i + 1) items)
room_next items i item lt is = rw (add-one, drop-cons items i item, ← is) refl

-- the most of what is left
pub most_next : (execs : List Exec) (i : ℕ) (exec : Exec) → i < length execs → exec ≡ get_or execs i exec → most_room (drop i execs) ≡ max (kind_room exec.kind) (most_room (drop (i + 1) execs))
most_next execs i exec lt is = rw (add-one, drop-cons execs i exec, ← is) refl

-- no executable writes more than the most
pub most_enough : (execs : List Exec) (k : ℕ) (exec : Exec) → slice_get execs k ≡ Some exec → kind_room exec.kind ≤ most_room execs
most_enough [] k exec at = absurd cc
most_enough (first ∷ execs) zero exec at =
    let same : first ≡ exec = cc in
    let le : kind_room exec.kind ≤ max (kind_room exec.kind) (most_room execs) = omega arith in
    subst (λ (e : Exec). kind_room exec.kind ≤ max (kind_room e.kind) (most_room execs)) (sym same) le
most_enough (first ∷ execs) (suc k) exec at = let rest = most_enough execs k exec at in omega (arith, rest)
