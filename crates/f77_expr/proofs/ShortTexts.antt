-- No expression of the grammar that is read alike has a shorter text than the one that is printed.
use Rattle.std.proofs.Common.{◌≡◌, ℕ, ◌+◌, ◌≤◌, Bool, true, false, cond, List, [], ◌∷◌, ◌++◌, length, refl, ap, ◌∙◌, arith, length-append}
use Rattle.std.specs.Prelude.{codes, nat_le}
use Rattle.std.proofs.lemmas.Bool.{le-leb}
use Rattle.f77_tree.specs.declared.statements.RawExpr.{RawExpr}
use Rattle.f77_tree.specs.Grammar.{Written, Arguments, level, IsGrammatical, AreGrammatical, spelling, spellings, reading, readings}
use Rattle.f77_expr.specs.Printing.{enclosed, and_last}

-- neither between brackets nor after a sign +
abbrev pub IsCore : Written → Type 0
IsCore (Written.bracketed w) = ⊥
IsCore (Written.plus w) = ⊥
IsCore _ = Unit {0}

-- of the same reading, and not shorter
pub record Exceeds (v w : Written) : Type 0 where
  pub level_le : level v ≤ level w
  pub longer : length (spelling w) ≤ length (spelling v)

-- none that is read as e is shorter, or has a higher level, brackets and signs + apart
abbrev pub IsLeast : Written → RawExpr → Type 0
IsLeast w e = (v : Written) → IsCore v → IsGrammatical v → reading v ≡ e → Exceeds v w

-- ---- places

length-bracketed : (w : Written) → length (spelling (Written.bracketed w)) ≡ length (spelling w) + 2
length-bracketed w = length-append (codes "(" ++ spelling w) (codes ")") ∙ ap (λ n. n + 1) (length-append (codes "(") (spelling w)) ∙ omega arith

enclosed_by : (b : Bool) (w : Written) → length (spelling (cond b w (Written.bracketed w))) ≤ length (spelling w) + 2
enclosed_by true w = omega arith
enclosed_by false w = let is = length-bracketed w in omega (arith, is)

length-enclosed : (least : ℕ) (w : Written) → length (spelling (enclosed least w)) ≤ length (spelling w) + 2
length-enclosed least w = enclosed_by (nat_le least (level w)) w

enclosed-none : (least : ℕ) (w : Written) → least ≤ level w → enclosed least w ≡ w
enclosed-none least w le = rw (le-leb least (level w) le) refl

length-plus : (v : Written) → length (spelling (Written.plus v)) ≡ length (spelling v) + 1
length-plus v = length-append (codes "+") (spelling v) ∙ omega arith

placed_core : (w v : Written) (least : ℕ) → least ≤ level v → Exceeds v w → length (spelling (enclosed least w)) ≤ length (spelling v)
placed_core w v least le exceeds =
    let is = ap (λ x. length (spelling x)) (enclosed-none least w (omega (arith, le, exceeds.level_le))) in
    omega (arith, is, exceeds.longer)

-- where an expression of some level may stand, none that is read alike is shorter
pub placed : (w : Written) (e : RawExpr) → IsLeast w e → (least : ℕ) (v : Written) → IsGrammatical v → least ≤ level v → reading v ≡ e → length (spelling (enclosed least w)) ≤ length (spelling v)
placed w e is least (Written.number digits) g le same = placed_core w (Written.number digits) least le (is (Written.number digits) tt g same)
placed w e is least (Written.truth b) g le same = placed_core w (Written.truth b) least le (is (Written.truth b) tt g same)
placed w e is least (Written.name n) g le same = placed_core w (Written.name n) least le (is (Written.name n) tt g same)
placed w e is least (Written.call n arguments) g le same = placed_core w (Written.call n arguments) least le (is (Written.call n arguments) tt g same)
placed w e is least (Written.minus v) g le same = placed_core w (Written.minus v) least le (is (Written.minus v) tt g same)
placed w e is least (Written.negation v) g le same = placed_core w (Written.negation v) least le (is (Written.negation v) tt g same)
placed w e is least (Written.binary op a b) g le same = placed_core w (Written.binary op a b) least le (is (Written.binary op a b) tt g same)
placed w e is least (Written.bracketed v) g le same =
    let inner = placed w e is 0 v g (omega arith) same in
    let zero_is = ap (λ x. length (spelling x)) (enclosed-none 0 w (omega arith)) in
    let most = length-enclosed least w in
    let long = length-bracketed v in
    omega (arith, inner, zero_is, most, long)
placed w e is least (Written.plus v) g le same =
    let inner = placed w e is least v g.0 (omega (arith, le, g.1)) same in
    let long = length-plus v in
    omega (arith, inner, long)

-- alone it is the shortest
pub shortest_alone : (w : Written) (e : RawExpr) → IsLeast w e → (v : Written) → IsGrammatical v → reading v ≡ e → length (spelling w) ≤ length (spelling v)
shortest_alone w e is v g same =
    let inner = placed w e is 0 v g (omega arith) same in
    let zero_is = ap (λ x. length (spelling x)) (enclosed-none 0 w (omega arith)) in
    omega (arith, inner, zero_is)

-- ---- arguments

-- each is the least for its reading
abbrev pub AreLeast : Arguments → List RawExpr → Type 0
AreLeast (Arguments.last w) [] = ⊥
AreLeast (Arguments.last w) (e ∷ []) = IsLeast w e
AreLeast (Arguments.last w) (e ∷ f ∷ es) = ⊥
AreLeast (Arguments.before w more) [] = ⊥
AreLeast (Arguments.before w more) (e ∷ es) = IsLeast w e × AreLeast more es

pub and_last_least : (arguments : Arguments) (es : List RawExpr) (w : Written) (e : RawExpr) → AreLeast arguments es → IsLeast w e → AreLeast (and_last arguments w) (es ++ (e ∷ []))
and_last_least (Arguments.last a) [] w e all is = elim all [ ]
and_last_least (Arguments.last a) (x ∷ []) w e all is = (all, is)
and_last_least (Arguments.last a) (x ∷ y ∷ es) w e all is = elim all [ ]
and_last_least (Arguments.before a more) [] w e all is = elim all [ ]
and_last_least (Arguments.before a more) (x ∷ es) w e all is = (all.0, and_last_least more es w e all.1 is)

-- some argument is read
no_end : (arguments : Arguments) → readings arguments ≡ [] → ⊥
no_end (Arguments.last w) is = cc
no_end (Arguments.before w more) is = cc

length-before : (w : Written) (more : Arguments) → length (spellings (Arguments.before w more)) ≡ length (spelling w) + 1 + length (spellings more)
length-before w more = length-append (spelling w ++ codes ",") (spellings more) ∙ ap (λ n. n + length (spellings more)) (length-append (spelling w) (codes ","))

-- no arguments that are read alike are shorter
pub shortest_arguments : (arguments : Arguments) (es : List RawExpr) → AreLeast arguments es → (others : Arguments) → AreGrammatical others → readings others ≡ es → length (spellings arguments) ≤ length (spellings others)
shortest_arguments (Arguments.last w) [] all others g same = elim all [ ]
shortest_arguments (Arguments.last w) (e ∷ []) all (Arguments.last v) g same = let is : reading v ≡ e = cc in shortest_alone w e all v g is
shortest_arguments (Arguments.last w) (e ∷ []) all (Arguments.before v more) g same = let none : readings more ≡ [] = cc in absurd (no_end more none)
shortest_arguments (Arguments.last w) (e ∷ f ∷ es) all others g same = elim all [ ]
shortest_arguments (Arguments.before w more) [] all others g same = elim all [ ]
shortest_arguments (Arguments.before w more) (e ∷ es) all (Arguments.before v others) g same =
    let is : reading v ≡ e = cc in
    let are : readings others ≡ es = cc in
    let first = shortest_alone w e all.0 v g.0 is in
    let rest = shortest_arguments more es all.1 others g.1 are in
    let here = length-before w more in
    let there = length-before v others in
    omega (arith, first, rest, here, there)
shortest_arguments (Arguments.before w (Arguments.last x)) (e ∷ []) all (Arguments.last v) g same = elim all.1 [ ]
shortest_arguments (Arguments.before w (Arguments.before x more)) (e ∷ []) all (Arguments.last v) g same = elim all.1 [ ]
shortest_arguments (Arguments.before w more) (e ∷ f ∷ es) all (Arguments.last v) g same = absurd cc
