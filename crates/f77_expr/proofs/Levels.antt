-- The levels of operators and of what they join: the facts that leave the grammar one reading.
use Rattle.std.proofs.Common.{◌≡◌, ℕ, suc, ◌<◌, ◌≤◌, ◌⊎◌, inl, inr, refl, ⊎_elim, arith}
use Rattle.op_table.specs.declared.Op.{Op}
use Rattle.op_table.specs.declared.Op.TheVariants.{Add, Sub, Mul, Div, Pow, Lt, Le, Eq, Ne, Ge, Gt, And, Or, Eqv, Neqv}
use Rattle.f77_tree.specs.Grammar.{Written, level, operator_level, left_level, right_level, IsGrammatical}

-- how the level of an operator stands to the least levels of its operands
pub record AreLevels (own left right : ℕ) : Type 0 where
  pub from_left : own ≤ left
  pub from_right : own ≤ right
  -- no operand on the left is asked to be a power
  pub no_power : (left ≤ 6) ⊎ (8 ≤ left)
  -- only powers are grouped from the right
  pub grouped : (right ≡ suc own) ⊎ (7 ≤ own)
  -- an operator that some operand on the left may have
  pub allowed : left ≤ 8 → (right ≤ 8) × (own ≤ 7)

chain_levels : (own : ℕ) → own ≤ 6 → AreLevels own own (suc own)
chain_levels own h = record { from_left = omega arith; from_right = omega arith; no_power = inl h; grouped = inl refl; allowed = λ any. (omega arith, omega arith) }

relation_levels : AreLevels 4 5 5
relation_levels = record { from_left = omega arith; from_right = omega arith; no_power = inl (omega arith); grouped = inl refl; allowed = λ any. (omega arith, omega arith) }

power_levels : AreLevels 7 8 7
power_levels = record { from_left = omega arith; from_right = omega arith; no_power = inr (omega arith); grouped = inr (omega arith); allowed = λ any. (omega arith, omega arith) }

no_levels : AreLevels 9 9 9
no_levels = record { from_left = omega arith; from_right = omega arith; no_power = inr (omega arith); grouped = inr (omega arith); allowed = λ few. absurd (omega arith) }

pub levels_of : (op : Op) → AreLevels (operator_level op) (left_level op) (right_level op)
levels_of Eqv = chain_levels 0 (omega arith)
levels_of Neqv = chain_levels 0 (omega arith)
levels_of Or = chain_levels 1 (omega arith)
levels_of And = chain_levels 2 (omega arith)
levels_of Lt = relation_levels
levels_of Le = relation_levels
levels_of Eq = relation_levels
levels_of Ne = relation_levels
levels_of Ge = relation_levels
levels_of Gt = relation_levels
levels_of Add = chain_levels 5 (omega arith)
levels_of Sub = chain_levels 5 (omega arith)
levels_of Mul = chain_levels 6 (omega arith)
levels_of Div = chain_levels 6 (omega arith)
levels_of Pow = power_levels
levels_of _ = no_levels

-- no expression of the grammar has a level above that of primaries
pub level_most : (w : Written) → IsGrammatical w → level w ≤ 8
level_most (Written.number digits) h = omega arith
level_most (Written.truth b) h = omega arith
level_most (Written.name n) h = omega arith
level_most (Written.call n args) h = omega arith
level_most (Written.bracketed w) h = omega arith
level_most (Written.plus w) h = omega arith
level_most (Written.minus w) h = omega arith
level_most (Written.negation w) h = omega arith
level_most (Written.binary op a b) h = let below = level_most a h.0 in omega (arith, below, h.2, (levels_of op).from_left)

-- the level below which an operator after the expression must be, so that it takes the whole of it
abbrev pub edge : Written → ℕ
edge (Written.plus w) = 6
edge (Written.minus w) = 6
edge (Written.negation w) = 4
edge (Written.binary op a b) = right_level op
edge _ = 9

pub level_edge : (w : Written) → level w ≤ edge w
level_edge (Written.number digits) = omega arith
level_edge (Written.truth b) = omega arith
level_edge (Written.name n) = omega arith
level_edge (Written.call n args) = omega arith
level_edge (Written.bracketed w) = omega arith
level_edge (Written.plus w) = omega arith
level_edge (Written.minus w) = omega arith
level_edge (Written.negation w) = omega arith
level_edge (Written.binary op a b) = (levels_of op).from_right

-- an operator after another
after_operator : (own left right own_before right_before : ℕ) → (left ≤ 6) ⊎ (8 ≤ left) → (right_before ≡ suc own_before) ⊎ (7 ≤ own_before) → own ≤ left → own ≤ 7 → own_before ≤ right_before → left ≤ own_before → own < right_before
after_operator own left right own_before right_before no_power grouped from_left own_few from_right fits =
    ⊎_elim (λ (next : right_before ≡ suc own_before). omega arith)
    (λ (high : 7 ≤ own_before). ⊎_elim (λ (few : left ≤ 6). omega arith) (λ (many : 8 ≤ left). omega arith) no_power) grouped

-- an operator that may have an expression on its left takes the whole of it: no operand in it reaches after
pub takes_whole : (op : Op) (a : Written) → IsGrammatical a → left_level op ≤ level a → operator_level op < edge a
takes_whole op (Written.number digits) h fits = omega (arith, ((levels_of op).allowed fits).1)
takes_whole op (Written.truth b) h fits = omega (arith, ((levels_of op).allowed fits).1)
takes_whole op (Written.name n) h fits = omega (arith, ((levels_of op).allowed fits).1)
takes_whole op (Written.call n args) h fits = omega (arith, ((levels_of op).allowed fits).1)
takes_whole op (Written.bracketed w) h fits = omega (arith, ((levels_of op).allowed fits).1)
takes_whole op (Written.plus w) h fits = omega (arith, (levels_of op).from_left, fits)
takes_whole op (Written.minus w) h fits = omega (arith, (levels_of op).from_left, fits)
takes_whole op (Written.negation w) h fits = omega (arith, (levels_of op).from_left, fits)
takes_whole op (Written.binary before a b) h fits =
    let most : operator_level before ≤ 8 = level_most (Written.binary before a b) h in
    let few : left_level op ≤ 8 = omega (arith, fits, most) in
    after_operator (operator_level op) (left_level op) (right_level op) (operator_level before) (right_level before)
    (levels_of op).no_power (levels_of before).grouped (levels_of op).from_left ((levels_of op).allowed few).1 (levels_of before).from_right fits
