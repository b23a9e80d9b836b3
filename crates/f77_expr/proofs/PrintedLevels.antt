-- What stands between brackets has the level that its place asks for, and is read alike.
use Rattle.std.proofs.Common.{◌≡◌, ℕ, ◌≤◌, Bool, true, false, cond, refl}
use Rattle.std.specs.Prelude.{nat_le}
use Rattle.std.proofs.lemmas.Bool.{leb-true}
use Rattle.f77_tree.specs.declared.statements.RawExpr.{RawExpr}
use Rattle.f77_tree.specs.Grammar.{Written, level, IsGrammatical, reading, has_great_number}
use Rattle.f77_expr.specs.Printing.{enclosed}

-- an expression of the grammar that is read as e, without a constant that is too great
pub record Writes (w : Written) (e : RawExpr) : Type 0 where
  pub grammatical : IsGrammatical w
  pub is : reading w ≡ e
  pub constants : has_great_number w ≡ false

-- the choice of brackets, by a test
enclosed_by : (b : Bool) (w : Written) (e : RawExpr) → Writes w e → Writes (cond b w (Written.bracketed w)) e
enclosed_by true w e writes = writes
enclosed_by false w e writes = record { grammatical = writes.grammatical; is = writes.is; constants = writes.constants }

pub writes_enclosed : (least : ℕ) (w : Written) (e : RawExpr) → Writes w e → Writes (enclosed least w) e
writes_enclosed least w e writes = enclosed_by (nat_le least (level w)) w e writes

level_by : (b : Bool) (least : ℕ) (w : Written) → nat_le least (level w) ≡ b → least ≤ 8 → least ≤ level (cond b w (Written.bracketed w))
level_by true least w is le = leb-true least (level w) is
level_by false least w is le = le

pub level-enclosed : (least : ℕ) (w : Written) → least ≤ 8 → least ≤ level (enclosed least w)
level-enclosed least w le = level_by (nat_le least (level w)) least w refl le
