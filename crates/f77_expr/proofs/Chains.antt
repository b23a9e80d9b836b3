-- Expressions read one operator after another.
use Rattle.std.proofs.Common.{◌≡◌, ℕ, ◌<◌, Bool, true, false, if◌then◌else◌, ◌&&◌, ◌||◌, nat_le, List, [], ◌∷◌, length, Some, None, refl, sym, ap, subst, ◌∙◌, arith}
use Rattle.std.proofs.Math.Bool.{or_assoc}
use Rattle.op_table.specs.declared.Op.{Op}
use Rattle.f77_tree.specs.declared.statements.RawExpr.{RawExpr}
use Rattle.f77_tree.specs.declared.statements.RawExpr.TheVariants.{Apply}
use Rattle.f77_tree.specs.Grammar.{Written, level, operator_level, left_level, right_level, has_great_number}
use Rattle.f77_expr.specs.Reader.{Reads, and_then_read, operator_at, Readers, continued, the_readers, expression_at, chain_at}
use Rattle.f77_expr.specs.Answers.{allowed, kept, IsRead, IsBegun}
use Rattle.f77_expr.proofs.EachRead.{each_at}
use Rattle.f77_expr.proofs.Prefixes.{IsOperatorIn, operator_prefix}
use Rattle.f77_expr.proofs.Depth.{chain-step}

-- after an operand, and an operator with the text after it
abbrev pub after_operator : Readers → (least : ℕ) → Written → Op × List ℕ → Reads Written
after_operator r least w prefix = and_then_read (λ right rest. r.chain least (Written.binary prefix.0 w right) rest) (r.expression (right_level prefix.0) prefix.1)

-- a choice that gives nothing, and one that gives something
chosen-none : {A B : Type 0} (b : Bool) (p : A) (x y : B) → (if b then Some p else None) ≡ None → (if b then x else y) ≡ y
chosen-none true p x y e = absurd cc
chosen-none false p x y e = refl

chosen-some : {A B : Type 0} (b : Bool) (p q : A) (x y : B) → (if b then Some p else None) ≡ Some q → (p ≡ q) × ((if b then x else y) ≡ x)
chosen-some true p q x y e = (cc, refl)
chosen-some false p q x y e = absurd cc

module _ (r : Readers) (least : ℕ) (w : Written) (text : List ℕ) where
  -- no operator that may stand there: the expression ends
  continued-none : (found : Reads Op) → allowed least (level w) found ≡ None → continued r least w text found ≡ Some (w, text)
  continued-none None e = refl
  continued-none (Some (op, rest)) e =
      let prefix : Op × List ℕ = (op, rest) in
      let ends : Written × List ℕ = (w, text) in
      chosen-none (nat_le least (operator_level op) && nat_le (left_level op) (level w)) prefix (after_operator r least w prefix) (Some ends) e

  -- one that may stand there: the expression goes on
  continued-some : (found : Reads Op) (prefix : Op × List ℕ) → allowed least (level w) found ≡ Some prefix → continued r least w text found ≡ after_operator r least w prefix
  continued-some None prefix e = absurd cc
  continued-some (Some (op, rest)) prefix e =
      let here : Op × List ℕ = (op, rest) in
      let ends : Written × List ℕ = (w, text) in
      let goes = chosen-some (nat_le least (operator_level op) && nat_le (left_level op) (level w)) here prefix (after_operator r least w here) (Some ends) e in
      goes.1 ∙ ap (after_operator r least w) goes.0

allowed-found : (least its_level : ℕ) (found : Reads Op) (prefix : Op × List ℕ) → allowed least its_level found ≡ Some prefix → found ≡ Some prefix
allowed-found least its_level None prefix e = absurd cc
allowed-found least its_level (Some (op, rest)) prefix e =
    let here : Op × List ℕ = (op, rest) in
    ap (λ (p : Op × List ℕ). Some p) (chosen-some (nat_le least (operator_level op) && nat_le (left_level op) its_level) here prefix true false e).0

-- the text after an operator is shorter
pub operator_shorter : (least its_level : ℕ) (text : List ℕ) (op : Op) (rest : List ℕ) → allowed least its_level (operator_at text) ≡ Some (op, rest) → length rest < length text
operator_shorter least its_level text op rest some =
    let found = allowed-found least its_level (operator_at text) (op, rest) some in
    (each_at (λ o tail. IsOperatorIn text o tail) (operator_at text) (operator_prefix text) op rest found).1

-- where an expression ends
pub begun_ends : (least : ℕ) (text : List ℕ) (great : Bool) (e : RawExpr) (its_level : ℕ) (rest : List ℕ) (great_now : Bool) → IsBegun least text great e its_level rest great_now → allowed least its_level (operator_at rest) ≡ None → IsRead text great (expression_at least text) e rest great_now
begun_ends least text great e its_level rest great_now b none =
    let w = b.written in
    let ends : allowed least (level w) (operator_at rest) ≡ None = subst (λ (n : ℕ). allowed least n (operator_at rest) ≡ None) b.has_level none in
    record {
      written = w;
      is_read = b.goes_on ∙ chain-step least w rest ∙ continued-none the_readers least w rest (operator_at rest) ends;
      is_kept = b.is_kept;
      is_great = b.is_great;
      shorter = b.shorter;
    }

module _ (least : ℕ) (text : List ℕ) (great : Bool) (e : RawExpr) (its_level : ℕ) (rest : List ℕ) (great_now : Bool) (b : IsBegun least text great e its_level rest great_now) (op : Op) (beyond : List ℕ) (some : allowed least its_level (operator_at rest) ≡ Some (op, beyond)) where
  operator_goes_on : expression_at least text ≡ after_operator the_readers least b.written (op, beyond)
  operator_goes_on =
      let goes : allowed least (level b.written) (operator_at rest) ≡ Some (op, beyond) = subst (λ (n : ℕ). allowed least n (operator_at rest) ≡ Some (op, beyond)) b.has_level some in
      b.goes_on ∙ chain-step least b.written rest ∙ continued-some the_readers least b.written rest (operator_at rest) (op, beyond) goes

  pub after_shorter : length beyond < length text
  after_shorter =
      let less = operator_shorter least its_level rest op beyond some in
      let shorter = b.shorter in
      omega arith

  -- an operator and its operand on the right
  pub begun_more : (made right : RawExpr) (made_level right_least : ℕ) (rest_now : List ℕ) (great_later : Bool) → IsRead beyond great_now (expression_at right_least beyond) right rest_now great_later → right_least ≡ right_level op → made ≡ Apply op (e ∷ right ∷ []) → made_level ≡ operator_level op → IsBegun least text great made made_level rest_now great_later
  begun_more made right made_level right_least rest_now great_later i right_is made_is level_is =
      let less = after_shorter in
      let shorter = i.shorter in
      record {
        written = Written.binary op b.written i.written;
        goes_on = operator_goes_on ∙ ap (λ found. and_then_read (λ v tail. chain_at least (Written.binary op b.written v) tail) found) (ap (λ n. expression_at n beyond) (sym right_is) ∙ i.is_read);
        is_kept = made_is ∙ ap (λ x. Apply op (x ∷ right ∷ [])) b.is_kept ∙ ap (λ x. Apply op (kept b.written ∷ x ∷ [])) i.is_kept;
        has_level = level_is;
        is_great = i.is_great ∙ ap (λ g. g || has_great_number i.written) b.is_great ∙ or_assoc great (has_great_number b.written) (has_great_number i.written);
        shorter = omega arith;
      }

  -- without that operand there is no expression
  pub begun_fails : (right_least : ℕ) → right_least ≡ right_level op → expression_at right_least beyond ≡ None → expression_at least text ≡ None
  begun_fails right_least right_is none =
      operator_goes_on ∙ ap (λ found. and_then_read (λ v tail. chain_at least (Written.binary op b.written v) tail) found) (ap (λ n. expression_at n beyond) (sym right_is) ∙ none)
