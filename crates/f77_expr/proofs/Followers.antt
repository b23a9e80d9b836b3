-- What may stand after an expression, and after a name or a number.
use Rattle.std.proofs.Common.{◌≡◌, ◌==◌, ℕ, ◌<◌, ◌≤◌, Bool, true, false, List, [], ◌∷◌, ◌++◌, Option, Some, None, if◌then◌else◌, ◌&&◌, ◌||◌, not, nat_le, codes, refl, sym, ap, subst, ◌∙◌, ⊎_elim, arith}
use Rattle.std.proofs.lemmas.Bool.{not-true, eqb-true, and_parts, and_left, lt-leb, le-leb, or_cases}
use Rattle.op_table.specs.declared.Op.{Op}
use Rattle.op_table.specs.declared.Op.TheVariants.{Add, Sub, Mul, Div, Pow, Lt, Le, Eq, Ne, Ge, Gt, And, Or, Eqv, Neqv}
use Rattle.f77_tree.specs.Grammar.{Written, symbol, level, operator_level, left_level, right_level, truth_text}
use Rattle.f77_expr.specs.Reader.{Reads, after_prefix, this_or, operator_at, Prefix, prefix_at, is_symbolic, continued, and_then_read, the_readers, expression_at, chain_at}
use Rattle.f77_expr.specs.Reader.Prefix.{Plus, Minus, Negation}
use Rattle.f77_expr.proofs.EachRead.{Each, each_weaker}
use Rattle.f77_expr.proofs.Prefixes.{prefix_text, prefix_level}
use Rattle.f77_expr.proofs.Depth.{chain-step}

-- nothing, or a comma, a closing bracket, an equals sign or a colon first
abbrev pub is_follower : List ℕ → Bool
is_follower [] = true
is_follower (c ∷ more) = c == 44 || c == 41 || c == 61 || c == 58

-- no character first that goes on with a name or a number, or opens a bracket after a name
abbrev pub breaks_off : List ℕ → Bool
breaks_off [] = true
breaks_off (c ∷ more) = not (is_symbolic c || c == 40)

-- what may stand after an operand: nothing goes on with it, and an operator first is of a level below this one
pub record Stops (edge_level : ℕ) (text : List ℕ) : Type 0 where
  pub breaks : breaks_off text ≡ true
  pub operator : Each (λ op rest. operator_level op < edge_level) (operator_at text)

pub stops_more : (k m : ℕ) (text : List ℕ) → k ≤ m → Stops k text → Stops m text
stops_more k m text le stops = record {
  breaks = stops.breaks;
  operator = each_weaker (λ op rest. operator_level op < k) (λ op rest. operator_level op < m) (operator_at text) (λ op rest lt. omega arith) stops.operator;
}

stops_at : (k c d : ℕ) (more : List ℕ) → c ≡ d → Stops k (d ∷ more) → Stops k (c ∷ more)
stops_at k c d more e h = subst (λ x. Stops k (x ∷ more)) (sym e) h

pub follower_stops : (k : ℕ) (text : List ℕ) → is_follower text ≡ true → Stops k text
follower_stops k [] h = record { breaks = refl; operator = tt }
follower_stops k (c ∷ more) h =
    ⊎_elim
    (λ three. ⊎_elim
    (λ two. ⊎_elim
    (λ comma. stops_at k c 44 more (eqb-true c 44 comma) (record { breaks = refl; operator = tt }))
    (λ bracket. stops_at k c 41 more (eqb-true c 41 bracket) (record { breaks = refl; operator = tt }))
    (or_cases (c == 44) (c == 41) two))
    (λ equals. stops_at k c 61 more (eqb-true c 61 equals) (record { breaks = refl; operator = tt }))
    (or_cases (c == 44 || c == 41) (c == 61) three))
    (λ colon. stops_at k c 58 more (eqb-true c 58 colon) (record { breaks = refl; operator = tt }))
    (or_cases (c == 44 || c == 41 || c == 61) (c == 58) h)

-- a chain goes no further than an operator of a lower level
pub chain_stops : (least : ℕ) (w : Written) (text : List ℕ) → Stops least text → chain_at least w text ≡ Some (w, text)
chain_stops least w text stops = chain-step least w text ∙ here (operator_at text) stops.operator
  where
    here : (o : Reads Op) → Each (λ op rest. operator_level op < least) o → continued the_readers least w text o ≡ Some (w, text)
    here None h = refl
    here (Some (op, operand)) h =
        let none : (nat_le least (operator_level op) && nat_le (left_level op) (level w)) ≡ false = and_left (nat_le least (operator_level op)) (nat_le (left_level op) (level w)) (lt-leb least (operator_level op) h) in
        ap (λ b. if b then and_then_read (λ right rest. chain_at least (Written.binary op w right) rest) (expression_at (right_level op) operand) else Some (w, text)) none

-- ---- operators and prefixes are read as they are written

-- no asterisk first
abbrev pub no_asterisk : List ℕ → Bool
no_asterisk [] = true
no_asterisk (c ∷ more) = not (42 == c)

product_reads : (text : List ℕ) → no_asterisk text ≡ true → operator_at (42 ∷ text) ≡ Some (Mul, text)
product_reads [] h = refl
product_reads (c ∷ more) h =
    ap (λ b. this_or Pow (if b then Some more else None) (Some (Mul, c ∷ more))) (not-true (42 == c) h)

pub operator_reads : (op : Op) (text : List ℕ) → left_level op ≤ 8 → no_asterisk text ≡ true → operator_at (symbol op ++ text) ≡ Some (op, text)
operator_reads Eqv text real h = refl
operator_reads Neqv text real h = refl
operator_reads Or text real h = refl
operator_reads And text real h = refl
operator_reads Lt text real h = refl
operator_reads Le text real h = refl
operator_reads Eq text real h = refl
operator_reads Ne text real h = refl
operator_reads Ge text real h = refl
operator_reads Gt text real h = refl
operator_reads Add text real h = refl
operator_reads Sub text real h = refl
operator_reads Mul text real h = product_reads text h
operator_reads Div text real h = refl
operator_reads Pow text real h = refl
operator_reads _ text real h = absurd (omega arith)

operator_breaks : (op : Op) (text : List ℕ) → left_level op ≤ 8 → breaks_off (symbol op ++ text) ≡ true
operator_breaks Eqv text real = refl
operator_breaks Neqv text real = refl
operator_breaks Or text real = refl
operator_breaks And text real = refl
operator_breaks Lt text real = refl
operator_breaks Le text real = refl
operator_breaks Eq text real = refl
operator_breaks Ne text real = refl
operator_breaks Ge text real = refl
operator_breaks Gt text real = refl
operator_breaks Add text real = refl
operator_breaks Sub text real = refl
operator_breaks Mul text real = refl
operator_breaks Div text real = refl
operator_breaks Pow text real = refl
operator_breaks _ text real = absurd (omega arith)

pub operator_stops : (k : ℕ) (op : Op) (text : List ℕ) → left_level op ≤ 8 → no_asterisk text ≡ true → operator_level op < k → Stops k (symbol op ++ text)
operator_stops k op text real h below = record {
  breaks = operator_breaks op text real;
  operator = subst (λ (o : Reads Op). Each (λ other rest. operator_level other < k) o) (sym (operator_reads op text real h)) below;
}

either_same : {A : Type 0} (b : Bool) (x y : A) → x ≡ y → (if b then x else x) ≡ y
either_same true x y e = e
either_same false x y e = e

pub prefix_reads : (least : ℕ) (prefix : Prefix) (text : List ℕ) → least ≤ prefix_level prefix → prefix_at least (prefix_text prefix ++ text) ≡ Some (prefix, text)
prefix_reads least Plus text allowed =
    either_same (nat_le least 3) (if nat_le least 5 then Some (Plus, text) else None) (Some (Plus, text)) (ap (λ b. if b then Some (Plus, text) else None) (le-leb least 5 allowed))
prefix_reads least Minus text allowed =
    either_same (nat_le least 3) (if nat_le least 5 then Some (Minus, text) else None) (Some (Minus, text)) (ap (λ b. if b then Some (Minus, text) else None) (le-leb least 5 allowed))
prefix_reads least Negation text allowed = ap (λ b. if b then Some (Negation, text) else (if nat_le least 5 then None else None)) (le-leb least 3 allowed)

-- no first character that begins a prefix or a logical constant
abbrev pub no_prefix : List ℕ → Bool
no_prefix [] = true
no_prefix (c ∷ more) = not (43 == c) && not (45 == c) && not (46 == c)

pub prefix_none : (least c : ℕ) (more : List ℕ) → no_prefix (c ∷ more) ≡ true → prefix_at least (c ∷ more) ≡ None
prefix_none least c more h =
    let last_two = and_parts (not (43 == c) && not (45 == c)) (not (46 == c)) h in
    let first_two = and_parts (not (43 == c)) (not (45 == c)) last_two.0 in
    let plus_none : after_prefix (codes "+") (c ∷ more) ≡ None = ap (λ b. if b then Some more else None) (not-true (43 == c) first_two.0) in
    let minus_none : after_prefix (codes "-") (c ∷ more) ≡ None = ap (λ b. if b then Some more else None) (not-true (45 == c) first_two.1) in
    let word_none : after_prefix (codes ".NOT.") (c ∷ more) ≡ None = ap (λ b. if b then after_prefix (codes "NOT.") more else None) (not-true (46 == c) last_two.1) in
    ap (λ word. prefix_of word (after_prefix (codes "+") (c ∷ more)) (after_prefix (codes "-") (c ∷ more))) word_none
    ∙ ap (λ sign. prefix_of None sign (after_prefix (codes "-") (c ∷ more))) plus_none
    ∙ ap (λ sign. prefix_of None None sign) minus_none
    ∙ either_same (nat_le least 3) (if nat_le least 5 then None else None) None (either_same (nat_le least 5) None None refl)
  where
    prefix_of : Option (List ℕ) → Option (List ℕ) → Option (List ℕ) → Reads Prefix
    prefix_of word plus minus =
        let sign = if nat_le least 5 then this_or Plus plus (this_or Minus minus None) else None in
        if nat_le least 3 then this_or Negation word sign else sign

pub truth_no_prefix : (least : ℕ) (b : Bool) (text : List ℕ) → prefix_at least (truth_text b ++ text) ≡ None
truth_no_prefix least true text = either_same (nat_le least 3) (if nat_le least 5 then None else None) None (either_same (nat_le least 5) None None refl)
truth_no_prefix least false text = either_same (nat_le least 3) (if nat_le least 5 then None else None) None (either_same (nat_le least 5) None None refl)
