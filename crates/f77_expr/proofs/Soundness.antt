-- What the readers read is of the grammar, at the level that was asked for.
use Rattle.std.proofs.Common.{◌≡◌, ◌==◌, ℕ, zero, suc, ◌≤◌, true, List, [], ◌∷◌, length, drop, take_while, Some, None, if◌then◌else◌, ◌&&◌, nat_le, nat_lt, refl, sym, ap, subst, ◌∙◌, arith}
use Rattle.std.proofs.lemmas.Bool.{leb-true, and_parts, and_from, or_left, lt-ltb}
use Rattle.std.specs.List.{list_all}
use Rattle.op_table.specs.declared.Op.{Op}
use Rattle.f77_tree.specs.Name.{is_capital, is_figure, is_name}
use Rattle.f77_tree.specs.Grammar.{Written, Arguments, level, operator_level, left_level, right_level, is_number, IsGrammatical, AreGrammatical}
use Rattle.f77_expr.specs.Reader.{Reads, read_as, and_then_read, operator_at, Prefix, prefix_at, operand_level, prefixed, truth_at, is_symbolic, closed, Readers, begun, continued, named, primary_by, more_arguments, deeper, readers, enough, expression_at, chain_at, primary_at, arguments_at, the_readers}
use Rattle.f77_expr.specs.Reader.Prefix.{Plus, Minus, Negation}
use Rattle.f77_expr.proofs.EachRead.{Each, each_at, each_if, each_then, each_as, each_weaker}
use Rattle.f77_expr.proofs.Prefixes.{IsPrefixIn, prefix_at_start, prefix_level, IsTruthIn, truth_prefix, run_of_kind, run_grows}
use Rattle.f77_expr.proofs.Levels.{levels_of, level_most}

-- an expression of the grammar that is of this level or a higher one
abbrev pub IsAtLeast : ℕ → Written → Type 0
IsAtLeast least w = IsGrammatical w × (least ≤ level w)

pub record Sound (r : Readers) : Type 0 where
  pub expression : (least : ℕ) (text : List ℕ) → least ≤ 8 → Each (λ w rest. IsAtLeast least w) (r.expression least text)
  pub chain : (least : ℕ) (w : Written) (text : List ℕ) → IsAtLeast least w → Each (λ v rest. IsAtLeast least v) (r.chain least w text)
  pub primary : (text : List ℕ) → Each (λ w rest. IsGrammatical w × (level w ≡ 8)) (r.primary text)
  pub arguments : (text : List ℕ) → Each (λ args rest. AreGrammatical args) (r.arguments text)

prefixed_grammatical : (least : ℕ) (prefix : Prefix) (w : Written) → least ≤ prefix_level prefix → IsAtLeast (operand_level prefix) w → IsAtLeast least (prefixed prefix w)
prefixed_grammatical least Plus w allowed h = (h, allowed)
prefixed_grammatical least Minus w allowed h = (h, allowed)
prefixed_grammatical least Negation w allowed h = (h, allowed)

operand_most : (prefix : Prefix) → operand_level prefix ≤ 8
operand_most Plus = omega arith
operand_most Minus = omega arith
operand_most Negation = omega arith

run_number : (c : ℕ) (text : List ℕ) → is_figure c ≡ true → is_number (take_while is_figure (c ∷ text)) ≡ true
run_number c text figure =
    and_from (nat_lt 0 (length (take_while is_figure (c ∷ text)))) (list_all is_figure (take_while is_figure (c ∷ text)))
    (ap (λ (run : List ℕ). nat_lt 0 (length run)) (run_grows is_figure c text figure) ∙ search arith) (run_of_kind is_figure (c ∷ text))

name_is : (c : ℕ) (more : List ℕ) → is_capital c ≡ true → nat_le (length (c ∷ more)) 6 ≡ true → list_all is_symbolic (c ∷ more) ≡ true → is_name (c ∷ more) ≡ true
name_is c more capital short all =
    let some : nat_lt 0 (length (c ∷ more)) ≡ true = lt-ltb 0 (length (c ∷ more)) (omega arith) in
    and_from (nat_lt 0 (length (c ∷ more)) && nat_le (length (c ∷ more)) 6 && is_capital c) (list_all is_symbolic (c ∷ more))
    (and_from (nat_lt 0 (length (c ∷ more)) && nat_le (length (c ∷ more)) 6) (is_capital c) (and_from (nat_lt 0 (length (c ∷ more))) (nat_le (length (c ∷ more)) 6) some short) capital) all

run_name : (c : ℕ) (text : List ℕ) → is_capital c ≡ true → nat_le (length (take_while is_symbolic (c ∷ text))) 6 ≡ true → is_name (take_while is_symbolic (c ∷ text)) ≡ true
run_name c text capital short =
    let grows : take_while is_symbolic (c ∷ text) ≡ c ∷ take_while is_symbolic text = run_grows is_symbolic c text (or_left (is_capital c) (is_figure c) capital) in
    subst (λ (run : List ℕ). nat_le (length run) 6 ≡ true → list_all is_symbolic run ≡ true → is_name run ≡ true) (sym grows)
    (λ few all. name_is c (take_while is_symbolic text) capital few all) short (run_of_kind is_symbolic (c ∷ text))

module _ (r : Readers) (s : Sound r) where
  begun_sound : (least : ℕ) (text : List ℕ) (p : Reads Prefix) → least ≤ 8 → Each (λ prefix rest. IsPrefixIn least text prefix rest) p → Each (λ w rest. IsAtLeast least w) (begun r least text p)
  begun_sound least text None few h =
      each_then (λ w rest. IsGrammatical w × (level w ≡ 8)) (λ w rest. IsAtLeast least w) (λ w rest. r.chain least w rest) (r.primary text) (s.primary text)
      (λ w rest is. s.chain least w rest (is.0, omega (arith, is.1)))
  begun_sound least text (Some (prefix, operand)) few h =
      each_then (λ w rest. IsAtLeast (operand_level prefix) w) (λ w rest. IsAtLeast least w) (λ w rest. r.chain least (prefixed prefix w) rest) (r.expression (operand_level prefix) operand) (s.expression (operand_level prefix) operand (operand_most prefix))
      (λ w rest is. s.chain least (prefixed prefix w) rest (prefixed_grammatical least prefix w h.2 is))

  continued_sound : (least : ℕ) (w : Written) (text : List ℕ) (o : Reads Op) → IsAtLeast least w → Each (λ v rest. IsAtLeast least v) (continued r least w text o)
  continued_sound least w text None is = is
  continued_sound least w text (Some (op, operand)) is =
      each_if (λ v rest. IsAtLeast least v) (nat_le least (operator_level op) && nat_le (left_level op) (level w))
      (and_then_read (λ right rest. r.chain least (Written.binary op w right) rest) (r.expression (right_level op) operand)) (Some (w, text))
      (λ goes_on.
      let both = and_parts (nat_le least (operator_level op)) (nat_le (left_level op) (level w)) goes_on in
      let own : least ≤ operator_level op = leb-true least (operator_level op) both.0 in
      let left : left_level op ≤ level w = leb-true (left_level op) (level w) both.1 in
      let most : level w ≤ 8 = level_most w is.0 in
      each_then (λ right rest. IsAtLeast (right_level op) right) (λ v rest. IsAtLeast least v) (λ right rest. r.chain least (Written.binary op w right) rest) (r.expression (right_level op) operand)
      (s.expression (right_level op) operand ((levels_of op).allowed (omega arith)).0)
      (λ right rest is_right. s.chain least (Written.binary op w right) rest ((is.0, is_right.0, left, is_right.1), own)))
      (λ stops. is)

  named_sound : (name text : List ℕ) → is_name name ≡ true → Each (λ w rest. IsGrammatical w × (level w ≡ 8)) (named r name text)
  named_sound name [] is = (is, refl)
  named_sound name (c ∷ text) is =
      each_if (λ w rest. IsGrammatical w × (level w ≡ 8)) (c == 40) (read_as (λ arguments. Written.call name arguments) (r.arguments text)) (Some (Written.name name, c ∷ text))
      (λ bracket. each_as (λ args rest. AreGrammatical args) (λ w rest. IsGrammatical w × (level w ≡ 8)) (λ arguments. Written.call name arguments) (r.arguments text) (s.arguments text) (λ args rest are. ((is, are), refl)))
      (λ none. (is, refl))

  closed_sound : (w : Written) (text : List ℕ) → IsGrammatical w × (level w ≡ 8) → Each (λ v rest. IsGrammatical v × (level v ≡ 8)) (closed w text)
  closed_sound w [] is = tt
  closed_sound w (c ∷ text) is = each_if (λ v rest. IsGrammatical v × (level v ≡ 8)) (c == 41) (Some (w, text)) None (λ bracket. is) (λ none. tt)

  more_sound : (w : Written) (text : List ℕ) → IsGrammatical w → Each (λ args rest. AreGrammatical args) (more_arguments r w text)
  more_sound w [] is = tt
  more_sound w (c ∷ text) is =
      each_if P (c == 44) (read_as (λ more. Arguments.before w more) (r.arguments text)) (if c == 41 then Some (Arguments.last w, text) else None)
      (λ comma. each_as P P (λ more. Arguments.before w more) (r.arguments text) (s.arguments text) (λ args rest are. (is, are)))
      (λ none. each_if P (c == 41) (Some (Arguments.last w, text)) None (λ bracket. is) (λ other. tt))
    where
      P : Arguments → List ℕ → Type 0
      P args rest = AreGrammatical args

  primary_sound : (text : List ℕ) → Each (λ w rest. IsGrammatical w × (level w ≡ 8)) (primary_by r text)
  primary_sound [] = tt
  primary_sound (c ∷ text) =
      each_if P (is_figure c) (Some (Written.number (take_while is_figure whole), drop (length (take_while is_figure whole)) whole)) not_number (λ figure. (run_number c text figure, refl))
      (λ no_figure. each_if P (is_capital c) (if nat_le (length run) 6 then named r run beyond else None) not_name
      (λ capital. each_if P (nat_le (length run) 6) (named r run beyond) None (λ short. named_sound run beyond (run_name c text capital short)) (λ long. tt))
      (λ no_capital. each_if P (c == 40) (and_then_read (λ w rest. closed (Written.bracketed w) rest) (r.expression 0 text)) (truth_at whole)
      (λ bracket. each_then (λ w rest. IsAtLeast 0 w) P (λ w rest. closed (Written.bracketed w) rest) (r.expression 0 text) (s.expression 0 text (omega arith)) (λ w rest is. closed_sound (Written.bracketed w) rest (is.0, refl)))
      (λ none. each_weaker (λ w rest. IsTruthIn whole w rest) P (truth_at whole) (λ w rest is. (is.0, is.1)) (truth_prefix whole))))
    where
      P : Written → List ℕ → Type 0
      P w rest = IsGrammatical w × (level w ≡ 8)

      whole : List ℕ
      whole = c ∷ text

      run : List ℕ
      run = take_while is_symbolic (c ∷ text)

      beyond : List ℕ
      beyond = drop (length (take_while is_symbolic (c ∷ text))) (c ∷ text)

      not_name : Reads Written
      not_name = if c == 40 then and_then_read (λ w rest. closed (Written.bracketed w) rest) (r.expression 0 text) else truth_at (c ∷ text)

      not_number : Reads Written
      not_number = if is_capital c then (if nat_le (length run) 6 then named r run beyond else None) else not_name

  deeper_sound : Sound (deeper r)
  deeper_sound = record {
    expression = λ least text few. begun_sound least text (prefix_at least text) few (prefix_at_start least text);
    chain = λ least w text is. continued_sound least w text (operator_at text) is;
    primary = λ text. primary_sound text;
    arguments = λ text. each_then (λ w rest. IsAtLeast 0 w) (λ args rest. AreGrammatical args) (λ w rest. more_arguments r w rest) (r.expression 0 text) (s.expression 0 text (omega arith)) (λ w rest is. more_sound w rest is.0);
  }

readers_sound : (n : ℕ) → Sound (readers n)
readers_sound zero = record { expression = λ least text few. tt; chain = λ least w text is. tt; primary = λ text. tt; arguments = λ text. tt }
readers_sound (suc n) = deeper_sound (readers n) (readers_sound n)

-- the four readers with no depth
pub the_readers_sound : Sound the_readers
unfolding expression_at chain_at primary_at arguments_at
the_readers_sound = record {
  expression = λ least text. (readers_sound (enough text)).expression least text;
  chain = λ least w text. (readers_sound (enough text)).chain least w text;
  primary = λ text. (readers_sound (enough text)).primary text;
  arguments = λ text. (readers_sound (enough text)).arguments text;
}

pub expression_sound : (least : ℕ) (text : List ℕ) (w : Written) (rest : List ℕ) → least ≤ 8 → expression_at least text ≡ Some (w, rest) → IsAtLeast least w
expression_sound least text w rest few e = each_at (λ v tail. IsAtLeast least v) (expression_at least text) (the_readers_sound.expression least text few) w rest e
