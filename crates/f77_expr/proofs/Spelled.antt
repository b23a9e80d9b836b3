-- What the readers read is spelled before the rest.
use Rattle.std.proofs.Common.{◌≡◌, ◌==◌, ℕ, zero, suc, List, [], ◌∷◌, ◌++◌, length, drop, take_while, Some, None, if◌then◌else◌, ◌&&◌, nat_le, refl, sym, ap, ◌∙◌}
use Rattle.std.proofs.lemmas.Bool.{eqb-true}
use Rattle.op_table.specs.declared.Op.{Op}
use Rattle.f77_tree.specs.Name.{is_capital, is_figure}
use Rattle.f77_tree.specs.Grammar.{Written, Arguments, symbol, level, operator_level, left_level, right_level, spelling, spellings}
use Rattle.f77_expr.specs.Reader.{Reads, read_as, and_then_read, operator_at, Prefix, prefix_at, operand_level, prefixed, truth_at, is_symbolic, closed, Readers, begun, continued, named, primary_by, more_arguments, deeper, readers, enough, expression_at, chain_at, primary_at, arguments_at, the_readers}
use Rattle.f77_expr.proofs.EachRead.{Each, each_at, each_if, each_then, each_as, each_weaker}
use Rattle.f77_expr.proofs.Prefixes.{IsOperatorIn, operator_prefix, IsPrefixIn, prefix_at_start, prefix_text, IsTruthIn, truth_prefix, run_and_rest}
use Rattle.f77_expr.proofs.Spellings.{binary_spelling, call_spelling, bracketed_spelling, before_spelling, prefixed_spelling}

-- what readers read is spelled before the rest
pub record Spells (r : Readers) : Type 0 where
  pub expression : (least : ℕ) (text : List ℕ) → Each (λ w rest. spelling w ++ rest ≡ text) (r.expression least text)
  pub chain : (least : ℕ) (w : Written) (text : List ℕ) → Each (λ v rest. spelling v ++ rest ≡ spelling w ++ text) (r.chain least w text)
  pub primary : (text : List ℕ) → Each (λ w rest. spelling w ++ rest ≡ text) (r.primary text)
  pub arguments : (text : List ℕ) → Each (λ args rest. spellings args ++ 41 ∷ rest ≡ text) (r.arguments text)

module _ (r : Readers) (s : Spells r) where
  begun_spells : (least : ℕ) (text : List ℕ) (p : Reads Prefix) → Each (λ prefix rest. IsPrefixIn least text prefix rest) p → Each (λ w rest. spelling w ++ rest ≡ text) (begun r least text p)
  begun_spells least text None h =
      each_then (λ w rest. spelling w ++ rest ≡ text) (λ w rest. spelling w ++ rest ≡ text) (λ w rest. r.chain least w rest) (r.primary text) (s.primary text)
      (λ w rest is. each_weaker (λ v tail. spelling v ++ tail ≡ spelling w ++ rest) (λ v tail. spelling v ++ tail ≡ text) (r.chain least w rest) (λ v tail e. e ∙ is) (s.chain least w rest))
  begun_spells least text (Some (prefix, operand)) h =
      each_then (λ w rest. spelling w ++ rest ≡ operand) (λ w rest. spelling w ++ rest ≡ text) (λ w rest. r.chain least (prefixed prefix w) rest) (r.expression (operand_level prefix) operand) (s.expression (operand_level prefix) operand)
      (λ w rest is. each_weaker (λ v tail. spelling v ++ tail ≡ spelling (prefixed prefix w) ++ rest) (λ v tail. spelling v ++ tail ≡ text) (r.chain least (prefixed prefix w) rest)
      (λ v tail e. e ∙ prefixed_spelling prefix w rest ∙ ap (λ more. prefix_text prefix ++ more) is ∙ h.0)
      (s.chain least (prefixed prefix w) rest))

  continued_spells : (least : ℕ) (w : Written) (text : List ℕ) (o : Reads Op) → Each (λ op rest. IsOperatorIn text op rest) o → Each (λ v rest. spelling v ++ rest ≡ spelling w ++ text) (continued r least w text o)
  continued_spells least w text None h = refl
  continued_spells least w text (Some (op, operand)) h =
      each_if P (nat_le least (operator_level op) && nat_le (left_level op) (level w))
      (and_then_read (λ right rest. r.chain least (Written.binary op w right) rest) (r.expression (right_level op) operand)) (Some (w, text))
      (λ goes_on. each_then (λ right rest. spelling right ++ rest ≡ operand) P (λ right rest. r.chain least (Written.binary op w right) rest) (r.expression (right_level op) operand) (s.expression (right_level op) operand)
      (λ right rest is. each_weaker (λ v tail. spelling v ++ tail ≡ spelling (Written.binary op w right) ++ rest) P (r.chain least (Written.binary op w right) rest)
      (λ v tail e. e ∙ joined right rest is) (s.chain least (Written.binary op w right) rest)))
      (λ stops. refl)
    where
      P : Written → List ℕ → Type 0
      P v rest = spelling v ++ rest ≡ spelling w ++ text

      joined : (right : Written) (rest : List ℕ) → spelling right ++ rest ≡ operand → spelling (Written.binary op w right) ++ rest ≡ spelling w ++ text
      joined right rest is = binary_spelling op w right rest ∙ ap (λ more. spelling w ++ (symbol op ++ more)) is ∙ ap (λ more. spelling w ++ more) h.0

  named_spells : (name text : List ℕ) → Each (λ w rest. spelling w ++ rest ≡ name ++ text) (named r name text)
  named_spells name [] = refl
  named_spells name (c ∷ text) =
      each_if P (c == 40) (read_as (λ arguments. Written.call name arguments) (r.arguments text)) (Some (Written.name name, c ∷ text))
      (λ bracket. each_as (λ args rest. spellings args ++ 41 ∷ rest ≡ text) P (λ arguments. Written.call name arguments) (r.arguments text) (s.arguments text) (λ args rest is. called args rest is (eqb-true c 40 bracket)))
      (λ none. refl)
    where
      P : Written → List ℕ → Type 0
      P w rest = spelling w ++ rest ≡ name ++ (c ∷ text)

      called : (args : Arguments) (rest : List ℕ) → spellings args ++ 41 ∷ rest ≡ text → c ≡ 40 → spelling (Written.call name args) ++ rest ≡ name ++ (c ∷ text)
      called args rest is same = call_spelling name args rest ∙ ap (λ more. name ++ (40 ∷ more)) is ∙ ap (λ d. name ++ (d ∷ text)) (sym same)

  closed_spells : (w : Written) (text : List ℕ) → Each (λ v rest. (v ≡ w) × (41 ∷ rest ≡ text)) (closed w text)
  closed_spells w [] = tt
  closed_spells w (c ∷ text) =
      each_if (λ v rest. (v ≡ w) × (41 ∷ rest ≡ c ∷ text)) (c == 41) (Some (w, text)) None
      (λ bracket. (refl, ap (λ d. d ∷ text) (sym (eqb-true c 41 bracket))))
      (λ none. tt)

  more_spells : (w : Written) (text : List ℕ) → Each (λ args rest. spellings args ++ 41 ∷ rest ≡ spelling w ++ text) (more_arguments r w text)
  more_spells w [] = tt
  more_spells w (c ∷ text) =
      each_if P (c == 44) (read_as (λ more. Arguments.before w more) (r.arguments text)) (if c == 41 then Some (Arguments.last w, text) else None)
      (λ comma. each_as (λ args rest. spellings args ++ 41 ∷ rest ≡ text) P (λ more. Arguments.before w more) (r.arguments text) (s.arguments text)
      (λ args rest is. before_spelling w args (41 ∷ rest) ∙ ap (λ more. spelling w ++ (44 ∷ more)) is ∙ ap (λ d. spelling w ++ (d ∷ text)) (sym (eqb-true c 44 comma))))
      (λ none. each_if P (c == 41) (Some (Arguments.last w, text)) None (λ bracket. ap (λ d. spelling w ++ d ∷ text) (sym (eqb-true c 41 bracket))) (λ other. tt))
    where
      P : Arguments → List ℕ → Type 0
      P args rest = spellings args ++ 41 ∷ rest ≡ spelling w ++ (c ∷ text)

  primary_spells : (text : List ℕ) → Each (λ w rest. spelling w ++ rest ≡ text) (primary_by r text)
  primary_spells [] = tt
  primary_spells (c ∷ text) =
      each_if P (is_figure c) (Some (Written.number (take_while is_figure whole), drop (length (take_while is_figure whole)) whole)) not_number (λ figure. run_and_rest is_figure whole)
      (λ no_figure. each_if P (is_capital c) (if nat_le (length run) 6 then named r run beyond else None) not_name
      (λ capital. each_if P (nat_le (length run) 6) (named r run beyond) None
      (λ short. each_weaker (λ w rest. spelling w ++ rest ≡ run ++ beyond) P (named r run beyond) (λ w rest e. e ∙ run_and_rest is_symbolic whole) (named_spells run beyond))
      (λ long. tt))
      (λ no_capital. each_if P (c == 40) (and_then_read (λ w rest. closed (Written.bracketed w) rest) (r.expression 0 text)) (truth_at whole)
      (λ bracket. each_then (λ w rest. spelling w ++ rest ≡ text) P (λ w rest. closed (Written.bracketed w) rest) (r.expression 0 text) (s.expression 0 text)
      (λ w rest is. each_weaker (λ v tail. (v ≡ Written.bracketed w) × (41 ∷ tail ≡ rest)) P (closed (Written.bracketed w) rest) (λ v tail e. enclosing w rest v tail is e.0 e.1 (eqb-true c 40 bracket)) (closed_spells (Written.bracketed w) rest)))
      (λ none. each_weaker (λ w rest. IsTruthIn whole w rest) P (truth_at whole) (λ w rest is. is.2) (truth_prefix whole))))
    where
      P : Written → List ℕ → Type 0
      P w rest = spelling w ++ rest ≡ c ∷ text

      whole : List ℕ
      whole = c ∷ text

      run : List ℕ
      run = take_while is_symbolic (c ∷ text)

      beyond : List ℕ
      beyond = drop (length (take_while is_symbolic (c ∷ text))) (c ∷ text)

      not_name : Reads Written
      not_name = if c == 40 then and_then_read (λ w rest. closed (Written.bracketed w) rest) (r.expression 0 text) else truth_at (c ∷ text)

      not_number : Reads Written
      not_number = if is_capital c then (if nat_le (length run) 6 then named r run beyond else None) else not_name

      enclosing : (w : Written) (rest : List ℕ) (v : Written) (tail : List ℕ) → spelling w ++ rest ≡ text → v ≡ Written.bracketed w → 41 ∷ tail ≡ rest → c ≡ 40 → spelling v ++ tail ≡ c ∷ text
      enclosing w rest v tail is same at bracket =
          ap (λ u. spelling u ++ tail) same ∙ bracketed_spelling w tail ∙ ap (λ more. 40 ∷ (spelling w ++ more)) at ∙ ap (λ more. 40 ∷ more) is ∙ ap (λ d. d ∷ text) (sym bracket)

  deeper_spells : Spells (deeper r)
  deeper_spells = record {
    expression = λ least text. begun_spells least text (prefix_at least text) (prefix_at_start least text);
    chain = λ least w text. continued_spells least w text (operator_at text) (operator_prefix text);
    primary = λ text. primary_spells text;
    arguments = λ text. each_then (λ w rest. spelling w ++ rest ≡ text) (λ args rest. spellings args ++ 41 ∷ rest ≡ text) (λ w rest. more_arguments r w rest) (r.expression 0 text) (s.expression 0 text)
        (λ w rest is. each_weaker (λ args tail. spellings args ++ 41 ∷ tail ≡ spelling w ++ rest) (λ args tail. spellings args ++ 41 ∷ tail ≡ text) (more_arguments r w rest) (λ args tail e. e ∙ is) (more_spells w rest));
  }

readers_spell : (n : ℕ) → Spells (readers n)
readers_spell zero = record { expression = λ least text. tt; chain = λ least w text. tt; primary = λ text. tt; arguments = λ text. tt }
readers_spell (suc n) = deeper_spells (readers n) (readers_spell n)

-- the four readers with no depth
pub the_readers_spell : Spells the_readers
unfolding expression_at chain_at primary_at arguments_at
the_readers_spell = record {
  expression = λ least text. (readers_spell (enough text)).expression least text;
  chain = λ least w text. (readers_spell (enough text)).chain least w text;
  primary = λ text. (readers_spell (enough text)).primary text;
  arguments = λ text. (readers_spell (enough text)).arguments text;
}

pub expression_spells : (least : ℕ) (text : List ℕ) (w : Written) (rest : List ℕ) → expression_at least text ≡ Some (w, rest) → spelling w ++ rest ≡ text
expression_spells least text w rest e = each_at (λ v tail. spelling v ++ tail ≡ text) (expression_at least text) (the_readers_spell.expression least text) w rest e
