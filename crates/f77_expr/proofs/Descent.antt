-- The readers at any depth: each rest is shorter, depth beyond what a text needs changes nothing, and so the readers are
-- what they call one another for.
use Rattle.std.proofs.Common.{◌==◌, ℕ, zero, suc, ◌<◌, ◌≤◌, List, [], ◌∷◌, length, drop, take_while, Some, None, if◌then◌else◌, ◌&&◌, nat_le, arith}
use Rattle.std.proofs.lemmas.Bool.{or_left}
use Rattle.op_table.specs.declared.Op.{Op}
use Rattle.f77_tree.specs.Name.{is_capital, is_figure}
use Rattle.f77_tree.specs.Grammar.{Written, Arguments, level, operator_level, left_level, right_level}
use Rattle.f77_expr.specs.Reader.{Reads, read_as, and_then_read, operator_at, Prefix, prefix_at, operand_level, prefixed, truth_at, is_symbolic, closed, Readers, begun, continued, named, primary_by, more_arguments, deeper, readers}
use Rattle.f77_expr.proofs.EachRead.{Each, each_if, each_then, each_as, each_weaker}
use Rattle.f77_expr.proofs.Prefixes.{IsOperatorIn, operator_prefix, IsPrefixIn, prefix_at_start, IsTruthIn, truth_prefix, run_shorter}

-- what each rest is shorter than
abbrev pub Below : {A : Type 0} → ℕ → Reads A → Type 0
Below {A = A} n x = Each {A = A} (λ a rest. length rest < n) x

-- the rests that readers leave
pub record Shorter (r : Readers) : Type 0 where
  pub expression : (least : ℕ) (text : List ℕ) → Below (length text) (r.expression least text)
  pub chain : (least : ℕ) (w : Written) (text : List ℕ) → Below (suc (length text)) (r.chain least w text)
  pub primary : (text : List ℕ) → Below (length text) (r.primary text)
  pub arguments : (text : List ℕ) → Below (length text) (r.arguments text)

below_less : {A : Type 0} (n m : ℕ) (x : Reads A) → n ≤ m → Below n x → Below m x
below_less n m None h b = tt
below_less n m (Some (a, rest)) h b = omega arith

module _ (r : Readers) (s : Shorter r) where
  chain_below : (n least : ℕ) (w : Written) (rest : List ℕ) → length rest < n → Below n (r.chain least w rest)
  chain_below n least w rest h = below_less (suc (length rest)) n (r.chain least w rest) (omega arith) (s.chain least w rest)

  begun_below : (least : ℕ) (text : List ℕ) (p : Reads Prefix) → Each (λ prefix rest. IsPrefixIn least text prefix rest) p → Below (length text) (begun r least text p)
  begun_below least text None h =
      each_then (λ w rest. length rest < length text) (λ w rest. length rest < length text) (λ w rest. r.chain least w rest) (r.primary text) (s.primary text) (λ w rest lt. chain_below (length text) least w rest lt)
  begun_below least text (Some (prefix, operand)) h =
      each_then (λ w rest. length rest < length operand) (λ w rest. length rest < length text) (λ w rest. r.chain least (prefixed prefix w) rest) (r.expression (operand_level prefix) operand) (s.expression (operand_level prefix) operand)
      (λ w rest lt. chain_below (length text) least (prefixed prefix w) rest (omega (arith, h.1, lt)))

  continued_below : (least : ℕ) (w : Written) (text : List ℕ) (o : Reads Op) → Each (λ op rest. IsOperatorIn text op rest) o → Below (suc (length text)) (continued r least w text o)
  continued_below least w text None h = omega arith
  continued_below least w text (Some (op, operand)) h =
      each_if (λ v rest. length rest < suc (length text)) (nat_le least (operator_level op) && nat_le (left_level op) (level w))
      (and_then_read (λ right rest. r.chain least (Written.binary op w right) rest) (r.expression (right_level op) operand)) (Some (w, text))
      (λ goes_on. each_then (λ right rest. length rest < length operand) (λ right rest. length rest < suc (length text)) (λ right rest. r.chain least (Written.binary op w right) rest) (r.expression (right_level op) operand) (s.expression (right_level op) operand)
      (λ right rest lt. chain_below (suc (length text)) least (Written.binary op w right) rest (omega (arith, h.1, lt))))
      (λ stops. omega arith)

  named_below : (name text : List ℕ) → Below (suc (length text)) (named r name text)
  named_below name [] = omega arith
  named_below name (c ∷ text) =
      each_if (λ w rest. length rest < suc (suc (length text))) (c == 40) (read_as (λ arguments. Written.call name arguments) (r.arguments text)) (Some (Written.name name, c ∷ text))
      (λ bracket. each_as (λ arguments rest. length rest < length text) (λ w rest. length rest < suc (suc (length text))) (λ arguments. Written.call name arguments) (r.arguments text) (s.arguments text) (λ arguments rest lt. omega arith))
      (λ none. omega arith)

  closed_below : (n : ℕ) (w : Written) (text : List ℕ) → length text < n → Below n (closed w text)
  closed_below n w [] h = tt
  closed_below n w (c ∷ text) h = each_if (λ v rest. length rest < n) (c == 41) (Some (w, text)) None (λ bracket. omega arith) (λ none. tt)

  more_below : (w : Written) (text : List ℕ) → Below (suc (length text)) (more_arguments r w text)
  more_below w [] = tt
  more_below w (c ∷ text) =
      each_if P (c == 44) (read_as (λ more. Arguments.before w more) (r.arguments text)) (if c == 41 then Some (Arguments.last w, text) else None)
      (λ comma. each_as (λ arguments rest. length rest < length text) P (λ more. Arguments.before w more) (r.arguments text) (s.arguments text) (λ arguments rest lt. omega arith))
      (λ none. each_if P (c == 41) (Some (Arguments.last w, text)) None (λ bracket. omega arith) (λ other. tt))
    where
      P : Arguments → List ℕ → Type 0
      P arguments rest = length rest < suc (suc (length text))

  primary_below : (text : List ℕ) → Below (length text) (primary_by r text)
  primary_below [] = tt
  primary_below (c ∷ text) =
      each_if P (is_figure c) (Some (Written.number digits, drop (length digits) whole)) not_number (λ figure. run_shorter is_figure c text figure)
      (λ no_figure. each_if P (is_capital c) (if nat_le (length run) 6 then named r run beyond else None) not_name
      (λ capital. each_if P (nat_le (length run) 6) (named r run beyond) None
      (λ short. below_less (suc (length beyond)) (length whole) (named r run beyond) (run_shorter is_symbolic c text (or_left (is_capital c) (is_figure c) capital)) (named_below run beyond))
      (λ long. tt))
      (λ no_capital. each_if P (c == 40) (and_then_read (λ w rest. closed (Written.bracketed w) rest) (r.expression 0 text)) (truth_at whole)
      (λ bracket. each_then (λ w rest. length rest < length text) P (λ w rest. closed (Written.bracketed w) rest) (r.expression 0 text) (s.expression 0 text) (λ w rest lt. closed_below (length whole) (Written.bracketed w) rest (omega arith)))
      (λ none. each_weaker (λ w rest. IsTruthIn whole w rest) P (truth_at whole) (λ w rest is. is.3) (truth_prefix whole))))
    where
      P : Written → List ℕ → Type 0
      P w rest = length rest < suc (length text)

      whole : List ℕ
      whole = c ∷ text

      digits : List ℕ
      digits = take_while is_figure (c ∷ text)

      run : List ℕ
      run = take_while is_symbolic (c ∷ text)

      beyond : List ℕ
      beyond = drop (length (take_while is_symbolic (c ∷ text))) (c ∷ text)

      not_name : Reads Written
      not_name = if c == 40 then and_then_read (λ w rest. closed (Written.bracketed w) rest) (r.expression 0 text) else truth_at (c ∷ text)

      not_number : Reads Written
      not_number = if is_capital c then (if nat_le (length run) 6 then named r run beyond else None) else not_name

  deeper_shorter : Shorter (deeper r)
  deeper_shorter = record {
    expression = λ least text. begun_below least text (prefix_at least text) (prefix_at_start least text);
    chain = λ least w text. continued_below least w text (operator_at text) (operator_prefix text);
    primary = λ text. primary_below text;
    arguments = λ text. each_then (λ w rest. length rest < length text) (λ arguments rest. length rest < length text) (λ w rest. more_arguments r w rest) (r.expression 0 text) (s.expression 0 text)
        (λ w rest lt. below_less (suc (length rest)) (length text) (more_arguments r w rest) (omega arith) (more_below w rest));
  }

-- readers of any depth leave shorter rests
pub readers_shorter : (n : ℕ) → Shorter (readers n)
readers_shorter zero = record { expression = λ least text. tt; chain = λ least w text. tt; primary = λ text. tt; arguments = λ text. tt }
readers_shorter (suc n) = deeper_shorter (readers n) (readers_shorter n)
