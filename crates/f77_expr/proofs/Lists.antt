-- Arguments read one after another.
use Rattle.std.proofs.Common.{◌≡◌, ◌==◌, ℕ, suc, ◌+◌, ◌<◌, ◌≤◌, Bool, true, false, if◌then◌else◌, ◌||◌, List, [], ◌∷◌, ◌++◌, map, length, Some, None, refl, sym, ap, ◌∙◌, arith, length-append}
use Rattle.std.proofs.Math.Bool.{or_assoc}
use Rattle.f77_tree.specs.declared.statements.RawExpr.{RawExpr}
use Rattle.f77_tree.specs.Grammar.{Written, Arguments, has_great_number, have_great_number}
use Rattle.f77_expr.specs.Reader.{Reads, read_as, and_then_read, Readers, more_arguments, the_readers, expression_at, arguments_at}
use Rattle.f77_expr.specs.Answers.{passed, kept, kept_arguments, IsRead, AreRead}
use Rattle.f77_expr.proofs.Depth.{arguments-step}

-- arguments with others before them
abbrev pub beyond : List Written → Arguments → Arguments
beyond [] arguments = arguments
beyond (w ∷ before) arguments = Arguments.before w (beyond before arguments)

abbrev pub some_great : List Written → Bool
some_great [] = false
some_great (w ∷ before) = has_great_number w || some_great before

-- arguments of which one or more were read
pub record AreBegun (text : List ℕ) (great : Bool) (es : List RawExpr) (rest : List ℕ) (great_now : Bool) : Type 0 where
  pub before : List Written
  pub written : Written
  pub go_on : arguments_at text ≡ read_as (λ arguments. beyond before arguments) (more_arguments the_readers written rest)
  pub are_kept : es ≡ map kept before ++ kept written ∷ []
  pub is_great : great_now ≡ ((great || some_great before) || has_great_number written)
  pub few : length es + length rest ≤ length text
  pub shorter : length rest < length text

-- ---- lists of arguments

after-more : (before : List Written) (w : Written) (arguments : Arguments) → beyond (before ++ w ∷ []) arguments ≡ beyond before (Arguments.before w arguments)
after-more [] w arguments = refl
after-more (v ∷ before) w arguments = ap (λ more. Arguments.before v more) (after-more before w arguments)

read-after : (before : List Written) (w : Written) (found : Reads Arguments) → read_as (λ arguments. beyond before arguments) (read_as (λ more. Arguments.before w more) found) ≡ read_as (λ arguments. beyond (before ++ w ∷ []) arguments) found
read-after before w None = refl
read-after before w (Some (arguments, rest)) = ap (λ a. Some (a, rest)) (sym (after-more before w arguments))

read-as_it_is : (found : Reads Arguments) → read_as (λ arguments. beyond [] arguments) found ≡ found
read-as_it_is None = refl
read-as_it_is (Some (arguments, rest)) = refl

kept-after : (before : List Written) (w : Written) → kept_arguments (beyond before (Arguments.last w)) ≡ map kept before ++ kept w ∷ []
kept-after [] w = refl
kept-after (v ∷ before) w = ap (λ es. kept v ∷ es) (kept-after before w)

great-after : (before : List Written) (w : Written) → have_great_number (beyond before (Arguments.last w)) ≡ (some_great before || has_great_number w)
great-after [] w = refl
great-after (v ∷ before) w = ap (λ g. has_great_number v || g) (great-after before w) ∙ sym (or_assoc (has_great_number v) (some_great before) (has_great_number w))

pub or-false : (b : Bool) → (b || false) ≡ b
or-false true = refl
or-false false = refl

great-more : (before : List Written) (w : Written) → some_great (before ++ w ∷ []) ≡ (some_great before || has_great_number w)
great-more [] w = or-false (has_great_number w)
great-more (v ∷ before) w = ap (λ g. has_great_number v || g) (great-more before w) ∙ sym (or_assoc (has_great_number v) (some_great before) (has_great_number w))

kept-more : (before : List Written) (w : Written) (es : List RawExpr) → map kept (before ++ w ∷ []) ++ es ≡ (map kept before ++ kept w ∷ []) ++ es
kept-more [] w es = refl
kept-more (v ∷ before) w es = ap (λ fs. kept v ∷ fs) (kept-more before w es)

-- ---- what stands after an argument

-- a character that was passed
pub passed-shorter : (c : ℕ) (text rest : List ℕ) → passed c text ≡ Some rest → length text ≡ suc (length rest)
passed-shorter c [] rest e = absurd cc
passed-shorter c (d ∷ text) rest e = by (d == c) e
  where
    by : (b : Bool) → (if b then Some text else None) ≡ Some rest → suc (length text) ≡ suc (length rest)
    by true e = let same : text ≡ rest = cc in ap (λ tail. suc (length tail)) same
    by false e = absurd cc

module _ (r : Readers) (w : Written) where
  abbrev last_before : List ℕ → Reads Arguments
  last_before rest = Some (Arguments.last w, rest)

  pub passed-comma : (text rest : List ℕ) → passed 44 text ≡ Some rest → more_arguments r w text ≡ read_as (λ more. Arguments.before w more) (r.arguments rest)
  passed-comma [] rest e = absurd cc
  passed-comma (c ∷ text) rest e = by (c == 44) e
    where
      by : (b : Bool) → (if b then Some text else None) ≡ Some rest → (if b then read_as (λ more. Arguments.before w more) (r.arguments text) else (if c == 41 then Some (Arguments.last w, text) else None)) ≡ read_as (λ more. Arguments.before w more) (r.arguments rest)
      by true e = let same : text ≡ rest = cc in ap (λ tail. read_as (λ more. Arguments.before w more) (r.arguments tail)) same
      by false e = absurd cc

  pub passed-end : (text rest : List ℕ) → passed 44 text ≡ None → passed 41 text ≡ Some rest → more_arguments r w text ≡ Some (Arguments.last w, rest)
  passed-end [] rest no_comma e = absurd cc
  passed-end (c ∷ text) rest no_comma e = by (c == 44) (c == 41) no_comma e
    where
      by : (b d : Bool) → (if b then Some text else None) ≡ None → (if d then Some text else None) ≡ Some rest → (if b then read_as (λ more. Arguments.before w more) (r.arguments text) else (if d then last_before text else None)) ≡ last_before rest
      by true d n e = absurd cc
      by false true n e = let same : text ≡ rest = cc in ap last_before same
      by false false n e = absurd cc

-- ---- arguments that are being read

module _ (text : List ℕ) (great : Bool) where
  -- the first one
  pub first_argument : (e : RawExpr) (rest : List ℕ) (great_now : Bool) → IsRead text great (expression_at 0 text) e rest great_now → AreBegun text great (e ∷ []) rest great_now
  first_argument e rest great_now i =
      let shorter = i.shorter in
      record {
        before = [];
        written = i.written;
        go_on = arguments-step text ∙ ap (λ found. and_then_read (λ w tail. more_arguments the_readers w tail) found) i.is_read ∙ sym (read-as_it_is (more_arguments the_readers i.written rest));
        are_kept = ap (λ f. f ∷ []) i.is_kept;
        is_great = i.is_great ∙ ap (λ g. g || has_great_number i.written) (sym (or-false great));
        few = omega arith;
        shorter = i.shorter;
      }

  pub no_first : expression_at 0 text ≡ None → arguments_at text ≡ None
  no_first e = arguments-step text ∙ ap (λ found. and_then_read (λ w tail. more_arguments the_readers w tail) found) e

  module _ (es : List RawExpr) (rest : List ℕ) (great_now : Bool) (b : AreBegun text great es rest great_now) where
    comma-go_on : (after_comma : List ℕ) → passed 44 rest ≡ Some after_comma → arguments_at text ≡ read_as (λ arguments. beyond (b.before ++ b.written ∷ []) arguments) (arguments_at after_comma)
    comma-go_on after_comma comma =
        b.go_on ∙ ap (λ found. read_as (λ arguments. beyond b.before arguments) found) (passed-comma the_readers b.written rest after_comma comma) ∙ read-after b.before b.written (arguments_at after_comma)

    -- one more after a comma
    pub next_argument : (after_comma : List ℕ) (e : RawExpr) (rest_now : List ℕ) (great_later : Bool) → passed 44 rest ≡ Some after_comma → IsRead after_comma great_now (expression_at 0 after_comma) e rest_now great_later → AreBegun text great (es ++ e ∷ []) rest_now great_later
    next_argument after_comma e rest_now great_later comma i =
        let next = arguments-step after_comma ∙ ap (λ found. and_then_read (λ w tail. more_arguments the_readers w tail) found) i.is_read in
        let passed_shorter = passed-shorter 44 rest after_comma comma in
        let few = b.few in
        let shorter = b.shorter in
        let less = i.shorter in
        let grown : length (es ++ e ∷ []) ≡ length es + 1 = length-append es (e ∷ []) in
        record {
          before = b.before ++ b.written ∷ [];
          written = i.written;
          go_on = comma-go_on after_comma comma ∙ ap (λ found. read_as (λ arguments. beyond (b.before ++ b.written ∷ []) arguments) found) next;
          are_kept = ap (λ fs. fs ++ e ∷ []) b.are_kept ∙ ap (λ f. (map kept b.before ++ kept b.written ∷ []) ++ f ∷ []) i.is_kept ∙ sym (kept-more b.before b.written (kept i.written ∷ []));
          is_great = i.is_great ∙ ap (λ g. g || has_great_number i.written) (b.is_great ∙ or_assoc great (some_great b.before) (has_great_number b.written) ∙ ap (λ g. great || g) (sym (great-more b.before b.written)));
          few = omega arith;
          shorter = omega arith;
        }

    pub no_next : (after_comma : List ℕ) → passed 44 rest ≡ Some after_comma → expression_at 0 after_comma ≡ None → arguments_at text ≡ None
    no_next after_comma comma e =
        comma-go_on after_comma comma ∙ ap (λ found. read_as (λ arguments. beyond (b.before ++ b.written ∷ []) arguments) found) (arguments-step after_comma ∙ ap (λ found. and_then_read (λ w tail. more_arguments the_readers w tail) found) e)

    -- the bracket that closes them
    pub last_argument : (after_bracket : List ℕ) → passed 44 rest ≡ None → passed 41 rest ≡ Some after_bracket → AreRead text great (arguments_at text) es after_bracket great_now
    last_argument after_bracket no_comma bracket =
        let passed_shorter = passed-shorter 41 rest after_bracket bracket in
        let shorter = b.shorter in
        record {
          written = beyond b.before (Arguments.last b.written);
          are_read = b.go_on ∙ ap (λ found. read_as (λ arguments. beyond b.before arguments) found) (passed-end the_readers b.written rest after_bracket no_comma bracket);
          are_kept = b.are_kept ∙ sym (kept-after b.before b.written);
          is_great = b.is_great ∙ or_assoc great (some_great b.before) (has_great_number b.written) ∙ ap (λ g. great || g) (sym (great-after b.before b.written));
          shorter = omega arith;
        }
