-- The operations of an expression give its value, or trap as its value does.
use Rattle.std.proofs.Common.{◌≡◌, ℕ, ◌<◌, ℤ, pos, ◌+ℤ◌, ◌*ℤ◌, nat_abs, List, [], ◌∷◌, length, Option, Result, Ok, Err, All, refl, sym, ap, subst, ◌∙◌, arith}
use Rattle.std.specs.Prelude.{if◌then◌else◌}
use Rattle.std.proofs.lemmas.Int.{ints}
use Rattle.op_table.specs.declared.Op.{Op}
use Rattle.op_table.specs.declared.Op.TheVariants.{Bound, Place}
use Rattle.op_table.specs.declared.Trap.{Trap}
use Rattle.op_table.specs.Operators.{applied}
use Rattle.op_table.specs.Words.{truth}
use Rattle.f77_tree.specs.declared.declarations.Dim.{Dim}
use Rattle.f77_tree.specs.declared.declarations.Kind.{Kind}
use Rattle.f77_tree.specs.declared.declarations.Kind.TheVariants.{Integer}
use Rattle.f77_tree.specs.declared.expressions.Expr.{Expr, Row_of-Expr, end_of-Expr, more_of-Expr}
use Rattle.f77_tree.specs.declared.expressions.Expr.TheVariants.{Const, Truth, Input, Read', Apply'}
use Rattle.f77_tree.specs.declared.programs.NameInfo.{NameInfo}
use Rattle.f77_tree.specs.Execution.{Memory}
use Rattle.f77_tree.specs.Kinds.{IsProper, AllOfKind, operand_kind}
use Rattle.f77_tree.specs.Known.{known, row_known}
use Rattle.f77_tree.specs.Value.{value, row_values, all_values, value_before, and_then, subscripted, extent, dims_of, place_of, read_of, word_of, ArePlaced}
use Rattle.f77_tree.proofs.Places.{IsOrdered, All-tail, count_of}
use Rattle.op_board.specs.Operations.{Operand, Known, Work, Load, Take, Operation, Compiled, CompiledRow, compiled, row_compiled, place_compiled, place_moved, place_operands, operated, with_operation}
use Rattle.op_board.specs.Effects.{gives, loaded, read_word, word_at_place}
use Rattle.op_board.proofs.OperationPlaces.{IsOffsetAt, MovesBoth, moves_both, IsInArray, IsArray, is_array, in_array}
use Rattle.op_board.proofs.OperationRuns.{HasValue, Keeps, IsLonger, same_length, longer_yet, operated_longer, HasRun, HasStopped, stopped_longer, HasGiven, Gives, GiveAll, gives_kept, known_given, operation_given, operator_given}

-- ---- operations come after those before

one_longer : (done : List Operation) (work : Work) (operands : List Operand) → IsLonger done (with_operation done work operands).done
one_longer done work operands = record { more = _; is = refl }

moved_longer : (place : Operand) (dim : Dim) (size : ℤ) (sub : Compiled) → IsLonger sub.done (place_moved place dim size sub).done
moved_longer place dim size sub =
    let bounds = sub.operand ∷ Known dim.lo ∷ Known dim.hi ∷ [] in
    let offset = operated sub.done Bound bounds in
    longer_yet sub.done offset.done _ (operated_longer sub.done Bound bounds) (operated_longer offset.done Place (place ∷ offset.operand ∷ Known size ∷ []))

mutual
  pub compiled_longer : (names : List NameInfo) (done : List Operation) (e : Expr) → IsLonger done (compiled names done e).done
  compiled_longer names done (Const z) = same_length done
  compiled_longer names done (Truth b) = same_length done
  compiled_longer names done Input = one_longer done Take []
  compiled_longer names done (Read' name shape subs) =
      let place = place_compiled names done (dims_of names name) (pos 1) (Known (pos 0)) subs in
      longer_yet done place.done _ (place_longer names done (dims_of names name) (pos 1) (Known (pos 0)) subs) (one_longer place.done (Load name (row_known subs)) (place_operands (row_known subs) place.operand))
  compiled_longer names done (Apply' op shape args) =
      let c = row_compiled names done args in
      longer_yet done c.done _ (row_longer names done args) (operated_longer c.done op c.operands)

  pub row_longer : {m : _} (names : List NameInfo) (done : List Operation) (row : Row_of-Expr m) → IsLonger done (row_compiled names done row).done
  row_longer names done end_of-Expr = same_length done
  row_longer names done (more_of-Expr e rest) = let first = compiled names done e in longer_yet done first.done _ (compiled_longer names done e) (row_longer names first.done rest)

  pub place_longer : {m : _} (names : List NameInfo) (done : List Operation) (dims : List Dim) (size : ℤ) (place : Operand) (row : Row_of-Expr m) → IsLonger done (place_compiled names done dims size place row).done
  place_longer names done dims size place end_of-Expr = same_length done
  place_longer names done [] size place (more_of-Expr e rest) = same_length done
  place_longer names done (dim ∷ dims) size place (more_of-Expr e rest) =
      let sub = compiled names done e in
      let next = place_moved place dim size sub in
      longer_yet done next.done _ (longer_yet done sub.done next.done (compiled_longer names done e) (moved_longer place dim size sub)) (place_longer names next.done dims (size *ℤ extent dim) next.operand rest)

-- ---- they give what values are

module _ (names : List NameInfo) (input : List ℤ) (m : Memory) where
  -- one operand more, before others
  pub row_gives : (values : List ℤ) (first : Compiled) (others : CompiledRow) (r : Result ℤ Trap) (rs : Result (List ℤ) Trap) → IsLonger first.done others.done →
      Gives names input m m values first r → ((now : List ℤ) → HasRun names input m m first.done now → GiveAll names input m m now others rs) →
      GiveAll names input m m values (record { done = others.done; operands = first.operand ∷ others.operands }) (value_before r rs)
  row_gives values first others (Err trap) rs grown stop rest = stopped_longer names input m first.done others.done trap grown stop
  row_gives values first others (Ok z) (Err trap) grown given rest = rest given.now given.run
  row_gives values first others (Ok z) (Ok zs) grown given rest =
      let more = rest given.now given.run in
      record {
        now = more.now;
        keeps = λ operand y has. more.keeps operand y (given.keeps operand y has);
        run = more.run;
        gives = (more.keeps first.operand z given.gives, more.gives);
      }

  -- an operator at operands that were compiled
  apply_gives : (values : List ℤ) (c : CompiledRow) (op : Op) (rs : Result (List ℤ) Trap) → GiveAll names input m m values c rs → Gives names input m m values (operated c.done op c.operands) (and_then (applied op) rs)
  apply_gives values c op (Err trap) stop = stopped_longer names input m c.done (operated c.done op c.operands).done trap (operated_longer c.done op c.operands) stop
  apply_gives values c op (Ok zs) given = gives_kept names input m m values given.now (operated c.done op c.operands) (applied op zs) given.keeps (operator_given names input m c.done given.now op c.operands zs given.run given.gives)

  -- ---- places

  -- the operations up to there give the offset of the word
  pub record HasPlace (name : ℕ) (values : List ℤ) (c : Compiled) (q : ℤ) : Type 0 where
    pub offset : ℤ
    pub given : HasGiven names input m m values c offset
    pub word : q ≡ pos (place_of names name) +ℤ offset
    pub inside : IsInArray names name offset

  abbrev pub PlaceGives : (name : ℕ) → List ℤ → Compiled → Result ℤ Trap → Type 0
  PlaceGives name values c (Ok q) = HasPlace name values c q
  PlaceGives name values c (Err trap) = HasStopped names input m c.done trap

  place_kept : (name : ℕ) (values now : List ℤ) (c : Compiled) (r : Result ℤ Trap) → Keeps values now → PlaceGives name now c r → PlaceGives name values c r
  place_kept name values now c (Err trap) keeps stop = stop
  place_kept name values now c (Ok q) keeps has = record { offset = has.offset; given = gives_kept names input m m values now c (Ok has.offset) keeps has.given; word = has.word; inside = has.inside }

  module _ (name whole : ℕ) (array : IsArray names name whole) where
    -- an offset that is moved by no subscript more
    place_done : (done : List Operation) (values : List ℤ) (dims : List Dim) (size p : ℤ) (place : Operand) → All IsOrdered dims → IsOffsetAt dims whole size p → HasRun names input m m done values → HasValue values place p →
        PlaceGives name values (record { done = done; operand = place }) (Ok (pos (place_of names name) +ℤ p))
    place_done done values dims size p place all at run has = record {
      offset = p;
      given = record { now = values; keeps = λ operand y h. h; run = run; gives = has };
      word = refl;
      inside = in_array names name whole dims size p array.size all at;
    }

    -- one subscript more, before others
    place_next : (values : List ℤ) (dim : Dim) (dims : List Dim) (size p : ℤ) (place : Operand) (sub c : Compiled) (r : Result ℤ Trap) (rs : List (Result ℤ Trap)) →
        All IsOrdered (dim ∷ dims) → IsOffsetAt (dim ∷ dims) whole size p → HasValue values place p → IsLonger (place_moved place dim size sub).done c.done → Gives names input m m values sub r →
        ((now : List ℤ) (q : ℤ) → IsOffsetAt dims whole (size *ℤ extent dim) q → HasRun names input m m (place_moved place dim size sub).done now → HasValue now (place_moved place dim size sub).operand q → PlaceGives name now c (subscripted dims (size *ℤ extent dim) (pos (place_of names name) +ℤ q) rs)) →
        PlaceGives name values c (subscripted (dim ∷ dims) size (pos (place_of names name) +ℤ p) (r ∷ rs))
    place_next values dim dims size p place sub c (Err trap) rs all at has grown stop rest =
        stopped_longer names input m sub.done c.done trap (longer_yet sub.done _ c.done (moved_longer place dim size sub) grown) stop
    place_next values dim dims size p place sub c (Ok v) rs all at has grown given rest =
        let bounds = sub.operand ∷ Known dim.lo ∷ Known dim.hi ∷ [] in
        by (applied Bound (v ∷ dim.lo ∷ dim.hi ∷ [])) refl (operator_given names input m sub.done given.now Bound bounds (v ∷ dim.lo ∷ dim.hi ∷ []) given.run (given.gives, (λ more. refl, (λ more. refl, tt))))
      where
        offset : Compiled
        offset = operated sub.done Bound (sub.operand ∷ Known dim.lo ∷ Known dim.hi ∷ [])

        next : Compiled
        next = operated offset.done Place (place ∷ offset.operand ∷ Known size ∷ [])

        base : ℤ
        base = pos (place_of names name)

        on : (s : Result ℤ Trap) → applied Bound (v ∷ dim.lo ∷ dim.hi ∷ []) ≡ s → PlaceGives name values c (and_then (λ q. subscripted dims (size *ℤ extent dim) q rs) (and_then (λ d. applied Place ((base +ℤ p) ∷ d ∷ size ∷ [])) s)) → PlaceGives name values c (subscripted (dim ∷ dims) size (base +ℤ p) (Ok v ∷ rs))
        on s e has_all = subst (λ t. PlaceGives name values c (and_then (λ q. subscripted dims (size *ℤ extent dim) q rs) (and_then (λ d. applied Place ((base +ℤ p) ∷ d ∷ size ∷ [])) t))) (sym e) has_all

        at_place : (now : List ℤ) (d : ℤ) (both : MovesBoth dims (place_of names name) whole size p d (size *ℤ extent dim)) → Keeps values now → Gives names input m m now next (Ok both.offset) →
            PlaceGives name values c (and_then (λ q. subscripted dims (size *ℤ extent dim) q rs) (applied Place ((base +ℤ p) ∷ d ∷ size ∷ [])))
        at_place now d both keeps moved_on =
            let whole_keeps : Keeps values moved_on.now = λ operand y h. moved_on.keeps operand y (keeps operand y h) in
            let last = rest moved_on.now both.offset both.at moved_on.run moved_on.gives in
            subst (λ t. PlaceGives name values c (and_then (λ q. subscripted dims (size *ℤ extent dim) q rs) t)) (sym both.word)
            (place_kept name values moved_on.now c (subscripted dims (size *ℤ extent dim) (base +ℤ both.offset) rs) whole_keeps last)

        by : (s : Result ℤ Trap) → applied Bound (v ∷ dim.lo ∷ dim.hi ∷ []) ≡ s → Gives names input m m given.now offset s → PlaceGives name values c (subscripted (dim ∷ dims) size (base +ℤ p) (Ok v ∷ rs))
        by (Err trap) e stop = on (Err trap) e (stopped_longer names input m offset.done c.done trap (longer_yet offset.done next.done c.done (operated_longer offset.done Place (place ∷ offset.operand ∷ Known size ∷ [])) grown) stop)
        by (Ok d) e above =
            let both = moves_both (place_of names name) whole array.few dim dims size p v d all at e in
            let keeps : Keeps values above.now = λ operand y h. above.keeps operand y (given.keeps operand y h) in
            let moved_on = operator_given names input m offset.done above.now Place (place ∷ offset.operand ∷ Known size ∷ []) (p ∷ d ∷ size ∷ []) above.run (keeps place p has, (above.gives, (λ more. refl, tt))) in
            on (Ok d) e (at_place above.now d both keeps (subst (λ t. Gives names input m m above.now next t) both.moves moved_on))

  -- what is read at a place
  read_gives : (name : ℕ) (values : List ℤ) (place : Compiled) (k : Option ℤ) (subs : List (Option ℤ)) (r : Result ℤ Trap) → PlaceGives name values place r →
      Gives names input m m values (with_operation place.done (Load name (k ∷ subs)) (place.operand ∷ [])) (read_of names m.store name (and_then (λ p. Ok (nat_abs p)) r))
  read_gives name values place k subs (Err trap) stop = stopped_longer names input m place.done _ trap (one_longer place.done (Load name (k ∷ subs)) (place.operand ∷ [])) stop
  read_gives name values place k subs (Ok q) has =
      let given = has.given in
      let is : loaded names m.store name (has.offset ∷ []) ≡ read_word names m.store name (nat_abs q) =
      ap (λ b. if b then read_word names m.store name (word_at_place names name has.offset) else pos 0) has.inside.inside ∙ ap (read_word names m.store name) (sym has.inside.word ∙ ap nat_abs (sym has.word)) in
      gives_kept names input m m values given.now (with_operation place.done (Load name (k ∷ subs)) (place.operand ∷ [])) (Ok (read_word names m.store name (nat_abs q))) given.keeps
      (operation_given names input m m m place.done given.now (Load name (k ∷ subs)) (place.operand ∷ []) (has.offset ∷ []) (read_word names m.store name (nat_abs q)) given.run (given.gives, tt) (ap (λ z. Ok (gives m z)) is))

  module _ (next : Option ℤ) (words : ℕ) (placed : ArePlaced names words) where
    -- the offset of an array begins with 0
    from_zero : {k : _} (name : ℕ) (values : List ℤ) (c : Compiled) (row : Row_of-Expr k) → PlaceGives name values c (subscripted (dims_of names name) (pos 1) (pos (place_of names name) +ℤ pos 0) (row_values names m.store next row)) →
        PlaceGives name values c (subscripted (dims_of names name) (pos 1) (pos (place_of names name)) (row_values names m.store next row))
    from_zero name values c row has =
        let zero_is : (pos (place_of names name) +ℤ pos 0) ≡ pos (place_of names name) = omega (arith, ints) in
        subst (λ x. PlaceGives name values c (subscripted (dims_of names name) (pos 1) x (row_values names m.store next row))) zero_is has

    -- what is read of a scalar, or at the place of subscripts
    access_read : {k : _} (name : ℕ) (row : Row_of-Expr k) (done : List Operation) (values : List ℤ) → HasRun names input m m done values →
        PlaceGives name values (place_compiled names done (dims_of names name) (pos 1) (Known (pos 0)) row) (subscripted (dims_of names name) (pos 1) (pos (place_of names name)) (row_values names m.store next row)) →
        Gives names input m m values (with_operation (place_compiled names done (dims_of names name) (pos 1) (Known (pos 0)) row).done (Load name (row_known row)) (place_operands (row_known row) (place_compiled names done (dims_of names name) (pos 1) (Known (pos 0)) row).operand)) (read_of names m.store name (word_of names name (row_values names m.store next row)))
    access_read name end_of-Expr done values run has = operation_given names input m m m done values (Load name []) [] [] (read_word names m.store name (place_of names name)) run tt refl
    access_read name (more_of-Expr e rest) done values run has =
        read_gives name values (place_compiled names done (dims_of names name) (pos 1) (Known (pos 0)) (more_of-Expr e rest)) (known e) (row_known rest) (subscripted (dims_of names name) (pos 1) (pos (place_of names name)) (row_values names m.store next (more_of-Expr e rest))) has

    mutual
      -- the operations of an expression of the program
      pub expression_gives : (e : Expr) (done : List Operation) (values : List ℤ) → IsProper names e → HasRun names input m m done values → Gives names input m m values (compiled names done e) (value names m.store next e)
      expression_gives (Const z) done values proper run = known_given names input m m done values z run
      expression_gives (Truth b) done values proper run = known_given names input m m done values (truth b) run
      expression_gives Input done values proper run = absurd proper
      expression_gives (Read' name shape subs) done values proper run =
          let array = is_array names name words placed proper.0 in
          access_read name subs done values run
          (from_zero name values (place_compiled names done (dims_of names name) (pos 1) (Known (pos 0)) subs) subs
          (place_gives name (count_of (dims_of names name)) array subs (dims_of names name) (pos 1) (pos 0) (Known (pos 0)) done values proper.2 array.bounds array.start run (λ more. refl)))
      expression_gives (Apply' op shape args) done values proper run =
          apply_gives values (row_compiled names done args) op (all_values (row_values names m.store next args)) (row_all_give args (operand_kind op) done values proper.2 run)

      -- of operands
      pub row_all_give : {k : _} (row : Row_of-Expr k) (kind : Kind) (done : List Operation) (values : List ℤ) → AllOfKind names kind row → HasRun names input m m done values → GiveAll names input m m values (row_compiled names done row) (all_values (row_values names m.store next row))
      row_all_give end_of-Expr kind done values proper run = record { now = values; keeps = λ operand z h. h; run = run; gives = tt }
      row_all_give (more_of-Expr e rest) kind done values proper run =
          let first = compiled names done e in
          row_gives values first (row_compiled names first.done rest) (value names m.store next e) (all_values (row_values names m.store next rest)) (row_longer names first.done rest)
          (expression_gives e done values proper.0 run) (λ now ran. row_all_give rest kind first.done now proper.2 ran)

      -- of subscripts
      pub place_gives : {k : _} (name whole : ℕ) (array : IsArray names name whole) (row : Row_of-Expr k) (dims : List Dim) (size p : ℤ) (place : Operand) (done : List Operation) (values : List ℤ) → AllOfKind names Integer row → All IsOrdered dims → IsOffsetAt dims whole size p → HasRun names input m m done values → HasValue values place p →
          PlaceGives name values (place_compiled names done dims size place row) (subscripted dims size (pos (place_of names name) +ℤ p) (row_values names m.store next row))
      place_gives name whole array end_of-Expr dims size p place done values proper all at run has = place_done name whole array done values dims size p place all at run has
      place_gives name whole array (more_of-Expr e rest) [] size p place done values proper all at run has = place_done name whole array done values [] size p place all at run has
      place_gives name whole array (more_of-Expr e rest) (dim ∷ dims) size p place done values proper all at run has =
          let sub = compiled names done e in
          let next_place = place_moved place dim size sub in
          place_next name whole array values dim dims size p place sub (place_compiled names done (dim ∷ dims) size place (more_of-Expr e rest)) (value names m.store next e) (row_values names m.store next rest) all at has
          (place_longer names next_place.done dims (size *ℤ extent dim) next_place.operand rest) (expression_gives e done values proper.0 run)
          (λ now q there ran gives_q. place_gives name whole array rest dims (size *ℤ extent dim) q next_place.operand next_place.done now proper.2 (All-tail IsOrdered dim dims all) there ran gives_q)

    -- of the subscripts of an access
    pub access_gives : {k : _} (name : ℕ) (row : Row_of-Expr k) (done : List Operation) (values : List ℤ) → name < length names → AllOfKind names Integer row → HasRun names input m m done values →
        PlaceGives name values (place_compiled names done (dims_of names name) (pos 1) (Known (pos 0)) row) (subscripted (dims_of names name) (pos 1) (pos (place_of names name)) (row_values names m.store next row))
    access_gives name row done values known_name proper run =
        let array = is_array names name words placed known_name in
        from_zero name values (place_compiled names done (dims_of names name) (pos 1) (Known (pos 0)) row) row
        (place_gives name (count_of (dims_of names name)) array row (dims_of names name) (pos 1) (pos 0) (Known (pos 0)) done values proper array.bounds array.start run (λ more. refl))
