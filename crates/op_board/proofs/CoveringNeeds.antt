-- All that an operation reads and changes belongs to the lines that it needs.
use Rattle.std.proofs.Common.{◌≡◌, ◌⊎◌, inl, inr, ℕ, zero, suc, ◌<◌, ◌≤◌, ℤ, pos, negsuc, int_le, int_lt, Bool, true, false, if◌then◌else◌, List, [], ◌∷◌, length, map, Option, Some, None, refl, sym, ap, ◌∙◌, subst, arith}
use Rattle.std.proofs.lemmas.Int.{ints}
use Rattle.std.proofs.lemmas.Bool.{and_parts}
use Rattle.f77_tree.specs.declared.programs.ExecKind.{ExecKind}
use Rattle.f77_tree.specs.declared.programs.NameInfo.{NameInfo}
use Rattle.f77_tree.specs.declared.programs.Program.{Program}
use Rattle.f77_tree.specs.KnownWith.{known_word}
use Rattle.f77_tree.specs.Places.{IsWordOf}
use Rattle.f77_tree.specs.Value.{dims_of, place_of, size_of, ArePlaced}
use Rattle.f77_tree.proofs.Places.{count-is, count-one, name-taken}
use Rattle.alias_classes.specs.Classes.{ClassTable, IsClasses, class_of_word, class_of_loop}
use Rattle.alias_classes.specs.Needs.{HitsAt, HitsName}
use Rattle.cfg_build.specs.declared.pieces.PieceKind.{PieceKind}
use Rattle.dep_routing.specs.Touches.{KindNeeds, exec_kind}
use Rattle.net_board.specs.Nodes.{kind_in}
use Rattle.net_board.specs.ProgramFacts.{ProgramFacts}
use Rattle.net_board.proofs.FiringLaws.{can}
use Rattle.op_board.specs.Operations.{Operand, Known, Work, Load, Operate, Store, Take, Write, Begin, Advance, DecideTruth, DecideSign, DecideNumber, DecideTrips, DecideFirst}
use Rattle.op_board.specs.Effects.{is_place, word_at_place}
use Rattle.op_board.specs.Needs.{WorkNeeds}
use Rattle.op_board.specs.OperationNets.{OperationNet, operation_at}
use Rattle.op_board.specs.OperationTokens.{operand_in}
use Rattle.op_board.specs.SoundOperationNets.{IsOperationNet}
use Rattle.op_board.proofs.AimedAccesses.{IsAimed}
use Rattle.op_board.proofs.AimedOperations.{IsAimedStore, WorkIsAimed, operations_aimed}
use Rattle.op_board.proofs.OperationEffects.{Covers, loaded_word, stored_word}
use Rattle.op_board.proofs.OperationFirings.{AreNeedsCovering}
use Rattle.op_board.proofs.OperationsApart.{operation_get}

-- ---- words of names

module _ (names : List NameInfo) (words : ℕ) (placed : ArePlaced names words) where
  first_word : (name : ℕ) → name < length names → IsWordOf names name (place_of names name)
  first_word name exists =
      let taken = name-taken names name words placed exists in
      let size = count-is (dims_of names name) taken.bounds in
      let some = count-one (dims_of names name) taken.bounds in
      record { known = exists; begins = omega arith; ends = omega (arith, ints, size, some) }

  word_by : (name : ℕ) (place : ℤ) → name < length names → int_le (pos 0) place ≡ true → int_lt place (size_of (dims_of names name)) ≡ true → IsWordOf names name (word_at_place names name place)
  word_by name (pos k) exists low high = record { known = exists; begins = omega arith; ends = omega (arith, ints, high) }
  word_by name (negsuc k) exists low high = absurd (omega (arith, ints, low))

  word_in_place : (name : ℕ) (place : ℤ) → name < length names → is_place names name place ≡ true → IsWordOf names name (word_at_place names name place)
  word_in_place name place exists is =
      let parts = and_parts (int_le (pos 0) place) (int_lt place (size_of (dims_of names name))) is in
      word_by name place exists parts.0 parts.1

-- ---- classes

module _ (p : Program) (placed : ArePlaced p.names p.words) (c : ClassTable) (own : IsClasses p c) where
  abbrev names : List NameInfo
  names = p.names

  same_known : (name : ℕ) (subs : List (Option ℤ)) → known_word c.names name subs ≡ known_word names name subs
  same_known name subs = ap (λ (ns : List NameInfo). known_word ns name subs) own.names

  -- the word that is known to be named
  hits_known : (name : ℕ) (subs : List (Option ℤ)) (word : ℕ) → known_word names name subs ≡ Some word → HitsName c name subs (class_of_word c word)
  hits_known name subs word is = subst (λ o. HitsAt c name o (class_of_word c word)) (sym (same_known name subs ∙ is)) refl

  hits_some : (name : ℕ) (subs : List (Option ℤ)) (word : ℕ) → known_word names name subs ≡ None → IsWordOf names name word → HitsName c name subs (class_of_word c word)
  hits_some name subs word is has =
      subst (λ o. HitsAt c name o (class_of_word c word)) (sym (same_known name subs ∙ is)) (record { word = word; has = subst (λ (ns : List NameInfo). IsWordOf ns name word) (sym own.names) has; is = refl })

  -- what a place with this value has
  record IsHit (name : ℕ) (subs : List (Option ℤ)) (word : ℕ) : Type 0 where
    has : IsWordOf names name word
    hits : HitsName c name subs (class_of_word c word)

  module _ (value : Operand → ℤ) (known_value : (z : ℤ) → value (Known z) ≡ z) where
    first_hit : (name : ℕ) (subs : List (Option ℤ)) (word : ℕ) → name < length names → IsAimed names name subs [] → Some (place_of names name) ≡ Some word → IsHit name subs word
    first_hit name subs word exists aimed at =
        let same : place_of names name ≡ word = cc in
        subst (IsHit name subs) same (record { has = first_word names p.words placed name exists; hits = hits_known name subs (place_of names name) aimed })

    place_hit : (name : ℕ) (subs : List (Option ℤ)) (place : Operand) (word : ℕ) → name < length names → IsAimed names name subs (place ∷ []) → (if is_place names name (value place) then Some (word_at_place names name (value place)) else None) ≡ Some word → IsHit name subs word
    place_hit name subs place word exists aimed at = by (is_place names name (value place)) refl at
      where
        on : (o : Option ℕ) → known_word names name subs ≡ o → IsWordOf names name (word_at_place names name (value place)) → IsHit name subs (word_at_place names name (value place))
        on None is has = record { has = has; hits = hits_some name subs (word_at_place names name (value place)) is has }
        on (Some other) is has =
            let a = aimed other is in
            let same : word_at_place names name (value place) ≡ other = ap (λ o. word_at_place names name (value o)) a.1 ∙ ap (word_at_place names name) (known_value a.0) ∙ a.2 in
            record { has = has; hits = subst (λ w. HitsName c name subs (class_of_word c w)) (sym same) (hits_known name subs other is) }

        by : (b : Bool) → is_place names name (value place) ≡ b → (if b then Some (word_at_place names name (value place)) else None) ≡ Some word → IsHit name subs word
        by true is e = let same : word_at_place names name (value place) ≡ word = cc in subst (IsHit name subs) same (on (known_word names name subs) refl (word_in_place names p.words placed name (value place) exists is))
        by false is e = let no : None ≡ Some word = e in absurd cc

    loaded_hit : (name : ℕ) (subs : List (Option ℤ)) (operands : List Operand) (word : ℕ) → name < length names → IsAimed names name subs operands → loaded_word names name (map value operands) ≡ Some word → IsHit name subs word
    loaded_hit name subs [] word exists aimed at = first_hit name subs word exists aimed at
    loaded_hit name subs (place ∷ more) word exists aimed at = place_hit name subs place word exists aimed at

    stored_hit : (name : ℕ) (subs : List (Option ℤ)) (operands : List Operand) (word : ℕ) → name < length names → IsAimedStore names name subs operands → stored_word names name (map value operands) ≡ Some word → IsHit name subs word
    stored_hit name subs [] word exists aimed at = let no : None ≡ Some word = at in absurd cc
    stored_hit name subs (z ∷ []) word exists aimed at = first_hit name subs word exists aimed at
    stored_hit name subs (place ∷ z ∷ more) word exists aimed at = place_hit name subs place word exists aimed at

    -- ---- an operation

    module _ (piece : PieceKind) (exec : ExecKind) (touches needs : ℕ → Bool) (touched : (n : ℕ) → KindNeeds c piece exec (suc n) → touches (suc n) ≡ true) where
      abbrev AreItsNeeds : Work → List Operand → Type 0
      AreItsNeeds work operands = (line : ℕ) → WorkNeeds c touches work operands line → needs line ≡ true

      -- each class has a number from 1 on
      from_one : (k : ℕ) → 1 ≤ k → ((n : ℕ) → k ≡ suc n → needs (suc n) ≡ true) → needs k ≡ true
      from_one zero some need = absurd (omega (arith, some))
      from_one (suc n) some need = need n refl

      word_class : (name word : ℕ) → IsWordOf names name word → 1 ≤ class_of_word c word
      word_class name word has = own.numbering.some name word has

      loop_class : (loop_no : ℕ) → 1 ≤ class_of_loop c loop_no
      loop_class loop_no = omega arith

      loop_covered : (loop_no var : ℕ) → var < length names → ((n : ℕ) → (class_of_word c (place_of c.names var) ≡ suc n) ⊎ (class_of_loop c loop_no ≡ suc n) → needs (suc n) ≡ true) → (needs (class_of_word c (place_of names var)) ≡ true) × (needs (class_of_loop c loop_no) ≡ true)
      loop_covered loop_no var exists need = (
        from_one (class_of_word c (place_of names var)) (word_class var (place_of names var) (first_word names p.words placed var exists)) (λ n is. need n (inl (ap (λ (ns : List NameInfo). class_of_word c (place_of ns var)) own.names ∙ is))),
        from_one (class_of_loop c loop_no) (loop_class loop_no) (λ n is. need n (inr is)),
      )

      pub covered : (work : Work) (operands : List Operand) → AreItsNeeds work operands → WorkIsAimed names piece exec work operands → Covers names c needs work (map value operands)
      covered (Load name subs) operands need aimed = λ word at.
          let hit : IsHit name subs word = loaded_hit name subs operands word aimed.0 aimed.1 at in
          from_one (class_of_word c word) (word_class name word hit.has) (λ n is. need (suc n) (subst (HitsName c name subs) is hit.hits))
      covered (Operate op) operands need aimed = tt
      covered (Store name subs) operands need aimed = λ word at.
          let hit : IsHit name subs word = stored_hit name subs operands word aimed.0 aimed.1 at in
          from_one (class_of_word c word) (word_class name word hit.has) (λ n is. need (suc n) (subst (HitsName c name subs) is hit.hits))
      covered Take operands need aimed = need 0 tt
      covered (Write items) operands need aimed = need 0 tt
      covered (Begin loop_no var) operands need aimed = loop_covered loop_no var aimed (λ n is. need (suc n) is)
      covered (Advance loop_no var) operands need aimed = loop_covered loop_no var aimed (λ n is. need (suc n) is)
      covered DecideTruth operands need aimed = tt
      covered DecideSign operands need aimed = tt
      covered (DecideNumber count) operands need aimed = tt
      covered (DecideTrips loop_no) operands need aimed = from_one (class_of_loop c loop_no) (loop_class loop_no) (λ n is. need (suc n) (touched n (subst (KindNeeds c piece exec) is (aimed c))))
      covered DecideFirst operands need aimed = tt

-- the lines that the operations of a net need cover what they work on
pub needs_cover : (ground : ProgramFacts) (x : OperationNet) (n : IsOperationNet x) → AreNeedsCovering x n.is_net.classes
needs_cover ground x n m piece i exists below =
    covered x.net.program n.is_net.can_run.placed n.is_net.classes n.is_net.own_classes (operand_in x m piece) (λ z. refl) (kind_in x.net piece) (exec_kind x.net.program piece) (x.net.touches piece) (x.needs piece i)
    (λ k need. (n.is_net.sound_touches.classes piece k exists).1 need)
    (operation_at x piece i).work (operation_at x piece i).operands
    (λ line need. (n.own_needs piece i line exists below).1 need)
    (operations_aimed x.net.program n.is_net.can_run (kind_in x.net piece) (exec_kind x.net.program piece) (can ground x.net n.is_net piece) i (operation_at x piece i) (operation_get x piece i below))
