-- What is spelled, before more: with one bracketing of the parts.
use Rattle.std.proofs.Common.{◌≡◌, ℕ, List, ◌∷◌, ◌++◌, refl, ap, ◌∙◌, append_assoc}
use Rattle.op_table.specs.declared.Op.{Op}
use Rattle.f77_tree.specs.Grammar.{Written, Arguments, symbol, spelling, spellings}
use Rattle.f77_expr.specs.Reader.{Prefix, prefixed}
use Rattle.f77_expr.specs.Reader.Prefix.{Plus, Minus, Negation}
use Rattle.f77_expr.proofs.Prefixes.{prefix_text}

pub binary_spelling : (op : Op) (a b : Written) (text : List ℕ) → spelling (Written.binary op a b) ++ text ≡ spelling a ++ (symbol op ++ (spelling b ++ text))
binary_spelling op a b text = append_assoc (spelling a ++ symbol op) (spelling b) text ∙ append_assoc (spelling a) (symbol op) (spelling b ++ text)

pub call_spelling : (name : List ℕ) (args : Arguments) (text : List ℕ) → spelling (Written.call name args) ++ text ≡ name ++ (40 ∷ (spellings args ++ (41 ∷ text)))
call_spelling name args text = simp append_assoc

pub bracketed_spelling : (w : Written) (text : List ℕ) → spelling (Written.bracketed w) ++ text ≡ 40 ∷ (spelling w ++ (41 ∷ text))
bracketed_spelling w text = simp append_assoc

pub before_spelling : (w : Written) (more : Arguments) (text : List ℕ) → spellings (Arguments.before w more) ++ text ≡ spelling w ++ (44 ∷ (spellings more ++ text))
before_spelling w more text = simp append_assoc

prefixed_alone : (prefix : Prefix) (w : Written) → spelling (prefixed prefix w) ≡ prefix_text prefix ++ spelling w
prefixed_alone Plus w = refl
prefixed_alone Minus w = refl
prefixed_alone Negation w = refl

pub prefixed_spelling : (prefix : Prefix) (w : Written) (text : List ℕ) → spelling (prefixed prefix w) ++ text ≡ prefix_text prefix ++ (spelling w ++ text)
prefixed_spelling prefix w text = ap (λ prefix. prefix ++ text) (prefixed_alone prefix w) ∙ append_assoc (prefix_text prefix) (spelling w) text
