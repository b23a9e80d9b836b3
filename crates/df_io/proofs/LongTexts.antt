-- A text that is appended to a buffer piece by piece.
use Rattle.std.proofs.Common.{◌≡◌, ℕ, List, [], ◌++◌, Option, Result, Ok, Err, OnOk, OnErr, refl, sym, ap, subst, ◌∙◌, append_assoc, append-nil}
use Rattle.std.proofs.KnownBytes.{Appends-nil, Appends-trans}
use Rattle.std.specs.Io.KnownBytes.{Appends}
use Rattle.df_io.specs.TextBuffer.{IsWrittenBut}
use Rattle.df_io.specs.Write.{AppendsPrefix}
use Rattle.df_io.proofs.Prefixes.{AppendsPrefix-after}

-- at first nothing was written, and the buffer holds all
pub all_held : (a : Option (List ℕ)) (text : List ℕ) → IsWrittenBut text a a text
all_held a text = record { written = []; added = Appends-nil a; all = refl }

-- one piece more
pub one_more_piece : (a b c : Option (List ℕ)) (held text piece left : List ℕ) → IsWrittenBut held a b text → IsWrittenBut left b c (held ++ piece) → IsWrittenBut left a c (text ++ piece)
one_more_piece a b c held text piece left before now = record {
  written = before.written ++ now.written;
  added = Appends-trans a b c before.written now.written before.added now.added;
  all = append_assoc before.written now.written left ∙ ap (λ more. before.written ++ more) now.all ∙ sym (append_assoc before.written held piece) ∙ ap (λ prefix. prefix ++ piece) before.all;
}

-- a fault at one piece more
pub fault_at_piece : (a b c : Option (List ℕ)) (held text piece : List ℕ) → IsWrittenBut held a b text → AppendsPrefix b c (held ++ piece) → AppendsPrefix a c (text ++ piece)
fault_at_piece a b c held text piece before prefix =
    subst (AppendsPrefix a c) (sym (append_assoc before.written held piece) ∙ ap (λ whole. whole ++ piece) before.all) (AppendsPrefix-after a b c before.written (held ++ piece) before.added prefix)

-- the end of the text is written out
pub all_out : (a b c : Option (List ℕ)) (held text : List ℕ) → IsWrittenBut held a b text → Appends b c held → Appends a c text
all_out a b c held text before rest =
    subst (Appends a c) before.all (Appends-trans a b c before.written held before.added rest)

-- a fault at the end of the text
pub fault_at_end : (a b c : Option (List ℕ)) (held text : List ℕ) → IsWrittenBut held a b text → AppendsPrefix b c held → AppendsPrefix a c text
fault_at_end a b c held text before prefix =
    subst (AppendsPrefix a c) before.all (AppendsPrefix-after a b c before.written held before.added prefix)

-- what the buffer held and a piece were written, and the buffer is empty
pub written_whole : {R E : Type 0} (result : Result R E) (a b c : Option (List ℕ)) (held piece left : List ℕ) → left ≡ [] → Appends a b held → OnOk result (Appends b c piece) → OnOk result (IsWrittenBut left a c (held ++ piece))
written_whole (Err fault) a b c held piece left none before now = tt
written_whole (Ok x) a b c held piece left none before now = record {
  written = held ++ piece;
  added = Appends-trans a b c held piece before now;
  all = ap (λ rest. (held ++ piece) ++ rest) none ∙ append-nil (held ++ piece);
}

-- a fault at a piece after what the buffer held
pub fault_after : {R E : Type 0} (result : Result R E) (a b c : Option (List ℕ)) (held piece : List ℕ) → Appends a b held → OnErr result (AppendsPrefix b c piece) → OnErr result (AppendsPrefix a c (held ++ piece))
fault_after (Ok x) a b c held piece before prefix = tt
fault_after (Err fault) a b c held piece before prefix = AppendsPrefix-after a b c held piece before prefix
