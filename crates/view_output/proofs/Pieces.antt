-- A text that is appended piece by piece to what a sink has got and is still to get.
use Rattle.std.proofs.Common.{◌≡◌, ℕ, List, [], ◌++◌, Option, Some, None, Result, Ok, Err, OnOk, sym, ap, subst, ◌∙◌, append_assoc, append-nil}
use Rattle.std.proofs.KnownBytes.{Appends-trans}
use Rattle.std.specs.Io.KnownBytes.{Appends, Keeps, append_known}
use Rattle.df_io.specs.TextBuffer.{IsWrittenBut}
use Rattle.view_output.specs.declared.output.Output.{Output}
use Rattle.view_output.specs.Told.{Adds, told}

known_piece : (old new : Option (List ℕ)) (held left bytes : List ℕ) → IsWrittenBut left old new (held ++ bytes) → Appends (append_known old held) (append_known new left) bytes
known_piece None new held left bytes piece = tt
known_piece (Some a) None held left bytes piece = absurd piece.added
known_piece (Some a) (Some b) held left bytes piece =
    ap (λ t. t ++ left) piece.added ∙ append_assoc a piece.written left ∙ ap (λ t. a ++ t) piece.all ∙ sym (append_assoc a held bytes)

-- one piece
pub told_piece : {K : Type 0} (got : K → Option (List ℕ)) (old new : Output K) (bytes : List ℕ) → IsWrittenBut new.buffer (got old.sink) (got new.sink) (old.buffer ++ bytes) → Adds (told got old) (told got new) bytes
unfolding told
told_piece got old new bytes piece = record { known = known_piece (got old.sink) (got new.sink) old.buffer new.buffer bytes piece }

known_all : (old new : Option (List ℕ)) (held : List ℕ) → Appends old new held → Keeps (append_known old held) new
known_all None new held all = tt
known_all (Some a) None held all = absurd all
known_all (Some a) (Some b) held all = all

-- all of it
pub told_all : {K : Type 0} (got : K → Option (List ℕ)) (old new : Output K) → Appends (got old.sink) (got new.sink) old.buffer → Keeps (told got old) (got new.sink)
unfolding told
told_all got old new all = known_all (got old.sink) (got new.sink) old.buffer all

known_none : (known : Option (List ℕ)) (held : List ℕ) → held ≡ [] → Keeps known (append_known known held)
known_none None held none = tt
known_none (Some a) held none = ap (λ t. a ++ t) none ∙ append-nil a

-- nothing yet
pub told_none : {K : Type 0} (got : K → Option (List ℕ)) (sink : K) (output : Output K) → output.sink ≡ sink → output.buffer ≡ [] → Keeps (got sink) (told got output)
unfolding told
told_none got sink output same none = rw (ap got (sym same)) (known_none (got output.sink) output.buffer none)

-- ---- one piece after another

pub and_then : {a b c : Option (List ℕ)} {x y : List ℕ} → Adds a b x → Adds b c y → Adds a c (x ++ y)
and_then {a} {b} {c} {x} {y} first second = record { known = Appends-trans a b c x y first.known second.known }

-- a piece that may fail
pub and_last : {R E : Type 0} {a b : Option (List ℕ)} {x : List ℕ} (c : Option (List ℕ)) (y : List ℕ) (result : Result R E) → Adds a b x → OnOk result (Adds b c y) → OnOk result (Adds a c (x ++ y))
and_last c y (Ok r) first second = and_then first second
and_last c y (Err fault) first second = tt

-- a piece with the same text
pub and_same : {a b c : Option (List ℕ)} {x y : List ℕ} (z : List ℕ) → Adds a b x → Adds b c y → y ≡ z → Adds a c (x ++ z)
and_same {a} {b} {c} {x} {y} z first second same = and_then first (subst (Adds b c) same second)
