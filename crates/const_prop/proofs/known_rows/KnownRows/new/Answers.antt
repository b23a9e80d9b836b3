use Rattle.std.proofs.Common.{◌≡◌, ◌+◌, ◌*◌, false, None, refl}
use Rattle.const_prop.specs.SparseSets.{keys_of, set_holds}
use Rattle.const_prop.specs.Values.{word_of}
use Rattle.const_prop.proofs.known_rows.KnownRows.new.Goals as goal

pub returns-clause-nothing : goal.returns-clause-nothing
returns-clause-nothing g c = λ line e.
    let any : set_holds c.in_ok-new.field-0 e line ≡ false = c.in_ok-new.ensures.none e line in
    let one : word_of c.in_ok-no_values.field-0 (line * keys_of c.in_ok-new.field-0 + e) ≡ None = c.in_ok-no_values.ensures.none (line * keys_of c.in_ok-new.field-0 + e) in
    rw (any, one) refl
