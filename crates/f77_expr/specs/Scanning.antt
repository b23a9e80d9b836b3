-- What a scan of a text has found, by the definition of pieces.
use Rattle.f77_expr.specs.declared.scan.Open.{Open}
use Rattle.f77_expr.specs.Piece.{Open as OpenOnList}

-- what the code says is open
abbrev pub what_is_open : Open → OpenOnList
what_is_open open_now = record { quoted = open_now.is_quoted; brackets = open_now.brackets }
