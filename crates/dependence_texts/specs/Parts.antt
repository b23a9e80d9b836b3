-- Parts of texts.
use Rattle.std.specs.Prelude.{ℕ, List, ◌++◌, codes}
use Rattle.std.specs.Fmt.{decimal}
use Rattle.dependence_texts.specs.declared.parts.Head.{Head}
use Rattle.dependence_texts.specs.declared.parts.WaitLine.{WaitLine}

abbrev pub head_text : Head → List ℕ
head_text h = codes "{\"from\":" ++ decimal h.from ++ codes ",\"to\":" ++ decimal h.to ++ codes ",\"kind\":\"" ++ h.kind.now ++ codes "\",\"by\":["

abbrev pub line_text : WaitLine → List ℕ
line_text w = decimal w.who ++ codes " WAITS FOR " ++ decimal w.whom ++ w.end.now
