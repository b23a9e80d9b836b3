-- The words of storage that names have.
use Rattle.std.specs.Prelude.{ℕ, nat_abs, List}
use Rattle.f77_tree.specs.declared.programs.NameInfo.{NameInfo}
use Rattle.f77_tree.specs.InitialWords.{words_from}
use Rattle.f77_tree.specs.Value.{size_of}

-- all words of a name
abbrev pub words_of : NameInfo → List ℕ
words_of info = words_from info.place (nat_abs (size_of info.dims))
