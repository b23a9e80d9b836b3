use Rattle.std.proofs.Common.{arith, ◌≡◌, ℕ, List, ◌++◌, codes, length}
use Rattle.std.proofs.Output.{has_written_of_eq}
use Rattle.std.specs.Fmt.{HasWritten}
use mathlib.Core.List.{append_assoc}
use Rattle.lane_charts.specs.Sections.{data_html, head_html, pictures_html, section_html}
use Rattle.lane_charts.proofs.sections.SectionPart.put.Goals as goal

-- the text of a section of these parts
abbrev section_of : (name printed : List ℕ) → (firings : ℕ) → (chart rounds nodes counts : List ℕ) → List ℕ
section_of name printed firings chart rounds nodes counts =
    codes "<section class=\"run\">" ++ head_html name firings ++ pictures_html chart printed rounds ++ data_html nodes counts ++ codes "</section>\n"

same_section : (name printed : List ℕ) (n m : ℕ) (a b c d e f g h : List ℕ) → n ≡ m → a ≡ b → c ≡ d → e ≡ f → g ≡ h → section_of name printed n a c e g ≡ section_of name printed m b d f h
same_section name printed n m a b c d e f g h one two three four five = cc

pub returns : goal.returns
unfolding section_html
returns g c = λ plain ok.
    let s = c.args.self.now in
    let firings : c.len.result ≡ length s.nodes.items = omega (arith, c.len.ensures, s.nodes.ok.0) in
    let text = section_of s.name.now s.printed.now c.len.result c.as_str.result.now c.as_str-2.result.now c.as_slice.result.now c.as_slice-2.result.now in
    let written : HasWritten g.W.Write.write_str_gives c.args.f.now text c.writeln.new.self = has_written_of_eq _ _ _ _ _ (simp append_assoc) (c.writeln.ensures.writes plain ok) in
    has_written_of_eq _ _ _ _ _ (same_section s.name.now s.printed.now _ _ _ _ _ _ _ _ _ _ firings c.as_str.ensures.value c.as_str-2.ensures.value c.as_slice.ensures.value c.as_slice-2.ensures.value) written
