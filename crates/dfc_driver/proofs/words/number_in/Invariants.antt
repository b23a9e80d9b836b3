use Rattle.std.proofs.Common.{◌≡◌, ◌^◌, ◌<◌, ◌≤◌, length, take, true}
use Rattle.std.specs.List.{list_all}
use Rattle.f77_tree.specs.Name.{is_figure}
use Rattle.fixed_form.specs.Columns.{number}
use Rattle.dfc_driver.proofs.words.number_in.Given as goal

abbrev pub invariant-loop-b : goal.invariant-loop-b
invariant-loop-b l = record {
  value : l.number ≡ number (take l.b-index l.digits);
  small : l.number < 10 ^ l.b-index;
  few : length l.digits ≤ 18;
  figures : list_all is_figure l.digits ≡ true;
}
