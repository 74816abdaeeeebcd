use Rattle.std.proofs.Common.{◌≡◌, [], drop, filter}
use Rattle.gp_window.specs.WindowForm.{given_all}
use Rattle.gp_cut_files.specs.Values.{is_up_to}
use Rattle.gp_cut_files.proofs.values.values_at.Given as goal

abbrev pub invariant-loop-given : goal.invariant-loop-given
invariant-loop-given l =
    given_all l.values (filter (is_up_to l.window) (drop l.given-index l.given-items)) ≡ given_all [] (filter (is_up_to l.window) l.given-items)
