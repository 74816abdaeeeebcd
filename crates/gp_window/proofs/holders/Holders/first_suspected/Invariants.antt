use Rattle.std.proofs.Common.{◌≡◌, drop}
use Rattle.std.specs.List.{find}
use Rattle.std.specs.Prelude.{option_map}
use Rattle.gp_window.specs.Contested.{first_contested, is_contested}
use Rattle.gp_window.proofs.holders.Holders.first_suspected.Given as goal

abbrev pub invariant-loop-one : goal.invariant-loop-one
invariant-loop-one l =
    option_map (λ one. one.0.0) (find (λ one. is_contested l.held one.0.0) (drop l.one-index l.held)) ≡ first_contested l.held
