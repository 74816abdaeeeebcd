use Rattle.std.proofs.Common.{◌≡◌, drop}
use Rattle.std.specs.Prelude.{◌&&◌}
use Rattle.std.specs.List.{list_any}
use Rattle.std.specs.Str.{bytes_eq}
use Rattle.gp_window.specs.Contested.{is_contested, is_held_beside}
use Rattle.gp_window.specs.Holders.{is_exclusive}
use Rattle.gp_window.proofs.contested.is_contested.Given as goal

abbrev pub invariant-loop-one : goal.invariant-loop-one
invariant-loop-one l =
    list_any (λ one. bytes_eq one.0.0 l.lock && (is_exclusive one.1 && is_held_beside l.held l.lock one.0.1)) (drop l.one-index l.held)
    ≡ is_contested l.held l.lock
