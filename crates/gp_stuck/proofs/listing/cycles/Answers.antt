-- What was found is what is due, or there is too much.
use Rattle.std.proofs.Common.{◌≡◌, ◌∙◌, [], ap, arith, map}
use Rattle.gp_instance.specs.Instances.{numbered}
use Rattle.gp_instance.specs.Search.{first_instances}
use Rattle.gp_stuck.specs.Search.{found_cycles}
use Rattle.gp_stuck.proofs.Found.{all_due, many_due}
use Rattle.gp_stuck.proofs.listing.cycles.Goals as goal

pub returns-then-len-gt-MOST_CYCLES : goal.returns-then-len-gt-MOST_CYCLES
returns-then-len-gt-MOST_CYCLES c =
    let is : c.in_ok-found.found ≡ first_instances [] (map (numbered 0) (found_cycles c.args.window.now)) =
    c.in_ok-found.ensures ∙ ap (λ window. first_instances [] (map (numbered 0) (found_cycles window))) c.in_ok-waiting.ensures in
    λ other. many_due c.args.window.now c.in_ok-found.found is (omega arith)

pub returns : goal.returns
returns c =
    let is : c.in_ok-found.found ≡ first_instances [] (map (numbered 0) (found_cycles c.args.window.now)) =
    c.in_ok-found.ensures ∙ ap (λ window. first_instances [] (map (numbered 0) (found_cycles window))) c.in_ok-waiting.ensures in
    λ other. all_due c.args.window.now c.in_ok-found.found is (omega arith)
