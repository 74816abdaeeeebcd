-- What was found is what is due, or there is too much.
use Rattle.std.proofs.Common.{◌≡◌, ◌∙◌, [], ap, arith, map}
use Rattle.gp_instance.specs.Instances.{numbered}
use Rattle.gp_instance.specs.Search.{candidates_of, first_instances, search}
use Rattle.gp_instance.proofs.Due.{due_all, due_too_many, found_of}
use Rattle.gp_instance.proofs.instance.instances.Goals as goal

pub returns-then-len-gt-MOST_INSTANCES : goal.returns-then-len-gt-MOST_INSTANCES
returns-then-len-gt-MOST_INSTANCES c =
    let segments = c.args.window.now.segments in
    let is : c.in_ok-found.found ≡ found_of c.args.window.now c.args.property.now c.args.number =
    c.in_ok-found.ensures ∙ ap (λ atoms. first_instances [] (map (numbered c.args.number) (search segments atoms (map (candidates_of segments) atoms)))) (c.as_slice.ensures ∙ c.in_ok-atoms.ensures) in
    λ other. due_too_many c.args.window.now c.args.property.now c.args.number c.in_ok-found.found is (omega arith)

pub returns : goal.returns
returns c =
    let segments = c.args.window.now.segments in
    let is : c.in_ok-found.found ≡ found_of c.args.window.now c.args.property.now c.args.number =
    c.in_ok-found.ensures ∙ ap (λ atoms. first_instances [] (map (numbered c.args.number) (search segments atoms (map (candidates_of segments) atoms)))) (c.as_slice.ensures ∙ c.in_ok-atoms.ensures) in
    λ other. due_all c.args.window.now c.args.property.now c.args.number c.in_ok-found.found is (omega arith)
