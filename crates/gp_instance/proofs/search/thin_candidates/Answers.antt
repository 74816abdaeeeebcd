-- What the candidates leave without those that have no partner.
use Rattle.std.proofs.Common.{map, refl}
use Rattle.std.proofs.lemmas.List.{length-map}
use Rattle.gp_instance.specs.Search.{candidates_of}
use Rattle.gp_instance.proofs.Dead.{leaves}
use Rattle.gp_instance.proofs.Thin.{finds_then}
use Rattle.gp_instance.proofs.search.thin_candidates.Goals as goal

pub returns-in_default : goal.returns-in_default
returns-in_default c =
    let due = map (candidates_of c.args.segments.now) c.args.atoms.now in
    let left = leaves c.args.segments.now c.args.atoms.now due due c.in_ok-found.found (refl, length-map c.args.atoms.now (candidates_of c.args.segments.now)) c.in_ok-found.ensures in
    rw c.in_default.is at left

pub returns : goal.returns
returns c =
    let due = map (candidates_of c.args.segments.now) c.args.atoms.now in
    let left = leaves c.args.segments.now c.args.atoms.now due due c.in_ok-found.found (refl, length-map c.args.atoms.now (candidates_of c.args.segments.now)) c.in_ok-found.ensures in
    leaves _ _ _ _ _ (finds_then _ _ _ _ _ (rw c.in-Some.is at left) c.in_ok-thin.ensures) c.unless_dead.ensures
