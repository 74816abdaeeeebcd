use Rattle.std.proofs.Common.{subst, refl, List, ℤ, arith}
use Rattle.std.proofs.lemmas.Int.{ints}
use Rattle.gp_difference.specs.Settle.{NoneIsBelow}
use Rattle.gp_difference.proofs.GraphLemmas.{sound_feasible, sound_fresh, sound_near, same_graph}
use Rattle.gp_difference.proofs.graph.Graph.freshen.Goals as goal

pub invariant_of-self : goal.invariant_of-self
invariant_of-self c =
    sound_fresh c.self.inside c.make_anew.new.self c.self.invariant c.make_anew.ensures.anew c.make_anew.ensures.rest

pub returns-then-any_below : goal.returns-then-any_below
returns-then-any_below c =
    let anew = c.make_anew.ensures.anew in
    rw (← c.self.view_is) (record {
      same = same_graph _ _ _ _ _ _ _ _ _ _ _ _ anew.size refl refl refl refl refl;
      fresh = anew.fresh;
      feasible = sound_feasible _ (sound_fresh c.self.inside c.make_anew.new.self c.self.invariant anew c.make_anew.ensures.rest);
    })

pub returns-else-any_below : goal.returns-else-any_below
returns-else-any_below c =
    let none : NoneIsBelow c.self.inside.placement.places _ =
    subst (λ (ps : List ℤ). NoneIsBelow ps _) c.places.ensures c.if-any_below.ensures in
    rw (← c.self.view_is) (record {
      same = refl;
      fresh = sound_near c.self.inside c.self.invariant _ (omega (arith, ints)) none;
      feasible = sound_feasible c.self.inside c.self.invariant;
    })
