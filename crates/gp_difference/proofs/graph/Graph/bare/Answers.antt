use Rattle.std.proofs.Common.{refl, arith, length}
use Rattle.std.proofs.lemmas.Int.{ints}
use Rattle.std.proofs.lemmas.List.{length-replicate}
use Rattle.gp_difference.proofs.SettleLemmas.{fresh_at, fresh_marks}
use Rattle.gp_difference.proofs.graph.Graph.bare.Goals as goal

pub invariant_of-result : goal.invariant_of-result
invariant_of-result c =
    let places = c.args.places.items in
    rw (c.in_ok-new.ensures, c.in_ok-new-2.ensures) (record {
      fixed = omega arith;
      untagged = refl;
      marks = omega arith;
      room = omega arith;
      points = omega (arith, c.len-points.ensures, c.args.places.ok.0);
      few = c.requires.few;
      edges = λ i h. absurd (omega (arith, h));
      kept = λ i h. absurd (omega (arith, h));
      bottom = λ v. let f = fresh_at places c.requires.fresh v in omega (arith, ints, f.0);
      top = λ v. let f = fresh_at places c.requires.fresh v in f.1;
      low = fresh_marks places c.requires.fresh;
      rest = record { labels_rest = refl; falls_rest = refl; via_size = length-replicate (length places) 0; walk_size = length-replicate (length places) 0 };
      tags = omega (arith, c.len-points.ensures, c.args.places.ok.0, c.in_ok-with_capacity.ensures.capacity);
    })
