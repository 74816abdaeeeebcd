use Rattle.std.proofs.Common.{ap, ◌∙◌, sym, arith, ◌++◌, ◌<◌, length, take}
use Rattle.std.specs.Option.{option_to_list}
use Rattle.gp_difference.specs.declared.bound.Bound.{Bound}
use Rattle.gp_difference.specs.Bounds.{tags_of}
use Rattle.gp_difference.specs.Lower.{walk_of}
use Rattle.gp_difference.proofs.TagLemmas.{tags_more}
use Rattle.gp_difference.proofs.lower.put_tags.Goals as goal

pub loop-number-preserved : goal.loop-number-preserved
loop-number-preserved c =
    let bounds = c.args.bounds.now.bounds in
    let walk = c.args.walk.now in
    let i = c.loop-number.number-index in
    let lt : i < length walk = omega arith in
    record {
      room = c.push_tag.ensures.room ∙ c.loop-number.invariant.room;
      fits = omega (arith, c.push_tag.ensures.fits, c.loop-number.invariant.fits);
      tags = c.push_tag.ensures.tags
          ∙ ap (λ ts. ts ++ option_to_list c.get.result.tag) c.loop-number.invariant.tags
          ∙ ap (λ (b : Bound). tags_of (walk_of bounds (take i walk)) ++ option_to_list b.tag) c.get.ensures
          ∙ sym (tags_more bounds walk i lt);
    }
