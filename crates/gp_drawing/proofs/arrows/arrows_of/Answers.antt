-- The arrows to one part more, and what is kept of it.
use Rattle.std.proofs.Common.{[], refl, subst, sym}
use Rattle.gp_drawing.specs.Arrows.{arrows_of}
use Rattle.gp_drawing.specs.Singles.{Singles, TellsSingles}
use Rattle.gp_drawing.proofs.Steps.{arrows_put}
use Rattle.gp_drawing.proofs.Telling.{tells_next, tells_none}
use Rattle.gp_drawing.proofs.arrows.arrows_of.Goals as goal

pub loop-row-init : goal.loop-row-init
loop-row-init c = record {
  told = rw c.new-arrows.ensures refl;
  singles = subst (λ (singles : Singles). TellsSingles [] singles) (sym c.new-singles.ensures) tells_none;
}

pub loop-row-preserved : goal.loop-row-preserved
loop-row-preserved c = record {
  told = arrows_put c.args.window.now c.loop-row.arrows c.put_arrows.new.arrows (arrows_of c.args.window.now c.args.parts.now) c.args.parts.now c.index-parts-row.result c.loop-row.row
      c.loop-row-test.true c.index-parts-row.is c.in_ok-put_arrows.ensures c.loop-row.invariant.told;
  singles = tells_next c.args.parts.now c.index-parts-row.result c.loop-row.singles c.keep_part.new.singles c.loop-row.row
      c.loop-row-test.true c.index-parts-row.is c.in_ok-keep_part.ensures c.loop-row.invariant.singles;
}
