-- One run more is made, until all windows are parted.
use Rattle.std.proofs.Common.{◌≡◌, ◌∙◌, ap, sym, ◌+◌, ◌-◌, ◌/◌, length, arith}
use Rattle.std.proofs.lemmas.List.{length_push}
use Rattle.gp_analysis.proofs.Parted.{one_parted}
use Rattle.gp_analysis.proofs.runs.runs_of.Goals as goal

pub loop-made-preserved : goal.loop-made-preserved
loop-made-preserved c =
    let made = c.loop-made.invariant.made in
    let own : (c.args.epochs + 1 - c.loop-made.first) / (c.args.count - c.loop-made.made) ≡ (c.args.epochs + 1 - c.loop-made.first) / (c.args.count - length c.loop-made.runs.items) =
    ap (λ n. (c.args.epochs + 1 - c.loop-made.first) / (c.args.count - n)) (sym made) in
    record {
      made = ap length c.in_ok-push.ensures.items ∙ length_push c.loop-made.runs.items _ ∙ ap (λ n. n + 1) made;
      parted = one_parted c.args.epochs c.args.count c.loop-made.first c.loop-made.runs.items c.push.new.self.items (omega (arith, made, c.loop-made-test.true)) c.loop-made.invariant.parted
          ((c.args.epochs + 1 - c.loop-made.first) / (c.args.count - c.loop-made.made)) own c.in_ok-push.ensures.items;
    }
