-- What is pushed stands there, and what stood there still does.
use Rattle.std.proofs.Common.{[], ◌∷◌}
use Rattle.std.specs.Prelude.{if◌then◌else◌}
use Rattle.std.specs.Str.{bytes_eq}
use Rattle.std.proofs.lemmas.Result.{on_ok_weaker}
use Rattle.gp_constraint.specs.Tables.{entry_at}
use Rattle.gp_stuck.specs.declared.link.Step.{Step}
use Rattle.gp_stuck.proofs.Ways.{kept_at, pushed}
use Rattle.gp_stuck.proofs.closing.put_step.Goals as goal

pub returns : goal.returns
returns c =
    let one : Step = record { thread = c.args.link.now.thread; mode = c.args.link.now.mode; others = c.args.others } in
    record {
      kept = on_ok_weaker c.push.result (λ at lock step among.
          kept_at (entry_at c.args.steps.now lock) (entry_at c.push.new.self lock) (if bytes_eq c.args.link.now.held lock then one ∷ [] else []) step (at lock) among) c.push.ensures;
      added = on_ok_weaker c.push.result (λ at thread has. (
        c.args.others,
        pushed (entry_at c.args.steps.now c.args.link.now.held) (entry_at c.push.new.self c.args.link.now.held) c.args.link.now.held one (at c.args.link.now.held),
        has,
      )) c.push.ensures;
    }
