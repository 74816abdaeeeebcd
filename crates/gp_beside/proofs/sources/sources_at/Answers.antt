use Rattle.std.proofs.Common.{◌∙◌, ◌+◌, ℕ, List, arith, drop, map, rules}
use Rattle.std.specs.Prelude.{option_map}
use Rattle.std.proofs.lemmas.Grind.{common_steps}
use Rattle.gp_beside.specs.Sources.{source_at}
use Rattle.gp_beside.proofs.Listed.{one_more}
use Rattle.gp_beside.proofs.sources.sources_at.Goals as goal

pub loop-name-preserved : goal.loop-name-preserved
loop-name-preserved g c = (
  search rules,
  search rules,
  λ files told.
      let here = c.in_ok-lines.ensures.told files (c.loop-name.invariant.1 ∙ told) in
      let all = c.loop-name.invariant.2 files told in
      let lines_of : List ℕ → List (List ℕ) = source_at files (option_map (λ at. at.now) c.args.directory) in
      rw c.in_ok-push.ensures.ok
      (one_more lines_of c.loop-name.sources c.name-item.result c.in_ok-lines.lines (drop (c.loop-name.name-index + 1) c.args.names.now) (map lines_of c.args.names.now)
      (first_of ((cc (here, c.as_slice.ensures)), search (rules, here))) (first_of (grind (arith, common_steps, all), search (rules, all)))),
)
