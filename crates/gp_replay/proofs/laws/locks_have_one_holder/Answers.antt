use Rattle.std.proofs.Common.{ℕ, ◌≡◌, sym, ◌∙◌}
use Rattle.std.specs.Prelude.{Option, Some}
use Rattle.gp_replay.specs.Step.{start_state}
use Rattle.gp_replay.specs.HolderLaws.{holds_is_holder}
use Rattle.gp_replay.proofs.laws.locks_have_one_holder.Goals as goal

pub returns : goal.returns
returns c = λ window ids r lock one other first second.
    let is_one = holds_is_holder window (start_state window) r.0 ids lock one r.1 first in
    let is_other = holds_is_holder window (start_state window) r.0 ids lock other r.1 second in
    let same : ◌≡◌ {A = Option ℕ} (Some one) (Some other) = sym is_one ∙ is_other in
    cc
