-- The third and the fourth line were read, and then the rest.
use Rattle.std.proofs.Common.{◌≡◌, sym, ◌∙◌, ap}
use Rattle.std.specs.Prelude.{Ok, slice_get}
use Rattle.gp_window.specs.Manifest.{epochs_of, field_of, roots_of, with_roots}
use Rattle.gp_window.proofs.Heads.{with_both}
use Rattle.gp_window.proofs.manifest.with_threads.Goals as goal

pub returns : goal.returns
returns c = λ other.
    let third : field_of c.args.last epochs_of (slice_get c.args.lines.now 2) ≡ Ok c.in_ok-epochs.epochs =
    ap (field_of c.args.last epochs_of) (sym c.line_at.ensures) ∙ sym c.in_ok-epochs.ensures.due in
    let fourth : field_of c.args.last (roots_of c.args.threads) (slice_get c.args.lines.now 3) ≡ Ok c.in_ok-roots.roots =
    ap (field_of c.args.last (roots_of c.args.threads)) (sym c.line_at-2.ensures) ∙ sym (c.in_ok-roots.ensures.due (λ memory. (cc))) in
    c.with_roots.ensures other
    ∙ ap (with_roots c.args.format c.args.threads c.in_ok-epochs.epochs c.in_ok-roots.roots) c.after_head.ensures
    ∙ with_both c.args.last c.args.format c.args.threads c.in_ok-epochs.epochs c.in_ok-roots.roots c.args.lines.now third fourth
