use Rattle.std.proofs.Common.{ap, subst, sym, ◌∙◌, ◌≡◌, List}
use Rattle.std.specs.Prelude.{flat_map}
use Rattle.std.proofs.lemmas.List.{append-nil}
use Rattle.gp_window.specs.WindowForm.{WindowForm}
use Rattle.gp_constraint.specs.declared.point.Point.{Point}
use Rattle.gp_constraint.specs.declared.symbol.SymbolicLit.{SymbolicLit}
use Rattle.gp_constraint.specs.Limited.{IsAdded, with_clauses}
use Rattle.gp_constraint.specs.Listed.{kept_from}
use Rattle.gp_constraint.specs.Reads.{kept_later}
use Rattle.gp_constraint.proofs.Tabled.{later_none, later_tabled}
use Rattle.gp_constraint.proofs.reads.seen_at_start.Goals as goal

pub returns-then-not-finds_at_start : goal.returns-then-not-finds_at_start
returns-then-not-finds_at_start c =
    let missed = sym c.finds_at_start.ensures ∙ c.if-not-finds_at_start.true in
    sym (ap (with_clauses c.args.clauses.now) (later_none c.args.window.now c.args.points.now c.args.r.now missed)
    ∙ ap (λ clauses. record { before = c.args.clauses.now.before; clauses = clauses }) (append-nil c.args.clauses.now.clauses))

pub returns : goal.returns
returns c =
    let points : List Point = c.args.points.now in
    let window : WindowForm = c.args.window.now in
    let r : Point = c.args.r.now in
    let found = sym c.finds_at_start.ensures ∙ c.if-not-finds_at_start.false in
    let due : flat_map (kept_from r) c.writes_for.result.now ≡ flat_map (kept_later window r) points =
    ap (flat_map (kept_from r)) c.writes_for.ensures ∙ later_tabled window points r found in
    subst (λ (d : List (List SymbolicLit)). IsAdded c.keep_later_all.result c.args.clauses.now c.keep_later_all.new.clauses d) due c.keep_later_all.ensures
