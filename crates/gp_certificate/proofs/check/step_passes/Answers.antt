use Rattle.std.proofs.Common.{◌≡◌, ℕ, ◌+◌, ◌<◌, ◌==◌, ◌++◌, ◌↔◌, false, IsTrue, List, length, All, sym, subst, ◌∙◌}
use Rattle.std.proofs.lemmas.Result.{IfOk-weaker}
use Rattle.gp_clause.specs.declared.lit.Lit.{Lit}
use Rattle.gp_clause.specs.Clause.{NamesOnce}
use Rattle.gp_base.specs.CountLaws.{once_from_rising}
use Rattle.gp_certificate.specs.Certificate.{clauses_of, StepPasses}
use Rattle.gp_certificate.specs.Step.{Passes, named}
use Rattle.gp_certificate.proofs.Owning.{cleared_same, numbered_count, step_by_hints}
use Rattle.gp_certificate.proofs.check.step_passes.Goals as goal

pub passes-requires-clause-once : goal.passes-requires-clause-once
passes-requires-clause-once c =
    let P : List Lit → Type 0 = λ lits. NamesOnce lits in
    subst P (sym c.lits-lits.ensures.lits) (λ variable. once_from_rising (λ (l : Lit). l.variable) variable c.args.step.now.clause c.lits-lits.ensures.rising)

pub passes_hinted-outcome-requires-clause-once : goal.passes_hinted-outcome-requires-clause-once
passes_hinted-outcome-requires-clause-once c =
    let P : List Lit → Type 0 = λ lits. NamesOnce lits in
    subst P (sym c.lits-lits.ensures.lits) (λ variable. once_from_rising (λ (l : Lit). l.variable) variable c.args.step.now.clause c.lits-lits.ensures.rising)

pub returns-clause-passes : goal.returns-clause-passes
returns-clause-passes c =
    let edges = c.args.hinted.now.edges in
    let kinds = c.args.hinted.now.kinds in
    let numbered = c.args.base.now ++ clauses_of c.args.shared.now ++ clauses_of c.args.own.now in
    let hints = c.as_slice-hints.result.now in
    let count : length numbered ≡ length c.args.base.now + length c.args.shared.now + length c.args.own.now = numbered_count c.args.base.now c.args.shared.now c.args.own.now in
    let N : ℕ → Type 0 = λ n. All (λ hint. hint < n) hints in
    let M : List ℕ → Type 0 = λ hs. All (λ hint. hint < length numbered) hs in
    let E : List ℕ → Type 0 = λ hs. (length hs == 0) ≡ false in
    IfOk-weaker c.passes_hinted-outcome.result (λ told. IsTrue told ↔ Passes edges kinds (named numbered hints) c.lits-lits.result.now)
    (λ told. IsTrue told ↔ StepPasses edges kinds numbered (c.args.base.now ++ clauses_of c.args.own.now) c.args.step.now)
    (λ told passes.
    let L : List Lit → Type 0 = λ lits. IsTrue told ↔ Passes edges kinds (named numbered hints) lits in
    let H : List ℕ → Type 0 = λ hs. IsTrue told ↔ Passes edges kinds (named numbered hs) c.args.step.now.clause in
    step_by_hints edges kinds numbered (c.args.base.now ++ clauses_of c.args.own.now) c.args.step.now told (subst M c.as_slice-hints.ensures (subst N (sym count) (c.are_below.ensures.0 c.if-not-are_below.false)))
    (subst E c.as_slice-hints.ensures (sym c.is_empty.ensures ∙ c.if-is_empty.false)) (subst H c.as_slice-hints.ensures (subst L c.lits-lits.ensures.lits passes)))
    c.passes_hinted-outcome.ensures.passes

pub returns-clause-same : goal.returns-clause-same
returns-clause-same c =
    cleared_same c.args.hinted.now c.passes_hinted-outcome.new.bench c.clear.new.self c.requires.empty c.passes_hinted-outcome.ensures.same c.clear.ensures
