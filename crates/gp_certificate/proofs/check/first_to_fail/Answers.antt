use Rattle.std.proofs.Common.{◌≤◌, ◌++◌, ◌↔◌, IsTrue, List, length, take, All, ap, sym, ◌∙◌, subst}
use Rattle.gp_clause.specs.declared.lit.Lit.{Lit}
use Rattle.gp_base.specs.CountLaws.{once_from_rising}
use Rattle.std.proofs.lemmas.Bool.{false≢true}
use Rattle.gp_clause.specs.Clause.{NamesBelow, occurrences}
use Rattle.gp_certificate.specs.Certificate.{clauses_of, StepPasses}
use Rattle.gp_certificate.specs.Bench.{BenchForm}
use Rattle.gp_certificate.proofs.Owning.{loaded_after, numbered_within, passed_more, passed_all, fails_next, all_more}
use Rattle.gp_certificate.proofs.check.first_to_fail.Goals as goal

pub step_passes-requires-clause-nothing : goal.step_passes-requires-clause-nothing
step_passes-requires-clause-nothing c = ap (λ (b : BenchForm). b.assumed) c.loop-place.invariant.0 ∙ c.requires.nothing

pub load-requires-clause-once : goal.load-requires-clause-once
load-requires-clause-once c = λ variable.
    subst (λ (lits : List Lit). occurrences variable lits ≤ 1) (sym c.lits.ensures.lits) (once_from_rising (λ (l : Lit). l.variable) variable c.index-own-place.result.clause c.lits.ensures.rising)

pub load-requires-clause-nothing : goal.load-requires-clause-nothing
load-requires-clause-nothing c = ap (λ (b : BenchForm). b.assumed) (c.in_ok-step_passes.ensures.all ∙ c.loop-place.invariant.1) ∙ c.requires.nothing

pub step_passes-requires-clause-within : goal.step_passes-requires-clause-within
step_passes-requires-clause-within c =
    let shared = clauses_of c.args.shared.now in
    let done = take c.loop-place.place c.args.own.now in
    let P : BenchForm → Type 0 = λ t. All (NamesBelow (length t.kinds)) (c.args.base.now ++ shared ++ clauses_of done) in
    subst P (sym c.loop-place.invariant.0) (numbered_within c.args.hinted.now.edges c.args.hinted.now.kinds c.args.base.now shared done c.requires.base c.requires.shared c.loop-place.invariant.2)

pub returns-then-not-branch-clause-first : goal.returns-then-not-branch-clause-first
returns-then-not-branch-clause-first c =
    let shared = clauses_of c.args.shared.now in
    let done = clauses_of (take c.loop-place.place c.args.own.now) in
    let P : BenchForm → Type 0 = λ t. IsTrue c.in_ok-step_passes.field-0 ↔ StepPasses t.edges t.kinds (c.args.base.now ++ shared ++ done) (c.args.base.now ++ done) c.index-own-place.result in
    let told : P c.args.hinted.now = subst P c.loop-place.invariant.0 c.in_ok-step_passes.ensures.passes in
    record {
      before = c.loop-place.invariant.2;
      within = c.loop-place-test.true;
      fails =
          fails_next c.args.hinted.now.edges c.args.hinted.now.kinds c.args.base.now shared c.args.own.now c.loop-place.place c.index-own-place.result c.loop-place-test.true c.index-own-place.is
          (λ passes. false≢true (sym c.if-not-branch.true ∙ told.1 passes));
    }

pub loop-place-preserved : goal.loop-place-preserved
loop-place-preserved c =
    let shared = clauses_of c.args.shared.now in
    let done = clauses_of (take c.loop-place.place c.args.own.now) in
    let P : BenchForm → Type 0 = λ t. IsTrue c.in_ok-step_passes.field-0 ↔ StepPasses t.edges t.kinds (c.args.base.now ++ shared ++ done) (c.args.base.now ++ done) c.index-own-place.result in
    let told : P c.args.hinted.now = subst P c.loop-place.invariant.0 c.in_ok-step_passes.ensures.passes in (
      c.in_ok-step_passes.ensures.same ∙ c.loop-place.invariant.0,
      all_more c.args.hinted.now c.step_passes.new.all c.load.new.self c.args.base.now c.args.own.now c.loop-place.place c.index-own-place.result c.lits.result.now c.loop-place-test.true c.index-own-place.is
          c.lits.ensures.lits (c.in_ok-step_passes.ensures.all ∙ c.loop-place.invariant.1) c.in_ok-load.ensures.ok,
      passed_more c.args.hinted.now.edges c.args.hinted.now.kinds c.args.base.now shared c.args.own.now c.loop-place.place c.index-own-place.result c.loop-place-test.true c.index-own-place.is
          (told.0 c.if-not-branch.false) c.loop-place.invariant.2,
    )

pub returns-clause-first : goal.returns-clause-first
returns-clause-first c =
    passed_all c.args.hinted.now.edges c.args.hinted.now.kinds c.args.base.now (clauses_of c.args.shared.now) c.args.own.now c.loop-place.place c.loop-place-test.false c.loop-place.invariant.2

pub returns-in_err-step_passes-clause-same : goal.returns-in_err-step_passes-clause-same
returns-in_err-step_passes-clause-same c = c.in_err-step_passes.ensures.same ∙ c.loop-place.invariant.0

pub returns-in_err-step_passes-clause-all : goal.returns-in_err-step_passes-clause-all
returns-in_err-step_passes-clause-all c =
    loaded_after c.args.hinted.now c.args.all.now c.step_passes.new.all c.args.base.now (clauses_of (take c.loop-place.place c.args.own.now)) c.requires.all (c.in_err-step_passes.ensures.all ∙ c.loop-place.invariant.1)

pub returns-then-not-branch-clause-same : goal.returns-then-not-branch-clause-same
returns-then-not-branch-clause-same c = c.in_ok-step_passes.ensures.same ∙ c.loop-place.invariant.0

pub returns-then-not-branch-clause-all : goal.returns-then-not-branch-clause-all
returns-then-not-branch-clause-all c =
    loaded_after c.args.hinted.now c.args.all.now c.step_passes.new.all c.args.base.now (clauses_of (take c.loop-place.place c.args.own.now)) c.requires.all (c.in_ok-step_passes.ensures.all ∙ c.loop-place.invariant.1)

pub returns-in_err-load-clause-same : goal.returns-in_err-load-clause-same
returns-in_err-load-clause-same c = c.in_ok-step_passes.ensures.same ∙ c.loop-place.invariant.0

pub returns-in_err-load-clause-all : goal.returns-in_err-load-clause-all
returns-in_err-load-clause-all c =
    loaded_after c.args.hinted.now c.args.all.now c.load.new.self c.args.base.now (clauses_of (take c.loop-place.place c.args.own.now)) c.requires.all (c.in_err-load.ensures.err ∙ c.in_ok-step_passes.ensures.all ∙ c.loop-place.invariant.1)

pub returns-clause-same : goal.returns-clause-same
returns-clause-same c = c.loop-place.invariant.0

pub returns-clause-all : goal.returns-clause-all
returns-clause-all c =
    loaded_after c.args.hinted.now c.args.all.now c.loop-place.all c.args.base.now (clauses_of (take c.loop-place.place c.args.own.now)) c.requires.all (c.loop-place.invariant.1)
