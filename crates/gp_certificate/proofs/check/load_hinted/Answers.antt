use Rattle.std.proofs.Common.{◌≡◌, ◌≤◌, List, [], ◌∷◌, ◌++◌, length, get_or, ap, sym, ◌∙◌, subst}
use Rattle.gp_base.specs.CountLaws.{once_from_rising}
use Rattle.gp_clause.specs.declared.lit.Lit.{Lit}
use Rattle.gp_clause.specs.Clause.{NamesBelow, occurrences}
use Rattle.gp_certificate.specs.Bench.{BenchForm}
use Rattle.gp_certificate.specs.Certificate.{clauses_of}
use Rattle.gp_base.specs.ListLaws.{got_all}
use Rattle.gp_certificate.specs.LoadingLaws.{loaded_more, loaded_none}
use Rattle.gp_certificate.proofs.check.load_hinted.Goals as goal
use Rattle.gp_certificate.proofs.check.load_hinted.Goals.{in-Some+in_ok-load, in_default}

pub load-requires-clause-within : goal.load-requires-clause-within
load-requires-clause-within c =
    let numbered = c.args.base.now ++ clauses_of c.args.shared.now ++ clauses_of c.args.own.now in
    subst (λ (b : BenchForm). NamesBelow (length b.kinds) c.lits.result.now) (sym c.loop-hint.invariant)
    (subst (λ (ls : List Lit). NamesBelow (length c.args.bench.now.kinds) ls) (sym c.lits.ensures.lits)
    (got_all (NamesBelow (length c.args.bench.now.kinds)) numbered (get_or c.args.hints.now c.loop-hint.hint-index 0) c.in-Some.clause.now c.requires.within (sym c.in-Some.ensures)))

pub load-requires-clause-once : goal.load-requires-clause-once
load-requires-clause-once c = λ variable.
    subst (λ (lits : List Lit). occurrences variable lits ≤ 1) (sym c.lits.ensures.lits) (once_from_rising (λ (l : Lit). l.variable) variable c.in-Some.clause.now c.lits.ensures.rising)

pub load-requires-clause-nothing : goal.load-requires-clause-nothing
load-requires-clause-nothing c = ap (λ (b : BenchForm). b.assumed) c.loop-hint.invariant ∙ c.requires.nothing

pub loop-hint-preserved : goal.loop-hint-preserved
loop-hint-preserved c =
    elim c.match-numbered.branch [
      | in-Some+in_ok-load w ↦
          let P : List Lit → Type 0 = λ ls. w.load.new.self ≡ record c.loop-hint.bench { loaded = c.loop-hint.bench.loaded ++ ls ∷ [] } in
          rw w.bench-is
          (loaded_more c.args.bench.now c.loop-hint.bench w.load.new.self (c.args.base.now ++ clauses_of c.args.shared.now ++ clauses_of c.args.own.now) c.args.hints.now c.loop-hint.hint-index 0 w.in-Some.clause.now c.loop-hint-test.true (sym w.in-Some.ensures)
          c.loop-hint.invariant (subst P w.lits.ensures.lits w.in_ok-load.ensures.ok))
      | in_default w ↦
          rw w.bench-is
          (loaded_none c.args.bench.now c.loop-hint.bench (c.args.base.now ++ clauses_of c.args.shared.now ++ clauses_of c.args.own.now) c.args.hints.now c.loop-hint.hint-index 0 c.loop-hint-test.true (sym w.in_default.ensures) c.loop-hint.invariant)
    ]
