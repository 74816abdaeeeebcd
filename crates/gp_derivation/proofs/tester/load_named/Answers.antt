use Rattle.std.proofs.Common.{◌≡◌, List, ◌∷◌, ◌++◌, [], length, sym, subst}
use Rattle.gp_base.specs.CountLaws.{once_from_rising}
use Rattle.gp_clause.specs.declared.lit.Lit.{Lit}
use Rattle.gp_clause.specs.Clause.{IsRising, NamesBelow}
use Rattle.gp_certificate.specs.Bench.{BenchForm}
use Rattle.gp_derivation.specs.Log.{logged}
use Rattle.gp_certificate.specs.LoadingLaws.{loaded_more, loaded_none, named_one}
use Rattle.gp_derivation.proofs.tester.load_named.Goals as goal
use Rattle.gp_derivation.proofs.tester.load_named.Goals.{in-Some+in_ok-load, in_default}

pub load-requires : goal.load-requires
load-requires c =
    let P : BenchForm → Type 0 = λ b. NamesBelow (length b.kinds) c.lits.result.now in
    let Q : List Lit → Type 0 = λ ls. NamesBelow (length c.args.bench.now.kinds) ls in
    let R : BenchForm → Type 0 = λ b. b.assumed ≡ [] in
    let rising = subst IsRising (sym c.lits.ensures.lits) c.lits.ensures.rising in
    record {
      within = subst P (sym c.loop-hint.invariant) (subst Q (sym c.lits.ensures.lits)
          (named_one (NamesBelow (length c.args.bench.now.kinds)) (logged c.args.problem.now c.args.log.now) c.args.hints.now c.loop-hint.hint-index 0 c.in-Some.clause.now c.loop-hint-test.true (sym c.in-Some.ensures) c.requires.within));
      once = λ variable. once_from_rising (λ (lit : Lit). lit.variable) variable c.lits.result.now rising;
      nothing = subst R (sym c.loop-hint.invariant) c.requires.nothing;
    }

pub loop-hint-preserved : goal.loop-hint-preserved
loop-hint-preserved c =
    elim c.match-numbered.branch [
      | in-Some+in_ok-load w ↦
          let P : List Lit → Type 0 = λ ls. w.load.new.self ≡ record c.loop-hint.bench { loaded = c.loop-hint.bench.loaded ++ ls ∷ [] } in
          rw w.bench-is
          (loaded_more c.args.bench.now c.loop-hint.bench w.load.new.self (logged c.args.problem.now c.args.log.now) c.args.hints.now c.loop-hint.hint-index 0 w.in-Some.clause.now c.loop-hint-test.true (sym w.in-Some.ensures)
          c.loop-hint.invariant (subst P w.lits.ensures.lits w.in_ok-load.ensures.ok))
      | in_default w ↦
          rw w.bench-is
          (loaded_none c.args.bench.now c.loop-hint.bench (logged c.args.problem.now c.args.log.now) c.args.hints.now c.loop-hint.hint-index 0 c.loop-hint-test.true (sym w.in_default.ensures) c.loop-hint.invariant)
    ]
