use Rattle.std.proofs.Common.{◌≡◌, List, length, ap, arith, sym, subst, ◌∙◌}
use Rattle.gp_clause.specs.declared.lit.Lit.{Lit}
use Rattle.gp_derivation.specs.Needed.{HasEnough, HasKept}
use Rattle.gp_derivation.proofs.Needing.{enough_at_first, kept_at_first, kept_once}
use Rattle.gp_derivation.proofs.tester.left_over.Goals as goal

pub keep_needed-requires : goal.keep_needed-requires
keep_needed-requires c =
    let bench = c.args.bench.now in
    let same : c.as_slice.result.now ≡ c.args.clause = c.as_slice.ensures.value ∙ c.into_vec-lits.ensures.lits in
    let none : length c.in_ok-kept.kept.items ≡ 0 = ap (λ (ls : List Lit). length ls) c.in_ok-kept.ensures.items in
    record {
      enough = subst (λ (ls : List Lit). HasEnough c.assume.new.self ls) (sym same) (enough_at_first bench c.assume.new.self c.args.clause c.requires.nothing c.assume.ensures c.into_vec-lits.ensures.rising c.requires.passes);
      room = omega (arith, none, c.in_ok-kept.ensures.exact, c.len.ensures, c.as_slice.ensures.len);
    }

pub returns-clause-once : goal.returns-clause-once
returns-clause-once c =
    let bench = c.args.bench.now in
    let same : c.as_slice.result.now ≡ c.args.clause = c.as_slice.ensures.value ∙ c.into_vec-lits.ensures.lits in
    let new = c.keep_needed.new.kept.items in
    kept_once bench.edges bench.kinds bench.loaded c.args.clause new c.into_vec-lits.ensures.rising
    (kept_at_first bench c.assume.new.self c.args.clause c.in_ok-kept.kept.items new c.requires.nothing c.assume.ensures c.in_ok-kept.ensures.items
    (subst (λ (ls : List Lit). HasKept c.assume.new.self ls c.in_ok-kept.kept.items new) same c.keep_needed.ensures.kept))

pub returns-clause-some : goal.returns-clause-some
returns-clause-some c =
    let same : c.as_slice.result.now ≡ c.args.clause = c.as_slice.ensures.value ∙ c.into_vec-lits.ensures.lits in
    let new = c.keep_needed.new.kept.items in
    (kept_at_first c.args.bench.now c.assume.new.self c.args.clause c.in_ok-kept.kept.items new c.requires.nothing c.assume.ensures c.in_ok-kept.ensures.items
    (subst (λ (ls : List Lit). HasKept c.assume.new.self ls c.in_ok-kept.kept.items new) same c.keep_needed.ensures.kept)).some

pub returns-clause-passes : goal.returns-clause-passes
returns-clause-passes c =
    let same : c.as_slice.result.now ≡ c.args.clause = c.as_slice.ensures.value ∙ c.into_vec-lits.ensures.lits in
    let new = c.keep_needed.new.kept.items in
    (kept_at_first c.args.bench.now c.assume.new.self c.args.clause c.in_ok-kept.kept.items new c.requires.nothing c.assume.ensures c.in_ok-kept.ensures.items
    (subst (λ (ls : List Lit). HasKept c.assume.new.self ls c.in_ok-kept.kept.items new) same c.keep_needed.ensures.kept)).passes

pub returns-clause-tight : goal.returns-clause-tight
returns-clause-tight c =
    let same : c.as_slice.result.now ≡ c.args.clause = c.as_slice.ensures.value ∙ c.into_vec-lits.ensures.lits in
    let new = c.keep_needed.new.kept.items in
    (kept_at_first c.args.bench.now c.assume.new.self c.args.clause c.in_ok-kept.kept.items new c.requires.nothing c.assume.ensures c.in_ok-kept.ensures.items
    (subst (λ (ls : List Lit). HasKept c.assume.new.self ls c.in_ok-kept.kept.items new) same c.keep_needed.ensures.kept)).needed
