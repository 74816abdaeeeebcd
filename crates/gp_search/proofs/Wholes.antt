-- What stays whole when the solver's assignments and the graph's bounds change.
use Rattle.std.proofs.Common.{◌≡◌, sym, ap, subst, ℕ, Bool, List, length, arith}
use Rattle.gp_clause.specs.declared.problem.Problem.{Problem}
use Rattle.gp_clause.specs.declared.problem.Query.{Query}
use Rattle.gp_derivation.specs.declared.log.LogEntry.{LogEntry}
use Rattle.gp_derivation.specs.Tester.{TesterForm}
use Rattle.gp_sat.specs.Stored.{Stored}
use Rattle.gp_search.specs.declared.engine.Engine.{Engine}
use Rattle.gp_search.specs.Inside.{all_kinds, IsWhole, IsGraphOf, IsPassing, IsStored, IsKeeping, IsMarked, IsTaught, IsTesterOf, turn_from}

-- the log and its marks stay, and so do the places where the turn begins and begins to learn, and the tester
pub record HasSameLog (old new : Engine) : Type 0 where
  pub log : new.log.items ≡ old.log.items
  pub pure : new.pure.items ≡ old.pure.items
  pub begins : new.begins ≡ old.begins
  pub learned : new.learned ≡ old.learned
  pub tester : new.tester ≡ old.tester

pub whole_moved : (problem : Problem) (query : Query) (old new : Engine) → HasSameLog old new → IsWhole problem query old → new.solver.clauses ≡ old.solver.clauses
    → length new.solver.values ≡ length old.solver.values → IsGraphOf problem new.graph → IsWhole problem query new
whole_moved problem query old new same whole clauses values of_problem =
    let names : ℕ = length (all_kinds problem query) in
    let bases : ℕ = length problem.clauses in
    record {
      valid = whole.valid;
      asked = whole.asked;
      few = omega (arith, ap (λ (es : List LogEntry). length es) same.log, same.learned, whole.few);
      log = subst (λ (n : ℕ). IsPassing problem query.locals new.log.items new.begins n) (sym same.learned)
          (subst (λ (n : ℕ). IsPassing problem query.locals new.log.items n old.learned) (sym same.begins)
          (subst (λ (es : List LogEntry). IsPassing problem query.locals es old.begins old.learned) (sym same.log) whole.log));
      stored = subst (λ (cs : List Stored). IsStored problem new.begins names new.log.items cs) (sym clauses)
          (subst (λ (n : ℕ). IsStored problem n names new.log.items old.solver.clauses) (sym same.begins)
          (subst (λ (es : List LogEntry). IsStored problem old.begins names es old.solver.clauses) (sym same.log) whole.stored));
      keeping = subst (λ (cs : List Stored). IsKeeping bases new.begins (length new.log.items) new.pure.items cs) (sym clauses)
          (subst (λ (n : ℕ). IsKeeping bases n (length new.log.items) new.pure.items old.solver.clauses) (sym same.begins)
          (subst (λ (es : List LogEntry). IsKeeping bases old.begins (length es) new.pure.items old.solver.clauses) (sym same.log)
          (subst (λ (bs : List Bool). IsKeeping bases old.begins (length old.log.items) bs old.solver.clauses) (sym same.pure) whole.keeping)));
      marked = subst (λ (es : List LogEntry). IsMarked problem es new.pure.items) (sym same.log) (subst (λ (bs : List Bool). IsMarked problem old.log.items bs) (sym same.pure) whole.marked);
      graph = of_problem;
      tester = subst (λ (t : TesterForm). IsTesterOf problem t) (sym same.tester) whole.tester;
      variables = omega (arith, values, whole.variables);
    }

-- what the turn learned stays
pub taught_moved : (problem : Problem) (query : Query) (old new : Engine) → HasSameLog old new → IsTaught problem query old.log.items (turn_from old.begins old.learned (length old.log.items))
    → IsTaught problem query new.log.items (turn_from new.begins new.learned (length new.log.items))
taught_moved problem query old new same taught =
    subst (λ (n : ℕ). IsTaught problem query new.log.items (turn_from new.begins n (length new.log.items))) (sym same.learned)
    (subst (λ (n : ℕ). IsTaught problem query new.log.items (turn_from n old.learned (length new.log.items))) (sym same.begins)
    (subst (λ (es : List LogEntry). IsTaught problem query es (turn_from old.begins old.learned (length es))) (sym same.log) taught))
