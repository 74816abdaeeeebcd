use Rattle.std.proofs.Common.{◌≡◌, refl, ◌∙◌, ap, ◌+◌, ◌++◌, List, length, All, subst, sym, arith}
use Rattle.std.proofs.lemmas.List.{length-append}
use Rattle.gp_clause.specs.declared.kind.Kind.{Kind}
use Rattle.gp_clause.specs.declared.problem.Problem.{Problem}
use Rattle.gp_clause.specs.Problem.{IsValidKind}
use Rattle.gp_derivation.specs.Tester.{TesterForm}
use Rattle.gp_difference.specs.Graph.{GraphForm}
use Rattle.gp_sat.specs.State.{SolverForm}
use Rattle.gp_search.specs.Inside.{all_kinds, IsGraphOf, IsTesterOf}
use Rattle.gp_search.specs.Moves.{IsRoomy}
use Rattle.gp_search.proofs.Turns.{begun_whole, begun_taking, used_roomy, blank_free}
use Rattle.gp_search.proofs.engine.Engine.begin.Goals as goal

-- a tester with other locals is of the same problem
relocated : (problem : Problem) (old new : TesterForm) (kinds : List Kind) → new ≡ record old { kinds = kinds } → IsTesterOf problem old → IsTesterOf problem new
relocated problem old new kinds same of = record {
  points = ap (λ (t : TesterForm). t.points) same ∙ of.points;
  edges = ap (λ (t : TesterForm). t.edges) same ∙ of.edges;
  lasting = ap (λ (t : TesterForm). t.lasting) same ∙ of.lasting;
}

-- a graph that has more room is of the same problem
roomier : (problem : Problem) (old new : GraphForm) → new ≡ record old { room = new.room } → IsGraphOf problem old → IsGraphOf problem new
roomier problem old new same of = record { points = ap (λ (g : GraphForm). g.points) same ∙ of.points; edges = ap (λ (g : GraphForm). g.edges) same ∙ of.edges }

pub set_locals-requires-clause-locals : goal.set_locals-requires-clause-locals
set_locals-requires-clause-locals c =
    let P : List Kind → Type 0 = λ kinds. All (IsValidKind c.args.self.now.tester.points) kinds in
    subst P (sym c.as_slice.ensures) (subst (λ (n : _). All (IsValidKind n) c.args.asked.now.query.now.locals) (sym c.requires.idle.tester.points) c.requires.valid.locals)

pub returns-in_err-set_locals-clause-whole : goal.returns-in_err-set_locals-clause-whole
returns-in_err-set_locals-clause-whole c =
    let at_end : c.len-self.result ≡ length c.args.self.now.log.items = omega (arith, c.len-self.ensures) in
    begun_whole c.args.asked.now.problem.now c.args.asked.now.query.now c.args.self.now _ c.log_grows.ensures c.requires.idle c.requires.valid c.requires.few (record {
      log = refl;
      pure = refl;
      begins = at_end;
      learned = at_end;
      clauses = refl;
      values = omega arith;
      graph = c.requires.idle.graph;
      tester = relocated c.args.asked.now.problem.now c.args.self.now.tester c.set_locals.new.self _ c.in_err-set_locals.ensures.err c.requires.idle.tester;
    })

pub returns-in_err-grow-clause-whole : goal.returns-in_err-grow-clause-whole
returns-in_err-grow-clause-whole c =
    let at_end : c.len-self.result ≡ length c.args.self.now.log.items = omega (arith, c.len-self.ensures) in
    begun_whole c.args.asked.now.problem.now c.args.asked.now.query.now c.args.self.now _ c.log_grows.ensures c.requires.idle c.requires.valid c.requires.few (record {
      log = refl;
      pure = refl;
      begins = at_end;
      learned = at_end;
      clauses = ap (λ (s : SolverForm). s.clauses) c.in_err-grow.ensures.err;
      values = omega (arith, ap (λ (s : SolverForm). length s.values) c.in_err-grow.ensures.err);
      graph = c.requires.idle.graph;
      tester = relocated c.args.asked.now.problem.now c.args.self.now.tester c.set_locals.new.self _ c.in_ok-set_locals.ensures.ok c.requires.idle.tester;
    })

pub returns-in_err-reserve-clause-whole : goal.returns-in_err-reserve-clause-whole
returns-in_err-reserve-clause-whole c =
    let at_end : c.len-self.result ≡ length c.args.self.now.log.items = omega (arith, c.len-self.ensures) in
    let room : IsRoomy c.args.self.now.solver c.set_used.new.self (c.len.result + c.len-2.result) = used_roomy c.args.self.now.solver c.grow.new.solver c.set_used.new.self (c.len.result + c.len-2.result) (c.len.result + c.len-2.result) c.in_ok-grow.ensures.ok c.set_used.ensures.used in
    begun_whole c.args.asked.now.problem.now c.args.asked.now.query.now c.args.self.now _ c.log_grows.ensures c.requires.idle c.requires.valid c.requires.few (record {
      log = refl;
      pure = refl;
      begins = at_end;
      learned = at_end;
      clauses = room.clauses;
      values = room.more;
      graph = record { points = ap (λ (g : GraphForm). g.points) c.in_err-reserve.ensures.err ∙ c.requires.idle.graph.points; edges = ap (λ (g : GraphForm). g.edges) c.in_err-reserve.ensures.err ∙ c.requires.idle.graph.edges };
      tester = relocated c.args.asked.now.problem.now c.args.self.now.tester c.set_locals.new.self _ c.in_ok-set_locals.ensures.ok c.requires.idle.tester;
    })

pub returns-clause-whole : goal.returns-clause-whole
returns-clause-whole c =
    let at_end : c.len-self.result ≡ length c.args.self.now.log.items = omega (arith, c.len-self.ensures) in
    let room : IsRoomy c.args.self.now.solver c.set_used.new.self (c.len.result + c.len-2.result) = used_roomy c.args.self.now.solver c.grow.new.solver c.set_used.new.self (c.len.result + c.len-2.result) (c.len.result + c.len-2.result) c.in_ok-grow.ensures.ok c.set_used.ensures.used in
    begun_whole c.args.asked.now.problem.now c.args.asked.now.query.now c.args.self.now _ c.log_grows.ensures c.requires.idle c.requires.valid c.requires.few (record {
      log = refl;
      pure = refl;
      begins = at_end;
      learned = at_end;
      clauses = room.clauses;
      values = room.more;
      graph = roomier c.args.asked.now.problem.now c.args.self.now.graph c.reserve.new.self c.in_ok-reserve.ensures.ok c.requires.idle.graph;
      tester = relocated c.args.asked.now.problem.now c.args.self.now.tester c.set_locals.new.self _ c.in_ok-set_locals.ensures.ok c.requires.idle.tester;
    })

pub returns-clause-taking : goal.returns-clause-taking
returns-clause-taking c =
    let at_end : c.len-self.result ≡ length c.args.self.now.log.items = omega (arith, c.len-self.ensures) in
    let room : IsRoomy c.args.self.now.solver c.set_used.new.self (c.len.result + c.len-2.result) = used_roomy c.args.self.now.solver c.grow.new.solver c.set_used.new.self (c.len.result + c.len-2.result) (c.len.result + c.len-2.result) c.in_ok-grow.ensures.ok c.set_used.ensures.used in
    let sum : c.len.result + c.len-2.result ≡ length (all_kinds c.args.asked.now.problem.now c.args.asked.now.query.now) = omega (arith, c.len.ensures, c.len-2.ensures, length-append c.args.asked.now.problem.now.kinds c.args.asked.now.query.now.locals) in
    begun_taking c.args.asked.now.problem.now c.args.asked.now.query.now _ (returns-clause-whole c) c.set_used.ensures.sound
    (λ v. room.values v ∙ blank_free c.args.self.now.solver c.requires.idle.blank v) (room.trail ∙ c.requires.idle.blank.trail) (room.level ∙ c.requires.idle.blank.level)
    (ap (λ (g : GraphForm). g.kept) c.in_ok-reserve.ensures.ok ∙ c.requires.idle.kept) (omega (arith, c.in_ok-reserve.ensures.room, c.variables.ensures))
    (omega (arith, room.room, sum)) (ap (λ (s : SolverForm). s.used) c.set_used.ensures.used ∙ sum) refl refl refl c.clear.ensures.items
    (ap (λ (t : TesterForm). t.kinds) c.in_ok-set_locals.ensures.ok ∙ (λ i. c.requires.idle.tester.lasting i ++ c.as_slice.ensures i)) at_end
