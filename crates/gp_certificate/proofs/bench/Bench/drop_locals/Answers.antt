use Rattle.std.proofs.Common.{ap, sym, ◌∙◌, subst, length}
use Rattle.std.specs.List.{All}
use Rattle.gp_clause.specs.Clause.{NamesBelow}
use Rattle.gp_certificate.specs.Bench.{BenchForm, stack_of}
use Rattle.gp_certificate.proofs.Levelling.{stack_none}
use Rattle.gp_certificate.proofs.Readying.{ready_dropped}
use Rattle.gp_certificate.proofs.bench.Bench.drop_locals.Goals as goal

pub resize-requires-clause-none : goal.resize-requires-clause-none
resize-requires-clause-none c =
    let b = c.self.inside in
    (stack_none b.places.edges b.kinds.items b.loaded.clauses (stack_of b) c.self.invariant.stack (ap (λ (v : BenchForm). v.assumed) c.self.view_is ∙ c.requires.nothing)).trail

pub invariant_of-self : goal.invariant_of-self
invariant_of-self c =
    ready_dropped c.self.inside c.truncate.new.self c.resize.new.self c.self.invariant (ap (λ (v : BenchForm). v.assumed) c.self.view_is ∙ c.requires.nothing) c.truncate.ensures.items
    (subst (λ (v : BenchForm). All (NamesBelow (length v.lasting)) v.loaded) (sym c.self.view_is) c.requires.loaded) c.resize.ensures.kept c.resize.ensures.none c.resize.ensures.cursor c.resize.ensures.size
