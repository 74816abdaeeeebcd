use Rattle.std.proofs.Common.{◌≡◌, refl, sym, ◌∙◌, ap, ℕ, ◌+◌, ◌<◌, false, List, [], ◌∷◌, ◌++◌, length, get_or, take, arith}
use Rattle.std.proofs.lemmas.List.{take_more, take_all}
use Rattle.gp_clause.specs.declared.lit.Lit.{Lit}
use Rattle.gp_queue.specs.Order.{moved_to_front}
use Rattle.gp_sat.specs.State.{SolverForm}
use Rattle.gp_search.specs.Moves.{raised}
use Rattle.gp_search.proofs.learning.raise_all.Goals as goal

-- the literal that stands for none
abbrev no_lit : Lit
no_lit = record { variable = 0; positive = false }

-- the last of the literals is raised last
raised_push : (lits : List Lit) (lit : Lit) (order : List ℕ) → raised (lits ++ lit ∷ []) order ≡ moved_to_front lit.variable (raised lits order)
raised_push [] lit order = refl
raised_push (x ∷ lits) lit order = raised_push lits lit (moved_to_front x.variable order)

one_more : (old now next : SolverForm) (lits : List Lit) (i : ℕ) (d : Lit) → i < length lits → now ≡ record old { order = raised (take i lits) old.order }
    → next ≡ record now { order = moved_to_front (get_or lits i d).variable now.order } → next ≡ record old { order = raised (take (i + 1) lits) old.order }
one_more old now next lits i d within first second =
    let longer : raised (take (i + 1) lits) old.order ≡ moved_to_front (get_or lits i d).variable (raised (take i lits) old.order) =
    ap (λ (ls : List Lit). raised ls old.order) (take_more lits i d within) ∙ raised_push (take i lits) (get_or lits i d) old.order in
    second ∙ ((λ j. record (first j) { order = moved_to_front (get_or lits i d).variable (first j).order }) ∙ (λ j. record old { order = (sym longer) j }))

pub raise-requires : goal.raise-requires
raise-requires c =
    let same : length c.loop-lit.solver.values ≡ length c.args.solver.now.values = ap (λ (s : SolverForm). length s.values) c.loop-lit.invariant.raised in
    omega (arith, same, c.requires.named c.loop-lit.lit-index no_lit c.loop-lit-test.true)

pub loop-lit-preserved : goal.loop-lit-preserved
loop-lit-preserved c = record {
  sound = c.raise.ensures.sound;
  raised = one_more c.args.solver.now c.loop-lit.solver c.raise.new.self c.args.lits.now c.loop-lit.lit-index no_lit c.loop-lit-test.true c.loop-lit.invariant.raised c.raise.ensures.raised;
}

pub returns-clause-raised : goal.returns-clause-raised
returns-clause-raised c =
    c.loop-lit.invariant.raised ∙ (λ j. record c.args.solver.now { order = raised (take_all c.loop-lit.lit-index c.args.lits.now c.loop-lit-test.false j) c.args.solver.now.order })
