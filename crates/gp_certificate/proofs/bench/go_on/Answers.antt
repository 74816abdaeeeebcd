use Rattle.std.proofs.Common.{◌<◌, ◌++◌, length, inl, sym, ◌∙◌, subst}
use Rattle.std.specs.Prelude.{MatchBool}
use Rattle.std.proofs.lemmas.List.Elements.{All-drop}
use Rattle.gp_clause.specs.declared.lit.Lit.{Lit}
use Rattle.gp_clause.specs.Clause.{NamesBelow}
use Rattle.gp_clause.specs.Lit.{negations}
use Rattle.gp_clause.specs.Walk.{HasNegativeCycle}
use Rattle.gp_difference.specs.Bounds.{edges_of}
use Rattle.gp_certificate.specs.Levels.{IsCarried}
use Rattle.gp_certificate.specs.Places.{bounds_at, KeepsAll}
use Rattle.gp_certificate.specs.Step.{LeadsToConflict}
use Rattle.gp_certificate.proofs.Propagating.{extends_more}
use Rattle.gp_certificate.proofs.Levelling.{lost_more, taken_closing, taken_clash, extend_gives, begun_taken, trail_below, tail_is}
use Rattle.gp_certificate.proofs.bench.go_on.Goals as goal

pub returns-then-lost-clause-gives : goal.returns-then-lost-clause-gives
returns-then-lost-clause-gives c = λ start once was.
    let clauses = c.args.loaded.now.clauses in
    let leads : LeadsToConflict c.args.places.now.edges c.args.kinds.now clauses (negations start) =
    subst (λ b. MatchBool b (LeadsToConflict c.args.places.now.edges c.args.kinds.now clauses (negations start)) (IsCarried c.args.kinds.now clauses (negations start) c.args.assignment.now c.args.places.now.graph)) c.if-lost.true was in
    lost_more c.args.places.now.edges c.args.kinds.now clauses start c.args.lits.now leads

pub returns-then-take-clause-gives : goal.returns-then-take-clause-gives
returns-then-take-clause-gives c = λ start once was.
    let clauses = c.args.loaded.now.clauses in
    let carried : IsCarried c.args.kinds.now clauses (negations start) c.args.assignment.now c.args.places.now.graph =
    subst (λ b. MatchBool b (LeadsToConflict c.args.places.now.edges c.args.kinds.now clauses (negations start)) (IsCarried c.args.kinds.now clauses (negations start) c.args.assignment.now c.args.places.now.graph)) c.if-lost.false was in
    taken_clash c.args.places.now.edges c.args.kinds.now clauses start c.args.lits.now c.args.assignment.now c.take.new.self once carried.closing c.take.ensures.among c.if-take.ensures.gives

pub settle-requires-clause-begun : goal.settle-requires-clause-begun
settle-requires-clause-begun c =
    begun_taken c.args.assignment.now c.take.new.self c.args.loaded.now.clauses c.take.ensures.extends c.take.ensures.cursor c.requires.exact.within (c.requires.may c.if-lost.false).begun

pub returns-then-settle-clause-extends : goal.returns-then-settle-clause-extends
returns-then-settle-clause-extends c = extends_more c.args.assignment.now c.take.new.self c.settle.new.self c.take.ensures.extends c.settle.ensures.on.extends

pub returns-then-settle-clause-gives : goal.returns-then-settle-clause-gives
returns-then-settle-clause-gives c = λ start once was.
    let clauses = c.args.loaded.now.clauses in
    let carried : IsCarried c.args.kinds.now clauses (negations start) c.args.assignment.now c.args.places.now.graph =
    subst (λ b. MatchBool b (LeadsToConflict c.args.places.now.edges c.args.kinds.now clauses (negations start)) (IsCarried c.args.kinds.now clauses (negations start) c.args.assignment.now c.args.places.now.graph)) c.if-lost.false was in
    inl (c.if-settle.ensures.gives (negations (start ++ c.args.lits.now))
    (taken_closing clauses start c.args.lits.now c.args.assignment.now c.take.new.self carried.closing c.take.ensures.extends c.take.ensures.among c.if-take.ensures.gives))

pub extend-requires-clause-within : goal.extend-requires-clause-within
extend-requires-clause-within c =
    subst (λ ls. NamesBelow (length c.args.kinds.now) ls) (sym (tail_is c.trail-from.result.now c.trail.result.now c.args.assignment.now.trail.items c.settle.new.self.trail.items c.trail-from.ensures c.trail.ensures))
    (All-drop (λ (l : Lit). l.variable < length c.args.kinds.now) (length c.args.assignment.now.trail.items) c.settle.new.self.trail.items
    (trail_below c.settle.new.self (length c.args.kinds.now) c.settle.ensures.on.extends.kept (c.settle.ensures.on.extends.size ∙ c.take.ensures.extends.size ∙ c.requires.size)))

pub returns-clause-extends : goal.returns-clause-extends
returns-clause-extends c = extends_more c.args.assignment.now c.take.new.self c.settle.new.self c.take.ensures.extends c.settle.ensures.on.extends

pub returns-clause-gives : goal.returns-clause-gives
returns-clause-gives c = λ start once was.
    let clauses = c.args.loaded.now.clauses in
    let edges = c.args.places.now.edges in
    let kinds = c.args.kinds.now in
    let old = c.args.assignment.now in
    let carried : IsCarried kinds clauses (negations start) old c.args.places.now.graph =
    subst (λ b. MatchBool b (LeadsToConflict edges kinds clauses (negations start)) (IsCarried kinds clauses (negations start) old c.args.places.now.graph)) c.if-lost.false was in
    let closing = c.settle.ensures.on.closing (negations (start ++ c.args.lits.now))
    (taken_closing clauses start c.args.lits.now old c.take.new.self carried.closing c.take.ensures.extends c.take.ensures.among c.if-take.ensures.gives) in
    let tail = tail_is c.trail-from.result.now c.trail.result.now old.trail.items c.settle.new.self.trail.items c.trail-from.ensures c.trail.ensures in
    extend_gives edges kinds clauses (negations (start ++ c.args.lits.now)) old c.settle.new.self c.args.places.now.graph c.extend.new.self.graph c.extend.result carried.bounds
    (extends_more old c.take.new.self c.settle.new.self c.take.ensures.extends c.settle.ensures.on.extends) closing c.if-settle.ensures.gives
    (subst (λ ls. MatchBool c.extend.result (HasNegativeCycle (edges ++ (edges_of c.args.places.now.graph.kept ++ bounds_at kinds ls))) (KeepsAll edges kinds ls c.args.places.now.graph c.extend.new.self.graph)) tail c.extend.ensures.gives)
