use Rattle.std.proofs.Common.{List, length, ◌++◌, ◌+◌, ◌≡◌, ℕ, All, ap, sym, subst, ◌∙◌}
use Rattle.std.specs.Prelude.{IfOk}
use Rattle.std.proofs.lemmas.List.{length-append}
use Rattle.gp_clause.specs.declared.edge.Edge.{Edge}
use Rattle.gp_clause.specs.declared.kind.Kind.{Kind}
use Rattle.gp_clause.specs.Clause.{NamesBelow}
use Rattle.gp_derivation.specs.Log.{logged}
use Rattle.gp_certificate.specs.Step.{Passes, named}
use Rattle.gp_certificate.specs.declared.step.Step.{Step}
use Rattle.gp_derivation.specs.Tester.{TesterForm}
use Rattle.gp_derivation.specs.Tight.{IsTight}
use Rattle.gp_derivation.proofs.tightening.tight.Goals as goal

-- what holds of edges and kinds holds of the same under other names
carried : (P : List Edge → List Kind → Type 0) (edges edges_then : List Edge) (kinds kinds_then : List Kind) → edges ≡ edges_then → kinds ≡ kinds_then → P edges kinds → P edges_then kinds_then
carried P edges edges_then kinds kinds_then same_edges same_kinds holds =
    subst (λ (es : List Edge). P es kinds_then) same_edges (subst (λ (ks : List Kind). P edges ks) same_kinds holds)

-- a tester has the edges and kinds of its problem
edges_are : (t : TesterForm) (points : ℕ) (edges : List Edge) (lasting given : List Kind) → t ≡ record { points = points; edges = edges; lasting = lasting; kinds = lasting ++ given } → t.edges ≡ edges
edges_are t points edges lasting given is = ap (λ (t : TesterForm). t.edges) is

kinds_are : (t : TesterForm) (points : ℕ) (edges : List Edge) (lasting locals given : List Kind) → t ≡ record { points = points; edges = edges; lasting = lasting; kinds = lasting ++ given } → given ≡ locals
    → t.kinds ≡ lasting ++ locals
kinds_are t points edges lasting locals given is same = ap (λ (t : TesterForm). t.kinds) is ∙ ap (λ (ls : List Kind). lasting ++ ls) same

pub tightened_step-told-requires-clause-within : goal.tightened_step-told-requires-clause-within
tightened_step-told-requires-clause-within c =
    let count : length c.in-Ok.tester.kinds ≡ length c.args.problem.now.kinds + length c.args.query.now.locals =
    ap (λ (ks : List Kind). length ks) (kinds_are _ _ _ _ _ _ c.in-Ok.ensures c.as_slice.ensures) ∙ length-append c.args.problem.now.kinds c.args.query.now.locals in
    subst (λ (n : ℕ). All (NamesBelow n) (named (logged c.args.problem.now c.args.log.now) c.args.step.hints)) (sym count) c.requires.within

pub tightened_step-told-requires-clause-passes : goal.tightened_step-told-requires-clause-passes
tightened_step-told-requires-clause-passes c =
    carried (λ edges kinds. Passes edges kinds (named (logged c.args.problem.now c.args.log.now) c.args.step.hints) c.args.step.clause) _ _ _ _
    (sym (edges_are _ _ _ _ _ c.in-Ok.ensures)) (sym (kinds_are _ _ _ _ _ _ c.in-Ok.ensures c.as_slice.ensures)) c.requires.passes

pub returns-in-Ok-clause-hints : goal.returns-in-Ok-clause-hints
returns-in-Ok-clause-hints c = c.tightened_step-told.ensures.hints

pub returns-in-Ok-clause-some : goal.returns-in-Ok-clause-some
returns-in-Ok-clause-some c = c.tightened_step-told.ensures.some

pub returns-in-Ok-clause-passes : goal.returns-in-Ok-clause-passes
returns-in-Ok-clause-passes c =
    carried (λ edges kinds. IfOk c.tightened_step-told.result (λ (left : Step). Passes edges kinds (named (logged c.args.problem.now c.args.log.now) c.args.step.hints) left.clause)) _ _ _ _
    (edges_are _ _ _ _ _ c.in-Ok.ensures) (kinds_are _ _ _ _ _ _ c.in-Ok.ensures c.as_slice.ensures) c.tightened_step-told.ensures.passes

pub returns-in-Ok-clause-tight : goal.returns-in-Ok-clause-tight
returns-in-Ok-clause-tight c =
    carried (λ edges kinds. IfOk c.tightened_step-told.result (λ (left : Step). IsTight edges kinds (named (logged c.args.problem.now c.args.log.now) c.args.step.hints) left.clause)) _ _ _ _
    (edges_are _ _ _ _ _ c.in-Ok.ensures) (kinds_are _ _ _ _ _ _ c.in-Ok.ensures c.as_slice.ensures) c.tightened_step-told.ensures.tight
