use Rattle.std.proofs.Common.{◌≡◌, ℕ, ◌+◌, ◌<◌, ◌≤◌, List, [], ◌++◌, length, take, ap, sym, subst, ◌∙◌, arith}
use Rattle.std.specs.Prelude.{◌^◌, IfOk}
use Rattle.std.specs.List.{All}
use Rattle.std.proofs.Math.Seq.{take-append_seam}
use Rattle.std.proofs.lemmas.List.{length-append}
use Rattle.std.proofs.lemmas.List.Elements.{All-append}
use Rattle.gp_clause.specs.declared.edge.Edge.{Edge}
use Rattle.gp_clause.specs.declared.kind.Kind.{Kind}
use Rattle.gp_clause.specs.Problem.{IsValidKind}
use Rattle.gp_certificate.specs.Bench.{BenchForm}
use Rattle.gp_certificate.proofs.bench.Bench.new.Goals as goal

-- the kinds of a problem, before locals
fits : (count : ℕ) (kinds lasting locals : List Kind) → kinds ≡ lasting ++ locals → count ≡ length lasting → length lasting < 2 ^ 30 → length locals < 2 ^ 30
    → (length kinds < 2 ^ 31) × (count ≤ length kinds) × (count < 2 ^ 30)
fits count kinds lasting locals is first few more =
    let sum : length kinds ≡ length lasting + length locals = ap (λ (ks : List Kind). length ks) is ∙ length-append lasting locals in
    (omega (arith, sum, few, more), omega (arith, sum, first), omega (arith, first, few))

-- the form of a bench with these kinds
form_of : (m n count : ℕ) (edges more : List Edge) (kinds lasting locals : List Kind) → m ≡ n → edges ≡ more → kinds ≡ lasting ++ locals → count ≡ length lasting
    → ◌≡◌ {A = BenchForm} (record { points = m; edges = edges; lasting = take count kinds; kinds = kinds; loaded = []; assumed = [] }) (record { points = n; edges = more; lasting = lasting; kinds = lasting ++ locals; loaded = []; assumed = [] })
form_of m n count edges more kinds lasting locals points same is first =
    let front : take count kinds ≡ lasting = ap (λ n. take n kinds) first ∙ ap (λ ks. take (length lasting) ks) is ∙ take-append_seam lasting locals in
    cc

pub of_parts-requires-clause-lasting : goal.of_parts-requires-clause-lasting
of_parts-requires-clause-lasting c =
    let all = fits c.len-in-Ok.result c.in_ok-kinds.kinds.items c.args.problem.now.kinds c.args.locals.now (c.in_ok-kinds.ensures ∙ ap (λ ks. ks ++ c.args.locals.now) c.as_slice.ensures) c.len-in-Ok.ensures c.requires.valid.few_kinds c.requires.few in
    (all.1, all.2)

pub of_parts-requires-clause-few : goal.of_parts-requires-clause-few
of_parts-requires-clause-few c =
    let all = fits c.len-in-Ok.result c.in_ok-kinds.kinds.items c.args.problem.now.kinds c.args.locals.now (c.in_ok-kinds.ensures ∙ ap (λ ks. ks ++ c.args.locals.now) c.as_slice.ensures) c.len-in-Ok.ensures c.requires.valid.few_kinds c.requires.few in
    all.0

pub of_parts-requires-clause-kinds : goal.of_parts-requires-clause-kinds
of_parts-requires-clause-kinds c =
    let valid = All-append (IsValidKind c.args.problem.now.points) c.args.problem.now.kinds c.args.locals.now c.requires.valid.kinds c.requires.locals in
    let is : c.in_ok-kinds.kinds.items ≡ c.args.problem.now.kinds ++ c.args.locals.now = c.in_ok-kinds.ensures ∙ ap (λ ks. ks ++ c.args.locals.now) c.as_slice.ensures in
    subst (λ (n : ℕ). All (IsValidKind n) c.in_ok-kinds.kinds.items) (sym c.in-Ok.ensures.points) (subst (λ (ks : List Kind). All (IsValidKind c.args.problem.now.points) ks) (sym is) valid)

pub returns-in-Ok : goal.returns-in-Ok
returns-in-Ok c =
    subst (λ (form : BenchForm). IfOk c.of_parts.result (λ (bench : BenchForm). bench ≡ form))
    (form_of c.in-Ok.places.graph.points c.args.problem.now.points c.len-in-Ok.result c.in-Ok.places.edges c.args.problem.now.edges c.in_ok-kinds.kinds.items c.args.problem.now.kinds c.args.locals.now
    c.in-Ok.ensures.points c.in-Ok.ensures.edges (c.in_ok-kinds.ensures ∙ ap (λ ks. ks ++ c.args.locals.now) c.as_slice.ensures) c.len-in-Ok.ensures)
    c.of_parts.ensures
