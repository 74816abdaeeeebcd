-- The parts of what the base gives.
use Rattle.std.proofs.Common.{ℕ, ◌≡◌, ap, ◌∙◌, List, length}
use Rattle.std.specs.Prelude.{flat_map, map}
use Rattle.gp_clause.specs.declared.edge.Edge.{Edge}
use Rattle.gp_clause.specs.declared.kind.Kind.{Kind}
use Rattle.gp_clause.specs.declared.lit.Lit.{Lit}
use Rattle.gp_window.specs.WindowForm.{WindowForm}
use Rattle.gp_constraint.specs.declared.point.Point.{Point}
use Rattle.gp_constraint.specs.declared.symbol.Symbol.{Symbol}
use Rattle.gp_constraint.specs.declared.symbol.SymbolicLit.{SymbolicLit}
use Rattle.gp_constraint.specs.Base.{clauses_of, first_names, names_in}
use Rattle.gp_constraint.specs.Encoded.{IsBase, IsEncodable}
use Rattle.gp_constraint.specs.Numbering.{names_of, numbered, point_names}
use Rattle.gp_constraint.specs.Points.{points_of, sizes_of}
use Rattle.gp_constraint.specs.ProgramOrder.{edge_to}
use Rattle.gp_constraint.specs.Symbols.{kind_of}

pub encoded_is : (window : WindowForm) (points : List Point) (first final : List Symbol) (clauses : List (List SymbolicLit)) (kinds : List Kind) (edges : List Edge)
    (lists : List (List Lit)) (sizes : List ℕ)
    → points ≡ points_of window → first ≡ point_names (length points) → clauses ≡ clauses_of window → lists ≡ numbered first clauses → final ≡ names_of first clauses
    → kinds ≡ map kind_of final → edges ≡ flat_map edge_to points → sizes ≡ sizes_of window → IsEncodable window
    → IsBase window points final sizes (record { points = length points; kinds = kinds; edges = edges; clauses = lists })
encoded_is window points first final clauses kinds edges lists sizes p f c l n k e s encodable =
    let start : first ≡ first_names window = f ∙ ap (λ (ps : List Point). point_names (length ps)) p in
    let names : final ≡ names_in window =
    n ∙ ap (λ (ns : List Symbol). names_of ns clauses) start ∙ ap (names_of (first_names window)) c in
    let numbers : lists ≡ numbered (first_names window) (clauses_of window) =
    l ∙ ap (λ (ns : List Symbol). numbered ns clauses) start ∙ ap (numbered (first_names window)) c in
    let count : length points ≡ length (points_of window) = ap length p in
    let all_kinds : kinds ≡ map kind_of (names_in window) = k ∙ ap (map kind_of) names in
    let all_edges : edges ≡ flat_map edge_to (points_of window) = e ∙ ap (flat_map edge_to) p in
    record {
      points_are = p;
      names_are = names;
      sizes_are = s;
      problem_is = λ i. record { points = count i; kinds = all_kinds i; edges = all_edges i; clauses = numbers i };
      encodable = encodable;
    }
