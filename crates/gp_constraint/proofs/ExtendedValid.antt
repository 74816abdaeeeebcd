-- The problem of a window with further clauses is valid, where these are short and of valid kinds.
use Rattle.std.proofs.Common.{ℕ, ◌≤◌, ◌+◌, ◌*◌, sym, subst, List, [], ◌∷◌, ◌++◌, Bool, true, false, arith, length, length-append, map, All}
use Rattle.std.specs.Prelude.{if◌then◌else◌}
use Rattle.std.specs.List.{AllByRecursion, list_any}
use Rattle.std.proofs.lemmas.List.{length-map}
use Rattle.std.proofs.lemmas.List.Elements.{All-from_recursion}
use Rattle.gp_clause.specs.Clause.{NamesBelow}
use Rattle.gp_clause.specs.Problem.{IsValidKind, IsValidProblem}
use Rattle.gp_window.specs.WindowForm.{WindowForm}
use Rattle.gp_constraint.specs.declared.symbol.Symbol.{Symbol}
use Rattle.gp_constraint.specs.declared.symbol.SymbolicLit.{SymbolicLit}
use Rattle.gp_constraint.specs.Base.{clauses_of, first_names, names_in}
use Rattle.gp_constraint.specs.Extended.{AreFit, base_with, names_with}
use Rattle.gp_base.specs.ListLaws.{recursion_append, recursion_at, recursion_from_each, recursion_map}
use Rattle.gp_constraint.specs.Numbering.{names_after, names_of, numbered, with_mention}
use Rattle.gp_constraint.specs.Points.{points_of}
use Rattle.gp_constraint.specs.Symbols.{kind_of, symbol_eq}
use Rattle.gp_constraint.proofs.Good.{IsValidSymbol, valid_kind}
use Rattle.gp_constraint.proofs.Names.{grows_none, of_grows}
use Rattle.gp_constraint.proofs.Valid.{base_valid, clauses_below, few_after, few_names, names_valid}
use Rattle.gp_constraint.specs.EncodedLaws.{numbered_size}

abbrev AreKinds : ℕ → List Symbol → Type 0
AreKinds n names = AllByRecursion (λ s. IsValidKind n (kind_of s)) names

kinds_if : (n : ℕ) (b : Bool) (names more : List Symbol) → AreKinds n names → AreKinds n more → AreKinds n (if b then names else more)
kinds_if n true names more h k = h
kinds_if n false names more h k = k

kinds_after : (n : ℕ) (names : List Symbol) (lits : List SymbolicLit) → AreKinds n names
    → AllByRecursion (λ (lit : SymbolicLit). IsValidKind n (kind_of lit.symbol)) lits → AreKinds n (names_after names lits)
kinds_after n names [] h k = h
kinds_after n names (lit ∷ lits) h k =
    kinds_after n (with_mention names lit.symbol) lits
    (kinds_if n (list_any (symbol_eq lit.symbol) names) names (names ++ lit.symbol ∷ []) h (recursion_append (λ s. IsValidKind n (kind_of s)) names (lit.symbol ∷ []) h (k.0, tt))) k.1

kinds_of_all : (n : ℕ) (names : List Symbol) (clauses : List (List SymbolicLit)) → AreKinds n names → AreFit n clauses → AreKinds n (names_of names clauses)
kinds_of_all n names [] h fit = h
kinds_of_all n names (clause ∷ clauses) h fit = kinds_of_all n (names_after names clause) clauses (kinds_after n names clause h fit.0.1) fit.1

few_fit : (n : ℕ) (names : List Symbol) (clauses : List (List SymbolicLit)) → AreFit n clauses → length (names_of names clauses) ≤ length names + 2052 * length clauses
few_fit n names [] fit = omega arith
few_fit n names (clause ∷ clauses) fit =
    let one = few_after names clause in
    let short = fit.0.0 in
    let rest = few_fit n (names_after names clause) clauses fit.1 in
    omega (arith, one, short, rest)

pub extended_valid : (window : WindowForm) (more : List (List SymbolicLit)) → length (points_of window) ≤ 2048
    → length (clauses_of window) + length more ≤ 500000 → AreFit (length (points_of window)) more → IsValidProblem (base_with window more)
extended_valid window more few limit fit =
    let n : ℕ = length (points_of window) in
    let start : List Symbol = first_names window in
    let names : List Symbol = names_in window in
    let final : List Symbol = names_with window more in
    let base = base_valid window few (omega (arith, limit)) in
    let first = few_names window few in
    let later = few_fit n names more fit in
    let kinds = length-map final kind_of in
    let own = numbered_size start (clauses_of window) in
    let further = numbered_size names more in
    let joined = length-append (numbered start (clauses_of window)) (numbered names more) in
    let all_names : AreKinds n final =
    kinds_of_all n names more (recursion_from_each (λ s. IsValidKind n (kind_of s)) names (λ s i. valid_kind n s (recursion_at (IsValidSymbol n) names s (names_valid window few) i))) fit in
    record {
      few_points = base.few_points;
      few_kinds = omega (arith, first, later, limit, kinds);
      few_clauses = omega (arith, own, further, joined, limit);
      kinds = All-from_recursion (IsValidKind n) (map kind_of final) (recursion_map (IsValidKind n) kind_of final (λ s i. recursion_at (λ z. IsValidKind n (kind_of z)) final s all_names i));
      edges = base.edges;
      clauses = subst (λ (k : ℕ). All (NamesBelow k) (numbered start (clauses_of window) ++ numbered names more)) (sym kinds)
          (All-from_recursion (NamesBelow (length final)) (numbered start (clauses_of window) ++ numbered names more)
          (recursion_append (NamesBelow (length final)) (numbered start (clauses_of window)) (numbered names more)
          (clauses_below final start (clauses_of window) (of_grows names more)) (clauses_below final names more (grows_none final))));
    }
