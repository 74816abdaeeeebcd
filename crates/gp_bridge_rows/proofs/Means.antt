-- What it means that an event is to be executed.
use Rattle.std.proofs.Common.{ℕ, ◌≡◌, ◌<◌, ◌≤◌, ◌+◌, sym, ◌∙◌, refl, subst, List, [], ◌∷◌, ◌++◌, Bool, true, false, append-nil, arith, length}
use Rattle.std.specs.Prelude.{ℤ}
use Rattle.std.proofs.lemmas.List.Elements.{All-from_recursion}
use Rattle.gp_clause.specs.declared.kind.Kind.{Kind}
use Rattle.gp_clause.specs.declared.lit.Lit.{Lit}
use Rattle.gp_clause.specs.declared.valuation.Valuation.{Valuation}
use Rattle.gp_clause.specs.Lit.{HoldsLit}
use Rattle.gp_clause.specs.Problem.{IsValidKind, IsValidQuery}
use Rattle.gp_clause.specs.Valuation.{IsValuation, Meets, truth_of, ValuationsMeet}
use Rattle.gp_window.specs.declared.schedule.EventId.{EventId}
use Rattle.gp_window.specs.WindowForm.{WindowForm}
use Rattle.gp_constraint.specs.declared.point.Point.{Point}
use Rattle.gp_constraint.specs.declared.symbol.Symbol.{Symbol}
use Rattle.gp_constraint.specs.declared.symbol.Symbol.TheVariants.{Executed, Last}
use Rattle.gp_constraint.specs.Action.{action_of}
use Rattle.gp_constraint.specs.Base.{clauses_of}
use Rattle.gp_constraint.specs.ClauseLaws.{both, clause_means, each_holds, last_one, skip, when}
use Rattle.gp_constraint.specs.Extended.{base_with, ExtensionsMean, IsMeaning, names_with, nothing_asked}
use Rattle.gp_constraint.specs.PointLaws.{event_below, IsEventOf, points_named}
use Rattle.gp_constraint.specs.Points.{number_in, points_of}
use Rattle.gp_constraint.specs.SymbolTruth.{HoldAll, read_by, SymbolTruth}
use Rattle.gp_constraint.specs.Terms.{executed, literal, simplified}
use Rattle.gp_constraint.specs.Truths.{variable_true}
use Rattle.gp_bridge_rows.specs.Happens.{happens_at, happens_in, is_event}
use Rattle.gp_bridge_rows.specs.HappensLaws.{HappensMeans}
use Rattle.gp_bridge_rows.proofs.Clauses.{event_itself, fit_happens, own_clauses, true_happens}

module _ (extend : ExtensionsMean) (window : WindowForm) (id : EventId) where
  abbrev number : ℕ
  number = number_in window id

  sound : (v : Valuation) → IsEventOf window id → Meets (base_with window (happens_in id window)) nothing_asked v → truth_of v number ≡ true
  sound v (event, there) m =
      let means = extend.answers window (happens_in id window) nothing_asked v m in
      let t : SymbolTruth = read_by (names_with window (happens_in id window)) v in
      let p : Point = record { number = number; id = id; action = action_of event } in
      let has = (points_named window).all id event there in
      let all : HoldAll t (happens_at id p) = each_holds t (happens_at id) p (points_of window) means.further has in
      let own : HoldAll t (own_clauses p) = when t (is_event id p) (own_clauses p) [] (event_itself id p refl) all in
      let parts = both t (simplified (literal (Last number) true ∷ [])) (simplified (literal (Last number) false ∷ executed p true ∷ [])) own in
      let named = (last_one t (literal (Last number) true) (clause_means t (literal (Last number) true ∷ []) parts.0)).0 in
      let rest = skip t (Last number) (executed p true ∷ []) named (clause_means t (literal (Last number) false ∷ executed p true ∷ []) parts.1) in
      let done : t.symbols (Executed number) ≡ true = (last_one t (executed p true) rest).0 in
      sym (means.points number (event_below window id (event, there))) ∙ done

  complete : ValuationsMeet → (truth : Symbol → Bool) (place : ℕ → ℤ) → length (points_of window) ≤ 2048 → length (clauses_of window) + length (happens_in id window) ≤ 500000
      → IsMeaning window [] truth place → truth (Executed number) ≡ true → truth (Last number) ≡ true
      → (valuation : Valuation) × Meets (base_with window (happens_in id window)) nothing_asked valuation
  complete meet truth place few limit meaning done named =
      let more = happens_in id window in
      let final = names_with window more in
      let problem = base_with window more in
      let n : ℕ = length (points_of window) in
      let valid = extend.valid window more few limit (fit_happens n id (points_of window)) in
      let own : IsMeaning window more truth place = record {
        apart = meaning.apart;
        keeps = meaning.keeps;
        fits = meaning.fits;
        base = meaning.base;
        further = true_happens window id truth done named;
      } in
      let model = extend.meanings window more truth place own in
      let asked : IsValidQuery problem nothing_asked = record {
        few_locals = omega arith;
        locals = All-from_recursion (IsValidKind problem.points) [] tt;
        assumed = All-from_recursion (λ (lit : Lit). lit.variable < length problem.kinds + 0) [] tt;
        once = λ variable. omega arith;
      } in
      let written = meet.written (length problem.kinds + length nothing_asked.locals) problem.points (variable_true final truth) place in
      let valuation : IsValuation problem.points problem.edges (problem.kinds ++ nothing_asked.locals) (variable_true final truth) place =
      subst (λ (kinds : List Kind). IsValuation problem.points problem.edges kinds (variable_true final truth) place) (sym (append-nil problem.kinds)) model.valuation in (
        written.0,
        meet.meets problem nothing_asked (variable_true final truth) place written.0 valid asked valuation model.clauses
            (All-from_recursion (HoldsLit (variable_true final truth)) [] tt) written.1,
      )

pub happens_means : ExtensionsMean → ValuationsMeet → HappensMeans
happens_means extend meet = record {
  sound = λ window event valuation there m. sound extend window event valuation there m;
  complete = λ window event truth place few limit meaning done named. complete extend window event meet truth place few limit meaning done named;
}
