-- Told by the laws of the crates below, whose calls hand them on.
use Rattle.gp_window.specs.WindowForm.{IsWindow, WindowForm}
use Rattle.gp_witness.proofs.Completed.{base_model, query_model}
use Rattle.gp_witness.proofs.Written.{IsTold}
use Rattle.gp_witness.proofs.laws.schedules_are_complete.Goals as goal

pub returns : goal.returns
returns c =
    let formed = c.windows_are_formed.ensures in
    let begins = c.states_begin_as_windows.ensures in
    let numbered = c.truths_are_numbered.ensures in
    let rows = c.groups_stand_in_rows.ensures in
    let told : (window : WindowForm) → IsWindow window → IsTold window =
    λ window is. record { values = begins.values window is } in
    record {
      base = λ window schedule is feasible. base_model window schedule numbered (formed window is) (told window is) feasible;
      instance = λ window property ids schedule is feasible matches. query_model window property ids schedule numbered rows (formed window is) (told window is) feasible matches;
      impossible = λ window property ids is none possible.
          let m = query_model window property ids possible.0 numbered rows (formed window is) (told window is) possible.1 possible.2 in
          none m.truth m.place m.valuation m.clauses m.assumed;
    }
