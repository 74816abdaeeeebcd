-- What is kept of a window whose problem with signals is due.
use Rattle.std.proofs.Common.{◌≡◌, ◌≤◌, ◌+◌, ap, sym, ◌∙◌, refl, List, [], ◌∷◌, ◌++◌, arith, eqb-true, length}
use Rattle.std.specs.Prelude.{◌==◌, filter, flat_map, true}
use Rattle.std.proofs.lemmas.List.{append-nil}
use Rattle.gp_window.specs.WindowForm.{WindowForm}
use Rattle.gp_constraint.specs.declared.point.Point.{Point}
use Rattle.gp_constraint.specs.Base.{base_of, clauses_of}
use Rattle.gp_constraint.specs.Encoded.{IsEncodable}
use Rattle.gp_constraint.specs.Extended.{base_with}
use Rattle.gp_notify.specs.Extended.{extended_of}
use Rattle.gp_notify.specs.Signals.{may_take, notified, notifies_of, signals_of, taken_once, takers_of, wakes_of, woken}

pub empty_from : (points : List Point) → (length points == 0) ≡ true → points ≡ []
empty_from [] e = refl
empty_from (p ∷ points) e = let none : length (p ∷ points) ≡ 0 = eqb-true (length (p ∷ points)) 0 e in absurd (omega (arith, none))

-- nobody takes a signal where no one wakes
none_taken : (window : WindowForm) (points : List Point) → wakes_of window ≡ [] → flat_map (notified window) points ≡ []
none_taken window [] none = refl
none_taken window (g ∷ points) none =
    let takers : takers_of window g ≡ [] = ap (filter (λ w. may_take window w g)) none in
    ap (λ ts. taken_once ts g ++ flat_map (notified window) points) takers ∙ none_taken window points none

pub no_clauses : (window : WindowForm) → wakes_of window ≡ [] → signals_of window ≡ []
no_clauses window none =
    ap (λ wakes. flat_map (woken window) wakes ++ flat_map (notified window) (notifies_of window)) none ∙ none_taken window (notifies_of window) none

-- a window without wakes has the problem with signals that it has without them
pub same_problem : (window : WindowForm) → wakes_of window ≡ [] → base_of window ≡ extended_of window
same_problem window none =
    let bare : base_of window ≡ base_with window [] = (λ i. record {
      points = (base_of window).points;
      kinds = (base_of window).kinds;
      edges = (base_of window).edges;
      clauses = sym (append-nil (base_of window).clauses) i;
    }) in
    bare ∙ ap (base_with window) (sym (no_clauses window none))

pub still_fits : (window : WindowForm) → IsEncodable window → wakes_of window ≡ [] → length (clauses_of window) + length (signals_of window) ≤ 500000
still_fits window is none =
    let none_more : length (signals_of window) ≡ 0 = ap length (no_clauses window none) in
    omega (arith, is.clauses, none_more)
