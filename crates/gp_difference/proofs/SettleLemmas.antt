use Rattle.std.proofs.Common.{◌≡◌, ℕ, ◌+◌, ◌^◌, ◌<◌, inl, inr, Bool, true, false, List, length, refl, sym, subst, ◌∙◌, arith, ℤ, pos, ◌+ℤ◌, ◌≤ℤ◌}
use Rattle.std.proofs.lemmas.Int.{ints, by_lt_z}
use Rattle.std.proofs.lemmas.Bool.{cases_lt, false≢true}
use Rattle.std.proofs.lemmas.List.{get_or_past}
use Rattle.gp_clause.specs.declared.edge.Edge.{Edge}
use Rattle.gp_clause.specs.Edge.{Keeps}
use Rattle.gp_difference.specs.declared.bound.Bound.{Bound}
use Rattle.gp_difference.specs.Places.{place_at, IsEdgeOf, AreFresh}
use Rattle.gp_difference.specs.Bounds.{edge_at}
use Rattle.gp_difference.specs.Anew.{AreAnew}
use Rattle.gp_difference.specs.Lower.{IsInput, IsLowered}
use Rattle.gp_difference.specs.Settle.{Marks, RefreshGives, AreMoved}

-- a fresh place lies from minus 2 ^ 28 to zero, and so does the default
pub fresh_at : (places : List ℤ) → AreFresh places → (v : ℕ) → (pos 0 ≤ℤ (place_at places v +ℤ pos (2 ^ 28))) × (place_at places v ≤ℤ pos 0)
fresh_at places fresh v = elim (cases_lt v (length places)) [
  | inl v_in ↦ fresh v (pos 0) v_in
  | inr past ↦
      let e : place_at places v ≡ pos 0 = get_or_past places v (pos 0) past in
      let low : pos 0 ≤ℤ (place_at places v +ℤ pos (2 ^ 28)) = omega (arith, ints, e) in
      let high : place_at places v ≤ℤ pos 0 = omega (arith, ints, e) in
      (low, high)
]

pub fresh_marks : (places : List ℤ) → AreFresh places → Marks places false
fresh_marks places fresh =
    record {
      yes = λ e. absurd (false≢true e);
      no = λ e v. let f = fresh_at places fresh v in omega (arith, ints, f.0);
    }

-- places that were made anew, from places that keep the bounds and the edge
pub moved_anew : (bounds : List Bound) (edge : Edge) (before lifted after : List ℤ) (was_low : Bool) → was_low ≡ true → IsInput bounds edge before →
    length lifted ≡ length before → ((i : ℕ) → i < length bounds → Keeps (place_at lifted) (edge_at bounds i)) → Keeps (place_at lifted) edge →
    AreAnew lifted after → AreMoved bounds edge before was_low after false
moved_anew bounds edge before lifted after was_low was input size kept edge_kept anew =
    let not_false = λ (e : was_low ≡ false). let no : ⊥ = false≢true (sym e ∙ was) in no in
    record {
      kept = λ i i_in. anew.keeps (edge_at bounds i) (subst (λ n. IsEdgeOf n (edge_at bounds i)) (sym size) (input.edges i i_in)) (kept i i_in);
      edge_kept = anew.keeps edge (subst (λ n. IsEdgeOf n edge) (sym size) input.new_edge) edge_kept;
      bottom = λ v. let f = fresh_at after anew.fresh v in omega (arith, ints, f.0);
      top = λ v. let f = fresh_at after anew.fresh v in f.1;
      marks = fresh_marks after anew.fresh;
      unchanged = λ e. absurd (not_false e);
      below = λ e. absurd (not_false e);
      reached = λ e. absurd (not_false e);
      near = λ e. absurd (not_false e);
      anew = λ e. anew.fresh;
    }

-- lowered places stay above a limit that is 2 ^ 28 below one of the places before
pub lowered_bottom : (bounds : List Bound) (edge : Edge) (before after : List ℤ) (low : ℕ) → IsLowered bounds edge before after →
    ((v : ℕ) → pos 0 ≤ℤ (place_at before v +ℤ pos low)) → (v : ℕ) → pos 0 ≤ℤ (place_at after v +ℤ pos (low + 2 ^ 28))
lowered_bottom bounds edge before after low lowered bottom v = elim (cases_lt v (length before)) [
  | inl v_in ↦ by_lt_z (place_at after v) (place_at before v)
      (λ fell. omega (arith, ints, lowered.near v v_in fell, bottom edge.b))
      (λ still. omega (arith, ints, still, bottom v))
  | inr past ↦
      let e : place_at after v ≡ pos 0 = get_or_past after v (pos 0) (omega (arith, past, lowered.size)) in
      omega (arith, ints, e)
]

pub moved_lowered : (bounds : List Bound) (edge : Edge) (before lowered after : List ℤ) (low result : Bool) → IsInput bounds edge before →
    (low ≡ false → (v : ℕ) → pos 0 ≤ℤ (place_at before v +ℤ pos (2 ^ 62))) →
    (Keeps (place_at before) edge → ⊥) → IsLowered bounds edge before lowered → RefreshGives lowered after result low →
    AreMoved bounds edge before low after result
moved_lowered bounds edge before lowered after true result input not_low broken h (anew, e) =
    subst (λ r. AreMoved bounds edge before true after r) (sym e)
    (moved_anew bounds edge before lowered after true refl input h.size h.kept h.new_kept anew)
moved_lowered bounds edge before lowered after false result input not_low broken h (same, marks) =
    let at : IsLowered bounds edge before after = subst (λ ps. IsLowered bounds edge before ps) (sym same) h in
    record {
      kept = at.kept;
      edge_kept = at.new_kept;
      bottom = λ v. omega (arith, ints, lowered_bottom bounds edge before after (2 ^ 62) at (not_low refl) v);
      top = λ v. omega (arith, ints, at.below v, input.top v);
      marks = marks;
      unchanged = λ e keeps. absurd (broken keeps);
      below = λ e. at.below;
      reached = λ e. at.reached;
      near = λ e. at.near;
      anew = λ e. absurd (false≢true e);
    }
