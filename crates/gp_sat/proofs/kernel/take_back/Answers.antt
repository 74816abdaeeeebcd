use Rattle.std.proofs.Common.{◌≡◌, sym, ◌∙◌, ap, ℕ, ◌+◌, ◌<◌, Option, None, List, length, get_or, false, inl, inr, arith}
use Rattle.std.specs.Prelude.{slice_set}
use Rattle.std.proofs.lemmas.Bool.{cases_eq}
use Rattle.std.proofs.lemmas.List.{length-set, get_or_default, get_or-set_same, get_or-set_other}
use Rattle.gp_clause.specs.declared.lit.Lit.{Lit}
use Rattle.gp_sat.specs.declared.assigned.Assigned.{Assigned}
use Rattle.gp_sat.proofs.kernel.take_back.Goals as goal

no_lit : Lit
no_lit = record { variable = 0; positive = false }

pub loop-place-preserved : goal.loop-place-preserved
loop-place-preserved c =
    let here : ℕ = (get_or c.args.trail.now c.loop-place.place (record { variable = 0; positive = false })).variable in
    record {
      size = ap (λ (vs : List (Option Assigned)). length vs) c.unset.ensures ∙ length-set c.loop-place.values (get_or c.args.trail.now c.loop-place.place (record { variable = 0; positive = false })).variable None ∙ c.loop-place.invariant.size;
      gone = λ place d from below. ap (λ (vs : List (Option Assigned)). get_or vs (get_or c.args.trail.now place d).variable None) c.unset.ensures ∙ gone_at c.loop-place.values c.args.trail.now c.loop-place.place place d (λ inside. c.loop-place.invariant.gone place d from inside)
          (omega (arith, c.requires.named c.loop-place.place (record { variable = 0; positive = false }) c.loop-place-test.true, c.loop-place.invariant.size)) c.loop-place-test.true below;
      kept = λ v apart. ap (λ (vs : List (Option Assigned)). get_or vs v None) c.unset.ensures ∙ get_or-set_other c.loop-place.values (get_or c.args.trail.now c.loop-place.place (record { variable = 0; positive = false })).variable v None None (λ same. apart c.loop-place.place (record { variable = 0; positive = false }) c.loop-place.auto.place (omega arith) (sym same))
          ∙ c.loop-place.invariant.kept v (λ place d from below. apart place d from (omega (arith, below)));
    }
  where
    gone_at : (values : List (Option Assigned)) (trail : List Lit) (at place : ℕ) (d : Lit) → (place < at → get_or values (get_or trail place d).variable None ≡ None) → (get_or trail at (record { variable = 0; positive = false })).variable < length values → at < length trail → place < at + 1
        → get_or (slice_set values (get_or trail at (record { variable = 0; positive = false })).variable None) (get_or trail place d).variable None ≡ None
    gone_at values trail at place d before named within below = elim (cases_eq (get_or trail place d).variable (get_or trail at (record { variable = 0; positive = false })).variable) [
      | inl same ↦ ap (λ (v : ℕ). get_or (slice_set values (get_or trail at (record { variable = 0; positive = false })).variable None) v None) same ∙ get_or-set_same values (get_or trail at (record { variable = 0; positive = false })).variable None None named
      | inr differ ↦ get_or-set_other values (get_or trail at (record { variable = 0; positive = false })).variable (get_or trail place d).variable None None differ ∙ elim (cases_eq place at) [
        | inl last ↦ absurd (differ (ap (λ (l : Lit). l.variable) (ap (λ (n : ℕ). get_or trail n d) last ∙ get_or_default trail at d (record { variable = 0; positive = false }) within)))
        | inr other ↦ before (omega (arith, below, other))
      ]
    ]
