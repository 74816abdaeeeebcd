use Rattle.std.proofs.Common.{◌≡◌, sym, ◌∙◌, ap, subst, ℕ, ◌-◌, ◌<◌, ◌≤◌, Option, None, List, ◌++◌, length, get_or, arith}
use Rattle.std.specs.Prelude.{replicate, slice_get}
use Rattle.std.proofs.lemmas.List.{length-append, length-replicate}
use Rattle.std.proofs.lemmas.List.FromFn.{length-range_with_len}
use Rattle.gp_clause.specs.declared.lit.Lit.{Lit}
use Rattle.gp_queue.specs.Order.{numbers_between}
use Rattle.gp_sat.specs.declared.assigned.Assigned.{Assigned}
use Rattle.gp_sat.specs.Sound.{IsSound}
use Rattle.gp_sat.specs.Consistent.{IsConsistent}
use Rattle.gp_sat.proofs.Storing.{sound_grown, sound_ordered}
use Rattle.gp_sat.proofs.Consisting.{consistent_grown}
use Rattle.std.specs.Vec.{vec_capacity}
use Rattle.gp_sat.specs.State.{SolverForm}
use Rattle.gp_sat.proofs.kernel.Kernel.grow.Goals as goal
use Rattle.gp_sat.specs.SolverLaws.{trail_counts, grown_at}

fits : (s : SolverForm) → IsSound s → length s.trail ≤ length s.values
fits s sound = omega (arith, trail_counts s.values s.trail s.level sound.ordered)

grown_parts : (s : SolverForm) (variables : ℕ) (values : List (Option Assigned)) (trail : List Lit) (order starts more : List ℕ) (place next : Option ℕ) (trail_room starts_room more_trail more_starts : ℕ) → values ≡ s.values ++ replicate (variables - length s.values) None → trail ≡ s.trail → more ≡ starts
    → order ≡ s.order ++ numbers_between (length s.order) variables → length s.values ≤ variables → variables < 4294967296 → next ≡ slice_get order 0 → variables ≤ more_trail → variables ≤ more_starts → IsConsistent s starts place trail_room starts_room
    → IsConsistent (record { values = values; trail = trail; clauses = s.clauses; level = s.level; order = order; used = variables }) more next more_trail more_starts
grown_parts s variables values trail order starts more place next trail_room starts_room more_trail more_starts is same_trail same_starts order_is longer few front trail_has starts_has old =
    let size : length values ≡ variables = omega (arith, longer, ap (λ (vs : List (Option Assigned)). length vs) is, length-append s.values (replicate (variables - length s.values) None), length-replicate {A = Option Assigned} (variables - length s.values) None) in
    let ordered : length order ≡ variables = omega (arith, longer, old.ordered, ap (λ (xs : List ℕ). length xs) order_is, length-append s.order (numbers_between (length s.order) variables), length-range_with_len (length s.order) (variables - length s.order)) in
    let same : (v : ℕ) → get_or values v None ≡ get_or s.values v None = λ v. ap (λ (vs : List (Option Assigned)). get_or vs v None) is ∙ grown_at s.values (variables - length s.values) v in
    subst (λ (ts : List Lit). IsConsistent (record { values = values; trail = ts; clauses = s.clauses; level = s.level; order = order; used = variables }) more next more_trail more_starts) (sym same_trail)
    (subst (λ (xs : List ℕ). IsConsistent (record s { values = values; order = order; used = variables }) xs next more_trail more_starts) (sym same_starts)
    (consistent_grown s values order variables starts place next trail_room starts_room more_trail more_starts
    (sound_ordered (record s { values = values }) order variables (sound_grown s values same (omega (arith, size, longer)) (omega (arith, size, few)) old.sound))
    same front (ordered ∙ sym size) (omega (arith, size)) (omega (arith, size, trail_has)) (omega (arith, size, starts_has)) old))

pub overflow_sub-count : goal.overflow_sub-count
overflow_sub-count c = omega (arith, c.len.ensures, c.requires, ap (λ (s : SolverForm). length s.values) c.self.view_is, fits (record { values = c.self.inside.values; trail = c.self.inside.trail.items; clauses = c.self.inside.clauses; level = c.self.inside.level; order = c.self.inside.queue; used = c.self.inside.used }) c.self.invariant.sound)

pub overflow_sub-count-2 : goal.overflow_sub-count-2
overflow_sub-count-2 c = omega (arith, c.len-2.ensures, c.requires, ap (λ (s : SolverForm). length s.values) c.self.view_is, c.self.invariant.starts_at.count, c.self.invariant.sound.ordered.few, fits (record { values = c.self.inside.values; trail = c.self.inside.trail.items; clauses = c.self.inside.clauses; level = c.self.inside.level; order = c.self.inside.queue; used = c.self.inside.used }) c.self.invariant.sound)

pub invariant_of-self-in-Ok : goal.invariant_of-self-in-Ok
invariant_of-self-in-Ok c =
    let old : c.len-size.result ≡ length c.self.inside.values = omega (arith, c.len-size.ensures) in
    let more : length c.self.inside.values ≤ c.args.variables = omega (arith, c.requires, ap (λ (s : SolverForm). length s.values) c.self.view_is) in
    grown_parts (record { values = c.self.inside.values; trail = c.self.inside.trail.items; clauses = c.self.inside.clauses; level = c.self.inside.level; order = c.self.inside.queue; used = c.self.inside.used }) c.args.variables c.grow.new.self c.reserve.new.self.items c.grow-2.new.self c.self.inside.starts.items c.reserve-2.new.self.items c.self.inside.place c.first-self-inside.result (vec_capacity c.self.inside.trail) (vec_capacity c.self.inside.starts) (vec_capacity c.reserve.new.self) (vec_capacity c.reserve-2.new.self)
    (c.in_ok-grow.ensures.ok ∙ ap (λ (n : ℕ). c.self.inside.values ++ replicate (c.args.variables - n) None) old)
    c.in_ok-reserve.ensures.items c.in_ok-reserve-2.ensures.items c.in-Ok.ensures.grown more c.ranges.variables.fits c.first-self-inside.ensures.first
    (omega (arith, c.in_ok-reserve.ensures.ok, c.in_ok-reserve.ensures.len, c.len.ensures)) (omega (arith, c.in_ok-reserve-2.ensures.ok, c.in_ok-reserve-2.ensures.len, c.len-2.ensures)) c.self.invariant
