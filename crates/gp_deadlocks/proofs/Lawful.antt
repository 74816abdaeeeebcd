-- The question which cycles are stuck is lawful.
use Rattle.std.proofs.Common.{◌≡◌, sym, subst, refl, ℕ, ◌≤◌, Bool, true, false, List, [], ◌∷◌, Ok, Err, if◌then◌else◌, append-nil, arith, length, leb-true, map}
use Rattle.std.specs.Prelude.{nat_lt}
use Rattle.std.specs.List.{AllByRecursion}
use Rattle.std.proofs.lemmas.Bool.{and_parts}
use Rattle.std.proofs.lemmas.Bool.Decides.{nat_tests}
use Rattle.std.proofs.lemmas.List.{length-map}
use Rattle.std.proofs.lemmas.Option.{none-some}
use Rattle.gp_base.specs.ListLaws.{recursion_from_each}
use Rattle.gp_clause.specs.declared.kind.Kind.{Kind}
use Rattle.gp_clause.specs.Valuation.{IsValuation}
use Rattle.gp_constraint.specs.Base.{base_of}
use Rattle.gp_constraint.specs.EncodedLaws.{few_clauses, is_valid}
use Rattle.gp_constraint.specs.Laws.{ProblemsAreValid}
use Rattle.gp_instance.specs.declared.instance.Instance.{Instance}
use Rattle.gp_instance.specs.declared.instance.InstancesFault.TheVariants.{TooMany}
use Rattle.gp_instance.specs.Instances.{numbered}
use Rattle.gp_instance.specs.ListedLaws.{ListsEach}
use Rattle.gp_window.specs.declared.schedule.EventId.{EventId}
use Rattle.gp_window.specs.WindowForm.{IsWindow, WindowForm}
use Rattle.gp_analysis.specs.Question.{HasNoValuation, IsAsk, IsLawful}
use Rattle.gp_patterns.specs.EncodableLaws.{is_encodable, large_left_out}
use Rattle.gp_stuck.specs.Cycle.{is_cycle}
use Rattle.gp_stuck.specs.Cycles.{cycles_of, due_cycles}
use Rattle.gp_stuck.specs.Laws.{CyclesAreListed, StuckQueriesAreValid}
use Rattle.gp_stuck.specs.Stuck.{EndsStuck}
use Rattle.gp_stuck.specs.StuckQuery.{stuck_query_of}
use Rattle.gp_deadlocks.specs.AnsweredLaws.{StuckCyclesAreAnswered}
use Rattle.gp_deadlocks.specs.Question.{deadlocks}

-- an instance is a cycle
abbrev IsCycle : WindowForm → Instance → Type 0
IsCycle window ask = is_cycle window ask.events ≡ true

each_numbered : (window : WindowForm) (lists : List (List EventId)) → AllByRecursion (λ ids. is_cycle window ids ≡ true) lists → AllByRecursion (IsCycle window) (map (numbered 0) lists)
each_numbered window [] each = tt
each_numbered window (ids ∷ lists) each = (each.0, each_numbered window lists each.1)

listed_where : (window : WindowForm) (lists : List (List EventId)) (many : Bool) → nat_lt 10000 (length lists) ≡ many → AllByRecursion (λ ids. is_cycle window ids ≡ true) lists
    → ListsEach (λ ids. is_cycle window ids ≡ true) (if many then Err TooMany else Ok (map (numbered 0) lists))
listed_where window lists true test each = tt
listed_where window lists false test each = (simp length-map (grind (arith, nat_tests)), each_numbered window lists each)

-- what is listed are cycles
cycles_listed : CyclesAreListed → (window : WindowForm) → ListsEach (λ ids. is_cycle window ids ≡ true) (due_cycles window)
unfolding due_cycles
cycles_listed listed window =
    listed_where window (cycles_of window) (nat_lt 10000 (length (cycles_of window))) refl
    (recursion_from_each (λ ids. is_cycle window ids ≡ true) (cycles_of window) (λ ids i. (listed.all window ids).0 i))

-- a cycle has two to four events
record HasFew (ids : List EventId) : Type 0 where
  some : 1 ≤ length ids
  few : length ids ≤ 6

cycle_few : (window : WindowForm) (ids : List EventId) → is_cycle window ids ≡ true → HasFew ids
cycle_few window [] e = cc
cycle_few window (first ∷ rest) e =
    let size = and_parts _ _ e in
    let sizes = and_parts _ _ size.0 in
    let most = leb-true (length rest) 3 sizes.1 in
    record { some = omega arith; few = omega (arith, most) }

none_ends : StuckCyclesAreAnswered → (window : WindowForm) (ids schedule : List EventId) → is_cycle window ids ≡ true → IsWindow window
    → HasNoValuation (base_of window) (stuck_query_of window ids) → EndsStuck window ids schedule → ⊥
none_ends answered window ids schedule cycle is none ends =
    answered.impossible window ids is cycle (λ truth place valuation clauses assumed.
    none truth place
    (subst (λ (kinds : List Kind). IsValuation (base_of window).points (base_of window).edges kinds truth place) (sym (append-nil (base_of window).kinds)) valuation)
    clauses assumed)
    (answered.none_ends window ids schedule is cycle ends)

ask : StuckCyclesAreAnswered → StuckQueriesAreValid → (window : WindowForm) (subject : List ℕ) (ids : List EventId) → is_cycle window ids ≡ true → IsAsk deadlocks window subject ids
ask answered valid window subject ids cycle =
    let size = cycle_few window ids cycle in
    record {
      some = size.some;
      few = size.few;
      query = λ fits. valid window ids cycle;
      complete = λ is fits none shown ends. none_ends answered window ids shown.events cycle is none ends;
      given = λ is fits answer given. absurd (none-some answer given);
    }

pub is_lawful : ProblemsAreValid → CyclesAreListed → StuckQueriesAreValid → StuckCyclesAreAnswered → IsLawful deadlocks (λ window subject ids. is_cycle window ids ≡ true)
is_lawful problems listed valid answered = record {
  few = omega arith;
  listed = (λ window number. cycles_listed listed window, tt);
  ask = λ window subject ids cycle. ask answered valid window subject ids cycle;
  problem = λ window fits.
      let is = is_encodable window fits in
      record { valid = is_valid problems window is; solvable = problems.solvable window; few_clauses = few_clauses window is; shares = tt };
  large = large_left_out;
}
