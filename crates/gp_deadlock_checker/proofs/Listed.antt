-- What is listed of a window are its cycles.
use Rattle.std.proofs.Common.{◌≡◌, refl, sym, subst, ◌≤◌, Bool, true, false, List, [], ◌∷◌, Result, Ok, Err, if◌then◌else◌, arith, length, map}
use Rattle.std.specs.Prelude.{nat_lt}
use Rattle.std.specs.List.{AllByRecursion}
use Rattle.std.proofs.lemmas.Bool.Decides.{nat_tests}
use Rattle.std.proofs.lemmas.List.{length-map}
use Rattle.std.proofs.lemmas.List.Elements.{All-from_recursion}
use Rattle.gp_base.specs.ListLaws.{recursion_from_each}
use Rattle.gp_instance.specs.declared.instance.Instance.{Instance}
use Rattle.gp_instance.specs.declared.instance.InstancesFault.{InstancesFault}
use Rattle.gp_instance.specs.declared.instance.InstancesFault.TheVariants.{TooMany}
use Rattle.gp_instance.specs.Instances.{numbered}
use Rattle.gp_instance.specs.ListedLaws.{ListsEach}
use Rattle.gp_stuck.specs.Cycle.{is_cycle}
use Rattle.gp_stuck.specs.Cycles.{cycles_of, due_cycles}
use Rattle.gp_stuck.specs.Laws.{CyclesAreListed}
use Rattle.gp_window.specs.declared.schedule.EventId.{EventId}
use Rattle.gp_window.specs.WindowForm.{WindowForm}
use Rattle.gp_deadlock_checker.specs.Finds.{AreCycles}

-- events are a cycle
abbrev pub IsCycle : WindowForm → List EventId → Type 0
IsCycle window ids = is_cycle window ids ≡ true

each_numbered : (window : WindowForm) (lists : List (List EventId)) → AllByRecursion (IsCycle window) lists → AllByRecursion (λ (cycle : Instance). IsCycle window cycle.events) (map (numbered 0) lists)
each_numbered window [] each = tt
each_numbered window (ids ∷ lists) each = (each.0, each_numbered window lists each.1)

listed_where : (window : WindowForm) (lists : List (List EventId)) (many : Bool) → nat_lt 10000 (length lists) ≡ many → AllByRecursion (IsCycle window) lists
    → ListsEach (IsCycle window) (if many then Err TooMany else Ok (map (numbered 0) lists))
listed_where window lists true test each = tt
listed_where window lists false test each = (simp length-map (grind (arith, nat_tests)), each_numbered window lists each)

pub cycles_listed : CyclesAreListed → (window : WindowForm) → ListsEach (IsCycle window) (due_cycles window)
unfolding due_cycles
cycles_listed listed window =
    listed_where window (cycles_of window) (nat_lt 10000 (length (cycles_of window))) refl
    (recursion_from_each (IsCycle window) (cycles_of window) (λ ids i. (listed.all window ids).0 i))

-- each that is listed is a cycle
pub are_cycles : CyclesAreListed → (window : WindowForm) (cycles : List Instance) → ◌≡◌ {A = Result (List Instance) InstancesFault} (Ok cycles) (due_cycles window) → AreCycles window cycles
are_cycles listed window cycles is =
    let each : ListsEach (IsCycle window) (Ok cycles) = subst (ListsEach (IsCycle window)) (sym is) (cycles_listed listed window) in
    All-from_recursion (λ (cycle : Instance). IsCycle window cycle.events) cycles each.1

-- and there are at most 10,000
pub few_cycles : CyclesAreListed → (window : WindowForm) (cycles : List Instance) → ◌≡◌ {A = Result (List Instance) InstancesFault} (Ok cycles) (due_cycles window) → length cycles ≤ 10000
few_cycles listed window cycles is =
    let each : ListsEach (IsCycle window) (Ok cycles) = subst (ListsEach (IsCycle window)) (sym is) (cycles_listed listed window) in
    each.0
