-- The search finds exactly the cycles.
use Rattle.std.proofs.Common.{ℕ, zero, suc, ◌≡◌, ◌<◌, ◌≤◌, refl, ap, sym, ◌∙◌, Bool, true, false, List, [], ◌∷◌, ◌++◌, map, length, arith, leb-true}
use Rattle.std.specs.Prelude.{Option, Some, None, Ok, Err, ◌&&◌, filter, Contains}
use Rattle.std.specs.List.{AllByRecursion, flat_map}
use Rattle.std.proofs.lemmas.Bool.{and_parts}
use Rattle.gp_base.specs.FilterLaws.{contains_filter, contains_from_filter, filter_begun, flat_map_agree, pairwise_filter}
use Rattle.gp_base.specs.ListLaws.{recursion_at, recursion_from_each}
use Rattle.gp_trace.specs.declared.lock_use.LockUse.{LockUse}
use Rattle.gp_trace.specs.declared.lock_use.LockUse.TheVariants.{Take, GiveBack}
use Rattle.gp_window.specs.declared.schedule.EventId.{EventId}
use Rattle.gp_window.specs.WindowForm.{WindowForm}
use Rattle.gp_instance.specs.declared.instance.Instance.{Instance}
use Rattle.gp_instance.specs.declared.instance.InstancesFault.TheVariants.{TooMany}
use Rattle.gp_instance.specs.IdsLaws.{event_listed, window_ordered}
use Rattle.gp_instance.specs.Instances.{ids_of, numbered}
use Rattle.gp_instance.specs.LimitLaws.{all_due as not_many, many_due as too_many}
use Rattle.gp_instance.specs.Listed.{IsBefore}
use Rattle.gp_instance.specs.Search.{first_instances}
use Rattle.gp_replay.specs.LockUses.{use_at}
use Rattle.gp_constraint.specs.PointLaws.{IsEventOf}
use Rattle.gp_stuck.specs.Cycle.{is_cycle, may_be_next, waits_around, waits_by, waits_for}
use Rattle.gp_stuck.specs.Cycles.{cycles_of, due_cycles, lists_up_to}
use Rattle.gp_stuck.specs.Laws.{CyclesAreListed}
use Rattle.gp_stuck.specs.Search.{closed, completions, cycles_from, found_cycles, is_take, may_follow, takers_of}
use Rattle.gp_stuck.proofs.Blocked.{cycle_told}
use Rattle.gp_stuck.proofs.Chains.{closes, cycle_chain}
use Rattle.gp_stuck.proofs.Events.{cycle_events}
use Rattle.gp_stuck.proofs.Lists.{all_short, filter_same, first_apart, lists_ordered, narrowed_lists, short_listed}

-- the lists that complete a chain are those that pass
completes : (window : WindowForm) (ids : List EventId) (first : EventId) (passed : List EventId) (last : EventId) (n : ℕ)
    → filter (closes window first passed last) (lists_up_to n ids) ≡ completions window ids first passed last n
completes window ids first passed last zero = refl
completes window ids first passed last (suc n) =
    let test : List EventId → Bool = closes window first passed last in
    let all : List (List EventId) = flat_map (λ x. map (λ rest. x ∷ rest) (lists_up_to n ids)) ids in
    first_apart (test []) [] (filter test all)
    ∙ ap (λ rest. closed window first passed last ++ rest)
    (filter_begun test (may_follow window first passed last) (λ x rest. closes window first (passed ++ x ∷ []) x rest) ids (lists_up_to n ids) (λ x rest. refl)
    ∙ flat_map_agree (λ x. map (λ rest. x ∷ rest) (filter (closes window first (passed ++ x ∷ []) x) (lists_up_to n ids)))
    (λ x. map (λ rest. x ∷ rest) (completions window ids first (passed ++ x ∷ []) x n)) (λ x. ap (map (λ rest. x ∷ rest)) (completes window ids first (passed ++ x ∷ []) x n))
    (filter (may_follow window first passed last) ids))

-- the same test, told by its first event
abbrev chain_test : WindowForm → List EventId → Bool
chain_test window [] = false
chain_test window (first ∷ rest) = may_be_next window first && closes window first [] first rest

test_same : (window : WindowForm) (list : List EventId) → length list ≤ 4 → is_cycle window list ≡ chain_test window list
test_same window [] short = refl
test_same window (first ∷ rest) short = cycle_chain window first rest (omega (arith, short))

-- the search among any events finds the cycles of these events
finds_among : (window : WindowForm) (ids : List EventId)
    → flat_map (cycles_from window ids) (filter (may_be_next window) ids) ≡ filter (is_cycle window) (lists_up_to 4 ids)
finds_among window ids =
    let same : filter (is_cycle window) (lists_up_to 4 ids) ≡ filter (chain_test window) (lists_up_to 4 ids) =
    filter_same (is_cycle window) (chain_test window) (lists_up_to 4 ids)
    (recursion_from_each (λ list. is_cycle window list ≡ chain_test window list) (lists_up_to 4 ids) (λ list i.
    test_same window list (recursion_at (λ one. length one ≤ 4) (lists_up_to 4 ids) list (all_short 4 ids) i))) in
    sym (same
    ∙ filter_begun (chain_test window) (may_be_next window) (λ x. closes window x [] x) ids (lists_up_to 3 ids) (λ x rest. refl)
    ∙ flat_map_agree (λ x. map (λ rest. x ∷ rest) (filter (closes window x [] x) (lists_up_to 3 ids))) (cycles_from window ids)
    (λ x. ap (map (λ rest. x ∷ rest)) (completes window ids x [] x 3))
    (filter (may_be_next window) ids))

-- each event of a cycle takes a lock
takes : (window : WindowForm) (lock_use : Option LockUse) (other : EventId) → waits_by window lock_use other ≡ true → is_take lock_use ≡ true
takes window (Some (Take mode lock)) other e = refl
takes window (Some (GiveBack mode lock)) other e = cc
takes window None other e = cc

all_take : (window : WindowForm) (first : EventId) (ids : List EventId) → waits_around window first ids ≡ true → AllByRecursion (λ id. is_take (use_at window id) ≡ true) ids
all_take window first [] e = tt
all_take window first (last ∷ []) e = (takes window (use_at window last) first e, tt)
all_take window first (one ∷ other ∷ rest) e =
    let all = and_parts (waits_for window one other) (waits_around window first (other ∷ rest)) e in
    (takes window (use_at window one) other all.0, all_take window first (other ∷ rest) all.1)

cycle_takes : (window : WindowForm) (list : List EventId) → is_cycle window list ≡ true → AllByRecursion (λ id. is_take (use_at window id) ≡ true) list
cycle_takes window [] e = cc
cycle_takes window (first ∷ rest) e = all_take window first (first ∷ rest) (cycle_told window first rest e).waits

pub search_finds : (window : WindowForm) → found_cycles window ≡ cycles_of window
search_finds window =
    finds_among window (takers_of window)
    ∙ narrowed_lists (λ id. is_take (use_at window id)) 4 (ids_of window.segments) (is_cycle window) (cycle_takes window)

-- each event of the window is listed
all_listed : (window : WindowForm) (list : List EventId) → AllByRecursion (IsEventOf window) list → AllByRecursion (Contains (ids_of window.segments)) list
all_listed window [] there = tt
all_listed window (id ∷ list) there = (event_listed window.segments id.thread id.index there.0.0 there.0.1, all_listed window list there.1)

cycle_short : (window : WindowForm) (list : List EventId) → is_cycle window list ≡ true → length list ≤ 4
cycle_short window [] e = omega arith
cycle_short window (first ∷ rest) e =
    let few = leb-true (length rest) 3 (cycle_told window first rest e).few in omega (arith, few)

-- the list has exactly the cycles, in order
pub listed : CyclesAreListed
listed = record {
  all = λ window list. (
    (λ contains. (contains_from_filter (is_cycle window) (lists_up_to 4 (ids_of window.segments)) list contains).1),
    (λ cycle. contains_filter (is_cycle window) (lists_up_to 4 (ids_of window.segments)) list
        (short_listed 4 (ids_of window.segments) list (cycle_short window list cycle) (all_listed window list (cycle_events window list cycle))) cycle),
  );
  ordered = λ window. pairwise_filter IsBefore (is_cycle window) (lists_up_to 4 (ids_of window.segments)) (lists_ordered 4 (ids_of window.segments) (window_ordered window.segments));
}

-- what was found up to the limit is what is due
pub many_due : (window : WindowForm) (found : List Instance) → found ≡ first_instances [] (map (numbered 0) (found_cycles window)) → 10000 < length found
    → Err TooMany ≡ due_cycles window
unfolding due_cycles
many_due window found is over =
    too_many 0 (cycles_of window) found (is ∙ ap (λ lists. first_instances [] (map (numbered 0) lists)) (search_finds window)) over

pub all_due : (window : WindowForm) (found : List Instance) → found ≡ first_instances [] (map (numbered 0) (found_cycles window)) → length found ≤ 10000
    → Ok found ≡ due_cycles window
unfolding due_cycles
all_due window found is few =
    not_many 0 (cycles_of window) found (is ∙ ap (λ lists. first_instances [] (map (numbered 0) lists)) (search_finds window)) few
