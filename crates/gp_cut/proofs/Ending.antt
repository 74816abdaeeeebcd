-- Where threads end, in windows that were cut out.
use Rattle.std.proofs.Common.{◌≡◌, ◌∙◌, refl, ap, sym, subst, inl, inr, Bool, true, false, cond, ℕ, suc, ◌+◌, ◌-◌, ◌<◌, ◌≤◌, List, [], ◌∷◌, map, length, take, drop, filter, arith, add-one, drop-drop, length-drop, length-take}
use Rattle.std.specs.Prelude.{All, Option, Some, None, nat_le}
use Rattle.std.specs.List.{AllByRecursion}
use Rattle.std.proofs.lemmas.Bool.{cases_Bool, le-leb, leb-false, leb-true, lt-leb}
use Rattle.std.proofs.lemmas.List.{drop-take}
use Rattle.std.proofs.lemmas.List.Elements.{All-drop, All-from_recursion, All-take, recursion_from_All}
use Rattle.gp_trace.specs.declared.event.Event.{Event}
use Rattle.gp_trace.specs.Trace.{IsExit, LocalTraceForm}
use Rattle.gp_window.specs.WindowForm.{exited_of, has_exited}
use Rattle.gp_cut.specs.Cut.{cut_exit, cut_trace}

-- segments without an event
abbrev AreEmpty : List (List Event) → Type 0
AreEmpty segments = AllByRecursion (λ segment. segment ≡ []) segments

-- segments behind empty ones are empty, and so are some of them
empty_from : (n more count : ℕ) (segments : List (List Event)) → AreEmpty (drop n segments) → AreEmpty (take count (drop (n + more) segments))
empty_from n more count segments empty =
    recursion_from_All (λ segment. segment ≡ []) (take count (drop (n + more) segments))
    (All-take (λ segment. segment ≡ []) count (drop (n + more) segments)
    (subst (λ rest. All (λ segment. segment ≡ []) rest) (drop-drop more n segments)
    (All-drop (λ segment. segment ≡ []) more (drop n segments) (All-from_recursion (λ segment. segment ≡ []) (drop n segments) empty))))

-- a thread that has ended before
ended_before : (before count segment : ℕ) (segments : List (List Event)) → segment ≤ before → AreEmpty (drop segment segments)
    → AreEmpty (take count (drop before segments))
ended_before before count segment segments early empty =
    let place : segment + (before - segment) ≡ before = omega (arith, early) in
    subst (λ n. AreEmpty (take count (drop n segments))) place (empty_from segment (before - segment) count segments empty)

-- a thread that ends in one of the windows
ended_there : (before count segment : ℕ) (segments : List (List Event)) → before < segment → segment ≤ before + count → AreEmpty (drop segment segments)
    → AreEmpty (drop (segment - before) (take count (drop before segments)))
ended_there before count segment segments late within empty =
    let place : before + (segment - before) ≡ segment = omega (arith, late) in
    let many : (segment - before) + (before + count - segment) ≡ count = omega (arith, late, within) in
    subst (λ n. AreEmpty (drop (segment - before) (take n (drop before segments)))) many
    (subst AreEmpty (sym (drop-take (segment - before) (before + count - segment) (drop before segments)
    ∙ ap (take (before + count - segment)) (drop-drop (segment - before) before segments ∙ ap (λ n. drop n segments) place)))
    (subst (λ rest. AreEmpty (take (before + count - segment) rest)) (ap (λ n. drop n segments) (omega arith))
    (empty_from segment 0 (before + count - segment) segments empty)))

-- the segment in which a thread ends is the last that is not empty
pub exit_kept : (before count : ℕ) (exit_in : Option ℕ) (stage : List Event) (segments : List (List Event)) → before + count ≤ length segments
    → IsExit exit_in segments → IsExit (cut_exit before count exit_in) (stage ∷ take count (drop before segments))
exit_kept before count None stage segments there exits = tt
exit_kept before count (Some segment) stage segments there exits =
    let some = exits.0 in
    elim (cases_Bool (nat_le segment before)) [
      | inl early ↦ rw early (
        omega arith,
        omega arith,
        ended_before before count segment segments (leb-true segment before early) exits.2,
      )
      | inr late ↦ elim (cases_Bool (nat_le segment (before + count))) [
        | inl within ↦
            let low : before < segment = leb-false segment before late in
            let high : segment ≤ before + count = leb-true segment (before + count) within in
            let many : length (take count (drop before segments)) ≡ count = length_cut before count segments there in
            rw (late, within) (
              omega arith,
              omega (arith, low, high, many),
              subst (λ n. AreEmpty (drop n (stage ∷ take count (drop before segments)))) (sym (add-one (segment - before)))
                  (ended_there before count segment segments low high exits.2),
            )
        | inr later ↦ rw (late, later) tt
      ]
    ]
  where
    length_cut : (before count : ℕ) (segments : List (List Event)) → before + count ≤ length segments → length (take count (drop before segments)) ≡ count
    length_cut before count segments there = omega (arith, length-take count (drop before segments), length-drop before segments)

-- a thread has ended by the end of a window exactly where it had ended by the end of the window that this one stands for
exited_same : (before count j : ℕ) (exit_in : Option ℕ) → j < count → has_exited (suc (suc j)) (cut_exit before count exit_in) ≡ has_exited (before + suc j) exit_in
exited_same before count j None within = refl
exited_same before count j (Some segment) within =
    elim (cases_Bool (nat_le segment before)) [
      | inl early ↦
          let low : segment ≤ before = leb-true segment before early in
          rw early (le-leb 1 (suc (suc j)) (omega arith) ∙ sym (le-leb segment (before + suc j) (omega (arith, low))))
      | inr late ↦
          let low : before < segment = leb-false segment before late in
          elim (cases_Bool (nat_le segment (before + count))) [
            | inl there ↦ rw (late, there) (moved_test segment low)
            | inr later ↦
                let high : before + count < segment = leb-false segment (before + count) later in
                rw (late, later) (sym (lt-leb segment (before + suc j) (omega (arith, high, within))))
          ]
    ]
  where
    moved_test : (segment : ℕ) → before < segment → nat_le (segment - before + 1) (suc (suc j)) ≡ nat_le segment (before + suc j)
    moved_test segment low =
        elim (cases_Bool (nat_le segment (before + suc j))) [
          | inl is ↦
              let high : segment ≤ before + suc j = leb-true segment (before + suc j) is in
              le-leb (segment - before + 1) (suc (suc j)) (omega (arith, low, high)) ∙ sym is
          | inr fails ↦
              let high : before + suc j < segment = leb-false segment (before + suc j) fails in
              lt-leb (segment - before + 1) (suc (suc j)) (omega (arith, low, high)) ∙ sym fails
        ]

one_exit : (is same : Bool) (one other : LocalTraceForm) (ones others : List LocalTraceForm) → same ≡ is → other.thread ≡ one.thread
    → map (λ trace. trace.thread) others ≡ map (λ trace. trace.thread) ones
    → map (λ trace. trace.thread) (cond same (other ∷ others) others) ≡ map (λ trace. trace.thread) (cond is (one ∷ ones) ones)
one_exit true true one other ones others e thread rest = λ i. thread i ∷ rest i
one_exit true false one other ones others e thread rest = cc
one_exit false true one other ones others e thread rest = cc
one_exit false false one other ones others e thread rest = rest

-- the threads that have ended
pub exits_kept : (before count j : ℕ) (traces : List LocalTraceForm) → j < count
    → exited_of (suc (suc j)) (map (cut_trace before count) traces) ≡ exited_of (before + suc j) traces
exits_kept before count j [] within = refl
exits_kept before count j (trace ∷ traces) within =
    one_exit (has_exited (before + suc j) trace.exit_in) (has_exited (suc (suc j)) (cut_exit before count trace.exit_in)) trace (cut_trace before count trace)
    (filter (λ t. has_exited (before + suc j) t.exit_in) traces) (filter (λ t. has_exited (suc (suc j)) t.exit_in) (map (cut_trace before count) traces))
    (exited_same before count j trace.exit_in within) refl (exits_kept before count j traces within)
