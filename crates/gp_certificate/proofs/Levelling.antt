-- Levels of assumptions: one more, and one fewer.
use Rattle.std.proofs.Common.{◌≡◌, ◌≢◌, ℕ, ◌+◌, ◌-◌, ◌<◌, ◌≤◌, Bool, true, false, Option, None, Some, List, [], ◌∷◌, ◌++◌, length, take, drop, get_or, All, Any, Contains, ◌⊎◌, inl, inr, ◌↔◌, refl, ap, sym, ◌∙◌, subst, arith, ◌==◌, eq-eqb}
use Rattle.std.specs.Prelude.{MatchBool, IsTrue}
use Rattle.std.proofs.lemmas.Bool.{false≢true}
use Rattle.std.proofs.lemmas.List.{append-nil, map-append, length-map, length_push, take_at, take-append-drop, take_rest, drop_at, get_or_push, same_from_push, take_all}
use Rattle.std.proofs.lemmas.List.Elements.{All-nil, All-append, All-weaker, All-contains, All-contains_itself, Contains-append_left, Contains-append_right, filter_map-append}
use Rattle.std.proofs.lemmas.List.Concat.{flat_map-append}
use Rattle.gp_base.specs.CountLaws.{count_two}
use Rattle.gp_base.specs.ListLaws.{all_from_contains, contains_map, contains_from_map}
use Rattle.gp_clause.specs.declared.edge.Edge.{Edge}
use Rattle.gp_clause.specs.declared.kind.Kind.{Kind}
use Rattle.gp_clause.specs.declared.lit.Lit.{Lit}
use Rattle.gp_clause.specs.Clause.{NamesBelow, NamesOnce, occurrences}
use Rattle.gp_clause.specs.Closure.{Derived, Conflicts, ClosureIsLeast, IsTrueIn}
use Rattle.gp_clause.specs.Closure.Derived.{given, forced}
use Rattle.gp_clause.specs.ClosureLaws.{derived_more}
use Rattle.gp_clause.specs.Kind.{bound_at}
use Rattle.gp_clause.specs.Lit.{opposite, negations}
use Rattle.gp_clause.specs.LitLaws.{lits_cases, opposite_twice, not_both}
use Rattle.gp_clause.specs.Walk.{HasNegativeCycle}
use Rattle.gp_difference.specs.declared.bound.Bound.{Bound}
use Rattle.gp_difference.specs.Bounds.{edges_of}
use Rattle.gp_difference.specs.Graph.{GraphForm}
use Rattle.gp_certificate.specs.declared.assignment.Assignment.{Assignment}
use Rattle.gp_certificate.specs.declared.level.Level.{Level}
use Rattle.gp_certificate.specs.declared.places.Places.{Places}
use Rattle.gp_certificate.specs.Assignment.{value_of, IsKept, IsClosing}
use Rattle.gp_certificate.specs.ClauseList.{joined}
use Rattle.gp_certificate.specs.Counting.{standing, IsDone, AreDone, HasBegun, IsThrough, Extends}
use Rattle.gp_certificate.specs.LevelLaws.{occurs_append}
use Rattle.gp_certificate.specs.Levels.{Stack, start_of, IsClosed, IsBase, IsNext, IsStack, MayGoOn, IsCarried, IsSettled}
use Rattle.gp_certificate.specs.Levels.IsStack.{base, next}
use Rattle.gp_certificate.specs.Lost.{no_level, is_lost}
use Rattle.gp_certificate.specs.PassingLaws.{refuted_more}
use Rattle.gp_certificate.specs.Places.{bounds_at, AreFixed, KeepsMore, KeepsAll}
use Rattle.gp_certificate.specs.Step.{LeadsToConflict, Passes}
use Rattle.gp_certificate.proofs.Standing.{true_within}
use Rattle.gp_certificate.proofs.Propagating.{all_open, first_on, done_after}
use Rattle.gp_certificate.proofs.Splitting.{joined_push}
use Rattle.gp_certificate.proofs.Trying.{trail_leads, closed_refutes}

pub once_first : (lits more : List Lit) → NamesOnce (lits ++ more) → NamesOnce lits
once_first lits more once variable = let most : occurrences variable (lits ++ more) ≤ 1 = once variable in omega (arith, most, occurs_append variable lits more)

pub below_both : (count : ℕ) (lits more : List Lit) → NamesBelow count lits → NamesBelow count more → NamesBelow count (lits ++ more)
below_both count lits more first second = All-append (λ (l : Lit). l.variable < count) lits more first second

pub below_first : (count : ℕ) (lits more : List Lit) → NamesBelow count (lits ++ more) → NamesBelow count lits
below_first count lits more below =
    all_from_contains (λ (l : Lit). l.variable < count) lits (λ l has. All-contains (λ (l : Lit). l.variable < count) (lits ++ more) l below (Contains-append_left lits more l has))

negations_append : (start lits : List Lit) → negations (start ++ lits) ≡ negations start ++ negations lits
negations_append start lits = map-append opposite start lits

starts_among : (start lits : List Lit) → All (Contains (negations (start ++ lits))) (negations start)
starts_among start lits =
    subst (λ ls. All (Contains ls) (negations start)) (sym (negations_append start lits))
    (All-weaker (Contains (negations start)) (Contains (negations start ++ negations lits)) (λ l has. Contains-append_left (negations start) (negations lits) l has) (negations start) (All-contains_itself (negations start)))

-- what is refuted stays so when more is assumed
pub lost_more : (edges : List Edge) (kinds : List Kind) (clauses : List (List Lit)) (start lits : List Lit) → LeadsToConflict edges kinds clauses (negations start) → LeadsToConflict edges kinds clauses (negations (start ++ lits))
lost_more edges kinds clauses start lits leads = refuted_more edges kinds (negations start) clauses (negations (start ++ lits)) clauses (starts_among start lits) (All-contains_itself clauses) leads

-- edges with a negative cycle refute all
pub cyclic_leads : (edges : List Edge) (kinds : List Kind) (clauses : List (List Lit)) (start : List Lit) → HasNegativeCycle edges → LeadsToConflict edges kinds clauses start
cyclic_leads edges kinds clauses start cycle = inr ([], (λ k d within. absurd (omega (arith, within))), subst HasNegativeCycle (sym (append-nil edges)) cycle)

-- where a literal and its negation are derived, some clause is false
pub clash : (all : List Lit) (clauses : List (List Lit)) (lit : Lit) → NamesOnce all → Derived (negations all) clauses lit → Contains (negations all) (opposite lit) → Conflicts (negations all) clauses
clash all clauses lit once (given l is) has =
    let one = contains_from_map opposite all l is in
    let other = contains_from_map opposite all (opposite l) has in
    let first : one.0 ≡ opposite l = sym (opposite_twice one.0) ∙ ap opposite one.2 in
    let second : other.0 ≡ l = sym (opposite_twice other.0) ∙ ap opposite other.2 ∙ opposite_twice l in
    let apart : one.0 ≢ other.0 = λ same. not_both l.positive (ap (λ (x : Lit). x.positive) (sym second ∙ sym same ∙ first)) in
    absurd (twice (occurrences l.variable all) (count_two (λ (x : Lit). x.variable == l.variable) all one.0 other.0 apart one.1 other.1 (named one.0 first) (named other.0 second)) (once l.variable))
  where
    twice : (n : ℕ) → 2 ≤ n → n ≤ 1 → ⊥
    twice n more less = omega arith

    named : (x : Lit) {y : Lit} → x ≡ y → (x.variable == y.variable) ≡ true
    named x is = ap (λ (z : Lit). x.variable == z.variable) (sym is) ∙ eq-eqb x.variable x.variable refl
clash all clauses lit once (forced clause l one within others) has = (
  clause,
  one,
  λ other is. elim (lits_cases other l) [
    | inl same ↦ subst (λ x. Derived (negations all) clauses (opposite x)) (sym same) (given (opposite l) has)
    | inr apart ↦ others other is apart
  ],
)

-- what is on the trail after literals were made false is derived from the longer start
pub taken_derived : (clauses : List (List Lit)) (start lits : List Lit) (old new : Assignment) → IsClosing (negations start) clauses old → All (λ lit. Contains old.trail.items lit ⊎ Contains (negations lits) lit) new.trail.items
    → All (Derived (negations (start ++ lits)) clauses) new.trail.items
taken_derived clauses start lits old new closing among =
    All-weaker (λ lit. Contains old.trail.items lit ⊎ Contains (negations lits) lit) (Derived (negations (start ++ lits)) clauses) (λ lit state. at lit state) new.trail.items among
  where
    at : (lit : Lit) → Contains old.trail.items lit ⊎ Contains (negations lits) lit → Derived (negations (start ++ lits)) clauses lit
    at lit (inl has) =
        derived_more (negations start) clauses (negations (start ++ lits)) clauses (starts_among start lits) (All-contains_itself clauses) lit
        (All-contains (Derived (negations start) clauses) old.trail.items lit closing.derived has)
    at lit (inr made) = given lit (subst (λ ls. Contains ls lit) (sym (negations_append start lits)) (Contains-append_right (negations start) (negations lits) lit made))

pub taken_closing : (clauses : List (List Lit)) (start lits : List Lit) (old new : Assignment) → IsClosing (negations start) clauses old → Extends old new
    → All (λ lit. Contains old.trail.items lit ⊎ Contains (negations lits) lit) new.trail.items → All (Contains new.trail.items) (negations lits) → IsClosing (negations (start ++ lits)) clauses new
taken_closing clauses start lits old new closing extends among falls = record {
  kept = extends.kept;
  derived = taken_derived clauses start lits old new closing among;
  starts = subst (λ ls. All (Contains new.trail.items) ls) (sym (negations_append start lits))
      (All-append (Contains new.trail.items) (negations start) (negations lits)
      (All-weaker (Contains old.trail.items) (Contains new.trail.items) (λ l has. subst (λ ls. Contains ls l) (sym extends.trail.1) (Contains-append_left old.trail.items extends.trail.0 l has)) (negations start) closing.starts) falls);
}

-- a literal that had to be made false was true
pub taken_clash : (edges : List Edge) (kinds : List Kind) (clauses : List (List Lit)) (start lits : List Lit) (old new : Assignment) → NamesOnce (start ++ lits) → IsClosing (negations start) clauses old
    → All (λ lit. Contains old.trail.items lit ⊎ Contains (negations lits) lit) new.trail.items → Any (Contains new.trail.items) lits → LeadsToConflict edges kinds clauses (negations (start ++ lits))
taken_clash edges kinds clauses start lits old new once closing among (k, lit, within, is, has) =
    inl (clash (start ++ lits) clauses lit once (All-contains (Derived (negations (start ++ lits)) clauses) new.trail.items lit (taken_derived clauses start lits old new closing among) has)
    (contains_map opposite (start ++ lits) lit (Contains-append_right start lits lit (k, within, is))))

-- the bounds of a trail that went on
whole_bounds : (kinds : List Kind) (held : List Edge) (front more trail : List Lit) → held ≡ bounds_at kinds front → trail ≡ front ++ more → held ++ bounds_at kinds (drop (length front) trail) ≡ bounds_at kinds trail
whole_bounds kinds held front more trail is grown =
    let rest : drop (length front) trail ≡ more = ap (drop (length front)) grown ∙ drop_at front more (length front) refl in
    ap (λ es. es ++ bounds_at kinds (drop (length front) trail)) is ∙ ap (λ ls. bounds_at kinds front ++ bounds_at kinds ls) rest ∙ sym (filter_map-append (bound_at kinds) front more) ∙ ap (bounds_at kinds) (sym grown)

-- what keeping the bounds of a whole trail tells
pub extend_gives : (edges : List Edge) (kinds : List Kind) (clauses : List (List Lit)) (start : List Lit) (old new : Assignment) (before after : GraphForm) (answer : Bool) → edges_of before.kept ≡ bounds_at kinds old.trail.items → Extends old new
    → IsClosing start clauses new → IsThrough new clauses
    → MatchBool answer (HasNegativeCycle (edges ++ (edges_of before.kept ++ bounds_at kinds (drop (length old.trail.items) new.trail.items)))) (KeepsAll edges kinds (drop (length old.trail.items) new.trail.items) before after)
    → MatchBool answer (LeadsToConflict edges kinds clauses start) (IsSettled edges kinds clauses start new after)
extend_gives edges kinds clauses start old new before after true bounds extends closing through cycle =
    trail_leads edges kinds start clauses new closing
    (subst (λ es. HasNegativeCycle (edges ++ es)) (whole_bounds kinds (edges_of before.kept) old.trail.items extends.trail.0 new.trail.items bounds extends.trail.1) cycle)
extend_gives edges kinds clauses start old new before after false bounds extends closing through kept = record {
  carried = record { closing = closing; bounds = kept.bounds ∙ whole_bounds kinds (edges_of before.kept) old.trail.items extends.trail.0 new.trail.items bounds extends.trail.1 };
  through = through;
  acyclic = kept.acyclic;
}

few_bounds : (kinds : List Kind) (lits : List Lit) → length (bounds_at kinds lits) ≤ length lits
few_bounds kinds [] = omega arith
few_bounds kinds (lit ∷ lits) = at (bound_at kinds lit) refl (few_bounds kinds lits)
  where
    at : (o : Option Edge) → bound_at kinds lit ≡ o → length (bounds_at kinds lits) ≤ length lits → length (bounds_at kinds (lit ∷ lits)) ≤ length (lit ∷ lits)
    at None none rest = rw none (omega (arith, rest))
    at (Some edge) some rest = rw some (omega (arith, rest))

-- the last of some levels
last_lost : (levels front : List Level) (level : Level) → levels ≡ front ++ level ∷ [] → is_lost levels ≡ level.refutes
last_lost levels front level is =
    let size : length levels ≡ length front + 1 = ap (λ (ls : List Level). length ls) is ∙ length_push front level in
    let place : length front ≡ length levels - 1 = omega (arith, size) in
    ap (λ (l : Level). l.refutes) (ap (λ ls. get_or ls (length levels - 1) no_level) is ∙ get_or_push front level no_level (length levels - 1) place)

none_lost : (levels : List Level) → levels ≡ [] → is_lost levels ≡ false
none_lost levels is = ap is_lost is

-- what an assignment and a graph that stand at a level know
pub carried_at : (edges : List Edge) (kinds : List Kind) (clauses : List (List Lit)) (stack : Stack) (assignment : Assignment) (graph : GraphForm) → stack.trail ≡ assignment.trail.items → stack.kept ≡ graph.kept
    → IsKept assignment → IsStack edges kinds clauses stack → MatchBool (is_lost stack.levels) (LeadsToConflict edges kinds clauses (start_of stack)) (IsCarried kinds clauses (start_of stack) assignment graph)
carried_at edges kinds clauses stack assignment graph trail bounds kept (base s none) =
    let start : start_of s ≡ [] = ap (λ ls. negations (joined ls)) none.assumed in
    let empty : assignment.trail.items ≡ [] = sym trail ∙ none.trail in
    subst (λ b. MatchBool b (LeadsToConflict edges kinds clauses (start_of s)) (IsCarried kinds clauses (start_of s) assignment graph)) (sym (none_lost s.levels none.levels))
    (record {
      closing = record {
        kept = kept;
        derived = subst (λ ls. All (Derived (start_of s) clauses) ls) (sym empty) (All-nil (Derived (start_of s) clauses));
        starts = subst (λ ls. All (Contains assignment.trail.items) ls) (sym start) (All-nil (Contains assignment.trail.items));
      };
      bounds = ap edges_of (sym bounds ∙ none.kept) ∙ ap (bounds_at kinds) (sym empty);
    })
carried_at edges kinds clauses stack assignment graph trail bounds kept (next outer s lits level below one) =
    subst (λ b. MatchBool b (LeadsToConflict edges kinds clauses (start_of s)) (IsCarried kinds clauses (start_of s) assignment graph)) (sym (last_lost s.levels outer.levels level one.levels)) (at level.refutes one.tells)
  where
    at : (b : Bool) → MatchBool b (LeadsToConflict edges kinds clauses (start_of s)) (IsClosed edges kinds clauses s) → MatchBool b (LeadsToConflict edges kinds clauses (start_of s)) (IsCarried kinds clauses (start_of s) assignment graph)
    at true leads = leads
    at false closed = record {
      closing = record {
        kept = kept;
        derived = subst (λ ls. All (Derived (start_of s) clauses) ls) trail closed.derived;
        starts = subst (λ ls. All (Contains ls) (start_of s)) trail closed.starts;
      };
      bounds = ap edges_of (sym bounds) ∙ closed.bounds ∙ ap (bounds_at kinds) trail;
    }

-- clauses that need no look, told by what is true and by the trail
done_told : (assignment : Assignment) (clauses : List (List Lit)) → IsKept assignment → All (λ clause. Any (Contains assignment.trail.items) clause ⊎ (2 ≤ standing assignment.trail.items clause)) clauses
    → AreDone assignment.trail.items assignment.values.items clauses
done_told assignment clauses kept done =
    All-weaker (λ clause. Any (Contains assignment.trail.items) clause ⊎ (2 ≤ standing assignment.trail.items clause)) (IsDone assignment.trail.items assignment.values.items) (λ clause state. at clause state) clauses done
  where
    at : (clause : List Lit) → Any (Contains assignment.trail.items) clause ⊎ (2 ≤ standing assignment.trail.items clause) → IsDone assignment.trail.items assignment.values.items clause
    at clause (inl (k, lit, within, is, has)) = inl (k, lit, within, is, All-contains (IsTrueIn (value_of assignment.values.items)) assignment.trail.items lit kept.noted has)
    at clause (inr two) = inr two

done_trailed : (assignment : Assignment) (clauses : List (List Lit)) → IsKept assignment → AreDone assignment.trail.items assignment.values.items clauses
    → All (λ clause. Any (Contains assignment.trail.items) clause ⊎ (2 ≤ standing assignment.trail.items clause)) clauses
done_trailed assignment clauses kept done =
    All-weaker (IsDone assignment.trail.items assignment.values.items) (λ clause. Any (Contains assignment.trail.items) clause ⊎ (2 ≤ standing assignment.trail.items clause)) (λ clause state. at clause state) clauses done
  where
    at : (clause : List Lit) → IsDone assignment.trail.items assignment.values.items clause → Any (Contains assignment.trail.items) clause ⊎ (2 ≤ standing assignment.trail.items clause)
    at clause (inl (k, lit, within, is, holds)) = inl (k, lit, within, is, kept.trailed lit holds)
    at clause (inr two) = inr two

pub may_go_on : (edges : List Edge) (kinds : List Kind) (clauses : List (List Lit)) (stack : Stack) (assignment : Assignment) (places : Places) → stack.trail ≡ assignment.trail.items → stack.kept ≡ places.graph.kept
    → stack.cursor ≡ assignment.cursor → edges ≡ places.edges → IsKept assignment → AreFixed places → IsStack edges kinds clauses stack → is_lost stack.levels ≡ false
    → MayGoOn edges places.cyclic assignment places.graph clauses
may_go_on edges kinds clauses stack assignment places trail bounds cursor same kept fixed (base s none) lost = record {
  begun = inl (sym cursor ∙ none.cursor);
  few = omega (arith, ap (λ (bs : List Bound). length bs) (sym bounds ∙ none.kept));
  acyclic = λ plain cycle.
      let both : (places.graph.edges ≡ places.edges) × (HasNegativeCycle places.edges → ⊥) =
      subst (λ b. MatchBool b (HasNegativeCycle places.edges) ((places.graph.edges ≡ places.edges) × (HasNegativeCycle places.edges → ⊥))) plain fixed in
      let whole : edges ++ edges_of places.graph.kept ≡ places.edges = ap (λ bs. edges ++ edges_of bs) (sym bounds ∙ none.kept) ∙ append-nil edges ∙ same in
      both.1 (subst HasNegativeCycle whole cycle);
}
may_go_on edges kinds clauses stack assignment places trail bounds cursor same kept fixed (next outer s lits level below one) lost =
    let plain : level.refutes ≡ false = sym (last_lost s.levels outer.levels level one.levels) ∙ lost in
    let closed : IsClosed edges kinds clauses s = subst (λ b. MatchBool b (LeadsToConflict edges kinds clauses (start_of s)) (IsClosed edges kinds clauses s)) plain one.tells in
    let through : assignment.cursor ≡ length assignment.trail.items = sym cursor ∙ closed.all ∙ ap (λ (ls : List Lit). length ls) trail in
    let done : AreDone assignment.trail.items assignment.values.items clauses =
    done_told assignment clauses kept (subst (λ ls. All (λ clause. Any (Contains ls) clause ⊎ (2 ≤ standing ls clause)) clauses) trail closed.done) in
    record {
      begun = inr (subst (λ ls. AreDone ls assignment.values.items clauses) (sym (take_all assignment.cursor assignment.trail.items (omega (arith, through)))) done);
      few = omega (
        arith,
        few_bounds kinds s.trail,
        ap (λ (es : List Edge). length es) closed.bounds,
        length-map s.kept (λ (b : Bound). b.edge),
        ap (λ (ls : List Lit). length ls) trail,
        ap (λ (bs : List Bound). length bs) bounds,
      );
      acyclic = λ _. subst (λ bs. HasNegativeCycle (edges ++ edges_of bs) → ⊥) bounds closed.acyclic;
    }

-- one more level
pub next_stack : (edges : List Edge) (kinds : List Kind) (clauses : List (List Lit)) (outer stack : Stack) (lits : List Lit) (level : Level) (old new : Assignment) (before after : GraphForm) → IsStack edges kinds clauses outer
    → outer.trail ≡ old.trail.items → outer.kept ≡ before.kept → outer.cursor ≡ old.cursor → stack.trail ≡ new.trail.items → stack.kept ≡ after.kept → stack.cursor ≡ new.cursor
    → stack.assumed ≡ outer.assumed ++ lits ∷ [] → stack.levels ≡ outer.levels ++ level ∷ [] → level.trail ≡ length old.trail.items → level.bounds ≡ length before.kept → level.cursor ≡ old.cursor
    → old.cursor ≤ length old.trail.items → old.cursor ≤ new.cursor → IsKept new → Extends old new → KeepsMore before after
    → MatchBool level.refutes (LeadsToConflict edges kinds clauses (negations (joined outer.assumed ++ lits))) (IsSettled edges kinds clauses (negations (joined outer.assumed ++ lits)) new after)
    → IsStack edges kinds clauses stack
next_stack edges kinds clauses outer stack lits level old new before after below trail kept cursor trail_new kept_new cursor_new assumed levels trail_mark bound_mark cursor_mark within onward is_kept extends more tells =
    next outer stack lits level below (record {
      assumed = assumed;
      levels = levels;
      trail = (extends.trail.0, trail_new ∙ extends.trail.1 ∙ ap (λ ls. ls ++ extends.trail.0) (sym trail));
      kept = (more.kept.0, kept_new ∙ more.kept.1 ∙ ap (λ bs. bs ++ more.kept.0) (sym kept));
      onward = omega (arith, cursor, cursor_new, onward);
      within = omega (arith, cursor, within, ap (λ (ls : List Lit). length ls) trail);
      trail_mark = trail_mark ∙ ap (λ (ls : List Lit). length ls) (sym trail);
      bound_mark = bound_mark ∙ ap (λ (bs : List Bound). length bs) (sym kept);
      cursor_mark = cursor_mark ∙ sym cursor;
      tells = at level.refutes (subst (λ ls. MatchBool level.refutes (LeadsToConflict edges kinds clauses (negations ls)) (IsSettled edges kinds clauses (negations ls) new after)) (sym all) tells);
    })
  where
    all : joined stack.assumed ≡ joined outer.assumed ++ lits
    all = ap joined assumed ∙ joined_push outer.assumed lits

    at : (b : Bool) → MatchBool b (LeadsToConflict edges kinds clauses (start_of stack)) (IsSettled edges kinds clauses (start_of stack) new after) → MatchBool b (LeadsToConflict edges kinds clauses (start_of stack)) (IsClosed edges kinds clauses stack)
    at true leads = leads
    at false settled = record {
      derived = subst (λ ls. All (Derived (start_of stack) clauses) ls) (sym trail_new) settled.carried.closing.derived;
      starts = subst (λ ls. All (Contains ls) (start_of stack)) (sym trail_new) settled.carried.closing.starts;
      done = subst (λ ls. All (λ clause. Any (Contains ls) clause ⊎ (2 ≤ standing ls clause)) clauses) (sym trail_new) (done_trailed new clauses is_kept settled.through.done);
      bounds = ap edges_of kept_new ∙ settled.carried.bounds ∙ ap (bounds_at kinds) (sym trail_new);
      acyclic = subst (λ bs. HasNegativeCycle (edges ++ edges_of bs) → ⊥) (sym kept_new) settled.acyclic;
      all = cursor_new ∙ settled.through.all ∙ ap (λ (ls : List Lit). length ls) (sym trail_new);
    }

-- where nothing is assumed, nothing is true or kept
pub stack_none : (edges : List Edge) (kinds : List Kind) (clauses : List (List Lit)) (stack : Stack) → IsStack edges kinds clauses stack → stack.assumed ≡ [] → IsBase stack
stack_none edges kinds clauses stack (base s none) empty = none
stack_none edges kinds clauses stack (next outer s lits level below one) empty =
    absurd (omega (arith, length_push outer.assumed lits, ap (λ (ls : List (List Lit)). length ls) (sym one.assumed ∙ empty)))

pub stack_sizes : (edges : List Edge) (kinds : List Kind) (clauses : List (List Lit)) (stack : Stack) → IsStack edges kinds clauses stack → length stack.levels ≡ length stack.assumed
stack_sizes edges kinds clauses stack (base s none) = omega (arith, ap (λ (ls : List Level). length ls) none.levels, ap (λ (ls : List (List Lit)). length ls) none.assumed)
stack_sizes edges kinds clauses stack (next outer s lits level below one) =
    omega (
      arith,
      stack_sizes edges kinds clauses outer below,
      ap (λ (ls : List Level). length ls) one.levels,
      ap (λ (ls : List (List Lit)). length ls) one.assumed,
      length_push outer.levels level,
      length_push outer.assumed lits,
    )

-- the innermost level, and what stood below it
pub stack_top : (edges : List Edge) (kinds : List Kind) (clauses : List (List Lit)) (stack : Stack) (front : List Level) (last : Level) → IsStack edges kinds clauses stack → stack.levels ≡ front ++ last ∷ []
    → (outer : Stack) × (lits : List Lit) × IsStack edges kinds clauses outer × IsNext edges kinds clauses outer lits last stack × (outer.levels ≡ front)
stack_top edges kinds clauses stack front last (base s none) is = absurd (omega (arith, length_push front last, ap (λ (ls : List Level). length ls) (sym is ∙ none.levels)))
stack_top edges kinds clauses stack front last (next outer s lits level below one) is =
    let both = same_from_push outer.levels front level last (sym one.levels ∙ is) in
    (outer, lits, below, subst (λ l. IsNext edges kinds clauses outer lits l s) both.1 one, both.0)

-- where the innermost level is taken back, what stood below it stands again
pub stack_back : (edges : List Edge) (kinds : List Kind) (clauses : List (List Lit)) (stack back outer : Stack) (lits : List Lit) (level : Level) (front : List Level) → IsStack edges kinds clauses outer
    → IsNext edges kinds clauses outer lits level stack → outer.levels ≡ front → back.assumed ≡ take (length front) stack.assumed → back.levels ≡ front → back.trail ≡ take level.trail stack.trail
    → back.kept ≡ take level.bounds stack.kept → back.cursor ≡ level.cursor → IsStack edges kinds clauses back
stack_back edges kinds clauses stack back outer lits level front below one is assumed levels trail kept cursor =
    subst (IsStack edges kinds clauses) (sym same) below
  where
    size : length outer.assumed ≡ length front
    size = sym (stack_sizes edges kinds clauses outer below) ∙ ap (λ (ls : List Level). length ls) is

    same : back ≡ outer
    same = λ i. record {
      assumed = (assumed ∙ ap (take (length front)) one.assumed ∙ take_at outer.assumed (lits ∷ []) (length front) size) i;
      levels = (levels ∙ sym is) i;
      trail = (trail ∙ ap (take level.trail) one.trail.1 ∙ take_at outer.trail one.trail.0 level.trail (sym one.trail_mark)) i;
      kept = (kept ∙ ap (take level.bounds) one.kept.1 ∙ take_at outer.kept one.kept.0 level.bounds (sym one.bound_mark)) i;
      cursor = (cursor ∙ one.cursor_mark) i;
    }

-- whether the innermost level refutes tells whether all that is assumed passes
pub stack_refuted : ClosureIsLeast → (edges : List Edge) (kinds : List Kind) (clauses : List (List Lit)) (stack : Stack) (assignment : Assignment) (answer : Bool) → stack.trail ≡ assignment.trail.items → IsKept assignment
    → All NamesOnce clauses → NamesBelow (length kinds) (joined stack.assumed) → IsStack edges kinds clauses stack → stack.assumed ≢ [] → answer ≡ is_lost stack.levels
    → IsTrue answer ↔ Passes edges kinds clauses (joined stack.assumed)
stack_refuted least edges kinds clauses stack assignment answer trail kept once below (base s none) some is = absurd (some none.assumed)
stack_refuted least edges kinds clauses stack assignment answer trail kept once below (next outer s lits level lower one) some is =
    subst (λ b. IsTrue b ↔ Passes edges kinds clauses (joined s.assumed)) (sym (is ∙ last_lost s.levels outer.levels level one.levels)) (at level.refutes one.tells)
  where
    at : (b : Bool) → MatchBool b (LeadsToConflict edges kinds clauses (start_of s)) (IsClosed edges kinds clauses s) → IsTrue b ↔ Passes edges kinds clauses (joined s.assumed)
    at true leads = (λ _. record { in_range = below; refuted = leads }, λ _. refl)
    at false closed = (λ wrong. absurd (false≢true wrong), λ passes. absurd (never passes.refuted))
      where
        closing : IsClosing (start_of s) clauses assignment
        closing = record {
          kept = kept;
          derived = subst (λ ls. All (Derived (start_of s) clauses) ls) trail closed.derived;
          starts = subst (λ ls. All (Contains ls) (start_of s)) trail closed.starts;
        }

        done : AreDone assignment.trail.items assignment.values.items clauses
        done = done_told assignment clauses kept (subst (λ ls. All (λ clause. Any (Contains ls) clause ⊎ (2 ≤ standing ls clause)) clauses) trail closed.done)

        never : LeadsToConflict edges kinds clauses (start_of s) → ⊥
        never leads =
            let cycle : HasNegativeCycle (edges ++ bounds_at kinds assignment.trail.items) = (closed_refutes least edges kinds (start_of s) clauses assignment closing (all_open assignment clauses kept once done)).1 leads in
            closed.acyclic (subst (λ es. HasNegativeCycle (edges ++ es)) (sym (closed.bounds ∙ ap (bounds_at kinds) trail)) cycle)

-- joined lists that begin alike
pub joined_first : (lists : List (List Lit)) (count : ℕ) → joined lists ≡ joined (take count lists) ++ joined (drop count lists)
joined_first lists count = ap joined (sym (take-append-drop count lists)) ∙ flat_map-append (λ (ls : List Lit). ls) (take count lists) (drop count lists)

-- a propagation has begun, or not, whatever was made false since
pub begun_taken : (old new : Assignment) (clauses : List (List Lit)) → Extends old new → new.cursor ≡ old.cursor → old.cursor ≤ length old.trail.items → HasBegun old clauses → HasBegun new clauses
begun_taken old new clauses extends cursor within (inl none) = inl (cursor ∙ none)
begun_taken old new clauses extends cursor within (inr done) =
    let first : take new.cursor new.trail.items ≡ take old.cursor old.trail.items = ap (λ n. take n new.trail.items) cursor ∙ first_on old new old.cursor extends within in
    inr (subst (λ ls. AreDone ls new.values.items clauses) (sym first)
    (All-weaker (IsDone (take old.cursor old.trail.items) old.values.items) (IsDone (take old.cursor old.trail.items) new.values.items) (λ clause state. done_after old new (take old.cursor old.trail.items) clause extends state) clauses done))

-- the variables of a trail are those that there are
pub trail_below : (assignment : Assignment) (count : ℕ) → IsKept assignment → length assignment.values.items ≡ count → NamesBelow count assignment.trail.items
trail_below assignment count kept size =
    All-weaker (IsTrueIn (value_of assignment.values.items)) (λ (l : Lit). l.variable < count) (λ l holds. omega (arith, true_within assignment.values.items l holds, size)) assignment.trail.items kept.noted

-- what stands behind a place
pub tail_is : (from all : List Lit) (start trail : List Lit) → from ≡ start → all ≡ trail → take (length all - length from) (drop (length from) all) ≡ drop (length start) trail
tail_is from all start trail first second = take_rest all (length from) ∙ (λ i. drop (length (first i)) (second i))
