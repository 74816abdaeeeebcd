-- A bench stays ready.
use Rattle.std.proofs.Common.{◌≡◌, ℕ, ◌+◌, ◌*◌, ◌-◌, ◌<◌, ◌≤◌, zero, suc, Bool, true, false, cond, List, [], ◌∷◌, ◌++◌, length, take, drop, get_or, All, inl, inr, refl, ap, sym, ◌∙◌, subst, arith, Vec, Global, vec_capacity}
use Rattle.std.specs.Prelude.{MatchBool}
use Rattle.std.proofs.lemmas.Bool.{cases_lt}
use Rattle.std.proofs.lemmas.List.{length-take, length_push, take-take, get_or_append_left, get_or-append_right, get_or-take, get_or_past}
use Rattle.std.proofs.lemmas.List.Elements.{All-weaker, All-push, All-take}
use Rattle.gp_clause.specs.declared.edge.Edge.{Edge}
use Rattle.gp_clause.specs.declared.kind.Kind.{Kind}
use Rattle.gp_clause.specs.declared.lit.Lit.{Lit}
use Rattle.gp_clause.specs.Clause.{NamesBelow, NamesOnce}
use Rattle.gp_clause.specs.Problem.{IsValidKind}
use Rattle.gp_difference.specs.Graph.{GraphForm}
use Rattle.gp_difference.specs.declared.bound.Bound.{Bound}
use Rattle.gp_clause.specs.Walk.{HasNegativeCycle}
use Rattle.gp_certificate.specs.declared.assignment.Assignment.{Assignment}
use Rattle.gp_certificate.specs.declared.level.Level.{Level}
use Rattle.gp_certificate.specs.declared.places.Places.{Places}
use Rattle.gp_certificate.specs.declared.bench.Bench.TheInside.{Inside}
use Rattle.gp_certificate.specs.Bench.{BenchForm, IsReady, stack_of}
use Rattle.gp_certificate.specs.Levels.IsStack.{base}
use Rattle.gp_certificate.specs.Assignment.{IsKept}
use Rattle.gp_certificate.specs.ClauseList.{ListForm, joined}
use Rattle.gp_certificate.specs.Widening.{KeepsValues, KeepsPlaces, KeepsLoaded, KeepsLists, KeepsLevels, HasRoom}
use Rattle.gp_certificate.specs.Counting.{standing, AreExact, IsExact}
use Rattle.gp_certificate.specs.Rows.{code_of, clause_at, left_at}
use Rattle.gp_certificate.proofs.Counts.{all_stand}
use Rattle.gp_certificate.specs.Loaded.{LoadedForm}
use Rattle.gp_certificate.specs.Places.{AreFixed}
use Rattle.gp_certificate.proofs.Levelling.{stack_none, joined_first, once_first, below_first}
use Rattle.gp_certificate.proofs.Owning.{names_fewer}

-- places with another graph of the same edges
pub fixed_with : (old new : Places) → new ≡ record old { graph = new.graph } → new.graph.edges ≡ old.graph.edges → AreFixed old → AreFixed new
fixed_with old new same held fixed =
    let Q : Bool → List Edge → List Edge → Type 0 = λ cyclic edges graph. MatchBool cyclic (HasNegativeCycle edges) ((graph ≡ edges) × (HasNegativeCycle edges → ⊥)) in
    let cyclic : old.cyclic ≡ new.cyclic = ap (λ (p : Places). p.cyclic) (sym same) in
    let edges : old.edges ≡ new.edges = ap (λ (p : Places). p.edges) (sym same) in
    subst (λ b. Q b new.edges new.graph.edges) cyclic (subst (λ es. Q old.cyclic es new.graph.edges) edges (subst (λ es. Q old.cyclic old.edges es) (sym held) fixed))

-- an assignment that was cut is gone through as far as before
pub exact_cut : (old new : Assignment) (loaded : LoadedForm) (count : ℕ) → IsExact old loaded → new.cursor ≡ old.cursor → new.trail.items ≡ take count old.trail.items → old.cursor ≤ count → count ≤ length old.trail.items
    → IsExact new loaded
exact_cut old new loaded count exact cursor trail before within = record {
  within = omega (arith, cursor, before, within, ap (λ (ls : List Lit). length ls) trail, length-take count old.trail.items);
  counts = subst (λ ls. AreExact ls loaded.clauses loaded.left)
      (sym (take-take old.cursor count old.trail.items before) ∙ ap (take old.cursor) (sym trail) ∙ ap (λ n. take n new.trail.items) (sym cursor)) exact.counts;
}

-- the variables of the first levels
pub below_take : (count : ℕ) (lists : List (List Lit)) (levels : ℕ) → NamesBelow count (joined lists) → NamesBelow count (joined (take levels lists))
below_take count lists levels below = below_first count (joined (take levels lists)) (joined (drop levels lists)) (subst (λ ls. NamesBelow count ls) (joined_first lists levels) below)

pub once_take : (lists : List (List Lit)) (levels : ℕ) → NamesOnce (joined lists) → NamesOnce (joined (take levels lists))
once_take lists levels once = once_first (joined (take levels lists)) (joined (drop levels lists)) (subst (λ ls. NamesOnce ls) (joined_first lists levels) once)

-- the loaded clauses have none of the locals
pub still_within : (form view : BenchForm) (kinds : ℕ) → form ≡ view → length view.lasting ≤ kinds → All (NamesBelow (length form.lasting)) form.loaded → All (NamesBelow kinds) view.loaded
still_within form view kinds is most within =
    names_fewer (length view.lasting) kinds view.loaded most (subst (λ (b : BenchForm). All (NamesBelow (length b.lasting)) b.loaded) is within)

-- rows for all literals of some variables
pub coded_below : (count rows : ℕ) (lits : List Lit) → 2 * count ≤ rows → NamesBelow count lits → All (λ lit. code_of lit < rows) lits
coded_below count rows lits enough below = All-weaker (λ (l : Lit). l.variable < count) (λ lit. code_of lit < rows) (λ l within. at l.positive l.variable within) lits below
  where
    at : (b : Bool) (v : ℕ) → v < count → 2 * v + cond b 1 0 < rows
    at true v within = omega (arith, within, enough)
    at false v within = omega (arith, within, enough)

-- counts and clauses at the start
pub exact_loaded : (assignment : Assignment) (old new : LoadedForm) (clause : List Lit) → assignment.cursor ≡ 0 → new ≡ record old { clauses = old.clauses ++ clause ∷ []; left = old.left ++ length clause ∷ [] } → IsExact assignment old → IsExact assignment new
exact_loaded assignment old new clause none is exact = record {
  within = exact.within;
  counts = subst (λ (l : LoadedForm). AreExact (take assignment.cursor assignment.trail.items) l.clauses l.left) (sym is)
      (subst (λ n. AreExact (take n assignment.trail.items) (old.clauses ++ clause ∷ []) (old.left ++ length clause ∷ [])) (sym none) (record {
        size = omega (arith, counts.size, length_push old.left (length clause), length_push old.clauses clause);
        each = λ number. elim (cases_lt number (length old.clauses)) [
          | inl inside ↦
              get_or_append_left old.left (length clause ∷ []) 0 number (omega (arith, inside, counts.size)) ∙ counts.each number ∙ ap (standing []) (sym (get_or_append_left old.clauses (clause ∷ []) [] number inside))
          | inr past ↦
              get_or-append_right old.left (length clause ∷ []) (length old.clauses) number 0 counts.size past ∙ at (number - length old.clauses)
              ∙ ap (standing []) (sym (get_or-append_right old.clauses (clause ∷ []) (length old.clauses) number [] refl past))
        ];
      }));
}
  where
    counts : AreExact [] old.clauses old.left
    counts = subst (λ n. AreExact (take n assignment.trail.items) old.clauses old.left) none exact.counts

    at : (n : ℕ) → get_or (length clause ∷ []) n 0 ≡ standing [] (get_or (clause ∷ []) n [])
    at zero = sym (all_stand clause)
    at (suc n) = refl

pub exact_unloaded : (assignment : Assignment) (old new : LoadedForm) (count : ℕ) → assignment.cursor ≡ 0 → new ≡ record old { clauses = take count old.clauses; left = take count old.left } → IsExact assignment old → IsExact assignment new
exact_unloaded assignment old new count none is exact = record {
  within = exact.within;
  counts = subst (λ (l : LoadedForm). AreExact (take assignment.cursor assignment.trail.items) l.clauses l.left) (sym is)
      (subst (λ n. AreExact (take n assignment.trail.items) (take count old.clauses) (take count old.left)) (sym none) (record {
        size = omega (arith, counts.size, length-take count old.left, length-take count old.clauses);
        each = λ number. elim (cases_lt number count) [
          | inl inside ↦ get_or-take count old.left number 0 inside ∙ counts.each number ∙ ap (standing []) (sym (get_or-take count old.clauses number [] inside))
          | inr past ↦
              get_or_past (take count old.left) number 0 (omega (arith, past, length-take count old.left))
              ∙ ap (standing []) (sym (get_or_past (take count old.clauses) number [] (omega (arith, past, length-take count old.clauses))))
        ];
      }));
}
  where
    counts : AreExact [] old.clauses old.left
    counts = subst (λ n. AreExact (take n assignment.trail.items) old.clauses old.left) none exact.counts

-- with other clauses, where nothing is assumed
pub ready_loaded : (b : Inside) (loaded : LoadedForm) → IsReady b → b.assumed.lists ≡ [] → All (NamesBelow (length b.kinds.items)) loaded.clauses → All NamesOnce loaded.clauses → loaded.rows ≡ b.loaded.rows
    → IsExact b.assignment loaded
    → IsReady (record { kinds = b.kinds; lasting = b.lasting; assignment = b.assignment; places = b.places; loaded = loaded; assumed = b.assumed; levels = b.levels })
ready_loaded b loaded ready nothing within once rows exact = record {
  kept = ready.kept;
  size = ready.size;
  lasting = ready.lasting;
  few = ready.few;
  kinds = ready.kinds;
  fixed = ready.fixed;
  room = ready.room;
  within = within;
  once = once;
  rows = omega (arith, ready.rows, rows);
  exact = exact;
  stack = base (stack_of b) (stack_none b.places.edges b.kinds.items b.loaded.clauses (stack_of b) ready.stack nothing);
  below = ready.below;
  names = ready.names;
  levels = ready.levels;
  lits = ready.lits;
  lists = ready.lists;
}

pub ready_pushed : (b : Inside) (loaded : LoadedForm) (clause : List Lit) → IsReady b → b.assumed.lists ≡ [] → loaded ≡ record b.loaded { clauses = b.loaded.clauses ++ clause ∷ []; left = b.loaded.left ++ length clause ∷ [] }
    → NamesBelow (length b.kinds.items) clause → NamesOnce clause
    → IsReady (record { kinds = b.kinds; lasting = b.lasting; assignment = b.assignment; places = b.places; loaded = loaded; assumed = b.assumed; levels = b.levels })
ready_pushed b loaded clause ready nothing is below once =
    let clauses : loaded.clauses ≡ b.loaded.clauses ++ clause ∷ [] = ap (λ (l : LoadedForm). l.clauses) is in
    let none = stack_none b.places.edges b.kinds.items b.loaded.clauses (stack_of b) ready.stack nothing in
    ready_loaded b loaded ready nothing (subst (λ cs. All (NamesBelow (length b.kinds.items)) cs) (sym clauses) (All-push (NamesBelow (length b.kinds.items)) b.loaded.clauses clause ready.within below))
    (subst (λ cs. All NamesOnce cs) (sym clauses) (All-push NamesOnce b.loaded.clauses clause ready.once once)) (ap (λ (l : LoadedForm). l.rows) is)
    (exact_loaded b.assignment b.loaded loaded clause none.cursor is ready.exact)

pub ready_cut : (b : Inside) (loaded : LoadedForm) (count : ℕ) → IsReady b → b.assumed.lists ≡ [] → loaded ≡ record b.loaded { clauses = take count b.loaded.clauses; left = take count b.loaded.left }
    → IsReady (record { kinds = b.kinds; lasting = b.lasting; assignment = b.assignment; places = b.places; loaded = loaded; assumed = b.assumed; levels = b.levels })
ready_cut b loaded count ready nothing is =
    let clauses : loaded.clauses ≡ take count b.loaded.clauses = ap (λ (l : LoadedForm). l.clauses) is in
    let none = stack_none b.places.edges b.kinds.items b.loaded.clauses (stack_of b) ready.stack nothing in
    ready_loaded b loaded ready nothing (subst (λ cs. All (NamesBelow (length b.kinds.items)) cs) (sym clauses) (All-take (NamesBelow (length b.kinds.items)) count b.loaded.clauses ready.within))
    (subst (λ cs. All NamesOnce cs) (sym clauses) (All-take NamesOnce count b.loaded.clauses ready.once)) (ap (λ (l : LoadedForm). l.rows) is)
    (exact_unloaded b.assignment b.loaded loaded count none.cursor is ready.exact)

pub ready_same : (b : Inside) (loaded : LoadedForm) → IsReady b → loaded ≡ b.loaded
    → IsReady (record { kinds = b.kinds; lasting = b.lasting; assignment = b.assignment; places = b.places; loaded = loaded; assumed = b.assumed; levels = b.levels })
ready_same b loaded ready is =
    subst (λ (l : LoadedForm). IsReady (record { kinds = b.kinds; lasting = b.lasting; assignment = b.assignment; places = b.places; loaded = l; assumed = b.assumed; levels = b.levels })) (sym is) ready

-- with other kinds behind the lasting ones, where nothing is assumed
pub ready_kinds : (b : Inside) (kinds : Vec Kind Global) (assignment : Assignment) (places : Places) (loaded : LoadedForm) (assumed : ListForm) (levels : Vec Level Global) → IsReady b → b.assumed.lists ≡ []
    → b.lasting ≤ length kinds.items → All (IsValidKind b.places.graph.points) kinds.items → All (NamesBelow (length kinds.items)) b.loaded.clauses
    → IsKept assignment → assignment.trail.items ≡ [] → assignment.cursor ≡ b.assignment.cursor → length assignment.values.items ≡ length kinds.items
    → KeepsPlaces b.places places → KeepsLoaded b.loaded loaded → KeepsLists b.assumed assumed → KeepsLevels b.levels levels
    → length kinds.items ≤ places.graph.room → 2 * length kinds.items ≤ loaded.rows → length kinds.items ≤ assumed.room → length kinds.items < assumed.places → length kinds.items < vec_capacity levels
    → IsReady (record { kinds = kinds; lasting = b.lasting; assignment = assignment; places = places; loaded = loaded; assumed = assumed; levels = levels })
ready_kinds b kinds assignment places loaded assumed levels ready nothing lasting valid within is_kept trail cursor size keeps_places keeps_loaded keeps_lists keeps_levels bounds rows lits lists deep =
    let none = stack_none b.places.edges b.kinds.items b.loaded.clauses (stack_of b) ready.stack nothing in
    let clauses : loaded.clauses ≡ b.loaded.clauses = ap (λ (l : LoadedForm). l.clauses) keeps_loaded.same in
    let left : loaded.left ≡ b.loaded.left = ap (λ (l : LoadedForm). l.left) keeps_loaded.same in
    let empty : assumed.lists ≡ [] = keeps_lists.lists ∙ nothing in
    record {
      kept = is_kept;
      size = size;
      lasting = lasting;
      few = ready.few;
      kinds = subst (λ points. All (IsValidKind points) kinds.items) (sym (ap (λ (g : GraphForm). g.points) keeps_places.graph)) valid;
      fixed = fixed_with b.places places keeps_places.same (ap (λ (g : GraphForm). g.edges) keeps_places.graph) ready.fixed;
      room = omega (arith, bounds);
      within = subst (λ cs. All (NamesBelow (length kinds.items)) cs) (sym clauses) within;
      once = subst (λ cs. All NamesOnce cs) (sym clauses) ready.once;
      rows = rows;
      exact = record {
        within = omega (arith, cursor, none.cursor);
        counts = subst (λ cs. AreExact (take assignment.cursor assignment.trail.items) cs loaded.left) (sym clauses) (subst (λ ls. AreExact (take assignment.cursor assignment.trail.items) b.loaded.clauses ls) (sym left)
            (subst (λ ls. AreExact ls b.loaded.clauses b.loaded.left)
            (ap (λ n. take n b.assignment.trail.items) none.cursor ∙ ap (λ n. take n assignment.trail.items) (sym (cursor ∙ none.cursor))) ready.exact.counts));
      };
      stack = base _ (record { assumed = empty; levels = keeps_levels.items ∙ none.levels; trail = trail; kept = ap (λ (g : GraphForm). g.kept) keeps_places.graph ∙ none.kept; cursor = cursor ∙ none.cursor });
      below = subst (λ ls. NamesBelow (length kinds.items) (joined ls)) (sym empty) (λ k d few. absurd (omega (arith, few)));
      names = subst (λ ls. NamesOnce (joined ls)) (sym empty) (λ variable. omega arith);
      levels = deep;
      lits = lits;
      lists = lists;
    }

-- without the kinds behind the lasting ones
pub ready_dropped : (b : Inside) (kinds : Vec Kind Global) (assignment : Assignment) → IsReady b → b.assumed.lists ≡ [] → kinds.items ≡ take b.lasting b.kinds.items
    → All (NamesBelow (length (take b.lasting b.kinds.items))) b.loaded.clauses
    → IsKept assignment → assignment.trail.items ≡ [] → assignment.cursor ≡ b.assignment.cursor → length assignment.values.items ≡ b.lasting
    → IsReady (record { kinds = kinds; lasting = b.lasting; assignment = assignment; places = b.places; loaded = b.loaded; assumed = b.assumed; levels = b.levels })
ready_dropped b kinds assignment ready nothing is within kept trail cursor size =
    let none = stack_none b.places.edges b.kinds.items b.loaded.clauses (stack_of b) ready.stack nothing in
    let short : length kinds.items ≡ b.lasting = omega (arith, ap (λ (ks : List Kind). length ks) is, length-take b.lasting b.kinds.items, ready.lasting) in
    let fewer : length kinds.items ≤ length b.kinds.items = omega (arith, short, ready.lasting) in
    ready_kinds b kinds assignment b.places b.loaded b.assumed b.levels ready nothing (omega (arith, short))
    (subst (λ ks. All (IsValidKind b.places.graph.points) ks) (sym is) (All-take (IsValidKind b.places.graph.points) b.lasting b.kinds.items ready.kinds))
    (subst (λ n. All (NamesBelow n) b.loaded.clauses) (ap (λ (ks : List Kind). length ks) (sym is)) within)
    kept trail cursor (size ∙ sym short)
    (record { same = refl; graph = refl; more = omega arith }) (record { same = refl; more = omega arith }) (record { lists = refl; room = omega arith; places = omega arith }) (record { items = refl; more = omega arith })
    (omega (arith, fewer, ready.room, ap (λ (bs : List Bound). length bs) none.kept)) (omega (arith, fewer, ready.rows)) (omega (arith, fewer, ready.lits)) (omega (arith, fewer, ready.lists)) (omega (arith, fewer, ready.levels))

-- with more room
pub ready_widened : (b : Inside) (assignment : Assignment) (places : Places) (loaded : LoadedForm) (assumed : ListForm) (levels : Vec Level Global) → IsReady b → b.assumed.lists ≡ []
    → KeepsValues b.assignment assignment → KeepsPlaces b.places places → KeepsLoaded b.loaded loaded → KeepsLists b.assumed assumed → KeepsLevels b.levels levels
    → IsReady (record { kinds = b.kinds; lasting = b.lasting; assignment = assignment; places = places; loaded = loaded; assumed = assumed; levels = levels })
ready_widened b assignment places loaded assumed levels ready nothing values keeps_places keeps_loaded keeps_lists keeps_levels =
    let none = stack_none b.places.edges b.kinds.items b.loaded.clauses (stack_of b) ready.stack nothing in
    ready_kinds b b.kinds assignment places loaded assumed levels ready nothing ready.lasting ready.kinds ready.within
    values.kept (values.trail ∙ none.trail) values.cursor (ap (λ vs. length vs) values.values ∙ ready.size) keeps_places keeps_loaded keeps_lists keeps_levels
    (omega (arith, ready.room, ap (λ (bs : List Bound). length bs) none.kept, keeps_places.more)) (omega (arith, ready.rows, keeps_loaded.more)) (omega (arith, ready.lits, keeps_lists.room))
    (omega (arith, ready.lists, keeps_lists.places)) (omega (arith, ready.levels, keeps_levels.more))

-- with more kinds, for which there is room
pub ready_extended : (b : Inside) (count : ℕ) (kinds : Vec Kind Global) (widened assignment : Assignment) (places : Places) (loaded : LoadedForm) (assumed : ListForm) (levels : Vec Level Global) → IsReady b → b.assumed.lists ≡ []
    → length b.kinds.items ≤ length kinds.items → length kinds.items ≤ count → All (IsValidKind b.places.graph.points) kinds.items
    → KeepsValues b.assignment widened → IsKept assignment → assignment.trail.items ≡ [] → assignment.cursor ≡ widened.cursor → length assignment.values.items ≡ length kinds.items
    → KeepsPlaces b.places places → KeepsLoaded b.loaded loaded → KeepsLists b.assumed assumed → KeepsLevels b.levels levels → HasRoom count widened places loaded assumed levels
    → IsReady (record { kinds = kinds; lasting = b.lasting; assignment = assignment; places = places; loaded = loaded; assumed = assumed; levels = levels })
ready_extended b count kinds widened assignment places loaded assumed levels ready nothing more few valid values kept trail cursor size keeps_places keeps_loaded keeps_lists keeps_levels room =
    ready_kinds b kinds assignment places loaded assumed levels ready nothing (omega (arith, more, ready.lasting)) valid (names_fewer (length b.kinds.items) (length kinds.items) b.loaded.clauses more ready.within)
    kept trail (cursor ∙ values.cursor) size keeps_places keeps_loaded keeps_lists keeps_levels
    (omega (arith, few, room.bounds)) (omega (arith, few, room.rows)) (omega (arith, few, room.lits)) (omega (arith, few, room.lists)) (omega (arith, few, room.deep))

-- nothing is loaded, and nothing was gone through
pub exact_none : (assignment : Assignment) (loaded : LoadedForm) → assignment.cursor ≡ 0 → loaded.clauses ≡ [] → loaded.left ≡ [] → IsExact assignment loaded
exact_none assignment loaded none clauses left = record {
  within = omega (arith, none);
  counts = record {
    size = omega (arith, ap (λ (cs : List (List Lit)). length cs) clauses, ap (λ (ns : List ℕ). length ns) left);
    each = λ number. ap (λ ns. left_at ns number) left ∙ get_or_past [] number 0 (omega arith)
        ∙ sym (ap (λ cs. standing (take assignment.cursor assignment.trail.items) (clause_at cs number)) clauses ∙ ap (standing (take assignment.cursor assignment.trail.items)) (get_or_past [] number [] (omega arith)));
  };
}
