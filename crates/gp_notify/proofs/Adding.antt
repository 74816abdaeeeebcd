-- A model of a window and a query that says what a signalled schedule does, with the variables of signals added: a model of
-- the problem with signals and the lifted query.
use Rattle.std.proofs.Common.{ℕ, ◌≡◌, ◌<◌, ◌≤◌, ◌+◌, ◌-◌, ap, sym, ◌∙◌, refl, subst, inl, inr, List, [], ◌∷◌, ◌++◌, length, Bool, true, false, arith}
use Rattle.std.specs.Prelude.{ℤ, pos, ◌-ℤ◌, ◌<ℤ◌, ◌≤ℤ◌, ◌==◌, ◌≢◌, Contains, if◌then◌else◌, int_le, int_lt, nat_lt, not, Some, slice_get}
use Rattle.std.proofs.lemmas.Bool.{cases_Bool, cases_lt, false_from_ne_true, le-ltb, lt-ltb, ne_eqb}
use Rattle.std.proofs.lemmas.Int.{ints}
use Rattle.std.proofs.lemmas.List.Elements.{All-from_recursion, recursion_from_All}
use Rattle.std.proofs.lemmas.Option.{slice_get_within}
use Rattle.gp_base.specs.ListLaws.{got_front, recursion_parts, slice_get_back}
use Rattle.gp_clause.specs.declared.problem.Problem.{Problem}
use Rattle.gp_clause.specs.declared.problem.Query.{Query}
use Rattle.gp_clause.specs.Clause.{HoldsAll, HoldsClause, NamesBelow}
use Rattle.gp_clause.specs.Kind.{FitsKind}
use Rattle.gp_clause.specs.Problem.{IsValidProblem}
use Rattle.gp_clause.specs.Valuation.{IsValuation}
use Rattle.gp_window.specs.declared.schedule.EventId.{EventId}
use Rattle.gp_window.specs.Ids.{contains_event}
use Rattle.gp_window.specs.WindowForm.{WindowForm}
use Rattle.gp_constraint.specs.declared.point.Point.{Point}
use Rattle.gp_constraint.specs.declared.symbol.Symbol.{Symbol}
use Rattle.gp_constraint.specs.declared.symbol.Symbol.TheVariants.{Executed, Order, Choice, StartChoice, First, Last, Signal, Span}
use Rattle.gp_constraint.specs.Base.{base_of, clauses_of, names_in}
use Rattle.gp_constraint.specs.Extended.{extended_truth, IsExtendedModel, ModelsExtend, symbol_value}
use Rattle.gp_constraint.specs.PointIds.{id_at, id_in}
use Rattle.gp_constraint.specs.PointLaws.{event_below, IsEventOf, point_there, point_within, points_named}
use Rattle.gp_constraint.specs.Points.{number_in, points_of}
use Rattle.gp_constraint.specs.ScheduleModels.{SaysSchedule}
use Rattle.gp_constraint.specs.StandingLaws.{before_in, before_of, before_shorter, found}
use Rattle.gp_constraint.specs.Symbols.{kind_of}
use Rattle.gp_constraint.specs.Terms.{before}
use Rattle.gp_constraint.specs.TrueLaws.{term_true}
use Rattle.gp_notify.specs.declared.pair.Pair.{Pair}
use Rattle.gp_notify.specs.Extended.{extended_names, extended_of, lift, new_size, old_size}
use Rattle.gp_notify.specs.Laws.{HoldsNew, IsModel, SignalsAreAdded, SleepsAreScanned}
use Rattle.gp_notify.specs.Lift.{enlarged, lifted, raised}
use Rattle.gp_notify.specs.Signalled.{IsSignalled, StandsBefore}
use Rattle.gp_notify.specs.Signals.{signals_of}
use Rattle.gp_notify.proofs.Means.{has_pair, Means, signals_true}
use Rattle.gp_notify.proofs.Numbers.{extended_is, kinds_joined, new_clauses, new_is, new_kinds, old_is, point_old, sizes_joined}
use Rattle.gp_notify.proofs.Order.{stands_to}
use Rattle.gp_notify.proofs.Raising.{clauses_same, model_up, raised_above, raised_below}
use Rattle.gp_notify.proofs.Sleeps.{number_is}

lt_back : (a b : ℤ) → int_lt a b ≡ true → a <ℤ b
lt_back a b is = omega (arith, ints, is)

lt_to : (a b : ℤ) → a <ℤ b → int_lt a b ≡ true
lt_to a b less =
    elim (cases_Bool (int_lt a b)) [
      | inl is ↦ is
      | inr fails ↦ absurd (omega (arith, ints, less, fails))
    ]

le_back : (a b : ℤ) → int_le a b ≡ true → a ≤ℤ b
le_back a b is = omega (arith, ints, is)

le_to : (a b : ℤ) → a ≤ℤ b → int_le a b ≡ true
le_to a b most =
    elim (cases_Bool (int_le a b)) [
      | inl is ↦ is
      | inr fails ↦ absurd (omega (arith, ints, most, fails))
    ]

both_less : (a b : ℤ) → a <ℤ b → b <ℤ a → ⊥
both_less a b first second = omega (arith, ints, first, second)

pos_less : (j k : ℕ) → j < k → pos j <ℤ pos k
pos_less j k h = omega (arith, ints, h)

at_middle : (front back : List EventId) (id : EventId) → slice_get (front ++ id ∷ back) (length front) ≡ Some id
at_middle [] back id = refl
at_middle (first ∷ front) back id = at_middle front back id

-- the value of a symbol that no clause of the window names: what the places and the pairs say
abbrev pub fresh_value : (ℕ → ℤ) → List Pair → List Point → Symbol → Bool
fresh_value place pairs points (Order a b) = int_lt (place a) (place b)
fresh_value place pairs points (Span a b c) = int_le (place a -ℤ place b) (pos c)
fresh_value place pairs points (Signal w g) = has_pair pairs (id_at points w) (id_at points g)
fresh_value place pairs points _ = false

fresh_fits : (place : ℕ → ℤ) (pairs : List Pair) (points : List Point) (s : Symbol) → FitsKind place (kind_of s) (fresh_value place pairs points s)
fresh_fits place pairs points (Executed e) = tt
fresh_fits place pairs points (Choice r w) = tt
fresh_fits place pairs points (StartChoice r) = tt
fresh_fits place pairs points (First a c) = tt
fresh_fits place pairs points (Last w) = tt
fresh_fits place pairs points (Signal w g) = tt
fresh_fits place pairs points (Order a b) = (lt_back (place a) (place b), lt_to (place a) (place b))
fresh_fits place pairs points (Span a b c) = (le_back (place a -ℤ place b) (pos c), le_to (place a -ℤ place b) (pos c))

-- the truth values of the first variables by one function, and of those after so many new ones by another
abbrev joined : ℕ → ℕ → (ℕ → Bool) → (ℕ → Bool) → ℕ → Bool
joined old new ext truth v = if nat_lt v (old + new) then ext v else truth (v - new)

joined_first : (old new : ℕ) (ext truth : ℕ → Bool) (v : ℕ) → v < old + new → joined old new ext truth v ≡ ext v
joined_first old new ext truth v less = let test : nat_lt v (old + new) ≡ true = lt-ltb v (old + new) less in rw test refl

joined_raised : (old new : ℕ) (ext truth : ℕ → Bool) (v : ℕ) → (v < old → ext v ≡ truth v) → joined old new ext truth (raised old new v) ≡ truth v
joined_raised old new ext truth v same =
    elim (cases_lt v old) [
      | inl less ↦ ap (joined old new ext truth) (raised_below old new v less) ∙ joined_first old new ext truth v (omega (arith, less)) ∙ same less
      | inr most ↦
          let test : nat_lt (v + new) (old + new) ≡ false = le-ltb (v + new) (old + new) (omega (arith, most)) in
          let back : v + new - new ≡ v = omega arith in
          ap (joined old new ext truth) (raised_above old new v most) ∙ rw test (ap truth back)
    ]

module _ (scanned : SleepsAreScanned) (laws : ModelsExtend) (window : WindowForm) (schedule : List EventId) (pairs : List Pair)
    (few : length (points_of window) ≤ 2048) (truth : ℕ → Bool) (place : ℕ → ℤ)
    (valuation : IsValuation (base_of window).points (base_of window).edges (base_of window).kinds truth place)
    (says : SaysSchedule window schedule truth place) (signalled : IsSignalled window schedule pairs) where
  abbrev points : List Point
  points = points_of window

  abbrev fresh : Symbol → Bool
  fresh s = fresh_value place pairs (points_of window) s

  -- the truth of symbols
  abbrev value : Symbol → Bool
  value s = symbol_value (names_in window) truth (λ symbol. fresh_value place pairs (points_of window) symbol) s

  fits : (s : Symbol) → FitsKind place (kind_of s) (value s)
  fits s = laws.fits window truth place (λ symbol. fresh_value place pairs (points_of window) symbol) valuation (fresh_fits place pairs (points_of window)) s

  event_of : (p : Point) → Contains points p → IsEventOf window p.id
  event_of p i = let own = (points_named window).own p i in (own.0, own.1)

  at_point : (p : Point) → Contains points p → id_at points p.number ≡ p.id
  at_point p i = ap id_in (point_there window p i)

  -- the place of an event that stands in the schedule
  placed : (e : EventId) → contains_event schedule e ≡ true → place (number_in window e) ≡ pos (length (before_of schedule e))
  placed e there =
      let split = found schedule e there in
      says.placed (length (before_of schedule e)) e
      (ap (λ ids. slice_get ids (length (before_of schedule e))) split.1 ∙ at_middle (before_of schedule e) split.0 e)

  places : (p q : Point) → Contains points p → Contains points q → StandsBefore schedule p.id q.id → place p.number <ℤ place q.number
  places p q in_p in_q stands =
      let parts = stands_to schedule p.id q.id stands in
      let there : contains_event schedule p.id ≡ true = before_in schedule p.id q.id parts.1 in
      let less = before_shorter schedule p.id q.id parts.1 in
      let one : place p.number ≡ pos (length (before_of schedule p.id)) = ap place (number_is window p in_p) ∙ placed p.id there in
      let other : place q.number ≡ pos (length (before_of schedule q.id)) = ap place (number_is window q in_q) ∙ placed q.id parts.0 in
      subst (λ x. place p.number <ℤ x) (sym other) (subst (λ x. x <ℤ pos (length (before_of schedule q.id))) (sym one)
      (pos_less (length (before_of schedule p.id)) (length (before_of schedule q.id)) less))

  before_true : (p q : Point) → p.id.thread ≢ q.id.thread → place p.number <ℤ place q.number → term_true value (before p q) ≡ true
  before_true p q apart less =
      let differ : (p.id.thread == q.id.thread) ≡ false = ne_eqb p.id.thread q.id.thread apart in
      elim (cases_Bool (nat_lt p.number q.number)) [
        | inl lesser ↦
            let holds : value (Order p.number q.number) ≡ true = (fits (Order p.number q.number)).1 less in
            rw (differ, lesser) holds
        | inr greater ↦
            let fails : value (Order q.number p.number) ≡ false =
            false_from_ne_true _ (λ is. both_less (place p.number) (place q.number) less ((fits (Order q.number p.number)).0 is)) in
            rw (differ, greater) (ap not fails)
      ]

  means : Means window schedule pairs value
  means = record {
    runs = λ p i.
        laws.executed window truth (λ symbol. fresh_value place pairs (points_of window) symbol) p.number (point_within window p i)
        ∙ ap truth (number_is window p i) ∙ says.executed p.id (event_of p i);
    orders = λ p q in_p in_q apart stands. before_true p q apart (places p q in_p in_q stands);
    takes = λ w g in_w in_g.
        laws.further window truth (λ symbol. fresh_value place pairs (points_of window) symbol) (Signal w.number g.number) few tt
        ∙ ap (λ id. has_pair pairs id (id_at points g.number)) (at_point w in_w) ∙ ap (λ id. has_pair pairs w.id id) (at_point g in_g);
  }

  abbrev ext : ℕ → Bool
  ext variable = extended_truth (names_in window) (extended_names window) truth (λ symbol. fresh_value place pairs (points_of window) symbol) variable

  extends : HoldsAll truth (base_of window).clauses → IsExtendedModel window (signals_of window) ext place
  extends clauses =
      laws.models window (signals_of window) truth place (λ symbol. fresh_value place pairs (points_of window) symbol) valuation clauses
      (fresh_fits place pairs (points_of window)) (signals_true scanned window schedule pairs value signalled means)

  ext_old : (v : ℕ) → v < old_size window → ext v ≡ truth v
  ext_old v less = let test : nat_lt v (length (names_in window)) ≡ true = lt-ltb v (length (names_in window)) less in rw test refl

-- what is assumed of the model and the limits
pub record Ground (window : WindowForm) : Type 0 where
  pub base : IsValidProblem (base_of window)
  pub extended : IsValidProblem (extended_of window)

front_model : (window : WindowForm) (query : Query) (truth : ℕ → Bool) (place : ℕ → ℤ)
    → IsValuation (base_of window).points (base_of window).edges ((base_of window).kinds ++ query.locals) truth place
    → IsValuation (base_of window).points (base_of window).edges (base_of window).kinds truth place
front_model window query truth place v = record {
  apart = v.apart;
  keeps = v.keeps;
  fits = λ variable kind there. v.fits variable kind (got_front (base_of window).kinds query.locals variable kind there);
}

-- a model of the window and a query, with that of the problem with signals, is one of the latter and the lifted query
lifted_model : (window : WindowForm) (query : Query) (truth ext : ℕ → Bool) (place : ℕ → ℤ) → Ground window → IsModel (base_of window) query truth place
    → IsExtendedModel window (signals_of window) ext place → ((v : ℕ) → v < old_size window → ext v ≡ truth v)
    → IsModel (extended_of window) (lift window query) (joined (old_size window) (new_size window) ext truth) place
lifted_model window query truth ext place ground m e same =
    let old : ℕ = length (base_of window).kinds in
    let new : ℕ = length (new_kinds window) in
    let both : ℕ → Bool = joined old new ext truth in
    let sizes = sizes_joined window in
    let old_same = old_is window in
    let new_same = new_is window in
    let total : length (extended_of window).kinds ≡ old + new = omega (arith, sizes, old_same, new_same) in
    let first : (v : ℕ) → v < old → ext v ≡ truth v = (λ v less. same v (omega (arith, less, old_same))) in
    let reads : (λ v. both (raised old new v)) ≡ truth = (λ i v. joined_raised old new ext truth v (first v) i) in
    let read : IsModel (base_of window) query (λ v. both (raised old new v)) place = subst (λ f. IsModel (base_of window) query f place) (sym reads) m in
    let all : HoldsAll ext (extended_of window).clauses = e.clauses in
    let parts = recursion_parts (HoldsClause ext) (base_of window).clauses (new_clauses window) (recursion_from_All (HoldsClause ext) (extended_of window).clauses all) in
    let below = recursion_parts (NamesBelow (length (extended_of window).kinds)) (base_of window).clauses (new_clauses window)
    (recursion_from_All (NamesBelow (length (extended_of window).kinds)) (extended_of window).clauses ground.extended.clauses) in
    let new_holds : HoldsNew old (new_kinds window) (new_clauses window) both place = record {
      fits = λ k kind there.
          let at : slice_get (extended_of window).kinds (old + k) ≡ Some kind =
          ap (λ kinds. slice_get kinds (old + k)) (kinds_joined window) ∙ slice_get_back (base_of window).kinds (new_kinds window) k ∙ there in
          let within : k < new = slice_get_within (new_kinds window) k kind there in
          subst (FitsKind place kind) (sym (joined_first old new ext truth (old + k) (omega (arith, within)))) (e.valuation.fits (old + k) kind at);
      holds = All-from_recursion (HoldsClause both) (new_clauses window)
          (clauses_same (length (extended_of window).kinds) ext both (new_clauses window)
          (λ v less. joined_first old new ext truth v (omega (arith, less, total))) below.1 parts.1);
    } in
    let up : IsModel (enlarged (base_of window) (new_kinds window) (new_clauses window)) (lifted old new query) both place =
    model_up (base_of window) (new_kinds window) (new_clauses window) query both place ground.base.clauses read new_holds in
    let back : IsModel (extended_of window) (lifted old new query) (joined old new ext truth) place =
    subst (λ (p : Problem). IsModel p (lifted old new query) (joined old new ext truth) place) (sym (extended_is window)) up in
    subst (λ n. IsModel (extended_of window) (lifted (old_size window) n query) (joined (old_size window) n ext truth) place) new_same
    (subst (λ n. IsModel (extended_of window) (lifted n new query) (joined n new ext truth) place) old_same back)

pub signals_added : SleepsAreScanned → ModelsExtend → ((window : WindowForm) → length (points_of window) ≤ 2048
    → length (clauses_of window) + length (signals_of window) ≤ 500000 → Ground window) → SignalsAreAdded
signals_added scanned laws valid window schedule pairs query few limit signalled m =
    let front = front_model window query m.truth m.place m.valuation in
    let own : IsModel (base_of window) query m.truth m.place = record { valuation = m.valuation; clauses = m.clauses; assumed = m.assumed } in
    let more = extends scanned laws window schedule pairs few m.truth m.place front m.says signalled m.clauses in
    let truth : ℕ → Bool = ext scanned laws window schedule pairs few m.truth m.place front m.says signalled in
    let same = ext_old scanned laws window schedule pairs few m.truth m.place front m.says signalled in
    let model = lifted_model window query m.truth truth m.place (valid window few limit) own more same in
    record {
      truth = joined (old_size window) (new_size window) truth m.truth;
      place = m.place;
      valuation = model.valuation;
      clauses = model.clauses;
      assumed = model.assumed;
      says = record {
        executed = λ e there.
            let old = point_old window (number_in window e) (event_below window e there) in
            joined_first (old_size window) (new_size window) truth m.truth (number_in window e) (omega (arith, old)) ∙ same (number_in window e) old ∙ m.says.executed e there;
        placed = m.says.placed;
        later = m.says.later;
      };
    }
