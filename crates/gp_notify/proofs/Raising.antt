-- Numbers that are lifted: what a problem and its enlargement say of one another.
use Rattle.std.proofs.Common.{ℕ, zero, suc, ◌≡◌, ◌<◌, ◌≤◌, ◌+◌, ◌-◌, ap, sym, ◌∙◌, refl, subst, inl, inr, List, [], ◌∷◌, ◌++◌, length, map, Bool, true, false, arith, All, take, drop, length-append, length-drop}
use Rattle.std.specs.Prelude.{ℤ, Some, nat_lt, slice_get, slice_index_or}
use Rattle.std.specs.List.{AllByRecursion}
use Rattle.std.proofs.lemmas.Bool.{cases_lt, le-ltb, lt-ltb}
use Rattle.std.proofs.lemmas.List.{get_or-drop, get_or-take, length-take-le}
use Rattle.gp_clause.specs.declared.kind.Kind.{Kind}
use Rattle.gp_clause.specs.declared.lit.Lit.{Lit}
use Rattle.gp_clause.specs.declared.problem.Problem.{Problem}
use Rattle.gp_clause.specs.declared.problem.Query.{Query}
use Rattle.gp_clause.specs.declared.valuation.Valuation.{Valuation}
use Rattle.gp_clause.specs.Clause.{HoldsAll, HoldsClause, NamesBelow}
use Rattle.gp_clause.specs.Kind.{bound_of, FitsKind, KeepsBound}
use Rattle.gp_clause.specs.Lit.{HoldsLit}
use Rattle.gp_clause.specs.Valuation.{Meets, place_of, truth_of}
use Rattle.std.proofs.lemmas.List.Elements.{All-from_recursion, recursion_from_All}
use Rattle.gp_base.specs.ListLaws.{recursion_append, recursion_parts}
use Rattle.gp_notify.specs.Laws.{HoldsNew, IsModel, NumbersLift}
use Rattle.gp_notify.specs.Lift.{enlarged, lifted, lowered, raised, raised_lit}

-- a variable of the problem stays, and one after those is raised
pub raised_below : (old new variable : ℕ) → variable < old → raised old new variable ≡ variable
raised_below old new variable less = let test : nat_lt variable old ≡ true = lt-ltb variable old less in rw test refl

pub raised_above : (old new variable : ℕ) → old ≤ variable → raised old new variable ≡ variable + new
raised_above old new variable most = let test : nat_lt variable old ≡ false = le-ltb variable old most in rw test refl

-- places of lists that are joined
pub read_front : {X : Type 0} (xs ys : List X) (k : ℕ) (d : X) → k < length xs → slice_index_or (xs ++ ys) k d ≡ slice_index_or xs k d
read_front [] ys k d less = absurd (omega (arith, less))
read_front (x ∷ xs) ys zero d less = refl
read_front (x ∷ xs) ys (suc k) d less = read_front xs ys k d (omega (arith, less))

pub read_back : {X : Type 0} (xs ys : List X) (n k : ℕ) (d : X) → n ≡ length xs + k → slice_index_or (xs ++ ys) n d ≡ slice_index_or ys k d
read_back [] ys n k d is = let same : n ≡ k = omega (arith, is) in ap (λ m. slice_index_or ys m d) same
read_back (x ∷ xs) ys zero k d is = absurd (omega (arith, is))
read_back (x ∷ xs) ys (suc n) k d is = read_back xs ys n k d (omega (arith, is))

pub got_front : {X : Type 0} (xs ys : List X) (k : ℕ) → k < length xs → slice_get (xs ++ ys) k ≡ slice_get xs k
got_front [] ys k less = absurd (omega (arith, less))
got_front (x ∷ xs) ys zero less = refl
got_front (x ∷ xs) ys (suc k) less = got_front xs ys k (omega (arith, less))

pub got_back : {X : Type 0} (xs ys : List X) (n k : ℕ) → n ≡ length xs + k → slice_get (xs ++ ys) n ≡ slice_get ys k
got_back [] ys n k is = let same : n ≡ k = omega (arith, is) in ap (slice_get ys) same
got_back (x ∷ xs) ys zero k is = absurd (omega (arith, is))
got_back (x ∷ xs) ys (suc n) k is = got_back xs ys n k (omega (arith, is))

-- what stands at a variable stands at the raised one, once the new ones are there
pub read_raised : {X : Type 0} (xs new ys : List X) (k : ℕ) (d : X) → slice_index_or ((xs ++ new) ++ ys) (raised (length xs) (length new) k) d ≡ slice_index_or (xs ++ ys) k d
read_raised xs new ys k d =
    let joined = length-append xs new in
    elim (cases_lt k (length xs)) [
      | inl less ↦
          ap (λ m. slice_index_or ((xs ++ new) ++ ys) m d) (raised_below (length xs) (length new) k less)
          ∙ read_front (xs ++ new) ys k d (omega (arith, less, joined)) ∙ read_front xs new k d less ∙ sym (read_front xs ys k d less)
      | inr most ↦
          ap (λ m. slice_index_or ((xs ++ new) ++ ys) m d) (raised_above (length xs) (length new) k most)
          ∙ read_back (xs ++ new) ys (k + length new) (k - length xs) d (omega (arith, most, joined)) ∙ sym (read_back xs ys k (k - length xs) d (omega (arith, most)))
    ]

got_raised : {X : Type 0} (xs new ys : List X) (k : ℕ) → slice_get ((xs ++ new) ++ ys) (raised (length xs) (length new) k) ≡ slice_get (xs ++ ys) k
got_raised xs new ys k =
    let joined = length-append xs new in
    elim (cases_lt k (length xs)) [
      | inl less ↦
          ap (slice_get ((xs ++ new) ++ ys)) (raised_below (length xs) (length new) k less)
          ∙ got_front (xs ++ new) ys k (omega (arith, less, joined)) ∙ got_front xs new k less ∙ sym (got_front xs ys k less)
      | inr most ↦
          ap (slice_get ((xs ++ new) ++ ys)) (raised_above (length xs) (length new) k most)
          ∙ got_back (xs ++ new) ys (k + length new) (k - length xs) (omega (arith, most, joined)) ∙ sym (got_back xs ys k (k - length xs) (omega (arith, most)))
    ]

-- the truth values of an answer without the new variables
pub lowered_truth : (old new : ℕ) (v : Valuation) (variable : ℕ) → old + new ≤ length v.truth → truth_of (lowered old new v) variable ≡ truth_of v (raised old new variable)
lowered_truth old new v variable long =
    let size : length (take old v.truth) ≡ old = length-take-le old v.truth (omega (arith, long)) in
    elim (cases_lt variable old) [
      | inl less ↦
          read_front (take old v.truth) (drop (old + new) v.truth) variable false (omega (arith, size, less))
          ∙ get_or-take old v.truth variable false less ∙ ap (truth_of v) (sym (raised_below old new variable less))
      | inr most ↦
          let sum : (old + new) + (variable - old) ≡ variable + new = omega (arith, most) in
          read_back (take old v.truth) (drop (old + new) v.truth) variable (variable - old) false (omega (arith, size, most))
          ∙ get_or-drop (old + new) v.truth (variable - old) false ∙ ap (truth_of v) sum ∙ ap (truth_of v) (sym (raised_above old new variable most))
    ]

-- clauses of the first variables hold by any truth that agrees on these
clause_same : (old : ℕ) (truth other : ℕ → Bool) (clause : List Lit) → ((variable : ℕ) → variable < old → other variable ≡ truth variable) → NamesBelow old clause
    → HoldsClause truth clause → HoldsClause other clause
clause_same old truth other clause same below (k, lit, within, is, holds) =
    (k, lit, within, is, same lit.variable (subst (λ (l : Lit). l.variable < old) is (below k lit within)) ∙ holds)

pub clauses_same : (old : ℕ) (truth other : ℕ → Bool) (clauses : List (List Lit)) → ((variable : ℕ) → variable < old → other variable ≡ truth variable)
    → AllByRecursion (NamesBelow old) clauses → AllByRecursion (HoldsClause truth) clauses → AllByRecursion (HoldsClause other) clauses
clauses_same old truth other [] same below holds = tt
clauses_same old truth other (clause ∷ clauses) same below holds =
    (clause_same old truth other clause same below.0 holds.0, clauses_same old truth other clauses same below.1 holds.1)

-- literals that are raised, and those that they stem from
lits_down : (old new : ℕ) (truth other : ℕ → Bool) (lits : List Lit) → ((variable : ℕ) → other variable ≡ truth (raised old new variable))
    → AllByRecursion (HoldsLit truth) (map (raised_lit old new) lits) → AllByRecursion (HoldsLit other) lits
lits_down old new truth other [] same holds = tt
lits_down old new truth other (lit ∷ lits) same holds = (same lit.variable ∙ holds.0, lits_down old new truth other lits same holds.1)

pub lits_up : (old new : ℕ) (truth other : ℕ → Bool) (lits : List Lit) → ((variable : ℕ) → other variable ≡ truth (raised old new variable))
    → AllByRecursion (HoldsLit other) lits → AllByRecursion (HoldsLit truth) (map (raised_lit old new) lits)
lits_up old new truth other [] same holds = tt
lits_up old new truth other (lit ∷ lits) same holds = (sym (same lit.variable) ∙ holds.0, lits_up old new truth other lits same holds.1)

-- the first clauses of an enlarged problem, read without the new variables
old_hold : (problem : Problem) (more : List (List Lit)) (old new : ℕ) (truth other : ℕ → Bool) → All (NamesBelow old) problem.clauses
    → ((variable : ℕ) → other variable ≡ truth (raised old new variable)) → HoldsAll truth (problem.clauses ++ more) → HoldsAll other problem.clauses
old_hold problem more old new truth other below same holds =
    All-from_recursion (HoldsClause other) problem.clauses
    (clauses_same old truth other problem.clauses (λ variable less. same variable ∙ ap truth (raised_below old new variable less))
    (recursion_from_All (NamesBelow old) problem.clauses below)
    (recursion_parts (HoldsClause truth) problem.clauses more (recursion_from_All (HoldsClause truth) (problem.clauses ++ more) holds)).0)

pub answer_lowered : (problem : Problem) (kinds : List Kind) (clauses : List (List Lit)) (query : Query) (v : Valuation)
    → All (NamesBelow (length problem.kinds)) problem.clauses
    → Meets (enlarged problem kinds clauses) (lifted (length problem.kinds) (length kinds) query) v
    → Meets problem query (lowered (length problem.kinds) (length kinds) v)
answer_lowered problem kinds clauses query v below m =
    let old : ℕ = length problem.kinds in
    let new : ℕ = length kinds in
    let joined = length-append problem.kinds kinds in
    let few = m.truth in
    let long : old + new ≤ length v.truth = omega (arith, joined, few) in
    let same : (variable : ℕ) → truth_of (lowered old new v) variable ≡ truth_of v (raised old new variable) = λ variable. lowered_truth old new v variable long in
    let front = length-take-le old v.truth (omega (arith, long)) in
    let back = length-drop (old + new) v.truth in
    let whole = length-append (take old v.truth) (drop (old + new) v.truth) in
    record {
      truth = omega (arith, joined, few, front, back, whole);
      places = m.places;
      edges = m.edges;
      clauses = old_hold problem clauses old new (truth_of v) (truth_of (lowered old new v)) below same m.clauses;
      assumed = All-from_recursion (HoldsLit (truth_of (lowered old new v))) query.assumed
          (lits_down old new (truth_of v) (truth_of (lowered old new v)) query.assumed same (recursion_from_All (HoldsLit (truth_of v)) (map (raised_lit old new) query.assumed) m.assumed));
      bounds = λ variable kind is.
          subst (λ (b : Bool). KeepsBound (place_of v) (bound_of kind b)) (sym (same variable))
          (m.bounds (raised old new variable) kind (got_raised problem.kinds kinds query.locals variable ∙ is));
    }

pub model_down : (problem : Problem) (kinds : List Kind) (clauses : List (List Lit)) (query : Query) (truth : ℕ → Bool) (place : ℕ → ℤ)
    → All (NamesBelow (length problem.kinds)) problem.clauses
    → IsModel (enlarged problem kinds clauses) (lifted (length problem.kinds) (length kinds) query) truth place
    → IsModel problem query (λ variable. truth (raised (length problem.kinds) (length kinds) variable)) place
model_down problem kinds clauses query truth place below m =
    let old : ℕ = length problem.kinds in
    let new : ℕ = length kinds in
    let other : ℕ → Bool = λ variable. truth (raised old new variable) in
    let v = m.valuation in
    record {
      valuation = record {
        apart = v.apart;
        keeps = v.keeps;
        fits = λ variable kind is. v.fits (raised old new variable) kind (got_raised problem.kinds kinds query.locals variable ∙ is);
      };
      clauses = old_hold problem clauses old new truth other below (λ variable. refl) m.clauses;
      assumed = All-from_recursion (HoldsLit other) query.assumed
          (lits_down old new truth other query.assumed (λ variable. refl) (recursion_from_All (HoldsLit truth) (map (raised_lit old new) query.assumed) m.assumed));
    }

-- what a variable of an enlarged problem and a lifted query fits
fits_up : (problem : Problem) (kinds : List Kind) (clauses : List (List Lit)) (query : Query) (truth : ℕ → Bool) (place : ℕ → ℤ)
    → IsModel problem query (λ variable. truth (raised (length problem.kinds) (length kinds) variable)) place
    → HoldsNew (length problem.kinds) kinds clauses truth place
    → (variable : ℕ) (kind : Kind) → slice_get ((problem.kinds ++ kinds) ++ query.locals) variable ≡ Some kind → FitsKind place kind (truth variable)
fits_up problem kinds clauses query truth place m more variable kind is =
    let old : ℕ = length problem.kinds in
    let new : ℕ = length kinds in
    let joined = length-append problem.kinds kinds in
    let F : ℕ → Type 0 = λ k. FitsKind place kind (truth k) in
    elim (cases_lt variable old) [
      | inl less ↦
          subst F (raised_below old new variable less) (m.valuation.fits variable kind (sym (got_raised problem.kinds kinds query.locals variable) ∙ ap (slice_get ((problem.kinds ++ kinds) ++ query.locals)) (raised_below old new variable less) ∙ is))
      | inr most ↦ elim (cases_lt variable (old + new)) [
        | inl middle ↦
            let at : variable ≡ old + (variable - old) = omega (arith, most) in
            subst F (sym at) (more.fits (variable - old) kind
            (sym (got_back problem.kinds kinds variable (variable - old) at) ∙ sym (got_front (problem.kinds ++ kinds) query.locals variable (omega (arith, middle, joined))) ∙ is))
        | inr last ↦
            let low : old ≤ variable - new = omega (arith, last) in
            let same : raised old new (variable - new) ≡ variable = (let sum : (variable - new) + new ≡ variable = omega (arith, last) in raised_above old new (variable - new) low ∙ sum) in
            subst F same (m.valuation.fits (variable - new) kind
            (sym (got_raised problem.kinds kinds query.locals (variable - new)) ∙ ap (slice_get ((problem.kinds ++ kinds) ++ query.locals)) same ∙ is))
      ]
    ]

pub model_up : (problem : Problem) (kinds : List Kind) (clauses : List (List Lit)) (query : Query) (truth : ℕ → Bool) (place : ℕ → ℤ)
    → All (NamesBelow (length problem.kinds)) problem.clauses
    → IsModel problem query (λ variable. truth (raised (length problem.kinds) (length kinds) variable)) place
    → HoldsNew (length problem.kinds) kinds clauses truth place
    → IsModel (enlarged problem kinds clauses) (lifted (length problem.kinds) (length kinds) query) truth place
model_up problem kinds clauses query truth place below m more =
    let old : ℕ = length problem.kinds in
    let new : ℕ = length kinds in
    let other : ℕ → Bool = λ variable. truth (raised old new variable) in
    let v = m.valuation in
    record {
      valuation = record { apart = v.apart; keeps = v.keeps; fits = fits_up problem kinds clauses query truth place m more };
      clauses = All-from_recursion (HoldsClause truth) (problem.clauses ++ clauses) (recursion_append (HoldsClause truth) problem.clauses clauses
          (clauses_same old other truth problem.clauses (λ variable less. sym (ap truth (raised_below old new variable less)))
          (recursion_from_All (NamesBelow old) problem.clauses below) (recursion_from_All (HoldsClause other) problem.clauses m.clauses))
          (recursion_from_All (HoldsClause truth) clauses more.holds));
      assumed = All-from_recursion (HoldsLit truth) (map (raised_lit old new) query.assumed)
          (lits_up old new truth other query.assumed (λ variable. refl) (recursion_from_All (HoldsLit other) query.assumed m.assumed));
    }

pub numbers_lift : NumbersLift
numbers_lift = record { answers = answer_lowered; down = model_down; up = model_up }
