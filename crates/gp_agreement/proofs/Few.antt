-- A turn that is spent learned fewer clauses than there are over its variables.
use Rattle.std.proofs.Common.{◌≡◌, ◌≢◌, refl, sym, ◌∙◌, ap, subst, ℕ, ◌+◌, ◌-◌, ◌^◌, ◌<◌, ◌≤◌, ◌==◌, zero, suc, Bool, true, false, not, Some, List, [], ◌∷◌, ◌++◌, length, get_or, map, take, drop, All, Contains, arith}
use mathlib.Core.Bool.{◌||◌}
use Rattle.std.specs.List.{IsDistinct, list_any, slice_get}
use Rattle.std.proofs.lemmas.Bool.{eqb-true, false≢true, ne_eqb}
use Rattle.std.proofs.lemmas.Option.{get_or_from_slice_get}
use Rattle.std.proofs.lemmas.List.{get_or-drop, get_or-map, get_or-take, length-append, length-drop, length-map, length-take}
use Rattle.std.proofs.lemmas.List.Elements.{All-cons, All-contains, All-head, All-map, All-tail, Contains-append_right}
use Rattle.std.proofs.lemmas.Map.Keys.{IsDistinct-from_apart}
use Rattle.std.proofs.lemmas.Map.Steps.{length-le_from_distinct_below}
use Rattle.gp_base.specs.FilterLaws.{contains_filter}
use Rattle.gp_base.specs.ListLaws.{contains_map}
use Rattle.gp_certificate.specs.declared.step.Step.{Step}
use Rattle.gp_clause.specs.declared.kind.Kind.{Kind}
use Rattle.gp_clause.specs.declared.lit.Lit.{Lit}
use Rattle.gp_clause.specs.declared.problem.Problem.{Problem}
use Rattle.gp_clause.specs.declared.problem.Query.{Query}
use Rattle.gp_clause.specs.Clause.{NamesBelow}
use Rattle.gp_clause.specs.Closure.Derived.{given, forced}
use Rattle.gp_clause.specs.Lit.{opposite, lit_eq, negations}
use Rattle.gp_clause.specs.LitLaws.{lit_eq_decides}
use Rattle.gp_derivation.specs.declared.log.LogEntry.{LogEntry}
use Rattle.gp_derivation.specs.declared.log.Origin.{Origin}
use Rattle.gp_derivation.specs.declared.log.Origin.TheVariants.{Learned, Taken}
use Rattle.gp_derivation.specs.declared.record.Turn.{Turn}
use Rattle.gp_derivation.specs.Log.{IsLearned, OriginPasses}
use Rattle.gp_derivation.specs.Spent.{IsNewBy, IsSpentOn, start_beside, turned}
use Rattle.gp_derivation.specs.Tight.{left_out}
use Rattle.gp_agreement.proofs.Digits.{IsConsistent, number, number_few, number_some, power_some, stands_too}

-- the clause of an entry, and its number
abbrev clause_of : LogEntry → List Lit
clause_of entry = entry.step.clause

abbrev code : ℕ → LogEntry → ℕ
code n entry = number n 0 entry.step.clause

left_in : (lit : Lit) (clause : List Lit) (other : Lit) → Contains clause other → other ≢ lit → Contains (left_out lit clause) other
left_in lit clause other is apart = contains_filter (λ (x : Lit). not (lit_eq x lit)) clause other is (kept (lit_eq other lit) refl)
  where
    kept : (same : Bool) → lit_eq other lit ≡ same → not (lit_eq other lit) ≡ true
    kept true e = absurd (apart ((lit_eq_decides other lit).0 e))
    kept false e = ap not e

-- the negation of each literal but one stands in the start beside it
started : (query : Query) (clause : List Lit) (lit other : Lit) → Contains clause other → other ≢ lit → Contains (start_beside query clause lit) (opposite other)
started query clause lit other is apart =
    Contains-append_right query.assumed (negations (left_out lit clause)) (opposite other) (contains_map opposite (left_out lit clause) other (left_in lit clause other is apart))

-- a clause that is new by some literal has no variable with both signs
new_consistent : (problem : Problem) (query : Query) (clauses : List (List Lit)) (clause : List Lit) (lit : Lit) → IsNewBy problem query clauses clause lit → IsConsistent clause
new_consistent problem query clauses clause lit news one other is too same = at (lit_eq one lit) (lit_eq other lit) refl refl
  where
    alone : (x : Lit) → Contains clause x → x ≢ lit → x.variable ≡ lit.variable → ⊥
    alone x within apart on =
        let P : ℕ → Type 0 = λ v. Contains (start_beside query clause lit) (record { variable = v; positive = not x.positive }) in
        news.unassigned (not x.positive) (given (record { variable = lit.variable; positive = not x.positive }) (subst P on (started query clause lit x within apart)))

    differ : (x : Lit) → lit_eq x lit ≡ false → x ≢ lit
    differ x off e = false≢true (sym off ∙ (lit_eq_decides x lit).1 e)

    clash : one ≢ lit → other ≢ lit → other.positive ≡ not one.positive → ⊥
    clash first second e =
        let equal : opposite other ≡ opposite (opposite one) = λ i. record { variable = sym same i; positive = not (e i) } in
        news.agrees (opposite one) (started query clause lit one is first) (subst (λ (l : Lit). Contains (start_beside query clause lit) l) equal (started query clause lit other too second))

    signs : (sign more : Bool) → one.positive ≡ sign → other.positive ≡ more → (other.positive ≡ not one.positive → ⊥) → one.positive ≡ other.positive
    signs true true a b never = a ∙ sym b
    signs true false a b never = absurd (never (b ∙ sym (ap not a)))
    signs false true a b never = absurd (never (b ∙ sym (ap not a)))
    signs false false a b never = a ∙ sym b

    at : (first second : Bool) → lit_eq one lit ≡ first → lit_eq other lit ≡ second → one.positive ≡ other.positive
    at true true a b = ap (λ (l : Lit). l.positive) ((lit_eq_decides one lit).0 a ∙ sym ((lit_eq_decides other lit).0 b))
    at true false a b = absurd (alone other too (differ other b) (sym same ∙ ap (λ (l : Lit). l.variable) ((lit_eq_decides one lit).0 a)))
    at false true a b = absurd (alone one is (differ one a) (same ∙ ap (λ (l : Lit). l.variable) ((lit_eq_decides other lit).0 b)))
    at false false a b = signs one.positive other.positive refl refl (clash (differ one a) (differ other b))

-- of the clauses beside a clause that is new by some literal, none has this literal and is within it
new_apart : (problem : Problem) (query : Query) (clauses : List (List Lit)) (clause : List Lit) (lit : Lit) (earlier : List Lit) → IsNewBy problem query clauses clause lit → Contains clauses earlier
    → Contains earlier lit → ((x : Lit) → Contains earlier x → Contains clause x) → ⊥
new_apart problem query clauses clause lit earlier news among has within =
    news.unassigned lit.positive (forced earlier lit among has (λ other is apart. given (opposite other) (started query clause lit other (within other is) apart)))

-- a learned entry that passes has variables of the problem and the query alone
own_named : (problem : Problem) (locals : List Kind) (log : List LogEntry) (begins place : ℕ) (step : Step) (origin : Origin) → IsLearned origin → OriginPasses problem locals log begins place step origin
    → NamesBelow (length (problem.kinds ++ locals)) step.clause
own_named problem locals log begins place step Learned is passes = passes.passes.in_range
own_named problem locals log begins place step (Taken sender certificate) wrong passes = absurd wrong

-- what stands before a place of a turn is beside what is learned there
turned_before : (problem : Problem) (log : List LogEntry) (turn : Turn) (place later : ℕ) (entry : LogEntry) → turn.begins ≤ place → place < later → later ≤ length log → slice_get log place ≡ Some entry
    → Contains (turned problem log turn later) entry.step.clause
turned_before problem log turn place later entry low before high got =
    let b : ℕ = turn.begins in
    let front : List LogEntry = take (later - b) (drop b log) in
    let within : place - b < length front = omega (arith, low, before, high, length-take (later - b) (drop b log), length-drop b log) in
    let split : b + (place - b) ≡ place = omega (arith, low) in
    let is : get_or front (place - b) entry ≡ entry =
    get_or-take (later - b) (drop b log) (place - b) entry (omega (arith, low, before)) ∙ (get_or-drop b log (place - b) entry ∙ (ap (λ (n : ℕ). get_or log n entry) split ∙ get_or_from_slice_get log place entry entry got)) in
    Contains-append_right problem.clauses (map clause_of front) (clause_of entry) (contains_map clause_of front entry (place - b, within, is))

entry_at : (log : List LogEntry) (place : ℕ) → place < length log → (entry : LogEntry) × (slice_get log place ≡ Some entry)
entry_at [] place within = absurd (omega (arith, within))
entry_at (entry ∷ log) zero within = (entry, refl)
entry_at (entry ∷ log) (suc place) within = entry_at log place (omega (arith, within))

-- an entry that a turn learned, so many after the first one
record IsOwn (problem : Problem) (query : Query) (log : List LogEntry) (turn : Turn) (n k : ℕ) (entry : LogEntry) : Type 0 where
  got : slice_get log (turn.learned + k) ≡ Some entry
  named : NamesBelow n entry.step.clause
  lit : Lit
  news : IsNewBy problem query (turned problem log turn (turn.learned + k)) entry.step.clause lit

own_at : (problem : Problem) (query : Query) (log : List LogEntry) (budget : ℕ) (turn : Turn) (from to n k : ℕ) → length (problem.kinds ++ query.locals) ≡ n → IsSpentOn problem query log budget turn from to → k < budget
    → (entry : LogEntry) × IsOwn problem query log turn n k entry
own_at problem query log budget turn from to n k size spent below =
    let place : ℕ = turn.learned + k in
    let inside : place < turn.ends = omega (arith, below, spent.learning.counted) in
    let one = entry_at log place (omega (arith, inside, spent.learning.logged)) in
    let low : turn.learned ≤ place = omega arith in
    let news = spent.news place one.0 one.1 low inside in
    let named = own_named problem query.locals log turn.begins place one.0.step one.0.origin (spent.learning.learned place one.0 one.1 low inside) (spent.passing place one.0 one.1 low inside) in
    let P : ℕ → Type 0 = λ m. NamesBelow m one.0.step.clause in
    (one.0, record { got = one.1; named = subst P size named; lit = news.0; news = news.1 })

-- the literal by which it is new has a variable that there is
own_lit : (problem : Problem) (query : Query) (log : List LogEntry) (turn : Turn) (n k : ℕ) (entry : LogEntry) (x : Lit) → IsOwn problem query log turn n k entry → Contains entry.step.clause x → x.variable < n
own_lit problem query log turn n k entry x own is = All-contains (λ (l : Lit). l.variable < n) entry.step.clause x own.named is

-- two such entries have different numbers
own_apart : (problem : Problem) (query : Query) (log : List LogEntry) (turn : Turn) (n i j : ℕ) (first second : LogEntry) → turn.begins ≤ turn.learned → i < j → turn.learned + j ≤ length log
    → IsOwn problem query log turn n i first → IsOwn problem query log turn n j second → code n first ≡ code n second → ⊥
own_apart problem query log turn n i j first second order before high one two same =
    let clauses : List (List Lit) = turned problem log turn (turn.learned + j) in
    let among : Contains clauses first.step.clause = turned_before problem log turn (turn.learned + i) (turn.learned + j) first (omega (arith, order)) (omega (arith, before)) high one.got in
    let earlier : IsConsistent first.step.clause = new_consistent problem query (turned problem log turn (turn.learned + i)) first.step.clause one.lit one.news in
    let later : IsConsistent second.step.clause = new_consistent problem query clauses second.step.clause two.lit two.news in
    new_apart problem query clauses second.step.clause two.lit first.step.clause two.news among
    (stands_too n second.step.clause first.step.clause two.lit later (sym same) (own_lit problem query log turn n j second two.lit two two.news.within) two.news.within)
    (λ x is. stands_too n first.step.clause second.step.clause x earlier same (own_lit problem query log turn n i first x one is) is)

-- what is in a list of numbers below a bound is below it
below_any : (bound q : ℕ) (xs : List ℕ) → All (λ y. y < bound) xs → list_any (λ y. q == y) xs ≡ true → q < bound
below_any bound q [] all is = absurd (let off : false ≡ true = is in let clash : ⊥ = cc in clash)
below_any bound q (x ∷ xs) all is = at (q == x) refl is (below_any bound q xs (All-tail (λ y. y < bound) x xs all))
  where
    at : (here : Bool) → (q == x) ≡ here → (here || list_any (λ y. q == y) xs) ≡ true → (list_any (λ y. q == y) xs ≡ true → q < bound) → q < bound
    at true same among later = subst (λ (n : ℕ). n < bound) (sym (eqb-true q x same)) (All-head (λ y. y < bound) x xs all)
    at false differ among later = later among

-- numbers above 0 and below a bound, no two of them the same, are fewer than the bound
fewer : (bound : ℕ) (xs : List ℕ) → 0 < bound → All (λ y. y < bound) xs → ((k d : ℕ) → k < length xs → 0 ≡ get_or xs k d → ⊥)
    → ((i j d : ℕ) → i < j → j < length xs → get_or xs i d ≡ get_or xs j d → ⊥) → length xs < bound
fewer bound xs some below filled apart =
    let most : length (0 ∷ xs) ≤ bound = length-le_from_distinct_below (0 ∷ xs) bound distinct (λ q among. below_any bound q (0 ∷ xs) (All-cons (λ y. y < bound) 0 xs some below) among) in
    omega (arith, most)
  where
    differ : (i j d : ℕ) → i < j → j < length (0 ∷ xs) → get_or (0 ∷ xs) i d ≡ get_or (0 ∷ xs) j d → ⊥
    differ i zero d before within same = omega (arith, before)
    differ zero (suc j) d before within same = filled j d (omega (arith, within)) same
    differ (suc i) (suc j) d before within same = apart i j d (omega (arith, before)) (omega (arith, within)) same

    distinct : IsDistinct (λ a b. a == b) (0 ∷ xs)
    distinct = IsDistinct-from_apart (λ a b. a == b) (0 ∷ xs) (λ i j d before within. ne_eqb (get_or (0 ∷ xs) i d) (get_or (0 ∷ xs) j d) (differ i j d before within))

-- the numbers of what a turn learned
abbrev codes_of : ℕ → ℕ → List LogEntry → Turn → List ℕ
codes_of n budget log turn = map (code n) (take budget (drop turn.learned log))

code_at : (n budget : ℕ) (log : List LogEntry) (turn : Turn) (k d : ℕ) (entry : LogEntry) → k < budget → turn.learned + budget ≤ length log → slice_get log (turn.learned + k) ≡ Some entry
    → get_or (codes_of n budget log turn) k d ≡ code n entry
code_at n budget log turn k d entry below fits got =
    let rest : List LogEntry = drop turn.learned log in
    let within : k < length (take budget rest) = omega (arith, below, fits, length-take budget rest, length-drop turn.learned log) in
    get_or-map (code n) (take budget rest) k entry d within
    ∙ ap (code n) (get_or-take budget rest k entry below ∙ (get_or-drop turn.learned log k entry ∙ get_or_from_slice_get log (turn.learned + k) entry entry got))

pub spent_below : (problem : Problem) (query : Query) (log : List LogEntry) (budget : ℕ) (turn : Turn) (from to n : ℕ) → length (problem.kinds ++ query.locals) ≡ n → turn.begins ≤ turn.learned
    → IsSpentOn problem query log budget turn from to → budget < 3 ^ n
spent_below problem query log budget turn from to n size order spent =
    let few : length (codes_of n budget log turn) < 3 ^ n =
    fewer (3 ^ n) (codes_of n budget log turn) (power_some n) (All-map (λ (y : ℕ). y < 3 ^ n) (code n) (take budget (drop turn.learned log)) (λ k d within. number_few n 0 _)) filled apart in
    omega (arith, few, count)
  where
    fits : turn.learned + budget ≤ length log
    fits = omega (arith, spent.learning.counted, spent.learning.logged)

    count : length (codes_of n budget log turn) ≡ budget
    count = omega (arith, fits, length-map (take budget (drop turn.learned log)) (code n), length-take budget (drop turn.learned log), length-drop turn.learned log)

    own : (k : ℕ) → k < length (codes_of n budget log turn) → (entry : LogEntry) × IsOwn problem query log turn n k entry
    own k within = own_at problem query log budget turn from to n k size spent (omega (arith, within, count))

    tells : (k d : ℕ) (within : k < length (codes_of n budget log turn)) → get_or (codes_of n budget log turn) k d ≡ code n (own k within).0
    tells k d within = code_at n budget log turn k d (own k within).0 (omega (arith, within, count)) fits (own k within).1.got

    filled : (k d : ℕ) → k < length (codes_of n budget log turn) → 0 ≡ get_or (codes_of n budget log turn) k d → ⊥
    filled k d within none =
        let one = own k within in
        number_some n one.0.step.clause one.1.lit (own_lit problem query log turn n k one.0 one.1.lit one.1 one.1.news.within) one.1.news.within (sym (none ∙ tells k d within))

    apart : (i j d : ℕ) → i < j → j < length (codes_of n budget log turn) → get_or (codes_of n budget log turn) i d ≡ get_or (codes_of n budget log turn) j d → ⊥
    apart i j d before within same =
        let early : i < length (codes_of n budget log turn) = omega (arith, before, within) in
        own_apart problem query log turn n i j (own i early).0 (own j within).0 order before (omega (arith, within, count, fits)) (own i early).1 (own j within).1
        (sym (tells i d early) ∙ same ∙ tells j d within)

-- the budget of a turn that is spent is less than three to the power of the number of variables
pub spent_few : (problem : Problem) (query : Query) (log : List LogEntry) (budget : ℕ) (turn : Turn) (from to : ℕ) → turn.begins ≤ turn.learned → IsSpentOn problem query log budget turn from to
    → budget < 3 ^ (length problem.kinds + length query.locals)
spent_few problem query log budget turn from to order spent =
    spent_below problem query log budget turn from to (length problem.kinds + length query.locals) (length-append problem.kinds query.locals) order spent
