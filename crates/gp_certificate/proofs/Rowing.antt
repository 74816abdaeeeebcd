-- Rows of literals, and how often a number stands in one.
use Rattle.std.proofs.Common.{◌≡◌, ℕ, ◌+◌, ◌*◌, ◌-◌, ◌<◌, ◌≤◌, zero, suc, Bool, true, false, ◌==◌, cond, Option, None, Some, List, [], ◌∷◌, ◌++◌, length, map, take, drop, replicate, get_or, set, All, Contains, Vec, Global, ◌⊎◌, inl, inr, refl, ap, sym, ◌∙◌, subst, arith, eq-eqb}
use Rattle.std.specs.List.{slice_get}
use Rattle.std.specs.Option.{option_to_list}
use Rattle.std.proofs.lemmas.Bool.{cases_Bool, cases_eq, cases_lt, false≢true}
use Rattle.std.proofs.lemmas.Bool.Decides.{nat_tests}
use Rattle.std.proofs.lemmas.List.{append-nil, append_assoc, map-append, length-map, get_or_append_left, get_or-append_right, get_or_past, get_or-set_same, get_or-set_other, length-set, take_more, take_all, drop_all, replicate-append-replicate, same_from_push, length_push, length-take, map-set, get_or-map, get_or-take, take-take}
use Rattle.std.proofs.lemmas.List.Sums.{sum_by-append, sum_by_more, sum_by-take-le, sum_by-drop_more}
use Rattle.std.proofs.lemmas.List.Elements.{Contains-get_or, Contains-push_cases}
use Rattle.std.proofs.lemmas.Option.{none-some, same_Some, slice_get_within, get_or_from_slice_get}
use Rattle.gp_clause.specs.declared.lit.Lit.{Lit}
use Rattle.gp_clause.specs.Lit.{lit_eq}
use Rattle.gp_clause.specs.LitLaws.{lit_eq_decides, lits_same}
use Rattle.gp_base.specs.CountLaws.{count_one, count_passes}
use Rattle.gp_base.specs.SumLaws.{count_cons}
use Rattle.gp_certificate.specs.Rows.{occurs, count_of, clause_at, left_at, numbers_of, code_of, row_of, AreListed}
use Rattle.gp_certificate.specs.Loaded.{LoadedForm}
use Rattle.gp_certificate.specs.Rows.{HasShort}

-- two literals of one number are the same
pub code_same : (a b : Lit) → code_of a ≡ code_of b → a ≡ b
code_same a b same = let both = at a.positive b.positive same in lits_same a b both.0 both.1
  where
    at : (p q : Bool) → 2 * a.variable + cond p 1 0 ≡ 2 * b.variable + cond q 1 0 → (a.variable ≡ b.variable) × (p ≡ q)
    at true true e = (omega (arith, e), refl)
    at true false e = absurd (omega (arith, e))
    at false true e = absurd (omega (arith, e))
    at false false e = (omega (arith, e), refl)

-- a row that was written is the new one
row_written : (rows : List (Vec ℕ Global)) (code : ℕ) (row : Vec ℕ Global) (lit : Lit) → code < length rows → code_of lit ≡ code → row_of (set rows code row) lit ≡ row.items
row_written rows code row lit within same =
    let inside : code < length (map (λ (r : Vec ℕ Global). r.items) rows) = omega (arith, length-map rows (λ (r : Vec ℕ Global). r.items)) in
    ap (λ rs. get_or rs (code_of lit) []) (map-set (λ (r : Vec ℕ Global). r.items) rows code row)
    ∙ ap (λ n. get_or (set (map (λ (r : Vec ℕ Global). r.items) rows) code row.items) n []) same
    ∙ get_or-set_same (map (λ (r : Vec ℕ Global). r.items) rows) code row.items [] inside

row_other : (rows : List (Vec ℕ Global)) (code : ℕ) (row : Vec ℕ Global) (lit : Lit) → (code_of lit ≡ code → ⊥) → row_of (set rows code row) lit ≡ row_of rows lit
row_other rows code row lit apart =
    ap (λ rs. get_or rs (code_of lit) []) (map-set (λ (r : Vec ℕ Global). r.items) rows code row) ∙ get_or-set_other (map (λ (r : Vec ℕ Global). r.items) rows) code (code_of lit) row.items [] apart

-- the row at a number
pub row_at : (rows : List (Vec ℕ Global)) (code : ℕ) (row : Vec ℕ Global) (lit : Lit) → code < length rows → row ≡ get_or rows code row → code_of lit ≡ code → row_of rows lit ≡ row.items
row_at rows code row lit within is same =
    ap (λ n. get_or (map (λ (r : Vec ℕ Global). r.items) rows) n []) same ∙ get_or-map (λ (r : Vec ℕ Global). r.items) rows code row [] within ∙ ap (λ (r : Vec ℕ Global). r.items) (sym is)

-- what a literal adds to a row
abbrev pub once : Lit → Lit → ℕ → List ℕ
once one lit number = replicate (cond (lit_eq one lit) 1 0) number

once_same : (one lit : Lit) (number : ℕ) → lit_eq one lit ≡ true → once one lit number ≡ number ∷ []
once_same one lit number is = ap (λ b. replicate (cond {A = ℕ} b 1 0) number) is

once_other : (one lit : Lit) (number : ℕ) → lit_eq one lit ≡ false → once one lit number ≡ []
once_other one lit number is = ap (λ b. replicate (cond {A = ℕ} b 1 0) number) is

apart_codes : (one lit : Lit) (code : ℕ) → lit_eq one lit ≡ false → code_of lit ≡ code → code_of one ≡ code → ⊥
apart_codes one lit code is same equal = false≢true (sym is ∙ (lit_eq_decides one lit).1 (code_same one lit (equal ∙ sym same)))

code_equal : (one lit : Lit) (code : ℕ) → lit_eq one lit ≡ true → code_of lit ≡ code → code_of one ≡ code
code_equal one lit code is same = ap code_of ((lit_eq_decides one lit).0 is) ∙ same

-- a number is put into the row of a literal
pub row_put : (rows : List (Vec ℕ Global)) (code : ℕ) (old new : Vec ℕ Global) (lit : Lit) (number : ℕ) → code < length rows → old ≡ get_or rows code old → code_of lit ≡ code → new.items ≡ old.items ++ number ∷ []
    → (one : Lit) → row_of (set rows code new) one ≡ row_of rows one ++ once one lit number
row_put rows code old new lit number within is same pushed one = elim (cases_Bool (lit_eq one lit)) [
  | inl equals ↦
      let equal : code_of one ≡ code = code_equal one lit code equals same in
      row_written rows code new one within equal ∙ pushed ∙ ap (λ r. r ++ number ∷ []) (sym (row_at rows code old one within is equal)) ∙ ap (λ r. row_of rows one ++ r) (sym (once_same one lit number equals))
  | inr differs ↦
      row_other rows code new one (apart_codes one lit code differs same) ∙ sym (append-nil (row_of rows one)) ∙ ap (λ r. row_of rows one ++ r) (sym (once_other one lit number differs))
]

-- rows where one was written as it was
pub row_kept : (rows : List (Vec ℕ Global)) (code : ℕ) (old new : Vec ℕ Global) → code < length rows → old ≡ get_or rows code old → new.items ≡ old.items → (one : Lit) → row_of (set rows code new) one ≡ row_of rows one
row_kept rows code old new within is same one = elim (cases_eq (code_of one) code) [
  | inl equal ↦ row_written rows code new one within equal ∙ same ∙ sym (row_at rows code old one within is equal)
  | inr apart ↦ row_other rows code new one apart
]

-- the last number of the row of a literal is taken out
pub row_popped : (rows : List (Vec ℕ Global)) (code : ℕ) (old new : Vec ℕ Global) (popped : Option ℕ) (lit : Lit) → code < length rows → old ≡ get_or rows code old → code_of lit ≡ code
    → old.items ≡ new.items ++ option_to_list popped → (popped ≡ None → length old.items ≡ 0) → (base : Lit → List ℕ) (number : ℕ)
    → ((one : Lit) → row_of rows one ≡ base one ++ once one lit number) → (one : Lit) → row_of (set rows code new) one ≡ base one
row_popped rows code old new popped lit within is same left empty base number before one = elim (cases_Bool (lit_eq one lit)) [
  | inl equals ↦
      let equal : code_of one ≡ code = code_equal one lit code equals same in
      row_written rows code new one within equal ∙ shorter popped refl (sym (row_at rows code old one within is equal) ∙ before one ∙ ap (λ r. base one ++ r) (once_same one lit number equals))
  | inr differs ↦ row_other rows code new one (apart_codes one lit code differs same) ∙ before one ∙ ap (λ r. base one ++ r) (once_other one lit number differs) ∙ append-nil (base one)
]
  where
    shorter : (p : Option ℕ) → popped ≡ p → old.items ≡ base one ++ number ∷ [] → new.items ≡ base one
    shorter None none grown = absurd (omega (arith, empty none, ap (λ (r : List ℕ). length r) grown, length_push (base one) number))
    shorter (Some last) some grown = (same_from_push new.items (base one) last number (sym (left ∙ ap (λ o. new.items ++ option_to_list o) some) ∙ grown)).0

-- a literal without a row adds nothing
pub row_absent : (rows : List (Vec ℕ Global)) (lit : Lit) → length rows ≤ code_of lit → (base : Lit → List ℕ) (number : ℕ)
    → ((one : Lit) → row_of rows one ≡ base one ++ once one lit number) → (one : Lit) → row_of rows one ≡ base one
row_absent rows lit past base number before one = elim (cases_Bool (lit_eq one lit)) [
  | inl equals ↦
      let outside : length (map (λ (r : Vec ℕ Global). r.items) rows) ≤ code_of one =
      omega (arith, past, length-map rows (λ (r : Vec ℕ Global). r.items), code_equal one lit (code_of lit) equals refl) in
      let none : row_of rows one ≡ [] = get_or_past (map (λ (r : Vec ℕ Global). r.items) rows) (code_of one) [] outside in
      let grown : base one ++ number ∷ [] ≡ [] = ap (λ r. base one ++ r) (sym (once_same one lit number equals)) ∙ sym (before one) ∙ none in
      absurd (omega (arith, ap (λ (r : List ℕ). length r) grown, length_push (base one) number))
  | inr differs ↦ before one ∙ ap (λ r. base one ++ r) (once_other one lit number differs) ∙ append-nil (base one)
]

-- one more empty row changes none
pub row_added : (rows : List (Vec ℕ Global)) (row : Vec ℕ Global) (lit : Lit) → row.items ≡ [] → row_of (rows ++ row ∷ []) lit ≡ row_of rows lit
row_added rows row lit empty =
    let all = map (λ (r : Vec ℕ Global). r.items) rows in
    ap (λ rs. get_or rs (code_of lit) []) (map-append (λ (r : Vec ℕ Global). r.items) rows (row ∷ []))
    ∙ elim (cases_lt (code_of lit) (length all)) [
      | inl inside ↦ get_or_append_left all (row.items ∷ []) [] (code_of lit) inside
      | inr past ↦
          ap (λ r. get_or (all ++ r ∷ []) (code_of lit) []) empty ∙ get_or-append_right all ([] ∷ []) (length all) (code_of lit) [] refl past ∙ none (code_of lit - length all) ∙ sym (get_or_past all (code_of lit) [] past)
    ]
  where
    empty_row : List (List ℕ)
    empty_row = [] ∷ []

    none : (n : ℕ) → get_or empty_row n [] ≡ []
    none zero = refl
    none (suc n) = refl

-- a literal stands once more in more literals
pub occurs_more : (one : Lit) (lits : List Lit) (i : ℕ) (d : Lit) → i < length lits → occurs one (take (i + 1) lits) ≡ occurs one (take i lits) + cond (lit_eq one (get_or lits i d)) 1 0
occurs_more one lits i d within = sum_by_more (λ lit. cond (lit_eq one lit) 1 0) lits i d within

-- the first literals of a clause are listed
pub listing_more : (base row : List ℕ) (one : Lit) (lits : List Lit) (i : ℕ) (d : Lit) (number : ℕ) → i < length lits → row ≡ base ++ replicate (occurs one (take i lits)) number
    → row ++ once one (get_or lits i d) number ≡ base ++ replicate (occurs one (take (i + 1) lits)) number
listing_more base row one lits i d number within is =
    ap (λ r. r ++ once one (get_or lits i d) number) is ∙ append_assoc base (replicate (occurs one (take i lits)) number) (once one (get_or lits i d) number)
    ∙ ap (λ r. base ++ r) (replicate-append-replicate (occurs one (take i lits)) (cond (lit_eq one (get_or lits i d)) 1 0) number ∙ ap (λ n. replicate n number) (sym (occurs_more one lits i d within)))

-- and the last ones are still to be taken out
pub unlisting_more : (base : List ℕ) (one : Lit) (lits : List Lit) (i : ℕ) (d : Lit) (number : ℕ) → i < length lits
    → base ++ replicate (occurs one (drop i lits)) number ≡ (base ++ replicate (occurs one (drop (i + 1) lits)) number) ++ once one (get_or lits i d) number
unlisting_more base one lits i d number within =
    let less : occurs one (drop i lits) ≡ occurs one (drop (i + 1) lits) + cond (lit_eq one (get_or lits i d)) 1 0 =
    omega (arith, sum_by-drop_more (λ lit. cond {A = ℕ} (lit_eq one lit) 1 0) lits i d within) in
    ap (λ n. base ++ replicate n number) less
    ∙ ap (λ r. base ++ r) (sym (replicate-append-replicate (occurs one (drop (i + 1) lits)) (cond (lit_eq one (get_or lits i d)) 1 0) number))
    ∙ sym (append_assoc base (replicate (occurs one (drop (i + 1) lits)) number) (once one (get_or lits i d) number))

pub unlisted_all : (base : List ℕ) (one : Lit) (lits : List Lit) (i : ℕ) (number : ℕ) → length lits ≤ i → base ++ replicate (occurs one (drop i lits)) number ≡ base
unlisted_all base one lits i number end = ap (λ ls. base ++ replicate (occurs one ls) number) (drop_all i lits end) ∙ append-nil base

-- the numbers of one more clause
pub numbers_push : (lit : Lit) (from : ℕ) (clauses : List (List Lit)) (clause : List Lit) → numbers_of lit from (clauses ++ clause ∷ []) ≡ numbers_of lit from clauses ++ replicate (occurs lit clause) (from + length clauses)
numbers_push lit from [] clause = append-nil (replicate (occurs lit clause) from) ∙ ap (λ n. replicate (occurs lit clause) n) (omega arith)
numbers_push lit from (first ∷ clauses) clause =
    let same : from + 1 + length clauses ≡ from + length (first ∷ clauses) = omega arith in
    ap (λ r. replicate (occurs lit first) from ++ r) (numbers_push lit (from + 1) clauses clause ∙ ap (λ n. numbers_of lit (from + 1) clauses ++ replicate (occurs lit clause) n) same)
    ∙ sym (append_assoc (replicate (occurs lit first) from) (numbers_of lit (from + 1) clauses) (replicate (occurs lit clause) (from + length (first ∷ clauses))))

-- one more clause is listed
pub listed_push : (clauses : List (List Lit)) (clause : List Lit) (old new : List (Vec ℕ Global)) (number : ℕ) → AreListed clauses old → number ≡ length clauses
    → ((one : Lit) → row_of new one ≡ row_of old one ++ replicate (occurs one clause) number) → AreListed (clauses ++ clause ∷ []) new
listed_push clauses clause old new number listed is grown lit =
    grown lit ∙ ap (λ r. r ++ replicate (occurs lit clause) number) (listed lit)
    ∙ ap (λ n. numbers_of lit 0 clauses ++ replicate (occurs lit clause) n) (is ∙ omega arith) ∙ sym (numbers_push lit 0 clauses clause)

-- and the last one is taken out
pub listed_last : (clauses : List (List Lit)) (rows : List (Vec ℕ Global)) (last : ℕ) (d : List Lit) → last + 1 ≡ length clauses → AreListed clauses rows
    → (one : Lit) → row_of rows one ≡ numbers_of one 0 (take last clauses) ++ replicate (occurs one (get_or clauses last d)) last
listed_last clauses rows last d is listed one =
    let whole : clauses ≡ take last clauses ++ get_or clauses last d ∷ [] = sym (take_all (last + 1) clauses (omega (arith, is))) ∙ take_more clauses last d (omega (arith, is)) in
    let size : 0 + length (take last clauses) ≡ last = omega (arith, length-take last clauses, is) in
    listed one ∙ ap (numbers_of one 0) whole ∙ numbers_push one 0 (take last clauses) (get_or clauses last d) ∙ ap (λ n. numbers_of one 0 (take last clauses) ++ replicate (occurs one (get_or clauses last d)) n) size

count_append : (n : ℕ) (xs ys : List ℕ) → count_of n (xs ++ ys) ≡ count_of n xs + count_of n ys
count_append n xs ys = sum_by-append (λ other. cond (other == n) 1 0) xs ys

count_same : (m n : ℕ) → count_of n (replicate m n) ≡ m
count_same zero n = refl
count_same (suc m) n =
    let one : ◌≡◌ {A = ℕ} (cond (n == n) 1 0) 1 = ap (λ b. cond {A = ℕ} b 1 0) (eq-eqb n n refl) in
    omega (arith, count_cons (λ other. other == n) n (replicate m n), one, count_same m n)

count_other : (m number n : ℕ) → (number ≡ n → ⊥) → count_of n (replicate m number) ≡ 0
count_other zero number n apart = refl
count_other (suc m) number n apart =
    let none : ◌≡◌ {A = ℕ} (cond (number == n) 1 0) 0 = grind (arith, nat_tests) in
    omega (arith, count_cons (λ other. other == n) number (replicate m number), none, count_other m number n apart)

count_below : (lit : Lit) (from n : ℕ) (clauses : List (List Lit)) → n < from → count_of n (numbers_of lit from clauses) ≡ 0
count_below lit from n [] below = refl
count_below lit from n (clause ∷ clauses) below =
    omega (arith, count_append n (replicate (occurs lit clause) from) (numbers_of lit (from + 1) clauses), count_other (occurs lit clause) from n (λ e. omega (arith, below, e)), count_below lit (from + 1) n clauses (omega (arith, below)))

-- the row of a literal has a number as often as the literal stands in its clause
count_from : (lit : Lit) (from k : ℕ) (clauses : List (List Lit)) → count_of (from + k) (numbers_of lit from clauses) ≡ occurs lit (clause_at clauses k)
count_from lit from k [] = refl
count_from lit from zero (clause ∷ clauses) =
    let here : from + 0 ≡ from = omega arith in
    ap (λ n. count_of n (replicate (occurs lit clause) from ++ numbers_of lit (from + 1) clauses)) here
    ∙ omega (arith, count_append from (replicate (occurs lit clause) from) (numbers_of lit (from + 1) clauses), count_same (occurs lit clause) from, count_below lit (from + 1) from clauses (omega arith))
count_from lit from (suc k) (clause ∷ clauses) =
    let there : from + 1 + k ≡ from + suc k = omega arith in
    let rest : count_of (from + suc k) (numbers_of lit (from + 1) clauses) ≡ occurs lit (clause_at clauses k) = ap (λ n. count_of n (numbers_of lit (from + 1) clauses)) (sym there) ∙ count_from lit (from + 1) k clauses in
    omega (arith, count_append (from + suc k) (replicate (occurs lit clause) from) (numbers_of lit (from + 1) clauses), count_other (occurs lit clause) from (from + suc k) (λ e. omega (arith, e)), rest)

pub count_row : (rows : List (Vec ℕ Global)) (clauses : List (List Lit)) (lit : Lit) (row : List ℕ) (number : ℕ) → AreListed clauses rows → row ≡ row_of rows lit → count_of number row ≡ occurs lit (clause_at clauses number)
count_row rows clauses lit row number listed is =
    let zeroth : 0 + number ≡ number = omega arith in
    ap (count_of number) (is ∙ listed lit) ∙ ap (λ n. count_of n (numbers_of lit 0 clauses)) (sym zeroth) ∙ count_from lit 0 number clauses

-- what counts stands there
pub stands_there : (row : List ℕ) (number : ℕ) → 1 ≤ count_of number row → Contains row number
stands_there row number some =
    let one = count_passes (λ other. other == number) row some in
    subst (λ n. Contains row n) (same one.0 number one.2) one.1
  where
    same : (m n : ℕ) → (m == n) ≡ true → m ≡ n
    same m n is = grind (arith, nat_tests)

-- a number counts where it stands
pub counts_at : (row : List ℕ) (j d : ℕ) → j < length row → 1 ≤ count_of (get_or row j d) row
counts_at row j d within = count_one (λ other. other == get_or row j d) row (get_or row j d) (Contains-get_or row j d within) (eq-eqb (get_or row j d) (get_or row j d) refl)

pub count_more : (n : ℕ) (row : List ℕ) (j d : ℕ) → j < length row → count_of n (take (j + 1) row) ≡ count_of n (take j row) + cond (get_or row j d == n) 1 0
count_more n row j d within = sum_by_more (λ other. cond (other == n) 1 0) row j d within

pub count_first : (n : ℕ) (row : List ℕ) (j : ℕ) → count_of n (take j row) ≤ count_of n row
count_first n row j = sum_by-take-le (λ other. cond (other == n) 1 0) row j

count_self : (n : ℕ) → ◌≡◌ {A = ℕ} (cond (n == n) 1 0) 1
count_self n = ap (λ b. cond {A = ℕ} b 1 0) (eq-eqb n n refl)

count_apart : (m n : ℕ) → (m ≡ n → ⊥) → ◌≡◌ {A = ℕ} (cond (m == n) 1 0) 0
count_apart m n apart = grind (arith, nat_tests)

-- the counts of the first numbers of a row were lowered
pub record IsLowering (old now row : List ℕ) (j : ℕ) : Type 0 where
  pub size : length now ≡ length old
  pub less : (number : ℕ) → left_at now number + count_of number (take j row) ≡ left_at old number

-- a number of the row has a count, which is not nothing
pub lowering_some : (old now row : List ℕ) (j d : ℕ) → ((number : ℕ) → count_of number row ≤ left_at old number) → j < length row → IsLowering old now row j
    → (get_or row j d < length now) × (1 ≤ left_at now (get_or row j d))
lowering_some old now row j d most within lowering =
    let n = get_or row j d in
    let some : 1 ≤ left_at now n = omega (arith, most n, lowering.less n, count_more n row j d within, count_self n, count_first n row (j + 1)) in
    (elim (cases_lt n (length now)) [ inl inside ↦ inside | inr past ↦ absurd (omega (arith, some, get_or_past now n 0 past)) ], some)

pub lowering_more : (old now row : List ℕ) (j d new : ℕ) → ((number : ℕ) → count_of number row ≤ left_at old number) → j < length row → IsLowering old now row j
    → new + 1 ≡ left_at now (get_or row j d) → IsLowering old (set now (get_or row j d) new) row (j + 1)
lowering_more old now row j d new most within lowering is = record {
  size = length-set now n new ∙ lowering.size;
  less = λ number. elim (cases_eq number n) [
    | inl same ↦
        let put : left_at (set now n new) number ≡ new = ap (λ m. left_at (set now n new) m) same ∙ get_or-set_same now n new 0 (lowering_some old now row j d most within lowering).0 in
        let one : ◌≡◌ {A = ℕ} (cond (n == number) 1 0) 1 = ap (λ m. cond {A = ℕ} (n == m) 1 0) same ∙ count_self n in
        omega (arith, put, one, is, lowering.less number, count_more number row j d within, ap (λ m. left_at now m) same)
    | inr apart ↦
        omega (arith, get_or-set_other now n number new 0 apart, count_apart n number (λ e. apart (sym e)), lowering.less number, count_more number row j d within)
  ];
}
  where
    n : ℕ
    n = get_or row j d

pub lowering_all : (old now row : List ℕ) (j : ℕ) → length row ≤ j → IsLowering old now row j → (number : ℕ) → left_at now number + count_of number row ≡ left_at old number
lowering_all old now row j end lowering number = ap (λ r. left_at now number + count_of number r) (sym (take_all j row end)) ∙ lowering.less number

-- the counts of the first numbers of a row were raised
pub record IsRaising (old now row : List ℕ) (j : ℕ) : Type 0 where
  pub size : length now ≡ length old
  pub more : (number : ℕ) → left_at now number ≡ left_at old number + count_of number (take j row)

pub raising_few : (old now row : List ℕ) (j d bound : ℕ) → ((number : ℕ) → left_at old number + count_of number row < bound) → j < length row → IsRaising old now row j → left_at now (get_or row j d) + 1 < bound
raising_few old now row j d bound few within raising =
    let n = get_or row j d in
    omega (arith, few n, raising.more n, count_more n row j d within, count_self n, count_first n row (j + 1))

pub raising_more : (old now row : List ℕ) (j d new : ℕ) → All (λ number. number < length old) row → j < length row → IsRaising old now row j
    → new ≡ left_at now (get_or row j d) + 1 → IsRaising old (set now (get_or row j d) new) row (j + 1)
raising_more old now row j d new inside within raising is = record {
  size = length-set now n new ∙ raising.size;
  more = λ number. elim (cases_eq number n) [
    | inl same ↦
        let short : n < length now = omega (arith, inside j d within, raising.size) in
        let put : left_at (set now n new) number ≡ new = ap (λ m. left_at (set now n new) m) same ∙ get_or-set_same now n new 0 short in
        let one : ◌≡◌ {A = ℕ} (cond (n == number) 1 0) 1 = ap (λ m. cond {A = ℕ} (n == m) 1 0) same ∙ count_self n in
        omega (arith, put, one, is, raising.more number, count_more number row j d within, ap (λ m. left_at now m) same)
    | inr apart ↦
        omega (arith, get_or-set_other now n number new 0 apart, count_apart n number (λ e. apart (sym e)), raising.more number, count_more number row j d within)
  ];
}
  where
    n : ℕ
    n = get_or row j d

pub raising_all : (old now row : List ℕ) (j : ℕ) → length row ≤ j → IsRaising old now row j → (number : ℕ) → left_at now number ≡ left_at old number + count_of number row
raising_all old now row j end raising number = raising.more number ∙ ap (λ r. left_at old number + count_of number r) (take_all j row end)

-- each number of the row of a literal is that of a clause
pub row_within : (clauses : List (List Lit)) (lit : Lit) (row : List ℕ) (size : ℕ) → size ≡ length clauses → ((number : ℕ) → count_of number row ≡ occurs lit (clause_at clauses number)) → All (λ number. number < size) row
row_within clauses lit row size is counts j d within = elim (cases_lt (get_or row j d) (length clauses)) [
  | inl inside ↦ omega (arith, is, inside)
  | inr past ↦
      let none : occurs lit (clause_at clauses (get_or row j d)) ≡ 0 = ap (occurs lit) (get_or_past clauses (get_or row j d) [] past) in
      absurd (omega (arith, counts_at row j d within, counts (get_or row j d), none))
]

-- the last number is the one that is taken off
pub last_popped : (old new : List ℕ) (last : ℕ) (popped : Option ℕ) → slice_get old (length old - 1) ≡ Some last → old ≡ new ++ option_to_list popped
    → ((d : ℕ) → 0 < length old → popped ≡ Some (get_or old (length old - 1) d)) → old ≡ new ++ last ∷ []
last_popped old new last popped got is value =
    let within : length old - 1 < length old = slice_get_within old (length old - 1) last got in
    let one : popped ≡ Some last = value last (omega (arith, within)) ∙ ap (λ n. Some n) (get_or_from_slice_get old (length old - 1) last last got) in
    is ∙ ap (λ (p : Option ℕ). new ++ option_to_list p) one

-- a number that is taken off the end of a row is not one of those that stay
pub popped_keeps : (old new : List ℕ) (last count number : ℕ) → old ≡ new ++ last ∷ [] → count ≤ last → number < count → Contains old number → Contains new number
popped_keeps old new last count number is past below has = at (Contains-push_cases new last number (subst (λ r. Contains r number) is has))
  where
    at : Contains new number ⊎ (last ≡ number) → Contains new number
    at (inl stays) = stays
    at (inr same) = absurd (omega (arith, past, below, same))

pub got_first : {X : Type 0} (xs : List X) (count k : ℕ) (x : X) → slice_get (take count xs) k ≡ Some x → slice_get xs k ≡ Some x
got_first [] zero k x got = got
got_first [] (suc count) k x got = got
got_first (y ∷ ys) zero k x got = absurd (none-some x got)
got_first (y ∷ ys) (suc count) zero x got = got
got_first (y ∷ ys) (suc count) (suc k) x got = got_first ys count k x got

pub pushed_cases : (xs : List (List Lit)) (y : List Lit) (k : ℕ) (x : List Lit) → slice_get (xs ++ y ∷ []) k ≡ Some x → (slice_get xs k ≡ Some x) ⊎ ((k ≡ length xs) × (y ≡ x))
pushed_cases [] y zero x is = inr (refl, same_Some y x is)
pushed_cases [] y (suc k) x is = absurd (none-some x is)
pushed_cases (z ∷ xs) y zero x is = inl is
pushed_cases (z ∷ xs) y (suc k) x is = at (pushed_cases xs y k x is)
  where
    at : (slice_get xs k ≡ Some x) ⊎ ((k ≡ length xs) × (y ≡ x)) → (slice_get xs k ≡ Some x) ⊎ ((suc k ≡ suc (length xs)) × (y ≡ x))
    at (inl before) = inl before
    at (inr (same, equal)) = inr (ap (λ n. suc n) same, equal)

-- what holds of each clause and of the empty one holds with one more clause, and with fewer
pub each_push : (P : List Lit → Type 0) (clauses : List (List Lit)) (clause : List Lit) → P [] → P clause → ((number : ℕ) → P (clause_at clauses number)) → (number : ℕ) → P (clause_at (clauses ++ clause ∷ []) number)
each_push P clauses clause none last each number = elim (cases_lt number (length clauses)) [
  | inl inside ↦ subst P (sym (get_or_append_left clauses (clause ∷ []) [] number inside)) (each number)
  | inr past ↦ subst P (sym (get_or-append_right clauses (clause ∷ []) (length clauses) number [] refl past)) (at (number - length clauses))
]
  where
    at : (n : ℕ) → P (get_or (clause ∷ []) n [])
    at zero = last
    at (suc n) = none

pub each_take : (P : List Lit → Type 0) (clauses : List (List Lit)) (count : ℕ) → P [] → ((number : ℕ) → P (clause_at clauses number)) → (number : ℕ) → P (clause_at (take count clauses) number)
each_take P clauses count none each number = elim (cases_lt number count) [
  | inl below ↦ subst P (sym (get_or-take count clauses number [] below)) (each number)
  | inr past ↦ subst P (sym (get_or_past (take count clauses) number [] (omega (arith, past, length-take count clauses)))) none
]

-- the short clauses stay noted with one more clause, and with fewer
pub short_push : (clauses : List (List Lit)) (clause : List Lit) (old new : List ℕ) (number : ℕ) → number ≡ length clauses → HasShort clauses old → ((other : ℕ) → Contains old other → Contains new other)
    → (length clause < 2 → Contains new number) → HasShort (clauses ++ clause ∷ []) new
short_push clauses clause old new number is noted keeps last other one got few = elim (pushed_cases clauses clause other one got) [
  | inl before ↦ keeps other (noted other one before few)
  | inr both ↦ subst (λ n. Contains new n) (is ∙ sym both.0) (last (omega (arith, few, ap (λ (c : List Lit). length c) both.1)))
]

pub short_take : (clauses : List (List Lit)) (count : ℕ) (old new : List ℕ) → HasShort clauses old → ((number : ℕ) → number < count → Contains old number → Contains new number) → HasShort (take count clauses) new
short_take clauses count old new noted keeps number one got few =
    let within : number < length (take count clauses) = slice_get_within (take count clauses) number one got in
    keeps number (omega (arith, within, length-take count clauses)) (noted number one (got_first clauses count number one got) few)

-- while the last clauses are unloaded, the first ones stay
pub record IsUnloading (old now : LoadedForm) (count : ℕ) : Type 0 where
  pub clauses : take count now.clauses ≡ take count old.clauses
  pub left : take count now.left ≡ take count old.left
  pub rows : now.rows ≡ old.rows
  pub size : length now.left ≡ length now.clauses

pub unloading_more : (old now new : LoadedForm) (count : ℕ) → count < length now.clauses
    → new ≡ record now { clauses = take (length now.clauses - 1) now.clauses; left = take (length now.clauses - 1) now.left } → IsUnloading old now count → IsUnloading old new count
unloading_more old now new count more is unloading = record {
  clauses = ap (λ (l : LoadedForm). take count l.clauses) is ∙ take-take count (length now.clauses - 1) now.clauses (omega (arith, more)) ∙ unloading.clauses;
  left = ap (λ (l : LoadedForm). take count l.left) is ∙ take-take count (length now.clauses - 1) now.left (omega (arith, more)) ∙ unloading.left;
  rows = ap (λ (l : LoadedForm). l.rows) is ∙ unloading.rows;
  size = omega (arith, ap (λ (l : LoadedForm). length l.left) is, ap (λ (l : LoadedForm). length l.clauses) is, length-take (length now.clauses - 1) now.clauses, length-take (length now.clauses - 1) now.left, unloading.size);
}

pub unloading_less : (now new : LoadedForm) → 0 < length now.clauses → new ≡ record now { clauses = take (length now.clauses - 1) now.clauses; left = take (length now.clauses - 1) now.left } → length new.clauses < length now.clauses
unloading_less now new some is = omega (arith, some, ap (λ (l : LoadedForm). length l.clauses) is, length-take (length now.clauses - 1) now.clauses)

pub unloading_all : (old now : LoadedForm) (count : ℕ) → length now.clauses ≤ count → IsUnloading old now count → now ≡ record old { clauses = take count old.clauses; left = take count old.left }
unloading_all old now count end unloading = λ i. record {
  clauses = (sym (take_all count now.clauses end) ∙ unloading.clauses) i;
  left = (sym (take_all count now.left (omega (arith, end, unloading.size))) ∙ unloading.left) i;
  rows = unloading.rows i;
}
