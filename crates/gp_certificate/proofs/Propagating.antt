-- Propagation: literals that fall one after another, and the clauses that are looked at.
use Rattle.std.proofs.Common.{◌≡◌, ℕ, ◌+◌, ◌<◌, ◌≤◌, Bool, true, false, not, Option, None, Some, List, [], ◌∷◌, ◌++◌, length, take, get_or, All, Any, Contains, ◌⊎◌, inl, inr, refl, ap, sym, ◌∙◌, subst, arith}
use Rattle.std.specs.List.{slice_get}
use Rattle.std.specs.Prelude.{MatchBool}
use Rattle.std.proofs.lemmas.Bool.{cases_lt}
use Rattle.std.proofs.lemmas.List.{append_assoc, append-nil, take_more, take_all, take-append-le, take-map, get_or_default, length-append}
use Rattle.std.proofs.lemmas.List.Elements.{All-nil, All-weaker, All-take, All-push, All-contains, All-contains_itself, Contains-append_left, Contains-push_cases, Contains-push}
use Rattle.std.proofs.lemmas.List.Sums.{count_by-le-length}
use Rattle.std.proofs.lemmas.Option.{slice_get_within, get_or_from_slice_get}
use Rattle.gp_clause.specs.declared.lit.Lit.{Lit}
use Rattle.gp_clause.specs.Clause.{NamesOnce}
use Rattle.gp_clause.specs.Closure.{Conflicts, IsTrueIn, IsFalseIn}
use Rattle.gp_clause.specs.Lit.{opposite, negations}
use Rattle.gp_base.specs.ListLaws.{got_all, all_from_got, first_or_rest, nothing_in, contains_from_take}
use Rattle.gp_certificate.specs.declared.assignment.Assignment.{Assignment}
use Rattle.gp_certificate.specs.Assignment.{value_of, HasTwo, IsOpen, IsKept, IsClosing}
use Rattle.gp_certificate.specs.Counting.{fell, standing, IsDone, AreDone, AreExact, IsExact, HasBegun, Extends, StaysClosing, FindsConflict, GoesOn, LooksAt}
use Rattle.gp_certificate.specs.Loaded.{LoadedForm}
use Rattle.gp_certificate.specs.Rows.{occurs, clause_at, left_at, HasShort}
use Rattle.gp_certificate.proofs.Standing.{conflicts}
use Rattle.gp_certificate.proofs.Counts.{all_stand, lowered, not_before, done_open, open_done}

-- the literal that stands for none
abbrev pub no_lit : Lit
no_lit = record { variable = 0; positive = false }

-- how far an assignment was gone through is no part of what it keeps
pub kept_with : (assignment : Assignment) (cursor : ℕ) → IsKept assignment → IsKept (record assignment { cursor = cursor })
kept_with assignment cursor kept = record { room = kept.room; count = kept.count; trailed = kept.trailed; noted = kept.noted; once = kept.once }

pub closing_with : (start : List Lit) (clauses : List (List Lit)) (assignment : Assignment) (cursor : ℕ) → IsClosing start clauses assignment → IsClosing start clauses (record assignment { cursor = cursor })
closing_with start clauses assignment cursor closing = record { kept = kept_with assignment cursor closing.kept; derived = closing.derived; starts = closing.starts }

pub extends_with : (assignment new : Assignment) (cursor : ℕ) → Extends (record assignment { cursor = cursor }) new → Extends assignment new
extends_with assignment new cursor extends = record { kept = extends.kept; size = extends.size; trues = extends.trues; trail = extends.trail }

pub extends_same : (assignment : Assignment) → IsKept assignment → Extends assignment assignment
extends_same assignment kept = record { kept = kept; size = refl; trues = λ lit holds. holds; trail = ([], sym (append-nil assignment.trail.items)) }

pub extends_more : (old now new : Assignment) → Extends old now → Extends now new → Extends old new
extends_more old now new first second = record {
  kept = second.kept;
  size = second.size ∙ first.size;
  trues = λ lit holds. second.trues lit (first.trues lit holds);
  trail = (first.trail.0 ++ second.trail.0, second.trail.1 ∙ ap (λ ls. ls ++ second.trail.0) first.trail.1 ∙ append_assoc old.trail.items first.trail.0 second.trail.0);
}

-- what is on a trail stays there when it goes on
pub trailed_on : (old new : Assignment) (lit : Lit) → Extends old new → Contains old.trail.items lit → Contains new.trail.items lit
trailed_on old new lit extends has = subst (λ ls. Contains ls lit) (sym extends.trail.1) (Contains-append_left old.trail.items extends.trail.0 lit has)

pub first_on : (old new : Assignment) (n : ℕ) → Extends old new → n ≤ length old.trail.items → take n new.trail.items ≡ take n old.trail.items
first_on old new n extends within = ap (λ ls. take n ls) extends.trail.1 ∙ take-append-le n old.trail.items extends.trail.0 within

pub longer_on : (old new : Assignment) → Extends old new → length old.trail.items ≤ length new.trail.items
longer_on old new extends = omega (arith, ap (λ (ls : List Lit). length ls) extends.trail.1, length-append old.trail.items extends.trail.0)

pub done_after : (old new : Assignment) (fallen clause : List Lit) → Extends old new → IsDone fallen old.values.items clause → IsDone fallen new.values.items clause
done_after old new fallen clause extends (inl (k, lit, within, is, holds)) = inl (k, lit, within, is, extends.trues lit holds)
done_after old new fallen clause extends (inr two) = inr two

-- a clause by its number
clause_got : (clauses : List (List Lit)) (number : ℕ) (clause : List Lit) → slice_get clauses number ≡ Some clause → clause_at clauses number ≡ clause
clause_got clauses number clause got = get_or_from_slice_get clauses number clause [] got

only : (number other : ℕ) → Contains (number ∷ []) other → number ≡ other
only number other has = elim (first_or_rest number [] other has) [ inl same ↦ same | inr more ↦ absurd (nothing_in other more) ]

-- a number of no clause, a clause with enough left, and one that was looked at
pub looks_past : (loaded : LoadedForm) (old new : Assignment) (number : ℕ) → length loaded.clauses ≤ number → LooksAt loaded old new (number ∷ [])
looks_past loaded old new number past fallen among exact other clause has got =
    absurd (let within : other < length loaded.clauses = slice_get_within loaded.clauses other clause got in omega (arith, within, past, only number other has))

pub looks_enough : (loaded : LoadedForm) (old new : Assignment) (number : ℕ) → 2 ≤ left_at loaded.left number → LooksAt loaded old new (number ∷ [])
looks_enough loaded old new number enough fallen among exact other clause has got =
    inr (omega (arith, enough, ap (left_at loaded.left) (only number other has), exact.each other, ap (standing fallen) (clause_got loaded.clauses other clause got)))

pub looks_one : (loaded : LoadedForm) (old new : Assignment) (number : ℕ) (looked : List Lit) → looked ≡ clause_at loaded.clauses number → IsKept old
    → Any (IsTrueIn (value_of new.values.items)) looked ⊎ HasTwo old.values.items looked → LooksAt loaded old new (number ∷ [])
looks_one loaded old new number looked is kept outcome fallen among exact other clause has got =
    let same : looked ≡ clause = is ∙ ap (clause_at loaded.clauses) (only number other has) ∙ clause_got loaded.clauses other clause got in
    subst (λ c. IsDone fallen new.values.items c) same (done_open old new looked fallen kept among outcome)

-- a clause that is looked at is one of those that are loaded
pub looked_within : (clauses : List (List Lit)) (number : ℕ) (looked : List Lit) → number < length clauses → looked ≡ clause_at clauses number → Contains clauses looked
looked_within clauses number looked within is = (number, within, get_or_default clauses number looked [] within ∙ sym is)

-- while clauses are looked at, the first of them need no look more
pub record IsLooking (loaded : LoadedForm) (old now : Assignment) (numbers : List ℕ) (i : ℕ) : Type 0 where
  pub extends : Extends old now
  pub closing : StaysClosing loaded.clauses old now
  pub cursor : now.cursor ≡ old.cursor
  pub looks : LooksAt loaded old now (take i numbers)

pub looking_none : (loaded : LoadedForm) (old : Assignment) (numbers : List ℕ) → IsKept old → IsLooking loaded old old numbers 0
looking_none loaded old numbers kept = record {
  extends = extends_same old kept;
  closing = λ start closing. closing;
  cursor = refl;
  looks = λ fallen among exact number clause has got. absurd (nothing_in number has);
}

pub looking_more : (loaded : LoadedForm) (old now new : Assignment) (numbers : List ℕ) (i d : ℕ) → i < length numbers → Extends now new → StaysClosing loaded.clauses now new → new.cursor ≡ now.cursor
    → LooksAt loaded now new (get_or numbers i d ∷ []) → IsLooking loaded old now numbers i → IsLooking loaded old new numbers (i + 1)
looking_more loaded old now new numbers i d within extends closing cursor looks looking = record {
  extends = extends_more old now new looking.extends extends;
  closing = λ start before. closing start (looking.closing start before);
  cursor = cursor ∙ looking.cursor;
  looks = λ fallen among exact number clause has got.
      elim (Contains-push_cases (take i numbers) (get_or numbers i d) number (subst (λ ns. Contains ns number) (take_more numbers i d within) has)) [
        | inl early ↦ done_after now new fallen clause extends (looking.looks fallen among exact number clause early got)
        | inr same ↦ looks fallen (All-weaker (Contains old.trail.items) (Contains now.trail.items) (λ lit on. trailed_on old now lit looking.extends on) fallen among) exact number clause (0, omega arith, same) got
      ];
}

pub looking_all : (loaded : LoadedForm) (old now : Assignment) (numbers : List ℕ) (i : ℕ) → length numbers ≤ i → IsLooking loaded old now numbers i → LooksAt loaded old now numbers
looking_all loaded old now numbers i end looking = subst (λ ns. LooksAt loaded old now ns) (take_all i numbers end) looking.looks

-- where nothing fell, the short clauses alone need a look
pub begun_done : (loaded : LoadedForm) (old new : Assignment) (short : List ℕ) → old.cursor ≡ 0 → IsExact old loaded → HasShort loaded.clauses short → LooksAt loaded old new short
    → AreDone (take old.cursor old.trail.items) new.values.items loaded.clauses
begun_done loaded old new short none exact noted looks =
    all_from_got (IsDone (take old.cursor old.trail.items) new.values.items) loaded.clauses (λ number clause got. elim (cases_lt (length clause) 2) [
      | inl few ↦ looks (take old.cursor old.trail.items) (All-take (Contains old.trail.items) old.cursor old.trail.items (All-contains_itself old.trail.items)) exact.counts number clause (noted number clause got few) got
      | inr many ↦ inr (omega (arith, many, all_stand clause, ap (λ n. standing (take n old.trail.items) clause) none))
    ])

pub begun_before : (assignment : Assignment) (clauses : List (List Lit)) → 0 < assignment.cursor → HasBegun assignment clauses → AreDone (take assignment.cursor assignment.trail.items) assignment.values.items clauses
begun_before assignment clauses some (inl none) = absurd (omega (arith, some, none))
begun_before assignment clauses some (inr done) = done

-- the counts where one more literal fell
pub exact_fallen : (fallen : List Lit) (one : Lit) (clauses : List (List Lit)) (old new : List ℕ) → fell fallen (opposite one) ≡ false → AreExact fallen clauses old → length new ≡ length old
    → ((number : ℕ) → left_at new number + occurs (opposite one) (clause_at clauses number) ≡ left_at old number) → AreExact (fallen ++ one ∷ []) clauses new
exact_fallen fallen one clauses old new apart exact size less = record {
  size = size ∙ exact.size;
  each = λ number. omega (arith, less number, exact.each number, lowered fallen one (clause_at clauses number) apart);
}

pub exact_most : (fallen : List Lit) (one : Lit) (clauses : List (List Lit)) (left : List ℕ) → fell fallen (opposite one) ≡ false → AreExact fallen clauses left
    → (number : ℕ) → occurs (opposite one) (clause_at clauses number) ≤ left_at left number
exact_most fallen one clauses left apart exact number = omega (arith, exact.each number, lowered fallen one (clause_at clauses number) apart)

-- and where one fewer did
pub exact_risen : (fallen : List Lit) (one : Lit) (clauses : List (List Lit)) (old new : List ℕ) → fell fallen (opposite one) ≡ false → AreExact (fallen ++ one ∷ []) clauses old → length new ≡ length old
    → ((number : ℕ) → left_at new number ≡ left_at old number + occurs (opposite one) (clause_at clauses number)) → AreExact fallen clauses new
exact_risen fallen one clauses old new apart exact size more = record {
  size = size ∙ exact.size;
  each = λ number. omega (arith, more number, exact.each number, lowered fallen one (clause_at clauses number) apart);
}

pub exact_fits : (fallen : List Lit) (one : Lit) (clauses : List (List Lit)) (left : List ℕ) → fell fallen (opposite one) ≡ false → AreExact (fallen ++ one ∷ []) clauses left
    → (number : ℕ) → left_at left number + occurs (opposite one) (clause_at clauses number) ≤ length (clause_at clauses number)
exact_fits fallen one clauses left apart exact number =
    omega (arith, exact.each number, lowered fallen one (clause_at clauses number) apart, count_by-le-length (λ lit. not (fell fallen lit)) (clause_at clauses number))

-- no clause needs a look where one more literal fell, and those of its row were looked at
pub fallen_done : (loaded : LoadedForm) (old new : Assignment) (fallen : List Lit) (one : Lit) (row : List ℕ) → fell fallen (opposite one) ≡ false → All (Contains old.trail.items) (fallen ++ one ∷ [])
    → AreExact (fallen ++ one ∷ []) loaded.clauses loaded.left → ((number : ℕ) → 1 ≤ occurs (opposite one) (clause_at loaded.clauses number) → Contains row number)
    → LooksAt loaded old new row → Extends old new → AreDone fallen old.values.items loaded.clauses → AreDone (fallen ++ one ∷ []) new.values.items loaded.clauses
fallen_done loaded old new fallen one row apart among exact listed looks extends done =
    all_from_got (IsDone (fallen ++ one ∷ []) new.values.items) loaded.clauses (λ number clause got.
    at number clause got (got_all (IsDone fallen old.values.items) loaded.clauses number clause done got))
  where
    at : (number : ℕ) (clause : List Lit) → slice_get loaded.clauses number ≡ Some clause → IsDone fallen old.values.items clause → IsDone (fallen ++ one ∷ []) new.values.items clause
    at number clause got (inl (k, lit, within, is, holds)) = inl (k, lit, within, is, extends.trues lit holds)
    at number clause got (inr two) = elim (cases_lt 0 (occurs (opposite one) clause)) [
      | inl some ↦ looks (fallen ++ one ∷ []) among exact number clause (listed number (omega (arith, some, ap (occurs (opposite one)) (clause_got loaded.clauses number clause got)))) got
      | inr none ↦ inr (omega (arith, two, none, lowered fallen one clause apart))
    ]

-- the first literals of a trail, and the next one
pub next_first : (trail : List Lit) (cursor : ℕ) → cursor < length trail → take (cursor + 1) trail ≡ take cursor trail ++ get_or trail cursor no_lit ∷ []
next_first trail cursor within = take_more trail cursor no_lit within

pub trailed_first : (trail : List Lit) (cursor : ℕ) → cursor < length trail → All (Contains trail) (take cursor trail ++ get_or trail cursor no_lit ∷ [])
trailed_first trail cursor within = subst (λ ls. All (Contains trail) ls) (next_first trail cursor within) (All-take (Contains trail) (cursor + 1) trail (All-contains_itself trail))

-- a propagation that has not gone on, and one that goes on twice
pub goes_begun : (old new : Assignment) (loaded : LoadedForm) → IsExact old loaded → Extends old new → StaysClosing loaded.clauses old new → new.cursor ≡ old.cursor → GoesOn old new loaded loaded
goes_begun old new loaded exact extends closing cursor =
    let first : take new.cursor new.trail.items ≡ take old.cursor old.trail.items = ap (λ n. take n new.trail.items) cursor ∙ first_on old new old.cursor extends exact.within in
    record {
      extends = extends;
      closing = closing;
      exact = record { within = omega (arith, cursor, exact.within, longer_on old new extends); counts = subst (λ ls. AreExact ls loaded.clauses loaded.left) (sym first) exact.counts };
      onward = omega (arith, cursor);
      same = refl;
    }

pub goes_more : (old now new : Assignment) (before between after : LoadedForm) → GoesOn old now before between → GoesOn now new between after → GoesOn old new before after
goes_more old now new before between after first second =
    let clauses : between.clauses ≡ before.clauses = ap (λ (l : LoadedForm). l.clauses) first.same in
    record {
      extends = extends_more old now new first.extends second.extends;
      closing = λ start closing. subst (λ cs. IsClosing start cs new) clauses (second.closing start (subst (λ cs. IsClosing start cs now) (sym clauses) (first.closing start closing)));
      exact = second.exact;
      onward = omega (arith, first.onward, second.onward);
      same = second.same ∙ ap (λ (l : LoadedForm). record l { left = after.left }) first.same;
    }

pub found_more : (old now : Assignment) (before between : LoadedForm) → GoesOn old now before between → FindsConflict between.clauses now → FindsConflict before.clauses old
found_more old now before between first found start closing =
    let clauses : between.clauses ≡ before.clauses = ap (λ (l : LoadedForm). l.clauses) first.same in
    subst (λ cs. Conflicts start cs) clauses (found start (subst (λ cs. IsClosing start cs now) (sym clauses) (first.closing start closing)))

-- where all that is true was gone through, all clauses are open
pub all_open : (assignment : Assignment) (clauses : List (List Lit)) → IsKept assignment → All NamesOnce clauses → AreDone assignment.trail.items assignment.values.items clauses
    → All (IsOpen assignment.values.items) clauses
all_open assignment clauses kept once done =
    all_from_got (IsOpen assignment.values.items) clauses (λ number clause got.
    open_done assignment clause kept (got_all NamesOnce clauses number clause once got) (got_all (IsDone assignment.trail.items assignment.values.items) clauses number clause done got))

-- a literal that has a value and is not true is false
pub falls_else : (o : Option Bool) (lit : Lit) → (o ≡ None → ⊥) → (o ≡ Some lit.positive → ⊥) → o ≡ Some (not lit.positive)
falls_else None lit some apart = absurd (some refl)
falls_else (Some sign) lit some apart = ap (λ b. Some b) (other sign lit.positive (λ same. apart (ap (λ b. Some b) same)))
  where
    other : (a b : Bool) → (a ≡ b → ⊥) → a ≡ not b
    other true true differ = absurd (differ refl)
    other true false differ = refl
    other false true differ = refl
    other false false differ = absurd (differ refl)

-- while literals are made false, the first of them are
pub record IsTaking (old now : Assignment) (lits : List Lit) (i : ℕ) : Type 0 where
  pub extends : Extends old now
  pub cursor : now.cursor ≡ old.cursor
  pub among : All (λ lit. Contains old.trail.items lit ⊎ Contains (negations (take i lits)) lit) now.trail.items
  pub falls : All (Contains now.trail.items) (negations (take i lits))

pub taking_none : (old : Assignment) (lits : List Lit) → IsKept old → IsTaking old old lits 0
taking_none old lits kept = record {
  extends = extends_same old kept;
  cursor = refl;
  among = All-weaker (Contains old.trail.items) (λ lit. Contains old.trail.items lit ⊎ Contains [] lit) (λ lit has. inl has) old.trail.items (All-contains_itself old.trail.items);
  falls = All-nil (Contains old.trail.items);
}

negations_more : (lits : List Lit) (i : ℕ) (d : Lit) → i < length lits → negations (take (i + 1) lits) ≡ negations (take i lits) ++ opposite (get_or lits i d) ∷ []
negations_more lits i d within = ap negations (take_more lits i d within) ∙ map_push_of (take i lits) (get_or lits i d)
  where
    map_push_of : (xs : List Lit) (x : Lit) → negations (xs ++ x ∷ []) ≡ negations xs ++ opposite x ∷ []
    map_push_of [] x = refl
    map_push_of (y ∷ ys) x = ap (λ ls. opposite y ∷ ls) (map_push_of ys x)

pub taking_more : (old now new : Assignment) (lits : List Lit) (i : ℕ) (d : Lit) → i < length lits → Extends now new → new.cursor ≡ now.cursor → Contains new.trail.items (opposite (get_or lits i d))
    → All (λ one. Contains now.trail.items one ⊎ (opposite (get_or lits i d) ≡ one)) new.trail.items → IsTaking old now lits i → IsTaking old new lits (i + 1)
taking_more old now new lits i d within extends cursor falls among taking =
    let next = negations_more lits i d within in
    record {
      extends = extends_more old now new taking.extends extends;
      cursor = cursor ∙ taking.cursor;
      among = subst (λ ns. All (λ lit. Contains old.trail.items lit ⊎ Contains ns lit) new.trail.items) (sym next)
          (All-weaker (λ one. Contains now.trail.items one ⊎ (opposite (get_or lits i d) ≡ one)) (λ lit. Contains old.trail.items lit ⊎ Contains (negations (take i lits) ++ opposite (get_or lits i d) ∷ []) lit)
          (λ one state. at one state) new.trail.items among);
      falls = subst (λ ns. All (Contains new.trail.items) ns) (sym next)
          (All-push (Contains new.trail.items) (negations (take i lits)) (opposite (get_or lits i d))
          (All-weaker (Contains now.trail.items) (Contains new.trail.items) (λ lit has. trailed_on now new lit extends has) (negations (take i lits)) taking.falls) falls);
    }
  where
    at : (one : Lit) → Contains now.trail.items one ⊎ (opposite (get_or lits i d) ≡ one) → Contains old.trail.items one ⊎ Contains (negations (take i lits) ++ opposite (get_or lits i d) ∷ []) one
    at one (inl has) = elim (All-contains (λ lit. Contains old.trail.items lit ⊎ Contains (negations (take i lits)) lit) now.trail.items one taking.among has) [
      | inl before ↦ inl before
      | inr made ↦ inr (Contains-append_left (negations (take i lits)) (opposite (get_or lits i d) ∷ []) one made)
    ]
    at one (inr same) = inr (subst (λ l. Contains (negations (take i lits) ++ opposite (get_or lits i d) ∷ []) l) same (Contains-push (negations (take i lits)) (opposite (get_or lits i d))))

pub taking_among : (old now : Assignment) (lits : List Lit) (i : ℕ) → IsTaking old now lits i → All (λ lit. Contains old.trail.items lit ⊎ Contains (negations lits) lit) now.trail.items
taking_among old now lits i taking =
    All-weaker (λ lit. Contains old.trail.items lit ⊎ Contains (negations (take i lits)) lit) (λ lit. Contains old.trail.items lit ⊎ Contains (negations lits) lit) (λ lit state. at lit state) now.trail.items taking.among
  where
    at : (lit : Lit) → Contains old.trail.items lit ⊎ Contains (negations (take i lits)) lit → Contains old.trail.items lit ⊎ Contains (negations lits) lit
    at lit (inl has) = inl has
    at lit (inr made) = inr (contains_from_take i (negations lits) lit (subst (λ ns. Contains ns lit) (sym (take-map opposite i lits)) made))

pub taking_all : (old now : Assignment) (lits : List Lit) (i : ℕ) → length lits ≤ i → IsTaking old now lits i → All (Contains now.trail.items) (negations lits)
taking_all old now lits i end taking = subst (λ ls. All (Contains now.trail.items) (negations ls)) (take_all i lits end) taking.falls

-- what looking at a clause tells
pub look_gives : (loaded : LoadedForm) (old new : Assignment) (number : ℕ) (looked : List Lit) (answer : Bool) → number < length loaded.clauses → looked ≡ clause_at loaded.clauses number → IsKept old
    → MatchBool answer (All (IsFalseIn (value_of old.values.items)) looked) (Any (IsTrueIn (value_of new.values.items)) looked ⊎ HasTwo old.values.items looked)
    → MatchBool answer (FindsConflict loaded.clauses old) (LooksAt loaded old new (number ∷ []))
look_gives loaded old new number looked true within is kept all = λ start closing. conflicts start loaded.clauses old looked closing (looked_within loaded.clauses number looked within is) all
look_gives loaded old new number looked false within is kept outcome = looks_one loaded old new number looked is kept outcome

pub begin_gives : (loaded : LoadedForm) (old new : Assignment) (short : List ℕ) (answer : Bool) → old.cursor ≡ 0 → IsExact old loaded → HasShort loaded.clauses short
    → MatchBool answer (FindsConflict loaded.clauses old) (LooksAt loaded old new short) → MatchBool answer (FindsConflict loaded.clauses old) (AreDone (take old.cursor old.trail.items) new.values.items loaded.clauses)
begin_gives loaded old new short true none exact noted found = found
begin_gives loaded old new short false none exact noted looks = begun_done loaded old new short none exact noted looks

-- a literal of the trail falls
pub fall_exact : (old : Assignment) (before after : LoadedForm) (fallen : Lit) → IsKept old → old.cursor < length old.trail.items → IsExact old before → fallen ≡ opposite (get_or old.trail.items old.cursor no_lit)
    → after ≡ record before { left = after.left } → length after.left ≡ length before.left
    → ((number : ℕ) → left_at after.left number + occurs fallen (clause_at before.clauses number) ≡ left_at before.left number)
    → AreExact (take old.cursor old.trail.items ++ get_or old.trail.items old.cursor no_lit ∷ []) after.clauses after.left
fall_exact old before after fallen kept within exact is same size less =
    let one = get_or old.trail.items old.cursor no_lit in
    let first = take old.cursor old.trail.items in
    subst (λ cs. AreExact (first ++ one ∷ []) cs after.left) (sym (ap (λ (l : LoadedForm). l.clauses) same))
    (exact_fallen first one before.clauses before.left after.left (not_before old.trail.items old.cursor no_lit kept.once within) exact.counts size
    (λ number. subst (λ l. left_at after.left number + occurs l (clause_at before.clauses number) ≡ left_at before.left number) is (less number)))

pub fall_most : (old : Assignment) (before : LoadedForm) (fallen : Lit) → IsKept old → old.cursor < length old.trail.items → IsExact old before → fallen ≡ opposite (get_or old.trail.items old.cursor no_lit)
    → (number : ℕ) → occurs fallen (clause_at before.clauses number) ≤ left_at before.left number
fall_most old before fallen kept within exact is number =
    subst (λ l. occurs l (clause_at before.clauses number) ≤ left_at before.left number) (sym is)
    (exact_most (take old.cursor old.trail.items) (get_or old.trail.items old.cursor no_lit) before.clauses before.left (not_before old.trail.items old.cursor no_lit kept.once within) exact.counts number)

pub fall_first : (old new : Assignment) → old.cursor < length old.trail.items → Extends old new → new.cursor ≡ old.cursor + 1
    → take new.cursor new.trail.items ≡ take old.cursor old.trail.items ++ get_or old.trail.items old.cursor no_lit ∷ []
fall_first old new within extends cursor =
    ap (λ n. take n new.trail.items) cursor ∙ first_on old new (old.cursor + 1) extends (omega (arith, within)) ∙ next_first old.trail.items old.cursor within

pub fall_on : (old new : Assignment) (before after : LoadedForm) → IsKept old → old.cursor < length old.trail.items → after ≡ record before { left = after.left }
    → AreExact (take old.cursor old.trail.items ++ get_or old.trail.items old.cursor no_lit ∷ []) after.clauses after.left
    → Extends (record old { cursor = old.cursor + 1 }) new → StaysClosing after.clauses (record old { cursor = old.cursor + 1 }) new → new.cursor ≡ old.cursor + 1 → GoesOn old new before after
fall_on old new before after kept within same counts extends closing cursor =
    let on : Extends old new = extends_with old new (old.cursor + 1) extends in
    let clauses : after.clauses ≡ before.clauses = ap (λ (l : LoadedForm). l.clauses) same in
    record {
      extends = on;
      closing = λ start before_closing.
          subst (λ cs. IsClosing start cs new) clauses (closing start (closing_with start after.clauses old (old.cursor + 1) (subst (λ cs. IsClosing start cs old) (sym clauses) before_closing)));
      exact = record { within = omega (arith, cursor, within, longer_on old new on); counts = subst (λ ls. AreExact ls after.clauses after.left) (sym (fall_first old new within on cursor)) counts };
      onward = omega (arith, cursor);
      same = same;
    }

pub fall_gives : (old new : Assignment) (before after : LoadedForm) (fallen : Lit) (row : List ℕ) (answer : Bool) → IsKept old → old.cursor < length old.trail.items → fallen ≡ opposite (get_or old.trail.items old.cursor no_lit)
    → after ≡ record before { left = after.left } → AreExact (take old.cursor old.trail.items ++ get_or old.trail.items old.cursor no_lit ∷ []) after.clauses after.left
    → ((number : ℕ) → 1 ≤ occurs fallen (clause_at after.clauses number) → Contains row number)
    → Extends (record old { cursor = old.cursor + 1 }) new → new.cursor ≡ old.cursor + 1 → AreDone (take old.cursor old.trail.items) old.values.items before.clauses
    → MatchBool answer (FindsConflict after.clauses (record old { cursor = old.cursor + 1 })) (LooksAt after (record old { cursor = old.cursor + 1 }) new row)
    → MatchBool answer (FindsConflict before.clauses old) (AreDone (take new.cursor new.trail.items) new.values.items before.clauses)
fall_gives old new before after fallen row true kept within is same counts listed extends cursor done found = λ start closing.
    let clauses : after.clauses ≡ before.clauses = ap (λ (l : LoadedForm). l.clauses) same in
    subst (λ cs. Conflicts start cs) clauses (found start (closing_with start after.clauses old (old.cursor + 1) (subst (λ cs. IsClosing start cs old) (sym clauses) closing)))
fall_gives old new before after fallen row false kept within is same counts listed extends cursor done looks =
    let one = get_or old.trail.items old.cursor no_lit in
    let first = take old.cursor old.trail.items in
    let on : Extends old new = extends_with old new (old.cursor + 1) extends in
    let clauses : after.clauses ≡ before.clauses = ap (λ (l : LoadedForm). l.clauses) same in
    let all : AreDone (first ++ one ∷ []) new.values.items after.clauses =
    fallen_done after old new first one row (not_before old.trail.items old.cursor no_lit kept.once within) (trailed_first old.trail.items old.cursor within) counts
    (subst (λ l. (number : ℕ) → 1 ≤ occurs l (clause_at after.clauses number) → Contains row number) is listed) looks on (subst (λ cs. AreDone first old.values.items cs) (sym clauses) done) in
    subst (λ ls. AreDone ls new.values.items before.clauses) (sym (fall_first old new within on cursor)) (subst (λ cs. AreDone (first ++ one ∷ []) new.values.items cs) clauses all)

-- the last literal that was gone through stands again
pub rise_fits : (old : Assignment) (before : LoadedForm) (last : ℕ) (fallen : Lit) → IsKept old → last + 1 ≡ old.cursor → IsExact old before → fallen ≡ opposite (get_or old.trail.items last no_lit)
    → (number : ℕ) → left_at before.left number + occurs fallen (clause_at before.clauses number) ≤ length (clause_at before.clauses number)
rise_fits old before last fallen kept next exact is number =
    let within : last < length old.trail.items = omega (arith, next, exact.within) in
    let first : take old.cursor old.trail.items ≡ take last old.trail.items ++ get_or old.trail.items last no_lit ∷ [] = ap (λ n. take n old.trail.items) (sym next) ∙ next_first old.trail.items last within in
    subst (λ l. left_at before.left number + occurs l (clause_at before.clauses number) ≤ length (clause_at before.clauses number)) (sym is)
    (exact_fits (take last old.trail.items) (get_or old.trail.items last no_lit) before.clauses before.left (not_before old.trail.items last no_lit kept.once within)
    (subst (λ ls. AreExact ls before.clauses before.left) first exact.counts) number)

pub rise_exact : (old : Assignment) (before after : LoadedForm) (last : ℕ) (fallen : Lit) → IsKept old → last + 1 ≡ old.cursor → IsExact old before → fallen ≡ opposite (get_or old.trail.items last no_lit)
    → after ≡ record before { left = after.left } → length after.left ≡ length before.left
    → ((number : ℕ) → left_at after.left number ≡ left_at before.left number + occurs fallen (clause_at before.clauses number)) → IsExact (record old { cursor = last }) after
rise_exact old before after last fallen kept next exact is same size more =
    let within : last < length old.trail.items = omega (arith, next, exact.within) in
    let first : take old.cursor old.trail.items ≡ take last old.trail.items ++ get_or old.trail.items last no_lit ∷ [] = ap (λ n. take n old.trail.items) (sym next) ∙ next_first old.trail.items last within in
    record {
      within = omega (arith, within);
      counts = subst (λ cs. AreExact (take last old.trail.items) cs after.left) (sym (ap (λ (l : LoadedForm). l.clauses) same))
          (exact_risen (take last old.trail.items) (get_or old.trail.items last no_lit) before.clauses before.left after.left (not_before old.trail.items last no_lit kept.once within)
          (subst (λ ls. AreExact ls before.clauses before.left) first exact.counts) size
          (λ number. subst (λ l. left_at after.left number ≡ left_at before.left number + occurs l (clause_at before.clauses number)) is (more number)));
    }

-- the literal at a place of a trail, read with any default
pub read_at : (trail : List Lit) (place : ℕ) (lit : Lit) → place < length trail → lit ≡ get_or trail place lit → lit ≡ get_or trail place no_lit
read_at trail place lit within is = is ∙ get_or_default trail place lit no_lit within
