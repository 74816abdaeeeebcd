-- Marks that are made from the last step back tell what is told.
use Rattle.std.proofs.Common.{ℕ, zero, suc, ◌≡◌, ◌≢◌, ◌+◌, ◌<◌, ◌≤◌, refl, ap, sym, ◌∙◌, subst, inl, inr, arith, Bool, true, false, List, [], ◌∷◌, ◌++◌, append_assoc, drop, get_or, get_or-set_other, get_or-set_same, length, set}
use Rattle.std.specs.Prelude.{◌&&◌, ◌||◌, ◌==◌, Contains, filter, if◌then◌else◌, nat_le, nat_lt}
use Rattle.std.specs.List.{list_any}
use Rattle.std.proofs.lemmas.Bool.{and_left, and_right, cases_Bool, cases_eq, le-leb, le-ltb, lt-leb, lt-ltb, ltb-false, ltb-true}
use Rattle.std.proofs.lemmas.List.{drop_all, drop_more, nil_from_length}
use Rattle.std.proofs.lemmas.List.Elements.{filter-append}
use Rattle.gp_base.specs.ListLaws.{first_or_rest, here, nothing_in, there}
use Rattle.gp_certificate.specs.declared.step.Step.{Step}
use Rattle.gp_reason.specs.Marks.{AreCited, AreWalked, is_marked, marked_among, with_cited}
use Rattle.gp_reason.specs.Told.{all_steps, cites, hints_cite, numbered, numbered_from, NumberedStep, told_among, told_of, with_step}

pub or_false : (b : Bool) → (b || false) ≡ b
or_false true = refl
or_false false = refl

-- a mark that is not made
pub not_made : (old x : Bool) → x ≡ false → old ≡ (old || x)
not_made old x none = sym (ap (λ b. old || b) none ∙ or_false old)

true_last : (old x y : Bool) → x ≡ true → y ≡ true → true ≡ (old || (x && y))
true_last true x y a b = refl
true_last false x y a b = sym (ap (λ c. c && y) a ∙ b)

-- one hint more, of those that are left
spread : (m h r l : Bool) → ((m || (h && l)) || (r && l)) ≡ (m || ((h || r) && l))
spread true h r l = refl
spread false true r true = refl
spread false true true false = refl
spread false true false false = refl
spread false false r l = refl

pub one_hint : (marks new start : List Bool) (hints : List ℕ) (place number other : ℕ) → place < length hints
    → is_marked new other ≡ (is_marked marks other || (get_or hints place 0 == other && nat_lt other number))
    → (is_marked marks other || (list_any (λ hint. hint == other) (drop place hints) && nat_lt other number))
    ≡ (is_marked start other || (list_any (λ hint. hint == other) hints && nat_lt other number))
    → (is_marked new other || (list_any (λ hint. hint == other) (drop (place + 1) hints) && nat_lt other number))
    ≡ (is_marked start other || (list_any (λ hint. hint == other) hints && nat_lt other number))
one_hint marks new start hints place number other below is before =
    ap (λ b. b || (list_any (λ hint. hint == other) (drop (place + 1) hints) && nat_lt other number)) is
    ∙ spread (is_marked marks other) (get_or hints place 0 == other) (list_any (λ hint. hint == other) (drop (place + 1) hints)) (nat_lt other number)
    ∙ ap (λ (rest : List ℕ). is_marked marks other || (list_any (λ hint. hint == other) rest && nat_lt other number)) (sym (drop_more hints place 0 below))
    ∙ before

pub no_hint : (marks start : List Bool) (hints : List ℕ) (place number other : ℕ) → length hints ≤ place
    → (is_marked marks other || (list_any (λ hint. hint == other) (drop place hints) && nat_lt other number))
    ≡ (is_marked start other || (list_any (λ hint. hint == other) hints && nat_lt other number))
    → is_marked marks other ≡ (is_marked start other || (list_any (λ hint. hint == other) hints && nat_lt other number))
no_hint marks start hints place number other past before =
    sym (or_false (is_marked marks other))
    ∙ ap (λ (rest : List ℕ). is_marked marks other || (list_any (λ hint. hint == other) rest && nat_lt other number)) (sym (drop_all place hints past))
    ∙ before

-- one number more of a range
below_alike : (other next : ℕ) → other ≢ next → (b : Bool) → nat_lt other next ≡ b → nat_lt other next ≡ nat_lt other (next + 1)
below_alike other next apart true is =
    let less : other < next = ltb-true other next is in
    is ∙ sym (lt-ltb other (next + 1) (omega (arith, less)))
below_alike other next apart false is =
    elim (cases_Bool (nat_lt other (next + 1))) [
      | inl less ↦
          let near : other < next + 1 = ltb-true other (next + 1) less in
          let past : next ≤ other = ltb-false other next is in
          absurd (apart (omega (arith, near, past)))
      | inr not_less ↦ is ∙ sym not_less
    ]

pub one_number : (marks : List Bool) (first next other : ℕ) (old : Bool) → next < length marks → first ≤ next
    → is_marked marks other ≡ (old || (nat_le first other && nat_lt other next))
    → is_marked (set marks next true) other ≡ (old || (nat_le first other && nat_lt other (next + 1)))
one_number marks first next other old within order is =
    elim (cases_eq other next) [
      | inl same ↦
          subst (λ o. is_marked (set marks next true) o ≡ (old || (nat_le first o && nat_lt o (next + 1)))) (sym same)
          (get_or-set_same marks next true false within
          ∙ true_last old (nat_le first next) (nat_lt next (next + 1)) (le-leb first next order) (lt-ltb next (next + 1) (omega arith)))
      | inr apart ↦
          get_or-set_other marks next other true false apart ∙ is
          ∙ ap (λ b. old || (nat_le first other && b)) (below_alike other next apart (nat_lt other next) refl)
    ]

pub no_number : (first other : ℕ) (old : Bool) → old ≡ (old || (nat_le first other && nat_lt other first))
no_number first other old =
    elim (cases_Bool (nat_lt other first)) [
      | inl less ↦
          let below : other < first = ltb-true other first less in
          not_made old (nat_le first other && nat_lt other first) (and_left (nat_le first other) (nat_lt other first) (lt-leb first other below))
      | inr not_less ↦ not_made old (nat_le first other && nat_lt other first) (and_right (nat_le first other) (nat_lt other first) not_less)
    ]

-- a step with this number before others
abbrev first_then : ℕ → ℕ → Step → List NumberedStep → List NumberedStep
first_then first number step rest = record { first = first; number = number; step = step } ∷ rest

-- a step of a list by its place
pub numbered_at : (first start number place next : ℕ) (steps : List Step) (d : Step) → number ≡ start + place → next ≡ suc place → place < length steps
    → drop place (numbered_from first start steps)
    ≡ record { first = first; number = number; step = get_or steps place d } ∷ drop next (numbered_from first start steps)
numbered_at first start number place next [] d is after below = absurd (omega (arith, below))
numbered_at first start number zero next (step ∷ steps) d is after below =
    let same : start ≡ number = omega (arith, is) in
    subst (λ n. ◌≡◌ {A = List NumberedStep} (record { first = first; number = start; step = step } ∷ numbered_from first (suc start) steps)
    (record { first = first; number = number; step = step } ∷ drop n (record { first = first; number = start; step = step } ∷ numbered_from first (suc start) steps)))
    (sym after) (ap (λ (n : ℕ). first_then first n step (numbered_from first (suc start) steps)) same)
numbered_at first start number (suc place) next (step ∷ steps) d is after below =
    subst (λ n. ◌≡◌ {A = List NumberedStep} (drop place (numbered_from first (suc start) steps))
    (record { first = first; number = number; step = get_or steps place d } ∷ drop n (record { first = first; number = start; step = step } ∷ numbered_from first (suc start) steps)))
    (sym after) (numbered_at first (suc start) number place (suc place) steps d (omega (arith, is)) refl (omega (arith, below)))

pub numbered_length : (first start : ℕ) (steps : List Step) → length (numbered_from first start steps) ≡ length steps
numbered_length first start [] = refl
numbered_length first start (step ∷ steps) = ap suc (numbered_length first (suc start) steps)

-- the numbers of a list are not below its first
pub not_before : (first start : ℕ) (steps : List Step) (step : NumberedStep) → Contains (numbered_from first start steps) step → start ≤ step.number
not_before first start [] step i = absurd (nothing_in step i)
not_before first start (head ∷ steps) step i =
    elim (first_or_rest (record { first = first; number = start; step = head }) (numbered_from first (suc start) steps) step i) [
      | inl same ↦ let at : start ≡ step.number = ap (λ (s : NumberedStep). s.number) same in omega (arith, at)
      | inr rest ↦ let later = not_before first (suc start) steps step rest in omega (arith, later)
    ]

-- nor are those of what is left of it behind a place
pub left_after : (first start place : ℕ) (steps : List Step) (step : NumberedStep) → Contains (drop place (numbered_from first start steps)) step → start + place ≤ step.number
left_after first start zero steps step i = let from = not_before first start steps step i in omega (arith, from)
left_after first start (suc place) [] step i = absurd (nothing_in step i)
left_after first start (suc place) (head ∷ steps) step i = let rest = left_after first (suc start) place steps step i in omega (arith, rest)

pub numbered_append : (first start number : ℕ) (steps : List Step) (last : Step) → number ≡ start + length steps
    → numbered_from first start (steps ++ last ∷ []) ≡ numbered_from first start steps ++ record { first = first; number = number; step = last } ∷ []
numbered_append first start number [] last is =
    let same : start ≡ number = omega (arith, is) in
    ap (λ (n : ℕ). first_then first n last []) same
numbered_append first start number (step ∷ steps) last is =
    ap (λ (rest : List NumberedStep). record { first = first; number = start; step = step } ∷ rest) (numbered_append first (suc start) number steps last (omega (arith, is)))

-- two tests that agree on a list
pub filter_same : {X : Type 0} (p q : X → Bool) (xs : List X) → ((x : X) → Contains xs x → p x ≡ q x) → filter p xs ≡ filter q xs
filter_same p q [] same = refl
filter_same p q (x ∷ xs) same =
    ap (λ b. if b then x ∷ filter p xs else filter p xs) (same x (here x xs))
    ∙ ap (λ rest. if q x then x ∷ rest else rest) (filter_same p q xs (λ y i. same y (there x xs y i)))

-- a mark of a step that is not marked, of numbers that are not below it, and of those below it
no_mark : (m b c : Bool) → (m || (b && (c && false))) ≡ m
no_mark true b c = refl
no_mark false true true = refl
no_mark false true false = refl
no_mark false false c = refl

new_mark : (m c : Bool) → (m || (true && (c && true))) ≡ (c || m)
new_mark true true = refl
new_mark true false = refl
new_mark false true = refl
new_mark false false = refl

-- what a step that is passed leaves of the marks
abbrev IsPassed : List Bool → List Bool → NumberedStep → Type 0
IsPassed marks new step = (other : ℕ) → is_marked new other ≡ (is_marked marks other || (is_marked marks step.number && (cites other step && nat_lt other step.number)))

later_kept : (marks new : List Bool) (step : NumberedStep) → IsPassed marks new step → (other : ℕ) → step.number ≤ other → is_marked new other ≡ is_marked marks other
later_kept marks new step passed other late =
    passed other
    ∙ ap (λ b. is_marked marks other || (is_marked marks step.number && (cites other step && b))) (le-ltb other step.number late)
    ∙ no_mark (is_marked marks other) (is_marked marks step.number) (cites other step)

walk_marked : (old marks new : List Bool) (above next : ℕ) (step : NumberedStep) (rest told : List NumberedStep) → next ≡ step.number + 1 → step.number < above
    → ((x : NumberedStep) → Contains rest x → next ≤ x.number) → IsPassed marks new step → AreWalked old marks next above rest told
    → (b : Bool) → is_marked marks step.number ≡ b → AreWalked old new step.number above (step ∷ rest) told
walk_marked old marks new above next step rest told is below after passed walked true on =
    record {
      cited = λ other less.
          passed other
          ∙ ap (λ b. is_marked marks other || (b && (cites other step && nat_lt other step.number))) on
          ∙ ap (λ b. is_marked marks other || (true && (cites other step && b))) (lt-ltb other step.number less)
          ∙ new_mark (is_marked marks other) (cites other step)
          ∙ ap (λ b. cites other step || b) (walked.cited other (omega (arith, less, is)))
          ∙ ap (list_any (cites other)) (sym grown);
      marked =
          ap (λ b. (if b then step ∷ marked_among new rest else marked_among new rest) ++ told) (later_kept marks new step passed step.number (omega arith) ∙ on)
          ∙ ap (λ (ys : List NumberedStep). step ∷ (ys ++ told)) kept ∙ ap (λ (ys : List NumberedStep). step ∷ ys) walked.marked ∙ sym grown;
      later = λ other late. later_kept marks new step passed other (omega (arith, late, below)) ∙ walked.later other late;
    }
  where
    grown : with_cited (step ∷ rest) told ≡ step ∷ with_cited rest told
    grown = ap (λ b. if b then step ∷ with_cited rest told else with_cited rest told) (sym (walked.cited step.number (omega (arith, is))) ∙ on)

    kept : marked_among new rest ≡ marked_among marks rest
    kept = filter_same (λ (s : NumberedStep). is_marked new s.number) (λ (s : NumberedStep). is_marked marks s.number) rest
        (λ x i. let from = after x i in later_kept marks new step passed x.number (omega (arith, from, is)))
walk_marked old marks new above next step rest told is below after passed walked false off =
    record {
      cited = λ other less. unchanged other ∙ walked.cited other (omega (arith, less, is)) ∙ ap (list_any (cites other)) (sym without);
      marked =
          ap (λ b. (if b then step ∷ marked_among new rest else marked_among new rest) ++ told) (unchanged step.number ∙ off)
          ∙ ap (λ (ys : List NumberedStep). ys ++ told) kept ∙ walked.marked ∙ sym without;
      later = λ other late. unchanged other ∙ walked.later other late;
    }
  where
    without : with_cited (step ∷ rest) told ≡ with_cited rest told
    without = ap (λ b. if b then step ∷ with_cited rest told else with_cited rest told) (sym (walked.cited step.number (omega (arith, is))) ∙ off)

    unchanged : (other : ℕ) → is_marked new other ≡ is_marked marks other
    unchanged other =
        passed other
        ∙ ap (λ b. is_marked marks other || (b && (cites other step && nat_lt other step.number))) off
        ∙ or_false (is_marked marks other)

    kept : marked_among new rest ≡ marked_among marks rest
    kept = filter_same (λ (s : NumberedStep). is_marked new s.number) (λ (s : NumberedStep). is_marked marks s.number) rest (λ x i. unchanged x.number)

-- one step of the walk back
pub walk_back : (old marks new : List Bool) (first place next above : ℕ) (steps : List Step) (step : Step) (told : List NumberedStep) → next ≡ suc place → place < length steps
    → above ≡ first + length steps → step ≡ get_or steps place step
    → ((other : ℕ) → is_marked new other ≡ (is_marked marks other || (is_marked marks (first + place) && (hints_cite first other step.hints && nat_lt other (first + place)))))
    → AreWalked old marks (first + next) above (drop next (numbered first steps)) told
    → AreWalked old new (first + place) above (drop place (numbered first steps)) told
walk_back old marks new first place next above steps step told is below end at passed walked =
    subst (λ (list : List NumberedStep). AreWalked old new (first + place) above list told)
    (sym (numbered_at first first (first + place) place next steps step refl is below ∙ ap (λ (s : Step). first_then first (first + place) s (drop next (numbered first steps))) (sym at)))
    (walk_marked old marks new above (first + next) (record { first = first; number = first + place; step = step }) (drop next (numbered first steps)) told
    (omega (arith, is)) (omega (arith, end, below)) (left_after first first next steps) passed walked (is_marked marks (first + place)) refl)

-- before the walk, and after it
pub walk_begun : (marks : List Bool) (first above : ℕ) (steps : List Step) (told : List NumberedStep) → above ≡ first + length steps → AreCited marks above told
    → AreWalked marks marks above above (drop (length steps) (numbered first steps)) told
walk_begun marks first above steps told end cited =
    subst (λ (list : List NumberedStep). AreWalked marks marks above above list told)
    (sym (drop_all (length steps) (numbered first steps) (let size = numbered_length first first steps in omega (arith, size))))
    (record { cited = cited; marked = refl; later = λ number late. refl })

pub walk_ended : (old marks : List Bool) (first place above : ℕ) (steps : List Step) (told : List NumberedStep) → place ≡ 0
    → AreWalked old marks (first + place) above (drop place (numbered first steps)) told → AreWalked old marks first above (numbered first steps) told
walk_ended old marks first place above steps told none walked =
    let at : first + place ≡ first = omega (arith, none) in
    subst (λ (below : ℕ). AreWalked old marks below above (numbered first steps) told) at
    (subst (λ (n : ℕ). AreWalked old marks (first + place) above (drop n (numbered first steps)) told) none walked)

-- with no mark nothing is told
pub none_marked : (marks : List Bool) (steps : List NumberedStep) → ((number : ℕ) → is_marked marks number ≡ false) → marked_among marks steps ≡ []
none_marked marks [] none = refl
none_marked marks (step ∷ steps) none = ap (λ b. if b then step ∷ marked_among marks steps else marked_among marks steps) (none step.number) ∙ none_marked marks steps none

pub none_told : (marks : List Bool) (base : ℕ) (shared own : List Step) → length own ≡ 0 → ((number : ℕ) → is_marked marks number ≡ false)
    → marked_among marks (all_steps base shared own) ≡ told_of base shared own
none_told marks base shared own empty none =
    none_marked marks (all_steps base shared own) none ∙ sym (ap (told_of base shared) (nil_from_length own empty))

-- what is told is what the walk tells
told_walked : (steps : List NumberedStep) (last : NumberedStep) → told_among (steps ++ last ∷ []) ≡ with_cited steps (last ∷ [])
told_walked [] last = refl
told_walked (step ∷ []) last = refl
told_walked (step ∷ next ∷ steps) last = ap (with_step step) (told_walked (next ∷ steps) last)

cited_append : (front back told : List NumberedStep) → with_cited (front ++ back) told ≡ with_cited front (with_cited back told)
cited_append [] back told = refl
cited_append (step ∷ front) back told = ap (with_step step) (cited_append front back told)

pub told_of_some : (base : ℕ) (shared front : List Step) (last : Step) → told_of base shared (front ++ last ∷ []) ≡ told_among (all_steps base shared (front ++ last ∷ []))
told_of_some base shared [] last = refl
told_of_some base shared (step ∷ front) last = refl

pub told_marked : (base first number : ℕ) (shared own earlier : List Step) (last : Step) (one two three : List Bool)
    → own ≡ earlier ++ last ∷ [] → first ≡ base + length shared → number ≡ first + length earlier
    → AreCited one number (record { first = first; number = number; step = last } ∷ []) → is_marked one number ≡ true
    → ((told : List NumberedStep) → AreCited one (first + length earlier) told → AreWalked one two first (first + length earlier) (numbered first earlier) told)
    → ((told : List NumberedStep) → AreCited two (base + length shared) told → AreWalked two three base (base + length shared) (numbered base shared) told)
    → marked_among three (all_steps base shared own) ≡ told_of base shared own
told_marked base first number shared own earlier last one two three split begin end cited on own_walk shared_walk =
    ap (λ (list : List Step). marked_among three (all_steps base shared list)) split
    ∙ ap (λ (f : ℕ). marked_among three (numbered base shared ++ numbered f (earlier ++ last ∷ []))) (sym begin)
    ∙ filter-append test (numbered base shared) (numbered first (earlier ++ last ∷ []))
    ∙ ap (λ (list : List NumberedStep). marked_among three (numbered base shared) ++ marked_among three list) numbers
    ∙ ap (λ (list : List NumberedStep). marked_among three (numbered base shared) ++ list) (filter-append test (numbered first earlier) (own_last ∷ []) ∙ own_told)
    ∙ shared_walked.marked
    ∙ sym (cited_append (numbered base shared) (numbered first earlier) (own_last ∷ []))
    ∙ sym (told_walked (numbered base shared ++ numbered first earlier) own_last)
    ∙ ap told_among (append_assoc (numbered base shared) (numbered first earlier) (own_last ∷ []))
    ∙ ap (λ (list : List NumberedStep). told_among (numbered base shared ++ list)) (sym numbers)
    ∙ ap (λ (f : ℕ). told_among (numbered base shared ++ numbered f (earlier ++ last ∷ []))) begin
    ∙ sym (told_of_some base shared earlier last)
    ∙ ap (told_of base shared) (sym split)
  where
    test : NumberedStep → Bool
    test step = is_marked three step.number

    own_last : NumberedStep
    own_last = record { first = first; number = number; step = last }

    numbers : numbered first (earlier ++ last ∷ []) ≡ numbered first earlier ++ own_last ∷ []
    numbers = numbered_append first first number earlier last end

    own_walked : AreWalked one two first (first + length earlier) (numbered first earlier) (own_last ∷ [])
    own_walked = own_walk (own_last ∷ []) (subst (λ (n : ℕ). AreCited one n (own_last ∷ [])) end cited)

    shared_walked : AreWalked two three base (base + length shared) (numbered base shared) (with_cited (numbered first earlier) (own_last ∷ []))
    shared_walked = shared_walk (with_cited (numbered first earlier) (own_last ∷ []))
        (subst (λ (n : ℕ). AreCited two n (with_cited (numbered first earlier) (own_last ∷ []))) begin own_walked.cited)

    last_on : is_marked three number ≡ true
    last_on = shared_walked.later number (omega (arith, begin, end)) ∙ own_walked.later number (omega (arith, end)) ∙ on

    same : marked_among three (numbered first earlier) ≡ marked_among two (numbered first earlier)
    same = filter_same (λ (s : NumberedStep). is_marked three s.number) (λ (s : NumberedStep). is_marked two s.number) (numbered first earlier)
        (λ x i. let from = not_before first first earlier x i in shared_walked.later x.number (omega (arith, begin, from)))

    own_told : marked_among three (numbered first earlier) ++ marked_among three (own_last ∷ []) ≡ with_cited (numbered first earlier) (own_last ∷ [])
    own_told =
        ap (λ (list : List NumberedStep). list ++ marked_among three (own_last ∷ [])) same
        ∙ ap (λ b. marked_among two (numbered first earlier) ++ (if b then own_last ∷ [] else [])) last_on
        ∙ own_walked.marked
