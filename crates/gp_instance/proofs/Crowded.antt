-- Where some thread variables have fewer threads in all than they are, no threads fit.
use Rattle.std.proofs.Common.{◌≡◌, refl, ap, ◌∙◌, sym, ℕ, ◌+◌, ◌≤◌, Bool, true, false, not, cond, List, [], ◌∷◌, ◌++◌, map, length, arith, eqb-true, eq-eqb}
use Rattle.std.specs.Prelude.{◌&&◌, ◌||◌, ◌==◌, Option, Some, None, Result, Ok, Err, IfOk, nat_lt}
use Rattle.std.specs.List.{list_all, list_any}
use Rattle.std.specs.Str.{bytes_eq}
use Rattle.std.proofs.lemmas.Bool.{and_parts, le-ltb, or_right}
use Rattle.std.proofs.lemmas.Bool.Decides.{nat_tests}
use Rattle.std.proofs.lemmas.List.Folds.{list_any-append}
use Rattle.gp_trace.specs.declared.event.Event.{Event}
use Rattle.gp_window.specs.declared.schedule.EventId.{EventId}
use Rattle.gp_window.specs.Starts.{is_among}
use Rattle.gp_property.specs.declared.atoms.PatternAtom.{PatternAtom}
use Rattle.gp_instance.specs.Pairs.{all_pairs}
use Rattle.gp_instance.specs.Search.{FindsSame, Leaves, search}
use Rattle.gp_instance.specs.Threads.{unless_crowded, few_threads, is_crowded, is_given, set_part, thread_sets, with_thread, with_threads}
use Rattle.gp_instance.proofs.ThreadsFit.{is_apt, may_give, no_threads, threads_fit}

-- two tests fail
both_fail : (a b : Bool) → a ≡ false → b ≡ false → (a || b) ≡ false
both_fail true b one other = absurd (cc)
both_fail false b one other = other

-- one of two tests passes
here_passes : (a b : Bool) → a ≡ true → (a || b) ≡ true
here_passes true b passes = refl
here_passes false b passes = absurd (cc)

-- different threads
abbrev are_other : ℕ → ℕ → Bool
are_other one other = not (one == other)

-- these threads are among those
abbrev all_among : List ℕ → List ℕ → Bool
all_among threads some = list_all (is_among threads) some

-- the threads without the first that is this one
abbrev without : List ℕ → ℕ → List ℕ
without [] thread = []
without (other ∷ threads) thread = cond (other == thread) threads (other ∷ without threads thread)

-- one thread fewer
without_one : (threads : List ℕ) (thread : ℕ) → is_among threads thread ≡ true → length (without threads thread) + 1 ≡ length threads
without_one [] thread has = absurd (cc)
without_one (other ∷ threads) thread has = by_cases (other == thread) has (without_one threads thread)
  where
    by_cases : (b : Bool) → (b || is_among threads thread) ≡ true → (is_among threads thread ≡ true → length (without threads thread) + 1 ≡ length threads)
        → length (cond b threads (other ∷ without threads thread)) + 1 ≡ length (other ∷ threads)
    by_cases true has' rest = omega arith
    by_cases false has' rest = omega (arith, rest has')

-- the same number
same_number : (a b c : ℕ) → (a == b) ≡ true → (a == c) ≡ true → (b == c) ≡ true
same_number a b c one two = grind (arith, nat_tests)

-- another thread is still there
still_there : (threads : List ℕ) (thread other : ℕ) → (thread == other) ≡ false → is_among threads other ≡ true → is_among (without threads thread) other ≡ true
still_there [] thread other differ has = has
still_there (first ∷ threads) thread other differ has =
    by_cases (first == thread) (first == other) refl (same_number first thread other) has (still_there threads thread other differ)
  where
    by_cases : (b e : Bool) → (first == other) ≡ e → (b ≡ true → e ≡ true → (thread == other) ≡ true) → (e || is_among threads other) ≡ true → (is_among threads other ≡ true → is_among (without threads thread) other ≡ true)
        → is_among (cond b threads (first ∷ without threads thread)) other ≡ true
    by_cases true true is same has' rest = absurd (let no = same refl refl in cc)
    by_cases true false is same has' rest = has'
    by_cases false true is same has' rest = here_passes (first == other) (is_among (without threads thread) other) is
    by_cases false false is same has' rest = or_right (first == other) (is_among (without threads thread) other) (rest has')

-- different threads among others are not more
pigeonhole : (some threads : List ℕ) → all_pairs are_other some ≡ true → all_among threads some ≡ true → length some ≤ length threads
pigeonhole [] threads apart among = omega arith
pigeonhole (thread ∷ some) threads apart among =
    let differ = and_parts (list_all (are_other thread) some) (all_pairs are_other some) apart in
    let has = and_parts (is_among threads thread) (all_among threads some) among in
    omega (arith, without_one threads thread has.0, pigeonhole some (without threads thread) differ.1 (all_still some differ.0 has.1))
  where
    false_of : (a : Bool) → not a ≡ true → a ≡ false
    false_of true h = absurd (cc)
    false_of false h = refl

    pass_both : (a b : Bool) → a ≡ true → b ≡ true → (a && b) ≡ true
    pass_both true b one two = two
    pass_both false b one two = one

    all_still : (others : List ℕ) → list_all (are_other thread) others ≡ true → all_among threads others ≡ true → all_among (without threads thread) others ≡ true
    all_still [] differ' among' = refl
    all_still (other ∷ others) differ' among' =
        let d = and_parts (are_other thread other) (list_all (are_other thread) others) differ' in
        let a = and_parts (is_among threads other) (all_among threads others) among' in
        pass_both _ _ (still_there threads thread other (false_of (thread == other) d.0) a.0) (all_still others d.1 a.1)

-- one more thread is there, and those before
with_thread_has : (threads : List ℕ) (more thread : ℕ) → (is_among threads thread || more == thread) ≡ true → is_among (with_thread threads more) thread ≡ true
with_thread_has threads more thread has = by_cases (is_among threads more) refl
  where
    known : (a b : Bool) → (a || b) ≡ true → (b ≡ true → a ≡ true) → a ≡ true
    known true b h leads = refl
    known false b h leads = leads h

    by_cases : (b : Bool) → is_among threads more ≡ b → is_among (cond b threads (threads ++ more ∷ [])) thread ≡ true
    by_cases true is = known (is_among threads thread) (more == thread) has (λ same. ap (is_among threads) (sym (eqb-true more thread same)) ∙ is)
    by_cases false is = list_any-append (λ other. other == thread) threads (more ∷ []) ∙ ap (λ last. is_among threads thread || last) (or_false (more == thread)) ∙ has
      where
        or_false : (a : Bool) → (a || false) ≡ a
        or_false true = refl
        or_false false = refl

-- all of both are there
with_threads_has : (threads more : List ℕ) (thread : ℕ) → (is_among threads thread || is_among more thread) ≡ true → is_among (with_threads threads more) thread ≡ true
with_threads_has threads [] thread has = drop_false (is_among threads thread) has
  where
    drop_false : (a : Bool) → (a || false) ≡ true → a ≡ true
    drop_false true h = refl
    drop_false false h = absurd (cc)
with_threads_has threads (first ∷ more) thread has =
    with_threads_has (with_thread threads first) more thread (regroup (is_among threads thread) (first == thread) (is_among more thread) (is_among (with_thread threads first) thread) has (with_thread_has threads first thread))
  where
    regroup : (a b c d : Bool) → (a || (b || c)) ≡ true → ((a || b) ≡ true → d ≡ true) → (d || c) ≡ true
    regroup true b c d h leads = here_passes d c (leads refl)
    regroup false true c d h leads = here_passes d c (leads refl)
    regroup false false c d h leads = or_right d c h

-- where a set is few, it has the threads of the events and those before
few_has : (limit : ℕ) (threads : List ℕ) (ids : List EventId) (set : List ℕ) (thread : ℕ) → few_threads limit threads ids ≡ Some set
    → (is_among threads thread || list_any (λ id. id.thread == thread) ids) ≡ true → is_among set thread ≡ true
few_has limit threads [] set thread is has = all_there (is_among threads thread) has (ap (λ (few : Option (List ℕ)). has_in few) is)
  where
    has_in : Option (List ℕ) → Bool
    has_in None = false
    has_in (Some some) = is_among some thread

    all_there : (a : Bool) → (a || false) ≡ true → a ≡ is_among set thread → is_among set thread ≡ true
    all_there true h same = sym same
    all_there false h same = absurd (cc)
few_has limit threads (id ∷ ids) set thread is has =
    by_cases (nat_lt (length (with_thread threads id.thread)) limit) is (few_has limit (with_thread threads id.thread) ids set thread)
  where
    regroup : (a b c d : Bool) → (a || (b || c)) ≡ true → ((a || b) ≡ true → d ≡ true) → (d || c) ≡ true
    regroup true b c d h leads = here_passes d c (leads refl)
    regroup false true c d h leads = here_passes d c (leads refl)
    regroup false false c d h leads = or_right d c h

    by_cases : (b : Bool) → cond b (few_threads limit (with_thread threads id.thread) ids) None ≡ Some set
        → (few_threads limit (with_thread threads id.thread) ids ≡ Some set → (is_among (with_thread threads id.thread) thread || list_any (λ other. other.thread == thread) ids) ≡ true → is_among set thread ≡ true)
        → is_among set thread ≡ true
    by_cases true few rest = rest few (regroup (is_among threads thread) (id.thread == thread) (list_any (λ other. other.thread == thread) ids) (is_among (with_thread threads id.thread) thread) has (with_thread_has threads id.thread thread))
    by_cases false none rest = absurd (cc)

-- some event whose thread passes
some_thread : (test : ℕ → Bool) (ids : List EventId) → list_any (λ id. test id.thread) ids ≡ true → (thread : ℕ) × (test thread ≡ true) × (list_any (λ id. id.thread == thread) ids ≡ true)
some_thread test [] some = absurd (cc)
some_thread test (id ∷ ids) some = by_cases (test id.thread) refl some (some_thread test ids)
  where
    by_cases : (b : Bool) → test id.thread ≡ b → (b || list_any (λ other. test other.thread) ids) ≡ true
        → (list_any (λ other. test other.thread) ids ≡ true → (thread : ℕ) × (test thread ≡ true) × (list_any (λ other. other.thread == thread) ids ≡ true))
        → (thread : ℕ) × (test thread ≡ true) × (list_any (λ other. other.thread == thread) (id ∷ ids) ≡ true)
    by_cases true is some' rest = (id.thread, is, here_passes (id.thread == id.thread) (list_any (λ other. other.thread == id.thread) ids) (eq-eqb id.thread id.thread refl))
    by_cases false is some' rest = let found = rest some' in (found.0, found.1, or_right (id.thread == found.0) (list_any (λ other. other.thread == found.0) ids) found.2)

-- the variables that threads were given to
abbrev variables : List (List ℕ × ℕ) → List (List ℕ)
variables given = map (λ pair. pair.0) given

-- whether a thread was given
abbrev is_used : List (List ℕ × ℕ) → ℕ → Bool
is_used given thread = list_any (λ pair. pair.1 == thread) given

-- different numbers
differ_from : (a b c : ℕ) → (a == b) ≡ true → (a == c) ≡ false → (c == b) ≡ false
differ_from a b c same differ = grind (arith, nat_tests)

-- a thread that may be given to a new variable was not given before
new_thread : (given : List (List ℕ × ℕ)) (variable : List ℕ) (thread other : ℕ) → may_give given variable thread ≡ true → is_given (variables given) variable ≡ false → is_used given other ≡ true → (thread == other) ≡ false
new_thread [] variable thread other may new used = absurd (cc)
new_thread (pair ∷ given) variable thread other may new used =
    by_cases (bytes_eq pair.0 variable) (pair.1 == other) refl (and_parts (is_apt pair variable thread) (may_give given variable thread) may).0 new used (new_thread given variable thread other (and_parts (is_apt pair variable thread) (may_give given variable thread) may).1)
  where
    false_of : (a : Bool) → not a ≡ true → a ≡ false
    false_of true h = absurd (cc)
    false_of false h = refl

    by_cases : (same used' : Bool) → (pair.1 == other) ≡ used' → cond same (pair.1 == thread) (not (pair.1 == thread)) ≡ true → (same || is_given (variables given) variable) ≡ false → (used' || is_used given other) ≡ true
        → (is_given (variables given) variable ≡ false → is_used given other ≡ true → (thread == other) ≡ false) → (thread == other) ≡ false
    by_cases true used' is apt new' used'' rest = absurd (cc)
    by_cases false true is apt new' used'' rest = differ_from pair.1 other thread is (false_of (pair.1 == thread) apt)
    by_cases false false is apt new' used'' rest = rest new' used''

-- both tests pass
pass_both : (a b : Bool) → a ≡ true → b ≡ true → (a && b) ≡ true
pass_both true b one two = two
pass_both false b one two = one

-- a test that follows from another
all_follow : (p q : ℕ → Bool) → ((x : ℕ) → p x ≡ true → q x ≡ true) → (xs : List ℕ) → list_all p xs ≡ true → list_all q xs ≡ true
all_follow p q leads [] all = refl
all_follow p q leads (x ∷ xs) all =
    let each = and_parts (p x) (list_all p xs) all in
    pass_both (q x) (list_all q xs) (leads x each.0) (all_follow p q leads xs each.1)

-- a test that fails, turned round
not_false : (a : Bool) → a ≡ false → not a ≡ true
not_false true h = absurd (cc)
not_false false h = refl

-- a last test put first
last_first : (a b : Bool) → (a || (b || false)) ≡ (b || a)
last_first true true = refl
last_first true false = refl
last_first false true = refl
last_first false false = refl

-- where threads fit, no variables are crowded
pub uncrowded : (limit : ℕ) (given : List (List ℕ × ℕ)) (before : List (List ℕ)) → ((variable : List ℕ) → is_given before variable ≡ is_given (variables given) variable) → (atoms : List PatternAtom) (domains : List (List EventId)) (some threads : List ℕ) (count : ℕ)
    → count ≡ length some → threads_fit given atoms domains ≡ true → all_pairs are_other some ≡ true → all_among threads some ≡ true → list_all (is_used given) some ≡ true
    → is_crowded (thread_sets limit before atoms domains) threads count ≡ false
uncrowded limit given before same [] domains some threads count is fit apart among used = le-ltb (length threads) count (omega (arith, is, pigeonhole some threads apart among))
uncrowded limit given before same (atom ∷ atoms) [] some threads count is fit apart among used = le-ltb (length threads) count (omega (arith, is, pigeonhole some threads apart among))
uncrowded limit given before same (atom ∷ atoms) (ids ∷ domains) some threads count is fit apart among used =
    let found = some_thread (λ thread. may_give given atom.thread_var thread && threads_fit ((atom.thread_var, thread) ∷ given) atoms domains) ids fit in
    let thread = found.0 in
    let fits = and_parts (may_give given atom.thread_var thread) (threads_fit ((atom.thread_var, thread) ∷ given) atoms domains) found.1 in
    let more : List (List ℕ × ℕ) = (atom.thread_var, thread) ∷ given in
    let used' : list_all (is_used more) some ≡ true = all_follow (is_used given) (is_used more) (λ other h. or_right (thread == other) (is_used given other) h) some used in
    let known : (variable : List ℕ) → is_given (before ++ atom.thread_var ∷ []) variable ≡ is_given (variables more) variable = λ variable.
    list_any-append (λ other. bytes_eq other variable) before (atom.thread_var ∷ []) ∙ ap (λ was. was || (bytes_eq atom.thread_var variable || false)) (same variable)
    ∙ last_first (is_given (variables given) variable) (bytes_eq atom.thread_var variable) in
    let rest = uncrowded limit more (before ++ atom.thread_var ∷ []) known atoms domains some threads count is fits.1 apart among used' in
    by_sets (is_given before atom.thread_var) (few_threads limit [] ids) refl refl (thread_sets limit (before ++ atom.thread_var ∷ []) atoms domains) rest
    (λ new set few. uncrowded limit more (before ++ atom.thread_var ∷ []) known atoms domains (thread ∷ some) (with_threads threads set) (count + 1) (omega (arith, is)) fits.1
    (pass_both (list_all (are_other thread) some) (all_pairs are_other some) (all_follow (is_used given) (are_other thread) (λ other h. not_false (thread == other) (new_thread given atom.thread_var thread other fits.0 (sym (same atom.thread_var) ∙ new) h)) some used) apart)
    (pass_both (is_among (with_threads threads set) thread) (all_among (with_threads threads set) some)
    (with_threads_has threads set thread (or_right (is_among threads thread) (is_among set thread) (few_has limit [] ids set thread few found.2)))
    (all_follow (is_among threads) (is_among (with_threads threads set)) (λ other h. with_threads_has threads set other (here_passes (is_among threads other) (is_among set other) h)) some among))
    (pass_both (is_used more thread) (list_all (is_used more) some) (here_passes (thread == thread) (is_used given thread) (eq-eqb thread thread refl)) used'))
  where
    by_sets : (known : Bool) (few : Option (List ℕ)) → is_given before atom.thread_var ≡ known → few_threads limit [] ids ≡ few
        → (left : List (List ℕ)) → is_crowded left threads count ≡ false
        → (is_given before atom.thread_var ≡ false → (set : List ℕ) → few_threads limit [] ids ≡ Some set → is_crowded left (with_threads threads set) (count + 1) ≡ false)
        → is_crowded (set_part (cond known None few) ++ left) threads count ≡ false
    by_sets true few is_known is_few left rest more = rest
    by_sets false None is_known is_few left rest more = rest
    by_sets false (Some set) is_known is_few left rest more = both_fail _ _ rest (more is_known set is_few)

-- where thread variables are crowded, nothing is found
pub crowded_none : (segments : List (List Event)) (atoms : List PatternAtom) (domains : List (List EventId))
    → is_crowded (thread_sets (length atoms) [] atoms domains) [] 0 ≡ true → search segments atoms domains ≡ []
crowded_none segments atoms domains crowded =
    by_cases (threads_fit [] atoms domains) refl
  where
    by_cases : (b : Bool) → threads_fit [] atoms domains ≡ b → search segments atoms domains ≡ []
    by_cases true fit = absurd (let no = uncrowded (length atoms) [] [] (λ variable. refl) atoms domains [] [] 0 refl fit refl refl refl in cc)
    by_cases false fails = no_threads segments atoms domains fails

-- what is left where the thread variables are not crowded
leaves_uncrowded : (segments : List (List Event)) (atoms : List PatternAtom) (due left : List (List EventId))
    → FindsSame segments atoms due left → Leaves segments atoms due (unless_crowded atoms left)
leaves_uncrowded segments atoms due left same =
    let sets = thread_sets (length atoms) [] atoms left in
    let by_cases : (b : Bool) → is_crowded sets [] 0 ≡ b → Leaves segments atoms due (cond b None (Some left)) = λ b. elim b as (λ v. is_crowded sets [] 0 ≡ v → Leaves segments atoms due (cond v None (Some left))) [
      | true ↦ λ crowded. sym same.0 ∙ crowded_none segments atoms left crowded
      | false ↦ λ fits. same
    ] in
    by_cases (is_crowded sets [] 0) refl

-- what is left where something is, and the thread variables are not crowded
pub leaves_some : {E : Type 0} (segments : List (List Event)) (atoms : List PatternAtom) (due left : List (List EventId)) (kept : Result (Option (List (List EventId))) E)
    → Leaves segments atoms due (Some left) → IfOk kept (λ domains. domains ≡ unless_crowded atoms left) → IfOk kept (Leaves segments atoms due)
leaves_some segments atoms due left (Ok kept) some fit = rw fit (leaves_uncrowded segments atoms due left some)
leaves_some segments atoms due left (Err fault) some fit = fit
