-- The table of ends, made in one walk from the last event to the first, has the end of each region.
use Rattle.std.proofs.Common.{◌≡◌, refl, ap, ◌∙◌, sym, ℕ, zero, suc, ◌+◌, ◌<◌, Bool, true, false, cond, List, [], ◌∷◌, ◌++◌, length, drop, map, get_or, reverse, arith}
use Rattle.std.specs.Prelude.{Option, Some, None, position, count_by, ◌==◌, ◌&&◌, nat_lt, not, slice_get, unwrap_or}
use Rattle.std.specs.Option.{option_flatten, option_map}
use Rattle.std.specs.List.{position_or_len}
use Rattle.std.proofs.lemmas.Bool.Decides.{nat_tests}
use Rattle.std.proofs.lemmas.List.{reverse-append}
use Rattle.std.proofs.lemmas.List.Sums.{sum_by-cons}
use Rattle.std.proofs.Math.Seq.{drop-cons}
use Rattle.gp_trace.specs.declared.event.Event.{Event}
use Rattle.gp_trace.specs.declared.event.Event.TheVariants.{Begin}
use Rattle.gp_window.specs.Events.{segment_in}
use Rattle.gp_instance.specs.Region.{end_at, end_behind, end_of, ends_from, ends_in, ends_of, fronts, is_begin, is_end, is_level, waiting_at}

-- the ends that wait for their begins before these events, the first of which has this index, the nearest first
abbrev pub waiting_from : ℕ → List Event → List ℕ
waiting_from index [] = []
waiting_from index (event ∷ events) = waiting_at event index (waiting_from (index + 1) events)

-- so many more regions end than begin
abbrev pub is_over : ℕ → List Event → Bool
is_over n events = count_by is_begin events + n == count_by is_end events

-- the first place in a list at which a test passes
pub position_cons : {A : Type 0} (p : A → Bool) (x : A) (xs : List A) → position p (x ∷ xs) ≡ cond (p x) (Some 0) (option_map suc (position p xs))
position_cons p x xs = by_cases (p x)
  where
    later : (n len : ℕ) → cond (nat_lt (1 + n) (suc len)) (Some (1 + n)) None ≡ option_map suc (cond (nat_lt n len) (Some n) None)
    later n len = by_less (nat_lt (1 + n) (suc len)) (nat_lt n len) (grind (arith, nat_tests))
      where
        by_less : (a b : Bool) → a ≡ b → cond a (Some (1 + n)) None ≡ option_map suc (cond b (Some n) None)
        by_less true true same = ap Some (let one : 1 + n ≡ suc n = omega arith in one)
        by_less true false same = absurd (cc)
        by_less false true same = absurd (cc)
        by_less false false same = refl

    by_cases : (b : Bool) → cond (nat_lt (cond (not b) (1 + position_or_len p xs) 0) (suc (length xs))) (Some (cond (not b) (1 + position_or_len p xs) 0)) None ≡ cond b (Some 0) (option_map suc (position p xs))
    by_cases true = ap (λ b. cond b (Some 0) None) (let less : nat_lt 0 (suc (length xs)) ≡ true = grind (arith, nat_tests) in less)
    by_cases false = later (position_or_len p xs) (length xs)

-- two tests that agree pass first at the same place
position_agree : {A B : Type 0} (p : B → Bool) (q : A → Bool) (f : A → B) → ((x : A) → p (f x) ≡ q x) → (xs : List A) → position p (map f xs) ≡ position q xs
position_agree p q f same [] = refl
position_agree p q f same (x ∷ xs) =
    position_cons p (f x) (map f xs)
    ∙ ap (λ b. cond b (Some 0) (option_map suc (position p (map f xs)))) (same x)
    ∙ ap (λ rest. cond (q x) (Some 0) (option_map suc rest)) (position_agree p q f same xs)
    ∙ sym (position_cons q x xs)

-- the first front that passes, behind one event more
pub over_at : (p q : List Event → Bool) (event : Event) (events : List Event) → ((front : List Event) → p (event ∷ front) ≡ q front) → p (event ∷ []) ≡ false
    → position p (fronts (event ∷ events)) ≡ option_map suc (position q (fronts events))
over_at p q event events same not_here =
    position_cons p (event ∷ []) (map (λ front. event ∷ front) (fronts events))
    ∙ ap (λ b. cond b (Some 0) (option_map suc (position p (map (λ front. event ∷ front) (fronts events))))) not_here
    ∙ ap (option_map suc) (position_agree p q (λ front. event ∷ front) same (fronts events))

-- one place further
one_further : (i : ℕ) (found : Option ℕ) → option_map (λ p. (i + 1) + p) found ≡ option_map (λ p. i + p) (option_map suc found)
one_further i None = refl
one_further i (Some p) = ap Some (omega arith)

-- equal tests of sums
pub same_sums : (a b c d : ℕ) → (a ≡ b → c ≡ d) → (c ≡ d → a ≡ b) → (a == b) ≡ (c == d)
same_sums a b c d there back = grind (arith, nat_tests)

-- no first element
skip_one : {A : Type 0} (xs : List A) (k : ℕ) → slice_get (drop 1 xs) k ≡ slice_get xs (suc k)
skip_one [] k = refl
skip_one (x ∷ xs) k = refl

-- no event both begins and ends a region
one_kind : (event : Event) → (is_begin event && is_end event) ≡ false
one_kind (Begin name) = refl
one_kind other = refl

-- the tests at one event more
pub over_step : (b e : Bool) (n m : ℕ) (event : Event) (front : List Event) → is_begin event ≡ b → is_end event ≡ e → cond b 1 0 + n ≡ cond e 1 0 + m
    → is_over n (event ∷ front) ≡ is_over m front
over_step b e n m event front is is' shift =
    let begun = count_by is_begin front in
    let ended = count_by is_end front in
    ap (λ x. x + n == count_by is_end (event ∷ front)) (sum_by-cons (λ one. cond (is_begin one) 1 0) event front)
    ∙ ap (λ y. (cond (is_begin event) 1 0 + begun) + n == y) (sum_by-cons (λ one. cond (is_end one) 1 0) event front)
    ∙ ap (λ v. (cond v 1 0 + begun) + n == cond (is_end event) 1 0 + ended) is
    ∙ ap (λ v. (cond b 1 0 + begun) + n == cond v 1 0 + ended) is'
    ∙ same_sums ((cond b 1 0 + begun) + n) (cond e 1 0 + ended) (begun + m) ended (λ h. omega (arith, h, shift)) (λ h. omega (arith, h, shift))

-- the ends that wait are the first places at which so many more regions end than begin
waits : (i : ℕ) (events : List Event) (k : ℕ) → slice_get (waiting_from i events) k ≡ option_map (λ p. i + p) (position (is_over (k + 1)) (fronts events))
waits i [] k = refl
waits i (event ∷ events) k = by_kind (is_begin event) (is_end event) refl refl (one_kind event) k (waits (i + 1) events)
  where
    not_zero : (n : ℕ) → (0 + (n + 1) == 0) ≡ false
    not_zero n = grind (arith, nat_tests)

    by_kind : (b e : Bool) → is_begin event ≡ b → is_end event ≡ e → (is_begin event && is_end event) ≡ false → (k' : ℕ)
        → ((n : ℕ) → slice_get (waiting_from (i + 1) events) n ≡ option_map (λ p. (i + 1) + p) (position (is_over (n + 1)) (fronts events)))
        → slice_get (waiting_at event i (waiting_from (i + 1) events)) k' ≡ option_map (λ p. i + p) (position (is_over (k' + 1)) (fronts (event ∷ events)))
    by_kind true true is is' one k' rest = absurd (let both : true ≡ false = ap (λ v. v && true) (sym is) ∙ ap (λ v. is_begin event && v) (sym is') ∙ one in cc)
    by_kind true false is is' one k' rest =
        ap (λ v. slice_get (cond v (drop 1 (waiting_from (i + 1) events)) (cond (is_end event) (i ∷ waiting_from (i + 1) events) (waiting_from (i + 1) events))) k') is
        ∙ skip_one (waiting_from (i + 1) events) k' ∙ rest (suc k')
        ∙ one_further i (position (is_over (suc k' + 1)) (fronts events))
        ∙ ap (option_map (λ p. i + p)) (sym (over_at (is_over (k' + 1)) (is_over (suc k' + 1)) event events
        (λ front. over_step true false (k' + 1) (suc k' + 1) event front is is' (omega arith))
        (over_step true false (k' + 1) (suc k' + 1) event [] is is' (omega arith) ∙ not_zero (suc k'))))
    by_kind false true is is' one zero rest =
        ap (λ v. slice_get (cond v (drop 1 (waiting_from (i + 1) events)) (cond (is_end event) (i ∷ waiting_from (i + 1) events) (waiting_from (i + 1) events))) 0) is
        ∙ ap (λ v. slice_get (cond v (i ∷ waiting_from (i + 1) events) (waiting_from (i + 1) events)) 0) is'
        ∙ ap Some (let here : i ≡ i + 0 = omega arith in here)
        ∙ ap (option_map (λ p. i + p)) (sym (position_cons (is_over (0 + 1)) (event ∷ []) (map (λ front. event ∷ front) (fronts events))
        ∙ ap (λ v. cond v (Some 0) (option_map suc (position (is_over (0 + 1)) (map (λ front. event ∷ front) (fronts events))))) (over_step false true (0 + 1) 0 event [] is is' (omega arith))))
    by_kind false true is is' one (suc k') rest =
        ap (λ v. slice_get (cond v (drop 1 (waiting_from (i + 1) events)) (cond (is_end event) (i ∷ waiting_from (i + 1) events) (waiting_from (i + 1) events))) (suc k')) is
        ∙ ap (λ v. slice_get (cond v (i ∷ waiting_from (i + 1) events) (waiting_from (i + 1) events)) (suc k')) is'
        ∙ rest k'
        ∙ one_further i (position (is_over (k' + 1)) (fronts events))
        ∙ ap (option_map (λ p. i + p)) (sym (over_at (is_over (suc k' + 1)) (is_over (k' + 1)) event events
        (λ front. over_step false true (suc k' + 1) (k' + 1) event front is is' (omega arith))
        (over_step false true (suc k' + 1) (k' + 1) event [] is is' (omega arith) ∙ not_zero k')))
    by_kind false false is is' one k' rest =
        ap (λ v. slice_get (cond v (drop 1 (waiting_from (i + 1) events)) (cond (is_end event) (i ∷ waiting_from (i + 1) events) (waiting_from (i + 1) events))) k') is
        ∙ ap (λ v. slice_get (cond v (i ∷ waiting_from (i + 1) events) (waiting_from (i + 1) events)) k') is'
        ∙ rest k'
        ∙ one_further i (position (is_over (k' + 1)) (fronts events))
        ∙ ap (option_map (λ p. i + p)) (sym (over_at (is_over (k' + 1)) (is_over (k' + 1)) event events
        (λ front. over_step false false (k' + 1) (k' + 1) event front is is' refl)
        (over_step false false (k' + 1) (k' + 1) event [] is is' refl ∙ not_zero k')))

-- the end that an event takes is that of its region
end_taken : (i : ℕ) (event : Event) (events : List Event) → end_at event (waiting_from (i + 1) events) ≡ option_map (λ p. i + p) (end_behind (event ∷ events))
end_taken i event events = by_kind (is_begin event) (is_end event) refl refl (one_kind event)
  where
    by_kind : (b e : Bool) → is_begin event ≡ b → is_end event ≡ e → (is_begin event && is_end event) ≡ false
        → cond (is_begin event) (slice_get (waiting_from (i + 1) events) 0) None ≡ option_map (λ p. i + p) (cond (is_begin event) (position is_level (fronts (event ∷ events))) None)
    by_kind true true is is' one = absurd (let both : true ≡ false = ap (λ v. v && true) (sym is) ∙ ap (λ v. is_begin event && v) (sym is') ∙ one in cc)
    by_kind true false is is' one =
        let level : (front : List Event) → is_level (event ∷ front) ≡ is_over (0 + 1) front = λ front.
        same_sums (count_by is_begin (event ∷ front)) (count_by is_end (event ∷ front)) (count_by is_begin (event ∷ front) + 0) (count_by is_end (event ∷ front)) (λ h. omega (arith, h)) (λ h. omega (arith, h))
        ∙ over_step true false 0 (0 + 1) event front is is' (omega arith) in
        ap (λ v. cond v (slice_get (waiting_from (i + 1) events) 0) None) is
        ∙ waits (i + 1) events 0 ∙ one_further i (position (is_over (0 + 1)) (fronts events))
        ∙ ap (option_map (λ p. i + p)) (sym (over_at is_level (is_over (0 + 1)) event events level (level []))
        ∙ ap (λ v. cond v (position is_level (fronts (event ∷ events))) None) (sym is))
    by_kind false e is is' one =
        ap (λ v. cond v (slice_get (waiting_from (i + 1) events) 0) None) is
        ∙ ap (λ v. option_map (λ p. i + p) (cond v (position is_level (fronts (event ∷ events))) None)) (sym is)

-- the same number added
moved : (a b : ℕ) (found : Option ℕ) → a ≡ b → option_map (λ p. a + p) found ≡ option_map (λ p. b + p) found
moved a b found same = ap (λ n. option_map (λ p. n + p) found) same

-- the table at each place
ends_at : (i : ℕ) (events : List Event) (k : ℕ) → option_flatten (slice_get (ends_from i events) k) ≡ option_map (λ p. (i + k) + p) (end_behind (drop k events))
ends_at i [] zero = refl
ends_at i [] (suc k) = refl
ends_at i (event ∷ events) zero = moved i (i + 0) (end_behind (event ∷ events)) (omega arith)
ends_at i (event ∷ events) (suc k) = ends_at (i + 1) events k ∙ moved ((i + 1) + k) (i + suc k) (end_behind (drop k events)) (omega arith)

-- the ends of a segment of a window
pub end_found : (segments : List (List Event)) (place index : ℕ)
    → option_flatten (slice_get (unwrap_or (slice_get (map ends_of segments) place) []) index) ≡ end_of (unwrap_or (slice_get segments place) []) index
end_found [] place zero = refl
end_found [] place (suc index) = refl
end_found (segment ∷ segments) zero index = ends_at 0 segment index ∙ moved (0 + index) index (end_behind (drop index segment)) (omega arith)
end_found (segment ∷ segments) (suc place) index = end_found segments place index

-- the same by the number of the thread
pub ends_found : (segments : List (List Event)) (thread index : ℕ) → option_flatten (slice_get (ends_in segments thread) index) ≡ end_of (segment_in segments thread) index
ends_found segments zero zero = refl
ends_found segments zero (suc index) = refl
ends_found segments (suc place) index = end_found segments place index

-- one event further to the front
pub table_step : (segment : List Event) (index next : ℕ) (event : Event) (waiting more : List ℕ) (ends : List (Option ℕ)) (end : Option ℕ)
    → next ≡ index + 1 → index < length segment → event ≡ get_or segment index event
    → waiting ≡ waiting_from next (drop next segment) → reverse ends ≡ ends_from next (drop next segment)
    → end ≡ end_at event waiting → more ≡ waiting_at event index waiting
    → (more ≡ waiting_from index (drop index segment)) × (reverse (ends ++ end ∷ []) ≡ ends_from index (drop index segment))
table_step segment index next event waiting more ends end e below is wait walk taken waits' =
    let parts : drop index segment ≡ event ∷ drop next segment =
    drop-cons segment index event below ∙ ap (λ first. first ∷ drop (suc index) segment) (sym is) ∙ ap (λ n. event ∷ drop n segment) (let same : suc index ≡ next = omega arith in same) in
    let waiting_is : waiting ≡ waiting_from (index + 1) (drop next segment) = wait ∙ ap (λ n. waiting_from n (drop next segment)) e in (
      waits' ∙ ap (waiting_at event index) waiting_is ∙ ap (waiting_from index) (sym parts),
      reverse-append ends (end ∷ []) ∙ ap (λ first. first ∷ reverse ends) (taken ∙ ap (end_at event) waiting_is ∙ end_taken index event (drop next segment))
          ∙ ap (λ rest. option_map (λ p. index + p) (end_behind (event ∷ drop next segment)) ∷ rest) (walk ∙ ap (λ n. ends_from n (drop next segment)) e)
          ∙ ap (ends_from index) (sym parts),
    )
