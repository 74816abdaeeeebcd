-- The end that counting finds for a begin is the one before which the region of the begin is the innermost.
use Rattle.std.proofs.Common.{◌≡◌, ◌∙◌, refl, ap, sym, subst, ℕ, zero, suc, ◌+◌, ◌-◌, ◌≤◌, Bool, true, false, cond, List, [], ◌∷◌, ◌++◌, length, length-append, map, take, drop, append_assoc, append-nil, arith}
use Rattle.std.specs.Prelude.{count_by, Some, None, position, slice_get, if◌then◌else◌}
use Rattle.std.specs.Option.{option_map}
use Rattle.std.proofs.lemmas.Bool.Decides.{nat_tests}
use Rattle.std.proofs.lemmas.List.{length-take}
use Rattle.std.proofs.lemmas.Option.{same_Some}
use Rattle.std.proofs.lemmas.Slice.Eq.{bytes_eq-Decides}
use Rattle.gp_base.specs.ListLaws.{mapped, slice_get_back}
use Rattle.gp_trace.specs.declared.event.Event.{Event}
use Rattle.gp_trace.specs.declared.event.Event.TheVariants.{Begin, End}
use Rattle.gp_trace.specs.declared.fault.TraceFault.TheVariants.{RegionUnmatched}
use Rattle.gp_trace.specs.declared.rules.Standing.{Standing}
use Rattle.gp_trace.specs.Rules.{after, after_all, AreWellFormed, fault_of, is_innermost, is_named}
use Rattle.gp_instance.specs.Region.{end_behind, end_of, fronts, is_begin, is_end, is_level}
use Rattle.gp_instance.specs.RegionsTold.{begun_before, ClosesRegion}
use Rattle.gp_instance.proofs.Ends.{is_over, over_at, over_step, position_cons, same_sums}

-- the event of this place ends a region, up to it the thread stays in these regions, and before it it is in these alone
pub record EndsHere (outer : List (List ℕ)) (s : Standing) (events : List Event) (place : ℕ) : Type 0 where
  pub ends : (region : List ℕ) × (slice_get events place ≡ Some (End region))
  pub stays : (k : ℕ) → k ≤ place → (inner : List (List ℕ)) × ((after_all s (take k events)).begun ≡ outer ++ inner)
  pub innermost : (after_all s (take place events)).begun ≡ outer

-- the regions that are left of some inner ones and the outer ones after the innermost is ended
popped : (outer inner : List (List ℕ)) → 1 ≤ length inner → take (length (outer ++ inner) - 1) (outer ++ inner) ≡ outer ++ take (length inner - 1) inner
popped [] inner some = refl
popped (x ∷ outer) inner some =
    let less : length (x ∷ (outer ++ inner)) - 1 ≡ suc (length (outer ++ inner) - 1) = omega (arith, length-append outer inner) in
    ap (λ n. take n (x ∷ (outer ++ inner))) less ∙ ap (λ rest. x ∷ rest) (popped outer inner some)

-- how many are left
popped_length : (inner : List (List ℕ)) → 1 ≤ length inner → length (take (length inner - 1) inner) + 1 ≡ length inner
popped_length [] some = absurd (omega arith)
popped_length (x ∷ []) some = refl
popped_length (x ∷ y ∷ inner) some =
    let less : length (x ∷ y ∷ inner) - 1 ≡ suc (length (y ∷ inner) - 1) = omega arith in
    let rest : length (take (length (y ∷ inner) - 1) (y ∷ inner)) + 1 ≡ length (y ∷ inner) = popped_length (y ∷ inner) (omega arith) in
    ap (λ n. length (take n (x ∷ y ∷ inner)) + 1) less ∙ (let more : suc (length (take (length (y ∷ inner) - 1) (y ∷ inner))) + 1 ≡ suc (length (y ∷ inner)) = omega (arith, rest) in more)

-- one event before the others
later_stays : (outer inner : List (List ℕ)) (s : Standing) (event : Event) (events : List Event) (place : ℕ) → s.begun ≡ outer ++ inner
    → EndsHere outer (after s event) events place → EndsHere outer s (event ∷ events) (suc place)
later_stays outer inner s event events place is found = record {
  ends = found.ends;
  stays = λ k within. at k within;
  innermost = found.innermost;
}
  where
    at : (k : ℕ) → k ≤ suc place → (more : List (List ℕ)) × ((after_all s (take k (event ∷ events))).begun ≡ outer ++ more)
    at zero within = (inner, is)
    at (suc k) within = found.stays k (omega (arith, within))

earlier_stays : (outer : List (List ℕ)) (s : Standing) (event : Event) (events : List Event) (place : ℕ)
    → EndsHere outer s (event ∷ events) (suc place) → EndsHere outer (after s event) events place
earlier_stays outer s event events place found = record {
  ends = found.ends;
  stays = λ k within. found.stays (suc k) (omega (arith, within));
  innermost = found.innermost;
}

-- nothing inside the outer ones
none_inside : (outer inner : List (List ℕ)) → outer ++ inner ≡ outer → length inner ≡ 0
none_inside outer inner is = omega (arith, length-append outer inner, ap length is)

-- the test is not passed by one event that ends no more than the outermost inner region
not_yet : (n : ℕ) → is_over (suc n) [] ≡ false
not_yet n = grind (arith, nat_tests)

-- counting and standing, one event more of each kind
counted : (outer inner : List (List ℕ)) (s : Standing) (thread : ℕ) (events : List Event) (place : ℕ) → 1 ≤ length outer → s.begun ≡ outer ++ inner
    → position (is_over (length inner + 1)) (fronts events) ≡ Some place → EndsHere outer s events place
counted outer inner s thread [] place some is found = absurd (let none : None ≡ Some place = found in cc)
counted outer inner s thread (Begin region ∷ events) place some is found =
    let shift : (front : List Event) → is_over (length inner + 1) (Begin region ∷ front) ≡ is_over (length inner + 1 + 1) front = λ front.
    over_step true false (length inner + 1) (length inner + 1 + 1) (Begin region) front refl refl (omega arith) in
    let nothing : is_over (length inner + 1) (Begin region ∷ []) ≡ false = shift [] ∙ (let zero' : is_over (length inner + 1 + 1) [] ≡ false = grind (arith, nat_tests) in zero') in
    let behind = mapped suc (position (is_over (length inner + 1 + 1)) (fronts events)) place (sym (over_at (is_over (length inner + 1)) (is_over (length inner + 1 + 1)) (Begin region) events shift nothing) ∙ found) in
    let longer : length (inner ++ region ∷ []) ≡ length inner + 1 = length-append inner (region ∷ []) in
    let begun : (after s (Begin region)).begun ≡ outer ++ (inner ++ region ∷ []) = ap (λ regions. regions ++ region ∷ []) is ∙ append_assoc outer inner (region ∷ []) in
    subst (EndsHere outer s (Begin region ∷ events)) behind.2
    (later_stays outer inner s (Begin region) events behind.0 is
    (counted outer (inner ++ region ∷ []) (after s (Begin region)) thread events behind.0 some begun (ap (λ n. position (is_over (n + 1)) (fronts events)) longer ∙ behind.1)))
counted outer [] s thread (End region ∷ events) place some is found =
    let at_once : is_over 1 (End region ∷ []) ≡ true = over_step false true 1 0 (End region) [] refl refl refl in
    let here' : position (is_over 1) (fronts (End region ∷ events)) ≡ Some 0 =
    position_cons (is_over 1) (End region ∷ []) (map (λ front. End region ∷ front) (fronts events))
    ∙ ap (λ b. cond b (Some 0) (option_map suc (position (is_over 1) (map (λ front. End region ∷ front) (fronts events))))) at_once in
    subst (EndsHere outer s (End region ∷ events)) (same_Some 0 place (sym here' ∙ found)) (record {
      ends = (region, refl);
      stays = λ k within. ([], subst (λ n. (after_all s (take n (End region ∷ events))).begun ≡ outer ++ []) (let none : 0 ≡ k = omega (arith, within) in none) is);
      innermost = is ∙ append-nil outer;
    })
counted outer (first ∷ inner) s thread (End region ∷ events) place some is found =
    let all : List (List ℕ) = first ∷ inner in
    let shift : (front : List Event) → is_over (length all + 1) (End region ∷ front) ≡ is_over (length all) front = λ front.
    over_step false true (length all + 1) (length all) (End region) front refl refl (omega arith) in
    let nothing : is_over (length all + 1) (End region ∷ []) ≡ false = shift [] ∙ not_yet (length inner) in
    let behind = mapped suc (position (is_over (length all)) (fronts events)) place (sym (over_at (is_over (length all + 1)) (is_over (length all)) (End region) events shift nothing) ∙ found) in
    let fewer : length (take (length all - 1) all) + 1 ≡ length all = popped_length all (omega arith) in
    let begun : (after s (End region)).begun ≡ outer ++ take (length all - 1) all = ap (λ (regions : List (List ℕ)). take (length regions - 1) regions) is ∙ popped outer all (omega arith) in
    subst (EndsHere outer s (End region ∷ events)) behind.2
    (later_stays outer all s (End region) events behind.0 is
    (counted outer (take (length all - 1) all) (after s (End region)) thread events behind.0 some begun (ap (λ n. position (is_over n) (fronts events)) fewer ∙ behind.1)))
counted outer inner s thread (other ∷ events) place some is found =
    let shift : (front : List Event) → is_over (length inner + 1) (other ∷ front) ≡ is_over (length inner + 1) front = λ front.
    over_step false false (length inner + 1) (length inner + 1) other front refl refl refl in
    let nothing : is_over (length inner + 1) (other ∷ []) ≡ false = shift [] ∙ (let zero' : is_over (length inner + 1) [] ≡ false = grind (arith, nat_tests) in zero') in
    let behind = mapped suc (position (is_over (length inner + 1)) (fronts events)) place (sym (over_at (is_over (length inner + 1)) (is_over (length inner + 1)) other events shift nothing) ∙ found) in
    subst (EndsHere outer s (other ∷ events)) behind.2
    (later_stays outer inner s other events behind.0 is (counted outer inner (after s other) thread events behind.0 some is behind.1))

-- the end of the last region of some, where all that were begun inside have ended
at_start : (outer inner : List (List ℕ)) (s : Standing) (events : List Event) → s.begun ≡ outer ++ inner → EndsHere outer s events 0 → inner ≡ []
at_start outer inner s events is found = empty inner (none_inside outer inner (sym is ∙ found.innermost))
  where
    empty : (xs : List (List ℕ)) → length xs ≡ 0 → xs ≡ []
    empty [] none = refl
    empty (x ∷ xs) none = absurd (omega arith)

standing_first : (outer : List (List ℕ)) (s : Standing) (events : List Event) (inner : List (List ℕ)) (place : ℕ) → 1 ≤ length outer → s.begun ≡ outer ++ inner
    → EndsHere outer s events place → position (is_over (length inner + 1)) (fronts events) ≡ Some place
standing_first outer s [] inner place some is found = absurd (let none = found.ends.1 in cc)
standing_first outer s (Begin region ∷ events) inner zero some is found = absurd (let none = found.ends.1 in cc)
standing_first outer s (Begin region ∷ events) inner (suc place) some is found =
    let shift : (front : List Event) → is_over (length inner + 1) (Begin region ∷ front) ≡ is_over (length inner + 1 + 1) front = λ front.
    over_step true false (length inner + 1) (length inner + 1 + 1) (Begin region) front refl refl (omega arith) in
    let nothing : is_over (length inner + 1) (Begin region ∷ []) ≡ false = shift [] ∙ (let zero' : is_over (length inner + 1 + 1) [] ≡ false = grind (arith, nat_tests) in zero') in
    let longer : length (inner ++ region ∷ []) ≡ length inner + 1 = length-append inner (region ∷ []) in
    let begun : (after s (Begin region)).begun ≡ outer ++ (inner ++ region ∷ []) = ap (λ regions. regions ++ region ∷ []) is ∙ append_assoc outer inner (region ∷ []) in
    over_at (is_over (length inner + 1)) (is_over (length inner + 1 + 1)) (Begin region) events shift nothing
    ∙ ap (option_map suc) (ap (λ n. position (is_over (n + 1)) (fronts events)) (sym longer)
    ∙ standing_first outer (after s (Begin region)) events (inner ++ region ∷ []) place some begun (earlier_stays outer s (Begin region) events place found))
standing_first outer s (End region ∷ events) [] zero some is found =
    position_cons (is_over 1) (End region ∷ []) (map (λ front. End region ∷ front) (fronts events))
    ∙ ap (λ b. cond b (Some 0) (option_map suc (position (is_over 1) (map (λ front. End region ∷ front) (fronts events))))) (over_step false true 1 0 (End region) [] refl refl refl)
standing_first outer s (End region ∷ events) [] (suc place) some is found =
    let begun : (after s (End region)).begun ≡ take (length (outer ++ []) - 1) (outer ++ []) = ap (λ (regions : List (List ℕ)). take (length regions - 1) regions) is in
    let stays = found.stays 1 (omega arith) in
    let long : length (take (length (outer ++ []) - 1) (outer ++ [])) ≡ length (outer ++ stays.0) = ap length (sym begun ∙ stays.1) in
    absurd (omega (arith, some, long, length-take (length (outer ++ []) - 1) (outer ++ []), length-append outer [], length-append outer stays.0))
standing_first outer s (End region ∷ events) (first ∷ inner) zero some is found = absurd (let none : first ∷ inner ≡ [] = at_start outer (first ∷ inner) s (End region ∷ events) is found in cc)
standing_first outer s (End region ∷ events) (first ∷ inner) (suc place) some is found =
    let all : List (List ℕ) = first ∷ inner in
    let shift : (front : List Event) → is_over (length all + 1) (End region ∷ front) ≡ is_over (length all) front = λ front.
    over_step false true (length all + 1) (length all) (End region) front refl refl (omega arith) in
    let nothing : is_over (length all + 1) (End region ∷ []) ≡ false = shift [] ∙ not_yet (length inner) in
    let fewer : length (take (length all - 1) all) + 1 ≡ length all = popped_length all (omega arith) in
    let begun : (after s (End region)).begun ≡ outer ++ take (length all - 1) all = ap (λ (regions : List (List ℕ)). take (length regions - 1) regions) is ∙ popped outer all (omega arith) in
    over_at (is_over (length all + 1)) (is_over (length all)) (End region) events shift nothing
    ∙ ap (option_map suc) (ap (λ n. position (is_over n) (fronts events)) (sym fewer)
    ∙ standing_first outer (after s (End region)) events (take (length all - 1) all) place some begun (earlier_stays outer s (End region) events place found))
standing_first outer s (other ∷ events) inner zero some is found = absurd (let none = found.ends.1 in cc)
standing_first outer s (other ∷ events) inner (suc place) some is found =
    let shift : (front : List Event) → is_over (length inner + 1) (other ∷ front) ≡ is_over (length inner + 1) front = λ front.
    over_step false false (length inner + 1) (length inner + 1) other front refl refl refl in
    let nothing : is_over (length inner + 1) (other ∷ []) ≡ false = shift [] ∙ (let zero' : is_over (length inner + 1) [] ≡ false = grind (arith, nat_tests) in zero') in
    over_at (is_over (length inner + 1)) (is_over (length inner + 1)) other events shift nothing
    ∙ ap (option_map suc) (standing_first outer (after s other) events inner place some is (earlier_stays outer s other events place found))

-- the events from a place on
cut_at : (events : List Event) (place : ℕ) (event : Event) → slice_get events place ≡ Some event → drop place events ≡ event ∷ drop (suc place) events
cut_at [] place event is = absurd (cc)
cut_at (first ∷ events) zero event is = ap (λ one. one ∷ events) (same_Some first event is)
cut_at (first ∷ events) (suc place) event is = cut_at events place event is

got_drop : (events : List Event) (place k : ℕ) → slice_get events (place + k) ≡ slice_get (drop place events) k
got_drop events zero k = ap (slice_get events) (let same : 0 + k ≡ k = omega arith in same)
got_drop [] (suc place) k = none k
  where
    none : (n : ℕ) → slice_get {X = Event} [] (suc place + n) ≡ slice_get {X = Event} [] n
    none zero = refl
    none (suc n) = refl
got_drop (first ∷ events) (suc place) k =
    ap (slice_get (first ∷ events)) (let same : suc place + k ≡ suc (place + k) = omega arith in same) ∙ got_drop events place k

-- where the thread stands some events after an event
standing_at : (s : Standing) (events : List Event) (place m : ℕ) (event : Event) (later : List Event) → drop place events ≡ event ∷ later
    → after_all s (take (place + suc m) events) ≡ after_all (after (after_all s (take place events)) event) (take m later)
standing_at s events zero m event later is =
    ap (λ n. after_all s (take n events)) (let same : 0 + suc m ≡ suc m = omega arith in same) ∙ ap (λ all. after_all s (take (suc m) all)) is
standing_at s [] (suc place) m event later is = absurd (cc)
standing_at s (first ∷ events) (suc place) m event later is =
    ap (λ n. after_all s (take n (first ∷ events))) (let same : suc place + suc m ≡ suc (place + suc m) = omega arith in same)
    ∙ standing_at (after s first) events place m event later is

-- an event of well-formed ones breaks no rule where the thread stands before it
rule_at : (thread : ℕ) (s : Standing) (events : List Event) (place : ℕ) (event : Event) → AreWellFormed thread s events → slice_get events place ≡ Some event
    → fault_of thread (after_all s (take place events)) event ≡ None
rule_at thread s [] place event formed is = absurd (cc)
rule_at thread s (first ∷ events) zero event formed is = subst (λ one. fault_of thread s one ≡ None) (same_Some first event is) formed.0
rule_at thread s (first ∷ events) (suc place) event formed is = rule_at thread (after s first) events place event formed.1 is

-- the region that an end names is the innermost
innermost_named : (thread : ℕ) (s : Standing) (outer : List (List ℕ)) (region own : List ℕ) → s.begun ≡ outer ++ region ∷ [] → fault_of thread s (End own) ≡ None → region ≡ own
innermost_named thread s outer region own is passed =
    (bytes_eq-Decides region own).0 (sym (ap (λ named. is_named named own) last) ∙ sym (ap (λ regions. is_innermost regions own) is) ∙ held (is_innermost s.begun own) passed)
  where
    held : (b : Bool) → (if b then None else Some RegionUnmatched) ≡ None → b ≡ true
    held true e = refl
    held false e = absurd (cc)

    last : slice_get (outer ++ region ∷ []) (length (outer ++ region ∷ []) - 1) ≡ Some region
    last =
        ap (slice_get (outer ++ region ∷ [])) (let place : length (outer ++ region ∷ []) - 1 ≡ length outer + 0 = omega (arith, length-append outer (region ∷ [])) in place)
        ∙ slice_get_back outer (region ∷ []) 0

-- the count at a begin is one of what follows it
level_after : (region : List ℕ) (events : List Event) → position is_level (fronts (Begin region ∷ events)) ≡ option_map suc (position (is_over 1) (fronts events))
level_after region events =
    let level : (front : List Event) → is_level (Begin region ∷ front) ≡ is_over 1 front = λ front.
    same_sums (count_by is_begin (Begin region ∷ front)) (count_by is_end (Begin region ∷ front)) (count_by is_begin (Begin region ∷ front) + 0) (count_by is_end (Begin region ∷ front)) (λ h. omega (arith, h)) (λ h. omega (arith, h))
    ∙ over_step true false 0 1 (Begin region) front refl refl refl in
    over_at is_level (is_over 1) (Begin region) events level (level [])

-- the end that is found is the one that closes the region
pub closes : (thread : ℕ) (s : Standing) (events : List Event) → AreWellFormed thread s events → (begin end : ℕ) → end_of events begin ≡ Some end → ClosesRegion s events begin end
closes thread s events formed begin end is =
    let part = mapped (λ behind. begin + behind) (end_behind (drop begin events)) end is in
    by_rest (drop begin events) refl part.0 part.1 part.2
  where
    by_begin : (region : List ℕ) (later : List Event) → drop begin events ≡ Begin region ∷ later → (q : ℕ) → position (is_over 1) (fronts later) ≡ Some q → begin + suc q ≡ end → ClosesRegion s events begin end
    by_begin region later cut q found place =
        let before : Standing = after_all s (take begin events) in
        let outer : List (List ℕ) = before.begun ++ region ∷ [] in
        let some : 1 ≤ length outer = omega (arith, length-append before.begun (region ∷ [])) in
        let here' = counted outer [] (after before (Begin region)) thread later q some (sym (append-nil outer)) found in
        let at : (m : ℕ) → after_all s (take (begin + suc m) events) ≡ after_all (after before (Begin region)) (take m later) = λ m. standing_at s events begin m (Begin region) later cut in
        let first : begun_before s events (suc begin) ≡ outer = ap (λ n. begun_before s events n) (let one : suc begin ≡ begin + suc 0 = omega arith in one) ∙ ap (λ (t : Standing). t.begun) (at 0) in
        let last : begun_before s events end ≡ outer = ap (λ n. begun_before s events n) (sym place) ∙ ap (λ (t : Standing). t.begun) (at q) ∙ here'.innermost in
        let own : slice_get events end ≡ Some (End here'.ends.0) =
        ap (slice_get events) (sym place) ∙ got_drop events begin (suc q) ∙ ap (λ rest. slice_get rest (suc q)) cut ∙ here'.ends.1 in
        let name : region ≡ here'.ends.0 = innermost_named thread (after_all s (take end events)) before.begun region here'.ends.0 last (rule_at thread s events end (End here'.ends.0) formed own) in
        let begun : slice_get events begin ≡ Some (Begin region) =
        ap (slice_get events) (let same : begin ≡ begin + 0 = omega arith in same) ∙ got_drop events begin 0 ∙ ap (λ rest. slice_get rest 0) cut in
        record {
          later = omega (arith, place);
          named = (region, begun, own ∙ ap (λ r. Some (End r)) (sym name));
          stays = λ index low high.
              let m : ℕ = index - suc begin in
              let number : index ≡ begin + suc m = omega (arith, low) in
              let inside = here'.stays m (omega (arith, low, high, place)) in
              (inside.0, ap (λ n. begun_before s events n) number ∙ ap (λ (t : Standing). t.begun) (at m) ∙ inside.1 ∙ ap (λ regions. regions ++ inside.0) (sym first));
          innermost = last ∙ sym first;
        }

    by_event : (event : Event) (later : List Event) → drop begin events ≡ event ∷ later → (behind : ℕ) → (if is_begin event then position is_level (fronts (event ∷ later)) else None) ≡ Some behind
        → begin + behind ≡ end → ClosesRegion s events begin end
    by_event (Begin region) later cut behind found place =
        let part = mapped suc (position (is_over 1) (fronts later)) behind (sym (level_after region later) ∙ found) in
        by_begin region later cut part.0 part.1 (ap (λ n. begin + n) part.2 ∙ place)
    by_event other later cut behind found place = absurd (let none : None ≡ Some behind = found in cc)

    by_rest : (rest : List Event) → drop begin events ≡ rest → (behind : ℕ) → end_behind rest ≡ Some behind → begin + behind ≡ end → ClosesRegion s events begin end
    by_rest [] cut behind found place = absurd (let none : None ≡ Some behind = found in cc)
    by_rest (event ∷ later) cut behind found place = by_event event later cut behind found place

-- the end that closes the region is found
pub found_end : (s : Standing) (events : List Event) (begin end : ℕ) → ClosesRegion s events begin end → end_of events begin ≡ Some end
found_end s events begin end closed =
    let region : List ℕ = closed.named.0 in
    let later : List Event = drop (suc begin) events in
    let cut : drop begin events ≡ Begin region ∷ later = cut_at events begin (Begin region) closed.named.1 in
    let q : ℕ = end - suc begin in
    let place : end ≡ begin + suc q = omega (arith, closed.later) in
    let before : Standing = after_all s (take begin events) in
    let outer : List (List ℕ) = before.begun ++ region ∷ [] in
    let some : 1 ≤ length outer = omega (arith, length-append before.begun (region ∷ [])) in
    let at : (m : ℕ) → after_all s (take (begin + suc m) events) ≡ after_all (after before (Begin region)) (take m later) = λ m. standing_at s events begin m (Begin region) later cut in
    let first : begun_before s events (suc begin) ≡ outer = ap (λ n. begun_before s events n) (let one : suc begin ≡ begin + suc 0 = omega arith in one) ∙ ap (λ (t : Standing). t.begun) (at 0) in
    let here' : EndsHere outer (after before (Begin region)) later q = record {
      ends = (region, sym (ap (λ rest. slice_get rest (suc q)) cut) ∙ sym (got_drop events begin (suc q)) ∙ sym (ap (slice_get events) place) ∙ closed.named.2);
      stays = λ k within.
          let inside = closed.stays (begin + suc k) (omega arith) (omega (arith, within, place)) in
          (inside.0, sym (ap (λ (t : Standing). t.begun) (at k)) ∙ inside.1 ∙ ap (λ regions. regions ++ inside.0) first);
      innermost = sym (ap (λ (t : Standing). t.begun) (at q)) ∙ sym (ap (λ n. begun_before s events n) place) ∙ closed.innermost ∙ first;
    } in
    let counts = standing_first outer (after before (Begin region)) later [] q some (sym (append-nil outer)) here' in
    ap (λ rest. option_map (λ behind. begin + behind) (end_behind rest)) cut
    ∙ ap (option_map (λ behind. begin + behind)) (level_after region later ∙ ap (option_map suc) counts)
    ∙ ap Some (sym place)
