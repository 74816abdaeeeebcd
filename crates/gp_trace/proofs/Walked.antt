-- The lines that were read are those of the walk that they lead to.
use Rattle.std.proofs.Common.{◌≡◌, refl, sym, ap, ◌∙◌, subst, ℕ, ◌+◌, ◌<◌, ◌≤◌, Bool, true, false, ◌==◌, if◌then◌else◌, List, [], ◌∷◌, ◌++◌, length, map, Option, Some, None, Result, Ok, Err, is_some, arith, append_assoc, length-append, eq-eqb, codes}
use Rattle.std.proofs.lemmas.Bool.Decides.{nat_tests}
use Rattle.std.proofs.lemmas.List.{map-append}
use Rattle.gp_text.specs.Numbers.{OneSpelling}
use Rattle.gp_base.specs.Results.{and_then}
use Rattle.gp_text.specs.declared.line.Line.{Line}
use Rattle.gp_trace.specs.declared.event.Event.{Event}
use Rattle.gp_trace.specs.declared.fault.TraceFault.{TraceFault}
use Rattle.gp_trace.specs.declared.line.Entry.{Entry}
use Rattle.gp_trace.specs.declared.line.Entry.TheVariants.{Did, Mark, Exit}
use Rattle.gp_trace.specs.declared.walk.Walk.{Walk}
use Rattle.gp_trace.specs.Event.{entry_of}
use Rattle.gp_trace.specs.Printed.{ends_in, event_lines, event_words, exit_lines, later_lines, segment_lines}
use Rattle.gp_trace.specs.Rules.{check}
use Rattle.gp_trace.specs.Walk.{after_exit, after_lines, at_exit, at_start, before_exit, next, with_event}
use Rattle.gp_trace.proofs.Canonical.{entry_said, entry_words}
use Rattle.gp_trace.proofs.Reached.{segments_of}
use Rattle.gp_trace.proofs.Spelled.{InSome}

abbrev LineWords : Type 0
LineWords = List (List ℕ)

abbrev mark_line : LineWords
mark_line = codes "mark" ∷ []

abbrev exit_line : LineWords
exit_line = codes "exit" ∷ []

append_nil : (xs : List LineWords) → xs ++ [] ≡ xs
append_nil [] = refl
append_nil (x ∷ xs) = ap (λ rest. x ∷ rest) (append_nil xs)

regroup : (a b c d : List LineWords) → a ++ (b ++ (c ++ d)) ≡ (a ++ (b ++ c)) ++ d
regroup a b c d = sym (append_assoc a (b ++ c) d ∙ ap (λ rest. a ++ rest) (append_assoc b c d))

later_append : (exit_in : Option ℕ) (n : ℕ) (xs ys : List (List Event)) → later_lines exit_in n (xs ++ ys) ≡ later_lines exit_in n xs ++ later_lines exit_in (n + length xs) ys
later_append exit_in n [] ys =
    let here : n ≡ n + 0 = omega arith in ap (λ m. later_lines exit_in m ys) here
later_append exit_in n (x ∷ xs) ys =
    let there : n + 1 + length xs ≡ n + length (x ∷ xs) = omega arith in
    ap (λ rest. mark_line ∷ (event_lines x ++ (exit_lines exit_in n ++ rest)))
    (later_append exit_in (n + 1) xs ys ∙ ap (λ m. later_lines exit_in (n + 1) xs ++ later_lines exit_in m ys) there)
    ∙ ap (λ rest. mark_line ∷ rest) (regroup (event_lines x) (exit_lines exit_in n) (later_lines exit_in (n + 1) xs) (later_lines exit_in (n + length (x ∷ xs)) ys))

-- the last segment's lines
last_of : (exit_in : Option ℕ) (ended : List (List Event)) (segment : List Event)
    → later_lines exit_in 1 (ended ++ segment ∷ []) ≡ later_lines exit_in 1 ended ++ mark_line ∷ (event_lines segment ++ exit_lines exit_in (1 + length ended))
last_of exit_in ended segment =
    later_append exit_in 1 ended (segment ∷ [])
    ∙ ap (λ rest. later_lines exit_in 1 ended ++ mark_line ∷ (event_lines segment ++ rest)) (append_nil (exit_lines exit_in (1 + length ended)))

event_push : (ended : List (List Event)) (segment : List Event) (event : Event)
    → later_lines None 1 (ended ++ segment ∷ []) ++ event_words event ∷ [] ≡ later_lines None 1 (ended ++ (segment ++ event ∷ []) ∷ [])
event_push ended segment event =
    ap (λ xs. xs ++ event_words event ∷ []) (last_of None ended segment)
    ∙ append_assoc (later_lines None 1 ended) (mark_line ∷ (event_lines segment ++ [])) (event_words event ∷ [])
    ∙ ap (λ xs. later_lines None 1 ended ++ mark_line ∷ (xs ++ event_words event ∷ [])) (append_nil (event_lines segment))
    ∙ ap (λ xs. later_lines None 1 ended ++ mark_line ∷ xs) (sym (map-append event_words segment (event ∷ [])) ∙ sym (append_nil (event_lines (segment ++ event ∷ []))))
    ∙ sym (last_of None ended (segment ++ event ∷ []))

mark_push : (exit_in : Option ℕ) (segments : List (List Event)) → ends_in exit_in (1 + length segments) ≡ false
    → later_lines exit_in 1 segments ++ mark_line ∷ [] ≡ later_lines exit_in 1 (segments ++ [] ∷ [])
mark_push exit_in segments off =
    ap (λ b. later_lines exit_in 1 segments ++ mark_line ∷ (if b then exit_line ∷ [] else [])) (sym off) ∙ sym (last_of exit_in segments [])

different : (n m : ℕ) → n < m → (n == m) ≡ false
different n m lt = grind (arith, nat_tests)

above : (n m : ℕ) → n < m → (m == n) ≡ false
above n m lt = grind (arith, nat_tests)

-- the segments before that of the exit
before : (k n : ℕ) (segments : List (List Event)) → n + length segments ≤ k → later_lines (Some k) n segments ≡ later_lines None n segments
before k n [] le = refl
before k n (segment ∷ segments) le =
    let more : n + 1 + length segments ≤ k = omega (arith, le) in
    ap (λ b. mark_line ∷ (event_lines segment ++ ((if b then exit_line ∷ [] else []) ++ later_lines (Some k) (n + 1) segments))) (above n k (omega (arith, le)))
    ∙ ap (λ rest. mark_line ∷ (event_lines segment ++ rest)) (before k (n + 1) segments more)

exit_push : (ended : List (List Event)) (segment : List Event)
    → later_lines None 1 (ended ++ segment ∷ []) ++ exit_line ∷ [] ≡ later_lines (Some (length ended + 1)) 1 (ended ++ segment ∷ [])
exit_push ended segment =
    let same : length ended + 1 ≡ 1 + length ended = omega arith in
    ap (λ xs. xs ++ exit_line ∷ []) (last_of None ended segment)
    ∙ append_assoc (later_lines None 1 ended) (mark_line ∷ (event_lines segment ++ [])) (exit_line ∷ [])
    ∙ ap (λ xs. later_lines None 1 ended ++ mark_line ∷ (xs ++ exit_line ∷ [])) (append_nil (event_lines segment))
    ∙ ap (λ xs. xs ++ mark_line ∷ (event_lines segment ++ exit_line ∷ [])) (sym (before (length ended + 1) 1 ended (omega arith)))
    ∙ ap (λ b. later_lines (Some (length ended + 1)) 1 ended ++ mark_line ∷ (event_lines segment ++ (if b then exit_line ∷ [] else []))) (sym (eq-eqb (length ended + 1) (1 + length ended) same))
    ∙ sym (last_of (Some (length ended + 1)) ended segment)

-- the exit, where it is there, is in one of the segments so far
abbrev IsPast : Option ℕ → ℕ → Type 0
IsPast (Some k) n = k ≤ n + 1
IsPast None n = Unit {0}

further : (exit_in : Option ℕ) (n m : ℕ) → n ≤ m → IsPast exit_in n → IsPast exit_in m
further (Some k) n m le past = omega (arith, le, past)
further None n m le past = tt

not_last : (exit_in : Option ℕ) (n m : ℕ) → n + 1 < m → IsPast exit_in n → ends_in exit_in m ≡ false
not_last (Some k) n m lt past = different k m (omega (arith, lt, past))
not_last None n m lt past = refl

-- the lines that were read are the walk's, with a mark before them
record IsSaidBy (done : List LineWords) (walk : Walk) : Type 0 where
  said : mark_line ∷ done ≡ later_lines walk.exit_in 1 (segments_of walk)
  past : IsPast walk.exit_in (length walk.ended)

abbrev InSaid : List LineWords → Result Walk TraceFault → Type 0
InSaid done (Ok walk) = IsSaidBy done walk
InSaid done (Err fault) = Unit {0}

event_step : (done : List LineWords) (walk : Walk) (event : Event) (words : LineWords) (r : Result (Unit {0}) TraceFault) → words ≡ event_words event → walk.exit_in ≡ None → IsSaidBy done walk
    → InSaid (done ++ words ∷ []) (with_event walk event r)
event_step done walk event words (Err fault) says open_ by = tt
event_step done walk event words (Ok u) says open_ by =
    let P : Option ℕ → Type 0 = λ e. mark_line ∷ done ≡ later_lines e 1 (segments_of walk) in
    let Q : Option ℕ → Type 0 = λ e. mark_line ∷ (done ++ words ∷ []) ≡ later_lines e 1 (walk.ended ++ (walk.segment ++ event ∷ []) ∷ []) in
    let now : mark_line ∷ (done ++ words ∷ []) ≡ later_lines None 1 (walk.ended ++ (walk.segment ++ event ∷ []) ∷ []) =
    ap (λ xs. xs ++ words ∷ []) (subst P open_ by.said)
    ∙ ap (λ w. later_lines None 1 (segments_of walk) ++ w ∷ []) says
    ∙ event_push walk.ended walk.segment event in
    record { said = subst Q (sym open_) now; past = by.past }

mark_step : (b : Bool) (done : List LineWords) (fault : TraceFault) (walk : Walk) → IsSaidBy done walk
    → InSaid (done ++ mark_line ∷ []) (if b then Err fault else Ok (record walk { ended = segments_of walk; segment = [] }))
mark_step true done fault walk by = tt
mark_step false done fault walk by =
    let long : length (segments_of walk) ≡ length walk.ended + 1 = length-append walk.ended (walk.segment ∷ []) in
    let off : ends_in walk.exit_in (1 + length (segments_of walk)) ≡ false =
    not_last walk.exit_in (length walk.ended) (1 + length (segments_of walk)) (omega (arith, long)) by.past in
    record {
      said = ap (λ xs. xs ++ mark_line ∷ []) by.said ∙ mark_push walk.exit_in (segments_of walk) off;
      past = further walk.exit_in (length walk.ended) (length (segments_of walk)) (omega (arith, long)) by.past;
    }

exit_step : (done : List LineWords) (walk : Walk) → walk.exit_in ≡ None → IsSaidBy done walk → IsSaidBy (done ++ exit_line ∷ []) (at_exit walk)
exit_step done walk open_ by =
    let P : Option ℕ → Type 0 = λ e. mark_line ∷ done ≡ later_lines e 1 (segments_of walk) in
    record {
      said = ap (λ xs. xs ++ exit_line ∷ []) (subst P open_ by.said) ∙ exit_push walk.ended walk.segment;
      past = omega arith;
    }

before_step : (done : List LineWords) (thread marks n : ℕ) (walk : Walk) (words : LineWords) (entry : Option Entry) → InSome (λ e. words ≡ entry_words e) entry → walk.exit_in ≡ None → IsSaidBy done walk
    → InSaid (done ++ words ∷ []) (before_exit thread marks n walk entry)
before_step done thread marks n walk words None says open_ by = tt
before_step done thread marks n walk words (Some (Did event)) says open_ by = event_step done walk event words (check thread n walk.standing event) says open_ by
before_step done thread marks n walk words (Some Mark) says open_ by =
    let P : LineWords → Type 0 = λ w. InSaid (done ++ w ∷ []) (before_exit thread marks n walk (Some Mark)) in
    subst P (sym says) (mark_step (length walk.ended == marks) done _ walk by)
before_step done thread marks n walk words (Some Exit) says open_ by =
    let P : LineWords → Type 0 = λ w. IsSaidBy (done ++ w ∷ []) (at_exit walk) in subst P (sym says) (exit_step done walk open_ by)

after_step : (done : List LineWords) (marks n : ℕ) (walk : Walk) (words : LineWords) (entry : Option Entry) → InSome (λ e. words ≡ entry_words e) entry → IsSaidBy done walk
    → InSaid (done ++ words ∷ []) (after_exit marks n walk entry)
after_step done marks n walk words None says by = tt
after_step done marks n walk words (Some (Did event)) says by = tt
after_step done marks n walk words (Some Mark) says by =
    let P : LineWords → Type 0 = λ w. InSaid (done ++ w ∷ []) (after_exit marks n walk (Some Mark)) in
    subst P (sym says) (mark_step (length walk.ended == marks) done _ walk by)
after_step done marks n walk words (Some Exit) says by = tt

one_step : (exit_in : Option ℕ) (done : List LineWords) (thread marks n : ℕ) (walk : Walk) (words : LineWords) (entry : Option Entry) → walk.exit_in ≡ exit_in → InSome (λ e. words ≡ entry_words e) entry → IsSaidBy done walk
    → InSaid (done ++ words ∷ []) (if is_some exit_in then after_exit marks n walk entry else before_exit thread marks n walk entry)
one_step None done thread marks n walk words entry open_ says by = before_step done thread marks n walk words entry says open_ by
one_step (Some k) done thread marks n walk words entry open_ says by = after_step done marks n walk words entry says by

then_said : (done total : List LineWords) (r : Result Walk TraceFault) (rest : Walk → Result Walk TraceFault) → InSaid done r → ((mid : Walk) → IsSaidBy done mid → InSaid total (rest mid)) → InSaid total (and_then r rest)
then_said done total (Ok mid) rest by goes = goes mid by
then_said done total (Err fault) rest by goes = tt

lines_said : OneSpelling → (format thread marks : ℕ) (done : List LineWords) (walk : Walk) (lines : List Line) → IsSaidBy done walk
    → InSaid (done ++ map (λ line. line.words) lines) (after_lines format thread marks walk lines)
lines_said spelled format thread marks done walk [] by =
    let P : List LineWords → Type 0 = λ all. IsSaidBy all walk in subst P (sym (append_nil done)) by
lines_said spelled format thread marks done walk (line ∷ lines) by =
    then_said (done ++ line.words ∷ []) (done ++ line.words ∷ map (λ other. other.words) lines) (next format thread marks walk line) (λ mid. after_lines format thread marks mid lines)
    (one_step walk.exit_in done thread marks line.number walk line.words (entry_of format line.words) refl (entry_said spelled format line.words) by)
    (λ mid so.
    let P : List LineWords → Type 0 = λ all. InSaid all (after_lines format thread marks mid lines) in
    subst P (append_assoc done (line.words ∷ []) (map (λ other. other.words) lines)) (lines_said spelled format thread marks (done ++ line.words ∷ []) mid lines so))

-- the lines after a first mark
but_first : (exit_in : Option ℕ) (lines : List LineWords) (ended : List (List Event)) (segment : List Event)
    → mark_line ∷ lines ≡ later_lines exit_in 1 (ended ++ segment ∷ []) → lines ≡ segment_lines exit_in (ended ++ segment ∷ [])
but_first exit_in lines [] segment said = (cc)
but_first exit_in lines (first ∷ ended) segment said = (cc)

pub walk_said : OneSpelling → (format thread marks : ℕ) (lines : List Line) (walk : Walk) → after_lines format thread marks at_start lines ≡ Ok walk
    → map (λ line. line.words) lines ≡ segment_lines walk.exit_in (segments_of walk)
walk_said spelled format thread marks lines walk ok =
    let P : Result Walk TraceFault → Type 0 = InSaid (map (λ line. line.words) lines) in
    let by : IsSaidBy (map (λ line. line.words) lines) walk =
    subst P ok (lines_said spelled format thread marks [] at_start lines (record { said = refl; past = tt })) in
    but_first walk.exit_in (map (λ line. line.words) lines) walk.ended walk.segment by.said
