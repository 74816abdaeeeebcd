-- Lines one after another, and words in a row.
use Rattle.std.proofs.Common.{◌≡◌, refl, sym, ap, ◌∙◌, ℕ, ◌+◌, ◌<◌, List, [], ◌∷◌, ◌++◌, length, get_or, drop, Option, Result, Ok, Err, OnOk, is_ok, if◌then◌else◌, arith, append_assoc, append-nil, add-one, drop-cons, codes}
use Rattle.std.specs.List.{flat_map}
use Rattle.gp_text.specs.Spelling.{joined, spelling}
use Rattle.gp_text.specs.SpellingLaws.{spelling_append}
use Rattle.gp_trace.specs.declared.event.Event.{Event}
use Rattle.gp_trace.specs.Printed.{event_lines, exit_lines, later_lines, segment_lines}

-- what holds of an answer gives what follows from it
pub on_ok : {A E : Type 0} (r : Result A E) {P Q : Type 0} → (P → Q) → OnOk r P → OnOk r Q
on_ok (Ok x) follows holds = follows holds
on_ok (Err e) follows holds = tt

-- what was appended where there is an answer
pub on_if : {A E : Type 0} (r : Result A E) (new appended old : List ℕ) {Q : Type 0} → (new ≡ appended → Q) → new ≡ (if is_ok r then appended else old) → OnOk r Q
on_if (Ok x) new appended old follows is = follows is
on_if (Err e) new appended old follows is = tt

-- the words after the first, each with a space before it
joined_row : (first : List ℕ) (words : List (List ℕ)) → joined (first ∷ words) ≡ first ++ flat_map (λ word. 32 ∷ word) words
joined_row first [] = sym (append-nil first)
joined_row first (next ∷ words) = ap (λ rest. first ++ (32 ∷ rest)) (joined_row next words)

pub op_text : (out name : List ℕ) (objects : List (List ℕ)) → (((out ++ codes "op ") ++ name) ++ flat_map (λ object. 32 ∷ object) objects) ++ 10 ∷ [] ≡ out ++ spelling ((codes "op" ∷ name ∷ objects) ∷ [])
op_text out name objects = rw (joined_row name objects) (simp append_assoc refl)

-- the lines of a segment, its exit and what is later
three : (out : List ℕ) (xs ys zs : List (List (List ℕ))) → ((out ++ spelling xs) ++ spelling ys) ++ spelling zs ≡ out ++ spelling (xs ++ (ys ++ zs))
three out xs ys zs = rw (spelling_append xs (ys ++ zs), spelling_append ys zs) (simp append_assoc refl)

pub segment_text : (out : List ℕ) (exit_in : Option ℕ) (first : List Event) (later segments : List (List Event)) → segments ≡ first ∷ later
    → ((out ++ spelling (event_lines first)) ++ spelling (exit_lines exit_in 1)) ++ spelling (later_lines exit_in 2 later) ≡ out ++ spelling (segment_lines exit_in segments)
segment_text out exit_in first later segments is =
    three out (event_lines first) (exit_lines exit_in 1) (later_lines exit_in 2 later) ∙ ap (λ list. out ++ spelling (segment_lines exit_in list)) (sym is)

-- one of the later segments
pub later_text : (out : List ℕ) (exit_in : Option ℕ) (i : ℕ) (segments : List (List Event)) (segment : List Event) → i < length segments → segment ≡ get_or segments i segment
    → (((out ++ spelling ((codes "mark" ∷ []) ∷ [])) ++ spelling (event_lines segment)) ++ spelling (exit_lines exit_in (i + 2))) ++ spelling (later_lines exit_in (i + 1 + 2) (drop (i + 1) segments)) ≡ out ++ spelling (later_lines exit_in (i + 2) (drop i segments))
later_text out exit_in i segments segment lt is =
    let cut : drop i segments ≡ segment ∷ drop (i + 1) segments = rw (add-one, drop-cons segments i segment lt, ← is) refl in
    let number : i + 1 + 2 ≡ i + 2 + 1 = omega arith in
    ap (λ n. (((out ++ spelling ((codes "mark" ∷ []) ∷ [])) ++ spelling (event_lines segment)) ++ spelling (exit_lines exit_in (i + 2))) ++ spelling (later_lines exit_in n (drop (i + 1) segments))) number
    ∙ three (out ++ spelling ((codes "mark" ∷ []) ∷ [])) (event_lines segment) (exit_lines exit_in (i + 2)) (later_lines exit_in (i + 2 + 1) (drop (i + 1) segments))
    ∙ append_assoc out (spelling ((codes "mark" ∷ []) ∷ [])) (spelling (event_lines segment ++ (exit_lines exit_in (i + 2) ++ later_lines exit_in (i + 2 + 1) (drop (i + 1) segments))))
    ∙ ap (λ list. out ++ spelling (later_lines exit_in (i + 2) list)) (sym cut)
