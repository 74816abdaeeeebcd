-- Pieces written one after another.
use Rattle.std.proofs.Common.{◌≡◌, refl, ℕ, ◌+◌, ◌<◌, ◌≤◌, min, List, ◌∷◌, ◌++◌, length, get_or, take, drop, ap, ◌∙◌, sym, append_assoc, add-one, drop-cons, arith}
use Rattle.std.proofs.lemmas.List.{take-append-drop, take-append-le, take_min}
use Rattle.std.proofs.lemmas.Grind.{flat_map-append}
use Rattle.std.proofs.Math.Seq.{take-append-add}
use Rattle.std.specs.Prelude.{Option, Some, None, flat_map}
use Rattle.gp_outside.specs.Sinks.{Appends, AppendsFront}

-- a front part of one piece after what was written before is a front part of it all
front_of : (before piece after : List ℕ) (k : ℕ)
    → take (length before + min k (length piece)) (before ++ (piece ++ after)) ≡ before ++ take k piece
front_of before piece after k =
    let within : min k (length piece) ≤ length piece = omega arith in
    take-append-add before (piece ++ after) (min k (length piece))
    ∙ ap (λ part. before ++ part) (take-append-le (min k (length piece)) piece after within ∙ take_min k piece)

-- the text is what comes before a line, the line, and what comes after it
text_at : (lines : List (List ℕ)) (i : ℕ) (line : List ℕ) → i < length lines → line ≡ get_or lines i line
    → flat_map (λ l. l) lines ≡ flat_map (λ l. l) (take i lines) ++ (line ++ flat_map (λ l. l) (drop (i + 1) lines))
text_at lines i line below is =
    let cut : drop i lines ≡ line ∷ drop (i + 1) lines = rw (add-one, drop-cons lines i line below, ← is) refl in
    ap (flat_map (λ l. l)) (sym (take-append-drop i lines))
    ∙ flat_map-append (λ l. l) (take i lines) (drop i lines)
    ∙ ap (λ rest. flat_map (λ l. l) (take i lines) ++ flat_map (λ l. l) rest) cut

-- a front part of one line after whole lines is a front part of the text
pub front_then : (old middle new : Option (List ℕ)) (lines : List (List ℕ)) (i : ℕ) (line : List ℕ)
    → i < length lines → line ≡ get_or lines i line
    → Appends old middle (flat_map (λ l. l) (take i lines)) → AppendsFront middle new line
    → AppendsFront old new (flat_map (λ l. l) lines)
front_then None middle new lines i line below is appended front = tt
front_then (Some old) None new lines i line below is appended front = absurd (cc)
front_then (Some old) (Some middle) new lines i line below is appended front =
    let before : List ℕ = flat_map (λ l. l) (take i lines) in
    let after : List ℕ = flat_map (λ l. l) (drop (i + 1) lines) in
    let middle_is : middle ≡ old ++ before = cc in
    let text : flat_map (λ l. l) lines ≡ before ++ (line ++ after) = text_at lines i line below is in
    let joined : middle ++ take front.0 line ≡ old ++ take (length before + min front.0 (length line)) (flat_map (λ l. l) lines) =
    ap (λ m. m ++ take front.0 line) middle_is ∙ append_assoc old before (take front.0 line)
    ∙ ap (λ part. old ++ part) (sym (front_of before line after front.0))
    ∙ ap (λ whole. old ++ take (length before + min front.0 (length line)) whole) (sym text) in
    (length before + min front.0 (length line), front.1 ∙ ap Some joined)
