-- What the windows of a recording weigh, window by window.
use Rattle.std.proofs.Common.{◌≡◌, ◌∙◌, ap, sym, ℕ, zero, suc, ◌+◌, ◌-◌, ◌*◌, ◌<◌, ◌≤◌, List, [], ◌∷◌, length, map, arith, add-one, length-append}
use Rattle.std.specs.List.{range_with_len}
use Rattle.std.specs.Prelude.{slice_get, unwrap_or}
use Rattle.gp_trace.specs.declared.event.Event.{Event}
use Rattle.gp_trace.specs.Trace.{in_order}
use Rattle.gp_cut.specs.Parts.{middles_before}
use Rattle.gp_cut.proofs.Middles.{counted_true, none_behind}

-- a segment is no longer than the whole trace
pub segment_short : (segments : List (List Event)) (before : ℕ) → length (unwrap_or (slice_get segments before) []) ≤ length (in_order segments)
segment_short [] before = omega arith
segment_short (segment ∷ segments) zero = let all = length-append segment (in_order segments) in omega (arith, all)
segment_short (segment ∷ segments) (suc before) =
    let all = length-append segment (in_order segments) in
    let rest = segment_short segments before in
    omega (arith, all, rest)

-- the windows from one on are that one and those from the next on
from_here : (f : ℕ → ℕ) (before left more : ℕ) → left ≡ more + 1 → map f (range_with_len before left) ≡ f before ∷ map f (range_with_len (before + 1) more)
from_here f before left more is = ap (λ n. map f (range_with_len before n)) (is ∙ add-one more)

-- where the middle of a window is before the end of a part, the window counts
pub one_more : (f : ℕ → ℕ) (part parts whole before passed windows weight : ℕ) → before < windows → weight ≡ f before
    → (passed + passed + weight) * parts < 2 * part * whole
    → before + 1 + middles_before part parts whole (passed + weight) (map f (range_with_len (before + 1) (windows - (before + 1))))
    ≡ before + middles_before part parts whole passed (map f (range_with_len before (windows - before)))
one_more f part parts whole before passed windows weight there is within =
    let more : ℕ = windows - (before + 1) in
    let rest : List ℕ = map f (range_with_len (before + 1) more) in
    let here = ap (middles_before part parts whole passed)
    (from_here f before (windows - before) more (omega (arith, there)) ∙ ap (λ (first : ℕ). first ∷ rest) (sym is)) in
    let one = counted_true ((passed + passed + weight) * parts) (2 * part * whole) within in
    omega (arith, here, one)

-- where it is not, none counts from there on
pub no_more : (f : ℕ → ℕ) (part parts whole before passed windows weight : ℕ) → before < windows → weight ≡ f before
    → 2 * part * whole ≤ (passed + passed + weight) * parts
    → middles_before part parts whole passed (map f (range_with_len before (windows - before))) ≡ 0
no_more f part parts whole before passed windows weight there is behind =
    let more : ℕ = windows - (before + 1) in
    let rest : List ℕ = map f (range_with_len (before + 1) more) in
    ap (middles_before part parts whole passed)
    (from_here f before (windows - before) more (omega (arith, there)) ∙ ap (λ (first : ℕ). first ∷ rest) (sym is))
    ∙ none_behind part parts whole passed weight rest behind
