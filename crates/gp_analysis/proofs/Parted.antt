-- How far the windows are parted into runs.
use Rattle.std.proofs.Common.{◌≡◌, sym, ap, ◌∙◌, subst, ℕ, zero, suc, ◌+◌, ◌-◌, ◌*◌, ◌/◌, ◌<◌, ◌≤◌, List, [], ◌∷◌, ◌++◌, length, flat_map, All, add-zero, append_assoc, append-nil, arith}
use Rattle.std.proofs.Math.Nat.{div-mul-le_self, div-one, le-div_iff_mul-le, mul-le-mul_right}
use Rattle.std.proofs.lemmas.Grind.{flat_map-append}
use Rattle.std.proofs.lemmas.List.{length_push}
use Rattle.std.proofs.lemmas.List.Elements.{All-push}
use Rattle.gp_window.specs.WindowForm.{numbers_from}
use Rattle.gp_analysis.specs.declared.runs.Run.{Run}
use Rattle.gp_analysis.specs.Runs.{IsRun, numbers_of}

-- neighbouring numbers, cut in two
numbers_join : (first one other : ℕ) → numbers_from first (one + other) ≡ numbers_from first one ++ numbers_from (first + one) other
numbers_join first zero other =
    let whole : zero + other ≡ other = omega arith in
    ap (numbers_from first) whole ∙ ap (λ (n : ℕ). numbers_from n other) (sym (add-zero first))
numbers_join first (suc one) other =
    let whole : suc one + other ≡ suc (one + other) = omega arith in
    let later : first + 1 + one ≡ first + suc one = omega arith in
    ap (numbers_from first) whole ∙ ap (λ (ns : List ℕ). first ∷ ns) (numbers_join (first + 1) one other ∙ ap (λ (n : ℕ). numbers_from (first + 1) one ++ numbers_from n other) later)

-- an equal share of so many windows among so many runs: at least one, and what is left is enough for the others
record IsShare (left runs own : ℕ) : Type 0 where
  some : 1 ≤ own
  within : own + (runs - 1) ≤ left
  all : runs ≡ 1 → own ≡ left

share_of : (left more : ℕ) → more + 1 ≤ left → IsShare left (more + 1) (left / (more + 1))
share_of left more enough =
    let own = left / (more + 1) in
    let some : 1 ≤ own = (le-div_iff_mul-le {k = more + 1} (omega arith)).1 (omega (arith, enough)) in
    let product : own * (more + 1) ≤ left = div-mul-le_self left (more + 1) in
    let others : 1 * more ≤ own * more = mul-le-mul_right more some in
    record {
      some = some;
      within = omega (arith, product, others);
      all = λ one. let none : more ≡ 0 = omega (arith, one) in subst (λ n. left / (n + 1) ≡ left) (sym none) (div-one left);
    }

-- so many windows, but for those from one on, are parted, and what is left is enough for the runs to come
pub record IsParted (epochs count first : ℕ) (runs : List Run) : Type 0 where
  pub each : All (IsRun epochs) runs
  pub all : flat_map numbers_of runs ++ numbers_from first (epochs + 1 - first) ≡ numbers_from 1 epochs
  pub least : 1 ≤ first
  pub enough : first + (count - length runs) ≤ epochs + 1
  pub few : length runs ≤ count
  pub last : length runs ≡ count → first ≡ epochs + 1

-- those of one run more are parted
pub one_parted : (epochs count first : ℕ) (runs more : List Run) → length runs < count → IsParted epochs count first runs → (own : ℕ) → own ≡ (epochs + 1 - first) / (count - length runs)
    → more ≡ runs ++ (record { first = first; count = own }) ∷ [] → IsParted epochs count (first + own) more
one_parted epochs count first runs more below parted own is pushed =
    let run : Run = record { first = first; count = own } in
    let left = epochs + 1 - first in
    let to_come : count - length runs ≡ count - length runs - 1 + 1 = omega (arith, below) in
    let share : IsShare left (count - length runs) own =
    subst (λ n. IsShare left n own) (sym to_come) (subst (IsShare left (count - length runs - 1 + 1)) (sym (is ∙ ap (λ n. left / n) to_come))
    (share_of left (count - length runs - 1) (omega (arith, below, parted.enough)))) in
    let size : length (runs ++ run ∷ []) ≡ length runs + 1 = length_push runs run in
    let rest = numbers_from (first + own) (epochs + 1 - (first + own)) in
    let cut : left ≡ own + (epochs + 1 - (first + own)) = omega (arith, share.within, below) in
    let split : numbers_from first left ≡ numbers_of run ++ rest = ap (numbers_from first) cut ∙ numbers_join first own (epochs + 1 - (first + own)) in
    let joined : flat_map numbers_of (runs ++ run ∷ []) ≡ flat_map numbers_of runs ++ numbers_of run =
    flat_map-append numbers_of runs (run ∷ []) ∙ ap (λ ns. flat_map numbers_of runs ++ ns) (append-nil (numbers_of run)) in
    subst (IsParted epochs count (first + own)) (sym pushed) (record {
      each = All-push (IsRun epochs) runs run parted.each (record { first = parted.least; some = share.some; last = omega (arith, share.within, parted.enough, below) });
      all = ap (λ ns. ns ++ rest) joined ∙ append_assoc (flat_map numbers_of runs) (numbers_of run) rest ∙ ap (λ ns. flat_map numbers_of runs ++ ns) (sym split) ∙ parted.all;
      least = omega (arith, parted.least);
      enough = omega (arith, size, share.within, parted.enough, below);
      few = omega (arith, size, below);
      last = λ all. omega (arith, share.all (omega (arith, all, size)), parted.enough, below);
    })
