-- Lists of literals in one list, and where each of them ends.
use Rattle.std.proofs.Common.{◌≡◌, ℕ, ◌+◌, ◌-◌, ◌<◌, ◌≤◌, zero, suc, false, List, [], ◌∷◌, ◌++◌, length, take, drop, get_or, cond, ◌==◌, refl, ap, sym, ◌∙◌, arith}
use Rattle.std.proofs.lemmas.List.{append-nil, append_assoc, length-append, take_at, drop_at, take-append-drop, drop_more}
use Rattle.std.proofs.lemmas.List.Concat.{flat_map-append}
use Rattle.std.proofs.lemmas.Bool.Decides.{nat_tests}
use Rattle.gp_clause.specs.declared.lit.Lit.{Lit}
use Rattle.gp_certificate.specs.ClauseList.{joined, ends_from, pieces, IsSplit}

-- the pieces that some lists end at are those lists
pub pieces_of : (from : ℕ) (lists : List (List Lit)) → pieces from (ends_from from lists) (joined lists) ≡ lists
pieces_of from [] = refl
pieces_of from (lits ∷ lists) =
    let same : from + length lits - from ≡ length lits = omega arith in
    let first : take (from + length lits - from) (lits ++ joined lists) ≡ lits = ap (λ n. take n (lits ++ joined lists)) same ∙ take_at lits (joined lists) (length lits) refl in
    let rest : drop (from + length lits - from) (lits ++ joined lists) ≡ joined lists = ap (λ n. drop n (lits ++ joined lists)) same ∙ drop_at lits (joined lists) (length lits) refl in
    let second : pieces (from + length lits) (ends_from (from + length lits) lists) (drop (from + length lits - from) (lits ++ joined lists)) ≡ lists =
    ap (λ ls. pieces (from + length lits) (ends_from (from + length lits) lists) ls) rest ∙ pieces_of (from + length lits) lists in
    λ i. first i ∷ second i

-- literals and ends of lists stand for these
pub view_of : (lists : List (List Lit)) (lits : List Lit) (ends : List ℕ) → lits ≡ joined lists → ends ≡ ends_from 0 lists → pieces 0 ends lits ≡ lists
view_of lists lits ends lits_are ends_are = (λ i. pieces 0 (ends_are i) (lits_are i)) ∙ pieces_of 0 lists

pub split_of : (lists : List (List Lit)) (lits : List Lit) (ends : List ℕ) → lits ≡ joined lists → ends ≡ ends_from 0 lists → IsSplit lits ends
split_of lists lits ends lits_are ends_are =
    let same : lists ≡ pieces 0 ends lits = sym (view_of lists lits ends lits_are ends_are) in
    record { lits = lits_are ∙ ap joined same; ends = ends_are ∙ ap (ends_from 0) same }

pub ends_size : (from : ℕ) (lists : List (List Lit)) → length (ends_from from lists) ≡ length lists
ends_size from [] = refl
ends_size from (lits ∷ lists) = ap (λ n. suc n) (ends_size (from + length lits) lists)

-- there are as many lists as ends
pub many : (lits : List Lit) (ends : List ℕ) → IsSplit lits ends → length ends ≡ length (pieces 0 ends lits)
many lits ends split = ap (λ (es : List ℕ). length es) split.ends ∙ ends_size 0 (pieces 0 ends lits)

pub joined_push : (lists : List (List Lit)) (lits : List Lit) → joined (lists ++ lits ∷ []) ≡ joined lists ++ lits
joined_push lists lits = flat_map-append (λ (ls : List Lit). ls) lists (lits ∷ []) ∙ ap (λ ls. joined lists ++ ls) (append-nil lits)

ends_push : (from : ℕ) (lists : List (List Lit)) (lits : List Lit) → ends_from from (lists ++ lits ∷ []) ≡ ends_from from lists ++ (from + length (joined lists ++ lits)) ∷ []
ends_push from [] lits = refl
ends_push from (first ∷ lists) lits =
    let rest = ends_push (from + length first) lists lits in
    let same : from + length first + length (joined lists ++ lits) ≡ from + length ((first ++ joined lists) ++ lits) =
    omega (arith, ap (λ (ls : List Lit). length ls) (append_assoc first (joined lists) lits), length-append first (joined lists ++ lits)) in
    λ i. (from + length first) ∷ (rest ∙ ap (λ n. ends_from (from + length first) lists ++ n ∷ []) same) i

-- how many literals the lists have
pub used : (lits : List Lit) (ends : List ℕ) → IsSplit lits ends → length (joined (pieces 0 ends lits)) ≡ length lits
used lits ends split = ap (λ (ls : List Lit). length ls) (sym split.lits)

-- one more list behind the others
pub pushed_view : (old new : List Lit) (ends more : List ℕ) (lits : List Lit) (n : ℕ) → IsSplit old ends → new ≡ old ++ lits → more ≡ ends ++ n ∷ [] → n ≡ length new
    → (new ≡ joined (pieces 0 ends old ++ lits ∷ [])) × (more ≡ ends_from 0 (pieces 0 ends old ++ lits ∷ []))
pushed_view old new ends more lits n split grown longer is =
    let whole : new ≡ joined (pieces 0 ends old) ++ lits = grown ∙ ap (λ ls. ls ++ lits) split.lits in (
      whole ∙ sym (joined_push (pieces 0 ends old) lits),
      longer ∙ ap (λ es. es ++ n ∷ []) split.ends ∙ ap (λ m. ends_from 0 (pieces 0 ends old) ++ m ∷ []) (is ∙ ap (λ (ls : List Lit). length ls) whole)
          ∙ ap (λ m. ends_from 0 (pieces 0 ends old) ++ m ∷ []) (omega arith) ∙ sym (ends_push 0 (pieces 0 ends old) lits),
    )

ends_take : (from n : ℕ) (lists : List (List Lit)) → take n (ends_from from lists) ≡ ends_from from (take n lists)
ends_take from zero lists = refl
ends_take from (suc n) [] = refl
ends_take from (suc n) (lits ∷ lists) = ap (λ es. (from + length lits) ∷ es) (ends_take (from + length lits) n lists)

-- where a list ends
ends_at : (from k : ℕ) (lists : List (List Lit)) → k < length lists → get_or (ends_from from lists) k 0 ≡ from + length (joined (take (suc k) lists))
ends_at from k [] within = absurd (omega arith)
ends_at from zero (lits ∷ lists) within = omega (arith, ap (λ (ls : List Lit). length ls) (append-nil lits))
ends_at from (suc k) (lits ∷ lists) within =
    ends_at (from + length lits) k lists (omega arith) ∙ omega (arith, length-append lits (joined (take (suc k) lists)))

-- where a list begins
pub begins_at : (lists : List (List Lit)) (k : ℕ) → k ≤ length lists → cond (k == 0) 0 (get_or (ends_from 0 lists) (k - 1) 0) ≡ length (joined (take k lists))
begins_at lists zero within = refl
begins_at lists (suc k) within =
    let same : suc k - 1 ≡ k = omega arith in
    let some : (suc k == 0) ≡ false = grind (arith, nat_tests) in
    ap (λ b. cond b 0 (get_or (ends_from 0 lists) (suc k - 1) 0)) some ∙ ap (λ n. get_or (ends_from 0 lists) n 0) same ∙ ends_at 0 k lists (omega (arith, within)) ∙ omega arith

joined_parts : (n : ℕ) (lists : List (List Lit)) → joined lists ≡ joined (take n lists) ++ joined (drop n lists)
joined_parts n lists = ap joined (sym (take-append-drop n lists)) ∙ flat_map-append (λ (ls : List Lit). ls) (take n lists) (drop n lists)

-- the first lists have the first literals
pub first_view : (lits : List Lit) (ends : List ℕ) (count start : ℕ) → IsSplit lits ends → count ≤ length ends → start ≡ cond (count == 0) 0 (get_or ends (count - 1) 0)
    → (take start lits ≡ joined (take count (pieces 0 ends lits))) × (take count ends ≡ ends_from 0 (take count (pieces 0 ends lits)))
first_view lits ends count start split within is =
    let lists = pieces 0 ends lits in
    let size : length ends ≡ length lists = many lits ends split in
    let begin : start ≡ length (joined (take count lists)) = is ∙ ap (λ es. cond (count == 0) 0 (get_or es (count - 1) 0)) split.ends ∙ begins_at lists count (omega (arith, within, size)) in (
      ap (λ n. take n lits) begin ∙ ap (λ ls. take (length (joined (take count lists))) ls) (split.lits ∙ joined_parts count lists)
          ∙ take_at (joined (take count lists)) (joined (drop count lists)) (length (joined (take count lists))) refl,
      ap (λ es. take count es) split.ends ∙ ends_take 0 count lists,
    )

-- a list lies where it begins
pub list_at : (lits : List Lit) (ends : List ℕ) (k start end : ℕ) → IsSplit lits ends → k < length ends → start ≡ cond (k == 0) 0 (get_or ends (k - 1) 0) → end ≡ get_or ends k 0
    → (take (end - start) (drop start lits) ≡ get_or (pieces 0 ends lits) k []) × (start ≤ end) × (end ≤ length lits)
list_at lits ends k start end split within start_is end_is =
    let lists = pieces 0 ends lits in
    let one = get_or lists k [] in
    let size : length ends ≡ length lists = many lits ends split in
    let inside : k < length lists = omega (arith, within, size) in
    let begin : start ≡ length (joined (take k lists)) = start_is ∙ ap (λ es. cond (k == 0) 0 (get_or es (k - 1) 0)) split.ends ∙ begins_at lists k (omega (arith, inside)) in
    let behind : drop k lists ≡ one ∷ drop (k + 1) lists = drop_more lists k [] inside in
    let whole : lits ≡ joined (take k lists) ++ (one ++ joined (drop (k + 1) lists)) = split.lits ∙ joined_parts k lists ∙ ap (λ ls. joined (take k lists) ++ joined ls) behind in
    let first : take (suc k) lists ≡ take k lists ++ one ∷ [] = next k lists inside in
    let finish : end ≡ length (joined (take k lists)) + length one =
    end_is ∙ ap (λ es. get_or es k 0) split.ends ∙ ends_at 0 k lists inside
    ∙ omega (arith, ap (λ ls. length (joined ls)) first, ap (λ (ls : List Lit). length ls) (joined_push (take k lists) one), length-append (joined (take k lists)) one) in
    let wide : end - start ≡ length one = omega (arith, begin, finish) in
    let long : length lits ≡ length (joined (take k lists)) + (length one + length (joined (drop (k + 1) lists))) =
    ap (λ (ls : List Lit). length ls) whole ∙ length-append (joined (take k lists)) (one ++ joined (drop (k + 1) lists))
    ∙ ap (λ n. length (joined (take k lists)) + n) (length-append one (joined (drop (k + 1) lists))) in (
      ap (λ n. take n (drop start lits)) wide ∙ ap (λ n. take (length one) (drop n lits)) begin
          ∙ ap (λ ls. take (length one) (drop (length (joined (take k lists))) ls)) whole
          ∙ ap (λ ls. take (length one) ls) (drop_at (joined (take k lists)) (one ++ joined (drop (k + 1) lists)) (length (joined (take k lists))) refl)
          ∙ take_at one (joined (drop (k + 1) lists)) (length one) refl,
      omega (arith, begin, finish),
      omega (arith, long, finish),
    )
  where
    next : (k : ℕ) (lists : List (List Lit)) → k < length lists → take (suc k) lists ≡ take k lists ++ get_or lists k [] ∷ []
    next k [] within = absurd (omega arith)
    next zero (lits ∷ lists) within = refl
    next (suc k) (lits ∷ lists) within = ap (λ ls. lits ∷ ls) (next k lists (omega arith))
