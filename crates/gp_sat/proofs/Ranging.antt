-- Clauses in one array.
use Rattle.std.proofs.Common.{◌≡◌, refl, sym, ◌∙◌, ap, subst, ℕ, ◌+◌, ◌-◌, ◌*◌, ◌/◌, ◌%◌, ◌<◌, ◌≤◌, Bool, true, false, zero, suc, List, [], ◌∷◌, ◌++◌, length, get_or, take, drop, inl, inr, arith}
use Rattle.std.specs.Prelude.{slice_set}
use Rattle.std.specs.List.{slice_range}
use Rattle.std.proofs.lemmas.Bool.{cases_eq, cases_lt, eq-eqb, ne_eqb}
use Rattle.std.proofs.lemmas.List.{take-append-le, drop-append-le, length-drop, length-append, length-map, length-set, length_push, get_or_default, get_or_append_left, get_or_push, get_or-set_same, get_or-set_other, map-set, take_all}
use Rattle.std.proofs.Math.Seq.{drop-append_seam}
use Rattle.gp_clause.specs.declared.lit.Lit.{Lit}
use Rattle.gp_clause.specs.Clause.{IsRising}
use Rattle.gp_sat.specs.declared.store.Begin.{Begin}
use Rattle.gp_sat.specs.declared.store.Range.{Range}
use Rattle.gp_sat.specs.Stored.{Stored}
use Rattle.gp_sat.specs.State.{clause_at, no_clause}
use Rattle.gp_sat.specs.Ranges.{place_of, is_odd, end_before, ranges_of, stored_at, stored, no_range, IsRange, AreRanges}

-- what the code of an attached clause says
place_is : (place : ℕ) (begin : Begin) → begin.code ≡ 2 * place + 1 → place_of begin ≡ place
place_is place begin is = omega (arith, is)

odd_is : (place : ℕ) (begin : Begin) → begin.code ≡ 2 * place + 1 → is_odd begin ≡ true
odd_is place begin is = eq-eqb (begin.code % 2) 1 (omega (arith, is))

-- what the code of a detached one says
place_stays : (old new : Begin) → new.code ≡ old.code / 2 * 2 → place_of new ≡ place_of old
place_stays old new is = omega (arith, is)

even_is : (old new : Begin) → new.code ≡ old.code / 2 * 2 → is_odd new ≡ false
even_is old new is = ne_eqb (new.code % 2) 1 (λ odd. omega (arith, is, odd))

-- each clause has a range
pub length_ranges : (total : ℕ) (begins : List Begin) → length (ranges_of total begins) ≡ length begins
length_ranges total [] = refl
length_ranges total (begin ∷ begins) = ap suc (length_ranges total begins)

range_at : (total : ℕ) (begins : List Begin) (number : ℕ) (begin : Begin) → number < length begins → begin ≡ get_or begins number begin
    → record { start = place_of begin; end = end_before total (drop (suc number) begins); attached = is_odd begin } ≡ get_or (ranges_of total begins) number no_range
range_at total [] number begin below is = absurd (omega (arith, below))
range_at total (first ∷ begins) zero begin below is = λ i. record { start = place_of (is i); end = end_before total begins; attached = is_odd (is i) }
range_at total (first ∷ begins) (suc number) begin below is = range_at total begins number begin (omega (arith, below)) is

pub range_made : (total : ℕ) (begins : List Begin) (number next start end : ℕ) (attached : Bool) (none : Begin) → number < length begins → next ≡ suc number → start ≡ place_of (get_or begins number none)
    → end ≡ end_before total (drop next begins) → attached ≡ is_odd (get_or begins number none) → record { start = start; end = end; attached = attached } ≡ get_or (ranges_of total begins) number no_range
range_made total begins number next start end attached none below next_is start_is end_is attached_is =
    let begin : Begin = get_or begins number none in
    let ends : end ≡ end_before total (drop (suc number) begins) = end_is ∙ ap (λ (n : ℕ). end_before total (drop n begins)) next_is in
    let same : ◌≡◌ {A = Range} (record { start = start; end = end; attached = attached }) (record { start = place_of begin; end = end_before total (drop (suc number) begins); attached = is_odd begin }) =
    λ i. record { start = start_is i; end = ends i; attached = attached_is i } in
    same ∙ range_at total begins number begin below (get_or_default begins number none begin below)

-- the clause before one more clause ends where this begins
end_stays : (total after : ℕ) (begins : List Begin) (new : Begin) → place_of new ≡ total → end_before after (begins ++ new ∷ []) ≡ end_before total begins
end_stays total after [] new same = same
end_stays total after (begin ∷ begins) new same = refl

ranges_more : (total after : ℕ) (begins : List Begin) (new : Begin) → new.code ≡ 2 * total + 1
    → ranges_of after (begins ++ new ∷ []) ≡ ranges_of total begins ++ record { start = total; end = after; attached = true } ∷ []
ranges_more total after [] new is = λ i. record { start = place_is total new is i; end = after; attached = odd_is total new is i } ∷ []
ranges_more total after (begin ∷ begins) new is = λ i. record { start = place_of begin; end = end_stays total after begins new (place_is total new is) i; attached = is_odd begin } ∷ ranges_more total after begins new is i

-- a clause that is detached keeps its range
end_set : (total : ℕ) (begins : List Begin) (number : ℕ) (old new : Begin) → old ≡ get_or begins number old → new.code ≡ old.code / 2 * 2 → end_before total (slice_set begins number new) ≡ end_before total begins
end_set total [] number old new same is = refl
end_set total (begin ∷ begins) zero old new same is = place_stays old new is ∙ ap (λ (b : Begin). place_of b) same
end_set total (begin ∷ begins) (suc number) old new same is = refl

ranges_set : (total : ℕ) (begins : List Begin) (number : ℕ) (old new : Begin) → old ≡ get_or begins number old → new.code ≡ old.code / 2 * 2
    → ranges_of total (slice_set begins number new) ≡ slice_set (ranges_of total begins) number (record (get_or (ranges_of total begins) number no_range) { attached = false })
ranges_set total [] number old new same is = refl
ranges_set total (begin ∷ begins) zero old new same is = λ i. record { start = (place_stays old new is ∙ ap (λ (b : Begin). place_of b) same) i; end = end_before total begins; attached = even_is old new is i } ∷ ranges_of total begins
ranges_set total (begin ∷ begins) (suc number) old new same is = λ i. record { start = place_of begin; end = end_set total begins number old new same is i; attached = is_odd begin } ∷ ranges_set total begins number old new same is i

-- a range of the literals stays where more follow
pub range_more : (literals more : List Lit) (start end : ℕ) → start ≤ end → end ≤ length literals → slice_range (literals ++ more) start end ≡ slice_range literals start end
range_more literals more start end rises within =
    ap (take (end - start)) (drop-append-le start literals more (omega (arith, rises, within)))
    ∙ take-append-le (end - start) (drop start literals) more (omega (arith, length-drop start literals, rises, within))

-- the last range
pub range_last : (literals more : List Lit) (end : ℕ) → end ≡ length (literals ++ more) → slice_range (literals ++ more) (length literals) end ≡ more
range_last literals more end is = ap (take (end - length literals)) (drop-append_seam literals more) ∙ take_all (end - length literals) more (omega (arith, is, length-append literals more))

range_kept : (literals more : List Lit) (range : Range) → IsRange literals range → IsRange (literals ++ more) range
range_kept literals more range old = record {
  rises = old.rises;
  within = omega (arith, old.within, length-append literals more);
  rising = subst (λ (lits : List Lit). IsRising lits) (sym (range_more literals more range.start range.end old.rises old.within)) old.rising;
}

-- one more clause behind the others
pub ranges_push : (literals more : List Lit) (ranges : List Range) (end : ℕ) → end ≡ length (literals ++ more) → IsRising more → AreRanges literals ranges
    → AreRanges (literals ++ more) (ranges ++ record { start = length literals; end = end; attached = true } ∷ [])
ranges_push literals more ranges end is rising old = λ number below. elim (cases_lt number (length ranges)) [
  | inl before ↦ subst (λ (r : Range). IsRange (literals ++ more) r) (sym (get_or_append_left ranges (new ∷ []) no_range number before)) (range_kept literals more (get_or ranges number no_range) (old number before))
  | inr past ↦ subst (λ (r : Range). IsRange (literals ++ more) r) (sym (get_or_push ranges new no_range number (omega (arith, past, below, length_push ranges new)))) (record {
    rises = omega (arith, is, length-append literals more);
    within = omega (arith, is);
    rising = subst (λ (lits : List Lit). IsRising lits) (sym (range_last literals more end is)) rising;
  })
]
  where
    new : Range
    new = record { start = length literals; end = end; attached = true }

stored_kept : (literals more : List Lit) (ranges : List Range) → AreRanges literals ranges → stored (literals ++ more) ranges ≡ stored literals ranges
stored_kept literals more [] old = refl
stored_kept literals more (r ∷ ranges) old =
    let first : IsRange literals r = old 0 (omega arith) in
    let same : stored_at (literals ++ more) r ≡ stored_at literals r = λ i. record { clause = (range_more literals more r.start r.end first.rises first.within) i; attached = r.attached } in
    let rest : stored (literals ++ more) ranges ≡ stored literals ranges = stored_kept literals more ranges (λ number below. old (suc number) (omega arith)) in
    λ i. same i ∷ rest i

stored_append : (literals : List Lit) (xs ys : List Range) → stored literals (xs ++ ys) ≡ stored literals xs ++ stored literals ys
stored_append literals [] ys = refl
stored_append literals (x ∷ xs) ys = ap (λ (zs : List Stored). stored_at literals x ∷ zs) (stored_append literals xs ys)

pub stored_push : (literals more : List Lit) (ranges : List Range) (end : ℕ) → end ≡ length (literals ++ more) → AreRanges literals ranges
    → stored (literals ++ more) (ranges ++ record { start = length literals; end = end; attached = true } ∷ []) ≡ stored literals ranges ++ record { clause = more; attached = true } ∷ []
stored_push literals more ranges end is old =
    stored_append (literals ++ more) ranges (record { start = length literals; end = end; attached = true } ∷ [])
    ∙ (λ i. stored_kept literals more ranges old i ++ record { clause = range_last literals more end is i; attached = true } ∷ [])

-- what a push makes of both arrays
pub pushed : (literals more literals_then : List Lit) (begins begins_then : List Begin) (new : Begin) → literals_then ≡ literals ++ more → begins_then ≡ begins ++ new ∷ []
    → new.code ≡ 2 * length literals + 1 → IsRising more → AreRanges literals (ranges_of (length literals) begins)
    → AreRanges literals_then (ranges_of (length literals_then) begins_then)
    × (stored literals_then (ranges_of (length literals_then) begins_then) ≡ stored literals (ranges_of (length literals) begins) ++ record { clause = more; attached = true } ∷ [])
pushed literals more literals_then begins begins_then new is begins_is code_is rising old =
    let end : ℕ = length literals_then in
    let ends : end ≡ length (literals ++ more) = ap (λ (xs : List Lit). length xs) is in
    let ranges : List Range = ranges_of (length literals) begins in
    let there : ranges_of end begins_then ≡ ranges ++ record { start = length literals; end = end; attached = true } ∷ [] = ap (ranges_of end) begins_is ∙ ranges_more (length literals) end begins new code_is in
    subst (λ (rs : List Range). AreRanges literals_then rs × (stored literals_then rs ≡ stored literals ranges ++ record { clause = more; attached = true } ∷ [])) (sym there)
    (subst (λ (xs : List Lit). AreRanges xs (ranges ++ record { start = length literals; end = end; attached = true } ∷ [])
    × (stored xs (ranges ++ record { start = length literals; end = end; attached = true } ∷ []) ≡ stored literals ranges ++ record { clause = more; attached = true } ∷ [])) (sym is)
    (ranges_push literals more ranges end ends rising old, stored_push literals more ranges end ends old))

stored_get : (literals : List Lit) (ranges : List Range) (number : ℕ) → get_or (stored literals ranges) number no_clause ≡ stored_at literals (get_or ranges number no_range)
stored_get literals [] number = refl
stored_get literals (r ∷ ranges) zero = refl
stored_get literals (r ∷ ranges) (suc number) = stored_get literals ranges number

-- a number below the clauses' count has a range
range_within : (literals : List Lit) (ranges : List Range) (list : List Stored) (number : ℕ) → stored literals ranges ≡ list → number < length list → number < length ranges
range_within literals ranges list number view within =
    omega (arith, within, ap (λ (xs : List Stored). length xs) view, length-map ranges (stored_at literals))

-- and begins
pub begin_within : (literals : List Lit) (total : ℕ) (begins : List Begin) (list : List Stored) (number : ℕ) → stored literals (ranges_of total begins) ≡ list → number < length list → number < length begins
begin_within literals total begins list number view within =
    omega (arith, range_within literals (ranges_of total begins) list number view within, length_ranges total begins)

-- there are as many clauses as begins
pub length_stored : (literals : List Lit) (total : ℕ) (begins : List Begin) → length (stored literals (ranges_of total begins)) ≡ length begins
length_stored literals total begins = length-map (ranges_of total begins) (stored_at literals) ∙ length_ranges total begins

-- whether the clause of a begin is attached
pub attached_read : (literals : List Lit) (total : ℕ) (begins : List Begin) (list : List Stored) (number : ℕ) (begin : Begin) → stored literals (ranges_of total begins) ≡ list → number < length list
    → begin ≡ get_or begins number begin → is_odd begin ≡ (get_or list number no_clause).attached
attached_read literals total begins list number begin view below is =
    ap (λ (r : Range). r.attached) (range_at total begins number begin (begin_within literals total begins list number view below) is)
    ∙ sym (ap (λ (x : Stored). x.attached) (stored_get literals (ranges_of total begins) number))
    ∙ ap (λ (xs : List Stored). (get_or xs number no_clause).attached) view

-- the range that is read under a number
range_among : (literals : List Lit) (begins read : List Begin) (total number : ℕ) (range : Range) → range ≡ get_or (ranges_of total read) number no_range → total ≡ length literals → read ≡ begins
    → range ≡ get_or (ranges_of (length literals) begins) number no_range
range_among literals begins read total number range is total_is read_is = is ∙ λ i. get_or (ranges_of (total_is i) (read_is i)) number no_range

pub range_read : (literals now : List Lit) (begins read : List Begin) (list : List Stored) (total number : ℕ) (range : Range) → stored literals (ranges_of (length literals) begins) ≡ list → number < length list
    → range ≡ get_or (ranges_of total read) number no_range → total ≡ length literals → read ≡ begins → now ≡ literals → AreRanges literals (ranges_of (length literals) begins) → IsRange now range
range_read literals now begins read list total number range view below is total_is read_is same ranged =
    subst (λ (xs : List Lit). IsRange xs range) (sym same)
    (subst (λ (r : Range). IsRange literals r) (sym (range_among literals begins read total number range is total_is read_is))
    (ranged number (range_within literals (ranges_of (length literals) begins) list number view below)))

-- the clause that lies in it
pub clause_read : (literals now : List Lit) (begins read : List Begin) (list : List Stored) (total number : ℕ) (range : Range) → stored literals (ranges_of (length literals) begins) ≡ list
    → range ≡ get_or (ranges_of total read) number no_range → total ≡ length literals → read ≡ begins → now ≡ literals → slice_range now range.start range.end ≡ clause_at list number
clause_read literals now begins read list total number range view is total_is read_is same =
    ap (λ (xs : List Lit). slice_range xs range.start range.end) same
    ∙ ap (λ (r : Range). slice_range literals r.start r.end) (range_among literals begins read total number range is total_is read_is)
    ∙ sym (ap (λ (x : Stored). x.clause) (stored_get literals (ranges_of (length literals) begins) number))
    ∙ ap (λ (xs : List Stored). clause_at xs number) view

-- a clause that is detached stays where it was
kept_set : (literals : List Lit) (ranges : List Range) (number : ℕ) → AreRanges literals ranges → AreRanges literals (slice_set ranges number (record (get_or ranges number no_range) { attached = false }))
kept_set literals ranges number old = λ other below.
    let within : other < length ranges = omega (arith, below, length-set ranges number new) in
    elim (cases_eq other number) [
      | inl same ↦
          let here : get_or (slice_set ranges number new) other no_range ≡ new = ap (λ (n : ℕ). get_or (slice_set ranges number new) n no_range) same ∙ get_or-set_same ranges number new no_range (omega (arith, within, same)) in
          let there : IsRange literals (get_or ranges number no_range) = old number (omega (arith, within, same)) in
          subst (λ (r : Range). IsRange literals r) (sym here) (record { rises = there.rises; within = there.within; rising = there.rising })
      | inr differ ↦ subst (λ (r : Range). IsRange literals r) (sym (get_or-set_other ranges number other new no_range differ)) (old other within)
    ]
  where
    new : Range
    new = record (get_or ranges number no_range) { attached = false }

pub kept_detached : (literals : List Lit) (total : ℕ) (begins : List Begin) (number : ℕ) (old new : Begin) → old ≡ get_or begins number old → new.code ≡ old.code / 2 * 2
    → AreRanges literals (ranges_of total begins) → AreRanges literals (ranges_of total (slice_set begins number new))
kept_detached literals total begins number old new same is ranged =
    subst (λ (rs : List Range). AreRanges literals rs) (sym (ranges_set total begins number old new same is)) (kept_set literals (ranges_of total begins) number ranged)

pub detached : (literals : List Lit) (total : ℕ) (begins : List Begin) (number : ℕ) (old new : Begin) → old ≡ get_or begins number old → new.code ≡ old.code / 2 * 2
    → stored literals (ranges_of total (slice_set begins number new)) ≡ slice_set (stored literals (ranges_of total begins)) number (record { clause = clause_at (stored literals (ranges_of total begins)) number; attached = false })
detached literals total begins number old new same is =
    let ranges : List Range = ranges_of total begins in
    ap (λ (rs : List Range). stored literals rs) (ranges_set total begins number old new same is)
    ∙ map-set (stored_at literals) ranges number (record (get_or ranges number no_range) { attached = false })
    ∙ ap (λ (lits : List Lit). slice_set (stored literals ranges) number (record { clause = lits; attached = false }))
    (sym (ap (λ (x : Stored). x.clause) (stored_get literals ranges number)))
