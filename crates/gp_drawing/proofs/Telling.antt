-- What the table of the events that are told alone tells.
use Rattle.std.proofs.Common.{ℕ, ◌≡◌, ◌+◌, ◌<◌, refl, ap, sym, subst, ◌∙◌, arith, cond, Bool, true, false, List, [], ◌∷◌, ◌++◌, get_or, length, take}
use Rattle.std.specs.Prelude.{◌==◌, if◌then◌else◌, Option, Some, None}
use Rattle.std.specs.BTreeMap.{is_at}
use Rattle.std.specs.Cmp.{both_tied, IsTotalOrder, unsigned_tied}
use Rattle.std.specs.Option.{option_or}
use Rattle.std.specs.Ordering.{nat_cmp}
use Rattle.std.proofs.lemmas.Cmp.{nat_cmp_total, on_total, then_total}
use Rattle.std.proofs.lemmas.List.{length-take-le, take_more}
use Rattle.gp_base.specs.Table.{value_at}
use Rattle.gp_base.specs.TableLaws.{value_after_put}
use Rattle.gp_window.specs.Ids.{is_same}
use Rattle.gp_window.specs.declared.schedule.EventId.{EventId}
use Rattle.gp_story.specs.declared.story.Part.{Part}
use Rattle.gp_story.specs.declared.story.Part.TheVariants.{Single, Run}
use Rattle.gp_drawing.specs.Arrows.{row_telling, tells_alone}
use Rattle.gp_drawing.specs.Singles.{key_cmp, Singles, TellsSingles, with_part}

key_total : IsTotalOrder key_cmp
key_total = then_total (on_total (λ (key : ℕ × ℕ). key.0) nat_cmp_total) (on_total (λ (key : ℕ × ℕ). key.1) nat_cmp_total)

-- keys tie where the events are one
keys_tied : (one other : EventId) → is_at (key_cmp (one.thread, one.index)) (other.thread, other.index) ≡ is_same one other
keys_tied one other =
    sym (both_tied (one.thread == other.thread) (one.index == other.index) (nat_cmp one.thread other.thread) (nat_cmp one.index other.index)
    (sym (unsigned_tied one.thread other.thread)) (sym (unsigned_tied one.index other.index)))

later_first : (b : Bool) (later here : Option ℕ) (n m : ℕ) → n ≡ m → option_or (if b then Some n else later) here ≡ (if b then Some m else option_or later here)
later_first true later here n m same = ap Some same
later_first false later here n m same = refl

-- the row of an event after one part more
row_more : (event : EventId) (row : ℕ) (parts : List Part) (part : Part)
    → row_telling event row (parts ++ part ∷ []) ≡ (if tells_alone event part then Some (row + length parts) else row_telling event row parts)
row_more event row [] part =
    let same : row ≡ row + 0 = omega arith in
    ap (λ n. if tells_alone event part then Some n else None) same
row_more event row (first ∷ parts) part =
    let here : Option ℕ = if tells_alone event first then Some row else None in
    let same : row + 1 + length parts ≡ row + length (first ∷ parts) = omega arith in
    ap (λ later. option_or later here) (row_more event (row + 1) parts part)
    ∙ later_first (tells_alone event part) (row_telling event (row + 1) parts) here (row + 1 + length parts) (row + length (first ∷ parts)) same

-- before the first part nothing is told
pub tells_none : TellsSingles [] []
tells_none = record { row = λ event. refl }

-- the table of one part more
tells_more : (before : List Part) (part : Part) (singles : Singles) (row : ℕ) → row ≡ length before → TellsSingles before singles → TellsSingles (before ++ part ∷ []) (with_part singles row part)
tells_more before (Run lines) singles row is tells = record { row = λ event. tells.row event ∙ sym (row_more event 0 before (Run lines)) }
tells_more before (Single line) singles row is tells = record {
  row = λ event.
      let place : row ≡ 0 + length before = omega arith in
      value_after_put key_total singles (line.event.thread, line.event.index) (event.thread, event.index) row
      ∙ ap (λ b. cond b (Some row) (value_at key_cmp singles (event.thread, event.index))) (keys_tied event line.event)
      ∙ ap (cond (is_same event line.event) (Some row)) (tells.row event)
      ∙ ap (λ n. cond (is_same event line.event) (Some n) (row_telling event 0 before)) place
      ∙ sym (row_more event 0 before (Single line));
}

-- so with the next part of a story
pub tells_next : (parts : List Part) (part : Part) (singles next : Singles) (row : ℕ) → row < length parts → part ≡ get_or parts row part
    → next ≡ with_part singles row part → TellsSingles (take row parts) singles → TellsSingles (take (row + 1) parts) next
tells_next parts part singles next row below is made tells =
    let longer : take (row + 1) parts ≡ take row parts ++ part ∷ [] =
    take_more parts row part below ∙ ap (λ last. take row parts ++ last ∷ []) (sym is) in
    let size : row ≡ length (take row parts) = sym (length-take-le row parts (omega arith)) in
    subst (λ (before : List Part). TellsSingles before next) (sym longer)
    (subst (TellsSingles (take row parts ++ part ∷ [])) (sym made) (tells_more (take row parts) part singles row size tells))
