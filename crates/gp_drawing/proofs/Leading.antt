-- Arrows and bars lead down.
use Rattle.std.proofs.Common.{ℕ, zero, suc, ◌≡◌, ◌+◌, ◌<◌, ◌≤◌, refl, ap, sym, subst, ◌∙◌, inl, inr, arith, append_assoc, append-nil, Bool, true, false, List, [], ◌∷◌, ◌++◌, length, map, take}
use Rattle.std.specs.Prelude.{◌⊎◌, Contains, if◌then◌else◌, Option, Some, None, option_map, slice_get}
use Rattle.std.specs.List.{flat_map}
use Rattle.std.specs.Option.{option_or}
use Rattle.std.proofs.lemmas.List.{length-map, length_push}
use Rattle.std.proofs.lemmas.List.Elements.{Contains-append_cases}
use Rattle.std.proofs.lemmas.Option.{none-some, same_Some, slice_get-map, slice_get_within}
use Rattle.gp_base.specs.ListLaws.{contains_from_flat_map, contains_from_map, first_or_rest, here, nothing_in, Pairwise, pairwise_append, recursion_at, recursion_map, there}
use Rattle.gp_trace.specs.declared.lock_use.LockUse.{LockUse}
use Rattle.gp_trace.specs.declared.lock_use.LockUse.TheVariants.{Take, GiveBack}
use Rattle.gp_window.specs.Events.{event_at}
use Rattle.gp_window.specs.Holders.{Holding}
use Rattle.gp_window.specs.Ids.{is_same}
use Rattle.gp_window.specs.IdLaws.{same_id}
use Rattle.gp_window.specs.WindowForm.{held_at_start, WindowForm}
use Rattle.gp_window.specs.declared.schedule.EventId.{EventId}
use Rattle.gp_replay.specs.LockUses.{use_at}
use Rattle.gp_story.specs.Parts.{lines_in}
use Rattle.gp_story.specs.declared.story.Part.{Part}
use Rattle.gp_story.specs.declared.story.Part.TheVariants.{Single, Run}
use Rattle.gp_story.specs.declared.story.Source.{Source}
use Rattle.gp_story.specs.declared.story.Source.TheVariants.{Beginning, Earlier, Nothing}
use Rattle.gp_story.specs.declared.story.StoryLine.{StoryLine}
use Rattle.gp_drawing.specs.declared.bars.Placed.{Placed}
use Rattle.gp_drawing.specs.declared.drawing.Arrow.{Arrow}
use Rattle.gp_drawing.specs.declared.drawing.ArrowKind.{ArrowKind}
use Rattle.gp_drawing.specs.declared.drawing.ArrowKind.TheVariants as kinds
use Rattle.gp_drawing.specs.declared.drawing.Bar.{Bar}
use Rattle.gp_drawing.specs.Arrows.{arrow_between, arrow_from, arrows_from, arrows_to_line, earlier, kind_of, row_telling, tells_alone}
use Rattle.gp_drawing.specs.Bars.{bar_to, bars_from, bars_of_use, bars_with, gives_back, placed_at, placed_from, placed_in, row_given_back, start_bar}
use Rattle.gp_drawing.specs.Laws.{ComesFrom}
use Rattle.gp_drawing.specs.Rows.{row_of}

-- the row of each part
pub row_at : (parts : List Part) (row : ℕ) (part : Part) → slice_get parts row ≡ Some part → slice_get (map row_of parts) row ≡ Some (row_of part)
row_at parts row part is = slice_get-map row_of parts row ∙ ap (option_map row_of) is

-- a part that tells an event alone, at the row that is found for it
record Found (event : EventId) (row : ℕ) (parts : List Part) (found : ℕ) : Type 0 where
  pub place : ℕ
  pub line : StoryLine
  pub at : found ≡ row + place
  pub got : slice_get parts place ≡ Some (Single line)
  pub same : line.event ≡ event

first_found : (event : EventId) (row found : ℕ) (part : Part) (parts : List Part) → (if tells_alone event part then Some row else None) ≡ Some found → Found event row (part ∷ parts) found
first_found event row found (Run lines) parts is = absurd (none-some found is)
first_found event row found (Single line) parts is = by (is_same event line.event) refl is
  where
    by : (b : Bool) → is_same event line.event ≡ b → (if b then Some row else None) ≡ Some found → Found event row (Single line ∷ parts) found
    by true tells some = record {
      place = 0;
      line = line;
      at = sym (same_Some row found some) ∙ (let same : row ≡ row + 0 = omega arith in same);
      got = refl;
      same = sym (same_id event line.event tells);
    }
    by false tells some = absurd (none-some found some)

found_either : (later own : Option ℕ) (found : ℕ) → option_or later own ≡ Some found → (later ≡ Some found) ⊎ (own ≡ Some found)
found_either None own found is = inr is
found_either (Some n) own found is = inl is

row_found : (event : EventId) (row : ℕ) (parts : List Part) (found : ℕ) → row_telling event row parts ≡ Some found → Found event row parts found
row_found event row [] found is = absurd (none-some found is)
row_found event row (part ∷ parts) found is =
    elim (found_either (row_telling event (row + 1) parts) (if tells_alone event part then Some row else None) found is) [
      | inl later ↦
          let rest = row_found event (row + 1) parts found later in
          let place : found ≡ row + suc rest.place = omega (arith, rest.at) in
          record { place = suc rest.place; line = rest.line; at = place; got = rest.got; same = rest.same }
      | inr own ↦ first_found event row found part parts own
    ]

-- an arrow comes from the row of an event, and leads to a line that comes from that event
record Leads (before parts : List Part) (arrow : Arrow) : Type 0 where
  pub place : ℕ
  pub later : StoryLine
  pub event : EventId
  pub to : arrow.to ≡ length before + place
  pub got : slice_get parts place ≡ Some (Single later)
  pub from : row_telling event 0 (before ++ take place parts) ≡ Some arrow.from
  pub comes : ComesFrom later event

between_told : (found : Option ℕ) (to : ℕ) (kind : ArrowKind) (arrow : Arrow) → Contains (arrow_between found to kind) arrow → (found ≡ Some arrow.from) × (arrow.to ≡ to)
between_told None to kind arrow i = absurd (nothing_in arrow i)
between_told (Some from) to kind arrow i =
    elim (first_or_rest _ [] arrow i) [
      | inl same ↦ (ap (λ (a : Arrow). Some a.from) same, ap (λ (a : Arrow). a.to) (sym same))
      | inr none ↦ absurd (nothing_in arrow none)
    ]

from_told : (before : List Part) (found : Option EventId) (kind : ArrowKind) (arrow : Arrow) → Contains (arrow_from before found kind) arrow
    → (event : EventId) × (found ≡ Some event) × (row_telling event 0 before ≡ Some arrow.from) × (arrow.to ≡ length before)
from_told before None kind arrow i = absurd (nothing_in arrow i)
from_told before (Some event) kind arrow i =
    let told = between_told (row_telling event 0 before) (length before) kind arrow i in (event, refl, told.0, told.1)

earlier_told : (source : Source) (event : EventId) → earlier source ≡ Some event → source ≡ Earlier event
earlier_told (Earlier event) other is = ap Earlier (same_Some event other is)
earlier_told Beginning other is = absurd (none-some other is)
earlier_told Nothing other is = absurd (none-some other is)

-- an arrow to the row of the first of these parts
leads_to_first : (before parts : List Part) (line : StoryLine) (arrow : Arrow) (event : EventId) → row_telling event 0 before ≡ Some arrow.from → arrow.to ≡ length before
    → ComesFrom line event → Leads before (Single line ∷ parts) arrow
leads_to_first before parts line arrow event from to comes = record {
  place = 0;
  later = line;
  event = event;
  to = to ∙ (let same : length before ≡ length before + 0 = omega arith in same);
  got = refl;
  from = ap (row_telling event 0) (append-nil before) ∙ from;
  comes = comes;
}

line_leads : (window : WindowForm) (before parts : List Part) (line : StoryLine) (arrow : Arrow) → Contains (arrows_to_line window before line) arrow → Leads before (Single line ∷ parts) arrow
line_leads window before parts line arrow i =
    elim (Contains-append_cases (arrow_from before (earlier line.source) (kind_of (event_at window line.event))) (arrow_from before line.started_by kinds.Start) arrow i) [
      | inl looks ↦
          let told = from_told before (earlier line.source) (kind_of (event_at window line.event)) arrow looks in
          leads_to_first before parts line arrow told.0 told.2 told.3 (inl (earlier_told line.source told.0 told.1))
      | inr starts ↦
          let told = from_told before line.started_by kinds.Start arrow starts in
          leads_to_first before parts line arrow told.0 told.2 told.3 (inr told.1)
    ]

leads_later : (before parts : List Part) (part : Part) (arrow : Arrow) → Leads (before ++ part ∷ []) parts arrow → Leads before (part ∷ parts) arrow
leads_later before parts part arrow leads =
    let size = length_push before part in
    let to : arrow.to ≡ length before + suc leads.place = omega (arith, leads.to, size) in
    record {
      place = suc leads.place;
      later = leads.later;
      event = leads.event;
      to = to;
      got = leads.got;
      from = ap (row_telling leads.event 0) (sym (append_assoc before (part ∷ []) (take leads.place parts))) ∙ leads.from;
      comes = leads.comes;
    }

arrow_leads : (window : WindowForm) (before parts : List Part) (arrow : Arrow) → Contains (arrows_from window before parts) arrow → Leads before parts arrow
arrow_leads window before [] arrow i = absurd (nothing_in arrow i)
arrow_leads window before (Run lines ∷ parts) arrow i = leads_later before parts (Run lines) arrow (arrow_leads window (before ++ Run lines ∷ []) parts arrow i)
arrow_leads window before (Single line ∷ parts) arrow i =
    elim (Contains-append_cases (arrows_to_line window before line) (arrows_from window (before ++ Single line ∷ []) parts) arrow i) [
      | inl own ↦ line_leads window before parts line arrow own
      | inr later ↦ leads_later before parts (Single line) arrow (arrow_leads window (before ++ Single line ∷ []) parts arrow later)
    ]

-- what stands at a place of a front stands there in the whole, and before the front's end
got_in_front : {X : Type 0} (n place : ℕ) (xs : List X) (x : X) → slice_get (take n xs) place ≡ Some x → (slice_get xs place ≡ Some x) × (place < n)
got_in_front zero place xs x is = absurd (none-some x is)
got_in_front (suc n) place [] x is = absurd (none-some x is)
got_in_front (suc n) zero (first ∷ xs) x is = (is, omega arith)
got_in_front (suc n) (suc place) (first ∷ xs) x is = let rest = got_in_front n place xs x is in (rest.0, omega (arith, rest.1))

-- the two lines of an arrow
pub arrow_told : (window : WindowForm) (parts : List Part) (arrow : Arrow) → Contains (arrows_from window [] parts) arrow
    → (before after : StoryLine) × (slice_get parts arrow.from ≡ Some (Single before)) × (slice_get parts arrow.to ≡ Some (Single after)) × ComesFrom after before.event × (arrow.from < arrow.to)
arrow_told window parts arrow i =
    let leads = arrow_leads window [] parts arrow i in
    let found = row_found leads.event 0 (take leads.place parts) arrow.from leads.from in
    let front = got_in_front leads.place found.place parts (Single found.line) found.got in
    let from : found.place ≡ arrow.from = omega (arith, found.at) in
    let to : leads.place ≡ arrow.to = omega (arith, leads.to) in (
      found.line,
      leads.later,
      subst (λ n. slice_get parts n ≡ Some (Single found.line)) from front.0,
      subst (λ n. slice_get parts n ≡ Some (Single leads.later)) to leads.got,
      subst (ComesFrom leads.later) (sym found.same) leads.comes,
      omega (arith, front.1, from, to),
    )

pub arrow_down : (window : WindowForm) (parts : List Part) (arrow : Arrow) → Contains (arrows_from window [] parts) arrow → (arrow.from < arrow.to) × (arrow.to < length (map row_of parts))
arrow_down window parts arrow i =
    let told = arrow_told window parts arrow i in
    (told.5, omega (arith, slice_get_within parts arrow.to (Single told.1) told.3, length-map parts row_of))

-- the events of a part stand in its row
placed_here : (row : ℕ) (part : Part) (placed : Placed) → Contains (placed_in row part) placed → placed.row ≡ row
placed_here row part placed i =
    let told = contains_from_map (placed_at row) (lines_in part) placed i in
    ap (λ (p : Placed). p.row) (sym told.2)

-- those of parts stand in the rows from this one on
placed_within : (row : ℕ) (parts : List Part) (placed : Placed) → Contains (placed_from row parts) placed → (row ≤ placed.row) × (placed.row < row + length parts)
placed_within row [] placed i = absurd (nothing_in placed i)
placed_within row (part ∷ parts) placed i =
    elim (Contains-append_cases (placed_in row part) (placed_from (row + 1) parts) placed i) [
      | inl own ↦ let at = placed_here row part placed own in (omega (arith, at), omega (arith, at))
      | inr later ↦ let rest = placed_within (row + 1) parts placed later in (omega (arith, rest.0), omega (arith, rest.1))
    ]

-- a later event stands in no earlier row
abbrev NotBelow : Placed → Placed → Type 0
NotBelow one other = one.row ≤ other.row

rise_here : (row : ℕ) (lines : List StoryLine) → Pairwise NotBelow (map (placed_at row) lines)
rise_here row [] = tt
rise_here row (line ∷ lines) = (
  recursion_map (NotBelow (placed_at row line)) (placed_at row) lines (λ other i. omega arith),
  rise_here row lines,
)

placed_rise : (row : ℕ) (parts : List Part) → Pairwise NotBelow (placed_from row parts)
placed_rise row [] = tt
placed_rise row (part ∷ parts) =
    pairwise_append NotBelow (placed_in row part) (placed_from (row + 1) parts) (rise_here row (lines_in part)) (placed_rise (row + 1) parts)
    (λ one other i j.
    let first = placed_here row part one i in
    let second = placed_within (row + 1) parts other j in omega (arith, first, second.0))

-- a lock is given back at the row of one of the events
abbrev GivenBack : List Placed → ℕ → Type 0
GivenBack placed row = (one : Placed) × Contains placed one × (one.row ≡ row)

given_back_by : (first : Placed) (placed : List Placed) (later : Option ℕ) (row : ℕ) (b : Bool) → (if b then Some first.row else later) ≡ Some row
    → (later ≡ Some row → GivenBack placed row) → GivenBack (first ∷ placed) row
given_back_by first placed later row true is rest = (first, here first placed, same_Some first.row row is)
given_back_by first placed later row false is rest = let told = rest is in (told.0, there first placed told.0 told.1, told.2)

given_back_at : (window : WindowForm) (thread : ℕ) (lock : List ℕ) (placed : List Placed) (row : ℕ) → row_given_back window thread lock placed ≡ Some row → GivenBack placed row
given_back_at window thread lock [] row is = absurd (none-some row is)
given_back_at window thread lock (first ∷ placed) row is =
    given_back_by first placed (row_given_back window thread lock placed) row (gives_back window thread lock first.event) is (given_back_at window thread lock placed row)

-- the bar of an event that takes a lock
record BarOf (placed : Placed) (after : List Placed) (bar : Bar) : Type 0 where
  pub begins : bar.from ≡ Some placed.row
  pub ends : (to : ℕ) → bar.to ≡ Some to → GivenBack after to

bar_of_use : (window : WindowForm) (placed : Placed) (after : List Placed) (lock_use : Option LockUse) (bar : Bar) → Contains (bars_of_use window placed after lock_use) bar → BarOf placed after bar
bar_of_use window placed after (Some (Take mode lock)) bar i =
    elim (first_or_rest _ [] bar i) [
      | inl same ↦ record {
        begins = ap (λ (b : Bar). b.from) (sym same);
        ends = λ to is. given_back_at window placed.event.thread lock after to (ap (λ (b : Bar). b.to) same ∙ is);
      }
      | inr none ↦ absurd (nothing_in bar none)
    ]
bar_of_use window placed after (Some (GiveBack mode lock)) bar i = absurd (nothing_in bar i)
bar_of_use window placed after None bar i = absurd (nothing_in bar i)

bar_from : (window : WindowForm) (placed : List Placed) (bar : Bar) → Contains (bars_from window placed) bar → Pairwise NotBelow placed
    → (one : Placed) × (bar.from ≡ Some one.row) × ((to : ℕ) → bar.to ≡ Some to → (other : Placed) × Contains placed other × (other.row ≡ to) × (one.row ≤ to))
bar_from window [] bar i rise = absurd (nothing_in bar i)
bar_from window (first ∷ placed) bar i rise =
    elim (Contains-append_cases (bars_of_use window first placed (use_at window first.event)) (bars_from window placed) bar i) [
      | inl own ↦
          let told = bar_of_use window first placed (use_at window first.event) bar own in (
            first,
            told.begins,
            λ to is.
                let last = told.ends to is in
                let below : first.row ≤ last.0.row = recursion_at (NotBelow first) placed last.0 rise.0 last.1 in
                (last.0, there first placed last.0 last.1, last.2, omega (arith, below, last.2)),
          )
      | inr later ↦
          let told = bar_from window placed bar later rise.1 in
          (told.0, told.1, λ to is. let last = told.2 to is in (last.0, there first placed last.0 last.1, last.2, last.3))
    ]

-- a bar from the top
bar_at_start : (holding : Holding) (found : Option ℕ) (bar : Bar) → Contains (bar_to holding found) bar → (bar.from ≡ None) × (bar.to ≡ found)
bar_at_start holding None bar i = absurd (nothing_in bar i)
bar_at_start holding (Some row) bar i =
    elim (first_or_rest _ [] bar i) [
      | inl same ↦ (ap (λ (b : Bar). b.from) (sym same), ap (λ (b : Bar). b.to) (sym same))
      | inr none ↦ absurd (nothing_in bar none)
    ]

start_told : (window : WindowForm) (placed : List Placed) (bar : Bar) → Contains (flat_map (start_bar window placed) (held_at_start window)) bar
    → (bar.from ≡ None) × ((to : ℕ) → bar.to ≡ Some to → GivenBack placed to)
start_told window placed bar i =
    let of_one = contains_from_flat_map (start_bar window placed) (held_at_start window) bar i in
    let holding : Holding = of_one.0 in
    let told = bar_at_start holding (row_given_back window holding.0.1 holding.0.0 placed) bar of_one.2 in
    (told.0, λ to is. given_back_at window holding.0.1 holding.0.0 placed to (sym told.1 ∙ is))

pub bar_down : (window : WindowForm) (parts : List Part) (bar : Bar) (from to : ℕ) → Contains (bars_with window (placed_from 0 parts)) bar → bar.from ≡ Some from → bar.to ≡ Some to → from ≤ to
bar_down window parts bar from to i begins ends =
    let placed : List Placed = placed_from 0 parts in
    elim (Contains-append_cases (flat_map (start_bar window placed) (held_at_start window)) (bars_from window placed) bar i) [
      | inl held ↦ absurd (none-some from (sym (start_told window placed bar held).0 ∙ begins))
      | inr taken ↦
          let told = bar_from window placed bar taken (placed_rise 0 parts) in
          let first : told.0.row ≡ from = same_Some told.0.row from (sym told.1 ∙ begins) in
          omega (arith, first, (told.2 to ends).3)
    ]

pub bar_there : (window : WindowForm) (parts : List Part) (bar : Bar) (to : ℕ) → Contains (bars_with window (placed_from 0 parts)) bar → bar.to ≡ Some to → to < length (map row_of parts)
bar_there window parts bar to i ends =
    let placed : List Placed = placed_from 0 parts in
    elim (Contains-append_cases (flat_map (start_bar window placed) (held_at_start window)) (bars_from window placed) bar i) [
      | inl held ↦ let last = (start_told window placed bar held).1 to ends in within last.0 last.1 last.2
      | inr taken ↦ let last = (bar_from window placed bar taken (placed_rise 0 parts)).2 to ends in within last.0 last.1 last.2
    ]
  where
    within : (one : Placed) → Contains (placed_from 0 parts) one → one.row ≡ to → to < length (map row_of parts)
    within one j is = omega (arith, (placed_within 0 parts one j).1, is, length-map parts row_of)
