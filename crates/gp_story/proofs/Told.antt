-- A story tells each line once, and nothing more of it could be folded.
use Rattle.std.proofs.Common.{◌≡◌, refl, ap, sym, ◌∙◌, subst, inl, inr, Bool, true, false, List, [], ◌∷◌, ◌++◌, arith, eqb-true, length, map}
use Rattle.std.specs.Prelude.{◌&&◌, ◌==◌, Contains, if◌then◌else◌}
use Rattle.std.specs.List.{AllByRecursion, flat_map}
use Rattle.std.proofs.lemmas.Bool.{and_from, and_parts, eq-eqb, false≢true}
use Rattle.std.proofs.lemmas.List.{length_push}
use Rattle.gp_base.specs.ListLaws.{contains_from_map, first_or_rest, nothing_in, recursion_at}
use Rattle.gp_window.specs.WindowForm.{numbers_from, WindowForm}
use Rattle.gp_window.specs.declared.schedule.EventId.{EventId}
use Rattle.gp_story.specs.declared.story.Part.{Part}
use Rattle.gp_story.specs.declared.story.Part.TheVariants.{Single, Run}
use Rattle.gp_story.specs.declared.story.StoryLine.{StoryLine}
use Rattle.gp_story.specs.Laws.{IsRun, StandApart}
use Rattle.gp_story.specs.Lines.{lines_from}
use Rattle.gp_story.specs.Parts.{groups_of, is_quiet, lines_in, part_of, parts_of, stand_together, with_line}
use Rattle.gp_story.proofs.Folded.{AreTogether}

-- the lines of a group told as a part are those of the group
lines_kept : (group : List StoryLine) → lines_in (part_of group) ≡ group
lines_kept [] = refl
lines_kept (line ∷ []) = refl
lines_kept (line ∷ next ∷ lines) = refl

-- groups with one line before them, one after another
first_of_group : (line next : StoryLine) (lines : List StoryLine) (groups : List (List StoryLine)) (b : Bool)
    → flat_map lines_in (map part_of (if b then (line ∷ next ∷ lines) ∷ groups else (line ∷ []) ∷ (next ∷ lines) ∷ groups))
    ≡ line ∷ flat_map lines_in (map part_of ((next ∷ lines) ∷ groups))
first_of_group line next lines groups true = ap (λ own. line ∷ (own ++ flat_map lines_in (map part_of groups))) (sym (lines_kept (next ∷ lines)))
first_of_group line next lines groups false = refl

line_first : (line : StoryLine) (groups : List (List StoryLine)) → flat_map lines_in (map part_of (with_line line groups)) ≡ line ∷ flat_map lines_in (map part_of groups)
line_first line [] = refl
line_first line ([] ∷ groups) = refl
line_first line ((next ∷ lines) ∷ groups) = first_of_group line next lines groups (stand_together line next)

-- the lines of the parts are the lines
pub lines_again : (lines : List StoryLine) → flat_map lines_in (parts_of lines) ≡ lines
lines_again [] = refl
lines_again (line ∷ lines) = line_first line (groups_of lines) ∙ ap (λ rest. line ∷ rest) (lines_again lines)

-- each line is that of its event, and has its place
pub events_again : (window : WindowForm) (marked before ids : List EventId) → map (λ (line : StoryLine). line.event) (lines_from window marked before ids) ≡ ids
events_again window marked before [] = refl
events_again window marked before (id ∷ ids) = ap (λ rest. id ∷ rest) (events_again window marked (before ++ id ∷ []) ids)

pub places_again : (window : WindowForm) (marked before ids : List EventId) → map (λ (line : StoryLine). line.place) (lines_from window marked before ids) ≡ numbers_from (length before) (length ids)
places_again window marked before [] = refl
places_again window marked before (id ∷ ids) =
    ap (λ rest. length before ∷ rest)
    (places_again window marked (before ++ id ∷ []) ids ∙ ap (λ n. numbers_from n (length ids)) (length_push before id))

-- neighbours in a group stand together
together_at : (line next : StoryLine) (lines : List StoryLine) (groups : List (List StoryLine)) (b : Bool) → stand_together line next ≡ b
    → AllByRecursion AreTogether ((next ∷ lines) ∷ groups)
    → AllByRecursion AreTogether (if b then (line ∷ next ∷ lines) ∷ groups else (line ∷ []) ∷ (next ∷ lines) ∷ groups)
together_at line next lines groups true stand all = ((stand, all.0), all.1)
together_at line next lines groups false apart all = (tt, all)

together_with : (line : StoryLine) (groups : List (List StoryLine)) → AllByRecursion AreTogether groups → AllByRecursion AreTogether (with_line line groups)
together_with line [] all = (tt, tt)
together_with line ([] ∷ groups) all = (tt, all)
together_with line ((next ∷ lines) ∷ groups) all = together_at line next lines groups (stand_together line next) refl all

groups_together : (lines : List StoryLine) → AllByRecursion AreTogether (groups_of lines)
groups_together [] = tt
groups_together (line ∷ lines) = together_with line (groups_of lines) (groups_together lines)

-- no group is empty
abbrev HasLines : List StoryLine → Type 0
HasLines [] = ⊥
HasLines (line ∷ lines) = Unit {0}

filled_at : (line next : StoryLine) (lines : List StoryLine) (groups : List (List StoryLine)) (b : Bool)
    → AllByRecursion HasLines ((next ∷ lines) ∷ groups)
    → AllByRecursion HasLines (if b then (line ∷ next ∷ lines) ∷ groups else (line ∷ []) ∷ (next ∷ lines) ∷ groups)
filled_at line next lines groups true all = (tt, all.1)
filled_at line next lines groups false all = (tt, all)

filled_with : (line : StoryLine) (groups : List (List StoryLine)) → AllByRecursion HasLines groups → AllByRecursion HasLines (with_line line groups)
filled_with line [] all = (tt, tt)
filled_with line ([] ∷ groups) all = absurd all.0
filled_with line ((next ∷ lines) ∷ groups) all = filled_at line next lines groups (stand_together line next) all

groups_filled : (lines : List StoryLine) → AllByRecursion HasLines (groups_of lines)
groups_filled [] = tt
groups_filled (line ∷ lines) = filled_with line (groups_of lines) (groups_filled lines)

-- what standing together says
stand_told : (one other : StoryLine) → stand_together one other ≡ true → (is_quiet one ≡ true) × (is_quiet other ≡ true) × (one.event.thread ≡ other.event.thread)
stand_told one other stand =
    let parts = and_parts (is_quiet one && is_quiet other) (one.event.thread == other.event.thread) stand in
    let quiet = and_parts (is_quiet one) (is_quiet other) parts.0 in
    (quiet.0, quiet.1, eqb-true one.event.thread other.event.thread parts.1)

-- those that stand together with a quiet line are quiet, and of its thread
all_quiet : (first : StoryLine) (lines : List StoryLine) (line : StoryLine) → AreTogether (first ∷ lines) → is_quiet first ≡ true → Contains (first ∷ lines) line → is_quiet line ≡ true
all_quiet first [] line together quiet i =
    elim (first_or_rest first [] line i) [
      | inl same ↦ subst (λ l. is_quiet l ≡ true) same quiet
      | inr none ↦ absurd (nothing_in line none)
    ]
all_quiet first (next ∷ lines) line together quiet i =
    elim (first_or_rest first (next ∷ lines) line i) [
      | inl same ↦ subst (λ l. is_quiet l ≡ true) same quiet
      | inr rest ↦ all_quiet next lines line together.1 (stand_told first next together.0).1 rest
    ]

all_of_thread : (first : StoryLine) (lines : List StoryLine) (line : StoryLine) → AreTogether (first ∷ lines) → Contains (first ∷ lines) line → line.event.thread ≡ first.event.thread
all_of_thread first [] line together i =
    elim (first_or_rest first [] line i) [
      | inl same ↦ ap (λ (l : StoryLine). l.event.thread) (sym same)
      | inr none ↦ absurd (nothing_in line none)
    ]
all_of_thread first (next ∷ lines) line together i =
    elim (first_or_rest first (next ∷ lines) line i) [
      | inl same ↦ ap (λ (l : StoryLine). l.event.thread) (sym same)
      | inr rest ↦ all_of_thread next lines line together.1 rest ∙ sym (stand_told first next together.0).2
    ]

-- a group that is told as a run is one
run_told : (group run : List StoryLine) → AreTogether group → HasLines group → part_of group ≡ Run run → IsRun run
run_told [] run together filled is = absurd filled
run_told (line ∷ []) run together filled is =
    let found : ◌≡◌ {A = Part} (Single line) (Run run) = is in
    absurd (let never : ⊥ = cc in never)
run_told (line ∷ next ∷ lines) run together filled is =
    let found : ◌≡◌ {A = Part} (Run (line ∷ next ∷ lines)) (Run run) = is in
    let same : line ∷ next ∷ lines ≡ run = cc in
    let quiet : is_quiet line ≡ true = (stand_told line next together.0).0 in
    subst IsRun same (record {
      many = omega arith;
      quiet = λ one i. all_quiet line (next ∷ lines) one together quiet i;
      thread = λ one other i j. all_of_thread line (next ∷ lines) one together i ∙ sym (all_of_thread line (next ∷ lines) other together j);
    })

pub runs_told : (lines run : List StoryLine) → Contains (parts_of lines) (Run run) → IsRun run
runs_told lines run i =
    let back = contains_from_map part_of (groups_of lines) (Run run) i in
    run_told back.0 run (recursion_at AreTogether (groups_of lines) back.0 (groups_together lines) back.1)
    (recursion_at HasLines (groups_of lines) back.0 (groups_filled lines) back.1) back.2

-- the last line of one group and the first of the next do not stand together
abbrev AreParted : List StoryLine → List StoryLine → Type 0
AreParted one other = (front back : List StoryLine) (last first : StoryLine) → one ≡ front ++ last ∷ [] → other ≡ first ∷ back → stand_together last first ≡ false

abbrev AllParted : List (List StoryLine) → Type 0
AllParted [] = Unit {0}
AllParted (one ∷ []) = Unit {0}
AllParted (one ∷ other ∷ groups) = AreParted one other × AllParted (other ∷ groups)

not_alone : (front : List StoryLine) (last : StoryLine) → ◌≡◌ {A = List StoryLine} [] (front ++ last ∷ []) → ⊥
not_alone [] last is = cc
not_alone (line ∷ front) last is = cc

not_two : (line last next : StoryLine) (lines : List StoryLine) → line ∷ next ∷ lines ≡ last ∷ [] → ⊥
not_two line last next lines is = cc

-- a line alone before a group, with whose first line it does not stand together
parted_alone : (line next : StoryLine) (lines : List StoryLine) → stand_together line next ≡ false → AreParted (line ∷ []) (next ∷ lines)
parted_alone line next lines apart [] back last first is other =
    let here : line ≡ last = cc in
    let there : next ≡ first = cc in
    subst (λ l. stand_together l first ≡ false) here (subst (λ n. stand_together line n ≡ false) there apart)
parted_alone line next lines apart (head ∷ front) back last first is other =
    let none : ◌≡◌ {A = List StoryLine} [] (front ++ last ∷ []) = cc in
    absurd (not_alone front last none)

-- a group with one more line before it
parted_longer : (line next : StoryLine) (lines group : List StoryLine) → AreParted (next ∷ lines) group → AreParted (line ∷ next ∷ lines) group
parted_longer line next lines group parted [] back last first is other =
    absurd (not_two line last next lines is)
parted_longer line next lines group parted (head ∷ front) back last first is other =
    let rest : next ∷ lines ≡ front ++ last ∷ [] = cc in
    parted front back last first rest other

longer_first : (line next : StoryLine) (lines : List StoryLine) (groups : List (List StoryLine)) → AllParted ((next ∷ lines) ∷ groups) → AllParted ((line ∷ next ∷ lines) ∷ groups)
longer_first line next lines [] all = tt
longer_first line next lines (group ∷ groups) all = (parted_longer line next lines group all.0, all.1)

parted_at : (line next : StoryLine) (lines : List StoryLine) (groups : List (List StoryLine)) (b : Bool) → stand_together line next ≡ b → AllParted ((next ∷ lines) ∷ groups)
    → AllParted (if b then (line ∷ next ∷ lines) ∷ groups else (line ∷ []) ∷ (next ∷ lines) ∷ groups)
parted_at line next lines groups true stand all = longer_first line next lines groups all
parted_at line next lines groups false apart all = (parted_alone line next lines apart, all)

parted_with : (line : StoryLine) (groups : List (List StoryLine)) → AllByRecursion HasLines groups → AllParted groups → AllParted (with_line line groups)
parted_with line [] filled all = tt
parted_with line ([] ∷ groups) filled all = absurd filled.0
parted_with line ((next ∷ lines) ∷ groups) filled all = parted_at line next lines groups (stand_together line next) refl all

groups_parted : (lines : List StoryLine) → AllParted (groups_of lines)
groups_parted [] = tt
groups_parted (line ∷ lines) = parted_with line (groups_of lines) (groups_filled lines) (groups_parted lines)

-- lines that do not stand together are not both quiet and of one thread
apart_told : (last first : StoryLine) → stand_together last first ≡ false → is_quiet last ≡ true → is_quiet first ≡ true → last.event.thread ≡ first.event.thread → ⊥
apart_told last first apart one other same =
    false≢true (sym apart ∙ and_from (is_quiet last && is_quiet first) (last.event.thread == first.event.thread)
    (and_from (is_quiet last) (is_quiet first) one other) (eq-eqb last.event.thread first.event.thread same))

parted_parts : (one other : List StoryLine) → AreParted one other → StandApart (part_of one) (part_of other)
parted_parts one other parted front back last first is next quiet calm same =
    apart_told last first (parted front back last first (sym (lines_kept one) ∙ is) (sym (lines_kept other) ∙ next)) quiet calm same

no_parts : (front back : List Part) (one other : Part) → ◌≡◌ {A = List Part} [] (front ++ one ∷ other ∷ back) → ⊥
no_parts [] back one other is = cc
no_parts (part ∷ front) back one other is = cc

no_second : (part one other : Part) (back : List Part) → part ∷ [] ≡ one ∷ other ∷ back → ⊥
no_second part one other back is = cc

neighbours : (groups : List (List StoryLine)) (front back : List Part) (one other : Part) → AllParted groups → map part_of groups ≡ front ++ one ∷ other ∷ back → StandApart one other
neighbours [] front back one other all is = absurd (no_parts front back one other is)
neighbours (group ∷ []) [] back one other all is =
    absurd (no_second (part_of group) one other back is)
neighbours (group ∷ []) (part ∷ front) back one other all is =
    let none : ◌≡◌ {A = List Part} [] (front ++ one ∷ other ∷ back) = cc in
    absurd (no_parts front back one other none)
neighbours (group ∷ next ∷ groups) [] back one other all is =
    let here : part_of group ≡ one = cc in
    let there : part_of next ≡ other = cc in
    subst (λ (p : Part). StandApart p other) here (subst (λ (p : Part). StandApart (part_of group) p) there (parted_parts group next all.0))
neighbours (group ∷ next ∷ groups) (part ∷ front) back one other all is =
    let rest : map part_of (next ∷ groups) ≡ front ++ one ∷ other ∷ back = cc in
    neighbours (next ∷ groups) front back one other all.1 rest

pub parts_apart : (lines : List StoryLine) (front back : List Part) (one other : Part) → parts_of lines ≡ front ++ one ∷ other ∷ back → StandApart one other
parts_apart lines front back one other is = neighbours (groups_of lines) front back one other (groups_parted lines) is
