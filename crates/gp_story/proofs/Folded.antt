-- Lines that are folded one after another are the parts that they are to be.
use Rattle.std.proofs.Common.{◌≡◌, refl, ap, sym, ◌∙◌, subst, suc, ◌-◌, Bool, true, false, List, [], ◌∷◌, ◌++◌, append_assoc, arith, eqb-true, length, map}
use Rattle.std.specs.Prelude.{◌==◌, if◌then◌else◌, MatchOption, slice_get}
use Rattle.std.proofs.lemmas.Bool.{true≢false}
use Rattle.std.proofs.lemmas.List.{append-nil}
use Rattle.gp_story.specs.declared.folding.Folding.{Folding}
use Rattle.gp_story.specs.declared.story.Part.{Part}
use Rattle.gp_story.specs.declared.story.StoryLine.{StoryLine}
use Rattle.gp_story.specs.Folding.{after_lines, goes_on, with_group}
use Rattle.gp_story.specs.Parts.{groups_of, part_of, parts_of, stand_together, with_line}

-- each line stands together with the one after it
abbrev pub AreTogether : List StoryLine → Type 0
AreTogether [] = Unit {0}
AreTogether (line ∷ []) = Unit {0}
AreTogether (line ∷ next ∷ lines) = (stand_together line next ≡ true) × AreTogether (next ∷ lines)

-- one line more, which stands together with the last of them
grows : (lines : List StoryLine) (line : StoryLine) → AreTogether lines → goes_on lines line ≡ true → AreTogether (lines ++ line ∷ [])
grows [] line together goes = tt
grows (last ∷ []) line together goes = (goes, tt)
grows (first ∷ next ∷ lines) line together goes = (together.0, grows (next ∷ lines) line together.1 goes)

-- a line begins the first of the groups before which it is put
pub begins : (line : StoryLine) (groups : List (List StoryLine))
    → (lines : List StoryLine) × (rest : List (List StoryLine)) × (with_line line groups ≡ (line ∷ lines) ∷ rest)
begins line [] = ([], [], refl)
begins line ([] ∷ groups) = ([], [] ∷ groups, refl)
begins line ((next ∷ lines) ∷ groups) =
    elim (stand_together line next) as
    (λ b. (own : List StoryLine) × (rest : List (List StoryLine))
    × ((if b then (line ∷ next ∷ lines) ∷ groups else (line ∷ []) ∷ (next ∷ lines) ∷ groups) ≡ (line ∷ own) ∷ rest)) [
      | true ↦ (next ∷ lines, groups, refl)
      | false ↦ ([], (next ∷ lines) ∷ groups, refl)
    ]

-- lines that stand together, and then one that does not go on with them, are a group before the others
closes : (first : StoryLine) (group : List StoryLine) (line : StoryLine) (lines : List StoryLine) → AreTogether (first ∷ group) → goes_on (first ∷ group) line ≡ false
    → groups_of ((first ∷ group) ++ line ∷ lines) ≡ (first ∷ group) ∷ groups_of (line ∷ lines)
closes first [] line lines together stops =
    let head = begins line (groups_of lines) in
    ap (with_line first) head.2
    ∙ ap (λ b. if b then (first ∷ line ∷ head.0) ∷ head.1 else (first ∷ []) ∷ (line ∷ head.0) ∷ head.1) stops
    ∙ ap (λ groups. (first ∷ []) ∷ groups) (sym head.2)
closes first (next ∷ group) line lines together stops =
    ap (with_line first) (closes next group line lines together.1 stops)
    ∙ ap (λ b. if b then (first ∷ next ∷ group) ∷ groups_of (line ∷ lines) else (first ∷ []) ∷ (next ∷ group) ∷ groups_of (line ∷ lines)) together.0

-- lines that stand together are one group
alone : (first : StoryLine) (group : List StoryLine) → AreTogether (first ∷ group) → groups_of (first ∷ group) ≡ (first ∷ group) ∷ []
alone first [] together = refl
alone first (next ∷ group) together =
    ap (with_line first) (alone next group together.1)
    ∙ ap (λ b. if b then (first ∷ next ∷ group) ∷ [] else (first ∷ []) ∷ (next ∷ group) ∷ []) together.0

-- the last group at the end
closed_last : (parts : List Part) (group : List StoryLine) → AreTogether group → with_group parts group ≡ parts ++ parts_of (group ++ [])
closed_last parts [] together = sym (append-nil parts)
closed_last parts (first ∷ group) together =
    ap (λ groups. parts ++ map part_of groups) (sym (alone first group together)) ∙ ap (λ lines. parts ++ parts_of lines) (sym (append-nil (first ∷ group)))

-- the last group before a line that does not go on with it
closed_before : (parts : List Part) (group : List StoryLine) (line : StoryLine) (lines : List StoryLine) → AreTogether group → goes_on group line ≡ false
    → with_group parts group ++ parts_of (line ∷ lines) ≡ parts ++ parts_of (group ++ line ∷ lines)
closed_before parts [] line lines together stops = refl
closed_before parts (first ∷ group) line lines together stops =
    append_assoc parts (part_of (first ∷ group) ∷ []) (parts_of (line ∷ lines))
    ∙ ap (λ groups. parts ++ map part_of groups) (sym (closes first group line lines together stops))

-- what is folded of lines, after parts and with a last group
abbrev pub folded_from : Folding → List Part
folded_from folding = with_group folding.parts folding.group

one_more : (parts : List Part) (group : List StoryLine) (line : StoryLine) (lines : List StoryLine) (b : Bool) → AreTogether group → goes_on group line ≡ b
    → ((before : List Part) (own : List StoryLine) → AreTogether own → folded_from (after_lines (record { parts = before; group = own }) lines) ≡ before ++ parts_of (own ++ lines))
    → folded_from (after_lines (if b then record { parts = parts; group = group ++ line ∷ [] } else record { parts = with_group parts group; group = line ∷ [] }) lines)
    ≡ parts ++ parts_of (group ++ line ∷ lines)
one_more parts group line lines true together goes rest =
    rest parts (group ++ line ∷ []) (grows group line together goes) ∙ ap (λ all. parts ++ parts_of all) (append_assoc group (line ∷ []) lines)
one_more parts group line lines false together stops rest =
    rest (with_group parts group) (line ∷ []) tt ∙ closed_before parts group line lines together stops

-- all lines folded are the parts, and those of the last group with the lines behind it
pub folded : (parts : List Part) (group lines : List StoryLine) → AreTogether group
    → folded_from (after_lines (record { parts = parts; group = group }) lines) ≡ parts ++ parts_of (group ++ lines)
folded parts group [] together = closed_last parts group together
folded parts group (line ∷ lines) together =
    one_more parts group line lines (goes_on group line) together refl (λ before own rest. folded before own lines rest)

-- whether a line goes on with lines is told by the last of them
pub goes_on_last : (lines : List StoryLine) (line : StoryLine)
    → MatchOption (slice_get lines (length lines - 1)) (goes_on lines line ≡ false) (λ last. goes_on lines line ≡ stand_together last line)
goes_on_last [] line = refl
goes_on_last (last ∷ []) line = refl
goes_on_last (first ∷ next ∷ lines) line =
    let place : length (first ∷ next ∷ lines) - 1 ≡ suc (length (next ∷ lines) - 1) = omega arith in
    subst (λ n. MatchOption (slice_get (first ∷ next ∷ lines) n) (goes_on (next ∷ lines) line ≡ false) (λ last. goes_on (next ∷ lines) line ≡ stand_together last line))
    (sym place) (goes_on_last (next ∷ lines) line)

-- the parts with a group that has no lines, and with one that has
pub empty_group : (parts : List Part) (group : List StoryLine) → (length group == 0) ≡ true → parts ≡ with_group parts group
empty_group parts [] none = refl
empty_group parts (line ∷ group) none = let no : length (line ∷ group) ≡ 0 = eqb-true (length (line ∷ group)) 0 none in absurd (omega (arith, no))

pub filled_group : (parts : List Part) (group : List StoryLine) → (length group == 0) ≡ false → parts ++ part_of group ∷ [] ≡ with_group parts group
filled_group parts [] some = absurd (true≢false some)
filled_group parts (line ∷ group) some = refl

-- all lines folded, from no parts on
pub folded_all : (lines : List StoryLine) (folding : Folding) → folding ≡ after_lines (record { parts = []; group = [] }) lines
    → with_group folding.parts folding.group ≡ parts_of lines
folded_all lines folding is = ap folded_from is ∙ folded [] [] lines tt
