-- The words of a pattern: atoms, and `||` between two atoms of one group.
use Rattle.std.specs.Prelude.{ℕ, true, false, List, [], ◌∷◌, ◌++◌, Option, Some, None, if◌then◌else◌, codes}
use Rattle.std.specs.Str.{bytes_eq}
use Rattle.gp_property.specs.declared.property.Atom.{Atom}
use Rattle.gp_property.specs.declared.property.PatternStep.{PatternStep}
use Rattle.gp_property.specs.declared.pattern.PatternDraft.{PatternDraft}
use Rattle.gp_property.specs.Atom.{atom_of}

-- a pattern of which nothing is read yet
abbrev pub no_pattern : PatternDraft
no_pattern = record { steps = []; group = []; atom_due = true }

-- after a `||`, which has to follow an atom, an atom of the same group is due
abbrev pub with_bar : PatternDraft → Option PatternDraft
with_bar draft = if draft.atom_due then None else Some (record draft { atom_due = true })

-- an atom that is due joins the group; any other ends the group as a step, and begins the next one
abbrev pub with_atom : PatternDraft → Option Atom → Option PatternDraft
with_atom draft None = None
with_atom draft (Some atom) =
    if draft.atom_due then Some (record { steps = draft.steps; group = draft.group ++ atom ∷ []; atom_due = false })
    else Some (record { steps = draft.steps ++ (record { atoms = draft.group }) ∷ []; group = atom ∷ []; atom_due = false })

-- one word more
abbrev pub next_word : PatternDraft → List ℕ → Option PatternDraft
next_word draft word = if bytes_eq word (codes "||") then with_bar draft else with_atom draft (atom_of word)

-- what comes of the words that are left
abbrev pub if_drafted : Option PatternDraft → (PatternDraft → Option PatternDraft) → Option PatternDraft
if_drafted (Some draft) next = next draft
if_drafted None next = None

-- all words of a line, in order
abbrev pub draft_after : PatternDraft → List (List ℕ) → Option PatternDraft
draft_after draft [] = Some draft
draft_after draft (word ∷ words) = if_drafted (next_word draft word) (λ next. draft_after next words)

-- the last group ends the pattern, where no atom is due
abbrev pub finished : Option PatternDraft → Option (List PatternStep)
finished None = None
finished (Some draft) = if draft.atom_due then None else Some (draft.steps ++ (record { atoms = draft.group }) ∷ [])

-- the pattern that the words after `pattern` spell
abbrev pub pattern_of : List (List ℕ) → Option (List PatternStep)
pattern_of words = finished (draft_after no_pattern words)
