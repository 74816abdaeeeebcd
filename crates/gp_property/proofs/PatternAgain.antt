-- The words of a pattern are read as this pattern.
use Rattle.std.proofs.Common.{◌≡◌, refl, sym, ap, ◌∙◌, ℕ, true, false, List, [], ◌∷◌, ◌++◌, append_assoc, append-nil}
use Rattle.std.specs.Prelude.{Some, codes}
use Rattle.std.specs.List.{AllByRecursion}
use Rattle.gp_property.specs.declared.pattern.PatternDraft.{PatternDraft}
use Rattle.gp_property.specs.declared.property.Atom.{Atom}
use Rattle.gp_property.specs.declared.property.PatternStep.{PatternStep}
use Rattle.gp_property.specs.Atom.{atom_of}
use Rattle.gp_property.specs.Property.{AreAtoms, AreSteps, IsAtom}
use Rattle.gp_property.specs.Pattern.{draft_after, finished, if_drafted, next_word, no_pattern, pattern_of, with_atom}
use Rattle.gp_property.specs.Words.{atom_word, atoms_words, grouped_words, steps_words}
use Rattle.gp_property.proofs.AtomAgain.{atom_again}
use Rattle.gp_property.proofs.Bytes.{other_word}

-- the draft of these steps and this group, with the next atom due or not
abbrev pub due : List PatternStep → List Atom → PatternDraft
due steps group = record { steps = steps; group = group; atom_due = true }

abbrev pub free : List PatternStep → List Atom → PatternDraft
free steps group = record { steps = steps; group = group; atom_due = false }

-- the word of an atom adds the atom
atom_next : (draft : PatternDraft) (atom : Atom) → IsAtom atom → next_word draft (atom_word atom) ≡ with_atom draft (Some atom)
atom_next draft atom is =
    rw (other_word atom_of (codes "||") (atom_word atom) atom refl (atom_again atom is), atom_again atom is) refl

after_atom : (draft next : PatternDraft) (atom : Atom) (words : List (List ℕ)) → IsAtom atom → with_atom draft (Some atom) ≡ Some next
    → draft_after draft (atom_word atom ∷ words) ≡ draft_after next words
after_atom draft next atom words is added =
    ap (λ drafted. if_drafted drafted (λ later. draft_after later words)) (atom_next draft atom is ∙ added)

-- the further atoms of a group join it
group_again : (steps : List PatternStep) (group atoms : List Atom) (rest : List (List ℕ)) → AllByRecursion IsAtom atoms
    → draft_after (free steps group) (grouped_words atoms ++ rest) ≡ draft_after (free steps (group ++ atoms)) rest
group_again steps group [] rest is = ap (λ atoms. draft_after (free steps atoms) rest) (sym (append-nil group))
group_again steps group (atom ∷ atoms) rest is =
    after_atom (due steps group) (free steps (group ++ atom ∷ [])) atom (grouped_words atoms ++ rest) is.0 refl
    ∙ group_again steps (group ++ atom ∷ []) atoms rest is.1
    ∙ ap (λ all. draft_after (free steps all) rest) (append_assoc group (atom ∷ []) atoms)

-- the atoms of the next step end the group
step_again : (steps : List PatternStep) (group atoms : List Atom) (rest : List (List ℕ)) → AreAtoms atoms
    → draft_after (free steps group) (atoms_words atoms ++ rest) ≡ draft_after (free (steps ++ (record { atoms = group }) ∷ []) atoms) rest
step_again steps group [] rest is = absurd is
step_again steps group (atom ∷ atoms) rest is =
    after_atom (free steps group) (free (steps ++ (record { atoms = group }) ∷ []) (atom ∷ [])) atom (grouped_words atoms ++ rest) is.0 refl
    ∙ group_again (steps ++ (record { atoms = group }) ∷ []) (atom ∷ []) atoms rest is.1

steps_again : (steps : List PatternStep) (group : List Atom) (more : List PatternStep) → AllByRecursion (λ step. AreAtoms step.atoms) more
    → finished (draft_after (free steps group) (steps_words more)) ≡ Some (steps ++ (record { atoms = group }) ∷ more)
steps_again steps group [] is = refl
steps_again steps group (step ∷ more) is =
    ap finished (step_again steps group step.atoms (steps_words more) is.0)
    ∙ steps_again (steps ++ (record { atoms = group }) ∷ []) step.atoms more is.1
    ∙ ap Some (append_assoc steps ((record { atoms = group }) ∷ []) (step ∷ more))

first_again : (atoms : List Atom) (more : List PatternStep) → AreAtoms atoms → AllByRecursion (λ step. AreAtoms step.atoms) more
    → finished (draft_after no_pattern (atoms_words atoms ++ steps_words more)) ≡ Some ((record { atoms = atoms }) ∷ more)
first_again [] more is rest = absurd is
first_again (atom ∷ atoms) more is rest =
    ap finished (after_atom no_pattern (free [] (atom ∷ [])) atom (grouped_words atoms ++ steps_words more) is.0 refl
    ∙ group_again [] (atom ∷ []) atoms (steps_words more) is.1)
    ∙ steps_again [] (atom ∷ atoms) more rest

pub pattern_again : (pattern : List PatternStep) → AreSteps pattern → pattern_of (steps_words pattern) ≡ Some pattern
pattern_again [] is = absurd is
pattern_again (step ∷ more) is = first_again step.atoms more is.0 is.1
