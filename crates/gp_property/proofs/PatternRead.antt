-- What is read as a pattern is its words.
use Rattle.std.proofs.Common.{◌≡◌, refl, sym, ap, ◌∙◌, ℕ, Bool, true, false, List, [], ◌∷◌, ◌++◌, append_assoc, append-nil, inl, inr}
use Rattle.std.specs.Prelude.{Option, Some, None, codes}
use Rattle.std.specs.List.{AllByRecursion}
use Rattle.std.specs.Str.{bytes_eq}
use Rattle.gp_property.specs.declared.pattern.PatternDraft.{PatternDraft}
use Rattle.gp_property.specs.declared.property.Atom.{Atom}
use Rattle.gp_property.specs.declared.property.PatternStep.{PatternStep}
use Rattle.gp_property.specs.Atom.{atom_of}
use Rattle.gp_property.specs.Property.{AreAtoms, AreSteps, IsAtom}
use Rattle.gp_property.specs.Pattern.{draft_after, finished, if_drafted, next_word, no_pattern, pattern_of, with_atom, with_bar}
use Rattle.gp_property.specs.Words.{atom_word, atoms_words, grouped_words, steps_words}
use Rattle.gp_property.proofs.AtomRead.{atom_read, Spelled}
use Rattle.gp_property.proofs.Bytes.{either, same_bytes}

-- the words of a group so far, and the `||` after which an atom is due
abbrev pending : Bool → List Atom → List (List ℕ)
pending true [] = []
pending true (atom ∷ atoms) = atoms_words (atom ∷ atoms) ++ codes "||" ∷ []
pending false group = atoms_words group

-- the atoms of a group so far; there is one unless the first atom is due
abbrev AreSome : Bool → List Atom → Type 0
AreSome true [] = Unit {0}
AreSome true (atom ∷ atoms) = AreAtoms (atom ∷ atoms)
AreSome false group = AreAtoms group

-- these words spell the draft
record IsDraft (draft : PatternDraft) (words : List (List ℕ)) : Type 0 where
  spells : words ≡ steps_words draft.steps ++ pending draft.atom_due draft.group
  steps : AllByRecursion (λ step. AreAtoms step.atoms) draft.steps
  group : AreSome draft.atom_due draft.group

grouped_more : (atoms : List Atom) (atom : Atom) → grouped_words (atoms ++ atom ∷ []) ≡ grouped_words atoms ++ (codes "||" ∷ atom_word atom ∷ [])
grouped_more [] atom = refl
grouped_more (first ∷ atoms) atom = ap (λ rest. codes "||" ∷ atom_word first ∷ rest) (grouped_more atoms atom)

-- an atom more in a group whose next atom is due
group_more : (group : List Atom) (atom : Atom) → atoms_words (group ++ atom ∷ []) ≡ pending true group ++ atom_word atom ∷ []
group_more [] atom = refl
group_more (first ∷ atoms) atom =
    ap (λ rest. atom_word first ∷ rest)
    (grouped_more atoms atom ∙ sym (append_assoc (grouped_words atoms) (codes "||" ∷ []) (atom_word atom ∷ [])))

all_atoms : (atoms : List Atom) (atom : Atom) → AllByRecursion IsAtom atoms → IsAtom atom → AllByRecursion IsAtom (atoms ++ atom ∷ [])
all_atoms [] atom are is = (is, tt)
all_atoms (first ∷ atoms) atom are is = (are.0, all_atoms atoms atom are.1 is)

some_more : (group : List Atom) (atom : Atom) → AreSome true group → IsAtom atom → AreAtoms (group ++ atom ∷ [])
some_more [] atom are is = (is, tt)
some_more (first ∷ atoms) atom are is = (are.0, all_atoms atoms atom are.1 is)

steps_more : (steps : List PatternStep) (step : PatternStep) → steps_words (steps ++ step ∷ []) ≡ steps_words steps ++ atoms_words step.atoms
steps_more [] step = append-nil (atoms_words step.atoms)
steps_more (first ∷ steps) step =
    ap (λ rest. atoms_words first.atoms ++ rest) (steps_more steps step) ∙ sym (append_assoc (atoms_words first.atoms) (steps_words steps) (atoms_words step.atoms))

all_steps : (steps : List PatternStep) (step : PatternStep) → AllByRecursion (λ other. AreAtoms other.atoms) steps → AreAtoms step.atoms
    → AllByRecursion (λ other. AreAtoms other.atoms) (steps ++ step ∷ [])
all_steps [] step are is = (is, tt)
all_steps (first ∷ steps) step are is = (are.0, all_steps steps step are.1 is)

some_steps : (steps : List PatternStep) (step : PatternStep) → AllByRecursion (λ other. AreAtoms other.atoms) steps → AreAtoms step.atoms → AreSteps (steps ++ step ∷ [])
some_steps [] step are is = (is, tt)
some_steps (first ∷ steps) step are is = (are.0, all_steps steps step are.1 is)

-- the group of a draft, where no atom is due
bar_group : (group : List Atom) → AreAtoms group → (pending true group ≡ atoms_words group ++ codes "||" ∷ []) × AreSome true group
bar_group [] are = absurd are
bar_group (atom ∷ atoms) are = (refl, are)

-- `||`
bar_read : (due : Bool) (steps : List PatternStep) (group : List Atom) (next : PatternDraft) (words : List (List ℕ)) (word : List ℕ)
    → word ≡ codes "||" → with_bar (record { steps = steps; group = group; atom_due = due }) ≡ Some next
    → IsDraft (record { steps = steps; group = group; atom_due = due }) words → IsDraft next (words ++ word ∷ [])
bar_read true steps group next words word bar e is = (cc)
bar_read false steps group next words word bar e is =
    let made : next ≡ record { steps = steps; group = group; atom_due = true } = cc in
    let barred = bar_group group is.group in
    rw (made, bar) (record {
      spells = ap (λ all. all ++ codes "||" ∷ []) is.spells ∙ append_assoc (steps_words steps) (atoms_words group) (codes "||" ∷ [])
          ∙ ap (λ rest. steps_words steps ++ rest) (sym barred.0);
      steps = is.steps;
      group = barred.1;
    })

-- an atom
atom_added : (due : Bool) (steps : List PatternStep) (group : List Atom) (atom : Atom) (next : PatternDraft) (words : List (List ℕ)) (word : List ℕ)
    → Spelled word atom → with_atom (record { steps = steps; group = group; atom_due = due }) (Some atom) ≡ Some next
    → IsDraft (record { steps = steps; group = group; atom_due = due }) words → IsDraft next (words ++ word ∷ [])
atom_added true steps group atom next words word spelled e is =
    let made : next ≡ record { steps = steps; group = group ++ atom ∷ []; atom_due = false } = cc in
    rw (made, spelled.0) (record {
      spells = ap (λ all. all ++ atom_word atom ∷ []) is.spells ∙ append_assoc (steps_words steps) (pending true group) (atom_word atom ∷ [])
          ∙ ap (λ rest. steps_words steps ++ rest) (sym (group_more group atom));
      steps = is.steps;
      group = some_more group atom is.group spelled.1;
    })
atom_added false steps group atom next words word spelled e is =
    let made : next ≡ record { steps = steps ++ (record { atoms = group }) ∷ []; group = atom ∷ []; atom_due = false } = cc in
    rw (made, spelled.0) (record {
      spells = ap (λ all. all ++ atom_word atom ∷ []) (is.spells ∙ sym (steps_more steps (record { atoms = group })));
      steps = all_steps steps (record { atoms = group }) is.steps is.group;
      group = (spelled.1, tt);
    })

atom_next : (draft next : PatternDraft) (read : Option Atom) (words : List (List ℕ)) (word : List ℕ)
    → atom_of word ≡ read → with_atom draft read ≡ Some next → IsDraft draft words → IsDraft next (words ++ word ∷ [])
atom_next draft next None words word read e is = (cc)
atom_next draft next (Some atom) words word read e is =
    atom_added draft.atom_due draft.steps draft.group atom next words word (atom_read word atom read) e is

word_next : (draft next : PatternDraft) (words : List (List ℕ)) (word : List ℕ) → next_word draft word ≡ Some next → IsDraft draft words → IsDraft next (words ++ word ∷ [])
word_next draft next words word e is =
    elim (either (bytes_eq word (codes "||")) (with_bar draft) (with_atom draft (atom_of word)) (Some next) e) [
      | inl bar ↦ bar_read draft.atom_due draft.steps draft.group next words word (same_bytes word (codes "||") bar.0) bar.1 is
      | inr atom ↦ atom_next draft next (atom_of word) words word refl atom.1 is
    ]

drafted_from : (first : Option PatternDraft) (rest : PatternDraft → Option PatternDraft) (last : PatternDraft) → if_drafted first rest ≡ Some last
    → (next : PatternDraft) × (first ≡ Some next) × (rest next ≡ Some last)
drafted_from None rest last e = (cc)
drafted_from (Some next) rest last e = (next, refl, e)

words_next : (draft last : PatternDraft) (before words : List (List ℕ)) → draft_after draft words ≡ Some last → IsDraft draft before → IsDraft last (before ++ words)
words_next draft last before [] e is =
    let made : last ≡ draft = cc in
    rw (made, append-nil before) is
words_next draft last before (word ∷ words) e is =
    let from = drafted_from (next_word draft word) (λ next. draft_after next words) last e in
    let here : IsDraft last ((before ++ word ∷ []) ++ words) =
    words_next from.0 last (before ++ word ∷ []) words from.2 (word_next draft from.0 before word from.1 is) in
    rw (append_assoc before (word ∷ []) words) at here

ended : (due : Bool) (steps : List PatternStep) (group : List Atom) (pattern : List PatternStep) (words : List (List ℕ))
    → finished (Some (record { steps = steps; group = group; atom_due = due })) ≡ Some pattern
    → IsDraft (record { steps = steps; group = group; atom_due = due }) words → (words ≡ steps_words pattern) × AreSteps pattern
ended true steps group pattern words e is = (cc)
ended false steps group pattern words e is =
    let made : pattern ≡ steps ++ (record { atoms = group }) ∷ [] = cc in
    rw made (is.spells ∙ sym (steps_more steps (record { atoms = group })), some_steps steps (record { atoms = group }) is.steps is.group)

finished_read : (draft : Option PatternDraft) (pattern : List PatternStep) (words : List (List ℕ)) → draft_after no_pattern words ≡ draft → finished draft ≡ Some pattern
    → (words ≡ steps_words pattern) × AreSteps pattern
finished_read None pattern words read e = (cc)
finished_read (Some draft) pattern words read e =
    ended draft.atom_due draft.steps draft.group pattern words e
    (words_next no_pattern draft [] words read (record { spells = refl; steps = tt; group = tt }))

pub pattern_read : (words : List (List ℕ)) (pattern : List PatternStep) → pattern_of words ≡ Some pattern → (words ≡ steps_words pattern) × AreSteps pattern
pattern_read words pattern e = finished_read (draft_after no_pattern words) pattern words refl e
