-- The words of a property are plain, and its lines are not too long.
use Rattle.std.proofs.Common.{◌≡◌, refl, ℕ, ◌+◌, ◌*◌, ◌<◌, ◌≤◌, ◌^◌, true, false, List, [], ◌∷◌, ◌++◌, length, map, arith, lit≤, length-append, append-nil, decimal}
use Rattle.std.specs.Prelude.{Option, Some, None, codes, nat_lt}
use Rattle.std.specs.List.{AllByRecursion, list_all, list_any}
use Rattle.std.proofs.lemmas.List.Sums.{sum_by-cons}
use Rattle.std.proofs.lemmas.Bool.{and_from, and_parts, or_parts, ltb-false}
use Rattle.std.proofs.lemmas.Bool.Decides.{nat_tests}
use Rattle.std.proofs.lemmas.Fmt.{decimal_digit}
use Rattle.std.proofs.lemmas.List.{length-map}
use Rattle.std.proofs.lemmas.List.Folds.{list_all-append}
use Rattle.gp_text.specs.Line.{is_word}
use Rattle.gp_text.specs.Lines.{is_passed_over}
use Rattle.gp_text.specs.Name.{is_name}
use Rattle.gp_text.specs.Spelling.{after_words, is_plain, is_plain_word, IsPlainLine, IsShortWord, PlainWords}
use Rattle.gp_property.specs.declared.property.Atom.{Atom}
use Rattle.gp_property.specs.declared.property.EventDef.{EventDef}
use Rattle.gp_property.specs.declared.property.PatternStep.{PatternStep}
use Rattle.gp_property.specs.PropertyForm.{PropertyForm}
use Rattle.gp_property.specs.declared.property.Shape.{Shape}
use Rattle.gp_property.specs.declared.property.Shape.TheVariants.{Read, Write, Acquire, Release, Start, Join, Op, Begin, End}
use Rattle.gp_property.specs.declared.property.Term.{Term}
use Rattle.gp_property.specs.declared.property.Term.TheVariants as term
use Rattle.gp_property.specs.declared.property.ThreadTerm.{ThreadTerm}
use Rattle.gp_property.specs.declared.property.ThreadTerm.TheVariants as thread
use Rattle.gp_property.specs.declared.property.ValueTerm.{ValueTerm}
use Rattle.gp_property.specs.declared.property.ValueTerm.TheVariants as value
use Rattle.gp_property.specs.Atoms.{atom_count}
use Rattle.gp_property.specs.Checks.{is_wide}
use Rattle.gp_property.specs.Property.{AreAtoms, AreSteps, IsAtom, IsEvent, IsMarked, IsProperty, IsShape, IsTerm, IsThread, IsValue}
use Rattle.gp_property.specs.Words.{atom_word, atoms_words, event_words, grouped_words, mark_word, pattern_words, property_lines, shape_words, steps_words, term_word, thread_word, value_word}

both_short : (xs ys : List (List ℕ)) → AllByRecursion IsShortWord xs → AllByRecursion IsShortWord ys → AllByRecursion IsShortWord (xs ++ ys)
both_short [] ys first second = second
both_short (x ∷ xs) ys first second = (first.0, both_short xs ys first.1 second)

-- names, terms, values and threads
name_short : PlainWords → (name : List ℕ) → is_name name ≡ true → IsShortWord name
name_short plain name is = record { plain = (plain.names name is).0; short = omega (arith, (plain.names name is).1) }

term_short : PlainWords → (t : Term) → IsTerm t → IsShortWord (term_word t)
term_short plain (term.Is name) is = name_short plain name is
term_short plain (term.Param name) is = record {
  plain = (and_parts (is_word name) (list_all is_plain name) (plain.names name is).0).1;
  short = omega (arith, (plain.names name is).1);
}
term_short plain term.Any is = record { plain = refl; short = lit≤ tt }

terms_short : PlainWords → (terms : List Term) → AllByRecursion IsTerm terms → AllByRecursion IsShortWord (map term_word terms)
terms_short plain [] are = tt
terms_short plain (t ∷ terms) are = (term_short plain t are.0, terms_short plain terms are.1)

value_short : PlainWords → (v : ValueTerm) → IsValue v → IsShortWord (value_word v)
value_short plain (value.Is z) is = record { plain = (plain.signed z is).0; short = omega (arith, (plain.signed z is).1) }
value_short plain value.Any is = record { plain = refl; short = lit≤ tt }

number_short : PlainWords → (n : ℕ) → n < 2 ^ 32 → IsShortWord (decimal n)
number_short plain n lt = record { plain = (plain.numbers n (omega arith)).0; short = omega (arith, (plain.numbers n (omega arith)).1) }

thread_short : PlainWords → (t : ThreadTerm) → IsThread t → IsShortWord (thread_word t)
thread_short plain (thread.Is n) is = number_short plain n is
thread_short plain thread.Any is = record { plain = refl; short = lit≤ tt }

keyword : (word : List ℕ) → is_plain_word word ≡ true → length word ≤ 80 → IsShortWord word
keyword word plain short = record { plain = plain; short = short }

shape_short : PlainWords → (shape : Shape) → IsShape shape → AllByRecursion IsShortWord (shape_words shape)
shape_short plain (Read name v) is = (keyword (codes "read") refl (lit≤ tt), (term_short plain name is.0, (value_short plain v is.1, tt)))
shape_short plain (Write name v) is = (keyword (codes "write") refl (lit≤ tt), (term_short plain name is.0, (value_short plain v is.1, tt)))
shape_short plain (Acquire name) is = (keyword (codes "acquire") refl (lit≤ tt), (term_short plain name is, tt))
shape_short plain (Release name) is = (keyword (codes "release") refl (lit≤ tt), (term_short plain name is, tt))
shape_short plain (Start t) is = (keyword (codes "start") refl (lit≤ tt), (thread_short plain t is, tt))
shape_short plain (Join t) is = (keyword (codes "join") refl (lit≤ tt), (thread_short plain t is, tt))
shape_short plain (Op name objects) is = (keyword (codes "op") refl (lit≤ tt), (name_short plain name is.0, terms_short plain objects is.2))
shape_short plain (Begin name) is = (keyword (codes "begin") refl (lit≤ tt), (term_short plain name is, tt))
shape_short plain (End name) is = (keyword (codes "end") refl (lit≤ tt), (term_short plain name is, tt))

-- the mark of an atom
record IsMark (bytes : List ℕ) : Type 0 where
  plain : list_all is_plain bytes ≡ true
  short : length bytes ≤ 2

digit_mark : (mark n : ℕ) → is_plain mark ≡ true → n ≤ 9 → IsMark (mark_word mark (Some n))
digit_mark mark n plain high =
    let digits : decimal n ≡ (48 + n) ∷ [] = decimal_digit n (omega arith) in
    let digit : is_plain (48 + n) ≡ true = grind (arith, nat_tests) in
    rw digits (record { plain = and_from _ _ plain (and_from _ _ digit refl); short = lit≤ tt })

no_mark : (mark : ℕ) → IsMark (mark_word mark None)
no_mark mark = record { plain = refl; short = lit≤ tt }

marks_short : (opens closes : Option ℕ) → IsMarked opens closes → IsMark (mark_word 60 opens ++ mark_word 62 closes)
marks_short None None is = no_mark 60
marks_short (Some n) None is =
    let one : IsMark (mark_word 60 (Some n)) = digit_mark 60 n refl is.1 in
    rw append-nil one
marks_short None (Some n) is = digit_mark 62 n refl is.1
marks_short (Some n) (Some m) is = absurd is

-- the bytes of a plain word, and more plain bytes
plain_append : (xs ys : List ℕ) → list_all is_plain xs ≡ true → list_all is_plain ys ≡ true → list_all is_plain (xs ++ ys) ≡ true
plain_append xs ys first second = rw (list_all-append, first, second) refl

plain_longer : (word more : List ℕ) → is_plain_word word ≡ true → list_all is_plain more ≡ true → is_plain_word (word ++ more) ≡ true
plain_longer [] more plain rest = (cc)
plain_longer (b ∷ bytes) more plain rest = plain_append (b ∷ bytes) more plain rest

plain_bytes : (word : List ℕ) → is_plain_word word ≡ true → list_all is_plain word ≡ true
plain_bytes word plain = (and_parts (is_word word) (list_all is_plain word) plain).1

atom_short : PlainWords → (atom : Atom) → IsAtom atom → IsShortWord (atom_word atom)
atom_short plain atom is =
    let marks : IsMark (mark_word 60 atom.opens ++ mark_word 62 atom.closes) = marks_short atom.opens atom.closes is.marked in
    let event = plain.names atom.event is.event in
    let thread = plain.names atom.thread_var is.thread in
    record {
      plain = plain_longer atom.event (64 ∷ (atom.thread_var ++ (mark_word 60 atom.opens ++ mark_word 62 atom.closes))) event.0
          (plain_append atom.thread_var (mark_word 60 atom.opens ++ mark_word 62 atom.closes) (plain_bytes atom.thread_var thread.0) marks.plain);
      short = omega (
        arith,
        event.1,
        thread.1,
        marks.short,
        length-append atom.event (64 ∷ (atom.thread_var ++ (mark_word 60 atom.opens ++ mark_word 62 atom.closes))),
        length-append atom.thread_var (mark_word 60 atom.opens ++ mark_word 62 atom.closes),
      );
    }

grouped_short : PlainWords → (atoms : List Atom) → AllByRecursion IsAtom atoms → AllByRecursion IsShortWord (grouped_words atoms)
grouped_short plain [] are = tt
grouped_short plain (atom ∷ atoms) are = (keyword (codes "||") refl (lit≤ tt), (atom_short plain atom are.0, grouped_short plain atoms are.1))

atoms_short : PlainWords → (atoms : List Atom) → AreAtoms atoms → AllByRecursion IsShortWord (atoms_words atoms)
atoms_short plain [] are = absurd are
atoms_short plain (atom ∷ atoms) are = (atom_short plain atom are.0, grouped_short plain atoms are.1)

steps_short : PlainWords → (steps : List PatternStep) → AllByRecursion (λ step. AreAtoms step.atoms) steps → AllByRecursion IsShortWord (steps_words steps)
steps_short plain [] are = tt
steps_short plain (step ∷ steps) are =
    both_short (atoms_words step.atoms) (steps_words steps) (atoms_short plain step.atoms are.0) (steps_short plain steps are.1)

-- there are at most two words for each atom
count_grouped : (atoms : List Atom) → length (grouped_words atoms) ≤ length atoms * 2
count_grouped [] = omega arith
count_grouped (atom ∷ atoms) = omega (arith, count_grouped atoms)

count_atoms : (atoms : List Atom) → length (atoms_words atoms) ≤ length atoms * 2
count_atoms [] = omega arith
count_atoms (atom ∷ atoms) = omega (arith, count_grouped atoms)

count_words : (steps : List PatternStep) → length (steps_words steps) ≤ atom_count steps * 2
count_words [] = omega arith
count_words (step ∷ steps) =
    omega (
      arith,
      count_words steps,
      count_atoms step.atoms,
      sum_by-cons (λ (other : PatternStep). length other.atoms) step steps,
      length-append (atoms_words step.atoms) (steps_words steps),
    )

-- all steps of a pattern
pub each_step : (pattern : List PatternStep) → AreSteps pattern → AllByRecursion (λ step. AreAtoms step.atoms) pattern
each_step [] are = absurd are
each_step (step ∷ steps) are = (are.0, are.1)

pattern_plain : PlainWords → (property : PropertyForm) → IsProperty property → IsPlainLine (pattern_words property.pattern)
pattern_plain plain property is =
    let few = or_parts (nat_lt 6 (atom_count property.pattern)) (list_any is_wide property.pattern) is.few_atoms in
    plain.lines (codes "pattern" ∷ steps_words property.pattern)
    (keyword (codes "pattern") refl (lit≤ tt), steps_short plain property.pattern (each_step property.pattern is.steps))
    (omega (arith, ltb-false 6 (atom_count property.pattern) few.0, count_words property.pattern)) refl

count_shape : (shape : Shape) → IsShape shape → length (shape_words shape) ≤ 6
count_shape (Read name v) is = lit≤ tt
count_shape (Write name v) is = lit≤ tt
count_shape (Acquire name) is = lit≤ tt
count_shape (Release name) is = lit≤ tt
count_shape (Start t) is = lit≤ tt
count_shape (Join t) is = lit≤ tt
count_shape (Op name objects) is = omega (arith, is.1, length-map objects term_word)
count_shape (Begin name) is = lit≤ tt
count_shape (End name) is = lit≤ tt

event_plain : PlainWords → (event : EventDef) → IsEvent event → IsPlainLine (event_words event)
event_plain plain event is =
    plain.lines (codes "event" ∷ event.name ∷ shape_words event.shape)
    (keyword (codes "event") refl (lit≤ tt), (name_short plain event.name is.named, shape_short plain event.shape is.shaped))
    (omega (arith, count_shape event.shape is.shaped)) refl

events_plain : PlainWords → (events : List EventDef) (last : List (List ℕ)) → AllByRecursion IsEvent events → IsPlainLine last
    → AllByRecursion IsPlainLine (map event_words events ++ last ∷ [])
events_plain plain [] last are is = (is, tt)
events_plain plain (event ∷ events) last are is = (event_plain plain event are.0, events_plain plain events last are.1 is)

pub property_plain : PlainWords → (property : PropertyForm) → IsProperty property → AllByRecursion IsPlainLine (property_lines property)
property_plain plain property is = (
  plain.lines (codes "property" ∷ property.name ∷ [])
      (keyword (codes "property") refl (lit≤ tt), (name_short plain property.name is.named, tt)) (lit≤ tt) refl,
  events_plain plain property.events (pattern_words property.pattern) is.events (pattern_plain plain property is),
)
