-- What is read as a shape or an event is its words.
use Rattle.std.proofs.Common.{◌≡◌, refl, ap, ℕ, ◌≤◌, true, List, [], ◌∷◌, length, map, inl, inr, arith}
use Rattle.std.specs.Prelude.{◌⊎◌, Option, Some, None, if◌then◌else◌, codes, nat_le}
use Rattle.std.specs.List.{AllByRecursion}
use Rattle.std.specs.Str.{bytes_eq}
use Rattle.std.proofs.lemmas.Bool.{leb-true}
use Rattle.std.proofs.lemmas.List.{length-map}
use Rattle.gp_text.specs.Name.{is_name, name_of}
use Rattle.gp_text.specs.Numbers.{OneSpelling}
use Rattle.gp_property.specs.declared.property.EventDef.{EventDef}
use Rattle.gp_property.specs.declared.property.Shape.{Shape}
use Rattle.gp_property.specs.declared.property.Shape.TheVariants.{Read, Write, Acquire, Release, Start, Join, Op, Begin, End}
use Rattle.gp_property.specs.declared.property.Term.{Term}
use Rattle.gp_property.specs.declared.property.ThreadTerm.{ThreadTerm}
use Rattle.gp_property.specs.declared.property.ValueTerm.{ValueTerm}
use Rattle.gp_property.specs.Property.{IsEvent, IsShape, IsTerm, IsThread, IsValue}
use Rattle.gp_property.specs.Shape.{access_of, definition_of, definition_with, named_shape_of, op_of, op_with, or_shape, plain_shape_of, shape_of, thread_shape_of}
use Rattle.gp_property.specs.Term.{term_of, terms_of, thread_of, value_of}
use Rattle.gp_property.specs.Words.{event_words, shape_words, term_word, thread_word, value_word}
use Rattle.gp_property.proofs.Bytes.{either, if_some, name_read, same_bytes}
use Rattle.gp_property.proofs.TermRead.{term_read, terms_read, thread_read, value_read}

-- the words spell this shape
abbrev pub Shapes : List (List ℕ) → Shape → Type 0
Shapes words shape = (words ≡ shape_words shape) × IsShape shape

-- a shape that a keyword makes of one word, or of two
one_made : (keyword known word spelled : List ℕ) (made shape : Shape) → bytes_eq keyword known ≡ true → Some made ≡ Some shape
    → shape_words made ≡ known ∷ spelled ∷ [] → word ≡ spelled → IsShape made → Shapes (keyword ∷ word ∷ []) shape
one_made keyword known word spelled made shape same is words here made_is =
    let shaped : shape ≡ made = cc in
    rw shaped (rw (same_bytes keyword known same, here, words) refl, made_is)

two_made : (keyword known word spelled other further : List ℕ) (made shape : Shape) → bytes_eq keyword known ≡ true → Some made ≡ Some shape
    → shape_words made ≡ known ∷ spelled ∷ further ∷ [] → word ≡ spelled → other ≡ further → IsShape made → Shapes (keyword ∷ word ∷ other ∷ []) shape
two_made keyword known word spelled other further made shape same is words here there made_is =
    let shaped : shape ≡ made = cc in
    rw shaped (rw (same_bytes keyword known same, here, there, words) refl, made_is)

access_read : (keyword word other : List ℕ) (name : Option Term) (value : Option ValueTerm) (shape : Shape)
    → ((t : Term) → name ≡ Some t → (word ≡ term_word t) × IsTerm t) → ((v : ValueTerm) → value ≡ Some v → (other ≡ value_word v) × IsValue v)
    → access_of keyword name value ≡ Some shape → Shapes (keyword ∷ word ∷ other ∷ []) shape
access_read keyword word other None value shape named valued e = (cc)
access_read keyword word other (Some t) None shape named valued e = (cc)
access_read keyword word other (Some t) (Some v) shape named valued e =
    let name = named t refl in
    let value = valued v refl in
    elim (either (bytes_eq keyword (codes "read")) (Some (Read t v)) (if bytes_eq keyword (codes "write") then Some (Write t v) else None) (Some shape) e) [
      | inl read ↦ two_made keyword (codes "read") word (term_word t) other (value_word v) (Read t v) shape read.0 read.1 refl name.0 value.0 (name.1, value.1)
      | inr other_one ↦
          let write = if_some (bytes_eq keyword (codes "write")) (Write t v) shape other_one.1 in
          two_made keyword (codes "write") word (term_word t) other (value_word v) (Write t v) shape write.0 (ap Some write.1) refl name.0 value.0 (name.1, value.1)
    ]

thread_shape_read : (keyword word : List ℕ) (thread : Option ThreadTerm) (shape : Shape)
    → ((t : ThreadTerm) → thread ≡ Some t → (word ≡ thread_word t) × IsThread t)
    → thread_shape_of keyword thread ≡ Some shape → Shapes (keyword ∷ word ∷ []) shape
thread_shape_read keyword word None shape threaded e = (cc)
thread_shape_read keyword word (Some t) shape threaded e =
    let thread = threaded t refl in
    elim (either (bytes_eq keyword (codes "start")) (Some (Start t)) (if bytes_eq keyword (codes "join") then Some (Join t) else None) (Some shape) e) [
      | inl start ↦ one_made keyword (codes "start") word (thread_word t) (Start t) shape start.0 start.1 refl thread.0 thread.1
      | inr other_one ↦
          let join = if_some (bytes_eq keyword (codes "join")) (Join t) shape other_one.1 in
          one_made keyword (codes "join") word (thread_word t) (Join t) shape join.0 (ap Some join.1) refl thread.0 thread.1
    ]

region_shape_read : (keyword word : List ℕ) (t : Term) (shape : Shape) → (word ≡ term_word t) × IsTerm t
    → (if bytes_eq keyword (codes "begin") then Some (Begin t) else (if bytes_eq keyword (codes "end") then Some (End t) else None)) ≡ Some shape
    → Shapes (keyword ∷ word ∷ []) shape
region_shape_read keyword word t shape name e =
    elim (either (bytes_eq keyword (codes "begin")) (Some (Begin t)) (if bytes_eq keyword (codes "end") then Some (End t) else None) (Some shape) e) [
      | inl begin ↦ one_made keyword (codes "begin") word (term_word t) (Begin t) shape begin.0 begin.1 refl name.0 name.1
      | inr other_one ↦
          let end = if_some (bytes_eq keyword (codes "end")) (End t) shape other_one.1 in
          one_made keyword (codes "end") word (term_word t) (End t) shape end.0 (ap Some end.1) refl name.0 name.1
    ]

named_shape_read : (keyword word : List ℕ) (name : Option Term) (shape : Shape)
    → ((t : Term) → name ≡ Some t → (word ≡ term_word t) × IsTerm t)
    → named_shape_of keyword name ≡ Some shape → Shapes (keyword ∷ word ∷ []) shape
named_shape_read keyword word None shape named e = (cc)
named_shape_read keyword word (Some t) shape named e =
    let name = named t refl in
    elim (either (bytes_eq keyword (codes "acquire")) (Some (Acquire t)) _ (Some shape) e) [
      | inl acquire ↦ one_made keyword (codes "acquire") word (term_word t) (Acquire t) shape acquire.0 acquire.1 refl name.0 name.1
      | inr other_one ↦ elim (either (bytes_eq keyword (codes "release")) (Some (Release t)) _ (Some shape) other_one.1) [
        | inl release ↦ one_made keyword (codes "release") word (term_word t) (Release t) shape release.0 release.1 refl name.0 name.1
        | inr region ↦ region_shape_read keyword word t shape name region.1
      ]
    ]

either_shape : (first second : Option Shape) (shape : Shape) → or_shape first second ≡ Some shape → (first ≡ Some shape) ⊎ (second ≡ Some shape)
either_shape (Some made) second shape e = inl e
either_shape None second shape e = inr e

plain_read : OneSpelling → (keyword : List ℕ) (words : List (List ℕ)) (shape : Shape) → plain_shape_of keyword words ≡ Some shape → Shapes (keyword ∷ words) shape
plain_read spelled keyword [] shape e = (cc)
plain_read spelled keyword (word ∷ []) shape e =
    elim (either_shape (thread_shape_of keyword (thread_of word)) (named_shape_of keyword (term_of word)) shape e) [
      | inl thread ↦ thread_shape_read keyword word (thread_of word) shape (thread_read spelled word) thread
      | inr named ↦ named_shape_read keyword word (term_of word) shape (term_read word) named
    ]
plain_read spelled keyword (word ∷ other ∷ []) shape e = access_read keyword word other (term_of word) (value_of other) shape (term_read word) (value_read spelled other) e
plain_read spelled keyword (word ∷ other ∷ next ∷ words) shape e = (cc)

op_from : (name : Option (List ℕ)) (objects : Option (List Term)) (shape : Shape) → op_with name objects ≡ Some shape
    → (n : List ℕ) × (ts : List Term) × (name ≡ Some n) × (objects ≡ Some ts) × (shape ≡ Op n ts)
op_from None objects shape e = (cc)
op_from (Some n) None shape e = (cc)
op_from (Some n) (Some ts) shape e = (n, ts, refl, refl, (cc))

op_made : (keyword word name : List ℕ) (words : List (List ℕ)) (objects : List Term) (shape : Shape) → keyword ≡ codes "op" → shape ≡ Op name objects
    → (word ≡ name) × (is_name name ≡ true) → (words ≡ map term_word objects) × AllByRecursion IsTerm objects → length words ≤ 4
    → Shapes (keyword ∷ word ∷ words) shape
op_made keyword word name words objects shape op is named termed few =
    let count : length objects ≤ 4 = omega (arith, ap length termed.0, length-map objects term_word) in
    rw is (rw (op, named.0, termed.0) refl, (named.1, count, termed.1))

op_read : (keyword : List ℕ) (words : List (List ℕ)) (shape : Shape) → keyword ≡ codes "op" → op_of words ≡ Some shape → Shapes (keyword ∷ words) shape
op_read keyword [] shape op e = (cc)
op_read keyword (word ∷ words) shape op e =
    elim (either (nat_le (length words) 4) (op_with (name_of word) (terms_of words)) None (Some shape) e) [
      | inl few ↦
          let from = op_from (name_of word) (terms_of words) shape few.1 in
          op_made keyword word from.0 words from.1 shape op from.4 (name_read word from.0 from.2) (terms_read words from.1 from.3) (leb-true (length words) 4 few.0)
      | inr many ↦ (cc)
    ]

shape_read : OneSpelling → (words : List (List ℕ)) (shape : Shape) → shape_of words ≡ Some shape → Shapes words shape
shape_read spelled [] shape e = (cc)
shape_read spelled (keyword ∷ words) shape e =
    elim (either (bytes_eq keyword (codes "op")) (op_of words) (plain_shape_of keyword words) (Some shape) e) [
      | inl op ↦ op_read keyword words shape (same_bytes keyword (codes "op") op.0) op.1
      | inr plain ↦ plain_read spelled keyword words shape plain.1
    ]

definition_from : (name : Option (List ℕ)) (shape : Option Shape) (event : EventDef) → definition_with name shape ≡ Some event
    → (n : List ℕ) × (s : Shape) × (name ≡ Some n) × (shape ≡ Some s) × (event ≡ record { name = n; shape = s })
definition_from None shape event e = (cc)
definition_from (Some n) None event e = (cc)
definition_from (Some n) (Some s) event e = (n, s, refl, refl, (cc))

definition_made : (word name : List ℕ) (words : List (List ℕ)) (shape : Shape) (event : EventDef) → event ≡ record { name = name; shape = shape }
    → (word ≡ name) × (is_name name ≡ true) → Shapes words shape → (codes "event" ∷ word ∷ words ≡ event_words event) × IsEvent event
definition_made word name words shape event is named shaped =
    rw is (rw (named.0, shaped.0) refl, record { named = named.1; shaped = shaped.1 })

pub definition_read : OneSpelling → (words : List (List ℕ)) (event : EventDef) → definition_of words ≡ Some event → (codes "event" ∷ words ≡ event_words event) × IsEvent event
definition_read spelled [] event e = (cc)
definition_read spelled (word ∷ words) event e =
    let from = definition_from (name_of word) (shape_of words) event e in
    definition_made word from.0 words from.1 event from.4 (name_read word from.0 from.2) (shape_read spelled words from.1 from.3)
