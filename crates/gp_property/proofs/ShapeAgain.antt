-- The words of events are read as these events.
use Rattle.std.proofs.Common.{◌≡◌, refl, ℕ, true, false, List, ◌∷◌, length, map}
use Rattle.std.specs.Prelude.{Option, Some, None, codes, nat_le}
use Rattle.std.specs.Str.{bytes_eq}
use Rattle.std.proofs.lemmas.Bool.{le-leb}
use Rattle.std.proofs.lemmas.List.{length-map}
use Rattle.gp_text.specs.Numbers.{OneSpelling}
use Rattle.gp_property.specs.declared.property.EventDef.{EventDef}
use Rattle.gp_property.specs.declared.property.Shape.{Shape}
use Rattle.gp_property.specs.declared.property.Shape.TheVariants.{Read, Write, Acquire, Release, Start, Join, Op, Begin, End}
use Rattle.gp_property.specs.declared.property.Term.{Term}
use Rattle.gp_property.specs.declared.property.ThreadTerm.{ThreadTerm}
use Rattle.gp_property.specs.Property.{IsEvent, IsShape, IsTerm}
use Rattle.gp_property.specs.Shape.{definition_of, named_shape_of, or_shape, shape_of, thread_shape_of}
use Rattle.gp_property.specs.Term.{term_of, thread_of}
use Rattle.gp_property.specs.Words.{shape_words, term_word}
use Rattle.gp_property.proofs.TermAgain.{term_again, terms_again, thread_again, value_again}

-- a keyword that starts or joins no thread
pub no_thread : (keyword : List ℕ) (thread : Option ThreadTerm) → bytes_eq keyword (codes "start") ≡ false → bytes_eq keyword (codes "join") ≡ false → thread_shape_of keyword thread ≡ None
no_thread keyword None start join = refl
no_thread keyword (Some thread) start join = rw (start, join) refl

named_again : (keyword : List ℕ) (name : Term) (shape : Shape) → IsTerm name → bytes_eq keyword (codes "start") ≡ false → bytes_eq keyword (codes "join") ≡ false
    → named_shape_of keyword (Some name) ≡ Some shape
    → or_shape (thread_shape_of keyword (thread_of (term_word name))) (named_shape_of keyword (term_of (term_word name))) ≡ Some shape
named_again keyword name shape is start join named =
    rw (no_thread keyword (thread_of (term_word name)) start join, term_again name is) named

pub shape_again : OneSpelling → (shape : Shape) → IsShape shape → shape_of (shape_words shape) ≡ Some shape
shape_again spelled (Read name value) is = rw (term_again name is.0, value_again spelled value is.1) refl
shape_again spelled (Write name value) is = rw (term_again name is.0, value_again spelled value is.1) refl
shape_again spelled (Acquire name) is = named_again (codes "acquire") name (Acquire name) is refl refl refl
shape_again spelled (Release name) is = named_again (codes "release") name (Release name) is refl refl refl
shape_again spelled (Start thread) is = rw (thread_again spelled thread is) refl
shape_again spelled (Join thread) is = rw (thread_again spelled thread is) refl
shape_again spelled (Op name objects) is =
    let few : nat_le (length (map term_word objects)) 4 ≡ true = rw length-map (le-leb (length objects) 4 is.1) in
    rw (few, is.0, terms_again objects is.2) refl
shape_again spelled (Begin name) is = named_again (codes "begin") name (Begin name) is refl refl refl
shape_again spelled (End name) is = named_again (codes "end") name (End name) is refl refl refl

pub definition_again : OneSpelling → (event : EventDef) → IsEvent event → definition_of (event.name ∷ shape_words event.shape) ≡ Some event
definition_again spelled event is = rw (is.named, shape_again spelled event.shape is.shaped) refl
