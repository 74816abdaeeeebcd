-- The words of terms are read as these terms.
use Rattle.std.proofs.Common.{◌≡◌, refl, ℕ, true, List, [], ◌∷◌, decimal, map}
use Rattle.std.specs.Prelude.{Some, codes}
use Rattle.std.specs.Fmt.{signed_decimal}
use Rattle.std.specs.List.{AllByRecursion, list_all}
use Rattle.std.proofs.lemmas.Bool.{and_parts}
use Rattle.gp_text.specs.Name.{is_name, is_name_byte}
use Rattle.gp_text.specs.Numbers.{OneSpelling, signed_of, small_number_of}
use Rattle.gp_property.specs.declared.property.Term.{Term}
use Rattle.gp_property.specs.declared.property.Term.TheVariants as term
use Rattle.gp_property.specs.declared.property.ThreadTerm.{ThreadTerm}
use Rattle.gp_property.specs.declared.property.ThreadTerm.TheVariants as thread
use Rattle.gp_property.specs.declared.property.ValueTerm.{ValueTerm}
use Rattle.gp_property.specs.declared.property.ValueTerm.TheVariants as value
use Rattle.gp_property.specs.Property.{IsTerm, IsThread, IsValue}
use Rattle.gp_property.specs.Term.{term_of, terms_of, thread_of, value_of}
use Rattle.gp_property.specs.Words.{term_word, thread_word, value_word}
use Rattle.gp_property.proofs.Bytes.{IsPart, name_byte, name_bytes, other_word}

-- a name is a term of its own
name_term_again : (name : List ℕ) → is_name name ≡ true → term_of name ≡ Some (term.Is name)
name_term_again [] named = (cc)
name_term_again (b ∷ bytes) named =
    let part : IsPart b = name_byte b (and_parts (is_name_byte b) (list_all is_name_byte bytes) (name_bytes (b ∷ bytes) named)).0 in
    rw (part.star, part.dollar, named) refl

pub term_again : (t : Term) → IsTerm t → term_of (term_word t) ≡ Some t
term_again (term.Is name) is = name_term_again name is
term_again (term.Param name) is = rw is refl
term_again term.Any is = refl

pub terms_again : (terms : List Term) → AllByRecursion IsTerm terms → terms_of (map term_word terms) ≡ Some terms
terms_again [] is = refl
terms_again (t ∷ terms) is = rw (term_again t is.0, terms_again terms is.1) refl

pub thread_again : OneSpelling → (t : ThreadTerm) → IsThread t → thread_of (thread_word t) ≡ Some t
thread_again spelled (thread.Is n) is =
    let read : small_number_of (decimal n) ≡ Some n = (spelled.small (decimal n) n is).1 refl in
    rw (other_word small_number_of (codes "*") (decimal n) n refl read, read) refl
thread_again spelled thread.Any is = refl

pub value_again : OneSpelling → (v : ValueTerm) → IsValue v → value_of (value_word v) ≡ Some v
value_again spelled (value.Is z) is =
    let read : signed_of (signed_decimal z) ≡ Some z = (spelled.signed (signed_decimal z) z is).1 refl in
    rw (other_word signed_of (codes "*") (signed_decimal z) z refl read, read) refl
value_again spelled value.Any is = refl
