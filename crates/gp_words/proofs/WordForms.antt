-- How words are read.
use Rattle.std.proofs.Common.{◌≡◌, refl, sym, ap, ◌∙◌, ℕ, Bool, true, false, not, List, [], ◌∷◌, ◌++◌, ◌+◌, suc, map, arith}
use Rattle.std.specs.Prelude.{Option, Some, None, ◌==◌, codes, if◌then◌else◌, option_map}
use Rattle.std.specs.List.{after_first, before_first, list_any, position_or_len}
use Rattle.std.specs.Str.{bytes_eq}
use Rattle.std.proofs.Math.Bool.{and-false}
use Rattle.std.proofs.lemmas.Bool.{and_parts, false_from_ne_true, not-true, or_parts, or_right, true≢false}
use Rattle.std.proofs.lemmas.Slice.Eq.{bytes_eq-Decides}
use Rattle.gp_words.proofs.Names.{are_names}
use Rattle.gp_words.specs.Argument.{option_named}
use Rattle.gp_words.specs.Forms.{WordsAreRead, then_given}
use Rattle.gp_words.specs.Reading.{GivenForm, given_from, given_of, is_equals, is_hyphened, is_option_word, read_option, with_given}
use Rattle.gp_words.specs.declared.argument.Argument.{Argument}
use Rattle.gp_words.specs.declared.argument.Argument.TheVariants.{Folder}
use Rattle.gp_words.specs.declared.argument.Program.{Program}
use Rattle.gp_words.specs.declared.reading.Expected.TheVariants.{PlainWord, ValueOf}

one_and : (n : ℕ) → 1 + n ≡ suc n
one_and n = omega arith

one_more : (n : ℕ) → suc n + 1 ≡ suc (n + 1)
one_more n = omega arith

-- what stands before the first of none is all
before_none : {X : Type 0} (test : X → Bool) (items : List X) → list_any test items ≡ false → before_first test items ≡ items
before_none test [] none = refl
before_none test (item ∷ items) none =
    let parts = or_parts (test item) (list_any test items) none in
    rw parts.0 (rw (one_and (position_or_len test items)) (ap (λ rest. item ∷ rest) (before_none test items parts.1)))

-- a name without an equals sign, and one behind it: there is one, and it parts the name from the value
has_equals : (name value : List ℕ) → list_any is_equals (name ++ 61 ∷ value) ≡ true
has_equals [] value = refl
has_equals (byte ∷ name) value = or_right (is_equals byte) (list_any is_equals (name ++ 61 ∷ value)) (has_equals name value)

before_equals : (name value : List ℕ) → list_any is_equals name ≡ false → before_first is_equals (name ++ 61 ∷ value) ≡ name
before_equals [] value none = refl
before_equals (byte ∷ name) value none =
    let parts = or_parts (is_equals byte) (list_any is_equals name) none in
    rw parts.0 (rw (one_and (position_or_len is_equals (name ++ 61 ∷ value))) (ap (λ rest. byte ∷ rest) (before_equals name value parts.1)))

after_equals : (name value : List ℕ) → list_any is_equals name ≡ false → after_first is_equals (name ++ 61 ∷ value) ≡ value
after_equals [] value none = refl
after_equals (byte ∷ name) value none =
    let parts = or_parts (is_equals byte) (list_any is_equals name) none in
    rw parts.0 (rw (one_and (position_or_len is_equals (name ++ 61 ∷ value)))
    (rw (one_more (position_or_len is_equals (name ++ 61 ∷ value))) (after_equals name value parts.1)))

-- it is no `--`, and begins as the name does
not_the_end : (name value : List ℕ) → bytes_eq (name ++ 61 ∷ value) (codes "--") ≡ false
not_the_end name value =
    false_from_ne_true (bytes_eq (name ++ 61 ∷ value) (codes "--"))
    (λ same. true≢false (sym (has_equals name value) ∙ ap (list_any is_equals) ((bytes_eq-Decides (name ++ 61 ∷ value) (codes "--")).0 same)))

begins_alike : (name value : List ℕ) → is_option_word name ≡ true → is_option_word (name ++ 61 ∷ value) ≡ true
begins_alike [] value is = absurd (true≢false (sym is))
begins_alike (byte ∷ []) value is = absurd (true≢false (sym is))
begins_alike (byte ∷ next ∷ bytes) value is = is

-- what is read as an option
record IsName (name : List ℕ) : Type 0 where
  begins : is_option_word name ≡ true
  other : bytes_eq name (codes "--") ≡ false
  bare : list_any is_equals name ≡ false

named : (program : Program) (name : List ℕ) (option : Argument) → option_named program name ≡ Some option → IsName name
named program name option is =
    let parts = and_parts (is_option_word name) _ (are_names program name option is) in
    let rest = and_parts (not (bytes_eq name (codes "--"))) (not (list_any is_equals name)) parts.1 in
    record { begins = parts.0; other = not-true _ rest.0; bare = not-true _ rest.1 }

joined : (program : Program) (name value : List ℕ) (option : Argument) (words : List (List ℕ)) → option_named program name ≡ Some option
    → given_of program ((name ++ 61 ∷ value) ∷ words) ≡ then_given option value (given_of program words)
joined program name value option words is =
    let form = named program name option is in
    rw (not_the_end name value) (rw (begins_alike name value form.begins) (rw (has_equals name value)
    (rw (before_equals name value form.bare) (rw (after_equals name value form.bare) (rw is refl)))))

-- the next word is the value, where it does not begin with a hyphen
next_word : (program : Program) (hyphened : Bool) (option : Argument) (value : List ℕ) (words : List (List ℕ)) → is_hyphened value ≡ hyphened
    → given_from program (ValueOf option) (value ∷ words) ≡ (if hyphened then None else then_given option value (given_of program words))
next_word program true option value words is = rw is refl
next_word program false option value words is = rw is refl

-- nothing is given by a name alone
unchanged : (given : Option (List GivenForm)) → option_map (with_given None) given ≡ given
unchanged None = refl
unchanged (Some given) = refl

alone : (program : Program) (name : List ℕ) (option : Argument) (words : List (List ℕ)) → option_named program name ≡ Some option
    → given_of program (name ∷ words) ≡ given_from program (ValueOf option) words
alone program name option words is =
    let form = named program name option is in
    rw form.other (rw form.begins (rw form.bare (rw is (unchanged (given_from program (ValueOf option) words)))))

apart : (program : Program) (name value : List ℕ) (option : Argument) (words : List (List ℕ)) → option_named program name ≡ Some option → is_hyphened value ≡ false
    → given_of program (name ∷ value ∷ words) ≡ then_given option value (given_of program words)
apart program name value option words named is = alone program name option (value ∷ words) named ∙ next_word program false option value words is

hyphened : (program : Program) (name value : List ℕ) (option : Argument) (words : List (List ℕ)) → option_named program name ≡ Some option → is_hyphened value ≡ true
    → given_of program (name ∷ value ∷ words) ≡ None
hyphened program name value option words named is = alone program name option (value ∷ words) named ∙ next_word program true option value words is

-- `--` is a word that begins with a hyphen and has more bytes
not_end : (word : List ℕ) → is_option_word word ≡ false → bytes_eq word (codes "--") ≡ false
not_end [] plain = refl
not_end (byte ∷ []) plain = and-false (byte == 45)
not_end (byte ∷ next ∷ bytes) plain = rw plain refl

plain : (program : Program) (word : List ℕ) (words : List (List ℕ)) → is_option_word word ≡ false
    → given_of program (word ∷ words) ≡ then_given Folder word (given_of program words)
plain program word words is = rw (not_end word is) (rw is refl)

after_end : (program : Program) (words : List (List ℕ))
    → given_from program PlainWord words ≡ Some (map (λ word. record { argument = Folder; value = word }) words)
after_end program [] = refl
after_end program (word ∷ words) = rw (after_end program words) refl

ended : (program : Program) (words : List (List ℕ))
    → given_of program (codes "--" ∷ words) ≡ Some (map (λ word. record { argument = Folder; value = word }) words)
ended program words = unchanged (given_from program PlainWord words) ∙ after_end program words

not_named : (program : Program) (equals : Bool) (word : List ℕ) → list_any is_equals word ≡ equals → option_named program (before_first is_equals word) ≡ None
    → read_option program word ≡ None
not_named program true word is none = rw is (rw none refl)
not_named program false word is none = rw is (rw (← before_none is_equals word is) (rw none refl))

unknown : (program : Program) (word : List ℕ) (words : List (List ℕ)) → is_option_word word ≡ true → bytes_eq word (codes "--") ≡ false
    → option_named program (before_first is_equals word) ≡ None → given_of program (word ∷ words) ≡ None
unknown program word words is other none = rw other (rw is (rw (not_named program (list_any is_equals word) word refl none) refl))

pub words_are_read_lem : WordsAreRead
words_are_read_lem = record {
  nothing = λ program. refl;
  joined = joined;
  apart = apart;
  hyphened = hyphened;
  missing = λ program name option named. alone program name option [] named;
  plain = plain;
  ended = ended;
  unknown = unknown;
}
