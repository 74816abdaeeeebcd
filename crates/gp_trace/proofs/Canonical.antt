-- A line that spells an entry has the entry's own words.
use Rattle.std.proofs.Common.{◌≡◌, refl, sym, ap, ◌∙◌, ℕ, ℤ, Bool, true, false, ◌==◌, nat_le, if◌then◌else◌, List, [], ◌∷◌, length, Option, Some, None, codes, decimal}
use Rattle.std.specs.Fmt.{signed_decimal}
use Rattle.std.specs.Prelude.{option_map}
use Rattle.std.specs.Str.{bytes_eq}
use Rattle.std.proofs.lemmas.Slice.Eq.{bytes_eq-Decides}
use Rattle.gp_text.specs.Name.{is_name, name_of}
use Rattle.gp_text.specs.Numbers.{OneSpelling, signed_of, small_number_of}
use Rattle.gp_trace.specs.declared.event.Event.{Event}
use Rattle.gp_trace.specs.declared.event.Event.TheVariants.{Read, Write, Acquire, Release, RAcquire, RRelease, Start, Join, Op, Begin, End}
use Rattle.gp_trace.specs.declared.line.Entry.{Entry}
use Rattle.gp_trace.specs.declared.line.Entry.TheVariants.{Did, Mark, Exit}
use Rattle.gp_trace.specs.Event.{alone, at_most_four, both, did, entry_of, event_of, name_alone, name_and_objects, name_and_value, names_of, number_alone, with_name}
use Rattle.gp_trace.specs.Printed.{event_words}
use Rattle.gp_trace.proofs.Spelled.{a_value, InSome, IsSigned, IsSmall, small_word}

same_bytes : (xs ys : List ℕ) → bytes_eq xs ys ≡ true → xs ≡ ys
same_bytes xs ys e = (bytes_eq-Decides xs ys).0 e

test : {A : Type 0} (P : A → Type 0) (b : Bool) (x y : Option A) → (b ≡ true → InSome P x) → InSome P y → InSome P (if b then x else y)
test P true x y px py = px refl
test P false x y px py = py

mapped : {A : Type 0} (P : A → Type 0) (Q : Event → Type 0) (event : A → Event) → ((x : A) → P x → Q (event x)) → (o : Option A) → InSome P o → InSome Q (option_map event o)
mapped P Q event good (Some x) is = good x is
mapped P Q event good None is = tt

name_said : (b : Bool) (word : List ℕ) → InSome (λ name. word ≡ name) (if b then Some word else None)
name_said true word = refl
name_said false word = tt

in_row : (word : List ℕ) (name : Option (List ℕ)) → InSome (λ n. word ≡ n) name → InSome (λ n. word ∷ [] ≡ n ∷ []) name
in_row word (Some n) is = ap (λ w. w ∷ []) is
in_row word None is = tt

one_name : (words : List (List ℕ)) → InSome (λ name. words ≡ name ∷ []) (name_alone words)
one_name [] = tt
one_name (word ∷ []) = in_row word (name_of word) (name_said (is_name word) word)
one_name (word ∷ next ∷ words) = tt

number_said : OneSpelling → (word : List ℕ) (n : Option ℕ) → small_number_of word ≡ n → InSome IsSmall n → InSome (λ m. word ∷ [] ≡ decimal m ∷ []) n
number_said spelled word (Some n) is small = ap (λ w. w ∷ []) ((spelled.small word n small).0 is)
number_said spelled word None is small = tt

one_number : OneSpelling → (words : List (List ℕ)) → InSome (λ n. words ≡ decimal n ∷ []) (number_alone words)
one_number spelled [] = tt
one_number spelled (word ∷ []) = number_said spelled word (small_number_of word) refl (small_word word)
one_number spelled (word ∷ next ∷ words) = tt

value_said : OneSpelling → (word : List ℕ) (z : Option ℤ) → signed_of word ≡ z → InSome IsSigned z → InSome (λ v. word ≡ signed_decimal v) z
value_said spelled word (Some z) is fits = (spelled.signed word z fits).0 is
value_said spelled word None is fits = tt

valued_said : (word next : List ℕ) (name : Option (List ℕ)) (z : Option ℤ) → InSome (λ n. word ≡ n) name → InSome (λ v. next ≡ signed_decimal v) z
    → InSome (λ r. word ∷ next ∷ [] ≡ r.0 ∷ signed_decimal r.1 ∷ []) (both name z)
valued_said word next (Some n) (Some z) a b = cc
valued_said word next (Some n) None a b = tt
valued_said word next None z a b = tt

name_value : OneSpelling → (words : List (List ℕ)) → InSome (λ r. words ≡ r.0 ∷ signed_decimal r.1 ∷ []) (name_and_value words)
name_value spelled [] = tt
name_value spelled (word ∷ []) = tt
name_value spelled (word ∷ next ∷ []) =
    valued_said word next (name_of word) (signed_of next) (name_said (is_name word) word) (value_said spelled next (signed_of next) refl (a_value next))
name_value spelled (word ∷ next ∷ more ∷ words) = tt

more_names : (word : List ℕ) (words : List (List ℕ)) (name : Option (List ℕ)) (names : Option (List (List ℕ))) → InSome (λ n. word ≡ n) name → InSome (λ ns. words ≡ ns) names
    → InSome (λ ns. word ∷ words ≡ ns) (with_name name names)
more_names word words (Some n) (Some ns) a b = cc
more_names word words (Some n) None a b = tt
more_names word words None names a b = tt

names_said : (words : List (List ℕ)) → InSome (λ names. words ≡ names) (names_of words)
names_said [] = refl
names_said (word ∷ words) = more_names word words (name_of word) (names_of words) (name_said (is_name word) word) (names_said words)

few_said : (words : List (List ℕ)) (names : Option (List (List ℕ))) → InSome (λ ns. words ≡ ns) names → InSome (λ ns. words ≡ ns) (at_most_four names)
few_said words (Some names) is = test (λ ns. words ≡ ns) (nat_le (length names) 4) (Some names) None (λ _. is) tt
few_said words None is = tt

op_said : (word : List ℕ) (words : List (List ℕ)) (name : Option (List ℕ)) (names : Option (List (List ℕ))) → InSome (λ n. word ≡ n) name → InSome (λ ns. words ≡ ns) names
    → InSome (λ o. word ∷ words ≡ o.0 ∷ o.1) (both name names)
op_said word words (Some n) (Some ns) a b = cc
op_said word words (Some n) None a b = tt
op_said word words None names a b = tt

name_objects : (words : List (List ℕ)) → InSome (λ o. words ≡ o.0 ∷ o.1) (name_and_objects words)
name_objects [] = tt
name_objects (word ∷ words) = op_said word words (name_of word) (at_most_four (names_of words)) (name_said (is_name word) word) (few_said words (names_of words) (names_said words))

-- the words of the line are those of the event
abbrev IsSaid : List ℕ → List (List ℕ) → Event → Type 0
IsSaid keyword words event = keyword ∷ words ≡ event_words event

named_said : (keyword first : List ℕ) (event : List ℕ → Event) → ((name : List ℕ) → event_words (event name) ≡ first ∷ name ∷ []) → (words : List (List ℕ)) → bytes_eq keyword first ≡ true
    → InSome (IsSaid keyword words) (option_map event (name_alone words))
named_said keyword first event says words is =
    let same : keyword ≡ first = same_bytes keyword first is in
    mapped (λ name. words ≡ name ∷ []) (IsSaid keyword words) event (λ name so. cc (same, so, says name)) (name_alone words) (one_name words)

numbered_said : OneSpelling → (keyword first : List ℕ) (event : ℕ → Event) → ((n : ℕ) → event_words (event n) ≡ first ∷ decimal n ∷ []) → (words : List (List ℕ)) → bytes_eq keyword first ≡ true
    → InSome (IsSaid keyword words) (option_map event (number_alone words))
numbered_said spelled keyword first event says words is =
    let same : keyword ≡ first = same_bytes keyword first is in
    mapped (λ n. words ≡ decimal n ∷ []) (IsSaid keyword words) event (λ n so. cc (same, so, says n)) (number_alone words) (one_number spelled words)

with_value : OneSpelling → (keyword first : List ℕ) (event : List ℕ × ℤ → Event) → ((r : List ℕ × ℤ) → event_words (event r) ≡ first ∷ r.0 ∷ signed_decimal r.1 ∷ []) → (words : List (List ℕ)) → bytes_eq keyword first ≡ true
    → InSome (IsSaid keyword words) (option_map event (name_and_value words))
with_value spelled keyword first event says words is =
    let same : keyword ≡ first = same_bytes keyword first is in
    mapped (λ r. words ≡ r.0 ∷ signed_decimal r.1 ∷ []) (IsSaid keyword words) event (λ r so. cc (same, so, says r)) (name_and_value words) (name_value spelled words)

op_line : (keyword : List ℕ) (words : List (List ℕ)) → bytes_eq keyword (codes "op") ≡ true → InSome (IsSaid keyword words) (option_map Op (name_and_objects words))
op_line keyword words is =
    let same : keyword ≡ codes "op" = same_bytes keyword (codes "op") is in
    mapped (λ o. words ≡ o.0 ∷ o.1) (IsSaid keyword words) Op (λ o so. cc (same, so)) (name_and_objects words) (name_objects words)

event_said : OneSpelling → (format : ℕ) (keyword : List ℕ) (words : List (List ℕ)) → InSome (IsSaid keyword words) (event_of format keyword words)
event_said spelled format keyword words =
    let P : Event → Type 0 = IsSaid keyword words in
    test P (bytes_eq keyword (codes "read")) _ _ (with_value spelled keyword (codes "read") (λ r. Read r.0 r.1) (λ _. refl) words)
    (test P (bytes_eq keyword (codes "write")) _ _ (with_value spelled keyword (codes "write") (λ w. Write w.0 w.1) (λ _. refl) words)
    (test P (bytes_eq keyword (codes "acquire")) _ _ (named_said keyword (codes "acquire") Acquire (λ _. refl) words)
    (test P (bytes_eq keyword (codes "release")) _ _ (named_said keyword (codes "release") Release (λ _. refl) words)
    (test P (bytes_eq keyword (codes "start")) _ _ (numbered_said spelled keyword (codes "start") Start (λ _. refl) words)
    (test P (bytes_eq keyword (codes "join")) _ _ (numbered_said spelled keyword (codes "join") Join (λ _. refl) words)
    (test P (bytes_eq keyword (codes "op")) _ _ (op_line keyword words)
    (test P (bytes_eq keyword (codes "begin")) _ _ (named_said keyword (codes "begin") Begin (λ _. refl) words)
    (test P (bytes_eq keyword (codes "end")) _ _ (named_said keyword (codes "end") End (λ _. refl) words)
    (test P (format == 2) _ _
    (λ _. test P (bytes_eq keyword (codes "racquire")) _ _ (named_said keyword (codes "racquire") RAcquire (λ _. refl) words)
    (test P (bytes_eq keyword (codes "rrelease")) _ _ (named_said keyword (codes "rrelease") RRelease (λ _. refl) words) tt))
    tt)))))))))

-- the words of an entry
abbrev pub entry_words : Entry → List (List ℕ)
entry_words (Did event) = event_words event
entry_words Mark = codes "mark" ∷ []
entry_words Exit = codes "exit" ∷ []

did_said : (words : List (List ℕ)) (event : Option Event) → InSome (λ e. words ≡ event_words e) event → InSome (λ entry. words ≡ entry_words entry) (did event)
did_said words (Some event) is = is
did_said words None is = tt

alone_said : (keyword first : List ℕ) (words : List (List ℕ)) (entry : Entry) → entry_words entry ≡ first ∷ [] → bytes_eq keyword first ≡ true → InSome (λ e. keyword ∷ words ≡ entry_words e) (alone entry words)
alone_said keyword first [] entry says is = ap (λ w. w ∷ []) (same_bytes keyword first is) ∙ sym says
alone_said keyword first (word ∷ words) entry says is = tt

pub entry_said : OneSpelling → (format : ℕ) (words : List (List ℕ)) → InSome (λ entry. words ≡ entry_words entry) (entry_of format words)
entry_said spelled format [] = tt
entry_said spelled format (keyword ∷ words) =
    let P : Entry → Type 0 = λ entry. keyword ∷ words ≡ entry_words entry in
    test P (bytes_eq keyword (codes "mark")) _ _ (alone_said keyword (codes "mark") words Mark refl)
    (test P (bytes_eq keyword (codes "exit")) _ _ (alone_said keyword (codes "exit") words Exit refl)
    (did_said (keyword ∷ words) (event_of format keyword words) (event_said spelled format keyword words)))
