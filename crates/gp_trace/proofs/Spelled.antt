-- What a line spells has names that are names, and numbers of their width.
use Rattle.std.proofs.Common.{◌≡◌, refl, eqb-true, ℕ, zero, suc, ◌<◌, ◌≤◌, ◌^◌, ℤ, pos, negsuc, Bool, true, false, ◌==◌, nat_lt, nat_le, if◌then◌else◌, List, [], ◌∷◌, length, Option, Some, None, FitsSigned, w64, arith, codes}
use Rattle.std.specs.List.{AllByRecursion}
use Rattle.std.specs.Prelude.{option_map}
use Rattle.std.specs.Str.{bytes_eq}
use Rattle.std.proofs.lemmas.Bool.{ltb-true}
use Rattle.std.proofs.lemmas.Bool.Decides.{nat_tests}
use Rattle.gp_text.specs.Name.{is_name, name_of}
use Rattle.gp_text.specs.Numbers.{if_below, negative, number_of, positive, signed_of, small_number_of}
use Rattle.gp_trace.specs.declared.event.Event.{Event}
use Rattle.gp_trace.specs.declared.event.Event.TheVariants.{Read, Write, Acquire, Release, RAcquire, RRelease, Start, Join, Op, Begin, End}
use Rattle.gp_trace.specs.declared.line.Entry.{Entry}
use Rattle.gp_trace.specs.declared.line.Entry.TheVariants.{Did, Mark, Exit}
use Rattle.gp_trace.specs.Event.{alone, at_most_four, both, did, entry_of, event_of, name_alone, name_and_objects, name_and_value, names_of, number_alone, shared_of, with_name}
use Rattle.gp_trace.specs.LockUse.{lock_use_of, uses_shared}
use Rattle.gp_trace.specs.Trace.{IsEvent}

-- what holds of the value, where there is one
abbrev pub InSome : {A : Type 0} → (A → Type 0) → Option A → Type 0
InSome P (Some x) = P x
InSome P None = Unit {0}

either : {A : Type 0} (P : A → Type 0) (b : Bool) (x y : Option A) → InSome P x → InSome P y → InSome P (if b then x else y)
either P true x y px py = px
either P false x y px py = py

abbrev IsNamed : List ℕ → Type 0
IsNamed name = is_name name ≡ true

abbrev pub IsSmall : ℕ → Type 0
IsSmall n = n < 2 ^ 32

abbrev pub IsSigned : ℤ → Type 0
IsSigned z = FitsSigned w64 z

name_in : (b : Bool) (word : List ℕ) → is_name word ≡ b → InSome IsNamed (if b then Some word else None)
name_in true word is = is
name_in false word is = tt

a_name : (word : List ℕ) → InSome IsNamed (name_of word)
a_name word = name_in (is_name word) word refl

small_in : (b : Bool) (n : ℕ) → nat_lt n (2 ^ 32) ≡ b → InSome IsSmall (if b then Some n else None)
small_in true n is = ltb-true n (2 ^ 32) is
small_in false n is = tt

below : (o : Option ℕ) → InSome IsSmall (if_below (2 ^ 32) o)
below None = tt
below (Some n) = small_in (nat_lt n (2 ^ 32)) n refl

pub small_word : (word : List ℕ) → InSome IsSmall (small_number_of word)
small_word word = below (number_of word)

positive_in : (b : Bool) (n : ℕ) → nat_lt n (2 ^ 63) ≡ b → InSome IsSigned (if b then Some (pos n) else None)
positive_in true n is = record { sfits = ltb-true n (2 ^ 63) is }
positive_in false n is = tt

negative_in : (b : Bool) (n : ℕ) → nat_lt n (2 ^ 63) ≡ b → InSome IsSigned (if b then Some (negsuc n) else None)
negative_in true n is = record { sfits = ltb-true n (2 ^ 63) is }
negative_in false n is = tt

from_zero : (o : Option ℕ) → InSome IsSigned (positive o)
from_zero None = tt
from_zero (Some n) = positive_in (nat_lt n (2 ^ 63)) n refl

below_zero : (o : Option ℕ) → InSome IsSigned (negative o)
below_zero None = tt
below_zero (Some zero) = tt
below_zero (Some (suc n)) = negative_in (nat_lt n (2 ^ 63)) n refl

pub a_value : (word : List ℕ) → InSome IsSigned (signed_of word)
a_value [] = tt
a_value (b ∷ bytes) = either IsSigned (b == 45) _ _ (below_zero (number_of bytes)) (from_zero (number_of (b ∷ bytes)))

abbrev AreNamed : List (List ℕ) → Type 0
AreNamed names = AllByRecursion IsNamed names

one_more : (name : Option (List ℕ)) (names : Option (List (List ℕ))) → InSome IsNamed name → InSome AreNamed names → InSome AreNamed (with_name name names)
one_more (Some name) (Some names) first rest = (first, rest)
one_more (Some name) None first rest = tt
one_more None names first rest = tt

some_names : (words : List (List ℕ)) → InSome AreNamed (names_of words)
some_names [] = tt
some_names (word ∷ words) = one_more (name_of word) (names_of words) (a_name word) (some_names words)

-- names that are objects of one operation
abbrev AreObjects : List (List ℕ) → Type 0
AreObjects names = AreNamed names × (length names ≤ 4)

few_at : (b : Bool) (names : List (List ℕ)) → nat_le (length names) 4 ≡ b → AreNamed names → InSome AreObjects (if b then Some names else None)
few_at true names few named = (named, grind (arith, nat_tests))
few_at false names few named = tt

some_objects : (names : Option (List (List ℕ))) → InSome AreNamed names → InSome AreObjects (at_most_four names)
some_objects None named = tt
some_objects (Some names) named = few_at (nat_le (length names) 4) names refl named

named_in : (P : Event → Type 0) (event : List ℕ → Event) → ((name : List ℕ) → IsNamed name → P (event name)) → (name : Option (List ℕ)) → InSome IsNamed name → InSome P (option_map event name)
named_in P event good (Some name) named = good name named
named_in P event good None named = tt

thread_in : (P : Event → Type 0) (event : ℕ → Event) → ((n : ℕ) → IsSmall n → P (event n)) → (n : Option ℕ) → InSome IsSmall n → InSome P (option_map event n)
thread_in P event good (Some n) small = good n small
thread_in P event good None small = tt

valued_in : (P : Event → Type 0) (event : List ℕ × ℤ → Event) → ((name : List ℕ) (value : ℤ) → IsNamed name → IsSigned value → P (event (name, value)))
    → (name : Option (List ℕ)) (value : Option ℤ) → InSome IsNamed name → InSome IsSigned value → InSome P (option_map event (both name value))
valued_in P event good (Some name) (Some value) named fits = good name value named fits
valued_in P event good (Some name) None named fits = tt
valued_in P event good None value named fits = tt

op_in : (P : Event → Type 0) → ((name : List ℕ) (objects : List (List ℕ)) → IsNamed name → AreObjects objects → P (Op (name, objects)))
    → (name : Option (List ℕ)) (objects : Option (List (List ℕ))) → InSome IsNamed name → InSome AreObjects objects → InSome P (option_map Op (both name objects))
op_in P good (Some name) (Some objects) named are = good name objects named are
op_in P good (Some name) None named are = tt
op_in P good None objects named are = tt

a_named : (P : Event → Type 0) (event : List ℕ → Event) → ((name : List ℕ) → IsNamed name → P (event name)) → (words : List (List ℕ)) → InSome P (option_map event (name_alone words))
a_named P event good [] = tt
a_named P event good (name ∷ []) = named_in P event good (name_of name) (a_name name)
a_named P event good (name ∷ word ∷ words) = tt

a_thread : (P : Event → Type 0) (event : ℕ → Event) → ((n : ℕ) → IsSmall n → P (event n)) → (words : List (List ℕ)) → InSome P (option_map event (number_alone words))
a_thread P event good [] = tt
a_thread P event good (thread ∷ []) = thread_in P event good (small_number_of thread) (below (number_of thread))
a_thread P event good (thread ∷ word ∷ words) = tt

a_valued : (P : Event → Type 0) (event : List ℕ × ℤ → Event) → ((name : List ℕ) (value : ℤ) → IsNamed name → IsSigned value → P (event (name, value)))
    → (words : List (List ℕ)) → InSome P (option_map event (name_and_value words))
a_valued P event good [] = tt
a_valued P event good (name ∷ []) = tt
a_valued P event good (name ∷ value ∷ []) = valued_in P event good (name_of name) (signed_of value) (a_name name) (a_value value)
a_valued P event good (name ∷ value ∷ word ∷ words) = tt

an_op : (P : Event → Type 0) → ((name : List ℕ) (objects : List (List ℕ)) → IsNamed name → AreObjects objects → P (Op (name, objects)))
    → (words : List (List ℕ)) → InSome P (option_map Op (name_and_objects words))
an_op P good [] = tt
an_op P good (name ∷ objects) = op_in P good (name_of name) (at_most_four (names_of objects)) (a_name name) (some_objects (names_of objects) (some_names objects))

-- a shared lock is of format 2 alone
abbrev pub Belongs : ℕ → Event → Type 0
Belongs format event = uses_shared (lock_use_of event) ≡ true → format ≡ 2

-- an event that a line of the format can spell
abbrev pub IsEventOf : ℕ → Event → Type 0
IsEventOf format event = IsEvent event × Belongs format event

plain : (format : ℕ) → false ≡ true → format ≡ 2
plain format e = (cc)

shared_in : (b : Bool) (format : ℕ) (keyword : List ℕ) (words : List (List ℕ)) → (format == 2) ≡ b → InSome (IsEventOf format) (if b then shared_of keyword words else None)
shared_in true format keyword words is =
    let P : Event → Type 0 = IsEventOf format in
    let two : format ≡ 2 = eqb-true format 2 is in
    either P (bytes_eq keyword (codes "racquire")) _ _ (a_named P RAcquire (λ _ named. (named, λ _. two)) words)
    (either P (bytes_eq keyword (codes "rrelease")) _ _ (a_named P RRelease (λ _ named. (named, λ _. two)) words) tt)
shared_in false format keyword words is = tt

an_event : (format : ℕ) (keyword : List ℕ) (words : List (List ℕ)) → InSome (IsEventOf format) (event_of format keyword words)
an_event format keyword words =
    let P : Event → Type 0 = IsEventOf format in
    either P (bytes_eq keyword (codes "read")) _ _ (a_valued P (λ r. Read r.0 r.1) (λ _ _ named fits. ((named, fits), plain format)) words)
    (either P (bytes_eq keyword (codes "write")) _ _ (a_valued P (λ w. Write w.0 w.1) (λ _ _ named fits. ((named, fits), plain format)) words)
    (either P (bytes_eq keyword (codes "acquire")) _ _ (a_named P Acquire (λ _ named. (named, plain format)) words)
    (either P (bytes_eq keyword (codes "release")) _ _ (a_named P Release (λ _ named. (named, plain format)) words)
    (either P (bytes_eq keyword (codes "start")) _ _ (a_thread P Start (λ _ small. (small, plain format)) words)
    (either P (bytes_eq keyword (codes "join")) _ _ (a_thread P Join (λ _ small. (small, plain format)) words)
    (either P (bytes_eq keyword (codes "op")) _ _ (an_op P (λ _ _ named are. ((named, are.0, are.1), plain format)) words)
    (either P (bytes_eq keyword (codes "begin")) _ _ (a_named P Begin (λ _ named. (named, plain format)) words)
    (either P (bytes_eq keyword (codes "end")) _ _ (a_named P End (λ _ named. (named, plain format)) words)
    (shared_in (format == 2) format keyword words refl)))))))))

-- an entry whose event is one
abbrev pub IsEntry : ℕ → Entry → Type 0
IsEntry format (Did event) = IsEventOf format event
IsEntry format Mark = Unit {0}
IsEntry format Exit = Unit {0}

did_in : (format : ℕ) (event : Option Event) → InSome (IsEventOf format) event → InSome (IsEntry format) (did event)
did_in format (Some event) is = is
did_in format None is = tt

alone_in : (format : ℕ) (entry : Entry) (words : List (List ℕ)) → IsEntry format entry → InSome (IsEntry format) (alone entry words)
alone_in format entry [] is = is
alone_in format entry (word ∷ words) is = tt

pub an_entry : (format : ℕ) (words : List (List ℕ)) → InSome (IsEntry format) (entry_of format words)
an_entry format [] = tt
an_entry format (keyword ∷ words) =
    either (IsEntry format) (bytes_eq keyword (codes "mark")) _ _ (alone_in format Mark words tt)
    (either (IsEntry format) (bytes_eq keyword (codes "exit")) _ _ (alone_in format Exit words tt) (did_in format (event_of format keyword words) (an_event format keyword words)))
