-- The values that the lines of a manifest give, each put at its place, and that their order in the lines is lost.
use Rattle.std.proofs.Common.{◌≡◌, refl, ap, sym, subst, ◌∙◌, inl, inr, ℕ, ◌<◌, ◌^◌, ℤ, false, cond, List, [], ◌∷◌, ◌++◌, map}
use Rattle.std.specs.Prelude.{Contains, if◌then◌else◌, is_some, Option, Some, None, Result, Ok}
use Rattle.std.specs.declared.cmp.Ordering.{Ordering}
use Rattle.std.specs.declared.cmp.Ordering.TheVariants.{Less, Equal, Greater}
use Rattle.std.specs.Cmp.{IsTotalOrder}
use Rattle.std.specs.List.{AllByRecursion, IsDistinct}
use Rattle.std.specs.List.Sorted.{IsPermutation, IsStrictlySortedBy}
use Rattle.std.specs.Map.{keys_of}
use Rattle.std.specs.Ordering.{eq_by_cmp, is_eq, match_ordering}
use Rattle.std.proofs.lemmas.Bool.{false≢true}
use Rattle.std.proofs.lemmas.Cmp.{eq_by_cmp_equiv, nat_cmp_total, nat_list_cmp_total, on_total, tied_itself, then_total}
use Rattle.std.proofs.lemmas.List.{append-nil}
use Rattle.std.proofs.lemmas.List.Sorted.{Contains-permutation, IsPermutation-append_right, IsPermutation-cons, IsPermutation-map, IsPermutation-middle, IsPermutation-refl, IsPermutation-sym, IsPermutation-trans}
use Rattle.std.proofs.lemmas.Map.Keys.{IsDistinct-from_sorted, IsDistinct-IsPermutation}
use Rattle.gp_text.specs.declared.line.Line.{Line}
use Rattle.gp_text.specs.Numbers.{OneSpelling}
use Rattle.gp_base.specs.ListLaws.{contains_map, first_or_rest, here, nothing_in, recursion_at, there}
use Rattle.gp_base.specs.Results.{and_then, or_refusal}
use Rattle.gp_base.specs.Table.{value_at, with_entries, with_entry}
use Rattle.gp_base.specs.TableLaws.{value_after_put}
use Rattle.gp_window.specs.declared.manifest.ManifestFault.TheVariants as bad
use Rattle.gp_window.specs.declared.manifest.StartValue.{StartValue}
use Rattle.gp_window.specs.Grammar.{IsStartValue, value_words}
use Rattle.gp_window.specs.Manifest.{Values, start_value, value_of, values_after, values_from, with_value}
use Rattle.gp_window.specs.ManifestForm.{IsInside, place_cmp, place_of}
use Rattle.gp_window.proofs.ManifestLines.{value_read, value_said}
use Rattle.gp_base.specs.OrderLaws.{put_rises}
use Rattle.gp_window.proofs.Walked.{first_gave}

place_total : IsTotalOrder place_cmp
place_total = then_total (on_total (λ (place : ℕ × List ℕ). place.0) nat_cmp_total) (on_total (λ (place : ℕ × List ℕ). place.1) nat_list_cmp_total)

-- a value at its place
abbrev entry_of : StartValue → (ℕ × List ℕ) × ℤ
entry_of given = (place_of given, given.value)

-- the values with all that are given, one after another
abbrev pub given_to : Values → List StartValue → Values
given_to values given = with_entries place_cmp values (map entry_of given)

-- each value that is given finds its place without one
abbrev pub FindRoom : Values → List StartValue → Type 0
FindRoom values [] = Unit {0}
FindRoom values (one ∷ given) =
    (value_at place_cmp values (place_of one) ≡ None) × FindRoom (with_entry place_cmp values (place_of one) one.value) given

-- the lines say these values, and each found room
pub record Say (values all : Values) (lines : List Line) : Type 0 where
  pub given : List StartValue
  pub words : map (λ line. line.words) lines ≡ map value_words given
  pub good : AllByRecursion IsStartValue given
  pub room : FindRoom values given
  pub all_of : given_to values given ≡ all

room_of : {A B : Type 0} (found : Option A) (added more : B) (n : ℕ) → or_refusal (bad.Line n) (if is_some found then None else Some added) ≡ Ok more
    → (found ≡ None) × (added ≡ more)
room_of (Some a) added more n e = cc
room_of None added more n e = (refl, (cc))

-- one line was read
line_given : (values more : Values) (n : ℕ) (found : Option StartValue) → or_refusal (bad.Line n) (with_value values found) ≡ Ok more
    → (given : StartValue) × (found ≡ Some given) × (value_at place_cmp values (place_of given) ≡ None)
    × (with_entry place_cmp values (place_of given) given.value ≡ more)
line_given values more n None e = cc
line_given values more n (Some given) e =
    let room = room_of (value_at place_cmp values (place_of given)) (with_entry place_cmp values (place_of given) given.value) more n e in
    (given, refl, room.0, room.1)

-- lines that are read say the values that were read
pub values_said : OneSpelling → (epochs : ℕ) (values all : Values) (lines : List Line) → values_from epochs values lines ≡ Ok all → Say values all lines
values_said law epochs values all [] e = record { given = []; words = refl; good = tt; room = tt; all_of = (cc) }
values_said law epochs values all (line ∷ lines) e =
    let step = first_gave (values_after epochs values line) (λ more. values_from epochs more lines) all e in
    let one = line_given values step.0 line.number (value_of epochs line.words) step.1 in
    let said = value_said law epochs line.words one.0 one.1 in
    let rest = values_said law epochs step.0 all lines step.2 in
    record {
      given = one.0 ∷ rest.given;
      words = ap (λ words. words ∷ map (λ line. line.words) lines) said.0 ∙ ap (λ more. value_words one.0 ∷ more) rest.words;
      good = (said.1, rest.good);
      room = (one.2, subst (λ values. FindRoom values rest.given) (sym one.3) rest.room);
      all_of = ap (λ values. given_to values rest.given) one.3 ∙ rest.all_of;
    }

-- what follows a step that gave a value
pub then_ok : {A B E : Type 0} (first : Result A E) (rest : A → Result B E) (value : A) → first ≡ Ok value → and_then first rest ≡ rest value
then_ok first rest value e = ap (λ r. and_then r rest) e

-- lines that say values, each of which finds room, are read as these
pub values_read : OneSpelling → (epochs : ℕ) → epochs < 2 ^ 32 → (lines : List Line) (given : List StartValue) (values : Values)
    → map (λ line. line.words) lines ≡ map value_words given → AllByRecursion IsStartValue given
    → AllByRecursion (λ one. IsInside epochs (place_of one)) given → FindRoom values given
    → values_from epochs values lines ≡ Ok (given_to values given)
values_read law epochs few [] [] values words good inside room = refl
values_read law epochs few [] (one ∷ given) values words good inside room = cc
values_read law epochs few (line ∷ lines) [] values words good inside room = cc
values_read law epochs few (line ∷ lines) (one ∷ given) values words good inside room =
    let here : line.words ≡ value_words one = cc in
    let later : map (λ (line : Line). line.words) lines ≡ map value_words given = cc in
    let more : Values = with_entry place_cmp values (place_of one) one.value in
    let read : values_after epochs values line ≡ Ok more =
    ap (λ words. or_refusal (bad.Line line.number) (with_value values (value_of epochs words))) here
    ∙ ap (λ found. or_refusal (bad.Line line.number) (with_value values found)) (value_read law epochs one good.0 inside.0.0 inside.0.1 few)
    ∙ ap (λ (found : Option ℤ). or_refusal (bad.Line line.number) (if is_some found then None else Some more)) room.0 in
    then_ok (values_after epochs values line) (λ more. values_from epochs more lines) more read
    ∙ values_read law epochs few lines given more later good.1 inside.1 room.1

-- the places rise
abbrev pub Rise : Values → Type 0
Rise values = IsStrictlySortedBy place_cmp (keys_of values)

pub given_rise : (given : List StartValue) (values : Values) → Rise values → Rise (given_to values given)
given_rise [] values rise = rise
given_rise (one ∷ given) values rise =
    given_rise given (with_entry place_cmp values (place_of one) one.value) (put_rises place_total values (place_of one) one.value rise)

put_at : (order : Ordering) (e : (ℕ × List ℕ) × ℤ) (es : Values) (k : ℕ × List ℕ) (v : ℤ) → place_cmp k e.0 ≡ order
    → cond (is_eq order) (Some e.1) (value_at place_cmp es k) ≡ None
    → (value_at place_cmp es k ≡ None → IsPermutation ((k, v) ∷ es) (with_entry place_cmp es k v))
    → IsPermutation ((k, v) ∷ e ∷ es) (match_ordering order ((k, v) ∷ e ∷ es) ((e.0, v) ∷ es) (e ∷ with_entry place_cmp es k v))
put_at Less e es k v is none more = IsPermutation-refl ((k, v) ∷ e ∷ es)
put_at Equal e es k v is none more = absurd (cc)
put_at Greater e es k v is none more =
    IsPermutation-trans ((k, v) ∷ e ∷ es) (e ∷ (k, v) ∷ es) (e ∷ with_entry place_cmp es k v)
    (IsPermutation-sym (e ∷ (k, v) ∷ es) ((k, v) ∷ e ∷ es) (IsPermutation-middle (e ∷ []) (k, v) es))
    (IsPermutation-cons e ((k, v) ∷ es) (with_entry place_cmp es k v) (more none))

-- a value that finds room stands among the others
put_permutes : (es : Values) (k : ℕ × List ℕ) (v : ℤ) → value_at place_cmp es k ≡ None → IsPermutation ((k, v) ∷ es) (with_entry place_cmp es k v)
put_permutes [] k v none = IsPermutation-refl ((k, v) ∷ [])
put_permutes (e ∷ es) k v none = put_at (place_cmp k e.0) e es k v refl none (put_permutes es k v)

given_permute : (given : List StartValue) (values : Values) → FindRoom values given → IsPermutation (map entry_of given ++ values) (given_to values given)
given_permute [] values room = IsPermutation-refl values
given_permute (one ∷ given) values room =
    let more : Values = with_entry place_cmp values (place_of one) one.value in
    IsPermutation-trans (entry_of one ∷ (map entry_of given ++ values)) (map entry_of given ++ entry_of one ∷ values) (given_to more given)
    (IsPermutation-sym (map entry_of given ++ entry_of one ∷ values) (entry_of one ∷ (map entry_of given ++ values)) (IsPermutation-middle (map entry_of given) (entry_of one) values))
    (IsPermutation-trans (map entry_of given ++ entry_of one ∷ values) (map entry_of given ++ more) (given_to more given)
    (IsPermutation-append_right (map entry_of given) (entry_of one ∷ values) more (put_permutes values (place_of one) one.value room.0))
    (given_permute given more room.1))

same_values : (given : List StartValue) → map start_value (map entry_of given) ≡ given
same_values [] = refl
same_values (one ∷ given) = ap (λ rest. one ∷ rest) (same_values given)

-- the values that were given are those of the table, in another order
pub given_all : (given : List StartValue) → FindRoom [] given → IsPermutation given (map start_value (given_to [] given))
given_all given room =
    let entries : IsPermutation (map entry_of given) (given_to [] given) =
    subst (λ list. IsPermutation list (given_to [] given)) (append-nil (map entry_of given)) (given_permute given [] room) in
    subst (λ list. IsPermutation list (map start_value (given_to [] given))) (same_values given)
    (IsPermutation-map start_value (map entry_of given) (given_to [] given) entries)

-- values at places that differ find room
room_for : (given : List StartValue) (values : Values) → IsDistinct (eq_by_cmp place_cmp) (map place_of given)
    → AllByRecursion (λ one. value_at place_cmp values (place_of one) ≡ None) given → FindRoom values given
unfolding IsDistinct
room_for [] values distinct free = tt
room_for (one ∷ given) values distinct free = (free.0, room_for given (with_entry place_cmp values (place_of one) one.value) distinct.1 (still given distinct.0 free.1))
  where
    still : (others : List StartValue) → AllByRecursion (λ place. eq_by_cmp place_cmp (place_of one) place ≡ false) (map place_of others)
        → AllByRecursion (λ other. value_at place_cmp values (place_of other) ≡ None) others
        → AllByRecursion (λ other. value_at place_cmp (with_entry place_cmp values (place_of one) one.value) (place_of other) ≡ None) others
    still [] apart free = tt
    still (other ∷ others) apart free =
        let differ : eq_by_cmp place_cmp (place_of other) (place_of one) ≡ false = (eq_by_cmp_equiv place_total).symm (place_of other) (place_of one) ∙ apart.0 in (
          value_after_put place_total values (place_of one) (place_of other) one.value
              ∙ ap (λ b. cond b (Some one.value) (value_at place_cmp values (place_of other))) differ ∙ free.0,
          still others apart.1 free.1,
        )

all_free : (given : List StartValue) → AllByRecursion (λ one. value_at {V = ℤ} place_cmp [] (place_of one) ≡ None) given
all_free [] = tt
all_free (one ∷ given) = (refl, all_free given)

-- values in another order than that of their places find room
pub permuted_room : (given values : List StartValue) → IsPermutation given values → IsStrictlySortedBy place_cmp (map place_of values) → FindRoom [] given
permuted_room given values permuted rises =
    room_for given []
    (IsDistinct-IsPermutation (eq_by_cmp place_cmp) (eq_by_cmp_equiv place_total).symm (map place_of values) (map place_of given)
    (IsPermutation-map place_of values given (IsPermutation-sym given values permuted))
    (IsDistinct-from_sorted place_cmp (map place_of values) rises)) (all_free given)

all_has : {X : Type 0} (key : X → ℕ × List ℕ) (P : ℕ × List ℕ → Type 0) (xs : List X) (x : X) → Contains xs x → AllByRecursion P (map key xs) → P (key x)
all_has key P xs x has all = recursion_at P (map key xs) (key x) all (contains_map key xs x has)

pub not_below_itself : (place : ℕ × List ℕ) → place_cmp place place ≡ Less → ⊥
not_below_itself place less = false≢true (ap is_eq (sym less) ∙ ap is_eq (tied_itself place_total place))

not_both_below : (one other : ℕ × List ℕ) → place_cmp one other ≡ Less → place_cmp other one ≡ Less → ⊥
not_both_below one other up down = not_below_itself one (place_total.trans one other one up down)

same_first : (x y : StartValue) (xs ys : List StartValue) → AllByRecursion (λ place. place_cmp (place_of x) place ≡ Less) (map place_of xs)
    → AllByRecursion (λ place. place_cmp (place_of y) place ≡ Less) (map place_of ys) → Contains (y ∷ ys) x → Contains (x ∷ xs) y → x ≡ y
same_first x y xs ys above_x above_y one other =
    elim (first_or_rest y ys x one) [
      | inl same ↦ sym same
      | inr late ↦ elim (first_or_rest x xs y other) [
        | inl same ↦ same
        | inr later ↦
            absurd (not_both_below (place_of x) (place_of y)
            (all_has place_of (λ place. place_cmp (place_of x) place ≡ Less) xs y later above_x)
            (all_has place_of (λ place. place_cmp (place_of y) place ≡ Less) ys x late above_y))
      ]
    ]

-- what stands behind the first of one list stands behind the first of the other
later_in : (x y z : StartValue) (xs ys : List StartValue) → x ≡ y → AllByRecursion (λ place. place_cmp (place_of x) place ≡ Less) (map place_of xs)
    → Contains xs z → Contains (y ∷ ys) z → Contains ys z
later_in x y z xs ys same above has among =
    elim (first_or_rest y ys z among) [
      | inl one ↦
          let less : place_cmp (place_of x) (place_of z) ≡ Less = all_has place_of (λ place. place_cmp (place_of x) place ≡ Less) xs z has above in
          absurd (not_below_itself (place_of z) (subst (λ v. place_cmp (place_of v) (place_of z) ≡ Less) (same ∙ one) less))
      | inr rest ↦ rest
    ]

-- lists of the same values in the order of their places are the same
same_members : (xs ys : List StartValue) → IsStrictlySortedBy place_cmp (map place_of xs) → IsStrictlySortedBy place_cmp (map place_of ys)
    → ((z : StartValue) → Contains xs z → Contains ys z) → ((z : StartValue) → Contains ys z → Contains xs z) → xs ≡ ys
unfolding IsStrictlySortedBy
same_members [] [] up_x up_y onto back = refl
same_members [] (y ∷ ys) up_x up_y onto back = absurd (nothing_in y (back y (here y ys)))
same_members (x ∷ xs) [] up_x up_y onto back = absurd (nothing_in x (onto x (here x xs)))
same_members (x ∷ xs) (y ∷ ys) up_x up_y onto back =
    let first : x ≡ y = same_first x y xs ys up_x.0 up_y.0 (onto x (here x xs)) (back y (here y ys)) in
    ap (λ v. v ∷ xs) first
    ∙ ap (λ rest. y ∷ rest) (same_members xs ys up_x.1 up_y.1
    (λ z has. later_in x y z xs ys first up_x.0 has (onto z (there x xs z has)))
    (λ z has. later_in y x z ys xs (sym first) up_y.0 has (back z (there y ys z has))))

-- values in the order of their places, in which the same stand, are the same
pub same_permuted : (xs ys : List StartValue) → IsPermutation xs ys → IsStrictlySortedBy place_cmp (map place_of xs)
    → IsStrictlySortedBy place_cmp (map place_of ys) → xs ≡ ys
same_permuted xs ys permuted up_x up_y =
    same_members xs ys up_x up_y (λ z. Contains-permutation xs ys z permuted) (λ z. Contains-permutation ys xs z (IsPermutation-sym xs ys permuted))
