-- What points write, and of which variables a link speaks.
use Rattle.std.proofs.Common.{ℕ, ◌≡◌, ◌≢◌, ◌⊎◌, ap, sym, ◌∙◌, refl, subst, inl, inr, List, [], ◌∷◌, Bool, true, false}
use Rattle.std.specs.Prelude.{ℤ, pos, not, Option, Some, None, Contains, unwrap_or}
use Rattle.std.specs.Cmp.Lexicographic.{slice_cmp}
use Rattle.std.specs.List.{list_any}
use Rattle.std.specs.Map.{keys_of}
use Rattle.std.specs.Ordering.{int_eq, nat_cmp}
use Rattle.std.specs.Str.{bytes_eq}
use Rattle.std.proofs.lemmas.Bool.{and_from, and_parts, false_from_ne_true, false≢true}
use Rattle.std.proofs.lemmas.Bool.Decides.{Decides-int_eq}
use Rattle.std.proofs.lemmas.List.Folds.{Any-from_list_any, list_any_at}
use Rattle.std.proofs.lemmas.Map.Lookups.{exact_bytes}
use Rattle.std.proofs.lemmas.Map.Views.{Contains-from_lookup, tells_apart}
use Rattle.std.proofs.lemmas.Slice.Eq.{bytes_eq-Decides}
use Rattle.gp_base.specs.ListLaws.{contains_map, first_or_rest, here, nothing_in}
use Rattle.gp_base.specs.Table.{value_at, with_entry}
use Rattle.gp_base.specs.TableLaws.{put_apart, put_here, same_or_apart}
use Rattle.gp_trace.specs.declared.event.Event.{Event}
use Rattle.gp_trace.specs.declared.event.Event.TheVariants as event
use Rattle.gp_window.specs.declared.schedule.EventId.{EventId}
use Rattle.gp_window.specs.WindowForm.{start_value, WindowForm}
use Rattle.gp_replay.specs.Value.{Writes}
use Rattle.gp_constraint.specs.declared.action.Action.{Action}
use Rattle.gp_constraint.specs.declared.action.Action.TheVariants.{Write}
use Rattle.gp_constraint.specs.declared.point.Point.{Point}
use Rattle.gp_constraint.specs.Action.{action_of}
use Rattle.gp_constraint.specs.PointLaws.{points_named}
use Rattle.gp_constraint.specs.Points.{number_in, points_of}
use Rattle.gp_constraint.specs.Tables.{writes_to}
use Rattle.gp_link.specs.LinkClauses.{are_rivals, writes_value}
use Rattle.gp_link.specs.Variables.{Names, names_of, variables_of, with_names, with_written, written_by}

-- tests on actions
pub written_is : (variable : List ℕ) (does : Action) → writes_to variable does ≡ true → (value : ℤ) × (does ≡ Write variable value)
written_is variable (Write name found) e = (found, ap (λ n. Write n found) ((bytes_eq-Decides name variable).0 e))
written_is variable _ e = absurd (false≢true e)

pub is_written : (variable : List ℕ) (value : ℤ) → writes_to variable (Write variable value) ≡ true
is_written variable value = (bytes_eq-Decides variable variable).1 refl

pub value_is : (variable : List ℕ) (value : ℤ) (does : Action) → writes_value variable value does ≡ true → does ≡ Write variable value
value_is variable value (Write name found) e =
    let parts = and_parts (bytes_eq name variable) (int_eq found value) e in
    ap (λ n. Write n found) ((bytes_eq-Decides name variable).0 parts.0) ∙ ap (Write variable) ((Decides-int_eq found value).0 parts.1)
value_is variable value _ e = absurd (false≢true e)

pub is_value : (variable : List ℕ) (value : ℤ) → writes_value variable value (Write variable value) ≡ true
is_value variable value = and_from (bytes_eq variable variable) (int_eq value value) ((bytes_eq-Decides variable variable).1 refl) ((Decides-int_eq value value).1 refl)

pub rival_is : (variable : List ℕ) (value : ℤ) (does : Action) → are_rivals (Write variable value) does ≡ true
    → (found : ℤ) × (does ≡ Write variable found) × (found ≢ value)
rival_is variable value (Write name found) e =
    let parts = and_parts (bytes_eq name variable) (not (int_eq found value)) e in
    (found, ap (λ n. Write n found) ((bytes_eq-Decides name variable).0 parts.0), differs (int_eq found value) refl parts.1)
  where
    differs : (b : Bool) → int_eq found value ≡ b → not b ≡ true → found ≢ value
    differs true is e same = absurd (false≢true e)
    differs false is e same = false≢true (sym is ∙ (Decides-int_eq found value).1 same)
rival_is variable value _ e = absurd (false≢true e)

pub is_rival : (variable : List ℕ) (value found : ℤ) → found ≢ value → are_rivals (Write variable value) (Write variable found) ≡ true
is_rival variable value found differ =
    and_from (bytes_eq variable variable) (not (int_eq found value)) ((bytes_eq-Decides variable variable).1 refl)
    (ap not (false_from_ne_true _ (λ e. differ ((Decides-int_eq found value).0 e))))

-- the event of a point that writes
write_event : (e : Event) (variable : List ℕ) (value : ℤ) → action_of e ≡ Write variable value → e ≡ event.Write variable value
write_event (event.Write name found) variable value e =
    let names : name ≡ variable = cc in
    let values : found ≡ value = cc in
    λ i. event.Write (names i) (values i)
write_event _ variable value e = cc

pub point_writes : (window : WindowForm) (p : Point) (variable : List ℕ) (value : ℤ) → Contains (points_of window) p → p.action ≡ Write variable value → Writes window p.id variable value
point_writes window p variable value has is =
    let own = (points_named window).own p has in
    own.1 ∙ ap Some (write_event own.0 variable value (sym own.2 ∙ is))

-- an event writes one value
pub one_value : (window : WindowForm) (id : EventId) (variable : List ℕ) (one other : ℤ) → Writes window id variable one → Writes window id variable other → one ≡ other
one_value window id variable one other first second =
    let both_are : ◌≡◌ {A = Option Event} (Some (event.Write variable one)) (Some (event.Write variable other)) = sym first ∙ second in cc

-- the point of an event that writes
abbrev pub writer : WindowForm → EventId → List ℕ → ℤ → Point
writer window id variable value = record { number = number_in window id; id = id; action = Write variable value }

pub writer_there : (window : WindowForm) (id : EventId) (variable : List ℕ) (value : ℤ) → Writes window id variable value → Contains (points_of window) (writer window id variable value)
writer_there window id variable value writes = (points_named window).all id (event.Write variable value) writes

-- one of a list that passes a test
pub any_back : {X : Type 0} (test : X → Bool) (xs : List X) → list_any test xs ≡ true → (x : X) × Contains xs x × (test x ≡ true)
any_back test xs e = let some = Any-from_list_any test xs e in (some.1, (some.0, some.2, some.3), some.4)

pub any_from : {X : Type 0} (test : X → Bool) (x : X) (xs : List X) → Contains xs x → test x ≡ true → list_any test xs ≡ true
any_from test x xs (k, within, is) e = list_any_at test xs k x within (ap test is ∙ e)

-- what a table of names has

abbrev HasName : Names → List ℕ → Type 0
HasName names name = value_at (slice_cmp nat_cmp) names name ≡ Some tt

entry_keeps : (names : Names) (other name : List ℕ) → HasName names name → HasName (with_entry (slice_cmp nat_cmp) names other tt) name
entry_keeps names other name e =
    elim (same_or_apart name other) [
      | inl same ↦ subst (λ n. HasName (with_entry (slice_cmp nat_cmp) names other tt) n) (sym same) (put_here names other tt)
      | inr apart ↦ put_apart names other name tt apart ∙ e
    ]

names_keep : (names : Names) (more : List (List ℕ)) (name : List ℕ) → HasName names name → HasName (with_names names more) name
names_keep names [] name e = e
names_keep names (first ∷ more) name e = names_keep (with_entry (slice_cmp nat_cmp) names first tt) more name (entry_keeps names first name e)

names_have : (names : Names) (more : List (List ℕ)) (name : List ℕ) → Contains more name → HasName (with_names names more) name
names_have names [] name i = absurd (nothing_in _ i)
names_have names (first ∷ more) name i =
    elim (first_or_rest _ _ _ i) [
      | inl same ↦
          names_keep (with_entry (slice_cmp nat_cmp) names first tt) more name
          (subst (λ n. HasName (with_entry (slice_cmp nat_cmp) names first tt) n) same (put_here names first tt))
      | inr rest ↦ names_have (with_entry (slice_cmp nat_cmp) names first tt) more name rest
    ]

written_keep : (names : Names) (points : List Point) (name : List ℕ) → HasName names name → HasName (with_written names points) name
written_keep names [] name e = e
written_keep names (p ∷ points) name e = written_keep (with_names names (written_by p.action)) points name (names_keep names (written_by p.action) name e)

written_have : (names : Names) (points : List Point) (p : Point) (variable : List ℕ) (value : ℤ) → Contains points p → p.action ≡ Write variable value
    → HasName (with_written names points) variable
written_have names [] p variable value i is = absurd (nothing_in _ i)
written_have names (first ∷ points) p variable value i is =
    elim (first_or_rest _ _ _ i) [
      | inl same ↦
          written_keep (with_names names (written_by first.action)) points variable
          (names_have names (written_by first.action) variable
          (subst (λ does. Contains (written_by does) variable) (sym (ap (λ (q : Point). q.action) same ∙ is)) (here variable [])))
      | inr rest ↦ written_have (with_names names (written_by first.action)) points p variable value rest is
    ]

-- what is found at a name is one of the entries
key_has : {V : Type 0} (entries : List (List ℕ × V)) (name : List ℕ) (value : V) → value_at (slice_cmp nat_cmp) entries name ≡ Some value → Contains (keys_of entries) name
key_has entries name value found =
    contains_map (λ e. e.0) entries (name, value) (Contains-from_lookup (tells_apart exact_bytes) name value entries found)

-- a variable that is written is one of those of which the link speaks
pub written_named : (window next : WindowForm) (points : List Point) (p : Point) (variable : List ℕ) (value : ℤ) → Contains points p → p.action ≡ Write variable value
    → Contains (variables_of window next points) variable
written_named window next points p variable value has is =
    let written : Names = with_written [] points in
    let own : Names = with_names written (keys_of window.start_values) in
    key_has (names_of window next points) variable tt
    (names_keep own (keys_of next.start_values) variable
    (names_keep written (keys_of window.start_values) variable (written_have [] points p variable value has is)))

some_start : (one other : Option ℤ) → (unwrap_or one (pos 0) ≡ unwrap_or other (pos 0) → ⊥) → ((x : ℤ) × (one ≡ Some x)) ⊎ ((x : ℤ) × (other ≡ Some x))
some_start None None differ = absurd (differ refl)
some_start None (Some x) differ = inr (x, refl)
some_start (Some x) other differ = inl (x, refl)

-- and so is one whose start values differ
pub differing_named : (window next : WindowForm) (points : List Point) (variable : List ℕ) → (start_value window variable ≡ start_value next variable → ⊥)
    → Contains (variables_of window next points) variable
differing_named window next points variable differ =
    let written : Names = with_written [] points in
    let own : Names = with_names written (keys_of window.start_values) in
    key_has (names_of window next points) variable tt
    (elim (some_start (value_at (slice_cmp nat_cmp) window.start_values variable) (value_at (slice_cmp nat_cmp) next.start_values variable) differ) [
      | inl here_now ↦
          names_keep own (keys_of next.start_values) variable
          (names_have written (keys_of window.start_values) variable (key_has window.start_values variable here_now.0 here_now.1))
      | inr later ↦ names_have own (keys_of next.start_values) variable (key_has next.start_values variable later.0 later.1)
    ])
