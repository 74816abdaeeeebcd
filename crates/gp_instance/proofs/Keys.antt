-- Events that may stand beside each other have equal keys.
use Rattle.std.proofs.Common.{◌≡◌, refl, ap, ◌∙◌, sym, subst, ℕ, zero, suc, ◌<◌, Bool, true, false, not, List, [], ◌∷◌, ◌++◌, length, arith, eqb-true, eq-eqb, cond}
use Rattle.std.specs.Prelude.{◌||◌, ◌==◌, Option, Some, None, slice_get, nat_lt}
use Rattle.std.specs.List.{list_all}
use Rattle.std.specs.Str.{bytes_eq}
use Rattle.std.proofs.lemmas.Bool.{and_parts}
use Rattle.std.proofs.lemmas.Bool.Decides.{nat_tests}
use Rattle.std.proofs.lemmas.Slice.Eq.{bytes_eq-Decides}
use Rattle.std.proofs.lemmas.List.Folds.{list_all-append}
use Rattle.gp_trace.specs.declared.event.Event.{Event}
use Rattle.gp_window.specs.declared.schedule.EventId.{EventId}
use Rattle.gp_property.specs.declared.property.Shape.{Shape}
use Rattle.gp_property.specs.declared.property.Term.{Term}
use Rattle.gp_property.specs.declared.property.Term.TheVariants as term
use Rattle.gp_property.specs.declared.atoms.PatternAtom.{PatternAtom}
use Rattle.gp_instance.specs.declared.link.Link.{Link}
use Rattle.gp_instance.specs.declared.link.Side.TheVariants.{First, Second}
use Rattle.gp_instance.specs.Instance.{agree, bindings, bindings_with, choice_of, is_at, is_same_mark}
use Rattle.gp_window.specs.Events.{event_in, segment_in}
use Rattle.gp_window.specs.Ids.{is_same}
use Rattle.gp_instance.specs.Partners.{are_one_parameter, IsLink, index_part, is_bound, is_shared, key_of, name_part, names_with, opener, region_index, shared_names, thread_index}
use Rattle.gp_instance.specs.Region.{end_of}
use Rattle.gp_instance.specs.Search.{all_agree, chosen_of, end_if_opened, may_stand}
use Rattle.gp_instance.specs.Shape.{binding_of, bindings_in, terms_of}

-- equal bytes
pub same_bytes : (xs ys : List ℕ) → bytes_eq xs ys ≡ true → xs ≡ ys
same_bytes xs ys same = grind (arith, bytes_eq-Decides)

-- a test that all of what terms bind pass is passed by what a parameter at a place binds
bound_passes : (test : List ℕ × List ℕ → Bool) (terms : List Term) (names : List (List ℕ)) (k : ℕ) (parameter name : List ℕ)
    → slice_get terms k ≡ Some (term.Param parameter) → slice_get names k ≡ Some name → list_all test (bindings_in terms names) ≡ true → test (parameter, name) ≡ true
bound_passes test [] names k parameter name is_term is_name all = absurd (cc)
bound_passes test (t ∷ terms) [] k parameter name is_term is_name all = absurd (cc)
bound_passes test (t ∷ terms) (n ∷ names) zero parameter name is_term is_name all =
    let here : t ≡ term.Param parameter = cc in
    let called : n ≡ name = cc in
    let all' : list_all test ((parameter, name) ∷ bindings_in terms names) ≡ true = subst (λ z. list_all test ((parameter, z) ∷ bindings_in terms names) ≡ true) called (subst (λ z. list_all test (binding_of (z, n) ++ bindings_in terms names) ≡ true) here all) in
    (and_parts _ _ all').0
bound_passes test (t ∷ terms) (n ∷ names) (suc k) parameter name is_term is_name all =
    bound_passes test terms names k parameter name is_term is_name
    (and_parts (list_all test (binding_of (t, n))) (list_all test (bindings_in terms names)) (sym (list_all-append test (binding_of (t, n)) (bindings_in terms names)) ∙ all)).1

-- the names that one parameter stands for in two events that agree
shared_agree : (ones others : List Term) (names names' : List (List ℕ)) (k k' : ℕ) (name name' : List ℕ)
    → is_shared ones others (k, k') ≡ true → slice_get names k ≡ Some name → slice_get names' k' ≡ Some name'
    → all_agree (bindings_in ones names) (bindings_in others names') ≡ true → name ≡ name'
shared_agree ones others names names' k k' name name' shared is is' agreed = by_terms (slice_get ones k) (slice_get others k') refl refl shared
  where
    implied : (a b : Bool) → a ≡ true → (not a || b) ≡ true → b ≡ true
    implied true b h t = t
    implied false b h t = absurd (cc)

    by_terms : (one other : Option Term) → slice_get ones k ≡ one → slice_get others k' ≡ other → are_one_parameter one other ≡ true → name ≡ name'
    by_terms None other e e' same = absurd (cc)
    by_terms (Some (term.Is x)) other e e' same = absurd (cc)
    by_terms (Some term.Any) other e e' same = absurd (cc)
    by_terms (Some (term.Param x)) None e e' same = absurd (cc)
    by_terms (Some (term.Param x)) (Some (term.Is y)) e e' same = absurd (cc)
    by_terms (Some (term.Param x)) (Some term.Any) e e' same = absurd (cc)
    by_terms (Some (term.Param x)) (Some (term.Param y)) e e' same =
        let one = bound_passes (λ binding. list_all (agree binding) (bindings_in others names')) ones names k x name e is agreed in
        let two = bound_passes (agree (x, name)) others names' k' y name' e' is' one in
        same_bytes name name' (implied (bytes_eq x y) (bytes_eq name name') same two)

-- a number below another
below_of : (k n : ℕ) → nat_lt k n ≡ true → k < n
below_of k n below = grind (arith, nat_tests)

-- a name that is there
name_there : {A : Type 0} (xs : List A) (k : ℕ) → k < length xs → (x : A) × (slice_get xs k ≡ Some x)
name_there [] k below = absurd (omega (arith, below))
name_there (x ∷ xs) zero below = (x, refl)
name_there (x ∷ xs) (suc k) below = name_there xs k (omega (arith, below))

-- the shared names of two events that agree are the same
names_agree : (ones others : List Term) (names names' : List (List ℕ)) (shared : List (ℕ × ℕ))
    → list_all (is_shared ones others) shared ≡ true → is_bound First shared names ≡ true → is_bound Second shared names' ≡ true
    → all_agree (bindings_in ones names) (bindings_in others names') ≡ true → shared_names First shared names ≡ shared_names Second shared names'
names_agree ones others names names' [] all bound bound' agreed = refl
names_agree ones others names names' (places ∷ shared) all bound bound' agreed =
    let here = and_parts _ _ all in
    let there = and_parts _ _ bound in
    let there' = and_parts _ _ bound' in
    let one = name_there names places.0 (below_of places.0 (length names) there.0) in
    let two = name_there names' places.1 (below_of places.1 (length names') there'.0) in
    let same : slice_get names places.0 ≡ slice_get names' places.1 =
    one.1 ∙ ap Some (shared_agree ones others names names' places.0 places.1 one.0 two.0 here.0 one.1 two.1 agreed) ∙ sym two.1 in
    ap (λ name. name_part name ++ shared_names First shared names) same
    ∙ ap (λ rest. name_part (slice_get names' places.1) ++ rest) (names_agree ones others names names' shared here.1 there.1 there'.1 agreed)

-- what terms bind where an event is there
bindings_there : (shape : Shape) (event : Option Event) → bindings_with shape event ≡ bindings_in (terms_of shape) (names_with event)
bindings_there shape None = sym (none_bound (terms_of shape))
  where
    none_bound : (terms : List Term) → bindings_in terms [] ≡ []
    none_bound [] = refl
    none_bound (t ∷ terms) = refl
bindings_there shape (Some event) = refl

-- what the chosen event of the first atom and an event of the second keep
pub record Stands (segments : List (List Event)) (first second : PatternAtom) (a b : EventId) : Type 0 where
  pub same_thread : bytes_eq first.thread_var second.thread_var ≡ true → a.thread ≡ b.thread
  pub other_thread : bytes_eq first.thread_var second.thread_var ≡ false → (a.thread == b.thread) ≡ false
  pub apart : is_same a b ≡ false
  pub rises : a.thread ≡ b.thread → (first.step == second.step) ≡ false → nat_lt a.index b.index ≡ true
  pub closing : is_same_mark first.opens second.closes ≡ true → end_of (segment_in segments a.thread) a.index ≡ Some b.index
  pub opening : is_same_mark second.opens first.closes ≡ true → end_of (segment_in segments b.thread) b.index ≡ Some a.index
  pub agreed : all_agree (bindings_in (terms_of first.shape) (names_with (event_in segments a))) (bindings_in (terms_of second.shape) (names_with (event_in segments b))) ≡ true

-- one of two tests passes, and not the first
second_of : (a b : Bool) → a ≡ true → (not a || b) ≡ true → b ≡ true
second_of true b h t = t
second_of false b h t = absurd (cc)

-- a test that fails
fails_of : (a : Bool) → not a ≡ true → a ≡ false
fails_of true h = absurd (cc)
fails_of false h = refl

-- the index that was found
found_at : (found : Option ℕ) (index : ℕ) → is_at found index ≡ true → found ≡ Some index
found_at None index at = absurd (cc)
found_at (Some n) index at = ap Some (eqb-true n index at)

-- the end of a region that is opened
opened_end : (segments : List (List Event)) (opens closing : Option ℕ) (id : EventId) (index : ℕ)
    → is_same_mark opens closing ≡ true → end_if_opened segments opens id ≡ Some index → end_of (segment_in segments id.thread) id.index ≡ Some index
opened_end segments None closing id index same is = absurd (cc)
opened_end segments (Some n) closing id index same is = is

-- threads under one thread variable, and under two
one_thread : (same : Bool) (a b : ℕ) → same ≡ true → (cond same (a == b) (not (a == b))) ≡ true → a ≡ b
one_thread true a b h t = eqb-true a b t
one_thread false a b h t = absurd (cc)

two_threads : (same : Bool) (a b : ℕ) → same ≡ false → (cond same (a == b) (not (a == b))) ≡ true → (a == b) ≡ false
two_threads true a b h t = absurd (cc)
two_threads false a b h t = fails_of (a == b) t

-- a later event of the thread in another step
rises_later : (thread step less : Bool) → thread ≡ true → step ≡ false → (not thread || step || less) ≡ true → less ≡ true
rises_later true true less h h' t = absurd (cc)
rises_later true false less h h' t = t
rises_later false step less h h' t = absurd (cc)

-- what may stand beside a choice keeps all that
pub stands : (segments : List (List Event)) (first second : PatternAtom) (a b : EventId) → may_stand segments (chosen_of segments first a) second b ≡ true → Stands segments first second a b
unfolding may_stand
stands segments first second a b may =
    let five = and_parts _ _ may in
    let four = and_parts _ _ five.0 in
    let three = and_parts _ _ four.0 in
    let two = and_parts _ _ three.0 in
    let one = and_parts _ _ two.0 in
    record {
      same_thread = λ h. one_thread (bytes_eq first.thread_var second.thread_var) a.thread b.thread h one.0;
      other_thread = λ h. two_threads (bytes_eq first.thread_var second.thread_var) a.thread b.thread h one.0;
      apart = fails_of (is_same a b) one.1;
      rises = λ same other. rises_later (a.thread == b.thread) (first.step == second.step) (nat_lt a.index b.index) (eq-eqb a.thread b.thread same) other two.1;
      closing = λ h. opened_end segments first.opens second.closes a b.index h (found_at (end_if_opened segments first.opens a) b.index (and_parts _ _ (second_of (is_same_mark first.opens second.closes) _ h three.1)).1);
      opening = λ h. found_at (end_of (segment_in segments b.thread) b.index) a.index (and_parts _ _ (second_of (is_same_mark second.opens first.closes) _ h four.1)).1;
      agreed = ap (λ ones. all_agree ones (bindings_in (terms_of second.shape) (names_with (event_in segments b)))) (sym (bindings_there first.shape (event_in segments a)))
          ∙ ap (all_agree (bindings (choice_of segments first a))) (sym (bindings_there second.shape (event_in segments b))) ∙ five.1;
    }

-- the thread part of both keys
same_thread_part : (same : Bool) (a b : EventId) → (same ≡ true → a.thread ≡ b.thread) → thread_index same a ≡ thread_index same b
same_thread_part true a b leads = ap Some (leads refl)
same_thread_part false a b leads = refl

-- the region part of both keys
same_region_part : (segments : List (List Event)) (closing opening : Bool) (a b : EventId)
    → (closing ≡ true → end_of (segment_in segments a.thread) a.index ≡ Some b.index)
    → (opening ≡ true → end_of (segment_in segments b.thread) b.index ≡ Some a.index)
    → region_index segments (cond closing (Some First) (cond opening (Some Second) None)) First a ≡ region_index segments (cond closing (Some First) (cond opening (Some Second) None)) Second b
same_region_part segments true opening a b ends begins = ends refl
same_region_part segments false true a b ends begins = sym (begins refl)
same_region_part segments false false a b ends begins = refl

-- events that may stand beside each other have equal keys
pub same_keys : (segments : List (List Event)) (first second : PatternAtom) (link : Link) (a b : EventId)
    → IsLink first second link → Stands segments first second a b
    → is_bound First link.shared (names_with (event_in segments a)) ≡ true → is_bound Second link.shared (names_with (event_in segments b)) ≡ true
    → key_of segments link First a ≡ key_of segments link Second b
unfolding key_of
same_keys segments first second link a b is keep bound bound' =
    let threads = same_thread_part link.same_thread a b (λ h. keep.same_thread (sym is.thread ∙ h)) in
    let regions = same_region_part segments link.closing link.opening a b (λ h. keep.closing (sym is.closing ∙ h)) (λ h. keep.opening (sym is.opening ∙ h)) in
    let names = names_agree (terms_of first.shape) (terms_of second.shape) (names_with (event_in segments a)) (names_with (event_in segments b)) link.shared is.shared bound bound' keep.agreed in
    ap (λ t. (index_part t ++ index_part (region_index segments (opener link) First a)) ++ shared_names First link.shared (names_with (event_in segments a))) threads
    ∙ ap (λ r. (index_part (thread_index link.same_thread b) ++ index_part r) ++ shared_names First link.shared (names_with (event_in segments a))) regions
    ∙ ap (λ n. (index_part (thread_index link.same_thread b) ++ index_part (region_index segments (opener link) Second b)) ++ n) names
