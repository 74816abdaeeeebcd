-- Where events without a partner are taken out of the domain of one atom, the search finds the same.
use Rattle.std.proofs.Common.{◌≡◌, refl, ap, ◌∙◌, sym, ℕ, zero, suc, ◌<◌, Bool, true, false, cond, List, [], ◌∷◌, map, length, get_or, arith}
use Rattle.std.specs.Prelude.{filter, ◌&&◌, ◌||◌, slice_set}
use Rattle.std.specs.List.{AllByRecursion, flat_map, list_any}
use Rattle.std.proofs.lemmas.Bool.{or_right}
use Rattle.std.proofs.lemmas.List.{get_or_default, length-set}
use Rattle.std.proofs.lemmas.List.Elements.{filter_agree}
use Rattle.gp_base.specs.FilterLaws.{filter-filter, flat_map-filter, flat_map_agree}
use Rattle.gp_trace.specs.declared.event.Event.{Event}
use Rattle.gp_window.specs.declared.schedule.EventId.{EventId}
use Rattle.gp_property.specs.declared.atoms.PatternAtom.{PatternAtom}
use Rattle.gp_instance.specs.declared.chosen.Chosen.{Chosen}
use Rattle.gp_instance.specs.Partners.{has_earlier, has_later, KeepsPartnered}
use Rattle.gp_instance.specs.Search.{chosen_of, FindsSame, is_dead, may_stand, narrowed, search}
use Rattle.gp_instance.proofs.Dead.{dead_end, narrowed_long}

-- two tests in either order
and_swap : (a b : Bool) → (a && b) ≡ (b && a)
and_swap true true = refl
and_swap true false = refl
and_swap false true = refl
and_swap false false = refl

-- two filters in either order
filter_swap : {A : Type 0} (p q : A → Bool) (xs : List A) → filter q (filter p xs) ≡ filter p (filter q xs)
filter_swap p q xs =
    filter-filter p q xs ∙ filter_agree (λ x. p x && q x) (λ x. q x && p x) (λ x. and_swap (p x) (q x)) xs ∙ sym (filter-filter q p xs)

-- narrowing after a filter of one domain
narrowed_set : (segments : List (List Event)) (chosen : Chosen) (atoms : List PatternAtom) (domains : List (List EventId)) (i : ℕ) (p : EventId → Bool)
    → narrowed segments chosen atoms (slice_set domains i (filter p (get_or domains i [])))
    ≡ slice_set (narrowed segments chosen atoms domains) i (filter p (get_or (narrowed segments chosen atoms domains) i []))
narrowed_set segments chosen [] domains i p = refl
narrowed_set segments chosen (atom ∷ atoms) [] i p = refl
narrowed_set segments chosen (atom ∷ atoms) (ids ∷ domains) zero p =
    ap (λ first. first ∷ narrowed segments chosen atoms domains) (filter_swap p (may_stand segments chosen atom) ids)
narrowed_set segments chosen (atom ∷ atoms) (ids ∷ domains) (suc i) p =
    ap (λ rest. filter (may_stand segments chosen atom) ids ∷ rest) (narrowed_set segments chosen atoms domains i p)

-- what narrowing leaves of one domain
narrowed_at : (segments : List (List Event)) (chosen : Chosen) (atoms : List PatternAtom) (domains : List (List EventId)) (j : ℕ) (d : PatternAtom)
    → j < length atoms → length domains ≡ length atoms
    → get_or (narrowed segments chosen atoms domains) j [] ≡ filter (may_stand segments chosen (get_or atoms j d)) (get_or domains j [])
narrowed_at segments chosen [] domains j d below long = absurd (omega arith)
narrowed_at segments chosen (atom ∷ atoms) [] j d below long = absurd (omega arith)
narrowed_at segments chosen (atom ∷ atoms) (ids ∷ domains) zero d below long = refl
narrowed_at segments chosen (atom ∷ atoms) (ids ∷ domains) (suc j) d below long = narrowed_at segments chosen atoms domains j d (omega arith) (omega arith)

-- a filter that none passes
none_passes : {A : Type 0} (p : A → Bool) (xs : List A) → list_any p xs ≡ false → filter p xs ≡ []
none_passes p [] none = refl
none_passes p (x ∷ xs) none = by_cases (p x) (none_passes p xs) none
  where
    by_cases : (b : Bool) → (list_any p xs ≡ false → filter p xs ≡ []) → (b || list_any p xs) ≡ false → cond b (x ∷ filter p xs) (filter p xs) ≡ []
    by_cases true rest fails = absurd (cc)
    by_cases false rest fails = rest fails

-- a domain of which nothing is left
dead_at : (domains : List (List EventId)) (j : ℕ) → j < length domains → get_or domains j [] ≡ [] → list_any is_dead domains ≡ true
dead_at [] j below none = absurd (omega arith)
dead_at (ids ∷ domains) zero below none = ap (λ first. is_dead first || list_any is_dead domains) none
dead_at (ids ∷ domains) (suc j) below none = or_right (is_dead ids) (list_any is_dead domains) (dead_at domains j (omega arith) none)

-- a choice without a partner among a later atom's events is in nothing that is found
alone_later : (segments : List (List Event)) (chosen : Chosen) (atoms : List PatternAtom) (domains : List (List EventId)) (j : ℕ) (d : PatternAtom)
    → j < length atoms → length domains ≡ length atoms → list_any (may_stand segments chosen (get_or atoms j d)) (get_or domains j []) ≡ false
    → search segments atoms (narrowed segments chosen atoms domains) ≡ []
alone_later segments chosen atoms domains j d below long none =
    let left = narrowed segments chosen atoms domains in
    let long' : length left ≡ length atoms = narrowed_long segments chosen atoms domains long in
    dead_end segments atoms left long'
    (dead_at left j (omega (arith, below, long')) (narrowed_at segments chosen atoms domains j d below long ∙ none_passes (may_stand segments chosen (get_or atoms j d)) (get_or domains j []) none))

-- an element that passes is in what a filter is taken of
any_filter : {A : Type 0} (p q : A → Bool) (xs : List A) → list_any p (filter q xs) ≡ true → list_any p xs ≡ true
any_filter p q [] some = some
any_filter p q (x ∷ xs) some = by_cases (q x) (any_filter p q xs) some
  where
    first_or : (a b b' : Bool) → (b ≡ true → b' ≡ true) → (a || b) ≡ true → (a || b') ≡ true
    first_or true b b' leads h = refl
    first_or false b b' leads h = leads h

    by_cases : (b : Bool) → (list_any p (filter q xs) ≡ true → list_any p xs ≡ true) → list_any p (cond b (x ∷ filter q xs) (filter q xs)) ≡ true → (p x || list_any p xs) ≡ true
    by_cases true rest h = first_or (p x) (list_any p (filter q xs)) (list_any p xs) rest h
    by_cases false rest h = or_right (p x) (list_any p xs) (rest h)

-- what is found with a choice that is kept or has no partner
kept_or_alone : (kept partnered : Bool) (found : List (List EventId)) → (partnered ≡ true → kept ≡ true) → (partnered ≡ false → found ≡ []) → cond kept found [] ≡ found
kept_or_alone true partnered found keeps alone = refl
kept_or_alone false true found keeps alone = absurd (let no = keeps refl in cc)
kept_or_alone false false found keeps alone = sym (alone refl)

-- the first of two atoms keeps each event that has a partner
pub first_thinned : (segments : List (List Event)) (atoms : List PatternAtom) (domains : List (List EventId)) (i j : ℕ) (a b : PatternAtom) (p : EventId → Bool)
    → i < j → j < length atoms → length domains ≡ length atoms
    → ((id : EventId) → has_later segments (get_or atoms i a) (get_or atoms j b) (get_or domains j []) id ≡ true → p id ≡ true)
    → search segments atoms (slice_set domains i (filter p (get_or domains i []))) ≡ search segments atoms domains
first_thinned segments [] domains i j a b p order below long keeps = absurd (omega arith)
first_thinned segments (atom ∷ atoms) [] i j a b p order below long keeps = absurd (omega arith)
first_thinned segments (atom ∷ atoms) (ids ∷ domains) i zero a b p order below long keeps = absurd (omega arith)
first_thinned segments (atom ∷ atoms) (ids ∷ domains) zero (suc j) a b p order below long keeps =
    let left : EventId → List (List EventId) = λ id. narrowed segments (chosen_of segments atom id) atoms domains in
    flat_map-filter (λ id. map (λ rest. id ∷ rest) (search segments atoms (left id))) p ids
    ∙ flat_map_agree (λ id. cond (p id) (map (λ rest. id ∷ rest) (search segments atoms (left id))) []) (λ id. map (λ rest. id ∷ rest) (search segments atoms (left id)))
    (λ id. kept_or_alone (p id) (has_later segments atom (get_or atoms j b) (get_or domains j []) id) (map (λ rest. id ∷ rest) (search segments atoms (left id))) (keeps id)
    (λ none. ap (map (λ rest. id ∷ rest)) (alone_later segments (chosen_of segments atom id) atoms domains j b (omega arith) (omega arith) none)))
    ids
first_thinned segments (atom ∷ atoms) (ids ∷ domains) (suc i) (suc j) a b p order below long keeps =
    flat_map_agree (λ id. map (λ rest. id ∷ rest) (search segments atoms (narrowed segments (chosen_of segments atom id) atoms (slice_set domains i (filter p (get_or domains i []))))))
    (λ id. map (λ rest. id ∷ rest) (search segments atoms (narrowed segments (chosen_of segments atom id) atoms domains)))
    (λ id.
    let chosen = chosen_of segments atom id in
    let left = narrowed segments chosen atoms domains in
    ap (λ some. map (λ rest. id ∷ rest) (search segments atoms some)) (narrowed_set segments chosen atoms domains i p)
    ∙ ap (map (λ rest. id ∷ rest)) (first_thinned segments atoms left i j a b p (omega arith) (omega arith) (narrowed_long segments chosen atoms domains (omega arith))
    (λ other some. keeps other (any_filter (λ later. may_stand segments (chosen_of segments (get_or atoms i a) other) (get_or atoms j b) later) (may_stand segments chosen (get_or atoms j b)) (get_or domains j [])
    (ap (list_any (λ later. may_stand segments (chosen_of segments (get_or atoms i a) other) (get_or atoms j b) later)) (sym (narrowed_at segments chosen atoms domains j b (omega arith) (omega arith))) ∙ some)))))
    ids

-- a filter that keeps all that another keeps
filter_kept : {A : Type 0} (p q : A → Bool) (xs : List A) → ((x : A) → q x ≡ true → p x ≡ true) → filter p (filter q xs) ≡ filter q xs
filter_kept p q xs keeps = filter-filter q p xs ∙ filter_agree (λ x. q x && p x) q (λ x. both (q x) (p x) (keeps x)) xs
  where
    both : (a b : Bool) → (a ≡ true → b ≡ true) → (a && b) ≡ a
    both true b leads = leads refl
    both false b leads = refl

-- an element in its own place
set_same : {A : Type 0} (xs : List A) (i : ℕ) (d : A) → i < length xs → slice_set xs i (get_or xs i d) ≡ xs
set_same [] i d below = absurd (omega arith)
set_same (x ∷ xs) zero d below = refl
set_same (x ∷ xs) (suc i) d below = ap (λ rest. x ∷ rest) (set_same xs i d (omega arith))

-- the element is one of these: where it passes a test, one of them does
abbrev IsOne : List EventId → EventId → Type 0
IsOne ids id = (test : EventId → Bool) → test id ≡ true → list_any test ids ≡ true

-- each element is one of all
each_one : (ids : List EventId) → AllByRecursion (IsOne ids) ids
each_one ids = each_of ids (λ id one. one)
  where
    here : (a b : Bool) → a ≡ true → (a || b) ≡ true
    here true b h = refl
    here false b h = absurd (cc)

    each_of : (some : List EventId) → ((id : EventId) → IsOne some id → IsOne ids id) → AllByRecursion (IsOne ids) some
    each_of [] leads = tt
    each_of (id ∷ some) leads = (
      leads id (λ test passes. here (test id) (list_any test some) passes),
      each_of some (λ other one. leads other (λ test passes. or_right (test id) (list_any test some) (one test passes))),
    )

-- two joins that agree at each element that is there
flat_map_agree_at : {A B : Type 0} (f g : A → List B) (P : A → Type 0) → ((x : A) → P x → f x ≡ g x) → (xs : List A) → AllByRecursion P xs → flat_map f xs ≡ flat_map g xs
flat_map_agree_at f g P same [] all = refl
flat_map_agree_at f g P same (x ∷ xs) all = rw (same x all.0) (rw (flat_map_agree_at f g P same xs all.1) refl)

-- the second of two atoms keeps each event that has a partner
pub second_thinned : (segments : List (List Event)) (atoms : List PatternAtom) (domains : List (List EventId)) (i j : ℕ) (a b : PatternAtom) (p : EventId → Bool)
    → i < j → j < length atoms → length domains ≡ length atoms
    → ((id : EventId) → has_earlier segments (get_or atoms i a) (get_or atoms j b) (get_or domains i []) id ≡ true → p id ≡ true)
    → search segments atoms (slice_set domains j (filter p (get_or domains j []))) ≡ search segments atoms domains
second_thinned segments [] domains i j a b p order below long keeps = absurd (omega arith)
second_thinned segments (atom ∷ atoms) [] i j a b p order below long keeps = absurd (omega arith)
second_thinned segments (atom ∷ atoms) (ids ∷ domains) i zero a b p order below long keeps = absurd (omega arith)
second_thinned segments (atom ∷ atoms) (ids ∷ domains) zero (suc j) a b p order below long keeps =
    flat_map_agree_at (λ id. map (λ rest. id ∷ rest) (search segments atoms (narrowed segments (chosen_of segments atom id) atoms (slice_set domains j (filter p (get_or domains j []))))))
    (λ id. map (λ rest. id ∷ rest) (search segments atoms (narrowed segments (chosen_of segments atom id) atoms domains)))
    (IsOne ids)
    (λ id one.
    let chosen = chosen_of segments atom id in
    let left = narrowed segments chosen atoms domains in
    let test = may_stand segments chosen (get_or atoms j b) in
    let at : get_or left j [] ≡ filter test (get_or domains j []) = narrowed_at segments chosen atoms domains j b (omega arith) (omega arith) in
    let long' : length left ≡ length atoms = narrowed_long segments chosen atoms domains (omega arith) in
    let same : filter p (get_or left j []) ≡ get_or left j [] =
    ap (filter p) at ∙ filter_kept p test (get_or domains j []) (λ other stands. keeps other (one (λ first. may_stand segments (chosen_of segments atom first) (get_or atoms j b) other) stands)) ∙ sym at in
    ap (λ some. map (λ rest. id ∷ rest) (search segments atoms some))
    (narrowed_set segments chosen atoms domains j p ∙ ap (slice_set left j) same ∙ set_same left j [] (omega (arith, below, long'))))
    ids (each_one ids)
second_thinned segments (atom ∷ atoms) (ids ∷ domains) (suc i) (suc j) a b p order below long keeps =
    flat_map_agree (λ id. map (λ rest. id ∷ rest) (search segments atoms (narrowed segments (chosen_of segments atom id) atoms (slice_set domains j (filter p (get_or domains j []))))))
    (λ id. map (λ rest. id ∷ rest) (search segments atoms (narrowed segments (chosen_of segments atom id) atoms domains)))
    (λ id.
    let chosen = chosen_of segments atom id in
    let left = narrowed segments chosen atoms domains in
    let earlier : EventId → EventId → Bool = λ other first. may_stand segments (chosen_of segments (get_or atoms i a) first) (get_or atoms j b) other in
    ap (λ some. map (λ rest. id ∷ rest) (search segments atoms some)) (narrowed_set segments chosen atoms domains j p)
    ∙ ap (map (λ rest. id ∷ rest)) (second_thinned segments atoms left i j a b p (omega arith) (omega arith) (narrowed_long segments chosen atoms domains (omega arith))
    (λ other some. keeps other (any_filter (earlier other) (may_stand segments chosen (get_or atoms i a)) (get_or domains i [])
    (ap (list_any (earlier other)) (sym (narrowed_at segments chosen atoms domains i a (omega arith) (omega arith))) ∙ some)))))
    ids

-- an element at a place, with its own default or another
at_place : {A : Type 0} (xs : List A) (i : ℕ) (x d e : A) → i < length xs → x ≡ get_or xs i d → x ≡ get_or xs i e
at_place xs i x d e below is = is ∙ get_or_default xs i d e below

-- what is left of the first of two atoms' events finds the same
pub first_kept : (segments : List (List Event)) (atoms : List PatternAtom) (domains : List (List EventId)) (i j : ℕ) (first second : PatternAtom) (ids others d e kept : List EventId)
    → i < j → j < length atoms → length domains ≡ length atoms
    → first ≡ get_or atoms i first → second ≡ get_or atoms j second → ids ≡ get_or domains i d → others ≡ get_or domains j e
    → KeepsPartnered (has_later segments first second others) ids kept
    → FindsSame segments atoms domains (slice_set domains i kept)
unfolding KeepsPartnered
first_kept segments atoms domains i j first second ids others d e kept order below long is_first is_second are are' keeps =
    let are_ids : ids ≡ get_or domains i [] = at_place domains i ids d [] (omega (arith, order, below, long)) are in
    let are_others : others ≡ get_or domains j [] = at_place domains j others e [] (omega (arith, below, long)) are' in (
      ap (λ some. search segments atoms (slice_set domains i some)) (keeps.1 ∙ ap (filter keeps.0) are_ids)
          ∙ first_thinned segments atoms domains i j first second keeps.0 order below long
          (λ id some. keeps.2 id (ap (λ f. has_later segments f second others id) is_first ∙ ap (λ s. has_later segments (get_or atoms i first) s others id) is_second ∙ ap (λ o. has_later segments (get_or atoms i first) (get_or atoms j second) o id) are_others ∙ some)),
      length-set domains i kept ∙ long,
    )

-- what is left of the second of two atoms' events finds the same
pub second_kept : (segments : List (List Event)) (atoms : List PatternAtom) (domains : List (List EventId)) (i j : ℕ) (first second : PatternAtom) (ids others d e kept : List EventId)
    → i < j → j < length atoms → length domains ≡ length atoms
    → first ≡ get_or atoms i first → second ≡ get_or atoms j second → ids ≡ get_or domains j d → others ≡ get_or domains i e
    → KeepsPartnered (has_earlier segments first second others) ids kept
    → FindsSame segments atoms domains (slice_set domains j kept)
unfolding KeepsPartnered
second_kept segments atoms domains i j first second ids others d e kept order below long is_first is_second are are' keeps =
    let are_ids : ids ≡ get_or domains j [] = at_place domains j ids d [] (omega (arith, below, long)) are in
    let are_others : others ≡ get_or domains i [] = at_place domains i others e [] (omega (arith, order, below, long)) are' in (
      ap (λ some. search segments atoms (slice_set domains j some)) (keeps.1 ∙ ap (filter keeps.0) are_ids)
          ∙ second_thinned segments atoms domains i j first second keeps.0 order below long
          (λ id some. keeps.2 id (ap (λ f. has_earlier segments f second others id) is_first ∙ ap (λ s. has_earlier segments (get_or atoms i first) s others id) is_second ∙ ap (λ o. has_earlier segments (get_or atoms i first) (get_or atoms j second) o id) are_others ∙ some)),
      length-set domains j kept ∙ long,
    )

-- one after another
pub finds_then : (segments : List (List Event)) (atoms : List PatternAtom) (due some left : List (List EventId))
    → FindsSame segments atoms due some → FindsSame segments atoms some left → FindsSame segments atoms due left
finds_then segments atoms due some left first then = (then.0 ∙ first.0, then.1)

-- a copy finds the same
pub copy_finds : (segments : List (List Event)) (atoms : List PatternAtom) (due left copy : List (List EventId))
    → copy ≡ left → FindsSame segments atoms due left → search segments atoms copy ≡ search segments atoms due
copy_finds segments atoms due left copy is same = ap (search segments atoms) is ∙ same.0
