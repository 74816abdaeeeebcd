-- Where an event may stand beside one that counts as a partner, it may have a partner.
use Rattle.std.proofs.Common.{◌≡◌, refl, ap, ◌∙◌, sym, ℕ, suc, ◌⊎◌, inl, inr, Bool, true, false, not, cond, List, [], ◌∷◌, arith}
use Rattle.std.specs.Prelude.{◌&&◌, ◌||◌, ◌==◌, All, Some, nat_lt}
use Rattle.std.specs.List.{list_any}
use Rattle.std.proofs.lemmas.Bool.Decides.{nat_tests}
use Rattle.gp_trace.specs.declared.event.Event.{Event}
use Rattle.gp_window.specs.declared.schedule.EventId.{EventId}
use Rattle.gp_property.specs.declared.atoms.PatternAtom.{PatternAtom}
use Rattle.gp_instance.specs.declared.link.Link.{Link}
use Rattle.gp_instance.specs.declared.link.Side.{Side}
use Rattle.gp_instance.specs.declared.link.Side.TheVariants.{First, Second}
use Rattle.gp_instance.specs.declared.partners.Partners.{Partners}
use Rattle.gp_instance.specs.declared.span.Span.{Span}
use Rattle.gp_window.specs.Events.{event_in}
use Rattle.gp_window.specs.Ids.{is_less, is_same}
use Rattle.gp_instance.specs.Partners.{Counts, has_partner, is_bound, IsHeld, IsLink, IsWithin, key_of, may_pair, names_with, reaches, reaches_some, span_at, across}
use Rattle.gp_instance.specs.Search.{chosen_of, may_stand}
use Rattle.gp_instance.proofs.Keys.{same_keys, stands, Stands}

-- other threads than that of an event between two others
reach_thread : (id other first last : EventId) → (id.thread == other.thread) ≡ false → is_less other first ≡ false → is_less last other ≡ false
    → (not (first.thread == id.thread) || not (last.thread == id.thread)) ≡ true
reach_thread id other first last apart from to = grind (arith, nat_tests)

-- other events than one between two others
reach_other : (id other first last : EventId) → is_same id other ≡ false → is_less other first ≡ false → is_less last other ≡ false
    → (not (is_same first id) || not (is_same last id)) ≡ true
reach_other id other first last apart from to = grind (arith, nat_tests)

-- an event before one that is not after the last
reach_last : (id other last : EventId) → id.thread ≡ other.thread → nat_lt id.index other.index ≡ true → is_less last other ≡ false → is_less id last ≡ true
reach_last id other last same rises to = grind (arith, nat_tests)

-- an event after one that is not before the first
reach_first : (id other first : EventId) → other.thread ≡ id.thread → nat_lt other.index id.index ≡ true → is_less other first ≡ false → is_less first id ≡ true
reach_first id other first same rises from = grind (arith, nat_tests)

-- the same test the other way round
eqb_swap : (a b : ℕ) → (a == b) ≡ (b == a)
eqb_swap a b = grind (arith, nat_tests)

same_swap : (one other : EventId) → is_same one other ≡ is_same other one
same_swap one other = ap (λ t. t && one.index == other.index) (eqb_swap one.thread other.thread) ∙ ap (λ i. other.thread == one.thread && i) (eqb_swap one.index other.index)

-- what each side of two atoms reaches in a span in which its partner is
reach_of : (thread step : Bool) (id other : EventId) (span : Span) (inside : Bool)
    → (thread ≡ false → (id.thread == other.thread) ≡ false) → is_same id other ≡ false → (thread ≡ true → step ≡ false → inside ≡ true) → IsWithin span other
    → cond thread (cond step (not (is_same span.first id) || not (is_same span.last id)) inside) (not (span.first.thread == id.thread) || not (span.last.thread == id.thread)) ≡ true
reach_of true true id other span inside apart differ further within = reach_other id other span.first span.last differ within.from within.to
reach_of true false id other span inside apart differ further within = further refl refl
reach_of false step id other span inside apart differ further within = reach_thread id other span.first span.last (apart refl) within.from within.to

-- the event of the first atom reaches its partner
reach_later : (segments : List (List Event)) (first second : PatternAtom) (link : Link) (a b : EventId) (span : Span)
    → IsLink first second link → Stands segments first second a b → IsWithin span b → reaches link First a span ≡ true
reach_later segments first second link a b span is keep within =
    reach_of link.same_thread link.same_step a b span (is_less a span.last) (λ h. keep.other_thread (sym is.thread ∙ h)) keep.apart
    (λ h h'. let same = keep.same_thread (sym is.thread ∙ h) in reach_last a b span.last same (keep.rises same (sym is.step ∙ h')) within.to)
    within

-- the event of the second atom reaches its partner
reach_earlier : (segments : List (List Event)) (first second : PatternAtom) (link : Link) (a b : EventId) (span : Span)
    → IsLink first second link → Stands segments first second a b → IsWithin span a → reaches link Second b span ≡ true
reach_earlier segments first second link a b span is keep within =
    reach_of link.same_thread link.same_step b a span (is_less span.first b) (λ h. eqb_swap b.thread a.thread ∙ keep.other_thread (sym is.thread ∙ h)) (same_swap b a ∙ keep.apart)
    (λ h h'. let same = keep.same_thread (sym is.thread ∙ h) in reach_first b a span.first same (keep.rises same (sym is.step ∙ h')) within.from)
    within

-- what may pair, by its three reasons
may_of : (bound free : Bool) (reached : Bool) → ((free ≡ true) ⊎ (bound ≡ true → reached ≡ true)) → (not bound || free || reached) ≡ true
may_of false free reached reason = refl
may_of true true reached reason = refl
may_of true false reached (inl h) = absurd (cc)
may_of true false reached (inr h) = h refl

-- an event of the first atom with a partner that counts
pair_later : (segments : List (List Event)) (first second : PatternAtom) (link : Link) (partners : Partners) (a b : EventId)
    → IsLink first second link → Stands segments first second a b → Counts segments link Second partners b → may_pair segments link First partners a ≡ true
unfolding may_pair Counts IsHeld
pair_later segments first second link partners a b is keep (inl free) = may_of (is_bound First link.shared (names_with (event_in segments a))) partners.free _ (inl free)
pair_later segments first second link partners a b is keep (inr (bound', held)) =
    may_of (is_bound First link.shared (names_with (event_in segments a))) partners.free _
    (inr (λ bound.
    let at : span_at partners.spans (key_of segments link First a) ≡ Some held.0 = ap (span_at partners.spans) (same_keys segments first second link a b is keep bound bound') ∙ held.1 in
    ap (reaches_some link First a) at ∙ reach_later segments first second link a b held.0 is keep held.2))

-- an event of the second atom with a partner that counts
pair_earlier : (segments : List (List Event)) (first second : PatternAtom) (link : Link) (partners : Partners) (a b : EventId)
    → IsLink first second link → Stands segments first second a b → Counts segments link First partners a → may_pair segments link Second partners b ≡ true
unfolding may_pair Counts IsHeld
pair_earlier segments first second link partners a b is keep (inl free) = may_of (is_bound Second link.shared (names_with (event_in segments b))) partners.free _ (inl free)
pair_earlier segments first second link partners a b is keep (inr (bound, held)) =
    may_of (is_bound Second link.shared (names_with (event_in segments b))) partners.free _
    (inr (λ bound'.
    let at : span_at partners.spans (key_of segments link Second b) ≡ Some held.0 = ap (span_at partners.spans) (sym (same_keys segments first second link a b is keep bound bound')) ∙ held.1 in
    ap (reaches_some link Second b) at ∙ reach_earlier segments first second link a b held.0 is keep held.2))

-- some element that passes a test, where each that does leads to a claim
some_leads : {A : Type 0} (test : A → Bool) (P : A → Type 0) (Claim : Type 0) (xs : List A) → ((x : A) → P x → test x ≡ true → Claim) → All P xs → list_any test xs ≡ true → Claim
some_leads test P Claim [] leads all some = absurd (cc)
some_leads test P Claim (x ∷ xs) leads all some =
    by_cases (test x) (λ passes. leads x (all 0 x (omega arith)) passes) (λ rest. some_leads test P Claim xs leads (λ k d below. all (suc k) d (omega (arith, below))) rest) some
  where
    by_cases : (b : Bool) → (b ≡ true → Claim) → (list_any test xs ≡ true → Claim) → (b || list_any test xs) ≡ true → Claim
    by_cases true here rest h = here refl
    by_cases false here rest h = rest h

-- an event that has a partner may pair
pub partnered_pairs : (segments : List (List Event)) (first second : PatternAtom) (link : Link) (side : Side) (partners : Partners) (others : List EventId) (id : EventId)
    → IsLink first second link → All (Counts segments link (across side) partners) others → has_partner segments first second side others id ≡ true
    → may_pair segments link side partners id ≡ true
partnered_pairs segments first second link First partners others id is all some =
    some_leads (λ other. may_stand segments (chosen_of segments first id) second other) (Counts segments link Second partners) _ others
    (λ other counts may. pair_later segments first second link partners id other is (stands segments first second id other may) counts) all some
partnered_pairs segments first second link Second partners others id is all some =
    some_leads (λ other. may_stand segments (chosen_of segments first other) second id) (Counts segments link First partners) _ others
    (λ other counts may. pair_earlier segments first second link partners other id is (stands segments first second other id may) counts) all some
