-- The entries on which hints rest, from the last one on.
use Rattle.std.proofs.Common.{◌≡◌, ℕ, ◌+◌, ◌-◌, ◌<◌, ◌≤◌, ◌↔◌, ◌⊎◌, inl, inr, Bool, true, false, cond, Some, List, [], ◌∷◌, ◌++◌, length, take, get_or, All, Contains, refl, sym, ◌∙◌, subst, ap, arith}
use Rattle.std.specs.Prelude.{AllPairs, IsPermutation}
use Rattle.std.specs.List.{slice_get}
use Rattle.std.specs.BTreeSet.{BTreeSet, Updates}
use Rattle.std.specs.BTreeSet as sorted
use Rattle.std.specs.BTreeMap.{is_at}
use Rattle.std.specs.Cmp.{nat_cmp_total}
use Rattle.std.specs.Ordering.{nat_cmp}
use Rattle.std.specs.declared.cmp.Ordering.TheVariants.{Less}
use Rattle.std.proofs.lemmas.Cmp.{ranked}
use Rattle.std.proofs.lemmas.List.{take_more}
use Rattle.std.proofs.lemmas.List.Elements.{All-nil, All-contains, Contains-push, Contains-push_cases, Contains-append_left, Contains-get_or}
use Rattle.std.proofs.lemmas.List.Sorted.{Contains-permutation, IsPermutation-sym}
use Rattle.std.proofs.lemmas.List.Quantifiers.{all_pairs_push}
use Rattle.std.proofs.lemmas.Map.Lookups.{exact_unsigned}
use Rattle.std.proofs.lemmas.Map.Views.{btree_set_contains_iff, tells_apart}
use Rattle.std.proofs.lemmas.Option.{same_Some, slice_get_within}
use Rattle.gp_certificate.specs.declared.step.Step.{Step}
use Rattle.gp_derivation.specs.declared.log.LogEntry.{LogEntry}
use Rattle.gp_derivation.specs.declared.log.Origin.{Origin}
use Rattle.gp_derivation.specs.declared.log.Origin.TheVariants.{Learned, Taken}
use Rattle.gp_derivation.specs.Reach.{rests_on, IsReached}
use Rattle.gp_derivation.specs.Numbering.{NamesEarlier}
use Rattle.gp_derivation.specs.Reach.IsReached.{direct, through}
use Rattle.gp_base.specs.ListLaws.{nothing_in}

-- an entry rests on earlier ones
pub rests_earlier : (bases place : ℕ) (step : Step) (origin : Origin) → NamesEarlier bases place step origin → All (λ hint. hint < bases + place) (rests_on step origin)
rests_earlier bases place step Learned names = names
rests_earlier bases place step (Taken sender certificate) names = All-nil (λ hint. hint < bases + place)

-- a queue holds what another one held, and what hints name
abbrev pub IsQueued : ℕ → List ℕ → List ℕ → List ℕ → Type 0
IsQueued bases hints before after = (place : ℕ) → Contains after place ↔ (Contains before place ⊎ Contains hints (bases + place))

pub queued_none : (bases : ℕ) (before : List ℕ) → IsQueued bases [] before before
queued_none bases before = λ place. (λ is. inl is, λ either. at place either)
  where
    at : (place : ℕ) → Contains before place ⊎ Contains [] (bases + place) → Contains before place
    at place (inl is) = is
    at place (inr (k, below, is)) = absurd (omega (arith, below))

-- one hint more
pub queued_more : (bases : ℕ) (hints before mid after : List ℕ) (i : ℕ) → i < length hints → IsQueued bases (take i hints) before mid
    → ((place : ℕ) → Contains after place ↔ (Contains mid place ⊎ (get_or hints i 0 ≡ bases + place))) → IsQueued bases (take (i + 1) hints) before after
queued_more bases hints before mid after i within so_far one = subst (λ (xs : List ℕ). IsQueued bases xs before after) (sym (take_more hints i 0 within)) (λ place. (there place, back place))
  where
    first : List ℕ
    first = take i hints

    last : ℕ
    last = get_or hints i 0

    there : (place : ℕ) → Contains after place → Contains before place ⊎ Contains (first ++ last ∷ []) (bases + place)
    there place is = elim ((one place).0 is) [
      | inl was ↦ elim ((so_far place).0 was) [
        | inl old ↦ inl old
        | inr named ↦ inr (Contains-append_left first (last ∷ []) (bases + place) named)
      ]
      | inr same ↦ inr (subst (λ (n : ℕ). Contains (first ++ last ∷ []) n) same (Contains-push first last))
    ]

    back : (place : ℕ) → Contains before place ⊎ Contains (first ++ last ∷ []) (bases + place) → Contains after place
    back place (inl old) = (one place).1 (inl ((so_far place).1 (inl old)))
    back place (inr named) = elim (Contains-push_cases first last (bases + place) named) [
      | inl earlier ↦ (one place).1 (inl ((so_far place).1 (inr earlier)))
      | inr same ↦ (one place).1 (inr same)
    ]

-- what a set holds after an insert
pub inserted : (old new : BTreeSet ℕ) (key : ℕ) → Updates nat_cmp old new key true → (place : ℕ) → Contains new.keys place ↔ (Contains old.keys place ⊎ (place ≡ key))
inserted old new key updates place = (there, back)
  where
    told : (b : Bool) → is_at (nat_cmp key) place ≡ b → cond b true (sorted.contains nat_cmp old place) ≡ true → Contains old.keys place ⊎ (place ≡ key)
    told true same is = inr (sym (tells_apart exact_unsigned key place same))
    told false differ is = inl ((btree_set_contains_iff nat_cmp_total exact_unsigned old place).0 is)

    there : Contains new.keys place → Contains old.keys place ⊎ (place ≡ key)
    there is = told (is_at (nat_cmp key) place) refl (sym (updates.0 place) ∙ (btree_set_contains_iff nat_cmp_total exact_unsigned new place).1 is)

    either_way : (b : Bool) → cond b true true ≡ true
    either_way true = refl
    either_way false = refl

    back : Contains old.keys place ⊎ (place ≡ key) → Contains new.keys place
    back (inl is) = (btree_set_contains_iff nat_cmp_total exact_unsigned new place).0
        (updates.0 place ∙ ap (λ (b : Bool). cond (is_at (nat_cmp key) place) true b) ((btree_set_contains_iff nat_cmp_total exact_unsigned old place).1 is) ∙ either_way (is_at (nat_cmp key) place))
    back (inr same) = subst (λ (n : ℕ). Contains new.keys n) (sym same) ((btree_set_contains_iff nat_cmp_total exact_unsigned new key).0 updates.1)

-- what a hint adds to a queue
pub named_one : (bases hint : ℕ) (before after : List ℕ) → bases ≤ hint → ((place : ℕ) → Contains after place ↔ (Contains before place ⊎ (place ≡ hint - bases)))
    → (place : ℕ) → Contains after place ↔ (Contains before place ⊎ (hint ≡ bases + place))
named_one bases hint before after least one place = (there, back)
  where
    there : Contains after place → Contains before place ⊎ (hint ≡ bases + place)
    there is = elim ((one place).0 is) [ inl was ↦ inl was | inr same ↦ inr (omega (arith, same, least)) ]

    back : Contains before place ⊎ (hint ≡ bases + place) → Contains after place
    back (inl was) = (one place).1 (inl was)
    back (inr same) = (one place).1 (inr (omega (arith, same)))

pub base_named : (bases hint : ℕ) (before : List ℕ) → hint < bases → (place : ℕ) → Contains before place ↔ (Contains before place ⊎ (hint ≡ bases + place))
base_named bases hint before less place = (λ is. inl is, back)
  where
    back : Contains before place ⊎ (hint ≡ bases + place) → Contains before place
    back (inl is) = is
    back (inr same) = absurd (omega (arith, same, less))

-- the entries on which hints rest were visited down to a place: what they name was visited or is still queued
pub record IsDescended (bases : ℕ) (log : List LogEntry) (hints : List ℕ) (bound : ℕ) (places todo : List ℕ) : Type 0 where
  pub within : bound ≤ length log
  pub sound : (place : ℕ) → Contains places place ⊎ Contains todo place → IsReached bases log hints place
  pub named : (place : ℕ) → Contains hints (bases + place) → Contains places place ⊎ Contains todo place
  pub done : (other : ℕ) (entry : LogEntry) → Contains places other → slice_get log other ≡ Some entry → (place : ℕ) → Contains (rests_on entry.step entry.origin) (bases + place) → Contains places place ⊎ Contains todo place
  pub above : (place : ℕ) → Contains places place → bound ≤ place
  pub below : (place : ℕ) → Contains todo place → place < bound
  pub falling : AllPairs (λ (a b : ℕ). b < a) places

-- at first what the hints name is queued
pub descended_none : (bases : ℕ) (log : List LogEntry) (hints before todo : List ℕ) → before ≡ [] → All (λ hint. hint < bases + length log) hints → IsQueued bases hints before todo → IsDescended bases log hints (length log) [] todo
descended_none bases log hints before todo empty within queued = record {
  within = omega arith;
  sound = λ place either. elim either [ inl none ↦ absurd (nothing_in place none) | inr is ↦ direct place (from_hints place is) ];
  named = λ place by. inr ((queued place).1 (inr by));
  done = λ other entry none got place by. absurd (nothing_in other none);
  above = λ place none. absurd (nothing_in place none);
  below = λ place is. let less : bases + place < bases + length log = All-contains (λ h. h < bases + length log) hints (bases + place) within (from_hints place is) in omega (arith, less);
  falling = λ i j d before_it inside. absurd (omega (arith, inside));
}
  where
    from_hints : (place : ℕ) → Contains todo place → Contains hints (bases + place)
    from_hints place is = elim ((queued place).0 is) [
      | inl was ↦ absurd (nothing_in place (subst (λ (xs : List ℕ). Contains xs place) empty was))
      | inr by ↦ by
    ]

-- the last queued entry is visited
pub descended_more : (bases : ℕ) (log : List LogEntry) (hints : List ℕ) (bound : ℕ) (places todo rest after : List ℕ) (place : ℕ) (entry : LogEntry) → slice_get log place ≡ Some entry → NamesEarlier bases place entry.step entry.origin
    → todo ≡ rest ++ place ∷ [] → ((q : ℕ) → Contains rest q → q < place) → IsQueued bases (rests_on entry.step entry.origin) rest after
    → IsDescended bases log hints bound places todo → IsDescended bases log hints place (places ++ place ∷ []) after
descended_more bases log hints bound places todo rest after place entry got names parts less queued old = record {
  within = omega (arith, slice_get_within log place entry got);
  sound = λ q either. elim either [
    | inl visited ↦ elim (Contains-push_cases places place q visited) [
      | inl earlier ↦ old.sound q (inl earlier)
      | inr same ↦ subst (λ (n : ℕ). IsReached bases log hints n) same it
    ]
    | inr waiting ↦ elim ((queued q).0 waiting) [
      | inl was ↦ old.sound q (inr (in_todo q was))
      | inr by ↦ through q place entry it got by
    ]
  ];
  named = λ q by. moves q (old.named q by);
  done = λ other own visited at q by. elim (Contains-push_cases places place other visited) [
    | inl earlier ↦ moves q (old.done other own earlier at q by)
    | inr same ↦
        let equal : own ≡ entry = same_Some own entry (sym at ∙ ap (λ k. slice_get log k) (sym same) ∙ got) in
        inr ((queued q).1 (inr (subst (λ (e : LogEntry). Contains (rests_on e.step e.origin) (bases + q)) equal by)))
  ];
  above = λ q visited. elim (Contains-push_cases places place q visited) [
    | inl earlier ↦ omega (arith, old.above q earlier, old.below place mine)
    | inr same ↦ omega (arith, same)
  ];
  below = λ q waiting. elim ((queued q).0 waiting) [
    | inl was ↦ less q was
    | inr by ↦ let earlier : bases + q < bases + place = All-contains (λ h. h < bases + place) (rests_on entry.step entry.origin) (bases + q) (rests_earlier bases place entry.step entry.origin names) by in omega (arith, earlier)
  ];
  falling = all_pairs_push (λ (a b : ℕ). b < a) places place old.falling (λ k d inside. omega (arith, old.above (get_or places k d) (Contains-get_or places k d inside), old.below place mine));
}
  where
    in_todo : (q : ℕ) → Contains rest q → Contains todo q
    in_todo q is = subst (λ (xs : List ℕ). Contains xs q) (sym parts) (Contains-append_left rest (place ∷ []) q is)

    mine : Contains todo place
    mine = subst (λ (xs : List ℕ). Contains xs place) (sym parts) (Contains-push rest place)

    it : IsReached bases log hints place
    it = old.sound place (inr mine)

    moves : (q : ℕ) → Contains places q ⊎ Contains todo q → Contains (places ++ place ∷ []) q ⊎ Contains after q
    moves q (inl visited) = inl (Contains-append_left places (place ∷ []) q visited)
    moves q (inr waiting) = elim (Contains-push_cases rest place q (subst (λ (xs : List ℕ). Contains xs q) parts waiting)) [
      | inl was ↦ inr ((queued q).1 (inl was))
      | inr same ↦ inl (subst (λ (n : ℕ). Contains (places ++ place ∷ []) n) same (Contains-push places place))
    ]

-- with an empty queue all that is reached was visited
pub descended_all : (bases : ℕ) (log : List LogEntry) (hints : List ℕ) (bound : ℕ) (places todo : List ℕ) → todo ≡ [] → IsDescended bases log hints bound places todo
    → (place : ℕ) → IsReached bases log hints place → Contains places place
descended_all bases log hints bound places todo empty old place (direct p by) = elim (old.named p by) [
  | inl visited ↦ visited
  | inr waiting ↦ absurd (nothing_in p (subst (λ (xs : List ℕ). Contains xs p) empty waiting))
]
descended_all bases log hints bound places todo empty old place (through p other entry reached got by) = elim (old.done other entry (descended_all bases log hints bound places todo empty old other reached) got p by) [
  | inl visited ↦ visited
  | inr waiting ↦ absurd (nothing_in p (subst (λ (xs : List ℕ). Contains xs p) empty waiting))
]

-- the last place that is queued is queued
pub last_queued : (todo rest : List ℕ) (place : ℕ) → todo ≡ rest ++ place ∷ [] → Contains todo place
last_queued todo rest place is = subst (λ (xs : List ℕ). Contains xs place) (sym is) (Contains-push rest place)

-- the numbers that come before the last one in a set are below it
pub below_last : (rest : List ℕ) (place : ℕ) → All (λ q. nat_cmp q place ≡ Less) rest → (q : ℕ) → Contains rest q → q < place
below_last rest place all q is = ranked q place Less (sym (All-contains (λ x. nat_cmp x place ≡ Less) rest q all is))

-- what is told of each element is told in another order
pub told_in_order : (P : ℕ → Type 0) (xs ys : List ℕ) → IsPermutation xs ys → ((place : ℕ) → Contains xs place ↔ P place) → (place : ℕ) → Contains ys place ↔ P place
told_in_order P xs ys moves told place = (
  λ is. (told place).0 (Contains-permutation ys xs place (IsPermutation-sym xs ys moves) is),
  λ holds. Contains-permutation xs ys place moves ((told place).1 holds),
)

-- where an answer says that nothing is left, nothing is
pub none_left : (keys : List ℕ) → (0 < length keys → false ≡ true) → keys ≡ []
none_left [] some = refl
none_left (x ∷ xs) some = absurd (let wrong : false ≡ true = some (omega arith) in let clash : ⊥ = cc in clash)
