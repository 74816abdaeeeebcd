-- One step of the walk along the trail.
use Rattle.std.proofs.Common.{◌≡◌, ◌≢◌, refl, sym, ◌∙◌, ap, subst, ℕ, ◌+◌, ◌<◌, ◌≤◌, Bool, true, false, Some, None, List, [], ◌∷◌, ◌++◌, length, get_or, cond, ◌==◌, ◌⊎◌, inl, inr, arith}
use Rattle.std.specs.Prelude.{Contains}
use Rattle.std.proofs.lemmas.List.Elements.{Contains-push, Contains-push_cases, Contains-append_left}
use Rattle.std.proofs.lemmas.List.Sums.{sum_by-append}
use Rattle.std.proofs.lemmas.Bool.{cases_eq, cases_lt, ne_eqb}
use Rattle.gp_clause.specs.declared.lit.Lit.{Lit}
use Rattle.gp_clause.specs.Lit.{opposite}
use Rattle.gp_clause.specs.Clause.{occurrences}
use Rattle.gp_sat.specs.declared.analysis.Stop.{Stop}
use Rattle.gp_sat.specs.declared.analysis.Stop.TheVariants.{FirstPoint}
use Rattle.gp_sat.specs.declared.assigned.Assigned.{Assigned}
use Rattle.gp_sat.specs.State.{SolverForm, assigned, clause_at}
use Rattle.gp_sat.specs.Standing.{Each, IsForcing, IsFalseBefore}
use Rattle.gp_sat.specs.Sound.{IsSound, true_lit}
use Rattle.gp_sat.specs.Learning.{IsBelowLevel}
use Rattle.gp_sat.specs.Marking.{IsMarked, IsPresentAt, HasMarked, StopsAt, GoesOn, FollowsReason, Marks}
use Rattle.gp_sat.specs.Queueing.{IsAssigned, IsMarkedAt, IsMarkedOrBefore}
use Rattle.gp_sat.specs.Walking.{IsFollowed, IsStopped, IsPointing, IsWalked}
use Rattle.gp_sat.proofs.Marked.{one_at}
use Rattle.std.proofs.Math.Bool.{not-not}

-- an assigned variable at a place of the trail
pub record Stands (s : SolverForm) (place variable : ℕ) (a : Assigned) : Type 0 where
  pub is : assigned s variable ≡ Some a
  pub there : a.place ≡ place

stopped_less : (s : SolverForm) (stop : Stop) (place : ℕ) (lit : Lit) → IsStopped s stop (place + 1) lit → IsStopped s stop place lit
stopped_less s stop place lit old = record { value = old.value; is = old.is; opposes = old.opposes; from = omega (arith, old.from); decided = old.decided; above = old.above }

marked_more : (s : SolverForm) (marks : List Bool) (place : ℕ) → HasMarked s marks place → HasMarked s marks (place + 1)
marked_more s marks place (at, below, is) = (at, omega (arith, below), is)

-- a marked one before the next place is at this place or before it
marked_cases : (s : SolverForm) (marks : List Bool) (place : ℕ) → HasMarked s marks (place + 1) → IsPresentAt s marks place ⊎ HasMarked s marks place
marked_cases s marks place (at, below, is) = elim (cases_eq at place) [
  | inl same ↦ inl (subst (λ (n : ℕ). IsPresentAt s marks n) same is)
  | inr differ ↦ inr (at, omega (arith, below, differ), is)
]

-- a present one at the place of an assignment is that assignment
present_is : (s : SolverForm) (place v : ℕ) (a : Assigned) (marks : List Bool) → IsSound s → Stands s place v a → IsPresentAt s marks place → IsMarked marks v × (a.level ≡ s.level)
present_is s place v a marks sound stands present =
    let one : (true_lit present.variable present.value ≡ true_lit v a) × (present.variable ≡ v) × (present.value ≡ a) = one_at s sound v present.variable a present.value stands.is present.is (present.there ∙ sym stands.there) in
    (subst (λ (n : ℕ). IsMarked marks n) one.1 present.marked, sym (ap (λ (x : Assigned). x.level) one.2) ∙ present.present)

-- no marked literal is left between two places
pub walked_down : (s : SolverForm) (stop : Stop) (bound low : ℕ) (marks : List Bool) (lits : List Lit) (hints : List ℕ) → low ≤ bound
    → ((variable : ℕ) (a : Assigned) → assigned s variable ≡ Some a → IsMarked marks variable → a.place < bound → a.place < low)
    → IsWalked s stop bound marks lits hints → IsWalked s stop low marks lits hints
walked_down s stop bound low marks lits hints less none old = record {
  size = old.size;
  true_marks = old.true_marks;
  handled = λ w b wb marked from. elim (cases_lt b.place bound) [
    | inl below ↦ absurd (omega (arith, from, none w b wb marked below))
    | inr past ↦ old.handled w b wb marked past
  ];
  reasons = old.reasons;
  stopped = λ lit is.
      let was : IsStopped s stop bound lit = old.stopped lit is in
      record { value = was.value; is = was.is; opposes = was.opposes; from = omega (arith, was.from, less); decided = was.decided; above = was.above };
  once = old.once;
  absent = λ w before. old.absent w (λ b wb. omega (arith, before b wb, less));
  pointing = λ first. elim (old.pointing first) [
    | inl coming ↦ inl (nearer coming.0, coming.1)
    | inr done ↦ inr (λ has. done.0 (farther has), done.1)
  ];
}
  where
    nearer : HasMarked s marks bound → HasMarked s marks low
    nearer (at, below, p) = (at, omega (arith, none p.variable p.value p.is p.marked (omega (arith, p.there, below)), p.there), p)

    farther : HasMarked s marks low → HasMarked s marks bound
    farther (at, below, p) = (at, omega (arith, below, less), p)

-- one, where a test holds
abbrev one_if : Bool → ℕ
one_if b = cond b 1 0

-- one literal more
occurrences_more : (variable : ℕ) (lits : List Lit) (lit : Lit) → occurrences variable (lits ++ lit ∷ []) ≡ occurrences variable lits + one_if (lit.variable == variable)
occurrences_more variable lits lit = omega (arith, sum_by-append (λ (x : Lit). cond (x.variable == variable) 1 0) lits (lit ∷ []))

counted_few : (b : Bool) → one_if b ≤ 1
counted_few true = omega arith
counted_few false = omega arith

below_push : (s : SolverForm) (lits : List Lit) (lit : Lit) → Each (IsBelowLevel s s.level) lits → IsBelowLevel s s.level lit → Each (IsBelowLevel s s.level) (lits ++ lit ∷ [])
below_push s lits lit each here = λ other is. elim (Contains-push_cases lits lit other is) [
  | inl before ↦ each other before
  | inr same ↦ subst (λ (l : Lit). IsBelowLevel s s.level l) same here
]

-- exactly one literal of the present level was kept, or none and one is still to come
stops_pointing : (s : SolverForm) (place : ℕ) (marks : List Bool) (lits : List Lit) (v : ℕ) (a : Assigned) → IsSound s → Stands s place v a → IsMarked marks v
    → (a.level ≡ s.level → HasMarked s marks a.place → ⊥) → IsPointing s (place + 1) marks lits → IsPointing s place marks (lits ++ opposite (true_lit v a) ∷ [])
stops_pointing s place marks lits v a sound stands marked stops pointing = elim (cases_eq a.level s.level) [
  | inl present ↦ elim pointing [
    | inl coming ↦ inr (
      λ has. stops present (subst (λ (n : ℕ). HasMarked s marks n) (sym stands.there) has),
      record {
        lit = opposite (true_lit v a);
        within = Contains-push lits (opposite (true_lit v a));
        present = (a, stands.is, present);
        others = λ other is apart. elim (Contains-push_cases lits (opposite (true_lit v a)) other is) [
          | inl before ↦ coming.1 other before
          | inr same ↦ absurd (apart (sym same))
        ];
      },
    )
    | inr done ↦ absurd (done.0 (place, omega arith, record { variable = v; value = a; is = stands.is; there = stands.there; marked = marked; present = present }))
  ]
  | inr lower ↦
      let below : a.level < s.level = omega (arith, lower, (sound.ordered.present v a stands.is).0) in
      elim pointing [
        | inl coming ↦ elim (marked_cases s marks place coming.0) [
          | inl here ↦ absurd (lower (present_is s place v a marks sound stands here).1)
          | inr before ↦ inl (before, below_push s lits (opposite (true_lit v a)) coming.1 (a, stands.is, below))
        ]
        | inr done ↦ inr (
          λ has. done.0 (marked_more s marks place has),
          record {
            lit = done.1.lit;
            within = Contains-append_left lits (opposite (true_lit v a) ∷ []) done.1.lit done.1.within;
            present = done.1.present;
            others = λ other is apart. elim (Contains-push_cases lits (opposite (true_lit v a)) other is) [
              | inl before ↦ done.1.others other before apart
              | inr same ↦ subst (λ (l : Lit). IsBelowLevel s s.level l) same (a, stands.is, below)
            ];
          },
        )
      ]
]

-- the walk stops at the literal
pub visit_stops : (s : SolverForm) (stop : Stop) (place : ℕ) (marks : List Bool) (lits : List Lit) (hints : List ℕ) (v : ℕ) (a : Assigned) → IsSound s → Stands s place v a
    → IsMarked marks v → StopsAt s stop marks a → IsWalked s stop (place + 1) marks lits hints → IsWalked s stop place marks (lits ++ opposite (true_lit v a) ∷ []) hints
visit_stops s stop place marks lits hints v a sound stands marked stops old = record {
  size = old.size;
  true_marks = old.true_marks;
  handled = λ w b wb is low. elim (cases_eq b.place place) [
    | inl same ↦ inl (subst (λ (l : Lit). Contains (lits ++ opposite (true_lit v a) ∷ []) (opposite l)) (sym (one_at s sound v w a b stands.is wb (same ∙ sym stands.there)).0)
        (Contains-push lits (opposite (true_lit v a))))
    | inr differ ↦ elim (old.handled w b wb is (omega (arith, low, differ))) [
      | inl kept ↦ inl (Contains-append_left lits (opposite (true_lit v a) ∷ []) (opposite (true_lit w b)) kept)
      | inr followed ↦ inr followed
    ]
  ];
  reasons = old.reasons;
  stopped = λ lit is. elim (Contains-push_cases lits (opposite (true_lit v a)) lit is) [
    | inl before ↦ stopped_less s stop place lit (old.stopped lit before)
    | inr same ↦ subst (λ (l : Lit). IsStopped s stop place l) same (record {
      value = a;
      is = stands.is;
      opposes = sym (not-not a.positive);
      from = omega (arith, stands.there);
      decided = λ final. subst (λ (t : Stop). StopsAt s t marks a) final stops;
      above = λ first. above_bottom (subst (λ (t : Stop). StopsAt s t marks a) first stops).1;
    })
  ];
  once = λ w. elim (cases_eq w v) [
    | inl same ↦ omega (arith, occurrences_more w lits (opposite (true_lit v a)), counted_few (v == w), gone w same)
    | inr differ ↦ omega (arith, occurrences_more w lits (opposite (true_lit v a)), old.once w, other w differ)
  ];
  absent = λ w none. elim (cases_eq w v) [
    | inl same ↦ absurd (let here : assigned s w ≡ Some a = ap (assigned s) same ∙ stands.is in omega (arith, none a here, stands.there))
    | inr differ ↦ omega (arith, occurrences_more w lits (opposite (true_lit v a)), old.absent w (λ b wb. omega (arith, none b wb)), other w differ)
  ];
  pointing = λ first. stops_pointing s place marks lits v a sound stands marked (subst (λ (t : Stop). StopsAt s t marks a) first stops).0 (old.pointing first);
}
  where
    -- an assignment of level 0 has a reason
    above_bottom : (a.level ≡ 0 → a.reason ≡ None) → 0 < a.level
    above_bottom none = elim (cases_eq a.level 0) [
      | inl bottom ↦ (sound.explained.first v a stands.is (none bottom)).0
      | inr above ↦ omega (arith, above)
    ]

    other : (w : ℕ) → w ≢ v → one_if (v == w) ≡ 0
    other w differ = rw (ne_eqb v w (λ e. differ (sym e))) refl

    gone : (w : ℕ) → w ≡ v → occurrences w lits ≡ 0
    gone w same = old.absent w (λ b wb.
        let here : assigned s v ≡ Some b = ap (assigned s) (sym same) ∙ wb in
        let equal : b ≡ a = let is : assigned s v ≡ Some a = stands.is in cc in
        omega (arith, ap (λ (x : Assigned). x.place) equal, stands.there))

-- a variable of the clause of a followed reason is that of the literal or assigned before it
pub before_or_here : (s : SolverForm) (v : ℕ) (a : Assigned) (number : ℕ) → IsSound s → assigned s v ≡ Some a → a.reason ≡ Some number → (lit : Lit) → Contains (clause_at s.clauses number) lit
    → (lit.variable ≡ v) ⊎ ((b : Assigned) × (assigned s lit.variable ≡ Some b) × (b.place < a.place))
before_or_here s v a number sound is reason lit within = elim (cases_eq lit.variable v) [
  | inl same ↦ inl same
  | inr differ ↦
      let forcing : IsForcing (assigned s) (clause_at s.clauses number) (true_lit v a) a.place = (sound.explained.forced v a number is reason).1 in
      let fell : IsFalseBefore a.place (assigned s) lit = forcing.others lit within (λ e. differ (ap (λ (l : Lit). l.variable) e)) in
      inr (fell.0, fell.1, fell.3)
]

-- what is marked by a followed reason
newly : (s : SolverForm) (v : ℕ) (a : Assigned) (number : ℕ) (marks new : List Bool) → IsSound s → assigned s v ≡ Some a → a.reason ≡ Some number → Marks marks new (clause_at s.clauses number)
    → (w : ℕ) → IsMarked new w → IsMarked marks w ⊎ ((w ≡ v) ⊎ ((b : Assigned) × (assigned s w ≡ Some b) × (b.place < a.place)))
newly s v a number marks new sound is reason more w marked = elim (more.only w marked) [
  | inl was ↦ inl was
  | inr there ↦ elim (before_or_here s v a number sound is reason there.0 there.1) [
    | inl same ↦ inr (inl (sym there.2 ∙ same))
    | inr before ↦ inr (inr (before.0, ap (assigned s) (sym there.2) ∙ before.1, before.2))
  ]
]

-- more marks keep what was followed
followed_more : (s : SolverForm) (marks new : List Bool) (hints : List ℕ) (number : ℕ) (b : Assigned) → ((v : ℕ) → IsMarked marks v → IsMarked new v) → IsFollowed s marks hints b → IsFollowed s new (hints ++ number ∷ []) b
followed_more s marks new hints number b kept old = record {
  number = old.number;
  reason = old.reason;
  hint = Contains-append_left hints (number ∷ []) old.number old.hint;
  marked = λ lit is. kept lit.variable (old.marked lit is);
}

has_kept : (s : SolverForm) (marks new : List Bool) (place : ℕ) → ((v : ℕ) → IsMarked marks v → IsMarked new v) → HasMarked s marks place → HasMarked s new place
has_kept s marks new place kept (at, below, p) = (at, below, record { variable = p.variable; value = p.value; is = p.is; there = p.there; marked = kept p.variable p.marked; present = p.present })

-- the walk follows the reason of the literal
pub visit_follows : (s : SolverForm) (stop : Stop) (place : ℕ) (marks new : List Bool) (lits : List Lit) (hints : List ℕ) (v : ℕ) (a : Assigned) (number : ℕ) → IsSound s → Stands s place v a
    → IsMarked marks v → a.reason ≡ Some number → GoesOn s stop marks a → (stop ≡ FirstPoint → 0 < s.level) → Marks marks new (clause_at s.clauses number)
    → IsWalked s stop (place + 1) marks lits hints → IsWalked s stop place new lits (hints ++ number ∷ [])
visit_follows s stop place marks new lits hints v a number sound stands marked reason goes above more old = record {
  size = more.size ∙ old.size;
  true_marks = λ w is. elim (new_mark w is) [
    | inl was ↦ old.true_marks w was
    | inr added ↦ elim added [
      | inl same ↦ (a, ap (assigned s) same ∙ stands.is)
      | inr before ↦ (before.0, before.1)
    ]
  ];
  handled = λ w b wb is low. elim (cases_eq b.place place) [
    | inl same ↦
        let one : (true_lit w b ≡ true_lit v a) × (w ≡ v) × (b ≡ a) = one_at s sound v w a b stands.is wb (same ∙ sym stands.there) in
        inr (record {
          number = number;
          reason = ap (λ (x : Assigned). x.reason) one.2 ∙ reason;
          hint = Contains-push hints number;
          marked = more.all;
        })
    | inr differ ↦ elim (new_mark w is) [
      | inl was ↦ elim (old.handled w b wb was (omega (arith, low, differ))) [
        | inl kept ↦ inl kept
        | inr followed ↦ inr (followed_more s marks new hints number b more.kept followed)
      ]
      | inr added ↦ elim added [
        | inl same ↦ absurd (let here : assigned s v ≡ Some b = ap (assigned s) (sym same) ∙ wb in let is_a : assigned s v ≡ Some a = stands.is in let equal : b ≡ a = cc in
            omega (arith, differ, ap (λ (x : Assigned). x.place) equal, stands.there))
        | inr before ↦ absurd (let is_b : assigned s w ≡ Some before.0 = before.1 in let equal : before.0 ≡ b = cc in
            omega (arith, low, before.2, ap (λ (x : Assigned). x.place) equal, stands.there))
      ]
    ]
  ];
  reasons = λ n is. elim (Contains-push_cases hints number n is) [
    | inl before ↦ old.reasons n before
    | inr same ↦ (v, a, stands.is, reason ∙ ap (λ (m : ℕ). Some m) same)
  ];
  stopped = λ lit is. stopped_less s stop place lit (old.stopped lit is);
  once = old.once;
  absent = λ w none. old.absent w (λ b wb. omega (arith, none b wb));
  pointing = λ first. elim (old.pointing first) [
    | inl coming ↦ elim (marked_cases s marks place coming.0) [
      | inl here ↦ inl (on_here first (present_is s place v a marks sound stands here).1, coming.1)
      | inr before ↦ inl (has_kept s marks new place more.kept before, coming.1)
    ]
    | inr done ↦ inr (λ has. done.0 (back has), done.1)
  ];
}
  where
    new_mark : (w : ℕ) → IsMarked new w → IsMarked marks w ⊎ ((w ≡ v) ⊎ ((b : Assigned) × (assigned s w ≡ Some b) × (b.place < a.place)))
    new_mark = newly s v a number marks new sound stands.is reason more

    -- at the present level another marked one comes
    on_here : stop ≡ FirstPoint → a.level ≡ s.level → HasMarked s new place
    on_here first present = elim (subst (λ (t : Stop). GoesOn s t marks a) first goes) [
      | inl bottom ↦ absurd (omega (arith, bottom, present, above first))
      | inr has ↦ subst (λ (n : ℕ). HasMarked s new n) stands.there (has_kept s marks new a.place more.kept has)
    ]

    -- a present one that is marked anew has the literal itself at the present level
    back : HasMarked s new place → HasMarked s marks (place + 1)
    back (at, below, p) = elim (new_mark p.variable p.marked) [
      | inl was ↦ (at, omega (arith, below), record { variable = p.variable; value = p.value; is = p.is; there = p.there; marked = was; present = p.present })
      | inr added ↦ (
        place,
        omega arith,
        record {
          variable = v;
          value = a;
          is = stands.is;
          there = stands.there;
          marked = marked;
          present = level_of_added added;
        },
      )
    ]
      where
        level_of_added : (p.variable ≡ v) ⊎ ((b : Assigned) × (assigned s p.variable ≡ Some b) × (b.place < a.place)) → a.level ≡ s.level
        level_of_added (inl same) =
            let here : assigned s v ≡ Some p.value = ap (assigned s) (sym same) ∙ p.is in
            let is_a : assigned s v ≡ Some a = stands.is in
            let equal : a ≡ p.value = cc in
            ap (λ (x : Assigned). x.level) equal ∙ p.present
        level_of_added (inr before) =
            omega (arith, sound.ordered.rising p.variable v p.value a p.is stands.is (omega (arith, below, p.there, stands.there)), p.present, (sound.ordered.present v a stands.is).0)

-- the walk follows the reason of the marked literal at a place
pub record IsFollowing (s : SolverForm) (stop : Stop) (marks : List Bool) (place number : ℕ) : Type 0 where
  pub variable : ℕ
  pub value : Assigned
  pub stands : Stands s place variable value
  pub marked : IsMarked marks variable
  pub reason : value.reason ≡ Some number
  pub goes : GoesOn s stop marks value
  pub given : number < length s.clauses
  pub assigned_all : Each (IsAssigned s) (clause_at s.clauses number)
  pub before : Each (IsMarkedOrBefore s place marks) (clause_at s.clauses number)

pub following : (s : SolverForm) (stop : Stop) (marks : List Bool) (place number : ℕ) → IsSound s → IsMarkedAt s marks place → FollowsReason s stop marks place number → IsFollowing s stop marks place number
following s stop marks place number sound (v, a, is, there, marked) follows =
    let reason : a.reason ≡ Some number = (follows v a is there).0 in
    record {
      variable = v;
      value = a;
      stands = record { is = is; there = there };
      marked = marked;
      reason = reason;
      goes = (follows v a is there).1;
      given = (sound.explained.forced v a number is reason).0;
      assigned_all = λ lit among. elim (before_or_here s v a number sound is reason lit among) [
        | inl here ↦ (a, ap (assigned s) here ∙ is)
        | inr earlier ↦ (earlier.0, earlier.1)
      ];
      before = λ lit among. elim (before_or_here s v a number sound is reason lit among) [
        | inl here ↦ inl (subst (λ (n : ℕ). IsMarked marks n) (sym here) marked)
        | inr earlier ↦ inr (earlier.0, earlier.1, omega (arith, earlier.2, there))
      ];
    }

-- the literal at the place of a marked variable is its true one
pub marked_lit : (s : SolverForm) (marks : List Bool) (place : ℕ) (lit : Lit) → IsSound s → (m : IsMarkedAt s marks place) → ((d : Lit) → get_or s.trail place d ≡ lit) → lit ≡ true_lit m.0 m.1
marked_lit s marks place lit sound (v, a, is, there, marked) reads =
    sym (reads lit) ∙ ap (λ (p : ℕ). get_or s.trail p lit) (sym there) ∙ sound.ordered.on_trail v a lit is
