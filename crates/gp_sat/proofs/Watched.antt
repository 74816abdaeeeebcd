-- What the watched literals say, and what they survive.
use Rattle.std.proofs.Common.{◌≡◌, ◌≢◌, refl, sym, ◌∙◌, ap, subst, ℕ, ◌+◌, ◌*◌, ◌<◌, ◌≤◌, Bool, true, false, not, Option, Some, None, List, [], ◌∷◌, ◌++◌, length, ◌⊎◌, inl, inr, arith}
use Rattle.std.specs.Prelude.{Contains}
use Rattle.std.proofs.lemmas.Bool.{cases_lt}
use Rattle.gp_clause.specs.declared.lit.Lit.{Lit}
use Rattle.gp_sat.specs.declared.assigned.Assigned.{Assigned}
use Rattle.gp_sat.specs.Stored.{Stored}
use Rattle.gp_sat.specs.State.{SolverForm, assigned, clause_at, with_literal}
use Rattle.gp_sat.specs.Standing.{IsFalse, IsClosed}
use Rattle.gp_sat.specs.Sound.{IsSound}
use Rattle.gp_sat.specs.Looking.{IsTrueLit, HasTrue, HasTwoFree}
use Rattle.gp_sat.specs.Watching.{IsTrueTo, IsSafe, IsHeld, IsLong, Watches, IsSettled, AreLooked, AreWatched}
use Rattle.gp_sat.proofs.Scanning.{quiet_rests}
use Rattle.gp_sat.proofs.Shorts.{settled_of}
use Rattle.gp_sat.proofs.Cutting.{Cuts}
use Rattle.gp_sat.specs.SolverLaws.{attached_within, Adds, added_stays, added_cases, added, adds_literal}

-- how a literal stands
pub stands : (values : ℕ → Option Assigned) (lit : Lit) → IsTrueLit values lit ⊎ (IsFalse values lit ⊎ (values lit.variable ≡ None))
stands values lit = at (values lit.variable) refl
  where
    signs : (p q : Bool) → (p ≡ q) ⊎ (p ≡ not q)
    signs true true = inl refl
    signs true false = inr refl
    signs false true = inr refl
    signs false false = inl refl

    at : (v : Option Assigned) → values lit.variable ≡ v → IsTrueLit values lit ⊎ (IsFalse values lit ⊎ (values lit.variable ≡ None))
    at None is = inr (inr is)
    at (Some a) is = elim (signs a.positive lit.positive) [
      | inl same ↦ inl (a, is, same)
      | inr differ ↦ inr (inl (a, is, differ))
    ]

-- a clause rests on two of its literals, where each is true or unassigned, or the other is true
pub pair_rests : (values : ℕ → Option Assigned) (clause : List Lit) (p q : Lit) → Contains clause p → Contains clause q → p ≢ q
    → (IsFalse values p → IsTrueLit values q) → (IsFalse values q → IsTrueLit values p) → HasTrue values clause ⊎ HasTwoFree values clause
pair_rests values clause p q in_p in_q differ back forth = elim (stands values p) [
  | inl true_p ↦ inl (p, in_p, true_p)
  | inr rest ↦ elim rest [
    | inl false_p ↦ inl (q, in_q, back false_p)
    | inr free_p ↦ elim (stands values q) [
      | inl true_q ↦ inl (q, in_q, true_q)
      | inr others ↦ elim others [
        | inl false_q ↦ inl (p, in_p, forth false_q)
        | inr free_q ↦ inr (p, q, (in_p, in_q, differ, free_p, free_q))
      ]
    ]
  ]
]

-- a literal that is safe at the end of the trail
true_at_end : (s : SolverForm) (cursor : ℕ) (p q : Lit) → IsSound s → length s.trail ≤ cursor → IsSafe (assigned s) cursor p q → IsFalse (assigned s) p → IsTrueLit (assigned s) q
true_at_end s cursor p q sound past safe (a, is, sign) =
    let there : IsTrueTo a.level (assigned s) q = safe (a, is, sign, omega (arith, past, sound.ordered.within p.variable a is)) in
    (there.0, there.1, there.2)

-- where each clause is held and the cursor is at the end of the trail, the trail is closed
pub watched_closed : (s : SolverForm) (watch : ℕ → Lit) (linked cursor : ℕ) (skipped : ℕ → Type 0) (shorts : List ℕ) (looked : ℕ) → IsSound s → ((x : ℕ) → skipped x → ⊥) → length s.clauses ≤ linked → length s.trail ≤ cursor → length shorts ≤ looked
    → AreLooked s shorts looked → AreWatched s watch linked cursor skipped → IsClosed s s.level
watched_closed s watch linked cursor skipped shorts looked sound none all past seen short watched = λ number attached.
    let held : IsHeld s.clauses linked number = (attached, omega (arith, all, attached_within s.clauses number attached)) in
    elim (cases_lt (length (clause_at s.clauses number)) 2) [
      | inl few ↦
          let settled : IsSettled (assigned s) (clause_at s.clauses number) = settled_of s shorts looked number short seen attached few in
          quiet_rests s (clause_at s.clauses number) sound (inl (settled.0, settled.1, (settled.2.0, settled.2.1, settled.2.2)))
      | inr long ↦
          let one : Watches (assigned s) cursor skipped (clause_at s.clauses number) watch (2 * number) (2 * number + 1) = watched.long number (2 * number) (2 * number + 1) held long (inl (refl, refl)) in
          let two : Watches (assigned s) cursor skipped (clause_at s.clauses number) watch (2 * number + 1) (2 * number) = watched.long number (2 * number + 1) (2 * number) held long (inr (refl, refl)) in
          quiet_rests s (clause_at s.clauses number) sound (pair_rests (assigned s) (clause_at s.clauses number) (watch (2 * number)) (watch (2 * number + 1)) one.within two.within one.differs
          (safe (2 * number) (2 * number + 1) one.safe) (safe (2 * number + 1) (2 * number) two.safe))
    ]
  where
    safe : (x y : ℕ) → (skipped x ⊎ IsSafe (assigned s) cursor (watch x) (watch y)) → IsFalse (assigned s) (watch x) → IsTrueLit (assigned s) (watch y)
    safe x y (inl skip) fell = absurd (none x skip)
    safe x y (inr is) fell = true_at_end s cursor (watch x) (watch y) sound past is fell

-- the same pairs under another assignment or cursor
pub watches_over : (f g : ℕ → Option Assigned) (cursor new : ℕ) (skipped : ℕ → Type 0) (clause : List Lit) (watch : ℕ → Lit) (x y : ℕ)
    → (IsSafe f cursor (watch x) (watch y) → IsSafe g new (watch x) (watch y)) → Watches f cursor skipped clause watch x y → Watches g new skipped clause watch x y
watches_over f g cursor new skipped clause watch x y safe old = record {
  within = old.within;
  differs = old.differs;
  safe = elim old.safe [ inl skip ↦ inl skip | inr was ↦ inr (safe was) ];
}

-- a pair stays safe with one more literal, past the cursor
safe_more : (f g : ℕ → Option Assigned) (variable : ℕ) (new : Assigned) (cursor : ℕ) (p q : Lit) → Adds f g variable new → cursor ≤ new.place → IsSafe f cursor p q → IsSafe g cursor p q
safe_more f g variable new cursor p q adds past safe (a, is, sign, before) = elim (added_cases adds p.variable a is) [
  | inl here ↦ absurd (omega (arith, past, before, ap (λ (x : Assigned). x.place) here.1))
  | inr was ↦
      let there : IsTrueTo a.level f q = safe (a, was, sign, before) in
      (there.0, added_stays adds q.variable there.0 there.1, there.2, there.3)
]

-- a literal is added at the present level, or at a new one with the cursor at the end of the trail
pub watched_more : (s : SolverForm) (lit : Lit) (level : ℕ) (reason : Option ℕ) (watch : ℕ → Lit) (linked cursor : ℕ) (skipped : ℕ → Type 0)
    → lit.variable < length s.values → assigned s lit.variable ≡ None → (level ≡ s.level) ⊎ (length s.trail ≤ cursor) → IsSound s → length (s.trail ++ lit ∷ []) ≡ length s.trail + 1
    → AreWatched s watch linked cursor skipped → AreWatched (with_literal s lit level reason) watch linked cursor skipped
watched_more s lit level reason watch linked cursor skipped within free same sound longer old =
    let f : ℕ → Option Assigned = assigned s in
    let g : ℕ → Option Assigned = assigned (with_literal s lit level reason) in
    let adds : Adds f g lit.variable (added s lit level reason) = adds_literal s lit level reason within free in
    record {
      long = λ number x y held long partners. watches_over f g cursor cursor skipped (clause_at s.clauses number) watch x y
          (safe_more f g lit.variable (added s lit level reason) cursor (watch x) (watch y) adds old.cursor_in) (old.long number x y held long partners);
      fresh = λ v a is past. elim (added_cases adds v a is) [
        | inl here ↦ ap (λ (x : Assigned). x.level) here.1
        | inr was ↦ elim same [
          | inl present ↦ old.fresh v a was past ∙ sym present
          | inr end ↦ absurd (omega (arith, past, end, sound.ordered.within v a was))
        ]
      ];
      cursor_in = omega (arith, old.cursor_in, longer);
      linked_in = old.linked_in;
    }

-- assignments above a level are taken back, and the cursor with them
pub watched_cut : (s t : SolverForm) (level end : ℕ) (watch : ℕ → Lit) (linked cursor low : ℕ) (skipped : ℕ → Type 0)
    → Cuts (assigned s) (assigned t) level end → t.clauses ≡ s.clauses → t.level ≡ level → level ≤ s.level → length t.trail ≡ end
    → low ≤ cursor → low ≤ end → (cursor ≤ low) ⊎ (end ≤ low)
    → AreWatched s watch linked cursor skipped → AreWatched t watch linked low skipped
watched_cut s t level end watch linked cursor low skipped cuts clauses present below ends less within either old = record {
  long = λ number x y held long partners. subst (λ (cs : List Stored). Watches g low skipped (clause_at cs number) watch x y) (sym clauses)
      (watches_over f g cursor low skipped (clause_at s.clauses number) watch x y (safe_cut (watch x) (watch y))
      (old.long number x y (subst (λ (cs : List Stored). IsHeld cs linked number) clauses held) (subst (λ (cs : List Stored). IsLong cs number) clauses long) partners));
  fresh = λ v a is past. elim either [
    | inl kept ↦
        let was : (f v ≡ Some a) × (a.place < end) × (a.level ≤ level) = cuts.was v a is in
        let at : a.level ≡ s.level = old.fresh v a was.0 (omega (arith, kept, past)) in
        omega (arith, at, was.2, below, present)
    | inr all ↦ absurd (omega (arith, past, all, (cuts.was v a is).1))
  ];
  cursor_in = omega (arith, within, ends);
  linked_in = subst (λ (cs : List Stored). linked ≤ length cs) (sym clauses) old.linked_in;
}
  where
    f : ℕ → Option Assigned
    f = assigned s

    g : ℕ → Option Assigned
    g = assigned t

    safe_cut : (p q : Lit) → IsSafe f cursor p q → IsSafe g low p q
    safe_cut p q safe (a, is, sign, before) =
        let was : (f p.variable ≡ Some a) × (a.place < end) × (a.level ≤ level) = cuts.was p.variable a is in
        let there : IsTrueTo a.level f q = safe (a, was.0, sign, omega (arith, before, less)) in
        (there.0, cuts.low_stays q.variable there.0 there.1 (omega (arith, there.3, was.2)), there.2, there.3)
