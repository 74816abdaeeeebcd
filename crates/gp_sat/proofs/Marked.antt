-- Marks, levels and the places of a trail.
use Rattle.std.proofs.Common.{◌≡◌, refl, sym, ◌∙◌, ap, subst, ℕ, ◌<◌, ◌≤◌, Bool, true, false, Some, List, [], ◌∷◌, ◌++◌, length, get_or, inl, inr, arith}
use Rattle.std.specs.Prelude.{slice_set}
use Rattle.std.proofs.lemmas.List.{length-set, get_or-set_same, get_or-set_other, get_or_default}
use Rattle.std.proofs.lemmas.List.Elements.{Contains-push, Contains-push_cases, Contains-append_left}
use Rattle.std.proofs.lemmas.Bool.{cases_eq}
use Rattle.gp_clause.specs.declared.lit.Lit.{Lit}
use Rattle.gp_sat.specs.declared.assigned.Assigned.{Assigned}
use Rattle.gp_sat.specs.State.{SolverForm, assigned}
use Rattle.gp_sat.specs.Sound.{IsSound, true_lit}
use Rattle.gp_sat.specs.Learning.{IsHighestBelow}
use Rattle.gp_sat.specs.Marking.{IsMarked, Marks}
use Rattle.gp_base.specs.ListLaws.{nothing_in}

-- nothing is marked
pub marks_none : (marks : List Bool) → Marks marks marks []
marks_none marks = record {
  size = refl;
  kept = λ v is. is;
  all = λ lit is. absurd (nothing_in lit is);
  only = λ v is. inl is;
}

-- one more variable is marked
pub marks_more : (old new : List Bool) (lits : List Lit) (lit : Lit) → lit.variable < length new → Marks old new lits → Marks old (slice_set new lit.variable true) (lits ++ lit ∷ [])
marks_more old new lits lit within marks = record {
  size = length-set new lit.variable true ∙ marks.size;
  kept = λ v is. stays v (marks.kept v is);
  all = λ other is. elim (Contains-push_cases lits lit other is) [
    | inl before ↦ stays other.variable (marks.all other before)
    | inr here ↦ subst (λ (l : Lit). IsMarked (slice_set new lit.variable true) l.variable) here (get_or-set_same new lit.variable true false within)
  ];
  only = λ v is. elim (cases_eq v lit.variable) [
    | inl same ↦ inr (lit, Contains-push lits lit, sym same)
    | inr differ ↦ elim (marks.only v (sym (get_or-set_other new lit.variable v true false differ) ∙ is)) [
      | inl was ↦ inl was
      | inr other ↦ inr (other.0, Contains-append_left lits (lit ∷ []) other.0 other.1, other.2)
    ]
  ];
}
  where
    stays : (v : ℕ) → IsMarked new v → IsMarked (slice_set new lit.variable true) v
    stays v is = elim (cases_eq v lit.variable) [
      | inl same ↦ subst (λ (n : ℕ). IsMarked (slice_set new lit.variable true) n) (sym same) (get_or-set_same new lit.variable true false within)
      | inr differ ↦ get_or-set_other new lit.variable v true false differ ∙ is
    ]

-- a literal of a higher level
pub highest_new : (s : SolverForm) (lits : List Lit) (lit : Lit) (level : ℕ) (a : Assigned) → assigned s lit.variable ≡ Some a → level < a.level → a.level < s.level
    → IsHighestBelow s lits level → IsHighestBelow s (lits ++ lit ∷ []) a.level
highest_new s lits lit level a is above below old = record {
  highest = λ other b among holds low. elim (Contains-push_cases lits lit other among) [
    | inl before ↦ omega (arith, above, old.highest other b before holds low)
    | inr here ↦
        let there : assigned s lit.variable ≡ Some b = ap (λ (l : Lit). assigned s l.variable) here ∙ holds in
        let same : b ≡ a = cc in
        omega (arith, ap (λ (x : Assigned). x.level) same)
  ];
  reached = inr (lit, Contains-push lits lit, (a, is, refl), below);
}

-- a literal that is not of a higher level below the present one
pub highest_same : (s : SolverForm) (lits : List Lit) (lit : Lit) (level : ℕ) → ((a : Assigned) → assigned s lit.variable ≡ Some a → a.level < s.level → a.level ≤ level)
    → IsHighestBelow s lits level → IsHighestBelow s (lits ++ lit ∷ []) level
highest_same s lits lit level no_higher old = record {
  highest = λ other b among holds low. elim (Contains-push_cases lits lit other among) [
    | inl before ↦ old.highest other b before holds low
    | inr here ↦ no_higher b (ap (λ (l : Lit). assigned s l.variable) here ∙ holds) low
  ];
  reached = elim old.reached [
    | inl zero_is ↦ inl zero_is
    | inr there ↦ inr (there.0, Contains-append_left lits (lit ∷ []) there.0 there.1, there.2, there.3)
  ];
}

-- two assignments at one place are of one variable
pub one_at : (s : SolverForm) → IsSound s → (v w : ℕ) (a b : Assigned) → assigned s v ≡ Some a → assigned s w ≡ Some b → b.place ≡ a.place → (true_lit w b ≡ true_lit v a) × (w ≡ v) × (b ≡ a)
one_at s sound v w a b va wb same =
    let d : Lit = record { variable = 0; positive = false } in
    let lits : true_lit w b ≡ true_lit v a = sym (sound.ordered.on_trail w b d wb) ∙ ap (λ (p : ℕ). get_or s.trail p d) same ∙ sound.ordered.on_trail v a d va in
    let variables : w ≡ v = ap (λ (l : Lit). l.variable) lits in
    let there : assigned s v ≡ Some b = ap (assigned s) (sym variables) ∙ wb in
    (lits, variables, cc)

-- what a read of the trail gives, at any default
pub read_place : (s : SolverForm) (trail : List Lit) (place : ℕ) (lit : Lit) → trail ≡ s.trail → place < length s.trail → lit ≡ get_or trail place lit → (d : Lit) → get_or s.trail place d ≡ lit
read_place s trail place lit same within is = λ d. sym (is ∙ ap (λ (t : List Lit). get_or t place lit) same ∙ get_or_default s.trail place lit d within)
