-- Guarded clauses are true where an event precedes, as the events that meet the families do.
use Rattle.std.proofs.Common.{ℕ, zero, suc, ℤ, ◌≡◌, ◌-◌, ◌<◌, ◌<ℤ◌, ap, sym, ◌∙◌, refl, subst, inl, inr, List, [], ◌∷◌, ◌++◌, Bool, true, false, not, arith, eqb-true}
use Rattle.std.specs.Prelude.{Option, Some, None, ◌||◌, ◌==◌, find, int_lt, nat_lt, slice_get, Contains}
use Rattle.std.specs.List.{list_any}
use Rattle.std.proofs.lemmas.Bool.{cases_Bool, cases_eq, cases_lt, lt-ltb}
use Rattle.std.proofs.lemmas.Int.{ints}
use Rattle.gp_window.specs.declared.schedule.EventId.{EventId}
use Rattle.gp_window.specs.Events.{segment_of}
use Rattle.gp_window.specs.Formed.{IsFormed}
use Rattle.gp_window.specs.WindowForm.{WindowForm}
use Rattle.gp_constraint.specs.ClauseLaws.{got_before}
use Rattle.gp_constraint.specs.declared.point.Point.{Point}
use Rattle.gp_constraint.specs.declared.symbol.Symbol.{Symbol}
use Rattle.gp_constraint.specs.declared.term.Term.{Term}
use Rattle.gp_base.specs.ListLaws.{contains_found}
use Rattle.gp_constraint.specs.PointLaws.{IsEventOf, next_number, point_for, point_there, points_named}
use Rattle.gp_constraint.specs.Points.{number_at, number_in, points_of, sizes_of}
use Rattle.gp_constraint.specs.Terms.{before, constant, executed, first, needs, preceded, simplified}
use Rattle.gp_constraint.specs.Truths.{AreTrue}
use Rattle.gp_constraint.specs.TrueLaws.{or_here, all_append, any_left, any_right, clause_true, term_true}
use Rattle.gp_witness.specs.Meaning.{MeetsAll, Precedes, Truth}
use Rattle.gp_witness.specs.TruthOfSymbols.{id_at, id_in, symbol_true}
use Rattle.gp_witness.proofs.PointActions.{IsPoint, point_event}
use Rattle.gp_witness.proofs.Listed.{find_none}

-- a window and a truth that meets the families
pub record Setting (window : WindowForm) (t : Truth) : Type 0 where
  pub formed : IsFormed window
  pub meets : MeetsAll window t

-- what the truth says of symbols
abbrev pub says : WindowForm → Truth → Symbol → Bool
says window t symbol = symbol_true t (id_at (points_of window)) symbol

pub or_rest : (a rest : Bool) → rest ≡ true → (a || rest) ≡ true
or_rest true rest is = refl
or_rest false rest is = is

pub neg_fails : (a rest : Bool) → (not a || rest) ≡ false → (a ≡ true) × (rest ≡ false)
neg_fails true rest is = (refl, is)
neg_fails false rest is = cc

pub pos_fails : (a rest : Bool) → (a || rest) ≡ false → (a ≡ false) × (rest ≡ false)
pos_fails true rest is = cc
pos_fails false rest is = (refl, is)

pub not_fails : (a : Bool) → not a ≡ true → a ≡ false
not_fails true is = cc
not_fails false is = refl

-- tests of places
pub int_lt_to : (a b : ℤ) → a <ℤ b → int_lt a b ≡ true
int_lt_to a b less =
    elim (cases_Bool (int_lt a b)) [
      | inl is ↦ is
      | inr fails ↦ absurd (omega (arith, ints, less, fails))
    ]

pub int_lt_not : (a b : ℤ) → b <ℤ a → int_lt a b ≡ false
int_lt_not a b less =
    elim (cases_Bool (int_lt a b)) [
      | inl is ↦ absurd (omega (arith, ints, less, is))
      | inr fails ↦ fails
    ]

-- two places of which each is less than the other
both_less : (a b : ℤ) → a <ℤ b → b <ℤ a → ⊥
both_less a b first second = omega (arith, ints, first, second)

less_itself : (a b : ℤ) → a ≡ b → a <ℤ b → ⊥
less_itself a b same less = omega (arith, ints, same, less)

-- what a point of the window is
pub point_is : (window : WindowForm) (p : Point) → Contains (points_of window) p → IsPoint window p
point_is window p is = let own = (points_named window).own p is in record { event = own.0; there = own.1; action = own.2 }

pub number_is : (window : WindowForm) (p : Point) → Contains (points_of window) p → p.number ≡ number_in window p.id
number_is window p is = ((points_named window).own p is).3

pub at_point : (window : WindowForm) (p : Point) → Contains (points_of window) p → id_at (points_of window) p.number ≡ p.id
at_point window p is = ap id_in (point_there window p is)

-- the term for the order of two points is true where the places are so
constant_true : (truth : Symbol → Bool) (b : Bool) → b ≡ true → term_true truth (constant b) ≡ true
constant_true truth true is = refl
constant_true truth false is = cc

pub before_true : (window : WindowForm) (t : Truth) → Setting window t → (e f : Point) → Contains (points_of window) e → Contains (points_of window) f
    → t.place e.id <ℤ t.place f.id → term_true (says window t) (before e f) ≡ true
before_true window t s e f in_e in_f less =
    let at : ℕ → EventId = id_at (points_of window) in
    let place_e : t.place (at e.number) ≡ t.place e.id = ap t.place (at_point window e in_e) in
    let place_f : t.place (at f.number) ≡ t.place f.id = ap t.place (at_point window f in_f) in
    elim (cases_Bool (e.id.thread == f.id.thread)) [
      | inl same ↦
          let own : e.id.thread ≡ f.id.thread = eqb-true e.id.thread f.id.thread same in
          let below : e.id.index < f.id.index =
          elim (cases_lt e.id.index f.id.index) [
            | inl low ↦ low
            | inr high ↦ elim (cases_eq f.id.index e.id.index) [
              | inl tied ↦
                  let one : e.id ≡ f.id = (λ i. record { thread = own i; index = sym tied i }) in
                  absurd (less_itself (t.place e.id) (t.place f.id) (ap t.place one) less)
              | inr differ ↦
                  let over = s.meets.rise f.id e.id (point_event window f (point_is window f in_f)) (point_event window e (point_is window e in_e)) (sym own) (omega (arith, high, differ)) in
                  absurd (both_less (t.place e.id) (t.place f.id) less over)
            ]
          ] in
          rw same (constant_true (says window t) (nat_lt e.id.index f.id.index) (lt-ltb e.id.index f.id.index below))
      | inr differ ↦ elim (cases_Bool (nat_lt e.number f.number)) [
        | inl low ↦ rw (differ, low) (ap (λ x. int_lt x (t.place (at f.number))) place_e ∙ ap (λ x. int_lt (t.place e.id) x) place_f ∙ int_lt_to (t.place e.id) (t.place f.id) less)
        | inr high ↦
            let test : int_lt (t.place (at f.number)) (t.place (at e.number)) ≡ false =
            ap (λ x. int_lt x (t.place (at e.number))) place_f ∙ ap (λ x. int_lt (t.place f.id) x) place_e ∙ int_lt_not (t.place f.id) (t.place e.id) less in
            rw (differ, high) (ap (λ b. not b) test)
      ]
    ]

-- what is executed by its number
pub by_number : (window : WindowForm) (t : Truth) (p : Point) → Contains (points_of window) p → t.executed (id_at (points_of window) p.number) ≡ t.executed p.id
by_number window t p is = ap t.executed (at_point window p is)

-- an event is found that precedes
abbrev pub IsFound : WindowForm → Truth → Option Point → EventId → Type 0
IsFound window t o f = (p : Point) × (o ≡ Some p) × Contains (points_of window) p × Precedes t p.id f

-- guarded clauses: a guard is true, or there is an event that precedes
pub preceded_true : (window : WindowForm) (t : Truth) → Setting window t → (guards : List Term) (o : Option Point) (f : Point) → Contains (points_of window) f
    → (list_any (term_true (says window t)) guards ≡ false → IsFound window t o f.id)
    → AreTrue (says window t) (preceded guards o f)
preceded_true window t s guards None f in_f holds =
    clause_true (says window t) guards (elim (cases_Bool (list_any (term_true (says window t)) guards)) [
      | inl guarded ↦ guarded
      | inr open_ ↦ let found = holds open_ in let bad : ◌≡◌ {A = Option Point} None (Some found.0) = found.1 in cc
    ])
preceded_true window t s guards (Some p) f in_f holds =
    let truth : Symbol → Bool = says window t in
    elim (cases_Bool (list_any (term_true truth) guards)) [
      | inl guarded ↦ all_append truth (simplified (guards ++ executed p true ∷ [])) (simplified (guards ++ before p f ∷ []))
          (clause_true truth (guards ++ executed p true ∷ []) (any_left (term_true truth) guards (executed p true ∷ []) guarded))
          (clause_true truth (guards ++ before p f ∷ []) (any_left (term_true truth) guards (before p f ∷ []) guarded))
      | inr open_ ↦
          let found = holds open_ in
          let same : found.0 ≡ p = (let is : ◌≡◌ {A = Option Point} (Some p) (Some found.0) = found.1 in cc) in
          let in_p : Contains (points_of window) p = subst (λ q. Contains (points_of window) q) same found.2 in
          let comes : Precedes t p.id f.id = subst (λ (q : Point). Precedes t q.id f.id) same found.3 in
          let runs : t.executed (id_at (points_of window) p.number) ≡ true = by_number window t p in_p ∙ comes.0 in
          all_append truth (simplified (guards ++ executed p true ∷ [])) (simplified (guards ++ before p f ∷ []))
          (clause_true truth (guards ++ executed p true ∷ []) (any_right (term_true truth) guards (executed p true ∷ []) (or_here (t.executed (id_at (points_of window) p.number)) false runs)))
          (clause_true truth (guards ++ before p f ∷ []) (any_right (term_true truth) guards (before p f ∷ [])
          (or_here (term_true truth (before p f)) false (before_true window t s p f in_p in_f comes.1))))
    ]

pub needs_true : (window : WindowForm) (t : Truth) → Setting window t → (o : Option Point) (f : Point) → Contains (points_of window) f
    → (t.executed f.id ≡ true → IsFound window t o f.id) → AreTrue (says window t) (needs f o)
needs_true window t s o f in_f holds =
    preceded_true window t s (executed f false ∷ []) o f in_f
    (λ open_. holds (sym (by_number window t f in_f) ∙ (neg_fails (t.executed (id_at (points_of window) f.number)) false open_).0))

-- an event that is wanted, and that only one point is, is found
pub located : (window : WindowForm) (t : Truth) (test : Point → Bool) (e f : EventId) → IsEventOf window e → Precedes t e f
    → ((q : Point) → Contains (points_of window) q → q.id ≡ e → test q ≡ true)
    → ((p : Point) → find test (points_of window) ≡ Some p → Contains (points_of window) p → test p ≡ true → p.id ≡ e)
    → IsFound window t (find test (points_of window)) f
located window t test e f is_event comes wanted alone = look (find test (points_of window)) refl
  where
    look : (o : Option Point) → find test (points_of window) ≡ o → IsFound window t (find test (points_of window)) f
    look None is =
        let q = point_for window e is_event in
        absurd (find_none test (points_of window) q.0 is q.1 (wanted q.0 q.1 q.3))
    look (Some p) is =
        let found = contains_found test (points_of window) p is in
        let same : p.id ≡ e = alone p is found.0 found.1 in
        (p, is, found.0, subst (λ x. Precedes t x f) (sym same) comes)

-- the event before one in its thread
pub not_zero : (n : ℕ) → (n == 0) ≡ false → n ≡ suc (n - 1)
not_zero zero is = cc
not_zero (suc n) is = omega arith

-- the event before one in its thread, and its number
pub record HasBefore (window : WindowForm) (f : Point) : Type 0 where
  pub before : EventId
  pub there : IsEventOf window before
  pub own : before.thread ≡ f.id.thread
  pub lower : before.index < f.id.index
  pub at : id_at (points_of window) (f.number - 1) ≡ before

pub before_link : (window : WindowForm) (f : Point) → Contains (points_of window) f → (f.id.index == 0) ≡ false → HasBefore window f
before_link window f in_f later =
    let is = point_is window f in_f in
    let step : f.id.index ≡ suc (f.id.index - 1) = not_zero f.id.index later in
    let there = got_before (segment_of window f.id.thread) (f.id.index - 1) is.event (ap (λ n. slice_get (segment_of window f.id.thread) n) (sym step) ∙ is.there) in
    let e : EventId = record { thread = f.id.thread; index = f.id.index - 1 } in
    let q = point_for window e there in
    let number : f.number ≡ suc q.0.number =
    number_is window f in_f ∙ ap (λ n. number_at (sizes_of window) f.id.thread n) step ∙ next_number (sizes_of window) f.id.thread (f.id.index - 1) ∙ ap suc (sym q.2) in
    let before_is : f.number - 1 ≡ q.0.number = omega (arith, number) in
    record {
      before = e;
      there = there;
      own = refl;
      lower = omega (arith, step);
      at = ap (λ n. id_at (points_of window) n) before_is ∙ at_point window q.0 q.1 ∙ q.3;
    }
