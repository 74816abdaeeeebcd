-- A slot of the work list is dropped, or linked to the literal that it then watches.
use Rattle.std.proofs.Common.{◌≡◌, ◌≢◌, refl, sym, ◌∙◌, ap, subst, ℕ, ◌+◌, ◌*◌, ◌<◌, Bool, true, false, List, [], ◌∷◌, length, get_or, inl, inr, arith}
use Rattle.std.specs.Prelude.{slice_set, Contains}
use Rattle.std.proofs.lemmas.Bool.{cases_eq}
use Rattle.std.proofs.lemmas.List.{length-set, get_or-set_same, get_or-set_other}
use Rattle.gp_base.specs.ListLaws.{first_or_rest, here, nothing_in, there}
use Rattle.gp_clause.specs.declared.lit.Lit.{Lit}
use Rattle.gp_sat.specs.Stored.{Stored}
use Rattle.gp_sat.specs.Slot.{Slot}
use Rattle.gp_sat.specs.State.{SolverForm, assigned, clause_at, IsAttached}
use Rattle.gp_sat.specs.Links.{IsChain, put, AreLinked}
use Rattle.gp_sat.specs.WatchesForm.{WatchesForm}
use Rattle.gp_sat.specs.Watching.{ArePartners, IsSafe, IsHeld, Watches, AreWatched, code, sign_of, link_at, next_at, watch_at, no_slot}
use Rattle.gp_sat.specs.Linked.{IsMember, IsOf, IsLinked}
pub use Rattle.gp_sat.specs.Linked.{at_front}
use Rattle.gp_sat.proofs.Linking.{put_here, put_other, put_each, popped, popped_loose, pushed, pushed_cases, in_before, given}

-- the first slot of a chain
pub chain_first : (next : ℕ → ℕ) (link x : ℕ) (ys : List ℕ) → IsChain next link ys → link ≡ x + 1 → (xs : List ℕ) × (ys ≡ x ∷ xs)
chain_first next link x [] chain is = absurd (let none : link ≡ 0 = chain in omega (arith, none, is))
chain_first next link x (y ∷ ys) chain is = (ys, ap (λ (n : ℕ). n ∷ ys) (let e : y ≡ x = omega (arith, chain.0, is) in e))

-- and a chain that begins with no slot is empty
pub chain_none : (next : ℕ → ℕ) (link : ℕ) (ys : List ℕ) → IsChain next link ys → link ≡ 0 → ys ≡ []
chain_none next link [] chain is = refl
chain_none next link (y ∷ ys) chain is = absurd (omega (arith, chain.0, is))

-- a list that is not the work list is that of one literal
pub code_same : (p q : Lit) → code p ≡ code q → p ≡ q
code_same p q is = λ i. record { variable = same_variable p.positive q.positive is i; positive = same_sign p.positive q.positive is i }
  where
    same_variable : (a b : Bool) → 2 * p.variable + 2 + sign_of a ≡ 2 * q.variable + 2 + sign_of b → p.variable ≡ q.variable
    same_variable true true e = omega arith
    same_variable true false e = omega arith
    same_variable false true e = omega arith
    same_variable false false e = omega arith

    same_sign : (a b : Bool) → 2 * p.variable + 2 + sign_of a ≡ 2 * q.variable + 2 + sign_of b → a ≡ b
    same_sign true true e = refl
    same_sign true false e = absurd (omega arith)
    same_sign false true e = absurd (omega arith)
    same_sign false false e = refl

pub code_below : (lit : Lit) (variables : ℕ) → lit.variable < variables → code lit < 2 * variables + 2
code_below lit variables below = at lit.positive
  where
    at : (b : Bool) → 2 * lit.variable + 2 + sign_of b < 2 * variables + 2
    at true = omega arith
    at false = omega arith

pub code_not_work : (lit : Lit) → code lit ≢ 0
code_not_work lit = λ e. omega arith

-- a slot has one clause, and one partner
pub same_partner : (m n x y z : ℕ) → ArePartners m x y → ArePartners n x z → (m ≡ n) × (y ≡ z)
same_partner m n x y z (inl a) (inl b) = (omega (arith, a.0, b.0), omega (arith, a.0, a.1, b.0, b.1))
same_partner m n x y z (inl a) (inr b) = absurd (omega (arith, a.0, b.0))
same_partner m n x y z (inr a) (inl b) = absurd (omega (arith, a.0, b.0))
same_partner m n x y z (inr a) (inr b) = (omega (arith, a.0, b.0), omega (arith, a.0, a.1, b.0, b.1))

pub partner_back : (n x y : ℕ) → ArePartners n x y → ArePartners n y x
partner_back n x y (inl a) = inr (a.1, a.0)
partner_back n x y (inr a) = inl (a.1, a.0)

pub partner_apart : (n x y : ℕ) → ArePartners n x y → x ≢ y
partner_apart n x y (inl a) = λ e. omega (arith, a.0, a.1, e)
partner_apart n x y (inr a) = λ e. omega (arith, a.0, a.1, e)

pub partner_within : (n x y count : ℕ) → ArePartners n x y → n < count → x < 2 * count
partner_within n x y count (inl a) below = omega (arith, a.0, below)
partner_within n x y count (inr a) below = omega (arith, a.0, below)

-- the work list without its first slot
abbrev pub taken : WatchesForm → ℕ → WatchesForm
taken w x = record w { heads = slice_set w.heads 0 (next_at w.slots x) }

taken_links : (w : WatchesForm) (lists : ℕ → List ℕ) (x : ℕ) (xs : List ℕ) → 0 < length w.heads → AreLinked (link_at w.heads) (next_at w.slots) lists → lists 0 ≡ x ∷ xs
    → AreLinked (link_at (taken w x).heads) (next_at w.slots) (put lists 0 xs)
taken_links w lists x xs some links is = popped (link_at w.heads) (link_at (taken w x).heads) (next_at w.slots) lists 0 x xs links is
    (get_or-set_same w.heads 0 (next_at w.slots x) 0 some) (λ k differ. get_or-set_other w.heads 0 k (next_at w.slots x) 0 differ)

-- the first slot of the work list is dropped, where its clause is not attached
pub dropped : (clauses : List Stored) (variables : ℕ) (w : WatchesForm) (fallen : Lit) (lists : ℕ → List ℕ) (x : ℕ) (xs : List ℕ)
    → ((number y : ℕ) → ArePartners number x y → IsAttached clauses number → ⊥) → lists 0 ≡ x ∷ xs → IsLinked clauses variables w fallen lists
    → IsLinked clauses variables (taken w x) fallen (put lists 0 xs)
dropped clauses variables w fallen lists x xs off is old = record {
  heads_size = length-set w.heads 0 (next_at w.slots x) ∙ old.heads_size;
  slots_size = old.slots_size;
  within = old.within;
  links = taken_links w lists x xs (omega (arith, old.heads_size)) old.links is;
  listed = λ number z y held long partners.
      let apart : z ≢ x = λ e. off number y (subst (λ (n : ℕ). ArePartners number n y) e partners) held.0 in
      elim (old.listed number z y held long partners) [
        | inl work ↦ inl (rest z apart work)
        | inr there ↦ inr (subst (λ (ys : List ℕ). Contains ys z) (sym (put_other lists 0 xs (code (watch_at w.slots z)) (code_not_work (watch_at w.slots z)))) there)
      ];
  members = λ l z among. old.members l z (in_before lists 0 x xs is l z among);
}
  where
    rest : (z : ℕ) → z ≢ x → Contains (lists 0) z → Contains (put lists 0 xs 0) z
    rest z apart among = subst (λ (ys : List ℕ). Contains ys z) (sym (put_here lists 0 xs 0 refl)) (elim (first_or_rest _ _ _ (let at : Contains (x ∷ xs) z = subst (λ (ys : List ℕ). Contains ys z) is among in at)) [
      | inl first ↦ absurd (apart (sym first))
      | inr later ↦ later
    ])

-- the lists after the first slot of the work list was linked to a literal
abbrev pub relisted : (ℕ → List ℕ) → ℕ → List ℕ → Lit → ℕ → List ℕ
relisted lists x xs lit = put (put lists 0 xs) (code lit) (x ∷ put lists 0 xs (code lit))

-- the first slot of the work list is linked to a literal
pub relinked : (clauses : List Stored) (variables : ℕ) (w : WatchesForm) (fallen : Lit) (lists : ℕ → List ℕ) (x : ℕ) (xs : List ℕ) (lit : Lit)
    → lit.variable < variables → lists 0 ≡ x ∷ xs → IsLinked clauses variables w fallen lists
    → IsLinked clauses variables (at_front (taken w x) x lit) fallen (relisted lists x xs lit)
relinked clauses variables w fallen lists x xs lit named is old = record {
  heads_size = length-set (taken w x).heads (code lit) (x + 1) ∙ length-set w.heads 0 (next_at w.slots x) ∙ old.heads_size;
  slots_size = length-set w.slots x front ∙ old.slots_size;
  within = old.within;
  links = pushed (link_at (taken w x).heads) (link_at (at_front (taken w x) x lit).heads) (next_at w.slots) (next_at (at_front (taken w x) x lit).slots) (put lists 0 xs) (code lit) x
      (taken_links w lists x xs (omega (arith, old.heads_size)) old.links is)
      (popped_loose (link_at w.heads) (next_at w.slots) lists 0 x xs old.links is)
      (get_or-set_same (taken w x).heads (code lit) (x + 1) 0 (omega (arith, code_below lit variables named, length-set w.heads 0 (next_at w.slots x), old.heads_size)))
      (λ k differ. get_or-set_other (taken w x).heads (code lit) k (x + 1) 0 differ)
      (ap (λ (s : Slot). s.next) at_x)
      (λ y differ. ap (λ (s : Slot). s.next) (other y differ));
  listed = λ number z y held long partners. elim (cases_eq z x) [
    | inl same ↦
        let there : watch_at (slice_set w.slots x front) z ≡ lit = ap (λ (n : ℕ). watch_at (slice_set w.slots x front) n) same ∙ ap (λ (s : Slot). s.lit) at_x in
        inr (subst (λ (l : Lit). Contains (relisted lists x xs lit (code l)) z) (sym there)
        (subst (λ (ys : List ℕ). Contains ys z) (sym (put_here (put lists 0 xs) (code lit) (x ∷ put lists 0 xs (code lit)) (code lit) refl)) (0, omega arith, sym same)))
    | inr differ ↦ elim (old.listed number z y held long partners) [
      | inl work ↦ inl (stays 0 z (rest z differ work))
      | inr there ↦ inr (subst (λ (l : Lit). Contains (relisted lists x xs lit (code l)) z) (sym (ap (λ (s : Slot). s.lit) (other z differ)))
          (stays (code (watch_at w.slots z)) z
          (subst (λ (ys : List ℕ). Contains ys z) (sym (put_other lists 0 xs (code (watch_at w.slots z)) (code_not_work (watch_at w.slots z)))) there)))
    ]
  ];
  members = λ l z among. elim (pushed_cases (put lists 0 xs) (code lit) x l z among) [
    | inl new ↦ (
      subst (λ (n : ℕ). IsMember clauses w.linked n) (sym new.1) member.0,
      inr (ap code (ap (λ (n : ℕ). watch_at (slice_set w.slots x front) n) new.1 ∙ ap (λ (s : Slot). s.lit) at_x) ∙ sym new.0),
    )
    | inr was ↦
        let differ : z ≢ x = λ e. popped_loose (link_at w.heads) (next_at w.slots) lists 0 x xs old.links is l (subst (λ (n : ℕ). Contains (put lists 0 xs l) n) e was) in
        let before : IsMember clauses w.linked z × IsOf l (watch_at w.slots z) fallen = old.members l z (in_before lists 0 x xs is l z was) in
        (before.0, subst (λ (k : Lit). IsOf l k fallen) (sym (ap (λ (s : Slot). s.lit) (other z differ))) before.1)
  ];
}
  where
    front : Slot
    front = record { lit = lit; next = link_at (taken w x).heads (code lit) }

    member : IsMember clauses w.linked x × IsOf 0 (watch_at w.slots x) fallen
    member = old.members 0 x (subst (λ (ys : List ℕ). Contains ys x) (sym is) (here _ _))

    within : x < length w.slots
    within = omega (arith, old.slots_size, old.within, partner_within member.0.number x member.0.other w.linked member.0.partners member.0.before)

    at_x : get_or (slice_set w.slots x front) x no_slot ≡ front
    at_x = get_or-set_same w.slots x front no_slot within

    other : (y : ℕ) → y ≢ x → get_or (slice_set w.slots x front) y no_slot ≡ get_or w.slots y no_slot
    other y differ = get_or-set_other w.slots x y front no_slot differ

    rest : (z : ℕ) → z ≢ x → Contains (lists 0) z → Contains (put lists 0 xs 0) z
    rest z apart among = subst (λ (ys : List ℕ). Contains ys z) (sym (put_here lists 0 xs 0 refl)) (elim (first_or_rest _ _ _ (let at : Contains (x ∷ xs) z = subst (λ (ys : List ℕ). Contains ys z) is among in at)) [
      | inl first ↦ absurd (apart (sym first))
      | inr later ↦ later
    ])

    stays : (l z : ℕ) → Contains (put lists 0 xs l) z → Contains (relisted lists x xs lit l) z
    stays l z among = elim (cases_eq l (code lit)) [
      | inl same ↦ subst (λ (ys : List ℕ). Contains ys z) (sym (put_here (put lists 0 xs) (code lit) (x ∷ put lists 0 xs (code lit)) l same))
          (there _ _ _ (subst (λ (n : ℕ). Contains (put lists 0 xs n) z) same among))
      | inr differ ↦ subst (λ (ys : List ℕ). Contains ys z) (sym (put_other (put lists 0 xs) (code lit) (x ∷ put lists 0 xs (code lit)) l differ)) among
    ]

-- the work list that is left
pub work_left : (lists : ℕ → List ℕ) (x : ℕ) (xs : List ℕ) (lit : Lit) → relisted lists x xs lit 0 ≡ xs
work_left lists x xs lit = put_other (put lists 0 xs) (code lit) (x ∷ put lists 0 xs (code lit)) 0 (λ e. code_not_work lit (sym e)) ∙ put_here lists 0 xs 0 refl

-- the list of a literal becomes the work list
abbrev pub begun : WatchesForm → Lit → WatchesForm
begun w lit = record w { heads = slice_set (slice_set w.heads 0 (link_at w.heads (code lit))) (code lit) 0; cursor = w.cursor + 1 }

abbrev pub begun_lists : (ℕ → List ℕ) → Lit → ℕ → List ℕ
begun_lists lists lit = put (put lists (code lit) []) 0 (lists (code lit))

pub begins : (clauses : List Stored) (variables : ℕ) (w : WatchesForm) (before fallen : Lit) (lists : ℕ → List ℕ) → fallen.variable < variables → lists 0 ≡ []
    → IsLinked clauses variables w before lists → IsLinked clauses variables (begun w fallen) fallen (begun_lists lists fallen)
begins clauses variables w before fallen lists named empty old = record {
  heads_size = length-set (slice_set w.heads 0 (link_at w.heads (code fallen))) (code fallen) 0 ∙ length-set w.heads 0 (link_at w.heads (code fallen)) ∙ old.heads_size;
  slots_size = old.slots_size;
  within = old.within;
  links = given (link_at w.heads) (link_at (begun w fallen).heads) (next_at w.slots) lists (code fallen) 0 (code_not_work fallen) old.links empty
      (get_or-set_same (slice_set w.heads 0 (link_at w.heads (code fallen))) (code fallen) 0 0
      (omega (arith, code_below fallen variables named, length-set w.heads 0 (link_at w.heads (code fallen)), old.heads_size)))
      (get_or-set_other (slice_set w.heads 0 (link_at w.heads (code fallen))) (code fallen) 0 0 0 (λ e. code_not_work fallen (sym e))
      ∙ get_or-set_same w.heads 0 (link_at w.heads (code fallen)) 0 (omega (arith, old.heads_size)))
      (λ k not_l not_0. get_or-set_other (slice_set w.heads 0 (link_at w.heads (code fallen))) (code fallen) k 0 0 not_l
      ∙ get_or-set_other w.heads 0 k (link_at w.heads (code fallen)) 0 not_0);
  listed = λ number z y held long partners. elim (old.listed number z y held long partners) [
    | inl work ↦ absurd (nothing_in _ (subst (λ (ys : List ℕ). Contains ys z) empty work))
    | inr there ↦ elim (cases_eq (code (watch_at w.slots z)) (code fallen)) [
      | inl same ↦ inl (subst (λ (ys : List ℕ). Contains ys z) (sym (put_here (put lists (code fallen) []) 0 (lists (code fallen)) 0 refl)) (subst (λ (n : ℕ). Contains (lists n) z) same there))
      | inr differ ↦ inr (subst (λ (ys : List ℕ). Contains ys z)
          (sym (put_other (put lists (code fallen) []) 0 (lists (code fallen)) (code (watch_at w.slots z)) (code_not_work (watch_at w.slots z)) ∙ put_other lists (code fallen) [] (code (watch_at w.slots z)) differ)) there)
    ]
  ];
  members = λ l z. put_each (put lists (code fallen) []) 0 (lists (code fallen)) (λ k ys. Contains ys z → IsMember clauses w.linked z × IsOf k (watch_at w.slots z) fallen)
      (λ among.
      let was : IsMember clauses w.linked z × IsOf (code fallen) (watch_at w.slots z) before = old.members (code fallen) z among in (
        was.0,
        elim was.1 [
          | inl work ↦ absurd (code_not_work fallen work.0)
          | inr there ↦ inl (refl, code_same (watch_at w.slots z) fallen there)
        ],
      ))
      (λ k not_work. put_each lists (code fallen) [] (λ n ys. n ≢ 0 → Contains ys z → IsMember clauses w.linked z × IsOf n (watch_at w.slots z) fallen) (λ _ no. absurd (nothing_in _ no))
      (λ n differ not_0 among. (
        (old.members n z among).0,
        elim (old.members n z among).1 [
          | inl work ↦ absurd (not_0 work.0)
          | inr there ↦ inr there
        ],
      )) k not_work) l;
}

-- the literal that a slot watches is replaced
pub rewatched : (s : SolverForm) (watch new : ℕ → Lit) (linked cursor : ℕ) (skipped left : ℕ → Type 0) (x : ℕ) (lit : Lit)
    → new x ≡ lit → ((z : ℕ) → z ≢ x → new z ≡ watch z)
    → ((number y : ℕ) → IsHeld s.clauses linked number → ArePartners number x y
    → Contains (clause_at s.clauses number) lit × (lit ≢ watch y) × IsSafe (assigned s) cursor lit (watch y) × IsSafe (assigned s) cursor (watch y) lit)
    → ((z : ℕ) → z ≢ x → skipped z → left z)
    → AreWatched s watch linked cursor skipped → AreWatched s new linked cursor left
rewatched s watch new linked cursor skipped left x lit here same good skips old = record {
  long = λ number z y held long partners. elim (cases_eq z x) [
    | inl at_z ↦
        let pair : ArePartners number x y = subst (λ (n : ℕ). ArePartners number n y) at_z partners in
        let what : Contains (clause_at s.clauses number) lit × (lit ≢ watch y) × IsSafe (assigned s) cursor lit (watch y) × IsSafe (assigned s) cursor (watch y) lit = good number y held pair in
        let first : new z ≡ lit = ap new at_z ∙ here in
        let second : new y ≡ watch y = same y (λ e. partner_apart number z y partners (at_z ∙ sym e)) in
        record {
          within = subst (λ (l : Lit). Contains (clause_at s.clauses number) l) (sym first) what.0;
          differs = λ e. what.1 (sym first ∙ e ∙ second);
          safe = inr (subst (λ (l : Lit). IsSafe (assigned s) cursor l (new y)) (sym first) (subst (λ (l : Lit). IsSafe (assigned s) cursor lit l) (sym second) what.2));
        }
    | inr not_z ↦
        let was : Watches (assigned s) cursor skipped (clause_at s.clauses number) watch z y = old.long number z y held long partners in
        let first : new z ≡ watch z = same z not_z in
        elim (cases_eq y x) [
          | inl at_y ↦
              let pair : ArePartners number x z = subst (λ (n : ℕ). ArePartners number n z) at_y (partner_back number z y partners) in
              let what : Contains (clause_at s.clauses number) lit × (lit ≢ watch z) × IsSafe (assigned s) cursor lit (watch z) × IsSafe (assigned s) cursor (watch z) lit = good number z held pair in
              let second : new y ≡ lit = ap new at_y ∙ here in
              record {
                within = subst (λ (l : Lit). Contains (clause_at s.clauses number) l) (sym first) was.within;
                differs = λ e. what.1 (sym second ∙ sym e ∙ first);
                safe = inr (subst (λ (l : Lit). IsSafe (assigned s) cursor l (new y)) (sym first) (subst (λ (l : Lit). IsSafe (assigned s) cursor (watch z) l) (sym second) what.3));
              }
          | inr not_y ↦
              let second : new y ≡ watch y = same y not_y in
              record {
                within = subst (λ (l : Lit). Contains (clause_at s.clauses number) l) (sym first) was.within;
                differs = λ e. was.differs (sym first ∙ e ∙ second);
                safe = elim was.safe [
                  | inl skip ↦ inl (skips z not_z skip)
                  | inr safe ↦ inr (subst (λ (l : Lit). IsSafe (assigned s) cursor l (new y)) (sym first) (subst (λ (l : Lit). IsSafe (assigned s) cursor (watch z) l) (sym second) safe))
                ];
              }
        ]
  ];
  fresh = old.fresh;
  cursor_in = old.cursor_in;
  linked_in = old.linked_in;
}
