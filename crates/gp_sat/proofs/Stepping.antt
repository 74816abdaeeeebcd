-- One step of the walk along the slots that watch a literal which fell.
use Rattle.std.proofs.Common.{◌≡◌, ◌≢◌, refl, sym, ◌∙◌, ap, subst, ℕ, ◌+◌, ◌-◌, ◌<◌, ◌≤◌, false, Option, Some, None, List, [], ◌∷◌, length, get_or, inl, inr, arith}
use Rattle.std.specs.Prelude.{Contains}
use Rattle.std.proofs.lemmas.Bool.{cases_eq}
use Rattle.std.proofs.lemmas.List.{get_or-set_same, get_or-set_other, length-set, length_push}
use Rattle.gp_base.specs.ListLaws.{first_or_rest, here}
use Rattle.gp_clause.specs.declared.lit.Lit.{Lit}
use Rattle.gp_sat.specs.declared.assigned.Assigned.{Assigned}
use Rattle.gp_sat.specs.Slot.{Slot}
use Rattle.gp_sat.specs.State.{SolverForm, assigned, clause_at, IsAttached, with_literal}
use Rattle.gp_sat.specs.Standing.{IsFalse, IsFalseBefore, EachOther, Each}
use Rattle.gp_sat.specs.Sound.{IsSound, true_lit}
use Rattle.gp_sat.specs.Looking.{IsTrueLit, IsUnit}
use Rattle.gp_sat.specs.Links.{IsChain, put}
use Rattle.gp_sat.specs.WatchesForm.{WatchesForm}
use Rattle.gp_sat.specs.Watching.{ArePartners, IsTrueTo, IsSafe, IsHeld, IsLong, Watches, AreWatched, code, link_at, next_at, watch_at, no_slot}
use Rattle.gp_sat.specs.Linked.{IsMember, IsOf, IsLinked}
use Rattle.gp_sat.specs.Stepping.{IsPick, HasFallenBeside, HasFallen, IsWalking, IsReturning, GoesOn, Stops, work}
use Rattle.gp_sat.proofs.Lengths.{once_few, steps_is}
use Rattle.gp_sat.proofs.Watched.{watched_more}
use Rattle.gp_sat.proofs.Linking.{put_here}
use Rattle.gp_sat.proofs.Relinking.{chain_first, same_partner, partner_within, taken, at_front, dropped, relinked, relisted, work_left, rewatched, code_not_work, code_below, partner_back}
use Rattle.gp_sat.specs.SolverLaws.{added, added_stays, adds_literal, true_not_false, within_values}
use Rattle.gp_clause.specs.LitLaws.{lits_cases}

-- a fallen literal is false, at the present level
fell_once : (s : SolverForm) (cursor : ℕ) (fallen : Lit) (a : Assigned) → HasFallen s cursor fallen → assigned s fallen.variable ≡ Some a → (a.level ≡ s.level) × (a.place + 1 ≡ cursor)
fell_once s cursor fallen a fell is =
    let there : assigned s fallen.variable ≡ Some fell.value = fell.is in
    let same : fell.value ≡ a = cc in
    (ap (λ (x : Assigned). x.level) (sym same) ∙ fell.present, ap (λ (x : Assigned). x.place + 1) (sym same) ∙ fell.there)

-- where the other literal is true, the pair of a fallen literal is safe
pub safe_true : (s : SolverForm) (cursor : ℕ) (fallen other : Lit) → IsSound s → HasFallen s cursor fallen → IsTrueLit (assigned s) other
    → IsSafe (assigned s) cursor fallen other × IsSafe (assigned s) cursor other fallen
safe_true s cursor fallen other sound fell (b, is, sign) = (
  λ (a, there, _, _). (b, is, sign, omega (arith, (sound.ordered.present other.variable b is).0, (fell_once s cursor fallen a fell there).0)),
  λ (a, there, opposite, _). absurd (true_not_false (assigned s) other (b, is, sign) (a, there, opposite)),
)

-- a literal that is not false is safe
pub safe_open : (values : ℕ → Option Assigned) (cursor : ℕ) (lit other : Lit) → (IsFalse values lit → ⊥) → IsSafe values cursor lit other
safe_open values cursor lit other open_lit (a, is, sign, before) = absurd (open_lit (a, is, sign))

-- the first slot of the work list
pub record IsFirst (s : SolverForm) (w : WatchesForm) (fallen : Lit) (lists : ℕ → List ℕ) (x : ℕ) : Type 0 where
  pub rest : List ℕ
  pub is : lists 0 ≡ x ∷ rest
  pub member : IsMember s.clauses w.linked x
  pub watch : watch_at w.slots x ≡ fallen

pub first_slot : (s : SolverForm) (w : WatchesForm) (fallen : Lit) (lists : ℕ → List ℕ) (x : ℕ) → IsLinked s.clauses (length s.values) w fallen lists → link_at w.heads 0 ≡ x + 1 → IsFirst s w fallen lists x
first_slot s w fallen lists x linked first =
    let list : (xs : List ℕ) × (lists 0 ≡ x ∷ xs) = chain_first (next_at w.slots) (link_at w.heads 0) x (lists 0) (linked.links.chains 0) first in
    let among : IsMember s.clauses w.linked x × IsOf 0 (watch_at w.slots x) fallen = linked.members 0 x (subst (λ (ys : List ℕ). Contains ys x) (sym list.1) (here _ _)) in
    record {
      rest = list.0;
      is = list.1;
      member = among.0;
      watch = elim among.1 [
        | inl work ↦ work.1
        | inr there ↦ absurd (code_not_work (watch_at w.slots x) there)
      ];
    }

-- what is left of the work list after its first slot
left_after : (lists : ℕ → List ℕ) (x z : ℕ) (xs : List ℕ) (lit : Lit) → lists 0 ≡ x ∷ xs → z ≢ x → Contains (lists 0) z → Contains (relisted lists x xs lit 0) z
left_after lists x z xs lit is apart among = subst (λ (ys : List ℕ). Contains ys z) (sym (work_left lists x xs lit))
    (elim (first_or_rest _ _ _ (let at : Contains (x ∷ xs) z = subst (λ (ys : List ℕ). Contains ys z) is among in at)) [
      | inl first ↦ absurd (apart (sym first))
      | inr later ↦ later
    ])

watch_here : (w : WatchesForm) (x : ℕ) (lit : Lit) → x < length w.slots → watch_at (at_front (taken w x) x lit).slots x ≡ lit
watch_here w x lit within = ap (λ (s : Slot). s.lit) (get_or-set_same w.slots x (record { lit = lit; next = link_at (taken w x).heads (code lit) }) no_slot within)

watch_other : (w : WatchesForm) (x : ℕ) (lit : Lit) (z : ℕ) → z ≢ x → watch_at (at_front (taken w x) x lit).slots z ≡ watch_at w.slots z
watch_other w x lit z differ = ap (λ (s : Slot). s.lit) (get_or-set_other w.slots x z (record { lit = lit; next = link_at (taken w x).heads (code lit) }) no_slot differ)

pub slot_within : (s : SolverForm) (w : WatchesForm) (fallen : Lit) (lists : ℕ → List ℕ) (x : ℕ) → IsLinked s.clauses (length s.values) w fallen lists → IsMember s.clauses w.linked x → x < length w.slots
slot_within s w fallen lists x linked member = omega (arith, linked.slots_size, linked.within, partner_within member.number x member.other w.linked member.partners member.before)

-- the first slot of the work list goes to a literal with which the pair is safe
pub steps_to : (s : SolverForm) (w : WatchesForm) (fallen : Lit) (x number y : ℕ) (lit : Lit) (walking : IsWalking s w fallen) → link_at w.heads 0 ≡ x + 1 → ArePartners number x y
    → lit.variable < length s.values
    → (IsHeld s.clauses w.linked number → Contains (clause_at s.clauses number) lit × (lit ≢ watch_at w.slots y) × IsSafe (assigned s) w.cursor lit (watch_at w.slots y) × IsSafe (assigned s) w.cursor (watch_at w.slots y) lit)
    → IsWalking s (at_front (taken w x) x lit) fallen
steps_to s w fallen x number y lit walking first partners named good =
    let at : IsFirst s w fallen walking.lists x = first_slot s w fallen walking.lists x walking.linked first in
    record {
      sound = walking.sound;
      lists = relisted walking.lists x at.rest lit;
      linked = relinked s.clauses (length s.values) w fallen walking.lists x at.rest lit named at.is walking.linked;
      watched = rewatched s (watch_at w.slots) (watch_at (at_front (taken w x) x lit).slots) w.linked w.cursor (λ z. Contains (walking.lists 0) z) (λ z. Contains (relisted walking.lists x at.rest lit 0) z) x lit
          (watch_here w x lit (slot_within s w fallen walking.lists x walking.linked at.member)) (watch_other w x lit)
          (λ n z held pair.
          let same : (n ≡ number) × (z ≡ y) = same_partner n number x z y pair partners in
          let goal : Type 0 = Contains (clause_at s.clauses n) lit × (lit ≢ watch_at w.slots z) × IsSafe (assigned s) w.cursor lit (watch_at w.slots z) × IsSafe (assigned s) w.cursor (watch_at w.slots z) lit in
          subst (λ (m : ℕ). Contains (clause_at s.clauses m) lit × (lit ≢ watch_at w.slots z) × IsSafe (assigned s) w.cursor lit (watch_at w.slots z) × IsSafe (assigned s) w.cursor (watch_at w.slots z) lit) (sym same.0)
          (subst (λ (m : ℕ). Contains (clause_at s.clauses number) lit × (lit ≢ watch_at w.slots m) × IsSafe (assigned s) w.cursor lit (watch_at w.slots m) × IsSafe (assigned s) w.cursor (watch_at w.slots m) lit) (sym same.1)
          (good (subst (λ (m : ℕ). IsHeld s.clauses w.linked m) same.0 held))))
          (λ z apart among. left_after walking.lists x z at.rest lit at.is apart among)
          walking.watched;
      fell = walking.fell;
    }

-- a step drops the slot of a clause that is not attached
pub steps_off : (s : SolverForm) (w : WatchesForm) (fallen : Lit) (x number y : ℕ) (walking : IsWalking s w fallen) → link_at w.heads 0 ≡ x + 1 → ArePartners number x y
    → (IsAttached s.clauses number → ⊥) → IsWalking s (taken w x) fallen
steps_off s w fallen x number y walking first partners off =
    let at : IsFirst s w fallen walking.lists x = first_slot s w fallen walking.lists x walking.linked first in
    let none : (n z : ℕ) → ArePartners n x z → IsAttached s.clauses n → ⊥ = λ n z pair attached. off (subst (λ (m : ℕ). IsAttached s.clauses m) (same_partner n number x z y pair partners).0 attached) in
    record {
      sound = walking.sound;
      lists = put walking.lists 0 at.rest;
      linked = dropped s.clauses (length s.values) w fallen walking.lists x at.rest none at.is walking.linked;
      watched = record {
        long = λ n z v held long pair.
            let was : Watches (assigned s) w.cursor (λ k. Contains (walking.lists 0) k) (clause_at s.clauses n) (watch_at w.slots) z v = walking.watched.long n z v held long pair in
            let apart : z ≢ x = λ e. none n v (subst (λ (k : ℕ). ArePartners n k v) e pair) held.0 in
            record {
              within = was.within;
              differs = was.differs;
              safe = elim was.safe [
                | inl skip ↦ inl (subst (λ (ys : List ℕ). Contains ys z) (sym (put_here walking.lists 0 at.rest 0 refl)) (elim (first_or_rest _ _ _ (let among : Contains (x ∷ at.rest) z = subst (λ (ys : List ℕ). Contains ys z) at.is skip in among)) [
                  | inl same ↦ absurd (apart (sym same))
                  | inr later ↦ later
                ]))
                | inr safe ↦ inr safe
              ];
            };
        fresh = walking.watched.fresh;
        cursor_in = walking.watched.cursor_in;
        linked_in = walking.watched.linked_in;
      };
      fell = walking.fell;
    }

-- how long the work list is
pub work_is : (s : SolverForm) (w : WatchesForm) (fallen : Lit) (lists : ℕ → List ℕ) → IsLinked s.clauses (length s.values) w fallen lists → work w ≡ length (lists 0)
work_is s w fallen lists linked = steps_is (next_at w.slots) (length w.slots) (link_at w.heads 0) (lists 0) (linked.links.chains 0)
    (once_few (lists 0) (length w.slots) (linked.links.once 0) (λ x among. slot_within s w fallen lists x linked (linked.members 0 x among).0))

-- the work list gets shorter by its first slot
fewer_slots : (s : SolverForm) (w left : WatchesForm) (fallen : Lit) (lists after : ℕ → List ℕ) (x : ℕ) (xs : List ℕ) → IsLinked s.clauses (length s.values) w fallen lists → IsLinked s.clauses (length s.values) left fallen after
    → lists 0 ≡ x ∷ xs → after 0 ≡ xs → work left < work w
fewer_slots s w left fallen lists after x xs before linked is rest =
    let longer : length (lists 0) ≡ length xs + 1 = ap length is ∙ add-one-back xs in
    omega (arith, work_is s w fallen lists before, work_is s left fallen after linked, longer, ap (λ (ys : List ℕ). length ys) rest)
  where
    add-one-back : (ys : List ℕ) → length (x ∷ ys) ≡ length ys + 1
    add-one-back ys = omega arith

pub goes_to : (s : SolverForm) (w : WatchesForm) (fallen : Lit) (x number y : ℕ) (lit : Lit) (walking : IsWalking s w fallen) → link_at w.heads 0 ≡ x + 1 → ArePartners number x y
    → lit.variable < length s.values
    → (IsHeld s.clauses w.linked number → Contains (clause_at s.clauses number) lit × (lit ≢ watch_at w.slots y) × IsSafe (assigned s) w.cursor lit (watch_at w.slots y) × IsSafe (assigned s) w.cursor (watch_at w.slots y) lit)
    → GoesOn s w (at_front (taken w x) x lit) fallen
goes_to s w fallen x number y lit walking first partners named good =
    let at : IsFirst s w fallen walking.lists x = first_slot s w fallen walking.lists x walking.linked first in
    record {
      walking = steps_to s w fallen x number y lit walking first partners named good;
      linked = refl;
      cursor = refl;
      kept = record { shorts = refl; looked = refl };
      fewer = fewer_slots s w (at_front (taken w x) x lit) fallen walking.lists (relisted walking.lists x at.rest lit) x at.rest walking.linked
          (relinked s.clauses (length s.values) w fallen walking.lists x at.rest lit named at.is walking.linked) at.is (work_left walking.lists x at.rest lit);
    }

pub goes_off : (s : SolverForm) (w : WatchesForm) (fallen : Lit) (x number y : ℕ) (walking : IsWalking s w fallen) → link_at w.heads 0 ≡ x + 1 → ArePartners number x y
    → (IsAttached s.clauses number → ⊥) → GoesOn s w (taken w x) fallen
goes_off s w fallen x number y walking first partners off =
    let at : IsFirst s w fallen walking.lists x = first_slot s w fallen walking.lists x walking.linked first in
    let none : (n z : ℕ) → ArePartners n x z → IsAttached s.clauses n → ⊥ = λ n z pair attached. off (subst (λ (m : ℕ). IsAttached s.clauses m) (same_partner n number x z y pair partners).0 attached) in
    record {
      walking = steps_off s w fallen x number y walking first partners off;
      linked = refl;
      cursor = refl;
      kept = record { shorts = refl; looked = refl };
      fewer = fewer_slots s w (taken w x) fallen walking.lists (put walking.lists 0 at.rest) x at.rest walking.linked
          (dropped s.clauses (length s.values) w fallen walking.lists x at.rest none at.is walking.linked) at.is (put_here walking.lists 0 at.rest 0 refl);
    }

-- what the two slots of a clause that is held say, where the literal of the first fell
pub record IsPair (s : SolverForm) (w : WatchesForm) (fallen : Lit) (number x y : ℕ) : Type 0 where
  pub one : Contains (clause_at s.clauses number) fallen
  pub two : Contains (clause_at s.clauses number) (watch_at w.slots y)
  pub differ : fallen ≢ watch_at w.slots y
  pub not_before : IsFalseBefore w.cursor (assigned s) (watch_at w.slots y) → ⊥

pub pair_of : (s : SolverForm) (w : WatchesForm) (fallen : Lit) (x number y : ℕ) (walking : IsWalking s w fallen) → link_at w.heads 0 ≡ x + 1 → ArePartners number x y → IsHeld s.clauses w.linked number
    → IsPair s w fallen number x y
pair_of s w fallen x number y walking first partners held =
    let at : IsFirst s w fallen walking.lists x = first_slot s w fallen walking.lists x walking.linked first in
    let long : IsLong s.clauses number = subst (λ (m : ℕ). IsLong s.clauses m) (same_partner at.member.number number x at.member.other y at.member.partners partners).0 at.member.long in
    let one : Watches (assigned s) w.cursor (λ z. Contains (walking.lists 0) z) (clause_at s.clauses number) (watch_at w.slots) x y = walking.watched.long number x y held long partners in
    let two : Watches (assigned s) w.cursor (λ z. Contains (walking.lists 0) z) (clause_at s.clauses number) (watch_at w.slots) y x = walking.watched.long number y x held long (partner_back number x y partners) in
    let apart : fallen ≢ watch_at w.slots y = λ e. one.differs (at.watch ∙ e) in
    record {
      one = subst (λ (l : Lit). Contains (clause_at s.clauses number) l) at.watch one.within;
      two = two.within;
      differ = apart;
      not_before = λ fell. elim two.safe [
        | inl skip ↦ elim (walking.linked.members 0 y skip).1 [
          | inl work ↦ apart (sym work.1)
          | inr there ↦ code_not_work (watch_at w.slots y) there
        ]
        | inr safe ↦
            let back : IsTrueTo fell.0.level (assigned s) (watch_at w.slots x) = safe fell in
            true_not_false (assigned s) fallen
            (subst (λ (l : Lit). IsTrueLit (assigned s) l) at.watch (back.0, back.1, back.2))
            (walking.fell.value, walking.fell.is, walking.fell.opposes)
      ];
    }

-- beside the other literal of a clause that is held stands the one that fell
pub fallen_beside : (s : SolverForm) (w : WatchesForm) (fallen : Lit) (x number y : ℕ) (walking : IsWalking s w fallen) → link_at w.heads 0 ≡ x + 1 → ArePartners number x y → IsAttached s.clauses number
    → HasFallenBeside (assigned s) (clause_at s.clauses number) (watch_at w.slots y)
fallen_beside s w fallen x number y walking first partners attached =
    let at : IsFirst s w fallen walking.lists x = first_slot s w fallen walking.lists x walking.linked first in
    let below : number < w.linked = subst (λ (m : ℕ). m < w.linked) (same_partner at.member.number number x at.member.other y at.member.partners partners).0 at.member.before in
    let pair : IsPair s w fallen number x y = pair_of s w fallen x number y walking first partners (attached, below) in
    record {
      fallen = fallen;
      one = pair.one;
      two = pair.two;
      differ = pair.differ;
      fell = (walking.fell.value, walking.fell.is, walking.fell.opposes);
    }

-- a variable that is assigned is one of the solver
fallen_named : (s : SolverForm) (cursor : ℕ) (fallen : Lit) → HasFallen s cursor fallen → fallen.variable < length s.values
fallen_named s cursor fallen fell = within_values s.values fallen.variable fell.value fell.is

-- the slot stays, where the other literal is true
pub goes_keeps : (s : SolverForm) (w : WatchesForm) (fallen : Lit) (x number y : ℕ) (walking : IsWalking s w fallen) → link_at w.heads 0 ≡ x + 1 → ArePartners number x y
    → IsTrueLit (assigned s) (watch_at w.slots y) → GoesOn s w (at_front (taken w x) x fallen) fallen
goes_keeps s w fallen x number y walking first partners holds = goes_to s w fallen x number y fallen walking first partners (fallen_named s w.cursor fallen walking.fell) (λ held.
    let pair : IsPair s w fallen number x y = pair_of s w fallen x number y walking first partners held in
    let safe : IsSafe (assigned s) w.cursor fallen (watch_at w.slots y) × IsSafe (assigned s) w.cursor (watch_at w.slots y) fallen = safe_true s w.cursor fallen (watch_at w.slots y) walking.sound walking.fell holds in
    (pair.one, pair.differ, safe.0, safe.1))

-- the slot moves to a literal that is not false
pub goes_moves : (s : SolverForm) (w : WatchesForm) (fallen : Lit) (x number y : ℕ) (lit : Lit) (walking : IsWalking s w fallen) → link_at w.heads 0 ≡ x + 1 → ArePartners number x y
    → IsPick (assigned s) (clause_at s.clauses number) (watch_at w.slots y) lit → GoesOn s w (at_front (taken w x) x lit) fallen
goes_moves s w fallen x number y lit walking first partners picked = goes_to s w fallen x number y lit walking first partners (walking.sound.named number lit picked.0) (λ held.
    let pair : IsPair s w fallen number x y = pair_of s w fallen x number y walking first partners held in (
      picked.0,
      picked.1,
      safe_open (assigned s) w.cursor lit (watch_at w.slots y) picked.2,
      λ (a, is, sign, before). absurd (pair.not_before (a, is, sign, before)),
    ))

-- a literal is forced on the walk
pub walking_more : (s t : SolverForm) (w : WatchesForm) (fallen : Lit) (lit : Lit) (reason : Option ℕ) → t ≡ with_literal s lit s.level reason → IsSound t → lit.variable < length s.values → assigned s lit.variable ≡ None
    → IsWalking s w fallen → IsWalking t w fallen
walking_more s t w fallen lit reason is sound named free walking = record {
  sound = sound;
  lists = walking.lists;
  linked = subst (λ (u : SolverForm). IsLinked u.clauses (length u.values) w fallen walking.lists) (sym is)
      (subst (λ (n : ℕ). IsLinked s.clauses n w fallen walking.lists) (sym (length-set s.values lit.variable (Some (added s lit s.level reason)))) walking.linked);
  watched = subst (λ (u : SolverForm). AreWatched u (watch_at w.slots) w.linked w.cursor (λ x. Contains (walking.lists 0) x)) (sym is)
      (watched_more s lit s.level reason (watch_at w.slots) w.linked w.cursor (λ x. Contains (walking.lists 0) x) named free (inl refl) walking.sound (length_push s.trail lit) walking.watched);
  fell = record {
    value = walking.fell.value;
    is = subst (λ (u : SolverForm). assigned u fallen.variable ≡ Some walking.fell.value) (sym is)
        (added_stays (adds_literal s lit s.level reason named free) fallen.variable walking.fell.value walking.fell.is);
    opposes = walking.fell.opposes;
    present = walking.fell.present ∙ ap (λ (u : SolverForm). u.level) (sym is);
    there = walking.fell.there;
  };
}

-- and is true then
pub added_true : (s t : SolverForm) (lit : Lit) (reason : Option ℕ) → t ≡ with_literal s lit s.level reason → lit.variable < length s.values → assigned s lit.variable ≡ None → IsTrueLit (assigned t) lit
added_true s t lit reason is named free = subst (λ (u : SolverForm). IsTrueLit (assigned u) lit) (sym is)
    (added s lit s.level reason, (adds_literal s lit s.level reason named free).here, refl)

-- a clause of a literal that fell is unit by the other one
pub is_unit : (s : SolverForm) (w : WatchesForm) (fallen : Lit) (x number y : ℕ) (walking : IsWalking s w fallen) → link_at w.heads 0 ≡ x + 1 → ArePartners number x y → IsAttached s.clauses number
    → assigned s (watch_at w.slots y).variable ≡ None → EachOther (IsFalse (assigned s)) (clause_at s.clauses number) (watch_at w.slots y)
    → IsUnit (assigned s) (clause_at s.clauses number) (watch_at w.slots y)
is_unit s w fallen x number y walking first partners attached free others =
    let at : IsFirst s w fallen walking.lists x = first_slot s w fallen walking.lists x walking.linked first in
    let below : number < w.linked = subst (λ (m : ℕ). m < w.linked) (same_partner at.member.number number x at.member.other y at.member.partners partners).0 at.member.before in
    record {
      within = (pair_of s w fallen x number y walking first partners (attached, below)).two;
      free = free;
      others = others;
    }

-- a clause of which one literal and all others are false is false
pub all_false : (values : ℕ → Option Assigned) (clause : List Lit) (lit : Lit) → IsFalse values lit → EachOther (IsFalse values) clause lit → Each (IsFalse values) clause
all_false values clause lit fell others = λ other among. elim (lits_cases other lit) [
  | inl same ↦ subst (λ (l : Lit). IsFalse values l) (sym same) fell
  | inr differ ↦ others other among differ
]

-- after a conflict the cursor goes back to the place of the literal that fell, before which each pair is safe
pub stepped_back : (s : SolverForm) (watch : ℕ → Lit) (linked cursor back : ℕ) (skipped : ℕ → Type 0) (fallen : Lit) → IsSound s → back + 1 ≡ cursor → HasFallen s cursor fallen
    → ((z : ℕ) → skipped z → watch z ≡ fallen) → AreWatched s watch linked cursor skipped → AreWatched s watch linked back (λ z. ⊥)
stepped_back s watch linked cursor back skipped fallen sound one fell skips old = record {
  long = λ number z y held long partners.
      let was : Watches (assigned s) cursor skipped (clause_at s.clauses number) watch z y = old.long number z y held long partners in
      record {
        within = was.within;
        differs = was.differs;
        safe = inr (elim was.safe [
          | inl skip ↦ λ before.
              let is : assigned s fallen.variable ≡ Some before.0 = ap (λ (l : Lit). assigned s l.variable) (sym (skips z skip)) ∙ before.1 in
              absurd (omega (arith, (fell_once s cursor fallen before.0 fell is).1, before.3, one))
          | inr safe ↦ λ before. safe (before.0, before.1, before.2, omega (arith, before.3, one))
        ]);
      };
  fresh = λ v a is past. elim (cases_eq a.place back) [
    | inl here ↦
        let d : Lit = record { variable = 0; positive = false } in
        let mine : get_or s.trail a.place d ≡ true_lit v a = sound.ordered.on_trail v a d is in
        let its : get_or s.trail fell.value.place d ≡ true_lit fallen.variable fell.value = sound.ordered.on_trail fallen.variable fell.value d fell.is in
        let places : a.place ≡ fell.value.place = omega (arith, here, fell.there, one) in
        let same : v ≡ fallen.variable = ap (λ (l : Lit). l.variable) (sym mine ∙ ap (λ (p : ℕ). get_or s.trail p d) places ∙ its) in
        (fell_once s cursor fallen a fell (ap (assigned s) (sym same) ∙ is)).0
    | inr differ ↦ old.fresh v a is (omega (arith, past, differ, one))
  ];
  cursor_in = omega (arith, old.cursor_in, one);
  linked_in = old.linked_in;
}

-- a slot that is given back keeps its literal
pub given_back : (s : SolverForm) (w : WatchesForm) (fallen : Lit) (x : ℕ) (lists : ℕ → List ℕ) → fallen.variable < length s.values → IsSound s → IsLinked s.clauses (length s.values) w fallen lists
    → AreWatched s (watch_at w.slots) w.linked w.cursor (λ z. ⊥) → link_at w.heads 0 ≡ x + 1
    → IsReturning s (at_front (taken w x) x fallen) fallen × (work (at_front (taken w x) x fallen) < work w)
given_back s w fallen x lists named sound linked watched first =
    let at : IsFirst s w fallen lists x = first_slot s w fallen lists x linked first in
    let after : IsLinked s.clauses (length s.values) (at_front (taken w x) x fallen) fallen (relisted lists x at.rest fallen) = relinked s.clauses (length s.values) w fallen lists x at.rest fallen named at.is linked in
    let same : (z : ℕ) → watch_at (at_front (taken w x) x fallen).slots z ≡ watch_at w.slots z = λ z. elim (cases_eq z x) [
      | inl here ↦ ap (λ (n : ℕ). watch_at (at_front (taken w x) x fallen).slots n) here ∙ watch_here w x fallen (slot_within s w fallen lists x linked at.member) ∙ sym at.watch ∙ ap (λ (n : ℕ). watch_at w.slots n) (sym here)
      | inr differ ↦ watch_other w x fallen z differ
    ] in (
      record {
        sound = sound;
        lists = relisted lists x at.rest fallen;
        linked = after;
        watched = subst (λ (f : ℕ → Lit). AreWatched s f w.linked w.cursor (λ z. ⊥)) (λ i z. sym (same z) i) watched;
        named = named;
      },
      fewer_slots s w (at_front (taken w x) x fallen) fallen lists (relisted lists x at.rest fallen) x at.rest linked after at.is (work_left lists x at.rest fallen),
    )

-- a clause is false: the slot goes back, and the cursor
pub stops_at : (s : SolverForm) (w : WatchesForm) (fallen : Lit) (x number y : ℕ) (walking : IsWalking s w fallen) → link_at w.heads 0 ≡ x + 1 → ArePartners number x y → IsAttached s.clauses number
    → IsFalse (assigned s) (watch_at w.slots y) → EachOther (IsFalse (assigned s)) (clause_at s.clauses number) (watch_at w.slots y)
    → Stops s w (record (at_front (taken w x) x fallen) { cursor = w.cursor - 1 }) fallen number
stops_at s w fallen x number y walking first partners attached fell others =
    let back : (w.cursor - 1) + 1 ≡ w.cursor = omega (arith, walking.fell.there) in
    let low : WatchesForm = record w { cursor = w.cursor - 1 } in
    let linked : IsLinked s.clauses (length s.values) low fallen walking.lists = record {
      heads_size = walking.linked.heads_size;
      slots_size = walking.linked.slots_size;
      within = walking.linked.within;
      links = walking.linked.links;
      listed = walking.linked.listed;
      members = walking.linked.members;
    } in
    let watched : AreWatched s (watch_at w.slots) w.linked (w.cursor - 1) (λ z. ⊥) = stepped_back s (watch_at w.slots) w.linked w.cursor (w.cursor - 1) (λ z. Contains (walking.lists 0) z) fallen walking.sound back walking.fell
    (λ z among. elim (walking.linked.members 0 z among).1 [
      | inl work ↦ work.1
      | inr there ↦ absurd (code_not_work (watch_at w.slots z) there)
    ]) walking.watched in
    record {
      returning = (given_back s low fallen x walking.lists (fallen_named s w.cursor fallen walking.fell) walking.sound linked watched first).0;
      conflict = (attached, all_false (assigned s) (clause_at s.clauses number) (watch_at w.slots y) fell others);
      kept = record { shorts = refl; looked = refl };
    }

-- the work list begins within the slots
pub first_within : (s : SolverForm) (w : WatchesForm) (fallen : Lit) (lists : ℕ → List ℕ) → IsLinked s.clauses (length s.values) w fallen lists → link_at w.heads 0 ≤ length w.slots
first_within s w fallen lists linked = at (lists 0) refl
  where
    at : (xs : List ℕ) → lists 0 ≡ xs → link_at w.heads 0 ≤ length w.slots
    at [] is = let none : link_at w.heads 0 ≡ 0 = subst (λ (ys : List ℕ). IsChain (next_at w.slots) (link_at w.heads 0) ys) is (linked.links.chains 0) in omega (arith, none)
    at (x ∷ xs) is =
        let first : link_at w.heads 0 ≡ x + 1 = (subst (λ (ys : List ℕ). IsChain (next_at w.slots) (link_at w.heads 0) ys) is (linked.links.chains 0)).0 in
        let among : IsMember s.clauses w.linked x × IsOf 0 (watch_at w.slots x) fallen = linked.members 0 x (subst (λ (ys : List ℕ). Contains ys x) (sym is) (here _ _)) in
        omega (arith, first, slot_within s w fallen lists x linked among.0)

-- the bounds of the slot at hand
pub record IsWithin (s : SolverForm) (w : WatchesForm) (fallen : Lit) (number x y : ℕ) : Type 0 where
  pub slot : x < length w.slots
  pub other : y < length w.slots
  pub clause : number < length s.clauses
  pub few : length w.slots < 8589934592
  pub code : code fallen < length w.heads
  pub member : number < w.linked

pub bounds_at : (s : SolverForm) (w : WatchesForm) (fallen : Lit) (number x y : ℕ) (walking : IsWalking s w fallen) → link_at w.heads 0 ≡ x + 1 → ArePartners number x y → IsWithin s w fallen number x y
bounds_at s w fallen number x y walking first partners =
    let at : IsFirst s w fallen walking.lists x = first_slot s w fallen walking.lists x walking.linked first in
    let below : number < w.linked = subst (λ (m : ℕ). m < w.linked) (same_partner at.member.number number x at.member.other y at.member.partners partners).0 at.member.before in
    record {
      slot = slot_within s w fallen walking.lists x walking.linked at.member;
      other = omega (arith, walking.linked.slots_size, walking.linked.within, partner_within number y x w.linked (partner_back number x y partners) below);
      clause = omega (arith, below, walking.linked.within);
      few = omega (arith, walking.linked.slots_size, walking.sound.small.1);
      code = omega (arith, walking.linked.heads_size, code_below fallen (length s.values) (fallen_named s w.cursor fallen walking.fell));
      member = below;
    }
