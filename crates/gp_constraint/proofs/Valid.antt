-- The problem of a window is valid, and its edges can be kept.
use Rattle.std.proofs.Common.{ℕ, zero, suc, ◌≡◌, ◌<◌, ◌≤◌, ◌+◌, ◌*◌, sym, refl, subst, inl, inr, List, [], ◌∷◌, ◌++◌, Bool, true, false, arith, length, length-append}
use Rattle.std.specs.Prelude.{ℤ, pos, negsuc, ◌-ℤ◌, ◌≤ℤ◌, ◌<ℤ◌, ◌==◌, ◌-◌, All, map, flat_map, if◌then◌else◌}
use Rattle.std.specs.List.{AllByRecursion, list_any}
use Rattle.std.proofs.lemmas.Int.{ints}
use Rattle.std.proofs.lemmas.List.{length-map}
use Rattle.std.proofs.lemmas.List.Elements.{All-from_recursion}
use Rattle.gp_clause.specs.declared.edge.Edge.{Edge}
use Rattle.gp_clause.specs.declared.lit.Lit.{Lit}
use Rattle.gp_clause.specs.Clause.{NamesBelow}
use Rattle.gp_clause.specs.Edge.{Keeps, IsSolvable}
use Rattle.gp_clause.specs.Problem.{IsValidEdge, IsValidKind, IsValidProblem}
use Rattle.gp_window.specs.WindowForm.{WindowForm}
use Rattle.gp_constraint.specs.declared.point.Point.{Point}
use Rattle.gp_constraint.specs.declared.symbol.Symbol.{Symbol}
use Rattle.gp_constraint.specs.declared.symbol.Symbol.TheVariants.{Executed}
use Rattle.gp_constraint.specs.declared.symbol.SymbolicLit.{SymbolicLit}
use Rattle.gp_base.specs.ListLaws.{nothing_in, recursion_append, recursion_at, recursion_flat_map, recursion_from_each, recursion_map}
use Rattle.gp_constraint.specs.Base.{base_of, clauses_of, names_in}
use Rattle.gp_constraint.specs.Numbering.{lits_onto, names_after, names_of, numbered, point_names, with_mention, with_mentions}
use Rattle.gp_constraint.specs.PointLaws.{next_number, point_within, points_named}
use Rattle.gp_constraint.specs.Points.{number_at, points_of, sizes_of}
use Rattle.gp_constraint.specs.ProgramOrder.{edge_to}
use Rattle.gp_constraint.specs.Symbols.{kind_of, symbol_eq}
use Rattle.gp_constraint.proofs.Good.{AreGood, AreValidLits, good_families, IsValidSymbol, valid_kind}
use Rattle.gp_constraint.proofs.Names.{Grows, grows_none, grows_on, number_within, of_grows, onto_stems, size_names}
use Rattle.gp_constraint.specs.EncodedLaws.{numbered_size}

abbrev pub AreValidNames : ℕ → List Symbol → Type 0
AreValidNames n names = AllByRecursion (IsValidSymbol n) names

valid_if : (n : ℕ) (b : Bool) (names more : List Symbol) → AreValidNames n names → AreValidNames n more → AreValidNames n (if b then names else more)
valid_if n true names more h k = h
valid_if n false names more h k = k

pub valid_mention : (n : ℕ) (names : List Symbol) (s : Symbol) → AreValidNames n names → IsValidSymbol n s → AreValidNames n (with_mention names s)
valid_mention n names s h k =
    valid_if n (list_any (symbol_eq s) names) names (names ++ s ∷ []) h (recursion_append (IsValidSymbol n) names (s ∷ []) h (k, tt))

few_if : (b : Bool) (names : List Symbol) (s : Symbol) → length (if b then names else names ++ s ∷ []) ≤ length names + 1
few_if true names s = omega arith
few_if false names s = let joined = length-append names (s ∷ []) in omega (arith, joined)

pub few_mention : (names : List Symbol) (s : Symbol) → length (with_mention names s) ≤ length names + 1
few_mention names s = few_if (list_any (symbol_eq s) names) names s

pub few_after : (names : List Symbol) (lits : List SymbolicLit) → length (names_after names lits) ≤ length names + length lits
few_after names [] = omega arith
few_after names (lit ∷ lits) =
    let one = few_mention names lit.symbol in
    let rest = few_after (with_mention names lit.symbol) lits in
    omega (arith, one, rest)

valid_after : (n : ℕ) (names : List Symbol) (lits : List SymbolicLit) → AreValidNames n names → AreValidLits n lits → AreValidNames n (names_after names lits)
valid_after n names [] h k = h
valid_after n names (lit ∷ lits) h k = valid_after n (with_mention names lit.symbol) lits (valid_mention n names lit.symbol h k.0) k.1

few_of : (n : ℕ) (names : List Symbol) (clauses : List (List SymbolicLit)) → AreGood n clauses → length (names_of names clauses) ≤ length names + 2052 * length clauses
few_of n names [] good = omega arith
few_of n names (clause ∷ clauses) good =
    let one = few_after names clause in
    let short = good.0.0 in
    let rest = few_of n (names_after names clause) clauses good.1 in
    omega (arith, one, short, rest)

valid_of : (n : ℕ) (names : List Symbol) (clauses : List (List SymbolicLit)) → AreValidNames n names → AreGood n clauses → AreValidNames n (names_of names clauses)
valid_of n names [] h good = h
valid_of n names (clause ∷ clauses) h good = valid_of n (names_after names clause) clauses (valid_after n names clause h good.0.1) good.1

pub few_mentions : (names symbols : List Symbol) → length (with_mentions names symbols) ≤ length names + length symbols
few_mentions names [] = omega arith
few_mentions names (s ∷ symbols) =
    let one = few_mention names s in
    let rest = few_mentions (with_mention names s) symbols in
    omega (arith, one, rest)

pub valid_mentions : (n : ℕ) (names symbols : List Symbol) → AreValidNames n names → AreValidNames n symbols → AreValidNames n (with_mentions names symbols)
valid_mentions n names [] h k = h
valid_mentions n names (s ∷ symbols) h k = valid_mentions n (with_mention names s) symbols (valid_mention n names s h k.0) k.1

valid_points : (n m : ℕ) → AreValidNames n (point_names m)
valid_points n zero = tt
valid_points n (suc m) = recursion_append (IsValidSymbol n) (point_names m) (Executed m ∷ []) (valid_points n m) (tt, tt)

-- numbered clauses name variables below the number of names
lits_below : (final : List Symbol) (names : List Symbol) (lits : List SymbolicLit) → Grows (names_after names lits) final
    → NamesBelow (length final) (lits_onto [] names lits)
lits_below final names lits g =
    All-from_recursion (λ (l : Lit). l.variable < length final) (lits_onto [] names lits)
    (recursion_from_each (λ (l : Lit). l.variable < length final) (lits_onto [] names lits) (λ l i.
    elim (onto_stems final l [] names lits g i) [
      | inl none ↦ absurd (nothing_in _ none)
      | inr s ↦ subst (λ (m : Lit). m.variable < length final) s.is (number_within s.lit.symbol final s.named)
    ]))

pub clauses_below : (final : List Symbol) (names : List Symbol) (clauses : List (List SymbolicLit)) → Grows (names_of names clauses) final
    → AllByRecursion (NamesBelow (length final)) (numbered names clauses)
clauses_below final names [] g = tt
clauses_below final names (clause ∷ clauses) g =
    let next : List Symbol = names_after names clause in
    (lits_below final names clause (grows_on next (names_of next clauses) final (of_grows next clauses) g), clauses_below final next clauses g)

pub names_valid : (window : WindowForm) → length (points_of window) ≤ 2048 → AreValidNames (length (points_of window)) (names_in window)
names_valid window few =
    let n : ℕ = length (points_of window) in
    valid_of n (point_names n) (clauses_of window) (valid_points n n) (good_families window few)

pub few_names : (window : WindowForm) → length (points_of window) ≤ 2048 → length (names_in window) ≤ 2048 + 2052 * length (clauses_of window)
few_names window few =
    let n : ℕ = length (points_of window) in
    let all = few_of n (point_names n) (clauses_of window) (good_families window few) in
    let size = size_names n in
    omega (arith, few, all, size)

one_unless : (P : Edge → Type 0) (b : Bool) (edge : Edge) → (b ≡ false → P edge) → AllByRecursion P (if b then [] else edge ∷ [])
one_unless P true edge h = tt
one_unless P false edge h = (h refl, tt)

pub positive_number : (window : WindowForm) (thread index : ℕ) → (index == 0) ≡ false → 1 ≤ number_at (sizes_of window) thread index
positive_number window thread zero e = cc
positive_number window thread (suc index) e = let next = next_number (sizes_of window) thread index in omega (arith, next)

edge_valid : (n number : ℕ) → number < n → IsValidEdge n (record { a = number - 1; b = number; c = negsuc 0 })
edge_valid n number below = record { a = omega (arith, below); b = below; low = omega (arith, ints); high = omega (arith, ints) }

pub base_valid : (window : WindowForm) → length (points_of window) ≤ 2048 → length (clauses_of window) ≤ 500000 → IsValidProblem (base_of window)
base_valid window few limit =
    let points : List Point = points_of window in
    let n : ℕ = length points in
    let names : List Symbol = names_in window in
    let start : List Symbol = point_names n in
    let named = few_names window few in
    let kinds = length-map names kind_of in
    let clauses = numbered_size start (clauses_of window) in
    record {
      few_points = omega (arith, few);
      few_kinds = omega (arith, named, limit, kinds);
      few_clauses = omega (arith, clauses, limit);
      kinds = All-from_recursion (IsValidKind n) (map kind_of names) (recursion_map (IsValidKind n) kind_of names (λ s i. valid_kind n s (recursion_at (IsValidSymbol n) names s (names_valid window few) i)));
      edges = All-from_recursion (IsValidEdge n) (flat_map edge_to points) (recursion_flat_map (IsValidEdge n) edge_to points (λ f i.
          one_unless (IsValidEdge n) (f.id.index == 0) (record { a = f.number - 1; b = f.number; c = negsuc 0 })
          (λ later. edge_valid n f.number (point_within window f i))));
      clauses = subst (λ (k : ℕ). All (NamesBelow k) (numbered start (clauses_of window))) (sym kinds)
          (All-from_recursion (NamesBelow (length names)) (numbered start (clauses_of window)) (clauses_below names start (clauses_of window) (grows_none names)));
    }

less_from : (x y : ℤ) → x <ℤ y → (x -ℤ y) ≤ℤ negsuc 0
less_from x y h = omega (arith, ints, h)

pos_less : (j k : ℕ) → j < k → pos j <ℤ pos k
pos_less j k h = omega (arith, ints, h)

less_by_one : (k : ℕ) → 1 ≤ k → (pos (k - 1) -ℤ pos k) ≤ℤ negsuc 0
less_by_one k h = less_from (pos (k - 1)) (pos k) (pos_less (k - 1) k (omega (arith, h)))

-- an edge leads to a greater number
pub edges_solvable : (window : WindowForm) → IsSolvable (base_of window).edges
edges_solvable window =
    let points : List Point = points_of window in
    let place : ℕ → ℤ = λ k. pos k in (
      place,
      All-from_recursion (Keeps place) (flat_map edge_to points) (recursion_flat_map (Keeps place) edge_to points (λ f i.
          one_unless (Keeps place) (f.id.index == 0) (record { a = f.number - 1; b = f.number; c = negsuc 0 }) (λ later.
          let own = ((points_named window).own f i).3 in
          let positive = positive_number window f.id.thread f.id.index later in
          let above : 1 ≤ f.number = omega (arith, own, positive) in
          less_by_one f.number above))),
    )
