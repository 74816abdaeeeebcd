-- How the lists of slots stand to the literals that they watch.
use Rattle.std.specs.Prelude.{◌≡◌, ℕ, ◌+◌, ◌*◌, ◌<◌, ◌≤◌, ◌⊎◌, List, [], length, slice_set, replicate, Contains}
use Rattle.gp_clause.specs.declared.lit.Lit.{Lit}
use Rattle.gp_sat.specs.Stored.{Stored}
use Rattle.gp_sat.specs.Links.{AreLinked}
use Rattle.gp_sat.specs.WatchesForm.{WatchesForm}
use Rattle.gp_sat.specs.Watching.{ArePartners, IsHeld, IsLong, code, link_at, next_at, watch_at}

-- a slot is one of a long clause that was linked
pub record IsMember (clauses : List Stored) (linked x : ℕ) : Type 0 where
  pub number : ℕ
  pub other : ℕ
  pub partners : ArePartners number x other
  pub before : number < linked
  pub long : IsLong clauses number

-- a list is that of a literal, or it is the work list and the literal is the one that fell
abbrev pub IsOf : ℕ → Lit → Lit → Type 0
IsOf l lit fallen = ((l ≡ 0) × (lit ≡ fallen)) ⊎ (code lit ≡ l)

-- no clause is watched
pub record IsBlank (variables : ℕ) (w : WatchesForm) : Type 0 where
  pub heads : w.heads ≡ replicate (2 * variables + 2) 0
  pub slots : w.slots ≡ []
  pub linked : w.linked ≡ 0
  pub cursor : w.cursor ≡ 0
  pub shorts : w.shorts ≡ []
  pub looked : w.looked ≡ 0

-- each slot of a clause that is held stands in the list of its literal or in the work list
pub record IsLinked (clauses : List Stored) (variables : ℕ) (w : WatchesForm) (fallen : Lit) (lists : ℕ → List ℕ) : Type 0 where
  pub heads_size : length w.heads ≡ 2 * variables + 2
  pub slots_size : length w.slots ≡ 2 * length clauses
  pub within : w.linked ≤ length clauses
  pub links : AreLinked (link_at w.heads) (next_at w.slots) lists
  pub listed : (number x y : ℕ) → IsHeld clauses w.linked number → IsLong clauses number → ArePartners number x y → Contains (lists 0) x ⊎ Contains (lists (code (watch_at w.slots x))) x
  pub members : (l x : ℕ) → Contains (lists l) x → IsMember clauses w.linked x × IsOf l (watch_at w.slots x) fallen

-- a slot is linked to the front of the list of a literal
abbrev pub at_front : WatchesForm → ℕ → Lit → WatchesForm
at_front w x lit = record w { heads = slice_set w.heads (code lit) (x + 1); slots = slice_set w.slots x (record { lit = lit; next = link_at w.heads (code lit) }) }

-- the next clause is passed by, or its slots are linked to two literals
abbrev pub passed : WatchesForm → WatchesForm
passed w = record w { linked = w.linked + 1 }

abbrev pub adopted : WatchesForm → Lit → Lit → WatchesForm
adopted w one two = passed (at_front (at_front w (2 * w.linked) one) (2 * w.linked + 1) two)
