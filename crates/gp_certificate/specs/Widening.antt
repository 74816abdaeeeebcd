-- Room for more variables.
use Rattle.std.specs.Prelude.{ℕ, ◌≡◌, ◌*◌, ◌<◌, ◌≤◌, vec_capacity}
use Rattle.std.specs.Global.{Global}
use Rattle.std.specs.declared.vec.Vec.{Vec}
use Rattle.gp_certificate.specs.declared.assignment.Assignment.{Assignment}
use Rattle.gp_certificate.specs.declared.level.Level.{Level}
use Rattle.gp_certificate.specs.declared.places.Places.{Places}
use Rattle.gp_certificate.specs.Assignment.{IsKept}
use Rattle.gp_certificate.specs.ClauseList.{ListForm}
use Rattle.gp_certificate.specs.Loaded.{LoadedForm}

-- an assignment keeps its values, and may have more room
pub record KeepsValues (old new : Assignment) : Type 0 where
  pub kept : IsKept new
  pub values : new.values.items ≡ old.values.items
  pub trail : new.trail.items ≡ old.trail.items
  pub cursor : new.cursor ≡ old.cursor

-- places keep their bounds, and may have more room
pub record KeepsPlaces (old new : Places) : Type 0 where
  pub same : new ≡ record old { graph = new.graph }
  pub graph : new.graph ≡ record old.graph { room = new.graph.room }
  pub more : old.graph.room ≤ new.graph.room

-- so do loaded clauses, and lists
pub record KeepsLoaded (old new : LoadedForm) : Type 0 where
  pub same : new ≡ record old { rows = new.rows }
  pub more : old.rows ≤ new.rows

pub record KeepsLists (old new : ListForm) : Type 0 where
  pub lists : new.lists ≡ old.lists
  pub room : old.room ≤ new.room
  pub places : old.places ≤ new.places

-- and so do levels
pub record KeepsLevels (old new : Vec Level Global) : Type 0 where
  pub items : new.items ≡ old.items
  pub more : vec_capacity old ≤ vec_capacity new

-- there is room for so many variables, and for a level each and one more
pub record HasRoom (count : ℕ) (assignment : Assignment) (places : Places) (loaded : LoadedForm) (assumed : ListForm) (levels : Vec Level Global) : Type 0 where
  pub values : count ≤ vec_capacity assignment.values
  pub trail : count ≤ vec_capacity assignment.trail
  pub bounds : count ≤ places.graph.room
  pub rows : 2 * count ≤ loaded.rows
  pub lits : count ≤ assumed.room
  pub lists : count < assumed.places
  pub deep : count < vec_capacity levels
