-- What contracts see of a property.
use Rattle.std.specs.Prelude.{ℕ, List}
use Rattle.gp_property.specs.declared.property.EventDef.{EventDef}
use Rattle.gp_property.specs.declared.property.PatternStep.{PatternStep}

-- a property: its name, the events that it defines, and the steps of its pattern
pub record PropertyForm : Type 0 where
  pub name : List ℕ
  pub events : List EventDef
  pub pattern : List PatternStep
