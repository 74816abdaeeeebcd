-- The properties that were read are of the language.
use Rattle.std.proofs.Common.{◌≡◌, ◌≢◌, sym, ℕ, List}
use Rattle.std.specs.Prelude.{Result, Ok, Err, IfOk}
use Rattle.std.specs.List.{AllByRecursion}
use Rattle.gp_text.specs.declared.line.Line.{Line}
use Rattle.gp_property.specs.declared.fault.PropertyFault.{PropertyFault}
use Rattle.gp_property.specs.declared.fault.PropertyFault.TheVariants.{Memory}
use Rattle.gp_property.specs.PropertyForm.{PropertyForm}
use Rattle.gp_property.specs.Grammar.{ReadsExactly}
use Rattle.gp_property.specs.Property.{IsProperty}
use Rattle.gp_property.specs.Reading.{properties_from}

pub valid_read : ReadsExactly → (last : ℕ) (lines : List Line) (read : Result (List PropertyForm) PropertyFault)
    → (read ≢ Err Memory → read ≡ properties_from last lines) → IfOk read (λ properties. AllByRecursion IsProperty properties)
valid_read exactly last lines (Err fault) is = tt
valid_read exactly last lines (Ok properties) is = ((exactly last lines properties).0 (sym (is (λ memory. (cc))))).each
