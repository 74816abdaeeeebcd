-- How many properties a text has, and how many instances are listed of one.
use Rattle.std.proofs.Common.{◌≡◌, ◌≢◌, refl, sym, ℕ, ◌≤◌, Bool, true, false, nat_lt, List, length, Result, Ok, Err, if◌then◌else◌, arith}
use Rattle.std.specs.Prelude.{map}
use Rattle.std.proofs.lemmas.List.{length-map}
use Rattle.std.proofs.lemmas.Bool.Decides.{nat_tests}
use Rattle.gp_text.specs.declared.line.Line.{Line}
use Rattle.gp_text.specs.declared.lines.TextFault.{TextFault}
use Rattle.gp_text.specs.Lines.{end_line_of, lines_of}
use Rattle.gp_property.specs.declared.fault.PropertyFault.{PropertyFault}
use Rattle.gp_property.specs.declared.fault.PropertyFault.TheVariants.{Memory}
use Rattle.gp_property.specs.PropertyForm.{PropertyForm}
use Rattle.gp_window.specs.declared.schedule.EventId.{EventId}
use Rattle.gp_window.specs.WindowForm.{WindowForm}
use Rattle.gp_instance.specs.declared.instance.Instance.{Instance}
use Rattle.gp_instance.specs.declared.instance.InstancesFault.{InstancesFault}
use Rattle.gp_instance.specs.declared.instance.InstancesFault.TheVariants.{TooMany, Memory as NoMemory}
use Rattle.gp_instance.specs.Instances.{due_instances, instances_of, numbered}
use Rattle.gp_property.specs.Grammar.{ReadsExactly}
use Rattle.gp_property.specs.Reading.{properties_in, properties_of}

few_in : ReadsExactly → (last : ℕ) (lines : Result (List Line) TextFault) (properties : List PropertyForm)
    → properties_in last lines ≡ Ok properties → length properties ≤ 64
few_in exactly last (Ok lines) properties read = ((exactly last lines properties).0 read).most
few_in exactly last (Err fault) properties read = absurd (cc)

-- a text that was read has at most 64 properties
pub few : ReadsExactly → (bytes : List ℕ) (properties : List PropertyForm)
    → (◌≢◌ {A = Result (List PropertyForm) PropertyFault} (Ok properties) (Err Memory) → Ok properties ≡ properties_of bytes)
    → length properties ≤ 64
few exactly bytes properties exact = few_in exactly (end_line_of bytes) (lines_of bytes) properties (sym (exact (λ is. cc)))

most_where : (number : ℕ) (all : List (List EventId)) (found : List Instance) (many : Bool) → nat_lt 10000 (length all) ≡ many
    → (if many then Err TooMany else Ok (map (numbered number) all)) ≡ Ok found → length found ≤ 10000
most_where number all found true test is = absurd (cc)
most_where number all found false test is =
    let same : map (numbered number) all ≡ found = cc in
    rw (← same) (simp length-map (grind (arith, nat_tests)))

-- at most 10,000 instances of a property are listed
pub most : (window : WindowForm) (property : PropertyForm) (number : ℕ) (found : List Instance)
    → (◌≢◌ {A = Result (List Instance) InstancesFault} (Ok found) (Err NoMemory) → Ok found ≡ due_instances window property number)
    → length found ≤ 10000
unfolding due_instances
most window property number found exact =
    most_where number (instances_of window property) found (nat_lt 10000 (length (instances_of window property))) refl (sym (exact (λ is. cc)))
