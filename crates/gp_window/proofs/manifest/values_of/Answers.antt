-- The places of the values are the keys of the entries, which lie in the windows.
use Rattle.std.proofs.Common.{◌≡◌, [], sym}
use Rattle.std.specs.Prelude.{Ok}
use Rattle.std.proofs.lemmas.List.Elements.{All-nil}
use Rattle.gp_window.specs.Manifest.{values_from}
use Rattle.gp_window.specs.ManifestForm.{IsInside}
use Rattle.gp_window.proofs.Places.{places_kept, values_inside}
use Rattle.gp_window.proofs.manifest.values_of.Goals as goal

pub returns-clause-inside : goal.returns-clause-inside
returns-clause-inside c =
    let due : values_from c.args.epochs [] c.args.lines.now ≡ Ok c.in_ok-values.values = sym (c.in_ok-values.ensures (λ memory. (cc))) in
    rw (c.in_ok-start_values.ensures, c.as_slice.ensures, c.in_ok-entries.ensures.entries, places_kept c.in_ok-values.values)
    (values_inside c.args.epochs [] c.args.lines.now c.in_ok-values.values (All-nil (IsInside c.args.epochs)) due)
