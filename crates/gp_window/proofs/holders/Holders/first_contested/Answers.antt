-- Without suspects no lock is contested.
use Rattle.std.proofs.Common.{◌≡◌, [], ◌∙◌, ap, sym}
use Rattle.std.proofs.lemmas.Bool.Decides.{Decides-eqb}
use Rattle.std.proofs.lemmas.List.{nil_from_length}
use Rattle.gp_window.specs.Contested.{first_contested}
use Rattle.gp_window.proofs.Suspects.{no_suspects}
use Rattle.gp_window.proofs.holders.Holders.first_contested.Goals as goal

pub returns-then-is_empty : goal.returns-then-is_empty
returns-then-is_empty c =
    let none : c.self.inside.suspects ≡ [] = nil_from_length _ ((Decides-eqb _ 0).0 (sym c.if-is_empty.ensures)) in
    no_suspects c.self.inside.held c.self.inside.users c.self.inside.suspects c.self.invariant.0 c.self.invariant.1 none
    ∙ ap first_contested c.self.view_is
