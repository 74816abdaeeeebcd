-- The record marks what was pushed, which the passes know.
use Rattle.std.proofs.Common.{◌∙◌, refl}
use Rattle.gp_workers.proofs.DeskBack.{handed_back}
use Rattle.gp_workers.proofs.desk.Desk.hand_back.Goals as goal

pub returns-clause-shared : goal.returns-clause-shared
returns-clause-shared c =
    handed_back c.args.self c.args.worked.record _ c.args.self.passes.items c.requires.desk c.requires.shares refl (c.from_vec-offered.ensures ∙ c.in_ok-offers_of.ensures) refl
