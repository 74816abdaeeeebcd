-- The reports of all parts can be merged, in the format and with the budget of the first.
use Rattle.std.proofs.Common.{◌≡◌, List, ap, get_or, sym, subst, ◌∙◌}
use Rattle.gp_merge.specs.declared.merging.PartReport.{PartReport}
use Rattle.gp_shards.proofs.Merged.{can_merge}
use Rattle.gp_shards.proofs.merging.merged_whole.Goals as goal

pub merge_checked-requires-clause-parts : goal.merge_checked-requires-clause-parts
merge_checked-requires-clause-parts c =
    let first = c.index-as_slice-0.result in
    can_merge c.args.listing.now.recording (record { folders = c.args.folders.now; parts = c.args.parts }) first c.format-format.result c.budget-budget.result c.requires.parts
    c.keeps_rules.ensures.manifest.epochs.1
    (subst (λ (parts : List PartReport). first ≡ get_or parts 0 first) c.as_slice.ensures c.index-as_slice-0.is)
    (c.format-format.ensures.value ∙ ap (λ (part : PartReport). part.report.format) (sym c.index-as_slice-0.is))
    (c.budget-budget.ensures.value ∙ ap (λ (part : PartReport). part.report.budget) (sym c.index-as_slice-0.is))
