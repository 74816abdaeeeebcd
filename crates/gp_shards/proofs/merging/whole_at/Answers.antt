-- What was read, merged and checked may be told, and a report that is given is the one of all parts.
use Rattle.std.proofs.Common.{List, Bor, ℕ, ap, sym, subst, ◌∙◌}
use Rattle.std.proofs.lemmas.Result.{err_from_is_err_and}
use Rattle.std.specs.Prelude.{Ok, Err}
use Rattle.gp_outside.specs.Folders.{File}
use Rattle.gp_window.specs.Gives.{Gives}
use Rattle.gp_words.specs.Sharding.{merge_form}
use Rattle.gp_words.specs.Value.{lent_texts}
use Rattle.gp_shards.specs.declared.merging.AllParts.{AllParts}
use Rattle.gp_shards.specs.Merging.{parts_in}
use Rattle.gp_shards.specs.Stage.{IsShardStage, refusal_of}
use Rattle.gp_shards.proofs.Came.{listing_stopped, parts_stopped, whole_came}
use Rattle.gp_shards.proofs.Merged.{of_all_parts}
use Rattle.gp_shards.proofs.merging.whole_at.Goals as goal

pub returns-in_err-listing-clause-stage : goal.returns-in_err-listing-clause-stage
returns-in_err-listing-clause-stage g c =
    let failed = err_from_is_err_and c.from_residual.result c.from_residual.ensures.1 in
    rw (failed.1, failed.2)
    (listing_stopped (merge_form c.args.merge.now) (g.F.Folder.files c.args.folder.now) (g.F.Folder.faults c.args.folder.now) c.in_err-listing.field-0.0
    (g.F.Folder.files c.listing_in.new.folder) (g.F.Folder.faults c.listing_in.new.folder) c.in_err-listing.ensures.stage)

pub returns-in-Err-clause-stage : goal.returns-in-Err-clause-stage
returns-in-Err-clause-stage g c =
    let listing = c.in_ok-listing.listing in
    parts_stopped (merge_form c.args.merge.now) (g.F.Folder.files c.args.folder.now) (g.F.Folder.faults c.args.folder.now) listing
    (g.F.Folder.files c.listing_in.new.folder) (g.F.Folder.faults c.listing_in.new.folder) c.in_ok-listing.ensures.stage
    c.in-Err.stop (g.F.Folder.files c.parts_in.new.folder) (g.F.Folder.faults c.parts_in.new.folder)
    (subst (λ (outs : List (Bor (List ℕ))).
    IsShardStage {A = AllParts} (Err c.in-Err.stop) (λ (files : List File). Gives refusal_of (Err c.in-Err.stop) (parts_in files listing.recording (lent_texts outs)))
    (g.F.Folder.files c.listing_in.new.folder) (g.F.Folder.files c.parts_in.new.folder) (g.F.Folder.faults c.listing_in.new.folder) (g.F.Folder.faults c.parts_in.new.folder))
    c.as_slice.ensures c.in-Err.ensures.stage)

pub returns-in-Ok-clause-stage : goal.returns-in-Ok-clause-stage
returns-in-Ok-clause-stage g c =
    let listing = c.in_ok-listing.listing in
    whole_came (merge_form c.args.merge.now) (g.F.Folder.files c.args.folder.now) (g.F.Folder.faults c.args.folder.now) listing
    (g.F.Folder.files c.listing_in.new.folder) (g.F.Folder.faults c.listing_in.new.folder) c.in_ok-listing.ensures.stage
    c.in-Ok.all c.checked_whole-whole.result (g.F.Folder.files c.parts_in.new.folder) (g.F.Folder.faults c.parts_in.new.folder)
    (subst (λ (outs : List (Bor (List ℕ))).
    IsShardStage (Ok c.in-Ok.all) (λ (files : List File). Gives refusal_of (Ok c.in-Ok.all) (parts_in files listing.recording (lent_texts outs)))
    (g.F.Folder.files c.listing_in.new.folder) (g.F.Folder.files c.parts_in.new.folder) (g.F.Folder.faults c.listing_in.new.folder) (g.F.Folder.faults c.parts_in.new.folder))
    c.as_slice.ensures c.in-Ok.ensures.stage)
    c.checked_whole-whole.ensures

pub returns-in-Ok-clause-whole : goal.returns-in-Ok-clause-whole
returns-in-Ok-clause-whole g c =
    let listing = c.in_ok-listing.listing in
    of_all_parts c.accepted_is_true.ensures (merge_form c.args.merge.now) listing c.in-Ok.all c.keeps_rules.ensures c.in_ok-listing.ensures.valid c.in-Ok.ensures.parts
    (g.F.Folder.files c.args.folder.now) c.checked_whole-whole.result c.in_ok-listing.ensures.stage.told
    (λ told is.
    ap (λ (outs : List (Bor (List ℕ))). parts_in told listing.recording (lent_texts outs)) (sym c.as_slice.ensures)
    ∙ c.in-Ok.ensures.stage.told told (c.in_ok-listing.ensures.stage.kept ∙ is))
    c.checked_whole-whole.ensures.came
