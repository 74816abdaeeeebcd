-- The files that are made have different names.
use Rattle.std.proofs.Common.{◌≡◌, ◌∙◌, ◌<◌, ◌^◌, List, length, subst, sym}
use Rattle.gp_files.specs.MadeFileForm.{MadeFileForm}
use Rattle.gp_files.specs.Writing.{AreApart, files_at}
use Rattle.gp_make.specs.Files.{made_files}
use Rattle.gp_make.proofs.Apart.{made_differ, made_numbered}
use Rattle.gp_make.proofs.writing.write_recording.Goals as goal

pub write_files-requires : goal.write_files-requires
write_files-requires g c =
    let recipe = c.args.recipe.now in
    let made : c.in_ok-files.files ≡ made_files recipe = c.in_ok-files.ensures in
    let are : c.as_slice.result.now ≡ made_files recipe = c.as_slice.ensures ∙ made in
    let few : length (made_files recipe) < 2 ^ 64 = subst (λ (files : List MadeFileForm). length files < 2 ^ 64) are c.as_slice.type_inv.0 in
    subst (λ (files : List MadeFileForm). AreApart (files_at c.args.directory.now files)) (sym are)
    (c.names_tell_apart.ensures.files c.args.directory.now (made_files recipe) (made_numbered recipe few) (made_differ recipe))
