-- What a file that was written, or was not, makes of what the files before it left.
use Rattle.std.proofs.Common.{◌+◌, ap, drop, rules}
use Rattle.std.proofs.lemmas.List.{drop_all}
use Rattle.std.proofs.lemmas.Result.{err_from_is_err_and}
use Rattle.gp_window.specs.FileNames.{path_of}
use Rattle.gp_files.specs.Writing.{files_at}
use Rattle.gp_files.proofs.Leading.{all_written, file_spared, file_written, one_left, order_spared, order_written, stop_spares}
use Rattle.gp_files.proofs.writing.write_files.Goals as goal

pub returns-in_err-write_file-clause-spared : goal.returns-in_err-write_file-clause-spared
returns-in_err-write_file-clause-spared g c = λ failed.
    let directory = c.args.directory.now in
    let files = c.args.files.now in
    let i = c.loop-file.file-index in
    let file = c.file-item.result in
    let by = err_from_is_err_and c.from_residual.result c.from_residual.ensures.1 in
    file_spared (files_at directory files) (files_at directory (drop i files)) (files_at directory (drop (i + 1) files))
    (record { name = path_of directory file.name; bytes = file.text })
    (g.F.Folder.files c.args.folder.now) (g.F.Folder.files c.loop-file.folder) (g.F.Folder.files c.write_file.new.folder)
    (one_left directory files i file c.loop-file-test.true c.file-item.is) c.loop-file.invariant.1
    (c.in_err-write_file.ensures.spared (cc))

pub loop-file-preserved : goal.loop-file-preserved
loop-file-preserved g c =
    let directory = c.args.directory.now in
    let files = c.args.files.now in
    let i = c.loop-file.file-index in
    let file = c.file-item.result in (
      search rules,
      file_written (files_at directory files) (files_at directory (drop i files)) (files_at directory (drop (i + 1) files))
          (record { name = path_of directory file.name; bytes = file.text })
          (g.F.Folder.files c.args.folder.now) (g.F.Folder.files c.loop-file.folder) (g.F.Folder.files c.write_file.new.folder)
          (one_left directory files i file c.loop-file-test.true c.file-item.is) c.loop-file.invariant.1
          c.in_ok-write_file.ensures.written,
    )

pub returns-clause-made : goal.returns-clause-made
returns-clause-made g c =
    let directory = c.args.directory.now in
    let files = c.args.files.now in
    let i = c.loop-file.file-index in
    all_written (files_at directory files) (files_at directory (drop i files))
    (g.F.Folder.files c.args.folder.now) (g.F.Folder.files c.loop-file.folder)
    (ap (files_at directory) (drop_all i files c.loop-file-test.false)) c.loop-file.invariant.1

pub returns-in_err-write_file-clause-order : goal.returns-in_err-write_file-clause-order
returns-in_err-write_file-clause-order g c =
    let directory = c.args.directory.now in
    let files = c.args.files.now in
    let i = c.loop-file.file-index in
    let file = c.file-item.result in
    let fault = c.in_err-write_file.field-0.0 in
    order_spared (files_at directory files) (files_at directory (drop i files)) (files_at directory (drop (i + 1) files))
    (record { name = path_of directory file.name; bytes = file.text })
    (g.F.Folder.files c.args.folder.now) (g.F.Folder.files c.loop-file.folder) (g.F.Folder.files c.write_file.new.folder)
    (one_left directory files i file c.loop-file-test.true c.file-item.is) c.loop-file.invariant.1
    (stop_spares fault (g.F.Folder.files c.loop-file.folder) (g.F.Folder.files c.write_file.new.folder) (path_of directory file.name)
    (λ is. c.in_err-write_file.ensures.spared (cc)) (λ is. c.in_err-write_file.ensures.unchanged (cc)))

pub returns-clause-order : goal.returns-clause-order
returns-clause-order g c =
    let directory = c.args.directory.now in
    let files = c.args.files.now in
    let i = c.loop-file.file-index in
    order_written (files_at directory files) (files_at directory (drop i files))
    (g.F.Folder.files c.args.folder.now) (g.F.Folder.files c.loop-file.folder)
    (ap (files_at directory) (drop_all i files c.loop-file-test.false)) c.loop-file.invariant.1
