-- What is told of a recording and its properties, written beside them into the folder's file for reports.
use Rattle.std.specs.Prelude.{ℕ, ◌≡◌, ◌≤◌, List, Ok, length}
use Rattle.gp_outside.specs.Folders.{File, IsWritten}
use Rattle.gp_window.specs.declared.file_name.FileName.TheVariants.{Report}
use Rattle.gp_window.specs.FileNames.{path_of}
use Rattle.gp_report.specs.ReportForm.{ReportForm}
use Rattle.gp_report.specs.Telling.{IsWhole}
use Rattle.gp_predict.specs.declared.listing.Listing.{Listing}
use Rattle.gp_predict.specs.Listing.{listing_at}
use Rattle.gp_predict.specs.Telling.{report_text}
use Rattle.gp_agreement.specs.Submitted.{HoldsReport}

-- a folder whose report is written keeps its recording and its properties, whatever bytes are written; and where they are the text
-- of a report that is not too long, it holds this report beside them
pub record WrittenIsHeld : Type 0 where
  pub keeps : (files more : List File) (folder bytes : List ℕ) → IsWritten (path_of folder Report) bytes files more → listing_at more folder ≡ listing_at files folder
  pub holds : (files more : List File) (folder : List ℕ) (listing : Listing) (report : ReportForm) → listing_at files folder ≡ Ok listing → IsWhole report
      → length (report_text report) ≤ 67108864 → IsWritten (path_of folder Report) (report_text report) files more → HoldsReport more folder listing report
