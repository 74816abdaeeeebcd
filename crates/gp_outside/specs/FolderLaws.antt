-- What several writes to one folder leave.
use Rattle.gp_outside.specs.Folders.{File, IsWritten, SameBut, file_named}
use Rattle.std.proofs.Common.{◌∙◌}
use Rattle.std.specs.Prelude.{◌≡◌, List, false, refl, ℕ}
use Rattle.std.specs.Str.{bytes_eq}

-- files are the same as themselves but for any name
pub same_but_itself : (name : List ℕ) (files : List File) → SameBut name files files
same_but_itself name files other differs = refl

-- what is the same but for one name, and then again, is the same but for that name
pub same_but_again : (name : List ℕ) (old between new : List File)
    → SameBut name old between → SameBut name between new → SameBut name old new
same_but_again name old between new first second other differs = second other differs ∙ first other differs

-- a file keeps what it holds where one of another name is written
pub other_is_kept : (name bytes other : List ℕ) (old new : List File)
    → IsWritten name bytes old new → bytes_eq other name ≡ false → file_named new other ≡ file_named old other
other_is_kept name bytes other old new written differs = written.others other differs
