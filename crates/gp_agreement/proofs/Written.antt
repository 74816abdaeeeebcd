-- A folder whose report is written keeps its recording and its properties.
use Rattle.std.proofs.Common.{◌≡◌, refl, sym, ap, ◌∙◌, ℕ, suc, zero, ◌+◌, ◌++◌, Bool, true, false, List, Ok, codes, get_or, arith}
use Rattle.std.specs.Str.{bytes_eq}
use Rattle.std.proofs.lemmas.List.{append_cancel_left}
use Rattle.std.proofs.lemmas.Slice.Eq.{bytes_eq-Decides}
use Rattle.gp_base.specs.Results.{and_then, or_refused, then_rest}
use Rattle.gp_outside.specs.Folders.{File, IsWritten}
use Rattle.gp_property.specs.Reading.{properties_of}
use Rattle.gp_window.specs.declared.file_name.FileName.{FileName}
use Rattle.gp_window.specs.declared.file_name.FileName.TheVariants.{Manifest, Properties, Report, Trace}
use Rattle.gp_window.specs.Contents.{content_of, content_where, contents_from}
use Rattle.gp_window.specs.FileNames.{name_of, path_of}
use Rattle.gp_window.specs.Manifest.{manifest_of_text}
use Rattle.gp_window.specs.Recording.{from_content, manifest_at, manifest_or_fault, recording_of, recording_with}
use Rattle.gp_predict.specs.Listing.{listing_at, properties_at}
use Rattle.gp_predict.specs.Refusal.{content_refusal, properties_refusal, recording_refusal}
use Rattle.gp_agreement.specs.Written.{WrittenIsHeld}

-- no other file that is read has the name of the report
apart : (one other : List ℕ) → (one ≡ other → ⊥) → bytes_eq one other ≡ false
apart one other differ = at (bytes_eq one other) refl
  where
    at : (same : Bool) → bytes_eq one other ≡ same → bytes_eq one other ≡ false
    at true is = absurd (differ ((bytes_eq-Decides one other).0 is))
    at false is = is

-- a name that begins with another letter
named_apart : (folder : List ℕ) (file : FileName) (letter : ℕ) → get_or (name_of file) 0 0 ≡ letter → (letter ≡ 114 → ⊥)
    → bytes_eq (path_of folder file) (path_of folder Report) ≡ false
named_apart folder file letter begins differ =
    apart (path_of folder file) (path_of folder Report)
    (λ same. differ (sym begins ∙ ap (λ (xs : List ℕ). get_or xs 0 0) (append_cancel_left (folder ++ codes "/") (name_of file) (name_of Report) same)))

module _ (files more : List File) (folder bytes : List ℕ) (written : IsWritten (path_of folder Report) bytes files more) where
  content_same : (file : FileName) → bytes_eq (path_of folder file) (path_of folder Report) ≡ false → content_of more folder file ≡ content_of files folder file
  content_same file differs = ap (content_where file) (written.others (path_of folder file) differs)

  manifest_same : manifest_at more folder ≡ manifest_at files folder
  manifest_same = λ i. and_then (or_refused from_content (content_same Manifest (named_apart folder Manifest 109 refl (λ same. omega (arith, same))) i)) (λ text. manifest_or_fault (manifest_of_text text))

  contents_same : (thread count : ℕ) → contents_from more folder thread count ≡ contents_from files folder thread count
  contents_same thread zero = refl
  contents_same thread (suc count) =
      λ i. then_rest (content_same (Trace thread) (named_apart folder (Trace thread) 116 refl (λ same. omega (arith, same))) i) (contents_same (thread + 1) count i)

  recording_same : recording_of more folder ≡ recording_of files folder
  recording_same =
      λ i. and_then (manifest_same i) (λ manifest. and_then (or_refused from_content (contents_same 1 manifest.threads i)) (λ contents. recording_with manifest contents))

  properties_same : properties_at more folder ≡ properties_at files folder
  properties_same =
      λ i. and_then (or_refused content_refusal (content_same Properties (named_apart folder Properties 112 refl (λ same. omega (arith, same))) i))
      (λ text. or_refused properties_refusal (properties_of text))

  listing_same : listing_at more folder ≡ listing_at files folder
  listing_same =
      λ i. and_then (or_refused recording_refusal (recording_same i)) (λ recording. and_then (properties_same i) (λ properties. Ok (record { recording = recording; properties = properties })))

pub written_held : WrittenIsHeld
written_held = record {
  keeps = listing_same;
  holds = λ files more folder listing report listed whole short written. record {
    listed = listing_same files more folder _ written ∙ listed;
    whole = whole;
    text = written.holds;
    short = short;
  };
}
