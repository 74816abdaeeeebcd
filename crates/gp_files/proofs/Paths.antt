-- What a path in a directory tells of its file.
use Rattle.std.proofs.Common.{◌≡◌, refl, sym, ap, ◌∙◌, ℕ, ◌-◌, ◌<◌, ◌^◌, ◌==◌, if◌then◌else◌, List, ◌++◌, codes, decimal, drop, get_or, length, take, length-append, arith}
use Rattle.std.specs.Str.Parse.{digits_value}
use Rattle.std.proofs.Math.Seq.{take-append_seam}
use Rattle.std.proofs.lemmas.Fmt.{decimal_is_IsNumeral}
use Rattle.std.proofs.lemmas.List.{append_cancel_left}
use Rattle.gp_window.specs.FileNames.{name_of, path_of}
use Rattle.gp_window.specs.declared.file_name.FileName.{FileName}
use Rattle.gp_window.specs.declared.file_name.FileName.TheVariants.{Manifest, Trace, Properties, Schedule, Report, Shard}
use Rattle.gp_files.specs.Naming.{IsNumbered}

-- the thread whose trace has this name
abbrev thread_in : List ℕ → ℕ
thread_in name = digits_value 10 (take (length name - 7) (drop 1 name))

-- the file whose name begins with these two bytes
abbrev file_by : ℕ → ℕ → List ℕ → FileName
file_by first second name =
    if first == 109 then Manifest
    else (if first == 116 then Trace (thread_in name)
    else (if first == 112 then Properties
    else (if first == 114 then Report
    else (if second == 99 then Schedule else Shard))))

-- the file of this name
abbrev file_in : List ℕ → FileName
file_in name = file_by (get_or name 0 0) (get_or name 1 0) name

thread_told : (thread : ℕ) → thread < 2 ^ 64 → thread_in (name_of (Trace thread)) ≡ thread
thread_told thread fits =
    let size : length (name_of (Trace thread)) - 7 ≡ length (decimal thread) = omega (arith, length-append (decimal thread) (codes ".trace")) in
    ap (λ n. digits_value 10 (take n (decimal thread ++ codes ".trace"))) size
    ∙ ap (digits_value 10) (take-append_seam (decimal thread) (codes ".trace"))
    ∙ (decimal_is_IsNumeral thread fits).1

file_told : (file : FileName) → IsNumbered file → file_in (name_of file) ≡ file
file_told Manifest fits = refl
file_told (Trace thread) fits = ap Trace (thread_told thread fits)
file_told Properties fits = refl
file_told Schedule fits = refl
file_told Report fits = refl
file_told Shard fits = refl

-- two paths in a directory are one only where they lead to one file
pub same_file : (directory : List ℕ) (one other : FileName) → IsNumbered one → IsNumbered other
    → path_of directory one ≡ path_of directory other → one ≡ other
same_file directory one other one_fits other_fits same =
    let names : name_of one ≡ name_of other = append_cancel_left (directory ++ codes "/") (name_of one) (name_of other) same in
    sym (file_told one one_fits) ∙ ap file_in names ∙ file_told other other_fits
