-- The files of a made recording have different names.
use Rattle.std.proofs.Common.{◌≡◌, ◌≢◌, sym, ℕ, zero, suc, ◌+◌, ◌<◌, ◌≤◌, ◌^◌, List, [], ◌∷◌, ◌++◌, map, length, length-append, arith}
use Rattle.std.specs.Prelude.{All}
use Rattle.std.specs.List.{range_with_len}
use Rattle.std.proofs.lemmas.List.Elements.{All-cons, All-nil, All-push}
use Rattle.std.proofs.lemmas.List.FromFn.{length-map-range_with_len}
use Rattle.std.proofs.lemmas.List.Kept.{AllPairs-cons}
use Rattle.std.proofs.lemmas.List.Quantifiers.{all_pairs_push}
use Rattle.gp_files.specs.MadeFileForm.{MadeFileForm}
use Rattle.gp_files.specs.Naming.{DifferInName, IsNumbered}
use Rattle.gp_window.specs.declared.file_name.FileName.{FileName}
use Rattle.gp_window.specs.declared.file_name.FileName.TheVariants.{Manifest, Trace, Properties}
use Rattle.gp_make.specs.declared.recipe.Recipe.{Recipe}
use Rattle.gp_make.specs.Files.{file_of, made_files, trace_file}
use Rattle.gp_make.specs.Texts.{manifest_lines, property_lines}

-- the traces of so many threads from this one on
abbrev traces_from : Recipe → ℕ → ℕ → List MadeFileForm
traces_from recipe first count = map (trace_file recipe) (range_with_len first count)

-- none of the files has this name
abbrev IsFree : FileName → List MadeFileForm → Type 0
IsFree name files = All (λ (file : MadeFileForm). name ≢ file.name) files

-- the names of the files have numbers below 2 ^ 64
abbrev AreNumbered : List MadeFileForm → Type 0
AreNumbered files = All (λ (file : MadeFileForm). IsNumbered file.name) files

same_thread : (one other : ℕ) → Trace one ≡ Trace other → one ≡ other
same_thread one other same = cc

free_among : (recipe : Recipe) (name : FileName) (first count : ℕ)
    → ((thread : ℕ) → first ≤ thread → thread < first + count → name ≢ Trace thread) → IsFree name (traces_from recipe first count)
free_among recipe name first zero differs = All-nil (λ (file : MadeFileForm). name ≢ file.name)
free_among recipe name first (suc count) differs =
    All-cons (λ (file : MadeFileForm). name ≢ file.name) (trace_file recipe first) (traces_from recipe (first + 1) count)
    (differs first (omega arith) (omega arith))
    (free_among recipe name (first + 1) count (λ thread from to. differs thread (omega (arith, from)) (omega (arith, to))))

traces_differ : (recipe : Recipe) (first count : ℕ) → DifferInName (traces_from recipe first count)
traces_differ recipe first zero = λ i j d before below. absurd (omega (arith, below))
traces_differ recipe first (suc count) =
    AllPairs-cons (λ (one other : MadeFileForm). one.name ≢ other.name) (trace_file recipe first) (traces_from recipe (first + 1) count)
    (free_among recipe (Trace first) (first + 1) count (λ thread from to same. absurd (omega (arith, from, same_thread first thread same))))
    (traces_differ recipe (first + 1) count)

traces_numbered : (recipe : Recipe) (first count : ℕ) → first + count ≤ 2 ^ 64 → AreNumbered (traces_from recipe first count)
traces_numbered recipe first zero fits = All-nil (λ (file : MadeFileForm). IsNumbered file.name)
traces_numbered recipe first (suc count) fits =
    All-cons (λ (file : MadeFileForm). IsNumbered file.name) (trace_file recipe first) (traces_from recipe (first + 1) count)
    (omega (arith, fits)) (traces_numbered recipe (first + 1) count (omega (arith, fits)))

-- the manifest, so many traces and the properties have different names
pub made_differ : (recipe : Recipe) → DifferInName (made_files recipe)
made_differ recipe =
    let manifest : MadeFileForm = file_of Manifest (manifest_lines recipe) in
    let properties : MadeFileForm = file_of Properties property_lines in
    let traces : List MadeFileForm = traces_from recipe 1 recipe.threads in
    let differ : MadeFileForm → MadeFileForm → Type 0 = λ one other. one.name ≢ other.name in
    let last : IsFree Properties traces = free_among recipe Properties 1 recipe.threads (λ thread from to same. (cc)) in
    let first : IsFree Manifest traces = free_among recipe Manifest 1 recipe.threads (λ thread from to same. (cc)) in
    AllPairs-cons differ manifest (traces ++ properties ∷ [])
    (All-push (differ manifest) traces properties first (λ same. (cc)))
    (all_pairs_push differ traces properties (traces_differ recipe 1 recipe.threads) (λ k d below same. last k d below (sym same)))

-- and their numbers are below 2 ^ 64, since they can be counted
pub made_numbered : (recipe : Recipe) → length (made_files recipe) < 2 ^ 64 → AreNumbered (made_files recipe)
made_numbered recipe fits =
    let manifest : MadeFileForm = file_of Manifest (manifest_lines recipe) in
    let properties : MadeFileForm = file_of Properties property_lines in
    let traces : List MadeFileForm = traces_from recipe 1 recipe.threads in
    let few : 1 + recipe.threads ≤ 2 ^ 64 =
    omega (arith, fits, length-append traces (properties ∷ []), length-map-range_with_len (trace_file recipe) 1 recipe.threads) in
    let Numbered : MadeFileForm → Type 0 = λ (file : MadeFileForm). IsNumbered file.name in
    All-cons Numbered manifest (traces ++ properties ∷ []) tt
    (All-push Numbered traces properties (traces_numbered recipe 1 recipe.threads few) tt)
