-- The texts of the traces, read one after another.
use Rattle.std.proofs.Common.{◌≡◌, refl, ℕ, ◌+◌, ◌-◌, ◌<◌, List, [], ◌∷◌, ◌++◌, ap, ◌∙◌, sym, add-one, arith}
use Rattle.std.specs.Prelude.{Option, Some, None, Result, Ok, Err}
use Rattle.gp_outside.specs.Folders.{File}
use Rattle.gp_base.specs.Results.{then_rest, with_prefix}
use Rattle.gp_window.specs.declared.content.ContentFault.{ContentFault}
use Rattle.gp_window.specs.declared.file_name.FileName.TheVariants as file
use Rattle.gp_window.specs.Contents.{content_of, contents_from}
use Rattle.gp_window.specs.Gives.{StopsAs}
use Rattle.gp_base.specs.ResultLaws.{prefix_then}

-- where a thread is left, its text comes before those of the threads after it
unfolds : (files : List File) (folder : List ℕ) (thread more rest : ℕ) → more ≡ rest + 1
    → contents_from files folder thread more
    ≡ then_rest (content_of files folder (file.Trace thread)) (contents_from files folder (thread + 1) rest)
unfolds files folder thread more rest is = rw (is, add-one) refl

-- the text of one more thread goes from what is left to what was read
pub one_more : (files : List File) (folder : List ℕ) (prefix : List (List ℕ)) (content : List ℕ) (before threads : ℕ)
    (total : Result (List (List ℕ)) ContentFault) → before < threads
    → content_of files folder (file.Trace (before + 1)) ≡ Ok content
    → with_prefix prefix (contents_from files folder (before + 1) (threads - before)) ≡ total
    → with_prefix (prefix ++ content ∷ []) (contents_from files folder (before + 1 + 1) (threads - (before + 1))) ≡ total
one_more files folder prefix content before threads total below read all =
    let left : threads - before ≡ (threads - (before + 1)) + 1 = omega arith in
    prefix_then prefix content (contents_from files folder (before + 1 + 1) (threads - (before + 1)))
    ∙ ap (λ first. with_prefix prefix (then_rest first (contents_from files folder (before + 1 + 1) (threads - (before + 1))))) (sym read)
    ∙ ap (with_prefix prefix) (sym (unfolds files folder (before + 1) (threads - before) (threads - (before + 1)) left))
    ∙ all

-- a refusal before some rest is the refusal of it all
refusal_first : (prefix : List (List ℕ)) (first : Result (List ℕ) ContentFault) (rest : Result (List (List ℕ)) ContentFault) (refusal : ContentFault)
    → first ≡ Err refusal → with_prefix prefix (then_rest first rest) ≡ Err refusal
refusal_first prefix first rest refusal is = rw is refl

-- where the text of one more thread is refused, so is the whole
refuses : (refusal : ContentFault) (files : List File) (folder : List ℕ) (prefix : List (List ℕ)) (before threads : ℕ)
    (total : Result (List (List ℕ)) ContentFault) → before < threads
    → content_of files folder (file.Trace (before + 1)) ≡ Err refusal
    → with_prefix prefix (contents_from files folder (before + 1) (threads - before)) ≡ total
    → total ≡ Err refusal
refuses refusal files folder prefix before threads total below is all =
    let left : threads - before ≡ (threads - (before + 1)) + 1 = omega arith in
    sym all
    ∙ ap (with_prefix prefix) (unfolds files folder (before + 1) (threads - before) (threads - (before + 1)) left)
    ∙ refusal_first prefix (content_of files folder (file.Trace (before + 1))) (contents_from files folder (before + 1 + 1) (threads - (before + 1))) refusal is

-- where reading one more text stopped, so did the whole
pub stops : (cause : Option ContentFault) (files : List File) (folder : List ℕ) (prefix : List (List ℕ)) (before threads : ℕ)
    (total : Result (List (List ℕ)) ContentFault) → before < threads
    → StopsAs cause (content_of files folder (file.Trace (before + 1)))
    → with_prefix prefix (contents_from files folder (before + 1) (threads - before)) ≡ total
    → StopsAs cause total
stops None files folder prefix before threads total below is all = tt
stops (Some refusal) files folder prefix before threads total below is all = refuses refusal files folder prefix before threads total below is all
