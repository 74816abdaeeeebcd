-- Steps of walks over folders: what one more gives, and where one stops.
use Rattle.std.proofs.Common.{◌≡◌, refl, sym, ap, ◌∙◌, ℕ, suc, ◌+◌, ◌-◌, ◌<◌, ◌≤◌, List, [], ◌∷◌, ◌++◌, Bor, append_assoc, drop, get_or, length, map, take, add-one, drop-cons, arith}
use Rattle.std.specs.Prelude.{Option, Some, Result, Ok, Err, find}
use Rattle.std.proofs.lemmas.List.{map-append, take_more}
use Rattle.gp_base.specs.Results.{and_then, or_refusal, then_rest, with_prefix}
use Rattle.gp_merge.specs.declared.merging.PartReport.{PartReport}
use Rattle.gp_outside.specs.Faults.{Rose}
use Rattle.gp_outside.specs.Folders.{File}
use Rattle.gp_predict.specs.declared.reply.Reply.{Reply}
use Rattle.gp_window.specs.Gives.{Gives}
use Rattle.gp_window.specs.RecordingForm.{RecordingForm}
use Rattle.gp_words.specs.Value.{lent_texts}
use Rattle.gp_shards.specs.declared.stop.ShardStop.{ShardStop}
use Rattle.gp_shards.specs.declared.stop.ShardStop.TheVariants.{Refused, FolderFailed, Memory}
use Rattle.gp_shards.specs.Merging.{folder_at, folders_from, in_order, is_of_part, part_at, parts_from}
use Rattle.gp_shards.specs.PartFolders.{PartFolderForm}
use Rattle.gp_shards.specs.Refusing.{missing}
use Rattle.gp_shards.specs.Stage.{IsShardStage, refusal_of}

-- what is left from a place on, where something stands there
pub left_at : {A : Type 0} (xs : List A) (n : ℕ) (d : A) → n < length xs → drop n xs ≡ get_or xs n d ∷ drop (n + 1) xs
left_at xs n d below = rw (add-one, drop-cons xs n d below) refl

pub left_from : {A : Type 0} (xs : List A) (n : ℕ) (x : A) → n < length xs → x ≡ get_or xs n x → drop n xs ≡ x ∷ drop (n + 1) xs
left_from xs n x below is = left_at xs n x below ∙ ap (λ y. y ∷ drop (n + 1) xs) (sym is)

-- a fault behind other calls is one of all
earlier : (before between after : ℕ) → before ≤ between → Rose between after → Rose before after
earlier before between after later rose = omega (arith, later, rose)

-- a stage whose first step was stopped behind what was read before
module _ {A B C D : Type 0} (first : List File → Result A Reply) (next : List File → A → Result B Reply) (whole : List File → Result B Reply) (old middle new : Option (List File)) (before between after : ℕ)
    (later : before ≤ between) (kept : middle ≡ old) (walk : (files : List File) → old ≡ Some files → and_then (first files) (next files) ≡ whole files) where
  pub stage_stops : (stop : ShardStop) → IsShardStage {A = C} (Err stop) (λ files. Gives refusal_of (Err stop) (first files)) middle new between after
      → IsShardStage {A = D} (Err stop) (λ files. Gives refusal_of (Err stop) (whole files)) old new before after
  stage_stops (Refused why) stage = record {
    later = omega (arith, later, stage.later);
    kept = stage.kept ∙ kept;
    told = λ files is. sym (walk files is) ∙ ap (λ result. and_then result (next files)) (stage.told files (kept ∙ is));
    fault = λ failed. absurd (cc);
    absent = λ absent none. earlier before between after later (stage.absent absent (kept ∙ none));
    limit = stage.limit;
  }
  stage_stops FolderFailed stage = record {
    later = omega (arith, later, stage.later);
    kept = stage.kept ∙ kept;
    told = λ files is. tt;
    fault = λ failed. earlier before between after later (stage.fault refl);
    absent = λ absent. absurd (cc);
    limit = refl;
  }
  stage_stops Memory stage = record {
    later = omega (arith, later, stage.later);
    kept = stage.kept ∙ kept;
    told = λ files is. tt;
    fault = λ failed. absurd (cc);
    absent = λ absent. absurd (cc);
    limit = refl;
  }

-- the walk over folders, of which so many were read
module _ (r : RecordingForm) (outs : List (Bor (List ℕ))) (i : ℕ) (d : Bor (List ℕ)) (before read : List PartFolderForm) (old middle : Option (List File))
    (below : i < length outs) (same : read ≡ before) (kept : middle ≡ old)
    (walk : (files : List File) → old ≡ Some files → folders_from files r before (lent_texts (drop i outs)) ≡ folders_from files r [] (lent_texts outs)) where
  -- what is behind the folder that is read now
  abbrev behind : List File → PartFolderForm → Result (List PartFolderForm) Reply
  behind files folder = folders_from files r (before ++ folder ∷ []) (lent_texts (drop (i + 1) outs))

  folders_left : (files : List File) → old ≡ Some files → and_then (folder_at files r read (get_or outs i d).now) (behind files) ≡ folders_from files r [] (lent_texts outs)
  folders_left files told =
      ap (λ (folders : List PartFolderForm). and_then (folder_at files r folders (get_or outs i d).now) (behind files)) same
      ∙ ap (λ (left : List (Bor (List ℕ))). folders_from files r before (lent_texts left)) (sym (left_at outs i d below)) ∙ walk files told

  pub folders_more : (folder : PartFolderForm) → ((files : List File) → middle ≡ Some files → folder_at files r read (get_or outs i d).now ≡ Ok folder)
      → (files : List File) → old ≡ Some files → folders_from files r (before ++ folder ∷ []) (lent_texts (drop (i + 1) outs)) ≡ folders_from files r [] (lent_texts outs)
  folders_more folder is files told = sym (ap (λ result. and_then result (behind files)) (is files (kept ∙ told))) ∙ folders_left files told

  pub folders_stop : {C D : Type 0} (new : Option (List File)) (start between after : ℕ) → start ≤ between → (stop : ShardStop)
      → IsShardStage {A = C} (Err stop) (λ files. Gives refusal_of (Err stop) (folder_at files r read (get_or outs i d).now)) middle new between after
      → IsShardStage {A = D} (Err stop) (λ files. Gives refusal_of (Err stop) (folders_from files r [] (lent_texts outs))) old new start after
  folders_stop new start between after later stop =
      stage_stops (λ files. folder_at files r read (get_or outs i d).now) behind (λ files. folders_from files r [] (lent_texts outs)) old middle new start between after later kept folders_left stop

-- and so the walk over the reports
pub part_more : (files : List File) (before : List PartReport) (part : PartReport) (folder : PartFolderForm) (left rest : List PartFolderForm)
    → left ≡ folder ∷ rest → part_at files before folder ≡ Ok part → parts_from files before left ≡ parts_from files (before ++ part ∷ []) rest
part_more files before part folder left rest first is =
    ap (parts_from files before) first ∙ ap (λ result. and_then result (λ one. parts_from files (before ++ one ∷ []) rest)) is

pub part_first : (files : List File) (before : List PartReport) (folder : PartFolderForm) (left rest : List PartFolderForm)
    → left ≡ folder ∷ rest → and_then (part_at files before folder) (λ one. parts_from files (before ++ one ∷ []) rest) ≡ parts_from files before left
part_first files before folder left rest first = ap (parts_from files before) (sym first)

-- the parts that are in order, and the rest: one more was found, or none is there
module _ (folders : List PartFolderForm) where
  order_left : (parts before : ℕ) → before < parts → in_order folders (before + 1) (parts - before) ≡ then_rest (or_refusal (missing (before + 1)) (find (is_of_part (before + 1)) folders)) (in_order folders (before + 1 + 1) (parts - (before + 1)))
  order_left parts before below = let more : parts - before ≡ suc (parts - (before + 1)) = omega (arith, below) in ap (in_order folders (before + 1)) more

  found_front : (prefix : List PartFolderForm) (folder : PartFolderForm) (rest : Result (List PartFolderForm) Reply) → with_prefix prefix (then_rest (Ok folder) rest) ≡ with_prefix (prefix ++ folder ∷ []) rest
  found_front prefix folder (Ok rest) = ap Ok (sym (append_assoc prefix (folder ∷ []) rest))
  found_front prefix folder (Err refusal) = refl

  pub order_more : (parts before : ℕ) (prefix : List PartFolderForm) (folder : PartFolderForm) → before < parts → find (is_of_part (before + 1)) folders ≡ Some folder
      → with_prefix prefix (in_order folders (before + 1) (parts - before)) ≡ with_prefix (prefix ++ folder ∷ []) (in_order folders (before + 1 + 1) (parts - (before + 1)))
  order_more parts before prefix folder below found =
      ap (with_prefix prefix) (order_left parts before below ∙ ap (λ one. then_rest (or_refusal (missing (before + 1)) one) (in_order folders (before + 1 + 1) (parts - (before + 1)))) found)
      ∙ found_front prefix folder (in_order folders (before + 1 + 1) (parts - (before + 1)))

-- the windows of one part more
pub windows_more : {A B C : Type 0} (f : A → C) (h : B → C) (told : List A) (one : A) (xs : List B) (x : B) (n : ℕ) → n < length xs → x ≡ get_or xs n x → map f told ≡ map h (take n xs) → f one ≡ h x
    → map f (told ++ one ∷ []) ≡ map h (take (n + 1) xs)
windows_more f h told one xs x n below is so same =
    let taken = take_more xs n x below in
    map-append f told (one ∷ []) ∙ ap (λ cs. cs ++ f one ∷ []) so ∙ ap (λ c. map h (take n xs) ++ c ∷ []) (same ∙ ap h is) ∙ sym (map-append h (take n xs) (get_or xs n x ∷ [])) ∙ ap (map h) (sym taken)
