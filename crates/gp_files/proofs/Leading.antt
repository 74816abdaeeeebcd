-- Files that are written one after another, and where writing those that are left leads.
use Rattle.std.proofs.Common.{◌≡◌, ◌≢◌, refl, sym, ap, ◌∙◌, subst, ℕ, suc, ◌+◌, ◌<◌, Bool, true, false, List, [], ◌∷◌, length, get_or, drop, drop-cons, add-one, None, Some, inl, inr, arith}
use Rattle.std.specs.Prelude.{◌⊎◌, All, Option}
use Rattle.std.specs.Str.{bytes_eq}
use Rattle.std.proofs.lemmas.List.Elements.{All-cons, All-nil}
use Rattle.std.proofs.lemmas.List.Kept.{AllPairs-cons}
use Rattle.std.proofs.lemmas.Slice.Eq.{bytes_eq-Decides}
use Rattle.gp_outside.specs.declared.folders.WriteFault.{WriteFault}
use Rattle.gp_outside.specs.declared.folders.WriteFault.TheVariants.{Failed, Memory}
use Rattle.gp_outside.specs.Folders.{File, IsWritten, SameBut, Spares, Writes, file_named}
use Rattle.gp_window.specs.FileNames.{path_of}
use Rattle.gp_files.specs.MadeFileForm.{MadeFileForm}
use Rattle.gp_files.specs.Writing.{AreAllMade, AreApart, AreKeptOrMade, AreMadeInOrder, AreSomeMade, IsKeptOrMade, IsMade, WhereTold, files_at}

-- a file of this name is none of the files
abbrev IsNone : List ℕ → List File → Type 0
IsNone name files = All (λ (file : File). bytes_eq name file.name ≡ false) files

-- the files are made in their order, and each other file is as before
pub record AreInOrder (made before after : List File) : Type 0 where
  pub order : AreMadeInOrder made before after
  pub others : (name : List ℕ) → IsNone name made → file_named after name ≡ file_named before name

-- what comes of the files that are left, from the present ones on, comes of all the files from the first ones on
pub record Leads (left all before now : List File) : Type 0 where
  pub apart : AreApart left
  pub made : (after : List File) → AreAllMade left now after → AreAllMade all before after
  pub spared : (after : List File) → AreSomeMade left now after → AreSomeMade all before after
  pub kept : (after : List File) → AreKeptOrMade left now after → AreKeptOrMade all before after
  pub order : (after : List File) → AreInOrder left now after → AreInOrder all before after

made_later : (file : File) (left : List File) (name : List ℕ) (content : Option (List ℕ))
    → IsMade left name content → IsMade (file ∷ left) name content
made_later file left name content made = (suc made.0, made.1, omega (arith, made.2), made.3, made.4)

kept_by : (file : File) (left now next after : List File) (name : List ℕ) (is_own : Bool) → bytes_eq name file.name ≡ is_own
    → IsWritten file.name file.bytes now next
    → IsKeptOrMade left next after name → IsKeptOrMade (file ∷ left) now after name
kept_by file left now next after name true own written (inl same) =
    let is : name ≡ file.name = (bytes_eq-Decides name file.name).0 own in
    inr (0, file, omega arith, refl, (sym is, same ∙ ap (file_named next) is ∙ written.holds))
kept_by file left now next after name false own written (inl same) = inl (same ∙ written.others name own)
kept_by file left now next after name true own written (inr made) = inr (made_later file left name (file_named after name) made)
kept_by file left now next after name false own written (inr made) = inr (made_later file left name (file_named after name) made)

kept_then : (file : File) (left now next after : List File) → IsWritten file.name file.bytes now next
    → (name : List ℕ) → IsKeptOrMade left next after name → IsKeptOrMade (file ∷ left) now after name
kept_then file left now next after written name = kept_by file left now next after name (bytes_eq name file.name) refl written

own_text : (file : File) (left now next after : List File) → AreApart (file ∷ left) → IsWritten file.name file.bytes now next
    → IsKeptOrMade left next after file.name → file_named after file.name ≡ Some file.bytes
own_text file left now next after apart written (inl same) = same ∙ written.holds
own_text file left now next after apart written (inr made) =
    absurd (apart 0 (suc made.0) made.1 (omega arith) (omega (arith, made.2))
    (sym made.4.0 ∙ ap (λ (other : File). other.name) (sym made.3)))

made_then : (file : File) (left now next after : List File) → AreApart (file ∷ left) → IsWritten file.name file.bytes now next
    → AreAllMade left next after → AreAllMade (file ∷ left) now after
made_then file left now next after apart written made = record {
  texts = All-cons (λ (other : File). file_named after other.name ≡ Some other.bytes) file left
      (own_text file left now next after apart written (made.others file.name)) made.texts;
  others = λ name. kept_then file left now next after written name (made.others name);
}

spared_then : (file : File) (left now next after : List File) → IsWritten file.name file.bytes now next
    → AreSomeMade left next after → AreSomeMade (file ∷ left) now after
spared_then file left now next after written spared = record {
  failed = spared.failed;
  is_made = let made = spared.is_made in (suc made.0, made.1, omega (arith, made.2), made.3, made.4);
  others = λ name differs. kept_then file left now next after written name (spared.others name differs);
}

apart_later : (file : File) (left : List File) → AreApart (file ∷ left) → AreApart left
apart_later file left apart i j d before below = apart (suc i) (suc j) d (omega (arith, before)) (omega (arith, below))

bytes_differ : (one other : List ℕ) (same : Bool) → bytes_eq one other ≡ same → one ≢ other → bytes_eq one other ≡ false
bytes_differ one other true is differ = absurd (differ ((bytes_eq-Decides one other).0 is))
bytes_differ one other false is differ = is

-- a file of that name is none of the files behind it
none_behind : (file : File) (left : List File) → AreApart (file ∷ left) → IsNone file.name left
none_behind file left apart =
    λ k d within. bytes_differ file.name (get_or left k d).name (bytes_eq file.name (get_or left k d).name) refl
    (apart 0 (suc k) d (omega arith) (omega (arith, within)))

-- each file that is left is another one
left_differ : (file : File) (left : List File) → AreApart (file ∷ left) → All (λ (other : File). bytes_eq other.name file.name ≡ false) left
left_differ file left apart =
    λ k d within. bytes_differ (get_or left k d).name file.name (bytes_eq (get_or left k d).name file.name) refl
    (λ same. apart 0 (suc k) d (omega arith) (omega (arith, within)) (sym same))

-- what the first of the files holds is open, and each other file is as before
first_in_order : (file : File) (left now after : List File) → AreApart (file ∷ left) → SameBut file.name now after → AreInOrder (file ∷ left) now after
first_in_order file left now after apart same = record {
  order = AllPairs-cons (λ (one later : File). (file_named after later.name ≡ file_named now later.name) ⊎ (file_named after one.name ≡ Some one.bytes)) file left
      (λ k d within. inl (same (get_or left k d).name (left_differ file left apart k d within)))
      (λ i j d before within. inl (same (get_or left j d).name (left_differ file left apart j d within)));
  others = λ name none. same name (none 0 file (omega arith));
}

in_order_then : (file : File) (left now next after : List File) → AreApart (file ∷ left) → IsWritten file.name file.bytes now next
    → AreInOrder left next after → AreInOrder (file ∷ left) now after
in_order_then file left now next after apart written ordered = record {
  order = AllPairs-cons (λ (one later : File). (file_named after later.name ≡ file_named now later.name) ⊎ (file_named after one.name ≡ Some one.bytes)) file left
      (λ k d within. inr (ordered.others file.name (none_behind file left apart) ∙ written.holds))
      (λ i j d before within. as_before (get_or left i d) (get_or left j d) (left_differ file left apart j d within) (ordered.order i j d before within));
  others = λ name none.
      ordered.others name (λ k d within. none (suc k) d (omega (arith, within))) ∙ written.others name (none 0 file (omega arith));
}
  where
    as_before : (one later : File) → bytes_eq later.name file.name ≡ false
        → (file_named after later.name ≡ file_named next later.name) ⊎ (file_named after one.name ≡ Some one.bytes)
        → (file_named after later.name ≡ file_named now later.name) ⊎ (file_named after one.name ≡ Some one.bytes)
    as_before one later differs (inl same) = inl (same ∙ written.others later.name differs)
    as_before one later differs (inr there) = inr there

one_more : (all left : List File) (file : File) (before now next : List File) → Leads (file ∷ left) all before now
    → IsWritten file.name file.bytes now next → Leads left all before next
one_more all left file before now next leads written = record {
  apart = apart_later file left leads.apart;
  made = λ after made. leads.made after (made_then file left now next after leads.apart written made);
  spared = λ after spared. leads.spared after (spared_then file left now next after written spared);
  kept = λ after kept. leads.kept after (λ name. kept_then file left now next after written name (kept name));
  order = λ after ordered. leads.order after (in_order_then file left now next after leads.apart written ordered);
}

-- one more file is written
pub file_written : (all left rest : List File) (file : File) (start now next : Option (List File)) → left ≡ file ∷ rest
    → WhereTold start now (Leads left all) → Writes now next file.name file.bytes → WhereTold start next (Leads rest all)
file_written all left rest file None now next cut leads writes =
    subst (λ (told : Option (List File)). Writes told next file.name file.bytes) leads writes
file_written all left rest file (Some before) now next cut leads writes =
    let mid = leads.0 in
    let at_mid : Writes (Some mid) next file.name file.bytes =
    subst (λ (told : Option (List File)). Writes told next file.name file.bytes) leads.1 writes in
    let from_mid : Leads (file ∷ rest) all before mid = subst (λ (files : List File). Leads files all before mid) cut leads.2 in
    (at_mid.0, at_mid.1, one_more all rest file before mid at_mid.0 from_mid at_mid.2)

-- the write of a file failed
pub file_spared : (all left rest : List File) (file : File) (start now next : Option (List File)) → left ≡ file ∷ rest
    → WhereTold start now (Leads left all) → Spares now next file.name → WhereTold start next (AreSomeMade all)
file_spared all left rest file None now next cut leads spares =
    subst (λ (told : Option (List File)). Spares told next file.name) leads spares
file_spared all left rest file (Some before) now next cut leads spares =
    let mid = leads.0 in
    let at_mid : Spares (Some mid) next file.name =
    subst (λ (told : Option (List File)). Spares told next file.name) leads.1 spares in
    let from_mid : Leads (file ∷ rest) all before mid = subst (λ (files : List File). Leads files all before mid) cut leads.2 in
    let failed : AreSomeMade (file ∷ rest) mid at_mid.0 = record {
      failed = file.name;
      is_made = (0, file, omega arith, refl, refl);
      others = λ name differs. inl (at_mid.2 name differs);
    } in
    (at_mid.0, at_mid.1, from_mid.spared at_mid.0 failed)

-- nothing was changed since
pub unchanged_in_order : (left now : List File) → AreInOrder left now now
unchanged_in_order left now = record { order = λ i j d before within. inl refl; others = λ name none. refl }

-- the last write was of the first file that is left, or there was none
pub order_spared : (all left rest : List File) (file : File) (start now next : Option (List File)) → left ≡ file ∷ rest
    → WhereTold start now (Leads left all) → Spares now next file.name → WhereTold start next (AreMadeInOrder all)
order_spared all left rest file None now next cut leads spares =
    subst (λ (told : Option (List File)). Spares told next file.name) leads spares
order_spared all left rest file (Some before) now next cut leads spares =
    let mid = leads.0 in
    let at_mid : Spares (Some mid) next file.name =
    subst (λ (told : Option (List File)). Spares told next file.name) leads.1 spares in
    let from_mid : Leads (file ∷ rest) all before mid = subst (λ (files : List File). Leads files all before mid) cut leads.2 in
    (at_mid.0, at_mid.1, (from_mid.order at_mid.0 (first_in_order file rest mid at_mid.0 from_mid.apart at_mid.2)).order)

-- a write that wants memory, or fails, spares every other file
pub stop_spares : (fault : WriteFault) (now next : Option (List File)) (name : List ℕ) → (fault ≡ Failed → Spares now next name) → (fault ≡ Memory → next ≡ now)
    → Spares now next name
stop_spares Failed now next name failed memory = failed refl
stop_spares Memory now next name failed memory = subst (λ (told : Option (List File)). Spares now told name) (sym (memory refl)) (spares_same now)
  where
    spares_same : (told : Option (List File)) → Spares told told name
    spares_same None = refl
    spares_same (Some files) = (files, refl, λ other differs. refl)

-- all files are written, in their order
pub order_written : (all left : List File) (start now : Option (List File)) → left ≡ []
    → WhereTold start now (Leads left all) → WhereTold start now (AreMadeInOrder all)
order_written all left None now none leads = leads
order_written all left (Some before) now none leads =
    let at_end : Leads [] all before leads.0 = subst (λ (files : List File). Leads files all before leads.0) none leads.2 in
    (leads.0, leads.1, (at_end.order leads.0 (unchanged_in_order [] leads.0)).order)

-- all files are written
pub all_written : (all left : List File) (start now : Option (List File)) → left ≡ []
    → WhereTold start now (Leads left all) → WhereTold start now (AreAllMade all)
all_written all left None now none leads = leads
all_written all left (Some before) now none leads =
    let at_end : Leads [] all before leads.0 = subst (λ (files : List File). Leads files all before leads.0) none leads.2 in (
      leads.0,
      leads.1,
      at_end.made leads.0 (record {
        texts = All-nil (λ (file : File). file_named leads.0 file.name ≡ Some file.bytes);
        others = λ name. inl refl;
      }),
    )

-- what is left are one file and the files after it
pub one_left : (directory : List ℕ) (files : List MadeFileForm) (i : ℕ) (file : MadeFileForm) → i < length files → file ≡ get_or files i file
    → files_at directory (drop i files) ≡ record { name = path_of directory file.name; bytes = file.text } ∷ files_at directory (drop (i + 1) files)
one_left directory files i file below is =
    let cut : drop i files ≡ file ∷ drop (i + 1) files = rw (add-one, drop-cons files i file below, ← is) refl in
    ap (files_at directory) cut
