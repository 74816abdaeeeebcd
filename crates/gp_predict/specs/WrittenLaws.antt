-- Laws: a text that is written piece by piece.
use Rattle.std.proofs.Common.{◌≡◌, refl, ℕ, ◌+◌, ◌≤◌, min, List, [], ◌∷◌, ◌++◌, length, take, ap, Result, Ok, Err, OnErr, ◌∙◌, sym, append_assoc, append-nil, arith}
use Rattle.std.proofs.lemmas.List.{take-append-le, take_min}
use Rattle.std.proofs.Math.Seq.{take-append-add, take-append_seam}
use Rattle.std.specs.Prelude.{Option, Some, None}
use Rattle.gp_outside.specs.Sinks.{Appends, AppendsFront}

-- where the bytes written are told, a prefix of the whole came behind the old ones, and the rest is left
pub record IsWritten (old new : Option (List ℕ)) (rest whole : List ℕ) : Type 0 where
  pub done : List ℕ
  pub appended : Appends old new done
  pub all : done ++ rest ≡ whole

-- on an error, what follows from a fact that holds on it
pub on_err : {T E : Type 0} (result : Result T E) {P Q : Type 0} → (P → Q) → OnErr result P → OnErr result Q
on_err (Ok value) then h = tt
on_err (Err error) then h = then h

-- nothing is written yet
pub written_none : (old : Option (List ℕ)) (whole : List ℕ) → IsWritten old old whole whole
written_none None whole = record { done = []; appended = tt; all = refl }
written_none (Some old) whole = record { done = []; appended = ap Some (sym (append-nil old)); all = refl }

-- two pieces, one behind the other
pub appends_both : (old middle new : Option (List ℕ)) (done piece : List ℕ) → Appends old middle done → Appends middle new piece
    → Appends old new (done ++ piece)
appends_both None middle new done piece first second = tt
appends_both (Some old) None new done piece first second = absurd (cc)
appends_both (Some old) (Some middle) new done piece first second =
    let middle_is : middle ≡ old ++ done = cc in
    second ∙ ap (λ m. Some (m ++ piece)) middle_is ∙ ap Some (append_assoc old done piece)

-- one piece more is written
pub written_more : (old middle new : Option (List ℕ)) (piece rest whole : List ℕ) → IsWritten old middle (piece ++ rest) whole
    → Appends middle new piece → IsWritten old new rest whole
written_more old middle new piece rest whole h more = record {
  done = h.done ++ piece;
  appended = appends_both old middle new h.done piece h.appended more;
  all = append_assoc h.done piece rest ∙ h.all;
}

-- nothing is left
pub written_all : (old new : Option (List ℕ)) (whole : List ℕ) → IsWritten old new [] whole → Appends old new whole
written_all old new whole h = let all : h.done ≡ whole = sym (append-nil h.done) ∙ h.all in rw (← all) h.appended

whole_part : (done rest : List ℕ) → take (length done) (done ++ rest) ≡ done
whole_part done rest = take-append_seam done rest

-- what is written is a prefix of the whole
pub written_prefix : (old new : Option (List ℕ)) (rest whole : List ℕ) → IsWritten old new rest whole → AppendsFront old new whole
written_prefix None new rest whole h = tt
written_prefix (Some old) new rest whole h =
    (length h.done, h.appended ∙ ap (λ part. Some (old ++ part)) (sym (whole_part h.done rest) ∙ ap (take (length h.done)) h.all))

-- a prefix of the next piece is a prefix of the whole
pub written_cut : (old middle new : Option (List ℕ)) (piece rest whole : List ℕ) → IsWritten old middle (piece ++ rest) whole
    → AppendsFront middle new piece → AppendsFront old new whole
written_cut None middle new piece rest whole h cut = tt
written_cut (Some old) None new piece rest whole h cut = absurd (cc)
written_cut (Some old) (Some middle) new piece rest whole h cut =
    let middle_is : middle ≡ old ++ h.done = cc in
    let within : min cut.0 (length piece) ≤ length piece = omega arith in
    let part : take (length h.done + min cut.0 (length piece)) whole ≡ h.done ++ take cut.0 piece =
    ap (take (length h.done + min cut.0 (length piece))) (sym h.all)
    ∙ take-append-add h.done (piece ++ rest) (min cut.0 (length piece))
    ∙ ap (λ p. h.done ++ p) (take-append-le (min cut.0 (length piece)) piece rest within ∙ take_min cut.0 piece) in (
      length h.done + min cut.0 (length piece),
      cut.1 ∙ ap (λ m. Some (m ++ take cut.0 piece)) middle_is ∙ ap Some (append_assoc old h.done (take cut.0 piece))
          ∙ ap (λ p. Some (old ++ p)) (sym part),
    )

-- nothing is appended
pub appends_none : (old : Option (List ℕ)) → Appends old old []
appends_none None = tt
appends_none (Some old) = ap Some (sym (append-nil old))

-- the first of two pieces is written
pub written_first : (old new : Option (List ℕ)) (first rest : List ℕ) → Appends old new first → IsWritten old new rest (first ++ rest)
written_first old new first rest appended = record { done = first; appended = appended; all = refl }

-- a prefix of the first of two pieces is a prefix of both
pub front_first : (old new : Option (List ℕ)) (first rest : List ℕ) → AppendsFront old new first → AppendsFront old new (first ++ rest)
front_first old new first rest cut = written_cut old old new first rest (first ++ rest) (written_none old (first ++ rest)) cut

-- the first of two pieces is a prefix of both
pub front_between : (old new : Option (List ℕ)) (first rest : List ℕ) → Appends old new first → AppendsFront old new (first ++ rest)
front_between old new first rest appended = written_prefix old new rest (first ++ rest) (written_first old new first rest appended)

-- the first of two pieces, and a prefix of the second, are a prefix of both
pub front_second : (old middle new : Option (List ℕ)) (first second : List ℕ) → Appends old middle first → AppendsFront middle new second
    → AppendsFront old new (first ++ second)
front_second old middle new first second appended cut =
    written_cut old middle new second [] (first ++ second)
    (record { done = first; appended = appended; all = ap (λ rest. first ++ rest) (append-nil second) }) cut

-- what was appended is a prefix of itself
pub front_all : (old new : Option (List ℕ)) (text : List ℕ) → Appends old new text → AppendsFront old new text
front_all old new text appended = written_prefix old new [] text (record { done = text; appended = appended; all = append-nil text })

-- nothing is a prefix of everything
pub front_none : (old : Option (List ℕ)) (text : List ℕ) → AppendsFront old old text
front_none old text = written_prefix old old text text (written_none old text)
