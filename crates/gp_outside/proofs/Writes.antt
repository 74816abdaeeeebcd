-- A piece that is written by short writes, where the bytes that a writer holds are known.
use Rattle.std.proofs.Common.{◌≡◌, ℕ, ◌-◌, ◌∙◌, List, [], ◌++◌, None, Some, length, take, drop, sym, ap, append_assoc, append-nil, take-append-drop}
use Rattle.std.proofs.KnownBytes.{Appends-trans}
use Rattle.std.proofs.Math.Seq.{take-append_seam}
use Rattle.std.proofs.lemmas.List.{take_rest}
use Rattle.std.specs.Io.KnownBytes.{Appends as Grows, Keeps}
use Rattle.std.specs.Prelude.{Option}
use Rattle.gp_outside.specs.Sinks.{Appends, AppendsFront}

-- what is gone from the rest of the piece was written
pub record IsWriting (old now : Option (List ℕ)) (piece rest : List ℕ) : Type 0 where
  pub done : List ℕ
  pub split : piece ≡ done ++ rest
  pub grown : Grows old now done

split_again : (piece done rest : List ℕ) (n : ℕ) → piece ≡ done ++ rest
    → piece ≡ (done ++ take n rest) ++ take (length rest - n) (drop n rest)
split_again piece done rest n split =
    split ∙ ap (λ l. done ++ l) (sym (take-append-drop n rest)) ∙ sym (append_assoc done (take n rest) (drop n rest))
    ∙ ap (λ l. (done ++ take n rest) ++ l) (sym (take_rest rest n))

-- a write took the first bytes of the rest
pub write_took : (old now next : Option (List ℕ)) (piece rest : List ℕ) (n : ℕ)
    → IsWriting old now piece rest → Grows now next (take n rest)
    → IsWriting old next piece (take (length rest - n) (drop n rest))
write_took old now next piece rest n w took = record {
  done = w.done ++ take n rest;
  split = split_again piece w.done rest n w.split;
  grown = Appends-trans old now next w.done (take n rest) w.grown took;
}

is_prefix : (old now : Option (List ℕ)) (piece done rest : List ℕ)
    → piece ≡ done ++ rest → Grows old now done → AppendsFront old now piece
is_prefix None now piece done rest split grown = tt
is_prefix (Some bytes) None piece done rest split grown = absurd grown
is_prefix (Some bytes) (Some more) piece done rest split grown = (
  length done,
  ap (λ l. Some l) (grown
      ∙ ap (λ l. bytes ++ l) (sym (ap (λ l. take (length done) l) split ∙ take-append_seam done rest))),
)

-- a write failed, so that no byte was written
kept_is_none : (old new : Option (List ℕ)) → Keeps old new → Grows old new []
kept_is_none None new keeps = tt
kept_is_none (Some old) None keeps = absurd keeps
kept_is_none (Some old) (Some new) keeps = keeps ∙ sym (append-nil old)

-- a write took no byte, so that a prefix of the piece is there
pub write_stopped : (old now next : Option (List ℕ)) (piece rest : List ℕ) (n : ℕ)
    → IsWriting old now piece rest → Grows now next (take n rest) → AppendsFront old next piece
write_stopped old now next piece rest n w took =
    let more = write_took old now next piece rest n w took in
    is_prefix old next piece more.done (take (length rest - n) (drop n rest)) more.split more.grown

-- a write failed, so that a prefix of the piece is there
pub write_failed : (old now next : Option (List ℕ)) (piece rest : List ℕ)
    → IsWriting old now piece rest → Keeps now next → AppendsFront old next piece
write_failed old now next piece rest w keeps = write_stopped old now next piece rest 0 w (kept_is_none now next keeps)
