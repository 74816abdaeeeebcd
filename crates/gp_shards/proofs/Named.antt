-- The files of a part have different names.
use Rattle.std.proofs.Common.{◌≡◌, ◌≢◌, refl, sym, ◌∙◌, ℕ, ◌+◌, ◌≤◌, ◌^◌, List, [], ◌∷◌, ◌++◌, map, length, arith}
use Rattle.std.specs.Prelude.{All}
use Rattle.std.proofs.lemmas.List.Elements.{All-cons, All-nil}
use Rattle.std.proofs.lemmas.List.Kept.{AllPairs-cons}
use Rattle.gp_cut.specs.Cut.{cut_manifest, cut_trace}
use Rattle.gp_cut_files.specs.CutFiles.{manifest_file, trace_file}
use Rattle.gp_files.specs.MadeFileForm.{MadeFileForm}
use Rattle.gp_files.specs.Naming.{DifferInName, IsNumbered}
use Rattle.gp_shard.specs.declared.shard.Shard.{Shard}
use Rattle.gp_shard.specs.Shard.{shard_text}
use Rattle.gp_trace.specs.Trace.{LocalTraceForm}
use Rattle.gp_window.specs.declared.file_name.FileName.{FileName}
use Rattle.gp_window.specs.declared.file_name.FileName.TheVariants as file
use Rattle.gp_window.specs.RecordingForm.{AreNumbered, IsRecording, RecordingForm}
use Rattle.gp_shards.specs.Cutting.{part_files}

-- none of the files has this name
abbrev IsFree : FileName → List MadeFileForm → Type 0
IsFree name files = All (λ (made : MadeFileForm). name ≢ made.name) files

-- the names of the files have numbers below 2 ^ 64
abbrev Numbered : List MadeFileForm → Type 0
Numbered files = All (λ (made : MadeFileForm). IsNumbered made.name) files

abbrev Differ : MadeFileForm → MadeFileForm → Type 0
Differ one other = one.name ≢ other.name

same_thread : (one other : ℕ) → file.Trace one ≡ file.Trace other → one ≡ other
same_thread one other same = cc

module _ (before count epochs : ℕ) (last next : MadeFileForm) (is_last : last.name ≡ file.Properties) (is_next : next.name ≡ file.Shard) where
  -- the files of these traces, and the two behind them
  abbrev files_of : List LocalTraceForm → List MadeFileForm
  files_of traces = map trace_file (map (cut_trace before count) traces) ++ last ∷ next ∷ []

  free_among : (name : FileName) (first : ℕ) (traces : List LocalTraceForm) → AreNumbered epochs first traces → ((thread : ℕ) → first ≤ thread → name ≢ file.Trace thread)
      → name ≢ file.Properties → name ≢ file.Shard → IsFree name (files_of traces)
  free_among name first [] numbered threads properties shard =
      All-cons (λ (made : MadeFileForm). name ≢ made.name) last (next ∷ []) (λ same. properties (same ∙ is_last))
      (All-cons (λ (made : MadeFileForm). name ≢ made.name) next [] (λ same. shard (same ∙ is_next)) (All-nil (λ (made : MadeFileForm). name ≢ made.name)))
  free_among name first (trace ∷ traces) numbered threads properties shard =
      All-cons (λ (made : MadeFileForm). name ≢ made.name) (trace_file (cut_trace before count trace)) (files_of traces)
      (threads trace.thread (omega (arith, numbered.0)))
      (free_among name (first + 1) traces numbered.2 (λ thread from. threads thread (omega (arith, from))) properties shard)

  files_differ : (first : ℕ) (traces : List LocalTraceForm) → AreNumbered epochs first traces → DifferInName (files_of traces)
  files_differ first [] numbered =
      AllPairs-cons Differ last (next ∷ [])
      (All-cons (Differ last) next [] (λ same. let clash : file.Properties ≡ file.Shard = sym is_last ∙ same ∙ is_next in absurd (cc)) (All-nil (Differ last)))
      (AllPairs-cons Differ next [] (All-nil (Differ next)) (λ i j d earlier within. absurd (omega (arith, within))))
  files_differ first (trace ∷ traces) numbered =
      AllPairs-cons Differ (trace_file (cut_trace before count trace)) (files_of traces)
      (free_among (file.Trace trace.thread) (first + 1) traces numbered.2
      (λ thread from same. absurd (omega (arith, numbered.0, from, same_thread trace.thread thread same))) (λ same. absurd (cc)) (λ same. absurd (cc)))
      (files_differ (first + 1) traces numbered.2)

  files_numbered : (first : ℕ) (traces : List LocalTraceForm) → AreNumbered epochs first traces → first + length traces ≤ 2 ^ 64 → IsNumbered last.name → IsNumbered next.name
      → Numbered (files_of traces)
  files_numbered first [] numbered few one other =
      All-cons (λ (made : MadeFileForm). IsNumbered made.name) last (next ∷ []) one
      (All-cons (λ (made : MadeFileForm). IsNumbered made.name) next [] other (All-nil (λ (made : MadeFileForm). IsNumbered made.name)))
  files_numbered first (trace ∷ traces) numbered few one other =
      All-cons (λ (made : MadeFileForm). IsNumbered made.name) (trace_file (cut_trace before count trace)) (files_of traces) (omega (arith, numbered.0, few))
      (files_numbered (first + 1) traces numbered.2 (omega (arith, few)) one other)

module _ (r : RecordingForm) (rules : IsRecording r) (properties : List ℕ) (shard : Shard) where
  abbrev last : MadeFileForm
  last = record { name = file.Properties; text = properties }

  abbrev next : MadeFileForm
  next = record { name = file.Shard; text = shard_text shard }

  abbrev rest : List MadeFileForm
  rest = map trace_file (map (cut_trace shard.before shard.count) r.traces) ++ last ∷ next ∷ []

  pub part_files_differ : DifferInName (part_files r properties shard)
  part_files_differ =
      AllPairs-cons Differ (manifest_file (cut_manifest shard.before shard.count r)) rest
      (free_among shard.before shard.count r.manifest.epochs last next refl refl file.Manifest 1 r.traces rules.numbered (λ thread from same. absurd (cc)) (λ same. absurd (cc)) (λ same. absurd (cc)))
      (files_differ shard.before shard.count r.manifest.epochs last next refl refl 1 r.traces rules.numbered)

  pub part_files_numbered : Numbered (part_files r properties shard)
  part_files_numbered =
      All-cons (λ (made : MadeFileForm). IsNumbered made.name) (manifest_file (cut_manifest shard.before shard.count r)) rest tt
      (files_numbered shard.before shard.count r.manifest.epochs last next refl refl 1 r.traces rules.numbered (omega (arith, rules.count, rules.manifest.threads.1)) tt tt)
