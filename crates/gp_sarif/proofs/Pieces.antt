-- The pieces of a log, one after another.
use Rattle.std.proofs.Common.{◌≡◌, ℕ, List, [], ◌++◌, append_assoc, append-nil, map}
use Rattle.std.specs.Prelude.{codes}
use Rattle.gp_json.specs.Json.{elements_of, elements_text, flag_text, json_text, members_of, members_text, name_text}
use Rattle.gp_json.specs.Strings.{string_text}
use Rattle.gp_sarif.specs.Log.{PiecesAreTheLog, fault_value, format_begun, invocation_begun, is_accepted, log_begun, results_begun, results_ended, tool_value, verdict_value}

-- `n` before a letter is the name of the member behind it; the marks between members are `a` `{`, `z` `}`, `b` `[`, `d` `]` and `q` `,`
all_put : (a z b d q l ns s nv v nr nt t ni ne e nn w f nx r m : List ℕ)
    → (((a ++ (ns ++ s ++ (q ++ nv ++ v ++ [])) ++ q ++ nr ++ (b ++ a)) ++ (nt ++ t ++ []) ++ (q ++ ni ++ (b ++ a) ++ (ne ++ e ++ []) ++ q ++ nn ++ b) ++ w)
    ++ (f ++ (d ++ (z ++ d)) ++ q ++ nx ++ b))
    ++ (r ++ (d ++ m)) ++ (z ++ (d ++ (z ++ l)))
    ≡ (a ++ (ns ++ s ++ (q ++ nv ++ v ++ (q ++ nr ++ (b ++ ((a ++ (nt ++ t ++ (q ++ ni
    ++ (b ++ ((a ++ (ne ++ e ++ (q ++ nn ++ (b ++ (w ++ f) ++ d) ++ [])) ++ z) ++ []) ++ d)
    ++ (q ++ nx ++ (b ++ r ++ d) ++ m))) ++ z) ++ []) ++ d) ++ []))) ++ z) ++ l
all_put a z b d q l ns s nv v nr nt t ni ne e nn w f nx r m = simp (append_assoc, append-nil)

pub pieces_whole : PiecesAreTheLog
unfolding format_begun invocation_begun log_begun results_begun results_ended
pieces_whole properties windows checked faults results counted =
    all_put (codes "{") (codes "}") (codes "[") (codes "]") (codes ",") (codes "\n") (name_text (codes "$schema")) (string_text (codes "https://json.schemastore.org/sarif-2.1.0.json")) (name_text (codes "version")) (string_text (codes "2.1.0"))
    (name_text (codes "runs")) (name_text (codes "tool")) (json_text (tool_value properties)) (name_text (codes "invocations"))
    (name_text (codes "executionSuccessful")) (flag_text (is_accepted checked)) (name_text (codes "toolExecutionNotifications")) (json_text (verdict_value windows checked))
    (elements_text 1 (elements_of (map fault_value faults))) (name_text (codes "results")) (elements_text 0 (elements_of results)) (members_text 3 (members_of counted))
