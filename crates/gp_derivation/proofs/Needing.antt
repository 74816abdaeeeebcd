-- What is needed of some candidates is what is needed of one half beside the other, and then of the other.
use Rattle.std.proofs.Common.{◌≡◌, ◌≢◌, ℕ, ◌+◌, ◌-◌, ◌<◌, ◌≤◌, ◌==◌, not, true, cond, List, [], ◌∷◌, ◌++◌, length, get_or, take, drop, All, Contains, inl, inr, ap, sym, ◌∙◌, subst, refl, arith, append_assoc}
use Rattle.std.proofs.lemmas.Bool.{false≢true}
use Rattle.std.proofs.lemmas.List.{append-nil, drop_all, length-append, length-drop, take_all}
use Rattle.std.proofs.Math.Seq.{drop-append_seam, take-append_seam}
use Rattle.std.proofs.lemmas.List.Elements.{All-contains, All-filter, All-contains_itself, All-nil, All-tail, Contains-append_cases, Contains-append_left, Contains-append_right}
use Rattle.std.proofs.lemmas.List.Sums.{sum_by-append}
use Rattle.std.proofs.lemmas.Grind.{flat_map-append}
use Rattle.gp_base.specs.ListLaws.{all_from_contains, first_or_rest, nothing_in}
use Rattle.gp_base.specs.FilterLaws.{contains_from_filter}
use Rattle.gp_base.specs.CountLaws.{once_from_rising, rising_rest}
use Rattle.gp_clause.specs.declared.edge.Edge.{Edge}
use Rattle.gp_clause.specs.declared.kind.Kind.{Kind}
use Rattle.gp_clause.specs.declared.lit.Lit.{Lit}
use Rattle.gp_clause.specs.Clause.{IsRising, NamesBelow, NamesOnce, occurrences}
use Rattle.gp_clause.specs.Lit.{lit_eq}
use Rattle.gp_clause.specs.LitLaws.{lit_eq_decides}
use Rattle.gp_certificate.specs.Bench.{BenchForm}
use Rattle.gp_certificate.specs.ClauseList.{joined}
use Rattle.gp_certificate.specs.Named.{NamesOnceWith}
use Rattle.gp_certificate.specs.PassingLaws.{more_pass}
use Rattle.gp_certificate.specs.Step.{Passes}
use Rattle.gp_derivation.specs.Needed.{AreNeeded, HasEnough, HasKept}
use Rattle.gp_derivation.specs.Tight.{left_out}
use Rattle.gp_derivation.proofs.LeavingOut.{left_out_among}

-- a clause with the same literals passes
passes_same : (edges : List Edge) (kinds : List Kind) (clauses : List (List Lit)) (lits other : List Lit) → ((x : Lit) → Contains lits x → Contains other x) → ((x : Lit) → Contains other x → Contains lits x)
    → Passes edges kinds clauses lits → Passes edges kinds clauses other
passes_same edges kinds clauses lits other to back passes =
    more_pass edges kinds clauses clauses lits other (All-contains_itself clauses) (all_from_contains (Contains other) lits to)
    (all_from_contains (λ (lit : Lit). lit.variable < length kinds) other (λ x is. All-contains (λ (lit : Lit). lit.variable < length kinds) lits x passes.in_range (back x is))) passes

-- the last two of three lists change places
swapped : (a b c : List Lit) (x : Lit) → Contains ((a ++ b) ++ c) x → Contains ((a ++ c) ++ b) x
swapped a b c x is = elim (Contains-append_cases (a ++ b) c x is) [
  | inl early ↦ elim (Contains-append_cases a b x early) [
    | inl first ↦ Contains-append_left (a ++ c) b x (Contains-append_left a c x first)
    | inr second ↦ Contains-append_right (a ++ c) b x second
  ]
  | inr last ↦ Contains-append_left (a ++ c) b x (Contains-append_right a c x last)
]

passes_swapped : (edges : List Edge) (kinds : List Kind) (clauses : List (List Lit)) (a b c : List Lit) → Passes edges kinds clauses ((a ++ b) ++ c) → Passes edges kinds clauses ((a ++ c) ++ b)
passes_swapped edges kinds clauses a b c = passes_same edges kinds clauses ((a ++ b) ++ c) ((a ++ c) ++ b) (swapped a b c) (swapped a c b)

-- how often a variable stands in two lists
both_count : (variable : ℕ) (a b : List Lit) → occurrences variable (a ++ b) ≡ occurrences variable a + occurrences variable b
both_count variable a b = sum_by-append (λ (lit : Lit). cond (lit.variable == variable) 1 0) a b

-- fewer literals beside some more name no variable twice
once_fewer : (a b c fewer : List Lit) → ((variable : ℕ) → occurrences variable fewer ≤ occurrences variable b) → NamesOnce (a ++ (b ++ c)) → NamesOnce ((a ++ fewer) ++ c)
once_fewer a b c fewer less once variable =
    omega (arith, once variable, less variable, both_count variable a (b ++ c), both_count variable b c, both_count variable (a ++ fewer) c, both_count variable a fewer)

once_front : (a b c fewer : List Lit) → ((variable : ℕ) → occurrences variable fewer ≤ occurrences variable b) → NamesOnce (a ++ (b ++ c)) → NamesOnce (a ++ fewer)
once_front a b c fewer less once variable =
    omega (arith, once_fewer a b c fewer less once variable, both_count variable (a ++ fewer) c)

once_back : (a b c : List Lit) → NamesOnce (a ++ (b ++ c)) → NamesOnce (a ++ c)
once_back a b c once variable =
    omega (arith, once variable, both_count variable a (b ++ c), both_count variable b c, both_count variable a c)

once_swapped : (a b c : List Lit) → NamesOnce (a ++ (b ++ c)) → NamesOnce ((a ++ c) ++ b)
once_swapped a b c once variable =
    omega (arith, once variable, both_count variable a (b ++ c), both_count variable b c, both_count variable (a ++ c) b, both_count variable a c)

-- nothing is needed where what is assumed passes alone
pub needed_none : (edges : List Edge) (kinds : List Kind) (clauses : List (List Lit)) (assumed candidates : List Lit) → Passes edges kinds clauses assumed → AreNeeded edges kinds clauses assumed candidates []
needed_none edges kinds clauses assumed candidates passes = record {
  some = All-nil (Contains candidates);
  fewer = λ variable. omega arith;
  short = omega arith;
  passes = subst (Passes edges kinds clauses) (sym (append-nil assumed)) passes;
  needed = λ lit is shorter. nothing_in lit is;
}

-- without its last literal a clause is what stands before it
others_assumed : (assumed : List Lit) (lit other : Lit) → lit ≡ other → All (Contains assumed) (left_out other (assumed ++ lit ∷ []))
others_assumed assumed lit other same = all_from_contains (Contains assumed) (left_out other (assumed ++ lit ∷ [])) each
  where
    each : (x : Lit) → Contains (left_out other (assumed ++ lit ∷ [])) x → Contains assumed x
    each x is = elim (Contains-append_cases assumed (lit ∷ []) x kept.0) [
      | inl early ↦ early
      | inr last ↦ elim (first_or_rest lit [] x last) [
        | inl one ↦ absurd (false≢true (sym (ap not ((lit_eq_decides x other).1 (sym one ∙ same))) ∙ kept.1))
        | inr none ↦ absurd (nothing_in x none)
      ]
    ]
      where
        kept : Contains (assumed ++ lit ∷ []) x × (not (lit_eq x other) ≡ true)
        kept = contains_from_filter (λ y. not (lit_eq y other)) (assumed ++ lit ∷ []) x is

-- a single candidate is needed where what is assumed does not pass alone
pub needed_one : (edges : List Edge) (kinds : List Kind) (clauses : List (List Lit)) (assumed : List Lit) (lit : Lit) → (Passes edges kinds clauses assumed → ⊥) → Passes edges kinds clauses (assumed ++ lit ∷ [])
    → AreNeeded edges kinds clauses assumed (lit ∷ []) (lit ∷ [])
needed_one edges kinds clauses assumed lit fails passes = record {
  some = All-contains_itself (lit ∷ []);
  fewer = λ variable. omega arith;
  short = omega arith;
  passes = passes;
  needed = λ other is shorter. elim (first_or_rest lit [] other is) [
    | inl same ↦ fails (more_pass edges kinds clauses clauses (left_out other (assumed ++ lit ∷ [])) assumed (All-contains_itself clauses) (others_assumed assumed lit other same) below shorter)
    | inr none ↦ nothing_in other none
  ];
}
  where
    below : NamesBelow (length kinds) assumed
    below = all_from_contains (λ (l : Lit). l.variable < length kinds) assumed (λ x is. All-contains (λ (l : Lit). l.variable < length kinds) (assumed ++ lit ∷ []) x passes.in_range (Contains-append_left assumed (lit ∷ []) x is))

-- what is needed of the first half beside the second, and of the second beside that, is needed of both
pub needed_both : (edges : List Edge) (kinds : List Kind) (clauses : List (List Lit)) (assumed first second one two : List Lit) → AreNeeded edges kinds clauses (assumed ++ second) first one
    → AreNeeded edges kinds clauses (assumed ++ one) second two → AreNeeded edges kinds clauses assumed (first ++ second) (one ++ two)
needed_both edges kinds clauses assumed first second one two early late = record {
  some = all_from_contains (Contains (first ++ second)) (one ++ two) (λ x is. elim (Contains-append_cases one two x is) [
    | inl i ↦ Contains-append_left first second x (All-contains (Contains first) one x early.some i)
    | inr i ↦ Contains-append_right first second x (All-contains (Contains second) two x late.some i)
  ]);
  fewer = λ variable. omega (arith, early.fewer variable, late.fewer variable, both_count variable first second, both_count variable one two);
  short = omega (arith, early.short, late.short, length-append first second, length-append one two);
  passes = subst (Passes edges kinds clauses) (append_assoc assumed one two) late.passes;
  needed = λ lit is shorter. elim (Contains-append_cases one two lit is) [
    | inl i ↦ early.needed lit i (more_pass edges kinds clauses clauses (left_out lit (assumed ++ (one ++ two))) (left_out lit whole) (All-contains_itself clauses) (left_out_among lit whole (assumed ++ (one ++ two)) among)
        (All-filter (λ other. not (lit_eq other lit)) (λ (l : Lit). l.variable < length kinds) whole early.passes.in_range) shorter)
    | inr i ↦ late.needed lit i (subst (λ (ls : List Lit). Passes edges kinds clauses (left_out lit ls)) (sym (append_assoc assumed one two)) shorter)
  ];
}
  where
    whole : List Lit
    whole = (assumed ++ second) ++ one

    among : All (Contains whole) (assumed ++ (one ++ two))
    among = all_from_contains (Contains whole) (assumed ++ (one ++ two)) (λ x is. elim (Contains-append_cases assumed (one ++ two) x is) [
      | inl i ↦ Contains-append_left (assumed ++ second) one x (Contains-append_left assumed second x i)
      | inr more ↦ elim (Contains-append_cases one two x more) [
        | inl i ↦ Contains-append_right (assumed ++ second) one x i
        | inr i ↦ Contains-append_left (assumed ++ second) one x (Contains-append_right assumed second x (All-contains (Contains second) two x late.some i))
      ]
    ])

-- one level more is assumed after the others
joined_more : (assumed : List (List Lit)) (lits : List Lit) → joined (assumed ++ lits ∷ []) ≡ joined assumed ++ lits
joined_more assumed lits = flat_map-append (λ (ls : List Lit). ls) assumed (lits ∷ []) ∙ ap (λ (ls : List Lit). joined assumed ++ ls) (append-nil lits)

some_level : (assumed : List (List Lit)) (lits : List Lit) → assumed ++ lits ∷ [] ≢ []
some_level [] lits same = cc
some_level (first ∷ assumed) lits same = cc

-- a level that is taken back leaves what was assumed before
pub taken_back : (old now same new : BenchForm) (lits : List Lit) → now ≡ record old { assumed = old.assumed ++ lits ∷ [] } → same ≡ now → new ≡ record same { assumed = take (length same.assumed - 1) same.assumed } → new ≡ old
taken_back old now same new lits assumes is retracts =
    let P : BenchForm → BenchForm = λ b. record b { assumed = take (length b.assumed - 1) b.assumed } in
    let Q : List (List Lit) → BenchForm = λ ls. record old { assumed = ls } in
    let count : length (old.assumed ++ lits ∷ []) - 1 ≡ length old.assumed = omega (arith, length-append old.assumed (lits ∷ [])) in
    retracts ∙ ap P (is ∙ assumes) ∙ ap Q (ap (λ (n : ℕ). take n (old.assumed ++ lits ∷ [])) count ∙ take-append_seam old.assumed (lits ∷ []))

-- a level that may be assumed
pub record MayAssume (bench : BenchForm) (lits : List Lit) : Type 0 where
  pub few : length bench.assumed ≤ length bench.kinds
  pub within : NamesBelow (length bench.kinds) lits
  pub once : NamesOnceWith bench.assumed lits

-- literals of a clause that passes are in range
below_back : (edges : List Edge) (kinds : List Kind) (clauses : List (List Lit)) (a b : List Lit) → Passes edges kinds clauses (a ++ b) → NamesBelow (length kinds) b
below_back edges kinds clauses a b passes =
    all_from_contains (λ (l : Lit). l.variable < length kinds) b (λ x is. All-contains (λ (l : Lit). l.variable < length kinds) (a ++ b) x passes.in_range (Contains-append_right a b x is))

-- the second half may be assumed
pub may_second : (bench : BenchForm) (candidates first second : List Lit) → candidates ≡ first ++ second → 1 ≤ length candidates → HasEnough bench candidates → MayAssume bench second
may_second bench candidates first second is some enough = record {
  few = omega (arith, enough.few, some);
  within = below_back bench.edges bench.kinds bench.loaded (joined bench.assumed ++ first) second
      (subst (Passes bench.edges bench.kinds bench.loaded) (ap (λ (ls : List Lit). joined bench.assumed ++ ls) is ∙ sym (append_assoc (joined bench.assumed) first second)) enough.passes);
  once = once_back (joined bench.assumed) first second (subst (λ (ls : List Lit). NamesOnce (joined bench.assumed ++ ls)) is enough.once);
}

-- beside the second half there is enough with the first
pub enough_first : (bench now : BenchForm) (candidates first second : List Lit) → candidates ≡ first ++ second → now ≡ record bench { assumed = bench.assumed ++ second ∷ [] } → length first < length candidates
    → HasEnough bench candidates → HasEnough now first
enough_first bench now candidates first second is assumes shorter enough = subst (λ (b : BenchForm). HasEnough b first) (sym assumes) (record {
  begun = some_level bench.assumed second;
  few = omega (arith, enough.few, shorter, length-append bench.assumed (second ∷ []));
  once = subst (λ (ls : List Lit). NamesOnce (ls ++ first)) (sym (joined_more bench.assumed second)) (once_swapped (joined bench.assumed) first second (subst (λ (ls : List Lit). NamesOnce (joined bench.assumed ++ ls)) is enough.once));
  passes = subst (λ (ls : List Lit). Passes bench.edges bench.kinds bench.loaded (ls ++ first)) (sym (joined_more bench.assumed second))
      (passes_swapped bench.edges bench.kinds bench.loaded (joined bench.assumed) first second
      (subst (Passes bench.edges bench.kinds bench.loaded) (ap (λ (ls : List Lit). joined bench.assumed ++ ls) is ∙ sym (append_assoc (joined bench.assumed) first second)) enough.passes));
})

-- what was kept of the first half beside the second
early_needed : (bench now : BenchForm) (first second old mid : List Lit) → now ≡ record bench { assumed = bench.assumed ++ second ∷ [] } → HasKept now first old mid
    → AreNeeded bench.edges bench.kinds bench.loaded (joined bench.assumed ++ second) first (drop (length old) mid)
early_needed bench now first second old mid assumes kept =
    subst (λ (ls : List Lit). AreNeeded bench.edges bench.kinds bench.loaded ls first (drop (length old) mid)) (joined_more bench.assumed second)
    (subst (λ (b : BenchForm). HasKept b first old mid) assumes kept).needed

-- and may be assumed
pub may_kept : (bench now : BenchForm) (candidates first second old mid : List Lit) → candidates ≡ first ++ second → 1 ≤ length candidates → now ≡ record bench { assumed = bench.assumed ++ second ∷ [] }
    → HasEnough bench candidates → HasKept now first old mid → MayAssume bench (drop (length old) mid)
may_kept bench now candidates first second old mid is some assumes enough kept = record {
  few = omega (arith, enough.few, some);
  within = below_back bench.edges bench.kinds bench.loaded (joined bench.assumed ++ second) (drop (length old) mid) (early_needed bench now first second old mid assumes kept).passes;
  once = once_front (joined bench.assumed) first second (drop (length old) mid) (early_needed bench now first second old mid assumes kept).fewer
      (subst (λ (ls : List Lit). NamesOnce (joined bench.assumed ++ ls)) is enough.once);
}

-- beside it there is enough with the second half
pub enough_second : (bench now then : BenchForm) (candidates first second old mid : List Lit) → candidates ≡ first ++ second → now ≡ record bench { assumed = bench.assumed ++ second ∷ [] }
    → then ≡ record bench { assumed = bench.assumed ++ drop (length old) mid ∷ [] } → length second < length candidates → HasEnough bench candidates → HasKept now first old mid → HasEnough then second
enough_second bench now then candidates first second old mid is assumes next shorter enough kept = subst (λ (b : BenchForm). HasEnough b second) (sym next) (record {
  begun = some_level bench.assumed one;
  few = omega (arith, enough.few, shorter, length-append bench.assumed (one ∷ []));
  once = subst (λ (ls : List Lit). NamesOnce (ls ++ second)) (sym (joined_more bench.assumed one))
      (once_fewer (joined bench.assumed) first second one early.fewer (subst (λ (ls : List Lit). NamesOnce (joined bench.assumed ++ ls)) is enough.once));
  passes = subst (λ (ls : List Lit). Passes bench.edges bench.kinds bench.loaded (ls ++ second)) (sym (joined_more bench.assumed one))
      (passes_swapped bench.edges bench.kinds bench.loaded (joined bench.assumed) second one early.passes);
})
  where
    one : List Lit
    one = drop (length old) mid

    early : AreNeeded bench.edges bench.kinds bench.loaded (joined bench.assumed ++ second) first one
    early = early_needed bench now first second old mid assumes kept

-- what was kept of candidates is no more than they are
pub kept_few : (bench : BenchForm) (candidates old new : List Lit) → HasKept bench candidates old new → length new ≤ length old + length candidates
kept_few bench candidates old new kept =
    omega (arith, kept.needed.short, ap (λ (ls : List Lit). length ls) kept.more, length-append old (drop (length old) new))

-- the part of a slice from a place on is what is left there
pub part : (whole mid old : List Lit) (from : ℕ) → whole ≡ mid → from ≡ length old → take (length whole - from) (drop from whole) ≡ drop (length old) mid
part whole mid old from same is =
    take_all (length whole - from) (drop from whole) (omega (arith, length-drop from whole)) ∙ ap (λ (ls : List Lit). drop from ls) same ∙ ap (λ (n : ℕ). drop n mid) is

-- what may be assumed on a bench may be assumed on the same bench again, and gives the same
pub may_again : (bench again : BenchForm) (lits same : List Lit) → again ≡ bench → lits ≡ same → MayAssume bench same → MayAssume again lits
may_again bench again lits same is same_lits may = subst (λ (b : BenchForm). MayAssume b lits) (sym is) (subst (MayAssume bench) (sym same_lits) may)

pub assumes_again : (bench again now : BenchForm) (lits same : List Lit) → again ≡ bench → lits ≡ same → now ≡ record again { assumed = again.assumed ++ lits ∷ [] } → now ≡ record bench { assumed = bench.assumed ++ same ∷ [] }
assumes_again bench again now lits same is same_lits assumes =
    let P : BenchForm → BenchForm = λ b. record b { assumed = b.assumed ++ lits ∷ [] } in
    let Q : List Lit → BenchForm = λ ls. record bench { assumed = bench.assumed ++ ls ∷ [] } in
    assumes ∙ ap P is ∙ ap Q same_lits

-- what was kept twice after what was kept before
kept_twice : (old mid new : List Lit) → mid ≡ old ++ drop (length old) mid → new ≡ mid ++ drop (length mid) new → new ≡ old ++ (drop (length old) mid ++ drop (length mid) new)
kept_twice old mid new one two = two ∙ ap (λ (ls : List Lit). ls ++ drop (length mid) new) one ∙ append_assoc old (drop (length old) mid) (drop (length mid) new)

dropped_old : (old more new : List Lit) → new ≡ old ++ more → drop (length old) new ≡ more
dropped_old old more new is = ap (λ (ls : List Lit). drop (length old) ls) is ∙ drop-append_seam old more

-- so much is kept of all candidates
pub kept_both : (bench now then : BenchForm) (candidates first second old mid new : List Lit) → candidates ≡ first ++ second → now ≡ record bench { assumed = bench.assumed ++ second ∷ [] }
    → then ≡ record bench { assumed = bench.assumed ++ drop (length old) mid ∷ [] } → HasKept now first old mid → HasKept then second mid new → HasKept bench candidates old new
kept_both bench now then candidates first second old mid new is assumes next early late = record {
  more = all ∙ ap (λ (ls : List Lit). old ++ ls) (sym parts);
  needed = subst (λ (ls : List Lit). AreNeeded bench.edges bench.kinds bench.loaded (joined bench.assumed) candidates ls) (sym parts)
      (subst (λ (ls : List Lit). AreNeeded bench.edges bench.kinds bench.loaded (joined bench.assumed) ls (one ++ two)) (sym is)
      (needed_both bench.edges bench.kinds bench.loaded (joined bench.assumed) first second one two (early_needed bench now first second old mid assumes early) (early_needed bench then second one mid new next late)));
}
  where
    one : List Lit
    one = drop (length old) mid

    two : List Lit
    two = drop (length mid) new

    all : new ≡ old ++ (one ++ two)
    all = kept_twice old mid new early.more late.more

    parts : drop (length old) new ≡ one ++ two
    parts = dropped_old old (one ++ two) new all

-- nothing was kept
pub kept_none : (bench : BenchForm) (candidates old : List Lit) → Passes bench.edges bench.kinds bench.loaded (joined bench.assumed) → HasKept bench candidates old old
kept_none bench candidates old passes = record {
  more = sym (append-nil old) ∙ ap (λ (ls : List Lit). old ++ ls) (sym nothing);
  needed = subst (λ (ls : List Lit). AreNeeded bench.edges bench.kinds bench.loaded (joined bench.assumed) candidates ls) (sym nothing)
      (needed_none bench.edges bench.kinds bench.loaded (joined bench.assumed) candidates passes);
}
  where
    nothing : drop (length old) old ≡ []
    nothing = drop_all (length old) old (omega arith)

-- a list of one element
pub single : (lits : List Lit) (d : Lit) → length lits ≡ 1 → lits ≡ get_or lits 0 d ∷ []
single [] d one = absurd (omega (arith, one))
single (first ∷ []) d one = refl
single (first ∷ next ∷ rest) d one = absurd (omega (arith, one))

-- a single candidate was kept
pub kept_one : (bench : BenchForm) (candidates old new : List Lit) (only : Lit) → candidates ≡ only ∷ [] → new ≡ old ++ only ∷ [] → (Passes bench.edges bench.kinds bench.loaded (joined bench.assumed) → ⊥)
    → HasEnough bench candidates → HasKept bench candidates old new
kept_one bench candidates old new only is pushed fails enough = record {
  more = pushed ∙ ap (λ (ls : List Lit). old ++ ls) (sym last);
  needed = subst (λ (ls : List Lit). AreNeeded bench.edges bench.kinds bench.loaded (joined bench.assumed) candidates ls) (sym last)
      (subst (λ (ls : List Lit). AreNeeded bench.edges bench.kinds bench.loaded (joined bench.assumed) ls (only ∷ [])) (sym is)
      (needed_one bench.edges bench.kinds bench.loaded (joined bench.assumed) only fails (subst (λ (ls : List Lit). Passes bench.edges bench.kinds bench.loaded (joined bench.assumed ++ ls)) is enough.passes)));
}
  where
    last : drop (length old) new ≡ only ∷ []
    last = dropped_old old (only ∷ []) new pushed

-- there are candidates where what is assumed does not pass alone
pub some_candidates : (bench : BenchForm) (candidates : List Lit) → (Passes bench.edges bench.kinds bench.loaded (joined bench.assumed) → ⊥) → HasEnough bench candidates → 1 ≤ length candidates
some_candidates bench [] fails enough = absurd (fails (subst (Passes bench.edges bench.kinds bench.loaded) (append-nil (joined bench.assumed)) enough.passes))
some_candidates bench (first ∷ rest) fails enough = omega arith

-- literals whose variables rise are no more than the variables
rising_few : (first : Lit) (rest : List Lit) (n : ℕ) → IsRising (first ∷ rest) → NamesBelow n (first ∷ rest) → length rest + first.variable < n
rising_few first [] n rising below = omega (arith, below 0 first (omega arith))
rising_few first (next ∷ rest) n rising below =
    let rises : first.variable < next.variable = rising 0 first (omega arith) in
    omega (arith, rises, rising_few next rest n (rising_rest (λ (lit : Lit). lit.variable) first (next ∷ rest) rising) (All-tail (λ (lit : Lit). lit.variable < n) first (next ∷ rest) below))

few_lits : (lits : List Lit) (n : ℕ) → IsRising lits → NamesBelow n lits → length lits ≤ n
few_lits [] n rising below = omega arith
few_lits (first ∷ rest) n rising below = omega (arith, rising_few first rest n rising below)

-- with an empty level there is enough with a clause that passes
pub enough_at_first : (bench now : BenchForm) (clause : List Lit) → bench.assumed ≡ [] → now ≡ record bench { assumed = bench.assumed ++ [] ∷ [] } → IsRising clause
    → Passes bench.edges bench.kinds bench.loaded clause → HasEnough now clause
enough_at_first bench now clause nothing assumes rising passes =
    let Q : List (List Lit) → BenchForm = λ ls. record bench { assumed = ls ++ [] ∷ [] } in
    subst (λ (b : BenchForm). HasEnough b clause) (sym (assumes ∙ ap Q nothing)) (record {
      begun = some_level [] [];
      few = omega (arith, few_lits clause (length bench.kinds) rising passes.in_range);
      once = λ variable. once_from_rising (λ (lit : Lit). lit.variable) variable clause rising;
      passes = passes;
    })

-- what is kept of a clause at first is tight
pub kept_at_first : (bench now : BenchForm) (clause old new : List Lit) → bench.assumed ≡ [] → now ≡ record bench { assumed = bench.assumed ++ [] ∷ [] } → old ≡ [] → HasKept now clause old new
    → AreNeeded bench.edges bench.kinds bench.loaded [] clause new
kept_at_first bench now clause old new nothing assumes empty kept =
    let Q : List (List Lit) → BenchForm = λ ls. record bench { assumed = ls ++ [] ∷ [] } in
    (subst (λ (b : BenchForm). HasKept b clause [] new) (assumes ∙ ap Q nothing) (subst (λ (ls : List Lit). HasKept now clause ls new) empty kept)).needed

-- and names no variable twice
pub kept_once : (edges : List Edge) (kinds : List Kind) (clauses : List (List Lit)) (clause new : List Lit) → IsRising clause → AreNeeded edges kinds clauses [] clause new → NamesOnce new
kept_once edges kinds clauses clause new rising kept variable = omega (arith, kept.fewer variable, once_from_rising (λ (lit : Lit). lit.variable) variable clause rising)
