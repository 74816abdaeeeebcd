use Rattle.std.proofs.Common.{◌≡◌, sym, ◌∙◌, ap, subst, ℕ, Bool, List, [], ◌∷◌, ◌++◌, length, arith}
use Rattle.gp_clause.specs.declared.lit.Lit.{Lit}
use Rattle.gp_clause.specs.Lit.{opposite}
use Rattle.gp_sat.specs.declared.analysis.Stop.{Stop}
use Rattle.gp_sat.specs.State.{SolverForm, clause_at}
use Rattle.gp_sat.specs.Standing.{Each}
use Rattle.gp_sat.specs.Sound.{IsSound, true_lit}
use Rattle.gp_sat.specs.Marking.{Marks, StopsAt, GoesOn, FollowsReason}
use Rattle.gp_sat.specs.Queueing.{IsAssigned, IsMarkedOrBefore}
use Rattle.gp_sat.specs.Walking.{IsWalked, IsSearched}
use Rattle.gp_sat.proofs.Marked.{read_place}
use Rattle.gp_sat.proofs.Leading.{searched_stops, searched_follows, lowest_marked}
use Rattle.gp_sat.proofs.Visiting.{Stands, IsFollowing, following, marked_lit, visit_stops, visit_follows}
use Rattle.gp_sat.proofs.kernel.Kernel.visit.Goals as goal

pub lits-lits-requires : goal.lits-lits-requires
lits-lits-requires c =
    let s : SolverForm = c.args.self.now in
    let sound : IsSound s = subst (λ (t : SolverForm). IsSound t) c.self.view_is c.self.invariant.sound in
    let f : IsFollowing s c.args.stop c.args.marking.now.marks.items c.args.place c.in-Some.number = following s c.args.stop c.args.marking.now.marks.items c.args.place c.in-Some.number sound c.requires.marked
    (subst (λ (ms : List Bool). FollowsReason s c.args.stop ms c.args.place c.in-Some.number) c.as_slice.ensures.value c.in-Some.ensures) in
    omega (arith, f.given, ap (λ (t : SolverForm). length t.clauses) c.self.view_is)

pub mark_all-requires-clause-assigned : goal.mark_all-requires-clause-assigned
mark_all-requires-clause-assigned c =
    let s : SolverForm = c.args.self.now in
    let sound : IsSound s = subst (λ (t : SolverForm). IsSound t) c.self.view_is c.self.invariant.sound in
    let f : IsFollowing s c.args.stop c.args.marking.now.marks.items c.args.place c.in-Some.number = following s c.args.stop c.args.marking.now.marks.items c.args.place c.in-Some.number sound c.requires.marked
    (subst (λ (ms : List Bool). FollowsReason s c.args.stop ms c.args.place c.in-Some.number) c.as_slice.ensures.value c.in-Some.ensures) in
    let clause : c.lits-lits.result.now ≡ clause_at s.clauses c.in-Some.number = c.lits-lits.ensures.lits ∙ ap (λ (t : SolverForm). clause_at t.clauses c.in-Some.number) c.self.view_is in
    subst (λ (xs : List Lit). Each (IsAssigned s) xs) (sym clause) f.assigned_all

pub returns-in_ok-push-in-None-clause-walked : goal.returns-in_ok-push-in-None-clause-walked
returns-in_ok-push-in-None-clause-walked c =
    let s : SolverForm = c.args.self.now in
    let sound : IsSound s = subst (λ (t : SolverForm). IsSound t) c.self.view_is c.self.invariant.sound in
    let lit : Lit = c.index-lit.result.now in
    let is : lit ≡ true_lit c.requires.marked.0 c.requires.marked.1 = marked_lit s c.args.marking.now.marks.items c.args.place lit sound c.requires.marked
    (read_place s c.self.inside.trail.items c.args.place lit (ap (λ (t : SolverForm). t.trail) c.self.view_is) c.requires.within c.index-lit.ensures) in
    let stands : Stands s c.args.place c.requires.marked.0 c.requires.marked.1 = record { is = c.requires.marked.2; there = c.requires.marked.3 } in
    let stops : StopsAt s c.args.stop c.args.marking.now.marks.items c.requires.marked.1 =
    subst (λ (ms : List Bool). StopsAt s c.args.stop ms c.requires.marked.1) c.as_slice.ensures.value (c.in-None.ensures c.requires.marked.0 c.requires.marked.1 c.requires.marked.2 c.requires.marked.3) in
    let pushed : c.push.new.self.items ≡ c.args.walk.now.lits.items ++ opposite (true_lit c.requires.marked.0 c.requires.marked.1) ∷ [] =
    c.in_ok-push-in-None.ensures.items ∙ ap (λ (l : Lit). c.args.walk.now.lits.items ++ l ∷ []) (c.negated.ensures ∙ ap opposite is) in
    subst (λ (xs : List Lit). IsWalked s c.args.stop c.args.place c.args.marking.now.marks.items xs c.args.walk.now.hints.items) (sym pushed)
    (visit_stops s c.args.stop c.args.place c.args.marking.now.marks.items c.args.walk.now.lits.items c.args.walk.now.hints.items c.requires.marked.0 c.requires.marked.1 sound stands c.requires.marked.4 stops c.requires.walked)

pub returns-in_ok-push-in-None-clause-searched : goal.returns-in_ok-push-in-None-clause-searched
returns-in_ok-push-in-None-clause-searched c =
    let s : SolverForm = c.args.self.now in
    let sound : IsSound s = subst (λ (t : SolverForm). IsSound t) c.self.view_is c.self.invariant.sound in
    let lit : Lit = c.index-lit.result.now in
    let is : lit ≡ true_lit c.requires.marked.0 c.requires.marked.1 = marked_lit s c.args.marking.now.marks.items c.args.place lit sound c.requires.marked
    (read_place s c.self.inside.trail.items c.args.place lit (ap (λ (t : SolverForm). t.trail) c.self.view_is) c.requires.within c.index-lit.ensures) in
    let stands : Stands s c.args.place c.requires.marked.0 c.requires.marked.1 = record { is = c.requires.marked.2; there = c.requires.marked.3 } in
    let pushed : c.push.new.self.items ≡ c.args.walk.now.lits.items ++ opposite (true_lit c.requires.marked.0 c.requires.marked.1) ∷ [] =
    c.in_ok-push-in-None.ensures.items ∙ ap (λ (l : Lit). c.args.walk.now.lits.items ++ l ∷ []) (c.negated.ensures ∙ ap opposite is) in
    λ first conflict searched. subst (λ (xs : List Lit). IsSearched s conflict c.args.place c.args.marking.now.marks.items xs) (sym pushed)
    (searched_stops s conflict c.args.place c.args.marking.now.marks.items c.args.walk.now.lits.items c.requires.marked.0 c.requires.marked.1 sound stands searched)

pub returns-in_ok-mark_all-in-Some-clause-walked : goal.returns-in_ok-mark_all-in-Some-clause-walked
returns-in_ok-mark_all-in-Some-clause-walked c =
    let s : SolverForm = c.args.self.now in
    let sound : IsSound s = subst (λ (t : SolverForm). IsSound t) c.self.view_is c.self.invariant.sound in
    let f : IsFollowing s c.args.stop c.args.marking.now.marks.items c.args.place c.in-Some.number = following s c.args.stop c.args.marking.now.marks.items c.args.place c.in-Some.number sound c.requires.marked
    (subst (λ (ms : List Bool). FollowsReason s c.args.stop ms c.args.place c.in-Some.number) c.as_slice.ensures.value c.in-Some.ensures) in
    let clause : c.lits-lits.result.now ≡ clause_at s.clauses c.in-Some.number = c.lits-lits.ensures.lits ∙ ap (λ (t : SolverForm). clause_at t.clauses c.in-Some.number) c.self.view_is in
    let more : Marks c.args.marking.now.marks.items c.mark_all.new.marking.marks.items (clause_at s.clauses c.in-Some.number) =
    subst (λ (xs : List Lit). Marks c.args.marking.now.marks.items c.mark_all.new.marking.marks.items xs) clause c.in_ok-mark_all-in-Some.ensures.marked in
    subst (λ (ns : List ℕ). IsWalked s c.args.stop c.args.place c.mark_all.new.marking.marks.items c.args.walk.now.lits.items ns) (sym c.in_ok-push-in-Some.ensures.items)
    (visit_follows s c.args.stop c.args.place c.args.marking.now.marks.items c.mark_all.new.marking.marks.items c.args.walk.now.lits.items c.args.walk.now.hints.items f.variable f.value c.in-Some.number
    sound f.stands f.marked f.reason f.goes c.requires.present more c.requires.walked)

pub returns-in_ok-mark_all-in-Some-clause-queued : goal.returns-in_ok-mark_all-in-Some-clause-queued
returns-in_ok-mark_all-in-Some-clause-queued c =
    let s : SolverForm = c.args.self.now in
    let sound : IsSound s = subst (λ (t : SolverForm). IsSound t) c.self.view_is c.self.invariant.sound in
    let f : IsFollowing s c.args.stop c.args.marking.now.marks.items c.args.place c.in-Some.number = following s c.args.stop c.args.marking.now.marks.items c.args.place c.in-Some.number sound c.requires.marked
    (subst (λ (ms : List Bool). FollowsReason s c.args.stop ms c.args.place c.in-Some.number) c.as_slice.ensures.value c.in-Some.ensures) in
    let clause : c.lits-lits.result.now ≡ clause_at s.clauses c.in-Some.number = c.lits-lits.ensures.lits ∙ ap (λ (t : SolverForm). clause_at t.clauses c.in-Some.number) c.self.view_is in
    c.in_ok-mark_all-in-Some.ensures.queued c.args.place (subst (λ (xs : List Lit). Each (IsMarkedOrBefore s c.args.place c.args.marking.now.marks.items) xs) (sym clause) f.before) c.requires.queued

pub returns-in_ok-mark_all-in-Some-clause-searched : goal.returns-in_ok-mark_all-in-Some-clause-searched
returns-in_ok-mark_all-in-Some-clause-searched c =
    let s : SolverForm = c.args.self.now in
    let sound : IsSound s = subst (λ (t : SolverForm). IsSound t) c.self.view_is c.self.invariant.sound in
    let f : IsFollowing s c.args.stop c.args.marking.now.marks.items c.args.place c.in-Some.number = following s c.args.stop c.args.marking.now.marks.items c.args.place c.in-Some.number sound c.requires.marked
    (subst (λ (ms : List Bool). FollowsReason s c.args.stop ms c.args.place c.in-Some.number) c.as_slice.ensures.value c.in-Some.ensures) in
    let clause : c.lits-lits.result.now ≡ clause_at s.clauses c.in-Some.number = c.lits-lits.ensures.lits ∙ ap (λ (t : SolverForm). clause_at t.clauses c.in-Some.number) c.self.view_is in
    let more : Marks c.args.marking.now.marks.items c.mark_all.new.marking.marks.items (clause_at s.clauses c.in-Some.number) =
    subst (λ (xs : List Lit). Marks c.args.marking.now.marks.items c.mark_all.new.marking.marks.items xs) clause c.in_ok-mark_all-in-Some.ensures.marked in
    λ first conflict searched. searched_follows s conflict c.args.place c.args.marking.now.marks.items c.mark_all.new.marking.marks.items c.args.walk.now.lits.items f.variable f.value c.in-Some.number sound f.stands f.marked f.reason
    (subst (λ (t : Stop). GoesOn s t c.args.marking.now.marks.items f.value) first f.goes) (c.requires.present first) more searched

pub returns-in_ok-mark_all-in-Some-clause-lowest : goal.returns-in_ok-mark_all-in-Some-clause-lowest
returns-in_ok-mark_all-in-Some-clause-lowest c = lowest_marked c.args.self.now c.args.marking.now.marks.items c.mark_all.new.marking.marks.items c.lits-lits.result.now c.args.walk.now.lowest c.lowest_of-walk.result c.in_ok-mark_all-in-Some.ensures.marked c.requires.lowest c.lowest_of-walk.ensures
