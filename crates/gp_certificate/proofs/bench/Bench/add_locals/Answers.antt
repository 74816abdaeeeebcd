use Rattle.std.proofs.Common.{rules, ◌≡◌, ℕ, ◌+◌, ◌≤◌, List, length, take, ap, sym, ◌∙◌, arith}
use Rattle.std.proofs.lemmas.List.{length-take}
use Rattle.gp_clause.specs.declared.kind.Kind.{Kind}
use Rattle.gp_certificate.specs.Bench.{BenchForm, stack_of}
use Rattle.gp_certificate.proofs.Levelling.{stack_none}
use Rattle.gp_certificate.proofs.Readying.{ready_widened, ready_extended}
use Rattle.gp_certificate.proofs.bench.Bench.add_locals.Goals as goal

-- no kinds but the lasting ones
bare : (lasting : ℕ) (kinds : List Kind) → kinds ≡ take lasting kinds → length kinds ≤ lasting
bare lasting kinds is = omega (arith, ap (λ (ks : List Kind). length ks) is, length-take lasting kinds)

pub make_room-requires-clause-none : goal.make_room-requires-clause-none
make_room-requires-clause-none c =
    let b = c.self.inside in
    (stack_none b.places.edges b.kinds.items b.loaded.clauses (stack_of b) c.self.invariant.stack (ap (λ (v : BenchForm). v.assumed) c.self.view_is ∙ c.requires.nothing)).trail

pub make_room-requires-clause-bare : goal.make_room-requires-clause-bare
make_room-requires-clause-bare c =
    let b = c.self.inside in
    (stack_none b.places.edges b.kinds.items b.loaded.clauses (stack_of b) c.self.invariant.stack (ap (λ (v : BenchForm). v.assumed) c.self.view_is ∙ c.requires.nothing)).kept

pub invariant_of-self : goal.invariant_of-self
invariant_of-self c =
    let m = c.make_room.ensures in
    ready_widened c.self.inside c.make_room.new.assignment c.make_room.new.places c.make_room.new.loaded c.make_room.new.assumed c.make_room.new.levels c.self.invariant
    (ap (λ (v : BenchForm). v.assumed) c.self.view_is ∙ c.requires.nothing) m.assignment m.places m.loaded m.assumed m.levels

pub extend_kinds-requires-clause-none : goal.extend_kinds-requires-clause-none
extend_kinds-requires-clause-none c =
    let b = c.self.inside in
    c.make_room.ensures.assignment.trail
    ∙ (stack_none b.places.edges b.kinds.items b.loaded.clauses (stack_of b) c.self.invariant.stack (ap (λ (v : BenchForm). v.assumed) c.self.view_is ∙ c.requires.nothing)).trail

pub invariant_of-self-2 : goal.invariant_of-self-2
invariant_of-self-2 c =
    let b = c.self.inside in
    let m = c.make_room.ensures in
    let nothing = ap (λ (v : BenchForm). v.assumed) c.self.view_is ∙ c.requires.nothing in
    let lasting : length b.kinds.items ≤ b.lasting = bare b.lasting b.kinds.items (ap (λ (v : BenchForm). v.kinds) c.self.view_is ∙ c.requires.none ∙ ap (λ (v : BenchForm). v.lasting) (sym c.self.view_is)) in
    ready_extended b (b.lasting + length c.args.locals.now) c.extend_kinds.new.kinds c.make_room.new.assignment c.extend_kinds.new.assignment c.make_room.new.places c.make_room.new.loaded c.make_room.new.assumed c.make_room.new.levels
    c.self.invariant nothing c.extend_kinds.ensures.more (omega (arith, lasting, c.extend_kinds.ensures.few)) (c.extend_kinds.ensures.valid b.places.graph.points c.self.invariant.kinds (search rules))
    m.assignment c.extend_kinds.ensures.kept c.extend_kinds.ensures.none c.extend_kinds.ensures.cursor c.extend_kinds.ensures.size m.places m.loaded m.assumed m.levels c.in_ok-make_room.ensures.room
