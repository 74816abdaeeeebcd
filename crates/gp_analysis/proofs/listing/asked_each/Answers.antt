use Rattle.gp_analysis.proofs.Asking.{next_lists, next_listed, all_listed}
use Rattle.gp_analysis.proofs.listing.asked_each.Goals as goal

pub asked_one-requires : goal.asked_one-requires
asked_one-requires g c =
    next_lists (g.Q.Question.form c.args.question.now) (g.Q.Question.lists c.args.question.now) (g.Q.Question.window_in c.args.encoded.now) c.args.subject.now
    c.args.asks c.in-Some.ask c.next.new.self c.loop-ask.left c.loop-ask.asked c.args.queries.now.items c.loop-ask.queries.items c.in-Some.ensures c.loop-ask.invariant

pub loop-ask-preserved : goal.loop-ask-preserved
loop-ask-preserved g c =
    next_listed (g.Q.Question.form c.args.question.now) (g.Q.Question.lists c.args.question.now) (g.Q.Question.window_in c.args.encoded.now) c.args.subject.now
    c.args.asks c.in-Some.ask c.next.new.self c.loop-ask.left c.loop-ask.asked c.push.new.self c.args.queries.now.items c.loop-ask.queries.items c.asked_one.new.queries.items
    c.in_ok-asked_one.field-0 c.in-Some.ensures c.loop-ask.invariant c.in_ok-asked_one.ensures.asked c.in_ok-push.ensures.ok c.in_ok-asked_one.ensures.queries

pub returns : goal.returns
returns g c =
    let all = all_listed (g.Q.Question.form c.args.question.now) (g.Q.Question.lists c.args.question.now) (g.Q.Question.window_in c.args.encoded.now) c.args.subject.now
    c.args.asks c.loop-ask.left c.loop-ask.asked c.args.queries.now.items c.loop-ask.queries.items c.in_default.ensures.0 c.loop-ask.invariant in
    record { asked = all.0; queries = all.1 }
