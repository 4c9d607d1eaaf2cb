use Rattle.signed.specs.RangeLaws.{back}
use Rattle.label_visit.specs.AskLaws.{rest-to, rest_from, asks-to, answered-served, answered, answered-at}
use Rattle.label_visit.proofs.ask.Goals as goal

pub returns-then-serves : goal.returns-then-serves
returns-then-serves c = let start = c in
    record { at_rest_2 = c.requires.at_rest; answered = answered-at (back c.args.p c.ranges.p) (answered-served c.requires.at_rest c.narrowed-e.ensures (c.too_high.ensures.no c.if-too_high.false) c.requires.ready.1 (c.serves.ensures c.if-serves.true)) }

pub question-requires : goal.question-requires
question-requires c = let start = c in
    let narrowed = c.narrowed-e in
    record { at_rest = rest-to narrowed.ensures c.requires.at_rest; asks = asks-to narrowed.ensures c.requires.ready.0 c.requires.ready.1 }

pub returns : goal.returns
returns c = let start = c in
    let narrowed = c.narrowed-e in
    let question = c.question in
    record { at_rest_2 = rest_from narrowed.ensures c.requires.at_rest question.ensures.rest; answered = answered-at (back c.args.p c.ranges.p) (answered narrowed.ensures (c.too_high.ensures.no c.if-too_high.false) question.ensures.answer) }
