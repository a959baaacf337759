-- `span` meets its contract: the digits that are taken, counted. Assumes nothing.
use Rattle.std.proofs.Common.{rules, tests, ◌∙◌}
use Rattle.std.specs.Char.{is_ascii_digit}
use Rattle.std.proofs.lemmas.Iterator.{YieldsList-from_slice}
use Rattle.std.proofs.lemmas.Iterator.Consumers.{count_from_yields_List}
use Rattle.std.proofs.lemmas.Iterator.Search.{YieldsList-from_take_while}
use Rattle.text.proofs.Digits.{span_is}
use Rattle.text.proofs.decimal.span.Goals as goal

pub returns : goal.returns
returns c =
    let xs = c.args.s.now in
    let t = c.take_while.ensures in
    count_from_yields_List c.take_while.result c.count.result c.count.ensures.ran
    (YieldsList-from_take_while _ is_ascii_digit (YieldsList-from_slice xs cc) t.closure t.done (λ x b q k. search (rules, tests)))
    ∙ span_is xs
