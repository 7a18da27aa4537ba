-- `books::numbers::none_above` meets its contract: each number is tested.
use Rattle.std.proofs.Common.{rules, tests, leb}
use Rattle.std.proofs.lemmas.Iterator.{YieldsList-from_slice}
use Rattle.std.proofs.lemmas.Iterator.Search.{all_from_yields_List}
use Rattle.books.specs.Books.{most_seconds, none_above}
use Rattle.books.proofs.numbers.none_above.Goals as goal

pub returns : goal.returns
unfolding none_above
returns c =
    all_from_yields_List (λ n. leb n most_seconds) _ _ _ c.all.ensures.ran (YieldsList-from_slice c.args.books.now cc)
    (λ x b q k. search (rules, tests))
