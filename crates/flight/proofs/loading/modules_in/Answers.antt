-- `flight::loading::modules_in` meets its contract: each module is what stands at its place.
use Rattle.flight.proofs.LoadingLaws.{modules_made}
use borrow.Author.Rules.{rules}
use Rattle.flight.proofs.loading.modules_in.Goals as goal

pub returns : goal.returns
returns c = modules_made c.args.image.now _ _ (λ i m f k. search rules) _ c.from_fn.ensures.items
