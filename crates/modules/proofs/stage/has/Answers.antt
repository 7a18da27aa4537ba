-- `has` meets its contract.
use mathlib.Core.Path.{sym}
use borrow.Author.Rules.{rules}
use Rattle.basics.proofs.BitLaws.{bit_past}
use Rattle.modules.proofs.stage.has.Goals as goal

pub returns-else-i-lt8 : goal.returns-else-i-lt8
returns-else-i-lt8 c = sym (bit_past 8 c.args.mask _ (search rules) c.if-i-lt8.false)
