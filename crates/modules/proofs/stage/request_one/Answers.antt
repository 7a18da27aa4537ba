-- `request_one` meets its contract.
use mathlib.Core.Path.{◌≡◌}
use native.Mathlib.Omega.{arith}
use lib.ListN.{length}
use Rattle.basics.proofs.EachLaws.{length_mapped}
use Rattle.modules.proofs.StageLaws.{no_module, request_past}
use borrow.Author.Rules.{rules}
use Rattle.modules.proofs.stage.request_one.Goals as goal

pub returns-else-which-lt8 : goal.returns-else-which-lt8
returns-else-which-lt8 c =
    let eight : length c.args.modules ≡ 8 = search (rules, length_mapped) in
    request_past c.args.which c.args.on c.args.modules no_module (omega arith)
