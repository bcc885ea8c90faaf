use Rattle.std.proofs.Common.{◌&&◌, sym, ap, ◌∙◌, rules}
use borrow.Author.Tests.{tests}
use Rattle.std.proofs.lemmas.Iterator.{YieldsList-from_slice}
use Rattle.std.proofs.lemmas.Iterator.Search.{all_from_yields_List}
use Rattle.std.proofs.lemmas.Bool.{eq-eqb}
use Rattle.std.specs.List.{list_all}
use Rattle.puncture.proofs.mask.tables.is_row_of.Goals as goal
use Rattle.puncture.specs.Masks.{is_bit}

pub returns-then-row-columns : goal.returns-then-row-columns
returns-then-row-columns c =
    let row = c.args.row.now in
    all_from_yields_List is_bit _ _ c.all.result c.all.ensures.ran (YieldsList-from_slice row cc) (λ x b q k. search (rules, tests))
    ∙ ap (λ b. b && list_all is_bit row) (sym (eq-eqb _ _ c.if-row-columns.true))
