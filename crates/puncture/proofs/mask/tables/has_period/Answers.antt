use Rattle.std.proofs.Common.{◌≡◌, sym, ap, ◌∙◌, rules}
use borrow.Author.Tests.{tests}
use Rattle.std.proofs.lemmas.Iterator.{YieldsList-from_slice}
use Rattle.std.proofs.lemmas.Iterator.Search.{all_from_yields_List}
use Rattle.std.proofs.lemmas.List.Folds.{list_all-map}
use Rattle.std.specs.List.{list_all}
use Rattle.puncture.proofs.mask.tables.has_period.Goals as goal
use Rattle.puncture.specs.Masks.{lent, sound_row, width}

pub returns-then-contains : goal.returns-then-contains
returns-then-contains c =
    let t = c.args.table.now in
    let n = c.width-columns.result in
    let rows : c.all.result ≡ list_all (sound_row (width (lent c.args.table))) (lent c.args.table) =
    all_from_yields_List (λ x. sound_row n x.now) _ _ c.all.result c.all.ensures.ran (YieldsList-from_slice t cc) (λ x b q k. search (rules, tests))
    ∙ sym (list_all-map (sound_row n) (λ x. x.now) t)
    ∙ ap (λ k. list_all (sound_row k) (lent c.args.table)) c.width-columns.ensures in
    search rules
