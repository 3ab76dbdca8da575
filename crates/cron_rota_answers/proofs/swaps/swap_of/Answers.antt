use Rattle.std.proofs.Common.{ℕ, List, ap, ◌∙◌, sym}
use Rattle.jiff.specs.Words.{plain_zone}
use Rattle.cron_rota_answers.proofs.SwapLemmas.{swap_by}
use Rattle.cron_rota_answers.specs.Cells.{cells}
use Rattle.cron_rota_answers.specs.Lines.{columns_in, view}
use Rattle.cron_rota_answers.specs.People.{texts}
use Rattle.cron_rota_answers.specs.Swaps.{given}
use Rattle.cron_rota_answers.proofs.swaps.swap_of.Goals as goal

pub returns-in-Some : goal.returns-in-Some
returns-in-Some c =
    let (same, utf8) = c.in-Ok.ensures.cases in
    swap_by (given (texts c.args.names.now) (plain_zone c.args.zone.now) c.args.now.nanosecond) c.args.line.now (view c.in-Some.columns) c.swap_in.result
    (utf8, ap (λ (l : List ℕ). columns_in (cells 9 l)) (sym same) ∙ sym c.in-Some.ensures) c.swap_in.ensures
