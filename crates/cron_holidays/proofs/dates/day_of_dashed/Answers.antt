use Rattle.std.proofs.Common.{◌≡◌, ℕ, sym, subst}
use Rattle.std.specs.Prelude.{Result, Ok, Err, MatchResult}
use Rattle.cron_holidays.proofs.ListLemmas.{dashed}
use Rattle.cron_holidays.specs.declared.fault.Reason.{Reason}
use Rattle.cron_holidays.proofs.dates.day_of_dashed.Goals as goal

pub returns : goal.returns
returns c =
    let text = c.args.text.now in
    let same = dashed c.args.end text c.if-text-ne10.false c.if-text-ne45.false c.if-text-ne45-2.false in
    subst (λ (r : Result ℕ Reason). MatchResult c.day_of_digits.result (λ day. r ≡ Ok day) (λ reason. r ≡ Err reason)) (sym same) c.day_of_digits.ensures
