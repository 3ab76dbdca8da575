use Rattle.std.proofs.Common.{refl}
use Rattle.cron_text.specs.Fields.{plain, single}
use Rattle.cron_text.specs.Tokens.{number}
use Rattle.cron_text.proofs.PlainItems.{item_alone, item_range}
use Rattle.cron_text.proofs.plain.numbers_at.Goals as goal

pub returns-in-Some : goal.returns-in-Some
returns-in-Some c = λ u.
    let text = c.args.text.now in
    let first = item_alone u text c.args.at (number c.in_ok-first.first) c.in_ok-first.end (plain (single c.in_ok-first.first)) c.in_ok-first.ensures refl in
    c.item_of.ensures u c.args.at (item_range u text c.args.at c.in_ok-first.end c.in-Some.end c.in_ok-first.first c.in-Some.last first c.in-Some.ensures)

pub returns-in-None : goal.returns-in-None
returns-in-None c = λ u.
    let text = c.args.text.now in
    let first = item_alone u text c.args.at (number c.in_ok-first.first) c.in_ok-first.end (plain (single c.in_ok-first.first)) c.in_ok-first.ensures refl in
    c.item_of-in-None.ensures u c.args.at first
